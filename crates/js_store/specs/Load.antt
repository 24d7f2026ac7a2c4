-- A load that is asked for: the names of its files, what is called when it completes, and the file and the place of the
-- statement that asked.
use Rattle.std.specs.Prelude.{ℕ, List}
use Rattle.store_lists.specs.Text.{Text}
use Rattle.js_store.specs.declared.value.Value.{Value}

pub record Load : Type 0 where
  pub names : List Text
  pub done : Value
  pub file : ℕ
  pub at : ℕ
