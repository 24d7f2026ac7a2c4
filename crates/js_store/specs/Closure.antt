-- A function: its tree, the scopes around the place where it was made, the innermost first, and the number of its file.
use Rattle.std.specs.Prelude.{ℕ, List}
use Rattle.js_tree.specs.declared.tree.JsFunction.{JsFunction}

-- Addresses of scopes. Around the last of them is the top scope.
abbrev pub Env : Type 0
Env = List ℕ

pub record Closure : Type 0 where
  pub function : JsFunction
  pub around : Env
  pub file : ℕ
