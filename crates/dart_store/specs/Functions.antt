-- What function values hold. Their table stands beside the store, since it is all in which the meaning of Dart and that of
-- the kernel differ: C is what each takes for the code of a literal, with the addresses of what is in scope there.
use Rattle.std.specs.Prelude.{ℕ, List, [], ◌∷◌, ◌++◌, Option, slice_get}
use Rattle.dart_store.specs.declared.functions.Function.{Function}

abbrev pub with_function : {C : Type 0} → List (Function C) → Function C → List (Function C)
with_function functions made = functions ++ made ∷ []
