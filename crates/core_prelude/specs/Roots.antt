-- What of the library every program holds.
use Rattle.std.specs.Prelude.{ℕ, List, [], ◌∷◌, codes}

-- what throws for the language's own rules, in the order of the text, and what ends a load
abbrev pub members : List (List ℕ)
members = codes "_argument" ∷ codes "_range" ∷ codes "_divide" ∷ codes "_noSuch" ∷ codes "_cast" ∷ codes "_cyclic" ∷ codes "_notLoaded" ∷ codes "_abstract" ∷ codes "_nullThrown" ∷ codes "_loaded" ∷ []

-- the classes of values that come from no `new`, in the order of the text, and those that the members above throw
abbrev pub classes : List (List ℕ)
classes = codes "Object" ∷ codes "Null" ∷ codes "bool" ∷ codes "int" ∷ codes "String" ∷ codes "List" ∷ codes "Map" ∷ codes "Function" ∷ codes "ArgumentError" ∷ codes "RangeError" ∷ codes "IntegerDivisionByZeroException" ∷ codes "NoSuchMethodError" ∷ codes "CastError" ∷ codes "CyclicInitializationError" ∷ codes "DeferredNotLoadedError" ∷ codes "AbstractClassInstantiationError" ∷ codes "NullThrownError" ∷ []
