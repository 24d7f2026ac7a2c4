-- A short note of each site, for the tests: a letter for what stands there, and a digit for what is around it.
use Rattle.std.specs.Prelude.{ℕ, ◌+◌, if◌then◌else◌, List, [], ◌∷◌}
use Rattle.dart_sites.specs.declared.sites.Site.{Site}
use Rattle.dart_sites.specs.declared.sites.Site.TheVariants as x
use Rattle.dart_sites.specs.declared.surroundings.Surroundings.{Surroundings}

abbrev pub letter : Site → ℕ
letter (x.Named y how) = 110
letter (x.Selected before y how) = 46
letter (x.Operated at method on_super) = 43
letter (x.Local y) = 118
letter (x.ParameterList at count) = 112
letter (x.FieldParameter at y) = 116
letter (x.Literal at count) = 108
letter (x.Break at) = 98
letter (x.Rethrow at) = 114
letter (x.ForIn at) = 105
letter (x.Function f) = 102
letter (x.Constructor f) = 99
letter (x.FieldInitialiser at y) = 61
letter (x.Class c) = 67
letter _ = 63

-- 1 in a loop, 2 in a clause, 4 in a function
abbrev pub digit : Surroundings → ℕ
digit s = 48 + (if s.in_loop then 1 else 0) + (if s.in_catch then 2 else 0) + (if s.in_function then 4 else 0)

abbrev pub note : Surroundings → Site → List ℕ
note s y = letter y ∷ digit s ∷ []
