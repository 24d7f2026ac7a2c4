-- Names that are declared twice, claim by claim.
use Rattle.std.specs.Prelude.{ℕ, List, [], ◌∷◌, if◌then◌else◌}
use Rattle.dart_grammar.specs.declared.trees.Variable.{Variable}
use Rattle.dart_program.specs.Declares.{variable_name}
use Rattle.library_scopes.specs.declared.doubles.Doubling.{Doubling}
use Rattle.library_scopes.specs.declared.taken.Claimant.TheVariants as c
use Rattle.library_scopes.specs.Least.{lesser}
use Rattle.library_scopes.specs.Taken.{Claim, claim, is_taken, with_claim}

abbrev pub claimed : Doubling → Claim → Doubling
claimed s x = record { taken = with_claim s.taken x; first = if is_taken s.taken x.text x.by_what then lesser s.first x.at else s.first }

abbrev pub claimed_all : Doubling → List Claim → Doubling
claimed_all s [] = s
claimed_all s (x ∷ xs) = claimed_all (claimed s x) xs

abbrev pub variable_claim : Variable → Claim
variable_claim x = claim (variable_name x) c.Other
