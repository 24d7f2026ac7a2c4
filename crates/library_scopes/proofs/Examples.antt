-- The definitions on small libraries, computed.
use Rattle.std.proofs.Common.{◌≡◌, refl}
use Rattle.std.specs.Prelude.{ℕ, Bool, true, false, List, [], ◌∷◌, Option, Some, None, codes}
use Rattle.library_scopes.specs.declared.named.Named.{Named}
use Rattle.library_scopes.specs.declared.named.Named.TheVariants.{Class, Member, Prefix}
use Rattle.library_scopes.specs.declared.libraries.Imported.{Imported}
use Rattle.library_scopes.specs.declared.libraries.Library.{Library}
use Rattle.library_scopes.specs.declared.libraries.Selection.{Selection}
use Rattle.library_scopes.specs.declared.libraries.Scopes.{Scopes}
use Rattle.library_scopes.specs.declared.named.Side.TheVariants as side
use Rattle.library_scopes.specs.declared.taken.Claimant.{Claimant}
use Rattle.library_scopes.specs.declared.taken.Claimant.TheVariants as c
use Rattle.library_scopes.specs.Names.{with_one}
use Rattle.library_scopes.specs.Taken.{Claim, doubles, none_taken, with_claims}
use Rattle.library_scopes.specs.Rules.{is_ambiguous}
use Rattle.library_scopes.specs.Lookups.{lookup, behind, deferred, given, candidates}

-- File 0 declares the class C and the function print, file 1 nothing, file 2 the classes A and C and the variable _x, and
-- file 3 the class A and a setter of v.
abbrev pub prelude : Library
prelude = record { values = (codes "C", Class 0) ∷ (codes "print", Member 0) ∷ []; setters = []; prefixes = []; imports = [] }

abbrev pub two : Library
two = record { values = (codes "A", Class 1) ∷ (codes "C", Class 2) ∷ (codes "_x", Member 1) ∷ []; setters = (codes "_x", Member 1) ∷ []; prefixes = []; imports = [] }

abbrev pub three : Library
three = record { values = (codes "A", Class 3) ∷ []; setters = (codes "v", Member 2) ∷ []; prefixes = []; imports = [] }

abbrev pub entry : List Imported → Library
entry imports = record { values = []; setters = []; prefixes = (codes "p", Prefix 0) ∷ []; imports = imports }

abbrev pub program : List Imported → Scopes
program imports = record { libraries = prelude ∷ entry imports ∷ two ∷ three ∷ []; prefixes = record { library = 1; deferred = Some 0 } ∷ [] }

abbrev pub plain : ℕ → Imported
plain n = record { library = n; prefix = None; selections = [] }

abbrev pub behind_p : ℕ → Imported
behind_p n = record { library = n; prefix = Some 0; selections = [] }

abbrev pub selecting : Bool → ℕ → Imported
selecting hides n = record { library = n; prefix = None; selections = record { hides = hides; names = codes "A" ∷ codes "v" ∷ [] } ∷ [] }

-- the first import that gives a name
pub first_stands : lookup (program (plain 3 ∷ plain 2 ∷ [])) 1 (codes "A") ≡ Some (Class 3)
unfolding lookup candidates given
first_stands = refl

-- The prelude's C is hidden by what another import gives, also by a later one.
prelude_hidden : lookup (program (plain 0 ∷ plain 2 ∷ [])) 1 (codes "C") ≡ Some (Class 2)
unfolding lookup candidates given
prelude_hidden = refl

prelude_seen : lookup (program (plain 2 ∷ [])) 1 (codes "print") ≡ Some (Member 0)
unfolding lookup candidates given
prelude_seen = refl

-- `hide A, v` also hides what sets v, and `show A, v` shows it.
setter_hidden : lookup (program (selecting true 3 ∷ [])) 1 (codes "v=") ≡ None
unfolding lookup candidates given
setter_hidden = refl

setter_shown : lookup (program (selecting false 3 ∷ [])) 1 (codes "v=") ≡ Some (Member 2)
unfolding lookup candidates given
setter_shown = refl

-- There is no value v to be read.
setter_not_read : lookup (program (plain 3 ∷ [])) 1 (codes "v") ≡ None
unfolding lookup candidates given
setter_not_read = refl

private_kept : lookup (program (plain 2 ∷ [])) 1 (codes "_x") ≡ None
unfolding lookup candidates given
private_kept = refl

private_own : lookup (program (plain 2 ∷ [])) 2 (codes "_x=") ≡ Some (Member 1)
unfolding lookup candidates given
private_own = refl

-- Behind a prefix there are its imports alone.
behind_prefix : behind (program (behind_p 3 ∷ plain 2 ∷ [])) 0 (codes "A") ≡ Some (Class 3)
unfolding behind given candidates
behind_prefix = refl

not_behind_prefix : behind (program (behind_p 3 ∷ plain 2 ∷ [])) 0 (codes "print") ≡ None
unfolding behind given candidates
not_behind_prefix = refl

not_without_prefix : lookup (program (behind_p 3 ∷ [])) 1 (codes "A") ≡ None
unfolding lookup candidates given
not_without_prefix = refl

prefix_found : lookup (program (behind_p 3 ∷ [])) 1 (codes "p") ≡ Some (Prefix 0)
unfolding lookup candidates given
prefix_found = refl

prefix_deferred : deferred (program (behind_p 3 ∷ [])) 0 ≡ Some 0
unfolding deferred
prefix_deferred = refl

-- ---- two declarations

-- A comes from two libraries.
two_of_a : is_ambiguous (program (plain 2 ∷ plain 3 ∷ [])) (entry (plain 2 ∷ plain 3 ∷ [])) None (codes "A") side.Value ≡ true
unfolding candidates given
two_of_a = refl

-- the same library twice
one_of_a : is_ambiguous (program (plain 2 ∷ plain 2 ∷ [])) (entry (plain 2 ∷ plain 2 ∷ [])) None (codes "A") side.Value ≡ false
unfolding candidates given
one_of_a = refl

-- hidden in the second one
hidden_a : is_ambiguous (program (plain 2 ∷ selecting true 3 ∷ [])) (entry (plain 2 ∷ selecting true 3 ∷ [])) None (codes "A") side.Value ≡ false
unfolding candidates given
hidden_a = refl

-- The prelude's C is no second one.
one_of_c : is_ambiguous (program (plain 0 ∷ plain 2 ∷ [])) (entry (plain 0 ∷ plain 2 ∷ [])) None (codes "C") side.Value ≡ false
unfolding candidates given
one_of_c = refl

-- ---- names that are declared twice

abbrev pub taking : Claimant → ℕ → Claim
taking by_what at = record { text = codes "x"; at = at; by_what = by_what }

-- a getter and a setter
pair : doubles none_taken (taking c.Getter 3 ∷ taking c.Setter 9 ∷ []) ≡ []
unfolding with_one
pair = refl

-- a variable and a setter
variable_and_setter : doubles none_taken (taking c.Other 3 ∷ taking c.Setter 9 ∷ []) ≡ 9 ∷ []
unfolding with_one
variable_and_setter = refl

-- a second setter behind a pair, and a function behind it
third_and_fourth : doubles none_taken (taking c.Getter 3 ∷ taking c.Setter 9 ∷ taking c.Setter 15 ∷ taking c.Other 21 ∷ []) ≡ 15 ∷ 21 ∷ []
unfolding with_one
third_and_fourth = refl

-- a constructor and a member
constructor_apart : doubles none_taken (taking c.Constructor 3 ∷ taking c.Other 9 ∷ []) ≡ []
unfolding with_one
constructor_apart = refl

-- a prefix and a setter
prefix_taken : doubles (with_claims none_taken (taking c.Other 3 ∷ [])) (taking c.Setter 9 ∷ []) ≡ 9 ∷ []
unfolding with_one
prefix_taken = refl
