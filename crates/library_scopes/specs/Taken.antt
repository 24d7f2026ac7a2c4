-- Names that are declared twice.
use Rattle.std.specs.Prelude.{ℕ, Bool, true, false, ◌&&◌, ◌||◌, if◌then◌else◌, List, [], ◌∷◌, ◌++◌, map, flat_map, Option, Some, None, codes}
use Rattle.dart_grammar.specs.declared.trees.Name.{Name}
use Rattle.dart_grammar.specs.declared.declarations.FileTree.{FileTree}
use Rattle.dart_grammar.specs.declared.declarations.Import.{Import}
use Rattle.dart_grammar.specs.declared.declarations.Class.{Class}
use Rattle.dart_grammar.specs.declared.declarations.Declaration.{Declaration}
use Rattle.dart_grammar.specs.declared.declarations.Declaration.TheVariants as d
use Rattle.dart_program.specs.Declares.{Declared, AClass, AnAlias, AFunction, AGetter, ASetter, AVariable, declared_in, declared_name, DeclaredMember, AMethod, AMemberGetter, AMemberSetter, AField, AnOperator, AConstructor, declared_in_class, member_name}
use Rattle.library_scopes.specs.declared.taken.Claimant.{Claimant}
use Rattle.library_scopes.specs.declared.taken.Claimant.TheVariants as c
use Rattle.library_scopes.specs.declared.taken.Taken.{Taken}
use Rattle.library_scopes.specs.Names.{is_among, with_one}

-- ---- claims

-- a name that something takes, and where it stands
pub record Claim : Type 0 where
  pub text : List ℕ
  pub at : ℕ
  pub by_what : Claimant

-- A getter takes a name where it is read, a setter where it is set, and all but constructors where it is either. So a getter
-- and a setter alone may share a name, and constructors have names of their own.
abbrev pub is_read : Claimant → Bool
is_read c.Getter = true
is_read c.Other = true
is_read _ = false

abbrev pub is_set : Claimant → Bool
is_set c.Setter = true
is_set c.Other = true
is_set _ = false

abbrev pub is_made : Claimant → Bool
is_made c.Constructor = true
is_made _ = false

abbrev pub is_taken : Taken → List ℕ → Claimant → Bool
is_taken taken x by_what = (is_read by_what && is_among x taken.reads) || (is_set by_what && is_among x taken.sets) || (is_made by_what && is_among x taken.makes)

abbrev pub with_if : Bool → List ℕ → List (List ℕ) → List (List ℕ)
with_if flag x names = if flag then with_one x names else names

abbrev pub with_taken : Taken → List ℕ → Claimant → Taken
with_taken taken x by_what = record {
  reads = with_if (is_read by_what) x taken.reads;
  sets = with_if (is_set by_what) x taken.sets;
  makes = with_if (is_made by_what) x taken.makes;
}

abbrev pub with_claim : Taken → Claim → Taken
with_claim taken x = with_taken taken x.text x.by_what

abbrev pub with_claims : Taken → List Claim → Taken
with_claims taken [] = taken
with_claims taken (x ∷ xs) = with_claims (with_claim taken x) xs

abbrev pub none_taken : Taken
none_taken = record { reads = []; sets = []; makes = [] }

abbrev pub place_if : Bool → ℕ → List ℕ
place_if flag at = if flag then at ∷ [] else []

-- Of claims one after another, the places of those whose name is taken by then.
abbrev pub doubles : Taken → List Claim → List ℕ
doubles taken [] = []
doubles taken (x ∷ xs) = place_if (is_taken taken x.text x.by_what) x.at ++ doubles (with_claim taken x) xs

-- ---- libraries

abbrev pub claim : Name → Claimant → Claim
claim x by_what = record { text = x.text; at = x.span.from; by_what = by_what }

abbrev pub claimant : Declared → Claimant
claimant (AGetter x) = c.Getter
claimant (ASetter x) = c.Setter
claimant _ = c.Other

abbrev pub declared_claim : Declared → Claim
declared_claim x = claim (declared_name x) (claimant x)

-- Prefixes take their names before all declarations, each once.
abbrev pub prefix_claim : Option Name → List Claim
prefix_claim None = []
prefix_claim (Some x) = claim x c.Other ∷ []

abbrev pub prefix_claims : Import → List Claim
prefix_claims i = prefix_claim i.prefix

abbrev pub library_doubles : FileTree → List ℕ
library_doubles file = doubles (with_claims none_taken (flat_map prefix_claims file.imports)) (map declared_claim (declared_in file))

-- ---- classes

abbrev pub member_claimant : DeclaredMember → Claimant
member_claimant (AMemberGetter is_static x) = c.Getter
member_claimant (AMemberSetter is_static x) = c.Setter
member_claimant (AConstructor x) = c.Constructor
member_claimant _ = c.Other

-- names with dots between
abbrev pub behind_dots : List Name → List ℕ
behind_dots [] = []
behind_dots (x ∷ xs) = codes "." ++ x.text ++ behind_dots xs

abbrev pub dotted_text : List Name → List ℕ
dotted_text [] = []
dotted_text (x ∷ xs) = x.text ++ behind_dots xs

-- A constructor is told by all of its names, and stands where its last one does.
abbrev pub member_text : Name → DeclaredMember → List ℕ
member_text class (AConstructor x) = dotted_text x.names
member_text class x = (member_name class x).text

abbrev pub member_claim : Name → DeclaredMember → Claim
member_claim class x = record { text = member_text class x; at = (member_name class x).span.from; by_what = member_claimant x }

abbrev pub class_doubles : Class → List ℕ
class_doubles class = doubles none_taken (map (member_claim class.name) (declared_in_class class))

abbrev pub doubles_inside : Declaration → List ℕ
doubles_inside (d.Class class) = class_doubles class
doubles_inside _ = []

-- The places where a library or a class declares a name twice, or a declaration has the name of a prefix.
unfoldable pub double_places : FileTree → List ℕ
double_places file = library_doubles file ++ flat_map doubles_inside file.declarations
