-- Which names are looked up among what imports give.
use Rattle.std.specs.Prelude.{ℕ, Bool, true, false, not, ◌&&◌, ◌||◌, if◌then◌else◌, List, [], ◌∷◌, Option, Some, None, is_some, option_and_then, option_map, codes}
use Rattle.std.specs.List.{list_any}
use Rattle.std.specs.Option.{option_or}
use Rattle.std.specs.Str.{bytes_eq}
use Rattle.dart_grammar.specs.declared.trees.Name.{Name}
use Rattle.dart_grammar.specs.declared.declarations.Class.{Class}
use Rattle.dart_program.specs.Declares.{DeclaredMember, declared_in_class, is_constructor, member_name}
use Rattle.dart_sites.specs.declared.sites.Site.{Site}
use Rattle.dart_sites.specs.declared.sites.Site.TheVariants as x
use Rattle.dart_sites.specs.declared.sites.Receiver.{Receiver}
use Rattle.dart_sites.specs.declared.sites.Receiver.TheVariants as r
use Rattle.dart_sites.specs.declared.sites.Use.{Use}
use Rattle.dart_sites.specs.declared.sites.Use.TheVariants as u
use Rattle.dart_sites.specs.declared.surroundings.Owner.{Owner}
use Rattle.dart_sites.specs.declared.surroundings.Owner.TheVariants as o
use Rattle.dart_sites.specs.declared.surroundings.Within.{Within}
use Rattle.dart_sites.specs.declared.surroundings.Within.TheVariants as w
use Rattle.dart_sites.specs.declared.surroundings.Surroundings.{Surroundings}
use Rattle.dart_sites.specs.Scopes.{found}
use Rattle.library_scopes.specs.declared.named.Named.{Named}
use Rattle.library_scopes.specs.declared.libraries.Library.{Library}
use Rattle.library_scopes.specs.declared.named.Side.TheVariants as side
use Rattle.library_scopes.specs.Names.{meaning}
use Rattle.library_scopes.specs.Libraries.{number_of}
use Rattle.library_scopes.specs.Lookups.{own}

-- ---- what is nearer than the library

abbrev pub has_text : List ℕ → Name → Bool
has_text x y = bytes_eq x y.text

-- a member, but no constructor
abbrev pub is_member : List ℕ → Name → DeclaredMember → Bool
is_member x class y = not (is_constructor y) && has_text x (member_name class y)

abbrev pub class_has : List ℕ → Class → Bool
class_has x class = list_any (is_member x class.name) (declared_in_class class)

abbrev pub is_header : Within → Bool
is_header w.Header = true
is_header _ = false

-- In the header of a class its type parameters are in scope, and what it declares is not.
abbrev pub owner_has : Within → List ℕ → Owner → Bool
owner_has within x (o.Class c) = (not (is_header within) && class_has x c) || list_any (has_text x) c.type_parameters
owner_has within x (o.Alias a) = list_any (has_text x) a.type_parameters

abbrev pub class_around_has : Within → List ℕ → Option Owner → Bool
class_around_has within x None = false
class_around_has within x (Some owner) = owner_has within x owner

-- declared by a scope or by the class around, or one of its type parameters
abbrev pub is_nearer : List ℕ → Surroundings → Bool
is_nearer x s = is_some (found x s.scopes) || class_around_has s.within x s.class

-- The library has the name where it has something under it, or something that takes a value for it.
abbrev pub is_own : List ℕ → Library → Bool
is_own x library = is_some (own side.Value x library) || is_some (own side.Setting x library)

-- ---- names that are looked up among imports

-- a name behind a prefix or without one, and what is done with it
pub record Asked : Type 0 where
  pub prefix : Option ℕ
  pub name : Name
  pub how : Use

-- a name that stands alone
abbrev pub bare : Library → Surroundings → Name → Use → Option Asked
bare library s y how = if is_nearer y.text s || is_own y.text library then None else Some (record { prefix = None; name = y; how = how })

-- the prefix that a name stands for
abbrev pub prefix_at : Library → Surroundings → Name → Option ℕ
prefix_at library s p = if is_nearer p.text s then None else option_and_then number_of (own side.Value p.text library)

-- `p.y`
abbrev pub dotted : Library → Surroundings → Name → Name → Use → Option Asked
dotted library s p y how = option_map (λ n. record { prefix = Some n; name = y; how = how }) (prefix_at library s p)

-- names with dots between, which begin with a prefix or not
abbrev pub named : Library → Surroundings → List Name → Option Asked
named library s [] = None
named library s (y ∷ []) = bare library s y u.Read
named library s (y ∷ z ∷ rest) = option_or (dotted library s y z u.Read) (bare library s y u.Read)

-- In a type test `dynamic` is no name.
abbrev pub is_dynamic : List Name → Bool
is_dynamic (y ∷ []) = has_text (codes "dynamic") y
is_dynamic _ = false

abbrev pub behind_receiver : Library → Surroundings → Receiver → Name → Use → Option Asked
behind_receiver library s (r.Named p) y how = dotted library s p y how
behind_receiver library s _ y how = None

-- what a site looks up, if anything
unfoldable pub asked : Library → Surroundings → Site → Option Asked
asked library s (x.Named y how) = bare library s y how
asked library s (x.Selected receiver y how) = behind_receiver library s receiver y how
asked library s (x.Made at names count) = named library s names
asked library s (x.TypeTested names) = if is_dynamic names then None else named library s names
asked library s (x.Supertype kind names) = named library s names
asked library s _ = None
