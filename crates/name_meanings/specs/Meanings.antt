-- What a name means at a place of an expression. The innermost level that has the name, or what takes a value for it, decides:
-- the scopes around, what the class around declares, its type parameters, the library, its imports, the prelude.
use Rattle.std.specs.Prelude.{ℕ, Bool, true, false, ◌||◌, if◌then◌else◌, List, ◌++◌, Option, Some, None, option_and_then, is_some, slice_get, codes}
use Rattle.std.specs.List.{list_any}
use Rattle.std.specs.Str.{bytes_eq}
use Rattle.dart_grammar.specs.declared.declarations.Class.{Class}
use Rattle.dart_sites.specs.declared.scopes.Found.{Found}
use Rattle.dart_sites.specs.declared.sites.Receiver.{Receiver}
use Rattle.dart_sites.specs.declared.sites.Receiver.TheVariants as r
use Rattle.dart_sites.specs.declared.surroundings.Owner.{Owner}
use Rattle.dart_sites.specs.declared.surroundings.Owner.TheVariants as o
use Rattle.dart_sites.specs.declared.surroundings.Surroundings.{Surroundings}
use Rattle.dart_sites.specs.Surroundings.{has_this}
use Rattle.dart_sites.specs.Scopes.{found}
use Rattle.library_scopes.specs.declared.named.Named.{Named}
use Rattle.library_scopes.specs.declared.named.Named.TheVariants as n
use Rattle.library_scopes.specs.declared.named.Side.{Side}
use Rattle.library_scopes.specs.declared.named.Side.TheVariants as side
use Rattle.library_scopes.specs.declared.libraries.Library.{Library}
use Rattle.library_scopes.specs.Lookups.{own, given_by, given_anyway, first, behind_in, library_of, deferred}
use Rattle.library_scopes.specs.Uses.{is_own, has_text}
use Rattle.class_heads.specs.Sources.{Sources, class_number}
use Rattle.class_heads.specs.Bodies.{class_of_name}
use Rattle.name_meanings.specs.declared.meaning.Meaning.{Meaning}
use Rattle.name_meanings.specs.declared.meaning.Meaning.TheVariants as m
use Rattle.name_meanings.specs.declared.meaning.NameMeaning.{NameMeaning}
use Rattle.name_meanings.specs.declared.meaning.NameMeaning.TheVariants as a
use Rattle.name_meanings.specs.declared.own.OwnMember.{OwnMember}
use Rattle.name_meanings.specs.Own.{own_member}

-- Where there is no `this`, it has no members.
abbrev pub of_this : Surroundings → Meaning
of_this s = if has_this s then m.OfObject else m.Nothing

abbrev pub named : Option Named → Meaning
named None = m.Nothing
named (Some x) = m.Named x

abbrev pub other : Side → Side
other side.Value = side.Setting
other side.Setting = side.Value

-- ---- a member of the class around

-- A static member without a body is not found.
abbrev pub static_meaning : OwnMember → Meaning
static_meaning x = if x.lacks_body then m.Nothing else m.Static x.number

abbrev pub member_meaning : Surroundings → OwnMember → Meaning
member_meaning s x = if x.is_static then static_meaning x else of_this s

-- Where the class has the other side alone, an object may have what it lacks.
abbrev pub other_meaning : Surroundings → OwnMember → Meaning
other_meaning s x = if x.is_static then m.Nothing else of_this s

-- none where the class has neither side
abbrev pub in_class : Surroundings → Option OwnMember → Option OwnMember → Option Meaning
in_class s (Some x) on_other = Some (member_meaning s x)
in_class s None (Some x) = Some (other_meaning s x)
in_class s None None = None

abbrev pub of_class : Sources → ℕ → Surroundings → Side → List ℕ → Option ℕ → Option Meaning
of_class p n s on x None = None
of_class p n s on x (Some c) = in_class s (own_member p n c on x) (own_member p n c (other on) x)

-- ---- the library, its imports without a prefix, and the prelude

abbrev pub by_imports : Sources → Side → List ℕ → Library → List Named
by_imports p on x library = given_by false p.scopes on x None library.imports

abbrev pub by_prelude : Sources → Side → List ℕ → Library → List Named
by_prelude p on x library = given_by true p.scopes on x None library.imports ++ given_anyway p.scopes on x None

-- They have the name where they give something under it on either side.
abbrev pub give_any : Side → (Side → List Named) → Bool
give_any on given = is_some (first (given on)) || is_some (first (given (other on)))

-- A name that is found nowhere is one of `this`.
abbrev pub in_library : Sources → Surroundings → Side → List ℕ → Library → Meaning
in_library p s on x library =
    if is_own x library then named (own on x library)
    else if give_any on (λ y. by_imports p y x library) then named (first (by_imports p on x library))
    else if give_any on (λ y. by_prelude p y x library) then named (first (by_prelude p on x library))
    else of_this s

abbrev pub in_some_library : Sources → Surroundings → Side → List ℕ → Option Library → Meaning
in_some_library p s on x None = m.Nothing
in_some_library p s on x (Some library) = in_library p s on x library

-- in file n
unfoldable pub of_library : Sources → ℕ → Surroundings → Side → List ℕ → Meaning
of_library p n s on x = in_some_library p s on x (slice_get p.scopes.libraries n)

-- ---- a name alone

abbrev pub is_type_parameter : List ℕ → Class → Bool
is_type_parameter x c = list_any (has_text x) c.type_parameters

abbrev pub behind_members : Sources → ℕ → Surroundings → Side → List ℕ → Class → Option Meaning → Meaning
behind_members p n s on x c (Some means) = means
behind_members p n s on x c None = if is_type_parameter x c then m.TypeParameter else of_library p n s on x

abbrev pub of_owner : Sources → ℕ → Surroundings → Side → List ℕ → Option Owner → Meaning
of_owner p n s on x (Some (o.Class c)) = behind_members p n s on x c (of_class p n s on x (class_of_name p n c.name.text))
of_owner p n s on x _ = of_library p n s on x

abbrev pub of_scopes : Sources → ℕ → Surroundings → Side → List ℕ → Option Found → NameMeaning
of_scopes p n s on x (Some l) = a.Local l
of_scopes p n s on x None = a.Beyond (of_owner p n s on x s.class)

unfoldable pub meaning : Sources → ℕ → Surroundings → Side → List ℕ → NameMeaning
meaning p n s on x = of_scopes p n s on x (found x s.scopes)

-- ---- a name behind a dot

-- behind a prefix
abbrev pub behind_on : Sources → ℕ → Side → List ℕ → Option Named
behind_on p k on x = option_and_then (behind_in p.scopes k on x) (library_of p.scopes k)

-- A class or a prefix, from which names are selected that are no object's.
abbrev pub only_space : Option Named → Option Named
only_space (Some (n.Class k)) = Some (n.Class k)
only_space (Some (n.Prefix k)) = Some (n.Prefix k)
only_space _ = None

abbrev pub named_by : NameMeaning → Option Named
named_by (a.Beyond (m.Named x)) = Some x
named_by _ = None

abbrev pub space_behind : Sources → Option Named → List ℕ → Option Named
space_behind p (Some (n.Prefix k)) x = only_space (behind_on p k side.Value x)
space_behind p _ x = None

-- what stands before the dot, where it is a class or a prefix
unfoldable pub space : Sources → ℕ → Surroundings → Receiver → Option Named
space p n s (r.Named y) = only_space (named_by (meaning p n s side.Value y.text))
space p n s (r.Dotted y z) = space_behind p (named_by (meaning p n s side.Value y.text)) z.text
space p n s _ = None

abbrev pub static_of : Option OwnMember → Meaning
static_of None = m.Nothing
static_of (Some x) = if x.is_static then static_meaning x else m.Nothing

abbrev pub is_load_library : Side → List ℕ → Bool
is_load_library side.Value x = bytes_eq x (codes "loadLibrary")
is_load_library side.Setting x = false

-- Behind a deferred prefix `loadLibrary` is no name of the library that is imported.
abbrev pub behind_prefix : Sources → Side → List ℕ → ℕ → Option ℕ → Meaning
behind_prefix p on x k None = named (behind_on p k on x)
behind_prefix p on x k (Some import) = if is_load_library on x then m.Load import else named (behind_on p k on x)

abbrev pub in_class_named : Sources → ℕ → Side → List ℕ → Option ℕ → Meaning
in_class_named p n on x None = m.Nothing
in_class_named p n on x (Some c) = static_of (own_member p n c on x)

abbrev pub selected_from : Sources → ℕ → Side → List ℕ → Option Named → Meaning
selected_from p i on x (Some (n.Prefix k)) = behind_prefix p on x k (deferred p.scopes k)
selected_from p i on x (Some (n.Class k)) = in_class_named p i on x (class_number p k)
selected_from p i on x _ = m.OfObject

unfoldable pub selected : Sources → ℕ → Surroundings → Receiver → Side → List ℕ → Meaning
selected p n s before on x = selected_from p n on x (space p n s before)
