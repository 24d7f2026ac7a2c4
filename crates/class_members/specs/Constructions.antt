-- The constructors of a class.
use Rattle.std.specs.Prelude.{ℕ, zero, suc, ◌==◌, Bool, true, false, not, ◌&&◌, ◌||◌, if◌then◌else◌, List, [], ◌∷◌, Option, Some, None, option_and_then, slice_get, length, codes}
use Rattle.std.specs.List.{list_any}
use Rattle.std.specs.Str.{bytes_eq}
use Rattle.dart_grammar.specs.declared.trees.Body.{Body}
use Rattle.dart_grammar.specs.declared.trees.Body.TheVariants as b
use Rattle.dart_grammar.specs.declared.declarations.Member.{Member}
use Rattle.dart_grammar.specs.declared.declarations.Member.TheVariants as m
use Rattle.dart_grammar.specs.declared.declarations.Class.{Class}
use Rattle.library_scopes.specs.Names.{is_among}
use Rattle.class_heads.specs.declared.nodes.ClassNode.{ClassNode}
use Rattle.class_heads.specs.Supertypes.{Classes}
use Rattle.class_heads.specs.Sources.{Sources, classes_in}
use Rattle.class_heads.specs.Bodies.{class_at}
use Rattle.class_members.specs.declared.members.Construction.{Construction}

-- ---- those that a body has

-- the constructors among members, where the first one is the k-th of the body of class c
abbrev pub written_from : ℕ → ℕ → List Member → List Construction
written_from c k [] = []
written_from c k (m.Constructor x ∷ xs) = record { class = c; member = Some k } ∷ written_from c (suc k) xs
written_from c k (x ∷ xs) = written_from c (suc k) xs

-- A class in which none is written has one without a name.
abbrev pub implicit : ℕ → Construction
implicit c = record { class = c; member = None }

-- Some classes of the prelude have no constructor unless one is written: those with a native member besides Object, and Null,
-- bool, num and Function.
abbrev pub is_native : Body → Bool
is_native (b.Native x) = true
is_native _ = false

abbrev pub is_native_member : Member → Bool
is_native_member (m.Function is_static x) = is_native x.body
is_native_member (m.Getter is_static x) = is_native x.body
is_native_member (m.Setter is_static x) = is_native x.body
is_native_member (m.Operator x) = is_native x.body
is_native_member (m.Constructor x) = is_native x.body
is_native_member _ = false

abbrev pub bare_names : List (List ℕ)
bare_names = codes "Null" ∷ codes "bool" ∷ codes "num" ∷ codes "Function" ∷ []

abbrev pub lacks_implicit : ℕ → Class → Bool
lacks_implicit file x =
    file == 0 && (is_among x.name.text bare_names || (list_any is_native_member x.members && not (bytes_eq x.name.text (codes "Object"))))

abbrev pub or_implicit : ℕ → List Construction → List Construction
or_implicit c [] = implicit c ∷ []
or_implicit c (x ∷ xs) = x ∷ xs

-- of class c, whose body this is, in the file of that number
abbrev pub body_constructions : ℕ → ℕ → Class → List Construction
body_constructions file c x = if lacks_implicit file x then written_from c 0 x.members else or_implicit c (written_from c 0 x.members)

-- ---- those that a class has

-- A class with a mixin has one for each of its superclass, so they are those of the first class from it upwards that has none.
abbrev pub base_of : (ℕ → Option ℕ) → ℕ → Option ℕ → Option ℕ → Option ℕ
base_of onward c superclass None = Some c
base_of onward c superclass (Some m) = option_and_then onward superclass

abbrev pub base_at : (ℕ → Option ℕ) → ℕ → Option ClassNode → Option ℕ
base_at onward c None = None
base_at onward c (Some x) = base_of onward c x.superclass x.mixin

abbrev pub base_to : ℕ → Classes → ℕ → Option ℕ
base_to zero cs c = None
base_to (suc n) cs c = base_at (base_to n cs) c (slice_get cs c)

-- Such a way has no class twice, so it is no longer than there are classes.
unfoldable pub base : Classes → ℕ → Option ℕ
base cs c = base_to (length cs) cs c

abbrev pub file_of : Option ClassNode → ℕ
file_of None = 0
file_of (Some x) = x.file

abbrev pub constructions_of : ℕ → ℕ → Option Class → List Construction
constructions_of file c None = []
constructions_of file c (Some x) = body_constructions file c x

-- those of a class without a mixin
abbrev pub constructions_at : Sources → ℕ → List Construction
constructions_at p c = constructions_of (file_of (slice_get (classes_in p) c)) c (class_at p c)

abbrev pub constructions_by : Sources → Option ℕ → List Construction
constructions_by p None = []
constructions_by p (Some c) = constructions_at p c

unfoldable pub constructions : Sources → ℕ → List Construction
constructions p c = constructions_by p (base (classes_in p) c)
