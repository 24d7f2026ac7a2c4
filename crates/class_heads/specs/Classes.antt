-- All classes of a program, with those that have no name of their own. `S with M` in a head is a class: its superclass is
-- S, and it has the members of M. Those of a head stand from left to right before the class that is written; the last one
-- in the head of an alias is the alias itself.
use Rattle.std.specs.Prelude.{ℕ, ◌==◌, if◌then◌else◌, List, [], ◌∷◌, ◌++◌, length, Option, Some, None, codes}
use Rattle.std.specs.List.{filter_map}
use Rattle.dart_grammar.specs.declared.trees.Name.{Name}
use Rattle.dart_program.specs.declared.files.SourceFile.{SourceFile}
use Rattle.dart_sites.specs.declared.surroundings.Owner.{Owner}
use Rattle.dart_sites.specs.declared.surroundings.Owner.TheVariants as o
use Rattle.library_scopes.specs.declared.libraries.Scopes.{Scopes}
use Rattle.class_heads.specs.declared.nodes.ClassNode.{ClassNode}
use Rattle.class_heads.specs.declared.naming.Naming.{Naming}
use Rattle.class_heads.specs.declared.written.WrittenClass.{WrittenClass}
use Rattle.class_heads.specs.Written.{written, own_name, superclass_names, interface_names}
use Rattle.class_heads.specs.Heads.{naming, meant}

abbrev pub unless_itself : ℕ → Option ℕ → Option ℕ
unless_itself c None = None
unless_itself c (Some x) = if x == c then None else Some x

-- A class that names no superclass has Object, which alone has none. The first class of the head has number c.
abbrev pub first_superclass : Naming → WrittenClass → ℕ → Option (List Name) → Option ℕ
first_superclass h w c None = unless_itself c h.object
first_superclass h w c (Some names) = meant h w names

-- ---- names

-- that of the last one, or this where there is none
abbrev pub last_text : List ℕ → List Name → List ℕ
last_text text [] = text
last_text text (x ∷ xs) = last_text x.text xs

-- a class without a name is told by the one that is written and by its mixin
abbrev pub joined_name : Owner → List Name → List ℕ
joined_name x names = ((own_name x).text ++ codes "&") ++ last_text [] names

-- ---- the classes of one head, behind those that stand before it

-- a class without a name
abbrev pub nameless_class : Naming → WrittenClass → Option ℕ → List Name → ClassNode
nameless_class h w superclass names = record { name = joined_name w.class names; written = None; file = w.file; superclass = superclass; mixin = meant h w names; interfaces = [] }

-- the one that is written
abbrev pub named_class : Naming → WrittenClass → Option ℕ → Option ℕ → ClassNode
named_class h w superclass mixin = record { name = (own_name w.class).text; written = Some w.number; file = w.file; superclass = superclass; mixin = mixin; interfaces = filter_map (meant h w) (interface_names w.class) }

-- `class C extends S with M, N`
abbrev pub with_body : Naming → WrittenClass → List ClassNode → Option ℕ → List (List Name) → List ClassNode
with_body h w before superclass [] = before ++ named_class h w superclass None ∷ []
with_body h w before superclass (m ∷ ms) = with_body h w (before ++ nameless_class h w superclass m ∷ []) (Some (length before)) ms

-- `class C = S with M, N`
abbrev pub without_body : Naming → WrittenClass → List ClassNode → Option ℕ → List (List Name) → List ClassNode
without_body h w before superclass [] = before ++ named_class h w superclass None ∷ []
without_body h w before superclass (m ∷ []) = before ++ named_class h w superclass (meant h w m) ∷ []
without_body h w before superclass (m ∷ n ∷ ms) = without_body h w (before ++ nameless_class h w superclass m ∷ []) (Some (length before)) (n ∷ ms)

abbrev pub of_head : Naming → WrittenClass → List ClassNode → Owner → Option ℕ → List ClassNode
of_head h w before (o.Class x) superclass = with_body h w before superclass x.mixins
of_head h w before (o.Alias x) superclass = without_body h w before superclass x.mixins

abbrev pub with_head : Naming → List ClassNode → WrittenClass → List ClassNode
with_head h before w = of_head h w before w.class (first_superclass h w (length before) (superclass_names w.class))

-- ---- all of them

abbrev pub with_heads : Naming → List ClassNode → List WrittenClass → List ClassNode
with_heads h before [] = before
with_heads h before (w ∷ ws) = with_heads h (with_head h before w) ws

-- the classes by their numbers
unfoldable pub classes : List SourceFile → Scopes → List ClassNode
classes files scopes = with_heads (naming files scopes) [] (written files)
