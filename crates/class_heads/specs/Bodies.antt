-- Classes by their numbers: how many there are, what each one's superclass is, and whose body it has.
use Rattle.std.specs.Prelude.{ℕ, List, length, Option, Some, None, option_and_then, slice_get}
use Rattle.dart_grammar.specs.declared.declarations.Class.{Class}
use Rattle.dart_sites.specs.declared.surroundings.Owner.{Owner}
use Rattle.dart_sites.specs.declared.surroundings.Owner.TheVariants as o
use Rattle.library_scopes.specs.Lookups.{lookup}
use Rattle.class_heads.specs.declared.nodes.ClassNode.{ClassNode}
use Rattle.class_heads.specs.declared.written.WrittenClass.{WrittenClass}
use Rattle.class_heads.specs.Heads.{class_named}
use Rattle.class_heads.specs.Sources.{Sources, classes_in, written_in, class_number}
use Rattle.class_heads.specs.Origins.{superclass_of, origin}

unfoldable pub class_count : Sources → ℕ
class_count p = length (classes_in p)

-- the class that file n declares under that name
abbrev pub class_of_name : Sources → ℕ → List ℕ → Option ℕ
class_of_name p n x = option_and_then (class_number p) (option_and_then class_named (lookup p.scopes n x))

unfoldable pub above : Sources → ℕ → Option ℕ
above p c = superclass_of (classes_in p) c

abbrev pub with_body : Owner → Option Class
with_body (o.Class x) = Some x
with_body (o.Alias x) = None

-- what is written of a class, where it has a name and a body
abbrev pub class_of_node : List WrittenClass → ClassNode → Option Class
class_of_node written x = option_and_then (λ w. with_body w.class) (option_and_then (slice_get written) x.written)

unfoldable pub class_at : Sources → ℕ → Option Class
class_at p c = option_and_then (class_of_node (written_in p)) (slice_get (classes_in p) c)

-- the class whose body this one has: that of its mixin, where it has one
unfoldable pub body_class : Sources → ℕ → Option Class
body_class p c = option_and_then (class_at p) (origin (classes_in p) c)
