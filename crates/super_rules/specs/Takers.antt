-- Which constructors take a call.
use Rattle.std.specs.Prelude.{ℕ, ◌==◌, Bool, true, false, not, ◌&&◌, ◌||◌, if◌then◌else◌, nat_le, List, [], ◌∷◌, length, slice_get, Option, Some, None, option_and_then}
use Rattle.std.specs.List.{list_any}
use Rattle.std.specs.Str.{bytes_eq}
use Rattle.dart_grammar.specs.declared.declarations.Class.{Class}
use Rattle.dart_grammar.specs.declared.declarations.Constructor.{Constructor}
use Rattle.dart_grammar.specs.declared.declarations.Member.{Member}
use Rattle.dart_grammar.specs.declared.declarations.Member.TheVariants as m
use Rattle.dart_program.specs.Declares.{parameter_count}
use Rattle.library_scopes.specs.Lookups.{is_public}
use Rattle.class_heads.specs.declared.nodes.ClassNode.{ClassNode}
use Rattle.class_heads.specs.Bodies.{class_of_node}
use Rattle.class_heads.specs.Rules.{is_constructor}
use Rattle.class_heads.specs.Sources.{Sources, classes_in, written_in}
use Rattle.class_members.specs.Constructions.{base, lacks_implicit}
use Rattle.super_rules.specs.declared.calls.SuperCall.{SuperCall}
use Rattle.super_rules.specs.Calls.{name_text}

-- ---- a constructor, by its name and its parameters

abbrev pub constructor_name : Constructor → List ℕ
constructor_name f = name_text (slice_get f.names 1)

-- A body has one of each name at most; of several the first one counts.
abbrev pub first_named : List ℕ → List Member → Option Constructor
first_named name [] = None
first_named name (m.Constructor f ∷ xs) = if bytes_eq name (constructor_name f) then Some f else first_named name xs
first_named name (x ∷ xs) = first_named name xs

abbrev pub takes_count : ℕ → Option Constructor → Bool
takes_count count None = false
takes_count count (Some f) = nat_le (length f.parameters.required) count && nat_le count (parameter_count f.parameters)

-- ---- a class without a mixin, by its body in file n, for a call in file k

abbrev pub has_no_name : List ℕ → Bool
has_no_name [] = true
has_no_name (u ∷ us) = false

-- The one that it has though none is written takes no name and no argument.
abbrev pub implied_takes : ℕ → Class → SuperCall → Bool
implied_takes n c x = has_no_name x.name && ((x.count == 0) && not (lacks_implicit n c))

-- A name that begins with `_` is of its file alone.
abbrev pub is_seen : ℕ → ℕ → List ℕ → Bool
is_seen k n name = is_public name || (k == n)

abbrev pub body_takes : ℕ → ℕ → Class → SuperCall → Bool
body_takes k n c x = if list_any is_constructor c.members then is_seen k n x.name && takes_count x.count (first_named x.name c.members) else implied_takes n c x

-- ---- any class: one with a mixin has the constructors of the first class upwards that has none

-- a body, and the number of its file
pub record OwnBody : Type 0 where
  pub file : ℕ
  pub class : Class

abbrev pub in_file : ℕ → Option Class → Option OwnBody
in_file n None = None
in_file n (Some c) = Some (record { file = n; class = c })

abbrev pub own_body : Sources → ClassNode → Option OwnBody
own_body p x = in_file x.file (class_of_node (written_in p) x)

abbrev pub body_at : Sources → ℕ → Option OwnBody
body_at p c = option_and_then (own_body p) (slice_get (classes_in p) c)

unfoldable pub base_body : Sources → ℕ → Option OwnBody
base_body p c = option_and_then (body_at p) (base (classes_in p) c)

abbrev pub takes : ℕ → Option OwnBody → SuperCall → Bool
takes k None x = false
takes k (Some b) x = body_takes k b.file b.class x
