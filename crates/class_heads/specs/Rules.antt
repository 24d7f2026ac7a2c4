-- The rules of classes: where each is broken.
use Rattle.std.specs.Prelude.{◌≡◌, ◌≢◌, ℕ, ◌<◌, ◌+◌, Bool, true, false, not, List, [], ◌∷◌, Some, None, Contains, slice_get, codes}
use Rattle.std.specs.List.{list_any}
use Rattle.dart_grammar.specs.declared.trees.Name.{Name}
use Rattle.dart_grammar.specs.declared.declarations.Class.{Class}
use Rattle.dart_grammar.specs.declared.declarations.Member.{Member}
use Rattle.dart_grammar.specs.declared.declarations.Member.TheVariants as m
use Rattle.dart_syntax.specs.declared.rules.Rule.{Rule}
use Rattle.dart_syntax.specs.declared.rules.Rule.TheVariants.{C1, C2, C3, C4, C5}
use Rattle.dart_sites.specs.declared.sites.Site.{Site}
use Rattle.dart_sites.specs.declared.sites.Site.TheVariants as x
use Rattle.dart_sites.specs.Files.{class_in}
use Rattle.library_scopes.specs.Names.{is_among}
use Rattle.class_heads.specs.declared.nodes.ClassNode.{ClassNode}
use Rattle.class_heads.specs.declared.written.WrittenClass.{WrittenClass}
use Rattle.class_heads.specs.Written.{own_name, mixin_names, supertypes, type_parameters, nameless, heads_from}
use Rattle.class_heads.specs.Heads.{is_behind_deferred, meant}
use Rattle.class_heads.specs.Sources.{Sources, classes_in, written_in, naming_in}
use Rattle.class_heads.specs.Supertypes.{IsAbove}
use Rattle.class_heads.specs.Origins.{superclass_of, superclasses, origin}
use Rattle.class_heads.specs.Bodies.{class_at, body_class}

-- the first token
abbrev pub start : List Name → ℕ
start [] = 0
start (x ∷ xs) = x.span.from

-- ---- what a class body has

abbrev pub is_constructor : Member → Bool
is_constructor (m.Constructor x) = true
is_constructor _ = false

abbrev pub is_instance_fields : Member → Bool
is_instance_fields (m.Fields is_static at xs) = not is_static
is_instance_fields _ = false

-- `super` in a body, in an initialiser, or before an operator
abbrev pub names_super : Site → Bool
names_super (x.Super at) = true
names_super (x.SuperInitialiser at name count is_last) = true
names_super (x.Operated at operator on_super) = on_super
names_super _ = false

abbrev pub constructs : Class → Bool
constructs x = list_any is_constructor x.members

abbrev pub holds_fields : Class → Bool
holds_fields x = list_any is_instance_fields x.members

abbrev pub asks_super : Class → Bool
asks_super x = list_any (λ y. names_super y.1) (class_in x)

-- ---- why class m is no mixin of class c

-- Its body is its own, or that of its mixin.
pub data IsNoMixin (p : Sources) (c m : ℕ) : Type 0 where
  has_superclass : {s : ℕ} → superclass_of (classes_in p) m ≡ Some s → (naming_in p).object ≢ Some s → IsNoMixin p c m
  has_constructor : {x : Class} → class_at p m ≡ Some x → constructs x ≡ true → IsNoMixin p c m
  has_super : {x : Class} → body_class p m ≡ Some x → asks_super x ≡ true → IsNoMixin p c m
  -- its fields would stand in an object twice
  has_fields : {x : Class} {s : ℕ} → body_class p m ≡ Some x → holds_fields x ≡ true → Contains (superclasses (classes_in p) c) s → origin (classes_in p) s ≡ origin (classes_in p) m → IsNoMixin p c m

-- ---- the classes of the prelude that no other file extends, mixes in or implements

abbrev pub closed_names : List (List ℕ)
closed_names = codes "Null" ∷ codes "bool" ∷ codes "num" ∷ codes "int" ∷ codes "String" ∷ codes "List" ∷ codes "Map" ∷ codes "Function" ∷ codes "Future" ∷ []

pub record IsClosed (p : Sources) (m : ℕ) : Type 0 where
  pub class : ClassNode
  pub at : slice_get (classes_in p) m ≡ Some class
  pub of_prelude : class.file ≡ 0
  pub named : is_among class.name closed_names ≡ true

-- a class that is written, and the number of the first class of its head
abbrev pub IsHead : Sources → ℕ → WrittenClass → Type 0
IsHead p n w = Contains (heads_from 0 (written_in p)) (n, w)

-- its own number
abbrev pub own_number : ℕ → WrittenClass → ℕ
own_number n w = n + nameless w.class

-- ---- where each rule is broken

-- The i-th mixin in the head of a class makes the i-th class of that head.
pub data IsBroken (p : Sources) : Rule → ℕ → ℕ → Type 0 where
  -- a supertype names no class
  no_class : {n : ℕ} {w : WrittenClass} {names : List Name} → IsHead p n w → Contains (supertypes w.class) names → meant (naming_in p) w names ≡ None → IsBroken p C1 w.file (start names)
  -- a class stands above itself
  own_supertype : {n : ℕ} {w : WrittenClass} → IsHead p n w → IsAbove (classes_in p) (own_number n w) (own_number n w) → IsBroken p C2 w.file (own_name w.class).span.from
  -- a class is no mixin here
  no_mixin : {n : ℕ} {w : WrittenClass} {m : ℕ} {names : List Name} (i : ℕ) → IsHead p n w → slice_get (mixin_names w.class) i ≡ Some names → meant (naming_in p) w names ≡ Some m → IsNoMixin p (n + i) m → IsBroken p C3 w.file (start names)
  -- a supertype outside the prelude is one that only the prelude may name
  closed : {n : ℕ} {w : WrittenClass} {m : ℕ} {names : List Name} → IsHead p n w → Contains (supertypes w.class) names → 0 < w.file → meant (naming_in p) w names ≡ Some m → IsClosed p m → IsBroken p C4 w.file (start names)
  -- a supertype stands behind a deferred prefix
  deferred : {n : ℕ} {w : WrittenClass} {names : List Name} → IsHead p n w → Contains (supertypes w.class) names → is_behind_deferred p.scopes w.file (type_parameters w.class) names ≡ true → IsBroken p C5 w.file (start names)
