-- The member that a class has under a name: the first one from the class upwards. A class with a mixin has the members of its
-- mixin. What is static or has no body is not found, and a constructor isn't either.
use Rattle.std.specs.Prelude.{ℕ, zero, suc, Bool, true, false, if◌then◌else◌, nat_lt, List, [], ◌∷◌, Option, Some, None, option_and_then, slice_get}
use Rattle.std.specs.List.{list_any}
use Rattle.std.specs.Option.{option_or}
use Rattle.dart_grammar.specs.declared.trees.Body.{Body}
use Rattle.dart_grammar.specs.declared.trees.Body.TheVariants as b
use Rattle.dart_grammar.specs.declared.declarations.Class.{Class}
use Rattle.dart_program.specs.Declares.{DeclaredMember, declared_by_member, AMethod, AMemberGetter, AMemberSetter, AField, AnOperator, AConstructor, variable_name, operator_text, setter_text}
use Rattle.selectors.specs.declared.selector.Selector.{Selector}
use Rattle.selectors.specs.Selectors.{selector_in, same_selector, selectors, with_setter}
use Rattle.class_heads.specs.declared.nodes.ClassNode.{ClassNode}
use Rattle.class_heads.specs.Sources.{Sources, classes_in}
use Rattle.class_heads.specs.Origins.{origin}
use Rattle.class_heads.specs.Bodies.{class_at, class_count}
use Rattle.class_members.specs.declared.members.MemberKind.{MemberKind}
use Rattle.class_members.specs.declared.members.MemberKind.TheVariants as k
use Rattle.class_members.specs.declared.members.MemberNode.{MemberNode}
use Rattle.class_members.specs.declared.members.Place.{Place}
use Rattle.class_members.specs.Members.{members}
use Rattle.class_members.specs.Owners.{own_members}

-- ---- what is declared at a place of a class

abbrev pub declared_at : Option Class → Place → Option DeclaredMember
declared_at None place = None
declared_at (Some x) place = option_and_then (λ n. option_and_then (λ m. slice_get (declared_by_member m) place.variable) (slice_get x.members n)) place.member

abbrev pub declared_by_kind : Sources → ℕ → MemberKind → Option DeclaredMember
declared_by_kind p c (k.Declared place) = declared_at (class_at p c) place
declared_by_kind p c _ = None

-- A member outside classes is found in none.
abbrev pub declared_by_node : Sources → MemberNode → Option DeclaredMember
declared_by_node p x = option_and_then (λ c. declared_by_kind p c x.kind) x.class

-- ---- the names under which it is found

abbrev pub has_body : Body → Bool
has_body b.Abstract = false
has_body _ = true

abbrev pub if_found : Bool → Body → List ℕ → List (List ℕ)
if_found is_static body text = if is_static then [] else if has_body body then text ∷ [] else []

-- A field is found under its name, and, unless it is final, as a setter.
abbrev pub found_under : DeclaredMember → List (List ℕ)
found_under (AMethod is_static x) = if_found is_static x.body x.name.text
found_under (AMemberGetter is_static x) = if_found is_static x.body x.name.text
found_under (AMemberSetter is_static x) = if_found is_static x.body (setter_text x.name.text)
found_under (AField is_static is_final x) = if is_static then [] else with_setter is_final (variable_name x).text
found_under (AnOperator x) = if_found false x.body (operator_text x)
found_under (AConstructor x) = []

abbrev pub names_of : Option DeclaredMember → List (List ℕ)
names_of None = []
names_of (Some x) = found_under x

abbrev pub answers : Sources → Selector → MemberNode → Bool
answers p s x = list_any (λ text. same_selector s (selector_in x.file text)) (names_of (declared_by_node p x))

abbrev pub answers_if : Sources → Selector → Option MemberNode → Bool
answers_if p s None = false
answers_if p s (Some x) = answers p s x

-- the member of this number
abbrev pub answers_at : Sources → Selector → ℕ → Bool
answers_at p s m = answers_if p s (slice_get (members p) m)

-- ---- the walk upwards

abbrev pub first_of : (ℕ → Bool) → List ℕ → Option ℕ
first_of f [] = None
first_of f (m ∷ ms) = if f m then Some m else first_of f ms

-- the members of a class; what is no class has none
abbrev pub members_of : Sources → ℕ → List ℕ
members_of p c = if nat_lt c (class_count p) then own_members p c else []

-- in the body that a class has
abbrev pub found_in : Sources → Selector → ℕ → Option ℕ
found_in p s c = option_and_then (λ o. first_of (answers_at p s) (members_of p o)) (origin (classes_in p) c)

-- in a class, and else from its superclass on
abbrev pub found_on : (ℕ → Option ℕ) → Sources → Selector → ℕ → Option ClassNode → Option ℕ
found_on onward p s c None = None
found_on onward p s c (Some x) = option_or (found_in p s c) (option_and_then onward x.superclass)

-- Where no class stands above itself, the way upwards has no more classes than there are.
abbrev pub found_to : ℕ → Sources → Selector → ℕ → Option ℕ
found_to zero p s c = None
found_to (suc n) p s c = found_on (found_to n p s) p s c (slice_get (classes_in p) c)

-- The member of a class by the number of a selector.
unfoldable pub find_of : Sources → ℕ → ℕ → Option ℕ
find_of p c selector = option_and_then (λ s. found_to (class_count p) p s c) (slice_get (selectors p.files) selector)
