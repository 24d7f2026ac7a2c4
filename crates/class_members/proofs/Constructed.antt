-- The constructors of a class, found step by step.
use Rattle.std.proofs.Common.{◌≡◌, ◌++◌, ℕ, suc, List, [], ◌∷◌, Some, None, refl, subst}
use Rattle.std.specs.Prelude.{slice_get, option_and_then}
use Rattle.std.proofs.lemmas.List.{append_assoc}
use Rattle.dart_grammar.specs.declared.declarations.Member.{Member}
use Rattle.dart_grammar.specs.declared.declarations.Member.TheVariants as m
use Rattle.class_heads.specs.declared.nodes.ClassNode.{ClassNode}
use Rattle.class_heads.specs.Sources.{Sources, classes_in, written_in}
use Rattle.class_heads.specs.Bodies.{class_of_node, class_at}
use Rattle.class_members.specs.declared.members.Construction.{Construction}
use Rattle.class_members.specs.Steps.{with_written}
use Rattle.class_members.specs.Constructions.{written_from, or_implicit, file_of, constructions_of, constructions_at}

pub written_step : (c k : ℕ) (before : List Construction) (x : Member) (xs : List Member) → with_written c k before x ++ written_from c (suc k) xs ≡ before ++ written_from c k (x ∷ xs)
written_step c k before (m.Constructor x) xs = append_assoc before (record { class = c; member = Some k } ∷ []) (written_from c (suc k) xs)
written_step c k before (m.Function is_static x) xs = refl
written_step c k before (m.Getter is_static x) xs = refl
written_step c k before (m.Setter is_static x) xs = refl
written_step c k before (m.Fields is_static at x) xs = refl
written_step c k before (m.Operator x) xs = refl

pub some_written : (c : ℕ) (xs : List Construction) → (xs ≡ [] → ⊥) → xs ≡ or_implicit c xs
some_written c [] h = absurd (h refl)
some_written c (x ∷ xs) h = refl

pub at_node : (p : Sources) (c : ℕ) (x : ClassNode) → Some x ≡ slice_get (classes_in p) c → constructions_of x.file c (class_of_node (written_in p) x) ≡ constructions_at p c
unfolding class_at
at_node p c x e = subst (λ o. constructions_of x.file c (class_of_node (written_in p) x) ≡ constructions_of (file_of o) c (option_and_then (class_of_node (written_in p)) o)) e refl

pub at_none : (p : Sources) (c : ℕ) → None ≡ slice_get (classes_in p) c → [] ≡ constructions_at p c
unfolding class_at
at_none p c e = subst (λ o. [] ≡ constructions_of (file_of o) c (option_and_then (class_of_node (written_in p)) o)) e refl
