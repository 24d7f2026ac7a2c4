-- What is found in tables breaks the rule.
use Rattle.std.proofs.Common.{◌≡◌, ℕ, zero, suc, Bool, true, false, cond, List, [], ◌∷◌, ◌++◌, map, Option, Some, None, refl, sym, ap, ◌∙◌}
use Rattle.std.specs.Prelude.{not, ◌&&◌, slice_get, option_and_then}
use Rattle.std.specs.List.{list_any, flat_map}
use Rattle.dart_grammar.specs.declared.declarations.Class.{Class}
use Rattle.dart_syntax.specs.declared.rules.Refusal.{Refusal}
use Rattle.dart_program.specs.First.{IsFirstOrNone}
use Rattle.dart_program.specs.Sooner.{first_with}
use Rattle.dart_program.proofs.Firsts.{AreBroken, first_of_broken, none_of_broken}
use Rattle.dart_sites.specs.declared.surroundings.Owner.{Owner}
use Rattle.dart_sites.specs.declared.surroundings.Owner.TheVariants as o
use Rattle.class_heads.specs.declared.nodes.ClassNode.{ClassNode}
use Rattle.class_heads.specs.declared.written.WrittenClass.{WrittenClass}
use Rattle.class_heads.specs.Written.{written, class_numbers, numbers_from}
use Rattle.class_heads.specs.Bodies.{class_of_node}
use Rattle.class_heads.specs.Origins.{superclass_of}
use Rattle.class_heads.specs.Rules.{is_constructor}
use Rattle.class_heads.specs.Sources.{Sources, classes_in, written_in, class_number}
use Rattle.class_members.specs.Constructions.{base}
use Rattle.selectors.specs.Tables.{Table}
use Rattle.super_rules.specs.declared.above.Above.{Above}
use Rattle.super_rules.specs.declared.calls.SuperCall.{SuperCall}
use Rattle.super_rules.specs.Calls.{calls}
use Rattle.super_rules.specs.Takers.{first_named, is_seen, takes_count, implied_takes, body_takes, OwnBody, in_file, own_body, body_at, base_body, takes}
use Rattle.super_rules.specs.Rules.{fault_if, call_faults, body_faults, superclass_at, owner_faults, class_faults, faults, IsBroken}
use Rattle.super_rules.specs.Tables.{with_members, table_of_body, table_of, named_in, above_takes, takes_by, with_table, with_body, above_node, above_at, above_base, call_faults_by, body_faults_by, owner_faults_by, superclass_by, class_faults_by}
use Rattle.super_rules.proofs.Named.{named_is}

mapped : {A B : Type 0} (f : A → B) (xs : List A) (k : ℕ) (x : A) → slice_get xs k ≡ Some x → slice_get (map f xs) k ≡ Some (f x)
mapped {A = A} {B = B} f [] k x e = absurd (by e) where
  by : None ≡ Some x → ⊥
  by e = cc
mapped f (y ∷ ys) zero x e = by e where
  by : Some y ≡ Some x → Some (f y) ≡ Some (f x)
  by e = cc
mapped f (y ∷ ys) (suc k) x e = mapped f ys k x e

over_same : {A : Type 0} (f g : A → List Refusal) → ((x : A) → f x ≡ g x) → (xs : List A) → flat_map f xs ≡ flat_map g xs
over_same f g same [] = refl
over_same f g same (x ∷ xs) = ap (λ r. r ++ flat_map f xs) (same x) ∙ ap (λ rest. g x ++ rest) (over_same f g same xs)

module _ (p : Sources) (tables : List Table) (tables_are : tables ≡ map (table_of (written_in p)) (classes_in p)) where
  -- ---- a call

  body_same : (k n : ℕ) (c : Class) (x : SuperCall) → takes_by k (with_table n c (Some (with_members [] 0 c.members))) x ≡ body_takes k n c x
  body_same k n c x = ap (λ f. cond (list_any is_constructor c.members) (is_seen k n x.name && takes_count x.count f) (implied_takes n c x)) (named_is c.members x.name)

  node_same : (k n : ℕ) (c : Option Class) (x : SuperCall) → takes_by k (with_body n c (Some (table_of_body c))) x ≡ takes k (in_file n c) x
  node_same k n None x = refl
  node_same k n (Some c) x = body_same k n c x

  at_same : (k c : ℕ) (x : SuperCall) → takes_by k (above_at p tables c) x ≡ takes k (body_at p c) x
  at_same k c x = by (slice_get (classes_in p) c) refl where
    by : (o : Option ClassNode) → slice_get (classes_in p) c ≡ o → takes_by k (option_and_then (above_node (written_in p) (slice_get tables c)) o) x ≡ takes k (option_and_then (own_body p) o) x
    by None e = refl
    by (Some y) e =
        ap (λ t. takes_by k (with_body y.file (class_of_node (written_in p) y) t) x) (ap (λ ts. slice_get ts c) tables_are ∙ mapped (table_of (written_in p)) (classes_in p) c y e)
        ∙ node_same k y.file (class_of_node (written_in p) y) x

  base_same : (k c : ℕ) (x : SuperCall) → takes_by k (above_base p tables c) x ≡ takes k (base_body p c) x
  unfolding above_base base_body
  base_same k c x = by (base (classes_in p) c) where
    by : (o : Option ℕ) → takes_by k (option_and_then (above_at p tables) o) x ≡ takes k (option_and_then (body_at p) o) x
    by None = refl
    by (Some b) = at_same k b x

  -- ---- all calls

  call_same : (file s : ℕ) (x : SuperCall) → call_faults_by file (above_base p tables s) x ≡ call_faults file (base_body p s) x
  call_same file s x = ap (λ is. fault_if (not is) file x.at) (base_same file s x)

  owner_same : (file : ℕ) (c : Owner) (superclass : Option ℕ) → owner_faults_by p tables file c superclass ≡ owner_faults p file c superclass
  owner_same file (o.Class c) None = refl
  owner_same file (o.Class c) (Some s) = over_same (call_faults_by file (above_base p tables s)) (call_faults file (base_body p s)) (call_same file s) (calls file c)
  owner_same file (o.Alias a) superclass = refl

  module _ (numbers : List ℕ) (numbers_are : numbers ≡ numbers_from 0 (written_in p)) where
    superclass_same : (w : WrittenClass) → superclass_by p numbers w ≡ superclass_at p w
    unfolding class_number class_numbers
    superclass_same w = ap (λ ns. option_and_then (superclass_of (classes_in p)) (slice_get ns w.number)) numbers_are

    class_same : (w : WrittenClass) → class_faults_by p tables numbers w ≡ class_faults p w
    class_same w = ap (owner_faults_by p tables w.file w.class) (superclass_same w) ∙ owner_same w.file w.class (superclass_at p w)

    all_same : flat_map (class_faults_by p tables numbers) (written_in p) ≡ faults p
    unfolding faults
    all_same = over_same (class_faults_by p tables numbers) (class_faults p) class_same (written_in p)

broken_in : (p : Sources) → AreBroken (IsBroken p) (faults p)
unfolding IsBroken
broken_in p = record { holds = λ x c. c; all = λ x b. b }

first_is : (p : Sources) (r : Option Refusal) → r ≡ first_with None (faults p) → IsFirstOrNone (IsBroken p) r
first_is p None e = none_of_broken (IsBroken p) (faults p) (broken_in p) e
first_is p (Some x) e = first_of_broken (IsBroken p) (faults p) x (broken_in p) e

pub first_in_program_is : (p : Sources) (tables : List Table) (numbers : List ℕ) (first : Option Refusal) → tables ≡ map (table_of (written_in p)) (classes_in p) → numbers ≡ numbers_from 0 (written_in p)
    → first ≡ first_with None (flat_map (class_faults_by p tables numbers) (written_in p)) → IsFirstOrNone (IsBroken p) first
first_in_program_is p tables numbers first tables_are numbers_are e = first_is p first (e ∙ ap (first_with None) (all_same p tables tables_are numbers numbers_are))
