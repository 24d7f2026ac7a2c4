-- What is found in the tables is the first member that a class declares itself under a name.
use Rattle.std.proofs.Common.{◌≡◌, ℕ, Bool, true, false, cond, List, [], ◌∷◌, ◌++◌, map, Option, Some, None, refl, sym, ap, ◌∙◌}
use Rattle.std.specs.Prelude.{is_some, option_and_then, option_map, slice_get}
use Rattle.std.specs.List.{cons_option, filter_map}
use Rattle.std.specs.Option.{option_or}
use Rattle.std.specs.Str.{bytes_eq}
use Rattle.std.proofs.lemmas.Bool.{true≢false}
use Rattle.std.proofs.lemmas.Slice.Eq.{bytes_eq-Decides}
use Rattle.std.proofs.lemmas.Option.{none-some, same_Some, slice_get-map, slice_get_within}
use Rattle.dart_grammar.specs.declared.trees.Name.{Name}
use Rattle.dart_program.specs.Declares.{DeclaredMember}
use Rattle.library_scopes.specs.declared.named.Side.{Side}
use Rattle.library_scopes.specs.declared.named.Side.TheVariants as side
use Rattle.class_heads.specs.declared.nodes.ClassNode.{ClassNode}
use Rattle.class_heads.specs.Sources.{Sources, classes_in, written_in}
use Rattle.class_heads.specs.Written.{numbers_from, class_numbers}
use Rattle.class_heads.specs.Bodies.{class_count}
use Rattle.class_members.specs.declared.members.MemberNode.{MemberNode}
use Rattle.class_members.specs.Members.{members}
use Rattle.class_members.specs.declared.owners.Owners.{Owners}
use Rattle.class_members.specs.Owners.{own_members, AreOwners}
use Rattle.member_tables.specs.Lookup.{declared_by_node}
use Rattle.selectors.specs.Tables.{Table, numbered}
use Rattle.name_meanings.specs.declared.own.OwnMember.{OwnMember}
use Rattle.name_meanings.specs.declared.tables.Facts.{Facts}
use Rattle.name_meanings.specs.declared.tables.OwnNames.{OwnNames}
use Rattle.name_meanings.specs.Own.{name_on, is_name, own_member_of, own_if, declared, own_at, is_seen, own_member}
use Rattle.name_meanings.specs.Tables.{facts_of, node_facts, put_first, put_declared, put_both, put_all, names_on, names_of, own_by, own_in, own_by_class, AreNames}

-- ---- one name put to a table

or_nothing : {A : Type 0} (o : Option A) → option_or o None ≡ o
or_nothing None = refl
or_nothing (Some x) = refl

or_joined : {A : Type 0} (o p q : Option A) → option_or (option_or o p) q ≡ option_or o (option_or p q)
or_joined None p q = refl
or_joined (Some x) p q = refl

looked_up : (name y : List ℕ) (k : ℕ) (table : Table) → numbered name (table ++ (y, k) ∷ []) ≡ option_or (numbered name table) (cond (bytes_eq name y) (Some k) None)
looked_up name y k [] = refl
looked_up name y k (e ∷ table) = by (bytes_eq name e.0) (looked_up name y k table) where
  by : (b : Bool) → numbered name (table ++ (y, k) ∷ []) ≡ option_or (numbered name table) (cond (bytes_eq name y) (Some k) None)
      → cond b (Some e.1) (numbered name (table ++ (y, k) ∷ [])) ≡ option_or (cond b (Some e.1) (numbered name table)) (cond (bytes_eq name y) (Some k) None)
  by true more = refl
  by false more = more

there_already : {A : Type 0} (o p : Option A) → is_some o ≡ true → o ≡ option_or o p
there_already None p e = absurd (true≢false (sym e))
there_already (Some x) p e = refl

-- ---- a member put under its name

abbrev number_of : OwnMember → ℕ
number_of x = x.number

put_is : (text : List ℕ) (y : Name) (x : OwnMember) (table : Table) → numbered text (put_first table (Some y) x.number) ≡ option_or (numbered text table) (option_map number_of (cond (bytes_eq text y.text) (Some x) None))
put_is text y x table = by (is_some (numbered y.text table)) refl where
  there : is_some (numbered y.text table) ≡ true → (b : Bool) → bytes_eq text y.text ≡ b → numbered text table ≡ option_or (numbered text table) (option_map number_of (cond b (Some x) None))
  there e true f = there_already (numbered text table) (Some x.number) (ap (λ z. is_some (numbered z table)) ((bytes_eq-Decides text y.text).0 f) ∙ e)
  there e false f = sym (or_nothing (numbered text table))

  behind : (b : Bool) → option_or (numbered text table) (cond b (Some x.number) None) ≡ option_or (numbered text table) (option_map number_of (cond b (Some x) None))
  behind true = refl
  behind false = refl

  by : (b : Bool) → is_some (numbered y.text table) ≡ b → numbered text (cond b table (table ++ (y.text, x.number) ∷ [])) ≡ option_or (numbered text table) (option_map number_of (cond (bytes_eq text y.text) (Some x) None))
  by true e = there e (bytes_eq text y.text) refl
  by false e = looked_up text y.text x.number table ∙ behind (bytes_eq text y.text)

named_put : (text : List ℕ) (y : Option Name) (x : OwnMember) (table : Table) → numbered text (put_first table y x.number) ≡ option_or (numbered text table) (option_map number_of (cond (is_name text y) (Some x) None))
named_put text None x table = sym (or_nothing (numbered text table))
named_put text (Some y) x table = put_is text y x table

declared_put : (on : Side) (text : List ℕ) (m : ℕ) (d : Option DeclaredMember) (table : Table) → numbered text (put_declared on table m d) ≡ option_or (numbered text table) (option_map number_of (own_if on text m d))
declared_put on text m None table = sym (or_nothing (numbered text table))
declared_put on text m (Some d) table = named_put text (name_on on d) (own_member_of m d) table

abbrev own_told : ℕ → Facts → OwnMember
own_told m f = record { number = m; is_static = f.is_static; lacks_body = f.lacks_body }

-- ---- all of a class

module _ (p : Sources) (on : Side) (text : List ℕ) where
  both_put : (y : Side) (x : OwnNames) (m : ℕ) → names_on y (put_both p x m) ≡ put_declared y (names_on y x) m (declared p m)
  both_put side.Value x m = refl
  both_put side.Setting x m = refl

  first_more : (o : Option OwnMember) (xs : List OwnMember) → option_or (option_map number_of o) (option_map number_of (slice_get xs 0)) ≡ option_map number_of (slice_get (cons_option o xs) 0)
  first_more None xs = refl
  first_more (Some x) xs = refl

  all_put : (x : OwnNames) (ms : List ℕ) → numbered text (names_on on (put_all p x ms)) ≡ option_or (numbered text (names_on on x)) (option_map number_of (slice_get (filter_map (own_at p on text) ms) 0))
  all_put x [] = sym (or_nothing (numbered text (names_on on x)))
  all_put x (m ∷ ms) =
      all_put (put_both p x m) ms
      ∙ ap (λ t. option_or (numbered text t) (option_map number_of (slice_get (filter_map (own_at p on text) ms) 0))) (both_put on x m)
      ∙ ap (λ o. option_or o (option_map number_of (slice_get (filter_map (own_at p on text) ms) 0))) (declared_put on text m (declared p m) (names_on on x))
      ∙ or_joined (numbered text (names_on on x)) (option_map number_of (own_at p on text m)) (option_map number_of (slice_get (filter_map (own_at p on text) ms) 0))
      ∙ ap (option_or (numbered text (names_on on x))) (first_more (own_at p on text m) (filter_map (own_at p on text) ms))

  nothing_on : (y : Side) → numbered text (names_on y (record { values = []; settings = [] })) ≡ None
  nothing_on side.Value = refl
  nothing_on side.Setting = refl

  -- ---- what is told of a member

  module _ (facts : List Facts) (told : facts ≡ map (node_facts p) (members p)) where
    written_told : (m : ℕ) (node : MemberNode) (d : DeclaredMember) → slice_get (members p) m ≡ Some node → declared_by_node p node ≡ Some d → own_by facts m ≡ Some (own_member_of m d)
    written_told m node d e f =
        ap (λ fs. own_by fs m) told
        ∙ ap (option_map (own_told m)) (slice_get-map (node_facts p) (members p) m ∙ ap (option_map (node_facts p)) e)
        ∙ ap (λ x. Some (own_told m (facts_of x))) f

    node_told : (m : ℕ) (x : OwnMember) (o : Option MemberNode) → slice_get (members p) m ≡ o → own_if on text m (option_and_then (declared_by_node p) o) ≡ Some x → own_by facts x.number ≡ Some x
    node_told m x None e is = absurd (none-some x is)
    node_told m x (Some node) e is = by (declared_by_node p node) refl is where
      named : (b : Bool) (d : DeclaredMember) → declared_by_node p node ≡ Some d → cond b (Some (own_member_of m d)) None ≡ Some x → own_by facts x.number ≡ Some x
      named false d f g = absurd (none-some x g)
      named true d f g = ap (λ (z : OwnMember). own_by facts z.number) (sym (same_Some (own_member_of m d) x g)) ∙ written_told m node d e f ∙ g

      by : (d : Option DeclaredMember) → declared_by_node p node ≡ d → own_if on text m d ≡ Some x → own_by facts x.number ≡ Some x
      by None f g = absurd (none-some x g)
      by (Some d) f g = named (is_name text (name_on on d)) d f g

    one_told : (m : ℕ) (xs : List OwnMember) → option_and_then (own_by facts) (option_map number_of (slice_get xs 0)) ≡ slice_get xs 0 → (o : Option OwnMember) → own_at p on text m ≡ o → option_and_then (own_by facts) (option_map number_of (slice_get (cons_option o xs) 0)) ≡ slice_get (cons_option o xs) 0
    one_told m xs more None e = more
    one_told m xs more (Some x) e = node_told m x (slice_get (members p) m) refl e

    first_told : (ms : List ℕ) → option_and_then (own_by facts) (option_map number_of (slice_get (filter_map (own_at p on text) ms) 0)) ≡ slice_get (filter_map (own_at p on text) ms) 0
    first_told [] = refl
    first_told (m ∷ ms) = one_told m (filter_map (own_at p on text) ms) (first_told ms) (own_at p on text m) refl

    own_in_is : (ms : List ℕ) → own_in facts on text (names_of p ms) ≡ slice_get (filter_map (own_at p on text) ms) 0
    own_in_is ms =
        ap (option_and_then (own_by facts)) (all_put (record { values = []; settings = [] }) ms ∙ ap (λ o. option_or o (option_map number_of (slice_get (filter_map (own_at p on text) ms) 0))) (nothing_on on))
        ∙ first_told ms

pub own_member_is : (p : Sources) (numbers : List ℕ) (names : List OwnNames) (facts : List Facts) (n c : ℕ) (on : Side) (text : List ℕ) (node : ClassNode)
    → AreNames p numbers names facts → Some node ≡ slice_get (classes_in p) c → true ≡ is_seen n text (Some node) → own_by_class names facts c on text ≡ own_member p n c on text
unfolding own_by_class own_member class_count
own_member_is p numbers names facts n c on text node are e seen =
    ap (option_and_then (own_in facts on text)) (are.named c (slice_get_within (classes_in p) c node (sym e)))
    ∙ own_in_is p on text facts are.told (own_members p c)
    ∙ ap (λ b. cond b (slice_get (filter_map (own_at p on text) (own_members p c)) 0) None) (seen ∙ ap (is_seen n text) e)

-- ---- all classes

pub numbers_are : (p : Sources) → numbers_from 0 (written_in p) ≡ class_numbers p.files
unfolding class_numbers
numbers_are p = refl

pub are_names : (p : Sources) (owners : Owners) (numbers : List ℕ) (names : List OwnNames) (facts : List Facts)
    → AreOwners p owners → numbers ≡ class_numbers p.files → names ≡ map (names_of p) owners.of_classes → facts ≡ map (node_facts p) (members p) → AreNames p numbers names facts
are_names p owners numbers names facts are numbered named told =
    record {
      numbered = numbered;
      named = λ c lt. ap (λ ns. slice_get ns c) named ∙ slice_get-map (names_of p) owners.of_classes c ∙ ap (option_map (names_of p)) (are.each c lt);
      told = told;
    }
