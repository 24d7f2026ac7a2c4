-- What is parsed as a member of a class is one.
use Rattle.std.proofs.Common.{◌≡◌, ℕ, zero, suc, Bool, true, false, List, [], ◌∷◌, ◌++◌, length, Some, None, refl, sym, ap, ◌∙◌, subst}
use Rattle.dart_syntax.specs.declared.words.Word.TheVariants as w
use Rattle.dart_syntax.specs.declared.words.Sign.TheVariants as s
use Rattle.dart_grammar.specs.declared.kinds.DeclarationKind.{DeclarationKind}
use Rattle.dart_grammar.specs.declared.kinds.DeclarationKind.TheVariants as k
use Rattle.dart_grammar.specs.declared.trees.Span.{Span}
use Rattle.dart_grammar.specs.declared.trees.Name.{Name}
use Rattle.dart_grammar.specs.declared.trees.Expr.{Expr}
use Rattle.dart_grammar.specs.declared.declarations.Member.{Member}
use Rattle.dart_grammar.specs.declared.declarations.Initialiser.{Initialiser}
use Rattle.dart_grammar.specs.declared.declarations.Initialiser.TheVariants as i
use Rattle.dart_grammar.specs.Marks.{Tokens, word, sign, ident, next_word, next_sign, behind}
use Rattle.dart_grammar.specs.Trees.{span, name_of, span_of}
use Rattle.dart_grammar.specs.Grammar.{start, IsMetadata, IsExpr}
use Rattle.dart_grammar.specs.Declarations as g
use Rattle.dart_grammar.specs.Declarations.{next_named, static_word, makes_static, kind_of, begins_constructor, begins_static, IsBody, IsInitialiser, AreInitialisers, MayInitialise, AreConstructorNames, IsConstructor, IsPlainMember, IsMember, AreMembers}
use Rattle.expr_parser.specs.Inner.{Inner}
use Rattle.expr_parser.specs.Parameters as r
use Rattle.expr_parser.proofs.Tools.{Says, none, done, bind, weaken, choice, sign_ahead, take_sign, take_word, take_name}
use Rattle.expr_parser.proofs.PartsSound.{Sound, More, one_item, no_item, more_items, all_items, both_true, arguments_sound, metadata_from_sound}
use Rattle.expr_parser.proofs.OperatorsSound.{named_ahead}
use Rattle.expr_parser.proofs.StatementsSound.{variables_sound}
use Rattle.decl_parser.specs.Members as p
use Rattle.decl_parser.proofs.BodiesSound.{take_named, body_sound, function_sound, getter_sound, setter_sound, operator_sound}

constructor_names_sound : (name : List ℕ) (ts : Tokens) → Says (λ x. AreConstructorNames name ts x.0 x.1) (p.constructor_names name ts)
unfolding p.constructor_names
constructor_names_sound name ts = take_named name ts (λ t. t ≡ ts) refl (λ q e. choice (next_sign s.Dot q.1)
    (λ y. let a = sign_ahead s.Dot q.1 y in
    take_name (behind q.1) (λ t. ident name q.0 ∷ sign s.Dot a.0 ∷ t ≡ ts) (ap (λ (t : Tokens). ident name q.0 ∷ t) a.1 ∙ e)
    (λ x h. done (subst (λ (t : Tokens). AreConstructorNames name t (name_of name q.0 ∷ x.0 ∷ []) x.1) h g.named)))
    (λ n. done (subst (λ (t : Tokens). AreConstructorNames name t (name_of name q.0 ∷ []) q.1) e (g.unnamed n))))

-- a name, `=` and a value
record Sets (from : ℕ) (ts : Tokens) (x : Initialiser) (rest : Tokens) : Type 0 where
  name : Name
  value : Expr
  equals : Span
  mid : Tokens
  is : ident name.text name.span ∷ sign s.Assign equals ∷ mid ≡ ts
  derived : IsExpr mid value rest
  same : i.Field (span from (span_of value).to) name value ≡ x

module _ (inner : Inner) (sound : Sound inner) where
  pub past_metadata_sound : (ts : Tokens) → Says (IsMetadata ts) (r.past_metadata inner ts)
  unfolding r.past_metadata
  past_metadata_sound ts = metadata_from_sound inner sound (length ts) ts

  -- ---- initialisers

  field_sound : (from : ℕ) (ts : Tokens) → Says (λ x. Sets from ts x.0 x.1) (p.field inner from ts)
  unfolding p.field
  field_sound from ts = take_name ts (λ t. t ≡ ts) refl (λ x e. take_sign s.Assign x.1 (λ t. ident x.0.text x.0.span ∷ t ≡ ts) e (λ q h.
      bind (sound.expr q.1) (λ a d. done (record { name = x.0; value = a.0; equals = q.0; mid = q.1; is = h; derived = d.0; same = refl }))))

  field_of_this_sound : (ts : Tokens) → Says (λ x. IsInitialiser ts x.0 x.1) (p.field_of_this inner ts)
  unfolding p.field_of_this
  field_of_this_sound ts = take_word w.This ts (λ t. t ≡ ts) refl (λ q e. take_sign s.Dot q.1 (λ t. word w.This q.0 ∷ t ≡ ts) e (λ o h.
      weaken (λ x d. subst (λ (z : Initialiser). IsInitialiser ts z x.1) d.same
      (subst (λ (t : Tokens). IsInitialiser t (i.Field (span q.0.from (span_of d.value).to) d.name d.value) x.1) (ap (λ (t : Tokens). word w.This q.0 ∷ sign s.Dot o.0 ∷ t) d.is ∙ h) (g.field_of_this d.derived)))
      (field_sound q.0.from o.1)))

  plain_field_sound : (ts : Tokens) → Says (λ x. IsInitialiser ts x.0 x.1) (p.field inner (start ts) ts)
  plain_field_sound ts = weaken (λ x d. subst (λ (z : Initialiser). IsInitialiser ts z x.1) d.same
      (subst (λ (t : Tokens). IsInitialiser t (i.Field (span (start t) (span_of d.value).to) d.name d.value) x.1) d.is (g.field d.derived)))
      (field_sound (start ts) ts)

  super_call_sound : (ts : Tokens) → Says (λ x. IsInitialiser ts x.0 x.1) (p.super_call inner ts)
  unfolding p.super_call
  super_call_sound ts = take_word w.Super ts (λ t. t ≡ ts) refl (λ q e. choice (next_sign s.Dot q.1)
      (λ y. let a = sign_ahead s.Dot q.1 y in
      take_name (behind q.1) (λ t. word w.Super q.0 ∷ sign s.Dot a.0 ∷ t ≡ ts) (ap (λ (t : Tokens). word w.Super q.0 ∷ t) a.1 ∙ e) (λ x h.
      bind (arguments_sound inner sound x.1) (λ c d. done (subst (λ (t : Tokens). IsInitialiser t (i.Super (span q.0.from c.0.span.to) (Some x.0) c.0) c.1) h (g.named_super_call d)))))
      (λ _. bind (arguments_sound inner sound q.1) (λ c d. done (subst (λ (t : Tokens). IsInitialiser t (i.Super (span q.0.from c.0.span.to) None c.0) c.1) e (g.super_call d)))))

  initialiser_sound : (ts : Tokens) → Says (λ x. IsInitialiser ts x.0 x.1) (p.initialiser inner ts)
  unfolding p.initialiser
  initialiser_sound ts = choice (next_word w.This ts) (λ _. field_of_this_sound ts) (λ _. choice (next_word w.Super ts) (λ _. super_call_sound ts) (λ _. plain_field_sound ts))

  initialisers_from_sound : (n : ℕ) (found : List Initialiser) (ts : Tokens) → Says (λ x. More (λ xs. AreInitialisers ts xs x.1) found x.0) (p.initialisers_from inner n found ts)
  unfolding p.initialisers_from
  initialisers_from_sound zero found ts = none
  initialisers_from_sound (suc n) found ts = bind (initialiser_sound ts) (λ x d. choice (next_sign s.Comma x.1)
      (λ y. let a = sign_ahead s.Comma x.1 y in
      weaken (λ z m. more_items x.0 (λ xs h. g.more_initialisers (subst (λ (t : Tokens). IsInitialiser ts x.0 t) (sym a.1) d) h) m) (initialisers_from_sound n (found ++ x.0 ∷ []) (behind x.1)))
      (λ _. done (one_item x.0 (g.last_initialiser d))))

  may_initialise_sound : (ts : Tokens) → Says (λ x. MayInitialise ts x.0 x.1) (p.may_initialise inner ts)
  unfolding p.may_initialise
  may_initialise_sound ts = choice (next_sign s.Colon ts)
      (λ y. let a = sign_ahead s.Colon ts y in
      weaken (λ x m. subst (λ (t : Tokens). MayInitialise t x.0 x.1) a.1 (g.initialisers (all_items m))) (initialisers_from_sound (length ts) [] (behind ts)))
      (λ n. done (g.no_initialisers n))

  module _ (native : Bool) where
    constructor_body_sound : (ts : Tokens) → Says (λ x. (next_sign s.Arrow ts ≡ false) × IsBody native true ts x.0.0 x.0.1 x.1) (p.constructor_body inner native ts)
    unfolding p.constructor_body
    constructor_body_sound ts = choice (next_sign s.Arrow ts) (λ _. none) (λ n. weaken (λ x d. (n, d)) (body_sound inner sound native true ts))

    constructor_sound : (name : List ℕ) (from : ℕ) (ts : Tokens) → Says (λ x. IsConstructor native name from ts x.0 x.1) (p.constructor inner native name from ts)
    unfolding p.constructor
    constructor_sound name from ts = bind (constructor_names_sound name ts) (λ xs d. bind (sound.parameters xs.1) (λ ps h. bind (may_initialise_sound ps.1) (λ ys m.
        bind (constructor_body_sound ys.1) (λ b j. done (g.constructor d h m j.0 j.1)))))

    plain_member_by_sound : (kind : DeclarationKind) (is_static : Bool) (from : ℕ) (ts : Tokens) → kind_of ts ≡ kind
        → Says (λ x. IsPlainMember native is_static from ts x.0 x.1) (p.plain_member_by inner native kind is_static from ts)
    unfolding p.plain_member_by
    plain_member_by_sound k.Function is_static from ts e = bind (function_sound inner sound native true from ts) (λ x d. done (g.method e d))
    plain_member_by_sound k.Getter is_static from ts e = bind (getter_sound inner sound native true from ts) (λ x d. done (g.getter_member e d))
    plain_member_by_sound k.Setter is_static from ts e = bind (setter_sound inner sound native true from ts) (λ x d. done (g.setter_member e d))
    plain_member_by_sound k.Variables is_static from ts e = bind (variables_sound inner sound ts) (λ x d. done (g.fields e d))
    plain_member_by_sound k.Operator is_static from ts e = none

    own_member_by_sound : (kind : DeclarationKind) (name : List ℕ) (ts mid : Tokens) → kind_of mid ≡ kind → IsMetadata ts mid → begins_static name mid ≡ false → begins_constructor name mid ≡ false
        → Says (λ x. IsMember native name ts x.0 x.1) (p.own_member_by inner native kind (start ts) mid)
    unfolding p.own_member_by
    own_member_by_sound k.Operator name ts mid e m n c = bind (operator_sound inner sound native (start ts) mid) (λ x d. done (g.operator_member m n c e d))
    own_member_by_sound kind name ts mid e m n c = weaken (λ x d. g.plain_member m n c d) (plain_member_by_sound kind false (start ts) mid e)

    static_ahead : (name : List ℕ) (ts : Tokens) → begins_static name ts ≡ true → next_named static_word ts ≡ true
    unfolding begins_static
    static_ahead name ts h = both_true (next_named static_word ts) (makes_static name (behind ts)) h

    member_behind_sound : (name : List ℕ) (ts mid : Tokens) → IsMetadata ts mid → Says (λ x. IsMember native name ts x.0 x.1) (p.member_behind inner native name (start ts) mid)
    unfolding p.member_behind
    member_behind_sound name ts mid m = choice (begins_static name mid)
        (λ y. let a = named_ahead static_word mid (static_ahead name mid y) in
        weaken (λ x d. g.static (subst (IsMetadata ts) (sym a.1) m) (ap (begins_static name) a.1 ∙ y) d) (plain_member_by_sound (kind_of (behind mid)) true (start ts) (behind mid) refl))
        (λ n. choice (begins_constructor name mid)
        (λ c. bind (constructor_sound name (start ts) mid) (λ x d. done (g.constructor_member m n c d)))
        (λ c. own_member_by_sound (kind_of mid) name ts mid refl m n c))

    member_sound : (name : List ℕ) (ts : Tokens) → Says (λ x. IsMember native name ts x.0 x.1) (p.member inner native name ts)
    unfolding p.member
    member_sound name ts = bind (past_metadata_sound ts) (λ mid m. member_behind_sound name ts mid m)

    members_from_sound : (name : List ℕ) (n : ℕ) (found : List Member) (ts : Tokens) → Says (λ x. More (λ xs. AreMembers native name ts xs x.1) found x.0) (p.members_from inner native name n found ts)
    unfolding p.members_from
    members_from_sound name zero found ts = none
    members_from_sound name (suc n) found ts = choice (next_sign s.CloseBrace ts)
        (λ _. done (no_item g.no_members))
        (λ _. bind (member_sound name ts) (λ x d. weaken (λ z m. more_items x.0 (λ xs h. g.members d h) m) (members_from_sound name n (found ++ x.0 ∷ []) x.1)))

    pub members_sound : (name : List ℕ) (ts : Tokens) → Says (λ x. AreMembers native name ts x.0 x.1) (p.members inner native name ts)
    unfolding p.members
    members_sound name ts = weaken (λ x m. all_items m) (members_from_sound name (length ts) [] ts)
