-- Members of a class are parsed, as far as what nests is.
use Rattle.std.proofs.Common.{◌≡◌, ℕ, zero, suc, ◌<◌, ◌≤◌, Bool, true, false, List, [], ◌∷◌, ◌++◌, length, Some, refl, arith, append_assoc}
use Rattle.std.proofs.lemmas.List.{append-nil}
use Rattle.dart_syntax.specs.declared.words.Sign.TheVariants as s
use Rattle.dart_grammar.specs.declared.trees.Name.{Name}
use Rattle.dart_grammar.specs.declared.declarations.Member.{Member}
use Rattle.dart_grammar.specs.declared.declarations.Constructor.{Constructor}
use Rattle.dart_grammar.specs.declared.declarations.Initialiser.{Initialiser}
use Rattle.dart_grammar.specs.Marks.{Tokens, sign, ident, same_sign, same_word, next_sign, looseness}
use Rattle.dart_grammar.specs.Grammar.{IsMetadata}
use Rattle.dart_grammar.specs.Declarations as g
use Rattle.dart_grammar.specs.Declarations.{kind_of, IsInitialiser, AreInitialisers, MayInitialise, AreConstructorNames, IsConstructor, IsPlainMember, IsMember, AreMembers}
use Rattle.expr_parser.specs.Cursor.{sign_at, word_at, name_at}
use Rattle.expr_parser.specs.Inner.{Inner}
use Rattle.expr_parser.specs.Parameters as r
use Rattle.expr_parser.proofs.Shrinks.{metadata_shrinks, parameters_shrinks}
use Rattle.expr_parser.proofs.PartsComplete.{Complete, arguments_complete, metadata_complete}
use Rattle.expr_parser.proofs.StatementsComplete.{variables_complete}
use Rattle.decl_parser.specs.Members as p
use Rattle.decl_parser.proofs.Shrinks.{initialiser_shrinks, may_initialise_shrinks, constructor_names_shrink, constructor_shrinks, operator_shrinks, plain_member_shrinks, member_shrinks}
use Rattle.decl_parser.proofs.Firsts.{body_ends, arguments_no_dot, member_no_close}
use Rattle.decl_parser.proofs.BodiesComplete.{named_here, body_complete, function_complete, getter_complete, setter_complete, operator_complete}

constructor_names_complete : {name : List ℕ} {ts rest : Tokens} {xs : List Name} → AreConstructorNames name ts xs rest → p.constructor_names name ts ≡ Some (xs, rest)
unfolding p.constructor_names name_at same_sign
constructor_names_complete {name = name} (g.unnamed {p = q} {rest = rest} h) = rw (named_here name q rest, h) refl
constructor_names_complete {name = name} (g.named {x = x} {p = q} {q = o} {r = r} {rest = rest}) = rw (named_here name q (sign s.Dot o ∷ ident x r ∷ rest)) refl

module _ (inner : Inner) (n : ℕ) (complete : Complete n inner) where
  pub past_metadata_complete : {ts rest : Tokens} → IsMetadata ts rest → 0 < length rest → length ts ≤ suc n → r.past_metadata inner ts ≡ Some rest
  unfolding r.past_metadata
  past_metadata_complete {ts = ts} m l i = metadata_complete inner n complete m (length ts) (omega arith) l i

  -- ---- initialisers

  initialiser_complete : {ts rest : Tokens} {x : Initialiser} → IsInitialiser ts x rest → length ts ≤ n → looseness rest ≡ 10 → p.initialiser inner ts ≡ Some (x, rest)
  unfolding p.initialiser p.field_of_this p.field p.super_call sign_at word_at name_at same_sign same_word
  initialiser_complete (g.field_of_this d) i l = rw (complete.expr d (omega (arith, i)) l) refl
  initialiser_complete (g.field d) i l = rw (complete.expr d (omega (arith, i)) l) refl
  initialiser_complete (g.super_call d) i l = rw (arguments_no_dot d, arguments_complete inner n complete d (omega (arith, i))) refl
  initialiser_complete (g.named_super_call d) i l = rw (arguments_complete inner n complete d (omega (arith, i))) refl

  initialisers_from_complete : {ts rest : Tokens} {xs : List Initialiser} → AreInitialisers ts xs rest → (k : ℕ) (found : List Initialiser) → length ts ≤ k → length ts ≤ n → looseness rest ≡ 10
      → next_sign s.Comma rest ≡ false → p.initialisers_from inner k found ts ≡ Some (found ++ xs, rest)
  unfolding p.initialisers_from same_sign
  initialisers_from_complete (g.last_initialiser d) zero found i j l c = absurd (omega (arith, i, initialiser_shrinks d))
  initialisers_from_complete (g.last_initialiser d) (suc k) found i j l c = rw (initialiser_complete d j l, c) refl
  initialisers_from_complete (g.more_initialisers d m) zero found i j l c = absurd (omega (arith, i, initialiser_shrinks d))
  initialisers_from_complete (g.more_initialisers {x = x} {xs = xs} d m) (suc k) found i j l c =
      rw (
        initialiser_complete d j refl,
        initialisers_from_complete m k (found ++ x ∷ []) (omega (arith, i, initialiser_shrinks d)) (omega (arith, j, initialiser_shrinks d)) l c,
        append_assoc found (x ∷ []) xs,
      ) refl

  may_initialise_complete : {ts rest : Tokens} {xs : List Initialiser} → MayInitialise ts xs rest → length ts ≤ n → looseness rest ≡ 10 → next_sign s.Comma rest ≡ false
      → p.may_initialise inner ts ≡ Some (xs, rest)
  unfolding p.may_initialise same_sign
  may_initialise_complete (g.no_initialisers h) i l c = rw h refl
  may_initialise_complete (g.initialisers {ts = ts} d) i l c = rw (initialisers_from_complete d (suc (length ts)) [] (omega arith) (omega (arith, i)) l c) refl

  module _ (native : Bool) where
    constructor_complete : {name : List ℕ} {from : ℕ} {ts rest : Tokens} {x : Constructor} → IsConstructor native name from ts x rest → length ts ≤ n
        → p.constructor inner native name from ts ≡ Some (x, rest)
    unfolding p.constructor p.constructor_body
    constructor_complete (g.constructor d h m a b) i =
        rw (
          constructor_names_complete d,
          complete.parameters h (omega (arith, i, constructor_names_shrink d)),
          may_initialise_complete m (omega (arith, i, constructor_names_shrink d, parameters_shrinks h)) (body_ends b).0 (body_ends b).1,
          a,
          body_complete inner n complete native b (omega (arith, i, constructor_names_shrink d, parameters_shrinks h, may_initialise_shrinks m)),
        ) refl

    plain_member_complete : {is_static : Bool} {from : ℕ} {ts rest : Tokens} {x : Member} → IsPlainMember native is_static from ts x rest → length ts ≤ n
        → p.plain_member_by inner native (kind_of ts) is_static from ts ≡ Some (x, rest)
    unfolding p.plain_member_by
    plain_member_complete (g.method e d) i = rw (e, function_complete inner n complete native d i) refl
    plain_member_complete (g.getter_member e d) i = rw (e, getter_complete inner n complete native d i) refl
    plain_member_complete (g.setter_member e d) i = rw (e, setter_complete inner n complete native d i) refl
    plain_member_complete (g.fields e d) i = rw (e, variables_complete inner n complete d i) refl

    own_member_complete : {from : ℕ} {ts rest : Tokens} {x : Member} → IsPlainMember native false from ts x rest → length ts ≤ n → p.own_member_by inner native (kind_of ts) from ts ≡ Some (x, rest)
    unfolding p.own_member_by p.plain_member_by
    own_member_complete (g.method e d) i = rw (e, function_complete inner n complete native d i) refl
    own_member_complete (g.getter_member e d) i = rw (e, getter_complete inner n complete native d i) refl
    own_member_complete (g.setter_member e d) i = rw (e, setter_complete inner n complete native d i) refl
    own_member_complete (g.fields e d) i = rw (e, variables_complete inner n complete d i) refl

    member_complete : {name : List ℕ} {ts rest : Tokens} {x : Member} → IsMember native name ts x rest → length ts ≤ n → p.member inner native name ts ≡ Some (x, rest)
    unfolding p.member p.member_behind p.own_member_by
    member_complete (g.static m y d) i = rw (past_metadata_complete m (omega arith) (omega (arith, i)), y, plain_member_complete d (omega (arith, i, metadata_shrinks m))) refl
    member_complete (g.constructor_member m h c d) i =
        rw (past_metadata_complete m (omega (arith, constructor_shrinks d)) (omega (arith, i)), h, c, constructor_complete d (omega (arith, i, metadata_shrinks m))) refl
    member_complete (g.operator_member m h c e d) i =
        rw (past_metadata_complete m (omega (arith, operator_shrinks d)) (omega (arith, i)), h, c, e, operator_complete inner n complete native d (omega (arith, i, metadata_shrinks m))) refl
    member_complete (g.plain_member m h c d) i =
        rw (past_metadata_complete m (omega (arith, plain_member_shrinks d)) (omega (arith, i)), h, c, own_member_complete d (omega (arith, i, metadata_shrinks m))) refl

    members_from_complete : {name : List ℕ} {ts rest : Tokens} {xs : List Member} → AreMembers native name ts xs rest → (k : ℕ) (found : List Member) → length ts ≤ k → length ts ≤ n
        → next_sign s.CloseBrace rest ≡ true → 0 < length rest → p.members_from inner native name k found ts ≡ Some (found ++ xs, rest)
    unfolding p.members_from
    members_from_complete g.no_members zero found i j c l = absurd (omega (arith, i, l))
    members_from_complete g.no_members (suc k) found i j c l = rw (c, append-nil found) refl
    members_from_complete (g.members d m) zero found i j c l = absurd (omega (arith, i, member_shrinks d))
    members_from_complete (g.members {x = x} {xs = xs} d m) (suc k) found i j c l =
        rw (
          member_no_close d,
          member_complete d j,
          members_from_complete m k (found ++ x ∷ []) (omega (arith, i, member_shrinks d)) (omega (arith, j, member_shrinks d)) c l,
          append_assoc found (x ∷ []) xs,
        ) refl

    pub members_complete : {name : List ℕ} {ts rest : Tokens} {xs : List Member} → AreMembers native name ts xs rest → length ts ≤ n → next_sign s.CloseBrace rest ≡ true → 0 < length rest
        → p.members inner native name ts ≡ Some (xs, rest)
    unfolding p.members
    members_complete {ts = ts} d i c l = members_from_complete d (length ts) [] (omega arith) i c l
