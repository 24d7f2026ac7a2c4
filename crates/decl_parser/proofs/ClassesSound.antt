-- What is parsed between a class's name and its members is what may stand there.
use Rattle.std.proofs.Common.{◌≡◌, ℕ, zero, suc, true, List, [], ◌∷◌, ◌++◌, length, refl, sym, subst}
use Rattle.dart_syntax.specs.declared.words.Word.TheVariants as w
use Rattle.dart_syntax.specs.declared.words.Sign.TheVariants as s
use Rattle.dart_grammar.specs.declared.trees.Span.{Span}
use Rattle.dart_grammar.specs.declared.trees.Name.{Name}
use Rattle.dart_grammar.specs.Marks.{Tokens, word, next_word, next_sign, behind}
use Rattle.dart_grammar.specs.Grammar.{IsType}
use Rattle.dart_grammar.specs.Declarations as g
use Rattle.dart_grammar.specs.Declarations.{next_named, abstract_word, implements_word, MayHaveBound, AreTypeParameters, MayHaveTypeParameters, AreSupertypes, MayExtend, MayImplement, MayBeAbstract, IsClassHead}
use Rattle.expr_parser.proofs.Tools.{Says, none, done, bind, weaken, choice, sign_ahead, word_ahead, take_sign, take_word, take_name}
use Rattle.expr_parser.proofs.TypesSound.{type_sound}
use Rattle.expr_parser.proofs.PartsSound.{More, one_item, more_items, all_items}
use Rattle.expr_parser.proofs.OperatorsSound.{named_ahead}
use Rattle.decl_parser.specs.Classes as p

bound_sound : (ts : Tokens) → Says (MayHaveBound ts) (p.past_bound ts)
unfolding p.past_bound
bound_sound ts = choice (next_word w.Extends ts)
    (λ y. let a = word_ahead w.Extends ts y in
    bind (type_sound (behind ts)) (λ x d. done (subst (λ (t : Tokens). MayHaveBound t x.1) a.1 (g.bound d))))
    (λ n. done (g.no_bound n))

type_parameters_from_sound : (n : ℕ) (found : List Name) (ts : Tokens) → Says (λ x. More (λ xs. AreTypeParameters ts xs x.1) found x.0) (p.type_parameters_from n found ts)
unfolding p.type_parameters_from
type_parameters_from_sound zero found ts = none
type_parameters_from_sound (suc n) found ts = take_name ts (λ t. t ≡ ts) refl (λ x e. bind (bound_sound x.1) (λ mid d. choice (next_sign s.Comma mid)
    (λ y. let a = sign_ahead s.Comma mid y in
    weaken (λ z m. more_items x.0 (λ xs k. subst (λ (t : Tokens). AreTypeParameters t (x.0 ∷ xs) z.1) e (g.more_type_parameters (subst (MayHaveBound x.1) (sym a.1) d) k)) m)
    (type_parameters_from_sound n (found ++ x.0 ∷ []) (behind mid)))
    (λ _. take_sign s.Greater mid (λ t. MayHaveBound x.1 t) d
    (λ q k. done (one_item x.0 (subst (λ (t : Tokens). AreTypeParameters t (x.0 ∷ []) q.1) e (g.last_type_parameter k)))))))

type_parameters_sound : (ts : Tokens) → Says (λ x. MayHaveTypeParameters ts x.0 x.1) (p.type_parameters ts)
unfolding p.type_parameters
type_parameters_sound ts = choice (next_sign s.Less ts)
    (λ y. let a = sign_ahead s.Less ts y in
    weaken (λ x m. subst (λ (t : Tokens). MayHaveTypeParameters t x.0 x.1) a.1 (g.type_parameters (all_items m))) (type_parameters_from_sound (length ts) [] (behind ts)))
    (λ n. done (g.no_type_parameters n))

supertypes_from_sound : (n : ℕ) (found : List (List Name)) (ts : Tokens) → Says (λ x. More (λ xs. AreSupertypes ts xs x.1) found x.0) (p.supertypes_from n found ts)
unfolding p.supertypes_from
supertypes_from_sound zero found ts = none
supertypes_from_sound (suc n) found ts = bind (type_sound ts) (λ x d. choice (next_sign s.Comma x.1)
    (λ y. let a = sign_ahead s.Comma x.1 y in
    weaken (λ z m. more_items x.0.0 (λ xs k. g.more_supertypes (subst (λ (t : Tokens). IsType ts x.0.0 x.0.1 t) (sym a.1) d) k) m)
    (supertypes_from_sound n (found ++ x.0.0 ∷ []) (behind x.1)))
    (λ _. done (one_item x.0.0 (g.last_supertype d))))

pub supertypes_sound : (ts : Tokens) → Says (λ x. AreSupertypes ts x.0 x.1) (p.supertypes ts)
unfolding p.supertypes
supertypes_sound ts = weaken (λ x m. all_items m) (supertypes_from_sound (length ts) [] ts)

extended_sound : (ts : Tokens) → Says (λ x. (q : Span) → MayExtend (word w.Extends q ∷ ts) x.0.0 x.0.1 x.1) (p.extended ts)
unfolding p.extended
extended_sound ts = bind (type_sound ts) (λ x d. choice (next_word w.With x.1)
    (λ y. let a = word_ahead w.With x.1 y in
    bind (supertypes_sound (behind x.1)) (λ ys k. done (λ q. g.extends_with (subst (λ (t : Tokens). IsType ts x.0.0 x.0.1 t) (sym a.1) d) k)))
    (λ n. done (λ q. g.extends d n)))

pub may_extend_sound : (ts : Tokens) → Says (λ x. MayExtend ts x.0.0 x.0.1 x.1) (p.may_extend ts)
unfolding p.may_extend
may_extend_sound ts = choice (next_word w.Extends ts)
    (λ y. let a = word_ahead w.Extends ts y in
    weaken (λ x d. subst (λ (t : Tokens). MayExtend t x.0.0 x.0.1 x.1) a.1 (d a.0)) (extended_sound (behind ts)))
    (λ n. done (g.no_superclass n))

pub may_implement_sound : (ts : Tokens) → Says (λ x. MayImplement ts x.0 x.1) (p.may_implement ts)
unfolding p.may_implement
may_implement_sound ts = choice (next_named implements_word ts)
    (λ y. let a = named_ahead implements_word ts y in
    weaken (λ x d. subst (λ (t : Tokens). MayImplement t x.0 x.1) a.1 (g.implements d)) (supertypes_sound (behind ts)))
    (λ n. done (g.no_interfaces n))

abstract_sound : (ts : Tokens) → Says (λ x. MayBeAbstract ts x.0 x.1) (p.may_be_abstract ts)
abstract_sound ts = choice (next_named abstract_word ts)
    (λ y. let a = named_ahead abstract_word ts y in done (subst (λ (t : Tokens). MayBeAbstract t true (behind ts)) a.1 g.is_abstract))
    (λ n. done (g.concrete n))

pub class_head_sound : (ts : Tokens) → Says (λ x. IsClassHead ts x.0.is_abstract x.0.name x.0.type_parameters x.1) (p.class_head ts)
unfolding p.class_head
class_head_sound ts = bind (abstract_sound ts) (λ v d. take_word w.Class v.1 (λ t. MayBeAbstract ts v.0 t) d (λ q e.
    take_name q.1 (λ t. MayBeAbstract ts v.0 (word w.Class q.0 ∷ t)) e (λ x k. bind (type_parameters_sound x.1) (λ xs h. done (g.class_head k h)))))
