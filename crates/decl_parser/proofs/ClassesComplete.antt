-- What may stand between a class's name and its members is parsed.
use Rattle.std.proofs.Common.{◌≡◌, ℕ, zero, suc, ◌≤◌, Bool, false, List, [], ◌∷◌, ◌++◌, length, Option, Some, refl, arith, append_assoc}
use Rattle.dart_syntax.specs.declared.words.Sign.TheVariants as s
use Rattle.dart_grammar.specs.declared.trees.Name.{Name}
use Rattle.dart_grammar.specs.Marks.{Tokens, same_sign, same_word, next_sign}
use Rattle.dart_grammar.specs.Trees.{name_of}
use Rattle.dart_grammar.specs.Declarations as g
use Rattle.dart_grammar.specs.Declarations.{MayHaveBound, AreTypeParameters, MayHaveTypeParameters, AreSupertypes, MayExtend, MayImplement, MayBeAbstract, IsClassHead}
use Rattle.expr_parser.specs.Cursor.{sign_at, word_at, name_at}
use Rattle.expr_parser.proofs.Shrinks.{type_shrinks}
use Rattle.expr_parser.proofs.TypesComplete.{type_complete}
use Rattle.decl_parser.specs.Classes as p
use Rattle.decl_parser.proofs.Shrinks.{bound_shrinks}

bound_complete : {ts rest : Tokens} → MayHaveBound ts rest → p.past_bound ts ≡ Some rest
unfolding p.past_bound same_word
bound_complete (g.no_bound h) = rw h refl
bound_complete (g.bound d) = rw (type_complete d) refl

type_parameters_from_complete : {ts rest : Tokens} {xs : List Name} → AreTypeParameters ts xs rest → (k : ℕ) (found : List Name) → length ts ≤ k → p.type_parameters_from k found ts ≡ Some (found ++ xs, rest)
unfolding p.type_parameters_from sign_at name_at same_sign
type_parameters_from_complete (g.last_type_parameter d) zero found i = absurd (omega (arith, i))
type_parameters_from_complete (g.last_type_parameter d) (suc k) found i = rw (bound_complete d) refl
type_parameters_from_complete (g.more_type_parameters d m) zero found i = absurd (omega (arith, i))
type_parameters_from_complete (g.more_type_parameters {x = x} {xs = xs} {p = q} d m) (suc k) found i =
    rw (bound_complete d, type_parameters_from_complete m k (found ++ name_of x q ∷ []) (omega (arith, i, bound_shrinks d)), append_assoc found (name_of x q ∷ []) xs) refl

type_parameters_complete : {ts rest : Tokens} {xs : List Name} → MayHaveTypeParameters ts xs rest → p.type_parameters ts ≡ Some (xs, rest)
unfolding p.type_parameters same_sign
type_parameters_complete (g.no_type_parameters h) = rw h refl
type_parameters_complete (g.type_parameters {ts = ts} d) = rw (type_parameters_from_complete d (suc (length ts)) [] (omega arith)) refl

supertypes_from_complete : {ts rest : Tokens} {xs : List (List Name)} → AreSupertypes ts xs rest → (k : ℕ) (found : List (List Name)) → length ts ≤ k → next_sign s.Comma rest ≡ false
    → p.supertypes_from k found ts ≡ Some (found ++ xs, rest)
unfolding p.supertypes_from same_sign
supertypes_from_complete (g.last_supertype d) zero found i c = absurd (omega (arith, i, type_shrinks d))
supertypes_from_complete (g.last_supertype d) (suc k) found i c = rw (type_complete d, c) refl
supertypes_from_complete (g.more_supertypes d m) zero found i c = absurd (omega (arith, i, type_shrinks d))
supertypes_from_complete (g.more_supertypes {x = x} {xs = xs} d m) (suc k) found i c =
    rw (type_complete d, supertypes_from_complete m k (found ++ x ∷ []) (omega (arith, i, type_shrinks d)) c, append_assoc found (x ∷ []) xs) refl

pub supertypes_complete : {ts rest : Tokens} {xs : List (List Name)} → AreSupertypes ts xs rest → next_sign s.Comma rest ≡ false → p.supertypes ts ≡ Some (xs, rest)
unfolding p.supertypes
supertypes_complete {ts = ts} d c = supertypes_from_complete d (length ts) [] (omega arith) c

pub may_extend_complete : {ts rest : Tokens} {x : Option (List Name)} {xs : List (List Name)} → MayExtend ts x xs rest → next_sign s.Comma rest ≡ false → p.may_extend ts ≡ Some ((x, xs), rest)
unfolding p.may_extend p.extended same_word
may_extend_complete (g.no_superclass h) c = rw h refl
may_extend_complete (g.extends d h) c = rw (type_complete d, h) refl
may_extend_complete (g.extends_with d m) c = rw (type_complete d, supertypes_complete m c) refl

pub may_implement_complete : {ts rest : Tokens} {xs : List (List Name)} → MayImplement ts xs rest → next_sign s.Comma rest ≡ false → p.may_implement ts ≡ Some (xs, rest)
unfolding p.may_implement
may_implement_complete (g.no_interfaces h) c = rw h refl
may_implement_complete (g.implements d) c = rw (supertypes_complete d c) refl

abstract_complete : {ts rest : Tokens} {b : Bool} → MayBeAbstract ts b rest → p.may_be_abstract ts ≡ Some (b, rest)
abstract_complete (g.concrete h) = rw h refl
abstract_complete g.is_abstract = refl

pub class_head_complete : {ts rest : Tokens} {b : Bool} {x : Name} {xs : List Name} → IsClassHead ts b x xs rest
    → p.class_head ts ≡ Some (record { is_abstract = b; name = x; type_parameters = xs }, rest)
unfolding p.class_head word_at name_at same_word
class_head_complete (g.class_head d t) = rw (abstract_complete d, type_parameters_complete t) refl
