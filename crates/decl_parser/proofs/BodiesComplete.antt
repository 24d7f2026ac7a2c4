-- Functions, accessors and operators are parsed, as far as what nests is.
use Rattle.std.proofs.Common.{◌≡◌, ℕ, ◌≤◌, Bool, true, List, ◌∷◌, length, Some, refl, arith}
use Rattle.std.proofs.lemmas.Slice.Eq.{bytes_eq-Decides}
use Rattle.std.specs.Str.{bytes_eq}
use Rattle.dart_syntax.specs.declared.words.Sign.TheVariants as s
use Rattle.dart_grammar.specs.declared.trees.Span.{Span}
use Rattle.dart_grammar.specs.declared.trees.Body.{Body}
use Rattle.dart_grammar.specs.declared.declarations.Function.{Function}
use Rattle.dart_grammar.specs.declared.declarations.Getter.{Getter}
use Rattle.dart_grammar.specs.declared.declarations.Setter.{Setter}
use Rattle.dart_grammar.specs.declared.declarations.OperatorName.{OperatorName}
use Rattle.dart_grammar.specs.declared.declarations.OperatorMethod.{OperatorMethod}
use Rattle.dart_grammar.specs.Marks.{Tokens, sign, ident, same_sign}
use Rattle.dart_grammar.specs.Grammar as gr
use Rattle.dart_grammar.specs.Declarations as g
use Rattle.dart_grammar.specs.Declarations.{get_word, set_word, operator_word, native_word, IsBody, IsFunction, MayHaveTypeBefore, IsGetter, IsSetter, IsOperatorName}
use Rattle.expr_parser.specs.Cursor.{sign_at, name_at}
use Rattle.expr_parser.specs.Inner.{Inner}
use Rattle.expr_parser.proofs.Shrinks.{may_have_result_shrinks, parameters_shrinks, parameter_shrinks}
use Rattle.expr_parser.proofs.TypesComplete.{past_result_complete}
use Rattle.expr_parser.proofs.PartsComplete.{Complete, parameter_complete, block_complete}
use Rattle.decl_parser.specs.Bodies as p
use Rattle.decl_parser.proofs.Shrinks.{type_before_shrinks, operator_name_shrinks}

pub same_bytes : (text : List ℕ) → bytes_eq text text ≡ true
same_bytes text = (bytes_eq-Decides text text).1 refl

pub named_here : (text : List ℕ) (q : Span) (rest : Tokens) → p.named_at text (ident text q ∷ rest) ≡ Some (q, rest)
unfolding p.named_at name_at
named_here text q rest = rw (same_bytes text) refl

pub type_before_complete : {ts rest : Tokens} → MayHaveTypeBefore ts rest → p.past_type_before ts ≡ Some rest
unfolding p.past_type_before
type_before_complete (g.at_once h) = rw h refl
type_before_complete (g.behind_type h d) = rw (h, past_result_complete d) refl

pub operator_name_complete : {ts rest : Tokens} {x : OperatorName} {at : Span} → IsOperatorName ts x at rest → p.operator_name ts ≡ Some ((x, at), rest)
unfolding p.operator_name p.index_name sign_at same_sign
operator_name_complete g.plus = refl
operator_name_complete g.minus = refl
operator_name_complete g.times = refl
operator_name_complete g.divide = refl
operator_name_complete g.modulo = refl
operator_name_complete g.less = refl
operator_name_complete g.greater = refl
operator_name_complete g.less_equal = refl
operator_name_complete g.greater_equal = refl
operator_name_complete (g.at_index h) = rw h refl
operator_name_complete g.set_index = refl

module _ (inner : Inner) (n : ℕ) (complete : Complete n inner) (native : Bool) where
  pub body_complete : {in_class : Bool} {ts rest : Tokens} {a : Body} {j : ℕ} → IsBody native in_class ts a j rest → length ts ≤ n → p.body inner native in_class ts ≡ Some ((a, j), rest)
  unfolding p.body p.native_body sign_at name_at same_sign
  body_complete (g.gives d) i = rw (complete.expr d (omega (arith, i)) refl) refl
  body_complete (g.block (gr.braces {p = q} d)) i = rw (block_complete inner n complete (gr.braces {p = q} d) i) refl
  body_complete (g.abstract c) i = rw c refl
  body_complete (g.native_body {x = x} {p = q} {q = o} {r = r} {rest = rest} c) i = rw (c, named_here native_word q (ident x o ∷ sign s.Semicolon r ∷ rest)) refl

  pub function_complete : {in_class : Bool} {from : ℕ} {ts rest : Tokens} {x : Function} → IsFunction native in_class from ts x rest → length ts ≤ n → p.function inner native in_class from ts ≡ Some (x, rest)
  unfolding p.function name_at
  function_complete (g.function d h b) i =
      rw (past_result_complete d, complete.parameters h (omega (arith, i, may_have_result_shrinks d)), body_complete b (omega (arith, i, may_have_result_shrinks d, parameters_shrinks h))) refl

  pub getter_complete : {in_class : Bool} {from : ℕ} {ts rest : Tokens} {x : Getter} → IsGetter native in_class from ts x rest → length ts ≤ n → p.getter inner native in_class from ts ≡ Some (x, rest)
  unfolding p.getter name_at
  getter_complete (g.getter {x = x} {p = q} {q = o} {mid = mid} d b) i =
      rw (type_before_complete d, named_here get_word q (ident x o ∷ mid), body_complete b (omega (arith, i, type_before_shrinks d))) refl

  pub setter_complete : {in_class : Bool} {from : ℕ} {ts rest : Tokens} {x : Setter} → IsSetter native in_class from ts x rest → length ts ≤ n → p.setter inner native in_class from ts ≡ Some (x, rest)
  unfolding p.setter sign_at name_at same_sign
  setter_complete (g.setter {x = x} {p = q} {q = o} {r = r} {mid = mid} d h b) i =
      rw (
        type_before_complete d,
        named_here set_word q (ident x o ∷ sign s.OpenParen r ∷ mid),
        parameter_complete inner n complete h (omega (arith, i, type_before_shrinks d)),
        body_complete b (omega (arith, i, type_before_shrinks d, parameter_shrinks h)),
      ) refl

  pub operator_complete : {from : ℕ} {ts rest : Tokens} {x : OperatorMethod} → g.IsOperator native from ts x rest → length ts ≤ n → p.operator_method inner native from ts ≡ Some (x, rest)
  unfolding p.operator_method
  operator_complete (g.operator {p = q} {mid = mid} d k h b) i =
      rw (
        type_before_complete d,
        named_here operator_word q mid,
        operator_name_complete k,
        complete.parameters h (omega (arith, i, type_before_shrinks d, operator_name_shrinks k)),
        body_complete b (omega (arith, i, type_before_shrinks d, operator_name_shrinks k, parameters_shrinks h)),
      ) refl
