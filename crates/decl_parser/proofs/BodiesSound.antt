-- What is parsed as a function, an accessor or an operator is one.
use Rattle.std.proofs.Common.{◌≡◌, ℕ, Bool, true, false, List, [], ◌∷◌, Option, Some, None, refl, sym, subst}
use Rattle.std.proofs.lemmas.Slice.Eq.{bytes_eq-Decides}
use Rattle.std.specs.Prelude.{if◌then◌else◌}
use Rattle.std.specs.Str.{bytes_eq}
use Rattle.dart_syntax.specs.declared.words.Sign.{Sign}
use Rattle.dart_syntax.specs.declared.words.Sign.TheVariants as s
use Rattle.dart_syntax.specs.declared.tokens.Form.{Form}
use Rattle.dart_syntax.specs.declared.tokens.Form.TheVariants as f
use Rattle.dart_grammar.specs.declared.trees.Span.{Span}
use Rattle.dart_grammar.specs.declared.trees.Name.{Name}
use Rattle.dart_grammar.specs.declared.trees.Body.TheVariants as bd
use Rattle.dart_grammar.specs.declared.declarations.OperatorName.TheVariants as o
use Rattle.dart_grammar.specs.Marks.{Tokens, token, sign, ident, is_named, next_sign, behind}
use Rattle.dart_grammar.specs.Shapes.{◌>>=◌}
use Rattle.dart_grammar.specs.Trees.{span}
use Rattle.dart_grammar.specs.Grammar.{MayHaveResult, IsExpr, IsParameter}
use Rattle.dart_grammar.specs.Declarations as g
use Rattle.dart_grammar.specs.Declarations.{get_word, set_word, operator_word, native_word, kind_at, is_variables, IsBody, IsFunction, MayHaveTypeBefore, IsGetter, IsSetter, IsOperatorName, IsOperator}
use Rattle.expr_parser.specs.Cursor.{name_by, name_at}
use Rattle.expr_parser.specs.Inner.{Inner}
use Rattle.expr_parser.proofs.Tools.{Says, none, done, bind, weaken, choice, sign_ahead, take_sign, take_name}
use Rattle.expr_parser.proofs.TypesSound.{past_result_sound}
use Rattle.expr_parser.proofs.PartsSound.{Sound, parameter_sound, block_sound}
use Rattle.decl_parser.specs.Bodies as p

-- What holds of the tokens holds with the name that is taken at their front.
pub take_named : {Y : Type 0} {P : Y → Type 0} {c : Span × Tokens → Option Y} (text : List ℕ) (ts : Tokens) (D : Tokens → Type 0) → D ts
    → ((r : Span × Tokens) → D (ident text r.0 ∷ r.1) → Says P (c r)) → Says P (p.named_at text ts >>= c)
unfolding p.named_at name_at
take_named text [] D d k = none
take_named {P = P} {c = c} text (t ∷ ts) D d k = go t.form d
  where
    at : Span
    at = span t.from t.to

    by : (x : List ℕ) (b : Bool) → bytes_eq text x ≡ b → D (ident x at ∷ ts) → Says P ((if b then Some (at, ts) else None) >>= c)
    by x true e h = k (at, ts) (subst (λ (y : List ℕ). D (ident y at ∷ ts)) (sym ((bytes_eq-Decides text x).0 e)) h)
    by x false e h = none

    go : (form : Form) → D (token form at ∷ ts) → Says P ((if is_named text form then (name_by form at ts >>= λ (x : Name × Tokens). Some (x.0.span, x.1)) else None) >>= c)
    go (f.Name x) h = by x (bytes_eq text x) refl h
    go _ h = none

type_before_sound : (ts : Tokens) → Says (MayHaveTypeBefore ts) (p.past_type_before ts)
unfolding p.past_type_before
type_before_sound ts = choice (is_variables (kind_at ts)) (λ y. weaken (λ rest d. g.behind_type y d) (past_result_sound ts)) (λ n. done (g.at_once n))

native_body_sound : (native in_class : Bool) (ts : Tokens) → native ≡ true → Says (λ x. IsBody native in_class ts x.0.0 x.0.1 x.1) (p.native_body ts)
unfolding p.native_body
native_body_sound native in_class ts h = take_named native_word ts (λ t. t ≡ ts) refl (λ w e. take_name w.1 (λ t. ident native_word w.0 ∷ t ≡ ts) e (λ x k.
    take_sign s.Semicolon x.1 (λ t. ident native_word w.0 ∷ ident x.0.text x.0.span ∷ t ≡ ts) k
    (λ q i. done (subst (λ (t : Tokens). IsBody native in_class t (bd.Native x.0) q.0.to q.1) i (g.native_body h)))))

-- ---- the signs that a class can declare

index_sound : (at : Span) (ts : Tokens) → Says (λ x. IsOperatorName (sign s.OpenBracket at ∷ ts) x.0.0 x.0.1 x.1) (p.index_name at.from ts)
unfolding p.index_name
index_sound at ts = take_sign s.CloseBracket ts (λ t. t ≡ ts) refl (λ q e. choice (next_sign s.Assign q.1)
    (λ _. take_sign s.Assign q.1 (λ t. sign s.CloseBracket q.0 ∷ t ≡ ts) e
    (λ r k. done (subst (λ (t : Tokens). IsOperatorName (sign s.OpenBracket at ∷ t) o.SetIndex (span at.from r.0.to) r.1) k g.set_index)))
    (λ n. done (subst (λ (t : Tokens). IsOperatorName (sign s.OpenBracket at ∷ t) o.Index (span at.from q.0.to) q.1) e (g.at_index n))))

operator_name_sound : (ts : Tokens) → Says (λ x. IsOperatorName ts x.0.0 x.0.1 x.1) (p.operator_name ts)
unfolding p.operator_name
operator_name_sound [] = none
operator_name_sound (t ∷ ts) = go t.form
  where
    at : Span
    at = span t.from t.to

    by_sign : (x : Sign) → Says (λ y. IsOperatorName (sign x at ∷ ts) y.0.0 y.0.1 y.1) (p.operator_by (f.Sign x) at ts)
    by_sign s.Plus = done g.plus
    by_sign s.Minus = done g.minus
    by_sign s.Times = done g.times
    by_sign s.Divide = done g.divide
    by_sign s.Modulo = done g.modulo
    by_sign s.Less = done g.less
    by_sign s.Greater = done g.greater
    by_sign s.LessEqual = done g.less_equal
    by_sign s.GreaterEqual = done g.greater_equal
    by_sign s.OpenBracket = index_sound at ts
    by_sign _ = none

    go : (form : Form) → Says (λ y. IsOperatorName (token form at ∷ ts) y.0.0 y.0.1 y.1) (p.operator_by form at ts)
    go (f.Sign x) = by_sign x
    go _ = none

module _ (inner : Inner) (sound : Sound inner) (native : Bool) where
  pub body_sound : (in_class : Bool) (ts : Tokens) → Says (λ x. IsBody native in_class ts x.0.0 x.0.1 x.1) (p.body inner native in_class ts)
  unfolding p.body
  body_sound in_class ts = choice (next_sign s.Arrow ts)
      (λ y. let a = sign_ahead s.Arrow ts y in
      bind (sound.expr (behind ts)) (λ v h. take_sign s.Semicolon v.1 (λ t. IsExpr (behind ts) v.0 t) h.0
      (λ q k. done (subst (λ (t : Tokens). IsBody native in_class t (bd.Gives v.0) q.0.to q.1) a.1 (g.gives k)))))
      (λ _. choice (next_sign s.OpenBrace ts)
      (λ _. bind (block_sound inner sound ts) (λ x h. done (g.block h)))
      (λ _. choice (next_sign s.Semicolon ts)
      (λ _. choice in_class
      (λ c. take_sign s.Semicolon ts (λ t. t ≡ ts) refl (λ q e. done (subst (λ (t : Tokens). IsBody native in_class t bd.Abstract q.0.to q.1) e (g.abstract c))))
      (λ _. none))
      (λ _. choice native (native_body_sound native in_class ts) (λ _. none))))

  pub function_sound : (in_class : Bool) (from : ℕ) (ts : Tokens) → Says (λ x. IsFunction native in_class from ts x.0 x.1) (p.function inner native in_class from ts)
  unfolding p.function
  function_sound in_class from ts = bind (past_result_sound ts) (λ mid d. take_name mid (λ t. MayHaveResult ts t) d (λ x k.
      bind (sound.parameters x.1) (λ ps h. bind (body_sound in_class ps.1) (λ b i. done (g.function k h i)))))

  pub getter_sound : (in_class : Bool) (from : ℕ) (ts : Tokens) → Says (λ x. IsGetter native in_class from ts x.0 x.1) (p.getter inner native in_class from ts)
  unfolding p.getter
  getter_sound in_class from ts = bind (type_before_sound ts) (λ mid d. take_named get_word mid (λ t. MayHaveTypeBefore ts t) d (λ w e.
      take_name w.1 (λ t. MayHaveTypeBefore ts (ident get_word w.0 ∷ t)) e (λ x k. bind (body_sound in_class x.1) (λ b i. done (g.getter k i)))))

  pub setter_sound : (in_class : Bool) (from : ℕ) (ts : Tokens) → Says (λ x. IsSetter native in_class from ts x.0 x.1) (p.setter inner native in_class from ts)
  unfolding p.setter
  setter_sound in_class from ts = bind (type_before_sound ts) (λ mid d. take_named set_word mid (λ t. MayHaveTypeBefore ts t) d (λ w e.
      take_name w.1 (λ t. MayHaveTypeBefore ts (ident set_word w.0 ∷ t)) e (λ x k.
      take_sign s.OpenParen x.1 (λ t. MayHaveTypeBefore ts (ident set_word w.0 ∷ ident x.0.text x.0.span ∷ t)) k (λ r m.
      bind (parameter_sound inner sound r.1) (λ v h. take_sign s.CloseParen v.1 (λ t. IsParameter r.1 v.0 t) h (λ u j.
      bind (body_sound in_class u.1) (λ b i. done (g.setter m j i))))))))

  pub operator_sound : (from : ℕ) (ts : Tokens) → Says (λ x. g.IsOperator native from ts x.0 x.1) (p.operator_method inner native from ts)
  unfolding p.operator_method
  operator_sound from ts = bind (type_before_sound ts) (λ mid d. take_named operator_word mid (λ t. MayHaveTypeBefore ts t) d (λ w e.
      bind (operator_name_sound w.1) (λ x k. bind (sound.parameters x.1) (λ ps h. bind (body_sound true ps.1) (λ b i. done (g.operator e k h i))))))
