-- What holds of an answer, rule by rule.
use Rattle.std.proofs.Common.{◌≡◌, Bool, true, false, [], ◌∷◌, Option, Some, None, refl, sym, ap, subst, rules}
use Rattle.std.specs.Prelude.{if◌then◌else◌}
use denote.Enum.Bare.{same_true}
use Rattle.dart_syntax.specs.contracts.words.Word.{the_type as words}
use Rattle.dart_syntax.specs.contracts.words.Sign.{the_type as signs}
use Rattle.dart_syntax.specs.declared.words.Word.{Word}
use Rattle.dart_syntax.specs.declared.words.Sign.{Sign}
use Rattle.dart_syntax.specs.declared.tokens.Form.{Form}
use Rattle.dart_syntax.specs.declared.tokens.Form.TheVariants as f
use Rattle.dart_grammar.specs.declared.trees.Span.{Span}
use Rattle.dart_grammar.specs.declared.trees.Name.{Name}
use Rattle.dart_grammar.specs.Marks.{Tokens, token, word, sign, ident, same_word, same_sign, is_word, is_sign, next_word, next_sign, behind}
use Rattle.dart_grammar.specs.Shapes.{◌>>=◌}
use Rattle.dart_grammar.specs.Trees.{span, name_of}
use Rattle.expr_parser.specs.Cursor.{sign_at, word_at, name_by, name_at}

abbrev All : {X : Type 0} → (X → Type 0) → Option X → Type 0
All P None = Unit {0}
All P (Some x) = P x

-- what is answered, if anything is, has the property
pub record Says {X : Type 0} (P : X → Type 0) (o : Option X) : Type 0 where
  pub holds : All P o

pub none : {X : Type 0} {P : X → Type 0} → Says P None
none = record { holds = tt }

pub done : {X : Type 0} {P : X → Type 0} {x : X} → P x → Says P (Some x)
done h = record { holds = h }

pub bind : {X Y : Type 0} {P : Y → Type 0} {Q : X → Type 0} {f : X → Option Y} {o : Option X} → Says Q o → ((x : X) → Q x → Says P (f x)) → Says P (o >>= f)
bind {o = None} h k = none
bind {o = Some x} h k = k x h.holds

pub weaken : {X : Type 0} {P Q : X → Type 0} {o : Option X} → ((x : X) → Q x → P x) → Says Q o → Says P o
weaken {o = None} k h = none
weaken {o = Some x} k h = done (k x h.holds)

pub choice : {X : Type 0} {P : X → Type 0} {x y : Option X} (b : Bool) → (b ≡ true → Says P x) → (b ≡ false → Says P y) → Says P (if b then x else y)
choice true h k = h refl
choice false h k = k refl

pub answered : {X : Type 0} (P : X → Type 0) (o : Option X) (x : X) → Says P o → o ≡ Some x → P x
answered P o x h e = (subst (Says P) e h).holds

-- ---- the first token

pub is_sign-true : (x : Sign) (form : Form) → is_sign x form ≡ true → f.Sign x ≡ form
unfolding same_sign
is_sign-true x (f.Sign y) h = ap f.Sign (sym (same_true signs (search rules) y x h))
is_sign-true x _ h = absurd cc

pub is_word-true : (x : Word) (form : Form) → is_word x form ≡ true → f.Word x ≡ form
unfolding same_word
is_word-true x (f.Word y) h = ap f.Word (sym (same_true words (search rules) y x h))
is_word-true x _ h = absurd cc

pub sign_ahead : (x : Sign) (ts : Tokens) → next_sign x ts ≡ true → (p : Span) × (sign x p ∷ behind ts ≡ ts)
sign_ahead x [] h = absurd cc
sign_ahead x (t ∷ ts) h = (span t.from t.to, ap (λ (g : Form). token g (span t.from t.to) ∷ ts) (is_sign-true x t.form h))

pub word_ahead : (x : Word) (ts : Tokens) → next_word x ts ≡ true → (p : Span) × (word x p ∷ behind ts ≡ ts)
word_ahead x [] h = absurd cc
word_ahead x (t ∷ ts) h = (span t.from t.to, ap (λ (g : Form). token g (span t.from t.to) ∷ ts) (is_word-true x t.form h))

-- What holds of the tokens holds with the token that is taken at their front.
pub take_sign : {Y : Type 0} {P : Y → Type 0} {c : Span × Tokens → Option Y} (x : Sign) (ts : Tokens) (D : Tokens → Type 0) → D ts
    → ((r : Span × Tokens) → D (sign x r.0 ∷ r.1) → Says P (c r)) → Says P (sign_at x ts >>= c)
unfolding sign_at
take_sign x [] D d k = none
take_sign {P = P} {c = c} x (t ∷ ts) D d k = go (is_sign x t.form) refl
  where
    go : (b : Bool) → is_sign x t.form ≡ b → Says P ((if b then Some (span t.from t.to, ts) else None) >>= c)
    go true e = k (span t.from t.to, ts) (subst (λ (g : Form). D (token g (span t.from t.to) ∷ ts)) (sym (is_sign-true x t.form e)) d)
    go false e = none

pub take_word : {Y : Type 0} {P : Y → Type 0} {c : Span × Tokens → Option Y} (x : Word) (ts : Tokens) (D : Tokens → Type 0) → D ts
    → ((r : Span × Tokens) → D (word x r.0 ∷ r.1) → Says P (c r)) → Says P (word_at x ts >>= c)
unfolding word_at
take_word x [] D d k = none
take_word {P = P} {c = c} x (t ∷ ts) D d k = go (is_word x t.form) refl
  where
    go : (b : Bool) → is_word x t.form ≡ b → Says P ((if b then Some (span t.from t.to, ts) else None) >>= c)
    go true e = k (span t.from t.to, ts) (subst (λ (g : Form). D (token g (span t.from t.to) ∷ ts)) (sym (is_word-true x t.form e)) d)
    go false e = none

pub take_name : {Y : Type 0} {P : Y → Type 0} {c : Name × Tokens → Option Y} (ts : Tokens) (D : Tokens → Type 0) → D ts
    → ((r : Name × Tokens) → D (ident r.0.text r.0.span ∷ r.1) → Says P (c r)) → Says P (name_at ts >>= c)
unfolding name_at
take_name [] D d k = none
take_name {P = P} {c = c} (t ∷ ts) D d k = go t.form d
  where
    go : (form : Form) → D (token form (span t.from t.to) ∷ ts) → Says P (name_by form (span t.from t.to) ts >>= c)
    go (f.Name x) e = k (name_of x (span t.from t.to), ts) e
    go _ e = none

pub some_is : {A : Type 0} (x y : A) → (let s : A → Option A = Some in s x ≡ s y) → x ≡ y
some_is x y h = cc

-- what is answered is the answer
pub itself : {X : Type 0} (o : Option X) → Says (λ x. o ≡ Some x) o
itself None = none
itself (Some x) = done refl
