-- A token is taken exactly where it stands.
use Rattle.std.proofs.Common.{◌≡◌, ℕ, true, cond, List, [], ◌∷◌, Some, None, refl, ap, ◌∙◌, subst, rules}
use Rattle.std.specs.List.{list_all}
use Rattle.std.specs.Str.{bytes_eq}
use denote.Enum.Bare.{same_true, true_same}
use Rattle.dart_syntax.specs.contracts.words.Sign.{the_type as marks}
use Rattle.dart_syntax.specs.declared.words.Word.TheVariants as w
use Rattle.dart_syntax.specs.declared.words.Sign.{Sign as Mark}
use Rattle.dart_syntax.specs.declared.words.Sign.TheVariants as s
use Rattle.dart_syntax.specs.declared.tokens.Form.{Form}
use Rattle.dart_syntax.specs.declared.tokens.Form.TheVariants as f
use Rattle.dart_meaning.specs.declared.program.Sign.{Sign}
use Rattle.dart_meaning.specs.declared.program.Sign.TheVariants.{Plus, Minus}
use Rattle.dart_meaning.specs.Program.{Forms, IsText, is_plain, mark_of, text_forms}
use Rattle.dart_meaning.specs.Reader.{same_mark, is_sign, sign, plus_or_minus, name_in, name, named, is_var, var_word, is_text_open, text_open, is_text_close, text_close, piece_in, piece, text}
use Rattle.dart_meaning.proofs.Named.{same_bytes, bytes_same}
use Rattle.dart_meaning.proofs.Steps.{some_same, after, either, chosen}

-- ---- a sign

is_sign-same : (x : Mark) → is_sign x (f.Sign x) ≡ true
unfolding same_mark
is_sign-same x = true_same marks x x refl

is_sign-true : (x : Mark) (form : Form) → is_sign x form ≡ true → form ≡ f.Sign x
unfolding same_mark
is_sign-true x (f.Sign y) h = ap f.Sign (same_true marks (search rules) y x h)
is_sign-true x _ h = absurd cc

pub takes_sign : (x : Mark) (more : Forms) → sign x (f.Sign x ∷ more) ≡ Some more
unfolding sign
takes_sign x more = ap (λ t. cond t (Some more) None) (is_sign-same x)

pub gives_sign : (x : Mark) (fs rest : Forms) → sign x fs ≡ Some rest → fs ≡ f.Sign x ∷ rest
unfolding sign
gives_sign x [] rest e = cc
gives_sign x (form ∷ fs) rest e =
    let c = chosen (is_sign x form) fs rest e in
    ap (λ (g : Form). g ∷ fs) (is_sign-true x form c.0) ∙ ap (λ (l : Forms). f.Sign x ∷ l) c.1

no_plus : (more : Forms) → sign s.Plus (f.Sign s.Minus ∷ more) ≡ None
unfolding sign same_mark
no_plus more = refl

plus_found : (fs rest : Forms) → sign s.Plus fs ≡ Some rest → plus_or_minus fs ≡ Some (Plus, rest)
unfolding plus_or_minus
plus_found fs rest e = rw e refl

minus_found : (fs rest : Forms) → sign s.Plus fs ≡ None → sign s.Minus fs ≡ Some rest → plus_or_minus fs ≡ Some (Minus, rest)
unfolding plus_or_minus
minus_found fs rest none e = rw (none, e) refl

pub takes_plus_or_minus : (m : Sign) (more : Forms) → plus_or_minus (f.Sign (mark_of m) ∷ more) ≡ Some (m, more)
takes_plus_or_minus Plus more = plus_found (f.Sign s.Plus ∷ more) more (takes_sign s.Plus more)
takes_plus_or_minus Minus more = minus_found (f.Sign s.Minus ∷ more) more (no_plus more) (takes_sign s.Minus more)

pub gives_plus_or_minus : (got : Sign × Forms) (fs : Forms) → plus_or_minus fs ≡ Some got → fs ≡ f.Sign (mark_of got.0) ∷ got.1
unfolding plus_or_minus
gives_plus_or_minus got fs e =
    either (sign s.Plus fs) _ _ got _ e
    (λ rest er e. subst (λ (g : Sign × Forms). fs ≡ f.Sign (mark_of g.0) ∷ g.1) (some_same (Plus, rest) got e) (gives_sign s.Plus fs rest er))
    (λ none e. after (sign s.Minus fs) _ got _ e (λ rest er e.
    subst (λ (g : Sign × Forms). fs ≡ f.Sign (mark_of g.0) ∷ g.1) (some_same (Minus, rest) got e) (gives_sign s.Minus fs rest er)))

-- ---- a name

name_in-is : (form : Form) (text : List ℕ) → name_in form ≡ Some text → form ≡ f.Name text
name_in-is (f.Name x) text e = ap f.Name (some_same x text e)
name_in-is _ text e = absurd cc

pub takes_name : (text : List ℕ) (more : Forms) → name (f.Name text ∷ more) ≡ Some (text, more)
unfolding name
takes_name text more = refl

pub gives_name : (got : List ℕ × Forms) (fs : Forms) → name fs ≡ Some got → fs ≡ f.Name got.0 ∷ got.1
unfolding name
gives_name got [] e = cc
gives_name got (form ∷ fs) e =
    after (name_in form) _ got _ e (λ text et e.
    subst (λ (g : List ℕ × Forms). form ∷ fs ≡ f.Name g.0 ∷ g.1) (some_same (text, fs) got e) (ap (λ (g : Form). g ∷ fs) (name_in-is form text et)))

pub takes_named : (text : List ℕ) (more : Forms) → named text (f.Name text ∷ more) ≡ Some more
unfolding named name
takes_named text more = rw (same_bytes text text refl) refl

pub gives_named : (text : List ℕ) (fs rest : Forms) → named text fs ≡ Some rest → fs ≡ f.Name text ∷ rest
unfolding named
gives_named text fs rest e =
    after (name fs) _ rest _ e (λ n en e.
    let c = chosen (bytes_eq n.0 text) n.1 rest e in
    gives_name n fs en ∙ ap (λ (t : List ℕ). f.Name t ∷ n.1) (bytes_same n.0 text c.0) ∙ ap (λ (l : Forms). f.Name text ∷ l) c.1)

-- ---- var

is_var-true : (form : Form) → is_var form ≡ true → form ≡ f.Word w.Var
is_var-true (f.Word w.Var) h = refl
is_var-true _ h = absurd cc

pub gives_var : (fs rest : Forms) → var_word fs ≡ Some rest → fs ≡ f.Word w.Var ∷ rest
unfolding var_word
gives_var [] rest e = cc
gives_var (form ∷ fs) rest e =
    let c = chosen (is_var form) fs rest e in
    ap (λ (g : Form). g ∷ fs) (is_var-true form c.0) ∙ ap (λ (l : Forms). f.Word w.Var ∷ l) c.1

-- ---- a text

is_text_open-true : (form : Form) → is_text_open form ≡ true → form ≡ f.TextOpen
is_text_open-true f.TextOpen h = refl
is_text_open-true _ h = absurd cc

is_text_close-true : (form : Form) → is_text_close form ≡ true → form ≡ f.TextClose
is_text_close-true f.TextClose h = refl
is_text_close-true _ h = absurd cc

piece_in-is : (form : Form) (units : List ℕ) → piece_in form ≡ Some units → form ≡ f.Piece units
piece_in-is (f.Piece x) units e = ap f.Piece (some_same x units e)
piece_in-is _ units e = absurd cc

gives_open : (fs rest : Forms) → text_open fs ≡ Some rest → fs ≡ f.TextOpen ∷ rest
unfolding text_open
gives_open [] rest e = cc
gives_open (form ∷ fs) rest e =
    let c = chosen (is_text_open form) fs rest e in
    ap (λ (g : Form). g ∷ fs) (is_text_open-true form c.0) ∙ ap (λ (l : Forms). f.TextOpen ∷ l) c.1

gives_close : (fs rest : Forms) → text_close fs ≡ Some rest → fs ≡ f.TextClose ∷ rest
unfolding text_close
gives_close [] rest e = cc
gives_close (form ∷ fs) rest e =
    let c = chosen (is_text_close form) fs rest e in
    ap (λ (g : Form). g ∷ fs) (is_text_close-true form c.0) ∙ ap (λ (l : Forms). f.TextClose ∷ l) c.1

gives_piece : (got : List ℕ × Forms) (fs : Forms) → piece fs ≡ Some got → fs ≡ f.Piece got.0 ∷ got.1
unfolding piece
gives_piece got [] e = cc
gives_piece got (form ∷ fs) e =
    after (piece_in form) _ got _ e (λ units eu e.
    subst (λ (g : List ℕ × Forms). form ∷ fs ≡ f.Piece g.0 ∷ g.1) (some_same (units, fs) got e) (ap (λ (g : Form). g ∷ fs) (piece_in-is form units eu)))

pub takes_text : (units : List ℕ) (more : Forms) → IsText units → text (text_forms units more) ≡ Some (units, more)
unfolding text text_open piece text_close
takes_text units more plain = ap (λ t. cond t (Some (units, more)) None) plain

-- what a text that was read says
pub record TextIs (got : List ℕ × Forms) (fs : Forms) : Type 0 where
  pub plain : IsText got.0
  pub is : fs ≡ text_forms got.0 got.1

pub gives_text : (got : List ℕ × Forms) (fs : Forms) → text fs ≡ Some got → TextIs got fs
unfolding text
gives_text got fs e =
    after (text_open fs) _ got _ e (λ inner ei e.
    after (piece inner) _ got _ e (λ p ep e.
    after (text_close p.1) _ got _ e (λ rest er e.
    let c = chosen (list_all is_plain p.0) (p.0, rest) got e in
    let it : TextIs (p.0, rest) fs = record {
      plain = c.0;
      is = gives_open fs inner ei ∙ ap (λ (l : Forms). f.TextOpen ∷ l) (gives_piece p inner ep ∙ ap (λ (l : Forms). f.Piece p.0 ∷ l) (gives_close p.1 rest er));
    } in
    subst (λ (g : List ℕ × Forms). TextIs g fs) c.1 it)))
