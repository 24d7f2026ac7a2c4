-- What a parser's answer says of the tokens: either it takes pieces that are of its form before any other tokens, or it
-- stops where pieces of its form begin with what it took. In both cases another parser answers the same before all tokens
-- that go on with the same one.
use Rattle.std.proofs.Common.{◌≡◌, ◌⊎◌, ℕ, ◌<◌, ◌≤◌, Bool, true, false, cond, [], ◌∷◌, length, Some, Result, Ok, Err, refl, sym, ap, ◌∙◌, subst, inl, inr, arith}
use Rattle.js_tree.specs.Tokens.{Bytes, Place, Token, Tokens}
use Rattle.js_tree.specs.Grammar.{word, sign}
use Rattle.std.specs.Str.{bytes_eq}
use Rattle.js_reader.specs.Taking.{Found, Parser, ◌>>=◌, place, on_new_line, on_line, sign_by, word_by, sign_of, word_of, after_sign, after_word, sign_is, word_is, expect, expect_word}
use Rattle.js_reader.proofs.Fronted.{sign_next, word_next, expect_same, expect_word_same}
use Rattle.js_reader.proofs.Pieces.{Pieces, nothing, token, both, put, head_of, put_longer, put_head}

-- where a token is put that no file has
abbrev pub nowhere : Place
nowhere = record { from = 0; on_new_line = false }

-- pieces of a form, with a value
abbrev pub Form : Type 0 → Type 1
Form A = Pieces → A → Type 0

abbrev pub Least : {A : Type 0} → Form A → Type 0
Least {A} W = (w : Pieces) × (x : A) × W w x

-- nothing, with this value
pub data Gives {A : Type 0} (x : A) : Pieces → A → Type 0 where
  gives : Gives x nothing x

-- what holds of nothing and of this value
pub given : {A : Type 0} {x : A} (P : Form A) {w : Pieces} {y : A} → Gives x w y → P nothing x → P w y
given P gives h = h

-- a token with a place, and then others
pub data Led {A : Type 0} (t : Place → Token) (W : Place → Form A) : Pieces → A → Type 0 where
  led : {w : Pieces} {x : A} (at : Place) → W at w x → Led t W (token (t at) w) x

-- pieces, and then others
pub data Seq {A B : Type 0} (V : Form A) (W : A → Form B) : Pieces → B → Type 0 where
  seq : {v w : Pieces} {x : A} {y : B} → V v x → W x w y → Seq V W (both v w) y

-- ---- the least pieces of a form

pub least_give : {A : Type 0} (x : A) → Least (Gives x)
least_give x = (nothing, x, gives)

pub least_led : {A : Type 0} {t : Place → Token} {W : Place → Form A} → Least (W nowhere) → Least (Led t W)
least_led {t = t} l = (token (t nowhere) l.0, l.1, led nowhere l.2)

pub least_seq : {A B : Type 0} {V : Form A} {W : A → Form B} → Least V → ((x : A) → Least (W x)) → Least (Seq V W)
least_seq l others = let m = others l.1 in (both l.0 m.0, m.1, seq l.2 m.2)

pub least_map : {A : Type 0} {V W : Form A} → ((w : Pieces) (x : A) → V w x → W w x) → Least V → Least W
least_map f l = (l.0, l.1, f l.0 l.1 l.2)

-- ---- answers

pub data Answer {A : Type 0} (size : ℕ) (W : Form A) (q : Parser A) (ts : Tokens) : Found A → Type 0 where
  took : (w : Pieces) (x : A) (rest : Tokens) → W w x → ts ≡ put w rest → ((late : Tokens) → head_of late ≡ head_of rest → q (put w late) ≡ Ok (x, late)) → Answer size W q ts (Ok (x, rest))
  stopped : (w : Pieces) (x : A) (front more : Pieces) (rest : Tokens) → W w x → ts ≡ put front rest → ((tail : Tokens) → put w tail ≡ put front (put more tail))
      → ((late : Tokens) → head_of late ≡ head_of rest → q (put front late) ≡ Err (place size rest)) → Answer size W q ts (Err (place size rest))

-- how p answers on these tokens, and q on others
pub record Reads {A : Type 0} (size : ℕ) (W : Form A) (p q : Parser A) (ts : Tokens) : Type 0 where
  pub answer : Answer size W q ts (p ts)

-- p took these pieces of the form V
pub record Taken {A : Type 0} (V : Form A) (p : Parser A) (ts : Tokens) (x : A) (rest : Tokens) : Type 0 where
  pub less : length rest ≤ length ts
  pub pieces : Pieces
  pub holds : V pieces x
  pub is : ts ≡ put pieces rest
  pub answers : p ts ≡ Ok (x, rest)

-- ---- the first token

pub same_sign : (late rest : Tokens) → head_of late ≡ head_of rest → sign_of late ≡ sign_of rest
same_sign [] [] e = refl
same_sign [] (t ∷ rest) e = absurd cc
same_sign (t ∷ late) [] e = absurd cc
same_sign (t ∷ late) (u ∷ rest) e = let same : t ≡ u = cc in ap (λ (x : Token). sign_by x.form) same

pub same_word : (late rest : Tokens) → head_of late ≡ head_of rest → word_of late ≡ word_of rest
same_word [] [] e = refl
same_word [] (t ∷ rest) e = absurd cc
same_word (t ∷ late) [] e = absurd cc
same_word (t ∷ late) (u ∷ rest) e = let same : t ≡ u = cc in ap (λ (x : Token). word_by x.form) same

nothing_or : (w : Pieces) → ((tail : Tokens) → put w tail ≡ tail) ⊎ ((t : Token) × ((tail : Tokens) → head_of (put w tail) ≡ Some t))
nothing_or nothing = inl (λ tail. refl)
nothing_or (token t a) = inr (t, λ tail. refl)
nothing_or (both a b) = by (nothing_or a) (nothing_or b) where
  by : ((tail : Tokens) → put a tail ≡ tail) ⊎ ((t : Token) × ((tail : Tokens) → head_of (put a tail) ≡ Some t)) → ((tail : Tokens) → put b tail ≡ tail) ⊎ ((t : Token) × ((tail : Tokens) → head_of (put b tail) ≡ Some t))
      → ((tail : Tokens) → put a (put b tail) ≡ tail) ⊎ ((t : Token) × ((tail : Tokens) → head_of (put a (put b tail)) ≡ Some t))
  by (inl n) (inl m) = inl (λ tail. n (put b tail) ∙ m tail)
  by (inl n) (inr s) = inr (s.0, λ tail. ap head_of (n (put b tail)) ∙ s.1 tail)
  by (inr s) m = inr (s.0, λ tail. s.1 (put b tail))

-- there is none, or it is the one that stands here
abbrev pub FromHere : Tokens → Pieces → Type 0
FromHere ts w = ((tail : Tokens) → put w tail ≡ tail) ⊎ ((tail : Tokens) → head_of (put w tail) ≡ head_of ts)

pub same_line : (late rest : Tokens) → head_of late ≡ head_of rest → on_new_line late ≡ on_new_line rest
same_line [] [] e = refl
same_line [] (t ∷ rest) e = absurd cc
same_line (t ∷ late) [] e = absurd cc
same_line (t ∷ late) (u ∷ rest) e = let same : t ≡ u = cc in ap (λ (x : Token). x.place.on_new_line) same

-- pieces with a first token, on the line of the token before
abbrev pub OnLine : {A : Type 0} → Form A → Form A
OnLine W w x = W w x × ((tail : Tokens) → (t : Token) × (late : Tokens) × (put w tail ≡ t ∷ late) × (t.place.on_new_line ≡ false))

module _ (size : ℕ) where
  pub map : {A : Type 0} {V W : Form A} {p q : Parser A} {ts : Tokens} → ((w : Pieces) (x : A) → V w x → W w x) → Reads size V p q ts → Reads size W p q ts
  map {A} {V} {W} {p} {q} {ts} f r = record { answer = by r.answer } where
    by : {o : Found A} → Answer size V q ts o → Answer size W q ts o
    by (took w x rest v is again) = took w x rest (f w x v) is again
    by (stopped w x front more rest v is splits again) = stopped w x front more rest (f w x v) is splits again

  pub give : {A : Type 0} (x : A) (ts : Tokens) → Reads size (Gives x) (λ us. Ok (x, us)) (λ us. Ok (x, us)) ts
  give x ts = record { answer = took nothing x ts gives refl (λ late e. refl) }

  pub same_place : (late rest : Tokens) → head_of late ≡ head_of rest → place size late ≡ place size rest
  same_place [] [] e = refl
  same_place [] (t ∷ rest) e = absurd cc
  same_place (t ∷ late) [] e = absurd cc
  same_place (t ∷ late) (u ∷ rest) e = let same : t ≡ u = cc in ap (λ (x : Token). x.place.from) same

  pub fail : {A : Type 0} {W : Form A} (ts : Tokens) → Least W → Reads size W (λ us. Err (place size us)) (λ us. Err (place size us)) ts
  fail {A} ts l = record { answer = stopped l.0 l.1 nothing l.0 ts l.2 refl (λ tail. refl) (λ late e. ap (λ (at : ℕ). let err : ℕ → Found A = Err in err at) (same_place late ts e)) }

  pub bind : {A B : Type 0} {V : Form A} {W : A → Form B} {p q : Parser A} (f g : A × Tokens → Found B) {ts : Tokens} → Reads size V p q ts → ((x : A) → Least (W x))
      → ((x : A) (rest : Tokens) → Taken V p ts x rest → Reads size (W x) (λ us. f (x, us)) (λ us. g (x, us)) rest) → Reads size (Seq V W) (λ us. p us >>= f) (λ us. q us >>= g) ts
  bind {A} {B} {V} {W} {p} {q} f g {ts} first least second = record { answer = by (p ts) refl first.answer } where
    then : (v : Pieces) (x : A) (rest : Tokens) → V v x → ts ≡ put v rest → ((late : Tokens) → head_of late ≡ head_of rest → q (put v late) ≡ Ok (x, late))
        → {o : Found B} → Answer size (W x) (λ us. g (x, us)) rest o → Answer size (Seq V W) (λ us. q us >>= g) ts o
    then v x rest h is again (took w y end k here on) =
        took (both v w) y end (seq h k) (is ∙ ap (put v) here)
        (λ late e. ap (λ (r : Found A). r >>= g) (again (put w late) (put_head w late end e ∙ ap head_of (sym here))) ∙ on late e)
    then v x rest h is again (stopped w y front more end k here splits on) =
        stopped (both v w) y (both v front) more end (seq h k) (is ∙ ap (put v) here) (λ tail. ap (put v) (splits tail))
        (λ late e. ap (λ (r : Found A). r >>= g) (again (put front late) (put_head front late end e ∙ ap head_of (sym here))) ∙ on late e)

    by : (o : Found A) → p ts ≡ o → Answer size V q ts o → Answer size (Seq V W) (λ us. q us >>= g) ts (o >>= f)
    by _ i (took v x rest h is again) =
        then v x rest h is again (second x rest (record { less = omega (arith, put_longer v rest, ap length is); pieces = v; holds = h; is = is; answers = i })).answer
    by _ i (stopped v x front more rest h is splits again) =
        let l = least x in
        stopped (both v l.0) l.1 front (both more l.0) rest (seq h l.2) is (λ tail. splits (put l.0 tail)) (λ late e. ap (λ (r : Found A). r >>= g) (again late e))

  -- the same answers by other parsers
  pub along : {A : Type 0} {W : Form A} {p o q r : Parser A} {ts : Tokens} → p ts ≡ o ts → ((us : Tokens) → head_of us ≡ head_of ts → q us ≡ r us) → Reads size W o r ts → Reads size W p q ts
  along {A} {W} {p} {o} {q} {r} {ts} here there reads = record { answer = subst (λ (f : Found A). Answer size W q ts f) (sym here) (by reads.answer) } where
    by : {f : Found A} → Answer size W r ts f → Answer size W q ts f
    by (took w x rest k is again) = took w x rest k is (λ late e. there (put w late) (put_head w late rest e ∙ ap head_of (sym is)) ∙ again late e)
    by (stopped w x front more rest k is splits again) = stopped w x front more rest k is splits (λ late e. there (put front late) (put_head front late rest e ∙ ap head_of (sym is)) ∙ again late e)

  -- a choice by the next token
  pub choose : {A : Type 0} {W : Form A} {a b c d : Parser A} {ts : Tokens} (t : Tokens → Bool) → ((late rest : Tokens) → head_of late ≡ head_of rest → t late ≡ t rest)
      → (t ts ≡ true → Reads size W a c ts) → (t ts ≡ false → Reads size W b d ts) → Reads size W (λ us. cond (t us) (a us) (b us)) (λ us. cond (t us) (c us) (d us)) ts
  choose {A} {W} {a} {b} {c} {d} {ts} t same holds fails = by (t ts) refl where
    by : (v : Bool) → t ts ≡ v → Reads size W (λ us. cond (t us) (a us) (b us)) (λ us. cond (t us) (c us) (d us)) ts
    by true e = along (ap (λ (v : Bool). cond v (a ts) (b ts)) e) (λ us i. ap (λ (v : Bool). cond v (c us) (d us)) (same us ts i ∙ e)) (holds e)
    by false e = along (ap (λ (v : Bool). cond v (a ts) (b ts)) e) (λ us i. ap (λ (v : Bool). cond v (c us) (d us)) (same us ts i ∙ e)) (fails e)

  pub by_sign : {A : Type 0} {W : Form A} {a b c d : Parser A} {ts : Tokens} (text : Bytes) → (sign_is text ts ≡ true → Reads size W a c ts) → (sign_is text ts ≡ false → Reads size W b d ts)
      → Reads size W (λ us. cond (sign_is text us) (a us) (b us)) (λ us. cond (sign_is text us) (c us) (d us)) ts
  by_sign text holds fails = choose (sign_is text) (λ late rest e. ap (λ (x : Bytes). bytes_eq x text) (same_sign late rest e)) holds fails

  pub by_word : {A : Type 0} {W : Form A} {a b c d : Parser A} {ts : Tokens} (text : Bytes) → (word_is text ts ≡ true → Reads size W a c ts) → (word_is text ts ≡ false → Reads size W b d ts)
      → Reads size W (λ us. cond (word_is text us) (a us) (b us)) (λ us. cond (word_is text us) (c us) (d us)) ts
  by_word text holds fails = choose (word_is text) (λ late rest e. ap (λ (x : Bytes). bytes_eq x text) (same_word late rest e)) holds fails

  -- ---- a token, and then others

  pub lead : {A : Type 0} {W : Place → Form A} {p q : Parser A} {rest : Tokens} (t : Place → Token) (at : Place) → Reads size (W at) (λ us. p (t at ∷ us)) (λ us. q (t at ∷ us)) rest → Reads size (Led t W) p q (t at ∷ rest)
  lead {A} {W} {p} {q} {rest} t at reads = record { answer = by reads.answer } where
    by : {f : Found A} → Answer size (W at) (λ us. q (t at ∷ us)) rest f → Answer size (Led t W) q (t at ∷ rest) f
    by (took w x end k is again) = took (token (t at) w) x end (led at k) (ap (λ (us : Tokens). t at ∷ us) is) again
    by (stopped w x front more end k is splits again) = stopped (token (t at) w) x (token (t at) front) more end (led at k) (ap (λ (us : Tokens). t at ∷ us) is) (λ tail. ap (λ (us : Tokens). t at ∷ us) (splits tail)) again

  -- a sign that was seen
  pub sign_taken : {A : Type 0} {W : Place → Form A} {p q : Parser A} {ts : Tokens} (c : ℕ) (more : Bytes) → sign_is (c ∷ more) ts ≡ true
      → ((at : Place) (rest : Tokens) → length rest < length ts → Reads size (W at) (λ us. p (sign (c ∷ more) at ∷ us)) (λ us. q (sign (c ∷ more) at ∷ us)) rest) → Reads size (Led (sign (c ∷ more)) W) p q ts
  sign_taken {A} {W} {p} {q} {ts} c more m others =
      let n = sign_next c more ts m in
      subst (λ (us : Tokens). Reads size (Led (sign (c ∷ more)) W) p q us) (sym n.1) (lead (sign (c ∷ more)) n.0 (others n.0 (after_sign ts) (omega (arith, ap length n.1))))

  -- a word that was seen
  pub word_taken : {A : Type 0} {W : Place → Form A} {p q : Parser A} {ts : Tokens} (c : ℕ) (more : Bytes) → word_is (c ∷ more) ts ≡ true
      → ((at : Place) (rest : Tokens) → length rest < length ts → Reads size (W at) (λ us. p (word (c ∷ more) at ∷ us)) (λ us. q (word (c ∷ more) at ∷ us)) rest) → Reads size (Led (word (c ∷ more)) W) p q ts
  word_taken {A} {W} {p} {q} {ts} c more m others =
      let n = word_next c more ts m in
      subst (λ (us : Tokens). Reads size (Led (word (c ∷ more)) W) p q us) (sym n.1) (lead (word (c ∷ more)) n.0 (others n.0 (after_word ts) (omega (arith, ap length n.1))))

  abbrev pub Follows : {A : Type 0} → (Place → Form A) → (f g : Tokens → Found A) → Tokens → Type 0
  Follows W f g ts = (at : Place) (rest : Tokens) → length rest < length ts → Reads size (W at) f g rest

  pub sign_then : {A : Type 0} {W : Place → Form A} {f g : Parser A} {ts : Tokens} (c : ℕ) (more : Bytes) → Least (W nowhere) → Follows W f g ts
      → Reads size (Led (sign (c ∷ more)) W) (λ us. expect size (c ∷ more) us >>= f) (λ us. expect size (c ∷ more) us >>= g) ts
  unfolding expect
  sign_then {A} {W} {f} {g} {ts} c more l others = by (sign_is (c ∷ more) ts) refl where
    by : (v : Bool) → sign_is (c ∷ more) ts ≡ v → Reads size (Led (sign (c ∷ more)) W) (λ us. expect size (c ∷ more) us >>= f) (λ us. expect size (c ∷ more) us >>= g) ts
    by true e =
        sign_taken c more e
        (λ at rest less. along (ap (λ (r : Result Tokens ℕ). r >>= f) (expect_same size c more at rest)) (λ us i. ap (λ (r : Result Tokens ℕ). r >>= g) (expect_same size c more at us)) (others at rest less))
    by false e =
        along (ap (λ (v : Bool). cond v (Ok (after_sign ts)) (Err (place size ts)) >>= f) e)
        (λ us i. ap (λ (v : Bool). cond v (Ok (after_sign us)) (Err (place size us)) >>= g) (ap (λ (x : Bytes). bytes_eq x (c ∷ more)) (same_sign us ts i) ∙ e))
        (fail ts (least_led l))

  pub word_then : {A : Type 0} {W : Place → Form A} {f g : Parser A} {ts : Tokens} (c : ℕ) (more : Bytes) → Least (W nowhere) → Follows W f g ts
      → Reads size (Led (word (c ∷ more)) W) (λ us. expect_word size (c ∷ more) us >>= f) (λ us. expect_word size (c ∷ more) us >>= g) ts
  unfolding expect_word
  word_then {A} {W} {f} {g} {ts} c more l others = by (word_is (c ∷ more) ts) refl where
    by : (v : Bool) → word_is (c ∷ more) ts ≡ v → Reads size (Led (word (c ∷ more)) W) (λ us. expect_word size (c ∷ more) us >>= f) (λ us. expect_word size (c ∷ more) us >>= g) ts
    by true e =
        word_taken c more e
        (λ at rest less. along (ap (λ (r : Result Tokens ℕ). r >>= f) (expect_word_same size c more at rest)) (λ us i. ap (λ (r : Result Tokens ℕ). r >>= g) (expect_word_same size c more at us)) (others at rest less))
    by false e =
        along (ap (λ (v : Bool). cond v (Ok (after_word ts)) (Err (place size ts)) >>= f) e)
        (λ us i. ap (λ (v : Bool). cond v (Ok (after_word us)) (Err (place size us)) >>= g) (ap (λ (x : Bytes). bytes_eq x (c ∷ more)) (same_word us ts i) ∙ e))
        (fail ts (least_led l))

  -- ---- where a reading begins

  -- what is read begins here, or it can be another one altogether
  pub opened : {A : Type 0} {V W : Form A} {p q : Parser A} {ts : Tokens} → Least V → Reads size W p q ts → Reads size (λ w x. (W w x × FromHere ts w) ⊎ V w x) p q ts
  opened {A} {V} {W} {p} {q} {ts} l reads = record { answer = by reads.answer } where
    here : (w more : Pieces) (x : A) (front : Pieces) (rest : Tokens) → W w x → ts ≡ put front rest → ((tail : Tokens) → put w tail ≡ put front (put more tail)) → ((late : Tokens) → head_of late ≡ head_of rest → q (put front late) ≡ Err (place size rest))
        → ((tail : Tokens) → put front tail ≡ tail) ⊎ ((t : Token) × ((tail : Tokens) → head_of (put front tail) ≡ Some t)) → Answer size (λ w x. (W w x × FromHere ts w) ⊎ V w x) q ts (Err (place size rest))
    here w more x front rest h is splits again (inl n) = stopped l.0 l.1 nothing l.0 rest (inr l.2) (is ∙ n rest) (λ tail. refl) (λ late e. ap q (sym (n late)) ∙ again late e)
    here w more x front rest h is splits again (inr s) =
        stopped w x front more rest (inl (h, inr (λ tail. ap head_of (splits tail) ∙ (s.1 (put more tail) ∙ sym (ap head_of is ∙ s.1 rest))))) is splits again

    begun : (w : Pieces) (rest : Tokens) → ts ≡ put w rest → ((tail : Tokens) → put w tail ≡ tail) ⊎ ((t : Token) × ((tail : Tokens) → head_of (put w tail) ≡ Some t)) → FromHere ts w
    begun w rest is (inl n) = inl n
    begun w rest is (inr s) = inr (λ tail. s.1 tail ∙ sym (ap head_of is ∙ s.1 rest))

    by : {f : Found A} → Answer size W q ts f → Answer size (λ w x. (W w x × FromHere ts w) ⊎ V w x) q ts f
    by (took w x rest h is again) = took w x rest (inl (h, begun w rest is (nothing_or w))) is again
    by (stopped w x front more rest h is splits again) = here w more x front rest h is splits again (nothing_or front)

  pub line_then : {A : Type 0} {W : Form A} {f g : Parser A} {ts : Tokens} → Least (OnLine W) → ((w : Pieces) (x : A) → W w x → (tail : Tokens) → (t : Token) × (late : Tokens) × (put w tail ≡ t ∷ late)) → Reads size W f g ts
      → Reads size (OnLine W) (λ us. on_line size us >>= f) (λ us. on_line size us >>= g) ts
  unfolding on_line
  line_then {A} {W} {f} {g} {ts} l some reads = by (on_new_line ts) refl where
    same : (w : Pieces) (x : A) → on_new_line ts ≡ false → W w x → FromHere ts w → OnLine W w x
    same w x e h (inl n) = let s = some w x h [] in let no : [] ≡ s.0 ∷ s.1 = sym (n []) ∙ s.2 in absurd cc
    same w x e h (inr i) =
        (h, λ tail. let s = some w x h tail in (s.0, s.1, s.2, ap on_new_line (sym s.2) ∙ (same_line (put w tail) ts (i tail) ∙ e)))

    either : (w : Pieces) (x : A) → on_new_line ts ≡ false → (W w x × FromHere ts w) ⊎ OnLine W w x → OnLine W w x
    either w x e (inl h) = same w x e h.0 h.1
    either w x e (inr h) = h

    by : (v : Bool) → on_new_line ts ≡ v → Reads size (OnLine W) (λ us. on_line size us >>= f) (λ us. on_line size us >>= g) ts
    by true e =
        along (ap (λ (v : Bool). cond v (Err (place size ts)) (Ok ts) >>= f) e) (λ us i. ap (λ (v : Bool). cond v (Err (place size us)) (Ok us) >>= g) (same_line us ts i ∙ e)) (fail ts l)
    by false e =
        along (ap (λ (v : Bool). cond v (Err (place size ts)) (Ok ts) >>= f) e) (λ us i. ap (λ (v : Bool). cond v (Err (place size us)) (Ok us) >>= g) (same_line us ts i ∙ e))
        (map (λ w x h. either w x e h) (opened l reads))
