-- One token: what is spelled, the longest and allowed is what a step finds.
use Rattle.std.proofs.Common.{◌≡◌, ℕ, ◌<◌, ◌≤◌, true, false, [], ◌∷◌, ◌++◌, length, drop, Option, Some, None, refl, sym, ap, ◌∙◌, subst, inl, inr, arith, append_assoc}
use Rattle.std.specs.List.{list_all}
use Rattle.std.proofs.lemmas.Bool.Decides.{nat_tests}
use Rattle.std.proofs.lemmas.List.{append-nil, length-append}
use Rattle.dart_syntax.specs.declared.words.Word.{Word}
use Rattle.dart_syntax.specs.declared.words.Sign.{Sign}
use Rattle.dart_syntax.specs.declared.tokens.Form.{Form}
use Rattle.dart_syntax.specs.declared.tokens.Form.TheVariants.{Name, Word as Reserved, Number, Sign as Signed}
use Rattle.dart_syntax.specs.declared.rules.Rule.TheVariants as r
use Rattle.dart_syntax.specs.Table.{Bytes, is_digit, is_start, is_part, is_blank, front, back, spelling_of_sign, word_of, is_identifier, Spells, IsLongest, limit, goes_on_as_double, IsAllowed}
use Rattle.dart_syntax.specs.Reader.{Found, Broken, worded, sign_of, signed, word_step, sign_step, step}
use Rattle.dart_syntax.proofs.Fronts.{tells, clash, and_left, and_right, both_true, Stops, front_is, back_is, all_more, all_behind, no_more}
use Rattle.dart_syntax.proofs.Lookups.{word_one, word_shape, no_word, word_text, begins_plain, sign_one, sign_shape, plain_of, sign_first, no_sign, sign_text}
use Rattle.dart_syntax.proofs.Numbers.{number_some, number_head, number_read, numbered_fine, numbered_double, numbered_large}

-- ---- bytes

pub start_no_digit : (b : ℕ) → is_start b ≡ true → is_digit b ≡ false
start_no_digit b h = grind (arith, nat_tests)

pub start_no_blank : (b : ℕ) → is_start b ≡ true → is_blank b ≡ false
start_no_blank b h = grind (arith, nat_tests)

pub start_part : (b : ℕ) → is_start b ≡ true → is_part b ≡ true
start_part b h = rw h refl

-- ---- words and names

-- an identifier spells a word or a name
pub spelled : (t : Bytes) → is_identifier t ≡ true → (form : Form) × Spells t form
spelled t i = go (word_of t) refl
  where
    go : (o : Option Word) → word_of t ≡ o → (form : Form) × Spells t form
    go None e = (Name t, (refl, i, no_word t e))
    go (Some x) e = (Reserved x, sym (word_text t x e))

-- what begins as an identifier is one
pub word_like : (b : ℕ) (u : Bytes) (form : Form) → is_start b ≡ true → Spells (b ∷ u) form → is_identifier (b ∷ u) ≡ true
word_like b u (Name x) h s = s.1
word_like b u (Reserved x) h s = subst (λ (t : Bytes). is_identifier t ≡ true) (sym s) (word_shape x)
word_like b u (Number n) h s = absurd (clash (number_head b u n s) (start_no_digit b h))
word_like b u (Signed x) h s = absurd (let p = plain_of b (subst (λ (t : Bytes). begins_plain t ≡ true) (sym s) (sign_shape x)) in clash h p.no_start)
word_like b u _ h s = absurd s

-- what begins as neither a word nor a number is a sign
pub sign_like : (b : ℕ) (u : Bytes) (form : Form) → is_start b ≡ false → is_digit b ≡ false → Spells (b ∷ u) form → (x : Sign) × (form ≡ Signed x) × (b ∷ u ≡ spelling_of_sign x)
sign_like b u (Name x) h d s = absurd (clash (and_left _ _ s.1) h)
sign_like b u (Reserved x) h d s = absurd (let i : is_identifier (b ∷ u) ≡ true = subst (λ (t : Bytes). is_identifier t ≡ true) (sym s) (word_shape x) in clash (and_left _ _ i) h)
sign_like b u (Number n) h d s = absurd (clash (number_head b u n s) d)
sign_like b u (Signed x) h d s = (x, refl, s)
sign_like b u _ h d s = absurd s

all_part : (b : ℕ) (u : Bytes) → is_identifier (b ∷ u) ≡ true → list_all is_part (b ∷ u) ≡ true
all_part b u i = rw (start_part b (and_left _ _ i)) (and_right _ _ i)

-- the longest word or name is followed by no byte of one
word_stops : (b : ℕ) (u rest : Bytes) → is_identifier (b ∷ u) ≡ true → IsLongest (b ∷ u) rest → Stops is_part rest
word_stops b u rest i l c more e = elim (tells (is_part c)) [
  | inr n ↦ n
  | inl p ↦ absurd (
      let longer : is_identifier (b ∷ (u ++ c ∷ [])) ≡ true = both_true (and_left _ _ i) (all_more is_part u (c ∷ []) (and_right _ _ i) (rw p refl)) in
      let s = spelled (b ∷ (u ++ c ∷ [])) longer in
      let no : c ∷ [] ≡ [] = l (c ∷ []) more s.0 e s.1 in
      cc)
]

pub word_longest : (b : ℕ) (u rest : Bytes) → is_identifier (b ∷ u) ≡ true → Stops is_part rest → IsLongest (b ∷ u) rest
word_longest b u rest i s more after form e h =
    no_more is_part rest more after s e (all_behind is_part u more (and_right _ _ (word_like b (u ++ more) form (and_left _ _ i) h)))

worded_is : (b : ℕ) (u rest : Bytes) (form : Form) (o : Option Word) → is_identifier (b ∷ u) ≡ true → word_of (b ∷ u) ≡ o → Spells (b ∷ u) form → worded o (b ∷ u) rest ≡ Found form rest
worded_is b u rest (Name x) None i e s = ap (λ (y : Bytes). Found (Name y) rest) (sym s.0)
worded_is b u rest (Name x) (Some word) i e s = absurd (s.2 word (word_text (b ∷ u) word e))
worded_is b u rest (Reserved x) None i e s = absurd (no_word (b ∷ u) e x (sym s))
worded_is b u rest (Reserved x) (Some word) i e s = ap (λ (y : Word). Found (Reserved y) rest) (word_one word x (word_text (b ∷ u) word e ∙ s))
worded_is b u rest (Number n) o i e s = absurd (clash (number_head b u n s) (start_no_digit b (and_left _ _ i)))
worded_is b u rest (Signed x) o i e s = absurd (let p = plain_of b (subst (λ (t : Bytes). begins_plain t ≡ true) (sym s) (sign_shape x)) in clash (and_left _ _ i) p.no_start)
worded_is b u rest _ o i e s = absurd s

pub word_at : (bs t rest : Bytes) → front is_part bs ≡ t → back is_part bs ≡ rest → word_step bs ≡ worded (word_of t) t rest
unfolding word_step
word_at bs t rest e g = ap (λ (x : Bytes). worded (word_of x) x (back is_part bs)) e ∙ ap (λ (y : Bytes). worded (word_of t) t y) g

word_complete : (b : ℕ) (u rest : Bytes) (form : Form) → is_start b ≡ true → Spells (b ∷ u) form → IsLongest (b ∷ u) rest → step (b ∷ (u ++ rest)) ≡ Found form rest
unfolding step
word_complete b u rest form h s l =
    let i = word_like b u form h s in
    let stops = word_stops b u rest i l in
    let front-is : front is_part (b ∷ (u ++ rest)) ≡ b ∷ u = front_is is_part (b ∷ u) rest (all_part b u i) stops in
    let back-is : back is_part (b ∷ (u ++ rest)) ≡ rest = back_is is_part (b ∷ u) rest (all_part b u i) stops in
    rw (start_no_blank b h, h) (word_at (b ∷ (u ++ rest)) (b ∷ u) rest front-is back-is ∙ worded_is b u rest form (word_of (b ∷ u)) i refl s)

-- what a word's step found is spelled
pub worded_spells : (t : Bytes) (o : Option Word) → is_identifier t ≡ true → word_of t ≡ o → (rest : Bytes) → (form : Form) × (worded o t rest ≡ Found form rest) × Spells t form × IsAllowed form rest
worded_spells t None i e rest = (Name t, refl, (refl, i, no_word t e), tt)
worded_spells t (Some word) i e rest = (Reserved word, refl, sym (word_text t word e), tt)

-- ---- signs

-- of two fronts the longer goes on where the shorter ends
cut_of : (t r u s : Bytes) → t ++ r ≡ u ++ s → length t ≤ length u → (m : Bytes) × (u ≡ t ++ m) × (r ≡ m ++ s)
cut_of [] r u s e l = (u, refl, e)
cut_of (b ∷ t) r [] s e l = absurd (omega arith)
cut_of (b ∷ t) r (c ∷ u) s e l =
    let rest : t ++ r ≡ u ++ s = cc in
    let head : c ≡ b = cc in
    let m = cut_of t r u s rest (omega arith) in
    (m.0, ap (λ (x : ℕ). x ∷ u) head ∙ ap (λ (xs : Bytes). b ∷ xs) m.1, m.2)

signed_is : (bs rest : Bytes) (x : Sign) (o : Option Sign) → bs ≡ spelling_of_sign x ++ rest → IsLongest (spelling_of_sign x) rest → sign_of bs ≡ o → signed o bs ≡ Found (Signed x) rest
signed_is bs rest x None e l h = absurd (no_sign bs h x rest e)
signed_is bs rest x (Some y) e l h =
    let first = sign_text bs y h in
    let longer : length (spelling_of_sign x) ≤ length (spelling_of_sign y) = sign_first bs y x rest h e in
    let parts : spelling_of_sign x ++ rest ≡ spelling_of_sign y ++ drop (length (spelling_of_sign y)) bs = sym e ∙ first in
    let cut = cut_of (spelling_of_sign x) rest (spelling_of_sign y) (drop (length (spelling_of_sign y)) bs) parts longer in
    let none : cut.0 ≡ [] = l cut.0 (drop (length (spelling_of_sign y)) bs) (Signed y) cut.2 (sym cut.1) in
    let texts : spelling_of_sign y ≡ spelling_of_sign x = subst (λ (m : Bytes). spelling_of_sign y ≡ spelling_of_sign x ++ m) none cut.1 ∙ append-nil (spelling_of_sign x) in
    let same : y ≡ x = sign_one y x texts in
    let left : drop (length (spelling_of_sign y)) bs ≡ rest = sym (subst (λ (m : Bytes). rest ≡ m ++ drop (length (spelling_of_sign y)) bs) none cut.2) in
    ap (λ (z : Sign). Found (Signed z) (drop (length (spelling_of_sign y)) bs)) same ∙ ap (λ (s : Bytes). Found (Signed x) s) left

sign_complete : (b : ℕ) (u rest : Bytes) (form : Form) → is_start b ≡ false → is_digit b ≡ false → Spells (b ∷ u) form → IsLongest (b ∷ u) rest → step (b ∷ (u ++ rest)) ≡ Found form rest
unfolding step sign_step
sign_complete b u rest form h d s l =
    let x = sign_like b u form h d s in
    let p = plain_of b (subst (λ (t : Bytes). begins_plain t ≡ true) (sym x.2) (sign_shape x.0)) in
    let longest : IsLongest (spelling_of_sign x.0) rest = subst (λ (t : Bytes). IsLongest t rest) x.2 l in
    let parts : b ∷ (u ++ rest) ≡ spelling_of_sign x.0 ++ rest = ap (λ (t : Bytes). t ++ rest) x.2 in
    rw (p.no_blank, h, d, p.no_slash) (signed_is (b ∷ (u ++ rest)) rest x.0 (sign_of (b ∷ (u ++ rest))) parts longest refl ∙ ap (λ (g : Form). Found g rest) (sym x.1))

no_bytes : (xs : Bytes) → length xs ≤ 0 → xs ≡ []
no_bytes [] l = refl
no_bytes (x ∷ xs) l = absurd (omega arith)

-- the sign that is found is the longest
pub sign_longest : (b : ℕ) (bs : Bytes) (x : Sign) → is_start b ≡ false → is_digit b ≡ false → sign_of (b ∷ bs) ≡ Some x → (u rest : Bytes) → spelling_of_sign x ≡ b ∷ u → b ∷ bs ≡ spelling_of_sign x ++ rest → IsLongest (spelling_of_sign x) rest
sign_longest b bs x s d h u rest t parts more after form e sp =
    let sp' : Spells (b ∷ (u ++ more)) form = subst (λ (xs : Bytes). Spells (xs ++ more) form) t sp in
    let y = sign_like b (u ++ more) form s d sp' in
    let longer : spelling_of_sign x ++ more ≡ spelling_of_sign y.0 = ap (λ (xs : Bytes). xs ++ more) t ∙ y.2 in
    let all : b ∷ bs ≡ spelling_of_sign y.0 ++ after = parts ∙ (ap (λ (z : Bytes). spelling_of_sign x ++ z) e ∙ (sym (append_assoc (spelling_of_sign x) more after) ∙ ap (λ (xs : Bytes). xs ++ after) longer)) in
    let le : length (spelling_of_sign y.0) ≤ length (spelling_of_sign x) = sign_first (b ∷ bs) x y.0 after h all in
    no_bytes more (omega (arith, le, ap length longer, length-append (spelling_of_sign x) more))

-- ---- any token

pub spelled_some : (form : Form) → Spells [] form → ⊥
spelled_some (Name x) s = cc s.1
spelled_some (Reserved x) s = let i : is_identifier [] ≡ true = subst (λ (t : Bytes). is_identifier t ≡ true) (sym s) (word_shape x) in cc
spelled_some (Number n) s = number_some n s
spelled_some (Signed x) s = let i : begins_plain [] ≡ true = subst (λ (t : Bytes). begins_plain t ≡ true) (sym s) (sign_shape x) in cc
spelled_some _ s = s

number_is : (b : ℕ) (u : Bytes) (form : Form) → is_digit b ≡ true → is_start b ≡ false → Spells (b ∷ u) form → (v : ℕ) × (form ≡ Number v)
number_is b u (Name x) d h s = absurd (clash (and_left _ _ s.1) h)
number_is b u (Reserved x) d h s = absurd (let i : is_identifier (b ∷ u) ≡ true = subst (λ (t : Bytes). is_identifier t ≡ true) (sym s) (word_shape x) in clash (and_left _ _ i) h)
number_is b u (Number n) d h s = (n, refl)
number_is b u (Signed x) d h s = absurd (let p = plain_of b (subst (λ (t : Bytes). begins_plain t ≡ true) (sym s) (sign_shape x)) in clash d p.no_digit)
number_is b u _ d h s = absurd s

number_complete : (t rest : Bytes) (form : Form) (v : ℕ) → form ≡ Number v → Spells t form → IsLongest t rest → IsAllowed form rest → step (t ++ rest) ≡ Found form rest
number_complete t rest form v e s l a =
    let allowed : IsAllowed (Number v) rest = subst (λ (g : Form). IsAllowed g rest) e a in
    number_read t rest v (subst (Spells t) e s) l ∙ (numbered_fine v rest allowed.0 allowed.1 ∙ ap (λ (g : Form). Found g rest) (sym e))

pub token_complete : (t rest : Bytes) (form : Form) → Spells t form → IsLongest t rest → IsAllowed form rest → step (t ++ rest) ≡ Found form rest
token_complete [] rest form s l a = absurd (spelled_some form s)
token_complete (b ∷ u) rest form s l a = elim (tells (is_start b)) [
  | inl h ↦ word_complete b u rest form h s l
  | inr h ↦ elim (tells (is_digit b)) [
    | inl d ↦ let n = number_is b u form d h s in number_complete (b ∷ u) rest form n.0 n.1 s l a
    | inr d ↦ sign_complete b u rest form h d s l
  ]
]

pub large_complete : (t rest : Bytes) (v : ℕ) → Spells t (Number v) → IsLongest t rest → limit < v → step (t ++ rest) ≡ Broken r.S6 rest
large_complete t rest v s l a = number_read t rest v s l ∙ numbered_large v rest a

pub double_complete : (t rest : Bytes) (v : ℕ) → Spells t (Number v) → IsLongest t rest → v ≤ limit → goes_on_as_double rest ≡ true → step (t ++ rest) ≡ Broken r.S7 rest
double_complete t rest v s l a d = number_read t rest v s l ∙ numbered_double v rest a d
