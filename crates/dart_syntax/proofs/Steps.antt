-- One step of code: what it says, and that what is derived is what it finds.
use Rattle.std.proofs.Common.{◌≡◌, ℕ, zero, suc, ◌<◌, ◌≤◌, Bool, true, false, [], ◌∷◌, ◌++◌, length, drop, Option, Some, None, refl, sym, ap, ◌∙◌, subst, inl, inr, arith}
use Rattle.std.specs.Prelude.{◌&&◌, ◌==◌, nat_le}
use Rattle.std.proofs.lemmas.Bool.{eqb-true, leb-true, leb-false}
use Rattle.std.proofs.lemmas.List.{length-append}
use Rattle.dart_syntax.specs.declared.words.Sign.{Sign}
use Rattle.dart_syntax.specs.declared.tokens.Form.{Form}
use Rattle.dart_syntax.specs.declared.tokens.Form.TheVariants.{Number, Sign as Signed}
use Rattle.dart_syntax.specs.declared.rules.Rule.TheVariants as r
use Rattle.dart_syntax.specs.Table.{Bytes, is_digit, is_start, is_part, is_blank, front, back, spelling_of_sign, word_of, is_identifier, Spells, IsLongest, limit, goes_on_as_double, IsAllowed}
use Rattle.dart_syntax.specs.Gaps as gaps
use Rattle.dart_syntax.specs.Gaps.{ends_line, in_line, is_line_end, opens, closes, IsInside, IsGap}
use Rattle.dart_syntax.specs.Faults.{IsUnknown, rest_of}
use Rattle.dart_syntax.specs.Reader.{Step, Gap, Found, Broken, commented, sign_of, signed, inside, next_is, word_step, number_step, line_step, comment_step, sign_step, step}
use Rattle.dart_syntax.proofs.Fronts.{tells, clash, and_left, and_right, front-back, front_all, Stops, back_stops, back_is}
use Rattle.dart_syntax.proofs.Lookups.{no_sign, sign_text}
use Rattle.dart_syntax.proofs.Numbers.{number_reads, numbered_fine, numbered_double, numbered_large}
use Rattle.dart_syntax.proofs.Lexemes.{start_part, sign_like, word_longest, word_at, worded_spells, sign_longest, spelled_some}

-- ---- comments

inside_complete : (d : ℕ) {bs rest : Bytes} → IsInside d bs rest → inside d bs ≡ Some rest
unfolding inside
inside_complete zero (gaps.last c) = rw c refl
inside_complete zero (gaps.open' c o i) = rw (c, o) (inside_complete 1 i)
inside_complete zero (gaps.other c o i) = rw (c, o) (inside_complete 0 i)
inside_complete (suc d) (gaps.close c i) = rw c (inside_complete d i)
inside_complete (suc d) (gaps.open' c o i) = rw (c, o) (inside_complete (suc (suc d)) i)
inside_complete (suc d) (gaps.other c o i) = rw (c, o) (inside_complete (suc d) i)

some_is : (x y : Bytes) → (let s : Bytes → Option Bytes = Some in s x ≡ s y) → x ≡ y
some_is x y h = cc

inside_sound : (d : ℕ) (bs rest : Bytes) → inside d bs ≡ Some rest → IsInside d bs rest
unfolding inside
inside_sound d [] rest h = absurd cc
inside_sound d (b ∷ []) rest h = absurd cc
inside_sound zero (b ∷ c ∷ bs) rest h = elim (tells (closes b c)) [
  | inl x ↦ subst (λ (z : Bytes). IsInside 0 (b ∷ c ∷ bs) z) (some_is bs rest (rw x at h)) (gaps.last x)
  | inr x ↦ elim (tells (opens b c)) [
    | inl y ↦ gaps.open' x y (inside_sound 1 bs rest (rw (x, y) at h))
    | inr y ↦ gaps.other x y (inside_sound 0 (c ∷ bs) rest (rw (x, y) at h))
  ]
]
inside_sound (suc d) (b ∷ c ∷ bs) rest h = elim (tells (closes b c)) [
  | inl x ↦ gaps.close x (inside_sound d bs rest (rw x at h))
  | inr x ↦ elim (tells (opens b c)) [
    | inl y ↦ gaps.open' x y (inside_sound (suc (suc d)) bs rest (rw (x, y) at h))
    | inr y ↦ gaps.other x y (inside_sound (suc d) (c ∷ bs) rest (rw (x, y) at h))
  ]
]

inside_shrinks : {d : ℕ} {bs rest : Bytes} → IsInside d bs rest → length rest < length bs
inside_shrinks (gaps.last c) = omega arith
inside_shrinks (gaps.close c i) = omega (arith, inside_shrinks i)
inside_shrinks (gaps.open' c o i) = omega (arith, inside_shrinks i)
inside_shrinks (gaps.other c o i) = omega (arith, inside_shrinks i)

pub gap_shrinks : {bs rest : Bytes} → IsGap bs rest → length rest < length bs
gap_shrinks (gaps.blank e) = omega arith
gap_shrinks (gaps.line body {rest = rest} a e) = omega (arith, length-append body rest)
gap_shrinks (gaps.comment i) = omega (arith, inside_shrinks i)

ends_stop : (rest : Bytes) → is_line_end rest ≡ true → Stops in_line rest
ends_stop [] h b more e = absurd cc
ends_stop (c ∷ rest) h b more e = let same : c ≡ b = cc in subst (λ (x : ℕ). in_line x ≡ false) same (rw h refl)

stop_ends : (rest : Bytes) → Stops in_line rest → is_line_end rest ≡ true
stop_ends [] s = refl
stop_ends (c ∷ rest) s = elim (tells (ends_line c)) [ inl e ↦ e | inr e ↦ absurd (let no = rw e at (s c rest refl) in cc) ]

pub gap_complete : {bs rest : Bytes} → IsGap bs rest → step bs ≡ Gap rest
unfolding step line_step comment_step
gap_complete (gaps.blank e) = rw e refl
gap_complete (gaps.line body {rest = rest} a e) = ap Gap (back_is in_line body rest a (ends_stop rest e))
gap_complete (gaps.comment i) = rw (inside_complete 0 i) refl

-- ---- what a step says

-- what a number that breaks a rule is, and what is left behind it
abbrev pub NumberBroken : Bytes → Bytes → (ℕ → Type 0) → Type 0
NumberBroken bs after P = (t : Bytes) × (v : ℕ) × (bs ≡ t ++ after) × Spells t (Number v) × IsLongest t after × P v

abbrev pub Means : Bytes → Step → Type 0
Means bs (Gap rest) = IsGap bs rest
Means bs (Found form rest) = (t : Bytes) × (bs ≡ t ++ rest) × Spells t form × IsLongest t rest × IsAllowed form rest
Means bs (Broken r.S2 after) = IsUnknown bs × (after ≡ rest_of bs)
Means bs (Broken r.S4 after) = (more : Bytes) × (bs ≡ 47 ∷ 42 ∷ more) × ((rest : Bytes) → IsInside 0 more rest → ⊥)
Means bs (Broken r.S6 after) = NumberBroken bs after (λ v. limit < v)
Means bs (Broken r.S7 after) = NumberBroken bs after (λ v. (v ≤ limit) × (goes_on_as_double after ≡ true))
Means bs (Broken _ after) = ⊥

word_means : (b : ℕ) (bs : Bytes) → is_start b ≡ true → Means (b ∷ bs) (word_step (b ∷ bs))
word_means b bs h =
    let f : front is_part (b ∷ bs) ≡ b ∷ front is_part bs = rw (start_part b h) refl in
    let k : back is_part (b ∷ bs) ≡ back is_part bs = rw (start_part b h) refl in
    let i : is_identifier (b ∷ front is_part bs) ≡ true = rw h (front_all is_part bs) in
    let w = worded_spells (b ∷ front is_part bs) (word_of (b ∷ front is_part bs)) i refl (back is_part bs) in
    subst (λ (s : Step). Means (b ∷ bs) s) (sym (word_at (b ∷ bs) (b ∷ front is_part bs) (back is_part bs) f k ∙ w.1))
    (b ∷ front is_part bs, ap (λ (xs : Bytes). b ∷ xs) (front-back is_part bs), w.2, word_longest b (front is_part bs) (back is_part bs) i (back_stops is_part bs), w.3)

number_means : (b : ℕ) (bs : Bytes) → is_digit b ≡ true → Means (b ∷ bs) (number_step (b ∷ bs))
number_means b bs h =
    let x = number_reads b bs h in
    elim (tells (nat_le x.value limit)) [
      | inr y ↦ subst (λ (s : Step). Means (b ∷ bs) s) (sym (x.is ∙ numbered_large x.value x.rest (leb-false _ _ y))) (x.text, x.value, x.whole, x.spelled, x.longest, leb-false _ _ y)
      | inl y ↦ elim (tells (goes_on_as_double x.rest)) [
        | inl d ↦ subst (λ (s : Step). Means (b ∷ bs) s) (sym (x.is ∙ numbered_double x.value x.rest (leb-true _ _ y) d)) (x.text, x.value, x.whole, x.spelled, x.longest, (leb-true _ _ y, d))
        | inr d ↦ subst (λ (s : Step). Means (b ∷ bs) s) (sym (x.is ∙ numbered_fine x.value x.rest (leb-true _ _ y) d)) (x.text, x.whole, x.spelled, x.longest, (leb-true _ _ y, d))
      ]
    ]

line_means : (b : ℕ) (bs : Bytes) → (b == 47) ≡ true → next_is 47 bs ≡ true → Means (b ∷ bs) (line_step bs)
unfolding line_step
line_means b [] h n = absurd cc
line_means b (c ∷ more) h n =
    let first : 47 ≡ b = sym (eqb-true b 47 h) in
    let second : 47 ≡ c = sym (eqb-true c 47 n) in
    let whole : 47 ∷ 47 ∷ (front in_line more ++ back in_line more) ≡ b ∷ c ∷ more =
    ap (λ (x : ℕ). x ∷ 47 ∷ (front in_line more ++ back in_line more)) first ∙ (ap (λ (x : ℕ). b ∷ x ∷ (front in_line more ++ back in_line more)) second ∙ ap (λ (xs : Bytes). b ∷ c ∷ xs) (sym (front-back in_line more))) in
    subst (λ (xs : Bytes). IsGap xs (back in_line more)) whole (gaps.line (front in_line more) (front_all in_line more) (stop_ends (back in_line more) (back_stops in_line more)))

comment_means : (b : ℕ) (bs : Bytes) → (b == 47) ≡ true → next_is 42 bs ≡ true → Means (b ∷ bs) (comment_step bs)
unfolding comment_step
comment_means b [] h n = absurd cc
comment_means b (c ∷ more) h n = go (inside 0 more) refl
  where
    whole : 47 ∷ 42 ∷ more ≡ b ∷ c ∷ more
    whole = ap (λ (x : ℕ). x ∷ 42 ∷ more) (sym (eqb-true b 47 h)) ∙ ap (λ (x : ℕ). b ∷ x ∷ more) (sym (eqb-true c 42 n))

    go : (o : Option Bytes) → inside 0 more ≡ o → Means (b ∷ c ∷ more) (commented o)
    go (Some rest) e = subst (λ (xs : Bytes). IsGap xs rest) whole (gaps.comment (inside_sound 0 more rest e))
    go None e = (more, sym whole, λ rest i. let k = inside_complete 0 i in cc)

text_head : (x : Sign) (b : ℕ) (bs rest : Bytes) → b ∷ bs ≡ spelling_of_sign x ++ rest → (u : Bytes) × (spelling_of_sign x ≡ b ∷ u)
text_head x b bs rest e = go (spelling_of_sign x) refl e
  where
    go : (t : Bytes) → spelling_of_sign x ≡ t → b ∷ bs ≡ t ++ rest → (u : Bytes) × (spelling_of_sign x ≡ b ∷ u)
    go [] h e = absurd (spelled_some (Signed x) (sym h))
    go (c ∷ u) h e = let same : c ≡ b = cc in (u, h ∙ ap (λ (y : ℕ). y ∷ u) same)

abbrev is_gap : Step → Bool
is_gap (Gap rest) = true
is_gap (Found form rest) = false
is_gap (Broken x after) = false

no_token : (bs : Bytes) (b : ℕ) (more : Bytes) → bs ≡ b ∷ more → is_start b ≡ false → is_digit b ≡ false → sign_of bs ≡ None → (t rest : Bytes) (form : Form) → bs ≡ t ++ rest → Spells t form → ⊥
no_token bs b more f s d h [] rest form e sp = spelled_some form sp
no_token bs b more f s d h (c ∷ u) rest form e sp =
    let same : b ≡ c = let k : b ∷ more ≡ c ∷ (u ++ rest) = sym f ∙ e in cc in
    let y = sign_like c u form (subst (λ (x : ℕ). is_start x ≡ false) same s) (subst (λ (x : ℕ). is_digit x ≡ false) same d) sp in
    let parts : bs ≡ spelling_of_sign y.0 ++ rest = e ∙ ap (λ (xs : Bytes). xs ++ rest) y.2 in
    no_sign bs h y.0 rest parts

sign_means : (b : ℕ) (bs : Bytes) → is_start b ≡ false → is_digit b ≡ false → ((more : Bytes) → b ∷ bs ≡ 47 ∷ 42 ∷ more → ⊥) → step (b ∷ bs) ≡ sign_step (b ∷ bs) → Means (b ∷ bs) (sign_step (b ∷ bs))
unfolding sign_step
sign_means b bs s d c is = go (sign_of (b ∷ bs)) refl
  where
    go : (o : Option Sign) → sign_of (b ∷ bs) ≡ o → Means (b ∷ bs) (signed o (b ∷ bs))
    go (Some x) h =
        let parts = sign_text (b ∷ bs) x h in
        let head = text_head x b bs (drop (length (spelling_of_sign x)) (b ∷ bs)) parts in
        (spelling_of_sign x, parts, refl, sign_longest b bs x s d h head.0 (drop (length (spelling_of_sign x)) (b ∷ bs)) head.1 parts, tt)
    go None h = (
      record {
        some = omega arith;
        no_gap = λ rest g.
            let broken : signed (sign_of (b ∷ bs)) (b ∷ bs) ≡ Broken r.S2 bs = ap (λ (o : Option Sign). signed o (b ∷ bs)) h in
            clash refl (ap is_gap (sym (gap_complete g) ∙ (is ∙ broken)));
        no_comment = c;
        no_token = no_token (b ∷ bs) b bs refl s d h;
      },
      refl,
    )

abbrev begins_comment : Bytes → Bool
begins_comment [] = false
begins_comment (x ∷ xs) = x == 47 && next_is 42 xs

no_slashes : (b : ℕ) (bs : Bytes) → (b == 47 && next_is 42 bs) ≡ false → (more : Bytes) → b ∷ bs ≡ 47 ∷ 42 ∷ more → ⊥
no_slashes b bs h more e = clash (ap begins_comment e) h

step_means : (b : ℕ) (bs : Bytes) → Means (b ∷ bs) (step (b ∷ bs))
unfolding step
step_means b bs = elim (tells (is_blank b)) [
  | inl e ↦ rw e (gaps.blank e)
  | inr n ↦ rw n (elim (tells (is_start b)) [
    | inl e ↦ rw e (word_means b bs e)
    | inr s ↦ rw s (elim (tells (is_digit b)) [
      | inl e ↦ rw e (number_means b bs e)
      | inr d ↦ rw d (elim (tells (b == 47 && next_is 47 bs)) [
        | inl e ↦ rw e (line_means b bs (and_left _ _ e) (and_right _ _ e))
        | inr l ↦ rw l (elim (tells (b == 47 && next_is 42 bs)) [
          | inl e ↦ rw e (comment_means b bs (and_left _ _ e) (and_right _ _ e))
          | inr c ↦ rw c (sign_means b bs s d (no_slashes b bs c) (rw (n, s, d, l, c) refl))
        ])
      ])
    ])
  ])
]

pub step_says : (bs : Bytes) → 0 < length bs → Means bs (step bs)
step_says [] l = absurd (omega arith)
step_says (b ∷ bs) l = step_means b bs

-- nothing that is found is unknown
pub unknown_step : (bs : Bytes) (s : Step) → step bs ≡ s → Means bs s → IsUnknown bs → step bs ≡ Broken r.S2 (rest_of bs)
unknown_step bs (Gap rest) e h u = absurd (u.no_gap rest h)
unknown_step bs (Found form rest) e h u = absurd (u.no_token h.0 rest form h.1 h.2)
unknown_step bs (Broken r.S2 after) e h u = e ∙ ap (λ (xs : Bytes). Broken r.S2 xs) h.1
unknown_step bs (Broken r.S4 after) e h u = absurd (u.no_comment h.0 h.1)
unknown_step bs (Broken r.S6 after) e h u = absurd (u.no_token h.0 after (Number h.1) h.2 h.3)
unknown_step bs (Broken r.S7 after) e h u = absurd (u.no_token h.0 after (Number h.1) h.2 h.3)
unknown_step bs (Broken _ after) e h u = absurd h

pub token_shrinks : (t rest : Bytes) (form : Form) → Spells t form → length rest < length (t ++ rest)
token_shrinks [] rest form s = absurd (spelled_some form s)
token_shrinks (b ∷ t) rest form s = omega (arith, length-append t rest)

pub unclosed_step : (bs : Bytes) → ((rest : Bytes) → IsInside 0 bs rest → ⊥) → step (47 ∷ 42 ∷ bs) ≡ Broken r.S4 []
unfolding step comment_step
unclosed_step bs f = go (inside 0 bs) refl
  where
    go : (o : Option Bytes) → inside 0 bs ≡ o → commented o ≡ Broken r.S4 []
    go None e = refl
    go (Some rest) e = absurd (f rest (inside_sound 0 bs rest e))
