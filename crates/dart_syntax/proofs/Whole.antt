-- Whole files: what is scanned is derived, and what is derived is scanned.
use Rattle.std.proofs.Common.{◌≡◌, ℕ, zero, suc, ◌-◌, ◌<◌, ◌≤◌, Bool, true, false, List, [], ◌∷◌, length, Ok, Err, refl, sym, ap, ◌∙◌, subst, inl, inr, arith}
use Rattle.dart_syntax.specs.declared.words.Sign.TheVariants as s
use Rattle.dart_syntax.specs.declared.tokens.Form.{Form}
use Rattle.dart_syntax.specs.declared.tokens.Form.TheVariants.{Sign as Signed, TextOpen}
use Rattle.dart_syntax.specs.declared.tokens.Token.{Token}
use Rattle.dart_syntax.specs.declared.rules.Rule.{Rule}
use Rattle.dart_syntax.specs.declared.rules.Rule.TheVariants as r
use Rattle.dart_syntax.specs.Table.{Bytes}
use Rattle.dart_syntax.specs.Tokens as tokens
use Rattle.dart_syntax.specs.Tokens.{Stack, in_text, in_code, turned, IsItem, IsFile}
use Rattle.dart_syntax.specs.Faults as faults
use Rattle.dart_syntax.specs.Faults.{IsBroken, IsClosed, IsFault}
use Rattle.dart_syntax.specs.Reader.{Broken, Read, Took, Bad, read, is_late, skimmed, skim, Scanned, with_front, went, scan_from}
use Rattle.dart_syntax.proofs.Fronts.{tells, clash}
use Rattle.dart_syntax.proofs.Steps.{unclosed_step}
use Rattle.dart_syntax.proofs.Reading.{code_read, item_complete, broken_complete, ReadMeans, read_says, item_shrinks, broken_passes}

-- ---- what is open

no_text_code : (st : Stack) → in_text st ≡ false → in_code st ≡ true
no_text_code [] h = refl
no_text_code (level ∷ st) h = absurd cc

turned_text : (form : Form) (st : Stack) → in_text st ≡ false → in_text (turned form st).1 ≡ false
turned_text (Signed s.OpenBrace) [] h = refl
turned_text (Signed s.CloseBrace) [] h = refl
turned_text (Signed _) [] h = refl
turned_text _ [] h = refl
turned_text form (level ∷ st) h = absurd cc

-- ---- closed on its line

skim_none : (n k : ℕ) (st : Stack) (bs : Bytes) → in_text st ≡ false → skim n k st bs ≡ true
unfolding skim
skim_none n zero st [] h = rw h refl
skim_none n (suc k) st [] h = rw h refl
skim_none n zero st (b ∷ bs) h = rw h refl
skim_none n (suc k) st (b ∷ bs) h = rw h refl

skim_end : (n k : ℕ) (st : Stack) → in_text st ≡ true → skim n k st [] ≡ false
unfolding skim
skim_end n zero st h = rw h refl
skim_end n (suc k) st h = rw h refl

pub skim_step : (n k : ℕ) (st : Stack) (bs : Bytes) → 0 < length bs → in_text st ≡ true → skim n (suc k) st bs ≡ skimmed (λ s x. skim n k s x) st (read n st bs)
unfolding skim
skim_step n k st [] l h = absurd (omega arith)
skim_step n k st (b ∷ bs) l h = rw h refl

broken_early : {n : ℕ} {st : Stack} {bs left after : Bytes} {x : Rule} → IsBroken n st bs left x after → is_late x ≡ false
broken_early (faults.unknown c o u) = refl
broken_early (faults.large t c s l a) = refl
broken_early (faults.double t c s l a d) = refl
broken_early (faults.tripled c o x) = refl
broken_early (faults.bad_escape d i x) = refl
broken_early (faults.bad_enter d x) = refl

broken_skims : {n : ℕ} {st : Stack} {bs left after : Bytes} {x : Rule} (more : Stack → Bytes → Bool) → IsBroken n st bs left x after → skimmed more st (Bad x left after) ≡ more st after
broken_skims more b = rw (broken_early b) refl

pub closed_complete : {n : ℕ} {st : Stack} {bs : Bytes} → IsClosed n st bs → (k : ℕ) → length bs ≤ k → skim n k st bs ≡ true
closed_complete {n} (faults.none_open {st = st} {bs = bs} h) k l = skim_none n k st bs h
closed_complete (faults.past_item h i c) zero l = absurd (omega (arith, item_shrinks i))
closed_complete {n} (faults.past_item {st = st} {bs = bs} h i c) (suc k) l =
    skim_step n k st bs (omega (arith, item_shrinks i)) h ∙ (ap (skimmed (λ s x. skim n k s x) st) (item_complete i) ∙ closed_complete c k (omega (arith, item_shrinks i)))
closed_complete (faults.past_broken h b c) zero l = absurd (let p = broken_passes b in omega (arith, p.less))
closed_complete {n} (faults.past_broken {st = st} {bs = bs} {left = left} h b c) (suc k) l =
    let p = broken_passes b in
    skim_step n k st bs (omega (arith, p.less)) h ∙ (ap (skimmed (λ s x. skim n k s x) st) (broken_complete b) ∙ (broken_skims (λ s x. skim n k s x) b ∙ closed_complete c k (omega (arith, p.less))))

module _ (n k : ℕ) (again : (s : Stack) (x : Bytes) → length x ≤ k → skim n k s x ≡ true → IsClosed n s x) (st : Stack) (bs : Bytes) (l : length bs ≤ suc k) (h : in_text st ≡ true) where
  skips : (left after : Bytes) (x : Rule) → IsBroken n st bs left x after → skimmed (λ s x. skim n k s x) st (Bad x left after) ≡ true → IsClosed n st bs
  skips left after x b s =
      let p = broken_passes b in
      faults.past_broken h b (again st after (omega (arith, p.less)) (sym (broken_skims (λ s x. skim n k s x) b) ∙ s))

  closed_step : (x : Read) → ReadMeans n st bs x → skimmed (λ s x. skim n k s x) st x ≡ true → IsClosed n st bs
  closed_step (Took ts next rest) i s = faults.past_item h i (again next rest (omega (arith, item_shrinks i)) s)
  closed_step (Bad r.S3 left after) b s = absurd cc
  closed_step (Bad r.S4 left after) b s = absurd cc
  closed_step (Bad x left after) b s = skips left after x b s

pub closed_sound : (n k : ℕ) (st : Stack) (bs : Bytes) → length bs ≤ k → skim n k st bs ≡ true → IsClosed n st bs
closed_sound n k st [] l s = elim (tells (in_text st)) [
  | inr h ↦ faults.none_open h
  | inl h ↦ absurd (clash s (skim_end n k st h))
]
closed_sound n zero st (b ∷ bs) l s = absurd (omega arith)
closed_sound n (suc k) st (b ∷ bs) l s = elim (tells (in_text st)) [
  | inr h ↦ faults.none_open h
  | inl h ↦ closed_step n k (λ t x m e. closed_sound n k t x m e) st (b ∷ bs) l h (read n st (b ∷ bs)) (read_says n st (b ∷ bs) (omega arith)) (sym (skim_step n k st (b ∷ bs) (omega arith) h) ∙ s)
]

file_closed : {n : ℕ} {st : Stack} {bs : Bytes} {ts : List Token} → IsFile n st bs ts → IsClosed n st bs
file_closed (tokens.end h) = faults.none_open h
file_closed (tokens.item {st = st} i d) = elim (tells (in_text st)) [
  | inl h ↦ faults.past_item h i (file_closed d)
  | inr h ↦ faults.none_open h
]

-- ---- what is derived is scanned

pub scan_end : (n k : ℕ) (st : Stack) → scan_from n k st [] ≡ Ok []
unfolding scan_from
scan_end n zero st = refl
scan_end n (suc k) st = refl

pub scan_step : (n k : ℕ) (st : Stack) (bs : Bytes) → 0 < length bs → scan_from n (suc k) st bs ≡ went n st (λ s x. scan_from n k s x) (read n st bs)
unfolding scan_from
scan_step n k st [] l = absurd (omega arith)
scan_step n k st (b ∷ bs) l = refl

went_on : (n : ℕ) (st : Stack) (more : Stack → Bytes → Scanned) (ts : List Token) (next : Stack) (rest : Bytes) → IsClosed n next rest → went n st more (Took ts next rest) ≡ with_front ts (more next rest)
went_on n st more ts next rest c = elim (tells (in_text st)) [
  | inl h ↦ rw h refl
  | inr h ↦ let s = closed_complete c (length rest) (omega arith) in rw (h, s) refl
]

pub file_complete : {n : ℕ} {st : Stack} {bs : Bytes} {ts : List Token} → IsFile n st bs ts → (k : ℕ) → length bs ≤ k → scan_from n k st bs ≡ Ok ts
file_complete {n} (tokens.end {st = st} h) k l = scan_end n k st
file_complete (tokens.item i d) zero l = absurd (omega (arith, item_shrinks i))
file_complete {n} (tokens.item {st = st} {next = next} {bs = bs} {rest = rest} {ts = ts} i d) (suc k) l =
    scan_step n k st bs (omega (arith, item_shrinks i)) ∙ (ap (went n st (λ s x. scan_from n k s x)) (item_complete i)
    ∙ (went_on n st (λ s x. scan_from n k s x) ts next rest (file_closed d) ∙ ap (with_front ts) (file_complete d k (omega (arith, item_shrinks i)))))

not_closed : (n : ℕ) (st : Stack) (bs : Bytes) → (IsClosed n st bs → ⊥) → skim n (length bs) st bs ≡ false
not_closed n st bs f = elim (tells (skim n (length bs) st bs)) [
  | inl s ↦ absurd (f (closed_sound n (length bs) st bs (omega arith) s))
  | inr s ↦ s
]

pub fault_complete : {n : ℕ} {st : Stack} {bs : Bytes} {at : ℕ} {x : Rule} → IsFault n st bs at x → (k : ℕ) → length bs ≤ k → scan_from n k st bs ≡ Err (at, x)
fault_complete (faults.past i c d) zero l = absurd (omega (arith, item_shrinks i))
fault_complete {n} (faults.past {st = st} {next = next} {bs = bs} {rest = rest} {ts = ts} i c d) (suc k) l =
    scan_step n k st bs (omega (arith, item_shrinks i)) ∙ (ap (went n st (λ s x. scan_from n k s x)) (item_complete i)
    ∙ (went_on n st (λ s x. scan_from n k s x) ts next rest c ∙ ap (with_front ts) (fault_complete d k (omega (arith, item_shrinks i)))))
fault_complete (faults.broken b) zero l = absurd (let p = broken_passes b in omega (arith, p.less))
fault_complete {n} (faults.broken {st = st} {bs = bs} b) (suc k) l = let p = broken_passes b in
    scan_step n k st bs (omega (arith, p.less)) ∙ ap (went n st (λ s x. scan_from n k s x)) (broken_complete b)
fault_complete {n} (faults.unclosed_text {st = st} {bs = bs} {rest = rest} {level = level} h o x f) zero l =
    absurd (let i : IsItem n st bs (tokens.token n TextOpen bs rest ∷ []) (level ∷ st) rest = tokens.open' (no_text_code st h) o x in omega (arith, item_shrinks i))
fault_complete {n} (faults.unclosed_text {st = st} {bs = bs} {rest = rest} {level = level} h o x f) (suc k) l =
    let i : IsItem n st bs (tokens.token n TextOpen bs rest ∷ []) (level ∷ st) rest = tokens.open' (no_text_code st h) o x in
    let s = not_closed n (level ∷ st) rest f in
    scan_step n k st bs (omega (arith, item_shrinks i)) ∙ (ap (went n st (λ s x. scan_from n k s x)) (item_complete i) ∙ rw (h, s) refl)
fault_complete (faults.unclosed_comment h f) zero l = absurd (omega arith)
fault_complete {n} (faults.unclosed_comment {st = st} {bs = bs} h f) (suc k) l =
    scan_step n k st (47 ∷ 42 ∷ bs) (omega arith) ∙ ap (went n st (λ s x. scan_from n k s x)) (code_read n st (47 ∷ 42 ∷ bs) (Broken r.S4 []) (no_text_code st h) refl (unclosed_step bs f))

-- ---- what is scanned is derived

abbrev pub Says : ℕ → Stack → Bytes → Scanned → Type 0
Says n st bs (Ok ts) = IsFile n st bs ts
Says n st bs (Err e) = IsFault n st bs e.0 e.1

abbrev read_late : Read → Bool
read_late (Took ts next rest) = false
read_late (Bad x left after) = is_late x

abbrev read_next : Read → Stack
read_next (Took ts next rest) = next
read_next (Bad x left after) = []

abbrev read_rest : Read → Bytes
read_rest (Took ts next rest) = rest
read_rest (Bad x left after) = []

abbrev read_took : Read → Bool
read_took (Took ts next rest) = true
read_took (Bad x left after) = false

closed_nil : {n : ℕ} {st : Stack} {bs : Bytes} → IsClosed n st bs → length bs ≤ 0 → in_text st ≡ false
closed_nil (faults.none_open h) l = h
closed_nil (faults.past_item h i c) l = absurd (omega (arith, item_shrinks i))
closed_nil (faults.past_broken h b c) l = absurd (let p = broken_passes b in omega (arith, p.less))

closed_next : {n : ℕ} {st next : Stack} {bs rest : Bytes} {ts : List Token} → IsClosed n st bs → in_text st ≡ true → read n st bs ≡ Took ts next rest → IsClosed n next rest
closed_next (faults.none_open g) h e = absurd (clash h g)
closed_next {n} {st} {next} {bs} {rest} (faults.past_item {next = other} {rest = left} g i c) h e =
    let same = sym (item_complete i) ∙ e in
    subst (λ (s : Stack). IsClosed n s rest) (ap read_next same) (subst (λ (xs : Bytes). IsClosed n other xs) (ap read_rest same) c)
closed_next (faults.past_broken g b c) h e = absurd (clash refl (ap read_took (sym e ∙ broken_complete b)))

closed_early : {n : ℕ} {st : Stack} {bs left after : Bytes} {x : Rule} → IsClosed n st bs → in_text st ≡ true → read n st bs ≡ Bad x left after → is_late x ≡ false
closed_early (faults.none_open g) h e = absurd (clash h g)
closed_early (faults.past_item g i c) h e = ap read_late (sym e ∙ item_complete i)
closed_early (faults.past_broken g b c) h e = ap read_late (sym e ∙ broken_complete b) ∙ broken_early b

unclosed : {n : ℕ} {st next : Stack} {bs rest : Bytes} {ts : List Token} → IsItem n st bs ts next rest → in_text st ≡ false → (IsClosed n next rest → ⊥) → IsFault n st bs (n - suc (length rest)) r.S3
unclosed (tokens.gap c g k) h f = absurd (f (faults.none_open h))
unclosed (tokens.token' {st = st} t form c o s l a) h f = absurd (f (faults.none_open (turned_text form st h)))
unclosed (tokens.open' c o x) h f = faults.unclosed_text h o x f
unclosed (tokens.part d e) h f = absurd cc

says_item : {n : ℕ} {st next : Stack} {bs rest : Bytes} {ts : List Token} (x : Scanned) → IsItem n st bs ts next rest → IsClosed n next rest → Says n next rest x → Says n st bs (with_front ts x)
says_item (Ok more) i c h = tokens.item i h
says_item (Err e) i c h = faults.past i c h

module _ (n k : ℕ) (again : (s : Stack) (x : Bytes) → length x ≤ k → IsClosed n s x → Says n s x (scan_from n k s x)) (st : Stack) (bs : Bytes) (l : length bs ≤ suc k) (c : IsClosed n st bs) where
  says_step : (x : Read) → read n st bs ≡ x → ReadMeans n st bs x → Says n st bs (went n st (λ s x. scan_from n k s x) x)
  says_step (Took ts next rest) e i = elim (tells (in_text st)) [
    | inl h ↦ rw h (on (closed_next c h e))
    | inr h ↦ elim (tells (skim n (length rest) next rest)) [
      | inl s ↦ rw (h, s) (on (closed_sound n (length rest) next rest (omega arith) s))
      | inr s ↦ rw (h, s) (unclosed i h (λ d. clash (closed_complete d (length rest) (omega arith)) s))
    ]
  ]
    where
      on : IsClosed n next rest → Says n st bs (with_front ts (scan_from n k next rest))
      on d = says_item (scan_from n k next rest) i d (again next rest (omega (arith, item_shrinks i)) d)
  says_step (Bad r.S3 left after) e h = absurd (clash refl (closed_early c h e))
  says_step (Bad r.S4 left after) e p = elim (tells (in_text st)) [
    | inl h ↦ absurd (clash refl (closed_early c h e))
    | inr h ↦ subst (λ (xs : Bytes). IsFault n st bs (n - length xs) r.S4) (sym p.0) (subst (λ (xs : Bytes). IsFault n st xs (n - length xs) r.S4) (sym p.1.1) (faults.unclosed_comment h p.1.2))
  ]
  says_step (Bad x left after) e b = faults.broken b

pub scan_says : (n k : ℕ) (st : Stack) (bs : Bytes) → length bs ≤ k → IsClosed n st bs → Says n st bs (scan_from n k st bs)
scan_says n k st [] l c = subst (Says n st []) (sym (scan_end n k st)) (tokens.end (closed_nil c (omega arith)))
scan_says n zero st (b ∷ bs) l c = absurd (omega arith)
scan_says n (suc k) st (b ∷ bs) l c =
    subst (Says n st (b ∷ bs)) (sym (scan_step n k st (b ∷ bs) (omega arith)))
    (says_step n k (λ s x m d. scan_says n k s x m d) st (b ∷ bs) l c (read n st (b ∷ bs)) refl (read_says n st (b ∷ bs) (omega arith)))
