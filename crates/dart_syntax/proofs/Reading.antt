-- One item: what is read is derived, and what is derived is read.
use Rattle.std.proofs.Common.{◌≡◌, ℕ, zero, suc, ◌<◌, ◌≤◌, Bool, true, false, List, [], ◌∷◌, ◌++◌, length, Option, Some, None, refl, sym, ap, ◌∙◌, subst, inl, inr, arith}
use Rattle.std.specs.Prelude.{not, ◌&&◌, ◌==◌}
use Rattle.std.proofs.lemmas.Bool.{eqb-true}
use Rattle.std.proofs.lemmas.Bool.Decides.{nat_tests}
use Rattle.dart_syntax.specs.declared.tokens.Form.{Form}
use Rattle.dart_syntax.specs.declared.tokens.Form.TheVariants.{Number, Piece, TextClose}
use Rattle.dart_syntax.specs.declared.tokens.Token.{Token}
use Rattle.dart_syntax.specs.declared.levels.Level.{Level}
use Rattle.dart_syntax.specs.declared.levels.Level.TheVariants.{Text, Hole, Brace}
use Rattle.dart_syntax.specs.declared.rules.Rule.{Rule}
use Rattle.dart_syntax.specs.declared.rules.Rule.TheVariants as r
use Rattle.dart_syntax.specs.Table.{Bytes, is_digit, is_blank, front, back, word_of, Spells}
use Rattle.dart_syntax.specs.Gaps as gaps
use Rattle.dart_syntax.specs.Gaps.{IsInside, IsGap}
use Rattle.dart_syntax.specs.Texts.{quote_of, quoted, opening, is_tripled, escape, is_numbered, is_own, IsRun, is_inner, form_behind}
use Rattle.dart_syntax.specs.Tokens as tokens
use Rattle.dart_syntax.specs.Tokens.{Stack, token, in_text, in_code, turned, keeps_line, End, named, entered, IsEnd, IsItem}
use Rattle.dart_syntax.specs.Faults as faults
use Rattle.dart_syntax.specs.Faults.{IsUnknown, rest_of, IsBroken}
use Rattle.dart_syntax.specs.Reader.{Step, Gap, Found, Broken, step, Read, Took, Bad, past_escape, run, ended_by, ended, part_step, coded, begun, code_step, read}
use Rattle.dart_syntax.proofs.Fronts.{tells, and_left, and_right, back_shorter}
use Rattle.dart_syntax.proofs.Numbers.{number_some, number_head}
use Rattle.dart_syntax.proofs.Lexemes.{token_complete, large_complete, double_complete}
use Rattle.dart_syntax.proofs.Steps.{Means, step_says, unknown_step, gap_complete, gap_shrinks, token_shrinks}
use Rattle.dart_syntax.proofs.Parts.{run_shrinks, run_sound, escape_shrinks, part_complete, escape_complete, enter_complete}

-- ---- what opens no text

blank_no_r : (b : ℕ) → is_blank b ≡ true → (b == 114) ≡ false
blank_no_r b h = grind (arith, nat_tests)

blank_no_double : (b : ℕ) → is_blank b ≡ true → (b == 34) ≡ false
blank_no_double b h = grind (arith, nat_tests)

blank_no_single : (b : ℕ) → is_blank b ≡ true → (b == 39) ≡ false
blank_no_single b h = grind (arith, nat_tests)

digit_no_r : (b : ℕ) → is_digit b ≡ true → (b == 114) ≡ false
digit_no_r b h = grind (arith, nat_tests)

digit_no_double : (b : ℕ) → is_digit b ≡ true → (b == 34) ≡ false
digit_no_double b h = grind (arith, nat_tests)

digit_no_single : (b : ℕ) → is_digit b ≡ true → (b == 39) ≡ false
digit_no_single b h = grind (arith, nat_tests)

gap_no_opening : {bs rest : Bytes} → IsGap bs rest → opening bs ≡ None
gap_no_opening (gaps.blank {b = b} e) = rw (blank_no_r b e, blank_no_double b e, blank_no_single b e) refl
gap_no_opening (gaps.line body a e) = refl
gap_no_opening (gaps.comment i) = refl

number_no_opening : (t rest : Bytes) (v : ℕ) → Spells t (Number v) → opening (t ++ rest) ≡ None
number_no_opening [] rest v s = absurd (number_some v s)
number_no_opening (b ∷ t) rest v s = let h = number_head b t v s in rw (digit_no_r b h, digit_no_double b h, digit_no_single b h) refl

-- ---- what is derived is read

pub read_code : (n : ℕ) (st : Stack) (bs : Bytes) → in_code st ≡ true → read n st bs ≡ code_step n st bs
read_code n [] bs c = refl
read_code n (Hole ∷ st) bs c = refl
read_code n (Brace ∷ st) bs c = refl
read_code n (Text q raw ∷ st) bs c = absurd cc

code_is : (n : ℕ) (st : Stack) (bs : Bytes) (o : Option (Level × Bytes)) → opening bs ≡ o → code_step n st bs ≡ begun n st bs o
unfolding code_step
code_is n st bs o h = ap (begun n st bs) h

pub code_read : (n : ℕ) (st : Stack) (bs : Bytes) (s : Step) → in_code st ≡ true → opening bs ≡ None → step bs ≡ s → read n st bs ≡ coded n st bs s
code_read n st bs s c o h = read_code n st bs c ∙ (code_is n st bs None o ∙ ap (coded n st bs) h)

pub item_complete : {n : ℕ} {st next : Stack} {bs rest : Bytes} {ts : List Token} → IsItem n st bs ts next rest → read n st bs ≡ Took ts next rest
item_complete {n} (tokens.gap {st = st} {bs = bs} {rest = rest} c g k) = code_read n st bs (Gap rest) c (gap_no_opening g) (gap_complete g) ∙ rw k refl
item_complete {n} (tokens.token' {st = st} t {rest = rest} form c o s l a) = code_read n st (t ++ rest) (Found form rest) c o (token_complete t rest form s l a)
item_complete {n} (tokens.open' {st = st} {bs = bs} {rest = rest} {level = level} c o x) = read_code n st bs c ∙ (code_is n st bs (Some (level, rest)) o ∙ rw x refl)
item_complete {n} (tokens.part {q = q} {raw = raw} {st = st} d e) = part_complete n q raw st d e

pub broken_complete : {n : ℕ} {st : Stack} {bs left after : Bytes} {x : Rule} → IsBroken n st bs left x after → read n st bs ≡ Bad x left after
broken_complete {n} (faults.unknown {st = st} {bs = bs} c o u) = code_read n st bs (Broken r.S2 (rest_of bs)) c o (unknown_step bs (step bs) refl (step_says bs u.some) u)
broken_complete {n} (faults.large {st = st} t {rest = rest} {v = v} c s l a) = code_read n st (t ++ rest) (Broken r.S6 rest) c (number_no_opening t rest v s) (large_complete t rest v s l a)
broken_complete {n} (faults.double {st = st} t {rest = rest} {v = v} c s l a d) = code_read n st (t ++ rest) (Broken r.S7 rest) c (number_no_opening t rest v s) (double_complete t rest v s l a d)
broken_complete {n} (faults.tripled {st = st} {bs = bs} {rest = rest} {level = level} c o x) = read_code n st bs c ∙ (code_is n st bs (Some (level, rest)) o ∙ rw x refl)
broken_complete {n} (faults.bad_escape {q = q} {st = st} d i x) = escape_complete n q st d i x
broken_complete {n} (faults.bad_enter {q = q} {st = st} d x) = enter_complete n q st d x

-- ---- what is read is derived

abbrev pub ReadMeans : ℕ → Stack → Bytes → Read → Type 0
ReadMeans n st bs (Took ts next rest) = IsItem n st bs ts next rest
ReadMeans n st bs (Bad r.S3 left after) = in_text st ≡ true
ReadMeans n st bs (Bad r.S4 left after) = (left ≡ bs) × ((more : Bytes) × (bs ≡ 47 ∷ 42 ∷ more) × ((rest : Bytes) → IsInside 0 more rest → ⊥))
ReadMeans n st bs (Bad x left after) = IsBroken n st bs left x after

or_false : (a b : Bool) → not (a && b) ≡ false → a ≡ true
or_false true b h = refl
or_false false b h = absurd cc

coded_says : (n : ℕ) (st : Stack) (bs : Bytes) (s : Step) → in_code st ≡ true → opening bs ≡ None → Means bs s → ReadMeans n st bs (coded n st bs s)
coded_says n st bs (Gap rest) c o h = elim (tells (keeps_line st bs rest)) [
  | inl e ↦ rw e (tokens.gap c h e)
  | inr e ↦ rw e (or_false (in_text st) _ e)
]
coded_says n st bs (Found form rest) c o h =
    subst (λ (xs : Bytes). IsItem n st xs (token n (turned form st).0 xs rest ∷ []) (turned form st).1 rest) (sym h.1)
    (tokens.token' h.0 form c (subst (λ (xs : Bytes). opening xs ≡ None) h.1 o) h.2 h.3 h.4)
coded_says n st bs (Broken r.S2 after) c o h = subst (λ (xs : Bytes). IsBroken n st bs bs r.S2 xs) (sym h.1) (faults.unknown c o h.0)
coded_says n st bs (Broken r.S4 after) c o h = (refl, h)
coded_says n st bs (Broken r.S6 after) c o h = subst (λ (xs : Bytes). IsBroken n st xs xs r.S6 after) (sym h.2) (faults.large h.0 c h.3 h.4 h.5)
coded_says n st bs (Broken r.S7 after) c o h = subst (λ (xs : Bytes). IsBroken n st xs xs r.S7 after) (sym h.2) (faults.double h.0 c h.3 h.4 h.5.0 h.5.1)
coded_says n st bs (Broken _ after) c o h = absurd h

begun_says : (n : ℕ) (st : Stack) (bs : Bytes) (level : Level) (rest : Bytes) → in_code st ≡ true → opening bs ≡ Some (level, rest) → ReadMeans n st bs (begun n st bs (Some (level, rest)))
begun_says n st bs level rest c o = elim (tells (is_tripled level rest)) [
  | inl e ↦ rw e (faults.tripled c o e)
  | inr e ↦ rw e (tokens.open' c o e)
]

code_says : (n : ℕ) (st : Stack) (bs : Bytes) → in_code st ≡ true → 0 < length bs → ReadMeans n st bs (code_step n st bs)
code_says n st bs c some = go (opening bs) refl
  where
    go : (o : Option (Level × Bytes)) → opening bs ≡ o → ReadMeans n st bs (code_step n st bs)
    go (Some p) h = subst (ReadMeans n st bs) (sym (code_is n st bs (Some p) h)) (begun_says n st bs p.0 p.1 c h)
    go None h = subst (ReadMeans n st bs) (sym (code_is n st bs None h)) (coded_says n st bs (step bs) c h (step_says bs some))

module _ (n : ℕ) (q : Bool) (st : Stack) (bs : Bytes) (us : List ℕ) where
  quote_item : (raw : Bool) (b : ℕ) (more : Bytes) → b ≡ quote_of q → IsRun q raw bs us (b ∷ more) → IsItem n (Text q raw ∷ st) bs (token n (Piece us) bs (b ∷ more) ∷ token n TextClose (b ∷ more) more ∷ []) st more
  quote_item raw b more e d = subst (λ (x : ℕ). IsRun q raw bs us (x ∷ more) → IsItem n (Text q raw ∷ st) bs (token n (Piece us) bs (x ∷ more) ∷ token n TextClose (x ∷ more) more ∷ []) st more) (sym e)
      (λ d. tokens.part d tokens.quote) d

  dollar_says : (b : ℕ) (more : Bytes) → b ≡ 36 → IsRun q false bs us (b ∷ more) → (o : Option End) → entered n more (Text q false ∷ st) ≡ o → ReadMeans n (Text q false ∷ st) bs (ended_by (token n (Piece us) bs (b ∷ more)) (b ∷ more) more o)
  dollar_says b more e d None h = subst (λ (x : ℕ). IsRun q false bs us (x ∷ more) → IsBroken n (Text q false ∷ st) bs (x ∷ more) r.S5 more) (sym e) (λ d. faults.bad_enter d h) d
  dollar_says b more e d (Some x) h = subst (λ (y : ℕ). IsRun q false bs us (y ∷ more) → IsItem n (Text q false ∷ st) bs (token n (Piece us) bs (y ∷ more) ∷ x.tokens) x.stack x.rest) (sym e) (λ d. tokens.part d (tokens.enter refl h)) d

  slash_says : (b : ℕ) (more : Bytes) → b ≡ 92 → IsRun q false bs us (b ∷ more) → is_numbered more ≡ true → escape more ≡ None → IsBroken n (Text q false ∷ st) bs (b ∷ more) r.S5 more
  slash_says b more e d i h = subst (λ (x : ℕ). IsRun q false bs us (x ∷ more) → IsBroken n (Text q false ∷ st) bs (x ∷ more) r.S5 more) (sym e) (λ d. faults.bad_escape d i h) d

  -- where a run that was read ends, no escape begins
  abbrev pub NoEscape : Bytes → Type 0
  NoEscape left = (more : Bytes) → left ≡ 92 ∷ more → escape more ≡ None

  ended_says : (raw : Bool) (left : Bytes) → IsRun q raw bs us left → (raw ≡ false → NoEscape left) → ReadMeans n (Text q raw ∷ st) bs (ended n q raw st bs us left)
  ended_says raw [] d s = refl
  ended_says true (b ∷ more) d s = elim (tells (b == quote_of q)) [
    | inl e ↦ rw e (quote_item true b more (eqb-true b (quote_of q) e) d)
    | inr e ↦ rw e refl
  ]
  ended_says false (b ∷ more) d s = elim (tells (b == quote_of q)) [
    | inl e ↦ rw e (quote_item false b more (eqb-true b (quote_of q) e) d)
    | inr e ↦ elim (tells (b == 36)) [
      | inl f ↦ rw (e, f) (dollar_says b more (eqb-true b 36 f) d (entered n more (Text q false ∷ st)) refl)
      | inr f ↦ elim (tells (b == 92 && is_numbered more)) [
        | inl g ↦
            let slash : (b == 92) ≡ true = and_left (b == 92) (is_numbered more) g in
            rw (e, f, g) (slash_says b more (eqb-true b 92 slash) d (and_right (b == 92) (is_numbered more) g) (s refl more (ap (λ (x : ℕ). x ∷ more) (eqb-true b 92 slash))))
        | inr g ↦ rw (e, f, g) refl
      ]
    ]
  ]

run_stops : (k : ℕ) (q : Bool) (bs : Bytes) → length bs ≤ k → (more : Bytes) → (run k q false bs).1 ≡ 92 ∷ more → escape more ≡ None
unfolding run
run_stops k q [] l more h = absurd cc
run_stops zero q (b ∷ bs) l more h = absurd (omega arith)
run_stops (suc k) q (b ∷ bs) l more h = elim (tells (is_own q false b)) [
  | inl e ↦ run_stops k q (back (is_own q false) bs) (omega (arith, back_shorter (is_own q false) bs)) more (rw e at h)
  | inr e ↦ elim (tells (b == 92)) [
    | inl f ↦ go (λ xs m. run_stops k q xs m more) (escape bs) refl (rw (e, f) at h)
    | inr f ↦ absurd (let same : b ≡ 92 = let j : b ∷ bs ≡ 92 ∷ more = rw (e, f) at h in cc in let no : (92 == 92) ≡ false = subst (λ (x : ℕ). (x == 92) ≡ false) same f in cc)
  ]
]
  where
    go : ((xs : Bytes) → length xs ≤ k → (run k q false xs).1 ≡ 92 ∷ more → escape more ≡ None) → (o : Option (List ℕ × Bytes)) → escape bs ≡ o → (past_escape (λ xs. run k q false xs) bs o).1 ≡ 92 ∷ more → escape more ≡ None
    go again None x j = let same : bs ≡ more = cc in ap escape (sym same) ∙ x
    go again (Some p) x j = again p.1 (let m = escape_shrinks bs p.0 p.1 x in omega arith) j

part_says : (n : ℕ) (q raw : Bool) (st : Stack) (bs : Bytes) → ReadMeans n (Text q raw ∷ st) bs (part_step n q raw st bs)
unfolding part_step
part_says n q true st bs = ended_says n q st bs (run (length bs) q true bs).0 true (run (length bs) q true bs).1 (run_sound (length bs) q true bs) (λ f. absurd cc)
part_says n q false st bs = ended_says n q st bs (run (length bs) q false bs).0 false (run (length bs) q false bs).1 (run_sound (length bs) q false bs) (λ f. run_stops (length bs) q bs (omega arith))

pub read_says : (n : ℕ) (st : Stack) (bs : Bytes) → 0 < length bs → ReadMeans n st bs (read n st bs)
read_says n [] bs l = code_says n [] bs refl l
read_says n (Hole ∷ st) bs l = code_says n (Hole ∷ st) bs refl l
read_says n (Brace ∷ st) bs l = code_says n (Brace ∷ st) bs refl l
read_says n (Text q raw ∷ st) bs l = part_says n q raw st bs

-- ---- sizes

abbrev opening_rest : Bytes → Option (Level × Bytes) → Bytes
opening_rest d None = d
opening_rest d (Some o) = o.1

abbrev OpensWithin : Bytes → Option (Level × Bytes) → Type 0
OpensWithin bs None = Unit {0}
OpensWithin bs (Some o) = length o.1 < length bs

quoted_within : (raw : Bool) (bs : Bytes) → OpensWithin bs (quoted raw bs)
quoted_within raw [] = tt
quoted_within raw (b ∷ bs) = elim (tells (b == 34)) [
  | inl e ↦ rw e (omega arith)
  | inr e ↦ elim (tells (b == 39)) [ inl f ↦ rw (e, f) (omega arith) | inr f ↦ rw (e, f) tt ]
]

opens_more : (b : ℕ) (bs : Bytes) (o : Option (Level × Bytes)) → OpensWithin bs o → OpensWithin (b ∷ bs) o
opens_more b bs None h = tt
opens_more b bs (Some o) h = omega arith

opening_within : (bs : Bytes) → OpensWithin bs (opening bs)
opening_within [] = tt
opening_within (b ∷ bs) = elim (tells (b == 114)) [
  | inl e ↦ rw e (opens_more b bs (quoted true bs) (quoted_within true bs))
  | inr e ↦ rw e (quoted_within false (b ∷ bs))
]

pub opening_shrinks : (bs : Bytes) (level : Level) (rest : Bytes) → opening bs ≡ Some (level, rest) → length rest < length bs
opening_shrinks bs level rest h = subst (OpensWithin bs) h (opening_within bs)

abbrev EndsWithin : Bytes → Option End → Type 0
EndsWithin bs None = Unit {0}
EndsWithin bs (Some e) = length e.rest ≤ length bs

named_within : (n : ℕ) (bs : Bytes) (st : Stack) (o : Option Form) → EndsWithin bs (named n bs st o)
named_within n bs st None = tt
named_within n bs st (Some form) = back_shorter is_inner bs

entered_within : (n : ℕ) (bs : Bytes) (st : Stack) → EndsWithin bs (entered n bs st)
entered_within n [] st = tt
entered_within n (b ∷ bs) st = elim (tells (b == 123)) [
  | inl f ↦ rw f (omega arith)
  | inr f ↦ rw f (named_within n (b ∷ bs) st (form_behind (front is_inner (b ∷ bs)) (word_of (front is_inner (b ∷ bs)))))
]

end_shrinks : {n : ℕ} {q raw : Bool} {st : Stack} {bs : Bytes} {e : End} → IsEnd n q raw st bs e → length e.rest < length bs
end_shrinks tokens.quote = omega arith
end_shrinks {n} {q} {raw} {st} {bs} {e} (tokens.enter {bs = more} f x) = let l : length e.rest ≤ length more = subst (EndsWithin more) x (entered_within n more (Text q raw ∷ st)) in omega arith

pub item_shrinks : {n : ℕ} {st next : Stack} {bs rest : Bytes} {ts : List Token} → IsItem n st bs ts next rest → length rest < length bs
item_shrinks (tokens.gap c g k) = gap_shrinks g
item_shrinks (tokens.token' t {rest = rest} form c o s l a) = token_shrinks t rest form s
item_shrinks (tokens.open' {bs = bs} {rest = rest} {level = level} c o x) = opening_shrinks bs level rest o
item_shrinks (tokens.part d e) = omega (arith, run_shrinks d, end_shrinks e)

rest_of_small : (xs : Bytes) → length (rest_of xs) ≤ length xs
rest_of_small [] = omega arith
rest_of_small (x ∷ xs) = omega arith

rest_of_shrinks : (xs : Bytes) → 0 < length xs → length (rest_of xs) < length xs
rest_of_shrinks [] l = absurd (omega arith)
rest_of_shrinks (x ∷ xs) l = omega arith

-- what is left when a broken rule is passed over
pub record Passes (bs left after : Bytes) : Type 0 where
  pub some : 0 < length left
  pub within : length left ≤ length bs
  pub less : length after < length bs

pub broken_passes : {n : ℕ} {st : Stack} {bs left after : Bytes} {x : Rule} → IsBroken n st bs left x after → Passes bs left after
broken_passes (faults.unknown {bs = bs} c o u) = record { some = u.some; within = omega arith; less = rest_of_shrinks bs u.some }
broken_passes (faults.large t {rest = rest} {v = v} c s l a) = let k = token_shrinks t rest (Number v) s in record { some = omega arith; within = omega arith; less = k }
broken_passes (faults.double t {rest = rest} {v = v} c s l a d) = let k = token_shrinks t rest (Number v) s in record { some = omega arith; within = omega arith; less = k }
broken_passes (faults.tripled {bs = bs} {rest = rest} {level = level} c o x) =
    let k = opening_shrinks bs level rest o in
    record { some = omega arith; within = omega arith; less = omega (arith, rest_of_small rest, rest_of_small (rest_of rest)) }
broken_passes (faults.bad_escape {more = more} d i x) = let k = run_shrinks d in record { some = omega arith; within = k; less = omega arith }
broken_passes (faults.bad_enter {more = more} d x) = let k = run_shrinks d in record { some = omega arith; within = k; less = omega arith }
