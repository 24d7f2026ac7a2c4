-- Parts of texts: what is read is derived, and what is derived is read.
use Rattle.std.proofs.Common.{◌≡◌, ℕ, zero, suc, ◌≤◌, Bool, true, false, List, [], ◌∷◌, ◌++◌, length, take, Option, Some, None, refl, sym, ap, ◌∙◌, subst, inl, inr, arith, append_assoc}
use Rattle.std.specs.Prelude.{not, ◌&&◌, ◌||◌, ◌==◌, nat_le}
use Rattle.std.specs.List.{list_all}
use Rattle.std.proofs.lemmas.Bool.{eqb-true}
use Rattle.std.proofs.lemmas.List.{length-append, length-drop, append-nil}
use Rattle.code_units.specs.Text.{units_of}
use Rattle.dart_syntax.specs.declared.tokens.Form.TheVariants.{Piece, TextClose}
use Rattle.dart_syntax.specs.declared.levels.Level.TheVariants.{Text}
use Rattle.dart_syntax.specs.declared.rules.Rule.TheVariants as r
use Rattle.dart_syntax.specs.Table.{Bytes, is_hex, front, back}
use Rattle.dart_syntax.specs.Gaps.{ends_line}
use Rattle.dart_syntax.specs.Texts as texts
use Rattle.dart_syntax.specs.Texts.{quote_of, unit_escape, is_code_point, braced_escape, unicode_escape, control_of, escape_at, escape, is_numbered, is_own, begins, IsRun}
use Rattle.dart_syntax.specs.Tokens as tokens
use Rattle.dart_syntax.specs.Tokens.{Stack, token, End, entered, IsEnd}
use Rattle.dart_syntax.specs.Reader.{Took, Bad, with_units, past_escape, run, is_escape, goes_on, ended_by, ended, part_step}
use Rattle.dart_syntax.proofs.Fronts.{tells, not_true, and_left, and_right, both_true, front-back, front_all, back_stops, stops_of, stops_begins, front_is, back_is, back_shorter}

-- ---- sizes

abbrev left_of : Bytes → Option (List ℕ × Bytes) → Bytes
left_of d None = d
left_of d (Some e) = e.1

left_is : (us : List ℕ) (xs : Bytes) (o : Option (List ℕ × Bytes)) (vs : List ℕ) (more : Bytes) → o ≡ Some (us, xs) → o ≡ Some (vs, more) → xs ≡ more
left_is us xs o vs more e f = ap (left_of []) (sym e ∙ f)

abbrev ShrinksTo : Bytes → Option (List ℕ × Bytes) → Type 0
ShrinksTo bs None = Unit {0}
ShrinksTo bs (Some e) = length e.1 ≤ length bs

unit_shrinks : (k : ℕ) (bs : Bytes) → ShrinksTo bs (unit_escape k bs)
unit_shrinks k bs = elim (tells (nat_le k (length bs) && list_all is_hex (take k bs))) [
  | inl e ↦ rw e (omega (arith, length-drop k bs))
  | inr e ↦ rw e tt
]

braced_shrinks : (digits bs : Bytes) → ShrinksTo bs (braced_escape digits bs)
braced_shrinks digits [] = tt
braced_shrinks digits (b ∷ bs) = elim (tells (b == 125 && is_code_point digits)) [
  | inl e ↦ rw e (omega arith)
  | inr e ↦ rw e tt
]

longer : (bs more : Bytes) (o : Option (List ℕ × Bytes)) → length more ≤ length bs → ShrinksTo more o → ShrinksTo bs o
longer bs more None l s = tt
longer bs more (Some e) l s = omega arith

unicode_shrinks : (bs : Bytes) → ShrinksTo bs (unicode_escape bs)
unicode_shrinks [] = tt
unicode_shrinks (b ∷ bs) = elim (tells (b == 123)) [
  | inl e ↦ rw e (longer (b ∷ bs) (back is_hex bs) (braced_escape (front is_hex bs) (back is_hex bs)) (omega (arith, back_shorter is_hex bs)) (braced_shrinks (front is_hex bs) (back is_hex bs)))
  | inr e ↦ rw e (unit_shrinks 4 (b ∷ bs))
]

escape_at_shrinks : (b : ℕ) (bs : Bytes) → ShrinksTo (b ∷ bs) (escape_at b bs)
escape_at_shrinks b bs = elim (tells (b == 120)) [
  | inl e ↦ rw e (longer (b ∷ bs) bs (unit_escape 2 bs) (omega arith) (unit_shrinks 2 bs))
  | inr e ↦ elim (tells (b == 117)) [
    | inl f ↦ rw (e, f) (longer (b ∷ bs) bs (unicode_escape bs) (omega arith) (unicode_shrinks bs))
    | inr f ↦ elim (tells (ends_line b)) [
      | inl g ↦ rw (e, f, g) tt
      | inr g ↦ elim (tells (nat_le 128 b)) [
        | inl h ↦ rw (e, f, g, h) (omega arith)
        | inr h ↦ rw (e, f, g, h) (omega arith)
      ]
    ]
  ]
]

pub escape_shrinks : (bs : Bytes) (vs : List ℕ) (more : Bytes) → escape bs ≡ Some (vs, more) → length more ≤ length bs
unfolding escape
escape_shrinks [] vs more h = absurd cc
escape_shrinks (b ∷ bs) vs more h = subst (ShrinksTo (b ∷ bs)) h (escape_at_shrinks b bs)

pub run_shrinks : {q raw : Bool} {bs rest : Bytes} {us : List ℕ} → IsRun q raw bs us rest → length rest ≤ length bs
run_shrinks texts.none = omega arith
run_shrinks (texts.own t {rest = rest} a s d) = omega (arith, run_shrinks d, length-append t rest)
run_shrinks (texts.escaped {bs = bs} {more = more} {vs = vs} n e d) = omega (arith, run_shrinks d, escape_shrinks bs vs more e)

-- ---- runs

own_step : (k : ℕ) (q raw : Bool) (b : ℕ) (t rest : Bytes) → list_all (is_own q raw) (b ∷ t) ≡ true → begins (is_own q raw) rest ≡ false
    → run (suc k) q raw (b ∷ (t ++ rest)) ≡ with_units (units_of (b ∷ t)) (run k q raw rest)
unfolding run
own_step k q raw b t rest a s =
    let first : is_own q raw b ≡ true = and_left (is_own q raw b) (list_all (is_own q raw) t) a in
    let all : list_all (is_own q raw) t ≡ true = and_right (is_own q raw b) (list_all (is_own q raw) t) a in
    let f = front_is (is_own q raw) t rest all (stops_of (is_own q raw) rest s) in
    let g = back_is (is_own q raw) t rest all (stops_of (is_own q raw) rest s) in
    rw first (ap (λ (x : Bytes). with_units (units_of (b ∷ x)) (run k q raw (back (is_own q raw) (t ++ rest)))) f
    ∙ ap (λ (y : Bytes). with_units (units_of (b ∷ t)) (run k q raw y)) g)

own_no_slash : (q : Bool) → is_own q false 92 ≡ false
own_no_slash true = refl
own_no_slash false = refl

-- no run goes on here
abbrev pub Halts : Bool → Bool → Bytes → Type 0
Halts q raw rest = (k : ℕ) → run k q raw rest ≡ ([], rest)

or_left : (a b : Bool) → (a || b) ≡ false → a ≡ false
or_left true b h = absurd cc
or_left false b h = refl

or_right : (a b : Bool) → (a || b) ≡ false → b ≡ false
or_right true b h = absurd cc
or_right false b h = h

no_escape : (o : Option (List ℕ × Bytes)) → is_escape o ≡ false → o ≡ None
no_escape None h = refl
no_escape (Some e) h = absurd cc

pub halts_of : (q raw : Bool) (rest : Bytes) → goes_on q raw rest ≡ false → Halts q raw rest
unfolding run
halts_of q raw [] h zero = refl
halts_of q raw [] h (suc k) = refl
halts_of q raw (b ∷ bs) h zero = refl
halts_of q raw (b ∷ bs) h (suc k) =
    let own = or_left (is_own q raw b) (not raw && b == 92 && is_escape (escape bs)) h in
    let no = or_right (is_own q raw b) (not raw && b == 92 && is_escape (escape bs)) h in
    elim (tells (not raw && b == 92)) [
      | inr e ↦ rw (own, e) refl
      | inl e ↦
          let none : is_escape (escape bs) ≡ false = rw e at no in
          let same : 92 ≡ b = sym (eqb-true b 92 (and_right (not raw) (b == 92) e)) in
          rw (own, e, no_escape (escape bs) none) (ap (λ (c : ℕ). ([], c ∷ bs)) same)
    ]

pub run_complete : {q raw : Bool} {bs rest : Bytes} {us : List ℕ} → IsRun q raw bs us rest → Halts q raw rest → (k : ℕ) → length bs ≤ k → run k q raw bs ≡ (us, rest)
unfolding run
run_complete texts.none h k l = h k
run_complete (texts.own t a s d) h zero l = absurd (omega arith)
run_complete {q} {raw} (texts.own {b = b} t {rest = rest} a s d) h (suc k) l =
    own_step k q raw b t rest a s ∙ ap (with_units (units_of (b ∷ t))) (run_complete d h k (omega (arith, length-append t rest)))
run_complete (texts.escaped n e d) h zero l = absurd (omega arith)
run_complete {q} {raw} (texts.escaped {bs = bs} {more = more} {vs = vs} n e d) h (suc k) l =
    let f : is_own q raw 92 ≡ false = subst (λ (x : Bool). is_own q x 92 ≡ false) (sym n) (own_no_slash q) in
    let g : (not raw) ≡ true = rw n refl in
    let again = run_complete d h k (omega (arith, escape_shrinks bs vs more e)) in
    rw (f, g, e) (ap (with_units vs) again)

run_own : (q raw : Bool) (b : ℕ) (bs : Bytes) (us : List ℕ) (after : Bytes) → is_own q raw b ≡ true → IsRun q raw (back (is_own q raw) bs) us after
    → IsRun q raw (b ∷ bs) (units_of (b ∷ front (is_own q raw) bs) ++ us) after
run_own q raw b bs us after o d =
    subst (λ (xs : Bytes). IsRun q raw (b ∷ xs) (units_of (b ∷ front (is_own q raw) bs) ++ us) after) (sym (front-back (is_own q raw) bs))
    (texts.own (front (is_own q raw) bs) (both_true o (front_all (is_own q raw) bs)) (stops_begins (is_own q raw) (back (is_own q raw) bs) (back_stops (is_own q raw) bs)) d)

pub run_sound : (k : ℕ) (q raw : Bool) (bs : Bytes) → IsRun q raw bs (run k q raw bs).0 (run k q raw bs).1
unfolding run
run_sound k q raw [] = texts.none
run_sound zero q raw (b ∷ bs) = texts.none
run_sound (suc k) q raw (b ∷ bs) = elim (tells (is_own q raw b)) [
  | inl e ↦ rw e (run_own q raw b bs _ _ e (run_sound k q raw (back (is_own q raw) bs)))
  | inr e ↦ elim (tells (not raw && b == 92)) [
    | inr f ↦ rw (e, f) texts.none
    | inl f ↦ rw (e, f) (go (λ more. run_sound k q raw more) b (and_left (not raw) (b == 92) f) (and_right (not raw) (b == 92) f) (escape bs) refl)
  ]
]
  where
    go : ((more : Bytes) → IsRun q raw more (run k q raw more).0 (run k q raw more).1) → (c : ℕ) → not raw ≡ true → (c == 92) ≡ true → (o : Option (List ℕ × Bytes)) → escape bs ≡ o
        → IsRun q raw (c ∷ bs) (past_escape (λ more. run k q raw more) bs o).0 (past_escape (λ more. run k q raw more) bs o).1
    go again c n f None x = subst (λ (y : ℕ). IsRun q raw (y ∷ bs) [] (92 ∷ bs)) (sym (eqb-true c 92 f)) texts.none
    go again c n f (Some e) x = subst (λ (y : ℕ). IsRun q raw (y ∷ bs) (with_units e.0 (run k q raw e.1)).0 (with_units e.0 (run k q raw e.1)).1) (sym (eqb-true c 92 f)) (texts.escaped (not_true raw n) x (again e.1))

-- ---- what ends a run

stops_at_quote : (q raw : Bool) (rest : Bytes) → goes_on q raw (quote_of q ∷ rest) ≡ false
stops_at_quote true true rest = refl
stops_at_quote true false rest = refl
stops_at_quote false true rest = refl
stops_at_quote false false rest = refl

stops_at_dollar : (q : Bool) (rest : Bytes) → goes_on q false (36 ∷ rest) ≡ false
stops_at_dollar true rest = refl
stops_at_dollar false rest = refl

stops_at_slash : (q : Bool) (rest : Bytes) → escape rest ≡ None → goes_on q false (92 ∷ rest) ≡ false
stops_at_slash true rest h = rw h refl
stops_at_slash false rest h = rw h refl

pub part_is : (n : ℕ) (q raw : Bool) (st : Stack) {bs mid : Bytes} {us : List ℕ} → IsRun q raw bs us mid → goes_on q raw mid ≡ false → part_step n q raw st bs ≡ ended n q raw st bs us mid
unfolding part_step
part_is n q raw st {bs = bs} {mid = mid} d h = ap (λ (p : List ℕ × Bytes). ended n q raw st bs p.0 p.1) (run_complete d (halts_of q raw mid h) (length bs) (omega arith))

ended_quote : (n : ℕ) (q raw : Bool) (st : Stack) (bs : Bytes) (us : List ℕ) (more : Bytes) → ended n q raw st bs us (quote_of q ∷ more) ≡ Took (token n (Piece us) bs (quote_of q ∷ more) ∷ token n TextClose (quote_of q ∷ more) more ∷ []) st more
ended_quote n true raw st bs us more = refl
ended_quote n false raw st bs us more = refl

ended_dollar : (n : ℕ) (q : Bool) (st : Stack) (bs : Bytes) (us : List ℕ) (more : Bytes) → ended n q false st bs us (36 ∷ more) ≡ ended_by (token n (Piece us) bs (36 ∷ more)) (36 ∷ more) more (entered n more (Text q false ∷ st))
ended_dollar n true st bs us more = refl
ended_dollar n false st bs us more = refl

ended_slash : (n : ℕ) (q : Bool) (st : Stack) (bs : Bytes) (us : List ℕ) (more : Bytes) → is_numbered more ≡ true → ended n q false st bs us (92 ∷ more) ≡ Bad r.S5 (92 ∷ more) more
ended_slash n true st bs us more h = rw h refl
ended_slash n false st bs us more h = rw h refl

pub part_complete : (n : ℕ) (q raw : Bool) (st : Stack) {bs mid : Bytes} {us : List ℕ} {e : End} → IsRun q raw bs us mid → IsEnd n q raw st mid e → part_step n q raw st bs ≡ Took (token n (Piece us) bs mid ∷ e.tokens) e.stack e.rest
part_complete n q raw st {bs = bs} {us = us} d (tokens.quote {rest = rest}) = part_is n q raw st d (stops_at_quote q raw rest) ∙ ended_quote n q raw st bs us rest
part_complete n q true st d (tokens.enter f x) = absurd cc
part_complete n q false st {bs = bs} {us = us} d (tokens.enter {bs = more} f x) =
    part_is n q false st d (stops_at_dollar q more) ∙ (ended_dollar n q st bs us more ∙ ap (ended_by (token n (Piece us) bs (36 ∷ more)) (36 ∷ more) more) x)

pub escape_complete : (n : ℕ) (q : Bool) (st : Stack) {bs more : Bytes} {us : List ℕ} → IsRun q false bs us (92 ∷ more) → is_numbered more ≡ true → escape more ≡ None → part_step n q false st bs ≡ Bad r.S5 (92 ∷ more) more
escape_complete n q st {bs = bs} {more = more} {us = us} d i x = part_is n q false st d (stops_at_slash q more x) ∙ ended_slash n q st bs us more i

pub enter_complete : (n : ℕ) (q : Bool) (st : Stack) {bs more : Bytes} {us : List ℕ} → IsRun q false bs us (36 ∷ more) → entered n more (Text q false ∷ st) ≡ None → part_step n q false st bs ≡ Bad r.S5 (36 ∷ more) more
enter_complete n q st {bs = bs} {more = more} {us = us} d x = part_is n q false st d (stops_at_dollar q more) ∙ (ended_dollar n q st bs us more ∙ ap (ended_by (token n (Piece us) bs (36 ∷ more)) (36 ∷ more) more) x)

-- ---- for a loop

run_more : {q raw : Bool} {bs mid rest : Bytes} {us vs : List ℕ} → IsRun q raw bs us mid → IsRun q raw mid vs rest → IsRun q raw bs (us ++ vs) rest
run_more texts.none e = e
run_more {q} {raw} {rest = after} {vs = ws} (texts.own {b = b} t {rest = rest} {us = us} a s d) e =
    subst (λ (xs : List ℕ). IsRun q raw (b ∷ (t ++ rest)) xs after) (sym (append_assoc (units_of (b ∷ t)) us ws)) (texts.own t a s (run_more d e))
run_more {q} {raw} {rest = after} {vs = ws} (texts.escaped {bs = bs} {vs = vs} {us = us} n x d) e =
    subst (λ (xs : List ℕ). IsRun q raw (92 ∷ bs) xs after) (sym (append_assoc vs us ws)) (texts.escaped n x (run_more d e))

pub run_begin : (q raw : Bool) (bs : Bytes) (us : List ℕ) → us ≡ [] → IsRun q raw bs us bs
run_begin q raw bs us e = subst (λ (vs : List ℕ). IsRun q raw bs vs bs) (sym e) texts.none

pub run_stretch : (q raw : Bool) (bs mid more : Bytes) (us : List ℕ) (b : ℕ) → IsRun q raw bs us mid → mid ≡ b ∷ more → is_own q raw b ≡ true
    → IsRun q raw bs (us ++ units_of (front (is_own q raw) mid)) (back (is_own q raw) mid)
run_stretch q raw bs mid more us b d e o = run_more d (subst (λ (xs : Bytes). IsRun q raw xs (units_of (front (is_own q raw) xs)) (back (is_own q raw) xs)) (sym e) here)
  where
    alone : IsRun q raw (b ∷ more) (units_of (b ∷ front (is_own q raw) more)) (back (is_own q raw) more)
    alone = subst (λ (vs : List ℕ). IsRun q raw (b ∷ more) vs (back (is_own q raw) more)) (append-nil (units_of (b ∷ front (is_own q raw) more))) (run_own q raw b more [] (back (is_own q raw) more) o texts.none)

    here : IsRun q raw (b ∷ more) (units_of (front (is_own q raw) (b ∷ more))) (back (is_own q raw) (b ∷ more))
    here = rw o alone

pub run_escaped : (q raw : Bool) (bs mid more after : Bytes) (us vs : List ℕ) (b : ℕ) → IsRun q raw bs us mid → mid ≡ b ∷ more → (not raw && b == 92) ≡ true → escape more ≡ Some (vs, after) → IsRun q raw bs (us ++ vs) after
run_escaped q raw bs mid more after us vs b d e n x = run_more d (subst (λ (xs : Bytes). IsRun q raw xs vs after) (sym whole) here)
  where
    whole : mid ≡ 92 ∷ more
    whole = e ∙ ap (λ (c : ℕ). c ∷ more) (eqb-true b 92 (and_right (not raw) (b == 92) n))

    here : IsRun q raw (92 ∷ more) vs after
    here = subst (λ (xs : List ℕ). IsRun q raw (92 ∷ more) xs after) (append-nil vs) (texts.escaped (not_true raw (and_left (not raw) (b == 92) n)) x texts.none)
