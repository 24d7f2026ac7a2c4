-- Units of texts in parts.
use Rattle.std.specs.Prelude.{◌⊎◌, ◌≡◌, ℕ, zero, suc, ◌+◌, ◌-◌, ◌<◌, List, [], ◌∷◌, ◌++◌, None, Some, slice_get, slice_index_or, ◌≤◌, ◌&&◌, length, take, drop, fold}
use Rattle.std.specs.List.{flat_map}
use Rattle.std.specs.Hash as fed
use mathlib.Core.Path.{refl, sym, ap, ◌∙◌}
use native.Mathlib.Omega.{arith}
use Rattle.std.proofs.lemmas.List.{append_assoc, append-nil}
use Rattle.std.specs.Ordering.{nat_cmp, ordering_then}
use Rattle.std.specs.declared.cmp.Ordering.{Ordering}
use Rattle.std.specs.declared.cmp.Ordering.TheVariants.{Less, Equal, Greater}
use Rattle.std.specs.Cmp.Lexicographic.{slice_cmp}
use Rattle.std.specs.Cmp.{nat_eq_equiv, nat_cmp_is, unsigned_ties, unsigned_Decides, Equal-is}
use Rattle.std.specs.Ordering.{is_eq}
use mathlib.Core.Logic.{inl, inr}
use Rattle.std.proofs.lemmas.Option.{none-some, slice_get-get_or, slice_get_cases}
use Rattle.std.proofs.lemmas.List.{drop_all}
use Rattle.store_lists.specs.Text.{same_text}
use Rattle.store_lists.specs.Parts.{flat}
use Rattle.store_lists.proofs.Tidied.{drop_at_place}

get_front : (p r : List ℕ) (i : ℕ) → i < length p → slice_get (p ++ r) i ≡ slice_get p i
get_front [] r i h = absurd (omega arith)
get_front (x ∷ p) r zero h = refl
get_front (x ∷ p) r (suc i) h = get_front p r i (omega arith)

get_behind : (p r : List ℕ) (i : ℕ) → ¬ (i < length p) → slice_get (p ++ r) i ≡ slice_get r (i - length p)
get_behind [] r i h = let e : i - 0 ≡ i = omega arith in rw e refl
get_behind (x ∷ p) r zero h = absurd (h (omega arith))
get_behind (x ∷ p) r (suc i) h = let e : suc i - suc (length p) ≡ i - length p = omega arith in rw e (get_behind p r i (λ l. h (omega arith)))

pub unit_here : (p m l : List ℕ) (i : ℕ) → i < length p → slice_get ((p ++ m) ++ l) i ≡ slice_get p i
unit_here p m l i h = ap (λ xs. slice_get xs i) (append_assoc p m l) ∙ get_front p (m ++ l) i h

pub unit_behind : (p m l : List ℕ) (i : ℕ) → ¬ (i < length p) → slice_get ((p ++ m) ++ l) i ≡ slice_get (m ++ l) (i - length p)
unit_behind p m l i h = ap (λ xs. slice_get xs i) (append_assoc p m l) ∙ get_behind p (m ++ l) i h

take_none : (n f : ℕ) → take n (drop {A = ℕ} f []) ≡ []
take_none zero zero = refl
take_none (suc n) zero = refl
take_none zero (suc f) = refl
take_none (suc n) (suc f) = refl

overlap : (p r : List ℕ) (f t : ℕ) → take (t - f) (drop f (p ++ r)) ≡ take (t - f) (drop f p) ++ take ((t - length p) - (f - length p)) (drop (f - length p) r)
overlap [] r f t = let e : f - 0 ≡ f = omega arith in let d : t - 0 ≡ t = omega arith in rw (e, d, take_none (t - f) f) refl
overlap (x ∷ p) r zero zero = let e : 0 - suc (length p) ≡ 0 = omega arith in rw e refl
overlap (x ∷ p) r zero (suc t) =
    let e : suc t - suc (length p) ≡ t - length p = omega arith in let d : 0 - suc (length p) ≡ 0 - length p = omega arith in let c : suc t - 0 ≡ suc (t - 0) = omega arith in
    rw (e, d, c) (ap (λ xs. x ∷ xs) (overlap p r zero t))
overlap (x ∷ p) r (suc f) zero =
    let e : 0 - suc (length p) ≡ 0 = omega arith in let d : 0 - suc f ≡ 0 = omega arith in let c : 0 - (suc f - suc (length p)) ≡ 0 = omega arith in
    rw (d, e, c) refl
overlap (x ∷ p) r (suc f) (suc t) =
    let e : suc t - suc (length p) ≡ t - length p = omega arith in let d : suc f - suc (length p) ≡ f - length p = omega arith in let c : suc t - suc f ≡ t - f = omega arith in
    rw (e, d, c) (overlap p r f t)

range_step : (us p m l : List ℕ) (f t : ℕ) → (us ++ take (t - f) (drop f p)) ++ take ((t - length p) - (f - length p)) (drop (f - length p) (m ++ l)) ≡ us ++ take (t - f) (drop f ((p ++ m) ++ l))
range_step us p m l f t =
    append_assoc us (take (t - f) (drop f p)) _
    ∙ ap (λ xs. us ++ xs) (sym (overlap p (m ++ l) f t) ∙ ap (λ xs. take (t - f) (drop f xs)) (sym (append_assoc p m l)))

flat_split : (f : List (List ℕ)) (k : ℕ) → flat (take k f) ++ flat (drop k f) ≡ flat f
flat_split [] zero = refl
flat_split [] (suc k) = refl
flat_split (p ∷ f) zero = refl
flat_split (p ∷ f) (suc k) = append_assoc p (flat (take k f)) (flat (drop k f)) ∙ ap (λ xs. p ++ xs) (flat_split f k)

-- what is merged stands behind what is kept
pub merged : (f : List (List ℕ)) (k : ℕ) (l o : List ℕ) → flat (take k f) ++ ((flat (drop k f) ++ l) ++ o) ≡ (flat f ++ l) ++ o
merged f k l o =
    sym (append_assoc (flat (take k f)) (flat (drop k f) ++ l) o)
    ∙ ap (λ xs. xs ++ o) (sym (append_assoc (flat (take k f)) (flat (drop k f)) l) ∙ ap (λ xs. xs ++ l) (flat_split f k))

flat_pushed : (f : List (List ℕ)) (p : List ℕ) → flat (f ++ p ∷ []) ≡ flat f ++ p
flat_pushed [] p = append-nil p
flat_pushed (q ∷ f) p = ap (λ xs. q ++ xs) (flat_pushed f p) ∙ sym (append_assoc q (flat f) p)

-- all parts in front are pushed, and then the last one
pub pushed_last : (front parts : List (List ℕ)) (i : ℕ) (last : List ℕ) → length front ≤ i → parts ++ drop i front ≡ front → flat (parts ++ last ∷ []) ≡ flat front ++ last
pushed_last front parts i last h e =
    ap (λ xs. flat (xs ++ last ∷ [])) (sym (append-nil parts) ∙ ap (λ xs. parts ++ xs) (sym (drop_all i front h)) ∙ e)
    ∙ flat_pushed front last

pub fed_more : {S : Type 0} (write : S → List ℕ → S) (s : S) (p q : List ℕ) → fold write (fold write s (flat_map fed.u16 p)) (flat_map fed.u16 q) ≡ fold write s (flat_map fed.u16 (p ++ q))
fed_more write s [] q = refl
fed_more write s (x ∷ p) q = fed_more write (write s (fed.le_bytes 2 x)) p q

-- ---- parts of parts

pub taken_all : (p : List ℕ) (f t : ℕ) → length p ≤ t → take (t - f) (drop f p) ≡ drop f p
taken_all [] zero t h = take_none (t - 0) 0
taken_all [] (suc f) t h = take_none (t - suc f) 0
taken_all (x ∷ p) zero zero h = absurd (omega arith)
taken_all (x ∷ p) zero (suc t) h = let e : suc t - 0 ≡ suc (t - 0) = omega arith in rw e (ap (λ xs. x ∷ xs) (taken_all p zero t (omega arith)))
taken_all (x ∷ p) (suc f) zero h = absurd (omega arith)
taken_all (x ∷ p) (suc f) (suc t) h = let e : suc t - suc f ≡ t - f = omega arith in rw e (taken_all p f t (omega arith))

pub taken_turned : (p : List ℕ) (f t : ℕ) → t ≤ f → take (t - f) (drop f p) ≡ []
taken_turned p f t h = let e : t - f ≡ 0 = omega arith in rw e refl

pub taken_behind : (p : List ℕ) (f t : ℕ) → length p ≤ f → take (t - f) (drop f p) ≡ []
taken_behind p f t h = ap (λ xs. take (t - f) xs) (drop_all f p h) ∙ take_none (t - f) 0

-- ---- texts, unit by unit

unit_first : (xs : List ℕ) (i x : ℕ) → Some x ≡ slice_get xs i → drop i xs ≡ x ∷ drop (i + 1) xs
unit_first xs i x h = drop_at_place xs i x (sym h)

pub same_step : (a b : List ℕ) (i x y : ℕ) → Some x ≡ slice_get a i → Some y ≡ slice_get b i → x ≡ y → same_text (drop (i + 1) a) (drop (i + 1) b) ≡ same_text (drop i a) (drop i b)
same_step a b i x y h k e = sym (rw (unit_first a i x h, unit_first b i y k, e) (ap (λ t. t && same_text (drop (i + 1) a) (drop (i + 1) b)) (nat_eq_equiv.refl y)))

-- ---- a place in a list

part_first : {X : Type 0} (xs : List X) (i : ℕ) (x : X) → i < length xs → x ≡ slice_index_or xs i x → drop i xs ≡ x ∷ drop (i + 1) xs
part_first xs i x h e = drop_at_place xs i x (slice_get-get_or xs i x h ∙ ap Some (sym e))

flat_first : (front : List (List ℕ)) (i : ℕ) (p : List ℕ) → i < length front → p ≡ slice_index_or front i p → flat (drop i front) ≡ p ++ flat (drop (i + 1) front)
flat_first front i p h e = ap flat (part_first front i p h e)

pub here_in : (front : List (List ℕ)) (last : List ℕ) (i : ℕ) (p : List ℕ) (at : ℕ) → i < length front → p ≡ slice_index_or front i p → at < length p → slice_get (flat (drop i front) ++ last) at ≡ slice_get p at
here_in front last i p at h e l = ap (λ xs. slice_get (xs ++ last) at) (flat_first front i p h e) ∙ unit_here p (flat (drop (i + 1) front)) last at l

pub behind_in : (front : List (List ℕ)) (last : List ℕ) (i : ℕ) (p : List ℕ) (at : ℕ) → i < length front → p ≡ slice_index_or front i p → length p ≤ at → slice_get (flat (drop i front) ++ last) at ≡ slice_get (flat (drop (i + 1) front) ++ last) (at - length p)
behind_in front last i p at h e l = ap (λ xs. slice_get (xs ++ last) at) (flat_first front i p h e) ∙ unit_behind p (flat (drop (i + 1) front)) last at (omega arith)

pub last_in : (front : List (List ℕ)) (last : List ℕ) (i at : ℕ) → length front ≤ i → slice_get (flat (drop i front) ++ last) at ≡ slice_get last at
last_in front last i at h = ap (λ xs. slice_get (flat xs ++ last) at) (drop_all i front h)

-- the units of one part more, in a range
pub range_in : (us vs : List ℕ) (front : List (List ℕ)) (last : List ℕ) (i : ℕ) (p : List ℕ) (f t g s : ℕ) → i < length front → p ≡ slice_index_or front i p → vs ≡ us ++ take (t - f) (drop f p) → g ≡ f - length p → s ≡ t - length p → vs ++ take (s - g) (drop g (flat (drop (i + 1) front) ++ last)) ≡ us ++ take (t - f) (drop f (flat (drop i front) ++ last))
range_in us vs front last i p f t g s h e v k n =
    rw (v, k, n)
    (range_step us p (flat (drop (i + 1) front)) last f t
    ∙ ap (λ xs. us ++ take (t - f) (drop f (xs ++ last))) (sym (flat_first front i p h e)))

-- ---- which of two texts comes first

level : (x y : ℕ) → x ≡ y → nat_cmp x y ≡ Equal
level x y e = (Equal-is (nat_cmp x y)).0 (sym (unsigned_ties x y) ∙ (unsigned_Decides x y).1 e)

not_level : (x y : ℕ) → ¬ (x ≡ y) → ¬ (nat_cmp x y ≡ Equal)
not_level x y n e = n ((unsigned_Decides x y).0 (unsigned_ties x y ∙ ap is_eq e))

apart_by : (r o : Ordering) → ¬ (r ≡ Equal) → r ≡ ordering_then r o
apart_by Less o n = refl
apart_by Equal o n = absurd (n refl)
apart_by Greater o n = refl

pub cmp_apart : (a b : List ℕ) (i x y : ℕ) → Some x ≡ slice_get a i → Some y ≡ slice_get b i → ¬ (x ≡ y) → nat_cmp x y ≡ slice_cmp nat_cmp (drop i a) (drop i b)
cmp_apart a b i x y h k n = rw (unit_first a i x h, unit_first b i y k) (apart_by (nat_cmp x y) _ (not_level x y n))

pub cmp_step : (a b : List ℕ) (i x y : ℕ) → Some x ≡ slice_get a i → Some y ≡ slice_get b i → x ≡ y → slice_cmp nat_cmp (drop (i + 1) a) (drop (i + 1) b) ≡ slice_cmp nat_cmp (drop i a) (drop i b)
cmp_step a b i x y h k e = sym (rw (unit_first a i x h, unit_first b i y k) (ap (λ r. ordering_then r (slice_cmp nat_cmp (drop (i + 1) a) (drop (i + 1) b))) (level x y e)))

none_left : (xs : List ℕ) (i : ℕ) → None ≡ slice_get xs i → drop i xs ≡ []
none_left [] zero h = refl
none_left [] (suc i) h = refl
none_left (x ∷ xs) zero h = absurd (none-some _ h)
none_left (x ∷ xs) (suc i) h = none_left xs i h

pub cmp_longer : (a b : List ℕ) (i x : ℕ) → Some x ≡ slice_get a i → None ≡ slice_get b i → Greater ≡ slice_cmp nat_cmp (drop i a) (drop i b)
cmp_longer a b i x h k = rw (unit_first a i x h, none_left b i k) refl

pub there : (a : List ℕ) (i : ℕ) → i < length a → ¬ (None ≡ slice_get a i)
there a i l h = none-some _ (h ∙ slice_get-get_or a i 0 l)

pub cmp_end : (a b : List ℕ) (i : ℕ) → length a ≤ i → i ≤ length a → i ≤ length b → nat_cmp (length a) (length b) ≡ slice_cmp nat_cmp (drop i a) (drop i b)
cmp_end a b i h g k = go (slice_get_cases b i).1
  where
    go : ((x : ℕ) × (i < length b) × (slice_get b i ≡ Some x) × (slice_index_or b i x ≡ x)) ⊎ ((length b ≤ i) × (slice_get b i ≡ None)) → nat_cmp (length a) (length b) ≡ slice_cmp nat_cmp (drop i a) (drop i b)
    go (inl w) = rw (drop_all i a h, drop_at_place b i w.0 w.2) (sym (nat_cmp_is (length a) (length b) Less (let l = w.1 in omega arith)))
    go (inr w) = rw (drop_all i a h, drop_all i b w.0) (sym (nat_cmp_is (length a) (length b) Equal (let l = w.0 in omega arith)))
