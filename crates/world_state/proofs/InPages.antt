-- Masks that stand in pages of one size.
use Rattle.std.proofs.Common.{◌≡◌, ◌≢◌, ℕ, zero, suc, ◌+◌, ◌*◌, ◌<◌, List, [], ◌∷◌, ◌++◌, length, sym, ap, ◌∙◌, arith, subst, ⊎_elim, get_or, set, replicate}
use Rattle.std.proofs.lemmas.Bool.Decides.{eqb_tells}
use Rattle.std.specs.Prelude.{nat_eq, true, false}
use Rattle.std.proofs.lemmas.List.{get_or-set_same, get_or-set_other, length-set, length-append, get_or-append-add, set-append_left, set-append_right, get_or-replicate, length-replicate, replicate-append-replicate, get_or_default}
use Rattle.std.proofs.Math.ListN.{get_or-append}
use Rattle.std.proofs.Math.Nat.{suc-mul, zero-mul}
use Rattle.type_masks.specs.Masks.{Kinds, with_kind}
use Rattle.world_state.specs.Worlds.{no_kinds}
use Rattle.world_state.specs.Pages.{mask_of, with_kind_at, all_masks, AreOf}

rest_of : (n : ℕ) (p : List Kinds) (ps : List (List Kinds)) → AreOf n (p ∷ ps) → AreOf n ps
rest_of n p ps are k within = are (suc k) (omega arith)

-- how many masks there are
pub length_all : (n : ℕ) (ps : List (List Kinds)) → AreOf n ps → length (all_masks ps) ≡ length ps * n
length_all n [] are = sym (zero-mul n)
length_all n (p ∷ ps) are =
    let here : length p ≡ n = are 0 (omega arith) in
    let rest = length_all n ps (rest_of n p ps are) in
    let both = length-append p (all_masks ps) in
    omega (arith, suc-mul (length ps) n)

-- the mask at a place of a page
pub mask_in : (n : ℕ) (ps : List (List Kinds)) (q r : ℕ) → AreOf n ps → q < length ps → r < n → mask_of (all_masks ps) (q * n + r) ≡ mask_of (get_or ps q []) r
mask_in n [] q r are within below = absurd (omega arith)
mask_in n (p ∷ ps) zero r are within below =
    let here : length p ≡ n = are 0 (omega arith) in
    ap (mask_of (p ++ all_masks ps)) (omega (arith, zero-mul n)) ∙ get_or-append p (all_masks ps) no_kinds r (omega arith)
mask_in n (p ∷ ps) (suc q) r are within below =
    let here : length p ≡ n = are 0 (omega arith) in
    ap (mask_of (p ++ all_masks ps)) (omega (arith, suc-mul q n))
    ∙ get_or-append-add p (all_masks ps) (q * n + r) no_kinds ∙ mask_in n ps q r (rest_of n p ps are) (omega arith) below

-- a mask that is put at a place of a page
pub set_in : (n : ℕ) (ps : List (List Kinds)) (q r : ℕ) (m : Kinds) → AreOf n ps → q < length ps → r < n → all_masks (set ps q (set (get_or ps q []) r m)) ≡ set (all_masks ps) (q * n + r) m
set_in n [] q r m are within below = absurd (omega arith)
set_in n (p ∷ ps) zero r m are within below =
    let here : length p ≡ n = are 0 (omega arith) in
    sym (set-append_left p (all_masks ps) r m (omega arith)) ∙ ap (λ k. set (p ++ all_masks ps) k m) (omega (arith, zero-mul n))
set_in n (p ∷ ps) (suc q) r m are within below =
    let here : length p ≡ n = are 0 (omega arith) in
    ap (λ ms. p ++ ms) (set_in n ps q r m (rest_of n p ps are) (omega arith) below)
    ∙ ap (λ k. p ++ set (all_masks ps) k m) (omega (arith, suc-mul q n))
    ∙ sym (set-append_right p (all_masks ps) n (suc q * n + r) m here (omega (arith, suc-mul q n)))

-- pages stay of one size where one of that size comes in the place of another
pub are_with : (n : ℕ) (ps : List (List Kinds)) (q : ℕ) (p : List Kinds) → AreOf n ps → length p ≡ n → AreOf n (set ps q p)
are_with n ps q p are size k within =
    let inside : k < length ps = omega (arith, length-set ps q p) in
    ⊎_elim (λ (is : (nat_eq k q ≡ true) × (k ≡ q)).
    subst (λ j. length (get_or (set ps q p) j []) ≡ n) (sym is.1) (ap length (get_or-set_same ps q p [] (omega arith)) ∙ size))
    (λ (is : (nat_eq k q ≡ false) × (k ≢ q)). ap length (get_or-set_other ps q k p [] is.1) ∙ are k inside)
    (eqb_tells k q)

-- one page, time and again
pub are_alike : (n q : ℕ) (p : List Kinds) (ps : List (List Kinds)) → ps ≡ replicate q p → length p ≡ n → AreOf n ps
are_alike n q p ps is size =
    subst (AreOf n) (sym is) (λ k within. ap length (get_or-replicate q k p [] (omega (arith, length-replicate q p))) ∙ size)

pub count_alike : (n q : ℕ) (p : List Kinds) (ps : List (List Kinds)) → ps ≡ replicate q p → length p ≡ n → length (all_masks ps) ≡ q * n
count_alike n q p ps is size = length_all n ps (are_alike n q p ps is size) ∙ ap (λ xs. length xs * n) is ∙ ap (λ k. k * n) (length-replicate q p)

all_same : (q n : ℕ) (m : Kinds) → all_masks (replicate q (replicate n m)) ≡ replicate (q * n) m
all_same zero n m = ap (λ k. replicate k m) (sym (zero-mul n))
all_same (suc q) n m =
    ap (λ ms. replicate n m ++ ms) (all_same q n m) ∙ replicate-append-replicate n (q * n) m ∙ ap (λ k. replicate k m) (omega (arith, suc-mul q n))

-- a page of one and the same mask, time and again
pub all_alike : (n q : ℕ) (p : List Kinds) (ps : List (List Kinds)) (m : Kinds) → ps ≡ replicate q p → length p ≡ n → p ≡ replicate (length p) m → all_masks ps ≡ replicate (length (all_masks ps)) m
all_alike n q p ps m is size same =
    ap all_masks is ∙ ap (λ ms. all_masks (replicate q ms)) (same ∙ ap (λ k. replicate k m) size) ∙ all_same q n m ∙ ap (λ k. replicate k m) (sym (count_alike n q p ps is size))

-- a page that was found at its place
pub page_is : (ps : List (List Kinds)) (q : ℕ) (p : List Kinds) → q < length ps → p ≡ get_or ps q p → p ≡ get_or ps q []
page_is ps q p within is = is ∙ get_or_default ps q p [] within

pub page_has : (n : ℕ) (ps : List (List Kinds)) (q : ℕ) (p : List Kinds) → AreOf n ps → q < length ps → p ≡ get_or ps q p → length p ≡ n
page_has n ps q p are within is = ap length (page_is ps q p within is) ∙ are q within

pub mask_there : (n : ℕ) (ps : List (List Kinds)) (i q r : ℕ) (p : List Kinds) → AreOf n ps → q < length ps → r < n → i ≡ q * n + r → p ≡ get_or ps q p → mask_of (all_masks ps) i ≡ mask_of p r
mask_there n ps i q r p are within below at is =
    ap (mask_of (all_masks ps)) at ∙ mask_in n ps q r are within below ∙ ap (λ ms. mask_of ms r) (sym (page_is ps q p within is))

pub kind_there : (n : ℕ) (ps : List (List Kinds)) (i q r kind : ℕ) (p new : List Kinds) → AreOf n ps → q < length ps → r < n → i ≡ q * n + r → p ≡ get_or ps q p → new ≡ with_kind_at p r kind → all_masks (set ps q new) ≡ with_kind_at (all_masks ps) i kind
kind_there n ps i q r kind p new are within below at is done =
    let there : mask_of (all_masks ps) i ≡ mask_of p r = mask_there n ps i q r p are within below at is in
    ap (λ ms. all_masks (set ps q ms)) (done ∙ ap (λ ms. set ms r (with_kind (mask_of p r) kind)) (page_is ps q p within is))
    ∙ set_in n ps q r (with_kind (mask_of p r) kind) are within below
    ∙ ap (λ k. set (all_masks ps) k (with_kind (mask_of p r) kind)) (sym at)
    ∙ ap (λ m. set (all_masks ps) i (with_kind m kind)) (sym there)

pub are_after : (n : ℕ) (ps : List (List Kinds)) (q r kind : ℕ) (p new : List Kinds) → AreOf n ps → q < length ps → p ≡ get_or ps q p → new ≡ with_kind_at p r kind → AreOf n (set ps q new)
are_after n ps q r kind p new are within is done = are_with n ps q new are (ap length done ∙ length-set p r (with_kind (mask_of p r) kind) ∙ page_has n ps q p are within is)
