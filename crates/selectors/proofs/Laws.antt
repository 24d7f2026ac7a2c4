-- What holds of the numbers of selectors.
use Rattle.std.proofs.Common.{◌≡◌, ℕ, zero, suc, ◌+◌, ◌<◌, Bool, true, List, [], ◌∷◌, ◌++◌, length, map, Some, sym, ap, ◌∙◌, arith, add-zero, zero-add}
use Rattle.std.specs.Prelude.{◌||◌, is_some, slice_get}
use Rattle.std.specs.List.{list_any, flat_map, IsDistinct}
use Rattle.std.proofs.lemmas.Bool.{or_left, or_right}
use Rattle.std.proofs.lemmas.List.Folds.{list_any-append}
use Rattle.std.proofs.lemmas.Option.{same_Some, slice_get_within}
use Rattle.dart_program.specs.declared.files.SourceFile.{SourceFile}
use Rattle.dart_sites.specs.declared.sites.Site.{Site}
use Rattle.dart_sites.specs.declared.surroundings.Surroundings.{Surroundings}
use Rattle.dart_sites.specs.Files.{sites_of_file}
use Rattle.selectors.specs.declared.selector.Selector.{Selector}
use Rattle.selectors.specs.Selectors.{selector_in, same_selector, names_at, selectors_at, first_seen, selectors_from, selectors, number_in, selector_number}
use Rattle.selectors.proofs.Same.{selector_itself, selector_same}
use Rattle.selectors.proofs.Seen.{seen_once, seen_any, place_numbered, number_there}
use Rattle.selectors.proofs.Entries.{listed_is}

-- Each selector stands once.
pub selectors_once : (files : List SourceFile) → IsDistinct same_selector (selectors files)
unfolding selectors IsDistinct
selectors_once files = seen_once [] (selectors_from 0 files) tt

-- The number of a selector of the list is its place.
pub number_at_place : (files : List SourceFile) (place : ℕ) (s : Selector) → slice_get (selectors files) place ≡ Some s → number_in 0 s (selectors files) ≡ Some place
number_at_place files place s e = place_numbered 0 (selectors files) place s (selectors_once files) e ∙ ap (λ (k : ℕ). Some k) (zero-add place)

-- A name stands at its number, as the file sees it.
pub selector_at_number : (files : List SourceFile) (file : ℕ) (text : List ℕ) (n : ℕ) → selector_number files file text ≡ Some n → slice_get (selectors files) n ≡ Some (selector_in file text)
unfolding selector_number
selector_at_number files file text n e =
    let r = number_there 0 (selector_in file text) (selectors files) n e in
    ap (slice_get (selectors files)) (r.numbered ∙ zero-add r.place) ∙ r.stands

-- Numbers are below the length.
pub number_below : (files : List SourceFile) (file : ℕ) (text : List ℕ) (n : ℕ) → selector_number files file text ≡ Some n → n < length (selectors files)
number_below files file text n e = slice_get_within (selectors files) n (selector_in file text) (selector_at_number files file text n e)

-- Two equal selectors have one number.
pub one_number : (files : List SourceFile) (s t : Selector) → same_selector s t ≡ true → number_in 0 s (selectors files) ≡ number_in 0 t (selectors files)
one_number files s t e = ap (λ u. number_in 0 u (selectors files)) (selector_same s t e)

-- Equal selectors of the list stand at one place.
pub one_place : (files : List SourceFile) (m n : ℕ) (s t : Selector) → slice_get (selectors files) m ≡ Some s → slice_get (selectors files) n ≡ Some t → same_selector s t ≡ true → m ≡ n
one_place files m n s t d e same =
    same_Some m n (sym (number_at_place files m s d) ∙ one_number files s t same ∙ number_at_place files n t e)

-- Two names with one number are one, as their files see them.
pub one_selector : (files : List SourceFile) (f g : ℕ) (x y : List ℕ) (n : ℕ) → selector_number files f x ≡ Some n → selector_number files g y ≡ Some n → selector_in f x ≡ selector_in g y
one_selector files f g x y n d e = same_Some (selector_in f x) (selector_in g y) (sym (selector_at_number files f x n d) ∙ selector_at_number files g y n e)

-- Exactly the names that a site declares or uses have a number.
pub numbered_exactly : (files : List SourceFile) (file : ℕ) (text : List ℕ) → is_some (selector_number files file text) ≡ list_any (same_selector (selector_in file text)) (selectors_from 0 files)
unfolding selector_number selectors
numbered_exactly files file text = listed_is 0 (selector_in file text) (first_seen [] (selectors_from 0 files)) ∙ seen_any (selector_in file text) [] (selectors_from 0 files)

-- ---- the names of each site

named_here : (p : Selector → Bool) (n : ℕ) (xs : List (List ℕ)) (i : ℕ) (x : List ℕ) → slice_get xs i ≡ Some x → p (selector_in n x) ≡ true → list_any p (map (selector_in n) xs) ≡ true
named_here p n [] i x e h = cc
named_here p n (y ∷ ys) zero x e h = or_left (p (selector_in n y)) (list_any p (map (selector_in n) ys)) (ap (λ z. p (selector_in n z)) (same_Some y x e) ∙ h)
named_here p n (y ∷ ys) (suc i) x e h = or_right (p (selector_in n y)) (list_any p (map (selector_in n) ys)) (named_here p n ys i x e h)

any_joined : (p : Selector → Bool) (xs ys : List Selector) → (list_any p xs || list_any p ys) ≡ true → list_any p (xs ++ ys) ≡ true
any_joined p xs ys h = list_any-append p xs ys ∙ h

sited_here : {A : Type 0} (p : Selector → Bool) (f : A → List Selector) (ys : List A) (i : ℕ) (y : A) → slice_get ys i ≡ Some y → list_any p (f y) ≡ true → list_any p (flat_map f ys) ≡ true
sited_here p f [] i y e h = cc
sited_here p f (z ∷ zs) zero y e h = any_joined p (f z) (flat_map f zs) (or_left (list_any p (f z)) (list_any p (flat_map f zs)) (ap (λ u. list_any p (f u)) (same_Some z y e) ∙ h))
sited_here p f (z ∷ zs) (suc i) y e h = any_joined p (f z) (flat_map f zs) (or_right (list_any p (f z)) (list_any p (flat_map f zs)) (sited_here p f zs i y e h))

filed_here : (p : Selector → Bool) (m : ℕ) (files : List SourceFile) (n : ℕ) (file : SourceFile) → slice_get files n ≡ Some file → list_any p (flat_map (selectors_at (m + n)) (sites_of_file file.tree)) ≡ true → list_any p (selectors_from m files) ≡ true
filed_here p m [] n file e h = cc
filed_here p m (f ∷ fs) zero file e h =
    any_joined p (flat_map (selectors_at m) (sites_of_file f.tree)) (selectors_from (suc m) fs)
    (or_left (list_any p (flat_map (selectors_at m) (sites_of_file f.tree))) (list_any p (selectors_from (suc m) fs))
    (ap (λ g. list_any p (flat_map (selectors_at m) (sites_of_file g.tree))) (same_Some f file e) ∙ ap (λ k. list_any p (flat_map (selectors_at k) (sites_of_file file.tree))) (sym (add-zero m)) ∙ h))
filed_here p m (f ∷ fs) (suc n) file e h =
    let behind : suc m + n ≡ m + suc n = omega arith in
    any_joined p (flat_map (selectors_at m) (sites_of_file f.tree)) (selectors_from (suc m) fs)
    (or_right (list_any p (flat_map (selectors_at m) (sites_of_file f.tree))) (list_any p (selectors_from (suc m) fs))
    (filed_here p (suc m) fs n file e (ap (λ k. list_any p (flat_map (selectors_at k) (sites_of_file file.tree))) behind ∙ h)))

-- Each name at each site of a file has a number there.
pub site_numbered : (files : List SourceFile) (n i j : ℕ) (file : SourceFile) (y : Surroundings × Site) (x : List ℕ)
    → slice_get files n ≡ Some file → slice_get (sites_of_file file.tree) i ≡ Some y → slice_get (names_at y.1) j ≡ Some x → is_some (selector_number files n x) ≡ true
site_numbered files n i j file y x d e h =
    let p : Selector → Bool = same_selector (selector_in n x) in
    let here : list_any p (selectors_at n y) ≡ true = named_here p n (names_at y.1) j x h (selector_itself (selector_in n x)) in
    let sited : list_any p (flat_map (selectors_at n) (sites_of_file file.tree)) ≡ true = sited_here p (selectors_at n) (sites_of_file file.tree) i y e here in
    numbered_exactly files n x ∙ filed_here p 0 files n file d (ap (λ k. list_any p (flat_map (selectors_at k) (sites_of_file file.tree))) (zero-add n) ∙ sited)
