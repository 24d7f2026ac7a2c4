-- What a visitor of a file's sites collects.
use Rattle.std.proofs.Common.{◌≡◌, ℕ, Bool, true, false, cond, List, [], ◌∷◌, ◌++◌, length, map, Option, Some, None, refl, sym, ap, ◌∙◌}
use Rattle.std.specs.Prelude.{is_some}
use Rattle.std.specs.List.{list_any, flat_map}
use Rattle.dart_sites.specs.declared.sites.Site.{Site}
use Rattle.dart_sites.specs.declared.surroundings.Surroundings.{Surroundings}
use Rattle.dart_sites.specs.Visits.{visited}
use Rattle.library_scopes.specs.Lookups.{is_public}
use Rattle.selectors.specs.declared.collecting.Collector.{Collector}
use Rattle.selectors.specs.declared.selector.Selector.{Selector}
use Rattle.selectors.specs.Selectors.{selector_in, same_home, same_selector, names_at, selectors_at, first_seen}
use Rattle.selectors.specs.Tables.{Table, numbered, entries}
use Rattle.selectors.specs.Collecting.{noted_public, noted_private, noted, noted_all, noted_at}
use Rattle.selectors.proofs.Same.{made}
use Rattle.selectors.proofs.Seen.{seen_behind}
use Rattle.selectors.proofs.Entries.{numbered_is, listed_is, entries_here, entries_elsewhere}

abbrev pub collector : ℕ → List Selector → Table → Table → Collector
collector file listed public private = record { file = file; listed = listed; public = public; private = private }

-- with the tables that a list has in a file
abbrev pub tabled : ℕ → List Selector → Collector
tabled file l = collector file l (entries 0 None l) (entries 0 (Some file) l)

is_listed : (x : List ℕ) (home : Option ℕ) (l : List Selector) → is_some (numbered x (entries 0 home l)) ≡ list_any (same_selector (made x home)) l
is_listed x home l = ap is_some (numbered_is x home 0 l) ∙ listed_is 0 (made x home) l

public_noted : (file : ℕ) (l : List Selector) (x : List ℕ) → noted_public (tabled file l) x ≡ tabled file (first_seen l (made x None ∷ []))
public_noted file l x = by (is_some (numbered x (entries 0 None l))) ∙ ap (λ b. tabled file (cond b l (l ++ made x None ∷ []))) (is_listed x None l) where
  by : (b : Bool) → collector file (cond b l (l ++ made x None ∷ [])) (cond b (entries 0 None l) (entries 0 None l ++ (x, length l) ∷ [])) (entries 0 (Some file) l) ≡ tabled file (cond b l (l ++ made x None ∷ []))
  by true = refl
  by false =
      ap (λ t. collector file (l ++ made x None ∷ []) t (entries 0 (Some file) l)) (sym (entries_here None l x))
      ∙ ap (λ t. collector file (l ++ made x None ∷ []) (entries 0 None (l ++ made x None ∷ [])) t) (sym (entries_elsewhere (Some file) l (made x None) refl))

private_noted : (file : ℕ) (l : List Selector) (x : List ℕ) → noted_private (tabled file l) x ≡ tabled file (first_seen l (made x (Some file) ∷ []))
private_noted file l x = by (is_some (numbered x (entries 0 (Some file) l))) ∙ ap (λ b. tabled file (cond b l (l ++ made x (Some file) ∷ []))) (is_listed x (Some file) l) where
  by : (b : Bool) → collector file (cond b l (l ++ made x (Some file) ∷ [])) (entries 0 None l) (cond b (entries 0 (Some file) l) (entries 0 (Some file) l ++ (x, length l) ∷ [])) ≡ tabled file (cond b l (l ++ made x (Some file) ∷ []))
  by true = refl
  by false =
      ap (λ t. collector file (l ++ made x (Some file) ∷ []) t (entries 0 (Some file) l ++ (x, length l) ∷ [])) (sym (entries_elsewhere None l (made x (Some file)) refl))
      ∙ ap (λ t. collector file (l ++ made x (Some file) ∷ []) (entries 0 None (l ++ made x (Some file) ∷ [])) t) (sym (entries_here (Some file) l x))

pub noted_is : (file : ℕ) (l : List Selector) (x : List ℕ) → noted (tabled file l) x ≡ tabled file (first_seen l (selector_in file x ∷ []))
noted_is file l x = by (is_public x) where
  by : (b : Bool) → cond b (noted_public (tabled file l) x) (noted_private (tabled file l) x) ≡ tabled file (first_seen l (made x (cond b None (Some file)) ∷ []))
  by true = public_noted file l x
  by false = private_noted file l x

pub all_noted : (file : ℕ) (l : List Selector) (xs : List (List ℕ)) → noted_all (tabled file l) xs ≡ tabled file (first_seen l (map (selector_in file) xs))
all_noted file l [] = refl
all_noted file l (x ∷ xs) = ap (λ v. noted_all v xs) (noted_is file l x) ∙ all_noted file (first_seen l (selector_in file x ∷ [])) xs

pub sites_noted : (file : ℕ) (l : List Selector) (sites : List (Surroundings × Site)) → visited noted_at sites (tabled file l) ≡ tabled file (first_seen l (flat_map (selectors_at file) sites))
sites_noted file l [] = refl
sites_noted file l (y ∷ ys) =
    ap (visited noted_at ys) (all_noted file l (names_at y.1))
    ∙ sites_noted file (first_seen l (selectors_at file y)) ys
    ∙ ap (tabled file) (sym (seen_behind l (selectors_at file y) (flat_map (selectors_at file) ys)))

-- ---- the tables of other files

other_one : (i n : ℕ) (l : List Selector) (x : List ℕ) → same_home (Some i) (Some n) ≡ false → entries 0 (Some i) (first_seen l (selector_in n x ∷ [])) ≡ entries 0 (Some i) l
other_one i n l x e = by (list_any (same_selector (selector_in n x)) l) where
  home : (b : Bool) → same_home (Some i) (cond b None (Some n)) ≡ false
  home true = refl
  home false = e

  by : (b : Bool) → entries 0 (Some i) (cond b l (l ++ selector_in n x ∷ [])) ≡ entries 0 (Some i) l
  by true = refl
  by false = entries_elsewhere (Some i) l (selector_in n x) (home (is_public x))

other_names : (i n : ℕ) (l : List Selector) (xs : List (List ℕ)) → same_home (Some i) (Some n) ≡ false → entries 0 (Some i) (first_seen l (map (selector_in n) xs)) ≡ entries 0 (Some i) l
other_names i n l [] e = refl
other_names i n l (x ∷ xs) e = other_names i n (first_seen l (selector_in n x ∷ [])) xs e ∙ other_one i n l x e

pub other_sites : (i n : ℕ) (l : List Selector) (sites : List (Surroundings × Site)) → same_home (Some i) (Some n) ≡ false → entries 0 (Some i) (first_seen l (flat_map (selectors_at n) sites)) ≡ entries 0 (Some i) l
other_sites i n l [] e = refl
other_sites i n l (y ∷ ys) e =
    ap (entries 0 (Some i)) (seen_behind l (selectors_at n y) (flat_map (selectors_at n) ys))
    ∙ other_sites i n (first_seen l (selectors_at n y)) ys e
    ∙ other_names i n l (names_at y.1) e
