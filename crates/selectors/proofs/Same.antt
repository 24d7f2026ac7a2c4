-- The test whether two selectors are one.
use Rattle.std.proofs.Common.{◌≡◌, ℕ, true, List, Option, Some, None, refl, sym, ap, ◌∙◌}
use Rattle.std.specs.Bool.{Decides}
use Rattle.std.specs.Cmp.{IsEquivalence}
use Rattle.std.specs.Str.{bytes_eq}
use Rattle.std.proofs.lemmas.Bool.{eqb-true, eq-eqb, and_parts, and_from}
use Rattle.std.proofs.lemmas.Bool.Decides.{same_from_decides}
use Rattle.std.proofs.lemmas.Slice.Eq.{bytes_eq-Decides}
use Rattle.selectors.specs.declared.selector.Selector.{Selector}
use Rattle.selectors.specs.Selectors.{same_home, same_selector}

pub home_itself : (a : Option ℕ) → same_home a a ≡ true
home_itself None = refl
home_itself (Some m) = eq-eqb m m refl

pub home_same : (a b : Option ℕ) → same_home a b ≡ true → a ≡ b
home_same None None e = refl
home_same (Some m) (Some n) e = ap (λ (k : ℕ). Some k) (eqb-true m n e)
home_same None (Some n) e = cc
home_same (Some m) None e = cc

abbrev pub made : List ℕ → Option ℕ → Selector
made x home = record { text = x; home = home }

pub selector_itself : (s : Selector) → same_selector s s ≡ true
selector_itself s = and_from (bytes_eq s.text s.text) (same_home s.home s.home) ((bytes_eq-Decides s.text s.text).1 refl) (home_itself s.home)

pub selector_same : (s t : Selector) → same_selector s t ≡ true → s ≡ t
selector_same s t e =
    let parts = and_parts (bytes_eq s.text t.text) (same_home s.home t.home) e in
    ap (λ x. made x s.home) ((bytes_eq-Decides s.text t.text).0 parts.0) ∙ ap (made t.text) (home_same s.home t.home parts.1)

pub selector_from_same : (s t : Selector) → s ≡ t → same_selector s t ≡ true
selector_from_same s t e = ap (λ k. same_selector k t) e ∙ selector_itself t

pub same-Decides : (s t : Selector) → Decides (same_selector s t) (s ≡ t)
same-Decides s t = (selector_same s t, selector_from_same s t)

pub same_equivalence : IsEquivalence same_selector
same_equivalence = record {
  refl = selector_itself;
  symm = λ s t. same_from_decides (same_selector s t) (same_selector t s) (same-Decides s t) (λ e. sym (selector_same t s e), λ e. selector_from_same t s (sym e));
  congr = λ s t u e. ap (λ k. same_selector k u) (selector_same s t e);
}
