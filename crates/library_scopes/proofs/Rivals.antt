-- Which candidates are two, and the least place at which a name has two.
use Rattle.std.proofs.Common.{◌≡◌, ℕ, Bool, true, false, cond, List, [], ◌∷◌, ◌++◌, Option, Some, None, refl, sym, ap, ◌∙◌, subst}
use Rattle.std.specs.Prelude.{◌==◌, ◌&&◌, ◌||◌, not, slice_get, option_and_then, option_to_list}
use Rattle.std.specs.List.{list_any, filter, filter_map, cons_option}
use Rattle.std.proofs.lemmas.Bool.{eq-eqb, eqb-true}
use Rattle.dart_sites.specs.declared.sites.Site.{Site}
use Rattle.dart_sites.specs.declared.surroundings.Surroundings.{Surroundings}
use Rattle.dart_sites.specs.Visits.{visited}
use Rattle.library_scopes.specs.declared.ambiguous.Ambiguity.{Ambiguity}
use Rattle.library_scopes.specs.declared.named.Named.{Named}
use Rattle.library_scopes.specs.declared.named.Named.TheVariants as n
use Rattle.library_scopes.specs.declared.named.Side.{Side}
use Rattle.library_scopes.specs.declared.libraries.Imported.{Imported}
use Rattle.library_scopes.specs.declared.libraries.Library.{Library}
use Rattle.library_scopes.specs.declared.libraries.Scopes.{Scopes}
use Rattle.library_scopes.specs.Names.{meaning}
use Rattle.library_scopes.specs.Lookups.{table, shows, given, is_prelude, is_behind, same_prefix, given_by, given_anyway, implicit, or_else, candidates}
use Rattle.library_scopes.specs.Rules.{is_same, are_two, is_ambiguous, ambiguous_at}
use Rattle.library_scopes.specs.Least.{lesser, least_with}
use Rattle.library_scopes.specs.First.{lesser_if, seen}

-- ---- what is seen at sites

least_cons : (o a : Option ℕ) (ps : List ℕ) → least_with o (cons_option a ps) ≡ least_with (lesser_if o a) ps
least_cons o None ps = refl
least_cons o (Some p) ps = refl

abbrev pub with_first : Ambiguity → Option ℕ → Ambiguity
with_first v first = record { scopes = v.scopes; library = v.library; first = first }

pub seen_all : (sites : List (Surroundings × Site)) (v : Ambiguity) → visited seen sites v ≡ with_first v (least_with v.first (filter_map (ambiguous_at v.scopes v.library) sites))
seen_all [] v = refl
seen_all (y ∷ ys) v =
    seen_all ys (seen v y.0 y.1)
    ∙ ap (with_first v) (sym (least_cons v.first (ambiguous_at v.scopes v.library y) (filter_map (ambiguous_at v.scopes v.library) ys)))

-- ---- the prelude has one declaration of a name

same_itself : (y : Named) → is_same y y ≡ true
same_itself (n.Class a) = eq-eqb a a refl
same_itself (n.Member a) = eq-eqb a a refl
same_itself (n.Prefix a) = eq-eqb a a refl

abbrev pub AreThat : Option Named → List Named → Type 0
AreThat m [] = Unit {0}
AreThat m (y ∷ ys) = (Some y ≡ m) × AreThat m ys

named_is : (y z : Named) → Some z ≡ Some y → z ≡ y
named_is y z e = cc

none_other : (y : Named) (ys : List Named) → AreThat (Some y) ys → list_any (λ z. not (is_same y z)) ys ≡ false
none_other y [] h = refl
none_other y (z ∷ zs) h =
    let same : is_same y z ≡ true = subst (λ w. is_same y w ≡ true) (sym (named_is y z h.0)) (same_itself y) in
    by (is_same y z) same (none_other y zs h.1) where
      by : (t : Bool) → t ≡ true → list_any (λ z. not (is_same y z)) zs ≡ false → (not t || list_any (λ z. not (is_same y z)) zs) ≡ false
      by true e rest = rest
      by false e rest = cc

one_alone : (m : Option Named) (ys : List Named) → AreThat m ys → are_two ys ≡ false
one_alone m [] h = refl
one_alone m (y ∷ ys) h = none_other y ys (subst (λ o. AreThat o ys) (sym h.0) h.1)

that_joined : (m : Option Named) (xs ys : List Named) → AreThat m xs → AreThat m ys → AreThat m (xs ++ ys)
that_joined m [] ys h k = k
that_joined m (x ∷ xs) ys h k = (h.0, that_joined m xs ys h.1 k)

module _ (scopes : Scopes) (side : Side) (x : List ℕ) where
  abbrev pub in_library : ℕ → Option Named
  in_library number = option_and_then (λ library. meaning x (table side library)) (slice_get scopes.libraries number)

  that_cons : (m o : Option Named) (ys : List Named) → (o ≡ m) → AreThat m ys → AreThat m (cons_option o ys)
  that_cons m None ys e h = h
  that_cons m (Some y) ys e h = (e, h)

  given_that : (i : Imported) (m : Option Named) (ys : List Named) → in_library i.library ≡ m → AreThat m ys → AreThat m (cons_option (given scopes side x i) ys)
  unfolding given
  given_that i m ys e h = by (shows x i) where
    by : (t : Bool) → AreThat m (cons_option (cond t (in_library i.library) None) ys)
    by true = that_cons m (in_library i.library) ys e h
    by false = h

  both_right : (a b : Bool) → (a && b) ≡ true → b ≡ true
  both_right true b e = e
  both_right false b e = cc

  prelude_that : (prefix : Option ℕ) (imports : List Imported) → AreThat (in_library 0) (given_by true scopes side x prefix imports)
  prelude_that prefix [] = tt
  prelude_that prefix (i ∷ rest) = by (is_behind prefix true i) refl (prelude_that prefix rest) where
    by : (t : Bool) → is_behind prefix true i ≡ t → AreThat (in_library 0) (given_by true scopes side x prefix rest) → AreThat (in_library 0) (filter_map (given scopes side x) (cond t (i ∷ filter (is_behind prefix true) rest) (filter (is_behind prefix true) rest)))
    by true e h =
        let zero_is : i.library ≡ 0 = eqb-true i.library 0 (both_right (same_prefix prefix i.prefix) (is_prelude i) e) in
        given_that i (in_library 0) (given_by true scopes side x prefix rest) (ap in_library zero_is) h
    by false e h = h

  anyway_that : (prefix : Option ℕ) → AreThat (in_library 0) (given_anyway scopes side x prefix)
  unfolding given
  anyway_that (Some p) = tt
  anyway_that None = by (shows x implicit) where
    list : (o : Option Named) → o ≡ in_library 0 → AreThat (in_library 0) (option_to_list o)
    list None e = tt
    list (Some y) e = (e, tt)

    by : (t : Bool) → AreThat (in_library 0) (option_to_list (cond t (in_library 0) None))
    by true = list (in_library 0) refl
    by false = tt

  else_two : (xs ys : List Named) → are_two ys ≡ false → are_two (or_else xs ys) ≡ are_two xs
  else_two [] ys e = e
  else_two (z ∷ zs) ys e = refl

  -- Two that other libraries give are what makes a name ambiguous.
  pub ambiguous_is : (library : Library) (prefix : Option ℕ) → is_ambiguous scopes library prefix x side ≡ are_two (given_by false scopes side x prefix library.imports)
  unfolding candidates
  ambiguous_is library prefix =
      else_two (given_by false scopes side x prefix library.imports) (given_by true scopes side x prefix library.imports ++ given_anyway scopes side x prefix)
      (one_alone (in_library 0) (given_by true scopes side x prefix library.imports ++ given_anyway scopes side x prefix)
      (that_joined (in_library 0) (given_by true scopes side x prefix library.imports) (given_anyway scopes side x prefix) (prelude_that prefix library.imports) (anyway_that prefix)))
