-- Tables that are made class by class, from the top down, have what the walk upwards finds.
use Rattle.std.proofs.Common.{◌≡◌, ℕ, zero, suc, ◌+◌, ◌<◌, ◌≤◌, ◌^◌, Bool, List, [], ◌∷◌, length, get_or, set, replicate, Option, Some, None, cond, inl, inr, refl, sym, ap, ◌∙◌, subst, arith}
use Rattle.std.specs.Prelude.{slice_get, option_and_then}
use Rattle.std.specs.List.{Contains}
use Rattle.std.specs.Option.{option_or}
use Rattle.std.proofs.lemmas.Bool.{cases_lt}
use Rattle.std.proofs.lemmas.Bool.Decides.{eqb_tells}
use Rattle.std.proofs.lemmas.Option.{same_Some, slice_get_past}
use Rattle.std.proofs.lemmas.List.{get_or_default, length-set, length-replicate}
use Rattle.persistent_maps.specs.declared.maps.Map.{Map}
use Rattle.persistent_maps.specs.declared.maps.Maps.{Maps}
use Rattle.persistent_maps.specs.Maps.{bits_of, value_of, IsMapOf}
use Rattle.persistent_maps.specs.Gives.{Gives}
use Rattle.selectors.specs.declared.selector.Selector.{Selector}
use Rattle.selectors.specs.Selectors.{selectors}
use Rattle.class_heads.specs.Sources.{Sources, classes_in}
use Rattle.class_heads.specs.Supertypes.{Classes}
use Rattle.class_heads.specs.Origins.{superclass_of, origin}
use Rattle.class_heads.specs.Bodies.{class_count}
use Rattle.class_members.specs.declared.owners.Owners.{Owners}
use Rattle.class_members.specs.Owners.{AreOwners}
use Rattle.supertypes.specs.Upward.{IsUpward}
use Rattle.member_tables.specs.declared.tables.MemberTables.{MemberTables}
use Rattle.member_tables.specs.Lookup.{first_of, find_of}
use Rattle.member_tables.specs.Keys.{keys_at, is_among}
use Rattle.member_tables.specs.Tables.{found, AreTables}
use Rattle.member_tables.specs.Origins.{members_if, AreOrigins}
use Rattle.member_tables.specs.Filling.{with_members, listed_for, found_above, AreMaps, KeepsTables, IsTableOf, HasTables, AreTablesTo}
use Rattle.member_tables.proofs.Named.{answers_to, keys_answer}
use Rattle.member_tables.proofs.Placed.{place_same, place_other}
use Rattle.member_tables.proofs.Walks.{owners_list, count_is, is_class, at_super, find_past, find_steps}

-- ---- what stays

abbrev in_table : Maps → ℕ → Option Map → Option ℕ
in_table maps n o = option_and_then (λ m. value_of maps m n) o

module _ (old new : MemberTables) (are : AreMaps old) (keeps : KeepsTables old new) where
  found_kept : (c n : ℕ) → found new c n ≡ found old c n
  found_kept c n = ap (λ tables. in_table new.maps n (slice_get tables c)) keeps.tables ∙ by (slice_get old.tables c) refl where
    by : (o : Option Map) → slice_get old.tables c ≡ o → in_table new.maps n o ≡ in_table old.maps n o
    by None e = refl
    by (Some m) e = keeps.maps.values m (are.each c m e) n

  maps_kept : AreMaps new
  maps_kept = record { each = λ c m e. keeps.maps.is_map m (are.each c m (ap (λ tables. slice_get tables c) (sym keeps.tables) ∙ e)) }

-- ---- one table

pub no_superclass : (p : Sources) (t : MemberTables) (c : ℕ) (table : Map) → ((maps : Maps) → Gives maps table (λ n. None)) → superclass_of (classes_in p) c ≡ None → Gives t.maps table (found_above p t c)
no_superclass p t c table none e = record { is_map = (none t.maps).is_map; values = λ n. (none t.maps).values n ∙ sym (ap (option_and_then (λ d. found t d n)) e) }

pub no_table : (p : Sources) (t : MemberTables) (c d : ℕ) (table : Map) → ((maps : Maps) → Gives maps table (λ n. None)) → superclass_of (classes_in p) c ≡ Some d → slice_get t.tables d ≡ None → Gives t.maps table (found_above p t c)
no_table p t c d table none e is =
    record { is_map = (none t.maps).is_map; values = λ n. (none t.maps).values n ∙ sym (ap (option_and_then (λ d. found t d n)) e ∙ ap (in_table t.maps n) is) }

pub table_there : (p : Sources) (t : MemberTables) (c d : ℕ) (table : Map) → AreMaps t → superclass_of (classes_in p) c ≡ Some d → slice_get t.tables d ≡ Some table → Gives t.maps table (found_above p t c)
table_there p t c d table are e is = record { is_map = are.each d table is; values = λ n. sym (ap (option_and_then (λ d. found t d n)) e ∙ ap (in_table t.maps n) is) }

pub table_made :
    (p : Sources) (own : List ℕ) (old : MemberTables) (new : Maps) (c : ℕ) (above made : Map) → Gives old.maps above (found_above p old c)
    → Gives new made (with_members p own (value_of old.maps above)) → IsTableOf p own old (record { maps = new; tables = old.tables }) c made
table_made p own old new c above made g h =
    record { is_map = h.is_map; values = λ n. h.values n ∙ ap (option_or (first_of (λ m. is_among n (keys_at p m)) own)) (g.values n) }

-- ---- before the first class

nothing_at : (count c : ℕ) (table t : Map) → slice_get (replicate count table) c ≡ Some t → t ≡ table
nothing_at zero c table t e = cc
nothing_at (suc n) zero table t e = sym (same_Some table t e)
nothing_at (suc n) (suc c) table t e = nothing_at n c table t e

pub empty_tables :
    (p : Sources) (listed : List Selector) (maps : Maps) (tables : List Map) (count classes : ℕ) (table : Map) → ((maps : Maps) → Gives maps table (λ n. None)) → tables ≡ replicate classes table
    → classes ≡ length (classes_in p) → count ≡ length listed → listed ≡ selectors p.files → count ≤ 2 ^ bits_of maps → HasTables p (record { maps = maps; tables = tables })
empty_tables p listed maps tables count classes table none all many counted same le =
    record {
      long = ap length all ∙ length-replicate classes table ∙ many ∙ sym (count_is p);
      keys = subst (λ l. length l ≤ 2 ^ bits_of maps) same (subst (λ k. k ≤ 2 ^ bits_of maps) counted le);
      maps = record { each = λ c t e. subst (IsMapOf maps) (sym (nothing_at classes c table t (ap (λ l. slice_get l c) (sym all) ∙ e))) (none maps).is_map };
    }

pub room_for_keys : (p : Sources) (listed : List Selector) (t : MemberTables) → listed ≡ selectors p.files → HasTables p t → length listed ≤ 2 ^ bits_of t.maps
room_for_keys p listed t same has = subst (λ l. length l ≤ 2 ^ bits_of t.maps) (sym same) has.keys

-- ---- all of them

module _ (p : Sources) (x : Owners) (origins : List ℕ) (owners : AreOwners p x) (bodies : AreOrigins p origins) where
  abbrev cs : Classes
  cs = classes_in p

  same_first : (f g : ℕ → Bool) → ((m : ℕ) → f m ≡ g m) → (ms : List ℕ) → first_of f ms ≡ first_of g ms
  same_first f g same [] = refl
  same_first f g same (m ∷ ms) = ap (λ b. cond b (Some m) (first_of f ms)) (same m) ∙ ap (cond (g m) (Some m)) (same_first f g same ms)

  past_tables : (t : MemberTables) → HasTables p t → (d n : ℕ) → length cs ≤ d → found t d n ≡ None
  past_tables t has d n le = ap (in_table t.maps n) (slice_get_past t.tables d (omega (arith, le, has.long, count_is p)))

  module _ (order : List ℕ) (up : IsUpward cs order) where
    pub is_key : (i c : ℕ) → i < length order → c ≡ get_or order i 0 → c < length cs
    is_key i c lt is = is_class p order up i c lt is

    module _ (i c : ℕ) (t u : MemberTables) (made : Map) (lt : i < length order) (is : c ≡ get_or order i 0) (own : List ℕ) (so : AreTablesTo p order i t) (listed : own ≡ listed_for x (slice_get origins c)) (keeps : KeepsTables t u) (makes : IsTableOf p own t u c made) where
      abbrev with_table : MemberTables
      with_table = record { maps = u.maps; tables = set u.tables c made }

      long : length u.tables ≡ class_count p
      long = ap length keeps.tables ∙ so.tables.long

      pub table_inside : c < length u.tables
      table_inside = subst (λ k. c < k) (sym (long ∙ count_is p)) (is_class p order up i c lt is)

      with_maps : AreMaps with_table
      with_maps = record { each = each } where
        kept : AreMaps u
        kept = maps_kept t u so.tables.maps keeps

        each : (d : ℕ) (m : Map) → slice_get (set u.tables c made) d ≡ Some m → IsMapOf u.maps m
        each d m e =
            elim (eqb_tells d c) [
              | inl same ↦ subst (IsMapOf u.maps) (same_Some made m (sym (place_same u.tables c made table_inside) ∙ ap (λ k. slice_get (set u.tables c made) k) (sym same.1) ∙ e)) makes.is_map
              | inr other ↦ kept.each d m (sym (place_other u.tables c d made other.1) ∙ e)
            ]

      has_tables : HasTables p with_table
      has_tables = record { long = length-set u.tables c made ∙ long; keys = subst (λ bits. length (selectors p.files) ≤ 2 ^ bits) (sym keeps.maps.bits) so.tables.keys; maps = with_maps }

      -- the superclass has its table already
      above_same : (n d : ℕ) → superclass_of cs c ≡ Some d → found t d n ≡ find_of p d n
      above_same n d e =
          at_super p order up (λ d. found t d n ≡ find_of p d n) i lt (λ j earlier. so.each j earlier n)
          (λ d le. past_tables t so.tables d n le ∙ sym (find_past p order up d n le)) d (ap (superclass_of cs) (sym is) ∙ e)

      above_is : (n : ℕ) (o : Option ℕ) → superclass_of cs c ≡ o → option_and_then (λ d. found t d n) o ≡ option_and_then (λ d. find_of p d n) o
      above_is n None e = refl
      above_is n (Some d) e = above_same n d e

      at_class : (n : ℕ) → found with_table c n ≡ find_of p c n
      at_class n =
          ap (in_table u.maps n) (place_same u.tables c made table_inside)
          ∙ makes.values n
          ∙ ap (λ o. option_or o (found_above p t c n))
          (same_first (λ m. is_among n (keys_at p m)) (answers_to p (slice_get (selectors p.files) n)) (keys_answer p n) own
          ∙ ap (first_of (answers_to p (slice_get (selectors p.files) n))) own_is)
          ∙ ap (option_or (first_of (answers_to p (slice_get (selectors p.files) n)) (members_if p (origin cs c)))) (above_is n (superclass_of cs c) refl)
          ∙ sym steps
        where
          own_is : own ≡ members_if p (origin cs c)
          own_is = listed ∙ owners_list p x owners (slice_get origins c) ∙ bodies.each c (omega (arith, is_class p order up i c lt is, count_is p))

          steps : find_of p c n ≡ option_or (first_of (answers_to p (slice_get (selectors p.files) n)) (members_if p (origin cs c))) (option_and_then (λ d. find_of p d n) (superclass_of cs c))
          steps = subst (λ k. find_of p k n ≡ option_or (first_of (answers_to p (slice_get (selectors p.files) n)) (members_if p (origin cs k))) (option_and_then (λ d. find_of p d n) (superclass_of cs k))) (sym is) (find_steps p order up i n lt)

      each_table : (j : ℕ) → j < i + 1 → (n : ℕ) → found with_table (get_or order j 0) n ≡ find_of p (get_or order j 0) n
      each_table j below n =
          elim (eqb_tells (get_or order j 0) c) [
            | inl same ↦ subst (λ k. found with_table k n ≡ find_of p k n) (sym same.1) (at_class n)
            | inr other ↦
                elim (cases_lt j i) [
                  | inl earlier ↦ ap (in_table u.maps n) (place_other u.tables c (get_or order j 0) made other.1) ∙ found_kept t u so.tables.maps keeps (get_or order j 0) n ∙ so.each j earlier n
                  | inr here ↦ let at : j ≡ i = omega (arith, below, here) in absurd (other.1 (ap (λ k. get_or order k 0) at ∙ sym is))
                ]
          ]

      pub one_table_more : (tables : List Map) → tables ≡ set u.tables c made → AreTablesTo p order (i + 1) (record { maps = u.maps; tables = tables })
      one_table_more tables e = subst (λ l. AreTablesTo p order (i + 1) (record { maps = u.maps; tables = l })) (sym e) (record { tables = has_tables; each = each_table })

    pub all_tables : (i : ℕ) (t : MemberTables) → length order ≤ i → AreTablesTo p order i t → AreTables p t
    all_tables i t le so = record { each = each } where
      each : (c n : ℕ) → found t c n ≡ find_of p c n
      each c n =
          elim (cases_lt c (length cs)) [
            | inl lt ↦ by (up.all c lt)
            | inr past ↦ past_tables t so.tables c n past ∙ sym (find_past p order up c n past)
          ]
        where
          by : Contains order c → found t c n ≡ find_of p c n
          by (k, lt, e) = subst (λ c. found t c n ≡ find_of p c n) (get_or_default order k 0 c lt ∙ e) (so.each k (omega (arith, lt, le)) n)
