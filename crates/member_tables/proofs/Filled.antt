-- Members that are put into a table.
use Rattle.std.proofs.Common.{◌≡◌, ℕ, ◌<◌, ◌^◌, ◌==◌, Bool, true, false, cond, List, [], ◌∷◌, ◌++◌, Option, Some, None, refl, sym, ap, ◌∙◌, subst}
use Rattle.std.specs.Prelude.{◌||◌}
use Rattle.std.specs.Option.{option_or}
use Rattle.std.proofs.lemmas.Bool.{or_left, or_right, eq-eqb}
use Rattle.persistent_maps.specs.declared.maps.Map.{Map}
use Rattle.persistent_maps.specs.declared.maps.Maps.{Maps}
use Rattle.persistent_maps.specs.Maps.{bits_of, value_of, IsMapOf}
use Rattle.persistent_maps.specs.Gives.{Gives, put}
use Rattle.persistent_maps.specs.Keeps.{Keeps}
use Rattle.persistent_maps.proofs.Giving.{gives_same, keeps_itself, keeps_on}
use Rattle.class_heads.specs.Sources.{Sources}
use Rattle.class_members.specs.Owners.{is_number}
use Rattle.member_tables.specs.Lookup.{first_of}
use Rattle.member_tables.specs.Keys.{keys_at, is_among}
use Rattle.member_tables.specs.Filling.{with_member, with_members, AreKeys}

-- ---- at one key, and at two

one_among : (b : Bool) → (b || false) ≡ b
one_among true = refl
one_among false = refl

pub is_key : (maps : Maps) (key : ℕ) → AreKeys maps (Some key ∷ []) → key < 2 ^ bits_of maps
is_key maps key are = are.each key (or_left (key == key) false (eq-eqb key key refl))

pub put_gives : (maps : Maps) (made : Map) (key member : ℕ) (f : ℕ → Option ℕ) → Gives maps made (put f key member) → Gives maps made (with_member (Some key ∷ []) member f)
put_gives maps made key member f h = gives_same h (λ n. ap (λ b. cond b (Some member) (f n)) (sym (one_among (n == key))))

pub first_key : (maps : Maps) (a b : Option ℕ) → AreKeys maps (a ∷ b ∷ []) → AreKeys maps (a ∷ [])
first_key maps a b are = record { each = λ n e. are.each n (or_left (is_number n a) (is_number n b || false) (sym (one_among (is_number n a)) ∙ e)) }

pub second_key : (old new : Maps) (a b : Option ℕ) → Keeps old new → AreKeys old (a ∷ b ∷ []) → AreKeys new (b ∷ [])
second_key old new a b keeps are = record { each = λ n e. subst (λ bits. n < 2 ^ bits) (sym keeps.bits) (are.each n (or_right (is_number n a) (is_number n b || false) e)) }

pub both_given : (now new : Maps) (first made : Map) (a b : Option ℕ) (member : ℕ) (f : ℕ → Option ℕ) → Gives now first (with_member (a ∷ []) member f) → Gives new made (with_member (b ∷ []) member (value_of now first)) → Gives new made (with_member (a ∷ b ∷ []) member f)
both_given now new first made a b member f g h = gives_same h (λ n. ap (cond (is_among n (b ∷ [])) (Some member)) (g.values n) ∙ by n (is_number n a) (is_number n b)) where
  by : (n : ℕ) (x y : Bool) → cond (y || false) (Some member) (cond (x || false) (Some member) (f n)) ≡ cond (x || (y || false)) (Some member) (f n)
  by n true true = refl
  by n true false = refl
  by n false true = refl
  by n false false = refl

-- ---- from the last one on

last_first : (f : ℕ → Bool) (ms : List ℕ) (m : ℕ) (o : Option ℕ) → option_or (first_of f ms) (cond (f m) (Some m) o) ≡ option_or (first_of f (ms ++ m ∷ [])) o
last_first f [] m o = by (f m) where
  by : (b : Bool) → cond b (Some m) o ≡ option_or (cond b (Some m) None) o
  by true = refl
  by false = refl
last_first f (x ∷ xs) m o = by (f x) (last_first f xs m o) where
  by : (b : Bool) → option_or (first_of f xs) (cond (f m) (Some m) o) ≡ option_or (first_of f (xs ++ m ∷ [])) o → option_or (cond b (Some x) (first_of f xs)) (cond (f m) (Some m) o) ≡ option_or (cond b (Some x) (first_of f (xs ++ m ∷ []))) o
  by true e = refl
  by false e = e

-- With the members that are left over what is made so far, the table has all.
pub record IsFilling (p : Sources) (old now : Maps) (table made : Map) (all left : List ℕ) : Type 0 where
  pub keeps : Keeps old now
  pub is_map : IsMapOf now made
  pub values : (n : ℕ) → with_members p left (value_of now made) n ≡ with_members p all (value_of old table) n

module _ (p : Sources) (old : Maps) (table : Map) (all : List ℕ) where
  pub fill_begins : IsMapOf old table → IsFilling p old old table table all all
  fill_begins is = record { keeps = keeps_itself old; is_map = is; values = λ n. refl }

  pub fill_goes_on :
      (now new : Maps) (made more : Map) (left before : List ℕ) (last : ℕ) → IsFilling p old now table made all left → left ≡ before ++ last ∷ [] → Keeps now new
      → Gives new more (with_member (keys_at p last) last (value_of now made)) → IsFilling p old new table more all before
  fill_goes_on now new made more left before last so is keeps gives =
      record {
        keeps = keeps_on so.keeps keeps;
        is_map = gives.is_map;
        values = λ n.
            ap (option_or (first_of (λ m. is_among n (keys_at p m)) before)) (gives.values n)
            ∙ last_first (λ m. is_among n (keys_at p m)) before last (value_of now made n)
            ∙ ap (λ ms. with_members p ms (value_of now made) n) (sym is)
            ∙ so.values n;
      }

  pub fill_ends : (now : Maps) (made : Map) (left : List ℕ) → left ≡ [] → IsFilling p old now table made all left → Gives now made (with_members p all (value_of old table))
  fill_ends now made left none so = record { is_map = so.is_map; values = λ n. sym (ap (λ ms. with_members p ms (value_of now made) n) none) ∙ so.values n }
