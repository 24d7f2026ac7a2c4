-- What stands on the words that contracts cite: what maps give, and what stays when others are made.
use Rattle.std.proofs.Common.{◌≡◌, ◌≢◌, ℕ, ◌+◌, ◌^◌, ◌<◌, ◌≤◌, ◌==◌, cond, List, [], ◌∷◌, ◌++◌, length, get_or, slice_get, Option, Some, None, refl, sym, ap, ◌∙◌, subst, inl, inr, arith}
use Rattle.std.specs.Option.{option_or}
use Rattle.std.proofs.lemmas.Bool.{cases_lt}
use Rattle.std.proofs.lemmas.Bool.Decides.{eqb_tells}
use Rattle.std.proofs.lemmas.List.{get_or_append_left, get_or_push, length_push}
use Rattle.std.proofs.lemmas.Option.{none-some, slice_get_within, slice_get-get_or, get_or_from_slice_get}
use Rattle.persistent_maps.specs.declared.nodes.Node.{Node}
use Rattle.persistent_maps.specs.declared.maps.Map.{Map}
use Rattle.persistent_maps.specs.declared.maps.Maps.{Maps}
use Rattle.persistent_maps.specs.Maps.{bits_of, value_of, IsMapOf}
use Rattle.persistent_maps.specs.Gives.{Gives, GivesEach, put}
use Rattle.persistent_maps.specs.Keeps.{Keeps}
use Rattle.persistent_maps.specs.Growth.{Extends, Puts, Unites}
use Rattle.persistent_maps.proofs.Growing.{none_is_map, none_has_none, too_many_bits, map_kept, value_kept}

-- ---- what a call does, by its nodes

pub extended_keeps : (bits : ℕ) (old new : List Node) → Extends old new → Keeps (record { bits = bits; nodes = old }) (record { bits = bits; nodes = new })
unfolding value_of
extended_keeps bits old new ext =
    record {
      bits = refl;
      is_map = λ map is. record { reached = map_kept old new ext bits map.root is.reached };
      values = λ map is key. value_kept old new ext bits map.root key is.reached;
    }

pub puts_gives : (bits : ℕ) (old new : List Node) (map : Map) (key value made : ℕ) → Puts old new bits map.root key value made → Gives (record { bits = bits; nodes = new }) (record { root = Some made }) (put (value_of (record { bits = bits; nodes = old }) map) key value)
unfolding value_of
puts_gives bits old new map key value made h = record { is_map = record { reached = h.is_map }; values = h.values }

pub unites_gives : (bits : ℕ) (old new : List Node) (left right : Map) (made : Option ℕ) → Unites old new bits left.root right.root made → Gives (record { bits = bits; nodes = new }) (record { root = made }) (λ key. option_or (value_of (record { bits = bits; nodes = old }) left key) (value_of (record { bits = bits; nodes = old }) right key))
unfolding value_of
unites_gives bits old new left right made h = record { is_map = record { reached = h.is_map }; values = h.values }

pub empty_gives : (maps : Maps) → Gives maps (record { root = None }) (λ key. None)
unfolding value_of
empty_gives maps = record { is_map = record { reached = none_is_map maps.nodes maps.bits }; values = none_has_none maps.nodes maps.bits }

-- ---- what is at a key

pub nothing_beyond : (maps : Maps) (map : Map) (key : ℕ) → 2 ^ bits_of maps ≤ key → value_of maps map key ≡ None
unfolding value_of
nothing_beyond maps map key le = too_many_bits maps.nodes maps.bits map.root key le

pub put_here : (f : ℕ → Option ℕ) (key value : ℕ) → put f key value key ≡ Some value
put_here f key value = elim (eqb_tells key key) [ inl is ↦ ap (λ b. cond b (Some value) (f key)) is.0 | inr other ↦ absurd (other.1 refl) ]

pub put_elsewhere : (f : ℕ → Option ℕ) (key value k : ℕ) → k ≢ key → put f key value k ≡ f k
put_elsewhere f key value k ne = elim (eqb_tells k key) [ inl is ↦ absurd (ne is.1) | inr other ↦ ap (λ b. cond b (Some value) (f k)) other.0 ]

-- ---- what a map gives

-- the same, said in another way
pub gives_same : {maps : Maps} {map : Map} {f g : ℕ → Option ℕ} → Gives maps map f → ((key : ℕ) → f key ≡ g key) → Gives maps map g
gives_same h same = record { is_map = h.is_map; values = λ key. h.values key ∙ same key }

pub map_gives : {maps : Maps} {map : Map} → IsMapOf maps map → Gives maps map (value_of maps map)
map_gives h = record { is_map = h; values = λ key. refl }

pub gives_one : {maps : Maps} {map : Map} {f g : ℕ → Option ℕ} → Gives maps map f → Gives maps map g → (key : ℕ) → f key ≡ g key
gives_one h k key = sym (h.values key) ∙ k.values key

-- a value more, where it is known what there was
pub gives_put : {old new : Maps} {map made : Map} {f : ℕ → Option ℕ} (key value : ℕ) → Gives old map f → Gives new made (put (value_of old map) key value) → Gives new made (put f key value)
gives_put key value h puts = gives_same puts (λ k. ap (λ x. cond (k == key) (Some value) x) (h.values k))

-- the values of two maps together, where it is known what each has
pub gives_union : {old new : Maps} {left right made : Map} {f g : ℕ → Option ℕ} → Gives old left f → Gives old right g → Gives new made (λ key. option_or (value_of old left key) (value_of old right key)) → Gives new made (λ key. option_or (f key) (g key))
gives_union {old = old} {right = right} {f = f} h k united = gives_same united (λ key. ap (λ o. option_or o (value_of old right key)) (h.values key) ∙ ap (option_or (f key)) (k.values key))

-- ---- what stays

pub keeps_itself : (maps : Maps) → Keeps maps maps
keeps_itself maps = record { bits = refl; is_map = λ map is. is; values = λ map is key. refl }

pub keeps_on : {old now new : Maps} → Keeps old now → Keeps now new → Keeps old new
keeps_on h k =
    record {
      bits = k.bits ∙ h.bits;
      is_map = λ map is. k.is_map map (h.is_map map is);
      values = λ map is key. k.values map (h.is_map map is) key ∙ h.values map is key;
    }

pub gives_kept : {old new : Maps} {map : Map} {f : ℕ → Option ℕ} → Keeps old new → Gives old map f → Gives new map f
gives_kept {map = map} keeps h = record { is_map = keeps.is_map map h.is_map; values = λ key. keeps.values map h.is_map key ∙ h.values key }

pub key_kept : {old new : Maps} {key : ℕ} → Keeps old new → key < 2 ^ bits_of old → key < 2 ^ bits_of new
key_kept {key = key} keeps lt = subst (λ bits. key < 2 ^ bits) (sym keeps.bits) lt

-- ---- lists of maps

pub none_give_each : (maps : Maps) (f : ℕ → ℕ → Option ℕ) → GivesEach maps [] f
none_give_each maps f = record { each = λ i map is. absurd (none-some map is) }

pub each_kept : {old new : Maps} {list : List Map} {f : ℕ → ℕ → Option ℕ} → Keeps old new → GivesEach old list f → GivesEach new list f
each_kept keeps h = record { each = λ i map is. gives_kept keeps (h.each i map is) }

pub each_pushed : {maps : Maps} {list : List Map} {map : Map} {f : ℕ → ℕ → Option ℕ} → GivesEach maps list f → Gives maps map (f (length list)) → GivesEach maps (list ++ map ∷ []) f
each_pushed {maps = maps} {list = list} {map = map} {f = f} h last = record { each = each } where
  each : (i : ℕ) (x : Map) → slice_get (list ++ map ∷ []) i ≡ Some x → Gives maps x (f i)
  each i x is =
      let read : get_or (list ++ map ∷ []) i x ≡ x = get_or_from_slice_get (list ++ map ∷ []) i x x is in
      let within : i < length list + 1 = omega (arith, slice_get_within (list ++ map ∷ []) i x is, length_push list map) in
      elim (cases_lt i (length list)) [
        | inl lt ↦ h.each i x (slice_get-get_or list i x lt ∙ ap (λ y. Some y) (sym (get_or_append_left list (map ∷ []) x i lt) ∙ read))
        | inr le ↦
            let at : length list ≡ i = omega (arith, le, within) in
            subst (λ y. Gives maps y (f i)) (sym (get_or_push list map x i at) ∙ read) (subst (λ j. Gives maps map (f j)) at last)
      ]

-- in other words at those that are in the list
pub each_same : {maps : Maps} {list : List Map} {f g : ℕ → ℕ → Option ℕ} → GivesEach maps list f → ((i : ℕ) → i < length list → (key : ℕ) → f i key ≡ g i key) → GivesEach maps list g
each_same {list = list} h same = record { each = λ i map is. gives_same (h.each i map is) (same i (slice_get_within list i map is)) }
