-- Maps stay where nodes are appended, and a copied way has the value.
use Rattle.std.proofs.Common.{◌≡◌, ℕ, zero, suc, ◌+◌, ◌-◌, ◌*◌, ◌/◌, ◌%◌, ◌^◌, ◌<◌, ◌≤◌, ◌==◌, Bool, true, false, cond, List, [], ◌∷◌, ◌++◌, length, get_or, Option, Some, None, refl, sym, ap, ◌∙◌, subst, inl, inr, arith}
use Rattle.std.specs.Prelude.{IfSome}
use Rattle.std.specs.Int.Count.{count_leading_zeros}
use Rattle.std.proofs.Math.Nat.{pow-suc, pow-le-pow_right}
use Rattle.std.proofs.Math.Seq.{get_or-append_seam}
use Rattle.std.proofs.lemmas.Bool.{true≢false, cases_lt}
use Rattle.std.proofs.lemmas.Bool.Decides.{Decides-eqb, same_from_decides, eqb_tells}
use Rattle.std.proofs.lemmas.List.{get_or_append_left, length_push}
use Rattle.std.proofs.lemmas.Nat.{leading_length, pow_pos}
use Rattle.persistent_maps.specs.declared.nodes.Node.{Node}
use Rattle.persistent_maps.specs.Nodes.{half, with_half, no_halves, node_at}
use Rattle.persistent_maps.specs.Lookup.{value_at, IsMapTo}
use Rattle.persistent_maps.specs.Gives.{put}
use Rattle.persistent_maps.specs.Growth.{Extends, IsPushed, Puts}

-- ---- empty maps, and keys of too many bits

pub none_is_map : (nodes : List Node) (bits : ℕ) → IsMapTo nodes bits None
unfolding IsMapTo
none_is_map nodes zero = tt
none_is_map nodes (suc bits) = (tt, none_is_map nodes bits, none_is_map nodes bits)

nothing : (b : Bool) → ◌≡◌ {A = Option ℕ} (cond b None None) None
nothing true = refl
nothing false = refl

pub none_has_none : (nodes : List Node) (bits key : ℕ) → value_at nodes bits None key ≡ None
unfolding value_at
none_has_none nodes zero key = nothing (key == 0)
none_has_none nodes (suc bits) key = ap (λ root. value_at nodes bits root (key / 2)) (nothing (key % 2 == 0)) ∙ none_has_none nodes bits (key / 2)

only_zero : (key : ℕ) (root : Option ℕ) → 1 ≤ key → cond (key == 0) root None ≡ None
only_zero key root le = by (key == 0) refl where
  by : (b : Bool) → (key == 0) ≡ b → cond b root None ≡ None
  by true e = absurd (omega (arith, le, (Decides-eqb key 0).0 e))
  by false e = refl

pub too_many_bits : (nodes : List Node) (bits : ℕ) (root : Option ℕ) (key : ℕ) → 2 ^ bits ≤ key → value_at nodes bits root key ≡ None
unfolding value_at
too_many_bits nodes zero root key le = only_zero key root le
too_many_bits nodes (suc bits) root key le = too_many_bits nodes bits (half (node_at nodes root) key) (key / 2) (omega (arith, pow-suc 2 bits, le))

-- ---- more nodes

pub extends_itself : (nodes : List Node) → Extends nodes nodes
extends_itself nodes = record { longer = omega arith; same = λ i lt. refl }

pub extends_on : (a b c : List Node) → Extends a b → Extends b c → Extends a c
extends_on a b c g h = record { longer = omega (arith, g.longer, h.longer); same = λ i lt. h.same i (omega (arith, lt, g.longer)) ∙ g.same i lt }

pub push_extends : (nodes : List Node) (node : Node) → Extends nodes (nodes ++ node ∷ [])
push_extends nodes node = record { longer = omega (arith, length_push nodes node); same = λ i lt. get_or_append_left nodes (node ∷ []) no_halves i lt }

module _ (old new : List Node) (ext : Extends old new) where
  node_kept : (root : Option ℕ) → IfSome root (λ n. n < length old) → node_at new root ≡ node_at old root
  node_kept None there = refl
  node_kept (Some n) there = ext.same n there

  number_kept : (root : Option ℕ) → IfSome root (λ n. n < length old) → IfSome root (λ n. n < length new)
  number_kept None there = there
  number_kept (Some n) there = omega (arith, there, ext.longer)

  pub map_kept : (bits : ℕ) (root : Option ℕ) → IsMapTo old bits root → IsMapTo new bits root
  unfolding IsMapTo
  map_kept zero root h = tt
  map_kept (suc bits) root h =
      let same : node_at old root ≡ node_at new root = sym (node_kept root h.0) in (
        number_kept root h.0,
        subst (λ node. IsMapTo new bits node.even) same (map_kept bits (node_at old root).even h.1),
        subst (λ node. IsMapTo new bits node.odd) same (map_kept bits (node_at old root).odd h.2),
      )

half_is_map : (nodes : List Node) (bits : ℕ) (node : Node) (key : ℕ) → IsMapTo nodes bits node.even → IsMapTo nodes bits node.odd → IsMapTo nodes bits (half node key)
half_is_map nodes bits node key even odd = by (key % 2 == 0) where
  by : (b : Bool) → IsMapTo nodes bits (cond b node.even node.odd)
  by true = even
  by false = odd

pub below_is_map : (nodes : List Node) (bits : ℕ) (root : Option ℕ) (key : ℕ) → IsMapTo nodes (suc bits) root → IsMapTo nodes bits (half (node_at nodes root) key)
unfolding IsMapTo
below_is_map nodes bits root key h = half_is_map nodes bits (node_at nodes root) key h.1 h.2

pub there : (nodes : List Node) (bits : ℕ) (root : Option ℕ) → IsMapTo nodes (suc bits) root → IfSome root (λ n. n < length nodes)
unfolding IsMapTo
there nodes bits root h = h.0

pub value_kept : (old new : List Node) → Extends old new → (bits : ℕ) (root : Option ℕ) (key : ℕ) → IsMapTo old bits root → value_at new bits root key ≡ value_at old bits root key
unfolding value_at
value_kept old new ext zero root key h = refl
value_kept old new ext (suc bits) root key h =
    ap (λ node. value_at new bits (half node key) (key / 2)) (node_kept old new ext root (there old bits root h))
    ∙ value_kept old new ext bits (half (node_at old root) key) (key / 2) (below_is_map old bits root key h)

-- ---- the value at a key of no bits

zero_is_map : (nodes : List Node) (root : Option ℕ) → IsMapTo nodes 0 root
unfolding IsMapTo
zero_is_map nodes root = tt

zero_has : (nodes : List Node) (root : Option ℕ) (value k : ℕ) → value_at nodes 0 (Some value) k ≡ put (value_at nodes 0 root) 0 value k
unfolding value_at
zero_has nodes root value k = by (k == 0) where
  by : (b : Bool) → cond b (Some value) None ≡ cond b (Some value) (cond b root None)
  by true = refl
  by false = refl

pub puts_value : (nodes : List Node) (bits : ℕ) (root : Option ℕ) (key value : ℕ) → bits ≡ 0 → key < 2 ^ bits → Puts nodes nodes bits root key value value
puts_value nodes bits root key value none lt = subst (λ n. Puts nodes nodes n root key value value) (sym none) (subst (λ n. Puts nodes nodes 0 root n value value) (sym is_zero) at_zero) where
  is_zero : key ≡ 0
  is_zero = let one : 2 ^ bits ≡ 1 = ap (λ n. 2 ^ n) none in omega (arith, one, lt)

  at_zero : Puts nodes nodes 0 root 0 value value
  at_zero = record { is_map = zero_is_map nodes (Some value); values = zero_has nodes root value }

-- ---- the node above

halves_tell : (k key : ℕ) → k % 2 ≡ key % 2 → (k / 2 == key / 2) ≡ (k == key)
halves_tell k key e =
    same_from_decides {P = k ≡ key} (k / 2 == key / 2) (k == key)
    (λ h. omega (arith, e, (Decides-eqb (k / 2) (key / 2)).0 h), λ h. (Decides-eqb (k / 2) (key / 2)).1 (ap (λ n. n / 2) h))
    (Decides-eqb k key)

differ : (k key : ℕ) → (k % 2 ≡ key % 2 → ⊥) → (k == key) ≡ false
differ k key ne = elim (eqb_tells k key) [ inl same ↦ absurd (ne (ap (λ n. n % 2) same.1)) | inr other ↦ other.0 ]

even : (k : ℕ) → (k % 2 == 0) ≡ true → k % 2 ≡ 0
even k e = (Decides-eqb (k % 2) 0).0 e

odd : (k : ℕ) → (k % 2 == 0) ≡ false → k % 2 ≡ 1
odd k e = elim (eqb_tells (k % 2) 0) [ inl is ↦ absurd (true≢false (sym is.0 ∙ e)) | inr other ↦ omega (arith, other.1) ]

-- What is read through a node with another half, where f reads the maps below it and g read them before.
module _ (f g : Option ℕ → ℕ → Option ℕ) (node : Node) (key value made : ℕ) where
  made_there : (k : ℕ) (root : Option ℕ) → k % 2 ≡ key % 2 → f (Some made) (k / 2) ≡ cond (k / 2 == key / 2) (Some value) (g root (k / 2)) → f (Some made) (k / 2) ≡ cond (k == key) (Some value) (g root (k / 2))
  made_there k root e h = h ∙ ap (λ b. cond b (Some value) (g root (k / 2))) (halves_tell k key e)

  elsewhere : (k : ℕ) (root : Option ℕ) → (k % 2 ≡ key % 2 → ⊥) → f root (k / 2) ≡ g root (k / 2) → f root (k / 2) ≡ cond (k == key) (Some value) (g root (k / 2))
  elsewhere k root ne h = h ∙ ap (λ b. cond b (Some value) (g root (k / 2))) (sym (differ k key ne))

  module _ (k : ℕ) (kept_even : f node.even (k / 2) ≡ g node.even (k / 2)) (kept_odd : f node.odd (k / 2) ≡ g node.odd (k / 2)) where
    by_parity :
        (p q : Bool) → (key % 2 == 0) ≡ p → (k % 2 == 0) ≡ q
        → f (Some made) (k / 2) ≡ cond (k / 2 == key / 2) (Some value) (g (cond p node.even node.odd) (k / 2))
        → let new = cond p (record node { even = Some made }) (record node { odd = Some made }) in
        f (cond q new.even new.odd) (k / 2) ≡ cond (k == key) (Some value) (g (cond q node.even node.odd) (k / 2))
    by_parity true true d e h = made_there k node.even (even k e ∙ sym (even key d)) h
    by_parity true false d e h = elsewhere k node.odd (λ same. omega (arith, same, even key d, odd k e)) kept_odd
    by_parity false true d e h = elsewhere k node.even (λ same. omega (arith, same, odd key d, even k e)) kept_even
    by_parity false false d e h = made_there k node.odd (odd k e ∙ sym (odd key d)) h

    pub read_above : ((j : ℕ) → f (Some made) j ≡ put (g (half node key)) (key / 2) value j) → f (half (with_half node key (Some made)) k) (k / 2) ≡ cond (k == key) (Some value) (g (half node k) (k / 2))
    read_above h = by_parity (key % 2 == 0) (k % 2 == 0) refl refl (h (k / 2))

module _ (n0 n1 n2 : List Node) (bits : ℕ) (root : Option ℕ) (key value made number : ℕ) (h : IsMapTo n0 (suc bits) root) (ext : Extends n0 n1) (puts : Puts n0 n1 bits (half (node_at n0 root) key) (key / 2) value made) (pushed : IsPushed n1 n2 (with_half (node_at n0 root) key (Some made)) number) where
  abbrev old_node : Node
  old_node = node_at n0 root

  abbrev new_node : Node
  new_node = with_half old_node key (Some made)

  pushed_extends : Extends n1 n2
  pushed_extends = subst (Extends n1) (sym pushed.last) (push_extends n1 new_node)

  extends_both : Extends n0 n2
  extends_both = extends_on n0 n1 n2 ext pushed_extends

  stands : node_at n2 (Some number) ≡ new_node
  stands = ap (λ i. get_or n2 i no_halves) pushed.numbered ∙ ap (λ nodes. get_or nodes (length n1) no_halves) pushed.last ∙ get_or-append_seam n1 new_node [] no_halves

  within : number < length n2
  within = let longer : length n2 ≡ length (n1 ++ new_node ∷ []) = ap length pushed.last in omega (arith, pushed.numbered, longer, length_push n1 new_node)

  made_is_map : IsMapTo n2 bits (Some made)
  made_is_map = map_kept n1 n2 pushed_extends bits (Some made) puts.is_map

  halves_before : IsMapTo n0 bits old_node.even × IsMapTo n0 bits old_node.odd
  unfolding IsMapTo
  halves_before = (h.1, h.2)

  even_before : IsMapTo n0 bits old_node.even
  even_before = halves_before.0

  odd_before : IsMapTo n0 bits old_node.odd
  odd_before = halves_before.1

  even_kept : IsMapTo n2 bits old_node.even
  even_kept = map_kept n0 n2 extends_both bits old_node.even even_before

  odd_kept : IsMapTo n2 bits old_node.odd
  odd_kept = map_kept n0 n2 extends_both bits old_node.odd odd_before

  halves_are_maps : IsMapTo n2 bits new_node.even × IsMapTo n2 bits new_node.odd
  halves_are_maps = by (key % 2 == 0) where
    by : (b : Bool) → let node = cond b (record old_node { even = Some made }) (record old_node { odd = Some made }) in IsMapTo n2 bits node.even × IsMapTo n2 bits node.odd
    by true = (made_is_map, odd_kept)
    by false = (even_kept, made_is_map)

  number_is_map : IsMapTo n2 (suc bits) (Some number)
  unfolding IsMapTo
  number_is_map = (
    within,
    subst (λ node. IsMapTo n2 bits node.even) (sym stands) halves_are_maps.0,
    subst (λ node. IsMapTo n2 bits node.odd) (sym stands) halves_are_maps.1,
  )

  read_made : (j : ℕ) → value_at n2 bits (Some made) j ≡ put (value_at n0 bits (half old_node key)) (key / 2) value j
  read_made j = value_kept n1 n2 pushed_extends bits (Some made) j puts.is_map ∙ puts.values j

  values : (k : ℕ) → value_at n2 (suc bits) (Some number) k ≡ put (value_at n0 (suc bits) root) key value k
  unfolding value_at
  values k =
      ap (λ node. value_at n2 bits (half node k) (k / 2)) stands
      ∙ read_above (value_at n2 bits) (value_at n0 bits) old_node key value made k
      (value_kept n0 n2 extends_both bits old_node.even (k / 2) even_before)
      (value_kept n0 n2 extends_both bits old_node.odd (k / 2) odd_before)
      read_made

  pub puts_above : Puts n0 n2 (suc bits) root key value number
  puts_above = record { is_map = number_is_map; values = values }

-- ---- the same, of so many bits

puts_counted : (n0 n1 n2 : List Node) (bits : ℕ) (root : Option ℕ) (key value made number : ℕ) → (bits ≡ 0 → ⊥) → IsMapTo n0 bits root → Extends n0 n1 → Puts n0 n1 (bits - 1) (half (node_at n0 root) key) (key / 2) value made → IsPushed n1 n2 (with_half (node_at n0 root) key (Some made)) number → Puts n0 n2 bits root key value number
puts_counted n0 n1 n2 zero root key value made number some h ext puts pushed = absurd (some refl)
puts_counted n0 n1 n2 (suc bits) root key value made number some h ext puts pushed = puts_above n0 n1 n2 bits root key value made number h ext (subst (λ n. Puts n0 n1 n (half (node_at n0 root) key) (key / 2) value made) (omega arith) puts) pushed

half_counted : (nodes : List Node) (bits : ℕ) (root : Option ℕ) (key : ℕ) → (bits ≡ 0 → ⊥) → IsMapTo nodes bits root → IsMapTo nodes (bits - 1) (half (node_at nodes root) key)
half_counted nodes zero root key some h = absurd (some refl)
half_counted nodes (suc bits) root key some h = let same : bits ≡ suc bits - 1 = omega arith in subst (λ n. IsMapTo nodes n (half (node_at nodes root) key)) same (below_is_map nodes bits root key h)

-- What is read of the nodes: the node of the root, and the one of its maps that has the key.
module _ (nodes slice : List Node) (root below : Option ℕ) (key : ℕ) (node : Node) (all : slice ≡ nodes) (is_node : node ≡ node_at slice root) (is_below : below ≡ half node key) where
  node_read : node ≡ node_at nodes root
  node_read = is_node ∙ ap (λ ns. node_at ns root) all

  pub below_read : below ≡ half (node_at nodes root) key
  below_read = is_below ∙ ap (λ x. half x key) node_read

  pub half_is_one : (bits : ℕ) → (bits ≡ 0 → ⊥) → IsMapTo nodes bits root → IsMapTo nodes (bits - 1) below
  half_is_one bits some h = subst (IsMapTo nodes (bits - 1)) (sym below_read) (half_counted nodes bits root key some h)

  pub puts_on : (n1 n2 : List Node) (bits value made number : ℕ) (new : Node) → (bits ≡ 0 → ⊥) → IsMapTo nodes bits root → Extends nodes n1 → Puts nodes n1 (bits - 1) below (key / 2) value made → new ≡ with_half node key (Some made) → IsPushed n1 n2 new number → Puts nodes n2 bits root key value number
  puts_on n1 n2 bits value made number new some h ext puts is_new pushed =
      puts_counted nodes n1 n2 bits root key value made number some h ext (subst (λ r. Puts nodes n1 (bits - 1) r (key / 2) value made) below_read puts)
      (subst (λ x. IsPushed n1 n2 x number) (is_new ∙ ap (λ x. with_half x key (Some made)) node_read) pushed)

pub half_is_key : (bits key : ℕ) → (bits ≡ 0 → ⊥) → key < 2 ^ bits → key / 2 < 2 ^ (bits - 1)
half_is_key zero key some lt = absurd (some refl)
half_is_key (suc bits) key some lt = let same : bits ≡ suc bits - 1 = omega arith in subst (λ n. key / 2 < 2 ^ n) same (omega (arith, pow-suc 2 bits, lt))

down : (nodes : List Node) (n : ℕ) (root : Option ℕ) (key : ℕ) → value_at nodes (suc n) root key ≡ value_at nodes n (half (node_at nodes root) key) (key / 2)
unfolding value_at
down nodes n root key = refl

pub steps_down : (nodes : List Node) (end i : ℕ) (root : Option ℕ) (key : ℕ) → i < end → value_at nodes (end - i) root key ≡ value_at nodes (end - (i + 1)) (half (node_at nodes root) key) (key / 2)
steps_down nodes end i root key lt = let more : end - i ≡ suc (end - (i + 1)) = omega arith in ap (λ n. value_at nodes n root key) more ∙ down nodes (end - (i + 1)) root key

at_no_bits : (nodes : List Node) (root : Option ℕ) (key : ℕ) → value_at nodes 0 root key ≡ cond (key == 0) root None
unfolding value_at
at_no_bits nodes root key = refl

-- the root that is left where no bits are
pub read_last : (nodes : List Node) (end i : ℕ) (root : Option ℕ) (key : ℕ) → end ≤ i → key ≡ 0 → root ≡ value_at nodes (end - i) root key
read_last nodes end i root key le is = let none : end - i ≡ 0 = omega arith in sym (ap (λ n. value_at nodes n root key) none ∙ at_no_bits nodes root key ∙ ap (λ k. cond (k == 0) root None) is)

pub read_nothing : (nodes : List Node) (end i : ℕ) (root : Option ℕ) (key : ℕ) → end ≤ i → (key ≡ 0 → ⊥) → None ≡ value_at nodes (end - i) root key
read_nothing nodes end i root key le some = let none : end - i ≡ 0 = omega arith in sym (ap (λ n. value_at nodes n root key) none ∙ at_no_bits nodes root key ∙ only_zero key root (omega (arith, some)))

-- ---- how many bits are needed

pub bits_are_enough : (count last bits : ℕ) → last ≡ count - 1 → last < 2 ^ 32 → bits ≡ 32 - count_leading_zeros 32 last → count ≤ 2 ^ bits
bits_are_enough count last bits is fits e =
    let top = leading_length 32 last fits in
    let same : top.0 ≡ bits = omega (arith, e, top.1) in
    let below : last < 2 ^ bits = subst (λ n. last < 2 ^ n) same top.2 in
    omega (arith, below, is)

pub bits_are_least : (count last bits others : ℕ) → last ≡ count - 1 → last < 2 ^ 32 → bits ≡ 32 - count_leading_zeros 32 last → count ≤ 2 ^ others → bits ≤ others
bits_are_least count last bits others is fits e h =
    let top = leading_length 32 last fits in
    let same : top.0 ≡ bits = omega (arith, e, top.1) in
    let least : 2 ^ bits ≤ 2 * last + 1 = subst (λ n. 2 ^ n ≤ 2 * last + 1) same top.3 in
    elim (cases_lt others bits) [
      | inl lt ↦
          let two : 0 < 2 = omega arith in
          let up : 2 ^ suc others ≤ 2 ^ bits = pow-le-pow_right two (omega (arith, lt)) in
          absurd (omega (arith, up, pow-suc 2 others, pow_pos others, least, h, is))
      | inr le ↦ le
    ]
