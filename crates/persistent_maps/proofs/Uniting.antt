-- What the nodes of two maps give together.
use Rattle.std.proofs.Common.{◌≡◌, ℕ, zero, suc, ◌-◌, ◌/◌, ◌%◌, ◌<◌, ◌==◌, Bool, true, false, cond, List, length, Option, Some, None, refl, sym, ap, ◌∙◌, subst, arith}
use Rattle.std.specs.Prelude.{IfSome}
use Rattle.std.specs.Option.{option_or}
use Rattle.persistent_maps.specs.declared.nodes.Node.{Node}
use Rattle.persistent_maps.specs.Nodes.{half, node_at}
use Rattle.persistent_maps.specs.Lookup.{value_at, IsMapTo}
use Rattle.persistent_maps.specs.Growth.{Extends, StandsAt, Unites}
use Rattle.persistent_maps.proofs.Growing.{none_has_none, extends_on, map_kept, value_kept}

or_none : (o : Option ℕ) → option_or o None ≡ o
or_none None = refl
or_none (Some x) = refl

or_itself : (o : Option ℕ) → option_or o o ≡ o
or_itself None = refl
or_itself (Some x) = refl

-- ---- one of them is the other, or has all

pub unites_none : (nodes : List Node) (bits : ℕ) (left right : Option ℕ) → left ≡ None → IsMapTo nodes bits right → Unites nodes nodes bits left right right
unites_none nodes bits left right e h = record { is_map = h; values = λ k. ap (λ o. option_or o (value_at nodes bits right k)) (sym (ap (λ root. value_at nodes bits root k) e ∙ none_has_none nodes bits k)) }

pub unites_with_none : (nodes : List Node) (bits : ℕ) (left right : Option ℕ) → right ≡ None → IsMapTo nodes bits left → Unites nodes nodes bits left right left
unites_with_none nodes bits left right e h =
    record {
      is_map = h;
      values = λ k. sym (or_none (value_at nodes bits left k)) ∙ ap (option_or (value_at nodes bits left k)) (sym (ap (λ root. value_at nodes bits root k) e ∙ none_has_none nodes bits k));
    }

pub unites_itself : (nodes : List Node) (bits : ℕ) (left right : Option ℕ) → left ≡ right → IsMapTo nodes bits left → Unites nodes nodes bits left right left
unites_itself nodes bits left right e h = record { is_map = h; values = λ k. sym (or_itself (value_at nodes bits left k)) ∙ ap (λ root. option_or (value_at nodes bits left k) (value_at nodes bits root k)) e }

at_zero : (nodes : List Node) (number : ℕ) (right : Option ℕ) (k : ℕ) → value_at nodes 0 (Some number) k ≡ option_or (value_at nodes 0 (Some number) k) (value_at nodes 0 right k)
unfolding value_at
at_zero nodes number right k = by (k == 0) where
  by : (b : Bool) → cond b (Some number) None ≡ option_or (cond b (Some number) None) (cond b right None)
  by true = refl
  by false = refl

pub unites_values : (nodes : List Node) (bits : ℕ) (left right : Option ℕ) (number : ℕ) → bits ≡ 0 → left ≡ Some number → IsMapTo nodes bits left → Unites nodes nodes bits left right left
unites_values nodes bits left right number none e h = record { is_map = h; values = values } where
  values : (k : ℕ) → value_at nodes bits left k ≡ option_or (value_at nodes bits left k) (value_at nodes bits right k)
  values k = subst (λ n. value_at nodes n left k ≡ option_or (value_at nodes n left k) (value_at nodes n right k)) (sym none) (subst (λ root. value_at nodes 0 root k ≡ option_or (value_at nodes 0 root k) (value_at nodes 0 right k)) (sym e) (at_zero nodes number right k))

-- ---- both have nodes

pub node_of : (nodes slice : List Node) (root : Option ℕ) (number : ℕ) (node : Node) → slice ≡ nodes → root ≡ Some number → node ≡ node_at slice (Some number) → node ≡ node_at nodes root
node_of nodes slice root number node all is read = read ∙ ap (λ ns. node_at ns (Some number)) all ∙ sym (ap (node_at nodes) is)

pub halves_are_maps : (nodes : List Node) (bits : ℕ) (root : Option ℕ) (node : Node) → (bits ≡ 0 → ⊥) → node ≡ node_at nodes root → IsMapTo nodes bits root → IsMapTo nodes (bits - 1) node.even × IsMapTo nodes (bits - 1) node.odd
unfolding IsMapTo
halves_are_maps nodes zero root node some e h = absurd (some refl)
halves_are_maps nodes (suc bits) root node some e h =
    let same : bits ≡ suc bits - 1 = omega arith in
    subst (λ n. IsMapTo nodes n node.even × IsMapTo nodes n node.odd) same (subst (λ (x : Node). IsMapTo nodes bits x.even × IsMapTo nodes bits x.odd) (sym e) (h.1, h.2))

pub is_there : (nodes : List Node) (bits : ℕ) (root : Option ℕ) → (bits ≡ 0 → ⊥) → IsMapTo nodes bits root → IfSome root (λ n. n < length nodes)
unfolding IsMapTo
is_there nodes zero root some h = absurd (some refl)
is_there nodes (suc bits) root some h = h.0

pub there_still : (old new : List Node) (root : Option ℕ) → Extends old new → IfSome root (λ n. n < length old) → IfSome root (λ n. n < length new)
there_still old new None ext h = h
there_still old new (Some n) ext h = omega (arith, h, ext.longer)

module _ (n0 n1 n2 n3 : List Node) (bits : ℕ) (left right : Option ℕ) (evens odds root : Option ℕ)
    (left_is : IsMapTo n0 (suc bits) left) (right_is : IsMapTo n0 (suc bits) right)
    (first : Extends n0 n1) (second : Extends n1 n2) (third : Extends n2 n3)
    (even : Unites n0 n1 bits (node_at n0 left).even (node_at n0 right).even evens)
    (odd : Unites n1 n2 bits (node_at n0 left).odd (node_at n0 right).odd odds)
    (stands : StandsAt n3 root (record { even = evens; odd = odds })) where
  abbrev joined : Node
  joined = record { even = evens; odd = odds }

  after_first : Extends n1 n3
  after_first = extends_on n1 n2 n3 second third

  below : (side : Option ℕ) → IsMapTo n0 (suc bits) side → IsMapTo n0 bits (node_at n0 side).odd
  unfolding IsMapTo
  below side h = h.2

  is_map : IsMapTo n3 (suc bits) root
  unfolding IsMapTo
  is_map = (
    stands.there,
    subst (λ (x : Node). IsMapTo n3 bits x.even) (sym stands.is) (map_kept n1 n3 after_first bits evens even.is_map),
    subst (λ (x : Node). IsMapTo n3 bits x.odd) (sym stands.is) (map_kept n2 n3 third bits odds odd.is_map),
  )

  both : (k : ℕ) (b : Bool) → value_at n3 bits (cond b evens odds) k ≡ option_or (value_at n0 bits (cond b (node_at n0 left).even (node_at n0 left).odd) k) (value_at n0 bits (cond b (node_at n0 right).even (node_at n0 right).odd) k)
  both k true = value_kept n1 n3 after_first bits evens k even.is_map ∙ even.values k
  both k false =
      value_kept n2 n3 third bits odds k odd.is_map ∙ odd.values k
      ∙ ap (λ o. option_or o (value_at n1 bits (node_at n0 right).odd k)) (value_kept n0 n1 first bits (node_at n0 left).odd k (below left left_is))
      ∙ ap (option_or (value_at n0 bits (node_at n0 left).odd k)) (value_kept n0 n1 first bits (node_at n0 right).odd k (below right right_is))

  values : (k : ℕ) → value_at n3 (suc bits) root k ≡ option_or (value_at n0 (suc bits) left k) (value_at n0 (suc bits) right k)
  unfolding value_at
  values k = ap (λ (x : Node). value_at n3 bits (half x k) (k / 2)) stands.is ∙ both (k / 2) (k % 2 == 0)

  unites_above : Unites n0 n3 (suc bits) left right root
  unites_above = record { is_map = is_map; values = values }

pub unites_halves :
    (n0 n1 n2 n3 : List Node) (bits : ℕ) (left right evens odds root : Option ℕ) (left_node right_node : Node)
    → (bits ≡ 0 → ⊥) → left_node ≡ node_at n0 left → right_node ≡ node_at n0 right → IsMapTo n0 bits left → IsMapTo n0 bits right → Extends n0 n1 → Extends n1 n2 → Extends n2 n3
    → Unites n0 n1 (bits - 1) left_node.even right_node.even evens → Unites n1 n2 (bits - 1) left_node.odd right_node.odd odds
    → StandsAt n3 root (record { even = evens; odd = odds }) → Unites n0 n3 bits left right root
unites_halves n0 n1 n2 n3 zero left right evens odds root left_node right_node some l r hl hr first second third even odd stands = absurd (some refl)
unites_halves n0 n1 n2 n3 (suc bits) left right evens odds root left_node right_node some l r hl hr first second third even odd stands =
    let same : suc bits - 1 ≡ bits = omega arith in
    let even' : Unites n0 n1 bits left_node.even right_node.even evens = subst (λ n. Unites n0 n1 n left_node.even right_node.even evens) same even in
    let odd' : Unites n1 n2 bits left_node.odd right_node.odd odds = subst (λ n. Unites n1 n2 n left_node.odd right_node.odd odds) same odd in
    unites_above n0 n1 n2 n3 bits left right evens odds root hl hr first second third
    (subst (λ (x : Node). Unites n0 n1 bits x.even (node_at n0 right).even evens) l (subst (λ (x : Node). Unites n0 n1 bits left_node.even x.even evens) r even'))
    (subst (λ (x : Node). Unites n1 n2 bits x.odd (node_at n0 right).odd odds) l (subst (λ (x : Node). Unites n1 n2 bits left_node.odd x.odd odds) r odd'))
    stands
