use Rattle.std.proofs.Common.{arith, ◌<◌, ◌-◌, length, Some, sym, ap, ◌∙◌, subst}
use Rattle.std.specs.Prelude.{IfSome}
use Rattle.std.proofs.lemmas.Result.{IfOk-weaker}
use Rattle.persistent_maps.specs.Growth.{StandsAt, Unites}
use Rattle.persistent_maps.proofs.Growing.{extends_on, map_kept}
use Rattle.persistent_maps.proofs.Uniting.{unites_none, unites_with_none, unites_itself, unites_values, unites_halves, node_of, halves_are_maps, is_there, there_still}
use Rattle.persistent_maps.proofs.nodes.+union.Goals as goal
use Rattle.persistent_maps.proofs.nodes.+union.Goals.{then-left_number-right_number-via-then-left_number-right_number, then-left_number-right_number-via-else-left_number-right_number+then-bits-eq0}

pub returns-in_default-clause-made : goal.returns-in_default-clause-made
returns-in_default-clause-made t c = unites_none c.args.nodes.now c.args.bits c.args.left c.args.right c.in_default.is c.requires.right_is_map

pub returns-in_default-right-clause-made : goal.returns-in_default-right-clause-made
returns-in_default-right-clause-made t c = subst (Unites c.args.nodes.now c.args.nodes.now c.args.bits c.args.left c.args.right) c.in-Some.is (unites_with_none c.args.nodes.now c.args.bits c.args.left c.args.right c.in_default-right.is c.requires.left_is_map)

pub returns-then-left_number-right_number-clause-made : goal.returns-then-left_number-right_number-clause-made
returns-then-left_number-right_number-clause-made t c =
    subst (Unites c.args.nodes.now c.args.nodes.now c.args.bits c.args.left c.args.right) c.in-Some.is
    (elim c.then-left_number-right_number.branch [
      | then-left_number-right_number-via-then-left_number-right_number w ↦ unites_itself c.args.nodes.now c.args.bits c.args.left c.args.right (c.in-Some.is ∙ ap Some w.if-left_number-right_number.true ∙ sym c.in-Some-right.is) c.requires.left_is_map
      | then-left_number-right_number-via-else-left_number-right_number+then-bits-eq0 w ↦ unites_values c.args.nodes.now c.args.bits c.args.left c.args.right c.in-Some.left_number w.if-bits-eq0.true c.in-Some.is c.requires.left_is_map
    ])

pub union-requires : goal.union-requires
union-requires t c = (
  omega arith,
  (
    (halves_are_maps c.args.nodes.now c.args.bits c.args.left c.node_at-left_node.result c.if-bits-eq0.false (node_of c.args.nodes.now c.as_slice.result.now c.args.left c.in-Some.left_number c.node_at-left_node.result c.as_slice.ensures c.in-Some.is c.node_at-left_node.ensures) c.requires.left_is_map).0,
    (halves_are_maps c.args.nodes.now c.args.bits c.args.right c.node_at-right_node.result c.if-bits-eq0.false (node_of c.args.nodes.now c.as_slice-2.result.now c.args.right c.in-Some-right.right_number c.node_at-right_node.result c.as_slice-2.ensures c.in-Some-right.is c.node_at-right_node.ensures) c.requires.right_is_map).0,
  ),
)

pub union-requires-2 : goal.union-requires-2
union-requires-2 t c = (
  omega arith,
  (
    map_kept c.args.nodes.now c.union.new.nodes c.in_ok-even.ensures.extends (c.args.bits - 1) c.node_at-left_node.result.odd
        (halves_are_maps c.args.nodes.now c.args.bits c.args.left c.node_at-left_node.result c.if-bits-eq0.false (node_of c.args.nodes.now c.as_slice.result.now c.args.left c.in-Some.left_number c.node_at-left_node.result c.as_slice.ensures c.in-Some.is c.node_at-left_node.ensures) c.requires.left_is_map).1,
    map_kept c.args.nodes.now c.union.new.nodes c.in_ok-even.ensures.extends (c.args.bits - 1) c.node_at-right_node.result.odd
        (halves_are_maps c.args.nodes.now c.args.bits c.args.right c.node_at-right_node.result c.if-bits-eq0.false (node_of c.args.nodes.now c.as_slice-2.result.now c.args.right c.in-Some-right.right_number c.node_at-right_node.result c.as_slice-2.ensures c.in-Some-right.is c.node_at-right_node.ensures) c.requires.right_is_map).1,
  ),
)

pub either_or_new-requires-clause-left_is_there : goal.either_or_new-requires-clause-left_is_there
either_or_new-requires-clause-left_is_there t c =
    subst (λ root. IfSome root (λ n. n < length c.union-2.new.nodes)) c.in-Some.is
    (there_still c.args.nodes.now c.union-2.new.nodes c.args.left (extends_on c.args.nodes.now c.union.new.nodes c.union-2.new.nodes c.in_ok-even.ensures.extends c.in_ok-odd.ensures.extends)
    (is_there c.args.nodes.now c.args.bits c.args.left c.if-bits-eq0.false c.requires.left_is_map))

pub either_or_new-requires-clause-right_is_there : goal.either_or_new-requires-clause-right_is_there
either_or_new-requires-clause-right_is_there t c =
    subst (λ root. IfSome root (λ n. n < length c.union-2.new.nodes)) c.in-Some-right.is
    (there_still c.args.nodes.now c.union-2.new.nodes c.args.right (extends_on c.args.nodes.now c.union.new.nodes c.union-2.new.nodes c.in_ok-even.ensures.extends c.in_ok-odd.ensures.extends)
    (is_there c.args.nodes.now c.args.bits c.args.right c.if-bits-eq0.false c.requires.right_is_map))

pub returns-clause-made : goal.returns-clause-made
returns-clause-made t c =
    IfOk-weaker c.either_or_new.result (λ number. StandsAt c.either_or_new.new.nodes number (record { even = c.in_ok-even.even; odd = c.in_ok-odd.odd })) (Unites c.args.nodes.now c.either_or_new.new.nodes c.args.bits c.args.left c.args.right)
    (λ number stands.
    unites_halves c.args.nodes.now c.union.new.nodes c.union-2.new.nodes c.either_or_new.new.nodes c.args.bits c.args.left c.args.right c.in_ok-even.even c.in_ok-odd.odd number c.node_at-left_node.result c.node_at-right_node.result c.if-bits-eq0.false
    (node_of c.args.nodes.now c.as_slice.result.now c.args.left c.in-Some.left_number c.node_at-left_node.result c.as_slice.ensures c.in-Some.is c.node_at-left_node.ensures) (node_of c.args.nodes.now c.as_slice-2.result.now c.args.right c.in-Some-right.right_number c.node_at-right_node.result c.as_slice-2.ensures c.in-Some-right.is c.node_at-right_node.ensures)
    c.requires.left_is_map c.requires.right_is_map c.in_ok-even.ensures.extends c.in_ok-odd.ensures.extends c.either_or_new.ensures.extends c.in_ok-even.ensures.made c.in_ok-odd.ensures.made stands)
    c.either_or_new.ensures.stands
