use Rattle.std.proofs.Common.{arith}
use Rattle.std.proofs.lemmas.Result.{IfOk-weaker}
use Rattle.persistent_maps.specs.Growth.{IsPushed, Puts}
use Rattle.persistent_maps.proofs.Growing.{puts_value, puts_on, half_is_one, half_is_key}
use Rattle.persistent_maps.proofs.nodes.+put.Goals as goal

pub returns-then-bits-eq0-clause-made : goal.returns-then-bits-eq0-clause-made
returns-then-bits-eq0-clause-made t c = puts_value c.args.nodes.now c.args.bits c.args.root c.args.key c.args.value c.if-bits-eq0.true c.requires.is_key

pub put-requires : goal.put-requires
put-requires t c = (
  omega arith,
  (
    half_is_one c.args.nodes.now c.as_slice.result.now c.args.root c.half.result c.args.key c.node_at-node.result c.as_slice.ensures c.node_at-node.ensures c.half.ensures c.args.bits c.if-bits-eq0.false c.requires.is_map,
    half_is_key c.args.bits c.args.key c.if-bits-eq0.false c.requires.is_key,
  ),
)

pub returns-clause-made : goal.returns-clause-made
returns-clause-made t c =
    IfOk-weaker c.push.result (IsPushed c.put.new.nodes c.push.new.nodes c.with_half.result) (Puts c.args.nodes.now c.push.new.nodes c.args.bits c.args.root c.args.key c.args.value)
    (λ number pushed.
    puts_on c.args.nodes.now c.as_slice.result.now c.args.root c.half.result c.args.key c.node_at-node.result c.as_slice.ensures c.node_at-node.ensures c.half.ensures
    c.put.new.nodes c.push.new.nodes c.args.bits c.args.value c.in_ok-half.half number c.with_half.result c.if-bits-eq0.false c.requires.is_map c.in_ok-half.ensures.extends c.in_ok-half.ensures.made c.with_half.ensures pushed)
    c.push.ensures.ok
