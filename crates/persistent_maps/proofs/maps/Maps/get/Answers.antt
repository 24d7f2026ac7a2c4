use Rattle.std.proofs.Common.{sym, ap, ◌∙◌, ◌-◌, ◌+◌, ◌/◌}
use Rattle.persistent_maps.specs.Lookup.{value_at}
use Rattle.persistent_maps.specs.Maps.{value_of}
use Rattle.persistent_maps.proofs.Growing.{below_read, steps_down, read_last, read_nothing}
use Rattle.persistent_maps.proofs.maps.Maps.get.Goals as goal

pub loop-preserved : goal.loop-preserved
loop-preserved c =
    ap (λ root. value_at c.args.self.now.nodes (c.args.self.now.bits - (c.loop.counter + 1)) root (c.loop.key / 2))
    (below_read c.args.self.now.nodes c.as_slice.result.now c.loop.root c.half-root.result c.loop.key c.node_at.result c.as_slice.ensures c.node_at.ensures c.half-root.ensures)
    ∙ sym (steps_down c.args.self.now.nodes c.args.self.now.bits c.loop.counter c.loop.root c.loop.key c.loop-test.true)
    ∙ c.loop.invariant

pub returns-then-key-eq0 : goal.returns-then-key-eq0
unfolding value_of
returns-then-key-eq0 c = read_last c.args.self.now.nodes c.args.self.now.bits c.loop.counter c.loop.root c.loop.key c.loop-test.false c.if-key-eq0.true ∙ c.loop.invariant

pub returns-else-key-eq0 : goal.returns-else-key-eq0
unfolding value_of
returns-else-key-eq0 c = read_nothing c.args.self.now.nodes c.args.self.now.bits c.loop.counter c.loop.root c.loop.key c.loop-test.false c.if-key-eq0.false ∙ c.loop.invariant
