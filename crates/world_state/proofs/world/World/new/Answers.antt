use Rattle.std.proofs.Common.{◌≤◌, ◌*◌, length, arith}
use Rattle.std.proofs.lemmas.Grind.{div_ceil_times}
use Rattle.world_state.proofs.Kept.{empty_facts, empty_kept}
use Rattle.world_state.proofs.world.World.new.Goals as goal

pub invariant_of-result : goal.invariant_of-result
invariant_of-result c =
    let blocks = c.div_ceil.ensures in
    let enough = div_ceil_times c.args.shape.members 64 (omega arith) in
    let count = c.in_ok-new-2.ensures.count in
    let room : c.args.shape.members ≤ length c.in_ok-new-2.field-0 * 64 = omega arith in
    empty_kept c.args.shape c.in_ok-new.field-0 c.in_ok-new-2.field-0 c.in_ok-new.ensures.empty c.in_ok-new.ensures.count c.in_ok-new-2.ensures.empty room

pub returns : goal.returns
returns c = empty_facts c.args.shape c.in_ok-new.field-0 c.in_ok-new-2.field-0 c.in_ok-new.ensures.empty c.in_ok-new.ensures.count c.in_ok-new-2.ensures.empty
