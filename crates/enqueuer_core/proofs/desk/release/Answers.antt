use Rattle.std.proofs.Common.{length, arith}
use Rattle.enqueuer_core.proofs.DeskLaws.{all_none}
use Rattle.enqueuer_core.proofs.desk.release.Goals as goal

pub returns : goal.returns
returns c =
    let long = c.loop-i.invariant.long in
    let end = c.len-i-end.ensures in
    let count = c.args.held.now.ok.0 in
    all_none c.loop-i.held.items (length c.args.held.now.items) (omega arith) (λ k h. c.loop-i.invariant.none k (omega arith))
