use Rattle.std.proofs.Common.{◌≡◌, ◌+◌, ◌/◌, length, vec_len, ap, ◌∙◌, arith}
use Rattle.outside.proofs.Rooms.{Serve-push}
use Rattle.outside.proofs.memory.spare_files.Goals as goal

pub loop-alloc-preserved : goal.loop-alloc-preserved
loop-alloc-preserved c =
    let len : vec_len c.loop-alloc.spares ≡ length c.loop-alloc.spares.items = omega arith in
    let made = c.in_ok-spare.ensures in
    let part = made.1 ∙ ap (λ n. c.args.room / (n + 1)) (c.len-in-loop-alloc.ensures ∙ len) in
    record {
      len = omega (arith, c.in_ok-push.ensures.len);
      serve = rw c.in_ok-push.ensures.items (Serve-push c.args.room _ c.in_ok-spare.spare c.loop-alloc.invariant.serve made.0 part);
    }
