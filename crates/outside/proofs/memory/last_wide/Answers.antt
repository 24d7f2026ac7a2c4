use Rattle.std.proofs.Common.{◌≡◌, ◌-◌, ◌<◌, ◌≤◌, suc, length, drop, sym, subst, arith}
use Rattle.outside.specs.declared.memory.Spare.{Spare}
use Rattle.outside.specs.Room.{AreSmall}
use Rattle.outside.proofs.Rooms.{room_at-is}
use Rattle.outside.proofs.memory.last_wide.Goals as goal

pub returns-then-size-spares : goal.returns-then-size-spares
returns-then-size-spares c =
    let lt : c.loop-i.i - 1 < length c.args.spares.now = omega arith in
    let e : suc (c.loop-i.i - 1) ≡ c.loop-i.i = omega arith in (
      lt,
      subst (λ n. c.args.size ≤ n) (sym (room_at-is _ _ c.index-spares-i.result lt c.index-spares-i.is)) (subst (λ (s : Spare). c.args.size ≤ s.room) (sym c.index-spares-i.is) c.if-size-spares.true),
      subst (λ n. AreSmall c.args.size (drop n c.args.spares.now)) (sym e) c.loop-i.invariant.small,
    )
