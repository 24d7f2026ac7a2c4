use Rattle.std.proofs.Common.{◌<◌, ◌≤◌, suc, length, drop, sym, subst, arith}
use Rattle.outside.specs.Room.{AreSmall, Serve, room_at}
use Rattle.outside.proofs.Rooms.{Serve-remove, none_from_small, IsWide-at, room_at-is}
use Rattle.outside.proofs.memory.take_spare.Goals as goal

pub returns-in-None-clause-found : goal.returns-in-None-clause-found
returns-in-None-clause-found c =
    let serve = subst (λ s. Serve c.args.room.now 0 s) (sym c.as_slice.ensures.value) c.requires.serve in
    let none = none_from_small c.args.room.now c.args.size _ c.requires.within c.in-None.ensures serve in
    (λ some. cc, λ any. absurd (omega arith))

pub returns-in-Some-clause-wide : goal.returns-in-Some-clause-wide
returns-in-Some-clause-wide c =
    let found = subst (λ s. (c.in-Some.i < length s) × (c.args.size ≤ room_at s c.in-Some.i) × AreSmall c.args.size (drop (suc c.in-Some.i) s)) c.as_slice.ensures.value c.in-Some.ensures in
    let wide = IsWide-at c.args.room.now 0 _ _ c.remove.result found.0 c.remove.ensures.value c.requires.serve in
    let is = room_at-is _ _ c.remove.result found.0 c.remove.ensures.value in
    let fits = found.1 in
    let name = wide.name in
    let bytes = wide.bytes in
    (omega arith, omega arith)

pub returns-in-Some-clause-serve : goal.returns-in-Some-clause-serve
returns-in-Some-clause-serve c =
    let found = subst (λ s. (c.in-Some.i < length s) × (c.args.size ≤ room_at s c.in-Some.i) × AreSmall c.args.size (drop (suc c.in-Some.i) s)) c.as_slice.ensures.value c.in-Some.ensures in
    rw c.remove.ensures.items (Serve-remove c.args.room.now c.args.size 0 c.in-Some.i _ c.requires.within found.0 found.2 c.requires.serve)
