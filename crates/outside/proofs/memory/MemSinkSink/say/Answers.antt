use Rattle.std.proofs.Common.{◌-◌, ◌≤◌, length, arith}
use Rattle.outside.proofs.Rooms.{Serve-less}
use Rattle.outside.proofs.memory.MemSinkSink.say.Goals as goal

pub invariant_of-self-2 : goal.invariant_of-self-2
invariant_of-self-2 c =
    let less : c.self.inside.room - length c.args.bytes.now ≤ c.self.inside.room = omega arith in
    record {
      said = omega arith;
      files = omega arith;
      serve = Serve-less _ _ 0 _ less c.self.invariant.serve;
    }
