use Rattle.std.proofs.Common.{◌∙◌, arith}
use Rattle.class_heads.proofs.FaultParts.{heads_more}
use Rattle.class_heads.proofs.known.Known.first_fault.Goals as goal

pub loop-class-preserved : goal.loop-class-preserved
loop-class-preserved c =
    heads_more c.args.self.now c.loop-class.found c.in_ok-found.found c.args.written.now c.loop-class.class-index c.loop-class.first c.in_ok-first.first c.class-item.result c.loop-class-test.true c.class-item.is (omega (arith, c.in_ok-first.ensures, c.in_ok-own.ensures, c.nameless.ensures)) c.in_ok-found.ensures ∙ c.loop-class.invariant
