use Rattle.std.proofs.Common.{◌≡◌, ◌++◌, drop}
use Rattle.class_heads.specs.Written.{numbers_from}
use Rattle.class_heads.proofs.written.numbers.Given as goal

abbrev pub invariant-loop-class : goal.invariant-loop-class
invariant-loop-class l = l.numbers ++ numbers_from l.next (drop l.class-index l.written) ≡ numbers_from 0 l.written
