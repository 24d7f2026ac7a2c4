use Rattle.std.proofs.Common.{◌≡◌, drop}
use Rattle.class_heads.specs.Search.{seen_all}
use Rattle.class_heads.proofs.search.Search.see_all.Given as goal

abbrev pub invariant-loop-class : goal.invariant-loop-class
invariant-loop-class l = seen_all l.self (drop l.class-index l.classes) ≡ seen_all l.fn.self l.classes
