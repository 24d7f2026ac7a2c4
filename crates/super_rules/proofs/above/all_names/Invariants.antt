use Rattle.std.proofs.Common.{◌≡◌, map, take}
use Rattle.class_heads.specs.Sources.{written_in}
use Rattle.super_rules.specs.Tables.{table_of}
use Rattle.super_rules.proofs.above.all_names.Given as goal

abbrev pub invariant-loop-class : goal.invariant-loop-class
invariant-loop-class l = l.tables ≡ map (table_of (written_in l.program)) (take l.class-index l.class-items)
