use Rattle.std.proofs.Common.{◌≡◌, map, take}
use Rattle.name_meanings.specs.Tables.{names_of}
use Rattle.name_meanings.proofs.tables.all_names.Given as goal

abbrev pub invariant-loop-own : goal.invariant-loop-own
invariant-loop-own l = l.names ≡ map (names_of l.program) (take l.own-index l.own-items)
