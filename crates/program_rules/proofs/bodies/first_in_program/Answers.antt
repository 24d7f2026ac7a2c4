use Rattle.std.proofs.Common.{sym, subst}
use Rattle.dart_program.specs.First.{IsFirstOrNone}
use Rattle.program_rules.specs.Bodies.{IsBroken}
use Rattle.program_rules.proofs.Joined.{in_program}
use Rattle.program_rules.proofs.bodies.first_in_program.Goals as goal

pub returns : goal.returns
returns c =
    subst (IsFirstOrNone (IsBroken c.args.program)) (sym c.first_of.ensures)
    (in_program c.args.program c.in_ok-meanings.meanings c.files-files.result.now c.in_ok-found.found c.in_ok-supers.supers c.in_ok-meanings.ensures c.files-files.ensures c.in_ok-found.ensures c.in_ok-supers.ensures)
