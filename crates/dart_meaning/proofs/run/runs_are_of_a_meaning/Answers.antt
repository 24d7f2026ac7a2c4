use Rattle.std.proofs.Common.{[]}
use Rattle.meanings.specs.Act.{fin, sub}
use Rattle.meanings.specs.Ends.{Done, Halted}
use Rattle.meanings.proofs.Further.{is_meaning}
use Rattle.dart_meaning.specs.Meaning.{First, Main}
use Rattle.dart_meaning.proofs.run.runs_are_of_a_meaning.Goals as goal

pub returns : goal.returns
returns c program order = is_meaning First (λ _. Done) Halted (sub (Main program) [] fin)
