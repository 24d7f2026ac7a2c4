use Rattle.std.proofs.Common.{Err, subst}
use Rattle.dart_web_cli.specs.declared.runs.SayFault.{SayFault}
use Rattle.dart_web_cli.specs.RunLines.{run_text}
use Rattle.dart_web_cli.specs.TopCall.{SinkState}
use Rattle.dart_web_cli.specs.RunAnswers.{Saying, failed, cut}
use Rattle.dart_web_cli.proofs.FileNames.{names_of}
use Rattle.dart_web_cli.proofs.runs.tell.Goals as goal

pub returns-in-Err-Sink : goal.returns-in-Err-Sink
returns-in-Err-Sink g c =
    let before : SinkState = record { files = g.K.Sink.files c.args.sink.now; said = g.K.Sink.said c.args.sink.now; faults = g.K.Sink.faults c.args.sink.now } in
    let now : SinkState = record { files = g.K.Sink.files c.say_run.new.sink; said = g.K.Sink.said c.say_run.new.sink; faults = g.K.Sink.faults c.say_run.new.sink } in
    failed (subst (λ (f : SayFault). Saying (run_text c.args.steps (names_of c.args.files.now) c.args.run.now) (Err f) before now) c.in-Err-Sink.field-0-is c.in-Err-Sink.ensures)

pub returns-in-Err-Memory : goal.returns-in-Err-Memory
returns-in-Err-Memory g c =
    let before : SinkState = record { files = g.K.Sink.files c.args.sink.now; said = g.K.Sink.said c.args.sink.now; faults = g.K.Sink.faults c.args.sink.now } in
    let now : SinkState = record { files = g.K.Sink.files c.say_run.new.sink; said = g.K.Sink.said c.say_run.new.sink; faults = g.K.Sink.faults c.say_run.new.sink } in
    cut (subst (λ (f : SayFault). Saying (run_text c.args.steps (names_of c.args.files.now) c.args.run.now) (Err f) before now) c.in-Err-Memory.field-0-is c.in-Err-Memory.ensures)
