use Rattle.std.proofs.Common.{◌≡◌, ℕ, List, map, Result, Ok, Err, sym, subst}
use Rattle.dart_web_cli.specs.declared.runs.SayFault.{SayFault}
use Rattle.dart_web_cli.specs.RunLines.{printed, end_line, run_text}
use Rattle.dart_web_cli.specs.TopCall.{SinkState}
use Rattle.dart_web_cli.specs.RunAnswers.{Saying}
use Rattle.dart_web_cli.proofs.HandedOn.{handed_on}
use Rattle.dart_web_cli.proofs.FileNames.{names_of}
use Rattle.dart_web_cli.proofs.Sayings.{says_then, ends_early}
use Rattle.dart_web_cli.proofs.runs.say_run.Goals as goal

pub returns-in_err-say_output : goal.returns-in_err-say_output
returns-in_err-say_output g c =
    let before : SinkState = record { files = g.K.Sink.files c.args.sink.now; said = g.K.Sink.said c.args.sink.now; faults = g.K.Sink.faults c.args.sink.now } in
    let now : SinkState = record { files = g.K.Sink.files c.say_output.new.sink; said = g.K.Sink.said c.say_output.new.sink; faults = g.K.Sink.faults c.say_output.new.sink } in
    let names = names_of c.args.files.now in
    let run = c.args.run.now in
    let fault = c.in_err-say_output.field-0.0 in
    let from : c.from_residual.result ≡ Err fault = handed_on _ _ c.from_residual.ensures.1 in
    let part = subst (λ (o : List (List ℕ)). Saying (printed o) (Err fault) before now) c.as_slice.ensures c.in_err-say_output.ensures in
    subst (λ (r : Result (Unit {0}) SayFault). Saying (run_text c.args.steps names run) r before now) (sym from)
    (ends_early (printed run.output) (end_line c.args.steps names run.end) fault before now part)

pub returns : goal.returns
returns g c =
    let before : SinkState = record { files = g.K.Sink.files c.args.sink.now; said = g.K.Sink.said c.args.sink.now; faults = g.K.Sink.faults c.args.sink.now } in
    let mid : SinkState = record { files = g.K.Sink.files c.say_output.new.sink; said = g.K.Sink.said c.say_output.new.sink; faults = g.K.Sink.faults c.say_output.new.sink } in
    let now : SinkState = record { files = g.K.Sink.files c.say_end.new.sink; said = g.K.Sink.said c.say_end.new.sink; faults = g.K.Sink.faults c.say_end.new.sink } in
    let names = names_of c.args.files.now in
    let run = c.args.run.now in
    let part = subst (λ (o : List (List ℕ)). Saying (printed o) (Ok c.in_ok-say_output.field-0) before mid) c.as_slice.ensures c.in_ok-say_output.ensures in
    says_then (printed run.output) (end_line c.args.steps names run.end) c.say_end.result before mid now part c.say_end.ensures
