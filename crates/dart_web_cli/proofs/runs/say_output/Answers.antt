use Rattle.std.proofs.Common.{◌≡◌, List, Result, Err, sym, subst, arith}
use Rattle.dart_web_cli.specs.declared.runs.SayFault.{SayFault}
use Rattle.dart_web_cli.specs.RunLines.{printed}
use Rattle.dart_web_cli.specs.TopCall.{SinkState}
use Rattle.dart_web_cli.specs.RunAnswers.{Saying}
use Rattle.dart_web_cli.proofs.HandedOn.{handed_on}
use Rattle.dart_web_cli.proofs.Sayings.{next_left, left_early, none_left}
use Rattle.dart_web_cli.proofs.runs.say_output.Goals as goal

pub returns-in_err-say_text : goal.returns-in_err-say_text
returns-in_err-say_text g c =
    let before : SinkState = record { files = g.K.Sink.files c.args.sink.now; said = g.K.Sink.said c.args.sink.now; faults = g.K.Sink.faults c.args.sink.now } in
    let mid : SinkState = record { files = g.K.Sink.files c.loop-text.sink; said = g.K.Sink.said c.loop-text.sink; faults = g.K.Sink.faults c.loop-text.sink } in
    let now : SinkState = record { files = g.K.Sink.files c.say_text.new.sink; said = g.K.Sink.said c.say_text.new.sink; faults = g.K.Sink.faults c.say_text.new.sink } in
    let from : c.from_residual.result ≡ Err c.in_err-say_text.field-0.0 = handed_on _ _ c.from_residual.ensures.1 in
    subst (λ (r : Result (Unit {0}) SayFault). Saying (printed c.args.output.now) r before now) (sym from)
    (left_early c.args.output.now c.loop-text.text-index c.text-item.result c.in_err-say_text.field-0.0 before mid now c.loop-text-test.true c.text-item.is c.loop-text.invariant c.in_err-say_text.ensures)

pub loop-text-preserved : goal.loop-text-preserved
loop-text-preserved g c =
    let before : SinkState = record { files = g.K.Sink.files c.args.sink.now; said = g.K.Sink.said c.args.sink.now; faults = g.K.Sink.faults c.args.sink.now } in
    let mid : SinkState = record { files = g.K.Sink.files c.loop-text.sink; said = g.K.Sink.said c.loop-text.sink; faults = g.K.Sink.faults c.loop-text.sink } in
    let now : SinkState = record { files = g.K.Sink.files c.say_text.new.sink; said = g.K.Sink.said c.say_text.new.sink; faults = g.K.Sink.faults c.say_text.new.sink } in
    next_left c.args.output.now c.loop-text.text-index c.text-item.result before mid now c.loop-text-test.true c.text-item.is c.loop-text.invariant c.in_ok-say_text.ensures

pub returns : goal.returns
returns g c =
    let before : SinkState = record { files = g.K.Sink.files c.args.sink.now; said = g.K.Sink.said c.args.sink.now; faults = g.K.Sink.faults c.args.sink.now } in
    let mid : SinkState = record { files = g.K.Sink.files c.loop-text.sink; said = g.K.Sink.said c.loop-text.sink; faults = g.K.Sink.faults c.loop-text.sink } in
    none_left c.args.output.now c.loop-text.text-index before mid (omega arith) c.loop-text.invariant
