use Rattle.std.proofs.Common.{refl, subst, inl, inr, arith}
use Rattle.dart_web_cli.specs.declared.words.WordsFault.{WordsFault}
use Rattle.dart_web_cli.specs.declared.top.Status.TheVariants.{Usage}
use Rattle.dart_web_cli.specs.Words.{IsNoCommand}
use Rattle.dart_web_cli.specs.Commands.{Refuses}
use Rattle.dart_web_cli.specs.Answers.{usage_line}
use Rattle.dart_web_cli.specs.TopCall.{SourceState, SinkState, Call, IsUsage}
use Rattle.dart_web_cli.proofs.Finished.{finished}
use Rattle.dart_web_cli.proofs.top.carry_out.Goals as goal

pub returns-in-Err-Usage : goal.returns-in-Err-Usage
returns-in-Err-Usage g c =
    let source : SourceState = record { files = g.S.Source.files c.args.source.now; faults = g.S.Source.faults c.args.source.now } in
    let before : SinkState = record { files = g.K.Sink.files c.args.sink.now; said = g.K.Sink.said c.args.sink.now; faults = g.K.Sink.faults c.args.sink.now } in
    let now : SinkState = record { files = g.K.Sink.files c.finish.new.sink; said = g.K.Sink.said c.finish.new.sink; faults = g.K.Sink.faults c.finish.new.sink } in
    let call : Call = record { words = c.args.words.now; old = source; new = source; before = before; now = now } in
    let none = subst (λ (f : WordsFault). Refuses f (IsNoCommand c.args.words.now)) c.in-Err-Usage.field-0-is c.in-Err-Usage.ensures in
    let why : IsUsage call usage_line = record { no_command = none; source = refl; line_is = refl } in
    finished call Usage c.usage_line.result c.finish.result usage_line c.usage_line.ensures
    (λ says. (usage_line, why, says))
    (λ front. inr (record { line = usage_line; cause = inl why; front = front }))
    (λ stays. inl (record { files = refl; later = omega arith; sink = stays }))
    c.finish.ensures
