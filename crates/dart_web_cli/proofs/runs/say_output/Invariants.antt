use Rattle.std.proofs.Common.{drop}
use Rattle.dart_web_cli.specs.TopCall.{SinkState}
use Rattle.dart_web_cli.proofs.Sayings.{SaysRest}
use Rattle.dart_web_cli.proofs.runs.say_output.Given as goal

abbrev pub invariant-loop-text : goal.invariant-loop-text
invariant-loop-text g l =
    SaysRest l.output (drop l.text-index l.output)
    (record { files = g.K.Sink.files l.fn.sink; said = g.K.Sink.said l.fn.sink; faults = g.K.Sink.faults l.fn.sink })
    (record { files = g.K.Sink.files l.sink; said = g.K.Sink.said l.sink; faults = g.K.Sink.faults l.sink })
