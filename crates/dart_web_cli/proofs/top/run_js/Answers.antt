use Rattle.std.proofs.Common.{◌≡◌, ℕ, List, Option, Err, subst}
use Rattle.std.specs.Prelude.{IfOk, string_bytes}
use Rattle.outside.specs.Outside.{Held}
use Rattle.js_tree.specs.declared.tree.NamedTree.{NamedTree}
use Rattle.dart_web_cli.specs.declared.scripts.ScriptFault.{ScriptFault}
use Rattle.dart_web_cli.specs.ScriptAnswers.{ReadsScripts, FaultCause}
use Rattle.dart_web_cli.specs.Answers.{outside_line, cannot_line}
use Rattle.dart_web_cli.specs.TopCall.{SourceState, SinkState, Call}
use Rattle.dart_web_cli.proofs.Endings.{same_source, run_means, absent_means, outside_means, failed_means}
use Rattle.dart_web_cli.proofs.top.run_js.Goals as goal

told_as : (held : Option Held) (out : List ℕ) (fault arm : ScriptFault) → fault ≡ arm → ReadsScripts held out (Err fault) → ReadsScripts held out (Err arm)
told_as held out fault arm e h = subst (λ (f : ScriptFault). ReadsScripts held out (Err f)) e h

cause_as : (before now : ℕ) (fault arm : ScriptFault) → fault ≡ arm → FaultCause {T = List NamedTree} before now (Err fault) → FaultCause {T = List NamedTree} before now (Err arm)
cause_as before now fault arm e h = subst (λ (f : ScriptFault). FaultCause {T = List NamedTree} before now (Err f)) e h

pub returns-in-Ok : goal.returns-in-Ok
returns-in-Ok g c =
    let old : SourceState = record { files = g.S.Source.files c.args.source.now; faults = g.S.Source.faults c.args.source.now } in
    let new : SourceState = record { files = g.S.Source.files c.read_scripts.new.source; faults = g.S.Source.faults c.read_scripts.new.source } in
    let before : SinkState = record { files = g.K.Sink.files c.args.sink.now; said = g.K.Sink.said c.args.sink.now; faults = g.K.Sink.faults c.args.sink.now } in
    let now : SinkState = record { files = g.K.Sink.files c.run_scripts.new.sink; said = g.K.Sink.said c.run_scripts.new.sink; faults = g.K.Sink.faults c.run_scripts.new.sink } in
    let call : Call = record { words = c.args.words.now; old = old; new = new; before = before; now = now } in
    run_means call c.args.out.now c.args.steps c.args.order.now c.in-Ok.trees c.run_scripts.result c.requires c.in-Ok.ensures.told (same_source old new c.in-Ok.ensures.unchanged c.in-Ok.ensures.cause) c.run_scripts.ensures

pub returns-in-Err-Absent : goal.returns-in-Err-Absent
returns-in-Err-Absent g c =
    let old : SourceState = record { files = g.S.Source.files c.args.source.now; faults = g.S.Source.faults c.args.source.now } in
    let new : SourceState = record { files = g.S.Source.files c.read_scripts.new.source; faults = g.S.Source.faults c.read_scripts.new.source } in
    let before : SinkState = record { files = g.K.Sink.files c.args.sink.now; said = g.K.Sink.said c.args.sink.now; faults = g.K.Sink.faults c.args.sink.now } in
    let now : SinkState = record { files = g.K.Sink.files c.finish.new.sink; said = g.K.Sink.said c.finish.new.sink; faults = g.K.Sink.faults c.finish.new.sink } in
    let call : Call = record { words = c.args.words.now; old = old; new = new; before = before; now = now } in
    absent_means call c.args.out.now c.args.steps c.args.order.now c.refused_line.result c.finish.result c.requires (told_as (g.S.Source.files c.args.source.now) c.args.out.now c.in-Err-Absent.field-0 _ c.in-Err-Absent.field-0-is c.in-Err-Absent.ensures.told) c.in-Err-Absent.ensures.unchanged (cause_as (g.S.Source.faults c.args.source.now) (g.S.Source.faults c.read_scripts.new.source) c.in-Err-Absent.field-0 _ c.in-Err-Absent.field-0-is c.in-Err-Absent.ensures.cause) c.refused_line.ensures c.finish.ensures

pub returns-in-Err-Outside : goal.returns-in-Err-Outside
returns-in-Err-Outside g c =
    let name = string_bytes c.in-Err-Outside.name in
    let at = c.in-Err-Outside.at in
    let old : SourceState = record { files = g.S.Source.files c.args.source.now; faults = g.S.Source.faults c.args.source.now } in
    let new : SourceState = record { files = g.S.Source.files c.read_scripts.new.source; faults = g.S.Source.faults c.read_scripts.new.source } in
    let before : SinkState = record { files = g.K.Sink.files c.args.sink.now; said = g.K.Sink.said c.args.sink.now; faults = g.K.Sink.faults c.args.sink.now } in
    let now : SinkState = record { files = g.K.Sink.files c.finish-in-Err-Outside.new.sink; said = g.K.Sink.said c.finish-in-Err-Outside.new.sink; faults = g.K.Sink.faults c.finish-in-Err-Outside.new.sink } in
    let call : Call = record { words = c.args.words.now; old = old; new = new; before = before; now = now } in
    let line : IfOk c.outside_line.result (λ l. l ≡ outside_line name at) = subst (λ (n : List ℕ). IfOk c.outside_line.result (λ l. l ≡ outside_line n at)) c.as_str.ensures.value c.outside_line.ensures in
    outside_means call c.args.out.now c.args.steps c.args.order.now name at c.outside_line.result c.finish-in-Err-Outside.result c.requires (told_as (g.S.Source.files c.args.source.now) c.args.out.now c.in-Err-Outside.field-0 _ c.in-Err-Outside.field-0-is c.in-Err-Outside.ensures.told) c.in-Err-Outside.ensures.unchanged (cause_as (g.S.Source.faults c.args.source.now) (g.S.Source.faults c.read_scripts.new.source) c.in-Err-Outside.field-0 _ c.in-Err-Outside.field-0-is c.in-Err-Outside.ensures.cause) line c.finish-in-Err-Outside.ensures

pub returns-in-Err-Failed : goal.returns-in-Err-Failed
returns-in-Err-Failed g c =
    let name = string_bytes c.in-Err-Failed.name in
    let old : SourceState = record { files = g.S.Source.files c.args.source.now; faults = g.S.Source.faults c.args.source.now } in
    let new : SourceState = record { files = g.S.Source.files c.read_scripts.new.source; faults = g.S.Source.faults c.read_scripts.new.source } in
    let before : SinkState = record { files = g.K.Sink.files c.args.sink.now; said = g.K.Sink.said c.args.sink.now; faults = g.K.Sink.faults c.args.sink.now } in
    let now : SinkState = record { files = g.K.Sink.files c.finish-in-Err-Failed.new.sink; said = g.K.Sink.said c.finish-in-Err-Failed.new.sink; faults = g.K.Sink.faults c.finish-in-Err-Failed.new.sink } in
    let call : Call = record { words = c.args.words.now; old = old; new = new; before = before; now = now } in
    let line : IfOk c.cannot_line.result (λ l. l ≡ cannot_line name) = subst (λ (n : List ℕ). IfOk c.cannot_line.result (λ l. l ≡ cannot_line n)) c.as_str-in-Err-Failed.ensures.value c.cannot_line.ensures in
    failed_means call c.args.out.now c.args.steps c.args.order.now name c.cannot_line.result c.finish-in-Err-Failed.result c.requires (told_as (g.S.Source.files c.args.source.now) c.args.out.now c.in-Err-Failed.field-0 _ c.in-Err-Failed.field-0-is c.in-Err-Failed.ensures.told) c.in-Err-Failed.ensures.unchanged (cause_as (g.S.Source.faults c.args.source.now) (g.S.Source.faults c.read_scripts.new.source) c.in-Err-Failed.field-0 _ c.in-Err-Failed.field-0-is c.in-Err-Failed.ensures.cause).0 (cause_as (g.S.Source.faults c.args.source.now) (g.S.Source.faults c.read_scripts.new.source) c.in-Err-Failed.field-0 _ c.in-Err-Failed.field-0-is c.in-Err-Failed.ensures.cause).1 line c.finish-in-Err-Failed.ensures
