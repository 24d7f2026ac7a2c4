use Rattle.std.proofs.Common.{◌≡◌, ℕ, ◌≤◌, List, refl, ◌∙◌, ap, subst, inl, inr, arith}
use Rattle.outside.specs.Outside.{Told, Puts}
use Rattle.dart_web_cli.specs.declared.top.Status.TheVariants.{Refused, ReadFault}
use Rattle.dart_web_cli.specs.Answers.{refused_line, cannot_line}
use Rattle.dart_web_cli.specs.TopCall.{SourceState, SinkState, Call, IsRefused, IsReadFault}
use Rattle.dart_web_cli.proofs.Finished.{finished}
use Rattle.dart_web_cli.proofs.top.compile.Goals as goal

le_of : {m n : ℕ} → m ≡ n → n ≤ m
le_of e = omega (arith, e)

-- a source that told the same and had no fault
same_source : (old new : SourceState) → new.files ≡ old.files → new.faults ≡ old.faults → new ≡ old
same_source old new files faults = λ i. record { files = files i; faults = faults i }

pub returns-in-Ok : goal.returns-in-Ok
returns-in-Ok g c =
    let told = c.in-Translated.ensures.told in
    let old : SourceState = record { files = g.S.Source.files c.args.source.now; faults = g.S.Source.faults c.args.source.now } in
    let new : SourceState = record { files = g.S.Source.files c.load.new.source; faults = g.S.Source.faults c.load.new.source } in
    inl (record {
      entry = c.args.entry.now;
      out = c.args.out.now;
      program = told.0;
      compiled = record {
        command = c.requires;
        fine = told.3;
        runs = told.2 c.args.out.now;
        source = same_source old new c.in-Translated.ensures.unchanged c.in-Translated.ensures.cause;
      };
      put = record {
        files = subst (λ (bytes : List ℕ). Told (g.K.Sink.files c.args.sink.now) (g.K.Sink.files c.put.new.self) (Puts c.args.out.now bytes)) (c.as_slice.ensures ∙ told.1) c.in-Ok.ensures.ok;
        said = c.in-Ok.ensures.said;
        faults = c.in-Ok.ensures.cause.kept;
      };
    })

pub returns-in-Translated : goal.returns-in-Translated
returns-in-Translated g c =
    let told = c.in-Translated.ensures.told in
    let old : SourceState = record { files = g.S.Source.files c.args.source.now; faults = g.S.Source.faults c.args.source.now } in
    let new : SourceState = record { files = g.S.Source.files c.load.new.source; faults = g.S.Source.faults c.load.new.source } in
    inl (record {
      entry = c.args.entry.now;
      out = c.args.out.now;
      program = told.0;
      compiled = record {
        command = c.requires;
        fine = told.3;
        runs = told.2 c.args.out.now;
        source = same_source old new c.in-Translated.ensures.unchanged c.in-Translated.ensures.cause;
      };
      spoils = record {
        files = c.in-Err.ensures.err;
        said = c.in-Err.ensures.said;
        later = c.in-Err.ensures.cause.later;
        rose = c.in-Err.ensures.cause.failed;
      };
    })

pub returns-in-Broken : goal.returns-in-Broken
returns-in-Broken g c =
    let entry = c.args.entry.now in
    let rule = c.in-Broken.rule in
    let at = c.in-Broken.at in
    let old : SourceState = record { files = g.S.Source.files c.args.source.now; faults = g.S.Source.faults c.args.source.now } in
    let new : SourceState = record { files = g.S.Source.files c.load.new.source; faults = g.S.Source.faults c.load.new.source } in
    let before : SinkState = record { files = g.K.Sink.files c.args.sink.now; said = g.K.Sink.said c.args.sink.now; faults = g.K.Sink.faults c.args.sink.now } in
    let now : SinkState = record { files = g.K.Sink.files c.finish.new.sink; said = g.K.Sink.said c.finish.new.sink; faults = g.K.Sink.faults c.finish.new.sink } in
    let call : Call = record { words = c.args.words.now; old = old; new = new; before = before; now = now } in
    let same = same_source old new c.in-Broken.ensures.unchanged c.in-Broken.ensures.cause in
    let why : IsRefused call (refused_line rule entry at) = record {
      entry = entry;
      out = c.args.out.now;
      rule = rule;
      at = at;
      command = c.requires;
      broken = c.in-Broken.ensures.told;
      source = same;
      line_is = refl;
    } in
    finished call Refused c.refused_line.result c.finish.result (refused_line rule entry at) c.refused_line.ensures
    (λ says. (refused_line rule entry at, inl why, says))
    (λ front. inr (record { line = refused_line rule entry at; cause = inr (inl why); front = front }))
    (λ stays. inl (record { files = ap (λ s. s.files) same; later = le_of (ap (λ s. s.faults) same); sink = stays }))
    c.finish.ensures

pub returns-in-Failed : goal.returns-in-Failed
returns-in-Failed g c =
    let entry = c.args.entry.now in
    let old : SourceState = record { files = g.S.Source.files c.args.source.now; faults = g.S.Source.faults c.args.source.now } in
    let new : SourceState = record { files = g.S.Source.files c.load.new.source; faults = g.S.Source.faults c.load.new.source } in
    let before : SinkState = record { files = g.K.Sink.files c.args.sink.now; said = g.K.Sink.said c.args.sink.now; faults = g.K.Sink.faults c.args.sink.now } in
    let now : SinkState = record { files = g.K.Sink.files c.finish-in-Failed.new.sink; said = g.K.Sink.said c.finish-in-Failed.new.sink; faults = g.K.Sink.faults c.finish-in-Failed.new.sink } in
    let call : Call = record { words = c.args.words.now; old = old; new = new; before = before; now = now } in
    let why : IsReadFault call (cannot_line entry) = record {
      entry = entry;
      out = c.args.out.now;
      command = c.requires;
      files = c.in-Failed.ensures.unchanged;
      later = c.in-Failed.ensures.cause.0;
      rose = c.in-Failed.ensures.cause.1;
      line_is = refl;
    } in
    finished call ReadFault c.cannot_line.result c.finish-in-Failed.result (cannot_line entry) c.cannot_line.ensures
    (λ says. (cannot_line entry, inl why, says))
    (λ front. inr (record { line = cannot_line entry; cause = inr (inr (inl why)); front = front }))
    (λ stays. inl (record { files = c.in-Failed.ensures.unchanged; later = c.in-Failed.ensures.cause.0; sink = stays }))
    c.finish-in-Failed.ensures
