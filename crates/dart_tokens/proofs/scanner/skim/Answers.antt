use Rattle.std.proofs.Common.{length, not, Option, sym, ap, ◌∙◌, arith}
use denote.Ref.{Bor}
use Rattle.dart_syntax.specs.Table.{Bytes}
use Rattle.dart_syntax.specs.Reader as reader
use Rattle.dart_tokens.specs.Answers.{looks_on}
use Rattle.dart_tokens.proofs.Turns.{look_out, look_end, look_none, look_on, look_done}
use Rattle.dart_tokens.proofs.scanner.skim.Goals as goal

pub returns-then-not-in_text : goal.returns-then-not-in_text
returns-then-not-in_text c =
    sym (look_out c.args.count c.loop-turn._turn (length c.args.bytes.now) c.loop-turn.held c.loop-turn.rest.now (reader.skim c.args.count (length c.args.bytes.now) c.args.held.now c.args.bytes.now) c.loop-turn.invariant
    (sym c.if-not-in_text.ensures))

pub returns-then-is_empty : goal.returns-then-is_empty
returns-then-is_empty c =
    sym (look_end c.args.count c.loop-turn._turn (length c.args.bytes.now) c.loop-turn.held c.loop-turn.rest.now (reader.skim c.args.count (length c.args.bytes.now) c.args.held.now c.args.bytes.now) c.loop-turn.invariant
    (sym c.if-not-in_text.ensures) (sym c.if-is_empty.ensures))

pub returns-in-None : goal.returns-in-None
returns-in-None c =
    sym (look_none c.args.count c.loop-turn._turn (length c.args.bytes.now) c.loop-turn.held c.loop-turn.rest.now (reader.skim c.args.count (length c.args.bytes.now) c.args.held.now c.args.bytes.now) c.loop-turn.invariant
    (omega (arith, c.loop-turn-test.true)) (sym c.if-not-in_text.ensures) (sym c.if-is_empty.ensures)
    (λ more. c.in_ok-after.ensures more ∙ ap (λ (o : Option (Bor Bytes)). looks_on o c.look_past.new.held more) c.in-None.is))

pub loop-turn-preserved : goal.loop-turn-preserved
loop-turn-preserved c =
    look_on c.args.count c.loop-turn._turn (length c.args.bytes.now) c.loop-turn.held c.loop-turn.rest.now (reader.skim c.args.count (length c.args.bytes.now) c.args.held.now c.args.bytes.now) c.loop-turn.invariant
    c.look_past.new.held c.in-Some.after.now (omega (arith, c.loop-turn-test.true)) (sym c.if-not-in_text.ensures) (sym c.if-is_empty.ensures)
    (λ more. c.in_ok-after.ensures more ∙ ap (λ (o : Option (Bor Bytes)). looks_on o c.look_past.new.held more) c.in-Some.is)

pub returns : goal.returns
returns c =
    ap not c.in_text-2.ensures
    ∙ sym (look_done c.args.count c.loop-turn._turn (length c.args.bytes.now) c.loop-turn.held c.loop-turn.rest.now (reader.skim c.args.count (length c.args.bytes.now) c.args.held.now c.args.bytes.now) c.loop-turn.invariant
    (omega (arith, c.loop-turn-test.false)))
