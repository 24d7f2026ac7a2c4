use Rattle.std.proofs.Common.{◌≡◌, ℕ, List, [], length, ◌-◌, sym, subst, arith}
use Rattle.dart_syntax.specs.declared.tokens.Token.{Token}
use Rattle.dart_syntax.specs.Tokens.{Stack}
use Rattle.dart_syntax.specs.Reader.{read, went, scan, scan_from, with_front}
use Rattle.dart_tokens.specs.Answers.{GoesOn}
use Rattle.dart_tokens.proofs.Turns.{begins, scan_on, scan_fails, scan_over, scan_done}
use Rattle.dart_tokens.proofs.scanner.scanned.Goals as goal

pub loop-turn-init : goal.loop-turn-init
loop-turn-init c =
    subst (λ (f : List Token). scan c.args.bytes.now ≡ with_front f (scan_from (length c.args.bytes.now) (length c.args.bytes.now - 0) c.new-held.result c.args.bytes.now)) (sym c.new-found.ensures.items)
    (subst (λ (st : Stack). scan c.args.bytes.now ≡ with_front [] (scan_from (length c.args.bytes.now) (length c.args.bytes.now - 0) st c.args.bytes.now)) (sym c.new-held.ensures) (begins c.args.bytes.now))

pub returns-then-is_empty : goal.returns-then-is_empty
returns-then-is_empty c =
    scan_over (length c.args.bytes.now) c.loop-turn._turn (length c.args.bytes.now) c.loop-turn.held c.loop-turn.rest.now c.loop-turn.found.items (scan c.args.bytes.now) c.loop-turn.invariant
    (sym c.if-is_empty.ensures)

pub returns-in-Err : goal.returns-in-Err
returns-in-Err c =
    scan_fails (length c.args.bytes.now) c.loop-turn._turn (length c.args.bytes.now) c.loop-turn.held c.loop-turn.rest.now c.loop-turn.found.items (scan c.args.bytes.now) c.loop-turn.invariant
    c.take_next.result c.in-Err.e c.take_next.new.found.items c.take_next.new.held c.in-Err.is (omega (arith, c.loop-turn-test.true)) (sym c.if-is_empty.ensures)
    (subst (λ (n : ℕ). GoesOn c.take_next.result c.loop-turn.found.items c.take_next.new.found.items c.take_next.new.held (λ k. went n c.loop-turn.held k (read n c.loop-turn.held c.loop-turn.rest.now))) c.requires c.take_next.ensures)

pub loop-turn-preserved : goal.loop-turn-preserved
loop-turn-preserved c =
    scan_on (length c.args.bytes.now) c.loop-turn._turn (length c.args.bytes.now) c.loop-turn.held c.loop-turn.rest.now c.loop-turn.found.items (scan c.args.bytes.now) c.loop-turn.invariant
    c.take_next.result c.in-Ok.after c.take_next.new.found.items c.take_next.new.held c.in-Ok.is (omega (arith, c.loop-turn-test.true)) (sym c.if-is_empty.ensures)
    (subst (λ (n : ℕ). GoesOn c.take_next.result c.loop-turn.found.items c.take_next.new.found.items c.take_next.new.held (λ k. went n c.loop-turn.held k (read n c.loop-turn.held c.loop-turn.rest.now))) c.requires c.take_next.ensures)

pub returns : goal.returns
returns c =
    scan_done (length c.args.bytes.now) c.loop-turn._turn (length c.args.bytes.now) c.loop-turn.held c.loop-turn.rest.now c.loop-turn.found.items (scan c.args.bytes.now) c.loop-turn.invariant
    (omega (arith, c.loop-turn-test.false))
