use Rattle.std.proofs.Common.{rules, ◌≡◌, codes}
use Rattle.dart_web_cli.proofs.Choices.{with_steps, with_order}
use Rattle.dart_web_cli.proofs.options.one_option.Goals as goal

pub returns-in_ok-steps : goal.returns-in_ok-steps
returns-in_ok-steps c =
    let e : c.args.name.now ≡ codes "--steps" = search rules in
    rw c.new.ensures (with_steps c.args.name.now c.args.word.now _ e c.in_ok-steps.ensures)

pub returns-in_ok-order : goal.returns-in_ok-order
returns-in_ok-order c =
    let e : c.args.name.now ≡ codes "--order" = search rules in
    with_order c.args.name.now c.args.word.now _ e c.in_ok-order.ensures
