use Rattle.std.proofs.Common.{rules, ◌≡◌, codes}
use Rattle.dart_web_cli.proofs.Choices.{reads_both, reads_both_turned}
use Rattle.dart_web_cli.proofs.options.two_options.Goals as goal

pub returns-then-eq-2 : goal.returns-then-eq-2
returns-then-eq-2 c =
    let e : c.args.name.now ≡ codes "--steps" = search rules in
    let f : c.args.second.now ≡ codes "--order" = search rules in
    reads_both c.args.name.now c.args.word.now c.args.second.now c.args.other.now c.both.result e f c.both.ensures

pub returns-then-eq-4 : goal.returns-then-eq-4
returns-then-eq-4 c =
    let e : c.args.name.now ≡ codes "--order" = search rules in
    let f : c.args.second.now ≡ codes "--steps" = search rules in
    reads_both_turned c.args.name.now c.args.word.now c.args.second.now c.args.other.now c.both-then-eq-4.result e f c.both-then-eq-4.ensures
