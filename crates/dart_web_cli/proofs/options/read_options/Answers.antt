use Rattle.std.proofs.Common.{rules, ◌≡◌, length}
use Rattle.dart_web_cli.proofs.Choices.{reads_none, reads_one, reads_two}
use Rattle.dart_web_cli.proofs.options.read_options.Goals as goal

pub returns-in-2 : goal.returns-in-2
returns-in-2 c = rw c.new.ensures (reads_none c.args.words.now (search rules))

pub returns-in-4 : goal.returns-in-4
returns-in-4 c = reads_one c.args.words.now _ _ c.one_option.result (search rules) c.get.ensures c.get-in-4.ensures c.one_option.ensures

pub returns-in-6 : goal.returns-in-6
returns-in-6 c = reads_two c.args.words.now _ _ _ _ c.two_options.result (search rules) c.get-in-6.ensures c.get-in-6-2.ensures c.get-in-6-3.ensures c.get-in-6-4.ensures c.two_options.ensures
