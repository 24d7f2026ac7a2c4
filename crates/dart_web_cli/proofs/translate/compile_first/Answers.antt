use Rattle.std.proofs.Common.{rules, ◌≡◌, ◌<◌, ◌^◌, length}
use Rattle.dart_meaning.specs.Program.{IsProgram}
use Rattle.dart_web_cli.specs.Translation.{translation}
use Rattle.dart_web_cli.proofs.Translating.{runs_of}
use Rattle.dart_web_cli.proofs.translate.compile_first.Goals as goal

pub returns : goal.returns
returns c =
    let is : IsProgram c.args.tokens.now c.in-Some.program = search rules in
    let few : length c.args.tokens.now < 2 ^ 64 = search rules in
    let same : c.in_ok-print_file.field-0 ≡ translation c.in-Some.program = search rules in
    (c.in-Some.program, is, same, runs_of c.args.tokens.now c.in-Some.program is few)
