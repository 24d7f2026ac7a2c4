use Rattle.std.proofs.Common.{subst}
use Rattle.dart_web_cli.specs.ScriptAnswers.{JudgesScript}
use Rattle.dart_web_cli.proofs.Shards.{script_got}
use Rattle.dart_web_cli.proofs.scripts.read_script.Goals as goal

pub returns-in-Got-clause-told : goal.returns-in-Got-clause-told
returns-in-Got-clause-told g c =
    script_got (g.S.Source.files c.args.source.now) c.args.name.now c.in-Got.bytes c.judge_script.result c.in-Got.ensures.told (subst (λ b. JudgesScript b c.judge_script.result) c.as_slice.ensures c.judge_script.ensures)
