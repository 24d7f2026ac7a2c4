use Rattle.std.proofs.Common.{rules, ◌≡◌, ◌<◌, ◌-◌, length, refl, sym, subst, arith}
use Rattle.std.proofs.lemmas.Option.{slice_get_read}
use Rattle.js_meaning.specs.Prog.{Prog}
use Rattle.js_meaning.specs.Nests.{IsOutcome, at}
use Rattle.js_meaning.proofs.Whole.{last_runs}
use Rattle.js_meaning.proofs.run.main.Goals as goal

pub returns : goal.returns
returns c =
    let some : 0 < length c.args.files.now = c.requires.some in
    let within : length c.args.files.now - 1 < length c.args.files.now = omega (arith, some) in
    subst (λ (p : Prog (Unit {0})). IsOutcome (at p c.args.level.depth c.args.state.now) c.runs.result c.runs.new.state) (sym (last_runs c.args.files.now (length c.args.files.now - 1) c.index-files-last.result refl (slice_get_read c.args.files.now (length c.args.files.now) (length c.args.files.now - 1) c.index-files-last.result refl within c.index-files-last.is))) c.runs.ensures
