use Rattle.std.proofs.Common.{true, ◌≡◌, sym, ◌∙◌, ap, arith}
use Rattle.std.specs.Prelude.{decimal}
use Rattle.std.proofs.lemmas.Slice.Eq.{bytes_eq-Decides}
use Rattle.dart_web_cli.proofs.Numbers.{not_parsed, same_number}
use Rattle.dart_web_cli.proofs.options.number_of.Goals as goal

pub returns-in_default : goal.returns-in_default
returns-in_default c n less is = not_parsed n c.args.end c.args.text.now c.ranges.end.fits c.in_default.ensures.value.0 less is

pub returns-then-n-end : goal.returns-then-n-end
returns-then-n-end c n less is =
    let same = same_number c.in-Ok.n n c.args.end c.args.text.now c.ranges.end.fits c.in-Ok.ensures.value.0 less is in omega arith

pub returns-else-eq : goal.returns-else-eq
returns-else-eq c n less is =
    let same = same_number c.in-Ok.n n c.args.end c.args.text.now c.ranges.end.fits c.in-Ok.ensures.value.0 less is in
    let e : c.format.result.now ≡ c.args.text.now = c.format.ensures.text ∙ (ap decimal same ∙ sym is) in
    let d = bytes_eq-Decides c.format.result.now c.args.text.now in
    let equal : c.eq.result ≡ true = c.eq.ensures ∙ d.1 e in cc
