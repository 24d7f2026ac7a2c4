use Rattle.std.proofs.Common.{sym, ap, ◌∙◌, false}
use Rattle.js_reader.specs.Scanning as spec
use Rattle.js_reader.proofs.Fronts.{line_ends_here}
use Rattle.js_reader.proofs.bytes.line_ends.Goals as goal

pub returns-then-ends_line : goal.returns-then-ends_line
returns-then-ends_line c =
    sym (line_ends_here c.in-Some.b c.in-Some.more.now (sym c.is_blank.ensures ∙ c.if-not-is_blank.false) (sym c.ends_line.ensures ∙ c.if-ends_line.true))
    ∙ (ap (spec.line_ends false) (sym c.in-Some.ensures) ∙ c.gap.invariant)
