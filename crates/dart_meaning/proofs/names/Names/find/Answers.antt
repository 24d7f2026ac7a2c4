use Rattle.std.proofs.Common.{sym, ap, ◌∙◌}
use Rattle.dart_meaning.specs.Scope as spec
use Rattle.dart_meaning.proofs.Named.{find_none, find_some}
use Rattle.dart_meaning.proofs.names.Names.find.Goals as goal

pub returns-in_err-place : goal.returns-in_err-place
returns-in_err-place c =
    c.from_residual.ensures
    ∙ sym (ap (spec.find c.args.name.now) (sym c.self.view_is) ∙ find_none (λ k. k.now) c.self.inside.kinds.entries c.args.name.now c.in_err-place.ensures.index)

pub returns : goal.returns
returns c =
    sym (ap (spec.find c.args.name.now) (sym c.self.view_is) ∙ find_some (λ k. k.now) c.self.inside.kinds.entries c.args.name.now c.in_ok-place.place _ c.in_ok-place.ensures.index c.in_ok-place.ensures.entry)
