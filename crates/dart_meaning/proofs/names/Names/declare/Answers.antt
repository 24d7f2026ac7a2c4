use Rattle.std.proofs.Common.{ap, ◌∙◌}
use Rattle.dart_meaning.specs.Scope as spec
use Rattle.dart_meaning.proofs.Named.{inserted}
use Rattle.dart_meaning.proofs.names.Names.declare.Goals as goal

pub returns : goal.returns
returns c =
    inserted (λ k. k.now) c.self.inside.kinds.entries c.insert.new.self.entries c.args.name c.args.is_text c.is_none.result c.in_ok-before.before c.is_none.ensures c.in_ok-before.ensures.old c.in_ok-before.ensures.entries
    ∙ ap (spec.declare c.args.name.now c.args.is_text) c.self.view_is
