use Rattle.std.proofs.Common.{ap, ◌∙◌}
use Rattle.std.specs.Option.{unwrap_or}
use Rattle.std.proofs.lemmas.Option.{unwrap_or-slice_get}
use Rattle.member_tables.proofs.origins.body_of.Goals as goal

pub returns-in-None : goal.returns-in-None
returns-in-None c = ap (λ r. unwrap_or r c.args.class) c.in-None.ensures ∙ unwrap_or-slice_get c.args.origins.now c.args.class c.args.class
