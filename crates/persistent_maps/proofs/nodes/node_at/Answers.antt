use Rattle.std.proofs.Common.{sym, ap, ◌∙◌}
use Rattle.std.specs.Option.{unwrap_or}
use Rattle.std.proofs.lemmas.Option.{unwrap_or-slice_get}
use Rattle.persistent_maps.specs.Nodes.{node_at, no_halves}
use Rattle.persistent_maps.proofs.nodes.node_at.Goals as goal

pub returns-in-None-at : goal.returns-in-None-at
returns-in-None-at c = ap (λ o. unwrap_or o no_halves) c.in-None-at.ensures ∙ unwrap_or-slice_get c.args.nodes.now c.in-Some.number no_halves ∙ sym (ap (node_at c.args.nodes.now) c.in-Some.is)
