use mathlib.Core.Path.{sym, ap, ◌∙◌}
use Rattle.std.specs.Map.{lookup}
use Rattle.store_lists.proofs.KeptLemmas.{found_value}
use Rattle.store_lists.proofs.entries.Entries.get.Goals as goal

pub returns-in-Some : goal.returns-in-Some
returns-in-Some g c = c.value_at.ensures ∙ found_value g.met.K.Eq.laws _ _ c.self.invariant.0 c.args.key.now _ (sym c.in-Some.ensures.value) ∙ ap (lookup (g.K.PartialEq.eq c.args.key.now)) c.self.view_is
