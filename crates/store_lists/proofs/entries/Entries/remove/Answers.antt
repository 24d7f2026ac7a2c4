use native.Mathlib.Omega.{arith}
use mathlib.Core.Path.{sym, ap, ◌∙◌}
use Rattle.std.specs.Map.{lookup, remove_entry}
use Rattle.store_lists.specs.Kept.{kept}
use Rattle.store_lists.proofs.KeptLemmas.{found_within, found_value, emptied_at, kept_gone, kept_absent, count_gone}
use Rattle.store_lists.proofs.entries.Entries.remove.Goals as goal

pub take_at-requires : goal.take_at-requires
take_at-requires g c = found_within g.met.K.Eq.laws _ _ c.self.invariant.0 c.args.key.now _ (sym c.in-Some.ensures.value)

pub invariant_of-self-in-Some : goal.invariant_of-self-in-Some
invariant_of-self-in-Some g c = (
  rw c.take_at.ensures.rest (emptied_at g.met.K.Eq.laws _ _ c.self.invariant.0 c.args.key.now _ (sym c.in-Some.ensures.value) _ c.in-Some.ensures.updates.0),
  rw c.take_at.ensures.rest (let gone = count_gone g.met.K.Eq.laws _ _ c.self.invariant.0 c.args.key.now _ (sym c.in-Some.ensures.value) in let was = c.self.invariant.1 in let len = c.in-Some.ensures.len in omega arith),
)

pub returns-in-None-clause-rest : goal.returns-in-None-clause-rest
returns-in-None-clause-rest g c = sym (kept_absent g.met.K.Eq.laws _ _ c.self.invariant.0 c.args.key.now (sym c.in-None.ensures.value)) ∙ ap (remove_entry (g.K.PartialEq.eq c.args.key.now)) c.self.view_is

pub returns-in-Some-clause-value : goal.returns-in-Some-clause-value
returns-in-Some-clause-value g c = c.take_at.ensures.value ∙ found_value g.met.K.Eq.laws _ _ c.self.invariant.0 c.args.key.now _ (sym c.in-Some.ensures.value) ∙ ap (lookup (g.K.PartialEq.eq c.args.key.now)) c.self.view_is

pub returns-in-Some-clause-rest : goal.returns-in-Some-clause-rest
returns-in-Some-clause-rest g c = ap kept c.take_at.ensures.rest ∙ kept_gone g.met.K.Eq.laws _ _ c.self.invariant.0 c.args.key.now _ (sym c.in-Some.ensures.value) ∙ ap (remove_entry (g.K.PartialEq.eq c.args.key.now)) c.self.view_is
