use Rattle.std.specs.Prelude.{◌≡◌, ℕ, Option, Some, None, cond, length, ◌+◌}
use native.Mathlib.Omega.{arith}
use mathlib.Core.Path.{sym, ap, ◌∙◌, subst}
use Rattle.std.specs.HashMap.{hash_map_len}
use Rattle.std.specs.Option.{is_some}
use Rattle.std.specs.Map.{lookup}
use Rattle.indexmap.specs.IndexMap.{insert_entry}
use Rattle.store_lists.specs.Kept.{kept, IsIndexed}
use Rattle.store_lists.proofs.KeptLemmas.{found_within, changed_at, kept_changed, padded, added, kept_added, kept_pad, filled_last, on_err, count_changed, count_added}
use Rattle.store_lists.proofs.entries.Entries.put.Goals as goal

pub put_at-requires : goal.put_at-requires
put_at-requires g c = found_within g.met.K.Eq.laws _ _ c.self.invariant.0 c.args.key _ (sym c.in-Some.ensures.value)

pub invariant_of-self : goal.invariant_of-self
invariant_of-self g c = (
  rw c.put_at.ensures (changed_at g.met.K.Eq.laws _ _ c.self.invariant.0 c.args.key _ (sym c.in-Some.ensures.value) _),
  rw c.put_at.ensures (c.self.invariant.1 ∙ count_changed g.met.K.Eq.laws _ _ c.self.invariant.0 c.args.key _ (sym c.in-Some.ensures.value) _),
)

pub invariant_of-self-in_err-insert-in-None : goal.invariant_of-self-in_err-insert-in-None
invariant_of-self-in_err-insert-in-None g c = (
  subst (λ es. IsIndexed g.K.PartialEq.eq (λ q. lookup (g.K.PartialEq.eq q) es) c.push.new.self) (sym c.in_err-insert-in-None.ensures.err)
      (rw c.in_ok-push-in-None.ensures.ok (padded g.met.K.Eq.laws _ _ c.self.invariant.0)),
  ap length c.in_err-insert-in-None.ensures.err ∙ c.self.invariant.1 ∙ sym (ap (λ xs. length (kept xs)) c.in_ok-push-in-None.ensures.ok ∙ ap length (kept_pad c.self.inside.slots)),
)

pub returns-in_err-insert-in-None-clause-err : goal.returns-in_err-insert-in-None-clause-err
returns-in_err-insert-in-None-clause-err g c = on_err _ (ap kept c.in_ok-push-in-None.ensures.ok ∙ kept_pad c.self.inside.slots ∙ c.self.view_is)

pub invariant_of-self-in-None : goal.invariant_of-self-in-None
invariant_of-self-in-None g c = (
  rw (c.replace.ensures.new, c.in_ok-push-in-None.ensures.ok, c.len-at.ensures, filled_last c.self.inside.slots (Some (c.args.key, c.args.value)) None)
      (added g.met.K.Eq.laws _ _ c.self.invariant.0 c.args.key _ c.args.value (sym c.in-None.ensures.value) (λ p. c.in_ok-insert-in-None.ensures.updates.0 p ∙ ap (λ k. cond (g.K.PartialEq.eq k p) (Some c.len-at.result) (lookup (g.K.PartialEq.eq p) c.self.inside.places.entries)) c.share.ensures ∙ ap (λ n. cond (g.K.PartialEq.eq c.args.key p) (Some n) (lookup (g.K.PartialEq.eq p) c.self.inside.places.entries)) c.len-at.ensures)),
  rw (c.replace.ensures.new, c.in_ok-push-in-None.ensures.ok, c.len-at.ensures, filled_last c.self.inside.slots (Some (c.args.key, c.args.value)) None)
      (let one = count_added c.self.inside.slots (c.args.key, c.args.value) in let was = c.self.invariant.1 in let len = subst (λ (o : Option ℕ). hash_map_len c.insert.new.self ≡ hash_map_len c.self.inside.places + cond (is_some o) 0 1) (c.in_ok-insert-in-None.ensures.old ∙ ap (λ k. lookup (g.K.PartialEq.eq k) c.self.inside.places.entries) c.share.ensures ∙ sym c.in-None.ensures.value) c.in_ok-insert-in-None.ensures.len in omega arith),
)

pub returns-in-Some-clause-ok : goal.returns-in-Some-clause-ok
returns-in-Some-clause-ok g c = ap kept c.put_at.ensures ∙ kept_changed g.met.K.Eq.laws _ _ c.self.invariant.0 c.args.key _ (sym c.in-Some.ensures.value) c.args.value ∙ ap (λ es. insert_entry g.K.PartialEq.eq es c.args.key c.args.value) c.self.view_is

pub returns-in_ok-insert-in-None-clause-ok : goal.returns-in_ok-insert-in-None-clause-ok
returns-in_ok-insert-in-None-clause-ok g c =
    rw (c.replace.ensures.new, c.in_ok-push-in-None.ensures.ok, c.len-at.ensures, filled_last c.self.inside.slots (Some (c.args.key, c.args.value)) None)
    (kept_added g.met.K.Eq.laws _ _ c.self.invariant.0 c.args.key (sym c.in-None.ensures.value) c.args.value ∙ ap (λ es. insert_entry g.K.PartialEq.eq es c.args.key c.args.value) c.self.view_is)
