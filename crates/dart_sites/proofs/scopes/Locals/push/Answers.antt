use Rattle.std.proofs.Common.{Bor, List, ℕ, sym, ap, ◌∙◌}
use Rattle.std.specs.Str.{bytes_eq}
use Rattle.indexmap.specs.IndexMap.{insert_entry}
use Rattle.dart_sites.proofs.Indexed.{new_pushed, old_pushed}
use Rattle.dart_sites.proofs.scopes.Locals.push.Goals as goal

pub invariant_of-self-in-Some : goal.invariant_of-self-in-Some
invariant_of-self-in-Some c =
    old_pushed c.self.inside.places.entries c.self.inside.items c.push.new.self c.args.local c.as_slice-name.result.now _
    (c.as_slice-name.ensures ∙ ap (λ y. y.text) c.get.ensures) (sym c.in-Some.ensures.value) c.in_ok-push-in-Some.ensures.ok c.self.invariant

pub invariant_of-self-in-None : goal.invariant_of-self-in-None
invariant_of-self-in-None c =
    new_pushed c.self.inside.places.entries c.insert.new.self.entries c.self.inside.items c.push-in-None.new.self c.args.local c.as_slice-name.result c.len-at.result
    (c.as_slice-name.ensures ∙ ap (λ y. y.text) c.get.ensures) (sym c.in-None.ensures.value) c.len-at.ensures
    (c.in_ok-insert-in-None.ensures.entries ∙ ap (λ es. insert_entry (λ (a b : Bor (List ℕ)). bytes_eq a.now b.now) es c.as_slice-name.result c.len-at.result) c.in_ok-reserve-in-None.ensures.entries)
    c.in_ok-push-in-None.ensures.ok c.self.invariant
