use Rattle.std.proofs.Common.{◌≡◌, None, ap, sym, ◌∙◌, subst}
use Rattle.outside.specs.InMemory.{held_in}
use Rattle.outside.specs.Places.{IsFirstOf}
use Rattle.outside.proofs.Places.{named_by_units, puts_set, puts_push}
use Rattle.outside.proofs.memory.store.Goals as goal

pub returns-in-Some-clause-puts : goal.returns-in-Some-clause-puts
returns-in-Some-clause-puts c =
    let named = named_by_units c.args.file c.args.name.now c.utf8.name c.requires.named in
    let first : IsFirstOf c.args.files.now.items c.args.name.now c.in-Some.i =
    subst (λ f. IsFirstOf f c.args.name.now c.in-Some.i) c.as_slice.ensures.value c.in-Some.ensures.1 in
    puts_set c.args.file c.args.name.now named c.args.files.now.items c.in-Some.i first

pub returns-in-None-clause-puts : goal.returns-in-None-clause-puts
returns-in-None-clause-puts c =
    let named = named_by_units c.args.file c.args.name.now c.utf8.name c.requires.named in
    let none : held_in c.args.files.now.items c.args.name.now ≡ None = ap (λ f. held_in f c.args.name.now) (sym c.as_slice.ensures.value) ∙ c.in-None.ensures in
    rw c.push_within.ensures.items (puts_push c.args.file c.args.name.now named c.args.files.now.items none)
