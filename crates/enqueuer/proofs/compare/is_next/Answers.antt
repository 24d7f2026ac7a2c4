use Rattle.std.proofs.Common.{◌<◌, ◌∙◌, sym, subst, length, arith, refl, Vec, Global}
use Rattle.world_state.specs.declared.impact.Impact.{Impact}
use Rattle.enqueuer_core.specs.Least.{IsOneOf}
use Rattle.enqueuer.specs.Lists.{AllOneOf}
use Rattle.enqueuer.proofs.Steps.{at_place}
use Rattle.enqueuer.proofs.compare.is_next.Goals as goal

pub returns-clause-one : goal.returns-clause-one
returns-clause-one g c = λ held.
    let m = g.I.Impacts.meaning c.args._impacts.now in
    let known : c.args.entry.now.worker < length c.args.lists.now = omega arith in
    let all : AllOneOf m c.index-lists-worker.result.items =
    subst (λ (v : Vec Impact Global). AllOneOf m v.items) (sym c.index-lists-worker.is) (c.requires.lists c.args.entry.now.worker c.index-lists-worker.result known) in
    let count = c.index-lists-worker.result.ok.0 in
    let within : c.index-at.result.now < length c.index-lists-worker.result.items = omega (arith, c.if-at-len.false, c.len.ensures, count) in
    let one = at_place m c.index-lists-worker.result.items c.index-at.result.now c.index.result.now all within in
    subst (λ (j : Impact). IsOneOf m j) (sym (c.if-not-is_same_impact.ensures refl ∙ c.index.ensures)) one
