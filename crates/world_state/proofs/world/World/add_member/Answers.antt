use Rattle.std.proofs.Common.{◌<◌, ap, ◌∙◌, sym, subst}
use Rattle.world_state.specs.declared.fact.Fact.TheVariants.{Live}
use Rattle.world_state.specs.Worlds.{Facts, with_fact}
use Rattle.world_state.specs.Pages.{with_kind_at}
use Rattle.world_state.specs.Kept.{facts_in, IsKept}
use Rattle.world_state.proofs.Kept.{live_kept, live_facts}
use Rattle.world_state.proofs.world.World.add_member.Goals as goal

pub invariant_of-self-2 : goal.invariant_of-self-2
invariant_of-self-2 c =
    let room : c.args.member < c.self.inside.shape.members = subst (λ (w : Facts). c.args.member < w.shape.members) (sym c.self.view_is) c.requires in
    subst (IsKept c.self.inside.shape c.self.inside.masks) (sym (c.in_ok-add.ensures.ok ∙ ap (λ n. with_kind_at c.self.inside.live n c.args.member) c.block_of.ensures))
    (live_kept c.self.inside.shape c.self.inside.masks c.self.inside.live c.args.member c.self.invariant room)

pub returns-clause-ok : goal.returns-clause-ok
returns-clause-ok c =
    let room : c.args.member < c.self.inside.shape.members = subst (λ (w : Facts). c.args.member < w.shape.members) (sym c.self.view_is) c.requires in
    ap (facts_in c.self.inside.shape c.self.inside.masks) (c.in_ok-add.ensures.ok ∙ ap (λ n. with_kind_at c.self.inside.live n c.args.member) c.block_of.ensures)
    ∙ live_facts c.self.inside.shape c.self.inside.masks c.self.inside.live c.args.member c.self.invariant room
    ∙ ap (λ (w : Facts). with_fact w (Live c.args.member)) c.self.view_is
