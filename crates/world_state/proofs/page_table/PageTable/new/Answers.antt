use Rattle.std.proofs.Common.{ap, ◌∙◌}
use Rattle.world_state.specs.Pages.{nothing_below}
use Rattle.world_state.proofs.InPages.{are_alike, all_alike}
use Rattle.world_state.proofs.page_table.PageTable.new.Goals as goal

pub invariant_of-result : goal.invariant_of-result
invariant_of-result c = are_alike 64 64 c.in_ok-new.field-0 _ (ap (λ v. v.items) c.in_ok-new-2.ensures.ok ∙ c.in_ok-pages.ensures) c.in_ok-new.ensures.size

pub returns-clause-empty : goal.returns-clause-empty
returns-clause-empty c =
    all_alike 64 64 c.in_ok-new.field-0 _ (nothing_below c.args.bound) (ap (λ v. v.items) c.in_ok-new-2.ensures.ok ∙ c.in_ok-pages.ensures) c.in_ok-new.ensures.size c.in_ok-new.ensures.empty
