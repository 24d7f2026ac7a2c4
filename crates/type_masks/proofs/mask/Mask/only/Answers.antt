use Rattle.std.proofs.Common.{sym, ap, ◌∙◌}
use Rattle.std.proofs.Common.{length, get_or}
use Rattle.type_masks.specs.Masks.{Kinds}
use Rattle.type_masks.proofs.Ascending.{not_only, one_only}
use Rattle.type_masks.proofs.mask.Mask.only.Goals as goal

pub returns-then-kinds-eq1 : goal.returns-then-kinds-eq1
returns-then-kinds-eq1 c =
    sym (ap (λ (m : Kinds). m.set) c.self.view_is)
    ∙ one_only c.self.inside.kinds.items _ (sym (ap length c.as_slice-kinds.ensures) ∙ c.if-kinds-eq1.true) (ap (λ xs. get_or xs 0 0) (sym c.as_slice-kinds.ensures))

pub returns-else-kinds-eq1 : goal.returns-else-kinds-eq1
returns-else-kinds-eq1 c kind is =
    not_only c.self.inside.kinds.items c.self.invariant.1 (λ e. c.if-kinds-eq1.false (ap length c.as_slice-kinds.ensures ∙ e)) kind (ap (λ (m : Kinds). m.set) c.self.view_is ∙ is)
