use Rattle.code_units.proofs.TextLaws.{same_units_same_utf8}
use Rattle.code_units.proofs.text.is_text.Goals as goal

pub returns-clause-utf8 : goal.returns-clause-utf8
returns-clause-utf8 c =
    let both = same_units_same_utf8 c.args.units.now c.args.text.now c.type_inv.units c.utf8.text in
    (λ yes. both.0 (c.spell.ensures.0 yes), λ spelled. c.spell.ensures.1 (both.1 spelled))
