use Rattle.std.proofs.Common.{◌<◌, ◌/◌, ◌%◌, length, ◌∙◌, sym, arith}
use Rattle.world_state.proofs.InPages.{length_all, page_has, mask_there}
use Rattle.world_state.proofs.masks.mask_among.Goals as goal

pub bounds-tables-number : goal.bounds-tables-number
bounds-tables-number c = omega (arith, length_all 4096 c.args.tables.now c.requires.tables, c.requires.number)

pub mask-requires : goal.mask-requires
mask-requires c =
    let within : c.args.number / 4096 < length c.args.tables.now = omega (arith, length_all 4096 c.args.tables.now c.requires.tables, c.requires.number) in
    let size = page_has 4096 c.args.tables.now (c.args.number / 4096) c.index-tables-number.result c.requires.tables within c.index-tables-number.is in
    omega (arith, size)

pub returns : goal.returns
returns c =
    let within : c.args.number / 4096 < length c.args.tables.now = omega (arith, length_all 4096 c.args.tables.now c.requires.tables, c.requires.number) in
    c.mask.ensures
    ∙ sym (mask_there 4096 c.args.tables.now c.args.number (c.args.number / 4096) (c.args.number % 4096) c.index-tables-number.result c.requires.tables within (omega arith) (omega arith) c.index-tables-number.is)
