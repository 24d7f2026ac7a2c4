use Rattle.std.proofs.Common.{◌<◌, ◌/◌, ◌%◌, length, ◌∙◌, sym, arith}
use Rattle.world_state.proofs.InPages.{length_all, page_has, mask_there}
use Rattle.world_state.proofs.page_table.mask_among.Goals as goal

pub bounds-pages-place : goal.bounds-pages-place
bounds-pages-place c = omega (arith, length_all 64 c.args.pages.now c.requires.pages, c.requires.place)

pub mask-requires : goal.mask-requires
mask-requires c =
    let within : c.args.place / 64 < length c.args.pages.now = omega (arith, length_all 64 c.args.pages.now c.requires.pages, c.requires.place) in
    let size = page_has 64 c.args.pages.now (c.args.place / 64) c.index-pages-place.result c.requires.pages within c.index-pages-place.is in
    omega (arith, size)

pub returns : goal.returns
returns c =
    let within : c.args.place / 64 < length c.args.pages.now = omega (arith, length_all 64 c.args.pages.now c.requires.pages, c.requires.place) in
    c.mask.ensures
    ∙ sym (mask_there 64 c.args.pages.now c.args.place (c.args.place / 64) (c.args.place % 64) c.index-pages-place.result c.requires.pages within (omega arith) (omega arith) c.index-pages-place.is)
