use Rattle.std.proofs.Common.{◌<◌, ◌/◌, ◌%◌, length, arith, subst}
use Rattle.std.proofs.lemmas.Result.{on_ok_weaker}
use Rattle.type_masks.specs.Masks.{Kinds}
use Rattle.world_state.proofs.InPages.{length_all, page_has, mask_there, kind_there}
use Rattle.world_state.proofs.masks.add_to.Goals as goal

pub index_mut-requires : goal.index_mut-requires
index_mut-requires c = omega (arith, length_all 4096 c.args.tables.now.items c.requires.tables, c.requires.number)

pub add-requires-clause-place : goal.add-requires-clause-place
add-requires-clause-place c =
    let within : c.args.number / 4096 < length c.args.tables.now.items = omega (arith, length_all 4096 c.args.tables.now.items c.requires.tables, c.requires.number) in
    let size = page_has 4096 c.args.tables.now.items (c.args.number / 4096) c.index_mut.result.now c.requires.tables within c.index_mut.ensures.value in
    omega (arith, size)

pub add-requires-clause-kind : goal.add-requires-clause-kind
add-requires-clause-kind c =
    let within : c.args.number / 4096 < length c.args.tables.now.items = omega (arith, length_all 4096 c.args.tables.now.items c.requires.tables, c.requires.number) in
    subst (λ (m : Kinds). c.args.kind < m.bound)
    (mask_there 4096 c.args.tables.now.items c.args.number (c.args.number / 4096) (c.args.number % 4096) c.index_mut.result.now c.requires.tables within (omega arith) (omega arith) c.index_mut.ensures.value)
    c.requires.kind

pub returns-clause-ok : goal.returns-clause-ok
returns-clause-ok c =
    let within : c.args.number / 4096 < length c.args.tables.now.items = omega (arith, length_all 4096 c.args.tables.now.items c.requires.tables, c.requires.number) in
    on_ok_weaker c.add.result
    (λ done. kind_there 4096 c.args.tables.now.items c.args.number (c.args.number / 4096) (c.args.number % 4096) c.args.kind c.index_mut.result.now c.add.new.self c.requires.tables within (omega arith) (omega arith) c.index_mut.ensures.value done)
    c.add.ensures.ok
