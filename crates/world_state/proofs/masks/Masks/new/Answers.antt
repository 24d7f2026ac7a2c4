use Rattle.std.proofs.Common.{arith}
use Rattle.std.proofs.lemmas.Grind.{div_ceil_times}
use Rattle.world_state.specs.Pages.{nothing_below}
use Rattle.world_state.proofs.InPages.{all_alike, count_alike}
use Rattle.world_state.proofs.masks.Masks.new.Goals as goal

pub returns-clause-empty : goal.returns-clause-empty
returns-clause-empty c =
    all_alike 4096 c.div_ceil-tables.result c.in_ok-table.table c.in_ok-repeated.field-0.items (nothing_below c.args.bound) c.in_ok-repeated.ensures c.in_ok-table.ensures.size c.in_ok-table.ensures.empty

pub returns-clause-count : goal.returns-clause-count
returns-clause-count c =
    let count = count_alike 4096 c.div_ceil-tables.result c.in_ok-table.table c.in_ok-repeated.field-0.items c.in_ok-repeated.ensures c.in_ok-table.ensures.size in
    let tables = c.div_ceil-tables.ensures in
    let enough = div_ceil_times c.args.count 4096 (omega arith) in
    omega arith
