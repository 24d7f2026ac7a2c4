use Rattle.std.proofs.Common.{arith, rules, nat_lt}
use Rattle.std.proofs.lemmas.Bool.{ltb-true, ltb-false}
use Rattle.std.proofs.lemmas.List.Sorted.{IsPartitionPoint-from_clause}
use Rattle.world_state.specs.declared.reads.SlotRead.{SlotRead}
use Rattle.world_state.proofs.SlotOrder.{partitioned}
use Rattle.world_state.proofs.reads.place_of.Goals as goal

pub returns-clause-below : goal.returns-clause-below
returns-clause-below c k d less =
    let point = IsPartitionPoint-from_clause (λ (r : SlotRead). nat_lt r.slot c.args.slot) c.args.reads.now c.partition_point.result c.partition_point.ensures.partitioned (partitioned c.args.reads.now c.args.slot c.requires) (λ a r f' called. search rules) in
    ltb-true _ _ (point.0 k d (omega arith) less)

pub returns-clause-above : goal.returns-clause-above
returns-clause-above c k d more within =
    let point = IsPartitionPoint-from_clause (λ (r : SlotRead). nat_lt r.slot c.args.slot) c.args.reads.now c.partition_point.result c.partition_point.ensures.partitioned (partitioned c.args.reads.now c.args.slot c.requires) (λ a r f' called. search rules) in
    ltb-false _ _ (point.1 k d more within)
