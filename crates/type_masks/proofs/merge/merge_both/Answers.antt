use Rattle.std.proofs.Common.{arith}
use Rattle.std.proofs.lemmas.List.{drop_all}
use Rattle.type_masks.proofs.Ascending.{merge_ends}
use Rattle.type_masks.proofs.merge.merge_both.Goals as goal

pub returns-else-j-b-clause-items : goal.returns-else-j-b-clause-items
returns-else-j-b-clause-items c = merge_ends _ _ _ _ (drop_all c.loop-i.j c.args.b.now (omega arith)) c.loop-i.invariant.left
