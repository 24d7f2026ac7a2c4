use Rattle.class_heads.proofs.Searches.{none_read}
use Rattle.class_heads.proofs.ranks.rank_at.Goals as goal

pub returns-in-None : goal.returns-in-None
returns-in-None c = none_read c.args.ranks.now c.args.class 0 c.in-None.ensures
