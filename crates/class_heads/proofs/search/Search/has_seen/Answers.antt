use Rattle.std.proofs.Common.{false}
use Rattle.class_heads.proofs.Searches.{none_read}
use Rattle.class_heads.proofs.search.Search.has_seen.Goals as goal

pub returns-in-None : goal.returns-in-None
returns-in-None c = none_read c.args.self.now.is_seen c.args.class false c.in-None.ensures.value
