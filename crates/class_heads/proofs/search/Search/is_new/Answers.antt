use Rattle.std.proofs.Common.{true, ap}
use Rattle.std.specs.Prelude.{not}
use Rattle.class_heads.proofs.Searches.{none_read}
use Rattle.class_heads.proofs.search.Search.is_new.Goals as goal

pub returns-in-None : goal.returns-in-None
returns-in-None c = ap not (none_read c.args.self.now.is_seen c.args.class true c.in-None.ensures.value)
