use Rattle.std.proofs.lemmas.List.{set-set}
use Rattle.store_lists.proofs.entries.put_at.Goals as goal

pub returns-in-Some : goal.returns-in-Some
returns-in-Some g c = rw (c.replace-in-Some.ensures.new, c.in-Some.ensures.new, c.in-Some.ensures.old) (set-set _ _ _ _)
