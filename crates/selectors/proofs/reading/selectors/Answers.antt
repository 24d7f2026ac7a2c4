use Rattle.selectors.proofs.Filed.{program_tables}
use Rattle.selectors.proofs.reading.selectors.Goals as goal

pub new-requires : goal.new-requires
new-requires c = program_tables c.in_ok-tables.tables c.args.files.now c.in_ok-tables.ensures
