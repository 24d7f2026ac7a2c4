use Rattle.dart_store.proofs.Lookup.{is_named, is_found}
use Rattle.dart_store.proofs.natives.Native.of_name.Goals as goal

pub returns-clause-named : goal.returns-clause-named
returns-clause-named c = is_named c.args.name.now c.find.result c.find.ensures

pub returns-clause-each : goal.returns-clause-each
returns-clause-each c = is_found c.args.name.now c.find.result c.find.ensures
