use Rattle.member_tables.proofs.Named.{keys_are_keys}
use Rattle.member_tables.specs.Keys.{keys_in}
use Rattle.member_tables.proofs.filling.put_member.Goals as goal

pub put_at_each-requires-clause-are_keys : goal.put_at_each-requires-clause-are_keys
put_at_each-requires-clause-are_keys c =
    keys_are_keys c.args.program.now c.args.selectors.now c.in-Some.member.now (keys_in c.in_ok-keys-in-Some.keys) c.args.maps.now c.in_ok-keys-in-Some.ensures c.requires.selectors c.requires.enough
