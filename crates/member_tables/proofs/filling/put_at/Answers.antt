use Rattle.std.proofs.Common.{◌∷◌, [], subst}
use Rattle.member_tables.specs.Filling.{AreKeys}
use Rattle.member_tables.proofs.Filled.{is_key}
use Rattle.member_tables.proofs.filling.put_at.Goals as goal

pub with-requires-clause-is_key : goal.with-requires-clause-is_key
with-requires-clause-is_key c = is_key c.args.maps.now c.in-Some.key (subst (λ key. AreKeys c.args.maps.now (key ∷ [])) c.in-Some.is c.requires.are_keys)
