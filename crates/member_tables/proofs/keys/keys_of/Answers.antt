use Rattle.std.proofs.Common.{◌≡◌, IfOk, sym, subst}
use Rattle.std.specs.Prelude.{slice_get}
use Rattle.dart_program.specs.Declares.{declared_by_member}
use Rattle.member_tables.specs.Keys.{declared_keys, keys_in}
use Rattle.member_tables.proofs.keys.keys_of.Goals as goal

pub returns-in-Fields : goal.returns-in-Fields
returns-in-Fields c = subst (λ x. IfOk c.field_keys.result (λ keys. keys_in keys ≡ declared_keys c.args.selectors.now c.args.file (slice_get (declared_by_member x) c.args.number))) (sym c.in-Fields.is) c.field_keys.ensures
