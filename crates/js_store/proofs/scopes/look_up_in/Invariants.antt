use Rattle.std.proofs.Common.{◌≡◌, drop}
use Rattle.js_store.specs.Scopes.{look_up}
use Rattle.js_store.proofs.scopes.look_up_in.Given as goal

abbrev pub invariant-loop-address : goal.invariant-loop-address
invariant-loop-address l = look_up l.store (drop l.address-index l.env) l.name ≡ look_up l.store l.env l.name
