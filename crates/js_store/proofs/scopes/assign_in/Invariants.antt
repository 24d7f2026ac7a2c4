use Rattle.std.proofs.Common.{◌≡◌, drop}
use Rattle.js_store.specs.Scopes.{assign}
use Rattle.js_store.proofs.scopes.assign_in.Given as goal

abbrev pub invariant-loop-address : goal.invariant-loop-address
invariant-loop-address l = (l.store ≡ l.fn.store) × (assign l.store (drop l.address-index l.env) l.name l.value ≡ assign l.fn.store l.env l.name l.fn.value) × (l.value ≡ l.fn.value)
