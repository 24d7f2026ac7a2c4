use Rattle.enqueuer_core.proofs.LeastWorlds.{one_least, derived_in_closed}
use Rattle.enqueuer_core.proofs.laws.least_is_one.Goals as goal

pub returns-clause-one : goal.returns-clause-one
returns-clause-one c = one_least

pub returns-clause-within : goal.returns-clause-within
returns-clause-within c = λ m laws f h v of closed. derived_in_closed m laws v of closed h
