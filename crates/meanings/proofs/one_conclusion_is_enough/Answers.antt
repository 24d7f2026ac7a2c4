use Rattle.meanings.proofs.Conclusions.{one_conclusion}
use Rattle.meanings.proofs.one_conclusion_is_enough.Goals as goal

pub returns : goal.returns
returns c = one_conclusion
