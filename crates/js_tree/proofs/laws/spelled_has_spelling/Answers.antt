use Rattle.js_tree.proofs.Derived.{spelled_has}
use Rattle.js_tree.proofs.laws.spelled_has_spelling.Goals as goal

pub returns : goal.returns
returns c = spelled_has
