use Rattle.js_tree.proofs.Statements.{text_spelled}
use Rattle.js_tree.proofs.laws.text_is_spelled.Goals as goal

pub returns : goal.returns
returns c = text_spelled
