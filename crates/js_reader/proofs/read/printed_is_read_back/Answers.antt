use Rattle.std.proofs.Common.{subst}
use Rattle.js_tree.specs.Text.{file_text}
use Rattle.js_tree.specs.Places.{SameTree}
use Rattle.js_tree.proofs.Statements.{text_spelled}
use Rattle.js_reader.proofs.Exact.{one}
use Rattle.js_reader.proofs.read.printed_is_read_back.Goals as goal

pub returns : goal.returns
returns c file other has spelled = let x = text_spelled file has in subst (λ t. SameTree file t) (one (file_text file) x.0 other x.2 spelled) x.1
