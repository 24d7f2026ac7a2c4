use Rattle.js_tree.proofs.SameText.{no_say}
use Rattle.js_tree.proofs.laws.places_have_no_say.Goals as goal

pub returns : goal.returns
returns c = no_say
