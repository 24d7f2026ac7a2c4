use Rattle.std.proofs.Common.{◌≡◌, [], drop}
use Rattle.class_heads.specs.Classes.{last_text}
use Rattle.class_heads.proofs.nodes.last_text.Given as goal

abbrev pub invariant-loop-name : goal.invariant-loop-name
invariant-loop-name l = last_text l.text (drop l.name-index l.names) ≡ last_text [] l.names
