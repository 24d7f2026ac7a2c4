-- What holds of spellings.
use Rattle.std.specs.Prelude.{◌≡◌}
use Rattle.js_tree.specs.declared.tree.JsFile.{JsFile}
use Rattle.js_tree.specs.Tokens.{Bytes}
use Rattle.js_tree.specs.Spelling.{IsSpelled, HasSpelling}
use Rattle.js_tree.specs.Text.{file_text}
use Rattle.js_tree.specs.Places.{SameTree}

-- the canonical text of a tree that has a spelling is a spelling of the tree that has the places of this text
abbrev pub TextIsSpelled : Type 0
TextIsSpelled = (file : JsFile) → HasSpelling file → (placed : JsFile) × SameTree file placed × IsSpelled (file_text file) placed

-- a tree that bytes spell has a spelling
abbrev pub SpelledHasSpelling : Type 0
SpelledHasSpelling = (bytes : Bytes) (file : JsFile) → IsSpelled bytes file → HasSpelling file

-- places have no say in the canonical text
abbrev pub PlacesHaveNoSay : Type 0
PlacesHaveNoSay = (file other : JsFile) → SameTree file other → file_text file ≡ file_text other
