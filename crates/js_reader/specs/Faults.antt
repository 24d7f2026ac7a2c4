-- What a fault says, and what holds of trees and tokens of bytes.
use Rattle.std.specs.Prelude.{◌≡◌, ℕ, List, [], ◌∷◌, ◌++◌, length}
use Rattle.js_tree.specs.declared.tree.JsItem.{JsItem}
use Rattle.js_tree.specs.declared.tree.JsFile.{JsFile}
use Rattle.js_tree.specs.Tokens.{Bytes, Token, Tokens, TokensOf}
use Rattle.js_tree.specs.Grammar.{AreItems}
use Rattle.js_tree.specs.Spelling.{IsSpelled, HasSpelling}
use Rattle.js_tree.specs.Text.{file_text}
use Rattle.js_tree.specs.Places.{SameTree}
use Rattle.js_reader.specs.Scanning.{tokens_of}
use Rattle.js_reader.specs.declared.fault.JsFault.{JsFault}
use Rattle.js_reader.specs.declared.fault.JsFault.TheVariants.{NotInProfile, Memory}

-- no tree has these bytes as a spelling
abbrev pub HasNoTree : Bytes → Type 0
HasNoTree bytes = (file : JsFile) → IsSpelled bytes file → ⊥

-- A file begins with these tokens. The others stand at any place: of a place the grammar asks only whether a line ends
-- before it, and between two tokens of bytes a line can end or not.
pub record IsViable (ts : Tokens) : Type 0 where
  pub more : Tokens
  pub items : List JsItem
  pub derived : AreItems [] (ts ++ more) items

-- Where the tokens of a file of this size first leave all files: at the token through which no file begins, or behind the
-- last one, where files begin with all of them.
pub data IsFaultAt (size : ℕ) (ts : Tokens) : ℕ → Type 0 where
  through : (front : Tokens) (t : Token) (rest : Tokens) → ts ≡ front ++ t ∷ rest → IsViable front → (IsViable (front ++ t ∷ []) → ⊥) → IsFaultAt size ts t.place.from
  behind : IsViable ts → IsFaultAt size ts size

abbrev pub IsFaultOf : Bytes → JsFault → Type 0
IsFaultOf bytes (NotInProfile at) = HasNoTree bytes × ((ts : Tokens) → TokensOf bytes ts → IsFaultAt (length bytes) ts at)
IsFaultOf bytes Memory = Unit {0}

-- tokens leave all files at one place alone
abbrev pub OneFault : Type 0
OneFault = (size : ℕ) (ts : Tokens) (at other : ℕ) → IsFaultAt size ts at → IsFaultAt size ts other → at ≡ other

-- bytes have these tokens, and no others
abbrev pub OneTokenList : Type 0
OneTokenList = (bytes : Bytes) → TokensOf bytes (tokens_of (length bytes) bytes) × ((ts : Tokens) → TokensOf bytes ts → ts ≡ tokens_of (length bytes) bytes)

-- bytes are a spelling of at most one tree
abbrev pub OneTree : Type 0
OneTree = (bytes : Bytes) (file other : JsFile) → IsSpelled bytes file → IsSpelled bytes other → file ≡ other

-- what the canonical text of a tree is read as differs from it in places alone
abbrev pub PrintedIsReadBack : Type 0
PrintedIsReadBack = (file other : JsFile) → HasSpelling file → IsSpelled (file_text file) other → SameTree file other
