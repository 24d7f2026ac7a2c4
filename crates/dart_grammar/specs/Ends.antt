-- How the places that functions answer stand for lists of tokens.
use Rattle.std.specs.Prelude.{◌≡◌, List, ◌∷◌, Option, Some, None}
use denote.Ref.{Bor}
use Rattle.dart_syntax.specs.declared.tokens.Token.{Token}
use Rattle.dart_grammar.specs.Marks.{Tokens}
use Rattle.dart_grammar.specs.Shapes.{default_end}
use Rattle.dart_grammar.specs.declared.defaults.OpenDefault.{OpenDefault}

-- the tokens at a place, where there is one
abbrev pub seen : Option (Bor (List Token)) → Option Tokens
seen None = None
seen (Some place) = Some place.now

-- where a default ends in which so much is open
abbrev pub end_from : OpenDefault → Tokens → Option Tokens
end_from now ts = default_end now.brackets now.angles now.operand now.typed ts

-- past the token the default goes on, with this open
pub record GoesOn (now : OpenDefault) (token : Token) (next : OpenDefault) : Type 0 where
  pub same : (rest : Tokens) → end_from now (token ∷ rest) ≡ end_from next rest

-- the default ends before the token
pub record EndsAt (now : OpenDefault) (token : Token) : Type 0 where
  pub here : (rest : Tokens) → end_from now (token ∷ rest) ≡ Some (token ∷ rest)
