-- Parameters, with the metadata before them.
use Rattle.std.specs.Prelude.{ℕ, zero, suc, Bool, true, false, if◌then◌else◌, List, [], ◌∷◌, ◌++◌, length, Option, Some, None}
use Rattle.dart_syntax.specs.declared.words.Word.TheVariants as w
use Rattle.dart_syntax.specs.declared.words.Sign.TheVariants as s
use Rattle.dart_grammar.specs.declared.trees.Span.{Span}
use Rattle.dart_grammar.specs.declared.trees.OptionalParameter.{OptionalParameter}
use Rattle.dart_grammar.specs.declared.trees.OptionalParameter.TheVariants as d
use Rattle.dart_grammar.specs.declared.trees.Parameter.{Parameter}
use Rattle.dart_grammar.specs.declared.trees.Parameters.{Parameters}
use Rattle.dart_grammar.specs.Marks.{Tokens, next_word, next_sign, behind}
use Rattle.dart_grammar.specs.Shapes.{◌>>=◌}
use Rattle.dart_grammar.specs.Trees.{span}
use Rattle.dart_grammar.specs.Grammar.{start}
use Rattle.expr_parser.specs.Cursor.{Parser, Skipper, sign_at, word_at, name_at}
use Rattle.expr_parser.specs.Types.{dotted, past_result}
use Rattle.expr_parser.specs.Inner.{Inner}
use Rattle.expr_parser.specs.Lists.{past_arguments}

-- one name to three, with dots between
unfoldable pub past_metadata_names : Skipper
past_metadata_names ts = do
  x ← dotted ts
  if next_sign s.Dot x.1 then (do y ← name_at (behind x.1); Some y.1) else Some x.1

-- `var` or `final`, if one stands here, and whether it is `final`
abbrev pub finality : Tokens → Bool × Tokens
finality ts =
    if next_word w.Var ts then (false, behind ts)
    else if next_word w.Final ts then (true, behind ts)
    else (false, ts)

-- `this.`, if it stands here
unfoldable pub this_at : Parser (Option Span)
this_at ts =
    if next_word w.This ts then (do p ← word_at w.This ts; q ← sign_at s.Dot p.1; Some (Some p.0, q.1))
    else Some (None, ts)

module _ (g : Inner) where
  -- The number bounds the turns, each of which takes a token.
  unfoldable pub metadata_from : ℕ → Skipper
  metadata_from zero ts = None
  metadata_from (suc n) ts =
      if next_sign s.At ts then (do mid ← past_metadata_names (behind ts); after ← past_arguments g mid; metadata_from n after)
      else Some ts

  -- before a parameter
  unfoldable pub past_metadata : Skipper
  past_metadata ts = metadata_from (length ts) ts

  -- The parameters of a parameter that is a function, and where they end. Without them it ends where its name does.
  unfoldable pub nested_at : ℕ → Parser ℕ
  nested_at j ts = if next_sign s.OpenParen ts then (do x ← g.parameters ts; Some (x.0.span.to, x.1)) else Some (j, ts)

  -- behind the metadata, from where that begins
  unfoldable pub declared_parameter : ℕ → Bool → Parser Parameter
  declared_parameter from is_final ts = do
    late ← past_result ts
    this ← this_at late
    x ← name_at this.1
    j ← nested_at x.0.span.to x.1
    Some (record { span = span from j.0; is_final = is_final; this = this.0; name = x.0 }, j.1)

  unfoldable pub parameter : Parser Parameter
  parameter ts = do
    mid ← past_metadata ts
    declared_parameter (start ts) (finality mid).0 (finality mid).1

  unfoldable pub optional_parameter : Parser OptionalParameter
  optional_parameter ts = do
    x ← parameter ts
    if next_sign s.Assign x.1 then (do a ← g.expr (behind x.1); Some (d.WithDefault x.0 a.0, a.1))
        else Some (d.WithoutDefault x.0, x.1)

  unfoldable pub optional_from : ℕ → List OptionalParameter → Parser (List OptionalParameter)
  optional_from zero found ts = None
  optional_from (suc n) found ts = do
    x ← optional_parameter ts
    if next_sign s.Comma x.1 then optional_from n (found ++ x.0 ∷ []) (behind x.1) else Some (found ++ x.0 ∷ [], x.1)

  -- optional parameters in their brackets
  unfoldable pub optional : Parser (List OptionalParameter)
  optional ts = do
    p ← sign_at s.OpenBracket ts
    xs ← optional_from (length p.1) [] p.1
    q ← sign_at s.CloseBracket xs.1
    Some (xs.0, q.1)

  -- required parameters, and the optional ones behind them
  unfoldable pub parameters_from : ℕ → List Parameter → Parser (List Parameter × List OptionalParameter)
  parameters_from zero found ts = None
  parameters_from (suc n) found ts =
      if next_sign s.OpenBracket ts then (do ys ← optional ts; Some ((found, ys.0), ys.1))
      else (do
        x ← parameter ts
        if next_sign s.Comma x.1 then parameters_from n (found ++ x.0 ∷ []) (behind x.1) else Some ((found ++ x.0 ∷ [], []), x.1))

  unfoldable pub parameters : Parser Parameters
  parameters ts = do
    p ← sign_at s.OpenParen ts
    if next_sign s.CloseParen p.1 then (do
      q ← sign_at s.CloseParen p.1
      Some (record { span = span p.0.from q.0.to; required = []; optional = [] }, q.1))
        else (do
          xs ← parameters_from (length p.1) [] p.1
          q ← sign_at s.CloseParen xs.1
          Some (record { span = span p.0.from q.0.to; required = xs.0.0; optional = xs.0.1 }, q.1))
