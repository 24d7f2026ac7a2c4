-- Texts, with what is interpolated.
use Rattle.std.specs.Prelude.{ℕ, zero, suc, Bool, true, false, if◌then◌else◌, List, [], ◌∷◌, ◌++◌, length, Some, None}
use Rattle.dart_syntax.specs.declared.tokens.Form.{Form}
use Rattle.dart_syntax.specs.declared.tokens.Form.TheVariants as f
use Rattle.dart_grammar.specs.declared.trees.Interpolation.{Interpolation}
use Rattle.dart_grammar.specs.Marks.{is_text_open, next, behind}
use Rattle.dart_grammar.specs.Shapes.{◌>>=◌}
use Rattle.dart_grammar.specs.Trees.{first_of, parts_of}
use Rattle.expr_parser.specs.declared.texts.Merged.{Merged}
use Rattle.expr_parser.specs.Cursor.{Parser, Skipper}
use Rattle.expr_parser.specs.Inner.{Inner}

abbrev pub is_enter : Form → Bool
is_enter f.Enter = true
is_enter _ = false

abbrev pub leave_by : Form → Skipper
leave_by f.Leave ts = Some ts
leave_by _ ts = None

-- behind the end of an interpolation
unfoldable pub past_leave : Skipper
past_leave [] = None
past_leave (t ∷ ts) = leave_by t.form ts

abbrev pub piece_by : Form → Parser (List ℕ)
piece_by (f.Piece us) ts = Some (us, ts)
piece_by _ ts = None

unfoldable pub piece : Parser (List ℕ)
piece [] = None
piece (t ∷ ts) = piece_by t.form ts

abbrev pub close_by : Form → ℕ → Parser ℕ
close_by f.TextClose j ts = Some (j, ts)
close_by _ j ts = None

-- the end of a text, and where it ends
unfoldable pub text_close : Parser ℕ
text_close [] = None
text_close (t ∷ ts) = close_by t.form t.to ts

-- two texts, the one behind the other, as one
abbrev pub merged : Merged → Merged → Merged
merged x y = record { first = first_of x.first x.parts y.first; parts = parts_of x.parts y.first y.parts; to = y.to }

module _ (g : Inner) where
  -- an interpolation, and the piece behind it
  unfoldable pub interpolation : Parser Interpolation
  interpolation ts = do
    a ← g.expr ts
    mid ← past_leave a.1
    us ← piece mid
    Some (record { value = a.0; behind = us.0 }, us.1)

  -- interpolations up to the text's end; the number bounds the turns, each of which takes a token
  unfoldable pub parts_from : ℕ → List Interpolation → Parser (List Interpolation × ℕ)
  parts_from zero found ts = None
  parts_from (suc n) found ts =
      if next is_enter ts then (do x ← interpolation (behind ts); parts_from n (found ++ x.0 ∷ []) x.1)
      else (do j ← text_close ts; Some ((found, j.0), j.1))

  -- behind what opens the text
  unfoldable pub text : Parser Merged
  text ts = do
    us ← piece ts
    ps ← parts_from (length us.1) [] us.1
    Some (record { first = us.0; parts = ps.0.0; to = ps.0.1 }, ps.1)

  unfoldable pub texts_from : ℕ → Merged → Parser Merged
  texts_from zero found ts = None
  texts_from (suc n) found ts =
      if next is_text_open ts then (do x ← text (behind ts); texts_from n (merged found x.0) x.1) else Some (found, ts)

  -- one text or more
  unfoldable pub texts : Parser Merged
  texts ts = do
    x ← text (behind ts)
    texts_from (length ts) x.0 x.1
