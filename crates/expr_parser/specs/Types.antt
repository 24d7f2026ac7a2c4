-- Types, which are read with a counter of open `<`, and what stands before a name that is declared.
use Rattle.std.specs.Prelude.{ℕ, zero, suc, ◌-◌, Bool, true, false, ◌||◌, ◌==◌, if◌then◌else◌, List, [], ◌∷◌, ◌++◌, length, Some, None}
use Rattle.dart_syntax.specs.declared.words.Word.TheVariants as w
use Rattle.dart_syntax.specs.declared.words.Sign.TheVariants as s
use Rattle.dart_grammar.specs.declared.trees.Name.{Name}
use Rattle.dart_grammar.specs.Marks.{next_word, next_sign, behind}
use Rattle.dart_grammar.specs.Shapes.{◌>>=◌, begins_type}
use Rattle.expr_parser.specs.Cursor.{Parser, Skipper, sign_at, name_at}

-- a name, or two with a dot between, and where the last one ends
unfoldable pub dotted : Parser (List Name × ℕ)
dotted ts = do
  x ← name_at ts
  if next_sign s.Dot x.1 then (do y ← name_at (behind x.1); Some ((x.0 ∷ y.0 ∷ [], y.0.span.to), y.1))
      else Some ((x.0 ∷ [], x.0.span.to), x.1)

-- Behind a `<`, of which so many more are open; at a type, or behind one. The first number bounds the turns, each of which
-- takes a token.
unfoldable pub angles_from : ℕ → ℕ → Bool → Parser ℕ
angles_from zero more is_behind ts = None
angles_from (suc n) more false ts = do
  x ← dotted ts
  if next_sign s.Less x.1 then angles_from n (suc more) false (behind x.1) else angles_from n more true x.1
angles_from (suc n) more true ts =
    if next_sign s.Comma ts then angles_from n more false (behind ts)
    else (do
      p ← sign_at s.Greater ts
      if more == 0 then Some (p.0.to, p.1) else angles_from n (more - 1) true p.1)

-- type arguments, and where they end
unfoldable pub type_arguments : Parser ℕ
type_arguments ts = do
  p ← sign_at s.Less ts
  angles_from (length p.1) 0 false p.1

-- a type, and where it ends
unfoldable pub type_at : Parser (List Name × ℕ)
type_at ts = do
  x ← dotted ts
  if next_sign s.Less x.1 then (do j ← type_arguments x.1; Some ((x.0.0, j.0), j.1)) else Some ((x.0.0, x.0.1), x.1)

unfoldable pub past_type_arguments : Skipper
past_type_arguments ts = if next_sign s.Less ts then (do j ← type_arguments ts; Some j.1) else Some ts

-- a type or `void`, where one stands before a name
unfoldable pub past_result : Skipper
past_result ts =
    if next_word w.Void ts then Some (behind ts)
    else if begins_type ts then (do x ← type_at ts; Some x.1)
    else Some ts

-- the type behind `final` or `const`, if there is one
unfoldable pub past_annotation : Skipper
past_annotation ts = if next_word w.Void ts then None else past_result ts

-- what declares variables, and whether they are final
unfoldable pub lead : Parser Bool
lead ts =
    if next_word w.Var ts then Some (false, behind ts)
    else if next_word w.Final ts || next_word w.Const ts then (do rest ← past_annotation (behind ts); Some (true, rest))
    else (do x ← type_at ts; Some (false, x.1))

-- the names behind `new`
unfoldable pub new_names : Parser (List Name)
new_names ts = do
  x ← type_at ts
  if next_sign s.Dot x.1 then (do y ← name_at (behind x.1); Some (x.0.0 ++ y.0 ∷ [], y.1)) else Some (x.0.0, x.1)
