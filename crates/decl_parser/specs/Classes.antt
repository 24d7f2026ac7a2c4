-- What stands between a class's name and its members.
use Rattle.std.specs.Prelude.{ℕ, zero, suc, Bool, true, false, if◌then◌else◌, List, [], ◌∷◌, ◌++◌, length, Option, Some, None}
use Rattle.dart_syntax.specs.declared.words.Word.TheVariants as w
use Rattle.dart_syntax.specs.declared.words.Sign.TheVariants as s
use Rattle.dart_grammar.specs.declared.trees.Name.{Name}
use Rattle.dart_grammar.specs.Marks.{next_word, next_sign, behind}
use Rattle.dart_grammar.specs.Shapes.{◌>>=◌}
use Rattle.dart_grammar.specs.Declarations.{next_named, abstract_word, implements_word}
pub use Rattle.decl_parser.specs.declared.head.ClassHead.{ClassHead}
use Rattle.expr_parser.specs.Cursor.{Parser, Skipper, sign_at, word_at, name_at}
use Rattle.expr_parser.specs.Types.{type_at}

-- the bound of a type parameter, if it has one
unfoldable pub past_bound : Skipper
past_bound ts = if next_word w.Extends ts then (do x ← type_at (behind ts); Some x.1) else Some ts

-- Behind a `<`, up to and with the `>`. The number bounds the turns, each of which takes a token.
unfoldable pub type_parameters_from : ℕ → List Name → Parser (List Name)
type_parameters_from zero found ts = None
type_parameters_from (suc n) found ts = do
  x ← name_at ts
  mid ← past_bound x.1
  if next_sign s.Comma mid then type_parameters_from n (found ++ x.0 ∷ []) (behind mid)
      else (do q ← sign_at s.Greater mid; Some (found ++ x.0 ∷ [], q.1))

unfoldable pub type_parameters : Parser (List Name)
type_parameters ts = if next_sign s.Less ts then type_parameters_from (length ts) [] (behind ts) else Some ([], ts)

unfoldable pub supertypes_from : ℕ → List (List Name) → Parser (List (List Name))
supertypes_from zero found ts = None
supertypes_from (suc n) found ts = do
  x ← type_at ts
  if next_sign s.Comma x.1 then supertypes_from n (found ++ x.0.0 ∷ []) (behind x.1) else Some (found ++ x.0.0 ∷ [], x.1)

-- types with commas between
unfoldable pub supertypes : Parser (List (List Name))
supertypes ts = supertypes_from (length ts) [] ts

-- behind `extends`: the superclass and the mixins
unfoldable pub extended : Parser (Option (List Name) × List (List Name))
extended ts = do
  x ← type_at ts
  if next_word w.With x.1 then (do ys ← supertypes (behind x.1); Some ((Some x.0.0, ys.0), ys.1)) else Some ((Some x.0.0, []), x.1)

unfoldable pub may_extend : Parser (Option (List Name) × List (List Name))
may_extend ts = if next_word w.Extends ts then extended (behind ts) else Some ((None, []), ts)

unfoldable pub may_implement : Parser (List (List Name))
may_implement ts = if next_named implements_word ts then supertypes (behind ts) else Some ([], ts)

-- `abstract`, if it stands here
abbrev pub may_be_abstract : Parser Bool
may_be_abstract ts = if next_named abstract_word ts then Some (true, behind ts) else Some (false, ts)

unfoldable pub class_head : Parser ClassHead
class_head ts = do
  v ← may_be_abstract ts
  p ← word_at w.Class v.1
  x ← name_at p.1
  xs ← type_parameters x.1
  Some (record { is_abstract = v.0; name = x.0; type_parameters = xs.0 }, xs.1)
