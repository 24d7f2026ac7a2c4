-- Members of a class of a name.
use Rattle.std.specs.Prelude.{ℕ, zero, suc, Bool, true, false, if◌then◌else◌, List, [], ◌∷◌, ◌++◌, length, Option, Some, None}
use Rattle.dart_syntax.specs.declared.words.Word.TheVariants as w
use Rattle.dart_syntax.specs.declared.words.Sign.TheVariants as s
use Rattle.dart_grammar.specs.declared.kinds.DeclarationKind.{DeclarationKind}
use Rattle.dart_grammar.specs.declared.kinds.DeclarationKind.TheVariants as k
use Rattle.dart_grammar.specs.declared.trees.Name.{Name}
use Rattle.dart_grammar.specs.declared.trees.Body.{Body}
use Rattle.dart_grammar.specs.declared.declarations.Member.{Member}
use Rattle.dart_grammar.specs.declared.declarations.Member.TheVariants as m
use Rattle.dart_grammar.specs.declared.declarations.Constructor.{Constructor}
use Rattle.dart_grammar.specs.declared.declarations.Initialiser.{Initialiser}
use Rattle.dart_grammar.specs.declared.declarations.Initialiser.TheVariants as i
use Rattle.dart_grammar.specs.Marks.{Tokens, next_word, next_sign, behind}
use Rattle.dart_grammar.specs.Shapes.{◌>>=◌}
use Rattle.dart_grammar.specs.Trees.{span, name_of, span_of}
use Rattle.dart_grammar.specs.Grammar.{start}
use Rattle.dart_grammar.specs.Declarations.{kind_of, begins_constructor, begins_static}
use Rattle.expr_parser.specs.Cursor.{Parser, sign_at, word_at, name_at}
use Rattle.expr_parser.specs.Inner.{Inner}
use Rattle.expr_parser.specs.Lists.{arguments}
use Rattle.expr_parser.specs.Parameters.{past_metadata}
use Rattle.expr_parser.specs.Statements.{variables}
use Rattle.decl_parser.specs.Bodies.{named_at, body, function, getter, setter, operator_method}

-- the name of a constructor: that of its class, and its own if it has one
unfoldable pub constructor_names : List ℕ → Parser (List Name)
constructor_names name ts = do
  p ← named_at name ts
  if next_sign s.Dot p.1 then (do x ← name_at (behind p.1); Some (name_of name p.0 ∷ x.0 ∷ [], x.1)) else Some (name_of name p.0 ∷ [], p.1)

module _ (g : Inner) where
  -- `name = value`, from where the initialiser begins
  unfoldable pub field : ℕ → Parser Initialiser
  field from ts = do
    x ← name_at ts
    q ← sign_at s.Assign x.1
    a ← g.expr q.1
    Some (i.Field (span from (span_of a.0).to) x.0 a.0, a.1)

  unfoldable pub field_of_this : Parser Initialiser
  field_of_this ts = do
    p ← word_at w.This ts
    q ← sign_at s.Dot p.1
    field p.0.from q.1

  unfoldable pub super_call : Parser Initialiser
  super_call ts = do
    p ← word_at w.Super ts
    if next_sign s.Dot p.1 then (do
      x ← name_at (behind p.1)
      a ← arguments g x.1
      Some (i.Super (span p.0.from a.0.span.to) (Some x.0) a.0, a.1))
        else (do
          a ← arguments g p.1
          Some (i.Super (span p.0.from a.0.span.to) None a.0, a.1))

  unfoldable pub initialiser : Parser Initialiser
  initialiser ts =
      if next_word w.This ts then field_of_this ts
      else if next_word w.Super ts then super_call ts
      else field (start ts) ts

  -- The number bounds the turns, each of which takes a token.
  unfoldable pub initialisers_from : ℕ → List Initialiser → Parser (List Initialiser)
  initialisers_from zero found ts = None
  initialisers_from (suc n) found ts = do
    x ← initialiser ts
    if next_sign s.Comma x.1 then initialisers_from n (found ++ x.0 ∷ []) (behind x.1) else Some (found ++ x.0 ∷ [], x.1)

  unfoldable pub may_initialise : Parser (List Initialiser)
  may_initialise ts = if next_sign s.Colon ts then initialisers_from (length ts) [] (behind ts) else Some ([], ts)

  module _ (native : Bool) where
    -- a body that is no `=>`
    unfoldable pub constructor_body : Parser (Body × ℕ)
    constructor_body ts = if next_sign s.Arrow ts then None else body g native true ts

    unfoldable pub constructor : List ℕ → ℕ → Parser Constructor
    constructor name from ts = do
      xs ← constructor_names name ts
      ps ← g.parameters xs.1
      ys ← may_initialise ps.1
      d ← constructor_body ys.1
      Some (record { span = span from d.0.1; names = xs.0; parameters = ps.0; initialisers = ys.0; body = d.0.0 }, d.1)

    -- by what it is, behind metadata and `static`
    unfoldable pub plain_member_by : DeclarationKind → Bool → ℕ → Parser Member
    plain_member_by k.Function is_static from ts = do x ← function g native true from ts; Some (m.Function is_static x.0, x.1)
    plain_member_by k.Getter is_static from ts = do x ← getter g native true from ts; Some (m.Getter is_static x.0, x.1)
    plain_member_by k.Setter is_static from ts = do x ← setter g native true from ts; Some (m.Setter is_static x.0, x.1)
    plain_member_by k.Variables is_static from ts = do x ← variables g ts; Some (m.Fields is_static (span from x.0.1) x.0.0, x.1)
    plain_member_by k.Operator is_static from ts = None

    -- what isn't static
    unfoldable pub own_member_by : DeclarationKind → ℕ → Parser Member
    own_member_by k.Operator from ts = do x ← operator_method g native from ts; Some (m.Operator x.0, x.1)
    own_member_by kind from ts = plain_member_by kind false from ts

    unfoldable pub member_behind : List ℕ → ℕ → Parser Member
    member_behind name from ts =
        if begins_static name ts then plain_member_by (kind_of (behind ts)) true from (behind ts)
        else if begins_constructor name ts then (do x ← constructor name from ts; Some (m.Constructor x.0, x.1))
        else own_member_by (kind_of ts) from ts

    unfoldable pub member : List ℕ → Parser Member
    member name ts = do
      mid ← past_metadata g ts
      member_behind name (start ts) mid

    -- members up to a `}`; the number bounds the turns, each of which takes a token
    unfoldable pub members_from : List ℕ → ℕ → List Member → Parser (List Member)
    members_from name zero found ts = None
    members_from name (suc n) found ts =
        if next_sign s.CloseBrace ts then Some (found, ts)
        else (do x ← member name ts; members_from name n (found ++ x.0 ∷ []) x.1)

    unfoldable pub members : List ℕ → Parser (List Member)
    members name ts = members_from name (length ts) [] ts
