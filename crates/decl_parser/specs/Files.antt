-- Declarations, imports and files.
use Rattle.std.specs.Prelude.{ℕ, zero, suc, Bool, true, false, if◌then◌else◌, ◌||◌, List, [], ◌∷◌, ◌++◌, length, Option, Some, None}
use Rattle.dart_syntax.specs.declared.words.Word.TheVariants as w
use Rattle.dart_syntax.specs.declared.words.Sign.TheVariants as s
use Rattle.dart_syntax.specs.declared.tokens.Form.{Form}
use Rattle.dart_syntax.specs.declared.tokens.Form.TheVariants as f
use Rattle.dart_grammar.specs.declared.kinds.DeclarationKind.{DeclarationKind}
use Rattle.dart_grammar.specs.declared.kinds.DeclarationKind.TheVariants as k
use Rattle.dart_grammar.specs.declared.trees.Span.{Span}
use Rattle.dart_grammar.specs.declared.trees.Name.{Name}
use Rattle.dart_grammar.specs.declared.declarations.FileTree.{FileTree}
use Rattle.dart_grammar.specs.declared.declarations.Import.{Import}
use Rattle.dart_grammar.specs.declared.declarations.Combinator.{Combinator}
use Rattle.dart_grammar.specs.declared.declarations.Declaration.{Declaration}
use Rattle.dart_grammar.specs.declared.declarations.Declaration.TheVariants as d
use Rattle.dart_grammar.specs.Marks.{Tokens, as_word, next_word, next_sign, behind}
use Rattle.dart_grammar.specs.Shapes.{◌>>=◌}
use Rattle.dart_grammar.specs.Trees.{span}
use Rattle.dart_grammar.specs.Grammar.{start}
use Rattle.dart_grammar.specs.Declarations.{next_named, import_word, deferred_word, show_word, hide_word, kind_of, begins_class, begins_import, begins_library}
use Rattle.expr_parser.specs.Cursor.{Parser, Skipper, sign_at, word_at, name_at}
use Rattle.expr_parser.specs.Types.{type_at}
use Rattle.expr_parser.specs.Inner.{Inner}
use Rattle.expr_parser.specs.Knot.{inner_at}
use Rattle.expr_parser.specs.Parameters.{past_metadata}
use Rattle.expr_parser.specs.Statements.{variables}
use Rattle.expr_parser.specs.Texts.{piece, text_close}
use Rattle.decl_parser.specs.Bodies.{named_at, function, getter, setter}
use Rattle.decl_parser.specs.Classes.{ClassHead, supertypes, may_extend, may_implement, class_head}
use Rattle.decl_parser.specs.Members.{members}

-- ---- classes

-- behind the `=` of an alias, whose metadata begins at `from`
unfoldable pub alias : ClassHead → ℕ → Parser Declaration
alias h from ts = do
  y ← type_at ts
  p ← word_at w.With y.1
  ys ← supertypes p.1
  zs ← may_implement ys.1
  q ← sign_at s.Semicolon zs.1
  Some (d.Alias (record { span = span from q.0.to; is_abstract = h.is_abstract; name = h.name; type_parameters = h.type_parameters; superclass = y.0.0; mixins = ys.0; interfaces = zs.0 }), q.1)

-- ---- imports

abbrev pub opens_text : Form → Span → Parser Span
opens_text f.TextOpen at ts = Some (at, ts)
opens_text _ at ts = None

-- what opens a text
unfoldable pub text_open : Parser Span
text_open [] = None
text_open (t ∷ ts) = opens_text t.form (span t.from t.to) ts

-- a text with no interpolation: what it stands for, and where it stands
unfoldable pub plain_text : Parser (List ℕ × Span)
plain_text ts = do
  p ← text_open ts
  us ← piece p.1
  j ← text_close us.1
  Some ((us.0, span p.0.from j.0), j.1)

-- whether an import is deferred, and its prefix if it has one
unfoldable pub may_have_prefix : Parser (Bool × Option Name)
may_have_prefix ts =
    if next_named deferred_word ts then (do p ← named_at as_word (behind ts); x ← name_at p.1; Some ((true, Some x.0), x.1))
    else if next_named as_word ts then (do x ← name_at (behind ts); Some ((false, Some x.0), x.1))
    else Some ((false, None), ts)

-- The number bounds the turns, each of which takes a token.
unfoldable pub names_from : ℕ → List Name → Parser (List Name)
names_from zero found ts = None
names_from (suc n) found ts = do
  x ← name_at ts
  if next_sign s.Comma x.1 then names_from n (found ++ x.0 ∷ []) (behind x.1) else Some (found ++ x.0 ∷ [], x.1)

-- the names behind `show` or `hide`
unfoldable pub combinator : Bool → Parser Combinator
combinator hides ts = do
  xs ← names_from (length ts) [] ts
  Some (record { hides = hides; names = xs.0 }, xs.1)

unfoldable pub combinators_from : ℕ → List Combinator → Parser (List Combinator)
combinators_from zero found ts = None
combinators_from (suc n) found ts =
    if next_named show_word ts || next_named hide_word ts then (do
      c ← combinator (next_named hide_word ts) (behind ts)
      combinators_from n (found ++ c.0 ∷ []) c.1)
    else Some (found, ts)

-- behind the name of a library, with its `;`
unfoldable pub library_name_from : ℕ → Skipper
library_name_from zero ts = None
library_name_from (suc n) ts = do
  x ← name_at ts
  if next_sign s.Dot x.1 then library_name_from n (behind x.1) else (do q ← sign_at s.Semicolon x.1; Some q.1)

-- behind the line that names the library, if there is one
unfoldable pub past_library : Skipper
past_library ts = if begins_library ts then library_name_from (length ts) (behind ts) else Some ts

module _ (g : Inner) where
  unfoldable pub import : Parser Import
  import ts = do
    mid ← past_metadata g ts
    p ← named_at import_word mid
    u ← plain_text p.1
    x ← may_have_prefix u.1
    cs ← combinators_from (length x.1) [] x.1
    q ← sign_at s.Semicolon cs.1
    Some (record { span = span (start ts) q.0.to; uri = u.0.0; uri_span = u.0.1; is_deferred = x.0.0; prefix = x.0.1; combinators = cs.0 }, q.1)

  -- imports, as long as one begins here
  unfoldable pub imports_from : ℕ → List Import → Parser (List Import)
  imports_from zero found ts = Some (found, ts)
  imports_from (suc n) found ts = if begins_import ts then (do x ← import ts; imports_from n (found ++ x.0 ∷ []) x.1) else Some (found, ts)

  module _ (native : Bool) where
    -- a class that is no alias, behind its head
    unfoldable pub full_class : ClassHead → ℕ → Parser Declaration
    full_class h from ts = do
      y ← may_extend ts
      zs ← may_implement y.1
      p ← sign_at s.OpenBrace zs.1
      ms ← members g native h.name.text p.1
      q ← sign_at s.CloseBrace ms.1
      Some (d.Class (record { span = span from q.0.to; is_abstract = h.is_abstract; name = h.name; type_parameters = h.type_parameters; superclass = y.0.0; mixins = y.0.1; interfaces = zs.0; members = ms.0 }), q.1)

    unfoldable pub class : ℕ → Parser Declaration
    class from ts = do
      h ← class_head ts
      if next_sign s.Assign h.1 then alias h.0 from (behind h.1) else full_class h.0 from h.1

    -- a declaration that begins no class, by what it is
    unfoldable pub declaration_by : DeclarationKind → ℕ → Parser Declaration
    declaration_by k.Function from ts = do x ← function g native false from ts; Some (d.Function x.0, x.1)
    declaration_by k.Getter from ts = do x ← getter g native false from ts; Some (d.Getter x.0, x.1)
    declaration_by k.Setter from ts = do x ← setter g native false from ts; Some (d.Setter x.0, x.1)
    declaration_by k.Variables from ts = do x ← variables g ts; Some (d.Variables (span from x.0.1) x.0.0, x.1)
    declaration_by k.Operator from ts = None

    unfoldable pub declaration : Parser Declaration
    declaration ts = do
      mid ← past_metadata g ts
      if begins_class mid then class (start ts) mid else declaration_by (kind_of mid) (start ts) mid

    -- declarations, to the end
    unfoldable pub declarations_from : ℕ → List Declaration → Tokens → Option (List Declaration)
    declarations_from n found [] = Some found
    declarations_from zero found (t ∷ ts) = None
    declarations_from (suc n) found (t ∷ ts) = do
      x ← declaration (t ∷ ts)
      declarations_from n (found ++ x.0 ∷ []) x.1

    unfoldable pub file : Tokens → Option FileTree
    file ts = do
      mid ← past_library ts
      xs ← imports_from (length mid) [] mid
      ys ← declarations_from (length xs.1) [] xs.1
      Some (record { imports = xs.0; declarations = ys })

-- The tree of a file's tokens. What nests in it nests no deeper than there are tokens.
abbrev pub file_at : Bool → Tokens → Option FileTree
file_at native ts = file (inner_at (length ts)) native ts
