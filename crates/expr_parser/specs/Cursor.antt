-- Parsing from a place: what is found, and the tokens behind it.
use Rattle.std.specs.Prelude.{◌≡◌, if◌then◌else◌, [], ◌∷◌, Option, Some, None, Result, Ok, Err}
use Rattle.dart_syntax.specs.declared.words.Word.{Word}
use Rattle.dart_syntax.specs.declared.words.Sign.{Sign}
use Rattle.dart_syntax.specs.declared.tokens.Form.{Form}
use Rattle.dart_syntax.specs.declared.tokens.Form.TheVariants as f
use Rattle.dart_grammar.specs.declared.trees.Span.{Span}
use Rattle.dart_grammar.specs.declared.trees.Name.{Name}
use Rattle.dart_grammar.specs.Marks.{Tokens, is_word, is_sign}
use Rattle.dart_grammar.specs.Trees.{span, name_of}
use Rattle.expr_parser.specs.declared.fault.Fault.{Fault}
use Rattle.expr_parser.specs.declared.fault.Fault.TheVariants.{Memory, NotDerived}

abbrev pub Found : Type 0 → Type 0
Found A = Option (A × Tokens)

abbrev pub Parser : Type 0 → Type 0
Parser A = Tokens → Found A

-- what is read and not kept
abbrev pub Skipper : Type 0
Skipper = Tokens → Option Tokens

-- What a function that parses ensures, seen by view: the parser's answer, unless memory ran out.
abbrev pub Fails : {Y : Type 0} → Fault → Option Y → Type 0
Fails Memory found = Unit {0}
Fails NotDerived found = found ≡ None

abbrev pub Gives : {X Y : Type 0} → (X → Y) → Result X Fault → Option Y → Type 0
Gives view (Ok x) found = found ≡ Some (view x)
Gives view (Err e) found = Fails e found

-- ---- one token, and where it stands

unfoldable pub sign_at : Sign → Parser Span
sign_at x [] = None
sign_at x (t ∷ ts) = if is_sign x t.form then Some (span t.from t.to, ts) else None

unfoldable pub word_at : Word → Parser Span
word_at x [] = None
word_at x (t ∷ ts) = if is_word x t.form then Some (span t.from t.to, ts) else None

abbrev pub name_by : Form → Span → Parser Name
name_by (f.Name x) at ts = Some (name_of x at, ts)
name_by _ at ts = None

unfoldable pub name_at : Parser Name
name_at [] = None
name_at (t ∷ ts) = name_by t.form (span t.from t.to) ts
