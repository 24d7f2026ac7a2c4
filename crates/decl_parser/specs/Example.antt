-- A file in which each form of files stands, part by part. A part is a function of the tokens behind it.
use Rattle.std.specs.Prelude.{ℕ, true, List, [], ◌∷◌, codes}
use Rattle.dart_syntax.specs.declared.words.Word.{Word}
use Rattle.dart_syntax.specs.declared.words.Word.TheVariants as w
use Rattle.dart_syntax.specs.declared.words.Sign.{Sign}
use Rattle.dart_syntax.specs.declared.words.Sign.TheVariants as s
use Rattle.dart_syntax.specs.declared.tokens.Form.TheVariants as f
use Rattle.dart_syntax.specs.declared.tokens.Token.{Token}
use Rattle.dart_grammar.specs.declared.trees.Span.{Span}
use Rattle.dart_grammar.specs.declared.declarations.FileTree.{FileTree}
use Rattle.dart_grammar.specs.Marks.{Tokens, token, word, sign, ident, as_word}
use Rattle.dart_grammar.specs.Trees.{span}
use Rattle.dart_grammar.specs.Declarations.{library_word, import_word, deferred_word, show_word, hide_word, abstract_word, implements_word, static_word, get_word, set_word, operator_word, native_word, IsFile}

-- where the tokens stand says nothing here
abbrev pub at : Span
at = span 0 0

abbrev pub name : List ℕ → Token
name x = ident x at

abbrev pub key : Word → Token
key x = word x at

abbrev pub mark : Sign → Token
mark x = sign x at

abbrev pub a : Token
a = name (codes "a")

abbrev pub b : Token
b = name (codes "b")

abbrev pub c : Token
c = name (codes "c")

abbrev pub d : Token
d = name (codes "d")

abbrev pub e : Token
e = name (codes "e")

-- `()`
abbrev pub parentheses : Tokens → Tokens
parentheses ts = mark s.OpenParen ∷ mark s.CloseParen ∷ ts

-- `{}`
abbrev pub braces : Tokens → Tokens
braces ts = mark s.OpenBrace ∷ mark s.CloseBrace ∷ ts

-- `''`
abbrev pub quotes : Tokens → Tokens
quotes ts = token f.TextOpen at ∷ token (f.Piece []) at ∷ token f.TextClose at ∷ ts

-- ---- imports

-- `library a.b;`
abbrev pub library_line : Tokens → Tokens
library_line ts = name library_word ∷ a ∷ mark s.Dot ∷ b ∷ mark s.Semicolon ∷ ts

-- `@a import '' as b show c, d hide e;`
abbrev pub import_some : Tokens → Tokens
import_some ts = mark s.At ∷ a ∷ name import_word ∷ quotes (name as_word ∷ b ∷ name show_word ∷ c ∷ mark s.Comma ∷ d ∷ name hide_word ∷ e ∷ mark s.Semicolon ∷ ts)

-- `import '' deferred as b;`
abbrev pub import_later : Tokens → Tokens
import_later ts = name import_word ∷ quotes (name deferred_word ∷ name as_word ∷ b ∷ mark s.Semicolon ∷ ts)

-- `import '';`
abbrev pub import_all : Tokens → Tokens
import_all ts = name import_word ∷ quotes (mark s.Semicolon ∷ ts)

-- ---- members of a class c

-- `var a;`
abbrev pub variables : Tokens → Tokens
variables ts = key w.Var ∷ a ∷ mark s.Semicolon ∷ ts

-- `static b a() => d;`
abbrev pub static_method : Tokens → Tokens
static_method ts = name static_word ∷ b ∷ a ∷ parentheses (mark s.Arrow ∷ d ∷ mark s.Semicolon ∷ ts)

-- `get a;`
abbrev pub abstract_getter : Tokens → Tokens
abstract_getter ts = name get_word ∷ a ∷ mark s.Semicolon ∷ ts

-- `b set a(d) {}`
abbrev pub typed_setter : Tokens → Tokens
typed_setter ts = b ∷ name set_word ∷ a ∷ mark s.OpenParen ∷ d ∷ mark s.CloseParen ∷ braces ts

-- `operator +() native d;`
abbrev pub native_operator : Tokens → Tokens
native_operator ts = name operator_word ∷ mark s.Plus ∷ parentheses (name native_word ∷ d ∷ mark s.Semicolon ∷ ts)

-- `operator` and a sign, `();`
abbrev pub operator_of : Sign → Tokens → Tokens
operator_of x ts = name operator_word ∷ mark x ∷ parentheses (mark s.Semicolon ∷ ts)

-- `operator []();`
abbrev pub index_operator : Tokens → Tokens
index_operator ts = name operator_word ∷ mark s.OpenBracket ∷ mark s.CloseBracket ∷ parentheses (mark s.Semicolon ∷ ts)

-- `operator []=();`
abbrev pub set_index_operator : Tokens → Tokens
set_index_operator ts = name operator_word ∷ mark s.OpenBracket ∷ mark s.CloseBracket ∷ mark s.Assign ∷ parentheses (mark s.Semicolon ∷ ts)

-- `c();`
abbrev pub plain_constructor : Tokens → Tokens
plain_constructor ts = c ∷ parentheses (mark s.Semicolon ∷ ts)

-- `: this.a = b, a = b, super(), super.a()`
abbrev pub initialisers : Tokens → Tokens
initialisers ts =
    mark s.Colon ∷ key w.This ∷ mark s.Dot ∷ a ∷ mark s.Assign ∷ b ∷ mark s.Comma ∷ a ∷ mark s.Assign ∷ b ∷ mark s.Comma
    ∷ key w.Super ∷ parentheses (mark s.Comma ∷ key w.Super ∷ mark s.Dot ∷ a ∷ parentheses ts)

-- `c.a() : .. {}`
abbrev pub named_constructor : Tokens → Tokens
named_constructor ts = c ∷ mark s.Dot ∷ a ∷ parentheses (initialisers (braces ts))

abbrev pub members : Tokens → Tokens
members ts =
    variables (static_method (abstract_getter (typed_setter (native_operator (operator_of s.Minus (operator_of s.Times (operator_of s.Divide (operator_of s.Modulo
    (operator_of s.Less (operator_of s.Greater (operator_of s.LessEqual (operator_of s.GreaterEqual (index_operator (set_index_operator
    (plain_constructor (named_constructor ts))))))))))))))))

-- ---- declarations

-- `abstract class c<a extends b, d> extends b with d, e implements b { .. }`
abbrev pub long_class : Tokens → Tokens
long_class ts =
    name abstract_word ∷ key w.Class ∷ c ∷ mark s.Less ∷ a ∷ key w.Extends ∷ b ∷ mark s.Comma ∷ d ∷ mark s.Greater
    ∷ key w.Extends ∷ b ∷ key w.With ∷ d ∷ mark s.Comma ∷ e ∷ name implements_word ∷ b ∷ mark s.OpenBrace ∷ members (mark s.CloseBrace ∷ ts)

-- `class d extends b {}`
abbrev pub derived_class : Tokens → Tokens
derived_class ts = key w.Class ∷ d ∷ key w.Extends ∷ b ∷ braces ts

-- `class e {}`
abbrev pub short_class : Tokens → Tokens
short_class ts = key w.Class ∷ e ∷ braces ts

-- `class a = b with e;`
abbrev pub alias : Tokens → Tokens
alias ts = key w.Class ∷ a ∷ mark s.Assign ∷ b ∷ key w.With ∷ e ∷ mark s.Semicolon ∷ ts

-- `a() {}`
abbrev pub function : Tokens → Tokens
function ts = a ∷ parentheses (braces ts)

-- `get b {}`
abbrev pub getter : Tokens → Tokens
getter ts = name get_word ∷ b ∷ braces ts

-- `set b(d) {}`
abbrev pub setter : Tokens → Tokens
setter ts = name set_word ∷ b ∷ mark s.OpenParen ∷ d ∷ mark s.CloseParen ∷ braces ts

abbrev pub declarations : Tokens
declarations = long_class (derived_class (short_class (alias (function (getter (setter (variables [])))))))

abbrev pub each_form : Tokens
each_form = library_line (import_some (import_later (import_all declarations)))

-- It is a file, and so no form of the grammar is empty.
abbrev pub EachFormStands : Type 0
EachFormStands = (tree : FileTree) × IsFile true each_form tree
