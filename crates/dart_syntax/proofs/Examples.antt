-- The definitions on small files, computed.
use Rattle.std.proofs.Common.{◌≡◌, ℕ, [], ◌∷◌, ◌++◌, Ok, Err, refl}
use Rattle.std.specs.Prelude.{codes}
use Rattle.std.specs.Str.{chars}
use Rattle.dart_syntax.specs.declared.words.Word.TheVariants as w
use Rattle.dart_syntax.specs.declared.words.Sign.TheVariants as s
use Rattle.dart_syntax.specs.declared.tokens.Form.{Form}
use Rattle.dart_syntax.specs.declared.tokens.Form.TheVariants.{Name, Word as Reserved, Number, Sign as Signed, TextOpen, Piece, Enter, Leave, TextClose}
use Rattle.dart_syntax.specs.declared.tokens.Token.{Token}
use Rattle.dart_syntax.specs.declared.rules.Rule.TheVariants.{S2, S3, S4, S5, S6, S7}
use Rattle.dart_syntax.specs.Texts.{escape}
use Rattle.dart_syntax.specs.Reader.{scan, scan_from, code_step, part_step, run, skim, step, word_step, decimal_step, hexadecimal_step, number_step, line_step, comment_step, sign_step, inside}

abbrev at : Form → ℕ → ℕ → Token
at form from to = record { form = form; from = from; to = to }

-- ---- numbers

numbers : scan (codes "9007199254740991 0X1f 007 1.e") ≡ Ok (at (Number 9007199254740991) 0 16 ∷ at (Number 31) 17 21 ∷ at (Number 7) 22 25 ∷ at (Number 1) 26 27 ∷ at (Signed s.Dot) 27 28 ∷ at (Name (codes "e")) 28 29 ∷ [])
unfolding scan scan_from code_step step word_step decimal_step hexadecimal_step number_step sign_step skim
numbers = refl

no_digits : scan (codes "0x") ≡ Ok (at (Number 0) 0 1 ∷ at (Name (codes "x")) 1 2 ∷ [])
unfolding scan scan_from code_step step word_step decimal_step hexadecimal_step number_step sign_step skim
no_digits = refl

large : scan (codes "a 9007199254740992.5") ≡ Err (2, S6)
unfolding scan scan_from code_step step word_step decimal_step hexadecimal_step number_step sign_step skim
large = refl

doubles : (scan (codes "1.5") ≡ Err (0, S7)) × (scan (codes " 1e5") ≡ Err (1, S7)) × (scan (codes "0x1.5") ≡ Err (0, S7)) × (scan (codes "2E") ≡ Err (0, S7))
unfolding scan scan_from code_step step word_step decimal_step hexadecimal_step number_step sign_step skim
doubles = (refl, refl, refl, refl)

-- ---- longest tokens

longest : scan (codes "if ifs~/= >>=$_") ≡ Ok (at (Reserved w.If) 0 2 ∷ at (Name (codes "ifs")) 3 6 ∷ at (Signed s.DivideAssign) 6 9 ∷ at (Signed s.Greater) 10 11 ∷ at (Signed s.GreaterEqual) 11 13 ∷ at (Name (codes "$_")) 13 15 ∷ [])
unfolding scan scan_from code_step step word_step decimal_step hexadecimal_step number_step sign_step skim
longest = refl

unknown : (scan (codes "a&b") ≡ Err (1, S2)) × (scan (codes "~") ≡ Err (0, S2)) × (scan (codes "a/b") ≡ Err (1, S2))
unfolding scan scan_from code_step step word_step decimal_step hexadecimal_step number_step sign_step skim
unknown = (refl, refl, refl)

-- ---- gaps: `//` ends at CR as at LF, and comments nest

lines : scan (codes "a//b" ++ 13 ∷ codes "c//" ++ 10 ∷ codes "d//") ≡ Ok (at (Name (codes "a")) 0 1 ∷ at (Name (codes "c")) 5 6 ∷ at (Name (codes "d")) 9 10 ∷ [])
unfolding scan scan_from code_step step word_step line_step sign_step skim
lines = refl

comments : (scan (codes "/*/**/*/a") ≡ Ok (at (Name (codes "a")) 8 9 ∷ [])) × (scan (codes "a/*/**/") ≡ Err (1, S4)) × (scan (codes "/*/") ≡ Err (0, S4))
unfolding scan scan_from code_step step word_step comment_step sign_step skim inside
comments = (refl, refl, refl)

-- ---- texts

-- 'a${b}'
interpolated : scan (codes "'a${b}'") ≡ Ok (at TextOpen 0 1 ∷ at (Piece (codes "a")) 1 2 ∷ at Enter 2 4 ∷ at (Name (codes "b")) 4 5 ∷ at Leave 5 6 ∷ at (Piece []) 6 6 ∷ at TextClose 6 7 ∷ [])
unfolding scan scan_from code_step part_step run skim step word_step sign_step escape chars
interpolated = refl

-- $a and $this have no brace, and their end takes no byte
named : scan (codes "'$a$this'") ≡ Ok (
    at TextOpen 0 1 ∷ at (Piece []) 1 1 ∷ at Enter 1 2 ∷ at (Name (codes "a")) 2 3 ∷ at Leave 3 3 ∷ at (Piece []) 3 3 ∷ at Enter 3 4 ∷ at (Reserved w.This) 4 8 ∷ at Leave 8 8 ∷ at (Piece []) 8 8 ∷ at TextClose 8 9 ∷ [])
unfolding scan scan_from code_step part_step run skim step word_step sign_step escape chars
named = refl

bad_names : (scan (codes "'$if'") ≡ Err (1, S5)) × (scan (codes "'$1'") ≡ Err (1, S5)) × (scan (codes "'$'") ≡ Err (1, S5)) × (scan (codes "'$$a'") ≡ Err (1, S5))
unfolding scan scan_from code_step part_step run skim step word_step sign_step escape chars
bad_names = (refl, refl, refl, refl)

-- a text in an interpolation of a text, and braces there
nested : scan (codes "'${{'a'}}'") ≡ Ok (
    at TextOpen 0 1 ∷ at (Piece []) 1 1 ∷ at Enter 1 3 ∷ at (Signed s.OpenBrace) 3 4 ∷ at TextOpen 4 5 ∷ at (Piece (codes "a")) 5 6 ∷ at TextClose 6 7 ∷ at (Signed s.CloseBrace) 7 8 ∷ at Leave 8 9 ∷ at (Piece []) 9 9 ∷ at TextClose 9 10 ∷ [])
unfolding scan scan_from code_step part_step run skim step word_step sign_step escape chars
nested = refl

-- \n \x41 \u0042 \u{1F600} \q, and a lone surrogate by \uD83D
escapes : scan (39 ∷ 92 ∷ codes "n" ++ 92 ∷ codes "x41" ++ 92 ∷ codes "u0042" ++ 92 ∷ codes "u{1F600}" ++ 92 ∷ codes "q" ++ 92 ∷ codes "uD83D'")
    ≡ Ok (at TextOpen 0 1 ∷ at (Piece (10 ∷ 65 ∷ 66 ∷ 55357 ∷ 56832 ∷ 113 ∷ 55357 ∷ [])) 1 30 ∷ at TextClose 30 31 ∷ [])
unfolding scan scan_from code_step part_step run skim escape chars
escapes = refl

-- characters that aren't ASCII, one of them behind a backslash: the euro sign, and a face that takes two units
characters : scan (39 ∷ 226 ∷ 130 ∷ 172 ∷ 92 ∷ 240 ∷ 159 ∷ 152 ∷ 128 ∷ 39 ∷ []) ≡ Ok (at TextOpen 0 1 ∷ at (Piece (8364 ∷ 55357 ∷ 56832 ∷ [])) 1 9 ∷ at TextClose 9 10 ∷ [])
unfolding scan scan_from code_step part_step run skim escape chars
characters = refl

-- r'\n' is raw, and so is r"$a"
raw_texts : scan (codes "r'" ++ 92 ∷ codes "n'") ≡ Ok (at TextOpen 0 2 ∷ at (Piece (92 ∷ 110 ∷ [])) 2 4 ∷ at TextClose 4 5 ∷ [])
unfolding scan scan_from code_step part_step run skim escape chars
raw_texts = refl

-- three quotes, at the r of a raw text; behind a text they are another text and a quote
tripled : (scan (codes "a'''b'''") ≡ Err (1, S7)) × (scan (codes "ar'''b'''") ≡ Err (2, S7)) × (scan (codes " r'''b'''") ≡ Err (1, S7))
unfolding scan scan_from code_step part_step run skim step word_step sign_step escape chars
tripled = (refl, refl, refl)

adjacent : scan (codes "'a'''") ≡ Ok (at TextOpen 0 1 ∷ at (Piece (codes "a")) 1 2 ∷ at TextClose 2 3 ∷ at TextOpen 3 4 ∷ at (Piece []) 4 4 ∷ at TextClose 4 5 ∷ [])
unfolding scan scan_from code_step part_step run skim step word_step sign_step escape chars
adjacent = refl

-- ---- the earliest fault

-- 'a\x before a line's end is unclosed at its quote; 'a\x' is bad at its backslash; a raw text is unclosed at its quote
earliest : (scan (codes "'a" ++ 92 ∷ 120 ∷ 10 ∷ []) ≡ Err (0, S3)) × (scan (codes "'a" ++ 92 ∷ codes "x'") ≡ Err (2, S5)) × (scan (codes "r'a") ≡ Err (1, S3))
unfolding scan scan_from code_step part_step run skim step word_step sign_step escape chars
earliest = (refl, refl, refl)

-- "${'} : the outer text is unclosed too; a line's end in an interpolation; a comment over a line's end
outermost : (scan (34 ∷ codes "${'}") ≡ Err (0, S3)) × (scan (codes "'${" ++ 10 ∷ codes "}'") ≡ Err (0, S3)) × (scan (codes "'${/*" ++ 10 ∷ codes "*/}'") ≡ Err (0, S3)) × (scan (codes "'${//}'") ≡ Err (0, S3))
unfolding scan scan_from code_step part_step run skim step word_step line_step comment_step sign_step escape inside chars
outermost = (refl, refl, refl, refl)

-- what is bad in an interpolation is passed over when the text's end is looked for
within : (scan (codes "'${#}'") ≡ Err (3, S2)) × (scan (codes "'${1.5}'") ≡ Err (3, S7)) × (scan (codes "'${'''a'''}'") ≡ Err (3, S7)) × (scan (codes "'${99999999999999999}'") ≡ Err (3, S6))
unfolding scan scan_from code_step part_step run skim step word_step decimal_step hexadecimal_step number_step sign_step escape chars
within = (refl, refl, refl, refl)
