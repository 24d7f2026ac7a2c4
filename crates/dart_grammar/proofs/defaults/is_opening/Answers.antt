use Rattle.dart_syntax.specs.declared.words.Sign.TheVariants as s
use Rattle.dart_grammar.proofs.AmongSigns.{is_among, is_not_among}
use Rattle.dart_grammar.proofs.defaults.is_opening.Goals as goal

pub returns-in-OpenParen : goal.returns-in-OpenParen
returns-in-OpenParen c = is_among c.args.sign s.OpenParen s.OpenBracket s.OpenBrace c.in-OpenParen.is

pub returns-in_default : goal.returns-in_default
returns-in_default c = is_not_among c.args.sign s.OpenParen s.OpenBracket s.OpenBrace c.in_default.not-OpenParen c.in_default.not-OpenBracket c.in_default.not-OpenBrace
