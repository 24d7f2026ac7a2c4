use Rattle.dart_syntax.specs.declared.words.Sign.TheVariants as s
use Rattle.dart_grammar.proofs.AmongSigns.{is_among, is_not_among}
use Rattle.dart_grammar.proofs.defaults.is_closing.Goals as goal

pub returns-in-CloseParen : goal.returns-in-CloseParen
returns-in-CloseParen c = is_among c.args.sign s.CloseParen s.CloseBracket s.CloseBrace c.in-CloseParen.is

pub returns-in_default : goal.returns-in_default
returns-in_default c = is_not_among c.args.sign s.CloseParen s.CloseBracket s.CloseBrace c.in_default.not-CloseParen c.in_default.not-CloseBracket c.in_default.not-CloseBrace
