use Rattle.std.proofs.Common.{List, length, sym, subst}
use Rattle.dart_syntax.specs.declared.tokens.Token.{Token}
use Rattle.dart_syntax.specs.Tokens.{IsTokens, Ascend}
use Rattle.dart_syntax.proofs.Exact.{tokens_found, broken_utf8_alone, tokens_ascend}
use Rattle.dart_tokens.specs.declared.scanner.ScanError.{ScanError}
use Rattle.dart_tokens.specs.Answers.{Refuses}
use Rattle.dart_tokens.proofs.Refused.{refused}
use Rattle.dart_tokens.proofs.scanner.scan.Goals as goal

pub returns-in-Some-clause-fault : goal.returns-in-Some-clause-fault
returns-in-Some-clause-fault c = broken_utf8_alone c.args.bytes.now c.in-Some.at c.in-Ok.items.items c.in-Some.ensures c.in-Ok.ensures

pub returns-in-None-clause-found : goal.returns-in-None-clause-found
returns-in-None-clause-found c = subst (λ (ts : List Token). IsTokens c.args.bytes.now ts) (sym c.from_vec.ensures) (tokens_found c.args.bytes.now c.in-Ok.items.items c.in-None.ensures c.in-Ok.ensures)

pub returns-in-None-clause-ascend : goal.returns-in-None-clause-ascend
returns-in-None-clause-ascend c =
    subst (λ (ts : List Token). Ascend (length c.args.bytes.now) 0 ts) (sym c.from_vec.ensures)
    (tokens_ascend c.args.bytes.now c.in-Ok.items.items (tokens_found c.args.bytes.now c.in-Ok.items.items c.in-None.ensures c.in-Ok.ensures))

pub returns-in-Err-clause-fault : goal.returns-in-Err-clause-fault
returns-in-Err-clause-fault c = subst (λ (e : ScanError). Refuses c.args.bytes.now e) (sym c.first_of.ensures) (refused c.args.bytes.now c.in-Err.e c.bad_utf8-bad.result c.in-Err.ensures c.bad_utf8-bad.ensures)
