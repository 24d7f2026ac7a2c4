use Rattle.std.proofs.Common.{Some, None, arith}
use Rattle.std.proofs.lemmas.Str.Pattern.{split_parts}
use Rattle.dart_web_cli.proofs.Numbers.{next_ends, next_goes, no_end, no_go}
use Rattle.dart_web_cli.proofs.options.next_number.Goals as goal

pub returns-in-None-small : goal.returns-in-None-small
returns-in-None-small c = no_end c.args.text.now (split_parts 44 c.args.text.now None c.in-None.ensures.cases (omega arith)) c.in-None-small.ensures

pub returns-in-Some-small : goal.returns-in-Some-small
returns-in-Some-small c = next_ends c.args.text.now _ (split_parts 44 c.args.text.now None c.in-None.ensures.cases (omega arith)) c.in-Some-small.ensures.0 c.in-Some-small.ensures.1

pub returns-in-None-small-2 : goal.returns-in-None-small-2
returns-in-None-small-2 c =
    let parts = split_parts 44 c.args.text.now (Some (c.in-Some.digits, c.in-Some.more)) c.in-Some.ensures.cases (omega arith) in
    no_go c.args.text.now c.in-Some.digits.now c.in-Some.more.now parts.0 parts.1 c.in-None-small-2.ensures

pub returns-in-Some-small-2 : goal.returns-in-Some-small-2
returns-in-Some-small-2 c =
    let parts = split_parts 44 c.args.text.now (Some (c.in-Some.digits, c.in-Some.more)) c.in-Some.ensures.cases (omega arith) in
    next_goes c.args.text.now c.in-Some.digits.now c.in-Some.more.now _ parts.0 parts.1 c.in-Some-small-2.ensures.0 c.in-Some-small-2.ensures.1
