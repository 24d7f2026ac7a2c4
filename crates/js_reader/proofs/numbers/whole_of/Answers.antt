use Rattle.std.proofs.Common.{◌≡◌, ◌<◌, ◌^◌, sym, ap, ◌∙◌, subst}
use Rattle.std.specs.Fmt.{decimal}
use Rattle.std.specs.Str.{IsAscii}
use Rattle.std.proofs.lemmas.Str.{IsUtf8-from_ascii}
use Rattle.std.proofs.lemmas.Fmt.{IsAscii-decimal, parse-decimal}
use Rattle.js_reader.specs.Taking as spec
use Rattle.js_reader.proofs.Digits.{number_missing, number_found, bytes_same, same_bytes}
use Rattle.js_reader.proofs.numbers.whole_of.Goals as goal

pub returns-in-Err : goal.returns-in-Err
returns-in-Err c = sym (number_missing c.args.text.now (λ n small e. c.in-Err.ensures.cases.0 (IsUtf8-from_ascii c.args.text.now (subst IsAscii (sym e) (IsAscii-decimal n small)))))

pub returns-in-Err-parse : goal.returns-in-Err-parse
returns-in-Err-parse c =
    sym (number_missing c.args.text.now (λ n small e.
    let read = parse-decimal 64 n c.in-Ok.digits.now c.parse.result small small (c.in-Ok.ensures.cases.0 ∙ e) c.parse.ensures.value.0 in
    cc))

pub returns-then-eq : goal.returns-then-eq
returns-then-eq c =
    let written : decimal c.in-Ok-parse.number ≡ c.args.text.now =
    sym c.format.ensures.text ∙ sym c.as_bytes.ensures.value ∙ bytes_same _ _ (sym c.eq.ensures ∙ c.if-eq.true) in
    let value = c.in-Ok-parse.ensures.value.0 in
    let small : c.in-Ok-parse.number < 2 ^ 64 = subst (λ n. n < 2 ^ 64) (sym value.1) value.0.1 in
    sym (number_found c.in-Ok-parse.number small) ∙ ap spec.whole_of written

pub returns-else-eq : goal.returns-else-eq
returns-else-eq c =
    sym (number_missing c.args.text.now (λ n small e.
    let read = parse-decimal 64 n c.in-Ok.digits.now c.parse.result small small (c.in-Ok.ensures.cases.0 ∙ e) c.parse.ensures.value.0 in
    let same : c.in-Ok-parse.number ≡ n = cc in
    let written : c.as_bytes.result.now ≡ c.args.text.now = c.as_bytes.ensures.value ∙ c.format.ensures.text ∙ ap decimal same ∙ sym e in
    let yes = same_bytes _ _ written in
    cc))
