use Rattle.std.proofs.Common.{ℕ, List, [], ◌∷◌, Some, take, refl, sym, ap, ◌∙◌, arith}
use Rattle.std.specs.Prelude.{min}
use Rattle.std.proofs.lemmas.List.{length-take-le}
use Rattle.dart_tokens.proofs.Turns.{unit_read}
use Rattle.dart_tokens.proofs.escapes.unit_escape.Goals as goal

pub returns : goal.returns
returns c =
    unit_read c.args.count c.min.result c.args.bytes.now (take c.args.count c.args.bytes.now) refl (omega (arith, c.if-count-bytes.false)) c.requires
    (length-take-le c.args.count c.args.bytes.now (omega (arith, c.if-count-bytes.false))) (sym c.all_hex.ensures ∙ c.if-not-all_hex.false)
    (c.min.ensures ∙ ap (λ (x : ℕ). min x 65535) c.value_of-value.ensures)
    ∙ ap (λ (xs : List ℕ). Some (c.min.result ∷ [], xs)) (sym c.behind.ensures)
