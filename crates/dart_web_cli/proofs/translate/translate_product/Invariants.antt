use Rattle.std.proofs.Common.{◌≡◌, ◌≤◌, ◌++◌, length, drop}
use Rattle.dart_web_cli.specs.Translation.{Behind, operand_of, product_then}
use Rattle.dart_web_cli.proofs.translate.translate_product.Given as goal

abbrev pub invariant-loop-factor : goal.invariant-loop-factor
invariant-loop-factor l = record {
  lets : (behind : Behind) → l.body ++ product_then l.operators l.value (drop l.factor-index l.factor-items) behind ≡ l.fn.body ++ product_then l.fn.operators (operand_of l.product.first) l.factor-items behind;
  few : l.operators ≤ length l.body;
}
