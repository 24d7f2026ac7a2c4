use Rattle.std.proofs.Common.{◌≡◌, zero, ◌+◌, ◌-◌, ◌||◌, ◌<◌, length, Some, take, sym, ap, ◌∙◌, arith}
use Rattle.std.specs.Option.{option_map}
use Rattle.dart_sites.specs.Scopes.{found, begins_function}
use Rattle.dart_sites.proofs.Found.{beyond, passed, met}
use Rattle.dart_sites.proofs.finding.find.Goals as goal

pub returns-in-Some : goal.returns-in-Some
returns-in-Some c =
    let next : c.outward.left - 1 + 1 ≡ c.outward.left = omega (arith, c.outward-test.true) in
    let below : c.outward.left - 1 < length c.args.scopes.now = omega (arith, c.outward-test.true, c.outward.invariant.inside) in
    ap (λ z. Some (record { local = z; is_captured = c.outward.is_captured })) c.new-local.ensures
    ∙ sym (met _ _ _ _ _ _ c.index-scopes-left.is below (sym c.in-Some.ensures)
    (c.outward.invariant.same ∙ ap (λ k. option_map (beyond c.outward.is_captured) (found c.args.name.now (take k c.args.scopes.now))) (sym next)))

pub outward-preserved-then-is_captured : goal.outward-preserved-then-is_captured
outward-preserved-then-is_captured c =
    let next : c.outward.left - 1 + 1 ≡ c.outward.left = omega (arith, c.outward-test.true) in
    let below : c.outward.left - 1 < length c.args.scopes.now = omega (arith, c.outward-test.true, c.outward.invariant.inside) in
    record {
      inside = omega (arith, c.outward.invariant.inside);
      same = passed _ _ _ c.index-scopes-left.result c.outward.is_captured c.index-scopes-left.is below (sym c.in-None.ensures)
          (c.outward.invariant.same ∙ ap (λ k. option_map (beyond c.outward.is_captured) (found c.args.name.now (take k c.args.scopes.now))) (sym next))
          ∙ ap (λ z. option_map (beyond z) (found c.args.name.now (take (c.outward.left - 1) c.args.scopes.now))) (ap (λ z. z || begins_function c.index-scopes-left.result) c.if-is_captured.true ∙ sym c.if-is_captured.true);
    }

pub outward-preserved : goal.outward-preserved
outward-preserved c =
    let next : c.outward.left - 1 + 1 ≡ c.outward.left = omega (arith, c.outward-test.true) in
    let below : c.outward.left - 1 < length c.args.scopes.now = omega (arith, c.outward-test.true, c.outward.invariant.inside) in
    record {
      inside = omega (arith, c.outward.invariant.inside);
      same = passed _ _ _ c.index-scopes-left.result c.outward.is_captured c.index-scopes-left.is below (sym c.in-None.ensures)
          (c.outward.invariant.same ∙ ap (λ k. option_map (beyond c.outward.is_captured) (found c.args.name.now (take k c.args.scopes.now))) (sym next))
          ∙ ap (λ z. option_map (beyond z) (found c.args.name.now (take (c.outward.left - 1) c.args.scopes.now))) (ap (λ z. z || begins_function c.index-scopes-left.result) c.if-is_captured.false ∙ sym c.begins_function-is_captured.ensures);
    }

pub returns : goal.returns
unfolding found
returns c =
    let none : c.outward.left ≡ zero = omega (arith, c.outward-test.false) in
    sym (c.outward.invariant.same ∙ ap (λ k. option_map (beyond c.outward.is_captured) (found c.args.name.now (take k c.args.scopes.now))) none)
