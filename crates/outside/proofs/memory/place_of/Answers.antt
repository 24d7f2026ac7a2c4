use Rattle.std.proofs.Common.{◌≡◌, ◌≤◌, ◌<◌, ◌+◌, suc, length, arith, subst}
use Rattle.outside.specs.Places.{IsPassed}
use Rattle.outside.proofs.Places.{passed_more, first_here, none_held, named_from_spelled, unnamed_from_unspelled}
use Rattle.outside.proofs.memory.place_of.Goals as goal

pub returns-then-is : goal.returns-then-is
returns-then-is c =
    let lt : c.loop-i.i < length c.args.files.now = omega arith in
    let same = named_from_spelled c.index-files-i.result c.args.name.now (c.is.ensures.utf8.0 c.if-is.true) in
    (lt, first_here _ _ _ _ lt c.index-files-i.is same c.loop-i.invariant)

pub loop-i-preserved : goal.loop-i-preserved
loop-i-preserved c =
    let lt : c.loop-i.i < length c.args.files.now = omega arith in
    let other = unnamed_from_unspelled c.index-files-i.result c.args.name.now (λ spelled. let e = c.is.ensures.utf8.1 spelled in let f = c.if-is.false in absurd (cc (e, f))) in
    let e : suc c.loop-i.i ≡ c.loop-i.i + 1 = omega arith in
    subst (λ n. IsPassed c.args.files.now c.args.name.now n) e (passed_more _ _ _ _ lt c.index-files-i.is other c.loop-i.invariant)

pub returns : goal.returns
returns c =
    let le : length c.args.files.now ≤ c.loop-i.i = omega arith in
    none_held _ _ _ le c.loop-i.invariant
