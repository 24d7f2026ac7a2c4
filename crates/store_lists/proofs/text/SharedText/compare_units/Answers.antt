use mathlib.Core.Path.{sym, ◌∙◌}
use native.Mathlib.Omega.{arith}
use Rattle.store_lists.proofs.Units.{cmp_apart, cmp_step, cmp_longer, there, cmp_end}
use Rattle.std.proofs.lemmas.Option.{slice_get_within}
use Rattle.store_lists.proofs.text.SharedText.compare_units.Goals as goal

pub returns-then-a-b : goal.returns-then-a-b
returns-then-a-b c =
    c.cmp.ensures
    ∙ cmp_apart c.args.self.now c.args.other.now c.loop-at.at c.in-Some.a c.in-Some-get.b (sym c.in-Some.is ∙ c.get.ensures) (sym c.in-Some-get.is ∙ c.get-in-Some.ensures) c.if-a-b.true
    ∙ c.loop-at.invariant.0

pub returns-in-None-get : goal.returns-in-None-get
returns-in-None-get c =
    cmp_longer c.args.self.now c.args.other.now c.loop-at.at c.in-Some.a (sym c.in-Some.is ∙ c.get.ensures) (sym c.in-None-get.is ∙ c.get-in-Some.ensures)
    ∙ c.loop-at.invariant.0

pub returns-in-None : goal.returns-in-None
returns-in-None c = absurd (there c.args.self.now c.loop-at.at (let n = c.loop-at-test.true in let l = c.len-at-end.ensures.value in omega arith) (sym c.in-None.is ∙ c.get.ensures))

pub loop-at-preserved : goal.loop-at-preserved
loop-at-preserved c = (
  cmp_step c.args.self.now c.args.other.now c.loop-at.at c.in-Some.a c.in-Some-get.b (sym c.in-Some.is ∙ c.get.ensures) (sym c.in-Some-get.is ∙ c.get-in-Some.ensures) c.if-a-b.false ∙ c.loop-at.invariant.0,
  (let l = slice_get_within c.args.other.now c.loop-at.at c.in-Some-get.b (sym c.get-in-Some.ensures ∙ c.in-Some-get.is) in omega arith),
)

pub returns : goal.returns
returns c =
    rw (c.cmp-2.ensures, c.len.ensures.value, c.len-2.ensures.value)
    (cmp_end c.args.self.now c.args.other.now c.loop-at.at (let n = c.loop-at-test.false in let l = c.len-at-end.ensures.value in omega arith) (let n = c.loop-at.auto.at-end in let l = c.len-at-end.ensures.value in omega arith) c.loop-at.invariant.1 ∙ c.loop-at.invariant.0)
