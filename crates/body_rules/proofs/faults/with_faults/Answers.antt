use Rattle.std.proofs.Common.{refl, sym, ◌∙◌}
use Rattle.dart_syntax.specs.declared.rules.Rule.TheVariants.{B1, B2, B3, B4, B5, B6, B7, B8, B10, B12, B14}
use Rattle.body_rules.specs.Blocks.{doubled_at, early_at}
use Rattle.body_rules.specs.Jumps.{break_at, continue_at, this_at, super_at, return_at, rethrow_at}
use Rattle.body_rules.specs.Constructors.{super_call_at}
use Rattle.body_rules.specs.Declarations.{declared_at}
use Rattle.body_rules.specs.Lists.{listed_at}
use Rattle.body_rules.specs.Rules.{fault, faults_at}
use Rattle.body_rules.proofs.Laws.{eleven_joined, one_fault_more}
use Rattle.body_rules.proofs.faults.with_faults.Goals as goal

pub returns : goal.returns
unfolding faults_at
returns c =
    let n = c.args.file in
    let s = c.args.around.now in
    let y = c.args.site.now in
    let e1 = c.with_fault-found.ensures ∙ one_fault_more B1 n refl c.doubled_at.ensures in
    let e2 = c.with_fault-found-2.ensures ∙ one_fault_more B2 n e1 c.early_at.ensures in
    let e3 = c.with_fault-found-3.ensures ∙ one_fault_more B3 n e2 c.break_at.ensures in
    let e4 = c.with_fault-found-4.ensures ∙ one_fault_more B4 n e3 c.continue_at.ensures in
    let e5 = c.with_fault-found-5.ensures ∙ one_fault_more B5 n e4 c.this_at.ensures in
    let e6 = c.with_fault-found-6.ensures ∙ one_fault_more B6 n e5 c.super_at.ensures in
    let e7 = c.with_fault-found-7.ensures ∙ one_fault_more B7 n e6 c.return_at.ensures in
    let e8 = c.with_fault-found-8.ensures ∙ one_fault_more B8 n e7 c.rethrow_at.ensures in
    let e9 = c.with_fault-found-9.ensures ∙ one_fault_more B10 n e8 c.super_call_at.ensures in
    let e10 = c.with_fault-found-10.ensures ∙ one_fault_more B12 n e9 c.declared_at.ensures in
    let e11 = c.with_fault.ensures ∙ one_fault_more B14 n e10 c.listed_at.ensures in
    e11 ∙ sym (eleven_joined c.args.found (fault B1 n (doubled_at s y)) (fault B2 n (early_at s y)) (fault B3 n (break_at s y)) (fault B4 n (continue_at s y)) (fault B5 n (this_at s y)) (fault B6 n (super_at s y)) (fault B7 n (return_at s y)) (fault B8 n (rethrow_at s y)) (fault B10 n (super_call_at s y)) (fault B12 n (declared_at s y)) (fault B14 n (listed_at y)))
