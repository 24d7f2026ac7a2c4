use Rattle.std.proofs.Common.{length, ap, ◌∙◌, ◌+◌}
use Rattle.std.proofs.lemmas.List.{length_push}
use Rattle.class_heads.specs.declared.nodes.ClassNode.{ClassNode}
use Rattle.supertypes.proofs.Rising.{one_more_rises, rises_never_back}
use Rattle.supertypes.proofs.tests.chain.Goals as goal

pub loop-number-preserved : goal.loop-number-preserved
loop-number-preserved c =
    record {
      long = ap length c.in_ok-push.ensures.ok ∙ length_push {X = ClassNode} c.loop-number.classes c.in_ok-class.class ∙ ap (λ n. n + 1) c.loop-number.invariant.long;
      rises = one_more_rises c.loop-number.classes c.push.new.self c.in_ok-class.class c.loop-number.number c.loop-number.invariant.rises c.loop-number.invariant.long c.in_ok-class.ensures c.in_ok-push.ensures.ok;
    }

pub returns : goal.returns
returns c = rises_never_back c.loop-number.classes c.loop-number.invariant.rises
