use Rattle.std.proofs.Common.{sym, ap, ◌∙◌, length, arith}
use Rattle.dart_tokens.proofs.Comments.{turn_close, turn_open, turn_other}
use Rattle.dart_tokens.proofs.steps.past_comment.Goals as goal

pub comment-preserved-then-closing : goal.comment-preserved-then-closing
comment-preserved-then-closing c = record {
  same = turn_close c.comment.depth c.in-Some.b c.in_ok-c.c c.comment.rest.now c.in-Some.more.now c.in_ok-c.after.now c.in-Some.ensures c.in_ok-c.ensures (sym c.if-closing.ensures) (omega arith) ∙ c.comment.invariant.same;
  few = omega (arith, ap length c.in-Some.ensures, ap length c.in_ok-c.ensures);
}

pub comment-preserved-then-opening : goal.comment-preserved-then-opening
comment-preserved-then-opening c = record {
  same = turn_open c.comment.depth c.in-Some.b c.in_ok-c.c c.comment.rest.now c.in-Some.more.now c.in_ok-c.after.now c.in-Some.ensures c.in_ok-c.ensures (sym c.if-closing.ensures) (sym c.if-opening.ensures) ∙ c.comment.invariant.same;
  few = omega (arith, ap length c.in-Some.ensures, ap length c.in_ok-c.ensures);
}

pub comment-preserved : goal.comment-preserved
comment-preserved c = record {
  same = turn_other c.comment.depth c.in-Some.b c.in_ok-c.c c.comment.rest.now c.in-Some.more.now c.in_ok-c.after.now c.in-Some.ensures c.in_ok-c.ensures (sym c.if-closing.ensures) (sym c.if-opening.ensures) ∙ c.comment.invariant.same;
  few = omega (arith, ap length c.in-Some.ensures);
}
