use Rattle.std.proofs.Common.{get_or, refl, arith}
use Rattle.supertypes.proofs.Joining.{is_key, set_inside, one_set_more, all_sets}
use Rattle.supertypes.proofs.supertypes.Supertypes.new.Goals as goal

pub set_of-requires-clause-is_key : goal.set_of-requires-clause-is_key
set_of-requires-clause-is_key c = is_key c.args.classes.now c.args.order.now c.requires.upward c.loop-class.class-index (get_or c.args.order.now c.loop-class.class-index 0) c.loop-class.table c.loop-class-test.true refl c.loop-class.invariant

pub set-requires : goal.set-requires
set-requires c =
    set_inside c.args.classes.now c.args.order.now c.requires.upward c.loop-class.class-index (get_or c.args.order.now c.loop-class.class-index 0) c.loop-class.table c.set_of.new.self c.in_ok-set.set c.loop-class-test.true refl c.loop-class.invariant
    c.in_ok-set.ensures.keeps c.in_ok-set.ensures.made

pub loop-class-preserved : goal.loop-class-preserved
loop-class-preserved c =
    one_set_more c.args.classes.now c.args.order.now c.requires.upward c.loop-class.class-index (get_or c.args.order.now c.loop-class.class-index 0) c.loop-class.table c.set_of.new.self c.in_ok-set.set c.loop-class-test.true refl c.loop-class.invariant
    c.in_ok-set.ensures.keeps c.in_ok-set.ensures.made c.set.new.self c.set.ensures

pub returns : goal.returns
returns c = all_sets c.args.classes.now c.args.order.now c.requires.upward c.loop-class.class-index c.loop-class.table (omega (arith, c.loop-class-test.false)) c.loop-class.invariant
