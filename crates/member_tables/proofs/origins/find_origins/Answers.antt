use Rattle.std.proofs.Common.{get_or, length, refl, ap, ◌∙◌, arith}
use Rattle.class_heads.specs.Origins.{mixin_of}
use Rattle.member_tables.specs.Origins.{body_behind}
use Rattle.member_tables.proofs.Bodied.{origins_begin, origin_inside, one_origin_more, all_origins}
use Rattle.member_tables.proofs.origins.find_origins.Goals as goal

pub loop-class-init : goal.loop-class-init
loop-class-init c =
    origins_begin c.args.program.now c.args.order.now c.requires.upward (length c.classes-classes.result.now) c.from_vec-origins.result (c.from_vec-origins.ensures ∙ c.in_ok-from_elem.ensures.items_if_clones_equal (λ y e. e))
    (ap length c.classes-classes.ensures)

pub set-requires : goal.set-requires
set-requires c =
    origin_inside c.args.program.now c.args.order.now c.requires.upward c.loop-class.class-index (get_or c.args.order.now c.loop-class.class-index 0) c.origin_of-origin.result c.loop-class.origins c.loop-class-test.true refl c.loop-class.invariant
    (c.origin_of-origin.ensures
    ∙ ap (λ xs. body_behind xs (get_or c.args.order.now c.loop-class.class-index 0) (mixin_of c.classes-classes.result.now (get_or c.args.order.now c.loop-class.class-index 0))) c.as_slice.ensures
    ∙ ap (λ cs. body_behind c.loop-class.origins (get_or c.args.order.now c.loop-class.class-index 0) (mixin_of cs (get_or c.args.order.now c.loop-class.class-index 0))) c.classes-classes.ensures)

pub loop-class-preserved : goal.loop-class-preserved
loop-class-preserved c =
    one_origin_more c.args.program.now c.args.order.now c.requires.upward c.loop-class.class-index (get_or c.args.order.now c.loop-class.class-index 0) c.origin_of-origin.result c.loop-class.origins c.loop-class-test.true refl c.loop-class.invariant
    (c.origin_of-origin.ensures
    ∙ ap (λ xs. body_behind xs (get_or c.args.order.now c.loop-class.class-index 0) (mixin_of c.classes-classes.result.now (get_or c.args.order.now c.loop-class.class-index 0))) c.as_slice.ensures
    ∙ ap (λ cs. body_behind c.loop-class.origins (get_or c.args.order.now c.loop-class.class-index 0) (mixin_of cs (get_or c.args.order.now c.loop-class.class-index 0))) c.classes-classes.ensures)
    c.set.new.self c.set.ensures

pub returns : goal.returns
returns c = all_origins c.args.program.now c.args.order.now c.requires.upward c.loop-class.class-index c.loop-class.origins (omega (arith, c.loop-class-test.false)) c.loop-class.invariant
