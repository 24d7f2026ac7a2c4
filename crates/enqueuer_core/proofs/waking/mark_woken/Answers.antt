use Rattle.std.proofs.Common.{true, sym, ap, ◌∙◌, arith}
use Rattle.std.proofs.lemmas.List.{length-set}
use Rattle.enqueuer_core.specs.Core.{is_woken}
use Rattle.enqueuer_core.proofs.Marks.{marking_start, marked_half, whole_marked, part_marked}
use Rattle.enqueuer_core.proofs.waking.mark_woken.Goals as goal

pub index_mut-requires : goal.index_mut-requires
index_mut-requires c =
    let marking = c.mark_all.ensures.marking _ (marking_start c.args.readers.now.items c.args.marks.now.items c.args.settled.now c.args.added.now c.requires.listed c.requires.unmarked c.requires.marks) in
    let long = marking.long in
    let joined = c.requires.joined in
    omega arith

pub returns-then-not-whole-clause-half : goal.returns-then-not-whole-clause-half
returns-then-not-whole-clause-half c =
    let marking = c.mark_all.ensures.marking _ (marking_start c.args.readers.now.items c.args.marks.now.items c.args.settled.now c.args.added.now c.requires.listed c.requires.unmarked c.requires.marks) in
    let long = marking.long in
    let joined = c.requires.joined in
    marked_half c.mark_all.new.readers.items c.mark_all.new.marks.items c.args.settled.now c.args.joined (omega arith) marking.half

pub returns-then-not-whole-clause-marked : goal.returns-then-not-whole-clause-marked
returns-then-not-whole-clause-marked c n below =
    let marking = c.mark_all.ensures.marking _ (marking_start c.args.readers.now.items c.args.marks.now.items c.args.settled.now c.args.added.now c.requires.listed c.requires.unmarked c.requires.marks) in
    let long = marking.long in
    let joined = c.requires.joined in
    part_marked c.mark_all.new.readers.items c.mark_all.new.marks.items c.args.settled.now c.args.added.now c.args.joined n marking (omega arith) below
    ∙ ap (λ b. is_woken c.args.added.now c.args.settled.now c.args.joined b n) (sym c.if-not-whole.true)

pub returns-then-not-whole-clause-marks : goal.returns-then-not-whole-clause-marks
returns-then-not-whole-clause-marks c =
    let marking = c.mark_all.ensures.marking _ (marking_start c.args.readers.now.items c.args.marks.now.items c.args.settled.now c.args.added.now c.requires.listed c.requires.unmarked c.requires.marks) in
    length-set c.mark_all.new.marks.items c.args.joined true ∙ marking.long

pub returns-else-not-whole-clause-half : goal.returns-else-not-whole-clause-half
returns-else-not-whole-clause-half c =
    let marking = c.mark_all.ensures.marking _ (marking_start c.args.readers.now.items c.args.marks.now.items c.args.settled.now c.args.added.now c.requires.listed c.requires.unmarked c.requires.marks) in
    marking.half

pub returns-else-not-whole-clause-marked : goal.returns-else-not-whole-clause-marked
returns-else-not-whole-clause-marked c n below =
    let marking = c.mark_all.ensures.marking _ (marking_start c.args.readers.now.items c.args.marks.now.items c.args.settled.now c.args.added.now c.requires.listed c.requires.unmarked c.requires.marks) in
    whole_marked c.mark_all.new.readers.items c.mark_all.new.marks.items c.args.settled.now c.args.added.now c.args.joined n marking below
    ∙ ap (λ b. is_woken c.args.added.now c.args.settled.now c.args.joined b n) (sym c.if-not-whole.false)

pub returns-else-not-whole-clause-marks : goal.returns-else-not-whole-clause-marks
returns-else-not-whole-clause-marks c =
    let marking = c.mark_all.ensures.marking _ (marking_start c.args.readers.now.items c.args.marks.now.items c.args.settled.now c.args.added.now c.requires.listed c.requires.unmarked c.requires.marks) in
    marking.long
