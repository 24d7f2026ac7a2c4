use Rattle.std.proofs.Common.{◌≡◌, ◌<◌, ◌++◌, ℕ, length, ap, ◌∙◌, sym, subst, refl, arith}
use Rattle.std.proofs.lemmas.List.{append-nil}
use Rattle.index_links.specs.Lists.{nodes_in}
use Rattle.enqueuer_core.specs.Core.{is_woken}
use Rattle.enqueuer_core.specs.Hints.{is_marked, AreListed, AreListedOrMarked}
use Rattle.enqueuer_core.proofs.Worklists.{same_list}
use Rattle.enqueuer_core.proofs.Marks.{numbers_alike, without_alike, listed_again}
use Rattle.enqueuer_core.proofs.Quiet.{none_wake, none_forgets}
use Rattle.enqueuer_core.proofs.waking.wake.Goals as goal

pub returns-then-is_quiet-clause-pending : goal.returns-then-is_quiet-clause-pending
returns-then-is_quiet-clause-pending c =
    let quiet = c.is_quiet.ensures c.if-is_quiet.true in
    same_list c.args.pending.now c.args.pending.now c.args.members _ _ c.requires.list refl
    (sym (ap (λ xs. nodes_in c.args.pending.now 0 ++ xs) (none_wake c.args.added.now c.args.settled.now.items c.args.joined c.args.whole c.args.members quiet.0 quiet.1) ∙ append-nil (nodes_in c.args.pending.now 0)))

pub returns-then-is_quiet-clause-settled : goal.returns-then-is_quiet-clause-settled
returns-then-is_quiet-clause-settled c =
    let quiet = c.is_quiet.ensures c.if-is_quiet.true in
    sym (none_forgets c.args.added.now c.args.settled.now.items c.args.joined c.args.whole c.args.members quiet.0 quiet.1)

pub returns-clause-pending : goal.returns-clause-pending
returns-clause-pending c =
    let settled = c.args.settled.now.items in
    let marked : (n : ℕ) → n < length settled → is_marked c.mark_woken.new.marks.items n ≡ is_woken c.args.added.now settled c.args.joined c.args.whole n =
    subst (λ xs. (n : ℕ) → n < length xs → is_marked c.mark_woken.new.marks.items n ≡ is_woken c.args.added.now xs c.args.joined c.args.whole n) c.as_slice.ensures.value c.mark_woken.ensures.marked in
    let room = c.requires.room in
    same_list c.put_marked.new.pending c.put_marked.new.pending c.args.members _ _ c.put_marked.ensures.pending refl
    (ap (λ xs. nodes_in c.args.pending.now 0 ++ xs)
    (numbers_alike (is_marked c.mark_woken.new.marks.items) (is_woken c.args.added.now settled c.args.joined c.args.whole) c.args.members (λ n h. marked n (omega arith))))

pub returns-clause-settled : goal.returns-clause-settled
returns-clause-settled c =
    let settled = c.args.settled.now.items in
    let marked : (n : ℕ) → n < length settled → is_marked c.mark_woken.new.marks.items n ≡ is_woken c.args.added.now settled c.args.joined c.args.whole n =
    subst (λ xs. (n : ℕ) → n < length xs → is_marked c.mark_woken.new.marks.items n ≡ is_woken c.args.added.now xs c.args.joined c.args.whole n) c.as_slice.ensures.value c.mark_woken.ensures.marked in
    let room = c.requires.room in
    c.put_marked.ensures.settled
    ∙ without_alike (is_marked c.mark_woken.new.marks.items) (is_woken c.args.added.now settled c.args.joined c.args.whole) c.args.members settled (λ n h. marked n (omega arith))

pub returns-clause-listed : goal.returns-clause-listed
returns-clause-listed c =
    let readers = c.mark_woken.new.readers.items in
    let half = subst (λ xs. AreListedOrMarked readers c.mark_woken.new.marks.items xs) c.as_slice.ensures.value c.mark_woken.ensures.half in
    subst (λ xs. AreListed readers xs) (sym c.put_marked.ensures.settled)
    (listed_again readers c.mark_woken.new.marks.items c.args.settled.now.items c.args.members half c.requires.room)
