use Rattle.std.proofs.Common.{◌≡◌, ◌≢◌, ◌∙◌, sym, ap, subst, map, drop, ◌+◌, Ok, Err, Result}
use Rattle.indexmap.specs.IndexMap.{insert_entry}
use Rattle.store_lists.specs.Text.{same_text}
use Rattle.js_store.specs.Store.{Properties}
use Rattle.js_meaning.specs.declared.state.Jump.{Jump}
use Rattle.js_meaning.specs.Expressions as spec
use Rattle.js_meaning.specs.Trees as trees
use Rattle.js_meaning.specs.Nests.{IsOutcome, at}
use Rattle.js_meaning.proofs.Settle.{handed_on}
use Rattle.js_meaning.proofs.Entries.{entry_ends, entry_leaves}
use Rattle.js_meaning.proofs.forms.Forms.entries_from.Goals as goal

pub returns-in_err-v : goal.returns-in_err-v
returns-in_err-v g c =
    let from : c.from_residual.result ≡ Err c.in_err-v.field-0.0 = handed_on _ _ c.from_residual.ensures.1 in
    subst (λ (r : Result Properties Jump). IsOutcome (at (spec.entries_from c.args.here.now c.args.made (map trees.entry c.args.es.now)) c.args.self.now.level.depth c.args.state.now) r c.eval.new.state) (sym from)
    (entry_leaves c.args.here.now c.loop-e.made c.args.es.now c.loop-e.e-index c.e-item.result c.args.self.now.level.depth c.loop-e.state c.eval.new.state c.in_err-v.field-0.0 _ c.loop-e-test.true c.e-item.is c.loop-e.invariant c.in_err-v.ensures)

pub loop-e-preserved : goal.loop-e-preserved
loop-e-preserved g c =
    let made : c.put.new.self ≡ insert_entry same_text c.loop-e.made c.e-item.result.key c.in_ok-v.v = c.in_ok-put.ensures.ok ∙ ap (λ k. insert_entry same_text c.loop-e.made k c.in_ok-v.v) (c.new.ensures ∙ c.as_slice.ensures) in
    entry_ends c.args.here.now c.loop-e.made c.args.es.now c.loop-e.e-index c.e-item.result c.args.self.now.level.depth c.loop-e.state c.eval.new.state c.in_ok-v.v _ c.loop-e-test.true c.e-item.is c.loop-e.invariant c.in_ok-v.ensures
    ∙ ap (λ (m : Properties). at (spec.entries_from c.args.here.now m (map trees.entry (drop (c.loop-e.e-index + 1) c.args.es.now))) c.args.self.now.level.depth c.eval.new.state) (sym made)
