use Rattle.std.proofs.Common.{ap, ◌∙◌}
use Rattle.std.specs.Prelude.{slice_get}
use Rattle.class_heads.specs.declared.search.Search.{Search}
use Rattle.class_heads.specs.Supertypes.{supertypes_of}
use Rattle.class_heads.specs.Search.{seen_all}
use Rattle.class_heads.proofs.Searches.{search_begins, search_steps, search_shrinks, search_ends}
use Rattle.class_heads.proofs.search.is_above_itself.Goals as goal

pub search-init : goal.search-init
search-init c = search_begins c.args.classes.now c.args.class c.see_supertypes.new.self (c.in_ok-see_supertypes.ensures ∙ ap (λ (s : Search). seen_all s (supertypes_of c.args.classes.now c.args.class)) c.in_ok-search.ensures)

pub search-smaller : goal.search-smaller
search-smaller c = search_shrinks c.args.classes.now c.search.done c.in-Some.next.now c.search.search c.see_supertypes-in-Some.new.self (c.in-Some.ensures ∙ ap (λ xs. slice_get xs c.search.done) c.as_slice.ensures) c.in_ok-see_supertypes-2.ensures

pub search-preserved : goal.search-preserved
search-preserved c = search_steps c.args.classes.now c.args.class c.search.done c.in-Some.next.now c.search.search c.see_supertypes-in-Some.new.self c.search.invariant (c.in-Some.ensures ∙ ap (λ xs. slice_get xs c.search.done) c.as_slice.ensures) c.in_ok-see_supertypes-2.ensures

pub returns : goal.returns
returns c = search_ends c.args.classes.now c.args.class c.search.done c.search.search c.search.invariant (c.in_default.ensures ∙ ap (λ xs. slice_get xs c.search.done) c.as_slice.ensures) c.has_seen.result c.has_seen.ensures
