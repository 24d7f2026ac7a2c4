use Rattle.std.proofs.Common.{replicate, []}
use Rattle.index_links.specs.Arrays.{AreSpelled}
use Rattle.index_links.specs.Inside.{arrays_of}
use Rattle.index_links.proofs.Calls.{closed, new_closes, new_shows}
use Rattle.index_links.proofs.links.Links.new.Goals as goal

spelled_new : (c : goal.In_ok-nothings-5) → AreSpelled (arrays_of (record { next = c.in_ok-nothings.field-0; previous = c.in_ok-nothings-2.field-0; list = c.in_ok-nothings-3.field-0; first = c.in_ok-nothings-4.field-0; last = c.in_ok-nothings-5.field-0 })) (replicate c.args.lists [])
spelled_new c = new_closes c.args.nodes c.args.lists _ _ _ _ _ c.in_ok-nothings.ensures c.in_ok-nothings-2.ensures c.in_ok-nothings-3.ensures c.in_ok-nothings-4.ensures c.in_ok-nothings-5.ensures

pub invariant_of-result : goal.invariant_of-result
invariant_of-result c = closed _ _ (spelled_new c)

pub returns : goal.returns
returns c = new_shows c.args.nodes c.args.lists _ (spelled_new c) c.in_ok-nothings.ensures
