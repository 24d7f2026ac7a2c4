use Rattle.std.proofs.Common.{length, sym, ap, refl, ◌∙◌, arith}
use Rattle.index_links.specs.Inside.{arrays_of}
use Rattle.index_links.proofs.Threads.{length_pointed}
use Rattle.index_links.proofs.Calls.{entry_read, listed_within, listed_some, list_below, previous_within, next_within, closed, cut_closes, cut_shows}
use Rattle.index_links.proofs.links.Links.remove.Goals as goal

pub index-requires : goal.index-requires
index-requires c =
    let within = listed_within (arrays_of c.self.inside) _ c.args.node c.self.invariant c.self.view_is c.requires in
    let room = c.self.invariant.list_room in omega arith

pub unwrap-list-requires : goal.unwrap-list-requires
unwrap-list-requires c =
    let within = listed_within (arrays_of c.self.inside) _ c.args.node c.self.invariant c.self.view_is c.requires in
    let room = c.self.invariant.list_room in
    listed_some (arrays_of c.self.inside) _ c.args.node _ c.self.invariant c.self.view_is (entry_read c.self.inside.list.items c.args.node _ (omega arith) c.index.ensures) c.requires

pub index-before-requires : goal.index-before-requires
index-before-requires c =
    let within = listed_within (arrays_of c.self.inside) _ c.args.node c.self.invariant c.self.view_is c.requires in
    let room = c.self.invariant.previous_room in omega arith

pub index-after-requires : goal.index-after-requires
index-after-requires c = let within = listed_within (arrays_of c.self.inside) _ c.args.node c.self.invariant c.self.view_is c.requires in omega arith

pub point-requires-clause-list : goal.point-requires-clause-list
point-requires-clause-list c =
    let within = listed_within (arrays_of c.self.inside) _ c.args.node c.self.invariant c.self.view_is c.requires in
    let room = c.self.invariant.list_room in
    list_below (arrays_of c.self.inside) _ c.args.node c.self.invariant (sym (entry_read c.self.inside.list.items c.args.node _ (omega arith) c.index.ensures) ∙ c.unwrap-list.ensures)

pub point-requires-clause-node : goal.point-requires-clause-node
point-requires-clause-node c =
    let within = listed_within (arrays_of c.self.inside) _ c.args.node c.self.invariant c.self.view_is c.requires in
    let room = c.self.invariant.list_room in
    let other = c.self.invariant.previous_room in
    previous_within (arrays_of c.self.inside) _ c.args.node _ c.self.invariant (sym (entry_read c.self.inside.list.items c.args.node _ (omega arith) c.index.ensures) ∙ c.unwrap-list.ensures)
    (entry_read c.self.inside.previous.items c.args.node _ (omega arith) c.index-before.ensures)

pub point-requires-2-clause-list : goal.point-requires-2-clause-list
point-requires-2-clause-list c =
    let within = listed_within (arrays_of c.self.inside) _ c.args.node c.self.invariant c.self.view_is c.requires in
    let room = c.self.invariant.list_room in
    let ends = c.self.invariant.last_room in
    let below = list_below (arrays_of c.self.inside) _ c.args.node c.self.invariant (sym (entry_read c.self.inside.list.items c.args.node _ (omega arith) c.index.ensures) ∙ c.unwrap-list.ensures) in
    omega arith

pub point-requires-2-clause-node : goal.point-requires-2-clause-node
point-requires-2-clause-node c =
    let within = listed_within (arrays_of c.self.inside) _ c.args.node c.self.invariant c.self.view_is c.requires in
    let room = c.self.invariant.list_room in
    next_within (arrays_of c.self.inside) _ c.args.node _ c.self.invariant (sym (entry_read c.self.inside.list.items c.args.node _ (omega arith) c.index.ensures) ∙ c.unwrap-list.ensures)
    (entry_read c.self.inside.next.items c.args.node _ within c.index-after.ensures)

pub index_mut-requires : goal.index_mut-requires
index_mut-requires c =
    let within = listed_within (arrays_of c.self.inside) _ c.args.node c.self.invariant c.self.view_is c.requires in
    omega (arith, ap length c.point.ensures.links, length_pointed c.self.inside.next.items c.index-before.result.now c.index-after.result.now)

pub index_mut-requires-2 : goal.index_mut-requires-2
index_mut-requires-2 c =
    let within = listed_within (arrays_of c.self.inside) _ c.args.node c.self.invariant c.self.view_is c.requires in
    let room = c.self.invariant.previous_room in
    omega (arith, ap length c.point-2.ensures.links, length_pointed c.self.inside.previous.items c.index-after.result.now c.index-before.result.now)

pub index_mut-requires-3 : goal.index_mut-requires-3
index_mut-requires-3 c =
    let within = listed_within (arrays_of c.self.inside) _ c.args.node c.self.invariant c.self.view_is c.requires in
    let room = c.self.invariant.list_room in omega arith

pub invariant_of-self : goal.invariant_of-self
invariant_of-self c =
    let within = listed_within (arrays_of c.self.inside) _ c.args.node c.self.invariant c.self.view_is c.requires in
    let room = c.self.invariant.list_room in
    let other = c.self.invariant.previous_room in
    closed _ _ (cut_closes (arrays_of c.self.inside) c.args.self.now c.unwrap-list.result c.args.node c.index-before.result.now c.index-after.result.now
    c.point.new.links.items c.point-2.new.links.items c.point.new.ends.items c.point-2.new.ends.items c.self.invariant c.self.view_is
    (sym (entry_read c.self.inside.list.items c.args.node _ (omega arith) c.index.ensures) ∙ c.unwrap-list.ensures)
    (entry_read c.self.inside.previous.items c.args.node _ (omega arith) c.index-before.ensures)
    (entry_read c.self.inside.next.items c.args.node _ within c.index-after.ensures)
    c.point.ensures.links c.point-2.ensures.links c.point.ensures.ends c.point-2.ensures.ends)

pub returns : goal.returns
returns c =
    let within = listed_within (arrays_of c.self.inside) _ c.args.node c.self.invariant c.self.view_is c.requires in
    let room = c.self.invariant.list_room in
    let other = c.self.invariant.previous_room in
    let is = sym (entry_read c.self.inside.list.items c.args.node _ (omega arith) c.index.ensures) ∙ c.unwrap-list.ensures in
    cut_shows (arrays_of c.self.inside) c.args.self.now c.unwrap-list.result c.args.node c.index-before.result.now c.index-after.result.now _ c.point.new.links.items c.self.invariant
    (cut_closes (arrays_of c.self.inside) c.args.self.now c.unwrap-list.result c.args.node c.index-before.result.now c.index-after.result.now
    c.point.new.links.items c.point-2.new.links.items c.point.new.ends.items c.point-2.new.ends.items c.self.invariant c.self.view_is is
    (entry_read c.self.inside.previous.items c.args.node _ (omega arith) c.index-before.ensures)
    (entry_read c.self.inside.next.items c.args.node _ within c.index-after.ensures)
    c.point.ensures.links c.point-2.ensures.links c.point.ensures.ends c.point-2.ensures.ends)
    c.self.view_is is c.point.ensures.links refl
