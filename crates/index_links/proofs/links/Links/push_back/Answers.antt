use Rattle.std.proofs.Common.{sym, arith}
use Rattle.index_links.specs.Inside.{arrays_of}
use Rattle.index_links.proofs.Calls.{last_read, lists_room, nodes_room, last_within, closed, push_closes, push_shows}
use Rattle.index_links.proofs.links.Links.push_back.Goals as goal

pub index-before-requires : goal.index-before-requires
index-before-requires c =
    let lists = lists_room (arrays_of c.self.inside) _ c.self.invariant c.self.view_is in
    let room = c.self.invariant.last_room in omega arith

pub point-requires-clause-list : goal.point-requires-clause-list
point-requires-clause-list c = let lists = lists_room (arrays_of c.self.inside) _ c.self.invariant c.self.view_is in omega arith

pub point-requires-clause-node : goal.point-requires-clause-node
point-requires-clause-node c =
    let lists = lists_room (arrays_of c.self.inside) _ c.self.invariant c.self.view_is in
    last_within (arrays_of c.self.inside) c.args.list c.self.invariant c.index-before.result.now (sym (last_read (arrays_of c.self.inside) c.args.self.now c.args.list _ c.self.invariant c.self.view_is c.requires.list_exists c.index-before.ensures)) (omega arith)

pub index_mut-requires : goal.index_mut-requires
index_mut-requires c = let nodes = nodes_room (arrays_of c.self.inside) _ c.self.view_is in let room = c.self.invariant.previous_room in omega arith

pub index_mut-requires-2 : goal.index_mut-requires-2
index_mut-requires-2 c = let nodes = nodes_room (arrays_of c.self.inside) _ c.self.view_is in let room = c.self.invariant.list_room in omega arith

pub index_mut-requires-3 : goal.index_mut-requires-3
index_mut-requires-3 c = let lists = lists_room (arrays_of c.self.inside) _ c.self.invariant c.self.view_is in let room = c.self.invariant.last_room in omega arith

pub invariant_of-self : goal.invariant_of-self
invariant_of-self c =
    closed _ _ (push_closes (arrays_of c.self.inside) c.args.self.now c.args.list c.args.node c.index-before.result.now c.point.new.links.items c.point.new.ends.items
    c.self.invariant c.self.view_is c.requires.list_exists c.requires.node_exists c.requires.free (last_read (arrays_of c.self.inside) c.args.self.now c.args.list _ c.self.invariant c.self.view_is c.requires.list_exists c.index-before.ensures) c.point.ensures.links c.point.ensures.ends)

pub returns : goal.returns
returns c =
    push_shows (arrays_of c.self.inside) c.args.self.now c.args.list c.args.node c.index-before.result.now _
    (push_closes (arrays_of c.self.inside) c.args.self.now c.args.list c.args.node c.index-before.result.now c.point.new.links.items c.point.new.ends.items
    c.self.invariant c.self.view_is c.requires.list_exists c.requires.node_exists c.requires.free (last_read (arrays_of c.self.inside) c.args.self.now c.args.list _ c.self.invariant c.self.view_is c.requires.list_exists c.index-before.ensures) c.point.ensures.links c.point.ensures.ends)
    c.self.view_is c.point.ensures.links
