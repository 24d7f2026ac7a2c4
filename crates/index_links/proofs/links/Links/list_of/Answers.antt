use Rattle.std.proofs.Common.{◌∙◌, arith}
use Rattle.index_links.specs.Inside.{arrays_of}
use Rattle.index_links.proofs.Calls.{entry_read, entry_seen, apart_seen, nodes_room}
use Rattle.index_links.proofs.links.Links.list_of.Goals as goal

pub index-requires : goal.index-requires
index-requires c = let nodes = nodes_room (arrays_of c.self.inside) _ c.self.view_is in let room = c.self.invariant.list_room in omega arith

pub returns-clause-list : goal.returns-clause-list
returns-clause-list c =
    let nodes = nodes_room (arrays_of c.self.inside) _ c.self.view_is in
    let room = c.self.invariant.list_room in
    entry_read c.self.inside.list.items c.args.node _ (omega arith) c.index.ensures ∙ entry_seen (arrays_of c.self.inside) _ c.args.node c.self.invariant c.self.view_is

pub returns-clause-apart : goal.returns-clause-apart
returns-clause-apart c = apart_seen (arrays_of c.self.inside) _ c.self.invariant c.self.view_is
