use Rattle.std.proofs.Common.{◌∙◌, arith}
use Rattle.index_links.specs.Inside.{arrays_of}
use Rattle.index_links.proofs.Calls.{entry_read, next_seen, nodes_room}
use Rattle.index_links.proofs.links.Links.next.Goals as goal

pub index-requires : goal.index-requires
index-requires c = let nodes = nodes_room (arrays_of c.self.inside) _ c.self.view_is in omega arith

pub returns : goal.returns
returns c =
    let nodes = nodes_room (arrays_of c.self.inside) _ c.self.view_is in
    entry_read c.self.inside.next.items c.args.node _ (omega arith) c.index.ensures ∙ next_seen (arrays_of c.self.inside) _ c.args.node c.self.invariant c.self.view_is
