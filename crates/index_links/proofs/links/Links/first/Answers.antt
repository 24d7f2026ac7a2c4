use Rattle.std.proofs.Common.{◌∙◌, arith}
use Rattle.index_links.specs.Inside.{arrays_of}
use Rattle.index_links.proofs.Calls.{entry_read, first_seen, apart_seen, lists_room}
use Rattle.index_links.proofs.links.Links.first.Goals as goal

pub index-requires : goal.index-requires
index-requires c = let lists = lists_room (arrays_of c.self.inside) _ c.self.invariant c.self.view_is in omega arith

pub returns-clause-first : goal.returns-clause-first
returns-clause-first c =
    let lists = lists_room (arrays_of c.self.inside) _ c.self.invariant c.self.view_is in
    entry_read c.self.inside.first.items c.args.list _ (omega arith) c.index.ensures ∙ first_seen (arrays_of c.self.inside) _ c.args.list c.self.invariant c.self.view_is c.requires

pub returns-clause-apart : goal.returns-clause-apart
returns-clause-apart c = apart_seen (arrays_of c.self.inside) _ c.self.invariant c.self.view_is
