use Rattle.std.proofs.Common.{sym, ◌∙◌}
use Rattle.index_links.specs.Lists.{nodes_in}
use Rattle.index_links.proofs.Calls.{first_is_some, is_listed, popped}
use Rattle.index_links.proofs.links.Links.pop_front.Goals as goal

pub remove-requires : goal.remove-requires
remove-requires c =
    let rest = first_is_some (nodes_in c.args.self.now c.args.list) c.in_ok-node.node (sym c.first.ensures.first ∙ c.in_ok-node.was) in
    is_listed c.args.self.now c.args.list c.in_ok-node.node rest.0 c.first.ensures.apart rest.1

pub returns : goal.returns
returns c =
    let rest = first_is_some (nodes_in c.args.self.now c.args.list) c.in_ok-node.node (sym c.first.ensures.first ∙ c.in_ok-node.was) in
    (rest.0, rest.1, c.remove.ensures ∙ popped c.args.self.now c.args.list c.in_ok-node.node rest.0 c.first.ensures.apart rest.1)
