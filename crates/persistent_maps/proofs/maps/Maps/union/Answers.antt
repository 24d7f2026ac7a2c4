use Rattle.persistent_maps.proofs.Giving.{extended_keeps, unites_gives}
use Rattle.persistent_maps.proofs.maps.Maps.union.Goals as goal

pub returns-in_err-root-clause-keeps : goal.returns-in_err-root-clause-keeps
returns-in_err-root-clause-keeps c = extended_keeps c.args.self.now.bits c.args.self.now.nodes c.union.new.nodes c.in_err-root.ensures.extends

pub returns-clause-made : goal.returns-clause-made
returns-clause-made c = unites_gives c.args.self.now.bits c.args.self.now.nodes c.union.new.nodes c.args.left c.args.right c.in_ok-root.root c.in_ok-root.ensures.made

pub returns-clause-keeps : goal.returns-clause-keeps
returns-clause-keeps c = extended_keeps c.args.self.now.bits c.args.self.now.nodes c.union.new.nodes c.in_ok-root.ensures.extends
