use Rattle.std.proofs.Common.{length, ap, ◌∙◌}
use Rattle.class_members.proofs.Owned.{owners_are}
use Rattle.class_members.proofs.owners.find_owners.Goals as goal

pub returns : goal.returns
returns c = owners_are c.args.program.now (length c.classes.result.now) c.args.all.now c.from_vec.result c.in_ok-outside_members.field-0 (ap length c.classes.ensures) c.requires (c.from_vec.ensures ∙ c.in_ok-lists.ensures) c.in_ok-outside_members.ensures
