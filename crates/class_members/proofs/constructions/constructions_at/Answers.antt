use Rattle.std.proofs.Common.{◌≡◌, IfOk, ap, ◌∙◌, subst}
use Rattle.std.specs.Prelude.{slice_get}
use Rattle.class_members.proofs.Constructed.{at_node}
use Rattle.class_members.proofs.constructions.constructions_at.Goals as goal

pub returns-in-Some : goal.returns-in-Some
returns-in-Some c = subst (λ ys. IfOk c.node_constructions.result (λ xs. xs ≡ ys)) (at_node c.args.program.now c.args.class c.in-Some.node.now (c.in-Some.ensures ∙ ap (λ xs. slice_get xs c.args.class) c.classes.ensures)) c.node_constructions.ensures
