use Rattle.std.proofs.Common.{sym, ◌∙◌}
use Rattle.dart_program.specs.Declares.{declared_by}
use Rattle.library_scopes.specs.Rules.{is_main}
use Rattle.library_scopes.proofs.Steps.{any_here, any_past}
use Rattle.library_scopes.proofs.entry.has_main.Goals as goal

pub returns-then-declares_main : goal.returns-then-declares_main
returns-then-declares_main c = sym (c.loop-declaration.invariant ∙ any_here is_main declared_by c.args.declarations.now c.loop-declaration.declaration-index c.declaration-item.result c.loop-declaration-test.true c.declaration-item.is (sym c.declares_main.ensures ∙ c.if-declares_main.true))

pub loop-declaration-preserved : goal.loop-declaration-preserved
loop-declaration-preserved c = c.loop-declaration.invariant ∙ any_past is_main declared_by c.args.declarations.now c.loop-declaration.declaration-index c.declaration-item.result c.loop-declaration-test.true c.declaration-item.is (sym c.declares_main.ensures ∙ c.if-declares_main.false)
