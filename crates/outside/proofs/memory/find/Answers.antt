use Rattle.std.proofs.Common.{sym, ap, ◌∙◌, take}
use Rattle.code_units.specs.declared.lists.NamedFile.{NamedFile}
use Rattle.outside.proofs.Places.{held_at_first}
use Rattle.outside.proofs.memory.find.Goals as goal

pub returns-in-Ok-clause-told : goal.returns-in-Ok-clause-told
returns-in-Ok-clause-told c = (
  c.index-files-i.result.bytes,
  held_at_first _ _ _ _ c.index-files-i.is c.in-Some.ensures.1,
  c.in-Ok.ensures ∙ ap (λ b. take c.args.limit b) c.as_slice.ensures ∙ ap (λ (f : NamedFile). take c.args.limit f.bytes) (sym c.index-files-i.is),
)
