use Rattle.std.proofs.Common.{Err, refl, ◌∙◌, subst, true}
use Rattle.dart_program.specs.declared.files.SourceFile.{SourceFile}
use Rattle.source_loading.specs.declared.texts.TextFault.{TextFault}
use Rattle.source_loading.specs.Texts.{TextTells}
use Rattle.source_loading.proofs.FileZero.{prelude_short, core_units, is_prelude_file, prelude_breaks}
use Rattle.source_loading.proofs.first.prelude_file.Goals as goal

pub tree_of-requires : goal.tree_of-requires
tree_of-requires c = prelude_short c.as_bytes.result.now (c.as_bytes.ensures.value ∙ c.prelude.ensures)

pub returns-in_ok-links-in-Ok : goal.returns-in_ok-links-in-Ok
returns-in_ok-links-in-Ok c =
    let file : SourceFile = record { name = c.in_ok-name.name; tree = c.in-Ok.tree; links = c.in_ok-links-in-Ok.links } in
    is_prelude_file file c.as_bytes.result.now c.as_slice.result.now c.in_ok-name.ensures (c.as_bytes.ensures.value ∙ c.prelude.ensures) c.in-Ok.ensures c.in_ok-links-in-Ok.ensures c.as_slice.ensures

pub returns-in-Err-Broken : goal.returns-in-Err-Broken
returns-in-Err-Broken c =
    let breaks = subst (λ (fault : TextFault). TextTells true c.as_bytes.result.now (Err fault)) c.in-Err-Broken.field-0-is c.in-Err-Broken.ensures in
    rw c.in-Err-Broken.field-0-is (refl, prelude_breaks c.as_bytes.result.now c.in-Err-Broken.rule c.in-Err-Broken.at (c.as_bytes.ensures.value ∙ c.prelude.ensures) breaks, c.in_ok-name.ensures ∙ core_units)
