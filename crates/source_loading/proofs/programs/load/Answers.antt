use Rattle.std.proofs.Common.{◌≡◌, List, Result, Err, sym, subst}
use Rattle.dart_program.specs.declared.files.SourceFile.{SourceFile}
use Rattle.source_loading.specs.declared.programs.LoadFault.{LoadFault}
use Rattle.source_loading.specs.Tells.{LoadTells, LoadsProgram}
use Rattle.source_loading.proofs.HandedOn.{handed_on}
use Rattle.source_loading.proofs.Whole.{all_loaded, is_program, prelude_told, stop_told}
use Rattle.source_loading.proofs.programs.load.Goals as goal

pub returns-in_err-prelude-clause-told : goal.returns-in_err-prelude-clause-told
returns-in_err-prelude-clause-told g c =
    let held = g.S.Source.files c.args.source.now in
    let entry = c.args.entry.now in
    let fault = c.in_err-prelude.field-0.0 in
    let from : c.from_residual.result ≡ Err fault = handed_on _ _ c.from_residual.ensures.1 in
    subst (λ (r : Result (List SourceFile) LoadFault). LoadTells held entry r) (sym from) (prelude_told held entry fault c.in_err-prelude.ensures)

pub returns-in_err-loading-clause-told : goal.returns-in_err-loading-clause-told
returns-in_err-loading-clause-told g c =
    let held = g.S.Source.files c.args.source.now in
    let entry = c.args.entry.now in
    let fault = c.in_err-loading.field-0.0 in
    let from : c.from_residual-in_err-loading.result ≡ Err fault = handed_on _ _ c.from_residual-in_err-loading.ensures.1 in
    subst (λ (r : Result (List SourceFile) LoadFault). LoadTells held entry r) (sym from) (stop_told held entry c.in_ok-prelude.prelude fault c.in_ok-prelude.ensures c.in_err-loading.ensures.told)

pub new-requires : goal.new-requires
new-requires g c =
    is_program (g.S.Source.files c.args.source.now) c.args.entry.now c.in_ok-files.files
    (all_loaded (g.S.Source.files c.args.source.now) c.args.entry.now c.in_ok-prelude.prelude c.in_ok-loading.loading c.in_ok-files.files c.in_ok-prelude.ensures c.in_ok-loading.ensures.told c.in_ok-files.ensures)

pub returns-clause-told : goal.returns-clause-told
returns-clause-told g c =
    subst (LoadsProgram (g.S.Source.files c.args.source.now) c.args.entry.now) (sym c.new.ensures)
    (all_loaded (g.S.Source.files c.args.source.now) c.args.entry.now c.in_ok-prelude.prelude c.in_ok-loading.loading c.in_ok-files.files c.in_ok-prelude.ensures c.in_ok-loading.ensures.told c.in_ok-files.ensures)
