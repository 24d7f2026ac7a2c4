use Rattle.std.proofs.Common.{◌≡◌, ℕ, Some, Err, ◌∙◌, subst}
use Rattle.std.specs.Prelude.{slice_get}
use Rattle.source_loading.specs.Asking.{asked_of}
use Rattle.source_loading.specs.Files.{OfSome, IsFineFile, FileTells}
use Rattle.source_loading.proofs.Nexts.{next_at}
use Rattle.source_loading.proofs.Steps.{advanced, fault_told}
use Rattle.source_loading.proofs.loading.load_next.Goals as goal

pub returns-in-Ok-clause-told : goal.returns-in-Ok-clause-told
returns-in-Ok-clause-told g c =
    let got : Some (asked_of c.in-Some.asked.now) ≡ slice_get c.args.loading.now.asks c.len.result = c.in-Some.ensures in
    advanced (g.S.Source.files c.args.source.now) c.args.entry.now c.args.loading.now.files.items c.args.loading.now.size (asked_of c.in-Some.asked.now) c.requires.progress
    (next_at (g.S.Source.files c.args.source.now) c.args.entry.now c.args.loading.now c.len.result (asked_of c.in-Some.asked.now) c.requires (c.len.ensures ∙ c.args.loading.now.files.ok.0) got)
    c.in-Ok.file
    (subst (λ (n : ℕ). OfSome (g.S.Source.files c.args.source.now) (asked_of c.in-Some.asked.now) (IsFineFile n c.args.loading.now.size (asked_of c.in-Some.asked.now) c.in-Ok.file)) c.number-number.ensures c.in-Ok.ensures.told)

pub returns-in-Err-clause-told : goal.returns-in-Err-clause-told
returns-in-Err-clause-told g c =
    let got : Some (asked_of c.in-Some.asked.now) ≡ slice_get c.args.loading.now.asks c.len.result = c.in-Some.ensures in
    fault_told (g.S.Source.files c.args.source.now) c.args.entry.now c.args.loading.now.files.items c.args.loading.now.size (asked_of c.in-Some.asked.now) c.requires.progress
    (next_at (g.S.Source.files c.args.source.now) c.args.entry.now c.args.loading.now c.len.result (asked_of c.in-Some.asked.now) c.requires (c.len.ensures ∙ c.args.loading.now.files.ok.0) got)
    c.in-Err.fault c.fault_of.result
    (subst (λ (n : ℕ). FileTells (g.S.Source.files c.args.source.now) n c.args.loading.now.size (asked_of c.in-Some.asked.now) (Err c.in-Err.fault)) c.number-number.ensures c.in-Err.ensures.told)
    c.fault_of.ensures
