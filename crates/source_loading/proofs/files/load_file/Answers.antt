use Rattle.std.proofs.Common.{List, ℕ, Some, None, sym, ap, ◌∙◌, subst}
use Rattle.outside.specs.declared.traits.Read.TheVariants.{Got}
use Rattle.source_loading.specs.Reading.{ComesBack, Holds, ReadsAs}
use Rattle.source_loading.specs.Asking.{asked_of}
use Rattle.source_loading.specs.Files.{Judges}
use Rattle.source_loading.proofs.Within.{nameless_told, absent_told, got_told}
use Rattle.source_loading.proofs.files.load_file.Goals as goal

pub returns-in_default-clause-told : goal.returns-in_default-clause-told
returns-in_default-clause-told g c = nameless_told (g.S.Source.files c.args.source.now) c.args.number c.args.before (asked_of c.args.asked.now) c.in_default.is

pub returns-in-Got-clause-told : goal.returns-in-Got-clause-told
returns-in-Got-clause-told g c =
    got_told (g.S.Source.files c.args.source.now) c.args.number c.args.before (asked_of c.args.asked.now) c.in_ok-name.name c.in-Got.bytes c.judged.result
    (c.in-Some.is ∙ ap (λ (name : List ℕ). Some name) (sym c.in_ok-name.ensures))
    (subst ComesBack c.as_slice.ensures c.in-Got.ensures.name)
    (subst (λ (name : List ℕ). ReadsAs (g.S.Source.files c.args.source.now) name (Got c.in-Got.bytes)) c.as_slice.ensures c.in-Got.ensures.told)
    (subst (λ (bytes : List ℕ). Judges c.args.number c.args.before c.in_ok-name.name bytes c.judged.result) c.as_slice-in-Got.ensures c.judged.ensures)

pub returns-in-Absent-clause-told : goal.returns-in-Absent-clause-told
returns-in-Absent-clause-told g c =
    absent_told (g.S.Source.files c.args.source.now) c.args.number c.args.before (asked_of c.args.asked.now) c.in_ok-name.name
    (c.in-Some.is ∙ ap (λ (name : List ℕ). Some name) (sym c.in_ok-name.ensures))
    (subst ComesBack c.as_slice.ensures c.in-Absent.ensures.name)
    (subst (λ (name : List ℕ). Holds (g.S.Source.files c.args.source.now) name None) c.as_slice.ensures c.in-Absent.ensures.told)
