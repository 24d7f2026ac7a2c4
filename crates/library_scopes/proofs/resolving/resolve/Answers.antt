use Rattle.std.proofs.Common.{sym, ap, ◌∙◌}
use Rattle.library_scopes.specs.declared.libraries.Scopes.{Scopes}
use Rattle.library_scopes.specs.Libraries.{scopes_of}
use Rattle.library_scopes.specs.First.{first_from}
use Rattle.library_scopes.proofs.Firsts.{found_is_first}
use Rattle.library_scopes.proofs.resolving.resolve.Goals as goal

pub returns-in-Some-clause-broken : goal.returns-in-Some-clause-broken
returns-in-Some-clause-broken c =
    let files = c.as_slice-files.ensures ∙ c.files.ensures.files in
    let scopes = c.in_ok-scopes.ensures ∙ ap scopes_of files in
    found_is_first c.args.program.now c.in-Some.refusal
    (ap (λ (s : Scopes). first_from s 0 s.libraries c.args.program.now) (sym scopes)
    ∙ ap (first_from c.in_ok-scopes.scopes 0 c.in_ok-scopes.scopes.libraries) (sym files)
    ∙ sym c.in_ok-refusal.ensures
    ∙ c.in-Some.is)
