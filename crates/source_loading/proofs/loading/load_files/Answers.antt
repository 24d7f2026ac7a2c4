use Rattle.std.proofs.Common.{◌≡◌, [], ◌∷◌, Option, Ok, refl, ◌∙◌, subst}
use Rattle.outside.specs.Outside.{Held}
use Rattle.dart_program.specs.Loading.{asked_first}
use Rattle.source_loading.specs.declared.files.LoadedFile.{LoadedFile}
use Rattle.source_loading.specs.Progress.{NextTells}
use Rattle.source_loading.proofs.Loop.{begun, one_loaded}
use Rattle.source_loading.proofs.loading.load_files.Goals as goal

pub loop-loading-init : goal.loop-loading-init
loop-loading-init g c =
    let made : (c.in_ok-loading.loading.files.items ≡ []) × (c.in_ok-loading.loading.asks ≡ asked_first c.args.entry.now ∷ []) × (c.in_ok-loading.loading.size ≡ 0) = c.in_ok-loading.ensures in
    record { files = refl; faults = refl; so = begun (g.S.Source.files c.args.source.now) c.args.entry.now c.in_ok-loading.loading made.0 made.1 made.2 }

pub loop-loading-preserved : goal.loop-loading-preserved
loop-loading-preserved g c =
    let held = g.S.Source.files c.args.source.now in
    let entry = c.args.entry.now in
    let told = subst (λ (h : Option Held). NextTells h entry c.loop-loading.loading (Ok c.in_ok-file.field-0)) c.loop-loading.invariant.files c.in_ok-file.ensures.told in
    let progress = subst (λ (o : Option LoadedFile). NextTells held entry c.loop-loading.loading (Ok o)) c.in-Some.is told in
    record {
      files = c.in_ok-file.ensures.unchanged ∙ c.loop-loading.invariant.files;
      faults = c.in_ok-file.ensures.cause ∙ c.loop-loading.invariant.faults;
      so = one_loaded held entry c.loop-loading.loading c.push.new.self c.in-Some.file c.loop-loading.invariant.so progress c.in_ok-push.ensures.files c.in_ok-push.ensures.size c.in_ok-push.ensures.asks;
    }
