-- What the end of a run means of a call.
use Rattle.std.proofs.Common.{◌≡◌, ℕ, ◌≤◌, List, map, None, Result, refl, inl, inr, arith}
use Rattle.std.specs.Prelude.{IfSome, IfOk}
use Rattle.std.specs.declared.alloc.AllocError.{AllocError}
use Rattle.outside.specs.Outside.{Rose}
use Rattle.dart_syntax.specs.declared.rules.Rule.TheVariants.{U1}
use Rattle.code_units.specs.declared.ends.End.{End}
use Rattle.code_units.specs.declared.ends.End.TheVariants as ends
use Rattle.js_tree.specs.declared.tree.NamedTree.{NamedTree}
use Rattle.dart_web_cli.specs.declared.top.Status.{Status}
use Rattle.dart_web_cli.specs.declared.top.Status.TheVariants.{Refused, ReadFault, WriteFault, Memory, NotInProfile}
use Rattle.dart_web_cli.specs.Words.{IsRunJs}
use Rattle.dart_web_cli.specs.Scripts.{AreScripts, IsOutside, IsReadFor}
use Rattle.dart_web_cli.specs.RunLines.{run_text, end_status}
use Rattle.dart_web_cli.specs.Answers.{refused_line, cannot_line, outside_line}
use Rattle.dart_web_cli.specs.TopCall.{SourceState, Call, SinkStays, IsAbsent, IsScriptFault, IsNotInProfile, IsRun, HasRun, Means, Finishes, run_of}
use Rattle.dart_web_cli.specs.RunAnswers.{IsToldOf, told, failed, cut, IsToldOfRun}
use Rattle.dart_web_cli.proofs.Finished.{finished}

-- an end and its status
ended : (call : Call) (end : End) → HasRun call (end_status end) → Means call (end_status end)
ended call ends.Done h = inr h
ended call (ends.Threw shown) h = h
ended call ends.Spent h = h
ended call ends.Left h = h
ended call ends.Deep h = h
ended call (ends.Stuck file at) h = h

told_means : (call : Call) (text : List ℕ) (end : End) (status : Status) → IsRun call (end_status end) text → IsToldOf text (end_status end) call.before call.now status → Means call status
told_means call text end status run (told h) = ended call end (text, run, h)
told_means call text end status run (failed h) = inr (record { line = text; cause = inr (inr (inr (inr (inr (inr (end_status end, run)))))); front = h })
told_means call text end status run (cut h) = inr (record { status = end_status end; text = text; run = run; front = h })

pub run_means : (call : Call) (out : List ℕ) (steps : ℕ) (order : List ℕ) (trees : List NamedTree) (status : Status) → IsRunJs call.words out steps order → IfSome call.old.files (λ files. AreScripts files out trees) → call.new ≡ call.old
    → IsToldOfRun trees order steps call.before call.now status → Means call status
run_means call out steps order trees status command scripts source h =
    let end = run_of trees order steps in
    let run : IsRun call (end_status end.end) (run_text steps (map (λ tree. tree.name) trees) end) = record { out = out; steps = steps; order = order; trees = trees; command = command; scripts = scripts; source = source; status_is = refl; text_is = refl } in
    told_means call (run_text steps (map (λ tree. tree.name) trees) end) end.end status run h

-- ---- where there is nothing to run

-- a source that told the same and had no fault
pub same_source : (old new : SourceState) → new.files ≡ old.files → new.faults ≡ old.faults → new ≡ old
same_source old new files faults = λ i. record { files = files i; faults = faults i }

at_most : (m n : ℕ) → m ≡ n → n ≤ m
at_most m n e = omega arith

without_memory : (call : Call) → call.new.files ≡ call.old.files → call.old.faults ≤ call.new.faults → SinkStays call.before call.now → Means call Memory
without_memory call files later stays = inl (record { files = files; later = later; sink = stays })

pub absent_means : (call : Call) (out : List ℕ) (steps : ℕ) (order : List ℕ) (made : Result (List ℕ) AllocError) (status : Status) → IsRunJs call.words out steps order → IfSome call.old.files (λ files. files out ≡ None)
    → call.new.files ≡ call.old.files → call.new.faults ≡ call.old.faults → IfOk made (λ l. l ≡ refused_line U1 out 0) → Finishes Refused made call.before call.now status → Means call status
absent_means call out steps order made status command none files faults is h =
    let why : IsAbsent call (refused_line U1 out 0) = record { out = out; steps = steps; order = order; command = command; absent = none; source = same_source call.old call.new files faults; line_is = refl } in
    finished call Refused made status (refused_line U1 out 0) is
    (λ says. (refused_line U1 out 0, inr why, says))
    (λ front. inr (record { line = refused_line U1 out 0; cause = inr (inr (inr (inl why))); front = front }))
    (λ stays. without_memory call files (at_most call.new.faults call.old.faults faults) stays)
    h

pub outside_means : (call : Call) (out : List ℕ) (steps : ℕ) (order : List ℕ) (name : List ℕ) (at : ℕ) (made : Result (List ℕ) AllocError) (status : Status) → IsRunJs call.words out steps order → IfSome call.old.files (λ files. IsOutside files out name at)
    → call.new.files ≡ call.old.files → call.new.faults ≡ call.old.faults → IfOk made (λ l. l ≡ outside_line name at) → Finishes NotInProfile made call.before call.now status → Means call status
outside_means call out steps order name at made status command bad files faults is h =
    let why : IsNotInProfile call (outside_line name at) = record { out = out; steps = steps; order = order; name = name; at = at; command = command; outside = bad; source = same_source call.old call.new files faults; line_is = refl } in
    finished call NotInProfile made status (outside_line name at) is
    (λ says. (outside_line name at, why, says))
    (λ front. inr (record { line = outside_line name at; cause = inr (inr (inr (inr (inr (inl why))))); front = front }))
    (λ stays. without_memory call files (at_most call.new.faults call.old.faults faults) stays)
    h

pub failed_means : (call : Call) (out : List ℕ) (steps : ℕ) (order : List ℕ) (name : List ℕ) (made : Result (List ℕ) AllocError) (status : Status) → IsRunJs call.words out steps order → IsReadFor out name
    → call.new.files ≡ call.old.files → call.old.faults ≤ call.new.faults → Rose call.old.faults call.new.faults → IfOk made (λ l. l ≡ cannot_line name) → Finishes ReadFault made call.before call.now status → Means call status
failed_means call out steps order name made status command may files later rose is h =
    let why : IsScriptFault call (cannot_line name) = record { out = out; steps = steps; order = order; name = name; command = command; read_for = may; files = files; later = later; rose = rose; line_is = refl } in
    finished call ReadFault made status (cannot_line name) is
    (λ says. (cannot_line name, inr why, says))
    (λ front. inr (record { line = cannot_line name; cause = inr (inr (inr (inr (inl why)))); front = front }))
    (λ stays. without_memory call files later stays)
    h
