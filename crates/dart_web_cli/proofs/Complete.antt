-- Where neither count rose, the words and the files decide the status, but for want of memory.
use Rattle.std.proofs.Common.{◌≡◌, ◌⊎◌, ℕ, List, Option, Some, None, refl, sym, ◌∙◌, subst, inl, inr}
use Rattle.std.specs.Prelude.{IfSome}
use Rattle.outside.specs.Outside.{Held}
use Rattle.dart_syntax.specs.declared.rules.Rule.{Rule}
use Rattle.js_tree.specs.declared.tree.NamedTree.{NamedTree}
use Rattle.dart_meaning.specs.declared.program.Statement.{Statement}
use Rattle.dart_web_cli.specs.declared.top.Status.{Status}
use Rattle.dart_web_cli.specs.declared.top.Status.TheVariants.{Ok as Fine, Refused, Usage, ReadFault, WriteFault, Memory, Threw, Spent, Left, Deep, NotInProfile, Stuck}
use Rattle.dart_web_cli.specs.Words.{IsCompile, IsRunJs, IsNoCommand}
use Rattle.dart_web_cli.specs.Refusals.{IsBroken, IsFine}
use Rattle.dart_web_cli.specs.Scripts.{AreScripts, IsOutside}
use Rattle.dart_web_cli.specs.RunLines.{end_status}
use Rattle.dart_web_cli.specs.TopCall.{Call, Means, HasNoFault, IsOrMemory, IsComplete, IsReadFault, IsScriptFault, IsSpoiled, IsCutOff, IsAbsent, IsNotInProfile, IsRun, HasRun, run_of}
use Rattle.dart_web_cli.proofs.Refusing.{fine_breaks_none}
use Rattle.dart_web_cli.proofs.Meanings.{same_runs, compile_is_no_run}
use Rattle.dart_web_cli.proofs.Spelled.{one_list, scripts_held, outside_runs_not, outside_held}

same_entry : (words : List (List ℕ)) (entry out entry' out' : List ℕ) → IsCompile words entry out → IsCompile words entry' out' → entry' ≡ entry
same_entry words entry out entry' out' a b = let e = sym b.are ∙ a.are in cc e

holds_of : (o : Option Held) (files : Held) (P : Held → Type 0) → o ≡ Some files → IfSome o P → P files
holds_of None files P e h = cc
holds_of (Some f) files P e h = let same : f ≡ files = cc in subst P same h

-- ---- no call failed

no_read_fault : (call : Call) (line : List ℕ) → HasNoFault call → IsReadFault call line ⊎ IsScriptFault call line → ⊥
no_read_fault call line quiet (inl m) = quiet.source m.rose
no_read_fault call line quiet (inr m) = quiet.source m.rose

no_write_fault : (call : Call) → HasNoFault call → IsSpoiled call ⊎ IsCutOff call → ⊥
no_write_fault call quiet (inl m) = quiet.sink m.spoils.rose
no_write_fault call quiet (inr m) = quiet.sink m.front.rose

-- ---- words of no command

no_run_of_none : (call : Call) (status : Status) → HasRun call status → IsNoCommand call.words → ⊥
no_run_of_none call status m none = none.no_run m.1.out m.1.steps m.1.order m.1.command

usage : (call : Call) (status : Status) → Means call status → HasNoFault call → IsNoCommand call.words → IsOrMemory Usage status
usage call Fine (inl m) quiet none = absurd (none.no_compile m.entry m.out m.compiled.command)
usage call Fine (inr m) quiet none = absurd (no_run_of_none call Fine m none)
usage call Refused (line, inl m, says) quiet none = absurd (none.no_compile m.entry m.out m.command)
usage call Refused (line, inr m, says) quiet none = absurd (none.no_run m.out m.steps m.order m.command)
usage call Usage m quiet none = inl refl
usage call ReadFault m quiet none = absurd (no_read_fault call m.0 quiet m.1)
usage call WriteFault m quiet none = absurd (no_write_fault call quiet m)
usage call Memory m quiet none = inr refl
usage call Threw m quiet none = absurd (no_run_of_none call Threw m none)
usage call Spent m quiet none = absurd (no_run_of_none call Spent m none)
usage call Left m quiet none = absurd (no_run_of_none call Left m none)
usage call Deep m quiet none = absurd (no_run_of_none call Deep m none)
usage call NotInProfile m quiet none = absurd (none.no_run m.1.out m.1.steps m.1.order m.1.command)
usage call Stuck m quiet none = absurd (no_run_of_none call Stuck m none)

-- ---- words of compile

no_run_compiles : (call : Call) (status : Status) (entry out : List ℕ) → HasRun call status → IsCompile call.words entry out → ⊥
no_run_compiles call status entry out m command = compile_is_no_run call.words entry out m.1.out m.1.steps m.1.order command m.1.command

refused : (call : Call) (status : Status) → Means call status → HasNoFault call → (entry out : List ℕ) (files : Held) (rule : Rule) (at : ℕ) → IsCompile call.words entry out → call.old.files ≡ Some files → IsBroken files entry rule at → IsOrMemory Refused status
refused call Fine (inl m) quiet entry out files rule at command holds broken =
    let same = same_entry call.words m.entry m.out entry out m.compiled.command command in
    absurd (fine_breaks_none files m.entry m.program rule at (holds_of call.old.files files (λ f. IsFine f m.entry m.program) holds m.compiled.fine) (subst (λ (e : List ℕ). IsBroken files e rule at) same broken))
refused call Fine (inr m) quiet entry out files rule at command holds broken = absurd (no_run_compiles call Fine entry out m command)
refused call Refused m quiet entry out files rule at command holds broken = inl refl
refused call Usage m quiet entry out files rule at command holds broken = absurd (m.1.no_command.no_compile entry out command)
refused call ReadFault m quiet entry out files rule at command holds broken = absurd (no_read_fault call m.0 quiet m.1)
refused call WriteFault m quiet entry out files rule at command holds broken = absurd (no_write_fault call quiet m)
refused call Memory m quiet entry out files rule at command holds broken = inr refl
refused call Threw m quiet entry out files rule at command holds broken = absurd (no_run_compiles call Threw entry out m command)
refused call Spent m quiet entry out files rule at command holds broken = absurd (no_run_compiles call Spent entry out m command)
refused call Left m quiet entry out files rule at command holds broken = absurd (no_run_compiles call Left entry out m command)
refused call Deep m quiet entry out files rule at command holds broken = absurd (no_run_compiles call Deep entry out m command)
refused call NotInProfile m quiet entry out files rule at command holds broken = absurd (compile_is_no_run call.words entry out m.1.out m.1.steps m.1.order command m.1.command)
refused call Stuck m quiet entry out files rule at command holds broken = absurd (no_run_compiles call Stuck entry out m command)

compiled : (call : Call) (status : Status) → Means call status → HasNoFault call → (entry out : List ℕ) (files : Held) (program : List Statement) → IsCompile call.words entry out → call.old.files ≡ Some files → IsFine files entry program → IsOrMemory Fine status
compiled call Fine m quiet entry out files program command holds fine = inl refl
compiled call Refused (line, inl m, says) quiet entry out files program command holds fine =
    let same = same_entry call.words entry out m.entry m.out command m.command in
    absurd (fine_breaks_none files entry program m.rule m.at fine (subst (λ (e : List ℕ). IsBroken files e m.rule m.at) same (holds_of call.old.files files (λ f. IsBroken f m.entry m.rule m.at) holds m.broken)))
compiled call Refused (line, inr m, says) quiet entry out files program command holds fine = absurd (compile_is_no_run call.words entry out m.out m.steps m.order command m.command)
compiled call Usage m quiet entry out files program command holds fine = absurd (m.1.no_command.no_compile entry out command)
compiled call ReadFault m quiet entry out files program command holds fine = absurd (no_read_fault call m.0 quiet m.1)
compiled call WriteFault m quiet entry out files program command holds fine = absurd (no_write_fault call quiet m)
compiled call Memory m quiet entry out files program command holds fine = inr refl
compiled call Threw m quiet entry out files program command holds fine = absurd (no_run_compiles call Threw entry out m command)
compiled call Spent m quiet entry out files program command holds fine = absurd (no_run_compiles call Spent entry out m command)
compiled call Left m quiet entry out files program command holds fine = absurd (no_run_compiles call Left entry out m command)
compiled call Deep m quiet entry out files program command holds fine = absurd (no_run_compiles call Deep entry out m command)
compiled call NotInProfile m quiet entry out files program command holds fine = absurd (compile_is_no_run call.words entry out m.1.out m.1.steps m.1.order command m.1.command)
compiled call Stuck m quiet entry out files program command holds fine = absurd (no_run_compiles call Stuck entry out m command)

-- ---- words of runjs

-- what a cause says of these words, it says of this OUT
of_absent : (call : Call) (line out : List ℕ) (steps : ℕ) (order : List ℕ) (files : Held) → IsRunJs call.words out steps order → call.old.files ≡ Some files → IsAbsent call line → files out ≡ None
of_absent call line out steps order files command holds m =
    let same = same_runs call.words m.out out m.steps steps m.order order m.command command in
    subst (λ (o : List ℕ). files o ≡ None) same.0 (holds_of call.old.files files (λ f. f m.out ≡ None) holds m.absent)

of_outside : (call : Call) (line out : List ℕ) (steps : ℕ) (order : List ℕ) (files : Held) → IsRunJs call.words out steps order → call.old.files ≡ Some files → (m : IsNotInProfile call line) → IsOutside files out m.name m.at
of_outside call line out steps order files command holds m =
    let same = same_runs call.words m.out out m.steps steps m.order order m.command command in
    subst (λ (o : List ℕ). IsOutside files o m.name m.at) same.0 (holds_of call.old.files files (λ f. IsOutside f m.out m.name m.at) holds m.outside)

of_run : (call : Call) (status : Status) (text out : List ℕ) (steps : ℕ) (order : List ℕ) (files : Held) → IsRunJs call.words out steps order → call.old.files ≡ Some files → (m : IsRun call status text) → AreScripts files out m.trees
of_run call status text out steps order files command holds m =
    let same = same_runs call.words m.out out m.steps steps m.order order m.command command in
    subst (λ (o : List ℕ). AreScripts files o m.trees) same.0 (holds_of call.old.files files (λ f. AreScripts f m.out m.trees) holds m.scripts)

runs_absent : (call : Call) (status : Status) (out : List ℕ) (steps : ℕ) (order : List ℕ) (files : Held) → HasRun call status → IsRunJs call.words out steps order → call.old.files ≡ Some files → files out ≡ None → ⊥
runs_absent call status out steps order files m command holds none = scripts_held files out m.1.trees (of_run call status m.0 out steps order files command holds m.1) none

absent : (call : Call) (status : Status) → Means call status → HasNoFault call → (out : List ℕ) (steps : ℕ) (order : List ℕ) (files : Held) → IsRunJs call.words out steps order → call.old.files ≡ Some files → files out ≡ None → IsOrMemory Refused status
absent call Fine (inl m) quiet out steps order files command holds none = absurd (compile_is_no_run call.words m.entry m.out out steps order m.compiled.command command)
absent call Fine (inr m) quiet out steps order files command holds none = absurd (runs_absent call Fine out steps order files m command holds none)
absent call Refused m quiet out steps order files command holds none = inl refl
absent call Usage m quiet out steps order files command holds none = absurd (m.1.no_command.no_run out steps order command)
absent call ReadFault m quiet out steps order files command holds none = absurd (no_read_fault call m.0 quiet m.1)
absent call WriteFault m quiet out steps order files command holds none = absurd (no_write_fault call quiet m)
absent call Memory m quiet out steps order files command holds none = inr refl
absent call Threw m quiet out steps order files command holds none = absurd (runs_absent call Threw out steps order files m command holds none)
absent call Spent m quiet out steps order files command holds none = absurd (runs_absent call Spent out steps order files m command holds none)
absent call Left m quiet out steps order files command holds none = absurd (runs_absent call Left out steps order files m command holds none)
absent call Deep m quiet out steps order files command holds none = absurd (runs_absent call Deep out steps order files m command holds none)
absent call NotInProfile m quiet out steps order files command holds none = absurd (outside_held files out m.1.name m.1.at (of_outside call m.0 out steps order files command holds m.1) none)
absent call Stuck m quiet out steps order files command holds none = absurd (runs_absent call Stuck out steps order files m command holds none)

runs_outside : (call : Call) (status : Status) (out : List ℕ) (steps : ℕ) (order : List ℕ) (files : Held) (name : List ℕ) (at : ℕ) → HasRun call status → IsRunJs call.words out steps order → call.old.files ≡ Some files → IsOutside files out name at → ⊥
runs_outside call status out steps order files name at m command holds bad = outside_runs_not files out name at m.1.trees bad (of_run call status m.0 out steps order files command holds m.1)

outside : (call : Call) (status : Status) → Means call status → HasNoFault call → (out : List ℕ) (steps : ℕ) (order : List ℕ) (files : Held) (name : List ℕ) (at : ℕ) → IsRunJs call.words out steps order → call.old.files ≡ Some files → IsOutside files out name at → IsOrMemory NotInProfile status
outside call Fine (inl m) quiet out steps order files name at command holds bad = absurd (compile_is_no_run call.words m.entry m.out out steps order m.compiled.command command)
outside call Fine (inr m) quiet out steps order files name at command holds bad = absurd (runs_outside call Fine out steps order files name at m command holds bad)
outside call Refused (line, inl m, says) quiet out steps order files name at command holds bad = absurd (compile_is_no_run call.words m.entry m.out out steps order m.command command)
outside call Refused (line, inr m, says) quiet out steps order files name at command holds bad = absurd (outside_held files out name at bad (of_absent call line out steps order files command holds m))
outside call Usage m quiet out steps order files name at command holds bad = absurd (m.1.no_command.no_run out steps order command)
outside call ReadFault m quiet out steps order files name at command holds bad = absurd (no_read_fault call m.0 quiet m.1)
outside call WriteFault m quiet out steps order files name at command holds bad = absurd (no_write_fault call quiet m)
outside call Memory m quiet out steps order files name at command holds bad = inr refl
outside call Threw m quiet out steps order files name at command holds bad = absurd (runs_outside call Threw out steps order files name at m command holds bad)
outside call Spent m quiet out steps order files name at command holds bad = absurd (runs_outside call Spent out steps order files name at m command holds bad)
outside call Left m quiet out steps order files name at command holds bad = absurd (runs_outside call Left out steps order files name at m command holds bad)
outside call Deep m quiet out steps order files name at command holds bad = absurd (runs_outside call Deep out steps order files name at m command holds bad)
outside call NotInProfile m quiet out steps order files name at command holds bad = inl refl
outside call Stuck m quiet out steps order files name at command holds bad = absurd (runs_outside call Stuck out steps order files name at m command holds bad)

abbrev EndsSo : Status → List NamedTree → List ℕ → ℕ → Type 0
EndsSo status trees order steps = IsOrMemory (end_status (run_of trees order steps).end) status

-- the run that a cause tells of is the run of these scripts
runs_so : (call : Call) (status : Status) (out : List ℕ) (steps : ℕ) (order : List ℕ) (files : Held) (trees : List NamedTree) → HasRun call status → IsRunJs call.words out steps order → call.old.files ≡ Some files → AreScripts files out trees
    → EndsSo status trees order steps
runs_so call status out steps order files trees m command holds are =
    let run = m.1 in
    let same = same_runs call.words run.out out run.steps steps run.order order run.command command in
    let list : run.trees ≡ trees = one_list files out run.trees trees (of_run call status m.0 out steps order files command holds run) are in
    let one : EndsSo status run.trees run.order run.steps = inl run.status_is in
    subst (λ (n : ℕ). EndsSo status trees order n) same.1
    (subst (λ (a : List ℕ). EndsSo status trees a run.steps) same.2
    (subst (λ (ts : List NamedTree). EndsSo status ts run.order run.steps) list one))

ran : (call : Call) (status : Status) → Means call status → HasNoFault call → (out : List ℕ) (steps : ℕ) (order : List ℕ) (files : Held) (trees : List NamedTree) → IsRunJs call.words out steps order → call.old.files ≡ Some files → AreScripts files out trees
    → EndsSo status trees order steps
ran call Fine (inl m) quiet out steps order files trees command holds are = absurd (compile_is_no_run call.words m.entry m.out out steps order m.compiled.command command)
ran call Fine (inr m) quiet out steps order files trees command holds are = runs_so call Fine out steps order files trees m command holds are
ran call Refused (line, inl m, says) quiet out steps order files trees command holds are = absurd (compile_is_no_run call.words m.entry m.out out steps order m.command command)
ran call Refused (line, inr m, says) quiet out steps order files trees command holds are = absurd (scripts_held files out trees are (of_absent call line out steps order files command holds m))
ran call Usage m quiet out steps order files trees command holds are = absurd (m.1.no_command.no_run out steps order command)
ran call ReadFault m quiet out steps order files trees command holds are = absurd (no_read_fault call m.0 quiet m.1)
ran call WriteFault m quiet out steps order files trees command holds are = absurd (no_write_fault call quiet m)
ran call Memory m quiet out steps order files trees command holds are = inr refl
ran call Threw m quiet out steps order files trees command holds are = runs_so call Threw out steps order files trees m command holds are
ran call Spent m quiet out steps order files trees command holds are = runs_so call Spent out steps order files trees m command holds are
ran call Left m quiet out steps order files trees command holds are = runs_so call Left out steps order files trees m command holds are
ran call Deep m quiet out steps order files trees command holds are = runs_so call Deep out steps order files trees m command holds are
ran call NotInProfile m quiet out steps order files trees command holds are = absurd (outside_runs_not files out m.1.name m.1.at trees (of_outside call m.0 out steps order files command holds m.1) are)
ran call Stuck m quiet out steps order files trees command holds are = runs_so call Stuck out steps order files trees m command holds are

pub complete : (call : Call) (status : Status) → Means call status → IsComplete call status
complete call status m = record {
  usage = usage call status m;
  refused = refused call status m;
  absent = absent call status m;
  outside = outside call status m;
  ran = ran call status m;
  compiled = compiled call status m;
}
