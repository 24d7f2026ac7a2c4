-- What each status of the top call means.
use Rattle.std.specs.Prelude.{◌≡◌, ◌⊎◌, ℕ, ◌≤◌, List, ◌++◌, map, Option, Some, None, IfSome, Result, MatchResult}
use Rattle.std.specs.declared.alloc.AllocError.{AllocError}
use Rattle.outside.specs.Outside.{Held, Rose, Told, OthersStay, Puts, AddsFront}
use Rattle.dart_syntax.specs.declared.rules.Rule.{Rule}
use Rattle.dart_meaning.specs.declared.program.Statement.{Statement}
use Rattle.dart_web_cli.specs.declared.top.Status.{Status}
use Rattle.dart_web_cli.specs.declared.top.Status.TheVariants.{Ok as Fine, Refused, Usage, ReadFault, WriteFault, Memory, Threw, Spent, Left, Deep, NotInProfile, Stuck}
use Rattle.dart_syntax.specs.declared.rules.Rule.TheVariants.{U1}
use Rattle.code_units.specs.declared.ends.RunEnd.{RunEnd}
use Rattle.js_tree.specs.declared.tree.NamedTree.{NamedTree}
use Rattle.js_meaning.specs.Meaning.{js_to}
use Rattle.dart_web_cli.specs.Translation.{translation, RunsAs}
use Rattle.dart_web_cli.specs.Words.{IsCompile, IsRunJs, IsNoCommand}
use Rattle.dart_web_cli.specs.Refusals.{IsBroken, IsFine}
use Rattle.dart_web_cli.specs.Scripts.{AreScripts, IsOutside, IsReadFor}
use Rattle.dart_web_cli.specs.RunLines.{run_text, end_status}
use Rattle.dart_web_cli.specs.Answers.{usage_line, refused_line, cannot_line, outside_line}

-- what a source holds, where it tells, and how often it has failed
pub record SourceState : Type 0 where
  pub files : Option Held
  pub faults : ℕ

-- the files and the text of a sink, where it tells, and how often it has failed
pub record SinkState : Type 0 where
  pub files : Option Held
  pub said : Option (List ℕ)
  pub faults : ℕ

-- one call: its words, its source before and after, and its sink before and after
pub record Call : Type 0 where
  pub words : List (List ℕ)
  pub old : SourceState
  pub new : SourceState
  pub before : SinkState
  pub now : SinkState

-- What a call did to its sink.

pub record SinkStays (before now : SinkState) : Type 0 where
  pub files : now.files ≡ before.files
  pub said : now.said ≡ before.said
  pub faults : now.faults ≡ before.faults

pub record Says (line : List ℕ) (before now : SinkState) : Type 0 where
  pub files : now.files ≡ before.files
  pub said : Told before.said now.said (λ old new. new ≡ old ++ line)
  pub faults : now.faults ≡ before.faults

pub record SaysFront (line : List ℕ) (before now : SinkState) : Type 0 where
  pub files : now.files ≡ before.files
  pub said : Told before.said now.said (AddsFront line)
  pub later : before.faults ≤ now.faults
  pub rose : Rose before.faults now.faults

-- a front was said, and nothing failed
pub record SaysPart (text : List ℕ) (before now : SinkState) : Type 0 where
  pub files : now.files ≡ before.files
  pub said : Told before.said now.said (AddsFront text)
  pub faults : now.faults ≡ before.faults

pub record PutsFile (name bytes : List ℕ) (before now : SinkState) : Type 0 where
  pub files : Told before.files now.files (Puts name bytes)
  pub said : now.said ≡ before.said
  pub faults : now.faults ≡ before.faults

pub record SpoilsFile (name : List ℕ) (before now : SinkState) : Type 0 where
  pub files : Told before.files now.files (OthersStay name)
  pub said : now.said ≡ before.said
  pub later : before.faults ≤ now.faults
  pub rose : Rose before.faults now.faults

-- Why a line is said.

-- the words are no command
pub record IsUsage (call : Call) (line : List ℕ) : Type 0 where
  pub no_command : IsNoCommand call.words
  pub source : call.new ≡ call.old
  pub line_is : line ≡ usage_line

-- the entry breaks a rule, and this is the first one, and where
pub record IsRefused (call : Call) (line : List ℕ) : Type 0 where
  pub entry : List ℕ
  pub out : List ℕ
  pub rule : Rule
  pub at : ℕ
  pub command : IsCompile call.words entry out
  pub broken : IfSome call.old.files (λ files. IsBroken files entry rule at)
  pub source : call.new ≡ call.old
  pub line_is : line ≡ refused_line rule entry at

-- a read of the entry failed
pub record IsReadFault (call : Call) (line : List ℕ) : Type 0 where
  pub entry : List ℕ
  pub out : List ℕ
  pub command : IsCompile call.words entry out
  pub files : call.new.files ≡ call.old.files
  pub later : call.old.faults ≤ call.new.faults
  pub rose : Rose call.old.faults call.new.faults
  pub line_is : line ≡ cannot_line entry

-- OUT isn't there
pub record IsAbsent (call : Call) (line : List ℕ) : Type 0 where
  pub out : List ℕ
  pub steps : ℕ
  pub order : List ℕ
  pub command : IsRunJs call.words out steps order
  pub absent : IfSome call.old.files (λ files. files out ≡ None)
  pub source : call.new ≡ call.old
  pub line_is : line ≡ refused_line U1 out 0

-- a read of OUT or of a shard failed
pub record IsScriptFault (call : Call) (line : List ℕ) : Type 0 where
  pub out : List ℕ
  pub steps : ℕ
  pub order : List ℕ
  pub name : List ℕ
  pub command : IsRunJs call.words out steps order
  pub read_for : IsReadFor out name
  pub files : call.new.files ≡ call.old.files
  pub later : call.old.faults ≤ call.new.faults
  pub rose : Rose call.old.faults call.new.faults
  pub line_is : line ≡ cannot_line name

-- a file is not in the subset, and this is the first one, and where
pub record IsNotInProfile (call : Call) (line : List ℕ) : Type 0 where
  pub out : List ℕ
  pub steps : ℕ
  pub order : List ℕ
  pub name : List ℕ
  pub at : ℕ
  pub command : IsRunJs call.words out steps order
  pub outside : IfSome call.old.files (λ files. IsOutside files out name at)
  pub source : call.new ≡ call.old
  pub line_is : line ≡ outside_line name at

-- the files have a run, of so many steps and by this order, in which at most 3,999 steps are nested
abbrev pub run_of : List NamedTree → List ℕ → ℕ → RunEnd
run_of trees order steps = js_to trees 3999 order steps

-- a run ends with this status, and this is said of it
pub record IsRun (call : Call) (status : Status) (text : List ℕ) : Type 0 where
  pub out : List ℕ
  pub steps : ℕ
  pub order : List ℕ
  pub trees : List NamedTree
  pub command : IsRunJs call.words out steps order
  pub scripts : IfSome call.old.files (λ files. AreScripts files out trees)
  pub source : call.new ≡ call.old
  pub status_is : status ≡ end_status (run_of trees order steps).end
  pub text_is : text ≡ run_text steps (map (λ tree. tree.name) trees) (run_of trees order steps)

-- why this was to be said
abbrev pub IsCauseOf : Call → List ℕ → Type 0
IsCauseOf call text =
    IsUsage call text ⊎ (IsRefused call text ⊎ (IsReadFault call text ⊎ (IsAbsent call text ⊎ (IsScriptFault call text ⊎ (IsNotInProfile call text ⊎ ((status : Status) × IsRun call status text))))))

-- Why a file is put: the entry has a program, whose translation runs as it does.
pub record IsCompiled (call : Call) (entry out : List ℕ) (program : List Statement) : Type 0 where
  pub command : IsCompile call.words entry out
  pub fine : IfSome call.old.files (λ files. IsFine files entry program)
  pub runs : RunsAs program out (translation program)
  pub source : call.new ≡ call.old

-- The headline: the file put is the translation of the entry's program, and read back it runs as that does.
pub record IsDone (call : Call) : Type 0 where
  pub entry : List ℕ
  pub out : List ℕ
  pub program : List Statement
  pub compiled : IsCompiled call entry out program
  pub put : PutsFile out (translation program) call.before call.now

-- the put of the translation failed
pub record IsSpoiled (call : Call) : Type 0 where
  pub entry : List ℕ
  pub out : List ℕ
  pub program : List Statement
  pub compiled : IsCompiled call entry out program
  pub spoils : SpoilsFile out call.before call.now

-- a front of a line was said, and then saying failed
pub record IsCutOff (call : Call) : Type 0 where
  pub line : List ℕ
  pub cause : IsCauseOf call line
  pub front : SaysFront line call.before call.now

-- nothing was put or said
pub record IsWithoutMemory (call : Call) : Type 0 where
  pub files : call.new.files ≡ call.old.files
  pub later : call.old.faults ≤ call.new.faults
  pub sink : SinkStays call.before call.now

-- a front of what a run says was said, and then memory was wanting for the rest
pub record IsCutShort (call : Call) : Type 0 where
  pub status : Status
  pub text : List ℕ
  pub run : IsRun call status text
  pub front : SaysPart text call.before call.now

-- a run ended with this status, and all of it was said
abbrev pub HasRun : Call → Status → Type 0
HasRun call status = (text : List ℕ) × IsRun call status text × Says text call.before call.now

-- Each status with its cause, and what it leaves.
abbrev pub Means : Call → Status → Type 0
Means call Fine = IsDone call ⊎ HasRun call Fine
Means call Refused = (line : List ℕ) × (IsRefused call line ⊎ IsAbsent call line) × Says line call.before call.now
Means call Usage = (line : List ℕ) × IsUsage call line × Says line call.before call.now
Means call ReadFault = (line : List ℕ) × (IsReadFault call line ⊎ IsScriptFault call line) × Says line call.before call.now
Means call WriteFault = IsSpoiled call ⊎ IsCutOff call
Means call Memory = IsWithoutMemory call ⊎ IsCutShort call
Means call Threw = HasRun call Threw
Means call Spent = HasRun call Spent
Means call Left = HasRun call Left
Means call Deep = HasRun call Deep
Means call NotInProfile = (line : List ℕ) × IsNotInProfile call line × Says line call.before call.now
Means call Stuck = HasRun call Stuck

-- Neither count rose in this call.
pub record HasNoFault (call : Call) : Type 0 where
  pub source : Rose call.old.faults call.new.faults → ⊥
  pub sink : Rose call.before.faults call.now.faults → ⊥

abbrev pub IsOrMemory : Status → Status → Type 0
IsOrMemory wanted status = (status ≡ wanted) ⊎ (status ≡ Memory)

-- Where neither count rose and the source tells what it holds, the words and the files decide the status, but for want of
-- memory.
pub record IsComplete (call : Call) (status : Status) : Type 0 where
  pub usage : HasNoFault call → IsNoCommand call.words → IsOrMemory Usage status
  pub refused : HasNoFault call → (entry out : List ℕ) (files : Held) (rule : Rule) (at : ℕ) → IsCompile call.words entry out → call.old.files ≡ Some files → IsBroken files entry rule at → IsOrMemory Refused status
  pub absent : HasNoFault call → (out : List ℕ) (steps : ℕ) (order : List ℕ) (files : Held) → IsRunJs call.words out steps order → call.old.files ≡ Some files → files out ≡ None → IsOrMemory Refused status
  pub outside : HasNoFault call → (out : List ℕ) (steps : ℕ) (order : List ℕ) (files : Held) (name : List ℕ) (at : ℕ) → IsRunJs call.words out steps order → call.old.files ≡ Some files → IsOutside files out name at → IsOrMemory NotInProfile status
  pub ran : HasNoFault call → (out : List ℕ) (steps : ℕ) (order : List ℕ) (files : Held) (trees : List NamedTree) → IsRunJs call.words out steps order → call.old.files ≡ Some files → AreScripts files out trees → IsOrMemory (end_status (run_of trees order steps).end) status
  pub compiled : HasNoFault call → (entry out : List ℕ) (files : Held) (program : List Statement) → IsCompile call.words entry out → call.old.files ≡ Some files → IsFine files entry program → IsOrMemory Fine status

-- what saying a line comes to
abbrev pub Finishes : Status → Result (List ℕ) AllocError → SinkState → SinkState → Status → Type 0
Finishes status line before now result =
    MatchResult line (λ text. ((result ≡ status) × Says text before now) ⊎ ((result ≡ WriteFault) × SaysFront text before now)) (λ _. (result ≡ Memory) × SinkStays before now)

-- the number that the program ends with
abbrev pub code_of : Status → ℕ
code_of Fine = 0
code_of Refused = 1
code_of Usage = 2
code_of ReadFault = 3
code_of WriteFault = 4
code_of Memory = 5
code_of Threw = 6
code_of Spent = 7
code_of Left = 8
code_of Deep = 9
code_of NotInProfile = 10
code_of Stuck = 11
