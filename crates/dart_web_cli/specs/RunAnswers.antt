-- What saying a text comes to, and what running scripts comes to.
use Rattle.std.specs.Prelude.{ℕ, List, map, Result, Ok, Err}
use Rattle.js_tree.specs.declared.tree.NamedTree.{NamedTree}
use Rattle.dart_web_cli.specs.declared.runs.SayFault.{SayFault}
use Rattle.dart_web_cli.specs.declared.runs.SayFault.TheVariants.{Sink, Memory}
use Rattle.dart_web_cli.specs.declared.top.Status.{Status}
use Rattle.dart_web_cli.specs.declared.top.Status.TheVariants as s
use Rattle.dart_web_cli.specs.RunLines.{run_text, end_status}
use Rattle.dart_web_cli.specs.TopCall.{SinkState, Says, SaysFront, SaysPart, run_of}

-- all of it, or a front of it, behind which the sink failed or memory was wanting
abbrev pub Saying : List ℕ → Result (Unit {0}) SayFault → SinkState → SinkState → Type 0
Saying text (Ok u) before now = Says text before now
Saying text (Err Sink) before now = SaysFront text before now
Saying text (Err Memory) before now = SaysPart text before now

-- the same of the status that a run ends with
pub data IsToldOf (text : List ℕ) (wanted : Status) (before now : SinkState) : Status → Type 0 where
  told : Says text before now → IsToldOf text wanted before now wanted
  failed : SaysFront text before now → IsToldOf text wanted before now s.WriteFault
  cut : SaysPart text before now → IsToldOf text wanted before now s.Memory

abbrev pub IsToldOfRun : List NamedTree → List ℕ → ℕ → SinkState → SinkState → Status → Type 0
IsToldOfRun trees order steps = IsToldOf (run_text steps (map (λ tree. tree.name) trees) (run_of trees order steps)) (end_status (run_of trees order steps).end)
