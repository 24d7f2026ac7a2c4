-- The nodes of the language, and how a part of a run ends.
use Rattle.std.specs.Prelude.{ℕ, List, Option, Some, None, Result, Ok, Err}
use Rattle.code_units.specs.declared.ends.Shown.{Shown}
use Rattle.meanings.specs.Act.{Act, fin, quit, Halt, Left, Stuck, Res, Fin, Spent, Cut, Deep, Begin, turns}
use Rattle.js_tree.specs.declared.tree.JsExpr.{JsExpr}
use Rattle.js_tree.specs.declared.tree.JsStmt.{JsStmt}
use Rattle.store_lists.specs.Text.{Text}
use Rattle.js_store.specs.Names.{Name}
use Rattle.js_meaning.specs.declared.state.Realm.{Realm}
use Rattle.js_store.specs.declared.value.Value.{Value}
use Rattle.js_meaning.specs.declared.state.Spot.{Spot}
use Rattle.js_meaning.specs.declared.state.Around.{Around}
use Rattle.js_meaning.specs.declared.state.Here.{Here}
use Rattle.js_meaning.specs.declared.state.Callee.{Callee}
use Rattle.js_meaning.specs.declared.state.Leave.{Leave as Leaving}
use Rattle.js_meaning.specs.declared.state.Jump.{Jump}
use Rattle.js_meaning.specs.declared.state.Jump.TheVariants.{Stop, Leave}
use Rattle.js_meaning.specs.declared.state.Stop.TheVariants.{Memory, Range, NoRule, Steps, Depth}
use Rattle.js_meaning.specs.declared.state.State.{State}

-- what begins as one step
pub data Node : Type 0 where
  -- a statement, in the blocks of these labels
  Statement : Around → List Name → JsStmt → Node
  -- a `var` of a file
  Variable : Here → Name → JsExpr → Node
  -- a turn of a loop
  Turn : Around → List Name → List JsStmt → Node
  -- a call, by the statement or `var` at this place
  Call : Spot → Callee → List Value → Node

-- how a node completes (6.2.4): normally, with a value, or by what leaves it
pub data Comp : Type 0 where
  Normal : Comp
  Gives : Value → Comp
  Leaves : Leaving → Comp
  -- the whole run, by a throw that nothing caught
  Threw : Shown → Comp

abbrev pub Texts : Type 0
Texts = List Text

abbrev pub A : Type 0
A = Act Node Realm Comp

abbrev pub Ending : Type 0
Ending = Res Realm Comp Text

abbrev pub Starts : Type 0
Starts = Begin Node Realm Comp Text

-- how a part of a run is over before it gave a value
pub data Stopped : Type 0 where
  Left' : Leaving → Realm → ℕ → Texts → Stopped
  NoSteps : Texts → Stopped
  Halted : Halt → Texts → Stopped
  NoDepth : Texts → Stopped

abbrev pub ending : Stopped → Ending
ending (Left' l c n o) = Fin (Leaves l) c n o
ending (NoSteps o) = Spent o
ending (Halted h o) = Cut h o
ending (NoDepth o) = Deep o

-- a value and the state behind it, or how it is over
pub data Out (T : Type 0) : Type 0 where
  Done : T → State → Out T
  Ends : Stopped → Out T

abbrev pub chain : {T U : Type 0} → Out T → (T → State → Out U) → Out U
chain (Done a s) f = f a s
chain (Ends r) f = Ends r

abbrev pub shut : {T : Type 0} → Out T → (T → State → Ending) → Ending
shut (Done a s) f = f a s
shut (Ends r) f = ending r

abbrev pub state : Realm → ℕ → Texts → State
state c n o = record { steps = n; realm = c; output = o }

-- where a part is over with a completion
abbrev pub over : Comp → State → Ending
over r s = Fin r s.realm s.steps s.output

abbrev pub value : Value → State → Ending
value v s = over (Gives v) s

abbrev pub normal : Unit {0} → State → Ending
normal u s = over Normal s

-- The value of a node, the end of one that gives none, and the end of a loop, whose every turn but the last is normal.
-- A node that is to give a value never ends as a statement does, nor the other way round, and a loop never ends so.
abbrev pub value_out : Ending → Out Value
value_out (Fin (Gives v) c n o) = Done v (state c n o)
value_out (Fin Normal c n o) = Ends (Halted Left o)
value_out (Fin (Leaves l) c n o) = Ends (Left' l c n o)
value_out (Fin (Threw t) c n o) = Ends (Halted Left o)
value_out (Spent o) = Ends (NoSteps o)
value_out (Cut h o) = Ends (Halted h o)
value_out (Deep o) = Ends (NoDepth o)

abbrev pub normal_out : Ending → Out (Unit {0})
normal_out (Fin (Gives v) c n o) = Ends (Halted Left o)
normal_out (Fin Normal c n o) = Done tt (state c n o)
normal_out (Fin (Leaves l) c n o) = Ends (Left' l c n o)
normal_out (Fin (Threw t) c n o) = Ends (Halted Left o)
normal_out (Spent o) = Ends (NoSteps o)
normal_out (Cut h o) = Ends (Halted h o)
normal_out (Deep o) = Ends (NoDepth o)

abbrev pub loop_out : Ending → Out (Unit {0})
loop_out (Fin (Gives v) c n o) = Ends (Halted Left o)
loop_out (Fin Normal c n o) = Ends (Halted Left o)
loop_out (Fin (Leaves l) c n o) = Ends (Left' l c n o)
loop_out (Fin (Threw t) c n o) = Ends (Halted Left o)
loop_out (Spent o) = Ends (NoSteps o)
loop_out (Cut h o) = Ends (Halted h o)
loop_out (Deep o) = Ends (NoDepth o)

abbrev pub with_value : Comp → Realm → (Value → Realm → A) → A
with_value (Gives v) c k = k v c
with_value Normal c k = quit Left
with_value (Leaves l) c k = fin (Leaves l) c
with_value (Threw t) c k = quit Left

abbrev pub with_normal : Comp → Realm → (Unit {0} → Realm → A) → A
with_normal (Gives v) c k = quit Left
with_normal Normal c k = k tt c
with_normal (Leaves l) c k = fin (Leaves l) c
with_normal (Threw t) c k = quit Left

abbrev pub after_loop : Comp → Realm → A
after_loop (Gives v) c = quit Left
after_loop Normal c = quit Left
after_loop (Leaves l) c = fin (Leaves l) c
after_loop (Threw t) c = quit Left

-- the same turn again, behind one that completed normally
abbrev pub again : Node → Comp → Option Node
again x Normal = Some x
again x (Gives v) = None
again x (Leaves l) = None
again x (Threw t) = None

abbrev pub attempted : Out (Unit {0}) → Out (Result (Unit {0}) Leaving)
attempted (Done a s) = Done (Ok a) s
attempted (Ends (Left' l c n o)) = Done (Err l) (state c n o)
attempted (Ends (NoSteps o)) = Ends (NoSteps o)
attempted (Ends (Halted h o)) = Ends (Halted h o)
attempted (Ends (NoDepth o)) = Ends (NoDepth o)

abbrev pub caught : Comp → Realm → (Result (Unit {0}) Leaving → Realm → A) → A
caught (Gives v) c k = quit Left
caught Normal c k = k (Ok tt) c
caught (Leaves l) c k = k (Err l) c
caught (Threw t) c k = quit Left

-- how a part is over by a jump of the code
abbrev pub jumps : Jump → State → Stopped
jumps (Leave l) s = Left' l s.realm s.steps s.output
jumps (Stop Steps) s = NoSteps s.output
jumps (Stop Range) s = Halted Left s.output
jumps (Stop (NoRule spot)) s = Halted (Stuck spot.file spot.at) s.output
jumps (Stop Depth) s = NoDepth s.output
-- nothing is said of a run that memory failed
jumps (Stop Memory) s = Halted Left s.output

-- so many turns at most
abbrev pub turns_out : Starts → ℕ → Node → State → Out (Unit {0})
turns_out b f x s = loop_out (turns b f x (again x) s.realm s.steps s.output)
