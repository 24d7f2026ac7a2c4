-- What a function of the code gives, and what the functions that it is passed give.
use Rattle.std.specs.Prelude.{◌≡◌, ◌≢◌, ℕ, List, Result, Ok, Err}
use denote.Ref.{Bor, MutBor}
use Rattle.js_tree.specs.declared.tree.JsExpr.{JsExpr}
use Rattle.js_tree.specs.declared.tree.JsStmt.{JsStmt}
use Rattle.js_store.specs.Names.{Name}
use Rattle.js_store.specs.declared.value.Value.{Value}
use Rattle.js_meaning.specs.declared.forms.Level.{Level}
use Rattle.js_meaning.specs.declared.state.Spot.{Spot}
use Rattle.js_meaning.specs.declared.state.Around.{Around}
use Rattle.js_meaning.specs.declared.state.Here.{Here}
use Rattle.js_meaning.specs.declared.state.Callee.{Callee}
use Rattle.js_meaning.specs.declared.state.Jump.{Jump}
use Rattle.js_meaning.specs.declared.state.Leave.{Leave as Leaving}
use Rattle.js_meaning.specs.declared.state.Jump.TheVariants.{Stop, Leave}
use Rattle.js_meaning.specs.declared.state.Stop.TheVariants.{Memory}
use Rattle.js_meaning.specs.declared.state.State.{State}
use Rattle.js_meaning.specs.Machine.{Out, Done, Ends, Turn, jumps}
use Rattle.js_meaning.specs.Prog.{Prog, perform, does, call}
use Rattle.js_meaning.specs.Trees.{expr}
use Rattle.js_meaning.specs.Meaning.{to}

-- what was returned is the outcome, unless memory failed
abbrev pub IsOutcome : {T : Type 0} → Out T → Result T Jump → State → Type 0
IsOutcome out (Ok a) new = out ≡ Done a new
IsOutcome out (Err j) new = j ≢ Stop Memory → out ≡ Ends (jumps j new)

-- what a part gives, where what it begins is nested at most so deep
abbrev pub at : {T : Type 0} → Prog T → ℕ → State → Out T
at p d s = p.run (to d) s

-- what is caught of what was returned
abbrev pub settled : Result (Unit {0}) Jump → Result (Result (Unit {0}) Leaving) Jump
settled (Ok a) = Ok (Ok a)
settled (Err (Leave l)) = Ok (Err l)
settled (Err (Stop x)) = Err (Stop x)

-- The functions that a form is passed, for expressions and statements, turns of loops and calls. `room` bounds how deep
-- the code may go, and where it is used up memory is wanting; `level.depth` bounds how many steps may be nested.
pub record Nests (room : ℕ) (level : Level)
    (eval_pre : Level → ℕ → Bor Here → MutBor State → Bor JsExpr → Type 0) (eval_post : Level → ℕ → Bor Here → MutBor State → Bor JsExpr → Result Value Jump → MutBor State → Type 0)
    (exec_pre : Level → ℕ → Bor Around → Bor (List Name) → MutBor State → Bor JsStmt → Type 0) (exec_post : Level → ℕ → Bor Around → Bor (List Name) → MutBor State → Bor JsStmt → Result (Unit {0}) Jump → MutBor State → Type 0)
    (turn_pre : Level → ℕ → Bor Around → Bor (List Name) → MutBor State → Bor (List JsStmt) → Type 0) (turn_post : Level → ℕ → Bor Around → Bor (List Name) → MutBor State → Bor (List JsStmt) → Result (Unit {0}) Jump → MutBor State → Type 0)
    (call_pre : Level → ℕ → Spot → MutBor State → Callee → List Value → Type 0) (call_post : Level → ℕ → Spot → MutBor State → Callee → List Value → Result Value Jump → MutBor State → Type 0) : Type 0 where
  pub can_eval : (here : Bor Here) (old : MutBor State) (e : Bor JsExpr) → eval_pre level room here old e
  pub evals : (here : Bor Here) (old new : MutBor State) (e : Bor JsExpr) (r : Result Value Jump) → eval_post level room here old e r new
      → IsOutcome (at ((expr e.now).does here.now) level.depth old.now) r new.now
  pub can_exec : (around : Bor Around) (labels : Bor (List Name)) (old : MutBor State) (c : Bor JsStmt) → exec_pre level room around labels old c
  pub execs : (around : Bor Around) (labels : Bor (List Name)) (old new : MutBor State) (c : Bor JsStmt) (r : Result (Unit {0}) Jump) → exec_post level room around labels old c r new
      → IsOutcome (at (perform around.now labels.now c.now) level.depth old.now) r new.now
  pub can_turn : (around : Bor Around) (labels : Bor (List Name)) (old : MutBor State) (body : Bor (List JsStmt)) → turn_pre level room around labels old body
  pub turns : (around : Bor Around) (labels : Bor (List Name)) (old new : MutBor State) (body : Bor (List JsStmt)) (r : Result (Unit {0}) Jump) → turn_post level room around labels old body r new
      → IsOutcome (at (does (Turn around.now labels.now body.now)) level.depth old.now) r new.now
  pub can_call : (spot : Spot) (old : MutBor State) (f : Callee) (vs : List Value) → call_pre level room spot old f vs
  pub calls : (spot : Spot) (old new : MutBor State) (f : Callee) (vs : List Value) (r : Result Value Jump) → call_post level room spot old f vs r new
      → IsOutcome (at (call spot f vs) level.depth old.now) r new.now
