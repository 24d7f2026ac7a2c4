-- What each form of a statement does. A statement that no rule covers is stuck at its own place.
use Rattle.std.specs.Prelude.{ℕ, Bool, true, false, if◌then◌else◌, List, [], ◌∷◌, Option, Some, None, Result, Ok, Err}
use Rattle.std.specs.List.{list_any}
use Rattle.js_tree.specs.declared.tree.JsExpr.{JsExpr}
use Rattle.js_tree.specs.declared.tree.JsPrimary.{JsPrimary}
use Rattle.js_tree.specs.declared.tree.JsHead.{JsHead}
use Rattle.js_tree.specs.declared.tree.JsSelector.{JsSelector}
use Rattle.js_tree.specs.declared.tree.JsEntry.{JsEntry}
use Rattle.js_tree.specs.declared.tree.JsFunction.{JsFunction}
use Rattle.js_tree.specs.declared.tree.JsStmt.{JsStmt, out-JsStmt}
use Rattle.js_tree.specs.declared.tree.JsExpr.TheOpen.{JsStmt-F}
use Rattle.js_store.specs.Names.{Name, same_name}
use Rattle.js_store.specs.Closure.{Env}
use Rattle.js_store.specs.Scopes.{Scope, bind}
use Rattle.js_store.specs.Values.{truth_of}
use Rattle.js_store.specs.declared.value.Value.{Value}
use Rattle.js_meaning.specs.declared.state.Spot.{Spot}
use Rattle.js_meaning.specs.declared.state.Around.{Around}
use Rattle.js_meaning.specs.declared.state.Here.{Here}
use Rattle.js_meaning.specs.declared.state.Leave.{Leave as Leaving}
use Rattle.js_meaning.specs.declared.state.Leave.TheVariants.{Break, Return, Throw}
use Rattle.js_meaning.specs.Machine.{Turn}
use Rattle.js_meaning.specs.Prog.{Prog, ◌>>=◌, ◌>>◌, pure, stuck, or_stuck, leave, attempt, perform, repeat}
use Rattle.js_meaning.specs.Stored.{enter, give, assign, set_element}
use Rattle.js_meaning.specs.Trees.{expr, primary}

abbrev pub spot : Around → ℕ → Spot
spot around at = record { file = around.file; at = at }

abbrev pub here : Around → ℕ → Here
here around at = record { spot = spot around at; env = around.env }

abbrev pub within : Around → Env → Around
within around env = record { file = around.file; env = env; in_function = around.in_function }

-- ---- blocks

abbrev pub with_let : Scope → JsStmt-F JsExpr JsHead JsSelector JsStmt JsEntry JsFunction JsPrimary → Scope
with_let scope (JsStmt-F.Let at x e) = bind scope x None
with_let scope _ = scope

-- with the names of the `let`s of a block, which have no value yet
abbrev pub with_lets : Scope → List JsStmt → Scope
with_lets scope [] = scope
with_lets scope (c ∷ more) = with_lets (with_let scope (out-JsStmt c)) more

unfoldable pub statements : Around → List Name → List JsStmt → Prog (Unit {0})
statements around labels [] = pure tt
statements around labels (c ∷ more) = perform around labels c >> statements around labels more

-- 14.2.2: each entry has a scope of its own, in which the names of the block's `let`s are absent until they have run
unfoldable pub block : Around → List Name → List JsStmt → Prog (Unit {0})
block around labels body = do
  env ← enter around.env (with_lets [] body)
  statements (within around env) labels body

-- ---- statements

-- 14.3.1.2
unfoldable pub let_value : Around → ℕ → Name → JsExpr → Prog (Unit {0})
let_value around at x e = do
  v ← (expr e).does (here around at)
  give around.env x v

-- 13.15.2: an absent name is found missing behind the value
unfoldable pub assigned : Around → ℕ → Name → JsExpr → Prog (Unit {0})
assigned around at x e = do
  v ← (expr e).does (here around at)
  assign (here around at) x v

unfoldable pub stored : Around → ℕ → JsPrimary → JsExpr → JsExpr → Prog (Unit {0})
stored around at p i e = do
  o ← (primary p).does (here around at)
  k ← (expr i).does (here around at)
  v ← (expr e).does (here around at)
  set_element (spot around at) o k v

-- 14.5.1
unfoldable pub performed : Around → ℕ → JsPrimary → Prog (Unit {0})
performed around at p = (primary p).does (here around at) >> pure tt

-- a test asks for a truth value
unfoldable pub tested : Around → ℕ → JsExpr → Prog Bool
tested around at e = (expr e).does (here around at) >>= (λ v. or_stuck (spot around at) (truth_of v))

-- 14.6.2
unfoldable pub if_holds : Around → List Name → ℕ → JsExpr → List JsStmt → Prog (Unit {0})
if_holds around labels at e holds = do
  b ← tested around at e
  if b then block around labels holds else pure tt

unfoldable pub if_else : Around → List Name → ℕ → JsExpr → List JsStmt → List JsStmt → Prog (Unit {0})
if_else around labels at e holds fails = do
  b ← tested around at e
  if b then block around labels holds else block around labels fails

-- 14.7.3.2: each turn is a step
unfoldable pub forever : Around → List Name → List JsStmt → Prog (Unit {0})
forever around labels body = repeat (Turn around labels body)

-- 14.13.4: a break with this label ends the block
abbrev pub broken_by : Name → Name → Prog (Unit {0})
broken_by label other = if same_name label other then pure tt else leave (Break other)

abbrev pub broken : Name → Result (Unit {0}) Leaving → Prog (Unit {0})
broken label (Ok u) = pure tt
broken label (Err (Break other)) = broken_by label other
broken label (Err (Return v)) = leave (Return v)
broken label (Err (Throw v from)) = leave (Throw v from)

unfoldable pub labelled : Around → List Name → Name → List JsStmt → Prog (Unit {0})
labelled around labels label body = do
  o ← attempt (block around (label ∷ labels) body)
  broken label o

-- 14.9.2; no block round it has the label: no rule (14.9.1)
unfoldable pub break_to : Around → List Name → ℕ → Name → Prog (Unit {0})
break_to around labels at label = if list_any (λ other. same_name other label) labels then leave (Break label) else stuck (spot around at)

-- 14.10.1; outside a function: no rule
unfoldable pub return_value : Around → ℕ → JsExpr → Prog (Unit {0})
return_value around at e = if around.in_function then ((expr e).does (here around at) >>= (λ v. leave (Return v))) else stuck (spot around at)

-- 14.14.1; who threw it is kept with it
unfoldable pub throw_value : Around → ℕ → JsExpr → Prog (Unit {0})
throw_value around at e = (expr e).does (here around at) >>= (λ v. leave (Throw v (spot around at)))

-- 14.15.2: the name stands in the scope of the `let`s of the clause
unfoldable pub handled : Around → List Name → Name → List JsStmt → Value → Prog (Unit {0})
handled around labels x handler v = do
  env ← enter around.env (with_lets (bind [] x (Some v)) handler)
  statements (within around env) labels handler

abbrev pub catches : Around → List Name → Name → List JsStmt → Result (Unit {0}) Leaving → Prog (Unit {0})
catches around labels x handler (Ok u) = pure tt
catches around labels x handler (Err (Break label)) = leave (Break label)
catches around labels x handler (Err (Return v)) = leave (Return v)
catches around labels x handler (Err (Throw v from)) = handled around labels x handler v

unfoldable pub try_catch : Around → List Name → List JsStmt → Name → List JsStmt → Prog (Unit {0})
try_catch around labels body x handler = do
  o ← attempt (block around labels body)
  catches around labels x handler o

-- 14.15.3: behind a last block that completes normally what left the first goes on
abbrev pub resumed : Result (Unit {0}) Leaving → Prog (Unit {0})
resumed (Ok u) = pure tt
resumed (Err l) = leave l

unfoldable pub try_finally : Around → List Name → List JsStmt → List JsStmt → Prog (Unit {0})
try_finally around labels body last = do
  o ← attempt (block around labels body)
  block around labels last
  resumed o

-- ---- each statement by its form

abbrev pub statement_at : Around → List Name → JsStmt-F JsExpr JsHead JsSelector JsStmt JsEntry JsFunction JsPrimary → Prog (Unit {0})
statement_at around labels (JsStmt-F.Let at x e) = let_value around at x e
statement_at around labels (JsStmt-F.Assign at x e) = assigned around at x e
statement_at around labels (JsStmt-F.Store at p i e) = stored around at p i e
statement_at around labels (JsStmt-F.Perform at p) = performed around at p
statement_at around labels (JsStmt-F.If at e holds) = if_holds around labels at e holds
statement_at around labels (JsStmt-F.IfElse at e holds fails) = if_else around labels at e holds fails
statement_at around labels (JsStmt-F.Loop at body) = forever around labels body
statement_at around labels (JsStmt-F.Labelled at label body) = labelled around labels label body
statement_at around labels (JsStmt-F.Break at label) = break_to around labels at label
statement_at around labels (JsStmt-F.Return at e) = return_value around at e
statement_at around labels (JsStmt-F.Throw at e) = throw_value around at e
statement_at around labels (JsStmt-F.TryCatch at body x handler) = try_catch around labels body x handler
statement_at around labels (JsStmt-F.TryFinally at body last) = try_finally around labels body last

unfoldable pub statement : Around → List Name → JsStmt → Prog (Unit {0})
statement around labels c = statement_at around labels (out-JsStmt c)
