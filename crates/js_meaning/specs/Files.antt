-- What a list of files does: the last one runs first, and then loads complete, one after the other, as long as any is asked
-- for.
use Rattle.std.specs.Prelude.{ℕ, zero, suc, ◌+◌, Bool, true, false, if◌then◌else◌, List, [], ◌∷◌, slice_get, Option, Some, None, Result, Ok, Err}
use Rattle.indexmap.specs.IndexMap.{insert_entry}
use Rattle.js_tree.specs.declared.tree.JsExpr.{JsExpr}
use Rattle.js_tree.specs.declared.tree.JsHead.{JsHead}
use Rattle.js_tree.specs.declared.tree.JsSelector.{JsSelector}
use Rattle.js_tree.specs.declared.tree.JsPrimary.{JsPrimary}
use Rattle.js_tree.specs.declared.tree.JsEntry.{JsEntry}
use Rattle.js_tree.specs.declared.tree.JsFunction.{JsFunction}
use Rattle.js_tree.specs.declared.tree.JsStmt.{JsStmt, out-JsStmt}
use Rattle.js_tree.specs.declared.tree.JsExpr.TheOpen.{JsStmt-F}
use Rattle.js_tree.specs.declared.tree.JsItem.{JsItem}
use Rattle.js_tree.specs.declared.tree.JsItem.TheVariants as i
use Rattle.js_tree.specs.declared.tree.NamedTree.{NamedTree}
use Rattle.store_lists.specs.Text.{Text, same_text}
use Rattle.js_store.specs.Names.{Name}
use Rattle.js_store.specs.Load.{Load}
use Rattle.js_store.specs.Store as s
use Rattle.js_store.specs.Host as h
use Rattle.js_store.specs.declared.value.Value.{Value}
use Rattle.js_store.specs.declared.value.Value.TheVariants.{Undefined}
use Rattle.js_meaning.specs.declared.state.Spot.{Spot}
use Rattle.js_meaning.specs.declared.state.Around.{Around}
use Rattle.js_meaning.specs.declared.state.Here.{Here}
use Rattle.js_meaning.specs.declared.state.Realm.{Realm}
use Rattle.js_meaning.specs.declared.state.Callee.TheVariants.{Applied}
use Rattle.js_meaning.specs.declared.state.Leave.{Leave as Leaving}
use Rattle.js_meaning.specs.declared.state.Leave.TheVariants.{Break, Return, Throw}
use Rattle.js_meaning.specs.Machine.{Comp, Normal, Leaves, Threw, Variable}
use Rattle.js_meaning.specs.Prog.{Prog, ◌>>=◌, ◌>>◌, pure, stuck, or_stuck, attempt, does, perform, call}
use Rattle.js_meaning.specs.Stored.{give, function_value, is_declared, declare, file_number, has_run, starts, completes, shown}
use Rattle.js_meaning.specs.Trees.{expr}

-- ---- a file (16.1.7)

-- what stands at the top of a file, in none of its functions
abbrev pub at_top : ℕ → Around
at_top file = record { file = file; env = []; in_function = false }

abbrev pub top_here : (file at : ℕ) → Here
top_here file at = record { spot = record { file = file; at = at }; env = [] }

abbrev pub let_name : JsStmt-F JsExpr JsHead JsSelector JsStmt JsEntry JsFunction JsPrimary → Option Name
let_name (JsStmt-F.Let at x e) = Some x
let_name _ = None

abbrev pub item_name : JsItem → Option Name
item_name (i.Declared x f) = Some x
item_name (i.Var at x e) = Some x
item_name (i.Statement c) = let_name (out-JsStmt c)

-- a name that a file run before declared is stuck at the start of the file
unfoldable pub is_new : ℕ → Option Name → Prog (Unit {0})
is_new file None = pure tt
is_new file (Some x) = do
  known ← is_declared x
  if known then stuck (record { file = file; at = 0 }) else pure tt

unfoldable pub are_new : ℕ → List JsItem → Prog (Unit {0})
are_new file [] = pure tt
are_new file (a ∷ more) = is_new file (item_name a) >> are_new file more

abbrev pub absent : Option Name → Prog (Unit {0})
absent None = pure tt
absent (Some x) = declare x None

abbrev pub opens_function : ℕ → Name → JsFunction → Prog (Unit {0})
opens_function file x f = function_value file [] f >>= (λ v. declare x (Some v))

-- functions are made, and `var`s are undefined, before the first statement runs
abbrev pub opens : ℕ → JsItem → Prog (Unit {0})
opens file (i.Declared x f) = opens_function file x f
opens file (i.Var at x e) = declare x (Some Undefined)
opens file (i.Statement c) = absent (let_name (out-JsStmt c))

unfoldable pub opened : ℕ → List JsItem → Prog (Unit {0})
opened file [] = pure tt
opened file (a ∷ more) = opens file a >> opened file more

-- `var x = e;`
unfoldable pub variable : Here → Name → JsExpr → Prog (Unit {0})
variable here x e = (expr e).does here >>= (λ v. give [] x v)

abbrev pub performs : ℕ → JsItem → Prog (Unit {0})
performs file (i.Declared x f) = pure tt
performs file (i.Var at x e) = does (Variable (top_here file at) x e)
performs file (i.Statement c) = perform (at_top file) [] c

unfoldable pub performed : ℕ → List JsItem → Prog (Unit {0})
performed file [] = pure tt
performed file (a ∷ more) = performs file a >> performed file more

-- the file of this number
unfoldable pub runs : ℕ → NamedTree → Prog (Unit {0})
runs file named = do
  starts named.name
  are_new file named.tree.items
  opened file named.tree.items
  performed file named.tree.items

-- ---- loads

abbrev pub runs_once : ℕ → NamedTree → Bool → Prog (Unit {0})
runs_once file named true = pure tt
runs_once file named false = runs file named

-- A file runs once. A load of an absent file is stuck where it was asked for, once the turn of that file comes.
unfoldable pub wanted : List NamedTree → Spot → Text → Prog (Unit {0})
wanted files spot name = do
  number ← file_number name
  file ← or_stuck spot number
  named ← or_stuck spot (slice_get files file)
  ran ← has_run name
  runs_once file named ran

unfoldable pub all_wanted : List NamedTree → Spot → List Text → Prog (Unit {0})
all_wanted files spot [] = pure tt
all_wanted files spot (name ∷ more) = wanted files spot name >> all_wanted files spot more

abbrev pub asker : Load → Spot
asker load = record { file = load.file; at = load.at }

-- a load completes: its files run, and then what it gave is called
unfoldable pub completed : List NamedTree → Load → Prog (Unit {0})
completed files load = do
  all_wanted files (asker load) load.names
  v ← call (asker load) (Applied load.done) []
  pure tt

abbrev pub then_completed : List NamedTree → Option Load → Prog Bool
then_completed files None = pure false
then_completed files (Some load) = completed files load >> pure true

-- the load whose turn it is, where any is asked for; was there one?
unfoldable pub event : List NamedTree → Prog Bool
event files = completes >>= then_completed files

-- So many loads, and one more. Each calls what it was given, so that there are no more of them than steps.
unfoldable pub events : List NamedTree → ℕ → Prog (Unit {0})
events files zero = event files >> pure tt
events files (suc most) = do
  more ← event files
  if more then events files most else pure tt

-- ---- the run

-- the last file, behind so many
abbrev pub main : ℕ → List NamedTree → Prog (Unit {0})
main before [] = pure tt
main before (named ∷ []) = runs before named
main before (named ∷ next ∷ files) = main (before + 1) (next ∷ files)

unfoldable pub whole : List NamedTree → ℕ → Prog (Unit {0})
whole files most = do
  main 0 files
  events files most

-- A value that nothing caught is shown, or no rule applies to the statement that threw it. No `break` and no `return`
-- leaves a file.
abbrev pub uncaught : Result (Unit {0}) Leaving → Prog Comp
uncaught (Ok u) = pure Normal
uncaught (Err (Throw v from)) = shown from v >>= (λ s. pure (Threw s))
uncaught (Err (Return v)) = pure (Leaves (Return v))
uncaught (Err (Break label)) = pure (Leaves (Break label))

unfoldable pub all : List NamedTree → ℕ → Prog Comp
all files most = attempt (whole files most) >>= uncaught

-- the files by their names, of which none has run
abbrev pub with_files : List (Text × Bool) → List NamedTree → List (Text × Bool)
with_files made [] = made
with_files made (named ∷ files) = with_files (insert_entry same_text made named.name false) files

-- nothing is made, and no load is asked for
abbrev pub begins : List NamedTree → List ℕ → Realm
begins files order = record { store = s.empty; host = h.starts (with_files [] files) order }
