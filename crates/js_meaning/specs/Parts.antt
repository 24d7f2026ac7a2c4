-- A part of an expression: its tree, and what it does. What a form does is said of what its parts do.
use Rattle.std.specs.Prelude.{List, [], ◌∷◌, ◌++◌}
use Rattle.js_tree.specs.declared.tree.JsExpr.{JsExpr}
use Rattle.js_tree.specs.declared.tree.JsHead.{JsHead}
use Rattle.js_tree.specs.declared.tree.JsSelector.{JsSelector}
use Rattle.js_tree.specs.declared.tree.JsPrimary.{JsPrimary}
use Rattle.js_tree.specs.declared.tree.JsEntry.{JsEntry}
use Rattle.js_store.specs.declared.value.Value.{Value}
use Rattle.js_meaning.specs.declared.state.Here.{Here}
use Rattle.js_meaning.specs.Prog.{Prog, ◌>>=◌, pure}

pub record Part (Tree Does : Type 0) : Type 0 where
  pub tree : Tree
  pub does : Does

-- what gives a value, where it is evaluated
abbrev pub Evaluates : Type 0
Evaluates = Here → Prog Value

-- what gives a value from that of what stands before it
abbrev pub Selects : Type 0
Selects = Here → Value → Prog Value

abbrev pub Expr : Type 0
Expr = Part JsExpr Evaluates

abbrev pub Head : Type 0
Head = Part JsHead Evaluates

abbrev pub Selector : Type 0
Selector = Part JsSelector Selects

abbrev pub Primary : Type 0
Primary = Part JsPrimary Evaluates

abbrev pub Entry : Type 0
Entry = Part JsEntry Evaluates

-- one after the other, behind the values so far (13.3.8.1)
abbrev pub values_from : Here → List Value → List Expr → Prog (List Value)
values_from here done [] = pure done
values_from here done (e ∷ more) = e.does here >>= (λ v. values_from here (done ++ v ∷ []) more)

unfoldable pub values : Here → List Expr → Prog (List Value)
values here es = values_from here [] es

-- each selects from what the one before gave
unfoldable pub selected : Here → Value → List Selector → Prog Value
selected here v [] = pure v
selected here v (l ∷ more) = l.does here v >>= (λ w. selected here w more)
