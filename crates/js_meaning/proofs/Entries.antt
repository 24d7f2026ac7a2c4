-- The entries that are left of an object.
use Rattle.std.proofs.Common.{◌≡◌, ◌≢◌, ℕ, ◌+◌, ◌<◌, List, ◌∷◌, length, get_or, map, drop, sym, ap, ◌∙◌}
use Rattle.std.proofs.lemmas.List.{drop_more}
use Rattle.indexmap.specs.IndexMap.{insert_entry}
use Rattle.js_tree.specs.declared.tree.JsEntry.{JsEntry, fold_out-JsEntry}
use Rattle.js_tree.specs.declared.tree.JsFunction.{JsFunction}
use Rattle.js_tree.specs.declared.tree.JsStmt.{JsStmt}
use Rattle.store_lists.specs.Text.{Text, same_text}
use Rattle.js_store.specs.Store.{Properties}
use Rattle.js_store.specs.declared.value.Value.{Value}
use Rattle.js_meaning.specs.declared.state.Here.{Here}
use Rattle.js_meaning.specs.declared.state.State.{State}
use Rattle.js_meaning.specs.declared.state.Jump.{Jump}
use Rattle.js_meaning.specs.declared.state.Jump.TheVariants.{Stop}
use Rattle.js_meaning.specs.declared.state.Stop.TheVariants.{Memory}
use Rattle.js_meaning.specs.Machine.{Out, Done, Ends, chain, jumps}
use Rattle.js_meaning.specs.Parts.{Expr, Head, Selector, Primary, Entry}
use Rattle.js_meaning.specs.Expressions.{entries_from}
use Rattle.js_meaning.specs.Trees.{expr, entry, expr_part, head_part, selector_part, stmt_tree, entry_part, function_tree, primary_part}
use Rattle.js_meaning.specs.Nests.{at}

-- what follows the value of an entry of this name
abbrev pub further : Here → Properties → Text → List Entry → ℕ → Value → State → Out Properties
further here made key more d v s = at (entries_from here (insert_entry same_text made key v) more) d s

pub next_entry : (here : Here) (made : Properties) (e : JsEntry) (more : List Entry) (d : ℕ) (s : State) → at (entries_from here made (entry e ∷ more)) d s ≡ chain (at ((expr e.value).does here) d s) (further here made e.key more d)
unfolding entries_from
next_entry here made e more d s = ap (λ p. chain (at (p.does here) d s) (further here made p.tree.key more d)) (fold_out-JsEntry Expr Head Selector JsStmt Entry JsFunction Primary expr_part head_part selector_part stmt_tree entry_part function_tree primary_part e)

step : (here : Here) (made : Properties) (es : List JsEntry) (i : ℕ) (e : JsEntry) (d : ℕ) (s : State) → i < length es → e ≡ get_or es i e → at (entries_from here made (map entry (drop i es))) d s ≡ chain (at ((expr e.value).does here) d s) (further here made e.key (map entry (drop (i + 1) es)) d)
step here made es i e d s below is = ap (λ l. at (entries_from here made (map entry l)) d s) (drop_more es i e below ∙ ap (λ y. y ∷ drop (i + 1) es) (sym is)) ∙ next_entry here made e (map entry (drop (i + 1) es)) d s

pub entry_ends : (here : Here) (made : Properties) (es : List JsEntry) (i : ℕ) (e : JsEntry) (d : ℕ) (s new : State) (v : Value) (out : Out Properties) → i < length es → e ≡ get_or es i e → out ≡ at (entries_from here made (map entry (drop i es))) d s → at ((expr e.value).does here) d s ≡ Done v new → out ≡ at (entries_from here (insert_entry same_text made e.key v) (map entry (drop (i + 1) es))) d new
entry_ends here made es i e d s new v out below is so done = so ∙ step here made es i e d s below is ∙ ap (λ o. chain o (further here made e.key (map entry (drop (i + 1) es)) d)) done

pub entry_leaves : (here : Here) (made : Properties) (es : List JsEntry) (i : ℕ) (e : JsEntry) (d : ℕ) (s new : State) (j : Jump) (out : Out Properties) → i < length es → e ≡ get_or es i e → out ≡ at (entries_from here made (map entry (drop i es))) d s → (j ≢ Stop Memory → at ((expr e.value).does here) d s ≡ Ends (jumps j new)) → j ≢ Stop Memory → out ≡ Ends (jumps j new)
entry_leaves here made es i e d s new j out below is so left some = so ∙ step here made es i e d s below is ∙ ap (λ o. chain o (further here made e.key (map entry (drop (i + 1) es)) d)) (left some)
