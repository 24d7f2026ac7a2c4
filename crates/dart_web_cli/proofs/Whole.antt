-- The run of the one file of a translation: its function is called, and no load is asked for.
use Rattle.std.proofs.Common.{◌≡◌, ℕ, zero, suc, ◌+◌, Bool, true, false, List, [], ◌∷◌, ◌++◌, map, Option, Some, None, Ok, Err, Result, refl, sym, ap, ◌∙◌, subst, inl, inr, ⊎_elim, ◌⊎◌, arith, append-nil}
use Rattle.std.specs.Prelude.{codes}
use Rattle.std.specs.Map.{lookup}
use Rattle.std.specs.Str.{bytes_eq}
use Rattle.code_units.specs.Text.{units_of}
use Rattle.meanings.specs.Act.{Left, fin, sub, Fin, Cut, means}
use Rattle.meanings.specs.Act as act
use Rattle.meanings.specs.Runs.{SameRun, Over, shown}
use Rattle.meanings.specs.Ends.{Done, Halted as Halts}
use Rattle.meanings.proofs.Acts.{means_bind}
use Rattle.meanings.proofs.Further.{is_meaning}
use Rattle.meanings.proofs.Conclusions.{Comes as DartComes, Cuts as DartCuts, comes_sub, cuts_sub, comes_run, cuts_run, one_conclusion}
use Rattle.dart_meaning.specs.declared.program.Statement.{Statement}
use Rattle.dart_meaning.specs.Program.{IsWellFormed}
use Rattle.dart_meaning.specs.Meaning as source
use Rattle.dart_meaning.specs.Meaning.{First}
use Rattle.js_tree.specs.declared.tree.JsExpr.{JsExpr}
use Rattle.js_tree.specs.declared.tree.JsExpr.TheOpen.{JsStmt-F}
use Rattle.js_tree.specs.declared.tree.JsHead.TheVariants as h
use Rattle.js_tree.specs.declared.tree.JsSelector.TheVariants as l
use Rattle.js_tree.specs.declared.tree.JsPrimary.{JsPrimary}
use Rattle.js_tree.specs.declared.tree.JsFunction.{JsFunction}
use Rattle.js_tree.specs.declared.tree.JsStmt.{JsStmt, out-JsStmt}
use Rattle.js_tree.specs.declared.tree.JsStmt.TheVariants as s
use Rattle.js_tree.specs.declared.tree.JsItem.{JsItem}
use Rattle.js_tree.specs.declared.tree.JsItem.TheVariants as i
use Rattle.js_tree.specs.declared.tree.JsFile.{JsFile}
use Rattle.js_tree.specs.declared.tree.NamedTree.{NamedTree}
use Rattle.js_tree.specs.Places.{primary_without_places, stmt_without_places, function_without_places, item_without_places}
use Rattle.js_tree.proofs.Unplaced.{same_function}
use Rattle.js_store.specs.Store as store
use Rattle.js_store.specs.Host as hosts
use Rattle.js_store.specs.Scopes as scopes
use Rattle.js_store.specs.Scopes.{Scope}
use Rattle.js_store.specs.Closure.{Env, Closure}
use Rattle.js_store.specs.declared.store.Store.{Store}
use Rattle.js_store.specs.declared.host.Host.{Host as HostState}
use Rattle.js_store.specs.declared.value.Value.{Value}
use Rattle.js_store.specs.declared.value.Value.TheVariants.{Undefined, Null, Function, Host}
use Rattle.js_meaning.specs.declared.state.Realm.{Realm}
use Rattle.js_meaning.specs.declared.state.Spot.{Spot}
use Rattle.js_meaning.specs.declared.state.Around.{Around}
use Rattle.js_meaning.specs.declared.state.Here.{Here}
use Rattle.js_meaning.specs.declared.state.Leave.{Leave as Leaving}
use Rattle.js_meaning.specs.declared.state.Leave.TheVariants.{Return}
use Rattle.js_meaning.specs.declared.state.Callee.TheVariants.{Applied}
use Rattle.js_meaning.specs.Machine.{Normal, caught}
use Rattle.js_meaning.specs.Steps.{Acts}
use Rattle.js_meaning.specs.Prog.{Prog, ◌>>=◌, ◌>>◌, pure, or_stuck, attempt, perform, call}
use Rattle.js_meaning.specs.Parts.{values, values_from, selected}
use Rattle.js_meaning.specs.Stored.{read, enter, closure, function_value, is_declared, declare, starts, completes}
use Rattle.js_meaning.specs.Expressions.{name, calls}
use Rattle.js_meaning.specs.Trees.{expr, head, selector, primary}
use Rattle.js_meaning.specs.Statements.{with_lets, statements, statement_at, statement, performed, here}
use Rattle.js_meaning.specs.Calls.{entered, applied, called}
use Rattle.js_meaning.specs.Files as files
use Rattle.js_meaning.specs.Files.{at_top, let_name, is_new, are_new, opens_function, absent, opened, runs, event, events, whole, all, begins}
use Rattle.js_meaning.specs.Meaning.{Js, concluded, acts_of, js}
use Rattle.js_meaning.proofs.Layers.{name_layer, call_layer, parts_layer}
use Rattle.js_meaning.proofs.Runs.{runs_are_of_a_meaning}
use Rattle.dart_web_cli.specs.Translation.{statements_from, file_of, served}
use Rattle.dart_web_cli.proofs.Leading.{Leads, Comes, Ends, How, cut, left_by, same_acts, stays, same_part, leads_on, leads_over, then_leads, then_over, then_gives, over_before, looks, changes, performs, performs_over, calls as calls_lead, calls_over, attempts, catches, attempts_over}
use Rattle.dart_web_cli.proofs.Places as places
use Rattle.dart_web_cli.proofs.Places.{IsPlaceless, one_perform}
use Rattle.dart_web_cli.proofs.Body.{IsBody, body_bare, body_no_host, bare_lets}
use Rattle.dart_web_cli.proofs.Emitted.{Place, env_in, store_in, outer_in, around_at, realm_at, body, Holds}
use Rattle.dart_web_cli.proofs.Agreement.{Agree, all_agree}

abbrev pub main_name : List ℕ
main_name = codes "main$"

-- main$()
abbrev pub main_call : JsPrimary
main_call = record { head = h.Name main_name; selectors = l.Call [] ∷ [] }

-- the file of one function with this body, which is called by a statement at this place
abbrev file_with : List JsStmt → ℕ → JsFile
file_with tree at = record { items = i.Declared main_name (record { parameters = []; body = tree }) ∷ i.Statement (s.Perform at main_call) ∷ [] }

-- ---- a tree that differs from that of a translation in its places alone

record IsFileWith (tree : JsFile) (rest : List JsStmt) : Type 0 where
  body : List JsStmt
  at : ℕ
  is : tree ≡ file_with body at
  same : map stmt_without_places body ≡ rest

pub call_placeless : IsPlaceless primary_without_places main_call
call_placeless = places.selected (h.Name main_name) (l.Call [] ∷ []) (places.name main_name) (places.one (l.Call []) (places.call [] places.none))

abbrev function_with : List (List ℕ) → List JsStmt → JsFunction
function_with parameters body = record { parameters = parameters; body = body }

abbrev file_items : List JsItem → JsFile
file_items items = record { items = items }

file_is : (tree : JsFile) (rest : List JsStmt) → map item_without_places tree.items ≡ i.Declared main_name (function_with [] rest) ∷ i.Statement (s.Perform 0 main_call) ∷ [] → IsFileWith tree rest
file_is tree rest is = by tree.items refl is
  where
    by : (items : List JsItem) → tree.items ≡ items → map item_without_places items ≡ i.Declared main_name (function_with [] rest) ∷ i.Statement (s.Perform 0 main_call) ∷ [] → IsFileWith tree rest
    by [] made is = absurd (cc is)
    by (i.Declared x f ∷ []) made is = absurd (cc is)
    by (i.Declared x f ∷ i.Declared y g ∷ more) made is = absurd (cc is)
    by (i.Declared x f ∷ i.Var at y a ∷ more) made is = absurd (cc is)
    by (i.Declared x f ∷ i.Statement c ∷ a ∷ more) made is = absurd (cc is)
    by (i.Declared x f ∷ i.Statement c ∷ []) made is =
        let one = one_perform main_call call_placeless c (cc is) in
        let ex : x ≡ main_name = cc is in
        let ef : function_without_places f ≡ function_with [] rest = cc is in
        let made_f : function_with f.parameters (map stmt_without_places f.body) ≡ function_with [] rest = sym (same_function f) ∙ ef in
        let ep : f.parameters ≡ [] = ap (λ (f : JsFunction). f.parameters) made_f in
        record {
          body = f.body;
          at = one.0;
          is = (λ j. file_items (made j)) ∙ (λ j. file_items (i.Declared (ex j) (function_with (ep j) f.body) ∷ i.Statement (one.1 j) ∷ []));
          same = ap (λ (f : JsFunction). f.body) made_f;
        }
    by (i.Var at x a ∷ more) made is = absurd (cc is)
    by (i.Statement c ∷ more) made is = absurd (cc is)

-- ---- the run of such a file

module _ (out : List ℕ) (order : List ℕ) (tree : List JsStmt) (at : ℕ) where
  abbrev named : NamedTree
  named = record { name = out; tree = file_with tree at }

  -- the function that the file declares, and the store that has it
  abbrev made : Closure
  made = record { function = function_with [] tree; around = []; file = 0 }

  abbrev main_value : Option Value
  main_value = Some (Function 0)

  abbrev main_scope : Scope
  main_scope = (main_name, main_value) ∷ []

  abbrev main_store : Store
  main_store = record { objects = []; arrays = []; maps = []; functions = made ∷ []; scopes = []; top = main_scope }

  abbrev host : HostState
  host = hosts.note_run (begins (named ∷ []) order).host out

  abbrev opened_realm : Realm
  opened_realm = record { store = main_store; host = host }

  abbrev lets : Scope
  lets = with_lets [] tree

  -- a scope of their own, where a name is declared
  abbrev is_inner : Scope → Bool
  is_inner [] = false
  is_inner (b ∷ scope) = true

  abbrev scope_in : Scope → Scope
  scope_in [] = main_scope
  scope_in (b ∷ scope) = b ∷ scope

  abbrev place : Place
  place = record { inner = is_inner lets; base = main_store; host = host }

  pub host_outer : (scope : Scope) → outer_in (is_inner scope) main_store (codes "host$") ≡ Some Host
  host_outer [] = refl
  host_outer (b ∷ scope) = refl

  no_host_in : (scope : Scope) → lookup (bytes_eq (codes "host$")) scope ≡ None → lookup (bytes_eq (codes "host$")) (scope_in scope) ≡ None
  no_host_in [] none = refl
  no_host_in (b ∷ scope) none = none

  enters : (scope : Scope) → Comes (enter [] scope) opened_realm (env_in (is_inner scope)) (record { store = store_in (is_inner scope) main_store (scope_in scope); host = host }) []
  unfolding enter
  enters [] = changes (λ r. (scopes.inside r.store [] [], record r { store = scopes.enter r.store [] })) opened_realm
  enters (b ∷ scope) = changes (λ r. (scopes.inside r.store [] (b ∷ scope), record r { store = scopes.enter r.store (b ∷ scope) })) opened_realm

  -- the realm in which the body begins
  abbrev entered_realm : Realm
  entered_realm = realm_at place (scope_in lets)

  -- ---- the function is called

  function_comes : {d : Realm} {texts : List (List ℕ)} → Ends (body place tree) entered_realm (left_by (Return Null) d) texts → Comes (entered made []) opened_realm Null d texts
  unfolding entered
  function_comes {d} {texts} g =
      then_leads _ (enters lets)
      (then_gives _ (catches g) (λ k. refl))

  function_over : {texts : List (List ℕ)} → Ends (body place tree) entered_realm (cut Left) texts → Ends (entered made []) opened_realm (cut Left) texts
  unfolding entered
  function_over g = then_over _ (enters lets) (over_before _ (attempts_over g))

  abbrev top : Here
  top = here (at_top 0) at

  closure_comes : (spot : Spot) → Comes (closure spot (Function 0)) opened_realm made opened_realm []
  unfolding closure
  closure_comes spot = same_acts (closure spot (Function 0)) (pure made) opened_realm opened_realm (λ k. refl)

  main_read : Comes ((head (h.Name main_name)).does top) opened_realm (Function 0) opened_realm []
  unfolding name read
  main_read = leads_on (same_part _ _ opened_realm (name_layer main_name top)) (same_acts (name top main_name) (pure (Function 0)) opened_realm opened_realm (λ k. refl))

  no_arguments : Comes (values top []) opened_realm [] opened_realm []
  unfolding values
  no_arguments = stays (pure []) opened_realm

  -- what the call of the function comes to, that its body comes to
  called_comes : {d : Realm} {texts : List (List ℕ)} → Comes (entered made []) opened_realm Null d texts → Comes ((primary main_call).does top) opened_realm Null d texts
  unfolding selected calls called applied
  called_comes {d} {texts} g =
      leads_on (same_part _ _ opened_realm (parts_layer main_call top))
      (then_leads _ main_read
      (then_gives _
      (leads_on (same_part _ _ opened_realm (call_layer [] top (Function 0)))
      (then_leads _ no_arguments
      (calls_lead {spot = top.spot} {f = Applied (Function 0)} {vs = []} {v = Null} {c = opened_realm} {d = d} {texts = texts} (then_leads _ (closure_comes top.spot) g))))
      (λ k. refl)))

  called_over : {texts : List (List ℕ)} → Ends (entered made []) opened_realm (cut Left) texts → Ends ((primary main_call).does top) opened_realm (cut Left) texts
  unfolding selected calls called applied
  called_over {texts} g =
      leads_over (same_part _ _ opened_realm (parts_layer main_call top))
      (then_over _ main_read
      (over_before _
      (leads_over (same_part _ _ opened_realm (call_layer [] top (Function 0)))
      (then_over _ no_arguments
      (calls_over {spot = top.spot} {f = Applied (Function 0)} {vs = []} {c = opened_realm} {why = Left} {texts = texts} (then_over _ (closure_comes top.spot) g))))))

  perform_is : statement (at_top 0) [] (s.Perform at main_call) ≡ performed (at_top 0) at main_call
  unfolding statement
  perform_is = ap (statement_at (at_top 0) []) (s.outs-Perform at main_call)

  statement_comes : {d : Realm} {texts : List (List ℕ)} → Comes ((primary main_call).does top) opened_realm Null d texts → Comes (perform (at_top 0) [] (s.Perform at main_call)) opened_realm tt d texts
  unfolding performed
  statement_comes {d} {texts} g =
      performs (leads_on (same_part _ _ opened_realm perform_is) (then_gives _ g (λ k. refl)))

  statement_over : {texts : List (List ℕ)} → Ends ((primary main_call).does top) opened_realm (cut Left) texts → Ends (perform (at_top 0) [] (s.Perform at main_call)) opened_realm (cut Left) texts
  unfolding performed
  statement_over g = performs_over (leads_over (same_part _ _ opened_realm perform_is) (over_before _ g))

  -- ---- the file runs: its function is made, and then the call is performed

  abbrev no_more : Prog (Unit {0})
  no_more = pure tt

  -- the run of the file, by the name that its statement declares
  abbrev runs_by : Option (List ℕ) → Prog (Unit {0})
  runs_by declared =
      starts out
      >> ((is_new 0 (Some main_name) >> (is_new 0 declared >> no_more))
      >> ((opens_function 0 main_name (function_with [] tree) >> (absent declared >> no_more))
      >> (no_more >> (perform (at_top 0) [] (s.Perform at main_call) >> no_more))))

  file_opens : Leads (runs 0 named) (begins (named ∷ []) order) (perform (at_top 0) [] (s.Perform at main_call) >> pure tt) opened_realm []
  unfolding runs starts are_new is_new is_declared opened function_value declare files.performed
  file_opens =
      leads_on (same_part (runs 0 named) (runs_by None) (begins (named ∷ []) order) (ap (λ c. runs_by (let_name c)) (s.outs-Perform at main_call)))
      (same_acts (runs_by None) (perform (at_top 0) [] (s.Perform at main_call) >> pure tt) (begins (named ∷ []) order) opened_realm (λ k. refl))

  file_comes : {d : Realm} {texts : List (List ℕ)} → Comes (perform (at_top 0) [] (s.Perform at main_call)) opened_realm tt d texts → Comes (runs 0 named) (begins (named ∷ []) order) tt d texts
  file_comes {d} {texts} g = leads_on file_opens (then_gives _ g (λ k. refl))

  file_over : {texts : List (List ℕ)} → Ends (perform (at_top 0) [] (s.Perform at main_call)) opened_realm (cut Left) texts → Ends (runs 0 named) (begins (named ∷ []) order) (cut Left) texts
  file_over g = leads_over file_opens (over_before _ g)

  -- ---- no load is asked for

  abbrev behind_file : Store → Realm
  behind_file st = record { store = st; host = host }

  no_events : (most : ℕ) (st : Store) (k : Acts (Unit {0})) → (events (named ∷ []) most).acts (behind_file st) k ≡ k tt (behind_file st)
  unfolding events event completes
  no_events zero st k = refl
  no_events (suc most) st k = refl

  abbrev ended : Acts (Result (Unit {0}) Leaving)
  ended r c = (files.uncaught r).acts c (λ r c. fin r c)

  all_done : {st : Store} {texts : List (List ℕ)} (w : Comes (runs 0 named) (begins (named ∷ []) order) tt (behind_file st) texts) (most n : ℕ) → means Js (acts_of (named ∷ []) order most) (w.cost + n) [] ≡ Fin Normal (behind_file st) n texts
  unfolding all whole
  all_done {st} {texts} w most n =
      means_bind Js ((whole (named ∷ []) most).acts (begins (named ∷ []) order) (λ _ d. fin Normal d)) (λ r d. caught r d ended) (w.cost + n) []
      ∙ ap (λ p. act.then_on p (λ r d m o. means Js (caught r d ended) m o))
      (w.goes (λ _ c. (events (named ∷ []) most).acts c (λ _ d. fin Normal d)) n [] ∙ ap (λ a. means Js a n texts) (no_events most st (λ _ d. fin Normal d)))

  all_cut : {texts : List (List ℕ)} (w : Ends (runs 0 named) (begins (named ∷ []) order) (cut Left) texts) (most n : ℕ) → means Js (acts_of (named ∷ []) order most) (w.cost + n) [] ≡ Cut Left texts
  unfolding all whole
  all_cut {texts} w most n =
      means_bind Js ((whole (named ∷ []) most).acts (begins (named ∷ []) order) (λ _ d. fin Normal d)) (λ r d. caught r d ended) (w.cost + n) []
      ∙ ap (λ p. act.then_on p (λ r d m o. means Js (caught r d ended) m o)) (w.goes (λ _ c. (events (named ∷ []) most).acts c (λ _ d. fin Normal d)) n [])

  -- ---- the body begins with no value, and comes to what the program comes to

  holds_none : IsBody 0 0 (map stmt_without_places tree) → Holds [] [] (scope_in lets)
  holds_none form = record {
    operations = λ k v is. absurd (let none : None ≡ Some v = is in cc none);
    variables = λ k v is. absurd (let none : None ≡ Some v = is in cc none);
    no_host = no_host_in lets (ap (lookup (bytes_eq (codes "host$"))) (bare_lets [] tree) ∙ body_no_host [] form);
  }

  pub agree : (program : List Statement) → IsWellFormed program → IsBody 0 0 (map stmt_without_places tree) → map stmt_without_places tree ≡ statements_from 0 [] program → Agree place (host_outer lets) (source.statements program []) tree (scope_in lets)
  agree program well form same = all_agree place (host_outer lets) program 0 0 [] [] tree (scope_in lets) [] [] refl well refl refl (holds_none form) form same

  pub runs_same : (program : List Statement) → IsWellFormed program → IsBody 0 0 (map stmt_without_places tree) → map stmt_without_places tree ≡ statements_from 0 [] program → SameRun (source.dart program order) (js (named ∷ []) order)
  runs_same program well form same =
      let a = agree program well form same in
      let f = source.dart program order in
      let g = js (named ∷ []) order in
      let start : act.ActOf First = sub (source.Main program) [] fin in
      let mf = is_meaning First (λ _. Done) Halts start in
      let mg = runs_are_of_a_meaning (named ∷ []) order in
      ⊎_elim
      (λ h.
      let hf : DartComes First start source.Normal h.0.0 a.texts = comes_sub First (source.Main program) [] h.0.0 source.Normal a.texts h.0.1 in
      let hg = file_comes (statement_comes (called_comes (function_comes h.1.1))) in
      one_conclusion f g mf mg (hf.cost + 0) (hg.cost + 0) a.texts Done
      (comes_run First (λ _. Done) Halts start source.Normal h.0.0 a.texts hf) (ap (shown concluded Halts) (all_done hg (hg.cost + 0) 0)))
      (λ h.
      let hf : DartCuts First start Left a.texts = cuts_sub First (source.Main program) [] Left a.texts h.0 in
      let hg = file_over (statement_over (called_over (function_over h.1))) in
      one_conclusion f g mf mg (hf.cost + 0) (hg.cost + 0) a.texts (Halts Left)
      (cuts_run First (λ _. Done) Halts start Left a.texts hf) (ap (shown concluded Halts) (all_cut hg (hg.cost + 0) 0)))
      a.how

-- The tree is that of the translation, but for its places.
pub same_run : (program : List Statement) (out : List ℕ) (tree : JsFile) (order : List ℕ) → IsWellFormed program → IsBody 0 0 (statements_from 0 [] program) → map item_without_places tree.items ≡ (file_of program).items → SameRun (source.dart program order) (js (served out tree) order)
same_run program out tree order well form is =
    let file = file_is tree (statements_from 0 [] program) is in
    subst (λ t. SameRun (source.dart program order) (js (served out t) order)) (sym file.is)
    (runs_same (units_of out) order file.body file.at program well (subst (IsBody 0 0) (sym file.same) form) file.same)
