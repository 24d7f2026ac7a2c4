-- A node begins at no depth, and at some.
use Rattle.std.proofs.Common.{◌≡◌, ℕ, zero, suc, ◌-◌, ◌<◌, List, refl, ap, ◌∙◌, arith}
use Rattle.meanings.specs.Act.{go, add_text, begin, fin, Spent, Deep, Fin}
use Rattle.js_tree.specs.declared.tree.JsExpr.{JsExpr}
use Rattle.js_tree.specs.declared.tree.JsStmt.{JsStmt}
use Rattle.js_store.specs.Names.{Name}
use Rattle.js_store.specs.declared.value.Value.{Value}
use Rattle.js_meaning.specs.declared.state.Spot.{Spot}
use Rattle.js_meaning.specs.declared.state.Around.{Around}
use Rattle.js_meaning.specs.declared.state.Here.{Here}
use Rattle.js_meaning.specs.declared.state.Callee.{Callee}
use Rattle.js_meaning.specs.declared.state.Realm.{Realm}
use Rattle.js_meaning.specs.declared.state.State.{State}
use Rattle.js_meaning.specs.Machine.{Ending, Texts, Node, Statement, Variable, Turn, Call, Normal, Gives, Left', NoSteps, Halted, NoDepth, Out, Done, Ends, shut, value, normal, value_out, normal_out, state}
use Rattle.js_meaning.specs.Prog.{Prog, gives, does, perform, call}
use Rattle.js_meaning.specs.Statements.{statement, block}
use Rattle.js_meaning.specs.Calls.{called, prints}
use Rattle.js_meaning.specs.Files.{variable}
use Rattle.js_meaning.specs.Meaning.{Js, view, says, to}
use Rattle.js_meaning.specs.Nests.{at}

-- ---- a node that begins

no_steps : (d : ℕ) (x : Node) (c : Realm) (o : Texts) → to d x c 0 o ≡ Spent o
unfolding to begin
no_steps zero x c o = refl
no_steps (suc d) x c o = refl

begins : (d : ℕ) (x : Node) (s : State) → 0 < d → 0 < s.steps → to d x s.realm s.steps s.output ≡ go (to (d - 1)) (view x s.realm) (s.steps - 1) (add_text s.output (says x s.realm))
unfolding to begin
begins d x s z w =
    let k : d ≡ suc (d - 1) = omega arith in
    let j : s.steps ≡ suc (s.steps - 1) = omega arith in
    ap (λ e. begin Js e x s.realm s.steps s.output) k ∙ ap (λ n. begin Js (suc (d - 1)) x s.realm n s.output) j

no_depth : (d : ℕ) (x : Node) (s : State) → d ≡ 0 → 0 < s.steps → to d x s.realm s.steps s.output ≡ Deep s.output
unfolding to begin
no_depth d x s z w =
    let j : s.steps ≡ suc (s.steps - 1) = omega arith in
    ap (λ e. begin Js e x s.realm s.steps s.output) z ∙ ap (λ n. begin Js 0 x s.realm n s.output) j

abbrev pub one_less : State → State
one_less s = record s { steps = s.steps - 1 }

-- with what its call prints
abbrev pub printed : Callee → List Value → State → State
printed f vs s = record { steps = s.steps - 1; realm = s.realm; output = add_text s.output (prints f vs) }

value_shut : (p : Out Value) → value_out (shut p value) ≡ p
value_shut (Done a s) = refl
value_shut (Ends (Left' l c n o)) = refl
value_shut (Ends (NoSteps o)) = refl
value_shut (Ends (Halted h o)) = refl
value_shut (Ends (NoDepth o)) = refl

normal_shut : (p : Out (Unit {0})) → normal_out (shut p normal) ≡ p
normal_shut (Done a s) = refl
normal_shut (Ends (Left' l c n o)) = refl
normal_shut (Ends (NoSteps o)) = refl
normal_shut (Ends (Halted h o)) = refl
normal_shut (Ends (NoDepth o)) = refl

-- ---- each kind of node

pub spent_value : (d : ℕ) (x : Node) (s : State) → s.steps ≡ 0 → at (gives x) d s ≡ Ends (NoSteps s.output)
spent_value d x s z = ap (λ n. value_out (to d x s.realm n s.output)) z ∙ ap value_out (no_steps d x s.realm s.output)

pub deep_value : (d : ℕ) (x : Node) (s : State) → d ≡ 0 → 0 < s.steps → at (gives x) d s ≡ Ends (NoDepth s.output)
deep_value d x s z w = ap value_out (no_depth d x s z w)

pub spent_plain : (d : ℕ) (x : Node) (s : State) → s.steps ≡ 0 → at (does x) d s ≡ Ends (NoSteps s.output)
spent_plain d x s z = ap (λ n. normal_out (to d x s.realm n s.output)) z ∙ ap normal_out (no_steps d x s.realm s.output)

pub deep_plain : (d : ℕ) (x : Node) (s : State) → d ≡ 0 → 0 < s.steps → at (does x) d s ≡ Ends (NoDepth s.output)
deep_plain d x s z w = ap normal_out (no_depth d x s z w)

pub some_statement : (d : ℕ) (around : Around) (labels : List Name) (c : JsStmt) (s : State) → 0 < d → 0 < s.steps → at (perform around labels c) d s ≡ at (statement around labels c) (d - 1) (one_less s)
some_statement d around labels c s z w = ap normal_out (begins d (Statement around labels c) s z w ∙ (statement around labels c).same (to (d - 1)) (one_less s) (λ v c. fin Normal c)) ∙ normal_shut (at (statement around labels c) (d - 1) (one_less s))

pub some_turn : (d : ℕ) (around : Around) (labels : List Name) (body : List JsStmt) (s : State) → 0 < d → 0 < s.steps → at (does (Turn around labels body)) d s ≡ at (block around labels body) (d - 1) (one_less s)
some_turn d around labels body s z w = ap normal_out (begins d (Turn around labels body) s z w ∙ (block around labels body).same (to (d - 1)) (one_less s) (λ v c. fin Normal c)) ∙ normal_shut (at (block around labels body) (d - 1) (one_less s))

pub some_variable : (d : ℕ) (here : Here) (x : Name) (e : JsExpr) (s : State) → 0 < d → 0 < s.steps → at (does (Variable here x e)) d s ≡ at (variable here x e) (d - 1) (one_less s)
some_variable d here x e s z w = ap normal_out (begins d (Variable here x e) s z w ∙ (variable here x e).same (to (d - 1)) (one_less s) (λ v c. fin Normal c)) ∙ normal_shut (at (variable here x e) (d - 1) (one_less s))

pub some_call : (d : ℕ) (spot : Spot) (f : Callee) (vs : List Value) (s : State) → 0 < d → 0 < s.steps → at (call spot f vs) d s ≡ at (called spot f vs) (d - 1) (printed f vs s)
some_call d spot f vs s z w = ap value_out (begins d (Call spot f vs) s z w ∙ (called spot f vs).same (to (d - 1)) (printed f vs s) (λ v c. fin (Gives v) c)) ∙ value_shut (at (called spot f vs) (d - 1) (printed f vs s))
