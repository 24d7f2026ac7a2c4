-- The tree of a part is the one that it was made of.
use Rattle.std.proofs.Common.{◌≡◌, List, [], ◌∷◌, map, refl, sym, ap, ap₂, ◌∙◌, subst}
use Rattle.js_tree.specs.declared.tree.JsExpr.TheFolds.{map-JsExpr, map-JsHead, map-JsSelector, map-JsStmt, map-JsEntry, map-JsFunction, map-JsPrimary, ind-JsFunction}
use Rattle.js_tree.specs.declared.tree.JsExpr.{JsExpr, roll-JsExpr, fold-roll-JsExpr}
use Rattle.js_tree.specs.declared.tree.JsExpr.TheOpen.{JsExpr-F, JsHead-F, JsSelector-F, JsStmt-F, JsEntry-F, JsFunction-F, JsPrimary-F}
use Rattle.js_tree.specs.declared.tree.JsHead.{JsHead, roll-JsHead, fold-roll-JsHead}
use Rattle.js_tree.specs.declared.tree.JsSelector.{JsSelector, roll-JsSelector, fold-roll-JsSelector}
use Rattle.js_tree.specs.declared.tree.JsPrimary.{JsPrimary, roll-JsPrimary, fold-roll-JsPrimary}
use Rattle.js_tree.specs.declared.tree.JsEntry.{JsEntry, roll-JsEntry, fold-roll-JsEntry}
use Rattle.js_tree.specs.declared.tree.JsFunction.{JsFunction, roll-JsFunction, fold-JsFunction, fold-roll-JsFunction}
use Rattle.js_tree.specs.declared.tree.JsStmt.{JsStmt, roll-JsStmt, fold-JsStmt, fold-roll-JsStmt}
use Rattle.js_meaning.specs.Parts.{Expr, Head, Selector, Primary, Entry}
use Rattle.js_meaning.specs.Trees.{expr, head, selector, entry, primary, expr_part, head_part, selector_part, stmt_tree, entry_part, function_tree, primary_part}

abbrev pub stmt_again : JsStmt → JsStmt
stmt_again = fold-JsStmt Expr Head Selector JsStmt Entry JsFunction Primary expr_part head_part selector_part stmt_tree entry_part function_tree primary_part

abbrev pub function_again : JsFunction → JsFunction
function_again = fold-JsFunction Expr Head Selector JsStmt Entry JsFunction Primary expr_part head_part selector_part stmt_tree entry_part function_tree primary_part

-- ---- a form with its parts

abbrev pub expr_read : JsExpr-F JsExpr JsHead JsSelector JsStmt JsEntry JsFunction JsPrimary → JsExpr-F Expr Head Selector JsStmt Entry JsFunction Primary
expr_read = map-JsExpr JsExpr JsHead JsSelector JsStmt JsEntry JsFunction JsPrimary Expr Head Selector JsStmt Entry JsFunction Primary expr head selector stmt_again entry function_again primary

abbrev pub head_read : JsHead-F JsExpr JsHead JsSelector JsStmt JsEntry JsFunction JsPrimary → JsHead-F Expr Head Selector JsStmt Entry JsFunction Primary
head_read = map-JsHead JsExpr JsHead JsSelector JsStmt JsEntry JsFunction JsPrimary Expr Head Selector JsStmt Entry JsFunction Primary expr head selector stmt_again entry function_again primary

abbrev pub selector_read : JsSelector-F JsExpr JsHead JsSelector JsStmt JsEntry JsFunction JsPrimary → JsSelector-F Expr Head Selector JsStmt Entry JsFunction Primary
selector_read = map-JsSelector JsExpr JsHead JsSelector JsStmt JsEntry JsFunction JsPrimary Expr Head Selector JsStmt Entry JsFunction Primary expr head selector stmt_again entry function_again primary

abbrev pub stmt_read : JsStmt-F JsExpr JsHead JsSelector JsStmt JsEntry JsFunction JsPrimary → JsStmt-F Expr Head Selector JsStmt Entry JsFunction Primary
stmt_read = map-JsStmt JsExpr JsHead JsSelector JsStmt JsEntry JsFunction JsPrimary Expr Head Selector JsStmt Entry JsFunction Primary expr head selector stmt_again entry function_again primary

abbrev pub entry_read : JsEntry-F JsExpr JsHead JsSelector JsStmt JsEntry JsFunction JsPrimary → JsEntry-F Expr Head Selector JsStmt Entry JsFunction Primary
entry_read = map-JsEntry JsExpr JsHead JsSelector JsStmt JsEntry JsFunction JsPrimary Expr Head Selector JsStmt Entry JsFunction Primary expr head selector stmt_again entry function_again primary

abbrev pub function_read : JsFunction-F JsExpr JsHead JsSelector JsStmt JsEntry JsFunction JsPrimary → JsFunction-F Expr Head Selector JsStmt Entry JsFunction Primary
function_read = map-JsFunction JsExpr JsHead JsSelector JsStmt JsEntry JsFunction JsPrimary Expr Head Selector JsStmt Entry JsFunction Primary expr head selector stmt_again entry function_again primary

abbrev pub primary_read : JsPrimary-F JsExpr JsHead JsSelector JsStmt JsEntry JsFunction JsPrimary → JsPrimary-F Expr Head Selector JsStmt Entry JsFunction Primary
primary_read = map-JsPrimary JsExpr JsHead JsSelector JsStmt JsEntry JsFunction JsPrimary Expr Head Selector JsStmt Entry JsFunction Primary expr head selector stmt_again entry function_again primary

pub expr_is : (x : JsExpr-F JsExpr JsHead JsSelector JsStmt JsEntry JsFunction JsPrimary) → expr (roll-JsExpr x) ≡ expr_part (expr_read x)
expr_is = fold-roll-JsExpr Expr Head Selector JsStmt Entry JsFunction Primary expr_part head_part selector_part stmt_tree entry_part function_tree primary_part

pub head_is : (x : JsHead-F JsExpr JsHead JsSelector JsStmt JsEntry JsFunction JsPrimary) → head (roll-JsHead x) ≡ head_part (head_read x)
head_is = fold-roll-JsHead Expr Head Selector JsStmt Entry JsFunction Primary expr_part head_part selector_part stmt_tree entry_part function_tree primary_part

pub selector_is : (x : JsSelector-F JsExpr JsHead JsSelector JsStmt JsEntry JsFunction JsPrimary) → selector (roll-JsSelector x) ≡ selector_part (selector_read x)
selector_is = fold-roll-JsSelector Expr Head Selector JsStmt Entry JsFunction Primary expr_part head_part selector_part stmt_tree entry_part function_tree primary_part

pub stmt_is : (x : JsStmt-F JsExpr JsHead JsSelector JsStmt JsEntry JsFunction JsPrimary) → stmt_again (roll-JsStmt x) ≡ stmt_tree (stmt_read x)
stmt_is = fold-roll-JsStmt Expr Head Selector JsStmt Entry JsFunction Primary expr_part head_part selector_part stmt_tree entry_part function_tree primary_part

pub entry_is : (x : JsEntry-F JsExpr JsHead JsSelector JsStmt JsEntry JsFunction JsPrimary) → entry (roll-JsEntry x) ≡ entry_part (entry_read x)
entry_is = fold-roll-JsEntry Expr Head Selector JsStmt Entry JsFunction Primary expr_part head_part selector_part stmt_tree entry_part function_tree primary_part

pub function_is : (x : JsFunction-F JsExpr JsHead JsSelector JsStmt JsEntry JsFunction JsPrimary) → function_again (roll-JsFunction x) ≡ function_tree (function_read x)
function_is = fold-roll-JsFunction Expr Head Selector JsStmt Entry JsFunction Primary expr_part head_part selector_part stmt_tree entry_part function_tree primary_part

pub primary_is : (x : JsPrimary-F JsExpr JsHead JsSelector JsStmt JsEntry JsFunction JsPrimary) → primary (roll-JsPrimary x) ≡ primary_part (primary_read x)
primary_is = fold-roll-JsPrimary Expr Head Selector JsStmt Entry JsFunction Primary expr_part head_part selector_part stmt_tree entry_part function_tree primary_part

-- ---- what is shown of each kind, and a part with its proof

abbrev ExprSame : JsExpr → Type 0
ExprSame a = (expr a).tree ≡ a

abbrev HeadSame : JsHead → Type 0
HeadSame a = (head a).tree ≡ a

abbrev SelectorSame : JsSelector → Type 0
SelectorSame a = (selector a).tree ≡ a

abbrev StmtSame : JsStmt → Type 0
StmtSame a = stmt_again a ≡ a

abbrev EntrySame : JsEntry → Type 0
EntrySame a = (entry a).tree ≡ a

abbrev FunctionSame : JsFunction → Type 0
FunctionSame a = function_again a ≡ a

abbrev PrimarySame : JsPrimary → Type 0
PrimarySame a = (primary a).tree ≡ a

abbrev ExprWith : Type 0
ExprWith = (a : JsExpr) × ExprSame a

abbrev HeadWith : Type 0
HeadWith = (a : JsHead) × HeadSame a

abbrev SelectorWith : Type 0
SelectorWith = (a : JsSelector) × SelectorSame a

abbrev StmtWith : Type 0
StmtWith = (a : JsStmt) × StmtSame a

abbrev EntryWith : Type 0
EntryWith = (a : JsEntry) × EntrySame a

abbrev FunctionWith : Type 0
FunctionWith = (a : JsFunction) × FunctionSame a

abbrev PrimaryWith : Type 0
PrimaryWith = (a : JsPrimary) × PrimarySame a

-- the trees of the parts of a form

abbrev expr_parts : JsExpr-F Expr Head Selector JsStmt Entry JsFunction Primary → JsExpr-F JsExpr JsHead JsSelector JsStmt JsEntry JsFunction JsPrimary
expr_parts = map-JsExpr Expr Head Selector JsStmt Entry JsFunction Primary JsExpr JsHead JsSelector JsStmt JsEntry JsFunction JsPrimary (λ y. y.tree) (λ y. y.tree) (λ y. y.tree) (λ y. y) (λ y. y.tree) (λ y. y) (λ y. y.tree)

abbrev head_parts : JsHead-F Expr Head Selector JsStmt Entry JsFunction Primary → JsHead-F JsExpr JsHead JsSelector JsStmt JsEntry JsFunction JsPrimary
head_parts = map-JsHead Expr Head Selector JsStmt Entry JsFunction Primary JsExpr JsHead JsSelector JsStmt JsEntry JsFunction JsPrimary (λ y. y.tree) (λ y. y.tree) (λ y. y.tree) (λ y. y) (λ y. y.tree) (λ y. y) (λ y. y.tree)

abbrev selector_parts : JsSelector-F Expr Head Selector JsStmt Entry JsFunction Primary → JsSelector-F JsExpr JsHead JsSelector JsStmt JsEntry JsFunction JsPrimary
selector_parts = map-JsSelector Expr Head Selector JsStmt Entry JsFunction Primary JsExpr JsHead JsSelector JsStmt JsEntry JsFunction JsPrimary (λ y. y.tree) (λ y. y.tree) (λ y. y.tree) (λ y. y) (λ y. y.tree) (λ y. y) (λ y. y.tree)

abbrev stmt_parts : JsStmt-F Expr Head Selector JsStmt Entry JsFunction Primary → JsStmt-F JsExpr JsHead JsSelector JsStmt JsEntry JsFunction JsPrimary
stmt_parts = map-JsStmt Expr Head Selector JsStmt Entry JsFunction Primary JsExpr JsHead JsSelector JsStmt JsEntry JsFunction JsPrimary (λ y. y.tree) (λ y. y.tree) (λ y. y.tree) (λ y. y) (λ y. y.tree) (λ y. y) (λ y. y.tree)

abbrev entry_parts : JsEntry-F Expr Head Selector JsStmt Entry JsFunction Primary → JsEntry-F JsExpr JsHead JsSelector JsStmt JsEntry JsFunction JsPrimary
entry_parts = map-JsEntry Expr Head Selector JsStmt Entry JsFunction Primary JsExpr JsHead JsSelector JsStmt JsEntry JsFunction JsPrimary (λ y. y.tree) (λ y. y.tree) (λ y. y.tree) (λ y. y) (λ y. y.tree) (λ y. y) (λ y. y.tree)

abbrev function_parts : JsFunction-F Expr Head Selector JsStmt Entry JsFunction Primary → JsFunction-F JsExpr JsHead JsSelector JsStmt JsEntry JsFunction JsPrimary
function_parts = map-JsFunction Expr Head Selector JsStmt Entry JsFunction Primary JsExpr JsHead JsSelector JsStmt JsEntry JsFunction JsPrimary (λ y. y.tree) (λ y. y.tree) (λ y. y.tree) (λ y. y) (λ y. y.tree) (λ y. y) (λ y. y.tree)

abbrev primary_parts : JsPrimary-F Expr Head Selector JsStmt Entry JsFunction Primary → JsPrimary-F JsExpr JsHead JsSelector JsStmt JsEntry JsFunction JsPrimary
primary_parts = map-JsPrimary Expr Head Selector JsStmt Entry JsFunction Primary JsExpr JsHead JsSelector JsStmt JsEntry JsFunction JsPrimary (λ y. y.tree) (λ y. y.tree) (λ y. y.tree) (λ y. y) (λ y. y.tree) (λ y. y) (λ y. y.tree)

expr_by : (x : JsExpr-F JsExpr JsHead JsSelector JsStmt JsEntry JsFunction JsPrimary) → expr_parts (expr_read x) ≡ x → ExprSame (roll-JsExpr x)
expr_by x same = ap (λ p. p.tree) (expr_is x) ∙ ap roll-JsExpr same

head_by : (x : JsHead-F JsExpr JsHead JsSelector JsStmt JsEntry JsFunction JsPrimary) → head_parts (head_read x) ≡ x → HeadSame (roll-JsHead x)
head_by x same = ap (λ p. p.tree) (head_is x) ∙ ap roll-JsHead same

selector_by : (x : JsSelector-F JsExpr JsHead JsSelector JsStmt JsEntry JsFunction JsPrimary) → selector_parts (selector_read x) ≡ x → SelectorSame (roll-JsSelector x)
selector_by x same = ap (λ p. p.tree) (selector_is x) ∙ ap roll-JsSelector same

stmt_by : (x : JsStmt-F JsExpr JsHead JsSelector JsStmt JsEntry JsFunction JsPrimary) → stmt_parts (stmt_read x) ≡ x → StmtSame (roll-JsStmt x)
stmt_by x same = stmt_is x ∙ ap roll-JsStmt same

entry_by : (x : JsEntry-F JsExpr JsHead JsSelector JsStmt JsEntry JsFunction JsPrimary) → entry_parts (entry_read x) ≡ x → EntrySame (roll-JsEntry x)
entry_by x same = ap (λ p. p.tree) (entry_is x) ∙ ap roll-JsEntry same

function_by : (x : JsFunction-F JsExpr JsHead JsSelector JsStmt JsEntry JsFunction JsPrimary) → function_parts (function_read x) ≡ x → FunctionSame (roll-JsFunction x)
function_by x same = function_is x ∙ ap roll-JsFunction same

primary_by : (x : JsPrimary-F JsExpr JsHead JsSelector JsStmt JsEntry JsFunction JsPrimary) → primary_parts (primary_read x) ≡ x → PrimarySame (roll-JsPrimary x)
primary_by x same = ap (λ p. p.tree) (primary_is x) ∙ ap roll-JsPrimary same

all_same : {A B : Type 0} (read : A → B) (tree : B → A) (ys : List ((a : A) × (tree (read a) ≡ a))) → map tree (map read (map (λ y. y.0) ys)) ≡ map (λ y. y.0) ys
all_same read tree [] = refl
all_same read tree (y ∷ ys) = ap₂ (λ x xs. x ∷ xs) y.1 (all_same read tree ys)

all_exprs : (ys : List ExprWith) → map (λ p. p.tree) (map expr (map (λ y. y.0) ys)) ≡ map (λ y. y.0) ys
all_exprs = all_same expr (λ p. p.tree)

all_stmts : (ys : List StmtWith) → map (λ c. c) (map stmt_again (map (λ y. y.0) ys)) ≡ map (λ y. y.0) ys
all_stmts = all_same stmt_again (λ c. c)

abbrev expr_alone : JsExpr-F ExprWith HeadWith SelectorWith StmtWith EntryWith FunctionWith PrimaryWith → JsExpr-F JsExpr JsHead JsSelector JsStmt JsEntry JsFunction JsPrimary
expr_alone = map-JsExpr ExprWith HeadWith SelectorWith StmtWith EntryWith FunctionWith PrimaryWith JsExpr JsHead JsSelector JsStmt JsEntry JsFunction JsPrimary (λ y. y.0) (λ y. y.0) (λ y. y.0) (λ y. y.0) (λ y. y.0) (λ y. y.0) (λ y. y.0)

abbrev head_alone : JsHead-F ExprWith HeadWith SelectorWith StmtWith EntryWith FunctionWith PrimaryWith → JsHead-F JsExpr JsHead JsSelector JsStmt JsEntry JsFunction JsPrimary
head_alone = map-JsHead ExprWith HeadWith SelectorWith StmtWith EntryWith FunctionWith PrimaryWith JsExpr JsHead JsSelector JsStmt JsEntry JsFunction JsPrimary (λ y. y.0) (λ y. y.0) (λ y. y.0) (λ y. y.0) (λ y. y.0) (λ y. y.0) (λ y. y.0)

abbrev selector_alone : JsSelector-F ExprWith HeadWith SelectorWith StmtWith EntryWith FunctionWith PrimaryWith → JsSelector-F JsExpr JsHead JsSelector JsStmt JsEntry JsFunction JsPrimary
selector_alone = map-JsSelector ExprWith HeadWith SelectorWith StmtWith EntryWith FunctionWith PrimaryWith JsExpr JsHead JsSelector JsStmt JsEntry JsFunction JsPrimary (λ y. y.0) (λ y. y.0) (λ y. y.0) (λ y. y.0) (λ y. y.0) (λ y. y.0) (λ y. y.0)

abbrev stmt_alone : JsStmt-F ExprWith HeadWith SelectorWith StmtWith EntryWith FunctionWith PrimaryWith → JsStmt-F JsExpr JsHead JsSelector JsStmt JsEntry JsFunction JsPrimary
stmt_alone = map-JsStmt ExprWith HeadWith SelectorWith StmtWith EntryWith FunctionWith PrimaryWith JsExpr JsHead JsSelector JsStmt JsEntry JsFunction JsPrimary (λ y. y.0) (λ y. y.0) (λ y. y.0) (λ y. y.0) (λ y. y.0) (λ y. y.0) (λ y. y.0)

abbrev entry_alone : JsEntry-F ExprWith HeadWith SelectorWith StmtWith EntryWith FunctionWith PrimaryWith → JsEntry-F JsExpr JsHead JsSelector JsStmt JsEntry JsFunction JsPrimary
entry_alone = map-JsEntry ExprWith HeadWith SelectorWith StmtWith EntryWith FunctionWith PrimaryWith JsExpr JsHead JsSelector JsStmt JsEntry JsFunction JsPrimary (λ y. y.0) (λ y. y.0) (λ y. y.0) (λ y. y.0) (λ y. y.0) (λ y. y.0) (λ y. y.0)

abbrev function_alone : JsFunction-F ExprWith HeadWith SelectorWith StmtWith EntryWith FunctionWith PrimaryWith → JsFunction-F JsExpr JsHead JsSelector JsStmt JsEntry JsFunction JsPrimary
function_alone = map-JsFunction ExprWith HeadWith SelectorWith StmtWith EntryWith FunctionWith PrimaryWith JsExpr JsHead JsSelector JsStmt JsEntry JsFunction JsPrimary (λ y. y.0) (λ y. y.0) (λ y. y.0) (λ y. y.0) (λ y. y.0) (λ y. y.0) (λ y. y.0)

abbrev primary_alone : JsPrimary-F ExprWith HeadWith SelectorWith StmtWith EntryWith FunctionWith PrimaryWith → JsPrimary-F JsExpr JsHead JsSelector JsStmt JsEntry JsFunction JsPrimary
primary_alone = map-JsPrimary ExprWith HeadWith SelectorWith StmtWith EntryWith FunctionWith PrimaryWith JsExpr JsHead JsSelector JsStmt JsEntry JsFunction JsPrimary (λ y. y.0) (λ y. y.0) (λ y. y.0) (λ y. y.0) (λ y. y.0) (λ y. y.0) (λ y. y.0)

-- ---- each form

expr_form : (y : JsExpr-F ExprWith HeadWith SelectorWith StmtWith EntryWith FunctionWith PrimaryWith) → ExprSame (roll-JsExpr (expr_alone y))
expr_form (JsExpr-F.Primary a) = expr_by (JsExpr-F.Primary a.0) (ap (λ v. JsExpr-F.Primary v) a.1)
expr_form (JsExpr-F.Binary o a b) = expr_by (JsExpr-F.Binary o a.0 b.0) (ap₂ (λ v w. JsExpr-F.Binary o v w) a.1 b.1)
expr_form (JsExpr-F.TypeOf a) = expr_by (JsExpr-F.TypeOf a.0) (ap (λ v. JsExpr-F.TypeOf v) a.1)
expr_form (JsExpr-F.Function f) = expr_by (JsExpr-F.Function f.0) (ap (λ v. JsExpr-F.Function v) f.1)
expr_form JsExpr-F.NewMap = expr_by JsExpr-F.NewMap refl
expr_form (JsExpr-F.Array xs) = expr_by (JsExpr-F.Array (map (λ y. y.0) xs)) (ap (λ v. JsExpr-F.Array v) (all_exprs xs))
expr_form (JsExpr-F.Object xs) = expr_by (JsExpr-F.Object (map (λ y. y.0) xs)) (ap (λ v. JsExpr-F.Object v) (all_same entry (λ p. p.tree) xs))

head_form : (y : JsHead-F ExprWith HeadWith SelectorWith StmtWith EntryWith FunctionWith PrimaryWith) → HeadSame (roll-JsHead (head_alone y))
head_form (JsHead-F.Name x) = head_by (JsHead-F.Name x) refl
head_form (JsHead-F.Digits n) = head_by (JsHead-F.Digits n) refl
head_form (JsHead-F.Negative n) = head_by (JsHead-F.Negative n) refl
head_form (JsHead-F.Str us) = head_by (JsHead-F.Str us) refl
head_form JsHead-F.Null = head_by JsHead-F.Null refl
head_form JsHead-F.Undefined = head_by JsHead-F.Undefined refl
head_form JsHead-F.True = head_by JsHead-F.True refl
head_form JsHead-F.False = head_by JsHead-F.False refl
head_form (JsHead-F.StringOf args) = head_by (JsHead-F.StringOf (map (λ y. y.0) args)) (ap (λ v. JsHead-F.StringOf v) (all_exprs args))
head_form (JsHead-F.IsArray args) = head_by (JsHead-F.IsArray (map (λ y. y.0) args)) (ap (λ v. JsHead-F.IsArray v) (all_exprs args))
head_form (JsHead-F.ArrayFrom args) = head_by (JsHead-F.ArrayFrom (map (λ y. y.0) args)) (ap (λ v. JsHead-F.ArrayFrom v) (all_exprs args))

selector_form : (y : JsSelector-F ExprWith HeadWith SelectorWith StmtWith EntryWith FunctionWith PrimaryWith) → SelectorSame (roll-JsSelector (selector_alone y))
selector_form (JsSelector-F.Index a) = selector_by (JsSelector-F.Index a.0) (ap (λ v. JsSelector-F.Index v) a.1)
selector_form (JsSelector-F.Call args) = selector_by (JsSelector-F.Call (map (λ y. y.0) args)) (ap (λ v. JsSelector-F.Call v) (all_exprs args))
selector_form (JsSelector-F.Member m) = selector_by (JsSelector-F.Member m) refl
selector_form (JsSelector-F.Method m args) = selector_by (JsSelector-F.Method m (map (λ y. y.0) args)) (ap (λ v. JsSelector-F.Method m v) (all_exprs args))

stmt_form : (y : JsStmt-F ExprWith HeadWith SelectorWith StmtWith EntryWith FunctionWith PrimaryWith) → StmtSame (roll-JsStmt (stmt_alone y))
stmt_form (JsStmt-F.Let at x a) = stmt_by (JsStmt-F.Let at x a.0) (ap (λ v. JsStmt-F.Let at x v) a.1)
stmt_form (JsStmt-F.Assign at x a) = stmt_by (JsStmt-F.Assign at x a.0) (ap (λ v. JsStmt-F.Assign at x v) a.1)
stmt_form (JsStmt-F.Store at a b c) = stmt_by (JsStmt-F.Store at a.0 b.0 c.0) (ap (λ v. JsStmt-F.Store at v (expr b.0).tree (expr c.0).tree) a.1 ∙ ap₂ (λ v w. JsStmt-F.Store at a.0 v w) b.1 c.1)
stmt_form (JsStmt-F.Perform at a) = stmt_by (JsStmt-F.Perform at a.0) (ap (λ v. JsStmt-F.Perform at v) a.1)
stmt_form (JsStmt-F.If at a xs) = stmt_by (JsStmt-F.If at a.0 (map (λ y. y.0) xs)) (ap₂ (λ v w. JsStmt-F.If at v w) a.1 (all_stmts xs))
stmt_form (JsStmt-F.IfElse at a xs ys) = stmt_by (JsStmt-F.IfElse at a.0 (map (λ y. y.0) xs) (map (λ y. y.0) ys)) (ap (λ v. JsStmt-F.IfElse at v (map (λ c. c) (map stmt_again (map (λ y. y.0) xs))) (map (λ c. c) (map stmt_again (map (λ y. y.0) ys)))) a.1 ∙ ap₂ (λ v w. JsStmt-F.IfElse at a.0 v w) (all_stmts xs) (all_stmts ys))
stmt_form (JsStmt-F.Loop at xs) = stmt_by (JsStmt-F.Loop at (map (λ y. y.0) xs)) (ap (λ v. JsStmt-F.Loop at v) (all_stmts xs))
stmt_form (JsStmt-F.Labelled at x xs) = stmt_by (JsStmt-F.Labelled at x (map (λ y. y.0) xs)) (ap (λ v. JsStmt-F.Labelled at x v) (all_stmts xs))
stmt_form (JsStmt-F.Break at x) = stmt_by (JsStmt-F.Break at x) refl
stmt_form (JsStmt-F.Return at a) = stmt_by (JsStmt-F.Return at a.0) (ap (λ v. JsStmt-F.Return at v) a.1)
stmt_form (JsStmt-F.Throw at a) = stmt_by (JsStmt-F.Throw at a.0) (ap (λ v. JsStmt-F.Throw at v) a.1)
stmt_form (JsStmt-F.TryCatch at xs x ys) = stmt_by (JsStmt-F.TryCatch at (map (λ y. y.0) xs) x (map (λ y. y.0) ys)) (ap₂ (λ v w. JsStmt-F.TryCatch at v x w) (all_stmts xs) (all_stmts ys))
stmt_form (JsStmt-F.TryFinally at xs ys) = stmt_by (JsStmt-F.TryFinally at (map (λ y. y.0) xs) (map (λ y. y.0) ys)) (ap₂ (λ v w. JsStmt-F.TryFinally at v w) (all_stmts xs) (all_stmts ys))

entry_form : (y : JsEntry-F ExprWith HeadWith SelectorWith StmtWith EntryWith FunctionWith PrimaryWith) → EntrySame (roll-JsEntry (entry_alone y))
entry_form y = entry_by (entry_alone y) (ap (λ v. record { key = y.key; value = v }) y.value.1)

function_form : (y : JsFunction-F ExprWith HeadWith SelectorWith StmtWith EntryWith FunctionWith PrimaryWith) → FunctionSame (roll-JsFunction (function_alone y))
function_form y = function_by (function_alone y) (ap (λ v. record { parameters = y.parameters; body = v }) (all_stmts y.body))

primary_form : (y : JsPrimary-F ExprWith HeadWith SelectorWith StmtWith EntryWith FunctionWith PrimaryWith) → PrimarySame (roll-JsPrimary (primary_alone y))
primary_form y = primary_by (primary_alone y) (ap₂ (λ v w. record { head = v; selectors = w }) y.head.1 (all_same selector (λ p. p.tree) y.selectors))

pub same_function : (a : JsFunction) → FunctionSame a
same_function = ind-JsFunction ExprSame HeadSame SelectorSame StmtSame EntrySame FunctionSame PrimarySame
    (λ x y is. subst (λ z. ExprSame (roll-JsExpr z)) is (expr_form y))
    (λ x y is. subst (λ z. HeadSame (roll-JsHead z)) is (head_form y))
    (λ x y is. subst (λ z. SelectorSame (roll-JsSelector z)) is (selector_form y))
    (λ x y is. subst (λ z. StmtSame (roll-JsStmt z)) is (stmt_form y))
    (λ x y is. subst (λ z. EntrySame (roll-JsEntry z)) is (entry_form y))
    (λ x y is. subst (λ z. FunctionSame (roll-JsFunction z)) is (function_form y))
    (λ x y is. subst (λ z. PrimarySame (roll-JsPrimary z)) is (primary_form y))
