-- The text of a tree without its places is that of the tree.
use Rattle.std.proofs.Common.{◌≡◌, List, [], ◌∷◌, ◌++◌, map, refl, sym, ap, ap₂, ◌∙◌, subst}
use Rattle.std.specs.Prelude.{codes}
use Rattle.js_tree.specs.declared.tree.JsExpr.TheFolds.{map-JsExpr, map-JsHead, map-JsSelector, map-JsStmt, map-JsEntry, map-JsFunction, map-JsPrimary, ind-JsExpr, ind-JsStmt, ind-JsFunction}
use Rattle.js_tree.specs.declared.tree.JsExpr.{JsExpr, roll-JsExpr}
use Rattle.js_tree.specs.declared.tree.JsExpr.TheOpen.{JsExpr-F, JsHead-F, JsSelector-F, JsStmt-F, JsEntry-F, JsFunction-F, JsPrimary-F}
use Rattle.js_tree.specs.declared.tree.JsHead.{JsHead, roll-JsHead}
use Rattle.js_tree.specs.declared.tree.JsSelector.{JsSelector, roll-JsSelector}
use Rattle.js_tree.specs.declared.tree.JsPrimary.{JsPrimary, roll-JsPrimary}
use Rattle.js_tree.specs.declared.tree.JsEntry.{JsEntry, roll-JsEntry}
use Rattle.js_tree.specs.declared.tree.JsFunction.{JsFunction, roll-JsFunction}
use Rattle.js_tree.specs.declared.tree.JsStmt.{JsStmt, roll-JsStmt}
use Rattle.js_tree.specs.declared.tree.JsItem.{JsItem}
use Rattle.js_tree.specs.declared.tree.JsItem.TheVariants.{Declared, Var, Statement}
use Rattle.js_tree.specs.Tokens.{Bytes}
use Rattle.js_tree.specs.Text.{joined, line, expr_text, head_text, selector_text, stmt_text, entry_text, code_text, primary_text, text_of_expr, text_of_head, text_of_selector, text_of_primary, text_of_entry, text_of_function, text_of_stmt, text_of_item}
use Rattle.js_tree.specs.Places.{expr_of, head_of, selector_of, stmt_of, entry_of, function_of, primary_of, expr_without_places, head_without_places, selector_without_places, primary_without_places, entry_without_places, function_without_places, stmt_without_places, item_without_places}
use Rattle.js_tree.specs.SpellingLaws.{PlacesHaveNoSay}
use Rattle.js_tree.proofs.Layers as t
use Rattle.js_tree.proofs.Unplaced as u

-- ---- what is shown of each kind, and a part with its proof

abbrev ExprReads : JsExpr → Type 0
ExprReads a = text_of_expr (expr_without_places a) ≡ text_of_expr a

abbrev HeadReads : JsHead → Type 0
HeadReads a = text_of_head (head_without_places a) ≡ text_of_head a

abbrev SelectorReads : JsSelector → Type 0
SelectorReads a = text_of_selector (selector_without_places a) ≡ text_of_selector a

abbrev StmtReads : JsStmt → Type 0
StmtReads a = text_of_stmt (stmt_without_places a) ≡ text_of_stmt a

abbrev EntryReads : JsEntry → Type 0
EntryReads a = text_of_entry (entry_without_places a) ≡ text_of_entry a

abbrev FunctionReads : JsFunction → Type 0
FunctionReads a = text_of_function (function_without_places a) ≡ text_of_function a

abbrev PrimaryReads : JsPrimary → Type 0
PrimaryReads a = text_of_primary (primary_without_places a) ≡ text_of_primary a

abbrev ExprWith : Type 0
ExprWith = (a : JsExpr) × ExprReads a

abbrev HeadWith : Type 0
HeadWith = (a : JsHead) × HeadReads a

abbrev SelectorWith : Type 0
SelectorWith = (a : JsSelector) × SelectorReads a

abbrev StmtWith : Type 0
StmtWith = (a : JsStmt) × StmtReads a

abbrev EntryWith : Type 0
EntryWith = (a : JsEntry) × EntryReads a

abbrev FunctionWith : Type 0
FunctionWith = (a : JsFunction) × FunctionReads a

abbrev PrimaryWith : Type 0
PrimaryWith = (a : JsPrimary) × PrimaryReads a

-- a form reads as without its places where the texts of its parts do

expr_by : (x : JsExpr-F JsExpr JsHead JsSelector JsStmt JsEntry JsFunction JsPrimary) → text_of_expr (expr_of (u.expr_bared x)) ≡ expr_text (t.expr_read x) → ExprReads (roll-JsExpr x)
expr_by x same = ap text_of_expr (u.expr_bare_is x) ∙ same ∙ sym (t.expr_text_is x)

head_by : (x : JsHead-F JsExpr JsHead JsSelector JsStmt JsEntry JsFunction JsPrimary) → text_of_head (head_of (u.head_bared x)) ≡ head_text (t.head_read x) → HeadReads (roll-JsHead x)
head_by x same = ap text_of_head (u.head_bare_is x) ∙ same ∙ sym (t.head_text_is x)

selector_by : (x : JsSelector-F JsExpr JsHead JsSelector JsStmt JsEntry JsFunction JsPrimary) → text_of_selector (selector_of (u.selector_bared x)) ≡ selector_text (t.selector_read x) → SelectorReads (roll-JsSelector x)
selector_by x same = ap text_of_selector (u.selector_bare_is x) ∙ same ∙ sym (t.selector_text_is x)

stmt_by : (x : JsStmt-F JsExpr JsHead JsSelector JsStmt JsEntry JsFunction JsPrimary) → text_of_stmt (stmt_of (u.stmt_bared x)) ≡ stmt_text (t.stmt_read x) → StmtReads (roll-JsStmt x)
stmt_by x same = ap text_of_stmt (u.stmt_bare_is x) ∙ same ∙ sym (t.stmt_text_is x)

entry_by : (x : JsEntry-F JsExpr JsHead JsSelector JsStmt JsEntry JsFunction JsPrimary) → text_of_entry (entry_of (u.entry_bared x)) ≡ entry_text (t.entry_read x) → EntryReads (roll-JsEntry x)
entry_by x same = ap text_of_entry (u.entry_bare_is x) ∙ same ∙ sym (t.entry_text_is x)

function_by : (x : JsFunction-F JsExpr JsHead JsSelector JsStmt JsEntry JsFunction JsPrimary) → text_of_function (function_of (u.function_bared x)) ≡ code_text (t.function_read x) → FunctionReads (roll-JsFunction x)
function_by x same = ap text_of_function (u.function_bare_is x) ∙ same ∙ sym (t.function_text_is x)

primary_by : (x : JsPrimary-F JsExpr JsHead JsSelector JsStmt JsEntry JsFunction JsPrimary) → text_of_primary (primary_of (u.primary_bared x)) ≡ primary_text (t.primary_read x) → PrimaryReads (roll-JsPrimary x)
primary_by x same = ap text_of_primary (u.primary_bare_is x) ∙ same ∙ sym (t.primary_text_is x)

read_all : {A : Type 0} (text : A → Bytes) (without : A → A) (ys : List ((a : A) × (text (without a) ≡ text a)))
    → map text (map without (map (λ y. y.0) ys)) ≡ map text (map (λ y. y.0) ys)
read_all text without [] = refl
read_all text without (y ∷ ys) = ap₂ (λ x xs. x ∷ xs) y.1 (read_all text without ys)

all_exprs : (ys : List ExprWith) → map text_of_expr (map expr_without_places (map (λ y. y.0) ys)) ≡ map text_of_expr (map (λ y. y.0) ys)
all_exprs = read_all text_of_expr expr_without_places

all_stmts : (ys : List StmtWith) → map text_of_stmt (map stmt_without_places (map (λ y. y.0) ys)) ≡ map text_of_stmt (map (λ y. y.0) ys)
all_stmts = read_all text_of_stmt stmt_without_places

abbrev expr_alone : JsExpr-F ExprWith HeadWith SelectorWith StmtWith EntryWith FunctionWith PrimaryWith → JsExpr-F JsExpr JsHead JsSelector JsStmt JsEntry JsFunction JsPrimary
expr_alone = map-JsExpr ExprWith HeadWith SelectorWith StmtWith EntryWith FunctionWith PrimaryWith JsExpr JsHead JsSelector JsStmt JsEntry JsFunction JsPrimary (λ y. y.0) (λ y. y.0) (λ y. y.0) (λ y. y.0) (λ y. y.0) (λ y. y.0) (λ y. y.0)

abbrev head_alone : JsHead-F ExprWith HeadWith SelectorWith StmtWith EntryWith FunctionWith PrimaryWith → JsHead-F JsExpr JsHead JsSelector JsStmt JsEntry JsFunction JsPrimary
head_alone = map-JsHead ExprWith HeadWith SelectorWith StmtWith EntryWith FunctionWith PrimaryWith JsExpr JsHead JsSelector JsStmt JsEntry JsFunction JsPrimary (λ y. y.0) (λ y. y.0) (λ y. y.0) (λ y. y.0) (λ y. y.0) (λ y. y.0) (λ y. y.0)

abbrev selector_alone : JsSelector-F ExprWith HeadWith SelectorWith StmtWith EntryWith FunctionWith PrimaryWith → JsSelector-F JsExpr JsHead JsSelector JsStmt JsEntry JsFunction JsPrimary
selector_alone = map-JsSelector ExprWith HeadWith SelectorWith StmtWith EntryWith FunctionWith PrimaryWith JsExpr JsHead JsSelector JsStmt JsEntry JsFunction JsPrimary (λ y. y.0) (λ y. y.0) (λ y. y.0) (λ y. y.0) (λ y. y.0) (λ y. y.0) (λ y. y.0)

abbrev stmt_alone : JsStmt-F ExprWith HeadWith SelectorWith StmtWith EntryWith FunctionWith PrimaryWith → JsStmt-F JsExpr JsHead JsSelector JsStmt JsEntry JsFunction JsPrimary
stmt_alone = map-JsStmt ExprWith HeadWith SelectorWith StmtWith EntryWith FunctionWith PrimaryWith JsExpr JsHead JsSelector JsStmt JsEntry JsFunction JsPrimary (λ y. y.0) (λ y. y.0) (λ y. y.0) (λ y. y.0) (λ y. y.0) (λ y. y.0) (λ y. y.0)

abbrev entry_alone : JsEntry-F ExprWith HeadWith SelectorWith StmtWith EntryWith FunctionWith PrimaryWith → JsEntry-F JsExpr JsHead JsSelector JsStmt JsEntry JsFunction JsPrimary
entry_alone = map-JsEntry ExprWith HeadWith SelectorWith StmtWith EntryWith FunctionWith PrimaryWith JsExpr JsHead JsSelector JsStmt JsEntry JsFunction JsPrimary (λ y. y.0) (λ y. y.0) (λ y. y.0) (λ y. y.0) (λ y. y.0) (λ y. y.0) (λ y. y.0)

abbrev function_alone : JsFunction-F ExprWith HeadWith SelectorWith StmtWith EntryWith FunctionWith PrimaryWith → JsFunction-F JsExpr JsHead JsSelector JsStmt JsEntry JsFunction JsPrimary
function_alone = map-JsFunction ExprWith HeadWith SelectorWith StmtWith EntryWith FunctionWith PrimaryWith JsExpr JsHead JsSelector JsStmt JsEntry JsFunction JsPrimary (λ y. y.0) (λ y. y.0) (λ y. y.0) (λ y. y.0) (λ y. y.0) (λ y. y.0) (λ y. y.0)

abbrev primary_alone : JsPrimary-F ExprWith HeadWith SelectorWith StmtWith EntryWith FunctionWith PrimaryWith → JsPrimary-F JsExpr JsHead JsSelector JsStmt JsEntry JsFunction JsPrimary
primary_alone = map-JsPrimary ExprWith HeadWith SelectorWith StmtWith EntryWith FunctionWith PrimaryWith JsExpr JsHead JsSelector JsStmt JsEntry JsFunction JsPrimary (λ y. y.0) (λ y. y.0) (λ y. y.0) (λ y. y.0) (λ y. y.0) (λ y. y.0) (λ y. y.0)

-- ---- each form

expr_form : (y : JsExpr-F ExprWith HeadWith SelectorWith StmtWith EntryWith FunctionWith PrimaryWith) → ExprReads (roll-JsExpr (expr_alone y))
expr_form (JsExpr-F.Primary a) = expr_by (JsExpr-F.Primary a.0) (t.primary_layer _ ∙ ap (λ v. expr_text (JsExpr-F.Primary v)) a.1)
expr_form (JsExpr-F.Binary o a b) = expr_by (JsExpr-F.Binary o a.0 b.0) (t.binary_layer o _ _ ∙ ap₂ (λ v w. expr_text (JsExpr-F.Binary o v w)) a.1 b.1)
expr_form (JsExpr-F.TypeOf a) = expr_by (JsExpr-F.TypeOf a.0) (t.type_of_layer _ ∙ ap (λ v. expr_text (JsExpr-F.TypeOf v)) a.1)
expr_form (JsExpr-F.Function f) = expr_by (JsExpr-F.Function f.0) (t.function_layer _ ∙ ap (λ v. expr_text (JsExpr-F.Function v)) f.1)
expr_form JsExpr-F.NewMap = expr_by JsExpr-F.NewMap t.new_map_layer
expr_form (JsExpr-F.Array xs) = expr_by (JsExpr-F.Array (map (λ y. y.0) xs)) (t.array_layer _ ∙ ap (λ v. expr_text (JsExpr-F.Array v)) (all_exprs xs))
expr_form (JsExpr-F.Object xs) = expr_by (JsExpr-F.Object (map (λ y. y.0) xs)) (t.object_layer _ ∙ ap (λ v. expr_text (JsExpr-F.Object v)) (read_all text_of_entry entry_without_places xs))

head_form : (y : JsHead-F ExprWith HeadWith SelectorWith StmtWith EntryWith FunctionWith PrimaryWith) → HeadReads (roll-JsHead (head_alone y))
head_form (JsHead-F.Name x) = head_by (JsHead-F.Name x) (t.name_layer x)
head_form (JsHead-F.Digits n) = head_by (JsHead-F.Digits n) (t.digits_layer n)
head_form (JsHead-F.Negative n) = head_by (JsHead-F.Negative n) (t.negative_layer n)
head_form (JsHead-F.Str us) = head_by (JsHead-F.Str us) (t.str_layer us)
head_form JsHead-F.Null = head_by JsHead-F.Null t.null_layer
head_form JsHead-F.Undefined = head_by JsHead-F.Undefined t.undefined_layer
head_form JsHead-F.True = head_by JsHead-F.True t.true_layer
head_form JsHead-F.False = head_by JsHead-F.False t.false_layer
head_form (JsHead-F.StringOf args) = head_by (JsHead-F.StringOf (map (λ y. y.0) args)) (t.string_of_layer _ ∙ ap (λ v. head_text (JsHead-F.StringOf v)) (all_exprs args))
head_form (JsHead-F.IsArray args) = head_by (JsHead-F.IsArray (map (λ y. y.0) args)) (t.is_array_layer _ ∙ ap (λ v. head_text (JsHead-F.IsArray v)) (all_exprs args))
head_form (JsHead-F.ArrayFrom args) = head_by (JsHead-F.ArrayFrom (map (λ y. y.0) args)) (t.array_from_layer _ ∙ ap (λ v. head_text (JsHead-F.ArrayFrom v)) (all_exprs args))

selector_form : (y : JsSelector-F ExprWith HeadWith SelectorWith StmtWith EntryWith FunctionWith PrimaryWith) → SelectorReads (roll-JsSelector (selector_alone y))
selector_form (JsSelector-F.Index a) = selector_by (JsSelector-F.Index a.0) (t.index_layer _ ∙ ap (λ v. selector_text (JsSelector-F.Index v)) a.1)
selector_form (JsSelector-F.Call args) = selector_by (JsSelector-F.Call (map (λ y. y.0) args)) (t.call_layer _ ∙ ap (λ v. selector_text (JsSelector-F.Call v)) (all_exprs args))
selector_form (JsSelector-F.Member m) = selector_by (JsSelector-F.Member m) (t.member_layer m)
selector_form (JsSelector-F.Method m args) = selector_by (JsSelector-F.Method m (map (λ y. y.0) args)) (t.method_layer m _ ∙ ap (λ v. selector_text (JsSelector-F.Method m v)) (all_exprs args))

stmt_form : (y : JsStmt-F ExprWith HeadWith SelectorWith StmtWith EntryWith FunctionWith PrimaryWith) → StmtReads (roll-JsStmt (stmt_alone y))
stmt_form (JsStmt-F.Let at x a) = stmt_by (JsStmt-F.Let at x a.0) (t.let_layer 0 x _ ∙ ap (λ v. stmt_text (JsStmt-F.Let 0 x v)) a.1)
stmt_form (JsStmt-F.Assign at x a) = stmt_by (JsStmt-F.Assign at x a.0) (t.assign_layer 0 x _ ∙ ap (λ v. stmt_text (JsStmt-F.Assign 0 x v)) a.1)
stmt_form (JsStmt-F.Store at a b c) = stmt_by (JsStmt-F.Store at a.0 b.0 c.0) (t.store_layer 0 _ _ _ ∙ ap (λ v. stmt_text (JsStmt-F.Store 0 v (text_of_expr (expr_without_places b.0)) (text_of_expr (expr_without_places c.0)))) a.1 ∙ ap₂ (λ v w. stmt_text (JsStmt-F.Store 0 (text_of_primary a.0) v w)) b.1 c.1)
stmt_form (JsStmt-F.Perform at a) = stmt_by (JsStmt-F.Perform at a.0) (t.perform_layer 0 _ ∙ ap (λ v. stmt_text (JsStmt-F.Perform 0 v)) a.1)
stmt_form (JsStmt-F.If at a xs) = stmt_by (JsStmt-F.If at a.0 (map (λ y. y.0) xs)) (t.if_layer 0 _ _ ∙ ap₂ (λ v w. stmt_text (JsStmt-F.If 0 v w)) a.1 (all_stmts xs))
stmt_form (JsStmt-F.IfElse at a xs ys) = stmt_by (JsStmt-F.IfElse at a.0 (map (λ y. y.0) xs) (map (λ y. y.0) ys)) (t.if_else_layer 0 _ _ _ ∙ ap (λ v. stmt_text (JsStmt-F.IfElse 0 v (map text_of_stmt (map stmt_without_places (map (λ y. y.0) xs))) (map text_of_stmt (map stmt_without_places (map (λ y. y.0) ys))))) a.1 ∙ ap₂ (λ v w. stmt_text (JsStmt-F.IfElse 0 (text_of_expr a.0) v w)) (all_stmts xs) (all_stmts ys))
stmt_form (JsStmt-F.Loop at xs) = stmt_by (JsStmt-F.Loop at (map (λ y. y.0) xs)) (t.loop_layer 0 _ ∙ ap (λ v. stmt_text (JsStmt-F.Loop 0 v)) (all_stmts xs))
stmt_form (JsStmt-F.Labelled at x xs) = stmt_by (JsStmt-F.Labelled at x (map (λ y. y.0) xs)) (t.labelled_layer 0 x _ ∙ ap (λ v. stmt_text (JsStmt-F.Labelled 0 x v)) (all_stmts xs))
stmt_form (JsStmt-F.Break at x) = stmt_by (JsStmt-F.Break at x) (t.break_layer 0 x)
stmt_form (JsStmt-F.Return at a) = stmt_by (JsStmt-F.Return at a.0) (t.return_layer 0 _ ∙ ap (λ v. stmt_text (JsStmt-F.Return 0 v)) a.1)
stmt_form (JsStmt-F.Throw at a) = stmt_by (JsStmt-F.Throw at a.0) (t.throw_layer 0 _ ∙ ap (λ v. stmt_text (JsStmt-F.Throw 0 v)) a.1)
stmt_form (JsStmt-F.TryCatch at xs x ys) = stmt_by (JsStmt-F.TryCatch at (map (λ y. y.0) xs) x (map (λ y. y.0) ys)) (t.try_catch_layer 0 _ x _ ∙ ap₂ (λ v w. stmt_text (JsStmt-F.TryCatch 0 v x w)) (all_stmts xs) (all_stmts ys))
stmt_form (JsStmt-F.TryFinally at xs ys) = stmt_by (JsStmt-F.TryFinally at (map (λ y. y.0) xs) (map (λ y. y.0) ys)) (t.try_finally_layer 0 _ _ ∙ ap₂ (λ v w. stmt_text (JsStmt-F.TryFinally 0 v w)) (all_stmts xs) (all_stmts ys))

entry_form : (y : JsEntry-F ExprWith HeadWith SelectorWith StmtWith EntryWith FunctionWith PrimaryWith) → EntryReads (roll-JsEntry (entry_alone y))
entry_form y = entry_by (entry_alone y) (t.text_of_key_and_value (record { key = y.key; value = expr_without_places y.value.0 }) ∙ ap (λ v. entry_text (record { key = y.key; value = v })) y.value.1)

function_form : (y : JsFunction-F ExprWith HeadWith SelectorWith StmtWith EntryWith FunctionWith PrimaryWith) → FunctionReads (roll-JsFunction (function_alone y))
function_form y = function_by (function_alone y)
    (t.text_of_its_body (record { parameters = y.parameters; body = map stmt_without_places (map (λ s. s.0) y.body) }) ∙ ap (λ v. code_text (record { parameters = y.parameters; body = v })) (all_stmts y.body))

primary_form : (y : JsPrimary-F ExprWith HeadWith SelectorWith StmtWith EntryWith FunctionWith PrimaryWith) → PrimaryReads (roll-JsPrimary (primary_alone y))
primary_form y = primary_by (primary_alone y)
    (t.text_of_its_parts (record { head = head_without_places y.head.0; selectors = map selector_without_places (map (λ s. s.0) y.selectors) })
    ∙ ap₂ (λ v w. primary_text (record { head = v; selectors = w })) y.head.1 (read_all text_of_selector selector_without_places y.selectors))

-- ---- trees

expr_reads : (a : JsExpr) → ExprReads a
expr_reads = ind-JsExpr ExprReads HeadReads SelectorReads StmtReads EntryReads FunctionReads PrimaryReads
    (λ x y is. subst (λ z. ExprReads (roll-JsExpr z)) is (expr_form y))
    (λ x y is. subst (λ z. HeadReads (roll-JsHead z)) is (head_form y))
    (λ x y is. subst (λ z. SelectorReads (roll-JsSelector z)) is (selector_form y))
    (λ x y is. subst (λ z. StmtReads (roll-JsStmt z)) is (stmt_form y))
    (λ x y is. subst (λ z. EntryReads (roll-JsEntry z)) is (entry_form y))
    (λ x y is. subst (λ z. FunctionReads (roll-JsFunction z)) is (function_form y))
    (λ x y is. subst (λ z. PrimaryReads (roll-JsPrimary z)) is (primary_form y))

stmt_reads : (a : JsStmt) → StmtReads a
stmt_reads = ind-JsStmt ExprReads HeadReads SelectorReads StmtReads EntryReads FunctionReads PrimaryReads
    (λ x y is. subst (λ z. ExprReads (roll-JsExpr z)) is (expr_form y))
    (λ x y is. subst (λ z. HeadReads (roll-JsHead z)) is (head_form y))
    (λ x y is. subst (λ z. SelectorReads (roll-JsSelector z)) is (selector_form y))
    (λ x y is. subst (λ z. StmtReads (roll-JsStmt z)) is (stmt_form y))
    (λ x y is. subst (λ z. EntryReads (roll-JsEntry z)) is (entry_form y))
    (λ x y is. subst (λ z. FunctionReads (roll-JsFunction z)) is (function_form y))
    (λ x y is. subst (λ z. PrimaryReads (roll-JsPrimary z)) is (primary_form y))

function_reads : (a : JsFunction) → FunctionReads a
function_reads = ind-JsFunction ExprReads HeadReads SelectorReads StmtReads EntryReads FunctionReads PrimaryReads
    (λ x y is. subst (λ z. ExprReads (roll-JsExpr z)) is (expr_form y))
    (λ x y is. subst (λ z. HeadReads (roll-JsHead z)) is (head_form y))
    (λ x y is. subst (λ z. SelectorReads (roll-JsSelector z)) is (selector_form y))
    (λ x y is. subst (λ z. StmtReads (roll-JsStmt z)) is (stmt_form y))
    (λ x y is. subst (λ z. EntryReads (roll-JsEntry z)) is (entry_form y))
    (λ x y is. subst (λ z. FunctionReads (roll-JsFunction z)) is (function_form y))
    (λ x y is. subst (λ z. PrimaryReads (roll-JsPrimary z)) is (primary_form y))

item_reads : (a : JsItem) → text_of_item (item_without_places a) ≡ text_of_item a
item_reads (Declared x f) = ap (λ text. line (codes "function " ++ (x ++ text))) (function_reads f)
item_reads (Var at x a) = ap (λ text. line (codes "var " ++ (x ++ (codes " = " ++ (text ++ codes ";"))))) (expr_reads a)
item_reads (Statement a) = stmt_reads a

items_read : (xs : List JsItem) → map text_of_item (map item_without_places xs) ≡ map text_of_item xs
items_read [] = refl
items_read (a ∷ xs) = ap₂ (λ v w. v ∷ w) (item_reads a) (items_read xs)

pub no_say : PlacesHaveNoSay
no_say file other same = ap joined (sym (items_read file.items) ∙ ap (map text_of_item) same.same ∙ items_read other.items)
