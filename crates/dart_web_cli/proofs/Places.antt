-- Trees that differ in their places alone: what holds no function is the same, and a statement is of the same form.
use Rattle.std.proofs.Common.{◌≡◌, ℕ, zero, List, [], ◌∷◌, map, refl, sym, ap, ◌∙◌}
use Rattle.js_tree.specs.declared.tree.JsExpr.{JsExpr, out-JsExpr, roll-JsExpr, roll-out-JsExpr, fold_out-JsExpr}
use Rattle.js_tree.specs.declared.tree.JsExpr.TheVariants as e
use Rattle.js_tree.specs.declared.tree.JsExpr.TheOpen.{JsExpr-F, JsHead-F, JsSelector-F, JsStmt-F, JsEntry-F, JsFunction-F, JsPrimary-F}
use Rattle.js_tree.specs.declared.tree.JsHead.{JsHead, out-JsHead, roll-JsHead, roll-out-JsHead, fold_out-JsHead}
use Rattle.js_tree.specs.declared.tree.JsHead.TheVariants as h
use Rattle.js_tree.specs.declared.tree.JsSelector.{JsSelector, out-JsSelector, roll-JsSelector, roll-out-JsSelector, fold_out-JsSelector}
use Rattle.js_tree.specs.declared.tree.JsSelector.TheVariants as l
use Rattle.js_tree.specs.declared.tree.JsPrimary.{JsPrimary}
use Rattle.js_tree.specs.declared.tree.JsEntry.{JsEntry}
use Rattle.js_tree.specs.declared.tree.JsFunction.{JsFunction}
use Rattle.js_tree.specs.declared.tree.JsStmt.{JsStmt, out-JsStmt, roll-JsStmt, roll-out-JsStmt, fold_out-JsStmt}
use Rattle.js_tree.specs.declared.tree.JsStmt.TheVariants as s
use Rattle.js_tree.specs.declared.words.JsMember.{JsMember}
use Rattle.js_tree.specs.declared.words.JsOperator.{JsOperator}
use Rattle.js_tree.specs.Places.{expr_of, head_of, selector_of, stmt_of, entry_of, function_of, primary_of, expr_without_places, head_without_places, selector_without_places, primary_without_places, stmt_without_places}
use Rattle.js_tree.proofs.Unplaced.{expr_bared, head_bared, selector_bared, stmt_bared, head_bare_is, primary_same, binary_same, string_of_same, call_same, method_same, let_same, perform_same, return_same, same_primary}
use Rattle.js_store.specs.Scopes.{Scope}
use Rattle.js_meaning.specs.Statements.{with_let}
use Rattle.dart_web_cli.specs.Translation.{alone}

-- it has no places, and no other tree differs from it in places alone
pub record IsPlaceless {T : Type 0} (bare : T → T) (a : T) : Type 0 where
  pub is : bare a ≡ a
  pub only : (b : T) → bare b ≡ a → b ≡ a

-- ---- one level of a tree without its places

out_expr : (y : JsExpr-F JsExpr JsHead JsSelector JsStmt JsEntry JsFunction JsPrimary) → out-JsExpr (expr_of y) ≡ y
out_expr (JsExpr-F.Primary a) = e.outs-Primary a
out_expr (JsExpr-F.Binary o a b) = e.outs-Binary o a b
out_expr (JsExpr-F.TypeOf a) = e.outs-TypeOf a
out_expr (JsExpr-F.Function f) = e.outs-Function f
out_expr JsExpr-F.NewMap = e.outs-NewMap
out_expr (JsExpr-F.Array xs) = e.outs-Array xs
out_expr (JsExpr-F.Object xs) = e.outs-Object xs

expr_level : (a b : JsExpr) → expr_without_places b ≡ a → expr_bared (out-JsExpr b) ≡ out-JsExpr a
expr_level a b e =
    sym (out_expr (expr_bared (out-JsExpr b))) ∙ ap out-JsExpr (sym (fold_out-JsExpr JsExpr JsHead JsSelector JsStmt JsEntry JsFunction JsPrimary expr_of head_of selector_of stmt_of entry_of function_of primary_of b) ∙ e)

expr_from : (b : JsExpr) (y : JsExpr-F JsExpr JsHead JsSelector JsStmt JsEntry JsFunction JsPrimary) → out-JsExpr b ≡ y → b ≡ roll-JsExpr y
expr_from b y e = sym (roll-out-JsExpr b) ∙ ap roll-JsExpr e

out_head : (y : JsHead-F JsExpr JsHead JsSelector JsStmt JsEntry JsFunction JsPrimary) → out-JsHead (head_of y) ≡ y
out_head (JsHead-F.Name x) = h.outs-Name x
out_head (JsHead-F.Digits n) = h.outs-Digits n
out_head (JsHead-F.Negative n) = h.outs-Negative n
out_head (JsHead-F.Str us) = h.outs-Str us
out_head JsHead-F.Null = h.outs-Null
out_head JsHead-F.Undefined = h.outs-Undefined
out_head JsHead-F.True = h.outs-True
out_head JsHead-F.False = h.outs-False
out_head (JsHead-F.StringOf args) = h.outs-StringOf args
out_head (JsHead-F.IsArray args) = h.outs-IsArray args
out_head (JsHead-F.ArrayFrom args) = h.outs-ArrayFrom args

head_level : (a b : JsHead) → head_without_places b ≡ a → head_bared (out-JsHead b) ≡ out-JsHead a
head_level a b e =
    sym (out_head (head_bared (out-JsHead b))) ∙ ap out-JsHead (sym (fold_out-JsHead JsExpr JsHead JsSelector JsStmt JsEntry JsFunction JsPrimary expr_of head_of selector_of stmt_of entry_of function_of primary_of b) ∙ e)

head_from : (b : JsHead) (y : JsHead-F JsExpr JsHead JsSelector JsStmt JsEntry JsFunction JsPrimary) → out-JsHead b ≡ y → b ≡ roll-JsHead y
head_from b y e = sym (roll-out-JsHead b) ∙ ap roll-JsHead e

out_selector : (y : JsSelector-F JsExpr JsHead JsSelector JsStmt JsEntry JsFunction JsPrimary) → out-JsSelector (selector_of y) ≡ y
out_selector (JsSelector-F.Index a) = l.outs-Index a
out_selector (JsSelector-F.Call args) = l.outs-Call args
out_selector (JsSelector-F.Member m) = l.outs-Member m
out_selector (JsSelector-F.Method m args) = l.outs-Method m args

selector_level : (a b : JsSelector) → selector_without_places b ≡ a → selector_bared (out-JsSelector b) ≡ out-JsSelector a
selector_level a b e =
    sym (out_selector (selector_bared (out-JsSelector b))) ∙ ap out-JsSelector (sym (fold_out-JsSelector JsExpr JsHead JsSelector JsStmt JsEntry JsFunction JsPrimary expr_of head_of selector_of stmt_of entry_of function_of primary_of b) ∙ e)

selector_from : (b : JsSelector) (y : JsSelector-F JsExpr JsHead JsSelector JsStmt JsEntry JsFunction JsPrimary) → out-JsSelector b ≡ y → b ≡ roll-JsSelector y
selector_from b y e = sym (roll-out-JsSelector b) ∙ ap roll-JsSelector e

abbrev zeroed : JsStmt-F JsExpr JsHead JsSelector JsStmt JsEntry JsFunction JsPrimary → JsStmt-F JsExpr JsHead JsSelector JsStmt JsEntry JsFunction JsPrimary
zeroed (JsStmt-F.Let at x a) = JsStmt-F.Let 0 x a
zeroed (JsStmt-F.Assign at x a) = JsStmt-F.Assign 0 x a
zeroed (JsStmt-F.Store at a b c) = JsStmt-F.Store 0 a b c
zeroed (JsStmt-F.Perform at a) = JsStmt-F.Perform 0 a
zeroed (JsStmt-F.If at a xs) = JsStmt-F.If 0 a xs
zeroed (JsStmt-F.IfElse at a xs ys) = JsStmt-F.IfElse 0 a xs ys
zeroed (JsStmt-F.Loop at xs) = JsStmt-F.Loop 0 xs
zeroed (JsStmt-F.Labelled at x xs) = JsStmt-F.Labelled 0 x xs
zeroed (JsStmt-F.Break at x) = JsStmt-F.Break 0 x
zeroed (JsStmt-F.Return at a) = JsStmt-F.Return 0 a
zeroed (JsStmt-F.Throw at a) = JsStmt-F.Throw 0 a
zeroed (JsStmt-F.TryCatch at xs x ys) = JsStmt-F.TryCatch 0 xs x ys
zeroed (JsStmt-F.TryFinally at xs ys) = JsStmt-F.TryFinally 0 xs ys

out_stmt : (y : JsStmt-F JsExpr JsHead JsSelector JsStmt JsEntry JsFunction JsPrimary) → out-JsStmt (stmt_of y) ≡ zeroed y
out_stmt (JsStmt-F.Let at x a) = s.outs-Let 0 x a
out_stmt (JsStmt-F.Assign at x a) = s.outs-Assign 0 x a
out_stmt (JsStmt-F.Store at a b c) = s.outs-Store 0 a b c
out_stmt (JsStmt-F.Perform at a) = s.outs-Perform 0 a
out_stmt (JsStmt-F.If at a xs) = s.outs-If 0 a xs
out_stmt (JsStmt-F.IfElse at a xs ys) = s.outs-IfElse 0 a xs ys
out_stmt (JsStmt-F.Loop at xs) = s.outs-Loop 0 xs
out_stmt (JsStmt-F.Labelled at x xs) = s.outs-Labelled 0 x xs
out_stmt (JsStmt-F.Break at x) = s.outs-Break 0 x
out_stmt (JsStmt-F.Return at a) = s.outs-Return 0 a
out_stmt (JsStmt-F.Throw at a) = s.outs-Throw 0 a
out_stmt (JsStmt-F.TryCatch at xs x ys) = s.outs-TryCatch 0 xs x ys
out_stmt (JsStmt-F.TryFinally at xs ys) = s.outs-TryFinally 0 xs ys

stmt_level : (a b : JsStmt) → stmt_without_places b ≡ a → zeroed (stmt_bared (out-JsStmt b)) ≡ out-JsStmt a
stmt_level a b e =
    sym (out_stmt (stmt_bared (out-JsStmt b))) ∙ ap out-JsStmt (sym (fold_out-JsStmt JsExpr JsHead JsSelector JsStmt JsEntry JsFunction JsPrimary expr_of head_of selector_of stmt_of entry_of function_of primary_of b) ∙ e)

stmt_from : (b : JsStmt) (y : JsStmt-F JsExpr JsHead JsSelector JsStmt JsEntry JsFunction JsPrimary) → out-JsStmt b ≡ y → b ≡ roll-JsStmt y
stmt_from b y e = sym (roll-out-JsStmt b) ∙ ap roll-JsStmt e

-- ---- heads

pub name : (x : List ℕ) → IsPlaceless head_without_places (h.Name x)
name x = record { is = ap head_without_places (sym (h.rolls-Name x)) ∙ head_bare_is (JsHead-F.Name x); only = λ t same. by t (out-JsHead t) refl (head_level (h.Name x) t same ∙ h.outs-Name x) }
  where
    by : (t : JsHead) (y : JsHead-F JsExpr JsHead JsSelector JsStmt JsEntry JsFunction JsPrimary) → out-JsHead t ≡ y → head_bared y ≡ JsHead-F.Name x → t ≡ h.Name x
    by t (JsHead-F.Name x') made is = head_from t (JsHead-F.Name x') made ∙ h.rolls-Name x' ∙ ap h.Name (cc is)
    by t (JsHead-F.Digits n) made is = absurd (cc is)
    by t (JsHead-F.Negative n) made is = absurd (cc is)
    by t (JsHead-F.Str us) made is = absurd (cc is)
    by t JsHead-F.Null made is = absurd (cc is)
    by t JsHead-F.Undefined made is = absurd (cc is)
    by t JsHead-F.True made is = absurd (cc is)
    by t JsHead-F.False made is = absurd (cc is)
    by t (JsHead-F.StringOf args) made is = absurd (cc is)
    by t (JsHead-F.IsArray args) made is = absurd (cc is)
    by t (JsHead-F.ArrayFrom args) made is = absurd (cc is)

pub digits : (n : ℕ) → IsPlaceless head_without_places (h.Digits n)
digits n = record { is = ap head_without_places (sym (h.rolls-Digits n)) ∙ head_bare_is (JsHead-F.Digits n); only = λ t same. by t (out-JsHead t) refl (head_level (h.Digits n) t same ∙ h.outs-Digits n) }
  where
    by : (t : JsHead) (y : JsHead-F JsExpr JsHead JsSelector JsStmt JsEntry JsFunction JsPrimary) → out-JsHead t ≡ y → head_bared y ≡ JsHead-F.Digits n → t ≡ h.Digits n
    by t (JsHead-F.Name x) made is = absurd (cc is)
    by t (JsHead-F.Digits n') made is = head_from t (JsHead-F.Digits n') made ∙ h.rolls-Digits n' ∙ ap h.Digits (cc is)
    by t (JsHead-F.Negative n) made is = absurd (cc is)
    by t (JsHead-F.Str us) made is = absurd (cc is)
    by t JsHead-F.Null made is = absurd (cc is)
    by t JsHead-F.Undefined made is = absurd (cc is)
    by t JsHead-F.True made is = absurd (cc is)
    by t JsHead-F.False made is = absurd (cc is)
    by t (JsHead-F.StringOf args) made is = absurd (cc is)
    by t (JsHead-F.IsArray args) made is = absurd (cc is)
    by t (JsHead-F.ArrayFrom args) made is = absurd (cc is)

pub string : (us : List ℕ) → IsPlaceless head_without_places (h.Str us)
string us = record { is = ap head_without_places (sym (h.rolls-Str us)) ∙ head_bare_is (JsHead-F.Str us); only = λ t same. by t (out-JsHead t) refl (head_level (h.Str us) t same ∙ h.outs-Str us) }
  where
    by : (t : JsHead) (y : JsHead-F JsExpr JsHead JsSelector JsStmt JsEntry JsFunction JsPrimary) → out-JsHead t ≡ y → head_bared y ≡ JsHead-F.Str us → t ≡ h.Str us
    by t (JsHead-F.Name x) made is = absurd (cc is)
    by t (JsHead-F.Digits n) made is = absurd (cc is)
    by t (JsHead-F.Negative n) made is = absurd (cc is)
    by t (JsHead-F.Str us') made is = head_from t (JsHead-F.Str us') made ∙ h.rolls-Str us' ∙ ap h.Str (cc is)
    by t JsHead-F.Null made is = absurd (cc is)
    by t JsHead-F.Undefined made is = absurd (cc is)
    by t JsHead-F.True made is = absurd (cc is)
    by t JsHead-F.False made is = absurd (cc is)
    by t (JsHead-F.StringOf args) made is = absurd (cc is)
    by t (JsHead-F.IsArray args) made is = absurd (cc is)
    by t (JsHead-F.ArrayFrom args) made is = absurd (cc is)

pub null : IsPlaceless head_without_places (h.Null)
null = record { is = ap head_without_places (sym h.rolls-Null) ∙ head_bare_is JsHead-F.Null; only = λ t same. by t (out-JsHead t) refl (head_level (h.Null) t same ∙ h.outs-Null) }
  where
    by : (t : JsHead) (y : JsHead-F JsExpr JsHead JsSelector JsStmt JsEntry JsFunction JsPrimary) → out-JsHead t ≡ y → head_bared y ≡ JsHead-F.Null → t ≡ h.Null
    by t (JsHead-F.Name x) made is = absurd (cc is)
    by t (JsHead-F.Digits n) made is = absurd (cc is)
    by t (JsHead-F.Negative n) made is = absurd (cc is)
    by t (JsHead-F.Str us) made is = absurd (cc is)
    by t JsHead-F.Null made is = head_from t JsHead-F.Null made ∙ h.rolls-Null
    by t JsHead-F.Undefined made is = absurd (cc is)
    by t JsHead-F.True made is = absurd (cc is)
    by t JsHead-F.False made is = absurd (cc is)
    by t (JsHead-F.StringOf args) made is = absurd (cc is)
    by t (JsHead-F.IsArray args) made is = absurd (cc is)
    by t (JsHead-F.ArrayFrom args) made is = absurd (cc is)

pub string_of : (args : List JsExpr) → IsPlaceless (map expr_without_places) args → IsPlaceless head_without_places (h.StringOf args)
string_of args p = record { is = string_of_same args ∙ ap h.StringOf p.is; only = λ t same. by t (out-JsHead t) refl (head_level (h.StringOf args) t same ∙ h.outs-StringOf args) }
  where
    by : (t : JsHead) (y : JsHead-F JsExpr JsHead JsSelector JsStmt JsEntry JsFunction JsPrimary) → out-JsHead t ≡ y → head_bared y ≡ JsHead-F.StringOf args → t ≡ h.StringOf args
    by t (JsHead-F.Name x) made is = absurd (cc is)
    by t (JsHead-F.Digits n) made is = absurd (cc is)
    by t (JsHead-F.Negative n) made is = absurd (cc is)
    by t (JsHead-F.Str us) made is = absurd (cc is)
    by t JsHead-F.Null made is = absurd (cc is)
    by t JsHead-F.Undefined made is = absurd (cc is)
    by t JsHead-F.True made is = absurd (cc is)
    by t JsHead-F.False made is = absurd (cc is)
    by t (JsHead-F.StringOf args') made is = head_from t (JsHead-F.StringOf args') made ∙ h.rolls-StringOf args' ∙ ap h.StringOf (p.only args' (cc is))
    by t (JsHead-F.IsArray args) made is = absurd (cc is)
    by t (JsHead-F.ArrayFrom args) made is = absurd (cc is)

-- ---- selectors

pub call : (args : List JsExpr) → IsPlaceless (map expr_without_places) args → IsPlaceless selector_without_places (l.Call args)
call args p = record { is = call_same args ∙ ap l.Call p.is; only = λ t same. by t (out-JsSelector t) refl (selector_level (l.Call args) t same ∙ l.outs-Call args) }
  where
    by : (t : JsSelector) (y : JsSelector-F JsExpr JsHead JsSelector JsStmt JsEntry JsFunction JsPrimary) → out-JsSelector t ≡ y → selector_bared y ≡ JsSelector-F.Call args → t ≡ l.Call args
    by t (JsSelector-F.Index a) made is = absurd (cc is)
    by t (JsSelector-F.Call args') made is = selector_from t (JsSelector-F.Call args') made ∙ l.rolls-Call args' ∙ ap l.Call (p.only args' (cc is))
    by t (JsSelector-F.Member m) made is = absurd (cc is)
    by t (JsSelector-F.Method m args) made is = absurd (cc is)

pub method : (m : JsMember) (args : List JsExpr) → IsPlaceless (map expr_without_places) args → IsPlaceless selector_without_places (l.Method m args)
method m args p = record { is = method_same m args ∙ ap (l.Method m) p.is; only = λ t same. by t (out-JsSelector t) refl (selector_level (l.Method m args) t same ∙ l.outs-Method m args) }
  where
    by : (t : JsSelector) (y : JsSelector-F JsExpr JsHead JsSelector JsStmt JsEntry JsFunction JsPrimary) → out-JsSelector t ≡ y → selector_bared y ≡ JsSelector-F.Method m args → t ≡ l.Method m args
    by t (JsSelector-F.Index a) made is = absurd (cc is)
    by t (JsSelector-F.Call args) made is = absurd (cc is)
    by t (JsSelector-F.Member m) made is = absurd (cc is)
    by t (JsSelector-F.Method m' args') made is = selector_from t (JsSelector-F.Method m' args') made ∙ l.rolls-Method m' args' ∙ (let em : m' ≡ m = cc is in let ea : args' ≡ args = p.only args' (cc is) in (λ i. l.Method (em i) (ea i)))

-- ---- lists

pub none : {T : Type 0} {bare : T → T} → IsPlaceless (map bare) []
none {T} {bare} = record { is = refl; only = by }
  where
    by : (xs : List T) → map bare xs ≡ [] → xs ≡ []
    by [] e = refl
    by (x ∷ xs) e = absurd (cc e)

pub one : {T : Type 0} {bare : T → T} (a : T) → IsPlaceless bare a → IsPlaceless (map bare) (a ∷ [])
one {T} {bare} a p = record { is = ap (λ x. x ∷ []) p.is; only = by }
  where
    by : (xs : List T) → map bare xs ≡ a ∷ [] → xs ≡ a ∷ []
    by [] e = absurd (cc e)
    by (x ∷ []) e = ap (λ x. x ∷ []) (p.only x (cc e))
    by (x ∷ y ∷ xs) e = absurd (cc e)

-- ---- expressions

abbrev made_of : JsHead → List JsSelector → JsPrimary
made_of head selectors = record { head = head; selectors = selectors }

pub selected : (head : JsHead) (selectors : List JsSelector) → IsPlaceless head_without_places head → IsPlaceless (map selector_without_places) selectors → IsPlaceless primary_without_places (record { head = head; selectors = selectors })
selected head selectors p q = record {
  is = same_primary (record { head = head; selectors = selectors }) ∙ (λ i. made_of (p.is i) (q.is i));
  only = λ b same. by b (sym (same_primary b) ∙ same);
}
  where
    by : (b : JsPrimary) → made_of (head_without_places b.head) (map selector_without_places b.selectors) ≡ made_of head selectors → b ≡ made_of head selectors
    by b same =
        let eh : b.head ≡ head = p.only b.head (ap (λ (x : JsPrimary). x.head) same) in
        let es : b.selectors ≡ selectors = q.only b.selectors (ap (λ (x : JsPrimary). x.selectors) same) in
        (λ i. made_of (eh i) (es i))

pub by_itself : (head : JsHead) → IsPlaceless head_without_places head → IsPlaceless primary_without_places (alone head)
by_itself head p = selected head [] p none

pub primary : (a : JsPrimary) → IsPlaceless primary_without_places a → IsPlaceless expr_without_places (e.Primary a)
primary a p = record { is = primary_same a ∙ ap e.Primary p.is; only = λ t same. by t (out-JsExpr t) refl (expr_level (e.Primary a) t same ∙ e.outs-Primary a) }
  where
    by : (t : JsExpr) (y : JsExpr-F JsExpr JsHead JsSelector JsStmt JsEntry JsFunction JsPrimary) → out-JsExpr t ≡ y → expr_bared y ≡ JsExpr-F.Primary a → t ≡ e.Primary a
    by t (JsExpr-F.Primary a') made is = expr_from t (JsExpr-F.Primary a') made ∙ e.rolls-Primary a' ∙ ap e.Primary (p.only a' (cc is))
    by t (JsExpr-F.Binary o a b) made is = absurd (cc is)
    by t (JsExpr-F.TypeOf a) made is = absurd (cc is)
    by t (JsExpr-F.Function f) made is = absurd (cc is)
    by t JsExpr-F.NewMap made is = absurd (cc is)
    by t (JsExpr-F.Array xs) made is = absurd (cc is)
    by t (JsExpr-F.Object xs) made is = absurd (cc is)

pub binary : (o : JsOperator) (a b : JsPrimary) → IsPlaceless primary_without_places a → IsPlaceless primary_without_places b → IsPlaceless expr_without_places (e.Binary o a b)
binary o a b p q = record { is = binary_same o a b ∙ (λ i. e.Binary o (p.is i) (q.is i)); only = λ t same. by t (out-JsExpr t) refl (expr_level (e.Binary o a b) t same ∙ e.outs-Binary o a b) }
  where
    by : (t : JsExpr) (y : JsExpr-F JsExpr JsHead JsSelector JsStmt JsEntry JsFunction JsPrimary) → out-JsExpr t ≡ y → expr_bared y ≡ JsExpr-F.Binary o a b → t ≡ e.Binary o a b
    by t (JsExpr-F.Primary a) made is = absurd (cc is)
    by t (JsExpr-F.Binary o' a' b') made is = expr_from t (JsExpr-F.Binary o' a' b') made ∙ e.rolls-Binary o' a' b' ∙ (let eo : o' ≡ o = cc is in let ea : a' ≡ a = p.only a' (cc is) in let eb : b' ≡ b = q.only b' (cc is) in (λ i. e.Binary (eo i) (ea i) (eb i)))
    by t (JsExpr-F.TypeOf a) made is = absurd (cc is)
    by t (JsExpr-F.Function f) made is = absurd (cc is)
    by t JsExpr-F.NewMap made is = absurd (cc is)
    by t (JsExpr-F.Array xs) made is = absurd (cc is)
    by t (JsExpr-F.Object xs) made is = absurd (cc is)

-- ---- statements

-- a tree that begins with a statement of this form, at some place
pub record Begins (statement : ℕ → JsStmt) (rest tree : List JsStmt) : Type 0 where
  pub at : ℕ
  pub more : List JsStmt
  pub is : tree ≡ statement at ∷ more
  pub same : map stmt_without_places more ≡ rest

abbrev pub AtPlace : (ℕ → JsStmt) → JsStmt → Type 0
AtPlace statement c = (at : ℕ) × (c ≡ statement at)

begins : (statement : ℕ → JsStmt) → ((c : JsStmt) → stmt_without_places c ≡ statement 0 → AtPlace statement c) → (rest tree : List JsStmt) → map stmt_without_places tree ≡ statement 0 ∷ rest → Begins statement rest tree
begins statement one rest [] e = absurd (cc e)
begins statement one rest (c ∷ more) e = let a = one c (cc e) in record { at = a.0; more = more; is = ap (λ c. c ∷ more) a.1; same = cc e }

let_at : (x : List ℕ) (a : JsExpr) → IsPlaceless expr_without_places a → (c : JsStmt) → stmt_without_places c ≡ s.Let 0 x a → AtPlace (λ at. s.Let at x a) c
let_at x a p c e = by (out-JsStmt c) refl (stmt_level (s.Let 0 x a) c e ∙ s.outs-Let 0 x a)
  where
    by : (y : JsStmt-F JsExpr JsHead JsSelector JsStmt JsEntry JsFunction JsPrimary) → out-JsStmt c ≡ y → zeroed (stmt_bared y) ≡ JsStmt-F.Let 0 x a → AtPlace (λ at. s.Let at x a) c
    by (JsStmt-F.Let at' x' a') made e = let ex : x' ≡ x = cc e in let ea : a' ≡ a = p.only a' (cc e) in (at', stmt_from c (JsStmt-F.Let at' x' a') made ∙ s.rolls-Let at' x' a' ∙ (λ i. s.Let at' (ex i) (ea i)))
    by (JsStmt-F.Assign at x a) made e = absurd (cc e)
    by (JsStmt-F.Store at a b c) made e = absurd (cc e)
    by (JsStmt-F.Perform at a) made e = absurd (cc e)
    by (JsStmt-F.If at a xs) made e = absurd (cc e)
    by (JsStmt-F.IfElse at a xs ys) made e = absurd (cc e)
    by (JsStmt-F.Loop at xs) made e = absurd (cc e)
    by (JsStmt-F.Labelled at x xs) made e = absurd (cc e)
    by (JsStmt-F.Break at x) made e = absurd (cc e)
    by (JsStmt-F.Return at a) made e = absurd (cc e)
    by (JsStmt-F.Throw at a) made e = absurd (cc e)
    by (JsStmt-F.TryCatch at xs x ys) made e = absurd (cc e)
    by (JsStmt-F.TryFinally at xs ys) made e = absurd (cc e)

perform_at : (a : JsPrimary) → IsPlaceless primary_without_places a → (c : JsStmt) → stmt_without_places c ≡ s.Perform 0 a → AtPlace (λ at. s.Perform at a) c
perform_at a p c e = by (out-JsStmt c) refl (stmt_level (s.Perform 0 a) c e ∙ s.outs-Perform 0 a)
  where
    by : (y : JsStmt-F JsExpr JsHead JsSelector JsStmt JsEntry JsFunction JsPrimary) → out-JsStmt c ≡ y → zeroed (stmt_bared y) ≡ JsStmt-F.Perform 0 a → AtPlace (λ at. s.Perform at a) c
    by (JsStmt-F.Let at x a) made e = absurd (cc e)
    by (JsStmt-F.Assign at x a) made e = absurd (cc e)
    by (JsStmt-F.Store at a b c) made e = absurd (cc e)
    by (JsStmt-F.Perform at' a') made e = let ea : a' ≡ a = p.only a' (cc e) in (at', stmt_from c (JsStmt-F.Perform at' a') made ∙ s.rolls-Perform at' a' ∙ ap (s.Perform at') ea)
    by (JsStmt-F.If at a xs) made e = absurd (cc e)
    by (JsStmt-F.IfElse at a xs ys) made e = absurd (cc e)
    by (JsStmt-F.Loop at xs) made e = absurd (cc e)
    by (JsStmt-F.Labelled at x xs) made e = absurd (cc e)
    by (JsStmt-F.Break at x) made e = absurd (cc e)
    by (JsStmt-F.Return at a) made e = absurd (cc e)
    by (JsStmt-F.Throw at a) made e = absurd (cc e)
    by (JsStmt-F.TryCatch at xs x ys) made e = absurd (cc e)
    by (JsStmt-F.TryFinally at xs ys) made e = absurd (cc e)

return_at : (a : JsExpr) → IsPlaceless expr_without_places a → (c : JsStmt) → stmt_without_places c ≡ s.Return 0 a → AtPlace (λ at. s.Return at a) c
return_at a p c e = by (out-JsStmt c) refl (stmt_level (s.Return 0 a) c e ∙ s.outs-Return 0 a)
  where
    by : (y : JsStmt-F JsExpr JsHead JsSelector JsStmt JsEntry JsFunction JsPrimary) → out-JsStmt c ≡ y → zeroed (stmt_bared y) ≡ JsStmt-F.Return 0 a → AtPlace (λ at. s.Return at a) c
    by (JsStmt-F.Let at x a) made e = absurd (cc e)
    by (JsStmt-F.Assign at x a) made e = absurd (cc e)
    by (JsStmt-F.Store at a b c) made e = absurd (cc e)
    by (JsStmt-F.Perform at a) made e = absurd (cc e)
    by (JsStmt-F.If at a xs) made e = absurd (cc e)
    by (JsStmt-F.IfElse at a xs ys) made e = absurd (cc e)
    by (JsStmt-F.Loop at xs) made e = absurd (cc e)
    by (JsStmt-F.Labelled at x xs) made e = absurd (cc e)
    by (JsStmt-F.Break at x) made e = absurd (cc e)
    by (JsStmt-F.Return at' a') made e = let ea : a' ≡ a = p.only a' (cc e) in (at', stmt_from c (JsStmt-F.Return at' a') made ∙ s.rolls-Return at' a' ∙ ap (s.Return at') ea)
    by (JsStmt-F.Throw at a) made e = absurd (cc e)
    by (JsStmt-F.TryCatch at xs x ys) made e = absurd (cc e)
    by (JsStmt-F.TryFinally at xs ys) made e = absurd (cc e)

pub one_perform : (a : JsPrimary) → IsPlaceless primary_without_places a → (c : JsStmt) → stmt_without_places c ≡ s.Perform 0 a → AtPlace (λ at. s.Perform at a) c
one_perform = perform_at

pub begins_with_let : (x : List ℕ) (a : JsExpr) → IsPlaceless expr_without_places a → (rest tree : List JsStmt) → map stmt_without_places tree ≡ s.Let 0 x a ∷ rest → Begins (λ at. s.Let at x a) rest tree
begins_with_let x a p = begins (λ at. s.Let at x a) (let_at x a p)

pub begins_with_perform : (a : JsPrimary) → IsPlaceless primary_without_places a → (rest tree : List JsStmt) → map stmt_without_places tree ≡ s.Perform 0 a ∷ rest → Begins (λ at. s.Perform at a) rest tree
begins_with_perform a p = begins (λ at. s.Perform at a) (perform_at a p)

pub begins_with_return : (a : JsExpr) → IsPlaceless expr_without_places a → (rest tree : List JsStmt) → map stmt_without_places tree ≡ s.Return 0 a ∷ rest → Begins (λ at. s.Return at a) rest tree
begins_with_return a p = begins (λ at. s.Return at a) (return_at a p)

-- a statement without its places is itself

pub let_bare : (x : List ℕ) (a : JsExpr) → IsPlaceless expr_without_places a → stmt_without_places (s.Let 0 x a) ≡ s.Let 0 x a
let_bare x a p = let_same 0 x a ∙ ap (s.Let 0 x) p.is

pub perform_bare : (a : JsPrimary) → IsPlaceless primary_without_places a → stmt_without_places (s.Perform 0 a) ≡ s.Perform 0 a
perform_bare a p = perform_same 0 a ∙ ap (s.Perform 0) p.is

pub return_bare : (a : JsExpr) → IsPlaceless expr_without_places a → stmt_without_places (s.Return 0 a) ≡ s.Return 0 a
return_bare a p = return_same 0 a ∙ ap (s.Return 0) p.is

-- places have no say in what a statement declares
pub with_let_bare : (scope : Scope) (c : JsStmt) → with_let scope (out-JsStmt c) ≡ with_let scope (out-JsStmt (stmt_without_places c))
with_let_bare scope c = by (out-JsStmt c) ∙ ap (with_let scope) (stmt_level (stmt_without_places c) c refl)
  where
    by : (y : JsStmt-F JsExpr JsHead JsSelector JsStmt JsEntry JsFunction JsPrimary) → with_let scope y ≡ with_let scope (zeroed (stmt_bared y))
    by (JsStmt-F.Let at x a) = refl
    by (JsStmt-F.Assign at x a) = refl
    by (JsStmt-F.Store at a b c) = refl
    by (JsStmt-F.Perform at a) = refl
    by (JsStmt-F.If at a xs) = refl
    by (JsStmt-F.IfElse at a xs ys) = refl
    by (JsStmt-F.Loop at xs) = refl
    by (JsStmt-F.Labelled at x xs) = refl
    by (JsStmt-F.Break at x) = refl
    by (JsStmt-F.Return at a) = refl
    by (JsStmt-F.Throw at a) = refl
    by (JsStmt-F.TryCatch at xs x ys) = refl
    by (JsStmt-F.TryFinally at xs ys) = refl
