-- Which bytes spell which tree, and which trees have a spelling.
use Rattle.std.specs.Prelude.{◌≡◌, ◌≤◌, ℕ, Bool, true, false, not, ◌&&◌, nat_lt, List, [], ◌∷◌}
use Rattle.std.specs.List.{list_all}
use Rattle.js_tree.specs.declared.tree.JsExpr.{JsExpr}
use Rattle.js_tree.specs.declared.tree.JsExpr.TheVariants as e
use Rattle.js_tree.specs.declared.tree.JsHead.{JsHead}
use Rattle.js_tree.specs.declared.tree.JsHead.TheVariants as h
use Rattle.js_tree.specs.declared.tree.JsSelector.{JsSelector}
use Rattle.js_tree.specs.declared.tree.JsSelector.TheVariants as l
use Rattle.js_tree.specs.declared.tree.JsPrimary.{JsPrimary}
use Rattle.js_tree.specs.declared.tree.JsFunction.{JsFunction}
use Rattle.js_tree.specs.declared.tree.JsEntry.{JsEntry}
use Rattle.js_tree.specs.declared.tree.JsStmt.{JsStmt}
use Rattle.js_tree.specs.declared.tree.JsStmt.TheVariants as s
use Rattle.js_tree.specs.declared.tree.JsItem.{JsItem}
use Rattle.js_tree.specs.declared.tree.JsItem.TheVariants as i
use Rattle.js_tree.specs.declared.tree.JsFile.{JsFile}
use Rattle.js_tree.specs.declared.words.JsMember.{JsMember}
use Rattle.js_tree.specs.declared.words.JsOperator.{JsOperator}
use Rattle.js_tree.specs.Tokens.{Bytes, Tokens, TokensOf}
use Rattle.js_tree.specs.Grammar.{Names, is_name, is_among, greatest, declared, AreItems}

-- the bytes are a spelling of this tree, in which each place is that of its first token
pub record IsSpelled (bytes : Bytes) (file : JsFile) : Type 0 where
  pub tokens : Tokens
  pub scanned : TokensOf bytes tokens
  pub derived : AreItems [] tokens file.items

-- ---- which trees have a spelling

-- names, none of which stands twice
abbrev pub are_names : Names → Names → Bool
are_names before [] = true
are_names before (x ∷ xs) = is_name x && (not (is_among before x) && are_names (x ∷ before) xs)

abbrev pub are_units : List ℕ → Bool
are_units us = list_all (λ u. nat_lt u 65536) us

-- arguments stand next
abbrev pub calls : List JsSelector → Bool
calls (l.Call' shape row ∷ xs) = true
calls _ = false

mutual
  pub data HasExpr : JsExpr → Type 0 where
    primary : {a : JsPrimary} → HasPrimary a → HasExpr (e.Primary a)
    binary : {o : JsOperator} {a b : JsPrimary} → HasPrimary a → HasPrimary b → HasExpr (e.Binary o a b)
    type_of : {a : JsPrimary} → HasPrimary a → HasExpr (e.TypeOf a)
    function : {f : JsFunction} → HasFunction f → HasExpr (e.Function f)
    new_map : HasExpr e.NewMap
    array : {xs : List JsExpr} → HaveExprs xs → HasExpr (e.Array xs)
    object : {xs : List JsEntry} → HaveEntries xs → HasExpr (e.Object xs)

  pub data HaveExprs : List JsExpr → Type 0 where
    no_exprs : HaveExprs []
    exprs : {a : JsExpr} {xs : List JsExpr} → HasExpr a → HaveExprs xs → HaveExprs (a ∷ xs)

  pub data HaveEntries : List JsEntry → Type 0 where
    no_entries : HaveEntries []
    entries : {us : List ℕ} {a : JsExpr} {xs : List JsEntry} → are_units us ≡ true → HasExpr a → HaveEntries xs → HaveEntries (record { key = us; value = a } ∷ xs)

  pub data HasPrimary : JsPrimary → Type 0 where
    primary_of : {a : JsHead} {xs : List JsSelector} → HasHead a → HaveSelectors xs → HasPrimary (record { head = a; selectors = xs })

  pub data HasHead : JsHead → Type 0 where
    name : {x : Bytes} → is_name x ≡ true → HasHead (h.Name x)
    digits : {n : ℕ} → n ≤ greatest → HasHead (h.Digits n)
    negative : {n : ℕ} → n ≤ greatest → HasHead (h.Negative n)
    string : {us : List ℕ} → are_units us ≡ true → HasHead (h.Str us)
    null : HasHead h.Null
    undefined : HasHead h.Undefined
    true' : HasHead h.True
    false' : HasHead h.False
    string_of : {args : List JsExpr} → HaveExprs args → HasHead (h.StringOf args)
    is_array : {args : List JsExpr} → HaveExprs args → HasHead (h.IsArray args)
    array_from : {args : List JsExpr} → HaveExprs args → HasHead (h.ArrayFrom args)

  -- a word that arguments follow has them
  pub data HaveSelectors : List JsSelector → Type 0 where
    no_selectors : HaveSelectors []
    index : {a : JsExpr} {xs : List JsSelector} → HasExpr a → HaveSelectors xs → HaveSelectors (l.Index a ∷ xs)
    call : {args : List JsExpr} {xs : List JsSelector} → HaveExprs args → HaveSelectors xs → HaveSelectors (l.Call args ∷ xs)
    member : {m : JsMember} {xs : List JsSelector} → calls xs ≡ false → HaveSelectors xs → HaveSelectors (l.Member m ∷ xs)
    method : {m : JsMember} {args : List JsExpr} {xs : List JsSelector} → HaveExprs args → HaveSelectors xs → HaveSelectors (l.Method m args ∷ xs)

  pub data HasFunction : JsFunction → Type 0 where
    function_of : {ps : Names} {body : List JsStmt} → are_names [] ps ≡ true → HaveStmts ps body → HasFunction (record { parameters = ps; body = body })

  -- statements of a block, where these names are declared before
  pub data HaveStmts : Names → List JsStmt → Type 0 where
    no_stmts : {names : Names} → HaveStmts names []
    stmts : {names : Names} {a : JsStmt} {more : List JsStmt} → HasStmt names a → HaveStmts (declared a names) more → HaveStmts names (a ∷ more)

  pub data HasStmt : Names → JsStmt → Type 0 where
    let' : {names : Names} {at : ℕ} {x : Bytes} {a : JsExpr} → is_name x ≡ true → is_among names x ≡ false → HasExpr a → HasStmt names (s.Let at x a)
    assign : {names : Names} {at : ℕ} {x : Bytes} {a : JsExpr} → is_name x ≡ true → HasExpr a → HasStmt names (s.Assign at x a)
    store : {names : Names} {at : ℕ} {a : JsPrimary} {b c : JsExpr} → HasPrimary a → HasExpr b → HasExpr c → HasStmt names (s.Store at a b c)
    perform : {names : Names} {at : ℕ} {a : JsPrimary} → HasPrimary a → HasStmt names (s.Perform at a)
    if' : {names : Names} {at : ℕ} {a : JsExpr} {xs : List JsStmt} → HasExpr a → HaveStmts [] xs → HasStmt names (s.If at a xs)
    if_else : {names : Names} {at : ℕ} {a : JsExpr} {xs ys : List JsStmt} → HasExpr a → HaveStmts [] xs → HaveStmts [] ys → HasStmt names (s.IfElse at a xs ys)
    loop : {names : Names} {at : ℕ} {xs : List JsStmt} → HaveStmts [] xs → HasStmt names (s.Loop at xs)
    labelled : {names : Names} {at : ℕ} {x : Bytes} {xs : List JsStmt} → is_name x ≡ true → HaveStmts [] xs → HasStmt names (s.Labelled at x xs)
    break' : {names : Names} {at : ℕ} {x : Bytes} → is_name x ≡ true → HasStmt names (s.Break at x)
    return' : {names : Names} {at : ℕ} {a : JsExpr} → HasExpr a → HasStmt names (s.Return at a)
    throw' : {names : Names} {at : ℕ} {a : JsExpr} → HasExpr a → HasStmt names (s.Throw at a)
    try_catch : {names : Names} {at : ℕ} {x : Bytes} {xs ys : List JsStmt} → HaveStmts [] xs → is_name x ≡ true → HaveStmts (x ∷ []) ys → HasStmt names (s.TryCatch at xs x ys)
    try_finally : {names : Names} {at : ℕ} {xs ys : List JsStmt} → HaveStmts [] xs → HaveStmts [] ys → HasStmt names (s.TryFinally at xs ys)

-- items of a file, where these names are declared before
pub data HaveItems : Names → List JsItem → Type 0 where
  no_items : {names : Names} → HaveItems names []
  function_item : {names : Names} {x : Bytes} {f : JsFunction} {more : List JsItem} → is_name x ≡ true → is_among names x ≡ false → HasFunction f → HaveItems (x ∷ names) more
      → HaveItems names (i.Declared x f ∷ more)
  var : {names : Names} {at : ℕ} {x : Bytes} {a : JsExpr} {more : List JsItem} → is_name x ≡ true → is_among names x ≡ false → HasExpr a → HaveItems (x ∷ names) more
      → HaveItems names (i.Var at x a ∷ more)
  statement : {names : Names} {a : JsStmt} {more : List JsItem} → HasStmt names a → HaveItems (declared a names) more → HaveItems names (i.Statement a ∷ more)

abbrev pub HasSpelling : JsFile → Type 0
HasSpelling file = HaveItems [] file.items
