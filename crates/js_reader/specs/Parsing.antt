-- Parsing from a place of a file of this size, with one token in view. The number that bounds turns and depth is greater
-- than the number of tokens that are left, so that it never runs out.
use Rattle.std.specs.Prelude.{ℕ, zero, suc, Bool, true, false, ◌||◌, if◌then◌else◌, List, [], ◌∷◌, ◌++◌, Option, Some, None, unwrap_or, option_map, Result, Ok, Err, codes}
use Rattle.std.specs.Str.{bytes_eq}
use Rattle.js_tree.specs.declared.tree.JsExpr.{JsExpr}
use Rattle.js_tree.specs.declared.tree.JsExpr.TheVariants as e
use Rattle.js_tree.specs.declared.tree.JsHead.{JsHead}
use Rattle.js_tree.specs.declared.tree.JsHead.TheVariants as h
use Rattle.js_tree.specs.declared.tree.JsExpr.TheOpen.{JsSelector-F}
use Rattle.js_tree.specs.declared.tree.JsSelector.{JsSelector, out-JsSelector}
use Rattle.js_tree.specs.declared.tree.JsSelector.TheVariants as l
use Rattle.js_tree.specs.declared.tree.JsPrimary.{JsPrimary}
use Rattle.js_tree.specs.declared.tree.JsFunction.{JsFunction}
use Rattle.js_tree.specs.declared.tree.JsEntry.{JsEntry}
use Rattle.js_tree.specs.declared.tree.JsStmt.{JsStmt}
use Rattle.js_tree.specs.declared.tree.JsStmt.TheVariants as s
use Rattle.js_tree.specs.declared.tree.JsItem.{JsItem}
use Rattle.js_tree.specs.declared.tree.JsItem.TheVariants as i
use Rattle.js_tree.specs.declared.words.JsOperator.{JsOperator}
use Rattle.js_tree.specs.Tokens.{Bytes, Tokens}
use Rattle.js_tree.specs.Grammar.{Names, is_name}
use Rattle.js_reader.specs.declared.targets.Target.{Target}
use Rattle.js_reader.specs.declared.targets.Target.TheVariants as t
use Rattle.js_reader.specs.Taking.{Parser, ◌>>=◌, place, is_end, sign_of, word_of, after_sign, after_word, sign_is, word_is, operator_of, expect, expect_word, on_line, name_at, fresh_name, number_at, member_at, string_at}

-- ---- parameters, and the names that they declare

unfoldable pub names_from : ℕ → ℕ → Names → List Bytes → Parser (List Bytes × Names)
names_from size zero names found ts = Err (place size ts)
names_from size (suc n) names found ts = do
  x ← fresh_name size names ts
  if sign_is (codes ",") x.1 then names_from size n (x.0 ∷ names) (found ++ x.0 ∷ []) (after_sign x.1) else Ok ((found ++ x.0 ∷ [], x.0 ∷ names), x.1)

unfoldable pub parameters : ℕ → ℕ → Parser (List Bytes × Names)
parameters size turns ts = do
  o ← expect size (codes "(") ts
  if sign_is (codes ")") o then Ok (([], []), after_sign o) else (do xs ← names_from size turns [] [] o; c ← expect size (codes ")") xs.1; Ok (xs.0, c))

-- ---- expressions, where these numbers bound turns, and this parses what stands in brackets

-- the head that is this word alone
abbrev pub literal_of : Bytes → Option JsHead
literal_of x =
    if bytes_eq x (codes "null") then Some h.Null
    else (if bytes_eq x (codes "undefined") then Some h.Undefined
    else (if bytes_eq x (codes "true") then Some h.True
    else (if bytes_eq x (codes "false") then Some h.False
    else None)))

abbrev pub selects : Bytes → Bool
selects x = bytes_eq x (codes "[") || (bytes_eq x (codes "(") || bytes_eq x (codes "."))

-- ---- what a primary expression is as the target of an assignment

abbrev pub bare : JsHead → Target
bare (h.Name x) = t.Name x
bare _ = t.Other

abbrev pub slot_by : JsHead → List JsSelector → JsSelector-F JsExpr JsHead JsSelector JsStmt JsEntry JsFunction JsPrimary → Target
slot_by a xs (JsSelector-F.Index b) = t.Slot (record { head = a; selectors = xs }) b
slot_by a xs _ = t.Other

abbrev pub slot : JsHead → List JsSelector → JsSelector → Target
slot a xs last = slot_by a xs (out-JsSelector last)

abbrev pub split_last : {X : Type 0} → List X → Option (List X × X)
split_last [] = None
split_last (x ∷ xs) = Some (unwrap_or (option_map (λ y. (x ∷ y.0, y.1)) (split_last xs)) ([], x))

abbrev pub target_by : JsHead → Option (List JsSelector × JsSelector) → Target
target_by a None = bare a
target_by a (Some y) = slot a y.0 y.1

unfoldable pub target_of : JsPrimary → Target
target_of a = target_by a.head (split_last a.selectors)

module _ (size turns : ℕ) (expr : Parser JsExpr) (stmt : Parser JsStmt) where
  unfoldable pub exprs_from : ℕ → List JsExpr → Parser (List JsExpr)
  exprs_from zero found ts = Err (place size ts)
  exprs_from (suc n) found ts = do
    x ← expr ts
    if sign_is (codes ",") x.1 then exprs_from n (found ++ x.0 ∷ []) (after_sign x.1) else Ok (found ++ x.0 ∷ [], x.1)

  -- expressions and the sign that closes them
  unfoldable pub listed : Bytes → Parser (List JsExpr)
  listed close ts =
      if sign_is close ts then Ok ([], after_sign ts)
      else (do xs ← exprs_from turns [] ts; c ← expect size close xs.1; Ok (xs.0, c))

  unfoldable pub arguments : Parser (List JsExpr)
  arguments ts = do
    o ← expect size (codes "(") ts
    listed (codes ")") o

  unfoldable pub negative : Parser JsHead
  negative ts = do
    n ← number_at size (after_sign ts)
    Ok (h.Negative n.0, n.1)

  unfoldable pub digits : Parser JsHead
  digits ts = do
    n ← number_at size ts
    Ok (h.Digits n.0, n.1)

  unfoldable pub string : Parser JsHead
  string ts = do
    us ← string_at size ts
    Ok (h.Str us.0, us.1)

  unfoldable pub named : Parser JsHead
  named ts = do
    x ← name_at size ts
    Ok (h.Name x.0, x.1)

  unfoldable pub string_of : Parser JsHead
  string_of ts = do
    xs ← arguments (after_word ts)
    Ok (h.StringOf xs.0, xs.1)

  unfoldable pub of_array : Parser JsHead
  of_array ts = do
    d ← expect size (codes ".") (after_word ts)
    if word_is (codes "isArray") d then (do xs ← arguments (after_word d); Ok (h.IsArray xs.0, xs.1))
        else (do f ← expect_word size (codes "from") d; xs ← arguments f; Ok (h.ArrayFrom xs.0, xs.1))

  -- what begins with a word
  abbrev pub worded : Option JsHead → Bytes → Parser JsHead
  worded (Some a) x ts = Ok (a, after_word ts)
  worded None x ts =
      if bytes_eq x (codes "String") then string_of ts
      else (if bytes_eq x (codes "Array") then of_array ts
      else (if is_name x then named ts
      else digits ts))

  unfoldable pub head : Parser JsHead
  head ts =
      if sign_is (codes "-") ts then negative ts
      else (if word_is [] ts then string ts else worded (literal_of (word_of ts)) (word_of ts) ts)

  unfoldable pub index : Parser JsSelector
  index ts = do
    a ← expr (after_sign ts)
    c ← expect size (codes "]") a.1
    Ok (l.Index a.0, c)

  unfoldable pub call : Parser JsSelector
  call ts = do
    xs ← arguments ts
    Ok (l.Call xs.0, xs.1)

  unfoldable pub member : Parser JsSelector
  member ts = do
    m ← member_at size (after_sign ts)
    if sign_is (codes "(") m.1 then (do xs ← arguments m.1; Ok (l.Method m.0 xs.0, xs.1)) else Ok (l.Member m.0, m.1)

  unfoldable pub selector : Parser JsSelector
  selector ts = if sign_is (codes "[") ts then index ts else (if sign_is (codes "(") ts then call ts else member ts)

  unfoldable pub selectors_from : ℕ → List JsSelector → Parser (List JsSelector)
  selectors_from zero found ts = Err (place size ts)
  selectors_from (suc n) found ts =
      if selects (sign_of ts) then (do x ← selector ts; selectors_from n (found ++ x.0 ∷ []) x.1) else Ok (found, ts)

  unfoldable pub primary : Parser JsPrimary
  primary ts = do
    a ← head ts
    xs ← selectors_from turns [] a.1
    Ok (record { head = a.0; selectors = xs.0 }, xs.1)

  abbrev pub operated : Option JsOperator → JsPrimary → Parser JsExpr
  operated None a ts = Ok (e.Primary a, ts)
  operated (Some o) a ts = do
    b ← primary (after_sign ts)
    Ok (e.Binary o a b.0, b.1)

  unfoldable pub plain : Parser JsExpr
  plain ts = do
    a ← primary ts
    operated (operator_of (sign_of a.1)) a.0 a.1

  unfoldable pub type_of : Parser JsExpr
  type_of ts = do
    a ← primary (after_word ts)
    Ok (e.TypeOf a.0, a.1)

  unfoldable pub new_map : Parser JsExpr
  new_map ts = do
    w ← expect_word size (codes "Map") (after_word ts)
    o ← expect size (codes "(") w
    c ← expect size (codes ")") o
    Ok (e.NewMap, c)

  unfoldable pub array : Parser JsExpr
  array ts = do
    xs ← listed (codes "]") (after_sign ts)
    Ok (e.Array xs.0, xs.1)

  unfoldable pub entry : Parser JsEntry
  entry ts = do
    us ← string_at size ts
    c ← expect size (codes ":") us.1
    a ← expr c
    Ok (record { key = us.0; value = a.0 }, a.1)

  unfoldable pub entries_from : ℕ → List JsEntry → Parser (List JsEntry)
  entries_from zero found ts = Err (place size ts)
  entries_from (suc n) found ts = do
    x ← entry ts
    if sign_is (codes ",") x.1 then entries_from n (found ++ x.0 ∷ []) (after_sign x.1) else Ok (found ++ x.0 ∷ [], x.1)

  abbrev pub object_from : Bool → Parser JsExpr
  object_from true ts = Ok (e.Object [], after_sign ts)
  object_from false ts = do
    xs ← entries_from turns [] ts
    c ← expect size (codes "}") xs.1
    Ok (e.Object xs.0, c)

  unfoldable pub object : Parser JsExpr
  object ts = object_from (sign_is (codes "}") (after_sign ts)) (after_sign ts)

  -- ---- blocks

  -- a statement, and the names that are declared behind it
  unfoldable pub named_stmt : Names → Parser (JsStmt × Names)
  named_stmt names ts =
      if word_is (codes "let") ts then (do
        x ← fresh_name size names (after_word ts)
        q ← expect size (codes "=") x.1
        a ← expr q
        c ← expect size (codes ";") a.1
        Ok ((s.Let (place size ts) x.0 a.0, x.0 ∷ names), c))
      else (do a ← stmt ts; Ok ((a.0, names), a.1))

  unfoldable pub stmts_from : ℕ → Names → List JsStmt → Parser (List JsStmt)
  stmts_from zero names found ts = Err (place size ts)
  stmts_from (suc n) names found ts =
      if sign_is (codes "}") ts then Ok (found, after_sign ts)
      else (do x ← named_stmt names ts; stmts_from n x.0.1 (found ++ x.0.0 ∷ []) x.1)

  unfoldable pub block : Names → Parser (List JsStmt)
  block names ts = do
    o ← expect size (codes "{") ts
    stmts_from turns names [] o

  unfoldable pub function : Parser JsFunction
  function ts = do
    ps ← parameters size turns ts
    xs ← block ps.0.1 ps.1
    Ok (record { parameters = ps.0.0; body = xs.0 }, xs.1)

  unfoldable pub function_value : Parser JsExpr
  function_value ts = do
    f ← function (after_word ts)
    Ok (e.Function f.0, f.1)

  unfoldable pub expression : Parser JsExpr
  expression ts =
      if sign_is (codes "[") ts then array ts
      else (if sign_is (codes "{") ts then object ts
      else (if word_is (codes "typeof") ts then type_of ts
      else (if word_is (codes "function") ts then function_value ts
      else (if word_is (codes "new") ts then new_map ts
      else plain ts))))

  -- ---- statements

  unfoldable pub assigned : ℕ → Target → Parser JsStmt
  assigned at t.Other ts = Err (place size ts)
  assigned at (t.Name x) ts = do
    a ← expr (after_sign ts)
    c ← expect size (codes ";") a.1
    Ok (s.Assign at x a.0, c)
  assigned at (t.Slot p b) ts = do
    a ← expr (after_sign ts)
    c ← expect size (codes ";") a.1
    Ok (s.Store at p b a.0, c)

  unfoldable pub labelled : ℕ → Target → Parser JsStmt
  labelled at t.Other ts = Err (place size ts)
  labelled at (t.Name x) ts = do
    xs ← block [] (after_sign ts)
    Ok (s.Labelled at x xs.0, xs.1)
  labelled at (t.Slot p b) ts = Err (place size ts)

  unfoldable pub performed : ℕ → JsPrimary → Parser JsStmt
  performed at a ts = do
    c ← expect size (codes ";") ts
    Ok (s.Perform at a, c)

  -- a statement that begins with a primary expression
  unfoldable pub simple : Parser JsStmt
  simple ts = do
    a ← primary ts
    if sign_is (codes "=") a.1 then assigned (place size ts) (target_of a.0) a.1
        else (if sign_is (codes ":") a.1 then labelled (place size ts) (target_of a.0) a.1 else performed (place size ts) a.0 a.1)

  unfoldable pub condition : Parser JsExpr
  condition ts = do
    o ← expect size (codes "(") ts
    a ← expr o
    c ← expect size (codes ")") a.1
    Ok (a.0, c)

  unfoldable pub when : Parser JsStmt
  when ts = do
    a ← condition (after_word ts)
    xs ← block [] a.1
    if word_is (codes "else") xs.1 then (do ys ← block [] (after_word xs.1); Ok (s.IfElse (place size ts) a.0 xs.0 ys.0, ys.1))
        else Ok (s.If (place size ts) a.0 xs.0, xs.1)

  unfoldable pub repeat : Parser JsStmt
  repeat ts = do
    o ← expect size (codes "(") (after_word ts)
    w ← expect_word size (codes "true") o
    c ← expect size (codes ")") w
    xs ← block [] c
    Ok (s.Loop (place size ts) xs.0, xs.1)

  unfoldable pub leave : Parser JsStmt
  leave ts = do
    k ← on_line size (after_word ts)
    x ← name_at size k
    c ← expect size (codes ";") x.1
    Ok (s.Break (place size ts) x.0, c)

  unfoldable pub returned : Parser JsStmt
  returned ts = do
    k ← on_line size (after_word ts)
    a ← expr k
    c ← expect size (codes ";") a.1
    Ok (s.Return (place size ts) a.0, c)

  unfoldable pub thrown : Parser JsStmt
  thrown ts = do
    k ← on_line size (after_word ts)
    a ← expr k
    c ← expect size (codes ";") a.1
    Ok (s.Throw (place size ts) a.0, c)

  unfoldable pub caught : ℕ → List JsStmt → Parser JsStmt
  caught at xs ts = do
    o ← expect size (codes "(") (after_word ts)
    x ← fresh_name size [] o
    c ← expect size (codes ")") x.1
    ys ← block (x.0 ∷ []) c
    Ok (s.TryCatch at xs x.0 ys.0, ys.1)

  unfoldable pub finished : ℕ → List JsStmt → Parser JsStmt
  finished at xs ts = do
    w ← expect_word size (codes "finally") ts
    ys ← block [] w
    Ok (s.TryFinally at xs ys.0, ys.1)

  unfoldable pub tried : Parser JsStmt
  tried ts = do
    xs ← block [] (after_word ts)
    if word_is (codes "catch") xs.1 then caught (place size ts) xs.0 xs.1 else finished (place size ts) xs.0 xs.1

  -- a statement that declares nothing
  unfoldable pub statement : Parser JsStmt
  statement ts =
      if word_is (codes "if") ts then when ts
      else (if word_is (codes "return") ts then returned ts
      else (if word_is (codes "while") ts then repeat ts
      else (if word_is (codes "break") ts then leave ts
      else (if word_is (codes "throw") ts then thrown ts
      else (if word_is (codes "try") ts then tried ts
      else simple ts)))))

  -- ---- items

  unfoldable pub declared_function : Names → Parser (JsItem × Names)
  declared_function names ts = do
    x ← fresh_name size names (after_word ts)
    f ← function x.1
    Ok ((i.Declared x.0 f.0, x.0 ∷ names), f.1)

  unfoldable pub variable : Names → Parser (JsItem × Names)
  variable names ts = do
    x ← fresh_name size names (after_word ts)
    q ← expect size (codes "=") x.1
    a ← expr q
    c ← expect size (codes ";") a.1
    Ok ((i.Var (place size ts) x.0 a.0, x.0 ∷ names), c)

  unfoldable pub item_stmt : Names → Parser (JsItem × Names)
  item_stmt names ts = do
    a ← named_stmt names ts
    Ok ((i.Statement a.0.0, a.0.1), a.1)

  unfoldable pub item : Names → Parser (JsItem × Names)
  item names ts =
      if word_is (codes "function") ts then declared_function names ts
      else (if word_is (codes "var") ts then variable names ts else item_stmt names ts)

  unfoldable pub items_from : ℕ → Names → List JsItem → Tokens → Result (List JsItem) ℕ
  items_from zero names found ts = Err (place size ts)
  items_from (suc n) names found ts =
      if is_end ts then Ok found
      else (do x ← item names ts; items_from n x.0.1 (found ++ x.0.0 ∷ []) x.1)

unfoldable mutual
  -- with brackets nested less deep than the number
  pub expr_at : ℕ → ℕ → Parser JsExpr
  expr_at size zero ts = Err (place size ts)
  expr_at size (suc n) ts = expression size (suc n) (expr_at size n) (stmt_at size n) ts

  pub stmt_at : ℕ → ℕ → Parser JsStmt
  stmt_at size zero ts = Err (place size ts)
  stmt_at size (suc n) ts = statement size (suc n) (expr_at size n) (stmt_at size n) ts

unfoldable pub file_at : ℕ → ℕ → Tokens → Result (List JsItem) ℕ
file_at size n ts = items_from size n (expr_at size n) (stmt_at size n) n [] [] ts
