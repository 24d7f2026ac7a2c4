-- A derivation takes tokens, and what it begins with.
use Rattle.std.proofs.Common.{◌≡◌, ℕ, ◌<◌, ◌≤◌, Bool, true, false, List, [], ◌∷◌, length, refl, sym, ap, ◌∙◌, subst, arith}
use Rattle.std.specs.Prelude.{◌||◌, codes}
use Rattle.std.specs.Str.{bytes_eq}
use Rattle.std.specs.Fmt.{decimal}
use Rattle.std.specs.Str.Parse.{AllDigits}
use Rattle.std.proofs.lemmas.Bool.{le-leb, and_from}
use Rattle.std.proofs.lemmas.Str.Parse.{digit_from_value}
use Rattle.std.proofs.lemmas.Fmt.{decimal_is_IsNumeral}
use Rattle.js_tree.specs.declared.tree.JsExpr.{JsExpr}
use Rattle.js_tree.specs.declared.tree.JsHead.{JsHead}
use Rattle.js_tree.specs.declared.tree.JsSelector.{JsSelector}
use Rattle.js_tree.specs.declared.tree.JsPrimary.{JsPrimary}
use Rattle.js_tree.specs.declared.tree.JsFunction.{JsFunction}
use Rattle.js_tree.specs.declared.tree.JsEntry.{JsEntry}
use Rattle.js_tree.specs.declared.tree.JsStmt.{JsStmt}
use Rattle.js_tree.specs.declared.tree.JsItem.{JsItem}
use Rattle.js_tree.specs.Tokens.{Bytes, is_digit, Tokens}
use Rattle.js_tree.specs.Grammar as g
use Rattle.js_tree.specs.Grammar.{Names, is_name, greatest, AreNames, AreParameters, IsExpr, AreEntries, AreExprs, AreListed, AreArguments, IsPrimary, IsHead, AreSelectors, IsFunction, IsBlock, AreStmts, IsStmt, AreItems}
use Rattle.js_reader.specs.Taking.{sign_is, word_is}
use Rattle.js_reader.proofs.Fronts.{clash}
use Rattle.js_reader.proofs.Digits.{bytes_same, greatest_small}

-- ---- tokens are taken

pub names_shrink : {before xs : Names} {ts rest : Tokens} → AreNames before ts xs rest → length rest < length ts
names_shrink (g.last_name n f) = omega arith
names_shrink (g.more_names n f d) = omega (arith, names_shrink d)

pub parameters_shrink : {xs : Names} {ts rest : Tokens} → AreParameters ts xs rest → length rest < length ts
parameters_shrink g.no_parameters = omega arith
parameters_shrink (g.parameters d) = omega (arith, names_shrink d)

mutual
  pub expr_shrinks : {a : JsExpr} {ts rest : Tokens} → IsExpr ts a rest → length rest < length ts
  expr_shrinks (g.primary d) = primary_shrinks d
  expr_shrinks (g.binary c d) = omega (arith, primary_shrinks c, primary_shrinks d)
  expr_shrinks (g.type_of d) = omega (arith, primary_shrinks d)
  expr_shrinks (g.function d) = omega (arith, function_shrinks d)
  expr_shrinks g.new_map = omega arith
  expr_shrinks (g.array d) = omega (arith, listed_shrinks d)
  expr_shrinks g.no_entries = omega arith
  expr_shrinks (g.object d) = omega (arith, entries_shrink d)

  pub entries_shrink : {xs : List JsEntry} {ts rest : Tokens} → AreEntries ts xs rest → length rest < length ts
  entries_shrink (g.last_entry d) = omega (arith, expr_shrinks d)
  entries_shrink (g.more_entries c d) = omega (arith, expr_shrinks c, entries_shrink d)

  pub exprs_shrink : {xs : List JsExpr} {ts rest : Tokens} → AreExprs ts xs rest → length rest < length ts
  exprs_shrink (g.last_expr d) = expr_shrinks d
  exprs_shrink (g.more_exprs c d) = omega (arith, expr_shrinks c, exprs_shrink d)

  pub listed_shrinks : {close : Bytes} {xs : List JsExpr} {ts rest : Tokens} → AreListed close ts xs rest → length rest < length ts
  listed_shrinks g.no_items = omega arith
  listed_shrinks (g.items d) = omega (arith, exprs_shrink d)

  pub arguments_shrink : {xs : List JsExpr} {ts rest : Tokens} → AreArguments ts xs rest → length rest < length ts
  arguments_shrink (g.arguments d) = omega (arith, listed_shrinks d)

  pub primary_shrinks : {a : JsPrimary} {ts rest : Tokens} → IsPrimary ts a rest → length rest < length ts
  primary_shrinks (g.primary_of c d) = omega (arith, head_shrinks c, selectors_shrink d)

  pub head_shrinks : {a : JsHead} {ts rest : Tokens} → IsHead ts a rest → length rest < length ts
  head_shrinks (g.name n) = omega arith
  head_shrinks (g.digits l) = omega arith
  head_shrinks (g.negative l) = omega arith
  head_shrinks g.string = omega arith
  head_shrinks g.null = omega arith
  head_shrinks g.undefined = omega arith
  head_shrinks g.true' = omega arith
  head_shrinks g.false' = omega arith
  head_shrinks (g.string_of d) = omega (arith, arguments_shrink d)
  head_shrinks (g.is_array d) = omega (arith, arguments_shrink d)
  head_shrinks (g.array_from d) = omega (arith, arguments_shrink d)

  pub selectors_shrink : {xs : List JsSelector} {ts rest : Tokens} → AreSelectors ts xs rest → length rest ≤ length ts
  selectors_shrink g.no_selectors = omega arith
  selectors_shrink (g.index c d) = omega (arith, expr_shrinks c, selectors_shrink d)
  selectors_shrink (g.call c d) = omega (arith, arguments_shrink c, selectors_shrink d)
  selectors_shrink (g.member n d) = omega (arith, selectors_shrink d)
  selectors_shrink (g.method c d) = omega (arith, arguments_shrink c, selectors_shrink d)

  pub function_shrinks : {f : JsFunction} {ts rest : Tokens} → IsFunction ts f rest → length rest < length ts
  function_shrinks (g.function_of c d) = omega (arith, parameters_shrink c, block_shrinks d)

  pub block_shrinks : {names : Names} {xs : List JsStmt} {ts rest : Tokens} → IsBlock names ts xs rest → length rest < length ts
  block_shrinks (g.block d) = omega (arith, stmts_shrink d)

  pub stmts_shrink : {names : Names} {xs : List JsStmt} {ts rest : Tokens} → AreStmts names ts xs rest → length rest ≤ length ts
  stmts_shrink g.no_stmts = omega arith
  stmts_shrink (g.stmts c d) = omega (arith, stmt_shrinks c, stmts_shrink d)

  pub stmt_shrinks : {names : Names} {a : JsStmt} {ts rest : Tokens} → IsStmt names ts a rest → length rest < length ts
  stmt_shrinks (g.let' n f d) = omega (arith, expr_shrinks d)
  stmt_shrinks (g.assign n d) = omega (arith, expr_shrinks d)
  stmt_shrinks (g.store c d x y) = omega (arith, head_shrinks c, selectors_shrink d, expr_shrinks x, expr_shrinks y)
  stmt_shrinks (g.perform d) = omega (arith, primary_shrinks d)
  stmt_shrinks (g.if' c d) = omega (arith, expr_shrinks c, block_shrinks d)
  stmt_shrinks (g.if_else c d x) = omega (arith, expr_shrinks c, block_shrinks d, block_shrinks x)
  stmt_shrinks (g.loop d) = omega (arith, block_shrinks d)
  stmt_shrinks (g.labelled n d) = omega (arith, block_shrinks d)
  stmt_shrinks (g.break' n l) = omega arith
  stmt_shrinks (g.return' l d) = omega (arith, expr_shrinks d)
  stmt_shrinks (g.throw' l d) = omega (arith, expr_shrinks d)
  stmt_shrinks (g.try_catch n c d) = omega (arith, block_shrinks c, block_shrinks d)
  stmt_shrinks (g.try_finally c d) = omega (arith, block_shrinks c, block_shrinks d)

-- ---- what a head begins with

-- a word with which a head may begin
abbrev pub begins_head : Bytes → Bool
begins_head [] = false
begins_head (b ∷ bs) =
    is_digit b || (is_name (b ∷ bs) || (bytes_eq (b ∷ bs) (codes "null") || (bytes_eq (b ∷ bs) (codes "undefined") || (bytes_eq (b ∷ bs) (codes "true") || (bytes_eq (b ∷ bs) (codes "false")
    || (bytes_eq (b ∷ bs) (codes "String") || bytes_eq (b ∷ bs) (codes "Array")))))))

or_left : (x y : Bool) → x ≡ true → (x || y) ≡ true
or_left true y e = refl
or_left false y e = absurd cc

or_right : (x y : Bool) → y ≡ true → (x || y) ≡ true
or_right true y e = refl
or_right false y e = e

pub name_begins : (x : Bytes) → is_name x ≡ true → begins_head x ≡ true
name_begins [] h = absurd cc
name_begins (b ∷ bs) h = or_right (is_digit b) _ (or_left (is_name (b ∷ bs)) _ h)

-- digits begin with a digit
pub digit_first : (n : ℕ) → n ≤ greatest → (b : ℕ) × (bs : Bytes) × (decimal n ≡ b ∷ bs) × (is_digit b ≡ true)
digit_first n l = by (decimal n) (decimal_is_IsNumeral n (greatest_small n l)).0.0 (decimal_is_IsNumeral n (greatest_small n l)).0.1 where
  by : (x : Bytes) → 0 < length x → AllDigits 10 x → (b : ℕ) × (bs : Bytes) × (x ≡ b ∷ bs) × (is_digit b ≡ true)
  by [] some all = absurd (omega arith)
  by (b ∷ bs) some all = let r = digit_from_value b all.0 in (b, bs, refl, and_from _ _ (le-leb 48 b r.0) (le-leb b 57 r.1))

pub digits_begin : (n : ℕ) → n ≤ greatest → begins_head (decimal n) ≡ true
digits_begin n l = let d = digit_first n l in subst (λ (x : Bytes). begins_head x ≡ true) (sym d.2) (or_left (is_digit d.0) _ d.3)

pub word_not : (x w : Bytes) → begins_head x ≡ true → begins_head w ≡ false → bytes_eq x w ≡ false
word_not x w h k = by (bytes_eq x w) refl where
  by : (t : Bool) → bytes_eq x w ≡ t → t ≡ false
  by false e = refl
  by true e = absurd (clash h (ap begins_head (bytes_same x w e) ∙ k))

-- no head begins with such a word
pub head_word : {a : JsHead} {ts rest : Tokens} → IsHead ts a rest → (c : ℕ) (more : Bytes) → begins_head (c ∷ more) ≡ false → word_is (c ∷ more) ts ≡ false
head_word (g.name {x = x} n) c more k = word_not x (c ∷ more) (name_begins x n) k
head_word (g.digits {n = n} l) c more k = word_not (decimal n) (c ∷ more) (digits_begin n l) k
head_word (g.negative l) c more k = refl
head_word g.string c more k = refl
head_word g.null c more k = word_not (codes "null") (c ∷ more) refl k
head_word g.undefined c more k = word_not (codes "undefined") (c ∷ more) refl k
head_word g.true' c more k = word_not (codes "true") (c ∷ more) refl k
head_word g.false' c more k = word_not (codes "false") (c ∷ more) refl k
head_word (g.string_of d) c more k = word_not (codes "String") (c ∷ more) refl k
head_word (g.is_array d) c more k = word_not (codes "Array") (c ∷ more) refl k
head_word (g.array_from d) c more k = word_not (codes "Array") (c ∷ more) refl k

-- the one sign is -
pub head_sign : {a : JsHead} {ts rest : Tokens} → IsHead ts a rest → (c : ℕ) (more : Bytes) → bytes_eq (codes "-") (c ∷ more) ≡ false → sign_is (c ∷ more) ts ≡ false
head_sign (g.name n) c more k = refl
head_sign (g.digits l) c more k = refl
head_sign (g.negative l) c more k = k
head_sign g.string c more k = refl
head_sign g.null c more k = refl
head_sign g.undefined c more k = refl
head_sign g.true' c more k = refl
head_sign g.false' c more k = refl
head_sign (g.string_of d) c more k = refl
head_sign (g.is_array d) c more k = refl
head_sign (g.array_from d) c more k = refl

pub primary_word : {a : JsPrimary} {ts rest : Tokens} → IsPrimary ts a rest → (c : ℕ) (more : Bytes) → begins_head (c ∷ more) ≡ false → word_is (c ∷ more) ts ≡ false
primary_word (g.primary_of c d) = head_word c

pub primary_sign : {a : JsPrimary} {ts rest : Tokens} → IsPrimary ts a rest → (c : ℕ) (more : Bytes) → bytes_eq (codes "-") (c ∷ more) ≡ false → sign_is (c ∷ more) ts ≡ false
primary_sign (g.primary_of c d) = head_sign c

-- no expression begins with such a sign
abbrev pub begins_expr : Bytes → Bool
begins_expr x = bytes_eq (codes "-") x || (bytes_eq (codes "[") x || bytes_eq (codes "{") x)

first_of : (x y z : Bool) → (x || (y || z)) ≡ false → x ≡ false
first_of true y z h = absurd cc
first_of false y z h = refl

second_of : (x y z : Bool) → (x || (y || z)) ≡ false → y ≡ false
second_of true y z h = absurd cc
second_of false true z h = absurd cc
second_of false false z h = refl

third_of : (x y z : Bool) → (x || (y || z)) ≡ false → z ≡ false
third_of true y z h = absurd cc
third_of false true z h = absurd cc
third_of false false z h = h

pub expr_sign : {a : JsExpr} {ts rest : Tokens} → IsExpr ts a rest → (c : ℕ) (more : Bytes) → begins_expr (c ∷ more) ≡ false → sign_is (c ∷ more) ts ≡ false
expr_sign (g.primary d) c more k = primary_sign d c more (first_of (bytes_eq (codes "-") (c ∷ more)) (bytes_eq (codes "[") (c ∷ more)) (bytes_eq (codes "{") (c ∷ more)) k)
expr_sign (g.binary d x) c more k = primary_sign d c more (first_of (bytes_eq (codes "-") (c ∷ more)) (bytes_eq (codes "[") (c ∷ more)) (bytes_eq (codes "{") (c ∷ more)) k)
expr_sign (g.type_of d) c more k = refl
expr_sign (g.function d) c more k = refl
expr_sign g.new_map c more k = refl
expr_sign (g.array d) c more k = second_of (bytes_eq (codes "-") (c ∷ more)) (bytes_eq (codes "[") (c ∷ more)) (bytes_eq (codes "{") (c ∷ more)) k
expr_sign g.no_entries c more k = third_of (bytes_eq (codes "-") (c ∷ more)) (bytes_eq (codes "[") (c ∷ more)) (bytes_eq (codes "{") (c ∷ more)) k
expr_sign (g.object d) c more k = third_of (bytes_eq (codes "-") (c ∷ more)) (bytes_eq (codes "[") (c ∷ more)) (bytes_eq (codes "{") (c ∷ more)) k

pub exprs_sign : {xs : List JsExpr} {ts rest : Tokens} → AreExprs ts xs rest → (c : ℕ) (more : Bytes) → begins_expr (c ∷ more) ≡ false → sign_is (c ∷ more) ts ≡ false
exprs_sign (g.last_expr d) = expr_sign d
exprs_sign (g.more_exprs c d) = expr_sign c

-- ---- what a statement begins with

pub stmt_sign : {names : Names} {a : JsStmt} {ts rest : Tokens} → IsStmt names ts a rest → sign_is (codes "}") ts ≡ false
stmt_sign (g.let' n f d) = refl
stmt_sign (g.assign n d) = refl
stmt_sign (g.store c d x y) = head_sign c 125 [] refl
stmt_sign (g.perform d) = primary_sign d 125 [] refl
stmt_sign (g.if' c d) = refl
stmt_sign (g.if_else c d x) = refl
stmt_sign (g.loop d) = refl
stmt_sign (g.labelled n d) = refl
stmt_sign (g.break' n l) = refl
stmt_sign (g.return' l d) = refl
stmt_sign (g.throw' l d) = refl
stmt_sign (g.try_catch n c d) = refl
stmt_sign (g.try_finally c d) = refl

pub stmt_no_else : {names : Names} {a : JsStmt} {ts rest : Tokens} → IsStmt names ts a rest → word_is (codes "else") ts ≡ false
stmt_no_else (g.let' n f d) = refl
stmt_no_else (g.assign {x = x} n d) = word_not x (codes "else") (name_begins x n) refl
stmt_no_else (g.store c d x y) = head_word c 101 (codes "lse") refl
stmt_no_else (g.perform d) = primary_word d 101 (codes "lse") refl
stmt_no_else (g.if' c d) = refl
stmt_no_else (g.if_else c d x) = refl
stmt_no_else (g.loop d) = refl
stmt_no_else (g.labelled {x = x} n d) = word_not x (codes "else") (name_begins x n) refl
stmt_no_else (g.break' n l) = refl
stmt_no_else (g.return' l d) = refl
stmt_no_else (g.throw' l d) = refl
stmt_no_else (g.try_catch n c d) = refl
stmt_no_else (g.try_finally c d) = refl

pub stmt_no_function : {names : Names} {a : JsStmt} {ts rest : Tokens} → IsStmt names ts a rest → word_is (codes "function") ts ≡ false
stmt_no_function (g.let' n f d) = refl
stmt_no_function (g.assign {x = x} n d) = word_not x (codes "function") (name_begins x n) refl
stmt_no_function (g.store c d x y) = head_word c 102 (codes "unction") refl
stmt_no_function (g.perform d) = primary_word d 102 (codes "unction") refl
stmt_no_function (g.if' c d) = refl
stmt_no_function (g.if_else c d x) = refl
stmt_no_function (g.loop d) = refl
stmt_no_function (g.labelled {x = x} n d) = word_not x (codes "function") (name_begins x n) refl
stmt_no_function (g.break' n l) = refl
stmt_no_function (g.return' l d) = refl
stmt_no_function (g.throw' l d) = refl
stmt_no_function (g.try_catch n c d) = refl
stmt_no_function (g.try_finally c d) = refl

pub stmt_no_var : {names : Names} {a : JsStmt} {ts rest : Tokens} → IsStmt names ts a rest → word_is (codes "var") ts ≡ false
stmt_no_var (g.let' n f d) = refl
stmt_no_var (g.assign {x = x} n d) = word_not x (codes "var") (name_begins x n) refl
stmt_no_var (g.store c d x y) = head_word c 118 (codes "ar") refl
stmt_no_var (g.perform d) = primary_word d 118 (codes "ar") refl
stmt_no_var (g.if' c d) = refl
stmt_no_var (g.if_else c d x) = refl
stmt_no_var (g.loop d) = refl
stmt_no_var (g.labelled {x = x} n d) = word_not x (codes "var") (name_begins x n) refl
stmt_no_var (g.break' n l) = refl
stmt_no_var (g.return' l d) = refl
stmt_no_var (g.throw' l d) = refl
stmt_no_var (g.try_catch n c d) = refl
stmt_no_var (g.try_finally c d) = refl

pub stmts_no_else : {names : Names} {xs : List JsStmt} {ts rest : Tokens} → AreStmts names ts xs rest → word_is (codes "else") rest ≡ false → word_is (codes "else") ts ≡ false
stmts_no_else g.no_stmts h = h
stmts_no_else (g.stmts c d) h = stmt_no_else c

pub items_no_else : {names : Names} {xs : List JsItem} {ts : Tokens} → AreItems names ts xs → word_is (codes "else") ts ≡ false
items_no_else g.no_items = refl
items_no_else (g.function_item n f d x) = refl
items_no_else (g.var n f d x) = refl
items_no_else (g.statement c d) = stmt_no_else c
