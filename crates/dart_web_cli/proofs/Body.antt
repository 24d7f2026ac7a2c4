-- The bodies of translations, and what holds of them all.
use Rattle.std.proofs.Common.{◌≡◌, ◌≢◌, ℕ, suc, ◌<◌, ◌≤◌, ◌^◌, Bool, true, false, List, [], ◌∷◌, map, Option, Some, None, refl, sym, ap, ◌∙◌, subst, arith}
use Rattle.std.specs.Prelude.{codes, ◌||◌}
use Rattle.std.specs.Map.{lookup}
use Rattle.std.specs.Str.{bytes_eq}
use Rattle.js_tree.specs.declared.tree.JsExpr.{JsExpr}
use Rattle.js_tree.specs.declared.tree.JsExpr.TheVariants as e
use Rattle.js_tree.specs.declared.tree.JsExpr.TheOpen.{JsStmt-F}
use Rattle.js_tree.specs.declared.tree.JsHead.TheVariants as h
use Rattle.js_tree.specs.declared.tree.JsSelector.TheVariants as l
use Rattle.js_tree.specs.declared.tree.JsPrimary.{JsPrimary}
use Rattle.js_tree.specs.declared.tree.JsStmt.{JsStmt, out-JsStmt}
use Rattle.js_tree.specs.declared.tree.JsStmt.TheVariants as s
use Rattle.js_tree.specs.declared.words.JsMember.TheVariants as m
use Rattle.js_tree.specs.declared.words.JsOperator.{JsOperator}
use Rattle.js_tree.specs.Grammar.{Names, is_among, greatest}
use Rattle.js_tree.specs.Places.{expr_without_places, primary_without_places, stmt_without_places}
use Rattle.js_tree.specs.Spelling as has
use Rattle.js_tree.specs.Spelling.{are_units, HasExpr, HasPrimary, HaveStmts}
use Rattle.js_store.specs.Scopes.{Scope, bind}
use Rattle.js_meaning.specs.Statements.{with_let, with_lets}
use Rattle.dart_web_cli.specs.Translation.{operation_name, variable_name, alone, host_print, string_of, operation_let, variable_let, last_statement, printed_of, print_of}
use Rattle.dart_web_cli.proofs.Places as places
use Rattle.dart_web_cli.proofs.Places.{IsPlaceless, let_bare, perform_bare, return_bare, with_let_bare}
use Rattle.dart_web_cli.proofs.Names.{same_as, numbers_differ, letters_differ, letters_differ', no_host, no_host', operation_is_name, variable_is_name, bound_other}

-- what stands for a value
pub data IsValue : JsPrimary → Type 0 where
  digits : (n : ℕ) → n ≤ greatest → IsValue (alone (h.Digits n))
  operation : (k : ℕ) → k < 2 ^ 64 → IsValue (alone (h.Name (operation_name k)))
  variable : (i : ℕ) → i < 2 ^ 64 → IsValue (alone (h.Name (variable_name i)))
  string : (us : List ℕ) → are_units us ≡ true → IsValue (alone (h.Str us))

-- statements of a translation to its end, behind k operators and i names
pub data IsBody : ℕ → ℕ → List JsStmt → Type 0 where
  ends : {k i : ℕ} → IsBody k i (last_statement ∷ [])
  operations : {k i : ℕ} {operator : JsOperator} {left right : JsPrimary} {rest : List JsStmt} → k < 2 ^ 64 → IsValue left → IsValue right → IsBody (suc k) i rest
      → IsBody k i (operation_let k operator left right ∷ rest)
  variables : {k i : ℕ} {value : JsPrimary} {rest : List JsStmt} → i < 2 ^ 64 → IsValue value → IsBody k (suc i) rest → IsBody k i (variable_let i value ∷ rest)
  prints : {k i : ℕ} {value : JsPrimary} {rest : List JsStmt} (is_text : Bool) → IsValue value → IsBody k i rest → IsBody k i (print_of is_text value ∷ rest)

-- ---- a value has no places, and a spelling

pub value_placeless : {p : JsPrimary} → IsValue p → IsPlaceless primary_without_places p
value_placeless (digits n small) = places.by_itself (h.Digits n) (places.digits n)
value_placeless (operation k small) = places.by_itself (h.Name (operation_name k)) (places.name (operation_name k))
value_placeless (variable i small) = places.by_itself (h.Name (variable_name i)) (places.name (variable_name i))
value_placeless (string us small) = places.by_itself (h.Str us) (places.string us)

pub binary_placeless : {p q : JsPrimary} (operator : JsOperator) → IsValue p → IsValue q → IsPlaceless expr_without_places (e.Binary operator p q)
binary_placeless {p} {q} operator a b = places.binary operator p q (value_placeless a) (value_placeless b)

pub primary_placeless : {p : JsPrimary} → IsValue p → IsPlaceless expr_without_places (e.Primary p)
primary_placeless {p} a = places.primary p (value_placeless a)

pub printed_placeless : {p : JsPrimary} (is_text : Bool) → IsValue p → IsPlaceless expr_without_places (printed_of is_text p)
printed_placeless true a = primary_placeless a
printed_placeless {p} false a = places.primary (alone (h.StringOf (e.Primary p ∷ []))) (places.by_itself (h.StringOf (e.Primary p ∷ [])) (places.string_of (e.Primary p ∷ []) (places.one (e.Primary p) (primary_placeless a))))

pub print_placeless : {p : JsPrimary} (is_text : Bool) → IsValue p → IsPlaceless primary_without_places (host_print (printed_of is_text p))
print_placeless {p} is_text a =
    places.selected (h.Name (codes "host$")) (l.Method m.Print (printed_of is_text p ∷ []) ∷ []) (places.name (codes "host$"))
    (places.one (l.Method m.Print (printed_of is_text p ∷ [])) (places.method m.Print (printed_of is_text p ∷ []) (places.one (printed_of is_text p) (printed_placeless is_text a))))

pub last_placeless : IsPlaceless expr_without_places (e.Primary (alone h.Null))
last_placeless = places.primary (alone h.Null) (places.by_itself h.Null places.null)

value_spelled : {p : JsPrimary} → IsValue p → HasPrimary p
value_spelled (digits n small) = has.primary_of (has.digits small) has.no_selectors
value_spelled (operation k small) = has.primary_of (has.name (operation_is_name k small)) has.no_selectors
value_spelled (variable i small) = has.primary_of (has.name (variable_is_name i small)) has.no_selectors
value_spelled (string us small) = has.primary_of (has.string small) has.no_selectors

printed_spelled : {p : JsPrimary} (is_text : Bool) → IsValue p → HasExpr (printed_of is_text p)
printed_spelled true a = has.primary (value_spelled a)
printed_spelled false a = has.primary (has.primary_of (has.string_of (has.exprs (has.primary (value_spelled a)) has.no_exprs)) has.no_selectors)

print_spelled : {p : JsPrimary} (is_text : Bool) → IsValue p → HasPrimary (host_print (printed_of is_text p))
print_spelled is_text a = has.primary_of (has.name refl) (has.method (has.exprs (printed_spelled is_text a) has.no_exprs) has.no_selectors)

-- ---- a body has no places

pub body_bare : {k i : ℕ} {tree : List JsStmt} → IsBody k i tree → map stmt_without_places tree ≡ tree
body_bare ends = ap (λ c. c ∷ []) (return_bare (e.Primary (alone h.Null)) last_placeless)
body_bare (operations {k = k} {operator = operator} {left = left} {right = right} small a b more) =
    (λ j. let_bare (operation_name k) (e.Binary operator left right) (binary_placeless operator a b) j ∷ body_bare more j)
body_bare (variables {i = i} {value = value} small a more) = (λ j. let_bare (variable_name i) (e.Primary value) (primary_placeless a) j ∷ body_bare more j)
body_bare (prints {value = value} is_text a more) = (λ j. perform_bare (host_print (printed_of is_text value)) (print_placeless is_text a) j ∷ body_bare more j)

-- ---- a body has a spelling: no name is declared twice

-- names of further operators, and further names, are not among these
pub record Fresh (k i : ℕ) (names : Names) : Type 0 where
  pub operators : (j : ℕ) → k ≤ j → j < 2 ^ 64 → is_among names (operation_name j) ≡ false
  pub variables : (j : ℕ) → i ≤ j → j < 2 ^ 64 → is_among names (variable_name j) ≡ false

pub all_fresh : Fresh 0 0 []
all_fresh = record { operators = λ j le small. refl; variables = λ j le small. refl }

not_among : (x y : List ℕ) (names : Names) → bytes_eq x y ≡ false → is_among names x ≡ false → is_among (y ∷ names) x ≡ false
not_among x y names apart none = (λ j. apart j || none j)

past_operator : (k i : ℕ) (names : Names) → k < 2 ^ 64 → Fresh k i names → Fresh (suc k) i (operation_name k ∷ names)
past_operator k i names small fresh = record {
  operators = λ j le lt. let other : j ≢ k = λ same. omega (arith, same, le) in let le' : k ≤ j = omega (arith, le) in not_among (operation_name j) (operation_name k) names (numbers_differ 97 j k lt small other) (fresh.operators j le' lt);
  variables = λ j le lt. not_among (variable_name j) (operation_name k) names (letters_differ' j k) (fresh.variables j le lt);
}

past_variable : (k i : ℕ) (names : Names) → i < 2 ^ 64 → Fresh k i names → Fresh k (suc i) (variable_name i ∷ names)
past_variable k i names small fresh = record {
  operators = λ j le lt. not_among (operation_name j) (variable_name i) names (letters_differ j i) (fresh.operators j le lt);
  variables = λ j le lt. let other : j ≢ i = λ same. omega (arith, same, le) in let le' : i ≤ j = omega (arith, le) in not_among (variable_name j) (variable_name i) names (numbers_differ 118 j i lt small other) (fresh.variables j le' lt);
}

pub body_spelled : {k i : ℕ} {tree : List JsStmt} (names : Names) → Fresh k i names → IsBody k i tree → HaveStmts names tree
body_spelled names fresh ends = has.stmts (has.return' (has.primary (has.primary_of has.null has.no_selectors))) has.no_stmts
body_spelled names fresh (operations {k = k} {i = i} small a b more) =
    has.stmts (has.let' (operation_is_name k small) (fresh.operators k (omega arith) small) (has.binary (value_spelled a) (value_spelled b)))
    (body_spelled (operation_name k ∷ names) (past_operator k i names small fresh) more)
body_spelled names fresh (variables {k = k} {i = i} small a more) =
    has.stmts (has.let' (variable_is_name i small) (fresh.variables i (omega arith) small) (has.primary (value_spelled a)))
    (body_spelled (variable_name i ∷ names) (past_variable k i names small fresh) more)
body_spelled names fresh (prints is_text a more) = has.stmts (has.perform (print_spelled is_text a)) (body_spelled names fresh more)

-- ---- the names that a body declares

-- `host$` is none of them
pub body_no_host : {k i : ℕ} {tree : List JsStmt} (scope : Scope) → IsBody k i tree → lookup (bytes_eq (codes "host$")) (with_lets scope tree) ≡ lookup (bytes_eq (codes "host$")) scope
body_no_host scope ends = ap (λ c. lookup (bytes_eq (codes "host$")) (with_let scope c)) (s.outs-Return 0 (e.Primary (alone h.Null)))
body_no_host scope (operations {k = k} {operator = operator} {left = left} {right = right} {rest = rest} small a b more) =
    ap (λ c. lookup (bytes_eq (codes "host$")) (with_lets (with_let scope c) rest)) (s.outs-Let 0 (operation_name k) (e.Binary operator left right))
    ∙ body_no_host (bind scope (operation_name k) None) more ∙ bound_other scope (operation_name k) (codes "host$") None (no_host k)
body_no_host scope (variables {i = i} {value = value} {rest = rest} small a more) =
    ap (λ c. lookup (bytes_eq (codes "host$")) (with_lets (with_let scope c) rest)) (s.outs-Let 0 (variable_name i) (e.Primary value))
    ∙ body_no_host (bind scope (variable_name i) None) more ∙ bound_other scope (variable_name i) (codes "host$") None (no_host' i)
body_no_host scope (prints {value = value} {rest = rest} is_text a more) =
    ap (λ c. lookup (bytes_eq (codes "host$")) (with_lets (with_let scope c) rest)) (s.outs-Perform 0 (host_print (printed_of is_text value)))
    ∙ body_no_host scope more

-- places have no say
pub bare_lets : (scope : Scope) (tree : List JsStmt) → with_lets scope tree ≡ with_lets scope (map stmt_without_places tree)
bare_lets scope [] = refl
bare_lets scope (c ∷ tree) = bare_lets (with_let scope (out-JsStmt c)) tree ∙ ap (λ scope. with_lets scope (map stmt_without_places tree)) (with_let_bare scope c)

-- ---- behind a statement a body goes on

let_no_let : (x y : List ℕ) (a b : JsExpr) → s.Let 0 x a ≡ s.Let 0 y b → x ≡ y
let_no_let x y a b is = let made : JsStmt-F.Let 0 x a ≡ JsStmt-F.Let 0 y b = sym (s.outs-Let 0 x a) ∙ ap out-JsStmt is ∙ s.outs-Let 0 y b in cc made

let_no_perform : (x : List ℕ) (a : JsExpr) (p : JsPrimary) → s.Perform 0 p ≡ s.Let 0 x a → ⊥
let_no_perform x a p is = let made : JsStmt-F.Perform 0 p ≡ JsStmt-F.Let 0 x a = sym (s.outs-Perform 0 p) ∙ ap out-JsStmt is ∙ s.outs-Let 0 x a in cc made

let_no_return : (x : List ℕ) (a b : JsExpr) → s.Return 0 b ≡ s.Let 0 x a → ⊥
let_no_return x a b is = let made : JsStmt-F.Return 0 b ≡ JsStmt-F.Let 0 x a = sym (s.outs-Return 0 b) ∙ ap out-JsStmt is ∙ s.outs-Let 0 x a in cc made

same_name_no : (x y : List ℕ) → x ≡ y → bytes_eq x y ≡ false → ⊥
same_name_no x y same apart = let yes : bytes_eq y y ≡ false = subst (λ x. bytes_eq x y ≡ false) same apart in let t : bytes_eq y y ≡ true = same_as y in let clash : true ≡ false = sym t ∙ yes in cc clash

pub past_operation : {k i : ℕ} {tree : List JsStmt} (a : JsExpr) (rest : List JsStmt) → IsBody k i tree → tree ≡ s.Let 0 (operation_name k) a ∷ rest → (k < 2 ^ 64) × IsBody (suc k) i rest
past_operation {k} {i} a rest ends is = absurd (let_no_return (operation_name k) a (e.Primary (alone h.Null)) (cc is))
past_operation {k} {i} a rest (operations small l r more) is = (small, subst (IsBody (suc k) i) (cc is) more)
past_operation {k} {i} a rest (variables {value = value} small v more) is =
    absurd (same_name_no (variable_name i) (operation_name k) (let_no_let (variable_name i) (operation_name k) (e.Primary value) a (cc is)) (letters_differ' i k))
past_operation {k} {i} a rest (prints {value = value} is_text v more) is = absurd (let_no_perform (operation_name k) a (host_print (printed_of is_text value)) (cc is))

pub past_declared : {k i : ℕ} {tree : List JsStmt} (a : JsExpr) (rest : List JsStmt) → IsBody k i tree → tree ≡ s.Let 0 (variable_name i) a ∷ rest → (i < 2 ^ 64) × IsBody k (suc i) rest
past_declared {k} {i} a rest ends is = absurd (let_no_return (variable_name i) a (e.Primary (alone h.Null)) (cc is))
past_declared {k} {i} a rest (operations {operator = operator} {left = left} {right = right} small l r more) is =
    absurd (same_name_no (operation_name k) (variable_name i) (let_no_let (operation_name k) (variable_name i) (e.Binary operator left right) a (cc is)) (letters_differ k i))
past_declared {k} {i} a rest (variables small v more) is = (small, subst (IsBody k (suc i)) (cc is) more)
past_declared {k} {i} a rest (prints {value = value} is_text v more) is = absurd (let_no_perform (variable_name i) a (host_print (printed_of is_text value)) (cc is))

pub past_print : {k i : ℕ} {tree : List JsStmt} (p : JsPrimary) (rest : List JsStmt) → IsBody k i tree → tree ≡ s.Perform 0 p ∷ rest → IsBody k i rest
past_print p rest ends is = absurd (no_return (e.Primary (alone h.Null)) (cc is))
  where
    no_return : (b : JsExpr) → s.Return 0 b ≡ s.Perform 0 p → ⊥
    no_return b is = let made : JsStmt-F.Return 0 b ≡ JsStmt-F.Perform 0 p = sym (s.outs-Return 0 b) ∙ ap out-JsStmt is ∙ s.outs-Perform 0 p in cc made
past_print p rest (operations {k = k} {operator = operator} {left = left} {right = right} small l r more) is = absurd (let_no_perform (operation_name k) (e.Binary operator left right) p (sym (cc is)))
past_print p rest (variables {i = i} {value = value} small v more) is = absurd (let_no_perform (variable_name i) (e.Primary value) p (sym (cc is)))
past_print {k} {i} p rest (prints is_text v more) is = subst (IsBody k i) (cc is) more
