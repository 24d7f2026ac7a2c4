-- A tree that tokens derive has a spelling.
use Rattle.std.proofs.Common.{◌≡◌, ℕ, ◌<◌, Bool, true, false, List, [], ◌∷◌, refl, ap, arith}
use Rattle.std.specs.Prelude.{not, ◌&&◌, ◌||◌, ◌==◌, nat_lt, codes}
use Rattle.std.proofs.lemmas.Bool.{and_from, and_parts, lt-ltb}
use Rattle.std.proofs.lemmas.Bool.Decides.{nat_tests}
use Rattle.js_tree.specs.declared.tree.JsExpr.{JsExpr}
use Rattle.js_tree.specs.declared.tree.JsHead.{JsHead}
use Rattle.js_tree.specs.declared.tree.JsSelector.{JsSelector}
use Rattle.js_tree.specs.declared.tree.JsPrimary.{JsPrimary}
use Rattle.js_tree.specs.declared.tree.JsFunction.{JsFunction}
use Rattle.js_tree.specs.declared.tree.JsEntry.{JsEntry}
use Rattle.js_tree.specs.declared.tree.JsStmt.{JsStmt}
use Rattle.js_tree.specs.declared.tree.JsItem.{JsItem}
use Rattle.js_tree.specs.Tokens.{Bytes, is_plain, is_hex, hex_value, IsQuoted, close, plain, escape, unicode, Form, Run, Quoted, Sign, Unreadable, Tokens, IsToken, run, quoted, sign', unreadable, AreTokens, end, blank, token'}
use Rattle.js_tree.specs.Grammar as g
use Rattle.js_tree.specs.Grammar.{Names, is_name, is_among, next_is, IsExpr, AreEntries, AreExprs, AreListed, AreArguments, IsPrimary, IsHead, AreSelectors, AreNames, AreParameters, IsFunction, IsBlock, AreStmts, IsStmt, AreItems}
use Rattle.js_tree.specs.Spelling as w
use Rattle.js_tree.specs.Spelling.{are_names, are_units, calls, HasExpr, HaveExprs, HaveEntries, HasPrimary, HasHead, HaveSelectors, HasFunction, HaveStmts, HasStmt, HaveItems}
use Rattle.js_tree.specs.SpellingLaws.{SpelledHasSpelling}

-- ---- the units of strings

abbrev HasUnits : Form → Type 0
HasUnits (Run text) = Unit {0}
HasUnits (Quoted us) = are_units us ≡ true
HasUnits (Sign text) = Unit {0}
HasUnits Unreadable = Unit {0}

abbrev HaveUnits : Tokens → Type 0
HaveUnits [] = Unit {0}
HaveUnits (t ∷ ts) = HasUnits t.form × HaveUnits ts

plain_is_small : (b : ℕ) → is_plain b ≡ true → nat_lt b 65536 ≡ true
plain_is_small b is = grind (arith, nat_tests)

escape_is_small : (b : ℕ) → (b == 34 || b == 92) ≡ true → nat_lt b 65536 ≡ true
escape_is_small b is = grind (arith, nat_tests)

hex_is_small : (b : ℕ) → is_hex b ≡ true → hex_value b < 16
hex_is_small b is = grind (arith, nat_tests)

units_of : {bytes rest : Bytes} {us : List ℕ} → IsQuoted bytes us rest → are_units us ≡ true
units_of close = refl
units_of (plain {b = b} is more) = and_from _ _ (plain_is_small b is) (units_of more)
units_of (escape {b = b} is more) = and_from _ _ (escape_is_small b is) (units_of more)
units_of (unicode {a = a} {b = b} {c = c} {d = d} are more) =
    let abc = and_parts (is_hex a && is_hex b && is_hex c) (is_hex d) are in
    let ab = and_parts (is_hex a && is_hex b) (is_hex c) abc.0 in
    let parts = and_parts (is_hex a) (is_hex b) ab.0 in
    and_from _ _ (lt-ltb _ _ (omega (arith, hex_is_small a parts.0, hex_is_small b parts.1, hex_is_small c ab.1, hex_is_small d abc.1))) (units_of more)

token_units : {bytes rest : Bytes} {form : Form} → IsToken bytes form rest → HasUnits form
token_units (run text is ends) = tt
token_units (quoted units) = units_of units
token_units (sign' text is) = tt
token_units (unreadable is part quote sign) = tt

tokens_units : {size : ℕ} {line : Bool} {bytes : Bytes} {ts : Tokens} → AreTokens size line bytes ts → HaveUnits ts
tokens_units end = tt
tokens_units (blank is more) = tokens_units more
tokens_units (token' is more) = (token_units is, tokens_units more)

-- ---- names

-- what a derivation gives, and that the tokens behind have units as well
record Has (P : Type 0) (rest : Tokens) : Type 0 where
  pub has : P
  pub units : HaveUnits rest

not_among : (b : Bool) → b ≡ false → not b ≡ true
not_among b e = ap not e

names_are : {before xs : Names} {ts rest : Tokens} → AreNames before ts xs rest → HaveUnits ts → Has (are_names before xs ≡ true) rest
names_are (g.last_name is fresh) units = record { has = and_from _ _ is (and_from _ _ (not_among _ fresh) refl); units = units.1 }
names_are (g.more_names is fresh more) units =
    let later = names_are more units.1.1 in
    record { has = and_from _ _ is (and_from _ _ (not_among _ fresh) later.has); units = later.units }

parameters_are : {xs : Names} {ts rest : Tokens} → AreParameters ts xs rest → HaveUnits ts → Has (are_names [] xs ≡ true) rest
parameters_are g.no_parameters units = record { has = refl; units = units.1.1 }
parameters_are (g.parameters names) units =
    let x = names_are names units.1 in
    record { has = x.has; units = x.units.1 }

-- ---- expressions and statements

-- no arguments stand next where no `(` does
no_arguments : {xs : List JsSelector} {ts rest : Tokens} → AreSelectors ts xs rest → next_is (codes "(") ts ≡ false → calls xs ≡ false
no_arguments g.no_selectors next = refl
no_arguments (g.index a more) next = refl
no_arguments (g.call (g.arguments listed) more) next = cc
no_arguments (g.member alone more) next = refl
no_arguments (g.method args more) next = refl

mutual
  expr_has : {a : JsExpr} {ts rest : Tokens} → IsExpr ts a rest → HaveUnits ts → Has (HasExpr a) rest
  expr_has (g.primary a) units = let x = primary_has a units in record { has = w.primary x.has; units = x.units }
  expr_has (g.binary a b) units = let x = primary_has a units in let y = primary_has b x.units.1 in record { has = w.binary x.has y.has; units = y.units }
  expr_has (g.type_of a) units = let x = primary_has a units.1 in record { has = w.type_of x.has; units = x.units }
  expr_has (g.function f) units = let x = function_has f units.1 in record { has = w.function x.has; units = x.units }
  expr_has g.new_map units = record { has = w.new_map; units = units.1.1.1.1 }
  expr_has (g.array xs) units = let x = listed_have xs units.1 in record { has = w.array x.has; units = x.units }
  expr_has g.no_entries units = record { has = w.object w.no_entries; units = units.1.1 }
  expr_has (g.object xs) units = let x = entries_have xs units.1 in record { has = w.object x.has; units = x.units.1 }

  entries_have : {xs : List JsEntry} {ts rest : Tokens} → AreEntries ts xs rest → HaveUnits ts → Has (HaveEntries xs) rest
  entries_have (g.last_entry a) units = let x = expr_has a units.1.1 in record { has = w.entries units.0 x.has w.no_entries; units = x.units }
  entries_have (g.more_entries a xs) units = let x = expr_has a units.1.1 in let y = entries_have xs x.units.1 in record { has = w.entries units.0 x.has y.has; units = y.units }

  exprs_have : {xs : List JsExpr} {ts rest : Tokens} → AreExprs ts xs rest → HaveUnits ts → Has (HaveExprs xs) rest
  exprs_have (g.last_expr a) units = let x = expr_has a units in record { has = w.exprs x.has w.no_exprs; units = x.units }
  exprs_have (g.more_exprs a xs) units = let x = expr_has a units in let y = exprs_have xs x.units.1 in record { has = w.exprs x.has y.has; units = y.units }

  listed_have : {close : Bytes} {xs : List JsExpr} {ts rest : Tokens} → AreListed close ts xs rest → HaveUnits ts → Has (HaveExprs xs) rest
  listed_have g.no_items units = record { has = w.no_exprs; units = units.1 }
  listed_have (g.items xs) units = let x = exprs_have xs units in record { has = x.has; units = x.units.1 }

  arguments_have : {xs : List JsExpr} {ts rest : Tokens} → AreArguments ts xs rest → HaveUnits ts → Has (HaveExprs xs) rest
  arguments_have (g.arguments xs) units = listed_have xs units.1

  primary_has : {a : JsPrimary} {ts rest : Tokens} → IsPrimary ts a rest → HaveUnits ts → Has (HasPrimary a) rest
  primary_has (g.primary_of a xs) units = let x = head_has a units in let y = selectors_have xs x.units in record { has = w.primary_of x.has y.has; units = y.units }

  head_has : {a : JsHead} {ts rest : Tokens} → IsHead ts a rest → HaveUnits ts → Has (HasHead a) rest
  head_has (g.name is) units = record { has = w.name is; units = units.1 }
  head_has (g.digits small) units = record { has = w.digits small; units = units.1 }
  head_has (g.negative small) units = record { has = w.negative small; units = units.1.1 }
  head_has g.string units = record { has = w.string units.0; units = units.1 }
  head_has g.null units = record { has = w.null; units = units.1 }
  head_has g.undefined units = record { has = w.undefined; units = units.1 }
  head_has g.true' units = record { has = w.true'; units = units.1 }
  head_has g.false' units = record { has = w.false'; units = units.1 }
  head_has (g.string_of xs) units = let x = arguments_have xs units.1 in record { has = w.string_of x.has; units = x.units }
  head_has (g.is_array xs) units = let x = arguments_have xs units.1.1.1 in record { has = w.is_array x.has; units = x.units }
  head_has (g.array_from xs) units = let x = arguments_have xs units.1.1.1 in record { has = w.array_from x.has; units = x.units }

  selectors_have : {xs : List JsSelector} {ts rest : Tokens} → AreSelectors ts xs rest → HaveUnits ts → Has (HaveSelectors xs) rest
  selectors_have g.no_selectors units = record { has = w.no_selectors; units = units }
  selectors_have (g.index a xs) units = let x = expr_has a units.1 in let y = selectors_have xs x.units.1 in record { has = w.index x.has y.has; units = y.units }
  selectors_have (g.call args xs) units = let x = arguments_have args units in let y = selectors_have xs x.units in record { has = w.call x.has y.has; units = y.units }
  selectors_have (g.member alone xs) units = let y = selectors_have xs units.1.1 in record { has = w.member (no_arguments xs alone) y.has; units = y.units }
  selectors_have (g.method args xs) units = let x = arguments_have args units.1.1 in let y = selectors_have xs x.units in record { has = w.method x.has y.has; units = y.units }

  function_has : {a : JsFunction} {ts rest : Tokens} → IsFunction ts a rest → HaveUnits ts → Has (HasFunction a) rest
  function_has (g.function_of ps body) units = let x = parameters_are ps units in let y = block_has body x.units in record { has = w.function_of x.has y.has; units = y.units }

  block_has : {names : Names} {xs : List JsStmt} {ts rest : Tokens} → IsBlock names ts xs rest → HaveUnits ts → Has (HaveStmts names xs) rest
  block_has (g.block xs) units = let x = stmts_have xs units.1 in record { has = x.has; units = x.units.1 }

  stmts_have : {names : Names} {xs : List JsStmt} {ts rest : Tokens} → AreStmts names ts xs rest → HaveUnits ts → Has (HaveStmts names xs) rest
  stmts_have g.no_stmts units = record { has = w.no_stmts; units = units }
  stmts_have (g.stmts a more) units = let x = stmt_has a units in let y = stmts_have more x.units in record { has = w.stmts x.has y.has; units = y.units }

  stmt_has : {names : Names} {a : JsStmt} {ts rest : Tokens} → IsStmt names ts a rest → HaveUnits ts → Has (HasStmt names a) rest
  stmt_has (g.let' is fresh a) units = let x = expr_has a units.1.1.1 in record { has = w.let' is fresh x.has; units = x.units.1 }
  stmt_has (g.assign is a) units = let x = expr_has a units.1.1 in record { has = w.assign is x.has; units = x.units.1 }
  stmt_has (g.store a xs b c) units =
      let x = head_has a units in
      let xs = selectors_have xs x.units in
      let y = expr_has b xs.units.1 in
      let z = expr_has c y.units.1.1 in
      record { has = w.store (w.primary_of x.has xs.has) y.has z.has; units = z.units.1 }
  stmt_has (g.perform a) units = let x = primary_has a units in record { has = w.perform x.has; units = x.units.1 }
  stmt_has (g.if' a xs) units = let x = expr_has a units.1.1 in let y = block_has xs x.units.1 in record { has = w.if' x.has y.has; units = y.units }
  stmt_has (g.if_else a xs ys) units =
      let x = expr_has a units.1.1 in
      let y = block_has xs x.units.1 in
      let z = block_has ys y.units.1 in
      record { has = w.if_else x.has y.has z.has; units = z.units }
  stmt_has (g.loop xs) units = let x = block_has xs units.1.1.1.1 in record { has = w.loop x.has; units = x.units }
  stmt_has (g.labelled is xs) units = let x = block_has xs units.1.1 in record { has = w.labelled is x.has; units = x.units }
  stmt_has (g.break' is line) units = record { has = w.break' is; units = units.1.1.1 }
  stmt_has (g.return' line a) units = let x = expr_has a units.1 in record { has = w.return' x.has; units = x.units.1 }
  stmt_has (g.throw' line a) units = let x = expr_has a units.1 in record { has = w.throw' x.has; units = x.units.1 }
  stmt_has (g.try_catch is xs ys) units =
      let x = block_has xs units.1 in
      let y = block_has ys x.units.1.1.1.1 in
      record { has = w.try_catch x.has is y.has; units = y.units }
  stmt_has (g.try_finally xs ys) units = let x = block_has xs units.1 in let y = block_has ys x.units.1 in record { has = w.try_finally x.has y.has; units = y.units }

-- ---- files

items_have : {names : Names} {xs : List JsItem} {ts : Tokens} → AreItems names ts xs → HaveUnits ts → HaveItems names xs
items_have g.no_items units = w.no_items
items_have (g.function_item is fresh f more) units = let x = function_has f units.1.1 in w.function_item is fresh x.has (items_have more x.units)
items_have (g.var is fresh a more) units = let x = expr_has a units.1.1.1 in w.var is fresh x.has (items_have more x.units.1)
items_have (g.statement a more) units = let x = stmt_has a units in w.statement x.has (items_have more x.units)

pub spelled_has : SpelledHasSpelling
spelled_has bytes file spelled = items_have spelled.derived (tokens_units spelled.scanned)
