-- The numbers, names and texts of a program that was read are in range, and so are those of its translation.
use Rattle.std.proofs.Common.{◌≡◌, Bool, true, false, ℕ, suc, ◌+◌, ◌*◌, ◌^◌, ◌<◌, ◌≤◌, List, [], ◌∷◌, ◌++◌, length, sym, ap, ◌∙◌, subst, ⊎_elim, arith, length-append}
use Rattle.std.specs.Prelude.{nat_le, nat_lt, ◌&&◌, ◌||◌, ◌==◌}
use Rattle.std.proofs.lemmas.Bool.{and_parts, and_from, or_cases, leb-true, eqb-true, lt-ltb}
use Rattle.std.proofs.lemmas.List.{length-map}
use Rattle.std.proofs.lemmas.Option.{slice_get_within}
use Rattle.dart_syntax.specs.declared.words.Sign.TheVariants as s
use Rattle.dart_syntax.specs.declared.tokens.Form.TheVariants as f
use Rattle.dart_syntax.specs.declared.tokens.Token.{Token}
use Rattle.dart_syntax.specs.Table.{is_digit}
use Rattle.dart_meaning.specs.declared.program.Operand.{Operand}
use Rattle.dart_meaning.specs.declared.program.Operand.TheVariants as dart_operands
use Rattle.dart_meaning.specs.declared.program.Addend.{Addend}
use Rattle.dart_meaning.specs.declared.program.Expression.{Expression}
use Rattle.dart_meaning.specs.declared.program.Expression.TheVariants as expressions
use Rattle.dart_meaning.specs.declared.program.Statement.{Statement}
use Rattle.dart_meaning.specs.declared.program.Statement.TheVariants as dart_statements
use Rattle.dart_meaning.specs.Program.{Kinds, Names, Forms, is_letter, is_mark, is_plain, IsText, IsOperand, IsNumeric, AreNumeric, AreAddends, IsSum, IsExpression, is_text, AreWellFormed, factors_forms, addends_forms, expression_forms, statements_forms, IsProgram}
use Rattle.js_tree.specs.declared.tree.JsHead.TheVariants as h
use Rattle.js_tree.specs.declared.tree.JsPrimary.{JsPrimary}
use Rattle.js_tree.specs.declared.tree.JsStmt.{JsStmt}
use Rattle.js_tree.specs.Spelling.{are_units}
use Rattle.dart_web_cli.specs.Translation.{alone, operand_of, operation, Behind, product_then, addends_then, expression_then, statements_from}
use Rattle.dart_web_cli.proofs.Body.{IsValue, digits, operation as of_operation, variable, string, IsBody, ends, operations, variables, prints}

-- How many operators, and how many names, stand in a part of a program.

abbrev addend_operators : List Addend → ℕ
addend_operators [] = 0
addend_operators (addend ∷ addends) = length addend.product.rest + suc (addend_operators addends)

abbrev operators : Expression → ℕ
operators (expressions.Text text) = 0
operators (expressions.Sum sum) = length sum.first.rest + addend_operators sum.rest

abbrev all_operators : List Statement → ℕ
all_operators [] = 0
all_operators (dart_statements.Print value ∷ program) = operators value + all_operators program
all_operators (dart_statements.Declare name value ∷ program) = operators value + all_operators program

abbrev all_names : List Statement → ℕ
all_names [] = 0
all_names (dart_statements.Print value ∷ program) = all_names program
all_names (dart_statements.Declare name value ∷ program) = suc (all_names program)

-- There are no more of both than tokens.

factors_length : (names : Names) (factors : List Operand) (more : Forms) → length (factors_forms names factors more) ≡ 2 * length factors + length more
factors_length names [] more = omega arith
factors_length names (factor ∷ factors) more = omega (arith, factors_length names factors more)

addends_length : (names : Names) (addends : List Addend) (more : Forms) → addend_operators addends + length more ≤ length (addends_forms names addends more)
addends_length names [] more = omega arith
addends_length names (addend ∷ addends) more =
    let behind : Forms = addends_forms names addends more in
    omega (arith, addends_length names addends more, factors_length names addend.product.rest behind)

expression_length : (names : Names) (value : Expression) (more : Forms) → operators value + length more ≤ length (expression_forms names value more)
expression_length names (expressions.Text text) more = omega arith
expression_length names (expressions.Sum sum) more =
    let behind : Forms = addends_forms names sum.rest more in
    omega (arith, addends_length names sum.rest more, factors_length names sum.first.rest behind)

statements_length : (names : Names) (program : List Statement) → all_operators program + all_names program ≤ length (statements_forms names program)
statements_length names [] = omega arith
statements_length names (dart_statements.Print value ∷ program) =
    let behind : Forms = f.Sign s.CloseParen ∷ f.Sign s.Semicolon ∷ statements_forms names program in
    omega (arith, statements_length names program, expression_length names value behind)
statements_length names (dart_statements.Declare name value ∷ program) =
    let behind : Forms = f.Sign s.Semicolon ∷ statements_forms (names ++ name ∷ []) program in
    omega (arith, statements_length (names ++ name ∷ []) program, expression_length names value behind)

program_length : (tokens : List Token) (program : List Statement) → IsProgram tokens program → all_operators program + all_names program ≤ length tokens
program_length tokens program is =
    omega (arith, statements_length [] program, ap length is.spelled, length-map tokens (λ (t : Token). t.form))

-- Operands.

numeric_value : (kinds : Kinds) (operand : Operand) → length kinds ≤ 2 ^ 64 → IsNumeric kinds operand → IsValue (operand_of operand)
numeric_value kinds (dart_operands.Number n) le small = digits n small
numeric_value kinds (dart_operands.Variable k) le numeric = variable k (omega (arith, slice_get_within kinds k _ numeric))

operand_value : (kinds : Kinds) (operand : Operand) → length kinds ≤ 2 ^ 64 → IsOperand kinds operand → IsValue (operand_of operand)
operand_value kinds (dart_operands.Number n) le small = digits n small
operand_value kinds (dart_operands.Variable k) le few = variable k (omega arith)

-- each test holds of small units alone
abbrev IsSmall : (ℕ → Bool) → Type 0
IsSmall test = (unit : ℕ) → test unit ≡ true → unit < 65536

between_small : (low high unit : ℕ) → high < 65536 → (nat_le low unit && nat_le unit high) ≡ true → unit < 65536
between_small low high unit lt is = let le = leb-true unit high (and_parts _ _ is).1 in omega (arith, le, lt)

one_small : (mark : ℕ) → mark < 65536 → IsSmall (λ unit. unit == mark)
one_small mark lt unit is = let same = eqb-true unit mark is in omega (arith, same, lt)

either_small : (f g : ℕ → Bool) → IsSmall f → IsSmall g → IsSmall (λ unit. f unit || g unit)
either_small f g sf sg unit is = ⊎_elim (sf unit) (sg unit) (or_cases (f unit) (g unit) is)

letter_small : IsSmall is_letter
letter_small = either_small (λ u. nat_le 65 u && nat_le u 90) (λ u. nat_le 97 u && nat_le u 122) (λ u is. between_small 65 90 u (omega arith) is) (λ u is. between_small 97 122 u (omega arith) is)

mark_small : IsSmall is_mark
mark_small =
    either_small (λ u. u == 46 || u == 44 || u == 58 || u == 59 || u == 33 || u == 63) (λ u. u == 45)
    (either_small (λ u. u == 46 || u == 44 || u == 58 || u == 59 || u == 33) (λ u. u == 63)
    (either_small (λ u. u == 46 || u == 44 || u == 58 || u == 59) (λ u. u == 33)
    (either_small (λ u. u == 46 || u == 44 || u == 58) (λ u. u == 59)
    (either_small (λ u. u == 46 || u == 44) (λ u. u == 58)
    (either_small (λ u. u == 46) (λ u. u == 44) (one_small 46 (omega arith)) (one_small 44 (omega arith)))
    (one_small 58 (omega arith))) (one_small 59 (omega arith))) (one_small 33 (omega arith))) (one_small 63 (omega arith))) (one_small 45 (omega arith))

plain_small : IsSmall is_plain
plain_small =
    either_small (λ u. is_letter u || is_digit u || u == 32) is_mark
    (either_small (λ u. is_letter u || is_digit u) (λ u. u == 32)
    (either_small is_letter is_digit letter_small (λ u is. between_small 48 57 u (omega arith) is))
    (one_small 32 (omega arith))) mark_small

plain_is_unit : (unit : ℕ) → is_plain unit ≡ true → nat_lt unit 65536 ≡ true
plain_is_unit unit is = lt-ltb unit 65536 (plain_small unit is)

text_units : (text : List ℕ) → IsText text → are_units text ≡ true
text_units [] is = is
text_units (unit ∷ text) is = let both = and_parts _ _ is in and_from _ _ (plain_is_unit unit both.0) (text_units text both.1)

-- The lets of an expression, where what is behind them goes on as a body.

-- what is behind so many operators, with i names before it
abbrev BehindIsBody : ℕ → ℕ → Behind → Type 0
BehindIsBody k i behind = (p : JsPrimary) → IsValue p → IsBody k i (behind k p)

product_body : (factors : List Operand) (k i : ℕ) (sofar : JsPrimary) (behind : Behind) (kinds : Kinds) → length kinds ≤ 2 ^ 64 → AreNumeric kinds factors → IsValue sofar → k + length factors < 2 ^ 64 → BehindIsBody (k + length factors) i behind → IsBody k i (product_then k sofar factors behind)
product_body [] k i sofar behind kinds le hs value lt next = let z : k + 0 ≡ k = omega arith in subst (λ k. IsBody k i (behind k sofar)) z (next sofar value)
product_body (factor ∷ factors) k i sofar behind kinds le hs value lt next =
    let here : k < 2 ^ 64 = omega arith in
    let z : k + suc (length factors) ≡ suc k + length factors = omega arith in
    let lt' : suc k + length factors < 2 ^ 64 = omega arith in
    operations here value (numeric_value kinds factor le hs.0) (product_body factors (suc k) i (operation k) behind kinds le hs.1 (of_operation k here) lt' (subst (λ k. BehindIsBody k i behind) z next))

addends_body : (addends : List Addend) (k i : ℕ) (sofar : JsPrimary) (behind : Behind) (kinds : Kinds) → length kinds ≤ 2 ^ 64 → AreAddends kinds addends → IsValue sofar → k + addend_operators addends < 2 ^ 64 → BehindIsBody (k + addend_operators addends) i behind → IsBody k i (addends_then k sofar addends behind)
addends_body [] k i sofar behind kinds le hs value lt next = let z : k + 0 ≡ k = omega arith in subst (λ k. IsBody k i (behind k sofar)) z (next sofar value)
addends_body (addend ∷ addends) k i sofar behind kinds le hs value lt next =
    let m = k + length addend.product.rest in
    let here : m < 2 ^ 64 = omega arith in
    let z : k + (length addend.product.rest + suc (addend_operators addends)) ≡ suc m + addend_operators addends = omega arith in
    let lt' : suc m + addend_operators addends < 2 ^ 64 = omega arith in
    product_body addend.product.rest k i (operand_of addend.product.first) _ kinds le hs.0.1 (numeric_value kinds addend.product.first le hs.0.0) here
    (λ p pv. operations here value pv (addends_body addends (suc m) i (operation m) behind kinds le hs.1 (of_operation m here) lt' (subst (λ k. BehindIsBody k i behind) z next)))

sum_body : (first : Operand) (factors : List Operand) (addends : List Addend) (k i : ℕ) (behind : Behind) (kinds : Kinds) → length kinds ≤ 2 ^ 64 → IsValue (operand_of first) → AreNumeric kinds factors → AreAddends kinds addends → k + (length factors + addend_operators addends) < 2 ^ 64 → BehindIsBody (k + (length factors + addend_operators addends)) i behind → IsBody k i (product_then k (operand_of first) factors (λ k' product. addends_then k' product addends behind))
sum_body first factors addends k i behind kinds le value hs ha lt next =
    let here : k + length factors < 2 ^ 64 = omega arith in
    let z : k + (length factors + addend_operators addends) ≡ k + length factors + addend_operators addends = omega arith in
    let lt' : k + length factors + addend_operators addends < 2 ^ 64 = omega arith in
    product_body factors k i (operand_of first) _ kinds le hs value here
    (λ p pv. addends_body addends (k + length factors) i p behind kinds le ha pv lt' (subst (λ k. BehindIsBody k i behind) z next))

expression_body : (value : Expression) (k i : ℕ) (behind : Behind) (kinds : Kinds) → length kinds ≤ 2 ^ 64 → IsExpression kinds value → k + operators value < 2 ^ 64 → BehindIsBody (k + operators value) i behind → IsBody k i (expression_then k value behind)
expression_body (expressions.Text text) k i behind kinds le is lt next = let z : k + 0 ≡ k = omega arith in subst (λ k. BehindIsBody k i behind) z next (alone (h.Str text)) (string text (text_units text is))
expression_body (expressions.Sum sum) k i behind kinds le is lt next = by sum.first.first sum.first.rest sum.rest is lt next
  where
    by : (first : Operand) (factors : List Operand) (addends : List Addend) → IsSum kinds (record { first = record { first = first; rest = factors }; rest = addends }) → k + (length factors + addend_operators addends) < 2 ^ 64 → BehindIsBody (k + (length factors + addend_operators addends)) i behind → IsBody k i (product_then k (operand_of first) factors (λ k' product. addends_then k' product addends behind))
    by first [] [] is lt next = sum_body first [] [] k i behind kinds le (operand_value kinds first le is) tt tt lt next
    by first [] (addend ∷ addends) is lt next = sum_body first [] (addend ∷ addends) k i behind kinds le (numeric_value kinds first le is.0.0) is.0.1 is.1 lt next
    by first (factor ∷ factors) addends is lt next = sum_body first (factor ∷ factors) addends k i behind kinds le (numeric_value kinds first le is.0.0) is.0.1 is.1 lt next

-- Statements.

statements_body : (program : List Statement) (k : ℕ) (kinds : Kinds) (names : Names) → AreWellFormed kinds names program → k + all_operators program < 2 ^ 64 → length kinds + all_names program < 2 ^ 64 → IsBody k (length kinds) (statements_from k kinds program)
statements_body [] k kinds names is lt few = ends
statements_body (dart_statements.Print value ∷ program) k kinds names is lt few =
    let le : length kinds ≤ 2 ^ 64 = omega arith in
    let here : k + operators value < 2 ^ 64 = omega arith in
    let lt' : k + operators value + all_operators program < 2 ^ 64 = omega arith in
    expression_body value k (length kinds) _ kinds le is.0 here
    (λ p pv. prints (is_text kinds value) pv (statements_body program (k + operators value) kinds names is.1 lt' few))
statements_body (dart_statements.Declare name value ∷ program) k kinds names is lt few =
    let le : length kinds ≤ 2 ^ 64 = omega arith in
    let i : length kinds < 2 ^ 64 = omega arith in
    let here : k + operators value < 2 ^ 64 = omega arith in
    let lt' : k + operators value + all_operators program < 2 ^ 64 = omega arith in
    let longer : length (kinds ++ is_text kinds value ∷ []) ≡ suc (length kinds) = omega (arith, length-append kinds (is_text kinds value ∷ [])) in
    let few' : length (kinds ++ is_text kinds value ∷ []) + all_names program < 2 ^ 64 = omega (arith, longer, few) in
    expression_body value k (length kinds) _ kinds le is.2 here
    (λ p pv. variables i pv (subst (λ i. IsBody (k + operators value) i (statements_from (k + operators value) (kinds ++ is_text kinds value ∷ []) program)) longer (statements_body program (k + operators value) (kinds ++ is_text kinds value ∷ []) (names ++ name ∷ []) is.3 lt' few')))

pub program_body : (tokens : List Token) (program : List Statement) → length tokens < 2 ^ 64 → IsProgram tokens program → IsBody 0 0 (statements_from 0 [] program)
program_body tokens program lt is =
    let few = program_length tokens program is in
    let operators : 0 + all_operators program < 2 ^ 64 = omega (arith, few) in
    let names : 0 + all_names program < 2 ^ 64 = omega (arith, few) in
    statements_body program 0 [] [] is.well_formed operators names
