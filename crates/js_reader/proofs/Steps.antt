-- What is derived is parsed.
use Rattle.std.proofs.Common.{◌≡◌, ℕ, zero, suc, ◌<◌, ◌≤◌, Bool, true, false, cond, List, [], ◌∷◌, ◌++◌, length, None, Ok, Err, refl, sym, ap, ◌∙◌, subst, arith, append_assoc}
use Rattle.std.specs.Prelude.{not, ◌&&◌, ◌==◌, codes}
use Rattle.std.specs.List.{list_all, list_any}
use Rattle.std.specs.Str.{bytes_eq}
use Rattle.std.specs.Fmt.{decimal}
use Rattle.std.proofs.lemmas.List.{append-nil}
use Rattle.js_tree.specs.declared.tree.JsExpr.{JsExpr}
use Rattle.js_tree.specs.declared.tree.JsExpr.TheVariants as e
use Rattle.js_tree.specs.declared.tree.JsHead.{JsHead}
use Rattle.js_tree.specs.declared.tree.JsHead.TheVariants as H
use Rattle.js_tree.specs.declared.tree.JsSelector.{JsSelector}
use Rattle.js_tree.specs.declared.tree.JsSelector.TheVariants as l
use Rattle.js_tree.specs.declared.tree.JsPrimary.{JsPrimary}
use Rattle.js_tree.specs.declared.tree.JsFunction.{JsFunction}
use Rattle.js_tree.specs.declared.tree.JsEntry.{JsEntry}
use Rattle.js_tree.specs.declared.tree.JsStmt.{JsStmt}
use Rattle.js_tree.specs.declared.tree.JsStmt.TheVariants as s
use Rattle.js_tree.specs.declared.tree.JsItem.{JsItem}
use Rattle.js_tree.specs.declared.tree.JsItem.TheVariants as i
use Rattle.js_tree.specs.declared.words.JsMember.{JsMember}
use Rattle.js_tree.specs.declared.words.JsOperator.{JsOperator}
use Rattle.js_tree.specs.declared.words.JsOperator.TheVariants as o
use Rattle.js_tree.specs.Words.{member_text, operator_text}
use Rattle.js_tree.specs.Tokens.{Bytes, is_digit, is_part, Place, Tokens}
use Rattle.js_tree.specs.Grammar as g
use Rattle.js_tree.specs.Grammar.{word, quoted, sign, start, next_is, Names, is_name, is_among, greatest, declared, AreNames, AreParameters, IsExpr, AreEntries, AreExprs, AreListed, AreArguments, IsPrimary, IsHead, AreSelectors, IsFunction, IsBlock, AreStmts, IsStmt, AreItems}
use Rattle.js_reader.specs.declared.targets.Target.{Target}
use Rattle.js_reader.specs.declared.targets.Target.TheVariants as t
use Rattle.js_reader.specs.Taking.{Found, Parser, place, on_new_line, is_end, sign_of, after_sign, sign_is, word_is, operator_of, on_line}
use Rattle.js_reader.specs.Parsing as p
use Rattle.js_reader.specs.Parsing.{literal_of, selects, expr_at, stmt_at}
use Rattle.js_reader.proofs.Fronted.{expect_same, expect_word_same, after_sign_same, after_word_same, name_same, fresh_same, number_same, member_same, operator_found, operator_after, string_same, bytes_refl}
use Rattle.js_reader.proofs.Fronts.{clash}
use Rattle.js_reader.proofs.Digits.{bytes_same}
use Rattle.js_reader.proofs.Firsts as f
use Rattle.js_reader.proofs.Firsts.{head_word, primary_word, primary_sign, expr_sign, exprs_sign, word_not, name_begins, digits_begin}
use Rattle.js_reader.proofs.Aimed.{last_one, slot_index}
use Rattle.js_reader.proofs.Alike.{IsSame, middle}

-- ---- names and parameters

-- the names of a list, last one first, and then those that stand before
abbrev pub onto : Names → Names → Names
onto [] before = before
onto (x ∷ xs) before = onto xs (x ∷ before)

names_complete : {before xs : Names} {ts rest : Tokens} → AreNames before ts xs rest → (size n : ℕ) (found : List Bytes) → length ts ≤ n → sign_is (codes ",") rest ≡ false
    → p.names_from size n before found ts ≡ Ok ((found ++ xs, onto xs before), rest)
unfolding p.names_from
names_complete (g.last_name m u) size zero found k c = absurd (omega arith)
names_complete (g.last_name {before = before} {x = x} {p = q} {rest = rest} m u) size (suc n) found k c = rw (fresh_same size before x q rest m u, c) refl
names_complete (g.more_names m u d) size zero found k c = absurd (omega arith)
names_complete (g.more_names {before = before} {xs = xs} {x = x} {p = q} {q = r} {ts = ts} {rest = rest} m u d) size (suc n) found k c =
    rw (fresh_same size before x q (sign (codes ",") r ∷ ts) m u, after_sign_same 44 [] r ts, names_complete d size n (found ++ x ∷ []) (omega arith) c, append_assoc found (x ∷ []) xs) refl

-- names are the same in any order
onto_same : (xs before : Names) → IsSame (onto xs before) (xs ++ before)
onto_same [] before y = refl
onto_same (x ∷ xs) before y = onto_same xs (x ∷ before) y ∙ middle xs x before y

names_no_close : {before xs : Names} {ts rest : Tokens} → AreNames before ts xs rest → sign_is (codes ")") ts ≡ false
names_no_close (g.last_name m u) = refl
names_no_close (g.more_names m u d) = refl

pub parameters_complete : {xs : Names} {ts rest : Tokens} → AreParameters ts xs rest → (size n : ℕ) → length ts ≤ n → p.parameters size n ts ≡ Ok ((xs, onto xs []), rest)
unfolding p.parameters
parameters_complete (g.no_parameters {p = q} {q = r} {rest = rest}) size n k = rw (expect_same size 40 [] q (sign (codes ")") r ∷ rest), after_sign_same 41 [] r rest) refl
parameters_complete (g.parameters {xs = xs} {p = q} {q = r} {ts = ts} {rest = rest} d) size n k =
    rw (expect_same size 40 [] q ts, names_no_close d, names_complete d size n [] (omega arith) refl, expect_same size 41 [] r rest) refl

-- ---- heads

other_name : (x w : Bytes) → is_name x ≡ true → is_name w ≡ false → bytes_eq x w ≡ false
other_name x w m k = by (bytes_eq x w) refl where
  by : (b : Bool) → bytes_eq x w ≡ b → b ≡ false
  by false e = refl
  by true e = absurd (clash m (ap is_name (bytes_same x w e) ∙ k))

not_empty : (x : Bytes) → is_name x ≡ true → bytes_eq x [] ≡ false
not_empty [] m = absurd cc
not_empty (c ∷ x) m = refl

pub name_head : (size turns : ℕ) (expr : Parser JsExpr) (stmt : Parser JsStmt) (x : Bytes) (q : Place) (rest : Tokens) → is_name x ≡ true → p.head size turns expr stmt (word x q ∷ rest) ≡ Ok (H.Name x, rest)
unfolding p.head p.named
name_head size turns expr stmt x q rest m =
    rw (
      not_empty x m,
      other_name x (codes "null") m refl,
      other_name x (codes "undefined") m refl,
      other_name x (codes "true") m refl,
      other_name x (codes "false") m refl,
      other_name x (codes "String") m refl,
      other_name x (codes "Array") m refl,
      m,
      name_same size x q rest m,
    ) refl

abbrev starts_digit : Bytes → Bool
starts_digit [] = false
starts_digit (b ∷ bs) = is_digit b

number_starts : (n : ℕ) → n ≤ greatest → starts_digit (decimal n) ≡ true
number_starts n k = let d = f.digit_first n k in ap starts_digit d.2 ∙ d.3

other_number : (n : ℕ) (w : Bytes) → n ≤ greatest → starts_digit w ≡ false → bytes_eq (decimal n) w ≡ false
other_number n w k m = by (bytes_eq (decimal n) w) refl where
  by : (b : Bool) → bytes_eq (decimal n) w ≡ b → b ≡ false
  by false e = refl
  by true e = absurd (clash (number_starts n k) (ap starts_digit (bytes_same (decimal n) w e) ∙ m))

digit_no_name : (x : Bytes) → starts_digit x ≡ true → is_name x ≡ false
digit_no_name [] h = absurd cc
digit_no_name (b ∷ x) h = ap (λ (c : Bool). not c && (list_all is_part (b ∷ x) && list_any (λ c. c == 36) (b ∷ x))) h

number_no_name : (n : ℕ) → n ≤ greatest → is_name (decimal n) ≡ false
number_no_name n k = digit_no_name (decimal n) (number_starts n k)

pub digits_head : (size turns : ℕ) (expr : Parser JsExpr) (stmt : Parser JsStmt) (n : ℕ) (q : Place) (rest : Tokens) → n ≤ greatest → p.head size turns expr stmt (word (decimal n) q ∷ rest) ≡ Ok (H.Digits n, rest)
unfolding p.head p.digits
digits_head size turns expr stmt n q rest k =
    rw (
      other_number n [] k refl,
      other_number n (codes "null") k refl,
      other_number n (codes "undefined") k refl,
      other_number n (codes "true") k refl,
      other_number n (codes "false") k refl,
      other_number n (codes "String") k refl,
      other_number n (codes "Array") k refl,
      number_no_name n k,
      number_same size n q rest k,
    ) refl

-- ---- what follows

-- no selector and no operator follows
pub record Ends (rest : Tokens) : Type 0 where
  pub no_selector : selects (sign_of rest) ≡ false
  pub no_operator : operator_of (sign_of rest) ≡ None

pub operator_ends : (o : JsOperator) → selects (operator_text o) ≡ false
operator_ends o.Plus = refl
operator_ends o.Minus = refl
operator_ends o.Times = refl
operator_ends o.Divide = refl
operator_ends o.Remainder = refl
operator_ends o.Equal = refl
operator_ends o.Less = refl
operator_ends o.Greater = refl
operator_ends o.LessEqual = refl
operator_ends o.GreaterEqual = refl

pub expr_up : (size n : ℕ) (ts : Tokens) (r : Found JsExpr) → p.expression size (suc n) (expr_at size n) (stmt_at size n) ts ≡ r → expr_at size (suc n) ts ≡ r
unfolding p.expr_at
expr_up size n ts r k = k

pub stmt_up : (size n : ℕ) (ts : Tokens) (r : Found JsStmt) → p.statement size (suc n) (expr_at size n) (stmt_at size n) ts ≡ r → stmt_at size (suc n) ts ≡ r
unfolding p.expr_at
stmt_up size n ts r k = k

pub onto_all : (xs : Names) → IsSame (onto xs []) xs
onto_all xs o = onto_same xs [] o ∙ ap (λ (ns : Names). is_among ns o) (append-nil xs)

-- ---- one step of each rule, from what its parts answer

module _ (size turns : ℕ) (expr : Parser JsExpr) (stmt : Parser JsStmt) where
  pub exprs_last : (n : ℕ) (found : List JsExpr) (a : JsExpr) (ts rest : Tokens) → expr ts ≡ Ok (a, rest) → sign_is (codes ",") rest ≡ false → p.exprs_from size turns expr stmt (suc n) found ts ≡ Ok (found ++ a ∷ [], rest)
  unfolding p.exprs_from
  exprs_last n found a ts rest k c = rw (k, c) refl

  pub exprs_more : (n : ℕ) (found xs : List JsExpr) (a : JsExpr) (q : Place) (ts mid rest : Tokens) → expr ts ≡ Ok (a, sign (codes ",") q ∷ mid)
      → p.exprs_from size turns expr stmt n (found ++ a ∷ []) mid ≡ Ok ((found ++ a ∷ []) ++ xs, rest) → p.exprs_from size turns expr stmt (suc n) found ts ≡ Ok (found ++ a ∷ xs, rest)
  unfolding p.exprs_from
  exprs_more n found xs a q ts mid rest k c = rw (k, after_sign_same 44 [] q mid, c, append_assoc found (a ∷ []) xs) refl

  pub listed_none : (c : ℕ) (q : Place) (rest : Tokens) → p.listed size turns expr stmt (c ∷ []) (sign (c ∷ []) q ∷ rest) ≡ Ok ([], rest)
  unfolding p.listed
  listed_none c q rest = rw (bytes_refl (c ∷ []), after_sign_same c [] q rest) refl

  pub listed_some : (c : ℕ) (xs : List JsExpr) (q : Place) (ts rest : Tokens) → sign_is (c ∷ []) ts ≡ false → p.exprs_from size turns expr stmt turns [] ts ≡ Ok (xs, sign (c ∷ []) q ∷ rest)
      → p.listed size turns expr stmt (c ∷ []) ts ≡ Ok (xs, rest)
  unfolding p.listed
  listed_some c xs q ts rest m k = rw (m, k, expect_same size c [] q rest) refl

  pub arguments_step : (q : Place) (ts : Tokens) (r : Found (List JsExpr)) → p.listed size turns expr stmt (codes ")") ts ≡ r → p.arguments size turns expr stmt (sign (codes "(") q ∷ ts) ≡ r
  unfolding p.arguments
  arguments_step q ts r k = rw (expect_same size 40 [] q ts, k) refl

  pub negative_step : (n : ℕ) (q r : Place) (rest : Tokens) → n ≤ greatest → p.head size turns expr stmt (sign (codes "-") q ∷ word (decimal n) r ∷ rest) ≡ Ok (H.Negative n, rest)
  unfolding p.head p.negative
  negative_step n q r rest k = rw (after_sign_same 45 [] q (word (decimal n) r ∷ rest), number_same size n r rest k) refl

  pub string_step : (us : List ℕ) (q : Place) (rest : Tokens) → p.head size turns expr stmt (quoted us q ∷ rest) ≡ Ok (H.Str us, rest)
  unfolding p.head p.string
  string_step us q rest = rw (string_same size us q rest) refl

  pub null_step : (q : Place) (rest : Tokens) → p.head size turns expr stmt (word (codes "null") q ∷ rest) ≡ Ok (H.Null, rest)
  unfolding p.head
  null_step q rest = rw (after_word_same 110 (codes "ull") q rest) refl

  pub undefined_step : (q : Place) (rest : Tokens) → p.head size turns expr stmt (word (codes "undefined") q ∷ rest) ≡ Ok (H.Undefined, rest)
  unfolding p.head
  undefined_step q rest = rw (after_word_same 117 (codes "ndefined") q rest) refl

  pub true_step : (q : Place) (rest : Tokens) → p.head size turns expr stmt (word (codes "true") q ∷ rest) ≡ Ok (H.True, rest)
  unfolding p.head
  true_step q rest = rw (after_word_same 116 (codes "rue") q rest) refl

  pub false_step : (q : Place) (rest : Tokens) → p.head size turns expr stmt (word (codes "false") q ∷ rest) ≡ Ok (H.False, rest)
  unfolding p.head
  false_step q rest = rw (after_word_same 102 (codes "alse") q rest) refl

  pub string_of_step : (xs : List JsExpr) (q : Place) (ts rest : Tokens) → p.arguments size turns expr stmt ts ≡ Ok (xs, rest) → p.head size turns expr stmt (word (codes "String") q ∷ ts) ≡ Ok (H.StringOf xs, rest)
  unfolding p.head p.string_of
  string_of_step xs q ts rest k = rw (after_word_same 83 (codes "tring") q ts, k) refl

  pub is_array_step : (xs : List JsExpr) (q r u : Place) (ts rest : Tokens) → p.arguments size turns expr stmt ts ≡ Ok (xs, rest)
      → p.head size turns expr stmt (word (codes "Array") q ∷ sign (codes ".") r ∷ word (codes "isArray") u ∷ ts) ≡ Ok (H.IsArray xs, rest)
  unfolding p.head p.of_array
  is_array_step xs q r u ts rest k =
      rw (after_word_same 65 (codes "rray") q (sign (codes ".") r ∷ word (codes "isArray") u ∷ ts), expect_same size 46 [] r (word (codes "isArray") u ∷ ts), after_word_same 105 (codes "sArray") u ts, k) refl

  pub array_from_step : (xs : List JsExpr) (q r u : Place) (ts rest : Tokens) → p.arguments size turns expr stmt ts ≡ Ok (xs, rest)
      → p.head size turns expr stmt (word (codes "Array") q ∷ sign (codes ".") r ∷ word (codes "from") u ∷ ts) ≡ Ok (H.ArrayFrom xs, rest)
  unfolding p.head p.of_array
  array_from_step xs q r u ts rest k =
      rw (after_word_same 65 (codes "rray") q (sign (codes ".") r ∷ word (codes "from") u ∷ ts), expect_same size 46 [] r (word (codes "from") u ∷ ts), expect_word_same size 102 (codes "rom") u ts, k) refl

  -- ---- selectors

  pub selectors_none : (n : ℕ) (found : List JsSelector) (ts : Tokens) → selects (sign_of ts) ≡ false → p.selectors_from size turns expr stmt (suc n) found ts ≡ Ok (found ++ [], ts)
  unfolding p.selectors_from
  selectors_none n found ts k = rw (k, append-nil found) refl

  pub selectors_on : (n : ℕ) (found : List JsSelector) (x : JsSelector) (ts mid : Tokens) (r : Found (List JsSelector)) → selects (sign_of ts) ≡ true → p.selector size turns expr stmt ts ≡ Ok (x, mid)
      → p.selectors_from size turns expr stmt n (found ++ x ∷ []) mid ≡ r → p.selectors_from size turns expr stmt (suc n) found ts ≡ r
  unfolding p.selectors_from
  selectors_on n found x ts mid r m k c = rw (m, k) c

  pub index_step : (a : JsExpr) (q r : Place) (ts mid : Tokens) → expr ts ≡ Ok (a, sign (codes "]") r ∷ mid) → p.selector size turns expr stmt (sign (codes "[") q ∷ ts) ≡ Ok (l.Index a, mid)
  unfolding p.selector p.index
  index_step a q r ts mid k = rw (after_sign_same 91 [] q ts, k, expect_same size 93 [] r mid) refl

  pub selectors_last : (xs : List JsSelector) (rest : Tokens) → selects (sign_of rest) ≡ false → (turn : ℕ) → length rest < turn → p.selectors_from size turns expr stmt turn xs rest ≡ Ok (xs, rest)
  unfolding p.selectors_from
  selectors_last xs rest c zero l = absurd (omega arith)
  selectors_last xs rest c (suc turn) l = rw c refl

  -- an index, and no other selector behind it
  pub index_last : (xs : List JsSelector) (b : JsExpr) (q r : Place) (after rest : Tokens) → expr after ≡ Ok (b, sign (codes "]") r ∷ rest) → selects (sign_of rest) ≡ false
      → (turn : ℕ) → length (sign (codes "[") q ∷ after) < turn → p.selectors_from size turns expr stmt turn xs (sign (codes "[") q ∷ after) ≡ Ok (xs ++ l.Index b ∷ [], rest)
  index_last xs b q r after rest k c zero m = absurd (omega arith)
  index_last xs b q r after rest k c (suc zero) m = absurd (omega arith)
  index_last xs b q r after rest k c (suc (suc turn)) m =
      selectors_on (suc turn) xs (l.Index b) (sign (codes "[") q ∷ after) rest (Ok (xs ++ l.Index b ∷ [], rest)) refl (index_step b q r after rest k)
      (selectors_none turn (xs ++ l.Index b ∷ []) rest c ∙ ap (λ (ys : List JsSelector). Ok (ys, rest)) (append-nil (xs ++ l.Index b ∷ [])))

  pub call_step : (xs : List JsExpr) (q : Place) (ts mid : Tokens) → p.arguments size turns expr stmt (sign (codes "(") q ∷ ts) ≡ Ok (xs, mid) → p.selector size turns expr stmt (sign (codes "(") q ∷ ts) ≡ Ok (l.Call xs, mid)
  unfolding p.selector p.call
  call_step xs q ts mid k = rw k refl

  pub member_step : (m : JsMember) (q r : Place) (ts : Tokens) → sign_is (codes "(") ts ≡ false → p.selector size turns expr stmt (sign (codes ".") q ∷ word (member_text m) r ∷ ts) ≡ Ok (l.Member m, ts)
  unfolding p.selector p.member
  member_step m q r ts k = rw (after_sign_same 46 [] q (word (member_text m) r ∷ ts), member_same size m r ts, k) refl

  pub method_step : (m : JsMember) (xs : List JsExpr) (q r u : Place) (ts mid : Tokens) → p.arguments size turns expr stmt (sign (codes "(") u ∷ ts) ≡ Ok (xs, mid)
      → p.selector size turns expr stmt (sign (codes ".") q ∷ word (member_text m) r ∷ sign (codes "(") u ∷ ts) ≡ Ok (l.Method m xs, mid)
  unfolding p.selector p.member
  method_step m xs q r u ts mid k = rw (after_sign_same 46 [] q (word (member_text m) r ∷ sign (codes "(") u ∷ ts), member_same size m r (sign (codes "(") u ∷ ts), k) refl

  pub primary_step : (a : JsHead) (xs : List JsSelector) (ts mid rest : Tokens) → p.head size turns expr stmt ts ≡ Ok (a, mid) → p.selectors_from size turns expr stmt turns [] mid ≡ Ok (xs, rest)
      → p.primary size turns expr stmt ts ≡ Ok (record { head = a; selectors = xs }, rest)
  unfolding p.primary
  primary_step a xs ts mid rest k m = rw (k, m) refl

  -- ---- expressions

  pub plain_step : (ts : Tokens) (r : Found JsExpr) → sign_is (codes "[") ts ≡ false → sign_is (codes "{") ts ≡ false → word_is (codes "typeof") ts ≡ false → word_is (codes "function") ts ≡ false → word_is (codes "new") ts ≡ false
      → p.plain size turns expr stmt ts ≡ r → p.expression size turns expr stmt ts ≡ r
  unfolding p.expression
  plain_step ts r a b c d m k = rw (a, b, c, d, m) k

  pub alone_step : (a : JsPrimary) (ts rest : Tokens) → p.primary size turns expr stmt ts ≡ Ok (a, rest) → operator_of (sign_of rest) ≡ None → p.plain size turns expr stmt ts ≡ Ok (e.Primary a, rest)
  unfolding p.plain
  alone_step a ts rest k m = rw (k, m) refl

  pub binary_step : (x : JsOperator) (a b : JsPrimary) (q : Place) (ts mid rest : Tokens) → p.primary size turns expr stmt ts ≡ Ok (a, sign (operator_text x) q ∷ mid) → p.primary size turns expr stmt mid ≡ Ok (b, rest)
      → p.plain size turns expr stmt ts ≡ Ok (e.Binary x a b, rest)
  unfolding p.plain
  binary_step x a b q ts mid rest k m = rw (k, operator_found x, operator_after x q mid, m) refl

  pub type_of_step : (a : JsPrimary) (q : Place) (ts rest : Tokens) → p.primary size turns expr stmt ts ≡ Ok (a, rest) → p.expression size turns expr stmt (word (codes "typeof") q ∷ ts) ≡ Ok (e.TypeOf a, rest)
  unfolding p.expression p.type_of
  type_of_step a q ts rest k = rw (after_word_same 116 (codes "ypeof") q ts, k) refl

  pub function_step : (a : JsFunction) (q : Place) (ts rest : Tokens) → p.function size turns expr stmt ts ≡ Ok (a, rest) → p.expression size turns expr stmt (word (codes "function") q ∷ ts) ≡ Ok (e.Function a, rest)
  unfolding p.expression p.function_value
  function_step a q ts rest k = rw (after_word_same 102 (codes "unction") q ts, k) refl

  pub new_map_step : (q r u v : Place) (rest : Tokens) → p.expression size turns expr stmt (word (codes "new") q ∷ word (codes "Map") r ∷ sign (codes "(") u ∷ sign (codes ")") v ∷ rest) ≡ Ok (e.NewMap, rest)
  unfolding p.expression p.new_map
  new_map_step q r u v rest =
      rw (
        after_word_same 110 (codes "ew") q (word (codes "Map") r ∷ sign (codes "(") u ∷ sign (codes ")") v ∷ rest),
        expect_word_same size 77 (codes "ap") r (sign (codes "(") u ∷ sign (codes ")") v ∷ rest),
        expect_same size 40 [] u (sign (codes ")") v ∷ rest),
        expect_same size 41 [] v rest,
      ) refl

  pub array_step : (xs : List JsExpr) (q : Place) (ts rest : Tokens) → p.listed size turns expr stmt (codes "]") ts ≡ Ok (xs, rest) → p.expression size turns expr stmt (sign (codes "[") q ∷ ts) ≡ Ok (e.Array xs, rest)
  unfolding p.expression p.array
  array_step xs q ts rest k = rw (after_sign_same 91 [] q ts, k) refl

  pub no_entries_step : (q r : Place) (rest : Tokens) → p.expression size turns expr stmt (sign (codes "{") q ∷ sign (codes "}") r ∷ rest) ≡ Ok (e.Object [], rest)
  unfolding p.expression p.object
  no_entries_step q r rest = rw (after_sign_same 123 [] q (sign (codes "}") r ∷ rest), after_sign_same 125 [] r rest) refl

  pub object_step : (xs : List JsEntry) (q r : Place) (ts rest : Tokens) → sign_is (codes "}") ts ≡ false → p.entries_from size turns expr stmt turns [] ts ≡ Ok (xs, sign (codes "}") r ∷ rest)
      → p.expression size turns expr stmt (sign (codes "{") q ∷ ts) ≡ Ok (e.Object xs, rest)
  unfolding p.expression p.object
  object_step xs q r ts rest m k = rw (after_sign_same 123 [] q ts, m, k, expect_same size 125 [] r rest) refl

  pub entries_last : (n : ℕ) (found : List JsEntry) (us : List ℕ) (a : JsExpr) (q r : Place) (ts rest : Tokens) → expr ts ≡ Ok (a, rest) → sign_is (codes ",") rest ≡ false
      → p.entries_from size turns expr stmt (suc n) found (quoted us q ∷ sign (codes ":") r ∷ ts) ≡ Ok (found ++ record { key = us; value = a } ∷ [], rest)
  unfolding p.entries_from p.entry
  entries_last n found us a q r ts rest k c = rw (string_same size us q (sign (codes ":") r ∷ ts), expect_same size 58 [] r ts, k, c) refl

  pub entries_more : (n : ℕ) (found xs : List JsEntry) (us : List ℕ) (a : JsExpr) (q r u : Place) (ts mid rest : Tokens) → expr ts ≡ Ok (a, sign (codes ",") u ∷ mid)
      → p.entries_from size turns expr stmt n (found ++ record { key = us; value = a } ∷ []) mid ≡ Ok ((found ++ record { key = us; value = a } ∷ []) ++ xs, rest)
      → p.entries_from size turns expr stmt (suc n) found (quoted us q ∷ sign (codes ":") r ∷ ts) ≡ Ok (found ++ record { key = us; value = a } ∷ xs, rest)
  unfolding p.entries_from p.entry
  entries_more n found xs us a q r u ts mid rest k c =
      rw (string_same size us q (sign (codes ":") r ∷ ts), expect_same size 58 [] r ts, k, after_sign_same 44 [] u mid, c, append_assoc found (record { key = us; value = a } ∷ []) xs) refl

  -- ---- blocks

  pub stmts_done : (n : ℕ) (names : Names) (found : List JsStmt) (ts : Tokens) → sign_is (codes "}") ts ≡ true → p.stmts_from size turns expr stmt (suc n) names found ts ≡ Ok (found ++ [], after_sign ts)
  unfolding p.stmts_from
  stmts_done n names found ts k = rw (k, append-nil found) refl

  pub stmts_more : (n : ℕ) (names next : Names) (found xs : List JsStmt) (x : JsStmt) (ts mid rest : Tokens) → sign_is (codes "}") ts ≡ false → p.named_stmt size turns expr stmt names ts ≡ Ok ((x, next), mid)
      → p.stmts_from size turns expr stmt n next (found ++ x ∷ []) mid ≡ Ok ((found ++ x ∷ []) ++ xs, rest) → p.stmts_from size turns expr stmt (suc n) names found ts ≡ Ok (found ++ x ∷ xs, rest)
  unfolding p.stmts_from
  stmts_more n names next found xs x ts mid rest m k c = rw (m, k, c, append_assoc found (x ∷ []) xs) refl

  pub block_step : (names : Names) (xs : List JsStmt) (q : Place) (ts rest : Tokens) → p.stmts_from size turns expr stmt turns names [] ts ≡ Ok (xs, rest) → p.block size turns expr stmt names (sign (codes "{") q ∷ ts) ≡ Ok (xs, rest)
  unfolding p.block
  block_step names xs q ts rest k = rw (expect_same size 123 [] q ts, k) refl

  pub function_of_step : (ps names : Names) (xs : List JsStmt) (ts mid rest : Tokens) → p.parameters size turns ts ≡ Ok ((ps, names), mid) → p.block size turns expr stmt names mid ≡ Ok (xs, rest)
      → p.function size turns expr stmt ts ≡ Ok (record { parameters = ps; body = xs }, rest)
  unfolding p.function
  function_of_step ps names xs ts mid rest k m = rw (k, m) refl

  pub let_step : (names : Names) (x : Bytes) (a : JsExpr) (q r u v : Place) (ts rest : Tokens) → is_name x ≡ true → is_among names x ≡ false → expr ts ≡ Ok (a, sign (codes ";") v ∷ rest)
      → p.named_stmt size turns expr stmt names (word (codes "let") q ∷ word x r ∷ sign (codes "=") u ∷ ts) ≡ Ok ((s.Let q.from x a, x ∷ names), rest)
  unfolding p.named_stmt
  let_step names x a q r u v ts rest m c k =
      rw (after_word_same 108 (codes "et") q (word x r ∷ sign (codes "=") u ∷ ts), fresh_same size names x r (sign (codes "=") u ∷ ts) m c, expect_same size 61 [] u ts, k, expect_same size 59 [] v rest) refl

  pub other_step : (names : Names) (a : JsStmt) (ts rest : Tokens) → word_is (codes "let") ts ≡ false → stmt ts ≡ Ok (a, rest) → p.named_stmt size turns expr stmt names ts ≡ Ok ((a, names), rest)
  unfolding p.named_stmt
  other_step names a ts rest m k = rw (m, k) refl

  -- ---- statements

  -- a statement of a primary expression begins with no word of the others
  pub simple_step : (ts : Tokens) (r : Found JsStmt) → word_is (codes "if") ts ≡ false → word_is (codes "return") ts ≡ false → word_is (codes "while") ts ≡ false → word_is (codes "break") ts ≡ false → word_is (codes "throw") ts ≡ false
      → word_is (codes "try") ts ≡ false → p.simple size turns expr stmt ts ≡ r → p.statement size turns expr stmt ts ≡ r
  unfolding p.statement
  simple_step ts r a b c d m n k = rw (a, b, c, d, m, n) k

  pub assign_step : (x : Bytes) (a : JsExpr) (q r u : Place) (ts rest : Tokens) → p.primary size turns expr stmt (word x q ∷ sign (codes "=") r ∷ ts) ≡ Ok (record { head = H.Name x; selectors = [] }, sign (codes "=") r ∷ ts)
      → expr ts ≡ Ok (a, sign (codes ";") u ∷ rest) → p.simple size turns expr stmt (word x q ∷ sign (codes "=") r ∷ ts) ≡ Ok (s.Assign q.from x a, rest)
  unfolding p.simple p.assigned p.target_of
  assign_step x a q r u ts rest m k = rw (m, after_sign_same 61 [] r ts, k, expect_same size 59 [] u rest) refl

  pub label_step : (x : Bytes) (xs : List JsStmt) (q r : Place) (ts rest : Tokens) → p.primary size turns expr stmt (word x q ∷ sign (codes ":") r ∷ ts) ≡ Ok (record { head = H.Name x; selectors = [] }, sign (codes ":") r ∷ ts)
      → p.block size turns expr stmt [] ts ≡ Ok (xs, rest) → p.simple size turns expr stmt (word x q ∷ sign (codes ":") r ∷ ts) ≡ Ok (s.Labelled q.from x xs, rest)
  unfolding p.simple p.labelled p.target_of
  label_step x xs q r ts rest m k = rw (m, after_sign_same 58 [] r ts, k) refl

  pub aimed : (a : JsHead) (xs : List JsSelector) (b : JsExpr) → p.target_of (record { head = a; selectors = xs ++ l.Index b ∷ [] }) ≡ t.Slot (record { head = a; selectors = xs }) b
  unfolding p.target_of
  aimed a xs b = ap (p.target_by a) (last_one xs (l.Index b)) ∙ slot_index a xs b

  pub slot_value : (at : ℕ) (a : JsPrimary) (b c : JsExpr) (r u : Place) (late rest : Tokens) → expr late ≡ Ok (c, sign (codes ";") u ∷ rest) → p.assigned size turns expr stmt at (t.Slot a b) (sign (codes "=") r ∷ late) ≡ Ok (s.Store at a b c, rest)
  unfolding p.assigned
  slot_value at a b c r u late rest k = rw (after_sign_same 61 [] r late, k, expect_same size 59 [] u rest) refl

  pub store_step : (a : JsHead) (xs : List JsSelector) (b c : JsExpr) (r u : Place) (ts late rest : Tokens) → p.primary size turns expr stmt ts ≡ Ok (record { head = a; selectors = xs ++ l.Index b ∷ [] }, sign (codes "=") r ∷ late)
      → expr late ≡ Ok (c, sign (codes ";") u ∷ rest) → p.simple size turns expr stmt ts ≡ Ok (s.Store (place size ts) (record { head = a; selectors = xs }) b c, rest)
  unfolding p.simple
  store_step a xs b c r u ts late rest m k =
      rw m (subst (λ (x : Target). p.assigned size turns expr stmt (place size ts) x (sign (codes "=") r ∷ late) ≡ Ok (s.Store (place size ts) (record { head = a; selectors = xs }) b c, rest)) (sym (aimed a xs b))
      (slot_value (place size ts) (record { head = a; selectors = xs }) b c r u late rest k))

  pub perform_step : (a : JsPrimary) (r : Place) (ts rest : Tokens) → p.primary size turns expr stmt ts ≡ Ok (a, sign (codes ";") r ∷ rest) → p.simple size turns expr stmt ts ≡ Ok (s.Perform (place size ts) a, rest)
  unfolding p.simple p.performed
  perform_step a r ts rest k = rw (k, expect_same size 59 [] r rest) refl

  pub if_step : (a : JsExpr) (xs : List JsStmt) (q r u : Place) (ts mid rest : Tokens) → expr ts ≡ Ok (a, sign (codes ")") u ∷ mid) → p.block size turns expr stmt [] mid ≡ Ok (xs, rest) → word_is (codes "else") rest ≡ false
      → p.statement size turns expr stmt (word (codes "if") q ∷ sign (codes "(") r ∷ ts) ≡ Ok (s.If q.from a xs, rest)
  unfolding p.statement p.when p.condition
  if_step a xs q r u ts mid rest k m c =
      rw (after_word_same 105 (codes "f") q (sign (codes "(") r ∷ ts), expect_same size 40 [] r ts, k, expect_same size 41 [] u mid, m, c) refl

  pub if_else_step : (a : JsExpr) (xs ys : List JsStmt) (q r u v : Place) (ts mid after rest : Tokens) → expr ts ≡ Ok (a, sign (codes ")") u ∷ mid) → p.block size turns expr stmt [] mid ≡ Ok (xs, word (codes "else") v ∷ after)
      → p.block size turns expr stmt [] after ≡ Ok (ys, rest) → p.statement size turns expr stmt (word (codes "if") q ∷ sign (codes "(") r ∷ ts) ≡ Ok (s.IfElse q.from a xs ys, rest)
  unfolding p.statement p.when p.condition
  if_else_step a xs ys q r u v ts mid after rest k m c =
      rw (after_word_same 105 (codes "f") q (sign (codes "(") r ∷ ts), expect_same size 40 [] r ts, k, expect_same size 41 [] u mid, m, after_word_same 101 (codes "lse") v after, c) refl

  pub loop_step : (xs : List JsStmt) (q r u v : Place) (ts rest : Tokens) → p.block size turns expr stmt [] ts ≡ Ok (xs, rest)
      → p.statement size turns expr stmt (word (codes "while") q ∷ sign (codes "(") r ∷ word (codes "true") u ∷ sign (codes ")") v ∷ ts) ≡ Ok (s.Loop q.from xs, rest)
  unfolding p.statement p.repeat
  loop_step xs q r u v ts rest k =
      rw (
        after_word_same 119 (codes "hile") q (sign (codes "(") r ∷ word (codes "true") u ∷ sign (codes ")") v ∷ ts),
        expect_same size 40 [] r (word (codes "true") u ∷ sign (codes ")") v ∷ ts),
        expect_word_same size 116 (codes "rue") u (sign (codes ")") v ∷ ts),
        expect_same size 41 [] v ts,
        k,
      ) refl

  pub on_line_same : (ts : Tokens) → on_new_line ts ≡ false → on_line size ts ≡ Ok ts
  unfolding on_line
  on_line_same ts k = ap (λ (b : Bool). cond b (Err (place size ts)) (Ok ts)) k

  pub break_step : (x : Bytes) (q r u : Place) (rest : Tokens) → is_name x ≡ true → r.on_new_line ≡ false → p.statement size turns expr stmt (word (codes "break") q ∷ word x r ∷ sign (codes ";") u ∷ rest) ≡ Ok (s.Break q.from x, rest)
  unfolding p.statement p.leave
  break_step x q r u rest m k =
      rw (after_word_same 98 (codes "reak") q (word x r ∷ sign (codes ";") u ∷ rest), on_line_same (word x r ∷ sign (codes ";") u ∷ rest) k, name_same size x r (sign (codes ";") u ∷ rest) m, expect_same size 59 [] u rest) refl

  pub return_step : (a : JsExpr) (q r : Place) (ts rest : Tokens) → on_new_line ts ≡ false → expr ts ≡ Ok (a, sign (codes ";") r ∷ rest) → p.statement size turns expr stmt (word (codes "return") q ∷ ts) ≡ Ok (s.Return q.from a, rest)
  unfolding p.statement p.returned
  return_step a q r ts rest m k = rw (after_word_same 114 (codes "eturn") q ts, on_line_same ts m, k, expect_same size 59 [] r rest) refl

  pub throw_step : (a : JsExpr) (q r : Place) (ts rest : Tokens) → on_new_line ts ≡ false → expr ts ≡ Ok (a, sign (codes ";") r ∷ rest) → p.statement size turns expr stmt (word (codes "throw") q ∷ ts) ≡ Ok (s.Throw q.from a, rest)
  unfolding p.statement p.thrown
  throw_step a q r ts rest m k = rw (after_word_same 116 (codes "hrow") q ts, on_line_same ts m, k, expect_same size 59 [] r rest) refl

  pub catch_step : (x : Bytes) (xs ys : List JsStmt) (q r u v w : Place) (ts mid rest : Tokens) → is_name x ≡ true
      → p.block size turns expr stmt [] ts ≡ Ok (xs, word (codes "catch") r ∷ sign (codes "(") u ∷ word x v ∷ sign (codes ")") w ∷ mid) → p.block size turns expr stmt (x ∷ []) mid ≡ Ok (ys, rest)
      → p.statement size turns expr stmt (word (codes "try") q ∷ ts) ≡ Ok (s.TryCatch q.from xs x ys, rest)
  unfolding p.statement p.tried p.caught
  catch_step x xs ys q r u v w ts mid rest m k c =
      rw (
        after_word_same 116 (codes "ry") q ts,
        k,
        after_word_same 99 (codes "atch") r (sign (codes "(") u ∷ word x v ∷ sign (codes ")") w ∷ mid),
        expect_same size 40 [] u (word x v ∷ sign (codes ")") w ∷ mid),
        fresh_same size [] x v (sign (codes ")") w ∷ mid) m refl,
        expect_same size 41 [] w mid,
        c,
      ) refl

  pub finally_step : (xs ys : List JsStmt) (q r : Place) (ts mid rest : Tokens) → p.block size turns expr stmt [] ts ≡ Ok (xs, word (codes "finally") r ∷ mid) → p.block size turns expr stmt [] mid ≡ Ok (ys, rest)
      → p.statement size turns expr stmt (word (codes "try") q ∷ ts) ≡ Ok (s.TryFinally q.from xs ys, rest)
  unfolding p.statement p.tried p.finished
  finally_step xs ys q r ts mid rest k c = rw (after_word_same 116 (codes "ry") q ts, k, expect_word_same size 102 (codes "inally") r mid, c) refl

  -- ---- items

  pub items_done : (n : ℕ) (names : Names) (found : List JsItem) → p.items_from size turns expr stmt (suc n) names found [] ≡ Ok (found ++ [])
  unfolding p.items_from
  items_done n names found = rw (append-nil found) refl

  pub items_more : (n : ℕ) (names next : Names) (found xs : List JsItem) (x : JsItem) (ts mid : Tokens) → is_end ts ≡ false → p.item size turns expr stmt names ts ≡ Ok ((x, next), mid)
      → p.items_from size turns expr stmt n next (found ++ x ∷ []) mid ≡ Ok ((found ++ x ∷ []) ++ xs) → p.items_from size turns expr stmt (suc n) names found ts ≡ Ok (found ++ x ∷ xs)
  unfolding p.items_from
  items_more n names next found xs x ts mid m k c = rw (m, k, c, append_assoc found (x ∷ []) xs) refl

  pub declared_step : (names : Names) (x : Bytes) (a : JsFunction) (q r : Place) (ts rest : Tokens) → is_name x ≡ true → is_among names x ≡ false → p.function size turns expr stmt ts ≡ Ok (a, rest)
      → p.item size turns expr stmt names (word (codes "function") q ∷ word x r ∷ ts) ≡ Ok ((i.Declared x a, x ∷ names), rest)
  unfolding p.item p.declared_function
  declared_step names x a q r ts rest m c k = rw (after_word_same 102 (codes "unction") q (word x r ∷ ts), fresh_same size names x r ts m c, k) refl

  pub var_step : (names : Names) (x : Bytes) (a : JsExpr) (q r u v : Place) (ts rest : Tokens) → is_name x ≡ true → is_among names x ≡ false → expr ts ≡ Ok (a, sign (codes ";") v ∷ rest)
      → p.item size turns expr stmt names (word (codes "var") q ∷ word x r ∷ sign (codes "=") u ∷ ts) ≡ Ok ((i.Var q.from x a, x ∷ names), rest)
  unfolding p.item p.variable
  var_step names x a q r u v ts rest m c k =
      rw (after_word_same 118 (codes "ar") q (word x r ∷ sign (codes "=") u ∷ ts), fresh_same size names x r (sign (codes "=") u ∷ ts) m c, expect_same size 61 [] u ts, k, expect_same size 59 [] v rest) refl

  pub item_stmt_step : (names next : Names) (a : JsStmt) (ts rest : Tokens) → word_is (codes "function") ts ≡ false → word_is (codes "var") ts ≡ false → p.named_stmt size turns expr stmt names ts ≡ Ok ((a, next), rest)
      → p.item size turns expr stmt names ts ≡ Ok ((i.Statement a, next), rest)
  unfolding p.item p.item_stmt
  item_stmt_step names next a ts rest m c k = rw (m, c, k) refl
