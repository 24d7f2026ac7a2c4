-- What is derived is parsed: all forms together.
use Rattle.std.proofs.Common.{◌≡◌, ℕ, zero, suc, ◌<◌, ◌≤◌, true, false, List, [], ◌∷◌, ◌++◌, length, Ok, refl, sym, ap, ◌∙◌, subst, arith, append_assoc}
use Rattle.std.specs.Prelude.{codes}
use Rattle.std.proofs.lemmas.List.{append-nil}
use Rattle.js_tree.specs.declared.tree.JsExpr.{JsExpr}
use Rattle.js_tree.specs.declared.tree.JsHead.{JsHead}
use Rattle.js_tree.specs.declared.tree.JsHead.TheVariants as H
use Rattle.js_tree.specs.declared.tree.JsSelector.{JsSelector}
use Rattle.js_tree.specs.declared.tree.JsSelector.TheVariants as L
use Rattle.js_tree.specs.declared.tree.JsPrimary.{JsPrimary}
use Rattle.js_tree.specs.declared.tree.JsFunction.{JsFunction}
use Rattle.js_tree.specs.declared.tree.JsEntry.{JsEntry}
use Rattle.js_tree.specs.declared.tree.JsStmt.{JsStmt}
use Rattle.js_tree.specs.declared.tree.JsStmt.TheVariants as s
use Rattle.js_tree.specs.declared.tree.JsItem.{JsItem}
use Rattle.js_tree.specs.declared.tree.JsItem.TheVariants as i
use Rattle.js_tree.specs.Words.{member_text}
use Rattle.js_tree.specs.Tokens.{Bytes, Place, Tokens}
use Rattle.js_tree.specs.Grammar as g
use Rattle.js_tree.specs.Grammar.{word, quoted, sign, start, next_is, Names, is_name, is_among, greatest, declared, AreNames, AreParameters, IsExpr, AreEntries, AreExprs, AreListed, AreArguments, IsPrimary, IsHead, AreSelectors, IsFunction, IsBlock, AreStmts, IsStmt, AreItems}
use Rattle.js_reader.specs.Taking.{Found, place, is_end, sign_of, after_sign, sign_is, word_is}
use Rattle.js_reader.specs.Parsing as p
use Rattle.js_reader.specs.Parsing.{literal_of, selects, expr_at, stmt_at}
use Rattle.js_reader.proofs.Fronted.{sign_next, after_sign_same, next_is_sign}
use Rattle.js_reader.proofs.Firsts as f
use Rattle.js_reader.proofs.Firsts.{head_word, primary_word, primary_sign, expr_sign, exprs_sign, word_not, name_begins, digits_begin}
use Rattle.js_reader.proofs.Alike.{IsSame, same_stmt, same_more}
use Rattle.js_reader.proofs.Steps as u
use Rattle.js_reader.proofs.Steps.{Ends}

some_tokens : (ts rest : Tokens) → length rest < length ts → is_end ts ≡ false
some_tokens [] rest l = absurd (omega arith)
some_tokens (t ∷ ts) rest l = refl

start_place : (size : ℕ) (ts rest : Tokens) → length rest < length ts → place size ts ≡ start ts
start_place size [] rest l = absurd (omega arith)
start_place size (t ∷ ts) rest l = refl

entries_no_close : {xs : List JsEntry} {ts rest : Tokens} → AreEntries ts xs rest → sign_is (codes "}") ts ≡ false
entries_no_close (g.last_entry d) = refl
entries_no_close (g.more_entries d x) = refl

sign_no_word : (ts : Tokens) → sign_is (codes "}") ts ≡ true → word_is (codes "else") ts ≡ false
sign_no_word ts c = ap (word_is (codes "else")) (sign_next 125 [] ts c).1

same_declared : {names : Names} {a : JsStmt} {ts rest : Tokens} (others : Names) → IsStmt names ts a rest → IsSame others names → IsSame (declared a others) (declared a names)
same_declared {names} others d same y = sym ((same_stmt names others (λ z. sym (same z)) d).1 y)

module _ (size : ℕ) where
  plain_is : {a : JsPrimary} {ts rest : Tokens} → IsPrimary ts a rest → (n : ℕ) (r : Found JsExpr) → p.plain size (suc n) (expr_at size n) (stmt_at size n) ts ≡ r → p.expression size (suc n) (expr_at size n) (stmt_at size n) ts ≡ r
  plain_is {ts = ts} d n r k =
      u.plain_step size (suc n) (expr_at size n) (stmt_at size n) ts r (primary_sign d 91 [] refl) (primary_sign d 123 [] refl) (primary_word d 116 (codes "ypeof") refl) (primary_word d 102 (codes "unction") refl) (primary_word d 110 (codes "ew") refl) k

  -- a statement that declares nothing
  other : (n t : ℕ) (others : Names) (a : JsStmt) (ts rest : Tokens) → word_is (codes "let") ts ≡ false → declared a others ≡ others → p.statement size (suc n) (expr_at size n) (stmt_at size n) ts ≡ Ok (a, rest)
      → p.named_stmt size t (expr_at size (suc n)) (stmt_at size (suc n)) others ts ≡ Ok ((a, declared a others), rest)
  other n t others a ts rest c e k =
      u.other_step size t (expr_at size (suc n)) (stmt_at size (suc n)) others a ts rest c (u.stmt_up size n ts (Ok (a, rest)) k) ∙ ap (λ (ns : Names). Ok ((a, ns), rest)) (sym e)

  -- one that begins with a primary expression
  simple : (n t : ℕ) (others : Names) (a : JsStmt) (ts rest : Tokens) → ((c : ℕ) (more : Bytes) → f.begins_head (c ∷ more) ≡ false → word_is (c ∷ more) ts ≡ false) → declared a others ≡ others
      → p.simple size (suc n) (expr_at size n) (stmt_at size n) ts ≡ Ok (a, rest) → p.named_stmt size t (expr_at size (suc n)) (stmt_at size (suc n)) others ts ≡ Ok ((a, declared a others), rest)
  simple n t others a ts rest absent e k =
      other n t others a ts rest (absent 108 (codes "et") refl) e
      (u.simple_step size (suc n) (expr_at size n) (stmt_at size n) ts (Ok (a, rest)) (absent 105 (codes "f") refl) (absent 114 (codes "eturn") refl) (absent 119 (codes "hile") refl) (absent 98 (codes "reak") refl) (absent 116 (codes "hrow") refl) (absent 116 (codes "ry") refl) k)

  -- a name alone
  name_alone : (n : ℕ) (x : Bytes) (q : Place) (rest : Tokens) → is_name x ≡ true → selects (sign_of rest) ≡ false → p.primary size (suc n) (expr_at size n) (stmt_at size n) (word x q ∷ rest) ≡ Ok (record { head = H.Name x; selectors = [] }, rest)
  name_alone n x q rest m c = u.primary_step size (suc n) (expr_at size n) (stmt_at size n) (H.Name x) [] (word x q ∷ rest) rest rest (u.name_head size (suc n) (expr_at size n) (stmt_at size n) x q rest m) (u.selectors_none size (suc n) (expr_at size n) (stmt_at size n) n [] rest c)

  mutual
    pub exprs_complete : {xs : List JsExpr} {ts rest : Tokens} → AreExprs ts xs rest → (t n turns : ℕ) (found : List JsExpr) → length ts < n → length ts ≤ turns → sign_is (codes ",") rest ≡ false → Ends rest
        → p.exprs_from size t (expr_at size n) (stmt_at size n) turns found ts ≡ Ok (found ++ xs, rest)
    exprs_complete (g.last_expr d) t n zero found k m c w = absurd (omega (arith, f.expr_shrinks d))
    exprs_complete (g.last_expr {a = a} {ts = ts} {rest = rest} d) t n (suc turns) found k m c w = u.exprs_last size t (expr_at size n) (stmt_at size n) turns found a ts rest (expr_complete d n k w) c
    exprs_complete (g.more_exprs d x) t n zero found k m c w = absurd (omega (arith, f.expr_shrinks d))
    exprs_complete (g.more_exprs {a = a} {xs = xs} {p = q} {ts = ts} {mid = mid} {rest = rest} d x) t n (suc turns) found k m c w =
        u.exprs_more size t (expr_at size n) (stmt_at size n) turns found xs a q ts mid rest (expr_complete d n k (record { no_selector = refl; no_operator = refl }))
        (exprs_complete x t n turns (found ++ a ∷ []) (omega (arith, f.expr_shrinks d)) (omega (arith, f.expr_shrinks d)) c w)

    pub round_complete : {xs : List JsExpr} {ts rest : Tokens} → AreListed (codes ")") ts xs rest → (t n : ℕ) → length ts < n → length ts ≤ t → p.listed size t (expr_at size n) (stmt_at size n) (codes ")") ts ≡ Ok (xs, rest)
    round_complete (g.no_items {p = q} {rest = rest}) t n k m = u.listed_none size t (expr_at size n) (stmt_at size n) 41 q rest
    round_complete (g.items {xs = xs} {p = q} {ts = ts} {rest = rest} d) t n k m =
        u.listed_some size t (expr_at size n) (stmt_at size n) 41 xs q ts rest (exprs_sign d 41 [] refl) (exprs_complete d t n t [] k m refl (record { no_selector = refl; no_operator = refl }))

    pub square_complete : {xs : List JsExpr} {ts rest : Tokens} → AreListed (codes "]") ts xs rest → (t n : ℕ) → length ts < n → length ts ≤ t → p.listed size t (expr_at size n) (stmt_at size n) (codes "]") ts ≡ Ok (xs, rest)
    square_complete (g.no_items {p = q} {rest = rest}) t n k m = u.listed_none size t (expr_at size n) (stmt_at size n) 93 q rest
    square_complete (g.items {xs = xs} {p = q} {ts = ts} {rest = rest} d) t n k m =
        u.listed_some size t (expr_at size n) (stmt_at size n) 93 xs q ts rest (exprs_sign d 93 [] refl) (exprs_complete d t n t [] k m refl (record { no_selector = refl; no_operator = refl }))

    pub arguments_complete : {xs : List JsExpr} {ts rest : Tokens} → AreArguments ts xs rest → (t n : ℕ) → length ts ≤ n → length ts ≤ t → p.arguments size t (expr_at size n) (stmt_at size n) ts ≡ Ok (xs, rest)
    arguments_complete (g.arguments {xs = xs} {p = q} {ts = ts} {rest = rest} d) t n k m = u.arguments_step size t (expr_at size n) (stmt_at size n) q ts (Ok (xs, rest)) (round_complete d t n (omega arith) (omega arith))

    pub head_complete : {a : JsHead} {ts rest : Tokens} → IsHead ts a rest → (t n : ℕ) → length ts ≤ n → length ts ≤ t → p.head size t (expr_at size n) (stmt_at size n) ts ≡ Ok (a, rest)
    head_complete (g.name {x = x} {p = q} {rest = rest} m) t n k l = u.name_head size t (expr_at size n) (stmt_at size n) x q rest m
    head_complete (g.digits {n = v} {p = q} {rest = rest} m) t n k l = u.digits_head size t (expr_at size n) (stmt_at size n) v q rest m
    head_complete (g.negative {n = v} {p = q} {q = r} {rest = rest} m) t n k l = u.negative_step size t (expr_at size n) (stmt_at size n) v q r rest m
    head_complete (g.string {us = us} {p = q} {rest = rest}) t n k l = u.string_step size t (expr_at size n) (stmt_at size n) us q rest
    head_complete (g.null {p = q} {rest = rest}) t n k l = u.null_step size t (expr_at size n) (stmt_at size n) q rest
    head_complete (g.undefined {p = q} {rest = rest}) t n k l = u.undefined_step size t (expr_at size n) (stmt_at size n) q rest
    head_complete (g.true' {p = q} {rest = rest}) t n k l = u.true_step size t (expr_at size n) (stmt_at size n) q rest
    head_complete (g.false' {p = q} {rest = rest}) t n k l = u.false_step size t (expr_at size n) (stmt_at size n) q rest
    head_complete (g.string_of {xs = xs} {p = q} {ts = ts} {rest = rest} d) t n k l =
        u.string_of_step size t (expr_at size n) (stmt_at size n) xs q ts rest (arguments_complete d t n (omega arith) (omega arith))
    head_complete (g.is_array {xs = xs} {p = q} {q = r} {r = v} {ts = ts} {rest = rest} d) t n k l =
        u.is_array_step size t (expr_at size n) (stmt_at size n) xs q r v ts rest (arguments_complete d t n (omega arith) (omega arith))
    head_complete (g.array_from {xs = xs} {p = q} {q = r} {r = v} {ts = ts} {rest = rest} d) t n k l =
        u.array_from_step size t (expr_at size n) (stmt_at size n) xs q r v ts rest (arguments_complete d t n (omega arith) (omega arith))

    -- selectors, and then what is answered behind them
    pub selectors_then : {xs : List JsSelector} {ts rest : Tokens} → AreSelectors ts xs rest → (t n turns : ℕ) (found : List JsSelector) (r : Found (List JsSelector)) → length ts ≤ n → length ts ≤ t → length ts < turns
        → ((turn : ℕ) → length rest < turn → p.selectors_from size t (expr_at size n) (stmt_at size n) turn (found ++ xs) rest ≡ r) → p.selectors_from size t (expr_at size n) (stmt_at size n) turns found ts ≡ r
    selectors_then (g.no_selectors {ts = ts}) t n turns found r k l m c =
        subst (λ (ys : List JsSelector). p.selectors_from size t (expr_at size n) (stmt_at size n) turns ys ts ≡ r) (append-nil found) (c turns m)
    selectors_then (g.index x d) t n zero found r k l m c = absurd (omega arith)
    selectors_then (g.index {a = a} {xs = xs} {p = q} {q = v} {ts = ts} {mid = mid} {rest = rest} x d) t n (suc turns) found r k l m c =
        u.selectors_on size t (expr_at size n) (stmt_at size n) turns found (L.Index a) (sign (codes "[") q ∷ ts) mid r refl
        (u.index_step size t (expr_at size n) (stmt_at size n) a q v ts mid (expr_complete x n (omega arith) (record { no_selector = refl; no_operator = refl })))
        (selectors_then d t n turns (found ++ L.Index a ∷ []) r (omega (arith, f.expr_shrinks x)) (omega (arith, f.expr_shrinks x)) (omega (arith, f.expr_shrinks x))
        (λ w z. subst (λ (ys : List JsSelector). p.selectors_from size t (expr_at size n) (stmt_at size n) w ys rest ≡ r) (sym (append_assoc found (L.Index a ∷ []) xs)) (c w z)))
    selectors_then (g.call x d) t n zero found r k l m c = absurd (omega (arith, f.arguments_shrink x))
    selectors_then (g.call {args = args} {xs = xs} {mid = mid} {rest = rest} (g.arguments {p = q} {ts = ts} x) d) t n (suc turns) found r k l m c =
        u.selectors_on size t (expr_at size n) (stmt_at size n) turns found (L.Call args) (sign (codes "(") q ∷ ts) mid r refl
        (u.call_step size t (expr_at size n) (stmt_at size n) args q ts mid (u.arguments_step size t (expr_at size n) (stmt_at size n) q ts (Ok (args, mid)) (round_complete x t n (omega arith) (omega arith))))
        (selectors_then d t n turns (found ++ L.Call args ∷ []) r (omega (arith, f.listed_shrinks x)) (omega (arith, f.listed_shrinks x)) (omega (arith, f.listed_shrinks x))
        (λ w z. subst (λ (ys : List JsSelector). p.selectors_from size t (expr_at size n) (stmt_at size n) w ys rest ≡ r) (sym (append_assoc found (L.Call args ∷ []) xs)) (c w z)))
    selectors_then (g.member x d) t n zero found r k l m c = absurd (omega arith)
    selectors_then (g.member {m = v} {xs = xs} {p = q} {q = o} {ts = ts} {rest = rest} x d) t n (suc turns) found r k l m c =
        u.selectors_on size t (expr_at size n) (stmt_at size n) turns found (L.Member v) (sign (codes ".") q ∷ word (member_text v) o ∷ ts) ts r refl
        (u.member_step size t (expr_at size n) (stmt_at size n) v q o ts (sym (next_is_sign 40 [] ts) ∙ x))
        (selectors_then d t n turns (found ++ L.Member v ∷ []) r (omega arith) (omega arith) (omega arith)
        (λ w z. subst (λ (ys : List JsSelector). p.selectors_from size t (expr_at size n) (stmt_at size n) w ys rest ≡ r) (sym (append_assoc found (L.Member v ∷ []) xs)) (c w z)))
    selectors_then (g.method x d) t n zero found r k l m c = absurd (omega arith)
    selectors_then (g.method {m = v} {args = args} {xs = xs} {p = q} {q = o} {mid = mid} {rest = rest} (g.arguments {p = b} {ts = ts} x) d) t n (suc turns) found r k l m c =
        u.selectors_on size t (expr_at size n) (stmt_at size n) turns found (L.Method v args) (sign (codes ".") q ∷ word (member_text v) o ∷ sign (codes "(") b ∷ ts) mid r refl
        (u.method_step size t (expr_at size n) (stmt_at size n) v args q o b ts mid (u.arguments_step size t (expr_at size n) (stmt_at size n) b ts (Ok (args, mid)) (round_complete x t n (omega arith) (omega arith))))
        (selectors_then d t n turns (found ++ L.Method v args ∷ []) r (omega (arith, f.listed_shrinks x)) (omega (arith, f.listed_shrinks x)) (omega (arith, f.listed_shrinks x))
        (λ w z. subst (λ (ys : List JsSelector). p.selectors_from size t (expr_at size n) (stmt_at size n) w ys rest ≡ r) (sym (append_assoc found (L.Method v args ∷ []) xs)) (c w z)))

    pub primary_complete : {a : JsPrimary} {ts rest : Tokens} → IsPrimary ts a rest → (n : ℕ) → length ts ≤ n → selects (sign_of rest) ≡ false → p.primary size (suc n) (expr_at size n) (stmt_at size n) ts ≡ Ok (a, rest)
    primary_complete (g.primary_of {a = a} {xs = xs} {ts = ts} {mid = mid} {rest = rest} x d) n k c =
        u.primary_step size (suc n) (expr_at size n) (stmt_at size n) a xs ts mid rest (head_complete x (suc n) n k (omega arith))
        (selectors_then d (suc n) n (suc n) [] (Ok (xs, rest)) (omega (arith, f.head_shrinks x)) (omega (arith, f.head_shrinks x)) (omega (arith, f.head_shrinks x)) (u.selectors_last size (suc n) (expr_at size n) (stmt_at size n) xs rest c))

    pub entries_complete : {xs : List JsEntry} {ts rest : Tokens} → AreEntries ts xs rest → (t n turns : ℕ) (found : List JsEntry) → length ts ≤ n → length ts ≤ turns → sign_is (codes ",") rest ≡ false → Ends rest
        → p.entries_from size t (expr_at size n) (stmt_at size n) turns found ts ≡ Ok (found ++ xs, rest)
    entries_complete (g.last_entry d) t n zero found k m c w = absurd (omega arith)
    entries_complete (g.last_entry {us = us} {a = a} {p = q} {q = r} {ts = ts} {rest = rest} d) t n (suc turns) found k m c w =
        u.entries_last size t (expr_at size n) (stmt_at size n) turns found us a q r ts rest (expr_complete d n (omega arith) w) c
    entries_complete (g.more_entries d x) t n zero found k m c w = absurd (omega arith)
    entries_complete (g.more_entries {us = us} {a = a} {xs = xs} {p = q} {q = r} {r = v} {ts = ts} {mid = mid} {rest = rest} d x) t n (suc turns) found k m c w =
        u.entries_more size t (expr_at size n) (stmt_at size n) turns found xs us a q r v ts mid rest (expr_complete d n (omega arith) (record { no_selector = refl; no_operator = refl }))
        (entries_complete x t n turns (found ++ record { key = us; value = a } ∷ []) (omega (arith, f.expr_shrinks d)) (omega (arith, f.expr_shrinks d)) c w)

    pub expr_complete : {a : JsExpr} {ts rest : Tokens} → IsExpr ts a rest → (n : ℕ) → length ts < n → Ends rest → expr_at size n ts ≡ Ok (a, rest)
    expr_complete d zero k w = absurd (omega arith)
    expr_complete (g.primary {a = a} {ts = ts} {rest = rest} d) (suc n) k w =
        u.expr_up size n ts _ (plain_is d n _ (u.alone_step size (suc n) (expr_at size n) (stmt_at size n) a ts rest (primary_complete d n (omega arith) w.no_selector) w.no_operator))
    expr_complete (g.binary {o = o} {a = a} {b = b} {p = q} {ts = ts} {mid = mid} {rest = rest} d x) (suc n) k w =
        u.expr_up size n ts _ (plain_is d n _ (u.binary_step size (suc n) (expr_at size n) (stmt_at size n) o a b q ts mid rest (primary_complete d n (omega arith) (u.operator_ends o))
        (primary_complete x n (omega (arith, f.primary_shrinks d)) w.no_selector)))
    expr_complete (g.type_of {a = a} {p = q} {ts = ts} {rest = rest} d) (suc n) k w =
        u.expr_up size n _ _ (u.type_of_step size (suc n) (expr_at size n) (stmt_at size n) a q ts rest (primary_complete d n (omega arith) w.no_selector))
    expr_complete (g.function {f = v} {p = q} {ts = ts} {rest = rest} d) (suc n) k w =
        u.expr_up size n _ _ (u.function_step size (suc n) (expr_at size n) (stmt_at size n) v q ts rest (function_complete d n (suc n) (omega arith) (omega arith)))
    expr_complete (g.new_map {p = q} {q = r} {r = v} {t = x} {rest = rest}) (suc n) k w = u.expr_up size n _ _ (u.new_map_step size (suc n) (expr_at size n) (stmt_at size n) q r v x rest)
    expr_complete (g.array {xs = xs} {p = q} {ts = ts} {rest = rest} d) (suc n) k w =
        u.expr_up size n _ _ (u.array_step size (suc n) (expr_at size n) (stmt_at size n) xs q ts rest (square_complete d (suc n) n (omega arith) (omega arith)))
    expr_complete (g.no_entries {p = q} {q = r} {rest = rest}) (suc n) k w = u.expr_up size n _ _ (u.no_entries_step size (suc n) (expr_at size n) (stmt_at size n) q r rest)
    expr_complete (g.object {xs = xs} {p = q} {q = r} {ts = ts} {rest = rest} d) (suc n) k w =
        u.expr_up size n _ _ (u.object_step size (suc n) (expr_at size n) (stmt_at size n) xs q r ts rest (entries_no_close d) (entries_complete d (suc n) n (suc n) [] (omega arith) (omega arith) refl (record { no_selector = refl; no_operator = refl })))

    pub function_complete : {a : JsFunction} {ts rest : Tokens} → IsFunction ts a rest → (n t : ℕ) → length ts ≤ n → length ts ≤ t → p.function size t (expr_at size n) (stmt_at size n) ts ≡ Ok (a, rest)
    function_complete (g.function_of {ps = ps} {body = body} {ts = ts} {mid = mid} {rest = rest} x d) n t k m =
        u.function_of_step size t (expr_at size n) (stmt_at size n) ps (u.onto ps []) body ts mid rest (u.parameters_complete x size t m)
        (block_complete d n t (u.onto ps []) (u.onto_all ps) (omega (arith, f.parameters_shrink x)) (omega (arith, f.parameters_shrink x)))

    pub block_complete : {names : Names} {xs : List JsStmt} {ts rest : Tokens} → IsBlock names ts xs rest → (n t : ℕ) (others : Names) → IsSame others names → length ts ≤ n → length ts ≤ t
        → p.block size t (expr_at size n) (stmt_at size n) others ts ≡ Ok (xs, rest)
    block_complete (g.block {body = body} {p = q} {q = r} {ts = ts} {rest = rest} d) n t others same k m =
        u.block_step size t (expr_at size n) (stmt_at size n) others body q ts rest (stmts_complete d n t t others [] same refl (omega arith) (omega arith) ∙ ap (λ (x : Tokens). Ok (body, x)) (after_sign_same 125 [] r rest))

    pub stmts_complete : {names : Names} {xs : List JsStmt} {ts end : Tokens} → AreStmts names ts xs end → (n t turns : ℕ) (others : Names) (found : List JsStmt) → IsSame others names → sign_is (codes "}") end ≡ true
        → length ts < n → length ts < turns → p.stmts_from size t (expr_at size n) (stmt_at size n) turns others found ts ≡ Ok (found ++ xs, after_sign end)
    stmts_complete (g.no_stmts {ts = ts}) n t zero others found same c k m = absurd (omega arith)
    stmts_complete (g.no_stmts {ts = ts}) n t (suc turns) others found same c k m = u.stmts_done size t (expr_at size n) (stmt_at size n) turns others found ts c
    stmts_complete (g.stmts x d) n t zero others found same c k m = absurd (omega arith)
    stmts_complete {ts = ts} {end = end} (g.stmts {a = a} {more = more} {mid = mid} x d) n t (suc turns) others found same c k m =
        u.stmts_more size t (expr_at size n) (stmt_at size n) turns others (declared a others) found more a ts mid (after_sign end) (f.stmt_sign x) (named_complete x n t others same k (f.stmts_no_else d (sign_no_word end c)))
        (stmts_complete d n t turns (declared a others) (found ++ a ∷ []) (same_declared others x same) c (omega (arith, f.stmt_shrinks x)) (omega (arith, f.stmt_shrinks x)))

    pub named_complete : {names : Names} {a : JsStmt} {ts rest : Tokens} → IsStmt names ts a rest → (n t : ℕ) (others : Names) → IsSame others names → length ts < n → word_is (codes "else") rest ≡ false
        → p.named_stmt size t (expr_at size n) (stmt_at size n) others ts ≡ Ok ((a, declared a others), rest)
    named_complete d zero t others same k o = absurd (omega arith)
    named_complete (g.let' {x = x} {a = a} {p = q} {q = r} {r = v} {t = w} {ts = ts} {rest = rest} m c d) (suc n) t others same k o =
        u.let_step size t (expr_at size (suc n)) (stmt_at size (suc n)) others x a q r v w ts rest m (same x ∙ c) (expr_complete d (suc n) (omega arith) (record { no_selector = refl; no_operator = refl }))
    named_complete (g.assign {x = x} {a = a} {p = q} {q = r} {r = v} {ts = ts} {rest = rest} m d) (suc n) t others same k o =
        simple n t others (s.Assign q.from x a) (word x q ∷ sign (codes "=") r ∷ ts) rest (λ c more z. word_not x (c ∷ more) (name_begins x m) z) refl
        (u.assign_step size (suc n) (expr_at size n) (stmt_at size n) x a q r v ts rest (name_alone n x q (sign (codes "=") r ∷ ts) m refl) (expr_complete d n (omega arith) (record { no_selector = refl; no_operator = refl })))
    named_complete (g.store {a = a} {xs = xs} {b = b} {c = c} {p = q} {q = r} {r = v} {t = w} {ts = ts} {mid = mid} {after = after} {late = late} {rest = rest} x d y z) (suc n) t others same k o =
        subst (λ (at : ℕ). p.named_stmt size t (expr_at size (suc n)) (stmt_at size (suc n)) others ts ≡ Ok ((s.Store at (record { head = a; selectors = xs }) b c, others), rest)) (start_place size ts mid (f.head_shrinks x))
        (simple n t others (s.Store (place size ts) (record { head = a; selectors = xs }) b c) ts rest (head_word x) refl
        (u.store_step size (suc n) (expr_at size n) (stmt_at size n) a xs b c v w ts late rest
        (u.primary_step size (suc n) (expr_at size n) (stmt_at size n) a (xs ++ L.Index b ∷ []) ts mid (sign (codes "=") v ∷ late) (head_complete x (suc n) n (omega arith) (omega arith))
        (selectors_then d (suc n) n (suc n) [] (Ok (xs ++ L.Index b ∷ [], sign (codes "=") v ∷ late)) (omega (arith, f.head_shrinks x)) (omega (arith, f.head_shrinks x)) (omega (arith, f.head_shrinks x))
        (u.index_last size (suc n) (expr_at size n) (stmt_at size n) xs b q r after (sign (codes "=") v ∷ late) (expr_complete y n (omega (arith, f.head_shrinks x, f.selectors_shrink d)) (record { no_selector = refl; no_operator = refl })) refl)))
        (expr_complete z n (omega (arith, f.head_shrinks x, f.selectors_shrink d, f.expr_shrinks y)) (record { no_selector = refl; no_operator = refl }))))
    named_complete (g.perform {a = a} {p = q} {ts = ts} {rest = rest} d) (suc n) t others same k o =
        subst (λ (at : ℕ). p.named_stmt size t (expr_at size (suc n)) (stmt_at size (suc n)) others ts ≡ Ok ((s.Perform at a, others), rest)) (start_place size ts (sign (codes ";") q ∷ rest) (f.primary_shrinks d))
        (simple n t others (s.Perform (place size ts) a) ts rest (primary_word d) refl (u.perform_step size (suc n) (expr_at size n) (stmt_at size n) a q ts rest (primary_complete d n (omega arith) refl)))
    named_complete (g.if' {a = a} {xs = xs} {p = q} {q = r} {r = v} {ts = ts} {mid = mid} {rest = rest} d x) (suc n) t others same k o =
        other n t others (s.If q.from a xs) _ rest refl refl
        (u.if_step size (suc n) (expr_at size n) (stmt_at size n) a xs q r v ts mid rest (expr_complete d n (omega arith) (record { no_selector = refl; no_operator = refl })) (block_complete x n (suc n) [] (λ y. refl) (omega (arith, f.expr_shrinks d)) (omega (arith, f.expr_shrinks d))) o)
    named_complete (g.if_else {a = a} {xs = xs} {ys = ys} {p = q} {q = r} {r = v} {t = w} {ts = ts} {mid = mid} {after = after} {rest = rest} d x y) (suc n) t others same k o =
        other n t others (s.IfElse q.from a xs ys) _ rest refl refl
        (u.if_else_step size (suc n) (expr_at size n) (stmt_at size n) a xs ys q r v w ts mid after rest (expr_complete d n (omega arith) (record { no_selector = refl; no_operator = refl }))
        (block_complete x n (suc n) [] (λ z. refl) (omega (arith, f.expr_shrinks d)) (omega (arith, f.expr_shrinks d)))
        (block_complete y n (suc n) [] (λ z. refl) (omega (arith, f.expr_shrinks d, f.block_shrinks x)) (omega (arith, f.expr_shrinks d, f.block_shrinks x))))
    named_complete (g.loop {xs = xs} {p = q} {q = r} {r = v} {t = w} {ts = ts} {rest = rest} d) (suc n) t others same k o =
        other n t others (s.Loop q.from xs) _ rest refl refl (u.loop_step size (suc n) (expr_at size n) (stmt_at size n) xs q r v w ts rest (block_complete d n (suc n) [] (λ z. refl) (omega arith) (omega arith)))
    named_complete (g.labelled {x = x} {xs = xs} {p = q} {q = r} {ts = ts} {rest = rest} m d) (suc n) t others same k o =
        simple n t others (s.Labelled q.from x xs) (word x q ∷ sign (codes ":") r ∷ ts) rest (λ c more z. word_not x (c ∷ more) (name_begins x m) z) refl
        (u.label_step size (suc n) (expr_at size n) (stmt_at size n) x xs q r ts rest (name_alone n x q (sign (codes ":") r ∷ ts) m refl) (block_complete d n (suc n) [] (λ z. refl) (omega arith) (omega arith)))
    named_complete (g.break' {x = x} {p = q} {q = r} {r = v} {rest = rest} m l) (suc n) t others same k o = other n t others (s.Break q.from x) _ rest refl refl (u.break_step size (suc n) (expr_at size n) (stmt_at size n) x q r v rest m l)
    named_complete (g.return' {a = a} {t = b} {p = q} {q = r} {ts = ts} {rest = rest} l d) (suc n) t others same k o =
        other n t others (s.Return q.from a) _ rest refl refl (u.return_step size (suc n) (expr_at size n) (stmt_at size n) a q r (b ∷ ts) rest l (expr_complete d n (omega arith) (record { no_selector = refl; no_operator = refl })))
    named_complete (g.throw' {a = a} {t = b} {p = q} {q = r} {ts = ts} {rest = rest} l d) (suc n) t others same k o =
        other n t others (s.Throw q.from a) _ rest refl refl (u.throw_step size (suc n) (expr_at size n) (stmt_at size n) a q r (b ∷ ts) rest l (expr_complete d n (omega arith) (record { no_selector = refl; no_operator = refl })))
    named_complete (g.try_catch {x = x} {xs = xs} {ys = ys} {p = q} {q = r} {r = v} {t = w} {u = b} {ts = ts} {mid = mid} {rest = rest} m d y) (suc n) t others same k o =
        other n t others (s.TryCatch q.from xs x ys) _ rest refl refl
        (u.catch_step size (suc n) (expr_at size n) (stmt_at size n) x xs ys q r v w b ts mid rest m (block_complete d n (suc n) [] (λ z. refl) (omega arith) (omega arith))
        (block_complete y n (suc n) (x ∷ []) (λ z. refl) (omega (arith, f.block_shrinks d)) (omega (arith, f.block_shrinks d))))
    named_complete (g.try_finally {xs = xs} {ys = ys} {p = q} {q = r} {ts = ts} {mid = mid} {rest = rest} d y) (suc n) t others same k o =
        other n t others (s.TryFinally q.from xs ys) _ rest refl refl
        (u.finally_step size (suc n) (expr_at size n) (stmt_at size n) xs ys q r ts mid rest (block_complete d n (suc n) [] (λ z. refl) (omega arith) (omega arith))
        (block_complete y n (suc n) [] (λ z. refl) (omega (arith, f.block_shrinks d)) (omega (arith, f.block_shrinks d))))

  pub items_complete : {names : Names} {xs : List JsItem} {ts : Tokens} → AreItems names ts xs → (n turns : ℕ) (others : Names) (found : List JsItem) → IsSame others names → length ts < n → length ts < turns
      → p.items_from size n (expr_at size n) (stmt_at size n) turns others found ts ≡ Ok (found ++ xs)
  items_complete d n zero others found same k m = absurd (omega arith)
  items_complete g.no_items n (suc turns) others found same k m = u.items_done size n (expr_at size n) (stmt_at size n) turns others found
  items_complete (g.function_item {names = names} {x = x} {f = v} {more = more} {p = q} {q = r} {ts = ts} {rest = rest} w c d z) n (suc turns) others found same k m =
      u.items_more size n (expr_at size n) (stmt_at size n) turns others (x ∷ others) found more (i.Declared x v) (word (codes "function") q ∷ word x r ∷ ts) rest refl
      (u.declared_step size n (expr_at size n) (stmt_at size n) others x v q r ts rest w (same x ∙ c) (function_complete d n n (omega arith) (omega arith)))
      (items_complete z n turns (x ∷ others) (found ++ i.Declared x v ∷ []) (same_more others names x same) (omega (arith, f.function_shrinks d)) (omega (arith, f.function_shrinks d)))
  items_complete (g.var {names = names} {x = x} {a = a} {more = more} {p = q} {q = r} {r = v} {t = b} {ts = ts} {rest = rest} w c d z) n (suc turns) others found same k m =
      u.items_more size n (expr_at size n) (stmt_at size n) turns others (x ∷ others) found more (i.Var q.from x a) (word (codes "var") q ∷ word x r ∷ sign (codes "=") v ∷ ts) rest refl
      (u.var_step size n (expr_at size n) (stmt_at size n) others x a q r v b ts rest w (same x ∙ c) (expr_complete d n (omega arith) (record { no_selector = refl; no_operator = refl })))
      (items_complete z n turns (x ∷ others) (found ++ i.Var q.from x a ∷ []) (same_more others names x same) (omega (arith, f.expr_shrinks d)) (omega (arith, f.expr_shrinks d)))
  items_complete (g.statement {a = a} {more = more} {ts = ts} {rest = rest} d z) n (suc turns) others found same k m =
      u.items_more size n (expr_at size n) (stmt_at size n) turns others (declared a others) found more (i.Statement a) ts rest (some_tokens ts rest (f.stmt_shrinks d))
      (u.item_stmt_step size n (expr_at size n) (stmt_at size n) others (declared a others) a ts rest (f.stmt_no_function d) (f.stmt_no_var d) (named_complete d n n others same k (f.items_no_else z)))
      (items_complete z n turns (declared a others) (found ++ i.Statement a ∷ []) (same_declared others d same) (omega (arith, f.stmt_shrinks d)) (omega (arith, f.stmt_shrinks d)))
