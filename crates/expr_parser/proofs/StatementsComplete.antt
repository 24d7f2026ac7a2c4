-- Statements are parsed.
use Rattle.std.proofs.Common.{◌≡◌, ℕ, zero, suc, ◌<◌, ◌≤◌, Bool, true, false, List, [], ◌∷◌, ◌++◌, length, Option, Some, refl, ◌∙◌, arith, append_assoc}
use Rattle.std.proofs.lemmas.List.{append-nil}
use Rattle.dart_syntax.specs.declared.words.Word.{Word}
use Rattle.dart_syntax.specs.declared.words.Word.TheVariants as w
use Rattle.dart_syntax.specs.declared.words.Sign.{Sign}
use Rattle.dart_syntax.specs.declared.words.Sign.TheVariants as s
use Rattle.dart_syntax.specs.declared.tokens.Form.{Form}
use Rattle.dart_syntax.specs.declared.tokens.Form.TheVariants as f
use Rattle.dart_grammar.specs.declared.trees.Span.{Span}
use Rattle.dart_grammar.specs.declared.trees.Expr.{Expr}
use Rattle.dart_grammar.specs.declared.trees.Stmt.{Stmt}
use Rattle.dart_grammar.specs.declared.trees.Catch.{Catch}
use Rattle.dart_grammar.specs.declared.trees.Variable.{Variable}
use Rattle.dart_grammar.specs.declared.trees.Variables.{Variables}
use Rattle.dart_grammar.specs.Marks.{Tokens, token, word, sign, ident, same_sign, same_word, is_name, next, next_sign, next_name, looseness}
use Rattle.dart_grammar.specs.Shapes.{begins_map, for_kind_of}
use Rattle.dart_grammar.specs.Trees.{span}
use Rattle.dart_grammar.specs.Grammar as g
use Rattle.dart_grammar.specs.Grammar.{MayHaveResult, IsLead, IsExpr, AreVariables, AreDeclared, IsDeclared, IsStmt, MayBeExpr, MayBeExprs, AreUpdates, AreCatches, IsCatch}
use Rattle.expr_parser.specs.Cursor.{sign_at, word_at, name_at}
use Rattle.expr_parser.specs.Inner.{Inner}
use Rattle.expr_parser.specs.Statements as p
use Rattle.expr_parser.proofs.Shrinks.{expr_shrinks, stmt_shrinks, type_shrinks, lead_shrinks, declared_shrinks, are_variables_shrink, may_be_expr_shrinks, may_be_exprs_shrinks, are_updates_shrink, parameters_shrinks, may_have_result_shrinks, block_shrinks, catch_shrinks, are_catches_shrink}
use Rattle.expr_parser.proofs.TypesComplete.{type_complete, type_first, lead_complete, past_result_complete}
use Rattle.expr_parser.proofs.Firsts.{sign_begins, word_begins, begins, target_first, conditional_first, expr_no_sign, exprs_no_sign}
use Rattle.expr_parser.proofs.PartsComplete.{Complete, exprs_complete, block_complete, local_body_complete}

-- ---- statements that begin with no word or sign of their own

abbrev sign_simple : Sign → Bool
sign_simple s.OpenBrace = false
sign_simple s.Semicolon = false
sign_simple _ = true

abbrev word_simple : Word → Bool
word_simple w.If = false
word_simple w.While = false
word_simple w.Do = false
word_simple w.For = false
word_simple w.Break = false
word_simple w.Continue = false
word_simple w.Return = false
word_simple w.Rethrow = false
word_simple w.Assert = false
word_simple w.Try = false
word_simple _ = true

abbrev is_simple : Form → Bool
is_simple (f.Sign x) = sign_simple x
is_simple (f.Word x) = word_simple x
is_simple _ = true

name_simple : (ts : Tokens) → next_name ts ≡ true → next is_simple ts ≡ true
name_simple [] h = absurd cc
name_simple (t ∷ ts) h = go t.form h
  where
    go : (form : Form) → is_name form ≡ true → is_simple form ≡ true
    go (f.Name x) e = refl
    go _ e = absurd cc

lead_simple : {ts rest : Tokens} {b : Bool} → IsLead ts b rest → next is_simple ts ≡ true
lead_simple g.var_lead = refl
lead_simple (g.final_lead v d) = refl
lead_simple (g.const_lead v d) = refl
lead_simple (g.type_lead {ts = ts} d) = name_simple ts (type_first d)

variables_simple : {ts rest : Tokens} {x : Variables} {j : ℕ} → AreVariables ts x j rest → next is_simple ts ≡ true
variables_simple (g.variables l d) = lead_simple l

result_simple : {ts rest : Tokens} {x : List ℕ} {q : Span} → MayHaveResult ts (ident x q ∷ rest) → next is_simple ts ≡ true
result_simple (g.no_result n) = refl
result_simple g.void_result = refl
result_simple (g.type_result {ts = ts} v b d) = name_simple ts (type_first d)

begins_simple : (ts : Tokens) → next begins ts ≡ true → begins_map ts ≡ false → next is_simple ts ≡ true
unfolding same_sign
begins_simple [] h m = absurd cc
begins_simple (t ∷ ts) h m = go t.form h m
  where
    by_sign : (x : Sign) → sign_begins x ≡ true → begins_map (sign x (span t.from t.to) ∷ ts) ≡ false → sign_simple x ≡ true
    by_sign s.OpenBrace e k = absurd cc
    by_sign s.Semicolon e k = absurd cc
    by_sign _ e k = refl

    by_word : (x : Word) → word_begins x ≡ true → word_simple x ≡ true
    by_word w.This e = refl
    by_word w.Super e = refl
    by_word w.Null e = refl
    by_word w.True e = refl
    by_word w.False e = refl
    by_word w.New e = refl
    by_word _ e = absurd cc

    go : (form : Form) → begins form ≡ true → begins_map (token form (span t.from t.to) ∷ ts) ≡ false → is_simple form ≡ true
    go (f.Sign x) e k = by_sign x e k
    go (f.Word x) e k = by_word x e
    go _ e k = refl

expr_simple : {ts rest : Tokens} {a : Expr} → IsExpr ts a rest → begins_map ts ≡ false → next is_simple ts ≡ true
expr_simple (g.assigned {ts = ts} d h v) m = begins_simple ts (target_first d) m
expr_simple (g.throw' d) m = refl
expr_simple (g.plain {ts = ts} d) m = begins_simple ts (conditional_first d) m

module _ (inner : Inner) (n : ℕ) (complete : Complete n inner) where
  statement_is : (ts : Tokens) → next is_simple ts ≡ true → p.statement inner ts ≡ p.simple inner ts
  unfolding p.statement
  statement_is [] h = absurd cc
  statement_is (t ∷ ts) h = go t.form h
    where
      at : Span
      at = span t.from t.to

      by_sign : (x : Sign) → sign_simple x ≡ true → p.statement_by inner (f.Sign x) t.from t.to (sign x at ∷ ts) ts ≡ p.simple inner (sign x at ∷ ts)
      by_sign s.OpenBrace e = absurd cc
      by_sign s.Semicolon e = absurd cc
      by_sign _ e = refl

      by_word : (x : Word) → word_simple x ≡ true → p.statement_by inner (f.Word x) t.from t.to (word x at ∷ ts) ts ≡ p.simple inner (word x at ∷ ts)
      by_word w.If e = absurd cc
      by_word w.While e = absurd cc
      by_word w.Do e = absurd cc
      by_word w.For e = absurd cc
      by_word w.Break e = absurd cc
      by_word w.Continue e = absurd cc
      by_word w.Return e = absurd cc
      by_word w.Rethrow e = absurd cc
      by_word w.Assert e = absurd cc
      by_word w.Try e = absurd cc
      by_word _ e = refl

      go : (form : Form) → is_simple form ≡ true → p.statement_by inner form t.from t.to (token form at ∷ ts) ts ≡ p.simple inner (token form at ∷ ts)
      go (f.Sign x) e = by_sign x e
      go (f.Word x) e = by_word x e
      go _ e = refl

  -- ---- parts of statements

  variable_complete : {ts rest : Tokens} {x : Variable} → IsDeclared ts x rest → length ts ≤ n → next_sign s.Assign rest ≡ false → looseness rest ≡ 10 → p.variable inner ts ≡ Some (x, rest)
  unfolding p.variable name_at same_sign
  variable_complete g.no_value i a l = rw a refl
  variable_complete (g.value d) i a l = rw (complete.expr d (omega (arith, i)) l) refl

  variables_from_complete : {ts rest : Tokens} {xs : List Variable} → AreDeclared ts xs rest → (k : ℕ) (found : List Variable) → length ts ≤ k → length ts ≤ n → next_sign s.Comma rest ≡ false → next_sign s.Assign rest ≡ false
      → looseness rest ≡ 10 → p.variables_from inner k found ts ≡ Some (found ++ xs, rest)
  unfolding p.variables_from same_sign
  variables_from_complete (g.last_declared d) zero found i j c a l = absurd (omega (arith, i, declared_shrinks d))
  variables_from_complete (g.last_declared d) (suc k) found i j c a l = rw (variable_complete d j a l, c) refl
  variables_from_complete (g.more_declared d m) zero found i j c a l = absurd (omega (arith, i, declared_shrinks d))
  variables_from_complete (g.more_declared {x = z} {xs = xs} d m) (suc k) found i j c a l =
      rw (variable_complete d j (unfold same_sign in refl) refl, variables_from_complete m k (found ++ z ∷ []) (omega (arith, i, declared_shrinks d)) (omega (arith, j, declared_shrinks d)) c a l, append_assoc found (z ∷ []) xs) refl

  pub variables_complete : {ts rest : Tokens} {x : Variables} {j : ℕ} → AreVariables ts x j rest → length ts ≤ n → p.variables inner ts ≡ Some ((x, j), rest)
  unfolding p.variables sign_at same_sign
  variables_complete (g.variables {mid = mid} d m) i =
      rw (lead_complete d, variables_from_complete m (length mid) [] (omega arith) (omega (arith, i, lead_shrinks d)) (unfold same_sign in refl) (unfold same_sign in refl) refl) refl

  test_complete : {ts rest : Tokens} {a : Option Expr} {q : Span} → MayBeExpr ts a (sign s.Semicolon q ∷ rest) → length ts ≤ n → p.loop_test inner ts ≡ Some (a, rest)
  unfolding p.loop_test sign_at same_sign
  test_complete (g.no_expr y) i = refl
  test_complete (g.an_expr d) i = rw (expr_no_sign s.Semicolon refl d, complete.expr d i refl) refl

  firsts_complete : {ts rest : Tokens} {xs : List Expr} {q : Span} → MayBeExprs ts xs (sign s.Semicolon q ∷ rest) → length ts ≤ n → p.closed_exprs inner s.Semicolon ts ≡ Some (xs, rest)
  unfolding p.closed_exprs sign_at same_sign
  firsts_complete (g.no_exprs y) i = refl
  firsts_complete (g.some_exprs d) i = rw (exprs_no_sign s.Semicolon refl d, exprs_complete inner n complete s.Semicolon refl d i refl (unfold same_sign in refl)) refl

  updates_complete : {ts rest : Tokens} {xs : List Expr} → AreUpdates ts xs rest → length ts ≤ n → p.closed_exprs inner s.CloseParen ts ≡ Some (xs, rest)
  unfolding p.closed_exprs sign_at same_sign
  updates_complete g.no_updates i = refl
  updates_complete (g.updates d) i = rw (exprs_no_sign s.CloseParen refl d, exprs_complete inner n complete s.CloseParen refl d i refl (unfold same_sign in refl)) refl

  clause_complete : {ts rest : Tokens} {x : Catch} → IsCatch ts x rest → length ts ≤ n → p.clause inner ts ≡ Some (x, rest)
  unfolding p.clause p.catch_typed p.catch_all p.may_catch p.caught sign_at name_at same_sign same_word
  clause_complete (g.on d m b) i = rw (type_complete d, m, block_complete inner n complete b (omega (arith, i, type_shrinks d))) refl
  clause_complete (g.on_catch d b) i = rw (type_complete d, block_complete inner n complete b (omega (arith, i, type_shrinks d))) refl
  clause_complete (g.catch b) i = rw (block_complete inner n complete b (omega (arith, i))) refl

  clauses_from_complete : {ts rest : Tokens} {xs : List Catch} {i j : ℕ} → AreCatches i ts xs j rest → (k : ℕ) (found : List Catch) → length ts < k → length ts ≤ n → p.clauses_from inner k found i ts ≡ Some ((found ++ xs, j), rest)
  unfolding p.clauses_from
  clauses_from_complete (g.no_catches m) zero found l h = absurd (omega (arith, l))
  clauses_from_complete (g.no_catches m) (suc k) found l h = rw (m, append-nil found) refl
  clauses_from_complete (g.catches y d m) zero found l h = absurd (omega (arith, l))
  clauses_from_complete (g.catches {x = x} {xs = xs} y d m) (suc k) found l h =
      rw (y, clause_complete d h, clauses_from_complete m k (found ++ x ∷ []) (omega (arith, l, catch_shrinks d)) (omega (arith, h, catch_shrinks d)), append_assoc found (x ∷ []) xs) refl

  -- ---- statements

  pub statement_complete : {ts rest : Tokens} {a : Stmt} → IsStmt ts a rest → length ts ≤ n → p.statement inner ts ≡ Some (a, rest)
  unfolding p.statement p.simple p.nested_block p.declare p.typed_function p.local_function p.evaluate p.choose p.otherwise p.repeat p.repeat_once p.for_loop p.loop_declared p.loop_plain p.loop_in_declared p.loop_in p.each p.break_loop p.continue_loop p.leave p.throw_again p.asserted p.attempt p.with_finally p.condition sign_at word_at name_at same_sign same_word for_kind_of
  statement_complete (g.nested_block (g.braces {p = q} d)) i = rw (block_complete inner n complete (g.braces {p = q} d) i) refl
  statement_complete {ts = ts} (g.declare k d) i = statement_is ts (variables_simple d) ∙ rw (k, variables_complete d i) refl
  statement_complete {ts = ts} (g.typed_function k r d b) i =
      statement_is ts (result_simple r) ∙ rw (k, past_result_complete r, complete.parameters d (omega (arith, i, may_have_result_shrinks r)), local_body_complete inner n complete b (omega (arith, i, may_have_result_shrinks r, parameters_shrinks d))) refl
  statement_complete (g.untyped_function k d b) i = rw (k, complete.parameters d (omega (arith, i)), local_body_complete inner n complete b (omega (arith, i, parameters_shrinks d))) refl
  statement_complete g.empty i = refl
  statement_complete {ts = ts} (g.evaluate k m d) i = statement_is ts (expr_simple d m) ∙ rw (k, m, complete.expr d i refl) refl
  statement_complete (g.if' d e o) i = rw (complete.expr d (omega (arith, i)) refl, complete.stmt e (omega (arith, i, expr_shrinks d)), o) refl
  statement_complete (g.if_else d e o) i = rw (complete.expr d (omega (arith, i)) refl, complete.stmt e (omega (arith, i, expr_shrinks d)), complete.stmt o (omega (arith, i, expr_shrinks d, stmt_shrinks e))) refl
  statement_complete (g.while d e) i = rw (complete.expr d (omega (arith, i)) refl, complete.stmt e (omega (arith, i, expr_shrinks d))) refl
  statement_complete (g.do' d e) i = rw (complete.stmt d (omega (arith, i)), complete.expr e (omega (arith, i, stmt_shrinks d)) refl) refl
  statement_complete (g.for_declared k d e u o) i =
      rw (
        k,
        variables_complete d (omega (arith, i)),
        test_complete e (omega (arith, i, are_variables_shrink d)),
        updates_complete u (omega (arith, i, are_variables_shrink d, may_be_expr_shrinks e)),
        complete.stmt o (omega (arith, i, are_variables_shrink d, may_be_expr_shrinks e, are_updates_shrink u)),
      ) refl
  statement_complete (g.for' k d e u o) i =
      rw (
        k,
        firsts_complete d (omega (arith, i)),
        test_complete e (omega (arith, i, may_be_exprs_shrinks d)),
        updates_complete u (omega (arith, i, may_be_exprs_shrinks d, may_be_expr_shrinks e)),
        complete.stmt o (omega (arith, i, may_be_exprs_shrinks d, may_be_expr_shrinks e, are_updates_shrink u)),
      ) refl
  statement_complete (g.for_in_declared k d e o) i = rw (k, lead_complete d, complete.expr e (omega (arith, i, lead_shrinks d)) refl, complete.stmt o (omega (arith, i, lead_shrinks d, expr_shrinks e))) refl
  statement_complete (g.for_in e o) i = rw (complete.expr e (omega (arith, i)) refl, complete.stmt o (omega (arith, i, expr_shrinks e))) refl
  statement_complete g.break' i = refl
  statement_complete g.continue' i = refl
  statement_complete g.return' i = refl
  statement_complete (g.return_value d) i = rw (expr_no_sign s.Semicolon refl d, complete.expr d (omega (arith, i)) refl) refl
  statement_complete g.rethrow' i = refl
  statement_complete (g.assert' d) i = rw (complete.expr d (omega (arith, i)) refl) refl
  statement_complete (g.try' {ts = ts} d k o) i = rw (block_complete inner n complete d (omega (arith, i)), clauses_from_complete k (length ts) [] (block_shrinks d) (omega (arith, i, block_shrinks d)), o) refl
  statement_complete (g.try_finally {ts = ts} d k b) i =
      rw (
        block_complete inner n complete d (omega (arith, i)),
        clauses_from_complete k (length ts) [] (block_shrinks d) (omega (arith, i, block_shrinks d)),
        block_complete inner n complete b (omega (arith, i, block_shrinks d, are_catches_shrink k)),
      ) refl
