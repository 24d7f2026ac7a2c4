-- What is parsed as a statement is one.
use Rattle.std.proofs.Common.{◌≡◌, ℕ, zero, suc, Bool, true, false, List, [], ◌∷◌, ◌++◌, length, Option, Some, None, refl, sym, ap, ◌∙◌, subst}
use Rattle.std.specs.Prelude.{◌||◌, ◌&&◌}
use Rattle.dart_syntax.specs.declared.words.Word.{Word}
use Rattle.dart_syntax.specs.declared.words.Word.TheVariants as w
use Rattle.dart_syntax.specs.declared.words.Sign.{Sign}
use Rattle.dart_syntax.specs.declared.words.Sign.TheVariants as s
use Rattle.dart_syntax.specs.declared.tokens.Form.{Form}
use Rattle.dart_syntax.specs.declared.tokens.Form.TheVariants as f
use Rattle.dart_grammar.specs.declared.trees.Span.{Span}
use Rattle.dart_grammar.specs.declared.trees.Name.{Name}
use Rattle.dart_grammar.specs.declared.trees.Expr.{Expr}
use Rattle.dart_grammar.specs.declared.trees.Stmt.{Stmt}
use Rattle.dart_grammar.specs.declared.trees.Stmt.TheVariants as c
use Rattle.dart_grammar.specs.declared.trees.Body.{Body}
use Rattle.dart_grammar.specs.declared.trees.Catch.{Catch}
use Rattle.dart_grammar.specs.declared.trees.Parameters.{Parameters}
use Rattle.dart_grammar.specs.declared.trees.Variable.{Variable}
use Rattle.dart_grammar.specs.declared.trees.Variable.TheVariants as v
use Rattle.dart_grammar.specs.Marks.{Tokens, token, word, sign, ident, is_named, next, next_word, next_sign, behind}
use Rattle.dart_grammar.specs.declared.kinds.Kind.{Kind}
use Rattle.dart_grammar.specs.declared.kinds.Kind.TheVariants.{Variables as OfVariables, Typed, Untyped, Expression}
use Rattle.dart_grammar.specs.declared.kinds.ForKind.{ForKind}
use Rattle.dart_grammar.specs.declared.kinds.ForKind.TheVariants.{In, DeclaredIn, Declared, Expressions}
use Rattle.dart_grammar.specs.Shapes.{begins_map, kind_of, for_kind_of, begins_clause, is_before_clause, type_end, on_word}
use Rattle.dart_grammar.specs.Trees.{span, stmt_span}
use Rattle.dart_grammar.specs.Grammar as g
use Rattle.dart_grammar.specs.Grammar.{start, IsType, MayHaveResult, IsLead, IsExpr, AreExprs, IsParameters, AreVariables, AreDeclared, IsDeclared, IsBlock, IsLocalBody, IsStmt, MayBeExpr, MayBeExprs, AreUpdates, AreCatches, IsCatch}
use Rattle.expr_parser.specs.Inner.{Inner}
use Rattle.expr_parser.specs.Statements as p
use Rattle.expr_parser.proofs.Tools.{Says, none, done, bind, weaken, choice, sign_ahead, word_ahead, take_sign, take_word, take_name}
use Rattle.expr_parser.proofs.TypesSound.{type_sound, past_result_sound, lead_sound}
use Rattle.expr_parser.proofs.PartsSound.{Sound, More, one_item, no_item, more_items, all_items, exprs_sound, block_sound, local_body_sound}
use Rattle.expr_parser.proofs.OperatorsSound.{named_ahead}

module _ (inner : Inner) (sound : Sound inner) where
  -- ---- parts of statements

  variable_sound : (ts : Tokens) → Says (λ x. IsDeclared ts x.0 x.1) (p.variable inner ts)
  unfolding p.variable
  variable_sound ts = take_name ts (λ t. t ≡ ts) refl (λ x e. choice (next_sign s.Assign x.1)
      (λ y. let b = sign_ahead s.Assign x.1 y in
      bind (sound.expr (behind x.1)) (λ a d. done (subst (λ (t : Tokens). IsDeclared t (v.Initialised x.0 a.0) a.1) (ap (λ (t : Tokens). ident x.0.text x.0.span ∷ t) b.1 ∙ e) (g.value d.0))))
      (λ n. done (subst (λ (t : Tokens). IsDeclared t (v.Unset x.0) x.1) e g.no_value)))

  variables_from_sound : (n : ℕ) (found : List Variable) (ts : Tokens) → Says (λ x. More (λ xs. AreDeclared ts xs x.1) found x.0) (p.variables_from inner n found ts)
  unfolding p.variables_from
  variables_from_sound zero found ts = none
  variables_from_sound (suc n) found ts = bind (variable_sound ts) (λ x d. choice (next_sign s.Comma x.1)
      (λ y. let b = sign_ahead s.Comma x.1 y in
      weaken (λ z m. more_items x.0 (λ xs k. g.more_declared (subst (λ (t : Tokens). IsDeclared ts x.0 t) (sym b.1) d) k) m) (variables_from_sound n (found ++ x.0 ∷ []) (behind x.1)))
      (λ _. done (one_item x.0 (g.last_declared d))))

  pub variables_sound : (ts : Tokens) → Says (λ x. AreVariables ts x.0.0 x.0.1 x.1) (p.variables inner ts)
  unfolding p.variables
  variables_sound ts = bind (lead_sound ts) (λ l d. bind (variables_from_sound (length l.1) [] l.1) (λ xs m.
      take_sign s.Semicolon xs.1 (λ t. AreDeclared l.1 xs.0 t) (all_items m) (λ q k. done (g.variables d k))))

  -- an expression in its brackets
  record Bracketed (ts : Tokens) (a : Expr) (rest : Tokens) : Type 0 where
    opened : Span
    close : Span
    inside : Tokens
    is : sign s.OpenParen opened ∷ inside ≡ ts
    derived : IsExpr inside a (sign s.CloseParen close ∷ rest)

  condition_sound : (ts : Tokens) → Says (λ x. Bracketed ts x.0 x.1) (p.condition inner ts)
  unfolding p.condition
  condition_sound ts = take_sign s.OpenParen ts (λ t. t ≡ ts) refl (λ o e. bind (sound.expr o.1) (λ a d. take_sign s.CloseParen a.1 (λ t. IsExpr o.1 a.0 t) d.0
      (λ q k. done (record { opened = o.0; close = q.0; inside = o.1; is = e; derived = k }))))

  -- ---- declarations and expressions

  declare_sound : (ts : Tokens) → kind_of ts ≡ OfVariables → Says (λ x. IsStmt ts x.0 x.1) (p.declare inner ts)
  unfolding p.declare
  declare_sound ts h = bind (variables_sound ts) (λ x d. done (g.declare h d))

  -- a name, parameters and a body
  record IsLocal (from : ℕ) (ts : Tokens) (x : Stmt) (rest : Tokens) : Type 0 where
    name : Name
    parameters : Parameters
    body : Body
    to : ℕ
    mid : Tokens
    after : Tokens
    is : ident name.text name.span ∷ mid ≡ ts
    has : IsParameters mid parameters after
    does : IsLocalBody after body to rest
    same : c.LocalFunction (span from to) name parameters body ≡ x

  local_function_sound : (from : ℕ) (ts : Tokens) → Says (λ x. IsLocal from ts x.0 x.1) (p.local_function inner from ts)
  unfolding p.local_function
  local_function_sound from ts = take_name ts (λ t. t ≡ ts) refl (λ x e. bind (sound.parameters x.1) (λ ps d. bind (local_body_sound inner sound ps.1)
      (λ b k. done (record { name = x.0; parameters = ps.0; body = b.0.0; to = b.0.1; mid = x.1; after = ps.1; is = e; has = d; does = k; same = refl }))))

  typed_function_sound : (ts : Tokens) → kind_of ts ≡ Typed → Says (λ x. IsStmt ts x.0 x.1) (p.typed_function inner ts)
  unfolding p.typed_function
  typed_function_sound ts h = bind (past_result_sound ts) (λ mid d. weaken (λ x l. subst (λ (z : Stmt). IsStmt ts z x.1) l.same
      (g.typed_function h (subst (MayHaveResult ts) (sym l.is) d) l.has l.does)) (local_function_sound (start ts) mid))

  untyped_function_sound : (ts : Tokens) → kind_of ts ≡ Untyped → Says (λ x. IsStmt ts x.0 x.1) (p.local_function inner (start ts) ts)
  untyped_function_sound ts h = weaken (λ x l. subst (λ (z : Stmt). IsStmt ts z x.1) l.same
      (subst (λ (t : Tokens). IsStmt t (c.LocalFunction (span (start t) l.to) l.name l.parameters l.body) x.1) l.is (g.untyped_function (ap kind_of l.is ∙ h) l.has l.does)))
      (local_function_sound (start ts) ts)

  evaluate_sound : (ts : Tokens) → kind_of ts ≡ Expression → Says (λ x. IsStmt ts x.0 x.1) (p.evaluate inner ts)
  unfolding p.evaluate
  evaluate_sound ts h = choice (begins_map ts) (λ y. none) (λ n. bind (sound.expr ts) (λ a d. take_sign s.Semicolon a.1 (λ t. IsExpr ts a.0 t) d.0
      (λ q k. done (g.evaluate h n k))))

  kinded_sound : (k : Kind) (ts : Tokens) → kind_of ts ≡ k → Says (λ x. IsStmt ts x.0 x.1) (p.kinded inner k ts)
  kinded_sound OfVariables ts h = declare_sound ts h
  kinded_sound Typed ts h = typed_function_sound ts h
  kinded_sound Untyped ts h = untyped_function_sound ts h
  kinded_sound Expression ts h = evaluate_sound ts h

  simple_sound : (ts : Tokens) → Says (λ x. IsStmt ts x.0 x.1) (p.simple inner ts)
  unfolding p.simple
  simple_sound ts = kinded_sound (kind_of ts) ts refl

  nested_block_sound : (ts : Tokens) → Says (λ x. IsStmt ts x.0 x.1) (p.nested_block inner ts)
  unfolding p.nested_block
  nested_block_sound ts = bind (block_sound inner sound ts) (λ x d. done (g.nested_block d))

  -- ---- statements that begin with a word, which stands at q

  otherwise_sound : (q : Span) (a : Expr) (x : Stmt) (ts mid after : Tokens) → Bracketed ts a mid → IsStmt mid x after
      → Says (λ y. IsStmt (word w.If q ∷ ts) y.0 y.1) (p.otherwise inner q.from a x after)
  unfolding p.otherwise
  otherwise_sound q a x ts mid after b d = choice (next_word w.Else after)
      (λ y. let l = word_ahead w.Else after y in
      bind (sound.stmt (behind after)) (λ z k. done (subst (λ (t : Tokens). IsStmt (word w.If q ∷ t) (c.IfElse (span q.from (stmt_span z.0).to) a x z.0) z.1) b.is
      (g.if_else b.derived (subst (λ (t : Tokens). IsStmt mid x t) (sym l.1) d) k))))
      (λ n. done (subst (λ (t : Tokens). IsStmt (word w.If q ∷ t) (c.If (span q.from (stmt_span x).to) a x) after) b.is (g.if' b.derived d n)))

  choose_sound : (q : Span) (ts : Tokens) → Says (λ x. IsStmt (word w.If q ∷ ts) x.0 x.1) (p.choose inner q.from ts)
  unfolding p.choose
  choose_sound q ts = bind (condition_sound ts) (λ a b. bind (sound.stmt a.1) (λ x d. otherwise_sound q a.0 x.0 ts a.1 x.1 b d))

  repeat_sound : (q : Span) (ts : Tokens) → Says (λ x. IsStmt (word w.While q ∷ ts) x.0 x.1) (p.repeat inner q.from ts)
  unfolding p.repeat
  repeat_sound q ts = bind (condition_sound ts) (λ a b. bind (sound.stmt a.1) (λ x d.
      done (subst (λ (t : Tokens). IsStmt (word w.While q ∷ t) (c.While (span q.from (stmt_span x.0).to) a.0 x.0) x.1) b.is (g.while b.derived d))))

  repeat_once_sound : (q : Span) (ts : Tokens) → Says (λ x. IsStmt (word w.Do q ∷ ts) x.0 x.1) (p.repeat_once inner q.from ts)
  unfolding p.repeat_once
  repeat_once_sound q ts = bind (sound.stmt ts) (λ x d. take_word w.While x.1 (λ t. t ≡ x.1) refl (λ l e. bind (condition_sound l.1) (λ a b.
      take_sign s.Semicolon a.1 (λ t. IsExpr b.inside a.0 (sign s.CloseParen b.close ∷ t)) b.derived (λ z k.
      done (g.do' (subst (λ (t : Tokens). IsStmt ts x.0 t) (sym (ap (λ (t : Tokens). word w.While l.0 ∷ t) b.is ∙ e)) d) k)))))

  -- what may be tested, and the `;` behind it
  record Tested (ts : Tokens) (a : Option Expr) (rest : Tokens) : Type 0 where
    end : Span
    test : MayBeExpr ts a (sign s.Semicolon end ∷ rest)

  loop_test_sound : (ts : Tokens) → Says (λ x. Tested ts x.0 x.1) (p.loop_test inner ts)
  unfolding p.loop_test
  loop_test_sound ts = choice (next_sign s.Semicolon ts)
      (λ y. let b = sign_ahead s.Semicolon ts y in done (record { end = b.0; test = subst (MayBeExpr ts None) (sym b.1) (g.no_expr y) }))
      (λ _. bind (sound.expr ts) (λ a d. take_sign s.Semicolon a.1 (λ t. IsExpr ts a.0 t) d.0 (λ q k. done (record { end = q.0; test = g.an_expr k }))))

  updates_sound : (ts : Tokens) → Says (λ x. AreUpdates ts x.0 x.1) (p.closed_exprs inner s.CloseParen ts)
  unfolding p.closed_exprs
  updates_sound ts = choice (next_sign s.CloseParen ts)
      (λ y. let b = sign_ahead s.CloseParen ts y in done (subst (λ (t : Tokens). AreUpdates t [] (behind ts)) b.1 g.no_updates))
      (λ _. bind (exprs_sound inner sound s.CloseParen ts) (λ xs d. take_sign s.CloseParen xs.1 (λ t. AreExprs ts xs.0 t) d (λ q k. done (g.updates k))))

  record Firsts (ts : Tokens) (xs : List Expr) (rest : Tokens) : Type 0 where
    end : Span
    exprs : MayBeExprs ts xs (sign s.Semicolon end ∷ rest)

  firsts_sound : (ts : Tokens) → Says (λ x. Firsts ts x.0 x.1) (p.closed_exprs inner s.Semicolon ts)
  unfolding p.closed_exprs
  firsts_sound ts = choice (next_sign s.Semicolon ts)
      (λ y. let b = sign_ahead s.Semicolon ts y in done (record { end = b.0; exprs = subst (MayBeExprs ts []) (sym b.1) (g.no_exprs y) }))
      (λ _. bind (exprs_sound inner sound s.Semicolon ts) (λ xs d. take_sign s.Semicolon xs.1 (λ t. AreExprs ts xs.0 t) d (λ q k. done (record { end = q.0; exprs = g.some_exprs k }))))

  loop_declared_sound : (q o : Span) (ts : Tokens) → for_kind_of ts ≡ Declared → Says (λ x. IsStmt (word w.For q ∷ sign s.OpenParen o ∷ ts) x.0 x.1) (p.loop_declared inner q.from ts)
  unfolding p.loop_declared
  loop_declared_sound q o ts h = bind (variables_sound ts) (λ x d. bind (loop_test_sound x.1) (λ a k. bind (updates_sound a.1) (λ xs i. bind (sound.stmt xs.1) (λ y j.
      done (g.for_declared h d k.test i j)))))

  loop_plain_sound : (q o : Span) (ts : Tokens) → for_kind_of ts ≡ Expressions → Says (λ x. IsStmt (word w.For q ∷ sign s.OpenParen o ∷ ts) x.0 x.1) (p.loop_plain inner q.from ts)
  unfolding p.loop_plain
  loop_plain_sound q o ts h = bind (firsts_sound ts) (λ ys d. bind (loop_test_sound ys.1) (λ a k. bind (updates_sound a.1) (λ xs i. bind (sound.stmt xs.1) (λ y j.
      done (g.for' h d.exprs k.test i j)))))

  record Each (ts : Tokens) (a : Expr) (x : Stmt) (rest : Tokens) : Type 0 where
    close : Span
    after : Tokens
    values : IsExpr ts a (sign s.CloseParen close ∷ after)
    body : IsStmt after x rest

  each_sound : (ts : Tokens) → Says (λ x. Each ts x.0.0 x.0.1 x.1) (p.each inner ts)
  unfolding p.each
  each_sound ts = bind (sound.expr ts) (λ a d. take_sign s.CloseParen a.1 (λ t. IsExpr ts a.0 t) d.0 (λ q k. bind (sound.stmt q.1)
      (λ y j. done (record { close = q.0; after = q.1; values = k; body = j }))))

  loop_in_declared_sound : (q o : Span) (ts : Tokens) → for_kind_of ts ≡ DeclaredIn → Says (λ x. IsStmt (word w.For q ∷ sign s.OpenParen o ∷ ts) x.0 x.1) (p.loop_in_declared inner q.from ts)
  unfolding p.loop_in_declared
  loop_in_declared_sound q o ts h = bind (lead_sound ts) (λ l d. take_name l.1 (λ t. IsLead ts l.0 t) d (λ x k. take_word w.In x.1 (λ t. IsLead ts l.0 (ident x.0.text x.0.span ∷ t)) k
      (λ i n. bind (each_sound i.1) (λ y j. done (g.for_in_declared h n j.values j.body)))))

  loop_in_sound : (q o : Span) (ts : Tokens) → Says (λ x. IsStmt (word w.For q ∷ sign s.OpenParen o ∷ ts) x.0 x.1) (p.loop_in inner q.from ts)
  unfolding p.loop_in
  loop_in_sound q o ts = take_name ts (λ t. t ≡ ts) refl (λ x e. take_word w.In x.1 (λ t. ident x.0.text x.0.span ∷ t ≡ ts) e (λ i n. bind (each_sound i.1) (λ y j.
      done (subst (λ (t : Tokens). IsStmt (word w.For q ∷ sign s.OpenParen o ∷ t) (c.ForIn (span q.from (stmt_span y.0.1).to) x.0 y.0.0 y.0.1) y.1) n (g.for_in j.values j.body)))))

  loop_by_sound : (k : ForKind) (q o : Span) (ts : Tokens) → for_kind_of ts ≡ k → Says (λ x. IsStmt (word w.For q ∷ sign s.OpenParen o ∷ ts) x.0 x.1) (p.loop_by inner k q.from ts)
  loop_by_sound In q o ts h = loop_in_sound q o ts
  loop_by_sound DeclaredIn q o ts h = loop_in_declared_sound q o ts h
  loop_by_sound Declared q o ts h = loop_declared_sound q o ts h
  loop_by_sound Expressions q o ts h = loop_plain_sound q o ts h

  for_loop_sound : (q : Span) (ts : Tokens) → Says (λ x. IsStmt (word w.For q ∷ ts) x.0 x.1) (p.for_loop inner q.from ts)
  unfolding p.for_loop
  for_loop_sound q ts = take_sign s.OpenParen ts (λ t. t ≡ ts) refl (λ o e.
      subst (λ (t : Tokens). Says (λ x. IsStmt (word w.For q ∷ t) x.0 x.1) (p.loop_by inner (for_kind_of o.1) q.from o.1)) e (loop_by_sound (for_kind_of o.1) q o.0 o.1 refl))

  break_sound : (q : Span) (ts : Tokens) → Says (λ x. IsStmt (word w.Break q ∷ ts) x.0 x.1) (p.break_loop inner q.from ts)
  unfolding p.break_loop
  break_sound q ts = take_sign s.Semicolon ts (λ t. t ≡ ts) refl (λ z e. done (subst (λ (t : Tokens). IsStmt (word w.Break q ∷ t) (c.Break (span q.from z.0.to)) z.1) e g.break'))

  continue_sound : (q : Span) (ts : Tokens) → Says (λ x. IsStmt (word w.Continue q ∷ ts) x.0 x.1) (p.continue_loop inner q.from ts)
  unfolding p.continue_loop
  continue_sound q ts = take_sign s.Semicolon ts (λ t. t ≡ ts) refl (λ z e. done (subst (λ (t : Tokens). IsStmt (word w.Continue q ∷ t) (c.Continue (span q.from z.0.to)) z.1) e g.continue'))

  leave_sound : (q : Span) (ts : Tokens) → Says (λ x. IsStmt (word w.Return q ∷ ts) x.0 x.1) (p.leave inner q.from ts)
  unfolding p.leave
  leave_sound q ts = choice (next_sign s.Semicolon ts)
      (λ _. take_sign s.Semicolon ts (λ t. t ≡ ts) refl (λ z e. done (subst (λ (t : Tokens). IsStmt (word w.Return q ∷ t) (c.Return (span q.from z.0.to)) z.1) e g.return')))
      (λ _. bind (sound.expr ts) (λ a d. take_sign s.Semicolon a.1 (λ t. IsExpr ts a.0 t) d.0 (λ z k. done (g.return_value k))))

  throw_again_sound : (q : Span) (ts : Tokens) → Says (λ x. IsStmt (word w.Rethrow q ∷ ts) x.0 x.1) (p.throw_again inner q.from ts)
  unfolding p.throw_again
  throw_again_sound q ts = take_sign s.Semicolon ts (λ t. t ≡ ts) refl (λ z e. done (subst (λ (t : Tokens). IsStmt (word w.Rethrow q ∷ t) (c.Rethrow (span q.from z.0.to)) z.1) e g.rethrow'))

  asserted_sound : (q : Span) (ts : Tokens) → Says (λ x. IsStmt (word w.Assert q ∷ ts) x.0 x.1) (p.asserted inner q.from ts)
  unfolding p.asserted
  asserted_sound q ts = bind (condition_sound ts) (λ a b. take_sign s.Semicolon a.1 (λ t. IsExpr b.inside a.0 (sign s.CloseParen b.close ∷ t)) b.derived (λ z k.
      done (subst (λ (t : Tokens). IsStmt (word w.Assert q ∷ t) (c.Assert (span q.from z.0.to)) z.1) b.is (g.assert' k))))

  -- ---- `try`

  record Caught (ts : Tokens) (x : Name) (rest : Tokens) : Type 0 where
    opened : Span
    close : Span
    is : sign s.OpenParen opened ∷ ident x.text x.span ∷ sign s.CloseParen close ∷ rest ≡ ts

  caught_sound : (ts : Tokens) → Says (λ x. Caught ts x.0 x.1) (p.caught ts)
  unfolding p.caught
  caught_sound ts = take_sign s.OpenParen ts (λ t. t ≡ ts) refl (λ o e. take_name o.1 (λ t. sign s.OpenParen o.0 ∷ t ≡ ts) e (λ x k.
      take_sign s.CloseParen x.1 (λ t. sign s.OpenParen o.0 ∷ ident x.0.text x.0.span ∷ t ≡ ts) k (λ q n. done (record { opened = o.0; close = q.0; is = n }))))

  catch_all_sound : (q : Span) (ts : Tokens) → Says (λ x. IsCatch (word w.Catch q ∷ ts) x.0 x.1) (p.catch_all inner q.from ts)
  unfolding p.catch_all
  catch_all_sound q ts = bind (caught_sound ts) (λ x h. bind (block_sound inner sound x.1) (λ ys d.
      done (subst (λ (t : Tokens). IsCatch (word w.Catch q ∷ t) (record { span = span q.from ys.0.1; type_names = None; name = Some x.0; body = ys.0.0 }) ys.1) h.is (g.catch d))))

  data MayCatch : Tokens → Option Name → Tokens → Type 0 where
    no_catch : {ts : Tokens} → next_word w.Catch ts ≡ false → MayCatch ts None ts
    a_catch : {q o r : Span} {x : Name} {rest : Tokens} → MayCatch (word w.Catch q ∷ sign s.OpenParen o ∷ ident x.text x.span ∷ sign s.CloseParen r ∷ rest) (Some x) rest

  may_catch_sound : (ts : Tokens) → Says (λ x. MayCatch ts x.0 x.1) (p.may_catch ts)
  unfolding p.may_catch
  may_catch_sound ts = choice (next_word w.Catch ts)
      (λ y. let b = word_ahead w.Catch ts y in
      bind (caught_sound (behind ts)) (λ x h. done (subst (λ (t : Tokens). MayCatch t (Some x.0) x.1) (ap (λ (t : Tokens). word w.Catch b.0 ∷ t) h.is ∙ b.1) a_catch)))
      (λ n. done (no_catch n))

  typed_catch : {q : Span} {xs : List Name} {x : Option Name} {ys : List Stmt} {i j : ℕ} {ts mid after rest : Tokens} → IsType ts xs i mid → MayCatch mid x after → IsBlock after ys j rest
      → IsCatch (ident on_word q ∷ ts) (record { span = span q.from j; type_names = Some xs; name = x; body = ys }) rest
  typed_catch d (no_catch n) k = g.on d n k
  typed_catch d a_catch k = g.on_catch d k

  catch_typed_sound : (q : Span) (ts : Tokens) → Says (λ x. IsCatch (ident on_word q ∷ ts) x.0 x.1) (p.catch_typed inner q.from ts)
  unfolding p.catch_typed
  catch_typed_sound q ts = bind (type_sound ts) (λ xs d. bind (may_catch_sound xs.1) (λ x m. bind (block_sound inner sound x.1) (λ ys k. done (typed_catch d m k))))

  named_on : (a b c : Bool) → (a || (b && c)) ≡ true → a ≡ false → b ≡ true
  named_on true b c h n = absurd cc
  named_on false true c h n = refl
  named_on false false c h n = absurd cc

  clause_sound : (ts : Tokens) → begins_clause ts ≡ true → Says (λ x. IsCatch ts x.0 x.1) (p.clause inner ts)
  unfolding p.clause begins_clause
  clause_sound ts h = choice (next_word w.Catch ts)
      (λ y. let b = word_ahead w.Catch ts y in
      subst (λ (t : Tokens). Says (λ x. IsCatch t x.0 x.1) (p.catch_all inner (start t) (behind ts))) b.1 (catch_all_sound b.0 (behind ts)))
      (λ n. let b = named_ahead on_word ts (named_on (next_word w.Catch ts) (next (is_named on_word) ts) (is_before_clause (type_end (behind ts))) h n) in
      subst (λ (t : Tokens). Says (λ x. IsCatch t x.0 x.1) (p.catch_typed inner (start t) (behind ts))) b.1 (catch_typed_sound b.0 (behind ts)))

  clauses_from_sound : (n : ℕ) (found : List Catch) (i : ℕ) (ts : Tokens) → Says (λ x. More (λ xs. AreCatches i ts xs x.0.1 x.1) found x.0.0) (p.clauses_from inner n found i ts)
  unfolding p.clauses_from
  clauses_from_sound zero found i ts = none
  clauses_from_sound (suc n) found i ts = choice (begins_clause ts)
      (λ y. bind (clause_sound ts y) (λ x d. weaken (λ z m. more_items x.0 (λ xs k. g.catches y d k) m) (clauses_from_sound n (found ++ x.0 ∷ []) x.0.span.to x.1)))
      (λ n. done (no_item (g.no_catches n)))

  without_finally_sound : (q : Span) (xs : List Stmt) (ds : List Catch) (i j : ℕ) (ts mid rest : Tokens) → IsBlock ts xs i mid → AreCatches i mid ds j rest → next_word w.Finally rest ≡ false
      → Says (λ x. IsStmt (word w.Try q ∷ ts) x.0 x.1) (p.without_finally q.from xs ds j rest)
  without_finally_sound q xs [] i j ts mid rest d k n = none
  without_finally_sound q xs (x ∷ ds) i j ts mid rest d k n = done (g.try' d k n)

  attempt_sound : (q : Span) (ts : Tokens) → Says (λ x. IsStmt (word w.Try q ∷ ts) x.0 x.1) (p.attempt inner q.from ts)
  unfolding p.attempt p.with_finally
  attempt_sound q ts = bind (block_sound inner sound ts) (λ xs d. bind (clauses_from_sound (length ts) [] xs.0.1 xs.1) (λ ds m. choice (next_word w.Finally ds.1)
      (λ y. let b = word_ahead w.Finally ds.1 y in
      bind (block_sound inner sound (behind ds.1)) (λ ys k. done (g.try_finally d (subst (λ (t : Tokens). AreCatches xs.0.1 xs.1 ds.0.0 ds.0.1 t) (sym b.1) (all_items m)) k)))
      (λ n. without_finally_sound q xs.0.0 ds.0.0 xs.0.1 ds.0.1 ts xs.1 ds.1 d (all_items m) n)))

  -- ---- statements

  word_statement_sound : (x : Word) (q : Span) (ts : Tokens) → Says (λ y. IsStmt (word x q ∷ ts) y.0 y.1) (p.word_statement inner x q.from (word x q ∷ ts) ts)
  word_statement_sound w.If q ts = choose_sound q ts
  word_statement_sound w.While q ts = repeat_sound q ts
  word_statement_sound w.Do q ts = repeat_once_sound q ts
  word_statement_sound w.For q ts = for_loop_sound q ts
  word_statement_sound w.Break q ts = break_sound q ts
  word_statement_sound w.Continue q ts = continue_sound q ts
  word_statement_sound w.Return q ts = leave_sound q ts
  word_statement_sound w.Rethrow q ts = throw_again_sound q ts
  word_statement_sound w.Assert q ts = asserted_sound q ts
  word_statement_sound w.Try q ts = attempt_sound q ts
  word_statement_sound x q ts = simple_sound (word x q ∷ ts)

  sign_statement_sound : (x : Sign) (q : Span) (ts : Tokens) → Says (λ y. IsStmt (sign x q ∷ ts) y.0 y.1) (p.statement_by inner (f.Sign x) q.from q.to (sign x q ∷ ts) ts)
  sign_statement_sound s.OpenBrace q ts = nested_block_sound (sign s.OpenBrace q ∷ ts)
  sign_statement_sound s.Semicolon q ts = done g.empty
  sign_statement_sound x q ts = simple_sound (sign x q ∷ ts)

  statement_by_sound : (form : Form) (q : Span) (ts : Tokens) → Says (λ y. IsStmt (token form q ∷ ts) y.0 y.1) (p.statement_by inner form q.from q.to (token form q ∷ ts) ts)
  statement_by_sound (f.Sign x) q ts = sign_statement_sound x q ts
  statement_by_sound (f.Word x) q ts = word_statement_sound x q ts
  statement_by_sound form q ts = simple_sound (token form q ∷ ts)

  pub statement_sound : (ts : Tokens) → Says (λ y. IsStmt ts y.0 y.1) (p.statement inner ts)
  unfolding p.statement
  statement_sound [] = none
  statement_sound (t ∷ ts) = statement_by_sound t.form (span t.from t.to) ts
