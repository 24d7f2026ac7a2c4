-- Arguments, parameters, blocks and texts are parsed, as far as what nests is.
use Rattle.std.proofs.Common.{◌≡◌, ℕ, zero, suc, ◌<◌, ◌≤◌, Bool, true, false, List, [], ◌∷◌, ◌++◌, length, Option, Some, refl, sym, ap, ◌∙◌, arith, append_assoc}
use Rattle.std.proofs.lemmas.List.{append-nil}
use Rattle.dart_syntax.specs.declared.words.Sign.{Sign}
use Rattle.dart_syntax.specs.declared.words.Sign.TheVariants as s
use Rattle.dart_grammar.specs.declared.trees.Span.{Span}
use Rattle.dart_grammar.specs.declared.trees.Name.{Name}
use Rattle.dart_grammar.specs.declared.trees.Expr.{Expr}
use Rattle.dart_grammar.specs.declared.trees.Stmt.{Stmt}
use Rattle.dart_grammar.specs.declared.trees.Body.{Body}
use Rattle.dart_grammar.specs.declared.trees.Arguments.{Arguments}
use Rattle.dart_grammar.specs.declared.trees.Entry.{Entry}
use Rattle.dart_grammar.specs.declared.trees.Interpolation.{Interpolation}
use Rattle.dart_grammar.specs.declared.trees.OptionalParameter.{OptionalParameter}
use Rattle.dart_grammar.specs.declared.trees.Parameter.{Parameter}
use Rattle.dart_grammar.specs.declared.trees.Parameters.{Parameters}
use Rattle.dart_grammar.specs.Marks.{Tokens, same_sign, same_word, is_text_open, next, next_sign, behind, looseness}
use Rattle.dart_grammar.specs.Grammar as g
use Rattle.dart_grammar.specs.Grammar.{start, IsExpr, AreExprs, AreEntries, AreArguments, MayHaveArguments, IsLastComma, IsParameters, AreParameters, AreOptional, IsOptional, IsParameter, MayBeFinal, MayHaveThis, MayHaveParameters, IsMetadata, AreMetadataNames, IsStmt, AreStmts, IsBlock, IsLiteralBody, IsLocalBody, AreTexts, IsText, AreParts}
use Rattle.expr_parser.specs.Cursor.{sign_at, word_at, name_at}
use Rattle.expr_parser.specs.Inner.{Inner}
use Rattle.expr_parser.specs.Lists as l
use Rattle.expr_parser.specs.Parameters as r
use Rattle.expr_parser.specs.Blocks as b
use Rattle.expr_parser.specs.Texts as x
use Rattle.expr_parser.specs.declared.texts.Merged.{Merged}
use Rattle.expr_parser.specs.Texts.{is_enter, merged}
use Rattle.expr_parser.proofs.Shrinks.{expr_shrinks, stmt_shrinks, parameter_shrinks, optional_shrinks, may_have_result_shrinks, may_be_final_shrinks, may_have_this_shrinks, may_have_arguments_shrinks, metadata_shrinks, are_metadata_names_shrink, text_shrinks, are_parameters_shrink}
use Rattle.expr_parser.proofs.TypesComplete.{dotted_complete, past_result_complete}
use Rattle.expr_parser.proofs.Firsts.{sign_begins, exprs_no_sign, entries_no_sign, parameter_first, stmt_no_close}
use Rattle.expr_parser.proofs.Merging.{merged_assoc}

-- What is derived of what nests is answered, where no more tokens are left than the number says.
pub record Complete (n : ℕ) (g : Inner) : Type 0 where
  pub expr : {ts rest : Tokens} {a : Expr} → IsExpr ts a rest → length ts ≤ n → looseness rest ≡ 10 → g.expr ts ≡ Some (a, rest)
  pub stmt : {ts rest : Tokens} {a : Stmt} → IsStmt ts a rest → length ts < n → g.stmt ts ≡ Some (a, rest)
  pub parameters : {ts rest : Tokens} {a : Parameters} → IsParameters ts a rest → length ts ≤ suc n → g.parameters ts ≡ Some (a, rest)

pub bracket_comma_complete : {ts rest : Tokens} {j : ℕ} → IsLastComma ts s.CloseBracket j rest → (l.last_comma s.CloseBracket ts ≡ Some (j, rest)) × (looseness ts ≡ 10) × (l.goes_on s.CloseBracket ts ≡ false)
unfolding l.last_comma sign_at same_sign
bracket_comma_complete g.no_comma = (refl, refl, refl)
bracket_comma_complete g.comma = (refl, refl, refl)

pub brace_comma_complete : {ts rest : Tokens} {j : ℕ} → IsLastComma ts s.CloseBrace j rest → (l.last_comma s.CloseBrace ts ≡ Some (j, rest)) × (looseness ts ≡ 10) × (l.goes_on s.CloseBrace ts ≡ false)
unfolding l.last_comma sign_at same_sign
brace_comma_complete g.no_comma = (refl, refl, refl)
brace_comma_complete g.comma = (refl, refl, refl)

metadata_names_complete : {ts rest : Tokens} {xs : List Name} → AreMetadataNames ts xs rest → r.past_metadata_names ts ≡ Some rest
unfolding r.past_metadata_names name_at same_sign
metadata_names_complete (g.up_to_two d n) = rw (dotted_complete d, n) refl
metadata_names_complete (g.three d) = rw (dotted_complete d) refl

finality_complete : {ts rest : Tokens} {b : Bool} → MayBeFinal ts b rest → r.finality ts ≡ (b, rest)
unfolding same_word
finality_complete (g.neither v n) = rw (v, n) refl
finality_complete g.var = refl
finality_complete g.final = refl

this_complete : {ts rest : Tokens} {p : Option Span} → MayHaveThis ts p rest → r.this_at ts ≡ Some (p, rest)
unfolding r.this_at word_at sign_at same_word same_sign
this_complete (g.no_this n) = rw n refl
this_complete g.has_this = refl

pub two_parameter_tokens : {ts rest : Tokens} {a : Parameters} → IsParameters ts a rest → 1 < length ts
two_parameter_tokens g.no_parameters = omega arith
two_parameter_tokens (g.parameters d) = omega (arith, are_parameters_shrink d)

module _ (inner : Inner) (n : ℕ) (complete : Complete n inner) where
  -- ---- lists

  exprs_from_complete : (close : Sign) → sign_begins close ≡ false → {ts rest : Tokens} {xs : List Expr} → AreExprs ts xs rest → (k : ℕ) (found : List Expr) → length ts ≤ k → length ts ≤ n
      → looseness rest ≡ 10 → l.goes_on close rest ≡ false → l.exprs_from inner close k found ts ≡ Some (found ++ xs, rest)
  unfolding l.exprs_from same_sign
  exprs_from_complete close c (g.last_expr d) zero found i j h o = absurd (omega (arith, i, expr_shrinks d))
  exprs_from_complete close c (g.last_expr d) (suc k) found i j h o = rw (complete.expr d j h, o) refl
  exprs_from_complete close c (g.more_exprs d m) zero found i j h o = absurd (omega (arith, i, expr_shrinks d))
  exprs_from_complete close c (g.more_exprs {a = a} {xs = xs} d m) (suc k) found i j h o =
      rw (complete.expr d j refl, exprs_no_sign close c m, exprs_from_complete close c m k (found ++ a ∷ []) (omega (arith, i, expr_shrinks d)) (omega (arith, j, expr_shrinks d)) h o, append_assoc found (a ∷ []) xs) refl

  pub exprs_complete : (close : Sign) → sign_begins close ≡ false → {ts rest : Tokens} {xs : List Expr} → AreExprs ts xs rest → length ts ≤ n → looseness rest ≡ 10 → l.goes_on close rest ≡ false
      → l.exprs inner close ts ≡ Some (xs, rest)
  unfolding l.exprs
  exprs_complete close c {ts = ts} d j h o = exprs_from_complete close c d (length ts) [] (omega arith) j h o

  entries_from_complete : {ts rest : Tokens} {xs : List Entry} → AreEntries ts xs rest → (k : ℕ) (found : List Entry) → length ts ≤ k → length ts ≤ n
      → looseness rest ≡ 10 → l.goes_on s.CloseBrace rest ≡ false → l.entries_from inner k found ts ≡ Some (found ++ xs, rest)
  unfolding l.entries_from l.entry l.entry_value sign_at same_sign
  entries_from_complete (g.last_entry d v) zero found i j h o = absurd (omega (arith, i, expr_shrinks d))
  entries_from_complete (g.last_entry d v) (suc k) found i j h o = rw (complete.expr d j refl, complete.expr v (omega (arith, j, expr_shrinks d)) h, o) refl
  entries_from_complete (g.more_entries d v m) zero found i j h o = absurd (omega (arith, i, expr_shrinks d))
  entries_from_complete (g.more_entries {a = a} {d = z} {xs = xs} d v m) (suc k) found i j h o =
      rw (
        complete.expr d j refl,
        complete.expr v (omega (arith, j, expr_shrinks d)) refl,
        entries_no_sign s.CloseBrace refl m,
        entries_from_complete m k (found ++ record { key = a; value = z } ∷ []) (omega (arith, i, expr_shrinks d, expr_shrinks v)) (omega (arith, j, expr_shrinks d, expr_shrinks v)) h o,
        append_assoc found (record { key = a; value = z } ∷ []) xs,
      ) refl

  pub entries_complete : {ts rest : Tokens} {xs : List Entry} → AreEntries ts xs rest → length ts ≤ n → looseness rest ≡ 10 → l.goes_on s.CloseBrace rest ≡ false → l.entries inner ts ≡ Some (xs, rest)
  unfolding l.entries
  entries_complete {ts = ts} d j h o = entries_from_complete d (length ts) [] (omega arith) j h o

  pub arguments_complete : {ts rest : Tokens} {a : Arguments} → AreArguments ts a rest → length ts ≤ suc n → l.arguments inner ts ≡ Some (a, rest)
  unfolding l.arguments sign_at same_sign
  arguments_complete g.no_arguments j = refl
  arguments_complete (g.arguments d) j = rw (exprs_no_sign s.CloseParen refl d, exprs_complete s.CloseParen refl d (omega (arith, j)) refl (unfold same_sign in refl)) refl

  pub arguments_open : {ts rest : Tokens} {a : Arguments} → AreArguments ts a rest → next_sign s.OpenParen ts ≡ true
  unfolding same_sign
  arguments_open g.no_arguments = refl
  arguments_open (g.arguments d) = refl

  past_arguments_complete : {ts rest : Tokens} → MayHaveArguments ts rest → length ts ≤ suc n → l.past_arguments inner ts ≡ Some rest
  unfolding l.past_arguments
  past_arguments_complete (g.no_args m) j = rw m refl
  past_arguments_complete (g.has_args d) j = rw (arguments_open d, arguments_complete d j) refl

  -- ---- parameters

  pub metadata_complete : {ts rest : Tokens} → IsMetadata ts rest → (k : ℕ) → length ts ≤ k → 0 < length rest → length ts ≤ suc n → r.metadata_from inner k ts ≡ Some rest
  unfolding r.metadata_from same_sign
  metadata_complete (g.no_metadata m) zero i p j = absurd (omega (arith, i, p))
  metadata_complete (g.no_metadata m) (suc k) i p j = rw m refl
  metadata_complete (g.metadata a o m) zero i p j = absurd (omega (arith, i))
  metadata_complete (g.metadata a o m) (suc k) i p j =
      rw (
        metadata_names_complete a,
        past_arguments_complete o (omega (arith, j, are_metadata_names_shrink a)),
        metadata_complete m k (omega (arith, i, are_metadata_names_shrink a, may_have_arguments_shrinks o)) p (omega (arith, j, are_metadata_names_shrink a, may_have_arguments_shrinks o)),
      ) refl

  parameters_open : {ts rest : Tokens} {a : Parameters} → IsParameters ts a rest → next_sign s.OpenParen ts ≡ true
  unfolding same_sign
  parameters_open g.no_parameters = refl
  parameters_open (g.parameters d) = refl

  nested_complete : {ts rest : Tokens} {i j : ℕ} → MayHaveParameters i ts j rest → length ts ≤ suc n → r.nested_at inner i ts ≡ Some (j, rest)
  unfolding r.nested_at
  nested_complete (g.no_nested m) l = rw m refl
  nested_complete (g.nested d) l = rw (parameters_open d, complete.parameters d l) refl

  pub parameter_complete : {ts rest : Tokens} {x : Parameter} → IsParameter ts x rest → length ts ≤ suc n → r.parameter inner ts ≡ Some (x, rest)
  unfolding r.parameter r.past_metadata r.declared_parameter name_at
  parameter_complete {ts = ts} (g.parameter m q t h k) l =
      let late = may_have_this_shrinks h in
      let after = may_have_result_shrinks t in
      let mid = may_be_final_shrinks q in
      rw (
        metadata_complete m (length ts) (omega arith) (omega (arith, late, after, mid)) l,
        finality_complete q,
        past_result_complete t,
        this_complete h,
        nested_complete k (omega (arith, l, late, after, mid, metadata_shrinks m)),
      ) refl

  optional_parameter_complete : {ts rest : Tokens} {x : OptionalParameter} → IsOptional ts x rest → length ts ≤ n → next_sign s.Assign rest ≡ false → looseness rest ≡ 10 → r.optional_parameter inner ts ≡ Some (x, rest)
  unfolding r.optional_parameter same_sign
  optional_parameter_complete (g.no_default d) l a h = rw (parameter_complete d (omega (arith, l)), a) refl
  optional_parameter_complete (g.default d v) l a h = rw (parameter_complete d (omega (arith, l)), complete.expr v (omega (arith, l, parameter_shrinks d)) h) refl

  optional_from_complete : {ts rest : Tokens} {xs : List OptionalParameter} → AreOptional ts xs rest → (k : ℕ) (found : List OptionalParameter) → length ts ≤ k → length ts ≤ n
      → next_sign s.Comma rest ≡ false → next_sign s.Assign rest ≡ false → looseness rest ≡ 10 → r.optional_from inner k found ts ≡ Some (found ++ xs, rest)
  unfolding r.optional_from same_sign
  optional_from_complete (g.last_optional d) zero found i j c a h = absurd (omega (arith, i, optional_shrinks d))
  optional_from_complete (g.last_optional d) (suc k) found i j c a h = rw (optional_parameter_complete d j a h, c) refl
  optional_from_complete (g.more_optional d m) zero found i j c a h = absurd (omega (arith, i, optional_shrinks d))
  optional_from_complete (g.more_optional {x = z} {xs = xs} d m) (suc k) found i j c a h =
      rw (optional_parameter_complete d j (unfold same_sign in refl) refl, optional_from_complete m k (found ++ z ∷ []) (omega (arith, i, optional_shrinks d)) (omega (arith, j, optional_shrinks d)) c a h, append_assoc found (z ∷ []) xs) refl

  parameters_from_complete : {ts rest : Tokens} {xs : List Parameter} {ys : List OptionalParameter} → AreParameters ts xs ys rest → (k : ℕ) (found : List Parameter) → length ts ≤ k → length ts ≤ suc n
      → next_sign s.Comma rest ≡ false → r.parameters_from inner k found ts ≡ Some ((found ++ xs, ys), rest)
  unfolding r.parameters_from r.optional sign_at same_sign
  parameters_from_complete (g.last_parameter d) zero found i j c = absurd (omega (arith, i, parameter_shrinks d))
  parameters_from_complete (g.last_parameter d) (suc k) found i j c = rw ((parameter_first d).0, parameter_complete d j, c) refl
  parameters_from_complete (g.more_parameters d m) zero found i j c = absurd (omega (arith, i, parameter_shrinks d))
  parameters_from_complete (g.more_parameters {x = z} {xs = xs} d m) (suc k) found i j c =
      rw ((parameter_first d).0, parameter_complete d j, parameters_from_complete m k (found ++ z ∷ []) (omega (arith, i, parameter_shrinks d)) (omega (arith, j, parameter_shrinks d)) c, append_assoc found (z ∷ []) xs) refl
  parameters_from_complete (g.optional d) zero found i j c = absurd (omega (arith, i))
  parameters_from_complete (g.optional {ts = ts} d) (suc k) found i j c =
      rw (optional_from_complete d (length ts) [] (omega arith) (omega (arith, j)) (unfold same_sign in refl) (unfold same_sign in refl) refl, append-nil found) refl

  parameters_no_close : {ts rest : Tokens} {xs : List Parameter} {ys : List OptionalParameter} → AreParameters ts xs ys rest → next_sign s.CloseParen ts ≡ false
  unfolding same_sign
  parameters_no_close (g.last_parameter d) = (parameter_first d).1
  parameters_no_close (g.more_parameters d m) = (parameter_first d).1
  parameters_no_close (g.optional d) = refl

  pub parameters_complete : {ts rest : Tokens} {a : Parameters} → IsParameters ts a rest → length ts ≤ suc (suc n) → r.parameters inner ts ≡ Some (a, rest)
  unfolding r.parameters sign_at same_sign
  parameters_complete g.no_parameters j = refl
  parameters_complete (g.parameters {ts = ts} d) j = rw (parameters_no_close d, parameters_from_complete d (length ts) [] (omega arith) (omega (arith, j)) (unfold same_sign in refl)) refl

  -- ---- blocks

  stmts_from_complete : {ts rest : Tokens} {xs : List Stmt} → AreStmts ts xs rest → (k : ℕ) (found : List Stmt) → length ts ≤ k → length ts < n → next_sign s.CloseBrace rest ≡ true → 0 < length rest
      → b.stmts_from inner k found ts ≡ Some (found ++ xs, rest)
  unfolding b.stmts_from
  stmts_from_complete g.no_stmts zero found i j c p = absurd (omega (arith, i, p))
  stmts_from_complete g.no_stmts (suc k) found i j c p = rw (c, append-nil found) refl
  stmts_from_complete (g.stmts d m) zero found i j c p = absurd (omega (arith, i, stmt_shrinks d))
  stmts_from_complete (g.stmts {a = a} {xs = xs} d m) (suc k) found i j c p =
      rw (stmt_no_close d, complete.stmt d j, stmts_from_complete m k (found ++ a ∷ []) (omega (arith, i, stmt_shrinks d)) (omega (arith, j, stmt_shrinks d)) c p, append_assoc found (a ∷ []) xs) refl

  pub block_complete : {ts rest : Tokens} {xs : List Stmt} {j : ℕ} → IsBlock ts xs j rest → length ts ≤ n → b.block inner ts ≡ Some ((xs, j), rest)
  unfolding b.block sign_at same_sign
  block_complete (g.braces {ts = ts} d) j = rw (stmts_from_complete d (length ts) [] (omega arith) (omega (arith, j)) (unfold same_sign in refl) (omega arith)) refl

  block_no_arrow : {ts rest : Tokens} {xs : List Stmt} {j : ℕ} → IsBlock ts xs j rest → next_sign s.Arrow ts ≡ false
  unfolding same_sign
  block_no_arrow (g.braces d) = refl

  pub literal_body_complete : {ts rest : Tokens} {a : Body} {j : ℕ} → IsLiteralBody ts a j rest → length ts ≤ n → b.literal_body inner ts ≡ Some ((a, j), rest)
  unfolding b.literal_body same_sign
  literal_body_complete (g.gives d h) j = rw (complete.expr d (omega (arith, j)) h) refl
  literal_body_complete (g.block d) j = rw (block_no_arrow d, block_complete d j) refl

  pub local_body_complete : {ts rest : Tokens} {a : Body} {j : ℕ} → IsLocalBody ts a j rest → length ts ≤ n → b.local_body inner ts ≡ Some ((a, j), rest)
  unfolding b.local_body sign_at same_sign
  local_body_complete (g.gives_local d) j = rw (complete.expr d (omega (arith, j)) refl) refl
  local_body_complete (g.block_local d) j = rw (block_no_arrow d, block_complete d j) refl

  -- ---- texts

  parts_from_complete : {ts rest : Tokens} {ps : List Interpolation} {j : ℕ} → AreParts ts ps j rest → (k : ℕ) (found : List Interpolation) → length ts ≤ k → length ts ≤ suc n
      → x.parts_from inner k found ts ≡ Some ((found ++ ps, j), rest)
  unfolding x.parts_from x.interpolation x.past_leave x.piece x.text_close
  parts_from_complete g.close zero found i l = absurd (omega (arith, i))
  parts_from_complete g.close (suc k) found i l = rw (append-nil found) refl
  parts_from_complete (g.hole d m) zero found i l = absurd (omega (arith, i))
  parts_from_complete (g.hole {a = a} {us = us} {ps = ps} d m) (suc k) found i l =
      rw (
        complete.expr d (omega (arith, l)) refl,
        parts_from_complete m k (found ++ record { value = a; behind = us } ∷ []) (omega (arith, i, expr_shrinks d)) (omega (arith, l, expr_shrinks d)),
        append_assoc found (record { value = a; behind = us } ∷ []) ps,
      ) refl

  abbrev text_of : List ℕ → List Interpolation → ℕ → Merged
  text_of us ps j = record { first = us; parts = ps; to = j }

  text_complete : {ts rest : Tokens} {us : List ℕ} {ps : List Interpolation} {j : ℕ} → IsText ts us ps j rest → length ts ≤ suc n → x.text inner (behind ts) ≡ Some (text_of us ps j, rest)
  unfolding x.text x.piece
  text_complete (g.text {ts = ts} d) l = rw (parts_from_complete d (length ts) [] (omega arith) (omega (arith, l))) refl

  text_open : {ts rest : Tokens} {us : List ℕ} {ps : List Interpolation} {j : ℕ} → IsText ts us ps j rest → (next is_text_open ts ≡ true) × (1 < length ts)
  text_open (g.text d) = (refl, omega arith)

  pub texts_open : {ts rest : Tokens} {us : List ℕ} {ps : List Interpolation} {j : ℕ} → AreTexts ts us ps j rest → next is_text_open ts ≡ true
  texts_open (g.last_text d m) = (text_open d).0
  texts_open (g.more_texts d m) = (text_open d).0

  no_more_texts : (k : ℕ) (found : Merged) (rest : Tokens) → 0 < k → next is_text_open rest ≡ false → x.texts_from inner k found rest ≡ Some (found, rest)
  unfolding x.texts_from
  no_more_texts zero found rest p m = absurd (omega (arith, p))
  no_more_texts (suc k) found rest p m = rw m refl

  texts_from_complete : {ts rest : Tokens} {us : List ℕ} {ps : List Interpolation} {j : ℕ} → AreTexts ts us ps j rest → (k : ℕ) (found : Merged) → length ts ≤ k → length ts ≤ suc n
      → x.texts_from inner k found ts ≡ Some (merged found (text_of us ps j), rest)
  unfolding x.texts_from
  texts_from_complete (g.last_text d m) zero found i l = absurd (omega (arith, i, text_open d))
  texts_from_complete (g.last_text {us = us} {ps = ps} {j = j} {rest = rest} d m) (suc k) found i l =
      rw ((text_open d).0, text_complete d l) (no_more_texts k (merged found (text_of us ps j)) rest (omega (arith, i, (text_open d).1)) m)
  texts_from_complete (g.more_texts d m) zero found i l = absurd (omega (arith, i, text_open d))
  texts_from_complete (g.more_texts {us = us} {vs = vs} {ps = ps} {qs = qs} {i = e} {j = j} {rest = rest} d m) (suc k) found i l =
      rw ((text_open d).0, text_complete d l) (texts_from_complete m k (merged found (text_of us ps e)) (omega (arith, i, text_shrinks d)) (omega (arith, l, text_shrinks d))
      ∙ ap (λ (z : Merged). Some (z, rest)) (sym (merged_assoc found (text_of us ps e) (text_of vs qs j))))

  pub texts_complete : {ts rest : Tokens} {us : List ℕ} {ps : List Interpolation} {j : ℕ} → AreTexts ts us ps j rest → length ts ≤ suc n → x.texts inner ts ≡ Some (text_of us ps j, rest)
  unfolding x.texts
  texts_complete {ts = ts} (g.last_text {us = us} {ps = ps} {j = j} {rest = rest} d m) l = rw (text_complete d l) (no_more_texts (length ts) (text_of us ps j) rest (omega (arith, (text_open d).1)) m)
  texts_complete {ts = ts} (g.more_texts {us = us} {ps = ps} {i = e} d m) l = rw (text_complete d l) (texts_from_complete m (length ts) (text_of us ps e) (omega (arith, text_shrinks d)) (omega (arith, l, text_shrinks d)))
