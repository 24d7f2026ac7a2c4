-- What is derived closes each bracket that it opens.
use Rattle.std.proofs.Common.{◌≡◌, ℕ, suc, ◌-◌, Bool, false, List, ◌∷◌, Option, Some, refl, ◌∙◌, arith, inl, inr}
use Rattle.std.proofs.lemmas.Bool.Decides.{eqb_tells}
use Rattle.std.specs.Prelude.{◌==◌, if◌then◌else◌}
use Rattle.dart_syntax.specs.declared.words.Sign.{Sign}
use Rattle.dart_syntax.specs.declared.words.Sign.TheVariants as s
use Rattle.dart_syntax.specs.declared.tokens.Form.TheVariants as f
use Rattle.dart_grammar.specs.declared.trees.Operator.{Operator}
use Rattle.dart_grammar.specs.declared.trees.PrefixOperator.{PrefixOperator}
use Rattle.dart_grammar.specs.declared.trees.Assignment.{Assignment}
use Rattle.dart_grammar.specs.declared.trees.Step.{Step}
use Rattle.dart_grammar.specs.declared.trees.Span.{Span}
use Rattle.dart_grammar.specs.declared.trees.Name.{Name}
use Rattle.dart_grammar.specs.declared.trees.Expr.{Expr}
use Rattle.dart_grammar.specs.declared.trees.Head.{Head}
use Rattle.dart_grammar.specs.declared.trees.Selector.{Selector}
use Rattle.dart_grammar.specs.declared.trees.Target.{Target}
use Rattle.dart_grammar.specs.declared.trees.Stmt.{Stmt}
use Rattle.dart_grammar.specs.declared.trees.Body.{Body}
use Rattle.dart_grammar.specs.declared.trees.Arguments.{Arguments}
use Rattle.dart_grammar.specs.declared.trees.Catch.{Catch}
use Rattle.dart_grammar.specs.declared.trees.Entry.{Entry}
use Rattle.dart_grammar.specs.declared.trees.Interpolation.{Interpolation}
use Rattle.dart_grammar.specs.declared.trees.OptionalParameter.{OptionalParameter}
use Rattle.dart_grammar.specs.declared.trees.Parameter.{Parameter}
use Rattle.dart_grammar.specs.declared.trees.Parameters.{Parameters}
use Rattle.dart_grammar.specs.declared.trees.Variable.{Variable}
use Rattle.dart_grammar.specs.declared.trees.Variables.{Variables}
use Rattle.dart_grammar.specs.Marks.{Tokens, token, sign, same_sign, operator_of, prefix_of, step_of, assignment_of}
use Rattle.dart_grammar.specs.Shapes.{brackets_end}
use Rattle.dart_grammar.specs.Grammar as g
use Rattle.dart_grammar.specs.Grammar.{IsDotted, IsType, AreTypeArguments, AreTypes, MayHaveTypeArguments, MayHaveResult, IsLead, AreNewNames, IsExpr, IsConditional, IsLevel, IsOperated, IsUnary, IsTarget, AreSelectors, AreArguments, AreExprs, AreEntries, IsHead, IsLastComma, AreTexts, IsText, AreParts, IsLiteralBody, IsParameters, AreParameters, AreOptional, IsOptional, IsParameter, MayBeFinal, MayHaveThis, MayHaveParameters, IsMetadata, AreMetadataNames, MayHaveArguments, AreVariables, AreDeclared, IsDeclared, IsBlock, AreStmts, IsLocalBody, IsStmt, MayBeExpr, MayBeExprs, AreUpdates, AreCatches, IsCatch}

-- Where brackets are open, the tokens between take none of them away.
abbrev Passes : Tokens → Tokens → Type 0
Passes ts rest = (n : ℕ) → brackets_end (suc n) ts ≡ brackets_end (suc n) rest

-- with two open or more, one is left
pub still_open : (n : ℕ) → ((suc (suc n) == 1) ≡ false) × (suc (suc n) - 1 ≡ suc n)
still_open n = (elim (eqb_tells (suc (suc n)) 1) [ inl y ↦ absurd (omega (arith, y.1)) | inr y ↦ y.0 ], omega arith)

-- behind a bracket that closes an inner one
closed : (n : ℕ) (rest : Tokens) → (if suc (suc n) == 1 then Some rest else brackets_end (suc (suc n) - 1) rest) ≡ brackets_end (suc n) rest
closed n rest = rw ((still_open n).0, (still_open n).1) refl

-- ---- signs that are no brackets

operator_passes : (x : Sign) {o : Operator} → operator_of x ≡ Some o → (n : ℕ) (p : Span) (rest : Tokens) → brackets_end (suc n) (sign x p ∷ rest) ≡ brackets_end (suc n) rest
unfolding brackets_end same_sign
operator_passes s.Or h n p rest = refl
operator_passes s.And h n p rest = refl
operator_passes s.Equal h n p rest = refl
operator_passes s.NotEqual h n p rest = refl
operator_passes s.Less h n p rest = refl
operator_passes s.Greater h n p rest = refl
operator_passes s.LessEqual h n p rest = refl
operator_passes s.GreaterEqual h n p rest = refl
operator_passes s.Plus h n p rest = refl
operator_passes s.Minus h n p rest = refl
operator_passes s.Times h n p rest = refl
operator_passes s.Modulo h n p rest = refl
operator_passes s.Divide h n p rest = refl
operator_passes _ h n p rest = absurd cc

prefix_passes : (x : Sign) {o : PrefixOperator} → prefix_of x ≡ Some o → (n : ℕ) (p : Span) (rest : Tokens) → brackets_end (suc n) (sign x p ∷ rest) ≡ brackets_end (suc n) rest
unfolding brackets_end same_sign
prefix_passes s.Minus h n p rest = refl
prefix_passes s.Not h n p rest = refl
prefix_passes _ h n p rest = absurd cc

step_passes : (x : Sign) {o : Step} → step_of x ≡ Some o → (n : ℕ) (p : Span) (rest : Tokens) → brackets_end (suc n) (sign x p ∷ rest) ≡ brackets_end (suc n) rest
unfolding brackets_end same_sign
step_passes s.Increment h n p rest = refl
step_passes s.Decrement h n p rest = refl
step_passes _ h n p rest = absurd cc

assignment_passes : (x : Sign) {o : Assignment} → assignment_of x ≡ Some o → (n : ℕ) (p : Span) (rest : Tokens) → brackets_end (suc n) (sign x p ∷ rest) ≡ brackets_end (suc n) rest
unfolding brackets_end same_sign
assignment_passes s.Assign h n p rest = refl
assignment_passes s.PlusAssign h n p rest = refl
assignment_passes s.MinusAssign h n p rest = refl
assignment_passes s.TimesAssign h n p rest = refl
assignment_passes s.DivideAssign h n p rest = refl
assignment_passes s.ModuloAssign h n p rest = refl
assignment_passes _ h n p rest = absurd cc

-- ---- with the bracket that closes a list

bracket_comma_passes : {ts rest : Tokens} {j : ℕ} → IsLastComma ts s.CloseBracket j rest → (n : ℕ) → brackets_end (suc (suc n)) ts ≡ brackets_end (suc n) rest
unfolding brackets_end same_sign
bracket_comma_passes (g.no_comma {rest = rest}) n = closed n rest
bracket_comma_passes (g.comma {rest = rest}) n = closed n rest

brace_comma_passes : {ts rest : Tokens} {j : ℕ} → IsLastComma ts s.CloseBrace j rest → (n : ℕ) → brackets_end (suc (suc n)) ts ≡ brackets_end (suc n) rest
unfolding brackets_end same_sign
brace_comma_passes (g.no_comma {rest = rest}) n = closed n rest
brace_comma_passes (g.comma {rest = rest}) n = closed n rest

-- ---- types, expressions and statements

pub dotted_passes : {ts : Tokens} {xs : List Name} {j : ℕ} {rest : Tokens} → IsDotted ts xs j rest → Passes ts rest
unfolding brackets_end same_sign
dotted_passes (g.one _) n = refl
dotted_passes g.two n = refl

mutual
  unfolding brackets_end same_sign

  pub type_passes : {ts : Tokens} {xs : List Name} {j : ℕ} {rest : Tokens} → IsType ts xs j rest → Passes ts rest
  type_passes (g.plain_type a _) n = dotted_passes a n
  type_passes (g.generic a b) n = dotted_passes a n ∙ are_type_arguments_pass b n

  pub are_type_arguments_pass : {ts : Tokens} {j : ℕ} {rest : Tokens} → AreTypeArguments ts j rest → Passes ts rest
  are_type_arguments_pass (g.type_arguments a) n = are_types_pass a n

  pub are_types_pass : {ts : Tokens} {rest : Tokens} → AreTypes ts rest → Passes ts rest
  are_types_pass (g.last_type a) n = type_passes a n
  are_types_pass (g.more_types a b) n = type_passes a n ∙ are_types_pass b n

pub may_have_type_arguments_passes : {ts : Tokens} {rest : Tokens} → MayHaveTypeArguments ts rest → Passes ts rest
unfolding brackets_end same_sign
may_have_type_arguments_passes (g.has_none _) n = refl
may_have_type_arguments_passes (g.has_some a) n = are_type_arguments_pass a n

pub may_have_result_passes : {ts : Tokens} {rest : Tokens} → MayHaveResult ts rest → Passes ts rest
unfolding brackets_end same_sign
may_have_result_passes (g.no_result _) n = refl
may_have_result_passes g.void_result n = refl
may_have_result_passes (g.type_result _ _ c) n = type_passes c n

pub lead_passes : {ts : Tokens} {b : Bool} {rest : Tokens} → IsLead ts b rest → Passes ts rest
unfolding brackets_end same_sign
lead_passes g.var_lead n = refl
lead_passes (g.final_lead _ b) n = may_have_result_passes b n
lead_passes (g.const_lead _ b) n = may_have_result_passes b n
lead_passes (g.type_lead a) n = type_passes a n

pub are_new_names_pass : {ts : Tokens} {xs : List Name} {rest : Tokens} → AreNewNames ts xs rest → Passes ts rest
unfolding brackets_end same_sign
are_new_names_pass (g.class_name a _) n = type_passes a n
are_new_names_pass (g.constructor_name a) n = type_passes a n

mutual
  unfolding brackets_end same_sign

  pub expr_passes : {ts : Tokens} {a : Expr} {rest : Tokens} → IsExpr ts a rest → Passes ts rest
  expr_passes (g.assigned {x = x} {p = p} {mid = mid} a b c) n = target_passes a n ∙ assignment_passes x b n p mid ∙ expr_passes c n
  expr_passes (g.throw' a) n = expr_passes a n
  expr_passes (g.plain a) n = conditional_passes a n

  pub conditional_passes : {ts : Tokens} {a : Expr} {rest : Tokens} → IsConditional ts a rest → Passes ts rest
  conditional_passes (g.no_choice a _) n = level_passes a n
  conditional_passes (g.choice a _ c d) n = level_passes a n ∙ expr_passes c n ∙ expr_passes d n

  pub level_passes : {j : ℕ} {ts : Tokens} {a : Expr} {rest : Tokens} → IsLevel j ts a rest → Passes ts rest
  level_passes (g.unary a) n = unary_passes a n
  level_passes (g.level a b) n = level_passes a n ∙ operated_passes b n

  pub operated_passes : {j : ℕ} {a : Expr} {ts : Tokens} {a0 : Expr} {rest : Tokens} → IsOperated j a ts a0 rest → Passes ts rest
  operated_passes g.no_operator n = refl
  operated_passes (g.once {x = x} {p = p} {ts = ts} _ _ c d _) n = operator_passes x c n p ts ∙ level_passes d n
  operated_passes (g.chain {x = x} {p = p} {ts = ts} _ _ c d _ h) n = operator_passes x c n p ts ∙ level_passes d n ∙ operated_passes h n
  operated_passes (g.is' _ b) n = type_passes b n
  operated_passes (g.is_not _ b) n = type_passes b n
  operated_passes (g.as' _ b) n = type_passes b n

  pub unary_passes : {ts : Tokens} {a : Expr} {rest : Tokens} → IsUnary ts a rest → Passes ts rest
  unary_passes (g.prefixed {x = x} {p = p} {ts = ts} a b _) n = prefix_passes x a n p ts ∙ unary_passes b n
  unary_passes (g.step_before {x = x} {p = p} {ts = ts} a b) n = step_passes x a n p ts ∙ target_passes b n
  unary_passes (g.step_behind {x = x} {p = p} {rest = rest} a b) n = target_passes a n ∙ step_passes x b n p rest
  unary_passes (g.chained a b) n = head_passes a n ∙ are_selectors_pass b n

  pub target_passes : {ts : Tokens} {x : Target} {rest : Tokens} → IsTarget ts x rest → Passes ts rest
  target_passes g.bare n = refl
  target_passes (g.member_of a b) n = head_passes a n ∙ are_selectors_pass b n
  target_passes (g.index_of {rest = rest} a b c) n = head_passes a n ∙ are_selectors_pass b n ∙ expr_passes c (suc n) ∙ closed n rest

  pub are_selectors_pass : {ts : Tokens} {xs : List Selector} {rest : Tokens} → AreSelectors ts xs rest → Passes ts rest
  are_selectors_pass g.no_selectors n = refl
  are_selectors_pass (g.member _ b) n = are_selectors_pass b n
  are_selectors_pass (g.invoke a b) n = are_arguments_pass a n ∙ are_selectors_pass b n
  are_selectors_pass (g.index {mid = mid} a b) n = expr_passes a (suc n) ∙ closed n mid ∙ are_selectors_pass b n
  are_selectors_pass (g.call a b) n = are_arguments_pass a n ∙ are_selectors_pass b n

  pub are_arguments_pass : {ts : Tokens} {a : Arguments} {rest : Tokens} → AreArguments ts a rest → Passes ts rest
  are_arguments_pass (g.no_arguments {rest = rest}) n = closed n rest
  are_arguments_pass (g.arguments {rest = rest} a) n = are_exprs_pass a (suc n) ∙ closed n rest

  pub are_exprs_pass : {ts : Tokens} {xs : List Expr} {rest : Tokens} → AreExprs ts xs rest → Passes ts rest
  are_exprs_pass (g.last_expr a) n = expr_passes a n
  are_exprs_pass (g.more_exprs a b) n = expr_passes a n ∙ are_exprs_pass b n

  pub are_entries_pass : {ts : Tokens} {xs : List Entry} {rest : Tokens} → AreEntries ts xs rest → Passes ts rest
  are_entries_pass (g.last_entry a b) n = expr_passes a n ∙ expr_passes b n
  are_entries_pass (g.more_entries a b c) n = expr_passes a n ∙ expr_passes b n ∙ are_entries_pass c n

  pub head_passes : {ts : Tokens} {a : Head} {rest : Tokens} → IsHead ts a rest → Passes ts rest
  head_passes g.named n = refl
  head_passes g.this n = refl
  head_passes (g.super _) n = refl
  head_passes g.null n = refl
  head_passes g.true' n = refl
  head_passes g.false' n = refl
  head_passes g.number n = refl
  head_passes (g.texts a) n = are_texts_pass a n
  head_passes (g.new a b) n = are_new_names_pass a n ∙ are_arguments_pass b n
  head_passes (g.parenthesised {rest = rest} _ b) n = expr_passes b (suc n) ∙ closed n rest
  head_passes (g.literal _ b c) n = parameters_passes b n ∙ literal_body_passes c n
  head_passes (g.no_items {rest = rest} a) n = may_have_type_arguments_passes a n ∙ closed n rest
  head_passes (g.list a b c) n = may_have_type_arguments_passes a n ∙ are_exprs_pass b (suc n) ∙ bracket_comma_passes c n
  head_passes (g.no_entries {rest = rest} a) n = may_have_type_arguments_passes a n ∙ closed n rest
  head_passes (g.map a b c) n = may_have_type_arguments_passes a n ∙ are_entries_pass b (suc n) ∙ brace_comma_passes c n

  pub are_texts_pass : {ts : Tokens} {us : List ℕ} {ps : List Interpolation} {j : ℕ} {rest : Tokens} → AreTexts ts us ps j rest → Passes ts rest
  are_texts_pass (g.last_text a _) n = text_passes a n
  are_texts_pass (g.more_texts a b) n = text_passes a n ∙ are_texts_pass b n

  pub text_passes : {ts : Tokens} {us : List ℕ} {ps : List Interpolation} {j : ℕ} {rest : Tokens} → IsText ts us ps j rest → Passes ts rest
  text_passes (g.text a) n = are_parts_pass a n

  pub are_parts_pass : {ts : Tokens} {ps : List Interpolation} {j : ℕ} {rest : Tokens} → AreParts ts ps j rest → Passes ts rest
  are_parts_pass g.close n = refl
  are_parts_pass (g.hole {us = us} {r = r} {mid = mid} a b) n = expr_passes a (suc n) ∙ closed n (token (f.Piece us) r ∷ mid) ∙ are_parts_pass b n

  pub literal_body_passes : {ts : Tokens} {d : Body} {j : ℕ} {rest : Tokens} → IsLiteralBody ts d j rest → Passes ts rest
  literal_body_passes (g.gives a _) n = expr_passes a n
  literal_body_passes (g.block a) n = block_passes a n

  pub parameters_passes : {ts : Tokens} {ps : Parameters} {rest : Tokens} → IsParameters ts ps rest → Passes ts rest
  parameters_passes (g.no_parameters {rest = rest}) n = closed n rest
  parameters_passes (g.parameters {rest = rest} a) n = are_parameters_pass a (suc n) ∙ closed n rest

  pub are_parameters_pass : {ts : Tokens} {xs : List Parameter} {ys : List OptionalParameter} {rest : Tokens} → AreParameters ts xs ys rest → Passes ts rest
  are_parameters_pass (g.last_parameter a) n = parameter_passes a n
  are_parameters_pass (g.more_parameters a b) n = parameter_passes a n ∙ are_parameters_pass b n
  are_parameters_pass (g.optional {rest = rest} a) n = are_optional_pass a (suc n) ∙ closed n rest

  pub are_optional_pass : {ts : Tokens} {ys : List OptionalParameter} {rest : Tokens} → AreOptional ts ys rest → Passes ts rest
  are_optional_pass (g.last_optional a) n = optional_passes a n
  are_optional_pass (g.more_optional a b) n = optional_passes a n ∙ are_optional_pass b n

  pub optional_passes : {ts : Tokens} {x : OptionalParameter} {rest : Tokens} → IsOptional ts x rest → Passes ts rest
  optional_passes (g.no_default a) n = parameter_passes a n
  optional_passes (g.default a b) n = parameter_passes a n ∙ expr_passes b n

  pub parameter_passes : {ts : Tokens} {x : Parameter} {rest : Tokens} → IsParameter ts x rest → Passes ts rest
  parameter_passes (g.parameter a b c d e) n = metadata_passes a n ∙ may_be_final_passes b n ∙ may_have_result_passes c n ∙ may_have_this_passes d n ∙ may_have_parameters_passes e n

  pub may_be_final_passes : {ts : Tokens} {b : Bool} {rest : Tokens} → MayBeFinal ts b rest → Passes ts rest
  may_be_final_passes (g.neither _ _) n = refl
  may_be_final_passes g.var n = refl
  may_be_final_passes g.final n = refl

  pub may_have_this_passes : {ts : Tokens} {p : Option Span} {rest : Tokens} → MayHaveThis ts p rest → Passes ts rest
  may_have_this_passes (g.no_this _) n = refl
  may_have_this_passes g.has_this n = refl

  pub may_have_parameters_passes : {j : ℕ} {ts : Tokens} {j0 : ℕ} {rest : Tokens} → MayHaveParameters j ts j0 rest → Passes ts rest
  may_have_parameters_passes (g.no_nested _) n = refl
  may_have_parameters_passes (g.nested a) n = parameters_passes a n

  pub metadata_passes : {ts : Tokens} {rest : Tokens} → IsMetadata ts rest → Passes ts rest
  metadata_passes (g.no_metadata _) n = refl
  metadata_passes (g.metadata a b c) n = are_metadata_names_pass a n ∙ may_have_arguments_passes b n ∙ metadata_passes c n

  pub are_metadata_names_pass : {ts : Tokens} {xs : List Name} {rest : Tokens} → AreMetadataNames ts xs rest → Passes ts rest
  are_metadata_names_pass (g.up_to_two a _) n = dotted_passes a n
  are_metadata_names_pass (g.three a) n = dotted_passes a n

  pub may_have_arguments_passes : {ts : Tokens} {rest : Tokens} → MayHaveArguments ts rest → Passes ts rest
  may_have_arguments_passes (g.no_args _) n = refl
  may_have_arguments_passes (g.has_args a) n = are_arguments_pass a n

  pub are_variables_pass : {ts : Tokens} {x : Variables} {j : ℕ} {rest : Tokens} → AreVariables ts x j rest → Passes ts rest
  are_variables_pass (g.variables a b) n = lead_passes a n ∙ are_declared_pass b n

  pub are_declared_pass : {ts : Tokens} {xs : List Variable} {rest : Tokens} → AreDeclared ts xs rest → Passes ts rest
  are_declared_pass (g.last_declared a) n = declared_passes a n
  are_declared_pass (g.more_declared a b) n = declared_passes a n ∙ are_declared_pass b n

  pub declared_passes : {ts : Tokens} {x : Variable} {rest : Tokens} → IsDeclared ts x rest → Passes ts rest
  declared_passes g.no_value n = refl
  declared_passes (g.value a) n = expr_passes a n

  pub block_passes : {ts : Tokens} {ss : List Stmt} {j : ℕ} {rest : Tokens} → IsBlock ts ss j rest → Passes ts rest
  block_passes (g.braces {rest = rest} a) n = are_stmts_pass a (suc n) ∙ closed n rest

  pub are_stmts_pass : {ts : Tokens} {ss : List Stmt} {rest : Tokens} → AreStmts ts ss rest → Passes ts rest
  are_stmts_pass g.no_stmts n = refl
  are_stmts_pass (g.stmts a b) n = stmt_passes a n ∙ are_stmts_pass b n

  pub local_body_passes : {ts : Tokens} {d : Body} {j : ℕ} {rest : Tokens} → IsLocalBody ts d j rest → Passes ts rest
  local_body_passes (g.gives_local a) n = expr_passes a n
  local_body_passes (g.block_local a) n = block_passes a n

  pub stmt_passes : {ts : Tokens} {x : Stmt} {rest : Tokens} → IsStmt ts x rest → Passes ts rest
  stmt_passes (g.nested_block a) n = block_passes a n
  stmt_passes (g.declare _ b) n = are_variables_pass b n
  stmt_passes (g.typed_function _ b c d) n = may_have_result_passes b n ∙ parameters_passes c n ∙ local_body_passes d n
  stmt_passes (g.untyped_function _ b c) n = parameters_passes b n ∙ local_body_passes c n
  stmt_passes g.empty n = refl
  stmt_passes (g.evaluate _ _ c) n = expr_passes c n
  stmt_passes (g.if' {mid = mid} a b _) n = expr_passes a (suc n) ∙ closed n mid ∙ stmt_passes b n
  stmt_passes (g.if_else {mid = mid} a b c) n = expr_passes a (suc n) ∙ closed n mid ∙ stmt_passes b n ∙ stmt_passes c n
  stmt_passes (g.while {mid = mid} a b) n = expr_passes a (suc n) ∙ closed n mid ∙ stmt_passes b n
  stmt_passes (g.do' {v = v} {rest = rest} a b) n = stmt_passes a n ∙ expr_passes b (suc n) ∙ closed n (sign s.Semicolon v ∷ rest)
  stmt_passes (g.for_declared _ b c d e) n = are_variables_pass b (suc n) ∙ may_be_expr_passes c (suc n) ∙ are_updates_pass d n ∙ stmt_passes e n
  stmt_passes (g.for' _ b c d e) n = may_be_exprs_passes b (suc n) ∙ may_be_expr_passes c (suc n) ∙ are_updates_pass d n ∙ stmt_passes e n
  stmt_passes (g.for_in_declared {after = after} _ b c d) n = lead_passes b (suc n) ∙ expr_passes c (suc n) ∙ closed n after ∙ stmt_passes d n
  stmt_passes (g.for_in {after = after} a b) n = expr_passes a (suc n) ∙ closed n after ∙ stmt_passes b n
  stmt_passes g.break' n = refl
  stmt_passes g.continue' n = refl
  stmt_passes g.return' n = refl
  stmt_passes (g.return_value a) n = expr_passes a n
  stmt_passes g.rethrow' n = refl
  stmt_passes (g.assert' {u = u} {rest = rest} a) n = expr_passes a (suc n) ∙ closed n (sign s.Semicolon u ∷ rest)
  stmt_passes (g.try' a b _) n = block_passes a n ∙ are_catches_pass b n
  stmt_passes (g.try_finally a b c) n = block_passes a n ∙ are_catches_pass b n ∙ block_passes c n

  pub may_be_expr_passes : {ts : Tokens} {a : Option Expr} {rest : Tokens} → MayBeExpr ts a rest → Passes ts rest
  may_be_expr_passes (g.no_expr _) n = refl
  may_be_expr_passes (g.an_expr a) n = expr_passes a n

  pub may_be_exprs_passes : {ts : Tokens} {xs : List Expr} {rest : Tokens} → MayBeExprs ts xs rest → Passes ts rest
  may_be_exprs_passes (g.no_exprs _) n = refl
  may_be_exprs_passes (g.some_exprs a) n = are_exprs_pass a n

  pub are_updates_pass : {ts : Tokens} {xs : List Expr} {rest : Tokens} → AreUpdates ts xs rest → (n : ℕ) → brackets_end (suc (suc n)) ts ≡ brackets_end (suc n) rest
  are_updates_pass (g.no_updates {rest = rest}) n = closed n rest
  are_updates_pass (g.updates {rest = rest} a) n = are_exprs_pass a (suc n) ∙ closed n rest

  pub are_catches_pass : {j : ℕ} {ts : Tokens} {ds : List Catch} {j0 : ℕ} {rest : Tokens} → AreCatches j ts ds j0 rest → Passes ts rest
  are_catches_pass (g.no_catches _) n = refl
  are_catches_pass (g.catches _ b c) n = catch_passes b n ∙ are_catches_pass c n

  pub catch_passes : {ts : Tokens} {x : Catch} {rest : Tokens} → IsCatch ts x rest → Passes ts rest
  catch_passes (g.on a _ c) n = type_passes a n ∙ block_passes c n
  catch_passes (g.on_catch {mid = mid} a b) n = type_passes a n ∙ closed n mid ∙ block_passes b n
  catch_passes (g.catch {ts = ts} a) n = closed n ts ∙ block_passes a n
