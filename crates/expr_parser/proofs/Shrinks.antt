-- A derivation takes tokens.
use Rattle.std.proofs.Common.{ℕ, ◌<◌, ◌≤◌, Bool, List, length, Option, arith}
use Rattle.dart_syntax.specs.declared.words.Sign.{Sign}
use Rattle.dart_grammar.specs.declared.trees.Span.{Span}
use Rattle.dart_grammar.specs.declared.trees.Name.{Name}
use Rattle.dart_grammar.specs.declared.trees.Expr.{Expr}
use Rattle.dart_grammar.specs.declared.trees.Head.{Head}
use Rattle.dart_grammar.specs.declared.trees.Selector.{Selector}
use Rattle.dart_grammar.specs.declared.trees.Target.{Target}
use Rattle.dart_grammar.specs.declared.trees.Stmt.{Stmt}
use Rattle.dart_grammar.specs.declared.trees.Body.{Body}
use Rattle.dart_grammar.specs.declared.trees.Arguments.{Arguments}
use Rattle.dart_grammar.specs.declared.trees.Catch.{Catch}
use Rattle.dart_grammar.specs.declared.trees.Entry.{Entry}
use Rattle.dart_grammar.specs.declared.trees.Interpolation.{Interpolation}
use Rattle.dart_grammar.specs.declared.trees.OptionalParameter.{OptionalParameter}
use Rattle.dart_grammar.specs.declared.trees.Parameter.{Parameter}
use Rattle.dart_grammar.specs.declared.trees.Parameters.{Parameters}
use Rattle.dart_grammar.specs.declared.trees.Variable.{Variable}
use Rattle.dart_grammar.specs.declared.trees.Variables.{Variables}
use Rattle.dart_grammar.specs.Marks.{Tokens}
use Rattle.dart_grammar.specs.Grammar as g
use Rattle.dart_grammar.specs.Grammar.{IsDotted, IsType, AreTypeArguments, AreTypes, MayHaveTypeArguments, MayHaveResult, IsLead, AreNewNames, IsExpr, IsConditional, IsLevel, IsOperated, IsUnary, IsTarget, AreSelectors, AreArguments, AreExprs, AreEntries, IsHead, IsLastComma, AreTexts, IsText, AreParts, IsLiteralBody, IsParameters, AreParameters, AreOptional, IsOptional, IsParameter, MayBeFinal, MayHaveThis, MayHaveParameters, IsMetadata, AreMetadataNames, MayHaveArguments, AreVariables, AreDeclared, IsDeclared, IsBlock, AreStmts, IsLocalBody, IsStmt, MayBeExpr, MayBeExprs, AreUpdates, AreCatches, IsCatch}

pub dotted_shrinks : {ts : Tokens} {xs : List Name} {j : ℕ} {rest : Tokens} → IsDotted ts xs j rest → length rest < length ts
dotted_shrinks (g.one _) = omega arith
dotted_shrinks g.two = omega arith

mutual
  pub type_shrinks : {ts : Tokens} {xs : List Name} {j : ℕ} {rest : Tokens} → IsType ts xs j rest → length rest < length ts
  type_shrinks (g.plain_type a _) = omega (arith, dotted_shrinks a)
  type_shrinks (g.generic a b) = omega (arith, dotted_shrinks a, are_type_arguments_shrink b)

  pub are_type_arguments_shrink : {ts : Tokens} {j : ℕ} {rest : Tokens} → AreTypeArguments ts j rest → length rest < length ts
  are_type_arguments_shrink (g.type_arguments a) = omega (arith, are_types_shrink a)

  pub are_types_shrink : {ts : Tokens} {rest : Tokens} → AreTypes ts rest → length rest < length ts
  are_types_shrink (g.last_type a) = omega (arith, type_shrinks a)
  are_types_shrink (g.more_types a b) = omega (arith, type_shrinks a, are_types_shrink b)

pub may_have_type_arguments_shrinks : {ts : Tokens} {rest : Tokens} → MayHaveTypeArguments ts rest → length rest ≤ length ts
may_have_type_arguments_shrinks (g.has_none _) = omega arith
may_have_type_arguments_shrinks (g.has_some a) = omega (arith, are_type_arguments_shrink a)

pub may_have_result_shrinks : {ts : Tokens} {rest : Tokens} → MayHaveResult ts rest → length rest ≤ length ts
may_have_result_shrinks (g.no_result _) = omega arith
may_have_result_shrinks g.void_result = omega arith
may_have_result_shrinks (g.type_result _ _ c) = omega (arith, type_shrinks c)

pub lead_shrinks : {ts : Tokens} {b : Bool} {rest : Tokens} → IsLead ts b rest → length rest < length ts
lead_shrinks g.var_lead = omega arith
lead_shrinks (g.final_lead _ b) = omega (arith, may_have_result_shrinks b)
lead_shrinks (g.const_lead _ b) = omega (arith, may_have_result_shrinks b)
lead_shrinks (g.type_lead a) = omega (arith, type_shrinks a)

pub are_new_names_shrink : {ts : Tokens} {xs : List Name} {rest : Tokens} → AreNewNames ts xs rest → length rest < length ts
are_new_names_shrink (g.class_name a _) = omega (arith, type_shrinks a)
are_new_names_shrink (g.constructor_name a) = omega (arith, type_shrinks a)

mutual
  pub expr_shrinks : {ts : Tokens} {a : Expr} {rest : Tokens} → IsExpr ts a rest → length rest < length ts
  expr_shrinks (g.assigned a _ c) = omega (arith, target_shrinks a, expr_shrinks c)
  expr_shrinks (g.throw' a) = omega (arith, expr_shrinks a)
  expr_shrinks (g.plain a) = omega (arith, conditional_shrinks a)

  pub conditional_shrinks : {ts : Tokens} {a : Expr} {rest : Tokens} → IsConditional ts a rest → length rest < length ts
  conditional_shrinks (g.no_choice a _) = omega (arith, level_shrinks a)
  conditional_shrinks (g.choice a _ c d) = omega (arith, level_shrinks a, expr_shrinks c, expr_shrinks d)

  pub level_shrinks : {j : ℕ} {ts : Tokens} {a : Expr} {rest : Tokens} → IsLevel j ts a rest → length rest < length ts
  level_shrinks (g.unary a) = omega (arith, unary_shrinks a)
  level_shrinks (g.level a b) = omega (arith, level_shrinks a, operated_shrinks b)

  pub operated_shrinks : {j : ℕ} {a : Expr} {ts : Tokens} {a0 : Expr} {rest : Tokens} → IsOperated j a ts a0 rest → length rest ≤ length ts
  operated_shrinks g.no_operator = omega arith
  operated_shrinks (g.once _ _ _ d _) = omega (arith, level_shrinks d)
  operated_shrinks (g.chain _ _ _ d _ f) = omega (arith, level_shrinks d, operated_shrinks f)
  operated_shrinks (g.is' _ b) = omega (arith, type_shrinks b)
  operated_shrinks (g.is_not _ b) = omega (arith, type_shrinks b)
  operated_shrinks (g.as' _ b) = omega (arith, type_shrinks b)

  pub unary_shrinks : {ts : Tokens} {a : Expr} {rest : Tokens} → IsUnary ts a rest → length rest < length ts
  unary_shrinks (g.prefixed _ b _) = omega (arith, unary_shrinks b)
  unary_shrinks (g.step_before _ b) = omega (arith, target_shrinks b)
  unary_shrinks (g.step_behind a _) = omega (arith, target_shrinks a)
  unary_shrinks (g.chained a b) = omega (arith, head_shrinks a, are_selectors_shrink b)

  pub target_shrinks : {ts : Tokens} {x : Target} {rest : Tokens} → IsTarget ts x rest → length rest < length ts
  target_shrinks g.bare = omega arith
  target_shrinks (g.member_of a b) = omega (arith, head_shrinks a, are_selectors_shrink b)
  target_shrinks (g.index_of a b c) = omega (arith, head_shrinks a, are_selectors_shrink b, expr_shrinks c)

  pub are_selectors_shrink : {ts : Tokens} {xs : List Selector} {rest : Tokens} → AreSelectors ts xs rest → length rest ≤ length ts
  are_selectors_shrink g.no_selectors = omega arith
  are_selectors_shrink (g.member _ b) = omega (arith, are_selectors_shrink b)
  are_selectors_shrink (g.invoke a b) = omega (arith, are_arguments_shrink a, are_selectors_shrink b)
  are_selectors_shrink (g.index a b) = omega (arith, expr_shrinks a, are_selectors_shrink b)
  are_selectors_shrink (g.call a b) = omega (arith, are_arguments_shrink a, are_selectors_shrink b)

  pub are_arguments_shrink : {ts : Tokens} {a : Arguments} {rest : Tokens} → AreArguments ts a rest → length rest < length ts
  are_arguments_shrink g.no_arguments = omega arith
  are_arguments_shrink (g.arguments a) = omega (arith, are_exprs_shrink a)

  pub are_exprs_shrink : {ts : Tokens} {xs : List Expr} {rest : Tokens} → AreExprs ts xs rest → length rest < length ts
  are_exprs_shrink (g.last_expr a) = omega (arith, expr_shrinks a)
  are_exprs_shrink (g.more_exprs a b) = omega (arith, expr_shrinks a, are_exprs_shrink b)

  pub are_entries_shrink : {ts : Tokens} {xs : List Entry} {rest : Tokens} → AreEntries ts xs rest → length rest < length ts
  are_entries_shrink (g.last_entry a b) = omega (arith, expr_shrinks a, expr_shrinks b)
  are_entries_shrink (g.more_entries a b c) = omega (arith, expr_shrinks a, expr_shrinks b, are_entries_shrink c)

  pub head_shrinks : {ts : Tokens} {a : Head} {rest : Tokens} → IsHead ts a rest → length rest < length ts
  head_shrinks g.named = omega arith
  head_shrinks g.this = omega arith
  head_shrinks (g.super _) = omega arith
  head_shrinks g.null = omega arith
  head_shrinks g.true' = omega arith
  head_shrinks g.false' = omega arith
  head_shrinks g.number = omega arith
  head_shrinks (g.texts a) = omega (arith, are_texts_shrink a)
  head_shrinks (g.new a b) = omega (arith, are_new_names_shrink a, are_arguments_shrink b)
  head_shrinks (g.parenthesised _ b) = omega (arith, expr_shrinks b)
  head_shrinks (g.literal _ b c) = omega (arith, parameters_shrinks b, literal_body_shrinks c)
  head_shrinks (g.no_items a) = omega (arith, may_have_type_arguments_shrinks a)
  head_shrinks (g.list a b c) = omega (arith, may_have_type_arguments_shrinks a, are_exprs_shrink b, last_comma_shrinks c)
  head_shrinks (g.no_entries a) = omega (arith, may_have_type_arguments_shrinks a)
  head_shrinks (g.map a b c) = omega (arith, may_have_type_arguments_shrinks a, are_entries_shrink b, last_comma_shrinks c)

  pub last_comma_shrinks : {ts : Tokens} {x : Sign} {j : ℕ} {rest : Tokens} → IsLastComma ts x j rest → length rest < length ts
  last_comma_shrinks g.no_comma = omega arith
  last_comma_shrinks g.comma = omega arith

  pub are_texts_shrink : {ts : Tokens} {us : List ℕ} {ps : List Interpolation} {j : ℕ} {rest : Tokens} → AreTexts ts us ps j rest → length rest < length ts
  are_texts_shrink (g.last_text a _) = omega (arith, text_shrinks a)
  are_texts_shrink (g.more_texts a b) = omega (arith, text_shrinks a, are_texts_shrink b)

  pub text_shrinks : {ts : Tokens} {us : List ℕ} {ps : List Interpolation} {j : ℕ} {rest : Tokens} → IsText ts us ps j rest → length rest < length ts
  text_shrinks (g.text a) = omega (arith, are_parts_shrink a)

  pub are_parts_shrink : {ts : Tokens} {ps : List Interpolation} {j : ℕ} {rest : Tokens} → AreParts ts ps j rest → length rest < length ts
  are_parts_shrink g.close = omega arith
  are_parts_shrink (g.hole a b) = omega (arith, expr_shrinks a, are_parts_shrink b)

  pub literal_body_shrinks : {ts : Tokens} {d : Body} {j : ℕ} {rest : Tokens} → IsLiteralBody ts d j rest → length rest < length ts
  literal_body_shrinks (g.gives a _) = omega (arith, expr_shrinks a)
  literal_body_shrinks (g.block a) = omega (arith, block_shrinks a)

  pub parameters_shrinks : {ts : Tokens} {ps : Parameters} {rest : Tokens} → IsParameters ts ps rest → length rest < length ts
  parameters_shrinks g.no_parameters = omega arith
  parameters_shrinks (g.parameters a) = omega (arith, are_parameters_shrink a)

  pub are_parameters_shrink : {ts : Tokens} {xs : List Parameter} {ys : List OptionalParameter} {rest : Tokens} → AreParameters ts xs ys rest → length rest < length ts
  are_parameters_shrink (g.last_parameter a) = omega (arith, parameter_shrinks a)
  are_parameters_shrink (g.more_parameters a b) = omega (arith, parameter_shrinks a, are_parameters_shrink b)
  are_parameters_shrink (g.optional a) = omega (arith, are_optional_shrink a)

  pub are_optional_shrink : {ts : Tokens} {ys : List OptionalParameter} {rest : Tokens} → AreOptional ts ys rest → length rest < length ts
  are_optional_shrink (g.last_optional a) = omega (arith, optional_shrinks a)
  are_optional_shrink (g.more_optional a b) = omega (arith, optional_shrinks a, are_optional_shrink b)

  pub optional_shrinks : {ts : Tokens} {x : OptionalParameter} {rest : Tokens} → IsOptional ts x rest → length rest < length ts
  optional_shrinks (g.no_default a) = omega (arith, parameter_shrinks a)
  optional_shrinks (g.default a b) = omega (arith, parameter_shrinks a, expr_shrinks b)

  pub parameter_shrinks : {ts : Tokens} {x : Parameter} {rest : Tokens} → IsParameter ts x rest → length rest < length ts
  parameter_shrinks (g.parameter a b c d e) = omega (arith, metadata_shrinks a, may_be_final_shrinks b, may_have_result_shrinks c, may_have_this_shrinks d, may_have_parameters_shrinks e)

  pub may_be_final_shrinks : {ts : Tokens} {b : Bool} {rest : Tokens} → MayBeFinal ts b rest → length rest ≤ length ts
  may_be_final_shrinks (g.neither _ _) = omega arith
  may_be_final_shrinks g.var = omega arith
  may_be_final_shrinks g.final = omega arith

  pub may_have_this_shrinks : {ts : Tokens} {p : Option Span} {rest : Tokens} → MayHaveThis ts p rest → length rest ≤ length ts
  may_have_this_shrinks (g.no_this _) = omega arith
  may_have_this_shrinks g.has_this = omega arith

  pub may_have_parameters_shrinks : {j : ℕ} {ts : Tokens} {j0 : ℕ} {rest : Tokens} → MayHaveParameters j ts j0 rest → length rest ≤ length ts
  may_have_parameters_shrinks (g.no_nested _) = omega arith
  may_have_parameters_shrinks (g.nested a) = omega (arith, parameters_shrinks a)

  pub metadata_shrinks : {ts : Tokens} {rest : Tokens} → IsMetadata ts rest → length rest ≤ length ts
  metadata_shrinks (g.no_metadata _) = omega arith
  metadata_shrinks (g.metadata a b c) = omega (arith, are_metadata_names_shrink a, may_have_arguments_shrinks b, metadata_shrinks c)

  pub are_metadata_names_shrink : {ts : Tokens} {xs : List Name} {rest : Tokens} → AreMetadataNames ts xs rest → length rest < length ts
  are_metadata_names_shrink (g.up_to_two a _) = omega (arith, dotted_shrinks a)
  are_metadata_names_shrink (g.three a) = omega (arith, dotted_shrinks a)

  pub may_have_arguments_shrinks : {ts : Tokens} {rest : Tokens} → MayHaveArguments ts rest → length rest ≤ length ts
  may_have_arguments_shrinks (g.no_args _) = omega arith
  may_have_arguments_shrinks (g.has_args a) = omega (arith, are_arguments_shrink a)

  pub are_variables_shrink : {ts : Tokens} {x : Variables} {j : ℕ} {rest : Tokens} → AreVariables ts x j rest → length rest < length ts
  are_variables_shrink (g.variables a b) = omega (arith, lead_shrinks a, are_declared_shrink b)

  pub are_declared_shrink : {ts : Tokens} {xs : List Variable} {rest : Tokens} → AreDeclared ts xs rest → length rest < length ts
  are_declared_shrink (g.last_declared a) = omega (arith, declared_shrinks a)
  are_declared_shrink (g.more_declared a b) = omega (arith, declared_shrinks a, are_declared_shrink b)

  pub declared_shrinks : {ts : Tokens} {x : Variable} {rest : Tokens} → IsDeclared ts x rest → length rest < length ts
  declared_shrinks g.no_value = omega arith
  declared_shrinks (g.value a) = omega (arith, expr_shrinks a)

  pub block_shrinks : {ts : Tokens} {ss : List Stmt} {j : ℕ} {rest : Tokens} → IsBlock ts ss j rest → length rest < length ts
  block_shrinks (g.braces a) = omega (arith, are_stmts_shrink a)

  pub are_stmts_shrink : {ts : Tokens} {ss : List Stmt} {rest : Tokens} → AreStmts ts ss rest → length rest ≤ length ts
  are_stmts_shrink g.no_stmts = omega arith
  are_stmts_shrink (g.stmts a b) = omega (arith, stmt_shrinks a, are_stmts_shrink b)

  pub local_body_shrinks : {ts : Tokens} {d : Body} {j : ℕ} {rest : Tokens} → IsLocalBody ts d j rest → length rest < length ts
  local_body_shrinks (g.gives_local a) = omega (arith, expr_shrinks a)
  local_body_shrinks (g.block_local a) = omega (arith, block_shrinks a)

  pub stmt_shrinks : {ts : Tokens} {x : Stmt} {rest : Tokens} → IsStmt ts x rest → length rest < length ts
  stmt_shrinks (g.nested_block a) = omega (arith, block_shrinks a)
  stmt_shrinks (g.declare _ b) = omega (arith, are_variables_shrink b)
  stmt_shrinks (g.typed_function _ b c d) = omega (arith, may_have_result_shrinks b, parameters_shrinks c, local_body_shrinks d)
  stmt_shrinks (g.untyped_function _ b c) = omega (arith, parameters_shrinks b, local_body_shrinks c)
  stmt_shrinks g.empty = omega arith
  stmt_shrinks (g.evaluate _ _ c) = omega (arith, expr_shrinks c)
  stmt_shrinks (g.if' a b _) = omega (arith, expr_shrinks a, stmt_shrinks b)
  stmt_shrinks (g.if_else a b c) = omega (arith, expr_shrinks a, stmt_shrinks b, stmt_shrinks c)
  stmt_shrinks (g.while a b) = omega (arith, expr_shrinks a, stmt_shrinks b)
  stmt_shrinks (g.do' a b) = omega (arith, stmt_shrinks a, expr_shrinks b)
  stmt_shrinks (g.for_declared _ b c d e) = omega (arith, are_variables_shrink b, may_be_expr_shrinks c, are_updates_shrink d, stmt_shrinks e)
  stmt_shrinks (g.for' _ b c d e) = omega (arith, may_be_exprs_shrinks b, may_be_expr_shrinks c, are_updates_shrink d, stmt_shrinks e)
  stmt_shrinks (g.for_in_declared _ b c d) = omega (arith, lead_shrinks b, expr_shrinks c, stmt_shrinks d)
  stmt_shrinks (g.for_in a b) = omega (arith, expr_shrinks a, stmt_shrinks b)
  stmt_shrinks g.break' = omega arith
  stmt_shrinks g.continue' = omega arith
  stmt_shrinks g.return' = omega arith
  stmt_shrinks (g.return_value a) = omega (arith, expr_shrinks a)
  stmt_shrinks g.rethrow' = omega arith
  stmt_shrinks (g.assert' a) = omega (arith, expr_shrinks a)
  stmt_shrinks (g.try' a b _) = omega (arith, block_shrinks a, are_catches_shrink b)
  stmt_shrinks (g.try_finally a b c) = omega (arith, block_shrinks a, are_catches_shrink b, block_shrinks c)

  pub may_be_expr_shrinks : {ts : Tokens} {a : Option Expr} {rest : Tokens} → MayBeExpr ts a rest → length rest ≤ length ts
  may_be_expr_shrinks (g.no_expr _) = omega arith
  may_be_expr_shrinks (g.an_expr a) = omega (arith, expr_shrinks a)

  pub may_be_exprs_shrinks : {ts : Tokens} {xs : List Expr} {rest : Tokens} → MayBeExprs ts xs rest → length rest ≤ length ts
  may_be_exprs_shrinks (g.no_exprs _) = omega arith
  may_be_exprs_shrinks (g.some_exprs a) = omega (arith, are_exprs_shrink a)

  pub are_updates_shrink : {ts : Tokens} {xs : List Expr} {rest : Tokens} → AreUpdates ts xs rest → length rest < length ts
  are_updates_shrink g.no_updates = omega arith
  are_updates_shrink (g.updates a) = omega (arith, are_exprs_shrink a)

  pub are_catches_shrink : {j : ℕ} {ts : Tokens} {ds : List Catch} {j0 : ℕ} {rest : Tokens} → AreCatches j ts ds j0 rest → length rest ≤ length ts
  are_catches_shrink (g.no_catches _) = omega arith
  are_catches_shrink (g.catches _ b c) = omega (arith, catch_shrinks b, are_catches_shrink c)

  pub catch_shrinks : {ts : Tokens} {x : Catch} {rest : Tokens} → IsCatch ts x rest → length rest < length ts
  catch_shrinks (g.on a _ c) = omega (arith, type_shrinks a, block_shrinks c)
  catch_shrinks (g.on_catch a b) = omega (arith, type_shrinks a, block_shrinks b)
  catch_shrinks (g.catch a) = omega (arith, block_shrinks a)
