-- What stands behind a derivation is the end of its tokens.
use Rattle.std.proofs.Common.{ℕ, Bool, List, Option}
use Rattle.dart_syntax.specs.declared.words.Sign.{Sign}
use Rattle.dart_grammar.specs.declared.trees.Span.{Span}
use Rattle.dart_grammar.specs.declared.trees.Name.{Name}
use Rattle.dart_grammar.specs.declared.trees.Expr.{Expr}
use Rattle.dart_grammar.specs.declared.trees.Head.{Head}
use Rattle.dart_grammar.specs.declared.trees.Selector.{Selector}
use Rattle.dart_grammar.specs.declared.trees.Target.{Target}
use Rattle.dart_grammar.specs.declared.trees.Stmt.{Stmt}
use Rattle.dart_grammar.specs.declared.trees.Body.{Body}
use Rattle.dart_grammar.specs.declared.trees.Arguments.{Arguments}
use Rattle.dart_grammar.specs.declared.trees.Catch.{Catch}
use Rattle.dart_grammar.specs.declared.trees.Entry.{Entry}
use Rattle.dart_grammar.specs.declared.trees.Interpolation.{Interpolation}
use Rattle.dart_grammar.specs.declared.trees.OptionalParameter.{OptionalParameter}
use Rattle.dart_grammar.specs.declared.trees.Parameter.{Parameter}
use Rattle.dart_grammar.specs.declared.trees.Parameters.{Parameters}
use Rattle.dart_grammar.specs.declared.trees.Variable.{Variable}
use Rattle.dart_grammar.specs.declared.trees.Variables.{Variables}
use Rattle.dart_grammar.specs.Marks.{Tokens}
use Rattle.dart_grammar.specs.Grammar as g
use Rattle.dart_grammar.specs.Grammar.{IsDotted, IsType, AreTypeArguments, AreTypes, MayHaveTypeArguments, MayHaveResult, IsLead, AreNewNames, IsExpr, IsConditional, IsLevel, IsOperated, IsUnary, IsTarget, AreSelectors, AreArguments, AreExprs, AreEntries, IsHead, IsLastComma, AreTexts, IsText, AreParts, IsLiteralBody, IsParameters, AreParameters, AreOptional, IsOptional, IsParameter, MayBeFinal, MayHaveThis, MayHaveParameters, IsMetadata, AreMetadataNames, MayHaveArguments, AreVariables, AreDeclared, IsDeclared, IsBlock, AreStmts, IsLocalBody, IsStmt, MayBeExpr, MayBeExprs, AreUpdates, AreCatches, IsCatch}
use Rattle.expr_parser.proofs.Ends.{IsEnd, here, step, both}

pub dotted_takes : {ts : Tokens} {xs : List Name} {j : ℕ} {rest : Tokens} → IsDotted ts xs j rest → IsEnd rest ts
dotted_takes (g.one _) = step here
dotted_takes g.two = step (step (step here))

mutual
  pub type_takes : {ts : Tokens} {xs : List Name} {j : ℕ} {rest : Tokens} → IsType ts xs j rest → IsEnd rest ts
  type_takes (g.plain_type a _) = dotted_takes a
  type_takes (g.generic a b) = both (dotted_takes a) (are_type_arguments_take b)

  pub are_type_arguments_take : {ts : Tokens} {j : ℕ} {rest : Tokens} → AreTypeArguments ts j rest → IsEnd rest ts
  are_type_arguments_take (g.type_arguments a) = step (both (are_types_take a) (step here))

  pub are_types_take : {ts : Tokens} {rest : Tokens} → AreTypes ts rest → IsEnd rest ts
  are_types_take (g.last_type a) = type_takes a
  are_types_take (g.more_types a b) = both (type_takes a) (step (are_types_take b))

pub may_have_type_arguments_takes : {ts : Tokens} {rest : Tokens} → MayHaveTypeArguments ts rest → IsEnd rest ts
may_have_type_arguments_takes (g.has_none _) = here
may_have_type_arguments_takes (g.has_some a) = are_type_arguments_take a

pub may_have_result_takes : {ts : Tokens} {rest : Tokens} → MayHaveResult ts rest → IsEnd rest ts
may_have_result_takes (g.no_result _) = here
may_have_result_takes g.void_result = step here
may_have_result_takes (g.type_result _ _ c) = type_takes c

pub lead_takes : {ts : Tokens} {b : Bool} {rest : Tokens} → IsLead ts b rest → IsEnd rest ts
lead_takes g.var_lead = step here
lead_takes (g.final_lead _ b) = step (may_have_result_takes b)
lead_takes (g.const_lead _ b) = step (may_have_result_takes b)
lead_takes (g.type_lead a) = type_takes a

pub are_new_names_take : {ts : Tokens} {xs : List Name} {rest : Tokens} → AreNewNames ts xs rest → IsEnd rest ts
are_new_names_take (g.class_name a _) = type_takes a
are_new_names_take (g.constructor_name a) = both (type_takes a) (step (step here))

mutual
  pub expr_takes : {ts : Tokens} {a : Expr} {rest : Tokens} → IsExpr ts a rest → IsEnd rest ts
  expr_takes (g.assigned a _ c) = both (target_takes a) (step (expr_takes c))
  expr_takes (g.throw' a) = step (expr_takes a)
  expr_takes (g.plain a) = conditional_takes a

  pub conditional_takes : {ts : Tokens} {a : Expr} {rest : Tokens} → IsConditional ts a rest → IsEnd rest ts
  conditional_takes (g.no_choice a _) = level_takes a
  conditional_takes (g.choice a _ c d) = both (level_takes a) (step (both (expr_takes c) (step (expr_takes d))))

  pub level_takes : {j : ℕ} {ts : Tokens} {a : Expr} {rest : Tokens} → IsLevel j ts a rest → IsEnd rest ts
  level_takes (g.unary a) = unary_takes a
  level_takes (g.level a b) = both (level_takes a) (operated_takes b)

  pub operated_takes : {j : ℕ} {a : Expr} {ts : Tokens} {a0 : Expr} {rest : Tokens} → IsOperated j a ts a0 rest → IsEnd rest ts
  operated_takes g.no_operator = here
  operated_takes (g.once _ _ _ d _) = step (level_takes d)
  operated_takes (g.chain _ _ _ d _ f) = step (both (level_takes d) (operated_takes f))
  operated_takes (g.is' _ b) = step (type_takes b)
  operated_takes (g.is_not _ b) = step (step (type_takes b))
  operated_takes (g.as' _ b) = step (type_takes b)

  pub unary_takes : {ts : Tokens} {a : Expr} {rest : Tokens} → IsUnary ts a rest → IsEnd rest ts
  unary_takes (g.prefixed _ b _) = step (unary_takes b)
  unary_takes (g.step_before _ b) = step (target_takes b)
  unary_takes (g.step_behind a _) = both (target_takes a) (step here)
  unary_takes (g.chained a b) = both (head_takes a) (are_selectors_take b)

  pub target_takes : {ts : Tokens} {x : Target} {rest : Tokens} → IsTarget ts x rest → IsEnd rest ts
  target_takes g.bare = step here
  target_takes (g.member_of a b) = both (head_takes a) (both (are_selectors_take b) (step (step here)))
  target_takes (g.index_of a b c) = both (head_takes a) (both (are_selectors_take b) (step (both (expr_takes c) (step here))))

  pub are_selectors_take : {ts : Tokens} {xs : List Selector} {rest : Tokens} → AreSelectors ts xs rest → IsEnd rest ts
  are_selectors_take g.no_selectors = here
  are_selectors_take (g.member _ b) = step (step (are_selectors_take b))
  are_selectors_take (g.invoke a b) = step (step (both (are_arguments_take a) (are_selectors_take b)))
  are_selectors_take (g.index a b) = step (both (expr_takes a) (step (are_selectors_take b)))
  are_selectors_take (g.call a b) = both (are_arguments_take a) (are_selectors_take b)

  pub are_arguments_take : {ts : Tokens} {a : Arguments} {rest : Tokens} → AreArguments ts a rest → IsEnd rest ts
  are_arguments_take g.no_arguments = step (step here)
  are_arguments_take (g.arguments a) = step (both (are_exprs_take a) (step here))

  pub are_exprs_take : {ts : Tokens} {xs : List Expr} {rest : Tokens} → AreExprs ts xs rest → IsEnd rest ts
  are_exprs_take (g.last_expr a) = expr_takes a
  are_exprs_take (g.more_exprs a b) = both (expr_takes a) (step (are_exprs_take b))

  pub are_entries_take : {ts : Tokens} {xs : List Entry} {rest : Tokens} → AreEntries ts xs rest → IsEnd rest ts
  are_entries_take (g.last_entry a b) = both (expr_takes a) (step (expr_takes b))
  are_entries_take (g.more_entries a b c) = both (expr_takes a) (step (both (expr_takes b) (step (are_entries_take c))))

  pub head_takes : {ts : Tokens} {a : Head} {rest : Tokens} → IsHead ts a rest → IsEnd rest ts
  head_takes g.named = step here
  head_takes g.this = step here
  head_takes (g.super _) = step here
  head_takes g.null = step here
  head_takes g.true' = step here
  head_takes g.false' = step here
  head_takes g.number = step here
  head_takes (g.texts a) = are_texts_take a
  head_takes (g.new a b) = step (both (are_new_names_take a) (are_arguments_take b))
  head_takes (g.parenthesised _ b) = step (both (expr_takes b) (step here))
  head_takes (g.literal _ b c) = both (parameters_takes b) (literal_body_takes c)
  head_takes (g.no_items a) = both (may_have_type_arguments_takes a) (step (step here))
  head_takes (g.list a b c) = both (may_have_type_arguments_takes a) (step (both (are_exprs_take b) (last_comma_takes c)))
  head_takes (g.no_entries a) = both (may_have_type_arguments_takes a) (step (step here))
  head_takes (g.map a b c) = both (may_have_type_arguments_takes a) (step (both (are_entries_take b) (last_comma_takes c)))

  pub last_comma_takes : {ts : Tokens} {x : Sign} {j : ℕ} {rest : Tokens} → IsLastComma ts x j rest → IsEnd rest ts
  last_comma_takes g.no_comma = step here
  last_comma_takes g.comma = step (step here)

  pub are_texts_take : {ts : Tokens} {us : List ℕ} {ps : List Interpolation} {j : ℕ} {rest : Tokens} → AreTexts ts us ps j rest → IsEnd rest ts
  are_texts_take (g.last_text a _) = text_takes a
  are_texts_take (g.more_texts a b) = both (text_takes a) (are_texts_take b)

  pub text_takes : {ts : Tokens} {us : List ℕ} {ps : List Interpolation} {j : ℕ} {rest : Tokens} → IsText ts us ps j rest → IsEnd rest ts
  text_takes (g.text a) = step (step (are_parts_take a))

  pub are_parts_take : {ts : Tokens} {ps : List Interpolation} {j : ℕ} {rest : Tokens} → AreParts ts ps j rest → IsEnd rest ts
  are_parts_take g.close = step here
  are_parts_take (g.hole a b) = step (both (expr_takes a) (step (step (are_parts_take b))))

  pub literal_body_takes : {ts : Tokens} {d : Body} {j : ℕ} {rest : Tokens} → IsLiteralBody ts d j rest → IsEnd rest ts
  literal_body_takes (g.gives a _) = step (expr_takes a)
  literal_body_takes (g.block a) = block_takes a

  pub parameters_takes : {ts : Tokens} {ps : Parameters} {rest : Tokens} → IsParameters ts ps rest → IsEnd rest ts
  parameters_takes g.no_parameters = step (step here)
  parameters_takes (g.parameters a) = step (both (are_parameters_take a) (step here))

  pub are_parameters_take : {ts : Tokens} {xs : List Parameter} {ys : List OptionalParameter} {rest : Tokens} → AreParameters ts xs ys rest → IsEnd rest ts
  are_parameters_take (g.last_parameter a) = parameter_takes a
  are_parameters_take (g.more_parameters a b) = both (parameter_takes a) (step (are_parameters_take b))
  are_parameters_take (g.optional a) = step (both (are_optional_take a) (step here))

  pub are_optional_take : {ts : Tokens} {ys : List OptionalParameter} {rest : Tokens} → AreOptional ts ys rest → IsEnd rest ts
  are_optional_take (g.last_optional a) = optional_takes a
  are_optional_take (g.more_optional a b) = both (optional_takes a) (step (are_optional_take b))

  pub optional_takes : {ts : Tokens} {x : OptionalParameter} {rest : Tokens} → IsOptional ts x rest → IsEnd rest ts
  optional_takes (g.no_default a) = parameter_takes a
  optional_takes (g.default a b) = both (parameter_takes a) (step (expr_takes b))

  pub parameter_takes : {ts : Tokens} {x : Parameter} {rest : Tokens} → IsParameter ts x rest → IsEnd rest ts
  parameter_takes (g.parameter a b c d e) = both (metadata_takes a) (both (may_be_final_takes b) (both (may_have_result_takes c) (both (may_have_this_takes d) (step (may_have_parameters_takes e)))))

  pub may_be_final_takes : {ts : Tokens} {b : Bool} {rest : Tokens} → MayBeFinal ts b rest → IsEnd rest ts
  may_be_final_takes (g.neither _ _) = here
  may_be_final_takes g.var = step here
  may_be_final_takes g.final = step here

  pub may_have_this_takes : {ts : Tokens} {p : Option Span} {rest : Tokens} → MayHaveThis ts p rest → IsEnd rest ts
  may_have_this_takes (g.no_this _) = here
  may_have_this_takes g.has_this = step (step here)

  pub may_have_parameters_takes : {j : ℕ} {ts : Tokens} {j0 : ℕ} {rest : Tokens} → MayHaveParameters j ts j0 rest → IsEnd rest ts
  may_have_parameters_takes (g.no_nested _) = here
  may_have_parameters_takes (g.nested a) = parameters_takes a

  pub metadata_takes : {ts : Tokens} {rest : Tokens} → IsMetadata ts rest → IsEnd rest ts
  metadata_takes (g.no_metadata _) = here
  metadata_takes (g.metadata a b c) = step (both (are_metadata_names_take a) (both (may_have_arguments_takes b) (metadata_takes c)))

  pub are_metadata_names_take : {ts : Tokens} {xs : List Name} {rest : Tokens} → AreMetadataNames ts xs rest → IsEnd rest ts
  are_metadata_names_take (g.up_to_two a _) = dotted_takes a
  are_metadata_names_take (g.three a) = both (dotted_takes a) (step (step here))

  pub may_have_arguments_takes : {ts : Tokens} {rest : Tokens} → MayHaveArguments ts rest → IsEnd rest ts
  may_have_arguments_takes (g.no_args _) = here
  may_have_arguments_takes (g.has_args a) = are_arguments_take a

  pub are_variables_take : {ts : Tokens} {x : Variables} {j : ℕ} {rest : Tokens} → AreVariables ts x j rest → IsEnd rest ts
  are_variables_take (g.variables a b) = both (lead_takes a) (both (are_declared_take b) (step here))

  pub are_declared_take : {ts : Tokens} {xs : List Variable} {rest : Tokens} → AreDeclared ts xs rest → IsEnd rest ts
  are_declared_take (g.last_declared a) = declared_takes a
  are_declared_take (g.more_declared a b) = both (declared_takes a) (step (are_declared_take b))

  pub declared_takes : {ts : Tokens} {x : Variable} {rest : Tokens} → IsDeclared ts x rest → IsEnd rest ts
  declared_takes g.no_value = step here
  declared_takes (g.value a) = step (step (expr_takes a))

  pub block_takes : {ts : Tokens} {ss : List Stmt} {j : ℕ} {rest : Tokens} → IsBlock ts ss j rest → IsEnd rest ts
  block_takes (g.braces a) = step (both (are_stmts_take a) (step here))

  pub are_stmts_take : {ts : Tokens} {ss : List Stmt} {rest : Tokens} → AreStmts ts ss rest → IsEnd rest ts
  are_stmts_take g.no_stmts = here
  are_stmts_take (g.stmts a b) = both (stmt_takes a) (are_stmts_take b)

  pub local_body_takes : {ts : Tokens} {d : Body} {j : ℕ} {rest : Tokens} → IsLocalBody ts d j rest → IsEnd rest ts
  local_body_takes (g.gives_local a) = step (both (expr_takes a) (step here))
  local_body_takes (g.block_local a) = block_takes a

  pub stmt_takes : {ts : Tokens} {x : Stmt} {rest : Tokens} → IsStmt ts x rest → IsEnd rest ts
  stmt_takes (g.nested_block a) = block_takes a
  stmt_takes (g.declare _ b) = are_variables_take b
  stmt_takes (g.typed_function _ b c d) = both (may_have_result_takes b) (step (both (parameters_takes c) (local_body_takes d)))
  stmt_takes (g.untyped_function _ b c) = step (both (parameters_takes b) (local_body_takes c))
  stmt_takes g.empty = step here
  stmt_takes (g.evaluate _ _ c) = both (expr_takes c) (step here)
  stmt_takes (g.if' a b _) = step (step (both (expr_takes a) (step (stmt_takes b))))
  stmt_takes (g.if_else a b c) = step (step (both (expr_takes a) (step (both (stmt_takes b) (step (stmt_takes c))))))
  stmt_takes (g.while a b) = step (step (both (expr_takes a) (step (stmt_takes b))))
  stmt_takes (g.do' a b) = step (both (stmt_takes a) (step (step (both (expr_takes b) (step (step here))))))
  stmt_takes (g.for_declared _ b c d e) = step (step (both (are_variables_take b) (both (may_be_expr_takes c) (step (both (are_updates_take d) (stmt_takes e))))))
  stmt_takes (g.for' _ b c d e) = step (step (both (may_be_exprs_takes b) (step (both (may_be_expr_takes c) (step (both (are_updates_take d) (stmt_takes e)))))))
  stmt_takes (g.for_in_declared _ b c d) = step (step (both (lead_takes b) (step (step (both (expr_takes c) (step (stmt_takes d)))))))
  stmt_takes (g.for_in a b) = step (step (step (step (both (expr_takes a) (step (stmt_takes b))))))
  stmt_takes g.break' = step (step here)
  stmt_takes g.continue' = step (step here)
  stmt_takes g.return' = step (step here)
  stmt_takes (g.return_value a) = step (both (expr_takes a) (step here))
  stmt_takes g.rethrow' = step (step here)
  stmt_takes (g.assert' a) = step (step (both (expr_takes a) (step (step here))))
  stmt_takes (g.try' a b _) = step (both (block_takes a) (are_catches_take b))
  stmt_takes (g.try_finally a b c) = step (both (block_takes a) (both (are_catches_take b) (step (block_takes c))))

  pub may_be_expr_takes : {ts : Tokens} {a : Option Expr} {rest : Tokens} → MayBeExpr ts a rest → IsEnd rest ts
  may_be_expr_takes (g.no_expr _) = here
  may_be_expr_takes (g.an_expr a) = expr_takes a

  pub may_be_exprs_takes : {ts : Tokens} {xs : List Expr} {rest : Tokens} → MayBeExprs ts xs rest → IsEnd rest ts
  may_be_exprs_takes (g.no_exprs _) = here
  may_be_exprs_takes (g.some_exprs a) = are_exprs_take a

  pub are_updates_take : {ts : Tokens} {xs : List Expr} {rest : Tokens} → AreUpdates ts xs rest → IsEnd rest ts
  are_updates_take g.no_updates = step here
  are_updates_take (g.updates a) = both (are_exprs_take a) (step here)

  pub are_catches_take : {j : ℕ} {ts : Tokens} {ds : List Catch} {j0 : ℕ} {rest : Tokens} → AreCatches j ts ds j0 rest → IsEnd rest ts
  are_catches_take (g.no_catches _) = here
  are_catches_take (g.catches _ b c) = both (catch_takes b) (are_catches_take c)

  pub catch_takes : {ts : Tokens} {x : Catch} {rest : Tokens} → IsCatch ts x rest → IsEnd rest ts
  catch_takes (g.on a _ c) = step (both (type_takes a) (block_takes c))
  catch_takes (g.on_catch a b) = step (both (type_takes a) (step (step (step (step (block_takes b))))))
  catch_takes (g.catch a) = step (step (step (step (block_takes a))))
