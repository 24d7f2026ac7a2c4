-- What is known of the structs of a tree, and of expressions, by their parts.
use Rattle.std.proofs.Common.{◌≡◌, ◌&&◌, List, map, length, ◌+◌, refl, ap, ◌∙◌}
use Rattle.dart_grammar.specs.declared.trees.Body.TheOpen.{Expr-F}
use Rattle.dart_grammar.specs.declared.trees.PrefixOperator.TheVariants as p
use Rattle.dart_grammar.specs.declared.trees.Body.TheFolds.{map-Expr}
use Rattle.dart_grammar.specs.declared.trees.Expr.{Expr, out-Expr, fold_out-Expr}
use Rattle.dart_grammar.specs.declared.trees.Selector.{Selector}
use Rattle.dart_grammar.specs.declared.trees.Body.{Body}
use Rattle.dart_grammar.specs.declared.trees.Head.{Head}
use Rattle.dart_grammar.specs.declared.trees.OptionalParameter.{OptionalParameter}
use Rattle.dart_grammar.specs.declared.trees.Stmt.{Stmt}
use Rattle.dart_grammar.specs.declared.trees.Target.{Target}
use Rattle.dart_grammar.specs.declared.trees.Variable.{Variable}
use Rattle.dart_grammar.specs.declared.trees.Catch.{Catch, fold_out-Catch}
use Rattle.dart_grammar.specs.declared.trees.Entry.{Entry, fold_out-Entry}
use Rattle.dart_grammar.specs.declared.trees.Interpolation.{Interpolation, fold_out-Interpolation}
use Rattle.dart_grammar.specs.declared.trees.Variables.{Variables, fold_out-Variables}
use Rattle.dart_grammar.specs.declared.trees.Arguments.{Arguments, fold_out-Arguments}
use Rattle.dart_grammar.specs.declared.trees.Chain.{Chain, fold_out-Chain}
use Rattle.dart_grammar.specs.declared.trees.Parameters.{Parameters, fold_out-Parameters}
use Rattle.dart_grammar.specs.Trees.{span_of, span_at, ExprLevel}
use Rattle.dart_sites.specs.declared.sites.Use.{Use}
use Rattle.dart_sites.specs.declared.sites.Site.TheVariants as x
use Rattle.std.proofs.lemmas.List.{length-map}
use Rattle.dart_sites.specs.Sites.{Sites, here, both, each, if_any, ◌▸◌}
use Rattle.dart_sites.specs.Expressions.{ExprSites, ChainSites, HeadSites, SelectorSites, ArgumentsSites, is_super, is_alone, use_before, selectors_sites, receiver_behind}
use Rattle.dart_sites.specs.Functions.{ParametersSites, OptionalSites, parameter_sites, list_locals, list_sites}
use Rattle.dart_sites.specs.Statements.{StmtSites, VariableSites, VariablesSites, local_variables, member_variables, clause}
use Rattle.dart_sites.specs.Trees.{Parts, body_in, expr_in, head_in, optional_in, selector_in, stmt_in, target_in, variable_in, arguments_in, catch_in, chain_in, entry_in, interpolation_in, parameters_in, variables_in, body_form, expr_form, head_form, optional_form, selector_form, stmt_form, target_form, variable_form, arguments_form, catch_form, chain_form, entry_form, interpolation_form, parameters_form, variables_form}

pub chain_parts : (c : Chain) → chain_in c ≡ record {
  span = c.span;
  is_super = is_super (head_in c.head).receiver && is_alone (map selector_in c.selectors);
  is_number = (head_in c.head).is_number && is_alone (map selector_in c.selectors);
  is_constant = (head_in c.head).is_constant && is_alone (map selector_in c.selectors);
  receiver = receiver_behind (head_in c.head).receiver (map selector_in c.selectors);
  sites = λ last. (head_in c.head).sites (use_before (map selector_in c.selectors) last) ▸ selectors_sites (head_in c.head).receiver (map selector_in c.selectors) last;
}
chain_parts = fold_out-Chain Sites ExprSites HeadSites OptionalSites SelectorSites StmtSites (Use → Sites) VariableSites ArgumentsSites Sites ChainSites Sites Sites ParametersSites VariablesSites body_form expr_form head_form optional_form selector_form stmt_form target_form variable_form arguments_form catch_form chain_form entry_form interpolation_form parameters_form variables_form

pub arguments_parts : (a : Arguments) → arguments_in a ≡ record {
  span = a.span;
  count = length (map expr_in a.items);
  sites = here (x.ArgumentList a.span (length (map expr_in a.items))) ▸ each (λ z. z.sites) (map expr_in a.items);
}
arguments_parts = fold_out-Arguments Sites ExprSites HeadSites OptionalSites SelectorSites StmtSites (Use → Sites) VariableSites ArgumentsSites Sites ChainSites Sites Sites ParametersSites VariablesSites body_form expr_form head_form optional_form selector_form stmt_form target_form variable_form arguments_form catch_form chain_form entry_form interpolation_form parameters_form variables_form

pub parameters_parts : (ps : Parameters) → parameters_in ps ≡ record {
  count = length ps.required + length (map optional_in ps.optional);
  locals = list_locals ps.required (map optional_in ps.optional);
  sites = list_sites ps.span ps.required (map optional_in ps.optional);
}
parameters_parts = fold_out-Parameters Sites ExprSites HeadSites OptionalSites SelectorSites StmtSites (Use → Sites) VariableSites ArgumentsSites Sites ChainSites Sites Sites ParametersSites VariablesSites body_form expr_form head_form optional_form selector_form stmt_form target_form variable_form arguments_form catch_form chain_form entry_form interpolation_form parameters_form variables_form

abbrev pub expr_read : ExprLevel → Parts Expr-F
expr_read = map-Expr Body Expr Head OptionalParameter Selector Stmt Target Variable Arguments Catch Chain Entry Interpolation Parameters Variables Sites ExprSites HeadSites OptionalSites SelectorSites StmtSites (Use → Sites) VariableSites ArgumentsSites Sites ChainSites Sites Sites ParametersSites VariablesSites body_in expr_in head_in optional_in selector_in stmt_in target_in variable_in arguments_in catch_in chain_in entry_in interpolation_in parameters_in variables_in

span_at_form : (y : ExprLevel) → (expr_form (expr_read y)).span ≡ span_at y
span_at_form (Expr-F.Chained c) = ap (λ z. z.span) (chain_parts c)
span_at_form (Expr-F.StepBefore at o t) = refl
span_at_form (Expr-F.StepBehind at o t) = refl
span_at_form (Expr-F.Prefixed at p.Negate a) = refl
span_at_form (Expr-F.Prefixed at p.Not a) = refl
span_at_form (Expr-F.Operated at o a b) = refl
span_at_form (Expr-F.Is at a names) = refl
span_at_form (Expr-F.IsNot at a names) = refl
span_at_form (Expr-F.As at a names) = refl
span_at_form (Expr-F.Conditional at a b c) = refl
span_at_form (Expr-F.Assigned at t o a) = refl
span_at_form (Expr-F.Throw at a) = refl

pub expr_span : (a : Expr) → (expr_in a).span ≡ span_of a
unfolding span_of
expr_span a = ap (λ z. z.span) (fold_out-Expr Sites ExprSites HeadSites OptionalSites SelectorSites StmtSites (Use → Sites) VariableSites ArgumentsSites Sites ChainSites Sites Sites ParametersSites VariablesSites body_form expr_form head_form optional_form selector_form stmt_form target_form variable_form arguments_form catch_form chain_form entry_form interpolation_form parameters_form variables_form a) ∙ span_at_form (out-Expr a)

pub catch_parts : (c : Catch) → catch_in c ≡ if_any (λ names. here (x.TypeTested names)) c.type_names ▸ clause c.name (map stmt_in c.body)
catch_parts = fold_out-Catch Sites ExprSites HeadSites OptionalSites SelectorSites StmtSites (Use → Sites) VariableSites ArgumentsSites Sites ChainSites Sites Sites ParametersSites VariablesSites body_form expr_form head_form optional_form selector_form stmt_form target_form variable_form arguments_form catch_form chain_form entry_form interpolation_form parameters_form variables_form

pub variables_parts : (vs : Variables) → variables_in vs ≡ record { is_final = vs.is_final; items = map variable_in vs.items }
variables_parts = fold_out-Variables Sites ExprSites HeadSites OptionalSites SelectorSites StmtSites (Use → Sites) VariableSites ArgumentsSites Sites ChainSites Sites Sites ParametersSites VariablesSites body_form expr_form head_form optional_form selector_form stmt_form target_form variable_form arguments_form catch_form chain_form entry_form interpolation_form parameters_form variables_form

pub interpolation_parts : (y : Interpolation) → interpolation_in y ≡ (expr_in y.value).sites
interpolation_parts = fold_out-Interpolation Sites ExprSites HeadSites OptionalSites SelectorSites StmtSites (Use → Sites) VariableSites ArgumentsSites Sites ChainSites Sites Sites ParametersSites VariablesSites body_form expr_form head_form optional_form selector_form stmt_form target_form variable_form arguments_form catch_form chain_form entry_form interpolation_form parameters_form variables_form

pub entry_parts : (y : Entry) → entry_in y ≡ (expr_in y.key).sites ▸ (expr_in y.value).sites
entry_parts = fold_out-Entry Sites ExprSites HeadSites OptionalSites SelectorSites StmtSites (Use → Sites) VariableSites ArgumentsSites Sites ChainSites Sites Sites ParametersSites VariablesSites body_form expr_form head_form optional_form selector_form stmt_form target_form variable_form arguments_form catch_form chain_form entry_form interpolation_form parameters_form variables_form

-- ---- how many there are

pub as_many : (xs : List Expr) → length (map expr_in xs) ≡ length xs
as_many xs = length-map xs expr_in

pub as_many_optional : (xs : List OptionalParameter) → length (map optional_in xs) ≡ length xs
as_many_optional xs = length-map xs optional_in

-- ---- what is asked of a struct, by its parts

pub arguments_count : (a : Arguments) → (arguments_in a).count ≡ length a.items
arguments_count a = ap (λ z. z.count) (arguments_parts a) ∙ as_many a.items

pub arguments_span : (a : Arguments) → (arguments_in a).span ≡ a.span
arguments_span a = ap (λ z. z.span) (arguments_parts a)

pub arguments_sites : (a : Arguments) → (arguments_in a).sites ≡ here (x.ArgumentList a.span (length a.items)) ▸ each (λ z. z.sites) (map expr_in a.items)
arguments_sites a = ap (λ z. z.sites) (arguments_parts a) ∙ ap (λ n. here (x.ArgumentList a.span n) ▸ each (λ z. z.sites) (map expr_in a.items)) (as_many a.items)

pub chain_sites : (c : Chain) → (chain_in c).sites ≡ λ last. (head_in c.head).sites (use_before (map selector_in c.selectors) last) ▸ selectors_sites (head_in c.head).receiver (map selector_in c.selectors) last
chain_sites c = ap (λ z. z.sites) (chain_parts c)

pub chain_receiver : (c : Chain) → (chain_in c).receiver ≡ receiver_behind (head_in c.head).receiver (map selector_in c.selectors)
chain_receiver c = ap (λ z. z.receiver) (chain_parts c)

pub parameters_count : (ps : Parameters) → (parameters_in ps).count ≡ length ps.required + length ps.optional
parameters_count ps = ap (λ z. z.count) (parameters_parts ps) ∙ ap (λ n. length ps.required + n) (as_many_optional ps.optional)

pub parameters_locals : (ps : Parameters) → (parameters_in ps).locals ≡ list_locals ps.required (map optional_in ps.optional)
parameters_locals ps = ap (λ z. z.locals) (parameters_parts ps)

pub parameters_sites : (ps : Parameters) → (parameters_in ps).sites ≡ λ outside. here (x.ParameterList ps.span (length ps.required + length ps.optional)) ▸ each parameter_sites ps.required ▸ each (λ y. y.sites outside) (map optional_in ps.optional)
parameters_sites ps = ap (λ z. z.sites) (parameters_parts ps) ∙ ap (λ n outside. here (x.ParameterList ps.span (length ps.required + n)) ▸ each parameter_sites ps.required ▸ each (λ y. y.sites outside) (map optional_in ps.optional)) (as_many_optional ps.optional)

pub local_variables_of : (vs : Variables) → local_variables (variables_in vs) ≡ each (λ v. both (here (x.Local v.name)) v.value) (map variable_in vs.items)
local_variables_of vs = ap local_variables (variables_parts vs)

pub member_variables_of : (vs : Variables) → member_variables (variables_in vs) ≡ each (λ v. both (here (x.Variable vs.is_final v.name)) v.value) (map variable_in vs.items)
member_variables_of vs = ap member_variables (variables_parts vs)
