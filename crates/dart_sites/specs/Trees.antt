-- What stands in each form of the grammar of expressions and statements.
use Rattle.std.specs.Prelude.{Bool, true, false, ◌&&◌, ◌+◌, List, [], ◌∷◌, length, Some}
use Rattle.dart_grammar.specs.declared.trees.Span.{Span}
use Rattle.dart_grammar.specs.declared.trees.PrefixOperator.TheVariants as p
use Rattle.dart_grammar.specs.declared.trees.Body.TheOpen.{Body-F, Expr-F, Head-F, OptionalParameter-F, Selector-F, Stmt-F, Target-F, Variable-F, Arguments-F, Catch-F, Chain-F, Entry-F, Interpolation-F, Parameters-F, Variables-F}
use Rattle.dart_grammar.specs.declared.trees.Body.{Body, fold-Body}
use Rattle.dart_grammar.specs.declared.trees.Expr.{Expr, fold-Expr}
use Rattle.dart_grammar.specs.declared.trees.Head.{Head, fold-Head}
use Rattle.dart_grammar.specs.declared.trees.OptionalParameter.{OptionalParameter, fold-OptionalParameter}
use Rattle.dart_grammar.specs.declared.trees.Selector.{Selector, fold-Selector}
use Rattle.dart_grammar.specs.declared.trees.Stmt.{Stmt, fold-Stmt}
use Rattle.dart_grammar.specs.declared.trees.Target.{Target, fold-Target}
use Rattle.dart_grammar.specs.declared.trees.Variable.{Variable, fold-Variable}
use Rattle.dart_grammar.specs.declared.trees.Arguments.{Arguments, fold-Arguments}
use Rattle.dart_grammar.specs.declared.trees.Catch.{Catch, fold-Catch}
use Rattle.dart_grammar.specs.declared.trees.Chain.{Chain, fold-Chain}
use Rattle.dart_grammar.specs.declared.trees.Entry.{Entry, fold-Entry}
use Rattle.dart_grammar.specs.declared.trees.Interpolation.{Interpolation, fold-Interpolation}
use Rattle.dart_grammar.specs.declared.trees.Parameters.{Parameters, fold-Parameters}
use Rattle.dart_grammar.specs.declared.trees.Variables.{Variables, fold-Variables}
use Rattle.dart_grammar.specs.declared.declarations.OperatorName.TheVariants as m
use Rattle.dart_sites.specs.declared.scopes.LocalKind.TheVariants as l
use Rattle.dart_sites.specs.declared.sites.Use.{Use}
use Rattle.dart_sites.specs.declared.sites.Use.TheVariants as u
use Rattle.dart_sites.specs.declared.sites.Receiver.TheVariants as r
use Rattle.dart_sites.specs.declared.sites.Site.TheVariants as x
use Rattle.dart_sites.specs.Sites.{Sites, none, here, ◌▸◌, each, if_any}
use Rattle.dart_sites.specs.Expressions.{ExprSites, ChainSites, HeadSites, SelectorSites, ArgumentsSites, method_of, assignment_method, step_method, assignment_use, operated, index_operated, is_super, behind_dot, use_before, receiver_behind, selectors_sites, is_alone, value_called}
use Rattle.dart_sites.specs.Functions.{ParametersSites, OptionalSites, parameter_sites, list_locals, list_sites, function_sites}
use Rattle.dart_sites.specs.Statements.{StmtSites, VariableSites, VariablesSites, name_local, variable_locals, local_variables, block, alone, turn, for_sites, for_in_sites, clause}

-- a form with what is known of its parts
abbrev pub Parts : (Type 0 → Type 0 → Type 0 → Type 0 → Type 0 → Type 0 → Type 0 → Type 0 → Type 0 → Type 0 → Type 0 → Type 0 → Type 0 → Type 0 → Type 0 → Type 0) → Type 0
Parts F = F Sites ExprSites HeadSites OptionalSites SelectorSites StmtSites (Use → Sites) VariableSites ArgumentsSites Sites ChainSites Sites Sites ParametersSites VariablesSites

-- ---- expressions

abbrev pub plain : Span → Sites → ExprSites
plain at sites = record { span = at; is_super = false; is_number = false; is_constant = false; sites = sites }

abbrev pub expr_form : Parts Expr-F → ExprSites
expr_form (Expr-F.Chained c) = record { span = c.span; is_super = c.is_super; is_number = c.is_number; is_constant = c.is_constant; sites = c.sites u.Read }
expr_form (Expr-F.StepBefore at o t) = plain at (here (x.Operated at (step_method o) false) ▸ t u.Changed)
expr_form (Expr-F.StepBehind at o t) = plain at (here (x.Operated at (step_method o) false) ▸ t u.Changed)
expr_form (Expr-F.Prefixed at p.Negate a) = record { span = at; is_super = false; is_number = false; is_constant = a.is_number; sites = here (x.Negated at) ▸ a.sites }
expr_form (Expr-F.Prefixed at p.Not a) = plain at a.sites
expr_form (Expr-F.Operated at o a b) = plain at (operated at a.is_super (method_of o) ▸ a.sites ▸ b.sites)
expr_form (Expr-F.Is at a names) = plain at (a.sites ▸ here (x.TypeTested names))
expr_form (Expr-F.IsNot at a names) = plain at (a.sites ▸ here (x.TypeTested names))
expr_form (Expr-F.As at a names) = plain at (a.sites ▸ here (x.TypeTested names))
expr_form (Expr-F.Conditional at a b c) = plain at (a.sites ▸ b.sites ▸ c.sites)
expr_form (Expr-F.Assigned at t o a) = plain at (operated at false (assignment_method o) ▸ t (assignment_use o) ▸ a.sites)
expr_form (Expr-F.Throw at a) = plain at a.sites

abbrev pub chain_form : Parts Chain-F → ChainSites
chain_form c = record {
  span = c.span;
  is_super = is_super c.head.receiver && is_alone c.selectors;
  is_number = c.head.is_number && is_alone c.selectors;
  is_constant = c.head.is_constant && is_alone c.selectors;
  receiver = receiver_behind c.head.receiver c.selectors;
  sites = λ last. c.head.sites (use_before c.selectors last) ▸ selectors_sites c.head.receiver c.selectors last;
}

-- a head that is no name
abbrev pub value : Sites → HeadSites
value sites = record { is_number = false; is_constant = false; receiver = r.Other; sites = λ last. sites }

abbrev pub constant : HeadSites
constant = record { is_number = false; is_constant = true; receiver = r.Other; sites = λ last. none }

abbrev pub has_no_parts : List Sites → Bool
has_no_parts [] = true
has_no_parts (y ∷ ys) = false

abbrev pub head_form : Parts Head-F → HeadSites
head_form (Head-F.Named y) = record { is_number = false; is_constant = false; receiver = r.Named y; sites = λ last. here (x.Named y last) }
head_form (Head-F.This at) = value (here (x.This at))
head_form (Head-F.Super at) = record { is_number = false; is_constant = false; receiver = r.Super; sites = λ last. here (x.Super at) }
head_form (Head-F.Null at) = constant
head_form (Head-F.True at) = constant
head_form (Head-F.False at) = constant
head_form (Head-F.Number at n) = record { is_number = true; is_constant = true; receiver = r.Other; sites = λ last. none }
head_form (Head-F.Texts at units ps) = record { is_number = false; is_constant = has_no_parts ps; receiver = r.Other; sites = λ last. each (λ y. y) ps }
head_form (Head-F.New at names args) = value (here (x.Made at names args.count) ▸ args.sites)
head_form (Head-F.Parenthesised at a) = value a.sites
head_form (Head-F.Literal at ps body) = value (here (x.Literal at ps.count) ▸ function_sites ps body)
head_form (Head-F.List at items) = value (each (λ y. y.sites) items)
head_form (Head-F.Map at entries) = value (each (λ y. y) entries)

abbrev pub interpolation_form : Parts Interpolation-F → Sites
interpolation_form y = y.value.sites

abbrev pub entry_form : Parts Entry-F → Sites
entry_form y = y.key.sites ▸ y.value.sites

abbrev pub arguments_form : Parts Arguments-F → ArgumentsSites
arguments_form y = record { span = y.span; count = length y.items; sites = here (x.ArgumentList y.span (length y.items)) ▸ each (λ z. z.sites) y.items }

abbrev pub selector_form : Parts Selector-F → SelectorSites
selector_form (Selector-F.Member at y) = record {
  does = u.ReadBeforeDot;
  receiver = λ before. behind_dot before y;
  sites = λ before last. here (x.Selected before y last);
}
selector_form (Selector-F.Invoke at y args) = record {
  does = u.ReadBeforeDot;
  receiver = λ before. r.Other;
  sites = λ before last. here (x.Selected before y (u.Called args.count)) ▸ args.sites;
}
selector_form (Selector-F.Index at a) = record {
  does = u.Read;
  receiver = λ before. r.Other;
  sites = λ before last. operated at (is_super before) (Some m.Index) ▸ a.sites;
}
selector_form (Selector-F.Call args) = record {
  does = u.Called args.count;
  receiver = λ before. r.Other;
  sites = λ before last. value_called before args ▸ args.sites;
}

abbrev pub target_form : Parts Target-F → Use → Sites
target_form (Target-F.Bare y) how = here (x.Named y how)
target_form (Target-F.MemberOf c y) how = c.sites u.ReadBeforeDot ▸ here (x.Selected c.receiver y how)
target_form (Target-F.IndexOf c at a) how = c.sites u.Read ▸ index_operated at c.is_super how ▸ a.sites

-- ---- functions

abbrev pub parameters_form : Parts Parameters-F → ParametersSites
parameters_form ps = record {
  count = length ps.required + length ps.optional;
  locals = list_locals ps.required ps.optional;
  sites = list_sites ps.span ps.required ps.optional;
}

abbrev pub optional_form : Parts OptionalParameter-F → OptionalSites
optional_form (OptionalParameter-F.WithoutDefault y) = record { parameter = y; sites = λ outside. parameter_sites y }
optional_form (OptionalParameter-F.WithDefault y a) = record {
  parameter = y;
  sites = λ outside. parameter_sites y ▸ λ inside. (here (x.Default a.span a.is_constant) ▸ a.sites) outside;
}

abbrev pub body_form : Parts Body-F → Sites
body_form (Body-F.Gives a) = a.sites
body_form (Body-F.Block xs) = block xs
body_form Body-F.Abstract = none
body_form (Body-F.Native y) = none

-- ---- statements

-- a statement that declares nothing
abbrev pub silent : Sites → StmtSites
silent sites = record { locals = []; sites = sites }

abbrev pub stmt_form : Parts Stmt-F → StmtSites
stmt_form (Stmt-F.Nested at xs) = silent (block xs)
stmt_form (Stmt-F.Declare at vs) = record { locals = variable_locals l.Variable vs; sites = local_variables vs }
stmt_form (Stmt-F.LocalFunction at y ps body) = record {
  locals = name_local l.Function false y ∷ [];
  sites = here (x.LocalFunction at y ps.count) ▸ here (x.Local y) ▸ function_sites ps body;
}
stmt_form (Stmt-F.Empty at) = silent none
stmt_form (Stmt-F.Evaluate at a) = silent a.sites
stmt_form (Stmt-F.If at a y) = silent (a.sites ▸ alone y)
stmt_form (Stmt-F.IfElse at a y z) = silent (a.sites ▸ alone y ▸ alone z)
stmt_form (Stmt-F.While at a y) = silent (a.sites ▸ turn y)
stmt_form (Stmt-F.Do at y a) = silent (turn y ▸ a.sites)
stmt_form (Stmt-F.ForDeclared at vs a updates y) = silent (for_sites vs (if_any (λ z. z.sites) a ▸ each (λ z. z.sites) updates) y)
stmt_form (Stmt-F.For at firsts a updates y) = silent (each (λ z. z.sites) firsts ▸ if_any (λ z. z.sites) a ▸ each (λ z. z.sites) updates ▸ turn y)
stmt_form (Stmt-F.ForInDeclared at is_final y a z) = silent (here (x.ForIn at) ▸ for_in_sites is_final y a.sites z)
stmt_form (Stmt-F.ForIn at y a z) = silent (here (x.ForIn at) ▸ here (x.Named y u.Assigned) ▸ a.sites ▸ turn z)
stmt_form (Stmt-F.Break at) = silent (here (x.Break at))
stmt_form (Stmt-F.Continue at) = silent (here (x.Continue at))
stmt_form (Stmt-F.Return at) = silent (here (x.Return at))
stmt_form (Stmt-F.ReturnValue at a) = silent (here (x.ReturnValue at) ▸ a.sites)
stmt_form (Stmt-F.Rethrow at) = silent (here (x.Rethrow at))
stmt_form (Stmt-F.Assert at) = silent none
stmt_form (Stmt-F.Try at xs cs) = silent (block xs ▸ each (λ z. z) cs)
stmt_form (Stmt-F.TryFinally at xs cs ys) = silent (block xs ▸ each (λ z. z) cs ▸ block ys)

abbrev pub catch_form : Parts Catch-F → Sites
catch_form c = if_any (λ names. here (x.TypeTested names)) c.type_names ▸ clause c.name c.body

abbrev pub variable_form : Parts Variable-F → VariableSites
variable_form (Variable-F.Unset y) = record { name = y; ends = y.span.to; value = none }
variable_form (Variable-F.Initialised y a) = record { name = y; ends = a.span.to; value = a.sites }

abbrev pub variables_form : Parts Variables-F → VariablesSites
variables_form vs = record { is_final = vs.is_final; items = vs.items }

-- ---- whole trees

abbrev pub body_in : Body → Sites
body_in = fold-Body Sites ExprSites HeadSites OptionalSites SelectorSites StmtSites (Use → Sites) VariableSites ArgumentsSites Sites ChainSites Sites Sites ParametersSites VariablesSites body_form expr_form head_form optional_form selector_form stmt_form target_form variable_form arguments_form catch_form chain_form entry_form interpolation_form parameters_form variables_form

abbrev pub expr_in : Expr → ExprSites
expr_in = fold-Expr Sites ExprSites HeadSites OptionalSites SelectorSites StmtSites (Use → Sites) VariableSites ArgumentsSites Sites ChainSites Sites Sites ParametersSites VariablesSites body_form expr_form head_form optional_form selector_form stmt_form target_form variable_form arguments_form catch_form chain_form entry_form interpolation_form parameters_form variables_form

abbrev pub head_in : Head → HeadSites
head_in = fold-Head Sites ExprSites HeadSites OptionalSites SelectorSites StmtSites (Use → Sites) VariableSites ArgumentsSites Sites ChainSites Sites Sites ParametersSites VariablesSites body_form expr_form head_form optional_form selector_form stmt_form target_form variable_form arguments_form catch_form chain_form entry_form interpolation_form parameters_form variables_form

abbrev pub optional_in : OptionalParameter → OptionalSites
optional_in = fold-OptionalParameter Sites ExprSites HeadSites OptionalSites SelectorSites StmtSites (Use → Sites) VariableSites ArgumentsSites Sites ChainSites Sites Sites ParametersSites VariablesSites body_form expr_form head_form optional_form selector_form stmt_form target_form variable_form arguments_form catch_form chain_form entry_form interpolation_form parameters_form variables_form

abbrev pub selector_in : Selector → SelectorSites
selector_in = fold-Selector Sites ExprSites HeadSites OptionalSites SelectorSites StmtSites (Use → Sites) VariableSites ArgumentsSites Sites ChainSites Sites Sites ParametersSites VariablesSites body_form expr_form head_form optional_form selector_form stmt_form target_form variable_form arguments_form catch_form chain_form entry_form interpolation_form parameters_form variables_form

abbrev pub stmt_in : Stmt → StmtSites
stmt_in = fold-Stmt Sites ExprSites HeadSites OptionalSites SelectorSites StmtSites (Use → Sites) VariableSites ArgumentsSites Sites ChainSites Sites Sites ParametersSites VariablesSites body_form expr_form head_form optional_form selector_form stmt_form target_form variable_form arguments_form catch_form chain_form entry_form interpolation_form parameters_form variables_form

abbrev pub target_in : Target → Use → Sites
target_in = fold-Target Sites ExprSites HeadSites OptionalSites SelectorSites StmtSites (Use → Sites) VariableSites ArgumentsSites Sites ChainSites Sites Sites ParametersSites VariablesSites body_form expr_form head_form optional_form selector_form stmt_form target_form variable_form arguments_form catch_form chain_form entry_form interpolation_form parameters_form variables_form

abbrev pub variable_in : Variable → VariableSites
variable_in = fold-Variable Sites ExprSites HeadSites OptionalSites SelectorSites StmtSites (Use → Sites) VariableSites ArgumentsSites Sites ChainSites Sites Sites ParametersSites VariablesSites body_form expr_form head_form optional_form selector_form stmt_form target_form variable_form arguments_form catch_form chain_form entry_form interpolation_form parameters_form variables_form

abbrev pub arguments_in : Arguments → ArgumentsSites
arguments_in = fold-Arguments Sites ExprSites HeadSites OptionalSites SelectorSites StmtSites (Use → Sites) VariableSites ArgumentsSites Sites ChainSites Sites Sites ParametersSites VariablesSites body_form expr_form head_form optional_form selector_form stmt_form target_form variable_form arguments_form catch_form chain_form entry_form interpolation_form parameters_form variables_form

abbrev pub catch_in : Catch → Sites
catch_in = fold-Catch Sites ExprSites HeadSites OptionalSites SelectorSites StmtSites (Use → Sites) VariableSites ArgumentsSites Sites ChainSites Sites Sites ParametersSites VariablesSites body_form expr_form head_form optional_form selector_form stmt_form target_form variable_form arguments_form catch_form chain_form entry_form interpolation_form parameters_form variables_form

abbrev pub chain_in : Chain → ChainSites
chain_in = fold-Chain Sites ExprSites HeadSites OptionalSites SelectorSites StmtSites (Use → Sites) VariableSites ArgumentsSites Sites ChainSites Sites Sites ParametersSites VariablesSites body_form expr_form head_form optional_form selector_form stmt_form target_form variable_form arguments_form catch_form chain_form entry_form interpolation_form parameters_form variables_form

abbrev pub entry_in : Entry → Sites
entry_in = fold-Entry Sites ExprSites HeadSites OptionalSites SelectorSites StmtSites (Use → Sites) VariableSites ArgumentsSites Sites ChainSites Sites Sites ParametersSites VariablesSites body_form expr_form head_form optional_form selector_form stmt_form target_form variable_form arguments_form catch_form chain_form entry_form interpolation_form parameters_form variables_form

abbrev pub interpolation_in : Interpolation → Sites
interpolation_in = fold-Interpolation Sites ExprSites HeadSites OptionalSites SelectorSites StmtSites (Use → Sites) VariableSites ArgumentsSites Sites ChainSites Sites Sites ParametersSites VariablesSites body_form expr_form head_form optional_form selector_form stmt_form target_form variable_form arguments_form catch_form chain_form entry_form interpolation_form parameters_form variables_form

abbrev pub parameters_in : Parameters → ParametersSites
parameters_in = fold-Parameters Sites ExprSites HeadSites OptionalSites SelectorSites StmtSites (Use → Sites) VariableSites ArgumentsSites Sites ChainSites Sites Sites ParametersSites VariablesSites body_form expr_form head_form optional_form selector_form stmt_form target_form variable_form arguments_form catch_form chain_form entry_form interpolation_form parameters_form variables_form

abbrev pub variables_in : Variables → VariablesSites
variables_in = fold-Variables Sites ExprSites HeadSites OptionalSites SelectorSites StmtSites (Use → Sites) VariableSites ArgumentsSites Sites ChainSites Sites Sites ParametersSites VariablesSites body_form expr_form head_form optional_form selector_form stmt_form target_form variable_form arguments_form catch_form chain_form entry_form interpolation_form parameters_form variables_form
