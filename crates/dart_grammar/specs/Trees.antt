-- Where trees stand in the file, and parts of trees that the grammar asks for.
use Rattle.std.specs.Prelude.{ℕ, Bool, true, false, not, ◌&&◌, ◌||◌, List, [], ◌∷◌, ◌++◌}
use Rattle.dart_grammar.specs.declared.trees.Span.{Span}
use Rattle.dart_grammar.specs.declared.trees.Name.{Name}
use Rattle.dart_grammar.specs.declared.trees.Operator.{Operator}
use Rattle.dart_grammar.specs.declared.trees.Body.TheOpen.{Expr-F, Head-F, Selector-F, Stmt-F, Target-F}
use Rattle.dart_grammar.specs.declared.trees.Expr.{Expr, out-Expr}
use Rattle.dart_grammar.specs.declared.trees.Head.{Head, out-Head}
use Rattle.dart_grammar.specs.declared.trees.Selector.{Selector, out-Selector}
use Rattle.dart_grammar.specs.declared.trees.Stmt.{Stmt, out-Stmt}
use Rattle.dart_grammar.specs.declared.trees.Target.{Target, out-Target}
use Rattle.dart_grammar.specs.declared.trees.Body.{Body}
use Rattle.dart_grammar.specs.declared.trees.Arguments.{Arguments}
use Rattle.dart_grammar.specs.declared.trees.Catch.{Catch}
use Rattle.dart_grammar.specs.declared.trees.Chain.{Chain}
use Rattle.dart_grammar.specs.declared.trees.Entry.{Entry}
use Rattle.dart_grammar.specs.declared.trees.Interpolation.{Interpolation}
use Rattle.dart_grammar.specs.declared.trees.OptionalParameter.{OptionalParameter}
use Rattle.dart_grammar.specs.declared.trees.Parameters.{Parameters}
use Rattle.dart_grammar.specs.declared.trees.Variable.{Variable}
use Rattle.dart_grammar.specs.declared.trees.Variables.{Variables}
use Rattle.dart_grammar.specs.Marks.{is_declared}

abbrev pub span : ℕ → ℕ → Span
span i j = record { from = i; to = j }

abbrev pub name_of : List ℕ → Span → Name
name_of x at = record { text = x; span = at }

-- one level of a tree
abbrev pub ExprLevel : Type 0
ExprLevel = Expr-F Body Expr Head OptionalParameter Selector Stmt Target Variable Arguments Catch Chain Entry Interpolation Parameters Variables

abbrev pub HeadLevel : Type 0
HeadLevel = Head-F Body Expr Head OptionalParameter Selector Stmt Target Variable Arguments Catch Chain Entry Interpolation Parameters Variables

abbrev pub SelectorLevel : Type 0
SelectorLevel = Selector-F Body Expr Head OptionalParameter Selector Stmt Target Variable Arguments Catch Chain Entry Interpolation Parameters Variables

abbrev pub StmtLevel : Type 0
StmtLevel = Stmt-F Body Expr Head OptionalParameter Selector Stmt Target Variable Arguments Catch Chain Entry Interpolation Parameters Variables

abbrev pub TargetLevel : Type 0
TargetLevel = Target-F Body Expr Head OptionalParameter Selector Stmt Target Variable Arguments Catch Chain Entry Interpolation Parameters Variables

abbrev pub span_at : ExprLevel → Span
span_at (Expr-F.Chained c) = c.span
span_at (Expr-F.StepBefore at x t) = at
span_at (Expr-F.StepBehind at x t) = at
span_at (Expr-F.Prefixed at o a) = at
span_at (Expr-F.Operated at o a b) = at
span_at (Expr-F.Is at a t) = at
span_at (Expr-F.IsNot at a t) = at
span_at (Expr-F.As at a t) = at
span_at (Expr-F.Conditional at a b c) = at
span_at (Expr-F.Assigned at t o a) = at
span_at (Expr-F.Throw at a) = at

unfoldable pub span_of : Expr → Span
span_of a = span_at (out-Expr a)

abbrev pub head_span_at : HeadLevel → Span
head_span_at (Head-F.Named x) = x.span
head_span_at (Head-F.This at) = at
head_span_at (Head-F.Super at) = at
head_span_at (Head-F.Null at) = at
head_span_at (Head-F.True at) = at
head_span_at (Head-F.False at) = at
head_span_at (Head-F.Number at n) = at
head_span_at (Head-F.Texts at us ps) = at
head_span_at (Head-F.New at x a) = at
head_span_at (Head-F.Parenthesised at a) = at
head_span_at (Head-F.Literal at ps b) = at
head_span_at (Head-F.List at xs) = at
head_span_at (Head-F.Map at xs) = at

unfoldable pub head_span : Head → Span
head_span a = head_span_at (out-Head a)

abbrev pub selector_span_at : SelectorLevel → Span
selector_span_at (Selector-F.Member at x) = at
selector_span_at (Selector-F.Invoke at x a) = at
selector_span_at (Selector-F.Index at a) = at
selector_span_at (Selector-F.Call a) = a.span

unfoldable pub selector_span : Selector → Span
selector_span a = selector_span_at (out-Selector a)

-- where the last selector ends, or what stands before the first
abbrev pub selectors_end : ℕ → List Selector → ℕ
selectors_end j [] = j
selectors_end j (x ∷ xs) = selectors_end (selector_span x).to xs

-- a head and selectors, from the head's beginning to the last selector's end
abbrev pub chain_of : Head → List Selector → Chain
chain_of a xs = record { span = span (head_span a).from (selectors_end (head_span a).to xs); head = a; selectors = xs }

abbrev pub target_span_at : TargetLevel → Span
target_span_at (Target-F.Bare x) = x.span
target_span_at (Target-F.MemberOf c x) = span c.span.from x.span.to
target_span_at (Target-F.IndexOf c at a) = span c.span.from at.to

unfoldable pub target_span : Target → Span
target_span a = target_span_at (out-Target a)

abbrev pub stmt_span_at : StmtLevel → Span
stmt_span_at (Stmt-F.Nested at xs) = at
stmt_span_at (Stmt-F.Declare at v) = at
stmt_span_at (Stmt-F.LocalFunction at x ps b) = at
stmt_span_at (Stmt-F.Empty at) = at
stmt_span_at (Stmt-F.Evaluate at a) = at
stmt_span_at (Stmt-F.If at a x) = at
stmt_span_at (Stmt-F.IfElse at a x y) = at
stmt_span_at (Stmt-F.While at a x) = at
stmt_span_at (Stmt-F.Do at x a) = at
stmt_span_at (Stmt-F.ForDeclared at v a xs x) = at
stmt_span_at (Stmt-F.For at ys a xs x) = at
stmt_span_at (Stmt-F.ForInDeclared at f x a y) = at
stmt_span_at (Stmt-F.ForIn at x a y) = at
stmt_span_at (Stmt-F.Break at) = at
stmt_span_at (Stmt-F.Continue at) = at
stmt_span_at (Stmt-F.Return at) = at
stmt_span_at (Stmt-F.ReturnValue at a) = at
stmt_span_at (Stmt-F.Rethrow at) = at
stmt_span_at (Stmt-F.Assert at) = at
stmt_span_at (Stmt-F.Try at xs cs) = at
stmt_span_at (Stmt-F.TryFinally at xs cs ys) = at

unfoldable pub stmt_span : Stmt → Span
stmt_span a = stmt_span_at (out-Stmt a)

-- from the beginning of the one to the end of the other
abbrev pub joined : Expr → Expr → Span
joined a b = span (span_of a).from (span_of b).to

-- ---- `super`, which stands alone only before an operator that a class can declare

abbrev pub is_super_head : HeadLevel → Bool
is_super_head (Head-F.Super at) = true
is_super_head _ = false

abbrev pub has_none : List Selector → Bool
has_none [] = true
has_none (x ∷ xs) = false

abbrev pub is_super_at : ExprLevel → Bool
is_super_at (Expr-F.Chained c) = is_super_head (out-Head c.head) && has_none c.selectors
is_super_at _ = false

unfoldable pub is_super : Expr → Bool
is_super a = is_super_at (out-Expr a)

-- operands that may stand on the two sides of the operator
abbrev pub fits : Operator → Expr → Expr → Bool
fits o a b = (is_declared o || not (is_super a)) && not (is_super b)

-- ---- texts one behind another are one text, in which pieces that meet are joined

abbrev pub with_behind : List ℕ → List Interpolation → List Interpolation
with_behind us [] = []
with_behind us (p ∷ []) = record { value = p.value; behind = p.behind ++ us } ∷ []
with_behind us (p ∷ q ∷ ps) = p ∷ with_behind us (q ∷ ps)

abbrev pub first_of : List ℕ → List Interpolation → List ℕ → List ℕ
first_of us [] vs = us ++ vs
first_of us (p ∷ ps) vs = us

abbrev pub parts_of : List Interpolation → List ℕ → List Interpolation → List Interpolation
parts_of ps vs qs = with_behind vs ps ++ qs
