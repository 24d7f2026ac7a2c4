-- What stands in expressions, by what stands in their parts.
use Rattle.std.specs.Prelude.{ℕ, Bool, true, false, List, [], ◌∷◌, Option, Some, None}
use Rattle.dart_grammar.specs.declared.trees.Span.{Span}
use Rattle.dart_grammar.specs.declared.trees.Name.{Name}
use Rattle.dart_grammar.specs.declared.trees.Operator.{Operator}
use Rattle.dart_grammar.specs.declared.trees.Operator.TheVariants as o
use Rattle.dart_grammar.specs.declared.trees.Assignment.{Assignment}
use Rattle.dart_grammar.specs.declared.trees.Assignment.TheVariants as a
use Rattle.dart_grammar.specs.declared.trees.Step.{Step}
use Rattle.dart_grammar.specs.declared.trees.Step.TheVariants as t
use Rattle.dart_grammar.specs.declared.declarations.OperatorName.{OperatorName}
use Rattle.dart_grammar.specs.declared.declarations.OperatorName.TheVariants as m
use Rattle.dart_sites.specs.declared.sites.Use.{Use}
use Rattle.dart_sites.specs.declared.sites.Use.TheVariants as u
use Rattle.dart_sites.specs.declared.sites.Receiver.{Receiver}
use Rattle.dart_sites.specs.declared.sites.Receiver.TheVariants as r
use Rattle.dart_sites.specs.declared.sites.Site.TheVariants as x
use Rattle.dart_sites.specs.Sites.{Sites, none, here, ◌▸◌, if_any}

-- ---- what is known of a part

-- An expression: whether it is `super` alone, a whole number, and what a default may be.
pub record ExprSites : Type 0 where
  pub span : Span
  pub is_super : Bool
  pub is_number : Bool
  pub is_constant : Bool
  pub sites : Sites

-- A chain, by what is done with its value; what it is to a selector behind it.
pub record ChainSites : Type 0 where
  pub span : Span
  pub is_super : Bool
  pub is_number : Bool
  pub is_constant : Bool
  pub receiver : Receiver
  pub sites : Use → Sites

pub record HeadSites : Type 0 where
  pub is_number : Bool
  pub is_constant : Bool
  pub receiver : Receiver
  pub sites : Use → Sites

-- A selector, by its receiver and by what is done with its value; what it does with the receiver's value, and what it is to
-- a selector behind it.
pub record SelectorSites : Type 0 where
  pub does : Use
  pub receiver : Receiver → Receiver
  pub sites : Receiver → Use → Sites

pub record ArgumentsSites : Type 0 where
  pub span : Span
  pub count : ℕ
  pub sites : Sites

-- ---- operators, as the methods that they call

abbrev pub method_of : Operator → Option OperatorName
method_of o.Plus = Some m.Plus
method_of o.Minus = Some m.Minus
method_of o.Times = Some m.Times
method_of o.Divide = Some m.Divide
method_of o.Modulo = Some m.Modulo
method_of o.Less = Some m.Less
method_of o.Greater = Some m.Greater
method_of o.LessEqual = Some m.LessEqual
method_of o.GreaterEqual = Some m.GreaterEqual
method_of o.Equal = None
method_of o.NotEqual = None
method_of o.And = None
method_of o.Or = None

abbrev pub assignment_method : Assignment → Option OperatorName
assignment_method a.Set = None
assignment_method a.Plus = Some m.Plus
assignment_method a.Minus = Some m.Minus
assignment_method a.Times = Some m.Times
assignment_method a.Divide = Some m.Divide
assignment_method a.Modulo = Some m.Modulo

abbrev pub step_method : Step → OperatorName
step_method t.Increment = m.Plus
step_method t.Decrement = m.Minus

-- A plain assignment does not ask for the value.
abbrev pub assignment_use : Assignment → Use
assignment_use a.Set = u.Assigned
assignment_use _ = u.Changed

abbrev pub operated : Span → Bool → Option OperatorName → Sites
operated at on_super = if_any (λ method. here (x.Operated at method on_super))

-- the methods that an index as a target calls
abbrev pub index_operated : Span → Bool → Use → Sites
index_operated at on_super u.Changed = here (x.Operated at m.Index on_super) ▸ here (x.Operated at m.SetIndex on_super)
index_operated at on_super _ = here (x.Operated at m.SetIndex on_super)

-- ---- receivers

abbrev pub is_super : Receiver → Bool
is_super r.Super = true
is_super _ = false

-- A name, or two with a dot between, have a use of their own.
abbrev pub is_named : Receiver → Bool
is_named (r.Named y) = true
is_named (r.Dotted y z) = true
is_named _ = false

abbrev pub behind_dot : Receiver → Name → Receiver
behind_dot (r.Named y) z = r.Dotted y z
behind_dot _ z = r.Other

-- ---- chains

-- what is done with the value that these selectors stand behind, where `last` is done with that of the last one
abbrev pub use_before : List SelectorSites → Use → Use
use_before [] last = last
use_before (y ∷ ys) last = y.does

abbrev pub receiver_behind : Receiver → List SelectorSites → Receiver
receiver_behind before [] = before
receiver_behind before (y ∷ ys) = receiver_behind (y.receiver before) ys

abbrev pub selectors_sites : Receiver → List SelectorSites → Use → Sites
selectors_sites before [] last = none
selectors_sites before (y ∷ ys) last = y.sites before (use_before ys last) ▸ selectors_sites (y.receiver before) ys last

abbrev pub is_alone : List SelectorSites → Bool
is_alone [] = true
is_alone (y ∷ ys) = false

abbrev pub value_called : Receiver → ArgumentsSites → Sites
value_called (r.Named y) args = none
value_called (r.Dotted y z) args = none
value_called _ args = here (x.ValueCalled args.span args.count)
