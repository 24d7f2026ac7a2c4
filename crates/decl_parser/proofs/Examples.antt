-- Each form of files stands somewhere.
use Rattle.std.proofs.Common.{ℕ, true, List, [], ◌∷◌, ap, refl}
use Rattle.std.specs.Prelude.{codes}
use Rattle.dart_syntax.specs.declared.words.Sign.{Sign}
use Rattle.dart_syntax.specs.declared.words.Sign.TheVariants as s
use Rattle.dart_grammar.specs.declared.trees.Span.{Span}
use Rattle.dart_grammar.specs.declared.trees.Expr.TheVariants as e
use Rattle.dart_grammar.specs.declared.trees.Head.TheVariants as h
use Rattle.dart_grammar.specs.declared.trees.Parameter.{Parameter}
use Rattle.dart_grammar.specs.declared.declarations.Import.{Import}
use Rattle.dart_grammar.specs.declared.declarations.Declaration.{Declaration}
use Rattle.dart_grammar.specs.declared.declarations.Initialiser.{Initialiser}
use Rattle.dart_grammar.specs.declared.declarations.Member.{Member}
use Rattle.dart_grammar.specs.declared.declarations.OperatorName.{OperatorName}
use Rattle.dart_grammar.specs.Marks.{Tokens, sign, ident, same_sign, same_word}
use Rattle.dart_grammar.specs.Shapes.{metadata_end}
use Rattle.dart_grammar.specs.Trees.{name_of, chain_of}
use Rattle.dart_grammar.specs.Grammar as gr
use Rattle.dart_grammar.specs.Grammar.{IsExpr, IsParameter}
use Rattle.dart_grammar.specs.Declarations as g
use Rattle.dart_grammar.specs.Declarations.{is_variables, kind_of, begins_static, path_end, IsOperatorName, AreInitialisers, IsMember, AreMembers, IsDeclaration, AreDeclarations, IsImport, AreImports}
use Rattle.expr_parser.proofs.ChainsComplete.{bare_no_super}
use Rattle.decl_parser.proofs.Ahead.{operator_sign, operator_at, libraries_are_seen, imports_are_seen, operators_are_seen}
use Rattle.decl_parser.specs.Example as x
use Rattle.decl_parser.specs.Example.{EachFormStands}

-- a name as an expression
name_stands : (y : List ℕ) (p : Span) (ts : Tokens) → IsExpr (ident y p ∷ ts) (e.Chained (chain_of (h.Named (name_of y p)) [])) ts
name_stands y p ts =
    let one : gr.IsLevel 1 (ident y p ∷ ts) (e.Chained (chain_of (h.Named (name_of y p)) [])) ts = gr.unary (gr.chained gr.named gr.no_selectors) in
    gr.plain (gr.no_choice (gr.level (gr.level (gr.level (gr.level (gr.level (gr.level one gr.no_operator) gr.no_operator) gr.no_operator) gr.no_operator) gr.no_operator) gr.no_operator) (bare_no_super (name_of y p)))

parameter_stands : (y : List ℕ) (p q : Span) (ts : Tokens) → (v : Parameter) × IsParameter (ident y p ∷ sign s.CloseParen q ∷ ts) v (sign s.CloseParen q ∷ ts)
unfolding same_sign
parameter_stands y p q ts = (_, gr.parameter (gr.no_metadata refl) (gr.neither refl refl) (gr.no_result refl) (gr.no_this refl) (gr.no_nested refl))

-- ---- imports

import_some_stands : (ts : Tokens) → (y : Import) × IsImport (x.import_some ts) y ts
unfolding same_sign
import_some_stands ts = (_, g.import' (gr.metadata (gr.up_to_two (gr.one refl) refl) (gr.no_args refl) (gr.no_metadata refl)) g.prefix (g.shows (g.more_shown g.last_shown) (g.hides g.last_shown g.no_combinators)))

import_later_stands : (ts : Tokens) → (y : Import) × IsImport (x.import_later ts) y ts
unfolding same_sign
import_later_stands ts = (_, g.import' (gr.no_metadata refl) g.deferred g.no_combinators)

import_all_stands : (ts : Tokens) → (y : Import) × IsImport (x.import_all ts) y ts
unfolding same_sign
import_all_stands ts = (_, g.import' (gr.no_metadata refl) (g.no_prefix refl refl) g.no_combinators)

-- ---- members

abbrev Stands : (Tokens → Tokens) → Type 0
Stands part = (ts : Tokens) → (y : Member) × IsMember true (codes "c") (part ts) y ts

variables_stand : Stands x.variables
unfolding kind_of begins_static same_sign same_word
variables_stand ts = (_, g.plain_member (gr.no_metadata refl) refl refl (g.fields refl (gr.variables gr.var_lead (gr.last_declared gr.no_value))))

static_method_stands : Stands x.static_method
unfolding kind_of begins_static same_sign same_word
static_method_stands ts =
    let result = gr.type_result refl refl (gr.plain_type (gr.one refl) refl) in
    (_, g.static (gr.no_metadata refl) refl (g.method refl (g.function result gr.no_parameters (g.gives (name_stands (codes "d") x.at (sign s.Semicolon x.at ∷ ts))))))

abstract_getter_stands : Stands x.abstract_getter
unfolding kind_of begins_static same_sign same_word
abstract_getter_stands ts = (_, g.plain_member (gr.no_metadata refl) refl refl (g.getter_member refl (g.getter (g.at_once refl) (g.abstract refl))))

typed_setter_stands : Stands x.typed_setter
unfolding kind_of begins_static same_sign same_word
typed_setter_stands ts =
    let result = gr.type_result refl refl (gr.plain_type (gr.one refl) refl) in
    (_, g.plain_member (gr.no_metadata refl) refl refl (g.setter_member refl (g.setter (g.behind_type refl result) (parameter_stands (codes "d") x.at x.at (x.braces ts)).1 (g.block (gr.braces gr.no_stmts)))))

native_operator_stands : Stands x.native_operator
unfolding kind_of begins_static same_sign same_word
native_operator_stands ts = (_, g.operator_member (gr.no_metadata refl) refl refl refl (g.operator (g.at_once refl) g.plus gr.no_parameters (g.native_body refl)))

operator_stands : (z : Sign) {o : OperatorName} → ((ts : Tokens) → IsOperatorName (sign z x.at ∷ ts) o x.at ts) → Stands (x.operator_of z)
unfolding begins_static same_sign
operator_stands z named ts =
    let behind : Tokens = x.parentheses (sign s.Semicolon x.at ∷ ts) in
    let is_operator = operator_at x.at (sign z x.at ∷ behind) (operator_sign (named behind)) in
    let method : g.IsOperator true 0 (x.operator_of z ts) _ ts = g.operator (g.at_once (ap is_variables is_operator)) (named behind) gr.no_parameters (g.abstract refl) in
    (_, g.operator_member (gr.no_metadata refl) refl refl (operators_are_seen true 0 (x.operator_of z ts) ts _ method) method)

index_operator_stands : Stands x.index_operator
unfolding kind_of begins_static same_sign same_word
index_operator_stands ts = (_, g.operator_member (gr.no_metadata refl) refl refl refl (g.operator (g.at_once refl) (g.at_index refl) gr.no_parameters (g.abstract refl)))

set_index_operator_stands : Stands x.set_index_operator
unfolding kind_of begins_static same_sign same_word
set_index_operator_stands ts = (_, g.operator_member (gr.no_metadata refl) refl refl refl (g.operator (g.at_once refl) g.set_index gr.no_parameters (g.abstract refl)))

plain_constructor_stands : Stands x.plain_constructor
unfolding begins_static path_end same_sign same_word
plain_constructor_stands ts = (_, g.constructor_member (gr.no_metadata refl) refl refl (g.constructor (g.unnamed refl) gr.no_parameters (g.no_initialisers refl) refl (g.abstract refl)))

initialisers_stand : (ts : Tokens) → (y : List Initialiser) × g.MayInitialise (x.initialisers ts) y ts
initialisers_stand ts =
    let value : (rest : Tokens) → IsExpr (x.b ∷ rest) (e.Chained (chain_of (h.Named (name_of (codes "b") x.at)) [])) rest = name_stands (codes "b") x.at in
    (_, g.initialisers (g.more_initialisers (g.field_of_this (value _)) (g.more_initialisers (g.field (value _)) (g.more_initialisers (g.super_call gr.no_arguments) (g.last_initialiser (g.named_super_call gr.no_arguments))))))

named_constructor_stands : Stands x.named_constructor
unfolding begins_static path_end same_sign same_word
named_constructor_stands ts =
    (_, g.constructor_member (gr.no_metadata refl) refl refl (g.constructor g.named gr.no_parameters (initialisers_stand (x.braces ts)).1 refl (g.block (gr.braces gr.no_stmts))))

abbrev Members : Tokens → Tokens → Type 0
Members ts rest = (ys : List Member) × AreMembers true (codes "c") ts ys rest

no_member : (ts : Tokens) → Members ts ts
no_member ts = ([], g.no_members)

then_member : {part : Tokens → Tokens} {ts rest : Tokens} → Stands part → Members ts rest → Members (part ts) rest
then_member {ts = ts} y m = let z = y ts in (z.0 ∷ m.0, g.members z.1 m.1)

members_stand : (ts : Tokens) → Members (x.members ts) ts
members_stand ts =
    then_member variables_stand (then_member static_method_stands (then_member abstract_getter_stands (then_member typed_setter_stands (then_member native_operator_stands
    (then_member (operator_stands s.Minus (λ ts. g.minus)) (then_member (operator_stands s.Times (λ ts. g.times)) (then_member (operator_stands s.Divide (λ ts. g.divide)) (then_member (operator_stands s.Modulo (λ ts. g.modulo)) (then_member (operator_stands s.Less (λ ts. g.less)) (then_member (operator_stands s.Greater (λ ts. g.greater))
    (then_member (operator_stands s.LessEqual (λ ts. g.less_equal)) (then_member (operator_stands s.GreaterEqual (λ ts. g.greater_equal)) (then_member index_operator_stands (then_member set_index_operator_stands
    (then_member plain_constructor_stands (then_member named_constructor_stands (no_member ts)))))))))))))))))

-- ---- declarations

abbrev Declares : (Tokens → Tokens) → Type 0
Declares part = (ts : Tokens) → (y : Declaration) × IsDeclaration true (part ts) y ts

long_class_stands : Declares x.long_class
unfolding same_sign same_word
long_class_stands ts = (
  _,
  g.class (gr.no_metadata refl)
      (g.class_head g.is_abstract (g.type_parameters (g.more_type_parameters (g.bound (gr.plain_type (gr.one refl) refl)) (g.last_type_parameter (g.no_bound refl)))))
      refl
      (g.extends_with (gr.plain_type (gr.one refl) refl) (g.more_supertypes (gr.plain_type (gr.one refl) refl) (g.last_supertype (gr.plain_type (gr.one refl) refl))))
      (g.implements (g.last_supertype (gr.plain_type (gr.one refl) refl)))
      (members_stand (sign s.CloseBrace x.at ∷ ts)).1,
)

derived_class_stands : Declares x.derived_class
unfolding same_sign same_word
derived_class_stands ts =
    (_, g.class (gr.no_metadata refl) (g.class_head (g.concrete refl) (g.no_type_parameters refl)) refl (g.extends (gr.plain_type (gr.one refl) refl) refl) (g.no_interfaces refl) g.no_members)

short_class_stands : Declares x.short_class
unfolding same_sign same_word
short_class_stands ts = (_, g.class (gr.no_metadata refl) (g.class_head (g.concrete refl) (g.no_type_parameters refl)) refl (g.no_superclass refl) (g.no_interfaces refl) g.no_members)

alias_stands : Declares x.alias
unfolding same_sign same_word
alias_stands ts =
    (_, g.alias (gr.no_metadata refl) (g.class_head (g.concrete refl) (g.no_type_parameters refl)) (gr.plain_type (gr.one refl) refl) (g.last_supertype (gr.plain_type (gr.one refl) refl)) (g.no_interfaces refl))

function_stands : Declares x.function
unfolding kind_of same_sign same_word
function_stands ts = (_, g.function_declaration (gr.no_metadata refl) refl refl (g.function (gr.no_result refl) gr.no_parameters (g.block (gr.braces gr.no_stmts))))

getter_stands : Declares x.getter
unfolding kind_of same_sign same_word
getter_stands ts = (_, g.getter_declaration (gr.no_metadata refl) refl refl (g.getter (g.at_once refl) (g.block (gr.braces gr.no_stmts))))

setter_stands : Declares x.setter
unfolding kind_of same_sign same_word
setter_stands ts = (_, g.setter_declaration (gr.no_metadata refl) refl refl (g.setter (g.at_once refl) (parameter_stands (codes "d") x.at x.at (x.braces ts)).1 (g.block (gr.braces gr.no_stmts))))

variables_are_declared : Declares x.variables
unfolding kind_of same_sign same_word
variables_are_declared ts = (_, g.variables_declaration (gr.no_metadata refl) refl refl (gr.variables gr.var_lead (gr.last_declared gr.no_value)))

abbrev Declarations : Tokens → Type 0
Declarations ts = (ys : List Declaration) × AreDeclarations true ts ys

then_declaration : {part : Tokens → Tokens} {ts : Tokens} → Declares part → Declarations ts → Declarations (part ts)
then_declaration {ts = ts} y m = let z = y ts in (z.0 ∷ m.0, g.declarations z.1 m.1)

declarations_stand : Declarations x.declarations
declarations_stand =
    then_declaration long_class_stands (then_declaration derived_class_stands (then_declaration short_class_stands (then_declaration alias_stands
    (then_declaration function_stands (then_declaration getter_stands (then_declaration setter_stands (then_declaration variables_are_declared ([], g.no_declarations))))))))

-- ---- the file

abbrev Imports : Tokens → Tokens → Type 0
Imports ts rest = (ys : List Import) × AreImports ts ys rest

then_import : {part : Tokens → Tokens} {ts rest : Tokens} → ((ts : Tokens) → (y : Import) × IsImport (part ts) y ts) → Imports ts rest → Imports (part ts) rest
then_import {part = part} {ts = ts} y m = let z = y ts in (z.0 ∷ m.0, g.imports (imports_are_seen (part ts) ts z.0 z.1) z.1 m.1)

no_import : Imports x.declarations x.declarations
unfolding metadata_end same_sign
no_import = ([], g.no_imports refl)

pub each_form_stands : EachFormStands
each_form_stands =
    let imports = then_import import_some_stands (then_import import_later_stands (then_import import_all_stands no_import)) in
    let named = g.more_parts g.last_part in
    (_, g.file (g.library (libraries_are_seen x.at _ _ named) named) imports.1 declarations_stand.1)
