-- Wherever a statement stands, its look tells it.
use Rattle.std.proofs.Common.{◌≡◌, ℕ, Bool, true, false, List, ◌∷◌, Some, refl}
use Rattle.std.specs.Prelude.{◌&&◌, if◌then◌else◌}
use Rattle.std.specs.Str.{bytes_eq}
use Rattle.dart_syntax.specs.declared.words.Word.TheVariants as w
use Rattle.dart_syntax.specs.declared.words.Sign.TheVariants as s
use Rattle.dart_grammar.specs.declared.kinds.Kind.TheVariants.{Variables as OfVariables}
use Rattle.dart_grammar.specs.declared.kinds.ForKind.TheVariants.{Declared}
use Rattle.dart_grammar.specs.declared.trees.Span.{Span}
use Rattle.dart_grammar.specs.declared.trees.Stmt.{Stmt}
use Rattle.dart_grammar.specs.Marks.{Tokens, ident, as_word, same_sign, same_word, next_word, next_sign, next_name, behind}
use Rattle.dart_grammar.specs.Shapes.{begins_type, begins_variables, begins_clause, type_end, lead_end, kind_of, for_kind_of}
use Rattle.dart_grammar.specs.Grammar as gr
use Rattle.dart_grammar.specs.Grammar.{MayHaveResult, IsLead, IsBlock}
use Rattle.expr_parser.proofs.TypesComplete.{name_no_word, type_first}
use Rattle.decl_parser.specs.LookAhead.{LocalVariablesAreSeen, TypedFunctionsAreSeen, LoopVariablesAreSeen, ClausesAreSeen}
use Rattle.decl_parser.proofs.Ahead.{and_false, or_true, type_seen, type_front, no_variables, parameters_front, DeclaredFront, declared_front, declared_ahead}

-- ---- what declares variables

annotation_seen : {ts rest : Tokens} → next_word w.Void ts ≡ false → MayHaveResult ts rest → (if begins_type ts then type_end ts else Some ts) ≡ Some rest
unfolding same_word
annotation_seen v (gr.no_result n) = rw n refl
annotation_seen v gr.void_result = absurd cc
annotation_seen v (gr.type_result w b d) = rw (b, type_seen d) refl

lead_seen : {ts rest : Tokens} {is_final : Bool} → IsLead ts is_final rest → lead_end ts ≡ Some rest
unfolding same_word
lead_seen gr.var_lead = refl
lead_seen (gr.final_lead v d) = annotation_seen v d
lead_seen (gr.const_lead v d) = annotation_seen v d
lead_seen (gr.type_lead {ts = ts} d) = let n = type_first d in rw (name_no_word w.Var ts n, name_no_word w.Final ts n, name_no_word w.Const ts n) (type_seen d)

lead_no_in : {ts rest : Tokens} {is_final : Bool} {x : List ℕ} {p : Span} → IsLead ts is_final (ident x p ∷ rest) → (next_name ts && next_word w.In (behind ts)) ≡ false
lead_no_in gr.var_lead = refl
lead_no_in (gr.final_lead v d) = refl
lead_no_in (gr.const_lead v d) = refl
lead_no_in (gr.type_lead {ts = ts} d) = rw (type_front d).3 (and_false (next_name ts))

variables_seen : {ts mid : Tokens} {is_final : Bool} → IsLead ts is_final mid → DeclaredFront mid → kind_of ts ≡ OfVariables
unfolding kind_of same_word
variables_seen gr.var_lead f = refl
variables_seen (gr.final_lead v d) f = refl
variables_seen (gr.const_lead v d) f = refl
variables_seen (gr.type_lead {ts = ts} t) (declared_front {x = x} n o c i) =
    let name = type_first t in
    rw (no_variables ts name, name_no_word w.Void ts name, type_seen t, n, c, and_false (bytes_eq as_word x), or_true (next_name ts && next_sign s.Less (behind ts))) refl

loop_variables_seen : {ts mid : Tokens} {is_final : Bool} → IsLead ts is_final mid → DeclaredFront mid → for_kind_of ts ≡ Declared
unfolding for_kind_of
loop_variables_seen {ts = ts} l (declared_front {x = x} n o c i) = rw (lead_no_in l, lead_seen l, n, i, and_false (bytes_eq as_word x), or_true (begins_variables ts)) refl

pub local_variables_are_seen : LocalVariablesAreSeen
local_variables_are_seen ts rest x j (gr.variables l d) = (variables_seen l (declared_ahead d), loop_variables_seen l (declared_ahead d))

pub loop_variables_are_seen : LoopVariablesAreSeen
unfolding for_kind_of same_word
loop_variables_are_seen is_final x p q ts rest l = rw (lead_no_in l, lead_seen l, and_false (bytes_eq as_word x), or_true (begins_variables ts)) refl

-- ---- functions and clauses

pub typed_functions_are_seen : TypedFunctionsAreSeen
unfolding kind_of same_word
typed_functions_are_seen x p ts mid rest ps h (gr.no_result n) d = absurd (let clash = rw h at n in cc)
typed_functions_are_seen x p ts mid rest ps h gr.void_result d = refl
typed_functions_are_seen x p ts mid rest ps h (gr.type_result v b t) d =
    let name = type_first t in
    let f = parameters_front d in
    rw (no_variables ts name, v, type_seen t, f.1, f.0, and_false (bytes_eq as_word x), or_true (next_name ts && next_sign s.Less (behind ts))) refl

block_front : {ts rest : Tokens} {xs : List Stmt} {j : ℕ} → IsBlock ts xs j rest → next_sign s.OpenBrace ts ≡ true
unfolding same_sign
block_front (gr.braces d) = refl

pub clauses_are_seen : ClausesAreSeen
unfolding begins_clause same_word
clauses_are_seen ts rest x (gr.on d m b) = rw (type_seen d, block_front b) refl
clauses_are_seen ts rest x (gr.on_catch d b) = rw (type_seen d) refl
clauses_are_seen ts rest x (gr.catch b) = refl
