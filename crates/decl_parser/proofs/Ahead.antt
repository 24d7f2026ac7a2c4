-- Wherever a form stands, its look tells it.
use Rattle.std.proofs.Common.{◌≡◌, ℕ, zero, suc, ◌-◌, ◌≤◌, Bool, true, false, List, ◌∷◌, length, Some, refl, sym, ◌∙◌, arith, inl, inr}
use Rattle.std.proofs.lemmas.Bool.Decides.{eqb_tells}
use Rattle.std.specs.Prelude.{◌==◌, ◌||◌, ◌&&◌, not}
use Rattle.std.specs.Str.{bytes_eq}
use Rattle.dart_syntax.specs.declared.words.Word.TheVariants as w
use Rattle.dart_syntax.specs.declared.words.Sign.TheVariants as s
use Rattle.dart_grammar.specs.declared.kinds.DeclarationKind.{DeclarationKind}
use Rattle.dart_grammar.specs.declared.kinds.DeclarationKind.TheVariants as k
use Rattle.dart_grammar.specs.declared.trees.Span.{Span}
use Rattle.dart_grammar.specs.declared.trees.Name.{Name}
use Rattle.dart_grammar.specs.declared.trees.Arguments.{Arguments}
use Rattle.dart_grammar.specs.declared.trees.Parameters.{Parameters}
use Rattle.dart_grammar.specs.declared.trees.Variable.{Variable}
use Rattle.dart_grammar.specs.declared.declarations.Member.{Member}
use Rattle.dart_grammar.specs.declared.declarations.OperatorName.{OperatorName}
use Rattle.dart_grammar.specs.Marks.{Tokens, sign, ident, same_sign, same_word, next, next_word, next_sign, next_name, behind}
use Rattle.dart_grammar.specs.Shapes.{dotted_end, brackets_end, bracketed_end, names_end, metadata_end, angles_end, type_end, result_end, begins_type, begins_variables}
use Rattle.dart_grammar.specs.Grammar as gr
use Rattle.dart_grammar.specs.Grammar.{IsMetadata, AreMetadataNames, MayHaveArguments, AreArguments, IsDotted, IsType, AreTypeArguments, AreTypes, MayHaveResult, IsParameters, AreDeclared}
use Rattle.dart_grammar.specs.Declarations as g
use Rattle.dart_grammar.specs.Declarations.{get_word, set_word, operator_word, abstract_word, static_word, next_named, path_end, is_operator_sign, begins_getter, begins_setter, begins_operator, begins_class, begins_constructor, begins_static, makes_static, kind_at, is_variables, kind_of, MayHaveTypeBefore, IsOperatorName, IsPlainMember, IsLibraryName}
use Rattle.expr_parser.proofs.TypesComplete.{name_no_word, type_first}
use Rattle.decl_parser.specs.LookAhead.{LibrariesAreSeen, ImportsAreSeen, ClassesAreSeen, GettersAreSeen, SettersAreSeen, OperatorsAreSeen, begins_accessor, FunctionsAreSeen, VariablesAreSeen, ConstructorsAreSeen, StaticIsSeen}
use Rattle.expr_parser.proofs.Shrinks.{are_metadata_names_shrink, may_have_arguments_shrinks}
use Rattle.decl_parser.proofs.Balance.{still_open, are_exprs_pass}
use Rattle.decl_parser.proofs.Firsts.{class_begins}
use Rattle.decl_parser.proofs.BodiesComplete.{same_bytes}

pub and_false : (b : Bool) → (b && false) ≡ false
and_false true = refl
and_false false = refl

pub or_true : (b : Bool) → (b || true) ≡ true
or_true true = refl
or_true false = refl

or_false : (a b : Bool) → (a || b) ≡ false → (a ≡ false) × (b ≡ false)
or_false true b h = absurd cc
or_false false b h = (refl, h)

-- ---- the end of a type is seen

dotted_seen : {ts rest : Tokens} {xs : List Name} {j : ℕ} → IsDotted ts xs j rest → dotted_end ts ≡ Some rest
unfolding same_sign
dotted_seen (gr.one n) = rw n refl
dotted_seen gr.two = refl

dotted_passed : (n : ℕ) {ts rest : Tokens} {xs : List Name} {j : ℕ} → IsDotted ts xs j rest → angles_end n ts ≡ angles_end n rest
unfolding angles_end same_sign
dotted_passed n (gr.one m) = refl
dotted_passed n gr.two = refl

inner_closed : (n : ℕ) (q : Span) (rest : Tokens) → angles_end (suc (suc n)) (sign s.Greater q ∷ rest) ≡ angles_end (suc n) rest
unfolding angles_end same_sign
inner_closed n q rest = rw ((still_open n).0, (still_open n).1) refl

comma_passed : (n : ℕ) (q : Span) (rest : Tokens) → angles_end n (sign s.Comma q ∷ rest) ≡ angles_end n rest
unfolding angles_end same_sign
comma_passed n q rest = refl

opened : (n : ℕ) (q : Span) (rest : Tokens) → angles_end n (sign s.Less q ∷ rest) ≡ angles_end (suc n) rest
unfolding angles_end same_sign
opened n q rest = refl

mutual
  type_passed : (n : ℕ) {ts rest : Tokens} {xs : List Name} {j : ℕ} → IsType ts xs j rest → angles_end (suc n) ts ≡ angles_end (suc n) rest
  type_passed n (gr.plain_type d m) = dotted_passed (suc n) d
  type_passed n (gr.generic d a) = dotted_passed (suc n) d ∙ arguments_passed n a

  arguments_passed : (n : ℕ) {ts rest : Tokens} {j : ℕ} → AreTypeArguments ts j rest → angles_end (suc n) ts ≡ angles_end (suc n) rest
  arguments_passed n {rest = rest} (gr.type_arguments {p = p} {q = q} {ts = ts} t) = opened (suc n) p ts ∙ types_passed (suc n) t ∙ inner_closed n q rest

  types_passed : (n : ℕ) {ts rest : Tokens} → AreTypes ts rest → angles_end (suc n) ts ≡ angles_end (suc n) rest
  types_passed n (gr.last_type d) = type_passed n d
  types_passed n (gr.more_types {p = p} {mid = mid} d m) = type_passed n d ∙ comma_passed (suc n) p mid ∙ types_passed n m

outer_closed : (q : Span) (rest : Tokens) → angles_end 1 (sign s.Greater q ∷ rest) ≡ Some rest
unfolding angles_end same_sign
outer_closed q rest = refl

arguments_seen : {ts rest : Tokens} {j : ℕ} → AreTypeArguments ts j rest → (next_sign s.Less ts ≡ true) × (angles_end 0 ts ≡ Some rest)
unfolding same_sign
arguments_seen {rest = rest} (gr.type_arguments {p = p} {q = q} {ts = ts} t) = (refl, opened 0 p ts ∙ types_passed 0 t ∙ outer_closed q rest)

pub type_seen : {ts rest : Tokens} {xs : List Name} {j : ℕ} → IsType ts xs j rest → type_end ts ≡ Some rest
type_seen (gr.plain_type d n) = rw (dotted_seen d, n) refl
type_seen (gr.generic d a) = rw (dotted_seen d, (arguments_seen a).0, (arguments_seen a).1) refl

result_seen : {ts rest : Tokens} → MayHaveResult ts rest → result_end ts ≡ Some rest
unfolding same_word
result_seen (gr.no_result {ts = ts} n) = rw (n, (or_false (next_word w.Void ts) _ n).0) refl
result_seen gr.void_result = refl
result_seen (gr.type_result v b d) = rw (b, v, type_seen d) refl

-- ---- the end of metadata is seen

brackets_seen : {ts rest : Tokens} {a : Arguments} → AreArguments ts a rest → (next_sign s.OpenParen ts ≡ true) × (brackets_end 0 ts ≡ Some rest)
unfolding brackets_end same_sign
brackets_seen gr.no_arguments = (refl, refl)
brackets_seen (gr.arguments d) = (refl, are_exprs_pass d 0)

bracketed_seen : {ts rest : Tokens} → MayHaveArguments ts rest → bracketed_end ts ≡ Some rest
bracketed_seen (gr.no_args n) = rw n refl
bracketed_seen (gr.has_args d) = rw ((brackets_seen d).0, (brackets_seen d).1) refl

names_seen : {ts rest : Tokens} {xs : List Name} → AreMetadataNames ts xs rest → names_end ts ≡ Some rest
unfolding same_sign
names_seen (gr.up_to_two d n) = rw (dotted_seen d, n) refl
names_seen (gr.three d) = rw (dotted_seen d) refl

metadata_seen : {ts rest : Tokens} → IsMetadata ts rest → (k : ℕ) → length ts ≤ k → metadata_end k ts ≡ Some rest
unfolding metadata_end same_sign
metadata_seen (gr.no_metadata n) zero i = refl
metadata_seen (gr.no_metadata n) (suc k) i = rw n refl
metadata_seen (gr.metadata a o m) zero i = absurd (omega (arith, i))
metadata_seen (gr.metadata a o m) (suc k) i = rw (names_seen a, bracketed_seen o, metadata_seen m k (omega (arith, i, are_metadata_names_shrink a, may_have_arguments_shrinks o))) refl

-- ---- a type before a name

pub type_front : {ts rest : Tokens} {xs : List Name} {j : ℕ} {x : List ℕ} {p : Span} → IsType ts xs j (ident x p ∷ rest)
    → (begins_type ts ≡ true) × (next_sign s.OpenParen (behind ts) ≡ false) × (begins_class ts ≡ false) × (next_word w.In (behind ts) ≡ false)
unfolding same_sign
type_front (gr.plain_type (gr.one {x = y} m) n) = (refl, refl, and_false (bytes_eq abstract_word y), refl)
type_front (gr.plain_type (gr.two {x = y}) n) = (refl, refl, and_false (bytes_eq abstract_word y), refl)
type_front (gr.generic (gr.one {x = y} m) (gr.type_arguments t)) = (refl, refl, and_false (bytes_eq abstract_word y), refl)
type_front (gr.generic (gr.two {x = y}) (gr.type_arguments t)) = (refl, refl, and_false (bytes_eq abstract_word y), refl)

pub no_variables : (ts : Tokens) → next_name ts ≡ true → begins_variables ts ≡ false
no_variables ts h = rw (name_no_word w.Var ts h, name_no_word w.Final ts h, name_no_word w.Const ts h) refl

result_no_variables : {ts rest : Tokens} {x : List ℕ} {p : Span} → MayHaveResult ts (ident x p ∷ rest) → begins_variables ts ≡ false
unfolding same_word
result_no_variables (gr.no_result n) = refl
result_no_variables gr.void_result = refl
result_no_variables (gr.type_result {ts = ts} v b d) = no_variables ts (type_first d)

-- behind a result the name decides
behind_result : {ts rest : Tokens} {x : List ℕ} {p : Span} → MayHaveResult ts (ident x p ∷ rest) → is_variables (kind_at ts) ≡ true → kind_of ts ≡ kind_at (ident x p ∷ rest)
unfolding kind_of
behind_result d v = rw (result_no_variables d, v, result_seen d) refl

-- ---- accessors and operators

result_no_class : {ts rest : Tokens} {x : List ℕ} {p : Span} → MayHaveResult ts (ident x p ∷ rest) → next_word w.Class rest ≡ false → begins_class ts ≡ false
unfolding same_word
result_no_class {x = x} (gr.no_result n) h = rw (h, and_false (bytes_eq abstract_word x)) refl
result_no_class gr.void_result h = refl
result_no_class (gr.type_result v b d) h = (type_front d).2

before_no_class : {ts rest : Tokens} {x : List ℕ} {p : Span} → MayHaveTypeBefore ts (ident x p ∷ rest) → next_word w.Class rest ≡ false → begins_class ts ≡ false
before_no_class {x = x} (g.at_once n) h = rw (h, and_false (bytes_eq abstract_word x)) refl
before_no_class (g.behind_type y d) h = result_no_class d h

getter_seen : {ts rest : Tokens} {x : List ℕ} {p q : Span} → MayHaveTypeBefore ts (ident get_word p ∷ ident x q ∷ rest) → kind_of ts ≡ k.Getter
unfolding kind_of
getter_seen (g.at_once n) = refl
getter_seen (g.behind_type y d) = behind_result d y

setter_seen : {ts rest : Tokens} {x : List ℕ} {p q : Span} → MayHaveTypeBefore ts (ident set_word p ∷ ident x q ∷ rest) → kind_of ts ≡ k.Setter
unfolding kind_of
setter_seen (g.at_once n) = refl
setter_seen (g.behind_type y d) = behind_result d y

pub operator_sign : {ts rest : Tokens} {x : OperatorName} {p : Span} → IsOperatorName ts x p rest → next is_operator_sign ts ≡ true
operator_sign g.plus = refl
operator_sign g.minus = refl
operator_sign g.times = refl
operator_sign g.divide = refl
operator_sign g.modulo = refl
operator_sign g.less = refl
operator_sign g.greater = refl
operator_sign g.less_equal = refl
operator_sign g.greater_equal = refl
operator_sign (g.at_index n) = refl
operator_sign g.set_index = refl

pub operator_at : (p : Span) (ts : Tokens) → next is_operator_sign ts ≡ true → kind_at (ident operator_word p ∷ ts) ≡ k.Operator
operator_at p ts h = rw h refl

operator_seen : {ts mid : Tokens} {p : Span} → MayHaveTypeBefore ts (ident operator_word p ∷ mid) → next is_operator_sign mid ≡ true → kind_of ts ≡ k.Operator
unfolding kind_of
operator_seen (g.at_once n) h = rw h refl
operator_seen {mid = mid} {p = p} (g.behind_type y d) h = behind_result d y ∙ operator_at p mid h

-- ---- functions

pub parameters_front : {ts rest : Tokens} {a : Parameters} → IsParameters ts a rest → (next_sign s.OpenParen ts ≡ true) × (next_name ts ≡ false) × (next is_operator_sign ts ≡ false) × (next_word w.Class ts ≡ false) × (next_sign s.Dot ts ≡ false)
unfolding same_sign
parameters_front gr.no_parameters = (refl, refl, refl, refl, refl)
parameters_front (gr.parameters d) = (refl, refl, refl, refl, refl)

call_at : (x : List ℕ) (p : Span) {ts rest : Tokens} {a : Parameters} → IsParameters ts a rest → kind_at (ident x p ∷ ts) ≡ k.Function
call_at x p d = let f = parameters_front d in rw (f.1, f.2, f.0, and_false (bytes_eq get_word x), and_false (bytes_eq set_word x), and_false (bytes_eq operator_word x)) refl

-- A type at the front is no accessor's word, and so the name behind it decides.
type_variables : (ts : Tokens) {rest : Tokens} {xs : List Name} {j : ℕ} {x : List ℕ} {p : Span} → IsType ts xs j (ident x p ∷ rest) → begins_accessor ts ≡ false → is_variables (kind_at ts) ≡ true
type_variables ts d h =
    let a = or_false (begins_getter ts) (begins_setter ts || begins_operator ts) h in
    let b = or_false (begins_setter ts) (begins_operator ts) a.1 in
    rw (a.0, b.0, b.1, (type_front d).1, and_false (next_name ts)) refl

function_seen : (ts : Tokens) {mid rest : Tokens} {x : List ℕ} {p : Span} {a : Parameters} → MayHaveResult ts (ident x p ∷ mid) → IsParameters mid a rest → begins_accessor ts ≡ false → kind_of ts ≡ k.Function
unfolding kind_of same_word
function_seen ts {x = x} {p = p} (gr.no_result n) d h = rw (call_at x p d) refl
function_seen ts {x = x} {p = p} gr.void_result d h = call_at x p d
function_seen ts {x = x} {p = p} (gr.type_result v b t) d h = behind_result (gr.type_result v b t) (type_variables ts t h) ∙ call_at x p d

-- ---- variables

plain_at : (x : List ℕ) (p : Span) (ts : Tokens) → next_name ts ≡ false → next is_operator_sign ts ≡ false → next_sign s.OpenParen ts ≡ false → kind_at (ident x p ∷ ts) ≡ k.Variables
plain_at x p ts n o c = rw (n, o, c, and_false (bytes_eq get_word x), and_false (bytes_eq set_word x), and_false (bytes_eq operator_word x)) refl

-- a name that is declared, before a sign
pub data DeclaredFront : Tokens → Type 0 where
  declared_front : {x : List ℕ} {p : Span} {ts : Tokens} → next_name ts ≡ false → next is_operator_sign ts ≡ false → next_sign s.OpenParen ts ≡ false → next_word w.In ts ≡ false → DeclaredFront (ident x p ∷ ts)

pub declared_ahead : {ts rest : Tokens} {xs : List Variable} {q : Span} → AreDeclared ts xs (sign s.Semicolon q ∷ rest) → DeclaredFront ts
unfolding same_sign
declared_ahead (gr.last_declared gr.no_value) = declared_front refl refl refl refl
declared_ahead (gr.last_declared (gr.value d)) = declared_front refl refl refl refl
declared_ahead (gr.more_declared gr.no_value m) = declared_front refl refl refl refl
declared_ahead (gr.more_declared (gr.value d) m) = declared_front refl refl refl refl

type_before_declared : (ts : Tokens) {mid : Tokens} {xs : List Name} {j : ℕ} → IsType ts xs j mid → DeclaredFront mid → begins_accessor ts ≡ false
    → (begins_type ts ≡ true) × (begins_class ts ≡ false) × (kind_of ts ≡ k.Variables)
unfolding kind_of
type_before_declared ts d (declared_front {x = x} {p = p} {ts = after} n o c i) h =
    let f = type_front d in
    let name = type_first d in
    ((f.0, f.2, rw (no_variables ts name, type_variables ts d h, f.0, name_no_word w.Void ts name, type_seen d) (plain_at x p after n o c)))

-- ---- the name of a library

library_front : {ts rest : Tokens} → IsLibraryName ts rest → next_name ts ≡ true
library_front g.last_part = refl
library_front (g.more_parts m) = refl

path_passed : {ts rest : Tokens} → IsLibraryName ts rest → (k : ℕ) → length ts ≤ k → next_sign s.Semicolon (path_end k (behind ts)) ≡ true
unfolding path_end same_sign
path_passed g.last_part zero i = absurd (omega (arith, i))
path_passed g.last_part (suc k) i = refl
path_passed (g.more_parts m) zero i = absurd (omega (arith, i))
path_passed (g.more_parts m) (suc k) i = rw (library_front m, path_passed m k (omega (arith, i))) refl

pub libraries_are_seen : LibrariesAreSeen
libraries_are_seen p ts rest d = rw (library_front d, path_passed d (suc (length ts)) (omega arith)) refl

pub imports_are_seen : ImportsAreSeen
imports_are_seen ts rest x (g.import' m p c) = rw (metadata_seen m (length ts) (omega arith)) refl

pub classes_are_seen : ClassesAreSeen
classes_are_seen ts rest b x xs d = class_begins d

pub getters_are_seen : GettersAreSeen
getters_are_seen native in_class from ts rest x (g.getter d b) = (before_no_class d refl, getter_seen d)

pub setters_are_seen : SettersAreSeen
setters_are_seen native in_class from ts rest x (g.setter d v b) = (before_no_class d refl, setter_seen d)

pub operators_are_seen : OperatorsAreSeen
operators_are_seen native from ts rest x (g.operator d o ps b) = operator_seen d (operator_sign o)

pub functions_are_seen : FunctionsAreSeen
functions_are_seen native in_class from ts rest x (g.function d ps b) h = (result_no_class d (parameters_front ps).3, function_seen ts d ps h)

pub variables_are_seen : VariablesAreSeen
unfolding kind_of same_word
variables_are_seen ts rest x j (gr.variables gr.var_lead d) h = (refl, refl)
variables_are_seen ts rest x j (gr.variables (gr.final_lead v r) d) h = (refl, refl)
variables_are_seen ts rest x j (gr.variables (gr.const_lead v r) d) h = (refl, refl)
variables_are_seen ts rest x j (gr.variables (gr.type_lead t) d) h = let f = type_before_declared ts t (declared_ahead d) h in (f.1, f.2)

-- ---- constructors and `static`

pub constructors_are_seen : ConstructorsAreSeen
unfolding begins_static path_end same_sign
constructors_are_seen native name from ts rest x (g.constructor (g.unnamed n) gr.no_parameters m a b) = (and_false (bytes_eq static_word name), rw (same_bytes name) refl)
constructors_are_seen native name from ts rest x (g.constructor (g.unnamed n) (gr.parameters h) m a b) = (and_false (bytes_eq static_word name), rw (same_bytes name) refl)
constructors_are_seen native name from ts rest x (g.constructor g.named gr.no_parameters m a b) = (and_false (bytes_eq static_word name), rw (same_bytes name) refl)
constructors_are_seen native name from ts rest x (g.constructor g.named (gr.parameters h) m a b) = (and_false (bytes_eq static_word name), rw (same_bytes name) refl)

some_of : (a b c d e f : Bool) → (a ≡ false → b ≡ false → c ≡ false → d ≡ false → e ≡ false → f ≡ true) → (a || b || c || d || e || f) ≡ true
some_of true b c d e f h = refl
some_of false true c d e f h = refl
some_of false false true d e f h = refl
some_of false false false true e f h = refl
some_of false false false false true f h = refl
some_of false false false false false f h = h refl refl refl refl refl

not_false : (b : Bool) → not b ≡ false → b ≡ true
not_false true h = refl
not_false false h = absurd cc

operator_kind : (ts : Tokens) → begins_variables ts ≡ false → begins_getter ts ≡ false → begins_setter ts ≡ false → begins_operator ts ≡ true → kind_of ts ≡ k.Operator
unfolding kind_of
operator_kind ts v n o h = rw (v, n, o, h) refl

-- what begins with a type and is no operator can be static
typed_static : (name : List ℕ) (ts : Tokens) (kind : DeclarationKind) → begins_type ts ≡ true → kind_of ts ≡ kind → (kind ≡ k.Operator → ⊥) → makes_static name ts ≡ true
typed_static name ts kind t e n =
    some_of (begins_variables ts) (next_word w.Void ts) (begins_getter ts) (begins_setter ts) (begins_type ts && not (begins_operator ts)) _
    (λ v _ get set z. let o : not (begins_operator ts) ≡ false = rw t at z in absurd (n (sym e ∙ operator_kind ts v get set (not_false (begins_operator ts) o))))

and_true : (b : Bool) → (b && true) ≡ false → b ≡ false
and_true true h = absurd cc
and_true false h = refl

call_static : (name x : List ℕ) (p : Span) (ts : Tokens) → next_sign s.OpenParen ts ≡ true → bytes_eq name x ≡ false → makes_static name (ident x p ∷ ts) ≡ true
call_static name x p ts o c = some_of false false (bytes_eq get_word x && next_name ts) (bytes_eq set_word x && next_name ts) _ _ (λ _ _ _ _ _. rw (o, c) refl)

function_static : (name x : List ℕ) (p : Span) {ts rest : Tokens} {a : Parameters} → IsParameters ts a rest → begins_constructor name (ident x p ∷ ts) ≡ false → makes_static name (ident x p ∷ ts) ≡ true
unfolding path_end same_sign
function_static name x p {ts = ts} gr.no_parameters c = call_static name x p ts refl (and_true (bytes_eq name x) c)
function_static name x p {ts = ts} (gr.parameters d) c = call_static name x p ts refl (and_true (bytes_eq name x) c)

type_front_declared : {ts mid : Tokens} {xs : List Name} {j : ℕ} → IsType ts xs j mid → DeclaredFront mid → begins_type ts ≡ true
type_front_declared d (declared_front n o c i) = (type_front d).0

plain_static : (native : Bool) (name : List ℕ) (from : ℕ) (ts rest : Tokens) (x : Member) → IsPlainMember native true from ts x rest → begins_constructor name ts ≡ false → makes_static name ts ≡ true
unfolding same_word
plain_static native name from ts rest x (g.method e (g.function {x = y} {p = q} (gr.no_result n) ps b)) c = function_static name y q ps c
plain_static native name from ts rest x (g.method e (g.function gr.void_result ps b)) c = refl
plain_static native name from ts rest x (g.method e (g.function (gr.type_result v t d) ps b)) c = typed_static name ts k.Function t e (λ z. cc)
plain_static native name from ts rest x (g.getter_member e (g.getter (g.at_once n) b)) c = refl
plain_static native name from ts rest x (g.getter_member e (g.getter (g.behind_type y (gr.no_result n)) b)) c = refl
plain_static native name from ts rest x (g.getter_member e (g.getter (g.behind_type y gr.void_result) b)) c = refl
plain_static native name from ts rest x (g.getter_member e (g.getter (g.behind_type y (gr.type_result v t d)) b)) c = typed_static name ts k.Getter t e (λ z. cc)
plain_static native name from ts rest x (g.setter_member e (g.setter (g.at_once n) v b)) c = refl
plain_static native name from ts rest x (g.setter_member e (g.setter (g.behind_type y (gr.no_result n)) v b)) c = refl
plain_static native name from ts rest x (g.setter_member e (g.setter (g.behind_type y gr.void_result) v b)) c = refl
plain_static native name from ts rest x (g.setter_member e (g.setter (g.behind_type y (gr.type_result w t d)) v b)) c = typed_static name ts k.Setter t e (λ z. cc)
plain_static native name from ts rest x (g.fields e (gr.variables gr.var_lead d)) c = refl
plain_static native name from ts rest x (g.fields e (gr.variables (gr.final_lead v r) d)) c = refl
plain_static native name from ts rest x (g.fields e (gr.variables (gr.const_lead v r) d)) c = refl
plain_static native name from ts rest x (g.fields e (gr.variables (gr.type_lead t) d)) c = typed_static name ts k.Variables (type_front_declared t (declared_ahead d)) e (λ z. cc)

pub static_is_seen : StaticIsSeen
unfolding begins_static
static_is_seen native name from p ts rest x d c = plain_static native name from ts rest x d c
