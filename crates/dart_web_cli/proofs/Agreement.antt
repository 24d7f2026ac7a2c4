-- A first program and its translation come to one conclusion.
use Rattle.std.proofs.Common.{◌≡◌, ℕ, zero, suc, ◌+◌, ◌<◌, ◌≤◌, ◌^◌, Bool, true, false, List, [], ◌∷◌, ◌++◌, length, map, get_or, Option, Some, None, refl, sym, ap, ◌∙◌, subst, inl, inr, ⊎_elim, ◌⊎◌, arith, length-append}
use Rattle.std.specs.Prelude.{ℤ, pos, ◌*ℤ◌, slice_get, codes}
use Rattle.std.specs.Option.{option_map}
use Rattle.std.proofs.lemmas.Option.{slice_get-map, slice_get-get_or, get_or_from_slice_get}
use Rattle.meanings.specs.Act.{Left, fin, sub, ActOf}
use Rattle.meanings.proofs.Conclusions.{Comes, Cuts, comes_fin, cuts_quit, comes_bind, cuts_first, cuts_then, comes_sub, cuts_sub}
use Rattle.dart_meaning.specs.declared.program.Operand.{Operand}
use Rattle.dart_meaning.specs.declared.program.Operand.TheVariants as dart_operands
use Rattle.dart_meaning.specs.declared.program.Sign.{Sign}
use Rattle.dart_meaning.specs.declared.program.Sign.TheVariants as signs
use Rattle.dart_meaning.specs.declared.program.Addend.{Addend}
use Rattle.dart_meaning.specs.declared.program.Sum.{Sum}
use Rattle.dart_meaning.specs.declared.program.Expression.{Expression}
use Rattle.dart_meaning.specs.declared.program.Expression.TheVariants as expressions
use Rattle.dart_meaning.specs.declared.program.Statement.{Statement}
use Rattle.dart_meaning.specs.declared.program.Statement.TheVariants as dart_statements
use Rattle.dart_meaning.specs.Program.{Kinds, Names, IsOperand, IsNumeric, AreNumeric, AreAddends, IsSum, IsExpression, lone, is_text_name, is_text, AreWellFormed}
use Rattle.dart_meaning.specs.Meaning as source
use Rattle.dart_meaning.specs.Meaning.{Datum, Whole, Letters, Store, First, operand_value, number_in, product_from, signed, sum_from, sum_value, lone_or_sum, expression_value, ◌>>=◌}
use Rattle.js_tree.specs.declared.tree.JsExpr.{JsExpr}
use Rattle.js_tree.specs.declared.tree.JsExpr.TheVariants as e
use Rattle.js_tree.specs.declared.tree.JsHead.TheVariants as h
use Rattle.js_tree.specs.declared.tree.JsSelector.TheVariants as l
use Rattle.js_tree.specs.declared.tree.JsPrimary.{JsPrimary}
use Rattle.js_tree.specs.declared.tree.JsStmt.{JsStmt}
use Rattle.js_tree.specs.declared.tree.JsStmt.TheVariants as s
use Rattle.js_tree.specs.declared.words.JsMember.TheVariants as m
use Rattle.js_tree.specs.declared.words.JsOperator.{JsOperator}
use Rattle.js_tree.specs.declared.words.JsOperator.TheVariants as o
use Rattle.js_tree.specs.Places.{primary_without_places, expr_without_places, stmt_without_places}
use Rattle.js_store.specs.Scopes.{Scope, bind}
use Rattle.js_store.specs.declared.value.Value.{Value}
use Rattle.js_store.specs.declared.value.Value.TheVariants.{Null, Number, Str, Host}
use Rattle.js_meaning.specs.declared.state.Leave.TheVariants.{Return}
use Rattle.dart_web_cli.specs.Translation.{operation_name, variable_name, alone, host_print, string_of, operation_let, variable_let, operand_of, operator_of, operation, Behind, product_then, addends_then, expression_then, printed_of, print_of, statements_from}
use Rattle.dart_web_cli.proofs.Leading.{Leads, Ends, cut, left_by, stays, leads_on, leads_over}
use Rattle.dart_web_cli.proofs.Places as places
use Rattle.dart_web_cli.proofs.Places.{IsPlaceless, Begins, begins_with_let, begins_with_perform, begins_with_return}
use Rattle.dart_web_cli.proofs.Body.{IsBody, past_operation, past_declared, past_print, last_placeless}
use Rattle.dart_web_cli.proofs.Emitted.{Place, outer_in, realm_at, body, Holds, Stands, of_digits, of_operation, of_variable, of_string, Computes, times, plus, minus, LetGoes, let_goes, past, over_at, text_printed, number_printed, variable_comes, returns, holds_operation, holds_variable, Grows, stands_on}

-- Values.

abbrev js_of : Datum → Value
js_of (Whole z) = Number z
js_of (Letters units) = Str units

abbrev kind_of : Datum → Bool
kind_of (Whole z) = false
kind_of (Letters units) = true

record IsWhole (found : Option Datum) : Type 0 where
  z : ℤ
  is : found ≡ Some (Whole z)

whole : (found : Option Datum) → option_map kind_of found ≡ Some false → IsWhole found
whole None e = absurd (cc e)
whole (Some (Whole z)) e = record { z = z; is = refl }
whole (Some (Letters units)) e = absurd (cc e)

-- what an operator takes is a whole number
numeric : (store : Store) (kinds : Kinds) (operand : Operand) → map kind_of store ≡ kinds → IsNumeric kinds operand → IsWhole (operand_value store operand)
numeric store kinds (dart_operands.Number n) e h = record { z = pos n; is = refl }
numeric store kinds (dart_operands.Variable k) e h =
    whole (slice_get store k) (sym (slice_get-map kind_of store k) ∙ ap (λ ks. slice_get ks k) e ∙ h)

-- what stands for an operand has its value
whole_stands : (store : Store) (ops : List Value) (kinds : Kinds) (operand : Operand) (z : ℤ) → IsNumeric kinds operand → operand_value store operand ≡ Some (Whole z) → Stands ops (map js_of store) (operand_of operand) (Number z)
whole_stands store ops kinds (dart_operands.Number n) z small is = let same : pos n ≡ z = cc is in subst (λ z. Stands ops (map js_of store) (alone (h.Digits n)) (Number z)) same (of_digits n small)
whole_stands store ops kinds (dart_operands.Variable k) z numeric is = of_variable k (Number z) (slice_get-map js_of store k ∙ ap (option_map js_of) is)

datum_stands : (store : Store) (ops : List Value) (kinds : Kinds) (operand : Operand) (d : Datum) → IsOperand kinds operand → operand_value store operand ≡ Some d → Stands ops (map js_of store) (operand_of operand) (js_of d)
datum_stands store ops kinds (dart_operands.Number n) d small is = let same : Whole (pos n) ≡ d = cc is in subst (λ d. Stands ops (map js_of store) (alone (h.Digits n)) (js_of d)) same (of_digits n small)
datum_stands store ops kinds (dart_operands.Variable k) d few is = of_variable k (js_of d) (slice_get-map js_of store k ∙ ap (option_map js_of) is)

get_stays : {X : Type 0} (xs ys : List X) (k : ℕ) (v : X) → slice_get xs k ≡ Some v → slice_get (xs ++ ys) k ≡ Some v
get_stays [] ys k v e = absurd (let none : None ≡ Some v = e in cc none)
get_stays (x ∷ xs) ys zero v e = e
get_stays (x ∷ xs) ys (suc k) v e = get_stays xs ys k v e

last_value : (ops : List Value) (v : Value) (k : ℕ) → length ops ≡ k → slice_get (ops ++ v ∷ []) k ≡ Some v
last_value [] v k e = subst (λ k. slice_get (v ∷ []) k ≡ Some v) e refl
last_value (o ∷ ops) v k e = subst (λ k. slice_get (o ∷ (ops ++ v ∷ [])) k ≡ Some v) e (last_value ops v (length ops) refl)

-- what stands for a value has no places
stands_placeless : {ops vars : List Value} {p : JsPrimary} {v : Value} → Stands ops vars p v → IsPlaceless primary_without_places p
stands_placeless (of_digits n small) = places.by_itself (h.Digits n) (places.digits n)
stands_placeless (of_operation k v found) = places.by_itself (h.Name (operation_name k)) (places.name (operation_name k))
stands_placeless (of_variable i v found) = places.by_itself (h.Name (variable_name i)) (places.name (variable_name i))
stands_placeless (of_string us) = places.by_itself (h.Str us) (places.string us)

printed_placeless : {p : JsPrimary} (is_str : Bool) → IsPlaceless primary_without_places p → IsPlaceless primary_without_places (host_print (printed_of is_str p))
printed_placeless {p} is_str a =
    places.selected (h.Name (codes "host$")) (l.Method m.Print (printed_of is_str p ∷ []) ∷ []) (places.name (codes "host$"))
    (places.one (l.Method m.Print (printed_of is_str p ∷ [])) (places.method m.Print (printed_of is_str p ∷ []) (places.one (printed_of is_str p) (argument is_str))))
  where
    argument : (is_str : Bool) → IsPlaceless expr_without_places (printed_of is_str p)
    argument true = places.primary p a
    argument false = places.primary (alone (h.StringOf (e.Primary p ∷ []))) (places.by_itself (h.StringOf (e.Primary p ∷ [])) (places.string_of (e.Primary p ∷ []) (places.one (e.Primary p) (places.primary p a))))

length_map : {X Y : Type 0} (f : X → Y) (xs : List X) → length (map f xs) ≡ length xs
length_map f [] = refl
length_map f (x ∷ xs) = ap suc (length_map f xs)

map_more : {X Y : Type 0} (f : X → Y) (xs : List X) (x : X) → map f (xs ++ x ∷ []) ≡ map f xs ++ f x ∷ []
map_more f [] x = refl
map_more f (y ∷ xs) x = ap (λ ys. f y ∷ ys) (map_more f xs x)

same_sign : (sign : Sign) → Computes (operator_of sign) (signed sign)
same_sign signs.Plus = plus
same_sign signs.Minus = minus

whole_numbers : (o : Option ℤ) → option_map Number o ≡ option_map js_of (option_map Whole o)
whole_numbers (Some z) = refl
whole_numbers None = refl

record IsThere (found : Option Datum) : Type 0 where
  d : Datum
  is : found ≡ Some d

-- a declared name has a value
declared : (store : Store) (kinds : Kinds) (operand : Operand) → map kind_of store ≡ kinds → IsOperand kinds operand → IsThere (operand_value store operand)
declared store kinds (dart_operands.Number n) ek small = record { d = Whole (pos n); is = refl }
declared store kinds (dart_operands.Variable k) ek lt =
    let many : length (map kind_of store) ≡ length store = length_map kind_of store in
    let few : k < length store = omega (arith, lt, ap length ek, many) in
    record { d = get_or store k (Letters []); is = slice_get-get_or store k (Letters []) few }

-- what an expression is said to be, it is
expression_kind : (value : Expression) (store : Store) (kinds : Kinds) (d : Datum) → map kind_of store ≡ kinds → expression_value store value ≡ Some d → is_text kinds value ≡ kind_of d
expression_kind (expressions.Text text) store kinds d ek e = let same : Letters text ≡ d = cc e in ap kind_of same
expression_kind (expressions.Sum sum) store kinds d ek e = by (lone sum) e
  where
    is_whole : (o : Option ℤ) → option_map Whole o ≡ Some d → false ≡ kind_of d
    is_whole (Some z) e = let same : Whole z ≡ d = cc e in ap kind_of same
    is_whole None e = absurd (cc e)

    by : (o : Option Operand) → lone_or_sum store sum o ≡ Some d → is_text_name kinds o ≡ kind_of d
    by None e = is_whole (sum_value store sum) e
    by (Some (dart_operands.Number n)) e = let same : Whole (pos n) ≡ d = cc e in ap kind_of same
    by (Some (dart_operands.Variable k)) e =
        get_or_from_slice_get kinds k (kind_of d) false (ap (λ ks. slice_get ks k) (sym ek) ∙ slice_get-map kind_of store k ∙ ap (option_map kind_of) e)

-- Statements of the source.

-- the source prints, declares, or is cut short
print_comes : (value : Expression) (store : Store) (d : Datum) → expression_value store value ≡ Some d → Comes First (sub (source.Statement (dart_statements.Print value)) store fin) source.Normal store (source.text_of d ∷ [])
print_comes value store d is =
    let valued : Comes First (source.valued (expression_value store value) store) (source.Value d) store [] = subst (λ o. Comes First (source.valued o store) (source.Value d) store []) (sym is) (comes_fin First (source.Value d) store) in
    comes_sub First (source.Statement (dart_statements.Print value)) store store source.Normal (source.text_of d ∷ [])
    (comes_bind First (sub (source.Expression value) store fin) source.prints (source.Value d) source.Normal store store [] (source.text_of d ∷ [])
    (comes_sub First (source.Expression value) store store (source.Value d) [] valued)
    (comes_sub First (source.Print (source.text_of d)) store store source.Normal [] (comes_fin First source.Normal store)))

declare_comes : (name : List ℕ) (value : Expression) (store : Store) (d : Datum) → expression_value store value ≡ Some d → Comes First (sub (source.Statement (dart_statements.Declare name value)) store fin) source.Normal (store ++ d ∷ []) []
declare_comes name value store d is =
    let valued : Comes First (source.valued (expression_value store value) store) (source.Value d) store [] = subst (λ o. Comes First (source.valued o store) (source.Value d) store []) (sym is) (comes_fin First (source.Value d) store) in
    comes_sub First (source.Statement (dart_statements.Declare name value)) store (store ++ d ∷ []) source.Normal []
    (comes_bind First (sub (source.Expression value) store fin) source.declares (source.Value d) source.Normal store (store ++ d ∷ []) [] []
    (comes_sub First (source.Expression value) store store (source.Value d) [] valued)
    (comes_fin First source.Normal (store ++ d ∷ [])))

statement_cuts : (s : Statement) (value : Expression) (next : source.Completion → Store → ActOf First) (store : Store) → source.statement_acts s store ≡ sub (source.Expression value) store next → expression_value store value ≡ None → Cuts First (sub (source.Statement s) store fin) Left []
statement_cuts s value next store acts is =
    let valued : Cuts First (source.valued (expression_value store value) store) Left [] = subst (λ o. Cuts First (source.valued o store) Left []) (sym is) (cuts_quit First Left) in
    cuts_sub First (source.Statement s) store Left []
    (subst (λ a. Cuts First a Left []) (sym acts)
    (cuts_first First (sub (source.Expression value) store fin) next Left [] (cuts_sub First (source.Expression value) store Left [] valued)))

module _ (place : Place) (outer : outer_in place.inner place.base (codes "host$") ≡ Some Host) where
  -- What the lets of an expression come to, which stand before what is behind them.

  -- a value, and what stands for it there
  record Arrives (v : Value) (behind : Behind) (tree : List JsStmt) (scope : Scope) (ops vars : List Value) (i : ℕ) : Type 0 where
    k : ℕ
    p : JsPrimary
    all : List Value
    scope' : Scope
    tree' : List JsStmt
    grows : Grows ops all
    count : length all ≡ k
    stands : Stands all vars p v
    same : map stmt_without_places tree' ≡ behind k p
    form : IsBody k i (map stmt_without_places tree')
    holds : Holds all vars scope'
    leads : Leads (body place tree) (realm_at place scope) (body place tree') (realm_at place scope') []

  abbrev Goes : Behind → List JsStmt → Scope → List Value → List Value → ℕ → Option Value → Type 0
  Goes behind tree scope ops vars i (Some v) = Arrives v behind tree scope ops vars i
  Goes behind tree scope ops vars i None = Ends (body place tree) (realm_at place scope) (cut Left) []

  -- no let at all
  arrives : (k : ℕ) (p : JsPrimary) (v : Value) (behind : Behind) (tree : List JsStmt) (scope : Scope) (ops vars : List Value) (i : ℕ) → length ops ≡ k → Stands ops vars p v → map stmt_without_places tree ≡ behind k p → IsBody k i (map stmt_without_places tree) → Holds ops vars scope → Arrives v behind tree scope ops vars i
  arrives k p v behind tree scope ops vars i len stands same form holds = record {
    k = k;
    p = p;
    all = ops;
    scope' = scope;
    tree' = tree;
    grows = λ j w found. found;
    count = len;
    stands = stands;
    same = same;
    form = form;
    holds = holds;
    leads = stays (body place tree) (realm_at place scope);
  }

  -- from a later point
  goes_on : (behind : Behind) (tree later : List JsStmt) (scope scope' : Scope) (ops between vars : List Value) (i : ℕ) (o : Option Value) → Grows ops between → Leads (body place tree) (realm_at place scope) (body place later) (realm_at place scope') [] → Goes behind later scope' between vars i o → Goes behind tree scope ops vars i o
  goes_on behind tree later scope scope' ops between vars i (Some v) grows leads a = record {
    k = a.k;
    p = a.p;
    all = a.all;
    scope' = a.scope';
    tree' = a.tree';
    grows = λ j w found. a.grows j w (grows j w found);
    count = a.count;
    stands = a.stands;
    same = a.same;
    form = a.form;
    holds = a.holds;
    leads = leads_on leads a.leads;
  }
  goes_on behind tree later scope scope' ops between vars i None grows leads c = leads_over leads c

  -- One let, and then what is behind it.
  let_on : (k i : ℕ) (operator : JsOperator) (f : ℤ → ℤ → ℤ) (left right : JsPrimary) (rest tree : List JsStmt) (behind : Behind) (scope : Scope) (ops vars : List Value) (x y : ℤ) (next : ℤ → Option ℤ)
      → Computes operator f → length ops ≡ k → Holds ops vars scope → IsBody k i (map stmt_without_places tree) → map stmt_without_places tree ≡ operation_let k operator left right ∷ rest → Stands ops vars left (Number x) → Stands ops vars right (Number y)
      → ((z : ℤ) (more : List JsStmt) (scope' : Scope) → map stmt_without_places more ≡ rest → IsBody (suc k) i (map stmt_without_places more) → Holds (ops ++ Number z ∷ []) vars scope' → Goes behind more scope' (ops ++ Number z ∷ []) vars i (option_map Number (next z)))
      → Goes behind tree scope ops vars i (option_map Number (source.in_range (f x y) >>= next))
  let_on k i operator f left right rest tree behind scope ops vars x y next computes len holds form is sx sy then =
      by (source.in_range (f x y)) (let_goes place b.at (operation_name k) operator f left right x y computes holds sx sy)
    where
      b : Begins (λ at. s.Let at (operation_name k) (e.Binary operator left right)) rest tree
      b = begins_with_let (operation_name k) (e.Binary operator left right) (places.binary operator left right (stands_placeless sx) (stands_placeless sy)) rest tree is

      on : (k < 2 ^ 64) × IsBody (suc k) i rest
      on = past_operation (e.Binary operator left right) rest form is

      by : (r : Option ℤ) → LetGoes place b.at (operation_name k) (e.Binary operator left right) scope r → Goes behind tree scope ops vars i (option_map Number (r >>= next))
      by (Some z) g =
          subst (λ t. Goes behind t scope ops vars i (option_map Number (next z))) (sym b.is)
          (goes_on behind (s.Let b.at (operation_name k) (e.Binary operator left right) ∷ b.more) b.more scope (bind scope (operation_name k) (Some (Number z))) ops (ops ++ Number z ∷ []) vars i (option_map Number (next z)) (λ j w. get_stays ops (Number z ∷ []) j w)
          (past place b.more g) (then z b.more (bind scope (operation_name k) (Some (Number z))) b.same (subst (IsBody (suc k) i) (sym b.same) on.1) (holds_operation ops vars scope k (Number z) len on.0 holds)))
      by None g = subst (λ t. Ends (body place t) (realm_at place scope) (cut Left) []) (sym b.is) (over_at place b.more g)

  longer : (ops : List Value) (z : ℤ) (k : ℕ) → length ops ≡ k → length (ops ++ Number z ∷ []) ≡ suc k
  longer ops z k len = omega (arith, length-append ops (Number z ∷ []), len)

  -- Products.
  product_goes : (factors : List Operand) (total : ℤ) (k i : ℕ) (sofar : JsPrimary) (behind : Behind) (tree : List JsStmt) (scope : Scope) (ops : List Value) (store : Store) (kinds : Kinds)
      → map kind_of store ≡ kinds → AreNumeric kinds factors → Stands ops (map js_of store) sofar (Number total) → length ops ≡ k → Holds ops (map js_of store) scope → IsBody k i (map stmt_without_places tree)
      → map stmt_without_places tree ≡ product_then k sofar factors behind → Goes behind tree scope ops (map js_of store) i (option_map Number (product_from store total factors))
  product_goes [] total k i sofar behind tree scope ops store kinds ek hs value len holds form same = arrives k sofar (Number total) behind tree scope ops (map js_of store) i len value same form holds
  product_goes (factor ∷ factors) total k i sofar behind tree scope ops store kinds ek hs value len holds form same =
      let n = numeric store kinds factor ek hs.0 in
      subst (λ d. Goes behind tree scope ops (map js_of store) i (option_map Number (number_in d >>= (λ z. source.in_range (total *ℤ z) >>= (λ next. product_from store next factors))))) (sym n.is)
      (let_on k i o.Times (λ x y. x *ℤ y) sofar (operand_of factor) (product_then (suc k) (operation k) factors behind) tree behind scope ops (map js_of store) total n.z (λ next. product_from store next factors)
      times len holds form same value (whole_stands store ops kinds factor n.z hs.0 n.is)
      (λ z more scope' same form holds. product_goes factors z (suc k) i (operation k) behind more scope' (ops ++ Number z ∷ []) store kinds ek hs.1 (of_operation k (Number z) (last_value ops (Number z) k len)) (longer ops z k len) holds form same))

  -- a product, from its first factor on, and then what is behind it
  product_then_goes : (first : Operand) (factors : List Operand) (k i : ℕ) (inner behind : Behind) (tree : List JsStmt) (scope : Scope) (ops : List Value) (store : Store) (kinds : Kinds) (next : ℤ → Option ℤ)
      → map kind_of store ≡ kinds → IsNumeric kinds first → AreNumeric kinds factors → length ops ≡ k → Holds ops (map js_of store) scope → IsBody k i (map stmt_without_places tree) → map stmt_without_places tree ≡ product_then k (operand_of first) factors inner
      → ((v : ℤ) → (a : Arrives (Number v) inner tree scope ops (map js_of store) i) → Goes behind a.tree' a.scope' a.all (map js_of store) i (option_map Number (next v)))
      → Goes behind tree scope ops (map js_of store) i (option_map Number ((number_in (operand_value store first) >>= (λ z. product_from store z factors)) >>= next))
  product_then_goes first factors k i inner behind tree scope ops store kinds next ek hf hs len holds form same then =
      let n = numeric store kinds first ek hf in
      subst (λ d. Goes behind tree scope ops (map js_of store) i (option_map Number ((number_in d >>= (λ z. product_from store z factors)) >>= next))) (sym n.is)
      (by (product_from store n.z factors) (product_goes factors n.z k i (operand_of first) inner tree scope ops store kinds ek hs (whole_stands store ops kinds first n.z hf n.is) len holds form same))
    where
      by : (r : Option ℤ) → Goes inner tree scope ops (map js_of store) i (option_map Number r) → Goes behind tree scope ops (map js_of store) i (option_map Number (r >>= next))
      by (Some v) a = goes_on behind tree a.tree' scope a.scope' ops a.all (map js_of store) i (option_map Number (next v)) a.grows a.leads (then v a)
      by None c = c

  -- Sums.
  addends_go : (addends : List Addend) (total : ℤ) (k i : ℕ) (sofar : JsPrimary) (behind : Behind) (tree : List JsStmt) (scope : Scope) (ops : List Value) (store : Store) (kinds : Kinds)
      → map kind_of store ≡ kinds → AreAddends kinds addends → Stands ops (map js_of store) sofar (Number total) → length ops ≡ k → Holds ops (map js_of store) scope → IsBody k i (map stmt_without_places tree)
      → map stmt_without_places tree ≡ addends_then k sofar addends behind → Goes behind tree scope ops (map js_of store) i (option_map Number (sum_from store total addends))
  addends_go [] total k i sofar behind tree scope ops store kinds ek hs value len holds form same = arrives k sofar (Number total) behind tree scope ops (map js_of store) i len value same form holds
  addends_go (addend ∷ addends) total k i sofar behind tree scope ops store kinds ek hs value len holds form same =
      product_then_goes addend.product.first addend.product.rest k i inner behind tree scope ops store kinds (λ v. source.in_range (signed addend.sign total v) >>= (λ next. sum_from store next addends)) ek hs.0.0 hs.0.1 len holds form same
      (λ v a. let_on a.k i (operator_of addend.sign) (signed addend.sign) sofar a.p (addends_then (suc a.k) (operation a.k) addends behind) a.tree' behind a.scope' a.all (map js_of store) total v (λ next. sum_from store next addends)
      (same_sign addend.sign) a.count a.holds a.form a.same (stands_on ops a.all (map js_of store) a.grows value) a.stands
      (λ z more scope' same form holds. addends_go addends z (suc a.k) i (operation a.k) behind more scope' (a.all ++ Number z ∷ []) store kinds ek hs.1 (of_operation a.k (Number z) (last_value a.all (Number z) a.k a.count)) (longer a.all z a.k a.count) holds form same))
    where
      inner : Behind
      inner k' product = operation_let k' (operator_of addend.sign) sofar product ∷ addends_then (suc k') (operation k') addends behind

  -- a sum that is no operand alone, or is one that is a number
  sum_goes : (first : Operand) (factors : List Operand) (addends : List Addend) (k i : ℕ) (behind : Behind) (tree : List JsStmt) (scope : Scope) (ops : List Value) (store : Store) (kinds : Kinds)
      → map kind_of store ≡ kinds → IsNumeric kinds first → AreNumeric kinds factors → AreAddends kinds addends → length ops ≡ k → Holds ops (map js_of store) scope → IsBody k i (map stmt_without_places tree)
      → map stmt_without_places tree ≡ product_then k (operand_of first) factors (λ k' product. addends_then k' product addends behind)
      → Goes behind tree scope ops (map js_of store) i (option_map Number (sum_value store (record { first = record { first = first; rest = factors }; rest = addends })))
  sum_goes first factors addends k i behind tree scope ops store kinds ek hf hs ha len holds form same =
      product_then_goes first factors k i (λ k' product. addends_then k' product addends behind) behind tree scope ops store kinds (λ v. sum_from store v addends) ek hf hs len holds form same
      (λ v a. addends_go addends v a.k i a.p behind a.tree' a.scope' a.all store kinds ek ha a.stands a.count a.holds a.form a.same)

  abbrev made : Operand → List Operand → List Addend → Sum
  made first factors addends = record { first = record { first = first; rest = factors }; rest = addends }

  -- Expressions.
  expression_goes : (value : Expression) (k i : ℕ) (behind : Behind) (tree : List JsStmt) (scope : Scope) (ops : List Value) (store : Store) (kinds : Kinds)
      → map kind_of store ≡ kinds → IsExpression kinds value → length ops ≡ k → Holds ops (map js_of store) scope → IsBody k i (map stmt_without_places tree) → map stmt_without_places tree ≡ expression_then k value behind
      → Goes behind tree scope ops (map js_of store) i (option_map js_of (expression_value store value))
  expression_goes (expressions.Text text) k i behind tree scope ops store kinds ek he len holds form same = arrives k (alone (h.Str text)) (Str text) behind tree scope ops (map js_of store) i len (of_string text) same form holds
  expression_goes (expressions.Sum sum) k i behind tree scope ops store kinds ek he len holds form same = by sum.first.first sum.first.rest sum.rest he same
    where
      by : (first : Operand) (factors : List Operand) (addends : List Addend) → IsSum kinds (made first factors addends) → map stmt_without_places tree ≡ expression_then k (expressions.Sum (made first factors addends)) behind
          → Goes behind tree scope ops (map js_of store) i (option_map js_of (lone_or_sum store (made first factors addends) (lone (made first factors addends))))
      by first [] [] he same =
          let there = declared store kinds first ek he in
          subst (λ d. Goes behind tree scope ops (map js_of store) i (option_map js_of d)) (sym there.is)
          (arrives k (operand_of first) (js_of there.d) behind tree scope ops (map js_of store) i len (datum_stands store ops kinds first there.d he there.is) same form holds)
      by first [] (addend ∷ addends) he same =
          subst (Goes behind tree scope ops (map js_of store) i) (whole_numbers (sum_value store (made first [] (addend ∷ addends))))
          (sum_goes first [] (addend ∷ addends) k i behind tree scope ops store kinds ek he.0.0 he.0.1 he.1 len holds form same)
      by first (factor ∷ factors) addends he same =
          subst (Goes behind tree scope ops (map js_of store) i) (whole_numbers (sum_value store (made first (factor ∷ factors) addends)))
          (sum_goes first (factor ∷ factors) addends k i behind tree scope ops store kinds ek he.0.0 he.0.1 he.1 len holds form same)

  -- Statements.

  -- past the print of a value
  record Past (i : ℕ) (rest tree : List JsStmt) (k : ℕ) (ops vars' : List Value) (scope : Scope) (texts : List (List ℕ)) : Type 0 where
    more : List JsStmt
    scope' : Scope
    same : map stmt_without_places more ≡ rest
    form : IsBody k i (map stmt_without_places more)
    holds : Holds ops vars' scope'
    leads : Leads (body place tree) (realm_at place scope) (body place more) (realm_at place scope') texts

  printed : (d : Datum) (is_str : Bool) (p : JsPrimary) (rest tree : List JsStmt) (k i : ℕ) (ops vars : List Value) (scope : Scope) → is_str ≡ kind_of d → Stands ops vars p (js_of d) → Holds ops vars scope → IsBody k i (map stmt_without_places tree) → map stmt_without_places tree ≡ print_of is_str p ∷ rest
      → Past i rest tree k ops vars scope (source.text_of d ∷ [])
  printed d is_str p rest tree k i ops vars scope kind stands holds form is = record {
    more = b.more;
    scope' = scope;
    same = b.same;
    form = subst (IsBody k i) (sym b.same) (past_print (host_print (printed_of is_str p)) rest form is);
    holds = holds;
    leads = subst (λ t. Leads (body place t) (realm_at place scope) (body place b.more) (realm_at place scope) (source.text_of d ∷ [])) (sym b.is) (by d is_str kind stands);
  }
    where
      b : Begins (λ at. s.Perform at (host_print (printed_of is_str p))) rest tree
      b = begins_with_perform (host_print (printed_of is_str p)) (printed_placeless is_str (stands_placeless stands)) rest tree is

      by : (d : Datum) (is_str : Bool) → is_str ≡ kind_of d → Stands ops vars p (js_of d) → Leads (body place (s.Perform b.at (host_print (printed_of is_str p)) ∷ b.more)) (realm_at place scope) (body place b.more) (realm_at place scope) (source.text_of d ∷ [])
      by (Whole z) true kind stands = absurd (cc kind)
      by (Whole z) false kind stands = past place b.more (number_printed place b.at p z outer holds stands)
      by (Letters units) false kind stands = absurd (cc kind)
      by (Letters units) true kind stands = past place b.more (text_printed place b.at p units outer holds stands)

  given : (d : Datum) (p : JsPrimary) (rest tree : List JsStmt) (k i : ℕ) (ops : List Value) (store : Store) (scope : Scope) → length store ≡ i → Stands ops (map js_of store) p (js_of d) → Holds ops (map js_of store) scope → IsBody k i (map stmt_without_places tree) → map stmt_without_places tree ≡ variable_let i p ∷ rest
      → Past (suc i) rest tree k ops (map js_of (store ++ d ∷ [])) scope []
  given d p rest tree k i ops store scope len stands holds form is =
      let b = begins_with_let (variable_name i) (e.Primary p) (places.primary p (stands_placeless stands)) rest tree is in
      let on = past_declared (e.Primary p) rest form is in
      record {
        more = b.more;
        scope' = bind scope (variable_name i) (Some (js_of d));
        same = b.same;
        form = subst (IsBody k (suc i)) (sym b.same) on.1;
        holds = subst (λ vars. Holds ops vars (bind scope (variable_name i) (Some (js_of d)))) (sym (map_more js_of store d)) (holds_variable ops (map js_of store) scope i (js_of d) (length_map js_of store ∙ len) on.0 holds);
        leads = subst (λ t. Leads (body place t) (realm_at place scope) (body place b.more) (realm_at place (bind scope (variable_name i) (Some (js_of d)))) []) (sym b.is) (past place b.more (variable_comes place b.at (variable_name i) p (js_of d) holds stands));
      }

  -- Both come to the same end, with the same texts.
  pub record Agree (a : ActOf First) (tree : List JsStmt) (scope : Scope) : Type 0 where
    pub texts : List (List ℕ)
    pub how : (((store : Store) × Comes First a source.Normal store texts) × ((scope' : Scope) × Ends (body place tree) (realm_at place scope) (left_by (Return Null) (realm_at place scope')) texts)) ⊎ (Cuts First a Left texts × Ends (body place tree) (realm_at place scope) (cut Left) texts)

  -- one statement on each side, and then those behind it
  agree_on : (s : Statement) (program : List Statement) (before after : Store) (tree later : List JsStmt) (scope scope' : Scope) (texts : List (List ℕ))
      → Comes First (sub (source.Statement s) before fin) source.Normal after texts → Leads (body place tree) (realm_at place scope) (body place later) (realm_at place scope') texts
      → Agree (source.statements program after) later scope' → Agree (source.statements (s ∷ program) before) tree scope
  agree_on s program before after tree later scope scope' texts comes leads a = record {
    texts = texts ++ a.texts;
    how =
        ⊎_elim
        (λ g. inl ((g.0.0, comes_bind First (sub (source.Statement s) before fin) (λ _ store. source.statements program store) source.Normal source.Normal after g.0.0 texts a.texts comes g.0.1), (g.1.0, leads_over leads g.1.1)))
        (λ g. inr (cuts_then First (sub (source.Statement s) before fin) (λ _ store. source.statements program store) source.Normal after Left texts a.texts comes g.0, leads_over leads g.1))
        a.how;
  }

  agree_cut : (s : Statement) (program : List Statement) (before : Store) (tree : List JsStmt) (scope : Scope) → Cuts First (sub (source.Statement s) before fin) Left [] → Ends (body place tree) (realm_at place scope) (cut Left) [] → Agree (source.statements (s ∷ program) before) tree scope
  agree_cut s program before tree scope cuts c = record { texts = []; how = inr (cuts_first First (sub (source.Statement s) before fin) (λ _ store. source.statements program store) Left [] cuts, c) }

  agree_end : (store : Store) (tree : List JsStmt) (scope : Scope) → map stmt_without_places tree ≡ s.Return 0 (e.Primary (alone h.Null)) ∷ [] → Agree (source.statements [] store) tree scope
  agree_end store tree scope is =
      let b = begins_with_return (e.Primary (alone h.Null)) last_placeless [] tree is in
      record {
        texts = [];
        how = inl ((store, comes_fin First source.Normal store), (scope, subst (λ t. Ends (body place t) (realm_at place scope) (left_by (Return Null) (realm_at place scope)) []) (sym b.is) (over_at place b.more (returns place b.at (realm_at place scope)))));
      }

  pub all_agree : (program : List Statement) (k i : ℕ) (kinds : Kinds) (names : Names) (tree : List JsStmt) (scope : Scope) (ops : List Value) (store : Store)
      → map kind_of store ≡ kinds → AreWellFormed kinds names program → length kinds ≡ i → length ops ≡ k → Holds ops (map js_of store) scope → IsBody k i (map stmt_without_places tree) → map stmt_without_places tree ≡ statements_from k kinds program
      → Agree (source.statements program store) tree scope
  all_agree [] k i kinds names tree scope ops store ek hp li len holds form same = agree_end store tree scope same
  all_agree (dart_statements.Print value ∷ program) k i kinds names tree scope ops store ek hp li len holds form same =
      by (expression_value store value) refl (expression_goes value k i behind tree scope ops store kinds ek hp.0 len holds form same) (λ k tree scope ops. all_agree program k i kinds names tree scope ops store ek hp.1 li)
    where
      behind : Behind
      behind k' p = print_of (is_text kinds value) p ∷ statements_from k' kinds program

      by : (r : Option Datum) → expression_value store value ≡ r → Goes behind tree scope ops (map js_of store) i (option_map js_of r)
          → ((k : ℕ) (tree : List JsStmt) (scope : Scope) (ops : List Value) → length ops ≡ k → Holds ops (map js_of store) scope → IsBody k i (map stmt_without_places tree) → map stmt_without_places tree ≡ statements_from k kinds program → Agree (source.statements program store) tree scope)
          → Agree (source.statements (dart_statements.Print value ∷ program) store) tree scope
      by (Some d) is a next =
          let past = printed d (is_text kinds value) a.p (statements_from a.k kinds program) a.tree' a.k i a.all (map js_of store) a.scope' (expression_kind value store kinds d ek is) a.stands a.holds a.form a.same in
          agree_on (dart_statements.Print value) program store store tree past.more scope past.scope' (source.text_of d ∷ []) (print_comes value store d is) (leads_on a.leads past.leads) (next a.k past.more past.scope' a.all a.count past.holds past.form past.same)
      by None is c next = agree_cut (dart_statements.Print value) program store tree scope (statement_cuts (dart_statements.Print value) value source.prints store refl is) c
  all_agree (dart_statements.Declare name value ∷ program) k i kinds names tree scope ops store ek hp li len holds form same =
      by (expression_value store value) refl (expression_goes value k i behind tree scope ops store kinds ek hp.2 len holds form same')
      (λ d kind k tree scope ops. all_agree program k (suc i) (kinds ++ is_text kinds value ∷ []) (names ++ name ∷ []) tree scope ops (store ++ d ∷ []) (more_kinds d kind) hp.3 li')
    where
      behind : Behind
      behind k' p = variable_let i p ∷ statements_from k' (kinds ++ is_text kinds value ∷ []) program

      same' : map stmt_without_places tree ≡ expression_then k value behind
      same' = subst (λ i. map stmt_without_places tree ≡ expression_then k value (λ k' p. variable_let i p ∷ statements_from k' (kinds ++ is_text kinds value ∷ []) program)) li same

      li' : length (kinds ++ is_text kinds value ∷ []) ≡ suc i
      li' = omega (arith, length-append kinds (is_text kinds value ∷ []), li)

      more_kinds : (d : Datum) → is_text kinds value ≡ kind_of d → map kind_of (store ++ d ∷ []) ≡ kinds ++ is_text kinds value ∷ []
      more_kinds d kind = map_more kind_of store d ∙ (λ j. ek j ++ sym kind j ∷ [])

      count : length store ≡ i
      count = sym (length_map kind_of store) ∙ ap length ek ∙ li

      by : (r : Option Datum) → expression_value store value ≡ r → Goes behind tree scope ops (map js_of store) i (option_map js_of r)
          → ((d : Datum) → is_text kinds value ≡ kind_of d → (k : ℕ) (tree : List JsStmt) (scope : Scope) (ops : List Value) → length ops ≡ k → Holds ops (map js_of (store ++ d ∷ [])) scope → IsBody k (suc i) (map stmt_without_places tree) → map stmt_without_places tree ≡ statements_from k (kinds ++ is_text kinds value ∷ []) program → Agree (source.statements program (store ++ d ∷ [])) tree scope)
          → Agree (source.statements (dart_statements.Declare name value ∷ program) store) tree scope
      by (Some d) is a next =
          let past = given d a.p (statements_from a.k (kinds ++ is_text kinds value ∷ []) program) a.tree' a.k i a.all store a.scope' count a.stands a.holds a.form a.same in
          agree_on (dart_statements.Declare name value) program store (store ++ d ∷ []) tree past.more scope past.scope' [] (declare_comes name value store d is) (leads_on a.leads past.leads) (next d (expression_kind value store kinds d ek is) a.k past.more past.scope' a.all a.count past.holds past.form past.same)
      by None is c next = agree_cut (dart_statements.Declare name value) program store tree scope (statement_cuts (dart_statements.Declare name value) value source.declares store refl is) c
