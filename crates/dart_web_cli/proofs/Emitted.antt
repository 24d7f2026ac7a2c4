-- What the statements of a translation do.
use Rattle.std.proofs.Common.{◌≡◌, ◌≢◌, ℕ, zero, suc, ◌<◌, ◌≤◌, ◌^◌, Bool, true, false, if◌then◌else◌, List, [], ◌∷◌, ◌++◌, length, map, Option, Some, None, refl, sym, ap, ◌∙◌, subst, inl, inr, ⊎_elim, ◌⊎◌, arith}
use Rattle.std.specs.Prelude.{ℤ, pos, ◌+ℤ◌, ◌-ℤ◌, ◌*ℤ◌, nat_abs, nat_le, slice_get, codes}
use Rattle.std.specs.Fmt.{signed_decimal}
use Rattle.std.specs.Map.{lookup}
use Rattle.std.specs.Str.{bytes_eq}
use Rattle.std.proofs.lemmas.Bool.{le-leb}
use Rattle.meanings.specs.Act.{Left}
use Rattle.dart_meaning.specs.Meaning as source
use Rattle.js_tree.specs.declared.tree.JsExpr.{JsExpr}
use Rattle.js_tree.specs.declared.tree.JsExpr.TheVariants as e
use Rattle.js_tree.specs.declared.tree.JsHead.{JsHead}
use Rattle.js_tree.specs.declared.tree.JsHead.TheVariants as h
use Rattle.js_tree.specs.declared.tree.JsSelector.TheVariants as l
use Rattle.js_tree.specs.declared.tree.JsPrimary.{JsPrimary}
use Rattle.js_tree.specs.declared.tree.JsStmt.{JsStmt}
use Rattle.js_tree.specs.declared.tree.JsStmt.TheVariants as s
use Rattle.js_tree.specs.declared.words.JsMember.TheVariants as m
use Rattle.js_tree.specs.declared.words.JsOperator.{JsOperator}
use Rattle.js_tree.specs.declared.words.JsOperator.TheVariants as o
use Rattle.js_store.specs.Closure.{Env}
use Rattle.js_tree.specs.Grammar.{greatest}
use Rattle.js_store.specs.Scopes as scopes
use Rattle.js_store.specs.Scopes.{Scope, bind, decided_by, given_by_host}
use Rattle.js_store.specs.declared.store.Store.{Store}
use Rattle.js_store.specs.declared.host.Host.{Host as HostState}
use Rattle.js_store.specs.declared.value.Value.{Value}
use Rattle.js_store.specs.declared.value.Value.TheVariants.{Undefined, Null, Number, Str, Host}
use Rattle.js_meaning.specs.declared.state.Realm.{Realm}
use Rattle.js_meaning.specs.declared.state.Spot.{Spot}
use Rattle.js_meaning.specs.declared.state.Here.{Here}
use Rattle.js_meaning.specs.declared.state.Around.{Around}
use Rattle.js_meaning.specs.declared.state.Leave.TheVariants.{Return}
use Rattle.js_meaning.specs.declared.state.Callee.{Callee}
use Rattle.js_meaning.specs.declared.state.Callee.TheVariants.{StringOf, Method}
use Rattle.js_meaning.specs.Machine.{Ending}
use Rattle.js_meaning.specs.Prog.{Prog, ◌>>=◌, ◌>>◌, pure, left, or_stuck, leave, perform, call}
use Rattle.js_meaning.specs.Parts.{Expr, values, values_from, selected}
use Rattle.js_meaning.specs.Operators.{number, operated, numbers}
use Rattle.js_meaning.specs.Stored.{read, give}
use Rattle.js_meaning.specs.Expressions.{name, digits, calls, binary}
use Rattle.js_meaning.specs.Trees.{expr, head, selector, primary}
use Rattle.js_meaning.specs.Statements.{here, statements, statement_at, statement, let_value, performed, return_value}
use Rattle.js_meaning.specs.Calls.{inside, string_of, called}
use Rattle.js_meaning.proofs.Layers.{primary_layer, binary_layer, name_layer, digits_layer, str_layer, null_layer, string_of_layer, method_layer, parts_layer}
use Rattle.dart_web_cli.specs.Translation.{operation_name, variable_name, alone, host_print, string_of as string_tree}
use Rattle.dart_web_cli.proofs.Leading.{Leads, Comes, Ends, cut, left_by, same_acts, stays, same_part, leads_on, leads_over, then_leads, then_over, over_before, looks, changes, halts, leaves, performs, performs_over, performs_left, calls as calls_lead}
use Rattle.dart_web_cli.proofs.Names.{bound, bound_other, numbers_differ, letters_differ, letters_differ', no_host, no_host'}

-- ---- parts of expressions, at any state

module _ (place : Here) (c : Realm) where
  is_then : {T : Type 0} {p q : Prog T} {v : T} {texts : List (List ℕ)} → p ≡ q → Comes q c v c texts → Comes p c v c texts
  is_then {p = p} {q = q} same g = leads_on (same_part p q c same) g

  comes_alone : (a : JsHead) (v : Value) → Comes ((head a).does place) c v c [] → Comes ((primary (alone a)).does place) c v c []
  unfolding selected
  comes_alone a v g = is_then (parts_layer (alone a) place) (then_leads _ g (stays (pure v) c))

  comes_name : (x : List ℕ) (v : Value) → scopes.look_up c.store place.env x ≡ Some v → Comes ((head (h.Name x)).does place) c v c []
  unfolding name read
  comes_name x v found =
      is_then (name_layer x place)
      (then_leads (or_stuck place.spot) (looks (λ r. scopes.look_up r.store place.env x) c) (same_part (or_stuck place.spot (scopes.look_up c.store place.env x)) (pure v) c (ap (or_stuck place.spot) found)))

  comes_digits : (n : ℕ) → n ≤ greatest → Comes ((head (h.Digits n)).does place) c (Number (pos n)) c []
  unfolding digits number
  comes_digits n small = is_then (digits_layer n place) (same_part (digits n) (pure (Number (pos n))) c (ap (λ b. if b then pure (Number (pos n)) else left) (le-leb n greatest small)))

  comes_string : (us : List ℕ) → Comes ((head (h.Str us)).does place) c (Str us) c []
  comes_string us = is_then (str_layer us place) (stays (pure (Str us)) c)

  comes_null : Comes ((head h.Null).does place) c Null c []
  comes_null = is_then (null_layer place) (stays (pure Null) c)

  comes_primary : (p : JsPrimary) (v : Value) → Comes ((primary p).does place) c v c [] → Comes ((expr (e.Primary p)).does place) c v c []
  comes_primary p v g = is_then (primary_layer p place) g

  -- one argument
  comes_values : (a : JsExpr) (v : Value) → Comes ((expr a).does place) c v c [] → Comes (values place (map expr (a ∷ []))) c (v ∷ []) c []
  unfolding values
  comes_values a v g = then_leads _ g (stays (pure (v ∷ [])) c)

  -- the string of a number
  comes_decimal : (p : JsPrimary) (z : ℤ) → Comes ((primary p).does place) c (Number z) c [] → Comes ((expr (string_tree p)).does place) c (Str (signed_decimal z)) c []
  unfolding calls called string_of
  comes_decimal p z g =
      comes_primary (alone (h.StringOf (e.Primary p ∷ []))) (Str (signed_decimal z))
      (comes_alone (h.StringOf (e.Primary p ∷ [])) (Str (signed_decimal z))
      (is_then (string_of_layer (e.Primary p ∷ []) place)
      (then_leads _ (comes_values (e.Primary p) (Number z) (comes_primary p (Number z) g))
      (calls_lead {spot = place.spot} {f = StringOf} {vs = Number z ∷ []} {v = Str (signed_decimal z)} {c = c} {d = c} {texts = []} (same_acts (called place.spot StringOf (Number z ∷ [])) (pure (Str (signed_decimal z))) c c (λ k. refl))))))

  -- a string is printed
  comes_print : (a : JsExpr) (text : List ℕ) → scopes.look_up c.store place.env (codes "host$") ≡ Some Host → Comes ((expr a).does place) c (Str text) c [] → Comes ((primary (host_print a)).does place) c Undefined c (text ∷ [])
  unfolding selected calls called
  comes_print a text host g =
      is_then (parts_layer (host_print a) place)
      (then_leads _ (comes_name (codes "host$") Host host)
      (then_leads _
      (is_then (method_layer m.Print (a ∷ []) place Host)
      (then_leads _ (comes_values a (Str text) g)
      (calls_lead {spot = place.spot} {f = Method Host m.Print} {vs = Str text ∷ []} {v = Undefined} {c = c} {d = c} {texts = []} (stays (pure Undefined) c))))
      (stays (pure Undefined) c)))

-- ---- operators

-- the number where it is in range
abbrev pub number_or_left : Option ℤ → Prog Value
number_or_left (Some z) = pure (Number z)
number_or_left None = left

number_is : (z : ℤ) → number z ≡ number_or_left (source.in_range z)
unfolding number
number_is z = by (nat_le (nat_abs z) greatest)
  where
    by : (b : Bool) → (if b then pure (Number z) else left) ≡ number_or_left (if b then Some z else None)
    by true = refl
    by false = refl

-- an operator that computes this of two numbers
abbrev pub Computes : JsOperator → (ℤ → ℤ → ℤ) → Type 0
Computes operator f = (spot : Spot) (x y : ℤ) → operated spot operator (Number x) (Number y) ≡ number (f x y)

pub times : Computes o.Times (λ x y. x *ℤ y)
unfolding operated numbers
times spot x y = refl

pub plus : Computes o.Plus (λ x y. x +ℤ y)
unfolding operated numbers
plus spot x y = refl

pub minus : Computes o.Minus (λ x y. x -ℤ y)
unfolding operated numbers
minus spot x y = refl

operates : (place : Here) (c : Realm) (operator : JsOperator) (f : ℤ → ℤ → ℤ) (p q : JsPrimary) (x y : ℤ) → Computes operator f → Comes ((primary p).does place) c (Number x) c [] → Comes ((primary q).does place) c (Number y) c []
    → Leads ((expr (e.Binary operator p q)).does place) c (number_or_left (source.in_range (f x y))) c []
unfolding binary
operates place c operator f p q x y computes gp gq =
    leads_on (same_part ((expr (e.Binary operator p q)).does place) (binary place operator ((primary p).does place) ((primary q).does place)) c (binary_layer operator p q place))
    (then_leads _ gp (then_leads _ gq (same_part (operated place.spot operator (Number x) (Number y)) (number_or_left (source.in_range (f x y))) c (computes place.spot x y ∙ number_is (f x y)))))

-- ---- where the statements run: in a scope of their own, or at the top where no name is declared

pub record Place : Type 0 where
  pub inner : Bool
  pub base : Store
  pub host : HostState

abbrev pub env_in : Bool → Env
env_in true = 0 ∷ []
env_in false = []

-- the store where this is the scope
abbrev pub store_in : Bool → Store → Scope → Store
store_in true base scope = record base { scopes = scope ∷ [] }
store_in false base scope = record base { top = scope }

-- what a name is that the scope has not
abbrev pub outer_in : Bool → Store → List ℕ → Option Value
outer_in true base x = scopes.look_up base [] x
outer_in false base x = given_by_host x

looked_in : (inner : Bool) (base : Store) (scope : Scope) (x : List ℕ) → scopes.look_up (store_in inner base scope) (env_in inner) x ≡ decided_by (lookup (bytes_eq x) scope) (outer_in inner base x)
looked_in true base scope x = refl
looked_in false base scope x = refl

given_in : (inner : Bool) (base : Store) (scope : Scope) (x : List ℕ) (v : Value) → scopes.initialise (store_in inner base scope) (env_in inner) x v ≡ store_in inner base (bind scope x (Some v))
given_in true base scope x v = refl
given_in false base scope x v = refl

abbrev pub around_at : Place → Around
around_at place = inside 0 (env_in place.inner)

abbrev pub realm_at : Place → Scope → Realm
realm_at place scope = record { store = store_in place.inner place.base scope; host = place.host }

-- the statements from here on
abbrev pub body : Place → List JsStmt → Prog (Unit {0})
body place tree = statements (around_at place) [] tree

-- what a scope has: the values of operators and of names of the program, and no `host$`
pub record Holds (ops vars : List Value) (scope : Scope) : Type 0 where
  pub operations : (k : ℕ) (v : Value) → slice_get ops k ≡ Some v → lookup (bytes_eq (operation_name k)) scope ≡ Some (Some v)
  pub variables : (i : ℕ) (v : Value) → slice_get vars i ≡ Some v → lookup (bytes_eq (variable_name i)) scope ≡ Some (Some v)
  pub no_host : lookup (bytes_eq (codes "host$")) scope ≡ None

-- what stands for a value there
pub data Stands (ops vars : List Value) : JsPrimary → Value → Type 0 where
  of_digits : (n : ℕ) → n ≤ greatest → Stands ops vars (alone (h.Digits n)) (Number (pos n))
  of_operation : (k : ℕ) (v : Value) → slice_get ops k ≡ Some v → Stands ops vars (alone (h.Name (operation_name k))) v
  of_variable : (i : ℕ) (v : Value) → slice_get vars i ≡ Some v → Stands ops vars (alone (h.Name (variable_name i))) v
  of_string : (us : List ℕ) → Stands ops vars (alone (h.Str us)) (Str us)

module _ (place : Place) where
  found_in : (scope : Scope) (x : List ℕ) (v : Value) → lookup (bytes_eq x) scope ≡ Some (Some v) → scopes.look_up (store_in place.inner place.base scope) (env_in place.inner) x ≡ Some v
  found_in scope x v is = looked_in place.inner place.base scope x ∙ ap (λ bound. decided_by bound (outer_in place.inner place.base x)) is

  host_in : (scope : Scope) → outer_in place.inner place.base (codes "host$") ≡ Some Host → lookup (bytes_eq (codes "host$")) scope ≡ None → scopes.look_up (store_in place.inner place.base scope) (env_in place.inner) (codes "host$") ≡ Some Host
  host_in scope outer none = looked_in place.inner place.base scope (codes "host$") ∙ ap (λ bound. decided_by bound (outer_in place.inner place.base (codes "host$"))) none ∙ outer

  pub value_comes : {ops vars : List Value} {scope : Scope} {p : JsPrimary} {v : Value} (at : ℕ) → Holds ops vars scope → Stands ops vars p v → Comes ((primary p).does (here (around_at place) at)) (realm_at place scope) v (realm_at place scope) []
  value_comes {scope = scope} at holds (of_digits n small) = comes_alone (here (around_at place) at) (realm_at place scope) (h.Digits n) (Number (pos n)) (comes_digits (here (around_at place) at) (realm_at place scope) n small)
  value_comes {scope = scope} at holds (of_operation k v found) =
      comes_alone (here (around_at place) at) (realm_at place scope) (h.Name (operation_name k)) v
      (comes_name (here (around_at place) at) (realm_at place scope) (operation_name k) v (found_in scope (operation_name k) v (holds.operations k v found)))
  value_comes {scope = scope} at holds (of_variable i v found) =
      comes_alone (here (around_at place) at) (realm_at place scope) (h.Name (variable_name i)) v
      (comes_name (here (around_at place) at) (realm_at place scope) (variable_name i) v (found_in scope (variable_name i) v (holds.variables i v found)))
  value_comes {scope = scope} at holds (of_string us) = comes_alone (here (around_at place) at) (realm_at place scope) (h.Str us) (Str us) (comes_string (here (around_at place) at) (realm_at place scope) us)

  -- past a statement
  pub past : {c : JsStmt} (more : List JsStmt) {r t : Realm} {texts : List (List ℕ)} → Comes (perform (around_at place) [] c) r tt t texts → Leads (body place (c ∷ more)) r (body place more) t texts
  unfolding statements
  past more g = record { cost = g.cost; goes = λ k. g.goes (λ _ d. (statements (around_at place) [] more).acts d k) }

  -- over with a statement
  pub over_at : {c : JsStmt} (more : List JsStmt) {r : Realm} {how : ℕ → List (List ℕ) → Ending} {texts : List (List ℕ)} → Ends (perform (around_at place) [] c) r how texts → Ends (body place (c ∷ more)) r how texts
  unfolding statements
  over_at more g = record { cost = g.cost; goes = λ k. g.goes (λ _ d. (statements (around_at place) [] more).acts d k) }

  -- ---- a let

  let_is : (at : ℕ) (x : List ℕ) (a : JsExpr) → statement (around_at place) [] (s.Let at x a) ≡ let_value (around_at place) at x a
  unfolding statement
  let_is at x a = ap (statement_at (around_at place) []) (s.outs-Let at x a)

  pub let_comes : (at : ℕ) (x : List ℕ) (a : JsExpr) (scope : Scope) (v : Value) → Comes ((expr a).does (here (around_at place) at)) (realm_at place scope) v (realm_at place scope) [] → Comes (perform (around_at place) [] (s.Let at x a)) (realm_at place scope) tt (realm_at place (bind scope x (Some v))) []
  unfolding let_value give
  let_comes at x a scope v g =
      performs
      (leads_on (same_part (statement (around_at place) [] (s.Let at x a)) (let_value (around_at place) at x a) (realm_at place scope) (let_is at x a))
      (then_leads _ g
      (subst (λ st. Comes (give (env_in place.inner) x v) (realm_at place scope) tt (record { store = st; host = place.host }) []) (given_in place.inner place.base scope x v)
      (changes (λ r. (tt, record r { store = scopes.initialise r.store (env_in place.inner) x v })) (realm_at place scope)))))

  pub let_over : (at : ℕ) (x : List ℕ) (a : JsExpr) (r : Realm) → Ends ((expr a).does (here (around_at place) at)) r (cut Left) [] → Ends (perform (around_at place) [] (s.Let at x a)) r (cut Left) []
  unfolding let_value
  let_over at x a r g =
      performs_over
      (leads_over (same_part (statement (around_at place) [] (s.Let at x a)) (let_value (around_at place) at x a) r (let_is at x a)) (over_before (give (env_in place.inner) x) g))

  -- what the let of two numbers comes to
  abbrev pub LetGoes : ℕ → List ℕ → JsExpr → Scope → Option ℤ → Type 0
  LetGoes at x a scope (Some z) = Comes (perform (around_at place) [] (s.Let at x a)) (realm_at place scope) tt (realm_at place (bind scope x (Some (Number z)))) []
  LetGoes at x a scope None = Ends (perform (around_at place) [] (s.Let at x a)) (realm_at place scope) (cut Left) []

  pub let_goes : {ops vars : List Value} {scope : Scope} (at : ℕ) (name : List ℕ) (operator : JsOperator) (f : ℤ → ℤ → ℤ) (p q : JsPrimary) (x y : ℤ) → Computes operator f → Holds ops vars scope → Stands ops vars p (Number x) → Stands ops vars q (Number y)
      → LetGoes at name (e.Binary operator p q) scope (source.in_range (f x y))
  let_goes {scope = scope} at name operator f p q x y computes holds sp sq =
      by (source.in_range (f x y)) (operates (here (around_at place) at) (realm_at place scope) operator f p q x y computes (value_comes at holds sp) (value_comes at holds sq))
    where
      by : (r : Option ℤ) → Leads ((expr (e.Binary operator p q)).does (here (around_at place) at)) (realm_at place scope) (number_or_left r) (realm_at place scope) [] → LetGoes at name (e.Binary operator p q) scope r
      by (Some z) g = let_comes at name (e.Binary operator p q) scope (Number z) g
      by None g = let_over at name (e.Binary operator p q) (realm_at place scope) (leads_over g (halts Left (realm_at place scope)))

  -- ---- a print

  perform_is : (at : ℕ) (p : JsPrimary) → statement (around_at place) [] (s.Perform at p) ≡ performed (around_at place) at p
  unfolding statement
  perform_is at p = ap (statement_at (around_at place) []) (s.outs-Perform at p)

  pub print_comes : (at : ℕ) (a : JsExpr) (text : List ℕ) (scope : Scope) → outer_in place.inner place.base (codes "host$") ≡ Some Host → lookup (bytes_eq (codes "host$")) scope ≡ None
      → Comes ((expr a).does (here (around_at place) at)) (realm_at place scope) (Str text) (realm_at place scope) [] → Comes (perform (around_at place) [] (s.Perform at (host_print a))) (realm_at place scope) tt (realm_at place scope) (text ∷ [])
  unfolding performed
  print_comes at a text scope outer none g =
      performs
      (leads_on (same_part (statement (around_at place) [] (s.Perform at (host_print a))) (performed (around_at place) at (host_print a)) (realm_at place scope) (perform_is at (host_print a)))
      (then_leads _ (comes_print (here (around_at place) at) (realm_at place scope) a text (host_in scope outer none) g) (stays (pure tt) (realm_at place scope))))

  -- a text is printed as it is, and a number by its string
  pub text_printed : {ops vars : List Value} {scope : Scope} (at : ℕ) (p : JsPrimary) (us : List ℕ) → outer_in place.inner place.base (codes "host$") ≡ Some Host → Holds ops vars scope → Stands ops vars p (Str us)
      → Comes (perform (around_at place) [] (s.Perform at (host_print (e.Primary p)))) (realm_at place scope) tt (realm_at place scope) (us ∷ [])
  text_printed {scope = scope} at p us outer holds sp =
      print_comes at (e.Primary p) us scope outer holds.no_host (comes_primary (here (around_at place) at) (realm_at place scope) p (Str us) (value_comes at holds sp))

  pub number_printed : {ops vars : List Value} {scope : Scope} (at : ℕ) (p : JsPrimary) (z : ℤ) → outer_in place.inner place.base (codes "host$") ≡ Some Host → Holds ops vars scope → Stands ops vars p (Number z)
      → Comes (perform (around_at place) [] (s.Perform at (host_print (string_tree p)))) (realm_at place scope) tt (realm_at place scope) (signed_decimal z ∷ [])
  number_printed {scope = scope} at p z outer holds sp =
      print_comes at (string_tree p) (signed_decimal z) scope outer holds.no_host (comes_decimal (here (around_at place) at) (realm_at place scope) p z (value_comes at holds sp))

  -- ---- a declared name, and the end

  pub variable_comes : {ops vars : List Value} {scope : Scope} (at : ℕ) (x : List ℕ) (p : JsPrimary) (v : Value) → Holds ops vars scope → Stands ops vars p v → Comes (perform (around_at place) [] (s.Let at x (e.Primary p))) (realm_at place scope) tt (realm_at place (bind scope x (Some v))) []
  variable_comes {scope = scope} at x p v holds sp = let_comes at x (e.Primary p) scope v (comes_primary (here (around_at place) at) (realm_at place scope) p v (value_comes at holds sp))

  return_is : (at : ℕ) (a : JsExpr) → statement (around_at place) [] (s.Return at a) ≡ return_value (around_at place) at a
  unfolding statement
  return_is at a = ap (statement_at (around_at place) []) (s.outs-Return at a)

  pub returns : (at : ℕ) (r : Realm) → Ends (perform (around_at place) [] (s.Return at (e.Primary (alone h.Null)))) r (left_by (Return Null) r) []
  unfolding return_value
  returns at r =
      performs_left
      (leads_over (same_part (statement (around_at place) [] (s.Return at (e.Primary (alone h.Null)))) (return_value (around_at place) at (e.Primary (alone h.Null))) r (return_is at (e.Primary (alone h.Null))))
      (then_over _
      (comes_primary (here (around_at place) at) r (alone h.Null) Null (comes_alone (here (around_at place) at) r h.Null Null (comes_null (here (around_at place) at) r)))
      (leaves (Return Null) r)))

-- ---- what a scope has, behind further lets

more_got : {X : Type 0} (xs : List X) (v w : X) (j : ℕ) → slice_get (xs ++ v ∷ []) j ≡ Some w → ((j < length xs) × (slice_get xs j ≡ Some w)) ⊎ ((j ≡ length xs) × (v ≡ w))
more_got [] v w zero is = inr (refl, cc is)
more_got [] v w (suc j) is = absurd (let none : None ≡ Some w = is in cc none)
more_got (x ∷ xs) v w zero is = inl (omega arith, is)
more_got (x ∷ xs) v w (suc j) is = ⊎_elim (λ g. inl (omega (arith, g.0), g.1)) (λ g. inr (ap suc g.0, g.1)) (more_got xs v w j is)

pub holds_operation : (ops vars : List Value) (scope : Scope) (k : ℕ) (v : Value) → length ops ≡ k → k < 2 ^ 64 → Holds ops vars scope → Holds (ops ++ v ∷ []) vars (bind scope (operation_name k) (Some v))
holds_operation ops vars scope k v len small holds = record {
  operations = λ j w is.
      ⊎_elim
      (λ g.
      let lt : j < 2 ^ 64 = omega (arith, g.0, len, small) in
      let other : j ≢ k = λ same. omega (arith, same, g.0, len) in
      bound_other scope (operation_name k) (operation_name j) (Some v) (numbers_differ 97 j k lt small other) ∙ holds.operations j w g.1)
      (λ g. ap (λ x. lookup (bytes_eq x) (bind scope (operation_name k) (Some v))) (ap operation_name (g.0 ∙ len)) ∙ bound scope (operation_name k) (Some v) ∙ ap (λ w. Some (Some w)) g.1)
      (more_got ops v w j is);
  variables = λ i w is. bound_other scope (operation_name k) (variable_name i) (Some v) (letters_differ' i k) ∙ holds.variables i w is;
  no_host = bound_other scope (operation_name k) (codes "host$") (Some v) (no_host k) ∙ holds.no_host;
}

pub holds_variable : (ops vars : List Value) (scope : Scope) (i : ℕ) (v : Value) → length vars ≡ i → i < 2 ^ 64 → Holds ops vars scope → Holds ops (vars ++ v ∷ []) (bind scope (variable_name i) (Some v))
holds_variable ops vars scope i v len small holds = record {
  operations = λ j w is. bound_other scope (variable_name i) (operation_name j) (Some v) (letters_differ j i) ∙ holds.operations j w is;
  variables = λ j w is.
      ⊎_elim
      (λ g.
      let lt : j < 2 ^ 64 = omega (arith, g.0, len, small) in
      let other : j ≢ i = λ same. omega (arith, same, g.0, len) in
      bound_other scope (variable_name i) (variable_name j) (Some v) (numbers_differ 118 j i lt small other) ∙ holds.variables j w g.1)
      (λ g. ap (λ x. lookup (bytes_eq x) (bind scope (variable_name i) (Some v))) (ap variable_name (g.0 ∙ len)) ∙ bound scope (variable_name i) (Some v) ∙ ap (λ w. Some (Some w)) g.1)
      (more_got vars v w j is);
  no_host = bound_other scope (variable_name i) (codes "host$") (Some v) (no_host' i) ∙ holds.no_host;
}

-- the lists to which a list grows
abbrev pub Grows : List Value → List Value → Type 0
Grows ops all = (j : ℕ) (w : Value) → slice_get ops j ≡ Some w → slice_get all j ≡ Some w

pub stands_on : (ops all vars : List Value) {p : JsPrimary} {v : Value} → Grows ops all → Stands ops vars p v → Stands all vars p v
stands_on ops all vars grows (of_digits n small) = of_digits n small
stands_on ops all vars grows (of_operation k v found) = of_operation k v (grows k v found)
stands_on ops all vars grows (of_variable i v found) = of_variable i v found
stands_on ops all vars grows (of_string us) = of_string us
