-- Expressions are read from their only spelling.
use Rattle.std.proofs.Common.{◌≡◌, ℕ, zero, suc, ◌<◌, ◌≤◌, Bool, true, false, cond, List, [], ◌∷◌, ◌++◌, length, Some, None, refl, sym, ap, ◌∙◌, subst, arith, append_assoc}
use Rattle.std.specs.Prelude.{slice_get, nat_le}
use Rattle.std.proofs.lemmas.Bool.{le-leb, leb-true}
use Rattle.std.proofs.lemmas.List.{append-nil}
use Rattle.std.proofs.lemmas.Option.{get_or_from_slice_get, slice_get-get_or}
use Rattle.dart_syntax.specs.declared.words.Sign.TheVariants as s
use Rattle.dart_syntax.specs.declared.tokens.Form.{Form}
use Rattle.dart_syntax.specs.declared.tokens.Form.TheVariants as f
use Rattle.dart_meaning.specs.declared.program.TheConstants.{MAX_NUMBER}
use Rattle.dart_meaning.specs.declared.program.Operand.{Operand}
use Rattle.dart_meaning.specs.declared.program.Operand.TheVariants.{Number, Variable}
use Rattle.dart_meaning.specs.declared.program.Product.{Product}
use Rattle.dart_meaning.specs.declared.program.Sign.{Sign}
use Rattle.dart_meaning.specs.declared.program.Sign.TheVariants.{Plus, Minus}
use Rattle.dart_meaning.specs.declared.program.Addend.{Addend}
use Rattle.dart_meaning.specs.declared.program.Sum.{Sum}
use Rattle.dart_meaning.specs.declared.program.Expression.{Expression}
use Rattle.dart_meaning.specs.declared.program.Expression.TheVariants as expressions
use Rattle.dart_meaning.specs.Program.{Forms, Kinds, Names, IsOperand, IsNumeric, AreNumeric, IsProduct, AreAddends, IsSum, IsExpression, is_text_name, is_text, operand_form, factors_forms, product_forms, mark_of, addends_forms, text_forms, expression_forms}
use Rattle.dart_meaning.specs.Meaning.{◌>>=◌}
use Rattle.dart_meaning.specs.Scope.{Scope, find}
use Rattle.dart_meaning.specs.Reader.{same_mark, sign, plus_or_minus, begins_text, text, Found, constant_of, variable_of, operand_of, operand, factor, factors, product_behind, product, addends, sum_behind, alone, sum, text_expression, sum_expression, expression}
use Rattle.dart_meaning.proofs.Named.{Proper, find_at, found_at}
use Rattle.dart_meaning.proofs.Steps.{some_same, after, either, chosen, unless}
use Rattle.dart_meaning.proofs.Taken.{takes_sign, gives_sign, takes_plus_or_minus, gives_plus_or_minus, takes_text, gives_text}

-- whether an operand stands for a text
abbrev pub kind_of : Kinds → Operand → Bool
kind_of kinds operand = is_text_name kinds (Some operand)

-- no operator is behind an expression
pub record Ends (more : Forms) : Type 0 where
  pub times : sign s.Times more ≡ None
  pub addend : plus_or_minus more ≡ None

-- ---- operands

within : (kinds : Kinds) (k : ℕ) (kind : Bool) → slice_get kinds k ≡ Some kind → k < length kinds
within [] k kind e = cc
within (x ∷ kinds) zero kind e = omega arith
within (x ∷ kinds) (suc k) kind e = omega (arith, within kinds k kind e)

numeric_fine : (kinds : Kinds) (o : Operand) → IsNumeric kinds o → IsOperand kinds o
numeric_fine kinds (Number n) small = small
numeric_fine kinds (Variable k) e = within kinds k false e

numeric_kind : (kinds : Kinds) (o : Operand) → IsNumeric kinds o → kind_of kinds o ≡ false
numeric_kind kinds (Number n) small = refl
numeric_kind kinds (Variable k) e = get_or_from_slice_get kinds k false false e

numeric_of : (kinds : Kinds) (o : Operand) → IsOperand kinds o → kind_of kinds o ≡ false → IsNumeric kinds o
numeric_of kinds (Number n) small kind = small
numeric_of kinds (Variable k) lt kind = slice_get-get_or kinds k false lt ∙ ap Some kind

takes_operand : (scope : Scope) (o : Operand) (more : Forms) → Proper scope → IsOperand scope.kinds o → operand scope (operand_form scope.names o ∷ more) ≡ Some (o, kind_of scope.kinds o, more)
unfolding operand constant_of variable_of
takes_operand scope (Number n) more p small = rw (le-leb n MAX_NUMBER small) refl
takes_operand scope (Variable k) more p lt = rw (find_at scope k p lt) refl

-- what an operand that was read says
record GivesOperand (scope : Scope) (got : Found) (fs : Forms) : Type 0 where
  fine : IsOperand scope.kinds got.0
  kind : kind_of scope.kinds got.0 ≡ got.1
  is : fs ≡ operand_form scope.names got.0 ∷ got.2

constant_is : (scope : Scope) (o : Operand × Bool) (n : ℕ) (fs : Forms) → constant_of n ≡ Some o → GivesOperand scope (o.0, o.1, fs) (f.Number n ∷ fs)
unfolding constant_of
constant_is scope o n fs e =
    let c = chosen (nat_le n MAX_NUMBER) (Number n, false) o e in
    let it : GivesOperand scope (Number n, false, fs) (f.Number n ∷ fs) = record { fine = leb-true n MAX_NUMBER c.0; kind = refl; is = refl } in
    subst (λ (o : Operand × Bool). GivesOperand scope (o.0, o.1, fs) (f.Number n ∷ fs)) c.1 it

variable_is : (scope : Scope) (o : Operand × Bool) (name : List ℕ) (fs : Forms) → Proper scope → variable_of scope name ≡ Some o → GivesOperand scope (o.0, o.1, fs) (f.Name name ∷ fs)
unfolding variable_of
variable_is scope o name fs p e =
    after (find name scope) _ o _ e (λ v ev e.
    let g = found_at scope name v p ev in
    let it : GivesOperand scope (Variable v.0, v.1, fs) (f.Name name ∷ fs) = record { fine = g.within; kind = g.kind; is = ap (λ (t : List ℕ). f.Name t ∷ fs) (sym g.is) } in
    subst (λ (o : Operand × Bool). GivesOperand scope (o.0, o.1, fs) (f.Name name ∷ fs)) (some_same (Variable v.0, v.1) o e) it)

operand_is : (scope : Scope) (o : Operand × Bool) (form : Form) (fs : Forms) → Proper scope → operand_of scope form ≡ Some o → GivesOperand scope (o.0, o.1, fs) (form ∷ fs)
operand_is scope o (f.Name name) fs p e = variable_is scope o name fs p e
operand_is scope o (f.Number n) fs p e = constant_is scope o n fs e
operand_is scope o _ fs p e = absurd cc

gives_operand : (scope : Scope) (got : Found) (fs : Forms) → Proper scope → operand scope fs ≡ Some got → GivesOperand scope got fs
unfolding operand
gives_operand scope got [] p e = cc
gives_operand scope got (form ∷ fs) p e =
    after (operand_of scope form) _ got _ e (λ o eo e.
    subst (λ (g : Found). GivesOperand scope g (form ∷ fs)) (some_same (o.0, o.1, fs) got e) (operand_is scope o form fs p eo))

-- ---- operands of operators

factor_from : (scope : Scope) (fs rest : Forms) (o : Operand) (kind : Bool) → operand scope fs ≡ Some (o, kind, rest) → kind ≡ false → factor scope fs ≡ Some (o, rest)
unfolding factor
factor_from scope fs rest o kind is none = rw is (ap (λ t. cond t None (Some (o, rest))) none)

takes_factor : (scope : Scope) (o : Operand) (more : Forms) → Proper scope → IsNumeric scope.kinds o → factor scope (operand_form scope.names o ∷ more) ≡ Some (o, more)
takes_factor scope o more p numeric =
    factor_from scope (operand_form scope.names o ∷ more) more o (kind_of scope.kinds o) (takes_operand scope o more p (numeric_fine scope.kinds o numeric)) (numeric_kind scope.kinds o numeric)

record GivesFactor (scope : Scope) (got : Operand × Forms) (fs : Forms) : Type 0 where
  numeric : IsNumeric scope.kinds got.0
  is : fs ≡ operand_form scope.names got.0 ∷ got.1

gives_factor : (scope : Scope) (got : Operand × Forms) (fs : Forms) → Proper scope → factor scope fs ≡ Some got → GivesFactor scope got fs
unfolding factor
gives_factor scope got fs p e =
    after (operand scope fs) _ got _ e (λ o eo e.
    let g = gives_operand scope o fs p eo in
    let u = unless o.1 (o.0, o.2) got e in
    let it : GivesFactor scope (o.0, o.2) fs = record { numeric = numeric_of scope.kinds o.0 g.fine (g.kind ∙ u.0); is = g.is } in
    subst (λ (g : Operand × Forms). GivesFactor scope g fs) u.1 it)

-- ---- products

factors_long : (names : Names) (operands : List Operand) (more : Forms) → length operands ≤ length (factors_forms names operands more)
factors_long names [] more = omega arith
factors_long names (o ∷ operands) more = omega (arith, factors_long names operands more)

factors_end : (turns : ℕ) (scope : Scope) (done : List Operand) (fs : Forms) → sign s.Times fs ≡ None → factors turns scope done fs ≡ Some (done, fs)
unfolding factors
factors_end zero scope done fs e = refl
factors_end (suc turns) scope done fs e = rw e refl

factors_step : (turns : ℕ) (scope : Scope) (done : List Operand) (fs a b : Forms) (o : Operand) → sign s.Times fs ≡ Some a → factor scope a ≡ Some (o, b) → factors (suc turns) scope done fs ≡ factors turns scope (done ++ o ∷ []) b
unfolding factors
factors_step turns scope done fs a b o ea eb = rw (ea, eb) refl

takes_factors : (scope : Scope) (operands : List Operand) (turns : ℕ) (done : List Operand) (more : Forms) → Proper scope → AreNumeric scope.kinds operands → sign s.Times more ≡ None → length operands ≤ turns → factors turns scope done (factors_forms scope.names operands more) ≡ Some (done ++ operands, more)
takes_factors scope [] turns done more p numeric none le = factors_end turns scope done more none ∙ ap (λ (d : List Operand). Some (d, more)) (sym (append-nil done))
takes_factors scope (o ∷ operands) zero done more p numeric none le = absurd (let never : ⊥ = omega (arith, le) in never)
takes_factors scope (o ∷ operands) (suc turns) done more p numeric none le =
    let rest : Forms = factors_forms scope.names operands more in
    factors_step turns scope done _ (operand_form scope.names o ∷ rest) rest o (takes_sign s.Times (operand_form scope.names o ∷ rest)) (takes_factor scope o rest p numeric.0)
    ∙ takes_factors scope operands turns (done ++ o ∷ []) more p numeric.1 none (omega (arith, le))
    ∙ ap (λ (d : List Operand). Some (d, more)) (append_assoc done (o ∷ []) operands)

record GivesFactors (scope : Scope) (done : List Operand) (got : List Operand × Forms) (fs : Forms) : Type 0 where
  operands : List Operand
  all : got.0 ≡ done ++ operands
  numeric : AreNumeric scope.kinds operands
  is : fs ≡ factors_forms scope.names operands got.1

no_factors : (scope : Scope) (done : List Operand) (got : List Operand × Forms) (fs : Forms) → Some (done, fs) ≡ Some got → GivesFactors scope done got fs
no_factors scope done got fs e =
    let it : GivesFactors scope done (done, fs) fs = record { operands = []; all = sym (append-nil done); numeric = tt; is = refl } in
    subst (λ (g : List Operand × Forms). GivesFactors scope done g fs) (some_same (done, fs) got e) it

gives_factors : (turns : ℕ) (scope : Scope) (done : List Operand) (got : List Operand × Forms) (fs : Forms) → Proper scope → factors turns scope done fs ≡ Some got → GivesFactors scope done got fs
unfolding factors
gives_factors zero scope done got fs p e = no_factors scope done got fs e
gives_factors (suc turns) scope done got fs p e =
    either (sign s.Times fs) _ _ got _ e
    (λ a ea e. after (factor scope a) _ got _ e (λ o eo e.
    let g = gives_factor scope o a p eo in
    let r = gives_factors turns scope (done ++ o.0 ∷ []) got o.1 p e in
    record {
      operands = o.0 ∷ r.operands;
      all = r.all ∙ append_assoc done (o.0 ∷ []) r.operands;
      numeric = (g.numeric, r.numeric);
      is = gives_sign s.Times fs a ea ∙ ap (λ (l : Forms). f.Sign s.Times ∷ l) (g.is ∙ ap (λ (l : Forms). operand_form scope.names o.0 ∷ l) r.is);
    }))
    (λ none e. no_factors scope done got fs e)

behind_from : (scope : Scope) (o : Operand) (operands : List Operand) (fs rest : Forms) → factors (length fs) scope [] fs ≡ Some (operands, rest) → product_behind scope o fs ≡ Some (record { first = o; rest = operands }, rest)
unfolding product_behind
behind_from scope o operands fs rest e = rw e refl

takes_product_behind : (scope : Scope) (o : Operand) (operands : List Operand) (more : Forms) → Proper scope → AreNumeric scope.kinds operands → sign s.Times more ≡ None → product_behind scope o (factors_forms scope.names operands more) ≡ Some (record { first = o; rest = operands }, more)
takes_product_behind scope o operands more p numeric none =
    let fs : Forms = factors_forms scope.names operands more in
    behind_from scope o operands fs more (takes_factors scope operands (length fs) [] more p numeric none (factors_long scope.names operands more))

record GivesBehind (scope : Scope) (o : Operand) (got : Product × Forms) (fs : Forms) : Type 0 where
  first : got.0.first ≡ o
  numeric : AreNumeric scope.kinds got.0.rest
  is : fs ≡ factors_forms scope.names got.0.rest got.1

gives_product_behind : (scope : Scope) (o : Operand) (got : Product × Forms) (fs : Forms) → Proper scope → product_behind scope o fs ≡ Some got → GivesBehind scope o got fs
unfolding product_behind
gives_product_behind scope o got fs p e =
    after (factors (length fs) scope [] fs) _ got _ e (λ r er e.
    let g = gives_factors (length fs) scope [] r fs p er in
    let it : GivesBehind scope o (record { first = o; rest = r.0 }, r.1) fs = record {
      first = refl;
      numeric = subst (AreNumeric scope.kinds) (sym g.all) g.numeric;
      is = g.is ∙ ap (λ (l : List Operand). factors_forms scope.names l r.1) (sym g.all);
    } in
    subst (λ (g : Product × Forms). GivesBehind scope o g fs) (some_same (record { first = o; rest = r.0 }, r.1) got e) it)

product_from : (scope : Scope) (fs a : Forms) (o : Operand) → factor scope fs ≡ Some (o, a) → product scope fs ≡ product_behind scope o a
unfolding product
product_from scope fs a o e = rw e refl

takes_product : (scope : Scope) (p : Product) (more : Forms) → Proper scope → IsProduct scope.kinds p → sign s.Times more ≡ None → product scope (product_forms scope.names p more) ≡ Some (p, more)
takes_product scope p more proper fine none =
    let fs : Forms = factors_forms scope.names p.rest more in
    product_from scope (operand_form scope.names p.first ∷ fs) fs p.first (takes_factor scope p.first fs proper fine.0) ∙ takes_product_behind scope p.first p.rest more proper fine.1 none

record GivesProduct (scope : Scope) (got : Product × Forms) (fs : Forms) : Type 0 where
  fine : IsProduct scope.kinds got.0
  is : fs ≡ product_forms scope.names got.0 got.1

gives_product : (scope : Scope) (got : Product × Forms) (fs : Forms) → Proper scope → product scope fs ≡ Some got → GivesProduct scope got fs
unfolding product
gives_product scope got fs p e =
    after (factor scope fs) _ got _ e (λ o eo e.
    let g = gives_factor scope o fs p eo in
    let b = gives_product_behind scope o.0 got o.1 p e in
    record {
      fine = (subst (IsNumeric scope.kinds) (sym b.first) g.numeric, b.numeric);
      is = g.is ∙ ap (λ (l : Forms). operand_form scope.names o.0 ∷ l) b.is ∙ ap (λ (x : Operand). operand_form scope.names x ∷ factors_forms scope.names got.0.rest got.1) (sym b.first);
    })

-- ---- sums

mark_no_times : (m : Sign) (more : Forms) → sign s.Times (f.Sign (mark_of m) ∷ more) ≡ None
unfolding sign same_mark
mark_no_times Plus more = refl
mark_no_times Minus more = refl

addends_no_times : (names : Names) (list : List Addend) (more : Forms) → sign s.Times more ≡ None → sign s.Times (addends_forms names list more) ≡ None
addends_no_times names [] more none = none
addends_no_times names (a ∷ list) more none = mark_no_times a.sign _

pub factors_some : (names : Names) (operands : List Operand) (more : Forms) → length more ≤ length (factors_forms names operands more)
factors_some names [] more = omega arith
factors_some names (o ∷ operands) more = omega (arith, factors_some names operands more)

addends_long : (names : Names) (list : List Addend) (more : Forms) → length list ≤ length (addends_forms names list more)
addends_long names [] more = omega arith
addends_long names (a ∷ list) more = omega (arith, addends_long names list more, factors_some names a.product.rest (addends_forms names list more))

pub addends_some : (names : Names) (list : List Addend) (more : Forms) → length more ≤ length (addends_forms names list more)
addends_some names [] more = omega arith
addends_some names (a ∷ list) more = omega (arith, addends_some names list more, factors_some names a.product.rest (addends_forms names list more))

addends_end : (turns : ℕ) (scope : Scope) (done : List Addend) (fs : Forms) → plus_or_minus fs ≡ None → addends turns scope done fs ≡ Some (done, fs)
unfolding addends
addends_end zero scope done fs e = refl
addends_end (suc turns) scope done fs e = rw e refl

addends_step : (turns : ℕ) (scope : Scope) (done : List Addend) (fs a b : Forms) (m : Sign) (p : Product) → plus_or_minus fs ≡ Some (m, a) → product scope a ≡ Some (p, b) → addends (suc turns) scope done fs ≡ addends turns scope (done ++ (record { sign = m; product = p }) ∷ []) b
unfolding addends
addends_step turns scope done fs a b m p ea eb = rw (ea, eb) refl

takes_addends : (scope : Scope) (list : List Addend) (turns : ℕ) (done : List Addend) (more : Forms) → Proper scope → AreAddends scope.kinds list → Ends more → length list ≤ turns → addends turns scope done (addends_forms scope.names list more) ≡ Some (done ++ list, more)
takes_addends scope [] turns done more p fine ends le = addends_end turns scope done more ends.addend ∙ ap (λ (d : List Addend). Some (d, more)) (sym (append-nil done))
takes_addends scope (x ∷ list) zero done more p fine ends le = absurd (let never : ⊥ = omega (arith, le) in never)
takes_addends scope (x ∷ list) (suc turns) done more p fine ends le =
    let rest : Forms = addends_forms scope.names list more in
    addends_step turns scope done _ (product_forms scope.names x.product rest) rest x.sign x.product (takes_plus_or_minus x.sign (product_forms scope.names x.product rest)) (takes_product scope x.product rest p fine.0 (addends_no_times scope.names list more ends.times))
    ∙ takes_addends scope list turns (done ++ x ∷ []) more p fine.1 ends (omega (arith, le))
    ∙ ap (λ (d : List Addend). Some (d, more)) (append_assoc done (x ∷ []) list)

record GivesAddends (scope : Scope) (done : List Addend) (got : List Addend × Forms) (fs : Forms) : Type 0 where
  list : List Addend
  all : got.0 ≡ done ++ list
  fine : AreAddends scope.kinds list
  is : fs ≡ addends_forms scope.names list got.1

no_addends : (scope : Scope) (done : List Addend) (got : List Addend × Forms) (fs : Forms) → Some (done, fs) ≡ Some got → GivesAddends scope done got fs
no_addends scope done got fs e =
    let it : GivesAddends scope done (done, fs) fs = record { list = []; all = sym (append-nil done); fine = tt; is = refl } in
    subst (λ (g : List Addend × Forms). GivesAddends scope done g fs) (some_same (done, fs) got e) it

gives_addends : (turns : ℕ) (scope : Scope) (done : List Addend) (got : List Addend × Forms) (fs : Forms) → Proper scope → addends turns scope done fs ≡ Some got → GivesAddends scope done got fs
unfolding addends
gives_addends zero scope done got fs p e = no_addends scope done got fs e
gives_addends (suc turns) scope done got fs p e =
    either (plus_or_minus fs) _ _ got _ e
    (λ m em e. after (product scope m.1) _ got _ e (λ o eo e.
    let x : Addend = record { sign = m.0; product = o.0 } in
    let g = gives_product scope o m.1 p eo in
    let r = gives_addends turns scope (done ++ x ∷ []) got o.1 p e in
    record {
      list = x ∷ r.list;
      all = r.all ∙ append_assoc done (x ∷ []) r.list;
      fine = (g.fine, r.fine);
      is = gives_plus_or_minus m fs em ∙ ap (λ (l : Forms). f.Sign (mark_of m.0) ∷ l) (g.is ∙ ap (product_forms scope.names o.0) r.is);
    }))
    (λ none e. no_addends scope done got fs e)

sum_behind_from : (scope : Scope) (o : Operand) (fs a b : Forms) (p : Product) (list : List Addend) → product_behind scope o fs ≡ Some (p, a) → addends (length a) scope [] a ≡ Some (list, b) → sum_behind scope o fs ≡ Some (record { first = p; rest = list }, b)
unfolding sum_behind
sum_behind_from scope o fs a b p list ea eb = rw (ea, eb) refl

takes_sum_behind : (scope : Scope) (o : Operand) (operands : List Operand) (list : List Addend) (more : Forms) → Proper scope → AreNumeric scope.kinds operands → AreAddends scope.kinds list → Ends more → sum_behind scope o (factors_forms scope.names operands (addends_forms scope.names list more)) ≡ Some (record { first = record { first = o; rest = operands }; rest = list }, more)
takes_sum_behind scope o operands list more p numeric fine ends =
    let rest : Forms = addends_forms scope.names list more in
    sum_behind_from scope o (factors_forms scope.names operands rest) rest more (record { first = o; rest = operands }) list
    (takes_product_behind scope o operands rest p numeric (addends_no_times scope.names list more ends.times))
    (takes_addends scope list (length rest) [] more p fine ends (addends_long scope.names list more))

record GivesSumBehind (scope : Scope) (o : Operand) (got : Sum × Forms) (fs : Forms) : Type 0 where
  first : got.0.first.first ≡ o
  numeric : AreNumeric scope.kinds got.0.first.rest
  fine : AreAddends scope.kinds got.0.rest
  is : fs ≡ factors_forms scope.names got.0.first.rest (addends_forms scope.names got.0.rest got.1)

gives_sum_behind : (scope : Scope) (o : Operand) (got : Sum × Forms) (fs : Forms) → Proper scope → sum_behind scope o fs ≡ Some got → GivesSumBehind scope o got fs
unfolding sum_behind
gives_sum_behind scope o got fs p e =
    after (product_behind scope o fs) _ got _ e (λ q eq e. after (addends (length q.1) scope [] q.1) _ got _ e (λ a ea e.
    let g = gives_product_behind scope o q fs p eq in
    let h = gives_addends (length q.1) scope [] a q.1 p ea in
    let it : GivesSumBehind scope o (record { first = q.0; rest = a.0 }, a.1) fs = record {
      first = g.first;
      numeric = g.numeric;
      fine = subst (AreAddends scope.kinds) (sym h.all) h.fine;
      is = g.is ∙ ap (factors_forms scope.names q.0.rest) (h.is ∙ ap (λ (l : List Addend). addends_forms scope.names l a.1) (sym h.all));
    } in
    subst (λ (g : Sum × Forms). GivesSumBehind scope o g fs) (some_same (record { first = q.0; rest = a.0 }, a.1) got e) it))

sum_text : (scope : Scope) (fs rest : Forms) (o : Operand) (kind : Bool) → operand scope fs ≡ Some (o, kind, rest) → kind ≡ true → sum scope fs ≡ Some (alone o, true, rest)
unfolding sum
sum_text scope fs rest o kind is text = rw (is, text) refl

sum_number : (scope : Scope) (fs a rest : Forms) (o : Operand) (kind : Bool) (x : Sum) → operand scope fs ≡ Some (o, kind, a) → kind ≡ false → sum_behind scope o a ≡ Some (x, rest) → sum scope fs ≡ Some (x, false, rest)
unfolding sum
sum_number scope fs a rest o kind x is number e = rw (is, number, e) refl

takes_numbers : (scope : Scope) (o : Operand) (operands : List Operand) (list : List Addend) (more : Forms) → Proper scope → IsNumeric scope.kinds o → AreNumeric scope.kinds operands → AreAddends scope.kinds list → Ends more → sum scope (operand_form scope.names o ∷ factors_forms scope.names operands (addends_forms scope.names list more)) ≡ Some (record { first = record { first = o; rest = operands }; rest = list }, false, more)
takes_numbers scope o operands list more p first numeric fine ends =
    let rest : Forms = factors_forms scope.names operands (addends_forms scope.names list more) in
    sum_number scope (operand_form scope.names o ∷ rest) rest more o (kind_of scope.kinds o) _ (takes_operand scope o rest p (numeric_fine scope.kinds o first)) (numeric_kind scope.kinds o first) (takes_sum_behind scope o operands list more p numeric fine ends)

takes_alone : (scope : Scope) (o : Operand) (more : Forms) (kind : Bool) → kind_of scope.kinds o ≡ kind → Proper scope → IsOperand scope.kinds o → Ends more → sum scope (operand_form scope.names o ∷ more) ≡ Some (alone o, kind, more)
takes_alone scope o more true is p fine ends = sum_text scope (operand_form scope.names o ∷ more) more o (kind_of scope.kinds o) (takes_operand scope o more p fine) is
takes_alone scope o more false is p fine ends = takes_numbers scope o [] [] more p (numeric_of scope.kinds o fine is) tt tt ends

sum_taken : (scope : Scope) (o : Operand) (operands : List Operand) (list : List Addend) (more : Forms) → Proper scope → IsSum scope.kinds (record { first = record { first = o; rest = operands }; rest = list }) → Ends more → sum scope (operand_form scope.names o ∷ factors_forms scope.names operands (addends_forms scope.names list more)) ≡ Some (record { first = record { first = o; rest = operands }; rest = list }, is_text scope.kinds (expressions.Sum (record { first = record { first = o; rest = operands }; rest = list })), more)
sum_taken scope o [] [] more p fine ends = takes_alone scope o more (kind_of scope.kinds o) refl p fine ends
sum_taken scope o [] (a ∷ list) more p fine ends = takes_numbers scope o [] (a ∷ list) more p fine.0.0 tt fine.1 ends
sum_taken scope o (x ∷ operands) list more p fine ends = takes_numbers scope o (x ∷ operands) list more p fine.0.0 fine.0.1 fine.1 ends

record GivesSum (scope : Scope) (got : Sum × Bool × Forms) (fs : Forms) : Type 0 where
  fine : IsSum scope.kinds got.0
  kind : is_text scope.kinds (expressions.Sum got.0) ≡ got.1
  is : fs ≡ product_forms scope.names got.0.first (addends_forms scope.names got.0.rest got.2)

numbers_fine : (kinds : Kinds) (o : Operand) (operands : List Operand) (list : List Addend) → IsNumeric kinds o → AreNumeric kinds operands → AreAddends kinds list → IsSum kinds (record { first = record { first = o; rest = operands }; rest = list }) × (is_text kinds (expressions.Sum (record { first = record { first = o; rest = operands }; rest = list })) ≡ false)
numbers_fine kinds o [] [] first numeric fine = (numeric_fine kinds o first, numeric_kind kinds o first)
numbers_fine kinds o [] (a ∷ list) first numeric fine = (((first, tt), fine), refl)
numbers_fine kinds o (x ∷ operands) list first numeric fine = (((first, numeric), fine), refl)

gives_sum : (scope : Scope) (got : Sum × Bool × Forms) (fs : Forms) → Proper scope → sum scope fs ≡ Some got → GivesSum scope got fs
unfolding sum
gives_sum scope got fs p e =
    after (operand scope fs) _ got _ e (λ o eo e. by o (gives_operand scope o fs p eo) o.1 refl e) where
      by : (o : Found) → GivesOperand scope o fs → (kind : Bool) → o.1 ≡ kind → cond kind (Some (alone o.0, true, o.2)) (sum_behind scope o.0 o.2 >>= (λ r. Some (r.0, false, r.1))) ≡ Some got → GivesSum scope got fs
      by o g true is e =
          let it : GivesSum scope (alone o.0, true, o.2) fs = record { fine = g.fine; kind = g.kind ∙ is; is = g.is } in
          subst (λ (g : Sum × Bool × Forms). GivesSum scope g fs) (some_same (alone o.0, true, o.2) got e) it
      by o g false is e =
          after (sum_behind scope o.0 o.2) _ got _ e (λ r er e.
          let h = gives_sum_behind scope o.0 r o.2 p er in
          let first : IsNumeric scope.kinds r.0.first.first = subst (IsNumeric scope.kinds) (sym h.first) (numeric_of scope.kinds o.0 g.fine (g.kind ∙ is)) in
          let n = numbers_fine scope.kinds r.0.first.first r.0.first.rest r.0.rest first h.numeric h.fine in
          let it : GivesSum scope (r.0, false, r.1) fs = record {
            fine = n.0;
            kind = n.1;
            is = g.is ∙ ap (λ (l : Forms). operand_form scope.names o.0 ∷ l) h.is ∙ ap (λ (x : Operand). operand_form scope.names x ∷ factors_forms scope.names r.0.first.rest (addends_forms scope.names r.0.rest r.1)) (sym h.first);
          } in
          subst (λ (g : Sum × Bool × Forms). GivesSum scope g fs) (some_same (r.0, false, r.1) got e) it)

-- ---- expressions

operand_no_text : (names : Names) (o : Operand) (more : Forms) → begins_text (operand_form names o ∷ more) ≡ false
operand_no_text names (Number n) more = refl
operand_no_text names (Variable k) more = refl

expression_text : (scope : Scope) (units : List ℕ) (fs rest : Forms) → begins_text fs ≡ true → text fs ≡ Some (units, rest) → expression scope fs ≡ Some (expressions.Text units, true, rest)
unfolding expression text_expression
expression_text scope units fs rest begins e = rw (begins, e) refl

expression_sum : (scope : Scope) (fs rest : Forms) (x : Sum) (kind : Bool) → begins_text fs ≡ false → sum scope fs ≡ Some (x, kind, rest) → expression scope fs ≡ Some (expressions.Sum x, kind, rest)
unfolding expression sum_expression
expression_sum scope fs rest x kind begins e = rw (begins, e) refl

pub takes_expression : (scope : Scope) (value : Expression) (more : Forms) → Proper scope → IsExpression scope.kinds value → Ends more → expression scope (expression_forms scope.names value more) ≡ Some (value, is_text scope.kinds value, more)
takes_expression scope (expressions.Text units) more p fine ends = expression_text scope units (text_forms units more) more refl (takes_text units more fine)
takes_expression scope (expressions.Sum x) more p fine ends =
    let rest : Forms = factors_forms scope.names x.first.rest (addends_forms scope.names x.rest more) in
    expression_sum scope (operand_form scope.names x.first.first ∷ rest) more x (is_text scope.kinds (expressions.Sum x)) (operand_no_text scope.names x.first.first rest) (sum_taken scope x.first.first x.first.rest x.rest more p fine ends)

-- what an expression that was read says
pub record GivesExpression (scope : Scope) (got : Expression × Bool × Forms) (fs : Forms) : Type 0 where
  pub fine : IsExpression scope.kinds got.0
  pub kind : is_text scope.kinds got.0 ≡ got.1
  pub is : fs ≡ expression_forms scope.names got.0 got.2

text_is : (scope : Scope) (got : Expression × Bool × Forms) (fs : Forms) → text_expression fs ≡ Some got → GivesExpression scope got fs
unfolding text_expression
text_is scope got fs e =
    after (text fs) _ got _ e (λ t et e.
    let g = gives_text t fs et in
    let it : GivesExpression scope (expressions.Text t.0, true, t.1) fs = record { fine = g.plain; kind = refl; is = g.is } in
    subst (λ (g : Expression × Bool × Forms). GivesExpression scope g fs) (some_same (expressions.Text t.0, true, t.1) got e) it)

sum_is : (scope : Scope) (got : Expression × Bool × Forms) (fs : Forms) → Proper scope → sum_expression scope fs ≡ Some got → GivesExpression scope got fs
unfolding sum_expression
sum_is scope got fs p e =
    after (sum scope fs) _ got _ e (λ r er e.
    let g = gives_sum scope r fs p er in
    let it : GivesExpression scope (expressions.Sum r.0, r.1, r.2) fs = record { fine = g.fine; kind = g.kind; is = g.is } in
    subst (λ (g : Expression × Bool × Forms). GivesExpression scope g fs) (some_same (expressions.Sum r.0, r.1, r.2) got e) it)

pub gives_expression : (scope : Scope) (got : Expression × Bool × Forms) (fs : Forms) → Proper scope → expression scope fs ≡ Some got → GivesExpression scope got fs
unfolding expression
gives_expression scope got fs p e = by (begins_text fs) e where
  by : (t : Bool) → cond t (text_expression fs) (sum_expression scope fs) ≡ Some got → GivesExpression scope got fs
  by true e = text_is scope got fs e
  by false e = sum_is scope got fs p e
