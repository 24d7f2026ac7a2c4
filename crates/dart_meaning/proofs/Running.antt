-- The runner's steps.
use Rattle.std.proofs.Common.{◌≡◌, ℕ, zero, suc, ◌+◌, ◌-◌, ◌<◌, ◌≤◌, false, cond, List, [], ◌∷◌, ◌++◌, Option, Some, None, length, get_or, drop, refl, sym, ap, ◌∙◌, arith, drop-cons, add-one}
use Rattle.std.specs.Prelude.{nat_lt, ◌==◌}
use Rattle.std.proofs.lemmas.Bool.{false_from_ne_true, eqb-true, ltb-true}
use Rattle.std.proofs.lemmas.List.{drop_all}
use Rattle.meanings.specs.Act.{fin, sub, Fin, Spent, Cut, Deep, ResOf, then_on, means}
use Rattle.meanings.specs.Runs.{Over, shown}
use Rattle.meanings.specs.Ends.{Done, Halted}
use Rattle.meanings.proofs.Acts.{means_none, means_sub, means_bind}
use Rattle.dart_meaning.specs.declared.program.Statement.{Statement as Stmt}
use Rattle.dart_meaning.specs.declared.program.Statement.TheVariants as statement
use Rattle.dart_meaning.specs.Meaning.{Datum, Store, Main, Statement, Expression, Print, Normal, First, text_of, expression_value, valued, prints, declares, statements, dart}
use Rattle.dart_meaning.specs.Runner.{printed, kept, turn}

fins : (p : ResOf First) → then_on p (λ r s m o. means First (fin r s) m o) ≡ p
fins (Fin r s n o) = refl
fins (Spent o) = refl
fins (Cut why o) = refl
fins (Deep o) = refl

-- an expression has begun, and what is behind it goes on
valued_printed : (value : Option Datum) (store : Store) (n : ℕ) (o : List (List ℕ)) → then_on (means First (valued value store) n o) (λ r s m o'. means First (prints r s) m o') ≡ printed value store (suc (suc n)) o
valued_printed None store n o = refl
valued_printed (Some v) store zero o = means_none First (Print (text_of v)) store fin o
valued_printed (Some v) store (suc n) o =
    let other : (suc (suc (suc n)) == 2) ≡ false = false_from_ne_true _ (λ t. let e : suc (suc (suc n)) ≡ 2 = eqb-true _ _ t in absurd (let never : ⊥ = omega (arith, e) in never)) in
    let steps : n ≡ suc (suc (suc n)) - 3 = omega arith in
    means_sub First (Print (text_of v)) store fin n o
    ∙ ap (λ m. Fin Normal store m (o ++ text_of v ∷ [])) steps
    ∙ sym (ap (λ t. cond t (Spent o) (Fin Normal store (suc (suc (suc n)) - 3) (o ++ text_of v ∷ []))) other)

valued_kept : (value : Option Datum) (store : Store) (n : ℕ) (o : List (List ℕ)) → then_on (means First (valued value store) n o) (λ r s m o'. means First (declares r s) m o') ≡ kept value store (suc (suc n)) o
valued_kept None store n o = refl
valued_kept (Some v) store n o = let steps : n ≡ suc (suc n) - 2 = omega arith in ap (λ m. Fin Normal (store ++ v ∷ []) m o) steps

-- what the steps of a statement come to

not_below : (n : ℕ) → nat_lt (suc (suc n)) 2 ≡ false
not_below n = false_from_ne_true _ (λ t. let e : suc (suc n) < 2 = ltb-true _ _ t in absurd (let never : ⊥ = omega (arith, e) in never))

pub statement_means : (s : Stmt) (store : Store) (n : ℕ) (o : List (List ℕ)) → means First (sub (Statement s) store fin) n o ≡ turn s store n o
statement_means (statement.Print value) store zero o = means_none First (Statement (statement.Print value)) store fin o
statement_means (statement.Print value) store (suc zero) o =
    means_sub First (Statement (statement.Print value)) store fin 0 o
    ∙ fins (means First (sub (Expression value) store prints) 0 o)
    ∙ means_none First (Expression value) store prints o
statement_means (statement.Print value) store (suc (suc n)) o =
    means_sub First (Statement (statement.Print value)) store fin (suc n) o
    ∙ fins (means First (sub (Expression value) store prints) (suc n) o)
    ∙ means_sub First (Expression value) store prints n o
    ∙ valued_printed (expression_value store value) store n o
    ∙ sym (ap (λ t. cond t (Spent o) (printed (expression_value store value) store (suc (suc n)) o)) (not_below n))
statement_means (statement.Declare name value) store zero o = means_none First (Statement (statement.Declare name value)) store fin o
statement_means (statement.Declare name value) store (suc zero) o =
    means_sub First (Statement (statement.Declare name value)) store fin 0 o
    ∙ fins (means First (sub (Expression value) store declares) 0 o)
    ∙ means_none First (Expression value) store declares o
statement_means (statement.Declare name value) store (suc (suc n)) o =
    means_sub First (Statement (statement.Declare name value)) store fin (suc n) o
    ∙ fins (means First (sub (Expression value) store declares) (suc n) o)
    ∙ means_sub First (Expression value) store declares n o
    ∙ valued_kept (expression_value store value) store n o
    ∙ sym (ap (λ t. cond t (Spent o) (kept (expression_value store value) store (suc (suc n)) o)) (not_below n))

-- one statement, and then those behind it
pub run_next : (program : List Stmt) (i : ℕ) (d : Stmt) (store : Store) (n : ℕ) (o : List (List ℕ)) (p : ResOf First) → i < length program → turn (get_or program i d) store n o ≡ p → means First (statements (drop i program) store) n o ≡ then_on p (λ r s m o'. means First (statements (drop (i + 1) program) s) m o')
run_next program i d store n o p lt e =
    rw (add-one, drop-cons program i d lt) (means_bind First (sub (Statement (get_or program i d)) store fin) (λ _ s. statements (drop (suc i) program) s) n o
    ∙ ap (λ p. then_on p (λ r s m o'. means First (statements (drop (suc i) program) s) m o')) (statement_means (get_or program i d) store n o ∙ e))

-- the call of main, and then the statements
run_begins : (program : List Stmt) (order : List ℕ) (steps : ℕ) (p : ResOf First) → 0 < steps → means First (statements program []) (steps - 1) [] ≡ p → dart program order steps ≡ shown (λ _. Done) Halted p
run_begins program order zero p lt e = absurd (let never : ⊥ = omega arith in never)
run_begins program order (suc steps) p lt e =
    let k : steps ≡ suc steps - 1 = omega arith in
    ap (shown (λ _. Done) Halted) (means_sub First (Main program) [] fin steps [] ∙ fins (means First (statements program []) steps []) ∙ ap (λ m. means First (statements program []) m []) k ∙ e)

pub run_none : (program : List Stmt) (order : List ℕ) (steps : ℕ) (p : ResOf First) → steps ≡ 0 → p ≡ Spent [] → dart program order steps ≡ shown (λ _. Done) Halted p
run_none program order steps p none spent =
    ap (shown (λ _. Done) Halted) (ap (λ n. means First (sub (Main program) [] fin) n []) none ∙ means_none First (Main program) [] fin [] ∙ sym spent)

-- a statement that ends the run
pub run_stops : (program : List Stmt) (order : List ℕ) (steps : ℕ) (store : Store) (texts : List (List ℕ)) (i left : ℕ) (item : Stmt) (p : ResOf First) → 0 < steps → i < length program → item ≡ get_or program i item → means First (statements (drop i program) store) left texts ≡ means First (statements program []) (steps - 1) [] → turn item store left texts ≡ p → dart program order steps ≡ shown (λ _. Done) Halted (then_on p (λ r s m o'. means First (statements (drop (i + 1) program) s) m o'))
run_stops program order steps store texts i left item p some lt is before stops =
    run_begins program order steps _ some (sym before ∙ run_next program i item store left texts p lt (ap (λ s. turn s store left texts) (sym is) ∙ stops))

-- all statements have ended
pub run_ends : (program : List Stmt) (order : List ℕ) (steps : ℕ) (store : Store) (texts : List (List ℕ)) (i left : ℕ) → 0 < steps → length program ≤ i → means First (statements (drop i program) store) left texts ≡ means First (statements program []) (steps - 1) [] → dart program order steps ≡ record { texts = texts; end = Over Done }
run_ends program order steps store texts i left some all before =
    let done : ResOf First = Fin Normal store left texts in
    run_begins program order steps done some (sym before ∙ ap (λ p. means First (statements p store) left texts) (drop_all i program all))
