-- A whole run.
use Rattle.std.proofs.Common.{◌≡◌, ◌≢◌, ℕ, zero, suc, ◌+◌, ◌-◌, List, [], ◌∷◌, Option, Some, None, Result, Ok, Err, length, slice_get, refl, sym, ap, ◌∙◌, subst, arith}
use Rattle.code_units.specs.declared.ends.RunEnd.{RunEnd}
use Rattle.code_units.specs.declared.ends.Shown.{Shown}
use Rattle.code_units.specs.declared.ends.End.{End}
use Rattle.meanings.specs.Act.{fin}
use Rattle.js_tree.specs.declared.tree.NamedTree.{NamedTree}
use Rattle.js_store.specs.declared.value.Value.{Value}
use Rattle.js_meaning.specs.declared.state.Spot.{Spot}
use Rattle.js_meaning.specs.declared.state.Jump.{Jump}
use Rattle.js_meaning.specs.declared.state.Jump.TheVariants.{Stop, Leave}
use Rattle.js_meaning.specs.declared.state.Leave.TheVariants.{Break, Return, Throw}
use Rattle.js_meaning.specs.declared.state.Stop.TheVariants.{Memory, Range, NoRule, Steps, Depth}
use Rattle.js_meaning.specs.declared.state.State.{State}
use Rattle.js_meaning.specs.Machine.{Threw, Starts, Out, Done, Ends, chain, shut, over, attempted, jumps}
use Rattle.js_meaning.specs.Prog.{Prog, ◌>>=◌, pure, or_stuck}
use Rattle.js_meaning.specs.Stored.{shown, shown_as}
use Rattle.js_meaning.specs.Conclusions.{threw, ends_as, IsEnd}
use Rattle.js_meaning.specs.Files.{runs, main, whole, uncaught, all, begins}
use Rattle.js_meaning.specs.Meaning.{to, run_end, js_to}
use Rattle.js_meaning.specs.Nests.{IsOutcome, at}

-- ---- the main file

main_from : (before : ℕ) (files : List NamedTree) (named : NamedTree) → slice_get files (length files - 1) ≡ Some named → main before files ≡ runs (before + (length files - 1)) named
main_from before [] named e = cc
main_from before (f ∷ []) named e = let z : before ≡ before + 0 = omega arith in ap (λ k. runs k f) z ∙ ap (runs (before + 0)) (let g : f ≡ named = cc e in g)
main_from before (f ∷ g ∷ files) named e = main_from (before + 1) (g ∷ files) named (let z : suc (length (g ∷ files) - 1) ≡ length (f ∷ g ∷ files) - 1 = omega arith in ap (slice_get (f ∷ g ∷ files)) z ∙ e) ∙ (let z : before + 1 + (length (g ∷ files) - 1) ≡ before + (length (f ∷ g ∷ files) - 1) = omega arith in ap (λ k. runs k named) z)

pub last_runs : (files : List NamedTree) (last : ℕ) (named : NamedTree) → last ≡ length files - 1 → slice_get files last ≡ Some named → main 0 files ≡ runs last named
last_runs files last named l e =
    main_from 0 files named (ap (slice_get files) (sym l) ∙ e) ∙ (let z : 0 + (length files - 1) ≡ last = omega (arith, l) in ap (λ k. runs k named) z)

-- ---- how it ends

abbrev shows : Starts → Out (Unit {0}) → RunEnd
shows b p = run_end (shut (chain (attempted p) (λ o. (uncaught o).run b)) (λ r s. over r s))

abbrev ended : State → End → RunEnd
ended s end = record { output = s.output; end = end }

throws_as : (b : Starts) (s : State) (from : Spot) (t : Option Shown) → run_end (shut ((or_stuck from t >>= (λ x. pure (Threw x))).run b s) (λ r s. over r s)) ≡ ended s (threw from t)
throws_as b s from (Some t) = refl
throws_as b s from None = refl

thrown : (b : Starts) (s : State) (v : Value) (from : Spot) → run_end (shut ((shown from v >>= (λ x. pure (Threw x))).run b s) (λ r s. over r s)) ≡ ended s (threw from (shown_as s.realm.store v))
unfolding shown
thrown b s v from = throws_as b s from (shown_as s.realm.store v)

stops : (b : Starts) (j : Jump) (s : State) → j ≢ Stop Memory → shows b (Ends (jumps j s)) ≡ ended s (ends_as s.realm.store (Err j))
stops b (Leave (Throw v from)) s h = thrown b s v from
stops b (Leave (Return v)) s h = refl
stops b (Leave (Break label)) s h = refl
stops b (Stop Steps) s h = refl
stops b (Stop Range) s h = refl
stops b (Stop (NoRule spot)) s h = refl
stops b (Stop Depth) s h = refl
stops b (Stop Memory) s h = absurd (h refl)

shows_as : (b : Starts) (p : Out (Unit {0})) (r : Result (Unit {0}) Jump) (s : State) → IsOutcome p r s → r ≢ Err (Stop Memory) → shows b p ≡ ended s (ends_as s.realm.store r)
shows_as b p (Ok u) s is h = ap (shows b) is
shows_as b p (Err j) s is h = ap (shows b) (is (λ e. h (ap Err e))) ∙ stops b j s (λ e. h (ap Err e))

-- what a run begins with
abbrev pub fresh : List NamedTree → List ℕ → ℕ → State
fresh files order steps = record { steps = steps; realm = begins files order; output = [] }

run_shows : (files : List NamedTree) (order : List ℕ) (d steps : ℕ) → js_to files d order steps ≡ shows (to d) (at (whole files steps) d (fresh files order steps))
unfolding js_to all
run_shows files order d steps = ap run_end ((all files steps).same (to d) (fresh files order steps) (λ r c. fin r c))

pub whole_run : (files : List NamedTree) (order : List ℕ) (d steps : ℕ) (r : Result (Unit {0}) Jump) (new : State) (end : End) → IsOutcome (at (whole files steps) d (fresh files order steps)) r new → IsEnd new.realm.store r end → record { output = new.output; end = end } ≡ js_to files d order steps
whole_run files order d steps r new end is ends =
    ap (ended new) ends.is ∙ sym (run_shows files order d steps ∙ shows_as (to d) (at (whole files steps) d (fresh files order steps)) r new is ends.memory)
