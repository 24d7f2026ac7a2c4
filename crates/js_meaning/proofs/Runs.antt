-- The laws of runs.
use Rattle.std.proofs.Common.{◌≡◌, ◌≢◌, ℕ, zero, suc, ◌<◌, ◌≤◌, List, [], Option, Some, None, Bool, true, false, if◌then◌else◌, refl, sym, ap, ◌∙◌, subst, arith}
use Rattle.code_units.specs.declared.ends.End.TheVariants as ends
use Rattle.meanings.specs.Act.{fin, Fin, Spent, Cut, Deep, Act, begin, go, means}
use Rattle.meanings.specs.Runs.{Run, Over, IsMeaning, AddsOne, shown}
use Rattle.meanings.specs.Ends.{Ending as Concluded, Halted as Halts, ProgramRun, run_end_of}
use Rattle.meanings.proofs.Acts.{LeftOver, Stepped, Alike, go_same, deeper}
use Rattle.meanings.proofs.Further.{is_meaning}
use Rattle.meanings.proofs.Deeper.{Same, means_or_deep}
use Rattle.js_tree.specs.declared.tree.NamedTree.{NamedTree}
use Rattle.js_store.specs.Load.{Load}
use Rattle.js_store.specs.Host as h
use Rattle.js_store.specs.declared.value.Value.{Value}
use Rattle.js_meaning.specs.declared.state.State.{State}
use Rattle.js_meaning.specs.Machine.{Node, Comp, Normal, Gives, Leaves, Threw, A, Ending, Starts, Out, Done, Ends, chain, shut, over, attempted, value_out}
use Rattle.js_meaning.specs.Prog.{Prog, ◌>>=◌, ◌>>◌, pure, gives}
use Rattle.js_meaning.specs.Stored.{completes}
use Rattle.js_meaning.specs.Files.{main, whole, uncaught, all, begins, completed, all_wanted, then_completed, event, events}
use Rattle.js_meaning.specs.Meaning.{Js, concluded, acts_of, js, run_end, to, js_to}
use Rattle.js_meaning.specs.Laws.{RunsAreOfAMeaning, MeantOrTooDeep}
use Rattle.js_meaning.proofs.Whole.{fresh}

-- ---- a run that isn't too deep

same_end : (p q : Ending) → Same p q → (run_end p).end ≢ ends.Deep → run_end p ≡ run_end_of (shown concluded Halts q)
same_end (Fin r s n o) q e d = sym (ap (λ q. run_end_of (shown concluded Halts q)) e)
same_end (Spent o) q e d = sym (ap (λ q. run_end_of (shown concluded Halts q)) e)
same_end (Cut why o) q e d = sym (ap (λ q. run_end_of (shown concluded Halts q)) e)
same_end (Deep o) q e d = absurd (d refl)

pub meant_or_too_deep : MeantOrTooDeep
unfolding js_to to
meant_or_too_deep files order depth steps d =
    same_end (go (begin Js depth) (acts_of files order steps) steps []) (means Js (acts_of files order steps) steps []) (means_or_deep Js depth (acts_of files order steps) steps []) d

-- ---- no part gives steps back, and a call takes one

abbrev out_steps : {T : Type 0} → Out T → ℕ
out_steps (Done a s) = s.steps
out_steps (Ends r) = 0

done_then : {T U : Type 0} (p : Out T) (f : T → State → Out U) (u : U) (s : State) → chain p f ≡ Done u s → (a : T) × (t : State) × (p ≡ Done a t) × (f a t ≡ Done u s)
done_then (Done a t) f u s e = (a, t, refl, e)
done_then (Ends r) f u s e = absurd (let no : ⊥ = cc e in no)

chain_same : {T U : Type 0} (p : Out T) (f g : T → State → Out U) → ((a : T) (s : State) → p ≡ Done a s → f a s ≡ g a s) → chain p f ≡ chain p g
chain_same (Done a s) f g h = h a s refl
chain_same (Ends r) f g h = refl

module _ (N : ℕ) where
  abbrev b : Starts
  b = begin Js N

  steps_left : {T : Type 0} (p : Prog T) (s : State) (a : T) (t : State) → s.steps ≤ N → p.run b s ≡ Done a t → t.steps ≤ s.steps
  steps_left {T} p s a t le e =
      let left = (go_same N b (begin Js (suc N)) (deeper Js N) (p.acts s.realm (λ x c. fin Normal c)) s.steps s.output le).1 in
      subst (LeftOver s.steps) (p.same b s (λ x c. fin Normal c) ∙ ap (λ q. shut q (λ x u. Fin Normal u.realm u.steps u.output)) e) left

  value_steps : (n : ℕ) (p : Ending) (v : Value) (t : State) → Stepped n p → value_out p ≡ Done v t → t.steps < n
  value_steps n (Fin (Gives w) c m o) v t lt e = let z : m ≡ t.steps = ap out_steps e in omega (arith, z, lt)
  value_steps n (Fin Normal c m o) v t lt e = absurd (let no : ⊥ = cc e in no)
  value_steps n (Fin (Leaves l) c m o) v t lt e = absurd (let no : ⊥ = cc e in no)
  value_steps n (Fin (Threw w) c m o) v t lt e = absurd (let no : ⊥ = cc e in no)
  value_steps n (Spent o) v t lt e = absurd (let no : ⊥ = cc e in no)
  value_steps n (Cut why o) v t lt e = absurd (let no : ⊥ = cc e in no)
  value_steps n (Deep o) v t lt e = absurd lt

  gives_step : (x : Node) (s : State) (v : Value) (t : State) → s.steps ≤ N → (gives x).run b s ≡ Done v t → t.steps < s.steps
  gives_step x s v t le e = value_steps s.steps (b x s.realm s.steps s.output) v t ((deeper Js N).steps x s.realm s.steps s.output le) e

  -- an event that there was took a step
  completed_steps : (files : List NamedTree) (load : Load) (s : State) (t : State) → s.steps ≤ N → (completed files load).run b s ≡ Done tt t → t.steps < s.steps
  unfolding completed
  completed_steps files load s t le e =
      let first = done_then _ _ tt t e in
      let second = done_then _ _ tt t first.3 in
      let kept = steps_left (all_wanted files _ load.names) s first.0 first.1 le first.2 in
      let took = gives_step _ first.1 second.0 second.1 (omega (arith, le, kept)) second.2 in
      let last : second.1.steps ≡ t.steps = ap out_steps second.3 in
      omega (arith, kept, took, last)

  then_steps : (files : List NamedTree) (l : Option Load) (s : State) (t : State) → s.steps ≤ N → (then_completed files l).run b s ≡ Done true t → t.steps < s.steps
  then_steps files None s t le e = absurd (let no : ⊥ = cc e in no)
  then_steps files (Some load) s t le e =
      let first = done_then ((completed files load).run b s) (λ _ u. Done true u) true t e in
      let took = completed_steps files load s first.1 le first.2 in
      let last : first.1.steps ≡ t.steps = ap out_steps first.3 in
      omega (arith, took, last)

  event_steps : (files : List NamedTree) (s : State) (t : State) → s.steps ≤ N → (event files).run b s ≡ Done true t → t.steps < s.steps
  unfolding event completes
  event_steps files s t le e = then_steps files (h.next_load s.realm.host) (record s { realm = record s.realm { host = h.complete s.realm.host } }) t le e

  -- more loads than steps never come
  abbrev next_events : List NamedTree → ℕ → Bool → State → Out (Unit {0})
  next_events files most more s = (if more then events files most else pure tt).run b s

  same_next : (files : List NamedTree) (f g : ℕ) (s : State) → ((t : State) → (event files).run b s ≡ Done true t → (events files f).run b t ≡ (events files g).run b t) → (more : Bool) (t : State) → (event files).run b s ≡ Done more t → next_events files f more t ≡ next_events files g more t
  same_next files f g s again true t e = again t e
  same_next files f g s again false t e = refl

  no_next : (files : List NamedTree) (g : ℕ) (s : State) → s.steps ≡ 0 → s.steps ≤ N → (more : Bool) (t : State) → (event files).run b s ≡ Done more t → Done tt t ≡ next_events files g more t
  no_next files g s z le true t e = absurd (let took = event_steps files s t le e in let no : ⊥ = omega (arith, z, took) in no)
  no_next files g s z le false t e = refl

  same_events : (files : List NamedTree) (f : ℕ) (s : State) → s.steps ≤ f → s.steps ≤ N → (events files f).run b s ≡ (events files (suc f)).run b s
  unfolding events
  same_events files zero s few le = let z : s.steps ≡ 0 = omega (arith, few) in chain_same ((event files).run b s) (λ _ t. Done tt t) (next_events files 0) (no_next files 0 s z le)
  same_events files (suc f) s few le =
      chain_same ((event files).run b s) (next_events files f) (next_events files (suc f))
      (same_next files f (suc f) s (λ t e. let took = event_steps files s t le e in same_events files f t (omega (arith, few, took)) (omega (arith, le, took))))

  same_whole : (files : List NamedTree) (f : ℕ) (s : State) → s.steps ≤ f → s.steps ≤ N → (whole files f).run b s ≡ (whole files (suc f)).run b s
  unfolding whole
  same_whole files f s few le =
      chain_same ((main 0 files).run b s) (λ _ t. (events files f).run b t) (λ _ t. (events files (suc f)).run b t)
      (λ u t e. let kept = steps_left (main 0 files) s u t le e in same_events files f t (omega (arith, few, kept)) (omega (arith, le, kept)))

  same_all : (files : List NamedTree) (f : ℕ) (s : State) → s.steps ≤ f → s.steps ≤ N → (all files f).run b s ≡ (all files (suc f)).run b s
  unfolding all
  same_all files f s few le = ap (λ p. chain (attempted p) (λ o. (uncaught o).run b)) (same_whole files f s few le)

same_means : (files : List NamedTree) (order : List ℕ) (n : ℕ) → means Js (acts_of files order n) n [] ≡ means Js (acts_of files order (suc n)) n []
same_means files order n =
    (all files n).same (begin Js n) (fresh files order n) (λ r c. fin r c)
    ∙ ap (λ p. shut p (λ r s. over r s)) (same_all n files n (fresh files order n) (omega arith) (omega arith))
    ∙ sym ((all files (suc n)).same (begin Js n) (fresh files order n) (λ r c. fin r c))

-- ---- a further step

abbrev one_more : List NamedTree → List ℕ → ℕ → ℕ → ProgramRun
one_more files order most n = shown concluded Halts (means Js (acts_of files order most) n [])

same_run : (files : List NamedTree) (order : List ℕ) (n : ℕ) → js files order n ≡ one_more files order (suc n) n
same_run files order n = ap (shown concluded Halts) (same_means files order n)

pub runs_are_of_a_meaning : RunsAreOfAMeaning
runs_are_of_a_meaning files order = record {
  starts = (is_meaning Js concluded Halts (acts_of files order 0)).starts;
  adds = λ n. subst (λ r. AddsOne r.texts (js files order (suc n)).texts) (sym (same_run files order n)) ((is_meaning Js concluded Halts (acts_of files order (suc n))).adds n);
  stays = λ n e over. (is_meaning Js concluded Halts (acts_of files order (suc n))).stays n e (subst (λ r. r.end ≡ Over e) (same_run files order n) over) ∙ sym (same_run files order n);
}
