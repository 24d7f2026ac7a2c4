-- What a part does is what its acts do.
use Rattle.std.specs.Prelude.{◌≡◌, ℕ, Result}
use Rattle.std.proofs.Common.{refl, sym, ap, ◌∙◌}
use Rattle.meanings.specs.Act.{Act, fin, quit, sub, loop, Res, Fin, Spent, Cut, Deep, then_on, turns, go, bind}
use Rattle.meanings.specs.Laws.{go_bind}
use Rattle.js_meaning.specs.declared.state.Realm.{Realm}
use Rattle.js_store.specs.declared.value.Value.{Value}
use Rattle.js_meaning.specs.declared.state.Leave.{Leave as Leaving}
use Rattle.js_meaning.specs.declared.state.State.{State}
use Rattle.js_meaning.specs.Machine.{Comp, Normal, Gives, Leaves, Threw, A, Texts, Ending, Starts, Left', NoSteps, Halted, NoDepth, Out, Done, Ends, chain, shut, over, value_out, normal_out, loop_out, with_value, with_normal, after_loop, attempted, caught}

-- acts that go on, after a part, with these
abbrev pub Acts : Type 0 → Type 0
Acts T = T → Realm → A

abbrev pub goes_on : {T : Type 0} → Starts → Acts T → T → State → Ending
goes_on b k a s = go b (k a s.realm) s.steps s.output

pub value_goes : (b : Starts) (r : Ending) (k : Acts Value) → then_on r (λ r c n o. go b (with_value r c k) n o) ≡ shut (value_out r) (goes_on b k)
value_goes b (Fin (Gives v) c n o) k = refl
value_goes b (Fin Normal c n o) k = refl
value_goes b (Fin (Leaves l) c n o) k = refl
value_goes b (Fin (Threw t) c n o) k = refl
value_goes b (Spent o) k = refl
value_goes b (Cut h o) k = refl
value_goes b (Deep o) k = refl

pub normal_goes : (b : Starts) (r : Ending) (k : Acts (Unit {0})) → then_on r (λ r c n o. go b (with_normal r c k) n o) ≡ shut (normal_out r) (goes_on b k)
normal_goes b (Fin (Gives v) c n o) k = refl
normal_goes b (Fin Normal c n o) k = refl
normal_goes b (Fin (Leaves l) c n o) k = refl
normal_goes b (Fin (Threw t) c n o) k = refl
normal_goes b (Spent o) k = refl
normal_goes b (Cut h o) k = refl
normal_goes b (Deep o) k = refl

pub loop_goes : (b : Starts) (r : Ending) (k : Acts (Unit {0})) → then_on r (λ r c n o. go b (after_loop r c) n o) ≡ shut (loop_out r) (goes_on b k)
loop_goes b (Fin (Gives v) c n o) k = refl
loop_goes b (Fin Normal c n o) k = refl
loop_goes b (Fin (Leaves l) c n o) k = refl
loop_goes b (Fin (Threw t) c n o) k = refl
loop_goes b (Spent o) k = refl
loop_goes b (Cut h o) k = refl
loop_goes b (Deep o) k = refl

pub chain_goes : {T U : Type 0} (b : Starts) (p : Out T) (f : T → State → Out U) (g : T → State → Ending) (k : U → State → Ending) → ((a : T) (s : State) → g a s ≡ shut (f a s) k) → shut p g ≡ shut (chain p f) k
chain_goes b (Done a s) f g k h = h a s
chain_goes b (Ends r) f g k h = refl

caught_goes : (b : Starts) (p : Out (Unit {0})) (k : Acts (Result (Unit {0}) Leaving)) → then_on (shut p (λ _ s. over Normal s)) (λ r c n o. go b (caught r c k) n o) ≡ shut (attempted p) (goes_on b k)
caught_goes b (Done a s) k = refl
caught_goes b (Ends (Left' l c n o)) k = refl
caught_goes b (Ends (NoSteps o)) k = refl
caught_goes b (Ends (Halted h o)) k = refl
caught_goes b (Ends (NoDepth o)) k = refl

pub attempt_goes : (b : Starts) (a : A) (p : Out (Unit {0})) (k : Acts (Result (Unit {0}) Leaving)) (n : ℕ) (o : Texts) → go b a n o ≡ shut p (λ _ s. over Normal s) → go b (bind a (λ r c. caught r c k)) n o ≡ shut (attempted p) (goes_on b k)
attempt_goes b a p k n o h =
    go_bind b a (λ r c. caught r c k) n o
    ∙ ap (λ r. then_on r (λ r c n o. go b (caught r c k) n o)) h
    ∙ caught_goes b p k
