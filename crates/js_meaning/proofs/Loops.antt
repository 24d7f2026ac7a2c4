-- The turns that are left of a loop.
use Rattle.std.proofs.Common.{◌≡◌, ℕ, suc, ◌+◌, ◌-◌, ◌<◌, ◌≤◌, ◌≢◌, ap, refl, ◌∙◌, arith}
use Rattle.meanings.specs.Act.{Fin, Spent, Cut, Deep, turns, then_on, turn_or}
use Rattle.js_meaning.specs.declared.state.State.{State}
use Rattle.js_meaning.specs.declared.state.Jump.{Jump}
use Rattle.js_meaning.specs.declared.state.Jump.TheVariants.{Stop}
use Rattle.js_meaning.specs.declared.state.Stop.TheVariants.{Memory}
use Rattle.js_meaning.specs.Machine.{Normal, Gives, Leaves, Threw, Node, Ending, Starts, Out, Done, Ends, NoSteps, chain, normal_out, loop_out, again, jumps, turns_out}

-- what follows a turn that ended normally
abbrev pub further : Starts → ℕ → Node → Unit {0} → State → Out (Unit {0})
further b f x u s = turns_out b f x s

by_end : (b : Starts) (f : ℕ) (x : Node) (r : Ending) → loop_out (then_on r (λ r c n o. turn_or (again x r) (λ y. turns b f y (again x) c n o) (Fin r c n o))) ≡ chain (normal_out r) (further b f x)
by_end b f x (Fin (Gives v) c n o) = refl
by_end b f x (Fin Normal c n o) = refl
by_end b f x (Fin (Leaves l) c n o) = refl
by_end b f x (Fin (Threw t) c n o) = refl
by_end b f x (Spent o) = refl
by_end b f x (Cut h o) = refl
by_end b f x (Deep o) = refl

pub next_turn : (b : Starts) (n at : ℕ) (x : Node) (s : State) → at < n → turns_out b (n - at) x s ≡ chain (normal_out (b x s.realm s.steps s.output)) (further b (n - (at + 1)) x)
next_turn b n at x s below = let e : n - at ≡ suc (n - (at + 1)) = omega arith in ap (λ k. turns_out b k x s) e ∙ by_end b (n - (at + 1)) x (b x s.realm s.steps s.output)

pub turn_ends : (b : Starts) (n at : ℕ) (x : Node) (s new : State) (u : Unit {0}) (out : Out (Unit {0})) → at < n → out ≡ turns_out b (n - at) x s → normal_out (b x s.realm s.steps s.output) ≡ Done u new → out ≡ turns_out b (n - (at + 1)) x new
turn_ends b n at x s new u out below is done = is ∙ next_turn b n at x s below ∙ ap (λ o. chain o (further b (n - (at + 1)) x)) done

pub turn_leaves : (b : Starts) (n at : ℕ) (x : Node) (s new : State) (j : Jump) (out : Out (Unit {0})) → at < n → out ≡ turns_out b (n - at) x s → (j ≢ Stop Memory → normal_out (b x s.realm s.steps s.output) ≡ Ends (jumps j new)) → j ≢ Stop Memory → out ≡ Ends (jumps j new)
turn_leaves b n at x s new j out below is left some = is ∙ next_turn b n at x s below ∙ ap (λ o. chain o (further b (n - (at + 1)) x)) (left some)

pub no_more_turns : (b : Starts) (n at : ℕ) (x : Node) (s : State) → n ≤ at → turns_out b (n - at) x s ≡ Ends (NoSteps s.output)
no_more_turns b n at x s done = let e : n - at ≡ 0 = omega arith in ap (λ k. turns_out b k x s) e
