-- The loads that are left.
use Rattle.std.proofs.Common.{◌≡◌, ℕ, suc, ◌+◌, ◌-◌, ◌<◌, ◌≤◌, List, Bool, true, false, if◌then◌else◌, ap, refl, ◌∙◌, arith}
use Rattle.js_tree.specs.declared.tree.NamedTree.{NamedTree}
use Rattle.js_meaning.specs.declared.state.State.{State}
use Rattle.js_meaning.specs.Machine.{Out, Done, Ends, chain}
use Rattle.js_meaning.specs.Prog.{pure}
use Rattle.js_meaning.specs.Files.{event, events}
use Rattle.js_meaning.specs.Nests.{at}

abbrev pub then_more : List NamedTree → ℕ → ℕ → Bool → State → Out (Unit {0})
then_more files d most true s = at (events files most) d s
then_more files d most false s = Done tt s

by_truth : (files : List NamedTree) (d most : ℕ) (p : Out Bool) → chain p (λ more s. at (if more then events files most else pure tt) d s) ≡ chain p (then_more files d most)
by_truth files d most (Done true s) = refl
by_truth files d most (Done false s) = refl
by_truth files d most (Ends r) = refl

unrolled : (files : List NamedTree) (d most : ℕ) (s : State) → at (events files (suc most)) d s ≡ chain (at (event files) d s) (then_more files d most)
unfolding events
unrolled files d most s = by_truth files d most (at (event files) d s)

pub more_events : (files : List NamedTree) (d n at' : ℕ) (s : State) → at' < n → at (events files (n - at')) d s ≡ chain (at (event files) d s) (then_more files d (n - (at' + 1)))
more_events files d n at' s below = let e : n - at' ≡ suc (n - (at' + 1)) = omega arith in ap (λ k. at (events files k) d s) e ∙ unrolled files d (n - (at' + 1)) s

none_left : (files : List NamedTree) (d : ℕ) (s : State) → at (events files 0) d s ≡ chain (at (event files) d s) (λ more s. Done tt s)
unfolding events
none_left files d s = refl

pub last_event : (files : List NamedTree) (d n at' : ℕ) (s : State) → n ≤ at' → at (events files (n - at')) d s ≡ chain (at (event files) d s) (λ more s. Done tt s)
last_event files d n at' s done = let e : n - at' ≡ 0 = omega arith in ap (λ k. at (events files k) d s) e ∙ none_left files d s
