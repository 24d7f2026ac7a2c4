-- A part of a run: its acts, which go on with what it gives, and what it does, which is what its acts do by how it is
-- made.
use Rattle.std.specs.Prelude.{◌≡◌, ℕ, List, Option, Some, None, Result}
use Rattle.std.proofs.Common.{refl, ◌∙◌}
use Rattle.meanings.specs.Act.{fin, quit, sub, loop, turns, go, bind, Halt, Left, Stuck}
use Rattle.js_store.specs.Names.{Name}
use Rattle.js_meaning.specs.declared.state.Realm.{Realm}
use Rattle.js_store.specs.declared.value.Value.{Value}
use Rattle.js_tree.specs.declared.tree.JsStmt.{JsStmt}
use Rattle.js_meaning.specs.declared.state.Spot.{Spot}
use Rattle.js_meaning.specs.declared.state.Around.{Around}
use Rattle.js_meaning.specs.declared.state.Callee.{Callee}
use Rattle.js_meaning.specs.declared.state.Leave.{Leave as Leaving}
use Rattle.js_meaning.specs.declared.state.State.{State}
use Rattle.js_meaning.specs.Machine.{Normal, Leaves, Node, Statement, Turn, Call, A, Starts, Left', Halted, Out, Done, Ends, chain, shut, value_out, normal_out, loop_out, with_value, with_normal, after_loop, again, attempted, caught, turns_out}
use Rattle.js_meaning.specs.Steps.{Acts, goes_on, value_goes, normal_goes, loop_goes, chain_goes, attempt_goes}

pub record Prog (T : Type 0) : Type 0 where
  pub acts : Realm → Acts T → A
  pub run : Starts → State → Out T
  pub same : (b : Starts) (s : State) (k : Acts T) → go b (acts s.realm k) s.steps s.output ≡ shut (run b s) (goes_on b k)

infixl 10 ◌>>=◌
abbrev pub ◌>>=◌ : {T U : Type 0} → Prog T → (T → Prog U) → Prog U
p >>= f = record {
  acts = λ c k. p.acts c (λ a c'. (f a).acts c' k);
  run = λ b s. chain (p.run b s) (λ a. (f a).run b);
  same = λ b s k. p.same b s (λ a c'. (f a).acts c' k) ∙ chain_goes b (p.run b s) (λ a. (f a).run b) (goes_on b (λ a c'. (f a).acts c' k)) (goes_on b k) (λ a s'. (f a).same b s' k);
}

infixl 10 ◌>>◌
abbrev pub ◌>>◌ : {T U : Type 0} → Prog T → Prog U → Prog U
p >> q = p >>= (λ _. q)

abbrev pub pure : {T : Type 0} → T → Prog T
pure a = record { acts = λ c k. k a c; run = λ b s. Done a s; same = λ b s k. refl }

-- the run is cut short
abbrev pub halt : {T : Type 0} → Halt → Prog T
halt h = record { acts = λ c k. quit h; run = λ b s. Ends (Halted h s.output); same = λ b s k. refl }

-- a result is farther than 2^53-1 from 0
abbrev pub left : {T : Type 0} → Prog T
left = halt Left

-- no rule applies to what runs here
abbrev pub stuck : {T : Type 0} → Spot → Prog T
stuck spot = halt (Stuck spot.file spot.at)

abbrev pub or_stuck : {T : Type 0} → Spot → Option T → Prog T
or_stuck spot (Some a) = pure a
or_stuck spot None = stuck spot

-- a jump or a throw
abbrev pub leave : {T : Type 0} → Leaving → Prog T
leave l = record { acts = λ c k. fin (Leaves l) c; run = λ b s. Ends (Left' l s.realm s.steps s.output); same = λ b s k. refl }

-- what is found in the store
abbrev pub look : {T : Type 0} → (Realm → T) → Prog T
look f = record { acts = λ c k. k (f c) c; run = λ b s. Done (f s.realm) s; same = λ b s k. refl }

-- what a change of the store gives
abbrev pub change : {T : Type 0} → (Realm → T × Realm) → Prog T
change f = record {
  acts = λ c k. k (f c).0 (f c).1;
  run = λ b s. Done (f s.realm).0 (record s { realm = (f s.realm).1 });
  same = λ b s k. refl;
}

-- what leaves a part is caught, and what cuts the run short is not
abbrev pub attempt : Prog (Unit {0}) → Prog (Result (Unit {0}) Leaving)
attempt p = record {
  acts = λ c k. bind (p.acts c (λ _ c'. fin Normal c')) (λ r c'. caught r c' k);
  run = λ b s. attempted (p.run b s);
  same = λ b s k. attempt_goes b (p.acts s.realm (λ _ c'. fin Normal c')) (p.run b s) k s.steps s.output (p.same b s (λ _ c'. fin Normal c'));
}

-- ---- what begins as a step

abbrev pub gives : Node → Prog Value
gives x = record {
  acts = λ c k. sub x c (λ r c'. with_value r c' k);
  run = λ b s. value_out (b x s.realm s.steps s.output);
  same = λ b s k. value_goes b (b x s.realm s.steps s.output) k;
}

abbrev pub does : Node → Prog (Unit {0})
does x = record {
  acts = λ c k. sub x c (λ r c'. with_normal r c' k);
  run = λ b s. normal_out (b x s.realm s.steps s.output);
  same = λ b s k. normal_goes b (b x s.realm s.steps s.output) k;
}

-- again and again, until something leaves it
abbrev pub repeat : Node → Prog (Unit {0})
repeat x = record {
  acts = λ c k. loop x (again x) c (λ r c'. after_loop r c');
  run = λ b s. turns_out b s.steps x s;
  same = λ b s k. loop_goes b (turns b s.steps x (again x) s.realm s.steps s.output) k;
}

abbrev pub perform : Around → List Name → JsStmt → Prog (Unit {0})
perform around labels c = does (Statement around labels c)

abbrev pub call : Spot → Callee → List Value → Prog Value
call spot f vs = gives (Call spot f vs)
