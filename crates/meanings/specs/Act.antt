-- A language by its nodes: what begins as one step, and what it then does.
use Rattle.std.specs.Prelude.{ℕ, zero, suc, List, [], ◌∷◌, ◌++◌, Option, Some, None}

-- why a run is cut short: an integer leaves plus or minus 2^53-1, or no rule of the language applies to what
-- runs at this place of this file
pub data Halt : Type 0 where
  Left : Halt
  Stuck : (file at : ℕ) → Halt

-- What a node does: it is done with a completion; it cuts the run short; it begins another node and goes on with
-- what that gives; or it begins a node, and then the next one, as long as what a turn gives names a next one.
-- X: nodes, S: stores, R: completions.
pub data Act (X S R : Type 0) : Type 0 where
  fin : R → S → Act X S R
  quit : Halt → Act X S R
  sub : X → S → (R → S → Act X S R) → Act X S R
  loop : X → (R → Option X) → S → (R → S → Act X S R) → Act X S R

-- A language that prints texts of the type O. A view opens one level of a node and never recurses; what a node
-- says is printed as its step begins, so a step prints at most one text.
pub record Lang (O : Type 0) : Type 1 where
  pub Node : Type 0
  pub Store : Type 0
  pub Comp : Type 0
  pub view : Node → Store → Act Node Store Comp
  pub says : Node → Store → Option O

-- What a number of steps comes to: done, with the steps that are left and all that was printed; out of steps; cut
-- short; or nested too deep.
pub data Res (S R O : Type 0) : Type 0 where
  Fin : R → S → ℕ → List O → Res S R O
  Spent : List O → Res S R O
  Cut : Halt → List O → Res S R O
  Deep : List O → Res S R O

abbrev pub add_text : {O : Type 0} → List O → Option O → List O
add_text o None = o
add_text o (Some t) = o ++ t ∷ []

abbrev pub then_on : {S R O : Type 0} → Res S R O → (R → S → ℕ → List O → Res S R O) → Res S R O
then_on (Fin r s n o) k = k r s n o
then_on (Spent o) k = Spent o
then_on (Cut h o) k = Cut h o
then_on (Deep o) k = Deep o

-- how a node begins, with so many steps and behind what was printed
abbrev pub Begin : Type 0 → Type 0 → Type 0 → Type 0 → Type 0
Begin X S R O = X → S → ℕ → List O → Res S R O

-- the next turn of a loop where there is one, else what is behind it
abbrev pub turn_or : {X A : Type 0} → Option X → (X → A) → A → A
turn_or None turn behind = behind
turn_or (Some x) turn behind = turn x

-- So many turns at most. Each takes a step, so there are no more turns than steps.
abbrev pub turns : {X S R O : Type 0} → Begin X S R O → ℕ → X → (R → Option X) → S → ℕ → List O → Res S R O
turns b zero x next s n o = Spent o
turns b (suc f) x next s n o = then_on (b x s n o) (λ r s' n' o'. turn_or (next r) (λ y. turns b f y next s' n' o') (Fin r s' n' o'))

-- Each turn of a loop begins at the level of the first.
abbrev pub go : {X S R O : Type 0} → Begin X S R O → Act X S R → ℕ → List O → Res S R O
go b (fin r s) n o = Fin r s n o
go b (quit h) n o = Cut h o
go b (sub x s k) n o = then_on (b x s n o) (λ r s' n' o'. go b (k r s') n' o')
go b (loop x next s k) n o = then_on (turns b n x next s n o) (λ r s' n' o'. go b (k r s') n' o')

abbrev pub BeginOf : {O : Type 0} → Lang O → Type 0
BeginOf {O} L = Begin L.Node L.Store L.Comp O

abbrev pub ActOf : {O : Type 0} → Lang O → Type 0
ActOf L = Act L.Node L.Store L.Comp

abbrev pub ResOf : {O : Type 0} → Lang O → Type 0
ResOf {O} L = Res L.Store L.Comp O

-- a node where at most so many more may be nested, itself among them
unfoldable pub begin : {O : Type 0} (L : Lang O) → ℕ → BeginOf L
begin L zero x s zero o = Spent o
begin L zero x s (suc n) o = Deep o
begin L (suc d) x s zero o = Spent o
begin L (suc d) x s (suc n) o = go (begin L d) (L.view x s) n (add_text o (L.says x s))

-- n steps, of which each may be nested in the one before; so this is never too deep
abbrev pub means : {O : Type 0} (L : Lang O) → ActOf L → ℕ → List O → ResOf L
means L a n o = go (begin L n) a n o

-- one after the other
abbrev pub bind : {X S R : Type 0} → Act X S R → (R → S → Act X S R) → Act X S R
bind (fin r s) f = f r s
bind (quit h) f = quit h
bind (sub x s k) f = sub x s (λ r s'. bind (k r s') f)
bind (loop x next s k) f = loop x next s (λ r s'. bind (k r s') f)
