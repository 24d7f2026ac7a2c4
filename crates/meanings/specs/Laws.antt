-- What holds of the runs of any language.
use Rattle.std.specs.Prelude.{◌≡◌, ℕ, List}
use Rattle.std.proofs.Common.{refl, sym, ◌∙◌}
use Rattle.meanings.specs.Act.{Act, fin, quit, sub, loop, Res, Fin, Spent, Cut, Deep, then_on, Begin, turns, go, bind}

then_assoc : {S R O : Type 0} (p : Res S R O) (k l : R → S → ℕ → List O → Res S R O) → then_on (then_on p k) l ≡ then_on p (λ r s n o. then_on (k r s n o) l)
then_assoc (Fin r s n o) k l = refl
then_assoc (Spent o) k l = refl
then_assoc (Cut why o) k l = refl
then_assoc (Deep o) k l = refl

pub go_bind : {X S R O : Type 0} (b : Begin X S R O) (a : Act X S R) (f : R → S → Act X S R) (n : ℕ) (o : List O) → go b (bind a f) n o ≡ then_on (go b a n o) (λ r s n o. go b (f r s) n o)
go_bind b (fin r s) f n o = refl
go_bind b (quit why) f n o = refl
go_bind b (sub x s k) f n o =
    (λ i. then_on (b x s n o) (λ r s' m o'. go_bind b (k r s') f m o' i))
    ∙ sym (then_assoc (b x s n o) (λ r s' m o'. go b (k r s') m o') (λ r s' m o'. go b (f r s') m o'))
go_bind b (loop x more s k) f n o =
    (λ i. then_on (turns b n x more s n o) (λ r s' m o'. go_bind b (k r s') f m o' i))
    ∙ sym (then_assoc (turns b n x more s n o) (λ r s' m o'. go b (k r s') m o') (λ r s' m o'. go b (f r s') m o'))
