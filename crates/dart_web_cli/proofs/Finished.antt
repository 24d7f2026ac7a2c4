-- A line that was to be said: the status it ends with, and what that means.
use Rattle.std.proofs.Common.{◌≡◌, List, ℕ, Result, Ok, Err, sym, subst, inl, inr}
use Rattle.std.specs.Prelude.{IfOk}
use Rattle.std.specs.declared.alloc.AllocError.{AllocError}
use Rattle.dart_web_cli.specs.declared.top.Status.{Status}
use Rattle.dart_web_cli.specs.declared.top.Status.TheVariants.{WriteFault, Memory}
use Rattle.dart_web_cli.specs.TopCall.{Call, SinkStays, Says, SaysFront, Means, Finishes}

pub finished : (call : Call) (status : Status) (line : Result (List ℕ) AllocError) (result : Status) (text : List ℕ) → IfOk line (λ l. l ≡ text) → (Says text call.before call.now → Means call status) → (SaysFront text call.before call.now → Means call WriteFault) → (SinkStays call.before call.now → Means call Memory) → Finishes status line call.before call.now result → Means call result
finished call status (Ok l) result text is says front stays (inl (e, h)) = subst (λ s. Means call s) (sym e) (says (subst (λ t. Says t call.before call.now) is h))
finished call status (Ok l) result text is says front stays (inr (e, h)) = subst (λ s. Means call s) (sym e) (front (subst (λ t. SaysFront t call.before call.now) is h))
finished call status (Err x) result text is says front stays (e, h) = subst (λ s. Means call s) (sym e) (stays h)
