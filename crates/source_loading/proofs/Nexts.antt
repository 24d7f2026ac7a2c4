-- What is asked for next.
use Rattle.std.proofs.Common.{◌≡◌, ℕ, List, length, map, Option, Some, sym, ap, ◌∙◌}
use Rattle.std.specs.Prelude.{slice_get}
use Rattle.outside.specs.Outside.{Held}
use Rattle.dart_program.specs.Loading.{Asked, asked}
use Rattle.source_loading.specs.declared.loading.Loading.{Loading}
use Rattle.source_loading.specs.Files.{unlinked}
use Rattle.source_loading.specs.Progress.{IsLoading}

pub next_at : (told : Option Held) (entry : List ℕ) (l : Loading) (k : ℕ) (x : Asked) → IsLoading told entry l → k ≡ length l.files.items → Some x ≡ slice_get l.asks k
    → slice_get (asked entry (map unlinked l.files.items)) (length l.files.items) ≡ Some x
next_at told entry l k x is place got =
    ap (λ xs. slice_get xs (length l.files.items)) (sym is.asks_are) ∙ ap (slice_get l.asks) (sym place) ∙ sym got
