-- The loaded file of a number.
use Rattle.std.proofs.Common.{◌≡◌, ℕ, zero, suc, ◌-◌, ◌≤◌, ◌<◌, List, Option, Some, None, refl, sym, ap, ◌∙◌, arith}
use Rattle.std.specs.Prelude.{slice_get}
use Rattle.source_loading.specs.declared.files.LoadedFile.{LoadedFile}
use Rattle.source_loading.specs.Progress.{file_of}

pub file_of_next : (files : List LoadedFile) (number : ℕ) → 1 ≤ number → file_of files number ≡ slice_get files (number - 1)
file_of_next files zero some = absurd (omega arith)
file_of_next files (suc i) some = let e : i ≡ suc i - 1 = omega arith in ap (slice_get files) e

pub no_file : (files : List LoadedFile) (number : ℕ) → number < 1 → file_of files number ≡ None
no_file files zero none = refl
no_file files (suc i) none = absurd (omega arith)
