-- The first broken rule, from what scanning answers and from where the bytes are not UTF-8.
use Rattle.std.proofs.Common.{ℕ, Option, Some, None, inl, inr}
use Rattle.std.specs.Prelude.{nat_le, MatchOption, IsUtf8}
use Rattle.std.specs.Str.{IsValidUpTo}
use Rattle.std.proofs.lemmas.Bool.{leb-true, leb-false}
use Rattle.dart_syntax.specs.Table.{Bytes}
use Rattle.dart_syntax.specs.Reader.{scan}
use Rattle.dart_syntax.proofs.Fronts.{tells}
use Rattle.dart_syntax.proofs.Exact.{broken_in_text, broken_before, broken_utf8}
use Rattle.dart_tokens.specs.declared.scanner.ScanError.{ScanError}
use Rattle.dart_tokens.specs.declared.scanner.ScanError.TheVariants.{Fault, Memory}
use Rattle.dart_tokens.specs.Answers.{first_of, Fails, Refuses}

pub refused : (bytes : Bytes) (e : ScanError) (bad : Option ℕ) → Fails e (scan bytes) → MatchOption bad (IsUtf8 bytes) (IsValidUpTo bytes) → Refuses bytes (first_of e bad)
refused bytes Memory bad f u = tt
refused bytes (Fault at x) None f u = broken_in_text bytes at x u f
refused bytes (Fault at x) (Some bad) f v = elim (tells (nat_le bad at)) [
  | inl e ↦ rw e (broken_utf8 bytes bad at x v f (leb-true _ _ e))
  | inr e ↦ rw e (broken_before bytes bad at x v f (leb-false _ _ e))
]
