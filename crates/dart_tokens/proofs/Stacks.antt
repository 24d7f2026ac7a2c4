-- The list of what is open has the innermost first, the vector of the code has it last.
use Rattle.std.proofs.Common.{◌≡◌, List, [], ◌∷◌, ◌++◌, length, false, Option, Some, None, refl, sym, ap, ◌∙◌, arith}
use Rattle.std.specs.Prelude.{reverse}
use Rattle.std.specs.Option.{option_to_list}
use Rattle.std.proofs.lemmas.List.{reverse-append, append-nil}
use denote.Enum.Bare.{sameb}
use Rattle.dart_syntax.specs.contracts.words.Sign as sign
use Rattle.dart_syntax.specs.declared.levels.Level.{Level}
use Rattle.dart_syntax.specs.declared.words.Sign.{Sign}
use Rattle.dart_syntax.specs.declared.words.Sign.TheVariants as s
use Rattle.dart_syntax.specs.declared.tokens.Form.TheVariants.{Sign as Signed}
use Rattle.dart_syntax.specs.Tokens.{Stack, in_text, turned}
use Rattle.dart_tokens.specs.Answers.{tail_of}

pub last_first : (whole held : List Level) (level : Level) → whole ≡ held ++ level ∷ [] → reverse whole ≡ level ∷ reverse held
last_first whole held level e = ap reverse e ∙ reverse-append held (level ∷ [])

pub none_none : (whole : List Level) → whole ≡ [] → reverse whole ≡ []
none_none whole e = ap reverse e

pub popped : (whole held : List Level) (o : Option Level) → whole ≡ held ++ option_to_list o → (o ≡ None → held ≡ []) → reverse held ≡ tail_of (reverse whole)
popped whole held None e n = ap reverse (n refl) ∙ sym (ap tail_of (ap reverse (e ∙ (append-nil held ∙ n refl))))
popped whole held (Some level) e n = sym (ap tail_of (last_first whole held level e))

in_text_nil : (st : Stack) → length st ≡ 0 → in_text st ≡ false
in_text_nil [] e = refl
in_text_nil (level ∷ st) e = absurd (omega arith)

pub plain_sign : (x : Sign) (st : Stack) → sameb sign.the_type x s.OpenBrace ≡ false → sameb sign.the_type x s.CloseBrace ≡ false → turned (Signed x) st ≡ (Signed x, st)
plain_sign s.OpenBrace st h k = absurd cc
plain_sign s.CloseBrace st h k = absurd cc
plain_sign _ st h k = refl
