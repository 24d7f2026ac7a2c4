-- Tokens at the end of others.
use Rattle.std.proofs.Common.{◌≡◌, ◌+◌, ◌-◌, [], ◌∷◌, ◌++◌, length, drop, refl, sym, ap, ◌∙◌, append_assoc, arith}
use Rattle.std.proofs.lemmas.List.{drop_at, length-append}
use Rattle.dart_syntax.specs.declared.tokens.Token.{Token}
use Rattle.dart_grammar.specs.Marks.{Tokens}

pub record IsEnd (rest ts : Tokens) : Type 0 where
  pub front : Tokens
  pub joined : ts ≡ front ++ rest

pub here : {ts : Tokens} → IsEnd ts ts
here = record { front = []; joined = refl }

pub step : {t : Token} {rest ts : Tokens} → IsEnd rest ts → IsEnd rest (t ∷ ts)
step {t = t} e = record { front = t ∷ e.front; joined = ap (λ (xs : Tokens). t ∷ xs) e.joined }

pub both : {ts mid rest : Tokens} → IsEnd mid ts → IsEnd rest mid → IsEnd rest ts
both {rest = rest} e f = record { front = e.front ++ f.front; joined = e.joined ∙ ap (λ (xs : Tokens). e.front ++ xs) f.joined ∙ sym (append_assoc e.front f.front rest) }

pub left_at_end : {ts rest : Tokens} → IsEnd rest ts → drop (length ts - length rest) ts ≡ rest
left_at_end {ts = ts} {rest = rest} e =
    let long : length ts ≡ length e.front + length rest = ap (λ (xs : Tokens). length xs) e.joined ∙ length-append e.front rest in
    ap (λ (xs : Tokens). drop (length ts - length rest) xs) e.joined ∙ drop_at e.front rest (length ts - length rest) (omega (arith, long))
