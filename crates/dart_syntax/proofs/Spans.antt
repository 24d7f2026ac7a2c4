-- The tokens of a file stand one behind another.
use Rattle.std.proofs.Common.{ℕ, ◌-◌, ◌≤◌, Bool, List, [], ◌∷◌, ◌++◌, length, Option, Some, None, subst, inl, inr, arith}
use Rattle.std.specs.Prelude.{◌==◌}
use Rattle.std.proofs.lemmas.List.{length-append}
use Rattle.dart_syntax.specs.declared.tokens.Form.{Form}
use Rattle.dart_syntax.specs.declared.tokens.Form.TheVariants.{TextOpen, Piece, Enter, Leave, TextClose}
use Rattle.dart_syntax.specs.declared.tokens.Token.{Token}
use Rattle.dart_syntax.specs.declared.levels.Level.TheVariants.{Text}
use Rattle.dart_syntax.specs.Table.{Bytes, front, back, word_of}
use Rattle.dart_syntax.specs.Texts.{quote_of, is_inner, form_behind}
use Rattle.dart_syntax.specs.Tokens as tokens
use Rattle.dart_syntax.specs.Tokens.{Stack, token, turned, End, named, entered, IsEnd, IsItem, IsFile, Ascend}
use Rattle.dart_syntax.proofs.Fronts.{tells, back_shorter}
use Rattle.dart_syntax.proofs.Parts.{run_shrinks}
use Rattle.dart_syntax.proofs.Reading.{opening_shrinks, item_shrinks}

one_more : (n : ℕ) (form : Form) (bs rest : Bytes) (more : List Token) → length rest ≤ length bs → Ascend n (n - length rest) more → Ascend n (n - length bs) (token n form bs rest ∷ more)
one_more n form bs rest more l a = (omega arith, omega arith, a)

-- the place may be an earlier one
earlier : (n low from : ℕ) (ts : List Token) → from ≤ low → Ascend n low ts → Ascend n from ts
earlier n low from [] l a = omega arith
earlier n low from (t ∷ ts) l a = (let first = a.0 in omega arith, a.1, a.2)

abbrev EndAscends : ℕ → Bytes → Option End → List Token → Type 0
EndAscends n bs None more = Unit {0}
EndAscends n bs (Some e) more = Ascend n (n - length e.rest) more → Ascend n (n - length bs) (e.tokens ++ more)

named_ascends : (n : ℕ) (bs : Bytes) (st : Stack) (o : Option Form) (more : List Token) → EndAscends n (36 ∷ bs) (named n bs st o) more
named_ascends n bs st None more = tt
named_ascends n bs st (Some form) more =
    let rest : Bytes = back is_inner bs in
    let last : List Token = token n Leave rest rest ∷ more in
    λ a. one_more n Enter (36 ∷ bs) bs (token n form bs rest ∷ last) (omega arith) (one_more n form bs rest last (back_shorter is_inner bs) (one_more n Leave rest rest more (omega arith) a))

entered_ascends : (n : ℕ) (bs : Bytes) (st : Stack) (more : List Token) → EndAscends n (36 ∷ bs) (entered n bs st) more
entered_ascends n [] st more = tt
entered_ascends n (b ∷ bs) st more = elim (tells (b == 123)) [
  | inl e ↦ rw e (λ a. one_more n Enter (36 ∷ b ∷ bs) bs more (omega arith) a)
  | inr e ↦ rw e (named_ascends n (b ∷ bs) st (form_behind (front is_inner (b ∷ bs)) (word_of (front is_inner (b ∷ bs)))) more)
]

end_ascends : {n : ℕ} {q raw : Bool} {st : Stack} {bs : Bytes} {e : End} (more : List Token) → IsEnd n q raw st bs e → Ascend n (n - length e.rest) more → Ascend n (n - length bs) (e.tokens ++ more)
end_ascends {n} {q} more (tokens.quote {rest = rest}) a = one_more n TextClose (quote_of q ∷ rest) rest more (omega arith) a
end_ascends {n} {q} {raw} {st} {bs} {e} more (tokens.enter {bs = behind} f x) a = subst (λ (o : Option End). EndAscends n (36 ∷ behind) o more) x (entered_ascends n behind (Text q raw ∷ st) more) a

item_ascends : {n : ℕ} {st next : Stack} {bs rest : Bytes} {ts : List Token} (more : List Token) → IsItem n st bs ts next rest → Ascend n (n - length rest) more → Ascend n (n - length bs) (ts ++ more)
item_ascends {n} {st} {next} {bs} {rest} more (tokens.gap c g k) a =
    let i : IsItem n st bs [] st rest = tokens.gap c g k in
    earlier n (n - length rest) (n - length bs) more (omega (arith, item_shrinks i)) a
item_ascends {n} more (tokens.token' {st = st} t {rest = rest} form c o s l w) a = one_more n (turned form st).0 (t ++ rest) rest more (omega (arith, length-append t rest)) a
item_ascends {n} more (tokens.open' {bs = bs} {rest = rest} {level = level} c o x) a = one_more n TextOpen bs rest more (let l = opening_shrinks bs level rest o in omega arith) a
item_ascends {n} more (tokens.part {bs = bs} {mid = mid} {us = us} {e = e} d f) a = one_more n (Piece us) bs mid (e.tokens ++ more) (run_shrinks d) (end_ascends more f a)

pub file_ascends : {n : ℕ} {st : Stack} {bs : Bytes} {ts : List Token} → length bs ≤ n → IsFile n st bs ts → Ascend n (n - length bs) ts
file_ascends {n} l (tokens.end h) = omega arith
file_ascends {n} l (tokens.item {more = more} i d) = item_ascends more i (file_ascends (omega (arith, item_shrinks i)) d)
