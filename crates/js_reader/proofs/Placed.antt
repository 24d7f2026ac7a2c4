-- Where the items of a file stop, no file goes on.
use Rattle.std.proofs.Common.{◌≡◌, ◌⊎◌, ℕ, zero, suc, ◌+◌, ◌-◌, ◌<◌, ◌≤◌, Bool, List, [], ◌∷◌, ◌++◌, length, Ok, Err, refl, sym, ap, ◌∙◌, subst, inl, inr, append_assoc, arith}
use Rattle.js_tree.specs.declared.tree.JsItem.{JsItem}
use Rattle.js_tree.specs.Tokens.{Bytes, Token, Tokens, AreTokens, end, blank, token'}
use Rattle.js_tree.specs.Grammar.{AreItems}
use Rattle.js_reader.specs.Taking.{place}
use Rattle.js_reader.specs.Parsing as p
use Rattle.js_reader.specs.Faults.{IsViable, IsFaultAt, through, behind, OneFault}
use Rattle.js_reader.proofs.Lexed.{token_shorter}
use Rattle.js_reader.proofs.Complete.{items_complete}
use Rattle.js_reader.proofs.Pieces.{put, put_list, head_of}
use Rattle.js_reader.proofs.Onward.{Reads}
use Rattle.js_reader.proofs.Forms.{ExprOf, StmtOf}
use Rattle.js_reader.proofs.Viable.{expression_reads, statement_reads, items_read, items_stop}
use Rattle.js_reader.proofs.Stops.{Stops}

mutual
  unfolding p.expr_at

  expr_at_reads : (size n n' : ℕ) → n ≤ n' → (ts : Tokens) → length ts < n → Reads size ExprOf (p.expr_at size n) (p.expr_at size n') ts
  expr_at_reads size zero n' m ts l = absurd (omega arith)
  expr_at_reads size (suc n) zero m ts l = absurd (omega arith)
  expr_at_reads size (suc n) (suc n') m ts l =
      expression_reads size n (suc n) (suc n') (p.expr_at size n) (p.expr_at size n') (p.stmt_at size n) (p.stmt_at size n') (omega arith) m (λ us k. expr_at_reads size n n' (omega arith) us k) (λ us k. stmt_at_reads size n n' (omega arith) us k) ts l

  stmt_at_reads : (size n n' : ℕ) → n ≤ n' → (ts : Tokens) → length ts < n → Reads size StmtOf (p.stmt_at size n) (p.stmt_at size n') ts
  stmt_at_reads size zero n' m ts l = absurd (omega arith)
  stmt_at_reads size (suc n) zero m ts l = absurd (omega arith)
  stmt_at_reads size (suc n) (suc n') m ts l =
      statement_reads size n (suc n) (suc n') (p.expr_at size n) (p.expr_at size n') (p.stmt_at size n) (p.stmt_at size n') (omega arith) m (λ us k. expr_at_reads size n n' (omega arith) us k) (λ us k. stmt_at_reads size n n' (omega arith) us k) ts l

-- what is read is derived
pub items_derived : (size n : ℕ) (ts : Tokens) (xs : List JsItem) → length ts < n → p.file_at size n ts ≡ Ok xs → AreItems [] ts xs
unfolding p.file_at
items_derived size n ts xs l h =
    let d = items_read size n n n (p.expr_at size n) (p.expr_at size n) (p.stmt_at size n) (p.stmt_at size n) (omega arith) (omega arith) (λ us k. expr_at_reads size n n (omega arith) us k) (λ us k. stmt_at_reads size n n (omega arith) us k) n [] [] ts xs l l l h in
    subst (λ (ys : List JsItem). AreItems [] ts ys) d.1 d.2

-- ---- places

-- each place is greater than the one before, and none is less than this or greater than the size
abbrev pub Rises : ℕ → ℕ → Tokens → Type 0
Rises size low [] = low ≤ size
Rises size low (t ∷ ts) = (low ≤ t.place.from) × Rises size (suc t.place.from) ts

pub from_less : (size low high : ℕ) (ts : Tokens) → low ≤ high → Rises size high ts → Rises size low ts
from_less size low high [] l r = omega arith
from_less size low high (t ∷ ts) l r = (let first = r.0 in omega (arith, first), r.1)

pub tokens_rise : {size : ℕ} {line : Bool} {bs : Bytes} {ts : Tokens} → AreTokens size line bs ts → length bs ≤ size → Rises size (size - length bs) ts
tokens_rise end l = omega arith
tokens_rise {size} (blank {b = b} {bs = bs} {ts = ts} e d) l = from_less size (size - length (b ∷ bs)) (size - length bs) ts (omega arith) (tokens_rise d (omega arith))
tokens_rise {size} (token' {bs = bs} {rest = rest} {ts = ts} i d) l =
    (omega arith, from_less size (suc (size - length bs)) (size - length rest) ts (omega (arith, token_shorter i)) (tokens_rise d (omega (arith, token_shorter i))))

later : (size low : ℕ) (front rest : Tokens) → Rises size low (front ++ rest) → low ≤ place size rest
later size low [] [] r = r
later size low [] (t ∷ rest) r = r.0
later size low (t ∷ front) rest r = let first = r.0 in omega (arith, first, later size (suc t.place.from) front rest r.1)

-- a place says which token stands there
same_split : (size low : ℕ) (a b c d : Tokens) → a ++ b ≡ c ++ d → Rises size low (a ++ b) → place size b ≡ place size d → (a ≡ c) × (b ≡ d)
same_split size low [] b [] d e r at = (refl, e)
same_split size low [] b (x ∷ c) d e r at =
    let s : Rises size low (x ∷ (c ++ d)) = subst (Rises size low) e r in
    let first : place size b ≡ x.place.from = ap (place size) e in
    absurd (omega (arith, first, at, later size (suc x.place.from) c d s.1))
same_split size low (x ∷ a) b [] d e r at =
    let first : x.place.from ≡ place size d = ap (place size) e in
    absurd (omega (arith, first, at, later size (suc x.place.from) a b r.1))
same_split size low (x ∷ a) b (y ∷ c) d e r at =
    let first : x ≡ y = cc in
    let others : a ++ b ≡ c ++ d = cc in
    let m = same_split size (suc x.place.from) a b c d others r.1 at in
    (ap (λ (t : Token). t ∷ a) first ∙ ap (λ (ts : Tokens). y ∷ ts) m.0, m.1)

-- ---- the fault

module _ (size n : ℕ) (ts : Tokens) (at : ℕ) (rises : Rises size 0 ts) (short : length ts < n) (fails : p.file_at size n ts ≡ Err at) where
  stops : (n' : ℕ) → n ≤ n' → Stops size [] (p.file_at size n') ts at
  unfolding p.file_at
  stops n' m =
      items_stop size n n n' (p.expr_at size n) (p.expr_at size n') (p.stmt_at size n) (p.stmt_at size n') (omega arith) m (λ us k. expr_at_reads size n n' m us k) (λ us k. stmt_at_reads size n n' m us k) n n' [] [] ts at short m short short fails

  -- the token is the same, however long files may be
  none_through : (front : Tokens) (t : Token) (rest : Tokens) → ts ≡ front ++ t ∷ rest → at ≡ t.place.from → IsViable (front ++ t ∷ []) → ⊥
  unfolding p.file_at
  none_through front t rest is stands v =
      let n' = n + suc (length ((front ++ t ∷ []) ++ v.more)) in
      let s = stops n' (omega arith) in
      let split = same_split size 0 (put s.front []) s.rest front (t ∷ rest) (sym (put_list s.front s.rest) ∙ (sym s.is ∙ is)) (subst (Rises size 0) (s.is ∙ put_list s.front s.rest) rises) (sym s.stands ∙ stands) in
      let whole : put s.front (t ∷ v.more) ≡ (front ++ t ∷ []) ++ v.more = put_list s.front (t ∷ v.more) ∙ (ap (λ (us : Tokens). us ++ t ∷ v.more) split.0 ∙ sym (append_assoc front (t ∷ []) v.more)) in
      let refused : p.file_at size n' ((front ++ t ∷ []) ++ v.more) ≡ Err at = subst (λ (us : Tokens). p.file_at size n' us ≡ Err at) whole (s.again (t ∷ v.more) (sym (ap head_of split.1))) in
      let read : p.file_at size n' ((front ++ t ∷ []) ++ v.more) ≡ Ok v.items = items_complete size v.derived n' n' [] [] (λ x. refl) (omega arith) (omega arith) in
      cc

  pub fault_at : IsFaultAt size ts at
  fault_at = by s.rest s.is s.stands where
    s : Stops size [] (p.file_at size n) ts at
    s = stops n (omega arith)

    viable : IsViable (put s.front [])
    viable = record { more = put s.more []; items = s.items; derived = subst (λ (us : Tokens). AreItems [] us s.items) (put_list s.front (put s.more [])) s.derived }

    by : (rest : Tokens) → ts ≡ put s.front rest → at ≡ place size rest → IsFaultAt size ts at
    by [] is stands = subst (IsFaultAt size ts) (sym stands) (behind (subst IsViable (sym is) viable))
    by (t ∷ rest) is stands =
        let split = is ∙ put_list s.front (t ∷ rest) in
        subst (IsFaultAt size ts) (sym stands) (through (put s.front []) t rest split viable (none_through (put s.front []) t rest split stands))

-- ---- there is one

-- a front of tokens with which a file begins
shorter : (ts more : Tokens) → IsViable (ts ++ more) → IsViable ts
shorter ts more v = record { more = more ++ v.more; items = v.items; derived = subst (λ (us : Tokens). AreItems [] us v.items) (append_assoc ts more v.more) v.derived }

-- of two fronts with a token behind, both tokens are the same, or one front goes through the other's token
crossed : (x y b d : Tokens) {t u : Token} → x ++ t ∷ b ≡ y ++ u ∷ d → (t ≡ u) ⊎ (((z : Tokens) × (y ≡ (x ++ t ∷ []) ++ z)) ⊎ ((z : Tokens) × (x ≡ (y ++ u ∷ []) ++ z)))
crossed [] [] b d e = inl cc
crossed [] (v ∷ y) b d {t} e = let first : v ≡ t = cc in inr (inl (y, ap (λ (w : Token). w ∷ y) first))
crossed (v ∷ x) [] b d {u = u} e = let first : v ≡ u = cc in inr (inr (x, ap (λ (w : Token). w ∷ x) first))
crossed (v ∷ x) (w ∷ y) b d {t} {u} e = behind_first (crossed x y b d others) where
  first : v ≡ w
  first = cc

  others : x ++ t ∷ b ≡ y ++ u ∷ d
  others = cc

  behind_first : (t ≡ u) ⊎ (((z : Tokens) × (y ≡ (x ++ t ∷ []) ++ z)) ⊎ ((z : Tokens) × (x ≡ (y ++ u ∷ []) ++ z)))
      → (t ≡ u) ⊎ (((z : Tokens) × (w ∷ y ≡ v ∷ ((x ++ t ∷ []) ++ z))) ⊎ ((z : Tokens) × (v ∷ x ≡ w ∷ ((y ++ u ∷ []) ++ z))))
  behind_first (inl s) = inl s
  behind_first (inr (inl s)) = inr (inl (s.0, ap (λ (k : Token). k ∷ y) (sym first) ∙ ap (λ (us : Tokens). v ∷ us) s.1))
  behind_first (inr (inr s)) = inr (inr (s.0, ap (λ (k : Token). k ∷ x) first ∙ ap (λ (us : Tokens). w ∷ us) s.1))

pub one_fault : OneFault
one_fault size ts at other (behind v) (behind w) = refl
one_fault size ts at other (behind v) (through front t rest is w none) =
    absurd (none (shorter (front ++ t ∷ []) rest (subst IsViable (is ∙ sym (append_assoc front (t ∷ []) rest)) v)))
one_fault size ts at other (through front t rest is w none) (behind v) =
    absurd (none (shorter (front ++ t ∷ []) rest (subst IsViable (is ∙ sym (append_assoc front (t ∷ []) rest)) v)))
one_fault size ts at other (through a t b is v none) (through c u d same w other_none) = by (crossed a c b d (sym is ∙ same)) where
  by : (t ≡ u) ⊎ (((z : Tokens) × (c ≡ (a ++ t ∷ []) ++ z)) ⊎ ((z : Tokens) × (a ≡ (c ++ u ∷ []) ++ z))) → t.place.from ≡ u.place.from
  by (inl s) = ap (λ (k : Token). k.place.from) s
  by (inr (inl s)) = absurd (none (shorter (a ++ t ∷ []) s.0 (subst IsViable s.1 w)))
  by (inr (inr s)) = absurd (other_none (shorter (c ++ u ∷ []) s.0 (subst IsViable s.1 v)))
