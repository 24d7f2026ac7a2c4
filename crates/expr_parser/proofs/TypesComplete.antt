-- Each type is parsed.
use Rattle.std.proofs.Common.{◌≡◌, ℕ, zero, suc, ◌-◌, ◌≤◌, Bool, true, false, List, [], ◌∷◌, length, Some, refl, ◌∙◌, arith, inl, inr}
use Rattle.std.proofs.lemmas.Bool.Decides.{eqb_tells}
use Rattle.std.specs.Prelude.{◌==◌, ◌||◌}
use Rattle.dart_syntax.specs.declared.words.Word.{Word}
use Rattle.dart_syntax.specs.declared.words.Word.TheVariants as w
use Rattle.dart_syntax.specs.declared.words.Sign.{Sign}
use Rattle.dart_syntax.specs.declared.words.Sign.TheVariants as s
use Rattle.dart_syntax.specs.declared.tokens.Form.{Form}
use Rattle.dart_syntax.specs.declared.tokens.Form.TheVariants as f
use Rattle.dart_grammar.specs.declared.trees.Span.{Span}
use Rattle.dart_grammar.specs.declared.trees.Name.{Name}
use Rattle.dart_grammar.specs.Marks.{Tokens, sign, same_sign, same_word, is_name, is_word, is_sign, next_word, next_sign, next_name}
use Rattle.dart_grammar.specs.Shapes.{begins_type}
use Rattle.dart_grammar.specs.Grammar as g
use Rattle.dart_grammar.specs.Grammar.{IsDotted, IsType, AreTypeArguments, AreTypes, MayHaveTypeArguments, MayHaveResult, IsLead, AreNewNames}
use Rattle.expr_parser.specs.Cursor.{sign_at, name_at}
use Rattle.expr_parser.specs.Types as p
use Rattle.expr_parser.proofs.Shrinks.{dotted_shrinks}

pub dotted_complete : {ts rest : Tokens} {xs : List Name} {j : ℕ} → IsDotted ts xs j rest → p.dotted ts ≡ Some ((xs, j), rest)
unfolding p.dotted name_at same_sign
dotted_complete (g.one n) = rw n refl
dotted_complete g.two = refl

-- ---- a name is no word and no sign

pub name_no_word : (x : Word) (ts : Tokens) → next_name ts ≡ true → next_word x ts ≡ false
name_no_word x [] h = absurd cc
name_no_word x (t ∷ ts) h = go t.form h
  where
    go : (form : Form) → is_name form ≡ true → is_word x form ≡ false
    go (f.Name y) e = refl
    go _ e = absurd cc

pub name_no_sign : (x : Sign) (ts : Tokens) → next_name ts ≡ true → next_sign x ts ≡ false
name_no_sign x [] h = absurd cc
name_no_sign x (t ∷ ts) h = go t.form h
  where
    go : (form : Form) → is_name form ≡ true → is_sign x form ≡ false
    go (f.Name y) e = refl
    go _ e = absurd cc

dotted_first : {ts rest : Tokens} {xs : List Name} {j : ℕ} → IsDotted ts xs j rest → next_name ts ≡ true
dotted_first (g.one n) = refl
dotted_first g.two = refl

pub type_first : {ts rest : Tokens} {xs : List Name} {j : ℕ} → IsType ts xs j rest → next_name ts ≡ true
type_first (g.plain_type d n) = dotted_first d
type_first (g.generic d a) = dotted_first d

-- ---- type arguments are read up to their end

record Reads (k n : ℕ) (ts rest : Tokens) : Type 0 where
  turns : ℕ
  enough : length rest ≤ turns
  same : p.angles_from k n false ts ≡ p.angles_from turns n true rest

reads_plain : (k n : ℕ) {ts rest : Tokens} {xs : List Name} {j : ℕ} → length ts ≤ k → IsDotted ts xs j rest → next_sign s.Less rest ≡ false → Reads k n ts rest
unfolding p.angles_from
reads_plain zero n l d h = absurd (omega (arith, l, dotted_shrinks d))
reads_plain (suc k) n l d h = record { turns = k; enough = omega (arith, l, dotted_shrinks d); same = rw (dotted_complete d, h) refl }

closes_inner : (turns n : ℕ) (q : Span) (rest : Tokens) → p.angles_from (suc turns) (suc n) true (sign s.Greater q ∷ rest) ≡ p.angles_from turns n true rest
unfolding p.angles_from sign_at same_sign
closes_inner turns n q rest =
    let no : (suc n == 0) ≡ false = elim (eqb_tells (suc n) 0) [ inl y ↦ absurd (omega (arith, y.1)) | inr y ↦ y.0 ] in
    let less : suc n - 1 ≡ n = omega arith in
    rw (no, less) refl

reads_generic : (k n : ℕ) {ts mid rest : Tokens} {xs : List Name} {i : ℕ} {o q : Span} → length ts ≤ suc k → IsDotted ts xs i (sign s.Less o ∷ mid) → Reads k (suc n) mid (sign s.Greater q ∷ rest)
    → Reads (suc k) n ts rest
unfolding p.angles_from same_sign
reads_generic k n {ts = ts} {mid = mid} {rest = rest} {q = q} l d r = go r.turns r.enough r.same
  where
    go : (turns : ℕ) → length (sign s.Greater q ∷ rest) ≤ turns → p.angles_from k (suc n) false mid ≡ p.angles_from turns (suc n) true (sign s.Greater q ∷ rest) → Reads (suc k) n ts rest
    go zero e h = absurd (omega (arith, e))
    go (suc turns) e h = record { turns = turns; enough = omega (arith, e); same = rw (dotted_complete d) (h ∙ closes_inner turns n q rest) }

reads_more : (n : ℕ) {mid rest : Tokens} (q : Span) (turns : ℕ) → length (sign s.Comma q ∷ mid) ≤ turns → ((k : ℕ) → length mid ≤ k → Reads k n mid rest)
    → (k : ℕ) × (length rest ≤ k) × (p.angles_from turns n true (sign s.Comma q ∷ mid) ≡ p.angles_from k n true rest)
unfolding p.angles_from same_sign
reads_more n q zero e h = absurd (omega (arith, e))
reads_more n q (suc turns) e h = let r = h turns (omega (arith, e)) in (r.turns, r.enough, r.same)

mutual
  type_reads : {ts rest : Tokens} {xs : List Name} {j : ℕ} → IsType ts xs j rest → (k n : ℕ) → length ts ≤ k → Reads k n ts rest
  type_reads (g.plain_type d h) k n l = reads_plain k n l d h
  type_reads (g.generic d (g.type_arguments t)) zero n l = absurd (omega (arith, l, dotted_shrinks d))
  type_reads (g.generic d (g.type_arguments t)) (suc k) n l = reads_generic k n l d (types_read t k (suc n) (omega (arith, l, dotted_shrinks d)))

  types_read : {ts rest : Tokens} → AreTypes ts rest → (k n : ℕ) → length ts ≤ k → Reads k n ts rest
  types_read (g.last_type d) k n l = type_reads d k n l
  types_read (g.more_types {p = q} d m) k n l =
      let r = type_reads d k n l in
      let z = reads_more n q r.turns r.enough (λ i e. types_read m i n e) in
      record { turns = z.0; enough = z.1; same = r.same ∙ z.2 }

closes_outer : (turns : ℕ) (q : Span) (rest : Tokens) → length (sign s.Greater q ∷ rest) ≤ turns → p.angles_from turns 0 true (sign s.Greater q ∷ rest) ≡ Some (q.to, rest)
unfolding p.angles_from sign_at same_sign
closes_outer zero q rest e = absurd (omega (arith, e))
closes_outer (suc turns) q rest e = refl

pub type_arguments_complete : {ts rest : Tokens} {j : ℕ} → AreTypeArguments ts j rest → p.type_arguments ts ≡ Some (j, rest)
unfolding p.type_arguments sign_at same_sign
type_arguments_complete {rest = rest} (g.type_arguments {q = q} {ts = ts} t) = let r = types_read t (length ts) 0 (omega arith) in r.same ∙ closes_outer r.turns q rest r.enough

arguments_first : {ts rest : Tokens} {j : ℕ} → AreTypeArguments ts j rest → next_sign s.Less ts ≡ true
unfolding same_sign
arguments_first (g.type_arguments t) = refl

pub type_complete : {ts rest : Tokens} {xs : List Name} {j : ℕ} → IsType ts xs j rest → p.type_at ts ≡ Some ((xs, j), rest)
unfolding p.type_at
type_complete (g.plain_type d n) = rw (dotted_complete d, n) refl
type_complete (g.generic d a) = rw (dotted_complete d, arguments_first a, type_arguments_complete a) refl

pub past_type_arguments_complete : {ts rest : Tokens} → MayHaveTypeArguments ts rest → p.past_type_arguments ts ≡ Some rest
unfolding p.past_type_arguments
past_type_arguments_complete (g.has_none n) = rw n refl
past_type_arguments_complete (g.has_some a) = rw (arguments_first a, type_arguments_complete a) refl

or_false : (a b : Bool) → (a || b) ≡ false → a ≡ false
or_false true b h = absurd cc
or_false false b h = refl

no_void : (ts : Tokens) → begins_type ts ≡ false → next_word w.Void ts ≡ false
no_void ts h = or_false (next_word w.Void ts) _ h

pub past_result_complete : {ts rest : Tokens} → MayHaveResult ts rest → p.past_result ts ≡ Some rest
unfolding p.past_result same_word
past_result_complete (g.no_result {ts = ts} n) = rw (n, no_void ts n) refl
past_result_complete g.void_result = refl
past_result_complete (g.type_result v b d) = rw (b, v, type_complete d) refl

pub lead_complete : {ts rest : Tokens} {b : Bool} → IsLead ts b rest → p.lead ts ≡ Some (b, rest)
unfolding p.lead p.past_annotation same_word
lead_complete g.var_lead = refl
lead_complete (g.final_lead v d) = rw (v, past_result_complete d) refl
lead_complete (g.const_lead v d) = rw (v, past_result_complete d) refl
lead_complete (g.type_lead {ts = ts} d) = let n = type_first d in rw (name_no_word w.Var ts n, name_no_word w.Final ts n, name_no_word w.Const ts n, type_complete d) refl

pub new_names_complete : {ts rest : Tokens} {xs : List Name} → AreNewNames ts xs rest → p.new_names ts ≡ Some (xs, rest)
unfolding p.new_names name_at same_sign
new_names_complete (g.class_name d n) = rw (type_complete d, n) refl
new_names_complete (g.constructor_name d) = rw (type_complete d) refl
