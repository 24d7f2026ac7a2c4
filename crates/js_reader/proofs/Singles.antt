-- Tokens that are taken one at a time: names, numbers, members and strings.
use Rattle.std.proofs.Common.{◌≡◌, ℕ, zero, suc, ◌+◌, ◌<◌, ◌≤◌, Bool, true, false, cond, List, [], ◌∷◌, length, Option, Some, None, Ok, Err, refl, sym, ap, ◌∙◌, subst, arith}
use Rattle.std.specs.Prelude.{not, ◌&&◌, ◌||◌}
use Rattle.std.specs.List.{list_all}
use Rattle.std.specs.Str.{bytes_eq}
use Rattle.std.specs.Fmt.{decimal}
use Rattle.js_tree.specs.declared.words.JsMember.{JsMember}
use Rattle.js_tree.specs.declared.words.JsMember.TheVariants as m
use Rattle.js_tree.specs.Words.{member_text}
use Rattle.js_tree.specs.Tokens.{Bytes, is_part, Place, Token, Tokens}
use Rattle.js_tree.specs.Grammar.{word, quoted, Names, is_name, is_among, greatest}
use Rattle.js_reader.specs.Taking.{Parser, place, word_of, string_by, string_of, behind, after_word, number_of, member_of, found_by, name_at, fresh_name, number_at, member_at, string_at}
use Rattle.js_reader.proofs.Digits.{bytes_same}
use Rattle.js_reader.proofs.Fronted.{name_sound, fresh_sound, number_sound, member_sound, string_sound, name_same, fresh_same, number_same, member_same, string_same}
use Rattle.js_reader.proofs.Pieces.{Pieces, nothing, token, head_of}
use Rattle.js_reader.proofs.Onward.{nowhere, Form, Least, Answer, Reads, took, along, fail, same_word}

-- ---- a name that is none of these

dollars : ℕ → Bytes
dollars zero = []
dollars (suc n) = 36 ∷ dollars n

dollars_long : (n : ℕ) → length (dollars n) ≡ n
unfolding dollars
dollars_long zero = refl
dollars_long (suc n) = ap suc (dollars_long n)

dollars_part : (n : ℕ) → list_all is_part (dollars n) ≡ true
unfolding dollars
dollars_part zero = refl
dollars_part (suc n) = dollars_part n

dollars_name : (n : ℕ) → is_name (dollars (suc n)) ≡ true
unfolding dollars
dollars_name n = rw (dollars_part n) refl

longer : Names → ℕ
longer [] = 0
longer (x ∷ xs) = length x + longer xs

dollars_new : (names : Names) (n : ℕ) → longer names < n → is_among names (dollars n) ≡ false
unfolding longer
dollars_new [] n l = refl
dollars_new (x ∷ xs) n l = by (bytes_eq (dollars n) x) refl (dollars_new xs n (omega arith)) where
  by : (b : Bool) → bytes_eq (dollars n) x ≡ b → is_among xs (dollars n) ≡ false → (bytes_eq (dollars n) x || is_among xs (dollars n)) ≡ false
  by true e i = absurd (omega (arith, ap length (bytes_same (dollars n) x e), dollars_long n))
  by false e i = rw (e, i) refl

-- ---- forms

pub data NameOf : Pieces → Bytes → Type 0 where
  name_of : {x : Bytes} (at : Place) → is_name x ≡ true → NameOf (token (word x at) nothing) x

pub data FreshOf (names : Names) : Pieces → Bytes → Type 0 where
  fresh_of : {x : Bytes} (at : Place) → is_name x ≡ true → is_among names x ≡ false → FreshOf names (token (word x at) nothing) x

pub data NumberOf : Pieces → ℕ → Type 0 where
  number_is : {n : ℕ} (at : Place) → n ≤ greatest → NumberOf (token (word (decimal n) at) nothing) n

pub data MemberOf : Pieces → JsMember → Type 0 where
  member_is : {m : JsMember} (at : Place) → MemberOf (token (word (member_text m) at) nothing) m

pub data StringOf : Pieces → List ℕ → Type 0 where
  string_is : {us : List ℕ} (at : Place) → StringOf (token (quoted us at) nothing) us

pub least_name : Least NameOf
least_name = (_, dollars 1, name_of nowhere (dollars_name 0))

pub least_fresh : (names : Names) → Least (FreshOf names)
least_fresh names = (_, dollars (suc (longer names)), fresh_of nowhere (dollars_name (longer names)) (dollars_new names (suc (longer names)) (omega arith)))

pub least_number : Least NumberOf
least_number = (_, 0, number_is nowhere (omega arith))

pub least_member : Least MemberOf
least_member = (_, m.Size, member_is nowhere)

pub least_string : Least StringOf
least_string = (_, [], string_is nowhere)

-- ---- the parsers

taken_one : {A : Type 0} (size : ℕ) {V : Form A} {p : Parser A} {ts : Tokens} (t : Token) (x : A) (rest : Tokens) → ts ≡ t ∷ rest → V (token t nothing) x → ((late : Tokens) → p (t ∷ late) ≡ Ok (x, late)) → Reads size V p p ts
taken_one size {V = V} {p = p} {ts = ts} t x rest is v same = record { answer = subst (λ o. Answer size V p ts o) (sym (ap p is ∙ same rest)) (took (token t nothing) x rest v is (λ late e. same late)) }

pub name_reads : (size : ℕ) (ts : Tokens) → Reads size NameOf (name_at size) (name_at size) ts
unfolding name_at
name_reads size ts = by (is_name (word_of ts)) refl where
  by : (b : Bool) → is_name (word_of ts) ≡ b → Reads size NameOf (name_at size) (name_at size) ts
  by true e =
      let s = name_sound size ts (word_of ts, after_word ts) (ap (λ (b : Bool). cond b (Ok (word_of ts, after_word ts)) (Err (place size ts))) e) in
      taken_one size (word (word_of ts) s.0) (word_of ts) (after_word ts) s.1 (name_of s.0 s.2) (λ late. name_same size (word_of ts) s.0 late s.2)
  by false e =
      along size (ap (λ (b : Bool). cond b (Ok (word_of ts, after_word ts)) (Err (place size ts))) e)
      (λ us i. ap (λ (b : Bool). cond b (Ok (word_of us, after_word us)) (Err (place size us))) (ap is_name (same_word us ts i) ∙ e)) (fail size ts least_name)

pub fresh_reads : (size : ℕ) (names : Names) (ts : Tokens) → Reads size (FreshOf names) (fresh_name size names) (fresh_name size names) ts
unfolding fresh_name
fresh_reads size names ts = by (is_name (word_of ts) && not (is_among names (word_of ts))) refl where
  by : (b : Bool) → (is_name (word_of ts) && not (is_among names (word_of ts))) ≡ b → Reads size (FreshOf names) (fresh_name size names) (fresh_name size names) ts
  by true e =
      let s = fresh_sound size names ts (word_of ts, after_word ts) (ap (λ (b : Bool). cond b (Ok (word_of ts, after_word ts)) (Err (place size ts))) e) in
      taken_one size (word (word_of ts) s.0) (word_of ts) (after_word ts) s.1 (fresh_of s.0 s.2 s.3) (λ late. fresh_same size names (word_of ts) s.0 late s.2 s.3)
  by false e =
      along size (ap (λ (b : Bool). cond b (Ok (word_of ts, after_word ts)) (Err (place size ts))) e)
      (λ us i. ap (λ (b : Bool). cond b (Ok (word_of us, after_word us)) (Err (place size us))) (ap (λ (x : Bytes). is_name x && not (is_among names x)) (same_word us ts i) ∙ e))
      (fail size ts (least_fresh names))

pub number_reads : (size : ℕ) (ts : Tokens) → Reads size NumberOf (number_at size) (number_at size) ts
unfolding number_at
number_reads size ts = by (number_of (word_of ts)) refl where
  by : (o : Option ℕ) → number_of (word_of ts) ≡ o → Reads size NumberOf (number_at size) (number_at size) ts
  by (Some n) e =
      let s = number_sound size ts (n, after_word ts) (ap (λ (o : Option ℕ). found_by size o ts (after_word ts)) e) in
      taken_one size (word (decimal n) s.0) n (after_word ts) s.1 (number_is s.0 s.2) (λ late. number_same size n s.0 late s.2)
  by None e =
      along size (ap (λ (o : Option ℕ). found_by size o ts (after_word ts)) e)
      (λ us i. ap (λ (o : Option ℕ). found_by size o us (after_word us)) (ap number_of (same_word us ts i) ∙ e)) (fail size ts least_number)

pub member_reads : (size : ℕ) (ts : Tokens) → Reads size MemberOf (member_at size) (member_at size) ts
unfolding member_at
member_reads size ts = by (member_of (word_of ts)) refl where
  by : (o : Option JsMember) → member_of (word_of ts) ≡ o → Reads size MemberOf (member_at size) (member_at size) ts
  by (Some n) e =
      let s = member_sound size ts (n, after_word ts) (ap (λ (o : Option JsMember). found_by size o ts (after_word ts)) e) in
      taken_one size (word (member_text n) s.0) n (after_word ts) s.1 (member_is s.0) (λ late. member_same size n s.0 late)
  by None e =
      along size (ap (λ (o : Option JsMember). found_by size o ts (after_word ts)) e)
      (λ us i. ap (λ (o : Option JsMember). found_by size o us (after_word us)) (ap member_of (same_word us ts i) ∙ e)) (fail size ts least_member)

same_string : (late rest : Tokens) → head_of late ≡ head_of rest → string_of late ≡ string_of rest
same_string [] [] e = refl
same_string [] (t ∷ rest) e = absurd cc
same_string (t ∷ late) [] e = absurd cc
same_string (t ∷ late) (u ∷ rest) e = let same : t ≡ u = cc in ap (λ (x : Token). string_by x.form) same

pub string_reads : (size : ℕ) (ts : Tokens) → Reads size StringOf (string_at size) (string_at size) ts
unfolding string_at
string_reads size ts = by (string_of ts) refl where
  by : (o : Option (List ℕ)) → string_of ts ≡ o → Reads size StringOf (string_at size) (string_at size) ts
  by (Some us) e =
      let s = string_sound size ts (us, behind ts) (ap (λ (o : Option (List ℕ)). found_by size o ts (behind ts)) e) in
      taken_one size (quoted us s.0) us (behind ts) s.1 (string_is s.0) (λ late. string_same size us s.0 late)
  by None e =
      along size (ap (λ (o : Option (List ℕ)). found_by size o ts (behind ts)) e)
      (λ us i. ap (λ (o : Option (List ℕ)). found_by size o us (behind us)) (same_string us ts i ∙ e)) (fail size ts least_string)
