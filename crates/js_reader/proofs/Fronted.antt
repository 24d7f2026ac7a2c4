-- What an answer of a parser's parts says.
use Rattle.std.proofs.Common.{◌≡◌, ◌⊎◌, ℕ, ◌<◌, ◌≤◌, Bool, true, false, cond, List, [], ◌∷◌, length, Option, Some, None, Result, Ok, Err, refl, sym, ap, ◌∙◌, subst, inl, inr, arith}
use Rattle.std.specs.Prelude.{not, ◌&&◌, codes}
use Rattle.std.specs.Str.{bytes_eq}
use Rattle.std.specs.Fmt.{decimal}
use Rattle.std.proofs.lemmas.Fmt.{decimal_is_IsNumeral}
use Rattle.js_tree.specs.Tokens.{Bytes, Form, Run, Quoted, Sign, Unreadable, Place, Token, Tokens}
use Rattle.js_tree.specs.Grammar.{word, quoted, sign, is_sign_form, next_is, Names, is_name, is_among, greatest}
use Rattle.js_tree.specs.declared.words.JsMember.{JsMember}
use Rattle.js_tree.specs.declared.words.JsOperator.{JsOperator}
use Rattle.js_tree.specs.declared.words.JsMember.TheVariants as mm
use Rattle.js_tree.specs.declared.words.JsOperator.TheVariants as oo
use Rattle.js_tree.specs.Words.{member_text, operator_text}
use Rattle.js_reader.specs.Taking.{◌>>=◌, place, sign_by, word_by, string_by, sign_of, word_of, is_some_text, after_sign, after_word, sign_is, word_is, number_of, member_of, operator_of, expect, expect_word, name_at, fresh_name, found_by, number_at, member_at, string_at}
use Rattle.js_reader.proofs.Digits.{bytes_same, same_bytes, digits_are, digits_found, greatest_small}

pub bind_ok : {A B : Type 0} (o : Result A ℕ) (f : A → Result B ℕ) (y : B) → (o >>= f) ≡ Ok y → (x : A) × (o ≡ Ok x) × (f x ≡ Ok y)
bind_ok (Err at) f y h = absurd cc
bind_ok (Ok x) f y h = (x, refl, h)

pub ok_is : {A : Type 0} (x y : A) → (let s : A → Result A ℕ = Ok in s x ≡ s y) → x ≡ y
ok_is x y h = cc

pub chosen : {A : Type 0} (b : Bool) (x y z : A) → cond b x y ≡ z → ((b ≡ true) × (x ≡ z)) ⊎ ((b ≡ false) × (y ≡ z))
chosen true x y z h = inl (refl, h)
chosen false x y z h = inr (refl, h)

-- ---- a sign or a word at the front

sign_form_is : (c : ℕ) (more : Bytes) (f : Form) → bytes_eq (sign_by f) (c ∷ more) ≡ true → f ≡ Sign (c ∷ more)
sign_form_is c more (Sign x) h = ap Sign (bytes_same x (c ∷ more) h)
sign_form_is c more (Run x) h = absurd cc
sign_form_is c more (Quoted x) h = absurd cc
sign_form_is c more Unreadable h = absurd cc

word_form_is : (c : ℕ) (more : Bytes) (f : Form) → bytes_eq (word_by f) (c ∷ more) ≡ true → f ≡ Run (c ∷ more)
word_form_is c more (Run x) h = ap Run (bytes_same x (c ∷ more) h)
word_form_is c more (Sign x) h = absurd cc
word_form_is c more (Quoted x) h = absurd cc
word_form_is c more Unreadable h = absurd cc

abbrev as_token : Form → Place → Token
as_token f p = record { form = f; place = p }

sign_behind : (t : Token) (ts : Tokens) (c : ℕ) (more : Bytes) → t.form ≡ Sign (c ∷ more) → after_sign (t ∷ ts) ≡ ts
unfolding after_sign
sign_behind t ts c more e = ap (λ (f : Form). cond (is_some_text (sign_by f)) ts (t ∷ ts)) e

word_behind : (t : Token) (ts : Tokens) (c : ℕ) (more : Bytes) → t.form ≡ Run (c ∷ more) → after_word (t ∷ ts) ≡ ts
unfolding after_word
word_behind t ts c more e = ap (λ (f : Form). cond (is_some_text (word_by f)) ts (t ∷ ts)) e

pub sign_next : (c : ℕ) (more : Bytes) (ts : Tokens) → sign_is (c ∷ more) ts ≡ true → (p : Place) × (ts ≡ sign (c ∷ more) p ∷ after_sign ts)
sign_next c more [] h = absurd cc
sign_next c more (t ∷ ts) h =
    let form = sign_form_is c more t.form h in
    (t.place, ap (λ (f : Form). as_token f t.place ∷ ts) form ∙ ap (λ (r : Tokens). sign (c ∷ more) t.place ∷ r) (sym (sign_behind t ts c more form)))

pub word_next : (c : ℕ) (more : Bytes) (ts : Tokens) → word_is (c ∷ more) ts ≡ true → (p : Place) × (ts ≡ word (c ∷ more) p ∷ after_word ts)
word_next c more [] h = absurd cc
word_next c more (t ∷ ts) h =
    let form = word_form_is c more t.form h in
    (t.place, ap (λ (f : Form). as_token f t.place ∷ ts) form ∙ ap (λ (r : Tokens). word (c ∷ more) t.place ∷ r) (sym (word_behind t ts c more form)))

-- a run of at least a byte stands at the front
some_word : (ts : Tokens) → is_some_text (word_of ts) ≡ true → (p : Place) × (ts ≡ word (word_of ts) p ∷ after_word ts)
unfolding after_word
some_word [] h = absurd cc
some_word (t ∷ ts) h = (t.place, by t.form h) where
  by : (f : Form) → is_some_text (word_by f) ≡ true → as_token f t.place ∷ ts ≡ word (word_by f) t.place ∷ cond (is_some_text (word_by f)) ts (as_token f t.place ∷ ts)
  by (Run x) e = ap (λ (b : Bool). word x t.place ∷ cond b ts (word x t.place ∷ ts)) (sym e)
  by (Sign x) e = absurd cc
  by (Quoted x) e = absurd cc
  by Unreadable e = absurd cc

name_some : (x : Bytes) → is_name x ≡ true → is_some_text x ≡ true
name_some [] h = absurd cc
name_some (c ∷ x) h = refl

pub name_sound : (size : ℕ) (ts : Tokens) (r : Bytes × Tokens) → name_at size ts ≡ Ok r → (p : Place) × (ts ≡ word r.0 p ∷ r.1) × (is_name r.0 ≡ true)
unfolding name_at
name_sound size ts r h = elim (chosen (is_name (word_of ts)) (Ok (word_of ts, after_word ts)) (Err (place size ts)) (Ok r) h) [
  | inl y ↦
      let n = some_word ts (name_some (word_of ts) y.0) in
      let is = ok_is (word_of ts, after_word ts) r y.1 in
      (n.0, n.1 ∙ ap (λ (z : Bytes × Tokens). word z.0 n.0 ∷ z.1) is, subst (λ (z : Bytes × Tokens). is_name z.0 ≡ true) is y.0)
  | inr y ↦ absurd cc
]

both_of : (x y : Bool) → (x && not y) ≡ true → (x ≡ true) × (y ≡ false)
both_of true true h = absurd cc
both_of true false h = (refl, refl)
both_of false y h = absurd cc

pub fresh_sound : (size : ℕ) (names : Names) (ts : Tokens) (r : Bytes × Tokens) → fresh_name size names ts ≡ Ok r
    → (p : Place) × (ts ≡ word r.0 p ∷ r.1) × (is_name r.0 ≡ true) × (is_among names r.0 ≡ false)
unfolding fresh_name
fresh_sound size names ts r h = elim (chosen (is_name (word_of ts) && not (is_among names (word_of ts))) (Ok (word_of ts, after_word ts)) (Err (place size ts)) (Ok r) h) [
  | inl y ↦
      let b = both_of (is_name (word_of ts)) (is_among names (word_of ts)) y.0 in
      let n = some_word ts (name_some (word_of ts) b.0) in
      let is = ok_is (word_of ts, after_word ts) r y.1 in
      (n.0, n.1 ∙ ap (λ (z : Bytes × Tokens). word z.0 n.0 ∷ z.1) is, subst (λ (z : Bytes × Tokens). is_name z.0 ≡ true) is b.0, subst (λ (z : Bytes × Tokens). is_among names z.0 ≡ false) is b.1)
  | inr y ↦ absurd cc
]

found_is : {A : Type 0} (size : ℕ) (o : Option A) (ts rest : Tokens) (r : A × Tokens) → found_by size o ts rest ≡ Ok r → (o ≡ Some r.0) × (rest ≡ r.1)
found_is size None ts rest r h = absurd cc
found_is {A} size (Some x) ts rest r h = let is = ok_is (x, rest) r h in (ap (λ (z : A × Tokens). Some z.0) is, ap (λ (z : A × Tokens). z.1) is)

some_text : (x : Bytes) → 0 < length x → is_some_text x ≡ true
some_text [] h = absurd (omega arith)
some_text (c ∷ x) h = refl

number_some : (x : Bytes) (n : ℕ) → number_of x ≡ Some n → is_some_text x ≡ true
number_some x n h =
    let d = digits_are x n h in
    subst (λ (y : Bytes). is_some_text y ≡ true) (sym d.0) (some_text (decimal n) (decimal_is_IsNumeral n (greatest_small n d.1)).0.0)

pub number_sound : (size : ℕ) (ts : Tokens) (r : ℕ × Tokens) → number_at size ts ≡ Ok r → (p : Place) × (ts ≡ word (decimal r.0) p ∷ r.1) × (r.0 ≤ greatest)
unfolding number_at
number_sound size ts r h =
    let f = found_is size (number_of (word_of ts)) ts (after_word ts) r h in
    let d = digits_are (word_of ts) r.0 f.0 in
    let n = some_word ts (number_some (word_of ts) r.0 f.0) in
    (n.0, n.1 ∙ (ap (λ (x : Bytes). word x n.0 ∷ after_word ts) d.0 ∙ ap (λ (x : Tokens). word (decimal r.0) n.0 ∷ x) f.1), d.1)

-- ---- members and operators

member_step : (x text : Bytes) (a m : JsMember) (rest : Option JsMember) → text ≡ member_text a → (rest ≡ Some m → x ≡ member_text m) → cond (bytes_eq x text) (Some a) rest ≡ Some m → x ≡ member_text m
member_step x text a m rest t again h = by (bytes_eq x text) refl h where
  by : (b : Bool) → bytes_eq x text ≡ b → cond b (Some a) rest ≡ Some m → x ≡ member_text m
  by true e s = let same : a ≡ m = cc in bytes_same x text e ∙ (t ∙ ap member_text same)
  by false e s = again s

pub member_is : (x : Bytes) (m : JsMember) → member_of x ≡ Some m → x ≡ member_text m
member_is x m h =
    member_step x (codes "length") mm.Length m _ refl (λ h0. member_step x (codes "size") mm.Size m _ refl (λ h1. member_step x (codes "push") mm.Push m _ refl (λ h2. member_step x (codes "pop") mm.Pop m _ refl (λ h3. member_step x (codes "charCodeAt") mm.CharCodeAt m _ refl (λ h4. member_step x (codes "substring") mm.Substring m _ refl (λ h5. member_step x (codes "get") mm.Get m _ refl (λ h6. member_step x (codes "set") mm.Set m _ refl (λ h7. member_step x (codes "has") mm.Has m _ refl (λ h8. member_step x (codes "delete") mm.Delete m _ refl (λ h9. member_step x (codes "keys") mm.Keys m _ refl (λ h10. member_step x (codes "print") mm.Print m _ refl (λ h11. member_step x (codes "load") mm.Load m _ refl (λ h12. absurd cc) h11) h10) h9) h8) h7) h6) h5) h4) h3) h2) h1) h0) h

operator_step : (x text : Bytes) (a m : JsOperator) (rest : Option JsOperator) → text ≡ operator_text a → (rest ≡ Some m → x ≡ operator_text m) → cond (bytes_eq x text) (Some a) rest ≡ Some m → x ≡ operator_text m
operator_step x text a m rest t again h = by (bytes_eq x text) refl h where
  by : (b : Bool) → bytes_eq x text ≡ b → cond b (Some a) rest ≡ Some m → x ≡ operator_text m
  by true e s = let same : a ≡ m = cc in bytes_same x text e ∙ (t ∙ ap operator_text same)
  by false e s = again s

pub operator_is : (x : Bytes) (m : JsOperator) → operator_of x ≡ Some m → x ≡ operator_text m
operator_is x m h =
    operator_step x (codes "+") oo.Plus m _ refl (λ h0. operator_step x (codes "-") oo.Minus m _ refl (λ h1. operator_step x (codes "*") oo.Times m _ refl (λ h2. operator_step x (codes "/") oo.Divide m _ refl (λ h3. operator_step x (codes "%") oo.Remainder m _ refl (λ h4. operator_step x (codes "===") oo.Equal m _ refl (λ h5. operator_step x (codes "<") oo.Less m _ refl (λ h6. operator_step x (codes ">") oo.Greater m _ refl (λ h7. operator_step x (codes "<=") oo.LessEqual m _ refl (λ h8. operator_step x (codes ">=") oo.GreaterEqual m _ refl (λ h9. absurd cc) h8) h7) h6) h5) h4) h3) h2) h1) h0) h

member_some : (x : Bytes) (m : JsMember) → member_of x ≡ Some m → is_some_text x ≡ true
member_some [] m h = absurd cc
member_some (c ∷ x) m h = refl

pub member_sound : (size : ℕ) (ts : Tokens) (r : JsMember × Tokens) → member_at size ts ≡ Ok r → (p : Place) × (ts ≡ word (member_text r.0) p ∷ r.1)
unfolding member_at
member_sound size ts r h =
    let f = found_is size (member_of (word_of ts)) ts (after_word ts) r h in
    let n = some_word ts (member_some (word_of ts) r.0 f.0) in
    (n.0, n.1 ∙ (ap (λ (x : Bytes). word x n.0 ∷ after_word ts) (member_is (word_of ts) r.0 f.0) ∙ ap (λ (x : Tokens). word (member_text r.0) n.0 ∷ x) f.1))

-- a sign of at least a byte stands at the front
some_sign : (ts : Tokens) → is_some_text (sign_of ts) ≡ true → (p : Place) × (ts ≡ sign (sign_of ts) p ∷ after_sign ts)
unfolding after_sign
some_sign [] h = absurd cc
some_sign (t ∷ ts) h = (t.place, by t.form h) where
  by : (f : Form) → is_some_text (sign_by f) ≡ true → as_token f t.place ∷ ts ≡ sign (sign_by f) t.place ∷ cond (is_some_text (sign_by f)) ts (as_token f t.place ∷ ts)
  by (Sign x) e = ap (λ (b : Bool). sign x t.place ∷ cond b ts (sign x t.place ∷ ts)) (sym e)
  by (Run x) e = absurd cc
  by (Quoted x) e = absurd cc
  by Unreadable e = absurd cc

operator_some : (x : Bytes) (m : JsOperator) → operator_of x ≡ Some m → is_some_text x ≡ true
operator_some [] m h = absurd cc
operator_some (c ∷ x) m h = refl

pub operator_next : (ts : Tokens) (o : JsOperator) → operator_of (sign_of ts) ≡ Some o → (p : Place) × (ts ≡ sign (operator_text o) p ∷ after_sign ts)
operator_next ts o h =
    let n = some_sign ts (operator_some (sign_of ts) o h) in
    (n.0, n.1 ∙ ap (λ (x : Bytes). sign x n.0 ∷ after_sign ts) (operator_is (sign_of ts) o h))

string_form_is : (f : Form) (us : List ℕ) → string_by f ≡ Some us → f ≡ Quoted us
string_form_is (Quoted x) us h = let same : x ≡ us = cc in ap Quoted same
string_form_is (Run x) us h = absurd cc
string_form_is (Sign x) us h = absurd cc
string_form_is Unreadable us h = absurd cc

pub string_sound : (size : ℕ) (ts : Tokens) (r : List ℕ × Tokens) → string_at size ts ≡ Ok r → (p : Place) × (ts ≡ quoted r.0 p ∷ r.1)
unfolding string_at
string_sound size [] r h = absurd cc
string_sound size (t ∷ ts) r h =
    let f = found_is size (string_by t.form) (t ∷ ts) ts r h in
    (t.place, ap (λ (g : Form). as_token g t.place ∷ ts) (string_form_is t.form r.0 f.0) ∙ ap (λ (x : Tokens). quoted r.0 t.place ∷ x) f.1)

-- ---- the other way

pub bytes_refl : (x : Bytes) → bytes_eq x x ≡ true
bytes_refl x = same_bytes x x refl

pub expect_same : (size c : ℕ) (more : Bytes) (p : Place) (ts : Tokens) → expect size (c ∷ more) (sign (c ∷ more) p ∷ ts) ≡ Ok ts
unfolding expect after_sign
expect_same size c more p ts = ap (λ (b : Bool). cond b (Ok ts) (Err p.from)) (bytes_refl (c ∷ more))

pub expect_word_same : (size c : ℕ) (more : Bytes) (p : Place) (ts : Tokens) → expect_word size (c ∷ more) (word (c ∷ more) p ∷ ts) ≡ Ok ts
unfolding expect_word after_word
expect_word_same size c more p ts = ap (λ (b : Bool). cond b (Ok ts) (Err p.from)) (bytes_refl (c ∷ more))

pub after_sign_same : (c : ℕ) (more : Bytes) (p : Place) (ts : Tokens) → after_sign (sign (c ∷ more) p ∷ ts) ≡ ts
unfolding after_sign
after_sign_same c more p ts = refl

pub after_word_same : (c : ℕ) (more : Bytes) (p : Place) (ts : Tokens) → after_word (word (c ∷ more) p ∷ ts) ≡ ts
unfolding after_word
after_word_same c more p ts = refl

pub name_same : (size : ℕ) (x : Bytes) (p : Place) (ts : Tokens) → is_name x ≡ true → name_at size (word x p ∷ ts) ≡ Ok (x, ts)
unfolding name_at after_word
name_same size [] p ts h = absurd cc
name_same size (c ∷ x) p ts h = ap (λ (b : Bool). cond b (Ok (c ∷ x, ts)) (Err p.from)) h

pub fresh_same : (size : ℕ) (names : Names) (x : Bytes) (p : Place) (ts : Tokens) → is_name x ≡ true → is_among names x ≡ false → fresh_name size names (word x p ∷ ts) ≡ Ok (x, ts)
unfolding fresh_name after_word
fresh_same size names [] p ts h k = absurd cc
fresh_same size names (c ∷ x) p ts h k = ap (λ (b : Bool). cond (b && not (is_among names (c ∷ x))) (Ok (c ∷ x, ts)) (Err p.from)) h ∙ ap (λ (b : Bool). cond (not b) (Ok (c ∷ x, ts)) (Err p.from)) k

some_after : (x : Bytes) (p : Place) (ts : Tokens) → is_some_text x ≡ true → after_word (word x p ∷ ts) ≡ ts
unfolding after_word
some_after x p ts h = ap (λ (b : Bool). cond b ts (word x p ∷ ts)) h

pub number_same : (size n : ℕ) (p : Place) (ts : Tokens) → n ≤ greatest → number_at size (word (decimal n) p ∷ ts) ≡ Ok (n, ts)
unfolding number_at
number_same size n p ts h =
    ap (λ o. found_by size o (word (decimal n) p ∷ ts) (after_word (word (decimal n) p ∷ ts))) (digits_found n h)
    ∙ ap (λ (r : Tokens). Ok (n, r)) (some_after (decimal n) p ts (number_some (decimal n) n (digits_found n h)))

pub member_found : (m : JsMember) → member_of (member_text m) ≡ Some m
member_found mm.Length = refl
member_found mm.Size = refl
member_found mm.Push = refl
member_found mm.Pop = refl
member_found mm.CharCodeAt = refl
member_found mm.Substring = refl
member_found mm.Get = refl
member_found mm.Set = refl
member_found mm.Has = refl
member_found mm.Delete = refl
member_found mm.Keys = refl
member_found mm.Print = refl
member_found mm.Load = refl

pub member_same : (size : ℕ) (m : JsMember) (p : Place) (ts : Tokens) → member_at size (word (member_text m) p ∷ ts) ≡ Ok (m, ts)
unfolding member_at
member_same size m p ts =
    ap (λ o. found_by size o (word (member_text m) p ∷ ts) (after_word (word (member_text m) p ∷ ts))) (member_found m)
    ∙ ap (λ (r : Tokens). Ok (m, r)) (some_after (member_text m) p ts (member_some (member_text m) m (member_found m)))

pub operator_found : (o : JsOperator) → operator_of (operator_text o) ≡ Some o
operator_found oo.Plus = refl
operator_found oo.Minus = refl
operator_found oo.Times = refl
operator_found oo.Divide = refl
operator_found oo.Remainder = refl
operator_found oo.Equal = refl
operator_found oo.Less = refl
operator_found oo.Greater = refl
operator_found oo.LessEqual = refl
operator_found oo.GreaterEqual = refl

some_sign_after : (x : Bytes) (p : Place) (ts : Tokens) → is_some_text x ≡ true → after_sign (sign x p ∷ ts) ≡ ts
unfolding after_sign
some_sign_after x p ts h = ap (λ (b : Bool). cond b ts (sign x p ∷ ts)) h

pub operator_after : (o : JsOperator) (p : Place) (ts : Tokens) → after_sign (sign (operator_text o) p ∷ ts) ≡ ts
operator_after o p ts = some_sign_after (operator_text o) p ts (operator_some (operator_text o) o (operator_found o))

pub string_same : (size : ℕ) (us : List ℕ) (p : Place) (ts : Tokens) → string_at size (quoted us p ∷ ts) ≡ Ok (us, ts)
unfolding string_at
string_same size us p ts = refl

bytes_turn : (a b : Bytes) → bytes_eq a b ≡ bytes_eq b a
bytes_turn a b = by (bytes_eq a b) (bytes_eq b a) refl refl where
  by : (t u : Bool) → bytes_eq a b ≡ t → bytes_eq b a ≡ u → t ≡ u
  by true true x y = refl
  by false false x y = refl
  by true false x y = let z = same_bytes b a (sym (bytes_same a b x)) in cc
  by false true x y = let z = same_bytes a b (sym (bytes_same b a y)) in cc

pub next_is_sign : (c : ℕ) (more : Bytes) (ts : Tokens) → next_is (c ∷ more) ts ≡ sign_is (c ∷ more) ts
next_is_sign c more [] = refl
next_is_sign c more (t ∷ ts) = by t.form where
  by : (f : Form) → is_sign_form (c ∷ more) f ≡ bytes_eq (sign_by f) (c ∷ more)
  by (Sign x) = bytes_turn (c ∷ more) x
  by (Run x) = refl
  by (Quoted x) = refl
  by Unreadable = refl
