-- Words and signs are found by their spelling.
use Rattle.std.proofs.Common.{◌≡◌, ℕ, ◌≤◌, Bool, true, false, List, [], ◌∷◌, ◌++◌, length, drop, Option, Some, None, refl, sym, ap, ◌∙◌, subst, ◌⊎◌, inl, inr, arith, rules}
use Rattle.std.specs.Prelude.{not, ◌&&◌, ◌||◌, ◌==◌, nat_eq, nat_le, find}
use Rattle.std.specs.List.{starts_with, list_all}
use Rattle.std.specs.Str.{bytes_eq}
use Rattle.std.proofs.lemmas.Bool.Decides.{Decides-eqb}
use Rattle.std.proofs.lemmas.Slice.Eq.{bytes_eq-Decides, starts_is}
use Rattle.std.proofs.lemmas.Bool.{leb-true}
use denote.Enum.Bare.{sameb, same_true}
use Rattle.dart_syntax.specs.contracts.words.Word as word
use Rattle.dart_syntax.specs.contracts.words.Sign as sign
use Rattle.dart_syntax.specs.declared.words.Word.{Word}
use Rattle.dart_syntax.specs.declared.words.Word.TheVariants as w
use Rattle.dart_syntax.specs.declared.words.Sign.{Sign}
use Rattle.dart_syntax.specs.declared.words.Sign.TheVariants as s
use Rattle.dart_syntax.specs.declared.words.TheConstants.{WORDS, SIGNS}
use Rattle.dart_syntax.specs.Table.{Bytes, is_digit, is_start, is_blank, spelling_of_word, spelling_of_sign, is_identifier, word_of}
use Rattle.dart_syntax.specs.Reader.{sign_of}
use Rattle.dart_syntax.proofs.Fronts.{tells, clash, not_true, and_left, and_right}

-- ---- what is found in a list

module _ {X : Type 0} where
  abbrev pub IsIn : X → List X → Type 0
  IsIn x [] = ⊥
  IsIn x (y ∷ ys) = (x ≡ y) ⊎ IsIn x ys

  pub find_some : (q : X → Bool) (xs : List X) (x : X) → find q xs ≡ Some x → q x ≡ true
  find_some q [] x h = absurd cc
  find_some q (y ∷ ys) x h = elim (tells (q y)) [
    | inl e ↦ let k = rw e at h in let same : y ≡ x = cc in subst (λ (z : X). q z ≡ true) same e
    | inr e ↦ find_some q ys x (rw e at h)
  ]

  pub find_none : (q : X → Bool) (xs : List X) (x : X) → find q xs ≡ None → IsIn x xs → q x ≡ false
  find_none q [] x h i = absurd i
  find_none q (y ∷ ys) x h (inl s) = elim (tells (q y)) [
    | inl e ↦ absurd (let k = rw e at h in cc)
    | inr e ↦ subst (λ (z : X). q z ≡ false) (sym s) e
  ]
  find_none q (y ∷ ys) x h (inr j) = elim (tells (q y)) [
    | inl e ↦ absurd (let k = rw e at h in cc)
    | inr e ↦ find_none q ys x (rw e at h) j
  ]

  pub all_in : (q : X → Bool) (xs : List X) (x : X) → list_all q xs ≡ true → IsIn x xs → q x ≡ true
  all_in q [] x a i = absurd i
  all_in q (y ∷ ys) x a (inl s) = elim (tells (q y)) [
    | inl e ↦ subst (λ (z : X). q z ≡ true) (sym s) e
    | inr e ↦ absurd (let k = rw e at a in cc)
  ]
  all_in q (y ∷ ys) x a (inr j) = elim (tells (q y)) [
    | inl e ↦ all_in q ys x (rw e at a) j
    | inr e ↦ absurd (let k = rw e at a in cc)
  ]

-- ---- texts

pub same_text : (t u : Bytes) → bytes_eq t u ≡ true → t ≡ u
same_text t u h = grind (arith, bytes_eq-Decides)

pub text_same : (t u : Bytes) → t ≡ u → bytes_eq t u ≡ true
text_same t u h = grind (arith, bytes_eq-Decides)

pub starts_text : (t rest : Bytes) → starts_with nat_eq (t ++ rest) t ≡ true
starts_text t rest = (starts_is Decides-eqb (t ++ rest) t _ refl).1 rest refl

pub text_starts : (bs t : Bytes) → starts_with nat_eq bs t ≡ true → bs ≡ t ++ drop (length t) bs
text_starts bs t h = (starts_is Decides-eqb bs t _ refl).0 h

-- ---- words, each by trying all

word_found : (x : Word) → word_of (spelling_of_word x) ≡ Some x
word_found w.If = refl
word_found _ = refl

pub word_one : (x y : Word) → spelling_of_word x ≡ spelling_of_word y → x ≡ y
word_one x y e = let s : Some x ≡ Some y = sym (word_found x) ∙ (ap word_of e ∙ word_found y) in cc

abbrev word_among : Word → List Word → Bool
word_among x [] = false
word_among x (y ∷ ys) = sameb word.the_type x y || word_among x ys

word_in_of : (x : Word) (xs : List Word) → word_among x xs ≡ true → IsIn x xs
word_in_of x [] h = absurd cc
word_in_of x (y ∷ ys) h = elim (tells (sameb word.the_type x y)) [
  | inl e ↦ inl (same_true word.the_type (search rules) x y e)
  | inr e ↦ inr (word_in_of x ys (rw e at h))
]

word_all : (x : Word) → word_among x WORDS ≡ true
word_all w.If = refl
word_all _ = refl

pub word_in : (x : Word) → IsIn x WORDS
word_in x = word_in_of x WORDS (word_all x)

pub word_shape : (x : Word) → is_identifier (spelling_of_word x) ≡ true
word_shape w.If = refl
word_shape _ = refl

pub no_word : (t : Bytes) → word_of t ≡ None → (x : Word) → spelling_of_word x ≡ t → ⊥
no_word t n x e = clash (text_same (spelling_of_word x) t e) (find_none (λ y. bytes_eq (spelling_of_word y) t) WORDS x n (word_in x))

pub word_text : (t : Bytes) (x : Word) → word_of t ≡ Some x → spelling_of_word x ≡ t
word_text t x h = same_text (spelling_of_word x) t (find_some (λ y. bytes_eq (spelling_of_word y) t) WORDS x h)

-- ---- signs, each by trying all

abbrev sign_spelled : Bytes → Option Sign
sign_spelled t = find (λ x. bytes_eq (spelling_of_sign x) t) SIGNS

sign_found : (x : Sign) → sign_spelled (spelling_of_sign x) ≡ Some x
sign_found s.Plus = refl
sign_found _ = refl

pub sign_one : (x y : Sign) → spelling_of_sign x ≡ spelling_of_sign y → x ≡ y
sign_one x y e = let s : Some x ≡ Some y = sym (sign_found x) ∙ (ap sign_spelled e ∙ sign_found y) in cc

abbrev sign_among : Sign → List Sign → Bool
sign_among x [] = false
sign_among x (y ∷ ys) = sameb sign.the_type x y || sign_among x ys

sign_in_of : (x : Sign) (xs : List Sign) → sign_among x xs ≡ true → IsIn x xs
sign_in_of x [] h = absurd cc
sign_in_of x (y ∷ ys) h = elim (tells (sameb sign.the_type x y)) [
  | inl e ↦ inl (same_true sign.the_type (search rules) x y e)
  | inr e ↦ inr (sign_in_of x ys (rw e at h))
]

sign_all : (x : Sign) → sign_among x SIGNS ≡ true
sign_all s.Plus = refl
sign_all _ = refl

pub sign_in : (x : Sign) → IsIn x SIGNS
sign_in x = sign_in_of x SIGNS (sign_all x)

-- a sign's first byte begins nothing else
abbrev pub is_plain : ℕ → Bool
is_plain b = not (is_start b) && not (is_digit b) && not (is_blank b) && not (b == 47)

abbrev pub begins_plain : Bytes → Bool
begins_plain [] = false
begins_plain (b ∷ bs) = is_plain b

pub sign_shape : (x : Sign) → begins_plain (spelling_of_sign x) ≡ true
sign_shape s.Plus = refl
sign_shape _ = refl

pub record Plain (b : ℕ) : Type 0 where
  pub no_start : is_start b ≡ false
  pub no_digit : is_digit b ≡ false
  pub no_blank : is_blank b ≡ false
  pub no_slash : (b == 47) ≡ false

pub plain_of : (b : ℕ) → is_plain b ≡ true → Plain b
plain_of b h =
    let s = and_left _ _ h in
    record {
      no_start = not_true _ (and_left _ _ (and_left _ _ s));
      no_digit = not_true _ (and_right _ _ (and_left _ _ s));
      no_blank = not_true _ (and_right _ _ s);
      no_slash = not_true _ (and_right _ _ h);
    }

-- the longer ones come first
abbrev falls : List Sign → Bool
falls [] = true
falls (x ∷ xs) = list_all (λ y. nat_le (length (spelling_of_sign y)) (length (spelling_of_sign x))) xs && falls xs

signs_fall : falls SIGNS ≡ true
signs_fall = refl

-- the first that passes is at least as long as each other that passes
first_longest : (q : Sign → Bool) (xs : List Sign) (x y : Sign) → falls xs ≡ true → find q xs ≡ Some x → IsIn y xs → q y ≡ true → length (spelling_of_sign y) ≤ length (spelling_of_sign x)
first_longest q [] x y f h i p = absurd i
first_longest q (z ∷ zs) x y f h (inl s) p = elim (tells (q z)) [
  | inl e ↦ let k = rw e at h in let same : z ≡ x = cc in omega (arith, ap (λ (v : Sign). length (spelling_of_sign v)) (s ∙ same))
  | inr e ↦ absurd (let no : q z ≡ true = subst (λ (v : Sign). q v ≡ true) s p in cc)
]
first_longest q (z ∷ zs) x y f h (inr j) p = elim (tells (q z)) [
  | inl e ↦
      let k = rw e at h in
      let same : z ≡ x = cc in
      let le : length (spelling_of_sign y) ≤ length (spelling_of_sign z) = leb-true _ _ (all_in (λ v. nat_le (length (spelling_of_sign v)) (length (spelling_of_sign z))) zs y (and_left _ _ f) j) in
      omega (arith, le, ap (λ (v : Sign). length (spelling_of_sign v)) same)
  | inr e ↦ first_longest q zs x y (and_right _ _ f) (rw e at h) j p
]

-- the sign that is found is at least as long as every other that stands here
pub sign_first : (bs : Bytes) (x y : Sign) (rest : Bytes) → sign_of bs ≡ Some x → bs ≡ spelling_of_sign y ++ rest → length (spelling_of_sign y) ≤ length (spelling_of_sign x)
sign_first bs x y rest h e =
    let stands : starts_with nat_eq bs (spelling_of_sign y) ≡ true = subst (λ (t : Bytes). starts_with nat_eq t (spelling_of_sign y) ≡ true) (sym e) (starts_text (spelling_of_sign y) rest) in
    first_longest (λ z. starts_with nat_eq bs (spelling_of_sign z)) SIGNS x y signs_fall h (sign_in y) stands

pub no_sign : (bs : Bytes) → sign_of bs ≡ None → (x : Sign) (rest : Bytes) → bs ≡ spelling_of_sign x ++ rest → ⊥
no_sign bs n x rest e = clash (subst (λ (t : Bytes). starts_with nat_eq t (spelling_of_sign x) ≡ true) (sym e) (starts_text (spelling_of_sign x) rest)) (find_none (λ z. starts_with nat_eq bs (spelling_of_sign z)) SIGNS x n (sign_in x))

pub sign_text : (bs : Bytes) (x : Sign) → sign_of bs ≡ Some x → bs ≡ spelling_of_sign x ++ drop (length (spelling_of_sign x)) bs
sign_text bs x h = text_starts bs (spelling_of_sign x) (find_some (λ z. starts_with nat_eq bs (spelling_of_sign z)) SIGNS x h)
