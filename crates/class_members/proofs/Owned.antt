-- The list of each class has exactly the members of the class.
use Rattle.std.proofs.Common.{◌≡◌, ◌⊎◌, inl, inr, ◌<◌, ℕ, suc, Bool, true, false, cond, List, [], ◌∷◌, ◌++◌, length, get_or, Option, Some, None, refl, sym, ap, ◌∙◌, subst}
use Rattle.std.specs.Prelude.{◌==◌, ◌≢◌, nat_lt, slice_get, slice_set, slice_index_or, replicate, if◌then◌else◌, is_none}
use Rattle.std.proofs.lemmas.Bool.{lt-ltb}
use Rattle.std.proofs.lemmas.Bool.Decides.{eqb_tells}
use Rattle.std.proofs.lemmas.List.{append_assoc, append-nil, length-set, get_or-set_same, get_or-set_other, get_or-replicate, length-replicate}
use Rattle.std.proofs.lemmas.Option.{slice_get-get_or}
use Rattle.class_heads.specs.Sources.{Sources, classes_in}
use Rattle.class_heads.specs.Bodies.{class_count}
use Rattle.class_members.specs.declared.members.MemberNode.{MemberNode}
use Rattle.class_members.specs.Members.{members}
use Rattle.class_members.specs.Owners.{numbers_from, is_number, is_of, is_outside, own_members, member_number, AreOwners}
use Rattle.class_members.specs.Steps.{with_outside, with_number_at, with_number, with_numbers}

-- ---- one more number

number_there : (c n : ℕ) (lists : List (List ℕ)) → c < length lists → with_number_at c n lists ≡ slice_set lists c (slice_index_or lists c [] ++ n ∷ [])
number_there c n lists lt = ap (λ b. cond b (slice_set lists c (slice_index_or lists c [] ++ n ∷ [])) lists) (lt-ltb c (length lists) lt)

long_at : (d n : ℕ) (lists : List (List ℕ)) → length (with_number_at d n lists) ≡ length lists
long_at d n lists = by (nat_lt d (length lists)) where
  by : (b : Bool) → length (cond b (slice_set lists d (slice_index_or lists d [] ++ n ∷ [])) lists) ≡ length lists
  by true = length-set lists d (slice_index_or lists d [] ++ n ∷ [])
  by false = refl

long_with : (o : Option ℕ) (n : ℕ) (lists : List (List ℕ)) → length (with_number o n lists) ≡ length lists
long_with None n lists = refl
long_with (Some d) n lists = long_at d n lists

-- the list of another class stays
other_at : (c d n : ℕ) (lists : List (List ℕ)) → (c ≡ d → ⊥) → get_or (with_number_at d n lists) c [] ≡ get_or lists c []
other_at c d n lists ne = by (nat_lt d (length lists)) where
  by : (b : Bool) → get_or (cond b (slice_set lists d (slice_index_or lists d [] ++ n ∷ [])) lists) c [] ≡ get_or lists c []
  by true = get_or-set_other lists d c (slice_index_or lists d [] ++ n ∷ []) [] ne
  by false = refl

own_at : (c n : ℕ) (lists : List (List ℕ)) → c < length lists → get_or (with_number_at c n lists) c [] ≡ get_or lists c [] ++ n ∷ []
own_at c n lists lt = ap (λ ls. get_or ls c []) (number_there c n lists lt) ∙ get_or-set_same lists c (slice_index_or lists c [] ++ n ∷ []) [] lt

-- behind the list of class c, before more numbers
next_at : (c d n : ℕ) (lists : List (List ℕ)) (more : List ℕ) → c < length lists → get_or (with_number_at d n lists) c [] ++ more ≡ get_or lists c [] ++ (if c == d then n ∷ more else more)
next_at c d n lists more lt = by (eqb_tells c d) where
  by : ((c == d) ≡ true) × (c ≡ d) ⊎ ((c == d) ≡ false) × (c ≢ d) → get_or (with_number_at d n lists) c [] ++ more ≡ get_or lists c [] ++ (if c == d then n ∷ more else more)
  by (inl (t, e)) =
      ap (λ k. get_or (with_number_at k n lists) c [] ++ more) (sym e)
      ∙ ap (λ xs. xs ++ more) (own_at c n lists lt)
      ∙ append_assoc (get_or lists c []) (n ∷ []) more
      ∙ ap (λ b. get_or lists c [] ++ cond b (n ∷ more) more) (sym t)
  by (inr (f, ne)) =
      ap (λ xs. xs ++ more) (other_at c d n lists ne)
      ∙ ap (λ b. get_or lists c [] ++ cond b (n ∷ more) more) (sym f)

next_own : (c : ℕ) (o : Option ℕ) (n : ℕ) (lists : List (List ℕ)) (more : List ℕ) → c < length lists → get_or (with_number o n lists) c [] ++ more ≡ get_or lists c [] ++ (if is_number c o then n ∷ more else more)
next_own c None n lists more lt = refl
next_own c (Some d) n lists more lt = next_at c d n lists more lt

-- ---- the numbers of all members

long_all : (n : ℕ) (lists : List (List ℕ)) (xs : List MemberNode) → length (with_numbers n lists xs) ≡ length lists
long_all n lists [] = refl
long_all n lists (x ∷ xs) = long_all (suc n) (with_number x.class n lists) xs ∙ long_with x.class n lists

all_own : (c n : ℕ) (lists : List (List ℕ)) (xs : List MemberNode) → c < length lists → get_or (with_numbers n lists xs) c [] ≡ get_or lists c [] ++ numbers_from n (is_of c) xs
all_own c n lists [] lt = sym (append-nil (get_or lists c []))
all_own c n lists (x ∷ xs) lt =
    all_own c (suc n) (with_number x.class n lists) xs (subst (λ m. c < m) (sym (long_with x.class n lists)) lt)
    ∙ next_own c x.class n lists (numbers_from (suc n) (is_of c) xs) lt

-- ---- lists for so many classes, all empty first

module _ (count : ℕ) (xs : List MemberNode) where
  abbrev lists : List (List ℕ)
  lists = with_numbers 0 (replicate count []) xs

  long_lists : length lists ≡ count
  long_lists = long_all 0 (replicate count []) xs ∙ length-replicate count []

  list_of : (c : ℕ) → c < count → slice_get lists c ≡ Some (numbers_from 0 (is_of c) xs)
  list_of c lt =
      slice_get-get_or lists c [] (subst (λ m. c < m) (sym long_lists) lt)
      ∙ ap Some (all_own c 0 (replicate count []) xs (subst (λ m. c < m) (sym (length-replicate count [])) lt)
      ∙ ap (λ ys. ys ++ numbers_from 0 (is_of c) xs) (get_or-replicate count c [] [] lt))

-- ---- numbers outside classes

pub outside_step : (o : Option ℕ) (n : ℕ) (before more : List ℕ) → with_outside o n before ++ more ≡ before ++ (if is_none o then n ∷ more else more)
outside_step None n before more = append_assoc before (n ∷ []) more
outside_step (Some c) n before more = refl

count_is : (p : Sources) → length (classes_in p) ≡ class_count p
unfolding class_count
count_is p = refl

own_is : (p : Sources) (c : ℕ) → numbers_from 0 (is_of c) (members p) ≡ own_members p c
unfolding own_members
own_is p c = refl

outside_is : (p : Sources) (k : ℕ) → slice_get (numbers_from 0 is_outside (members p)) k ≡ member_number p k
unfolding member_number
outside_is p k = refl

pub owners_are : (p : Sources) (count : ℕ) (all : List MemberNode) (of_classes : List (List ℕ)) (outside : List ℕ) → count ≡ length (classes_in p) → all ≡ members p → of_classes ≡ with_numbers 0 (replicate count []) all → outside ≡ numbers_from 0 is_outside all → AreOwners p (record { of_classes = of_classes; outside = outside })
owners_are p count all of_classes outside m a o e = let n : count ≡ class_count p = m ∙ count_is p in record {
  long = ap length o ∙ long_lists count all ∙ n;
  each = λ c lt. ap (λ ls. slice_get ls c) o ∙ list_of count all c (subst (λ k. c < k) (sym n) lt) ∙ ap (λ xs. Some (numbers_from 0 (is_of c) xs)) a ∙ ap Some (own_is p c);
  outside = λ k. ap (λ ns. slice_get ns k) e ∙ ap (λ xs. slice_get (numbers_from 0 is_outside xs) k) a ∙ outside_is p k;
}
