-- The first fault that is found file by file is the first of all.
use Rattle.std.proofs.Common.{◌≡◌, ◌⊎◌, ◌<◌, ◌≤◌, ◌+◌, ℕ, zero, suc, Bool, true, false, cond, List, [], ◌∷◌, ◌++◌, length, get_or, map, Option, Some, None, inl, inr, refl, sym, ap, ◌∙◌, subst, arith}
use Rattle.std.specs.Prelude.{nat_lt}
use Rattle.std.specs.List.{Contains, AllByRecursion}
use Rattle.std.specs.Option.{option_or}
use Rattle.std.proofs.lemmas.Bool.{ltb-true, ltb-false}
use Rattle.std.proofs.lemmas.List.{append-nil}
use Rattle.std.proofs.lemmas.List.Elements.{All-from_recursion, All-contains, Contains-append_left, Contains-append_right}
use Rattle.dart_syntax.specs.declared.rules.Rule.{Rule}
use Rattle.dart_syntax.specs.declared.rules.Rule.TheVariants.{L1, L2, L3, L4}
use Rattle.dart_syntax.specs.declared.rules.Refusal.{Refusal}
use Rattle.dart_grammar.specs.declared.declarations.FileTree.{FileTree}
use Rattle.dart_program.specs.declared.files.SourceFile.{SourceFile}
use Rattle.dart_program.specs.First.{Broken, ComesFirst, IsFirst, BreaksNone, phase_of, number_of}
use Rattle.library_scopes.specs.declared.libraries.Library.{Library}
use Rattle.library_scopes.specs.declared.libraries.Scopes.{Scopes}
use Rattle.library_scopes.specs.Least.{lesser, least_with, least}
use Rattle.library_scopes.specs.Taken.{double_places}
use Rattle.library_scopes.specs.Libraries.{scopes_of}
use Rattle.library_scopes.specs.Rules.{refusal, reused_places, entry_places, ambiguous_places, faults_in, faults_from, faults, IsBroken}
use Rattle.library_scopes.specs.First.{sooner, first_in, first_from}

-- ---- lists

contains_here : {A : Type 0} (x : A) (xs : List A) → Contains (x ∷ xs) x
contains_here x xs = (0, omega arith, refl)

contains_there : {A : Type 0} (y x : A) (xs : List A) → Contains xs x → Contains (y ∷ xs) x
contains_there y x xs h = (suc h.0, omega (arith, h.1), h.2)

contains_map : {A B : Type 0} (f : A → B) (xs : List A) (k : ℕ) (x : A) → k < length xs → get_or xs k x ≡ x → (i : ℕ) × (i < length (map f xs)) × (get_or (map f xs) i (f x) ≡ f x)
contains_map f [] k x lt e = absurd (omega (arith, lt))
contains_map f (y ∷ ys) zero x lt e = (0, omega arith, ap f e)
contains_map f (y ∷ ys) (suc k) x lt e = let h = contains_map f ys k x (omega (arith, lt)) e in (suc h.0, omega (arith, h.1), h.2)

all_joined : {A : Type 0} (P : A → Type 0) (xs ys : List A) → AllByRecursion P xs → AllByRecursion P ys → AllByRecursion P (xs ++ ys)
all_joined P [] ys h k = k
all_joined P (x ∷ xs) ys h k = (h.0, all_joined P xs ys h.1 k)

all_mapped : {A B : Type 0} (P : B → Type 0) (f : A → B) (xs : List A) → AllByRecursion (λ x. P (f x)) xs → AllByRecursion P (map f xs)
all_mapped P f [] h = h
all_mapped P f (x ∷ xs) h = (h.0, all_mapped P f xs h.1)

all_weaker : {A : Type 0} (P Q : A → Type 0) (xs : List A) → ((x : A) → P x → Q x) → AllByRecursion P xs → AllByRecursion Q xs
all_weaker P Q [] f h = h
all_weaker P Q (x ∷ xs) f h = (f x h.0, all_weaker P Q xs f h.1)

all_of : {A : Type 0} (P : A → Type 0) (xs : List A) → ((x : A) → P x) → AllByRecursion P xs
all_of P [] f = tt
all_of P (x ∷ xs) f = (f x, all_of P xs f)

-- ---- the least place

abbrev pub IsUpTo : ℕ → Option ℕ → Type 0
IsUpTo m None = Unit {0}
IsUpTo m (Some q) = m ≤ q

abbrev pub IsLeast : Option ℕ → List ℕ → Option ℕ → Type 0
IsLeast o ps None = (o ≡ None) × (ps ≡ [])
IsLeast o ps (Some m) = ((o ≡ Some m) ⊎ Contains ps m) × IsUpTo m o × AllByRecursion (λ q. m ≤ q) ps

some_is : (p m : ℕ) → Some p ≡ Some m → p ≡ m
some_is p m e = cc

none_some : (p : ℕ) → Some p ≡ None → ⊥
none_some p e = cc

least_one : (o : Option ℕ) (p : ℕ) (ps : List ℕ) (r : Option ℕ) → IsLeast (lesser o p) ps r → IsLeast o (p ∷ ps) r
least_one None p ps None h = absurd (none_some p h.0)
least_one None p ps (Some m) h =
    (elim h.0 [ inl e ↦ inr (subst (λ q. Contains (q ∷ ps) m) (sym (some_is p m e)) (contains_here m ps)) | inr c ↦ inr (contains_there p m ps c) ], tt, (h.1, h.2))
least_one (Some q) p ps r h = by (nat_lt p q) refl r h where
  by : (t : Bool) → nat_lt p q ≡ t → (r : Option ℕ) → IsLeast (cond t (Some p) (Some q)) ps r → IsLeast (Some q) (p ∷ ps) r
  by true e None h = absurd (none_some p h.0)
  by false e None h = absurd (none_some q h.0)
  by true e (Some m) h =
      let below = ltb-true p q e in
      (elim h.0 [ inl e ↦ inr (subst (λ q. Contains (q ∷ ps) m) (sym (some_is p m e)) (contains_here m ps)) | inr c ↦ inr (contains_there p m ps c) ], omega (arith, below, h.1), (h.1, h.2))
  by false e (Some m) h =
      let above = ltb-false p q e in
      (elim h.0 [ inl e ↦ inl e | inr c ↦ inr (contains_there p m ps c) ], h.1, (omega (arith, above, h.1), h.2))

least_is : (o : Option ℕ) (ps : List ℕ) → IsLeast o ps (least_with o ps)
least_is None [] = (refl, refl)
least_is (Some q) [] = (inl refl, omega arith, tt)
least_is o (p ∷ ps) = least_one o p ps (least_with (lesser o p) ps) (least_is (lesser o p) ps)

-- ---- one file

-- a fault of this file, by a rule of libraries of at least this number
pub record IsLater (n k : ℕ) (y : Refusal) : Type 0 where
  pub phase : phase_of y.rule ≡ 1
  pub file : y.file ≡ n
  pub number : k ≤ number_of y.rule

-- the first of faults
abbrev pub IsFirstOf : List Refusal → Option Refusal → Type 0
IsFirstOf xs None = xs ≡ []
IsFirstOf xs (Some x) = Contains xs x × AllByRecursion (ComesFirst x) xs

before_at : (n : ℕ) (x y : Refusal) → phase_of x.rule ≡ 1 → phase_of y.rule ≡ 1 → x.file ≡ n → y.file ≡ n → x.at < y.at → ComesFirst x y
before_at n x y p q f g lt = inr (p ∙ sym q, inr (f ∙ sym g, inl lt))

same_at : (n : ℕ) (x y : Refusal) → phase_of x.rule ≡ 1 → phase_of y.rule ≡ 1 → x.file ≡ n → y.file ≡ n → x.at ≡ y.at → number_of x.rule ≤ number_of y.rule → ComesFirst x y
same_at n x y p q f g e le = inr (p ∙ sym q, inr (f ∙ sym g, inr (e, le)))

le_cases : (a b : ℕ) → a ≤ b → (a < b) ⊎ (a ≡ b)
le_cases a b le = by (nat_lt a b) refl where
  by : (t : Bool) → nat_lt a b ≡ t → (a < b) ⊎ (a ≡ b)
  by true e = inl (ltb-true a b e)
  by false e = let h = ltb-false a b e in inr (omega (arith, h, le))

up_to : (n : ℕ) (x y : Refusal) → phase_of x.rule ≡ 1 → phase_of y.rule ≡ 1 → x.file ≡ n → y.file ≡ n → x.at ≤ y.at → number_of x.rule ≤ number_of y.rule → ComesFirst x y
up_to n x y p q f g le num = elim (le_cases x.at y.at le) [ inl lt ↦ before_at n x y p q f g lt | inr e ↦ same_at n x y p q f g e num ]

-- where one comes first in a file, its place is no later
place_up_to : (n : ℕ) (x y : Refusal) → phase_of x.rule ≡ 1 → phase_of y.rule ≡ 1 → x.file ≡ n → y.file ≡ n → ComesFirst x y → x.at ≤ y.at
place_up_to n x y p q f g (inl lt) = absurd (omega (arith, p, q, lt))
place_up_to n x y p q f g (inr (e, inl lt)) = absurd (omega (arith, f, g, lt))
place_up_to n x y p q f g (inr (e, inr (k, inl lt))) = omega (arith, lt)
place_up_to n x y p q f g (inr (e, inr (k, inr (same, num)))) = omega (arith, same)

none_at : (at : ℕ) → None ≡ Some at → ⊥
none_at at e = cc

module _ (r : Rule) (n : ℕ) (phase : phase_of r ≡ 1) where
  mine : (at : ℕ) (ps : List ℕ) → AllByRecursion (λ q. at ≤ q) ps → AllByRecursion (ComesFirst (refusal r n at)) (map (refusal r n) ps)
  mine at ps h = all_mapped (ComesFirst (refusal r n at)) (refusal r n) ps (all_weaker (λ q. at ≤ q) (λ q. ComesFirst (refusal r n at) (refusal r n q)) ps (λ q le. up_to n (refusal r n at) (refusal r n q) phase phase refl refl le (omega arith)) h)

  pub all_later : (ps : List ℕ) → AllByRecursion (IsLater n (number_of r)) (map (refusal r n) ps)
  all_later ps = all_mapped (IsLater n (number_of r)) (refusal r n) ps (all_of (λ q. IsLater n (number_of r) (refusal r n q)) ps (λ q. record { phase = phase; file = refl; number = omega arith }))

  module _ (ps : List ℕ) (ys : List Refusal) (later : AllByRecursion (IsLater n (number_of r)) ys) where
    theirs : (y : Refusal) → Contains ys y → IsLater n (number_of r) y
    theirs y c = All-contains (IsLater n (number_of r)) ys y (All-from_recursion (IsLater n (number_of r)) ys later) c

    held : (at : ℕ) → IsLeast None ps (Some at) → Contains (map (refusal r n) ps) (refusal r n at)
    held at h = elim h.0 [ inl e ↦ absurd (none_at at e) | inr c ↦ contains_map (refusal r n) ps c.0 at c.1 c.2 ]

    behind_mine : (at : ℕ) (y : Refusal) → Contains ys y → at ≤ y.at → AllByRecursion (ComesFirst y) ys → AllByRecursion (λ z. IsLater n (number_of r) z × ComesFirst y z) ys → AllByRecursion (ComesFirst (refusal r n at)) ys
    behind_mine at y c le h k = all_weaker (λ z. IsLater n (number_of r) z × ComesFirst y z) (ComesFirst (refusal r n at)) ys (λ z w.
        let there = theirs y c in
        let place : y.at ≤ z.at = place_up_to n y z there.phase w.0.phase there.file w.0.file w.1 in
        up_to n (refusal r n at) z phase w.0.phase refl w.0.file (omega (arith, le, place)) w.0.number) k

    both : (zs : List Refusal) (P Q : Refusal → Type 0) → AllByRecursion P zs → AllByRecursion Q zs → AllByRecursion (λ z. P z × Q z) zs
    both [] P Q h k = tt
    both (z ∷ zs) P Q h k = ((h.0, k.0), both zs P Q h.1 k.1)

    chosen : (t : Bool) (at : ℕ) (y : Refusal) → nat_lt y.at at ≡ t → IsLeast None ps (Some at) → IsFirstOf ys (Some y) → IsFirstOf (map (refusal r n) ps ++ ys) (cond t (Some y) (Some (refusal r n at)))
    chosen true at y e h k =
        let there = theirs y k.0 in
        let below = ltb-true y.at at e in (
          Contains-append_right (map (refusal r n) ps) ys y k.0,
          all_joined (ComesFirst y) (map (refusal r n) ps) ys
              (all_mapped (ComesFirst y) (refusal r n) ps (all_weaker (λ q. at ≤ q) (λ q. ComesFirst y (refusal r n q)) ps (λ q le. before_at n y (refusal r n q) there.phase phase there.file refl (omega (arith, below, le))) h.2))
              k.1,
        )
    chosen false at y e h k =
        let above = ltb-false y.at at e in (
          Contains-append_left (map (refusal r n) ps) ys (refusal r n at) (held at h),
          all_joined (ComesFirst (refusal r n at)) (map (refusal r n) ps) ys (mine at ps h.2)
              (behind_mine at y k.0 above k.1 (both ys (IsLater n (number_of r)) (ComesFirst y) later k.1)),
        )

    by_least : (o : Option ℕ) (first : Option Refusal) → IsLeast None ps o → IsFirstOf ys first → IsFirstOf (map (refusal r n) ps ++ ys) (sooner r n o first)
    by_least None first h k = subst (λ qs. IsFirstOf (map (refusal r n) qs ++ ys) first) (sym h.1) k
    by_least (Some at) None h k = (
      Contains-append_left (map (refusal r n) ps) ys (refusal r n at) (held at h),
      all_joined (ComesFirst (refusal r n at)) (map (refusal r n) ps) ys (mine at ps h.2) (subst (AllByRecursion (ComesFirst (refusal r n at))) (sym k) tt),
    )
    by_least (Some at) (Some y) h k = chosen (nat_lt y.at at) at y refl h k

    pub sooner_first : (first : Option Refusal) → IsFirstOf ys first → IsFirstOf (map (refusal r n) ps ++ ys) (sooner r n (least ps) first)
    sooner_first first k = by_least (least ps) first (least_is None ps) k

later_weaker : (n j k : ℕ) → j ≤ k → (ys : List Refusal) → AllByRecursion (IsLater n k) ys → AllByRecursion (IsLater n j) ys
later_weaker n j k le ys h = all_weaker (IsLater n k) (IsLater n j) ys (λ y w. record { phase = w.phase; file = w.file; number = omega (arith, le, w.number) }) h

-- what is found in a file is the first of its faults
pub record IsFileFirst (scopes : Scopes) (n : ℕ) (library : Library) (file : FileTree) : Type 0 where
  pub later : AllByRecursion (IsLater n 1) (faults_in scopes n library file)
  pub first : IsFirstOf (faults_in scopes n library file) (first_in scopes n library file)

pub file_first : (scopes : Scopes) (n : ℕ) (library : Library) (file : FileTree) → IsFileFirst scopes n library file
unfolding faults_in first_in
file_first scopes n library file =
    let a = double_places file in
    let b = reused_places file in
    let c = entry_places n file in
    let d = ambiguous_places scopes library file in
    let ds : List Refusal = map (refusal L4 n) d in
    let cs : List Refusal = map (refusal L3 n) c ++ ds in
    let bs : List Refusal = map (refusal L2 n) b ++ cs in
    let later4 : AllByRecursion (IsLater n 4) ds = all_later L4 n refl d in
    let later3 : AllByRecursion (IsLater n 3) cs = all_joined (IsLater n 3) (map (refusal L3 n) c) ds (all_later L3 n refl c) (later_weaker n 3 4 (omega arith) ds later4) in
    let later2 : AllByRecursion (IsLater n 2) bs = all_joined (IsLater n 2) (map (refusal L2 n) b) cs (all_later L2 n refl b) (later_weaker n 2 3 (omega arith) cs later3) in
    let first4 : IsFirstOf ds (sooner L4 n (least d) None) = subst (λ xs. IsFirstOf xs (sooner L4 n (least d) None)) (append-nil ds) (sooner_first L4 n refl d [] tt None refl) in
    let first3 : IsFirstOf cs (sooner L3 n (least c) (sooner L4 n (least d) None)) = sooner_first L3 n refl c ds (later_weaker n 3 4 (omega arith) ds later4) (sooner L4 n (least d) None) first4 in
    let first2 : IsFirstOf bs (sooner L2 n (least b) (sooner L3 n (least c) (sooner L4 n (least d) None))) = sooner_first L2 n refl b cs (later_weaker n 2 3 (omega arith) cs later3) (sooner L3 n (least c) (sooner L4 n (least d) None)) first3 in
    record {
      later = all_joined (IsLater n 1) (map (refusal L1 n) a) bs (all_later L1 n refl a) (later_weaker n 1 2 (omega arith) bs later2);
      first = sooner_first L1 n refl a bs (later_weaker n 1 2 (omega arith) bs later2) (sooner L2 n (least b) (sooner L3 n (least c) (sooner L4 n (least d) None))) first2;
    }

-- ---- all files

pub record IsFrom (n : ℕ) (y : Refusal) : Type 0 where
  pub phase : phase_of y.rule ≡ 1
  pub file : n ≤ y.file

pub record IsFirstFrom (n : ℕ) (xs : List Refusal) (o : Option Refusal) : Type 0 where
  pub from : AllByRecursion (IsFrom n) xs
  pub first : IsFirstOf xs o

earlier_file : (n : ℕ) (x : Refusal) → phase_of x.rule ≡ 1 → x.file ≡ n → (ys : List Refusal) → AllByRecursion (IsFrom (n + 1)) ys → AllByRecursion (ComesFirst x) ys
earlier_file n x p f ys h = all_weaker (IsFrom (n + 1)) (ComesFirst x) ys (λ y w. inr (p ∙ sym w.phase, inl (omega (arith, f, w.file)))) h

joined_first : (n : ℕ) (xs ys : List Refusal) (one more : Option Refusal) → AllByRecursion (IsLater n 1) xs → IsFirstOf xs one → IsFirstFrom (n + 1) ys more → IsFirstOf (xs ++ ys) (option_or one more)
joined_first n xs ys None more later h k = subst (λ zs. IsFirstOf (zs ++ ys) more) (sym h) k.first
joined_first n xs ys (Some x) more later h k =
    let there : IsLater n 1 x = All-contains (IsLater n 1) xs x (All-from_recursion (IsLater n 1) xs later) h.0 in
    (Contains-append_left xs ys x h.0, all_joined (ComesFirst x) xs ys h.1 (earlier_file n x there.phase there.file ys k.from))

pub first_of_files : (scopes : Scopes) (n : ℕ) (libraries : List Library) (files : List SourceFile) → IsFirstFrom n (faults_from scopes n libraries files) (first_from scopes n libraries files)
first_of_files scopes n [] files = record { from = tt; first = refl }
first_of_files scopes n (library ∷ libraries) [] = record { from = tt; first = refl }
first_of_files scopes n (library ∷ libraries) (file ∷ files) =
    let here = file_first scopes n library file.tree in
    let more = first_of_files scopes (n + 1) libraries files in
    let xs = faults_in scopes n library file.tree in
    let ys = faults_from scopes (n + 1) libraries files in
    record {
      from = all_joined (IsFrom n) xs ys
          (all_weaker (IsLater n 1) (IsFrom n) xs (λ y w. record { phase = w.phase; file = omega (arith, w.file) }) here.later)
          (all_weaker (IsFrom (n + 1)) (IsFrom n) ys (λ y w. record { phase = w.phase; file = omega (arith, w.file) }) more.from);
      first = joined_first n xs ys (first_in scopes n library file.tree) (first_from scopes (n + 1) libraries files) here.later here.first more;
    }

-- ---- programs

is_first : (files : List SourceFile) (x : Refusal) → IsFirstOf (faults files) (Some x) → IsFirst (IsBroken files) x
unfolding IsBroken
is_first files x h = record {
  holds = h.0;
  first = λ y c. All-contains (ComesFirst x) (faults files) y (All-from_recursion (ComesFirst x) (faults files) h.1) c;
}

breaks_none : (files : List SourceFile) → faults files ≡ [] → BreaksNone (IsBroken files)
unfolding IsBroken
breaks_none files e = record { none = λ y c. let d : Contains [] y = subst (λ xs. Contains xs y) e c in absurd (omega (arith, d.1)) }

first_of_program : (files : List SourceFile) → IsFirstOf (faults files) (first_from (scopes_of files) 0 (scopes_of files).libraries files)
unfolding faults
first_of_program files = (first_of_files (scopes_of files) 0 (scopes_of files).libraries files).first

-- the fault that is found, where one is
pub found_is_first : (files : List SourceFile) (x : Refusal) → first_from (scopes_of files) 0 (scopes_of files).libraries files ≡ Some x → IsFirst (IsBroken files) x
found_is_first files x e = is_first files x (subst (IsFirstOf (faults files)) e (first_of_program files))

pub none_found : (files : List SourceFile) → first_from (scopes_of files) 0 (scopes_of files).libraries files ≡ None → BreaksNone (IsBroken files)
none_found files e = breaks_none files (subst (IsFirstOf (faults files)) e (first_of_program files))
