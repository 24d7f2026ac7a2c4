-- The words of a command line.
use Rattle.std.specs.Prelude.{◌≡◌, ◌≢◌, ◌<◌, ◌≤◌, ◌^◌, ℕ, List, [], ◌∷◌, ◌++◌, length, All, codes, decimal}

-- a word that names a file: it is not empty and doesn't begin with -
abbrev pub IsFileWord : List ℕ → Type 0
IsFileWord [] = ⊥
IsFileWord (b ∷ word) = b ≢ 45

-- no / in it, and neither of the two names that a folder has in itself
pub record IsFlat (word : List ℕ) : Type 0 where
  pub no_slash : All (λ b. b ≢ 47) word
  pub not_dot : word ≢ codes "."
  pub not_dots : word ≢ codes ".."

-- compile ENTRY OUT; until programs have imports, ENTRY names a file of its own folder
pub record IsCompile (words : List (List ℕ)) (entry out : List ℕ) : Type 0 where
  pub are : words ≡ codes "compile" ∷ entry ∷ out ∷ []
  pub entry_names : IsFileWord entry
  pub entry_flat : IsFlat entry
  pub out_names : IsFileWord out

-- ---- options

-- a number of 1 to 19 digits, with no leading zero
pub record IsSteps (word : List ℕ) (steps : ℕ) : Type 0 where
  pub is : word ≡ decimal steps
  pub short : steps < 10 ^ 19

-- numbers with commas between
abbrev pub with_commas : List ℕ → List ℕ
with_commas [] = []
with_commas (n ∷ []) = decimal n
with_commas (n ∷ m ∷ more) = decimal n ++ (44 ∷ with_commas (m ∷ more))

-- 1 to 1,024 numbers of 1 to 9 digits
pub record IsOrder (word : List ℕ) (order : List ℕ) : Type 0 where
  pub is : word ≡ with_commas order
  pub some : 0 < length order
  pub few : length order ≤ 1024
  pub short : All (λ n. n < 10 ^ 9) order

-- how many steps a run has where no option says so
abbrev pub usual_steps : ℕ
usual_steps = 10000000

-- --steps N and --order A, in any order, each at most once
pub data IsOptions : List (List ℕ) → (steps : ℕ) → (order : List ℕ) → Type 0 where
  none : IsOptions [] usual_steps []
  steps : {word : List ℕ} {n : ℕ} → IsSteps word n → IsOptions (codes "--steps" ∷ word ∷ []) n []
  order : {word : List ℕ} {a : List ℕ} → IsOrder word a → IsOptions (codes "--order" ∷ word ∷ []) usual_steps a
  steps_order : {word other : List ℕ} {n : ℕ} {a : List ℕ} → IsSteps word n → IsOrder other a → IsOptions (codes "--steps" ∷ word ∷ codes "--order" ∷ other ∷ []) n a
  order_steps : {word other : List ℕ} {n : ℕ} {a : List ℕ} → IsOrder word a → IsSteps other n → IsOptions (codes "--order" ∷ word ∷ codes "--steps" ∷ other ∷ []) n a

-- runjs OUT and options
pub record IsRunJs (words : List (List ℕ)) (out : List ℕ) (steps : ℕ) (order : List ℕ) : Type 0 where
  pub options : List (List ℕ)
  pub are : words ≡ codes "runjs" ∷ out ∷ options
  pub out_names : IsFileWord out
  pub options_are : IsOptions options steps order

-- the words are in no row of the table of commands
pub record IsNoCommand (words : List (List ℕ)) : Type 0 where
  pub no_compile : (entry out : List ℕ) → IsCompile words entry out → ⊥
  pub no_run : (out : List ℕ) (steps : ℕ) (order : List ℕ) → IsRunJs words out steps order → ⊥
