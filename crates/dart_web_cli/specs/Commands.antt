-- Which command words are, and how words are read.
use Rattle.std.specs.Prelude.{◌≡◌, ◌<◌, ◌^◌, ℕ, List, [], ◌∷◌, All, length, Option, Some, None}
use denote.Ref.{Bor}
use Rattle.dart_web_cli.specs.declared.words.Command.{Command}
use Rattle.dart_web_cli.specs.declared.words.Command.TheVariants.{Compile, RunJs}
use Rattle.dart_web_cli.specs.declared.words.WordsFault.{WordsFault}
use Rattle.dart_web_cli.specs.declared.words.WordsFault.TheVariants.{Usage, Memory}
use Rattle.dart_web_cli.specs.Words.{with_commas, IsCompile, IsRunJs}

abbrev pub IsCommand : List (List ℕ) → Command → Type 0
IsCommand words (Compile entry out) = IsCompile words entry.now out.now
IsCommand words (RunJs out steps order) = IsRunJs words out.now steps order

-- Usage comes only where this holds; want of memory comes freely
abbrev pub Refuses : WordsFault → Type 0 → Type 0
Refuses Usage why = why
Refuses Memory why = Unit {0}

-- words are at most one command, and it has one meaning
pub record OneMeaning : Type 0 where
  pub entries : (words : List (List ℕ)) (entry out entry' out' : List ℕ) → IsCompile words entry out → IsCompile words entry' out' → (entry ≡ entry') × (out ≡ out')
  pub runs : (words : List (List ℕ)) (out out' : List ℕ) (steps steps' : ℕ) (order order' : List ℕ) → IsRunJs words out steps order → IsRunJs words out' steps' order' → (out ≡ out') × (steps ≡ steps') × (order ≡ order')
  pub other : (words : List (List ℕ)) (entry out out' : List ℕ) (steps : ℕ) (order : List ℕ) → IsCompile words entry out → IsRunJs words out' steps order → ⊥

-- ---- numbers with commas between, read from the left

-- at least one
pub record IsNumbers (word : List ℕ) (numbers : List ℕ) : Type 0 where
  pub is : word ≡ with_commas numbers
  pub some : 0 < length numbers
  pub short : All (λ n. n < 10 ^ 9) numbers

-- no numbers begin so
abbrev pub HasNoNumber : List ℕ → Type 0
HasNoNumber word = (numbers : List ℕ) → IsNumbers word numbers → ⊥

-- the numbers are the first one, and those of the rest
pub record Goes (word : List ℕ) (first : ℕ) (rest : List ℕ) : Type 0 where
  pub from : (numbers : List ℕ) → IsNumbers word numbers → (more : List ℕ) × (numbers ≡ first ∷ more) × IsNumbers rest more
  pub to : (more : List ℕ) → IsNumbers rest more → IsNumbers word (first ∷ more)

-- the number is the only one
pub record Ends (word : List ℕ) (last : ℕ) : Type 0 where
  pub only : (numbers : List ℕ) → IsNumbers word numbers → numbers ≡ last ∷ []
  pub is : IsNumbers word (last ∷ [])

abbrev pub IsNumberOf : List ℕ → ℕ → Option (Bor (List ℕ)) → Type 0
IsNumberOf word n None = Ends word n
IsNumberOf word n (Some rest) = Goes word n rest.now
