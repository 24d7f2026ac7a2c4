-- Words are at most one command, of one meaning.
use Rattle.std.proofs.Common.{◌≡◌, ℕ, ◌+◌, ◌<◌, ◌≤◌, ◌^◌, List, [], ◌∷◌, length, drop, Some, codes, refl, sym, ◌∙◌, ap, subst, arith}
use Rattle.std.specs.Prelude.{slice_get, decimal}
use Rattle.std.proofs.lemmas.Fmt.{decimal_injective}
use Rattle.dart_web_cli.specs.declared.words.WordsFault.{WordsFault}
use Rattle.dart_web_cli.specs.declared.words.WordsFault.TheVariants.{Usage, Memory}
use Rattle.dart_web_cli.specs.Words.{IsFileWord, IsSteps, IsOrder, IsOptions, none, steps, order, steps_order, order_steps, IsCompile, IsRunJs}
use Rattle.dart_web_cli.specs.Commands.{OneMeaning, Refuses}
use Rattle.dart_web_cli.proofs.Numbers.{one_list}
use Rattle.dart_web_cli.proofs.Choices.{behind, only_none, only_steps, only_order, only_both, only_both_turned}

-- ---- options

one_steps : (word : List ℕ) (m n : ℕ) → IsSteps word m → IsSteps word n → m ≡ n
one_steps word m n a b =
    let x = a.short in let y = b.short in
    decimal_injective m n (omega arith) (omega arith) (sym a.is ∙ b.is)

one_order : (word : List ℕ) (a b : List ℕ) → IsOrder word a → IsOrder word b → a ≡ b
one_order word a b x y = one_list word a b (record { is = x.is; some = x.some; short = x.short }) (record { is = y.is; some = y.some; short = y.short })

one_options : (words : List (List ℕ)) (m n : ℕ) (a b : List ℕ) → IsOptions words m a → IsOptions words n b → (m ≡ n) × (a ≡ b)
one_options words m n a b none y = let r = only_none [] n b y refl in (sym r.0, sym r.1)
one_options words m n a b (steps {word = w} is) y =
    let r = only_steps (codes "--steps" ∷ w ∷ []) n b y w refl in (one_steps w m n is r.0, sym r.1)
one_options words m n a b (order {word = w} is) y =
    let r = only_order (codes "--order" ∷ w ∷ []) n b y w refl in (sym r.0, one_order w a b is r.1)
one_options words m n a b (steps_order {word = w} {other = o} is are) y =
    let r = only_both (codes "--steps" ∷ w ∷ codes "--order" ∷ o ∷ []) n b y (codes "--steps") w (codes "--order") o refl refl in
    (one_steps w m n is r.0, one_order o a b are r.1)
one_options words m n a b (order_steps {word = w} {other = o} are is) y =
    let r = only_both_turned (codes "--order" ∷ w ∷ codes "--steps" ∷ o ∷ []) n b y (codes "--order") w (codes "--steps") o refl refl in
    (one_steps o m n is r.0, one_order w a b are r.1)

-- ---- commands

same_entries : (words : List (List ℕ)) (entry out entry' out' : List ℕ) → IsCompile words entry out → IsCompile words entry' out' → (entry ≡ entry') × (out ≡ out')
same_entries words entry out entry' out' a b = let e = sym a.are ∙ b.are in (cc, cc)

pub same_runs : (words : List (List ℕ)) (out out' : List ℕ) (n n' : ℕ) (a a' : List ℕ) → IsRunJs words out n a → IsRunJs words out' n' a' → (out ≡ out') × (n ≡ n') × (a ≡ a')
same_runs words out out' n n' a a' x y =
    let e = sym x.are ∙ y.are in
    let rest : x.options ≡ y.options = cc in
    let o : out ≡ out' = cc in
    let r = one_options y.options n n' a a' (subst (λ (ws : List (List ℕ)). IsOptions ws n a) rest x.options_are) y.options_are in
    (o, r.0, r.1)

apart : (x y : ℕ) → x ≡ y → x < y → ⊥
apart x y e l = omega arith

pub compile_is_no_run : (words : List (List ℕ)) (entry out out' : List ℕ) (n : ℕ) (a : List ℕ) → IsCompile words entry out → IsRunJs words out' n a → ⊥
compile_is_no_run words entry out out' n a x y =
    let e = sym y.are ∙ x.are in
    let name : codes "runjs" ≡ codes "compile" = cc in
    apart 5 7 (ap length name) (omega arith)

pub one_meaning : OneMeaning
one_meaning = record { entries = same_entries; runs = same_runs; other = compile_is_no_run }

-- ---- what words are read as

pub is_run_js : (words : List (List ℕ)) (name out : List ℕ) (n : ℕ) (a : List ℕ) → slice_get words 0 ≡ Some name → slice_get words 1 ≡ Some out → name ≡ codes "runjs" → IsFileWord out → IsOptions (drop 2 words) n a → IsRunJs words out n a
is_run_js words name out n a p q e file are = record {
  options = drop 2 words;
  are = behind words 0 name p ∙ (ap (λ (l : List (List ℕ)). name ∷ l) (behind words 1 out q) ∙ ap (λ (w : List ℕ). w ∷ out ∷ drop 2 words) e);
  out_names = file;
  options_are = are;
}

-- no run without options that are read
no_run : (words : List (List ℕ)) → ((n : ℕ) (a : List ℕ) → IsOptions (drop 2 words) n a → ⊥) → (out : List ℕ) (n : ℕ) (a : List ℕ) → IsRunJs words out n a → ⊥
no_run words never out n a is =
    let rest : drop 2 words ≡ is.options = ap (λ (l : List (List ℕ)). drop 2 l) is.are in
    never n a (subst (λ (ws : List (List ℕ)). IsOptions ws n a) (sym rest) is.options_are)

pub refuses_run : (words : List (List ℕ)) (fault : WordsFault) → Refuses fault ((n : ℕ) (a : List ℕ) → IsOptions (drop 2 words) n a → ⊥) → Refuses fault ((out : List ℕ) (n : ℕ) (a : List ℕ) → IsRunJs words out n a → ⊥)
refuses_run words Usage h = no_run words h
refuses_run words Memory h = tt

-- the first words of a run
pub begins_run : (words : List (List ℕ)) (name out : List ℕ) → slice_get words 0 ≡ Some name → slice_get words 1 ≡ Some out → (o : List ℕ) (n : ℕ) (a : List ℕ) → IsRunJs words o n a → (name ≡ codes "runjs") × IsFileWord out
begins_run words name out p q o n a is =
    let x : Some (codes "runjs") ≡ Some name = sym (ap (λ (l : List (List ℕ)). slice_get l 0) is.are) ∙ p in
    let y : Some o ≡ Some out = sym (ap (λ (l : List (List ℕ)). slice_get l 1) is.are) ∙ q in
    let e : codes "runjs" ≡ name = cc in
    let f : o ≡ out = cc in
    (sym e, subst IsFileWord f is.out_names)

pub long_run : (words : List (List ℕ)) (o : List ℕ) (n : ℕ) (a : List ℕ) → IsRunJs words o n a → 2 ≤ length words
long_run words o n a is = let l = ap length is.are in omega arith
