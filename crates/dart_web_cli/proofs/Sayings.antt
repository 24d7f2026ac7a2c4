-- Texts that are said one behind the other.
use Rattle.std.proofs.Common.{◌≡◌, ℕ, suc, ◌+◌, ◌<◌, ◌≤◌, List, [], ◌∷◌, ◌++◌, length, take, drop, get_or, Option, Some, None, Result, Ok, Err, refl, sym, ◌∙◌, ap, subst, arith, append_assoc, min}
use Rattle.std.proofs.Math.Seq.{drop-cons, take-append-add}
use Rattle.std.proofs.lemmas.List.{append-nil, take-append-le, take_min, drop_all, nil_from_length}
use Rattle.code_units.specs.Text.{utf8_of}
use Rattle.outside.specs.Outside.{Rose, Told, AddsFront}
use Rattle.dart_web_cli.specs.declared.runs.SayFault.{SayFault}
use Rattle.dart_web_cli.specs.declared.runs.SayFault.TheVariants.{Sink, Memory}
use Rattle.dart_web_cli.specs.declared.top.Status.{Status}
use Rattle.dart_web_cli.specs.RunLines.{line, printed}
use Rattle.dart_web_cli.specs.TopCall.{SinkState, Says, SaysFront, SaysPart}
use Rattle.dart_web_cli.specs.RunAnswers.{Saying, IsToldOf, told, failed, cut}

-- ---- what is told

told_then : {A : Type 0} (x y z : Option A) (R S T : A → A → Type 0) → ((a b c : A) → R a b → S b c → T a c) → Told x y R → Told y z S → Told x z T
told_then None None None R S T f h k = tt
told_then None None (Some c) R S T f h k = absurd k
told_then None (Some b) z R S T f h k = absurd h
told_then (Some a) None z R S T f h k = absurd h
told_then (Some a) (Some b) None R S T f h k = absurd k
told_then (Some a) (Some b) (Some c) R S T f h k = f a b c h k

told_so : {A : Type 0} (x y : Option A) (R T : A → A → Type 0) → ((a b : A) → R a b → T a b) → Told x y R → Told x y T
told_so None None R T f h = tt
told_so None (Some b) R T f h = absurd h
told_so (Some a) None R T f h = absurd h
told_so (Some a) (Some b) R T f h = f a b h

told_same : {A : Type 0} (x : Option A) (R : A → A → Type 0) → ((a : A) → R a a) → Told x x R
told_same None R f = tt
told_same (Some a) R f = f a

-- ---- fronts

adds_whole : (a b x y z : List ℕ) → y ≡ x ++ a → z ≡ y ++ b → z ≡ x ++ (a ++ b)
adds_whole a b x y z e f = f ∙ (ap (λ (l : List ℕ). l ++ b) e ∙ append_assoc x a b)

adds_front : (a b x y z : List ℕ) → y ≡ x ++ a → AddsFront b y z → AddsFront (a ++ b) x z
adds_front a b x y z e h =
    (length a + h.0, adds_whole a (take h.0 b) x y z e h.1 ∙ ap (λ (l : List ℕ). x ++ l) (sym (take-append-add a b h.0)))

-- a front of the first is a front of both
front_of_both : (a b x y : List ℕ) → AddsFront a x y → AddsFront (a ++ b) x y
front_of_both a b x y h =
    let few : min h.0 (length a) ≤ length a = omega arith in
    let front : take (min h.0 (length a)) (a ++ b) ≡ take h.0 a = take-append-le (min h.0 (length a)) a b few ∙ take_min h.0 a in
    (min h.0 (length a), h.1 ∙ ap (λ (l : List ℕ). x ++ l) (sym front))

says_then_says : (a b : List ℕ) (x y z : SinkState) → Says a x y → Says b y z → Says (a ++ b) x z
says_then_says a b x y z h k = record {
  files = k.files ∙ h.files;
  said = told_then x.said y.said z.said _ _ _ (adds_whole a b) h.said k.said;
  faults = k.faults ∙ h.faults;
}

says_then_front : (a b : List ℕ) (x y z : SinkState) → Says a x y → SaysFront b y z → SaysFront (a ++ b) x z
says_then_front a b x y z h k = record {
  files = k.files ∙ h.files;
  said = told_then x.said y.said z.said _ _ _ (adds_front a b) h.said k.said;
  later = subst (λ (n : ℕ). n ≤ z.faults) h.faults k.later;
  rose = subst (λ (n : ℕ). Rose n z.faults) h.faults k.rose;
}

says_then_part : (a b : List ℕ) (x y z : SinkState) → Says a x y → SaysPart b y z → SaysPart (a ++ b) x z
says_then_part a b x y z h k = record {
  files = k.files ∙ h.files;
  said = told_then x.said y.said z.said _ _ _ (adds_front a b) h.said k.said;
  faults = k.faults ∙ h.faults;
}

pub says_then : (a b : List ℕ) (r : Result (Unit {0}) SayFault) (x y z : SinkState) → Says a x y → Saying b r y z → Saying (a ++ b) r x z
says_then a b (Ok u) x y z h k = says_then_says a b x y z h k
says_then a b (Err Sink) x y z h k = says_then_front a b x y z h k
says_then a b (Err Memory) x y z h k = says_then_part a b x y z h k

pub ends_early : (a b : List ℕ) (fault : SayFault) (x y : SinkState) → Saying a (Err fault) x y → Saying (a ++ b) (Err fault) x y
ends_early a b Sink x y h = record { files = h.files; said = told_so x.said y.said _ _ (front_of_both a b) h.said; later = h.later; rose = h.rose }
ends_early a b Memory x y h = record { files = h.files; said = told_so x.said y.said _ _ (front_of_both a b) h.said; faults = h.faults }

pub says_nothing : (x : SinkState) → Says [] x x
says_nothing x = record { files = refl; said = told_same x.said _ (λ l. sym (append-nil l)); faults = refl }

-- memory was wanting before anything was said
pub says_none_of : (text : List ℕ) (x : SinkState) → SaysPart text x x
says_none_of text x = record { files = refl; said = told_same x.said _ (λ l. (0, sym (append-nil l))); faults = refl }

-- ---- printed texts, one by one

-- what is left to be said makes all of them said
pub record SaysRest (texts rest : List (List ℕ)) (before now : SinkState) : Type 0 where
  pub then : (r : Result (Unit {0}) SayFault) (end : SinkState) → Saying (printed rest) r now end → Saying (printed texts) r before end

pub all_left : (texts : List (List ℕ)) (x : SinkState) → SaysRest texts texts x x
all_left texts x = record { then = λ r end h. h }

at_item : (texts : List (List ℕ)) (i : ℕ) (text : List ℕ) → i < length texts → text ≡ get_or texts i text → drop i texts ≡ text ∷ drop (i + 1) texts
at_item texts i text less e =
    let step : suc i ≡ i + 1 = omega arith in
    drop-cons texts i text less ∙ (ap (λ (t : List ℕ). t ∷ drop (suc i) texts) (sym e) ∙ ap (λ (k : ℕ). text ∷ drop k texts) step)

pub next_left : (texts : List (List ℕ)) (i : ℕ) (text : List ℕ) (x y z : SinkState) → i < length texts → text ≡ get_or texts i text → SaysRest texts (drop i texts) x y → Says (line (utf8_of text)) y z → SaysRest texts (drop (i + 1) texts) x z
next_left texts i text x y z less e so h = record {
  then = λ r end k.
      so.then r end (subst (λ (ts : List (List ℕ)). Saying (printed ts) r y end) (sym (at_item texts i text less e)) (says_then (line (utf8_of text)) (printed (drop (i + 1) texts)) r y z end h k));
}

pub left_early : (texts : List (List ℕ)) (i : ℕ) (text : List ℕ) (fault : SayFault) (x y z : SinkState) → i < length texts → text ≡ get_or texts i text → SaysRest texts (drop i texts) x y → Saying (line (utf8_of text)) (Err fault) y z → Saying (printed texts) (Err fault) x z
left_early texts i text fault x y z less e so h =
    so.then (Err fault) z (subst (λ (ts : List (List ℕ)). Saying (printed ts) (Err fault) y z) (sym (at_item texts i text less e)) (ends_early (line (utf8_of text)) (printed (drop (i + 1) texts)) fault y z h))

pub none_left : (texts : List (List ℕ)) (i : ℕ) (x y : SinkState) → length texts ≤ i → SaysRest texts (drop i texts) x y → Says (printed texts) x y
none_left texts i x y past so =
    so.then (Ok tt) y (subst (λ (ts : List (List ℕ)). Saying (printed ts) (Ok tt) y y) (sym (drop_all i texts past)) (says_nothing y))

-- ---- a line, unless it is empty

pub says_empty : (text : List ℕ) (x : SinkState) → length text ≡ 0 → Says text x x
says_empty text x e = subst (λ (t : List ℕ). Says t x x) (sym (nil_from_length text e)) (says_nothing x)

-- ---- the status

pub told_as : (text : List ℕ) (wanted status : Status) (x y : SinkState) → status ≡ wanted → Says text x y → IsToldOf text wanted x y status
told_as text wanted status x y e h = subst (IsToldOf text wanted x y) (sym e) (told h)
