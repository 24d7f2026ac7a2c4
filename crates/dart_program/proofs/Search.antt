-- One search over all phases finds what is first in the first phase that finds something.
use Rattle.std.proofs.Common.{◌≡◌, ◌<◌, inl, inr, ℕ, List, [], ◌∷◌, refl, sym, ap, ◌∙◌, arith}
use Rattle.std.specs.Prelude.{get_or}
use Rattle.dart_syntax.specs.declared.rules.Rule.{Rule}
use Rattle.dart_syntax.specs.declared.rules.Rule.TheVariants as r
use Rattle.dart_syntax.specs.declared.rules.Refusal.{Refusal}
use Rattle.dart_program.specs.First.{Broken, phase_of, number_of, by, ComesFirst, IsFirst, BreaksNone, Phases, AnyOf, in_libraries, in_classes, in_limits, in_bodies}

-- ---- a rule is told by its phase and its number there

rules : List (List Rule)
rules = (r.U1 ∷ r.U1 ∷ r.N1 ∷ r.N2 ∷ r.N3 ∷ r.S1 ∷ r.S2 ∷ r.S3 ∷ r.S4 ∷ r.S5 ∷ r.S6 ∷ r.S7 ∷ r.G2 ∷ r.G1 ∷ [])
    ∷ (r.L1 ∷ r.L1 ∷ r.L2 ∷ r.L3 ∷ r.L4 ∷ [])
    ∷ (r.C1 ∷ r.C1 ∷ r.C2 ∷ r.C3 ∷ r.C4 ∷ r.C5 ∷ [])
    ∷ (r.N4 ∷ r.N4 ∷ r.N4 ∷ r.N4 ∷ r.N4 ∷ r.N5 ∷ r.N6 ∷ r.N7 ∷ r.N8 ∷ [])
    ∷ (r.B1 ∷ r.B1 ∷ r.B2 ∷ r.B3 ∷ r.B4 ∷ r.B5 ∷ r.B6 ∷ r.B7 ∷ r.B8 ∷ r.B9 ∷ r.B10 ∷ r.B11 ∷ r.B12 ∷ r.B13 ∷ r.B14 ∷ []) ∷ []

rule_at : ℕ → ℕ → Rule
rule_at phase number = get_or (get_or rules phase []) number r.U1

told : (x : Rule) → rule_at (phase_of x) (number_of x) ≡ x
unfolding rule_at rules
told r.U1 = refl
told _ = refl

one_rule : (x y : Rule) → phase_of x ≡ phase_of y → number_of x ≡ number_of y → x ≡ y
one_rule x y p n = sym (told x) ∙ (ap (λ k. rule_at k (number_of x)) p ∙ (ap (λ k. rule_at (phase_of y) k) n ∙ told y))

-- ---- the order

both_ways : {m n : ℕ} {P Q : Type 0} → by m n P → by n m Q → (m ≡ n) × P × Q
both_ways (inl a) (inl b) = absurd (omega arith)
both_ways (inl a) (inr b) = let e = b.0 in absurd (omega arith)
both_ways (inr a) (inl b) = let e = a.0 in absurd (omega arith)
both_ways (inr a) (inr b) = (a.0, a.1, b.1)

pub one_place : (x y : Refusal) → ComesFirst x y → ComesFirst y x → x ≡ y
one_place x y a b =
    let p = both_ways a b in
    let f = both_ways p.1 p.2 in
    let t = both_ways f.1 f.2 in
    let n : number_of x.rule ≡ number_of y.rule = omega arith in
    let e = one_rule x.rule y.rule p.0 n in
    same e f.0 t.0
  where
    same : x.rule ≡ y.rule → x.file ≡ y.file → x.at ≡ y.at → x ≡ y
    same e f t =
        let of : Rule → ℕ → ℕ → Refusal = λ rule file at. record { rule = rule; file = file; at = at } in
        ap (λ rule. of rule x.file x.at) e ∙ (ap (λ file. of y.rule file x.at) f ∙ ap (λ at. of y.rule y.file at) t)

-- at most one refusal is the first one
pub one_first : (broken : Broken) (x y : Refusal) → IsFirst broken x → IsFirst broken y → x ≡ y
one_first broken x y a b = one_place x y (a.first y b.holds) (b.first x a.holds)

-- ---- the phases

-- what each phase finds broken are rules of its own
pub record AreOwn (phases : Phases) : Type 0 where
  pub libraries : (x : Refusal) → phases.libraries x.rule x.file x.at → phase_of x.rule ≡ 1
  pub classes : (x : Refusal) → phases.classes x.rule x.file x.at → phase_of x.rule ≡ 2
  pub limits : (x : Refusal) → phases.limits x.rule x.file x.at → phase_of x.rule ≡ 3
  pub bodies : (x : Refusal) → phases.bodies x.rule x.file x.at → phase_of x.rule ≡ 4

earlier : (x y : Refusal) (m n : ℕ) → phase_of x.rule ≡ m → phase_of y.rule ≡ n → m < n → ComesFirst x y
earlier x y m n e f below = inl (omega arith)

pub first_in_libraries : (p : Phases) → AreOwn p → (x : Refusal) → IsFirst p.libraries x → IsFirst (AnyOf p) x
first_in_libraries p own x h = record { holds = in_libraries h.holds; first = λ y b. go y b }
  where
    mine : phase_of x.rule ≡ 1
    mine = own.libraries x h.holds

    go : (y : Refusal) → AnyOf p y.rule y.file y.at → ComesFirst x y
    go y (in_libraries b) = h.first y b
    go y (in_classes b) = earlier x y 1 2 mine (own.classes y b) (omega arith)
    go y (in_limits b) = earlier x y 1 3 mine (own.limits y b) (omega arith)
    go y (in_bodies b) = earlier x y 1 4 mine (own.bodies y b) (omega arith)

pub first_in_classes : (p : Phases) → AreOwn p → BreaksNone p.libraries → (x : Refusal) → IsFirst p.classes x → IsFirst (AnyOf p) x
first_in_classes p own l x h = record { holds = in_classes h.holds; first = λ y b. go y b }
  where
    mine : phase_of x.rule ≡ 2
    mine = own.classes x h.holds

    go : (y : Refusal) → AnyOf p y.rule y.file y.at → ComesFirst x y
    go y (in_libraries b) = absurd (l.none y b)
    go y (in_classes b) = h.first y b
    go y (in_limits b) = earlier x y 2 3 mine (own.limits y b) (omega arith)
    go y (in_bodies b) = earlier x y 2 4 mine (own.bodies y b) (omega arith)

pub first_in_limits : (p : Phases) → AreOwn p → BreaksNone p.libraries → BreaksNone p.classes → (x : Refusal) → IsFirst p.limits x → IsFirst (AnyOf p) x
first_in_limits p own l c x h = record { holds = in_limits h.holds; first = λ y b. go y b }
  where
    mine : phase_of x.rule ≡ 3
    mine = own.limits x h.holds

    go : (y : Refusal) → AnyOf p y.rule y.file y.at → ComesFirst x y
    go y (in_libraries b) = absurd (l.none y b)
    go y (in_classes b) = absurd (c.none y b)
    go y (in_limits b) = h.first y b
    go y (in_bodies b) = earlier x y 3 4 mine (own.bodies y b) (omega arith)

pub first_in_bodies : (p : Phases) → BreaksNone p.libraries → BreaksNone p.classes → BreaksNone p.limits → (x : Refusal) → IsFirst p.bodies x → IsFirst (AnyOf p) x
first_in_bodies p l c m x h = record { holds = in_bodies h.holds; first = λ y b. go y b }
  where
    go : (y : Refusal) → AnyOf p y.rule y.file y.at → ComesFirst x y
    go y (in_libraries b) = absurd (l.none y b)
    go y (in_classes b) = absurd (c.none y b)
    go y (in_limits b) = absurd (m.none y b)
    go y (in_bodies b) = h.first y b

pub none_in_any : (p : Phases) → BreaksNone p.libraries → BreaksNone p.classes → BreaksNone p.limits → BreaksNone p.bodies → BreaksNone (AnyOf p)
none_in_any p l c m b = record { none = λ y h. go y h }
  where
    go : (y : Refusal) → AnyOf p y.rule y.file y.at → ⊥
    go y (in_libraries h) = l.none y h
    go y (in_classes h) = c.none y h
    go y (in_limits h) = m.none y h
    go y (in_bodies h) = b.none y h
