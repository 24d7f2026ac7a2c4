-- Spare files that serve: made, found and taken.
use Rattle.std.proofs.Common.{◌≡◌, ℕ, zero, suc, ◌+◌, ◌-◌, ◌*◌, ◌/◌, ◌<◌, ◌≤◌, List, [], ◌∷◌, ◌++◌, length, get_or, drop, sym, ap, subst, refl, arith}
use Rattle.std.specs.List.{remove}
use Rattle.std.proofs.Math.Nat.{suc-mul, lt-mul-div-succ}
use Rattle.outside.specs.declared.memory.Spare.{Spare}
use Rattle.outside.specs.Room.{AreSmall, IsWide, Serve, room_at}

pub Serve-less : (room less k : ℕ) (spares : List Spare) → less ≤ room → Serve room k spares → Serve less k spares
Serve-less room less k [] le serve = tt
Serve-less room less k (spare ∷ spares) le serve =
    let part = serve.1 in
    (serve.0, omega arith, Serve-less room less (suc k) spares le serve.2)

-- those that are too small for a file serve without it one place further in front
Serve-front : (room size k : ℕ) (spares : List Spare) → size ≤ room → AreSmall size spares → Serve room (suc k) spares → Serve (room - size) k spares
Serve-front room size k [] le small serve = tt
Serve-front room size k (spare ∷ spares) le small serve =
    let part : room < suc k * suc spare.room + suc spare.room = subst (λ n. room < n) (suc-mul (suc k) (suc spare.room)) serve.1 in
    let less = small.0 in
    (serve.0, omega arith, Serve-front room size (suc k) spares le small.1 serve.2)

pub Serve-remove : (room size k i : ℕ) (spares : List Spare) → size ≤ room → i < length spares → AreSmall size (drop (suc i) spares)
    → Serve room k spares → Serve (room - size) k (remove spares i)
Serve-remove room size k i [] le lt small serve = absurd (omega arith)
Serve-remove room size k zero (spare ∷ spares) le lt small serve = Serve-front room size k spares le small serve.2
Serve-remove room size k (suc i) (spare ∷ spares) le lt small serve =
    let part = serve.1 in
    let lt' : i < length spares = omega arith in
    (serve.0, omega arith, Serve-remove room size (suc k) i spares le lt' small serve.2)

-- not all are too small
pub none_from_small : (room size : ℕ) (spares : List Spare) → size ≤ room → AreSmall size spares → Serve room 0 spares → length spares ≡ 0
none_from_small room size [] le small serve = refl
none_from_small room size (spare ∷ spares) le small serve =
    let part : room < 0 * suc spare.room + suc spare.room = subst (λ n. room < n) (suc-mul 0 (suc spare.room)) serve.1 in
    let less = small.0 in
    absurd (omega arith)

pub IsWide-at : (room k i : ℕ) (spares : List Spare) (spare : Spare) → i < length spares → spare ≡ get_or spares i spare → Serve room k spares → IsWide spare
IsWide-at room k i [] spare lt is serve = absurd (omega arith)
IsWide-at room k zero (s ∷ spares) spare lt is serve = subst IsWide (sym is) serve.0
IsWide-at room k (suc i) (s ∷ spares) spare lt is serve = let lt' : i < length spares = omega arith in IsWide-at room (suc k) i spares spare lt' is serve.2

pub room_at-is : (i : ℕ) (spares : List Spare) (spare : Spare) → i < length spares → spare ≡ get_or spares i spare → room_at spares i ≡ spare.room
room_at-is i [] spare lt is = absurd (omega arith)
room_at-is zero (s ∷ spares) spare lt is = ap (λ (s : Spare). s.room) (sym is)
room_at-is (suc i) (s ∷ spares) spare lt is = let lt' : i < length spares = omega arith in room_at-is i spares spare lt' is

-- one more is made
Serve-push-at : (room k : ℕ) (spares : List Spare) (spare : Spare) → Serve room k spares → IsWide spare → room < suc (length spares + k) * suc spare.room → Serve room k (spares ++ spare ∷ [])
Serve-push-at room k [] spare serve wide part =
    let e : suc (0 + k) ≡ suc k = omega arith in
    (wide, subst (λ n. room < n * suc spare.room) e part, tt)
Serve-push-at room k (s ∷ spares) spare serve wide part =
    let e : suc (length (s ∷ spares) + k) ≡ suc (length spares + suc k) = omega arith in
    (serve.0, serve.1, Serve-push-at room (suc k) spares spare serve.2 wide (subst (λ n. room < n * suc spare.room) e part))

pub Serve-push : (room : ℕ) (spares : List Spare) (spare : Spare) → Serve room 0 spares → IsWide spare → spare.room ≡ room / (length spares + 1) → Serve room 0 (spares ++ spare ∷ [])
Serve-push room spares spare serve wide is =
    let positive : 0 < length spares + 1 = omega arith in
    let part = lt-mul-div-succ room positive in
    let a : suc (length spares + 0) ≡ length spares + 1 = omega arith in
    let b : suc spare.room ≡ room / (length spares + 1) + 1 = omega (arith, is) in
    Serve-push-at room 0 spares spare serve wide (rw (a, b) part)
