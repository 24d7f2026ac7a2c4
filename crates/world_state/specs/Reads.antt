-- Lists of reads.
use Rattle.std.specs.Prelude.{ℕ, ◌<◌, Bool, nat_eq, nat_lt, List, [], ◌∷◌, ⊤, if◌then◌else◌, refl}
use Rattle.std.specs.List.{list_any, AllByRecursion}
use Rattle.std.specs.Coded.{Coded, code_by, coded×, coded_ℕ, coded_list}
use Rattle.type_masks.specs.Masks.{Kinds, coded_Kinds}
use Rattle.world_state.specs.declared.reads.SlotRead.{SlotRead}

abbrev pub coded_reads : Coded (List SlotRead)
coded_reads = coded_list (code_by (ℕ × Kinds) (coded× coded_ℕ coded_Kinds) (λ r. (r.slot, r.mask)) (λ p. record { slot = p.0; mask = p.1 }) (λ _. refl))

-- each slot lies below those of all reads behind it
abbrev pub IsInSlotOrder : List SlotRead → Type 0
IsInSlotOrder [] = ⊤
IsInSlotOrder (r ∷ rs) = AllByRecursion (λ (o : SlotRead). r.slot < o.slot) rs × IsInSlotOrder rs

-- whether the slot was read
abbrev pub is_read : List SlotRead → ℕ → Bool
is_read rs slot = list_any (λ r. nat_eq r.slot slot) rs

-- the reads with one more, before those of higher slots
abbrev pub with_read : List SlotRead → SlotRead → List SlotRead
with_read [] read = read ∷ []
with_read (r ∷ rs) read = if nat_lt r.slot read.slot then r ∷ with_read rs read else read ∷ r ∷ rs
