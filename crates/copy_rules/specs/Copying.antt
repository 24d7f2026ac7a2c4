-- What copying rules give.
use Rattle.std.specs.Prelude.{ℕ, zero, suc, Bool, ◌&&◌, nat_lt, List, [], ◌∷◌, ◌++◌, Option, None, Some, slice_get, if◌then◌else◌}
use Rattle.type_masks.specs.Masks.{Kinds, has}
use Rattle.type_masks.specs.declared.shape.Shape.{Shape}
use Rattle.world_state.specs.declared.fact.Fact.{Fact}
use Rattle.world_state.specs.declared.fact.Fact.TheVariants.{In, Live}
use Rattle.world_state.specs.declared.reads.SlotRead.{SlotRead}
use Rattle.world_state.specs.declared.impact.Impact.{Impact}
use Rattle.world_state.specs.Reads.{is_read, with_read}
use Rattle.world_state.specs.Worlds.{Facts, mask_at}
use Rattle.copy_rules.specs.declared.rules.SlotCopy.{SlotCopy}
use Rattle.copy_rules.specs.declared.rules.Rule.{Rule}
use Rattle.enqueuer_core.specs.Least.{Meaning}

-- whether the numbers of a fact, or of a copy, lie in the shape
abbrev pub is_fact_inside : Shape → Fact → Bool
is_fact_inside s (In slot kind) = nat_lt slot s.slots && nat_lt kind s.kinds
is_fact_inside s (Live member) = nat_lt member s.members

abbrev pub is_copy_inside : Shape → SlotCopy → Bool
is_copy_inside s c = nat_lt c.from s.slots && nat_lt c.to s.slots

-- the facts that lie in the shape
abbrev pub facts_inside : Shape → List Fact → List Fact
facts_inside s [] = []
facts_inside s (f ∷ fs) = if is_fact_inside s f then f ∷ facts_inside s fs else facts_inside s fs

-- the reads with one of the slot
abbrev pub with_slot : Facts → List SlotRead → ℕ → List SlotRead
with_slot w rs slot = if is_read rs slot then rs else with_read rs (record { slot = slot; mask = mask_at w slot })

-- the facts that the kinds of a mask below a bound are in a slot
abbrev pub kinds_in : Kinds → ℕ → ℕ → List Fact
kinds_in mask slot zero = []
kinds_in mask slot (suc kind) = kinds_in mask slot kind ++ (if has mask kind then In slot kind ∷ [] else [])

-- what one copy reads, and what it gives
abbrev pub read_copy : Shape → Facts → List SlotRead → SlotCopy → List SlotRead
read_copy s w rs c = if is_copy_inside s c then with_slot w rs c.from else rs

abbrev pub copy_facts : Shape → Facts → SlotCopy → List Fact
copy_facts s w c = if is_copy_inside s c then kinds_in (mask_at w c.from) c.to s.kinds else []

-- the same of all copies
abbrev pub copies_read : Shape → Facts → List SlotRead → List SlotCopy → List SlotRead
copies_read s w rs [] = rs
copies_read s w rs (c ∷ cs) = copies_read s w (read_copy s w rs c) cs

abbrev pub copies_facts : Shape → Facts → List SlotCopy → List Fact
copies_facts s w [] = []
copies_facts s w (c ∷ cs) = copy_facts s w c ++ copies_facts s w cs

-- what the member of a rule gives
abbrev pub impact_of : Shape → Option Rule → ℕ → Facts → Impact
impact_of s None n w = record { member = n; reads = []; facts = [] }
impact_of s (Some rule) n w = record { member = n; reads = copies_read s w [] rule.copies.items; facts = facts_inside s rule.facts ++ copies_facts s w rule.copies.items }

-- the members below the count are live
abbrev pub live_below : ℕ → List Fact
live_below zero = []
live_below (suc n) = live_below n ++ Live n ∷ []

-- how many members of the shape lie below a number
abbrev pub first_of : Shape → ℕ → ℕ
first_of s first = if nat_lt first s.members then first else s.members

abbrev pub meaning_of : Shape → ℕ → List Rule → Meaning
meaning_of s first rules = record { shape = s; roots = live_below (first_of s first); impact = λ n w. impact_of s (slice_get rules n) n w }
