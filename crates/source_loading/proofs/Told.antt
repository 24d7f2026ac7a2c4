-- What a read tells of a name.
use Rattle.std.proofs.Common.{◌≡◌, ℕ, ◌+◌, ◌≤◌, ◌<◌, ◌^◌, Bool, true, false, cond, List, length, take, get_or, Fits, w16, Option, Some, None, refl, sym, ap, ◌∙◌, subst, arith}
use Rattle.std.specs.Prelude.{IfSome}
use Rattle.std.specs.Char.Utf16.{has_unpaired_surrogate}
use Rattle.std.proofs.lemmas.List.{take_all}
use Rattle.std.proofs.lemmas.List.Elements.{All-from_get_or}
use Rattle.code_units.specs.Text.{utf8_of}
use Rattle.code_units.proofs.TextLaws.{paired_units_come_back}
use Rattle.outside.specs.Outside.{Held, ReadTells, WithinLimit}
use Rattle.outside.specs.declared.traits.Read.{Read}
use Rattle.outside.specs.declared.traits.Read.TheVariants.{Got, Absent, Failed, Memory}
use Rattle.dart_program.specs.Loading.{held_as, most_bytes}
use Rattle.source_loading.specs.Tells.{Agrees}
use Rattle.source_loading.specs.Reading.{ComesBack, Holds, ReadsAs}

pub comes_back : (name : List ℕ) → ((i : ℕ) → Fits w16 (get_or name i 0)) → ComesBack name
comes_back name fit paired = paired_units_come_back name (All-from_get_or (λ unit. unit < 2 ^ 16) name 0 (λ i lt. let fits = fit i in omega (arith, fits))) paired

pub some_held : (told : Option Held) → (held : Held) × Agrees told held
some_held None = (λ name. None, tt)
some_held (Some held) = (held, refl)

-- what is held under a name with no lone surrogate, and under any other
held_paired : (held : Held) (name : List ℕ) → has_unpaired_surrogate name ≡ false → held_as held name ≡ held (utf8_of name)
held_paired held name f = ap (λ b. cond b None (held (utf8_of name))) f

held_unpaired : (held : Held) (name : List ℕ) → has_unpaired_surrogate name ≡ true → held_as held name ≡ None
held_unpaired held name t = ap (λ b. cond b None (held (utf8_of name))) t

pub unpaired_absent : (told : Option Held) (name : List ℕ) → has_unpaired_surrogate name ≡ true → Holds told name None
unpaired_absent told name t = go (some_held told) where
  go : ((held : Held) × Agrees told held) → Holds told name None
  go (held, agrees) = record { held = held; agrees = agrees; is = held_unpaired held name t }

pub read_told : (told : Option Held) (name key : List ℕ) (r : Read) → has_unpaired_surrogate name ≡ false → key ≡ utf8_of name → IfSome told (λ held. ReadTells held key (most_bytes + 1) r) → WithinLimit (most_bytes + 1) r
    → ReadsAs told name r
read_told None name key (Got bytes) paired is tells within = (bytes, record { held = λ other. Some bytes; agrees = tt; is = held_paired (λ other. Some bytes) name paired }, sym (take_all (most_bytes + 1) bytes within))
read_told None name key Absent paired is tells within = record { held = λ other. None; agrees = tt; is = held_paired (λ other. None) name paired }
read_told None name key Failed paired is tells within = tt
read_told None name key Memory paired is tells within = tt
read_told (Some held) name key (Got bytes) paired is (content, found, front) within =
    (content, record { held = held; agrees = refl; is = held_paired held name paired ∙ ap held (sym is) ∙ found }, front)
read_told (Some held) name key Absent paired is tells within = record { held = held; agrees = refl; is = held_paired held name paired ∙ ap held (sym is) ∙ tells }
read_told (Some held) name key Failed paired is tells within = tt
read_told (Some held) name key Memory paired is tells within = tt
