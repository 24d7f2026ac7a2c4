-- What is told of one of the fields that are declared together.
use Rattle.std.proofs.Common.{◌≡◌, ◌<◌, ◌≤◌, ℕ, zero, suc, Bool, true, false, cond, List, [], ◌∷◌, map, length, Option, Some, None, refl, ap, ◌∙◌, sym, arith}
use Rattle.std.specs.Prelude.{nat_lt, option_and_then, option_map, slice_get}
use Rattle.std.proofs.lemmas.Bool.{ltb-true, ltb-false}
use Rattle.std.proofs.lemmas.Option.{slice_get-map}
use Rattle.dart_grammar.specs.declared.trees.Variable.{Variable}
use Rattle.dart_program.specs.Declares.{AField, variable_name}
use Rattle.library_scopes.specs.declared.named.Side.TheVariants as side
use Rattle.name_meanings.specs.declared.tables.Facts.{Facts}
use Rattle.name_meanings.specs.Own.{name_on}
use Rattle.name_meanings.specs.Tables.{no_facts, facts_of}

module _ (is_static is_final : Bool) where
  abbrev of_field : Facts
  of_field = record { is_static = is_static; lacks_body = false }

  held : (fields : List Variable) (n : ℕ) → n < length fields → of_field ≡ facts_of (option_map (AField is_static is_final) (slice_get fields n))
  held [] n lt = absurd (omega (arith, lt))
  held (x ∷ xs) zero lt = refl
  held (x ∷ xs) (suc n) lt = held xs n (omega (arith, lt))

  lacking : (fields : List Variable) (n : ℕ) → length fields ≤ n → no_facts ≡ facts_of (option_map (AField is_static is_final) (slice_get fields n))
  lacking [] n le = refl
  lacking (x ∷ xs) zero le = absurd (omega (arith, le))
  lacking (x ∷ xs) (suc n) le = lacking xs n (omega (arith, le))

  pub field_told : (fields : List Variable) (n : ℕ) → cond (nat_lt n (length fields)) of_field no_facts ≡ facts_of (slice_get (map (AField is_static is_final) fields) n)
  field_told fields n = by (nat_lt n (length fields)) refl ∙ ap facts_of (sym (slice_get-map (AField is_static is_final) fields n)) where
    by : (b : Bool) → nat_lt n (length fields) ≡ b → cond b of_field no_facts ≡ facts_of (option_map (AField is_static is_final) (slice_get fields n))
    by true e = held fields n (ltb-true n (length fields) e)
    by false e = lacking fields n (ltb-false n (length fields) e)

-- ---- what sets a field

module _ (is_static is_final : Bool) (fields : List Variable) (n : ℕ) where
  pub set_by_none : is_final ≡ true → None ≡ option_and_then (name_on side.Setting) (slice_get (map (AField is_static is_final) fields) n)
  set_by_none e = by (slice_get fields n) ∙ ap (option_and_then (name_on side.Setting)) (sym (slice_get-map (AField is_static is_final) fields n)) where
    by : (o : Option Variable) → None ≡ option_and_then (name_on side.Setting) (option_map (AField is_static is_final) o)
    by None = refl
    by (Some x) = sym (ap (λ b. cond b None (Some (variable_name x))) e)

  pub set_by_field : is_final ≡ false → option_map variable_name (slice_get fields n) ≡ option_and_then (name_on side.Setting) (slice_get (map (AField is_static is_final) fields) n)
  set_by_field e = by (slice_get fields n) ∙ ap (option_and_then (name_on side.Setting)) (sym (slice_get-map (AField is_static is_final) fields n)) where
    by : (o : Option Variable) → option_map variable_name o ≡ option_and_then (name_on side.Setting) (option_map (AField is_static is_final) o)
    by None = refl
    by (Some x) = sym (ap (λ b. cond b None (Some (variable_name x))) e)
