-- The names of loaded files: they are asked for in this order, and none of them twice.
use Rattle.std.proofs.Common.{◌≡◌, ℕ, zero, suc, ◌+◌, ◌≤◌, ◌<◌, Bool, true, false, List, [], ◌∷◌, ◌++◌, length, take, min, map, Option, Some, None, inl, inr, refl, sym, ap, ◌∙◌, subst, arith, append_assoc, add-one}
use Rattle.std.specs.Prelude.{not, filter, flat_map, slice_get}
use Rattle.std.specs.List.{AllByRecursion}
use Rattle.std.specs.Option.{option_map}
use Rattle.std.specs.Str.{bytes_eq}
use Rattle.std.specs.Char.Utf16.{has_unpaired_surrogate}
use Rattle.std.proofs.lemmas.List.{length-map, length-take, length_push, map-append}
use Rattle.std.proofs.lemmas.Option.{same_Some, slice_get-map, slice_get_within, none-some}
use Rattle.code_units.specs.Text.{units_of, utf8_of}
use Rattle.outside.specs.Outside.{Held}
use Rattle.dart_program.specs.declared.files.SourceFile.{SourceFile}
use Rattle.dart_program.specs.Loading.{Asked, asked_first, asked_by, asked_from, is_name, asks_for, each_once, asked, Loads, none, next, IsFine, most_files, most_in_all}
use Rattle.source_loading.specs.Asking.{with_all}
use Rattle.source_loading.specs.Reading.{ComesBack}
use Rattle.source_loading.proofs.Once.{tells, same_name, name_same, clash, asked_push, grown}

-- ---- lists

pub all_push : {X : Type 0} (P : X → Type 0) (xs : List X) (x : X) → AllByRecursion P xs → P x → AllByRecursion P (xs ++ x ∷ [])
all_push P [] x all last = (last, tt)
all_push P (y ∷ xs) x all last = (all.0, all_push P xs x all.1 last)

pub all_front : {X : Type 0} (P : X → Type 0) (xs : List X) (x : X) → AllByRecursion P (xs ++ x ∷ []) → AllByRecursion P xs
all_front P [] x all = tt
all_front P (y ∷ xs) x all = (all.0, all_front P xs x all.1)

pub all_last : {X : Type 0} (P : X → Type 0) (xs : List X) (x : X) → AllByRecursion P (xs ++ x ∷ []) → P x
all_last P [] x all = all.0
all_last P (y ∷ xs) x all = all_last P xs x all.1

pub all_at : {X : Type 0} (P : X → Type 0) (xs : List X) (i : ℕ) (x : X) → AllByRecursion P xs → slice_get xs i ≡ Some x → P x
all_at P [] i x all e = absurd (none-some x e)
all_at P (y ∷ xs) zero x all e = subst P (same_Some y x e) all.0
all_at P (y ∷ xs) (suc i) x all e = all_at P xs i x all.1 e

pub all_filtered : {X : Type 0} (P : X → Type 0) (p : X → Bool) (xs : List X) → AllByRecursion P xs → AllByRecursion P (filter p xs)
all_filtered P p [] all = tt
all_filtered P p (x ∷ xs) all = by (p x) refl (all_filtered P p xs all.1) where
  by : (b : Bool) → p x ≡ b → AllByRecursion P (filter p xs) → AllByRecursion P (filter p (x ∷ xs))
  by true e rest = rw e (all.0, rest)
  by false e rest = rw e rest

pub take_next : {X : Type 0} (xs zs : List X) (k : ℕ) (x : X) → slice_get xs k ≡ Some x → take (suc k) (xs ++ zs) ≡ take k xs ++ x ∷ []
take_next [] zs k x e = absurd (none-some x e)
take_next (y ∷ xs) zs zero x e = ap (λ z. z ∷ []) (same_Some y x e)
take_next (y ∷ xs) zs (suc k) x e = ap (λ ws. y ∷ ws) (take_next xs zs k x e)

pub got_front : {X : Type 0} (xs : List X) (k i : ℕ) (x : X) → slice_get (take k xs) i ≡ Some x → slice_get xs i ≡ Some x
got_front [] zero i x e = e
got_front [] (suc k) i x e = e
got_front (y ∷ xs) zero i x e = absurd (none-some x e)
got_front (y ∷ xs) (suc k) zero x e = e
got_front (y ∷ xs) (suc k) (suc i) x e = got_front xs k i x e

-- ---- each once

abbrev AreApart : List Asked → Type 0
AreApart [] = Unit {0}
AreApart (x ∷ xs) = AllByRecursion (λ y. asks_for x.name y ≡ false) xs × AreApart xs

others_left : (x : Option (List ℕ)) (zs : List Asked) → AllByRecursion (λ y. asks_for x y ≡ false) (filter (λ y. not (asks_for x y)) zs)
others_left x [] = tt
others_left x (z ∷ zs) = by (asks_for x z) refl (others_left x zs) where
  by : (b : Bool) → asks_for x z ≡ b → AllByRecursion (λ y. asks_for x y ≡ false) (filter (λ y. not (asks_for x y)) zs) → AllByRecursion (λ y. asks_for x y ≡ false) (filter (λ y. not (asks_for x y)) (z ∷ zs))
  by true e rest = rw e rest
  by false e rest = rw e (e, rest)

apart_filtered : (p : Asked → Bool) (zs : List Asked) → AreApart zs → AreApart (filter p zs)
apart_filtered p [] apart = tt
apart_filtered p (z ∷ zs) apart = by (p z) refl (apart_filtered p zs apart.1) where
  by : (b : Bool) → p z ≡ b → AreApart (filter p zs) → AreApart (filter p (z ∷ zs))
  by true e rest = rw e (all_filtered (λ y. asks_for z.name y ≡ false) p zs apart.0, rest)
  by false e rest = rw e rest

once_apart : (xs : List Asked) → AreApart (each_once xs)
once_apart [] = tt
once_apart (x ∷ xs) = (others_left x.name (each_once xs), apart_filtered (λ y. not (asks_for x.name y)) (each_once xs) (once_apart xs))

asked_apart : (entry : List ℕ) (files : List SourceFile) → AreApart (asked entry files)
unfolding asked
asked_apart entry files = once_apart (asked_first entry ∷ asked_from 1 files)

-- those before ask for other names
others_before : (xs : List Asked) (k : ℕ) (x : Asked) → AreApart xs → slice_get xs k ≡ Some x → AllByRecursion (λ y. asks_for y.name x ≡ false) (take k xs)
others_before [] k x apart e = absurd (none-some x e)
others_before (y ∷ xs) zero x apart e = tt
others_before (y ∷ xs) (suc k) x apart e = (all_at (λ z. asks_for y.name z ≡ false) xs k x apart.0 e, others_before xs k x apart.1 e)

-- ---- loaded files

pub loads_few : (held : Held) (entry : List ℕ) (files : List SourceFile) (size : ℕ) → Loads held entry files size → length files ≤ most_files
loads_few held entry files size none = omega arith
loads_few held entry files size (next {files = before} {file = f} l at fine) = let n : suc (length before) ≤ most_files = fine.few in rw (length_push before f) (omega arith)

names_more : (entry : List ℕ) (before : List SourceFile) (f : SourceFile) (x : Asked) → ((zs : List Asked) × (with_all (asked entry before) (flat_map (asked_by (suc (length before)) f.name) f.tree.imports) ≡ asked entry before ++ zs))
    → slice_get (asked entry before) (length before) ≡ Some x → x.name ≡ Some f.name → map (λ x. x.name) (take (length before) (asked entry before)) ≡ map (λ f. Some f.name) before
    → map (λ x. x.name) (take (length (before ++ f ∷ [])) (asked entry (before ++ f ∷ []))) ≡ map (λ f. Some f.name) (before ++ f ∷ [])
names_more entry before f x (zs, e) at name names =
    let n : length (before ++ f ∷ []) ≡ suc (length before) = length_push before f ∙ add-one (length before) in
    ap (λ k. map (λ x. x.name) (take k (asked entry (before ++ f ∷ [])))) n
    ∙ ap (λ xs. map (λ x. x.name) (take (suc (length before)) xs)) (asked_push entry before f ∙ e)
    ∙ ap (map (λ x. x.name)) (take_next (asked entry before) zs (length before) x at)
    ∙ map-append (λ x. x.name) (take (length before) (asked entry before)) (x ∷ [])
    ∙ ap (λ ns. ns ++ x.name ∷ []) names
    ∙ ap (λ n. map (λ f. Some f.name) before ++ n ∷ []) name
    ∙ sym (map-append (λ f. Some f.name) before (f ∷ []))

-- the names of what is asked for first are those of the files
pub loads_names : (held : Held) (entry : List ℕ) (files : List SourceFile) (size : ℕ) → Loads held entry files size → map (λ x. x.name) (take (length files) (asked entry files)) ≡ map (λ f. Some f.name) files
loads_names held entry files size none = refl
loads_names held entry files size (next {files = before} {x = x} {file = f} l at fine) =
    names_more entry before f x (grown (asked entry before) (flat_map (asked_by (suc (length before)) f.name) f.tree.imports)) at fine.name (loads_names held entry before _ l)

-- and there are no fewer
pub loads_asked : (held : Held) (entry : List ℕ) (files : List SourceFile) (size : ℕ) → Loads held entry files size → length files ≤ length (asked entry files)
loads_asked held entry files size l =
    let same : length (take (length files) (asked entry files)) ≡ length files = sym (length-map (take (length files) (asked entry files)) (λ x. x.name)) ∙ ap length (loads_names held entry files size l) ∙ length-map files (λ f. Some f.name) in
    let cut : length (take (length files) (asked entry files)) ≡ min (length files) (length (asked entry files)) = length-take (length files) (asked entry files) in
    omega arith

-- what asks for a loaded file
asker_at : (ys : List Asked) (files : List SourceFile) (i : ℕ) (f : SourceFile) → map (λ x. x.name) ys ≡ map (λ f. Some f.name) files → slice_get files i ≡ Some f → (y : Asked) × (slice_get ys i ≡ Some y) × (y.name ≡ Some f.name)
asker_at ys [] i f names e = absurd (none-some f e)
asker_at [] (g ∷ files) i f names e = absurd cc
asker_at (y ∷ ys) (g ∷ files) zero f names e = (y, refl, let n : y.name ≡ Some g.name = cc in n ∙ ap (λ h. Some h.name) (same_Some g f e))
asker_at (y ∷ ys) (g ∷ files) (suc i) f names e = asker_at ys files i f (let n : map (λ x. x.name) ys ≡ map (λ f. Some f.name) files = cc in n) e

pub asked_at : (held : Held) (entry : List ℕ) (files : List SourceFile) (size i : ℕ) (f : SourceFile) → Loads held entry files size → slice_get files i ≡ Some f → (y : Asked) × (slice_get (asked entry files) i ≡ Some y) × (y.name ≡ Some f.name)
asked_at held entry files size i f l e = go (asker_at (take (length files) (asked entry files)) files i f (loads_names held entry files size l) e) where
  go : ((y : Asked) × (slice_get (take (length files) (asked entry files)) i ≡ Some y) × (y.name ≡ Some f.name)) → (y : Asked) × (slice_get (asked entry files) i ≡ Some y) × (y.name ≡ Some f.name)
  go (y, at, name) = (y, got_front (asked entry files) (length files) i y at, name)

-- The UTF-8 of what is asked for next is that of no loaded file.
abbrev pub HasOtherKey : List ℕ → SourceFile → Type 0
HasOtherKey key f = has_unpaired_surrogate f.name ≡ false → bytes_eq key (utf8_of f.name) ≡ false

other_key : (y : Option (List ℕ)) (name own : List ℕ) (file at : ℕ) → y ≡ Some own → asks_for y (record { name = Some name; file = file; at = at }) ≡ false → units_of (utf8_of name) ≡ name → units_of (utf8_of own) ≡ own
    → bytes_eq (utf8_of name) (utf8_of own) ≡ false
other_key y name own file at is apart back own_back = elim (tells (bytes_eq (utf8_of name) (utf8_of own))) [
  | inl t ↦
      let same : own ≡ name = sym own_back ∙ ap units_of (sym (same_name (utf8_of name) (utf8_of own) t)) ∙ back in
      clash (bytes_eq own name) (name_same own name same) (subst (λ (o : Option (List ℕ)). asks_for o (record { name = Some name; file = file; at = at }) ≡ false) is apart)
  | inr f ↦ f
]

other_keys : (name : List ℕ) (x : Asked) (ys : List Asked) (files : List SourceFile) → x.name ≡ Some name → units_of (utf8_of name) ≡ name → map (λ x. x.name) ys ≡ map (λ f. Some f.name) files
    → AllByRecursion (λ y. asks_for y.name x ≡ false) ys → AllByRecursion (λ f. ComesBack f.name) files → AllByRecursion (HasOtherKey (utf8_of name)) files
other_keys name x ys [] is back names apart backs = tt
other_keys name x [] (f ∷ files) is back names apart backs = absurd cc
other_keys name x (y ∷ ys) (f ∷ files) is back names apart backs = (
  λ paired. other_key y.name name f.name x.file x.at (let n : y.name ≡ Some f.name = cc in n) (subst (λ (o : Option (List ℕ)). asks_for y.name (record { name = o; file = x.file; at = x.at }) ≡ false) is apart.0) back (backs.0 paired),
  other_keys name x ys files is back (let n : map (λ x. x.name) ys ≡ map (λ f. Some f.name) files = cc in n) apart.1 backs.1,
)

pub new_key : (held : Held) (entry : List ℕ) (files : List SourceFile) (size : ℕ) (x : Asked) (name : List ℕ) → Loads held entry files size → slice_get (asked entry files) (length files) ≡ Some x
    → x.name ≡ Some name → units_of (utf8_of name) ≡ name → AllByRecursion (λ f. ComesBack f.name) files → AllByRecursion (HasOtherKey (utf8_of name)) files
new_key held entry files size x name l at is back backs =
    other_keys name x (take (length files) (asked entry files)) files is back (loads_names held entry files size l) (others_before (asked entry files) (length files) x (asked_apart entry files) at) backs
