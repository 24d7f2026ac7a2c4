-- Gaps: what stands between tokens.
use Rattle.std.specs.Prelude.{◌≡◌, ℕ, suc, Bool, true, false, not, ◌&&◌, ◌||◌, ◌==◌, [], ◌∷◌, ◌++◌}
use Rattle.std.specs.List.{list_all}
use Rattle.dart_syntax.specs.Table.{Bytes, is_blank}

-- LF and CR
abbrev pub ends_line : ℕ → Bool
ends_line b = b == 10 || b == 13

abbrev pub in_line : ℕ → Bool
in_line b = not (ends_line b)

-- the file ends here, or a line
abbrev pub is_line_end : Bytes → Bool
is_line_end [] = true
is_line_end (b ∷ bs) = ends_line b

-- `/*` and `*/`
abbrev pub opens : ℕ → ℕ → Bool
opens b c = b == 47 && c == 42

abbrev pub closes : ℕ → ℕ → Bool
closes b c = b == 42 && c == 47

-- what stands behind an opening `/*`, with so many more open, up to the `*/` that closes it, and what follows
pub data IsInside : ℕ → Bytes → Bytes → Type 0 where
  last : {b c : ℕ} {rest : Bytes} → closes b c ≡ true → IsInside 0 (b ∷ c ∷ rest) rest
  close : {d b c : ℕ} {bs rest : Bytes} → closes b c ≡ true → IsInside d bs rest → IsInside (suc d) (b ∷ c ∷ bs) rest
  open' : {d b c : ℕ} {bs rest : Bytes} → closes b c ≡ false → opens b c ≡ true → IsInside (suc d) bs rest → IsInside d (b ∷ c ∷ bs) rest
  other : {d b c : ℕ} {bs rest : Bytes} → closes b c ≡ false → opens b c ≡ false → IsInside d (c ∷ bs) rest → IsInside d (b ∷ c ∷ bs) rest

-- a blank, `//` up to the line's end, or a comment, and what follows
pub data IsGap : Bytes → Bytes → Type 0 where
  blank : {b : ℕ} {rest : Bytes} → is_blank b ≡ true → IsGap (b ∷ rest) rest
  line : (body : Bytes) {rest : Bytes} → list_all in_line body ≡ true → is_line_end rest ≡ true → IsGap (47 ∷ 47 ∷ (body ++ rest)) rest
  comment : {bs rest : Bytes} → IsInside 0 bs rest → IsGap (47 ∷ 42 ∷ bs) rest
