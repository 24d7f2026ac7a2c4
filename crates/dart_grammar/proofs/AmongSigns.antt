-- A sign is one of three, or none.
use Rattle.std.proofs.Common.{rules, ◌≡◌, ◌⊎◌, inl, inr, Bool, true, false, ◌||◌, refl, sym}
use denote.Enum.Bare.{true_same, false_same}
use Rattle.dart_syntax.specs.contracts.words.Sign.{the_type as signs}
use Rattle.dart_syntax.specs.declared.words.Sign.{Sign}
use Rattle.dart_grammar.specs.Marks.{same_sign}

any_true : (a b c : Bool) → (a ≡ true) ⊎ ((b ≡ true) ⊎ (c ≡ true)) → true ≡ (a || b || c)
any_true true b c h = refl
any_true false true c h = refl
any_true false false true h = refl
any_true false false false (inl h) = sym h
any_true false false false (inr (inl h)) = sym h
any_true false false false (inr (inr h)) = sym h

none_true : (a b c : Bool) → a ≡ false → b ≡ false → c ≡ false → false ≡ (a || b || c)
none_true false b c ea eb ec = elim_both b c eb ec where
  elim_both : (b c : Bool) → b ≡ false → c ≡ false → false ≡ (false || b || c)
  elim_both false c eb ec = sym ec
  elim_both true c eb ec = sym eb
none_true true b c ea eb ec = sym ea

pub is_among : (y a b c : Sign) → (y ≡ a) ⊎ ((y ≡ b) ⊎ (y ≡ c)) → true ≡ (same_sign y a || same_sign y b || same_sign y c)
unfolding same_sign
is_among y a b c (inl e) = any_true (same_sign y a) (same_sign y b) (same_sign y c) (inl (true_same signs y a e))
is_among y a b c (inr (inl e)) = any_true (same_sign y a) (same_sign y b) (same_sign y c) (inr (inl (true_same signs y b e)))
is_among y a b c (inr (inr e)) = any_true (same_sign y a) (same_sign y b) (same_sign y c) (inr (inr (true_same signs y c e)))

pub is_not_among : (y a b c : Sign) → (y ≡ a → ⊥) → (y ≡ b → ⊥) → (y ≡ c → ⊥) → false ≡ (same_sign y a || same_sign y b || same_sign y c)
unfolding same_sign
is_not_among y a b c na nb nc = none_true (same_sign y a) (same_sign y b) (same_sign y c)
    (false_same signs (search rules) y a na) (false_same signs (search rules) y b nb) (false_same signs (search rules) y c nc)
