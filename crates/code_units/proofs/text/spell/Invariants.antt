-- What was passed over stands at the front of the units and of the units of the text.
use Rattle.std.proofs.Common.{◌≡◌, ◌++◌, List, ℕ}
use Rattle.std.specs.Str.{IsUtf8}
use Rattle.code_units.specs.Text.{units_of}
use Rattle.code_units.proofs.text.spell.Given as goal

abbrev pub invariant-loop-c : goal.invariant-loop-c
invariant-loop-c l = record {
  utf8 : IsUtf8 l.c-iterator.rest.now;
  front : (front : List ℕ) × (l.units ≡ front ++ l.rest) × (units_of l.text ≡ front ++ units_of l.c-iterator.rest.now);
}
