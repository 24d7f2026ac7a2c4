-- What was made, with the units of the text that is left, is the whole, and what is left has room.
use Rattle.std.proofs.Common.{◌≡◌, ◌≤◌, ◌+◌, ◌++◌, length, vec_len, vec_capacity}
use Rattle.std.specs.Str.{IsUtf8}
use Rattle.code_units.specs.Text.{units_of}
use Rattle.code_units.proofs.text.push_within.Given as goal

abbrev pub invariant-loop-c : goal.invariant-loop-c
invariant-loop-c l = record {
  utf8 : IsUtf8 l.c-iterator.rest.now;
  whole : l.initial.units.items ++ units_of l.text ≡ l.units.items ++ units_of l.c-iterator.rest.now;
  room : vec_len l.units + length l.c-iterator.rest.now ≤ vec_capacity l.units;
  capacity : vec_capacity l.initial.units ≤ vec_capacity l.units;
}
