use Rattle.std.proofs.Common.{◌++◌, ◌∙◌, ap, sym, append_assoc, refl}
use Rattle.std.specs.Char.Escape.{encode_utf16}
use Rattle.std.proofs.lemmas.Str.{IsUtf8-past_char}
use Rattle.code_units.specs.Text.{units_of}
use Rattle.code_units.proofs.Units.{differs_here, same_at_end, whole_more}
use Rattle.code_units.proofs.text.spell.Goals as goal

pub loop-c-preserved : goal.loop-c-preserved
loop-c-preserved c =
    let front = c.loop-c.invariant.front in
    record {
      utf8 = IsUtf8-past_char _ _ _ c.loop-c.invariant.utf8 c.in-Some.ensures.steps.0;
      front = (
        front.0 ++ encode_utf16 c.in-Some.c,
        front.1 ∙ ap (λ rest. front.0 ++ rest) c.in-Some-after_char.ensures ∙ sym (append_assoc front.0 _ _),
        whole_more (units_of c.args.text.now) front.0 _ _ _ c.in-Some.c c.loop-c.invariant.utf8 c.in-Some.ensures.steps.0 front.2 refl,
      );
    }

pub returns-in-None-after_char : goal.returns-in-None-after_char
returns-in-None-after_char c =
    let front = c.loop-c.invariant.front in
    let differs = differs_here c.args.units.now c.args.text.now front.0 _ _ _ _ c.loop-c.invariant.utf8 c.in-Some.ensures.steps.0 front.1 front.2 c.in-None-after_char.ensures in
    (λ yes. cc, λ same. absurd (differs same))

pub returns : goal.returns
returns c =
    let front = c.loop-c.invariant.front in
    same_at_end c.args.units.now c.args.text.now front.0 _ _ _ c.in-None.ensures.steps.0.0 c.is_empty.ensures front.1 front.2
