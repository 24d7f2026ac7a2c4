use Rattle.std.proofs.Common.{vec_len, vec_capacity, arith}
use Rattle.std.proofs.lemmas.Str.{IsUtf8-past_char}
use Rattle.code_units.proofs.Units.{whole_more, whole_made, fits_more}
use Rattle.code_units.proofs.text.push_within.Goals as goal

pub push_char-requires : goal.push_char-requires
push_char-requires c =
    let fits = fits_more (vec_len c.loop-c.units) (vec_capacity c.loop-c.units) _ _ c.in-Some.c c.in-Some.ensures.steps.0 c.loop-c.invariant.room in
    omega (arith, fits)

pub loop-c-preserved : goal.loop-c-preserved
loop-c-preserved c =
    let fits = fits_more (vec_len c.loop-c.units) (vec_capacity c.loop-c.units) _ _ c.in-Some.c c.in-Some.ensures.steps.0 c.loop-c.invariant.room in
    record {
      utf8 = IsUtf8-past_char _ _ _ c.loop-c.invariant.utf8 c.in-Some.ensures.steps.0;
      whole = whole_more _ _ _ _ _ _ c.loop-c.invariant.utf8 c.in-Some.ensures.steps.0 c.loop-c.invariant.whole c.push_char.ensures.items;
      room = omega (arith, fits);
      capacity = omega arith;
    }

pub returns-clause-items : goal.returns-clause-items
returns-clause-items c = whole_made _ _ _ c.in-None.ensures.steps.0.0 c.loop-c.invariant.whole
