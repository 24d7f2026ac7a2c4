use Rattle.std.proofs.Common.{subst}
use Rattle.std.specs.Prelude.{option_to_list}
use Rattle.std.proofs.lemmas.Result.{IfOk-weaker}
use Rattle.class_heads.specs.Supertypes.{supertypes_of}
use Rattle.supertypes.specs.Joined.{HasAlso, IsUnionOf}
use Rattle.supertypes.proofs.Joining.{union_of_named, union_of_three}
use Rattle.supertypes.proofs.supertypes.Supertypes.above.Goals as goal

pub returns-in_ok-second-in-Some-clause-adds : goal.returns-in_ok-second-in-Some-clause-adds
returns-in_ok-second-in-Some-clause-adds c =
    IfOk-weaker c.add_all.result (λ made. HasAlso c.add_if_any-in-Some.new.self c.add_all.new.self c.in_ok-second-in-Some.second made c.as_slice.result.now)
    (λ made. IsUnionOf c.args.self.now c.add_all.new.self made (supertypes_of c.args.classes.now c.args.class))
    (λ made adds.
    union_of_named c.args.classes.now c.args.class c.in-Some.class.now c.args.self.now c.add_all.new.self made c.in-Some.ensures
    (union_of_three c.args.self.now c.add_if_any.new.self c.add_if_any-in-Some.new.self c.add_all.new.self c.empty-none.result c.in_ok-first-in-Some.first c.in_ok-second-in-Some.second made
    (option_to_list c.in-Some.class.now.superclass) (option_to_list c.in-Some.class.now.mixin) c.in-Some.class.now.interfaces c.requires.are_maps c.empty-none.ensures
    c.in_ok-first-in-Some.ensures.keeps c.in_ok-second-in-Some.ensures.keeps c.in_ok-first-in-Some.ensures.adds c.in_ok-second-in-Some.ensures.adds
    (subst (HasAlso c.add_if_any-in-Some.new.self c.add_all.new.self c.in_ok-second-in-Some.second made) c.as_slice.ensures adds)))
    c.add_all.ensures.adds
