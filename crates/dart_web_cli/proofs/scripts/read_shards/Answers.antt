use Rattle.std.proofs.Common.{◌≡◌, ℕ, ◌+◌, List, Option, Some, None, Result, Ok, Err, sym, ◌∙◌, subst, arith}
use Rattle.outside.specs.Outside.{Held}
use Rattle.js_tree.specs.declared.tree.NamedTree.{NamedTree}
use Rattle.dart_web_cli.specs.declared.scripts.ScriptFault.{ScriptFault}
use Rattle.dart_web_cli.specs.declared.scripts.TheConstants.{MAX_SHARDS}
use Rattle.dart_web_cli.specs.ScriptAnswers.{ReadsShard, ReadsShards}
use Rattle.dart_web_cli.proofs.HandedOn.{handed_on}
use Rattle.dart_web_cli.proofs.Shards.{ShardsSoFar, with_shard, shards_end, shards_full, shard_fault}
use Rattle.dart_web_cli.proofs.scripts.read_shards.Goals as goal

pub returns-in_err-shard-clause-told : goal.returns-in_err-shard-clause-told
returns-in_err-shard-clause-told g c =
    let held = g.S.Source.files c.args.source.now in
    let out = c.args.out.now in
    let fault = c.in_err-shard.field-0.0 in
    let from : c.from_residual.result ≡ Err fault = handed_on _ _ c.from_residual.ensures.1 in
    let told = subst (λ (h : Option Held). ReadsShard h out (c.loop-i.i + 1) (Err fault)) c.loop-i.invariant.files c.in_err-shard.ensures.told in
    subst (λ (r : Result (List NamedTree) ScriptFault). ReadsShards held out r) (sym from)
    (shard_fault held out c.loop-i.shards c.loop-i.i fault c.loop-i.invariant.so c.loop-i-test.true told)

pub returns-in-None-clause-told : goal.returns-in-None-clause-told
returns-in-None-clause-told g c =
    let held = g.S.Source.files c.args.source.now in
    let out = c.args.out.now in
    let read = subst (λ (h : Option Held). ReadsShard h out (c.loop-i.i + 1) (Ok c.in_ok-shard.field-0)) c.loop-i.invariant.files c.in_ok-shard.ensures.told in
    let none = subst (λ (o : Option NamedTree). ReadsShard held out (c.loop-i.i + 1) (Ok o)) c.in-None.is read in
    shards_end held out c.loop-i.shards c.loop-i.i c.loop-i.invariant.so c.loop-i-test.true none

pub loop-i-preserved : goal.loop-i-preserved
loop-i-preserved g c =
    let held = g.S.Source.files c.args.source.now in
    let out = c.args.out.now in
    let read = subst (λ (h : Option Held). ReadsShard h out (c.loop-i.i + 1) (Ok c.in_ok-shard.field-0)) c.loop-i.invariant.files c.in_ok-shard.ensures.told in
    let some = subst (λ (o : Option NamedTree). ReadsShard held out (c.loop-i.i + 1) (Ok o)) c.in-Some.is read in
    record {
      files = c.in_ok-shard.ensures.unchanged ∙ c.loop-i.invariant.files;
      faults = c.in_ok-shard.ensures.cause ∙ c.loop-i.invariant.faults;
      so = subst (λ (l : List NamedTree). ShardsSoFar held out l (c.loop-i.i + 1)) (sym c.in_ok-push-in-Some.ensures.ok)
          (with_shard held out c.loop-i.shards c.loop-i.i c.in-Some.shard c.loop-i.invariant.so c.loop-i-test.true some);
    }

pub returns-clause-told : goal.returns-clause-told
returns-clause-told g c =
    let held = g.S.Source.files c.args.source.now in
    let out = c.args.out.now in
    let all : c.loop-i.i ≡ MAX_SHARDS = omega arith in
    shards_full held out c.loop-i.shards (subst (λ (n : ℕ). ShardsSoFar held out c.loop-i.shards n) all c.loop-i.invariant.so)
