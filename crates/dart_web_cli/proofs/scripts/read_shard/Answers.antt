use Rattle.std.proofs.Common.{◌≡◌, ℕ, List, None, ◌∙◌, subst}
use Rattle.std.specs.Prelude.{IfSome}
use Rattle.dart_web_cli.specs.Scripts.{IsScript, IsNoScript}
use Rattle.dart_web_cli.proofs.scripts.read_shard.Goals as goal

pub returns-in_ok-shard-in-Tree-clause-told : goal.returns-in_ok-shard-in-Tree-clause-told
returns-in_ok-shard-in-Tree-clause-told g c = (
  c.in-Tree.tree,
  (cc (c.in_ok-shard-in-Tree.ensures, c.in_ok-name.ensures)),
  subst (λ (n : List ℕ). IfSome (g.S.Source.files c.args.source.now) (λ files. IsScript files n c.in-Tree.tree)) (c.as_str.ensures.value ∙ c.in_ok-name.ensures) c.in-Tree.ensures.told,
)

pub returns-in-Absent-clause-told : goal.returns-in-Absent-clause-told
returns-in-Absent-clause-told g c =
    subst (λ (n : List ℕ). IfSome (g.S.Source.files c.args.source.now) (λ files. files n ≡ None)) (c.as_str.ensures.value ∙ c.in_ok-name.ensures) c.in-Absent.ensures.told

pub returns-in-Outside-clause-told : goal.returns-in-Outside-clause-told
returns-in-Outside-clause-told g c =
    (c.in_ok-name.ensures, subst (λ (n : List ℕ). IfSome (g.S.Source.files c.args.source.now) (λ files. IsNoScript files n c.in-Outside.at)) (c.as_str.ensures.value ∙ c.in_ok-name.ensures) c.in-Outside.ensures.told)
