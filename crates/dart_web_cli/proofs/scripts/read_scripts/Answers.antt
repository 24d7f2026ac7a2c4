use Rattle.std.proofs.Common.{◌≡◌, ℕ, ◌+◌, ◌<◌, ◌^◌, List, ◌∷◌, [], ◌++◌, length, Option, Result, Ok, Err, sym, ◌∙◌, ap, subst, arith}
use Rattle.outside.specs.Outside.{Held}
use Rattle.js_tree.specs.declared.tree.NamedTree.{NamedTree}
use Rattle.js_meaning.specs.Laws.{HaveOwnNames}
use Rattle.dart_web_cli.specs.declared.scripts.ScriptFault.{ScriptFault}
use Rattle.dart_web_cli.specs.Scripts.{named}
use Rattle.dart_web_cli.specs.ScriptAnswers.{ReadsShards, ReadsScripts}
use Rattle.dart_web_cli.proofs.HandedOn.{handed_on}
use Rattle.dart_web_cli.proofs.Shards.{main_fault, shards_fault, own_names}
use Rattle.dart_web_cli.proofs.scripts.read_scripts.Goals as goal

pub returns-in_err-main-clause-told : goal.returns-in_err-main-clause-told
returns-in_err-main-clause-told g c =
    let held = g.S.Source.files c.args.source.now in
    let fault = c.in_err-main.field-0.0 in
    let from : c.from_residual.result ≡ Err fault = handed_on _ _ c.from_residual.ensures.1 in
    subst (λ (r : Result (List NamedTree) ScriptFault). ReadsScripts held c.args.out.now r) (sym from) (main_fault held c.args.out.now fault c.in_err-main.ensures.told)

pub returns-in_err-trees-clause-told : goal.returns-in_err-trees-clause-told
returns-in_err-trees-clause-told g c =
    let held = g.S.Source.files c.args.source.now in
    let out = c.args.out.now in
    let main = c.in_ok-main.ensures.told in
    let fault = c.in_err-trees.field-0.0 in
    let from : c.from_residual-in_err-trees.result ≡ Err fault = handed_on _ _ c.from_residual-in_err-trees.ensures.1 in
    let told = subst (λ (h : Option Held). ReadsShards h out (Err fault)) c.in_ok-main.ensures.unchanged c.in_err-trees.ensures.told in
    subst (λ (r : Result (List NamedTree) ScriptFault). ReadsScripts held out r) (sym from) (shards_fault held out main.0 fault main.2 told)

pub returns-clause-names : goal.returns-clause-names
returns-clause-names g c =
    let out = c.args.out.now in
    let main = c.in_ok-main.ensures.told in
    let shards = c.in_ok-trees.trees in
    let few = c.in_ok-trees.ensures.told.few in
    let short : 1 + length shards < 2 ^ 64 = omega (arith, few) in
    let all : c.push.new.self ≡ shards ++ named out main.0 ∷ [] = c.in_ok-push.ensures.ok ∙ ap (λ (t : NamedTree). shards ++ t ∷ []) main.1 in
    subst HaveOwnNames (sym all) (own_names out c.utf8.out main.0 1 shards short c.in_ok-trees.ensures.told.names)
