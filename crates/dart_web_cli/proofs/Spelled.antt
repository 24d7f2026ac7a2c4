-- OUT has one list of trees at most, or a first file that is not in the subset.
use Rattle.std.proofs.Common.{◌≡◌, ◌⊎◌, inl, inr, ℕ, zero, suc, ◌+◌, ◌<◌, ◌≤◌, List, [], ◌∷◌, ◌++◌, length, Option, Some, None, Result, Ok, Err, refl, sym, ◌∙◌, ap, subst, arith}
use Rattle.std.proofs.lemmas.Bool.{cases_lt}
use Rattle.outside.specs.Outside.{Held}
use Rattle.js_tree.specs.declared.tree.JsItem.{JsItem}
use Rattle.js_tree.specs.declared.tree.JsFile.{JsFile}
use Rattle.js_tree.specs.declared.tree.NamedTree.{NamedTree}
use Rattle.js_tree.specs.Spelling.{IsSpelled}
use Rattle.js_reader.specs.declared.fault.JsFault.TheVariants.{NotInProfile as NoFile}
use Rattle.js_reader.specs.Scanning.{tokens_of}
use Rattle.js_reader.specs.Parsing.{file_at}
use Rattle.js_reader.specs.Faults.{IsFaultOf}
use Rattle.js_reader.proofs.Lexed.{are_tokens}
use Rattle.js_reader.proofs.Placed.{one_fault}
use Rattle.js_reader.proofs.Exact as exact
use Rattle.dart_web_cli.specs.declared.scripts.TheConstants.{MAX_SCRIPT, MAX_SHARDS}
use Rattle.dart_web_cli.specs.Scripts.{shard_name, IsScript, IsNoScript, too_long, no_tree, named, AreShards, enough, absent, shard, IsFirstBad, here, later, AreScripts, IsOutside, in_main, in_shard}
use Rattle.dart_web_cli.specs.ScriptLaws.{OneRun, OneOutside, RunOrOutside}

same_content : (files : Held) (name one other : List ℕ) → files name ≡ Some one → files name ≡ Some other → other ≡ one
same_content files name one other h k = let e = sym k ∙ h in cc

not_absent : (files : Held) (name content : List ℕ) → files name ≡ Some content → files name ≡ None → ⊥
not_absent files name content h k = let e = sym h ∙ k in cc

-- ---- one script

one_script : (files : Held) (name : List ℕ) (tree other : JsFile) → IsScript files name tree → IsScript files name other → tree ≡ other
one_script files name tree other a b =
    exact.one a.content tree other a.spelled (subst (λ (c : List ℕ). IsSpelled c other) (same_content files name a.content b.content a.held b.held) b.spelled)

script_or_none : (files : Held) (name : List ℕ) (tree : JsFile) (at : ℕ) → IsScript files name tree → IsNoScript files name at → ⊥
script_or_none files name tree at a (too_long {content = c} held long) =
    let same = same_content files name a.content c a.held held in
    let short = a.short in
    let l : length c ≡ length a.content = ap length same in omega arith
script_or_none files name tree at a (no_tree {content = c} held short fault) =
    fault.0 tree (subst (λ (bs : List ℕ). IsSpelled bs tree) (sym (same_content files name a.content c a.held held)) a.spelled)

same_fault : (content : List ℕ) (at place : ℕ) → IsFaultOf content (NoFile at) → IsFaultOf content (NoFile place) → at ≡ place
same_fault content at place a b =
    let d = are_tokens (length content) content in
    one_fault (length content) (tokens_of (length content) content) at place (a.1 (tokens_of (length content) content) d) (b.1 (tokens_of (length content) content) d)

long_or_short : (one other : List ℕ) → other ≡ one → MAX_SCRIPT < length one → length other ≤ MAX_SCRIPT → ⊥
long_or_short one other e long short = let l : length other ≡ length one = ap length e in omega arith

one_place : (files : Held) (name : List ℕ) (at place : ℕ) → IsNoScript files name at → IsNoScript files name place → at ≡ place
one_place files name at place (too_long held long) (too_long held' long') = refl
one_place files name at place (too_long {content = c} held long) (no_tree {content = d} held' short fault) = absurd (long_or_short c d (same_content files name c d held held') long short)
one_place files name at place (no_tree {content = c} held short fault) (too_long {content = d} held' long) = absurd (long_or_short d c (same_content files name d c held' held) long short)
one_place files name at place (no_tree {content = c} held short fault) (no_tree {content = d} held' short' fault') =
    same_fault c at place fault (subst (λ (bs : List ℕ). IsFaultOf bs (NoFile place)) (same_content files name c d held held') fault')

script_held : (files : Held) (name : List ℕ) (tree : JsFile) → IsScript files name tree → files name ≡ None → ⊥
script_held files name tree a e = not_absent files name a.content a.held e

none_held : (files : Held) (name : List ℕ) (at : ℕ) → IsNoScript files name at → files name ≡ None → ⊥
none_held files name at (too_long {content = c} held long) e = not_absent files name c held e
none_held files name at (no_tree {content = c} held short fault) e = not_absent files name c held e

-- ---- shards

one_shards : (files : Held) (out : List ℕ) (i most : ℕ) (trees others : List NamedTree) → AreShards files out i most trees → AreShards files out i most others → trees ≡ others
one_shards files out i most trees others enough enough = refl
one_shards files out i most trees others (absent e) (absent e') = refl
one_shards files out i most trees others (absent e) (shard {tree = t} is are) = absurd (script_held files (shard_name out i) t is e)
one_shards files out i most trees others (shard {tree = t} is are) (absent e) = absurd (script_held files (shard_name out i) t is e)
one_shards files out i most trees others (shard {most = m} {tree = t} {trees = ts} is are) (shard {tree = u} {trees = us} is' are') =
    let same : t ≡ u = one_script files (shard_name out i) t u is is' in
    let rest : ts ≡ us = one_shards files out (suc i) m ts us are are' in
    ap (λ (x : JsFile). named (shard_name out i) x ∷ ts) same ∙ ap (λ (l : List NamedTree). named (shard_name out i) u ∷ l) rest

shards_or_bad : (files : Held) (out : List ℕ) (i most : ℕ) (trees : List NamedTree) (name : List ℕ) (at : ℕ) → AreShards files out i most trees → IsFirstBad files out i most name at → ⊥
shards_or_bad files out _ _ _ name at (enough {i = i}) bad = elim bad [ ]
shards_or_bad files out i most trees name at (absent e) (here is) = none_held files (shard_name out i) at is e
shards_or_bad files out i most trees name at (absent e) (later {tree = t} is first) = script_held files (shard_name out i) t is e
shards_or_bad files out i most trees name at (shard {tree = t} is are) (here no_script) = script_or_none files (shard_name out i) t at is no_script
shards_or_bad files out i most trees name at (shard {most = m} {trees = ts} is are) (later is' first) = shards_or_bad files out (suc i) m ts name at are first

one_bad : (files : Held) (out : List ℕ) (i most : ℕ) (name other : List ℕ) (at place : ℕ) → IsFirstBad files out i most name at → IsFirstBad files out i most other place → (name ≡ other) × (at ≡ place)
one_bad files out i most name other at place (here is) (here is') = (refl, one_place files (shard_name out i) at place is is')
one_bad files out i most name other at place (here is) (later {tree = t} is' first) = absurd (script_or_none files (shard_name out i) t at is' is)
one_bad files out i most name other at place (later {tree = t} is first) (here is') = absurd (script_or_none files (shard_name out i) t place is is')
one_bad files out i most name other at place (later {most = m} is first) (later is' first') = one_bad files out (suc i) m name other at place first first'

-- ---- all scripts

pub one_list : (files : Held) (out : List ℕ) (trees others : List NamedTree) → AreScripts files out trees → AreScripts files out others → trees ≡ others
one_list files out trees others a b =
    let main : a.main ≡ b.main = one_script files out a.main b.main a.main_is b.main_is in
    let shards : a.shards ≡ b.shards = one_shards files out 1 MAX_SHARDS a.shards b.shards a.shards_are b.shards_are in
    a.all ∙ (ap (λ (t : JsFile). a.shards ++ named out t ∷ []) main ∙ (ap (λ (l : List NamedTree). l ++ named out b.main ∷ []) shards ∙ sym b.all))

pub scripts_held : (files : Held) (out : List ℕ) (trees : List NamedTree) → AreScripts files out trees → files out ≡ None → ⊥
scripts_held files out trees a e = script_held files out a.main a.main_is e

pub one_run : OneRun
one_run = record { one = one_list; held = scripts_held }

pub first_outside : (files : Held) (out name other : List ℕ) (at place : ℕ) → IsOutside files out name at → IsOutside files out other place → (name ≡ other) × (at ≡ place)
first_outside files out name other at place (in_main is) (in_main is') = (refl, one_place files out at place is is')
first_outside files out name other at place (in_main is) (in_shard {tree = t} is' first) = absurd (script_or_none files out t at is' is)
first_outside files out name other at place (in_shard {tree = t} is first) (in_main is') = absurd (script_or_none files out t place is is')
first_outside files out name other at place (in_shard is first) (in_shard is' first') = one_bad files out 1 MAX_SHARDS name other at place first first'

pub outside_runs_not : (files : Held) (out name : List ℕ) (at : ℕ) (trees : List NamedTree) → IsOutside files out name at → AreScripts files out trees → ⊥
outside_runs_not files out name at trees (in_main is) a = script_or_none files out a.main at a.main_is is
outside_runs_not files out name at trees (in_shard is first) a = shards_or_bad files out 1 MAX_SHARDS a.shards name at a.shards_are first

pub outside_held : (files : Held) (out name : List ℕ) (at : ℕ) → IsOutside files out name at → files out ≡ None → ⊥
outside_held files out name at (in_main is) e = none_held files out at is e
outside_held files out name at (in_shard {tree = t} is first) e = script_held files out t is e

pub one_outside : OneOutside
one_outside = record { one = first_outside; no_run = outside_runs_not; held = outside_held }

-- ---- each OUT is one of the three

abbrev ScriptOrNot : Held → List ℕ → Type 0
ScriptOrNot files name = (files name ≡ None) ⊎ (((tree : JsFile) × IsScript files name tree) ⊎ ((at : ℕ) × IsNoScript files name at))

read_or_not : (files : Held) (name content : List ℕ) (found : Result (List JsItem) ℕ) → files name ≡ Some content → length content ≤ MAX_SCRIPT → file_at (length content) (length content + 1) (tokens_of (length content) content) ≡ found → ScriptOrNot files name
read_or_not files name content (Ok xs) held short e = inr (inl (record { items = xs }, record { content = content; held = held; short = short; spelled = exact.spelled content xs e }))
read_or_not files name content (Err at) held short e = inr (inr (at, no_tree held short (exact.fault_is content (NoFile at) e)))

short_or_not : (files : Held) (name content : List ℕ) → files name ≡ Some content → ScriptOrNot files name
short_or_not files name content held = elim (cases_lt MAX_SCRIPT (length content)) [
  | inl long ↦ inr (inr (MAX_SCRIPT, too_long held long))
  | inr short ↦ read_or_not files name content (file_at (length content) (length content + 1) (tokens_of (length content) content)) held short refl
]

held_or_not : (files : Held) (name : List ℕ) (found : Option (List ℕ)) → files name ≡ found → ScriptOrNot files name
held_or_not files name None e = inl e
held_or_not files name (Some content) e = short_or_not files name content e

abbrev ShardsOrBad : Held → List ℕ → ℕ → ℕ → Type 0
ShardsOrBad files out i most = ((trees : List NamedTree) × AreShards files out i most trees) ⊎ ((name : List ℕ) × (at : ℕ) × IsFirstBad files out i most name at)

behind_shard : (files : Held) (out : List ℕ) (i most : ℕ) (tree : JsFile) → IsScript files (shard_name out i) tree → ShardsOrBad files out (suc i) most → ShardsOrBad files out i (suc most)
behind_shard files out i most tree is (inl x) = inl (named (shard_name out i) tree ∷ x.0, shard is x.1)
behind_shard files out i most tree is (inr x) = inr (x.0, x.1, later is x.2)

at_shard : (files : Held) (out : List ℕ) (i most : ℕ) → ScriptOrNot files (shard_name out i) → ShardsOrBad files out (suc i) most → ShardsOrBad files out i (suc most)
at_shard files out i most (inl e) rest = inl ([], absent e)
at_shard files out i most (inr (inl x)) rest = behind_shard files out i most x.0 x.1 rest
at_shard files out i most (inr (inr x)) rest = inr (shard_name out i, x.0, here x.1)

shards_or_not : (files : Held) (out : List ℕ) (most i : ℕ) → ShardsOrBad files out i most
shards_or_not files out zero i = inl ([], enough)
shards_or_not files out (suc most) i = at_shard files out i most (held_or_not files (shard_name out i) (files (shard_name out i)) refl) (shards_or_not files out most (suc i))

abbrev RunOrNot : Held → List ℕ → Type 0
RunOrNot files out = (files out ≡ None) ⊎ (((trees : List NamedTree) × AreScripts files out trees) ⊎ ((name : List ℕ) × (at : ℕ) × IsOutside files out name at))

with_main : (files : Held) (out : List ℕ) (tree : JsFile) → IsScript files out tree → ShardsOrBad files out 1 MAX_SHARDS → RunOrNot files out
with_main files out tree is (inl x) = inr (inl (x.0 ++ named out tree ∷ [], record { main = tree; shards = x.0; main_is = is; shards_are = x.1; all = refl }))
with_main files out tree is (inr x) = inr (inr (x.0, x.1, in_shard is x.2))

of_main : (files : Held) (out : List ℕ) → ScriptOrNot files out → RunOrNot files out
of_main files out (inl e) = inl e
of_main files out (inr (inl x)) = with_main files out x.0 x.1 (shards_or_not files out MAX_SHARDS 1)
of_main files out (inr (inr x)) = inr (inr (out, x.0, in_main x.1))

pub run_or_outside : RunOrOutside
run_or_outside files out = of_main files out (held_or_not files out (files out) refl)
