-- Shards, and the names of scripts.
use Rattle.std.proofs.Common.{◌≡◌, ◌≢◌, ◌⊎◌, inl, inr, ℕ, zero, suc, ◌+◌, ◌-◌, ◌<◌, ◌≤◌, ◌^◌, List, [], ◌∷◌, ◌++◌, length, take, Option, Some, None, Result, Ok, Err, codes, refl, sym, ◌∙◌, ap, subst, arith, append_assoc, length-append}
use Rattle.std.specs.Prelude.{IfSome, decimal}
use Rattle.std.specs.Str.{IsUtf8}
use Rattle.std.proofs.lemmas.List.{length-take, take_all, append-nil, append_cancel_left, append_cancel_right}
use Rattle.std.proofs.lemmas.Fmt.{decimal_injective, IsAscii-decimal}
use Rattle.std.proofs.lemmas.Str.{IsUtf8-append, IsUtf8-from_ascii}
use Rattle.code_units.specs.Text.{units_of}
use Rattle.code_units.proofs.TextLaws.{units_tell_apart}
use Rattle.outside.specs.Outside.{Held, ReadTells}
use Rattle.outside.specs.declared.traits.Read.TheVariants.{Got}
use Rattle.js_tree.specs.declared.tree.JsFile.{JsFile}
use Rattle.js_tree.specs.declared.tree.NamedTree.{NamedTree}
use Rattle.js_reader.specs.declared.fault.JsFault.TheVariants.{NotInProfile as NoFile}
use Rattle.js_reader.specs.Faults.{IsFaultOf}
use Rattle.js_meaning.specs.Laws.{IsNoName, HaveOwnNames}
use Rattle.dart_web_cli.specs.declared.scripts.Script.{Script}
use Rattle.dart_web_cli.specs.declared.scripts.Script.TheVariants as a
use Rattle.dart_web_cli.specs.declared.scripts.ScriptFault.{ScriptFault}
use Rattle.dart_web_cli.specs.declared.scripts.ScriptFault.TheVariants as f
use Rattle.dart_web_cli.specs.declared.scripts.TheConstants.{MAX_SCRIPT, MAX_SHARDS}
use Rattle.dart_web_cli.specs.Scripts.{shard_name, IsScript, IsNoScript, too_long, no_tree, named, AreShards, enough, absent, shard, IsFirstBad, here, later, AreScripts, IsOutside, in_main, in_shard, IsReadFor, reads_main, reads_shard}
use Rattle.dart_web_cli.specs.ScriptAnswers.{IsNoSpelling, JudgesScript, ReadsScript, ReadsMain, ReadsShard, HaveShardNames, IsShardList, ReadsShards, ReadsScripts}

-- ---- a script that was read

if_some_then : {T : Type 0} → (o : Option T) (P Q : T → Type 0) → ((v : T) → P v → Q v) → IfSome o P → IfSome o Q
if_some_then None P Q f h = h
if_some_then (Some v) P Q f h = f v h

whole : (content bytes : List ℕ) → bytes ≡ take (MAX_SCRIPT + 1) content → length bytes ≤ MAX_SCRIPT → bytes ≡ content
whole content bytes e short =
    let fits : length content ≤ MAX_SCRIPT + 1 = omega (arith, length-take (MAX_SCRIPT + 1) content, ap length e) in
    e ∙ take_all (MAX_SCRIPT + 1) content fits

-- of the bytes that were read, where the file is no longer than it may be
whole_file : (files : Held) (name bytes content : List ℕ) → files name ≡ Some content → bytes ≡ take (MAX_SCRIPT + 1) content → length bytes ≤ MAX_SCRIPT → files name ≡ Some bytes
whole_file files name bytes content held e short = subst (λ (c : List ℕ). files name ≡ Some c) (sym (whole content bytes e short)) held

no_script : (files : Held) (name bytes content : List ℕ) (at : ℕ) → files name ≡ Some content → bytes ≡ take (MAX_SCRIPT + 1) content → IsNoSpelling bytes at → IsNoScript files name at
no_script files name bytes content at held e (inl x) =
    let longer : MAX_SCRIPT < length content = omega (arith, length-take (MAX_SCRIPT + 1) content, ap length e, x.0) in
    subst (IsNoScript files name) (sym x.1) (too_long held longer)
no_script files name bytes content at held e (inr x) = no_tree (whole_file files name bytes content held e x.0) x.0 x.1

pub script_got : (held : Option Held) (name bytes : List ℕ) (script : Script) → IfSome held (λ files. ReadTells files name (MAX_SCRIPT + 1) (Got bytes)) → JudgesScript bytes script → ReadsScript held name script
script_got held name bytes (a.Tree tree) read judged =
    if_some_then held _ _ (λ files r. record { content = bytes; held = whole_file files name bytes r.0 r.1 r.2 judged.0; short = judged.0; spelled = judged.1 }) read
script_got held name bytes a.Absent read judged = absurd judged
script_got held name bytes (a.Outside at) read judged = if_some_then held _ _ (λ files r. no_script files name bytes r.0 at r.1 r.2 judged) read
script_got held name bytes a.Failed read judged = tt
script_got held name bytes a.Memory read judged = tt

pub script_too_long : (bytes : List ℕ) → MAX_SCRIPT < length bytes → IsNoSpelling bytes MAX_SCRIPT
script_too_long bytes long = inl (long, refl)

pub script_unspelled : (bytes : List ℕ) (at : ℕ) → length bytes ≤ MAX_SCRIPT → IsFaultOf bytes (NoFile at) → IsNoSpelling bytes at
script_unspelled bytes at short fault = inr (short, fault)

-- ---- names

underscore : IsUtf8 (codes "_")
unfolding lib.Utf8.encode
underscore = (codes "_", (refl, refl))

ending : IsUtf8 (codes ".part.js")
unfolding lib.Utf8.encode
ending = (codes ".part.js", (refl, refl))

name_is_utf8 : (out : List ℕ) (i : ℕ) → IsUtf8 out → i < 2 ^ 64 → IsUtf8 (shard_name out i)
name_is_utf8 out i u small =
    let digits = IsUtf8-from_ascii (decimal i) (IsAscii-decimal i small) in
    IsUtf8-append out (codes "_" ++ (decimal i ++ codes ".part.js")) u
    (IsUtf8-append (codes "_") (decimal i ++ codes ".part.js") underscore (IsUtf8-append (decimal i) (codes ".part.js") digits ending))

names_differ : (out : List ℕ) (i j : ℕ) → i < 2 ^ 64 → j < 2 ^ 64 → shard_name out i ≡ shard_name out j → i ≡ j
names_differ out i j a b e =
    let behind = append_cancel_left out (codes "_" ++ (decimal i ++ codes ".part.js")) (codes "_" ++ (decimal j ++ codes ".part.js")) e in
    let digits = append_cancel_left (codes "_") (decimal i ++ codes ".part.js") (decimal j ++ codes ".part.js") behind in
    decimal_injective i j a b (append_cancel_right (decimal i) (decimal j) (codes ".part.js") digits)

longer : (xs : List ℕ) (y : ℕ) (ys : List ℕ) → xs ++ (y ∷ ys) ≡ xs → ⊥
longer [] y ys e = cc
longer (x ∷ xs) y ys e = let tail : xs ++ (y ∷ ys) ≡ xs = cc in longer xs y ys tail

name_is_not_out : (out : List ℕ) (i : ℕ) → shard_name out i ≡ out → ⊥
name_is_not_out out i e = longer out 95 (decimal i ++ codes ".part.js") e

other_name : (out : List ℕ) → IsUtf8 out → (i j : ℕ) (name : List ℕ) → i < j → j < 2 ^ 64 → name ≡ units_of (shard_name out j) → units_of (shard_name out i) ≡ name → ⊥
other_name out u i j name less small is e =
    let same = names_differ out i j (omega arith) small (units_tell_apart (shard_name out i) (shard_name out j) (name_is_utf8 out i u (omega arith)) (name_is_utf8 out j u small) (e ∙ is)) in
    omega arith

no_name : (out : List ℕ) → IsUtf8 out → (tree : JsFile) (i j : ℕ) (shards : List NamedTree) → i < j → j + length shards < 2 ^ 64 → HaveShardNames out j shards → IsNoName (units_of (shard_name out i)) (shards ++ named out tree ∷ [])
no_name out u tree i j [] less few names =
    (λ e. name_is_not_out out i (units_tell_apart (shard_name out i) out (name_is_utf8 out i u (omega arith)) u e), tt)
no_name out u tree i j (s ∷ ss) less few names =
    (other_name out u i j s.name less (omega arith) names.0, no_name out u tree i (suc j) ss (omega arith) (omega arith) names.1)

pub own_names : (out : List ℕ) → IsUtf8 out → (tree : JsFile) (i : ℕ) (shards : List NamedTree) → i + length shards < 2 ^ 64 → HaveShardNames out i shards → HaveOwnNames (shards ++ named out tree ∷ [])
own_names out u tree i [] few names = (tt, tt)
own_names out u tree i (s ∷ ss) few names =
    (subst (λ (n : List ℕ). IsNoName n (ss ++ named out tree ∷ [])) (sym names.0) (no_name out u tree i (suc i) ss (omega arith) (omega arith) names.1), own_names out u tree (suc i) ss (omega arith) names.1)

push_name : (out : List ℕ) (i : ℕ) (done : List NamedTree) (last : NamedTree) → HaveShardNames out i done → last.name ≡ units_of (shard_name out (length done + i)) → HaveShardNames out i (done ++ last ∷ [])
push_name out i [] last names e = let same : 0 + i ≡ i = omega arith in (subst (λ (n : ℕ). last.name ≡ units_of (shard_name out n)) same e, tt)
push_name out i (s ∷ ss) last names e =
    let same : suc (length ss) + i ≡ length ss + suc i = omega arith in
    (names.0, push_name out (suc i) ss last names.1 (subst (λ (n : ℕ). last.name ≡ units_of (shard_name out n)) same e))

-- ---- shards, one by one

-- those from number i on, of which so many at most are left, are behind those done
pub record GoesOn (files : Held) (out : List ℕ) (done : List NamedTree) (i left : ℕ) : Type 0 where
  pub shards : (rest : List NamedTree) → AreShards files out i left rest → AreShards files out 1 MAX_SHARDS (done ++ rest)
  pub bad : (name : List ℕ) (at : ℕ) → IsFirstBad files out i left name at → IsFirstBad files out 1 MAX_SHARDS name at

pub record ShardsSoFar (held : Option Held) (out : List ℕ) (done : List NamedTree) (count : ℕ) : Type 0 where
  pub names : HaveShardNames out 1 done
  pub many : length done ≡ count
  pub goes : IfSome held (λ files. GoesOn files out done (count + 1) (MAX_SHARDS - count))

goes_at_first : (files : Held) (out : List ℕ) → GoesOn files out [] 1 MAX_SHARDS
goes_at_first files out = record { shards = λ rest are. are; bad = λ name at is. is }

if_some_always : {T : Type 0} → (o : Option T) (P : T → Type 0) → ((v : T) → P v) → IfSome o P
if_some_always None P f = tt
if_some_always (Some v) P f = f v

if_some_both : {T : Type 0} → (o : Option T) (P Q R : T → Type 0) → ((v : T) → P v → Q v → R v) → IfSome o P → IfSome o Q → IfSome o R
if_some_both None P Q R f h k = tt
if_some_both (Some v) P Q R f h k = f v h k

pub at_first : (held : Option Held) (out : List ℕ) → ShardsSoFar held out [] 0
at_first held out = record { names = tt; many = refl; goes = if_some_always held _ (λ files. goes_at_first files out) }

goes_further : (files : Held) (out : List ℕ) (done : List NamedTree) (i left : ℕ) (tree : JsFile) → GoesOn files out done i (suc left) → IsScript files (shard_name out i) tree → GoesOn files out (done ++ named (shard_name out i) tree ∷ []) (suc i) left
goes_further files out done i left tree g is = record {
  shards = λ rest are. subst (AreShards files out 1 MAX_SHARDS) (sym (append_assoc done (named (shard_name out i) tree ∷ []) rest)) (g.shards (named (shard_name out i) tree ∷ rest) (shard is are));
  bad = λ name at first. g.bad name at (later is first);
}

goes_next : (files : Held) (out : List ℕ) (done : List NamedTree) (count : ℕ) (tree : JsFile) → count < MAX_SHARDS → GoesOn files out done (count + 1) (MAX_SHARDS - count) → IsScript files (shard_name out (count + 1)) tree
    → GoesOn files out (done ++ named (shard_name out (count + 1)) tree ∷ []) (count + 1 + 1) (MAX_SHARDS - (count + 1))
goes_next files out done count tree less g is =
    let step : MAX_SHARDS - count ≡ suc (MAX_SHARDS - (count + 1)) = omega arith in
    let next : suc (count + 1) ≡ count + 1 + 1 = omega arith in
    subst (λ (k : ℕ). GoesOn files out (done ++ named (shard_name out (count + 1)) tree ∷ []) k (MAX_SHARDS - (count + 1))) next
    (goes_further files out done (count + 1) (MAX_SHARDS - (count + 1)) tree (subst (GoesOn files out done (count + 1)) step g) is)

pub with_next : (held : Option Held) (out : List ℕ) (done : List NamedTree) (count : ℕ) (last : NamedTree) (tree : JsFile) → ShardsSoFar held out done count → count < MAX_SHARDS → last ≡ named (shard_name out (count + 1)) tree
    → IfSome held (λ files. IsScript files (shard_name out (count + 1)) tree) → ShardsSoFar held out (done ++ last ∷ []) (count + 1)
with_next held out done count last tree so less e is =
    let many = so.many in
    let place : count + 1 ≡ length done + 1 = omega arith in
    let name : last.name ≡ units_of (shard_name out (length done + 1)) = ap (λ (t : NamedTree). t.name) e ∙ ap (λ (n : ℕ). units_of (shard_name out n)) place in
    record {
      names = push_name out 1 done last so.names name;
      many = omega (arith, length-append done (last ∷ []), so.many);
      goes = subst (λ (t : NamedTree). IfSome held (λ files. GoesOn files out (done ++ t ∷ []) (count + 1 + 1) (MAX_SHARDS - (count + 1)))) (sym e)
          (if_some_both held _ _ _ (λ files g s. goes_next files out done count tree less g s) so.goes is);
    }

pub with_shard : (held : Option Held) (out : List ℕ) (done : List NamedTree) (count : ℕ) (last : NamedTree) → ShardsSoFar held out done count → count < MAX_SHARDS → ReadsShard held out (count + 1) (Ok (Some last)) → ShardsSoFar held out (done ++ last ∷ []) (count + 1)
with_shard held out done count last so less read = with_next held out done count last read.0 so less read.1 read.2

ends_absent : (files : Held) (out : List ℕ) (done : List NamedTree) (count : ℕ) → count < MAX_SHARDS → GoesOn files out done (count + 1) (MAX_SHARDS - count) → files (shard_name out (count + 1)) ≡ None → AreShards files out 1 MAX_SHARDS done
ends_absent files out done count less g e =
    let step : MAX_SHARDS - count ≡ suc (MAX_SHARDS - (count + 1)) = omega arith in
    let last : AreShards files out (count + 1) (MAX_SHARDS - count) [] = subst (λ (k : ℕ). AreShards files out (count + 1) k []) (sym step) (absent e) in
    subst (AreShards files out 1 MAX_SHARDS) (append-nil done) (g.shards [] last)

pub shards_end : (held : Option Held) (out : List ℕ) (done : List NamedTree) (count : ℕ) → ShardsSoFar held out done count → count < MAX_SHARDS → IfSome held (λ files. files (shard_name out (count + 1)) ≡ None) → IsShardList held out done
shards_end held out done count so less none = record {
  names = so.names;
  few = omega (arith, so.many);
  are = if_some_both held _ _ _ (λ files g e. ends_absent files out done count less g e) so.goes none;
}

ends_full : (files : Held) (out : List ℕ) (done : List NamedTree) (left : ℕ) → left ≡ 0 → GoesOn files out done (MAX_SHARDS + 1) left → AreShards files out 1 MAX_SHARDS done
ends_full files out done left e g =
    subst (AreShards files out 1 MAX_SHARDS) (append-nil done) (g.shards [] (subst (λ (k : ℕ). AreShards files out (MAX_SHARDS + 1) k []) (sym e) enough))

pub shards_full : (held : Option Held) (out : List ℕ) (done : List NamedTree) → ShardsSoFar held out done MAX_SHARDS → IsShardList held out done
shards_full held out done so = record {
  names = so.names;
  few = omega (arith, so.many);
  are = if_some_then held _ _ (λ files g. ends_full files out done (MAX_SHARDS - MAX_SHARDS) (omega arith) g) so.goes;
}

ends_bad : (files : Held) (out : List ℕ) (done : List NamedTree) (count at : ℕ) → count < MAX_SHARDS → GoesOn files out done (count + 1) (MAX_SHARDS - count) → IsNoScript files (shard_name out (count + 1)) at
    → IsFirstBad files out 1 MAX_SHARDS (shard_name out (count + 1)) at
ends_bad files out done count at less g is =
    let step : MAX_SHARDS - count ≡ suc (MAX_SHARDS - (count + 1)) = omega arith in
    g.bad (shard_name out (count + 1)) at (subst (λ (k : ℕ). IsFirstBad files out (count + 1) k (shard_name out (count + 1)) at) (sym step) (here is))

pub shard_fault : (held : Option Held) (out : List ℕ) (done : List NamedTree) (count : ℕ) (fault : ScriptFault) → ShardsSoFar held out done count → count < MAX_SHARDS → ReadsShard held out (count + 1) (Err fault) → ReadsShards held out (Err fault)
shard_fault held out done count f.Absent so less h = absurd h
shard_fault held out done count (f.Outside name at) so less h =
    subst (λ (n : List ℕ). IfSome held (λ files. IsFirstBad files out 1 MAX_SHARDS n at)) (sym h.0) (if_some_both held _ _ _ (λ files g is. ends_bad files out done count at less g is) so.goes h.1)
shard_fault held out done count (f.Failed name) so less h =
    let few : count + 1 ≤ MAX_SHARDS = omega arith in
    subst (IsReadFor out) (sym h) (reads_shard few)
shard_fault held out done count f.Memory so less h = tt

-- ---- OUT and its shards

pub main_fault : (held : Option Held) (out : List ℕ) (fault : ScriptFault) → ReadsMain held out (Err fault) → ReadsScripts held out (Err fault)
main_fault held out f.Absent h = h
main_fault held out (f.Outside name at) h = subst (λ (n : List ℕ). IfSome held (λ files. IsOutside files out n at)) (sym h.0) (if_some_then held _ _ (λ files is. in_main is) h.1)
main_fault held out (f.Failed name) h = subst (IsReadFor out) (sym h) reads_main
main_fault held out f.Memory h = tt

pub shards_fault : (held : Option Held) (out : List ℕ) (tree : JsFile) (fault : ScriptFault) → IfSome held (λ files. IsScript files out tree) → ReadsShards held out (Err fault) → ReadsScripts held out (Err fault)
shards_fault held out tree f.Absent is h = absurd h
shards_fault held out tree (f.Outside name at) is h = if_some_both held _ _ _ (λ files s b. in_shard s b) is h
shards_fault held out tree (f.Failed name) is h = h
shards_fault held out tree f.Memory is h = tt
