-- What one file comes to, answer by answer.
use Rattle.std.proofs.Common.{◌≡◌, ℕ, ◌+◌, ◌<◌, ◌≤◌, ◌==◌, Bool, true, false, List, length, take, Option, Some, None, Result, Ok, Err, eqb-true, inl, inr, refl, sym, ap, ◌∙◌, subst, arith}
use Rattle.std.proofs.lemmas.List.{length-take, take_all}
use Rattle.outside.specs.Outside.{Held}
use Rattle.outside.specs.declared.traits.Read.TheVariants.{Got}
use Rattle.dart_grammar.specs.declared.declarations.FileTree.{FileTree}
use Rattle.dart_syntax.specs.declared.rules.Rule.{Rule}
use Rattle.dart_syntax.specs.declared.rules.Rule.TheVariants.{U1, N1, N2, N3}
use Rattle.decl_parser.specs.Parsed.{is_prelude}
use Rattle.dart_program.specs.Loading.{Asked, held_as, content, IsTreeOf, BreaksText, IsFine, Breaks, absent, many, long, full, text, most_files, most_bytes, most_in_all}
use Rattle.source_loading.specs.declared.files.LoadedFile.{LoadedFile}
use Rattle.source_loading.specs.declared.files.FileFault.{FileFault}
use Rattle.source_loading.specs.declared.files.FileFault.TheVariants.{WhereAsked, Within, ReadFault, Memory}
use Rattle.source_loading.specs.Tells.{Agrees}
use Rattle.source_loading.specs.Reading.{ComesBack, Holds, ReadsAs}
use Rattle.source_loading.specs.Files.{unlinked, IsJudged, BreaksWithin, too_long, too_full, broken, Judges, OfSome, IsFineFile, FileTells, FileCause}
use Rattle.source_loading.proofs.Once.{tells}
use Rattle.source_loading.proofs.Told.{some_held}

-- ---- of its bytes

not_prelude : (n : ℕ) → 1 ≤ n → is_prelude n ≡ false
not_prelude n some = elim (tells (n == 0)) [
  | inl t ↦ let zero : n ≡ 0 = eqb-true n 0 t in absurd (omega arith)
  | inr f ↦ f
]

pub breaks_long : (n before : ℕ) (bytes : List ℕ) → n ≤ most_files → most_bytes < length bytes → BreaksWithin n before bytes N2 0
breaks_long n before bytes few more = too_long few more

pub breaks_full : (n before : ℕ) (bytes : List ℕ) → n ≤ most_files → length bytes ≤ most_bytes → most_in_all < before + length bytes → BreaksWithin n before bytes N3 0
breaks_full n before bytes few small more = too_full few small more

pub breaks_text : (n before : ℕ) (bytes : List ℕ) (rule : Rule) (at : ℕ) → BreaksText (is_prelude n) bytes rule at → 1 ≤ n → n ≤ most_files → length bytes ≤ most_bytes → before + length bytes ≤ most_in_all → BreaksWithin n before bytes rule at
breaks_text n before bytes rule at breaks some few small room = broken few small room (subst (λ b. BreaksText b bytes rule at) (not_prelude n some) breaks)

pub judged_fine : (n before size : ℕ) (name bytes : List ℕ) (tree : FileTree) → IsTreeOf (is_prelude n) bytes tree → size ≡ length bytes → 1 ≤ n → n ≤ most_files → length bytes ≤ most_bytes → before + length bytes ≤ most_in_all
    → IsJudged n before name bytes (record { name = name; tree = tree; length = size })
judged_fine n before size name bytes tree of is some few small room = record { name_is = refl; length_is = is; few = few; small = small; room = room; tree = subst (λ b. IsTreeOf b bytes tree) (not_prelude n some) of }

-- ---- of what is held

content_named : (held : Held) (x : Option (List ℕ)) (file at : ℕ) (name : List ℕ) → x ≡ Some name → content held (record { name = x; file = file; at = at }) ≡ held_as held name
content_named held None file at name e = absurd cc
content_named held (Some own) file at name e = let same : own ≡ name = cc in ap (held_as held) same

content_nameless : (held : Held) (x : Option (List ℕ)) (file at : ℕ) → x ≡ None → content held (record { name = x; file = file; at = at }) ≡ None
content_nameless held None file at e = refl
content_nameless held (Some own) file at e = absurd cc

its_name : (x : Asked) (name : List ℕ) → x.name ≡ Some name → ComesBack name → (own : List ℕ) → x.name ≡ Some own → ComesBack own
its_name x name e back own f = let same : name ≡ own = cc in subst ComesBack same back

pub nameless_told : (told : Option Held) (n before : ℕ) (x : Asked) → x.name ≡ None → OfSome told x (λ held. Breaks held n before x U1 x.file x.at)
nameless_told told n before x e = go (some_held told) where
  go : ((held : Held) × Agrees told held) → OfSome told x (λ held. Breaks held n before x U1 x.file x.at)
  go (held, agrees) = record { held = held; agrees = agrees; back = λ own f. absurd cc; so = absent (content_nameless held x.name x.file x.at e) }

pub absent_told : (told : Option Held) (n before : ℕ) (x : Asked) (name : List ℕ) → x.name ≡ Some name → ComesBack name → Holds told name None → OfSome told x (λ held. Breaks held n before x U1 x.file x.at)
absent_told told n before x name e back h =
    record { held = h.held; agrees = h.agrees; back = its_name x name e back; so = absent (content_named h.held x.name x.file x.at name e ∙ h.is) }

whole : (whole bytes : List ℕ) → bytes ≡ take (most_bytes + 1) whole → length bytes ≤ most_bytes → whole ≡ bytes
whole all bytes e small =
    let fits : length all ≤ most_bytes + 1 = omega (arith, length-take (most_bytes + 1) all, ap length e) in
    sym (e ∙ take_all (most_bytes + 1) all fits)

module _ (told : Option Held) (n before : ℕ) (x : Asked) (name bytes all : List ℕ) (e : x.name ≡ Some name) (back : ComesBack name) (h : Holds told name (Some all)) (front : bytes ≡ take (most_bytes + 1) all) where
  holds_all : content h.held x ≡ Some all
  holds_all = content_named h.held x.name x.file x.at name e ∙ h.is

  holds_bytes : length bytes ≤ most_bytes → content h.held x ≡ Some bytes
  holds_bytes small = holds_all ∙ ap (λ (c : List ℕ). Some c) (whole all bytes front small)

  of_held : (P : Held → Type 0) → P h.held → OfSome told x P
  of_held P so = record { held = h.held; agrees = h.agrees; back = its_name x name e back; so = so }

  fine_told : (file : LoadedFile) → IsJudged n before name bytes file → OfSome told x (IsFineFile n before x file)
  fine_told file j = of_held (IsFineFile n before x file) (record {
    bytes = bytes;
    length_is = j.length_is;
    fine = record { name = e ∙ ap (λ (c : List ℕ). Some c) (sym j.name_is); held_so = holds_bytes j.small; few = j.few; small = j.small; room = j.room; tree = j.tree };
  })

  within_told : (rule : Rule) (at : ℕ) → BreaksWithin n before bytes rule at → OfSome told x (λ held. Breaks held n before x rule n at)
  within_told rule at (too_long few more) =
      let longer : most_bytes < length all = omega (arith, length-take (most_bytes + 1) all, ap length front) in
      of_held (λ held. Breaks held n before x N2 n 0) (long holds_all few longer)
  within_told rule at (too_full few small more) = of_held (λ held. Breaks held n before x N3 n 0) (full (holds_bytes small) few small more)
  within_told rule at (broken few small room breaks) = of_held (λ held. Breaks held n before x rule n at) (text (holds_bytes small) few small room breaks)

  many_told : (rule : Rule) → rule ≡ N1 → most_files < n → OfSome told x (λ held. Breaks held n before x rule x.file x.at)
  many_told rule is more = of_held (λ held. Breaks held n before x rule x.file x.at) (subst (λ r. Breaks h.held n before x r x.file x.at) (sym is) (many holds_all more))

  judged_told : (r : Result LoadedFile FileFault) → Judges n before name bytes r → FileTells told n before x r
  judged_told (Ok file) j = fine_told file j
  judged_told (Err (WhereAsked rule)) (is, more) = many_told rule is more
  judged_told (Err (Within rule at own)) (is, breaks) = (e ∙ ap (λ (c : List ℕ). Some c) (sym is), within_told rule at breaks)
  judged_told (Err (ReadFault own)) j = absurd j
  judged_told (Err Memory) j = tt

pub got_told : (told : Option Held) (n before : ℕ) (x : Asked) (name bytes : List ℕ) (r : Result LoadedFile FileFault) → x.name ≡ Some name → ComesBack name → ReadsAs told name (Got bytes) → Judges n before name bytes r → FileTells told n before x r
got_told told n before x name bytes r e back (all, h, front) j = judged_told told n before x name bytes all e back h front r j

pub judged_cause : (n before low high : ℕ) (name bytes : List ℕ) (r : Result LoadedFile FileFault) → Judges n before name bytes r → high ≡ low → FileCause low high r
judged_cause n before low high name bytes (Ok file) j e = e
judged_cause n before low high name bytes (Err (WhereAsked rule)) j e = e
judged_cause n before low high name bytes (Err (Within rule at own)) j e = e
judged_cause n before low high name bytes (Err (ReadFault own)) j e = absurd j
judged_cause n before low high name bytes (Err Memory) j e = e
