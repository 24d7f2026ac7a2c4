-- The first rule that an entry breaks is one, and an entry that has a program breaks none.
use Rattle.std.proofs.Common.{◌≡◌, ◌⊎◌, inl, inr, ℕ, ◌≤◌, false, List, length, Option, Some, None, refl, sym, ◌∙◌, subst, arith}
use Rattle.std.proofs.lemmas.Bool.{cases_lt}
use Rattle.outside.specs.Outside.{Held}
use Rattle.dart_syntax.specs.declared.rules.Rule.{Rule}
use Rattle.dart_syntax.specs.declared.rules.Rule.TheVariants.{U1, N2, G1, G2}
use Rattle.dart_syntax.specs.declared.tokens.Token.{Token}
use Rattle.dart_syntax.specs.Tokens.{IsTokens}
use Rattle.dart_syntax.proofs.Exact.{tokens_are_one, first_broken_is_one, tokens_break_none, tokens_or_broken}
use Rattle.dart_grammar.specs.declared.declarations.FileTree.{FileTree}
use Rattle.dart_grammar.specs.Loads.{first_overload}
use Rattle.dart_grammar.specs.Declarations.{IsFile}
use Rattle.dart_meaning.specs.declared.program.Statement.{Statement}
use Rattle.dart_meaning.specs.Program.{forms_of, IsProgram}
use Rattle.dart_meaning.specs.Reader.{read}
use Rattle.dart_meaning.proofs.Statements.{program_is_read, read_is_program}
use Rattle.dart_web_cli.specs.declared.load.TheConstants.{MAX_FILE}
use Rattle.dart_web_cli.specs.Refusals.{BreaksGrammar, too_deep, no_tree, no_first_program, BreaksFile, too_long, on_tokens, on_grammar, IsBroken, absent, in_file, IsFirst, IsFine}
use Rattle.dart_web_cli.specs.RefusalLaws.{OneRefusal, FineBreaksNone, FineOrBroken}
use Rattle.dart_web_cli.proofs.Derived.{first_programs_are_files}

-- the same rule at the same place
abbrev AreSame : Rule → Rule → ℕ → ℕ → Type 0
AreSame rule other at place = (rule ≡ other) × (at ≡ place)

no_place : (tokens : List Token) (at : ℕ) → first_overload tokens ≡ Some at → first_overload tokens ≡ None → ⊥
no_place tokens at e f = let no : Some at ≡ None = sym e ∙ f in cc no

same_place : (tokens : List Token) (at place : ℕ) → first_overload tokens ≡ Some at → first_overload tokens ≡ Some place → at ≡ place
same_place tokens at place e f = let same : Some at ≡ Some place = sym e ∙ f in cc same

one_in_grammar : (tokens : List Token) (rule other : Rule) (at place : ℕ) → BreaksGrammar tokens rule at → BreaksGrammar tokens other place → AreSame rule other at place
one_in_grammar tokens rule other at place (too_deep e) (too_deep f) = (refl, same_place tokens at place e f)
one_in_grammar tokens rule other at place (too_deep e) (no_tree f none) = absurd (no_place tokens at e f)
one_in_grammar tokens rule other at place (too_deep e) (no_first_program f none) = absurd (no_place tokens at e f)
one_in_grammar tokens rule other at place (no_tree e none) (too_deep f) = absurd (no_place tokens place f e)
one_in_grammar tokens rule other at place (no_tree e none) (no_tree f never) = (refl, refl)
one_in_grammar tokens rule other at place (no_tree e none) (no_first_program f never) = (refl, refl)
one_in_grammar tokens rule other at place (no_first_program e none) (too_deep f) = absurd (no_place tokens place f e)
one_in_grammar tokens rule other at place (no_first_program e none) (no_tree f never) = (refl, refl)
one_in_grammar tokens rule other at place (no_first_program e none) (no_first_program f never) = (refl, refl)

one_in_file : (bytes : List ℕ) (rule other : Rule) (at place : ℕ) → BreaksFile bytes rule at → BreaksFile bytes other place → AreSame rule other at place
one_in_file bytes rule other at place (too_long long) (too_long longer) = (refl, refl)
one_in_file bytes rule other at place (too_long long) (on_tokens short first) = absurd (omega arith)
one_in_file bytes rule other at place (too_long long) (on_grammar short scanned breaks) = absurd (omega arith)
one_in_file bytes rule other at place (on_tokens short first) (too_long long) = absurd (omega arith)
one_in_file bytes rule other at place (on_tokens short first) (on_tokens shorter second) = let both = first_broken_is_one bytes at place rule other first second in (both.1, both.0)
one_in_file bytes rule other at place (on_tokens short first) (on_grammar {tokens = tokens} shorter scanned breaks) = absurd (tokens_break_none bytes tokens at rule scanned first)
one_in_file bytes rule other at place (on_grammar short scanned breaks) (too_long long) = absurd (omega arith)
one_in_file bytes rule other at place (on_grammar {tokens = tokens} short scanned breaks) (on_tokens shorter first) = absurd (tokens_break_none bytes tokens place other scanned first)
one_in_file bytes rule other at place (on_grammar {tokens = tokens} short scanned breaks) (on_grammar {tokens = others} shorter again more) =
    one_in_grammar tokens rule other at place breaks (subst (λ (ts : List Token). BreaksGrammar ts other place) (tokens_are_one bytes others tokens again scanned) more)

same_content : (files : Held) (entry content other : List ℕ) → files entry ≡ Some content → files entry ≡ Some other → other ≡ content
same_content files entry content other e f = let same : Some other ≡ Some content = sym f ∙ e in cc same

not_absent : (files : Held) (entry content : List ℕ) → files entry ≡ Some content → files entry ≡ None → ⊥
not_absent files entry content e f = let no : Some content ≡ None = sym e ∙ f in cc no

pub one_refusal : OneRefusal
one_refusal files entry rule other at place (absent e) (absent f) = (refl, refl)
one_refusal files entry rule other at place (absent e) (in_file {content = content} held breaks) = absurd (not_absent files entry content held e)
one_refusal files entry rule other at place (in_file {content = content} held breaks) (absent f) = absurd (not_absent files entry content held f)
one_refusal files entry rule other at place (in_file {content = content} held breaks) (in_file {content = second} again more) =
    one_in_file content rule other at place breaks (subst (λ (bs : List ℕ). BreaksFile bs other place) (same_content files entry content second held again) more)

fine_in_grammar : (tokens : List Token) (tree : FileTree) (program : List Statement) (rule : Rule) (at : ℕ) → first_overload tokens ≡ None → IsFile false tokens tree → IsProgram tokens program → BreaksGrammar tokens rule at → ⊥
fine_in_grammar tokens tree program rule at shallow derived is (too_deep e) = no_place tokens at e shallow
fine_in_grammar tokens tree program rule at shallow derived is (no_tree e none) = none.none tree derived
fine_in_grammar tokens tree program rule at shallow derived is (no_first_program e none) = none program is

fine_in_file : (bytes : List ℕ) (program : List Statement) (rule : Rule) (at : ℕ) → IsFirst bytes program → BreaksFile bytes rule at → ⊥
fine_in_file bytes program rule at first (too_long long) = omega (arith, first.short)
fine_in_file bytes program rule at first (on_tokens short second) = tokens_break_none bytes first.tokens at rule first.scanned second
fine_in_file bytes program rule at first (on_grammar {tokens = tokens} short scanned breaks) =
    fine_in_grammar first.tokens first.tree program rule at first.shallow first.derived first.is
    (subst (λ (ts : List Token). BreaksGrammar ts rule at) (tokens_are_one bytes tokens first.tokens scanned first.scanned) breaks)

pub fine_breaks_none : FineBreaksNone
fine_breaks_none files entry program rule at fine (absent e) = not_absent files entry fine.content fine.held e
fine_breaks_none files entry program rule at fine (in_file {content = content} held breaks) =
    fine_in_file fine.content program rule at fine.first (subst (λ (bs : List ℕ). BreaksFile bs rule at) (same_content files entry fine.content content fine.held held) breaks)

-- ---- each entry is one of both

abbrev FineOrNot : Held → List ℕ → Type 0
FineOrNot files entry = ((program : List Statement) × IsFine files entry program) ⊎ ((rule : Rule) × (at : ℕ) × IsBroken files entry rule at)

read_or_not : (files : Held) (entry content : List ℕ) (tokens : List Token) (found : Option (List Statement)) → files entry ≡ Some content → length content ≤ MAX_FILE → IsTokens content tokens
    → first_overload tokens ≡ None → read (forms_of tokens) ≡ found → FineOrNot files entry
read_or_not files entry content tokens (Some program) held short scanned shallow e =
    let is = read_is_program tokens program e in
    let file = first_programs_are_files tokens program is in
    let first : IsFirst content program = record { short = short; tokens = tokens; scanned = scanned; shallow = shallow; tree = file.0; derived = file.1; is = is } in
    inl (program, record { content = content; held = held; first = first })
read_or_not files entry content tokens None held short scanned shallow e =
    inr (G1, 0, in_file held (on_grammar short scanned (no_first_program shallow (λ p is. let both : None ≡ Some p = sym e ∙ program_is_read tokens p is in cc))))

shallow_or_not : (files : Held) (entry content : List ℕ) (tokens : List Token) (found : Option ℕ) → files entry ≡ Some content → length content ≤ MAX_FILE → IsTokens content tokens
    → first_overload tokens ≡ found → FineOrNot files entry
shallow_or_not files entry content tokens None held short scanned e = read_or_not files entry content tokens (read (forms_of tokens)) held short scanned e refl
shallow_or_not files entry content tokens (Some at) held short scanned e = inr (G2, at, in_file held (on_grammar short scanned (too_deep e)))

short_or_not : (files : Held) (entry content : List ℕ) → files entry ≡ Some content → FineOrNot files entry
short_or_not files entry content held = elim (cases_lt MAX_FILE (length content)) [
  | inl long ↦ inr (N2, 0, in_file held (too_long long))
  | inr short ↦ elim (tokens_or_broken content) [
    | inl x ↦ shallow_or_not files entry content x.0 (first_overload x.0) held short x.1 refl
    | inr x ↦ inr (x.1, x.0, in_file held (on_tokens short x.2))
  ]
]

held_or_not : (files : Held) (entry : List ℕ) (found : Option (List ℕ)) → files entry ≡ found → FineOrNot files entry
held_or_not files entry None e = inr (U1, 0, absent e)
held_or_not files entry (Some content) e = short_or_not files entry content e

pub fine_or_broken : FineOrBroken
fine_or_broken files entry = held_or_not files entry (files entry) refl
