-- What tokens and bytes come to, answer by answer.
use Rattle.std.proofs.Common.{◌≡◌, ℕ, ◌<◌, ◌≤◌, List, length, Some, None, sym, subst}
use Rattle.dart_syntax.specs.declared.rules.Rule.{Rule}
use Rattle.dart_syntax.specs.declared.rules.Rule.TheVariants.{N2, G1, G2}
use Rattle.dart_syntax.specs.declared.tokens.Token.{Token}
use Rattle.dart_syntax.specs.Tokens.{IsTokens}
use Rattle.dart_syntax.specs.Faults.{IsFirstBroken}
use Rattle.dart_grammar.specs.Loads.{first_overload}
use Rattle.decl_parser.specs.Parsed.{is_prelude, HasNoTree}
use Rattle.dart_web_cli.specs.declared.load.Loaded.{Loaded}
use Rattle.dart_web_cli.specs.declared.load.Loaded.TheVariants.{Translated, Broken, Failed, Memory}
use Rattle.dart_web_cli.specs.declared.load.TheConstants.{MAX_FILE, ENTRY}
use Rattle.dart_web_cli.specs.Refusals.{HasNoProgram, BreaksGrammar, too_deep, no_tree, no_first_program, BreaksFile, too_long, on_tokens, on_grammar}
use Rattle.dart_web_cli.specs.Answers.{JudgesTokens, Judges}

-- ---- tokens

pub tokens_unread : (tokens : List Token) (loaded : Loaded) → loaded ≡ Broken G1 0 → first_overload tokens ≡ None → HasNoProgram tokens → JudgesTokens tokens loaded
tokens_unread tokens loaded is shallow none = subst (JudgesTokens tokens) (sym is) (no_first_program shallow none)

pub tokens_deep : (tokens : List Token) (at : ℕ) → first_overload tokens ≡ Some at → BreaksGrammar tokens G2 at
tokens_deep tokens at e = too_deep e

pub tokens_underived : (tokens : List Token) (at file : ℕ) → HasNoTree (is_prelude file) tokens → file ≡ ENTRY → first_overload tokens ≡ None → at ≡ 0 → BreaksGrammar tokens G1 at
tokens_underived tokens at file none is shallow start =
    subst (BreaksGrammar tokens G1) (sym start) (no_tree shallow (subst (λ (n : ℕ). HasNoTree (is_prelude n) tokens) is none))

-- ---- bytes

pub bytes_too_long : (bytes : List ℕ) (loaded : Loaded) → loaded ≡ Broken N2 0 → MAX_FILE < length bytes → Judges bytes loaded
bytes_too_long bytes loaded is long = subst (Judges bytes) (sym is) (too_long long)

pub bytes_faulty : (bytes : List ℕ) (at : ℕ) (rule : Rule) → IsFirstBroken bytes at rule → length bytes ≤ MAX_FILE → BreaksFile bytes rule at
bytes_faulty bytes at rule first short = on_tokens short first

pub bytes_scanned : (bytes : List ℕ) (tokens : List Token) (loaded : Loaded) → IsTokens bytes tokens → length bytes ≤ MAX_FILE → JudgesTokens tokens loaded → Judges bytes loaded
bytes_scanned bytes tokens (Translated out) scanned short (tree, p, shallow, derived, is, same, runs) =
    (p, same, runs, record { short = short; tokens = tokens; scanned = scanned; shallow = shallow; tree = tree; derived = derived; is = is })
bytes_scanned bytes tokens (Broken rule at) scanned short breaks = on_grammar short scanned breaks
bytes_scanned bytes tokens Failed scanned short judged = judged
bytes_scanned bytes tokens Memory scanned short judged = tt
