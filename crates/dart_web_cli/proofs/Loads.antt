-- What was read is the whole file, or its front shows that it is too long.
use Rattle.std.proofs.Common.{◌≡◌, ℕ, ◌+◌, ◌<◌, ◌≤◌, List, length, take, Option, Some, None, sym, ap, ◌∙◌, subst, arith}
use Rattle.std.specs.Prelude.{IfSome}
use Rattle.std.proofs.lemmas.List.{length-take, take_all}
use Rattle.outside.specs.Outside.{Held, ReadTells}
use Rattle.outside.specs.declared.traits.Read.TheVariants.{Got}
use Rattle.dart_syntax.specs.declared.rules.Rule.{Rule}
use Rattle.dart_syntax.specs.declared.rules.Rule.TheVariants.{U1}
use Rattle.dart_web_cli.specs.declared.load.Loaded.{Loaded}
use Rattle.dart_web_cli.specs.declared.load.Loaded.TheVariants.{Translated, Broken, Failed, Memory}
use Rattle.dart_web_cli.specs.declared.load.TheConstants.{MAX_FILE}
use Rattle.dart_web_cli.specs.Refusals.{BreaksFile, too_long, on_tokens, on_grammar, IsBroken, absent, in_file}
use Rattle.dart_web_cli.specs.Answers.{Judges, LoadTells}

if_some_then : {T : Type 0} → (o : Option T) (P Q : T → Type 0) → ((v : T) → P v → Q v) → IfSome o P → IfSome o Q
if_some_then None P Q f h = h
if_some_then (Some v) P Q f h = f v h

whole : (content bytes : List ℕ) → bytes ≡ take (MAX_FILE + 1) content → length bytes ≤ MAX_FILE → bytes ≡ content
whole content bytes e short =
    let fits : length content ≤ MAX_FILE + 1 = omega (arith, length-take (MAX_FILE + 1) content, ap length e) in
    e ∙ take_all (MAX_FILE + 1) content fits

-- of the bytes that were read, where the file is no longer than it may be
whole_file : (files : Held) (entry bytes content : List ℕ) → files entry ≡ Some content → bytes ≡ take (MAX_FILE + 1) content → length bytes ≤ MAX_FILE → files entry ≡ Some bytes
whole_file files entry bytes content held e short = subst (λ (c : List ℕ). files entry ≡ Some c) (sym (whole content bytes e short)) held

-- what bytes that were read break, their file breaks
file_breaks : (files : Held) (entry bytes content : List ℕ) (rule : Rule) (at : ℕ) → files entry ≡ Some content → bytes ≡ take (MAX_FILE + 1) content → BreaksFile bytes rule at → IsBroken files entry rule at
file_breaks files entry bytes content rule at held e (too_long long) =
    let longer : MAX_FILE < length content = omega (arith, length-take (MAX_FILE + 1) content, ap length e, long) in
    in_file held (too_long longer)
file_breaks files entry bytes content rule at held e (on_tokens short first) = in_file (whole_file files entry bytes content held e short) (on_tokens short first)
file_breaks files entry bytes content rule at held e (on_grammar short scanned breaks) = in_file (whole_file files entry bytes content held e short) (on_grammar short scanned breaks)

pub load_absent : (held : Option Held) (entry : List ℕ) (loaded : Loaded) → loaded ≡ Broken U1 0 → IfSome held (λ files. files entry ≡ None) → LoadTells held entry loaded
load_absent held entry loaded is none = subst (LoadTells held entry) (sym is) (if_some_then held _ _ (λ files e. absent e) none)

pub load_got : (held : Option Held) (entry bytes : List ℕ) (loaded : Loaded) → IfSome held (λ files. ReadTells files entry (MAX_FILE + 1) (Got bytes)) → Judges bytes loaded → LoadTells held entry loaded
load_got held entry bytes (Translated out) read (p, is, runs, first) =
    (p, is, runs, if_some_then held _ _ (λ files r. record { content = bytes; held = whole_file files entry bytes r.0 r.1 r.2 first.short; first = first }) read)
load_got held entry bytes (Broken rule at) read breaks = if_some_then held _ _ (λ files r. file_breaks files entry bytes r.0 rule at r.1 r.2 breaks) read
load_got held entry bytes Failed read judged = tt
load_got held entry bytes Memory read judged = tt
