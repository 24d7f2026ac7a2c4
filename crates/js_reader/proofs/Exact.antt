-- What the reader answers is exact.
use Rattle.std.proofs.Common.{◌≡◌, ℕ, ◌+◌, ◌-◌, ◌≤◌, Bool, List, [], length, Result, Ok, Err, refl, sym, ap, ◌∙◌, subst, arith}
use Rattle.js_tree.specs.declared.tree.JsItem.{JsItem}
use Rattle.js_tree.specs.declared.tree.JsFile.{JsFile}
use Rattle.js_tree.specs.Tokens.{Bytes, Tokens, AreTokens, end, blank, token'}
use Rattle.js_tree.specs.Grammar.{AreItems}
use Rattle.js_tree.specs.Spelling.{IsSpelled}
use Rattle.js_reader.specs.declared.fault.JsFault.{JsFault}
use Rattle.js_reader.specs.declared.fault.JsFault.TheVariants.{NotInProfile, Memory}
use Rattle.js_reader.specs.Scanning.{tokens_of}
use Rattle.js_reader.specs.Taking.{Fails}
use Rattle.js_reader.specs.Parsing.{file_at}
use Rattle.js_reader.specs.Faults.{HasNoTree, IsFaultAt, IsFaultOf, OneTree}
use Rattle.js_reader.proofs.Lexed.{are_tokens, only_tokens, token_shorter}
use Rattle.js_reader.proofs.Complete.{items_complete}
use Rattle.js_reader.proofs.Placed.{items_derived, from_less, tokens_rise, fault_at}

-- the answer for these bytes
abbrev pub answer : Bytes → Result (List JsItem) ℕ
answer bytes = file_at (length bytes) (length bytes + 1) (tokens_of (length bytes) bytes)

-- a token takes a byte at least
pub no_more_tokens : {size : ℕ} {line : Bool} {bs : Bytes} {ts : Tokens} → AreTokens size line bs ts → length ts ≤ length bs
no_more_tokens end = omega arith
no_more_tokens (blank e d) = omega (arith, no_more_tokens d)
no_more_tokens (token' i d) = omega (arith, no_more_tokens d, token_shorter i)

-- what is answered is spelled
pub spelled : (bytes : Bytes) (xs : List JsItem) → answer bytes ≡ Ok xs → IsSpelled bytes (record { items = xs })
spelled bytes xs h =
    let d = are_tokens (length bytes) bytes in
    record { tokens = tokens_of (length bytes) bytes; scanned = d; derived = items_derived (length bytes) (length bytes + 1) (tokens_of (length bytes) bytes) xs (omega (arith, no_more_tokens d)) h }

-- what is spelled is answered
pub answered : (bytes : Bytes) (file : JsFile) → IsSpelled bytes file → answer bytes ≡ Ok file.items
unfolding file_at
answered bytes file d =
    let same : d.tokens ≡ tokens_of (length bytes) bytes = only_tokens (length bytes) bytes d.tokens d.scanned in
    let derived = subst (λ (ts : Tokens). AreItems [] ts file.items) same d.derived in
    let few = no_more_tokens (are_tokens (length bytes) bytes) in
    items_complete (length bytes) derived (length bytes + 1) (length bytes + 1) [] [] (λ x. refl) (omega arith) (omega arith)

pub no_tree : (bytes : Bytes) (at : ℕ) → answer bytes ≡ Err at → HasNoTree bytes
no_tree bytes at h file d = let k = answered bytes file d in cc

-- the tokens leave all files where the answer says
placed : (bytes : Bytes) (at : ℕ) → answer bytes ≡ Err at → IsFaultAt (length bytes) (tokens_of (length bytes) bytes) at
placed bytes at h =
    let d = are_tokens (length bytes) bytes in
    fault_at (length bytes) (length bytes + 1) (tokens_of (length bytes) bytes) at (from_less (length bytes) 0 (length bytes - length bytes) (tokens_of (length bytes) bytes) (omega arith) (tokens_rise d (omega arith))) (omega (arith, no_more_tokens d)) h

pub fault_is : (bytes : Bytes) (fault : JsFault) → Fails fault (answer bytes) → IsFaultOf bytes fault
fault_is bytes (NotInProfile at) h = (no_tree bytes at h, λ ts d. subst (λ (us : Tokens). IsFaultAt (length bytes) us at) (sym (only_tokens (length bytes) bytes ts d)) (placed bytes at h))
fault_is bytes Memory h = tt

pub one : OneTree
one bytes file other c d =
    let same : file.items ≡ other.items = let x = sym (answered bytes file c) ∙ answered bytes other d in cc in
    ap (λ (xs : List JsItem). record { items = xs }) same
