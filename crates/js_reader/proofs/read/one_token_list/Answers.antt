use Rattle.std.proofs.Common.{length}
use Rattle.js_reader.proofs.Lexed.{are_tokens, only_tokens}
use Rattle.js_reader.proofs.read.one_token_list.Goals as goal

pub returns : goal.returns
returns c bytes = (are_tokens (length bytes) bytes, λ ts d. only_tokens (length bytes) bytes ts d)
