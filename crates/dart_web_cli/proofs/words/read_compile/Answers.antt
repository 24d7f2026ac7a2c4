use Rattle.std.proofs.Common.{rules, ◌≡◌, length, codes, ap, ◌∙◌, [], ◌∷◌, subst, refl}
use Rattle.dart_web_cli.specs.Words.{IsFileWord, IsFlat}
use Rattle.dart_web_cli.proofs.Lists.{three}
use Rattle.dart_web_cli.proofs.words.read_compile.Goals as goal

pub returns-then-is_file_word : goal.returns-then-is_file_word
returns-then-is_file_word c =
    let n : length c.args.words.now ≡ 3 = search rules in
    let all = three c.args.words.now _ _ _ n c.get.ensures c.get-entry.ensures c.get-out.ensures in
    let word : c.get.result.now ≡ codes "compile" = search rules in
    let entry = c.if-names_entry.ensures.0 refl in
    let out = c.if-is_file_word.ensures.0 refl in
    let e = c.as_bytes.ensures.value in
    record {
      are = all ∙ ap (λ w. w ∷ c.get-entry.result.now ∷ c.get-out.result.now ∷ []) word;
      entry_names = subst (λ w. IsFileWord w) e entry.0;
      entry_flat = subst (λ w. IsFlat w) e entry.1;
      out_names = subst (λ w. IsFileWord w) c.as_bytes-then-names_entry.ensures.value out;
    }
