use Rattle.std.proofs.Common.{List, ℕ, not, sym, ap, ◌∙◌}
use Rattle.js_tree.specs.Grammar.{is_among}
use Rattle.js_reader.proofs.Named.{among_reversed}
use Rattle.js_reader.proofs.names.Declared.declare.Goals as goal

pub returns-clause-fresh : goal.returns-clause-fresh
returns-clause-fresh c =
    c.in_ok-fresh.ensures.added
    ∙ ap not (sym (among_reversed (λ k. k.now) c.args.name.now c.self.inside.names.keys) ∙ ap (λ (ns : List (List ℕ)). is_among ns c.args.name.now) c.self.view_is)
