use Rattle.std.proofs.Common.{◌≡◌, ◌++◌, [], drop}
use Rattle.copy_rules.specs.Copying.{facts_inside, copies_read, copies_facts}
use Rattle.copy_rules.proofs.impacts.rule_impact.Given as goal

abbrev pub invariant-loop-copy : goal.invariant-loop-copy
invariant-loop-copy l =
    record {
      reads : copies_read l.shape l.at l.reads (drop l.copy-index l.rule.copies.items) ≡ copies_read l.shape l.at [] l.rule.copies.items;
      facts : l.facts ++ copies_facts l.shape l.at (drop l.copy-index l.rule.copies.items) ≡ facts_inside l.shape l.rule.facts ++ copies_facts l.shape l.at l.rule.copies.items;
    }
