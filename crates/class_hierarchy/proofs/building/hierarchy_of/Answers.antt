use Rattle.std.proofs.Common.{ap, ◌∙◌, subst}
use Rattle.class_heads.specs.Sources.{classes_in}
use Rattle.class_heads.specs.Written.{class_numbers, numbers_from}
use Rattle.class_members.specs.Program.{sources}
use Rattle.class_members.specs.Members.{members}
use Rattle.class_members.specs.Owners.{AreOwners}
use Rattle.supertypes.specs.Sets.{AreSupertypes}
use Rattle.member_tables.specs.Tables.{AreTables}
use Rattle.class_hierarchy.proofs.Cycles.{none_in_list}
use Rattle.class_hierarchy.proofs.building.hierarchy_of.Goals as goal

pub upward-requires : goal.upward-requires
upward-requires c = record { no_cycles = none_in_list (sources c.args.files.now c.args.scopes.now) c.requires c.as_slice-2.result.now (c.as_slice-2.ensures ∙ c.in_ok-classes.ensures) }

pub returns : goal.returns
unfolding classes_in class_numbers
returns c =
    record {
      classes = c.in_ok-classes.ensures;
      class_numbers = c.in_ok-class_numbers.ensures ∙ ap (numbers_from 0) (c.as_slice.ensures ∙ c.in_ok-written.ensures);
      members = c.in_ok-members.ensures ∙ ap members c.new-program.ensures;
      owners = subst (λ p. AreOwners p c.in_ok-owners.owners) c.new-program.ensures c.in_ok-owners.ensures;
      selectors = c.in_ok-selectors.ensures;
      supertypes = subst (λ cs. AreSupertypes cs c.in_ok-supertypes.supertypes) (c.as_slice-3.ensures ∙ c.in_ok-classes.ensures) c.in_ok-supertypes.ensures;
      tables = subst (λ p. AreTables p c.in_ok-tables.tables) c.new-program.ensures c.in_ok-tables.ensures;
    }
