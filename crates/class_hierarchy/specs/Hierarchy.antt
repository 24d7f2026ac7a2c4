-- What the parts of a hierarchy are of the program.
use Rattle.std.specs.Prelude.{◌≡◌}
use Rattle.class_heads.specs.Sources.{Sources, classes_in}
use Rattle.class_heads.specs.Written.{class_numbers}
use Rattle.class_members.specs.Members.{members}
use Rattle.class_members.specs.Owners.{AreOwners}
use Rattle.selectors.specs.Selectors.{selectors}
use Rattle.supertypes.specs.Sets.{AreSupertypes}
use Rattle.member_tables.specs.Tables.{AreTables}
use Rattle.class_hierarchy.specs.declared.hierarchy.Hierarchy.{Hierarchy}

-- The classes and their members by number, the classes that each is a subtype of, and what is found under each name.
pub record IsHierarchy (p : Sources) (h : Hierarchy) : Type 0 where
  pub classes : h.classes ≡ classes_in p
  pub class_numbers : h.class_numbers ≡ class_numbers p.files
  pub members : h.members ≡ members p
  pub owners : AreOwners p h.owners
  pub selectors : h.selectors ≡ selectors p.files
  pub supertypes : AreSupertypes (classes_in p) h.supertypes
  pub tables : AreTables p h.tables
