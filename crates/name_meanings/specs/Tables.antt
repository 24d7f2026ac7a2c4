-- Tables of the names that classes declare themselves.
use Rattle.std.specs.Prelude.{◌≡◌, ℕ, ◌<◌, false, if◌then◌else◌, List, [], ◌∷◌, ◌++◌, map, Option, Some, None, option_and_then, option_map, is_some, slice_get}
use Rattle.dart_grammar.specs.declared.trees.Name.{Name}
use Rattle.dart_program.specs.Declares.{DeclaredMember, declared_by_member, is_static}
use Rattle.library_scopes.specs.declared.named.Side.{Side}
use Rattle.library_scopes.specs.declared.named.Side.TheVariants as side
use Rattle.class_heads.specs.Written.{class_numbers}
use Rattle.class_heads.specs.Sources.{Sources}
use Rattle.class_heads.specs.Bodies.{class_count}
use Rattle.class_members.specs.declared.members.MemberNode.{MemberNode}
use Rattle.class_members.specs.Members.{members}
use Rattle.class_members.specs.Owners.{own_members}
use Rattle.member_tables.specs.Lookup.{declared_by_node}
use Rattle.selectors.specs.Tables.{Table, numbered}
use Rattle.name_meanings.specs.declared.tables.WrittenMember.{WrittenMember}
use Rattle.name_meanings.specs.declared.tables.Facts.{Facts}
use Rattle.name_meanings.specs.declared.tables.OwnNames.{OwnNames}
use Rattle.name_meanings.specs.declared.own.OwnMember.{OwnMember}
use Rattle.name_meanings.specs.Own.{name_on, lacks_body, declared}

-- what is written of a member
abbrev pub declared_of : WrittenMember → Option DeclaredMember
declared_of x = slice_get (declared_by_member x.member) x.variable

-- ---- whether a member is static, and whether it lacks a body

abbrev pub no_facts : Facts
no_facts = record { is_static = false; lacks_body = false }

abbrev pub facts_of : Option DeclaredMember → Facts
facts_of None = no_facts
facts_of (Some d) = record { is_static = is_static d; lacks_body = lacks_body d }

abbrev pub node_facts : Sources → MemberNode → Facts
node_facts p x = facts_of (declared_by_node p x)

-- ---- names, each with the number of the first member that has it

abbrev pub put_first : Table → Option Name → ℕ → Table
put_first table None m = table
put_first table (Some x) m = if is_some (numbered x.text table) then table else table ++ (x.text, m) ∷ []

abbrev pub put_declared : Side → Table → ℕ → Option DeclaredMember → Table
put_declared on table m x = put_first table (option_and_then (name_on on) x) m

abbrev pub names_on : Side → OwnNames → Table
names_on side.Value x = x.values
names_on side.Setting x = x.settings

abbrev pub put_both : Sources → OwnNames → ℕ → OwnNames
put_both p x m = record { values = put_declared side.Value x.values m (declared p m); settings = put_declared side.Setting x.settings m (declared p m) }

abbrev pub put_all : Sources → OwnNames → List ℕ → OwnNames
put_all p x [] = x
put_all p x (m ∷ ms) = put_all p (put_both p x m) ms

abbrev pub names_of : Sources → List ℕ → OwnNames
names_of p ms = put_all p (record { values = []; settings = [] }) ms

-- ---- all of a program

pub record AreNames (p : Sources) (numbers : List ℕ) (names : List OwnNames) (facts : List Facts) : Type 0 where
  pub numbered : numbers ≡ class_numbers p.files
  pub named : (c : ℕ) → c < class_count p → slice_get names c ≡ Some (names_of p (own_members p c))
  pub told : facts ≡ map (node_facts p) (members p)

-- ---- look-ups in them

abbrev pub own_by : List Facts → ℕ → Option OwnMember
own_by facts m = option_map (λ f. record { number = m; is_static = f.is_static; lacks_body = f.lacks_body }) (slice_get facts m)

abbrev pub own_in : List Facts → Side → List ℕ → OwnNames → Option OwnMember
own_in facts on text names = option_and_then (own_by facts) (numbered text (names_on on names))

unfoldable pub own_by_class : List OwnNames → List Facts → ℕ → Side → List ℕ → Option OwnMember
own_by_class names facts c on text = option_and_then (own_in facts on text) (slice_get names c)
