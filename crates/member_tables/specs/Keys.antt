-- The numbers of the selectors under which a member is found.
use Rattle.std.specs.Prelude.{ℕ, Bool, List, [], ◌∷◌, map, Option, Some, None, slice_get}
use Rattle.std.specs.List.{list_any}
use Rattle.dart_program.specs.Declares.{DeclaredMember}
use Rattle.selectors.specs.declared.selector.Selector.{Selector}
use Rattle.selectors.specs.Selectors.{selectors, number_of}
use Rattle.class_heads.specs.Sources.{Sources}
use Rattle.class_members.specs.declared.members.MemberNode.{MemberNode}
use Rattle.class_members.specs.Members.{members}
use Rattle.class_members.specs.Owners.{is_number}
use Rattle.member_tables.specs.declared.keys.Keys.{Keys}
use Rattle.member_tables.specs.declared.keys.Keys.TheVariants as k
use Rattle.member_tables.specs.Lookup.{declared_by_node, names_of}

abbrev pub keys_in : Keys → List (Option ℕ)
keys_in k.Nothing = []
keys_in (k.One a) = a ∷ []
keys_in (k.Two a b) = a ∷ b ∷ []

-- one for each name; nothing where no selector has that name
abbrev pub numbers_of : List Selector → ℕ → List (List ℕ) → List (Option ℕ)
numbers_of listed file texts = map (λ text. number_of file text listed) texts

-- those of a member that is declared in this file
abbrev pub declared_keys : List Selector → ℕ → Option DeclaredMember → List (Option ℕ)
declared_keys listed file x = numbers_of listed file (names_of x)

abbrev pub member_keys : Sources → List Selector → MemberNode → List (Option ℕ)
member_keys p listed x = declared_keys listed x.file (declared_by_node p x)

abbrev pub keys_if : Sources → Option MemberNode → List (Option ℕ)
keys_if p None = []
keys_if p (Some x) = member_keys p (selectors p.files) x

-- of the member of this number
abbrev pub keys_at : Sources → ℕ → List (Option ℕ)
keys_at p m = keys_if p (slice_get (members p) m)

-- whether it is one of them
abbrev pub is_among : ℕ → List (Option ℕ) → Bool
is_among n keys = list_any (is_number n) keys
