-- What a class declares itself under a name, static or not, with a body or without one.
use Rattle.std.specs.Prelude.{ℕ, ◌==◌, Bool, false, not, ◌||◌, if◌then◌else◌, List, Option, Some, None, option_and_then, slice_get}
use Rattle.std.specs.List.{filter_map}
use Rattle.dart_grammar.specs.declared.trees.Name.{Name}
use Rattle.dart_program.specs.Declares.{DeclaredMember, AMethod, AMemberGetter, AMemberSetter, AField, variable_name, is_static}
use Rattle.library_scopes.specs.declared.named.Side.{Side}
use Rattle.library_scopes.specs.declared.named.Side.TheVariants as side
use Rattle.library_scopes.specs.Lookups.{is_public}
use Rattle.library_scopes.specs.Uses.{has_text}
use Rattle.class_heads.specs.declared.nodes.ClassNode.{ClassNode}
use Rattle.class_heads.specs.Sources.{Sources, classes_in}
use Rattle.class_members.specs.Members.{members}
use Rattle.class_members.specs.Owners.{own_members}
use Rattle.member_tables.specs.Lookup.{declared_by_node, has_body}
use Rattle.name_meanings.specs.declared.own.OwnMember.{OwnMember}

-- ---- the name under which a member is declared

-- A field is there for values, and, unless it is final, for what takes one. An operator and a constructor have no such name.
abbrev pub name_on : Side → DeclaredMember → Option Name
name_on side.Value (AMethod is_static x) = Some x.name
name_on side.Value (AMemberGetter is_static x) = Some x.name
name_on side.Value (AField is_static is_final x) = Some (variable_name x)
name_on side.Value _ = None
name_on side.Setting (AMemberSetter is_static x) = Some x.name
name_on side.Setting (AField is_static is_final x) = if is_final then None else Some (variable_name x)
name_on side.Setting _ = None

abbrev pub is_name : List ℕ → Option Name → Bool
is_name text None = false
is_name text (Some x) = has_text text x

abbrev pub lacks_body : DeclaredMember → Bool
lacks_body (AMethod is_static x) = not (has_body x.body)
lacks_body (AMemberGetter is_static x) = not (has_body x.body)
lacks_body (AMemberSetter is_static x) = not (has_body x.body)
lacks_body _ = false

-- ---- a class

abbrev pub own_member_of : ℕ → DeclaredMember → OwnMember
own_member_of m d = record { number = m; is_static = is_static d; lacks_body = lacks_body d }

abbrev pub own_if : Side → List ℕ → ℕ → Option DeclaredMember → Option OwnMember
own_if on text m None = None
own_if on text m (Some d) = if is_name text (name_on on d) then Some (own_member_of m d) else None

-- what the member of this number is declared as
abbrev pub declared : Sources → ℕ → Option DeclaredMember
declared p m = option_and_then (declared_by_node p) (slice_get (members p) m)

abbrev pub own_at : Sources → Side → List ℕ → ℕ → Option OwnMember
own_at p on text m = own_if on text m (declared p m)

-- What begins with `_` is seen in its own file alone.
abbrev pub is_seen : ℕ → List ℕ → Option ClassNode → Bool
is_seen n text None = false
is_seen n text (Some c) = is_public text || n == c.file

-- The first one that class c declares under that name, as file n sees it. A class that breaks no rule has no second one.
unfoldable pub own_member : Sources → ℕ → ℕ → Side → List ℕ → Option OwnMember
own_member p n c on text = if is_seen n text (slice_get (classes_in p) c) then slice_get (filter_map (own_at p on text) (own_members p c)) 0 else None
