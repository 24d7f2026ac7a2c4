-- The members of a program, the constructors of a body and the members of classes and outside of them, as they are found one
-- after another.
use Rattle.std.specs.Prelude.{ℕ, zero, suc, ◌+◌, nat_lt, if◌then◌else◌, List, [], ◌∷◌, ◌++◌, length, slice_index_or, slice_set, Option, Some, None}
use Rattle.std.specs.List.{list_any}
use Rattle.dart_grammar.specs.declared.trees.Variable.{Variable}
use Rattle.dart_grammar.specs.declared.declarations.Declaration.{Declaration}
use Rattle.dart_grammar.specs.declared.declarations.Declaration.TheVariants as d
use Rattle.dart_grammar.specs.declared.declarations.Member.{Member}
use Rattle.dart_grammar.specs.declared.declarations.Member.TheVariants as m
use Rattle.dart_grammar.specs.declared.declarations.Class.{Class}
use Rattle.dart_program.specs.declared.files.SourceFile.{SourceFile}
use Rattle.dart_sites.specs.declared.surroundings.Owner.TheVariants as o
use Rattle.class_heads.specs.Written.{nameless}
use Rattle.class_heads.specs.Rules.{is_constructor}
use Rattle.class_heads.specs.Sources.{Sources}
use Rattle.class_members.specs.declared.members.Construction.{Construction}
use Rattle.class_members.specs.declared.members.MemberKind.{MemberKind}
use Rattle.class_members.specs.declared.members.MemberKind.TheVariants as k
use Rattle.class_members.specs.declared.members.MemberNode.{MemberNode}
use Rattle.class_members.specs.Constructions.{constructions, lacks_implicit}
use Rattle.class_members.specs.Members.{node, place, classes_made, all_made}

-- ---- members, each behind those before it

abbrev pub with_one : ℕ → Option ℕ → MemberKind → List MemberNode → List MemberNode
with_one file class kind before = before ++ node file class kind ∷ []

abbrev pub with_variables : ℕ → Option ℕ → ℕ → Option ℕ → List MemberNode → ℕ → List Variable → List MemberNode
with_variables file class j member before i [] = before
with_variables file class j member before i (x ∷ xs) = with_variables file class j member (with_one file class (place j member i) before) (suc i) xs

abbrev pub with_member : ℕ → ℕ → ℕ → ℕ → List MemberNode → Member → List MemberNode
with_member file c j n before (m.Fields is_static at xs) = with_variables file (Some c) j (Some n) before 0 xs.items
with_member file c j n before x = with_one file (Some c) (place j (Some n) 0) before

abbrev pub with_members : ℕ → ℕ → ℕ → ℕ → List MemberNode → List Member → List MemberNode
with_members file c j n before [] = before
with_members file c j n before (x ∷ xs) = with_members file c j (suc n) (with_member file c j n before x) xs

abbrev pub with_forwarded : ℕ → ℕ → List MemberNode → List Construction → List MemberNode
with_forwarded file c before [] = before
with_forwarded file c before (x ∷ xs) = with_forwarded file c (with_one file (Some c) (k.Forwarded x) before) xs

abbrev pub with_all_forwarded : Sources → ℕ → List MemberNode → ℕ → ℕ → List MemberNode
with_all_forwarded p file before c zero = before
with_all_forwarded p file before c (suc n) = with_all_forwarded p file (with_forwarded file c before (constructions p c)) (suc c) n

abbrev pub with_implied : ℕ → ℕ → Class → List MemberNode → List MemberNode
with_implied file c x before = if list_any is_constructor x.members then before else if lacks_implicit file x then before else with_one file (Some c) k.Implied before

abbrev pub with_class : Sources → ℕ → ℕ → ℕ → List MemberNode → Class → List MemberNode
with_class p file c j before x =
    let own = c + nameless (o.Class x) in
    with_implied file own x (with_members file own j 0 (with_all_forwarded p file before c (nameless (o.Class x))) x.members)

abbrev pub with_declaration : Sources → ℕ → ℕ → ℕ → List MemberNode → Declaration → List MemberNode
with_declaration p file c j before (d.Class x) = with_class p file c j before x
with_declaration p file c j before (d.Alias x) = with_all_forwarded p file before c (suc (nameless (o.Alias x)))
with_declaration p file c j before (d.Variables at xs) = with_variables file None j None before 0 xs.items
with_declaration p file c j before _ = with_one file None (place j None 0) before

abbrev pub with_declarations : Sources → ℕ → ℕ → ℕ → List MemberNode → List Declaration → List MemberNode
with_declarations p file c j before [] = before
with_declarations p file c j before (x ∷ xs) = with_declarations p file (c + classes_made x) (suc j) (with_declaration p file c j before x) xs

abbrev pub with_files : Sources → ℕ → ℕ → List MemberNode → List SourceFile → List MemberNode
with_files p n c before [] = before
with_files p n c before (file ∷ files) = with_files p (suc n) (c + all_made file.tree.declarations) (with_declarations p n c 0 before file.tree.declarations) files

-- ---- constructors

-- with the k-th member of the body of class c, where it is a constructor
abbrev pub with_written : ℕ → ℕ → List Construction → Member → List Construction
with_written c k before (m.Constructor x) = before ++ record { class = c; member = Some k } ∷ []
with_written c k before _ = before

-- ---- numbers

-- with one more number, where it is not of a class
abbrev pub with_outside : Option ℕ → ℕ → List ℕ → List ℕ
with_outside None n before = before ++ n ∷ []
with_outside (Some c) n before = before

-- lists of numbers, one for each class, with one more number, and with those of members from number n on
abbrev pub with_number_at : ℕ → ℕ → List (List ℕ) → List (List ℕ)
with_number_at c n lists = if nat_lt c (length lists) then slice_set lists c (slice_index_or lists c [] ++ n ∷ []) else lists

abbrev pub with_number : Option ℕ → ℕ → List (List ℕ) → List (List ℕ)
with_number None n lists = lists
with_number (Some c) n lists = with_number_at c n lists

abbrev pub with_numbers : ℕ → List (List ℕ) → List MemberNode → List (List ℕ)
with_numbers n lists [] = lists
with_numbers n lists (x ∷ xs) = with_numbers (suc n) (with_number x.class n lists) xs
