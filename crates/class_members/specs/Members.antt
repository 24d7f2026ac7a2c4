-- All members of a program: what its libraries declare outside classes, and what its classes have. They stand in the order of
-- files and of declaration. Of a class the members of its body stand first, and then the constructor that it has though none is
-- written. A class without a name, and an alias, has constructors alone, one for each of its superclass.
use Rattle.std.specs.Prelude.{ℕ, zero, suc, ◌+◌, ◌||◌, if◌then◌else◌, List, [], ◌∷◌, ◌++◌, map, Option, Some, None}
use Rattle.std.specs.List.{list_any}
use Rattle.dart_grammar.specs.declared.trees.Variable.{Variable}
use Rattle.dart_grammar.specs.declared.declarations.Declaration.{Declaration}
use Rattle.dart_grammar.specs.declared.declarations.Declaration.TheVariants as d
use Rattle.dart_grammar.specs.declared.declarations.Member.{Member}
use Rattle.dart_grammar.specs.declared.declarations.Member.TheVariants as m
use Rattle.dart_grammar.specs.declared.declarations.Class.{Class}
use Rattle.dart_program.specs.declared.files.SourceFile.{SourceFile}
use Rattle.dart_sites.specs.declared.surroundings.Owner.TheVariants as o
use Rattle.class_heads.specs.Written.{nameless}
use Rattle.class_heads.specs.Rules.{is_constructor}
use Rattle.class_heads.specs.Sources.{Sources}
use Rattle.class_members.specs.declared.members.Construction.{Construction}
use Rattle.class_members.specs.declared.members.MemberKind.{MemberKind}
use Rattle.class_members.specs.declared.members.MemberKind.TheVariants as k
use Rattle.class_members.specs.declared.members.MemberNode.{MemberNode}
use Rattle.class_members.specs.Constructions.{constructions, lacks_implicit}

abbrev pub node : ℕ → Option ℕ → MemberKind → MemberNode
node file class kind = record { file = file; class = class; kind = kind }

-- the i-th variable of those that are declared together
abbrev pub place : ℕ → Option ℕ → ℕ → MemberKind
place j member i = k.Declared (record { declaration = j; member = member; variable = i })

-- all of them from the i-th on
abbrev pub variables_from : ℕ → Option ℕ → ℕ → Option ℕ → ℕ → List Variable → List MemberNode
variables_from file class j member i [] = []
variables_from file class j member i (x ∷ xs) = node file class (place j member i) ∷ variables_from file class j member (suc i) xs

-- ---- the members of a body: the n-th one, that of class c in the j-th declaration of its file

abbrev pub of_member : ℕ → ℕ → ℕ → ℕ → Member → List MemberNode
of_member file c j n (m.Fields is_static at xs) = variables_from file (Some c) j (Some n) 0 xs.items
of_member file c j n x = node file (Some c) (place j (Some n) 0) ∷ []

abbrev pub of_body : ℕ → ℕ → ℕ → ℕ → List Member → List MemberNode
of_body file c j n [] = []
of_body file c j n (x ∷ xs) = of_member file c j n x ++ of_body file c j (suc n) xs

-- ---- constructors that are not written

abbrev pub forwarded : ℕ → ℕ → Construction → MemberNode
forwarded file c x = node file (Some c) (k.Forwarded x)

-- of so many classes from number c on
abbrev pub all_forwarded : Sources → ℕ → ℕ → ℕ → List MemberNode
all_forwarded p file c zero = []
all_forwarded p file c (suc n) = map (forwarded file c) (constructions p c) ++ all_forwarded p file (suc c) n

abbrev pub implied : ℕ → ℕ → Class → List MemberNode
implied file c x = if list_any is_constructor x.members || lacks_implicit file x then [] else node file (Some c) k.Implied ∷ []

-- ---- declarations: the j-th one of its file, where the next class has number c

abbrev pub of_class : Sources → ℕ → ℕ → ℕ → Class → List MemberNode
of_class p file c j x =
    let own = c + nameless (o.Class x) in
    all_forwarded p file c (nameless (o.Class x)) ++ (of_body file own j 0 x.members ++ implied file own x)

abbrev pub of_declaration : Sources → ℕ → ℕ → ℕ → Declaration → List MemberNode
of_declaration p file c j (d.Class x) = of_class p file c j x
of_declaration p file c j (d.Alias x) = all_forwarded p file c (suc (nameless (o.Alias x)))
of_declaration p file c j (d.Variables at xs) = variables_from file None j None 0 xs.items
of_declaration p file c j _ = node file None (place j None 0) ∷ []

-- how many classes a declaration makes
abbrev pub classes_made : Declaration → ℕ
classes_made (d.Class x) = suc (nameless (o.Class x))
classes_made (d.Alias x) = suc (nameless (o.Alias x))
classes_made _ = 0

abbrev pub of_declarations : Sources → ℕ → ℕ → ℕ → List Declaration → List MemberNode
of_declarations p file c j [] = []
of_declarations p file c j (x ∷ xs) = of_declaration p file c j x ++ of_declarations p file (c + classes_made x) (suc j) xs

abbrev pub all_made : List Declaration → ℕ
all_made [] = 0
all_made (x ∷ xs) = classes_made x + all_made xs

-- those of files that are numbered from n on
abbrev pub of_files : Sources → ℕ → ℕ → List SourceFile → List MemberNode
of_files p n c [] = []
of_files p n c (file ∷ files) = of_declarations p n c 0 file.tree.declarations ++ of_files p (suc n) (c + all_made file.tree.declarations) files

-- The members by their numbers.
unfoldable pub members : Sources → List MemberNode
members p = of_files p 0 0 p.files
