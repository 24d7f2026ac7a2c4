-- The classes of a program as they are written, aliases among them, in the order of files and of declaration. Their
-- numbers there are those that names stand for.
use Rattle.std.specs.Prelude.{ℕ, suc, ◌+◌, ◌-◌, List, [], ◌∷◌, ◌++◌, length, Option, Some, None, option_to_list}
use Rattle.dart_grammar.specs.declared.trees.Name.{Name}
use Rattle.dart_grammar.specs.declared.declarations.Declaration.{Declaration}
use Rattle.dart_grammar.specs.declared.declarations.Declaration.TheVariants as d
use Rattle.dart_program.specs.declared.files.SourceFile.{SourceFile}
use Rattle.dart_sites.specs.declared.surroundings.Owner.{Owner}
use Rattle.dart_sites.specs.declared.surroundings.Owner.TheVariants as o
use Rattle.class_heads.specs.declared.written.WrittenClass.{WrittenClass}

abbrev pub owner : Declaration → Option Owner
owner (d.Class x) = Some (o.Class x)
owner (d.Alias x) = Some (o.Alias x)
owner _ = None

-- with one more behind those before it; n is the number of its file
abbrev pub with_owner : ℕ → List WrittenClass → Option Owner → List WrittenClass
with_owner n before None = before
with_owner n before (Some x) = before ++ record { number = length before; file = n; class = x } ∷ []

abbrev pub with_declaration : ℕ → List WrittenClass → Declaration → List WrittenClass
with_declaration n before y = with_owner n before (owner y)

abbrev pub with_declarations : ℕ → List WrittenClass → List Declaration → List WrittenClass
with_declarations n before [] = before
with_declarations n before (d ∷ ds) = with_declarations n (with_declaration n before d) ds

-- with those of files that are numbered from n on
abbrev pub with_files : ℕ → List WrittenClass → List SourceFile → List WrittenClass
with_files n before [] = before
with_files n before (file ∷ files) = with_files (suc n) (with_declarations n before file.tree.declarations) files

unfoldable pub written : List SourceFile → List WrittenClass
written files = with_files 0 [] files

-- ---- heads

abbrev pub own_name : Owner → Name
own_name (o.Class x) = x.name
own_name (o.Alias x) = x.name

abbrev pub type_parameters : Owner → List Name
type_parameters (o.Class x) = x.type_parameters
type_parameters (o.Alias x) = x.type_parameters

abbrev pub superclass_names : Owner → Option (List Name)
superclass_names (o.Class x) = x.superclass
superclass_names (o.Alias x) = Some x.superclass

abbrev pub mixin_names : Owner → List (List Name)
mixin_names (o.Class x) = x.mixins
mixin_names (o.Alias x) = x.mixins

abbrev pub interface_names : Owner → List (List Name)
interface_names (o.Class x) = x.interfaces
interface_names (o.Alias x) = x.interfaces

-- all of them, from left to right
abbrev pub supertypes : Owner → List (List Name)
supertypes x = option_to_list (superclass_names x) ++ (mixin_names x ++ interface_names x)

-- ---- numbers

-- How many classes without a name a head has: one for each mixin. The last one in the head of an alias is the alias itself.
abbrev pub nameless : Owner → ℕ
nameless (o.Class x) = length x.mixins
nameless (o.Alias x) = length x.mixins - 1

-- each class that is written, with the number of the first class of its head, where that of the first one is n
abbrev pub heads_from : ℕ → List WrittenClass → List (ℕ × WrittenClass)
heads_from n [] = []
heads_from n (w ∷ ws) = (n, w) ∷ heads_from (suc (n + nameless w.class)) ws

-- Those without a name stand before the class in whose head they are. The numbers of written classes, where so many classes
-- stand before them:
abbrev pub numbers_from : ℕ → List WrittenClass → List ℕ
numbers_from n [] = []
numbers_from n (w ∷ ws) = (n + nameless w.class) ∷ numbers_from (suc (n + nameless w.class)) ws

unfoldable pub class_numbers : List SourceFile → List ℕ
class_numbers files = numbers_from 0 (written files)
