-- What classes find, computed on a small file.
use Rattle.std.proofs.Common.{◌≡◌, refl}
use Rattle.std.specs.Prelude.{ℕ, Bool, true, false, List, [], ◌∷◌, Option, Some, None, codes}
use Rattle.dart_grammar.specs.declared.trees.Name.{Name}
use Rattle.dart_grammar.specs.declared.trees.Span.{Span}
use Rattle.dart_grammar.specs.declared.trees.Body.{Body}
use Rattle.dart_grammar.specs.declared.trees.Body.TheVariants as b
use Rattle.dart_grammar.specs.declared.declarations.Declaration.TheVariants as d
use Rattle.dart_grammar.specs.declared.declarations.Member.{Member}
use Rattle.dart_grammar.specs.declared.declarations.Member.TheVariants as m
use Rattle.dart_grammar.specs.declared.declarations.Class.{Class}
use Rattle.dart_program.specs.declared.files.SourceFile.{SourceFile}
use Rattle.library_scopes.specs.declared.libraries.Library.{Library}
use Rattle.library_scopes.specs.declared.named.Named.TheVariants as n
use Rattle.library_scopes.specs.Lookups.{lookup, candidates, given}
use Rattle.selectors.specs.Selectors.{selector_in}
use Rattle.class_heads.specs.Written.{written, class_numbers}
use Rattle.class_heads.specs.Heads.{class_meant, object_number}
use Rattle.class_heads.specs.Classes.{classes}
use Rattle.class_heads.specs.Sources.{Sources, classes_in}
use Rattle.class_heads.specs.Origins.{mixin_of, origin}
use Rattle.class_heads.specs.Bodies.{class_count, class_at}
use Rattle.class_members.specs.Constructions.{constructions, base}
use Rattle.class_members.specs.Members.{members}
use Rattle.class_members.specs.Owners.{own_members}
use Rattle.member_tables.specs.Lookup.{found_to}

abbrev pub at : Span
at = record { from = 0; to = 1 }

abbrev pub called : List ℕ → Name
called text = record { text = text; span = at }

abbrev pub getter : Bool → List ℕ → Body → Member
getter is_static text body = m.Getter is_static (record { span = at; name = called text; body = body })

abbrev pub class : List ℕ → Option (List Name) → List (List Name) → List Member → Class
class text superclass mixins members = record { span = at; is_abstract = false; name = called text; type_parameters = []; superclass = superclass; mixins = mixins; interfaces = []; members = members }

abbrev pub body : Body
body = b.Native (called (codes "f"))

-- `class A { get x .. static get y .. get z; get w .. }`
abbrev pub class_a : Class
class_a = class (codes "A") None [] (getter false (codes "x") body ∷ getter true (codes "y") body ∷ getter false (codes "z") b.Abstract ∷ getter false (codes "w") body ∷ [])

-- `class B extends A { get x .. }`
abbrev pub class_b : Class
class_b = class (codes "B") (Some (called (codes "A") ∷ [])) [] (getter false (codes "x") body ∷ [])

-- `class C extends A with B {}`
abbrev pub class_c : Class
class_c = class (codes "C") (Some (called (codes "A") ∷ [])) ((called (codes "B") ∷ []) ∷ []) []

abbrev pub file : SourceFile
file = record { name = codes "a"; tree = record { imports = []; declarations = d.Class class_a ∷ d.Class class_b ∷ d.Class class_c ∷ [] }; links = [] }

abbrev pub library : Library
library = record { values = (codes "A", n.Class 0) ∷ (codes "B", n.Class 1) ∷ (codes "C", n.Class 2) ∷ []; setters = []; prefixes = []; imports = [] }

abbrev pub program : Sources
program = record { files = file ∷ []; scopes = record { libraries = library ∷ []; prefixes = [] } }

-- what a class finds under a name of the file
abbrev pub finds : ℕ → List ℕ → Option ℕ
finds c text = found_to (class_count program) program (selector_in 0 text) c

-- The members of A are 0 to 3, and that of B is 4. Class 2 is `A with B`, and class 3 is C. What a class has itself stands before
-- what its superclass has, and so does what it has of its mixin.
own_first : (finds 0 (codes "x") ≡ Some 0) × (finds 1 (codes "x") ≡ Some 4) × (finds 2 (codes "x") ≡ Some 4) × (finds 3 (codes "x") ≡ Some 4)
unfolding classes_in class_count class_at origin mixin_of own_members members written classes class_numbers object_number class_meant lookup candidates given constructions base
own_first = (refl, refl, refl, refl)

inherited : (finds 1 (codes "w") ≡ Some 3) × (finds 3 (codes "w") ≡ Some 3)
unfolding classes_in class_count class_at origin mixin_of own_members members written classes class_numbers object_number class_meant lookup candidates given constructions base
inherited = (refl, refl)

-- What is static, or has no body, is not found, and what is no class finds nothing.
not_found : (finds 0 (codes "y") ≡ None) × (finds 0 (codes "z") ≡ None) × (finds 0 (codes "x=") ≡ None) × (finds 4 (codes "x") ≡ None)
unfolding classes_in class_count class_at origin mixin_of own_members members written classes class_numbers object_number class_meant lookup candidates given constructions base
not_found = (refl, refl, refl, refl)
