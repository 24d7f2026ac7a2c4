-- The definitions on small names and files, computed.
use Rattle.std.proofs.Common.{◌≡◌, ℕ, true, false, List, [], ◌∷◌, map, Some, None, refl, sym, ◌∙◌, arith}
use Rattle.std.specs.Prelude.{codes}
use Rattle.outside.specs.Outside.{Held}
use Rattle.dart_syntax.specs.declared.rules.Rule.TheVariants.{U1, N1, N3}
use Rattle.dart_grammar.specs.declared.declarations.Import.{Import}
use Rattle.dart_grammar.specs.Trees.{span}
use Rattle.dart_program.specs.declared.files.SourceFile.{SourceFile}
use Rattle.dart_program.specs.Paths.{is_core, named_from, entry_name}
use Rattle.dart_program.specs.Loading.{Asked, asked, link, content, Breaks, absent, many, full, text}

-- ---- names

-- in the folder of the file that has the import
beside : (named_from (codes "a.dart") (codes "c.dart") ≡ Some (codes "c.dart")) × (named_from (codes "a/b.dart") (codes "c.dart") ≡ Some (codes "a/c.dart"))
    × (named_from (codes "a/b.dart") (codes "d/c.dart") ≡ Some (codes "a/d/c.dart")) × (named_from (codes "/a/b.dart") (codes "c.dart") ≡ Some (codes "/a/c.dart"))
unfolding named_from
beside = (refl, refl, refl, refl)

-- empty parts are dropped
empty_parts : (named_from (codes "a/b.dart") (codes "d//c.dart") ≡ Some (codes "a/d/c.dart")) × (named_from (codes "a/b.dart") (codes "d/") ≡ Some (codes "a/d"))
    × (named_from (codes "a/b.dart") [] ≡ Some (codes "a"))
unfolding named_from
empty_parts = (refl, refl, refl)

-- `.` stays
dots : (named_from (codes "a/b.dart") (codes "./c.dart") ≡ Some (codes "a/c.dart")) × (named_from (codes "a/b.dart") (codes "d/./c.dart") ≡ Some (codes "a/d/c.dart"))
    × (named_from (codes "a.dart") (codes "...") ≡ Some (codes "...")) × (named_from (codes "a.dart") (codes ".") ≡ Some [])
unfolding named_from
dots = (refl, refl, refl, refl)

-- `..` removes the part before it, also one of the folder
outwards : (named_from (codes "a/b.dart") (codes "../c.dart") ≡ Some (codes "c.dart")) × (named_from (codes "a/b.dart") (codes "d/../c.dart") ≡ Some (codes "a/c.dart"))
    × (named_from (codes "a/e/b.dart") (codes "../../c.dart") ≡ Some (codes "c.dart")) × (named_from (codes "/a/b.dart") (codes "../c.dart") ≡ Some (codes "/c.dart"))
unfolding named_from
outwards = (refl, refl, refl, refl)

-- where there is none, no file is named
too_far : (named_from (codes "a.dart") (codes "../c.dart") ≡ None) × (named_from (codes "a/b.dart") (codes "../../c.dart") ≡ None)
    × (named_from (codes "a/b.dart") (codes "/../c.dart") ≡ None) × (named_from (codes "a.dart") (codes "../a.dart/..") ≡ None)
unfolding named_from
too_far = (refl, refl, refl, refl)

-- a leading slash starts from no folder
rooted : (named_from (codes "a/b.dart") (codes "/c.dart") ≡ Some (codes "/c.dart")) × (named_from (codes "a/b.dart") (codes "//d/../c.dart") ≡ Some (codes "/c.dart"))
    × (named_from (codes "a/b.dart") (codes "/") ≡ Some (codes "/"))
unfolding named_from
rooted = (refl, refl, refl)

-- the word that names the entry
entries : (entry_name (codes "a.dart") ≡ Some (codes "a.dart")) × (entry_name (codes "./b/../a.dart") ≡ Some (codes "a.dart")) × (entry_name (codes "b/a.dart") ≡ Some (codes "b/a.dart"))
    × (entry_name (codes "/a.dart") ≡ Some (codes "/a.dart")) × (entry_name (codes "../a.dart") ≡ None)
unfolding named_from
entries = (refl, refl, refl, refl, refl)

-- the prelude is meant by what is written, before any part is read
cores : (is_core (codes "dart:core") ≡ true) × (is_core (codes "dart:async") ≡ true) × (is_core (codes "./dart:core") ≡ false) × (is_core (codes "dart:io") ≡ false)
cores = (refl, refl, refl, refl)

-- ---- the order of files

import_at : List ℕ → ℕ → Import
import_at uri at = record { span = span at at; uri = uri; uri_span = span at at; is_deferred = false; prefix = None; combinators = [] }

file_of : List ℕ → List Import → SourceFile
file_of name imports = record { name = name; tree = record { imports = imports; declarations = [] }; links = [] }

-- a has b, c and e, b has d and e, c has d: the files are a, b, c, e, d
five : List SourceFile
five = file_of (codes "a.dart") (import_at (codes "b.dart") 7 ∷ import_at (codes "c.dart") 35 ∷ import_at (codes "e.dart") 63 ∷ [])
    ∷ file_of (codes "b.dart") (import_at (codes "d.dart") 7 ∷ import_at (codes "e.dart") 23 ∷ [])
    ∷ file_of (codes "c.dart") (import_at (codes "dart:core") 7 ∷ import_at (codes "d.dart") 26 ∷ [])
    ∷ file_of (codes "e.dart") [] ∷ file_of (codes "d.dart") [] ∷ []

asked_five : asked (codes "a.dart") five ≡
    record { name = Some (codes "a.dart"); file = 1; at = 0 } ∷ record { name = Some (codes "b.dart"); file = 1; at = 7 } ∷ record { name = Some (codes "c.dart"); file = 1; at = 35 }
    ∷ record { name = Some (codes "e.dart"); file = 1; at = 63 } ∷ record { name = Some (codes "d.dart"); file = 2; at = 7 } ∷ []
unfolding named_from asked five file_of import_at
asked_five = refl

-- the numbers that imports link to
links_five : map (link (asked (codes "a.dart") five) (codes "b.dart")) (import_at (codes "d.dart") 7 ∷ import_at (codes "./e.dart") 23 ∷ import_at (codes "dart:core") 40 ∷ []) ≡ 5 ∷ 4 ∷ 0 ∷ []
unfolding named_from asked five file_of import_at
links_five = refl

-- Two imports of one file by two names ask for it once, and what names no file each time.
asked_twice : asked (codes "a.dart") (file_of (codes "a.dart") (import_at (codes "./b.dart") 7 ∷ import_at (codes "c/../b.dart") 26 ∷ import_at (codes "..") 40 ∷ import_at (codes "..") 50 ∷ []) ∷ [])
    ≡ record { name = Some (codes "a.dart"); file = 1; at = 0 } ∷ record { name = Some (codes "b.dart"); file = 1; at = 7 } ∷ record { name = None; file = 1; at = 40 } ∷ record { name = None; file = 1; at = 50 } ∷ []
unfolding named_from asked file_of import_at
asked_twice = refl

-- ---- refusals while files are loaded

never : (held : Held) (x : Asked) → content held x ≡ None → (file at : ℕ) → Breaks held 257 0 x N1 file at → ⊥
never held x none file at (many is more) = let e : None ≡ Some _ = sym none ∙ is in cc
never held x none file at (text is few small room broken) = omega arith

-- one file too many: where it isn't held, that is told first
absent_and_many : (held : Held) (x : Asked) → content held x ≡ None → Breaks held 257 0 x U1 x.file x.at × (Breaks held 257 0 x N1 x.file x.at → ⊥)
absent_and_many held x none = (absent none, λ b. never held x none _ _ b)

-- the file that crosses the limit of all is named itself
crossing : (held : Held) (x : Asked) → content held x ≡ Some (32 ∷ 32 ∷ []) → Breaks held 5 4194303 x N3 5 0
crossing held x is = full is (omega arith) (omega arith) (omega arith)
