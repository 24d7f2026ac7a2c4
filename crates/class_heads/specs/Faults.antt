-- All faults of the heads of classes, one after another.
use Rattle.std.specs.Prelude.{ℕ, suc, ◌==◌, Bool, false, not, ◌&&◌, ◌||◌, if◌then◌else◌, nat_lt, List, [], ◌∷◌, ◌++◌, Option, Some, None, is_none, slice_get, slice_index_or}
use Rattle.std.specs.List.{list_any, flat_map}
use Rattle.dart_grammar.specs.declared.trees.Name.{Name}
use Rattle.dart_grammar.specs.declared.declarations.Class.{Class}
use Rattle.dart_syntax.specs.declared.rules.Rule.{Rule}
use Rattle.dart_syntax.specs.declared.rules.Rule.TheVariants.{C1, C2, C3, C4, C5}
use Rattle.dart_syntax.specs.declared.rules.Refusal.{Refusal}
use Rattle.dart_sites.specs.declared.sites.Site.{Site}
use Rattle.dart_sites.specs.declared.surroundings.Surroundings.{Surroundings}
use Rattle.library_scopes.specs.Names.{is_among}
use Rattle.class_heads.specs.declared.nodes.ClassNode.{ClassNode}
use Rattle.class_heads.specs.declared.bodies.BodyFacts.{BodyFacts}
use Rattle.class_heads.specs.declared.bodies.SuperSearch.{SuperSearch}
use Rattle.class_heads.specs.declared.known.Known.{Known}
use Rattle.class_heads.specs.declared.written.WrittenClass.{WrittenClass}
use Rattle.class_heads.specs.Written.{own_name, mixin_names, supertypes, type_parameters}
use Rattle.class_heads.specs.Heads.{is_behind_deferred, meant}
use Rattle.class_heads.specs.Supertypes.{Classes}
use Rattle.class_heads.specs.Origins.{superclass_of, superclasses, origin}
use Rattle.class_heads.specs.Bodies.{class_of_node}
use Rattle.class_heads.specs.Rules.{start, constructs, holds_fields, asks_super, names_super, closed_names, own_number}

-- ---- bodies

abbrev pub no_body : BodyFacts
no_body = record { constructs = false; holds_fields = false; asks_super = false }

abbrev pub facts_of : Option Class → BodyFacts
facts_of None = no_body
facts_of (Some x) = record { constructs = constructs x; holds_fields = holds_fields x; asks_super = asks_super x }

abbrev pub node_facts : List WrittenClass → ClassNode → BodyFacts
node_facts written x = facts_of (class_of_node written x)

-- whether `super` was seen, and with one more site
abbrev pub super_seen : SuperSearch → Surroundings → Site → SuperSearch
super_seen search surroundings site = record { is_found = search.is_found || names_super site }

-- ---- mixins

abbrev pub is_number : Option ℕ → ℕ → Bool
is_number None c = false
is_number (Some d) c = d == c

abbrev pub is_another : Option ℕ → Option ℕ → Bool
is_another object None = false
is_another object (Some s) = not (is_number object s)

abbrev pub body_at : Known → ℕ → BodyFacts
body_at k c = slice_index_or k.bodies c no_body

abbrev pub has_origin : Classes → ℕ → ℕ → Bool
has_origin cs x s = is_number (origin cs s) x

-- one of the superclasses of c has the body of class x
abbrev pub is_above_with : Classes → ℕ → ℕ → Bool
is_above_with cs c x = list_any (has_origin cs x) (superclasses cs c)

-- why the body of class x, which that of a mixin is, may not be mixed in
abbrev pub is_bad_body : Known → ℕ → Option ℕ → Bool
is_bad_body k c None = false
is_bad_body k c (Some x) = (body_at k x).asks_super || ((body_at k x).holds_fields && is_above_with k.classes c x)

abbrev pub is_no_mixin : Known → ℕ → ℕ → Bool
is_no_mixin k c m = is_another k.naming.object (superclass_of k.classes m) || ((body_at k m).constructs || is_bad_body k c (origin k.classes m))

abbrev pub is_bad_mixin : Known → ℕ → Option ℕ → Bool
is_bad_mixin k c None = false
is_bad_mixin k c (Some m) = is_no_mixin k c m

-- ---- classes that only the prelude may name

abbrev pub is_closed_class : Option ClassNode → Bool
is_closed_class None = false
is_closed_class (Some x) = x.file == 0 && is_among x.name closed_names

abbrev pub is_closed : Known → Option ℕ → Bool
is_closed k None = false
is_closed k (Some m) = is_closed_class (slice_get k.classes m)

-- ---- faults

abbrev pub fault_if : Bool → Rule → ℕ → ℕ → List Refusal
fault_if broken rule n at = if broken then record { rule = rule; file = n; at = at } ∷ [] else []

abbrev pub refused : Rule → WrittenClass → ℕ → Refusal
refused rule w at = record { rule = rule; file = w.file; at = at }

unfoldable pub supertype_faults : Known → WrittenClass → List Name → List Refusal
supertype_faults k w names =
    fault_if (is_none (meant k.naming w names)) C1 w.file (start names) ++ (fault_if (nat_lt 0 w.file && is_closed k (meant k.naming w names)) C4 w.file (start names) ++ fault_if (is_behind_deferred k.naming.scopes w.file (type_parameters w.class) names) C5 w.file (start names))

abbrev pub mixin_fault : Known → WrittenClass → ℕ → List Name → List Refusal
mixin_fault k w c names = fault_if (is_bad_mixin k c (meant k.naming w names)) C3 w.file (start names)

-- the mixins of a head, of which the first one makes class c
abbrev pub mixin_faults : Known → WrittenClass → ℕ → List (List Name) → List Refusal
mixin_faults k w c [] = []
mixin_faults k w c (names ∷ more) = mixin_fault k w c names ++ mixin_faults k w (suc c) more

abbrev pub is_cycle : Known → ℕ → Bool
is_cycle k c = slice_index_or k.cycles c false

abbrev pub cycle_fault : Known → WrittenClass → ℕ → List Refusal
cycle_fault k w c = fault_if (is_cycle k c) C2 w.file (own_name w.class).span.from

unfoldable pub head_faults : Known → ℕ → WrittenClass → List Refusal
head_faults k n w = cycle_fault k w (own_number n w) ++ (flat_map (supertype_faults k w) (supertypes w.class) ++ mixin_faults k w n (mixin_names w.class))

-- where n is the number of the first class of the first head
abbrev pub faults_from : Known → ℕ → List WrittenClass → List Refusal
faults_from k n [] = []
faults_from k n (w ∷ ws) = head_faults k n w ++ faults_from k (suc (own_number n w)) ws
