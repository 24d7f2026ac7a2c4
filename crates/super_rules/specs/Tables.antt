-- Tables of the constructors of bodies, by their names.
use Rattle.std.specs.Prelude.{ℕ, suc, ◌&&◌, Bool, false, not, if◌then◌else◌, List, [], ◌∷◌, ◌++◌, slice_get, is_some, Option, Some, None, option_and_then}
use Rattle.std.specs.List.{list_any, flat_map}
use Rattle.dart_grammar.specs.declared.declarations.Class.{Class}
use Rattle.dart_grammar.specs.declared.declarations.Constructor.{Constructor}
use Rattle.dart_grammar.specs.declared.declarations.Member.{Member}
use Rattle.dart_grammar.specs.declared.declarations.Member.TheVariants as m
use Rattle.dart_syntax.specs.declared.rules.Refusal.{Refusal}
use Rattle.dart_sites.specs.declared.surroundings.Owner.{Owner}
use Rattle.dart_sites.specs.declared.surroundings.Owner.TheVariants as o
use Rattle.class_heads.specs.declared.nodes.ClassNode.{ClassNode}
use Rattle.class_heads.specs.declared.written.WrittenClass.{WrittenClass}
use Rattle.class_heads.specs.Bodies.{class_of_node}
use Rattle.class_heads.specs.Origins.{superclass_of}
use Rattle.class_heads.specs.Rules.{is_constructor}
use Rattle.class_heads.specs.Sources.{Sources, classes_in, written_in}
use Rattle.class_members.specs.Constructions.{base}
use Rattle.selectors.specs.Tables.{Table, numbered}
use Rattle.super_rules.specs.declared.above.Above.{Above}
use Rattle.super_rules.specs.declared.calls.SuperCall.{SuperCall}
use Rattle.super_rules.specs.Calls.{calls}
use Rattle.super_rules.specs.Takers.{constructor_name, is_seen, takes_count, implied_takes}
use Rattle.super_rules.specs.Rules.{fault_if}

-- ---- one body

-- Of one name the first number stays.
abbrev pub put_first : Table → List ℕ → ℕ → Table
put_first table name k = if is_some (numbered name table) then table else table ++ (name, k) ∷ []

abbrev pub with_member : Table → ℕ → Member → Table
with_member table k (m.Constructor f) = put_first table (constructor_name f) k
with_member table k _ = table

-- where the first one has number k
abbrev pub with_members : Table → ℕ → List Member → Table
with_members table k [] = table
with_members table k (x ∷ xs) = with_members (with_member table k x) (suc k) xs

abbrev pub table_of_body : Option Class → Table
table_of_body None = []
table_of_body (Some c) = with_members [] 0 c.members

abbrev pub table_of : List WrittenClass → ClassNode → Table
table_of written x = table_of_body (class_of_node written x)

-- ---- look-ups

abbrev pub constructor_of : Member → Option Constructor
constructor_of (m.Constructor f) = Some f
constructor_of _ = None

abbrev pub constructor_at : List Member → ℕ → Option Constructor
constructor_at xs k = option_and_then constructor_of (slice_get xs k)

abbrev pub named_in : Table → List Member → List ℕ → Option Constructor
named_in table xs name = option_and_then (constructor_at xs) (numbered name table)

-- a body with its table
abbrev pub above_takes : ℕ → Above → SuperCall → Bool
above_takes k a x = if a.is_written then is_seen k a.file x.name && takes_count x.count (named_in a.names a.class.members x.name) else implied_takes a.file a.class x

abbrev pub takes_by : ℕ → Option Above → SuperCall → Bool
takes_by k None x = false
takes_by k (Some a) x = above_takes k a x

-- ---- the body of a class, found in tables

abbrev pub with_table : ℕ → Class → Option Table → Option Above
with_table n c None = None
with_table n c (Some names) = Some (record { file = n; class = c; is_written = list_any is_constructor c.members; names = names })

abbrev pub with_body : ℕ → Option Class → Option Table → Option Above
with_body n None names = None
with_body n (Some c) names = with_table n c names

abbrev pub above_node : List WrittenClass → Option Table → ClassNode → Option Above
above_node written names x = with_body x.file (class_of_node written x) names

abbrev pub above_at : Sources → List Table → ℕ → Option Above
above_at p tables c = option_and_then (above_node (written_in p) (slice_get tables c)) (slice_get (classes_in p) c)

unfoldable pub above_base : Sources → List Table → ℕ → Option Above
above_base p tables c = option_and_then (above_at p tables) (base (classes_in p) c)

-- ---- the faults of the program, found in tables

abbrev pub call_faults_by : ℕ → Option Above → SuperCall → List Refusal
call_faults_by file above x = fault_if (not (takes_by file above x)) file x.at

abbrev pub body_faults_by : Sources → List Table → ℕ → Class → Option ℕ → List Refusal
body_faults_by p tables file c None = []
body_faults_by p tables file c (Some s) = flat_map (call_faults_by file (above_base p tables s)) (calls file c)

abbrev pub owner_faults_by : Sources → List Table → ℕ → Owner → Option ℕ → List Refusal
owner_faults_by p tables file (o.Class c) superclass = body_faults_by p tables file c superclass
owner_faults_by p tables file (o.Alias a) superclass = []

abbrev pub superclass_by : Sources → List ℕ → WrittenClass → Option ℕ
superclass_by p numbers w = option_and_then (superclass_of (classes_in p)) (slice_get numbers w.number)

abbrev pub class_faults_by : Sources → List Table → List ℕ → WrittenClass → List Refusal
class_faults_by p tables numbers w = owner_faults_by p tables w.file w.class (superclass_by p numbers w)
