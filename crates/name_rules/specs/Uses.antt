-- The rule of names that stand for no value, of type tests, and of what can only be called: where it is broken.
use Rattle.std.specs.Prelude.{ℕ, Bool, true, false, not, ◌&&◌, ◌||◌, if◌then◌else◌, List, [], ◌∷◌, Option, Some, None, is_some, codes}
use Rattle.std.specs.Bool.{then_some}
use Rattle.std.specs.Str.{bytes_eq}
use Rattle.dart_grammar.specs.declared.trees.Name.{Name}
use Rattle.dart_sites.specs.declared.sites.Site.{Site}
use Rattle.dart_sites.specs.declared.sites.Site.TheVariants as x
use Rattle.dart_sites.specs.declared.sites.Receiver.{Receiver}
use Rattle.dart_sites.specs.declared.sites.Receiver.TheVariants as r
use Rattle.dart_sites.specs.declared.sites.Use.{Use}
use Rattle.dart_sites.specs.declared.sites.Use.TheVariants as u
use Rattle.dart_sites.specs.declared.surroundings.Surroundings.{Surroundings}
use Rattle.library_scopes.specs.declared.named.Named.{Named}
use Rattle.library_scopes.specs.declared.named.Named.TheVariants as n
use Rattle.library_scopes.specs.declared.named.Side.TheVariants as side
use Rattle.library_scopes.specs.Lookups.{deferred}
use Rattle.library_scopes.specs.Uses.{is_dynamic}
use Rattle.class_heads.specs.Sources.{Sources}
use Rattle.name_meanings.specs.declared.meaning.Meaning.{Meaning}
use Rattle.name_meanings.specs.declared.meaning.Meaning.TheVariants as m
use Rattle.name_meanings.specs.declared.meaning.NameMeaning.{NameMeaning}
use Rattle.name_meanings.specs.declared.meaning.NameMeaning.TheVariants as a
use Rattle.name_meanings.specs.Meanings.{meaning, selected, named_by, behind_on}

-- ---- a prefix that no dot stands behind; a class or a type parameter in the place of a value

abbrev pub is_before_dot : Use → Bool
is_before_dot u.ReadBeforeDot = true
is_before_dot _ = false

abbrev pub is_assigned : Use → Bool
is_assigned u.Assigned = true
is_assigned _ = false

-- Before a dot a class may stand, and a type parameter may not. Where it is assigned to, neither is in the place of a value.
abbrev pub is_misused : Meaning → Use → Bool
is_misused (m.Named (n.Prefix k)) how = not (is_before_dot how)
is_misused (m.Named (n.Class k)) how = not (is_before_dot how || is_assigned how)
is_misused m.TypeParameter how = not (is_assigned how)
is_misused means how = false

abbrev pub is_misused_alone : NameMeaning → Use → Bool
is_misused_alone (a.Beyond means) how = is_misused means how
is_misused_alone (a.Local l) how = false

-- the first token of the expression
abbrev pub selected_wrongly_at : Sources → ℕ → Surroundings → Receiver → Name → Use → Option ℕ
selected_wrongly_at p file s (r.Named q) y how = then_some (is_misused (selected p file s (r.Named q) side.Value y.text) how) q.span.from
selected_wrongly_at p file s before y how = None

abbrev pub misused_at : Sources → ℕ → Surroundings → Site → Option ℕ
misused_at p file s (x.Named y how) = then_some (is_misused_alone (meaning p file s side.Value y.text) how) y.span.from
misused_at p file s (x.Selected before y how) = selected_wrongly_at p file s before y how
misused_at p file s y = None

-- ---- a type behind `is`, `as` or `on` that is no class and not `dynamic`, or that a deferred prefix stands before

abbrev pub is_class : Option Named → Bool
is_class (Some (n.Class k)) = true
is_class named = false

abbrev pub is_class_behind : Sources → Name → Option Named → Bool
is_class_behind p y (Some (n.Prefix k)) = not (is_some (deferred p.scopes k)) && is_class (behind_on p k side.Value y.text)
is_class_behind p y named = false

abbrev pub is_type : Sources → ℕ → Surroundings → List Name → Bool
is_type p file s (y ∷ []) = is_class (named_by (meaning p file s side.Value y.text))
is_type p file s (q ∷ y ∷ []) = is_class_behind p y (named_by (meaning p file s side.Value q.text))
is_type p file s names = false

abbrev pub start : List Name → Option ℕ
start [] = None
start (y ∷ ys) = Some y.span.from

abbrev pub is_tested : Sources → ℕ → Surroundings → List Name → Bool
is_tested p file s names = is_dynamic names || is_type p file s names

-- the first token of the type
abbrev pub tested_at : Sources → ℕ → Surroundings → Site → Option ℕ
tested_at p file s (x.TypeTested names) = if is_tested p file s names then None else start names
tested_at p file s y = None

-- ---- `loadLibrary` and `.call`, where they are read and no call follows

abbrev pub is_load : Meaning → Bool
is_load (m.Load import) = true
is_load means = false

abbrev pub is_only_called : Sources → ℕ → Surroundings → Receiver → List ℕ → Bool
is_only_called p file s before text = bytes_eq text (codes "call") || is_load (selected p file s before side.Value text)

abbrev pub is_read : Use → Bool
is_read u.Read = true
is_read u.ReadBeforeDot = true
is_read u.Changed = true
is_read _ = false

-- the name behind the dot
abbrev pub read_wrongly_at : Sources → ℕ → Surroundings → Site → Option ℕ
read_wrongly_at p file s (x.Selected before y how) = then_some (is_read how && is_only_called p file s before y.text) y.span.from
read_wrongly_at p file s y = None
