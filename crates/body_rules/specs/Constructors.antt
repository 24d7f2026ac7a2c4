-- What a constructor calls before its body.
use Rattle.std.specs.Prelude.{ℕ, Bool, true, false, not, ◌||◌, nat_lt, length, filter, Option, None}
use Rattle.std.specs.Bool.{then_some}
use Rattle.dart_grammar.specs.declared.declarations.Initialiser.{Initialiser}
use Rattle.dart_grammar.specs.declared.declarations.Initialiser.TheVariants as i
use Rattle.dart_sites.specs.declared.sites.Site.{Site}
use Rattle.dart_sites.specs.declared.sites.Site.TheVariants as x
use Rattle.dart_sites.specs.declared.surroundings.Within.{Within}
use Rattle.dart_sites.specs.declared.surroundings.Within.TheVariants as w
use Rattle.dart_sites.specs.declared.surroundings.Surroundings.{Surroundings}

-- ---- a super call with something behind it, or with another one beside it

abbrev pub is_super_call : Initialiser → Bool
is_super_call (i.Super at y args) = true
is_super_call (i.Field at y a) = false

abbrev pub has_several : Within → Bool
has_several (w.ConstructorHead f) = nat_lt 1 (length (filter is_super_call f.initialisers))
has_several _ = false

abbrev pub super_call_at : Surroundings → Site → Option ℕ
super_call_at s (x.SuperInitialiser at y count is_last) = then_some (not is_last || has_several s.within) at.from
super_call_at s _ = None
