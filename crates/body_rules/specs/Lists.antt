-- Parameters and arguments.
use Rattle.std.specs.Prelude.{ℕ, not, nat_lt, Option, None}
use Rattle.std.specs.Bool.{then_some}
use Rattle.dart_sites.specs.declared.sites.Site.{Site}
use Rattle.dart_sites.specs.declared.sites.Site.TheVariants as x

-- ---- more than 255 in a list; a default that is not null, a truth value, a whole number, one behind `-`, or a text without
-- interpolation

abbrev pub listed_at : Site → Option ℕ
listed_at (x.ParameterList at count) = then_some (nat_lt 255 count) at.from
listed_at (x.ArgumentList at count) = then_some (nat_lt 255 count) at.from
listed_at (x.Default at is_constant) = then_some (not is_constant) at.from
listed_at _ = None
