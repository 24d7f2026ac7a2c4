-- What a library declares, declaration by declaration.
use Rattle.std.specs.Prelude.{ℕ, ◌+◌, Bool, not, if◌then◌else◌, List, [], ◌∷◌}
use Rattle.dart_grammar.specs.declared.trees.Name.{Name}
use Rattle.dart_program.specs.Declares.{Declared}
use Rattle.library_scopes.specs.declared.named.Named.TheVariants as n
use Rattle.library_scopes.specs.declared.reading.Declaring.{Declaring}
use Rattle.library_scopes.specs.declared.reading.Numbers.{Numbers}
use Rattle.library_scopes.specs.Names.{with_name}
use Rattle.library_scopes.specs.Libraries.{owns, with_values, with_setters, counted_all}

-- one more name
abbrev pub declared_one : Declaring → Name → Bool → Bool → Bool → Declaring
declared_one s x is_class is_value is_setter =
    let named = if is_class then n.Class s.numbers.classes else n.Member s.numbers.members in
    record {
      values = if is_value then with_name x.text named s.values else s.values;
      setters = if is_setter then with_name x.text named s.setters else s.setters;
      numbers = if is_class then record s.numbers { classes = s.numbers.classes + 1 } else record s.numbers { members = s.numbers.members + 1 };
    }

-- all of these
abbrev pub declared_all : Declaring → List Declared → Declaring
declared_all s ds = record { values = with_values (owns s.numbers ds) s.values; setters = with_setters (owns s.numbers ds) s.setters; numbers = counted_all s.numbers ds }
