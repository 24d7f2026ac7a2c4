-- What the arrays of `Links` stand for.
use Rattle.std.specs.Prelude.{length}
use Rattle.index_links.specs.declared.links.Links.TheInside.{Inside}
use Rattle.index_links.specs.Lists.{Lists}
use Rattle.index_links.specs.Arrays.{Arrays, spelled, AreSpelled}

abbrev pub arrays_of : Inside → Arrays
arrays_of d = record { next = d.next.items; previous = d.previous.items; list = d.list.items; first = d.first.items; last = d.last.items }

abbrev pub lists_of : Inside → Lists
lists_of d = record { nodes = length d.next.items; lists = spelled (arrays_of d) }

-- the arrays spell the lists that one finds along their links
abbrev pub IsLinked : Inside → Type 0
IsLinked d = AreSpelled (arrays_of d) (spelled (arrays_of d))
