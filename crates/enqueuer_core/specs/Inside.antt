-- What the fields of a desk stand for.
use Rattle.std.specs.Prelude.{◌≡◌, length}
use Rattle.index_links.specs.Lists.{nodes_in}
use Rattle.enqueuer_core.specs.declared.desk.Desk.TheInside.{Inside}
use Rattle.enqueuer_core.specs.Core.{State, IsState}
use Rattle.enqueuer_core.specs.Hints.{AreHints}

abbrev pub state_of : Inside → State
state_of d = record { shape = d.shape; roots = d.roots; world = d.world; pending = nodes_in d.pending 0; settled = d.settled.items; held = d.held.items; history = d.history.entries.items }

-- it is a state of the core, the worklist is one list over the members, and the hints miss no reader
pub record IsDesk (d : Inside) : Type 0 where
  pub state : IsState (state_of d)
  pub nodes : d.pending.nodes ≡ d.shape.members
  pub lists : length d.pending.lists ≡ 1
  pub hints : AreHints d.shape d.settled.items d.readers.items d.marks.items
