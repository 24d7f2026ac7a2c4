-- How values are told apart.
use Rattle.std.specs.Prelude.{ℕ, Bool, List, refl, Option}
use Rattle.std.specs.Coded.{Coded, code_by, coded×, coded_ℕ, coded_bool, coded_list, coded_option}
use Rattle.type_masks.specs.Shapes.{coded_Shape}
use Rattle.world_state.specs.Worlds.{Facts, coded_Facts}
use Rattle.world_state.specs.Impacts.{coded_Fact, coded_Impact}
use Rattle.type_masks.specs.declared.shape.Shape.{Shape}
use Rattle.world_state.specs.declared.fact.Fact.{Fact}
use Rattle.world_state.specs.declared.impact.Impact.{Impact}
use Rattle.enqueuer_core.specs.declared.history.Entry.{Entry}
use Rattle.enqueuer_core.specs.Core.{State}

abbrev pub coded_Entry : Coded Entry
coded_Entry =
    code_by (ℕ × (Impact × (Bool × List Fact))) (coded× coded_ℕ (coded× coded_Impact (coded× coded_bool (coded_list coded_Fact))))
    (λ e. (e.worker, (e.impact, (e.whole, e.added)))) (λ p. record { worker = p.0; impact = p.1.0; whole = p.1.1.0; added = p.1.1.1 }) (λ _. refl)

abbrev pub coded_entries : Coded (List Entry)
coded_entries = coded_list coded_Entry

abbrev pub coded_State : Coded State
coded_State =
    code_by (Shape × (List Fact × (Facts × (List ℕ × (List (Option Impact) × (List (Option ℕ) × List Entry))))))
    (coded× coded_Shape (coded× (coded_list coded_Fact) (coded× coded_Facts (coded× (coded_list coded_ℕ) (coded× (coded_list (coded_option coded_Impact)) (coded× (coded_list (coded_option coded_ℕ)) coded_entries))))))
    (λ s. (s.shape, (s.roots, (s.world, (s.pending, (s.settled, (s.held, s.history)))))))
    (λ p. record { shape = p.0; roots = p.1.0; world = p.1.1.0; pending = p.1.1.1.0; settled = p.1.1.1.1.0; held = p.1.1.1.1.1.0; history = p.1.1.1.1.1.1 }) (λ _. refl)
