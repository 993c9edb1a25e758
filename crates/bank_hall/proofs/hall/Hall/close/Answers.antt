use Rattle.std.proofs.Common.{[], ◌∷◌, map, sym, ap, ◌∙◌, subst}
use Rattle.std.specs.List.{All}
use Rattle.std.proofs.lemmas.List.{length-map}
use Rattle.std.proofs.lemmas.List.Elements.{All-weaker}
use Rattle.bank_hall.specs.Rows.{HasPassesOf, AreClosed}
use Rattle.bank_hall.specs.Halls.{IsHallPass, bank_state, bank_answer, bank_next, port_inbox, port_answer, port_next, keeper_state, keeper_answer, keeper_next}
use Rattle.bank_hall.proofs.EndLemmas.{row_callers, closed_counts, closed_row, RowTold, all_told}
use Rattle.bank_hall.proofs.hall.Hall.close.Goals as goal

pub close-requires : goal.close-requires
close-requires c =
    let hall = c.args.self in
    row_callers hall.banks _ (λ p. p.banks) c.args.passes.items _ (ap (λ h. h.banks) c.self.view_is) c.in_ok-callers.ensures.banks (All-weaker (IsHallPass hall) (λ p. HasPassesOf hall.banks p.banks) (λ p fits. fits.banks) c.args.passes.items c.requires.fit) c.requires.banks_shared

pub close-requires-2 : goal.close-requires-2
close-requires-2 c =
    let hall = c.args.self in
    row_callers hall.ports _ (λ p. p.ports) c.args.passes.items _ (ap (λ h. h.ports) c.self.view_is) c.in_ok-callers.ensures.ports (All-weaker (IsHallPass hall) (λ p. HasPassesOf hall.ports p.ports) (λ p fits. fits.ports) c.args.passes.items c.requires.fit) c.requires.ports_shared

pub close-requires-3 : goal.close-requires-3
close-requires-3 c =
    let hall = c.args.self in
    row_callers hall.keeper _ (λ p. p.keeper) c.args.passes.items _ (ap (λ h. h.keeper) c.self.view_is) c.in_ok-callers.ensures.keeper (All-weaker (IsHallPass hall) (λ p. HasPassesOf hall.keeper p.keeper) (λ p fits. fits.keeper) c.args.passes.items c.requires.fit) c.requires.keeper_shared

pub only-keeper-requires-clause-one : goal.only-keeper-requires-clause-one
only-keeper-requires-clause-one c = (closed_counts keeper_state keeper_answer keeper_next _ _ _ c.in_ok-keepers.ensures.closed).0 ∙ c.self.invariant

pub only-keeper-requires-clause-history : goal.only-keeper-requires-clause-history
only-keeper-requires-clause-history c = sym (length-map c.in_ok-keepers.keeper_calls.items (λ h. h.items)) ∙ (closed_counts keeper_state keeper_answer keeper_next _ _ _ c.in_ok-keepers.ensures.closed).1 ∙ c.self.invariant

pub returns-clause-banks : goal.returns-clause-banks
returns-clause-banks c =
    closed_row bank_state bank_answer bank_next _ _ _ _ c.requires.banks_shared (subst (λ ts. AreClosed bank_state bank_answer bank_next ts c.in_ok-banks.banks.items (map (λ h. h.items) c.in_ok-banks.bank_calls.items)) (ap (λ h. h.banks) c.self.view_is) c.in_ok-banks.ensures.closed)

pub returns-clause-ports : goal.returns-clause-ports
returns-clause-ports c =
    closed_row port_inbox port_answer port_next _ _ _ _ c.requires.ports_shared (subst (λ ts. AreClosed port_inbox port_answer port_next ts c.in_ok-ports.ports.items (map (λ h. h.items) c.in_ok-ports.port_calls.items)) (ap (λ h. h.ports) c.self.view_is) c.in_ok-ports.ensures.closed)

pub returns-clause-keeper : goal.returns-clause-keeper
returns-clause-keeper c =
    let keeper = c.only-keeper.result.0 in
    let hall = subst (λ ts. AreClosed keeper_state keeper_answer keeper_next ts c.in_ok-keepers.keepers.items (map (λ h. h.items) c.in_ok-keepers.keeper_calls.items)) (ap (λ h. h.keeper) c.self.view_is) c.in_ok-keepers.ensures.closed in
    let object = subst (λ os. AreClosed keeper_state keeper_answer keeper_next c.args.self.keeper os (map (λ h. h.items) c.in_ok-keepers.keeper_calls.items)) c.only-keeper.ensures.keeper hall in
    closed_row keeper_state keeper_answer keeper_next _ _ _ _ c.requires.keeper_shared (subst (λ hs. AreClosed keeper_state keeper_answer keeper_next c.args.self.keeper (keeper ∷ []) hs) c.only-keeper.ensures.history object)

pub returns-clause-told : goal.returns-clause-told
returns-clause-told c =
    let bank_calls = map (λ h. h.items) c.in_ok-banks.bank_calls.items in
    let port_calls = map (λ h. h.items) c.in_ok-ports.port_calls.items in
    let keeper_calls = map (λ h. h.items) c.in_ok-keepers.keeper_calls.items in
    let callers = c.in_ok-callers.ensures in
    let told_banks = subst (All (RowTold bank_calls)) callers.banks c.in_ok-banks.ensures.told in
    let told_ports = subst (All (RowTold port_calls)) callers.ports c.in_ok-ports.ensures.told in
    let told_keeper = subst (λ hs. All (RowTold hs) (map (λ p. p.keeper) c.args.passes.items)) c.only-keeper.ensures.history (subst (All (RowTold keeper_calls)) callers.keeper c.in_ok-keepers.ensures.told) in
    all_told c.args.self bank_calls port_calls c.only-keeper.result.1.items c.args.passes.items c.requires.fit told_banks told_ports told_keeper
