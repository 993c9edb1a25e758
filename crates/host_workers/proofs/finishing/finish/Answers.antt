use Rattle.std.proofs.Common.{◌≡◌, ◌≤◌, length, map, [], ◌∷◌, sym, ap, subst, ◌∙◌}
use Rattle.std.specs.List.{All}
use Rattle.std.proofs.lemmas.Result.{IfOk-weaker}
use Rattle.bank_hall.specs.Halls.{bank_state, bank_answer, bank_next, port_inbox, port_answer, port_next, keeper_state, keeper_answer, keeper_next}
use Rattle.bank_hall.specs.Closing.{IsClosedRow, IsToldPass}
use Rattle.host_workers.proofs.Mapped.{long-map}
use Rattle.host_workers.specs.Rosters.{AreCrewsOf}
use Rattle.host_workers.specs.Opening.{crew_of, pass_of}
use Rattle.host_workers.specs.Finishing.{IsFinished}
use Rattle.host_workers.proofs.finishing.finish.Goals as goal

pub gather-requires-clause-some : goal.gather-requires-clause-some
gather-requires-clause-some c = subst (λ n. 1 ≤ n) (sym (ap length c.in_ok-passes.ensures.crews ∙ long-map crew_of c.args.jobs.items)) c.requires.some

pub returns : goal.returns
returns c =
    let end = c.in_ok-end.end in
    let parts = end.parts in
    let jobs = c.args.jobs.items in
    let long : length c.in_ok-passes.passes.items ≡ length jobs = ap length c.in_ok-passes.ensures.passes ∙ long-map pass_of jobs in
    let count : length c.in_ok-passes.crews.items ≡ length jobs = ap length c.in_ok-passes.ensures.crews ∙ long-map crew_of jobs in
    let given = c.requires.crews in
    let crews = subst (λ n. AreCrewsOf n given.0 c.in_ok-passes.crews.items) (sym count) (subst (AreCrewsOf (length jobs) given.0) (sym c.in_ok-passes.ensures.crews) given.2) in
    let apart = c.in_ok-roster.ensures given.0 given.1 crews in
    let banks_closed = subst (λ n. IsClosedRow bank_state bank_answer bank_next c.args.hall.banks n parts.banks.items (map (λ h. h.items) end.banks.items)) long c.in_ok-end.ensures.banks in
    let ports_closed = subst (λ n. IsClosedRow port_inbox port_answer port_next c.args.hall.ports n parts.ports.items (map (λ h. h.items) end.ports.items)) long c.in_ok-end.ensures.ports in
    let keeper_closed = subst (λ n. IsClosedRow keeper_state keeper_answer keeper_next c.args.hall.keeper n (parts.keeper ∷ []) (end.keeper.items ∷ [])) long c.in_ok-end.ensures.keeper in
    let told = subst (All (IsToldPass (map (λ h. h.items) end.banks.items) (map (λ h. h.items) end.ports.items) end.keeper.items)) c.in_ok-passes.ensures.passes c.in_ok-end.ensures.told in
    IfOk-weaker c.finished_of.result _ (IsFinished c.args.shape.cores c.args.shape.banks c.args.hall jobs)
    (λ f is. record {
      objects = record { banks = parts.banks.items; ports = parts.ports.items; keeper = parts.keeper };
      banks_closed = subst (λ v. IsClosedRow bank_state bank_answer bank_next c.args.hall.banks (length jobs) parts.banks.items (map (λ h. h.items) v.items)) (sym is.banks) banks_closed;
      ports_closed = subst (λ v. IsClosedRow port_inbox port_answer port_next c.args.hall.ports (length jobs) parts.ports.items (map (λ h. h.items) v.items)) (sym is.ports) ports_closed;
      keeper_closed = subst (λ v. IsClosedRow keeper_state keeper_answer keeper_next c.args.hall.keeper (length jobs) (parts.keeper ∷ []) (v.items ∷ [])) (sym is.keeper) keeper_closed;
      told = rw (is.banks, is.ports, is.keeper) told;
      hold = is.hold;
      roster = given.0;
      whole = given.1;
      crews = given.2;
      nodes = ap (λ p. p.nodes.items) is.roster ∙ apart.nodes;
      next = ap (λ p. p.next.items) is.roster ∙ apart.next;
      ends = ap (λ p. map (λ e. e.items) p.ends.items) is.roster ∙ apart.ends;
      logs = ap (λ p. map (λ l. l.items) p.logs.items) is.roster ∙ apart.logs;
    })
    c.finished_of.ensures
