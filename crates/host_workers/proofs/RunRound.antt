-- A round from the machine to what it leaves.
use Rattle.std.proofs.Common.{◌≡◌, ℕ, ◌<◌, ◌≤◌, ◌==◌, List, length, map, get_or, Some, slice_get, All, refl, sym, ap, subst, ◌∙◌, arith}
use Rattle.std.specs.Prelude.{AllPairs, filter}
use Rattle.std.specs.List.{range_with_len}
use Rattle.std.proofs.lemmas.List.FromFn.{length-range_with_len}
use Rattle.std.proofs.lemmas.List.Kept.{AllPairs-filter}
use Rattle.std.proofs.lemmas.List.Sorted.{All-permutation}
use Rattle.std.proofs.lemmas.Option.{slice_get_within, slice_get-get_or}
use Rattle.message_net.specs.declared.message.Mail.{Mail}
use Rattle.registration_protocol.specs.Node.{Setting}
use Rattle.machine_rules.specs.State.{State, initial_state}
use Rattle.machine_rules.specs.Runs.{after}
use Rattle.machine_rules.specs.Sound.{IsMachine}
use Rattle.dn_machine.specs.Kept.{IsKept}
use Rattle.bank_hall.specs.Halls.{HallView, IsHallPass}
use Rattle.bank_hall.specs.Closing.{AreAllHallPasses}
use Rattle.host_workers.specs.Members.{IsIn}
use Rattle.host_workers.specs.Rounds.{owner}
use Rattle.host_workers.proofs.Mapped.{long-map, stands-map}
use Rattle.host_workers.proofs.MachineMoves.{reached-inside}
use Rattle.host_workers.proofs.MachineParts.{there}
use Rattle.host_workers.specs.declared.crew.BankLog.{BankLog}
use Rattle.host_workers.specs.declared.crew.Crew.{Crew}
use Rattle.host_workers.specs.declared.owned.Owned.{Owned}
use Rattle.host_workers.specs.declared.opening.Moving.{Moving}
use Rattle.host_workers.specs.declared.round.FixedParts.{FixedParts}
use Rattle.host_workers.specs.declared.working.Job.{Job}
use Rattle.host_workers.specs.Crews.{IsOwned, IsCrew, keeper_log}
use Rattle.host_workers.specs.Rosters.{RosterParts, IsRoster, AreCrewsOf, IsCrewOf, core_actor, bank_actor}
use Rattle.host_workers.specs.Opening.{StandsFor, IsMovingOf, IsInitialRound, crew_of, pass_of}
use Rattle.host_workers.specs.Finishing.{IsReadyJob, HaveDoneJobs}
use Rattle.host_workers.specs.MadeRounds.{fixed_setting, made_from_parts}
use Rattle.host_workers.proofs.Chosen.{taken-stands}
use Rattle.host_workers.proofs.HallObjects.{mapped-at, ports-long, banks-long}
use Rattle.host_workers.proofs.Passing.{more-same}
use Rattle.host_workers.proofs.Redealt.{IsBack, recrewed}
use Rattle.host_workers.proofs.Workers.{place-all, all-places}

-- a machine stands for the state to which the events lead that left it
pub stands-kept : (M : State) (made : ℕ) → IsKept M made → (S : State) × StandsFor S M
stands-kept M made kept =
    let left = kept.left in
    (after (initial_state M.setting) left.events, record { reached = record { ready = left.ready; before = left.events; run = left.run; leads = refl }; same = left.leads })

-- what moves in a machine is that of its state
pub moving-of : (S : State) (fixed : FixedParts) (moving : Moving) → StandsFor S (made_from_parts fixed moving).state → IsKept (made_from_parts fixed moving).state fixed.made
    → IsMovingOf fixed.shape (made_from_parts fixed moving).state moving
moving-of S fixed moving stands kept = record {
  machine = kept.sound.machine;
  shape_is = refl;
  some = kept.some;
  most = kept.most;
  few_banks = kept.left.ready.context.most_banks;
  nodes = refl;
  banks = refl;
  keeper = refl;
  mails = refl;
  numbers = refl;
  addressed = All-permutation (λ (m : Mail). IsIn (fixed_setting fixed) m.to) S.mails moving.pool.mails stands.same.mails (reached-inside (fixed_setting fixed) S stands.reached);
}

-- ---- what workers begin with

module _ (M : State) (made workers : ℕ) (hall : HallView) (jobs : List Job) (kept : IsKept M made) (some : 1 ≤ workers) (opened : IsInitialRound M.setting M workers hall jobs) where
  abbrev C : Setting
  C = M.setting

  machine : IsMachine M
  machine = kept.sound.machine

  whole : IsRoster C.shape.cores C.shape.banks opened.roster
  whole = subst (λ n. IsRoster n C.shape.banks opened.roster) machine.nodes opened.fresh.whole

  cores-rise : AllPairs (λ (a b : Owned). a.core.0 < b.core.0) opened.roster.cores
  cores-rise i j d before within =
      let first = whole.core_at i (get_or opened.roster.cores i d) (slice_get-get_or opened.roster.cores i d (omega (arith, before, within))) in
      let second = whole.core_at j (get_or opened.roster.cores j d) (slice_get-get_or opened.roster.cores j d within) in
      omega (arith, first, second, before)

  banks-rise : AllPairs (λ (a b : BankLog). a.bank.0 < b.bank.0) opened.roster.banks
  banks-rise i j d before within =
      let first = whole.bank_at i (get_or opened.roster.banks i d) (slice_get-get_or opened.roster.banks i d (omega (arith, before, within))) in
      let second = whole.bank_at j (get_or opened.roster.banks j d) (slice_get-get_or opened.roster.banks j d within) in
      omega (arith, first, second, before)

  crew-fits : (k : ℕ) (crew : Crew) → IsCrewOf workers opened.roster k crew → IsCrew C crew
  crew-fits k crew is = record {
    cores = subst (All (IsOwned C)) (sym is.cores) (all-places (IsOwned C) (filter (λ (o : Owned). owner workers (core_actor o) == k) opened.roster.cores) core-in);
    cores_rise = subst (AllPairs (λ (a b : Owned). a.core.0 < b.core.0)) (sym is.cores) (AllPairs-filter (λ (a b : Owned). a.core.0 < b.core.0) (λ (o : Owned). owner workers (core_actor o) == k) opened.roster.cores cores-rise);
    banks = subst (All (λ (b : BankLog). b.bank.0 < C.shape.banks)) (sym is.banks) (all-places (λ (b : BankLog). b.bank.0 < C.shape.banks) (filter (λ (b : BankLog). owner workers (bank_actor b) == k) opened.roster.banks) bank-in);
    banks_rise = subst (AllPairs (λ (a b : BankLog). a.bank.0 < b.bank.0)) (sym is.banks) (AllPairs-filter (λ (a b : BankLog). a.bank.0 < b.bank.0) (λ (b : BankLog). owner workers (bank_actor b) == k) opened.roster.banks banks-rise);
  }
    where
      core-in : (i : ℕ) (o : Owned) → slice_get (filter (λ (x : Owned). owner workers (core_actor x) == k) opened.roster.cores) i ≡ Some o → IsOwned C o
      core-in i o at =
          let from = taken-stands (λ (x : Owned). owner workers (core_actor x) == k) opened.roster.cores i o at in
          let number = whole.core_at from.0 o from.1 in
          let below = slice_get_within opened.roster.cores from.0 o from.1 in
          let fresh = opened.fresh.cores from.0 o from.1 in
          record { inside = omega (arith, number, below, whole.core_count); fits = (machine.node from.0 o.node fresh.node).fits }

      bank-in : (i : ℕ) (b : BankLog) → slice_get (filter (λ (x : BankLog). owner workers (bank_actor x) == k) opened.roster.banks) i ≡ Some b → b.bank.0 < C.shape.banks
      bank-in i b at =
          let from = taken-stands (λ (x : BankLog). owner workers (bank_actor x) == k) opened.roster.banks i b at in
          let number = whole.bank_at from.0 b from.1 in
          let below = slice_get_within opened.roster.banks from.0 b from.1 in
          omega (arith, number, below, whole.bank_count)

  hall-ports : length hall.ports ≡ C.shape.cores
  hall-ports =
      let first : length opened.inboxes.cores ≡ C.shape.cores = ap length opened.first.cores ∙ (long-map _ (range_with_len 0 C.shape.cores) ∙ length-range_with_len 0 C.shape.cores) in
      sym (long-map _ hall.ports) ∙ (ap length opened.opened.ports_shared.opened ∙ (ports-long _ _ _ _ _ _ _ opened.hold ∙ first))

  hall-banks : length hall.banks ≡ C.shape.banks
  hall-banks = sym (long-map _ hall.banks) ∙ (ap length opened.opened.banks_shared.opened ∙ (banks-long _ _ _ _ _ _ _ opened.hold ∙ machine.banks))

  pub ready-jobs : All (IsReadyJob C hall) jobs
  ready-jobs = all-places (IsReadyJob C hall) jobs (λ k job at. record {
    may = record {
      context = kept.left.ready.context;
      pass_is = place-all (IsHallPass hall) (map pass_of jobs) k job.pass opened.all.fit (mapped-at pass_of jobs k job at);
      ports = hall-ports;
      banks = hall-banks;
    };
    crew = crew-fits k job.crew (opened.crews.each k job.crew (mapped-at crew_of jobs k job at));
  })

  -- ---- what they leave

  module _ (dones : List Job) (done : HaveDoneJobs C hall jobs dones) where
    jobs-count : length jobs ≡ workers
    jobs-count = sym (long-map crew_of jobs) ∙ opened.crews.count

    pub dones-count : length dones ≡ workers
    dones-count = done.count ∙ jobs-count

    pub some-dones : 1 ≤ length dones
    some-dones = subst (λ n. 1 ≤ n) (sym dones-count) some

    passes-count : length (map pass_of jobs) ≡ length (map pass_of dones)
    passes-count = long-map pass_of jobs ∙ (sym done.count ∙ sym (long-map pass_of dones))

    pub passes-back : AreAllHallPasses hall (map pass_of dones)
    passes-back = record {
      fit = all-places (IsHallPass hall) (map pass_of dones) (λ k p at.
          let found = stands-map pass_of dones k p at in
          let job = there jobs k (subst (λ n. k < n) done.count (slice_get_within dones k found.0 found.1)) in
          subst (IsHallPass hall) found.2 (done.each k job.0 found.0 job.1 found.1).pass.0);
      banks_shared = subst (λ n. All (λ t. t.passes ≡ n) hall.banks) passes-count opened.all.banks_shared;
      ports_shared = subst (λ n. All (λ t. t.passes ≡ n) hall.ports) passes-count opened.all.ports_shared;
      keeper_shared = subst (λ n. All (λ t. t.passes ≡ n) hall.keeper) passes-count opened.all.keeper_shared;
    }

    pub crews-back : (roster : RosterParts) × IsRoster C.shape.cores C.shape.banks roster × AreCrewsOf (length dones) roster (map crew_of dones)
    crews-back =
        let again = recrewed C.shape.cores C.shape.banks workers opened.roster (map crew_of jobs) (map crew_of dones) some whole opened.crews (long-map crew_of dones ∙ dones-count) back in
        (again.0, again.1, subst (λ n. AreCrewsOf n again.0 (map crew_of dones)) (sym dones-count) again.2) where
          back : (k : ℕ) (b c : Crew) → slice_get (map crew_of jobs) k ≡ Some b → slice_get (map crew_of dones) k ≡ Some c → IsBack b c
          back k b c was is =
              let job = stands-map crew_of jobs k b was in
              let now = stands-map crew_of dones k c is in
              let did = done.each k job.0 now.0 job.1 now.1 in
              subst (λ x. IsBack x c) job.2 (subst (IsBack job.0.crew) now.2 (record { same = did.worked.work.crew.same; kept = more-same _ (keeper_log job.0.crew) (keeper_log now.0.crew) did.worked.work.crew.keeper }))
