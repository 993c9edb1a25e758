-- What workers leave of a round is a run of the machine.
use Rattle.std.proofs.Common.{◌≡◌, ℕ, ◌+◌, ◌<◌, ◌≤◌, List, [], ◌∷◌, ◌++◌, length, map, Some, slice_get, All, Vec, Global, refl, sym, ap, subst, ◌∙◌, arith}
use Rattle.std.specs.Prelude.{filter_map, AllPairs, IsPermutation}
use Rattle.std.specs.List.{range_with_len}
use Rattle.std.proofs.lemmas.List.{map-append}
use Rattle.std.proofs.lemmas.Nat.{mul-le}
use Rattle.std.proofs.lemmas.List.Sorted.{IsPermutation-refl, IsPermutation-sym, All-permutation}
use Rattle.std.proofs.lemmas.List.FromFn.{length-range_with_len}
use Rattle.std.proofs.lemmas.Option.{slice_get_within}
use Rattle.dn_base.specs.declared.ids.CoreId.{CoreId}
use Rattle.dn_base.specs.declared.ids.BankId.{BankId}
use Rattle.rv_core.specs.declared.ending.TaskEnd.{TaskEnd}
use Rattle.message_net.specs.declared.message.Mail.{Mail}
use Rattle.message_net.specs.declared.event.Event.{Event}
use Rattle.message_net.specs.declared.actor.Actor.{Actor}
use Rattle.message_net.specs.declared.actor.Actor.TheVariants.{Core, Bank, Keeper}
use Rattle.grant_log.specs.declared.log.Stamped.{Stamped}
use Rattle.grant_log.specs.Log.{AreLogs, IsMerge}
use Rattle.registration_protocol.specs.Node.{Setting}
use Rattle.machine_rules.specs.State.{State}
use Rattle.machine_rules.specs.Runs.{after}
use Rattle.machine_rules.specs.Sound.{IsMachine, rounds}
use Rattle.dn_machine.specs.Kept.{Made, IsKept}
use Rattle.dn_machine.specs.Parts.{IsReordered}
use Rattle.dn_machine.proofs.PartsLemmas.{kept-run, kept-reordered}
use Rattle.host_workers.specs.Members.{IsIn}
use Rattle.host_workers.specs.Steps.{Done}
use Rattle.host_workers.specs.Acts.{notes_by}
use Rattle.host_workers.specs.Beginnings.{AllHaveActed}
use Rattle.host_workers.specs.Unspent.{AreUnspent}
use Rattle.host_workers.specs.Owners.{AreOwners}
use Rattle.host_workers.specs.Entries.{AreAnswers, AreGivenMails}
use Rattle.host_workers.specs.NextNumbers.{AreNumbersLow}
use Rattle.host_workers.specs.Rounds as rules
use Rattle.host_workers.specs.Rounds.{owner, actors, core_at, bank_at, mail_in, noted_event, events_of, end_of_done, IsReached, IsJoined, IsRoundOf, AreInboxes}
use Rattle.host_workers.proofs.Mapped.{long-map, map-map, same-places}
use Rattle.host_workers.proofs.MachineParts.{there}
use Rattle.host_workers.proofs.MachineMoves.{reached-inside}
use Rattle.host_workers.proofs.Reaching.{reached-machine, reached-run, reached-few, most-rounds}
use Rattle.host_workers.proofs.RoundRuns.{round-runs}
use Rattle.host_workers.proofs.Beginning.{all-acted}
use Rattle.host_workers.proofs.NeverSpent.{never-spent}
use Rattle.host_workers.proofs.Owning.{have-owners}
use Rattle.host_workers.proofs.Telling.{answers-told, mails-given}
use Rattle.host_workers.proofs.MailsSent.{numbers-low}
use Rattle.host_workers.specs.declared.finishing.Finished.{Finished}
use Rattle.host_workers.specs.Ends.{IsStampedBefore, AreEndsOf}
use Rattle.host_workers.specs.Inboxes.{inboxes_of}
use Rattle.host_workers.specs.Opening.{StandsFor}
use Rattle.host_workers.specs.MadeRounds.{IsMadeRound}
use Rattle.host_workers.specs.Rosters.{core_log, core_ends, bank_log, logs_of}
use Rattle.host_workers.specs.Finishing.{IsRoundLeft}
use Rattle.host_workers.proofs.HallObjects.{mapped-at, range-at, banks-long, ports-long, inboxes-long}
use Rattle.host_workers.proofs.FirstInboxes.{first-began, first-addressed}
use Rattle.host_workers.proofs.Leaving.{all-left}
use Rattle.host_workers.proofs.Begun.{have-begun}
use Rattle.host_workers.proofs.RoundEnds.{ends-are}
use Rattle.host_workers.proofs.Workers.{core-went, bank-noted, keeper-noted}
use Rattle.host_workers.proofs.Logs.{log_of, are-logs, merged-is, rises-strictly}
use Rattle.host_workers.proofs.Together as together
use Rattle.host_workers.proofs.Together.{same-core}

-- a list by the numbers of its places
listed : {A B : Type 0} (g : A → B) (h : ℕ → B) (xs : List A) (n : ℕ) → length xs ≡ n → ((i : ℕ) (x : A) → slice_get xs i ≡ Some x → g x ≡ h i) → map g xs ≡ map h (range_with_len 0 n)
listed g h xs n long each =
    same-places (map g xs) (map h (range_with_len 0 n)) (long-map g xs ∙ (long ∙ sym (long-map h (range_with_len 0 n) ∙ length-range_with_len 0 n)))
    (λ i below.
    let at = there xs i (subst (λ m. i < m) (long-map g xs) below) in
    let small : i < n = subst (λ m. i < m) (long-map g xs ∙ long) below in
    mapped-at g xs i at.0 at.1 ∙ (ap Some (each i at.0 at.1) ∙ sym (mapped-at h (range_with_len 0 n) i i (range-at n i small))))

module _ (S M : State) (made workers : ℕ) (f : Finished) (left : IsRoundLeft S M made workers f) where
  abbrev C : Setting
  C = M.setting

  abbrev T : State
  T = together.T S M made workers f left

  abbrev pub round : List Stamped → rules.Round
  round merged = together.round_with S M made workers f left merged

  abbrev log : Actor → List Stamped
  log a = log_of C (round []) a

  core-logs : map core_log left.finished.roster.cores ≡ map (λ i. log (core_at i)) (range_with_len 0 C.shape.cores)
  core-logs =
      let whole = together.whole S M made workers f left in
      let now = together.whole-then S M made workers f left in
      listed core_log (λ i. log (core_at i)) left.finished.roster.cores C.shape.cores now.core_count (λ i p at.
      let o = there left.opened.roster.cores i (subst (λ n. i < n) (now.core_count ∙ sym whole.core_count) (slice_get_within left.finished.roster.cores i p at)) in
      let is : o.0.core ≡ record { 0 = i } = same-core o.0.core (record { 0 = i }) (whole.core_at i o.0 o.1) in
      let went = core-went C left.hall workers left.opened.roster left.finished.roster _ _ _ left.some whole now (together.acts S M made workers f left) (together.each S M made workers f left) i o.0 p o.1 at (together.owns S M made workers f left (Core o.0.core)) in
      went.log ∙ (ap (λ l. l ++ notes_by C.shape (Core o.0.core) (together.work S M made workers f left (owner workers (Core o.0.core)))) (left.opened.fresh.cores i o.0 o.1).log
      ∙ ap (λ (c : CoreId). log (Core c)) is))

  bank-logs : map bank_log left.finished.roster.banks ≡ map (λ i. log (bank_at i)) (range_with_len 0 C.shape.banks)
  bank-logs =
      let whole = together.whole S M made workers f left in
      let now = together.whole-then S M made workers f left in
      listed bank_log (λ i. log (bank_at i)) left.finished.roster.banks C.shape.banks now.bank_count (λ i d at.
      let b = there left.opened.roster.banks i (subst (λ n. i < n) (now.bank_count ∙ sym whole.bank_count) (slice_get_within left.finished.roster.banks i d at)) in
      let is : b.0.bank ≡ record { 0 = i } = ap (λ (n : ℕ). record { 0 = n }) (whole.bank_at i b.0 b.1) in
      bank-noted C left.hall workers left.opened.roster left.finished.roster _ _ _ left.some whole now (together.acts S M made workers f left) (together.each S M made workers f left) i b.0 d b.1 at (together.owns S M made workers f left (Bank b.0.bank))
      ∙ (ap (λ l. l ++ notes_by C.shape (Bank b.0.bank) (together.work S M made workers f left (owner workers (Bank b.0.bank)))) (left.opened.fresh.logs i b.0 b.1)
      ∙ ap (λ (c : BankId). log (Bank c)) is))

  keeper-log-is : left.finished.roster.keeper ≡ log Keeper
  keeper-log-is =
      let whole = together.whole S M made workers f left in
      let now = together.whole-then S M made workers f left in
      keeper-noted C left.hall workers left.opened.roster left.finished.roster _ _ _ left.some whole now (together.acts S M made workers f left) (together.each S M made workers f left) (together.owns S M made workers f left Keeper)
      ∙ ap (λ l. l ++ notes_by C.shape Keeper (together.work S M made workers f left 0)) left.opened.fresh.keeper

  -- the logs are those of all actors
  logs-are : logs_of left.finished.roster ≡ map log (actors C)
  logs-are =
      ap (λ l. l ++ (map bank_log left.finished.roster.banks ++ left.finished.roster.keeper ∷ [])) (core-logs ∙ sym (map-map log core_at (range_with_len 0 C.shape.cores)))
      ∙ (ap (λ l. map log (map core_at (range_with_len 0 C.shape.cores)) ++ (l ++ left.finished.roster.keeper ∷ [])) (bank-logs ∙ sym (map-map log bank_at (range_with_len 0 C.shape.banks)))
      ∙ (ap (λ k. map log (map core_at (range_with_len 0 C.shape.cores)) ++ (map log (map bank_at (range_with_len 0 C.shape.banks)) ++ k ∷ [])) keeper-log-is
      ∙ sym (map-append log (map core_at (range_with_len 0 C.shape.cores)) (map bank_at (range_with_len 0 C.shape.banks) ++ Keeper ∷ [])
      ∙ ap (λ l. map log (map core_at (range_with_len 0 C.shape.cores)) ++ l) (map-append log (map bank_at (range_with_len 0 C.shape.banks)) (Keeper ∷ [])))))

  machine-first : IsMachine S
  machine-first = reached-machine C S left.stands.reached

  setting-first : S.setting ≡ C
  setting-first = sym (together.same-setting S M made workers f left)

  pub logs-may-merge : (logs : List (List Stamped)) → logs ≡ logs_of left.finished.roster → AreLogs logs
  logs-may-merge logs are = subst AreLogs (sym (are ∙ logs-are)) (are-logs C S T (round []) left.some (together.worked S M made workers f left []) (together.closed S M made workers f left []) machine-first setting-first)

  -- ---- the mails in flight

  flying-inside : All (λ (m : Mail). IsIn C m.to) M.mails
  flying-inside = All-permutation (λ (m : Mail). IsIn C m.to) S.mails M.mails left.stands.same.mails (reached-inside C S left.stands.reached)

  ports-turns : length left.hall.ports ≡ C.shape.cores
  ports-turns =
      let first : length left.opened.inboxes.cores ≡ C.shape.cores = ap length left.opened.first.cores ∙ (long-map _ (range_with_len 0 C.shape.cores) ∙ length-range_with_len 0 C.shape.cores) in
      sym (long-map _ left.hall.ports) ∙ (ap length left.opened.opened.ports_shared.opened ∙ (ports-long _ _ _ _ _ _ _ left.opened.hold ∙ first))

  cores-long : length (inboxes_of f.objects.inboxes).cores ≡ C.shape.cores
  cores-long = sym (ports-long _ _ _ _ _ _ _ left.finished.hold) ∙ (left.finished.ports_closed.object_count ∙ ports-turns)

  banks-in-long : length (inboxes_of f.objects.inboxes).banks ≡ C.shape.banks
  banks-in-long = inboxes-long _ _ _ _ _ _ _ left.finished.hold ∙ ((together.alike S M made workers f left).banks ∙ (machine-first.banks ∙ ap (λ (D : Setting). D.shape.banks) setting-first))

  -- there is one history for each bank and for each port
  banks-out-long : length f.banks.items ≡ C.shape.banks
  banks-out-long =
      let objects : length left.finished.objects.banks ≡ C.shape.banks = banks-long _ _ _ _ _ _ _ left.finished.hold ∙ ((together.alike S M made workers f left).banks ∙ (machine-first.banks ∙ ap (λ (D : Setting). D.shape.banks) setting-first)) in
      sym (long-map _ f.banks.items) ∙ (left.finished.banks_closed.history_count ∙ (sym left.finished.banks_closed.object_count ∙ objects))

  ports-out-long : length f.ports.items ≡ C.shape.cores
  ports-out-long = sym (long-map _ f.ports.items) ∙ (left.finished.ports_closed.history_count ∙ ports-turns)

  inboxes : (merged : List Stamped) → AreInboxes C S T (round merged)
  inboxes merged = record {
    began = first-began C M.mails S.mails flying-inside left.stands.same.mails;
    addressed = λ a within. first-addressed M.mails a;
    left = subst (λ ps. IsPermutation (map mail_in ps) T.mails) (sym (all-left C (inboxes_of f.objects.inboxes) cores-long banks-in-long)) (IsPermutation-refl T.mails);
  }

  pub joined : (merged : List Stamped) → IsMerge (logs_of left.finished.roster) merged → IsJoined C S T (round merged)
  joined merged merge = record {
    some = left.some;
    alike = together.alike S M made workers f left;
    inboxes = inboxes merged;
    closed = together.closed S M made workers f left merged;
    worked = together.worked S M made workers f left merged;
    merged = merged-is C S T (round []) left.some (together.worked S M made workers f left []) (together.closed S M made workers f left []) machine-first setting-first merged (subst (λ logs. IsMerge logs merged) logs-are merge);
  }

  pub strictly : (merged : List Stamped) → IsMerge (logs_of left.finished.roster) merged → AllPairs IsStampedBefore merged
  strictly merged merge = rises-strictly C S T (round []) left.some (together.worked S M made workers f left []) (together.closed S M made workers f left []) machine-first setting-first merged (subst (λ logs. IsMerge logs merged) logs-are merge)

  module _ (merged : List Stamped) (merge : IsMerge (logs_of left.finished.roster) merged) where
    pub run : IsRoundOf C S T (round merged)
    run = round-runs C S T (round merged) left.stands.reached (joined merged merge)

    abbrev events : List Event
    events = events_of merged

    pub ends-told : AreEndsOf merged (map core_ends left.finished.roster.cores) run.told
    ends-told = ends-are S M made workers f left merged (joined merged merge) (strictly merged merge) run.told run.tells

    after-reached : IsReached C (after S events)
    after-reached = reached-run C S events left.stands.reached run.run

    pub after-stands : StandsFor (after S events) T
    after-stands = record { reached = after-reached; same = record { mails = run.mails; rest = run.rest } }

    pub few-events : length merged ≤ 25169664
    few-events = subst (λ n. n ≤ 25169664) (long-map noted_event merged) (reached-few C S events left.stands.reached run.run)

    -- the machine may be joined again
    pub kept-then : IsKept T (made + length merged)
    kept-then =
        let back : IsReordered M S = record { mails = IsPermutation-sym S.mails M.mails left.stands.same.mails; rest = back-rest } in
        let first : IsKept S made = kept-reordered M S made left.kept back in
        let now : IsKept (after S events) (made + length events) = kept-run S made events first run.run in
        subst (λ n. IsKept T (made + n)) (long-map noted_event merged) (kept-reordered (after S events) T (made + length events) now after-stands.same) where
          back-rest : S ≡ record M { mails = S.mails }
          back-rest = ap (λ (U : State). record U { mails = S.mails }) (sym left.stands.same.rest)

    pub room-then : length T.mails < 4294967295
    room-then =
        let letters = mul-le C.shape.cores (rounds T) 16 65 left.kept.most (most-rounds T kept-then.left.ready kept-then.sound.within) in
        omega (arith, kept-then.sound.mails, letters, few-events, left.far)

    pub round-acts : AllHaveActed C S (round merged)
    round-acts = all-acted C S T (round merged) left.stands.reached left.kept.most (joined merged merge) (have-begun S M made workers f left merged)

    pub round-unspent : AreUnspent C S (round merged)
    round-unspent = never-spent C S T (round merged) left.stands.reached left.kept.most (joined merged merge)

    pub round-owners : AreOwners (round merged)
    round-owners = have-owners C S T (round merged) left.some (joined merged merge).worked

    pub round-entries : AreAnswers C (round merged)
    round-entries = answers-told C S T (round merged) (joined merged merge)

    pub round-mails : AreGivenMails C (round merged)
    round-mails = mails-given C S T (round merged) (joined merged merge)

    pub round-numbers : AreNumbersLow C S T (round merged)
    round-numbers = numbers-low C S T (round merged) left.stands.reached (joined merged merge)

  -- the round that is handed back
  pub made-round : (merged : Vec Stamped Global) (ends : Vec TaskEnd Global) (machine : Made) → IsMerge (logs_of left.finished.roster) merged.items → machine.state ≡ T → machine.made ≡ made + length merged.items
      → ((told : List Done) → AreEndsOf merged.items (map core_ends left.finished.roster.cores) told → ends.items ≡ filter_map end_of_done told)
      → IsMadeRound S M made workers (record { machine = machine; merged = merged; ends = ends; banks = f.banks; ports = f.ports; keeper = f.keeper })
  made-round merged ends machine merge is count told = record {
    round = round merged.items;
    workers_are = refl;
    merged = refl;
    order = merge.rising;
    bank_count = banks-out-long;
    port_count = ports-out-long;
    banks = λ b. refl;
    ports = λ c. refl;
    keeper = refl;
    began = λ a. refl;
    joined = subst (λ U. IsJoined C S U (round merged.items)) (sym is) (joined merged.items merge);
    run = subst (λ U. IsRoundOf C S U (round merged.items)) (sym is) (run merged.items merge);
    stands = subst (StandsFor (after S (events_of merged.items))) (sym is) (after-stands merged.items merge);
    made_are = count;
    ends = told (run merged.items merge).told (ends-told merged.items merge) ∙ (run merged.items merge).tells.ends;
    acted = round-acts merged.items merge;
    unspent = round-unspent merged.items merge;
    owners = round-owners merged.items merge;
    entries = round-entries merged.items merge;
    port_mails = round-mails merged.items merge;
    numbers = subst (λ U. AreNumbersLow C S U (round merged.items)) (sym is) (round-numbers merged.items merge);
  }
