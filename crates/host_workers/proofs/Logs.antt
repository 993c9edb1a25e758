-- The logs of a round: what was noted of each actor's events, and their merge.
use Rattle.std.proofs.Common.{◌≡◌, ◌≢◌, ℕ, ◌<◌, ◌≤◌, Bool, true, false, List, [], ◌∷◌, length, get_or, map, sym, ap, ◌∙◌, subst, arith}
use Rattle.std.specs.Prelude.{filter, All, AllPairs}
use Rattle.std.proofs.Math.Nat.{le-max_left}
use Rattle.std.proofs.lemmas.List.Elements.{All-nil, All-cons, All-map}
use Rattle.std.proofs.lemmas.List.Kept.{AllPairs-cons}
use Rattle.dn_base.specs.declared.ids.CoreId.{CoreId}
use Rattle.dn_base.specs.declared.ids.BankId.{BankId}
use Rattle.message_net.specs.declared.actor.Actor.{Actor}
use Rattle.message_net.specs.declared.actor.Actor.TheVariants.{Core, Bank, Keeper}
use Rattle.message_net.specs.Mail.{has_actor}
use Rattle.grant_log.specs.declared.log.Stamped.{Stamped}
use Rattle.grant_log.specs.Log.{IsLog, AreLogs, IsMerge, of_actor}
use Rattle.registration_protocol.specs.Node.{Setting}
use Rattle.machine_rules.specs.State.{State}
use Rattle.machine_rules.specs.Sound.{IsMachine}
use Rattle.machine_rules.specs.Flight.{bit}
use Rattle.host_workers.specs.Members.{Member, Deed, Handles, Makes, IsIn, member}
use Rattle.host_workers.specs.Steps.{Step, Done, stamp_of, deed_stamp, Goes}
use Rattle.host_workers.specs.Acts.{note_of, events_by, notes_by, steps_by}
use Rattle.host_workers.specs.Rounds.{Round, owner, actors, bank_at, bank_in, keeper_in, IsHallClosed, HaveWorked, IsMerged}
use Rattle.host_workers.proofs.Actors.{actor-once, all-inside, each-actor}
use Rattle.host_workers.proofs.Joining.{noted, bank-history, keeper-history}
use Rattle.host_workers.proofs.Numbers.{below-bound}
use Rattle.host_workers.proofs.Objects.{step_done, bank-part, keeper-part}
use Rattle.host_workers.proofs.Traces.{steps-tell}
use Rattle.host_workers.proofs.Weaving.{step_note}
use Rattle.host_workers.proofs.LogLists.{IsOf, pairs-mapped, differ, logs-apart, merge-all, merge-own, merge-rises, merge-strict}

-- what was noted of an actor's events in a round
abbrev pub log_of : Setting → Round → Actor → List Stamped
log_of C r a = notes_by C.shape a (r.work (owner r.workers a))

-- ---- the steps of an actor have rising stamps

later : (clock : ℕ) (deed : Deed) → clock < deed_stamp clock deed
later clock (Handles p) = omega (arith, le-max_left clock p.stamp)
later clock (Makes e) = omega arith

-- what a step notes is the actor's, and later than this
abbrev IsLater : Actor → ℕ → Step → Type 0
IsLater a clock s = (s.done.stamped.actor ≡ a) × (clock < stamp_of s)

goes-later : (C : Setting) (a : Actor) (clock : ℕ) (x : Member) (ss : List Step) (y : Member) → Goes C a clock x ss y → All (IsLater a clock) ss
goes-later C a clock x [] y goes = All-nil (IsLater a clock)
goes-later C a clock x (s ∷ ss) y goes =
    let stamp : stamp_of s ≡ deed_stamp clock s.deed = ap (λ (d : Done). d.stamped.stamp) goes.0.tells in
    let here : clock < stamp_of s = omega (arith, stamp, later clock s.deed) in
    let rest = goes-later C a (stamp_of s) _ ss y goes.1 in
    All-cons (IsLater a clock) s ss (ap (λ (d : Done). d.stamped.actor) goes.0.tells, here)
    (λ k d within. ((rest k d within).0, omega (arith, here, (rest k d within).1)))

abbrev IsSooner : Step → Step → Type 0
IsSooner s t = (s.done.stamped.actor ≡ t.done.stamped.actor) × (stamp_of s < stamp_of t)

goes-rise : (C : Setting) (a : Actor) (clock : ℕ) (x : Member) (ss : List Step) (y : Member) → Goes C a clock x ss y → AllPairs IsSooner ss
goes-rise C a clock x [] y goes = λ i j d before within. absurd (omega (arith, within))
goes-rise C a clock x (s ∷ ss) y goes =
    let own : s.done.stamped.actor ≡ a = ap (λ (d : Done). d.stamped.actor) goes.0.tells in
    let rest = goes-later C a (stamp_of s) _ ss y goes.1 in
    AllPairs-cons IsSooner s ss (λ k d within. (own ∙ sym (rest k d within).0, (rest k d within).1)) (goes-rise C a (stamp_of s) _ ss y goes.1)

abbrev IsLogOf : Actor → List Stamped → Type 0
IsLogOf a log = IsLog log × All (IsOf a) log

goes-log : (C : Setting) (a : Actor) (x : Member) (ss : List Step) (y : Member) → Goes C a 0 x ss y → IsLogOf a (map step_note ss)
goes-log C a x ss y goes = (
  pairs-mapped (λ (s t : Stamped). (s.actor ≡ t.actor) × (s.stamp < t.stamp)) step_note ss (goes-rise C a 0 x ss y goes),
  All-map (IsOf a) step_note ss (λ k d within. (goes-later C a 0 x ss y goes k d within).0),
)

-- no two actors of a machine are the same
pub actors-differ : (C : Setting) → AllPairs (λ a b. a ≢ b) (actors C)
actors-differ C = differ (actors C) (λ a. few (has_actor C.shape.cores C.shape.banks a) (actor-once C a)) where
  few : {n : ℕ} (t : Bool) → n ≡ bit t → n ≤ 1
  few true is = omega (arith, is)
  few false is = omega (arith, is)

module _ (C : Setting) (S T : State) (r : Round) (some : 1 ≤ r.workers) (worked : HaveWorked C S T r) (closed : IsHallClosed C S T r) (machine : IsMachine S) (setting : S.setting ≡ C) where
  -- what the steps of an actor tell is its log
  steps-log : (a : Actor) (x : Member) (ss : List Step) (y : Member) → Goes C a 0 x ss y → map step_done ss ≡ events_by C.shape a (r.work (owner r.workers a)) → IsLogOf a (log_of C r a)
  steps-log a x ss y goes told = subst (IsLogOf a) (noted ss ∙ ap (map note_of) told) (goes-log C a x ss y goes)

  core-log : (core : CoreId) → IsIn C (Core core) → IsLogOf (Core core) (log_of C r (Core core))
  core-log core inside =
      let acts = r.work (owner r.workers (Core core)) in
      steps-log (Core core) (member S (Core core)) (steps_by core acts) (member T (Core core)) (worked.cores core (below-bound core.0 C.shape.cores inside)) (steps-tell C.shape core acts)

  bank-log : (bank : BankId) → IsIn C (Bank bank) → IsLogOf (Bank bank) (log_of C r (Bank bank))
  bank-log bank inside =
      let c = closed.banks bank.0 (below-bound bank.0 C.shape.banks inside) in
      let number : Bank (record { 0 = c.first.bank }) ≡ Bank bank = ap (λ n. Bank (record { 0 = n })) (machine.bank bank.0 c.first c.was).bank in
      let part = bank-part C bank (r.histories.banks bank.0) (bank_in S bank.0 c.first (r.began (bank_at bank.0)) 0) (bank_in T bank.0 c.last (r.left (bank_at bank.0)) c.clock) number c.legal in
      steps-log (Bank bank) _ part.steps _ part.goes (part.told ∙ bank-history C S T r some worked bank)

  keeper-log : IsLogOf Keeper (log_of C r Keeper)
  keeper-log =
      let c = closed.keeper in
      let all : length S.keeper.arrived ≡ C.shape.cores = machine.cores ∙ ap (λ (x : Setting). x.shape.cores) setting in
      let part = keeper-part C r.histories.keeper (keeper_in S (r.began Keeper) 0) (keeper_in T (r.left Keeper) c.clock) all c.legal in
      steps-log Keeper _ part.steps _ part.goes (part.told ∙ keeper-history C S T r some worked)

  -- what was noted of each actor is a log, all its own
  pub log-rises : (a : Actor) → IsIn C a → IsLog (log_of C r a) × All (λ (e : Stamped). e.actor ≡ a) (log_of C r a)
  log-rises (Core core) inside = core-log core inside
  log-rises (Bank bank) inside = bank-log bank inside
  log-rises Keeper inside = keeper-log

  all-logs : All (λ a. IsLogOf a (log_of C r a)) (actors C)
  all-logs k d within = log-rises (get_or (actors C) k d) (all-inside C k d within)

  -- the logs are of different actors
  pub are-logs : AreLogs (map (log_of C r) (actors C))
  are-logs = logs-apart (log_of C r) (actors C) (actors-differ C) all-logs

  -- their merge is the one list of the round
  pub merged-is : (merged : List Stamped) → IsMerge (map (log_of C r) (actors C)) merged → IsMerged C (record r { merged = merged })
  merged-is merged merge = record {
    parts = each-actor C (λ a. filter (of_actor a) merged ≡ log_of C r a) (merge-own (log_of C r) (actors C) merged (actors-differ C) all-logs merge);
    inside = merge-all (log_of C r) (λ (e : Stamped). IsIn C e.actor) (actors C) merged within merge;
    rising = merge-rises (map (log_of C r) (actors C)) merged merge;
  }
    where
      within : All (λ a. All (λ (e : Stamped). IsIn C e.actor) (log_of C r a)) (actors C)
      within k d there i e here =
          let a = get_or (actors C) k d in
          ap (has_actor C.shape.cores C.shape.banks) ((all-logs k d there).1 i e here) ∙ all-inside C k d there

  -- the entries of one actor have rising stamps in it
  pub rises-strictly : (merged : List Stamped) → IsMerge (map (log_of C r) (actors C)) merged → AllPairs (λ (a b : Stamped). a.actor ≡ b.actor → a.stamp < b.stamp) merged
  rises-strictly merged merge = merge-strict (map (log_of C r) (actors C)) merged merge
