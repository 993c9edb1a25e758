-- Every worker makes a first pass: it takes from the port of each of its cores, and steps each of its banks and the keeper.
use Rattle.std.proofs.Common.{◌≡◌, ℕ, ◌^◌, ◌<◌, ◌≤◌, ◌==◌, ◌&&◌, nat_lt, true, List, [], ◌∷◌, ◌++◌, Option, Some, None, slice_get, slice_index, sym, ap, subst, ◌∙◌, arith}
use Rattle.std.specs.Prelude.{filter}
use Rattle.std.specs.Option.{is_some}
use Rattle.std.proofs.lemmas.List.Elements.{filter-append}
use Rattle.dn_base.specs.declared.ids.CoreId.{CoreId}
use Rattle.dn_base.specs.declared.ids.BankId.{BankId}
use Rattle.message_net.specs.declared.actor.Actor.TheVariants.{Core, Bank, Keeper}
use Rattle.grant_log.specs.declared.log.Stamped.{Stamped}
use Rattle.registration_protocol.specs.Node.{NodeParts, Setting}
use Rattle.registration_protocol.specs.OwnEvents.{own_event}
use Rattle.machine_rules.specs.State.{State}
use Rattle.grant_log.specs.declared.posted.Posted.{Posted}
use Rattle.bank_hall.specs.declared.bank.Handled.{Handled}
use Rattle.bank_hall.specs.Note.{KeeperNote}
use Rattle.grant_log.specs.Stamps.{has_numbers_left}
use Rattle.host_workers.specs.Members.{ActorParts, NodeIs, Member}
use Rattle.host_workers.specs.Steps.{Done, Goes, clock_after}
use Rattle.host_workers.specs.Acts.{Act, Stepped, Kept, is_act_of}
use Rattle.host_workers.specs.Passes.{IsCorePass, held_member, own_acts, taken_steps}
use Rattle.host_workers.specs.Rounds.{owner}
use Rattle.host_workers.specs.Beginnings.{HasBegun, HaveBegun, OwnComesNext}
use Rattle.host_workers.proofs.MachineParts.{there}
use Rattle.host_workers.proofs.Numbers.{is-below}
use Rattle.host_workers.proofs.Reaching.{reached-numbers}
use Rattle.host_workers.proofs.SameMails.{itself}
use Rattle.host_workers.specs.declared.crew.BankLog.{BankLog}
use Rattle.host_workers.specs.declared.finishing.Finished.{Finished}
use Rattle.host_workers.specs.declared.owned.Owned.{Owned}
use Rattle.host_workers.specs.Crews.{held_of, owned_has_numbers}
use Rattle.host_workers.specs.Pass.{IsKeptOf}
use Rattle.host_workers.specs.Rosters.{core_actor, bank_actor}
use Rattle.host_workers.specs.Finishing.{IsRoundLeft}
use Rattle.host_workers.proofs.Chosen.{stands-taken, same-some}
use Rattle.host_workers.proofs.Crewed.{is_some-map}
use Rattle.host_workers.proofs.Together as together
use Rattle.host_workers.proofs.Together.{same-core}

abbrev node-back : ActorParts → Option NodeParts
node-back (NodeIs n) = Some n
node-back _ = None

-- where a worker goes on with a core whose first take gave nothing, the core's own event comes next
own-next : (C : Setting) (S : State) (core : CoreId) (o : Owned) (rest : List Act) (first : List Act) → slice_get S.nodes core.0 ≡ Some o.node → owned_has_numbers o ≡ true
    → (p : IsCorePass C first core (held_of o)) → OwnComesNext C S core p.taken (own_acts core (has_numbers_left (clock_after o.clock (taken_steps p.taken)) p.next) (own_event C p.node) p.done ++ rest)
own-next C S core o rest first at goes p = by p.taken p.handled where
  by : (taken : Option (Posted × Done)) → Goes C (Core core) o.clock (held_member (held_of o)) (taken_steps taken) (record { parts = NodeIs p.node; next = p.next })
      → OwnComesNext C S core taken (own_acts core (has_numbers_left (clock_after o.clock (taken_steps taken)) p.next) (own_event C p.node) p.done ++ rest)
  by (Some t) went = tt
  by None same = λ n e there own.
      let node : o.node ≡ p.node = same-some o.node p.node (ap (λ (m : Member). node-back m.parts) same) in
      let next : o.next ≡ p.next = ap (λ (m : Member). m.next) same in
      let is : o.node ≡ n = same-some o.node n (sym at ∙ there) in
      let may : has_numbers_left o.clock p.next ≡ true = ap (has_numbers_left o.clock) (sym next) ∙ goes in
      let event : own_event C p.node ≡ Some e = ap (own_event C) (sym node ∙ is) ∙ own in
      (p.done, rest, ap (λ b. own_acts core b (own_event C p.node) p.done ++ rest) may ∙ ap (λ o. own_acts core true o p.done ++ rest) event)

module _ (S M : State) (made workers : ℕ) (f : Finished) (left : IsRoundLeft S M made workers f) (merged : List Stamped) where
  abbrev C : Setting
  C = M.setting

  abbrev work : ℕ → List Act
  work k = together.work S M made workers f left k

  few-cores : C.shape.cores ≤ 16
  few-cores = left.kept.most

  core-begun : (core : CoreId) → core.0 < C.shape.cores → HasBegun C S (together.round_with S M made workers f left merged) core
  core-begun core below =
      let whole = together.whole S M made workers f left in
      let k = owner workers (Core core) in
      let w = together.each S M made workers f left k (together.owns S M made workers f left (Core core)) in
      let acts = together.acts S M made workers f left k in
      let o = there left.opened.roster.cores core.0 (omega (arith, below, whole.core_count)) in
      let is : o.0.core ≡ core = same-core o.0.core core (whole.core_at core.0 o.0 o.1) in
      let first = stands-taken (λ (x : Owned). owner workers (core_actor x) == k) left.opened.roster.cores core.0 o.0 o.1 (ap (λ (c : CoreId). owner workers (Core c) == k) is ∙ itself k) in
      let before : slice_get w.job.crew.cores.items first.0 ≡ Some o.0 = ap (λ l. slice_get l first.0) w.crew.cores ∙ first.1 in
      let fresh = left.opened.fresh.cores core.0 o.0 o.1 in
      let next : o.0.next < 4294967000 =
      subst (λ n. n < 4294967000) (ap (λ l. slice_index l core.0) (sym (together.same-numbers S M made workers f left)) ∙ sym fresh.next_is) (reached-numbers C S core.0 few-cores left.stands.reached) in
      let goes : owned_has_numbers o.0 ≡ true =
      ap (λ n. has_numbers_left n o.0.next) fresh.clock ∙ ap (λ b. nat_lt 0 (2 ^ 63) && b) (is-below o.0.next 4294967000 next) in
      let pass : IsCorePass C acts.0 core (held_of o.0) = subst (λ c. IsCorePass C acts.0 c (held_of o.0)) is ((w.begun.turns first.0 o.0 before).turn goes) in
      let node : slice_get S.nodes core.0 ≡ Some o.0.node = ap (λ l. slice_get l core.0) (sym (together.same-nodes S M made workers f left)) ∙ fresh.node in
      let later = filter (is_act_of (Core core)) acts.1 in
      record {
        pick = pass.pick;
        taken = pass.taken;
        rest = own_acts core (has_numbers_left (clock_after o.0.clock (taken_steps pass.taken)) pass.next) (own_event C pass.node) pass.done ++ later;
        acts = filter-append (is_act_of (Core core)) acts.0 acts.1 ∙ ap (λ l. l ++ later) pass.acts_are;
        own = own-next C S core o.0 later acts.0 node goes pass;
      }

  bank-begun : (bank : BankId) → bank.0 < C.shape.banks → (pick : ℕ) × (handled : Option Handled) × (rest : List Act) × (filter (is_act_of (Bank bank)) (work (owner workers (Bank bank))) ≡ Stepped bank pick handled ∷ rest)
  bank-begun bank below =
      let whole = together.whole S M made workers f left in
      let k = owner workers (Bank bank) in
      let w = together.each S M made workers f left k (together.owns S M made workers f left (Bank bank)) in
      let acts = together.acts S M made workers f left k in
      let b = there left.opened.roster.banks bank.0 (omega (arith, below, whole.bank_count)) in
      let is : b.0.bank ≡ bank = ap (λ (n : ℕ). record { 0 = n }) (whole.bank_at bank.0 b.0 b.1) in
      let first = stands-taken (λ (x : BankLog). owner workers (bank_actor x) == k) left.opened.roster.banks bank.0 b.0 b.1 (ap (λ (c : BankId). owner workers (Bank c) == k) is ∙ itself k) in
      let before : slice_get w.job.crew.banks.items first.0 ≡ Some b.0 = ap (λ l. slice_get l first.0) w.crew.banks ∙ first.1 in
      let step = w.begun.steps first.0 b.0 before in
      let own : filter (is_act_of (Bank bank)) acts.0 ≡ Stepped bank step.pick step.handled ∷ [] = subst (λ c. filter (is_act_of (Bank c)) acts.0 ≡ Stepped c step.pick step.handled ∷ []) is step.acts_are in
      (step.pick, step.handled, filter (is_act_of (Bank bank)) acts.1, filter-append (is_act_of (Bank bank)) acts.0 acts.1 ∙ ap (λ l. l ++ filter (is_act_of (Bank bank)) acts.1) own)

  keeper-begun : (pick : ℕ) × (answer : Option KeeperNote) × (rest : List Act) × (filter (is_act_of Keeper) (work 0) ≡ Kept pick answer ∷ rest)
  keeper-begun =
      let w = together.each S M made workers f left 0 (together.owns S M made workers f left Keeper) in
      let acts = together.acts S M made workers f left 0 in
      let there : is_some w.job.crew.keeper ≡ true = sym (is_some-map _ w.job.crew.keeper) ∙ ap is_some w.crew.keeper in
      let kept : IsKeptOf acts.0 true = subst (IsKeptOf acts.0) there w.begun.kept in
      (kept.0, kept.1, filter (is_act_of Keeper) acts.1, filter-append (is_act_of Keeper) acts.0 acts.1 ∙ ap (λ l. l ++ filter (is_act_of Keeper) acts.1) kept.2)

  pub have-begun : HaveBegun C S (together.round_with S M made workers f left merged)
  have-begun = record { cores = core-begun; banks = bank-begun; keeper = keeper-begun }
