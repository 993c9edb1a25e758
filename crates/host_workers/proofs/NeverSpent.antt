-- No object of a hall is spent in a round.
use Rattle.std.proofs.Common.{◌≡◌, ℕ, ◌+◌, ◌^◌, ◌<◌, ◌≤◌, List, [], ◌∷◌, ◌++◌, length, get_or, map, slice_get, Option, Some, None, refl, sym, ap, subst, ◌∙◌, arith}
use Rattle.std.specs.Prelude.{sum_by, filter_map, All}
use Rattle.std.proofs.lemmas.Bool.Decides.{nat_tests}
use Rattle.std.proofs.lemmas.Option.{slice_get_within}
use Rattle.std.proofs.lemmas.List.Sums.{sum_by-append}
use Rattle.std.proofs.lemmas.List.Elements.{All-nil, All-cons, All-head, All-tail, All-filter, filter_map-append}
use Rattle.message_net.specs.declared.actor.Actor.{Actor}
use Rattle.message_net.specs.declared.actor.Actor.TheVariants.{Bank, Keeper}
use Rattle.grant_log.specs.declared.log.Stamped.{Stamped}
use Rattle.grant_log.specs.Log.{of_actor}
use Rattle.registry_bank.specs.Bank.{BankParts}
use Rattle.registration_protocol.specs.Node.{Setting}
use Rattle.machine_rules.specs.State.{State}
use Rattle.machine_rules.specs.Next.{actor_index_in, next_number}
use Rattle.machine_rules.specs.Runs.{after}
use Rattle.turn_lock.specs.declared.entry.Entry.{Entry}
use Rattle.turn_lock.specs.History.{Legal}
use Rattle.grant_log.specs.declared.posted.Posted.{Posted}
use Rattle.bank_hall.specs.declared.bank.BankIn as bank_in_is
use Rattle.bank_hall.specs.declared.bank.BankIn.{BankIn}
use Rattle.bank_hall.specs.declared.bank.BankOut as bank_out
use Rattle.bank_hall.specs.declared.port.PortIn as port_in
use Rattle.bank_hall.specs.declared.port.PortIn.{PortIn}
use Rattle.bank_hall.specs.declared.port.PortOut as port_out
use Rattle.bank_hall.specs.declared.keeper.KeeperIn as keeper_in_is
use Rattle.bank_hall.specs.declared.keeper.KeeperIn.{KeeperIn}
use Rattle.bank_hall.specs.declared.keeper.KeeperOut as keeper_out
use Rattle.grant_log.specs.Stamps.{is_early, may_handle}
use Rattle.bank_hall.specs.Banks.{BankState, bank_handles, bank_call}
use Rattle.bank_hall.specs.Keepers.{KeeperState, keeper_handles, keeper_call}
use Rattle.bank_hall.specs.Ports.{port_call}
use Rattle.bank_hall.specs.Halls.{BankEntry, PortEntry, KeeperEntry, bank_answer, bank_next, port_answer, port_next, keeper_answer, keeper_next}
use Rattle.host_workers.specs.Members.{Member, IsIn, after_deed}
use Rattle.host_workers.specs.Steps.{Step, Done, Goes, stamp_of, clock_after}
use Rattle.host_workers.specs.Acts.{note_of, events_by}
use Rattle.host_workers.specs.Rounds.{Round, owner, bank_at, core_at, bank_in, keeper_in, events_of, IsReached, IsJoined, IsRoundOf}
use Rattle.host_workers.specs.Unspent.{IsCallAt, AreUnspent}
use Rattle.host_workers.proofs.Mapped.{held, all-map, long-map, slice_get_at}
use Rattle.host_workers.proofs.Reaching.{reached-machine, reached-setting, reached-run, reached-few, reached-numbers}
use Rattle.host_workers.proofs.Objects.{bank_post, bank_said, bank_told, keeper_post, keeper_said, keeper_told, port_post, port_said, step_done, bank_member, bank-part, keeper_member, keeper-part, port-flow}
use Rattle.host_workers.proofs.Joining.{bank-history, keeper-history}
use Rattle.host_workers.proofs.RoundRuns.{round-runs, posts-early}
use Rattle.host_workers.proofs.Beginning.{began-early}
use Rattle.host_workers.proofs.Moved.{far, taken-some, early-one, may-true, soon}

-- a history that goes on from where its front leads
legal-behind : {O I U X : Type 0} (answer : X → I → U) (next : X → I → X) (front rest : List (Entry O I U)) (s there t : X) → Legal answer next s front there → Legal answer next s (front ++ rest) t → Legal answer next there rest t
legal-behind answer next [] rest s there t first all = subst (λ x. Legal answer next x rest t) first all
legal-behind answer next (e ∷ front) rest s there t first all = legal-behind answer next front rest (next s e.input) there t first.1 all.1

goes-up : (C : Setting) (a : Actor) (clock : ℕ) (x : Member) (ss : List Step) (y : Member) → Goes C a clock x ss y → x.next ≤ y.next
goes-up C a clock x [] y goes = omega (arith, ap (λ (m : Member). m.next) goes)
goes-up C a clock x (s ∷ ss) y goes = omega (arith, goes-up C a (stamp_of s) (after_deed C x s.deed) ss y goes.1)

all-front : {X : Type 0} (P : X → Type 0) (xs ys : List X) → All P (xs ++ ys) → All P xs
all-front P [] ys all = All-nil P
all-front P (x ∷ xs) ys all = All-cons P x xs (All-head P x (xs ++ ys) all) (all-front P xs ys (All-tail P x (xs ++ ys) all))

clock-soon : (clock n : ℕ) (ss : List Step) → clock ≤ n → All (λ (d : Done). d.stamped.stamp ≤ n) (map step_done ss) → clock_after clock ss ≤ n
clock-soon clock n [] low all = low
clock-soon clock n (s ∷ ss) low all =
    clock-soon (stamp_of s) n ss (All-head (λ (d : Done). d.stamped.stamp ≤ n) (step_done s) (map step_done ss) all) (All-tail (λ (d : Done). d.stamped.stamp ≤ n) (step_done s) (map step_done ss) all)

abbrev IsSoon : Stamped → Type 0
IsSoon e = e.stamp ≤ 25169664

abbrev EndsSoon : Done → Type 0
EndsSoon d = d.stamped.stamp ≤ 25169664

-- nothing comes of a take or a step only where nothing is there
port-empty : (s : List Posted) (e : PortEntry) → e.output ≡ port_answer s e.input → sum_by far s ≡ 0 → e.output ≡ port_out.TheVariants.Taken None → s ≡ []
unfolding port_call
port-empty [] e said early none = refl
port-empty (p ∷ s) e said early none = by_input e.input refl where
  by_input : (input : PortIn) → e.input ≡ input → p ∷ s ≡ []
  by_input (port_in.TheVariants.Post q) input =
      let kept : port_out.TheVariants.Kept ≡ port_out.TheVariants.Taken None = sym (said ∙ ap (port_answer (p ∷ s)) input) ∙ none in
      absurd (cc)
  by_input (port_in.TheVariants.Take pick) input =
      let took = taken-some is_early (p ∷ s) pick (omega arith) (λ place q here. early-one q (soon (p ∷ s) early place q here)) in
      let some : Some took.0 ≡ None = ap port_said (sym (said ∙ (ap (port_answer (p ∷ s)) input ∙ ap (λ (x : Option Posted × List Posted). port_out.TheVariants.Taken x.0) took.2)) ∙ none) in
      absurd (cc)

abbrev inbox_is : {X : Type 0} → List X → Type 0
inbox_is l = l ≡ []

bank-empty : (s : BankState) (e : BankEntry) → e.output ≡ bank_answer s e.input → s.clock < 2 ^ 63 → s.next < 4294967000 → sum_by far s.inbox ≡ 0 → e.output ≡ bank_out.TheVariants.Stepped None → s.inbox ≡ []
unfolding bank_call
bank-empty s e said clock next early none = by_inbox s.inbox refl where
  by_input : 1 ≤ length s.inbox → (input : BankIn) → e.input ≡ input → ⊥
  by_input some (bank_in_is.TheVariants.Post q) input =
      let kept : bank_out.TheVariants.Kept ≡ bank_out.TheVariants.Stepped None = sym (said ∙ ap (bank_answer s) input) ∙ none in
      cc
  by_input some (bank_in_is.TheVariants.Step pick) input =
      let took = taken-some (may_handle s.clock s.next) s.inbox pick some (λ place q here. may-true s.clock s.next q clock next (soon s.inbox early place q here)) in
      let never = ap bank_said (sym (said ∙ (ap (bank_answer s) input ∙ ap (λ (x : Option Posted × List Posted). bank_out.TheVariants.Stepped (bank_handles s x).1) took.2)) ∙ none) in
      no-some never where
        no-some : {X : Type 0} {x : X} → Some x ≡ None → ⊥
        no-some e = cc

  by_inbox : (l : List Posted) → s.inbox ≡ l → s.inbox ≡ []
  by_inbox [] is = is
  by_inbox (p ∷ l) is = absurd (by_input (omega (arith, ap (λ (k : List Posted). length k) is)) e.input refl)

keeper-empty : (s : KeeperState) (e : KeeperEntry) → e.output ≡ keeper_answer s e.input → s.clock < 2 ^ 63 → s.next < 4294967000 → sum_by far s.inbox ≡ 0 → e.output ≡ keeper_out.TheVariants.Stepped None → s.inbox ≡ []
unfolding keeper_call
keeper-empty s e said clock next early none = by_inbox s.inbox refl where
  by_input : 1 ≤ length s.inbox → (input : KeeperIn) → e.input ≡ input → ⊥
  by_input some (keeper_in_is.TheVariants.Post q) input =
      let kept : keeper_out.TheVariants.Kept ≡ keeper_out.TheVariants.Stepped None = sym (said ∙ ap (keeper_answer s) input) ∙ none in
      cc
  by_input some (keeper_in_is.TheVariants.Step pick) input =
      let took = taken-some (may_handle s.clock s.next) s.inbox pick some (λ place q here. may-true s.clock s.next q clock next (soon s.inbox early place q here)) in
      let never = ap (keeper_said 0) (sym (said ∙ (ap (keeper_answer s) input ∙ ap (λ (x : Option Posted × List Posted). keeper_out.TheVariants.Stepped (keeper_handles s x).1) took.2)) ∙ none) in
      no-some never where
        no-some : {X : Type 0} {x : X} → Some x ≡ None → ⊥
        no-some e = cc

  by_inbox : (l : List Posted) → s.inbox ≡ l → s.inbox ≡ []
  by_inbox [] is = is
  by_inbox (p ∷ l) is = absurd (by_input (omega (arith, ap (λ (k : List Posted). length k) is)) e.input refl)

module _ (C : Setting) (S T : State) (r : Round) (reached : IsReached C S) (most : C.shape.cores ≤ 16) (joined : IsJoined C S T r) where
  runs : IsRoundOf C S T r
  runs = round-runs C S T r reached joined

  all-soon : All IsSoon r.merged
  all-soon k d small =
      let here : slice_get r.merged k ≡ Some (get_or r.merged k d) = slice_get_at r.merged k d small in
      omega (arith, runs.early k (get_or r.merged k d) here, small, reached-few C S (events_of r.merged) reached runs.run, long-map (λ (e : Stamped). e.event) r.merged)

  events-soon : (a : Actor) → IsIn C a → All EndsSoon (events_by C.shape a (r.work (owner r.workers a)))
  events-soon a inside = all-map IsSoon note_of (events_by C.shape a (r.work (owner r.workers a))) (subst (All IsSoon) (joined.merged.parts a inside) (All-filter (of_actor a) IsSoon r.merged all-soon))

  -- the numbers of the end are those of a state that is reached
  end-numbers : (a : Actor) → next_number T a < 4294967000
  end-numbers a =
      let end : next_number T a ≡ next_number (after S (events_of r.merged)) a = ap (λ (U : State). next_number U a) runs.rest in
      omega (arith, end, reached-numbers C (after S (events_of r.merged)) (actor_index_in (after S (events_of r.merged)) a) most (reached-run C S (events_of r.merged) reached runs.run))

  bank-unspent : (b : ℕ) (bank : BankParts) (there : BankState) (call : BankEntry) → slice_get S.banks b ≡ Some bank → IsCallAt bank_answer bank_next (bank_in S b bank (r.began (bank_at b)) 0) (r.histories.banks b) there call
      → call.output ≡ bank_out.TheVariants.Stepped None → there.inbox ≡ []
  bank-unspent b bank there call found at none =
      let machine = reached-machine C S reached in
      let banks : S.setting.shape.banks ≡ C.shape.banks = ap (λ (D : Setting). D.shape.banks) (reached-setting C S reached) in
      let below : b < C.shape.banks = omega (arith, slice_get_within S.banks b bank found, machine.banks, banks) in
      let inside : IsIn C (bank_at b) = grind (arith, nat_tests, below) in
      let c = joined.closed.banks b below in
      let first : c.first ≡ bank = some-is (sym c.was ∙ found) in
      let start : bank_in S b c.first (r.began (bank_at b)) 0 ≡ bank_in S b bank (r.began (bank_at b)) 0 = ap (λ x. bank_in S b x (r.began (bank_at b)) 0) first in
      let whole : Legal bank_answer bank_next (bank_in S b bank (r.began (bank_at b)) 0) (at.before ++ call ∷ at.behind) (bank_in T b c.last (r.left (bank_at b)) c.clock) =
      subst (λ h. Legal bank_answer bank_next (bank_in S b bank (r.began (bank_at b)) 0) h (bank_in T b c.last (r.left (bank_at b)) c.clock)) at.history_is
      (subst (λ x. Legal bank_answer bank_next x (r.histories.banks b) (bank_in T b c.last (r.left (bank_at b)) c.clock)) start c.legal) in
      let rest = legal-behind bank_answer bank_next at.before (call ∷ at.behind) (bank_in S b bank (r.began (bank_at b)) 0) there (bank_in T b c.last (r.left (bank_at b)) c.clock) at.leads whole in
      let number : Bank (record { 0 = bank.bank }) ≡ bank_at b = ap (λ n. Bank (record { 0 = n })) (machine.bank b bank found).bank in
      let front = bank-part C (record { 0 = b }) at.before (bank_in S b bank (r.began (bank_at b)) 0) there number at.leads in
      let last = bank-part C (record { 0 = b }) (call ∷ at.behind) there (bank_in T b c.last (r.left (bank_at b)) c.clock) front.same rest in
      let told : events_by C.shape (bank_at b) (r.work (owner r.workers (bank_at b))) ≡ map step_done front.steps ++ filter_map bank_told (call ∷ at.behind) =
      sym (bank-history C S T r joined.some joined.worked (record { 0 = b })) ∙ (ap (filter_map bank_told) at.history_is ∙ (filter_map-append bank_told at.before (call ∷ at.behind) ∙ ap (λ l. l ++ filter_map bank_told (call ∷ at.behind)) (sym front.told))) in
      let soon_all = all-front EndsSoon (map step_done front.steps) (filter_map bank_told (call ∷ at.behind)) (subst (All EndsSoon) told (events-soon (bank_at b) inside)) in
      let clock = clock-soon 0 25169664 front.steps (omega arith) soon_all in
      let posts : sum_by (bank_post far) (r.histories.banks b) ≡ 0 = posts-early C S T r reached joined (bank_at b) inside in
      let split : sum_by (bank_post far) (r.histories.banks b) ≡ sum_by (bank_post far) at.before + sum_by (bank_post far) (call ∷ at.behind) = ap (λ l. sum_by (bank_post far) l) at.history_is ∙ sum_by-append (bank_post far) at.before (call ∷ at.behind) in
      bank-empty there call rest.0 (omega (arith, front.clock, clock))
      (omega (arith, goes-up C (bank_at b) there.clock (bank_member there) last.steps (bank_member (bank_in T b c.last (r.left (bank_at b)) c.clock)) last.goes, end-numbers (bank_at b)))
      (omega (arith, front.flow far, began-early C S T r reached most joined (bank_at b) inside, posts, split)) none where
        some-is : {x y : BankParts} → Some x ≡ Some y → x ≡ y
        some-is {x = x} e = ap (held x) e

  port-unspent : (c : ℕ) (there : List Posted) (call : PortEntry) → c < C.shape.cores → IsCallAt port_answer port_next (r.began (core_at c)) (r.histories.ports c) there call → call.output ≡ port_out.TheVariants.Taken None → there ≡ []
  port-unspent c there call below at none =
      let inside : IsIn C (core_at c) = grind (arith, nat_tests, below) in
      let whole : Legal port_answer port_next (r.began (core_at c)) (at.before ++ call ∷ at.behind) (r.left (core_at c)) = subst (λ h. Legal port_answer port_next (r.began (core_at c)) h (r.left (core_at c))) at.history_is (joined.closed.ports c below) in
      let rest = legal-behind port_answer port_next at.before (call ∷ at.behind) (r.began (core_at c)) there (r.left (core_at c)) at.leads whole in
      let posts : sum_by (port_post far) (r.histories.ports c) ≡ 0 = posts-early C S T r reached joined (core_at c) inside in
      let split : sum_by (port_post far) (r.histories.ports c) ≡ sum_by (port_post far) at.before + sum_by (port_post far) (call ∷ at.behind) = ap (λ l. sum_by (port_post far) l) at.history_is ∙ sum_by-append (port_post far) at.before (call ∷ at.behind) in
      port-empty there call rest.0 (omega (arith, port-flow at.before (r.began (core_at c)) there at.leads far, began-early C S T r reached most joined (core_at c) inside, posts, split)) none

  keeper-unspent : (there : KeeperState) (call : KeeperEntry) → IsCallAt keeper_answer keeper_next (keeper_in S (r.began Keeper) 0) r.histories.keeper there call → call.output ≡ keeper_out.TheVariants.Stepped None → there.inbox ≡ []
  keeper-unspent there call at none =
      let inside : IsIn C Keeper = refl in
      let c = joined.closed.keeper in
      let all : length S.keeper.arrived ≡ C.shape.cores = (reached-machine C S reached).cores ∙ ap (λ (x : Setting). x.shape.cores) (reached-setting C S reached) in
      let whole : Legal keeper_answer keeper_next (keeper_in S (r.began Keeper) 0) (at.before ++ call ∷ at.behind) (keeper_in T (r.left Keeper) c.clock) =
      subst (λ h. Legal keeper_answer keeper_next (keeper_in S (r.began Keeper) 0) h (keeper_in T (r.left Keeper) c.clock)) at.history_is c.legal in
      let rest = legal-behind keeper_answer keeper_next at.before (call ∷ at.behind) (keeper_in S (r.began Keeper) 0) there (keeper_in T (r.left Keeper) c.clock) at.leads whole in
      let front = keeper-part C at.before (keeper_in S (r.began Keeper) 0) there all at.leads in
      let last = keeper-part C (call ∷ at.behind) there (keeper_in T (r.left Keeper) c.clock) front.same rest in
      let told : events_by C.shape Keeper (r.work 0) ≡ map step_done front.steps ++ filter_map (keeper_told C.shape.cores) (call ∷ at.behind) =
      sym (keeper-history C S T r joined.some joined.worked) ∙ (ap (filter_map (keeper_told C.shape.cores)) at.history_is ∙ (filter_map-append (keeper_told C.shape.cores) at.before (call ∷ at.behind) ∙ ap (λ l. l ++ filter_map (keeper_told C.shape.cores) (call ∷ at.behind)) (sym front.told))) in
      let soon_all = all-front EndsSoon (map step_done front.steps) (filter_map (keeper_told C.shape.cores) (call ∷ at.behind)) (subst (All EndsSoon) told (events-soon Keeper inside)) in
      let clock = clock-soon 0 25169664 front.steps (omega arith) soon_all in
      let posts : sum_by (keeper_post far) r.histories.keeper ≡ 0 = posts-early C S T r reached joined Keeper inside in
      let split : sum_by (keeper_post far) r.histories.keeper ≡ sum_by (keeper_post far) at.before + sum_by (keeper_post far) (call ∷ at.behind) = ap (λ l. sum_by (keeper_post far) l) at.history_is ∙ sum_by-append (keeper_post far) at.before (call ∷ at.behind) in
      keeper-empty there call rest.0 (omega (arith, front.clock, clock))
      (omega (arith, goes-up C Keeper there.clock (keeper_member there) last.steps (keeper_member (keeper_in T (r.left Keeper) c.clock)) last.goes, end-numbers Keeper))
      (omega (arith, front.flow far, began-early C S T r reached most joined Keeper inside, posts, split)) none

  pub never-spent : AreUnspent C S r
  never-spent = record { banks = bank-unspent; ports = port-unspent; keeper = keeper-unspent }
