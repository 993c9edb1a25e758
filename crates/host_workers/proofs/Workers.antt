-- What each worker did in a round, by the crews that were dealt out to the workers and by the calls of its pass.
use Rattle.std.proofs.Common.{◌≡◌, ℕ, ◌<◌, ◌≤◌, ◌==◌, Bool, true, false, if◌then◌else◌, List, [], ◌∷◌, ◌++◌, map, get_or, Option, Some, None, slice_get, All, refl, sym, ap, subst, ◌∙◌, arith, true≢false}
use Rattle.std.specs.Option.{is_some}
use Rattle.std.proofs.lemmas.Bool.{eqb-true}
use Rattle.std.proofs.lemmas.Option.{slice_get_within, get_or_from_slice_get, slice_get-get_or}
use Rattle.std.proofs.lemmas.List.Elements.{All-append, All-cons, All-nil, All-map, All-contains}
use Rattle.dn_base.specs.declared.ids.CoreId.{CoreId}
use Rattle.dn_base.specs.declared.ids.BankId.{BankId}
use Rattle.message_net.specs.declared.actor.Actor.{Actor}
use Rattle.message_net.specs.declared.actor.Actor.TheVariants.{Core, Bank, Keeper}
use Rattle.grant_log.specs.declared.log.Stamped.{Stamped}
use Rattle.registration_protocol.specs.Node.{Setting}
use Rattle.turn_lock.specs.History.{calls_by}
use Rattle.turn_lock.specs.Passes.{Token}
use Rattle.bank_hall.specs.Rows.{made_by}
use Rattle.bank_hall.specs.Halls.{Calls, HallView, BankEntry, PortEntry, KeeperEntry, IsNewPass, pass_number}
use Rattle.bank_hall.specs.Closing.{history_of, IsToldPass}
use Rattle.host_workers.specs.Members.{IsIn}
use Rattle.host_workers.specs.Acts.{Act, actor_of, calls_in, notes_by}
use Rattle.host_workers.specs.Passes.{HasGone, tries_of}
use Rattle.host_workers.specs.Rounds.{owner, IsOwn, AreCallsOf}
use Rattle.host_workers.proofs.SameMails.{itself}
use Rattle.host_workers.proofs.Numbers.{is-below}
use Rattle.host_workers.specs.declared.crew.BankLog.{BankLog}
use Rattle.host_workers.specs.declared.crew.Crew.{Crew}
use Rattle.host_workers.specs.declared.owned.Owned.{Owned}
use Rattle.host_workers.specs.declared.working.Job.{Job}
use Rattle.host_workers.specs.Crews.{held_of, owned_core, bank_of, keeper_log}
use Rattle.host_workers.specs.Pass.{actors_of, IsWork, AreActsOfPass, HasMore}
use Rattle.host_workers.specs.Rosters.{RosterParts, IsRoster, IsCrewOf, core_actor, bank_actor}
use Rattle.host_workers.proofs.Chosen.{stands-taken, taken-stands, same-some, none-some}
use Rattle.host_workers.proofs.Crewed.{is_some-map}
use Rattle.host_workers.proofs.Passing.{stands-too}

module _ {X : Type 0} where
  -- what holds at each place of a list, and the other way round
  pub all-places : (P : X → Type 0) (xs : List X) → ((i : ℕ) (x : X) → slice_get xs i ≡ Some x → P x) → All P xs
  all-places P xs each = λ k d within. each k (get_or xs k d) (slice_get-get_or xs k d within)

  pub place-all : (P : X → Type 0) (xs : List X) (i : ℕ) (x : X) → All P xs → slice_get xs i ≡ Some x → P x
  place-all P xs i x all at = subst P (get_or_from_slice_get xs i x x at) (all i x (slice_get_within xs i x at))

-- a worker with its acts, those of its first pass and the rest, by the rosters as the round began and ended and the histories of a
-- closed hall
pub record WorkerAt (C : Setting) (hall : HallView) (workers : ℕ) (had has : RosterParts) (banks : List (List BankEntry)) (ports : List (List PortEntry)) (keeper : List KeeperEntry) (k : ℕ) (acts : List Act × List Act) : Type 0 where
  pub job : Job
  pub done : Job
  pub crew : IsCrewOf workers had k job.crew
  pub crew_then : IsCrewOf workers has k done.crew
  pub new : IsNewPass hall k job.pass
  pub told : IsToldPass banks ports keeper done.pass
  pub number : pass_number done.pass ≡ k
  pub work : IsWork C job.pass done.pass job.crew done.crew (acts.0 ++ acts.1)
  pub begun : AreActsOfPass C acts.0 job.crew

abbrev Unused : {O I U : Type 0} → Token O I U → Type 0
Unused p = (p.seen ≡ []) × (p.made ≡ [])

-- a pass that is new has made no call
none-made : {O I U : Type 0} (p : Option (Token O I U)) → ((x : Token O I U) → p ≡ Some x → x.made ≡ []) → made_by p ≡ []
none-made None each = refl
none-made (Some x) each = each x refl

-- those that a pass makes are of the crew's actors, which the worker owns
owned-actors : (C : Setting) (workers k : ℕ) (had : RosterParts) (crew : Crew) → 1 ≤ workers → IsRoster C.shape.cores C.shape.banks had → IsCrewOf workers had k crew
    → All (λ (a : Actor). IsIn C a × (owner workers a ≡ k)) (actors_of crew)
owned-actors C workers k had crew some whole is = by_keeper (is_some crew.keeper) refl where
  Own : Actor → Type 0
  Own a = IsIn C a × (owner workers a ≡ k)

  core-own : (i : ℕ) (o : Owned) → slice_get crew.cores.items i ≡ Some o → Own (Core o.core)
  core-own i o at =
      let from = taken-stands (λ (x : Owned). owner workers (core_actor x) == k) had.cores i o (ap (λ l. slice_get l i) (sym is.cores) ∙ at) in
      let number : o.core.0 ≡ from.0 = whole.core_at from.0 o from.1 in
      let below = slice_get_within had.cores from.0 o from.1 in
      (is-below o.core.0 C.shape.cores (omega (arith, number, below, whole.core_count)), eqb-true (owner workers (core_actor o)) k from.2)

  bank-own : (i : ℕ) (b : BankLog) → slice_get crew.banks.items i ≡ Some b → Own (Bank b.bank)
  bank-own i b at =
      let from = taken-stands (λ (x : BankLog). owner workers (bank_actor x) == k) had.banks i b (ap (λ l. slice_get l i) (sym is.banks) ∙ at) in
      let number : b.bank.0 ≡ from.0 = whole.bank_at from.0 b from.1 in
      let below = slice_get_within had.banks from.0 b from.1 in
      (is-below b.bank.0 C.shape.banks (omega (arith, number, below, whole.bank_count)), eqb-true (owner workers (bank_actor b)) k from.2)

  cores : All Own (map Core (map owned_core crew.cores.items))
  cores = All-map Own Core (map owned_core crew.cores.items) (All-map (λ core. Own (Core core)) owned_core crew.cores.items (all-places (λ o. Own (Core o.core)) crew.cores.items core-own))

  banks : All Own (map Bank (map bank_of crew.banks.items))
  banks = All-map Own Bank (map bank_of crew.banks.items) (All-map (λ bank. Own (Bank bank)) bank_of crew.banks.items (all-places (λ b. Own (Bank b.bank)) crew.banks.items bank-own))

  no-keeper : keeper_log crew ≡ None → is_some crew.keeper ≡ true → ⊥
  no-keeper none there = true≢false (sym there ∙ (sym (is_some-map _ crew.keeper) ∙ ap is_some none))

  keeper-own : is_some crew.keeper ≡ true → 0 ≡ k
  keeper-own there = first (k == 0) refl where
    first : (s : Bool) → (k == 0) ≡ s → 0 ≡ k
    first true e = sym (eqb-true k 0 e)
    first false e = absurd (no-keeper (is.keeper ∙ ap (λ (s : Bool). if s then Some had.keeper else None) e) there)

  by_keeper : (t : Bool) → is_some crew.keeper ≡ t → All Own (actors_of crew)
  by_keeper true e =
      subst (λ s. All Own (tries_of (map owned_core crew.cores.items) (map bank_of crew.banks.items) s)) (sym e)
      (All-append Own (map Core (map owned_core crew.cores.items)) (map Bank (map bank_of crew.banks.items) ++ Keeper ∷ []) cores
      (All-append Own (map Bank (map bank_of crew.banks.items)) (Keeper ∷ []) banks (All-cons Own Keeper [] (refl, keeper-own e) (All-nil Own))))
  by_keeper false e =
      subst (λ s. All Own (tries_of (map owned_core crew.cores.items) (map bank_of crew.banks.items) s)) (sym e)
      (All-append Own (map Core (map owned_core crew.cores.items)) (map Bank (map bank_of crew.banks.items)) cores banks)

module _ (C : Setting) (hall : HallView) (workers : ℕ) (had has : RosterParts) (banks : List (List BankEntry)) (ports : List (List PortEntry)) (keeper : List KeeperEntry)
    (some : 1 ≤ workers) (whole : IsRoster C.shape.cores C.shape.banks had) (whole_then : IsRoster C.shape.cores C.shape.banks has)
    (acts : ℕ → List Act × List Act) (each : (k : ℕ) → k < workers → WorkerAt C hall workers had has banks ports keeper k (acts k)) where
  abbrev pub work_of : ℕ → List Act
  work_of k = (acts k).0 ++ (acts k).1

  abbrev pub calls_of : Calls
  calls_of = record { banks = history_of banks; ports = history_of ports; keeper = keeper }

  pub works-own : (k : ℕ) → k < workers → All (IsOwn C workers k) (work_of k)
  works-own k below =
      let w = each k below in
      λ i d within. All-contains (λ (a : Actor). IsIn C a × (owner workers a ≡ k)) (actors_of w.job.crew) (actor_of (get_or (work_of k) i d)) (owned-actors C workers k had w.job.crew some whole w.crew) (w.work.crew.own i d within)

  pub works-call : (k : ℕ) → k < workers → AreCallsOf k calls_of (calls_in C.shape k (work_of k))
  works-call k below =
      let w = each k below in
      let number : pass_number w.job.pass ≡ k = w.new.banks.numbered in record {
        banks = λ b. ap (λ j. calls_by j (history_of banks b)) (sym w.number) ∙ (w.told.bank_calls b ∙ (w.work.calls.banks b
            ∙ (ap (λ l. l ++ (calls_in C.shape (pass_number w.job.pass) (work_of k)).banks b) (none-made (slice_get w.job.pass.banks.passes b) (λ p at. (place-all Unused w.job.pass.banks.passes b p w.new.banks.unused at).1))
            ∙ ap (λ j. (calls_in C.shape j (work_of k)).banks b) number)));
        ports = λ b. ap (λ j. calls_by j (history_of ports b)) (sym w.number) ∙ (w.told.port_calls b ∙ (w.work.calls.ports b
            ∙ (ap (λ l. l ++ (calls_in C.shape (pass_number w.job.pass) (work_of k)).ports b) (none-made (slice_get w.job.pass.ports.passes b) (λ p at. (place-all Unused w.job.pass.ports.passes b p w.new.ports.unused at).1))
            ∙ ap (λ j. (calls_in C.shape j (work_of k)).ports b) number)));
        keeper = ap (λ j. calls_by j keeper) (sym w.number) ∙ (w.told.keeper_calls ∙ (w.work.calls.keeper
            ∙ (ap (λ l. l ++ (calls_in C.shape (pass_number w.job.pass) (work_of k)).keeper) (none-made (slice_get w.job.pass.keeper.passes 0) (λ p at. (place-all Unused w.job.pass.keeper.passes 0 p w.new.keeper.unused at).1))
            ∙ ap (λ j. (calls_in C.shape j (work_of k)).keeper) number)));
      }

  -- a core before and after, with what its owner did
  pub core-went : (i : ℕ) (o p : Owned) → slice_get had.cores i ≡ Some o → slice_get has.cores i ≡ Some p → owner workers (Core o.core) < workers
      → HasGone C (work_of (owner workers (Core o.core))) o.core (held_of o) (held_of p)
  core-went i o p at now below =
      let k = owner workers (Core o.core) in
      let w = each k below in
      let first = stands-taken (λ (x : Owned). owner workers (core_actor x) == k) had.cores i o at (itself k) in
      let before : slice_get w.job.crew.cores.items first.0 ≡ Some o = ap (λ l. slice_get l first.0) w.crew.cores ∙ first.1 in
      let mid = stands-too owned_core w.job.crew.cores.items w.done.crew.cores.items w.work.crew.same.cores first.0 o before in
      let from = taken-stands (λ (x : Owned). owner workers (core_actor x) == k) has.cores first.0 mid.0 (ap (λ l. slice_get l first.0) (sym w.crew_then.cores) ∙ mid.1) in
      let number : mid.0.core.0 ≡ o.core.0 = ap (λ (c : CoreId). c.0) mid.2 in
      let place : from.0 ≡ i = omega (arith, number, whole_then.core_at from.0 mid.0 from.1, whole.core_at i o at) in
      let is : mid.0 ≡ p = same-some mid.0 p (sym from.1 ∙ (ap (slice_get has.cores) place ∙ now)) in
      w.work.crew.cores first.0 o p before (mid.1 ∙ ap Some is)

  -- what is noted of a bank
  pub bank-noted : (i : ℕ) (b d : BankLog) → slice_get had.banks i ≡ Some b → slice_get has.banks i ≡ Some d → owner workers (Bank b.bank) < workers
      → d.log.items ≡ b.log.items ++ notes_by C.shape (Bank b.bank) (work_of (owner workers (Bank b.bank)))
  bank-noted i b d at now below =
      let k = owner workers (Bank b.bank) in
      let w = each k below in
      let first = stands-taken (λ (x : BankLog). owner workers (bank_actor x) == k) had.banks i b at (itself k) in
      let before : slice_get w.job.crew.banks.items first.0 ≡ Some b = ap (λ l. slice_get l first.0) w.crew.banks ∙ first.1 in
      let mid = stands-too bank_of w.job.crew.banks.items w.done.crew.banks.items w.work.crew.same.banks first.0 b before in
      let from = taken-stands (λ (x : BankLog). owner workers (bank_actor x) == k) has.banks first.0 mid.0 (ap (λ l. slice_get l first.0) (sym w.crew_then.banks) ∙ mid.1) in
      let number : mid.0.bank.0 ≡ b.bank.0 = ap (λ (c : BankId). c.0) mid.2 in
      let place : from.0 ≡ i = omega (arith, number, whole_then.bank_at from.0 mid.0 from.1, whole.bank_at i b at) in
      let is : mid.0 ≡ d = same-some mid.0 d (sym from.1 ∙ (ap (slice_get has.banks) place ∙ now)) in
      w.work.crew.banks first.0 b d before (mid.1 ∙ ap Some is)

  -- what is noted of the keeper
  pub keeper-noted : 0 < workers → has.keeper ≡ had.keeper ++ notes_by C.shape Keeper (work_of 0)
  keeper-noted below =
      let w = each 0 below in
      more (keeper_log w.job.crew) (keeper_log w.done.crew) w.crew.keeper w.crew_then.keeper w.work.crew.keeper where
        more : (a b : Option (List Stamped)) → a ≡ Some had.keeper → b ≡ Some has.keeper → HasMore (notes_by C.shape Keeper (work_of 0)) a b → has.keeper ≡ had.keeper ++ notes_by C.shape Keeper (work_of 0)
        more (Some x) (Some y) one two is = sym (same-some y has.keeper two) ∙ (is ∙ ap (λ l. l ++ notes_by C.shape Keeper (work_of 0)) (same-some x had.keeper one))
        more None b one two is = absurd (none-some had.keeper one)
        more (Some x) None one two is = absurd (none-some has.keeper two)
