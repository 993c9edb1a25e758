-- Whoever has something to do as a round begins does something in it.
use Rattle.std.proofs.Common.{◌≡◌, ◌≢◌, ℕ, ◌+◌, ◌<◌, ◌≤◌, Bool, true, false, ◌==◌, cond, List, [], ◌∷◌, length, get_or, map, slice_get, Option, Some, None, refl, sym, ap, subst, ◌∙◌, arith}
use Rattle.std.specs.Prelude.{sum_by, filter, filter_map, flat_map}
use Rattle.std.proofs.lemmas.Bool.Decides.{nat_tests}
use Rattle.std.proofs.lemmas.Option.{slice_get_within, get_or_from_slice_get}
use Rattle.std.proofs.lemmas.List.Sums.{sum_by-cons, sum_by-append, sum_by-le-sum_by}
use Rattle.std.proofs.lemmas.List.Sorted.{sum_by-IsPermutation}
use Rattle.dn_base.specs.declared.ids.CoreId.{CoreId}
use Rattle.dn_base.specs.declared.ids.Shape.{Shape}
use Rattle.message_net.specs.declared.actor.Actor.{Actor}
use Rattle.message_net.specs.declared.actor.Actor.TheVariants.{Core, Bank, Keeper}
use Rattle.message_net.specs.declared.event.Event.{Event}
use Rattle.message_net.specs.declared.message.Mail.{Mail}
use Rattle.registration_protocol.specs.Node.{NodeParts, Setting}
use Rattle.registration_protocol.specs.OwnEvents.{own_event}
use Rattle.machine_rules.specs.State.{State}
use Rattle.machine_rules.specs.Next.{actor_index_in}
use Rattle.machine_rules.specs.Flight.{bit}
use Rattle.turn_lock.specs.History.{maker}
use Rattle.grant_log.specs.declared.posted.Posted.{Posted}
use Rattle.bank_hall.specs.Halls.{Calls}
use Rattle.host_workers.specs.Members.{IsIn}
use Rattle.host_workers.specs.Steps.{Done, with_stamp}
use Rattle.host_workers.specs.Acts.{Act, Took, Made, Stepped, Kept, is_act_of, act_done, note_of, events_in, events_by, steps_by, and_then, try_calls, postings, posted_by, act_calls, calls_in}
use Rattle.host_workers.specs.Rounds.{Round, owner, actors, bank_in, keeper_in, IsReached, IsJoined}
use Rattle.host_workers.specs.Beginnings.{acts_of, OwnComesNext, HaveBegun, HasEvent, AllHaveActed}
use Rattle.host_workers.proofs.Weights.{sum-filter, sum-map, sum-flat, sum-zero, zero-sum, somewhere}
use Rattle.host_workers.proofs.SameMails.{same_posted, same_posted-true, same_posted-refl, passes, sum-left, itself}
use Rattle.host_workers.proofs.Actors.{all-inside, each-actor}
use Rattle.host_workers.proofs.Reaching.{reached-machine, reached-setting, reached-numbers}
use Rattle.host_workers.proofs.Objects.{step_done}
use Rattle.host_workers.proofs.Traces.{posts_at, handled_in, sum-only, steps-tell}
use Rattle.host_workers.proofs.Joining.{owned, core-tells, bank-history, keeper-history}
use Rattle.host_workers.proofs.RoundRuns.{posts-early}
use Rattle.host_workers.proofs.Moved.{bank_try, keeper_try, port_try, far, port-moves, bank-moves, keeper-moves}

-- ---- takes and steps among calls

abbrev pub tried_at : Actor → Calls → ℕ
tried_at (Core core) calls = sum_by port_try (calls.ports core.0)
tried_at (Bank bank) calls = sum_by bank_try (calls.banks bank.0)
tried_at Keeper calls = sum_by keeper_try calls.keeper

pub tried-then : (a : Actor) (first more : Calls) → tried_at a (and_then first more) ≡ tried_at a first + tried_at a more
tried-then (Core core) first more = sum_by-append port_try (first.ports core.0) (more.ports core.0)
tried-then (Bank bank) first more = sum_by-append bank_try (first.banks bank.0) (more.banks bank.0)
tried-then Keeper first more = sum_by-append keeper_try first.keeper more.keeper

tried-acts : (shape : Shape) (a : Actor) (number : ℕ) (acts : List Act) → sum_by (λ act. tried_at a (try_calls number act)) acts ≤ tried_at a (calls_in shape number acts)
tried-acts shape a number [] = omega arith
tried-acts shape a number (act ∷ acts) =
    omega (
      arith,
      sum_by-cons (λ (x : Act). tried_at a (try_calls number x)) act acts,
      tried-then a (act_calls shape number act) (calls_in shape number acts),
      tried-then a (try_calls number act) (postings shape number (posted_by (act_done shape act))),
      tried-acts shape a number acts,
    )

part-le : {X : Type 0} (f : X → ℕ) (p : X → Bool) (xs : List X) → sum_by f (filter p xs) ≤ sum_by f xs
part-le f p xs = omega (arith, sum-filter p f xs, sum_by-le-sum_by (λ x. cond (p x) (f x) 0) f xs (λ x. less (p x) (f x))) where
  less : (t : Bool) (n : ℕ) → cond t n 0 ≤ n
  less true n = omega arith
  less false n = omega arith

first-le : {X : Type 0} (f : X → ℕ) (p : X → Bool) (xs : List X) (x : X) (rest : List X) → filter p xs ≡ x ∷ rest → f x ≤ sum_by f xs
first-le f p xs x rest is =
    let first : sum_by f (filter p xs) ≡ sum_by f (x ∷ rest) = ap (λ l. sum_by f l) is in
    omega (arith, part-le f p xs, first, sum_by-cons f x rest)

none-mapped : {X Y : Type 0} (f : X → Y) (xs : List X) → map f xs ≡ [] → xs ≡ []
none-mapped f [] none = refl
none-mapped f (x ∷ xs) none = absurd (cc)

-- whether a mail that came with stamp 0 is this one
abbrev is_mail : Mail → Posted → ℕ
is_mail m p = bit (same_posted (with_stamp 0 m) p)

abbrev one_if : Bool → ℕ
one_if t = cond t 1 0

module _ (C : Setting) (S T : State) (r : Round) (reached : IsReached C S) (most : C.shape.cores ≤ 16) (joined : IsJoined C S T r) where
  -- an actor's worker tried it, where its first act did
  tries-come : (a : Actor) (act : Act) (rest : List Act) → acts_of r a ≡ act ∷ rest → ((number : ℕ) → tried_at a (try_calls number act) ≡ 1) → 1 ≤ tried_at a r.histories
  tries-come a act rest acts tried =
      let own = owner r.workers a in
      let some : 1 ≤ tried_at a (calls_in C.shape (owner r.workers a) (r.work (owner r.workers a))) =
      omega (arith, tried (owner r.workers a), first-le (λ (x : Act). tried_at a (try_calls (owner r.workers a) x)) (is_act_of a) (r.work (owner r.workers a)) act rest acts, tried-acts C.shape a (owner r.workers a) (r.work (owner r.workers a))) in
      by_actor a (owner r.workers a) (owned C S T r joined.some joined.worked a) some where
        by_actor : (b : Actor) (k : ℕ) → k < r.workers → 1 ≤ tried_at b (calls_in C.shape k (r.work k)) → 1 ≤ tried_at b r.histories
        by_actor (Core core) k below some =
            let same : sum_by port_try (filter (λ e. maker e == k) (r.histories.ports core.0)) ≡ sum_by port_try ((calls_in C.shape k (r.work k)).ports core.0) = ap (λ l. sum_by port_try l) ((joined.worked.calls k below).ports core.0) in
            omega (arith, some, same, part-le port_try (λ e. maker e == k) (r.histories.ports core.0))
        by_actor (Bank bank) k below some =
            let same : sum_by bank_try (filter (λ e. maker e == k) (r.histories.banks bank.0)) ≡ sum_by bank_try ((calls_in C.shape k (r.work k)).banks bank.0) = ap (λ l. sum_by bank_try l) ((joined.worked.calls k below).banks bank.0) in
            omega (arith, some, same, part-le bank_try (λ e. maker e == k) (r.histories.banks bank.0))
        by_actor Keeper k below some =
            let same : sum_by keeper_try (filter (λ e. maker e == k) r.histories.keeper) ≡ sum_by keeper_try (calls_in C.shape k (r.work k)).keeper = ap (λ l. sum_by keeper_try l) (joined.worked.calls k below).keeper in
            omega (arith, some, same, part-le keeper_try (λ e. maker e == k) r.histories.keeper)

  event-of : (a : Actor) → IsIn C a → events_by C.shape a (r.work (owner r.workers a)) ≢ [] → HasEvent r a
  event-of a inside some none = some (none-mapped note_of (events_by C.shape a (r.work (owner r.workers a))) (sym (joined.merged.parts a inside) ∙ none))

  pub began-early : (a : Actor) → IsIn C a → sum_by far (r.began a) ≡ 0
  began-early a inside =
      let total : sum_by far (flat_map r.began (actors C)) ≡ 0 =
      sum_by-IsPermutation far (map (with_stamp 0) S.mails) (flat_map r.began (actors C)) joined.inboxes.began
      ∙ (sum-map far (with_stamp 0) S.mails ∙ sum-zero (λ m. far (with_stamp 0 m)) S.mails (λ k d small. refl)) in
      each-actor C (λ b. sum_by far (r.began b) ≡ 0) (zero-sum (λ b. sum_by far (r.began b)) (actors C) (sym (sum-flat far r.began (actors C)) ∙ total)) a inside

  posts-far : (a : Actor) → IsIn C a → posts_at far a r.histories ≡ 0
  posts-far a inside = posts-early C S T r reached joined a inside

  module _ (begun : HaveBegun C S r) where
    -- an actor whose inbox isn't empty
    inside-event : (a : Actor) → IsIn C a → 1 ≤ length (r.began a) → HasEvent r a
    inside-event (Core core) inside some =
        let below : core.0 < C.shape.cores = grind (arith, nat_tests, inside) in
        let start = begun.cores core below in
        let tries = tries-come (Core core) (Took core start.pick start.taken) start.rest start.acts (λ number. sum-only port_try _ (core.0 == core.0) 1 refl ∙ ap one_if (itself core.0)) in
        event-of (Core core) inside (λ none.
        port-moves (r.histories.ports core.0) (r.began (Core core)) (r.left (Core core)) (joined.closed.ports core.0 below) some (began-early (Core core) inside) (posts-far (Core core) inside) tries
        (core-tells C S T r joined.some joined.worked core
        ∙ ap (filter_map handled_in) (none-mapped step_done (steps_by core (r.work (owner r.workers (Core core)))) (steps-tell C.shape core (r.work (owner r.workers (Core core))) ∙ none))))
    inside-event (Bank bank) inside some =
        let below : bank.0 < C.shape.banks = grind (arith, nat_tests, inside) in
        let start = begun.banks bank below in
        let c = joined.closed.banks bank.0 below in
        let tries = tries-come (Bank bank) (Stepped bank start.0 start.1) start.2 start.3 (λ number. sum-only bank_try _ (bank.0 == bank.0) 1 refl ∙ ap one_if (itself bank.0)) in
        event-of (Bank bank) inside (λ none.
        bank-moves (r.histories.banks bank.0) (bank_in S bank.0 c.first (r.began (Bank bank)) 0) (bank_in T bank.0 c.last (r.left (Bank bank)) c.clock) c.legal some (omega arith)
        (reached-numbers C S (actor_index_in S (Bank bank)) most reached) (began-early (Bank bank) inside) (posts-far (Bank bank) inside) tries
        (bank-history C S T r joined.some joined.worked bank ∙ none))
    inside-event Keeper inside some =
        let start = begun.keeper in
        let c = joined.closed.keeper in
        let tries = tries-come Keeper (Kept start.0 start.1) start.2 start.3 (λ number. omega arith) in
        event-of Keeper inside (λ none.
        keeper-moves C.shape.cores r.histories.keeper (keeper_in S (r.began Keeper) 0) (keeper_in T (r.left Keeper) c.clock) c.legal some (omega arith)
        (reached-numbers C S (actor_index_in S Keeper) most reached) (began-early Keeper inside) (posts-far Keeper inside) tries
        (keeper-history C S T r joined.some joined.worked ∙ none))

    -- a mail in an inbox goes to its actor
    inbox-event : (m : Mail) (a : Actor) (place : ℕ) (p : Posted) → IsIn C a → slice_get (r.began a) place ≡ Some p → 1 ≤ is_mail m p → HasEvent r m.to
    inbox-event m a place p inside here same =
        let within = slice_get_within (r.began a) place p here in
        let is : with_stamp 0 m ≡ p = same_posted-true (with_stamp 0 m) p (passes (same_posted (with_stamp 0 m) p) same) in
        let at : get_or (r.began a) place p ≡ p = get_or_from_slice_get (r.began a) place p p here in
        let to : m.to ≡ a = ap (λ (q : Posted). q.mail.to) (is ∙ sym at) ∙ joined.inboxes.addressed a inside place p within in
        subst (HasEvent r) (sym to) (inside-event a inside (omega (arith, within)))

    actor-event : (m : Mail) (spot : ℕ) (a : Actor) → slice_get (actors C) spot ≡ Some a → 1 ≤ sum_by (is_mail m) (r.began a) → HasEvent r m.to
    actor-event m spot a here some =
        let inside : IsIn C a = subst (IsIn C) (get_or_from_slice_get (actors C) spot a a here) (all-inside C spot a (slice_get_within (actors C) spot a here)) in
        let mail = somewhere (is_mail m) (r.began a) some in
        inbox-event m a mail.0 mail.1 inside mail.2 mail.3

    -- a mail in flight is in an inbox
    mail-event : (place : ℕ) (m : Mail) → slice_get S.mails place ≡ Some m → HasEvent r m.to
    mail-event place m here =
        let me : is_mail m (with_stamp 0 m) ≡ 1 = ap bit (same_posted-refl (with_stamp 0 m)) in
        let weight = sum_by-IsPermutation (is_mail m) (map (with_stamp 0) S.mails) (flat_map r.began (actors C)) joined.inboxes.began in
        let mails = sum-map (is_mail m) (with_stamp 0) S.mails in
        let own = sum-left (λ x. is_mail m (with_stamp 0 x)) S.mails place m here in
        let parts = sum-flat (is_mail m) r.began (actors C) in
        let found = somewhere (λ a. sum_by (is_mail m) (r.began a)) (actors C) (omega (arith, me, weight, mails, own, parts)) in
        actor-event m found.0 found.1 found.2 found.3

    -- a node with an own event
    own-act : (core : CoreId) (n : NodeParts) (e : Event) → slice_get S.nodes core.0 ≡ Some n → own_event C n ≡ Some e → HasEvent r (Core core)
    own-act core n e here own =
        let machine = reached-machine C S reached in
        let cores : S.setting.shape.cores ≡ C.shape.cores = ap (λ (D : Setting). D.shape.cores) (reached-setting C S reached) in
        let below : core.0 < C.shape.cores = omega (arith, slice_get_within S.nodes core.0 n here, machine.nodes, cores) in
        let start = begun.cores core below in
        event-of (Core core) (grind (arith, nat_tests, below)) (λ none. by_taken start.pick start.taken start.rest start.own (sym (ap (events_in C.shape) start.acts) ∙ none)) where
          by_taken : (pick : ℕ) (taken : Option (Posted × Done)) (rest : List Act) → OwnComesNext C S core taken rest → events_in C.shape (Took core pick taken ∷ rest) ≡ [] → ⊥
          by_taken pick (Some t) rest next none = cc
          by_taken pick None rest next none =
              let made = next n e here own in
              let some : events_in C.shape (Made core e made.0 ∷ made.1) ≡ [] = sym (ap (events_in C.shape) made.2) ∙ none in
              never made.0 (events_in C.shape made.1) some where
                never : (d : Done) (ds : List Done) → d ∷ ds ≡ [] → ⊥
                never d ds e = cc

    pub all-acted : AllHaveActed C S r
    all-acted = record { mails = mail-event; own = own-act }
