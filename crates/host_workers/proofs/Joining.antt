-- What the workers of a round leave, by actors: each actor's steps, and what they all take and give.
use Rattle.std.proofs.Common.{◌≡◌, ◌≢◌, ℕ, ◌+◌, ◌<◌, ◌≤◌, Bool, true, false, List, [], ◌∷◌, length, get_or, map, slice_get, Option, Some, None, refl, sym, ap, subst, ◌∙◌, arith, true≢false}
use Rattle.std.specs.Prelude.{sum_by, filter, filter_map}
use Rattle.std.specs.List.{range_with_len}
use Rattle.std.proofs.lemmas.List.Sums.{sum_by-cons}
use Rattle.dn_base.specs.declared.ids.CoreId.{CoreId}
use Rattle.dn_base.specs.declared.ids.BankId.{BankId}
use Rattle.message_net.specs.declared.actor.Actor.{Actor}
use Rattle.message_net.specs.declared.actor.Actor.TheVariants.{Core, Bank, Keeper}
use Rattle.message_net.specs.Id.{same_actor}
use Rattle.message_net.specs.Mail.{has_actor}
use Rattle.message_net.proofs.PoolLemmas.{same_actor-true}
use Rattle.grant_log.specs.declared.log.Stamped.{Stamped}
use Rattle.grant_log.specs.Log.{of_actor}
use Rattle.registration_protocol.specs.Node.{Setting}
use Rattle.registry_bank.specs.Bank.{BankParts}
use Rattle.machine_rules.specs.State.{State}
use Rattle.machine_rules.specs.Sound.{IsMachine}
use Rattle.turn_lock.specs.History.{maker}
use Rattle.grant_log.specs.declared.posted.Posted.{Posted}
use Rattle.host_workers.specs.Members.{member, IsIn}
use Rattle.host_workers.specs.Steps.{Step, Done, Goes}
use Rattle.host_workers.specs.Acts.{Act, actor_of, is_act_of, act_done, note_of, events_in, events_by, core_step, steps_by, calls_in}
use Rattle.host_workers.specs.Rounds.{Round, owner, actors, bank_in, keeper_in, IsHallClosed, HaveWorked, IsMerged, IsOwn}
use Rattle.host_workers.proofs.Weights.{sum-flat, sum-agree, sum-same, sum-flip, sum-parted, parts-weigh, told-cons}
use Rattle.host_workers.proofs.Actors.{actor-once, all-inside, in-range}
use Rattle.host_workers.proofs.Shares.{one-share, none-of, by-passes, one-tells}
use Rattle.host_workers.proofs.Weaving.{step_note}
use Rattle.host_workers.proofs.ActSteps.{takes, given, weigh_in}
use Rattle.host_workers.proofs.Objects.{bank_post, bank_told, keeper_post, keeper_told, port_post, port_told, step_done, bank_member, bank-part, keeper_member, keeper-part, port-flow}
use Rattle.host_workers.proofs.Traces.{posts_at, posts-sent, weigh_to, sent_in, bank-tells, keeper-tells, port-tells, handled_in, takes-handled, steps-tell}
use Rattle.host_workers.proofs.Numbers.{below-bound, remainder}

-- an actor's steps in a round. An actor that the machine lacks has none
pub record PartOf (C : Setting) (S T : State) (r : Round) (a : Actor) : Type 0 where
  pub steps : List Step
  pub none : has_actor C.shape.cores C.shape.banks a ≡ false → steps ≡ []
  pub notes : filter (of_actor a) r.merged ≡ map step_note steps
  pub goes : IsIn C a → Goes C a 0 (member S a) steps (member T a)
  pub told : IsIn C a → map step_done steps ≡ events_by C.shape a (r.work (owner r.workers a))
  pub flow : IsIn C a → (f : Posted → ℕ) → sum_by (takes f) steps + sum_by f (r.left a) ≡ sum_by f (r.began a) + posts_at f a r.histories

-- what each step noted
pub noted : (ss : List Step) → map step_note ss ≡ map note_of (map step_done ss)
noted [] = refl
noted (s ∷ ss) = ap (λ l. step_note s ∷ l) (noted ss)

member-bank : (S : State) (bank : BankId) (b : BankParts) (inbox : List Posted) (clock : ℕ) → slice_get S.banks bank.0 ≡ Some b → bank_member (bank_in S bank.0 b inbox clock) ≡ member S (Bank bank)
unfolding member
member-bank S bank b inbox clock there = rw there refl

member-keeper : (S : State) (inbox : List Posted) (clock : ℕ) → keeper_member (keeper_in S inbox clock) ≡ member S Keeper
unfolding member
member-keeper S inbox clock = refl

module _ (C : Setting) (S T : State) (r : Round) (some : 1 ≤ r.workers) (worked : HaveWorked C S T r) where
  pub owned : (a : Actor) → owner r.workers a < r.workers
  owned (Core core) = remainder core.0 r.workers some
  owned (Bank bank) = remainder bank.0 r.workers some
  owned Keeper = omega (arith, some)

  -- another worker has no act of an actor
  pub others-rest : (a : Actor) (k : ℕ) → k < r.workers → k ≢ owner r.workers a → filter (is_act_of a) (r.work k) ≡ []
  others-rest a k below other = none-of (is_act_of a) (r.work k) (λ i d within. by_test (get_or (r.work k) i d) (worked.own k below i d within) (is_act_of a (get_or (r.work k) i d)) refl) where
    by_test : (act : Act) → IsOwn C r.workers k act → (t : Bool) → is_act_of a act ≡ t → is_act_of a act ≡ false
    by_test act own true e =
        let is : a ≡ actor_of act = same_actor-true a (actor_of act) e in
        absurd (other (sym (ap (owner r.workers) is ∙ own.1)))
    by_test act own false e = e

  others-tell : (a : Actor) (k : ℕ) → k < r.workers → k ≢ owner r.workers a → events_by C.shape a (r.work k) ≡ []
  others-tell a k below other = ap (events_in C.shape) (others-rest a k below other)

  others-step : (core : CoreId) (k : ℕ) → k < r.workers → k ≢ owner r.workers (Core core) → filter_map handled_in (steps_by core (r.work k)) ≡ []
  others-step core k below other = ap (λ acts. filter_map handled_in (filter_map core_step acts)) (others-rest (Core core) k below other)

  -- ---- what comes into the inboxes

  abbrev pub shares : List ℕ
  shares = range_with_len 0 r.workers

  posts-shared : (f : Posted → ℕ) (a : Actor) → posts_at f a r.histories ≡ sum_by (λ k. posts_at f a (calls_in C.shape k (r.work k))) shares
  posts-shared f (Core core) =
      sym (by-passes maker (r.histories.ports core.0) r.workers (worked.named.ports core.0) (port_post f))
      ∙ sum-agree _ _ shares (in-range _ r.workers (λ k below. ap (λ l. sum_by (port_post f) l) ((worked.calls k below).ports core.0)))
  posts-shared f (Bank bank) =
      sym (by-passes maker (r.histories.banks bank.0) r.workers (worked.named.banks bank.0) (bank_post f))
      ∙ sum-agree _ _ shares (in-range _ r.workers (λ k below. ap (λ l. sum_by (bank_post f) l) ((worked.calls k below).banks bank.0)))
  posts-shared f Keeper =
      sym (by-passes maker r.histories.keeper r.workers worked.named.keeper (keeper_post f))
      ∙ sum-agree _ _ shares (in-range _ r.workers (λ k below. ap (λ l. sum_by (keeper_post f) l) (worked.calls k below).keeper))

  pub posts-come : (f : Posted → ℕ) (a : Actor) → IsIn C a → posts_at f a r.histories ≡ sum_by (λ k. sum_by (weigh_to f a) (sent_in C.shape (r.work k))) shares
  posts-come f a inside =
      posts-shared f a
      ∙ sum-same (λ k. posts_at f a (calls_in C.shape k (r.work k))) (λ k. sum_by (weigh_to f a) (sent_in C.shape (r.work k))) shares (λ k. posts-sent C.shape f a k (r.work k) inside)

  -- all that comes in was sent
  pub all-come : (f : Posted → ℕ) → sum_by (λ a. posts_at f a r.histories) (actors C) ≡ sum_by (λ k. sum_by (given C f) (events_in C.shape (r.work k))) shares
  all-come f =
      sum-agree (λ a. posts_at f a r.histories) (λ a. sum_by (λ k. sum_by (weigh_to f a) (sent_in C.shape (r.work k))) shares) (actors C) (λ i d within. posts-come f (get_or (actors C) i d) (all-inside C i d within))
      ∙ (sum-flip (λ a k. sum_by (weigh_to f a) (sent_in C.shape (r.work k))) (actors C) shares
      ∙ sum-same (λ k. sum_by (λ a. sum_by (weigh_to f a) (sent_in C.shape (r.work k))) (actors C)) (λ k. sum_by (given C f) (events_in C.shape (r.work k))) shares (λ k.
      sum-parted (λ a (p : Posted). same_actor a p.mail.to) (λ (p : Posted). has_actor C.shape.cores C.shape.banks p.mail.to) (actors C) (λ p. actor-once C p.mail.to) f (sent_in C.shape (r.work k))
      ∙ sum-flat (weigh_in C f) (λ (d : Done). d.sent) (events_in C.shape (r.work k))))

  -- ---- what the events give, actor by actor

  abbrev weight : (Done → ℕ) → Option Done → ℕ
  weight g None = 0
  weight g (Some d) = g d

  sum-events : (g : Done → ℕ) (acts : List Act) → sum_by g (events_in C.shape acts) ≡ sum_by (λ act. weight g (act_done C.shape act)) acts
  sum-events g [] = refl
  sum-events g (act ∷ acts) = by_done (act_done C.shape act) refl (sum-events g acts) where
    by_done : (o : Option Done) → act_done C.shape act ≡ o → sum_by g (events_in C.shape acts) ≡ sum_by (λ x. weight g (act_done C.shape x)) acts → sum_by g (events_in C.shape (act ∷ acts)) ≡ sum_by (λ x. weight g (act_done C.shape x)) (act ∷ acts)
    by_done None e rest =
        let here : weight g (act_done C.shape act) ≡ 0 = ap (weight g) e in
        ap (λ l. sum_by g l) (told-cons (act_done C.shape) act acts None e) ∙ omega (arith, here, rest, sum_by-cons (λ x. weight g (act_done C.shape x)) act acts)
    by_done (Some d) e rest =
        let here : weight g (act_done C.shape act) ≡ g d = ap (weight g) e in
        ap (λ l. sum_by g l) (told-cons (act_done C.shape) act acts (Some d) e) ∙ omega (arith, here, rest, sum_by-cons g d (events_in C.shape acts), sum_by-cons (λ x. weight g (act_done C.shape x)) act acts)

  -- the events of a worker, by actors
  events-parted : (g : Done → ℕ) (k : ℕ) → k < r.workers → sum_by (λ a. sum_by g (events_by C.shape a (r.work k))) (actors C) ≡ sum_by g (events_in C.shape (r.work k))
  events-parted g k below =
      sum-same (λ a. sum_by g (events_by C.shape a (r.work k))) (λ a. sum_by (λ act. weight g (act_done C.shape act)) (filter (is_act_of a) (r.work k))) (actors C) (λ a. sum-events g (filter (is_act_of a) (r.work k)))
      ∙ (parts-weigh is_act_of (λ act. has_actor C.shape.cores C.shape.banks (actor_of act)) (actors C) (λ act. actor-once C (actor_of act)) (λ act. weight g (act_done C.shape act)) (r.work k) (λ i d within. (worked.own k below i d within).0)
      ∙ sym (sum-events g (r.work k)))

  -- an actor's events are those of its owner
  events-owned : (g : Done → ℕ) (a : Actor) → sum_by (λ k. sum_by g (events_by C.shape a (r.work k))) shares ≡ sum_by g (events_by C.shape a (r.work (owner r.workers a)))
  events-owned g a = one-share (λ k. sum_by g (events_by C.shape a (r.work k))) (owner r.workers a) r.workers (owned a) (λ k below other. ap (λ l. sum_by g l) (others-tell a k below other))

  pub all-give : (g : Done → ℕ) → sum_by (λ k. sum_by g (events_in C.shape (r.work k))) shares ≡ sum_by (λ a. sum_by g (events_by C.shape a (r.work (owner r.workers a)))) (actors C)
  all-give g =
      sum-agree (λ k. sum_by g (events_in C.shape (r.work k))) (λ k. sum_by (λ a. sum_by g (events_by C.shape a (r.work k))) (actors C)) shares (in-range (λ k. sum_by g (events_in C.shape (r.work k)) ≡ sum_by (λ a. sum_by g (events_by C.shape a (r.work k))) (actors C)) r.workers (λ k below. sym (events-parted g k below)))
      ∙ (sum-flip (λ k a. sum_by g (events_by C.shape a (r.work k))) shares (actors C)
      ∙ sum-same (λ a. sum_by (λ k. sum_by g (events_by C.shape a (r.work k))) shares) (λ a. sum_by g (events_by C.shape a (r.work (owner r.workers a)))) (actors C) (events-owned g))

  -- ---- what the histories tell

  pub core-tells : (core : CoreId) → filter_map port_told (r.histories.ports core.0) ≡ filter_map handled_in (steps_by core (r.work (owner r.workers (Core core))))
  core-tells core =
      let own = owner r.workers (Core core) in
      sym (one-tells maker (r.histories.ports core.0) r.workers (worked.named.ports core.0) port_told (owner r.workers (Core core)) (λ k small other.
      ap (filter_map port_told) ((worked.calls k small).ports core.0) ∙ (port-tells C.shape core k (r.work k) ∙ others-step core k small other)))
      ∙ (ap (filter_map port_told) ((worked.calls own (owned (Core core))).ports core.0) ∙ port-tells C.shape core own (r.work own))

  pub bank-history : (bank : BankId) → filter_map bank_told (r.histories.banks bank.0) ≡ events_by C.shape (Bank bank) (r.work (owner r.workers (Bank bank)))
  bank-history bank =
      let own = owner r.workers (Bank bank) in
      sym (one-tells maker (r.histories.banks bank.0) r.workers (worked.named.banks bank.0) bank_told own (λ k small other.
      ap (filter_map bank_told) ((worked.calls k small).banks bank.0) ∙ (bank-tells C.shape bank k (r.work k) ∙ others-tell (Bank bank) k small other)))
      ∙ (ap (filter_map bank_told) ((worked.calls own (owned (Bank bank))).banks bank.0) ∙ bank-tells C.shape bank own (r.work own))

  pub keeper-history : filter_map (keeper_told C.shape.cores) r.histories.keeper ≡ events_by C.shape Keeper (r.work 0)
  keeper-history =
      sym (one-tells maker r.histories.keeper r.workers worked.named.keeper (keeper_told C.shape.cores) 0 (λ k small other.
      ap (filter_map (keeper_told C.shape.cores)) (worked.calls k small).keeper ∙ (keeper-tells C.shape k (r.work k) ∙ others-tell Keeper k small other)))
      ∙ (ap (filter_map (keeper_told C.shape.cores)) (worked.calls 0 (owned Keeper)).keeper ∙ keeper-tells C.shape 0 (r.work 0))

  -- ---- the steps of each actor

  module _ (closed : IsHallClosed C S T r) (merged : IsMerged C r) (machine : IsMachine S) (setting : S.setting ≡ C) where
    noted-by : (a : Actor) (steps : List Step) → IsIn C a → map step_done steps ≡ events_by C.shape a (r.work (owner r.workers a)) → filter (of_actor a) r.merged ≡ map step_note steps
    noted-by a steps inside told = merged.parts a inside ∙ (ap (map note_of) (sym told) ∙ sym (noted steps))

    core-part : (core : CoreId) → IsIn C (Core core) → PartOf C S T r (Core core)
    core-part core inside =
        let below = below-bound core.0 C.shape.cores inside in
        record {
          steps = steps_by core (r.work (owner r.workers (Core core)));
          none = λ out. absurd (true≢false (sym inside ∙ out));
          notes = noted-by (Core core) (steps_by core (r.work (owner r.workers (Core core)))) inside (steps-tell C.shape core (r.work (owner r.workers (Core core))));
          goes = λ _. worked.cores core below;
          told = λ _. steps-tell C.shape core (r.work (owner r.workers (Core core)));
          flow = λ _ f.
              let taken : sum_by (takes f) (steps_by core (r.work (owner r.workers (Core core)))) ≡ sum_by f (filter_map port_told (r.histories.ports core.0)) =
              takes-handled f (steps_by core (r.work (owner r.workers (Core core)))) ∙ ap (λ l. sum_by f l) (sym (core-tells core)) in
              omega (arith, taken, port-flow (r.histories.ports core.0) (r.began (Core core)) (r.left (Core core)) (closed.ports core.0 below) f);
        }

    bank-own : (bank : BankId) → IsIn C (Bank bank) → PartOf C S T r (Bank bank)
    bank-own bank inside =
        let below = below-bound bank.0 C.shape.banks inside in
        let c = closed.banks bank.0 below in
        let number : Bank (record { 0 = c.first.bank }) ≡ Bank bank = ap (λ n. Bank (record { 0 = n })) (machine.bank bank.0 c.first c.was).bank in
        let part = bank-part C bank (r.histories.banks bank.0) (bank_in S bank.0 c.first (r.began (Bank bank)) 0) (bank_in T bank.0 c.last (r.left (Bank bank)) c.clock) number c.legal in
        let told : map step_done part.steps ≡ events_by C.shape (Bank bank) (r.work (owner r.workers (Bank bank))) =
        part.told ∙ bank-history bank in
        record {
          steps = part.steps;
          none = λ out. absurd (true≢false (sym inside ∙ out));
          notes = noted-by (Bank bank) part.steps inside told;
          goes = λ _. subst (λ x. Goes C (Bank bank) 0 x part.steps (member T (Bank bank))) (member-bank S bank c.first (r.began (Bank bank)) 0 c.was)
              (subst (λ x. Goes C (Bank bank) 0 (bank_member (bank_in S bank.0 c.first (r.began (Bank bank)) 0)) part.steps x) (member-bank T bank c.last (r.left (Bank bank)) c.clock c.is) part.goes);
          told = λ _. told;
          flow = λ _. part.flow;
        }

    keeper-own : IsIn C Keeper → PartOf C S T r Keeper
    keeper-own inside =
        let c = closed.keeper in
        let all : length S.keeper.arrived ≡ C.shape.cores = machine.cores ∙ ap (λ (x : Setting). x.shape.cores) setting in
        let part = keeper-part C r.histories.keeper (keeper_in S (r.began Keeper) 0) (keeper_in T (r.left Keeper) c.clock) all c.legal in
        let told : map step_done part.steps ≡ events_by C.shape Keeper (r.work 0) =
        part.told ∙ keeper-history in
        record {
          steps = part.steps;
          none = λ out. absurd (true≢false (sym inside ∙ out));
          notes = noted-by Keeper part.steps inside told;
          goes = λ _. subst (λ x. Goes C Keeper 0 x part.steps (member T Keeper)) (member-keeper S (r.began Keeper) 0)
              (subst (λ x. Goes C Keeper 0 (keeper_member (keeper_in S (r.began Keeper) 0)) part.steps x) (member-keeper T (r.left Keeper) c.clock) part.goes);
          told = λ _. told;
          flow = λ _. part.flow;
        }

    inside-part : (a : Actor) → IsIn C a → PartOf C S T r a
    inside-part (Core core) = core-part core
    inside-part (Bank bank) = bank-own bank
    inside-part Keeper = keeper-own

    -- an actor that the machine lacks noted nothing
    outside-part : (a : Actor) → has_actor C.shape.cores C.shape.banks a ≡ false → PartOf C S T r a
    outside-part a out = record {
      steps = [];
      none = λ _. refl;
      notes = none-of (of_actor a) r.merged (λ i d within. by_test (get_or r.merged i d) (merged.inside i d within) (of_actor a (get_or r.merged i d)) refl);
      goes = λ inside. absurd (true≢false (sym inside ∙ out));
      told = λ inside. absurd (true≢false (sym inside ∙ out));
      flow = λ inside. absurd (true≢false (sym inside ∙ out));
    }
      where
        by_test : (e : Stamped) → IsIn C e.actor → (t : Bool) → of_actor a e ≡ t → of_actor a e ≡ false
        by_test e inside true is = absurd (true≢false (sym inside ∙ (ap (has_actor C.shape.cores C.shape.banks) (sym (same_actor-true a e.actor is)) ∙ out)))
        by_test e inside false is = is

    pub part-of : (a : Actor) → PartOf C S T r a
    part-of a = by_test (has_actor C.shape.cores C.shape.banks a) refl where
      by_test : (t : Bool) → has_actor C.shape.cores C.shape.banks a ≡ t → PartOf C S T r a
      by_test true inside = inside-part a inside
      by_test false out = outside-part a out
