-- A state in which each task has ended or has fuel left goes on alike with more fuel.
use Rattle.std.proofs.Common.{◌≡◌, ℕ, suc, ◌≤◌, List, [], ◌∷◌, ◌++◌, map, slice_get, Option, Some, None, refl, sym, ap, ◌∙◌, subst, append_assoc}
use Rattle.rand_pcg.specs.Lcg.{Lcg}
use Rattle.dn_base.specs.declared.ids.CoreId.{CoreId}
use Rattle.dn_base.specs.declared.ids.WordId.{WordId}
use Rattle.dn_base.specs.declared.ids.Grant.{Grant}
use Rattle.message_net.specs.declared.actor.Actor.{Actor}
use Rattle.message_net.specs.declared.actor.Actor.TheVariants.{Core, Bank, Keeper}
use Rattle.message_net.specs.declared.event.Event.{Event}
use Rattle.message_net.specs.declared.event.Event.TheVariants.{Instr, Evict, Arrive, Handle}
use Rattle.message_net.specs.declared.message.Mail.{Mail}
use Rattle.message_net.specs.declared.message.Message.{Message}
use Rattle.message_net.specs.declared.message.Outgoing.{Outgoing}
use Rattle.message_net.specs.Pool.{removed}
use Rattle.registry_bank.specs.Bank.{BankParts}
use Rattle.registration_protocol.specs.declared.node.Received.{Received}
use Rattle.registration_protocol.specs.declared.node.Step.{Step}
use Rattle.registration_protocol.specs.Node.{NodeParts, Setting}
use Rattle.registration_protocol.specs.OwnEvents.{own_event}
use Rattle.machine_rules.specs.State.{State}
use Rattle.machine_rules.specs.Next.{core_does, does_instr, does_evict, does_arrive, core_gets, bank_handles, gets, delivers, next, granted_by, grant_of_mail, granted_with, granted_in}
use Rattle.machine_rules.specs.Runs.{after, grants_of}
use Rattle.run_agreement.specs.Agreed.{listed}
use Rattle.dn_machine.specs.Pick.{candidates, picked, pick}
use Rattle.dn_machine.specs.Run.{OfEachFront}
use Rattle.dn_machine.specs.Schedule.{word_of, after_word, IsPicked}
use Rattle.companion_laws.specs.MoreFuel.{with_fuel, state_with_fuel}
use Rattle.companion_laws.proofs.FuelNodes.{HasFuel, evicted-same, gets-same, own-same, instructed-same}

-- each task has ended, or has fuel left
abbrev pub HaveFuel : State → Type 0
HaveFuel S = (c : ℕ) (n : NodeParts) → slice_get S.nodes c ≡ Some n → HasFuel S.setting n

-- ---- the grants of a run

grants-first : (S : State) (e : Event) (es : List Event) → grants_of S (e ∷ es) ≡ listed (granted_in S e) ++ grants_of (next S e) es
grants-first S e es = by_told (granted_in S e) refl
  where
    by_told : (o : Option Grant) → granted_in S e ≡ o → grants_of S (e ∷ es) ≡ listed (granted_in S e) ++ grants_of (next S e) es
    by_told None is = rw (is) refl
    by_told (Some g) is = rw (is) refl

pub grants-append : (S : State) (front rest : List Event) → grants_of S (front ++ rest) ≡ grants_of S front ++ grants_of (after S front) rest
grants-append S [] rest = refl
grants-append S (e ∷ front) rest =
    grants-first S e (front ++ rest) ∙ ap (λ (gs : List Grant). listed (granted_in S e) ++ gs) (grants-append (next S e) front rest)
    ∙ sym (append_assoc (listed (granted_in S e)) (grants_of (next S e) front) (grants_of (after (next S e) front) rest))
    ∙ ap (λ (gs : List Grant). gs ++ grants_of (after (next S e) front) rest) (sym (grants-first S e front))

module _ (more : ℕ) where
  -- ---- the next state

  instr-next : (S : State) (core : CoreId) (o : Option NodeParts) → S.setting.fuel ≤ more → slice_get S.nodes core.0 ≡ o → HaveFuel S → does_instr (state_with_fuel more S) core o ≡ state_with_fuel more (does_instr S core o)
  instr-next S core None most found left = refl
  instr-next S core (Some n) most found left =
      ap (λ (x : NodeParts × Step). core_does (state_with_fuel more S) core x.0 x.1.sent) (instructed-same S.setting more most n (left core.0 n found))

  evict-next : (S : State) (core : CoreId) (word : WordId) (o : Option NodeParts) → does_evict (state_with_fuel more S) core word o ≡ state_with_fuel more (does_evict S core word o)
  evict-next S core word None = refl
  evict-next S core word (Some n) = ap (λ (x : NodeParts × Option Outgoing). core_does (state_with_fuel more S) core x.0 x.1) (evicted-same S.setting more n word)

  arrive-next : (S : State) (core : CoreId) (o : Option NodeParts) → does_arrive (state_with_fuel more S) core o ≡ state_with_fuel more (does_arrive S core o)
  arrive-next S core None = refl
  arrive-next S core (Some n) = refl

  core-gets : (S : State) (core : CoreId) (m : Message) (o : Option NodeParts) → core_gets (state_with_fuel more S) core m o ≡ state_with_fuel more (core_gets S core m o)
  core-gets S core m None = refl
  core-gets S core m (Some n) = ap (λ (x : NodeParts × Received). core_does (state_with_fuel more S) core x.0 x.1.sent) (gets-same S.setting more n m)

  bank-handles : (S : State) (from : Actor) (bank : ℕ) (m : Message) (o : Option BankParts) → bank_handles (state_with_fuel more S) from bank m o ≡ state_with_fuel more (bank_handles S from bank m o)
  bank-handles S from bank m None = refl
  bank-handles S from bank m (Some b) = refl

  all-get : (S : State) (to : Actor) (m : Message) → gets (state_with_fuel more S) to m ≡ state_with_fuel more (gets S to m)
  all-get S (Core core) m = core-gets S core m (slice_get S.nodes core.0)
  all-get S (Bank bank) m = bank-handles S (Bank bank) bank.0 m (slice_get S.banks bank.0)
  all-get S Keeper m = refl

  mail-next : (S : State) (o : Option Mail) → delivers (state_with_fuel more S) o ≡ state_with_fuel more (delivers S o)
  mail-next S None = refl
  mail-next S (Some m) = all-get S m.to m.message

  pub next-same : (S : State) (e : Event) → S.setting.fuel ≤ more → HaveFuel S → next (state_with_fuel more S) e ≡ state_with_fuel more (next S e)
  unfolding next
  next-same S (Instr core) most left = instr-next S core (slice_get S.nodes core.0) most refl left
  next-same S (Evict core word) most left = evict-next S core word (slice_get S.nodes core.0)
  next-same S (Arrive core) most left = arrive-next S core (slice_get S.nodes core.0)
  next-same S (Handle id) most left = mail-next (record S { mails = (removed id S.mails).1 }) (removed id S.mails).0

  -- ---- the grant that an event tells

  granted_by-same : (C : Setting) (m : Message) (o : Option NodeParts) → granted_by (with_fuel more C) m o ≡ granted_by C m o
  granted_by-same C m None = refl
  granted_by-same C m (Some n) = ap (λ (x : NodeParts × Received). x.1.granted) (gets-same C more n m)

  grant-of-same : (S : State) (to : Actor) (m : Message) → grant_of_mail (state_with_fuel more S) to m ≡ grant_of_mail S to m
  grant-of-same S (Core core) m = granted_by-same S.setting m (slice_get S.nodes core.0)
  grant-of-same S (Bank bank) m = refl
  grant-of-same S Keeper m = refl

  granted_with-same : (S : State) (o : Option Mail) → granted_with (state_with_fuel more S) o ≡ granted_with S o
  granted_with-same S None = refl
  granted_with-same S (Some m) = grant-of-same S m.to m.message

  granted-same : (S : State) (e : Event) → granted_in (state_with_fuel more S) e ≡ granted_in S e
  unfolding granted_in
  granted-same S (Instr core) = refl
  granted-same S (Evict core word) = refl
  granted-same S (Arrive core) = refl
  granted-same S (Handle id) = granted_with-same S (removed id S.mails).0

  -- ---- the pick

  map-at : {X Y : Type 0} (f g : X → Y) (xs : List X) → ((i : ℕ) (x : X) → slice_get xs i ≡ Some x → f x ≡ g x) → map f xs ≡ map g xs
  map-at f g [] same = refl
  map-at {X} {Y} f g (x ∷ xs) same =
      let rest : map f xs ≡ map g xs = map-at f g xs (λ i y there. same (suc i) y there) in
      ap (λ (y : Y). y ∷ map f xs) (same 0 x refl) ∙ ap (λ (ys : List Y). g x ∷ ys) rest

  pub pick-same : (S : State) (draw : ℕ) → S.setting.fuel ≤ more → HaveFuel S → pick (state_with_fuel more S) draw ≡ pick S draw
  unfolding pick
  pick-same S draw most left =
      ap (λ (own : List (Option Event)). picked (candidates own S.mails) draw)
      (map-at (own_event (with_fuel more S.setting)) (own_event S.setting) S.nodes (λ c n found. own-same S.setting more most n (left c n found)))

  -- ---- a run

  -- each task has fuel left or has ended, after each prefix of the events
  abbrev pub KeepFuel : State → List Event → Type 0
  KeepFuel S events = OfEachFront (λ (front : List Event). HaveFuel (after S front) × ((after S front).setting.fuel ≤ more)) events

  keep-rest : (S : State) (e : Event) (es : List Event) → KeepFuel S (e ∷ es) → KeepFuel (next S e) es
  keep-rest S e es keep = λ front rest parts. keep (e ∷ front) rest (ap (λ (xs : List Event). e ∷ xs) parts)

  pub picked-same : (S : State) (g : Lcg) (events : List Event) → KeepFuel S events → IsPicked S g events → IsPicked (state_with_fuel more S) g events
  picked-same S g [] keep is = let now = keep [] [] refl in pick-same S (word_of g) now.1 now.0 ∙ is
  picked-same S g (e ∷ es) keep is =
      let now = keep [] (e ∷ es) refl in
      let rest : IsPicked (state_with_fuel more (next S e)) (after_word g) es = picked-same (next S e) (after_word g) es (keep-rest S e es keep) is.1 in
      (pick-same S (word_of g) now.1 now.0 ∙ is.0, subst (λ (T : State). IsPicked T (after_word g) es) (sym (next-same S e now.1 now.0)) rest)

  pub after-same : (S : State) (front rest : List Event) → KeepFuel S (front ++ rest) → after (state_with_fuel more S) front ≡ state_with_fuel more (after S front)
  after-same S [] rest keep = refl
  after-same S (e ∷ front) rest keep =
      let now = keep [] (e ∷ (front ++ rest)) refl in
      ap (λ (T : State). after T front) (next-same S e now.1 now.0) ∙ after-same (next S e) front rest (keep-rest S e (front ++ rest) keep)

  pub grants-same : (S : State) (events : List Event) → KeepFuel S events → grants_of (state_with_fuel more S) events ≡ grants_of S events
  grants-same S [] keep = refl
  grants-same S (e ∷ es) keep =
      let now = keep [] (e ∷ es) refl in
      grants-first (state_with_fuel more S) e es ∙ ap (λ (o : Option Grant). listed o ++ grants_of (next (state_with_fuel more S) e) es) (granted-same S e)
      ∙ ap (λ (T : State). listed (granted_in S e) ++ grants_of T es) (next-same S e now.1 now.0)
      ∙ ap (λ (gs : List Grant). listed (granted_in S e) ++ gs) (grants-same (next S e) es (keep-rest S e es keep)) ∙ sym (grants-first S e es)
