-- There is one run in time order.
use Rattle.std.proofs.Common.{◌≡◌, inl, inr, ℕ, ◌≤◌, true, List, [], ◌∷◌, length, get_or, refl, sym, ap, subst, ◌∙◌, arith}
use Rattle.std.proofs.lemmas.Option.{same_Some}
use Rattle.message_net.specs.declared.actor.Actor.{Actor}
use Rattle.message_net.specs.declared.actor.MailId.{MailId}
use Rattle.message_net.specs.declared.event.Event.{Event}
use Rattle.message_net.specs.declared.event.Event.TheVariants.{Instr, Evict, Arrive, Handle}
use Rattle.message_net.specs.Mail.{has_actor}
use Rattle.message_net.specs.Pool.{count_of}
use Rattle.message_net.proofs.MailLemmas.{actor_index-own}
use Rattle.message_net.proofs.PoolLemmas.{found-counted}
use Rattle.machine_rules.specs.State.{State}
use Rattle.machine_rules.specs.Next.{next}
use Rattle.machine_rules.specs.Runs.{after, IsOver}
use Rattle.dn_machine.specs.Pick.{own_event_in}
use Rattle.run_replay.proofs.ToldMails.{sender-there}
use Rattle.run_timing.specs.declared.network.Network.{Network}
use Rattle.run_timing.specs.declared.ticks.Ticks.{Ticks}
use Rattle.time_order.specs.Clock.{Clock, clock_after_event}
use Rattle.time_order.specs.TimeOrder.{IsCandidate, key_of, IsNextEvent, AreInTimeOrder}
use Rattle.time_order.proofs.Less.{same-keys}
use Rattle.time_order.proofs.Nexts.{own-of, own-key}
use Rattle.time_order.proofs.Reached.{IsReached, well-reached, reached-next}
use Rattle.time_order.proofs.Rising.{candidate-comes}

six : (S : State) (K : Clock) (e : Event) → length (key_of S K e) ≡ 6
six S K (Instr core) = refl
six S K (Evict core word) = refl
six S K (Arrive core) = refl
six S K (Handle id) = refl

abbrev part : List ℕ → ℕ → ℕ
part xs i = get_or xs i 0

-- candidates with one key are one
same-candidate : (S : State) (K : Clock) (e f : Event) → IsReached S → IsCandidate S e → IsCandidate S f → key_of S K e ≡ key_of S K f → e ≡ f
same-candidate S K e f reached (inl own) (inl other) same =
    let well = well-reached S reached in
    let first = own-key S K own.0 e (own-of S own.0 e well own.1).1 in
    let second = own-key S K other.0 f (own-of S other.0 f well other.1).1 in
    let place : own.0 ≡ other.0 = ap (λ (xs : List ℕ). part xs 1) (sym first ∙ (same ∙ second)) in
    same_Some e f (sym own.1 ∙ (ap (own_event_in S) place ∙ other.1))
same-candidate S K e f reached (inl own) (inr mail) same =
    let well = well-reached S reached in
    let first = own-key S K own.0 e (own-of S own.0 e well own.1).1 in
    let kinds : 1 ≡ 0 = ap (λ (xs : List ℕ). part xs 2) (sym first ∙ (same ∙ ap (key_of S K) mail.1)) in
    absurd (omega (arith, kinds))
same-candidate S K e f reached (inr mail) (inl own) same =
    let well = well-reached S reached in
    let first = own-key S K own.0 f (own-of S own.0 f well own.1).1 in
    let kinds : 1 ≡ 0 = ap (λ (xs : List ℕ). part xs 2) (sym first ∙ (sym same ∙ ap (key_of S K) mail.1)) in
    absurd (omega (arith, kinds))
same-candidate S K e f reached (inr mail) (inr other) same =
    mail.1 ∙ (ap Handle one ∙ sym other.1)
  where
    keys : key_of S K (Handle mail.0) ≡ key_of S K (Handle other.0)
    keys = ap (key_of S K) (sym mail.1) ∙ (same ∙ ap (key_of S K) other.1)

    there : (id : MailId) → 1 ≤ count_of id S.mails → has_actor S.setting.shape.cores S.setting.shape.banks id.sender ≡ true
    there id some =
        let found = found-counted id S.mails some in
        subst (λ (x : MailId). has_actor S.setting.shape.cores S.setting.shape.banks x.sender ≡ true) found.2.named (sender-there S found.0 found.1 reached.sent found.2.here)

    senders : mail.0.sender ≡ other.0.sender
    senders =
        actor_index-own S.setting.shape.cores S.setting.shape.banks mail.0.sender other.0.sender (there mail.0 mail.2) (there other.0 other.2)
        (ap (λ (xs : List ℕ). part xs 4) keys)

    numbers : mail.0.number ≡ other.0.number
    numbers = ap (λ (xs : List ℕ). part xs 5) keys

    one : mail.0 ≡ other.0
    one = ap (λ (a : Actor). let id : MailId = record { sender = a; number = mail.0.number } in id) senders ∙ ap (λ (n : ℕ). let id : MailId = record { sender = other.0.sender; number = n } in id) numbers

same-next : (S : State) (K : Clock) (e f : Event) → IsReached S → IsNextEvent S K e → IsNextEvent S K f → e ≡ f
same-next S K e f reached is also =
    same-candidate S K e f reached is.candidate also.candidate
    (same-keys (key_of S K e) (key_of S K f) (six S K e ∙ sym (six S K f)) (also.least e is.candidate) (is.least f also.candidate))

not-over : (S : State) (K : Clock) (e : Event) → IsReached S → IsNextEvent S K e → IsOver S → ⊥
not-over S K e reached is over =
    let may = candidate-comes S e (well-reached S reached) is.candidate in
    let never = over e in
    absurd (cc)

pub one-order : (ticks : Ticks) (network : Network) (S : State) (K : Clock) (events others : List Event) → IsReached S → AreInTimeOrder ticks network S K events → IsOver (after S events)
    → AreInTimeOrder ticks network S K others → IsOver (after S others) → events ≡ others
one-order ticks network S K [] [] reached order over other also = refl
one-order ticks network S K [] (f ∷ fs) reached order over other also = absurd (not-over S K f reached other.0 over)
one-order ticks network S K (e ∷ es) [] reached order over other also = absurd (not-over S K e reached order.0 also)
one-order ticks network S K (e ∷ es) (f ∷ fs) reached order over other also =
    let same : e ≡ f = same-next S K e f reached order.0 other.0 in
    let may = candidate-comes S e (well-reached S reached) order.0.candidate in
    let order' : AreInTimeOrder ticks network (next S e) (clock_after_event ticks network S K e) fs = subst (λ (x : Event). AreInTimeOrder ticks network (next S x) (clock_after_event ticks network S K x) fs) (sym same) other.1 in
    let over' : IsOver (after (next S e) fs) = subst (λ (x : Event). IsOver (after (next S x) fs)) (sym same) also in
    let rest = one-order ticks network (next S e) (clock_after_event ticks network S K e) es fs (reached-next S e reached may) order.1 over order' over' in
    ap (λ (x : Event). x ∷ es) same ∙ ap (λ (xs : List Event). f ∷ xs) rest
