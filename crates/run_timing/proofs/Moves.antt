-- What an event sends: mails of its actor, with the actor's next numbers.
use Rattle.std.proofs.Common.{◌≡◌, ◌≢◌, ℕ, ◌+◌, ◌<◌, ◌≤◌, ◌&&◌, Bool, true, false, cond, nat_lt, nat_le, List, [], ◌∷◌, length, slice_get, slice_set, slice_index, Option, Some, None, refl, sym, ap, subst, ◌∙◌, arith}
use Rattle.std.proofs.lemmas.Bool.Decides.{nat_tests}
use Rattle.std.proofs.lemmas.List.{get_or-set_other}
use Rattle.std.proofs.lemmas.Option.{none-some, same_Some}
use Rattle.dn_base.specs.declared.ids.CoreId.{CoreId}
use Rattle.message_net.specs.declared.actor.Actor.{Actor}
use Rattle.message_net.specs.declared.actor.Actor.TheVariants.{Core, Bank, Keeper}
use Rattle.message_net.specs.declared.actor.MailId.{MailId}
use Rattle.message_net.specs.declared.event.Event.{Event}
use Rattle.message_net.specs.declared.event.Event.TheVariants.{Instr, Evict, Arrive, Handle}
use Rattle.message_net.specs.declared.message.Mail.{Mail}
use Rattle.message_net.specs.declared.message.Message.{Message}
use Rattle.message_net.specs.declared.message.Outgoing.{Outgoing}
use Rattle.message_net.specs.Id.{same_actor}
use Rattle.message_net.specs.Mail.{has_actor, actor_index, all_mails}
use Rattle.message_net.specs.Pool.{of_id, count_of, removed}
use Rattle.message_net.proofs.PoolLemmas.{same_actor-true, same_actor-refl, sum_by-taken}
use Rattle.message_net.proofs.MailLemmas.{actor_index-within, sum_by-all_mails, count_of-mails_of}
use Rattle.registry_bank.specs.Bank.{BankParts, bank_gets}
use Rattle.phase_barrier.specs.Barrier.{Barrier, keeper_gets}
use Rattle.phase_barrier.specs.Letters.{letters}
use Rattle.registration_protocol.specs.Node.{NodeParts, Setting}
use Rattle.registration_protocol.specs.OwnEvents.{instructed, evicted, arrives}
use Rattle.registration_protocol.specs.Messages.{node_gets}
use Rattle.machine_rules.specs.State.{State}
use Rattle.machine_rules.specs.Next.{next, actor_index_in, sends, does_instr, does_evict, does_arrive, core_gets, bank_handles, gets, delivers}
use Rattle.machine_rules.specs.Sound.{IsMachine}
use Rattle.machine_rules.proofs.MachineMails.{raised-here, unused}
use Rattle.machine_rules.proofs.MachineKept.{posts_by}
use Rattle.dn_machine.specs.Actors.{receiver_of, actor_in}

-- whether a setting's machine has an actor, where it stands, and how many mails it has sent in a state
abbrev pub has : Setting → Actor → Bool
has C a = has_actor C.shape.cores C.shape.banks a

abbrev pub place : Setting → Actor → ℕ
place C a = actor_index C.shape.cores C.shape.banks a

abbrev pub sent_so_far : Setting → State → Actor → ℕ
sent_so_far C S a = slice_index S.numbers (place C a)

-- an event of an actor leads from one state to another: the mails that are new in flight are the actor's, with its next numbers
pub record IsMove (C : Setting) (S T : State) (a : Actor) : Type 0 where
  pub there : has C a ≡ true
  pub grows : sent_so_far C S a ≤ sent_so_far C T a
  pub others : (b : Actor) → has C b ≡ true → place C b ≢ place C a → sent_so_far C T b ≡ sent_so_far C S b
  pub sends : (id : MailId) → count_of id S.mails ≡ 0 → 1 ≤ count_of id T.mails → (id.sender ≡ a) × (sent_so_far C S a ≤ id.number) × (id.number < sent_so_far C T a)
  pub absent : (k : ℕ) → sent_so_far C S a ≤ k → count_of (record { sender = a; number = k }) S.mails ≡ 0
  pub in_flight : (k : ℕ) → sent_so_far C S a ≤ k → k < sent_so_far C T a → 1 ≤ count_of (record { sender = a; number = k }) T.mails

-- a state with other parts, but for its setting and its numbers
abbrev changed : State → List NodeParts → List BankParts → Barrier → List Mail → State
changed S nodes banks keeper mails = record S { nodes = nodes; banks = banks; keeper = keeper; mails = mails }

-- no mail is in these that isn't in those
abbrev AreFewer : List Mail → List Mail → Type 0
AreFewer left mails = (id : MailId) → count_of id left ≤ count_of id mails

-- ---- nothing is sent

stays : (S : State) (nodes : List NodeParts) (banks : List BankParts) (keeper : Barrier) (left : List Mail) (a : Actor) → IsMachine S → has S.setting a ≡ true → AreFewer left S.mails
    → IsMove S.setting S (changed S nodes banks keeper left) a
stays S nodes banks keeper left a good there fewer =
    record {
      there = there;
      grows = omega arith;
      others = λ b has_b apart. refl;
      sends = λ id none some. absurd (omega (arith, none, some, fewer id));
      absent = λ k past. unused (actor_index_in S) S.numbers S.mails a k good.numbered past;
      in_flight = λ k past below. absurd (omega (arith, past, below));
    }

-- ---- several messages are sent

counted : (from : Actor) (number : ℕ) (outs : List Outgoing) (mails : List Mail) (id : MailId)
    → count_of id (all_mails from number outs mails) ≡ count_of id mails + cond (same_actor from id.sender && (nat_le number id.number && nat_lt id.number (number + length outs))) 1 0
counted from number outs mails id =
    sum_by-all_mails (λ (m : Mail). cond (of_id id m) 1 0) from number outs mails ∙ ap (λ (n : ℕ). count_of id mails + n) (count_of-mails_of id from number outs)

new-mail : (from : Actor) (number : ℕ) (outs : List Outgoing) (mails : List Mail) (id : MailId) → count_of id mails ≡ 0 → 1 ≤ count_of id (all_mails from number outs mails)
    → (id.sender ≡ from) × (number ≤ id.number) × (id.number < number + length outs)
new-mail from number outs mails id none some = by_test (same_actor from id.sender && (nat_le number id.number && nat_lt id.number (number + length outs))) refl where
  by_test : (t : Bool) → (same_actor from id.sender && (nat_le number id.number && nat_lt id.number (number + length outs))) ≡ t → (id.sender ≡ from) × (number ≤ id.number) × (id.number < number + length outs)
  by_test true e = (sym (same_actor-true from id.sender (grind (arith, nat_tests))), grind (arith, nat_tests), grind (arith, nat_tests))
  by_test false e = let all = rw e at (counted from number outs mails id) in absurd (omega (arith, none, some, all))

mail-sent : (from : Actor) (number : ℕ) (outs : List Outgoing) (mails : List Mail) (k : ℕ) → number ≤ k → k < number + length outs → 1 ≤ count_of (record { sender = from; number = k }) (all_mails from number outs mails)
mail-sent from number outs mails k past below =
    let test : (same_actor from from && (nat_le number k && nat_lt k (number + length outs))) ≡ true = grind (arith, nat_tests, same_actor-refl from, past, below) in
    let all = rw test at (counted from number outs mails (record { sender = from; number = k })) in
    omega (arith, all)

posts : (S : State) (nodes : List NodeParts) (banks : List BankParts) (keeper : Barrier) (left : List Mail) (a : Actor) (outs : List Outgoing) → IsMachine S → has S.setting a ≡ true
    → AreFewer left S.mails → IsMove S.setting S (posts_by (changed S nodes banks keeper left) a outs) a
posts S nodes banks keeper left a outs good there fewer =
    record {
      there = there;
      grows = omega (arith, more);
      others = λ b has_b apart. get_or-set_other S.numbers (place S.setting a) (place S.setting b) (old + length outs) 0 apart;
      sends = λ id none some.
          let new = new-mail a old outs left id (omega (arith, none, fewer id)) some in
          (new.0, new.1, omega (arith, new.2, more));
      absent = λ k past. unused (actor_index_in S) S.numbers S.mails a k good.numbered past;
      in_flight = λ k past below. mail-sent a old outs left k past (omega (arith, below, more));
    }
  where
    old : ℕ
    old = sent_so_far S.setting S a

    more : slice_index (slice_set S.numbers (place S.setting a) (old + length outs)) (place S.setting a) ≡ old + length outs
    more =
        raised-here S.numbers (place S.setting a) (old + length outs)
        (omega (arith, good.numbers, actor_index-within S.setting.shape.cores S.setting.shape.banks a there))

sends-some : (S : State) (nodes : List NodeParts) (banks : List BankParts) (keeper : Barrier) (left : List Mail) (a : Actor) (sent : Option Outgoing) → IsMachine S → has S.setting a ≡ true
    → AreFewer left S.mails → IsMove S.setting S (sends (changed S nodes banks keeper left) a sent) a
sends-some S nodes banks keeper left a None good there fewer = stays S nodes banks keeper left a good there fewer
sends-some S nodes banks keeper left a (Some out) good there fewer = posts S nodes banks keeper left a (out ∷ []) good there fewer

-- ---- every event

all-there : (mails : List Mail) → AreFewer mails mails
all-there mails id = omega arith

core-own : (S : State) (core : CoreId) (o : Option NodeParts) (does : NodeParts → NodeParts × Option Outgoing) (T : Option NodeParts → State)
    → T None ≡ S → ((n : NodeParts) → T (Some n) ≡ sends (changed S (slice_set S.nodes core.0 (does n).0) S.banks S.keeper S.mails) (Core core) (does n).1)
    → IsMachine S → has S.setting (Core core) ≡ true → IsMove S.setting S (T o) (Core core)
core-own S core None does T none some good there = subst (λ (X : State). IsMove S.setting S X (Core core)) (sym none) (stays S S.nodes S.banks S.keeper S.mails (Core core) good there (all-there S.mails))
core-own S core (Some n) does T none some good there =
    subst (λ (X : State). IsMove S.setting S X (Core core)) (sym (some n))
    (sends-some S (slice_set S.nodes core.0 (does n).0) S.banks S.keeper S.mails (Core core) (does n).1 good there (all-there S.mails))

gets-move : (S : State) (left : List Mail) (to : Actor) (m : Message) → IsMachine S → has S.setting to ≡ true → AreFewer left S.mails → IsMove S.setting S (gets (record S { mails = left }) to m) to
gets-move S left (Core core) m good there fewer = by_node (slice_get S.nodes core.0) where
  by_node : (o : Option NodeParts) → IsMove S.setting S (core_gets (record S { mails = left }) core m o) (Core core)
  by_node None = stays S S.nodes S.banks S.keeper left (Core core) good there fewer
  by_node (Some n) =
      sends-some S (slice_set S.nodes core.0 (node_gets S.setting n m).0) S.banks S.keeper left (Core core) (node_gets S.setting n m).1.sent good there fewer
gets-move S left (Bank bank) m good there fewer = by_bank (slice_get S.banks bank.0) where
  by_bank : (o : Option BankParts) → IsMove S.setting S (bank_handles (record S { mails = left }) (Bank bank) bank.0 m o) (Bank bank)
  by_bank None = stays S S.nodes S.banks S.keeper left (Bank bank) good there fewer
  by_bank (Some b) = sends-some S S.nodes (slice_set S.banks bank.0 (bank_gets b m).0) S.keeper left (Bank bank) (bank_gets b m).1 good there fewer
gets-move S left Keeper m good there fewer =
    posts S S.nodes S.banks (keeper_gets S.keeper m).0 left Keeper (letters S.setting.shape.cores (keeper_gets S.keeper m).1) good there fewer

handle-move : (S : State) (id : MailId) (a : Actor) → IsMachine S → receiver_of (removed id S.mails).0 ≡ Some a → has S.setting a ≡ true
    → IsMove S.setting S (delivers (record S { mails = (removed id S.mails).1 }) (removed id S.mails).0) a
handle-move S id a good is there = by_mail (removed id S.mails).0 refl is where
  by_mail : (o : Option Mail) → (removed id S.mails).0 ≡ o → receiver_of o ≡ Some a → IsMove S.setting S (delivers (record S { mails = (removed id S.mails).1 }) o) a
  by_mail None e is = absurd (none-some a is)
  by_mail (Some m) e is =
      let to : m.to ≡ a = same_Some m.to a is in
      let fewer : AreFewer (removed id S.mails).1 S.mails = λ other. omega (arith, sum_by-taken (λ (x : Mail). cond (of_id other x) 1 0) id S.mails m e) in
      subst (λ (x : Actor). IsMove S.setting S (gets (record S { mails = (removed id S.mails).1 }) m.to m.message) x) to
      (gets-move S (removed id S.mails).1 m.to m.message good (rw to there) fewer)

pub event-move : (S : State) (e : Event) (a : Actor) → IsMachine S → actor_in S e ≡ Some a → has S.setting a ≡ true → IsMove S.setting S (next S e) a
unfolding next actor_in
event-move S (Instr core) a good is there =
    let own : Core core ≡ a = same_Some (Core core) a is in
    subst (λ (x : Actor). IsMove S.setting S (does_instr S core (slice_get S.nodes core.0)) x) own
    (core-own S core (slice_get S.nodes core.0) (λ n. ((instructed S.setting n).0, (instructed S.setting n).1.sent)) (does_instr S core) refl (λ n. refl) good (subst (λ (x : Actor). has S.setting x ≡ true) (sym own) there))
event-move S (Evict core word) a good is there =
    let own : Core core ≡ a = same_Some (Core core) a is in
    subst (λ (x : Actor). IsMove S.setting S (does_evict S core word (slice_get S.nodes core.0)) x) own
    (core-own S core (slice_get S.nodes core.0) (λ n. evicted S.setting n word) (does_evict S core word) refl (λ n. refl) good (subst (λ (x : Actor). has S.setting x ≡ true) (sym own) there))
event-move S (Arrive core) a good is there =
    let own : Core core ≡ a = same_Some (Core core) a is in
    subst (λ (x : Actor). IsMove S.setting S (does_arrive S core (slice_get S.nodes core.0)) x) own
    (core-own S core (slice_get S.nodes core.0) (λ n. arrives n) (does_arrive S core) refl (λ n. refl) good (subst (λ (x : Actor). has S.setting x ≡ true) (sym own) there))
event-move S (Handle id) a good is there = handle-move S id a good is there
