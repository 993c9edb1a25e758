-- What an event leaves of the mails in flight: all but the one that it handles, and behind them those that it sends.
use Rattle.std.proofs.Common.{◌≡◌, ℕ, ◌+◌, ◌<◌, ◌≤◌, List, [], ◌∷◌, ◌++◌, length, map, drop, slice_get, slice_set, Option, Some, None, refl, sym, ap, subst, ◌∙◌, arith, length-append}
use Rattle.std.specs.Prelude.{position}
use Rattle.std.specs.List.{swap_remove}
use Rattle.std.proofs.lemmas.List.{drop_at, append-nil, map-append, length-map}
use Rattle.std.proofs.lemmas.Option.{none-some, slice_get_past, slice_get_within}
use Rattle.message_net.specs.declared.actor.Actor.{Actor}
use Rattle.message_net.specs.declared.actor.Actor.TheVariants.{Core, Bank, Keeper}
use Rattle.message_net.specs.declared.event.Event.{Event}
use Rattle.message_net.specs.declared.event.Event.TheVariants.{Instr, Evict, Arrive, Handle}
use Rattle.message_net.specs.declared.message.Mail.{Mail}
use Rattle.message_net.specs.declared.message.Message.{Message}
use Rattle.message_net.specs.declared.message.Outgoing.{Outgoing}
use Rattle.message_net.specs.Mail.{mails_of}
use Rattle.message_net.specs.Pool.{of_id, count_of, removed, removed_at, without_mail_at}
use Rattle.message_net.proofs.PoolLemmas.{position-found}
use Rattle.message_net.proofs.MailLemmas.{all_mails-append}
use Rattle.registry_bank.specs.Bank.{BankParts, bank_gets}
use Rattle.phase_barrier.specs.Barrier.{Barrier, keeper_gets}
use Rattle.phase_barrier.specs.Letters.{letters}
use Rattle.registration_protocol.specs.Node.{NodeParts}
use Rattle.registration_protocol.specs.OwnEvents.{instructed, evicted, arrives}
use Rattle.registration_protocol.specs.Messages.{node_gets}
use Rattle.machine_rules.specs.State.{State}
use Rattle.machine_rules.specs.Next.{next, actor_index_in, next_number, sends, posts, does_instr, does_evict, does_arrive, core_gets, bank_handles, gets, delivers}
use Rattle.machine_rules.specs.Sound.{IsMachine}
use Rattle.machine_rules.proofs.MachineMails.{unused}
use Rattle.run_chart.specs.declared.mails.SentMail.{SentMail}
use Rattle.run_chart.specs.Mails.{noted_mail, noted_mails, AreNotedFor, sent_on, place_handled, mails_left, mails_left_at}
use Rattle.run_chart.proofs.Noted.{noted-none, noted-here, noted-same, none-past, map-swap_remove, same-lengths}

-- the mails of a state stand first in another state, and behind them such that none in these states before has the id of
pub record AreBehind (S : State) (mails : List Mail) (T : State) : Type 0 where
  pub new : List Mail
  pub are : T.mails ≡ mails ++ new
  pub noted : (sent : List SentMail) (line : Option ℕ) → AreNotedFor sent S.mails → noted_mails new line sent ≡ map (sent_on line) new

-- ---- what is sent has ids of its own

fresh-ids : (S : State) (a : Actor) (number : ℕ) (outs : List Outgoing) → IsMachine S → next_number S a ≤ number → (sent : List SentMail) (line : Option ℕ) → AreNotedFor sent S.mails
    → noted_mails (mails_of a number outs) line sent ≡ map (sent_on line) (mails_of a number outs)
fresh-ids S a number [] good past sent line same = refl
fresh-ids S a number (out ∷ outs) good past sent line same =
    let none : count_of (record { sender = a; number = number }) S.mails ≡ 0 = unused (actor_index_in S) S.numbers S.mails a number good.numbered past in
    rw (noted-none sent S.mails (record { sender = a; number = number }) line same none, fresh-ids S a (number + 1) outs good (omega (arith, past)) sent line same) refl

-- a state with other parts, but for its setting and its numbers
abbrev changed : State → List NodeParts → List BankParts → Barrier → List Mail → State
changed S nodes banks keeper mails = record S { nodes = nodes; banks = banks; keeper = keeper; mails = mails }

nothing : (S T : State) (mails : List Mail) → T.mails ≡ mails → AreBehind S mails T
nothing S T mails is =
    record { new = []; are = is ∙ sym (append-nil mails); noted = λ sent line same. refl }

sent-some : (S : State) (nodes : List NodeParts) (banks : List BankParts) (keeper : Barrier) (mails : List Mail) (a : Actor) (sent : Option Outgoing) → IsMachine S
    → AreBehind S mails (sends (changed S nodes banks keeper mails) a sent)
sent-some S nodes banks keeper mails a None good = nothing S (changed S nodes banks keeper mails) mails refl
sent-some S nodes banks keeper mails a (Some out) good =
    record {
      new = mails_of a (next_number S a) (out ∷ []);
      are = refl;
      noted = fresh-ids S a (next_number S a) (out ∷ []) good (omega arith);
    }

posted-all : (S : State) (nodes : List NodeParts) (banks : List BankParts) (keeper : Barrier) (mails : List Mail) (outs : List Outgoing) → IsMachine S
    → AreBehind S mails (posts (changed S nodes banks keeper mails) outs)
posted-all S nodes banks keeper mails outs good =
    record {
      new = mails_of Keeper (next_number S Keeper) outs;
      are = all_mails-append Keeper (next_number S Keeper) outs mails;
      noted = fresh-ids S Keeper (next_number S Keeper) outs good (omega arith);
    }

-- ---- every event

own-event : (S : State) (a : Actor) (o : Option NodeParts) (T : Option NodeParts → State) (does : NodeParts → List NodeParts × Option Outgoing) → T None ≡ S
    → ((n : NodeParts) → T (Some n) ≡ sends (changed S (does n).0 S.banks S.keeper S.mails) a (does n).1) → IsMachine S → AreBehind S S.mails (T o)
own-event S a None T does none some good = nothing S (T None) S.mails (ap (λ (X : State). X.mails) none)
own-event S a (Some n) T does none some good =
    subst (λ (X : State). AreBehind S S.mails X) (sym (some n)) (sent-some S (does n).0 S.banks S.keeper S.mails a (does n).1 good)

gets-behind : (S : State) (mails : List Mail) (to : Actor) (m : Message) → IsMachine S → AreBehind S mails (gets (record S { mails = mails }) to m)
gets-behind S mails (Core core) m good = by_node (slice_get S.nodes core.0) where
  by_node : (o : Option NodeParts) → AreBehind S mails (core_gets (record S { mails = mails }) core m o)
  by_node None = nothing S (record S { mails = mails }) mails refl
  by_node (Some n) =
      sent-some S (slice_set S.nodes core.0 (node_gets S.setting n m).0) S.banks S.keeper mails (Core core)
      (node_gets S.setting n m).1.sent good
gets-behind S mails (Bank bank) m good = by_bank (slice_get S.banks bank.0) where
  by_bank : (o : Option BankParts) → AreBehind S mails (bank_handles (record S { mails = mails }) (Bank bank) bank.0 m o)
  by_bank None = nothing S (record S { mails = mails }) mails refl
  by_bank (Some b) =
      sent-some S S.nodes (slice_set S.banks bank.0 (bank_gets b m).0) S.keeper mails (Bank bank)
      (bank_gets b m).1 good
gets-behind S mails Keeper m good = posted-all S S.nodes S.banks (keeper_gets S.keeper m).0 mails (letters S.setting.shape.cores (keeper_gets S.keeper m).1) good

-- the mails that stay, by the place of the one that an event handles
abbrev pub staying : State → Event → List Mail
staying S (Handle id) = (removed id S.mails).1
staying S _ = S.mails

pub sent-behind : (S : State) (e : Event) → IsMachine S → AreBehind S (staying S e) (next S e)
unfolding next
sent-behind S (Instr core) good =
    own-event S (Core core) (slice_get S.nodes core.0) (does_instr S core)
    (λ n. (slice_set S.nodes core.0 (instructed S.setting n).0, (instructed S.setting n).1.sent)) refl (λ n. refl) good
sent-behind S (Evict core word) good =
    own-event S (Core core) (slice_get S.nodes core.0) (does_evict S core word)
    (λ n. (slice_set S.nodes core.0 (evicted S.setting n word).0, (evicted S.setting n word).1)) refl (λ n. refl) good
sent-behind S (Arrive core) good =
    own-event S (Core core) (slice_get S.nodes core.0) (does_arrive S core)
    (λ n. (slice_set S.nodes core.0 (arrives n).0, (arrives n).1)) refl (λ n. refl) good
sent-behind S (Handle id) good = by_mail (removed id S.mails).0 where
  by_mail : (o : Option Mail) → AreBehind S (removed id S.mails).1 (delivers (record S { mails = (removed id S.mails).1 }) o)
  by_mail None = nothing S (record S { mails = (removed id S.mails).1 }) (removed id S.mails).1 refl
  by_mail (Some m) = gets-behind S (removed id S.mails).1 m.to m.message good

-- ---- what is noted of the mails that stay

left-noted : (S : State) (e : Event) (sent : List SentMail) (line : Option ℕ) → IsMachine S → AreNotedFor sent S.mails → mails_left (place_handled S.mails e) sent ≡ noted_mails (staying S e) line sent
left-noted S (Instr core) sent line good same = sym (noted-same sent S.mails line same good.distinct)
left-noted S (Evict core word) sent line good same = sym (noted-same sent S.mails line same good.distinct)
left-noted S (Arrive core) sent line good same = sym (noted-same sent S.mails line same good.distinct)
left-noted S (Handle id) sent line good same = by_place (position (of_id id) S.mails) where
  by_place : (o : Option ℕ) → mails_left o sent ≡ noted_mails (removed_at S.mails o).1 line sent
  by_place None = sym (noted-same sent S.mails line same good.distinct)
  by_place (Some place) = by_mail (slice_get S.mails place) refl where
    past : slice_get S.mails place ≡ None → slice_get sent place ≡ None
    past none = slice_get_past sent place (omega (arith, same-lengths sent S.mails same, none-past S.mails place none))

    by_mail : (m : Option Mail) → slice_get S.mails place ≡ m → mails_left_at place sent (slice_get sent place) ≡ noted_mails (without_mail_at place S.mails) line sent
    by_mail None is = rw (is, past is) (sym (noted-same sent S.mails line same good.distinct))
    by_mail (Some m) is =
        let whole = noted-same sent S.mails line same good.distinct in
        let here = noted-here sent S.mails place m line same good.distinct is in
        rw (is, here) (sym (map-swap_remove (noted_mail line sent) S.mails place m ∙ ap (λ (l : List SentMail). swap_remove l place (noted_mail line sent m)) whole))

-- the list that is kept is the list that is noted anew
pub kept-is-noted : (S : State) (e : Event) (sent : List SentMail) (line : Option ℕ) → IsMachine S → AreNotedFor sent S.mails
    → mails_left (place_handled S.mails e) sent ++ map (sent_on line) (drop (length (mails_left (place_handled S.mails e) sent)) (next S e).mails) ≡ noted_mails (next S e).mails line sent
kept-is-noted S e sent line good same =
    let behind : AreBehind S (staying S e) (next S e) = sent-behind S e good in
    let stay : mails_left (place_handled S.mails e) sent ≡ noted_mails (staying S e) line sent = left-noted S e sent line good same in
    let long : length (staying S e) ≡ length (mails_left (place_handled S.mails e) sent) = sym (ap (λ (l : List SentMail). length l) stay ∙ length-map (staying S e) (noted_mail line sent)) in
    let rest : drop (length (mails_left (place_handled S.mails e) sent)) (next S e).mails ≡ behind.new = ap (λ (l : List Mail). drop (length (mails_left (place_handled S.mails e) sent)) l) behind.are ∙ drop_at (staying S e) behind.new (length (mails_left (place_handled S.mails e) sent)) long in
    ap (λ (l : List Mail). mails_left (place_handled S.mails e) sent ++ map (sent_on line) l) rest
    ∙ ap (λ (l : List SentMail). l ++ map (sent_on line) behind.new) stay
    ∙ ap (λ (l : List SentMail). noted_mails (staying S e) line sent ++ l) (sym (behind.noted sent line same))
    ∙ sym (map-append (noted_mail line sent) (staying S e) behind.new)
    ∙ ap (λ (l : List Mail). noted_mails l line sent) (sym behind.are)

pub fewer-left : (S : State) (e : Event) (sent : List SentMail) → IsMachine S → AreNotedFor sent S.mails → length (mails_left (place_handled S.mails e) sent) ≤ length (next S e).mails
fewer-left S e sent good same =
    let behind : AreBehind S (staying S e) (next S e) = sent-behind S e good in
    let long : length (mails_left (place_handled S.mails e) sent) ≡ length (staying S e) = ap (λ (l : List SentMail). length l) (left-noted S e sent None good same) ∙ length-map (staying S e) (noted_mail None sent) in
    omega (arith, long, ap (λ (l : List Mail). length l) behind.are, length-append (staying S e) behind.new)

pub place-within : (S : State) (e : Event) (sent : List SentMail) (p : ℕ) → AreNotedFor sent S.mails → place_handled S.mails e ≡ Some p → p < length sent
place-within S (Instr core) sent p same is = absurd (none-some p is)
place-within S (Evict core word) sent p same is = absurd (none-some p is)
place-within S (Arrive core) sent p same is = absurd (none-some p is)
place-within S (Handle id) sent p same is =
    omega (arith, same-lengths sent S.mails same, slice_get_within S.mails p (position-found id S.mails p is).0 (position-found id S.mails p is).1.here)
