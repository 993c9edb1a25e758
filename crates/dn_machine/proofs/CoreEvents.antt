-- What an event of a core makes of the state, by the node that is there.
use Rattle.std.proofs.Common.{◌≡◌, ℕ, ◌<◌, ◌≤◌, ◌==◌, Bool, true, false, cond, ◌&&◌, nat_lt, List, length, map, slice_get, slice_set, slice_index, Option, Some, None, refl, sym, ◌∙◌, subst, arith}
use Rattle.std.proofs.lemmas.Bool.Decides.{nat_tests}
use Rattle.std.proofs.lemmas.List.{map-set, length-map}
use Rattle.std.proofs.lemmas.Option.{slice_get_past}
use Rattle.std.proofs.Math.ListN.{length-set}
use Rattle.dn_base.specs.declared.ids.CoreId.{CoreId}
use Rattle.dn_base.specs.declared.ids.WordId.{WordId}
use Rattle.message_net.specs.declared.actor.Actor.{Actor}
use Rattle.message_net.specs.declared.actor.Actor.TheVariants.{Core}
use Rattle.message_net.specs.declared.message.Mail.{Mail}
use Rattle.message_net.specs.Mail.{mails_with}
use Rattle.registry_bank.specs.Bank.{BankParts}
use Rattle.message_net.specs.declared.event.Event.{Event}
use Rattle.message_net.specs.declared.event.Event.TheVariants.{Instr, Evict, Arrive}
use Rattle.message_net.specs.declared.event.EventKind as kind
use Rattle.message_net.specs.declared.message.Outgoing.{Outgoing}
use Rattle.registration_protocol.specs.Node.{NodeParts, Setting}
use Rattle.registration_protocol.specs.Fit.{Fits}
use Rattle.registration_protocol.specs.OwnEvents.{may_instr, may_evict, may_arrive, instructed, evicted, arrives, own_event}
use Rattle.machine_rules.specs.State.{State}
use Rattle.machine_rules.specs.Next.{next, enabled, sends, core_does, bank_does, actor_index_in, numbers_with, when_there, observed, kind_in, seen_in, granted_in}
use Rattle.dn_machine.proofs.ListItems.{get-set, get-put}
use Rattle.dn_machine.proofs.OwnRow.{row-set}
use Rattle.dn_machine.specs.Content.{in_row, IsWhole}

-- a node that is there may do what is enabled
pub there-may : (test : NodeParts → Bool) (o : Option NodeParts) → when_there test o ≡ true → (n : NodeParts) × (o ≡ Some n) × (test n ≡ true)
there-may test None may = absurd (cc)
there-may test (Some n) may = (n, refl, may)

-- an instruction, an eviction and an arrival that may come, by the node that is there
pub instr-there : (S : State) (core : CoreId) → enabled S (Instr core) ≡ true → (n : NodeParts) × (slice_get S.nodes core.0 ≡ Some n) × (may_instr S.setting n ≡ true)
unfolding enabled
instr-there S core may = there-may (may_instr S.setting) (slice_get S.nodes core.0) may

pub evict-there : (S : State) (core : CoreId) (word : WordId) → enabled S (Evict core word) ≡ true → (n : NodeParts) × (slice_get S.nodes core.0 ≡ Some n) × (may_evict S.setting n word.0 ≡ true)
unfolding enabled
evict-there S core word may = there-may (λ n. may_evict S.setting n word.0) (slice_get S.nodes core.0) may

pub arrive-there : (S : State) (core : CoreId) → enabled S (Arrive core) ≡ true → (n : NodeParts) × (slice_get S.nodes core.0 ≡ Some n) × (may_arrive n ≡ true)
unfolding enabled
arrive-there S core may = there-may may_arrive (slice_get S.nodes core.0) may

pub instr-next : (S : State) (core : CoreId) (n : NodeParts) → slice_get S.nodes core.0 ≡ Some n
    → next S (Instr core) ≡ core_does S core (instructed S.setting n).0 (instructed S.setting n).1.sent
unfolding next
instr-next S core n there = rw there refl

pub evict-next : (S : State) (core : CoreId) (word : WordId) (n : NodeParts) → slice_get S.nodes core.0 ≡ Some n
    → next S (Evict core word) ≡ core_does S core (evicted S.setting n word).0 (evicted S.setting n word).1
unfolding next
evict-next S core word n there = rw there refl

pub arrive-next : (S : State) (core : CoreId) (n : NodeParts) → slice_get S.nodes core.0 ≡ Some n
    → next S (Arrive core) ≡ core_does S core (arrives n).0 (arrives n).1
unfolding next
arrive-next S core n there = rw there refl

-- what they tell
pub instr-told : (S : State) (core : CoreId) (n : NodeParts) → slice_get S.nodes core.0 ≡ Some n
    → observed S (Instr core) ≡ record { kind = kind.TheVariants.Instr; seen = (instructed S.setting n).1.seen; granted = None }
unfolding kind_in seen_in granted_in
instr-told S core n there = rw there refl

pub evict-told : (S : State) (core : CoreId) (word : WordId) → observed S (Evict core word) ≡ record { kind = kind.TheVariants.Evict; seen = None; granted = None }
unfolding kind_in seen_in granted_in
evict-told S core word = refl

pub arrive-told : (S : State) (core : CoreId) → observed S (Arrive core) ≡ record { kind = kind.TheVariants.Arrive; seen = None; granted = None }
unfolding kind_in seen_in granted_in
arrive-told S core = refl

-- another node that fits stands at a place
pub whole-set : (S : State) (core : ℕ) (m : NodeParts) → IsWhole S → core < length S.nodes → Fits S.setting m → IsWhole (record S { nodes = slice_set S.nodes core m })
whole-set S core m whole within fits =
    record {
      context = whole.context;
      cores = length-set S.nodes core m ∙ whole.cores;
      some = whole.some;
      most = whole.most;
      banks = whole.banks;
      numbers = whole.numbers;
      fits = λ d n here. by_place d n here;
      sends = record { room = whole.sends.room; few = whole.sends.few; fresh = whole.sends.fresh };
    }
  where
    by_place : (d : ℕ) (n : NodeParts) → slice_get (slice_set S.nodes core m) d ≡ Some n → Fits S.setting n
    by_place d n here = by_test (core == d) refl (sym (get-set S.nodes core d m) ∙ here)
      where
        by_test : (b : Bool) → (core == d) ≡ b → cond (b && nat_lt d (length S.nodes)) (Some m) (slice_get S.nodes d) ≡ Some n → Fits S.setting n
        by_test true same e =
            let there : nat_lt d (length S.nodes) ≡ true = grind (arith, nat_tests) in
            let is : Some m ≡ Some n = rw there at e in
            let eq : m ≡ n = cc in
            subst (Fits S.setting) eq fits
        by_test false same e = whole.fits d n e

-- the same, by the nodes that there are then
pub whole-put : (S : State) (core : ℕ) (m : NodeParts) (after : List NodeParts) → after ≡ slice_set S.nodes core m → IsWhole S → core < length S.nodes → Fits S.setting m
    → IsWhole (record S { nodes = after })
whole-put S core m after is whole within fits = rw is (whole-set S core m whole within fits)

pub within-put : (nodes : List NodeParts) (core : ℕ) (m : NodeParts) (after : List NodeParts) → after ≡ slice_set nodes core m → core < length nodes → core < length after
within-put nodes core m after is within = rw (is, length-set nodes core m) within

-- the own events are known where the one of the node that changed is found anew
pub known-after : (C : Setting) (nodes : List NodeParts) (known : List (Option Event)) (core : ℕ) (m : NodeParts) (put after : List NodeParts) (now : List (Option Event))
    → known ≡ in_row (map (own_event C) nodes) → core < length nodes → put ≡ slice_set nodes core m → after ≡ put
    → ((n : NodeParts) → slice_get put core ≡ Some n → now ≡ slice_set known core (own_event C n)) → now ≡ in_row (map (own_event C) after)
known-after C nodes known core m put after now all within is same found =
    let there : slice_get put core ≡ Some m = rw is (get-put nodes core m within) in
    found m there
    ∙ (rw (all, same, is, map-set (own_event C) nodes core m) (row-set (map (own_event C) nodes) core (own_event C m) (omega (arith, within, length-map nodes (own_event C)))))

-- where no node is there the own events and the state stay
pub none-there : (S : State) (core : ℕ) → length S.nodes ≤ core → slice_get S.nodes core ≡ None
none-there S core past = slice_get_past S.nodes core past

-- what a core, a bank and the keeper make of the state, from its parts
pub core-sent : (S : State) (core : CoreId) (m : NodeParts) (after : List NodeParts) (out sent : Option Outgoing) → after ≡ slice_set S.nodes core.0 m → out ≡ sent
    → sends (record S { nodes = after }) (Core core) out ≡ core_does S core m sent
core-sent S core m after out sent is same = rw (is, same) refl

pub bank-sent : (S : State) (bank : ℕ) (from : Actor) (b : BankParts) (after : List BankParts) (out sent : Option Outgoing) (place : ℕ) (mails : List Mail) (numbers : List ℕ)
    → after ≡ slice_set S.banks bank b → out ≡ sent → place ≡ actor_index_in S from → mails ≡ mails_with from (slice_index S.numbers place) out S.mails → numbers ≡ numbers_with place out S.numbers
    → record S { banks = after; mails = mails; numbers = numbers } ≡ bank_does S bank b sent from
bank-sent S bank from b after out sent place mails numbers is same at_place posted counted = rw (posted, counted, is, same, at_place) refl
