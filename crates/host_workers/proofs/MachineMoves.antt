-- The machine's events are those of its actors.
use Rattle.std.proofs.Common.{◌≡◌, ℕ, ◌+◌, ◌%◌, ◌<◌, ◌≤◌, Bool, true, false, not, nat_lt, List, [], ◌∷◌, length, slice_get, Option, Some, None, refl, sym, ap, subst, ◌∙◌, arith}
use Rattle.std.specs.Prelude.{All, sum_by}
use Rattle.std.proofs.Math.Nat.{mod-lt}
use Rattle.std.proofs.lemmas.Bool.{eqb-true}
use Rattle.std.proofs.lemmas.Bool.Decides.{nat_tests}
use Rattle.std.proofs.lemmas.List.Elements.{All-nil, All-cons}
use Rattle.std.proofs.lemmas.List.Sums.{sum_by-cons}
use Rattle.dn_base.specs.declared.ids.CoreId.{CoreId}
use Rattle.dn_base.specs.declared.ids.BankId.{BankId}
use Rattle.dn_base.specs.declared.ids.WordId.{WordId}
use Rattle.message_net.specs.declared.actor.Actor.{Actor}
use Rattle.message_net.specs.declared.actor.Actor.TheVariants.{Core, Bank, Keeper}
use Rattle.message_net.specs.declared.event.Event.{Event}
use Rattle.message_net.specs.declared.event.Event.TheVariants.{Instr, Evict, Arrive, Handle}
use Rattle.message_net.specs.declared.message.Mail.{Mail}
use Rattle.message_net.specs.declared.message.Message.{Message}
use Rattle.message_net.specs.declared.message.Message.TheVariants.{ReadReq, ReadFwd, DataReply, RegReq, RegFwd, RegAck, WriteBack, WbAck, Acquire, Release, Grant, Arrived, Go, Halt}
use Rattle.message_net.specs.Kind.{kind_of}
use Rattle.message_net.specs.Pool.{of_id, count_of, removed}
use Rattle.message_net.specs.Mail.{has_actor, mails_of}
use Rattle.message_net.proofs.PoolLemmas.{same_id-refl, place-counted, weight-within, taken-of_id, sum_by-taken}
use Rattle.registry_bank.specs.Bank.{BankParts, bank_gets}
use Rattle.phase_barrier.specs.Barrier.{keeper_gets}
use Rattle.registration_protocol.specs.Node.{NodeParts, Setting}
use Rattle.registration_protocol.specs.OwnEvents.{me, may_instr, may_evict, may_arrive, instructed, evicted, arrives, end_of}
use Rattle.registration_protocol.specs.Messages.{node_gets}
use Rattle.registration_protocol.specs.Parts.{MayCome}
use Rattle.registration_protocol.proofs.OwnLemmas.{own-comes}
use Rattle.machine_rules.specs.State.{State, initial_state}
use Rattle.machine_rules.specs.Sound.{IsSound, IsMachine}
use Rattle.machine_rules.specs.Flight.{bit, mail_count, flight}
use Rattle.machine_rules.specs.Next.{next, enabled as may_come, next_number, when_there, kind_in, granted_in}
use Rattle.machine_rules.specs.Runs.{after}
use Rattle.machine_rules.proofs.Invariant.{Invariant, is_bank, is_core, is_keeper, is_right, is_lost}
use Rattle.machine_rules.proofs.Steps.{Handled, handled as found_handled, as_sent, instr-step, evict-step, arrive-step, core-step, bank-step, keeper-step}
use Rattle.machine_rules.proofs.SoundEvents.{sound-next}
use Rattle.machine_rules.proofs.Kept.{kept}
use Rattle.machine_rules.proofs.OpenedFacts.{opened-setting}
use Rattle.machine_rules.proofs.RunsKept.{memory_over, same-setting, run-setting}
use Rattle.machine_rules.proofs.RunsCoherent.{first_memory, run-all}
use Rattle.grant_log.specs.declared.posted.Posted.{Posted}
use Rattle.host_workers.specs.Members.{ActorParts, Member, node_there, bank_there, parts_of, member, IsIn, Deed, Handles, Makes, event_of, deed_kind, Came, node_got, node_ran, node_sent, bank_got, keeper_got, comes_of, MayDo}
use Rattle.host_workers.specs.Steps.{with_stamp}
use Rattle.host_workers.specs.Rounds.{IsReached, end_of_node, end_observed}
use Rattle.host_workers.proofs.Moving.{Moves, handled, comes, sends}
use Rattle.host_workers.proofs.MachineSends.{Sent, instr-sent, evict-sent, arrive-sent, core-got-sent, bank-got-sent, keeper-got-sent}
use Rattle.host_workers.proofs.MachineParts.{Became, there, node-became, bank-became, keeper-became}

-- ---- what holds of a state to which a run leads

record Holds (S : State) : Type 0 where
  made : ℕ
  memory : ℕ → ℕ
  sound : IsSound S made
  inv : Invariant S memory

holds : (C : Setting) (S : State) → IsReached C S → Holds S
holds C S reached =
    record {
      made = length reached.before;
      memory = memory_over (first_memory C) (initial_state C) reached.before;
      sound = subst (λ (T : State). IsSound T (length reached.before)) (sym reached.leads) all.0;
      inv = subst (λ (T : State). Invariant T (memory_over (first_memory C) (initial_state C) reached.before)) (sym reached.leads) all.1;
    }
  where
    all : IsSound (after (initial_state C) reached.before) (length reached.before) × Invariant (after (initial_state C) reached.before) (memory_over (first_memory C) (initial_state C) reached.before)
    all = run-all C reached.before reached.ready reached.run

reached-setting : (C : Setting) (S : State) → IsReached C S → S.setting ≡ C
reached-setting C S reached = ap (λ (T : State). T.setting) reached.leads ∙ (run-setting (initial_state C) reached.before ∙ opened-setting C)

-- ---- mails go to actors of the machine

-- a mail that goes astray weighs 1
abbrev astray : Setting → Mail → ℕ
astray C m = mail_count (is_lost C.shape.cores C.shape.banks) m

bank-inside : (cores banks w : ℕ) (a : Actor) → 0 < banks → is_bank (w % banks) a ≡ true → has_actor cores banks a ≡ true
bank-inside cores banks w (Bank bank) some right =
    let same : bank.0 ≡ w % banks = eqb-true bank.0 (w % banks) right in
    let low : w % banks < banks = mod-lt w some in
    grind (arith, nat_tests, same, low)
bank-inside cores banks w (Core core) some right = absurd (cc)
bank-inside cores banks w Keeper some right = absurd (cc)

core-inside : (cores banks : ℕ) (a : Actor) → is_core cores a ≡ true → has_actor cores banks a ≡ true
core-inside cores banks (Core core) right = right
core-inside cores banks (Bank bank) right = absurd (cc)
core-inside cores banks Keeper right = absurd (cc)

keeper-inside : (cores banks : ℕ) (a : Actor) → is_keeper a ≡ true → has_actor cores banks a ≡ true
keeper-inside cores banks Keeper right = refl
keeper-inside cores banks (Core core) right = absurd (cc)
keeper-inside cores banks (Bank bank) right = absurd (cc)

right-inside : (cores banks : ℕ) (a : Actor) (message : Message) → 0 < banks → is_right cores banks a message ≡ true → has_actor cores banks a ≡ true
right-inside cores banks a (ReadReq word reader) some right = bank-inside cores banks word.0 a some right
right-inside cores banks a (RegReq word core) some right = bank-inside cores banks word.0 a some right
right-inside cores banks a (WriteBack word value core) some right = bank-inside cores banks word.0 a some right
right-inside cores banks a (Acquire lock core) some right = bank-inside cores banks lock.0 a some right
right-inside cores banks a (Release lock core signature) some right = bank-inside cores banks lock.0 a some right
right-inside cores banks a (Arrived core bad) some right = keeper-inside cores banks a right
right-inside cores banks a (ReadFwd word reader) some right = core-inside cores banks a right
right-inside cores banks a (DataReply word value) some right = core-inside cores banks a right
right-inside cores banks a (RegFwd word core) some right = core-inside cores banks a right
right-inside cores banks a (RegAck word) some right = core-inside cores banks a right
right-inside cores banks a (WbAck word) some right = core-inside cores banks a right
right-inside cores banks a (Grant lock signature) some right = core-inside cores banks a right
right-inside cores banks a (Go phase) some right = core-inside cores banks a right
right-inside cores banks a Halt some right = core-inside cores banks a right

not-lost : (b : Bool) → bit (not b) ≡ 0 → b ≡ true
not-lost true none = refl
not-lost false none = absurd (omega (arith, none))

mail-inside : (C : Setting) (m : Mail) → 0 < C.shape.banks → astray C m ≡ 0 → IsIn C m.to
mail-inside C m some none = right-inside C.shape.cores C.shape.banks m.to m.message some (not-lost (is_right C.shape.cores C.shape.banks m.to m.message) none)

all-inside : (C : Setting) (mails : List Mail) → 0 < C.shape.banks → sum_by (astray C) mails ≡ 0 → All (λ (m : Mail). IsIn C m.to) mails
all-inside C [] some none = All-nil (λ (m : Mail). IsIn C m.to)
all-inside C (m ∷ ms) some none =
    let both = sum_by-cons (astray C) m ms in
    All-cons (λ (x : Mail). IsIn C x.to) m ms (mail-inside C m some (omega (arith, none, both))) (all-inside C ms some (omega (arith, none, both)))

-- ---- an actor's deed, by its parts

record Acted (S : State) (a : Actor) (deed : Deed) (c : Came) (rest : List Mail) : Type 0 where
  came : comes S.setting S a deed ≡ c
  enabled : may_come S (event_of deed) ≡ true
  became : Became S (next S (event_of deed)) a c.parts
  sent : Sent S (next S (event_of deed)) a rest c.sent
  left : (f : Mail → ℕ) → sum_by f rest + handled f deed ≡ sum_by f S.mails
  kind : kind_in S (event_of deed) ≡ deed_kind deed
  granted : granted_in S (event_of deed) ≡ c.granted
  end : end_observed S (event_of deed) ≡ c.end

-- no mail goes astray after the event
none-astray : (S : State) (e : Event) → Holds S → may_come S e ≡ true → sum_by (astray S.setting) (next S e).mails ≡ 0
none-astray S e h may =
    let later = sound-next S h.made e h.sound may in
    let inv = kept S h.memory e h.inv may later.machine in
    subst (λ (C : Setting). flight (next S e) (is_lost C.shape.cores C.shape.banks) ≡ 0) (same-setting S e) inv.addressed

same-member : (x y : ActorParts) (i j : ℕ) → x ≡ y → i ≡ j → (let m : Member = record { parts = x; next = i } in m) ≡ (let m : Member = record { parts = y; next = j } in m)
same-member x y i j parts numbers = rw (parts, numbers) refl

moves : (S : State) (a : Actor) (deed : Deed) (c : Came) (rest : List Mail) → Holds S → Acted S a deed c rest → Moves S.setting S a deed
unfolding member
moves S a deed c rest h act =
    record {
      enabled = act.enabled;
      mine =
          same-member (parts_of (next S (event_of deed)) a) (comes S.setting S a deed).parts (next_number (next S (event_of deed)) a) (next_number S a + length (comes S.setting S a deed).sent)
          (act.became.mine ∙ sym (ap (λ (x : Came). x.parts) act.came))
          (act.sent.next ∙ sym (ap (λ (x : Came). next_number S a + length x.sent) act.came));
      others =
          λ b inside differ.
          same-member (parts_of (next S (event_of deed)) b) (parts_of S b) (next_number (next S (event_of deed)) b) (next_number S b) (act.became.others b differ) (act.sent.others b inside differ);
      pool = pool;
      inside = all-inside S.setting (sends S.setting S a deed) h.inv.machine.context.some_banks right;
      kind = act.kind;
      granted = act.granted ∙ sym (ap (λ (x : Came). x.granted) act.came);
      end = act.end ∙ sym (ap (λ (x : Came). x.end) act.came);
    }
  where
    same_sends : sends S.setting S a deed ≡ mails_of a (next_number S a) c.sent
    same_sends = ap (λ (x : Came). mails_of a (next_number S a) x.sent) act.came

    pool : (f : Mail → ℕ) → sum_by f (next S (event_of deed)).mails + handled f deed ≡ sum_by f S.mails + sum_by f (sends S.setting S a deed)
    pool f = omega (arith, act.left f, act.sent.pool f, ap (sum_by f) same_sends)

    right : sum_by (astray S.setting) (sends S.setting S a deed) ≡ 0
    right = omega (arith, none-astray S (event_of deed) h act.enabled, act.sent.pool (astray S.setting), ap (sum_by (astray S.setting)) same_sends)

-- ---- a node's own events

none-left : (S : State) (e : Event) (f : Mail → ℕ) → sum_by f S.mails + handled f (Makes e) ≡ sum_by f S.mails
none-left S e f = omega arith

instr-moves : (S : State) (core : CoreId) (n : NodeParts) → Holds S → slice_get S.nodes core.0 ≡ Some n → may_instr S.setting n ≡ true → Moves S.setting S (Core core) (Makes (Instr core))
unfolding member comes_of may_come kind_in granted_in
instr-moves S core n h found may =
    moves S (Core core) (Makes (Instr core)) (node_ran (instructed S.setting n)) S.mails h
    record {
      came = ap (λ (o : Option NodeParts). comes_of S.setting (node_there o) (Makes (Instr core))) found;
      enabled = ap (when_there (may_instr S.setting)) found ∙ may;
      became = node-became S (next S (Instr core)) core n (instructed S.setting n).0 None (instructed S.setting n).1.sent (instr-step S core n found);
      sent = instr-sent S core n h.inv.machine found;
      left = none-left S (Instr core);
      kind = refl;
      granted = refl;
      end = refl;
    }

evict-moves : (S : State) (core : CoreId) (word : WordId) (n : NodeParts) → Holds S → slice_get S.nodes core.0 ≡ Some n → may_evict S.setting n word.0 ≡ true
    → Moves S.setting S (Core core) (Makes (Evict core word))
unfolding member comes_of may_come kind_in granted_in
evict-moves S core word n h found may =
    moves S (Core core) (Makes (Evict core word)) (node_sent None (evicted S.setting n word)) S.mails h
    record {
      came = ap (λ (o : Option NodeParts). comes_of S.setting (node_there o) (Makes (Evict core word))) found;
      enabled = ap (when_there (λ x. may_evict S.setting x word.0)) found ∙ may;
      became = node-became S (next S (Evict core word)) core n (evicted S.setting n word).0 None (evicted S.setting n word).1 (evict-step S core word n found);
      sent = evict-sent S core word n h.inv.machine found;
      left = none-left S (Evict core word);
      kind = refl;
      granted = refl;
      end = refl;
    }

arrive-moves : (S : State) (core : CoreId) (n : NodeParts) → Holds S → slice_get S.nodes core.0 ≡ Some n → may_arrive n ≡ true → Moves S.setting S (Core core) (Makes (Arrive core))
unfolding member comes_of may_come kind_in granted_in
arrive-moves S core n h found may =
    moves S (Core core) (Makes (Arrive core)) (node_sent (end_of n n.task) (arrives n)) S.mails h
    record {
      came = ap (λ (o : Option NodeParts). comes_of S.setting (node_there o) (Makes (Arrive core))) found;
      enabled = ap (when_there may_arrive) found ∙ may;
      became = node-became S (next S (Arrive core)) core n (arrives n).0 None (arrives n).1 (arrive-step S core n found);
      sent = arrive-sent S core n h.inv.machine found;
      left = none-left S (Arrive core);
      kind = refl;
      granted = refl;
      end = ap end_of_node found;
    }

node-moves : (S : State) (core : CoreId) (n : NodeParts) (e : Event) → Holds S → slice_get S.nodes core.0 ≡ Some n → MayCome S.setting n e → Moves S.setting S (Core core) (Makes e)
node-moves S core n e h found may = by_event e may where
  mine : me n ≡ core
  mine = ap (λ (x : ℕ). let c : CoreId = record { 0 = x } in c) (h.inv.machine.node core.0 n found).core

  by_event : (e : Event) → MayCome S.setting n e → Moves S.setting S (Core core) (Makes e)
  by_event (Instr c) (is, may) = subst (λ (x : CoreId). Moves S.setting S (Core core) (Makes (Instr x))) (sym (is ∙ mine)) (instr-moves S core n h found may)
  by_event (Evict c word) (is, may) = subst (λ (x : CoreId). Moves S.setting S (Core core) (Makes (Evict x word))) (sym (is ∙ mine)) (evict-moves S core word n h found may)
  by_event (Arrive c) (is, may) = subst (λ (x : CoreId). Moves S.setting S (Core core) (Makes (Arrive x))) (sym (is ∙ mine)) (arrive-moves S core n h found may)
  by_event (Handle id) may = absurd may

own-event : (S : State) (a : Actor) (e : Event) → Holds S → MayDo S.setting (member S a).parts (Makes e) → Moves S.setting S a (Makes e)
unfolding member
own-event S (Core core) e h may = by_node (slice_get S.nodes core.0) refl may where
  by_node : (o : Option NodeParts) → slice_get S.nodes core.0 ≡ o → MayDo S.setting (node_there o) (Makes e) → Moves S.setting S (Core core) (Makes e)
  by_node None found may = absurd may
  by_node (Some n) found may = node-moves S core n e h found (own-comes S.setting n e may)
own-event S (Bank bank) e h may = by_bank (slice_get S.banks bank.0) may where
  by_bank : (o : Option BankParts) → MayDo S.setting (bank_there o) (Makes e) → Moves S.setting S (Bank bank) (Makes e)
  by_bank None may = absurd may
  by_bank (Some b) may = absurd may
own-event S Keeper e h may = absurd may

-- an own event of a node is enabled
pub own-moves : (C : Setting) (S : State) (a : Actor) (e : Event) → IsReached C S → MayDo C (member S a).parts (Makes e) → Moves C S a (Makes e)
own-moves C S a e reached may =
    let same = reached-setting C S reached in
    subst (λ (D : Setting). Moves D S a (Makes e)) same (own-event S a e (holds C S reached) (subst (λ (D : Setting). MayDo D (member S a).parts (Makes e)) (sym same) may))

-- ---- the handling of a mail

found-mail : (S : State) (m : Mail) (place : ℕ) → IsMachine S → slice_get S.mails place ≡ Some m → Handled S m.id m
found-mail S m place good here =
    let took : (removed m.id S.mails).0 ≡ Some m = ap (λ (x : Option Mail × List Mail). x.0) (taken-of_id S.mails place m good.distinct here) in
    record { place = place; there = here; named = refl; took = took; weights = λ f. sum_by-taken f m.id S.mails m took }

may-handle : (S : State) (m : Mail) (place : ℕ) → slice_get S.mails place ≡ Some m → may_come S (Handle m.id) ≡ true
unfolding may_come
may-handle S m place here =
    let some : 1 ≤ count_of m.id S.mails = place-counted (of_id m.id) S.mails place m here (same_id-refl m.id) in
    grind (arith, nat_tests, some)

handles-kind : (S : State) (m : Mail) → Handled S m.id m → kind_in S (Handle m.id) ≡ kind_of m.message
unfolding kind_in
handles-kind S m h = rw (h.took) refl

core-handles : (S : State) (p : Posted) (core : CoreId) (n : NodeParts) → Holds S → Handled S p.mail.id p.mail → may_come S (Handle p.mail.id) ≡ true → p.mail.to ≡ Core core
    → slice_get S.nodes core.0 ≡ Some n → Moves S.setting S (Core core) (Handles p)
unfolding member comes_of granted_in
core-handles S p core n h m may to found =
    moves S (Core core) (Handles p) (node_got (node_gets S.setting n p.mail.message)) (removed p.mail.id S.mails).1 h
    record {
      came = ap (λ (o : Option NodeParts). comes_of S.setting (node_there o) (Handles p)) found;
      enabled = may;
      became =
          node-became S (next S (Handle p.mail.id)) core n (node_gets S.setting n p.mail.message).0 (Some (as_sent p.mail)) (node_gets S.setting n p.mail.message).1.sent
          (core-step S p.mail.id p.mail core n m to found);
      sent = core-got-sent S p.mail.id p.mail core n h.inv.machine m to found;
      left = m.weights;
      kind = handles-kind S p.mail m;
      granted = rw (m.took, to, found) refl;
      end = refl;
    }

bank-handles : (S : State) (p : Posted) (bank : BankId) (b : BankParts) → Holds S → Handled S p.mail.id p.mail → may_come S (Handle p.mail.id) ≡ true → p.mail.to ≡ Bank bank
    → slice_get S.banks bank.0 ≡ Some b → Moves S.setting S (Bank bank) (Handles p)
unfolding member comes_of granted_in
bank-handles S p bank b h m may to found =
    moves S (Bank bank) (Handles p) (bank_got (bank_gets b p.mail.message)) (removed p.mail.id S.mails).1 h
    record {
      came = ap (λ (o : Option BankParts). comes_of S.setting (bank_there o) (Handles p)) found;
      enabled = may;
      became = bank-became S (next S (Handle p.mail.id)) bank b p.mail.message (Some (as_sent p.mail)) (bank-step S p.mail.id p.mail bank b m to found);
      sent = bank-got-sent S p.mail.id p.mail bank b h.inv.machine m to found;
      left = m.weights;
      kind = handles-kind S p.mail m;
      granted = rw (m.took, to) refl;
      end = refl;
    }

keeper-handles : (S : State) (p : Posted) → Holds S → Handled S p.mail.id p.mail → may_come S (Handle p.mail.id) ≡ true → p.mail.to ≡ Keeper → Moves S.setting S Keeper (Handles p)
unfolding member comes_of granted_in
keeper-handles S p h m may to =
    moves S Keeper (Handles p) (keeper_got S.setting.shape.cores (keeper_gets S.keeper p.mail.message)) (removed p.mail.id S.mails).1 h
    record {
      came = refl;
      enabled = may;
      became = keeper-became S (next S (Handle p.mail.id)) p.mail.message (Some (as_sent p.mail)) (keeper-step S p.mail.id p.mail m to);
      sent = keeper-got-sent S p.mail.id p.mail h.inv.machine m to;
      left = m.weights;
      kind = handles-kind S p.mail m;
      granted = rw (m.took, to) refl;
      end = refl;
    }

mail-handled : (S : State) (p : Posted) (place : ℕ) → Holds S → slice_get S.mails place ≡ Some p.mail → Moves S.setting S p.mail.to (Handles p)
mail-handled S p place h here = by_actor p.mail.to refl where
  m : Handled S p.mail.id p.mail
  m = found-mail S p.mail place h.inv.machine here

  may : may_come S (Handle p.mail.id) ≡ true
  may = may-handle S p.mail place here

  inside : IsIn S.setting p.mail.to
  inside =
      let none : astray S.setting p.mail ≡ 0 = omega (arith, weight-within (astray S.setting) S.mails place p.mail here, h.inv.addressed) in
      mail-inside S.setting p.mail h.inv.machine.context.some_banks none

  by_actor : (a : Actor) → p.mail.to ≡ a → Moves S.setting S a (Handles p)
  by_actor (Core core) to =
      let within : nat_lt core.0 S.setting.shape.cores ≡ true = subst (IsIn S.setting) to inside in
      let low : core.0 < length S.nodes = grind (arith, nat_tests, within, h.inv.machine.nodes) in
      let at = there S.nodes core.0 low in
      core-handles S p core at.0 h m may to at.1
  by_actor (Bank bank) to =
      let within : nat_lt bank.0 S.setting.shape.banks ≡ true = subst (IsIn S.setting) to inside in
      let low : bank.0 < length S.banks = grind (arith, nat_tests, within, h.inv.machine.banks) in
      let at = there S.banks bank.0 low in
      bank-handles S p bank at.0 h m may to at.1
  by_actor Keeper to = keeper-handles S p h m may to

-- a mail in flight is handled by the actor that it goes to
pub handle-moves : (C : Setting) (S : State) (p : Posted) (place : ℕ) → IsReached C S → slice_get S.mails place ≡ Some p.mail → Moves C S p.mail.to (Handles p)
handle-moves C S p place reached here =
    subst (λ (D : Setting). Moves D S p.mail.to (Handles p)) (reached-setting C S reached) (mail-handled S p place (holds C S reached) here)

-- every mail in flight goes to an actor of the machine
pub reached-inside : (C : Setting) (S : State) → IsReached C S → All (λ (m : Mail). IsIn C m.to) S.mails
reached-inside C S reached =
    let h = holds C S reached in
    subst (λ (D : Setting). All (λ (m : Mail). IsIn D m.to) S.mails) (reached-setting C S reached) (all-inside S.setting S.mails h.inv.machine.context.some_banks h.inv.addressed)

-- ---- every event

-- an event is a deed of an actor
pub record IsDeed (C : Setting) (S : State) (e : Event) : Type 0 where
  pub actor : Actor
  pub deed : Deed
  pub is : event_of deed ≡ e
  pub moves : Moves C S actor deed

-- a node that is there and passes a test
passed : (test : NodeParts → Bool) (o : Option NodeParts) → when_there test o ≡ true → (n : NodeParts) × (o ≡ Some n) × (test n ≡ true)
passed test None may = absurd (cc)
passed test (Some n) may = (n, refl, may)

own-deed : (C : Setting) (S : State) (core : CoreId) (n : NodeParts) (e : Event) → IsReached C S → slice_get S.nodes core.0 ≡ Some n → (core ≡ me n → MayCome S.setting n e) → IsDeed C S e
own-deed C S core n e reached found may =
    let h = holds C S reached in
    let mine : core ≡ me n = sym (ap (λ (x : ℕ). let c : CoreId = record { 0 = x } in c) (h.inv.machine.node core.0 n found).core) in
    record { actor = Core core; deed = Makes e; is = refl; moves = subst (λ (D : Setting). Moves D S (Core core) (Makes e)) (reached-setting C S reached) (node-moves S core n e h found (may mine)) }

pub event-deed : (C : Setting) (S : State) (e : Event) → IsReached C S → may_come S e ≡ true → IsDeed C S e
unfolding may_come
event-deed C S (Instr core) reached may =
    let at = passed (may_instr S.setting) (slice_get S.nodes core.0) may in
    own-deed C S core at.0 (Instr core) reached at.1 (λ mine. (mine, at.2))
event-deed C S (Evict core word) reached may =
    let at = passed (λ n. may_evict S.setting n word.0) (slice_get S.nodes core.0) may in
    own-deed C S core at.0 (Evict core word) reached at.1 (λ mine. (mine, at.2))
event-deed C S (Arrive core) reached may =
    let at = passed may_arrive (slice_get S.nodes core.0) may in
    own-deed C S core at.0 (Arrive core) reached at.1 (λ mine. (mine, at.2))
event-deed C S (Handle id) reached may =
    let m = found_handled S id may in
    record { actor = m.0.to; deed = Handles (with_stamp 0 m.0); is = ap Handle m.1.named; moves = handle-moves C S (with_stamp 0 m.0) m.1.place reached m.1.there }
