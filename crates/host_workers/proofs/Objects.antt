-- What the history of an object of the hall comes to: the steps of its actor, and what its inbox had and has.
use Rattle.std.proofs.Common.{◌≡◌, ℕ, zero, suc, ◌+◌, ◌*◌, Bool, true, false, List, [], ◌∷◌, length, map, slice_get, Option, Some, None, refl, sym, ap, subst, ◌∙◌, arith}
use Rattle.std.specs.Prelude.{sum_by, filter_map, option_to_list, option_map, swap_remove, if◌then◌else◌}
use Rattle.std.specs.List.{range_with_len, cons_option}
use Rattle.std.proofs.lemmas.List.Sums.{sum_by-cons, sum_by_push}
use Rattle.message_net.specs.declared.actor.Actor.{Actor}
use Rattle.message_net.specs.declared.actor.Actor.TheVariants.{Core, Bank, Keeper}
use Rattle.message_net.specs.declared.message.Message as message
use Rattle.message_net.specs.declared.message.Message.{Message}
use Rattle.message_net.specs.declared.message.Outgoing.{Outgoing}
use Rattle.message_net.specs.Mail.{mails_of}
use Rattle.dn_base.specs.declared.ids.BankId.{BankId}
use Rattle.registry_bank.specs.Bank.{BankParts, bank_gets}
use Rattle.registry_bank.proofs.KeptLemmas.{place-kept}
use Rattle.phase_barrier.specs.declared.keeper.Verdict.{Verdict}
use Rattle.phase_barrier.specs.declared.keeper.Verdict.TheVariants.{Wait, Go, Halt}
use Rattle.phase_barrier.specs.Barrier.{Barrier, keeper_gets}
use Rattle.phase_barrier.specs.Letters.{letter_of, letter_count, letters, letters_to_all, to_each}
use Rattle.phase_barrier.proofs.CountLemmas.{cores-kept}
use Rattle.phase_barrier.proofs.LetterLemmas.{length-to_each}
use Rattle.registration_protocol.specs.Node.{Setting}
use Rattle.turn_lock.specs.History.{Legal}
use Rattle.grant_log.specs.declared.posted.Posted.{Posted}
use Rattle.bank_hall.specs.declared.bank.BankIn as bank_in
use Rattle.bank_hall.specs.declared.bank.BankIn.{BankIn}
use Rattle.bank_hall.specs.declared.bank.BankOut as bank_out
use Rattle.bank_hall.specs.declared.bank.BankOut.{BankOut}
use Rattle.bank_hall.specs.declared.port.PortIn as port_in
use Rattle.bank_hall.specs.declared.port.PortIn.{PortIn}
use Rattle.bank_hall.specs.declared.port.PortOut as port_out
use Rattle.bank_hall.specs.declared.port.PortOut.{PortOut}
use Rattle.bank_hall.specs.declared.keeper.KeeperIn as keeper_in
use Rattle.bank_hall.specs.declared.keeper.KeeperIn.{KeeperIn}
use Rattle.bank_hall.specs.declared.keeper.KeeperOut as keeper_out
use Rattle.bank_hall.specs.declared.keeper.KeeperOut.{KeeperOut}
use Rattle.grant_log.specs.Stamps.{is_early, may_handle, stamp_after, handling_note}
use Rattle.grant_log.specs.Inbox.{with_mail, picked_index, picked_out, picked_out_at}
use Rattle.bank_hall.specs.Note.{KeeperNote, letter_with}
use Rattle.bank_hall.specs.Banks.{BankState, bank_actor, reply_of, next_after, bank_row, bank_handles, bank_call}
use Rattle.bank_hall.specs.Keepers.{KeeperState, keeper_row, keeper_handles, keeper_call}
use Rattle.bank_hall.specs.Ports.{port_call}
use Rattle.bank_hall.specs.Halls.{BankEntry, PortEntry, KeeperEntry, bank_answer, bank_next, port_answer, port_next, keeper_answer, keeper_next}
use Rattle.host_workers.specs.Members.{Member, BankIs, KeeperIs, Handles, comes_of, after_deed}
use Rattle.host_workers.specs.Steps.{clock_after, Step, Done, with_stamp, IsStep, Goes}
use Rattle.host_workers.specs.Acts.{bank_done, keeper_done}
use Rattle.host_workers.proofs.Weights.{told-cons}
use Rattle.host_workers.proofs.SameMails.{sum-left}
use Rattle.host_workers.proofs.ActSteps.{takes}

-- what a post weighs, and what a call told
abbrev pub bank_posted : (Posted → ℕ) → BankIn → ℕ
bank_posted f (bank_in.TheVariants.Post p) = f p
bank_posted f (bank_in.TheVariants.Step pick) = 0

abbrev pub bank_post : (Posted → ℕ) → BankEntry → ℕ
bank_post f e = bank_posted f e.input

abbrev pub bank_said : BankOut → Option Done
bank_said bank_out.TheVariants.Kept = None
bank_said (bank_out.TheVariants.Stepped handled) = option_map bank_done handled

abbrev pub bank_told : BankEntry → Option Done
bank_told e = bank_said e.output

abbrev pub keeper_posted : (Posted → ℕ) → KeeperIn → ℕ
keeper_posted f (keeper_in.TheVariants.Post p) = f p
keeper_posted f (keeper_in.TheVariants.Step pick) = 0

abbrev pub keeper_post : (Posted → ℕ) → KeeperEntry → ℕ
keeper_post f e = keeper_posted f e.input

abbrev pub keeper_said : ℕ → KeeperOut → Option Done
keeper_said cores keeper_out.TheVariants.Kept = None
keeper_said cores (keeper_out.TheVariants.Stepped answer) = option_map (keeper_done cores) answer

abbrev pub keeper_told : ℕ → KeeperEntry → Option Done
keeper_told cores e = keeper_said cores e.output

abbrev pub port_posted : (Posted → ℕ) → PortIn → ℕ
port_posted f (port_in.TheVariants.Post p) = f p
port_posted f (port_in.TheVariants.Take pick) = 0

abbrev pub port_post : (Posted → ℕ) → PortEntry → ℕ
port_post f e = port_posted f e.input

abbrev pub port_said : PortOut → Option Posted
port_said port_out.TheVariants.Kept = None
port_said (port_out.TheVariants.Taken mail) = mail

abbrev pub port_told : PortEntry → Option Posted
port_told e = port_said e.output

abbrev pub weight_of : (Posted → ℕ) → Option Posted → ℕ
weight_of f None = 0
weight_of f (Some p) = f p

abbrev pub step_done : Step → Done
step_done s = s.done

abbrev pub taken_if : Bool → List Posted → ℕ → Posted → Option Posted × List Posted
taken_if t inbox place p = if t then (Some p, swap_remove inbox place p) else (None, inbox)

-- what is taken from an inbox leaves it
taken-weighs : (may : Posted → Bool) (inbox : List Posted) (pick : ℕ) (f : Posted → ℕ) → sum_by f (picked_out may inbox pick).1 + weight_of f (picked_out may inbox pick).0 ≡ sum_by f inbox
taken-weighs may inbox pick f = by_found (slice_get inbox (picked_index inbox pick)) refl where
  by_may : (p : Posted) → slice_get inbox (picked_index inbox pick) ≡ Some p → (t : Bool)
      → sum_by f (taken_if t inbox (picked_index inbox pick) p).1 + weight_of f (taken_if t inbox (picked_index inbox pick) p).0 ≡ sum_by f inbox
  by_may p found true = sum-left f inbox (picked_index inbox pick) p found
  by_may p found false = omega arith

  by_found : (o : Option Posted) → slice_get inbox (picked_index inbox pick) ≡ o
      → sum_by f (picked_out_at may inbox (picked_index inbox pick) o).1 + weight_of f (picked_out_at may inbox (picked_index inbox pick) o).0 ≡ sum_by f inbox
  by_found None found = omega arith
  by_found (Some p) found = by_may p found (may p)

-- ---- ports

sum-told : (f : Posted → ℕ) (o : Option Posted) (ps : List Posted) → sum_by f (cons_option o ps) ≡ weight_of f o + sum_by f ps
sum-told f None ps = omega arith
sum-told f (Some p) ps = sum_by-cons f p ps

abbrev PortRest : List PortEntry → Type 0
PortRest H = (u v : List Posted) → Legal port_answer port_next u H v → (g : Posted → ℕ) → sum_by g (filter_map port_told H) + sum_by g v ≡ sum_by g u + sum_by (port_post g) H

-- what came into a port was taken or is left
pub port-flow : (H : List PortEntry) (s t : List Posted) → Legal port_answer port_next s H t → (f : Posted → ℕ)
    → sum_by f (filter_map port_told H) + sum_by f t ≡ sum_by f s + sum_by (port_post f) H
unfolding port_call
port-flow [] s t legal f = omega (arith, ap (λ l. sum_by f l) legal)
port-flow (e ∷ H) s t legal f = by_input e.input refl (port-flow H) where
  more : sum_by (port_post f) (e ∷ H) ≡ port_post f e + sum_by (port_post f) H
  more = sum_by-cons (port_post f) e H

  by_input : (input : PortIn) → e.input ≡ input → PortRest H → sum_by f (filter_map port_told (e ∷ H)) + sum_by f t ≡ sum_by f s + sum_by (port_post f) (e ∷ H)
  by_input (port_in.TheVariants.Post p) input rest =
      let here = rest (with_mail s p) t (subst (λ u. Legal port_answer port_next u H t) (ap (port_next s) input) legal.1) f in
      let none : port_told e ≡ None = ap port_said (legal.0 ∙ ap (port_answer s) input) in
      let post : port_post f e ≡ f p = ap (port_posted f) input in
      ap (λ l. sum_by f l + sum_by f t) (told-cons port_told e H None none) ∙ omega (arith, here, post, more, sum_by_push f s p)
  by_input (port_in.TheVariants.Take pick) input rest =
      let here = rest (picked_out is_early s pick).1 t (subst (λ u. Legal port_answer port_next u H t) (ap (port_next s) input) legal.1) f in
      let told_is : port_told e ≡ (picked_out is_early s pick).0 = ap port_said (legal.0 ∙ ap (port_answer s) input) in
      let post : port_post f e ≡ 0 = ap (port_posted f) input in
      ap (λ l. sum_by f l + sum_by f t) (told-cons port_told e H (picked_out is_early s pick).0 told_is)
      ∙ omega (arith, here, post, more, sum-told f (picked_out is_early s pick).0 (filter_map port_told H), taken-weighs is_early s pick f)

-- ---- banks

abbrev pub bank_member : BankState → Member
bank_member s = record { parts = BankIs s.bank; next = s.next }

pub record BankPart (C : Setting) (b : BankId) (s t : BankState) (H : List BankEntry) : Type 0 where
  pub steps : List Step
  pub goes : Goes C (Bank b) s.clock (bank_member s) steps (bank_member t)
  pub told : map step_done steps ≡ filter_map bank_told H
  pub flow : (f : Posted → ℕ) → sum_by (takes f) steps + sum_by f t.inbox ≡ sum_by f s.inbox + sum_by (bank_post f) H
  pub clock : t.clock ≡ clock_after s.clock steps
  pub same : bank_actor t.bank ≡ Bank b

replies : (a : Actor) (next stamp : ℕ) (o : Option Outgoing) → option_to_list (reply_of a next stamp o) ≡ map (with_stamp stamp) (mails_of a next (option_to_list o))
replies a next stamp None = refl
replies a next stamp (Some out) = refl

counts : (next : ℕ) (o : Option Outgoing) → next_after next o ≡ next + length (option_to_list o)
counts next None = omega arith
counts next (Some out) = omega arith

abbrev bank_tells : Actor → ℕ → ℕ → Posted → List Posted → Done
bank_tells a next stamp p sent = record { stamped = handling_note a stamp p.mail; sent = sent; end = None }

-- one step of a bank
module _ (C : Setting) (b : BankId) (s t : BankState) (is : bank_actor s.bank ≡ Bank b) (p : Posted) (inbox : List Posted) where
  abbrev bank_came : BankParts × Option Outgoing
  bank_came = bank_gets s.bank p.mail.message

  abbrev bank_then : BankState
  bank_then = (bank_row s p inbox bank_came).0

  abbrev bank_step : Step
  bank_step = record {
    deed = Handles p;
    done = bank_tells (bank_actor s.bank) s.next (stamp_after s.clock p) p (option_to_list (reply_of (bank_actor s.bank) s.next (stamp_after s.clock p) bank_came.1));
  }

  bank_is_step : IsStep C (Bank b) s.clock (bank_member s) bank_step
  unfolding comes_of
  bank_is_step = record {
    may = tt;
    tells = ap (λ a. bank_tells a s.next (stamp_after s.clock p) p (option_to_list (reply_of a s.next (stamp_after s.clock p) bank_came.1))) is
        ∙ ap (bank_tells (Bank b) s.next (stamp_after s.clock p) p) (replies (Bank b) s.next (stamp_after s.clock p) bank_came.1);
  }

  bank_goes_on : after_deed C (bank_member s) (Handles p) ≡ bank_member bank_then
  unfolding comes_of
  bank_goes_on = ap (λ n. record { parts = BankIs bank_came.0; next = n }) (sym (counts s.next bank_came.1))

  bank_stays : bank_actor bank_then.bank ≡ Bank b
  bank_stays = ap (λ n. Bank (record { 0 = n })) (place-kept s.bank p.mail.message).bank ∙ is

abbrev BankRest : Setting → BankId → List BankEntry → Type 0
BankRest C b H = (u v : BankState) → bank_actor u.bank ≡ Bank b → Legal bank_answer bank_next u H v → BankPart C b u v H

abbrev bank_took : BankState → ℕ → Option Posted × List Posted
bank_took s pick = picked_out (may_handle s.clock s.next) s.inbox pick

pub bank-part : (C : Setting) (b : BankId) (H : List BankEntry) (s t : BankState) → bank_actor s.bank ≡ Bank b → Legal bank_answer bank_next s H t → BankPart C b s t H
unfolding bank_call
bank-part C b [] s t is legal =
    record { steps = []; goes = ap bank_member legal; told = refl; clock = ap (λ (x : BankState). x.clock) (sym legal); same = ap (λ (x : BankState). bank_actor x.bank) (sym legal) ∙ is; flow = λ f. omega (arith, ap (λ (x : BankState). sum_by f x.inbox) legal) }
bank-part C b (e ∷ H) s t is legal = by_input e.input refl (bank-part C b H) where
  more : (f : Posted → ℕ) → sum_by (bank_post f) (e ∷ H) ≡ bank_post f e + sum_by (bank_post f) H
  more f = sum_by-cons (bank_post f) e H

  by_taken : (pick : ℕ) → e.input ≡ bank_in.TheVariants.Step pick → (q : Option Posted × List Posted) → bank_took s pick ≡ q → BankRest C b H → BankPart C b s t (e ∷ H)
  by_taken pick input (None, inbox) q rest =
      let now : bank_next s e.input ≡ s = ap (bank_next s) input ∙ ap (λ x. (bank_handles s x).0) q in
      let said : e.output ≡ bank_out.TheVariants.Stepped None = legal.0 ∙ (ap (bank_answer s) input ∙ ap (λ x. bank_out.TheVariants.Stepped (bank_handles s x).1) q) in
      let here = rest s t is (subst (λ u. Legal bank_answer bank_next u H t) now legal.1) in
      record {
        steps = here.steps;
        goes = here.goes;
        clock = here.clock;
        same = here.same;
        told = here.told ∙ sym (told-cons bank_told e H None (ap bank_said said));
        flow = λ f. let post : bank_post f e ≡ 0 = ap (bank_posted f) input in omega (arith, here.flow f, post, more f);
      }
  by_taken pick input (Some p, inbox) q rest =
      let now : bank_next s e.input ≡ bank_then C b s t is p inbox = ap (bank_next s) input ∙ ap (λ x. (bank_handles s x).0) q in
      let said : e.output ≡ bank_out.TheVariants.Stepped (bank_row s p inbox (bank_gets s.bank p.mail.message)).1 = legal.0 ∙ (ap (bank_answer s) input ∙ ap (λ x. bank_out.TheVariants.Stepped (bank_handles s x).1) q) in
      let here = rest (bank_then C b s t is p inbox) t (bank_stays C b s t is p inbox) (subst (λ u. Legal bank_answer bank_next u H t) now legal.1) in
      record {
        steps = bank_step C b s t is p inbox ∷ here.steps;
        clock = here.clock;
        same = here.same;
        goes = (bank_is_step C b s t is p inbox, subst (λ x. Goes C (Bank b) (stamp_after s.clock p) x here.steps (bank_member t)) (sym (bank_goes_on C b s t is p inbox)) here.goes);
        told = ap (λ l. step_done (bank_step C b s t is p inbox) ∷ l) here.told ∙ sym (told-cons bank_told e H (Some (step_done (bank_step C b s t is p inbox))) (ap bank_said said));
        flow = λ f.
            let post : bank_post f e ≡ 0 = ap (bank_posted f) input in
            let left : sum_by f inbox + f p ≡ sum_by f s.inbox = subst (λ x. sum_by f x.1 + weight_of f x.0 ≡ sum_by f s.inbox) q (taken-weighs (may_handle s.clock s.next) s.inbox pick f) in
            omega (arith, here.flow f, post, more f, left, sum_by-cons (takes f) (bank_step C b s t is p inbox) here.steps);
      }

  by_input : (input : BankIn) → e.input ≡ input → BankRest C b H → BankPart C b s t (e ∷ H)
  by_input (bank_in.TheVariants.Post p) input rest =
      let said : e.output ≡ bank_out.TheVariants.Kept = legal.0 ∙ ap (bank_answer s) input in
      let here = rest (record s { inbox = with_mail s.inbox p }) t is (subst (λ u. Legal bank_answer bank_next u H t) (ap (bank_next s) input) legal.1) in
      record {
        steps = here.steps;
        goes = here.goes;
        clock = here.clock;
        same = here.same;
        told = here.told ∙ sym (told-cons bank_told e H None (ap bank_said said));
        flow = λ f. let post : bank_post f e ≡ f p = ap (bank_posted f) input in omega (arith, here.flow f, post, more f, sum_by_push f s.inbox p);
      }
  by_input (bank_in.TheVariants.Step pick) input rest = by_taken pick input (bank_took s pick) refl rest

-- ---- the keeper

abbrev pub keeper_member : KeeperState → Member
keeper_member s = record { parts = KeeperIs s.keeper; next = s.next }

pub record KeeperPart (C : Setting) (s t : KeeperState) (H : List KeeperEntry) : Type 0 where
  pub steps : List Step
  pub goes : Goes C Keeper s.clock (keeper_member s) steps (keeper_member t)
  pub told : map step_done steps ≡ filter_map (keeper_told C.shape.cores) H
  pub flow : (f : Posted → ℕ) → sum_by (takes f) steps + sum_by f t.inbox ≡ sum_by f s.inbox + sum_by (keeper_post f) H
  pub clock : t.clock ≡ clock_after s.clock steps
  pub same : length t.keeper.arrived ≡ C.shape.cores

-- the keeper's letters, one by one and together
each-letter : (note : KeeperNote) (m : Message) (first n k : ℕ) → k ≡ note.first + first
    → filter_map (λ core. letter_with note core (Some m)) (range_with_len first n) ≡ map (with_stamp note.stamped.stamp) (mails_of Keeper k (to_each first n m))
each-letter note m first zero k is = refl
each-letter note m first (suc n) k is =
    let next : k + 1 ≡ note.first + (first + 1) = omega (arith, is) in
    rw is (ap (λ l. with_stamp note.stamped.stamp (record { id = record { sender = Keeper; number = note.first + first }; to = Core (record { 0 = first }); message = m }) ∷ l) (rw (← is) (each-letter note m (first + 1) n (k + 1) next)))

no-letter : (note : KeeperNote) (first n : ℕ) → filter_map (λ core. letter_with note core None) (range_with_len first n) ≡ []
no-letter note first zero = refl
no-letter note first (suc n) = no-letter note (first + 1) n

letters-sent : (note : KeeperNote) (cores : ℕ) (o : Option Message) → filter_map (λ core. letter_with note core o) (range_with_len 0 cores) ≡ map (with_stamp note.stamped.stamp) (mails_of Keeper note.first (letters_to_all cores o))
letters-sent note cores None = no-letter note 0 cores
letters-sent note cores (Some m) = each-letter note m 0 cores note.first (omega arith)

many : (v : Verdict) (n cores : ℕ) → n ≡ cores → letter_count v * n ≡ length (letters cores v)
many Wait n cores is = omega arith
many (Go phase) n cores is = omega (arith, is, length-to_each 0 cores (message.TheVariants.Go phase))
many Halt n cores is = omega (arith, is, length-to_each 0 cores message.TheVariants.Halt)

module _ (C : Setting) (s t : KeeperState) (all : length s.keeper.arrived ≡ C.shape.cores) (p : Posted) (inbox : List Posted) where
  abbrev keeper_came : Barrier × Verdict
  keeper_came = keeper_gets s.keeper p.mail.message

  abbrev keeper_then : KeeperState
  keeper_then = (keeper_row s p inbox keeper_came).0

  abbrev keeper_note : KeeperNote
  keeper_note = record { stamped = handling_note Keeper (stamp_after s.clock p) p.mail; verdict = keeper_came.1; first = s.next }

  abbrev keeper_step : Step
  keeper_step = record { deed = Handles p; done = keeper_done C.shape.cores keeper_note }

  keeper_is_step : IsStep C Keeper s.clock (keeper_member s) keeper_step
  unfolding comes_of
  keeper_is_step = record {
    may = tt;
    tells = ap (bank_tells Keeper s.next (stamp_after s.clock p) p) (letters-sent keeper_note C.shape.cores (letter_of keeper_came.1));
  }

  keeper_goes_on : after_deed C (keeper_member s) (Handles p) ≡ keeper_member keeper_then
  unfolding comes_of
  keeper_goes_on = ap (λ n. record { parts = KeeperIs keeper_came.0; next = s.next + n }) (sym (many keeper_came.1 (length s.keeper.arrived) C.shape.cores all))

  keeper_stays : length keeper_then.keeper.arrived ≡ C.shape.cores
  keeper_stays = cores-kept s.keeper p.mail.message ∙ all

abbrev KeeperRest : Setting → List KeeperEntry → Type 0
KeeperRest C H = (u v : KeeperState) → length u.keeper.arrived ≡ C.shape.cores → Legal keeper_answer keeper_next u H v → KeeperPart C u v H

abbrev keeper_took : KeeperState → ℕ → Option Posted × List Posted
keeper_took s pick = picked_out (may_handle s.clock s.next) s.inbox pick

pub keeper-part : (C : Setting) (H : List KeeperEntry) (s t : KeeperState) → length s.keeper.arrived ≡ C.shape.cores → Legal keeper_answer keeper_next s H t → KeeperPart C s t H
unfolding keeper_call
keeper-part C [] s t all legal =
    record { steps = []; goes = ap keeper_member legal; told = refl; clock = ap (λ (x : KeeperState). x.clock) (sym legal); same = ap (λ (x : KeeperState). length x.keeper.arrived) (sym legal) ∙ all; flow = λ f. omega (arith, ap (λ (x : KeeperState). sum_by f x.inbox) legal) }
keeper-part C (e ∷ H) s t all legal = by_input e.input refl (keeper-part C H) where
  more : (f : Posted → ℕ) → sum_by (keeper_post f) (e ∷ H) ≡ keeper_post f e + sum_by (keeper_post f) H
  more f = sum_by-cons (keeper_post f) e H

  by_taken : (pick : ℕ) → e.input ≡ keeper_in.TheVariants.Step pick → (q : Option Posted × List Posted) → keeper_took s pick ≡ q → KeeperRest C H → KeeperPart C s t (e ∷ H)
  by_taken pick input (None, inbox) q rest =
      let now : keeper_next s e.input ≡ s = ap (keeper_next s) input ∙ ap (λ x. (keeper_handles s x).0) q in
      let said : e.output ≡ keeper_out.TheVariants.Stepped None = legal.0 ∙ (ap (keeper_answer s) input ∙ ap (λ x. keeper_out.TheVariants.Stepped (keeper_handles s x).1) q) in
      let here = rest s t all (subst (λ u. Legal keeper_answer keeper_next u H t) now legal.1) in
      record {
        steps = here.steps;
        goes = here.goes;
        clock = here.clock;
        same = here.same;
        told = here.told ∙ sym (told-cons (keeper_told C.shape.cores) e H None (ap (keeper_said C.shape.cores) said));
        flow = λ f. let post : keeper_post f e ≡ 0 = ap (keeper_posted f) input in omega (arith, here.flow f, post, more f);
      }
  by_taken pick input (Some p, inbox) q rest =
      let now : keeper_next s e.input ≡ keeper_then C s t all p inbox = ap (keeper_next s) input ∙ ap (λ x. (keeper_handles s x).0) q in
      let said : e.output ≡ keeper_out.TheVariants.Stepped (Some (keeper_note C s t all p inbox)) = legal.0 ∙ (ap (keeper_answer s) input ∙ ap (λ x. keeper_out.TheVariants.Stepped (keeper_handles s x).1) q) in
      let here = rest (keeper_then C s t all p inbox) t (keeper_stays C s t all p inbox) (subst (λ u. Legal keeper_answer keeper_next u H t) now legal.1) in
      record {
        steps = keeper_step C s t all p inbox ∷ here.steps;
        clock = here.clock;
        same = here.same;
        goes = (keeper_is_step C s t all p inbox, subst (λ x. Goes C Keeper (stamp_after s.clock p) x here.steps (keeper_member t)) (sym (keeper_goes_on C s t all p inbox)) here.goes);
        told = ap (λ l. step_done (keeper_step C s t all p inbox) ∷ l) here.told ∙ sym (told-cons (keeper_told C.shape.cores) e H (Some (step_done (keeper_step C s t all p inbox))) (ap (keeper_said C.shape.cores) said));
        flow = λ f.
            let post : keeper_post f e ≡ 0 = ap (keeper_posted f) input in
            let left : sum_by f inbox + f p ≡ sum_by f s.inbox = subst (λ x. sum_by f x.1 + weight_of f x.0 ≡ sum_by f s.inbox) q (taken-weighs (may_handle s.clock s.next) s.inbox pick f) in
            omega (arith, here.flow f, post, more f, left, sum_by-cons (takes f) (keeper_step C s t all p inbox) here.steps);
      }

  by_input : (input : KeeperIn) → e.input ≡ input → KeeperRest C H → KeeperPart C s t (e ∷ H)
  by_input (keeper_in.TheVariants.Post p) input rest =
      let said : e.output ≡ keeper_out.TheVariants.Kept = legal.0 ∙ ap (keeper_answer s) input in
      let here = rest (record s { inbox = with_mail s.inbox p }) t all (subst (λ u. Legal keeper_answer keeper_next u H t) (ap (keeper_next s) input) legal.1) in
      record {
        steps = here.steps;
        goes = here.goes;
        clock = here.clock;
        same = here.same;
        told = here.told ∙ sym (told-cons (keeper_told C.shape.cores) e H None (ap (keeper_said C.shape.cores) said));
        flow = λ f. let post : keeper_post f e ≡ f p = ap (keeper_posted f) input in omega (arith, here.flow f, post, more f, sum_by_push f s.inbox p);
      }
  by_input (keeper_in.TheVariants.Step pick) input rest = by_taken pick input (keeper_took s pick) refl rest
