-- What the account is after each event.
use Rattle.std.proofs.Common.{◌≡◌, ℕ, ◌==◌, Bool, true, false, cond, List, [], slice_get, Some, None, refl, arith}
use Rattle.std.proofs.lemmas.Bool.Decides.{nat_tests}
use Rattle.dn_base.specs.declared.ids.CoreId.{CoreId}
use Rattle.dn_base.specs.declared.ids.BankId.{BankId}
use Rattle.dn_base.specs.declared.ids.WordId.{WordId}
use Rattle.message_net.specs.declared.actor.Actor.TheVariants.{Core, Bank, Keeper}
use Rattle.message_net.specs.declared.actor.MailId.{MailId}
use Rattle.message_net.specs.declared.event.Event.{Event}
use Rattle.message_net.specs.declared.event.Event.TheVariants.{Instr, Evict, Arrive, Handle}
use Rattle.message_net.specs.declared.message.Mail.{Mail}
use Rattle.message_net.specs.Pool.{removed}
use Rattle.word_cache.specs.Cache.{AreDifferent}
use Rattle.registry_bank.specs.Bank.{BankParts}
use Rattle.registration_protocol.specs.Node.{NodeParts, entry_of}
use Rattle.machine_rules.specs.State.{State}
use Rattle.run_account.specs.Tallies.{with_items}
use Rattle.run_account.specs.declared.item.Item.{Item}
use Rattle.run_account.specs.Departures.{Departures, departures_with, gone_at_eviction, gone_at_message, gone_in}
use Rattle.run_account.specs.Handings.{Handings, handings_with, handed_in}
use Rattle.run_account.specs.Events.{instr_items, evict_items, message_items, items_in}
use Rattle.run_account.specs.Account.{Accounted, adding, account_after}
use Rattle.run_account.specs.Moves.{evict_departs, message_departs, message_hands}
use Rattle.run_account.proofs.Gone.{none-gone}
use Rattle.run_account.proofs.Moved.{evict-moved, message-moved}
use Rattle.run_account.proofs.Passed.{none-handed, bank-handed}

-- by its three parts
by-parts : (S : State) (e : Event) (A : Accounted) (items : List Item) (D : Departures) (H : Handings) → items_in S A.departures A.handings e ≡ items
    → departures_with (gone_in S e) A.departures ≡ D → handings_with (handed_in S e) A.handings ≡ H
    → account_after S e A ≡ record { tallies = with_items A.tallies items; departures = D; handings = H }
unfolding account_after
by-parts S e A items D H counted gone with_handing = rw (counted, gone, with_handing) refl

pub after_instr : (S : State) (core : CoreId) (A : Accounted) (n : NodeParts) → slice_get S.nodes core.0 ≡ Some n
    → account_after S (Instr core) A ≡ adding A (instr_items S A.departures n)
unfolding items_in gone_in handed_in
after_instr S core A n there =
    by-parts S (Instr core) A (instr_items S A.departures n) A.departures A.handings (rw there refl)
    (none-gone (gone_in S (Instr core)) A.departures (λ c w. refl)) (none-handed (handed_in S (Instr core)) A.handings (λ l. refl))

pub after_no_instr : (S : State) (core : CoreId) (A : Accounted) → slice_get S.nodes core.0 ≡ None → account_after S (Instr core) A ≡ A
unfolding items_in gone_in handed_in
after_no_instr S core A none =
    by-parts S (Instr core) A [] A.departures A.handings (rw none refl)
    (none-gone (gone_in S (Instr core)) A.departures (λ c w. refl)) (none-handed (handed_in S (Instr core)) A.handings (λ l. refl))

pub after_evict : (S : State) (core : CoreId) (word : WordId) (A : Accounted) (n : NodeParts) → slice_get S.nodes core.0 ≡ Some n → n.core ≡ core.0
    → account_after S (Evict core word) A
    ≡ record A { tallies = with_items A.tallies (evict_items n word (entry_of n word.0)); departures = evict_departs A.departures n word (entry_of n word.0) }
unfolding items_in handed_in
after_evict S core word A n there own =
    by-parts S (Evict core word) A (evict_items n word (entry_of n word.0)) (evict_departs A.departures n word (entry_of n word.0)) A.handings (rw there refl)
    (evict-moved S core word n there own A.departures) (none-handed (handed_in S (Evict core word)) A.handings (λ l. refl))

pub after_no_evict : (S : State) (core : CoreId) (word : WordId) (A : Accounted) → slice_get S.nodes core.0 ≡ None → account_after S (Evict core word) A ≡ A
unfolding items_in gone_in handed_in
after_no_evict S core word A none =
    by-parts S (Evict core word) A [] A.departures A.handings (rw none refl)
    (none-gone (gone_in S (Evict core word)) A.departures nowhere) (none-handed (handed_in S (Evict core word)) A.handings (λ l. refl))
  where
    nowhere : (c w : ℕ) → gone_in S (Evict core word) c w ≡ None
    nowhere c w = by_core (core.0 == c) refl where
      by_core : (t : Bool) → (core.0 == c) ≡ t → cond t (gone_at_eviction S (slice_get S.nodes c) (Evict core word) w) None ≡ None
      by_core true e = let same : c ≡ core.0 = grind (arith, nat_tests) in rw (same, none) refl
      by_core false e = refl

pub after_arrive : (S : State) (core : CoreId) (A : Accounted) → account_after S (Arrive core) A ≡ A
unfolding items_in gone_in handed_in
after_arrive S core A =
    by-parts S (Arrive core) A [] A.departures A.handings refl
    (none-gone (gone_in S (Arrive core)) A.departures (λ c w. refl)) (none-handed (handed_in S (Arrive core)) A.handings (λ l. refl))

pub after_no_mail : (S : State) (id : MailId) (A : Accounted) → (removed id S.mails).0 ≡ None → account_after S (Handle id) A ≡ A
unfolding items_in gone_in handed_in
after_no_mail S id A none =
    by-parts S (Handle id) A [] A.departures A.handings (rw none refl)
    (none-gone (gone_in S (Handle id)) A.departures (λ c w. rw none refl)) (none-handed (handed_in S (Handle id)) A.handings (λ l. rw none refl))

module _ (S : State) (id : MailId) (m : Mail) (A : Accounted) (mail : (removed id S.mails).0 ≡ Some m) where
  pub after_core_mail : (core : CoreId) (n : NodeParts) → m.to ≡ Core core → slice_get S.nodes core.0 ≡ Some n → n.core ≡ core.0 → AreDifferent n.cache.pairs
      → account_after S (Handle id) A
      ≡ record A { tallies = with_items A.tallies (message_items S A.handings m.id.sender n m.message); departures = message_departs S.setting A.departures n m.message }
  unfolding items_in handed_in
  after_core_mail core n to there own apart =
      by-parts S (Handle id) A (message_items S A.handings m.id.sender n m.message) (message_departs S.setting A.departures n m.message) A.handings (rw (mail, to, there) refl)
      (message-moved S id m core n mail to there own A.departures apart) (none-handed (handed_in S (Handle id)) A.handings (λ l. rw (mail, to) refl))

  pub after_no_core : (core : CoreId) → m.to ≡ Core core → slice_get S.nodes core.0 ≡ None → account_after S (Handle id) A ≡ A
  unfolding items_in gone_in handed_in
  after_no_core core to none =
      by-parts S (Handle id) A [] A.departures A.handings (rw (mail, to, none) refl)
      (none-gone (gone_in S (Handle id)) A.departures nowhere) (none-handed (handed_in S (Handle id)) A.handings (λ l. rw (mail, to) refl))
    where
      nowhere : (c w : ℕ) → gone_in S (Handle id) c w ≡ None
      nowhere c w = rw (mail, to) (by_core (core.0 == c) refl) where
        by_core : (t : Bool) → (core.0 == c) ≡ t → cond t (gone_at_message S (slice_get S.nodes c) m.message w) None ≡ None
        by_core true e = let same : c ≡ core.0 = grind (arith, nat_tests) in rw (same, none) refl
        by_core false e = refl

  pub after_bank_mail : (bank : BankId) (b : BankParts) → m.to ≡ Bank bank → slice_get S.banks bank.0 ≡ Some b
      → account_after S (Handle id) A ≡ record A { handings = message_hands b A.handings m.message }
  unfolding items_in gone_in
  after_bank_mail bank b to there =
      by-parts S (Handle id) A [] A.departures (message_hands b A.handings m.message) (rw (mail, to) refl)
      (none-gone (gone_in S (Handle id)) A.departures (λ c w. rw (mail, to) refl)) (bank-handed S id m bank b A.handings mail to there)

  pub after_no_bank : (bank : BankId) → m.to ≡ Bank bank → slice_get S.banks bank.0 ≡ None → account_after S (Handle id) A ≡ A
  unfolding items_in gone_in handed_in
  after_no_bank bank to none =
      by-parts S (Handle id) A [] A.departures A.handings (rw (mail, to) refl)
      (none-gone (gone_in S (Handle id)) A.departures (λ c w. rw (mail, to) refl)) (none-handed (handed_in S (Handle id)) A.handings (λ l. rw (mail, to, none) refl))

  pub after_keeper_mail : m.to ≡ Keeper → account_after S (Handle id) A ≡ A
  unfolding items_in gone_in handed_in
  after_keeper_mail to =
      by-parts S (Handle id) A [] A.departures A.handings (rw (mail, to) refl)
      (none-gone (gone_in S (Handle id)) A.departures (λ c w. rw (mail, to) refl)) (none-handed (handed_in S (Handle id)) A.handings (λ l. rw (mail, to) refl))
