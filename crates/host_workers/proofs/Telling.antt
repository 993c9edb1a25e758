-- What the one list of a round has of each actor is what the histories tell.
use Rattle.std.proofs.Common.{◌≡◌, ℕ, ◌<◌, List, [], ◌∷◌, map, Some, None, refl, sym, ap, ◌∙◌}
use Rattle.std.specs.Prelude.{filter_map, option_map}
use Rattle.std.specs.List.{cons_option}
use Rattle.dn_base.specs.declared.ids.CoreId.{CoreId}
use Rattle.message_net.specs.declared.actor.Actor.{Actor}
use Rattle.message_net.specs.declared.actor.Actor.TheVariants.{Core, Keeper}
use Rattle.message_net.specs.declared.event.Event.{Event}
use Rattle.message_net.specs.declared.event.Event.TheVariants.{Instr, Evict, Arrive, Handle}
use Rattle.registration_protocol.specs.Node.{Setting}
use Rattle.registration_protocol.proofs.OwnLemmas.{own-comes}
use Rattle.machine_rules.specs.State.{State}
use Rattle.bank_hall.specs.declared.bank.BankOut as bank_out
use Rattle.bank_hall.specs.declared.bank.BankOut.{BankOut}
use Rattle.bank_hall.specs.declared.port.PortOut as port_out
use Rattle.bank_hall.specs.declared.port.PortOut.{PortOut}
use Rattle.bank_hall.specs.declared.keeper.KeeperOut as keeper_out
use Rattle.bank_hall.specs.declared.keeper.KeeperOut.{KeeperOut}
use Rattle.bank_hall.specs.Handlings as hall
use Rattle.host_workers.specs.Members.{ActorParts, NodeIs, BankIs, KeeperIs, Missing, Member, Deed, Handles, Makes, MayDo, member, event_of, after_deed}
use Rattle.host_workers.specs.Steps.{Done, Step, Goes, stamp_of}
use Rattle.host_workers.specs.Acts.{note_of, steps_by}
use Rattle.host_workers.specs.Rounds.{Round, owner, core_at, bank_at, IsJoined}
use Rattle.host_workers.specs.Entries.{entries_of, note_of_bank, bank_answered, note_of_keeper, keeper_answered, id_of, port_gave, mail_handled, handled_by, AreAnswers, AreGivenMails}
use Rattle.host_workers.proofs.Numbers.{is-below}
use Rattle.host_workers.proofs.Mapped.{filter_map-map, map-first, map-told}
use Rattle.host_workers.proofs.Weaving.{step_note}
use Rattle.host_workers.proofs.Objects.{bank_said, bank_told, keeper_said, keeper_told, port_said, port_told}
use Rattle.host_workers.proofs.Traces.{deed_mail, handled_in, steps-tell}
use Rattle.host_workers.proofs.Joining.{bank-history, keeper-history, core-tells, noted}

-- ---- what an answer tells

bank-noted : (out : BankOut) → option_map note_of (bank_said out) ≡ option_map note_of_bank (hall.bank_told out)
bank-noted bank_out.TheVariants.Kept = refl
bank-noted (bank_out.TheVariants.Stepped None) = refl
bank-noted (bank_out.TheVariants.Stepped (Some handled)) = refl

keeper-noted : (cores : ℕ) (out : KeeperOut) → option_map note_of (keeper_said cores out) ≡ option_map note_of_keeper (hall.keeper_told out)
keeper-noted cores keeper_out.TheVariants.Kept = refl
keeper-noted cores (keeper_out.TheVariants.Stepped None) = refl
keeper-noted cores (keeper_out.TheVariants.Stepped (Some note)) = refl

port-given : (out : PortOut) → option_map id_of (port_said out) ≡ option_map id_of (hall.port_took out)
port-given port_out.TheVariants.Kept = refl
port-given (port_out.TheVariants.Taken taken) = refl

-- ---- a core's events

-- a core handles no mail in an event of its own
own-handles-none : (C : Setting) (x : ActorParts) (e : Event) → MayDo C x (Makes e) → mail_handled e ≡ None
own-handles-none C (NodeIs n) (Instr core) may = refl
own-handles-none C (NodeIs n) (Evict core word) may = refl
own-handles-none C (NodeIs n) (Arrive core) may = refl
own-handles-none C (NodeIs n) (Handle id) may = absurd (own-comes C n (Handle id) may)
own-handles-none C (BankIs b) e may = absurd may
own-handles-none C (KeeperIs k) e may = absurd may
own-handles-none C Missing e may = absurd may

deed-handles : (C : Setting) (x : ActorParts) (d : Deed) → MayDo C x d → mail_handled (event_of d) ≡ option_map id_of (deed_mail d)
deed-handles C x (Handles p) may = refl
deed-handles C x (Makes e) may = own-handles-none C x e may

goes-handle : (C : Setting) (a : Actor) (clock : ℕ) (x : Member) (ss : List Step) (y : Member) → Goes C a clock x ss y
    → filter_map (λ s. handled_by (step_note s)) ss ≡ map id_of (filter_map handled_in ss)
goes-handle C a clock x [] y goes = refl
goes-handle C a clock x (s ∷ ss) y goes =
    let here : handled_by (step_note s) ≡ option_map id_of (handled_in s) = ap (λ (d : Done). handled_by d.stamped) goes.0.tells ∙ deed-handles C x.parts s.deed goes.0.may in
    ap (λ o. cons_option o (filter_map (λ t. handled_by (step_note t)) ss)) here
    ∙ (ap (λ l. cons_option (option_map id_of (handled_in s)) l) (goes-handle C a (stamp_of s) (after_deed C x s.deed) ss y goes.1)
    ∙ sym (map-first id_of (handled_in s) (filter_map handled_in ss)))

-- ---- a round

module _ (C : Setting) (S T : State) (r : Round) (joined : IsJoined C S T r) where
  bank-entries : (b : ℕ) → b < C.shape.banks → entries_of r (bank_at b) ≡ filter_map bank_answered (r.histories.banks b)
  bank-entries b below =
      joined.merged.parts (bank_at b) (is-below b C.shape.banks below)
      ∙ (ap (map note_of) (sym (bank-history C S T r joined.some joined.worked (record { 0 = b })))
      ∙ map-told note_of bank_told bank_answered (r.histories.banks b) (λ e. bank-noted e.output))

  keeper-entries : entries_of r Keeper ≡ filter_map keeper_answered r.histories.keeper
  keeper-entries =
      joined.merged.parts Keeper refl
      ∙ (ap (map note_of) (sym (keeper-history C S T r joined.some joined.worked))
      ∙ map-told note_of (keeper_told C.shape.cores) keeper_answered r.histories.keeper (λ e. keeper-noted C.shape.cores e.output))

  abbrev core-steps : CoreId → List Step
  core-steps core = steps_by core (r.work (owner r.workers (Core core)))

  core-entries : (c : ℕ) → c < C.shape.cores → entries_of r (core_at c) ≡ map step_note (core-steps (record { 0 = c }))
  core-entries c below =
      let core : CoreId = record { 0 = c } in
      joined.merged.parts (core_at c) (is-below c C.shape.cores below)
      ∙ (ap (map note_of) (sym (steps-tell C.shape core (r.work (owner r.workers (Core core))))) ∙ sym (noted (core-steps core)))

  core-mails : (c : ℕ) → c < C.shape.cores → filter_map handled_by (entries_of r (core_at c)) ≡ filter_map port_gave (r.histories.ports c)
  core-mails c below =
      let core : CoreId = record { 0 = c } in
      ap (filter_map handled_by) (core-entries c below)
      ∙ (filter_map-map handled_by step_note (core-steps core)
      ∙ (goes-handle C (Core core) 0 (member S (Core core)) (core-steps core) (member T (Core core)) (joined.worked.cores core below)
      ∙ (ap (map id_of) (sym (core-tells C S T r joined.some joined.worked core))
      ∙ map-told id_of port_told port_gave (r.histories.ports c) (λ e. port-given e.output))))

  pub answers-told : AreAnswers C r
  answers-told = record { banks = bank-entries; keeper = keeper-entries }

  pub mails-given : AreGivenMails C r
  mails-given = record { cores = core-mails }
