use Rattle.std.proofs.Common.{◌≡◌, ◌⊎◌, inl, inr, sym, ◌∙◌}
use Rattle.message_net.specs.declared.event.Event.{Event}
use Rattle.machine_rules.specs.State.{State}
use Rattle.dn_base.specs.declared.ids.CoreId.{CoreId}
use Rattle.dn_base.specs.declared.ids.WordId.{WordId}
use Rattle.message_net.specs.declared.event.Event.TheVariants.{Evict, Arrive}
use Rattle.run_account.specs.Runs.{Listed, listed_after}
use Rattle.run_account.proofs.ListAfter.{after_handle, after_evict, after_arrive}
use Rattle.run_account.proofs.listing.Listing.note.Goals as goal

pub returns-in-Handle : goal.returns-in-Handle
returns-in-Handle c = rw c.in-Handle.is (c.note_handle.ensures ∙ sym (after_handle c.args.machine.now.state c.in-Handle.id c.args.self.now))

-- neither event counts
nothing : (S : State) (A : Listed) (e : Event) → ((core : CoreId) × (word : WordId) × (e ≡ Evict core word)) ⊎ ((core : CoreId) × (e ≡ Arrive core)) → A ≡ listed_after S e A
nothing S A e (inl (core, word, is)) = rw is (sym (after_evict S core word A))
nothing S A e (inr (core, is)) = rw is (sym (after_arrive S core A))

pub returns-in-Evict : goal.returns-in-Evict
returns-in-Evict c = nothing c.args.machine.now.state c.args.self.now c.args.event c.in-Evict.is
