use Rattle.std.proofs.Common.{ℕ, List, ap, subst, sym, ◌∙◌}
use Rattle.message_net.specs.declared.message.Mail.{Mail}
use Rattle.message_net.specs.Pool.{AreDistinct}
use Rattle.dn_base.specs.declared.ids.PhaseId.{PhaseId}
use Rattle.phase_barrier.specs.Barrier.{Barrier}
use Rattle.run_chart.specs.Mails.{place_handled}
use Rattle.run_chart.specs.Words.{held_words}
use Rattle.run_chart.proofs.drawing.look_at.Goals as goal

pub origin_of-requires-clause-distinct : goal.origin_of-requires-clause-distinct
origin_of-requires-clause-distinct c = subst (λ (mails : List Mail). AreDistinct mails) (sym c.pool-2.ensures) c.requires.machine.distinct

pub returns : goal.returns
returns c =
    let S = c.args.machine.now.state in
    record {
      place = c.place_handled.ensures ∙ ap (λ (mails : List Mail). place_handled mails c.args.event) c.pool.ensures;
      actor = c.event_maker-actor.ensures;
      about = c.about.ensures;
      need = c.needed_by.ensures;
      phase = ap {B = PhaseId} (λ (n : ℕ). record { 0 = n }) (c.phase.ensures ∙ ap (λ (k : Barrier). k.phase) c.keeper.ensures);
      mail = c.origin_of.ensures;
      end = c.ends_by.ensures;
      held =
          record {
            words = c.in_ok-words.words.items;
            gathered = c.in_ok-words.ensures;
            are = c.in_ok-held_words.ensures ∙ ap (λ (words : List ℕ). held_words S c.event_maker-actor.result words) c.as_slice.ensures.value;
          };
    }
