use Rattle.std.proofs.Common.{List, ap, subst, ◌∙◌}
use Rattle.rv_core.specs.declared.ending.TaskEnd.{TaskEnd}
use Rattle.grant_log.specs.declared.log.Stamped.{Stamped}
use Rattle.host_workers.specs.Ends.{with_ends}
use Rattle.host_workers.specs.RoundOf.{HasNoted}
use Rattle.host_workers.proofs.noting.note_round.Goals as goal

pub note_events-requires-clause-few : goal.note_events-requires-clause-few
note_events-requires-clause-few c = rw (c.as_slice.ensures.value) c.requires.few

pub returns : goal.returns
returns c =
    let noted = c.note_events.new.log in record {
      noted = noted;
      entries = subst (λ (xs : List Stamped). HasNoted xs c.args.log.now noted) c.as_slice.ensures.value c.in_ok-note_events.ensures;
      ends = c.note_ends.ensures ∙ ap (λ (xs : List TaskEnd). record noted { ends = with_ends xs noted.ends }) c.as_slice-2.ensures.value;
    }
