use Rattle.std.proofs.Common.{map, sym, subst}
use Rattle.host_workers.specs.Ends.{AreEndsOf}
use Rattle.host_workers.proofs.round.told_of.Goals as goal

pub ends_in-requires : goal.ends_in-requires
ends_in-requires c =
    let merged = c.in_ok-merged.merged.items in
    let may = c.requires.told merged c.in_ok-merged.ensures in (
      may.dones,
      subst (λ m. AreEndsOf m (map (λ e. e.items) c.as_slice-2.result.now) may.dones) (sym c.as_slice.ensures.value)
          (subst (λ es. AreEndsOf merged (map (λ e. e.items) es) may.dones) (sym c.as_slice-2.ensures.value) may.ends),
    )

pub moving_of-requires-clause-distinct : goal.moving_of-requires-clause-distinct
moving_of-requires-clause-distinct c = (c.requires.told c.in_ok-merged.merged.items c.in_ok-merged.ensures).distinct

pub moving_of-requires-clause-few : goal.moving_of-requires-clause-few
moving_of-requires-clause-few c = (c.requires.told c.in_ok-merged.merged.items c.in_ok-merged.ensures).few

pub returns-clause-ends : goal.returns-clause-ends
returns-clause-ends c = λ dones are.
    c.in_ok-ends.ensures dones
    (subst (λ m. AreEndsOf m (map (λ e. e.items) c.as_slice-2.result.now) dones) (sym c.as_slice.ensures.value)
    (subst (λ es. AreEndsOf c.in_ok-merged.merged.items (map (λ e. e.items) es) dones) (sym c.as_slice-2.ensures.value) are))
