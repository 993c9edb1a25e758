use Rattle.std.proofs.Common.{length, sym, ap, ◌∙◌, subst}
use Rattle.bank_hall.specs.Halls.{AreNewPasses}
use Rattle.bank_hall.proofs.HallStart.{passes_length, new_passes}
use Rattle.bank_hall.proofs.EndLemmas.{opened_all}
use Rattle.bank_hall.proofs.hall.Hall.start.Goals as goal

pub returns-clause-count : goal.returns-clause-count
returns-clause-count c =
    let b = c.in_ok-banks.ensures.count in
    ap length c.in_ok-all.ensures ∙ passes_length _ _ _ (b ∙ sym c.in_ok-ports.ensures.count) (b ∙ sym c.in_ok-keeper.ensures.count) ∙ b

pub returns-clause-new : goal.returns-clause-new
returns-clause-new c =
    let b = c.in_ok-banks.ensures.count in
    subst (AreNewPasses _ 0) (sym c.in_ok-all.ensures) (new_passes _ 0 _ _ _ (b ∙ sym c.in_ok-ports.ensures.count) (b ∙ sym c.in_ok-keeper.ensures.count) c.in_ok-banks.ensures.new c.in_ok-ports.ensures.new c.in_ok-keeper.ensures.new)

pub returns-clause-all : goal.returns-clause-all
returns-clause-all c =
    let b = c.in_ok-banks.ensures.count in
    let count = ap length c.in_ok-all.ensures ∙ passes_length _ _ _ (b ∙ sym c.in_ok-ports.ensures.count) (b ∙ sym c.in_ok-keeper.ensures.count) ∙ b in
    let new = subst (AreNewPasses _ 0) (sym c.in_ok-all.ensures) (new_passes _ 0 _ _ _ (b ∙ sym c.in_ok-ports.ensures.count) (b ∙ sym c.in_ok-keeper.ensures.count) c.in_ok-banks.ensures.new c.in_ok-ports.ensures.new c.in_ok-keeper.ensures.new) in
    opened_all _ _ _ _ _ _ count new c.in_ok-banks.ensures.opened c.in_ok-ports.ensures.opened c.in_ok-keeper.ensures.opened
