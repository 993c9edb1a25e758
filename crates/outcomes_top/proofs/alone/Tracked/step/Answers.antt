use Rattle.std.proofs.Common.{◌∙◌, subst, arith}
use Rattle.rv_core.specs.declared.need.Need.TheVariants.{Local, Load, Store, Acquire, Release, End}
use Rattle.flat_machine.specs.Step.{HasLock}
use Rattle.flat_machine.proofs.StepLemmas.{has-lock}
use Rattle.outcomes_top.proofs.StepLemmas.{goes-by, well-released}
use Rattle.outcomes_top.proofs.alone.Tracked.step.Goals as goal

pub acquire-requires-clause-lock : goal.acquire-requires-clause-lock
acquire-requires-clause-lock c =
    let S = c.args.place.now in
    let a = c.args.self.now.task in
    subst HasLock c.in-Acquire.is (has-lock S.program S.decl a.state c.in-Some.next.need c.in-Some.ensures.locks c.in-Some.ensures.allowed)

pub returns-in-Local-clause-value : goal.returns-in-Local-clause-value
returns-in-Local-clause-value c =
    c.go_on.ensures.value ∙ goes-by c.args.place.now c.args.self.now.task c.in-Some.next Local c.in-Some.ensures.open c.in-Some.ensures.next c.in-Some.ensures.settled c.in-Local.is

pub returns-in-Load-clause-value : goal.returns-in-Load-clause-value
returns-in-Load-clause-value c =
    c.load.ensures.value ∙ goes-by c.args.place.now c.args.self.now.task c.in-Some.next (Load c.in-Load.word) c.in-Some.ensures.open c.in-Some.ensures.next c.in-Some.ensures.settled c.in-Load.is

pub returns-in_ok-store-in-Store-clause-value : goal.returns-in_ok-store-in-Store-clause-value
returns-in_ok-store-in-Store-clause-value c =
    c.in_ok-store-in-Store.ensures.value
    ∙ goes-by c.args.place.now c.args.self.now.task c.in-Some.next (Store c.in-Store.word c.in-Store.whole) c.in-Some.ensures.open c.in-Some.ensures.next c.in-Some.ensures.settled c.in-Store.is

pub returns-in-Acquire-clause-value : goal.returns-in-Acquire-clause-value
returns-in-Acquire-clause-value c =
    c.acquire.ensures.value
    ∙ goes-by c.args.place.now c.args.self.now.task c.in-Some.next (Acquire c.in-Acquire.lock) c.in-Some.ensures.open c.in-Some.ensures.next c.in-Some.ensures.settled c.in-Acquire.is

pub returns-in-Release-clause-value : goal.returns-in-Release-clause-value
returns-in-Release-clause-value c =
    c.release.ensures.value
    ∙ goes-by c.args.place.now c.args.self.now.task c.in-Some.next (Release c.in-Release.lock) c.in-Some.ensures.open c.in-Some.ensures.next c.in-Some.ensures.settled c.in-Release.is

pub returns-in-Release-clause-well : goal.returns-in-Release-clause-well
returns-in-Release-clause-well c =
    well-released c.args.place.now c.args.self.now.task c.release.new.self.task c.in-Release.lock.0 c.requires.well c.release.ensures.value c.release.ensures.within

pub returns-in-End-clause-value : goal.returns-in-End-clause-value
returns-in-End-clause-value c =
    c.stop.ensures ∙ goes-by c.args.place.now c.args.self.now.task c.in-Some.next (End c.in-End.cause) c.in-Some.ensures.open c.in-Some.ensures.next c.in-Some.ensures.settled c.in-End.is

pub stop-requires-clause-retired : goal.stop-requires-clause-retired
stop-requires-clause-retired c = omega (arith, c.requires.well.fuel c.in-Some.ensures.open, c.in-Some.ensures.fuel)
