use Rattle.std.proofs.Common.{◌≡◌, IfOk, subst}
use Rattle.region_table.specs.Program.{ProgramParts}
use Rattle.sentences.specs.Stops.{stops_at_end}
use Rattle.sentences.proofs.StopLemmas.{stops-told}
use Rattle.sentences.proofs.stopping.stops.Goals as goal

pub returns : goal.returns
returns c =
    let at_end = subst (λ (p : ProgramParts). IfOk c.stops_at_end.result (λ found. found ≡ stops_at_end p c.args.fuel c.in_ok-end.end)) c.program.ensures.value c.stops_at_end.ensures in
    stops-told c.args.checked.now c.args.fuel c.args.grants.now _ c.in_ok-end.ensures.value c.stops_at_end.result at_end
