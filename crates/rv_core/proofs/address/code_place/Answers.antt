use Rattle.std.proofs.Common.{◌∙◌}
use Rattle.rv_core.proofs.PlaceLemmas.{place-here, place-nowhere}
use Rattle.rv_core.proofs.address.code_place.Goals as goal

pub returns-clause-here : goal.returns-clause-here
returns-clause-here c = λ low aligned. c.rotate_right.ensures ∙ place-here c.args.pc c.ranges.pc.fits low aligned

pub returns-clause-nowhere : goal.returns-clause-nowhere
returns-clause-nowhere c = λ out. rw c.rotate_right.ensures (place-nowhere c.args.pc c.ranges.pc.fits out)
