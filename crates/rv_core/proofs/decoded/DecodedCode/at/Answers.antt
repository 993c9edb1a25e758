use Rattle.std.proofs.Common.{◌∙◌}
use Rattle.rv_core.proofs.DecodedLemmas.{found-place}
use Rattle.rv_core.proofs.decoded.DecodedCode.at.Goals as goal

pub returns : goal.returns
returns c = c.entry.ensures ∙ found-place c.args.self.now c.args.pc c.code_place.result c.requires c.code_place.ensures.here c.code_place.ensures.nowhere
