-- The result is `decoded`'s, and what `decoded` gives is in its row.
use Rattle.std.proofs.Common.{◌≡◌, IfSome, Option, None, Some, refl, sym, ◌∙◌}
use Rattle.rv_isa.specs.declared.instr.Instr.{Instr}
use Rattle.rv_isa.proofs.RowLemmas.{row-decoded, decoded-row}
use Rattle.rv_isa.proofs.EncodingLemmas.{Fits-row, HasRegisters-row, encoded-decoded}
use Rattle.rv_isa.proofs.decoding.decode.Goals as goal

if_some : (P : Instr → Type 0) (o : Option Instr) → ((i : Instr) → o ≡ Some i → P i) → IfSome o P
if_some P None h = tt
if_some P (Some i) h = h i refl

pub returns-clause-row : goal.returns-clause-row
returns-clause-row c i =
    (λ is. decoded-row c.args.word i (sym c.read.ensures ∙ is), λ row. c.read.ensures ∙ row-decoded i c.args.word row)

pub returns-clause-fitting : goal.returns-clause-fitting
returns-clause-fitting c =
    if_some _ c.read.result (λ i is.
    let row = decoded-row c.args.word i (sym c.read.ensures ∙ is) in
    (HasRegisters-row i c.args.word row, Fits-row i c.args.word row))

pub returns-clause-same : goal.returns-clause-same
returns-clause-same c =
    if_some _ c.read.result (λ i is. encoded-decoded c.args.word i (c.ranges.word.fits) (sym c.read.ensures ∙ is))
