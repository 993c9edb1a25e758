use Rattle.std.proofs.Common.{List, length, slice_get, sym, ap, ◌∙◌}
use Rattle.text_places.specs.declared.places.CodePlace.{CodePlace}
use Rattle.text_places.proofs.LineLemmas.{all-code, code-of_line}
use Rattle.view_top.proofs.laws.each_line_gives_its_code_word.Goals as goal

pub returns-clause-count : goal.returns-clause-count
returns-clause-count c = λ o text r timing finishes d P are is. ap (λ (xs : List CodePlace). length xs) are.places ∙ all-code text P is

pub returns-clause-lines : goal.returns-clause-lines
returns-clause-lines c = λ o text r timing finishes d number place are here. code-of_line text number place (ap (λ (xs : List CodePlace). slice_get xs number) (sym are.places) ∙ here)
