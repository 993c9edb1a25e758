use Rattle.std.proofs.Common.{rules, ◌≡◌, List, [], ◌∷◌, map, refl}
use Rattle.std.specs.List.{AllZip}
use Rattle.std.proofs.lemmas.Result.{IfOk-weaker}
use Rattle.src_text.specs.Line.{lines_of}
use Rattle.src_text.specs.declared.line.Line.{Line}
use Rattle.rv_assembler.specs.declared.parsing.Reading.{Reading}
use Rattle.rv_assembler.specs.Reading.{reading_of}
use Rattle.rv_assembler.proofs.parsing.read_text.Goals as goal

all-mapped : (R : Line → Reading → Type 0) (g : Line → Reading) → ((x : Line) (y : Reading) → R x y → y ≡ g x) → (xs : List Line) (ys : List Reading) → AllZip R xs ys → ys ≡ map g xs
all-mapped R g same [] [] all = refl
all-mapped R g same [] (y ∷ ys) all = absurd all
all-mapped R g same (x ∷ xs) [] all = absurd all
all-mapped R g same (x ∷ xs) (y ∷ ys) all =
    let first = same x y all.0 in
    let others = all-mapped R g same xs ys all.1 in
    λ i. first i ∷ others i

pub returns : goal.returns
returns c =
    IfOk-weaker c.map_lines.result _ _
    (λ made all. all-mapped _ (reading_of c.args.version c.args.text.now) (λ line reading at'. search rules) (lines_of c.args.text.now) made.items all)
    c.map_lines.ensures
