-- The lines that say that a claim agrees, or where it first differs.
use Rattle.std.specs.Prelude.{ℕ, List, [], ◌++◌, codes, Option, Some, None}
use Rattle.std.specs.Fmt.{decimal}
use Rattle.dn_base.specs.declared.ids.LoadSeen.{LoadSeen}
use Rattle.text_pieces.specs.Pieces.{newline, space, hexadecimal}
use Rattle.text_pieces.specs.Field.{field}
use Rattle.claims.specs.declared.verdict.LoadPlace.{LoadPlace}
use Rattle.claims.specs.declared.verdict.Verdict.{Verdict}
use Rattle.claims.specs.declared.verdict.Verdict as verdict

-- the phase, the core and the number of the load
unfoldable pub place_text : LoadPlace → List ℕ
place_text p = decimal p.phase.0 ++ space ++ decimal p.core.0 ++ space ++ decimal p.load

-- the right load, or that there is none
unfoldable pub load_text : Option LoadSeen → List ℕ
load_text None = codes "end"
load_text (Some s) = codes "word " ++ decimal s.word.0 ++ codes " value " ++ hexadecimal s.value

-- the right line of an answer, if there is one
unfoldable pub line_text : Option (List ℕ) → List ℕ
line_text None = []
line_text (Some line) = line ++ newline

-- a line that ends with a place and the load that should stand there
unfoldable pub load_line : List ℕ → LoadPlace → Option LoadSeen → List ℕ
load_line name place right = name ++ place_text place ++ space ++ load_text right ++ newline

unfoldable pub verdict_text : Verdict → List ℕ
verdict_text verdict.TheVariants.Agrees = codes "agrees\n"
verdict_text (verdict.TheVariants.Grants grant) = field (codes "differs grants ") newline grant
verdict_text verdict.TheVariants.Tasks = codes "differs tasks\n"
verdict_text (verdict.TheVariants.Load place right) = load_line (codes "differs load ") place right
verdict_text (verdict.TheVariants.Answer line right) = field (codes "differs answer ") newline line ++ line_text right
