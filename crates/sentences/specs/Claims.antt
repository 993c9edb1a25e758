-- Which lines of a text have effects that give a data word to one of the tasks that conflict on it, in the way of the conflict. The
-- effects of a family of tasks stand after the family's line, and before the next family or phase.
use Rattle.std.specs.Prelude.{ℕ, ℤ, pos, neg_ℤ, ◌+ℤ◌, ◌*ℤ◌, Bool, true, false, ◌&&◌, ◌==◌, nat_le, nat_lt, List, [], ◌∷◌, ◌++◌, length, Option, Some, None, is_none, option_map, slice_get, bytes_eq, if◌then◌else◌}
use Rattle.region_table.specs.declared.declared.Region.{Region}
use Rattle.region_table.specs.Program.{ProgramParts}
use Rattle.src_text.specs.declared.token.Token.{Token}
use Rattle.rv_assembler.specs.declared.statement.Effect.{Effect}
use Rattle.rv_assembler.specs.declared.statement.Extent.{Extent}
use Rattle.rv_assembler.specs.declared.statement.Extent as extent
use Rattle.rv_assembler.specs.declared.statement.Statement.{Statement}
use Rattle.rv_assembler.specs.declared.statement.Statement as statement
use Rattle.rv_assembler.specs.declared.parsing.Reading.{Reading}
use Rattle.rv_assembler.specs.declared.parsing.Reading.TheVariants.{Bad, Good}
use Rattle.rv_assembler.specs.declared.draft.Claim.{Claim}
use Rattle.rv_assembler.specs.Number.{is_within}
use Rattle.rv_assembler.specs.Operand.{bytes_of}
use Rattle.rv_assembler.specs.Source.{readings}
use Rattle.text_places.specs.declared.places.TaskPlace.{TaskPlace}
use Rattle.text_places.specs.declared.words.WordPlace.{WordPlace}
use Rattle.text_places.specs.Words.{word_place}
use Rattle.sentences.specs.declared.claims.Contender.{Contender}
use Rattle.sentences.specs.declared.claims.Way.{Way}
use Rattle.sentences.specs.declared.claims.Way.TheVariants.{Stores, Plainly, Under}

-- whether an index is in an interval that is moved by this much; indices of a region differ by at most 65,536
abbrev pub moved_has : ℤ → ℤ → ℤ → ℕ → Bool
moved_has lo hi moved index = is_within (neg_ℤ (pos 65536)) (pos 65537) moved && is_within (lo +ℤ moved) (hi +ℤ moved) (pos index)

-- whether an effect gives the word with this index in its region to the family's task of this number. The interval of the first
-- task is moved by the step for each next task
abbrev pub extent_has : Extent → ℕ → ℕ → Bool
extent_has extent.TheVariants.Whole part index = true
extent_has (extent.TheVariants.Part lo hi) part index = is_within lo hi (pos index)
extent_has (extent.TheVariants.Stepped lo hi step) part index = moved_has lo hi (pos part *ℤ step) index

-- whether a claim, as the definition of the language has it, has a word
abbrev pub claim_has : Claim → ℕ → Bool
claim_has k w = nat_le k.lo w && nat_lt w k.hi

-- whether an effect of the family that stands on this line gives it to the task
abbrev pub gives_to : ℕ → Extent → ℕ → Option TaskPlace → Bool
gives_to family e index None = false
gives_to family e index (Some t) = t.line == family && extent_has e t.part index

-- whether a token is the name of the region
abbrev pub names_region : List ℕ → Token → Option Region → Bool
names_region text t None = false
names_region text t (Some r) = bytes_eq (bytes_of text t) r.name

-- whether a token is the name of the lock
abbrev pub names_lock : List ℕ → Option Token → Option (List ℕ) → Bool
names_lock text None name = false
names_lock text (Some t) None = false
names_lock text (Some t) (Some name) = bytes_eq (bytes_of text t) name

-- whether an effect is of this way: a plain one for stores; a plain one; or one under the lock of this number
abbrev pub uses_so : List ℕ → List (List ℕ) → Way → Bool → Option Token → Bool
uses_so text locks Stores writes lock = writes && is_none lock
uses_so text locks Plainly writes lock = is_none lock
uses_so text locks (Under number) writes lock = names_lock text lock (slice_get locks number)

abbrev pub effect_claims : List ℕ → ProgramParts → Contender → ℕ → Effect → Bool
effect_claims text p c family e =
    names_region text e.region (slice_get p.regions c.place.region)
    && (uses_so text p.locks c.way e.writes e.lock && gives_to family e.extent c.place.index c.task)

abbrev pub statement_claims : List ℕ → ProgramParts → Contender → ℕ → Statement → Bool
statement_claims text p c family (statement.TheVariants.Uses e) = effect_claims text p c family e
statement_claims text p c family _ = false

abbrev pub line_if : Bool → ℕ → List ℕ
line_if b line = if b then line ∷ [] else []

-- the line, if it claims the word
abbrev pub claim_on : List ℕ → ProgramParts → Contender → ℕ → Reading → List ℕ
claim_on text p c family (Bad f) = []
claim_on text p c family (Good s) = line_if (statement_claims text p c family s.statement) s.line

-- the line of the current family after a statement; 0 if there is none
abbrev pub family_by : ℕ → ℕ → Statement → ℕ
family_by family line statement.TheVariants.Phase = 0
family_by family line (statement.TheVariants.Tasks f) = line
family_by family line _ = family

abbrev pub family_behind : ℕ → Reading → ℕ
family_behind family (Bad f) = family
family_behind family (Good s) = family_by family s.line s.statement

-- the lines that claim the word, where the current family is that of the line `family`
abbrev pub claims_behind : List ℕ → ProgramParts → Contender → ℕ → List Reading → List ℕ
claims_behind text p c family [] = []
claims_behind text p c family (r ∷ rs) =
    claim_on text p c family r ++ claims_behind text p c (family_behind family r) rs

unfoldable pub claims_of : List ℕ → ProgramParts → Contender → List ℕ
claims_of text p c = claims_behind text p c 0 (readings text)

-- the lines of a text that claim the word; a text that is too large has none
abbrev pub claims_in : List ℕ → ProgramParts → Contender → List ℕ
claims_in text p c = if nat_lt 1048576 (length text) then [] else claims_of text p c

-- a task that uses a word in some way, if a region has the word
abbrev pub contending : Option TaskPlace → Way → WordPlace → Contender
contending task way place = record { place = place; task = task; way = way }

abbrev pub contender_at : List Region → ℕ → Option TaskPlace → Way → Option Contender
contender_at regions w task way = option_map (contending task way) (word_place regions w)
