-- The lines of a text on which effects stand, and the words of a region that they give to a task.
use Rattle.std.specs.Prelude.{ℕ, ◌-◌, ◌==◌, ℤ, pos, neg_ℤ, ◌+ℤ◌, ◌*ℤ◌, int_lt, Bool, true, false, ◌&&◌, nat_lt, List, [], ◌∷◌, ◌++◌, length, take, filter, flat_map, Option, Some, None, is_none, codes, slice_get, if◌then◌else◌}
use Rattle.std.specs.Fmt.{decimal}
use Rattle.text_pieces.specs.Pieces.{newline}
use Rattle.region_table.specs.Program.{ProgramParts}
use Rattle.src_text.specs.declared.token.Token.{Token}
use Rattle.rv_assembler.specs.declared.statement.Extent.{Extent}
use Rattle.rv_assembler.specs.declared.statement.Extent as extent
use Rattle.rv_assembler.specs.declared.statement.Effect.{Effect}
use Rattle.rv_assembler.specs.declared.statement.Statement.{Statement}
use Rattle.rv_assembler.specs.declared.statement.Statement as statement
use Rattle.rv_assembler.specs.declared.parsing.Reading.{Reading}
use Rattle.rv_assembler.specs.declared.parsing.Reading.TheVariants.{Bad, Good}
use Rattle.rv_assembler.specs.Number.{natural_of, is_within}
use Rattle.rv_assembler.specs.Operand.{bytes_of}
use Rattle.rv_assembler.specs.Source.{readings}
use Rattle.text_places.specs.declared.places.TaskPlace.{TaskPlace}
use Rattle.text_places.specs.Texts.{indexed}
use Rattle.sentences.specs.declared.effects.EffectLine.{EffectLine}
use Rattle.sentences.specs.declared.effects.Bounds.{Bounds}
use Rattle.sentences.specs.Claims.{family_behind, names_region}
use Rattle.sentences.specs.Sites.{name_of, len_of}

-- ---- the lines

-- an effect stands behind the line of its family of tasks
abbrev pub effect_on : ℕ → ℕ → Statement → List EffectLine
effect_on family line (statement.TheVariants.Uses e) = record { family = family; line = line; effect = e } ∷ []
effect_on family line _ = []

abbrev pub effects_said : ℕ → Reading → List EffectLine
effects_said family (Bad f) = []
effects_said family (Good s) = effect_on family s.line s.statement

-- the lines of effects, where the current family is that of the line `family`
abbrev pub effects_behind : ℕ → List Reading → List EffectLine
effects_behind family [] = []
effects_behind family (r ∷ rs) = effects_said family r ++ effects_behind (family_behind family r) rs

unfoldable pub readings_effects : List ℕ → List EffectLine
readings_effects text = effects_behind 0 (readings text)

-- the lines of a text that have effects; a text that is too large has none
abbrev pub task_effects : List ℕ → List EffectLine
task_effects text = if nat_lt 1048576 (length text) then [] else readings_effects text

-- whether a line has an effect of the task on the region of this number
abbrev pub is_of_task : List ℕ → ProgramParts → TaskPlace → ℕ → EffectLine → Bool
is_of_task text p t region x = x.family == t.line && names_region text x.effect.region (slice_get p.regions region)

-- the lines by which a task declares words of a region
abbrev pub told_of_region : List ℕ → ProgramParts → TaskPlace → ℕ → List EffectLine
told_of_region text p t region = filter (is_of_task text p t region) (task_effects text)

-- ---- the words

-- a bound of an interval as an index; one behind all regions is 65,537
abbrev pub bound_of : ℤ → ℕ
bound_of z = if int_lt z (pos 0) then 0 else (if int_lt (pos 65536) z then 65537 else natural_of z)

abbrev pub interval_bounds : ℤ → ℤ → Bounds
interval_bounds lo hi = record { low = bound_of lo; high = bound_of hi }

abbrev pub moved_between : ℤ → ℤ → ℤ → Bounds
moved_between lo hi moved =
    if is_within (neg_ℤ (pos 65536)) (pos 65537) moved then interval_bounds (lo +ℤ moved) (hi +ℤ moved) else record { low = 0; high = 0 }

-- the indices that an effect gives to the family's task of this number, in a region of so many words: from `low` to before `high`
abbrev pub bounds_of : Extent → ℕ → ℕ → Bounds
bounds_of extent.TheVariants.Whole part len = record { low = 0; high = len }
bounds_of (extent.TheVariants.Part lo hi) part len = interval_bounds lo hi
bounds_of (extent.TheVariants.Stepped lo hi step) part len = moved_between lo hi (pos part *ℤ step)

-- ---- the sentences

unfoldable pub last_word : List ℕ → Bounds → List ℕ
last_word name b = if b.high - b.low == 1 then [] else codes " to " ++ indexed name (b.high - 1)

-- the first and the last word: `m[0] to m[3]`
unfoldable pub interval_text : List ℕ → Bounds → List ℕ
interval_text name b = indexed name b.low ++ last_word name b

-- the word of an effect, for stores or for loads, without a lock or under one
abbrev pub effect_word : Bool → Bool → List ℕ
effect_word false true = codes ".reads"
effect_word true true = codes ".writes"
effect_word false false = codes ".greads"
effect_word true false = codes ".gwrites"

abbrev pub lock_operand : List ℕ → Option Token → List ℕ
lock_operand text None = []
lock_operand text (Some t) = codes " " ++ bytes_of text t

unfoldable pub line_declares : ℕ → List ℕ
line_declares line = codes "  For this task, line " ++ decimal line ++ codes " declares "

unfoldable pub by_effect : List ℕ → Effect → List ℕ
by_effect text e = codes " by `" ++ effect_word e.writes (is_none e.lock) ++ lock_operand text e.lock ++ codes "`.\n"

-- the words of the region that an effect gives the task, and by which effect
abbrev pub given_words : ProgramParts → TaskPlace → ℕ → Effect → List ℕ
given_words p t region e = interval_text (name_of (slice_get p.regions region)) (bounds_of e.extent t.part (len_of (slice_get p.regions region)))

-- what a line declares for the task
unfoldable pub effect_text : List ℕ → ProgramParts → TaskPlace → ℕ → EffectLine → List ℕ
effect_text text p t region x = line_declares x.line ++ given_words p t region x.effect ++ by_effect text x.effect

unfoldable pub more_effects : ℕ → List ℕ
more_effects n = if n == 0 then [] else codes "  and " ++ decimal n ++ codes " more" ++ newline

-- the first three of these lines, and how many more there are
unfoldable pub some_effects : List ℕ → ProgramParts → TaskPlace → ℕ → List EffectLine → List ℕ
some_effects text p t region xs = flat_map (effect_text text p t region) (take 3 xs) ++ more_effects (length xs - 3)

-- what a task declares of a region
abbrev pub declared_text : List ℕ → ProgramParts → Option TaskPlace → ℕ → List ℕ
declared_text text p None region = []
declared_text text p (Some t) region = some_effects text p t region (told_of_region text p t region)
