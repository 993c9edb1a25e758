-- The lines of effects by the tasks that they belong to and by their region, which are found once for all that is said of a text's
-- tasks.
use Rattle.std.specs.Prelude.{◌≡◌, ℕ, ◌+◌, ◌-◌, ◌==◌, Bool, ◌&&◌, List, [], ◌++◌, length, filter, Option, Some, None, bytes_eq, slice_get, if◌then◌else◌}
use Rattle.std.specs.BTreeMap.{BTreeMap, get_by}
use Rattle.std.specs.Cmp.Lexicographic.{slice_cmp}
use Rattle.std.specs.Ordering.{nat_cmp, ordering_then}
use denote.Ref.{Bor}
use Rattle.region_table.specs.Program.{ProgramParts}
use Rattle.rv_assembler.specs.Operand.{bytes_of}
use Rattle.text_places.specs.declared.places.TaskPlace.{TaskPlace}
use Rattle.sentences.specs.declared.effects.EffectLine.{EffectLine}
use Rattle.sentences.specs.declared.told.Told.{Told}
use Rattle.sentences.specs.declared.told.ToldEffects.{ToldEffects}
use Rattle.sentences.specs.Effects.{task_effects, effect_text, more_effects}

-- whether a line has an effect of this family of tasks on the region of this name
abbrev pub is_behind : List ℕ → ℕ → List ℕ → EffectLine → Bool
is_behind text family name x = x.family == family && bytes_eq (bytes_of text x.effect.region) name

-- what is told of some lines: the first three, and how many there are
abbrev pub told_of : List EffectLine → Told
told_of xs = record { first = slice_get xs 0; second = slice_get xs 1; third = slice_get xs 2; count = length xs }

-- what the table has for a family and the name of a region
abbrev pub found_at : BTreeMap (ℕ × Bor (List ℕ)) Told → ℕ → List ℕ → Option Told
found_at table family name = get_by (λ k. ordering_then (nat_cmp family k.0) (slice_cmp nat_cmp name k.1.now)) table

abbrev pub told_or_none : Option Told → Told
told_or_none (Some t) = t
told_or_none None = told_of []

abbrev pub told_by : ToldEffects → ℕ → List ℕ → Told
told_by e family name = told_or_none (found_at e.by_task family name)

-- the table has what is told of these lines
abbrev pub AreToldOf : List ℕ → List EffectLine → ToldEffects → Type 0
AreToldOf text xs e = (family : ℕ) (name : List ℕ) → told_by e family name ≡ told_of (filter (is_behind text family name) xs)

-- the table has what is told of the text's lines
abbrev pub AreTold : List ℕ → ToldEffects → Type 0
AreTold text e = AreToldOf text (task_effects text) e

-- ---- one more line

abbrev pub slot : ℕ → ℕ → Option EffectLine → EffectLine → Option EffectLine
slot number count old x = if count == number then Some x else old

unfoldable pub with_line : Told → EffectLine → Told
with_line t x = record { first = slot 0 t.count t.first x; second = slot 1 t.count t.second x; third = slot 2 t.count t.third x; count = t.count + 1 }

abbrev pub with_line_if : Bool → Told → EffectLine → Told
with_line_if b t x = if b then with_line t x else t

-- ---- the sentences

abbrev pub effect_if : List ℕ → ProgramParts → TaskPlace → ℕ → Option EffectLine → List ℕ
effect_if text p t region None = []
effect_if text p t region (Some x) = effect_text text p t region x

abbrev pub told_text : List ℕ → ProgramParts → TaskPlace → ℕ → Told → List ℕ
told_text text p t region d =
    effect_if text p t region d.first ++ effect_if text p t region d.second ++ effect_if text p t region d.third ++ more_effects (d.count - 3)
