-- The lines of an answer, by what they say, and the numbers that they may have.
use Rattle.std.specs.Fmt.{decimal}
use Rattle.std.specs.Prelude.{◌≡◌, ℕ, ◌+◌, ◌*◌, ◌^◌, ◌<◌, List, [], ◌∷◌, ◌++◌, codes}
use Rattle.dn_base.specs.declared.ids.Grant.{Grant}
use Rattle.message_net.specs.declared.event.EventKind as event
use Rattle.message_net.specs.declared.event.EventKind.{EventKind}
use Rattle.rv_core.specs.declared.task.TrapKind as kind
use Rattle.rv_core.specs.declared.task.TrapKind.{TrapKind}
use Rattle.rv_core.specs.declared.ending.EndShown as shown
use Rattle.rv_core.specs.declared.ending.EndShown.{EndShown}
use Rattle.rv_core.specs.declared.ending.TaskEnd.{TaskEnd}
use Rattle.text_pieces.specs.Pieces.{newline, space, hexadecimal}
use Rattle.text_pieces.specs.Base16.{IsWord}
use Rattle.text_pieces.specs.Field.{field, NoneStands}
use Rattle.run_report.specs.Answer.{outcome_line, task_line, words_line, word_line, kind_word}
use Rattle.run_report.specs.Grants.{grant_line}
use Rattle.run_report.specs.Run.{event_word, counted_line}
use Rattle.run_report.specs.Summary.{count_line}
use Rattle.run_report.specs.declared.refusal.Refusal.TheVariants.{Usage}
use Rattle.run_report.specs.Refusal.{refusal_of}
use Rattle.explained_answer.specs.declared.line.AnswerLine as line
use Rattle.explained_answer.specs.declared.line.AnswerLine.{AnswerLine}
use Rattle.explained_answer.specs.declared.line.Count as count
use Rattle.explained_answer.specs.declared.line.Count.{Count}
use Rattle.explained_answer.specs.declared.line.FixedLine as fixed
use Rattle.explained_answer.specs.declared.line.FixedLine.{FixedLine}
use Rattle.explained_answer.specs.declared.line.Link.{Link}
use Rattle.explained_answer.specs.declared.tasks.Trapped.{Trapped}
use Rattle.explained_answer.specs.declared.tasks.Stopped.{Stopped}
use Rattle.explained_answer.specs.Parts.{IsNumber, IsTicks, pair_fields, three_line}

-- ---- the numbers of a line

pub record HasGrantNumbers (g : Grant) : Type 0 where
  pub phase : IsNumber g.phase.0
  pub core : IsNumber g.core.0
  pub lock : IsNumber g.lock.0

pub record HasTrapNumbers (t : Trapped) : Type 0 where
  pub pc : IsWord t.pc
  pub value : IsWord t.value
  pub retired : IsNumber t.retired

-- how a task stands, and how many instructions it retired
abbrev pub HasEndNumbers : EndShown → ℕ → Type 0
HasEndNumbers shown.TheVariants.Finished retired = IsNumber retired
HasEndNumbers shown.TheVariants.Fuel retired = IsNumber retired
HasEndNumbers (shown.TheVariants.Trap k pc value) retired = HasTrapNumbers (record { pc = pc; value = value; retired = retired })
HasEndNumbers (shown.TheVariants.Waits lock) retired = IsNumber lock.0 × IsNumber retired

abbrev pub HasStopNumbers : Stopped → Type 0
HasStopNumbers s = HasEndNumbers s.end s.retired

pub record HasTaskNumbers (t : TaskEnd) : Type 0 where
  pub phase : IsNumber t.phase.0
  pub core : IsNumber t.core.0
  pub ended : HasEndNumbers t.end t.retired

-- a data word, whose value isn't 0
pub record IsShownWord (word value : ℕ) : Type 0 where
  pub word_fits : word < 65536
  pub value_fits : value < 2 ^ 32
  pub some : 0 < value

pub record HasLinkNumbers (l : Link) : Type 0 where
  pub event : IsNumber l.event
  pub finish : IsTicks l.finish

pub record HasCheckedNumbers (phases tasks words : ℕ) : Type 0 where
  pub phases_from : IsNumber phases
  pub tasks_from : IsNumber tasks
  pub words_from : IsNumber words

pub record HasUnboundedNumbers (phase core pc : ℕ) : Type 0 where
  pub phase_from : IsNumber phase
  pub core_from : IsNumber core
  pub pc_word : IsWord pc

pub record HasHeldNumbers (phase core lock : ℕ) : Type 0 where
  pub phase_from : IsNumber phase
  pub core_from : IsNumber core
  pub lock_from : IsNumber lock

pub record HasStuckNumbers (phase lock : ℕ) : Type 0 where
  pub phase_from : IsNumber phase
  pub lock_from : IsNumber lock

abbrev pub IsDataWord : ℕ → Type 0
IsDataWord word = word < 65536

abbrev pub IsAnswerLine : AnswerLine → Type 0
IsAnswerLine (line.TheVariants.Outcome o) = Unit {0}
IsAnswerLine (line.TheVariants.Task t) = HasTaskNumbers t
IsAnswerLine (line.TheVariants.Word word value) = IsShownWord word value
IsAnswerLine (line.TheVariants.Grant g) = HasGrantNumbers g
IsAnswerLine (line.TheVariants.Count c number) = IsNumber number
IsAnswerLine (line.TheVariants.Sum value) = IsWord value
IsAnswerLine (line.TheVariants.Time ticks) = IsTicks ticks
IsAnswerLine (line.TheVariants.Network ticks) = IsTicks ticks
IsAnswerLine (line.TheVariants.Link l) = HasLinkNumbers l
IsAnswerLine (line.TheVariants.Checked phases tasks words) = HasCheckedNumbers phases tasks words
IsAnswerLine (line.TheVariants.Unbounded phase core pc) = HasUnboundedNumbers phase core pc
IsAnswerLine (line.TheVariants.Varies word) = IsDataWord word
IsAnswerLine (line.TheVariants.OpenControl phase core pc) = HasUnboundedNumbers phase core pc
IsAnswerLine (line.TheVariants.OpenHeld phase core lock) = HasHeldNumbers phase core lock
IsAnswerLine (line.TheVariants.OpenStuck phase lock) = HasStuckNumbers phase lock
IsAnswerLine (line.TheVariants.Fixed f) = Unit {0}

-- ---- how it is written

abbrev pub count_line_of : Count → ℕ → List ℕ
count_line_of count.TheVariants.Words number = words_line number
count_line_of count.TheVariants.Events number = counted_line (codes "events") number
count_line_of (count.TheVariants.Kind k) number = counted_line (event_word k) number
count_line_of count.TheVariants.Tasks number = count_line (codes "tasks ") number
count_line_of count.TheVariants.Retired number = count_line (codes "retired ") number
count_line_of count.TheVariants.Links number = count_line (codes "chain ") number
count_line_of count.TheVariants.WholeEvents number = count_line (codes "refused trace event ") number
count_line_of count.TheVariants.EnabledEvents number = count_line (codes "refused trace not-enabled ") number

-- the sum of all words modulo 2^32
unfoldable pub sum_line : ℕ → List ℕ
sum_line value = codes "sum " ++ hexadecimal value ++ newline

-- the number of the event, its kind, and when it finishes
unfoldable pub link_line : Link → List ℕ
link_line l = codes "link " ++ decimal l.event ++ space ++ event_word l.kind ++ space ++ decimal l.finish ++ newline

-- a phase, a core and a pc after a name
unfoldable pub place_line : List ℕ → ℕ → ℕ → ℕ → List ℕ
place_line name phase core pc = name ++ decimal phase ++ space ++ decimal core ++ space ++ hexadecimal pc ++ newline

-- those that the prover names
abbrev pub unbounded_line : ℕ → ℕ → ℕ → List ℕ
unbounded_line phase core pc = place_line (codes "unbounded ") phase core pc

-- a data word that the order of grants may decide
unfoldable pub varies_line : ℕ → List ℕ
varies_line word = codes "varies " ++ hexadecimal (268435456 + 4 * word) ++ newline

-- why it is open what the runs have in common
abbrev pub control_line : ℕ → ℕ → ℕ → List ℕ
control_line phase core pc = place_line (codes "open control ") phase core pc

abbrev pub held_line : ℕ → ℕ → ℕ → List ℕ
held_line phase core lock = three_line (codes "open held ") phase core lock

abbrev pub stuck_line : ℕ → ℕ → List ℕ
stuck_line phase lock = pair_fields (codes "open stuck ") [] 10 phase lock

-- lines without a number
abbrev pub fixed_line : FixedLine → List ℕ
fixed_line fixed.TheVariants.Inside = codes "proved inside" ++ newline
fixed_line fixed.TheVariants.Usage = refusal_of Usage
fixed_line fixed.TheVariants.TooLarge = codes "refused trace too-large" ++ newline
fixed_line fixed.TheVariants.Head = codes "refused trace head" ++ newline
fixed_line fixed.TheVariants.Rest = codes "refused trace rest" ++ newline
fixed_line fixed.TheVariants.Incomplete = codes "refused trace incomplete" ++ newline

abbrev pub answer_line : AnswerLine → List ℕ
answer_line (line.TheVariants.Outcome o) = outcome_line o
answer_line (line.TheVariants.Task t) = task_line t
answer_line (line.TheVariants.Word word value) = word_line word value
answer_line (line.TheVariants.Grant g) = grant_line g
answer_line (line.TheVariants.Count c number) = count_line_of c number
answer_line (line.TheVariants.Sum value) = sum_line value
answer_line (line.TheVariants.Time ticks) = count_line (codes "time ") ticks
answer_line (line.TheVariants.Network ticks) = count_line (codes "network ") ticks
answer_line (line.TheVariants.Link l) = link_line l
answer_line (line.TheVariants.Checked phases tasks words) = three_line (codes "checked ") phases tasks words
answer_line (line.TheVariants.Unbounded phase core pc) = unbounded_line phase core pc
answer_line (line.TheVariants.Varies word) = varies_line word
answer_line (line.TheVariants.OpenControl phase core pc) = control_line phase core pc
answer_line (line.TheVariants.OpenHeld phase core lock) = held_line phase core lock
answer_line (line.TheVariants.OpenStuck phase lock) = stuck_line phase lock
answer_line (line.TheVariants.Fixed f) = fixed_line f

-- ---- the end of a task's line, part by part

-- the line of a trap up to its address
abbrev pub trap_front : TrapKind → List ℕ
trap_front k = codes "trap " ++ kind_word k ++ codes " pc "

-- the end of a trap's line, where `front` is its beginning up to the address
unfoldable pub trap_rest : List ℕ → Trapped → List ℕ
trap_rest front t =
    front ++ hexadecimal t.pc ++ codes " value " ++ hexadecimal t.value ++ field (codes " retired ") newline t.retired

-- the end of a task's line: how it stands, and how many instructions it retired
abbrev pub stop_by : EndShown → ℕ → List ℕ
stop_by shown.TheVariants.Finished retired = field (codes "finished retired ") newline retired
stop_by shown.TheVariants.Fuel retired = field (codes "fuel retired ") newline retired
stop_by (shown.TheVariants.Trap k pc value) retired = trap_rest (trap_front k) (record { pc = pc; value = value; retired = retired })
stop_by (shown.TheVariants.Waits lock) retired = pair_fields (codes "waits ") (codes "retired ") 10 lock.0 retired

abbrev pub stop_text : Stopped → List ℕ
stop_text s = stop_by s.end s.retired

-- the kinds of trap, in the order in which they are looked for
unfoldable pub all_traps : List TrapKind
all_traps =
    kind.TheVariants.Fetch ∷ kind.TheVariants.Illegal ∷ kind.TheVariants.Target ∷ kind.TheVariants.Misaligned ∷ kind.TheVariants.Outside
    ∷ kind.TheVariants.Break ∷ kind.TheVariants.Call ∷ kind.TheVariants.NoLock ∷ kind.TheVariants.Held ∷ kind.TheVariants.NotHeld
    ∷ kind.TheVariants.HeldEnd ∷ []

-- ---- a word and its value, whatever numbers these are

unfoldable pub address_line : ℕ → ℕ → List ℕ
address_line address value = codes "word " ++ hexadecimal address ++ space ++ hexadecimal value ++ newline

pub record StandWord (bytes : List ℕ) (address value : ℕ) (rest : List ℕ) : Type 0 where
  pub address_word : IsWord address
  pub value_word : IsWord value
  pub parts : bytes ≡ address_line address value ++ rest

-- ---- what is counted

-- the line of a count up to its number
abbrev pub count_front : Count → List ℕ
count_front count.TheVariants.Words = codes "words "
count_front count.TheVariants.Events = codes "count events "
count_front (count.TheVariants.Kind k) = codes "count " ++ event_word k ++ codes " "
count_front count.TheVariants.Tasks = codes "tasks "
count_front count.TheVariants.Retired = codes "retired "
count_front count.TheVariants.Links = codes "chain "
count_front count.TheVariants.WholeEvents = codes "refused trace event "
count_front count.TheVariants.EnabledEvents = codes "refused trace not-enabled "

-- the bytes begin with no line of a count
abbrev pub NoCount : List ℕ → Type 0
NoCount bytes = (c : Count) → NoneStands IsNumber (field (count_front c) newline) bytes

-- what is counted, in the order in which it is looked for
unfoldable pub all_counts : List Count
all_counts =
    count.TheVariants.Words ∷ count.TheVariants.Events ∷ count.TheVariants.Kind event.TheVariants.Instr
    ∷ count.TheVariants.Kind event.TheVariants.Evict ∷ count.TheVariants.Kind event.TheVariants.Arrive
    ∷ count.TheVariants.Kind event.TheVariants.ReadReq ∷ count.TheVariants.Kind event.TheVariants.ReadFwd
    ∷ count.TheVariants.Kind event.TheVariants.DataReply ∷ count.TheVariants.Kind event.TheVariants.RegReq
    ∷ count.TheVariants.Kind event.TheVariants.RegFwd ∷ count.TheVariants.Kind event.TheVariants.RegAck
    ∷ count.TheVariants.Kind event.TheVariants.WriteBack ∷ count.TheVariants.Kind event.TheVariants.WbAck
    ∷ count.TheVariants.Kind event.TheVariants.Acquire ∷ count.TheVariants.Kind event.TheVariants.Release
    ∷ count.TheVariants.Kind event.TheVariants.Grant ∷ count.TheVariants.Kind event.TheVariants.Arrived
    ∷ count.TheVariants.Kind event.TheVariants.Go ∷ count.TheVariants.Kind event.TheVariants.Halt ∷ count.TheVariants.Tasks
    ∷ count.TheVariants.Retired ∷ count.TheVariants.Links ∷ count.TheVariants.WholeEvents ∷ count.TheVariants.EnabledEvents ∷ []

-- ---- the lines of programs, sums, times and refusals

-- the line of an event of the longest chain up to its ticks
abbrev pub kind_front : EventKind → List ℕ
kind_front k = event_word k ++ codes " "

pub record StandPlace (name bytes : List ℕ) (phase core pc : ℕ) (rest : List ℕ) : Type 0 where
  pub numbers : HasUnboundedNumbers phase core pc
  pub parts : bytes ≡ place_line name phase core pc ++ rest

-- the lines on what runs have in common
abbrev pub IsOpenLine : AnswerLine → Type 0
IsOpenLine (line.TheVariants.Varies word) = IsDataWord word
IsOpenLine (line.TheVariants.OpenControl phase core pc) = HasUnboundedNumbers phase core pc
IsOpenLine (line.TheVariants.OpenHeld phase core lock) = HasHeldNumbers phase core lock
IsOpenLine (line.TheVariants.OpenStuck phase lock) = HasStuckNumbers phase lock
IsOpenLine _ = ⊥

-- the lines that are tried after those of a run's answer
abbrev pub IsOtherLine : AnswerLine → Type 0
IsOtherLine (line.TheVariants.Sum value) = IsWord value
IsOtherLine (line.TheVariants.Time ticks) = IsTicks ticks
IsOtherLine (line.TheVariants.Network ticks) = IsTicks ticks
IsOtherLine (line.TheVariants.Link l) = HasLinkNumbers l
IsOtherLine (line.TheVariants.Checked phases tasks words) = HasCheckedNumbers phases tasks words
IsOtherLine (line.TheVariants.Unbounded phase core pc) = HasUnboundedNumbers phase core pc
IsOtherLine (line.TheVariants.Varies word) = IsDataWord word
IsOtherLine (line.TheVariants.OpenControl phase core pc) = HasUnboundedNumbers phase core pc
IsOtherLine (line.TheVariants.OpenHeld phase core lock) = HasHeldNumbers phase core lock
IsOtherLine (line.TheVariants.OpenStuck phase lock) = HasStuckNumbers phase lock
IsOtherLine (line.TheVariants.Fixed f) = Unit {0}
IsOtherLine _ = ⊥
