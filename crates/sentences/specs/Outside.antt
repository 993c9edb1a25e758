-- The sentences on a load or store that a task may not do: where its address is, what the task and the other tasks of its phase
-- declare of the word, and how to fix it. An effect that fixes it is written out.
use Rattle.std.specs.Prelude.{ℕ, ◌+◌, Bool, bytes_eq, take, if◌then◌else◌, List, [], ◌++◌, Option, Some, None, codes, find, slice_get}
use Rattle.std.specs.Fmt.{decimal}
use Rattle.text_pieces.specs.Pieces.{newline}
use Rattle.region_table.specs.declared.declared.TaskDecl.{TaskDecl}
use Rattle.region_table.specs.Program.{ProgramParts}
use Rattle.region_table.specs.Tasks.{declared}
use Rattle.text_places.specs.declared.places.Located.{Located}
use Rattle.text_places.specs.declared.words.WordPlace.{WordPlace}
use Rattle.text_places.specs.Words.{is_task_of}
use Rattle.text_places.specs.Texts.{lock_text}
use Rattle.sentences.specs.declared.sites.Site.{Site}
use Rattle.sentences.specs.declared.sites.Site.TheVariants.{Within, Before, Behind, Nowhere}
use Rattle.sentences.specs.declared.uses.Access.{Access}
use Rattle.sentences.specs.declared.uses.Access.TheVariants.{Load, Store}
use Rattle.sentences.specs.declared.uses.OwnUse.{OwnUse}
use Rattle.sentences.specs.declared.uses.OwnUse.TheVariants.{Free, Guarded, ReadUnder, ReadOnly, Undeclared}
use Rattle.sentences.specs.declared.others_use.Others.{Others}
use Rattle.sentences.specs.declared.others_use.Others.TheVariants.{Guarding, Contending, Reading, Nobody}
use Rattle.sentences.specs.declared.families.TaskFamily.{TaskFamily}
use Rattle.sentences.specs.Conflicts.{core_text}
use Rattle.sentences.specs.Effects.{declared_text}
use Rattle.sentences.specs.Families.{family_of}
use Rattle.sentences.specs.Sites.{site_of, name_of, len_of, lock_name}
use Rattle.sentences.specs.Uses.{own_use, others_in}

-- ---- the effect that is wanted

-- a word as the operands of an effect, which gives the word alone
unfoldable pub operands_of : ProgramParts → WordPlace → List ℕ
operands_of p place = name_of (slice_get p.regions place.region) ++ codes ", " ++ decimal place.index ++ codes ", " ++ decimal (place.index + 1)

abbrev pub plain_effect : Access → List ℕ
plain_effect Load = codes ".reads "
plain_effect Store = codes ".writes "

abbrev pub guarded_effect : Access → List ℕ
guarded_effect Load = codes ".greads "
guarded_effect Store = codes ".gwrites "

unfoldable pub declare_it : List ℕ
declare_it = codes "  Declare it behind the task's line by `"

unfoldable pub or_mended : List ℕ
or_mended = codes "`, or correct the address." ++ newline

unfoldable pub plain_remedy : ProgramParts → Access → WordPlace → List ℕ
plain_remedy p a place = declare_it ++ plain_effect a ++ operands_of p place ++ or_mended

unfoldable pub family_text : TaskFamily → List ℕ
family_text f = codes "  Line " ++ decimal f.line ++ codes " declares " ++ decimal f.tasks ++ codes " tasks, and an effect behind it is one of each of them.\n"

-- two tasks of a family that may store to the same word conflict
unfoldable pub own_words : List ℕ
own_words = codes "  Two tasks that may store to the same word conflict: give each a word of its own by a step, as in `.writes "

unfoldable pub by_step : List ℕ
by_step = codes ", 0, 1, 1`, or correct the address.\n"

unfoldable pub step_remedy : ProgramParts → WordPlace → List ℕ
step_remedy p place = own_words ++ name_of (slice_get p.regions place.region) ++ by_step

abbrev pub shared_remedy : ProgramParts → Access → WordPlace → List ℕ
shared_remedy p Load place = plain_remedy p Load place
shared_remedy p Store place = step_remedy p place

-- an effect for a task, which is one of a family or alone on its line
abbrev pub effect_remedy : ProgramParts → Access → WordPlace → Option TaskFamily → List ℕ
effect_remedy p a place None = plain_remedy p a place
effect_remedy p a place (Some f) = family_text f ++ shared_remedy p a place

-- a guarded effect, and what else is to be done
unfoldable pub guarded_remedy : ProgramParts → Access → ℕ → WordPlace → List ℕ → List ℕ
guarded_remedy p a lock place further =
    declare_it ++ guarded_effect a ++ lock_name (slice_get p.locks lock) ++ codes ", " ++ operands_of p place ++ further

abbrev pub and_acquired : List ℕ
and_acquired = codes "`, and acquire the lock first; or correct the address.\n"

abbrev pub while_held : List ℕ
while_held = codes "`, and store to it only while the task holds the lock.\n"

unfoldable pub held_remedy : ProgramParts → Access → ℕ → WordPlace → List ℕ
held_remedy p a lock place = guarded_remedy p a lock place while_held

unfoldable pub acquire_remedy : ℕ → List ℕ
acquire_remedy lock = codes "  Acquire the lock first, by `li a0, " ++ decimal lock ++ codes "`, `li a7, 1` and `ecall`; or correct the address.\n"

unfoldable pub apart_remedy : List ℕ
apart_remedy = codes "  Use it in another phase, or have one lock guard it for both tasks by `.greads` and `.gwrites`; or correct the address.\n"

-- ---- what the other tasks declare

unfoldable pub guarding_text : Located → ℕ → ℕ → ℕ → List ℕ
guarding_text l phase core lock =
    codes "  " ++ lock_text l.program.locks lock ++ codes " guards it for " ++ core_text l.places phase core ++ codes ".\n"

unfoldable pub same_phase : List ℕ
same_phase = codes "  In the same phase, "

unfoldable pub used_text : Located → ℕ → ℕ → List ℕ → List ℕ
used_text l phase core how = same_phase ++ core_text l.places phase core ++ how

abbrev pub uses_it : List ℕ
uses_it = codes " uses it without a lock.\n"

abbrev pub loads_it : List ℕ
loads_it = codes " may load it without a lock.\n"

unfoldable pub reading_text : Located → ℕ → ℕ → List ℕ
reading_text l phase core = used_text l phase core loads_it

unfoldable pub nobody_text : List ℕ
nobody_text = codes "  No other task of the phase declares it.\n"

abbrev pub others_text : Located → ℕ → ℕ → Access → WordPlace → Others → List ℕ
others_text l phase core a place (Guarding g) = guarding_text l phase g.core g.lock ++ guarded_remedy l.program a g.lock place and_acquired
others_text l phase core a place (Contending other) = used_text l phase other uses_it ++ apart_remedy
others_text l phase core a place (Reading other) = reading_text l phase other ++ effect_remedy l.program a place (family_of l.places phase core)
others_text l phase core a place Nobody = nobody_text ++ effect_remedy l.program a place (family_of l.places phase core)

-- ---- what the task declares

unfoldable pub free_text : List ℕ
free_text = codes "  Its effects let it do so: no run of the text ends here like this.\n"

unfoldable pub undeclared_text : List ℕ
undeclared_text = codes "  None of its effects has the word.\n"

unfoldable pub read_only_text : List ℕ
read_only_text = codes "  It declares the word in `.reads`: it may load it, and not store to it.\n"

unfoldable pub declares_it_under : List ℕ
declares_it_under = codes "  It declares the word under "

-- the word is declared under a lock
unfoldable pub under_text : ProgramParts → ℕ → List ℕ → List ℕ
under_text p lock how = declares_it_under ++ lock_text p.locks lock ++ how

abbrev pub not_held : List ℕ
not_held = codes ", which it doesn't hold here.\n"

abbrev pub by_greads_alone : List ℕ
by_greads_alone = codes " by `.greads` alone: it may load it while it holds the lock, and not store to it.\n"

unfoldable pub read_under_text : ProgramParts → ℕ → List ℕ
read_under_text p lock = under_text p lock by_greads_alone

-- what is said of a word that a task of this core in this phase may not access so; `use` is what the task declares of it
abbrev pub own_text : Located → ℕ → ℕ → Access → ℕ → WordPlace → OwnUse → List ℕ
own_text l phase core a w place Free = free_text
own_text l phase core a w place (Guarded lock) = under_text l.program lock not_held ++ acquire_remedy lock
own_text l phase core a w place (ReadUnder lock) =
    read_under_text l.program lock ++ held_remedy l.program a lock place
own_text l phase core a w place ReadOnly = read_only_text ++ others_text l phase core a place (others_in l.program phase a core w)
own_text l phase core a w place Undeclared = undeclared_text ++ others_text l phase core a place (others_in l.program phase a core w)

abbrev pub word_sentences : List ℕ → Located → ℕ → ℕ → Access → ℕ → WordPlace → Option TaskDecl → List ℕ
word_sentences text l phase core a w place None = []
word_sentences text l phase core a w place (Some d) =
    declared_text text l.program (find (is_task_of phase core) l.places.tasks) place.region ++ own_text l phase core a w place (own_use a d.effects w)

-- ---- where the address is, if no region has it

unfoldable pub nowhere_text : List ℕ
nowhere_text = codes "  The text declares no region.\n  Declare one by `.region`, and its words by an effect behind the task's line.\n"

unfoldable pub first_region : List ℕ
first_region = codes "  The first region, "

unfoldable pub further_on : List ℕ
further_on = codes " bytes further on, at 0x10000000.\n  Put the address of a word into the register first, by `la`.\n"

unfoldable pub before_text : ProgramParts → ℕ → List ℕ
before_text p bytes = first_region ++ name_of (slice_get p.regions 0) ++ codes ", begins " ++ decimal bytes ++ further_on

abbrev pub region_line : Option ℕ → List ℕ
region_line None = []
region_line (Some line) = codes " (line " ++ decimal line ++ codes ")"

unfoldable pub last_region : List ℕ
last_region = codes "  The last region, "

unfoldable pub counted : List ℕ
counted = codes ", counted from 0.\n  Correct the address, or give the region more words and declare them.\n"

-- the last region, which has this number, and a word that it hasn't
unfoldable pub lacked_word : Located → ℕ → ℕ → List ℕ
lacked_word l region index =
    last_region ++ name_of (slice_get l.program.regions region) ++ region_line (slice_get l.places.regions region) ++ codes ", has no word " ++ decimal index

unfoldable pub behind_text : Located → ℕ → ℕ → List ℕ
behind_text l region index = lacked_word l region index ++ codes ": it has " ++ decimal (len_of (slice_get l.program.regions region)) ++ counted

-- a region whose name begins so is the stack of a core, in a text that tools/from_c.py has made
unfoldable pub is_stack : List ℕ → Bool
is_stack name = bytes_eq (take 6 name) (codes "stack_")

unfoldable pub stack_text : List ℕ
stack_text = codes "  If `tools/from_c.py` made the text, this is a stack: where a task's own stack ran over, the option `--stack` gives it more words.\n"

abbrev pub stack_if : Bool → List ℕ
stack_if b = if b then stack_text else []

-- what is said of a region that may be a stack
abbrev pub region_said : ProgramParts → ℕ → List ℕ
region_said p region = stack_if (is_stack (name_of (slice_get p.regions region)))

-- what is said of an access of an address that the task of this core in this phase may not do
abbrev pub site_sentences : List ℕ → Located → ℕ → ℕ → Access → Site → List ℕ
site_sentences text l phase core a (Within w place) =
    word_sentences text l phase core a w place (declared l.program phase core) ++ region_said l.program place.region
site_sentences text l phase core a (Before bytes) = before_text l.program bytes ++ region_said l.program 0
site_sentences text l phase core a (Behind region index) = behind_text l region index
site_sentences text l phase core a Nowhere = nowhere_text

abbrev pub outside_sentences : List ℕ → Located → ℕ → ℕ → Access → ℕ → List ℕ
outside_sentences text l phase core a address = site_sentences text l phase core a (site_of l.program.regions address)
