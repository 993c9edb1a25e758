-- A state as it is printed: which event was asked for, and whether it may come; the parts of the state; and the events that may
-- come.
use Rattle.std.specs.Prelude.{ℕ, ◌==◌, List, [], ◌++◌, length, flat_map, slice_get, codes, Option, Some, None, if◌then◌else◌}
use Rattle.std.specs.Fmt.{decimal}
use Rattle.text_pieces.specs.Pieces.{newline}
use Rattle.region_table.specs.Program.{ProgramParts}
use Rattle.message_net.specs.declared.event.Event.{Event}
use Rattle.text_places.specs.declared.places.Places.{Places}
use Rattle.machine_rules.specs.State.{State}
use Rattle.state_text.specs.Reasons.{reason_against}
use Rattle.state_text.specs.Coming.{enabled_events}
use Rattle.state_text.specs.Called.{event_text}
use Rattle.state_text.specs.Because.{whether_line}
use Rattle.state_text.specs.Cores.{core_lines}
use Rattle.state_text.specs.Parts.{keeper_lines, home_lines, lock_lines, mail_lines}

-- ---- the event

unfoldable pub numbered_event : ℕ → List ℕ
numbered_event number = codes "event " ++ decimal number

unfoldable pub not_reached : List ℕ
not_reached = codes " isn't reached: "

unfoldable pub may_not : List ℕ
may_not = codes " may not come"

-- an earlier event may not come, so the one that was asked for isn't reached
unfoldable pub unreached_line : ℕ → ℕ → List ℕ
unreached_line asked place = numbered_event asked ++ not_reached ++ numbered_event place ++ may_not ++ newline

unfoldable pub event_head : ℕ → ℕ → List ℕ
event_head place count = numbered_event place ++ codes " of " ++ decimal count ++ codes ": "

unfoldable pub event_line_text : ProgramParts → ℕ → ℕ → Event → List ℕ
event_line_text P place count e = event_head place count ++ event_text P e ++ newline

-- no event follows the last one
unfoldable pub end_line : ℕ → ℕ → List ℕ
end_line place count = event_head place count ++ codes "the document ends" ++ newline

abbrev pub event_lines_at : State → ℕ → ℕ → Option Event → List ℕ
event_lines_at S place count None = end_line place count
event_lines_at S place count (Some e) =
    event_line_text S.setting.program place count e ++ whether_line S.setting.program e (reason_against S e)

-- the event of this number; the one that was asked for may be a later one
abbrev pub asked_lines : State → List Event → ℕ → ℕ → List ℕ
asked_lines S events asked place =
    (if place == asked then [] else unreached_line asked place) ++ event_lines_at S place (length events) (slice_get events place)

-- ---- the state

unfoldable pub may_come_line : ProgramParts → Event → List ℕ
may_come_line P e = codes "may come: " ++ event_text P e ++ newline

-- the keeper, the cores, the homes of words, the locks and the mails; and a line for each event that may come
unfoldable pub state_lines : Places → State → List ℕ
state_lines places S =
    keeper_lines S.keeper
    ++ (flat_map (core_lines S.setting.program places) S.nodes
    ++ (home_lines S ++ (lock_lines S ++ (flat_map (mail_lines S) S.mails ++ flat_map (may_come_line S.setting.program) (enabled_events S)))))

-- all of it, at the event of this number
unfoldable pub shown_text : Places → State → List Event → ℕ → ℕ → List ℕ
shown_text places S events asked place = asked_lines S events asked place ++ state_lines places S
