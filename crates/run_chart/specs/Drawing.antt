-- How a chart is drawn, event by event.
use Rattle.std.specs.Prelude.{◌≡◌, ℕ, ◌+◌, ◌*◌, ◌≤◌, ◌==◌, Bool, true, false, not, List, [], ◌∷◌, ◌++◌, length, Option, Some, None, if◌then◌else◌}
use Rattle.dn_base.specs.declared.ids.PhaseId.{PhaseId}
use Rattle.message_net.specs.declared.actor.Actor.{Actor}
use Rattle.message_net.specs.declared.actor.Actor.TheVariants.{Keeper}
use Rattle.message_net.specs.declared.event.Event.{Event}
use Rattle.machine_rules.specs.State.{State}
use Rattle.machine_rules.specs.Next.{next, enabled, kind_in}
use Rattle.dn_machine.specs.Actors.{actor_in}
use Rattle.dn_machine.specs.Kept.{Made}
use Rattle.rv_core.specs.declared.task.End.{End}
use Rattle.run_chart.specs.declared.parts.ChartRow.{ChartRow}
use Rattle.run_chart.specs.Picture.{end_lines}
use Rattle.run_chart.specs.declared.states.WordChange.{WordChange}
use Rattle.run_chart.specs.declared.drawing.Drawing.{Drawing}
use Rattle.run_chart.specs.declared.drawing.Look.{Look}
use Rattle.run_chart.specs.declared.mails.SentMail.{SentMail}
use Rattle.run_chart.specs.declared.words.HeldWord.{HeldWord}
use Rattle.run_chart.specs.Mails.{noted_mails, origin_of, unknown_mails, place_handled, AreNotedFor}
use Rattle.run_chart.specs.Marks.{is_on_chain}
use Rattle.run_chart.specs.About.{about_in, ends_by, needed_by}
use Rattle.run_chart.specs.Affected.{affected_by, is_affected, AreGathered}
use Rattle.run_chart.specs.Words.{changes_in, changes_among, held_words, word_state}

-- the machine after one more event
abbrev pub moved : Made → Event → Made
moved m e = record { state = next m.state e; made = m.made + 1 }

-- the actor that makes an event; one that may come is some actor's
abbrev pub the_actor : Option Actor → Actor
the_actor None = Keeper
the_actor (Some a) = a

abbrev pub event_maker : State → Event → Actor
event_maker S e = the_actor (actor_in S e)

-- how many lines a row has: one for its event, one if a task ends, and one for each change
abbrev pub row_lines : Option End → List WordChange → ℕ
row_lines end changes = 1 + end_lines end + length changes

-- whether the barrier controller is in another phase than this one
abbrev pub is_past : State → PhaseId → Bool
is_past S phase = not (S.keeper.phase == phase.0)

-- the row of event number `event`, from a line on, by the machine and the lines of the mails before it
abbrev pub row_by : Made → List SentMail → Event → ℕ → ℕ → Bool → ChartRow
row_by m sent e event line on_chain =
    record {
      event = event;
      actor = event_maker m.state e;
      kind = kind_in m.state e;
      about = about_in m.state e;
      need = needed_by m.state e;
      phase = record { 0 = m.state.keeper.phase };
      ends_phase = is_past (next m.state e) (record { 0 = m.state.keeper.phase });
      line = line;
      lines = row_lines (ends_by m.state e) (changes_in m.state (next m.state e) (event_maker m.state e));
      mail = origin_of sent e;
      changes = changes_in m.state (next m.state e) (event_maker m.state e);
      end = ends_by m.state e;
      on_chain = on_chain;
    }

abbrev pub row_of : List ℕ → Drawing → Event → ChartRow
row_of chain d e = row_by d.machine d.sent e d.event d.line (is_on_chain chain d.event)

-- the drawing with the row of one more event
abbrev pub with_row : List ℕ → Drawing → Event → Drawing
with_row chain d e =
    record {
      machine = moved d.machine e;
      sent = noted_mails (next d.machine.state e).mails (Some d.line) d.sent;
      event = d.event + 1;
      line = d.line + (row_of chain d e).lines;
      rows = d.rows ++ row_of chain d e ∷ [];
    }

-- the drawing with the rows of these events, as long as each may come
abbrev pub with_rows : List ℕ → Drawing → List Event → Drawing
with_rows chain d [] = d
with_rows chain d (e ∷ es) = if enabled d.machine.state e then with_rows chain (with_row chain d e) es else d

-- the machine to which events lead that come one after the other; None if one of them may not come in its turn
abbrev pub led_to : Made → List Event → Option Made
led_to m [] = Some m
led_to m (e ∷ es) = if enabled m.state e then led_to (moved m e) es else None

-- nothing is drawn yet of what comes on a machine
abbrev pub empty_drawing : Made → Drawing
empty_drawing m = record { machine = m; sent = []; event = 0; line = 0; rows = [] }

-- no event has a row yet, and `event` events have come; no line is known for the mails in flight
abbrev pub begun : Made → ℕ → Drawing
begun m event = record { machine = m; sent = unknown_mails m.state.mails; event = event; line = 0; rows = [] }

-- ---- the parts of a row's drawing

-- the events came one after the other, or one of them may not come in its turn
abbrev pub HaveCome : Made → Made → List Event → Bool → Type 0
HaveCome m n events true = led_to m events ≡ Some n
HaveCome m n events false = led_to m events ≡ None

-- what an actor holds before an event for the words that the event may change
pub record AreHeldBefore (S : State) (e : Event) (a : Actor) (held : List HeldWord) : Type 0 where
  pub words : List ℕ
  pub gathered : AreGathered (length S.setting.program.memory) (is_affected S (affected_by S e)) words
  pub are : held ≡ held_words S a words

-- what is looked at before an event
pub record IsLookBefore (S : State) (sent : List SentMail) (e : Event) (look : Look) : Type 0 where
  pub place : look.place ≡ place_handled S.mails e
  pub actor : look.actor ≡ event_maker S e
  pub about : look.about ≡ about_in S e
  pub need : look.need ≡ needed_by S e
  pub phase : look.phase ≡ record { 0 = S.keeper.phase }
  pub mail : look.mail ≡ origin_of sent e
  pub end : look.end ≡ ends_by S e
  pub held : AreHeldBefore S e look.actor look.held

-- the row of an event, by what was looked at before it
abbrev pub row_with : State → Event → Look → ℕ → ℕ → Bool → ChartRow
row_with S e look event line on_chain =
    record {
      event = event;
      actor = look.actor;
      kind = kind_in S e;
      about = look.about;
      need = look.need;
      phase = look.phase;
      ends_phase = is_past (next S e) look.phase;
      line = line;
      lines = row_lines look.end (changes_among (word_state (next S e) look.actor) look.held);
      mail = look.mail;
      changes = changes_among (word_state (next S e) look.actor) look.held;
      end = look.end;
      on_chain = on_chain;
    }

-- an event came, and this is its row
pub record HasRow (m n : Made) (e : Event) (look : Look) (event line : ℕ) (on_chain : Bool) (row : ChartRow) : Type 0 where
  pub may : enabled m.state e ≡ true
  pub moves : n ≡ moved m e
  pub is : row ≡ row_with m.state e look event line on_chain

-- the drawing d with one more row is f
pub record IsNextRow (on_chain : Bool) (d f : Drawing) (e : Event) : Type 0 where
  pub may : enabled d.machine.state e ≡ true
  pub is : (chain : List ℕ) → on_chain ≡ is_on_chain chain d.event → f ≡ with_row chain d e
  pub made : f.machine.made ≡ d.machine.made + 1
  pub event : f.event ≡ d.event + 1
  pub rows : length f.rows ≡ length d.rows + 1
  pub line : f.line ≤ 65538 * length f.rows
  pub sent : AreNotedFor f.sent f.machine.state.mails

-- the result for an event that was to have a row: nothing, since it may not come, or it came
abbrev pub IsRowed : Bool → Drawing → Drawing → Event → Bool → Type 0
IsRowed on_chain d f e false = (enabled d.machine.state e ≡ false) × (f ≡ d)
IsRowed on_chain d f e true = IsNextRow on_chain d f e
