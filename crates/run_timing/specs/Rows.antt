-- The notes of each event: when it finishes, the event after which it comes, and its kind.
use Rattle.std.specs.Prelude.{◌≡◌, ◌⊎◌, ℕ, ◌+◌, ◌*◌, ◌<◌, ◌≤◌, nat_lt, List, [], ◌∷◌, ◌++◌, length, slice_get, slice_index, slice_index_or, Option, Some, None, if◌then◌else◌}
use Rattle.message_net.specs.declared.event.EventKind.{EventKind}
use Rattle.run_timing.specs.declared.rows.Start.{Start}
use Rattle.run_timing.specs.declared.rows.Rows.{Rows}
use Rattle.run_timing.specs.declared.ticks.Ticks.{Ticks}
use Rattle.run_timing.specs.declared.timing.Link.{Link}
use Rattle.run_timing.specs.Befores.{IsEarlier}
use Rattle.run_timing.specs.Ticks.{ticks_of}

-- when an event finishes, and after which event it comes
abbrev pub finish_in : Rows → ℕ → ℕ
finish_in rows i = slice_index rows.finishes i

abbrev pub before_in : Rows → ℕ → Option ℕ
before_in rows i = slice_index_or rows.befores i None

-- when an event finishes; 0 without an event
abbrev pub behind : (ℕ → ℕ) → Option ℕ → ℕ
behind f None = 0
behind f (Some p) = f p

-- when an event starts, by the event before it of its own actor and the one that sent its message, which is under way for some ticks:
-- at the later of the one's finish and the message's arrival. It comes after the one that is later, the own actor's if both are alike
abbrev pub start_after : (ℕ → ℕ) → ℕ → Option ℕ → Option ℕ → Start
start_after f delay None None = record { event = None; tick = 0 }
start_after f delay None (Some s) = record { event = Some s; tick = f s + delay }
start_after f delay (Some o) None = record { event = Some o; tick = f o }
start_after f delay (Some o) (Some s) = if nat_lt (f o) (f s + delay) then record { event = Some s; tick = f s + delay } else record { event = Some o; tick = f o }

-- one more event, of this kind and this many ticks, which starts then
abbrev pub with_timing_row : EventKind → ℕ → Start → Rows → Rows
with_timing_row kind ticks start rows =
    record {
      finishes = rows.finishes ++ (start.tick + ticks) ∷ [];
      befores = rows.befores ++ start.event ∷ [];
      kinds = rows.kinds ++ kind ∷ [];
    }

-- each event has all three notes, and it comes after an earlier event, if after any
pub record AreInStep (rows : Rows) : Type 0 where
  pub befores : length rows.befores ≡ length rows.finishes
  pub kinds : length rows.kinds ≡ length rows.finishes
  pub earlier : IsEarlier rows.befores

-- each event takes at least the ticks of its kind, from the finish of the event before it
abbrev pub AreSummed : Ticks → Rows → Type 0
AreSummed ticks rows = (i : ℕ) (kind : EventKind) → i < length rows.finishes → slice_get rows.kinds i ≡ Some kind → ticks_of ticks kind + behind (finish_in rows) (before_in rows i) ≤ finish_in rows i

-- a link tells what is noted of its event, which comes after this one
pub record IsLinkIn (rows : Rows) (before : Option ℕ) (link : Link) : Type 0 where
  pub within : link.event < length rows.finishes
  pub before_is : before_in rows link.event ≡ before
  pub finish : link.finish ≡ finish_in rows link.event
  pub kind : slice_get rows.kinds link.event ≡ Some link.kind

-- the links lead from an event to the last one, each after the one before it
abbrev pub IsWay : Rows → Option ℕ → Option ℕ → List Link → Type 0
IsWay rows before last [] = before ≡ last
IsWay rows before last (link ∷ links) = IsLinkIn rows before link × IsWay rows (Some link.event) last links

-- the ticks of a link's event
abbrev pub ticks_of_link : Ticks → Link → ℕ
ticks_of_link ticks link = ticks_of ticks link.kind

-- none of the first n events finishes after the latest one, those before that one finish earlier, and there is one if n isn't 0
pub record IsLatest (n : ℕ) (f : ℕ → ℕ) (latest : Option ℕ) : Type 0 where
  pub none : latest ≡ None → n ≡ 0
  pub within : (e : ℕ) → latest ≡ Some e → e < n
  pub most : (e i : ℕ) → latest ≡ Some e → i < n → f i ≤ f e
  pub first : (e i : ℕ) → latest ≡ Some e → i < e → f i < f e

-- event number i comes after the latest of those on which it depends: `reach` has when each lets it start, which is when it finished and
-- the message that it sent to event number i arrives. If its own actor's event before and the sender of its mail are alike, it comes
-- after the own actor's
pub record IsTimingRow (Own Sender : ℕ → ℕ → Type 0) (ticks f reach : ℕ → ℕ) (before : Option ℕ) (i : ℕ) : Type 0 where
  pub finish : f i ≡ ticks i + behind reach before
  pub depends : (p : ℕ) → before ≡ Some p → Own p i ⊎ Sender p i
  pub latest : (p : ℕ) → Own p i ⊎ Sender p i → reach p ≤ behind reach before
  pub own : (o s : ℕ) → Own o i → Sender s i → reach o ≡ reach s → before ≡ Some o

-- when an event lets event number i start: it has finished, and the step from it to event number i is over
abbrev pub reach_of : (ℕ → ℕ) → (ℕ → ℕ → ℕ) → ℕ → ℕ → ℕ
reach_of f step i p = f p + step p i

-- the notes of the first n events are right: their kinds, when they finish, and after which events they come
pub record AreNoted (Own Sender : ℕ → ℕ → Type 0) (ticks : ℕ → ℕ) (step : ℕ → ℕ → ℕ) (kinds_are : ℕ → Option EventKind) (n : ℕ) (rows : Rows) : Type 0 where
  pub finishes : length rows.finishes ≡ n
  pub befores : length rows.befores ≡ n
  pub kinds : length rows.kinds ≡ n
  pub row : (i : ℕ) → i < n → IsTimingRow Own Sender ticks (finish_in rows) (reach_of (finish_in rows) step i) (before_in rows i) i
  pub kind : (i : ℕ) → i < n → slice_get rows.kinds i ≡ kinds_are i
  pub small : (i : ℕ) → i < n → finish_in rows i ≤ 7000000 * (i + 1)
