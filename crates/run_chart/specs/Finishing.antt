-- What a chart has after its rows, and which cores and banks have a column.
use Rattle.std.specs.Prelude.{ℕ, ◌+◌, ◌||◌, Bool, true, false, List, [], ◌∷◌, map, Option, Some, None}
use Rattle.std.specs.List.{list_any, range_with_len}
use Rattle.dn_base.specs.declared.ids.LockId.{LockId}
use Rattle.dn_base.specs.declared.ids.Shape.{Shape}
use Rattle.message_net.specs.declared.actor.Actor.{Actor}
use Rattle.message_net.specs.declared.actor.Actor.TheVariants.{Core}
use Rattle.message_net.specs.declared.message.Mail.{Mail}
use Rattle.message_net.specs.Id.{same_actor}
use Rattle.message_net.specs.Kind.{kind_of}
use Rattle.registration_protocol.specs.declared.node.NodeWait as wait
use Rattle.registration_protocol.specs.declared.node.NodeWait.{NodeWait}
use Rattle.registration_protocol.specs.Node.{NodeParts}
use Rattle.run_chart.specs.declared.parts.ChartRow.{ChartRow}
use Rattle.run_chart.specs.declared.parts.LeavingMail.{LeavingMail}
use Rattle.run_chart.specs.declared.parts.Origin.{Origin}
use Rattle.run_chart.specs.declared.parts.WaitingTask.{WaitingTask}
use Rattle.run_chart.specs.declared.finishing.Columns.{Columns}
use Rattle.run_chart.specs.declared.finishing.Columns.TheVariants.{All, Used}
use Rattle.run_chart.specs.declared.mails.SentMail.{SentMail}
use Rattle.run_chart.specs.About.{about_message}
use Rattle.run_chart.specs.Places.{actor_with}

-- a mail in flight that was sent on a line, on a line of its own
abbrev pub leaving_mail : Mail → ℕ → ℕ → LeavingMail
leaving_mail m sent line =
    record { sender = m.id.sender; sent = sent; to = m.to; kind = kind_of m.message; about = about_message m.message; line = line }

abbrev pub leaving_by : ℕ → Option ℕ → Mail → (ℕ → List LeavingMail) → List LeavingMail
leaving_by line None m rest = rest line
leaving_by line (Some sent) m rest = leaving_mail m sent line ∷ rest (line + 1)

-- the mails in flight that events with a row sent, each on a line of its own from this one on
abbrev pub leaving_from : ℕ → List SentMail → List Mail → List LeavingMail
leaving_from line [] mails = []
leaving_from line (s ∷ ss) [] = []
leaving_from line (s ∷ ss) (m ∷ ms) = leaving_by line s.line m (λ next. leaving_from next ss ms)

-- the lock that a node waits for
abbrev pub lock_wanted : NodeWait → Option LockId
lock_wanted (wait.TheVariants.Locking lock) = Some lock
lock_wanted _ = None

abbrev pub waiting_by : ℕ → NodeParts → Option LockId → (ℕ → List WaitingTask) → List WaitingTask
waiting_by line n None rest = rest line
waiting_by line n (Some lock) rest = record { core = record { 0 = n.core }; lock = lock; line = line } ∷ rest (line + 1)

-- the tasks that wait for a lock, each on a line of its own from this one on
abbrev pub waiting_from : ℕ → List NodeParts → List WaitingTask
waiting_from line [] = []
waiting_from line (n ∷ ns) = waiting_by line n (lock_wanted n.waiting) (λ next. waiting_from next ns)

-- whether a mail comes from an actor or goes to it
abbrev pub comes_from : Actor → Option Origin → Bool
comes_from actor None = false
comes_from actor (Some mail) = same_actor actor mail.sender

abbrev pub leaves_for : Actor → LeavingMail → Bool
leaves_for actor mail = same_actor actor mail.to

-- whether a task that waits is an actor's
abbrev pub waits : Actor → WaitingTask → Bool
waits actor task = same_actor actor (Core task.core)

-- whether a row is about an event of an actor, or the handling of a mail that comes from it
abbrev pub uses : Actor → ChartRow → Bool
uses actor row = same_actor actor row.actor || comes_from actor row.mail

-- whether a core or bank has a column: it has something to do in the chart, or all have one
abbrev pub has_column : Columns → List ChartRow → List LeavingMail → List WaitingTask → Actor → Bool
has_column All rows leaving tasks actor = true
has_column Used rows leaving tasks actor = list_any (uses actor) rows || (list_any (leaves_for actor) leaving || list_any (waits actor) tasks)

abbrev pub has_column_at : Columns → List ChartRow → List LeavingMail → List WaitingTask → Shape → ℕ → Bool
has_column_at columns rows leaving tasks shape index = has_column columns rows leaving tasks (actor_with shape index)

-- which cores and banks have one, by their indices
abbrev pub shown_actors : Columns → List ChartRow → List LeavingMail → List WaitingTask → Shape → List Bool
shown_actors columns rows leaving tasks shape = map (has_column_at columns rows leaving tasks shape) (range_with_len 0 (shape.cores + shape.banks))
