-- The arrows of the whole chart, and which actors have a column in it.
use Rattle.std.proofs.Common.{◌≡◌, ℕ, zero, suc, ◌+◌, ◌-◌, ◌<◌, ◌≤◌, ◌==◌, ◌||◌, Bool, true, false, cond, nat_lt, List, [], ◌∷◌, ◌++◌, length, take, slice_get, Option, Some, None, refl, sym, ap, subst, ◌∙◌, arith}
use Rattle.std.specs.List.{list_any}
use Rattle.std.proofs.Math.Seq.{take-append_seam}
use Rattle.std.proofs.lemmas.Bool.{eqb-true}
use Rattle.std.proofs.lemmas.Bool.Decides.{nat_tests}
use Rattle.std.proofs.lemmas.List.{length-take}
use Rattle.std.proofs.lemmas.List.Folds.{list_any_at}
use Rattle.std.proofs.lemmas.List.FromFn.{get_or-map-range_with_len, length-map-range_with_len}
use Rattle.std.proofs.lemmas.Option.{none-some, same_Some, slice_get_within, slice_get-get_or, get_or_from_slice_get}
use Rattle.dn_base.specs.declared.ids.BankId.{BankId}
use Rattle.dn_base.specs.declared.ids.CoreId.{CoreId}
use Rattle.dn_base.specs.declared.ids.LockId.{LockId}
use Rattle.dn_base.specs.declared.ids.Shape.{Shape}
use Rattle.message_net.specs.declared.actor.Actor.{Actor}
use Rattle.message_net.specs.declared.actor.Actor.TheVariants.{Core, Bank, Keeper}
use Rattle.message_net.specs.declared.actor.MailId.{MailId}
use Rattle.message_net.specs.declared.event.Event.{Event}
use Rattle.message_net.specs.declared.event.Event.TheVariants.{Handle}
use Rattle.message_net.specs.declared.message.Mail.{Mail}
use Rattle.message_net.specs.Id.{same_actor}
use Rattle.message_net.specs.Mail.{has_actor}
use Rattle.message_net.specs.Pool.{of_id, count_of, removed, AreDistinct, IsFound}
use Rattle.message_net.proofs.PoolLemmas.{found-counted, taken-of_id, place-counted, same_actor-refl, same_id-refl}
use Rattle.registration_protocol.specs.Node.{NodeParts, Setting}
use Rattle.machine_rules.specs.State.{State, initial_state}
use Rattle.machine_rules.specs.Next.{next, enabled}
use Rattle.machine_rules.specs.Runs.{after, IsRun}
use Rattle.machine_rules.specs.Sound.{IsReady, IsMachine}
use Rattle.machine_rules.proofs.OpenedFacts.{opened-setting}
use Rattle.machine_rules.proofs.RunsCoherent.{run-all}
use Rattle.dn_machine.specs.Actors.{receiver_of, actor_in}
use Rattle.dn_machine.proofs.LeftLemmas.{kept-left, left-first}
use Rattle.run_timing.specs.Depends.{state_at, actor_at, actor_of_event, Sends}
use Rattle.run_timing.proofs.Moves.{has}
use Rattle.run_timing.proofs.OnRuns.{setting-at, there-at}
use Rattle.run_timing.proofs.Timed.{IsInFlight}
use Rattle.run_chart.specs.declared.parts.Chart.{Chart}
use Rattle.run_chart.specs.declared.parts.ChartRow.{ChartRow}
use Rattle.run_chart.specs.declared.parts.LeavingMail.{LeavingMail}
use Rattle.run_chart.specs.declared.parts.Origin.{Origin}
use Rattle.run_chart.specs.declared.parts.WaitingTask.{WaitingTask}
use Rattle.run_chart.specs.Places.{actor_with, is_shown, shown_at, HasColumn}
use Rattle.run_chart.specs.declared.charting.Frame.{Frame}
use Rattle.run_chart.specs.declared.drawing.Drawing.{Drawing}
use Rattle.run_chart.specs.declared.drawing.Range.{Range}
use Rattle.run_chart.specs.declared.finishing.Columns.{Columns}
use Rattle.run_chart.specs.declared.finishing.Columns.TheVariants.{All, Used}
use Rattle.run_chart.specs.declared.mails.SentMail.{SentMail}
use Rattle.run_chart.specs.Arrows.{line_of_event, AllLeave, ComesFromSender, TellsSender, LeavesFromSender, LeavesRange, end_of_range}
use Rattle.run_chart.specs.Charts.{before, drawn, chart_in, chart_of, leaving_in, reaches_end, waiting_at, waiting_in}
use Rattle.run_chart.specs.Finishing.{leaves_for, uses, waits, has_column, has_column_at, shown_actors, leaving_mail, leaving_by, leaving_from, lock_wanted, waiting_by, waiting_from}
use Rattle.run_chart.specs.Mails.{noted_line}
use Rattle.run_chart.proofs.Noted.{noted-here}
use Rattle.run_chart.proofs.RangeRows.{run-first}
use Rattle.run_chart.proofs.Senders.{HaveLines, IsDrawnTo, handle-may, sent-since, sender-acts, whole-range}

-- ---- what stands behind the rows

-- a mail that leaves is one in flight of which a line is noted
record IsLeft (sent : List SentMail) (mails : List Mail) (l : LeavingMail) : Type 0 where
  place : ℕ
  mail : Mail
  noted : SentMail
  mail_there : slice_get mails place ≡ Some mail
  noted_there : slice_get sent place ≡ Some noted
  line : noted.line ≡ Some l.sent
  sender : mail.id.sender ≡ l.sender
  to : mail.to ≡ l.to

left-later : (s : SentMail) (ss : List SentMail) (m : Mail) (ms : List Mail) (l : LeavingMail) → IsLeft ss ms l → IsLeft (s ∷ ss) (m ∷ ms) l
left-later s ss m ms l left =
    record {
      place = suc left.place;
      mail = left.mail;
      noted = left.noted;
      mail_there = left.mail_there;
      noted_there = left.noted_there;
      line = left.line;
      sender = left.sender;
      to = left.to;
    }

left-there : (line : ℕ) (sent : List SentMail) (mails : List Mail) (i : ℕ) (l : LeavingMail) → slice_get (leaving_from line sent mails) i ≡ Some l → IsLeft sent mails l
left-there line [] mails i l here = absurd (none-some l here)
left-there line (s ∷ ss) [] i l here = absurd (none-some l here)
left-there line (s ∷ ss) (m ∷ ms) i l here = by_line s.line refl (λ below j at. left-there below ss ms j l at) i here where
  by_line : (o : Option ℕ) → s.line ≡ o → ((below j : ℕ) → slice_get (leaving_from below ss ms) j ≡ Some l → IsLeft ss ms l) → (i : ℕ) → slice_get (leaving_by line o m (λ next. leaving_from next ss ms)) i ≡ Some l → IsLeft (s ∷ ss) (m ∷ ms) l
  by_line None e rest i here = left-later s ss m ms l (rest line i here)
  by_line (Some sent) e rest zero here =
      let is = same_Some (leaving_mail m sent line) l here in
      record {
        place = 0;
        mail = m;
        noted = s;
        mail_there = refl;
        noted_there = refl;
        line = e ∙ ap (λ (x : LeavingMail). Some x.sent) is;
        sender = ap (λ (x : LeavingMail). x.sender) is;
        to = ap (λ (x : LeavingMail). x.to) is;
      }
  by_line (Some sent) e rest (suc i) here = left-later s ss m ms l (rest (line + 1) i here)

-- the arrow of a mail that was sent on a line
record IsArrowFor (m : Mail) (line : ℕ) (l : LeavingMail) : Type 0 where
  sent : Some line ≡ Some l.sent
  sender : m.id.sender ≡ l.sender
  to : m.to ≡ l.to

-- a mail in flight of which a line is noted leaves
there-left : (line : ℕ) (sent : List SentMail) (mails : List Mail) (place : ℕ) (m : Mail) (s : SentMail) (on : ℕ) → slice_get sent place ≡ Some s → slice_get mails place ≡ Some m → s.line ≡ Some on
    → (i : ℕ) × (l : LeavingMail) × (slice_get (leaving_from line sent mails) i ≡ Some l) × IsArrowFor m on l
there-left line [] mails place m s on here there is = absurd (none-some s here)
there-left line (x ∷ xs) [] place m s on here there is = absurd (none-some m there)
there-left line (x ∷ xs) (y ∷ ys) zero m s on here there is =
    let noted : x.line ≡ Some on = ap (λ (z : SentMail). z.line) (same_Some x s here) ∙ is in
    let mail : y ≡ m = same_Some y m there in
    rw noted (0, leaving_mail y on line, refl, record { sent = refl; sender = ap (λ (z : Mail). z.id.sender) (sym mail); to = ap (λ (z : Mail). z.to) (sym mail) })
there-left line (x ∷ xs) (y ∷ ys) (suc place) m s on here there is = by_line x.line (λ below. there-left below xs ys place m s on here there is) where
  by_line : (o : Option ℕ) → ((below : ℕ) → (i : ℕ) × (l : LeavingMail) × (slice_get (leaving_from below xs ys) i ≡ Some l) × IsArrowFor m on l) → (i : ℕ) × (l : LeavingMail) × (slice_get (leaving_by line o y (λ next. leaving_from next xs ys)) i ≡ Some l) × IsArrowFor m on l
  by_line None rest = rest line
  by_line (Some sent) rest = one (rest (line + 1)) where
    one : (i : ℕ) × (l : LeavingMail) × (slice_get (leaving_from (line + 1) xs ys) i ≡ Some l) × IsArrowFor m on l
        → (i : ℕ) × (l : LeavingMail) × (slice_get (leaving_mail y sent line ∷ leaving_from (line + 1) xs ys) i ≡ Some l) × IsArrowFor m on l
    one (i, l, at, arrow) = (suc i, l, at, arrow)

-- a task that waits is of a node
waiting-there : (line : ℕ) (nodes : List NodeParts) (i : ℕ) (task : WaitingTask) → slice_get (waiting_from line nodes) i ≡ Some task
    → (place : ℕ) × (n : NodeParts) × (slice_get nodes place ≡ Some n) × (n.core ≡ task.core.0)
waiting-there line [] i task here = absurd (none-some task here)
waiting-there line (n ∷ ns) i task here = by_lock (lock_wanted n.waiting) (λ below j at. waiting-there below ns j task at) i here where
  later : (place : ℕ) × (m : NodeParts) × (slice_get ns place ≡ Some m) × (m.core ≡ task.core.0) → (place : ℕ) × (m : NodeParts) × (slice_get (n ∷ ns) place ≡ Some m) × (m.core ≡ task.core.0)
  later (place, m, there, core) = (suc place, m, there, core)

  by_lock : (o : Option LockId)
      → ((below j : ℕ) → slice_get (waiting_from below ns) j ≡ Some task → (place : ℕ) × (m : NodeParts) × (slice_get ns place ≡ Some m) × (m.core ≡ task.core.0)) → (i : ℕ) → slice_get (waiting_by line n o (λ next. waiting_from next ns)) i ≡ Some task
      → (place : ℕ) × (m : NodeParts) × (slice_get (n ∷ ns) place ≡ Some m) × (m.core ≡ task.core.0)
  by_lock None rest i here = later (rest line i here)
  by_lock (Some lock) rest zero here = (0, n, refl, ap (λ (t : WaitingTask). t.core.0) (same_Some _ task here))
  by_lock (Some lock) rest (suc i) here = later (rest (line + 1) i here)

-- ---- columns

any-of : {X : Type 0} (test : X → Bool) (xs : List X) (i : ℕ) (x : X) → slice_get xs i ≡ Some x → test x ≡ true → list_any test xs ≡ true
any-of test xs i x here passes =
    list_any_at test xs i x (slice_get_within xs i x here) (ap test (get_or_from_slice_get xs i x x here) ∙ passes)

module _ (columns : Columns) (rows : List ChartRow) (leaving : List LeavingMail) (tasks : List WaitingTask) where
  pub shown-is : (shape : Shape) (index : ℕ) → index < shape.cores + shape.banks → is_shown (shown_actors columns rows leaving tasks shape) index ≡ has_column columns rows leaving tasks (actor_with shape index)
  shown-is shape index less =
      ap shown_at
      (slice_get-get_or (shown_actors columns rows leaving tasks shape) index false
      (omega (arith, less, length-map-range_with_len (has_column_at columns rows leaving tasks shape) 0 (shape.cores + shape.banks))))
      ∙ get_or-map-range_with_len (has_column_at columns rows leaving tasks shape) 0 (shape.cores + shape.banks) index index false less (omega arith)

  pub used-by-row : (a : Actor) (i : ℕ) (row : ChartRow) → slice_get rows i ≡ Some row → uses a row ≡ true → has_column columns rows leaving tasks a ≡ true
  used-by-row a i row here used = by_columns columns where
    any : list_any (uses a) rows ≡ true
    any = any-of (uses a) rows i row here used

    by_columns : (c : Columns) → has_column c rows leaving tasks a ≡ true
    by_columns All = refl
    by_columns Used = rw any refl

  pub used-by-mail : (a : Actor) (i : ℕ) (mail : LeavingMail) → slice_get leaving i ≡ Some mail → leaves_for a mail ≡ true → has_column columns rows leaving tasks a ≡ true
  used-by-mail a i mail here used = by_columns columns where
    any : list_any (leaves_for a) leaving ≡ true
    any = any-of (leaves_for a) leaving i mail here used

    by_columns : (c : Columns) → has_column c rows leaving tasks a ≡ true
    by_columns All = refl
    by_columns Used = by_rows (list_any (uses a) rows) where
      by_rows : (b : Bool) → (b || (list_any (leaves_for a) leaving || list_any (waits a) tasks)) ≡ true
      by_rows true = refl
      by_rows false = rw any refl

  pub used-by-task : (a : Actor) (i : ℕ) (task : WaitingTask) → slice_get tasks i ≡ Some task → waits a task ≡ true → has_column columns rows leaving tasks a ≡ true
  used-by-task a i task here used = by_columns columns where
    any : list_any (waits a) tasks ≡ true
    any = any-of (waits a) tasks i task here used

    by_columns : (c : Columns) → has_column c rows leaving tasks a ≡ true
    by_columns All = refl
    by_columns Used = by_others (list_any (uses a) rows) (list_any (leaves_for a) leaving) where
      by_others : (b d : Bool) → (b || (d || list_any (waits a) tasks)) ≡ true
      by_others true d = refl
      by_others false true = refl
      by_others false false = any

-- the index of a core and of a bank gives it back
pub core-at : (shape : Shape) (core : CoreId) → core.0 < shape.cores → actor_with shape core.0 ≡ Core core
core-at shape core less =
    let is : nat_lt core.0 shape.cores ≡ true = grind (arith, nat_tests, less) in
    rw is refl

pub bank-at : (shape : Shape) (bank : BankId) → bank.0 < shape.banks → actor_with shape (shape.cores + bank.0) ≡ Bank bank
bank-at shape bank less =
    let no_core : nat_lt (shape.cores + bank.0) shape.cores ≡ false = grind (arith, nat_tests) in
    let is : nat_lt (shape.cores + bank.0) (shape.cores + shape.banks) ≡ true = grind (arith, nat_tests, less) in
    let number : shape.cores + bank.0 - shape.cores ≡ bank.0 = omega arith in
    rw (no_core, is, number) refl

column-there : (chart : Chart) (a : Actor) → chart.shape.cores ≤ 16 → chart.shape.banks ≤ 16 → has_actor chart.shape.cores chart.shape.banks a ≡ true
    → ((index : ℕ) → index < chart.shape.cores + chart.shape.banks → actor_with chart.shape index ≡ a → is_shown chart.shown index ≡ true) → HasColumn chart a
column-there chart (Core core) cores banks there shown =
    let less : core.0 < chart.shape.cores = grind (arith, nat_tests, there) in
    (less, (omega (arith, less, cores), shown core.0 (omega (arith, less)) (core-at chart.shape core less)))
column-there chart (Bank bank) cores banks there shown =
    let less : bank.0 < chart.shape.banks = grind (arith, nat_tests, there) in
    (less, (omega (arith, less, cores, banks), shown (chart.shape.cores + bank.0) (omega (arith, less)) (bank-at chart.shape bank less)))
column-there chart Keeper cores banks there shown = tt

-- the row of an event that has a line
pub row-of-line : (event line : ℕ) (rows : List ChartRow) → line_of_event event rows ≡ Some line → (i : ℕ) × (row : ChartRow) × (slice_get rows i ≡ Some row) × (row.event ≡ event)
row-of-line event line [] is = absurd (none-some line is)
row-of-line event line (r ∷ rs) is = by_test (r.event == event) refl (row-of-line event line rs) is where
  later : (i : ℕ) × (row : ChartRow) × (slice_get rs i ≡ Some row) × (row.event ≡ event) → (i : ℕ) × (row : ChartRow) × (slice_get (r ∷ rs) i ≡ Some row) × (row.event ≡ event)
  later (i, row, there, same) = (suc i, row, there, same)

  by_test : (t : Bool) → (r.event == event) ≡ t → (line_of_event event rs ≡ Some line → (i : ℕ) × (row : ChartRow) × (slice_get rs i ≡ Some row) × (row.event ≡ event))
      → cond t (Some r.line) (line_of_event event rs) ≡ Some line → (i : ℕ) × (row : ChartRow) × (slice_get (r ∷ rs) i ≡ Some row) × (row.event ≡ event)
  by_test true e rest is = (0, r, refl, eqb-true r.event event e)
  by_test false e rest is = later (rest is)

-- ---- the states of a run

run-more : (S : State) (es : List Event) (e : Event) → IsRun S es → enabled (after S es) e ≡ true → IsRun S (es ++ e ∷ [])
run-more S [] e run may = (may, tt)
run-more S (x ∷ xs) e run may = (run.0, run-more (next S x) xs e run.1 may)

get-last : (es : List Event) (e : Event) → slice_get (es ++ e ∷ []) (length es) ≡ Some e
get-last [] e = refl
get-last (x ∷ xs) e = get-last xs e

handler-of : (mails : List Mail) (place : ℕ) (m : Mail) (S : State) → S.mails ≡ mails → AreDistinct mails → slice_get mails place ≡ Some m → actor_in S (Handle m.id) ≡ Some m.to
unfolding actor_in
handler-of mails place m S same distinct here =
    ap (λ (l : List Mail). receiver_of (removed m.id l).0) same ∙ ap (λ (r : Option Mail × List Mail). receiver_of r.0) (taken-of_id mails place m distinct here)

module _ (C : Setting) (events : List Event) (ready : IsReady C) (run : IsRun (initial_state C) events) where
  machine-at : (n : ℕ) → IsMachine (state_at (initial_state C) events n)
  machine-at n = (run-all C (take n events) ready (run-first (initial_state C) events n run)).0.machine

  -- an event's actor is one of the machine's
  actor-there : (n : ℕ) (a : Actor) → actor_at (initial_state C) events n ≡ Some a → has C a ≡ true
  actor-there n a is = by_event (slice_get events n) refl is where
    by_event : (o : Option Event) → slice_get events n ≡ o → actor_of_event (state_at (initial_state C) events n) o ≡ Some a → has C a ≡ true
    by_event None e is = absurd (none-some a is)
    by_event (Some x) here is = there-at C events n x a ready run here is

  -- and so is the one that may handle a mail in flight
  handler-there : (n : ℕ) (id : MailId) (a : Actor) → 1 ≤ count_of id (state_at (initial_state C) events n).mails → actor_in (state_at (initial_state C) events n) (Handle id) ≡ Some a → has C a ≡ true
  handler-there n id a some is =
      there-at C (first ++ Handle id ∷ []) (length first) (Handle id) a ready
      (run-more (initial_state C) first (Handle id) (run-first (initial_state C) events n run) (handle-may (after (initial_state C) first) id some)) (get-last first (Handle id))
      (subst (λ (l : List Event). actor_in (after (initial_state C) l) (Handle id) ≡ Some a) (sym (take-append_seam first (Handle id ∷ []))) is)
    where
      first : List Event
      first = take n events

  module _ (n : ℕ) (d : Drawing) (frame : Frame) (to : IsDrawnTo C events ready run n d) (shape : frame.shape ≡ C.shape) where
    left-mail : (i : ℕ) (mail : LeavingMail) → slice_get (leaving_in d) i ≡ Some mail → LeavesFromSender (initial_state C) events d.rows n mail
    left-mail i mail here = (
      from.0,
      left.mail.id,
      record {
        sends = from.2;
        in_flight = from.3;
        actor = sender-acts C events ready run from.0 left.mail.id from.2 ∙ ap (λ (a : Actor). Some a) left.sender;
        line = sym (to.noted from.0 left.mail.id from.1 from.2 from.3) ∙ noted ∙ left.line;
        handler = handler-of mails left.place left.mail (state_at (initial_state C) events n) refl (machine-at n).distinct there ∙ ap (λ (a : Actor). Some a) left.to;
      },
    )
      where
        mails : List Mail
        mails = (state_at (initial_state C) events n).mails

        left : IsLeft d.sent d.machine.state.mails mail
        left = left-there d.line d.sent d.machine.state.mails i mail here

        there : slice_get (state_at (initial_state C) events n).mails left.place ≡ Some left.mail
        there = subst (λ (S : State). slice_get S.mails left.place ≡ Some left.mail) to.state left.mail_there

        from : (p : ℕ) × (p < n) × Sends (initial_state C) events p left.mail.id × IsInFlight C events left.mail.id p n
        from = sent-since C events n left.mail.id (place-counted (of_id left.mail.id) mails left.place left.mail there (same_id-refl left.mail.id))

        distinct : AreDistinct d.machine.state.mails
        distinct = subst (λ (S : State). AreDistinct S.mails) (sym to.state) (machine-at n).distinct

        noted : noted_line left.mail.id None d.sent ≡ left.noted.line
        noted =
            ap (λ (s : SentMail). s.line)
            (same_Some (record { id = left.mail.id; line = noted_line left.mail.id None d.sent }) left.noted
            (sym (noted-here d.sent d.machine.state.mails left.place left.mail None to.sent distinct left.mail_there) ∙ left.noted_there))

    mail-left : (first : ℕ) → ((p : ℕ) → first ≤ p → p < n → (line : ℕ) × (line_of_event p d.rows ≡ Some line)) → AllLeave (initial_state C) events d.rows first n (leaving_in d)
    mail-left first lines event id past less sends since = (
      at.0,
      at.1,
      at.2,
      record {
        sends = sends;
        in_flight = since;
        actor = sender-acts C events ready run event id sends ∙ ap (λ (x : MailId). Some x.sender) (sym named) ∙ ap (λ (a : Actor). Some a) at.3.sender;
        line = line.1 ∙ at.3.sent;
        handler =
            ap (λ (x : MailId). actor_in (state_at (initial_state C) events n) (Handle x)) (sym named)
            ∙ handler-of (state_at (initial_state C) events n).mails found.0 found.1 (state_at (initial_state C) events n) refl (machine-at n).distinct found.2.here
            ∙ ap (λ (a : Actor). Some a) at.3.to;
      },
    ) where
      line : (l : ℕ) × (line_of_event event d.rows ≡ Some l)
      line = lines event past less

      found : (place : ℕ) × (m : Mail) × IsFound id (state_at (initial_state C) events n).mails place m
      found = found-counted id (state_at (initial_state C) events n).mails (since n less (omega arith))

      named : found.1.id ≡ id
      named = found.2.named

      there : slice_get d.machine.state.mails found.0 ≡ Some found.1
      there = subst (λ (S : State). slice_get S.mails found.0 ≡ Some found.1) (sym to.state) found.2.here

      noted : slice_get d.sent found.0 ≡ Some (record { id = found.1.id; line = noted_line found.1.id None d.sent })
      noted = noted-here d.sent d.machine.state.mails found.0 found.1 None to.sent (subst (λ (S : State). AreDistinct S.mails) (sym to.state) (machine-at n).distinct) there

      on_line : noted_line found.1.id None d.sent ≡ Some line.0
      on_line = ap (λ (x : MailId). noted_line x None d.sent) named ∙ to.noted event id less sends since ∙ line.1

      at : (i : ℕ) × (l : LeavingMail) × (slice_get (leaving_in d) i ≡ Some l) × IsArrowFor found.1 line.0 l
      at = there-left d.line d.sent d.machine.state.mails found.0 found.1 (record { id = found.1.id; line = noted_line found.1.id None d.sent }) line.0 noted there on_line

    -- ---- its columns

    abbrev chart : Chart
    chart = chart_in frame (Some d)

    few-cores : frame.shape.cores ≤ 16
    few-cores =
        subst (λ (s : Shape). s.cores ≤ 16) (sym shape)
        (subst (λ (X : Setting). X.shape.cores ≤ 16) (opened-setting C) (kept-left (initial_state C) 0 (left-first C ready)).most)

    few-banks : frame.shape.banks ≤ 16
    few-banks = subst (λ (s : Shape). s.banks ≤ 16) (sym shape) ready.context.most_banks

    column-of : (a : Actor) → has C a ≡ true → has_column frame.columns d.rows (leaving_in d) (waiting_in frame.range frame.events d) a ≡ true → HasColumn chart a
    column-of a there used =
        column-there chart a few-cores few-banks (subst (λ (s : Shape). has_actor s.cores s.banks a ≡ true) (sym shape) there)
        (λ index less is.
        shown-is frame.columns d.rows (leaving_in d) (waiting_in frame.range frame.events d) frame.shape index less
        ∙ ap (has_column frame.columns d.rows (leaving_in d) (waiting_in frame.range frame.events d)) is ∙ used)

    row-column : (i : ℕ) (row : ChartRow) → slice_get d.rows i ≡ Some row → HasColumn chart row.actor
    row-column i row here =
        column-of row.actor (actor-there row.event row.actor (to.acts i row here))
        (used-by-row frame.columns d.rows (leaving_in d) (waiting_in frame.range frame.events d) row.actor i row here (rw (same_actor-refl row.actor) refl))

    mail-column : (i : ℕ) (row : ChartRow) (mail : Origin) → slice_get d.rows i ≡ Some row → row.mail ≡ Some mail → HasColumn chart mail.sender
    mail-column i row mail here is =
        column-of mail.sender (actor-there tells.event mail.sender tells.actor)
        (used-by-row frame.columns d.rows (leaving_in d) (waiting_in frame.range frame.events d) mail.sender i row here used)
      where
        tells : ComesFromSender (initial_state C) events d.rows row mail
        tells = subst (λ (o : Option Origin). TellsSender (initial_state C) events d.rows row o) is (to.tells i row here)

        either : (b : Bool) → (b || true) ≡ true
        either true = refl
        either false = refl

        used : uses mail.sender row ≡ true
        used = rw (is, same_actor-refl mail.sender) (either (same_actor mail.sender row.actor))

    leaving-columns : (i : ℕ) (mail : LeavingMail) → slice_get (leaving_in d) i ≡ Some mail → HasColumn chart mail.sender × HasColumn chart mail.to
    leaving-columns i mail here = (subst (λ (a : Actor). HasColumn chart a) same (row-column row.0 row.1 row.2), column-of mail.to there (used-by-mail frame.columns d.rows (leaving_in d) (waiting_in frame.range frame.events d) mail.to i mail here (same_actor-refl mail.to))) where
      left : LeavesFromSender (initial_state C) events d.rows n mail
      left = left-mail i mail here

      leaves : LeavesRange (initial_state C) events d.rows n left.0 left.1 mail
      leaves = left.2

      row : (j : ℕ) × (r : ChartRow) × (slice_get d.rows j ≡ Some r) × (r.event ≡ left.0)
      row = row-of-line left.0 mail.sent d.rows leaves.line

      same : row.1.actor ≡ mail.sender
      same = same_Some row.1.actor mail.sender (sym (to.acts row.0 row.1 row.2) ∙ ap (λ (k : ℕ). actor_at (initial_state C) events k) row.3 ∙ leaves.actor)

      there : has C mail.to ≡ true
      there = handler-there n left.1 mail.to (leaves.in_flight n before (omega arith)) leaves.handler where
        before : left.0 < n
        before = subst (λ (k : ℕ). k < n) row.3 (to.below row.0 row.1 row.2)

    waiting-core : (is_end : Bool) (line i : ℕ) (task : WaitingTask) → slice_get (waiting_at is_end line d.machine.state) i ≡ Some task → has C (Core task.core) ≡ true
    waiting-core false line i task here = absurd (none-some task here)
    waiting-core true line i task here =
        let at = waiting-there line d.machine.state.nodes i task here in
        let node : slice_get (state_at (initial_state C) events n).nodes at.0 ≡ Some at.1 = subst (λ (S : State). slice_get S.nodes at.0 ≡ Some at.1) to.state at.2 in
        let good = machine-at n in
        let cores : (state_at (initial_state C) events n).setting.shape.cores ≡ C.shape.cores = ap (λ (X : Setting). X.shape.cores) (setting-at C events n) in
        let less : task.core.0 < C.shape.cores = omega (arith, at.3, (good.node at.0 at.1 node).core, slice_get_within (state_at (initial_state C) events n).nodes at.0 at.1 node, good.nodes, cores) in
        grind (arith, nat_tests, less)

    waiting-column : (i : ℕ) (task : WaitingTask) → slice_get (waiting_in frame.range frame.events d) i ≡ Some task → HasColumn chart (Core task.core)
    waiting-column i task here =
        column-of (Core task.core) (waiting-core (reaches_end frame.range frame.events) (d.line + length (leaving_in d)) i task here)
        (used-by-task frame.columns d.rows (leaving_in d) (waiting_in frame.range frame.events d) (Core task.core) i task here (same_actor-refl (Core task.core)))

  -- ---- the chart

  module _ (range : Range) (chain : List ℕ) (columns : Columns) where
    all : (d : Drawing) × (drawn (record { state = initial_state C; made = 0 }) range chain events ≡ Some d) × IsDrawnTo C events ready run (end_of_range range events) d × HaveLines d.rows (length (before range events)) (end_of_range range events)
    all = whole-range C events ready run range chain

    abbrev whole : Frame
    whole = record { shape = C.shape; fuel = C.fuel; range = range; events = length events; columns = columns }

    same : chart_of C events range chain columns ≡ chart_in whole (Some all.0)
    same = ap (λ (o : Option Drawing). chart_in whole o) all.1

    pub rows-tell : (i : ℕ) (row : ChartRow) → slice_get (chart_of C events range chain columns).rows i ≡ Some row
        → TellsSender (initial_state C) events (chart_of C events range chain columns).rows row row.mail
    rows-tell =
        subst (λ (c : Chart). (i : ℕ) (row : ChartRow) → slice_get c.rows i ≡ Some row → TellsSender (initial_state C) events c.rows row row.mail) (sym same) all.2.tells

    pub mails-leave : (i : ℕ) (mail : LeavingMail) → slice_get (chart_of C events range chain columns).leaving i ≡ Some mail
        → LeavesFromSender (initial_state C) events (chart_of C events range chain columns).rows (end_of_range range events) mail
    mails-leave =
        subst (λ (c : Chart). (i : ℕ) (mail : LeavingMail) → slice_get c.leaving i ≡ Some mail → LeavesFromSender (initial_state C) events c.rows (end_of_range range events) mail) (sym same)
        (left-mail (end_of_range range events) all.0 whole all.2 refl)

    pub all-leave : AllLeave (initial_state C) events (chart_of C events range chain columns).rows range.first (end_of_range range events) (chart_of C events range chain columns).leaving
    all-leave =
        subst (λ (c : Chart). AllLeave (initial_state C) events c.rows range.first (end_of_range range events) c.leaving) (sym same)
        (mail-left (end_of_range range events) all.0 whole all.2 refl range.first
        (λ p past less. all.3 p (omega (arith, past, length-take range.first events)) less))

    pub rows-act : (i : ℕ) (row : ChartRow) → slice_get (chart_of C events range chain columns).rows i ≡ Some row → actor_at (initial_state C) events row.event ≡ Some row.actor
    rows-act =
        subst (λ (c : Chart). (i : ℕ) (row : ChartRow) → slice_get c.rows i ≡ Some row → actor_at (initial_state C) events row.event ≡ Some row.actor) (sym same) all.2.acts

    pub rows-shown : (i : ℕ) (row : ChartRow) → slice_get (chart_of C events range chain columns).rows i ≡ Some row → HasColumn (chart_of C events range chain columns) row.actor
    rows-shown =
        subst (λ (c : Chart). (i : ℕ) (row : ChartRow) → slice_get c.rows i ≡ Some row → HasColumn c row.actor) (sym same) (row-column (end_of_range range events) all.0 whole all.2 refl)

    pub mails-shown : (i : ℕ) (row : ChartRow) (mail : Origin) → slice_get (chart_of C events range chain columns).rows i ≡ Some row → row.mail ≡ Some mail
        → HasColumn (chart_of C events range chain columns) mail.sender
    mails-shown =
        subst (λ (c : Chart). (i : ℕ) (row : ChartRow) (mail : Origin) → slice_get c.rows i ≡ Some row → row.mail ≡ Some mail → HasColumn c mail.sender) (sym same)
        (mail-column (end_of_range range events) all.0 whole all.2 refl)

    pub leaving-shown : (i : ℕ) (mail : LeavingMail) → slice_get (chart_of C events range chain columns).leaving i ≡ Some mail
        → HasColumn (chart_of C events range chain columns) mail.sender × HasColumn (chart_of C events range chain columns) mail.to
    leaving-shown =
        subst (λ (c : Chart). (i : ℕ) (mail : LeavingMail) → slice_get c.leaving i ≡ Some mail → HasColumn c mail.sender × HasColumn c mail.to) (sym same)
        (leaving-columns (end_of_range range events) all.0 whole all.2 refl)

    pub waiting-shown : (i : ℕ) (task : WaitingTask) → slice_get (chart_of C events range chain columns).waiting i ≡ Some task → HasColumn (chart_of C events range chain columns) (Core task.core)
    waiting-shown =
        subst (λ (c : Chart). (i : ℕ) (task : WaitingTask) → slice_get c.waiting i ≡ Some task → HasColumn c (Core task.core)) (sym same)
        (waiting-column (end_of_range range events) all.0 whole all.2 refl)
