-- The columns of what a chart keeps: an actor that has one in the whole chart has one here, where it has something to do here.
use Rattle.std.proofs.Common.{◌≡◌, ◌⊎◌, inl, inr, ℕ, zero, suc, ◌+◌, ◌||◌, Bool, true, false, List, [], ◌∷◌, ◌++◌, length, slice_get, Option, Some, None, if◌then◌else◌, refl, sym, ap, subst, ◌∙◌, arith}
use Rattle.std.proofs.lemmas.Option.{none-some, same_Some}
use Rattle.dn_base.specs.declared.ids.CoreId.{CoreId}
use Rattle.message_net.specs.declared.actor.Actor.{Actor}
use Rattle.message_net.specs.declared.actor.Actor.TheVariants.{Core, Bank, Keeper}
use Rattle.message_net.specs.declared.event.Event.{Event}
use Rattle.message_net.specs.Id.{same_actor}
use Rattle.message_net.proofs.PoolLemmas.{same_actor-refl}
use Rattle.machine_rules.specs.State.{State}
use Rattle.run_timing.specs.Depends.{actor_at}
use Rattle.run_chart.specs.declared.finishing.Columns.{Columns}
use Rattle.run_chart.specs.declared.keeping.Keeping.{Keeping}
use Rattle.run_chart.specs.declared.parts.Chart.{Chart}
use Rattle.run_chart.specs.declared.parts.ChartRow.{ChartRow}
use Rattle.run_chart.specs.declared.parts.Fit.{Fit}
use Rattle.run_chart.specs.declared.parts.LeavingMail.{LeavingMail}
use Rattle.run_chart.specs.declared.parts.Origin.{Origin}
use Rattle.run_chart.specs.declared.parts.WaitingTask.{WaitingTask}
use Rattle.run_chart.specs.Arrows.{line_of_event}
use Rattle.run_chart.specs.Windows.{LeavesWindow}
use Rattle.run_chart.specs.Finishing.{has_column, uses}
use Rattle.run_chart.specs.Keeping.{ends_early, is_of_actors, kept_chart, kept_rows, left_below, line_after, mails_behind, moved_origin, tasks_from, waits_below, with_origin}
use Rattle.run_chart.specs.Places.{HasColumn}
use Rattle.run_chart.proofs.KeptArrows.{append-there, behind-there, still-left, ComesBehind, IsStillLeft}
use Rattle.run_chart.proofs.KeptRows.{kept-from, map-there, IsKeptFrom}
use Rattle.run_chart.proofs.Shown.{bank-at, core-at, row-of-line, shown-is, used-by-mail, used-by-row, used-by-task}

-- the sender of a mail stays
moved-sender : (whole kept : List ChartRow) (o : Option Origin) (mail : Origin) → moved_origin whole kept o ≡ Some mail → (m : Origin) × (o ≡ Some m) × (m.sender ≡ mail.sender)
moved-sender whole kept None mail is = absurd (none-some mail is)
moved-sender whole kept (Some m) mail is = (m, refl, ap (λ (x : Origin). x.sender) (same_Some _ mail is))

-- a task that still waits is one of those that did
still-waits : (marks : List Bool) (line : ℕ) (tasks : List WaitingTask) (i : ℕ) (task : WaitingTask) → slice_get (tasks_from marks line tasks) i ≡ Some task
    → (j : ℕ) × (t : WaitingTask) × (slice_get tasks j ≡ Some t) × (t.core ≡ task.core)
still-waits marks line [] i task here = absurd (none-some task here)
still-waits marks line (t ∷ ts) i task here = by_test (is_of_actors marks t.core.0) refl (λ next k at. still-waits marks next ts k task at) i here where
  step : Bool → List WaitingTask
  step b = if b then record t { line = line } ∷ tasks_from marks (line + 1) ts else tasks_from marks line ts

  later : (j : ℕ) × (u : WaitingTask) × (slice_get ts j ≡ Some u) × (u.core ≡ task.core) → (j : ℕ) × (u : WaitingTask) × (slice_get (t ∷ ts) j ≡ Some u) × (u.core ≡ task.core)
  later (j, u, there, core) = (suc j, u, there, core)

  by_test : (b : Bool) → is_of_actors marks t.core.0 ≡ b
      → ((next k : ℕ) → slice_get (tasks_from marks next ts) k ≡ Some task → (j : ℕ) × (u : WaitingTask) × (slice_get ts j ≡ Some u) × (u.core ≡ task.core)) → (i : ℕ)
      → slice_get (tasks_from marks line (t ∷ ts)) i ≡ Some task → (j : ℕ) × (u : WaitingTask) × (slice_get (t ∷ ts) j ≡ Some u) × (u.core ≡ task.core)
  by_test true e rest zero here = (0, t, refl, ap (λ (x : WaitingTask). x.core) (same_Some (record t { line = line }) task (subst (λ (b : Bool). slice_get (step b) 0 ≡ Some task) e here)))
  by_test true e rest (suc i) here = later (rest (line + 1) i (subst (λ (b : Bool). slice_get (step b) (suc i) ≡ Some task) e here))
  by_test false e rest i here = later (rest line i (subst (λ (b : Bool). slice_get (step b) i ≡ Some task) e here))

-- none waits where the window ends before the run
waits-there : (K : Keeping) (chart : Chart) (line i : ℕ) (task : WaitingTask) → slice_get (waits_below K chart line) i ≡ Some task
    → (j : ℕ) × (t : WaitingTask) × (slice_get chart.waiting j ≡ Some t) × (t.core ≡ task.core)
waits-there K chart line i task here = by_test (ends_early K.window chart.events) here where
  by_test : (b : Bool) → slice_get (if b then [] else tasks_from K.actors line chart.waiting) i ≡ Some task
      → (j : ℕ) × (t : WaitingTask) × (slice_get chart.waiting j ≡ Some t) × (t.core ≡ task.core)
  by_test true here = absurd (none-some task here)
  by_test false here = still-waits K.actors line chart.waiting i task here

module _ (K : Keeping) (shown : Columns) (fit : Fit) (note : List ℕ) (chart : Chart) where
  abbrev kept : Chart
  kept = kept_chart K shown fit note chart

  abbrev bare : List ChartRow
  bare = kept_rows K chart

  stays-shown : (a : Actor) → HasColumn chart a → has_column shown kept.rows kept.leaving kept.waiting a ≡ true → HasColumn kept a
  stays-shown (Core core) has used = (
    has.0,
    (
      has.1.0,
      shown-is shown kept.rows kept.leaving kept.waiting chart.shape core.0 (omega (arith, has.0))
          ∙ ap (has_column shown kept.rows kept.leaving kept.waiting) (core-at chart.shape core has.0) ∙ used,
    ),
  )
  stays-shown (Bank bank) has used = (
    has.0,
    (
      has.1.0,
      shown-is shown kept.rows kept.leaving kept.waiting chart.shape (chart.shape.cores + bank.0) (omega (arith, has.0))
          ∙ ap (has_column shown kept.rows kept.leaving kept.waiting) (bank-at chart.shape bank has.0) ∙ used,
    ),
  )
  stays-shown Keeper has used = tt

  -- the row that a kept one was
  was : (i : ℕ) (row : ChartRow) → slice_get kept.rows i ≡ Some row
      → (j : ℕ) × (r : ChartRow) × (slice_get chart.rows j ≡ Some r) × (r.event ≡ row.event) × (r.actor ≡ row.actor) × (moved_origin chart.rows bare r.mail ≡ row.mail)
  was i row here =
      let placed = map-there (with_origin chart.rows bare) bare i row here in
      let from : IsKeptFrom K chart.shape chart.rows placed.0 = kept-from K chart.shape 0 chart.rows i placed.0 placed.1 in (
        from.place,
        from.row,
        from.here,
        ap (λ (r : ChartRow). r.event) from.is ∙ ap (λ (r : ChartRow). r.event) placed.2,
        ap (λ (r : ChartRow). r.actor) from.is ∙ ap (λ (r : ChartRow). r.actor) placed.2,
        ap (λ (r : ChartRow). moved_origin chart.rows bare r.mail) from.is ∙ ap (λ (r : ChartRow). r.mail) placed.2,
      )

  module _ (row-shown : (j : ℕ) (row : ChartRow) → slice_get chart.rows j ≡ Some row → HasColumn chart row.actor) where
    pub kept-row-shown : (i : ℕ) (row : ChartRow) → slice_get kept.rows i ≡ Some row → HasColumn kept row.actor
    kept-row-shown i row here =
        let r = was i row here in
        stays-shown row.actor (subst (λ (a : Actor). HasColumn chart a) r.4 (row-shown r.0 r.1 r.2))
        (used-by-row shown kept.rows kept.leaving kept.waiting row.actor i row here (rw (same_actor-refl row.actor) refl))

  pub kept-mail-shown : ((j : ℕ) (row : ChartRow) (mail : Origin) → slice_get chart.rows j ≡ Some row → row.mail ≡ Some mail → HasColumn chart mail.sender) → (i : ℕ) (row : ChartRow) (mail : Origin)
      → slice_get kept.rows i ≡ Some row → row.mail ≡ Some mail → HasColumn kept mail.sender
  kept-mail-shown mail-shown i row mail here is =
      stays-shown mail.sender (subst (λ (a : Actor). HasColumn chart a) m.2 (mail-shown r.0 r.1 m.0 r.2 m.1)) (used-by-row shown kept.rows kept.leaving kept.waiting mail.sender i row here used)
    where
      r : (j : ℕ) × (r : ChartRow) × (slice_get chart.rows j ≡ Some r) × (r.event ≡ row.event) × (r.actor ≡ row.actor) × (moved_origin chart.rows bare r.mail ≡ row.mail)
      r = was i row here

      m : (m : Origin) × (r.1.mail ≡ Some m) × (m.sender ≡ mail.sender)
      m = moved-sender chart.rows bare r.1.mail mail (r.5 ∙ is)

      either : (b : Bool) → (b || true) ≡ true
      either true = refl
      either false = refl

      used : uses mail.sender row ≡ true
      used = rw (is, same_actor-refl mail.sender) (either (same_actor mail.sender row.actor))

  pub kept-waiting-shown : ((j : ℕ) (task : WaitingTask) → slice_get chart.waiting j ≡ Some task → HasColumn chart (Core task.core)) → (i : ℕ) (task : WaitingTask) → slice_get kept.waiting i ≡ Some task
      → HasColumn kept (Core task.core)
  kept-waiting-shown task-shown i task here =
      let t = waits-there K chart (line_after K chart.shape 0 chart.rows + length (left_below K chart bare (line_after K chart.shape 0 chart.rows))) i task here in
      stays-shown (Core task.core) (subst (λ (c : CoreId). HasColumn chart (Core c)) t.3 (task-shown t.0 t.1 t.2))
      (used-by-task shown kept.rows kept.leaving kept.waiting (Core task.core) i task here (same_actor-refl (Core task.core)))

  module _ (S : State) (events : List Event) (end : ℕ) (row-shown : (j : ℕ) (row : ChartRow) → slice_get chart.rows j ≡ Some row → HasColumn chart row.actor) where
    -- the arrow of a mail that leaves begins at a row that is kept, which is its sender's
    pub kept-leaving-shown : ((j : ℕ) (row : ChartRow) → slice_get chart.rows j ≡ Some row → actor_at S events row.event ≡ Some row.actor)
        → ((j : ℕ) (mail : LeavingMail) → slice_get chart.leaving j ≡ Some mail → HasColumn chart mail.to) → (i : ℕ) (mail : LeavingMail) → slice_get kept.leaving i ≡ Some mail
        → LeavesWindow S events kept.rows end K.window mail → HasColumn kept mail.sender × HasColumn kept mail.to
    kept-leaving-shown acts to-shown i mail here leaves = (
      subst (λ (a : Actor). HasColumn kept a) sender (kept-row-shown row-shown row.0 row.1 row.2),
      stays-shown mail.to (handler-shown still (append-there (mails_behind K.window chart.rows) chart.leaving still.place still.mail still.there))
          (used-by-mail shown kept.rows kept.leaving kept.waiting mail.to i mail here (same_actor-refl mail.to)),
    )
      where
        sent-by : LeavesWindow S events kept.rows end K.window mail → (event : ℕ) × (actor_at S events event ≡ Some mail.sender) × (line_of_event event kept.rows ≡ Some mail.sent)
        sent-by (inl (event, id, left)) = (event, left.actor, left.line)
        sent-by (inr handled) = (handled.event, handled.actor, handled.line)

        from : (event : ℕ) × (actor_at S events event ≡ Some mail.sender) × (line_of_event event kept.rows ≡ Some mail.sent)
        from = sent-by leaves

        row : (j : ℕ) × (r : ChartRow) × (slice_get kept.rows j ≡ Some r) × (r.event ≡ from.0)
        row = row-of-line from.0 mail.sent kept.rows from.2

        r : (j : ℕ) × (r : ChartRow) × (slice_get chart.rows j ≡ Some r) × (r.event ≡ row.1.event) × (r.actor ≡ row.1.actor) × (moved_origin chart.rows bare r.mail ≡ row.1.mail)
        r = was row.0 row.1 row.2

        acted : actor_at S events from.0 ≡ Some row.1.actor
        acted = ap (actor_at S events) (sym (r.3 ∙ row.3)) ∙ acts r.0 r.1 r.2 ∙ ap (λ (a : Actor). Some a) r.4

        sender : row.1.actor ≡ mail.sender
        sender = same_Some row.1.actor mail.sender (sym acted ∙ from.1)

        still : IsStillLeft chart.rows bare (mails_behind K.window chart.rows ++ chart.leaving) mail
        still = still-left chart.rows bare (line_after K chart.shape 0 chart.rows) (mails_behind K.window chart.rows ++ chart.leaving) i mail here

        handler-shown : (s : IsStillLeft chart.rows bare (mails_behind K.window chart.rows ++ chart.leaving) mail)
            → ((j : ℕ) × (slice_get (mails_behind K.window chart.rows) j ≡ Some s.mail)) ⊎ ((j : ℕ) × (slice_get chart.leaving j ≡ Some s.mail)) → HasColumn chart mail.to
        handler-shown s (inl (j, at)) =
            let comes : ComesBehind K.window chart.rows s.mail = behind-there K.window chart.rows j s.mail at in
            subst (λ (a : Actor). HasColumn chart a) (comes.to ∙ s.to) (row-shown comes.place comes.row comes.here)
        handler-shown s (inr (j, at)) = subst (λ (a : Actor). HasColumn chart a) s.to (to-shown j s.mail at)
