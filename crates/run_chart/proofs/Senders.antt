-- Which events sent the mails of a run, and on which lines a drawing has noted them.
use Rattle.std.proofs.Common.{◌≡◌, ◌≢◌, ℕ, zero, suc, ◌+◌, ◌<◌, ◌≤◌, ◌==◌, Bool, true, false, cond, nat_lt, List, [], ◌∷◌, ◌++◌, length, take, drop, slice_get, Option, Some, None, refl, sym, ap, subst, ◌∙◌, arith}
use Rattle.std.proofs.lemmas.Bool.{eqb-true, eqb-false}
use Rattle.std.proofs.lemmas.Bool.Decides.{nat_tests}
use Rattle.std.proofs.lemmas.List.{take_all, get_or-drop, length-drop}
use Rattle.std.proofs.lemmas.List.Sums.{sum_by-cons}
use Rattle.std.proofs.lemmas.Option.{none-some, same_Some, slice_get_within, slice_get-get_or, get_or_from_slice_get}
use Rattle.message_net.specs.declared.actor.Actor.{Actor}
use Rattle.message_net.specs.declared.actor.Actor.TheVariants.{Core}
use Rattle.message_net.specs.declared.actor.MailId.{MailId}
use Rattle.message_net.specs.declared.event.Event.{Event}
use Rattle.message_net.specs.declared.event.Event.TheVariants.{Instr, Evict, Arrive, Handle}
use Rattle.message_net.specs.declared.message.Mail.{Mail}
use Rattle.message_net.specs.Id.{same_id}
use Rattle.message_net.specs.Pool.{of_id, count_of}
use Rattle.message_net.proofs.PoolLemmas.{found-counted, same_id-true}
use Rattle.registration_protocol.specs.Node.{Setting}
use Rattle.machine_rules.specs.State.{State, initial_state}
use Rattle.machine_rules.specs.Next.{next, enabled}
use Rattle.machine_rules.specs.Runs.{after, IsRun}
use Rattle.machine_rules.specs.Sound.{IsReady}
use Rattle.dn_machine.specs.Actors.{receiver_of, actor_in}
use Rattle.dn_machine.specs.Kept.{Made}
use Rattle.run_timing.specs.Depends.{state_at, actor_at, Sends, IsSender}
use Rattle.run_timing.proofs.OnRuns.{next-at, enabled-at, move-at}
use Rattle.run_timing.proofs.Timed.{HaveSenders, IsInFlight, no-mails, actor-here}
use Rattle.run_chart.specs.declared.parts.ChartRow.{ChartRow}
use Rattle.run_chart.specs.declared.parts.Origin.{Origin}
use Rattle.run_chart.specs.declared.drawing.Drawing.{Drawing}
use Rattle.run_chart.specs.declared.drawing.Range.{Range}
use Rattle.run_chart.specs.declared.mails.SentMail.{SentMail}
use Rattle.run_chart.specs.Arrows.{line_of_event, TellsSender, end_of_range}
use Rattle.run_chart.specs.Charts.{before, inside, drawn, drawn_behind}
use Rattle.run_chart.specs.Drawing.{the_actor, moved, row_of, with_row, with_rows, led_to, begun}
use Rattle.run_chart.specs.Mails.{noted_line, noted_mails, unknown_mails, AreNotedFor}
use Rattle.run_chart.proofs.Noted.{noted-none, noted-known, noted-ids, unknown-ids, none-past}
use Rattle.run_chart.proofs.RangeRows.{OfEach, no-row, one-more, run-first}

-- ---- the events of a range

-- the first events of a list, by how many they are
take-counted : (n : ℕ) (xs : List Event) → take (length (take n xs)) xs ≡ take n xs
take-counted zero xs = refl
take-counted (suc n) [] = refl
take-counted (suc n) (x ∷ xs) = ap (λ (l : List Event). x ∷ l) (take-counted n xs)

drop-counted : (n : ℕ) (xs : List Event) → drop (length (take n xs)) xs ≡ drop n xs
drop-counted zero xs = refl
drop-counted (suc n) [] = refl
drop-counted (suc n) (x ∷ xs) = drop-counted n xs

get-taken : (xs : List Event) (n k : ℕ) (x : Event) → slice_get (take n xs) k ≡ Some x → slice_get xs k ≡ Some x
get-taken xs zero k x here = absurd (none-some x here)
get-taken [] (suc n) k x here = absurd (none-some x here)
get-taken (y ∷ xs) (suc n) zero x here = here
get-taken (y ∷ xs) (suc n) (suc k) x here = get-taken xs n k x here

get-dropped : (xs : List Event) (n k : ℕ) (x : Event) → slice_get (drop n xs) k ≡ Some x → slice_get xs (n + k) ≡ Some x
get-dropped xs n k x here =
    let within = slice_get_within (drop n xs) k x here in
    slice_get-get_or xs (n + k) x (omega (arith, within, length-drop n xs))
    ∙ ap (λ (y : Event). Some y) (sym (get_or-drop n xs k x) ∙ get_or_from_slice_get (drop n xs) k x x here)

-- an event of the range, by its number in the run
in-range : (range : Range) (events : List Event) (k : ℕ) (e : Event) → slice_get (inside range events) k ≡ Some e → slice_get events (length (before range events) + k) ≡ Some e
in-range range events k e here =
    get-dropped events (length (before range events)) k e
    (subst (λ (l : List Event). slice_get l k ≡ Some e) (sym (drop-counted range.first events)) (get-taken (drop range.first events) range.most k e here))

-- the first events of a run lead to the state behind them
run-led : (m : Made) (es : List Event) → IsRun m.state es → (k : Made) × (led_to m es ≡ Some k) × (k.state ≡ after m.state es)
run-led m [] run = (m, refl, refl)
run-led m (e ∷ es) run = one (run-led (moved m e) es run.1) where
  one : (k : Made) × (led_to (moved m e) es ≡ Some k) × (k.state ≡ after (next m.state e) es) → (k : Made) × (led_to m (e ∷ es) ≡ Some k) × (k.state ≡ after m.state (e ∷ es))
  one (k, led, at) = (k, rw run.0 led, at)

run-behind : (S : State) (es : List Event) (n : ℕ) → IsRun S es → IsRun (after S (take n es)) (drop n es)
run-behind S es zero run = run
run-behind S [] (suc n) run = tt
run-behind S (e ∷ es) (suc n) run = run-behind (next S e) es n run.1

-- ---- lines of events

module _ (rows : List ChartRow) (last : ChartRow) where
  line-kept : (event : ℕ) → last.event ≢ event → line_of_event event (rows ++ last ∷ []) ≡ line_of_event event rows
  line-kept event other = each rows where
    each : (rs : List ChartRow) → line_of_event event (rs ++ last ∷ []) ≡ line_of_event event rs
    each [] = by_test (last.event == event) refl where
      by_test : (t : Bool) → (last.event == event) ≡ t → cond t (Some last.line) None ≡ None
      by_test true e = absurd (other (eqb-true last.event event e))
      by_test false e = refl
    each (r ∷ rs) = ap (λ (o : Option ℕ). cond (r.event == event) (Some r.line) o) (each rs)

  line-new : line_of_event last.event rows ≡ None → line_of_event last.event (rows ++ last ∷ []) ≡ Some last.line
  line-new none = each rows none where
    each : (rs : List ChartRow) → line_of_event last.event rs ≡ None → line_of_event last.event (rs ++ last ∷ []) ≡ Some last.line
    each [] none = let same : (last.event == last.event) ≡ true = grind (arith, nat_tests) in rw same refl
    each (r ∷ rs) none = by_test (r.event == last.event) none (each rs) where
      by_test : (t : Bool) → cond t (Some r.line) (line_of_event last.event rs) ≡ None → (line_of_event last.event rs ≡ None → line_of_event last.event (rs ++ last ∷ []) ≡ Some last.line)
          → cond t (Some r.line) (line_of_event last.event (rs ++ last ∷ [])) ≡ Some last.line
      by_test true none later = absurd (none-some r.line (sym none))
      by_test false none later = later none

-- each event from one number on, below another, has a row
abbrev pub HaveLines : List ChartRow → ℕ → ℕ → Type 0
HaveLines rows first end = (p : ℕ) → first ≤ p → p < end → (line : ℕ) × (line_of_event p rows ≡ Some line)

-- ---- lines of mails

-- of a mail that is in flight after an event what was noted before it is noted, or else the event's line
noted-flying : (mails : List Mail) (id : MailId) (line : Option ℕ) (sent : List SentMail) → 1 ≤ count_of id mails → noted_line id None (noted_mails mails line sent) ≡ noted_line id line sent
noted-flying [] id line sent some = absurd (omega (arith, some))
noted-flying (m ∷ ms) id line sent some = by_test (same_id m.id id) refl (noted-flying ms id line sent) where
  by_test : (t : Bool) → same_id m.id id ≡ t → (1 ≤ count_of id ms → noted_line id None (noted_mails ms line sent) ≡ noted_line id line sent)
      → cond t (noted_line m.id line sent) (noted_line id None (noted_mails ms line sent)) ≡ noted_line id line sent
  by_test true e rest = ap (λ (x : MailId). noted_line x line sent) (same_id-true m.id id e)
  by_test false e rest =
      let none_here : ◌≡◌ {A = ℕ} (cond (of_id id m) 1 0) 0 = rw e refl in
      rest (omega (arith, some, none_here, sum_by-cons (λ (x : Mail). cond (of_id id x) 1 0) m ms))

-- ---- senders

-- an event that may come has an actor
made-by : (S : State) (e : Event) → enabled S e ≡ true → (a : Actor) × (actor_in S e ≡ Some a)
unfolding enabled actor_in
made-by S (Instr core) may = (Core core, refl)
made-by S (Evict core word) may = (Core core, refl)
made-by S (Arrive core) may = (Core core, refl)
made-by S (Handle id) may =
    let found = found-counted id S.mails (grind (arith, nat_tests, may)) in
    (found.1.to, ap (λ (r : Option Mail × List Mail). receiver_of r.0) found.2.takes)

pub handle-may : (S : State) (id : MailId) → 1 ≤ count_of id S.mails → enabled S (Handle id) ≡ true
unfolding enabled
handle-may S id some = grind (arith, nat_tests, some)

handle-in-flight : (S : State) (id : MailId) → enabled S (Handle id) ≡ true → 1 ≤ count_of id S.mails
unfolding enabled
handle-in-flight S id may = grind (arith, nat_tests, may)

same-mail : (a b : MailId) → ◌≡◌ {A = Event} (Handle a) (Handle b) → a ≡ b
same-mail a b same = ap (λ (e : Event). id_of e) same where
  id_of : Event → MailId
  id_of (Handle id) = id
  id_of (Instr core) = a
  id_of (Evict core word) = a
  id_of (Arrive core) = a

module _ (C : Setting) (events : List Event) where
  -- how many mails with an id are in flight before event number n
  abbrev flying : ℕ → MailId → ℕ
  flying n id = count_of id (state_at (initial_state C) events n).mails

  -- every mail in flight was sent by an event, and is in flight since
  pub sent-since : (n : ℕ) → HaveSenders C events n
  sent-since zero id some = no-mails C events id some
  sent-since (suc n) id some = by_test (nat_lt 0 (flying n id)) refl (sent-since n id) where
    next_one : suc n ≡ n + 1
    next_one = omega arith

    still : (p : ℕ) → ((k : ℕ) → p < k → k < suc n → 1 ≤ flying k id) → IsInFlight C events id p (suc n)
    still p was k past most = by_last (k == suc n) refl where
      by_last : (t : Bool) → (k == suc n) ≡ t → 1 ≤ flying k id
      by_last true e = rw (eqb-true k (suc n) e) some
      by_last false e = was k past (grind (arith, nat_tests, e, most))

    by_test : (t : Bool) → nat_lt 0 (flying n id) ≡ t → (1 ≤ flying n id → (p : ℕ) × (p < n) × Sends (initial_state C) events p id × IsInFlight C events id p n)
        → (p : ℕ) × (p < suc n) × Sends (initial_state C) events p id × IsInFlight C events id p (suc n)
    by_test true e was =
        let old = was (grind (arith, nat_tests, e)) in
        (old.0, omega (arith, old.1), old.2, still old.0 (λ k past less. old.3 k past (omega (arith, less))))
    by_test false e was = (
      n,
      omega arith,
      record { absent = grind (arith, nat_tests, e); in_flight = subst (λ (k : ℕ). 1 ≤ flying k id) next_one some },
      still n (λ k past less. absurd (omega (arith, past, less))),
    )

  -- one event alone sent a mail that is in flight since
  one-sender : (n p q : ℕ) (id : MailId) → p < n → q < n → Sends (initial_state C) events p id → Sends (initial_state C) events q id → IsInFlight C events id p n → IsInFlight C events id q n → p ≡ q
  one-sender n p q id before before' sends sends' since since' = by_test (nat_lt p q) (nat_lt q p) refl refl where
    by_test : (t u : Bool) → nat_lt p q ≡ t → nat_lt q p ≡ u → p ≡ q
    by_test true u e f = absurd (omega (arith, sends'.absent, since q (grind (arith, nat_tests, e)) (omega (arith, before'))))
    by_test false true e f = absurd (omega (arith, sends.absent, since' p (grind (arith, nat_tests, f)) (omega (arith, before))))
    by_test false false e f = grind (arith, nat_tests, e, f)

module _ (C : Setting) (events : List Event) (ready : IsReady C) (run : IsRun (initial_state C) events) where
  -- the actor that sent a mail is the one of the event that sent it
  pub sender-acts : (p : ℕ) (id : MailId) → Sends (initial_state C) events p id → actor_at (initial_state C) events p ≡ Some id.sender
  sender-acts p id sends = by_event (slice_get events p) refl where
    by_event : (o : Option Event) → slice_get events p ≡ o → actor_at (initial_state C) events p ≡ Some id.sender
    by_event None e =
        let past = none-past events p e in
        let same : take (p + 1) events ≡ take p events = take_all (p + 1) events (omega (arith, past)) ∙ sym (take_all p events past) in
        let none : count_of id (state_at (initial_state C) events (p + 1)).mails ≡ 0 = subst (λ (l : List Event). count_of id (after (initial_state C) l).mails ≡ 0) (sym same) sends.absent in
        absurd (omega (arith, none, sends.in_flight))
    by_event (Some e) here =
        let made = made-by (state_at (initial_state C) events p) e (enabled-at (initial_state C) events p e run here) in
        let move = move-at C events p e made.0 ready run here made.1 in
        actor-here (initial_state C) events p e made.0 here made.1 ∙ ap (λ (a : Actor). Some a) (sym (move.sends id sends.absent sends.in_flight).0)

  -- what a drawing tells whose rows reach to event number n
  pub record IsDrawnTo (n : ℕ) (d : Drawing) : Type 0 where
    pub state : d.machine.state ≡ state_at (initial_state C) events n
    pub event : d.event ≡ n
    pub sent : AreNotedFor d.sent d.machine.state.mails
    pub later : (p : ℕ) → n ≤ p → line_of_event p d.rows ≡ None
    pub noted : (p : ℕ) (id : MailId) → p < n → Sends (initial_state C) events p id → IsInFlight C events id p n → noted_line id None d.sent ≡ line_of_event p d.rows
    pub below : OfEach (λ row. row.event < n) d.rows
    pub tells : OfEach (λ row. TellsSender (initial_state C) events d.rows row row.mail) d.rows
    pub acts : OfEach (λ row. actor_at (initial_state C) events row.event ≡ Some row.actor) d.rows

  begun-drawn : (n : ℕ) (m : Made) → m.state ≡ state_at (initial_state C) events n → IsDrawnTo n (begun m n)
  begun-drawn n m at =
      record {
        state = at;
        event = refl;
        sent = unknown-ids m.state.mails;
        later = λ p past. refl;
        noted = λ p id before sends since. unknown m.state.mails id;
        below = no-row (λ row. row.event < n);
        tells = no-row (λ row. TellsSender (initial_state C) events [] row row.mail);
        acts = no-row (λ row. actor_at (initial_state C) events row.event ≡ Some row.actor);
      }
    where
      unknown : (mails : List Mail) (id : MailId) → noted_line id None (unknown_mails mails) ≡ None
      unknown [] id = refl
      unknown (x ∷ xs) id = by_test (same_id x.id id) (unknown xs id) where
        by_test : (t : Bool) → noted_line id None (unknown_mails xs) ≡ None → cond t None (noted_line id None (unknown_mails xs)) ≡ None
        by_test true rest = refl
        by_test false rest = rest

  module _ (chain : List ℕ) (n : ℕ) (d : Drawing) (e : Event) (so_far : IsDrawnTo n d) (here : slice_get events n ≡ Some e) where
    may : enabled (state_at (initial_state C) events n) e ≡ true
    may = enabled-at (initial_state C) events n e run here

    next_is : next d.machine.state e ≡ state_at (initial_state C) events (n + 1)
    next_is = ap (λ (S : State). next S e) so_far.state ∙ sym (next-at (initial_state C) events n e here)

    here_too : slice_get events d.event ≡ Some e
    here_too = ap (λ (k : ℕ). slice_get events k) so_far.event ∙ here

    -- the event's own row tells where its mail comes from
    new-row : (x : Event) → e ≡ x → TellsSender (initial_state C) events d.rows (row_of chain d x) (row_of chain d x).mail
    new-row (Instr core) is = λ id other. not_handled (same_Some e (Handle id) (sym here_too ∙ other)) where
      not_handled : {id : MailId} → e ≡ Handle id → ⊥
      not_handled same = absurd (cc)
    new-row (Evict core word) is = λ id other. not_handled (same_Some e (Handle id) (sym here_too ∙ other)) where
      not_handled : {id : MailId} → e ≡ Handle id → ⊥
      not_handled same = absurd (cc)
    new-row (Arrive core) is = λ id other. not_handled (same_Some e (Handle id) (sym here_too ∙ other)) where
      not_handled : {id : MailId} → e ≡ Handle id → ⊥
      not_handled same = absurd (cc)
    new-row (Handle id) is =
        record {
          event = from.0;
          sends = subst (λ (k : ℕ). IsSender (initial_state C) events from.0 k) (sym so_far.event) sends;
          only = λ other o. only other (subst (λ (k : ℕ). IsSender (initial_state C) events other k) so_far.event o);
          actor = sender-acts from.0 id from.2;
          line = so_far.noted from.0 id from.1 from.2 from.3;
        }
      where
        from : (p : ℕ) × (p < n) × Sends (initial_state C) events p id × IsInFlight C events id p n
        from = sent-since C events n id (handle-in-flight (state_at (initial_state C) events n) id (subst (λ (x : Event). enabled (state_at (initial_state C) events n) x ≡ true) is may))

        sends : IsSender (initial_state C) events from.0 n
        sends = record { earlier = from.1; id = id; handled = here ∙ ap (λ (x : Event). Some x) is; sent = from.2; in_flight = from.3 }

        only : (other : ℕ) → IsSender (initial_state C) events other n → other ≡ from.0
        only other o =
            let same : o.id ≡ id = same-mail o.id id (same_Some (Handle o.id) e (sym o.handled ∙ here) ∙ is) in
            one-sender C events n other from.0 id o.earlier from.1 (subst (Sends (initial_state C) events other) same o.sent) from.2
            (subst (λ (x : MailId). IsInFlight C events x other n) same o.in_flight) from.3

    -- a row tells the same beside a later one
    row-kept : (row : ChartRow) → row.event < n → (o : Option Origin) → TellsSender (initial_state C) events d.rows row o → TellsSender (initial_state C) events (d.rows ++ row_of chain d e ∷ []) row o
    row-kept row less None tells = tells
    row-kept row less (Some mail) tells =
        record {
          event = tells.event;
          sends = tells.sends;
          only = tells.only;
          actor = tells.actor;
          line = tells.line ∙ sym (line-kept d.rows (row_of chain d e) tells.event (λ same. omega (arith, same, so_far.event, less, tells.sends.earlier)));
        }

    noted-more : (p : ℕ) (id : MailId) → p < n + 1 → Sends (initial_state C) events p id → IsInFlight C events id p (n + 1)
        → noted_line id None (noted_mails (next d.machine.state e).mails (Some d.line) d.sent) ≡ line_of_event p (d.rows ++ row_of chain d e ∷ [])
    noted-more p id less sends since = noted-flying (next d.machine.state e).mails id (Some d.line) d.sent flies ∙ by_test (p == n) refl where
      flies : 1 ≤ count_of id (next d.machine.state e).mails
      flies = subst (λ (S : State). 1 ≤ count_of id S.mails) (sym next_is) (since (n + 1) less (omega arith))

      by_test : (t : Bool) → (p == n) ≡ t → noted_line id (Some d.line) d.sent ≡ line_of_event p (d.rows ++ row_of chain d e ∷ [])
      by_test true same =
          let own : d.event ≡ p = so_far.event ∙ sym (eqb-true p n same) in
          let none : count_of id d.machine.state.mails ≡ 0 =
          subst (λ (S : State). count_of id S.mails ≡ 0) (sym so_far.state) (subst (λ (k : ℕ). count_of id (state_at (initial_state C) events k).mails ≡ 0) (eqb-true p n same) sends.absent)
          in
          noted-none d.sent d.machine.state.mails id (Some d.line) so_far.sent none
          ∙ sym (line-new d.rows (row_of chain d e) (so_far.later d.event (omega (arith, so_far.event))))
          ∙ ap (λ (k : ℕ). line_of_event k (d.rows ++ row_of chain d e ∷ [])) own
      by_test false other =
          let before : p < n = grind (arith, nat_tests, less, other) in
          let old : IsInFlight C events id p n = λ k past most. since k past (omega (arith, most)) in
          let flew : 1 ≤ count_of id d.machine.state.mails = subst (λ (S : State). 1 ≤ count_of id S.mails) (sym so_far.state) (old n before (omega arith)) in
          noted-known d.sent d.machine.state.mails id (Some d.line) None so_far.sent flew
          ∙ so_far.noted p id before sends old
          ∙ sym (line-kept d.rows (row_of chain d e) p (λ same. omega (arith, same, so_far.event, before)))

    one-row : IsDrawnTo (n + 1) (with_row chain d e)
    one-row =
        record {
          state = next_is;
          event = ap (λ (k : ℕ). k + 1) so_far.event;
          sent = noted-ids (next d.machine.state e).mails (Some d.line) d.sent;
          later = λ p past. line-kept d.rows (row_of chain d e) p (λ same. omega (arith, same, so_far.event, past)) ∙ so_far.later p (omega (arith, past));
          noted = noted-more;
          below = one-more (λ row. row.event < n + 1) d.rows (row_of chain d e) (λ i row at. omega (arith, so_far.below i row at)) (omega (arith, so_far.event));
          tells =
              one-more (λ row. TellsSender (initial_state C) events (d.rows ++ row_of chain d e ∷ []) row row.mail) d.rows (row_of chain d e)
              (λ i row at. row-kept row (so_far.below i row at) row.mail (so_far.tells i row at)) own_tells;
          acts = one-more (λ row. actor_at (initial_state C) events row.event ≡ Some row.actor) d.rows (row_of chain d e) so_far.acts own_acts;
        }
      where
        own_tells : TellsSender (initial_state C) events (d.rows ++ row_of chain d e ∷ []) (row_of chain d e) (row_of chain d e).mail
        own_tells = own (row_of chain d e).mail (new-row e refl) where
          own : (o : Option Origin) → TellsSender (initial_state C) events d.rows (row_of chain d e) o → TellsSender (initial_state C) events (d.rows ++ row_of chain d e ∷ []) (row_of chain d e) o
          own None tells = tells
          own (Some mail) tells =
              record {
                event = tells.event;
                sends = tells.sends;
                only = tells.only;
                actor = tells.actor;
                line = tells.line ∙ sym (line-kept d.rows (row_of chain d e) tells.event (λ same. omega (arith, same, tells.sends.earlier)));
              }

        made : (a : Actor) × (actor_in (state_at (initial_state C) events n) e ≡ Some a)
        made = made-by (state_at (initial_state C) events n) e may

        own_acts : actor_at (initial_state C) events d.event ≡ Some (the_actor (actor_in d.machine.state e))
        own_acts =
            ap (λ (k : ℕ). actor_at (initial_state C) events k) so_far.event
            ∙ actor-here (initial_state C) events n e made.0 here made.1
            ∙ ap (λ (o : Option Actor). Some (the_actor o)) (sym (ap (λ (S : State). actor_in S e) so_far.state ∙ made.1))

  more-rows : (chain : List ℕ) (n : ℕ) (d : Drawing) (es : List Event) → IsDrawnTo n d → ((k : ℕ) (e : Event) → slice_get es k ≡ Some e → slice_get events (n + k) ≡ Some e)
      → IsDrawnTo (n + length es) (with_rows chain d es)
  more-rows chain n d [] so_far there =
      let same : n ≡ n + 0 = omega arith in
      subst (λ (k : ℕ). IsDrawnTo k d) same so_far
  more-rows chain n d (e ∷ es) so_far there =
      rw may_come
      (subst (λ (k : ℕ). IsDrawnTo k (with_rows chain (with_row chain d e) es)) same (more-rows chain (n + 1) (with_row chain d e) es (one-row chain n d e so_far here) (λ k x at. later k x at)))
    where
      here : slice_get events n ≡ Some e
      here = let same : n + 0 ≡ n = omega arith in subst (λ (k : ℕ). slice_get events k ≡ Some e) same (there 0 e refl)

      may_come : enabled d.machine.state e ≡ true
      may_come = subst (λ (S : State). enabled S e ≡ true) (sym so_far.state) (enabled-at (initial_state C) events n e run here)

      later : (k : ℕ) (x : Event) → slice_get es k ≡ Some x → slice_get events (n + 1 + k) ≡ Some x
      later k x at = let next_one : n + suc k ≡ n + 1 + k = omega arith in subst (λ (i : ℕ). slice_get events i ≡ Some x) next_one (there (suc k) x at)

      same : n + 1 + length es ≡ n + length (e ∷ es)
      same = omega arith

  -- each event that is drawn has a row
  lines-more : (chain : List ℕ) (first n : ℕ) (d : Drawing) (es : List Event) → IsRun d.machine.state es → d.event ≡ n → ((p : ℕ) → n ≤ p → line_of_event p d.rows ≡ None) → HaveLines d.rows first n
      → HaveLines (with_rows chain d es).rows first (n + length es)
  lines-more chain first n d [] may number later lines = λ p past less. lines p past (omega (arith, less))
  lines-more chain first n d (e ∷ es) may number later lines =
      rw may.0
      (λ p past less.
      lines-more chain first (n + 1) (with_row chain d e) es may.1 (ap (λ (k : ℕ). k + 1) number)
      (λ q beyond. line-kept d.rows (row_of chain d e) q (λ same. omega (arith, same, number, beyond)) ∙ later q (omega (arith, beyond))) one p past (omega (arith, less)))
    where
      one : HaveLines (d.rows ++ row_of chain d e ∷ []) first (n + 1)
      one p past less = by_test (d.event == p) refl where
        by_test : (t : Bool) → (d.event == p) ≡ t → (line : ℕ) × (line_of_event p (d.rows ++ row_of chain d e ∷ []) ≡ Some line)
        by_test true e' =
            let same = eqb-true d.event p e' in
            (d.line, ap (λ (k : ℕ). line_of_event k (d.rows ++ row_of chain d e ∷ [])) (sym same) ∙ line-new d.rows (row_of chain d e) (later d.event (omega (arith, number))))
        by_test false e' =
            let old = lines p past (grind (arith, nat_tests, e', less, number)) in
            (old.0, line-kept d.rows (row_of chain d e) p (eqb-false d.event p e') ∙ old.1)

  -- what is drawn of a range of the run
  pub whole-range : (range : Range) (chain : List ℕ)
      → (d : Drawing) × (drawn (record { state = initial_state C; made = 0 }) range chain events ≡ Some d) × IsDrawnTo (end_of_range range events) d
      × HaveLines d.rows (length (before range events)) (end_of_range range events)
  whole-range range chain = (d, is, reaches, lines) where
    m : Made
    m = record { state = initial_state C; made = 0 }

    from : ℕ
    from = length (before range events)

    led : (k : Made) × (led_to m (before range events) ≡ Some k) × (k.state ≡ after m.state (before range events))
    led = run-led m (before range events) (run-first m.state events range.first run)

    d : Drawing
    d = with_rows chain (begun led.0 from) (inside range events)

    is : drawn m range chain events ≡ Some d
    is = ap (λ (o : Option Made). drawn_behind chain from (inside range events) o) led.1

    at : led.0.state ≡ state_at (initial_state C) events from
    at = led.2 ∙ ap (λ (l : List Event). after (initial_state C) l) (sym (take-counted range.first events))

    reaches : IsDrawnTo (end_of_range range events) d
    reaches = more-rows chain from (begun led.0 from) (inside range events) (begun-drawn from led.0 at) (in-range range events)

    inside_run : IsRun led.0.state (inside range events)
    inside_run = run-first led.0.state (drop range.first events) range.most (subst (λ (S : State). IsRun S (drop range.first events)) (sym led.2) (run-behind m.state events range.first run))

    lines : HaveLines d.rows from (end_of_range range events)
    lines = lines-more chain from from (begun led.0 from) (inside range events) inside_run refl (λ p past. refl) (λ p past less. absurd (omega (arith, past, less)))
