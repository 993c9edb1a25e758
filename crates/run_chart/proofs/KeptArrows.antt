-- The arrows of what a chart keeps: what holds of those of its range, with "of the range" read as "of those kept".
use Rattle.std.proofs.Common.{◌≡◌, ◌⊎◌, inl, inr, ℕ, zero, suc, ◌+◌, Bool, true, false, List, [], ◌∷◌, ◌++◌, slice_get, Option, Some, None, if◌then◌else◌, refl, sym, ap, subst, ◌∙◌, arith}
use Rattle.std.proofs.lemmas.Option.{none-some, same_Some}
use Rattle.dn_base.specs.declared.ids.Shape.{Shape}
use Rattle.message_net.specs.declared.event.Event.{Event}
use Rattle.machine_rules.specs.State.{State}
use Rattle.run_chart.specs.declared.parts.ChartRow.{ChartRow}
use Rattle.run_chart.specs.declared.parts.LeavingMail.{LeavingMail}
use Rattle.run_chart.specs.declared.parts.Origin.{Origin}
use Rattle.run_chart.specs.declared.keeping.Keeping.{Keeping}
use Rattle.run_timing.specs.Depends.{actor_at}
use Rattle.run_chart.specs.declared.keeping.Window.{Window}
use Rattle.run_chart.specs.Arrows.{ComesFromSender, LeavesFromSender, TellsSender}
use Rattle.run_chart.specs.Windows.{IsHandledBehind, LeavesWindow}
use Rattle.run_chart.specs.Keeping.{comes_behind, left_by, left_from, mail_behind, mail_from, handled_mail, mails_behind, moved_from, moved_line, moved_origin, row_from, rows_from, with_handled, with_origin, with_origins}
use Rattle.run_chart.proofs.KeptRows.{arrow-moves, kept-from, map-there, AreBelow, IsKeptFrom}

-- a mail that leaves is one of those that did, from the line that its sender's row has now
pub record IsStillLeft (whole kept : List ChartRow) (mails : List LeavingMail) (left : LeavingMail) : Type 0 where
  pub place : ℕ
  pub mail : LeavingMail
  pub there : slice_get mails place ≡ Some mail
  pub moved : moved_line whole kept mail.sent ≡ Some left.sent
  pub sender : mail.sender ≡ left.sender
  pub to : mail.to ≡ left.to

still-later : (whole kept : List ChartRow) (first : LeavingMail) (mails : List LeavingMail) (left : LeavingMail) → IsStillLeft whole kept mails left → IsStillLeft whole kept (first ∷ mails) left
still-later whole kept first mails left still =
    record { place = suc still.place; mail = still.mail; there = still.there; moved = still.moved; sender = still.sender; to = still.to }

pub still-left : (whole kept : List ChartRow) (line : ℕ) (mails : List LeavingMail) (i : ℕ) (left : LeavingMail) → slice_get (left_from whole kept line mails) i ≡ Some left → IsStillLeft whole kept mails left
still-left whole kept line [] i left here = absurd (none-some left here)
still-left whole kept line (mail ∷ mails) i left here = by_line (moved_line whole kept mail.sent) refl (λ next j at. still-left whole kept next mails j left at) i here where
  by_line : (o : Option ℕ) → moved_line whole kept mail.sent ≡ o → ((next j : ℕ) → slice_get (left_from whole kept next mails) j ≡ Some left → IsStillLeft whole kept mails left) → (i : ℕ)
      → slice_get (left_by line o mail (λ next. left_from whole kept next mails)) i ≡ Some left → IsStillLeft whole kept (mail ∷ mails) left
  by_line None e rest i here = still-later whole kept mail mails left (rest line i here)
  by_line (Some sent) e rest zero here =
      let is = same_Some (record mail { sent = sent; line = line }) left here in
      record {
        place = 0;
        mail = mail;
        there = refl;
        moved = e ∙ ap (λ (x : LeavingMail). Some x.sent) is;
        sender = ap (λ (x : LeavingMail). x.sender) is;
        to = ap (λ (x : LeavingMail). x.to) is;
      }
  by_line (Some sent) e rest (suc i) here = still-later whole kept mail mails left (rest (line + 1) i here)

-- each stands on a line of its own
pub left-line : (whole kept : List ChartRow) (line : ℕ) (mails : List LeavingMail) (i : ℕ) (left : LeavingMail) → slice_get (left_from whole kept line mails) i ≡ Some left → left.line ≡ line + i
left-line whole kept line [] i left here = absurd (none-some left here)
left-line whole kept line (mail ∷ mails) i left here = by_line (moved_line whole kept mail.sent) (λ next j at. left-line whole kept next mails j left at) i here where
  by_line : (o : Option ℕ) → ((next j : ℕ) → slice_get (left_from whole kept next mails) j ≡ Some left → left.line ≡ next + j) → (i : ℕ)
      → slice_get (left_by line o mail (λ next. left_from whole kept next mails)) i ≡ Some left → left.line ≡ line + i
  by_line None rest i here = rest line i here
  by_line (Some sent) rest zero here = let is : line ≡ left.line = ap (λ (x : LeavingMail). x.line) (same_Some (record mail { sent = sent; line = line }) left here) in omega (arith, is)
  by_line (Some sent) rest (suc i) here = let is : left.line ≡ line + 1 + i = rest (line + 1) i here in omega (arith, is)

-- ---- the mails that events behind the window handle

-- what stands in two lists, one behind the other, stands in one of them
pub append-there : {X : Type 0} (xs ys : List X) (i : ℕ) (x : X) → slice_get (xs ++ ys) i ≡ Some x → ((j : ℕ) × (slice_get xs j ≡ Some x)) ⊎ ((j : ℕ) × (slice_get ys j ≡ Some x))
append-there [] ys i x here = inr (i, here)
append-there (y ∷ xs) ys zero x here = inl (0, here)
append-there (y ∷ xs) ys (suc i) x here = later (append-there xs ys i x here) where
  later : ((j : ℕ) × (slice_get xs j ≡ Some x)) ⊎ ((j : ℕ) × (slice_get ys j ≡ Some x)) → ((j : ℕ) × (slice_get (y ∷ xs) j ≡ Some x)) ⊎ ((j : ℕ) × (slice_get ys j ≡ Some x))
  later (inl (j, at)) = inl (suc j, at)
  later (inr (j, at)) = inr (j, at)

-- the row of the event behind the window that handles a mail
pub record ComesBehind (window : Option Window) (rows : List ChartRow) (mail : LeavingMail) : Type 0 where
  pub place : ℕ
  pub row : ChartRow
  pub origin : Origin
  pub here : slice_get rows place ≡ Some row
  pub behind : comes_behind window row.event ≡ true
  pub is : row.mail ≡ Some origin
  pub sender : origin.sender ≡ mail.sender
  pub sent : origin.line ≡ Some mail.sent
  pub to : row.actor ≡ mail.to

behind-later : (window : Option Window) (first : ChartRow) (rows : List ChartRow) (mail : LeavingMail) → ComesBehind window rows mail → ComesBehind window (first ∷ rows) mail
behind-later window first rows mail comes =
    record {
      place = suc comes.place;
      row = comes.row;
      origin = comes.origin;
      here = comes.here;
      behind = comes.behind;
      is = comes.is;
      sender = comes.sender;
      sent = comes.sent;
      to = comes.to;
    }

behind-here : (window : Option Window) (row : ChartRow) (rows : List ChartRow) (mail : LeavingMail) → mail_behind window row ≡ Some mail → ComesBehind window (row ∷ rows) mail
behind-here window row rows mail is = by_test (comes_behind window row.event) refl is where
  by_line : comes_behind window row.event ≡ true → (origin : Origin) → row.mail ≡ Some origin → (l : Option ℕ) → origin.line ≡ l → mail_from row origin.sender l ≡ Some mail → ComesBehind window (row ∷ rows) mail
  by_line e origin f None g is = absurd (none-some mail is)
  by_line e origin f (Some sent) g is =
      let same = same_Some (record { sender = origin.sender; sent = sent; to = row.actor; kind = row.kind; about = row.about; line = 0 }) mail is in
      record {
        place = 0;
        row = row;
        origin = origin;
        here = refl;
        behind = e;
        is = f;
        sender = ap (λ (x : LeavingMail). x.sender) same;
        sent = g ∙ ap (λ (x : LeavingMail). Some x.sent) same;
        to = ap (λ (x : LeavingMail). x.to) same;
      }

  by_origin : comes_behind window row.event ≡ true → (o : Option Origin) → row.mail ≡ o → handled_mail row o ≡ Some mail → ComesBehind window (row ∷ rows) mail
  by_origin e None f is = absurd (none-some mail is)
  by_origin e (Some origin) f is = by_line e origin f origin.line refl is

  by_test : (t : Bool) → comes_behind window row.event ≡ t → (if t then handled_mail row row.mail else None) ≡ Some mail → ComesBehind window (row ∷ rows) mail
  by_test true e is = by_origin e row.mail refl is
  by_test false e is = absurd (none-some mail is)

pub behind-there : (window : Option Window) (rows : List ChartRow) (i : ℕ) (mail : LeavingMail) → slice_get (mails_behind window rows) i ≡ Some mail → ComesBehind window rows mail
behind-there window [] i mail here = absurd (none-some mail here)
behind-there window (row ∷ rows) i mail here = by_mail (mail_behind window row) refl (λ j at. behind-there window rows j mail at) i here where
  by_mail : (o : Option LeavingMail) → mail_behind window row ≡ o → ((j : ℕ) → slice_get (mails_behind window rows) j ≡ Some mail → ComesBehind window rows mail) → (i : ℕ)
      → slice_get (with_handled o (mails_behind window rows)) i ≡ Some mail → ComesBehind window (row ∷ rows) mail
  by_mail None e rest i here = behind-later window row rows mail (rest i here)
  by_mail (Some m) e rest zero here = behind-here window row rows mail (e ∙ here)
  by_mail (Some m) e rest (suc i) here = behind-later window row rows mail (rest i here)

module _ (S : State) (events : List Event) (K : Keeping) (shape : Shape) (whole : List ChartRow) (below : AreBelow whole) where
  abbrev kept : List ChartRow
  kept = rows_from K shape 0 whole

  abbrev drawn : List ChartRow
  drawn = with_origins whole kept

  tells-moved : (row : ChartRow) (line : ℕ) (o : Option Origin) → TellsSender S events whole row o → TellsSender S events drawn (with_origin whole kept (row_from K.words line row)) (moved_origin whole kept o)
  tells-moved row line None tells = tells
  tells-moved row line (Some mail) tells =
      record {
        event = tells.event;
        sends = tells.sends;
        only = tells.only;
        actor = tells.actor;
        line = ap (moved_from whole kept) tells.line ∙ arrow-moves K shape tells.event whole below;
      }

  pub rows-tell-kept : ((j : ℕ) (row : ChartRow) → slice_get whole j ≡ Some row → TellsSender S events whole row row.mail) → (i : ℕ) (row : ChartRow) → slice_get drawn i ≡ Some row → TellsSender S events drawn row row.mail
  rows-tell-kept tell i row here =
      let placed = map-there (with_origin whole kept) kept i row here in
      let from : IsKeptFrom K shape whole placed.0 = kept-from K shape 0 whole i placed.0 placed.1 in
      subst (λ (x : ChartRow). TellsSender S events drawn x x.mail) placed.2
      (subst (λ (x : ChartRow). TellsSender S events drawn (with_origin whole kept x) (moved_origin whole kept x.mail)) from.is
      (tells-moved from.row from.line from.row.mail (tell from.place from.row from.here)))

  leaves-moved : (end : ℕ) (mail left : LeavingMail) → moved_line whole kept mail.sent ≡ Some left.sent → mail.sender ≡ left.sender → mail.to ≡ left.to → LeavesFromSender S events whole end mail
      → LeavesFromSender S events drawn end left
  leaves-moved end mail left moved sender to (event, id, leaves) = (
    event,
    id,
    record {
      sends = leaves.sends;
      in_flight = leaves.in_flight;
      actor = leaves.actor ∙ ap (λ a. Some a) sender;
      line = sym (arrow-moves K shape event whole below) ∙ ap (moved_from whole kept) leaves.line ∙ moved;
      handler = leaves.handler ∙ ap (λ a. Some a) to;
    },
  )

  module _ (tell : (j : ℕ) (row : ChartRow) → slice_get whole j ≡ Some row → TellsSender S events whole row row.mail)
      (act : (j : ℕ) (row : ChartRow) → slice_get whole j ≡ Some row → actor_at S events row.event ≡ Some row.actor) where
    handled-behind : (mail left : LeavingMail) → moved_line whole kept mail.sent ≡ Some left.sent → mail.sender ≡ left.sender → mail.to ≡ left.to → ComesBehind K.window whole mail
        → IsHandledBehind S events drawn K.window left
    handled-behind mail left moved sender to comes =
        let from : ComesFromSender S events whole comes.row comes.origin = subst (λ (o : Option Origin). TellsSender S events whole comes.row o) comes.is (tell comes.place comes.row comes.here) in
        record {
          event = from.event;
          handler = comes.row.event;
          behind = comes.behind;
          sends = from.sends;
          actor = from.actor ∙ ap (λ a. Some a) (comes.sender ∙ sender);
          line = sym (arrow-moves K shape from.event whole below) ∙ ap (moved_from whole kept) (sym from.line ∙ comes.sent) ∙ moved;
          handles = act comes.place comes.row comes.here ∙ ap (λ a. Some a) (comes.to ∙ to);
        }

    pub mails-leave-kept : (end line : ℕ) (mails : List LeavingMail) → ((j : ℕ) (mail : LeavingMail) → slice_get mails j ≡ Some mail → LeavesFromSender S events whole end mail) → (i : ℕ) (left : LeavingMail)
        → slice_get (left_from whole kept line (mails_behind K.window whole ++ mails)) i ≡ Some left → LeavesWindow S events drawn end K.window left
    mails-leave-kept end line mails leave i left here = by_list still (append-there (mails_behind K.window whole) mails still.place still.mail still.there) where
      still : IsStillLeft whole kept (mails_behind K.window whole ++ mails) left
      still = still-left whole kept line (mails_behind K.window whole ++ mails) i left here

      by_list : (s : IsStillLeft whole kept (mails_behind K.window whole ++ mails) left)
          → ((j : ℕ) × (slice_get (mails_behind K.window whole) j ≡ Some s.mail)) ⊎ ((j : ℕ) × (slice_get mails j ≡ Some s.mail)) → LeavesWindow S events drawn end K.window left
      by_list s (inl (j, at)) = inr (handled-behind s.mail left s.moved s.sender s.to (behind-there K.window whole j s.mail at))
      by_list s (inr (j, at)) = inl (leaves-moved end s.mail left s.moved s.sender s.to (leave j s.mail at))
