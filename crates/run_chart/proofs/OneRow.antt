-- One row more.
use Rattle.std.proofs.Common.{◌≡◌, ℕ, ◌+◌, ◌*◌, ◌<◌, ◌≤◌, Bool, List, [], ◌∷◌, ◌++◌, length, map, drop, get_or, Option, Some, None, refl, sym, ap, subst, ◌∙◌, arith, length-append}
use Rattle.std.proofs.lemmas.List.{at_drop_more}
use Rattle.message_net.specs.declared.actor.Actor.{Actor}
use Rattle.message_net.specs.declared.event.Event.{Event}
use Rattle.machine_rules.specs.State.{State}
use Rattle.machine_rules.specs.Next.{next}
use Rattle.machine_rules.specs.Sound.{IsMachine}
use Rattle.dn_machine.specs.Kept.{Made}
use Rattle.rv_core.specs.declared.task.End.{End}
use Rattle.run_chart.specs.declared.parts.ChartRow.{ChartRow}
use Rattle.run_chart.specs.Picture.{end_lines}
use Rattle.run_chart.specs.declared.states.WordChange.{WordChange}
use Rattle.run_chart.specs.declared.drawing.Drawing.{Drawing}
use Rattle.run_chart.specs.declared.drawing.Look.{Look}
use Rattle.run_chart.specs.declared.mails.SentMail.{SentMail}
use Rattle.run_chart.specs.declared.words.HeldWord.{HeldWord}
use Rattle.run_chart.specs.Drawing.{event_maker, row_by, row_of, row_with, with_row, with_rows, IsLookBefore, HasRow, IsNextRow}
use Rattle.run_chart.specs.Mails.{noted_mails, place_handled, mails_left, sent_on, AreNotedFor}
use Rattle.run_chart.specs.Marks.{is_on_chain}
use Rattle.run_chart.specs.Words.{word_state, changes_among, changes_in, held_words}
use Rattle.run_chart.proofs.Among.{among-all, few-changes}
use Rattle.run_chart.proofs.Noted.{noted-ids}
use Rattle.run_chart.proofs.Flown.{kept-is-noted}

-- what is noted after an event that handled the mail at a place and led to a machine
abbrev pub noted_after : Drawing → Made → Option ℕ → List SentMail
noted_after d n place = mails_left place d.sent ++ map (sent_on (Some d.line)) (drop (length (mails_left place d.sent)) n.state.mails)

-- the drawing d with a row more
abbrev pub with_this : Drawing → Made → Option ℕ → ChartRow → Drawing
with_this d n place row =
    record {
      machine = n;
      sent = noted_after d n place;
      event = d.event + 1;
      line = d.line + row.lines;
      rows = d.rows ++ row ∷ [];
    }

-- the changes of the words that were looked at are all changes
changes-are : (S : State) (sent : List SentMail) (e : Event) (look : Look) → IsMachine S → IsLookBefore S sent e look
    → changes_among (word_state (next S e) look.actor) look.held ≡ changes_in S (next S e) (event_maker S e)
changes-are S sent e look good seen =
    ap (λ (h : List HeldWord). changes_among (word_state (next S e) look.actor) h) seen.held.are
    ∙ ap (λ (a : Actor). changes_among (word_state (next S e) a) (held_words S a seen.held.words)) seen.actor
    ∙ among-all S e seen.held.words good seen.held.gathered

-- the row that is made by what was looked at is the event's
row-is : (S : State) (sent : List SentMail) (e : Event) (look : Look) (number line : ℕ) (mark : Bool) (m : Made) → m.state ≡ S → IsMachine S → IsLookBefore S sent e look
    → row_with S e look number line mark ≡ row_by m sent e number line mark
row-is S sent e look number line mark m same good seen =
    rw (changes-are S sent e look good seen, seen.actor, seen.about, seen.need, seen.phase, seen.mail, seen.end, same) refl

module _ (d : Drawing) (e : Event) (look : Look) (n : Made) (row : ChartRow) (mark : Bool) where
  is-next : (chain : List ℕ) → IsMachine d.machine.state → AreNotedFor d.sent d.machine.state.mails → IsLookBefore d.machine.state d.sent e look → HasRow d.machine n e look d.event d.line mark row
      → mark ≡ is_on_chain chain d.event → with_this d n look.place row ≡ with_row chain d e
  is-next chain good same seen came marked =
      let S = d.machine.state in
      let flying : noted_after d n look.place ≡ noted_mails (next S e).mails (Some d.line) d.sent =
      ap (λ (p : Option ℕ). noted_after d n p) seen.place ∙ ap (λ (x : Made). noted_after d x (place_handled S.mails e)) came.moves ∙ kept-is-noted S e d.sent (Some d.line) good same
      in
      let row_is : row ≡ row_of chain d e =
      came.is ∙ row-is S d.sent e look d.event d.line mark d.machine refl good seen ∙ ap (λ (b : Bool). row_by d.machine d.sent e d.event d.line b) marked
      in
      rw (flying, row_is, came.moves) refl

  pub next-row : (f : Drawing) → IsMachine d.machine.state → AreNotedFor d.sent d.machine.state.mails → IsLookBefore d.machine.state d.sent e look → HasRow d.machine n e look d.event d.line mark row
      → d.line ≤ 65538 * length d.rows → row.lines ≤ 65538 → f ≡ with_this d n look.place row → IsNextRow mark d f e
  next-row f good same seen came lines tall is =
      record {
        may = came.may;
        is = λ chain marked. is ∙ is-next chain good same seen came marked;
        made = ap (λ (x : Drawing). x.machine.made) is ∙ ap (λ (x : Made). x.made) came.moves;
        event = ap (λ (x : Drawing). x.event) is;
        rows = ap (λ (x : Drawing). length x.rows) is ∙ length-append d.rows (row ∷ []) ∙ omega arith;
        line = subst (λ (x : Drawing). x.line ≤ 65538 * length x.rows) (sym is) (omega (arith, lines, tall, length-append d.rows (row ∷ [])));
        sent = subst (λ (x : Drawing). AreNotedFor x.sent x.machine.state.mails) (sym is) in_step;
      }
    where
      S : State
      S = d.machine.state

      flying : noted_after d n look.place ≡ noted_mails (next S e).mails (Some d.line) d.sent
      flying = ap (λ (p : Option ℕ). noted_after d n p) seen.place ∙ ap (λ (x : Made). noted_after d x (place_handled S.mails e)) came.moves ∙ kept-is-noted S e d.sent (Some d.line) good same

      in_step : AreNotedFor (noted_after d n look.place) n.state.mails
      in_step =
          let noted : AreNotedFor (noted_mails (next S e).mails (Some d.line) d.sent) (next S e).mails = noted-ids (next S e).mails (Some d.line) d.sent in
          let mails : n.state.mails ≡ (next S e).mails = ap (λ (x : Made). x.state.mails) came.moves in
          rw (flying, mails) noted

-- and they are few
pub few-among : (S : State) (sent : List SentMail) (e : Event) (look : Look) → IsMachine S → length S.setting.program.memory ≤ 65536 → IsLookBefore S sent e look
    → length (changes_among (word_state (next S e) look.actor) look.held) ≤ 65536
few-among S sent e look good small seen =
    subst (λ (l : List WordChange). length l ≤ 65536) (sym (changes-are S sent e look good seen)) (few-changes S (next S e) (event_maker S e) small)

end-most : (o : Option End) → end_lines o ≤ 1
end-most None = omega arith
end-most (Some by) = omega arith

pub few-lines : (S : State) (sent : List SentMail) (e : Event) (look : Look) (event line : ℕ) (mark : Bool) (row : ChartRow) → IsMachine S → length S.setting.program.memory ≤ 65536 → IsLookBefore S sent e look → row ≡ row_with S e look event line mark
    → row.lines ≤ 65538
few-lines S sent e look event line mark row good small seen is =
    subst (λ (n : ℕ). n ≤ 65538) (sym (ap (λ (r : ChartRow). r.lines) is)) (omega (arith, end-most look.end, few-among S sent e look good small seen))

-- the rows of one event more of a list
pub rows-step : (chain : List ℕ) (d f : Drawing) (es : List Event) (i : ℕ) (other : Event) (whole : Drawing) (mark : Bool) → i < length es → IsNextRow mark d f (get_or es i other)
    → mark ≡ is_on_chain chain d.event → with_rows chain d (drop i es) ≡ whole → with_rows chain f (drop (i + 1) es) ≡ whole
rows-step chain d f es i other whole mark within row marked so_far =
    let e = get_or es i other in
    let step : with_rows chain d (drop i es) ≡ with_rows chain d (e ∷ drop (i + 1) es) = at_drop_more (λ (l : List Event). with_rows chain d l) es i other within in
    let on : with_rows chain d (e ∷ drop (i + 1) es) ≡ with_rows chain (with_row chain d e) (drop (i + 1) es) = rw row.may refl in
    ap (λ (x : Drawing). with_rows chain x (drop (i + 1) es)) (row.is chain marked) ∙ sym on ∙ sym step ∙ so_far
