-- What stands in front of a document, where its parts stand there; and a document's own front.
use Rattle.std.proofs.Common.{◌≡◌, inl, inr, ⊎_elim, ℕ, ◌+◌, ◌≤◌, List, [], ◌∷◌, ◌++◌, length, codes, Result, Ok, Err, refl, sym, ap, ◌∙◌, arith}
use Rattle.std.proofs.lemmas.List.{append_cancel_left}
use Rattle.text_pieces.specs.Pieces.{newline}
use Rattle.text_pieces.specs.Field.{field, IsFrom, Stands}
use Rattle.text_pieces.specs.Parts.{source_part}
use Rattle.run_replay.specs.declared.trace.TraceShape.{TraceShape}
use Rattle.run_replay.specs.declared.trace.Trace.{Trace}
use Rattle.run_replay.specs.declared.trace.TraceFault.{TraceFault}
use Rattle.run_replay.specs.declared.trace.TraceFault.TheVariants.{TooLarge, Head as NoHead, Line, Rest, Memory as NoMemory}
use Rattle.run_replay.specs.Document.{title, shape_line, IsTraceShape, Head, IsHead, head_of, head_text, event_lines, IsDocument}
use Rattle.run_replay.specs.Faults.{HasFault}
use Rattle.run_replay.proofs.Forms.{shape-one, head-parts, head-one, count-from}
use Rattle.run_replay.proofs.Single.{refuses}
use Rattle.explained_answer.specs.declared.taken.Taken.{Taken}
use Rattle.explained_answer.specs.declared.taken.Taken as taken
use Rattle.explained_answer.specs.Fronts.{line_behind}
use Rattle.explained_answer.specs.Trace.{IsTraceOf, HasNoShape, HasOtherText, HasNoCount, GoesWrongAt, IsTraceTaken, StandsHead, taken_by}

-- ---- the head that stands there

pub head-stands : (text answer bytes at_text at_count rest : List ℕ) (shape : TraceShape) (count : ℕ) → length text ≤ 1048576 → answer ≡ title ++ bytes
    → Stands IsTraceShape shape_line bytes shape at_text → at_text ≡ source_part text ++ at_count → Stands (IsFrom 0 25169664) (field (codes "events ") (10 ∷ [])) at_count count rest
    → StandsHead text answer count
head-stands text answer bytes at_text at_count rest shape count short first second third last =
    let h : Head = record { shape = shape; text = text; count = count } in
    record {
      head = h;
      fits = record { shape = second.fits; text = short; count = last.fits.high };
      of = refl;
      many = refl;
      rest = rest;
      parts =
          first
          ∙ ap (λ bs. title ++ bs)
          (second.parts ∙ ap (λ bs. shape_line shape ++ bs) (third ∙ ap (λ bs. source_part text ++ bs) last.parts))
          ∙ sym (head-parts h rest);
    }

module _ (text answer : List ℕ) (count : ℕ) (stands : StandsHead text answer count) where
  same : (g : Head) (q : List ℕ) → IsHead g → answer ≡ head_text g ++ q → g ≡ stands.head
  same g q fits parts = (head-one g stands.head q stands.rest fits stands.fits (sym parts ∙ stands.parts)).0

  same-text : (g : Head) (q : List ℕ) → IsHead g → answer ≡ head_text g ++ q → g.text ≡ text
  same-text g q fits parts = ap (λ (h : Head). h.text) (same g q fits parts) ∙ stands.of

  same-count : (g : Head) (q : List ℕ) → IsHead g → answer ≡ head_text g ++ q → g.count ≡ count
  same-count g q fits parts = ap (λ (h : Head). h.count) (same g q fits parts) ∙ stands.many

  pub whole-taken : (t : Trace) → IsDocument answer t → IsTraceTaken text answer taken.TheVariants.Whole
  whole-taken t doc = (t, record { is = doc; of = same-text (head_of t) (event_lines t.events) doc.told.head doc.is })

  pub event-stops : (first number line : ℕ) → first ≡ 3 + line_behind (source_part text) → line ≡ first + number → HasFault answer (Line number)
      → IsTraceTaken text answer (taken.TheVariants.Stops line)
  event-stops first number line at is broken =
      inr (inr (inr (inl (record {
        number = number;
        broken = broken;
        of = same-text broken.head _ broken.begins.head broken.begins.parts;
        line_is = omega (arith, at, is);
      }))))

  pub rest-stops : (first line : ℕ) → first ≡ 3 + line_behind (source_part text) → line ≡ first + count → HasFault answer Rest
      → IsTraceTaken text answer (taken.TheVariants.Stops line)
  rest-stops first line at is more =
      inr (inr (inr (inr (record {
        more = more;
        of = same-text more.head _ more.begins.head more.begins.parts;
        line_is = omega (arith, at, is, same-count more.head _ more.begins.head more.begins.parts);
      }))))

  pub head-there : HasFault answer NoHead → ⊥
  head-there fault = fault.1 stands.head stands.rest (record { fits = stands.fits; parts = stands.parts })

  pub fault-taken : (first : ℕ) (f : TraceFault) → first ≡ 3 + line_behind (source_part text) → HasFault answer f → IsTraceTaken text answer (taken_by count first f)
  fault-taken first TooLarge at fault = inr fault
  fault-taken first NoHead at fault = absurd (head-there fault)
  fault-taken first (Line number) at fault = event-stops first number (first + number) at refl fault
  fault-taken first Rest at fault = rest-stops first (first + count) at refl fault
  fault-taken first NoMemory at fault = absurd fault

-- ---- a document of the text goes wrong nowhere

module _ (text answer : List ℕ) (t : Trace) (is : IsTraceOf text answer t) where
  faultless : (f : TraceFault) → HasFault answer f → ⊥
  faultless f fault = ⊎_elim (λ (e : ◌≡◌ {A = Result Trace TraceFault} (Ok t) (Err f)). absurd (cc)) (λ (e : ◌≡◌ {A = Result Trace TraceFault} (Ok t) (Err NoMemory)). absurd (cc)) (refuses answer (Ok t) is.is tt f fault)

  abbrev behind-source : List ℕ
  behind-source = field (codes "events ") newline (length t.events) ++ event_lines t.events

  doc-parts : answer ≡ title ++ (shape_line t.shape ++ (source_part t.text ++ behind-source))
  doc-parts = is.is.is ∙ head-parts (head_of t) (event_lines t.events)

  behind-title : (rest : List ℕ) → answer ≡ title ++ rest → rest ≡ shape_line t.shape ++ (source_part t.text ++ behind-source)
  behind-title rest parts = append_cancel_left title rest _ (sym parts ∙ doc-parts)

  no-shape : (line : ℕ) → HasNoShape answer line → ⊥
  no-shape line wrong = wrong.none t.shape _ (record { fits = is.is.told.head.shape; parts = behind-title wrong.rest wrong.parts })

  behind-shape : (s : TraceShape) (rest : List ℕ) → IsTraceShape s → answer ≡ title ++ (shape_line s ++ rest) → rest ≡ source_part text ++ behind-source
  behind-shape s rest fits parts =
      (shape-one s t.shape rest _ fits is.is.told.head.shape (behind-title (shape_line s ++ rest) parts)).1 ∙ ap (λ x. source_part x ++ behind-source) is.of

  no-other : (line : ℕ) → HasOtherText text answer line → ⊥
  no-other line wrong = wrong.other behind-source (behind-shape wrong.shape wrong.rest wrong.fits wrong.parts)

  no-count : (line : ℕ) → HasNoCount text answer line → ⊥
  no-count line wrong =
      let behind = append_cancel_left (source_part text) wrong.rest behind-source (behind-shape wrong.shape _ wrong.fits wrong.parts) in
      wrong.none (length t.events) (event_lines t.events) (record { fits = count-from (head_of t) is.is.told.head; parts = behind })

  nowhere-wrong : (line : ℕ) → GoesWrongAt text answer line → ⊥
  nowhere-wrong line (inl w) = no-shape line w
  nowhere-wrong line (inr (inl w)) = no-other line w
  nowhere-wrong line (inr (inr (inl w))) = no-count line w
  nowhere-wrong line (inr (inr (inr (inl w)))) = faultless (Line w.number) w.broken
  nowhere-wrong line (inr (inr (inr (inr w)))) = faultless Rest w.more

  not-other : IsTraceTaken text answer taken.TheVariants.Other → ⊥
  not-other (inl none) = none _ doc-parts
  not-other (inr large) = faultless TooLarge large

pub trace-taken : (text answer : List ℕ) (t : Trace) (found : Taken) → IsTraceOf text answer t → IsTraceTaken text answer found → found ≡ taken.TheVariants.Whole
trace-taken text answer t taken.TheVariants.Whole is h = refl
trace-taken text answer t (taken.TheVariants.Stops line) is h = absurd (nowhere-wrong text answer t is line h)
trace-taken text answer t taken.TheVariants.Other is h = absurd (not-other text answer t is h)
