-- An answer whose lines are all lines of answers of the program is explained as these lines.
use Rattle.std.proofs.Common.{◌≡◌, inl, inr, ℕ, ◌<◌, max, true, false, List, [], ◌∷◌, ◌++◌, length, flat_map, codes, None, All, refl, sym, ap, subst, ◌∙◌, arith, length-append, append_assoc}
use Rattle.std.proofs.lemmas.List.Elements.{All-nil, All-head, All-tail}
use Rattle.std.proofs.lemmas.List.{append-nil}
use Rattle.src_text.specs.Line.{cut}
use Rattle.effect_checker.specs.Faults.{IsLeastFault}
use Rattle.rv_listing.specs.Listing.{listing_of, listing_with_addresses}
use Rattle.text_places.specs.declared.places.Located.{Located}
use Rattle.text_pieces.specs.Pieces.{newline}
use Rattle.run_replay.specs.Document.{title}
use Rattle.run_replay.proofs.Forms.{head-parts}
use Rattle.explained_answer.specs.declared.taken.Taken as taken
use Rattle.explained_answer.specs.Fronts.{alike, line_behind}
use Rattle.explained_answer.specs.Listing.{explained_lines}
use Rattle.explained_answer.specs.Trace.{GoesWrongAt}
use Rattle.explained_answer.proofs.Heads.{trace-taken}
use Rattle.explained_answer.specs.declared.line.AnswerLine.{AnswerLine}
use Rattle.explained_answer.specs.AnswerLines.{answer_line}
use Rattle.explained_answer.proofs.LineFronts.{line-there, not-there, no-document-there}
use Rattle.explained_answer.proofs.OneWay.{one-way}
use Rattle.explained_answer.specs.declared.explaining.Explained.{Explained}
use Rattle.explained_answer.specs.declared.explaining.Explained.TheVariants.{Text, Refused}
use Rattle.explained_answer.specs.Lines.{IsLineOf, NoLineOf, fits_program, lines_and_sentences}
use Rattle.explained_answer.specs.Explained.{IsLocated, HasNoConflict, IsNoListing, IsListingAnswer, IsTraceAnswer, AreAllExplained, IsExplained}
use Rattle.explained_answer.proofs.Steps.{line-some}
use Rattle.explained_answer.proofs.Unlisted.{lines-unlisted}
use Rattle.explained_answer.proofs.WholeAnswers.{one-located, no-fault, not-listed}

-- ---- lines in front of the same bytes

-- the lines xs are the lines ys and some more, and these are what stands behind the lines ys
record GoOn (l : Located) (xs ys : List AnswerLine) (rest : List ℕ) : Type 0 where
  pub more : List AnswerLine
  pub are : All (IsLineOf l) more
  pub lines : xs ≡ ys ++ more
  pub parts : rest ≡ flat_map answer_line more

some-bytes : (l : Located) (x : AnswerLine) (xs : List AnswerLine) (rest : List ℕ) → All (IsLineOf l) (x ∷ xs) → 0 < length (flat_map answer_line (x ∷ xs) ++ rest)
some-bytes l x xs rest all =
    omega (
      arith,
      line-some x (All-head (IsLineOf l) x xs all).fits,
      length-append (flat_map answer_line (x ∷ xs)) rest,
      length-append (answer_line x) (flat_map answer_line xs),
    )

go-on : (l : Located) (ys xs : List AnswerLine) (rest : List ℕ) → All (IsLineOf l) ys → All (IsLineOf l) xs → flat_map answer_line xs ≡ flat_map answer_line ys ++ rest
    → GoOn l xs ys rest
go-on l [] xs rest are_ys are_xs is = record { more = xs; are = are_xs; lines = refl; parts = sym is }
go-on l (y ∷ ys) [] rest are_ys are_xs is = absurd (omega (arith, ap length is, some-bytes l y ys rest are_ys))
go-on l (y ∷ ys) (x ∷ xs) rest are_ys are_xs is =
    let one =
    one-way x y (flat_map answer_line xs) (flat_map answer_line ys ++ rest) (All-head (IsLineOf l) x xs are_xs).fits (All-head (IsLineOf l) y ys are_ys).fits
    (is ∙ append_assoc (answer_line y) (flat_map answer_line ys) rest) in
    let behind = go-on l ys xs rest (All-tail (IsLineOf l) y ys are_ys) (All-tail (IsLineOf l) x xs are_xs) one.1 in
    record { more = behind.more; are = behind.are; lines = λ i. one.0 i ∷ behind.lines i; parts = behind.parts }

no-more : (l : Located) (xs : List AnswerLine) → All (IsLineOf l) xs → [] ≡ flat_map answer_line xs → xs ≡ []
no-more l [] all is = refl
no-more l (x ∷ xs) all is = absurd (omega (arith, ap length is, ap length (append-nil (flat_map answer_line (x ∷ xs))), some-bytes l x xs [] all))

-- the same bytes are the same lines
same-lines : (l : Located) (xs ys : List AnswerLine) → All (IsLineOf l) xs → All (IsLineOf l) ys → flat_map answer_line xs ≡ flat_map answer_line ys ++ [] → xs ≡ ys
same-lines l xs ys are_xs are_ys is =
    let on = go-on l ys xs [] are_ys are_xs is in
    on.lines ∙ ap (λ zs. ys ++ zs) (no-more l on.more on.are on.parts) ∙ append-nil ys

-- in front of lines of the program stands one
not-none : (l : Located) (rest : List ℕ) (xs : List AnswerLine) → 0 < length rest → All (IsLineOf l) xs → rest ≡ flat_map answer_line xs → NoLineOf l rest → ⊥
not-none l rest [] some all is none = omega (arith, some, ap length is)
not-none l rest (x ∷ xs) some all is (inl none) =
    none x (flat_map answer_line xs) (record { fits = (All-head (IsLineOf l) x xs all).fits; parts = is })
not-none l rest (x ∷ xs) some all is (inr other) =
    let of = All-head (IsLineOf l) x xs all in
    let one = one-way x other.line (flat_map answer_line xs) other.rest of.fits other.stands.fits (sym is ∙ other.stands.parts) in
    let both : true ≡ false = sym of.of ∙ ap (fits_program l) one.0 ∙ other.other in absurd (cc)

-- lines don't begin as a document
title-front : (rest : List ℕ) → title ++ rest ≡ codes "denovo-" ++ (codes "trace 1" ++ newline ++ rest)
unfolding title
title-front rest = refl

no-title-line : (rest : List ℕ) → line-there (title ++ rest) ≡ None
no-title-line rest = ap line-there (title-front rest) ∙ no-document-there (codes "trace 1" ++ newline ++ rest)

title-some : (rest : List ℕ) → 0 < length (title ++ rest)
unfolding title
title-some rest = omega arith

no-title : (l : Located) (xs : List AnswerLine) → All (IsLineOf l) xs → (rest : List ℕ) → flat_map answer_line xs ≡ title ++ rest → ⊥
no-title l [] all rest is = omega (arith, ap length is, title-some rest)
no-title l (x ∷ xs) all rest is = not-there x (flat_map answer_line xs) (title ++ rest) (All-head (IsLineOf l) x xs all).fits (no-title-line rest) (sym is)

-- ---- the answer

module _ (text answer : List ℕ) (l : Located) (is_located : IsLocated text l) (lines : List AnswerLine) (are : All (IsLineOf l) lines) (is : answer ≡ flat_map answer_line lines) where
  untitled : (rest : List ℕ) → answer ≡ title ++ rest → ⊥
  untitled rest begins = no-title l lines are rest (sym is ∙ begins)

  not-wrong : (number : ℕ) → GoesWrongAt text answer number → ⊥
  not-wrong number (inl h) = untitled _ h.parts
  not-wrong number (inr (inl h)) = untitled _ h.parts
  not-wrong number (inr (inr (inl h))) = untitled _ h.parts
  not-wrong number (inr (inr (inr (inl h)))) = untitled _ (h.broken.begins.parts ∙ head-parts h.broken.head _)
  not-wrong number (inr (inr (inr (inr h)))) = untitled _ (h.more.begins.parts ∙ head-parts h.more.head _)

  no-trace : (e : Explained) → IsTraceAnswer text answer e → ⊥
  no-trace (Text out) h =
      let other = trace-taken text answer h.0.0 taken.TheVariants.Other h.0.1 (inl untitled) in absurd (cc)
  no-trace (Refused number) h = not-wrong number h

  run-answer : (e : Explained) → AreAllExplained text l answer e → e ≡ Text (lines_and_sentences text l lines)
  run-answer (Text out) h =
      ap Text (h.said ∙ ap (lines_and_sentences text l) (sym (same-lines l lines h.lines are h.all.are (sym is ∙ h.all.parts))))
  run-answer (Refused number) h =
      let on = go-on l h.lines lines h.rest h.before.are are (sym is ∙ h.before.parts) in
      absurd (not-none l h.rest on.more h.some on.are on.parts h.none)

  pub lines-taken : HasNoConflict l.program → IsNoListing text l answer → (e : Explained) → IsExplained text answer e → e ≡ Text (lines_and_sentences text l lines)
  lines-taken none no_listing e (inl h) = absurd (no-fault text answer l is_located h.fault h.is)
  lines-taken none no_listing e (inr (inl h)) = absurd (not-listed text answer l is_located no_listing h.located e h.is_located h.answer_is)
  lines-taken none no_listing e (inr (inr (inl h))) =
      absurd (none h.fault (subst (λ (m : Located). IsLeastFault m.program h.fault) (one-located text h.located l h.is_located is_located) h.is))
  lines-taken none no_listing e (inr (inr (inr (inl h)))) = absurd (no-trace e h.answer_is)
  lines-taken none no_listing e (inr (inr (inr (inr h)))) =
      run-answer e (subst (λ (m : Located). AreAllExplained text m answer e) (one-located text h.located l h.is_located is_located) h.answer_is)

-- ---- an answer without a line

module _ (text answer : List ℕ) (l : Located) (is_located : IsLocated text l) (none : HasNoConflict l.program) (is : answer ≡ []) where
  same-listing : (k : Located) → IsLocated text k → IsNoListing text k answer → IsNoListing text l answer
  same-listing k has h = subst (λ (m : Located). IsNoListing text m answer) (one-located text k l has is_located) h

  no-line : IsNoListing text l answer → (e : Explained) → IsExplained text answer e → e ≡ Text []
  no-line no_listing e h = lines-taken text answer l is_located [] (All-nil (IsLineOf l)) is none no_listing e h

  -- where the listing is empty too, it is explained as nothing
  empty-listing : (k : Located) (e : Explained) → IsListingAnswer text k answer e → e ≡ Text []
  unfolding line_behind
  empty-listing k (Text out) h = ap Text (h.1 ∙ ap (λ (bs : List ℕ). explained_lines text k (cut bs)) is)
  empty-listing k (Refused number) h =
      let first : number ≡ 1 =
      h.1 ∙ ap (λ (bs : List ℕ). max (line_behind (alike bs (listing_of k.program))) (line_behind (alike bs (listing_with_addresses k.program)))) is in
      absurd (omega (arith, first, h.2))

  empty-taken : (e : Explained) → IsExplained text answer e → e ≡ Text []
  empty-taken e (inl h) = absurd (no-fault text answer l is_located h.fault h.is)
  empty-taken e (inr (inl h)) = empty-listing h.located e h.answer_is
  empty-taken e (inr (inr (inl h))) = no-line (same-listing h.located h.is_located h.no_listing) e (inr (inr (inl h)))
  empty-taken e (inr (inr (inr (inl h)))) = no-line (same-listing h.located h.is_located h.no_listing) e (inr (inr (inr (inl h))))
  empty-taken e (inr (inr (inr (inr h)))) = no-line (same-listing h.located h.is_located h.no_listing) e (inr (inr (inr (inr h))))

pub all-taken : (text answer : List ℕ) (l : Located) → IsLocated text l → (lines : List AnswerLine) → All (IsLineOf l) lines → answer ≡ flat_map answer_line lines → HasNoConflict l.program
    → (e : Explained) → IsExplained text answer e → e ≡ Text (lines_and_sentences text l lines)
all-taken text answer l is_located [] are is none e h = empty-taken text answer l is_located none is e h
all-taken text answer l is_located (x ∷ xs) are is none e h =
    lines-taken text answer l is_located (x ∷ xs) are is none (lines-unlisted text l answer x xs (All-head (IsLineOf l) x xs are).fits is) e h
