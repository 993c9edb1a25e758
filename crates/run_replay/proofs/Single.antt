-- One document is of one trace at most, and bytes that are none have one fault.
use Rattle.std.proofs.Common.{◌≡◌, ℕ, suc, ◌+◌, ◌*◌, ◌^◌, ◌<◌, ◌≤◌, All, List, [], ◌∷◌, ◌++◌, length, get_or, codes, Result, Ok, Err, IfOk, IfErr, ◌≢◌, ◌⊎◌, inl, inr, refl, sym, ap, ◌∙◌, arith, length-append, append_assoc}
use Rattle.std.proofs.lemmas.Bool.{cases_lt}
use Rattle.std.proofs.lemmas.Fmt.{length-decimal-le}
use Rattle.std.specs.Fmt.{decimal}
use Rattle.message_net.specs.declared.actor.Actor.{Actor}
use Rattle.message_net.specs.declared.actor.Actor.TheVariants.{Core, Bank, Keeper}
use Rattle.message_net.specs.declared.event.Event.{Event}
use Rattle.message_net.specs.declared.event.Event.TheVariants.{Instr, Evict, Arrive, Handle}
use Rattle.text_pieces.specs.Pieces.{newline, space}
use Rattle.run_replay.specs.declared.trace.Trace.{Trace}
use Rattle.run_replay.specs.declared.trace.TraceShape.{TraceShape}
use Rattle.run_replay.specs.declared.trace.TraceFault.{TraceFault}
use Rattle.run_replay.specs.declared.trace.TraceFault.TheVariants.{TooLarge, Head as NoHead, Line, Rest, Memory}
use Rattle.text_pieces.specs.Field.{field, IsFrom, NoneStands}
use Rattle.text_pieces.specs.Parts.{source_part}
use Rattle.run_replay.specs.Document.{IsTraceShape, IsNamed, FitsDocument, Head, IsHead, IsTrace, head_of, title, shape_line, head_text, mail_line, event_line, event_lines, document_of, IsDocument}
use Rattle.run_replay.specs.Faults.{most_bytes, BeginsWithEvents, IsBrokenAt, HasFault}
use Rattle.run_replay.specs.Lines.{two_fields}
use Rattle.text_pieces.proofs.Forms.{IsOne, field-one}
use Rattle.run_replay.proofs.Forms.{two-one, head-one}

-- ---- an event

from-15 : (n : ℕ) → n < 16 → IsFrom 0 15 n
from-15 n low = record { low = omega arith; high = omega arith }

from-number : (n : ℕ) → n < 2 ^ 32 → IsFrom 0 4294967295 n
from-number n low = record { low = omega arith; high = omega arith }

from-word : (n : ℕ) → n < 65536 → IsFrom 0 65535 n
from-word n low = record { low = omega arith; high = omega arith }

-- the third byte of a mail's line, and the first of an event's
abbrev mail_mark : Actor → ℕ
mail_mark (Core core) = 99
mail_mark (Bank bank) = 98
mail_mark Keeper = 107

abbrev mark : Event → ℕ
mark (Instr core) = 105
mark (Evict core word) = 101
mark (Arrive core) = 97
mark (Handle id) = 104

mail-third : (a : Actor) (n : ℕ) (r : List ℕ) → get_or (mail_line a n ++ r) 2 0 ≡ mail_mark a
unfolding mail_line field
mail-third (Core core) n r = refl
mail-third (Bank bank) n r = refl
mail-third Keeper n r = refl

mail-first : (a : Actor) (n : ℕ) (r : List ℕ) → get_or (mail_line a n ++ r) 0 0 ≡ 104
unfolding mail_line field
mail-first (Core core) n r = refl
mail-first (Bank bank) n r = refl
mail-first Keeper n r = refl

event-first : (e : Event) (r : List ℕ) → get_or (event_line e ++ r) 0 0 ≡ mark e
unfolding event_line field
event-first (Instr core) r = refl
event-first (Evict core word) r = refl
event-first (Arrive core) r = refl
event-first (Handle id) r = mail-first id.sender id.number r

mail-one : (a b : Actor) (m n : ℕ) (r q : List ℕ) → IsNamed a → IsNamed b → m < 2 ^ 32 → n < 2 ^ 32 → mail_line a m ++ r ≡ mail_line b n ++ q → (a ≡ b) × (m ≡ n) × (r ≡ q)
unfolding mail_line two_fields
mail-one (Core a) (Core b) m n r q fa fb fm fn is =
    let s = two-one (codes "h c ") 4294967295 a.0 m b.0 n r q (omega arith) (from-15 a.0 fa) (from-15 b.0 fb) (from-number m fm) (from-number n fn) is in
    (λ i. Core (record { 0 = s.0 i }), s.1, s.2)
mail-one (Bank a) (Bank b) m n r q fa fb fm fn is =
    let s = two-one (codes "h b ") 4294967295 a.0 m b.0 n r q (omega arith) (from-15 a.0 fa) (from-15 b.0 fb) (from-number m fm) (from-number n fn) is in
    (λ i. Bank (record { 0 = s.0 i }), s.1, s.2)
mail-one Keeper Keeper m n r q fa fb fm fn is =
    let s = field-one (codes "h k ") 10 0 4294967295 refl (omega arith) m n r q (from-number m fm) (from-number n fn) is in
    (refl, s.0, s.1)
mail-one a b m n r q fa fb fm fn is =
    let marks : mail_mark a ≡ mail_mark b = sym (mail-third a m r) ∙ ap (λ bs. get_or bs 2 0) is ∙ mail-third b n q in
    absurd (omega (arith, marks))

pub event-one : IsOne FitsDocument event_line
unfolding event_line two_fields
event-one (Instr a) (Instr b) r q fa fb is =
    let s = field-one (codes "i ") 10 0 15 refl (omega arith) a.0 b.0 r q (from-15 a.0 fa) (from-15 b.0 fb) is in
    (λ i. Instr (record { 0 = s.0 i }), s.1)
event-one (Evict a v) (Evict b w) r q fa fb is =
    let s = two-one (codes "e ") 65535 a.0 v.0 b.0 w.0 r q (omega arith) (from-15 a.0 fa.0) (from-15 b.0 fb.0) (from-word v.0 fa.1) (from-word w.0 fb.1) is in
    (λ i. Evict (record { 0 = s.0 i }) (record { 0 = s.1 i }), s.2)
event-one (Arrive a) (Arrive b) r q fa fb is =
    let s = field-one (codes "a ") 10 0 15 refl (omega arith) a.0 b.0 r q (from-15 a.0 fa) (from-15 b.0 fb) is in
    (λ i. Arrive (record { 0 = s.0 i }), s.1)
event-one (Handle x) (Handle y) r q fa fb is =
    let s = mail-one x.sender y.sender x.number y.number r q fa.0 fb.0 fa.1 fb.1 is in
    (λ i. Handle (record { sender = s.0 i; number = s.1 i }), s.2)
event-one x y r q fa fb is =
    let marks : mark x ≡ mark y = sym (event-first x r) ∙ ap (λ bs. get_or bs 0 0) is ∙ event-first y q in
    absurd (omega (arith, marks))

-- ---- lines

told-rest : (e : Event) (es : List Event) → All FitsDocument (e ∷ es) → All FitsDocument es
told-rest e es all = λ k d low. all (suc k) d (omega (arith, low))

told-first : (e : Event) (es : List Event) → All FitsDocument (e ∷ es) → FitsDocument e
told-first e es all = all 0 e (omega arith)

first-line : (e f : Event) (es fs : List Event) (r q : List ℕ) → All FitsDocument (e ∷ es) → All FitsDocument (f ∷ fs) → event_lines (e ∷ es) ++ r ≡ event_lines (f ∷ fs) ++ q
    → (e ≡ f) × (event_lines es ++ r ≡ event_lines fs ++ q)
first-line e f es fs r q te tf is =
    event-one e f (event_lines es ++ r) (event_lines fs ++ q) (told-first e es te) (told-first f fs tf)
    (sym (append_assoc (event_line e) (event_lines es) r) ∙ is ∙ append_assoc (event_line f) (event_lines fs) q)

lines-one : (es fs : List Event) (r q : List ℕ) → All FitsDocument es → All FitsDocument fs → event_lines es ++ r ≡ event_lines fs ++ q → length es ≡ length fs → (es ≡ fs) × (r ≡ q)
lines-one [] [] r q te tf is same = (refl, is)
lines-one [] (f ∷ fs) r q te tf is same = absurd (omega (arith, same))
lines-one (e ∷ es) [] r q te tf is same = absurd (omega (arith, same))
lines-one (e ∷ es) (f ∷ fs) r q te tf is same =
    let first = first-line e f es fs r q te tf is in
    let rest = lines-one es fs r q (told-rest e es te) (told-rest f fs tf) first.1 (omega (arith, same)) in
    (λ i. first.0 i ∷ rest.0 i, rest.1)

lines-less : (es fs : List Event) (r q : List ℕ) → All FitsDocument es → All FitsDocument fs → event_lines es ++ r ≡ event_lines fs ++ q → length es < length fs → NoneStands FitsDocument event_line r → ⊥
lines-less [] [] r q te tf is less none = omega (arith, less)
lines-less [] (f ∷ fs) r q te tf is less none =
    none f (event_lines fs ++ q) (record { fits = told-first f fs tf; parts = is ∙ append_assoc (event_line f) (event_lines fs) q })
lines-less (e ∷ es) [] r q te tf is less none = omega (arith, less)
lines-less (e ∷ es) (f ∷ fs) r q te tf is less none =
    let first = first-line e f es fs r q te tf is in
    lines-less es fs r q (told-rest e es te) (told-rest f fs tf) first.1 (omega (arith, less)) none

-- ---- what bytes begin with

module _ (bytes : List ℕ) (h g : Head) (es fs : List Event) (r q : List ℕ) (a : BeginsWithEvents bytes h es r) (b : BeginsWithEvents bytes g fs q) where
  begin-one : (h ≡ g) × (event_lines es ++ r ≡ event_lines fs ++ q)
  begin-one = head-one h g (event_lines es ++ r) (event_lines fs ++ q) a.head b.head (sym a.parts ∙ b.parts)

  same-count : h.count ≡ g.count
  same-count = ap (λ (x : Head). x.count) begin-one.0

  begin-same : length es ≡ length fs → (es ≡ fs) × (r ≡ q)
  begin-same same = lines-one es fs r q a.told b.told begin-one.1 same

  begin-less : length es < length fs → NoneStands FitsDocument event_line r → ⊥
  begin-less less none = lines-less es fs r q a.told b.told begin-one.1 less none

-- ---- a document isn't too large

field-length : (name e : List ℕ) (k n : ℕ) → 0 < k → n < 10 ^ k → n < 2 ^ 64 → length (field name e n) ≤ length name + k + length e
unfolding field
field-length name e k n some fits small =
    omega (arith, length-append (name ++ decimal n) e, length-append name (decimal n), length-decimal-le k n some fits small)

mail-length : (a : Actor) (n : ℕ) → IsNamed a → n < 2 ^ 32 → length (mail_line a n) ≤ 18
unfolding mail_line
mail-length (Core core) n named small =
    omega (
      arith,
      length-append (field (codes "h c ") space core.0) (field [] newline n),
      field-length (codes "h c ") space 2 core.0 (omega arith) (omega (arith, named)) (omega (arith, named)),
      field-length [] newline 10 n (omega arith) (omega arith) (omega arith),
    )
mail-length (Bank bank) n named small =
    omega (
      arith,
      length-append (field (codes "h b ") space bank.0) (field [] newline n),
      field-length (codes "h b ") space 2 bank.0 (omega arith) (omega (arith, named)) (omega (arith, named)),
      field-length [] newline 10 n (omega arith) (omega arith) (omega arith),
    )
mail-length Keeper n named small = omega (arith, field-length (codes "h k ") newline 10 n (omega arith) (omega arith) (omega arith))

event-length : (e : Event) → FitsDocument e → length (event_line e) ≤ 18
unfolding event_line
event-length (Instr core) told = omega (arith, field-length (codes "i ") newline 2 core.0 (omega arith) (omega (arith, told)) (omega (arith, told)))
event-length (Evict core word) told =
    omega (
      arith,
      length-append (field (codes "e ") space core.0) (field [] newline word.0),
      field-length (codes "e ") space 2 core.0 (omega arith) (omega (arith, told.0)) (omega (arith, told.0)),
      field-length [] newline 5 word.0 (omega arith) (omega (arith, told.1)) (omega (arith, told.1)),
    )
event-length (Arrive core) told = omega (arith, field-length (codes "a ") newline 2 core.0 (omega arith) (omega (arith, told)) (omega (arith, told)))
event-length (Handle id) told = mail-length id.sender id.number told.0 told.1

lines-length : (es : List Event) → All FitsDocument es → length (event_lines es) ≤ 18 * length es
lines-length [] told = omega arith
lines-length (e ∷ es) told =
    omega (arith, length-append (event_line e) (event_lines es), event-length e (told-first e es told), lines-length es (told-rest e es told))

shape-length : (s : TraceShape) → IsTraceShape s → length (shape_line s) ≤ 40
unfolding shape_line
shape-length s fits =
    let a = field (codes "banks ") space s.banks in
    let b = field (codes "sets ") space s.sets in
    let d = field (codes "ways ") space s.ways in
    let e = field (codes "fuel ") newline s.fuel in
    omega (
      arith,
      length-append ((a ++ b) ++ d) e,
      length-append (a ++ b) d,
      length-append a b,
      field-length (codes "banks ") space 2 s.banks (omega arith) (omega (arith, fits.banks.high)) (omega (arith, fits.banks.high)),
      field-length (codes "sets ") space 3 s.sets (omega arith) (omega (arith, fits.sets.high)) (omega (arith, fits.sets.high)),
      field-length (codes "ways ") space 2 s.ways (omega arith) (omega (arith, fits.ways.high)) (omega (arith, fits.ways.high)),
      field-length (codes "fuel ") newline 5 s.fuel (omega arith) (omega (arith, fits.fuel.high)) (omega (arith, fits.fuel.high)),
    )

source-length : (text : List ℕ) → length text ≤ 1048576 → length (source_part text) ≤ length text + 16
unfolding source_part
source-length text few =
    omega (
      arith,
      length-append (field (codes "source ") newline (length text) ++ text) newline,
      length-append (field (codes "source ") newline (length text)) text,
      field-length (codes "source ") newline 7 (length text) (omega arith) (omega arith) (omega arith),
    )

title-length : length title ≡ 15
unfolding title
title-length = refl

head-length : (h : Head) → IsHead h → length (head_text h) ≤ length h.text + 100
unfolding head_text
head-length h is =
    let last = field (codes "events ") newline h.count in
    omega (
      arith,
      length-append ((title ++ shape_line h.shape) ++ source_part h.text) last,
      length-append (title ++ shape_line h.shape) (source_part h.text),
      length-append title (shape_line h.shape),
      title-length,
      shape-length h.shape is.shape,
      source-length h.text is.text,
      field-length (codes "events ") newline 8 h.count (omega arith) (omega (arith, is.count)) (omega (arith, is.count)),
    )

pub document-within : (t : Trace) → IsTrace t → length (document_of t) ≤ most_bytes
document-within t is =
    omega (arith, length-append (head_text (head_of t)) (event_lines t.events), head-length (head_of t) is.head, lines-length t.events is.events, is.head.text, is.head.count)

-- ---- one answer

append-nil' : (xs : List ℕ) → xs ++ [] ≡ xs
append-nil' [] = refl
append-nil' (x ∷ xs) = ap (λ ys. x ∷ ys) (append-nil' xs)

doc-begins : (bytes : List ℕ) (t : Trace) → IsDocument bytes t → BeginsWithEvents bytes (head_of t) t.events []
doc-begins bytes t doc =
    record {
      within = omega (arith, ap length doc.is, document-within t doc.told);
      head = doc.told.head;
      told = doc.told.events;
      parts = doc.is ∙ ap (λ xs. head_text (head_of t) ++ xs) (sym (append-nil' (event_lines t.events)));
    }

pub one-trace : (bytes : List ℕ) (t u : Trace) → IsDocument bytes t → IsDocument bytes u → t ≡ u
one-trace bytes t u a b =
    let ba = doc-begins bytes t a in
    let bb = doc-begins bytes u b in
    let heads = begin-one bytes (head_of t) (head_of u) t.events u.events [] [] ba bb in
    let counts = same-count bytes (head_of t) (head_of u) t.events u.events [] [] ba bb in
    let lines = begin-same bytes (head_of t) (head_of u) t.events u.events [] [] ba bb counts in
    λ i. record { shape = (heads.0 i).shape; text = (heads.0 i).text; events = lines.0 i }

-- where as many lines are there as the head announces, no line is the first that isn't there
no-broken : (bytes : List ℕ) (h : Head) (es : List Event) (r : List ℕ) (number : ℕ) → BeginsWithEvents bytes h es r → length es ≡ h.count → IsBrokenAt bytes number → ⊥
no-broken bytes h es r number begins all broken =
    begin-less bytes broken.head h broken.before es broken.rest r broken.begins begins
    (omega (arith, broken.place, broken.announced, all, same-count bytes broken.head h broken.before es broken.rest r broken.begins begins)) broken.none

doc-fault : (bytes : List ℕ) (t : Trace) (f : TraceFault) → IsDocument bytes t → HasFault bytes f → ⊥
doc-fault bytes t TooLarge doc fault = omega (arith, fault, (doc-begins bytes t doc).within)
doc-fault bytes t NoHead doc fault = fault.1 (head_of t) (event_lines t.events) (record { fits = doc.told.head; parts = doc.is })
doc-fault bytes t (Line number) doc fault = no-broken bytes (head_of t) t.events [] number (doc-begins bytes t doc) refl fault
doc-fault bytes t Rest doc fault =
    let begins = doc-begins bytes t doc in
    let counts = same-count bytes (head_of t) fault.head t.events fault.events [] fault.rest begins fault.begins in
    let lines = begin-same bytes (head_of t) fault.head t.events fault.events [] fault.rest begins fault.begins (omega (arith, counts, fault.all)) in
    omega (arith, fault.some, ap length lines.1)
doc-fault bytes t Memory doc fault = fault

no-head : (bytes : List ℕ) (h : Head) (es : List Event) (r : List ℕ) → BeginsWithEvents bytes h es r → HasFault bytes NoHead → ⊥
no-head bytes h es r begins fault = fault.1 h (event_lines es ++ r) (record { fits = begins.head; parts = begins.parts })

first-broken : (bytes : List ℕ) (m n : ℕ) → IsBrokenAt bytes m → IsBrokenAt bytes n → m < n → ⊥
first-broken bytes m n a b less =
    begin-less bytes a.head b.head a.before b.before a.rest b.rest a.begins b.begins (omega (arith, less, a.place, b.place)) a.none

pub one-fault : (bytes : List ℕ) (f g : TraceFault) → HasFault bytes f → HasFault bytes g → f ≡ g
one-fault bytes Memory g a b = absurd a
one-fault bytes f Memory a b = absurd b
one-fault bytes TooLarge TooLarge a b = refl
one-fault bytes TooLarge NoHead a b = absurd (omega (arith, a, b.0))
one-fault bytes TooLarge (Line n) a b = absurd (omega (arith, a, b.begins.within))
one-fault bytes TooLarge Rest a b = absurd (omega (arith, a, b.begins.within))
one-fault bytes NoHead TooLarge a b = absurd (omega (arith, b, a.0))
one-fault bytes NoHead NoHead a b = refl
one-fault bytes NoHead (Line n) a b = absurd (no-head bytes b.head b.before b.rest b.begins a)
one-fault bytes NoHead Rest a b = absurd (no-head bytes b.head b.events b.rest b.begins a)
one-fault bytes (Line m) TooLarge a b = absurd (omega (arith, b, a.begins.within))
one-fault bytes (Line m) NoHead a b = absurd (no-head bytes a.head a.before a.rest a.begins b)
one-fault bytes (Line m) (Line n) a b = elim (cases_lt m n) [
  | inl less ↦ absurd (first-broken bytes m n a b less)
  | inr most ↦ elim (cases_lt n m) [
    | inl less ↦ absurd (first-broken bytes n m b a less)
    | inr least ↦ let same : m ≡ n = omega arith in ap Line same
  ]
]
one-fault bytes (Line m) Rest a b = absurd (no-broken bytes b.head b.events b.rest m b.begins b.all a)
one-fault bytes Rest TooLarge a b = absurd (omega (arith, b, a.begins.within))
one-fault bytes Rest NoHead a b = absurd (no-head bytes a.head a.events a.rest a.begins b)
one-fault bytes Rest (Line n) a b = absurd (no-broken bytes a.head a.events a.rest n a.begins a.all b)
one-fault bytes Rest Rest a b = refl

-- ---- what an answer that is true says of all answers

abbrev AnswersOk : List ℕ → Result Trace TraceFault → Type 0
AnswersOk bytes r = IfOk r (IsDocument bytes)

abbrev AnswersErr : List ℕ → Result Trace TraceFault → Type 0
AnswersErr bytes r = IfErr r (λ (f : TraceFault). f ≢ Memory → HasFault bytes f)

at-fault : (bytes : List ℕ) (f : TraceFault) (P : TraceFault → Type 0) → (f ≢ Memory → HasFault bytes f) → (HasFault bytes f → P f) → P Memory → P f
at-fault bytes TooLarge P told then' other = then' (told (λ (e : TooLarge ≡ Memory). absurd (cc)))
at-fault bytes NoHead P told then' other = then' (told (λ (e : NoHead ≡ Memory). absurd (cc)))
at-fault bytes (Line n) P told then' other = then' (told (λ (e : Line n ≡ Memory). absurd (cc)))
at-fault bytes Rest P told then' other = then' (told (λ (e : Rest ≡ Memory). absurd (cc)))
at-fault bytes Memory P told then' other = other

pub reads : (bytes : List ℕ) (r : Result Trace TraceFault) → AnswersOk bytes r → AnswersErr bytes r → (t : Trace) → IsDocument bytes t → (r ≡ Ok t) ⊎ (r ≡ Err Memory)
reads bytes (Ok u) ok err t doc = inl (ap Ok (one-trace bytes u t ok doc))
reads bytes (Err f) ok err t doc =
    at-fault bytes f (λ (g : TraceFault). (◌≡◌ {A = Result Trace TraceFault} (Err g) (Ok t)) ⊎ (◌≡◌ {A = Result Trace TraceFault} (Err g) (Err Memory))) err
    (λ fault. absurd (doc-fault bytes t f doc fault)) (inr refl)

pub refuses : (bytes : List ℕ) (r : Result Trace TraceFault) → AnswersOk bytes r → AnswersErr bytes r → (g : TraceFault) → HasFault bytes g → (r ≡ Err g) ⊎ (r ≡ Err Memory)
refuses bytes (Ok u) ok err g fault = absurd (doc-fault bytes u g ok fault)
refuses bytes (Err f) ok err g fault =
    at-fault bytes f (λ (x : TraceFault). (◌≡◌ {A = Result Trace TraceFault} (Err x) (Err g)) ⊎ (◌≡◌ {A = Result Trace TraceFault} (Err x) (Err Memory))) err
    (λ own. inl (ap Err (one-fault bytes f g own fault))) (inr refl)
