-- In front of some bytes stands one line at most.
use Rattle.std.proofs.Common.{◌≡◌, ℕ, ◌+◌, ◌*◌, false, List, [], ◌∷◌, ◌++◌, codes, drop, refl, sym, ap, subst, ◌∙◌, arith}
use Rattle.std.proofs.lemmas.List.{append_cancel_left}
use Rattle.std.specs.Fmt.{decimal}
use Rattle.std.specs.Char.{is_ascii_digit}
use Rattle.message_net.specs.declared.event.EventKind.{EventKind}
use Rattle.rv_core.specs.declared.ending.EndShown as shown
use Rattle.rv_core.specs.declared.ending.EndShown.{EndShown}
use Rattle.text_pieces.specs.Pieces.{newline, space}
use Rattle.text_pieces.specs.Base16.{IsWord}
use Rattle.text_pieces.specs.Field.{field}
use Rattle.text_pieces.proofs.Fields.{field-parts}
use Rattle.text_pieces.proofs.Forms.{IsOne, field-one}
use Rattle.text_pieces.proofs.Words.{word-one}
use Rattle.run_report.specs.Answer.{outcome_line, task_line, word_line}
use Rattle.run_report.specs.Grants.{grant_line}
use Rattle.run_report.specs.Summary.{count_line}
use Rattle.explained_answer.specs.declared.line.AnswerLine as line
use Rattle.explained_answer.specs.declared.line.AnswerLine.{AnswerLine}
use Rattle.explained_answer.specs.declared.line.Count.{Count}
use Rattle.explained_answer.specs.declared.tasks.Trapped.{Trapped}
use Rattle.explained_answer.specs.Parts.{IsNumber, IsTicks, pair_fields, three_line, hexadecimal_line}
use Rattle.explained_answer.specs.AnswerLines.{HasGrantNumbers, HasTrapNumbers, HasEndNumbers, HasTaskNumbers, HasLinkNumbers, HasUnboundedNumbers, IsDataWord, IsShownWord, IsAnswerLine, answer_line, address_line, link_line, sum_line, place_line, varies_line, fixed_line, trap_front, trap_rest, stop_by, count_front, count_line_of, kind_front}
use Rattle.explained_answer.proofs.Forms.{two-next, trap-parts, address-parts, word-is}
use Rattle.explained_answer.proofs.Others.{link-parts, three-parts, place-parts, varies-parts, hexadecimal-parts, sum-parts, grant-is, ticks-is}
use Rattle.explained_answer.proofs.Ends.{task-parts, count-is}
use Rattle.explained_answer.proofs.Ticks.{value-of, rest-of}
use Rattle.explained_answer.proofs.LineFronts.{kind-same, IsEndLike, end_form, end-like, line_form, IsLike, line-like}

-- ---- numbers

number-one : (name : List ℕ) → IsOne IsNumber (field name newline)
number-one name = field-one name 10 0 4294967295 refl (omega arith)

ticks-one : (name : List ℕ) → IsOne IsTicks (field name newline)
ticks-one name m n r q low small is =
    let bytes = decimal m ++ 10 ∷ r in
    let digits : decimal m ++ 10 ∷ r ≡ decimal n ++ 10 ∷ q = append_cancel_left name _ _ (sym (field-parts name 10 m r) ∙ is ∙ field-parts name 10 n q) in (
      sym (value-of bytes m r low refl) ∙ value-of bytes n q small digits,
      ap (drop 1) (sym (rest-of bytes m r low refl) ∙ rest-of bytes n q small digits),
    )

pair-one : (first second : List ℕ) (e : ℕ) → is_ascii_digit e ≡ false → (a b x y : ℕ) (r q : List ℕ) → IsNumber a → IsNumber b → IsNumber x → IsNumber y
    → pair_fields first second e a b ++ r ≡ pair_fields first second e x y ++ q → (a ≡ x) × (b ≡ y) × (r ≡ q)
pair-one first second e other a b x y r q fa fb fx fy is =
    two-next first second e other (pair_fields first second e a b ++ r) a b r (record { first_from = fa; second_from = fb; parts = refl }) x y q fx fy is

three-one : (name : List ℕ) (a b c x y z : ℕ) (r q : List ℕ) → IsNumber a → IsNumber b → IsNumber c → IsNumber x → IsNumber y → IsNumber z
    → three_line name a b c ++ r ≡ three_line name x y z ++ q → (a ≡ x) × (b ≡ y) × (c ≡ z) × (r ≡ q)
three-one name a b c x y z r q fa fb fc fx fy fz is =
    let two = pair-one name [] 32 refl a b x y _ _ fa fb fx fy (sym (three-parts name a b c r) ∙ is ∙ three-parts name x y z q) in
    let last = number-one [] c z r q fc fz two.2 in
    (two.0, two.1, last.0, last.1)

pub word-line-one : IsOne IsWord hexadecimal_line
word-line-one m n r q low small is =
    let one = word-one m n _ _ low small (sym (hexadecimal-parts m r) ∙ is ∙ hexadecimal-parts n q) in
    (one.0, append_cancel_left newline r q one.1)

-- ---- the end of a task's line

trap-one : (front : List ℕ) → IsOne HasTrapNumbers (trap_rest front)
trap-one front s t r q fs ft is =
    let behind = append_cancel_left front _ _ (sym (trap-parts front s r) ∙ is ∙ trap-parts front t q) in
    let pc = word-one s.pc t.pc _ _ fs.pc ft.pc behind in
    let value = word-one s.value t.value _ _ fs.value ft.value (append_cancel_left (codes " value ") _ _ pc.1) in
    let retired = number-one (codes " retired ") s.retired t.retired r q fs.retired ft.retired value.1 in
    (λ i. record { pc = pc.0 i; value = value.0 i; retired = retired.0 i }, retired.1)

-- the same end, the same number, and the same behind
abbrev IsSameEnd : EndShown → ℕ → List ℕ → EndShown → Type 0
IsSameEnd d m r e = (n : ℕ) (q : List ℕ) → HasEndNumbers e n → stop_by d m ++ r ≡ stop_by e n ++ q → (d ≡ e) × (m ≡ n) × (r ≡ q)

end-one : (d e : EndShown) (m : ℕ) (r : List ℕ) → HasEndNumbers d m → IsEndLike (end_form d) e → IsSameEnd d m r e
end-one shown.TheVariants.Finished e m r fits is =
    subst (IsSameEnd shown.TheVariants.Finished m r) (sym is) (λ n q fn same.
    let one = number-one (codes "finished retired ") m n r q fits fn same in (refl, one.0, one.1))
end-one shown.TheVariants.Fuel e m r fits is =
    subst (IsSameEnd shown.TheVariants.Fuel m r) (sym is) (λ n q fn same.
    let one = number-one (codes "fuel retired ") m n r q fits fn same in (refl, one.0, one.1))
end-one (shown.TheVariants.Trap k pc value) e m r fits is =
    subst (IsSameEnd (shown.TheVariants.Trap k pc value) m r) (sym is.2) (λ n q fn same.
    let one = trap-one (trap_front k) (record { pc = pc; value = value; retired = m }) (record { pc = is.0; value = is.1; retired = n }) r q fits fn same in
    (ap (λ (t : Trapped). shown.TheVariants.Trap k t.pc t.value) one.0, ap (λ (t : Trapped). t.retired) one.0, one.1))
end-one (shown.TheVariants.Waits lock) e m r fits is =
    subst (IsSameEnd (shown.TheVariants.Waits lock) m r) (sym is.1) (λ n q fn same.
    let one = pair-one (codes "waits ") (codes "retired ") 10 refl lock.0 m is.0.0 n r q fits.0 fits.1 fn.0 fn.1 same in
    (ap (λ x. shown.TheVariants.Waits (record { 0 = x })) one.0, one.1, one.2))

-- ---- lines of each form

task-one : IsOne HasTaskNumbers task_line
task-one t u r q ft fu is =
    let two =
    pair-one (codes "task ") [] 32 refl t.phase.0 t.core.0 u.phase.0 u.core.0 _ _ ft.phase ft.core fu.phase fu.core (sym (task-parts t r) ∙ is ∙ task-parts u q) in
    let end' = end-one t.end u.end t.retired r ft.ended (end-like t.end u.end t.retired u.retired r q two.2) u.retired q fu.ended two.2 in
    (λ i. record { phase = record { 0 = two.0 i }; core = record { 0 = two.1 i }; end = end'.0 i; retired = end'.1 i }, end'.2)

address-one : (a v b w : ℕ) (r q : List ℕ) → IsWord a → IsWord v → IsWord b → IsWord w → address_line a v ++ r ≡ address_line b w ++ q → (a ≡ b) × (v ≡ w) × (r ≡ q)
address-one a v b w r q fa fv fb fw is =
    let address = word-one a b _ _ fa fb (append_cancel_left (codes "word ") _ _ (sym (address-parts a v r) ∙ is ∙ address-parts b w q)) in
    let value = word-one v w _ _ fv fw (append_cancel_left space _ _ address.1) in
    (address.0, value.0, append_cancel_left newline r q value.1)

shown-word-one : (w v x y : ℕ) (r q : List ℕ) → IsShownWord w v → IsShownWord x y → word_line w v ++ r ≡ word_line x y ++ q → (w ≡ x) × (v ≡ y) × (r ≡ q)
shown-word-one w v x y r q fits fits' is =
    let parts : address_line (268435456 + 4 * w) v ++ r ≡ address_line (268435456 + 4 * x) y ++ q =
    ap (λ bs. bs ++ r) (sym (word-is w v fits.some)) ∙ is ∙ ap (λ bs. bs ++ q) (word-is x y fits'.some) in
    let one =
    address-one (268435456 + 4 * w) v (268435456 + 4 * x) y r q (omega (arith, fits.word_fits)) fits.value_fits (omega (arith, fits'.word_fits)) fits'.value_fits
    parts in
    (omega (arith, one.0), one.1, one.2)

grant-one : IsOne HasGrantNumbers grant_line
grant-one g h r q fg fh is =
    let parts = ap (λ bs. bs ++ r) (sym (grant-is g)) ∙ is ∙ ap (λ bs. bs ++ q) (grant-is h) in
    let one = three-one (codes "grant ") g.phase.0 g.core.0 g.lock.0 h.phase.0 h.core.0 h.lock.0 r q fg.phase fg.core fg.lock fh.phase fh.core fh.lock parts in
    (λ i. record { phase = record { 0 = one.0 i }; core = record { 0 = one.1 i }; lock = record { 0 = one.2 i } }, one.3)

count-one : (c : Count) → IsOne IsNumber (count_line_of c)
count-one c m n r q fm fn is =
    number-one (count_front c) m n r q fm fn (ap (λ bs. bs ++ r) (sym (count-is c m)) ∙ is ∙ ap (λ bs. bs ++ q) (count-is c n))

sum-one : IsOne IsWord sum_line
sum-one v w r q fv fw is = word-line-one v w r q fv fw (append_cancel_left (codes "sum ") _ _ (sym (sum-parts v r) ∙ is ∙ sum-parts w q))

named-ticks-one : (name : List ℕ) → IsOne IsTicks (count_line name)
named-ticks-one name t u r q ft fu is =
    ticks-one name t u r q ft fu (ap (λ bs. bs ++ r) (sym (ticks-is name t)) ∙ is ∙ ap (λ bs. bs ++ q) (ticks-is name u))

link-one : IsOne HasLinkNumbers link_line
link-one k l r q fk fl is =
    let event = field-one (codes "link ") 32 0 4294967295 refl (omega arith) k.event l.event _ _ fk.event fl.event (sym (link-parts k r) ∙ is ∙ link-parts l q) in
    let kind = kind-same k.kind l.kind k.finish l.finish r q event.1 in
    let finish =
    ticks-one (kind_front k.kind) k.finish l.finish r q fk.finish fl.finish
    (event.1 ∙ ap (λ (j : EventKind). field (kind_front j) newline l.finish ++ q) (sym kind)) in
    (λ i. record { event = event.0 i; kind = kind i; finish = finish.0 i }, finish.1)

place-one : (name : List ℕ) (p c a d e f : ℕ) (r q : List ℕ) → HasUnboundedNumbers p c a → HasUnboundedNumbers d e f → place_line name p c a ++ r ≡ place_line name d e f ++ q
    → (p ≡ d) × (c ≡ e) × (a ≡ f) × (r ≡ q)
place-one name p c a d e f r q fits fits' is =
    let two =
    pair-one name [] 32 refl p c d e _ _ fits.phase_from fits.core_from fits'.phase_from fits'.core_from
    (sym (place-parts name p c a r) ∙ is ∙ place-parts name d e f q) in
    let pc = word-line-one a f r q fits.pc_word fits'.pc_word two.2 in
    (two.0, two.1, pc.0, pc.1)

varies-one : IsOne IsDataWord varies_line
varies-one v w r q fv fw is =
    let one =
    word-line-one (268435456 + 4 * v) (268435456 + 4 * w) r q (omega (arith, fv)) (omega (arith, fw))
    (append_cancel_left (codes "varies ") _ _ (sym (varies-parts v r) ∙ is ∙ varies-parts w q)) in
    (omega (arith, one.0), one.1)

-- ---- all lines

-- where the line y stands in front of the same bytes, it is the line x, and the same stands behind it
abbrev IsSame : AnswerLine → List ℕ → List ℕ → AnswerLine → Type 0
IsSame x r q y = IsAnswerLine y → answer_line x ++ r ≡ answer_line y ++ q → (x ≡ y) × (r ≡ q)

one-of-form : (x y : AnswerLine) (r q : List ℕ) → IsAnswerLine x → IsLike (line_form x) y → IsSame x r q y
one-of-form (line.TheVariants.Outcome o) y r q fits is =
    subst (IsSame (line.TheVariants.Outcome o) r q) (sym is) (λ _ same. (refl, append_cancel_left (outcome_line o) r q same))
one-of-form (line.TheVariants.Task t) y r q fits is =
    subst (IsSame (line.TheVariants.Task t) r q) (sym is.1) (λ fits' same.
    let one = task-one t is.0 r q fits fits' same in (ap line.TheVariants.Task one.0, one.1))
one-of-form (line.TheVariants.Word w v) y r q fits is =
    subst (IsSame (line.TheVariants.Word w v) r q) (sym is.2) (λ fits' same.
    let one = shown-word-one w v is.0 is.1 r q fits fits' same in (λ i. line.TheVariants.Word (one.0 i) (one.1 i), one.2))
one-of-form (line.TheVariants.Grant g) y r q fits is =
    subst (IsSame (line.TheVariants.Grant g) r q) (sym is.1) (λ fits' same.
    let one = grant-one g is.0 r q fits fits' same in (ap line.TheVariants.Grant one.0, one.1))
one-of-form (line.TheVariants.Count c n) y r q fits is =
    subst (IsSame (line.TheVariants.Count c n) r q) (sym is.1) (λ fits' same.
    let one = count-one c n is.0 r q fits fits' same in (ap (line.TheVariants.Count c) one.0, one.1))
one-of-form (line.TheVariants.Sum v) y r q fits is =
    subst (IsSame (line.TheVariants.Sum v) r q) (sym is.1) (λ fits' same.
    let one = sum-one v is.0 r q fits fits' same in (ap line.TheVariants.Sum one.0, one.1))
one-of-form (line.TheVariants.Time t) y r q fits is =
    subst (IsSame (line.TheVariants.Time t) r q) (sym is.1) (λ fits' same.
    let one = named-ticks-one (codes "time ") t is.0 r q fits fits' same in (ap line.TheVariants.Time one.0, one.1))
one-of-form (line.TheVariants.Network t) y r q fits is =
    subst (IsSame (line.TheVariants.Network t) r q) (sym is.1) (λ fits' same.
    let one = named-ticks-one (codes "network ") t is.0 r q fits fits' same in (ap line.TheVariants.Network one.0, one.1))
one-of-form (line.TheVariants.Link l) y r q fits is =
    subst (IsSame (line.TheVariants.Link l) r q) (sym is.1) (λ fits' same.
    let one = link-one l is.0 r q fits fits' same in (ap line.TheVariants.Link one.0, one.1))
one-of-form (line.TheVariants.Checked a b c) y r q fits is =
    subst (IsSame (line.TheVariants.Checked a b c) r q) (sym is.3) (λ fits' same.
    let one =
    three-one (codes "checked ") a b c is.0 is.1 is.2 r q fits.phases_from fits.tasks_from fits.words_from fits'.phases_from fits'.tasks_from fits'.words_from same in
    (λ i. line.TheVariants.Checked (one.0 i) (one.1 i) (one.2 i), one.3))
one-of-form (line.TheVariants.Unbounded p c a) y r q fits is =
    subst (IsSame (line.TheVariants.Unbounded p c a) r q) (sym is.3) (λ fits' same.
    let one = place-one (codes "unbounded ") p c a is.0 is.1 is.2 r q fits fits' same in
    (λ i. line.TheVariants.Unbounded (one.0 i) (one.1 i) (one.2 i), one.3))
one-of-form (line.TheVariants.Varies w) y r q fits is =
    subst (IsSame (line.TheVariants.Varies w) r q) (sym is.1) (λ fits' same.
    let one = varies-one w is.0 r q fits fits' same in (ap line.TheVariants.Varies one.0, one.1))
one-of-form (line.TheVariants.OpenControl p c a) y r q fits is =
    subst (IsSame (line.TheVariants.OpenControl p c a) r q) (sym is.3) (λ fits' same.
    let one = place-one (codes "open control ") p c a is.0 is.1 is.2 r q fits fits' same in
    (λ i. line.TheVariants.OpenControl (one.0 i) (one.1 i) (one.2 i), one.3))
one-of-form (line.TheVariants.OpenHeld p c l) y r q fits is =
    subst (IsSame (line.TheVariants.OpenHeld p c l) r q) (sym is.3) (λ fits' same.
    let one =
    three-one (codes "open held ") p c l is.0 is.1 is.2 r q fits.phase_from fits.core_from fits.lock_from fits'.phase_from fits'.core_from fits'.lock_from same in
    (λ i. line.TheVariants.OpenHeld (one.0 i) (one.1 i) (one.2 i), one.3))
one-of-form (line.TheVariants.OpenStuck p l) y r q fits is =
    subst (IsSame (line.TheVariants.OpenStuck p l) r q) (sym is.2) (λ fits' same.
    let one = pair-one (codes "open stuck ") [] 10 refl p l is.0 is.1 r q fits.phase_from fits.lock_from fits'.phase_from fits'.lock_from same in
    (λ i. line.TheVariants.OpenStuck (one.0 i) (one.1 i), one.2))
one-of-form (line.TheVariants.Fixed f) y r q fits is =
    subst (IsSame (line.TheVariants.Fixed f) r q) (sym is) (λ _ same. (refl, append_cancel_left (fixed_line f) r q same))

pub one-way : IsOne IsAnswerLine answer_line
one-way x y r q fx fy is = one-of-form x y r q fx (line-like x y r q fx fy is) fy is
