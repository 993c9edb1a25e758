-- The lines of links, of programs, and lines without a number.
use Rattle.std.proofs.Common.{◌≡◌, ◌≢◌, ℕ, ◌+◌, ◌*◌, List, [], ◌++◌, codes, Option, Some, None, IfSome, IfNone, Bor, refl, sym, ap, ◌∙◌, append_assoc}
use Rattle.std.proofs.lemmas.List.{append_cancel_left}
use Rattle.dn_base.specs.declared.ids.Grant.{Grant}
use Rattle.run_report.specs.Grants.{grant_line}
use Rattle.std.specs.Fmt.{decimal}
use Rattle.text_pieces.specs.Pieces.{newline, space, hexadecimal}
use Rattle.text_pieces.specs.Base16.{IsWord}
use Rattle.text_pieces.specs.Field.{field, Stands, NoneStands}
use Rattle.run_report.specs.Run.{event_word}
use Rattle.run_report.specs.Summary.{count_line}
use Rattle.run_report.specs.Refusal.{refusal_of}
use Rattle.explained_answer.specs.declared.line.AnswerLine as line
use Rattle.explained_answer.specs.declared.line.FixedLine as fixed
use Rattle.explained_answer.specs.declared.line.FixedLine.{FixedLine}
use Rattle.explained_answer.specs.declared.line.Link.{Link}
use Rattle.explained_answer.specs.Parts.{IsTicks, pair_fields, three_line, StandPair, StandThree, hexadecimal_line}
use Rattle.explained_answer.specs.AnswerLines.{HasLinkNumbers, IsDataWord, IsOtherLine, StandPlace, answer_line, kind_front, fixed_line, link_line, sum_line, place_line, varies_line, IsOpenLine}

link-regroup : (name e k t r : List ℕ) → (name ++ e ++ space ++ k ++ space ++ t ++ newline) ++ r ≡ (name ++ e ++ space) ++ (((k ++ space) ++ t ++ newline) ++ r)
link-regroup name e k t r = simp append_assoc

pub link-parts : (l : Link) (r : List ℕ) → link_line l ++ r ≡ field (codes "link ") space l.event ++ (field (kind_front l.kind) newline l.finish ++ r)
unfolding link_line field
link-parts l r = link-regroup (codes "link ") (decimal l.event) (event_word l.kind) (decimal l.finish) r

three-regroup : (name a b c r : List ℕ) → (name ++ a ++ space ++ b ++ space ++ c ++ newline) ++ r ≡ ((name ++ a ++ space) ++ (b ++ space)) ++ ((c ++ newline) ++ r)
three-regroup name a b c r = simp append_assoc

pub three-parts : (name : List ℕ) (a b c : ℕ) (r : List ℕ) → three_line name a b c ++ r ≡ pair_fields name [] 32 a b ++ (field [] newline c ++ r)
unfolding three_line pair_fields field
three-parts name a b c r = three-regroup name (decimal a) (decimal b) (decimal c) r

pub place-parts : (name : List ℕ) (p c a : ℕ) (r : List ℕ) → place_line name p c a ++ r ≡ pair_fields name [] 32 p c ++ (hexadecimal_line a ++ r)
unfolding place_line pair_fields field hexadecimal_line
place-parts name p c a r = three-regroup name (decimal p) (decimal c) (hexadecimal a) r

pub hexadecimal-parts : (a : ℕ) (r : List ℕ) → hexadecimal_line a ++ r ≡ hexadecimal a ++ (newline ++ r)
unfolding hexadecimal_line
hexadecimal-parts a r = append_assoc (hexadecimal a) newline r

sum-regroup : (name a r : List ℕ) → (name ++ a ++ newline) ++ r ≡ name ++ ((a ++ newline) ++ r)
sum-regroup name a r = simp append_assoc

pub sum-parts : (a : ℕ) (r : List ℕ) → sum_line a ++ r ≡ codes "sum " ++ (hexadecimal_line a ++ r)
unfolding sum_line hexadecimal_line
sum-parts a r = sum-regroup (codes "sum ") (hexadecimal a) r

pub varies-parts : (w : ℕ) (r : List ℕ) → varies_line w ++ r ≡ codes "varies " ++ (hexadecimal_line (268435456 + 4 * w) ++ r)
unfolding varies_line hexadecimal_line
varies-parts w r = sum-regroup (codes "varies ") (hexadecimal (268435456 + 4 * w)) r

pub grant-is : (g : Grant) → grant_line g ≡ three_line (codes "grant ") g.phase.0 g.core.0 g.lock.0
unfolding grant_line three_line
grant-is g = refl

-- a number behind a name
pub sum-some : (bytes behind : List ℕ) → bytes ≡ codes "sum " ++ behind → (o : Option (ℕ × Bor (List ℕ))) → IfSome o (λ f. Stands IsWord hexadecimal_line behind f.0 f.1.now)
    → IfSome o (λ f. Stands IsWord sum_line bytes f.0 f.1.now)
sum-some bytes behind is None h = tt
sum-some bytes behind is (Some f) h = record { fits = h.fits; parts = is ∙ ap (λ xs. codes "sum " ++ xs) h.parts ∙ sym (sum-parts f.0 f.1.now) }

pub sum-none : (bytes behind : List ℕ) → bytes ≡ codes "sum " ++ behind → (o : Option (ℕ × Bor (List ℕ))) → IfNone o (NoneStands IsWord hexadecimal_line behind)
    → IfNone o (NoneStands IsWord sum_line bytes)
sum-none bytes behind is None h = λ v rest st.
    h v rest (record { fits = st.fits; parts = append_cancel_left (codes "sum ") _ _ (sym is ∙ st.parts ∙ sum-parts v rest) })
sum-none bytes behind is (Some f) h = tt

pub ticks-is : (name : List ℕ) (t : ℕ) → count_line name t ≡ field name newline t
unfolding count_line field
ticks-is name t = refl

-- no line without a number stands there where none of the six does
pub no-fixed : (bytes : List ℕ) → ((rest : List ℕ) → bytes ≢ (codes "proved inside" ++ newline) ++ rest) → ((rest : List ℕ) → bytes ≢ (codes "refused usage" ++ newline) ++ rest)
    → ((rest : List ℕ) → bytes ≢ (codes "refused trace too-large" ++ newline) ++ rest) → ((rest : List ℕ) → bytes ≢ (codes "refused trace head" ++ newline) ++ rest)
    → ((rest : List ℕ) → bytes ≢ (codes "refused trace rest" ++ newline) ++ rest) → ((rest : List ℕ) → bytes ≢ (codes "refused trace incomplete" ++ newline) ++ rest)
    → (l : FixedLine) (rest : List ℕ) → bytes ≢ fixed_line l ++ rest
unfolding refusal_of
no-fixed bytes inside usage large head rest' incomplete fixed.TheVariants.Inside rest is = inside rest is
no-fixed bytes inside usage large head rest' incomplete fixed.TheVariants.Usage rest is = usage rest is
no-fixed bytes inside usage large head rest' incomplete fixed.TheVariants.TooLarge rest is = large rest is
no-fixed bytes inside usage large head rest' incomplete fixed.TheVariants.Head rest is = head rest is
no-fixed bytes inside usage large head rest' incomplete fixed.TheVariants.Rest rest is = rest' rest is
no-fixed bytes inside usage large head rest' incomplete fixed.TheVariants.Incomplete rest is = incomplete rest is

-- none of these lines stands there where none of their forms does
pub no-other : (bytes : List ℕ) → ((a b c : ℕ) (rest : List ℕ) → StandThree (codes "checked ") bytes a b c rest → ⊥)
    → ((p c a : ℕ) (rest : List ℕ) → StandPlace (codes "unbounded ") bytes p c a rest → ⊥) → NoneStands IsWord sum_line bytes
    → NoneStands IsTicks (field (codes "time ") newline) bytes → NoneStands IsTicks (field (codes "network ") newline) bytes → NoneStands HasLinkNumbers link_line bytes
    → ((l : FixedLine) (rest : List ℕ) → bytes ≢ fixed_line l ++ rest) → NoneStands IsOpenLine answer_line bytes → NoneStands IsOtherLine answer_line bytes
no-other bytes checked unbounded sums times networks links fixeds opens (line.TheVariants.Sum v) rest st = sums v rest (record { fits = st.fits; parts = st.parts })
no-other bytes checked unbounded sums times networks links fixeds opens (line.TheVariants.Time t) rest st = times t rest (record { fits = st.fits; parts = rw (← ticks-is (codes "time ") t) st.parts })
no-other bytes checked unbounded sums times networks links fixeds opens (line.TheVariants.Network t) rest st = networks t rest (record { fits = st.fits; parts = rw (← ticks-is (codes "network ") t) st.parts })
no-other bytes checked unbounded sums times networks links fixeds opens (line.TheVariants.Link l) rest st = links l rest (record { fits = st.fits; parts = st.parts })
no-other bytes checked unbounded sums times networks links fixeds opens (line.TheVariants.Checked a b c) rest st =
    checked a b c rest (record { first_from = st.fits.phases_from; second_from = st.fits.tasks_from; third_from = st.fits.words_from; parts = st.parts })
no-other bytes checked unbounded sums times networks links fixeds opens (line.TheVariants.Unbounded p c a) rest st = unbounded p c a rest (record { numbers = st.fits; parts = st.parts })
no-other bytes checked unbounded sums times networks links fixeds opens (line.TheVariants.Varies w) rest st =
    opens (line.TheVariants.Varies w) rest (record { fits = st.fits; parts = st.parts })
no-other bytes checked unbounded sums times networks links fixeds opens (line.TheVariants.OpenControl p c a) rest st =
    opens (line.TheVariants.OpenControl p c a) rest (record { fits = st.fits; parts = st.parts })
no-other bytes checked unbounded sums times networks links fixeds opens (line.TheVariants.OpenHeld p c l) rest st =
    opens (line.TheVariants.OpenHeld p c l) rest (record { fits = st.fits; parts = st.parts })
no-other bytes checked unbounded sums times networks links fixeds opens (line.TheVariants.OpenStuck p l) rest st =
    opens (line.TheVariants.OpenStuck p l) rest (record { fits = st.fits; parts = st.parts })
no-other bytes checked unbounded sums times networks links fixeds opens (line.TheVariants.Fixed f) rest st = fixeds f rest st.parts
no-other bytes checked unbounded sums times networks links fixeds opens (line.TheVariants.Outcome o) rest st = st.fits
no-other bytes checked unbounded sums times networks links fixeds opens (line.TheVariants.Task t) rest st = st.fits
no-other bytes checked unbounded sums times networks links fixeds opens (line.TheVariants.Word w v) rest st = st.fits
no-other bytes checked unbounded sums times networks links fixeds opens (line.TheVariants.Grant g) rest st = st.fits
no-other bytes checked unbounded sums times networks links fixeds opens (line.TheVariants.Count c n) rest st = st.fits

-- no line on what runs have in common stands there where none of their forms does
pub no-open : (bytes : List ℕ) → NoneStands IsDataWord varies_line bytes → ((p c a : ℕ) (rest : List ℕ) → StandPlace (codes "open control ") bytes p c a rest → ⊥)
    → ((a b c : ℕ) (rest : List ℕ) → StandThree (codes "open held ") bytes a b c rest → ⊥)
    → ((a b : ℕ) (rest : List ℕ) → StandPair (codes "open stuck ") [] 10 bytes a b rest → ⊥) → NoneStands IsOpenLine answer_line bytes
no-open bytes varies control held stuck (line.TheVariants.Varies w) rest st = varies w rest (record { fits = st.fits; parts = st.parts })
no-open bytes varies control held stuck (line.TheVariants.OpenControl p c a) rest st = control p c a rest (record { numbers = st.fits; parts = st.parts })
no-open bytes varies control held stuck (line.TheVariants.OpenHeld p c l) rest st =
    held p c l rest (record { first_from = st.fits.phase_from; second_from = st.fits.core_from; third_from = st.fits.lock_from; parts = st.parts })
no-open bytes varies control held stuck (line.TheVariants.OpenStuck p l) rest st =
    stuck p l rest (record { first_from = st.fits.phase_from; second_from = st.fits.lock_from; parts = st.parts })
no-open bytes varies control held stuck (line.TheVariants.Outcome o) rest st = st.fits
no-open bytes varies control held stuck (line.TheVariants.Task t) rest st = st.fits
no-open bytes varies control held stuck (line.TheVariants.Word w v) rest st = st.fits
no-open bytes varies control held stuck (line.TheVariants.Grant g) rest st = st.fits
no-open bytes varies control held stuck (line.TheVariants.Count c n) rest st = st.fits
no-open bytes varies control held stuck (line.TheVariants.Sum v) rest st = st.fits
no-open bytes varies control held stuck (line.TheVariants.Time t) rest st = st.fits
no-open bytes varies control held stuck (line.TheVariants.Network t) rest st = st.fits
no-open bytes varies control held stuck (line.TheVariants.Link l) rest st = st.fits
no-open bytes varies control held stuck (line.TheVariants.Checked a b c) rest st = st.fits
no-open bytes varies control held stuck (line.TheVariants.Unbounded p c a) rest st = st.fits
no-open bytes varies control held stuck (line.TheVariants.Fixed f) rest st = st.fits
