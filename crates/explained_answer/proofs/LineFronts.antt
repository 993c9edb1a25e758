-- Which line, which end of a task's line and which kind of event stands in front of some bytes shows in the bytes that stand before its numbers.
use Rattle.std.proofs.Common.{◌≡◌, ℕ, ◌+◌, ◌*◌, ◌==◌, ◌&&◌, Bool, true, false, List, [], ◌∷◌, ◌++◌, codes, map, find, Option, Some, None, refl, sym, ap, subst, ◌∙◌}
use Rattle.dn_base.specs.declared.ids.LockId.{LockId}
use Rattle.dn_base.specs.declared.ids.Grant.{Grant}
use Rattle.dn_base.specs.declared.status.Outcome as outcome
use Rattle.dn_base.specs.declared.status.Outcome.{Outcome}
use Rattle.message_net.specs.declared.event.EventKind as event
use Rattle.message_net.specs.declared.event.EventKind.{EventKind}
use Rattle.rv_core.specs.declared.task.TrapKind as kind
use Rattle.rv_core.specs.declared.task.TrapKind.{TrapKind}
use Rattle.rv_core.specs.declared.ending.EndShown as shown
use Rattle.rv_core.specs.declared.ending.EndShown.{EndShown}
use Rattle.rv_core.specs.declared.ending.TaskEnd.{TaskEnd}
use Rattle.text_pieces.specs.Pieces.{newline}
use Rattle.text_pieces.specs.Field.{field}
use Rattle.run_report.specs.Answer.{outcome_line, task_line, words_line}
use Rattle.run_report.specs.Grants.{grant_line}
use Rattle.run_report.specs.Run.{all_kinds, counted_line}
use Rattle.run_report.specs.Summary.{count_line}
use Rattle.run_report.specs.Refusal.{refusal_of}
use Rattle.explained_answer.specs.declared.line.AnswerLine as line
use Rattle.explained_answer.specs.declared.line.AnswerLine.{AnswerLine}
use Rattle.explained_answer.specs.declared.line.Count as count
use Rattle.explained_answer.specs.declared.line.Count.{Count}
use Rattle.explained_answer.specs.declared.line.FixedLine as fixed
use Rattle.explained_answer.specs.declared.line.Link.{Link}
use Rattle.explained_answer.specs.Parts.{pair_fields, three_line}
use Rattle.explained_answer.specs.AnswerLines.{IsAnswerLine, answer_line, address_line, link_line, sum_line, place_line, varies_line, trap_front, trap_rest, stop_by, all_traps, count_front, all_counts, kind_front}
use Rattle.explained_answer.proofs.Forms.{word-is}

-- whether some bytes begin with others
abbrev pub begins : List ℕ → List ℕ → Bool
begins [] bytes = true
begins (c ∷ cs) [] = false
begins (c ∷ cs) (b ∷ bs) = (c == b) && begins cs bs

some-one : {X : Type 0} (o : Option X) (x y : X) → o ≡ Some x → o ≡ Some y → x ≡ y
some-one o x y is is' = cc

-- ---- kinds of event

abbrev kind-there : List ℕ → Option EventKind
kind-there bytes = find (λ k. begins (kind_front k) bytes) all_kinds

kind-shows : (k : EventKind) (n : ℕ) (r : List ℕ) → kind-there (field (kind_front k) newline n ++ r) ≡ Some k
unfolding field all_kinds
kind-shows event.TheVariants.Instr n r = refl
kind-shows event.TheVariants.Evict n r = refl
kind-shows event.TheVariants.Arrive n r = refl
kind-shows event.TheVariants.ReadReq n r = refl
kind-shows event.TheVariants.ReadFwd n r = refl
kind-shows event.TheVariants.DataReply n r = refl
kind-shows event.TheVariants.RegReq n r = refl
kind-shows event.TheVariants.RegFwd n r = refl
kind-shows event.TheVariants.RegAck n r = refl
kind-shows event.TheVariants.WriteBack n r = refl
kind-shows event.TheVariants.WbAck n r = refl
kind-shows event.TheVariants.Acquire n r = refl
kind-shows event.TheVariants.Release n r = refl
kind-shows event.TheVariants.Grant n r = refl
kind-shows event.TheVariants.Arrived n r = refl
kind-shows event.TheVariants.Go n r = refl
kind-shows event.TheVariants.Halt n r = refl

pub kind-same : (j k : EventKind) (m n : ℕ) (r q : List ℕ) → field (kind_front j) newline m ++ r ≡ field (kind_front k) newline n ++ q → j ≡ k
kind-same j k m n r q is = some-one (kind-there (field (kind_front j) newline m ++ r)) j k (kind-shows j m r) (ap kind-there is ∙ kind-shows k n q)

-- ---- ends of a task's line

-- what stands before the numbers
abbrev end_front : EndShown → List ℕ
end_front shown.TheVariants.Finished = codes "finished retired "
end_front shown.TheVariants.Fuel = codes "fuel retired "
end_front (shown.TheVariants.Trap k pc value) = trap_front k
end_front (shown.TheVariants.Waits lock) = codes "waits "

-- an end with zeros as its numbers
abbrev pub end_form : EndShown → EndShown
end_form shown.TheVariants.Finished = shown.TheVariants.Finished
end_form shown.TheVariants.Fuel = shown.TheVariants.Fuel
end_form (shown.TheVariants.Trap k pc value) = shown.TheVariants.Trap k 0 0
end_form (shown.TheVariants.Waits lock) = shown.TheVariants.Waits (record { 0 = 0 })

abbrev end_forms : List EndShown
end_forms =
    shown.TheVariants.Finished ∷ shown.TheVariants.Fuel ∷ shown.TheVariants.Waits (record { 0 = 0 }) ∷ map (λ (k : TrapKind). shown.TheVariants.Trap k 0 0) all_traps

abbrev end-there : List ℕ → Option EndShown
end-there bytes = find (λ e. begins (end_front e) bytes) end_forms

end-shows : (e : EndShown) (n : ℕ) (r : List ℕ) → end-there (stop_by e n ++ r) ≡ Some (end_form e)
unfolding field pair_fields trap_rest all_traps
end-shows shown.TheVariants.Finished n r = refl
end-shows shown.TheVariants.Fuel n r = refl
end-shows (shown.TheVariants.Waits lock) n r = refl
end-shows (shown.TheVariants.Trap kind.TheVariants.Fetch pc v) n r = refl
end-shows (shown.TheVariants.Trap kind.TheVariants.Illegal pc v) n r = refl
end-shows (shown.TheVariants.Trap kind.TheVariants.Target pc v) n r = refl
end-shows (shown.TheVariants.Trap kind.TheVariants.Misaligned pc v) n r = refl
end-shows (shown.TheVariants.Trap kind.TheVariants.Outside pc v) n r = refl
end-shows (shown.TheVariants.Trap kind.TheVariants.Break pc v) n r = refl
end-shows (shown.TheVariants.Trap kind.TheVariants.Call pc v) n r = refl
end-shows (shown.TheVariants.Trap kind.TheVariants.NoLock pc v) n r = refl
end-shows (shown.TheVariants.Trap kind.TheVariants.Held pc v) n r = refl
end-shows (shown.TheVariants.Trap kind.TheVariants.NotHeld pc v) n r = refl
end-shows (shown.TheVariants.Trap kind.TheVariants.HeldEnd pc v) n r = refl

-- an end of the same form
abbrev pub IsEndLike : EndShown → EndShown → Type 0
IsEndLike shown.TheVariants.Finished e = e ≡ shown.TheVariants.Finished
IsEndLike shown.TheVariants.Fuel e = e ≡ shown.TheVariants.Fuel
IsEndLike (shown.TheVariants.Trap k pc value) e = (p : ℕ) × (v : ℕ) × (e ≡ shown.TheVariants.Trap k p v)
IsEndLike (shown.TheVariants.Waits lock) e = (l : LockId) × (e ≡ shown.TheVariants.Waits l)

end-of-form : (e : EndShown) → IsEndLike (end_form e) e
end-of-form shown.TheVariants.Finished = refl
end-of-form shown.TheVariants.Fuel = refl
end-of-form (shown.TheVariants.Trap k pc value) = (pc, value, refl)
end-of-form (shown.TheVariants.Waits lock) = (lock, refl)

pub end-like : (d e : EndShown) (m n : ℕ) (r q : List ℕ) → stop_by d m ++ r ≡ stop_by e n ++ q → IsEndLike (end_form d) e
end-like d e m n r q is =
    let form : end_form e ≡ end_form d = some-one (end-there (stop_by e n ++ q)) _ _ (end-shows e n q) (ap end-there (sym is) ∙ end-shows d m r) in
    subst (λ f. IsEndLike f e) form (end-of-form e)

-- ---- lines

-- what stands before the numbers
abbrev line_front : AnswerLine → List ℕ
line_front (line.TheVariants.Task t) = codes "task "
line_front (line.TheVariants.Word w v) = codes "word "
line_front (line.TheVariants.Grant g) = codes "grant "
line_front (line.TheVariants.Count c n) = count_front c
line_front (line.TheVariants.Sum v) = codes "sum "
line_front (line.TheVariants.Time t) = codes "time "
line_front (line.TheVariants.Network t) = codes "network "
line_front (line.TheVariants.Link l) = codes "link "
line_front (line.TheVariants.Checked a b c) = codes "checked "
line_front (line.TheVariants.Unbounded p c a) = codes "unbounded "
line_front (line.TheVariants.Varies w) = codes "varies "
line_front (line.TheVariants.OpenControl p c a) = codes "open control "
line_front (line.TheVariants.OpenHeld p c l) = codes "open held "
line_front (line.TheVariants.OpenStuck p l) = codes "open stuck "
line_front x = answer_line x

-- a line with zeros as its numbers
abbrev pub line_form : AnswerLine → AnswerLine
line_form (line.TheVariants.Outcome o) = line.TheVariants.Outcome o
line_form (line.TheVariants.Task t) =
    line.TheVariants.Task (record { phase = record { 0 = 0 }; core = record { 0 = 0 }; end = shown.TheVariants.Finished; retired = 0 })
line_form (line.TheVariants.Word w v) = line.TheVariants.Word 0 0
line_form (line.TheVariants.Grant g) = line.TheVariants.Grant (record { phase = record { 0 = 0 }; core = record { 0 = 0 }; lock = record { 0 = 0 } })
line_form (line.TheVariants.Count c n) = line.TheVariants.Count c 0
line_form (line.TheVariants.Sum v) = line.TheVariants.Sum 0
line_form (line.TheVariants.Time t) = line.TheVariants.Time 0
line_form (line.TheVariants.Network t) = line.TheVariants.Network 0
line_form (line.TheVariants.Link l) = line.TheVariants.Link (record { event = 0; kind = event.TheVariants.Instr; finish = 0 })
line_form (line.TheVariants.Checked a b c) = line.TheVariants.Checked 0 0 0
line_form (line.TheVariants.Unbounded p c a) = line.TheVariants.Unbounded 0 0 0
line_form (line.TheVariants.Varies w) = line.TheVariants.Varies 0
line_form (line.TheVariants.OpenControl p c a) = line.TheVariants.OpenControl 0 0 0
line_form (line.TheVariants.OpenHeld p c l) = line.TheVariants.OpenHeld 0 0 0
line_form (line.TheVariants.OpenStuck p l) = line.TheVariants.OpenStuck 0 0
line_form (line.TheVariants.Fixed f) = line.TheVariants.Fixed f

abbrev line_forms : List AnswerLine
line_forms =
    line.TheVariants.Outcome outcome.TheVariants.Done ∷ line.TheVariants.Outcome outcome.TheVariants.Trapped
    ∷ line.TheVariants.Outcome outcome.TheVariants.Fuel ∷ line.TheVariants.Outcome outcome.TheVariants.Stuck
    ∷ line.TheVariants.Fixed fixed.TheVariants.Inside ∷ line.TheVariants.Fixed fixed.TheVariants.Usage ∷ line.TheVariants.Fixed fixed.TheVariants.TooLarge
    ∷ line.TheVariants.Fixed fixed.TheVariants.Head ∷ line.TheVariants.Fixed fixed.TheVariants.Rest ∷ line.TheVariants.Fixed fixed.TheVariants.Incomplete
    ∷ line.TheVariants.Task (record { phase = record { 0 = 0 }; core = record { 0 = 0 }; end = shown.TheVariants.Finished; retired = 0 })
    ∷ line.TheVariants.Word 0 0 ∷ line.TheVariants.Grant (record { phase = record { 0 = 0 }; core = record { 0 = 0 }; lock = record { 0 = 0 } })
    ∷ line.TheVariants.Sum 0 ∷ line.TheVariants.Time 0 ∷ line.TheVariants.Network 0 ∷ line.TheVariants.Link (record { event = 0; kind = event.TheVariants.Instr; finish = 0 })
    ∷ line.TheVariants.Checked 0 0 0 ∷ line.TheVariants.Unbounded 0 0 0
    ∷ line.TheVariants.Varies 0 ∷ line.TheVariants.OpenControl 0 0 0 ∷ line.TheVariants.OpenHeld 0 0 0 ∷ line.TheVariants.OpenStuck 0 0 ∷ map (λ (c : Count). line.TheVariants.Count c 0) all_counts

abbrev pub line-there : List ℕ → Option AnswerLine
unfolding outcome_line refusal_of all_counts
line-there bytes = find (λ x. begins (line_front x) bytes) line_forms

word-shows : (a v : ℕ) (r : List ℕ) → line-there (address_line a v ++ r) ≡ Some (line.TheVariants.Word 0 0)
unfolding address_line outcome_line refusal_of all_counts
word-shows a v r = refl

line-shows : (x : AnswerLine) (r : List ℕ) → IsAnswerLine x → line-there (answer_line x ++ r) ≡ Some (line_form x)
unfolding outcome_line task_line words_line counted_line count_line grant_line sum_line link_line three_line place_line varies_line pair_fields field refusal_of all_counts
line-shows (line.TheVariants.Outcome outcome.TheVariants.Done) r fits = refl
line-shows (line.TheVariants.Outcome outcome.TheVariants.Trapped) r fits = refl
line-shows (line.TheVariants.Outcome outcome.TheVariants.Fuel) r fits = refl
line-shows (line.TheVariants.Outcome outcome.TheVariants.Stuck) r fits = refl
line-shows (line.TheVariants.Task t) r fits = refl
line-shows (line.TheVariants.Word w v) r fits = ap (λ bs. line-there (bs ++ r)) (word-is w v fits.some) ∙ word-shows (268435456 + 4 * w) v r
line-shows (line.TheVariants.Grant g) r fits = refl
line-shows (line.TheVariants.Count count.TheVariants.Words n) r fits = refl
line-shows (line.TheVariants.Count count.TheVariants.Events n) r fits = refl
line-shows (line.TheVariants.Count (count.TheVariants.Kind event.TheVariants.Instr) n) r fits = refl
line-shows (line.TheVariants.Count (count.TheVariants.Kind event.TheVariants.Evict) n) r fits = refl
line-shows (line.TheVariants.Count (count.TheVariants.Kind event.TheVariants.Arrive) n) r fits = refl
line-shows (line.TheVariants.Count (count.TheVariants.Kind event.TheVariants.ReadReq) n) r fits = refl
line-shows (line.TheVariants.Count (count.TheVariants.Kind event.TheVariants.ReadFwd) n) r fits = refl
line-shows (line.TheVariants.Count (count.TheVariants.Kind event.TheVariants.DataReply) n) r fits = refl
line-shows (line.TheVariants.Count (count.TheVariants.Kind event.TheVariants.RegReq) n) r fits = refl
line-shows (line.TheVariants.Count (count.TheVariants.Kind event.TheVariants.RegFwd) n) r fits = refl
line-shows (line.TheVariants.Count (count.TheVariants.Kind event.TheVariants.RegAck) n) r fits = refl
line-shows (line.TheVariants.Count (count.TheVariants.Kind event.TheVariants.WriteBack) n) r fits = refl
line-shows (line.TheVariants.Count (count.TheVariants.Kind event.TheVariants.WbAck) n) r fits = refl
line-shows (line.TheVariants.Count (count.TheVariants.Kind event.TheVariants.Acquire) n) r fits = refl
line-shows (line.TheVariants.Count (count.TheVariants.Kind event.TheVariants.Release) n) r fits = refl
line-shows (line.TheVariants.Count (count.TheVariants.Kind event.TheVariants.Grant) n) r fits = refl
line-shows (line.TheVariants.Count (count.TheVariants.Kind event.TheVariants.Arrived) n) r fits = refl
line-shows (line.TheVariants.Count (count.TheVariants.Kind event.TheVariants.Go) n) r fits = refl
line-shows (line.TheVariants.Count (count.TheVariants.Kind event.TheVariants.Halt) n) r fits = refl
line-shows (line.TheVariants.Count count.TheVariants.Tasks n) r fits = refl
line-shows (line.TheVariants.Count count.TheVariants.Retired n) r fits = refl
line-shows (line.TheVariants.Count count.TheVariants.Links n) r fits = refl
line-shows (line.TheVariants.Count count.TheVariants.WholeEvents n) r fits = refl
line-shows (line.TheVariants.Count count.TheVariants.EnabledEvents n) r fits = refl
line-shows (line.TheVariants.Sum v) r fits = refl
line-shows (line.TheVariants.Time t) r fits = refl
line-shows (line.TheVariants.Network t) r fits = refl
line-shows (line.TheVariants.Link l) r fits = refl
line-shows (line.TheVariants.Checked a b c) r fits = refl
line-shows (line.TheVariants.Unbounded p c a) r fits = refl
line-shows (line.TheVariants.Varies w) r fits = refl
line-shows (line.TheVariants.OpenControl p c a) r fits = refl
line-shows (line.TheVariants.OpenHeld p c l) r fits = refl
line-shows (line.TheVariants.OpenStuck p l) r fits = refl
line-shows (line.TheVariants.Fixed fixed.TheVariants.Inside) r fits = refl
line-shows (line.TheVariants.Fixed fixed.TheVariants.Usage) r fits = refl
line-shows (line.TheVariants.Fixed fixed.TheVariants.TooLarge) r fits = refl
line-shows (line.TheVariants.Fixed fixed.TheVariants.Head) r fits = refl
line-shows (line.TheVariants.Fixed fixed.TheVariants.Rest) r fits = refl
line-shows (line.TheVariants.Fixed fixed.TheVariants.Incomplete) r fits = refl

-- a line of the same form
abbrev pub IsLike : AnswerLine → AnswerLine → Type 0
IsLike (line.TheVariants.Outcome o) y = y ≡ line.TheVariants.Outcome o
IsLike (line.TheVariants.Task t) y = (u : TaskEnd) × (y ≡ line.TheVariants.Task u)
IsLike (line.TheVariants.Word w v) y = (w' : ℕ) × (v' : ℕ) × (y ≡ line.TheVariants.Word w' v')
IsLike (line.TheVariants.Grant g) y = (h : Grant) × (y ≡ line.TheVariants.Grant h)
IsLike (line.TheVariants.Count c n) y = (m : ℕ) × (y ≡ line.TheVariants.Count c m)
IsLike (line.TheVariants.Sum v) y = (w : ℕ) × (y ≡ line.TheVariants.Sum w)
IsLike (line.TheVariants.Time t) y = (u : ℕ) × (y ≡ line.TheVariants.Time u)
IsLike (line.TheVariants.Network t) y = (u : ℕ) × (y ≡ line.TheVariants.Network u)
IsLike (line.TheVariants.Link l) y = (k : Link) × (y ≡ line.TheVariants.Link k)
IsLike (line.TheVariants.Checked a b c) y = (d : ℕ) × (e : ℕ) × (f : ℕ) × (y ≡ line.TheVariants.Checked d e f)
IsLike (line.TheVariants.Unbounded p c a) y = (d : ℕ) × (e : ℕ) × (f : ℕ) × (y ≡ line.TheVariants.Unbounded d e f)
IsLike (line.TheVariants.Varies w) y = (v : ℕ) × (y ≡ line.TheVariants.Varies v)
IsLike (line.TheVariants.OpenControl p c a) y = (d : ℕ) × (e : ℕ) × (f : ℕ) × (y ≡ line.TheVariants.OpenControl d e f)
IsLike (line.TheVariants.OpenHeld p c l) y = (d : ℕ) × (e : ℕ) × (f : ℕ) × (y ≡ line.TheVariants.OpenHeld d e f)
IsLike (line.TheVariants.OpenStuck p l) y = (d : ℕ) × (e : ℕ) × (y ≡ line.TheVariants.OpenStuck d e)
IsLike (line.TheVariants.Fixed f) y = y ≡ line.TheVariants.Fixed f

line-of-form : (y : AnswerLine) → IsLike (line_form y) y
line-of-form (line.TheVariants.Outcome o) = refl
line-of-form (line.TheVariants.Task t) = (t, refl)
line-of-form (line.TheVariants.Word w v) = (w, v, refl)
line-of-form (line.TheVariants.Grant g) = (g, refl)
line-of-form (line.TheVariants.Count c n) = (n, refl)
line-of-form (line.TheVariants.Sum v) = (v, refl)
line-of-form (line.TheVariants.Time t) = (t, refl)
line-of-form (line.TheVariants.Network t) = (t, refl)
line-of-form (line.TheVariants.Link l) = (l, refl)
line-of-form (line.TheVariants.Checked a b c) = (a, b, c, refl)
line-of-form (line.TheVariants.Unbounded p c a) = (p, c, a, refl)
line-of-form (line.TheVariants.Varies w) = (w, refl)
line-of-form (line.TheVariants.OpenControl p c a) = (p, c, a, refl)
line-of-form (line.TheVariants.OpenHeld p c l) = (p, c, l, refl)
line-of-form (line.TheVariants.OpenStuck p l) = (p, l, refl)
line-of-form (line.TheVariants.Fixed f) = refl

pub line-like : (x y : AnswerLine) (r q : List ℕ) → IsAnswerLine x → IsAnswerLine y → answer_line x ++ r ≡ answer_line y ++ q → IsLike (line_form x) y
line-like x y r q fx fy is =
    let form : line_form y ≡ line_form x = some-one (line-there (answer_line y ++ q)) _ _ (line-shows y q fy) (ap line-there (sym is) ∙ line-shows x r fx) in
    subst (λ f. IsLike f y) form (line-of-form y)

-- no line stands there where none of the fronts does
pub not-there : (x : AnswerLine) (r bytes : List ℕ) → IsAnswerLine x → line-there bytes ≡ None → bytes ≡ answer_line x ++ r → ⊥
not-there x r bytes fits none is =
    let other : ◌≡◌ {A = Option AnswerLine} (Some (line_form x)) None = sym (line-shows x r fits) ∙ ap line-there (sym is) ∙ none in absurd (cc)

-- the document of a run doesn't begin as a line does
pub no-document-there : (rest : List ℕ) → line-there (codes "denovo-" ++ rest) ≡ None
unfolding outcome_line refusal_of all_counts
no-document-there rest = refl
