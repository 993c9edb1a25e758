-- Where the tasks of an answer's run stand.
use Rattle.std.proofs.Common.{◌≡◌, ◌<◌, ℕ, zero, suc, length, drop, arith, Bool, true, false, ◌&&◌, cond, nat_le, List, [], ◌∷◌, map, find, get_or, Option, Some, None, option_map, refl, sym, ap, ◌∙◌, subst}
use Rattle.std.specs.List.{All, list_any}
use Rattle.std.proofs.lemmas.Option.{none-some, same_Some, slice_get-get_or, get_or_from_slice_get}
use Rattle.std.proofs.lemmas.List.Elements.{All-map, All-head, All-tail}
use Rattle.dn_base.specs.declared.ids.Grant.{Grant}
use Rattle.region_table.specs.Program.{ProgramParts}
use Rattle.rv_core.specs.declared.ending.TaskEnd.{TaskEnd}
use Rattle.flat_machine.specs.Phases.{Flat, all_tasks}
use Rattle.flat_machine.specs.Grants.{so_far, grants_are_whole}
use Rattle.sentences.specs.declared.stopping.Stop.{Stop}
use Rattle.sentences.specs.Stops.{stop_of, stops_in, stops_by}
use Rattle.explained_answer.specs.declared.line.AnswerLine.{AnswerLine}
use Rattle.explained_answer.specs.Holders.{answer_grants}
use Rattle.explained_answer.specs.Ended.{answer_tasks}
use Rattle.explained_answer.specs.RunAgain.{is_unfinished, fuel_of, stops_within, same_end, are_ends, stops_if, stops_with, stops_of_run, pc_of_end, IsNextOfTask}

-- nothing is said of an answer without a task that waits or is out of fuel
pub none-unfinished : (P : ProgramParts) (lines : List AnswerLine) (tasks : List TaskEnd) (b : Bool) → tasks ≡ answer_tasks lines → b ≡ list_any is_unfinished tasks → b ≡ false
    → [] ≡ stops_of_run P lines
unfolding stops_of_run
none-unfinished P lines tasks b are has not =
    ap (λ (x : Bool). cond x (stops_with P (answer_tasks lines) (answer_grants lines)) []) (sym not ∙ has ∙ ap (list_any is_unfinished) are)

pub some-unfinished : (P : ProgramParts) (lines : List AnswerLine) (tasks : List TaskEnd) (grants : List Grant) (b : Bool) (stops : List Stop) → tasks ≡ answer_tasks lines
    → grants ≡ answer_grants lines → b ≡ list_any is_unfinished tasks → b ≡ true → stops ≡ stops_with P tasks grants → stops ≡ stops_of_run P lines
unfolding stops_of_run
some-unfinished P lines tasks grants b stops are given has there found =
    found ∙ (λ i. stops_with P (are i) (given i))
    ∙ ap (λ (x : Bool). cond x (stops_with P (answer_tasks lines) (answer_grants lines)) []) (sym there ∙ has ∙ ap (list_any is_unfinished) are)

-- where one more task is in the answer than in the run, they don't end so
pub more-wanted : (es : List TaskEnd) (i : ℕ) (ss : List Stop) → i < length es → length ss < 1 → are_ends (drop i es) ss ≡ false
more-wanted [] i ss within few = absurd (omega arith)
more-wanted (e ∷ es) zero [] within few = refl
more-wanted (e ∷ es) zero (s ∷ ss) within few = absurd (omega arith)
more-wanted (e ∷ es) (suc i) ss within few = more-wanted es i ss (omega arith) few

-- ---- the instruction that is named

module _ (P : ProgramParts) (fuel : ℕ) (grants : List Grant) (t : TaskEnd) (pc : ℕ) where
  abbrev Stands : Stop → Type 0
  Stands s = same_end t s.end ≡ true → s.pc ≡ pc → IsNextOfTask P fuel grants t pc

  all-stand : (F : Flat) → so_far P fuel grants ≡ Some F → All Stands (map (stop_of P fuel) (all_tasks F))
  all-stand F e =
      All-map Stands (stop_of P fuel) (all_tasks F)
      (λ k d short same at.
      let task = get_or (all_tasks F) k d in
      let there : get_or (all_tasks F) k task ≡ task = get_or_from_slice_get (all_tasks F) k task task (slice_get-get_or (all_tasks F) k d short) in
      record { last = F; leads = e; task = task; among = (k, (short, sym there)); shown = same; next = at })

  found-stands : (ss : List Stop) → All Stands ss → option_map (λ (s : Stop). s.pc) (find (λ (s : Stop). same_end t s.end) ss) ≡ Some pc → IsNextOfTask P fuel grants t pc
  found-stands [] all e = absurd (none-some pc e)
  found-stands (s ∷ ss) all e = by (same_end t s.end) refl e (λ h. found-stands ss (All-tail Stands s ss all) h)
    where
      by : (b : Bool) → same_end t s.end ≡ b
          → option_map (λ (s : Stop). s.pc) (cond b (Some s) (find (λ (s : Stop). same_end t s.end) ss)) ≡ Some pc
          → (option_map (λ (s : Stop). s.pc) (find (λ (s : Stop). same_end t s.end) ss) ≡ Some pc → IsNextOfTask P fuel grants t pc) → IsNextOfTask P fuel grants t pc
      by true same h rest = All-head Stands s ss all same (same_Some s.pc pc h)
      by false same h rest = rest h

  by-state : (o : Option Flat) → so_far P fuel grants ≡ o → (ss : List Stop) → stops_in P fuel o ≡ Some ss → All Stands ss
  by-state None e ss h = absurd (none-some ss h)
  by-state (Some F) e ss h = by (grants_are_whole P fuel F) h
    where
      by : (b : Bool) → cond b (Some (map (stop_of P fuel) (all_tasks F))) None ≡ Some ss → All Stands ss
      by true h = subst (All Stands) (same_Some (map (stop_of P fuel) (all_tasks F)) ss h) (all-stand F e)
      by false h = absurd (none-some ss h)

  run-stands : (ss : List Stop) → stops_by P fuel grants ≡ Some ss → All Stands ss
  unfolding stops_by
  run-stands ss h = by-state (so_far P fuel grants) refl ss h

  within-stands : (ss : List Stop) → stops_within P fuel grants ≡ Some ss → All Stands ss
  within-stands ss h = by (nat_le 1 fuel && nat_le fuel 32768) h
    where
      by : (b : Bool) → cond b (stops_by P fuel grants) None ≡ Some ss → All Stands ss
      by true h = run-stands ss h
      by false h = absurd (none-some ss h)

  named-by : (ends : List TaskEnd) (o : Option (List Stop)) → stops_within P fuel grants ≡ o → pc_of_end (stops_if ends o) t ≡ Some pc → IsNextOfTask P fuel grants t pc
  named-by ends None is e = absurd (none-some pc e)
  named-by ends (Some ss) is e = by (are_ends ends ss) e
    where
      by : (b : Bool) → pc_of_end (cond b ss []) t ≡ Some pc → IsNextOfTask P fuel grants t pc
      by true h = found-stands ss (within-stands ss is) h
      by false h = absurd (none-some pc h)

pub named-next : (P : ProgramParts) (lines : List AnswerLine) (t : TaskEnd) (pc : ℕ) → pc_of_end (stops_of_run P lines) t ≡ Some pc
    → IsNextOfTask P (fuel_of (answer_tasks lines)) (answer_grants lines) t pc
unfolding stops_of_run
named-next P lines t pc e = by (list_any is_unfinished tasks) e
  where
    tasks : List TaskEnd
    tasks = answer_tasks lines

    grants : List Grant
    grants = answer_grants lines

    by : (b : Bool) → pc_of_end (cond b (stops_with P tasks grants) []) t ≡ Some pc → IsNextOfTask P (fuel_of tasks) grants t pc
    by true h = named-by P (fuel_of tasks) grants t pc tasks (stops_within P (fuel_of tasks) grants) refl h
    by false h = absurd (none-some pc h)
