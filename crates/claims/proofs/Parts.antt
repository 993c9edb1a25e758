-- What the reader puts together of what it found.
use Rattle.std.proofs.Common.{◌≡◌, ◌≢◌, ℕ, ◌≤◌, List, [], ◌∷◌, ◌++◌, flat_map, length, Option, Some, None, refl, sym, ap, subst, ◌∙◌, ◌<◌, arith, append_assoc, append-nil}
use Rattle.dn_base.specs.declared.ids.Grant.{Grant}
use Rattle.dn_base.specs.declared.ids.LoadSeen.{LoadSeen}
use Rattle.flat_machine.specs.declared.ending.TaskLoads.{TaskLoads}
use Rattle.text_pieces.specs.Field.{Stands}
use Rattle.text_pieces.specs.Parts.{StandAll, IsBrokenAt}
use Rattle.claims.specs.declared.claim.Question.{Question}
use Rattle.claims.specs.declared.claim.ClaimFault.{ClaimFault}
use Rattle.claims.specs.declared.claim.ClaimFault.TheVariants.{Loads as NoLoads, Task as NoTask, Load as NoLoad, Memory}
use Rattle.claims.specs.declared.head.Heading.{Heading}
use Rattle.claims.specs.declared.rows.TaskHead.{TaskHead}
use Rattle.claims.specs.Claim.{most_bytes, Head, IsHead, head_text, IsGrant, grant_row, IsLoads, IsLoadsHead, loads_head_row, loads_text, IsTask, task_rows, IsTaskHead, task_head_row, IsLoad, load_row, IsClaimDocument, claim_text}
use Rattle.claims.specs.Alone.{IsOrderDocument, order_text}
use Rattle.claims.specs.Faults.{BeginsWithGrants, IsBrokenTask, HasFault}
use Rattle.claims.specs.Rows.{told_by, AreCounted, IsLoadsPart, FailsTask, FailsTasks, FailsPart}
use Rattle.claims.proofs.Forms.{task-parts, no-task-head, no-task-load}

-- ---- a task

pub task-stands : (bytes behind rest : List ℕ) (h : TaskHead) (loads : List LoadSeen) → Stands IsTaskHead task_head_row bytes h behind → AreCounted IsLoad load_row behind h.count loads rest
    → Stands IsTask task_rows bytes (record { phase = h.phase; core = h.core; loads = loads }) rest
task-stands bytes behind rest h loads head counted =
    let same : record { phase = h.phase; core = h.core; count = length loads } ≡ h = λ i. record { phase = h.phase; core = h.core; count = counted.all i } in
    record {
      fits = record { head = subst IsTaskHead (sym same) head.fits; loads = counted.stand.fits };
      parts =
          head.parts ∙ ap (λ (x : TaskHead). task_head_row x ++ behind) (sym same)
          ∙ ap (λ bs. task_head_row (record { phase = h.phase; core = h.core; count = length loads }) ++ bs) counted.stand.parts
          ∙ sym (task-parts (record { phase = h.phase; core = h.core; loads = loads }) rest);
    }

-- why so many tasks aren't there, by one of them
pub tasks_fail : (bytes rest : List ℕ) (count place : ℕ) (before : List TaskLoads) (f : ClaimFault) → StandAll IsTask task_rows bytes before rest → length before ≡ place → place < count → FailsTask rest place f → FailsTasks bytes count f
tasks_fail bytes rest count place before (NoTask number) stand at' low fails =
    (rest, record { before = before; stand = stand; place = at' ∙ sym fails.0; announced = omega (arith, fails.0); none = no-task-head rest fails.1 }, fails.1)
tasks_fail bytes rest count place before (NoLoad task number) stand at' low fails =
    (rest, record { before = before; stand = stand; place = at' ∙ sym fails.0; announced = omega (arith, fails.0); none = no-task-load rest number fails.1 }, fails.1)
tasks_fail bytes rest count place before Memory stand at' low fails = tt
tasks_fail bytes rest count place before f stand at' low fails = fails

-- ---- the question and the grants

pub front_read : (bytes : List ℕ) (h : Heading) → length bytes ≤ most_bytes → Stands IsHead head_text bytes (told_by h) h.rest.now
    → (grants : List Grant) (rest : List ℕ) → AreCounted IsGrant grant_row h.rest.now h.count grants rest
    → BeginsWithGrants bytes (record { question = (told_by h).question; count = length grants }) grants rest
front_read bytes h within head grants rest counted =
    let same : told_by h ≡ record { question = (told_by h).question; count = length grants } = sym (λ i. record { question = (told_by h).question; count = counted.all i }) in
    record {
      behind = h.rest.now;
      head = record { within = within; head = subst (λ (x : Head). Stands IsHead head_text bytes x h.rest.now) same head };
      grants = counted.stand;
      all = refl;
    }

-- ---- what is told behind them

pub nothing : (bs : List ℕ) → length bs ≤ 0 → bs ≡ []
nothing [] none = refl
nothing (b ∷ bs) none = absurd (omega (arith, none))

module _ (bytes : List ℕ) (q : Question) (grants : List Grant) (rest : List ℕ) (front : BeginsWithGrants bytes (record { question = q; count = length grants }) grants rest) where
  abbrev head : Head
  head = record { question = q; count = length grants }

  broken-task : (count number : ℕ) (behind left : List ℕ) → Stands IsLoadsHead loads_head_row rest (Some count) behind → IsBrokenAt IsTask task_rows behind count number left → IsBrokenTask bytes number left
  broken-task count number behind left st broken =
      record {
        count = count;
        behind = behind;
        begins = record { head = head; grants = grants; behind = rest; begins = front; loads = st };
        broken = broken;
      }

  pub loads_fail : (f : ClaimFault) → FailsPart rest f → f ≢ Memory → HasFault bytes f
  loads_fail NoLoads fails some = (head, grants, rest, front, fails)
  loads_fail (NoTask number) fails some =
      let broken = fails.fails in
      (broken.0, broken-task fails.count number fails.behind broken.0 fails.head broken.1, broken.2)
  loads_fail (NoLoad task number) fails some =
      let broken = fails.fails in
      (broken.0, broken-task fails.count task fails.behind broken.0 fails.head broken.1, broken.2)
  loads_fail Memory fails some = absurd (some refl)
  loads_fail f fails some = absurd fails

  loads-fit : (loads : Option (List TaskLoads)) (answer : List ℕ) → IsLoadsPart rest loads answer → IsLoads loads
  loads-fit None answer part = tt
  loads-fit (Some tasks) answer part = (part.head.fits, part.tasks.fits)

  loads-said : (loads : Option (List TaskLoads)) (answer : List ℕ) → IsLoadsPart rest loads answer → rest ≡ loads_text loads ++ answer
  unfolding loads_text
  loads-said None answer part = part.parts ∙ sym (append_assoc (loads_head_row None) [] answer)
  loads-said (Some tasks) answer part =
      part.head.parts ∙ ap (λ bs. loads_head_row (Some (length tasks)) ++ bs) part.tasks.parts
      ∙ sym (append_assoc (loads_head_row (Some (length tasks))) (flat_map task_rows tasks) answer)

  pub claim_read : (loads : Option (List TaskLoads)) (answer : List ℕ) → IsLoadsPart rest loads answer
      → IsClaimDocument bytes (record { question = q; grants = grants; loads = loads; answer = answer })
  unfolding claim_text
  claim_read loads answer part =
      record {
        told = record { head = front.head.head.fits; grants = front.grants.fits; loads = loads-fit loads answer part };
        within = front.head.within;
        is =
            front.head.head.parts
            ∙ ap (λ bs. head_text head ++ bs) (front.grants.parts ∙ ap (λ bs. flat_map grant_row grants ++ bs) (loads-said loads answer part))
            ∙ simp append_assoc;
      }

  pub order_read : length rest ≤ 0 → IsOrderDocument bytes (record { question = q; grants = grants })
  unfolding order_text
  order_read none =
      record {
        told = record { head = front.head.head.fits; grants = front.grants.fits };
        within = front.head.within;
        is =
            front.head.head.parts
            ∙ ap (λ bs. head_text head ++ bs) (front.grants.parts ∙ ap (λ bs. flat_map grant_row grants ++ bs) (nothing rest none) ∙ append-nil (flat_map grant_row grants));
      }
