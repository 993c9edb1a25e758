-- One document is of one claim at most, and bytes that are none have one fault.
use Rattle.std.proofs.Common.{◌≡◌, ℕ, List, ◌++◌, flat_map, length, Option, Some, None, refl, sym, ap, subst, ◌∙◌, arith, append_assoc}
use Rattle.std.proofs.lemmas.Option.{none-some, same_Some}
use Rattle.dn_base.specs.declared.ids.Grant.{Grant}
use Rattle.flat_machine.specs.declared.ending.TaskLoads.{TaskLoads}
use Rattle.text_pieces.specs.Field.{NoneStands}
use Rattle.text_pieces.specs.Parts.{StandAll, IsBrokenAt}
use Rattle.text_pieces.proofs.Rows.{all-one, all-broken, broken-one}
use Rattle.claims.specs.declared.claim.Claim.{Claim}
use Rattle.claims.specs.declared.claim.ClaimFault.{ClaimFault}
use Rattle.claims.specs.declared.claim.ClaimFault.TheVariants.{TooLarge, Head as NoHead, Grant as NoGrant, Loads as NoLoads, Task as NoTask, Load as NoLoad, Behind, Memory}
use Rattle.claims.specs.declared.rows.TaskHead.{TaskHead}
use Rattle.claims.specs.Claim.{Head, head_of, head_text, IsGrant, grant_row, IsLoads, IsLoadsHead, head_of_loads, loads_head_row, loads_text, tasks_text, IsTask, task_rows, IsTaskHead, task_head_row, IsLoad, load_row, IsClaimDocument, claim_text}
use Rattle.claims.specs.Faults.{BeginsWithHead, BeginsWithGrants, BeginsWithLoads, IsBrokenTask, IsBrokenLoad, HasFrontFault, HasFault}
use Rattle.claims.proofs.Forms.{head-one, grant-one, loads-head-one, task-one, task-head-one, load-one}

-- what the record of a claim's loads makes of what is written
module _ (bytes : List ℕ) where
  -- ---- each front is one

  pub heads-one : (g h : Head) (r q : List ℕ) → BeginsWithHead bytes g r → BeginsWithHead bytes h q → (g ≡ h) × (r ≡ q)
  heads-one g h r q a b = head-one g h r q a.head.fits b.head.fits (sym a.head.parts ∙ b.head.parts)

  pub grants-one : (g h : Head) (gs hs : List Grant) (r q : List ℕ) → BeginsWithGrants bytes g gs r → BeginsWithGrants bytes h hs q → (g ≡ h) × (gs ≡ hs) × (r ≡ q)
  grants-one g h gs hs r q a b =
      let heads = heads-one g h a.behind b.behind a.head b.head in
      let mine : StandAll IsGrant grant_row b.behind gs r = subst (λ bs. StandAll IsGrant grant_row bs gs r) heads.1 a.grants in
      let lines = all-one IsGrant grant_row grant-one b.behind gs hs r q mine b.grants (a.all ∙ ap (λ (x : Head). x.count) heads.0 ∙ sym b.all) in
      (heads.0, lines.0, lines.1)

  loads-one : (m n : Option ℕ) (r q : List ℕ) → BeginsWithLoads bytes m r → BeginsWithLoads bytes n q → (m ≡ n) × (r ≡ q)
  loads-one m n r q a b =
      let grants = grants-one a.head b.head a.grants b.grants a.behind b.behind a.begins b.begins in
      loads-head-one m n r q a.loads.fits b.loads.fits (sym a.loads.parts ∙ grants.2 ∙ b.loads.parts)

  tasks-one : (m n : ℕ) (r q : List ℕ) → IsBrokenTask bytes m r → IsBrokenTask bytes n q → (m ≡ n) × (r ≡ q)
  tasks-one m n r q a b =
      let loads = loads-one (Some a.count) (Some b.count) a.behind b.behind a.begins b.begins in
      let count : a.count ≡ b.count = same_Some a.count b.count loads.0 in
      let mine : IsBrokenAt IsTask task_rows b.behind a.count m r = subst (λ bs. IsBrokenAt IsTask task_rows bs a.count m r) loads.1 a.broken in
      let both : IsBrokenAt IsTask task_rows b.behind b.count m r = subst (λ (k : ℕ). IsBrokenAt IsTask task_rows b.behind k m r) count mine in
      broken-one IsTask task_rows task-one b.behind b.count m n r q both b.broken

  -- ---- a fault excludes what goes on behind it

  grant-broken : (g h : Head) (gs : List Grant) (behind rest r : List ℕ) (number : ℕ) → BeginsWithHead bytes g behind → IsBrokenAt IsGrant grant_row behind g.count number rest → BeginsWithGrants bytes h gs r → ⊥
  grant-broken g h gs behind rest r number a broken b =
      let heads = heads-one g h behind b.behind a b.head in
      let mine : StandAll IsGrant grant_row behind gs r = subst (λ bs. StandAll IsGrant grant_row bs gs r) (sym heads.1) b.grants in
      all-broken IsGrant grant_row grant-one behind gs r rest g.count number mine (b.all ∙ ap (λ (x : Head). x.count) (sym heads.0)) broken

  loads-broken : (h : Head) (gs : List Grant) (r q : List ℕ) (n : Option ℕ) → BeginsWithGrants bytes h gs r → NoneStands IsLoadsHead loads_head_row r → BeginsWithLoads bytes n q → ⊥
  loads-broken h gs r q n a none b =
      let grants = grants-one h b.head gs b.grants r b.behind a b.begins in
      none n q (record { fits = b.loads.fits; parts = grants.2 ∙ b.loads.parts })

  -- a fault of the front, and a front
  pub front-excludes : (f : ClaimFault) (h : Head) (gs : List Grant) (r : List ℕ) → HasFrontFault bytes f → BeginsWithGrants bytes h gs r → ⊥
  front-excludes TooLarge h gs r a b = omega (arith, a, b.head.within)
  front-excludes NoHead h gs r a b = a.1 h b.behind b.head.head
  front-excludes (NoGrant n) h gs r a b = grant-broken a.0 h gs a.1 a.2 r n a.3 a.4 b
  front-excludes f h gs r a b = a

  -- no task line and a task line with a broken load
  task-load : (rest : List ℕ) (number : ℕ) → NoneStands IsTaskHead task_head_row rest → IsBrokenLoad rest number → ⊥
  task-load rest number none b = none b.task b.behind b.head

  loads-number : (rest : List ℕ) (m n : ℕ) → IsBrokenLoad rest m → IsBrokenLoad rest n → m ≡ n
  loads-number rest m n a b =
      let heads = task-head-one a.task b.task a.behind b.behind a.head.fits b.head.fits (sym a.head.parts ∙ b.head.parts) in
      let mine : IsBrokenAt IsLoad load_row b.behind a.task.count m a.rest = subst (λ bs. IsBrokenAt IsLoad load_row bs a.task.count m a.rest) heads.1 a.broken in
      let both : IsBrokenAt IsLoad load_row b.behind b.task.count m a.rest =
      subst (λ (k : ℕ). IsBrokenAt IsLoad load_row b.behind k m a.rest) (ap (λ (h : TaskHead). h.count) heads.0) mine in
      (broken-one IsLoad load_row load-one b.behind b.task.count m n a.rest b.rest both b.broken).0

  -- ---- a fault is one

  pub one-front_fault : (f g : ClaimFault) → HasFrontFault bytes f → HasFrontFault bytes g → f ≡ g
  one-front_fault f NoLoads a b = absurd b
  one-front_fault f (NoTask n) a b = absurd b
  one-front_fault f (NoLoad t n) a b = absurd b
  one-front_fault f Behind a b = absurd b
  one-front_fault f Memory a b = absurd b
  one-front_fault TooLarge TooLarge a b = refl
  one-front_fault TooLarge NoHead a b = absurd (omega (arith, a, b.0))
  one-front_fault TooLarge (NoGrant n) a b = absurd (omega (arith, a, b.3.within))
  one-front_fault NoHead TooLarge a b = absurd (omega (arith, b, a.0))
  one-front_fault NoHead NoHead a b = refl
  one-front_fault NoHead (NoGrant n) a b = absurd (a.1 b.0 b.1 b.3.head)
  one-front_fault (NoGrant m) TooLarge a b = absurd (omega (arith, b, a.3.within))
  one-front_fault (NoGrant m) NoHead a b = absurd (b.1 a.0 a.1 a.3.head)
  one-front_fault (NoGrant m) (NoGrant n) a b =
      let heads = heads-one a.0 b.0 a.1 b.1 a.3 b.3 in
      let mine : IsBrokenAt IsGrant grant_row b.1 a.0.count m a.2 = subst (λ bs. IsBrokenAt IsGrant grant_row bs a.0.count m a.2) heads.1 a.4 in
      let both : IsBrokenAt IsGrant grant_row b.1 b.0.count m a.2 = subst (λ (k : ℕ). IsBrokenAt IsGrant grant_row b.1 k m a.2) (ap (λ (x : Head). x.count) heads.0) mine in
      ap NoGrant (broken-one IsGrant grant_row grant-one b.1 b.0.count m n a.2 b.2 both b.4).0
  one-front_fault f g a b = absurd a

  pub one-fault : (f g : ClaimFault) → HasFault bytes f → HasFault bytes g → f ≡ g
  one-fault NoLoads NoLoads a b = refl
  one-fault NoLoads (NoTask n) a b = absurd (loads-broken a.0 a.1 a.2 b.1.behind (Some b.1.count) a.3 a.4 b.1.begins)
  one-fault NoLoads (NoLoad t n) a b = absurd (loads-broken a.0 a.1 a.2 b.1.behind (Some b.1.count) a.3 a.4 b.1.begins)
  one-fault (NoTask m) NoLoads a b = absurd (loads-broken b.0 b.1 b.2 a.1.behind (Some a.1.count) b.3 b.4 a.1.begins)
  one-fault (NoTask m) (NoTask n) a b = ap NoTask (tasks-one m n a.0 b.0 a.1 b.1).0
  one-fault (NoTask m) (NoLoad t n) a b =
      let same = tasks-one m t a.0 b.0 a.1 b.1 in
      absurd (task-load b.0 n (subst (λ bs. NoneStands IsTaskHead task_head_row bs) same.1 a.2) b.2)
  one-fault (NoLoad s m) NoLoads a b = absurd (loads-broken b.0 b.1 b.2 a.1.behind (Some a.1.count) b.3 b.4 a.1.begins)
  one-fault (NoLoad s m) (NoTask n) a b =
      let same = tasks-one n s b.0 a.0 b.1 a.1 in
      absurd (task-load a.0 m (subst (λ bs. NoneStands IsTaskHead task_head_row bs) same.1 b.2) a.2)
  one-fault (NoLoad s m) (NoLoad t n) a b =
      let same = tasks-one s t a.0 b.0 a.1 b.1 in
      let number = loads-number b.0 m n (subst (λ bs. IsBrokenLoad bs m) same.1 a.2) b.2 in
      λ i. NoLoad (same.0 i) (number i)
  one-fault NoLoads g a b = absurd (front-excludes g a.0 a.1 a.2 b a.3)
  one-fault (NoTask m) g a b = absurd (front-excludes g a.1.begins.head a.1.begins.grants a.1.begins.behind b a.1.begins.begins)
  one-fault (NoLoad s m) g a b = absurd (front-excludes g a.1.begins.head a.1.begins.grants a.1.begins.behind b a.1.begins.begins)
  one-fault f NoLoads a b = absurd (front-excludes f b.0 b.1 b.2 a b.3)
  one-fault f (NoTask n) a b = absurd (front-excludes f b.1.begins.head b.1.begins.grants b.1.begins.behind a b.1.begins.begins)
  one-fault f (NoLoad t n) a b = absurd (front-excludes f b.1.begins.head b.1.begins.grants b.1.begins.behind a b.1.begins.begins)
  one-fault f g a b = one-front_fault f g a b

  -- ---- a claim

  abbrev claim-behind : Claim → List ℕ
  claim-behind c = flat_map grant_row c.grants ++ (loads_text c.loads ++ c.answer)

  claim-parts : (c : Claim) → claim_text c ≡ head_text (head_of c) ++ claim-behind c
  unfolding claim_text
  claim-parts c = simp append_assoc

  claim-grants : (c : Claim) → IsClaimDocument bytes c → BeginsWithGrants bytes (head_of c) c.grants (loads_text c.loads ++ c.answer)
  claim-grants c doc =
      record {
        behind = claim-behind c;
        head = record { within = doc.within; head = record { fits = doc.told.head; parts = doc.is ∙ claim-parts c } };
        grants = record { fits = doc.told.grants; parts = refl };
        all = refl;
      }

  loads-parts : (loads : Option (List TaskLoads)) (r : List ℕ) → loads_text loads ++ r ≡ loads_head_row (head_of_loads loads) ++ (tasks_text loads ++ r)
  unfolding loads_text
  loads-parts loads r = append_assoc (loads_head_row (head_of_loads loads)) (tasks_text loads) r

  heads-fit : (loads : Option (List TaskLoads)) → IsLoads loads → IsLoadsHead (head_of_loads loads)
  heads-fit None is = tt
  heads-fit (Some tasks) is = is.0

  claim-loads : (c : Claim) → IsClaimDocument bytes c → BeginsWithLoads bytes (head_of_loads c.loads) (tasks_text c.loads ++ c.answer)
  claim-loads c doc =
      record {
        head = head_of c;
        grants = c.grants;
        behind = loads_text c.loads ++ c.answer;
        begins = claim-grants c doc;
        loads = record { fits = heads-fit c.loads doc.told.loads; parts = loads-parts c.loads c.answer };
      }

  same-tasks : (s t : Option (List TaskLoads)) (r q : List ℕ) → IsLoads s → IsLoads t → head_of_loads s ≡ head_of_loads t → tasks_text s ++ r ≡ tasks_text t ++ q → (s ≡ t) × (r ≡ q)
  same-tasks None None r q fs ft same is = (refl, is)
  same-tasks None (Some ts) r q fs ft same is = absurd (none-some (length ts) same)
  same-tasks (Some ss) None r q fs ft same is = absurd (none-some (length ss) (sym same))
  same-tasks (Some ss) (Some ts) r q fs ft same is =
      let bs : List ℕ = flat_map task_rows ss ++ r in
      let mine : StandAll IsTask task_rows bs ss r = record { fits = fs.1; parts = refl } in
      let other : StandAll IsTask task_rows bs ts q = record { fits = ft.1; parts = is } in
      let both = all-one IsTask task_rows task-one bs ss ts r q mine other (same_Some (length ss) (length ts) same) in
      (ap Some both.0, both.1)

  pub one-claim : (c d : Claim) → IsClaimDocument bytes c → IsClaimDocument bytes d → c ≡ d
  one-claim c d a b =
      let grants = grants-one (head_of c) (head_of d) c.grants d.grants (loads_text c.loads ++ c.answer) (loads_text d.loads ++ d.answer) (claim-grants c a) (claim-grants d b) in
      let heads = loads-one (head_of_loads c.loads) (head_of_loads d.loads) (tasks_text c.loads ++ c.answer) (tasks_text d.loads ++ d.answer) (claim-loads c a) (claim-loads d b) in
      let loads = same-tasks c.loads d.loads c.answer d.answer a.told.loads b.told.loads heads.0 heads.1 in
      λ i. record { question = (grants.0 i).question; grants = grants.1 i; loads = loads.0 i; answer = loads.1 i }

  -- where all tasks are there, none of them is broken
  no-broken_task : (c : Claim) → IsClaimDocument bytes c → (number : ℕ) (rest : List ℕ) → IsBrokenTask bytes number rest → ⊥
  no-broken_task c doc number rest b = by_loads c.loads doc.told.loads heads.0 heads.1
    where
      heads : (head_of_loads c.loads ≡ Some b.count) × (tasks_text c.loads ++ c.answer ≡ b.behind)
      heads = loads-one (head_of_loads c.loads) (Some b.count) (tasks_text c.loads ++ c.answer) b.behind (claim-loads c doc) b.begins

      by_loads : (loads : Option (List TaskLoads)) → IsLoads loads → head_of_loads loads ≡ Some b.count → tasks_text loads ++ c.answer ≡ b.behind → ⊥
      by_loads None fits same is = none-some b.count same
      by_loads (Some ts) fits same is =
          let mine : StandAll IsTask task_rows b.behind ts c.answer = record { fits = fits.1; parts = sym is } in
          all-broken IsTask task_rows task-one b.behind ts c.answer rest b.count number mine (same_Some (length ts) b.count same) b.broken

  pub claim-fault : (c : Claim) (f : ClaimFault) → IsClaimDocument bytes c → HasFault bytes f → ⊥
  claim-fault c NoLoads doc fault = loads-broken fault.0 fault.1 fault.2 (tasks_text c.loads ++ c.answer) (head_of_loads c.loads) fault.3 fault.4 (claim-loads c doc)
  claim-fault c (NoTask n) doc fault = no-broken_task c doc n fault.0 fault.1
  claim-fault c (NoLoad t n) doc fault = no-broken_task c doc t fault.0 fault.1
  claim-fault c f doc fault = front-excludes f (head_of c) c.grants (loads_text c.loads ++ c.answer) fault (claim-grants c doc)
