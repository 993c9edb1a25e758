-- What the steps ask of the table, from the lemmas that they keep the rule.
use Rattle.std.proofs.Common.{◌≡◌, ℕ, ◌+◌, ◌-◌, ◌%◌, ◌^◌, ◌<◌, ◌≤◌, ◌⊎◌, inl, inr, eqb, List, [], ◌∷◌, ◌++◌, length, get_or, set, filter, sym, refl, ap, ◌∙◌, subst, arith, length-set, get_or-set_same, get_or-set_other, append-nil}
use Rattle.std.proofs.lemmas.List.Elements.{All-nil}
use Rattle.atomic_table.proofs.Lists.{set_again, set_else}
use Rattle.std.specs.List.{All}
use mathlib.Core.Option.{Option, some, none}
use mathlib.Core.Logic.{dite}
use native.Mathlib.Decide.{ℕ_discrete}
use lib.ListN.{get_elem?}
use Rattle.atomic_table.specs.Table.{Me, Step, keeps, takes, gives, Allows, Splits, Joins, opening}
use Rattle.turn_lock.specs.declared.view.Claim.{Claim}
use Rattle.turn_lock.specs.declared.view.Stage.TheVariants.{Idle, Waiting, Inside}
use Rattle.turn_lock.specs.declared.view.View.{View}
use Rattle.turn_lock.specs.History.{BeginsWith}
use Rattle.turn_lock.specs.Standing.{claim, standing, dealer, dealt, newcomer, gathered, spent}
use Rattle.turn_lock.specs.Turns.{Turns, Kept}
use Rattle.turn_lock.specs.Steps.{HasTurn, drew, looked, left, passed}
use Rattle.turn_lock.specs.Calling.{IsIdle, WaitsForTurn}
use Rattle.turn_lock.proofs.Keeps.{draws, enters, leaves, splits, joins, begins}

module _ {S X E : Type 0} (by : E → ℕ) (Good : X → List E → S → Type 0) (x : X) (passes slots : ℕ) where
  kept : (ws : List ℕ) (a b : ℕ) (homes : List (Option S)) (views : List (View X E)) → length ws ≡ 2 → get_or ws 0 0 ≡ a → get_or ws 1 0 ≡ b → Turns by Good x passes a b homes views → Kept by Good x passes (record { words = ws; homes = homes; views = views })
  kept ws a b homes views two first second t = record {
    words = two;
    turns = subst (λ k. Turns by Good x passes k (get_or ws 1 0) homes views) (sym first) (subst (λ k. Turns by Good x passes a k homes views) (sym second) t);
  }

  -- the words after a change of the first, or of the second
  kept_drawn : (ws : List ℕ) (a : ℕ) (homes : List (Option S)) (views : List (View X E)) → length ws ≡ 2 → Turns by Good x passes a (get_or ws 1 0) homes views → Kept by Good x passes (record { words = set ws 0 a; homes = homes; views = views })
  kept_drawn ws a homes views two t =
      let first : get_or (set ws 0 a) 0 0 ≡ a = get_or-set_same ws 0 a 0 (omega arith) in
      let second : get_or (set ws 0 a) 1 0 ≡ get_or ws 1 0 = get_or-set_other ws 0 1 a 0 (λ e. absurd (omega arith)) in
      kept (set ws 0 a) a (get_or ws 1 0) homes views (length-set ws 0 a ∙ two) first second t

  kept_served : (ws : List ℕ) (b : ℕ) (homes : List (Option S)) (views : List (View X E)) → length ws ≡ 2 → Turns by Good x passes (get_or ws 0 0) b homes views → Kept by Good x passes (record { words = set ws 1 b; homes = homes; views = views })
  kept_served ws b homes views two t =
      let first : get_or (set ws 1 b) 0 0 ≡ get_or ws 0 0 = get_or-set_other ws 1 0 b 0 (λ e. absurd (omega arith)) in
      let second : get_or (set ws 1 b) 1 0 ≡ b = get_or-set_same ws 1 b 0 (omega arith) in
      kept (set ws 1 b) (get_or ws 0 0) b homes views (length-set ws 1 b ∙ two) first second t

  draw_standing : (id : ℕ) (c : Claim E) (n : ℕ) (st : Step S) → Allows (Kept by Good x passes) slots id (standing x c n Idle, []) 0 (λ k. (k + 1) % 2 ^ 64) (drew st (standing x c n Idle, []))
  draw_standing id c n st s k one at fits = (
    standing x c n (Waiting (get_or s.words 0 0)),
    keeps,
    tt,
    kept_drawn s.words _ s.homes _ k.words (draws by Good x passes id c n _ _ s.homes s.views k.turns at),
    refl,
  )

  pub draw : (id : ℕ) (me : Me S (View X E)) (st : Step S) → IsIdle x me → Allows (Kept by Good x passes) slots id me 0 (λ k. (k + 1) % 2 ^ 64) (drew st me)
  draw id me st idle =
      subst (λ m. Allows (Kept by Good x passes) slots id m 0 (λ k. (k + 1) % 2 ^ 64) (drew st m)) (sym idle) (draw_standing id me.0.own me.0.next st)

  look_standing : (id : ℕ) (c : Claim E) (n t : ℕ) (st : Step S) → Allows (Kept by Good x passes) slots id (standing x c n (Waiting t), []) 1 (λ k. k) (looked by Good st (standing x c n (Waiting t), []))
  look_standing id c n t st s k one at fits =
      dite
      (ℕ_discrete (get_or s.words 1 0) t)
      (λ own.
      let e = enters by Good x passes id c n t _ _ s.homes s.views k.turns at fits (sym own) in (
        standing x c n (Inside t e.log),
        takes 0 e.value,
        subst (λ h. get_elem? h 0 ≡ some (some e.value)) (sym e.home) refl,
        subst (λ h. Kept by Good x passes (record { words = set s.words 1 (get_or s.words 1 0); homes = set h 0 none; views = set s.views id (standing x c n (Inside t e.log)) })) (sym e.home) (kept_served s.words _ (none ∷ []) _ k.words e.turns),
        ((λ is. record { opening = x; log = e.log; value = e.value; from = refl; me_is = refl; good = e.good; seen = e.seen; mine = e.mine }), (λ ne. absurd (ne own))),
      ))
      (λ other. (
        standing x c n (Waiting t),
        keeps,
        tt,
        subst (λ vs. Kept by Good x passes (record { words = set s.words 1 (get_or s.words 1 0); homes = s.homes; views = vs })) (sym (set_again s.views id (standing x c n (Waiting t)) at)) (kept_served s.words _ s.homes s.views k.words k.turns),
        ((λ is. absurd (other is)), (λ ne. refl)),
      ))

  pub look : (id : ℕ) (t : ℕ) (me : Me S (View X E)) (st : Step S) → WaitsForTurn x t me → Allows (Kept by Good x passes) slots id me 1 (λ k. k) (looked by Good st me)
  look id t me st waiting =
      subst (λ m. Allows (Kept by Good x passes) slots id m 1 (λ k. k) (looked by Good st m)) (sym waiting) (look_standing id me.0.own me.0.next t st)

  -- the slot is given back with a value for what the seat then knows
  hand_back : (id : ℕ) (c : Claim E) (n t : ℕ) (known more : List E) (y : S) (c' : Claim E) (then : ℕ → Me S (View X E) → Type 0)
      → Good x (known ++ more) y → All (λ e. by e ≡ c.number) more → c'.number ≡ c.number → (BeginsWith known c.seen → filter (λ e. eqb (by e) c.number) known ≡ c.mine → BeginsWith (known ++ more) c'.seen × (filter (λ e. eqb (by e) c.number) (known ++ more) ≡ c'.mine)) → (c'.seen ≡ known ++ more) ⊎ ((c' ≡ c) × (more ≡ []))
      → ((found : ℕ) → then found (standing x c' n Idle, []))
      → Allows (Kept by Good x passes) slots id (standing x c n (Inside t known), (0, y) ∷ []) 1 (λ k. (k + 1) % 2 ^ 64) then
  hand_back id c n t known more y c' then good theirs number tells sees told_of s k one at fits =
      let l = leaves by Good x passes id c n t _ _ known more y c' s.homes s.views k.turns at fits good theirs number tells sees in (
        standing x c' n Idle,
        gives,
        tt,
        subst (λ h. Kept by Good x passes (record { words = set s.words 1 ((get_or s.words 1 0 + 1) % 2 ^ 64); homes = set h 0 (some y); views = set s.views id (standing x c' n Idle) })) (sym l.0) (kept_served s.words _ (some y ∷ []) _ k.words l.1),
        told_of _,
      )

  pub leave : (id : ℕ) (c : Claim E) (n t : ℕ) (known : List E) (y : S) (me : Me S (View X E)) (st : Step S) → me ≡ (standing x c n (Inside t known), (0, y) ∷ []) → Good x known y
      → Allows (Kept by Good x passes) slots id me 1 (λ k. (k + 1) % 2 ^ 64) (left st me)
  leave id c n t known y me st is good =
      subst (λ m. Allows (Kept by Good x passes) slots id m 1 (λ k. (k + 1) % 2 ^ 64) (left st m)) (sym is)
      (hand_back id c n t known [] y c (left st (standing x c n (Inside t known), (0, y) ∷ []))
      (subst (λ l. Good x l y) (sym (append-nil known)) good)
      (All-nil _)
      refl
      (λ seen mine. (subst (λ l. BeginsWith l c.seen) (sym (append-nil known)) seen, subst (λ l. filter (λ e. eqb (by e) c.number) l ≡ c.mine) (sym (append-nil known)) mine))
      (inr (refl, refl))
      (λ found. refl))

  pub pass_on : (history : S → List E) (id : ℕ) (c : Claim E) (n t : ℕ) (known more : List E) (y : S) (me : Me S (View X E)) (st : Step S) → me ≡ (standing x c n (Inside t known), (0, y) ∷ []) → history y ≡ known ++ more → Good x (history y) y → All (λ e. by e ≡ c.number) more
      → Allows (Kept by Good x passes) slots id me 1 (λ k. (k + 1) % 2 ^ 64) (passed by history st me)
  pass_on history id c n t known more y me st is longer good theirs =
      subst (λ m. Allows (Kept by Good x passes) slots id m 1 (λ k. (k + 1) % 2 ^ 64) (passed by history st m)) (sym is)
      (hand_back id c n t known more y (claim c.number (history y) (filter (λ e. eqb (by e) c.number) (history y))) (passed by history st (standing x c n (Inside t known), (0, y) ∷ []))
      (subst (λ l. Good x l y) longer good)
      theirs
      refl
      (λ seen mine. (([], sym longer ∙ sym (append-nil (history y))), ap (filter (λ e. eqb (by e) c.number)) (sym longer)))
      (inl longer)
      (λ found. refl))

  pub split : (id : ℕ) (v : View X E) → v.stage ≡ Idle → 0 < v.spare → Splits (Kept by Good x passes) id v (dealt v) (newcomer v)
  split id v idle some_left s k at = record { words = k.words; turns = splits by Good x passes id v _ _ s.homes s.views k.turns at idle some_left }

  pub join : (id other : ℕ) (v w : View X E) → v.stage ≡ Idle → w.stage ≡ Idle → v.spare ≡ 0 → w.spare ≡ 0 → Joins (Kept by Good x passes) id v other w (gathered v w) spent
  join id other v w idle idle' none_left none_left' s k at ne at' = record {
    words = k.words;
    turns = joins by Good x passes id other v w _ _ s.homes s.views k.turns at ne (sym (set_else s.views id other (gathered v w) ne) ∙ at') idle idle' none_left none_left';
  }

  pub begin : (items : List S) (y : S) → items ≡ y ∷ [] → 1 ≤ passes → passes ≤ 17 → Good x [] y → Kept by Good x passes (opening (0 ∷ 0 ∷ []) items (dealer x 1 (passes - 1)))
  begin items y one some_pass few good = subst
      (λ l. Kept by Good x passes (opening (0 ∷ 0 ∷ []) l (dealer x 1 (passes - 1))))
      (sym one)
      (record { words = refl; turns = begins by Good x passes y some_pass few good })

module _ {S X E : Type 0} (by : E → ℕ) (Good : X → List E → S → Type 0) (t : ℕ) where
  -- a seat that had not changed before its turn came has the turn as it was
  pub unchanged : (old now after : Me S (View X E)) → now ≡ old → HasTurn by Good now.0 t after → HasTurn by Good old.0 t after
  unchanged old now after same turn = subst (λ m. HasTurn by Good m.0 t after) same turn

  -- so does one that had only drawn its ticket
  pub drawn : (number : ℕ) (old now after : Me S (View X E)) → now ≡ (record old.0 { stage = Waiting number }, []) → HasTurn by Good now.0 t after → HasTurn by Good old.0 t after
  drawn number old now after is turn =
      let h = unchanged (record old.0 { stage = Waiting number }, []) now after is turn in record {
        opening = h.opening;
        log = h.log;
        value = h.value;
        from = h.from;
        me_is = h.me_is;
        good = h.good;
        seen = h.seen;
        mine = h.mine;
      }

module _ {S X E : Type 0} where
  -- a seat that has drawn a ticket waits for its turn
  pub waits : (x : X) (number : ℕ) (old now : Me S (View X E)) → IsIdle x old → now ≡ (record old.0 { stage = Waiting number }, []) → WaitsForTurn x number now
  waits x number old now idle is =
      is ∙ (ap (λ (m : Me S (View X E)). (record m.0 { stage = Waiting number }, [])) idle ∙ ap (λ (m : Me S (View X E)). (standing x m.0.own m.0.next (Waiting number), [])) (sym is))
