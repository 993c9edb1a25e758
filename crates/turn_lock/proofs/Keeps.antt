-- Each kind of step keeps the rule of a turn.
use Rattle.std.proofs.Common.{◌≡◌, ℕ, zero, suc, ◌+◌, ◌-◌, ◌%◌, ◌^◌, ◌<◌, ◌≤◌, ◌≢◌, ◌⊎◌, cond, eqb, eq-eqb, ne_eqb, List, [], ◌∷◌, ◌++◌, length, map, set, filter, sym, refl, ap, ◌∙◌, subst, inl, inr, ⊎_elim, arith, length-append, length-set, append-nil}
use Rattle.std.proofs.lemmas.List.{length-map}
use Rattle.std.specs.List.{All}
use Rattle.std.proofs.lemmas.List.Sums.{sum_by_push, sum_by-le-sum_by}
use Rattle.std.proofs.lemmas.List.Elements.{All-nil, All-cons, All-append, All-weaker}
use mathlib.Core.Option.{Option, some, none, some-injective, some-ne-none}
use mathlib.Core.Logic.{dite}
use native.Mathlib.Decide.{ℕ_discrete}
use lib.ListN.{get_elem?}
use Rattle.atomic_table.proofs.Lists.{at_set, set_here, set_else, at_longer, at_last, at_map}
use Rattle.turn_lock.specs.declared.view.Claim.{Claim}
use Rattle.turn_lock.specs.declared.view.Stage.{Stage}
use Rattle.turn_lock.specs.declared.view.Stage.TheVariants.{Idle, Waiting, Inside, Gone}
use Rattle.turn_lock.specs.declared.view.View.{View}
use Rattle.turn_lock.specs.History.{BeginsWith}
use Rattle.turn_lock.specs.Standing.{ticket, in_line, passes_at, weight, standing, dealer, dealt, newcomer, gathered, spent}
use Rattle.turn_lock.specs.Turns.{IsClaim, Lives, StandsInLine, HasTicket, IsOut, HasSeen, IsSeen, Turns}
use Rattle.turn_lock.proofs.Lists.{at_less, at_same, sum_set, sum_two, at_snoc_place, at_behind, tail, at_tail, length-tail, all_but, begins_longer, others_same, none_of}

in_line_le : {E : Type 0} (s : Stage E) (n : ℕ) → in_line s ≤ passes_at s n
in_line_le Idle n = omega arith
in_line_le (Waiting t) n = omega arith
in_line_le (Inside t known) n = omega arith
in_line_le Gone n = omega arith

module _ {X E : Type 0} where
  in_line_of : View X E → ℕ
  in_line_of v = in_line v.stage

  -- a ticket stays where a seat keeps its own, or another seat changes
  lined_same : (views : List (View X E)) (id : ℕ) (v w : View X E) (seat t : ℕ) → get_elem? views id ≡ some v → ticket w.stage ≡ ticket v.stage → HasTicket views seat t → HasTicket (set views id w) seat t
  lined_same views id v w seat t at same h =
      dite
      (ℕ_discrete seat id)
      (λ is. (w, subst (λ k. get_elem? (set views id w) k ≡ some w) (sym is) (set_here views id w (at_less views id v at)), same ∙ (ap (λ (u : View X E). ticket u.stage) (at_same views id v h.0 at (subst (λ k. get_elem? views k ≡ some h.0) is h.1)) ∙ h.2)))
      (λ ne. (h.0, set_else views id seat w ne ∙ h.1, h.2))

  lined_idle : (views : List (View X E)) (id : ℕ) (v w : View X E) (seat t : ℕ) → get_elem? views id ≡ some v → v.stage ≡ Idle → HasTicket views seat t → HasTicket (set views id w) seat t
  lined_idle views id v w seat t at idle h =
      let ne : seat ≢ id = λ is. some-ne-none t (sym h.2 ∙ (ap (λ (u : View X E). ticket u.stage) (at_same views id h.0 v (subst (λ k. get_elem? views k ≡ some h.0) is h.1) at) ∙ ap ticket idle)) in
      (h.0, set_else views id seat w ne ∙ h.1, h.2)

  lined_longer : (views more : List (View X E)) (seat t : ℕ) → HasTicket views seat t → HasTicket (views ++ more) seat t
  lined_longer views more seat t h = (h.0, at_longer views more seat h.0 h.1, h.2)

  out_idle : (line : List ℕ) (log : List E) (views : List (View X E)) (id : ℕ) (v w : View X E) → get_elem? views id ≡ some v → v.stage ≡ Idle → IsOut line log views → IsOut line log (set views id w)
  out_idle line log views id v w at idle (seat, u, t, first, here, inside) =
      let ne : seat ≢ id = λ is. let same : u ≡ v = at_same views id u v (subst (λ k. get_elem? views k ≡ some u) is here) at in let e : u.stage ≡ v.stage = ap (λ (u : View X E). u.stage) same in let bad : Inside t log ≡ Idle = sym inside ∙ (e ∙ idle) in absurd (cc) in
      (seat, u, t, first, set_else views id seat w ne ∙ here, inside)

  -- what a pass has seen is still seen where its seat keeps its claims
  seen_set : (log : List E) (views : List (View X E)) (id : ℕ) (v w : View X E) → get_elem? views id ≡ some v → w.stage ≢ Gone → ((i : ℕ) (c : Claim E) → get_elem? (v.own ∷ v.joined) i ≡ some c → get_elem? (w.own ∷ w.joined) i ≡ some c) → IsSeen log views → IsSeen log (set views id w)
  seen_set log views id v w at live keeps s =
      dite
      (ℕ_discrete s.seat id)
      (λ is. let same : s.view ≡ v = at_same views id s.view v (subst (λ k. get_elem? views k ≡ some s.view) is s.here) at in record {
        seat = id;
        view = w;
        here = set_here views id w (at_less views id v at);
        lives = live;
        seen = let old = subst (HasSeen log) same s.seen in (old.0, old.1, keeps old.0 old.1 old.2, old.3);
      })
      (λ ne. record { seat = s.seat; view = s.view; here = set_else views id s.seat w ne ∙ s.here; lives = s.lives; seen = s.seen })

  seen_longer : (log : List E) (views more : List (View X E)) → IsSeen log views → IsSeen log (views ++ more)
  seen_longer log views more s = record { seat = s.seat; view = s.view; here = at_longer views more s.seat s.view s.here; lives = s.lives; seen = s.seen }

  -- and where its claims go to another seat
  seen_joined : (log : List E) (views : List (View X E)) (id other : ℕ) (v w : View X E) → get_elem? views id ≡ some v → other ≢ id → get_elem? views other ≡ some w → v.stage ≢ Gone → IsSeen log views → IsSeen log (set (set views id (gathered v w)) other spent)
  seen_joined log views id other v w at ne at' live s =
      let z : View X E = gathered v w in
      let here : get_elem? (set (set views id z) other spent) id ≡ some z = set_else (set views id z) other id spent (λ is. ne (sym is)) ∙ set_here views id z (at_less views id v at) in
      dite
      (ℕ_discrete s.seat other)
      (λ is. let same : s.view ≡ w = at_same views other s.view w (subst (λ k. get_elem? views k ≡ some s.view) is s.here) at' in record {
        seat = id;
        view = z;
        here = here;
        lives = live;
        seen = let old = subst (HasSeen log) same s.seen in (length (v.own ∷ v.joined) + old.0, old.1, at_behind (v.own ∷ v.joined) (w.own ∷ w.joined) old.0 ∙ old.2, old.3);
      })
      (λ apart. dite
      (ℕ_discrete s.seat id)
      (λ is. let same : s.view ≡ v = at_same views id s.view v (subst (λ k. get_elem? views k ≡ some s.view) is s.here) at in record {
        seat = id;
        view = z;
        here = here;
        lives = live;
        seen = let old = subst (HasSeen log) same s.seen in (old.0, old.1, at_longer (v.own ∷ v.joined) (w.own ∷ w.joined) old.0 old.1 old.2, old.3);
      })
      (λ else. record { seat = s.seat; view = s.view; here = set_else (set views id z) other s.seat spent apart ∙ (set_else views id s.seat z else ∙ s.here); lives = s.lives; seen = s.seen }))

module _ {S E : Type 0} where
  stands_longer : (served : ℕ) (line more : List ℕ) (log : List E) (homes : List (Option S)) (seat : ℕ) (s : Stage E) → StandsInLine served line log homes seat s → StandsInLine served (line ++ more) log homes seat s
  stands_longer served line more log homes seat Idle h = tt
  stands_longer served line more log homes seat (Waiting t) (i, at, is) = (i, at_longer line more i seat at, is)
  stands_longer served line more log homes seat (Inside t known) (first, is, knows, out) = (at_longer line more 0 seat first, is, knows, out)
  stands_longer served line more log homes seat Gone h = tt

  -- a seat that isn't the first in line doesn't have the slot
  stands_other : (served : ℕ) (line : List ℕ) (log : List E) (homes homes' : List (Option S)) (id seat : ℕ) (s : Stage E) → get_elem? line 0 ≡ some id → seat ≢ id → StandsInLine served line log homes seat s → StandsInLine served line log homes' seat s
  stands_other served line log homes homes' id seat Idle first ne h = tt
  stands_other served line log homes homes' id seat (Waiting t) first ne h = h
  stands_other served line log homes homes' id seat (Inside t known) first ne h = absurd (ne (at_same line 0 seat id h.0 first))
  stands_other served line log homes homes' id seat Gone first ne h = tt

  -- the first in line has gone
  stands_next : (served : ℕ) (line : List ℕ) (log log' : List E) (homes homes' : List (Option S)) (id seat : ℕ) (s : Stage E) → get_elem? line 0 ≡ some id → seat ≢ id → StandsInLine served line log homes seat s → StandsInLine ((served + 1) % 2 ^ 64) (tail line) log' homes' seat s
  stands_next served line log log' homes homes' id seat Idle first ne h = tt
  stands_next served line log log' homes homes' id seat (Waiting t) first ne (zero, at, is) = absurd (ne (at_same line 0 seat id at first))
  stands_next served line log log' homes homes' id seat (Waiting t) first ne (suc i, at, is) = (i, at_tail line i ∙ at, omega arith)
  stands_next served line log log' homes homes' id seat (Inside t known) first ne h = absurd (ne (at_same line 0 seat id h.0 first))
  stands_next served line log log' homes homes' id seat Gone first ne h = tt

module _ {S X E : Type 0} (by : E → ℕ) (Good : X → List E → S → Type 0) (x : X) (passes : ℕ) where
  line_short : (drawn served : ℕ) (homes : List (Option S)) (views : List (View X E)) (t : Turns by Good x passes drawn served homes views) → length t.line ≤ 17
  line_short drawn served homes views t =
      let le = sum_by-le-sum_by (λ (v : View X E). in_line v.stage) weight views (λ v. in_line_le v.stage (v.spare + length v.joined)) in
      omega (arith, t.few, t.waiting, t.parts)

  -- a seat with a stage lives
  lives : (drawn served : ℕ) (homes : List (Option S)) (views : List (View X E)) (t : Turns by Good x passes drawn served homes views) (id : ℕ) (v : View X E) → get_elem? views id ≡ some v → v.stage ≢ Gone → Lives by x passes t.owners t.log id v × StandsInLine served t.line t.log homes id v.stage
  lives drawn served homes views t id v at here = ⊎_elim (λ gone. absurd (here gone)) (λ l. l) (t.seats id v at)

  pub draws : (id : ℕ) (c : Claim E) (n drawn served : ℕ) (homes : List (Option S)) (views : List (View X E)) → Turns by Good x passes drawn served homes views → get_elem? views id ≡ some (standing x c n Idle)
      → Turns by Good x passes ((drawn + 1) % 2 ^ 64) served homes (set views id (standing x c n (Waiting drawn)))
  draws id c n drawn served homes views t at =
      let v : View X E = standing x c n Idle in
      let w : View X E = standing x c n (Waiting drawn) in
      let l = lives drawn served homes views t id v at (λ e. absurd (cc)) in
      let s = sum_set (λ (u : View X E). in_line u.stage) views id v w at in
      let p = sum_set weight views id v w at in
      let longer = length-append t.line (id ∷ []) in record {
        log = t.log;
        line = t.line ++ id ∷ [];
        owners = t.owners;
        few = t.few;
        given = t.given;
        tickets = omega (arith, t.tickets);
        waiting = omega (arith, t.waiting);
        lined = λ i seat e.
            ⊎_elim
            (λ old. lined_idle views id v w seat _ at refl (t.lined i seat old))
            (λ new. subst (λ k. HasTicket (set views id w) k ((served + i) % 2 ^ 64)) new.1 (w, set_here views id w (at_less views id v at), ap some (t.tickets ∙ ap (λ k. (served + k) % 2 ^ 64) (sym new.0))))
            (at_snoc_place t.line id seat i e);
        slot = ⊎_elim
            (λ home. inl home)
            (λ out. inr (out.0, (let o = out_idle t.line t.log views id v w at refl out.1 in (o.0, o.1, o.2, at_longer t.line (id ∷ []) 0 o.0 o.3, o.4, o.5))))
            t.slot;
        seats = all_but
            (λ seat u. (u.stage ≡ Gone) ⊎ (Lives by x passes t.owners t.log seat u × StandsInLine served (t.line ++ id ∷ []) t.log homes seat u.stage))
            views
            id
            w
            (inr (record { opening = refl; own = l.0.own; joined = l.0.joined; deals = l.0.deals }, (length t.line, at_last t.line id (length t.line) refl, t.tickets)))
            (λ j u ne e. ⊎_elim (λ gone. inl gone) (λ b. inr (b.0, stands_longer served t.line (id ∷ []) t.log homes j u.stage b.1)) (t.seats j u e));
        longest = seen_set t.log views id v w at (λ e. absurd (cc)) (λ i k h. h) t.longest;
        named = t.named;
        parts = omega (arith, t.parts);
      }

  -- the seat whose ticket is the serving word is the first in line
  first_in_line : (id t drawn served : ℕ) (homes : List (Option S)) (views : List (View X E)) (r : Turns by Good x passes drawn served homes views) → served < 2 ^ 64 → t ≡ served → StandsInLine served r.line r.log homes id (Waiting t) → get_elem? r.line 0 ≡ some id
  first_in_line id t drawn served homes views r fits own (i, at, is) =
      let short = line_short drawn served homes views r in
      let below = at_less r.line i id at in
      let none_before : i ≡ 0 = omega arith in
      subst (λ k. get_elem? r.line k ≡ some id) none_before at

  pub record Entered (id : ℕ) (c : Claim E) (n t drawn served : ℕ) (homes : List (Option S)) (views : List (View X E)) : Type 0 where
    pub log : List E
    pub value : S
    pub home : homes ≡ some value ∷ []
    pub good : Good x log value
    pub seen : BeginsWith log c.seen
    pub mine : filter (λ e. eqb (by e) c.number) log ≡ c.mine
    pub turns : Turns by Good x passes drawn served (none ∷ []) (set views id (standing x c n (Inside t log)))

  pub enters : (id : ℕ) (c : Claim E) (n t drawn served : ℕ) (homes : List (Option S)) (views : List (View X E)) → Turns by Good x passes drawn served homes views → get_elem? views id ≡ some (standing x c n (Waiting t)) → served < 2 ^ 64 → t ≡ served
      → Entered id c n t drawn served homes views
  enters id c n t drawn served homes views r at fits own =
      let v : View X E = standing x c n (Waiting t) in
      let w : View X E = standing x c n (Inside t r.log) in
      let l = lives drawn served homes views r id v at (λ e. absurd (cc)) in
      let first = first_in_line id t drawn served homes views r fits own l.1 in
      let s = sum_set (λ (u : View X E). in_line u.stage) views id v w at in
      let p = sum_set weight views id v w at in
      let here = set_here views id w (at_less views id v at) in
      let turns : Turns by Good x passes drawn served (none ∷ []) (set views id w) = record {
        log = r.log;
        line = r.line;
        owners = r.owners;
        few = r.few;
        given = r.given;
        tickets = r.tickets;
        waiting = omega (arith, r.waiting);
        lined = λ i seat e. lined_same views id v w seat _ at refl (r.lined i seat e);
        slot = inr (refl, (id, w, t, first, here, refl));
        seats = all_but
            (λ seat u. (u.stage ≡ Gone) ⊎ (Lives by x passes r.owners r.log seat u × StandsInLine served r.line r.log (none ∷ []) seat u.stage))
            views
            id
            w
            (inr (record { opening = refl; own = l.0.own; joined = l.0.joined; deals = l.0.deals }, (first, own, refl, refl)))
            (λ j u ne e. ⊎_elim (λ gone. inl gone) (λ b. inr (b.0, stands_other served r.line r.log homes (none ∷ []) id j u.stage first ne b.1)) (r.seats j u e));
        longest = seen_set r.log views id v w at (λ e. absurd (cc)) (λ i k h. h) r.longest;
        named = r.named;
        parts = omega (arith, r.parts);
      } in
      ⊎_elim
      (λ home. record { log = r.log; value = home.0; home = home.1; good = home.2; seen = l.0.own.seen; mine = l.0.own.mine; turns = turns })
      (λ out. let o = out.1 in
      let there : o.0 ≡ id = at_same r.line 0 o.0 id o.3 first in
      let same : o.1 ≡ v = at_same views id o.1 v (subst (λ k. get_elem? views k ≡ some o.1) there o.4) at in
      let bad : Inside o.2 r.log ≡ Waiting t = sym o.5 ∙ ap (λ (u : View X E). u.stage) same in absurd (cc))
      r.slot

  -- a claim stays true where the history grows by calls of another pass
  claim_more : (owners : List ℕ) (log more : List E) (id seat p : ℕ) (c : Claim E) → get_elem? owners p ≡ some id → seat ≢ id → All (λ e. by e ≡ p) more → IsClaim by owners log seat c → IsClaim by owners (log ++ more) seat c
  claim_more owners log more id seat p c owner ne theirs h = record {
    owner = h.owner;
    seen = begins_longer log c.seen more h.seen;
    mine = others_same by p c.number log more (λ is. ne (at_same owners c.number seat id h.owner (subst (λ k. get_elem? owners k ≡ some id) is owner))) theirs ∙ h.mine;
  }

  pub leaves : (id : ℕ) (c : Claim E) (n t drawn served : ℕ) (known more : List E) (y : S) (c' : Claim E) (homes : List (Option S)) (views : List (View X E)) → Turns by Good x passes drawn served homes views → get_elem? views id ≡ some (standing x c n (Inside t known)) → served < 2 ^ 64
      → Good x (known ++ more) y → All (λ e. by e ≡ c.number) more → c'.number ≡ c.number → (BeginsWith known c.seen → filter (λ e. eqb (by e) c.number) known ≡ c.mine → BeginsWith (known ++ more) c'.seen × (filter (λ e. eqb (by e) c.number) (known ++ more) ≡ c'.mine)) → (c'.seen ≡ known ++ more) ⊎ ((c' ≡ c) × (more ≡ []))
      → (homes ≡ none ∷ []) × Turns by Good x passes drawn ((served + 1) % 2 ^ 64) (some y ∷ []) (set views id (standing x c' n Idle))
  leaves id c n t drawn served known more y c' homes views r at fits good theirs number tells sees =
      let v : View X E = standing x c n (Inside t known) in
      let w : View X E = standing x c' n Idle in
      let l = lives drawn served homes views r id v at (λ e. absurd (cc)) in
      let first : get_elem? r.line 0 ≡ some id = l.1.0 in
      let own : t ≡ served = l.1.1 in
      let knows : known ≡ r.log = l.1.2 in
      let s = sum_set (λ (u : View X E). in_line u.stage) views id v w at in
      let p = sum_set weight views id v w at in
      let short = line_short drawn served homes views r in
      let len = length-tail r.line id first in
      let owner : get_elem? r.owners c.number ≡ some id = l.0.own.owner in
      let given = at_less r.owners c.number id owner in
      let now = tells (subst (λ k. BeginsWith k c.seen) (sym knows) l.0.own.seen) (subst (λ k. filter (λ e. eqb (by e) c.number) k ≡ c.mine) (sym knows) l.0.own.mine) in (
        l.1.3,
        record {
          log = r.log ++ more;
          line = tail r.line;
          owners = r.owners;
          few = r.few;
          given = r.given;
          tickets = omega (arith, r.tickets);
          waiting = omega (arith, r.waiting);
          lined = λ i seat e.
              let behind : get_elem? r.line (suc i) ≡ some seat = sym (at_tail r.line i) ∙ e in
              let had = r.lined (suc i) seat behind in
              let below = at_less r.line (suc i) seat behind in
              let ne : seat ≢ id = λ is.
              let same : had.0 ≡ v = at_same views id had.0 v (subst (λ k. get_elem? views k ≡ some had.0) is had.1) at in
              let tick : some ((served + suc i) % 2 ^ 64) ≡ some t = sym had.2 ∙ ap (λ (u : View X E). ticket u.stage) same in
              let ticks : (served + suc i) % 2 ^ 64 ≡ t = some-injective _ _ tick in absurd (omega arith) in
              let next : (served + suc i) % 2 ^ 64 ≡ ((served + 1) % 2 ^ 64 + i) % 2 ^ 64 = omega arith in
              (had.0, set_else views id seat w ne ∙ had.1, had.2 ∙ ap some next);
          slot = inl (y, refl, subst (λ k. Good x (k ++ more) y) knows good);
          seats = all_but
              (λ seat u. (u.stage ≡ Gone) ⊎ (Lives by x passes r.owners (r.log ++ more) seat u × StandsInLine ((served + 1) % 2 ^ 64) (tail r.line) (r.log ++ more) (some y ∷ []) seat u.stage))
              views
              id
              w
              (inr (
                record {
                  opening = refl;
                  own = record {
                    owner = subst (λ k. get_elem? r.owners k ≡ some id) (sym number) owner;
                    seen = subst (λ k. BeginsWith (k ++ more) c'.seen) knows now.0;
                    mine = subst (λ k. filter (λ e. eqb (by e) k) (r.log ++ more) ≡ c'.mine) (sym number) (subst (λ k. filter (λ e. eqb (by e) c.number) (k ++ more) ≡ c'.mine) knows now.1);
                  };
                  joined = All-nil _;
                  deals = λ some_left. absurd (omega arith);
                },
                tt,
              ))
              (λ j u ne e. ⊎_elim
              (λ gone. inl gone)
              (λ b. inr (
                record {
                  opening = b.0.opening;
                  own = claim_more r.owners r.log more id j c.number u.own owner ne theirs b.0.own;
                  joined = All-weaker _ _ (λ d. claim_more r.owners r.log more id j c.number d owner ne theirs) u.joined b.0.joined;
                  deals = b.0.deals;
                },
                stands_next served r.line r.log (r.log ++ more) homes (some y ∷ []) id j u.stage first ne b.1,
              ))
              (r.seats j u e));
          longest = ⊎_elim
              (λ (all : c'.seen ≡ known ++ more). record { seat = id; view = w; here = set_here views id w (at_less views id v at); lives = λ e. absurd (cc); seen = (0, c', refl, all ∙ ap (λ k. k ++ more) knows) })
              (λ old. subst
              (λ k. IsSeen k (set views id w))
              (sym (append-nil r.log) ∙ ap (λ k. r.log ++ k) (sym old.1))
              (seen_set r.log views id v w at (λ e. absurd (cc)) (λ i k h. subst (λ o. get_elem? (o ∷ []) i ≡ some k) (sym old.0) h) r.longest))
              sees;
          named = All-append (λ e. by e < length r.owners) r.log more r.named (All-weaker (λ e. by e ≡ c.number) (λ e. by e < length r.owners) (λ e is. omega arith) more theirs);
          parts = omega (arith, r.parts);
        },
      )

  -- a claim stays true where another number is given
  claim_given : (owners : List ℕ) (log : List E) (seat new : ℕ) (c : Claim E) → IsClaim by owners log seat c → IsClaim by (owners ++ new ∷ []) log seat c
  claim_given owners log seat new c h = record { owner = at_longer owners (new ∷ []) c.number seat h.owner; seen = h.seen; mine = h.mine }

  pub splits : (id : ℕ) (v : View X E) (drawn served : ℕ) (homes : List (Option S)) (views : List (View X E)) → Turns by Good x passes drawn served homes views → get_elem? views id ≡ some v → v.stage ≡ Idle → 0 < v.spare
      → Turns by Good x passes drawn served homes (set views id (dealt v) ++ newcomer v ∷ [])
  splits id v drawn served homes views r at idle some_left =
      let w : View X E = dealt v in
      let new : View X E = newcomer v in
      let l = lives drawn served homes views r id v at (λ e. let bad : ◌≡◌ {A = Stage E} Gone Idle = sym e ∙ idle in absurd (cc)) in
      let deals = l.0.deals some_left in
      let own0 : v.own.number ≡ 0 = deals.0 in
      let next : v.next ≡ length r.owners = deals.1 in
      let sums : length r.owners + v.spare ≡ passes = deals.2 in
      let owner0 : get_elem? r.owners 0 ≡ some id = subst (λ k. get_elem? r.owners k ≡ some id) own0 l.0.own.owner in
      let q : in_line v.stage ≡ 0 = ap in_line idle in
      let s = sum_set (λ (u : View X E). in_line u.stage) views id v w at in
      let s2 = sum_by_push (λ (u : View X E). in_line u.stage) (set views id w) new in
      let p = sum_set weight views id v w at in
      let p2 = sum_by_push weight (set views id w) new in
      let pv : weight v ≡ 1 + (v.spare + length v.joined) = ap (λ k. passes_at k (v.spare + length v.joined)) idle in
      let pw : weight w ≡ 1 + ((v.spare - 1) + length v.joined) = ap (λ k. passes_at k ((v.spare - 1) + length v.joined)) idle in
      let longer = length-append r.owners (length views ∷ []) in
      let many = length-set views id w in
      record {
        log = r.log;
        line = r.line;
        owners = r.owners ++ length views ∷ [];
        few = r.few;
        given = omega arith;
        tickets = r.tickets;
        waiting = omega (arith, r.waiting);
        lined = λ i seat e. lined_longer (set views id w) (new ∷ []) seat _ (lined_same views id v w seat _ at refl (r.lined i seat e));
        slot = ⊎_elim
            (λ home. inl home)
            (λ out. inr (out.0, (let o = out_idle r.line r.log views id v w at idle out.1 in (o.0, o.1, o.2, o.3, at_longer (set views id w) (new ∷ []) o.0 o.1 o.4, o.5))))
            r.slot;
        seats = λ seat u e. ⊎_elim
            (λ old. all_but
            (λ j d. (d.stage ≡ Gone) ⊎ (Lives by x passes (r.owners ++ length views ∷ []) r.log j d × StandsInLine served r.line r.log homes j d.stage))
            views
            id
            w
            (inr (
              record {
                opening = l.0.opening;
                own = claim_given r.owners r.log id (length views) v.own l.0.own;
                joined = All-weaker _ _ (λ d. claim_given r.owners r.log id (length views) d) v.joined l.0.joined;
                deals = λ more. (own0, omega arith, omega arith);
              },
              l.1,
            ))
            (λ j d ne f. ⊎_elim
            (λ gone. inl gone)
            (λ b. inr (
              record {
                opening = b.0.opening;
                own = claim_given r.owners r.log j (length views) d.own b.0.own;
                joined = All-weaker _ _ (λ k. claim_given r.owners r.log j (length views) k) d.joined b.0.joined;
                deals = λ more. absurd (ne (at_same r.owners 0 j id (subst (λ k. get_elem? r.owners k ≡ some j) (b.0.deals more).0 b.0.own.owner) owner0));
              },
              b.1,
            ))
            (r.seats j d f))
            seat
            u
            old)
            (λ last. subst
            (λ d. (d.stage ≡ Gone) ⊎ (Lives by x passes (r.owners ++ length views ∷ []) r.log seat d × StandsInLine served r.line r.log homes seat d.stage))
            last.1
            (inr (
              record {
                opening = l.0.opening;
                own = record {
                  owner = subst (λ k. get_elem? (r.owners ++ length views ∷ []) v.next ≡ some k) (sym (last.0 ∙ many)) (at_last r.owners (length views) v.next (sym next));
                  seen = l.0.own.seen;
                  mine = none_of by r.log (length r.owners) v.next (omega arith) r.named;
                };
                joined = All-nil _;
                deals = λ more. absurd (omega arith);
              },
              tt,
            )))
            (at_snoc_place (set views id w) new u seat e);
        longest = seen_longer r.log (set views id w) (new ∷ []) (seen_set r.log views id v w at (λ e. let bad : ◌≡◌ {A = Stage E} Gone Idle = sym e ∙ idle in absurd (cc)) (λ i k h. h) r.longest);
        named = All-weaker (λ e. by e < length r.owners) (λ e. by e < length (r.owners ++ length views ∷ [])) (λ e is. omega arith) r.log r.named;
        parts = omega (arith, r.parts);
      }

  moved : ℕ → ℕ → ℕ → ℕ
  moved id other k = cond (eqb k other) id k

  moved-other : (id other k : ℕ) → k ≡ other → moved id other k ≡ id
  unfolding moved
  moved-other id other k is = ap (λ b. cond b id k) (eq-eqb k other is)

  moved-else : (id other k : ℕ) → k ≢ other → moved id other k ≡ k
  unfolding moved
  moved-else id other k ne = ap (λ b. cond b id k) (ne_eqb k other ne)

  -- a claim of the seat that is taken in becomes one of the seat that takes it in, and others stay
  claim_moved : (owners : List ℕ) (log : List E) (id other seat to : ℕ) (c : Claim E) → moved id other seat ≡ to → IsClaim by owners log seat c → IsClaim by (map (moved id other) owners) log to c
  claim_moved owners log id other seat to c is h = record { owner = at_map (moved id other) owners c.number seat h.owner ∙ ap some is; seen = h.seen; mine = h.mine }

  pub joins : (id other : ℕ) (v w : View X E) (drawn served : ℕ) (homes : List (Option S)) (views : List (View X E)) → Turns by Good x passes drawn served homes views → get_elem? views id ≡ some v → other ≢ id → get_elem? views other ≡ some w → v.stage ≡ Idle → w.stage ≡ Idle → v.spare ≡ 0 → w.spare ≡ 0
      → Turns by Good x passes drawn served homes (set (set views id (gathered v w)) other spent)
  joins id other v w drawn served homes views r at ne at' idle idle' none_left none_left' =
      let z : View X E = gathered v w in
      let gone : View X E = spent in
      let l = lives drawn served homes views r id v at (λ e. let bad : ◌≡◌ {A = Stage E} Gone Idle = sym e ∙ idle in absurd (cc)) in
      let l' = lives drawn served homes views r other w at' (λ e. let bad : ◌≡◌ {A = Stage E} Gone Idle = sym e ∙ idle' in absurd (cc)) in
      let there : get_elem? (set views id z) other ≡ some w = set_else views id other z ne ∙ at' in
      let owners' = map (moved id other) r.owners in
      let many = length-map r.owners (moved id other) in
      let s = sum_set (λ (u : View X E). in_line u.stage) views id v z at in
      let s2 = sum_set (λ (u : View X E). in_line u.stage) (set views id z) other w gone there in
      let q : in_line w.stage ≡ 0 = ap in_line idle' in
      let p = sum_set weight views id v z at in
      let p2 = sum_set weight (set views id z) other w gone there in
      let pv : weight v ≡ 1 + (v.spare + length v.joined) = ap (λ k. passes_at k (v.spare + length v.joined)) idle in
      let pz : weight z ≡ 1 + (v.spare + length (v.joined ++ w.own ∷ w.joined)) = ap (λ k. passes_at k (v.spare + length (v.joined ++ w.own ∷ w.joined))) idle in
      let pw : weight w ≡ 1 + (w.spare + length w.joined) = ap (λ k. passes_at k (w.spare + length w.joined)) idle' in
      let both = length-append v.joined (w.own ∷ w.joined) in
      let mine : moved id other id ≡ id = moved-else id other id (λ is. ne (sym is)) in
      let theirs : moved id other other ≡ id = moved-other id other other refl in
      record {
        log = r.log;
        line = r.line;
        owners = owners';
        few = r.few;
        given = omega (arith, r.given);
        tickets = r.tickets;
        waiting = omega (arith, r.waiting);
        lined = λ i seat e. lined_idle (set views id z) other w gone seat _ there idle' (lined_idle views id v z seat _ at idle (r.lined i seat e));
        slot = ⊎_elim
            (λ home. inl home)
            (λ out. inr (out.0, out_idle r.line r.log (set views id z) other w gone there idle' (out_idle r.line r.log views id v z at idle out.1)))
            r.slot;
        seats = all_but
            (λ j d. (d.stage ≡ Gone) ⊎ (Lives by x passes owners' r.log j d × StandsInLine served r.line r.log homes j d.stage))
            (set views id z)
            other
            gone
            (inl refl)
            (λ j d apart e. ⊎_elim
            (λ here. subst
            (λ k. (k.stage ≡ Gone) ⊎ (Lives by x passes owners' r.log j k × StandsInLine served r.line r.log homes j k.stage))
            here.1
            (subst
            (λ k. (z.stage ≡ Gone) ⊎ (Lives by x passes owners' r.log k z × StandsInLine served r.line r.log homes k z.stage))
            (sym here.0)
            (inr (
              record {
                opening = l.0.opening;
                own = claim_moved r.owners r.log id other id id v.own mine l.0.own;
                joined = All-append
                    (IsClaim by owners' r.log id)
                    v.joined
                    (w.own ∷ w.joined)
                    (All-weaker _ _ (λ k. claim_moved r.owners r.log id other id id k mine) v.joined l.0.joined)
                    (All-cons
                    (IsClaim by owners' r.log id)
                    w.own
                    w.joined
                    (claim_moved r.owners r.log id other other id w.own theirs l'.0.own)
                    (All-weaker _ _ (λ k. claim_moved r.owners r.log id other other id k theirs) w.joined l'.0.joined));
                deals = λ more. absurd (omega arith);
              },
              l.1,
            ))))
            (λ else. ⊎_elim
            (λ old. inl old)
            (λ b. let same : moved id other j ≡ j = moved-else id other j apart in inr (
              record {
                opening = b.0.opening;
                own = claim_moved r.owners r.log id other j j d.own same b.0.own;
                joined = All-weaker _ _ (λ k. claim_moved r.owners r.log id other j j k same) d.joined b.0.joined;
                deals = λ more. let was = b.0.deals more in (was.0, omega (arith, was.1), omega (arith, was.2));
              },
              b.1,
            ))
            (r.seats j d else.1))
            (at_set views id j z d e));
        longest = seen_joined r.log views id other v w at ne at' (λ e. let bad : ◌≡◌ {A = Stage E} Gone Idle = sym e ∙ idle in absurd (cc)) r.longest;
        named = All-weaker (λ e. by e < length r.owners) (λ e. by e < length owners') (λ e is. omega arith) r.log r.named;
        parts = omega (arith, r.parts);
      }

  pub begins : (y : S) → 1 ≤ passes → passes ≤ 17 → Good x [] y → Turns by Good x passes 0 0 (some y ∷ []) (dealer x 1 (passes - 1) ∷ [])
  begins y some_pass few good =
      let d : View X E = dealer x 1 (passes - 1) in record {
        log = [];
        line = [];
        owners = 0 ∷ [];
        few = few;
        given = some_pass;
        tickets = refl;
        waiting = refl;
        lined = λ i seat e. absurd (some-ne-none seat (sym e));
        slot = inl (y, refl, good);
        seats = one_seat d;
        longest = record { seat = 0; view = d; here = refl; lives = λ e. absurd (cc); seen = (0, d.own, refl, refl) };
        named = All-nil _;
        parts = omega arith;
      }
    where
      one_seat : (d : View X E) → (seat : ℕ) (v : View X E) → get_elem? (dealer x 1 (passes - 1) ∷ []) seat ≡ some v → (v.stage ≡ Gone) ⊎ (Lives by x passes (0 ∷ []) [] seat v × StandsInLine 0 [] [] (some y ∷ []) seat v.stage)
      one_seat d zero v e = subst
          (λ k. (k.stage ≡ Gone) ⊎ (Lives by x passes (0 ∷ []) [] 0 k × StandsInLine 0 [] [] (some y ∷ []) 0 k.stage))
          (some-injective _ v e)
          (inr (record { opening = refl; own = record { owner = refl; seen = ([], refl); mine = refl }; joined = All-nil _; deals = λ more. (refl, refl, omega arith) }, tt))
      one_seat d (suc k) v e = absurd (some-ne-none v (sym e))

  pub record Settled (v : View X E) (homes : List (Option S)) : Type 0 where
    pub log : List E
    pub value : S
    pub home : homes ≡ some value ∷ []
    pub good : Good x log value
    pub own : BeginsWith log v.own.seen × (filter (λ e. eqb (by e) v.own.number) log ≡ v.own.mine)
    pub joined : All (λ c. BeginsWith log c.seen × (filter (λ e. eqb (by e) c.number) log ≡ c.mine)) v.joined
    pub longest : HasSeen log v
    pub named : All (λ e. by e < passes) log

  -- a live seat stands for some pass
  some_weight : (s : Stage E) (n : ℕ) → s ≢ Gone → 0 < passes_at s n
  some_weight Idle n live = omega arith
  some_weight (Waiting t) n live = omega arith
  some_weight (Inside t known) n live = omega arith
  some_weight Gone n live = absurd (live refl)

  -- where one idle seat stands for all passes, the object is at home
  pub settles : (id : ℕ) (v : View X E) (drawn served : ℕ) (homes : List (Option S)) (views : List (View X E)) → Turns by Good x passes drawn served homes views → get_elem? views id ≡ some v → v.stage ≡ Idle → weight v ≡ passes → Settled v homes
  settles id v drawn served homes views r at idle whole =
      let l = lives drawn served homes views r id v at (λ e. let bad : ◌≡◌ {A = Stage E} Gone Idle = sym e ∙ idle in absurd (cc)) in
      let settled : (y : S) → homes ≡ some y ∷ [] → Good x r.log y → Settled v homes = λ y home good. record {
        log = r.log;
        value = y;
        home = home;
        good = good;
        own = (l.0.own.seen, l.0.own.mine);
        joined = All-weaker (IsClaim by r.owners r.log id) (λ (c : Claim E). BeginsWith r.log c.seen × (filter (λ e. eqb (by e) c.number) r.log ≡ c.mine)) (λ c h. (h.seen, h.mine)) v.joined l.0.joined;
        longest = let s = r.longest in dite
            (ℕ_discrete s.seat id)
            (λ is. subst (HasSeen r.log) (at_same views id s.view v (subst (λ k. get_elem? views k ≡ some s.view) is s.here) at) s.seen)
            (λ apart.
            let two = sum_two weight views s.seat id s.view v apart s.here at in
            let some_pass = some_weight s.view.stage (s.view.spare + length s.view.joined) s.lives in absurd (omega (arith, r.parts)));
        named = All-weaker (λ e. by e < length r.owners) (λ e. by e < passes) (λ e is. omega (arith, r.given)) r.log r.named;
      } in
      ⊎_elim
      (λ home. settled home.0 home.1 home.2)
      (λ out. let o = out.1 in
      let apart : id ≢ o.0 = λ is. let same : v ≡ o.1 = at_same views id v o.1 at (subst (λ k. get_elem? views k ≡ some o.1) (sym is) o.4) in let bad : ◌≡◌ {A = Stage E} Idle (Inside o.2 r.log) = sym idle ∙ (ap (λ (u : View X E). u.stage) same ∙ o.5) in absurd (cc) in
      let two = sum_two weight views id o.0 v o.1 apart at o.4 in
      let its_weight : weight o.1 ≡ 1 + (o.1.spare + length o.1.joined) = ap (λ k. passes_at k (o.1.spare + length o.1.joined)) o.5 in absurd (omega (arith, r.parts)))
      r.slot
