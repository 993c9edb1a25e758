-- From what closing the rows of a hall gives to what closing the hall does.
use Rattle.std.proofs.Common.{◌≡◌, ℕ, zero, suc, ◌+◌, ◌<◌, List, [], ◌∷◌, ◌++◌, length, map, Option, Some, None, slice_get, sym, refl, ap, ◌∙◌, subst, arith}
use Rattle.std.specs.Prelude.{reverse}
use Rattle.std.specs.List.{All}
use Rattle.std.proofs.lemmas.List.{length-map}
use Rattle.std.proofs.lemmas.List.Elements.{All-nil, All-cons, All-head, All-tail, All-map}
use Rattle.turn_lock.specs.declared.entry.Entry.{Entry}
use Rattle.turn_lock.specs.History.{BeginsWith, Legal, calls_by}
use Rattle.turn_lock.specs.Passes.{Sharing, Token, IsPassOf}
use Rattle.bank_hall.specs.Rows.{Tokens, HasPassesOf, AreShared, AreTold, AreClosed, AreAllCallers, made_by, made_of}
use Rattle.bank_hall.specs.Halls.{HallView, PassView, BankEntry, PortEntry, KeeperEntry, IsHallPass, AreNewPasses}
use Rattle.bank_hall.proofs.StartLemmas.{snoc-append, reverse-push}
use Rattle.bank_hall.specs.Closing.{AreAllHallPasses, IsClosedRow, IsToldPass, or_none, history_of, seen_by_pass}

module _ {X : Type 0} where
  abbrev IsNothing : Option X → Type 0
  IsNothing None = Unit {0}
  IsNothing (Some x) = ⊥

  abbrev held : X → Option X → X
  held d None = d
  held d (Some x) = x

  -- the elements of a list of one
  pub one_element : (xs ys : List X) (x : X) → length xs ≡ 1 → xs ≡ ys ++ x ∷ [] → xs ≡ x ∷ []
  one_element xs [] x one split = split
  one_element xs (y ∷ []) x one split = absurd (omega (arith, sym one ∙ ap length split))
  one_element xs (y ∷ z ∷ ys) x one split = absurd (omega (arith, sym one ∙ ap length split))

module _ {X Y : Type 0} where
  -- one more was taken apart
  pub row_more : (row : X → Y) (xs left : List X) (x : X) (y : Y) (apart apart' first : List Y) → xs ≡ left ++ x ∷ [] → y ≡ row x → apart' ≡ apart ++ y ∷ [] → apart ++ map row (reverse xs) ≡ first → apart' ++ map row (reverse left) ≡ first
  row_more row xs left x y apart apart' first split is pushed had =
      ap (λ l. l ++ map row (reverse left)) (pushed ∙ ap (λ z. apart ++ z ∷ []) is) ∙ snoc-append apart (map row (reverse left)) (row x) ∙ ap (λ l. apart ++ map row l) (sym (reverse-push left xs x split)) ∙ had

module _ {O I U : Type 0} where
  told_calls : (n : ℕ) (hs : List (List (Entry O I U))) (ps : List (Token O I U)) → AreTold hs ps → ((i : ℕ) (p : Token O I U) → slice_get ps i ≡ Some p → p.number ≡ n) → (i : ℕ) → calls_by n (or_none (slice_get hs i)) ≡ made_by (slice_get ps i)
  told_calls n [] [] told same i = refl
  told_calls n [] (p ∷ ps) told same i = absurd told
  told_calls n (h ∷ hs) [] told same i = absurd told
  told_calls n (h ∷ hs) (p ∷ ps) told same zero = subst (λ k. calls_by k h ≡ p.made) (same 0 p refl) told.0.1
  told_calls n (h ∷ hs) (p ∷ ps) told same (suc i) = told_calls n hs ps told.1 (λ j q at. same (suc j) q at) i

  pub told_seen : (hs : List (List (Entry O I U))) (ps : List (Token O I U)) → AreTold hs ps → (i : ℕ) → BeginsWith (or_none (slice_get hs i)) (seen_by_pass (slice_get ps i))
  told_seen [] [] told i = ([], refl)
  told_seen [] (p ∷ ps) told i = absurd told
  told_seen (h ∷ hs) [] told i = absurd told
  told_seen (h ∷ hs) (p ∷ ps) told zero = told.0.0
  told_seen (h ∷ hs) (p ∷ ps) told (suc i) = told_seen hs ps told.1 i

  -- each of a caller's passes has the caller's number
  numbered : (turns : List (Sharing O)) (ps : List (Token O I U)) (n : ℕ) → length ps ≡ length turns → ((i : ℕ) (t : Sharing O) (p : Token O I U) → slice_get turns i ≡ Some t → slice_get ps i ≡ Some p → IsPassOf t p × (p.number ≡ n)) → (i : ℕ) (p : Token O I U) → slice_get ps i ≡ Some p → p.number ≡ n
  numbered [] [] n same each i p at = absurd (subst IsNothing at tt)
  numbered [] (q ∷ qs) n same each i p at = absurd (omega (arith, same))
  numbered (t ∷ ts) [] n same each i p at = absurd (subst IsNothing at tt)
  numbered (t ∷ ts) (q ∷ qs) n same each zero p at = (each 0 t p refl at).1
  numbered (t ∷ ts) (q ∷ qs) n same each (suc i) p at = numbered ts qs n (omega (arith, same)) (λ j u k uj kj. each (suc j) u k uj kj) i p at

  pub calls_told : (turns : List (Sharing O)) (c : Tokens O I U) (hs : List (List (Entry O I U))) → HasPassesOf turns c → AreTold hs c.passes → (i : ℕ) → calls_by c.number (history_of hs i) ≡ made_of c i
  calls_told turns c hs fits told i = told_calls c.number hs c.passes told (numbered turns c.passes c.number fits.count fits.each) i

  -- the callers' passes of one row are all callers of it
  pub row_callers : (turns turns' : List (Sharing O)) (row : PassView → Tokens O I U) (passes : List PassView) (rows : List (Tokens O I U)) → turns' ≡ turns → rows ≡ map row passes → All (λ p. HasPassesOf turns (row p)) passes → All (λ (t : Sharing O). t.passes ≡ length passes) turns → AreAllCallers turns' rows
  row_callers turns turns' row passes rows same apart fit shared = subst (λ ts. AreAllCallers ts rows) (sym same) (subst (AreAllCallers turns) (sym apart) (record {
    fit = All-map (HasPassesOf turns) row passes fit;
    shared = subst (λ n. All (λ (t : Sharing O). t.passes ≡ n) turns) (sym (length-map passes row)) shared;
  }))

module _ {O I U C : Type 0} (content : O → C) (answer : C → I → U) (next : C → I → C) where
  pub closed_counts : (ts : List (Sharing O)) (os : List O) (hs : List (List (Entry O I U))) → AreClosed content answer next ts os hs → (length os ≡ length ts) × (length hs ≡ length ts)
  closed_counts [] [] [] closed = (refl, refl)
  closed_counts [] [] (h ∷ hs) closed = absurd closed
  closed_counts [] (o ∷ os) hs closed = absurd closed
  closed_counts (t ∷ ts) [] hs closed = absurd closed
  closed_counts (t ∷ ts) (o ∷ os) [] closed = absurd closed
  closed_counts (t ∷ ts) (o ∷ os) (h ∷ hs) closed =
      let rest = closed_counts ts os hs closed.1 in (ap suc rest.0, ap suc rest.1)

  closed_legal : (ts : List (Sharing O)) (os : List O) (hs : List (List (Entry O I U))) → AreClosed content answer next ts os hs → (i : ℕ) (t : Sharing O) (o : O) → slice_get ts i ≡ Some t → slice_get os i ≡ Some o → Legal answer next (content t.opening) (history_of hs i) (content o)
  closed_legal [] os hs closed i t o ti oi = absurd (subst IsNothing ti tt)
  closed_legal (u ∷ ts) [] hs closed i t o ti oi = absurd (subst IsNothing oi tt)
  closed_legal (u ∷ ts) (p ∷ os) [] closed i t o ti oi = absurd closed
  closed_legal (u ∷ ts) (p ∷ os) (h ∷ hs) closed zero t o ti oi = subst (λ (s : Sharing O). Legal answer next (content s.opening) h (content o)) (ap (held u) ti) (subst (λ q. Legal answer next (content u.opening) h (content q)) (ap (held p) oi) closed.0.0)
  closed_legal (u ∷ ts) (p ∷ os) (h ∷ hs) closed (suc i) t o ti oi = closed_legal ts os hs closed.1 i t o ti oi

  closed_named : (n : ℕ) (ts : List (Sharing O)) (os : List O) (hs : List (List (Entry O I U))) → All (λ (t : Sharing O). t.passes ≡ n) ts → AreClosed content answer next ts os hs → (i : ℕ) → All (λ (e : Entry O I U). e.pass < n) (history_of hs i)
  closed_named n [] [] [] shared closed i = All-nil (λ (e : Entry O I U). e.pass < n)
  closed_named n [] [] (h ∷ hs) shared closed i = absurd closed
  closed_named n [] (o ∷ os) hs shared closed i = absurd closed
  closed_named n (t ∷ ts) [] hs shared closed i = absurd closed
  closed_named n (t ∷ ts) (o ∷ os) [] shared closed i = absurd closed
  closed_named n (t ∷ ts) (o ∷ os) (h ∷ hs) shared closed zero = subst (λ k. All (λ (e : Entry O I U). e.pass < k) h) (All-head (λ (u : Sharing O). u.passes ≡ n) t ts shared) closed.0.1
  closed_named n (t ∷ ts) (o ∷ os) (h ∷ hs) shared closed (suc i) = closed_named n ts os hs (All-tail (λ (u : Sharing O). u.passes ≡ n) t ts shared) closed.1 i

  pub closed_row : (n : ℕ) (ts : List (Sharing O)) (os : List O) (hs : List (List (Entry O I U))) → All (λ (t : Sharing O). t.passes ≡ n) ts → AreClosed content answer next ts os hs → IsClosedRow content answer next ts n os hs
  closed_row n ts os hs shared closed = record {
    object_count = (closed_counts ts os hs closed).0;
    history_count = (closed_counts ts os hs closed).1;
    legal = closed_legal ts os hs closed;
    named = closed_named n ts os hs shared closed;
  }

pub told_pass : (hall : HallView) (banks : List (List BankEntry)) (ports : List (List PortEntry)) (keeper : List KeeperEntry) (pass : PassView) → IsHallPass hall pass → AreTold banks pass.banks.passes → AreTold ports pass.ports.passes → AreTold (keeper ∷ []) pass.keeper.passes → IsToldPass banks ports keeper pass
told_pass hall banks ports keeper pass fits told_banks told_ports told_keeper = record {
  bank_calls = calls_told hall.banks pass.banks banks fits.banks told_banks;
  port_calls = λ c. subst (λ n. calls_by n (history_of ports c) ≡ made_of pass.ports c) fits.port_number (calls_told hall.ports pass.ports ports fits.ports told_ports c);
  keeper_calls = subst (λ n. calls_by n keeper ≡ made_of pass.keeper 0) fits.keeper_number (calls_told hall.keeper pass.keeper (keeper ∷ []) fits.keeper told_keeper 0);
  banks_seen = told_seen banks pass.banks.passes told_banks;
  ports_seen = told_seen ports pass.ports.passes told_ports;
  keeper_seen = told_seen (keeper ∷ []) pass.keeper.passes told_keeper 0;
}

module _ {O I U : Type 0} where
  abbrev pub RowTold : List (List (Entry O I U)) → Tokens O I U → Type 0
  RowTold hs c = AreTold hs c.passes

pub all_told : (hall : HallView) (banks : List (List BankEntry)) (ports : List (List PortEntry)) (keeper : List KeeperEntry) (passes : List PassView) → All (IsHallPass hall) passes → All (RowTold banks) (map (λ p. p.banks) passes) → All (RowTold ports) (map (λ p. p.ports) passes) → All (RowTold (keeper ∷ [])) (map (λ p. p.keeper) passes) → All (IsToldPass banks ports keeper) passes
all_told hall banks ports keeper [] fit told_banks told_ports told_keeper = All-nil (IsToldPass banks ports keeper)
all_told hall banks ports keeper (p ∷ ps) fit told_banks told_ports told_keeper =
    let bank_rows = map (λ (q : PassView). q.banks) ps in
    let port_rows = map (λ (q : PassView). q.ports) ps in
    let keeper_rows = map (λ (q : PassView). q.keeper) ps in
    All-cons (IsToldPass banks ports keeper) p ps
    (told_pass hall banks ports keeper p (All-head (IsHallPass hall) p ps fit) (All-head (RowTold banks) p.banks bank_rows told_banks) (All-head (RowTold ports) p.ports port_rows told_ports) (All-head (RowTold (keeper ∷ [])) p.keeper keeper_rows told_keeper))
    (all_told hall banks ports keeper ps (All-tail (IsHallPass hall) p ps fit) (All-tail (RowTold banks) p.banks bank_rows told_banks) (All-tail (RowTold ports) p.ports port_rows told_ports) (All-tail (RowTold (keeper ∷ [])) p.keeper keeper_rows told_keeper))

pub new_fit : (hall : HallView) (n : ℕ) (ps : List PassView) → AreNewPasses hall n ps → All (IsHallPass hall) ps
new_fit hall n [] new = All-nil (IsHallPass hall)
new_fit hall n (p ∷ ps) new = All-cons (IsHallPass hall) p ps new.0.fits (new_fit hall (n + 1) ps new.1)

-- the passes that a hall is opened with are all its passes
pub opened_all : (hall : HallView) (banks : _) (ports : _) (keeper : _) (n : ℕ) (ps : List PassView) → length ps ≡ n → AreNewPasses hall 0 ps → AreShared n banks hall.banks → AreShared n ports hall.ports → AreShared n keeper hall.keeper → AreAllHallPasses hall ps
opened_all hall banks ports keeper n ps count new shared_banks shared_ports shared_keeper = record {
  fit = new_fit hall 0 ps new;
  banks_shared = subst (λ k. All (λ t. t.passes ≡ k) hall.banks) (sym count) shared_banks.shared;
  ports_shared = subst (λ k. All (λ t. t.passes ≡ k) hall.ports) (sym count) shared_ports.shared;
  keeper_shared = subst (λ k. All (λ t. t.passes ≡ k) hall.keeper) (sym count) shared_keeper.shared;
}
