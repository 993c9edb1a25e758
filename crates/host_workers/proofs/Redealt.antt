-- Workers gave their crews back, each with its own cores and banks in their places: the crews are those of a roster.
use Rattle.std.proofs.Common.{◌≡◌, ◌≢◌, ℕ, zero, suc, ◌<◌, ◌≤◌, ◌==◌, Bool, true, false, cond, if◌then◌else◌, List, [], ◌∷◌, length, map, drop, slice_get, Option, Some, None, option_map, unwrap_or, refl, sym, ap, ◌∙◌, subst, arith, eq-eqb, ne_eqb, eqb-true, true≢false, mod-lt}
use Rattle.std.specs.Option.{is_some}
use Rattle.std.proofs.lemmas.List.{length-map, nil_from_length}
use Rattle.std.proofs.lemmas.Bool.{eqb-false}
use Rattle.std.proofs.lemmas.Option.{none-some, same_Some, slice_get-map, slice_get_within}
use Rattle.dn_base.specs.declared.ids.BankId.{BankId}
use Rattle.dn_base.specs.declared.ids.CoreId.{CoreId}
use Rattle.grant_log.specs.declared.log.Stamped.{Stamped}
use Rattle.message_net.specs.declared.actor.Actor.{Actor}
use Rattle.message_net.specs.declared.actor.Actor.TheVariants.{Core, Bank, Keeper}
use Rattle.host_workers.specs.Rounds.{owner}
use Rattle.run_agreement.proofs.Places.{get-cases}
use Rattle.host_workers.specs.declared.crew.BankLog.{BankLog}
use Rattle.host_workers.specs.declared.crew.Crew.{Crew}
use Rattle.host_workers.specs.declared.owned.Owned.{Owned}
use Rattle.host_workers.specs.Crews.{keeper_log, owned_core, bank_of}
use Rattle.host_workers.specs.Pass.{IsSameCrew}
use Rattle.host_workers.specs.Rosters.{RosterParts, IsRoster, AreCrewsOf, owned_by, core_actor, bank_actor}

-- ---- lists that are related place by place
pub record AreAlike {A : Type 0} (R : A → A → Type 0) (had has : List A) : Type 0 where
  pub long : length has ≡ length had
  pub each : (i : ℕ) (a b : A) → slice_get had i ≡ Some a → slice_get has i ≡ Some b → R a b

alike-head : {A : Type 0} (R : A → A → Type 0) (a : A) (xs ys : List A) → AreAlike R (a ∷ xs) ys → (b : A) × (ys ≡ b ∷ drop 1 ys) × R a b
alike-head R a xs [] alike = absurd (omega (arith, alike.long))
alike-head R a xs (b ∷ ys) alike = (b, refl, alike.each zero a b refl refl)

alike-tail : {A : Type 0} (R : A → A → Type 0) (a : A) (xs ys : List A) → AreAlike R (a ∷ xs) ys → AreAlike R xs (drop 1 ys)
alike-tail R a xs [] alike = absurd (omega (arith, alike.long))
alike-tail R a xs (b ∷ ys) alike = record { long = omega (arith, alike.long); each = λ i p q at-p at-q. alike.each (suc i) p q at-p at-q }

-- two elements stand at the same place of two lists
pub record Stand {A : Type 0} (R : A → A → Type 0) (had has : List A) (a b : A) : Type 0 where
  pub related : R a b
  pub place : ℕ
  pub before : slice_get had place ≡ Some a
  pub after : slice_get has place ≡ Some b

-- ---- one list, dealt out to workers and then changed
pub owner-within : (workers : ℕ) (a : Actor) → 1 ≤ workers → owner workers a < workers
owner-within workers (Core core) some = mod-lt core.0 some
owner-within workers (Bank bank) some = mod-lt bank.0 some
owner-within workers Keeper some = some

owned-first : {A : Type 0} (actor : A → Actor) (workers k : ℕ) (a : A) (xs : List A) → owner workers (actor a) ≡ k → owned_by actor workers k (a ∷ xs) ≡ a ∷ owned_by actor workers k xs
owned-first actor workers k a xs own =
    let test : (owner workers (actor a) == k) ≡ true = eq-eqb (owner workers (actor a)) k own in
    rw test refl

owned-later : {A : Type 0} (actor : A → Actor) (workers k : ℕ) (a : A) (xs : List A) → owner workers (actor a) ≢ k → owned_by actor workers k (a ∷ xs) ≡ owned_by actor workers k xs
owned-later actor workers k a xs other =
    let test : (owner workers (actor a) == k) ≡ false = ne_eqb (owner workers (actor a)) k other in
    rw test refl

-- the workers' lists but for the first of one
abbrev without : {A : Type 0} → ℕ → (ℕ → List A) → ℕ → List A
without place crews k = cond (k == place) (drop 1 (crews k)) (crews k)

without-own : {A : Type 0} (place k : ℕ) (crews : ℕ → List A) → k ≡ place → without place crews k ≡ drop 1 (crews k)
without-own place k crews own = let test : (k == place) ≡ true = eq-eqb k place own in rw test refl

without-other : {A : Type 0} (place k : ℕ) (crews : ℕ → List A) → k ≢ place → without place crews k ≡ crews k
without-other place k crews other = let test : (k == place) ≡ false = ne_eqb k place other in rw test refl

pub record IsRedealt {A : Type 0} (actor : A → Actor) (workers : ℕ) (R : A → A → Type 0) (had : List A) (crews : ℕ → List A) (has : List A) : Type 0 where
  pub long : length has ≡ length had
  pub each : (i : ℕ) (a b : A) → slice_get had i ≡ Some a → slice_get has i ≡ Some b → Stand R (owned_by actor workers (owner workers (actor a)) had) (crews (owner workers (actor a))) a b
  pub crews_are : (k : ℕ) → k < workers → crews k ≡ owned_by actor workers k has

module _ {A : Type 0} (actor : A → Actor) (workers : ℕ) (R : A → A → Type 0) (some : 1 ≤ workers) (keeps : (a b : A) → R a b → actor b ≡ actor a) where
  -- each worker has those that it owned, one to one
  abbrev pub Alike : List A → (ℕ → List A) → Type 0
  Alike had crews = (k : ℕ) → k < workers → AreAlike R (owned_by actor workers k had) (crews k)

  -- what the workers have behind the first of all
  rest-alike : (a : A) (had : List A) (crews : ℕ → List A) → Alike (a ∷ had) crews → Alike had (without (owner workers (actor a)) crews)
  rest-alike a had crews alike k within = by (k == owner workers (actor a)) refl where
    by : (t : Bool) → (k == owner workers (actor a)) ≡ t → AreAlike R (owned_by actor workers k had) (without (owner workers (actor a)) crews k)
    by true e =
        let own : k ≡ owner workers (actor a) = eqb-true k (owner workers (actor a)) e in
        subst (λ l. AreAlike R (owned_by actor workers k had) l) (sym (without-own (owner workers (actor a)) k crews own))
        (alike-tail R a (owned_by actor workers k had) (crews k) (subst (λ l. AreAlike R l (crews k)) (owned-first actor workers k a had (sym own)) (alike k within)))
    by false e =
        let other : k ≢ owner workers (actor a) = eqb-false k (owner workers (actor a)) e in
        subst (λ l. AreAlike R (owned_by actor workers k had) l) (sym (without-other (owner workers (actor a)) k crews other))
        (subst (λ l. AreAlike R l (crews k)) (owned-later actor workers k a had (λ q. other (sym q))) (alike k within))

  first-stands : (a b : A) (had : List A) (crews : ℕ → List A) → R a b → crews (owner workers (actor a)) ≡ b ∷ drop 1 (crews (owner workers (actor a)))
      → Stand R (owned_by actor workers (owner workers (actor a)) (a ∷ had)) (crews (owner workers (actor a))) a b
  first-stands a b had crews related split = record {
    related = related;
    place = 0;
    before = ap (λ (l : List A). slice_get l 0) (owned-first actor workers (owner workers (actor a)) a had refl);
    after = ap (λ (l : List A). slice_get l 0) split;
  }

  later-stands : (a b : A) (had : List A) (crews : ℕ → List A) (k : ℕ) (p q : A) → crews (owner workers (actor a)) ≡ b ∷ drop 1 (crews (owner workers (actor a)))
      → Stand R (owned_by actor workers k had) (without (owner workers (actor a)) crews k) p q → Stand R (owned_by actor workers k (a ∷ had)) (crews k) p q
  later-stands a b had crews k p q split s = by (k == owner workers (actor a)) refl where
    by : (t : Bool) → (k == owner workers (actor a)) ≡ t → Stand R (owned_by actor workers k (a ∷ had)) (crews k) p q
    by true e =
        let own : k ≡ owner workers (actor a) = eqb-true k (owner workers (actor a)) e in
        let here : crews k ≡ b ∷ drop 1 (crews k) = subst (λ m. crews m ≡ b ∷ drop 1 (crews m)) (sym own) split in record {
          related = s.related;
          place = suc s.place;
          before = ap (λ (l : List A). slice_get l (suc s.place)) (owned-first actor workers k a had (sym own)) ∙ s.before;
          after = ap (λ (l : List A). slice_get l (suc s.place)) here ∙ (ap (λ (l : List A). slice_get l s.place) (sym (without-own (owner workers (actor a)) k crews own)) ∙ s.after);
        }
    by false e =
        let other : k ≢ owner workers (actor a) = eqb-false k (owner workers (actor a)) e in record {
          related = s.related;
          place = s.place;
          before = ap (λ (l : List A). slice_get l s.place) (owned-later actor workers k a had (λ q. other (sym q))) ∙ s.before;
          after = ap (λ (l : List A). slice_get l s.place) (sym (without-other (owner workers (actor a)) k crews other)) ∙ s.after;
        }

  each-stands : (a b : A) (had has : List A) (crews : ℕ → List A) → R a b → crews (owner workers (actor a)) ≡ b ∷ drop 1 (crews (owner workers (actor a)))
      → IsRedealt actor workers R had (without (owner workers (actor a)) crews) has → (i : ℕ) (p q : A) → slice_get (a ∷ had) i ≡ Some p → slice_get (b ∷ has) i ≡ Some q
      → Stand R (owned_by actor workers (owner workers (actor p)) (a ∷ had)) (crews (owner workers (actor p))) p q
  each-stands a b had has crews related split rest zero p q at-p at-q =
      subst (λ (x : A). Stand R (owned_by actor workers (owner workers (actor x)) (a ∷ had)) (crews (owner workers (actor x))) x q) (same_Some a p at-p)
      (subst (λ (y : A). Stand R (owned_by actor workers (owner workers (actor a)) (a ∷ had)) (crews (owner workers (actor a))) a y) (same_Some b q at-q) (first-stands a b had crews related split))
  each-stands a b had has crews related split rest (suc i) p q at-p at-q = later-stands a b had crews (owner workers (actor p)) p q split (rest.each i p q at-p at-q)

  crews-stand : (a b : A) (had has : List A) (crews : ℕ → List A) → R a b → crews (owner workers (actor a)) ≡ b ∷ drop 1 (crews (owner workers (actor a)))
      → IsRedealt actor workers R had (without (owner workers (actor a)) crews) has → (k : ℕ) → k < workers → crews k ≡ owned_by actor workers k (b ∷ has)
  crews-stand a b had has crews related split rest k within = by (k == owner workers (actor a)) refl where
    by : (t : Bool) → (k == owner workers (actor a)) ≡ t → crews k ≡ owned_by actor workers k (b ∷ has)
    by true e =
        let own : k ≡ owner workers (actor a) = eqb-true k (owner workers (actor a)) e in
        let here : crews k ≡ b ∷ drop 1 (crews k) = subst (λ m. crews m ≡ b ∷ drop 1 (crews m)) (sym own) split in
        here ∙ (ap (λ (l : List A). b ∷ l) (sym (without-own (owner workers (actor a)) k crews own) ∙ rest.crews_are k within) ∙ sym (owned-first actor workers k b has (ap (λ x. owner workers x) (keeps a b related) ∙ sym own)))
    by false e =
        let other : k ≢ owner workers (actor a) = eqb-false k (owner workers (actor a)) e in
        sym (without-other (owner workers (actor a)) k crews other) ∙ (rest.crews_are k within ∙ sym (owned-later actor workers k b has (λ q. other (sym q ∙ ap (λ x. owner workers x) (keeps a b related)))))

  -- what the workers have is one list, dealt out
  pub redealt : (had : List A) (crews : ℕ → List A) → Alike had crews → (has : List A) × IsRedealt actor workers R had crews has
  redealt [] crews alike = ([], record { long = refl; each = λ i a b at-a at-b. absurd (none-some a at-a); crews_are = λ k within. nil_from_length (crews k) (alike k within).long })
  redealt (a ∷ had) crews alike =
      let place = owner workers (actor a) in
      let rest = redealt had (without place crews) (rest-alike a had crews alike) in
      let first : AreAlike R (a ∷ owned_by actor workers place had) (crews place) =
      subst (λ l. AreAlike R l (crews place)) (owned-first actor workers place a had refl) (alike place (owner-within workers (actor a) some)) in
      let head = alike-head R a (owned_by actor workers place had) (crews place) first in
      (head.0 ∷ rest.0, record { long = ap suc rest.1.long; each = each-stands a head.0 had rest.0 crews head.2 head.1 rest.1; crews_are = crews-stand a head.0 had rest.0 crews head.2 head.1 rest.1 })

-- ---- the crews of a roster, given back
pub alike-mapped : {A B : Type 0} (f : A → B) (had has : List A) → map f has ≡ map f had → AreAlike (λ a b. f b ≡ f a) had has
alike-mapped f had has same = record {
  long = sym (length-map has f) ∙ (ap length same ∙ length-map had f);
  each = λ i a b at-a at-b.
      same_Some (f b) (f a) (sym (slice_get-map f has i ∙ ap (λ o. option_map f o) at-b) ∙ (ap (λ l. slice_get l i) same ∙ (slice_get-map f had i ∙ ap (λ o. option_map f o) at-a)));
}

abbrev pub SameCore : Owned → Owned → Type 0
SameCore o p = p.core ≡ o.core

abbrev pub SameBank : BankLog → BankLog → Type 0
SameBank b d = d.bank ≡ b.bank

abbrev cores_in : Option Crew → List Owned
cores_in None = []
cores_in (Some crew) = crew.cores.items

abbrev banks_in : Option Crew → List BankLog
banks_in None = []
banks_in (Some crew) = crew.banks.items

abbrev keeper_in : Option Crew → List Stamped
keeper_in None = []
keeper_in (Some crew) = unwrap_or (keeper_log crew) []

-- a crew is given back
pub record IsBack (had has : Crew) : Type 0 where
  pub same : IsSameCrew had has
  pub kept : is_some (keeper_log has) ≡ is_some (keeper_log had)

-- two elements stand at the same place of the crews of one worker, as they were and as they are
pub record StandsIn {A : Type 0} (R : A → A → Type 0) (part : Crew → List A) (number : ℕ) (crews after : List Crew) (a b : A) : Type 0 where
  pub had : Crew
  pub has : Crew
  pub had_at : slice_get crews number ≡ Some had
  pub has_at : slice_get after number ≡ Some has
  pub stand : Stand R (part had) (part has) a b

abbrev pub cores_of : Crew → List Owned
cores_of crew = crew.cores.items

abbrev pub banks_of : Crew → List BankLog
banks_of crew = crew.banks.items

-- each core and each bank stands in its owner's crew at the place at which it stood
pub record HaveStood (workers : ℕ) (crews after : List Crew) (had has : RosterParts) : Type 0 where
  pub cores : (i : ℕ) (o p : Owned) → slice_get had.cores i ≡ Some o → slice_get has.cores i ≡ Some p → StandsIn SameCore cores_of (owner workers (core_actor o)) crews after o p
  pub banks : (i : ℕ) (b d : BankLog) → slice_get had.banks i ≡ Some b → slice_get has.banks i ≡ Some d → StandsIn SameBank banks_of (owner workers (bank_actor b)) crews after b d

kept-log : (t : Bool) (was now : Option (List Stamped)) (w l : List Stamped) → was ≡ (if t then Some w else None) → is_some now ≡ is_some was → (t ≡ true → unwrap_or now [] ≡ l) → now ≡ (if t then Some l else None)
kept-log true was None w l e same is = absurd (true≢false (sym (same ∙ ap is_some e)))
kept-log true was (Some x) w l e same is = ap Some (is refl)
kept-log false was None w l e same is = refl
kept-log false was (Some x) w l e same is = absurd (true≢false (same ∙ ap is_some e))

module _ (cores banks workers : ℕ) (had : RosterParts) (crews after : List Crew) (some : 1 ≤ workers) (is : IsRoster cores banks had) (are : AreCrewsOf workers had crews) (count : length after ≡ workers)
    (back : (k : ℕ) (b c : Crew) → slice_get crews k ≡ Some b → slice_get after k ≡ Some c → IsBack b c) where
  was : (k : ℕ) → k < workers → (b : Crew) × (slice_get crews k ≡ Some b)
  was k within = get-cases crews k (omega (arith, within, are.count))

  now : (k : ℕ) → k < workers → (c : Crew) × (slice_get after k ≡ Some c)
  now k within = get-cases after k (omega (arith, within, count))

  core-alike : (k : ℕ) → k < workers → AreAlike SameCore (owned_by core_actor workers k had.cores) (cores_in (slice_get after k))
  core-alike k within =
      let b = was k within in
      let c = now k within in
      subst (λ l. AreAlike SameCore l (cores_in (slice_get after k))) (are.each k b.0 b.1).cores
      (subst (λ l. AreAlike SameCore b.0.cores.items l) (sym (ap cores_in c.1)) (alike-mapped owned_core b.0.cores.items c.0.cores.items (back k b.0 c.0 b.1 c.1).same.cores))

  bank-alike : (k : ℕ) → k < workers → AreAlike SameBank (owned_by bank_actor workers k had.banks) (banks_in (slice_get after k))
  bank-alike k within =
      let b = was k within in
      let c = now k within in
      subst (λ l. AreAlike SameBank l (banks_in (slice_get after k))) (are.each k b.0 b.1).banks
      (subst (λ l. AreAlike SameBank b.0.banks.items l) (sym (ap banks_in c.1)) (alike-mapped bank_of b.0.banks.items c.0.banks.items (back k b.0 c.0 b.1 c.1).same.banks))

  has-cores : (cs : List Owned) × IsRedealt core_actor workers SameCore had.cores (λ k. cores_in (slice_get after k)) cs
  has-cores = redealt core_actor workers SameCore some (λ o p same. ap Core same) had.cores (λ k. cores_in (slice_get after k)) core-alike

  has-banks : (bs : List BankLog) × IsRedealt bank_actor workers SameBank had.banks (λ k. banks_in (slice_get after k)) bs
  has-banks = redealt bank_actor workers SameBank some (λ b d same. ap Bank same) had.banks (λ k. banks_in (slice_get after k)) bank-alike

  roster-of : (cs : List Owned) (bs : List BankLog) → IsRedealt core_actor workers SameCore had.cores (λ k. cores_in (slice_get after k)) cs → IsRedealt bank_actor workers SameBank had.banks (λ k. banks_in (slice_get after k)) bs
      → IsRoster cores banks (record { cores = cs; banks = bs; keeper = keeper_in (slice_get after 0) })
  roster-of cs bs c b = record {
    core_count = c.long ∙ is.core_count;
    core_at = λ i p there.
        let old = get-cases had.cores i (omega (arith, c.long, slice_get_within cs i p there)) in
        ap (λ (n : CoreId). n.0) (c.each i old.0 p old.1 there).related ∙ is.core_at i old.0 old.1;
    bank_count = b.long ∙ is.bank_count;
    bank_at = λ i p there.
        let old = get-cases had.banks i (omega (arith, b.long, slice_get_within bs i p there)) in
        ap (λ (n : BankId). n.0) (b.each i old.0 p old.1 there).related ∙ is.bank_at i old.0 old.1;
  }

  crews-of : (cs : List Owned) (bs : List BankLog) → IsRedealt core_actor workers SameCore had.cores (λ k. cores_in (slice_get after k)) cs → IsRedealt bank_actor workers SameBank had.banks (λ k. banks_in (slice_get after k)) bs
      → AreCrewsOf workers (record { cores = cs; banks = bs; keeper = keeper_in (slice_get after 0) }) after
  crews-of cs bs c b = record {
    count = count;
    each = λ k crew there.
        let within : k < workers = omega (arith, count, slice_get_within after k crew there) in
        let old = was k within in
        let from = back k old.0 crew old.1 there in
        let mine = are.each k old.0 old.1 in record {
          worker = from.same.worker ∙ mine.worker;
          cores = sym (ap cores_in there) ∙ c.crews_are k within;
          banks = sym (ap banks_in there) ∙ b.crews_are k within;
          keeper = kept-log (k == 0) (keeper_log old.0) (keeper_log crew) had.keeper (keeper_in (slice_get after 0)) mine.keeper from.kept
              (λ e. sym (ap keeper_in (subst (λ m. slice_get after m ≡ Some crew) (eqb-true k 0 e) there)));
        };
  }

  stood : (cs : List Owned) (bs : List BankLog) → IsRedealt core_actor workers SameCore had.cores (λ k. cores_in (slice_get after k)) cs → IsRedealt bank_actor workers SameBank had.banks (λ k. banks_in (slice_get after k)) bs
      → HaveStood workers crews after had (record { cores = cs; banks = bs; keeper = keeper_in (slice_get after 0) })
  stood cs bs c b = record {
    cores = λ i o p at-o at-p.
        let k = owner workers (core_actor o) in
        let within = owner-within workers (core_actor o) some in
        let old = was k within in
        let new = now k within in record {
          had = old.0;
          has = new.0;
          had_at = old.1;
          has_at = new.1;
          stand = subst (λ l. Stand SameCore l new.0.cores.items o p) (sym (are.each k old.0 old.1).cores)
              (subst (λ l. Stand SameCore (owned_by core_actor workers k had.cores) l o p) (ap cores_in new.1) (c.each i o p at-o at-p));
        };
    banks = λ i o p at-o at-p.
        let k = owner workers (bank_actor o) in
        let within = owner-within workers (bank_actor o) some in
        let old = was k within in
        let new = now k within in record {
          had = old.0;
          has = new.0;
          had_at = old.1;
          has_at = new.1;
          stand = subst (λ l. Stand SameBank l new.0.banks.items o p) (sym (are.each k old.0 old.1).banks)
              (subst (λ l. Stand SameBank (owned_by bank_actor workers k had.banks) l o p) (ap banks_in new.1) (b.each i o p at-o at-p));
        };
  }

  -- the crews given back are those of a roster, in which each core and bank stands in its place
  pub recrewed : (has : RosterParts) × IsRoster cores banks has × AreCrewsOf workers has after × HaveStood workers crews after had has
  recrewed =
      let cs = has-cores in
      let bs = has-banks in
      (record { cores = cs.0; banks = bs.0; keeper = keeper_in (slice_get after 0) }, roster-of cs.0 bs.0 cs.1 bs.1, crews-of cs.0 bs.0 cs.1 bs.1, stood cs.0 bs.0 cs.1 bs.1)
