-- The bank as a run begins: what stands at its places.
use Rattle.std.proofs.Common.{◌≡◌, ℕ, ◌+◌, ◌-◌, ◌*◌, ◌/◌, ◌%◌, ◌<◌, ◌≤◌, ◌&&◌, ◌==◌, Bool, true, false, cond, nat_lt, List, [], ◌∷◌, length, map, slice_get, Option, Some, None, refl, sym, ap, arith, ◌∙◌, suc, zero}
use Rattle.std.specs.Prelude.{replicate, option_map}
use Rattle.std.proofs.Math.Nat.{mul-le-mul_left, add-mul-mod_self_left}
use Rattle.std.proofs.lemmas.Nat.{mod-mul-add}
use Rattle.std.proofs.lemmas.Bool.{ltb-true, ltb-false, eqb-true, eqb-false}
use Rattle.std.proofs.lemmas.Bool.Decides.{nat_tests}
use Rattle.std.proofs.lemmas.Option.{slice_get-map, slice_get_past}
use Rattle.queue_lock.specs.Lock.{Lock, IsLockOf, free_lock}
use Rattle.queue_lock.proofs.RowLemmas.{IsLockOf-free}
use Rattle.dn_base.specs.declared.ids.CoreId.{CoreId}
use Rattle.registry_bank.specs.declared.bank.BankWord.TheVariants.{Home, Reg}
use Rattle.registry_bank.specs.Bank.{IsNewBank, IsBank, bank_word, bank_lock, first_word, own_of, initial_bank}
use Rattle.registry_bank.proofs.Strides.{AreStrided}

-- two numbers with one rest, less than the divisor apart, are one
gap-zero : (banks place gap : ℕ) → gap < banks → (place + gap) % banks ≡ place % banks → gap ≡ 0
gap-zero banks place gap within same = by_test (nat_lt (place / banks) ((place + gap) / banks)) refl where
  by_test : (t : Bool) → nat_lt (place / banks) ((place + gap) / banks) ≡ t → gap ≡ 0
  by_test true e =
      let above = ltb-true (place / banks) ((place + gap) / banks) e in
      let more = mul-le-mul_left banks above in
      absurd (omega (arith, within, same, more))
  by_test false e =
      let below = ltb-false (place / banks) ((place + gap) / banks) e in
      let less = mul-le-mul_left banks below in
      omega (arith, within, same, less)

-- the bank's items are those at every `banks`-th place, from the first that is its own
own-get : {X : Type 0} (bank banks place gap : ℕ) (xs : List X) (k : ℕ) → gap < banks → (place + gap) % banks ≡ bank → slice_get (own_of bank banks place xs) k ≡ slice_get xs (gap + banks * k)
unfolding own_of
own-get bank banks place gap [] k within here = refl
own-get {X} bank banks place gap (x ∷ xs) k within here =
    by_test (place % banks == bank) refl (λ g j less there. own-get bank banks (place + 1) g xs j less there) where
      by_place : place % banks ≡ bank → gap ≡ 0 → (j : ℕ) → ((g i : ℕ) → g < banks → (place + 1 + g) % banks ≡ bank → slice_get (own_of bank banks (place + 1) xs) i ≡ slice_get xs (g + banks * i)) → slice_get (x ∷ own_of bank banks (place + 1) xs) j ≡ slice_get (x ∷ xs) (gap + banks * j)
      by_place own none zero rest =
          let first : gap + banks * 0 ≡ 0 = omega (arith, none) in
          rw first refl
      by_place own none (suc j) rest =
          let next : gap + banks * suc j ≡ suc (banks - 1 + banks * j) = omega (arith, none, within) in
          let round : place + 1 + (banks - 1) ≡ place + banks * 1 = omega (arith, within) in
          let there : (place + 1 + (banks - 1)) % banks ≡ bank = rw (round, add-mul-mod_self_left place banks 1) own in
          rw next (rest (banks - 1) j (omega (arith, within)) there)

      by_gap : (place % banks == bank) ≡ false → (g : ℕ) → gap ≡ g → ((g i : ℕ) → g < banks → (place + 1 + g) % banks ≡ bank → slice_get (own_of bank banks (place + 1) xs) i ≡ slice_get xs (g + banks * i)) → slice_get (own_of bank banks (place + 1) xs) k ≡ slice_get (x ∷ xs) (gap + banks * k)
      by_gap other zero e rest =
          let same : place + gap ≡ place = omega (arith, e) in
          let own : place % banks ≡ bank = rw same at here in
          absurd (eqb-false (place % banks) bank other own)
      by_gap other (suc g) e rest =
          let next : gap + banks * k ≡ suc (g + banks * k) = omega (arith, e) in
          let same : place + gap ≡ place + 1 + g = omega (arith, e) in
          let there : (place + 1 + g) % banks ≡ bank = rw (← same) here in
          rw next (rest g k (omega (arith, within, e)) there)

      by_test : (t : Bool) → (place % banks == bank) ≡ t → ((g i : ℕ) → g < banks → (place + 1 + g) % banks ≡ bank → slice_get (own_of bank banks (place + 1) xs) i ≡ slice_get xs (g + banks * i)) → slice_get (own_of bank banks place (x ∷ xs)) k ≡ slice_get (x ∷ xs) (gap + banks * k)
      by_test true e rest =
          let own = eqb-true (place % banks) bank e in
          rw e (by_place own (gap-zero banks place gap within (here ∙ sym own)) k rest)
      by_test false e rest = rw e (by_gap e gap refl rest)

-- from the first place on
pub own-strided : {X : Type 0} (bank banks : ℕ) (xs : List X) (k : ℕ) → bank < banks → slice_get (own_of bank banks 0 xs) k ≡ slice_get xs (bank + banks * k)
own-strided bank banks xs k some =
    let first : 0 * banks + bank ≡ 0 + bank = omega arith in
    let here : (0 + bank) % banks ≡ bank = rw (← first) (mod-mul-add 0 banks bank some) in
    own-get bank banks 0 bank xs k some here

own-number : {X : Type 0} (bank banks : ℕ) (xs : List X) (n : ℕ) → bank < banks → n % banks ≡ bank → slice_get (own_of bank banks 0 xs) (n / banks) ≡ slice_get xs n
own-number bank banks xs n some own =
    let number : bank + banks * (n / banks) ≡ n = omega (arith, own, some) in
    own-strided bank banks xs (n / banks) some ∙ ap (slice_get xs) number

-- lists with the same items are one
pub same-items : {X : Type 0} (xs ys : List X) → ((k : ℕ) → slice_get xs k ≡ slice_get ys k) → xs ≡ ys
same-items [] [] same = refl
same-items [] (y ∷ ys) same = let never = same 0 in absurd (cc)
same-items (x ∷ xs) [] same = let never = same 0 in absurd (cc)
same-items {X} (x ∷ xs) (y ∷ ys) same =
    let first : Some x ≡ Some y = same 0 in
    let here : x ≡ y = cc in
    let rest : xs ≡ ys = same-items xs ys (λ k. same (suc k)) in
    cc

-- a list that has what `f` gives at every `banks`-th number, to the end, has the same items as another that does
pub strided-same : {X : Type 0} (f : ℕ → Option X) (bank banks limit : ℕ) (xs ys : List X) → AreStrided f bank banks xs → limit ≤ bank + banks * length xs → ((n : ℕ) → limit ≤ n → f n ≡ None) → ((k : ℕ) → slice_get ys k ≡ f (bank + banks * k)) → xs ≡ ys
strided-same f bank banks limit xs ys so_far whole past others = same-items xs ys each where
  by_test : (k : ℕ) (t : Bool) → nat_lt k (length xs) ≡ t → slice_get xs k ≡ slice_get ys k
  by_test k true e = so_far k (ltb-true k (length xs) e) ∙ sym (others k)
  by_test k false e =
      let beyond = ltb-false k (length xs) e in
      let more = mul-le-mul_left banks beyond in
      slice_get_past xs k beyond ∙ sym (others k ∙ past (bank + banks * k) (omega (arith, whole, more)))

  each : (k : ℕ) → slice_get xs k ≡ slice_get ys k
  each k = by_test k (nat_lt k (length xs)) refl

-- the words and locks of the opened bank
pub get-replicate : {X : Type 0} (n : ℕ) (x : X) (k : ℕ) → slice_get (replicate n x) k ≡ cond (nat_lt k n) (Some x) None
get-replicate zero x k = grind (arith, nat_tests)
get-replicate (suc n) x zero = grind (arith, nat_tests)
get-replicate (suc n) x (suc k) = grind (arith, nat_tests, get-replicate n x k)

first_word-map : (o : Option ℕ) → option_map (λ (value : ℕ). Home value) o ≡ first_word o
first_word-map None = refl
first_word-map (Some value) = refl

pub opened-words : (bank banks : ℕ) (memory : List ℕ) (k : ℕ) → bank < banks → slice_get (map (λ (value : ℕ). Home value) (own_of bank banks 0 memory)) k ≡ first_word (slice_get memory (bank + banks * k))
opened-words bank banks memory k some =
    slice_get-map (λ (value : ℕ). Home value) (own_of bank banks 0 memory) k
    ∙ ap (option_map (λ (value : ℕ). Home value)) (own-strided bank banks memory k some)
    ∙ first_word-map (slice_get memory (bank + banks * k))

pub opened-locks : (bank banks cores locks k : ℕ) → bank < banks → slice_get (own_of bank banks 0 (replicate locks (free_lock cores))) k ≡ cond (nat_lt (bank + banks * k) locks) (Some (free_lock cores)) None
opened-locks bank banks cores locks k some =
    own-strided bank banks (replicate locks (free_lock cores)) k some
    ∙ get-replicate locks (free_lock cores) (bank + banks * k)

pub opened-is-new : (bank banks cores : ℕ) (memory : List ℕ) (locks : ℕ) → bank < banks → IsNewBank bank banks cores memory locks (initial_bank bank banks cores memory locks)
opened-is-new bank banks cores memory locks some = record {
  number = refl;
  bank_count = refl;
  core_count = refl;
  each_word = λ w. by_word w (w % banks == bank) refl;
  each_lock = λ l. by_lock l (l % banks == bank) refl;
} where
  number : (n : ℕ) → n % banks ≡ bank → bank + banks * (n / banks) ≡ n
  number n own = omega (arith, own, some)

  by_word : (w : ℕ) (t : Bool) → (w % banks == bank) ≡ t → bank_word (initial_bank bank banks cores memory locks) w ≡ cond (w % banks == bank) (first_word (slice_get memory w)) None
  by_word w true e =
      rw e (opened-words bank banks memory (w / banks) some ∙ ap (λ (n : ℕ). first_word (slice_get memory n)) (number w (eqb-true (w % banks) bank e)))
  by_word w false e = rw e refl

  by_lock : (l : ℕ) (t : Bool) → (l % banks == bank) ≡ t → bank_lock (initial_bank bank banks cores memory locks) l ≡ cond ((l % banks == bank) && nat_lt l locks) (Some (free_lock cores)) None
  by_lock l true e =
      rw e (opened-locks bank banks cores locks (l / banks) some ∙ ap (λ (n : ℕ). cond (nat_lt n locks) (Some (free_lock cores)) None) (number l (eqb-true (l % banks) bank e)))
  by_lock l false e = rw e refl

pub IsBank-opened : (bank banks cores : ℕ) (memory : List ℕ) (locks : ℕ) → bank < banks → IsBank (initial_bank bank banks cores memory locks)
IsBank-opened bank banks cores memory locks some = record { number = some; registrants = registrants; locks = each } where
  by_first : (o : Option ℕ) (core : CoreId) → first_word o ≡ Some (Reg core) → core.0 < cores
  by_first None core e = absurd (cc)
  by_first (Some value) core e = absurd (cc)

  by_here : (t : Bool) (o : Option ℕ) (core : CoreId) → cond t (first_word o) None ≡ Some (Reg core) → core.0 < cores
  by_here true o core e = by_first o core e
  by_here false o core e = absurd (cc)

  registrants : (w : ℕ) (core : CoreId) → bank_word (initial_bank bank banks cores memory locks) w ≡ Some (Reg core) → core.0 < cores
  registrants w core e =
      by_here (w % banks == bank) (slice_get memory w) core (sym ((opened-is-new bank banks cores memory locks some).each_word w) ∙ e)

  by_free : (t : Bool) (h : Lock) → cond t (Some (free_lock cores)) None ≡ Some h → IsLockOf cores h
  by_free true h e =
      let same : free_lock cores ≡ h = cc in
      rw (← same) (IsLockOf-free cores)
  by_free false h e = absurd (cc)

  each : (l : ℕ) (h : Lock) → bank_lock (initial_bank bank banks cores memory locks) l ≡ Some h → IsLockOf cores h
  each l h e =
      by_free ((l % banks == bank) && nat_lt l locks) h (sym ((opened-is-new bank banks cores memory locks some).each_lock l) ∙ e)
