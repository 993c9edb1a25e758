-- Calls after others, and the calls of several acts.
use Rattle.std.proofs.Common.{◌≡◌, ℕ, zero, suc, ◌+◌, ◌-◌, ◌≤◌, List, [], ◌∷◌, ◌++◌, length, filter_map, Option, Some, None, Result, Ok, Err, OnErr, refl, sym, ap, ◌∙◌, subst, arith}
use Rattle.std.specs.List.{cons_option, range_with_len}
use Rattle.std.specs.Option.{option_to_list}
use Rattle.std.proofs.lemmas.List.{append_assoc, append-nil, length-append}
use Rattle.std.proofs.lemmas.List.Elements.{filter_map-append}
use Rattle.dn_base.specs.declared.ids.Shape.{Shape}
use Rattle.registration_protocol.specs.Node.{Setting}
use Rattle.grant_log.specs.declared.posted.Posted.{Posted}
use Rattle.bank_hall.specs.Note.{KeeperNote, letter_to}
use Rattle.bank_hall.specs.Rows.{made_of}
use Rattle.bank_hall.specs.Halls.{PassView, Calls, HasMadeCalls, pass_number}
use Rattle.host_workers.specs.Acts.{Act, no_calls, and_then, try_calls, posting, postings, posted_by, act_done, act_calls, calls_in, events_in}
use Rattle.host_workers.proofs.Appended.{calls-follow}
use Rattle.host_workers.specs.Work.{Splits, HasActed, HasBegunPosts, HasStopped, last_sent}

pub splits-both : (first more : Calls) → Splits (and_then first more) first more
splits-both first more = record { banks = λ b. refl; ports = λ c. refl; keeper = refl }

splits-first : (whole : Calls) → Splits whole no_calls whole
splits-first whole = record { banks = λ b. refl; ports = λ c. refl; keeper = refl }

pub splits-last : (whole : Calls) → Splits whole whole no_calls
splits-last whole = record {
  banks = λ b. sym (append-nil (whole.banks b));
  ports = λ c. sym (append-nil (whole.ports c));
  keeper = sym (append-nil whole.keeper);
}

splits-cons : (head whole first more : Calls) → Splits whole first more → Splits (and_then head whole) (and_then head first) more
splits-cons head whole first more s = record {
  banks = λ b. ap (λ l. head.banks b ++ l) (s.banks b) ∙ sym (append_assoc (head.banks b) (first.banks b) (more.banks b));
  ports = λ c. ap (λ l. head.ports c ++ l) (s.ports c) ∙ sym (append_assoc (head.ports c) (first.ports c) (more.ports c));
  keeper = ap (λ l. head.keeper ++ l) s.keeper ∙ sym (append_assoc head.keeper first.keeper more.keeper);
}

-- those of the second part are split themselves
splits-then : (whole first more between end : Calls) → Splits whole first more → Splits more between end → Splits whole (and_then first between) end
splits-then whole first more between end s t = record {
  banks = λ b. s.banks b ∙ (ap (λ l. first.banks b ++ l) (t.banks b) ∙ sym (append_assoc (first.banks b) (between.banks b) (end.banks b)));
  ports = λ c. s.ports c ∙ (ap (λ l. first.ports c ++ l) (t.ports c) ∙ sym (append_assoc (first.ports c) (between.ports c) (end.ports c)));
  keeper = s.keeper ∙ (ap (λ l. first.keeper ++ l) t.keeper ∙ sym (append_assoc first.keeper between.keeper end.keeper));
}

splits-alone : (whole first more : Calls) → Splits whole first more → Splits (and_then whole no_calls) first more
splits-alone whole first more s = record {
  banks = λ b. append-nil (whole.banks b) ∙ s.banks b;
  ports = λ c. append-nil (whole.ports c) ∙ s.ports c;
  keeper = append-nil whole.keeper ∙ s.keeper;
}

acts-split : (shape : Shape) (number : ℕ) (xs ys : List Act) → Splits (calls_in shape number (xs ++ ys)) (calls_in shape number xs) (calls_in shape number ys)
acts-split shape number [] ys = splits-first (calls_in shape number ys)
acts-split shape number (x ∷ xs) ys = splits-cons (act_calls shape number x) _ _ _ (acts-split shape number xs ys)

pub posts-split : (shape : Shape) (number : ℕ) (xs ys : List Posted) → Splits (postings shape number (xs ++ ys)) (postings shape number xs) (postings shape number ys)
posts-split shape number [] ys = splits-first (postings shape number ys)
posts-split shape number (x ∷ xs) ys = splits-cons (posting shape number x) _ _ _ (posts-split shape number xs ys)

-- what holds at the exit of a `?`
pub at-exit : {T E P : Type 0} (r : Result T E) → P → OnErr r P
at-exit (Ok x) p = tt
at-exit (Err e) p = p

-- no call, and calls after others
pub made-none : (p : PassView) → HasMadeCalls p p no_calls
made-none p = record {
  banks = λ b. sym (append-nil (made_of p.banks b));
  ports = λ c. sym (append-nil (made_of p.ports c));
  keeper = sym (append-nil (made_of p.keeper 0));
}

pub made-split : (a b c : PassView) (whole first more : Calls) → Splits whole first more → HasMadeCalls a b first → HasMadeCalls b c more → HasMadeCalls a c whole
made-split a b c whole first more s one two = record {
  banks = λ i. two.banks i ∙ (ap (λ l. l ++ more.banks i) (one.banks i) ∙ (append_assoc (made_of a.banks i) (first.banks i) (more.banks i) ∙ ap (λ l. made_of a.banks i ++ l) (sym (s.banks i))));
  ports = λ i. two.ports i ∙ (ap (λ l. l ++ more.ports i) (one.ports i) ∙ (append_assoc (made_of a.ports i) (first.ports i) (more.ports i) ∙ ap (λ l. made_of a.ports i ++ l) (sym (s.ports i))));
  keeper = two.keeper ∙ (ap (λ l. l ++ more.keeper) one.keeper ∙ (append_assoc (made_of a.keeper 0) first.keeper more.keeper ∙ ap (λ l. made_of a.keeper 0 ++ l) (sym s.keeper)));
}

-- the same calls, with no call behind them
pub made-alone : (a b : PassView) (calls : Calls) → HasMadeCalls a b calls → HasMadeCalls a b (and_then calls no_calls)
made-alone a b calls one = made-split a b b (and_then calls no_calls) calls no_calls (splits-both calls no_calls) one (made-none b)

-- no act
pub acted-none : (C : Setting) (p : PassView) → HasActed C p p [] 0
acted-none C p = record { calls = made-none p; counted = refl }

-- one act: its take or step, and then the posts of what its event sent
pub acted-one : (C : Setting) (a b c : PassView) (act : Act) (count : ℕ) → HasMadeCalls a b (try_calls (pass_number a) act) → pass_number b ≡ pass_number a
    → HasMadeCalls b c (postings C.shape (pass_number b) (posted_by (act_done C.shape act))) → count ≡ length (events_in C.shape (act ∷ [])) → HasActed C a c (act ∷ []) count
acted-one C a b c act count tries same posts counted = record {
  calls = made-alone a c (act_calls C.shape (pass_number a) act) (made-split a b c (act_calls C.shape (pass_number a) act) (try_calls (pass_number a) act) (postings C.shape (pass_number a) (posted_by (act_done C.shape act))) (splits-both _ _) tries (subst (λ n. HasMadeCalls b c (postings C.shape n (posted_by (act_done C.shape act)))) same posts));
  counted = counted;
}

-- acts after others
pub acted-both : (C : Setting) (a b c : PassView) (xs ys : List Act) (m n : ℕ) → HasActed C a b xs m → pass_number b ≡ pass_number a → HasActed C b c ys n → HasActed C a c (xs ++ ys) (m + n)
acted-both C a b c xs ys m n one same two = record {
  calls = calls-follow C.shape (pass_number a) xs ys a b c one.calls (subst (λ k. HasMadeCalls b c (calls_in C.shape k ys)) same two.calls);
  counted = ap (λ k. k + n) one.counted ∙ (ap (λ k. length (events_in C.shape xs) + k) two.counted ∙ (sym (length-append (events_in C.shape xs) (events_in C.shape ys)) ∙ ap length (sym (filter_map-append (act_done C.shape) xs ys))));
}

-- none of some mails was posted
pub begun-none : (shape : Shape) (p : PassView) (mails : List Posted) → HasBegunPosts shape p p mails
begun-none shape p mails = record { posted = []; unsent = mails; mails_are = refl; calls = made-none p }

-- there was no room for any act
pub stopped-none : (C : Setting) (p : PassView) → HasStopped C p p []
stopped-none C p = record { posted = []; unsent = []; mails_are = refl; made = no_calls; calls = made-none p; all = splits-first no_calls }

-- there was no room for all posts of one act
pub stopped-one : (C : Setting) (a b c : PassView) (act : Act) → HasMadeCalls a b (try_calls (pass_number a) act) → pass_number b ≡ pass_number a
    → HasBegunPosts C.shape b c (posted_by (act_done C.shape act)) → HasStopped C a c (act ∷ [])
stopped-one C a b c act tries same posts =
    let n = pass_number a in
    let parts = subst (λ l. Splits (postings C.shape n l) (postings C.shape n posts.posted) (postings C.shape n posts.unsent)) (sym posts.mails_are) (posts-split C.shape n posts.posted posts.unsent) in record {
      posted = posts.posted;
      unsent = posts.unsent;
      mails_are = posts.mails_are;
      made = and_then (try_calls n act) (postings C.shape n posts.posted);
      calls = made-split a b c _ (try_calls n act) (postings C.shape n posts.posted) (splits-both _ _) tries (subst (λ k. HasMadeCalls b c (postings C.shape k posts.posted)) same posts.calls);
      all = splits-alone (act_calls C.shape n act) _ _ (splits-cons (try_calls n act) _ _ _ parts);
    }

no-rest : (xs ys : List Posted) → [] ≡ xs ++ ys → ys ≡ []
no-rest [] ys e = sym e
no-rest (x ∷ xs) ys e = absurd (omega (arith, ap length e))

sent-behind : (shape : Shape) (xs : List Act) (y : Act) (ys : List Act) → last_sent shape (xs ++ y ∷ ys) ≡ last_sent shape (y ∷ ys)
sent-behind shape [] y ys = refl
sent-behind shape (x ∷ []) y ys = refl
sent-behind shape (x ∷ z ∷ xs) y ys = sent-behind shape (z ∷ xs) y ys

-- what the last of all acts sent ends as what the last of the later ones sent
last-both : (shape : Shape) (xs ys : List Act) (posted unsent : List Posted) → last_sent shape ys ≡ posted ++ unsent → (front : List Posted) × (last_sent shape (xs ++ ys) ≡ front ++ unsent)
last-both shape xs [] posted unsent e = (last_sent shape (xs ++ []), sym (append-nil (last_sent shape (xs ++ []))) ∙ ap (λ l. last_sent shape (xs ++ []) ++ l) (sym (no-rest posted unsent e)))
last-both shape xs (y ∷ ys) posted unsent e = (posted, sent-behind shape xs y ys ∙ e)

-- there was no room for acts after others
pub stopped-after : (C : Setting) (a b c : PassView) (xs ys : List Act) (m : ℕ) → HasActed C a b xs m → pass_number b ≡ pass_number a → HasStopped C b c ys → HasStopped C a c (xs ++ ys)
stopped-after C a b c xs ys m one same two =
    let n = pass_number a in
    let last = last-both C.shape xs ys two.posted two.unsent two.mails_are in record {
      posted = last.0;
      unsent = two.unsent;
      mails_are = last.1;
      made = and_then (calls_in C.shape n xs) two.made;
      calls = made-split a b c _ (calls_in C.shape n xs) two.made (splits-both _ _) one.calls two.calls;
      all = splits-then (calls_in C.shape n (xs ++ ys)) (calls_in C.shape n xs) (calls_in C.shape n ys) two.made (postings C.shape n two.unsent) (acts-split C.shape n xs ys)
          (subst (λ k. Splits (calls_in C.shape k ys) two.made (postings C.shape k two.unsent)) same two.all);
    }

range-more : (from n : ℕ) → range_with_len from (suc n) ≡ range_with_len from n ++ (from + n) ∷ []
range-more from zero = ap (λ k. k ∷ []) (omega arith)
range-more from (suc n) = ap (λ l. from ∷ l) (range-more (from + 1) n ∙ ap (λ k. range_with_len (from + 1) n ++ k ∷ []) (omega arith))

range-next : (n : ℕ) → range_with_len 0 (n + 1) ≡ range_with_len 0 n ++ n ∷ []
range-next n = let e : 0 + n ≡ n = omega arith in let s : n + 1 ≡ suc n = omega arith in ap (range_with_len 0) s ∙ range-more 0 n ∙ ap (λ k. range_with_len 0 n ++ k ∷ []) e

listed-cons : {Y : Type 0} (o : Option Y) → option_to_list o ≡ cons_option o []
listed-cons None = refl
listed-cons (Some y) = refl

-- the keeper's letter to one core more was posted
pub letters-more : (a b c : PassView) (shape : Shape) (note : KeeperNote) (core : ℕ)
    → HasMadeCalls a b (postings shape (pass_number a) (filter_map (letter_to note) (range_with_len 0 core))) → pass_number b ≡ pass_number a
    → HasMadeCalls b c (postings shape (pass_number b) (option_to_list (letter_to note core)))
    → HasMadeCalls a c (postings shape (pass_number a) (filter_map (letter_to note) (range_with_len 0 (core + 1))))
letters-more a b c shape note core had same one =
    let first = filter_map (letter_to note) (range_with_len 0 core) in
    let all : filter_map (letter_to note) (range_with_len 0 (core + 1)) ≡ first ++ option_to_list (letter_to note core) =
    ap (filter_map (letter_to note)) (range-next core) ∙ (filter_map-append (letter_to note) (range_with_len 0 core) (core ∷ []) ∙ ap (λ (l : List Posted). first ++ l) (sym (listed-cons (letter_to note core)))) in
    subst (λ l. HasMadeCalls a c (postings shape (pass_number a) l)) (sym all)
    (made-split a b c _ _ _ (posts-split shape (pass_number a) first (option_to_list (letter_to note core))) had (subst (λ k. HasMadeCalls b c (postings shape k (option_to_list (letter_to note core)))) same one))

-- the numbers up to one and those from it on
range-cut : (from k n : ℕ) → range_with_len from (k + n) ≡ range_with_len from k ++ range_with_len (from + k) n
range-cut from zero n = let a : 0 + n ≡ n = omega arith in let b : from ≡ from + 0 = omega arith in ap (range_with_len from) a ∙ ap (λ f. range_with_len f n) b
range-cut from (suc k) n =
    let a : suc k + n ≡ suc (k + n) = omega arith in
    let b : from + 1 + k ≡ from + suc k = omega arith in
    ap (range_with_len from) a ∙ ap (λ l. from ∷ l) (range-cut (from + 1) k n ∙ ap (λ f. range_with_len (from + 1) k ++ range_with_len f n) b)

-- the keeper's letters to the first cores were posted
pub letters-begun : (a b : PassView) (shape : Shape) (note : KeeperNote) (core cores : ℕ) → core ≤ cores
    → HasMadeCalls a b (postings shape (pass_number a) (filter_map (letter_to note) (range_with_len 0 core)))
    → HasBegunPosts shape a b (filter_map (letter_to note) (range_with_len 0 cores))
letters-begun a b shape note core cores within had =
    let all : core + (cores - core) ≡ cores = omega (arith, within) in record {
      posted = filter_map (letter_to note) (range_with_len 0 core);
      unsent = filter_map (letter_to note) (range_with_len (0 + core) (cores - core));
      mails_are = ap (λ n. filter_map (letter_to note) (range_with_len 0 n)) (sym all) ∙ (ap (filter_map (letter_to note)) (range-cut 0 core (cores - core)) ∙ filter_map-append (letter_to note) (range_with_len 0 core) (range_with_len (0 + core) (cores - core)));
      calls = had;
    }
