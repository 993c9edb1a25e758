-- The answers to claims that follow each other, one after the other.
use Rattle.std.proofs.Common.{◌≡◌, ℕ, suc, ◌+◌, ◌<◌, ◌≤◌, Bool, true, false, if◌then◌else◌, List, [], ◌∷◌, ◌++◌, length, get_or, take, drop, refl, sym, ap, subst, ◌∙◌, arith, append_assoc, add-zero, zero-add, inl, inr, ◌||◌, ◌==◌, length-append}
use Rattle.std.proofs.lemmas.List.{append-nil, at_drop_more, drop_all, take_all}
use Rattle.std.proofs.Math.Seq.{take-suc}
use Rattle.std.proofs.lemmas.Bool.{eqb-true}
use Rattle.referee_top.specs.declared.mode.RefereeMode.{RefereeMode}
use Rattle.referee_top.specs.declared.status.RefereeStatus.{RefereeStatus}
use Rattle.referee_top.specs.declared.status.RefereeStatus as status
use Rattle.claims.specs.Claim.{most_bytes}
use Rattle.referee_top.specs.Answers.{Reply, IsAnswer}
use Rattle.referee_top.specs.Batch.{IsBatch, ends_claim, first_claim, later_claims, has_none, ends_batch, is_refused, has_no_more, AreReplies, claim_part, batch_text, status_after, batch_status}

-- ---- where a claim ends

-- the first claim, where no claim ends before a place
abbrev pub first_from : List ℕ → ℕ → List ℕ
first_from bytes place = take place bytes ++ first_claim (drop place bytes)

at-place : (bytes : List ℕ) (place b : ℕ) → place < length bytes → b ≡ get_or bytes place b → drop place bytes ≡ b ∷ drop (place + 1) bytes
at-place bytes place b within is = at_drop_more (λ (l : List ℕ). l) bytes place b within ∙ ap (λ (x : ℕ). x ∷ drop (place + 1) bytes) (sym is)

taken-place : (bytes : List ℕ) (place b : ℕ) → place < length bytes → b ≡ get_or bytes place b → take (place + 1) bytes ≡ take place bytes ++ b ∷ []
taken-place bytes place b within is =
    let next : place + 1 ≡ suc place = omega arith in
    ap (λ (n : ℕ). take n bytes) next ∙ take-suc bytes place b within ∙ ap (λ (x : ℕ). take place bytes ++ x ∷ []) (sym is)

pub first-more : (bytes : List ℕ) (place b : ℕ) → place < length bytes → b ≡ get_or bytes place b → ends_claim b (drop (place + 1) bytes) ≡ false → first_from bytes place ≡ first_from bytes (place + 1)
first-more bytes place b within is goes =
    ap (λ (l : List ℕ). take place bytes ++ first_claim l) (at-place bytes place b within is)
    ∙ ap (λ (t : Bool). take place bytes ++ (if t then b ∷ [] else b ∷ first_claim (drop (place + 1) bytes))) goes
    ∙ sym (append_assoc (take place bytes) (b ∷ []) (first_claim (drop (place + 1) bytes)))
    ∙ ap (λ (l : List ℕ). l ++ first_claim (drop (place + 1) bytes)) (sym (taken-place bytes place b within is))

pub later-more : (bytes : List ℕ) (place b : ℕ) → place < length bytes → b ≡ get_or bytes place b → ends_claim b (drop (place + 1) bytes) ≡ false
    → later_claims (drop place bytes) ≡ later_claims (drop (place + 1) bytes)
later-more bytes place b within is goes =
    ap later_claims (at-place bytes place b within is) ∙ ap (λ (t : Bool). if t then drop (place + 1) bytes else later_claims (drop (place + 1) bytes)) goes

pub first-here : (bytes : List ℕ) (place b : ℕ) → place < length bytes → b ≡ get_or bytes place b → ends_claim b (drop (place + 1) bytes) ≡ true → first_from bytes place ≡ take (place + 1) bytes
first-here bytes place b within is ends =
    ap (λ (l : List ℕ). take place bytes ++ first_claim l) (at-place bytes place b within is)
    ∙ ap (λ (t : Bool). take place bytes ++ (if t then b ∷ [] else b ∷ first_claim (drop (place + 1) bytes))) ends
    ∙ sym (taken-place bytes place b within is)

pub later-here : (bytes : List ℕ) (place b : ℕ) → place < length bytes → b ≡ get_or bytes place b → ends_claim b (drop (place + 1) bytes) ≡ true
    → later_claims (drop place bytes) ≡ drop (place + 1) bytes
later-here bytes place b within is ends =
    ap later_claims (at-place bytes place b within is) ∙ ap (λ (t : Bool). if t then drop (place + 1) bytes else later_claims (drop (place + 1) bytes)) ends

pub first-end : (bytes : List ℕ) (place : ℕ) → length bytes ≤ place → first_from bytes place ≡ bytes
first-end bytes place end' = ap (λ (l : List ℕ). take place bytes ++ first_claim l) (drop_all place bytes end') ∙ append-nil (take place bytes) ∙ take_all place bytes end'

less-by : (t : Bool) (b : ℕ) (bs : List ℕ) → (has_none (later_claims bs) ≡ false → length (later_claims bs) < length bs) → has_none (if t then bs else later_claims bs) ≡ false
    → length (if t then bs else later_claims bs) < suc (length bs)
less-by true b bs later some = omega arith
less-by false b bs later some = let h = later some in omega (arith, h)

-- what follows a claim is less, if there is any
pub less-later : (bytes : List ℕ) → has_none (later_claims bytes) ≡ false → length (later_claims bytes) < length bytes
less-later [] some = absurd (cc)
less-later (b ∷ bs) some = less-by (ends_claim b bs) b bs (less-later bs) some

-- ---- one answer after the other

-- these answer the claims in front of what is left
abbrev pub AreAnswered : RefereeMode → List ℕ → List Reply → List ℕ → Type 0
AreAnswered m bytes [] left = bytes ≡ left
AreAnswered m bytes (r ∷ rs) left = IsAnswer m (first_claim bytes) r × (ends_batch r (later_claims bytes) ≡ false) × AreAnswered m (later_claims bytes) rs left

pub one-more : (m : RefereeMode) (bytes left : List ℕ) (rs : List Reply) (r : Reply) → AreAnswered m bytes rs left → IsAnswer m (first_claim left) r → ends_batch r (later_claims left) ≡ false
    → AreAnswered m bytes (rs ++ r ∷ []) (later_claims left)
one-more m bytes left [] r same is goes = (subst (λ (l : List ℕ). IsAnswer m (first_claim l) r) (sym same) is, ap (λ (l : List ℕ). ends_batch r (later_claims l)) same ∙ goes, ap later_claims same)
one-more m bytes left (s ∷ ss) r before is goes = (before.0, before.1, one-more m (later_claims bytes) left ss r before.2 is goes)

none-more : (rs : List Reply) (r : Reply) → has_no_more (rs ++ r ∷ []) ≡ false
none-more [] r = refl
none-more (s ∷ ss) r = refl

pub the-last : (m : RefereeMode) (bytes left : List ℕ) (rs : List Reply) (r : Reply) → AreAnswered m bytes rs left → IsAnswer m (first_claim left) r → ends_batch r (later_claims left) ≡ true → AreReplies m bytes (rs ++ r ∷ [])
the-last m bytes left [] r same is over = (subst (λ (l : List ℕ). IsAnswer m (first_claim l) r) (sym same) is, ap (λ (l : List ℕ). ends_batch r (later_claims l)) same ∙ over, tt)
the-last m bytes left (s ∷ ss) r before is over =
    (before.0, before.1 ∙ sym (none-more ss r), the-last m (later_claims bytes) left ss r before.2 is over)

pub some-more : (rs : List Reply) (r : Reply) → has_no_more (rs ++ r ∷ []) ≡ false
some-more rs r = none-more rs r

pub text-more : (number : ℕ) (rs : List Reply) (r : Reply) → batch_text number (rs ++ r ∷ []) ≡ batch_text number rs ++ claim_part (number + length rs) r
text-more number [] r = append-nil (claim_part number r) ∙ ap (λ (n : ℕ). claim_part n r) (sym (add-zero number))
text-more number (s ∷ ss) r =
    let same : number + 1 + length ss ≡ number + suc (length ss) = omega arith in
    ap (λ (l : List ℕ). claim_part number s ++ l) (text-more (number + 1) ss r ∙ ap (λ (n : ℕ). batch_text (number + 1) ss ++ claim_part n r) same)
    ∙ sym (append_assoc (claim_part number s) (batch_text (number + 1) ss) (claim_part (number + suc (length ss)) r))

pub status-more : (before : RefereeStatus) (rs : List Reply) (r : Reply) → batch_status before (rs ++ r ∷ []) ≡ status_after (batch_status before rs) r.status
status-more before [] r = refl
status-more before (s ∷ ss) r = status-more (status_after before s.status) ss r

-- ---- where the loop of all claims is

pub record IsAt (m : RefereeMode) (bytes left text : List ℕ) (end' : RefereeStatus) (number : ℕ) : Type 0 where
  pub replies : List Reply
  pub are : AreAnswered m bytes replies left
  pub text_is : text ≡ batch_text 0 replies
  pub status_is : end' ≡ batch_status status.TheVariants.Agrees replies
  pub number_is : number ≡ length replies
  pub room : number + length left ≤ length bytes

-- one more claim was answered, and all are; or the next one follows
or-true : (b : Bool) → (b || true) ≡ true
or-true true = refl
or-true false = refl

pub refused-over : (r : Reply) (later : List ℕ) → is_refused r.status ≡ true → ends_batch r later ≡ true
refused-over r later is = ap (λ (t : Bool). t || has_none later) is

pub nothing-over : (r : Reply) (later : List ℕ) → later ≡ [] → ends_batch r later ≡ true
nothing-over r later is = ap (λ (l : List ℕ). is_refused r.status || has_none l) is ∙ or-true (is_refused r.status)

pub goes-on : (r : Reply) (later : List ℕ) → is_refused r.status ≡ false → has_none later ≡ false → ends_batch r later ≡ false
goes-on r later is some = ap (λ (t : Bool). t || has_none later) is ∙ some

pub ended : (m : RefereeMode) (bytes left text : List ℕ) (before : RefereeStatus) (number : ℕ) (r : Reply) → length bytes ≤ most_bytes → IsAt m bytes left text before number
    → IsAnswer m (first_claim left) r → ends_batch r (later_claims left) ≡ true
    → IsBatch m bytes (record { status = status_after before r.status; bytes = text ++ claim_part number r })
ended m bytes left text before number r within at is over =
    record {
      replies = at.replies ++ r ∷ [];
      are = inl (record { within = within; some = some-more at.replies r; are = the-last m bytes left at.replies r at.are is over });
      answer = λ i. record { status = status-now i; bytes = text-now i };
    }
  where
    status-now : status_after before r.status ≡ batch_status status.TheVariants.Agrees (at.replies ++ r ∷ [])
    status-now = ap (λ (s : RefereeStatus). status_after s r.status) at.status_is ∙ sym (status-more status.TheVariants.Agrees at.replies r)

    text-now : text ++ claim_part number r ≡ batch_text 0 (at.replies ++ r ∷ [])
    text-now =
        ap (λ (l : List ℕ). l ++ claim_part number r) at.text_is ∙ ap (λ (n : ℕ). batch_text 0 at.replies ++ claim_part n r) (at.number_is ∙ sym (zero-add (length at.replies)))
        ∙ sym (text-more 0 at.replies r)

pub followed : (m : RefereeMode) (bytes left text : List ℕ) (before : RefereeStatus) (number : ℕ) (r : Reply) → IsAt m bytes left text before number
    → IsAnswer m (first_claim left) r → ends_batch r (later_claims left) ≡ false → has_none (later_claims left) ≡ false
    → IsAt m bytes (later_claims left) (text ++ claim_part number r) (status_after before r.status) (number + 1)
followed m bytes left text before number r at is goes some =
    record {
      replies = at.replies ++ r ∷ [];
      are = one-more m bytes left at.replies r at.are is goes;
      text_is =
          ap (λ (l : List ℕ). l ++ claim_part number r) at.text_is ∙ ap (λ (n : ℕ). batch_text 0 at.replies ++ claim_part n r) (at.number_is ∙ sym (zero-add (length at.replies)))
          ∙ sym (text-more 0 at.replies r);
      status_is = ap (λ (s : RefereeStatus). status_after s r.status) at.status_is ∙ sym (status-more status.TheVariants.Agrees at.replies r);
      number_is = ap (λ (n : ℕ). n + 1) at.number_is ∙ sym (length-append at.replies (r ∷ []));
      room = let less = less-later left some in omega (arith, at.room, less);
    }

pub none-is : (xs : List ℕ) → true ≡ (length xs == 0) → xs ≡ []
none-is [] is = refl
none-is (x ∷ xs) is = absurd (let size : suc (length xs) ≡ 0 = eqb-true (suc (length xs)) 0 (sym is) in omega (arith, size))

pub some-are : (xs : List ℕ) → false ≡ (length xs == 0) → has_none xs ≡ false
some-are [] is = absurd (cc)
some-are (x ∷ xs) is = refl

pub at-same : (m : RefereeMode) (bytes left more text longer : List ℕ) (before after : RefereeStatus) (number : ℕ) → left ≡ more → text ≡ longer → before ≡ after → IsAt m bytes more longer after number
    → IsAt m bytes left text before number
at-same m bytes left more text longer before after number l t s at =
    record { replies = at.replies; are = subst (AreAnswered m bytes at.replies) (sym l) at.are; text_is = t ∙ at.text_is; status_is = s ∙ at.status_is; number_is = at.number_is; room = omega (arith, at.room, ap length l) }

pub batch-same : (m : RefereeMode) (bytes text longer : List ℕ) (before after : RefereeStatus) → before ≡ after → text ≡ longer → IsBatch m bytes (record { status = after; bytes = longer })
    → IsBatch m bytes (record { status = before; bytes = text })
batch-same m bytes text longer before after s t is = record { replies = is.replies; are = is.are; answer = (λ i. record { status = s i; bytes = t i }) ∙ is.answer }

-- bytes that are too many
pub whole : (m : RefereeMode) (bytes : List ℕ) (r : Reply) → most_bytes < length bytes → IsAnswer m bytes r → IsBatch m bytes (record { status = r.status; bytes = claim_part 0 r })
whole m bytes r large is =
    record {
      replies = r ∷ [];
      are = inr (record { large = large; reply = r; is = is; one = refl });
      answer = λ i. record { status = sym (first-status r.status) i; bytes = sym (append-nil (claim_part 0 r)) i };
    }
  where
    first-status : (s : RefereeStatus) → status_after status.TheVariants.Agrees s ≡ s
    first-status status.TheVariants.Agrees = refl
    first-status status.TheVariants.Usage = refl
    first-status status.TheVariants.Refused = refl
    first-status status.TheVariants.Differs = refl
    first-status status.TheVariants.ReadFault = refl
    first-status status.TheVariants.WriteFault = refl
    first-status status.TheVariants.Memory = refl
