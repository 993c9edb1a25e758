-- The counts of a list of events add up to its length.
use Rattle.std.proofs.Common.{◌≡◌, ℕ, zero, suc, ◌+◌, ◌<◌, cond, List, [], ◌∷◌, length, get_or, refl, sym, ap, ◌∙◌, arith}
use Rattle.std.specs.Prelude.{sum}
use Rattle.std.proofs.lemmas.Grind.{same_number_lists}
use Rattle.std.proofs.lemmas.List.{get_or-replicate}
use Rattle.std.proofs.lemmas.List.Sums.{sum_by-set, sum_by-cons}
use Rattle.message_net.specs.declared.event.EventKind as kind
use Rattle.message_net.specs.declared.event.EventKind.{EventKind}
use Rattle.message_net.specs.Kind.{kind_index}
use Rattle.grant_log.specs.declared.counts.Counts.{Counts}
use Rattle.grant_log.specs.Counts.{same_kind, kind_count, no_counts, added, AreCounts}
use Rattle.grant_log.proofs.CountLemmas.{raises, place_within, length-added}

-- what is true at the place of each kind is true at each of the seventeen places
every_place : (P : ℕ → Type 0) → ((k : EventKind) → P (kind_index k)) → (i : ℕ) → i < 17 → P i
every_place P all zero within = all kind.TheVariants.Instr
every_place P all (suc zero) within = all kind.TheVariants.Evict
every_place P all (suc (suc zero)) within = all kind.TheVariants.Arrive
every_place P all (suc (suc (suc zero))) within = all kind.TheVariants.ReadReq
every_place P all (suc (suc (suc (suc zero)))) within = all kind.TheVariants.ReadFwd
every_place P all (suc (suc (suc (suc (suc zero))))) within = all kind.TheVariants.DataReply
every_place P all (suc (suc (suc (suc (suc (suc zero)))))) within = all kind.TheVariants.RegReq
every_place P all (suc (suc (suc (suc (suc (suc (suc zero))))))) within = all kind.TheVariants.RegFwd
every_place P all (suc (suc (suc (suc (suc (suc (suc (suc zero)))))))) within = all kind.TheVariants.RegAck
every_place P all (suc (suc (suc (suc (suc (suc (suc (suc (suc zero))))))))) within = all kind.TheVariants.WriteBack
every_place P all (suc (suc (suc (suc (suc (suc (suc (suc (suc (suc zero)))))))))) within = all kind.TheVariants.WbAck
every_place P all (suc (suc (suc (suc (suc (suc (suc (suc (suc (suc (suc zero))))))))))) within = all kind.TheVariants.Acquire
every_place P all (suc (suc (suc (suc (suc (suc (suc (suc (suc (suc (suc (suc zero)))))))))))) within = all kind.TheVariants.Release
every_place P all (suc (suc (suc (suc (suc (suc (suc (suc (suc (suc (suc (suc (suc zero))))))))))))) within = all kind.TheVariants.Grant
every_place P all (suc (suc (suc (suc (suc (suc (suc (suc (suc (suc (suc (suc (suc (suc zero)))))))))))))) within = all kind.TheVariants.Arrived
every_place P all (suc (suc (suc (suc (suc (suc (suc (suc (suc (suc (suc (suc (suc (suc (suc zero))))))))))))))) within = all kind.TheVariants.Go
every_place P all (suc (suc (suc (suc (suc (suc (suc (suc (suc (suc (suc (suc (suc (suc (suc (suc zero)))))))))))))))) within = all kind.TheVariants.Halt
every_place P all (suc (suc (suc (suc (suc (suc (suc (suc (suc (suc (suc (suc (suc (suc (suc (suc (suc i))))))))))))))))) within = absurd (omega (arith, within))

-- one more event makes all counts one more
pub one_more_in_all : (k : EventKind) (counts : Counts) → length counts.kinds ≡ 17 → sum (added k counts).kinds ≡ sum counts.kinds + 1
one_more_in_all k counts all =
    let place : kind_index k < length counts.kinds = rw all (place_within k) in
    omega (arith, sum_by-set (λ n. n) counts.kinds (kind_index k) (kind_count k counts + 1) 0 place)

-- the counts of a list, event by event
abbrev counted : List EventKind → Counts
counted [] = no_counts
counted (k ∷ kinds) = added k (counted kinds)

counted-all : (kinds : List EventKind) → length (counted kinds).kinds ≡ 17
counted-all [] = refl
counted-all (k ∷ kinds) = length-added k (counted kinds) ∙ counted-all kinds

counted-told : (kinds : List EventKind) → AreCounts kinds (counted kinds)
counted-told [] j = none j where
  none : (j : EventKind) → kind_count j no_counts ≡ 0
  none j = get_or-replicate 17 (kind_index j) 0 0 (place_within j)
counted-told (k ∷ kinds) j =
    raises j k (counted kinds) (counted-all kinds)
    ∙ omega (arith, counted-told kinds j, sum_by-cons (λ x. cond (same_kind j x) 1 0) k kinds)

counted-sum : (kinds : List EventKind) → sum (counted kinds).kinds ≡ length kinds
counted-sum [] = refl
counted-sum (k ∷ kinds) = one_more_in_all k (counted kinds) (counted-all kinds) ∙ omega (arith, counted-sum kinds)

abbrev made : List ℕ → Counts
made kinds = record { kinds = kinds }

-- the counts of a list are the only ones, and add up to its length
only : (kinds : List EventKind) (counts : Counts) → length counts.kinds ≡ 17 → AreCounts kinds counts → counts.kinds ≡ (counted kinds).kinds
only kinds counts all told =
    same_number_lists counts.kinds (counted kinds).kinds (all ∙ sym (counted-all kinds))
    (λ i within. every_place (λ i. get_or counts.kinds i 0 ≡ get_or (counted kinds).kinds i 0) (λ k. told k ∙ sym (counted-told kinds k)) i (omega (arith, within, all)))

pub one_counts : (kinds : List EventKind) (a b : Counts) → length a.kinds ≡ 17 → length b.kinds ≡ 17 → AreCounts kinds a → AreCounts kinds b → a ≡ b
one_counts kinds a b all also told other = ap made (only kinds a all told ∙ sym (only kinds b also other))

pub all_counted : (kinds : List EventKind) (counts : Counts) → length counts.kinds ≡ 17 → AreCounts kinds counts → sum counts.kinds ≡ length kinds
all_counted kinds counts all told = ap sum (only kinds counts all told) ∙ counted-sum kinds
