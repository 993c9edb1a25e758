use Rattle.std.proofs.Common.{◌≡◌, ◌≤◌, ◌++◌, ◌∷◌, []}
use Rattle.region_table.specs.declared.interval.Interval.{Interval}
use Rattle.std.specs.List.{All}
use Rattle.region_table.specs.Words.{IsCanonical}
use Rattle.region_table.proofs.JoinLemmas.{canonical-behind, words-behind, canonical-joined, words-joined, rising-joined, words-covered, last_rises}
use Rattle.region_table.proofs.merging.join.Goals as goal

pub returns-in_ok-push-in-Some-2-clause-canonical : goal.returns-in_ok-push-in-Some-2-clause-canonical
returns-in_ok-push-in-Some-2-clause-canonical c =
    let before : c.args.out.now.items ≡ c.pop.new.self.items ++ c.in-Some.last ∷ [] = c.in-Some.ensures.items in
    let canonical : IsCanonical (c.pop.new.self.items ++ c.in-Some.last ∷ []) = rw before at c.requires.canonical in
    rw (c.in_ok-push-in-Some-2.ensures.items, c.in_ok-push-in-Some.ensures.items) (canonical-behind c.pop.new.self.items c.in-Some.last c.args.next canonical c.if-last-next.true c.requires.some)

pub returns-in_ok-push-in-Some-2-clause-words : goal.returns-in_ok-push-in-Some-2-clause-words
returns-in_ok-push-in-Some-2-clause-words c = λ w.
    let before : c.args.out.now.items ≡ c.pop.new.self.items ++ c.in-Some.last ∷ [] = c.in-Some.ensures.items in
    rw (c.in_ok-push-in-Some-2.ensures.items, c.in_ok-push-in-Some.ensures.items, before) (words-behind (c.pop.new.self.items ++ c.in-Some.last ∷ []) c.args.next w)

pub returns-in_ok-push-in-Some-2-2-clause-canonical :
    goal.returns-in_ok-push-in-Some-2-2-clause-canonical
returns-in_ok-push-in-Some-2-2-clause-canonical c =
    let before : c.args.out.now.items ≡ c.pop.new.self.items ++ c.in-Some.last ∷ [] = c.in-Some.ensures.items in
    let canonical : IsCanonical (c.pop.new.self.items ++ c.in-Some.last ∷ []) = rw before at c.requires.canonical in
    rw c.in_ok-push-in-Some-2-2.ensures.items (canonical-joined c.pop.new.self.items c.in-Some.last c.args.next canonical c.if-last-next-2.true)

pub returns-in_ok-push-in-Some-2-2-clause-rising :
    goal.returns-in_ok-push-in-Some-2-2-clause-rising
returns-in_ok-push-in-Some-2-2-clause-rising c =
    let before : c.args.out.now.items ≡ c.pop.new.self.items ++ c.in-Some.last ∷ [] = c.in-Some.ensures.items in
    let rising : All (λ (i : Interval). i.lo ≤ c.args.next.lo) (c.pop.new.self.items ++ c.in-Some.last ∷ []) = rw before at c.requires.rising in
    rw c.in_ok-push-in-Some-2-2.ensures.items (rising-joined c.pop.new.self.items c.in-Some.last c.args.next rising)

pub returns-in_ok-push-in-Some-2-2-clause-words : goal.returns-in_ok-push-in-Some-2-2-clause-words
returns-in_ok-push-in-Some-2-2-clause-words c = λ w.
    let before : c.args.out.now.items ≡ c.pop.new.self.items ++ c.in-Some.last ∷ [] = c.in-Some.ensures.items in
    let rising : All (λ (i : Interval). i.lo ≤ c.args.next.lo) (c.pop.new.self.items ++ c.in-Some.last ∷ []) = rw before at c.requires.rising in
    rw (c.in_ok-push-in-Some-2-2.ensures.items, before) (words-joined c.pop.new.self.items c.in-Some.last c.args.next w (last_rises c.pop.new.self.items c.in-Some.last c.args.next rising) c.if-last-next.false c.if-last-next-2.true)

pub returns-in_ok-push-in-Some-3-clause-words : goal.returns-in_ok-push-in-Some-3-clause-words
returns-in_ok-push-in-Some-3-clause-words c = λ w.
    let before : c.args.out.now.items ≡ c.pop.new.self.items ++ c.in-Some.last ∷ [] = c.in-Some.ensures.items in
    let rising : All (λ (i : Interval). i.lo ≤ c.args.next.lo) (c.pop.new.self.items ++ c.in-Some.last ∷ []) = rw before at c.requires.rising in
    rw (c.in_ok-push-in-Some-3.ensures.items, before) (words-covered c.pop.new.self.items c.in-Some.last c.args.next w (last_rises c.pop.new.self.items c.in-Some.last c.args.next rising) c.if-last-next-2.false)
