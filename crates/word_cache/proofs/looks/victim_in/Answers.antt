use Rattle.std.proofs.Common.{◌≡◌, ℕ, ◌<◌, true, List, length, get_or, Option, Some, None, IfSome, refl, ap, ◌∙◌, sym, arith}
use Rattle.std.proofs.lemmas.Bool.{and_parts}
use Rattle.word_cache.specs.Cache.{is_evictable, shares_set, lookup, may_go}
use Rattle.word_cache.specs.Row.{IsPlaceRow, pair_gives_way, pairs_by_use}
use Rattle.word_cache.proofs.RowLemmas.{get_some}
use Rattle.std.specs.Option.{option_map}
use Rattle.word_cache.specs.declared.row.Place.{Place}
use Rattle.word_cache.specs.Cache.{Pair}
use Rattle.word_cache.proofs.CountLemmas.{counted}
use Rattle.word_cache.proofs.EditLemmas.{victim_found, victim_none}
use Rattle.word_cache.proofs.looks.victim_in.Goals as goal

-- any place
some_place : Place
some_place = record { pair = None; used = 0 }

pub returns-in-Some-clause-value : goal.returns-in-Some-clause-value
returns-in-Some-clause-value c =
    c.word_at.ensures some_place ∙ victim_found c.args.sets c.args.ways c.args.word.0 c.in-Some.place some_place c.args.row.now c.requires c.in-Some.ensures

pub returns-in-None-clause-value : goal.returns-in-None-clause-value
returns-in-None-clause-value c =
    sym (ap (option_map (λ (p : Pair). p.0)) (victim_none c.args.sets c.args.ways c.args.word.0 c.args.row.now c.requires c.in-None.ensures))

-- a pair that gives way stands for its word's entry
evictable : (sets ways w k : ℕ) (d : Place) (row : List Place) (o : Option Pair) → IsPlaceRow sets ways row → k < length row → (get_or row k d).pair ≡ o → pair_gives_way sets w o ≡ true
    → IfSome (option_map (λ (p : Pair). p.0) o) (λ v. may_go (lookup v.0 (pairs_by_use row)) ≡ true)
evictable sets ways w k d row None good within e passing = absurd (cc)
evictable sets ways w k d row (Some a) good within e passing =
    rw (get_some sets ways k d a.0 a.1 row good within e) (and_parts (shares_set sets w a) (is_evictable a.1) passing).1

pub returns-in-Some-clause-evictable : goal.returns-in-Some-clause-evictable
returns-in-Some-clause-evictable c =
    let within : c.in-Some.place < length c.args.row.now = omega (arith, c.in-Some.ensures.1, (counted c.args.sets c.args.ways c.args.word.0 c.args.row.now c.requires).1) in
    rw (c.word_at.ensures some_place)
    (evictable c.args.sets c.args.ways c.args.word.0 c.in-Some.place some_place c.args.row.now (get_or c.args.row.now c.in-Some.place some_place).pair c.requires within refl (c.in-Some.ensures.2 some_place))
