-- Where a core owns a word, no other core has it.
use Rattle.std.proofs.Common.{◌≡◌, ◌≢◌, ◌⊎◌, inl, inr, ℕ, zero, suc, ◌%◌, Bool, true, false, cond, length, get_or, replicate, List, [], ◌∷◌, Option, Some, None, refl, sym, ap, subst, ◌∙◌, arith, length-set}
use Rattle.std.specs.Prelude.{◌==◌}
use Rattle.std.proofs.lemmas.Bool.Decides.{nat_tests}
use Rattle.dn_base.specs.declared.ids.Shape.{Shape}
use Rattle.message_net.specs.declared.event.Event.{Event}
use Rattle.machine_rules.specs.State.{State}
use Rattle.machine_rules.specs.Next.{next}
use Rattle.run_account.specs.declared.access.AccessKind.{AccessKind}
use Rattle.run_account.specs.declared.access.AccessKind.TheVariants.{Load, Store}
use Rattle.run_account.specs.declared.access.CountedAccess.{CountedAccess}
use Rattle.run_account.specs.declared.cache.Line.{Line}
use Rattle.run_account.specs.declared.cache.Share.{Share}
use Rattle.run_account.specs.declared.cache.Share.TheVariants.{Shared, Owned}
use Rattle.run_account.specs.Caches.{SharerCache, set_of, most_recent, with_room, word_set_changed}
use Rattle.run_account.specs.Lists.{SharerLists, no_lists, cache_of, share_of, at_set, is_hit, gained, with_place, told_set, telling, having, lists_by, lists_after}
use Rattle.run_account.specs.Runs.{counted_in, lists_with, next_lists, lists_of_run, lists_in_run}
use Rattle.run_account.proofs.Has.{Has, has-none, has-without, has-shared, has-room, has-used, share-has, set-same, set-any, cache-same, cache-other, cache-told}

-- some set of a core has the word with this share; the set is the word's
abbrev pub HasOf : SharerLists → ℕ → ℕ → Share → Type 0
HasOf L c w s = Has w s (set_of (cache_of L c) w)

abbrev pub IsAlone : SharerLists → Type 0
IsAlone L = (c d w : ℕ) (s : Share) → c ≢ d → HasOf L c w Owned → HasOf L d w s → ⊥

-- a change of one set: a line was there before, or it is in the changed set
pub at-has : (L : SharerLists) (c v : ℕ) (f : List Line → List Line) (d w : ℕ) (s : Share) → HasOf (at_set L c v f) d w s
    → HasOf L d w s ⊎ ((d ≡ c) × Has w s (f (set_of (cache_of L c) v)) × (set_of (cache_of L c) v ≡ set_of (cache_of L c) w))
at-has L c v f d w s has = by_core (d == c) refl where
  K : SharerCache
  K = cache_of L c

  by_core : (t : Bool) → (d == c) ≡ t → HasOf L d w s ⊎ ((d ≡ c) × Has w s (f (set_of (cache_of L c) v)) × (set_of (cache_of L c) v ≡ set_of (cache_of L c) w))
  by_core true e = by_set (set-any K v (w % length K) f) where
    same : d ≡ c
    same = grind (arith, nat_tests, e)

    there : Has w s (get_or (word_set_changed K v f) (w % length K) [])
    there =
        subst (λ (n : ℕ). Has w s (get_or (word_set_changed K v f) (w % n) [])) (length-set K (v % length K) (f (set_of K v)))
        (subst (λ (k : SharerCache). Has w s (set_of k w)) (cache-same L c v f) (subst (λ (i : ℕ). HasOf (at_set L c v f) i w s) same has))

    by_set : (get_or (word_set_changed K v f) (w % length K) [] ≡ get_or K (w % length K) []) ⊎ ((w % length K ≡ v % length K) × (get_or (word_set_changed K v f) (w % length K) [] ≡ f (set_of K v)))
        → HasOf L d w s ⊎ ((d ≡ c) × Has w s (f (set_of (cache_of L c) v)) × (set_of (cache_of L c) v ≡ set_of (cache_of L c) w))
    by_set (inl kept) = inl (subst (λ (i : ℕ). HasOf L i w s) (sym same) (subst (Has w s) kept there))
    by_set (inr (place, now)) = inr (same, subst (Has w s) now there, ap (λ (i : ℕ). get_or K i []) (sym place))
  by_core false e =
      let other : d ≢ c = grind (arith, nat_tests, e) in
      inl (subst (λ (k : SharerCache). Has w s (set_of k w)) (cache-other L c d v f other) has)

-- room brings no line
pub place-has : (L : SharerLists) (a : CountedAccess) (had : Option Share) (d w : ℕ) (s : Share) → HasOf (with_place L a had) d w s → HasOf L d w s
place-has L a None d w s has = by_change (at-has L a.core.0 a.word.0 (with_room L.ways) d w s has) where
  by_change : HasOf L d w s ⊎ ((d ≡ a.core.0) × Has w s (with_room L.ways (set_of (cache_of L a.core.0) a.word.0)) × (set_of (cache_of L a.core.0) a.word.0 ≡ set_of (cache_of L a.core.0) w)) → HasOf L d w s
  by_change (inl before) = before
  by_change (inr (same, left, sets)) =
      subst (λ (i : ℕ). HasOf L i w s) (sym same) (subst (Has w s) sets (has-room w s L.ways (set_of (cache_of L a.core.0) a.word.0) left))
place-has L a (Some held) d w s has = has

-- the access itself brings one line
pub having-has : (L : SharerLists) (a : CountedAccess) (new : Share) (d w : ℕ) (s : Share) → HasOf (having L a new) d w s
    → HasOf L d w s ⊎ ((d ≡ a.core.0) × (w ≡ a.word.0) × (new ≡ s))
having-has L a new d w s has = by_change (at-has L a.core.0 a.word.0 (most_recent a.word new) d w s has) where
  by_line : (d ≡ a.core.0) → (set_of (cache_of L a.core.0) a.word.0 ≡ set_of (cache_of L a.core.0) w)
      → Has w s (set_of (cache_of L a.core.0) a.word.0) ⊎ ((a.word.0 ≡ w) × (new ≡ s)) → HasOf L d w s ⊎ ((d ≡ a.core.0) × (w ≡ a.word.0) × (new ≡ s))
  by_line same sets (inl before) = inl (subst (λ (i : ℕ). HasOf L i w s) (sym same) (subst (Has w s) sets before))
  by_line same sets (inr (word, share)) = inr (same, sym word, share)

  by_change : HasOf L d w s ⊎ ((d ≡ a.core.0) × Has w s (most_recent a.word new (set_of (cache_of L a.core.0) a.word.0)) × (set_of (cache_of L a.core.0) a.word.0 ≡ set_of (cache_of L a.core.0) w))
      → HasOf L d w s ⊎ ((d ≡ a.core.0) × (w ≡ a.word.0) × (new ≡ s))
  by_change (inl before) = inl before
  by_change (inr (same, left, sets)) = by_line same sets (has-used w s new a.word (set_of (cache_of L a.core.0) a.word.0) left)

-- a set that is told has no line more, and none that is Owned where it wasn't; of the word itself it has a Shared line at most, and at
-- a store none
told-has : (kind : AccessKind) (v w : ℕ) (s : Share) (lines : List Line) → Has w s (told_set kind v lines) → (t : Share) × Has w t lines × (s ≡ Owned → t ≡ Owned)
told-has Load v w s lines has = (has-shared w v s lines has).0
told-has Store v w s lines has = (s, (has-without w v s lines has).0, λ owned. owned)

told-word : (kind : AccessKind) (w : ℕ) (s : Share) (lines : List Line) → Has w s (told_set kind w lines) → (kind ≡ Load) × (s ≡ Shared)
told-word Load w s lines has = (refl, (has-shared w w s lines has).1 refl)
told-word Store w s lines has = absurd ((has-without w w s lines has).1 refl)

told-empty : (kind : AccessKind) (v : ℕ) → told_set kind v [] ≡ []
told-empty Load v = refl
told-empty Store v = refl

pub telling-has : (L : SharerLists) (a : CountedAccess) (d w : ℕ) (s : Share) → HasOf (telling L a) d w s
    → ((t : Share) × HasOf L d w t × (s ≡ Owned → t ≡ Owned)) × (d ≢ a.core.0 → w ≡ a.word.0 → (a.kind ≡ Load) × (s ≡ Shared))
telling-has L a d w s has = by_core (d == a.core.0) refl (subst (λ (k : SharerCache). Has w s (set_of k w)) (cache-told L a d) has) where
  K : SharerCache
  K = cache_of L d

  by_core : (t : Bool) → (d == a.core.0) ≡ t → Has w s (set_of (cond t K (word_set_changed K a.word.0 (told_set a.kind a.word.0))) w)
      → ((t : Share) × HasOf L d w t × (s ≡ Owned → t ≡ Owned)) × (d ≢ a.core.0 → w ≡ a.word.0 → (a.kind ≡ Load) × (s ≡ Shared))
  by_core true e here =
      let same : d ≡ a.core.0 = grind (arith, nat_tests, e) in
      ((s, here, λ owned. owned), λ other. absurd (other same))
  by_core false e here = (by_set (set-any K a.word.0 (w % length K) (told_set a.kind a.word.0)), λ other word. of_word word) where
    there : Has w s (get_or (word_set_changed K a.word.0 (told_set a.kind a.word.0)) (w % length K) [])
    there = subst (λ (n : ℕ). Has w s (get_or (word_set_changed K a.word.0 (told_set a.kind a.word.0)) (w % n) [])) (length-set K (a.word.0 % length K) (told_set a.kind a.word.0 (set_of K a.word.0))) here

    by_set : (get_or (word_set_changed K a.word.0 (told_set a.kind a.word.0)) (w % length K) [] ≡ get_or K (w % length K) [])
        ⊎ ((w % length K ≡ a.word.0 % length K) × (get_or (word_set_changed K a.word.0 (told_set a.kind a.word.0)) (w % length K) [] ≡ told_set a.kind a.word.0 (set_of K a.word.0)))
        → (t : Share) × HasOf L d w t × (s ≡ Owned → t ≡ Owned)
    by_set (inl kept) = (s, subst (Has w s) kept there, λ owned. owned)
    by_set (inr (place, now)) =
        let before = told-has a.kind a.word.0 w s (set_of K a.word.0) (subst (Has w s) now there) in
        (before.0, subst (λ (i : ℕ). Has w before.0 (get_or K i [])) (sym place) before.1, before.2)

    of_word : w ≡ a.word.0 → (a.kind ≡ Load) × (s ≡ Shared)
    of_word word =
        told-word a.kind a.word.0 s (set_of K a.word.0)
        (subst (Has a.word.0 s) (set-same K a.word.0 (told_set a.kind a.word.0) (told-empty a.kind a.word.0))
        (subst (λ (v : ℕ). Has v s (set_of (word_set_changed K a.word.0 (told_set a.kind a.word.0)) v)) word here))

-- ---- an access

hit-gained : (kind : AccessKind) (had : Option Share) → is_hit kind had ≡ true → had ≡ Some (gained kind had)
hit-gained Load None e = absurd (cc)
hit-gained Load (Some held) e = refl
hit-gained Store None e = absurd (cc)
hit-gained Store (Some Shared) e = absurd (cc)
hit-gained Store (Some Owned) e = refl

miss-load : (kind : AccessKind) (had : Option Share) → is_hit kind had ≡ false → kind ≡ Load → gained kind had ≡ Shared
miss-load Load None e is = refl
miss-load Load (Some held) e is = absurd (cc)
miss-load Store had e is = absurd (cc)

shares-differ : Shared ≡ Owned → ⊥
shares-differ e = cc

module _ (L : SharerLists) (a : CountedAccess) (alone : IsAlone L) where
  alone-hit : (new : Share) → share_of L a.core.0 a.word.0 ≡ Some new → IsAlone (having L a new)
  alone-hit new is c d w s other mine theirs = alone c d w s other (before c Owned mine) (before d s theirs) where
    before : (i : ℕ) (t : Share) → HasOf (having L a new) i w t → HasOf L i w t
    before i t has = by_change (having-has L a new i w t has) where
      by_change : HasOf L i w t ⊎ ((i ≡ a.core.0) × (w ≡ a.word.0) × (new ≡ t)) → HasOf L i w t
      by_change (inl there) = there
      by_change (inr (core, word, share)) =
          let held : HasOf L a.core.0 a.word.0 new = share-has a.word.0 new (set_of (cache_of L a.core.0) a.word.0) is in
          subst (λ (j : ℕ). HasOf L j w t) (sym core) (subst (λ (v : ℕ). HasOf L a.core.0 v t) (sym word) (subst (HasOf L a.core.0 a.word.0) share held))

  alone-miss : (had : Option Share) (new : Share) → (a.kind ≡ Load → new ≡ Shared) → IsAlone (having (telling (with_place L a had) a) a new)
  alone-miss had new loaded c d w s other mine theirs = by_two (having-has T a new c w Owned mine) (having-has T a new d w s theirs) where
    T : SharerLists
    T = telling (with_place L a had) a

    apart : (t : Share) → HasOf T c w Owned → HasOf T d w t → ⊥
    apart t owns has =
        let first = (telling-has (with_place L a had) a c w Owned owns).0 in
        let second = (telling-has (with_place L a had) a d w t has).0 in
        alone c d w second.0 other
        (place-has L a had c w Owned (subst (HasOf (with_place L a had) c w) (first.2 refl) first.1)) (place-has L a had d w second.0 second.1)

    by_two : HasOf T c w Owned ⊎ ((c ≡ a.core.0) × (w ≡ a.word.0) × (new ≡ Owned)) → HasOf T d w s ⊎ ((d ≡ a.core.0) × (w ≡ a.word.0) × (new ≡ s)) → ⊥
    by_two (inl owns) (inl has) = apart s owns has
    by_two (inl owns) (inr (core, word, share)) =
        let told = (telling-has (with_place L a had) a c w Owned owns).1 (λ same. other (same ∙ sym core)) word in
        shares-differ (sym told.1)
    by_two (inr (core, word, owned)) (inl has) =
        let told = (telling-has (with_place L a had) a d w s has).1 (λ same. other (core ∙ sym same)) word in
        shares-differ (sym (loaded told.0) ∙ owned)
    by_two (inr (core, word, owned)) (inr (core2, word2, share)) = other (core ∙ sym core2)

  pub alone-after : IsAlone (lists_after L a)
  unfolding lists_after
  alone-after = by_share (share_of L a.core.0 a.word.0) refl where
    by_share : (had : Option Share) → share_of L a.core.0 a.word.0 ≡ had → IsAlone (lists_by L a had)
    by_share had is = by_hit (is_hit a.kind had) refl where
      by_hit : (t : Bool) → is_hit a.kind had ≡ t → IsAlone (cond t (having L a (gained a.kind had)) (having (telling (with_place L a had) a) a (gained a.kind had)))
      by_hit true e = alone-hit (gained a.kind had) (is ∙ hit-gained a.kind had e)
      by_hit false e = alone-miss had (gained a.kind had) (miss-load a.kind had e)

-- ---- a run

alone-with : (L : SharerLists) (o : Option CountedAccess) → IsAlone L → IsAlone (lists_with L o)
alone-with L None alone = alone
alone-with L (Some a) alone = alone-after L a alone

alone-run : (events : List Event) (S : State) (L : SharerLists) → IsAlone L → IsAlone (lists_of_run S L events)
alone-run [] S L alone = alone
alone-run (e ∷ es) S L alone = alone-run es (next S e) (next_lists S e L) (alone-with L (counted_in S e) alone)

-- at first no set has a line
none-get : (n i : ℕ) → get_or (replicate {A = List Line} n []) i [] ≡ []
none-get zero i = refl
none-get (suc n) zero = refl
none-get (suc n) (suc i) = none-get n i

pub none-set : (n i m k : ℕ) → get_or (get_or (replicate n (replicate {A = List Line} m [])) i []) k [] ≡ []
none-set zero i m k = refl
none-set (suc n) zero m k = none-get m k
none-set (suc n) (suc i) m k = none-set n i m k

none-has : (shape : Shape) (c w : ℕ) (s : Share) → HasOf (no_lists shape) c w s → ⊥
none-has shape c w s has =
    has-none w s (subst (Has w s) (none-set shape.cores c shape.sets (w % length (cache_of (no_lists shape) c))) has)

pub owner-alone : (S : State) (events : List Event) (c d w : ℕ) → c ≢ d → share_of (lists_in_run S events) c w ≡ Some Owned → share_of (lists_in_run S events) d w ≡ None
owner-alone S events c d w other owns = by_share (share_of (lists_in_run S events) d w) refl where
  L : SharerLists
  L = lists_in_run S events

  alone : IsAlone L
  alone = alone-run events S (no_lists S.setting.shape) (λ i j v s apart mine theirs. none-has S.setting.shape j v s theirs)

  by_share : (o : Option Share) → share_of L d w ≡ o → o ≡ None
  by_share None e = refl
  by_share (Some s) e =
      absurd (alone c d w s other (share-has w Owned (set_of (cache_of L c) w) owns) (share-has w s (set_of (cache_of L d) w) e))
