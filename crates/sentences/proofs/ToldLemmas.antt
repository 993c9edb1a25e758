-- What the table of effects tells: one more line, and the lines of a task.
use Rattle.std.proofs.Common.{Ordering, ◌≡◌, ℕ, ◌+◌, ◌==◌, ◌<◌, ◌≤◌, ◌-◌, Bool, true, false, ◌&&◌, cond, if◌then◌else◌, List, [], ◌∷◌, ◌++◌, length, take, get_or, Option, Some, None, refl, sym, ap, subst, ◌∙◌, bytes_eq, zero, suc, arith}
use Rattle.std.specs.List.{filter, slice_get}
use Rattle.std.specs.BTreeMap.{BTreeMap, UpdatesBy}
use Rattle.std.specs.Cmp.{tied_then, unsigned_tied}
use Rattle.std.specs.Cmp.Lexicographic.{slice_cmp}
use Rattle.std.specs.Ordering.{nat_cmp, ordering_then, is_eq}
use Rattle.std.proofs.lemmas.Map.Text.{is_eq-slice_cmp}
use Rattle.std.proofs.lemmas.List.Elements.{filter_more}
use Rattle.std.proofs.lemmas.List.{append-nil, append_assoc, length-append, length-take-le}
use Rattle.std.proofs.lemmas.Bool.{eqb-true}
use Rattle.std.proofs.Math.Dec.{eqb-zero-suc, eqb-suc-zero, eqb-suc-suc}
use Rattle.std.proofs.lemmas.Slice.Eq.{bytes_eq-Decides}
use denote.Ref.{Bor}
use Rattle.region_table.specs.Program.{ProgramParts}
use Rattle.region_table.specs.declared.declared.Region.{Region}
use Rattle.rv_assembler.specs.Operand.{bytes_of}
use Rattle.text_places.specs.declared.places.TaskPlace.{TaskPlace}
use Rattle.sentences.specs.declared.effects.EffectLine.{EffectLine}
use Rattle.sentences.specs.declared.told.Told.{Told}
use Rattle.sentences.specs.declared.told.ToldEffects.{ToldEffects}
use Rattle.sentences.specs.Claims.{names_region}
use Rattle.sentences.specs.Effects.{task_effects, told_of_region, effect_text, more_effects, some_effects}
use Rattle.sentences.specs.Told.{is_behind, told_of, found_at, told_or_none, told_by, AreToldOf, AreTold, slot, with_line, with_line_if, told_text}

-- ---- the table with one more entry

abbrev pub key_cmp : ℕ × Bor (List ℕ) → ℕ × Bor (List ℕ) → Ordering
key_cmp x y = ordering_then (nat_cmp x.0 y.0) (slice_cmp nat_cmp x.1.now y.1.now)

same-key : (f g : ℕ) (m n : List ℕ) → is_eq (ordering_then (nat_cmp f g) (slice_cmp nat_cmp m n)) ≡ (f == g && bytes_eq m n)
same-key f g m n =
    sym (tied_then (nat_cmp f g) (slice_cmp nat_cmp m n)) ∙ ap (λ (b : Bool). b && is_eq (slice_cmp nat_cmp m n)) (unsigned_tied f g)
    ∙ ap (λ (b : Bool). (f == g) && b) (is_eq-slice_cmp m n)

pub found-updated : (key : ℕ × Bor (List ℕ)) (m n : BTreeMap (ℕ × Bor (List ℕ)) Told) (w : Option Told) → UpdatesBy key_cmp (key_cmp key) m n w
    → (family : ℕ) (name : List ℕ) → found_at n family name ≡ cond (key.0 == family && bytes_eq key.1.now name) w (found_at m family name)
found-updated key m n w updates family name =
    updates.0 (family, record { ref_ptr = (0, 0); now = name })
    ∙ ap (λ (b : Bool). cond b w (found_at m family name)) (same-key key.0 family key.1.now name)

-- a line is added to what is told of its own task and region
pub told-added : (text : List ℕ) (line : EffectLine) (m n : BTreeMap (ℕ × Bor (List ℕ)) Told) (region : Bor (List ℕ)) → region.now ≡ bytes_of text line.effect.region
    → UpdatesBy key_cmp (key_cmp (line.family, region)) m n (Some (with_line (told_or_none (found_at m line.family region.now)) line))
    → (family : ℕ) (name : List ℕ)
    → told_or_none (found_at n family name) ≡ with_line_if (is_behind text family name line) (told_or_none (found_at m family name)) line
told-added text line m n region is updates family name =
    ap told_or_none (found-updated (line.family, region) m n _ updates family name) ∙ ap (λ (bs : List ℕ). told_or_none (cond (line.family == family && bytes_eq bs name) (Some (with_line (told_or_none (found_at m line.family bs)) line)) (found_at m family name))) is
    ∙ by_family (line.family == family) refl
  where
    own : List ℕ
    own = bytes_of text line.effect.region

    by_name : (b : Bool) → bytes_eq own name ≡ b → line.family ≡ family
        → told_or_none (cond b (Some (with_line (told_or_none (found_at m line.family own)) line)) (found_at m family name)) ≡ with_line_if b (told_or_none (found_at m family name)) line
    by_name true e same = rw (same, (bytes_eq-Decides own name).0 e) refl
    by_name false e same = refl

    by_family : (b : Bool) → (line.family == family) ≡ b
        → told_or_none (cond (b && bytes_eq own name) (Some (with_line (told_or_none (found_at m line.family own)) line)) (found_at m family name))
        ≡ with_line_if (b && bytes_eq own name) (told_or_none (found_at m family name)) line
    by_family true e = by_name (bytes_eq own name) refl (eqb-true line.family family e)
    by_family false e = refl

-- ---- one more line is told

slot-is : (number : ℕ) (xs : List EffectLine) (x : EffectLine) → slot number (length xs) (slice_get xs number) x ≡ slice_get (xs ++ x ∷ []) number
slot-is zero [] x = refl
slot-is (suc n) [] x = ap (λ (b : Bool). if b then Some x else None) (eqb-zero-suc n)
slot-is zero (y ∷ ys) x = ap (λ (b : Bool). if b then Some x else Some y) (eqb-suc-zero (length ys))
slot-is (suc n) (y ∷ ys) x = ap (λ (b : Bool). if b then Some x else slice_get ys n) (eqb-suc-suc (length ys) n) ∙ slot-is n ys x

abbrev made : Option EffectLine → Option EffectLine → Option EffectLine → ℕ → Told
made a b c n = record { first = a; second = b; third = c; count = n }

told-more : (xs : List EffectLine) (x : EffectLine) → with_line (told_of xs) x ≡ told_of (xs ++ x ∷ [])
unfolding with_line
told-more xs x =
    ap (λ (a : Option EffectLine). made a (slot 1 (length xs) (slice_get xs 1) x) (slot 2 (length xs) (slice_get xs 2) x) (length xs + 1)) (slot-is 0 xs x)
    ∙ ap (λ (a : Option EffectLine). made (slice_get (xs ++ x ∷ []) 0) a (slot 2 (length xs) (slice_get xs 2) x) (length xs + 1)) (slot-is 1 xs x)
    ∙ ap (λ (a : Option EffectLine). made (slice_get (xs ++ x ∷ []) 0) (slice_get (xs ++ x ∷ []) 1) a (length xs + 1)) (slot-is 2 xs x)
    ∙ ap (made (slice_get (xs ++ x ∷ []) 0) (slice_get (xs ++ x ∷ []) 1) (slice_get (xs ++ x ∷ []) 2)) (sym (length-append xs (x ∷ [])))

pub told-step : (text : List ℕ) (xs : List EffectLine) (i : ℕ) (d : EffectLine) → i < length xs → (family : ℕ) (name : List ℕ)
    → with_line_if (is_behind text family name (get_or xs i d)) (told_of (filter (is_behind text family name) (take i xs))) (get_or xs i d)
    ≡ told_of (filter (is_behind text family name) (take (i + 1) xs))
told-step text xs i d within family name = by_test (p x) refl ∙ ap told_of (sym (filter_more p xs i d within)) where
  p : EffectLine → Bool
  p = is_behind text family name

  x : EffectLine
  x = get_or xs i d

  by_test : (b : Bool) → p x ≡ b → with_line_if b (told_of (filter p (take i xs))) x ≡ told_of (filter p (take i xs) ++ cond b (x ∷ []) [])
  by_test true e = told-more (filter p (take i xs)) x
  by_test false e = ap told_of (sym (append-nil (filter p (take i xs))))

filter-few : {X : Type 0} (p : X → Bool) (xs : List X) → length (filter p xs) ≤ length xs
filter-few p [] = omega arith
filter-few {X} p (x ∷ xs) = by_test (p x) (filter-few p xs) where
  by_test : (b : Bool) → length (filter p xs) ≤ length xs → length (if b then x ∷ filter p xs else filter p xs) ≤ length (x ∷ xs)
  by_test true h = omega (arith, h)
  by_test false h = omega (arith, h)

-- what is told of the lines so far is no more than these
pub told-few : (text : List ℕ) (xs : List EffectLine) (i : ℕ) (e : ToldEffects) (family : ℕ) (name : List ℕ) → AreToldOf text (take i xs) e → i ≤ length xs
    → (told_by e family name).count ≤ i
told-few text xs i e family name told within =
    let few = filter-few (is_behind text family name) (take i xs) in
    rw (told family name) (subst (λ n. length (filter (is_behind text family name) (take i xs)) ≤ n) (length-take-le i xs within) few)

-- the table has room for one line more
pub told-room : (text : List ℕ) (xs : List EffectLine) (i : ℕ) (d : EffectLine) (e : ToldEffects) → i < length xs → length xs < 18446744073709551616 → AreToldOf text (take i xs) e
    → (told_by e (get_or xs i d).family (bytes_of text (get_or xs i d).effect.region)).count < 18446744073709551615
told-room text xs i d e within few told =
    let some = told-few text xs i e (get_or xs i d).family (bytes_of text (get_or xs i d).effect.region) told (omega (arith, within)) in omega (arith, within, few, some)

pub told-next : (text : List ℕ) (xs : List EffectLine) (i : ℕ) (d : EffectLine) (before after : ToldEffects) → i < length xs → AreToldOf text (take i xs) before
    → ((family : ℕ) (name : List ℕ)
    → told_by after family name ≡ with_line_if (is_behind text family name (get_or xs i d)) (told_by before family name) (get_or xs i d))
    → AreToldOf text (take (i + 1) xs) after
told-next text xs i d before after within told added = λ family name.
    added family name
    ∙ ap (λ (t : Told). with_line_if (is_behind text family name (get_or xs i d)) t (get_or xs i d)) (told family name)
    ∙ told-step text xs i d within family name

-- ---- what is told of a task

none-pass : (line : ℕ) (xs : List EffectLine) → filter (λ (x : EffectLine). x.family == line && false) xs ≡ []
none-pass line [] = refl
none-pass line (x ∷ xs) = by_test (x.family == line) (none-pass line xs) where
  rest : List EffectLine
  rest = filter (λ (y : EffectLine). y.family == line && false) xs

  by_test : (b : Bool) → rest ≡ [] → (if b && false then x ∷ rest else rest) ≡ []
  by_test true none = none
  by_test false none = none

abbrev among : List ℕ → ℕ → Option Region → List EffectLine
among text line r = filter (λ (x : EffectLine). x.family == line && names_region text x.effect.region r) (task_effects text)

pub told-of-task : (text : List ℕ) (p : ProgramParts) (t : TaskPlace) (region : ℕ) (e : ToldEffects) (r : Region) → slice_get p.regions region ≡ Some r → AreTold text e
    → told_by e t.line r.name ≡ told_of (told_of_region text p t region)
told-of-task text p t region e r is told = told t.line r.name ∙ ap (λ (o : Option Region). told_of (among text t.line o)) (sym is)

pub told-of-none : (text : List ℕ) (p : ProgramParts) (t : TaskPlace) (region : ℕ) → slice_get p.regions region ≡ None
    → told_of [] ≡ told_of (told_of_region text p t region)
told-of-none text p t region is = ap told_of (sym (none-pass t.line (task_effects text))) ∙ ap (λ (o : Option Region). told_of (among text t.line o)) (sym is)

-- ---- the sentences

pub told-said : (text : List ℕ) (p : ProgramParts) (t : TaskPlace) (region : ℕ) (xs : List EffectLine) → told_text text p t region (told_of xs) ≡ some_effects text p t region xs
unfolding some_effects
told-said text p t region [] = refl
told-said text p t region (a ∷ []) = one (effect_text text p t region a) (more_effects 0) where
  one : (u m : List ℕ) → u ++ [] ++ [] ++ m ≡ (u ++ []) ++ m
  one u m = rw (append-nil u, append-nil u) refl
told-said text p t region (a ∷ b ∷ []) = two (effect_text text p t region a) (effect_text text p t region b) (more_effects 0) where
  two : (u v m : List ℕ) → u ++ v ++ [] ++ m ≡ (u ++ (v ++ [])) ++ m
  two u v m = rw (append-nil v, append-nil (u ++ v)) refl
told-said text p t region (a ∷ b ∷ c ∷ xs) =
    three (effect_text text p t region a) (effect_text text p t region b) (effect_text text p t region c) (more_effects (length (a ∷ b ∷ c ∷ xs) - 3)) where
      three : (u v w m : List ℕ) → u ++ v ++ w ++ m ≡ (u ++ (v ++ (w ++ []))) ++ m
      three u v w m = rw (append-nil w, append_assoc u v w) refl
