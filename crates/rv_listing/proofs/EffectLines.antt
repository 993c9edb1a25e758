-- The lines of the sets of a task.
use Rattle.std.proofs.Common.{◌≡◌, ℕ, ◌+◌, ◌≤◌, Bool, true, List, [], ◌∷◌, ◌++◌, length, map, Option, Some, None, is_none, refl, sym, ap, ◌∙◌, append_assoc, append-nil, length-append, arith}
use Rattle.std.specs.Prelude.{pos}
use Rattle.std.specs.Option.{option_map}
use Rattle.region_table.specs.declared.interval.Interval.{Interval}
use Rattle.region_table.specs.declared.declared.Region.{Region}
use Rattle.region_table.specs.Program.{AreTiled}
use Rattle.rv_assembler.specs.declared.names.Meaning.{Meaning}
use Rattle.rv_assembler.specs.declared.draft.Usage.{Usage}
use Rattle.rv_assembler.specs.declared.draft.Claim.{Claim}
use Rattle.rv_assembler.specs.declared.names.Meaning as in_meaning
use Rattle.rv_assembler.specs.declared.kind.Kind as in_kind
use Rattle.rv_assembler.specs.declared.kind.Directive as in_directive
use Rattle.rv_assembler.specs.declared.kind.Form as in_form
use Rattle.rv_assembler.specs.Shape.{name, name_n_n, name_name, name_name_n_n}
use Rattle.rv_assembler.specs.Named.{plain_usage, under_lock, lock_number}
use Rattle.rv_listing.specs.Listing.{text_of, use_line, interval_lines, set_lines}
use Rattle.rv_listing.specs.Law.{is_declared_name}
use Rattle.rv_listing.proofs.PartLemmas.{text-append}
use Rattle.rv_listing.proofs.TokenLemmas.{statement-good}
use Rattle.rv_listing.proofs.KindLemmas.{HasKindBut}
use Rattle.rv_listing.proofs.CodeLemmas.{num, num-op}
use Rattle.rv_listing.proofs.CodeSection.{AreShort}
use Rattle.rv_listing.proofs.DirectiveLemmas.{nm, name-op, use-said, guarded-said}
use Rattle.rv_listing.proofs.CutSetLemmas.{cut_parts, cut_set}
use Rattle.rv_listing.proofs.DeclarationLemmas.{KnowRegions}
use Rattle.rv_listing.proofs.SetLines.{GivesUse, IsUsing, AreNamed, add_claims, drafted, using-claims, interval-adds}
use Rattle.rv_listing.proofs.AddsLemmas.{Adds, size, adds-none, adds-join, adds-as}

-- ---- the four words of effects

pub plain-gives : (text : List ℕ) (names : List ℕ → Option Meaning) (w : List ℕ) (writes : Bool) → HasKindBut w name name_n_n (in_kind.TheVariants.Table (in_directive.TheVariants.Uses writes in_form.TheVariants.Part)) → GivesUse text names w None (plain_usage writes)
unfolding use_line
plain-gives text names w writes k = record {
  good = λ n lo hi h l m. statement-good (nm w) (nm n ∷ num (pos lo) ∷ num (pos hi) ∷ []) k.op (name-op n h, (num-op (pos lo) l, (num-op (pos hi) m, tt)));
  says = λ before rest place n lo hi s h l m e.
      let said = use-said text before rest place s w writes n lo hi k h l m e in
      record { effect = record { writes = writes; lock = None; region = said.token; extent = _ }; said = said.said; region = said.bytes; extent = refl; usage = refl; lock = refl };
}

pub guarded-gives : (text : List ℕ) (names : List ℕ → Option Meaning) (w : List ℕ) (writes : Bool) (lock : List ℕ) (number : ℕ) → HasKindBut w name_name name_name_n_n (in_kind.TheVariants.Table (in_directive.TheVariants.Guarded writes in_form.TheVariants.Part)) → is_declared_name lock ≡ true
    → names lock ≡ Some (in_meaning.TheVariants.Lock number) → GivesUse text names w (Some lock) (under_lock writes number)
unfolding use_line
guarded-gives text names w writes lock number k g known = record {
  good = λ n lo hi h l m. statement-good (nm w) (nm lock ∷ nm n ∷ num (pos lo) ∷ num (pos hi) ∷ []) k.op (name-op lock g, (name-op n h, (num-op (pos lo) l, (num-op (pos hi) m, tt))));
  says = λ before rest place n lo hi s h l m e.
      let said = guarded-said text before rest place s w writes lock n lo hi k g h l m e in
      record {
        effect = record { writes = writes; lock = Some said.first; region = said.second; extent = _ };
        said = said.said;
        region = said.second_bytes;
        extent = refl;
        usage = ap (λ (o : Option Meaning). option_map (under_lock writes) (lock_number o)) (ap names said.first_bytes ∙ known);
        lock = ap (λ (o : Option Meaning). is_none (lock_number o)) (ap names said.first_bytes ∙ known);
      };
}

map-join : {X Y : Type 0} (f : X → Y) (a b : List X) → map f (a ++ b) ≡ map f a ++ map f b
map-join f [] b = refl
map-join f (x ∷ a) b = ap (λ l. f x ∷ l) (map-join f a b)

pub short-left : (a b : List (List ℕ)) → AreShort (a ++ b) → AreShort a
short-left [] b h = tt
short-left (l ∷ a) b h = (h.0, short-left a b h.1)

pub short-right : (a b : List (List ℕ)) → AreShort (a ++ b) → AreShort b
short-right [] b h = h
short-right (l ∷ a) b h = short-right a b h.1

-- two sections of lines
pub front-text : (text before : List ℕ) (a b : List (List ℕ)) (rest : List ℕ) → text ≡ before ++ (text_of (a ++ b) ++ rest) → text ≡ before ++ (text_of a ++ (text_of b ++ rest))
front-text text before a b rest e = e ∙ ap (λ (x : List ℕ). before ++ (x ++ rest)) (text-append a b) ∙ ap (λ (x : List ℕ). before ++ x) (append_assoc (text_of a) (text_of b) rest)

pub back-text : (text before : List ℕ) (a b : List (List ℕ)) (rest : List ℕ) → text ≡ before ++ (text_of (a ++ b) ++ rest) → text ≡ (before ++ text_of a) ++ (text_of b ++ rest)
back-text text before a b rest e = front-text text before a b rest e ∙ sym (append_assoc before (text_of a) (text_of b ++ rest))

pub back-place : (before : List ℕ) (a : List (List ℕ)) (place : ℕ) → place ≡ length before → place + size a ≡ length (before ++ text_of a)
back-place before a place s = let l = length-append before (text_of a) in omega arith

module _ (v : Bool) (text : List ℕ) (names : List ℕ → Option Meaning) (w : List ℕ) (lock : Option (List ℕ)) (u : Usage) (gives : GivesUse text names w lock u) (rs : List Region) (end : ℕ) (tiled : AreTiled 0 rs end) (most : end ≤ 65536) (named : AreNamed rs) (known : KnowRegions names 0 rs) where
  -- the lines of a set
  pub set-adds : (set : List Interval) (before rest : List ℕ) (place : ℕ) → place ≡ length before → text ≡ before ++ (text_of (set_lines w lock rs set) ++ rest) → AreShort (set_lines w lock rs set)
      → Adds v text names place (set_lines w lock rs set) (IsUsing v) (λ d. add_claims d u (cut_set rs set))
  set-adds [] before rest place s e short =
      adds-as v text names place [] (IsUsing v) (IsUsing v) (λ d. d) (λ d. add_claims d u []) (adds-none v text names place (IsUsing v)) (λ d h. h)
      (λ d. ap (λ (l : List Claim). record d { claims = l }) (sym (append-nil d.claims)))
  set-adds (i ∷ is) before rest place s e short =
      let a = interval_lines w lock rs i in
      let b = set_lines w lock rs is in
      let first = interval-adds v text names w lock u gives i rs 0 0 end before (text_of b ++ rest) place s tiled most named known (front-text text before a b rest e) (short-left a b short) in
      let next = set-adds is (before ++ text_of a) rest (place + size a) (back-place before a place s) (back-text text before a b rest e) (short-right a b short) in
      adds-as v text names place (a ++ b) (λ d. IsUsing v d × IsUsing v (add_claims d u (cut_parts rs i))) (IsUsing v) (λ d. add_claims (add_claims d u (cut_parts rs i)) u (cut_set rs is)) (λ d. add_claims d u (cut_set rs (i ∷ is)))
      (adds-join v text names place a b (IsUsing v) (IsUsing v) (λ d. add_claims d u (cut_parts rs i)) (λ d. add_claims d u (cut_set rs is)) first next)
      (λ d h. (h, using-claims v d u (cut_parts rs i) h))
      (λ d. ap (λ (l : List Claim). record d { claims = l }) (append_assoc d.claims (map (drafted d u) (cut_parts rs i)) (map (drafted d u) (cut_set rs is)) ∙ ap (λ (l : List Claim). d.claims ++ l) (sym (map-join (drafted d u) (cut_parts rs i) (cut_set rs is)))))
