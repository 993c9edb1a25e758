-- The listing of a text's program and the document of its run are taken as they are.
use Rattle.std.proofs.Common.{◌≡◌, inl, inr, ℕ, List, Result, Ok, Err, sym, ap, subst, ◌∙◌, arith}
use Rattle.region_table.specs.Program.{ProgramParts}
use Rattle.rv_assembler.specs.declared.fault.SourceFault.{SourceFault}
use Rattle.rv_assembler.specs.Source.{source}
use Rattle.effect_checker.specs.Faults.{IsLeastFault}
use Rattle.rv_listing.specs.Listing.{listing_in}
use Rattle.text_places.specs.declared.places.Located.{Located}
use Rattle.run_replay.specs.declared.trace.Trace.{Trace}
use Rattle.explained_answer.specs.declared.taken.Taken as taken
use Rattle.explained_answer.specs.Listing.{explained_listing, first_other_line, IsAListing}
use Rattle.explained_answer.specs.Trace.{IsTraceOf, IsTraceTaken}
use Rattle.explained_answer.proofs.Heads.{trace-taken}
use Rattle.explained_answer.specs.declared.explaining.Explained.{Explained}
use Rattle.explained_answer.specs.declared.explaining.Explained.TheVariants.{Text, Refused}
use Rattle.explained_answer.specs.Explained.{IsLocated, HasNoConflict, IsNoListing, IsNoTrace, IsListingAnswer, IsTraceAnswer, IsExplained}

-- a text has one program, and its parts one place each
pub one-located : (text : List ℕ) (k l : Located) → IsLocated text k → IsLocated text l → k ≡ l
one-located text k l a b =
    let program : k.program ≡ l.program = cc (a.program, b.program) in
    let places = a.places ∙ sym b.places in
    λ i. record { program = program i; places = places i }

module _ (text answer : List ℕ) (l : Located) (is_located : IsLocated text l) where
  pub no-fault : (f : SourceFault) → source text ≡ Err f → ⊥
  no-fault f is = let other : ◌≡◌ {A = Result ProgramParts SourceFault} (Ok l.program) (Err f) = sym is_located.program ∙ is in absurd (cc)

  module _ (listed : IsAListing l answer) where
    -- it is one of every program of the text
    listed-too : (k : Located) → IsLocated text k → answer ≡ listing_in listed.0 k.program
    listed-too k has = listed.1 ∙ ap (λ (m : Located). listing_in listed.0 m.program) (one-located text l k is_located has)

    unlisted : (k : Located) → IsLocated text k → IsNoListing text k answer → ⊥
    unlisted k has none = none.0 listed.0 (listed-too k has)

    listed-answer : (k : Located) (e : Explained) → IsLocated text k → IsListingAnswer text k answer e → e ≡ Text (explained_listing text l answer)
    listed-answer k (Text out) has h = ap Text (h.1 ∙ ap (λ (m : Located). explained_listing text m answer) (one-located text k l has is_located))
    listed-answer k (Refused number) has h = absurd (h.0 listed.0 (listed-too k has))

    pub listing-taken : (e : Explained) → IsExplained text answer e → e ≡ Text (explained_listing text l answer)
    listing-taken e (inl h) = absurd (no-fault h.fault h.is)
    listing-taken e (inr (inl h)) = listed-answer h.located e h.is_located h.answer_is
    listing-taken e (inr (inr (inl h))) = absurd (unlisted h.located h.is_located h.no_listing)
    listing-taken e (inr (inr (inr (inl h)))) = absurd (unlisted h.located h.is_located h.no_listing)
    listing-taken e (inr (inr (inr (inr h)))) = absurd (unlisted h.located h.is_located h.no_listing)

  module _ (no_listing : IsNoListing text l answer) where
    pub not-listed : (k : Located) (e : Explained) → IsLocated text k → IsListingAnswer text k answer e → ⊥
    not-listed k (Text out) has h = no_listing.0 h.0.0 (h.0.1 ∙ ap (λ (m : Located). listing_in h.0.0 m.program) (one-located text k l has is_located))
    not-listed k (Refused number) has h =
        let line : number ≡ first_other_line l answer = h.1 ∙ ap (λ (m : Located). first_other_line m answer) (one-located text k l has is_located) in
        omega (arith, line, no_listing.1, h.2)

  module _ (t : Trace) (none : HasNoConflict l.program) (no_listing : IsNoListing text l answer) (is : IsTraceOf text answer t) where
    not-stopped : (number : ℕ) → IsTraceTaken text answer (taken.TheVariants.Stops number) → ⊥
    not-stopped number h = let other = trace-taken text answer t (taken.TheVariants.Stops number) is h in absurd (cc)

    not-other : IsNoTrace text answer → ⊥
    not-other h = let other = trace-taken text answer t taken.TheVariants.Other is h in absurd (cc)

    traced-answer : (e : Explained) → IsTraceAnswer text answer e → e ≡ Text answer
    traced-answer (Text out) h = ap Text h.1
    traced-answer (Refused number) h = absurd (not-stopped number h)

    pub trace-repeated : (e : Explained) → IsExplained text answer e → e ≡ Text answer
    trace-repeated e (inl h) = absurd (no-fault h.fault h.is)
    trace-repeated e (inr (inl h)) = absurd (not-listed no_listing h.located e h.is_located h.answer_is)
    trace-repeated e (inr (inr (inl h))) =
        absurd (none h.fault (subst (λ (m : Located). IsLeastFault m.program h.fault) (one-located text h.located l h.is_located is_located) h.is))
    trace-repeated e (inr (inr (inr (inl h)))) = traced-answer e h.answer_is
    trace-repeated e (inr (inr (inr (inr h)))) = absurd (not-other h.no_trace)
