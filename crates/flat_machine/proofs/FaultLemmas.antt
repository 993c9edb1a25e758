-- A list of grants stops at its first one that isn't legal, or at its end.
use Rattle.std.proofs.Common.{◌≡◌, ℕ, List, length, take, get_or, slice_get, Option, Some, None, sym, ap, ◌∙◌, subst, arith}
use Rattle.std.proofs.lemmas.List.{take_all}
use Rattle.std.proofs.lemmas.Option.{slice_get_past, get_or_from_slice_get}
use Rattle.dn_base.specs.declared.ids.Grant.{Grant}
use Rattle.region_table.specs.Program.{ProgramParts}
use Rattle.flat_machine.specs.declared.faults.GrantFault.{GrantFault}
use Rattle.flat_machine.specs.Phases.{Flat, initial_flat}
use Rattle.flat_machine.specs.Grants.{grants_from, so_far, IsStoppedAt}
use Rattle.flat_machine.specs.Faults.{grant_fault, end_fault, next_fault, Stops, StopsFor}

module _ (P : ProgramParts) (fuel : ℕ) (gs : List Grant) (F G : Flat) (start : F ≡ initial_flat P fuel) (fault : Option GrantFault) where
  from-start : (hs : List Grant) → grants_from P fuel (Some F) hs ≡ Some G → so_far P fuel hs ≡ Some G
  from-start hs leads = ap (λ (X : Flat). grants_from P fuel (Some X) hs) (sym start) ∙ leads

  pub stops-at : (place : ℕ) (d : Grant) → IsStoppedAt P fuel F gs G place → fault ≡ grant_fault P fuel G (get_or gs place d) → StopsFor P fuel gs fault
  stops-at place d h is =
      record {
        place = place;
        flat = G;
        front = from-start (take place gs) h.front;
        stops = subst (Stops P fuel G) (sym h.there) h.illegal;
        is = is ∙ ap (grant_fault P fuel G) (get_or_from_slice_get gs place h.given d h.there) ∙ ap (next_fault P fuel G) (sym h.there);
      }

  pub stops-at-end : grants_from P fuel (Some F) gs ≡ Some G → fault ≡ end_fault P fuel G → StopsFor P fuel gs fault
  stops-at-end leads is =
      let past : slice_get gs (length gs) ≡ None = slice_get_past gs (length gs) (omega arith) in
      record {
        place = length gs;
        flat = G;
        front = ap (so_far P fuel) (take_all (length gs) gs (omega arith)) ∙ from-start gs leads;
        stops = subst (Stops P fuel G) (sym past) tt;
        is = is ∙ ap (next_fault P fuel G) (sym past);
      }
