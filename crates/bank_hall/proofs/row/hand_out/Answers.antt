use Rattle.std.proofs.Common.{◌≡◌, ◌<◌, [], ◌∷◌, length, Some, slice_get, set, sym, ap, ◌∙◌, subst, arith, length-append}
use Rattle.std.proofs.lemmas.Bool.{false≢true}
use Rattle.std.proofs.lemmas.List.{length-set}
use Rattle.bank_hall.specs.Rows.{handed}
use Rattle.bank_hall.proofs.RowLemmas.{stands}
use Rattle.bank_hall.proofs.StartLemmas.{handed-last, handed-none, none_left}
use Rattle.bank_hall.proofs.row.hand_out.Goals as goal

pub loop-pass-smaller : goal.loop-pass-smaller
loop-pass-smaller g c = omega (arith, ap length c.in-Some.ensures.items, length-append c.pop.new.self.items (c.in-Some.pass ∷ []))

pub loop-pass-preserved : goal.loop-pass-preserved
loop-pass-preserved g c =
    let had = c.loop-pass.invariant in
    let split = c.in-Some.ensures.items in
    let counts = ap length split in
    let added = length-append c.pop.new.self.items (c.in-Some.pass ∷ []) in
    let place : c.len-place.result ≡ length c.pop.new.self.items = omega (arith, c.len-place.ensures, c.pop.new.self.ok.0) in
    let within : c.len-place.result < length c.loop-pass.callers.items = omega (arith, place, had.room, counts, added) in
    let there = subst (λ n. slice_get c.loop-pass.callers.items n ≡ Some c.index_mut.result.now) place (stands c.loop-pass.callers.items c.len-place.result c.index_mut.result.now within c.index_mut.ensures.value) in
    let now = ap (λ n. set c.loop-pass.callers.items n c.add.new.self) place ∙ ap (λ x. set c.loop-pass.callers.items (length c.pop.new.self.items) x) c.in_ok-add.ensures in record {
      handed = ap (λ l. handed l c.pop.new.self.items) now ∙ handed-last c.loop-pass.callers.items c.pop.new.self.items c.index_mut.result.now c.in-Some.pass there ∙ ap (λ l. handed c.loop-pass.callers.items l) (sym split) ∙ had.handed;
      room = omega (arith, length-set c.loop-pass.callers.items c.len-place.result c.add.new.self, had.room, counts, added);
    }

pub returns : goal.returns
returns g c =
    let empty = none_left c.loop-pass.passes.items (λ more. absurd (false≢true (c.in_default.ensures.variant.1 (omega (arith, c.loop-pass.passes.ok.0, more))))) in
    sym (handed-none c.loop-pass.callers.items) ∙ ap (λ l. handed c.loop-pass.callers.items l) (sym empty) ∙ c.loop-pass.invariant.handed
