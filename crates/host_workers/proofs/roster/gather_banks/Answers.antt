use Rattle.std.proofs.Common.{◌≡◌, ◌+◌, ◌-◌, ◌<◌, ◌%◌, ◌++◌, length, slice_get, slice_set, Some, option_to_list, refl, sym, ap, ◌∙◌, subst, arith}
use Rattle.std.proofs.lemmas.Option.{slice_get_read}
use Rattle.run_agreement.proofs.Places.{set-length}
use Rattle.host_workers.specs.declared.crew.Crew.{Crew}
use Rattle.host_workers.proofs.Dealing.{BanksBack, banks-begun, banks-ended, bank-waits, bank-gathered}
use Rattle.host_workers.proofs.roster.gather_banks.Goals as goal

pub loop-done-init : goal.loop-done-init
loop-done-init c = record {
  count = refl;
  gathered = λ roster others is are. banks-begun (length c.args.crews.now.items) (c.args.count - 0) roster c.args.crews.now.items c.new-banks.result.items (omega (arith, is.bank_count)) c.new-banks.ensures.items are;
}

pub unwrap-owned-requires : goal.unwrap-owned-requires
unwrap-owned-requires c =
    let workers = length c.args.crews.now.items in
    let given = c.requires.dealt in
    let n = c.args.count - 1 - c.loop-done.done in
    let was = c.index_mut.result.now in
    let same : workers ≡ c.len.result = omega arith in
    let within : n % c.len.result < length c.loop-done.crews.items = omega arith in
    let there : slice_get c.loop-done.crews.items (n % c.len.result) ≡ Some was = slice_get_read c.loop-done.crews.items (length c.loop-done.crews.items) (n % c.len.result) was refl within c.index_mut.ensures.value in
    let before : c.args.count - c.loop-done.done ≡ n + 1 = omega arith in
    let back = subst (λ m. BanksBack workers given.1.0 c.loop-done.crews.items c.loop-done.banks.items m) before (c.loop-done.invariant.gathered given.1.0 given.0 given.1.1 given.1.2) in
    let some : 0 < length was.banks.items = bank-waits c.args.count given.0 workers n (n % c.len.result) given.1.0 c.loop-done.crews.items was c.loop-done.banks.items given.1.1 (omega arith) (ap (λ m. n % m) same) there back in
    c.pop.ensures.variant.1 (omega (arith, some))

pub loop-done-preserved : goal.loop-done-preserved
loop-done-preserved c =
    let had = c.loop-done.invariant in
    let workers = length c.args.crews.now.items in
    let n = c.args.count - 1 - c.loop-done.done in
    let was = c.index_mut.result.now in
    let same : workers ≡ c.len.result = omega arith in
    let within : n % c.len.result < length c.loop-done.crews.items = omega arith in
    let there : slice_get c.loop-done.crews.items (n % c.len.result) ≡ Some was = slice_get_read c.loop-done.crews.items (length c.loop-done.crews.items) (n % c.len.result) was refl within c.index_mut.ensures.value in
    let now : Crew = record was { banks = c.pop.new.self } in
    let before : c.args.count - c.loop-done.done ≡ n + 1 = omega arith in
    let after : c.args.count - (c.loop-done.done + 1) ≡ n = omega arith in
    let pops = c.pop.ensures.items ∙ ap (λ o. c.pop.new.self.items ++ option_to_list o) c.unwrap-owned.ensures in
    record {
      count = set-length c.loop-done.crews.items (n % c.len.result) now ∙ had.count;
      gathered = λ roster others is are.
          let back = subst (λ m. BanksBack workers roster c.loop-done.crews.items c.loop-done.banks.items m) before (had.gathered roster others is are) in
          let one = bank-gathered c.args.count others workers n (n % c.len.result) roster c.loop-done.crews.items was now c.loop-done.banks.items c.unwrap-owned.result is (omega arith) (ap (λ m. n % m) same) there pops refl refl refl back in
          subst (λ m. BanksBack workers roster (slice_set c.loop-done.crews.items (n % c.len.result) now) c.push.new.self.items m) (sym after)
          (subst (λ l. BanksBack workers roster (slice_set c.loop-done.crews.items (n % c.len.result) now) l n) (sym c.in_ok-push.ensures.items) one);
    }

pub returns-clause-gathered : goal.returns-clause-gathered
returns-clause-gathered c = λ roster others is are.
    let all = banks-ended (length c.args.crews.now.items) (c.args.count - c.loop-done.done) roster c.loop-done.crews.items c.loop-done.banks.items (omega arith) (c.loop-done.invariant.gathered roster others is are) in
    (c.reverse.ensures.items ∙ all.0, all.1)
