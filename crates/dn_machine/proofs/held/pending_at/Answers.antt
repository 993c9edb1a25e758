use Rattle.std.proofs.Common.{◌≡◌, ℕ, true, false, List, Option, Some, None, refl, arith, rules}
use Rattle.word_cache.specs.declared.row.Entry.{Entry}
use Rattle.word_cache.specs.declared.row.Entry.TheVariants.{Valid, Registered, Leaving}
use Rattle.word_cache.specs.Cache.{Pair, lookup, pending_count, pending_bit}
use Rattle.word_cache.proofs.WeightLemmas.{pending-most}
use Rattle.machine_rules.specs.Memory.{pending_value}
use Rattle.dn_machine.proofs.held.pending_at.Goals as goal

-- where no entry is pending, that of the word isn't
none-pending : (ps : List Pair) (w : ℕ) → pending_count ps ≡ 0 → None ≡ pending_value (lookup w ps)
none-pending ps w none = by_entry (lookup w ps) refl where
  by_entry : (o : Option Entry) → lookup w ps ≡ o → None ≡ pending_value o
  by_entry None is = refl
  by_entry (Some (Valid value marked)) is = refl
  by_entry (Some (Registered value false)) is = refl
  by_entry (Some (Registered value true)) is =
      let one : pending_bit (lookup w ps) ≡ 1 = rw is refl in
      absurd (omega (arith, pending-most w ps, one, none))
  by_entry (Some (Leaving value)) is = refl

pub returns-then-pending-eq0 : goal.returns-then-pending-eq0
returns-then-pending-eq0 c =
    let none : pending_count c.args.node.now.cache.pairs ≡ 0 = search rules in
    none-pending c.args.node.now.cache.pairs c.args.word.0 none
