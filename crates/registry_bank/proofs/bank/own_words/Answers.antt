use Rattle.std.proofs.Common.{◌≡◌, ℕ, ◌+◌, ◌*◌, ◌<◌, ◌≤◌, Some, ap, arith, get_or, length, map, slice_get, refl}
use Rattle.std.proofs.lemmas.Option.{slice_get-get_or, slice_get_past}
use Rattle.registry_bank.specs.declared.bank.BankWord.TheVariants.{Home}
use Rattle.registry_bank.specs.Bank.{first_word, own_of}
use Rattle.registry_bank.proofs.Strides.{strided-push, strided-next}
use Rattle.registry_bank.proofs.Opened.{strided-same, opened-words}
use Rattle.registry_bank.proofs.bank.own_words.Goals as goal

pub loop-next-preserved : goal.loop-next-preserved
loop-next-preserved c =
    let items = c.in_ok-push.ensures.items in
    let within : c.loop-next.next < length c.args.memory.now = omega (arith, c.loop-next-test.true) in
    let at : slice_get c.args.memory.now c.loop-next.next ≡ Some (get_or c.args.memory.now c.loop-next.next 0) = slice_get-get_or c.args.memory.now c.loop-next.next 0 within in
    let here : first_word (slice_get c.args.memory.now (c.args.bank + c.args.banks * length c.loop-next.words.items)) ≡ Some (Home (get_or c.args.memory.now c.loop-next.next 0)) = rw (← c.loop-next.invariant.next, at) refl in
    rw items record {
      strided = strided-push (λ (n : ℕ). first_word (slice_get c.args.memory.now n)) c.args.bank c.args.banks c.loop-next.words.items (Home (get_or c.args.memory.now c.loop-next.next 0)) c.loop-next.invariant.strided here;
      next = strided-next c.args.bank c.args.banks c.loop-next.next c.loop-next.words.items (Home (get_or c.args.memory.now c.loop-next.next 0)) c.loop-next.invariant.next;
    }

pub returns : goal.returns
returns c =
    let whole : length c.args.memory.now ≤ c.args.bank + c.args.banks * length c.loop-next.words.items = omega (arith, c.loop-next.invariant.next, c.loop-next-test.false) in
    strided-same (λ (n : ℕ). first_word (slice_get c.args.memory.now n)) c.args.bank c.args.banks (length c.args.memory.now) c.loop-next.words.items
    (map (λ (value : ℕ). Home value) (own_of c.args.bank c.args.banks 0 c.args.memory.now)) c.loop-next.invariant.strided whole
    (λ n past. ap first_word (slice_get_past c.args.memory.now n past))
    (λ k. opened-words c.args.bank c.args.banks c.args.memory.now k c.requires.bank)
