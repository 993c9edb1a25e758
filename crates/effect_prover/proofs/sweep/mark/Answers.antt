use Rattle.std.proofs.Common.{◌≡◌, ℕ, ◌<◌, Option, Some, sym, ap, ◌∙◌, arith}
use Rattle.std.proofs.lemmas.Option.{none-some, same_Some}
use Rattle.rv_isa.specs.declared.instr.Instr.{Instr}
use Rattle.effect_prover.specs.Table.{address_at, target_of}
use Rattle.effect_prover.proofs.TableLemmas.{mark-skip, mark-skip_at, mark-one}
use Rattle.effect_prover.proofs.sweep.mark.Goals as goal

same_address : (a b : ℕ) → a ≡ b → ◌≡◌ {A = Option ℕ} (Some a) (Some b)
same_address a b e = ap Some e

aimed : (n : ℕ) (instr : Instr) (pc : ℕ) (o : Option ℕ) (a : ℕ) → pc ≡ address_at n → o ≡ target_of pc instr → o ≡ Some a → target_of (address_at n) instr ≡ Some a
aimed n instr pc o a at' is e = ap (λ (k : ℕ). target_of k instr) (sym at') ∙ sym is ∙ e

pub address-requires : goal.address-requires
address-requires c = let w = c.requires.within in let b = c.requires.program.code in omega arith

pub returns-in_default-clause-marked : goal.returns-in_default-clause-marked
returns-in_default-clause-marked c =
    mark-skip c.args.program.now.code c.args.place c.args.heads.now
    (λ instr i there l e aims. none-some instr (sym c.in_default.is ∙ c.instr_at.ensures.value ∙ there)) c.requires.marked

pub returns-in_default-target-clause-marked : goal.returns-in_default-target-clause-marked
returns-in_default-target-clause-marked c =
    mark-skip_at c.args.program.now.code c.args.place c.args.heads.now c.in-Some.instr c.address.result c.target.result (sym c.instr_at.ensures.value ∙ c.in-Some.is) c.address.ensures c.target.ensures
    (λ i l e aim. none-some (address_at i) (sym c.in_default-target.is ∙ aim)) c.requires.marked

pub returns-in_default-place_of-clause-marked : goal.returns-in_default-place_of-clause-marked
returns-in_default-place_of-clause-marked c =
    mark-skip_at c.args.program.now.code c.args.place c.args.heads.now c.in-Some.instr c.address.result c.target.result (sym c.instr_at.ensures.value ∙ c.in-Some.is) c.address.ensures c.target.ensures
    (λ i l e aim.
    c.in_default-place_of.ensures.none i (let w = c.requires.words in omega arith) (same_Some c.in-Some-target.aim (address_at i) (sym c.in-Some-target.is ∙ aim)))
    c.requires.marked

pub returns-else-head-place-clause-marked : goal.returns-else-head-place-clause-marked
returns-else-head-place-clause-marked c =
    let late : c.args.place < c.in-Some-place_of.head = c.if-head-place.false in
    mark-skip_at c.args.program.now.code c.args.place c.args.heads.now c.in-Some.instr c.address.result c.target.result (sym c.instr_at.ensures.value ∙ c.in-Some.is) c.address.ensures c.target.ensures
    (λ i l e aim.
    let same : address_at c.in-Some-place_of.head ≡ address_at i =
    sym c.in-Some-place_of.ensures.some.1 ∙ same_Some c.in-Some-target.aim (address_at i) (sym c.in-Some-target.is ∙ aim) in
    omega arith)
    c.requires.marked

pub returns-then-head-place-clause-marked : goal.returns-then-head-place-clause-marked
returns-then-head-place-clause-marked c =
    let aim : c.target.result ≡ Some (address_at c.in-Some-place_of.head) = c.in-Some-target.is ∙ same_address c.in-Some-target.aim (address_at c.in-Some-place_of.head) c.in-Some-place_of.ensures.some.1 in
    mark-one c.args.program.now.code c.args.place c.in-Some-place_of.head c.args.heads.now c.in-Some.instr c.requires.words (sym c.instr_at.ensures.value ∙ c.in-Some.is)
    (aimed c.args.place c.in-Some.instr c.address.result c.target.result (address_at c.in-Some-place_of.head) c.address.ensures c.target.ensures aim)
    c.if-head-place.true (let w = c.requires.words in let l = c.in-Some-place_of.ensures.some.0 in omega arith) c.requires.marked
