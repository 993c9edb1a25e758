use Rattle.std.proofs.Common.{◌+◌, ◌*◌, ◌%◌, drop, sym, ap, ◌∙◌, arith}
use Rattle.std.proofs.lemmas.List.{drop_more}
use Rattle.rv_assembler.specs.Lookup.{hash_after}
use Rattle.rv_assembler.proofs.names.hash.Goals as goal

pub loop-byte-preserved : goal.loop-byte-preserved
loop-byte-preserved c =
    let name = c.args.name.now in
    let h = c.loop-byte.hash in (
      omega arith,
      ap (λ b. hash_after ((h * 31 + b) % 4294967296) (drop (c.loop-byte.byte-index + 1) name)) c.from.ensures
          ∙ ap (hash_after h) (sym (drop_more name c.loop-byte.byte-index 0 c.loop-byte-test.true))
          ∙ c.loop-byte.invariant.1,
    )
