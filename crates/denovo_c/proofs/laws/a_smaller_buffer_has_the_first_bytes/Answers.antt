use Rattle.std.proofs.Common.{ap, ◌∙◌, length, take, ◌++◌}
use Rattle.std.proofs.lemmas.List.{drop_all, append-nil}
use Rattle.denovo_c.proofs.laws.a_smaller_buffer_has_the_first_bytes.Goals as goal

pub returns : goal.returns
returns c bytes buffer small =
    ap (λ rest. take (length buffer) bytes ++ rest) (drop_all (length bytes) buffer small) ∙ append-nil (take (length buffer) bytes)
