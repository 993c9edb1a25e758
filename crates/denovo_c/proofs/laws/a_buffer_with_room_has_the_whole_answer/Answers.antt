use Rattle.std.proofs.Common.{ap, ◌∙◌, length, take, drop, ◌++◌, refl}
use Rattle.std.proofs.lemmas.List.{take_all, take_at}
use Rattle.denovo_c.proofs.laws.a_buffer_with_room_has_the_whole_answer.Goals as goal

pub returns : goal.returns
returns c bytes buffer fits =
    ap (λ front. take (length bytes) (front ++ drop (length bytes) buffer)) (take_all (length buffer) bytes fits) ∙ take_at bytes _ (length bytes) refl
