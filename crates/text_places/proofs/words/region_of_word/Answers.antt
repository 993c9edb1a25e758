use Rattle.std.proofs.Common.{rules, leb, length, sym, ap, ◌∙◌, List, arith}
use Rattle.std.proofs.lemmas.Bool.{leb-true, leb-false}
use Rattle.std.proofs.lemmas.List.Sorted.{IsPartitionPoint-from_clause, IsPartitionedBy-leb}
use Rattle.region_table.specs.declared.declared.Region.{Region}
use Rattle.region_table.specs.Program.{AreTiled, ProgramParts}
use Rattle.text_places.specs.Words.{word_place}
use Rattle.text_places.proofs.SearchLemmas.{found-is, starts_rise}
use Rattle.text_places.proofs.words.region_of_word.Goals as goal

-- the regions that begin at or before the word stand in front of the others
pub returns : goal.returns
returns c =
    let w = c.args.word in
    let xs = c.as_slice-regions.result.now in
    let tiled : AreTiled 0 xs (length c.program.inside.memory) = rw c.as_slice-regions.ensures c.program.invariant.tiled in
    let many = c.partition_point-many.result in
    let point = IsPartitionPoint-from_clause (λ (r : Region). leb r.start w) xs many c.partition_point-many.ensures.partitioned (IsPartitionedBy-leb (λ (r : Region). r.start) xs w (starts_rise 0 xs _ tiled)) (λ a r q k. search rules) in
    c.place_before.ensures
    ∙ sym (found-is 0 0 xs _ w many tiled c.partition_point-many.ensures.bound (λ k d h. leb-true _ w (point.0 k d (omega arith) h)) (λ k d l h. leb-false _ w (point.1 k d l h)))
    ∙ ap (λ (rs : List Region). word_place rs w) c.as_slice-regions.ensures ∙ ap (λ (p : ProgramParts). word_place p.regions w) c.program.view_is
