use Rattle.std.proofs.Common.{[], ◌∷◌, ◌++◌, map, sym, ap, ◌∙◌, arith}
use Rattle.std.proofs.lemmas.List.{map-append}
use Rattle.std.proofs.lemmas.List.FromFn.{map-range_with_len_more}
use Rattle.host_workers.proofs.inboxes.empty_inboxes.Goals as goal

pub loop-place-preserved : goal.loop-place-preserved
loop-place-preserved c =
    ap (map (λ v. v.items)) c.in_ok-push.ensures.items
    ∙ map-append (λ v. v.items) c.loop-place.inboxes.items (c.new.result ∷ [])
    ∙ ap (λ l. map (λ v. v.items) c.loop-place.inboxes.items ++ l ∷ []) c.new.ensures.items
    ∙ ap (λ l. l ++ [] ∷ []) c.loop-place.invariant
    ∙ sym (map-range_with_len_more (λ i. []) 0 c.loop-place._place c.loop-place._place (omega arith))
