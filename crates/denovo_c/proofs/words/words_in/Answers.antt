use Rattle.std.proofs.Common.{length, map, string_bytes, [], ◌∷◌, sym, ◌∙◌, ap}
use Rattle.std.proofs.lemmas.Bool.{eqb-false, eqb-true}
use Rattle.std.proofs.lemmas.List.{map-append}
use Rattle.denovo_c.proofs.Blocks.{word_ended, word_goes_on, last_word, no_last, at_end}
use Rattle.denovo_c.proofs.words.words_in.Goals.{then-byte-eq0+in_ok-from_utf8_lossy+in_ok-push, else-byte-eq0+in_ok-push-2, then-not-is_empty+in_ok-from_utf8_lossy-2+in_ok-push-3, else-not-is_empty}
use Rattle.denovo_c.proofs.words.words_in.Goals as goal

pub loop-byte-preserved : goal.loop-byte-preserved
loop-byte-preserved c =
    elim c.if-byte-eq0.branch [
      | then-byte-eq0+in_ok-from_utf8_lossy+in_ok-push w ↦
          rw (w.words-is, w.begun-is) (rw (w.in_ok-push.ensures.items, w.clear.ensures.items, map-append string_bytes c.loop-byte.words.items (w.in_ok-from_utf8_lossy.field-0 ∷ []), w.in_ok-from_utf8_lossy.ensures.lossy, w.as_slice.ensures.value)
          (sym (word_ended (map string_bytes c.loop-byte.words.items) c.loop-byte.begun.items c.args.block.now c.loop-byte.byte-index c.loop-byte-test.true w.if-byte-eq0.true) ∙ c.loop-byte.invariant))
      | else-byte-eq0+in_ok-push-2 w ↦
          rw (w.words-is, w.begun-is) (rw w.in_ok-push-2.ensures.items
          (sym (word_goes_on (map string_bytes c.loop-byte.words.items) c.loop-byte.begun.items c.args.block.now c.loop-byte.byte-index c.loop-byte-test.true w.if-byte-eq0.false) ∙ c.loop-byte.invariant))
    ]

pub returns : goal.returns
returns c =
    elim c.if-not-is_empty.branch [
      | then-not-is_empty+in_ok-from_utf8_lossy-2+in_ok-push-3 w ↦
          rw w.words-is (rw (w.in_ok-push-3.ensures.items, map-append string_bytes c.loop-byte.words.items (w.in_ok-from_utf8_lossy-2.field-0 ∷ []), w.in_ok-from_utf8_lossy-2.ensures.lossy, c.as_slice-last.ensures.value)
          (sym (last_word (map string_bytes c.loop-byte.words.items) c.loop-byte.begun.items (λ none. eqb-false (length c.as_slice-last.result.now) 0 (sym c.is_empty.ensures ∙ w.if-not-is_empty.true) (ap length c.as_slice-last.ensures.value ∙ none))) ∙ at_end _ _ _ _ c.loop-byte-test.false ∙ c.loop-byte.invariant))
      | else-not-is_empty w ↦
          rw w.words-is (sym (no_last (map string_bytes c.loop-byte.words.items) c.loop-byte.begun.items (ap length (sym c.as_slice-last.ensures.value) ∙ eqb-true (length c.as_slice-last.result.now) 0 (sym c.is_empty.ensures ∙ w.if-not-is_empty.false))) ∙ at_end _ _ _ _ c.loop-byte-test.false ∙ c.loop-byte.invariant)
    ]
