-- The words of a block, by steps of one byte.
use Rattle.std.proofs.Common.{◌≡◌, ◌≢◌, ℕ, ◌+◌, ◌<◌, ◌≤◌, List, [], ◌∷◌, ◌++◌, length, drop, slice_index, refl, sym, ap, ◌∙◌, append_assoc}
use Rattle.std.proofs.lemmas.List.{drop_more, drop_all, append-nil}
use Rattle.std.proofs.lemmas.Bool.{ne_eqb}
use Rattle.std.specs.Str.Lossy.{utf8_lossy}
use Rattle.denovo_c.specs.Words.{block_words_from}

-- a zero byte ends the word
ended : (begun rest : List ℕ) (byte : ℕ) → byte ≡ 0 → block_words_from begun (byte ∷ rest) ≡ utf8_lossy begun ∷ block_words_from [] rest
unfolding block_words_from
ended begun rest byte is = rw is refl

-- any other byte is one more of the word
goes_on : (begun rest : List ℕ) (byte : ℕ) → byte ≢ 0 → block_words_from begun (byte ∷ rest) ≡ block_words_from (begun ++ byte ∷ []) rest
unfolding block_words_from
goes_on begun rest byte is = rw (ne_eqb byte 0 is) refl

pub word_ended : (words : List (List ℕ)) (begun block : List ℕ) (i : ℕ) → i < length block → slice_index block i ≡ 0
    → words ++ block_words_from begun (drop i block) ≡ (words ++ utf8_lossy begun ∷ []) ++ block_words_from [] (drop (i + 1) block)
word_ended words begun block i low is =
    ap (λ x. words ++ block_words_from begun x) (drop_more block i 0 low)
    ∙ ap (λ x. words ++ x) (ended begun (drop (i + 1) block) (slice_index block i) is)
    ∙ sym (append_assoc words (utf8_lossy begun ∷ []) (block_words_from [] (drop (i + 1) block)))

pub word_goes_on : (words : List (List ℕ)) (begun block : List ℕ) (i : ℕ) → i < length block → slice_index block i ≢ 0
    → words ++ block_words_from begun (drop i block) ≡ words ++ block_words_from (begun ++ slice_index block i ∷ []) (drop (i + 1) block)
word_goes_on words begun block i low is =
    ap (λ x. words ++ block_words_from begun x) (drop_more block i 0 low)
    ∙ ap (λ x. words ++ x) (goes_on begun (drop (i + 1) block) (slice_index block i) is)

pub last_word : (words : List (List ℕ)) (begun : List ℕ) → length begun ≢ 0 → words ++ block_words_from begun [] ≡ words ++ utf8_lossy begun ∷ []
unfolding block_words_from
last_word words begun is = rw (ne_eqb (length begun) 0 is) refl

pub no_last : (words : List (List ℕ)) (begun : List ℕ) → length begun ≡ 0 → words ++ block_words_from begun [] ≡ words
unfolding block_words_from
no_last words begun is = rw is (append-nil words)

-- past the block's end nothing is left
pub at_end : (words : List (List ℕ)) (begun block : List ℕ) (i : ℕ) → length block ≤ i → words ++ block_words_from begun [] ≡ words ++ block_words_from begun (drop i block)
at_end words begun block i past = ap (λ x. words ++ block_words_from begun x) (sym (drop_all i block past))
