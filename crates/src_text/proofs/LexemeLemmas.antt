-- The lexemes of a line.
use Rattle.std.proofs.Common.{◌≡◌, ℕ, ◌+◌, ◌<◌, Bool, true, false, cond, List, [], ◌∷◌, ◌++◌, ◌||◌, length, get_or, drop, Option, Some, refl, sym, ◌∙◌, ap, subst, add_assoc, append_assoc}
use Rattle.std.proofs.lemmas.List.{at_drop_more}
use Rattle.std.specs.List.{list_any, filter_map, cons_option}
use Rattle.std.specs.Option.{option_map, is_none}
use Rattle.src_text.specs.Lexeme.{Lexeme, begins_token, front, lexemes_after, is_bad_number, token_kind_of, token_of}
use Rattle.src_text.specs.declared.token.Token.{Token}
use Rattle.src_text.specs.declared.token.TokenKind.{TokenKind}

any_step : {X : Type 0} (p : X → Bool) (c : Bool) (x y : X) (xs ys : List X) → p x ≡ p y → list_any p xs ≡ list_any p ys → list_any p (cond c (x ∷ []) [] ++ xs) ≡ list_any p (cond c (y ∷ []) [] ++ ys)
any_step p true x y xs ys first rest = cc
any_step p false x y xs ys first rest = rest

-- where a line begins is nothing to its numbers
pub bad_number_anywhere : (before p q : ℕ) (bs : List ℕ) → list_any is_bad_number (lexemes_after before p bs) ≡ list_any is_bad_number (lexemes_after before q bs)
bad_number_anywhere before p q [] = refl
bad_number_anywhere before p q (b ∷ bs) =
    any_step is_bad_number (begins_token before b) (record { start = p; bytes = front (b ∷ bs) }) (record { start = q; bytes = front (b ∷ bs) }) (lexemes_after b (p + 1) bs) (lexemes_after b (q + 1) bs) refl (bad_number_anywhere b (p + 1) (q + 1) bs)

-- the tokens so far, and what is left of the lexemes
pub record Scans (lexemes : List Lexeme) (out : List Token) (rest : List Lexeme) : Type 0 where
  pub tokens : out ++ filter_map token_of rest ≡ filter_map token_of lexemes
  pub bad : list_any is_bad_number rest ≡ list_any is_bad_number lexemes

-- the lexeme that begins at a byte
abbrev pub lexeme_at : ℕ → List ℕ → Lexeme
lexeme_at place bytes = record { start = place; bytes = bytes }

-- what is left at a byte
lexemes_at : (before place : ℕ) (code : List ℕ) (i : ℕ) → i < length code → lexemes_after before place (drop i code) ≡ cond (begins_token before (get_or code i 0)) (lexeme_at place (front (drop i code)) ∷ []) [] ++ lexemes_after (get_or code i 0) (place + 1) (drop (i + 1) code)
lexemes_at before place code i here =
    let step : lexemes_after before place (drop i code) ≡ cond (begins_token before (get_or code i 0)) (lexeme_at place (front (get_or code i 0 ∷ drop (i + 1) code)) ∷ []) [] ++ lexemes_after (get_or code i 0) (place + 1) (drop (i + 1) code) = at_drop_more (lexemes_after before place) code i 0 here in
    let same : front (drop i code) ≡ front (get_or code i 0 ∷ drop (i + 1) code) = at_drop_more front code i 0 here in
    step ∙ ap (λ (w : List ℕ). cond (begins_token before (get_or code i 0)) (lexeme_at place w ∷ []) [] ++ lexemes_after (get_or code i 0) (place + 1) (drop (i + 1) code)) (sym same)

push_some : (c : Bool) (x : Lexeme) (t : Token) (all : List Lexeme) (out : List Token) (rest : List Lexeme) → c ≡ true → token_of x ≡ Some t → is_bad_number x ≡ false → Scans all out (cond c (x ∷ []) [] ++ rest) → Scans all (out ++ t ∷ []) rest
push_some true x t all out rest is some good s = record {
  tokens = append_assoc out (t ∷ []) (filter_map token_of rest) ∙ ap (λ (o : Option Token). out ++ cons_option o (filter_map token_of rest)) (sym some) ∙ s.tokens;
  bad = ap (λ (b : Bool). b || list_any is_bad_number rest) (sym good) ∙ s.bad;
}
push_some false x t all out rest is some good s = cc

push_none : (c : Bool) (x : Lexeme) (all : List Lexeme) (out : List Token) (rest : List Lexeme) → c ≡ false → Scans all out (cond c (x ∷ []) [] ++ rest) → Scans all out rest
push_none true x all out rest is s = cc
push_none false x all out rest is s = s

-- a byte at which a token begins
pub scans_token : (all : List Lexeme) (out : List Token) (before start : ℕ) (code lexeme : List ℕ) (i : ℕ) (k : TokenKind) → i < length code → begins_token before (get_or code i 0) ≡ true → lexeme ≡ front (drop i code) → token_kind_of lexeme ≡ Some k → Scans all out (lexemes_after before (start + i) (drop i code)) → Scans all (out ++ record { kind = k; start = start + i; end = start + i + length lexeme } ∷ []) (lexemes_after (get_or code i 0) (start + (i + 1)) (drop (i + 1) code))
scans_token all out before start code lexeme i k here begun is kind s =
    let b = get_or code i 0 in
    let at = subst (Scans all out) (lexemes_at before (start + i) code i here) s in
    let at' = subst (λ (w : List ℕ). Scans all out (cond (begins_token before b) (lexeme_at (start + i) w ∷ []) [] ++ lexemes_after b (start + i + 1) (drop (i + 1) code))) (sym is) at in
    let some : token_of (lexeme_at (start + i) lexeme) ≡ Some (record { kind = k; start = start + i; end = start + i + length lexeme }) = ap (option_map (λ (q : TokenKind). record { kind = q; start = start + i; end = start + i + length lexeme })) kind in
    let good : is_bad_number (lexeme_at (start + i) lexeme) ≡ false = ap is_none kind in
    let next = push_some (begins_token before b) (lexeme_at (start + i) lexeme) _ all out _ begun some good at' in
    subst (λ (p : ℕ). Scans all (out ++ record { kind = k; start = start + i; end = start + i + length lexeme } ∷ []) (lexemes_after b p (drop (i + 1) code))) (add_assoc start i 1) next

-- a byte at which none does
pub scans_none : (all : List Lexeme) (out : List Token) (before start : ℕ) (code : List ℕ) (i : ℕ) → i < length code → begins_token before (get_or code i 0) ≡ false → Scans all out (lexemes_after before (start + i) (drop i code)) → Scans all out (lexemes_after (get_or code i 0) (start + (i + 1)) (drop (i + 1) code))
scans_none all out before start code i here goes_on s =
    let b = get_or code i 0 in
    let at = subst (Scans all out) (lexemes_at before (start + i) code i here) s in
    let next = push_none (begins_token before b) _ all out _ goes_on at in
    subst (λ (p : ℕ). Scans all out (lexemes_after b p (drop (i + 1) code))) (add_assoc start i 1) next
