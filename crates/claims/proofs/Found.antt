-- What was found of a claim's lines on loads.
use Rattle.std.proofs.Common.{◌≡◌, ◌≢◌, ℕ, List, [], ◌∷◌, ◌++◌, codes, Some, None}
use Rattle.text_pieces.specs.Field.{field, IsFrom, Stands, NoneStands}
use Rattle.claims.specs.Claim.{IsLoadsHead, loads_head_row}

pub some-none : (bytes rest : List ℕ) → bytes ≡ codes "loads none\n" ++ rest → Stands IsLoadsHead loads_head_row bytes None rest
unfolding loads_head_row
some-none bytes rest is = record { fits = tt; parts = is }

pub some-count : (bytes : List ℕ) (count : ℕ) (rest : List ℕ) → Stands (IsFrom 0 4294967295) (field (codes "loads ") (10 ∷ [])) bytes count rest
    → Stands IsLoadsHead loads_head_row bytes (Some count) rest
unfolding loads_head_row
some-count bytes count rest st = record { fits = st.fits; parts = st.parts }

pub none-head : (bytes : List ℕ) → ((rest : List ℕ) → bytes ≢ codes "loads none\n" ++ rest) → NoneStands (IsFrom 0 4294967295) (field (codes "loads ") (10 ∷ [])) bytes
    → NoneStands IsLoadsHead loads_head_row bytes
unfolding loads_head_row
none-head bytes none count None rest st = none rest st.parts
none-head bytes none count (Some n) rest st = count n rest (record { fits = st.fits; parts = st.parts })
