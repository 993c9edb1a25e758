-- The names of the 32 registers, by the RISC-V manual's numbers and by its calling convention (ABI).
use Rattle.std.specs.Prelude.{ℕ, List, [], ◌∷◌, Option, option_map, find, codes, bytes_eq}

pub record Register : Type 0 where
  pub name : List ℕ
  pub number : ℕ

abbrev pub register_row : List ℕ → ℕ → Register
register_row name number = record { name = name; number = number }

unfoldable pub register_rows : List Register
register_rows =
    register_row (codes "x0") 0
    ∷ register_row (codes "x1") 1
    ∷ register_row (codes "x2") 2
    ∷ register_row (codes "x3") 3
    ∷ register_row (codes "x4") 4
    ∷ register_row (codes "x5") 5
    ∷ register_row (codes "x6") 6
    ∷ register_row (codes "x7") 7
    ∷ register_row (codes "x8") 8
    ∷ register_row (codes "x9") 9
    ∷ register_row (codes "x10") 10
    ∷ register_row (codes "x11") 11
    ∷ register_row (codes "x12") 12
    ∷ register_row (codes "x13") 13
    ∷ register_row (codes "x14") 14
    ∷ register_row (codes "x15") 15
    ∷ register_row (codes "x16") 16
    ∷ register_row (codes "x17") 17
    ∷ register_row (codes "x18") 18
    ∷ register_row (codes "x19") 19
    ∷ register_row (codes "x20") 20
    ∷ register_row (codes "x21") 21
    ∷ register_row (codes "x22") 22
    ∷ register_row (codes "x23") 23
    ∷ register_row (codes "x24") 24
    ∷ register_row (codes "x25") 25
    ∷ register_row (codes "x26") 26
    ∷ register_row (codes "x27") 27
    ∷ register_row (codes "x28") 28
    ∷ register_row (codes "x29") 29
    ∷ register_row (codes "x30") 30
    ∷ register_row (codes "x31") 31
    ∷ register_row (codes "zero") 0
    ∷ register_row (codes "ra") 1
    ∷ register_row (codes "sp") 2
    ∷ register_row (codes "gp") 3
    ∷ register_row (codes "tp") 4
    ∷ register_row (codes "t0") 5
    ∷ register_row (codes "t1") 6
    ∷ register_row (codes "t2") 7
    ∷ register_row (codes "s0") 8
    ∷ register_row (codes "fp") 8
    ∷ register_row (codes "s1") 9
    ∷ register_row (codes "a0") 10
    ∷ register_row (codes "a1") 11
    ∷ register_row (codes "a2") 12
    ∷ register_row (codes "a3") 13
    ∷ register_row (codes "a4") 14
    ∷ register_row (codes "a5") 15
    ∷ register_row (codes "a6") 16
    ∷ register_row (codes "a7") 17
    ∷ register_row (codes "s2") 18
    ∷ register_row (codes "s3") 19
    ∷ register_row (codes "s4") 20
    ∷ register_row (codes "s5") 21
    ∷ register_row (codes "s6") 22
    ∷ register_row (codes "s7") 23
    ∷ register_row (codes "s8") 24
    ∷ register_row (codes "s9") 25
    ∷ register_row (codes "s10") 26
    ∷ register_row (codes "s11") 27
    ∷ register_row (codes "t3") 28
    ∷ register_row (codes "t4") 29
    ∷ register_row (codes "t5") 30
    ∷ register_row (codes "t6") 31
    ∷ []

-- the number of the first register of this name, if there is one
abbrev pub register_number_in : List Register → List ℕ → Option ℕ
register_number_in rows name = option_map (λ r. r.number) (find (λ r. bytes_eq r.name name) rows)

abbrev pub register_of : List ℕ → Option ℕ
register_of name = register_number_in register_rows name
