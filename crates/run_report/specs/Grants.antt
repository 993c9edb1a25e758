-- The grants of locks, as they are printed.
use Rattle.std.specs.Prelude.{ℕ, List, ◌++◌, codes, flat_map}
use Rattle.std.specs.Fmt.{decimal}
use Rattle.dn_base.specs.declared.ids.Grant.{Grant}
use Rattle.text_pieces.specs.Pieces.{newline, space}

-- the phase, the core and the lock
unfoldable pub grant_line : Grant → List ℕ
grant_line g =
    codes "grant " ++ decimal g.phase.0 ++ space ++ decimal g.core.0 ++ space ++ decimal g.lock.0 ++ newline

-- one line a grant, in their order
unfoldable pub grant_lines : List Grant → List ℕ
grant_lines grants = flat_map grant_line grants
