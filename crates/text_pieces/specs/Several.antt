-- A text of several pieces, one after the other.
use Rattle.std.specs.Prelude.{ℕ, List, flat_map}
use Rattle.std.specs.Fmt.{decimal}
use Rattle.text_pieces.specs.declared.several.Piece.{Piece}
use Rattle.text_pieces.specs.declared.several.Piece.TheVariants as piece

abbrev pub piece_text : Piece → List ℕ
piece_text (piece.Bytes bytes) = bytes.now
piece_text (piece.Number number) = decimal number
piece_text (piece.Long number) = decimal number

abbrev pub pieces_text : List Piece → List ℕ
pieces_text pieces = flat_map piece_text pieces
