-- A line in pieces.
use Rattle.std.specs.Prelude.{ℕ, List, ◌++◌, codes, flat_map}
use Rattle.std.specs.Fmt.{decimal}
use Rattle.pipes_tuple.specs.Texts.{quoted}
use Rattle.pipes_error.specs.declared.piece.Piece.{Piece}
use Rattle.pipes_error.specs.declared.piece.Piece.TheVariants.{Plain, Name, Number}

abbrev pub piece_text : Piece → List ℕ
piece_text (Plain text) = text.now
piece_text (Name name) = quoted name.now
piece_text (Number number) = decimal number

abbrev pub after_space : Piece → List ℕ
after_space piece = codes " " ++ piece_text piece

-- each piece after a space
abbrev pub spaced : List Piece → List ℕ
spaced pieces = flat_map after_space pieces
