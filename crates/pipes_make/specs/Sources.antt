-- The texts of the two sources.
use Rattle.std.specs.Prelude.{ℕ, List, [], ◌++◌, flat_map, if◌then◌else◌, codes}
use Rattle.std.specs.Fmt.{decimal}
use Rattle.pipes_make.specs.Draws.{Row}

abbrev pub header : List ℕ
header = codes "at,item,price\n"

abbrev pub row_line : Row → List ℕ
row_line row = decimal row.stamp ++ codes "," ++ decimal row.item ++ codes ","
    ++ decimal row.price ++ codes "\n"

abbrev pub bid_line : Row → List ℕ
bid_line row = if row.is_ask then [] else row_line row

abbrev pub ask_line : Row → List ℕ
ask_line row = if row.is_ask then row_line row else []

abbrev pub bids_text : List Row → List ℕ
bids_text rows = header ++ flat_map bid_line rows

abbrev pub asks_text : List Row → List ℕ
asks_text rows = header ++ flat_map ask_line rows
