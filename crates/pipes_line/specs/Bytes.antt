-- The bytes of a line.
use Rattle.std.specs.Prelude.{◌≡◌, ◌<◌, ℕ, List, Bool, true, not, ◌==◌, ◌&&◌, ◌-◌, length, take}
use Rattle.std.specs.Prelude.{drop, get_or, Option, Some, None}
use Rattle.std.specs.List.{list_all}
use Rattle.pipes_line.specs.declared.part.Part.{Part}

-- the bytes of a text in a part of it
abbrev pub bytes_in : List ℕ → Part → List ℕ
bytes_in text part = take (part.to - part.from) (drop part.from text)

-- a byte that ends neither a field nor a record where none is quoted
abbrev pub is_inner : ℕ → Bool
is_inner byte = not (byte == 44) && not (byte == 13) && not (byte == 10)

-- a byte that is no quote
abbrev pub is_no_quote : ℕ → Bool
is_no_quote byte = not (byte == 34)

-- a byte that is no line feed
abbrev pub is_no_feed : ℕ → Bool
is_no_feed byte = not (byte == 10)

-- no byte is a line feed
abbrev pub has_no_feed : List ℕ → Bool
has_no_feed bytes = list_all is_no_feed bytes

-- the first quote stands at this place
pub record QuoteAt (bytes : List ℕ) (i : ℕ) : Type 0 where
  pub within : i < length bytes
  pub before : list_all is_no_quote (take i bytes) ≡ true
  pub here : get_or bytes i 0 ≡ 34

-- the first line feed stands at this place
pub record FeedAt (bytes : List ℕ) (i : ℕ) : Type 0 where
  pub within : i < length bytes
  pub before : has_no_feed (take i bytes) ≡ true
  pub here : get_or bytes i 0 ≡ 10

-- the place of the first line feed, or none where there is none
abbrev pub FindsFeed : List ℕ → Option ℕ → Type 0
FindsFeed bytes None = has_no_feed bytes ≡ true
FindsFeed bytes (Some i) = FeedAt bytes i
