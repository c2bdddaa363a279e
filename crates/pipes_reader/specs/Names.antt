-- Names that are declared: words that are no keywords, each once.
use Rattle.std.specs.Prelude.{◌≡◌, ℕ, Bool, false, List, [], ◌∷◌, ◌++◌}
use Rattle.std.specs.List.{list_any}
use Rattle.std.specs.Str.{bytes_eq}
use Rattle.pipes_token.specs.Spelling.{IsShortWord, IsKeyword}

-- a word of at most 64 bytes that is no keyword
abbrev pub IsSourceName : List ℕ → Type 0
IsSourceName name = IsShortWord name × ¬ (IsKeyword name)

-- the word is one of the names
abbrev pub is_taken : List (List ℕ) → List ℕ → Bool
is_taken names word = list_any (bytes_eq word) names

-- each name is another than those taken and than those before it
abbrev pub AreNew : List (List ℕ) → List (List ℕ) → Type 0
AreNew taken [] = Unit {0}
AreNew taken (name ∷ names) = (is_taken taken name ≡ false) × AreNew (taken ++ (name ∷ [])) names
