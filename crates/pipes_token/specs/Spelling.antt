-- How tokens are spelled.
use Rattle.std.specs.Prelude.{◌≡◌, ℕ, ◌-◌, ◌^◌, ◌<◌, ◌≤◌, min, Bool, true, false, ◌||◌, ◌&&◌, ◌==◌}
use Rattle.std.specs.Prelude.{List, [], ◌∷◌, ◌++◌, length, codes, ◌⊎◌}
use Rattle.std.specs.Char.{is_ascii_lowercase, is_ascii_digit}
use Rattle.std.specs.List.{list_all}
use Rattle.std.specs.Str.Parse.{digits_value}
use Rattle.pipes_tuple.specs.Reading.{is_numeral}
use Rattle.pipes_token.specs.declared.keyword.Keyword.{Keyword as AKeyword}
use Rattle.pipes_token.specs.declared.token.Sign.{Sign as ASign}
use Rattle.pipes_token.specs.declared.token.Sign.TheVariants.{Open, Close, OpenList, CloseList}
use Rattle.pipes_token.specs.declared.token.Sign.TheVariants.{Comma, Dollar, Point, Equal, Less}
use Rattle.pipes_token.specs.declared.token.Sign.TheVariants.{AtMost, Plus, Minus, Star}
use Rattle.pipes_token.specs.declared.token.TokenKind.{TokenKind}
use Rattle.pipes_token.specs.declared.token.TokenKind.TheVariants.{Sign, Keyword, Name, Number}
use Rattle.pipes_token.specs.declared.token.TokenKind.TheVariants.{Text, Long, Cut, Byte, End}
use Rattle.pipes_token.specs.Keywords.{keyword_text}
use Rattle.pipes_token.specs.Strings.{IsString}

abbrev pub sign_text : ASign → List ℕ
sign_text Open = codes "("
sign_text Close = codes ")"
sign_text OpenList = codes "["
sign_text CloseList = codes "]"
sign_text Comma = codes ","
sign_text Dollar = codes "$"
sign_text Point = codes "."
sign_text Equal = codes "="
sign_text Less = codes "<"
sign_text AtMost = codes "<="
sign_text Plus = codes "+"
sign_text Minus = codes "-"
sign_text Star = codes "*"

-- a letter `a` to `z`, a digit or `_`
abbrev pub is_word_byte : ℕ → Bool
is_word_byte b = is_ascii_lowercase b || is_ascii_digit b || b == 95

-- a letter `a` to `z`, and then letters, digits and `_`
abbrev pub is_word : List ℕ → Bool
is_word [] = false
is_word (b ∷ bs) = is_ascii_lowercase b && list_all is_word_byte bs

abbrev pub IsKeyword : List ℕ → Type 0
IsKeyword bs = (k : AKeyword) × (bs ≡ keyword_text k)

-- a word of at most 64 bytes
abbrev pub IsShortWord : List ℕ → Type 0
IsShortWord bs = (is_word bs ≡ true) × (length bs ≤ 64)

-- a word of more than 64 bytes
abbrev pub IsLongWord : List ℕ → Type 0
IsLongWord bs = (is_word bs ≡ true) × (64 < length bs)

-- a string whose content has more than 65,535 bytes
abbrev pub IsLongString : List ℕ → Type 0
IsLongString bs = (content : List ℕ) × IsString content bs × (65535 < length content)

-- The bytes spell a token of the kind.
abbrev pub Spells : TokenKind → List ℕ → Type 0
Spells (Sign s) bs = bs ≡ sign_text s
Spells (Keyword k) bs = bs ≡ keyword_text k
Spells (Name w) bs = (bs ≡ w) × IsShortWord w × ¬ (IsKeyword w)
Spells (Number n) bs = (is_numeral bs ≡ true) × (n ≡ min (digits_value 10 bs) (2 ^ 64 - 1))
Spells (Text content) bs = IsString content bs × (length content ≤ 65535)
Spells Long bs = IsLongWord bs ⊎ IsLongString bs
Spells (Cut refusal) bs = ⊥
Spells Byte bs = ⊥
Spells End bs = ⊥

-- No longer prefix of the text spells a token of any kind.
abbrev pub IsLongest : List ℕ → List ℕ → Type 0
IsLongest spelling rest = (kind : TokenKind) (more left : List ℕ) → rest ≡ more ++ left
    → Spells kind (spelling ++ more) → more ≡ []

-- no token is spelled with this byte first
abbrev pub BeginsNone : ℕ → Type 0
BeginsNone b = (kind : TokenKind) (bs : List ℕ) → ¬ (Spells kind (b ∷ bs))
