-- Sentences: which kinds of tokens a value has, and before which token they may be.
use Rattle.std.specs.Prelude.{◌≡◌, Bool, List, [], ◌∷◌, ◌++◌, Option, Some, None}
use Rattle.std.specs.List.{list_any}
use Rattle.pipes_token.specs.declared.token.TokenKind.{TokenKind}
use Rattle.pipes_token.specs.declared.token.TokenKind.TheVariants.{End}
use Rattle.pipes_token.specs.declared.token.Token.{Token}
use Rattle.pipes_token.specs.Tokens.{is_last}
use Rattle.pipes_reader.specs.Reading.{kinds_of}

-- which kinds of tokens are a sentence of which value
abbrev pub Grammar : Type 0 → Type 1
Grammar A = A → List TokenKind → Type 0

-- the same, where such a sentence may be before a token of this kind, or before none
abbrev pub GrammarBefore : Type 0 → Type 1
GrammarBefore A = A → List TokenKind → Option TokenKind → Type 0

-- a grammar whose sentences may be before anything
abbrev pub Anywhere : {A : Type 0} → Grammar A → GrammarBefore A
Anywhere Is x ks h = Is x ks

-- some sentence begins so
abbrev pub Begins : {A : Type 0} → Grammar A → List TokenKind → Type 0
Begins {A} Is ks = (x : A) × (more : List TokenKind) × Is x (ks ++ more)

-- ---- what comes next

-- the kind of the first token, where there is one
abbrev pub next_of : List Token → Option TokenKind
next_of [] = None
next_of (t ∷ ts) = Some t.kind

-- what comes first of these and of what follows them
abbrev pub ahead : List TokenKind → Option TokenKind → Option TokenKind
ahead [] h = h
ahead (k ∷ ks) h = Some k

-- The tokens begin with a sentence of this value as it may be before the others, and these are
-- left.
abbrev pub Prefix : {A : Type 0} → GrammarBefore A → A → List Token → List Token → Type 0
Prefix In x ts rest =
    (prefix : List Token) × In x (kinds_of prefix) (next_of rest) × (ts ≡ prefix ++ rest)

-- ---- a text's last token

-- among these is a token that no other follows
abbrev pub has_last : List TokenKind → Bool
has_last ks = list_any is_last ks

-- a sentence, and the end of the text
abbrev pub Whole : {A : Type 0} → Grammar A → Grammar A
Whole Is x ks = (sentence : List TokenKind) × Is x sentence × (ks ≡ sentence ++ (End ∷ []))
