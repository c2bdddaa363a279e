-- The grammar of scripts, rule by rule, the limits, and the texts.
use Rattle.std.specs.Prelude.{◌≡◌, ◌≤◌, ℕ, zero, suc, ◌+◌, List, [], ◌∷◌, ◌++◌, Option, Some, None}
use Rattle.std.specs.Prelude.{length}
use Rattle.std.specs.List.{position}
use Rattle.std.specs.Str.{bytes_eq}
use Rattle.pipes_time.specs.Interval.{horizon}
use Rattle.pipes_token.specs.declared.keyword.Keyword.TheVariants as keyword
use Rattle.pipes_token.specs.declared.token.TokenKind.{TokenKind}
use Rattle.pipes_token.specs.declared.token.TokenKind.TheVariants.{Keyword, Name, Number, Text}
use Rattle.pipes_grammar.specs.Grammar.{source_named}
use Rattle.pipes_query.specs.declared.script.Command.{Command}
use Rattle.pipes_query.specs.declared.script.Command.TheVariants as command
use Rattle.pipes_query.specs.declared.script.Mode.{Mode}
use Rattle.pipes_query.specs.declared.script.Script.{Script}
use Rattle.pipes_query.specs.Scripts.{HasCommand}

-- ---- files, each once, in the order in which they are first named

-- the file's place, or where it comes
abbrev pub place_or : ℕ → Option ℕ → ℕ
place_or end (Some i) = i
place_or end None = end

abbrev pub file_place : List (List ℕ) → List ℕ → ℕ
file_place files file = place_or (length files) (position (bytes_eq file) files)

abbrev pub files_or : List (List ℕ) → List ℕ → Option ℕ → List (List ℕ)
files_or files file (Some i) = files
files_or files file None = files ++ (file ∷ [])

abbrev pub with_file : List (List ℕ) → List ℕ → List (List ℕ)
with_file files file = files_or files file (position (bytes_eq file) files)

-- ---- commands, over declared sources with these names

-- the files before the command, the command, and the files after it
pub data IsCommand (names : List (List ℕ)) : List (List ℕ) → Command → List (List ℕ)
    → List TokenKind → Type 0 where
  feed : (fs : List (List ℕ)) (w : List ℕ) (i n : ℕ) → source_named names w ≡ Some i → 1 ≤ n
      → n ≤ 4000000
      → IsCommand names fs (command.Feed i n) fs (Keyword keyword.Feed ∷ Name w ∷ Number n ∷ [])
  rest : (fs : List (List ℕ)) → IsCommand names fs command.Rest fs (Keyword keyword.Rest ∷ [])
  await : (fs : List (List ℕ)) (n : ℕ) → n ≤ horizon
      → IsCommand names fs (command.Await n) fs (Keyword keyword.Await ∷ Number n ∷ [])
  migrate : (fs : List (List ℕ)) (file : List ℕ)
      → IsCommand names fs (command.Migrate (file_place fs file)) (with_file fs file)
      (Keyword keyword.Migrate ∷ Text file ∷ [])
  drain : (fs : List (List ℕ)) → IsCommand names fs command.Drain fs (Keyword keyword.Drain ∷ [])

pub data AreCommands (names : List (List ℕ)) : List (List ℕ) → List Command → List (List ℕ)
    → List TokenKind → Type 0 where
  none : (fs : List (List ℕ)) → AreCommands names fs [] fs []
  next : (fs gs hs : List (List ℕ)) (c : Command) (cs : List Command) (ks ls : List TokenKind)
      → IsCommand names fs c gs ks → AreCommands names gs cs hs ls
      → AreCommands names fs (c ∷ cs) hs (ks ++ ls)

abbrev pub IsScript : List (List ℕ) → Script → List TokenKind → Type 0
IsScript names s ks = AreCommands names [] s.commands s.files ks

-- ---- limits

-- how many of the commands are migrate commands
abbrev pub migrations : List Command → ℕ
migrations [] = 0
migrations (command.Migrate file ∷ cs) = suc (migrations cs)
migrations (_ ∷ cs) = migrations cs

-- each of them is of the mode
abbrev pub AreOfMode : Mode → List Command → Type 0
AreOfMode mode [] = Unit {0}
AreOfMode mode (c ∷ cs) = HasCommand mode c × AreOfMode mode cs

-- a script of the mode within the limits: 65,536 commands, 2,048 of them migrate commands
pub record IsScriptText (names : List (List ℕ)) (mode : Mode) (s : Script)
    (ks : List TokenKind) : Type 0 where
  pub spells : IsScript names s ks
  pub of_mode : AreOfMode mode s.commands
  pub commands : length s.commands ≤ 65536
  pub moves : migrations s.commands ≤ 2048
