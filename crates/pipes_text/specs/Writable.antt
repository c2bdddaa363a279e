-- The queries and the scripts that some text has, by their structure.
use Rattle.std.specs.Prelude.{◌≡◌, ◌≤◌, ◌<◌, ℕ, ◌+◌, max, List, [], ◌∷◌, length, IsUtf8}
use Rattle.pipes_time.specs.Interval.{horizon}
use Rattle.pipes_token.specs.Spelling.{IsShortWord}
use Rattle.pipes_window.specs.Windows.{IsWindow}
use Rattle.pipes_reader.specs.Names.{AreNew}
use Rattle.pipes_print.specs.Writable.{Each, IsWritablePlan}
use Rattle.pipes_reader.specs.Names.{IsSourceName}
use Rattle.pipes_query.specs.declared.query.SourceDecl.{SourceDecl}
use Rattle.pipes_query.specs.declared.query.Query.{Query}
use Rattle.pipes_query.specs.declared.script.Command.{Command}
use Rattle.pipes_query.specs.declared.script.Command.TheVariants.{Feed, Rest, Await, Migrate, Drain}
use Rattle.pipes_query.specs.declared.script.Mode.{Mode}
use Rattle.pipes_query.specs.declared.script.Script.{Script}
use Rattle.pipes_query.specs.Queries.{names_of}
use Rattle.pipes_text.specs.Scripts.{migrations, AreOfMode}

-- a file's name: UTF-8 of at most 65,535 bytes
abbrev pub IsFileName : List ℕ → Type 0
IsFileName file = IsUtf8 file × (length file ≤ 65535)

-- ---- queries

-- a source whose name is a word that is no keyword, with 1 to 32 columns that are named by words,
-- each once, and with limits that are kept
pub record IsWritableSource (s : SourceDecl) : Type 0 where
  pub name : IsSourceName s.name
  pub file : IsFileName s.file
  pub some : 1 ≤ length s.names
  pub columns : length s.names ≤ 32
  pub words : Each IsShortWord s.names
  pub once : AreNew [] s.names
  pub kinds : length s.schema ≡ length s.names
  pub slack : s.slack ≤ horizon
  pub window : IsWindow s.window

-- 1 to 16 such sources, each with another name, and a plan over them
pub record IsWritableQuery (q : Query) : Type 0 where
  pub some : 1 ≤ length q.sources
  pub sources : length q.sources ≤ 16
  pub each : Each IsWritableSource q.sources
  pub once : AreNew [] (names_of q.sources)
  pub plan : IsWritablePlan (length q.sources) q.plan

-- ---- scripts

-- a command over so many sources, with its numbers in range
abbrev pub IsWritableCommand : ℕ → Command → Type 0
IsWritableCommand sources (Feed i n) = (i < sources) × (1 ≤ n) × (n ≤ 4000000)
IsWritableCommand sources (Await n) = n ≤ horizon
IsWritableCommand sources _ = Unit {0}

-- The commands number the files in the order in which they name them, where so many were named
-- before, and name all of them.
abbrev pub NumberFiles : ℕ → List Command → ℕ → Type 0
NumberFiles named [] files = named ≡ files
NumberFiles named (Migrate j ∷ cs) files = (j ≤ named) × NumberFiles (max named (j + 1)) cs files
NumberFiles named (_ ∷ cs) files = NumberFiles named cs files

-- at most 65,536 commands of the mode, of which at most 2,048 are migrate commands, and the files
-- that they name, each once
pub record IsWritableScript (sources : ℕ) (mode : Mode) (s : Script) : Type 0 where
  pub each : Each (IsWritableCommand sources) s.commands
  pub of_mode : AreOfMode mode s.commands
  pub commands : length s.commands ≤ 65536
  pub moves : migrations s.commands ≤ 2048
  pub files : Each IsFileName s.files
  pub once : AreNew [] s.files
  pub numbered : NumberFiles 0 s.commands (length s.files)
