-- Texts of scripts, and why a text has none.
use Rattle.std.specs.Prelude.{◌≡◌, ℕ, List, [], ◌∷◌, ◌++◌}
use Rattle.pipes_token.specs.declared.refusal.ReadFault.{ReadFault}
use Rattle.pipes_token.specs.declared.refusal.ReadFault.TheVariants as fault
use Rattle.pipes_token.specs.declared.refusal.TextRefusal.{TextRefusal}
use Rattle.pipes_reader.specs.Texts.{IsText, IsFile, IsRefused}
use Rattle.pipes_reader.specs.Places.{AtToken}
use Rattle.pipes_query.specs.declared.query.Query.{Query}
use Rattle.pipes_query.specs.declared.script.Mode.{Mode}
use Rattle.pipes_query.specs.declared.script.Script.{Script}
use Rattle.pipes_query.specs.Queries.{names_of}
use Rattle.pipes_text.specs.Scripts.{IsScript, IsScriptText}
use Rattle.pipes_text.specs.ScriptReading.{parse_script}

-- The text, within the limit, is one of the script, over the query's sources and in the mode.
abbrev pub IsFileOfScript : Query → Mode → Script → List ℕ → Type 0
IsFileOfScript q mode = IsFile (IsScriptText (names_of q.sources) mode)

-- The text is too long, or its tokens are refused at the first place at which no script goes on.
abbrev pub IsRefusedScript : Query → Mode → List ℕ → TextRefusal → Type 0
IsRefusedScript q mode =
    IsRefused (IsScript (names_of q.sources)) (IsScriptText (names_of q.sources) mode) AtToken
    (parse_script (names_of q.sources) mode)

-- why a text isn't read as a script
abbrev pub ScriptCause : Query → Mode → List ℕ → ReadFault → Type 0
ScriptCause q mode bytes (fault.Text r) = IsRefusedScript q mode bytes r
ScriptCause q mode bytes fault.Memory = Unit {0}

-- some text has this script, whatever its length
abbrev pub HasScriptText : Query → Mode → Script → Type 0
HasScriptText q mode s =
    (bytes : List ℕ) × IsText (IsScriptText (names_of q.sources) mode) s bytes
