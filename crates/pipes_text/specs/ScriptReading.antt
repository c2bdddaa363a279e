-- How a script is read: its value, or its first refusal.
use Rattle.std.specs.Prelude.{ℕ, Bool, true, false, nat_le, List, [], ◌∷◌, ◌++◌, Option, Some, None}
use Rattle.pipes_time.specs.Interval.{horizon}
use Rattle.pipes_token.specs.declared.refusal.TextWhy.{TextWhy}
use Rattle.pipes_token.specs.declared.refusal.TextWhy.TheVariants as why
use Rattle.pipes_token.specs.declared.refusal.Refusal.{Refusal}
use Rattle.pipes_token.specs.declared.keyword.Keyword.TheVariants as keyword
use Rattle.pipes_token.specs.declared.token.TokenKind.{TokenKind}
use Rattle.pipes_token.specs.declared.token.TokenKind.TheVariants.{Keyword, Name}
use Rattle.pipes_token.specs.declared.token.Token.{Token}
use Rattle.pipes_reader.specs.Reading.{Reads, refusal, refused_by, take_by, done_with, in_turn}
use Rattle.pipes_reader.specs.Reading.{with_tail, unless, many_within}
use Rattle.pipes_reader.specs.Taking.{take_number, take_text}
use Rattle.pipes_grammar.specs.Grammar.{source_named}
use Rattle.pipes_query.specs.declared.script.Command.{Command}
use Rattle.pipes_query.specs.declared.script.Command.TheVariants as command
use Rattle.pipes_query.specs.declared.script.Mode.{Mode}
use Rattle.pipes_query.specs.declared.script.Mode.TheVariants.{Inline, Threaded}
use Rattle.pipes_query.specs.declared.script.Script.{Script}
use Rattle.pipes_text.specs.declared.mark.Start.{Start}
use Rattle.pipes_text.specs.declared.mark.Start.TheVariants as start
use Rattle.pipes_text.specs.Scripts.{file_place, with_file, migrations}

-- ---- the first token of a command

abbrev pub command_start_of : TokenKind → Option Start
command_start_of (Keyword keyword.Feed) = Some start.Feed
command_start_of (Keyword keyword.Rest) = Some start.Rest
command_start_of (Keyword keyword.Await) = Some start.Await
command_start_of (Keyword keyword.Migrate) = Some start.Migrate
command_start_of (Keyword keyword.Drain) = Some start.Drain
command_start_of _ = None

abbrev pub first_start : List Token → Option Start
first_start [] = None
first_start (t ∷ ts) = command_start_of t.kind

-- why a command may not begin so: it isn't of the mode, or, where there are the most, it is one
-- more migrate command, or one more of all
abbrev pub bar : Mode → Bool → Bool → Start → Option TextWhy
bar Threaded full moved start.Feed = Some why.Mode
bar Threaded full moved start.Rest = Some why.Mode
bar Inline full moved start.Await = Some why.Mode
bar mode true moved s = Some why.Many
bar mode false true start.Migrate = Some why.Many
bar mode false moved s = None

abbrev pub bar_if : Mode → Bool → Bool → Option Start → Option TextWhy
bar_if mode full moved (Some s) = bar mode full moved s
bar_if mode full moved None = None

abbrev pub bar_of : Mode → Bool → Bool → TokenKind → Option TextWhy
bar_of mode full moved k = bar_if mode full moved (command_start_of k)

abbrev pub barred_by : Option TextWhy → TokenKind → ℕ → Refusal
barred_by (Some w) k at = refusal at w
barred_by None k at = refused_by k at

abbrev pub bar_refused : Mode → Bool → Bool → TokenKind → ℕ → Refusal
bar_refused mode full moved k at = barred_by (bar_of mode full moved k) k at

-- no command that may not be here begins
unfoldable pub read_bar : Mode → Bool → Bool → Reads (Unit {0})
read_bar mode full moved = unless (bar_of mode full moved) (bar_refused mode full moved) tt

-- ---- a command

abbrev pub source_of : List (List ℕ) → TokenKind → Option ℕ
source_of names (Name w) = source_named names w
source_of names _ = None

-- a word that isn't declared
abbrev pub source_refused : TokenKind → ℕ → Refusal
source_refused (Name w) at = refusal at why.Name
source_refused k at = refused_by k at

unfoldable pub take_source : List (List ℕ) → Reads ℕ
take_source names ts = take_by (source_of names) source_refused ts

abbrev pub with_command : Script → Command → Script
with_command s c = record { commands = s.commands ++ (c ∷ []); files = s.files }

abbrev pub with_migrate : Script → List ℕ → Script
with_migrate s file = record {
  commands = s.commands ++ (command.Migrate (file_place s.files file) ∷ []);
  files = with_file s.files file;
}

-- the rest of a command that begins so
abbrev pub read_command : List (List ℕ) → Script → Start → Reads Script
read_command names s start.Feed =
    in_turn (take_source names)
    (λ i. in_turn (take_number 1 4000000) (λ n. done_with (with_command s (command.Feed i n))))
read_command names s start.Rest = done_with (with_command s command.Rest)
read_command names s start.Await =
    in_turn (take_number 0 horizon) (λ n. done_with (with_command s (command.Await n)))
read_command names s start.Migrate = in_turn take_text (λ file. done_with (with_migrate s file))
read_command names s start.Drain = done_with (with_command s command.Drain)

-- ---- commands

-- there are the most migrate commands
abbrev pub are_most : Script → Bool
are_most s = nat_le 2048 (migrations s.commands)

abbrev pub and_more : Script → Script × Bool
and_more s = (s, true)

-- one more command, or none
abbrev pub command_or_end : List (List ℕ) → Script → Reads (Script × Bool)
command_or_end names s =
    with_tail command_start_of (λ first. in_turn (read_command names s first)
    (λ t. done_with (and_more t)))
    (s, false)

unfoldable pub next_command : List (List ℕ) → Mode → Script → Reads (Script × Bool)
next_command names mode s = in_turn (read_bar mode false (are_most s))
    (λ done. command_or_end names s)

-- after the most commands no other
unfoldable pub end_commands : Mode → Script → Reads Script
end_commands mode s = in_turn (read_bar mode true true) (λ done. done_with s)

abbrev pub no_commands : Script
no_commands = record { commands = []; files = [] }

unfoldable pub parse_script : List (List ℕ) → Mode → Reads Script
parse_script names mode = many_within 65536 (next_command names mode)
    (end_commands mode) no_commands
