-- Values of one token in a query.
use Rattle.std.specs.Prelude.{ℕ, Bool, true, false, List, [], ◌∷◌, Option, Some, None}
use Rattle.pipes_token.specs.declared.refusal.TextWhy.TheVariants as why
use Rattle.pipes_token.specs.declared.refusal.Refusal.{Refusal}
use Rattle.pipes_token.specs.declared.token.Sign.TheVariants.{Open, Close, Comma}
use Rattle.pipes_token.specs.declared.keyword.Keyword.TheVariants as keyword
use Rattle.pipes_token.specs.declared.token.TokenKind.{TokenKind}
use Rattle.pipes_token.specs.declared.token.TokenKind.TheVariants.{Sign, Keyword, Name}
use Rattle.pipes_reader.specs.Reading.{refusal}
use Rattle.pipes_text.specs.declared.mark.Mark.{Mark}
use Rattle.pipes_text.specs.declared.mark.Mark.TheVariants as mark
use Rattle.pipes_text.specs.declared.mark.Measure.{Measure}
use Rattle.pipes_text.specs.declared.mark.Measure.TheVariants as measure

-- ---- tokens that say where in the text one is

abbrev pub is_mark : Mark → TokenKind → Bool
is_mark mark.From (Keyword keyword.From) = true
is_mark mark.Open (Sign Open) = true
is_mark mark.Window (Keyword keyword.Window) = true
is_mark _ _ = false

abbrev pub marked : Bool → Option (Unit {0})
marked true = Some tt
marked false = None

abbrev pub mark_value : Mark → TokenKind → Option (Unit {0})
mark_value m k = marked (is_mark m k)

-- ---- sources

-- the words that can name a source
abbrev pub source_word : TokenKind → Option (List ℕ)
source_word (Name word) = Some word
source_word _ = None

-- a comma, or the end of the columns
abbrev pub comma_of : TokenKind → Option Bool
comma_of (Sign Comma) = Some true
comma_of (Sign Close) = Some false
comma_of _ = None

abbrev pub slack_of : TokenKind → Option (Unit {0})
slack_of (Keyword keyword.Slack) = Some tt
slack_of _ = None

abbrev pub measure_of : TokenKind → Option Measure
measure_of (Keyword keyword.Time) = Some measure.Time
measure_of (Keyword keyword.Count) = Some measure.Count
measure_of _ = None

abbrev pub slide_of : TokenKind → Option (Unit {0})
slide_of (Keyword keyword.Slide) = Some tt
slide_of _ = None

-- ---- what follows some sources

-- another source, or, where there are some, the plan
abbrev pub source_or_plan : Bool → TokenKind → Option Bool
source_or_plan some (Keyword keyword.Source) = Some true
source_or_plan true (Keyword keyword.Plan) = Some false
source_or_plan _ _ = None

abbrev pub plan_of : Bool → TokenKind → Option (Unit {0})
plan_of true (Keyword keyword.Plan) = Some tt
plan_of _ _ = None

-- after the last source that a query may have, another is one too many
abbrev pub another_of : TokenKind → Option (Unit {0})
another_of (Keyword keyword.Source) = Some tt
another_of _ = None

abbrev pub another_refused : TokenKind → ℕ → Refusal
another_refused k at = refusal at why.Many
