-- The keywords, and how each is spelled.
use Rattle.std.specs.Prelude.{ℕ, List, codes}
use Rattle.pipes_token.specs.declared.keyword.Keyword.{Keyword}
use Rattle.pipes_token.specs.declared.keyword.Keyword.TheVariants.{Source, From, Slack, Window}
use Rattle.pipes_token.specs.declared.keyword.Keyword.TheVariants.{Slide, Time, Count, Int, Text}
use Rattle.pipes_token.specs.declared.keyword.Keyword.TheVariants.{Flag, Plan, Filter, Map, Union}
use Rattle.pipes_token.specs.declared.keyword.Keyword.TheVariants.{Join, Distinct, Group, Minus}
use Rattle.pipes_token.specs.declared.keyword.Keyword.TheVariants.{Sum, Min, Max, Avg, True, False}
use Rattle.pipes_token.specs.declared.keyword.Keyword.TheVariants.{And, Or, Not, Step, Back, At}
use Rattle.pipes_token.specs.declared.keyword.Keyword.TheVariants.{Top, With, Feed, Rest, Await}
use Rattle.pipes_token.specs.declared.keyword.Keyword.TheVariants.{Migrate, Drain}

abbrev pub keyword_text : Keyword → List ℕ
keyword_text Source = codes "source"
keyword_text From = codes "from"
keyword_text Slack = codes "slack"
keyword_text Window = codes "window"
keyword_text Slide = codes "slide"
keyword_text Time = codes "time"
keyword_text Count = codes "count"
keyword_text Int = codes "int"
keyword_text Text = codes "text"
keyword_text Flag = codes "flag"
keyword_text Plan = codes "plan"
keyword_text Filter = codes "filter"
keyword_text Map = codes "map"
keyword_text Union = codes "union"
keyword_text Join = codes "join"
keyword_text Distinct = codes "distinct"
keyword_text Group = codes "group"
keyword_text Minus = codes "minus"
keyword_text Sum = codes "sum"
keyword_text Min = codes "min"
keyword_text Max = codes "max"
keyword_text Avg = codes "avg"
keyword_text True = codes "true"
keyword_text False = codes "false"
keyword_text And = codes "and"
keyword_text Or = codes "or"
keyword_text Not = codes "not"
keyword_text Step = codes "step"
keyword_text Back = codes "back"
keyword_text At = codes "at"
keyword_text Top = codes "top"
keyword_text With = codes "with"
keyword_text Feed = codes "feed"
keyword_text Rest = codes "rest"
keyword_text Await = codes "await"
keyword_text Migrate = codes "migrate"
keyword_text Drain = codes "drain"
