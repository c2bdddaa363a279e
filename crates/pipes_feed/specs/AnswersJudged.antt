-- What the calls that judge a record answer.
use Rattle.std.specs.Prelude.{◌≡◌, Result, Ok, Err, ⊤}
use Rattle.pipes_feed.specs.declared.reason.RowWhy.{RowWhy}
use Rattle.pipes_feed.specs.declared.judge.Fault.{Fault}
use Rattle.pipes_feed.specs.declared.judge.Fault.TheVariants.{Refused, Memory}

-- the value that this stands for, or the refusal, or out of memory
abbrev pub AnswersJudged : {A B : Type 0} → (A → B) → Result A Fault → Result B RowWhy → Type 0
AnswersJudged shown (Ok value) expected = expected ≡ Ok (shown value)
AnswersJudged shown (Err (Refused why)) expected = expected ≡ Err why
AnswersJudged shown (Err Memory) expected = ⊤
