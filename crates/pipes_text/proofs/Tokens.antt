-- The readers of one token of a query.
use Rattle.std.proofs.Common.{◌≡◌, ℕ, Bool, true, false, List, [], ◌∷◌, Option, Some, None, refl}
use Rattle.std.proofs.Common.{ap}
use Rattle.pipes_token.specs.declared.token.Sign.TheVariants.{Open, Close, Comma}
use Rattle.pipes_token.specs.declared.keyword.Keyword.TheVariants as keyword
use Rattle.pipes_token.specs.declared.token.TokenKind.{TokenKind}
use Rattle.pipes_token.specs.declared.token.TokenKind.TheVariants.{Sign, Keyword, Name}
use Rattle.pipes_tuple.specs.declared.value.Kind.TheVariants as kind
use Rattle.pipes_reader.specs.Sentences.{Anywhere, Begins}
use Rattle.pipes_reader.specs.Places.{AtToken}
use Rattle.pipes_reader.specs.Causes.{IsWord}
use Rattle.pipes_reader.proofs.Causes.{IsSteady, steady_by}
use Rattle.pipes_reader.proofs.Readers.{IsReader}
use Rattle.pipes_reader.proofs.Singles.{One, one, NotLast, reads_plain}
use Rattle.pipes_text.specs.declared.mark.Mark.{Mark}
use Rattle.pipes_text.specs.declared.mark.Mark.TheVariants as mark
use Rattle.pipes_text.specs.declared.mark.Measure.TheVariants as measure
use Rattle.pipes_text.specs.Grammar.{word_of, kind_of_token}
use Rattle.pipes_text.specs.Taking.{is_mark, marked, mark_value, source_word, comma_of, slack_of}
use Rattle.pipes_text.specs.Taking.{measure_of, slide_of, source_or_plan, another_of, plan_of}
use Rattle.pipes_text.specs.Reading.{expect, read_kind, read_comma, read_measure, read_next}
use Rattle.pipes_text.specs.Reading.{read_plan_mark}

-- ---- marks

abbrev pub mark_token : Mark → TokenKind
mark_token mark.From = Keyword keyword.From
mark_token mark.Open = Sign Open
mark_token mark.Window = Keyword keyword.Window

pub mark_own : (m : Mark) → mark_value m (mark_token m) ≡ Some tt
mark_own mark.From = refl
mark_own mark.Open = refl
mark_own mark.Window = refl

mark_by : (m : Mark) (k : TokenKind) → is_mark m k ≡ true → k ≡ mark_token m
mark_by mark.From (Keyword keyword.From) e = refl
mark_by mark.Open (Sign Open) e = refl
mark_by mark.Window (Keyword keyword.Window) e = refl
mark_by _ _ e = absurd cc

pub mark_is : (m : Mark) (k : TokenKind) (x : Unit {0}) → mark_value m k ≡ Some x → k ≡ mark_token m
mark_is m k x e = mark_by m k (true_of (is_mark m k) x e)
  where
    true_of : (b : Bool) (x : Unit {0}) → marked b ≡ Some x → b ≡ true
    true_of true x e = refl
    true_of false x e = absurd cc

mark_not_last : (m : Mark) → NotLast (mark_value m)
mark_not_last mark.From (Keyword k) x e = refl
mark_not_last mark.Open (Sign k) x e = refl
mark_not_last mark.Window (Keyword k) x e = refl
mark_not_last _ _ x e = absurd cc

mark_steady : (m : Mark) → IsSteady (mark_value m)
mark_steady mark.From = steady_by (mark_value mark.From) (λ n m e. refl) (λ v w e. refl)
mark_steady mark.Open = steady_by (mark_value mark.Open) (λ n m e. refl) (λ v w e. refl)
mark_steady mark.Window = steady_by (mark_value mark.Window) (λ n m e. refl) (λ v w e. refl)

pub some_mark : (m : Mark) → Begins (One (mark_value m)) []
some_mark m = (tt, mark_token m ∷ [], one (mark_token m) tt (mark_own m))

pub reads_mark : (m : Mark)
    → IsReader (One (mark_value m)) (Anywhere (One (mark_value m))) AtToken (expect m)
unfolding expect
reads_mark m = reads_plain (mark_value m) (some_mark m) (mark_not_last m) (mark_steady m)

-- ---- words

pub word_not_last : NotLast word_of
word_not_last (Name w) x e = refl
word_not_last (Keyword k) x e = refl
word_not_last _ x e = absurd cc

pub word_steady : IsSteady word_of
word_steady = steady_by word_of (λ n m e. refl) (λ v w e. absurd cc)

pub word_is : (k : TokenKind) (w : List ℕ) → word_of k ≡ Some w → IsWord k
word_is (Name v) w e = tt
word_is (Keyword k) w e = tt
word_is _ w e = absurd cc

pub source_steady : IsSteady source_word
source_steady = steady_by source_word (λ n m e. refl) (λ v w e. absurd cc)

pub source_is_word : (k : TokenKind) (w : List ℕ) → source_word k ≡ Some w → IsWord k
source_is_word (Name v) w e = tt
source_is_word _ w e = absurd cc

pub source_not_last : NotLast source_word
source_not_last (Name w) x e = refl
source_not_last _ x e = absurd cc

pub source_is : (k : TokenKind) (w : List ℕ) → source_word k ≡ Some w → k ≡ Name w
source_is (Name v) w e =
    let same : v ≡ w = cc in
    ap (λ (z : List ℕ). Name z) same
source_is _ w e = absurd cc

-- ---- columns

pub kind_not_last : NotLast kind_of_token
kind_not_last (Keyword k) x e = refl
kind_not_last _ x e = absurd cc

pub reads_kind : IsReader (One kind_of_token) (Anywhere (One kind_of_token)) AtToken read_kind
unfolding read_kind
reads_kind =
    reads_plain kind_of_token
    (kind.Int, Keyword keyword.Int ∷ [], one (Keyword keyword.Int) kind.Int refl) kind_not_last
    (steady_by kind_of_token (λ n m e. refl) (λ v w e. refl))

comma_not_last : NotLast comma_of
comma_not_last (Sign s) x e = refl
comma_not_last _ x e = absurd cc

pub reads_comma : IsReader (One comma_of) (Anywhere (One comma_of)) AtToken read_comma
unfolding read_comma
reads_comma =
    reads_plain comma_of (false, Sign Close ∷ [], one (Sign Close) false refl) comma_not_last
    (steady_by comma_of (λ n m e. refl) (λ v w e. refl))

pub comma_is : (k : TokenKind) → comma_of k ≡ Some true → k ≡ Sign Comma
comma_is (Sign Comma) e = refl
comma_is _ e = absurd cc

pub close_is : (k : TokenKind) → comma_of k ≡ Some false → k ≡ Sign Close
close_is (Sign Close) e = refl
close_is _ e = absurd cc

-- ---- slack and window

pub slack_is : (k : TokenKind) (x : Unit {0}) → slack_of k ≡ Some x → k ≡ Keyword keyword.Slack
slack_is (Keyword keyword.Slack) x e = refl
slack_is _ x e = absurd cc

pub slack_not_last : NotLast slack_of
slack_not_last (Keyword k) x e = refl
slack_not_last _ x e = absurd cc

pub slack_steady : IsSteady slack_of
slack_steady = steady_by slack_of (λ n m e. refl) (λ v w e. refl)

pub slide_steady : IsSteady slide_of
slide_steady = steady_by slide_of (λ n m e. refl) (λ v w e. refl)

pub slide_is : (k : TokenKind) (x : Unit {0}) → slide_of k ≡ Some x → k ≡ Keyword keyword.Slide
slide_is (Keyword keyword.Slide) x e = refl
slide_is _ x e = absurd cc

pub slide_not_last : NotLast slide_of
slide_not_last (Keyword k) x e = refl
slide_not_last _ x e = absurd cc

pub time_is : (k : TokenKind) → measure_of k ≡ Some measure.Time → k ≡ Keyword keyword.Time
time_is (Keyword keyword.Time) e = refl
time_is _ e = absurd cc

pub count_is : (k : TokenKind) → measure_of k ≡ Some measure.Count → k ≡ Keyword keyword.Count
count_is (Keyword keyword.Count) e = refl
count_is _ e = absurd cc

measure_not_last : NotLast measure_of
measure_not_last (Keyword k) x e = refl
measure_not_last _ x e = absurd cc

pub reads_measure : IsReader (One measure_of) (Anywhere (One measure_of)) AtToken read_measure
unfolding read_measure
reads_measure =
    reads_plain measure_of
    (measure.Time, Keyword keyword.Time ∷ [], one (Keyword keyword.Time) measure.Time refl)
    measure_not_last (steady_by measure_of (λ n m e. refl) (λ v w e. refl))

-- ---- what follows some sources

pub another_is : (some : Bool) (k : TokenKind) → source_or_plan some k ≡ Some true
    → k ≡ Keyword keyword.Source
another_is some (Keyword keyword.Source) e = refl
another_is true (Keyword keyword.Plan) e = absurd cc
another_is _ _ e = absurd cc

pub plan_is : (some : Bool) (k : TokenKind) → source_or_plan some k ≡ Some false
    → (some ≡ true) × (k ≡ Keyword keyword.Plan)
plan_is some (Keyword keyword.Source) e = absurd cc
plan_is true (Keyword keyword.Plan) e = (refl, refl)
plan_is _ _ e = absurd cc

next_not_last : (some : Bool) → NotLast (source_or_plan some)
next_not_last some (Keyword k) x e = refl
next_not_last _ _ x e = absurd cc

next_steady : (some : Bool) → IsSteady (source_or_plan some)
next_steady true = steady_by (source_or_plan true) (λ n m e. refl) (λ v w e. refl)
next_steady false = steady_by (source_or_plan false) (λ n m e. refl) (λ v w e. refl)

pub reads_next : (some : Bool)
    → IsReader (One (source_or_plan some)) (Anywhere (One (source_or_plan some))) AtToken
    (read_next some)
unfolding read_next
reads_next some =
    reads_plain (source_or_plan some)
    (true, Keyword keyword.Source ∷ [], one (Keyword keyword.Source) true refl) (next_not_last some)
    (next_steady some)

plan_not_last : (some : Bool) → NotLast (plan_of some)
plan_not_last true (Keyword k) x e = refl
plan_not_last _ _ x e = absurd cc

pub end_is : (some : Bool) (k : TokenKind) (x : Unit {0}) → plan_of some k ≡ Some x
    → k ≡ Keyword keyword.Plan
end_is true (Keyword keyword.Plan) x e = refl
end_is _ _ x e = absurd cc

pub another_token : (k : TokenKind) (x : Unit {0}) → another_of k ≡ Some x
    → k ≡ Keyword keyword.Source
another_token (Keyword keyword.Source) x e = refl
another_token _ x e = absurd cc

pub another_steady : IsSteady another_of
another_steady = steady_by another_of (λ n m e. refl) (λ v w e. refl)

pub reads_plan_mark : IsReader (One (plan_of true)) (Anywhere (One (plan_of true))) AtToken
    (read_plan_mark true)
unfolding read_plan_mark
reads_plan_mark =
    reads_plain (plan_of true) (tt, Keyword keyword.Plan ∷ [], one (Keyword keyword.Plan) tt refl)
    (plan_not_last true) (steady_by (plan_of true) (λ n m e. refl) (λ v w e. refl))
