-- The readers of a script's commands, one by one.
use Rattle.std.proofs.Common.{◌≡◌, ℕ, zero, suc, ◌+◌, ◌<◌, Bool, true, false, List, []}
use Rattle.std.proofs.Common.{◌∷◌, ◌++◌, length, Option, Some, None, Ok, refl, sym, ap, subst}
use Rattle.std.proofs.Common.{inl, inr, arith}
use Rattle.std.proofs.lemmas.List.{append-nil}
use Rattle.pipes_time.specs.Interval.{horizon}
use Rattle.pipes_token.specs.declared.refusal.TextWhy.{TextWhy}
use Rattle.pipes_token.specs.declared.keyword.Keyword.TheVariants as keyword
use Rattle.pipes_token.specs.declared.token.TokenKind.{TokenKind}
use Rattle.pipes_token.specs.declared.token.TokenKind.TheVariants.{Sign, Keyword, Name, Number}
use Rattle.pipes_token.specs.declared.token.TokenKind.TheVariants.{Text, Long, Cut, Byte, End}
use Rattle.pipes_reader.specs.Reading.{refused_by, optional, unless, in_turn, done_with}
use Rattle.pipes_reader.specs.Reading.{many_within}
use Rattle.pipes_reader.specs.Sentences.{Grammar, GrammarBefore, Anywhere, Begins, has_last}
use Rattle.pipes_reader.specs.Causes.{AreAlike, itself, two_numbers, two_names, IsLimit}
use Rattle.pipes_reader.specs.Causes.{other_word}
use Rattle.pipes_reader.specs.Places.{AtToken, there}
use Rattle.pipes_reader.proofs.Causes.{HasValue, NoValue, LeafWhy, IsSteady, steady_by, plain_why}
use Rattle.pipes_reader.specs.Taking.{number_between, take_number, string_content, take_text}
use Rattle.pipes_reader.proofs.Readers.{IsReader, IsReaderIf, under, Then, both, ThenBefore}
use Rattle.pipes_reader.proofs.Readers.{turns, reworded}
use Rattle.pipes_reader.proofs.Repeats.{Many, last_step, more_steps}
use Rattle.pipes_reader.proofs.Repeats.{many_unended, StepsOn}
use Rattle.pipes_reader.proofs.Singles.{Pure, pure, reads_none, One, one, NotLast, HasCauses}
use Rattle.pipes_reader.proofs.Singles.{reads_one_if}
use Rattle.pipes_reader.proofs.Singles.{refused_place, Mapped, mapped, MappedBefore}
use Rattle.pipes_reader.proofs.Singles.{reads_mapped, NotNext, Optional, given, absent}
use Rattle.pipes_reader.proofs.Singles.{OptionalBefore, TailIs}
use Rattle.pipes_reader.proofs.Singles.{TailBefore, reads_tail, Guarded, guarded_by}
use Rattle.pipes_reader.proofs.Values.{some_number, reads_number, some_text}
use Rattle.pipes_reader.proofs.Values.{reads_text}
use Rattle.pipes_grammar.specs.Grammar.{source_named, HasSourceName}
use Rattle.pipes_grammar.proofs.PlanLevels.{first_named}
use Rattle.pipes_query.specs.declared.script.Command.TheVariants as command
use Rattle.pipes_query.specs.declared.script.Mode.{Mode}
use Rattle.pipes_query.specs.declared.script.Mode.TheVariants.{Inline, Threaded}
use Rattle.pipes_query.specs.declared.script.Script.{Script}
use Rattle.pipes_text.specs.declared.mark.Start.{Start}
use Rattle.pipes_text.specs.declared.mark.Start.TheVariants as start
use Rattle.pipes_text.specs.ScriptReading.{command_start_of, bar, bar_if, bar_of, barred_by}
use Rattle.pipes_text.specs.ScriptReading.{bar_refused}
use Rattle.pipes_text.specs.ScriptReading.{read_bar, source_of, source_refused, take_source}
use Rattle.pipes_text.specs.ScriptReading.{with_command, with_migrate, read_command, are_most}
use Rattle.pipes_text.specs.ScriptReading.{and_more, command_or_end, next_command, end_commands}

-- ---- the first token of a command

abbrev pub start_token : Start → TokenKind
start_token start.Feed = Keyword keyword.Feed
start_token start.Rest = Keyword keyword.Rest
start_token start.Await = Keyword keyword.Await
start_token start.Migrate = Keyword keyword.Migrate
start_token start.Drain = Keyword keyword.Drain

somes : {A : Type 0} {x y : A} → Some x ≡ Some y → x ≡ y
somes e = cc

pub start_is : (k : TokenKind) (s : Start) → command_start_of k ≡ Some s → k ≡ start_token s
start_is (Keyword keyword.Feed) s e = ap (λ (z : Start). start_token z) (somes e)
start_is (Keyword keyword.Rest) s e = ap (λ (z : Start). start_token z) (somes e)
start_is (Keyword keyword.Await) s e = ap (λ (z : Start). start_token z) (somes e)
start_is (Keyword keyword.Migrate) s e = ap (λ (z : Start). start_token z) (somes e)
start_is (Keyword keyword.Drain) s e = ap (λ (z : Start). start_token z) (somes e)
start_is _ s e = absurd cc

start_not_last : NotLast command_start_of
start_not_last (Keyword k) x e = refl
start_not_last _ x e = absurd cc

-- ---- bars

barred_place : (o : Option TextWhy) (k : TokenKind) (at : ℕ) → (barred_by o k at).at ≡ at
barred_place (Some w) k at = refl
barred_place None k at = refused_place k at

-- what bars a command is a limit
abbrev LimitIf : Option TextWhy → Type 0
LimitIf (Some w) = IsLimit w
LimitIf None = Unit {0}

bar_limit : (mode : Mode) (full moved : Bool) (s : Start) → LimitIf (bar mode full moved s)
bar_limit Inline true moved start.Feed = tt
bar_limit Inline false moved start.Feed = tt
bar_limit Inline true moved start.Rest = tt
bar_limit Inline false moved start.Rest = tt
bar_limit Inline full moved start.Await = tt
bar_limit Inline true moved start.Migrate = tt
bar_limit Inline false true start.Migrate = tt
bar_limit Inline false false start.Migrate = tt
bar_limit Inline true moved start.Drain = tt
bar_limit Inline false moved start.Drain = tt
bar_limit Threaded full moved start.Feed = tt
bar_limit Threaded full moved start.Rest = tt
bar_limit Threaded true moved start.Await = tt
bar_limit Threaded false moved start.Await = tt
bar_limit Threaded true moved start.Migrate = tt
bar_limit Threaded false true start.Migrate = tt
bar_limit Threaded false false start.Migrate = tt
bar_limit Threaded true moved start.Drain = tt
bar_limit Threaded false moved start.Drain = tt

bar_steady : (mode : Mode) (full moved : Bool) → IsSteady (bar_of mode full moved)
bar_steady mode full moved =
    steady_by (bar_of mode full moved) (λ n m e. refl) (λ v w e. refl)

-- a token that is barred begins a command
barred_start : (mode : Mode) (full moved : Bool) (k : TokenKind) (at : ℕ) (x : TextWhy)
    → bar_of mode full moved k ≡ Some x
    → IsLimit (bar_refused mode full moved k at).why × (first : Start)
    × (command_start_of k ≡ Some first)
barred_start mode full moved k at x e = by (command_start_of k) refl e
  where
    limit_is : (o : Option TextWhy) → o ≡ Some x → LimitIf o → IsLimit (barred_by o k at).why
    limit_is (Some w) f is = is
    limit_is None f is = absurd cc

    by : (o : Option Start) → command_start_of k ≡ o → bar_if mode full moved o ≡ Some x
        → IsLimit (bar_refused mode full moved k at).why × (first : Start)
        × (command_start_of k ≡ Some first)
    by (Some first) is f = (
      limit_is (bar_of mode full moved k) e
          (subst (λ (o : Option Start). LimitIf (bar_if mode full moved o)) (sym is)
          (bar_limit mode full moved first)),
      first,
      is,
    )
    by None is f = absurd cc

-- where no command may follow, none does
bar_all : (mode : Mode) (o : Option Start) → bar_if mode true true o ≡ None → o ≡ None
bar_all mode None e = refl
bar_all Inline (Some start.Feed) e = absurd cc
bar_all Inline (Some start.Rest) e = absurd cc
bar_all Inline (Some start.Await) e = absurd cc
bar_all Inline (Some start.Migrate) e = absurd cc
bar_all Inline (Some start.Drain) e = absurd cc
bar_all Threaded (Some start.Feed) e = absurd cc
bar_all Threaded (Some start.Rest) e = absurd cc
bar_all Threaded (Some start.Await) e = absurd cc
bar_all Threaded (Some start.Migrate) e = absurd cc
bar_all Threaded (Some start.Drain) e = absurd cc

pub none_next : (mode : Mode) (h : Option TokenKind) → NotNext (bar_of mode true true) h
    → NotNext command_start_of h
none_next mode None e = tt
none_next mode (Some k) e = bar_all mode (command_start_of k) e

-- a token that begins no command isn't barred
pub not_barred : (mode : Mode) (full moved : Bool) (h : Option TokenKind)
    → NotNext command_start_of h → NotNext (bar_of mode full moved) h
not_barred mode full moved None e = tt
not_barred mode full moved (Some k) e = ap (λ (o : Option Start). bar_if mode full moved o) e

-- ---- sources

pub source_is : (names : List (List ℕ)) (k : TokenKind) (i : ℕ) → source_of names k ≡ Some i
    → (w : List ℕ) × (k ≡ Name w) × (source_named names w ≡ Some i)
source_is names (Name w) i e = (w, refl, e)
source_is names _ i e = absurd cc

source_not_last : (names : List (List ℕ)) → NotLast (source_of names)
source_not_last names (Name w) x e = refl
source_not_last names _ x e = absurd cc

source_place : (k : TokenKind) (at : ℕ) → (source_refused k at).at ≡ at
source_place (Name w) at = refl
source_place k at = refused_place k at

some_source : (names : List (List ℕ)) → 0 < length names → Begins (One (source_of names)) []
some_source [] some = absurd (omega (arith, some))
some_source (name ∷ names) some = (0, Name name ∷ [], one (Name name) 0 (first_named name names))

abbrev is_name : TokenKind → Bool
is_name (Name w) = true
is_name _ = false

-- a word that isn't declared, where another is
source_causes : (names : List (List ℕ)) → HasSourceName names
    → HasCauses (source_of names) source_refused
source_causes names known k at is = by k is
  where
    others : (k j : TokenKind) → AreAlike k j → is_name k ≡ false → NoValue (source_of names) k
        → NoValue (source_of names) j
    others _ _ (itself k) e none = none
    others _ _ (two_numbers n m) e none = refl
    others _ _ (two_names v w) e none = absurd cc

    plain : (k : TokenKind) → is_name k ≡ false → NoValue (source_of names) k
        → LeafWhy (source_of names) k (refused_by k at).why
    plain k e none =
        plain_why (HasValue (source_of names)) ⊥ (NoValue (source_of names)) k at
        (λ j a. others k j a e none)

    by : (k : TokenKind) → NoValue (source_of names) k
        → LeafWhy (source_of names) k (source_refused k at).why
    by (Name w) none = other_word (Name w) known.name tt known.named (known.place, known.is)
    by (Sign x) none = plain (Sign x) refl none
    by (Keyword x) none = plain (Keyword x) refl none
    by (Number x) none = plain (Number x) refl none
    by (Text x) none = plain (Text x) refl none
    by (Cut x) none = plain (Cut x) refl none
    by Long none = plain Long refl none
    by Byte none = plain Byte refl none
    by End none = plain End refl none

reads_source : (names : List (List ℕ)) → 0 < length names
    → IsReaderIf (λ ts. HasSourceName names) (One (source_of names))
    (Anywhere (One (source_of names))) AtToken (take_source names)
unfolding take_source
reads_source names some =
    reads_one_if (HasSourceName names) (source_of names) source_refused (some_source names some)
    (source_not_last names) (λ k at is. inl (source_place k at)) (source_causes names)

-- ---- a command after its first token

abbrev pub counts : TokenKind → Option ℕ
counts = number_between 1 4000000

abbrev pub instants : TokenKind → Option ℕ
instants = number_between 0 horizon

abbrev pub fed : Script → ℕ → ℕ → Script
fed s i n = with_command s (command.Feed i n)

abbrev pub awaited : Script → ℕ → Script
awaited s n = with_command s (command.Await n)

abbrev pub CommandIs : List (List ℕ) → Script → Start → Grammar Script
CommandIs names s start.Feed = Then (One (source_of names)) (λ i. Mapped (fed s i) (One counts))
CommandIs names s start.Rest = Pure (with_command s command.Rest)
CommandIs names s start.Await = Mapped (awaited s) (One instants)
CommandIs names s start.Migrate = Mapped (with_migrate s) (One string_content)
CommandIs names s start.Drain = Pure (with_command s command.Drain)

abbrev CommandIn : List (List ℕ) → Script → Start → GrammarBefore Script
CommandIn names s start.Feed =
    ThenBefore (Anywhere (One (source_of names)))
    (λ i. MappedBefore (fed s i) (Anywhere (One counts)))
CommandIn names s start.Rest = Anywhere (Pure (with_command s command.Rest))
CommandIn names s start.Await = MappedBefore (awaited s) (Anywhere (One instants))
CommandIn names s start.Migrate = MappedBefore (with_migrate s) (Anywhere (One string_content))
CommandIn names s start.Drain = Anywhere (Pure (with_command s command.Drain))

some_count : (s : Script) (i : ℕ) → Begins (Mapped (fed s i) (One counts)) []
some_count s i = let n =
    some_number 1 4000000 (omega arith) in (fed s i n.0, n.1, mapped n.0 n.1 n.2)

pub reads_command : (names : List (List ℕ)) → 0 < length names → (s : Script) (first : Start)
    → IsReaderIf (λ ts. HasSourceName names) (CommandIs names s first) (CommandIn names s first)
    AtToken (read_command names s first)
reads_command names some s start.Feed =
    turns (One (source_of names)) (One (source_of names))
    (λ i. Mapped (fed s i) (One counts))
    (λ i. MappedBefore (fed s i) (Anywhere (One counts))) (take_source names)
    (λ i. in_turn (take_number 1 4000000) (λ n. done_with (fed s i n))) (reads_source names some)
    (λ i ks is. reads_mapped (fed s i) (One counts) (Anywhere (One counts)) (take_number 1 4000000)
    (reads_number 1 4000000 (omega arith)))
    (λ i ks is. some_count s i)
reads_command names some s start.Rest =
    under (λ ts known. tt) (reads_none (with_command s command.Rest))
reads_command names some s start.Await =
    under (λ ts known. tt)
    (reads_mapped (awaited s) (One instants) (Anywhere (One instants)) (take_number 0 horizon)
    (reads_number 0 horizon (omega arith)))
reads_command names some s start.Migrate =
    under (λ ts known. tt)
    (reads_mapped (with_migrate s) (One string_content) (Anywhere (One string_content)) take_text
    reads_text)
reads_command names some s start.Drain =
    under (λ ts known. tt) (reads_none (with_command s command.Drain))

some_command : (names : List (List ℕ)) → 0 < length names → (s : Script) (first : Start)
    → Begins (CommandIs names s first) []
some_command names some s start.Feed =
    let i = some_source names some in
    let n = some_count s i.0 in
    (n.0, i.1 ++ n.1, both i.0 n.0 i.1 n.1 i.2 n.2)
some_command names some s start.Rest = (with_command s command.Rest, [], pure)
some_command names some s start.Await =
    let n = some_number 0 horizon (omega arith) in (awaited s n.0, n.1, mapped n.0 n.1 n.2)
some_command names some s start.Migrate =
    let t = some_text in (with_migrate s t.0, t.1, mapped t.0 t.1 t.2)
some_command names some s start.Drain = (with_command s command.Drain, [], pure)

-- ---- one more command, or none

abbrev MoreIs : List (List ℕ) → Script → Start → Grammar (Script × Bool)
MoreIs names s first = Mapped and_more (CommandIs names s first)

abbrev MoreIn : List (List ℕ) → Script → Start → GrammarBefore (Script × Bool)
MoreIn names s first = MappedBefore and_more (CommandIn names s first)

abbrev pub stop : Script → Script × Bool
stop s = (s, false)

abbrev pub StepIs : List (List ℕ) → Script → Grammar (Script × Bool)
StepIs names s = Then (Optional command_start_of) (TailIs (MoreIs names s) (stop s))

abbrev pub EndIn : List (List ℕ) → Script → GrammarBefore (Script × Bool)
EndIn names s = ThenBefore (OptionalBefore command_start_of) (TailBefore (MoreIn names s) (stop s))

abbrev pub StepIn : List (List ℕ) → Mode → Script → GrammarBefore (Script × Bool)
StepIn names mode s = Guarded (bar_of mode false (are_most s)) (EndIn names s)

abbrev pub OverIn : Mode → Script → GrammarBefore Script
OverIn mode s = Guarded (bar_of mode true true) (Anywhere (Pure s))

start_steady : IsSteady command_start_of
start_steady = steady_by command_start_of (λ n m e. refl) (λ v w e. refl)

-- a command that begins with this token
some_more : (names : List (List ℕ)) → 0 < length names → (s : Script) (k : TokenKind)
    (first : Start) → command_start_of k ≡ Some first
    → (t : Script) × (more : List TokenKind) × StepIs names s (and_more t) (k ∷ more)
some_more names some s k first e =
    let c = some_command names some s first in (
      c.0,
      c.1,
      both (Some first) (and_more c.0) (k ∷ []) c.1 (given k first e) (mapped c.0 c.1 c.2),
    )

reads_end : (names : List (List ℕ)) → 0 < length names → (s : Script)
    → IsReaderIf (λ ts. HasSourceName names) (StepIs names s) (EndIn names s) AtToken
    (command_or_end names s)
reads_end names some s =
    reads_tail command_start_of (MoreIs names s) (MoreIn names s)
    (λ first. in_turn (read_command names s first) (λ t. done_with (and_more t)))
    (stop s) start_not_last start_steady
    (λ first. reads_mapped and_more (CommandIs names s first) (CommandIn names s first)
    (read_command names s first)
    (reads_command names some s first))
    (λ first. let c = some_command names some s first in (and_more c.0, c.1, mapped c.0 c.1 c.2))

stopping : (names : List (List ℕ)) (s : Script) → StepIs names s (stop s) []
stopping names s = both None (stop s) [] [] absent pure

pub reads_step : (names : List (List ℕ)) → 0 < length names → (mode : Mode) (s : Script)
    → IsReaderIf (λ ts. HasSourceName names) (StepIs names s) (StepIn names mode s) AtToken
    (next_command names mode s)
unfolding next_command read_bar
reads_step names some mode s =
    guarded_by (StepIs names s) (EndIn names s) AtToken (bar_of mode false (are_most s))
    (bar_refused mode false (are_most s)) (command_or_end names s) (reads_end names some s)
    (bar_steady mode false (are_most s)) (stop s, [], stopping names s)
    (λ t x is. there (barred_place (bar_of mode false (are_most s) t.kind) t.kind t.at))
    (λ k at x is.
    let b = barred_start mode false (are_most s) k at x is in
    let m = some_more names some s k b.1 b.2 in
    (b.0, (and_more m.0, m.1, m.2)))

pub some_many : (names : List (List ℕ)) (s : Script) → Begins (Many (StepIs names) s) []
some_many names s = (s, [], last_step s s [] (stopping names s))

steps_unended : (names : List (List ℕ)) → 0 < length names → Mode
    → (s t : Script) (ks : List TokenKind)
    → Many (StepIs names) s t ks → has_last ks ≡ false
steps_unended names some mode =
    many_unended (StepIs names) (λ s o ks is. (reads_step names some mode s).unended o ks is)

over_by : (names : List (List ℕ)) (s t : Script) (ls : List TokenKind) → Pure s t ls
    → Many (StepIs names) s t ls
over_by names s _ _ pure = last_step s s [] (stopping names s)

some_further : (names : List (List ℕ)) → 0 < length names → (s : Script) (k : TokenKind)
    (first : Start) → command_start_of k ≡ Some first → Begins (Many (StepIs names) s) (k ∷ [])
some_further names some s k first e =
    let m = some_more names some s k first e in (
      m.0,
      m.1,
      subst (λ (z : List TokenKind). Many (StepIs names) s m.0 z) (append-nil (k ∷ m.1))
          (more_steps s m.0 m.0 (k ∷ m.1) [] m.2
          (last_step m.0 m.0 [] (stopping names m.0))),
    )

pub reads_over : (names : List (List ℕ)) → 0 < length names → (mode : Mode) (s : Script)
    → IsReader (Many (StepIs names) s) (OverIn mode s) AtToken (end_commands mode s)
unfolding end_commands read_bar
reads_over names some mode s =
    guarded_by (Many (StepIs names) s) (Anywhere (Pure s)) AtToken (bar_of mode true true)
    (bar_refused mode true true) (done_with s)
    (reworded (Pure s) (Many (StepIs names) s) (Anywhere (Pure s)) (Anywhere (Pure s)) AtToken
    (done_with s) (reads_none s) (over_by names s) (steps_unended names some mode s)
    (λ t ks h is. is) (λ t ks h is. is))
    (bar_steady mode true true) (some_many names s)
    (λ t x is. there (barred_place (bar_of mode true true t.kind) t.kind t.at))
    (λ k at x is.
    let b = barred_start mode true true k at x is in
    (b.0, some_further names some s k b.1 b.2))

-- where the text ends, nothing more is read
pub steps_on : (names : List (List ℕ)) (mode : Mode)
    → StepsOn (StepIn names mode) (next_command names mode) (end_commands mode)
unfolding many_within next_command end_commands read_bar unless optional
steps_on names mode left s s2 ks h is = inr ([], s2, [], by left)
  where
    by : (left : ℕ)
        → many_within left (next_command names mode) (end_commands mode) s2 [] ≡ Ok (s2, [])
    by zero = refl
    by (suc left) = refl
