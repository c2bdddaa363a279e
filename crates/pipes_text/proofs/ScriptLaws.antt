-- What is read as a script is in the grammar, and what is in the grammar is read.
use Rattle.std.proofs.Common.{◌≡◌, ℕ, zero, suc, ◌+◌, ◌<◌, ◌≤◌, Bool, true, false, nat_le, List, []}
use Rattle.std.proofs.Common.{◌∷◌, ◌++◌, length, Option, Some, None, Ok, refl, sym, ap, subst, ◌∙◌}
use Rattle.std.proofs.Common.{append_assoc, arith}
use Rattle.std.proofs.lemmas.List.{append-nil}
use Rattle.std.proofs.lemmas.Bool.{leb-true, leb-false}
use Rattle.pipes_time.specs.Interval.{horizon}
use Rattle.pipes_token.specs.declared.keyword.Keyword.TheVariants as keyword
use Rattle.pipes_token.specs.declared.token.TokenKind.{TokenKind}
use Rattle.pipes_token.specs.declared.token.TokenKind.TheVariants.{Keyword, Name, Number}
use Rattle.pipes_token.specs.declared.token.TokenKind.TheVariants.{Text}
use Rattle.pipes_token.specs.declared.token.Token.{Token}
use Rattle.pipes_reader.specs.Reading.{kinds_of}
use Rattle.pipes_reader.specs.Sentences.{GrammarBefore, ahead, has_last}
use Rattle.pipes_reader.specs.Places.{AtToken, there}
use Rattle.pipes_reader.specs.Taking.{string_content}
use Rattle.pipes_reader.proofs.TokenLists.{both_unended}
use Rattle.pipes_reader.proofs.Readers.{IsReaderIf, both, turn, reworded}
use Rattle.pipes_grammar.specs.Grammar.{HasSourceName}
use Rattle.pipes_reader.proofs.Repeats.{Many, last_step, more_steps, ManyBefore, over, last_before}
use Rattle.pipes_reader.proofs.Repeats.{more_before, reads_fitting}
use Rattle.pipes_reader.proofs.Singles.{Pure, pure, one}
use Rattle.pipes_reader.proofs.Singles.{mapped, mapped_before}
use Rattle.pipes_reader.proofs.Singles.{NotNext, given, absent}
use Rattle.pipes_reader.proofs.Singles.{given_before, absent_before}
use Rattle.pipes_reader.proofs.Values.{number_of, text_is}
use Rattle.pipes_query.specs.declared.script.Command.{Command}
use Rattle.pipes_query.specs.declared.script.Command.TheVariants as command
use Rattle.pipes_query.specs.declared.script.Mode.{Mode}
use Rattle.pipes_query.specs.declared.script.Mode.TheVariants.{Inline, Threaded}
use Rattle.pipes_query.specs.declared.script.Script.{Script}
use Rattle.pipes_query.specs.Scripts.{HasCommand}
use Rattle.pipes_text.specs.declared.mark.Start.{Start}
use Rattle.pipes_text.specs.declared.mark.Start.TheVariants as start
use Rattle.pipes_text.specs.Scripts.{file_place, with_file, IsCommand, AreCommands, IsScript}
use Rattle.pipes_text.specs.Scripts.{migrations, AreOfMode, IsScriptText}
use Rattle.pipes_text.specs.Scripts as grammar
use Rattle.pipes_text.specs.ScriptReading.{command_start_of, bar, bar_of}
use Rattle.pipes_text.specs.ScriptReading.{source_of}
use Rattle.pipes_text.specs.ScriptReading.{with_command, with_migrate, are_most}
use Rattle.pipes_text.specs.ScriptReading.{next_command, end_commands}
use Rattle.pipes_text.specs.ScriptReading.{no_commands, parse_script}
use Rattle.pipes_text.proofs.ScriptValues.{migrations-append, files_of}
use Rattle.pipes_text.proofs.SourceLaws.{number_token, number_bounds}
use Rattle.pipes_text.proofs.ScriptSteps.{start_token, start_is, none_next, not_barred, source_is}
use Rattle.pipes_text.proofs.ScriptSteps.{counts, instants, fed, awaited, CommandIs, reads_command}
use Rattle.pipes_text.proofs.ScriptSteps.{stop, StepIs, EndIn, StepIn, OverIn, reads_step}
use Rattle.pipes_text.proofs.ScriptSteps.{some_many, reads_over, steps_on}

-- ---- a command by its tokens

abbrev script : List Command → List (List ℕ) → Script
script cs fs = record { commands = cs; files = fs }

-- the command that was added, and the files after it
pub record CommandOf (names : List (List ℕ)) (s t : Script) (ks : List TokenKind) : Type 0 where
  pub c : Command
  pub gs : List (List ℕ)
  pub is : IsCommand names s.files c gs ks
  pub value : t ≡ script (s.commands ++ (c ∷ [])) gs

fed_by : (names : List (List ℕ)) (s : Script) (i n : ℕ) (k l : TokenKind)
    → source_of names k ≡ Some i
    → counts l ≡ Some n → CommandOf names s (fed s i n) (Keyword keyword.Feed ∷ k ∷ l ∷ [])
fed_by names s i n k l e f =
    let w = source_is names k i e in
    let b = number_bounds 1 4000000 n l f in
    record {
      c = command.Feed i n;
      gs = s.files;
      is = subst (λ (z : TokenKind). IsCommand names s.files (command.Feed i n) s.files
          (Keyword keyword.Feed ∷ z ∷ l ∷ [])) (sym w.1)
          (subst (λ (z : TokenKind). IsCommand names s.files (command.Feed i n) s.files
          (Keyword keyword.Feed ∷ Name w.0 ∷ z ∷ []))
          (sym (number_token 1 4000000 n l f))
          (grammar.IsCommand.feed s.files w.0 i n w.2 b.0 b.1));
      value = refl;
    }

awaited_by : (names : List (List ℕ)) (s : Script) (n : ℕ) (l : TokenKind) → instants l ≡ Some n
    → CommandOf names s (awaited s n) (Keyword keyword.Await ∷ l ∷ [])
awaited_by names s n l f = record {
  c = command.Await n;
  gs = s.files;
  is = subst (λ (z : TokenKind). IsCommand names s.files (command.Await n) s.files
      (Keyword keyword.Await ∷ z ∷ []))
      (sym (number_token 0 horizon n l f))
      (grammar.IsCommand.await s.files n (number_bounds 0 horizon n l f).1);
  value = refl;
}

moved_by : (names : List (List ℕ)) (s : Script) (file : List ℕ) (l : TokenKind)
    → string_content l ≡ Some file
    → CommandOf names s (with_migrate s file) (Keyword keyword.Migrate ∷ l ∷ [])
moved_by names s file l f = record {
  c = command.Migrate (file_place s.files file);
  gs = with_file s.files file;
  is = subst (λ (z : TokenKind). IsCommand names s.files (command.Migrate (file_place s.files file))
      (with_file s.files file) (Keyword keyword.Migrate ∷ z ∷ []))
      (sym (text_is l file f)) (grammar.IsCommand.migrate s.files file);
  value = refl;
}

command_by : (names : List (List ℕ)) (s t : Script) (first : Start) (ks : List TokenKind)
    → CommandIs names s first t ks
    → CommandOf names s t (start_token first ∷ ks)
command_by names s _ start.Feed _ (both i _ _ _ (one k _ e) (mapped n _ (one l _ f))) =
    fed_by names s i n k l e f
command_by names s _ start.Rest _ pure =
    record { c = command.Rest; gs = s.files; is = grammar.IsCommand.rest s.files; value = refl }
command_by names s _ start.Await _ (mapped n _ (one l _ f)) = awaited_by names s n l f
command_by names s _ start.Migrate _ (mapped file _ (one l _ f)) = moved_by names s file l f
command_by names s _ start.Drain _ pure =
    record { c = command.Drain; gs = s.files; is = grammar.IsCommand.drain s.files; value = refl }

command_of : (names : List (List ℕ)) (s t : Script) (k : TokenKind) (first : Start)
    (ks : List TokenKind)
    → command_start_of k ≡ Some first → CommandIs names s first t ks → CommandOf names s t (k ∷ ks)
command_of names s t k first ks e is =
    subst (λ (z : TokenKind). CommandOf names s t (z ∷ ks)) (sym (start_is k first e))
    (command_by names s t first ks is)

-- ---- commands

abbrev pair : Script → Bool → Script × Bool
pair s b = (s, b)

-- so many commands after a script, as a bound allows
pub record MoreCommands (names : List (List ℕ)) (fits : List Command → Type 0) (s t : Script)
    (ks : List TokenKind) : Type 0 where
  pub cs : List Command
  pub are : AreCommands names s.files cs t.files ks
  pub fit : fits cs
  pub all_is : t.commands ≡ s.commands ++ cs

abbrev any : List Command → Type 0
any cs = Unit {0}

no_more : (names : List (List ℕ)) (fits : List Command → Type 0) → fits [] → (s t : Script) → s ≡ t
    → MoreCommands names fits s t []
no_more names fits least s t e =
    subst (λ (z : Script). MoreCommands names fits s z []) e (record {
      cs = [];
      are = grammar.AreCommands.none s.files;
      fit = least;
      all_is = sym (append-nil s.commands);
    })

one_more : (names : List (List ℕ)) (fits next : List Command → Type 0) (s t u : Script)
    (ks ls : List TokenKind)
    (o : CommandOf names s t ks) → ((cs : List Command) → next cs → fits (o.c ∷ cs))
    → MoreCommands names next t u ls → MoreCommands names fits s u (ks ++ ls)
one_more names fits next s t u ks ls o step m = record {
  cs = o.c ∷ m.cs;
  are = grammar.AreCommands.next s.files o.gs u.files o.c m.cs ks ls o.is
      (subst (λ (z : Script). AreCommands names z.files m.cs u.files ls) o.value m.are);
  fit = step m.cs m.fit;
  all_is = m.all_is ∙ ap (λ (z : Script). z.commands ++ m.cs) o.value
      ∙ append_assoc s.commands (o.c ∷ []) m.cs;
}

no_step : true ≡ false → ⊥
no_step e = cc

-- what a step made, by the rest of it
gathered_end : (names : List (List ℕ)) (s t : Script) (goes : Bool) (o : Script × Bool)
    (ks : List TokenKind) → StepIs names s o ks
    → o ≡ pair t goes → (goes ≡ true → CommandOf names s t ks)
    × (goes ≡ false → (s ≡ t) × (ks ≡ []))
gathered_end names s t goes _ _ (both _ _ _ ks (given k first e) (mapped u _ is)) f = (
  (λ g. subst (λ (z : Script). CommandOf names s z (k ∷ ks)) (ap (λ (p : Script × Bool). p.0) f)
      (command_of names s u k first ks e is)),
  (λ g. absurd (no_step (ap (λ (p : Script × Bool). p.1) f ∙ g))),
)
gathered_end names s t goes _ _ (both _ _ _ _ absent pure) f = (
  (λ g. absurd (no_step (sym (ap (λ (p : Script × Bool). p.1) f ∙ g)))),
  (λ g. (ap (λ (p : Script × Bool). p.0) f, refl)),
)

gathered : (names : List (List ℕ)) (s t : Script) (ks : List TokenKind) → Many (StepIs names) s t ks
    → MoreCommands names any s t ks
gathered names _ _ _ (last_step s t ks is) =
    let e = (gathered_end names s t false (pair t false) ks is refl).1 refl in
    subst (λ (z : List TokenKind). MoreCommands names any s t z) (sym e.1)
    (no_more names any tt s t e.0)
gathered names _ _ _ (more_steps s t u ks ls is rest) =
    let o = (gathered_end names s t true (pair t true) ks is refl).0 refl in
    one_more names any any s t u ks ls o (λ cs h. tt) (gathered names t u ls rest)

-- ---- a script within the limits

feed_of : (mode : Mode) (most : Bool) (i n : ℕ) → bar mode false most start.Feed ≡ None
    → HasCommand mode (command.Feed i n)
feed_of Inline most i n e = tt
feed_of Threaded true i n e = absurd cc
feed_of Threaded false i n e = absurd cc

rest_of : (mode : Mode) (most : Bool) → bar mode false most start.Rest ≡ None
    → HasCommand mode command.Rest
rest_of Inline most e = tt
rest_of Threaded true e = absurd cc
rest_of Threaded false e = absurd cc

await_of : (mode : Mode) (most : Bool) (n : ℕ) → bar mode false most start.Await ≡ None
    → HasCommand mode (command.Await n)
await_of Threaded most n e = tt
await_of Inline true n e = absurd cc
await_of Inline false n e = absurd cc

migrate_of : (mode : Mode) (i : ℕ) → HasCommand mode (command.Migrate i)
migrate_of Inline i = tt
migrate_of Threaded i = tt

drain_of : (mode : Mode) → HasCommand mode command.Drain
drain_of Inline = tt
drain_of Threaded = tt

room_of : (mode : Mode) (most : Bool) → bar mode false most start.Migrate ≡ None → most ≡ false
room_of Inline true e = absurd cc
room_of Threaded true e = absurd cc
room_of Inline false e = refl
room_of Threaded false e = refl

below : (n : ℕ) → nat_le 2048 n ≡ false → n < 2048
below n e = omega (arith, leb-false 2048 n e)

-- a command that isn't barred is of the mode, and there is room for it
allowed : (names : List (List ℕ)) (mode : Mode) (base : ℕ) → base ≤ 2048
    → (fs gs : List (List ℕ)) (c : Command)
    (k : TokenKind) (ks : List TokenKind) → IsCommand names fs c gs (k ∷ ks)
    → bar_of mode false (nat_le 2048 base) k ≡ None
    → HasCommand mode c × (base + migrations (c ∷ []) ≤ 2048)
allowed names mode base le _ _ _ _ _ (grammar.IsCommand.feed fs w i n e low high) b =
    (feed_of mode (nat_le 2048 base) i n b, omega (arith, le))
allowed names mode base le _ _ _ _ _ (grammar.IsCommand.rest fs) b =
    (rest_of mode (nat_le 2048 base) b, omega (arith, le))
allowed names mode base le _ _ _ _ _ (grammar.IsCommand.await fs n high) b =
    (await_of mode (nat_le 2048 base) n b, omega (arith, le))
allowed names mode base le _ _ _ _ _ (grammar.IsCommand.migrate fs file) b = (
  migrate_of mode (file_place fs file),
  omega (arith, below base (room_of mode (nat_le 2048 base) b)),
)
allowed names mode base le _ _ _ _ _ (grammar.IsCommand.drain fs) b =
    (drain_of mode, omega (arith, le))

-- the commands fit after others of which so many are migrate commands
pub record Fits (mode : Mode) (left base : ℕ) (cs : List Command) : Type 0 where
  pub of_mode : AreOfMode mode cs
  pub few : length cs ≤ left
  pub moves : base + migrations cs ≤ 2048

fits_more : (mode : Mode) (left base : ℕ) (c : Command) (cs : List Command) → HasCommand mode c
    → Fits mode left (base + migrations (c ∷ [])) cs → Fits mode (suc left) base (c ∷ cs)
fits_more mode left base c cs h f = record {
  of_mode = (h, f.of_mode);
  few = omega (arith, f.few);
  moves = omega (arith, f.moves, migrations-append (c ∷ []) cs);
}

-- a step within the limits
data Taken (names : List (List ℕ)) (mode : Mode) (s : Script) : Script × Bool → List TokenKind
    → Option TokenKind → Type 0 where
  goes : (t : Script) (k : TokenKind) (ks : List TokenKind) (h : Option TokenKind)
      → CommandOf names s t (k ∷ ks)
      → bar_of mode false (are_most s) k ≡ None → Taken names mode s (pair t true) (k ∷ ks) h
  stops : (h : Option TokenKind) → NotNext command_start_of h
      → Taken names mode s (pair s false) [] h

module _ (names : List (List ℕ)) (some : 0 < length names) (mode : Mode) where
  end_in : (s : Script) (o : Script × Bool) (ks : List TokenKind) (h : Option TokenKind)
      → NotNext (bar_of mode false (are_most s)) (ahead ks h) → EndIn names s o ks h
      → Taken names mode s o ks h
  end_in s _ _ _ nb (turn _ _ _ ks h (given_before k first _ e) (mapped_before u _ _ is)) =
      goes u k ks h
      (command_of names s u k first ks e
      ((reads_command names some s first).wider u ks h is)) nb
  end_in s _ _ _ nb (turn _ _ _ _ h (absent_before _ next) pure) = stops h next

  step_in : (s : Script) (o : Script × Bool) (ks : List TokenKind) (h : Option TokenKind)
      → StepIn names mode s o ks h
      → Taken names mode s o ks h
  step_in s o ks h (is, nb) = end_in s o ks h nb is

  over_in : (s t : Script) (ks : List TokenKind) (h : Option TokenKind) → OverIn mode s t ks h
      → (s ≡ t) × (ks ≡ []) × NotNext command_start_of h
  over_in s t ks h (is, nb) = by t ks is nb
    where
      by : (t : Script) (ks : List TokenKind) → Pure s t ks
          → NotNext (bar_of mode true true) (ahead ks h)
          → (s ≡ t) × (ks ≡ []) × NotNext command_start_of h
      by _ _ pure nb = (refl, refl, none_next mode h nb)

  least : (left : ℕ) (s : Script) → migrations s.commands ≤ 2048
      → Fits mode left (migrations s.commands) []
  least left s le = record { of_mode = tt; few = omega arith; moves = omega (arith, le) }

  abbrev Within : ℕ → Script → Script → List TokenKind → Option TokenKind → Type 0
  Within left s t ks h = MoreCommands names (Fits mode left (migrations s.commands)) s t ks
      × NotNext command_start_of h

  last_by : (left : ℕ) (s t : Script) (o : Script × Bool) (ks : List TokenKind)
      (h : Option TokenKind)
      → Taken names mode s o ks h → o ≡ pair t false → migrations s.commands ≤ 2048
      → Within left s t ks h
  last_by left s t _ _ _ (goes u k ks h o nb) e le =
      absurd (no_step (ap (λ (p : Script × Bool). p.1) e))
  last_by left s t _ _ _ (stops h next) e le = (
    no_more names (Fits mode left (migrations s.commands)) (least left s le) s t
        (ap (λ (p : Script × Bool). p.0) e),
    next,
  )

  more_by : (left : ℕ) (s t u : Script) (o : Script × Bool) (ks ls : List TokenKind)
      (h n : Option TokenKind)
      → Taken names mode s o ks n → o ≡ pair t true → migrations s.commands ≤ 2048
      → (migrations t.commands ≤ 2048 → Within left t u ls h) → Within (suc left) s u (ks ++ ls) h
  more_by left s t u _ _ ls h _ (stops n next) e le rest =
      absurd (no_step (sym (ap (λ (p : Script × Bool). p.1) e)))
  more_by left s t u _ _ ls h _ (goes v k ks n o nb) e le rest =
      let same : v ≡ t = ap (λ (p : Script × Bool). p.0) e in
      let of : CommandOf names s t (k ∷ ks) =
      subst (λ (z : Script). CommandOf names s z (k ∷ ks)) same o in
      let a = allowed names mode (migrations s.commands) le s.files of.gs of.c k ks of.is nb in
      let count : migrations t.commands ≡ migrations s.commands + migrations (of.c ∷ []) =
      ap (λ (z : Script). migrations z.commands) of.value
      ∙ migrations-append s.commands (of.c ∷ []) in
      let r = rest (omega (arith, count, a.1)) in (
        one_more names (Fits mode (suc left) (migrations s.commands))
            (Fits mode left (migrations t.commands)) s t u (k ∷ ks) ls of
            (λ cs f. fits_more mode left (migrations s.commands) of.c cs a.0
            (subst (λ (z : ℕ). Fits mode left z cs) count f)) r.0,
        r.1,
      )

  within : (left : ℕ) (s t : Script) (ks : List TokenKind) (h : Option TokenKind)
      → ManyBefore (StepIn names mode) (OverIn mode) left s t ks h → migrations s.commands ≤ 2048
      → Within left s t ks h
  within _ _ _ _ _ (over s t ks h is) le =
      let o = over_in s t ks h is in (
        subst (λ (z : List TokenKind). MoreCommands names
            (Fits mode 0 (migrations s.commands)) s t z) (sym o.1)
            (no_more names (Fits mode 0 (migrations s.commands)) (least 0 s le) s t o.0),
        o.2,
      )
  within _ _ _ _ _ (last_before left s t ks h is) le =
      last_by (suc left) s t (pair t false) ks h (step_in s (pair t false) ks h is) refl le
  within _ _ _ _ _ (more_before left s t u ks ls h is rest) le =
      more_by left s t u (pair t true) ks ls h (ahead ls h)
      (step_in s (pair t true) ks (ahead ls h) is) refl le
      (λ more. within left t u ls h rest more)

  -- ---- the commands one by one

  not_feed : (most : Bool) (i n : ℕ) (m : Mode) → HasCommand m (command.Feed i n)
      → bar m false most start.Feed ≡ None
  not_feed true i n Inline h = refl
  not_feed false i n Inline h = refl
  not_feed most i n Threaded h = absurd h

  not_rest : (most : Bool) (m : Mode) → HasCommand m command.Rest
      → bar m false most start.Rest ≡ None
  not_rest true Inline h = refl
  not_rest false Inline h = refl
  not_rest most Threaded h = absurd h

  not_await : (most : Bool) (n : ℕ) (m : Mode) → HasCommand m (command.Await n)
      → bar m false most start.Await ≡ None
  not_await true n Threaded h = refl
  not_await false n Threaded h = refl
  not_await most n Inline h = absurd h

  not_drain : (most : Bool) (m : Mode) → bar m false most start.Drain ≡ None
  not_drain true Threaded = refl
  not_drain false Threaded = refl
  not_drain true Inline = refl
  not_drain false Inline = refl

  not_migrate : (most : Bool) (m : Mode) → most ≡ false → bar m false most start.Migrate ≡ None
  not_migrate false Threaded e = refl
  not_migrate false Inline e = refl
  not_migrate true m e = absurd cc

  over_most : (b : Bool) (n : ℕ) → nat_le 2048 n ≡ b → n < 2048 → b ≡ false
  over_most false n e lt = refl
  over_most true n e lt = absurd (omega (arith, lt, leb-true 2048 n e))

  -- a command as a step
  stepped : (before : List Command) (fs gs : List (List ℕ)) (c : Command) (ks : List TokenKind)
      (h : Option TokenKind)
      → IsCommand names fs c gs ks → HasCommand mode c
      → migrations before + migrations (c ∷ []) ≤ 2048
      → StepIn names mode (script before fs) (pair (script (before ++ (c ∷ [])) gs) true) ks h
  stepped before _ _ _ _ h (grammar.IsCommand.feed fs w i n e low high) of room =
      let s = script before fs in (
        turn (Some start.Feed) (pair (fed s i n) true) (Keyword keyword.Feed ∷ [])
            (Name w ∷ Number n ∷ []) h
            (given_before (Keyword keyword.Feed) start.Feed (Some (Name w)) refl)
            (mapped_before (fed s i n) (Name w ∷ Number n ∷ []) h
            (turn i (fed s i n) (Name w ∷ []) (Number n ∷ []) h (one (Name w) i e)
            (mapped_before n (Number n ∷ []) h (one (Number n) n
            (number_of 1 4000000 n low high))))),
        (not_feed (are_most s) i n mode of),
      )
  stepped before _ _ _ _ h (grammar.IsCommand.rest fs) of room =
      let s = script before fs in (
        turn (Some start.Rest) (pair (with_command s command.Rest) true)
            (Keyword keyword.Rest ∷ []) [] h
            (given_before (Keyword keyword.Rest) start.Rest h refl)
            (mapped_before (with_command s command.Rest) [] h pure),
        (not_rest (are_most s) mode of),
      )
  stepped before _ _ _ _ h (grammar.IsCommand.await fs n high) of room =
      let s = script before fs in (
        turn (Some start.Await) (pair (awaited s n) true) (Keyword keyword.Await ∷ [])
            (Number n ∷ []) h
            (given_before (Keyword keyword.Await) start.Await (Some (Number n)) refl)
            (mapped_before (awaited s n) (Number n ∷ []) h
            (mapped_before n (Number n ∷ []) h
            (one (Number n) n (number_of 0 horizon n (omega arith) high)))),
        (not_await (are_most s) n mode of),
      )
  stepped before _ _ _ _ h (grammar.IsCommand.migrate fs file) of room =
      let s = script before fs in
      let most : are_most s ≡ false = over_most (are_most s) (migrations before) refl
      (omega (arith, room)) in (
        turn (Some start.Migrate) (pair (with_migrate s file) true) (Keyword keyword.Migrate ∷ [])
            (Text file ∷ []) h
            (given_before (Keyword keyword.Migrate) start.Migrate (Some (Text file)) refl)
            (mapped_before (with_migrate s file) (Text file ∷ []) h
            (mapped_before file (Text file ∷ []) h (one (Text file) file refl))),
        (not_migrate (are_most s) mode most),
      )
  stepped before _ _ _ _ h (grammar.IsCommand.drain fs) of room =
      let s = script before fs in (
        turn (Some start.Drain) (pair (with_command s command.Drain) true)
            (Keyword keyword.Drain ∷ []) [] h
            (given_before (Keyword keyword.Drain) start.Drain h refl)
            (mapped_before (with_command s command.Drain) [] h pure),
        (not_drain (are_most s) mode),
      )

  ending : (left : ℕ) (s : Script) (h : Option TokenKind) → NotNext command_start_of h
      → ManyBefore (StepIn names mode) (OverIn mode) left s s [] h
  ending zero s h next =
      over s s [] h (pure, not_barred mode true true h next)
  ending (suc left) s h next =
      last_before left s s [] h (
        turn None (stop s) [] [] h (absent_before h next) pure,
        not_barred mode false (are_most s) h next,
      )

  back : (left : ℕ) (before total : List Command) (fs hs : List (List ℕ)) (cs : List Command)
      (ks : List TokenKind)
      (h : Option TokenKind) → AreCommands names fs cs hs ks → AreOfMode mode cs → length cs ≤ left
      → migrations before + migrations cs ≤ 2048 → total ≡ before ++ cs → NotNext command_start_of h
      → ManyBefore (StepIn names mode) (OverIn mode) left (script before fs) (script total hs) ks h
  back left before total _ _ _ _ h (grammar.AreCommands.none fs) of few room e next =
      subst (λ (z : List Command). ManyBefore (StepIn names mode) (OverIn mode) left
      (script before fs) (script z fs) [] h)
      (sym (append-nil before) ∙ sym e) (ending left (script before fs) h next)
  back zero before total _ _ _ _ h
      (grammar.AreCommands.next fs gs hs c cs ks ls is are) of few room e next =
      absurd (omega (arith, few))
  back (suc left) before total _ _ _ _ h
      (grammar.AreCommands.next fs gs hs c cs ks ls is are) of few room e next =
      let parts = migrations-append (c ∷ []) cs in
      let count = migrations-append before (c ∷ []) in
      more_before left (script before fs) (script (before ++ (c ∷ [])) gs) (script total hs) ks ls h
      (stepped before fs gs c ks (ahead ls h) is of.0 (omega (arith, room, parts)))
      (back left (before ++ (c ∷ [])) total gs hs cs ls h are of.1 (omega (arith, few))
      (omega (arith, room, parts, count))
      (e ∙ sym (append_assoc before (c ∷ []) cs)) next)

  -- ---- the reader of scripts

  abbrev pub ScriptIn : GrammarBefore Script
  ScriptIn s ks h = IsScriptText names mode s ks × NotNext command_start_of h

  spelled : (fits : List Command → Type 0) (t : Script) (ks : List TokenKind)
      → MoreCommands names fits no_commands t ks
      → IsScript names t ks
  spelled fits t ks m = subst (λ (z : List Command). AreCommands names [] z t.files ks)
      (sym m.all_is) m.are

  limited : (t : Script) (ks : List TokenKind) (h : Option TokenKind)
      → Within 65536 no_commands t ks h → ScriptIn t ks h
  limited t ks h (m, next) = (
    record {
      spells = spelled (Fits mode 65536 0) t ks m;
      of_mode = subst (λ (z : List Command). AreOfMode mode z) (sym m.all_is) m.fit.of_mode;
      commands = subst (λ (z : List Command). length z ≤ 65536) (sym m.all_is) m.fit.few;
      moves = omega (arith, m.fit.moves, ap (λ (z : List Command). migrations z) m.all_is);
    },
    next,
  )

  one_unended : (fs gs : List (List ℕ)) (c : Command) (ks : List TokenKind)
      → IsCommand names fs c gs ks
      → has_last ks ≡ false
  one_unended _ _ _ _ (grammar.IsCommand.feed fs w i n e low high) = refl
  one_unended _ _ _ _ (grammar.IsCommand.rest fs) = refl
  one_unended _ _ _ _ (grammar.IsCommand.await fs n high) = refl
  one_unended _ _ _ _ (grammar.IsCommand.migrate fs file) = refl
  one_unended _ _ _ _ (grammar.IsCommand.drain fs) = refl

  script_unended : (fs hs : List (List ℕ)) (cs : List Command) (ks : List TokenKind)
      → AreCommands names fs cs hs ks
      → has_last ks ≡ false
  script_unended _ _ _ _ (grammar.AreCommands.none fs) = refl
  script_unended _ _ _ _ (grammar.AreCommands.next fs gs hs c cs ks ls is are) =
      both_unended ks ls (one_unended fs gs c ks is) (script_unended gs hs cs ls are)

  pub reads_script : IsReaderIf (λ ts. HasSourceName names) (IsScript names) ScriptIn AtToken
      (parse_script names mode)
  unfolding parse_script
  reads_script =
      reworded (Many (StepIs names) no_commands) (IsScript names)
      (ManyBefore (StepIn names mode) (OverIn mode) 65536 no_commands) ScriptIn AtToken
      (parse_script names mode)
      (reads_fitting (StepIs names) (StepIn names mode) (OverIn mode) (next_command names mode)
      (end_commands mode) (λ s. HasSourceName names) (λ left s. HasSourceName names)
      (reads_step names some mode) (reads_over names some mode) (some_many names)
      (steps_on names mode) (λ left s known. known) (λ left s s2 ks h is known. known) 65536
      no_commands)
      (λ t ks m. spelled any t ks (gathered names no_commands t ks m))
      (λ t ks is. script_unended [] t.files t.commands ks is)
      (λ t ks h m. limited t ks h (within 65536 no_commands t ks h m (omega arith)))
      (λ t ks h is. back 65536 [] t.commands [] t.files t.commands ks h is.0.spells is.0.of_mode
      is.0.commands (omega (arith, is.0.moves)) refl is.1)

  -- ---- how much there is

  pub commands_fit : (ts rest : List Token) (t : Script) → parse_script names mode ts ≡ Ok (t, rest)
      → length t.commands ≤ 65536
  commands_fit ts rest t e = (reads_script.found ts t rest e).1.0.commands

  pub files_fit : (ts rest : List Token) (t : Script) → parse_script names mode ts ≡ Ok (t, rest)
      → length t.files ≤ 2048
  files_fit ts rest t e =
      let f = reads_script.found ts t rest e in
      omega (arith, files_of names [] t.files t.commands (kinds_of f.0) f.1.0.spells, f.1.0.moves)
