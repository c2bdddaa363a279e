-- What is read as a query is in the grammar, and what is in the grammar is read.
use Rattle.std.proofs.Common.{◌≡◌, ℕ, zero, suc, ◌+◌, ◌<◌, ◌≤◌, Bool, true, false, List, [], ◌∷◌}
use Rattle.std.proofs.Common.{◌++◌, length, map, Option, Some, None, Result, Ok, Err, refl, sym, ap}
use Rattle.std.proofs.Common.{subst, ◌∙◌, append_assoc, ◌⊎◌, inl, inr, arith, length-append}
use Rattle.std.proofs.lemmas.List.{append-nil, map-append}
use Rattle.pipes_token.specs.declared.keyword.Keyword.TheVariants as keyword
use Rattle.pipes_token.specs.declared.token.TokenKind.{TokenKind}
use Rattle.pipes_token.specs.declared.token.Sign.TheVariants.{Open, Close}
use Rattle.pipes_token.specs.declared.token.TokenKind.TheVariants.{Sign, Keyword, Name, Text}
use Rattle.pipes_token.specs.declared.token.Token.{Token}
use Rattle.pipes_window.specs.declared.kind.WindowKind.{WindowKind}
use Rattle.pipes_window.specs.declared.kind.WindowKind.TheVariants as window
use Rattle.pipes_reader.specs.Names.{is_taken, AreNew}
use Rattle.pipes_reader.specs.Reading.{Reads, refused_by, run_out, take_by, unless, in_turn}
use Rattle.pipes_reader.specs.Reading.{done_with, many_within}
use Rattle.pipes_reader.specs.Sentences.{Grammar, GrammarBefore, Anywhere, Begins, ahead, has_last}
use Rattle.pipes_reader.specs.Places.{AtToken, there}
use Rattle.pipes_reader.proofs.Causes.{plain_why}
use Rattle.pipes_reader.proofs.TokenLists.{both_unended}
use Rattle.pipes_reader.proofs.Readers.{IsReader, IsReaderIf, under, Then, both, ThenBefore}
use Rattle.pipes_reader.proofs.Readers.{turn, IsFree, ReadsSome, turns_room, reworded}
use Rattle.pipes_reader.proofs.Repeats.{Many, last_step, more_steps, ManyBefore, over, last_before}
use Rattle.pipes_reader.proofs.Repeats.{more_before, many_unended, StepsOn, reads_fitting}
use Rattle.pipes_reader.proofs.Singles.{Pure, pure, reads_none, One, one, Mapped, mapped}
use Rattle.pipes_reader.proofs.Singles.{MappedBefore, mapped_before, reads_mapped, Nothing}
use Rattle.pipes_reader.proofs.Singles.{NotNext, Guarded, guarded_by, reads_never, refused_place}
use Rattle.pipes_query.specs.declared.query.SourceDecl.{SourceDecl}
use Rattle.pipes_query.specs.Queries.{names_of}
use Rattle.pipes_text.specs.Grammar.{IsSource, source, AreSources, last, more}
use Rattle.pipes_text.specs.Limits.{ColumnsNamedOnce, ColumnsWithin}
use Rattle.pipes_text.specs.Taking.{source_or_plan, another_of, another_refused, plan_of}
use Rattle.pipes_text.specs.Reading.{read_source, are_some, read_next, source_if, next_source}
use Rattle.pipes_text.specs.Reading.{read_no_source, read_plan_mark, end_sources, read_sources}
use Rattle.pipes_text.proofs.Tokens.{another_is, plan_is, reads_next, another_token}
use Rattle.pipes_text.proofs.Tokens.{another_steady, end_is, reads_plan_mark}
use Rattle.pipes_text.proofs.ColumnLaws.{any, at_most}
use Rattle.pipes_text.proofs.SourceLaws.{WindowBefore, IsNewSource, SourceIn, source_unended}
use Rattle.pipes_text.proofs.SourceLaws.{reads_source, some_source}

-- ---- another source, or the plan

abbrev with_source : List SourceDecl → SourceDecl → List SourceDecl × Bool
with_source sources s = (sources ++ (s ∷ []), true)

abbrev ended_with : List SourceDecl → List SourceDecl × Bool
ended_with sources = (sources, false)

abbrev NextIs : List SourceDecl → Bool → Grammar (List SourceDecl × Bool)
NextIs sources true = Mapped (with_source sources) (IsNewSource any (names_of sources))
NextIs sources false = Pure (ended_with sources)

abbrev NextIn : List SourceDecl → Bool → GrammarBefore (List SourceDecl × Bool)
NextIn sources true = MappedBefore (with_source sources) (SourceIn (names_of sources))
NextIn sources false = Anywhere (Pure (ended_with sources))

abbrev next_of : List SourceDecl → TokenKind → Option Bool
next_of sources = source_or_plan (are_some sources)

abbrev StepIs : List SourceDecl → Grammar (List SourceDecl × Bool)
StepIs sources = Then (One (next_of sources)) (NextIs sources)

abbrev StepIn : List SourceDecl → GrammarBefore (List SourceDecl × Bool)
StepIn sources = ThenBefore (Anywhere (One (next_of sources))) (NextIn sources)

-- another name is left
abbrev HasRoom : List SourceDecl → Type 0
HasRoom sources = length (names_of sources) < 64

reads_next_by : (sources : List SourceDecl) (goes : Bool)
    → IsReaderIf (λ ts. HasRoom sources) (NextIs sources goes) (NextIn sources goes) AtToken
    (source_if goes sources)
reads_next_by sources true =
    reads_mapped (with_source sources) (IsNewSource any (names_of sources))
    (SourceIn (names_of sources))
    (read_source (names_of sources)) (reads_source (names_of sources))
reads_next_by sources false = under (λ ts room. tt) (reads_none (ended_with sources))

some_next : (sources : List SourceDecl) (goes : Bool) → Begins (NextIs sources goes) []
some_next sources true =
    let s = some_source (names_of sources) in (with_source sources s.0, s.1, mapped s.0 s.1 s.2)
some_next sources false = (ended_with sources, [], pure)

reads_step : (sources : List SourceDecl)
    → IsReaderIf (λ ts. HasRoom sources) (StepIs sources) (StepIn sources) AtToken
    (next_source sources)
unfolding next_source
reads_step sources =
    turns_room (HasRoom sources) (One (next_of sources)) (Anywhere (One (next_of sources)))
    (NextIs sources) (NextIn sources) (read_next (are_some sources))
    (λ goes. source_if goes sources) (under (λ ts room. tt) (reads_next (are_some sources)))
    (λ goes ks is. reads_next_by sources goes) (λ goes ks is. some_next sources goes)
    (λ goes ks h is. inl (λ j. is))

-- after the most sources, where there are some
abbrev EndIs : List SourceDecl → Grammar (List SourceDecl)
EndIs sources = Mapped (λ word. sources) (One (plan_of true))

abbrev EndBy : Bool → List SourceDecl → GrammarBefore (List SourceDecl)
EndBy true sources = MappedBefore (λ word. sources) (Anywhere (One (plan_of true)))
EndBy false sources = Nothing

abbrev EndIn : List SourceDecl → GrammarBefore (List SourceDecl)
EndIn sources = EndBy (are_some sources) sources

-- ---- sources

-- none or more
pub data Further : List SourceDecl → List TokenKind → Type 0 where
  none : Further [] []
  further : (s : SourceDecl) (ss : List SourceDecl) (ks ls : List TokenKind) → IsSource s ks
      → Further ss ls
      → Further (s ∷ ss) (ks ++ ls)

-- sources beside others, as limits allow, and `plan` where there are some
pub record MoreSources (limits : List SourceDecl → Type 0) (sources all : List SourceDecl)
    (ks : List TokenKind) : Type 0 where
  pub new : List SourceDecl
  pub ss : List TokenKind
  pub are : Further new ss
  pub named : AreNew (names_of sources) (names_of new)
  pub once : ColumnsNamedOnce new
  pub short : limits new
  pub all_is : all ≡ sources ++ new
  pub some : are_some all ≡ true
  pub ks_is : ks ≡ ss ++ (Keyword keyword.Plan ∷ [])

abbrev pub anything : List SourceDecl → Type 0
anything sources = Unit {0}

abbrev pub limited : ℕ → List SourceDecl → Type 0
limited left sources = (length sources ≤ left) × ColumnsWithin sources

names-append : (sources : List SourceDecl) (s : SourceDecl)
    → names_of (sources ++ (s ∷ [])) ≡ names_of sources ++ (s.name ∷ [])
names-append sources s = map-append (λ (s : SourceDecl). s.name) sources (s ∷ [])

some_after : (sources : List SourceDecl) (s : SourceDecl) → are_some (sources ++ (s ∷ [])) ≡ true
some_after [] s = refl
some_after (t ∷ ts) s = refl

-- a step by its source, or by the plan's keyword
pub data StepOf (wide : ℕ → Type 0) (sources : List SourceDecl) : List SourceDecl × Bool
    → List TokenKind → Type 0 where
  one_more : (s : SourceDecl) (ss : List TokenKind) → IsNewSource wide (names_of sources) s ss
      → StepOf wide sources (with_source sources s) (Keyword keyword.Source ∷ ss)
  no_more : are_some sources ≡ true
      → StepOf wide sources (ended_with sources) (Keyword keyword.Plan ∷ [])

step_by : (sources : List SourceDecl) (k : TokenKind) (goes : Bool) (o : List SourceDecl × Bool)
    (ks : List TokenKind)
    → next_of sources k ≡ Some goes → NextIs sources goes o ks → StepOf any sources o (k ∷ ks)
step_by sources k true _ _ e (mapped s ss is) =
    subst (λ (z : TokenKind). StepOf any sources (with_source sources s) (z ∷ ss))
    (sym (another_is (are_some sources) k e))
    (one_more s ss is)
step_by sources k false _ _ e pure =
    let p = plan_is (are_some sources) k e in
    subst (λ (z : TokenKind). StepOf any sources (ended_with sources) (z ∷ [])) (sym p.1)
    (no_more p.0)

step_of : (sources : List SourceDecl) (o : List SourceDecl × Bool) (ks : List TokenKind)
    → StepIs sources o ks
    → StepOf any sources o ks
step_of sources _ _ (both goes o _ ks (one k _ e) n) = step_by sources k goes o ks e n

within_by : (sources : List SourceDecl) (k : TokenKind) (goes : Bool) (o : List SourceDecl × Bool)
    (ks : List TokenKind)
    (h : Option TokenKind) → next_of sources k ≡ Some goes → NextIn sources goes o ks h
    → StepOf (at_most 32) sources o (k ∷ ks)
within_by sources k true _ _ _ e (mapped_before s ss h is) =
    subst (λ (z : TokenKind). StepOf (at_most 32) sources (with_source sources s) (z ∷ ss))
    (sym (another_is (are_some sources) k e))
    (one_more s ss is.0)
within_by sources k false _ _ _ e pure =
    let p = plan_is (are_some sources) k e in
    subst (λ (z : TokenKind). StepOf (at_most 32) sources (ended_with sources) (z ∷ [])) (sym p.1)
    (no_more p.0)

step_in : (sources : List SourceDecl) (o : List SourceDecl × Bool) (ks : List TokenKind)
    (h : Option TokenKind)
    → StepIn sources o ks h → StepOf (at_most 32) sources o ks
step_in sources _ _ _ (turn goes o _ ks h (one k _ e) n) = within_by sources k goes o ks h e n

goes_on : (wide : ℕ → Type 0) (limits next : List SourceDecl → Type 0)
    → ((s : SourceDecl) (ss : List SourceDecl) → wide (length s.names) → next ss → limits (s ∷ ss))
    → (sources s2 all : List SourceDecl) (ks ls : List TokenKind) (o : List SourceDecl × Bool)
    → StepOf wide sources o ks
    → o ≡ (s2, true) → MoreSources next s2 all ls → MoreSources limits sources all (ks ++ ls)
goes_on wide limits next step sources s2 all _ ls _ (one_more s ss is) e m =
    let same : sources ++ (s ∷ []) ≡ s2 = ap (λ (p : List SourceDecl × Bool). p.0) e in
    record {
      new = s ∷ m.new;
      ss = (Keyword keyword.Source ∷ ss) ++ m.ss;
      are = further s m.new (Keyword keyword.Source ∷ ss) m.ss is.is m.are;
      named = (
        is.free,
        subst (λ (z : List (List ℕ)). AreNew z (names_of m.new))
            (ap (λ (z : List SourceDecl). names_of z) (sym same) ∙ names-append sources s) m.named,
      );
      once = (is.new, m.once);
      short = step s m.new is.short m.short;
      all_is = m.all_is ∙ ap (λ (z : List SourceDecl). z ++ m.new) (sym same)
          ∙ append_assoc sources (s ∷ []) m.new;
      some = m.some;
      ks_is = ap (λ (z : List TokenKind). Keyword keyword.Source ∷ (ss ++ z)) m.ks_is
          ∙ ap (λ (z : List TokenKind). Keyword keyword.Source ∷ z)
          (sym (append_assoc ss m.ss (Keyword keyword.Plan ∷ [])));
    }
goes_on wide limits next step sources s2 all _ ls _ (no_more some) e m =
    absurd (no (ap (λ (p : List SourceDecl × Bool). p.1) e))
  where
    no : false ≡ true → ⊥
    no e = cc

stops : (wide : ℕ → Type 0) (limits : List SourceDecl → Type 0) → limits []
    → (sources s2 : List SourceDecl)
    (ks : List TokenKind) (o : List SourceDecl × Bool) → StepOf wide sources o ks → o ≡ (s2, false)
    → MoreSources limits sources s2 ks
stops wide limits least sources s2 _ _ (one_more s ss is) e =
    absurd (no (ap (λ (p : List SourceDecl × Bool). p.1) e))
  where
    no : true ≡ false → ⊥
    no e = cc
stops wide limits least sources s2 _ _ (no_more some) e =
    let same : sources ≡ s2 = ap (λ (p : List SourceDecl × Bool). p.0) e in
    record {
      new = [];
      ss = [];
      are = none;
      named = tt;
      once = tt;
      short = least;
      all_is = sym same ∙ sym (append-nil sources);
      some = ap (λ (z : List SourceDecl). are_some z) (sym same) ∙ some;
      ks_is = refl;
    }

gathered : (sources all : List SourceDecl) (ks : List TokenKind) → Many StepIs sources all ks
    → MoreSources anything sources all ks
gathered _ _ _ (last_step sources s2 ks is) =
    stops any anything tt sources s2 ks (s2, false) (step_of sources (s2, false) ks is) refl
gathered _ _ _ (more_steps sources s2 all ks ls is rest) =
    goes_on any anything anything (λ s ss h k. tt) sources s2 all ks ls (s2, true)
    (step_of sources (s2, true) ks is) refl
    (gathered s2 all ls rest)

end_within : (some : Bool) (sources all : List SourceDecl) (ks : List TokenKind)
    (h : Option TokenKind) → EndBy some sources all ks h
    → are_some sources ≡ some → MoreSources (limited 0) sources all ks
end_within false sources all ks h is e = absurd is
end_within true sources _ _ _ (mapped_before x _ _ (one k _ f)) e = record {
  new = [];
  ss = [];
  are = none;
  named = tt;
  once = tt;
  short = (omega arith, tt);
  all_is = sym (append-nil sources);
  some = e;
  ks_is = ap (λ (z : TokenKind). z ∷ []) (end_is true k x f);
}

end_at : (some : Bool) (sources : List SourceDecl) → are_some sources ≡ true
    → are_some sources ≡ some → (h : Option TokenKind)
    → EndBy some sources sources (Keyword keyword.Plan ∷ []) h
end_at true sources e f h = mapped_before tt (Keyword keyword.Plan ∷ []) h
    (one (Keyword keyword.Plan) tt refl)
end_at false sources e f h = absurd (no (sym e ∙ f))
  where
    no : true ≡ false → ⊥
    no e = cc

step_within : (left : ℕ) (sources all : List SourceDecl) (ks : List TokenKind)
    (h : Option TokenKind)
    → ManyBefore StepIn EndIn left sources all ks h → MoreSources (limited left) sources all ks
step_within _ _ _ _ _ (over sources all ks h is) =
    end_within (are_some sources) sources all ks h is refl
step_within _ _ _ _ _ (last_before left sources s2 ks h is) =
    stops (at_most 32) (limited (suc left)) (omega arith, tt) sources s2 ks (s2, false)
    (step_in sources (s2, false) ks h is) refl
step_within _ _ _ _ _ (more_before left sources s2 all ks ls h is rest) =
    goes_on (at_most 32) (limited (suc left)) (limited left)
    (λ s ss h k. (omega (arith, k.0), (h, k.1)))
    sources s2 all ks ls (s2, true) (step_in sources (s2, true) ks (ahead ls h) is) refl
    (step_within left s2 all ls h rest)

-- ---- the sources one by one

next_source_before : (new : List SourceDecl) (ss : List TokenKind) → Further new ss
    → (w : WindowKind) (h : Option TokenKind)
    → WindowBefore w (ahead (ss ++ (Keyword keyword.Plan ∷ [])) h)
next_source_before _ _ none w h = by w
  where
    by : (w : WindowKind) → WindowBefore w (Some (Keyword keyword.Plan))
    by (window.Time n) = refl
    by (window.Slide n m) = tt
    by (window.Count n) = tt
next_source_before _ _ (further s ss _ ls (source _ cs ms ws are late lasts) others) w h = by w
  where
    by : (w : WindowKind) → WindowBefore w (Some (Keyword keyword.Source))
    by (window.Time n) = refl
    by (window.Slide n m) = tt
    by (window.Count n) = tt

plan_next : (some : Bool) → some ≡ true → source_or_plan some (Keyword keyword.Plan) ≡ Some false
plan_next true e = refl
plan_next false e = absurd cc

stopped : (sources : List SourceDecl) (h : Option TokenKind) → are_some sources ≡ true
    → StepIn sources (ended_with sources) (Keyword keyword.Plan ∷ []) h
stopped sources h some =
    turn false (ended_with sources) (Keyword keyword.Plan ∷ []) [] h
    (one (Keyword keyword.Plan) false (plan_next (are_some sources) some)) pure

apart : (left : ℕ) (sources all : List SourceDecl) (new : List SourceDecl) (ss : List TokenKind)
    (h : Option TokenKind)
    → Further new ss → AreNew (names_of sources) (names_of new) → ColumnsNamedOnce new
    → limited left new
    → all ≡ sources ++ new → are_some all ≡ true
    → ManyBefore StepIn EndIn left sources all (ss ++ (Keyword keyword.Plan ∷ [])) h
apart zero sources all _ _ h none named once short e some =
    let same : all ≡ sources = e ∙ append-nil sources in
    subst (λ (z : List SourceDecl). ManyBefore StepIn EndIn 0 sources z
    (Keyword keyword.Plan ∷ []) h) (sym same)
    (over sources sources (Keyword keyword.Plan ∷ []) h
    (end_at (are_some sources) sources (ap (λ (z : List SourceDecl). are_some z) (sym same)
    ∙ some) refl h))
apart (suc left) sources all _ _ h none named once short e some =
    let same : all ≡ sources = e ∙ append-nil sources in
    subst (λ (z : List SourceDecl). ManyBefore StepIn EndIn (suc left) sources z
    (Keyword keyword.Plan ∷ []) h) (sym same)
    (last_before left sources sources (Keyword keyword.Plan ∷ []) h
    (stopped sources h (ap (λ (z : List SourceDecl). are_some z) (sym same) ∙ some)))
apart zero sources all _ _ h (further s ss ks ls is others) named once short e some =
    absurd (omega (arith, short.0))
apart (suc left) sources all _ _ h
    (further s ss _ ls (source _ cs ms ws are late lasts) others) named once short e some =
    let tail = Name s.name ∷ Keyword keyword.From ∷ Text s.file ∷ Sign Open
    ∷ (cs ++ (Sign Close ∷ (ms ++ (Keyword keyword.Window ∷ ws)))) in
    let plan = ls ++ (Keyword keyword.Plan ∷ []) in
    let new : IsNewSource (at_most 32) (names_of sources) s tail =
    record {
      is = source s cs ms ws are late lasts;
      free = named.0;
      new = once.0;
      short =
          short.1.0;
    } in
    let rest = apart left (sources ++ (s ∷ [])) all ss ls h others
    (subst (λ (z : List (List ℕ)). AreNew z (names_of ss))
    (sym (names-append sources s)) named.1) once.1
    (omega (arith, short.0), short.1.1) (e ∙ sym (append_assoc sources (s ∷ []) ss)) some in
    let step : StepIn sources (with_source sources s) (Keyword keyword.Source ∷ tail)
    (ahead plan h) =
    turn true (with_source sources s) (Keyword keyword.Source ∷ []) tail (ahead plan h)
    (one (Keyword keyword.Source) true refl)
    (mapped_before s tail (ahead plan h) (new, next_source_before ss ls others s.window h)) in
    subst (λ (z : List TokenKind). ManyBefore StepIn EndIn (suc left) sources all z h)
    (sym (append_assoc (Keyword keyword.Source ∷ tail) ls (Keyword keyword.Plan ∷ [])))
    (more_before left sources (sources ++ (s ∷ [])) all
    (Keyword keyword.Source ∷ tail) plan h step rest)

-- ---- their reader

some_further : (sources : List SourceDecl)
    → Begins (Many StepIs sources) (Keyword keyword.Source ∷ [])
some_further sources =
    let s = some_source (names_of sources) in
    let all = sources ++ (s.0 ∷ []) in
    let first : StepIs sources (with_source sources s.0) (Keyword keyword.Source ∷ s.1) =
    both true (with_source sources s.0) (Keyword keyword.Source ∷ []) s.1
    (one (Keyword keyword.Source) true refl)
    (mapped s.0 s.1 s.2) in
    let last : StepIs all (ended_with all) (Keyword keyword.Plan ∷ []) =
    both false (ended_with all) (Keyword keyword.Plan ∷ []) []
    (one (Keyword keyword.Plan) false (plan_next (are_some all) (some_after sources s.0))) pure in (
      all,
      s.1 ++ (Keyword keyword.Plan ∷ []),
      more_steps sources all all (Keyword keyword.Source ∷ s.1) (Keyword keyword.Plan ∷ []) first
          (last_step all all (Keyword keyword.Plan ∷ []) last),
    )

pub some_many : (sources : List SourceDecl) → Begins (Many StepIs sources) []
some_many sources = let s = some_further sources in (s.0, Keyword keyword.Source ∷ s.1, s.2)

steps_unended : (sources all : List SourceDecl) (ks : List TokenKind) → Many StepIs sources all ks
    → has_last ks ≡ false
steps_unended = many_unended StepIs (λ s o ks is. (reads_step s).unended o ks is)

read_end : Bool → List SourceDecl → Reads (List SourceDecl)
read_end some sources = in_turn (read_plan_mark some) (λ word. done_with sources)

reads_plan_end : (some : Bool) (sources : List SourceDecl) → are_some sources ≡ some
    → IsReader (Many StepIs sources) (EndBy some sources) AtToken (read_end some sources)
unfolding read_end read_plan_mark take_by
reads_plan_end true sources e =
    reworded (EndIs sources) (Many StepIs sources) (EndBy true sources) (EndBy true sources) AtToken
    (in_turn (read_plan_mark true) (λ word. done_with sources))
    (reads_mapped (λ word. sources) (One (plan_of true)) (Anywhere (One (plan_of true)))
    (read_plan_mark true) reads_plan_mark)
    to (steps_unended sources) (λ all ks h is. is) (λ all ks h is. is)
  where
    to : (all : List SourceDecl) (ks : List TokenKind) → EndIs sources all ks
        → Many StepIs sources all ks
    to _ _ (mapped x _ (one k _ f)) =
        subst (λ (z : TokenKind). Many StepIs sources sources (z ∷ [])) (sym (end_is true k x f))
        (last_step sources sources (Keyword keyword.Plan ∷ [])
        (both false (ended_with sources) (Keyword keyword.Plan ∷ []) []
        (one (Keyword keyword.Plan) false (plan_next (are_some sources) e)) pure))
reads_plan_end false sources e =
    reads_never (Many StepIs sources) (some_many sources)
    (steps_unended sources) refused_by refused_place (λ k at. plain_why _ _ _ k at (λ j a. tt))
    (in_turn (read_plan_mark false) (λ word. done_with sources)) at_end refuses
  where
    at_end : in_turn (read_plan_mark false) (λ word. done_with sources) [] ≡ Err run_out
    at_end = refl

    refuses : (t : Token) (ts : List Token)
        → in_turn (read_plan_mark false) (λ word. done_with sources) (t ∷ ts) ≡ Err
        (refused_by t.kind t.at)
    refuses t ts = refl

-- what begins with the plan's keyword begins with no other source
not_another : (some : Bool) (sources all : List SourceDecl) (ks : List TokenKind)
    (h : Option TokenKind) → EndBy some sources all ks h → NotNext another_of (ahead ks h)
not_another false sources all ks h is = absurd is
not_another true sources _ _ _ (mapped_before x _ h (one k _ e)) =
    ap (λ (z : TokenKind). another_of z) (end_is true k x e)

reads_end : (sources : List SourceDecl)
    → IsReader (Many StepIs sources) (EndIn sources) AtToken (end_sources sources)
unfolding end_sources read_no_source read_end
reads_end sources =
    reworded (Many StepIs sources) (Many StepIs sources) (Guarded another_of (EndIn sources))
    (EndIn sources) AtToken (end_sources sources)
    (guarded_by (Many StepIs sources) (EndIn sources) AtToken another_of another_refused
    (read_end (are_some sources) sources) (reads_plan_end (are_some sources) sources refl)
    another_steady (some_many sources) (λ t x is. there refl)
    (λ k at x is. (
      tt,
      subst (λ (z : TokenKind). Begins (Many StepIs sources) (z ∷ []))
          (sym (another_token k x is)) (some_further sources),
    )))
    (λ all ks is. is) (steps_unended sources) (λ all ks h is. is.0)
    (λ all ks h is. (is, not_another (are_some sources) sources all ks h is))

-- after a source the plan is read
reads_plan_next : (left : ℕ) (sources : List SourceDecl) → are_some sources ≡ true
    → ReadsSome (many_within left next_source end_sources sources)
unfolding many_within next_source end_sources read_no_source read_next read_plan_mark take_by unless
reads_plan_next left sources some = (plan_token ∷ [], sources, [], by left)
  where
    plan_token : Token
    plan_token = record { at = 0; kind = Keyword keyword.Plan }

    by : (left : ℕ)
        → many_within left next_source end_sources sources (plan_token ∷ []) ≡ Ok (sources, [])
    by zero = rw some refl
    by (suc left) = rw some refl

steps_on : StepsOn StepIn next_source end_sources
steps_on left s s2 ks h is = by (s2, true) ks (step_in s (s2, true) ks h is) refl
  where
    no : false ≡ true → ⊥
    no e = cc

    by : (o : List SourceDecl × Bool) (ks : List TokenKind) → StepOf (at_most 32) s o ks
        → o ≡ (s2, true)
        → IsFree (StepIn s) (s2, true) ks
        ⊎ ReadsSome (many_within left next_source end_sources s2)
    by _ _ (one_more t ss new) e =
        let same : s ++ (t ∷ []) ≡ s2 = ap (λ (p : List SourceDecl × Bool). p.0) e in
        inr (reads_plan_next left s2
        (ap (λ (z : List SourceDecl). are_some z) (sym same) ∙ some_after s t))
    by _ _ (no_more some) e = absurd (no (ap (λ (p : List SourceDecl × Bool). p.1) e))

-- all sources
pub record AllSources (limits : List SourceDecl → Type 0) (all : List SourceDecl)
    (ks : List TokenKind) : Type 0 where
  pub ss : List TokenKind
  pub are : AreSources all ss
  pub named : AreNew [] (names_of all)
  pub once : ColumnsNamedOnce all
  pub short : limits all
  pub ks_is : ks ≡ ss ++ (Keyword keyword.Plan ∷ [])

are_sources : (all : List SourceDecl) (ss : List TokenKind) → Further all ss → are_some all ≡ true
    → AreSources all ss
are_sources _ _ none some = absurd cc
are_sources _ _ (further s _ ks _ is none) some =
    subst (λ (z : List TokenKind). AreSources (s ∷ []) z) (sym (append-nil ks)) (last s ks is)
are_sources _ _ (further s _ ks _ is (further t ts ms ns it others)) some =
    more s (t ∷ ts) ks (ms ++ ns) is
    (are_sources (t ∷ ts) (ms ++ ns) (further t ts ms ns it others) refl)

to_further : (all : List SourceDecl) (ss : List TokenKind) → AreSources all ss
    → Further all ss × (are_some all ≡ true)
to_further _ _ (last s ks is) = (
  subst (λ (z : List TokenKind). Further (s ∷ []) z) (append-nil ks)
      (further s [] ks [] is none),
  refl,
)
to_further _ _ (more s ss ks ls is are) = (further s ss ks ls is (to_further ss ls are).0, refl)

all_of : (limits : List SourceDecl → Type 0) (all : List SourceDecl) (ks : List TokenKind)
    → MoreSources limits [] all ks
    → AllSources limits all ks
all_of limits all ks m =
    let same : m.new ≡ all = sym m.all_is in
    record {
      ss = m.ss;
      are = are_sources all m.ss
          (subst (λ (z : List SourceDecl). Further z m.ss) same m.are) m.some;
      named = subst (λ (z : List SourceDecl). AreNew [] (names_of z)) same m.named;
      once = subst (λ (z : List SourceDecl). ColumnsNamedOnce z) same m.once;
      short = subst (λ (z : List SourceDecl). limits z) same m.short;
      ks_is = m.ks_is;
    }

pub further_unended : (ss : List SourceDecl) (ks : List TokenKind) → Further ss ks
    → has_last ks ≡ false
further_unended _ _ none = refl
further_unended _ _ (further s ss _ ls (source _ cs ms ws are late lasts) others) =
    let tail = Name s.name ∷ Keyword keyword.From ∷ Text s.file ∷ Sign Open
    ∷ (cs ++ (Sign Close ∷ (ms ++ (Keyword keyword.Window ∷ ws)))) in
    both_unended (Keyword keyword.Source ∷ tail) ls
    (source_unended s (Keyword keyword.Source ∷ tail) (source s cs ms ws are late lasts))
    (further_unended ss ls others)

pub all_unended : (limits : List SourceDecl → Type 0) (all : List SourceDecl) (ks : List TokenKind)
    → AllSources limits all ks
    → has_last ks ≡ false
all_unended limits all ks is =
    ap (λ (z : List TokenKind). has_last z) is.ks_is
    ∙ both_unended is.ss (Keyword keyword.Plan ∷ [])
    (further_unended all is.ss (to_further all is.ss is.are).0) refl

-- with so many sources left, another name is left too
abbrev Fits : ℕ → List SourceDecl → Type 0
Fits left sources = length (names_of sources) + left < 64

one_fits : (left : ℕ) (sources s2 : List SourceDecl) (ks : List TokenKind) (h : Option TokenKind)
    → StepIn sources (s2, true) ks h → Fits (suc left) sources → Fits left s2
one_fits left sources s2 ks h is fits = by (s2, true) ks (step_in sources (s2, true) ks h is) refl
  where
    no : false ≡ true → ⊥
    no e = cc

    by : (o : List SourceDecl × Bool) (ks : List TokenKind) → StepOf (at_most 32) sources o ks
        → o ≡ (s2, true) → Fits left s2
    by _ _ (one_more t ss new) e =
        omega (
          arith,
          fits,
          ap (λ (p : List SourceDecl × Bool). length (names_of p.0)) e,
          ap (λ (z : List (List ℕ)). length z) (names-append sources t),
          length-append (names_of sources) (t.name ∷ []),
        )
    by _ _ (no_more some) e = absurd (no (ap (λ (p : List SourceDecl × Bool). p.1) e))

pub reads_sources : IsReader (AllSources anything)
    (Anywhere (AllSources (limited 16))) AtToken read_sources
unfolding read_sources
reads_sources =
    reworded (Many StepIs []) (AllSources anything) (ManyBefore StepIn EndIn 16 [])
    (Anywhere (AllSources (limited 16)))
    AtToken read_sources
    (under (λ ts u. omega arith)
    (reads_fitting StepIs StepIn EndIn next_source end_sources HasRoom Fits reads_step reads_end
    some_many steps_on (λ left s fits. omega (arith, fits)) one_fits 16 []))
    (λ all ks m. all_of anything all ks (gathered [] all ks m)) (all_unended anything)
    (λ all ks h m. all_of (limited 16) all ks (step_within 16 [] all ks h m))
    (λ all ks h is. subst (λ (z : List TokenKind). ManyBefore StepIn EndIn 16 [] all z h)
    (sym is.ks_is)
    (let f = to_further all is.ss is.are in
    apart 16 [] all all is.ss h f.0 is.named is.once is.short refl f.1))

pub sources_fit : (ts rest : List Token) (all : List SourceDecl) → read_sources ts ≡ Ok (all, rest)
    → length all ≤ 16
sources_fit ts rest all e = (reads_sources.found ts all rest e).1.short.0
