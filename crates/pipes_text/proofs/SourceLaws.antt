-- What is read as a source is in the grammar, and what is in the grammar is read.
use Rattle.std.proofs.Common.{◌≡◌, ℕ, zero, suc, ◌<◌, ◌≤◌, Bool, true, false, List, [], ◌∷◌}
use Rattle.std.proofs.Common.{◌++◌, length, Option, Some, None, refl, sym, ap, subst, ◌∙◌}
use Rattle.std.proofs.Common.{append_assoc, inr, arith}
use Rattle.std.proofs.lemmas.List.{append-nil}
use Rattle.pipes_time.specs.Interval.{horizon}
use Rattle.pipes_time.specs.Slides.{IsDuration}
use Rattle.pipes_token.specs.declared.token.Sign.TheVariants.{Open, Close}
use Rattle.pipes_token.specs.declared.keyword.Keyword.TheVariants as keyword
use Rattle.pipes_token.specs.declared.token.TokenKind.{TokenKind}
use Rattle.pipes_token.specs.declared.token.TokenKind.TheVariants.{Sign, Keyword, Name, Number}
use Rattle.pipes_token.specs.declared.token.TokenKind.TheVariants.{Text}
use Rattle.pipes_tuple.specs.declared.value.Kind.{Kind}
use Rattle.pipes_tuple.specs.declared.value.Kind.TheVariants as kind
use Rattle.pipes_window.specs.declared.kind.WindowKind.{WindowKind}
use Rattle.pipes_window.specs.declared.kind.WindowKind.TheVariants as window
use Rattle.pipes_reader.specs.Names.{is_taken, AreNew}
use Rattle.pipes_reader.specs.Reading.{Reads, in_turn, done_with}
use Rattle.pipes_reader.specs.Sentences.{Grammar, GrammarBefore, Anywhere, Begins, ahead, has_last}
use Rattle.pipes_reader.specs.Places.{AtToken}
use Rattle.pipes_reader.specs.Taking.{number_between, take_number, string_content, take_text}
use Rattle.pipes_reader.specs.Taking.{take_name}
use Rattle.pipes_reader.proofs.Fresh.{fresh}
use Rattle.pipes_reader.proofs.TokenLists.{both_unended, tokens_of, kinds-tokens}
use Rattle.pipes_reader.proofs.Readers.{IsReader, IsReaderIf, Then, both, ThenBefore, turn}
use Rattle.pipes_reader.proofs.Readers.{ReadsSome}
use Rattle.pipes_reader.proofs.Readers.{turns_if, turns, reworded}
use Rattle.pipes_reader.proofs.Singles.{Pure, pure, One, one, Mapped, mapped, MappedBefore}
use Rattle.pipes_reader.proofs.Singles.{mapped_before, reads_mapped, NotNext, Optional, given}
use Rattle.pipes_reader.proofs.Singles.{absent, OptionalBefore, given_before, absent_before, TailIs}
use Rattle.pipes_reader.proofs.Singles.{TailBefore, reads_tail}
use Rattle.pipes_reader.proofs.Values.{IsBetween, number_is, number_of, some_number, reads_number}
use Rattle.pipes_reader.proofs.Values.{text_is, some_text, reads_text, name_value, name_is}
use Rattle.pipes_reader.proofs.Values.{name_new, reads_name}
use Rattle.pipes_query.specs.declared.query.SourceDecl.{SourceDecl}
use Rattle.pipes_text.specs.declared.mark.Mark.TheVariants as mark
use Rattle.pipes_text.specs.declared.mark.Measure.{Measure}
use Rattle.pipes_text.specs.declared.mark.Measure.TheVariants as measure
use Rattle.pipes_text.specs.Grammar as grammar
use Rattle.pipes_text.specs.Grammar.{AreColumns, IsSlack, in_order, within, IsWindowText, time}
use Rattle.pipes_text.specs.Grammar.{slide, count, IsSource, source}
use Rattle.pipes_text.specs.Taking.{mark_value, source_word, slack_of, measure_of, slide_of}
use Rattle.pipes_text.specs.Reading.{Columns, SourceShape, expect, read_columns, read_slack}
use Rattle.pipes_text.specs.Reading.{read_measure}
use Rattle.pipes_text.specs.Reading.{read_slide, read_size, read_window, read_head, read_shape}
use Rattle.pipes_text.specs.Reading.{declared, read_source}
use Rattle.pipes_text.proofs.Tokens.{mark_is, mark_token, mark_own, some_mark, reads_mark}
use Rattle.pipes_text.proofs.Tokens.{source_not_last, source_is_word, source_steady, source_is}
use Rattle.pipes_text.proofs.Tokens.{slack_is, slack_not_last, slack_steady, slide_is}
use Rattle.pipes_text.proofs.Tokens.{slide_not_last, slide_steady, time_is, count_is}
use Rattle.pipes_text.proofs.Tokens.{reads_measure}
use Rattle.pipes_text.proofs.ColumnLaws.{More, any, at_most, no_columns, columns_unended}
use Rattle.pipes_text.proofs.ColumnLaws.{reads_columns}

-- ---- durations

abbrev duration : TokenKind → Option ℕ
duration = number_between 1 horizon

pub number_token : (low high n : ℕ) (k : TokenKind) → number_between low high k ≡ Some n
    → k ≡ Number n
number_token low high n k e = (number_is low high n k e).is

pub number_bounds : (low high n : ℕ) (k : TokenKind) → number_between low high k ≡ Some n
    → (low ≤ n) × (n ≤ high)
number_bounds low high n k e = let b = number_is low high n k e in (b.least, b.most)

reads_duration : IsReader (One duration) (Anywhere (One duration)) AtToken (take_number 1 horizon)
reads_duration = reads_number 1 horizon (omega arith)

some_duration : Begins (One duration) []
some_duration = some_number 1 horizon (omega arith)

-- ---- slack

-- what may follow
abbrev pub SlackBefore : ℕ → Option TokenKind → Type 0
SlackBefore zero h = NotNext slack_of h
SlackBefore (suc n) h = Unit {0}

abbrev pub SlackIn : GrammarBefore ℕ
SlackIn n ks h = IsSlack n ks × SlackBefore n h

abbrev SlackTail : Unit {0} → Grammar ℕ
SlackTail word = One duration

abbrev SlackTailIn : Unit {0} → GrammarBefore ℕ
SlackTailIn word = Anywhere (One duration)

slack_to : (n : ℕ) (ks : List TokenKind) → Then (Optional slack_of) (TailIs SlackTail 0) n ks
    → IsSlack n ks
slack_to _ _ (both _ _ _ _ (given k x e) (one l n f)) =
    subst (λ (z : TokenKind). IsSlack n (z ∷ l ∷ [])) (sym (slack_is k x e))
    (subst (λ (z : TokenKind). IsSlack n (Keyword keyword.Slack ∷ z ∷ []))
    (sym (number_token 1 horizon n l f))
    (within n (number_bounds 1 horizon n l f)))
slack_to _ _ (both _ _ _ _ absent pure) = in_order

slack_within : (n : ℕ) (ks : List TokenKind) (h : Option TokenKind)
    → ThenBefore (OptionalBefore slack_of) (TailBefore SlackTailIn 0) n ks h → SlackIn n ks h
slack_within _ _ _ (turn _ _ _ _ h (given_before k x _ e) (one l n f)) = (
  slack_to n (k ∷ l ∷ []) (both (Some x) n (k ∷ []) (l ∷ []) (given k x e) (one l n f)),
  free n (number_bounds 1 horizon n l f).0,
)
  where
    free : (n : ℕ) → 1 ≤ n → SlackBefore n h
    free zero le = absurd (omega (arith, le))
    free (suc n) le = tt
slack_within _ _ _ (turn _ _ _ _ h (absent_before _ next) pure) = (in_order, next)

slack_back : (n : ℕ) (ks : List TokenKind) (h : Option TokenKind) → IsSlack n ks → SlackBefore n h
    → ThenBefore (OptionalBefore slack_of) (TailBefore SlackTailIn 0) n ks h
slack_back _ _ h in_order next = turn None 0 [] [] h (absent_before h next) pure
slack_back _ _ h (within n d) next =
    turn (Some tt) n (Keyword keyword.Slack ∷ []) (Number n ∷ []) h
    (given_before (Keyword keyword.Slack) tt (Some (Number n)) refl)
    (one (Number n) n (number_of 1 horizon n d.0 d.1))

slack_unended : (n : ℕ) (ks : List TokenKind) → IsSlack n ks → has_last ks ≡ false
slack_unended _ _ in_order = refl
slack_unended _ _ (within n d) = refl

reads_slack : IsReader IsSlack SlackIn AtToken read_slack
unfolding read_slack
reads_slack =
    reworded (Then (Optional slack_of) (TailIs SlackTail 0)) IsSlack
    (ThenBefore (OptionalBefore slack_of) (TailBefore SlackTailIn 0)) SlackIn AtToken read_slack
    (reads_tail slack_of SlackTail SlackTailIn (λ word. take_number 1 horizon) 0 slack_not_last
    slack_steady
    (λ word. reads_duration) (λ word. some_duration))
    slack_to slack_unended slack_within (λ n ks h is. slack_back n ks h is.0 is.1)

-- ---- windows

abbrev pub WindowBefore : WindowKind → Option TokenKind → Type 0
WindowBefore (window.Time n) h = NotNext slide_of h
WindowBefore _ h = Unit {0}

abbrev pub WindowIn : GrammarBefore WindowKind
WindowIn w ks h = IsWindowText w ks × WindowBefore w h

abbrev sliding : ℕ → ℕ → WindowKind
sliding n m = window.Slide n m

abbrev SlideTail : ℕ → Unit {0} → Grammar WindowKind
SlideTail n word = Mapped (sliding n) (One duration)

abbrev SlideTailIn : ℕ → Unit {0} → GrammarBefore WindowKind
SlideTailIn n word = MappedBefore (sliding n) (Anywhere (One duration))

abbrev SlideIs : ℕ → Grammar WindowKind
SlideIs n = Then (Optional slide_of) (TailIs (SlideTail n) (window.Time n))

abbrev SlideIn : ℕ → GrammarBefore WindowKind
SlideIn n = ThenBefore (OptionalBefore slide_of) (TailBefore (SlideTailIn n) (window.Time n))

abbrev rows : TokenKind → Option ℕ
rows = number_between 1 1000000

abbrev counted : ℕ → WindowKind
counted n = window.Count n

abbrev SizeIs : Measure → Grammar WindowKind
SizeIs measure.Time = Then (One duration) SlideIs
SizeIs measure.Count = Mapped counted (One rows)

abbrev SizeIn : Measure → GrammarBefore WindowKind
SizeIn measure.Time = ThenBefore (Anywhere (One duration)) SlideIn
SizeIn measure.Count = MappedBefore counted (Anywhere (One rows))

some_slide_tail : (n : ℕ) (word : Unit {0}) → Begins (SlideTail n word) []
some_slide_tail n word = let d = some_duration in (sliding n d.0, d.1, mapped d.0 d.1 d.2)

some_slide : (n : ℕ) → Begins (SlideIs n) []
some_slide n = (window.Time n, [], both None (window.Time n) [] [] absent pure)

some_size : (m : Measure) → Begins (SizeIs m) []
some_size measure.Time =
    let d = some_duration in
    let s = some_slide d.0 in
    (s.0, d.1 ++ s.1, both d.0 s.0 d.1 s.1 d.2 s.2)
some_size measure.Count =
    let d = some_number 1 1000000 (omega arith) in (counted d.0, d.1, mapped d.0 d.1 d.2)

reads_slide : (n : ℕ) → IsReader (SlideIs n) (SlideIn n) AtToken (read_slide n)
unfolding read_slide
reads_slide n =
    reads_tail slide_of (SlideTail n) (SlideTailIn n)
    (λ word. in_turn (take_number 1 horizon) (λ m. done_with (sliding n m)))
    (window.Time n) slide_not_last slide_steady
    (λ word. reads_mapped (sliding n) (One duration) (Anywhere (One duration))
    (take_number 1 horizon) reads_duration)
    (some_slide_tail n)

reads_size : (m : Measure) → IsReader (SizeIs m) (SizeIn m) AtToken (read_size m)
reads_size measure.Time =
    turns (One duration) (One duration) SlideIs SlideIn
    (take_number 1 horizon) read_slide reads_duration
    (λ n ks is. reads_slide n) (λ n ks is. some_slide n)
reads_size measure.Count =
    reads_mapped counted (One rows) (Anywhere (One rows)) (take_number 1 1000000)
    (reads_number 1 1000000 (omega arith))

-- a time window, perhaps with a slide, and a count window, by their tokens
timed : (w : WindowKind) (k : TokenKind) (n : ℕ) (l : TokenKind) (ks : List TokenKind)
    → measure_of k ≡ Some measure.Time → duration l ≡ Some n → SlideIs n w ks
    → IsWindowText w (k ∷ l ∷ ks)
timed _ k n l _ e f (both _ _ _ _ (given s x g) (mapped m _ (one j _ i))) =
    subst (λ (z : TokenKind). IsWindowText (sliding n m) (z ∷ l ∷ s ∷ j ∷ [])) (sym (time_is k e))
    (subst (λ (z : TokenKind). IsWindowText (sliding n m) (Keyword keyword.Time ∷ z ∷ s ∷ j ∷ []))
    (sym (number_token 1 horizon n l f))
    (subst (λ (z : TokenKind). IsWindowText (sliding n m)
    (Keyword keyword.Time ∷ Number n ∷ z ∷ j ∷ [])) (sym (slide_is s x g))
    (subst (λ (z : TokenKind). IsWindowText (sliding n m)
    (Keyword keyword.Time ∷ Number n ∷ Keyword keyword.Slide ∷ z ∷ []))
    (sym (number_token 1 horizon m j i))
    (slide n m (number_bounds 1 horizon n l f) (number_bounds 1 horizon m j i)))))
timed _ k n l _ e f (both _ _ _ _ absent pure) =
    subst (λ (z : TokenKind). IsWindowText (window.Time n) (z ∷ l ∷ [])) (sym (time_is k e))
    (subst (λ (z : TokenKind). IsWindowText (window.Time n) (Keyword keyword.Time ∷ z ∷ []))
    (sym (number_token 1 horizon n l f))
    (time n (number_bounds 1 horizon n l f)))

counted_by : (k : TokenKind) (n : ℕ) (l : TokenKind) → measure_of k ≡ Some measure.Count
    → rows l ≡ Some n
    → IsWindowText (counted n) (k ∷ l ∷ [])
counted_by k n l e f =
    let b = number_bounds 1 1000000 n l f in
    subst (λ (z : TokenKind). IsWindowText (counted n) (z ∷ l ∷ [])) (sym (count_is k e))
    (subst (λ (z : TokenKind). IsWindowText (counted n) (Keyword keyword.Count ∷ z ∷ []))
    (sym (number_token 1 1000000 n l f))
    (count n b.0 b.1))

sized : (m : Measure) (w : WindowKind) (k : TokenKind) (ks : List TokenKind) → measure_of k ≡ Some m
    → SizeIs m w ks → IsWindowText w (k ∷ ks)
sized measure.Time _ k _ e (both n w _ ks (one l _ f) s) = timed w k n l ks e f s
sized measure.Count _ k _ e (mapped n _ (one l _ f)) = counted_by k n l e f

window_to : (w : WindowKind) (ks : List TokenKind) → Then (One measure_of) SizeIs w ks
    → IsWindowText w ks
window_to _ _ (both m w _ ks (one k _ e) s) = sized m w k ks e s

slide_plain : (n : ℕ) (w : WindowKind) (ks : List TokenKind) (h : Option TokenKind)
    → SlideIn n w ks h
    → SlideIs n w ks × WindowBefore w h
slide_plain n _ _ _ (turn _ _ _ _ h (given_before s x _ g) (mapped_before m ks _ is)) =
    (both (Some x) (sliding n m) (s ∷ []) ks (given s x g) (mapped m ks is), tt)
slide_plain n _ _ _ (turn _ _ _ _ h (absent_before _ next) pure) =
    (both None (window.Time n) [] [] absent pure, next)

size_within : (m : Measure) (w : WindowKind) (k : TokenKind) (ks : List TokenKind)
    (h : Option TokenKind)
    → measure_of k ≡ Some m → SizeIn m w ks h → WindowIn w (k ∷ ks) h
size_within measure.Time _ k _ _ e (turn n w _ ks h (one l _ f) s) =
    let p = slide_plain n w ks h s in (timed w k n l ks e f p.0, p.1)
size_within measure.Count _ k _ _ e (mapped_before n _ h (one l _ f)) = (counted_by k n l e f, tt)

window_within : (w : WindowKind) (ks : List TokenKind) (h : Option TokenKind)
    → ThenBefore (Anywhere (One measure_of)) SizeIn w ks h → WindowIn w ks h
window_within _ _ _ (turn m w _ ks h (one k _ e) s) = size_within m w k ks h e s

window_back : (w : WindowKind) (ks : List TokenKind) (h : Option TokenKind) → IsWindowText w ks
    → WindowBefore w h
    → ThenBefore (Anywhere (One measure_of)) SizeIn w ks h
window_back _ _ h (time n d) next =
    turn measure.Time (window.Time n) (Keyword keyword.Time ∷ []) (Number n ∷ []) h
    (one (Keyword keyword.Time) measure.Time refl)
    (turn n (window.Time n) (Number n ∷ []) [] h (one (Number n) n (number_of 1 horizon n d.0 d.1))
    (turn None (window.Time n) [] [] h (absent_before h next) pure))
window_back _ _ h (slide n m d e) next =
    turn measure.Time (sliding n m) (Keyword keyword.Time ∷ [])
    (Number n ∷ Keyword keyword.Slide ∷ Number m ∷ []) h
    (one (Keyword keyword.Time) measure.Time refl)
    (turn n (sliding n m) (Number n ∷ []) (Keyword keyword.Slide ∷ Number m ∷ []) h
    (one (Number n) n (number_of 1 horizon n d.0 d.1))
    (turn (Some tt) (sliding n m) (Keyword keyword.Slide ∷ []) (Number m ∷ []) h
    (given_before (Keyword keyword.Slide) tt (Some (Number m)) refl)
    (mapped_before m (Number m ∷ []) h (one (Number m) m (number_of 1 horizon m e.0 e.1)))))
window_back _ _ h (count n low high) next =
    turn measure.Count (counted n) (Keyword keyword.Count ∷ []) (Number n ∷ []) h
    (one (Keyword keyword.Count) measure.Count refl)
    (mapped_before n (Number n ∷ []) h (one (Number n) n (number_of 1 1000000 n low high)))

window_unended : (w : WindowKind) (ks : List TokenKind) → IsWindowText w ks → has_last ks ≡ false
window_unended _ _ (time n d) = refl
window_unended _ _ (slide n m d e) = refl
window_unended _ _ (count n low high) = refl

pub reads_window : IsReader IsWindowText WindowIn AtToken read_window
unfolding read_window
reads_window =
    reworded (Then (One measure_of) SizeIs) IsWindowText
    (ThenBefore (Anywhere (One measure_of)) SizeIn) WindowIn
    AtToken read_window
    (turns (One measure_of) (One measure_of) SizeIs SizeIn read_measure read_size reads_measure
    (λ m ks is. reads_size m) (λ m ks is. some_size m))
    window_to window_unended window_within (λ w ks h is. window_back w ks h is.0 is.1)

some_window : Begins IsWindowText []
some_window =
    (window.Time 1, Keyword keyword.Time ∷ Number 1 ∷ [], time 1 (omega arith, omega arith))

-- ---- a source's name and file

abbrev pub Head : Type 0
Head = List ℕ × List ℕ

abbrev pub IsHead : List (List ℕ) → Grammar Head
IsHead names h ks = (is_taken names h.0 ≡ false)
    × (ks ≡ Name h.0 ∷ Keyword keyword.From ∷ Text h.1 ∷ [])

abbrev with_file : List ℕ → List ℕ → Head
with_file name file = (name, file)

abbrev FileIs : List ℕ → Grammar Head
FileIs name = Then (One (mark_value mark.From)) (λ x. Mapped (with_file name) (One string_content))

abbrev FileIn : List ℕ → GrammarBefore Head
FileIn name =
    ThenBefore (Anywhere (One (mark_value mark.From)))
    (λ x. MappedBefore (with_file name) (Anywhere (One string_content)))

abbrev HeadIs : List (List ℕ) → Grammar Head
HeadIs names = Then (One (name_value source_word names)) FileIs

abbrev HeadIn : List (List ℕ) → GrammarBefore Head
HeadIn names = ThenBefore (Anywhere (One (name_value source_word names))) FileIn

headed : (names : List (List ℕ)) (name file : List ℕ) (k l m : TokenKind) (x : Unit {0})
    → name_value source_word names k ≡ Some name → mark_value mark.From l ≡ Some x
    → string_content m ≡ Some file
    → IsHead names (name, file) (k ∷ l ∷ m ∷ [])
headed names name file k l m x e f g =
    let n = name_is names (source_word k) name e in
    (n.1, three (source_is k name n.0) (mark_is mark.From l x f) (text_is m file g))
  where
    three : {a b c d e f : TokenKind} → a ≡ b → c ≡ d → e ≡ f → a ∷ c ∷ e ∷ [] ≡ b ∷ d ∷ f ∷ []
    three p q r = cc

head_to : (names : List (List ℕ)) (h : Head) (ks : List TokenKind) → HeadIs names h ks
    → IsHead names h ks
head_to names _ _
    (both name _ _ _ (one k _ e) (both x _ _ _ (one l _ f) (mapped file _ (one m _ g)))) =
    headed names name file k l m x e f g

head_within : (names : List (List ℕ)) (h : Head) (ks : List TokenKind) (n : Option TokenKind)
    → HeadIn names h ks n
    → IsHead names h ks
head_within names _ _ _
    (turn name _ _ _ _ (one k _ e)
    (turn x _ _ _ _ (one l _ f) (mapped_before file _ _ (one m _ g)))) =
    headed names name file k l m x e f g

head_back : (names : List (List ℕ)) (h : Head) (ks : List TokenKind) (n : Option TokenKind)
    → IsHead names h ks
    → HeadIn names h ks n
head_back names h ks n is = subst (λ (z : List TokenKind). HeadIn names h z n) (sym is.1)
    (turn h.0 h (Name h.0 ∷ []) (Keyword keyword.From ∷ Text h.1 ∷ []) n
    (one (Name h.0) h.0 (name_new names (Some h.0) h.0 refl is.0))
    (turn tt h (Keyword keyword.From ∷ []) (Text h.1 ∷ []) n (one (Keyword keyword.From) tt refl)
    (mapped_before h.1 (Text h.1 ∷ []) n (one (Text h.1) h.1 refl))))

head_unended : (names : List (List ℕ)) (h : Head) (ks : List TokenKind) → IsHead names h ks
    → has_last ks ≡ false
head_unended names h ks is = ap (λ (z : List TokenKind). has_last z) is.1

some_file : (name : List ℕ) → Begins (FileIs name) []
some_file name = (
  (name, []),
  Keyword keyword.From ∷ Text [] ∷ [],
  both tt (name, []) (Keyword keyword.From ∷ []) (Text [] ∷ []) (one (Keyword keyword.From) tt refl)
      (mapped [] (Text [] ∷ []) (one (Text []) [] refl)),
)

reads_file : (name : List ℕ) → IsReader (FileIs name) (FileIn name) AtToken
    (in_turn (expect mark.From) (λ x. in_turn take_text (λ file. done_with (with_file name file))))
reads_file name =
    turns (One (mark_value mark.From)) (One (mark_value mark.From))
    (λ x. Mapped (with_file name) (One string_content))
    (λ x. MappedBefore (with_file name) (Anywhere (One string_content))) (expect mark.From)
    (λ x. in_turn take_text (λ file. done_with (with_file name file))) (reads_mark mark.From)
    (λ x ks is. reads_mapped (with_file name) (One string_content)
    (Anywhere (One string_content)) take_text reads_text)
    (λ x ks is. ((name, []), Text [] ∷ [], mapped [] (Text [] ∷ []) (one (Text []) [] refl)))

pub reads_head : (names : List (List ℕ))
    → IsReaderIf (λ ts. length names < 64) (IsHead names) (Anywhere (IsHead names)) AtToken
    (read_head names)
unfolding read_head
reads_head names =
    reworded (HeadIs names) (IsHead names) (HeadIn names) (Anywhere (IsHead names)) AtToken
    (read_head names)
    (turns (One (name_value source_word names)) (One (name_value source_word names)) FileIs FileIn
    (take_name source_word names)
    (λ name. in_turn (expect mark.From)
    (λ x. in_turn take_text (λ file. done_with (with_file name file))))
    (reads_name source_word names (λ w. refl) source_not_last source_is_word source_steady)
    (λ name ks is. reads_file name)
    (λ name ks is. some_file name))
    (head_to names) (head_unended names) (head_within names)
    (λ h ks n is. head_back names h ks n is)

-- ---- its columns, slack and window

abbrev shaped : Columns → ℕ → WindowKind → SourceShape
shaped columns slack w = (columns, slack, w)

pub record IsShape (bound : ℕ → Type 0) (s : SourceShape) (ks : List TokenKind) : Type 0 where
  pub cs : List TokenKind
  pub ls : List TokenKind
  pub ws : List TokenKind
  pub are : AreColumns s.0.0 s.0.1 cs
  pub new : AreNew [] s.0.0
  pub short : bound (length s.0.0)
  pub late : IsSlack s.1 ls
  pub lasts : IsWindowText s.2 ws
  pub ks_is : ks ≡ Sign Open ∷ (cs ++ (Sign Close ∷ (ls ++ (Keyword keyword.Window ∷ ws))))

abbrev pub ShapeIn : GrammarBefore SourceShape
ShapeIn s ks h = IsShape (at_most 32) s ks × WindowBefore s.2 h

abbrev LastIs : Columns → ℕ → Grammar SourceShape
LastIs columns slack =
    Then (One (mark_value mark.Window)) (λ x. Mapped (shaped columns slack) IsWindowText)

abbrev LastIn : Columns → ℕ → GrammarBefore SourceShape
LastIn columns slack =
    ThenBefore (Anywhere (One (mark_value mark.Window)))
    (λ x. MappedBefore (shaped columns slack) WindowIn)

abbrev LateIs : Columns → Grammar SourceShape
LateIs columns = Then IsSlack (LastIs columns)

abbrev LateIn : Columns → GrammarBefore SourceShape
LateIn columns = ThenBefore SlackIn (LastIn columns)

abbrev InnerIs : Unit {0} → Grammar SourceShape
InnerIs x = Then (More any no_columns) LateIs

abbrev InnerIn : Unit {0} → GrammarBefore SourceShape
InnerIn x = ThenBefore (Anywhere (More (at_most 32) no_columns)) LateIn

abbrev ShapeIs : Grammar SourceShape
ShapeIs = Then (One (mark_value mark.Open)) InnerIs

abbrev ShapeTurns : GrammarBefore SourceShape
ShapeTurns = ThenBefore (Anywhere (One (mark_value mark.Open))) InnerIn

made : (bound : ℕ → Type 0) (columns : Columns) (slack : ℕ) (w : WindowKind) (k l : TokenKind)
    (x y : Unit {0})
    (cs ls ws : List TokenKind) → mark_value mark.Open k ≡ Some x → More bound no_columns columns cs
    → IsSlack slack ls → mark_value mark.Window l ≡ Some y → IsWindowText w ws
    → IsShape bound (columns, slack, w) (k ∷ (cs ++ (ls ++ (l ∷ ws))))
made bound columns slack w k l x y cs ls ws e m late f lasts =
    let same : columns ≡ beside m.names m.sorts = m.all_is in
    subst (λ (z : Columns). IsShape bound (z, slack, w) (k ∷ (cs ++ (ls ++ (l ∷ ws))))) (sym same)
    (record {
      cs = m.cs;
      ls = ls;
      ws = ws;
      are = m.are;
      new = m.new;
      short = m.short;
      late = late;
      lasts = lasts;
      ks_is = ap (λ (z : TokenKind). z ∷ (cs ++ (ls ++ (l ∷ ws)))) (mark_is mark.Open k x e)
          ∙ ap (λ (z : TokenKind). Sign Open ∷ (cs ++ (ls ++ (z ∷ ws)))) (mark_is mark.Window l y f)
          ∙ ap (λ (z : List TokenKind). Sign Open ∷
          (z ++ (ls ++ (Keyword keyword.Window ∷ ws)))) m.ks_is
          ∙ ap (λ (z : List TokenKind). Sign Open ∷ z)
          (append_assoc m.cs (Sign Close ∷ []) (ls ++ (Keyword keyword.Window ∷ ws)));
    })
  where
    beside : List (List ℕ) → List Kind → Columns
    beside names sorts = (names, sorts)

shape_to : (s : SourceShape) (ks : List TokenKind) → ShapeIs s ks → IsShape any s ks
shape_to _ _ (both x _ _ _ (one k _ e)
    (both columns _ cs _ m
    (both slack _ ls _ late (both y _ _ _ (one l _ f) (mapped w ws lasts))))) =
    made any columns slack w k l x y cs ls ws e m late f lasts

shape_within : (s : SourceShape) (ks : List TokenKind) (h : Option TokenKind) → ShapeTurns s ks h
    → ShapeIn s ks h
shape_within _ _ _
    (turn x _ _ _ _ (one k _ e)
    (turn columns _ cs _ _ m
    (turn slack _ ls _ _ late (turn y _ _ _ _ (one l _ f) (mapped_before w ws h lasts))))) =
    (made (at_most 32) columns slack w k l x y cs ls ws e m late.0 f lasts.0, lasts.1)

not_slack : (n : ℕ) → SlackBefore n (Some (Keyword keyword.Window))
not_slack zero = refl
not_slack (suc n) = tt

shape_back : (s : SourceShape) (ks : List TokenKind) (h : Option TokenKind)
    → IsShape (at_most 32) s ks
    → WindowBefore s.2 h
    → ShapeTurns s ks h
shape_back s ks h is next =
    let columns : More (at_most 32) no_columns s.0 (is.cs ++ (Sign Close ∷ [])) = record {
      names = s.0.0;
      sorts = s.0.1;
      cs = is.cs;
      are = is.are;
      new = is.new;
      short = is.short;
      all_is = refl;
      ks_is = refl;
    } in
    let rest = is.ls ++ (Keyword keyword.Window ∷ is.ws) in
    let last = turn tt s (Keyword keyword.Window ∷ []) is.ws h
    (one (Keyword keyword.Window) tt refl)
    (mapped_before s.2 is.ws h (is.lasts, next)) in
    let whole : ShapeTurns s (Sign Open ∷ ((is.cs ++ (Sign Close ∷ [])) ++ rest)) h =
    turn tt s (Sign Open ∷ []) ((is.cs ++ (Sign Close ∷ [])) ++ rest) h (one (Sign Open) tt refl)
    (turn s.0 s (is.cs ++ (Sign Close ∷ [])) rest h columns
    (turn s.1 s is.ls (Keyword keyword.Window ∷ is.ws) h (is.late, not_slack s.1) last)) in
    subst (λ (z : List TokenKind). ShapeTurns s z h)
    (ap (λ (z : List TokenKind). Sign Open ∷ z) (append_assoc is.cs (Sign Close ∷ []) rest)
    ∙ sym is.ks_is) whole

shape_unended : (bound : ℕ → Type 0) (s : SourceShape) (ks : List TokenKind) → IsShape bound s ks
    → has_last ks ≡ false
shape_unended bound s ks is =
    ap (λ (z : List TokenKind). has_last z) is.ks_is
    ∙ both_unended is.cs (Sign Close ∷ (is.ls ++ (Keyword keyword.Window ∷ is.ws)))
    (columns_unended s.0.0 s.0.1 is.cs is.are)
    (both_unended is.ls (Keyword keyword.Window ∷ is.ws) (slack_unended s.1 is.ls is.late)
    (window_unended s.2 is.ws is.lasts))

some_last : (columns : Columns) (slack : ℕ) → Begins (LastIs columns slack) []
some_last columns slack =
    let w = some_window in (
      shaped columns slack w.0,
      Keyword keyword.Window ∷ w.1,
      both tt (shaped columns slack w.0) (Keyword keyword.Window ∷ []) w.1
          (one (Keyword keyword.Window) tt refl)
          (mapped w.0 w.1 w.2),
    )

some_late : (columns : Columns) → Begins (LateIs columns) []
some_late columns =
    let l = some_last columns 0 in
    (l.0, l.1, both 0 l.0 [] l.1 in_order l.2)

one_column : More any no_columns ((97 ∷ []) ∷ [], kind.Int ∷ [])
    (Name (97 ∷ []) ∷ Keyword keyword.Int ∷ Sign Close ∷ [])
one_column = record {
  names = (97 ∷ []) ∷ [];
  sorts = kind.Int ∷ [];
  cs = Name (97 ∷ []) ∷ Keyword keyword.Int ∷ [];
  are = grammar.last (97 ∷ []) kind.Int (Name (97 ∷ []) ∷ Keyword keyword.Int ∷ [])
      (grammar.column (97 ∷ []) kind.Int (Name (97 ∷ [])) (Keyword keyword.Int) refl refl);
  new = (refl, tt);
  short = tt;
  all_is = refl;
  ks_is = refl;
}

some_inner : (x : Unit {0}) → Begins (InnerIs x) []
some_inner x =
    let columns : Columns = ((97 ∷ []) ∷ [], kind.Int ∷ []) in
    let l = some_late columns in
    let cs = Name (97 ∷ []) ∷ Keyword keyword.Int ∷ Sign Close ∷ [] in
    (l.0, cs ++ l.1, both columns l.0 cs l.1 one_column l.2)

abbrev read_last : Columns → ℕ → Reads SourceShape
read_last columns slack =
    in_turn (expect mark.Window)
    (λ x. in_turn read_window (λ w. done_with (shaped columns slack w)))

abbrev read_late : Columns → Reads SourceShape
read_late columns = in_turn read_slack (read_last columns)

reads_last : (columns : Columns) (slack : ℕ)
    → IsReader (LastIs columns slack) (LastIn columns slack) AtToken (read_last columns slack)
reads_last columns slack =
    turns (One (mark_value mark.Window)) (One (mark_value mark.Window))
    (λ x. Mapped (shaped columns slack) IsWindowText)
    (λ x. MappedBefore (shaped columns slack) WindowIn)
    (expect mark.Window) (λ x. in_turn read_window (λ w. done_with (shaped columns slack w)))
    (reads_mark mark.Window)
    (λ x ks is. reads_mapped (shaped columns slack) IsWindowText WindowIn read_window reads_window)
    (λ x ks is. let w = some_window in (shaped columns slack w.0, w.1, mapped w.0 w.1 w.2))

-- some window is read
some_last_read : (columns : Columns) (slack : ℕ) → ReadsSome (read_last columns slack)
some_last_read columns slack =
    let w = window.Time 1 in
    let ws = Keyword keyword.Time ∷ Number 1 ∷ [] in
    let ts = tokens_of (Keyword keyword.Window ∷ ws) in
    let is : LastIn columns slack (shaped columns slack w) (Keyword keyword.Window ∷ ws) None =
    turn tt (shaped columns slack w) (Keyword keyword.Window ∷ []) ws None
    (one (Keyword keyword.Window) tt refl)
    (mapped_before w ws None (time 1 (omega arith, omega arith), tt)) in (
      ts ++ [],
      shaped columns slack w,
      [],
      (reads_last columns slack).only (shaped columns slack w) ts []
          (subst (λ (z : List TokenKind). LastIn columns slack (shaped columns slack w) z None)
          (sym (kinds-tokens (Keyword keyword.Window ∷ ws))) is),
    )

reads_late : (columns : Columns)
    → IsReader (LateIs columns) (LateIn columns) AtToken (read_late columns)
reads_late columns =
    turns_if IsSlack SlackIn (LastIs columns) (LastIn columns) read_slack
    (read_last columns) reads_slack
    (λ slack ks is. reads_last columns slack) (λ slack ks is. some_last columns slack)
    (λ slack ks h is. inr (some_last_read columns slack))

reads_inner : (x : Unit {0})
    → IsReader (InnerIs x) (InnerIn x) AtToken (in_turn read_columns read_late)
reads_inner x =
    turns (More any no_columns) (More (at_most 32) no_columns) LateIs LateIn read_columns read_late
    reads_columns (λ columns ks is. reads_late columns) (λ columns ks is. some_late columns)

pub reads_shape : IsReader (IsShape any) ShapeIn AtToken read_shape
unfolding read_shape
reads_shape =
    reworded ShapeIs (IsShape any) ShapeTurns ShapeIn AtToken read_shape
    (turns (One (mark_value mark.Open)) (One (mark_value mark.Open)) InnerIs InnerIn
    (expect mark.Open)
    (λ x. in_turn read_columns read_late) (reads_mark mark.Open) (λ x ks is. reads_inner x)
    (λ x ks is. some_inner x))
    shape_to (shape_unended any) shape_within (λ s ks h is. shape_back s ks h is.0 is.1)

-- ---- a source

-- a source beside others, from after its keyword
pub record IsNewSource (bound : ℕ → Type 0) (names : List (List ℕ)) (s : SourceDecl)
    (ks : List TokenKind) : Type 0 where
  pub is : IsSource s (Keyword keyword.Source ∷ ks)
  pub free : is_taken names s.name ≡ false
  pub new : AreNew [] s.names
  pub short : bound (length s.names)

abbrev pub SourceIn : List (List ℕ) → GrammarBefore SourceDecl
SourceIn names s ks h = IsNewSource (at_most 32) names s ks × WindowBefore s.window h

abbrev SourceIs : List (List ℕ) → Grammar SourceDecl
SourceIs names = Then (IsHead names) (λ head. Mapped (declared head) (IsShape any))

abbrev SourceTurns : List (List ℕ) → GrammarBefore SourceDecl
SourceTurns names =
    ThenBefore (Anywhere (IsHead names)) (λ head. MappedBefore (declared head) ShapeIn)

joined : (bound : ℕ → Type 0) (names : List (List ℕ)) (head : Head) (shape : SourceShape)
    (hs ss : List TokenKind)
    → IsHead names head hs → IsShape bound shape ss
    → IsNewSource bound names (declared head shape) (hs ++ ss)
joined bound names head shape hs ss h sh = record {
  is = subst (λ (z : List TokenKind). IsSource (declared head shape) (Keyword keyword.Source ∷ z))
      (sym (ap (λ (z : List TokenKind). z ++ ss) h.1
      ∙ ap (λ (z : List TokenKind). Name head.0 ∷ Keyword keyword.From ∷ Text head.1 ∷ z) sh.ks_is))
      (source (declared head shape) sh.cs sh.ls sh.ws sh.are sh.late sh.lasts);
  free = h.0;
  new = sh.new;
  short = sh.short;
}

source_to : (names : List (List ℕ)) (s : SourceDecl) (ks : List TokenKind) → SourceIs names s ks
    → IsNewSource any names s ks
source_to names _ _ (both head _ hs _ h (mapped shape ss sh)) =
    joined any names head shape hs ss h sh

source_within : (names : List (List ℕ)) (s : SourceDecl) (ks : List TokenKind)
    (n : Option TokenKind)
    → SourceTurns names s ks n → SourceIn names s ks n
source_within names _ _ _ (turn head _ hs _ _ h (mapped_before shape ss n sh)) =
    (joined (at_most 32) names head shape hs ss h sh.0, sh.1)

source_back : (names : List (List ℕ)) (s : SourceDecl) (all ks : List TokenKind)
    (n : Option TokenKind)
    → IsSource s all → all ≡ Keyword keyword.Source ∷ ks → is_taken names s.name ≡ false
    → AreNew [] s.names
    → length s.names ≤ 32 → WindowBefore s.window n → SourceTurns names s ks n
source_back names _ _ ks n (source s cs ls ws are late lasts) e free new short next =
    let inside = Sign Open ∷ (cs ++ (Sign Close ∷ (ls ++ (Keyword keyword.Window ∷ ws)))) in
    let tail : Name s.name ∷ Keyword keyword.From ∷ Text s.file ∷ inside ≡ ks = cc in
    let shape : SourceShape = ((s.names, s.schema), s.slack, s.window) in
    let is : IsShape (at_most 32) shape inside =
    record {
      cs = cs;
      ls = ls;
      ws = ws;
      are = are;
      new = new;
      short = short;
      late = late;
      lasts =
          lasts;
      ks_is = refl;
    } in
    subst (λ (z : List TokenKind). SourceTurns names s z n) tail
    (turn (s.name, s.file) s (Name s.name ∷ Keyword keyword.From ∷ Text s.file ∷ []) inside n
    (free, refl)
    (mapped_before shape inside n (is, next)))

pub source_unended : (s : SourceDecl) (ks : List TokenKind) → IsSource s ks → has_last ks ≡ false
source_unended _ _ (source s cs ls ws are late lasts) =
    both_unended cs (Sign Close ∷ (ls ++ (Keyword keyword.Window ∷ ws)))
    (columns_unended s.names s.schema cs are)
    (both_unended ls (Keyword keyword.Window ∷ ws) (slack_unended s.slack ls late)
    (window_unended s.window ws lasts))

new_unended : (names : List (List ℕ)) (s : SourceDecl) (ks : List TokenKind)
    → IsNewSource any names s ks
    → has_last ks ≡ false
new_unended names s ks is = source_unended s (Keyword keyword.Source ∷ ks) is.is

some_shape : (head : Head) → Begins (Mapped (declared head) (IsShape any)) []
some_shape head =
    let n = some_inner tt in
    let whole : ShapeIs n.0 (Sign Open ∷ n.1) =
    both tt n.0 (Sign Open ∷ []) n.1 (one (Sign Open) tt refl) n.2 in (
      declared head n.0,
      Sign Open ∷ n.1,
      mapped n.0 (Sign Open ∷ n.1) (shape_to n.0 (Sign Open ∷ n.1) whole),
    )

pub reads_source : (names : List (List ℕ))
    → IsReaderIf (λ ts. length names < 64) (IsNewSource any names) (SourceIn names) AtToken
    (read_source names)
unfolding read_source
reads_source names =
    reworded (SourceIs names) (IsNewSource any names) (SourceTurns names) (SourceIn names) AtToken
    (read_source names)
    (turns (IsHead names) (IsHead names) (λ head. Mapped (declared head) (IsShape any))
    (λ head. MappedBefore (declared head) ShapeIn) (read_head names)
    (λ head. in_turn read_shape (λ shape. done_with (declared head shape))) (reads_head names)
    (λ head ks is. reads_mapped (declared head) (IsShape any) ShapeIn read_shape reads_shape)
    (λ head ks is. some_shape head))
    (source_to names) (new_unended names) (source_within names)
    (λ s ks n is. source_back names s
    (Keyword keyword.Source ∷ ks) ks n is.0.is refl is.0.free is.0.new is.0.short is.1)

pub some_source : (names : List (List ℕ)) → Begins (IsNewSource any names) []
some_source names = by (fresh names)
  where
    by : (w : List ℕ) × (is_taken names w ≡ false) → Begins (IsNewSource any names) []
    by (w, h) =
        let shape = some_shape (w, []) in
        let ks = Name w ∷ Keyword keyword.From ∷ Text [] ∷ [] in (
          shape.0,
          ks ++ shape.1,
          source_to names shape.0 (ks ++ shape.1) (both (w, []) shape.0 ks shape.1
              (h, refl) shape.2),
        )
