-- The whole lines among the bytes that were read already: the first of them, and where there is
-- none.
use Rattle.std.proofs.Common.{◌≡◌, ℕ, List, [], ◌∷◌, ◌++◌, Bool, true, false, ◌==◌}
use Rattle.std.proofs.Common.{filter, inl, inr, refl, sym, ap, ◌∙◌, subst, append_assoc}
use Rattle.pipes_tuple.specs.declared.value.Kind.{Kind}
use Rattle.pipes_line.specs.Bytes.{has_no_feed}
use Rattle.pipes_line.specs.Lines.{Line, lines_of, before_lines}
use Rattle.pipes_line.specs.Reading.{TakesWaiting}
use Rattle.pipes_line.specs.declared.reader.NextLine.TheVariants as line
use Rattle.pipes_line.proofs.FirstLine.{first_line}
use Rattle.pipes_feed.specs.Reached.{Reached}
use Rattle.pipes_feed.specs.Ahead.{whole_lines, ArePassed, IsPassed}

abbrev wholes : List Line → List Line
wholes lines = filter (λ l. l.ended) lines

before_none : (byte : ℕ) (lines : List Line) → wholes lines ≡ []
    → wholes (before_lines byte lines) ≡ []
before_none byte [] h = refl
before_none byte (l ∷ ls) h = by_end l.ended refl
  where
    by_end : (ended : Bool) → l.ended ≡ ended → wholes (before_lines byte (l ∷ ls)) ≡ []
    by_end true e = absurd (cc)
    by_end false e = rw e (sym (rw e refl) ∙ h)

-- bytes without a line feed
pub none_whole : (bytes : List ℕ) → has_no_feed bytes ≡ true → whole_lines bytes ≡ []
none_whole [] h = refl
none_whole (byte ∷ bytes) h = by_byte (byte == 10) refl (none_whole bytes)
  where
    by_byte : (feed : Bool) → (byte == 10) ≡ feed → (has_no_feed bytes ≡ true
        → whole_lines bytes ≡ []) → whole_lines (byte ∷ bytes) ≡ []
    by_byte true e none = absurd (cc)
    by_byte false e none = rw e (before_none byte (lines_of bytes) (none (rw e at h)))

-- bytes that begin with a whole line
pub first_whole : (text bytes : List ℕ) → has_no_feed text ≡ true
    → whole_lines (text ++ 10 ∷ bytes) ≡ record { text = text; ended = true } ∷ whole_lines bytes
first_whole text bytes h =
    let cut : lines_of ((text ++ 10 ∷ []) ++ bytes) ≡ record {
      text = text;
      ended =
          true;
    } ∷ lines_of bytes =
    first_line text bytes true h (λ e. absurd (cc)) in
    ap whole_lines (sym (append_assoc text (10 ∷ []) bytes)) ∙ ap wholes cut

-- a line that was passed over was the first of those that waited, or none waited
pub passed_line : (kinds : List Kind) (slack : ℕ) (before now : Reached) (old text new : List ℕ)
    (ended : Bool)
    → TakesWaiting [] old (record { line = text; unread = new }) (line.Line ended)
    → has_no_feed text ≡ true
    → IsPassed kinds slack before now (record { text = text; ended = ended })
    → ArePassed kinds slack now (whole_lines new) → ArePassed kinds slack before (whole_lines old)
passed_line kinds slack before now old text new false none h passed rest =
    subst (ArePassed kinds slack before) (sym (none_whole old none)) tt
passed_line kinds slack before now old text new true (inl none) h passed rest =
    subst (ArePassed kinds slack before) (sym (none_whole old none)) tt
passed_line kinds slack before now old text new true (inr e) h passed rest =
    subst (λ (bytes : List ℕ). ArePassed kinds slack before (whole_lines bytes)) (sym e)
    (subst (ArePassed kinds slack before) (sym (first_whole text new h)) (
      passed.judged,
      subst (λ (r : Reached). ArePassed kinds slack r (whole_lines new)) passed.after
          rest,
    ))
