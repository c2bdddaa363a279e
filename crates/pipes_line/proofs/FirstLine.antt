-- The first line of a text, by the bytes at its prefix.
use Rattle.std.proofs.Common.{◌≡◌, ℕ, suc, ◌≤◌, ◌<◌, List, [], ◌∷◌, ◌++◌, length, Bool, true, false}
use Rattle.std.proofs.Common.{not, ◌==◌, ◌&&◌, refl, ap, ◌∙◌, arith, append_assoc, append-nil}
use Rattle.std.proofs.lemmas.Bool.{and_parts}
use Rattle.pipes_line.specs.Bytes.{is_no_feed, has_no_feed}
use Rattle.pipes_line.specs.Lines.{Line, lines_of, before_lines}
use Rattle.pipes_line.specs.Reading.{feed_of}

is_not : (x : Bool) → not x ≡ true → x ≡ false
is_not true h = cc
is_not false h = refl

with_feed : (line rest : List ℕ) → has_no_feed line ≡ true → lines_of (line ++ 10 ∷ rest) ≡ record
    { text = line; ended = true } ∷ lines_of rest
with_feed [] rest h = refl
with_feed (byte ∷ line) rest h =
    let p = and_parts (is_no_feed byte) (has_no_feed line) h in
    rw (is_not (byte == 10) p.0) (ap (before_lines byte) (with_feed line rest p.1))

without_feed : (byte : ℕ) (line : List ℕ) → has_no_feed (byte ∷ line) ≡ true
    → lines_of (byte ∷ line) ≡ record { text = byte ∷ line; ended = false } ∷ []
without_feed byte [] h = rw (is_not (byte == 10) (and_parts (is_no_feed byte) true h).0) refl
without_feed byte (next ∷ line) h =
    let p = and_parts (is_no_feed byte) (has_no_feed (next ∷ line)) h in
    rw (is_not (byte == 10) p.0) (ap (before_lines byte) (without_feed next line p.1))

-- a line and its end, and then the lines after it
pub first_line : (line rest : List ℕ) (ended : Bool) → has_no_feed line ≡ true
    → (ended ≡ false → (0 < length line) × (rest ≡ []))
    → lines_of ((line ++ feed_of ended) ++ rest) ≡ record { text = line; ended = ended } ∷ lines_of
    rest
first_line line rest true h last = ap lines_of (append_assoc line (10 ∷ []) rest)
    ∙ with_feed line rest h
first_line [] rest false h last = absurd (let none = (last refl).0 in omega arith)
first_line (byte ∷ line) rest false h last =
    let none = (last refl).1 in
    rw none (ap lines_of (append-nil ((byte ∷ line) ++ []) ∙ append-nil (byte ∷ line))
    ∙ without_feed byte line h)

-- the first line has at least so many bytes
pub record BeginsLong (size : ℕ) (lines : List Line) : Type 0 where
  pub head : Line
  pub tail : List Line
  pub is : lines ≡ head ∷ tail
  pub long : size ≤ length head.text

grown : (byte size : ℕ) (lines : List Line) → BeginsLong size lines
    → BeginsLong (suc size) (before_lines byte lines)
grown byte size lines h = record {
  head = record { text = byte ∷ h.head.text; ended = h.head.ended };
  tail = h.tail;
  is = ap (before_lines byte) h.is;
  long = let l = h.long in omega arith;
}

one_byte : (byte : ℕ) (rest : List ℕ) → (byte == 10) ≡ false → BeginsLong 1 (lines_of (byte ∷ rest))
one_byte byte rest e = rw e (by (lines_of rest))
  where
    by : (lines : List Line) → BeginsLong 1 (before_lines byte lines)
    by [] = record {
      head = record { text = byte ∷ []; ended = false };
      tail = [];
      is = refl;
      long =
          omega arith;
    }
    by (line ∷ lines) = record {
      head = record { text = byte ∷ line.text; ended = line.ended };
      tail = lines;
      is = refl;
      long = omega arith;
    }

-- bytes without a line feed begin the first line
pub begins_long : (byte : ℕ) (line rest : List ℕ) → has_no_feed (byte ∷ line) ≡ true
    → BeginsLong (length (byte ∷ line)) (lines_of ((byte ∷ line) ++ rest))
begins_long byte [] rest h = one_byte byte rest (is_not (byte == 10)
    (and_parts (is_no_feed byte) true h).0)
begins_long byte (next ∷ line) rest h =
    let p = and_parts (is_no_feed byte) (has_no_feed (next ∷ line)) h in
    rw (is_not (byte == 10) p.0) (grown byte (length (next ∷ line))
    (lines_of ((next ∷ line) ++ rest)) (begins_long next line rest p.1))
