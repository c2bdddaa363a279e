-- Fields that are parts of their line.
use Rattle.std.proofs.Common.{◌≡◌, ℕ, ◌+◌, ◌<◌, ◌≤◌, List, [], ◌∷◌, ◌++◌, true, false, take, drop}
use Rattle.std.proofs.Common.{length, get_or, map, sym, ap, ◌∙◌, subst, arith, length-drop}
use Rattle.std.proofs.lemmas.List.{map-append, take-append-drop, take_all, drop_all, drop_more}
use Rattle.std.proofs.lemmas.List.{drop-drop}
use Rattle.std.proofs.lemmas.Bool.{eqb-true}
use Rattle.std.specs.List.{list_all}
use Rattle.csv.specs.declared.parser.State.TheVariants as state
use Rattle.pipes_line.specs.declared.part.Part.{Part}
use Rattle.pipes_line.specs.Content.{single, content_of}
use Rattle.pipes_line.specs.Marks.{may_be_marked}
use Rattle.pipes_line.proofs.OneRecord.{is_single}
use Rattle.pipes_line.specs.Bytes.{is_inner, QuoteAt}
use Rattle.pipes_line.specs.Bytes.{bytes_in}
use Rattle.pipes_line.specs.Parts.{begins_quoted, state_at, IsField}
use Rattle.pipes_line.proofs.Machine.{reads, bare_comma, bare_last, quoted_comma, quoted_last}

-- what stands after a place with a comma
comma_more : (line : List ℕ) (at : ℕ) → at < length line → get_or line at 0 ≡ 44
    → drop at line ≡ 44 ∷ drop (at + 1) line
comma_more line at h c = drop_more line at 0 h ∙ ap (λ (b : ℕ). b ∷ drop (at + 1) line) c

pub bare_field : (line : List ℕ) (from len : ℕ) → from ≤ length line → 0 < length line
    → begins_quoted (drop from line) ≡ false
    → len ≤ length (drop from line) → list_all is_inner (take len (drop from line)) ≡ true
    → IsField line from (record { from = from; to = from + len }) (from + len)
bare_field line from len within some q short h =
    let left = length-drop from line in
    let part : bytes_in line (record { from = from; to = from + len }) ≡ take len (drop from line) =
    ap (λ (n : ℕ). take n (drop from line)) (omega arith) in
    record {
      forward = omega arith;
      within = omega arith;
      last = λ at_end fields.
          let all : take len (drop from line) ≡ drop from line =
          take_all len (drop from line) (omega arith) in
          rw (part, all) (bare_last from fields (drop from line) (λ z. omega arith) q
          (rw all at h));
      comma = λ below c fields.
          let cut : drop from line ≡ take len (drop from line) ++ 44 ∷ drop (from + len + 1) line =
          sym (take-append-drop len (drop from line))
          ∙ ap (λ (l : List ℕ). take len (drop from line) ++ l) (drop-drop len from line
          ∙ comma_more line (from + len) below c) in
          let xs = take len (drop from line) in
          rw part (ap (λ (l : List ℕ). reads (state_at from) fields [] l) cut
          ∙ bare_comma from fields xs (drop (from + len + 1) line)
          (subst (λ (l : List ℕ). begins_quoted l ≡ false) cut q) h);
    }

starts_with_quote : (rest : List ℕ) → begins_quoted rest ≡ true → rest ≡ 34 ∷ drop 1 rest
starts_with_quote [] h = cc
starts_with_quote (byte ∷ rest) h = ap (λ (b : ℕ). b ∷ rest) (eqb-true byte 34 h)

pub quoted_field : (line : List ℕ) (from len : ℕ) → from ≤ length line
    → begins_quoted (drop from line) ≡ true → QuoteAt (drop 1 (drop from line)) len
    → IsField line from (record { from = from + 1; to = from + 1 + len }) (from + 1 + len + 1)
quoted_field line from len within q found =
    let tail = drop (from + 1) line in
    let later : drop 1 (drop from line) ≡ tail = drop-drop 1 from line in
    let at = subst (λ (l : List ℕ). QuoteAt l len) later found in
    let left = length-drop (from + 1) line in
    let short = at.within in
    let part : bytes_in line (record { from = from + 1; to = from + 1 + len }) ≡ take len tail =
    ap (λ (n : ℕ). take n tail) (omega arith) in
    let opened : drop from line ≡ 34 ∷ tail = starts_with_quote (drop from line) q
    ∙ ap (λ (l : List ℕ). 34 ∷ l) later in
    let close : tail ≡ take len tail ++ 34 ∷ drop (from + 1 + len + 1) line =
    sym (take-append-drop len tail) ∙ ap (λ (l : List ℕ). take len tail ++ l)
    (drop_more tail len 0 at.within ∙ ap (λ (b : ℕ). b ∷ drop (len + 1) tail) at.here
    ∙ ap (λ (l : List ℕ). 34 ∷ l) (drop-drop (len + 1) (from + 1) line
    ∙ ap (λ (n : ℕ). drop n line) (omega arith))) in
    let cut : drop from line ≡ 34 ∷ take len tail ++ 34 ∷ drop (from + 1 + len + 1) line = opened
    ∙ ap (λ (l : List ℕ). 34 ∷ l) close in
    record {
      forward = omega arith;
      within = omega arith;
      last = λ at_end fields.
          let none : drop (from + 1 + len + 1) line ≡ [] = drop_all (from + 1 + len + 1) line
          (omega arith) in
          rw part (ap (λ (l : List ℕ). reads (state_at from) fields [] l) (rw none at cut)
          ∙ quoted_last from fields (take len tail) at.before);
      comma = λ below c fields.
          let next : drop (from + 1 + len + 1) line ≡ 44 ∷ drop (from + 1 + len + 1 + 1) line =
          comma_more line (from + 1 + len + 1) below c in
          rw part (ap (λ (l : List ℕ). reads (state_at from) fields [] l) (rw next at cut)
          ∙ quoted_comma from fields (take len tail) (drop (from + 1 + len + 1 + 1) line)
          at.before);
    }

-- the field that ends the line ends its only record
pub split_ends : (line : List ℕ) (parts all : List Part) (from : ℕ) (part : Part) (next : ℕ)
    → may_be_marked line ≡ false
    → reads state.StartRecord [] [] line ≡ reads (state_at from) (map (bytes_in line) parts) []
    (drop from line)
    → IsField line from part next → next ≡ length line → all ≡ parts ++ part ∷ []
    → content_of line ≡ single (map (bytes_in line) all)
split_ends line parts all from part next plain known field at_end e =
    let fields : map (bytes_in line) all ≡ map (bytes_in line) parts ++ bytes_in line part ∷ [] =
    ap (map (bytes_in line)) e ∙ map-append (bytes_in line) parts (part ∷ []) in
    rw fields (is_single line (map (bytes_in line) parts ++ bytes_in line part ∷ []) plain
    (known ∙ field.last at_end (map (bytes_in line) parts)))
