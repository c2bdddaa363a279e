-- Sources that are made row after row.
use Rattle.std.proofs.Common.{◌≡◌, ℕ, zero, suc, ◌+◌, ◌-◌, ◌*◌, ◌≤◌, ◌<◌, List, [], ◌∷◌, ◌++◌}
use Rattle.std.proofs.Common.{flat_map, arith, sym, ap, ◌∙◌, refl}
use Rattle.std.proofs.lemmas.List.{append_assoc, append-nil}
use Rattle.pipes_time.specs.Rising.{RisesBy}
use Rattle.pipes_make.specs.Draws.{Row, row_from, rows_from, rows_of, after_row}
use Rattle.pipes_make.specs.Sources.{header, bid_line, ask_line, bids_text, asks_text}

-- stamps never fall
pub rises : (n x stamp : ℕ) → RisesBy (λ r. r.stamp) stamp (rows_from n x stamp)
rises zero x stamp = tt
rises (suc n) x stamp =
    (omega arith, rises n (after_row x) (row_from x stamp).stamp)

rows_next : (left x s : ℕ) → 0 < left
    → rows_from left x s ≡ row_from x s ∷ rows_from (left - 1) (after_row x) (row_from x s).stamp
rows_next zero x s some = absurd (omega arith)
rows_next (suc n) x s some = let less : suc n - 1 ≡ n = omega arith in rw less refl

-- a text with the lines that are still ahead
abbrev pub ahead : (Row → List ℕ) → List ℕ → ℕ → ℕ → ℕ → List ℕ
ahead line text left x s = text ++ flat_map line (rows_from left x s)

line_next : (line : Row → List ℕ) (text : List ℕ) (left x s : ℕ) → 0 < left
    → ahead line (text ++ line (row_from x s)) (left - 1) (after_row x) (row_from x s).stamp
    ≡ ahead line text left x s
line_next line text left x s some = append_assoc text (line (row_from x s))
    (flat_map line (rows_from (left - 1) (after_row x) (row_from x s).stamp))
    ∙ ap (λ (rows : List Row). text ++ flat_map line rows) (sym (rows_next left x s some))

-- sources to which so many rows are still to be added
pub record Making (seed rows left x s : ℕ) (bids asks : List ℕ) : Type 0 where
  pub room : s + 3 * left ≤ 3000000
  pub bids_ahead : ahead bid_line bids left x s ≡ bids_text (rows_of seed rows)
  pub asks_ahead : ahead ask_line asks left x s ≡ asks_text (rows_of seed rows)

pub started : (seed rows : ℕ) (bids asks : List ℕ) → rows ≤ 1000000 → bids ≡ bids_text []
    → asks ≡ asks_text [] → Making seed rows rows seed 0 bids asks
started seed rows bids asks most b a = record {
  room = omega arith;
  bids_ahead = ap (λ (t : List ℕ). ahead bid_line t rows seed 0) (b ∙ append-nil header);
  asks_ahead = ap (λ (t : List ℕ). ahead ask_line t rows seed 0) (a ∙ append-nil header);
}

pub turned : (seed rows left x s y t : ℕ) (bids asks bids_now asks_now : List ℕ)
    → Making seed rows left x s bids asks → 0 < left → y ≡ after_row x
    → t ≡ (row_from x s).stamp → t ≤ s + 3 → bids_now ≡ bids ++ bid_line (row_from x s)
    → asks_now ≡ asks ++ ask_line (row_from x s)
    → Making seed rows (left - 1) y t bids_now asks_now
turned seed rows left x s y t bids asks bids_now asks_now before some state stamp near b a =
    record {
      room = let had = before.room in omega arith;
      bids_ahead = same bid_line bids_now bids b ∙ line_next bid_line bids left x s some
          ∙ before.bids_ahead;
      asks_ahead = same ask_line asks_now asks a ∙ line_next ask_line asks left x s some
          ∙ before.asks_ahead;
    }
  where
    same : (line : Row → List ℕ) (now was : List ℕ) → now ≡ was ++ line (row_from x s)
        → ahead line now (left - 1) y t ≡ ahead line (was ++ line (row_from x s)) (left - 1)
        (after_row x) (row_from x s).stamp
    same line now was is = rw (is, state, stamp) refl

pub done_bids : (seed rows left x s : ℕ) (bids asks : List ℕ) → Making seed rows left x s bids asks
    → left ≡ 0 → bids ≡ bids_text (rows_of seed rows)
done_bids seed rows left x s bids asks made none = sym (append-nil bids)
    ∙ ap (λ (n : ℕ). ahead bid_line bids n x s) (sym none) ∙ made.bids_ahead

pub done_asks : (seed rows left x s : ℕ) (bids asks : List ℕ) → Making seed rows left x s bids asks
    → left ≡ 0 → asks ≡ asks_text (rows_of seed rows)
done_asks seed rows left x s bids asks made none = sym (append-nil asks)
    ∙ ap (λ (n : ℕ). ahead ask_line asks n x s) (sym none) ∙ made.asks_ahead
