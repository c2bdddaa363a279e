-- The rows that are valid at an instant, one row further.
use Rattle.std.proofs.Common.{◌≡◌, ℕ, List, [], ◌∷◌, ◌++◌, length, map, filter, Bool, true, false}
use Rattle.std.proofs.Common.{cond, refl, sym, ap, ◌∙◌, subst, append-nil, drop, ◌-◌}
use Rattle.std.proofs.lemmas.List.{drop-map, length-map, map-append}
use Rattle.std.proofs.lemmas.List.Elements.{filter-append}
use Rattle.pipes_tuple.specs.declared.value.Value.{Value}
use Rattle.pipes_window.specs.declared.item.Item.{Item}
use Rattle.pipes_window.specs.declared.item.Item.TheVariants as items
use Rattle.pipes_window.specs.declared.kind.WindowKind.{WindowKind}
use Rattle.pipes_window.specs.declared.kind.WindowKind.TheVariants.{Time, Slide, Count}
use Rattle.pipes_window.specs.declared.row.Row.{Row}
use Rattle.pipes_window.specs.Items.{rows_of}
use Rattle.pipes_window.specs.Windows.{valid_rows, in_window}
use Rattle.pipes_window.specs.Valid.{Gathered, Gathers, reaches, newest}
use Rattle.pipes_window.proofs.Lists.{last_n-append}
use Rattle.pipes_window.proofs.Rising.{rows_of-append}

-- a heartbeat changes no row
pub in_window-beat : (kind : WindowKind) (source : List Item) (stamp t : ℕ)
    → in_window kind (source ++ items.Beat stamp ∷ []) t ≡ in_window kind source t
in_window-beat kind source stamp t =
    ap (λ (l : List Row). map (λ r. r.tuple) (valid_rows kind l t))
    (rows_of-append source (items.Beat stamp ∷ []) ∙ append-nil (rows_of source))

-- the test of a row by its stamp
abbrev reached : WindowKind → ℕ → Row → Bool
reached kind t row = reaches kind row.stamp t

abbrev tuples : List Row → List (List Value)
tuples rows = map (λ r. r.tuple) rows

valid_newest : (kind : WindowKind) (rows : List Row) (t : ℕ)
    → tuples (valid_rows kind rows t) ≡ newest kind (tuples (filter (reached kind t) rows))
valid_newest (Time size) rows t = refl
valid_newest (Slide size slide) rows t = refl
valid_newest (Count n) rows t =
    let reach = filter (reached (Count n) t) rows in
    sym (ap (λ (k : ℕ). drop (k - n) (tuples reach)) (length-map reach (λ (r : Row). r.tuple))
    ∙ drop-map (λ (r : Row). r.tuple) (length reach - n) reach)

newest-append : (kind : WindowKind) (xs ys : List (List Value))
    → newest kind (newest kind xs ++ ys) ≡ newest kind (xs ++ ys)
newest-append (Time size) xs ys = refl
newest-append (Slide size slide) xs ys = refl
newest-append (Count n) xs ys = sym (last_n-append n xs ys)

pub in_window-row : (kind : WindowKind) (source : List Item) (stamp t : ℕ) (tuple : List Value)
    → in_window kind (source ++ items.Row stamp tuple ∷ []) t ≡ cond (reaches kind stamp t)
    (newest kind (in_window kind source t ++ tuple ∷ [])) (in_window kind source t)
in_window-row kind source stamp t tuple =
    ap (λ (l : List Row). tuples (valid_rows kind l t))
    (rows_of-append source (items.Row stamp tuple ∷ []))
    ∙ valid_newest kind (rows_of source ++ row ∷ []) t
    ∙ ap (λ (l : List Row). newest kind (tuples l))
    (filter-append (reached kind t) (rows_of source) (row ∷ []))
    ∙ by (reaches kind stamp t)
  where
    row : Row
    row = record { stamp = stamp; tuple = tuple }

    by : (b : Bool) → newest kind
        (tuples (filter (reached kind t) (rows_of source) ++ cond b
        (record { stamp = stamp; tuple = tuple } ∷ []) []))
        ≡ cond b (newest kind (in_window kind source t ++ tuple ∷ [])) (in_window kind source t)
    by true =
        ap (newest kind) (map-append (λ (r : Row). r.tuple)
        (filter (reached kind t) (rows_of source))
        (record { stamp = stamp; tuple = tuple } ∷ []))
        ∙ sym (newest-append kind (tuples (filter (reached kind t) (rows_of source))) (tuple ∷ []))
        ∙ ap (λ (l : List (List Value)). newest kind (l ++ tuple ∷ []))
        (sym (valid_newest kind (rows_of source) t))
    by false =
        ap (λ (l : List Row). newest kind (tuples l))
        (append-nil (filter (reached kind t) (rows_of source)))
        ∙ sym (valid_newest kind (rows_of source) t)

-- the row joins where it reaches the instant
pub gathers_inside : (kind : WindowKind) (time stamp : ℕ) (tuple : List Value)
    (rows left : List (List Value)) (old : Gathered)
    → record { kind = kind; time = time; rows = rows } ≡ old
    → reaches kind stamp time ≡ true → left ≡ newest kind (rows ++ tuple ∷ [])
    → Gathers old (record { kind = kind; time = time; rows = left }) (items.Row stamp tuple)
gathers_inside kind time stamp tuple rows left old e here kept = record {
  kind = ap (λ (g : Gathered). g.kind) e;
  time = ap (λ (g : Gathered). g.time) e;
  valid = λ source has.
      let had : rows ≡ in_window kind source time = subst
      (λ (g : Gathered). g.rows ≡ in_window g.kind source g.time) (sym e) has in
      kept ∙ ap (λ (l : List (List Value)). newest kind (l ++ tuple ∷ [])) had
      ∙ sym (ap (λ (b : Bool). cond b (newest kind (in_window kind source time ++ tuple ∷ []))
      (in_window kind source time)) here)
      ∙ sym (in_window-row kind source stamp time tuple);
}

pub gathers_none : (kind : WindowKind) (time stamp : ℕ) (tuple : List Value)
    (rows : List (List Value)) (old : Gathered)
    → record { kind = kind; time = time; rows = rows } ≡ old
    → reaches kind stamp time ≡ false → Gathers old old (items.Row stamp tuple)
gathers_none kind time stamp tuple rows old e gone = record {
  kind = refl;
  time = refl;
  valid = λ source has.
      let late : reaches old.kind stamp old.time ≡ false = subst
      (λ (g : Gathered). reaches g.kind stamp g.time ≡ false) e gone in
      has
      ∙ sym (ap (λ (b : Bool). cond b
      (newest old.kind (in_window old.kind source old.time ++ tuple ∷ []))
      (in_window old.kind source old.time)) late)
      ∙ sym (in_window-row old.kind source stamp old.time tuple);
}
