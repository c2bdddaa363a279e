-- The elements of items whose tuples have the kinds of the columns have them too.
use Rattle.std.proofs.Common.{ℕ, List, [], ◌∷◌, Bool, true, false, cond, nat_lt, Option, Some, None}
use Rattle.std.proofs.Common.{unwrap_or}
use Rattle.std.specs.List.{All}
use Rattle.std.proofs.lemmas.List.Elements.{All-nil, All-cons, All-append, All-head, All-tail}
use Rattle.pipes_time.specs.Interval.{horizon}
use Rattle.pipes_tuple.specs.declared.value.Kind.{Kind}
use Rattle.pipes_tuple.specs.Kinds.{Fits}
use Rattle.pipes_stream.specs.declared.Elem.{Elem}
use Rattle.pipes_window.specs.declared.item.Item.{Item}
use Rattle.pipes_window.specs.declared.item.Item.TheVariants as items
use Rattle.pipes_window.specs.declared.kind.WindowKind.{WindowKind}
use Rattle.pipes_window.specs.declared.row.Row.{Row}
use Rattle.pipes_window.specs.Items.{rows_of}
use Rattle.pipes_window.specs.Windows.{span_start, end_of, span_up_to, whole_span, fixed_span}
use Rattle.pipes_window.specs.Windows.{each_row, spans, known}
use Rattle.pipes_feed.specs.Ahead.{ItemFits}

-- the element's tuple has these kinds
abbrev pub ElemFits : List Kind → Elem → Type 0
ElemFits kinds e = Fits e.tuple kinds

abbrev RowFits : List Kind → Row → Type 0
RowFits kinds row = Fits row.tuple kinds

rows_fit : (kinds : List Kind) (source : List Item) → All (ItemFits kinds) source
    → All (RowFits kinds) (rows_of source)
rows_fit kinds [] all = All-nil (RowFits kinds)
rows_fit kinds (items.Row stamp tuple ∷ rest) all =
    All-cons (RowFits kinds) (record { stamp = stamp; tuple = tuple }) (rows_of rest)
    (All-head (ItemFits kinds) (items.Row stamp tuple) rest all)
    (rows_fit kinds rest (All-tail (ItemFits kinds) (items.Row stamp tuple) rest all))
rows_fit kinds (items.Beat stamp ∷ rest) all = rows_fit kinds rest
    (All-tail (ItemFits kinds) (items.Beat stamp) rest all)

span_fits : (kinds : List Kind) (kind : WindowKind) (row : Row) (end : ℕ) → RowFits kinds row
    → All (ElemFits kinds) (span_up_to kind row end)
span_fits kinds kind row end h = by (nat_lt (span_start kind row.stamp) end)
  where
    by : (b : Bool) → All (ElemFits kinds)
        (cond b (record {
          tuple = row.tuple;
          span = record {
            start = span_start kind row.stamp;
            end = end;
          };
        } ∷ []) [])
    by true = All-cons (ElemFits kinds)
        (record {
          tuple = row.tuple;
          span = record {
            start = span_start kind row.stamp;
            end =
                end;
          };
        }) [] h (All-nil (ElemFits kinds))
    by false = All-nil (ElemFits kinds)

whole_fits : (kinds : List Kind) (kind : WindowKind) (row : Row) (end : Option ℕ)
    → RowFits kinds row → All (ElemFits kinds) (whole_span kind row end)
whole_fits kinds kind row end h = span_fits kinds kind row (unwrap_or end horizon) h

fixed_fits : (kinds : List Kind) (kind : WindowKind) (row : Row) (end : Option ℕ)
    → RowFits kinds row → All (ElemFits kinds) (fixed_span kind row end)
fixed_fits kinds kind row None h = All-nil (ElemFits kinds)
fixed_fits kinds kind row (Some end) h = span_fits kinds kind row end h

module _ (give : WindowKind → Row → Option ℕ → List Elem) (kinds : List Kind) (kind : WindowKind)
    (fits : (row : Row) (end : Option ℕ) → RowFits kinds row
    → All (ElemFits kinds) (give kind row end)) where
  each_fits : (rows : List Row) → All (RowFits kinds) rows → All (ElemFits kinds)
      (each_row give kind rows)
  unfolding each_row
  each_fits [] all = All-nil (ElemFits kinds)
  each_fits (row ∷ later) all =
      All-append (ElemFits kinds) (give kind row (end_of kind row later)) (each_row give kind later)
      (fits row (end_of kind row later) (All-head (RowFits kinds) row later all))
      (each_fits later (All-tail (RowFits kinds) row later all))

pub spans_fit : (kinds : List Kind) (kind : WindowKind) (source : List Item)
    → All (ItemFits kinds) source → All (ElemFits kinds) (spans kind source)
spans_fit kinds kind source all = each_fits whole_span kinds kind (whole_fits kinds kind)
    (rows_of source) (rows_fit kinds source all)

pub known_fit : (kinds : List Kind) (kind : WindowKind) (source : List Item)
    → All (ItemFits kinds) source → All (ElemFits kinds) (known kind source)
known_fit kinds kind source all = each_fits fixed_span kinds kind (fixed_fits kinds kind)
    (rows_of source) (rows_fit kinds source all)
