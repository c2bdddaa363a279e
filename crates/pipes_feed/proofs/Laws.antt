-- What holds of a line that is passed over or is an item.
use Rattle.std.proofs.Common.{◌≡◌, ◌≢◌, ℕ, ◌+◌, ◌<◌, ◌≤◌, List, [], ◌∷◌, map, drop, length, Bool}
use Rattle.std.proofs.Common.{true, false, cond, ◌==◌, nat_lt, refl, sym, subst, arith}
use Rattle.std.specs.Prelude.{Result, Ok, Err, IfOk, ⊤, ℤ, bytes_eq, codes}
use Rattle.std.specs.Str.{is_utf8}
use Rattle.std.specs.Str.Lines.{strip_carriage_return}
use Rattle.std.specs.Str.Parse.{digits_value, starts_with_minus}
use Rattle.std.proofs.lemmas.Bool.{ltb-true, ltb-false, eqb-false}
use Rattle.pipes_time.specs.Interval.{horizon}
use Rattle.pipes_tuple.specs.declared.value.Kind.{Kind}
use Rattle.pipes_tuple.specs.declared.value.Kind.TheVariants as kind
use Rattle.pipes_tuple.specs.declared.value.Value.{Value}
use Rattle.pipes_tuple.specs.declared.value.Value.TheVariants.{Int, Text, Flag}
use Rattle.pipes_tuple.specs.declared.read.ValueRefusal.TheVariants.{NotInt, IntRange, NotUtf8}
use Rattle.pipes_tuple.specs.declared.read.ValueRefusal.TheVariants.{TooLong, NotFlag}
use Rattle.pipes_tuple.specs.declared.read.ValueRefusal.{ValueRefusal}
use Rattle.pipes_tuple.specs.Kinds.{kind_of}
use Rattle.pipes_tuple.specs.Reading.{reading, number_reading, is_numeral, is_i64, signed_number}
use Rattle.pipes_window.specs.declared.item.Item.{Item}
use Rattle.pipes_window.specs.declared.item.Item.TheVariants.{Row, Beat}
use Rattle.pipes_line.specs.Content.{Content, blank, single, several, content_of}
use Rattle.pipes_line.specs.Lines.{Line, size_of}
use Rattle.pipes_feed.specs.declared.reason.RowWhy.{RowWhy}
use Rattle.pipes_feed.specs.declared.reason.RowWhy.TheVariants as why
use Rattle.pipes_feed.specs.declared.line.Verdict.{Verdict}
use Rattle.pipes_feed.specs.declared.line.Verdict.TheVariants.{Pass, Give, Refuse, Limit}
use Rattle.pipes_feed.specs.Ahead.{ItemFits, PassesLine, ArrivalFollows}
use Rattle.pipes_feed.specs.Reached.{Reached, stamp_floor, most_bytes, most_items, after_line}
use Rattle.pipes_feed.specs.Reached.{after_item}
use Rattle.pipes_feed.specs.Items.{stamp_in}
use Rattle.pipes_time.specs.Results.{◌>>=◌}
use Rattle.pipes_feed.specs.Judged.{columns_of, stamp_of, at_floor, field_value}
use Rattle.pipes_feed.specs.Judged.{field_values}
use Rattle.pipes_feed.specs.Judged.{item_with, item_of, verdict_of, judge_header, judge_later}
use Rattle.pipes_feed.specs.Judged.{judge_content, judge}

bound : {A B : Type 0} (P : A → Type 0) (Q : B → Type 0) (r : Result A RowWhy)
    (f : A → Result B RowWhy) → IfOk r P → ((x : A) → P x → IfOk (f x) Q) → IfOk (r >>= f) Q
bound P Q (Ok x) f h k = k x h
bound P Q (Err refusal) f h k = tt

-- a value that was read has the kind
HasKind : Kind → Result Value ValueRefusal → Type 0
HasKind k r = IfOk r (λ value. kind_of value ≡ k)

number_kind_by : (numeral fits : Bool) (n : ℤ) → HasKind kind.Int
    (cond numeral (cond fits (Ok (Int n)) (Err IntRange)) (Err NotInt))
unfolding HasKind
number_kind_by true true n = refl
number_kind_by true false n = tt
number_kind_by false fits n = tt

number_kind : (minus : Bool) (digits : List ℕ) → HasKind kind.Int (number_reading minus digits)
number_kind minus digits = number_kind_by (is_numeral digits) (is_i64 (signed_number minus digits))
    (signed_number minus digits)

int_kind_by : (minus : Bool) (reached all : List ℕ) → HasKind kind.Int
    (cond minus (number_reading true reached) (number_reading false all))
int_kind_by true reached all = number_kind true reached
int_kind_by false reached all = number_kind false all

text_kind_by : (long utf8 : Bool) (bytes : List ℕ) → HasKind kind.Text
    (cond long (Err TooLong) (cond utf8 (Ok (Text bytes)) (Err NotUtf8)))
unfolding HasKind
text_kind_by true utf8 bytes = tt
text_kind_by false true bytes = refl
text_kind_by false false bytes = tt

flag_kind_by : (is_true is_false : Bool) → HasKind kind.Flag
    (cond is_true (Ok (Flag true)) (cond is_false (Ok (Flag false)) (Err NotFlag)))
unfolding HasKind
flag_kind_by true other = refl
flag_kind_by false true = refl
flag_kind_by false false = tt

reading_kind : (k : Kind) (bytes : List ℕ) → HasKind k (reading k bytes)
reading_kind kind.Int bytes = int_kind_by (starts_with_minus bytes) (drop 1 bytes) bytes
reading_kind kind.Text bytes = text_kind_by (nat_lt 65535 (length bytes)) (is_utf8 bytes) bytes
reading_kind kind.Flag bytes = flag_kind_by (bytes_eq bytes (codes "true"))
    (bytes_eq bytes (codes "false"))

named_kind : (column : ℕ) (k : Kind) (r : Result Value ValueRefusal) → HasKind k r
    → IfOk (field_value column r) (λ value. kind_of value ≡ k)
unfolding HasKind
named_kind column k (Ok value) h = h
named_kind column k (Err refusal) h = tt

values_fit : (column : ℕ) (kinds : List Kind) (fields : List (List ℕ))
    → IfOk (field_values column kinds fields) (λ values. map kind_of values ≡ kinds)
values_fit column [] fields = refl
values_fit column (k ∷ kinds) [] = tt
values_fit column (k ∷ kinds) (field ∷ fields) =
    bound (λ (value : Value). kind_of value ≡ k) (λ (values : List Value). map kind_of
    values ≡ k ∷ kinds) (field_value column (reading k field)) _
    (named_kind column k (reading k field) (reading_kind k field))
    (λ value e. bound (λ (values : List Value). map kind_of values ≡ kinds)
    (λ (values : List Value). map kind_of values ≡ k ∷ kinds)
    (field_values (column + 1) kinds fields) _ (values_fit (column + 1) kinds fields)
    (λ values es i. e i ∷ es i))

-- an item that may follow
pub record Allowed (kinds : List Kind) (last : ℕ) (item : Item) : Type 0 where
  pub at_floor : last ≤ stamp_in item
  pub in_range : stamp_in item < horizon
  pub fits : ItemFits kinds item

-- a stamp below the horizon, and one that is not below the last
InRange : ℕ → Type 0
InRange stamp = stamp < horizon

InOrder : ℕ → ℕ → Type 0
InOrder last stamp = (last ≤ stamp) × (stamp < horizon)

stamp_by : (numeral below : Bool) (stamp : ℕ) → (nat_lt stamp horizon ≡ below)
    → IfOk (cond numeral (cond below (Ok stamp) (Err why.Range)) (Err why.Stamp)) InRange
unfolding InRange
stamp_by true true stamp e = ltb-true stamp horizon e
stamp_by true false stamp e = tt
stamp_by false below stamp e = tt

stamp_in_range : (field : List ℕ) → IfOk (stamp_of field) InRange
stamp_in_range field = stamp_by (is_numeral field) (nat_lt (digits_value 10 field) horizon)
    (digits_value 10 field) refl

order_by : (last stamp : ℕ) (falls : Bool) → nat_lt stamp last ≡ falls → InRange stamp
    → IfOk (cond falls (Err (why.Falling stamp last)) (Ok stamp)) (InOrder last)
unfolding InRange InOrder
order_by last stamp true e h = tt
order_by last stamp false e h = (ltb-false stamp last e, h)

stamp_in_order : (last stamp : ℕ) → InRange stamp → IfOk (at_floor last stamp) (InOrder last)
stamp_in_order last stamp h = order_by last stamp (nat_lt stamp last) refl h

with_by : (kinds : List Kind) (last stamp : ℕ) (none : Bool) (r : Result (List Value) RowWhy)
    → InOrder last stamp → IfOk r (λ values. map kind_of values ≡ kinds)
    → IfOk (cond none (Ok (Beat stamp)) (r >>= λ tuple. Ok (Row stamp tuple))) (Allowed kinds last)
unfolding InOrder
with_by kinds last stamp true r h fits = record { at_floor = h.0; in_range = h.1; fits = tt }
with_by kinds last stamp false (Ok values) h fits = record {
  at_floor = h.0;
  in_range = h.1;
  fits =
      fits;
}
with_by kinds last stamp false (Err refusal) h fits = tt

with_allowed : (kinds : List Kind) (last stamp : ℕ) (fields : List (List ℕ)) → InOrder last stamp
    → IfOk (item_with kinds stamp fields) (Allowed kinds last)
with_allowed kinds last stamp fields h = with_by kinds last stamp (length fields == 0)
    (field_values 0 kinds fields) h (values_fit 0 kinds fields)

any : (r : Result ℕ RowWhy) → IfOk r (λ count. ⊤)
any (Ok count) = tt
any (Err refusal) = tt

item_allowed : (kinds : List Kind) (last : ℕ) (fields : List (List ℕ))
    → IfOk (item_of kinds last fields) (Allowed kinds last)
item_allowed kinds last [] = tt
item_allowed kinds last (field ∷ fields) =
    let counted = columns_of kinds (length fields) in
    let ordered : IfOk (stamp_of field >>= at_floor last) (InOrder last) =
    bound InRange (InOrder last) (stamp_of field) (at_floor last) (stamp_in_range field)
    (stamp_in_order last) in
    let with_values : (stamp : ℕ) → InOrder last stamp → IfOk (item_with kinds stamp fields)
    (Allowed kinds last) = λ stamp h. with_allowed kinds last stamp fields h in
    bound (λ (count : ℕ). ⊤) (Allowed kinds last) counted (λ count. stamp_of field >>= at_floor last
    >>= λ stamp. item_with kinds stamp fields) (any counted)
    (λ count _. bound (InOrder last) (Allowed kinds last) (stamp_of field >>= at_floor last)
    (λ stamp. item_with kinds stamp fields) ordered with_values)

-- what is known of a line by what it is
abbrev pub Allows : List Kind → ℕ → Reached → ℕ → Verdict → Type 0
Allows kinds slack reached size Pass = reached.bytes + size ≤ most_bytes
Allows kinds slack reached size (Give item) = (reached.bytes + size ≤ most_bytes)
    × (reached.items ≢ most_items) × Allowed kinds (stamp_floor slack reached) item
Allows kinds slack reached size (Refuse refusal) = ⊤
Allows kinds slack reached size Limit = ⊤

verdict_allows : (kinds : List Kind) (slack : ℕ) (reached : Reached) (size : ℕ)
    (r : Result Item RowWhy) → reached.bytes + size ≤ most_bytes → reached.items ≢ most_items
    → IfOk r (Allowed kinds (stamp_floor slack reached)) → Allows kinds slack reached size
    (verdict_of r)
verdict_allows kinds slack reached size (Ok item) short few h = (short, few, h)
verdict_allows kinds slack reached size (Err refusal) short few h = tt

counted_by : (kinds : List Kind) (slack : ℕ) (reached : Reached) (size : ℕ) (many : Bool)
    (v : Verdict) → (reached.items == most_items) ≡ many → (reached.items ≢ most_items
    → Allows kinds slack reached size v)
    → Allows kinds slack reached size (cond many Limit v)
counted_by kinds slack reached size true v e h = tt
counted_by kinds slack reached size false v e h = h (eqb-false reached.items most_items e)

header_by : (kinds : List Kind) (slack : ℕ) (reached : Reached) (size : ℕ) (fits : Bool)
    → reached.bytes + size ≤ most_bytes → Allows kinds slack reached size
    (cond fits Pass (Refuse why.Header))
header_by kinds slack reached size true short = short
header_by kinds slack reached size false short = tt

header_allows : (kinds : List Kind) (slack : ℕ) (reached : Reached) (size : ℕ) (content : Content)
    → reached.bytes + size ≤ most_bytes → Allows kinds slack reached size
    (judge_header kinds content)
header_allows kinds slack reached size blank short = tt
header_allows kinds slack reached size (single fields) short = header_by kinds slack reached size
    (length fields == length kinds + 1) short
header_allows kinds slack reached size several short = tt

later_allows : (kinds : List Kind) (slack : ℕ) (reached : Reached) (size : ℕ) (content : Content)
    → reached.bytes + size ≤ most_bytes → Allows kinds slack reached size
    (judge_later kinds slack reached content)
later_allows kinds slack reached size blank short = short
later_allows kinds slack reached size (single fields) short =
    counted_by kinds slack reached size (reached.items == most_items)
    (verdict_of (item_of kinds (stamp_floor slack reached) fields)) refl
    (λ few. verdict_allows kinds slack reached size (item_of kinds (stamp_floor slack reached)
    fields)
    short few (item_allowed kinds (stamp_floor slack reached) fields))
later_allows kinds slack reached size several short = counted_by kinds slack reached size
    (reached.items == most_items) (Refuse why.Fields) refl (λ few. tt)

content_by : (kinds : List Kind) (slack : ℕ) (reached : Reached) (size : ℕ) (first : Bool)
    (content : Content) → reached.bytes + size ≤ most_bytes
    → Allows kinds slack reached size (cond first (judge_header kinds content)
    (judge_later kinds slack reached content))
content_by kinds slack reached size true content short = header_allows kinds slack reached size
    content short
content_by kinds slack reached size false content short = later_allows kinds slack reached size
    content short

line_by : (kinds : List Kind) (slack : ℕ) (reached : Reached) (size : ℕ) (long : Bool) (v : Verdict)
    → nat_lt most_bytes (reached.bytes + size) ≡ long → (reached.bytes + size ≤ most_bytes
    → Allows kinds slack reached size v)
    → Allows kinds slack reached size (cond long Limit v)
line_by kinds slack reached size true v e h = tt
line_by kinds slack reached size false v e h = h (ltb-false most_bytes (reached.bytes + size) e)

pub judge_allows : (kinds : List Kind) (slack : ℕ) (reached : Reached) (line : Line)
    → Allows kinds slack reached (size_of line) (judge kinds slack reached line)
unfolding judge
judge_allows kinds slack reached line =
    let content = content_of (strip_carriage_return line.text) in
    line_by kinds slack reached (size_of line) (nat_lt most_bytes (reached.bytes + size_of line))
    (judge_content kinds slack reached content) refl
    (λ short. content_by kinds slack reached (size_of line) (reached.lines == 0) content short)

-- the same of a verdict that was found
pub found_allows : (kinds : List Kind) (slack : ℕ) (reached : Reached) (line : Line) (v : Verdict)
    → v ≡ judge kinds slack reached line → Allows kinds slack reached (size_of line) v
found_allows kinds slack reached line v e = subst (Allows kinds slack reached (size_of line))
    (sym e) (judge_allows kinds slack reached line)

pub passes : (kinds : List Kind) (slack : ℕ) (reached now : Reached) (size : ℕ) → 0 < size
    → Allows kinds slack reached size Pass → now ≡ after_line reached size → PassesLine reached now
passes kinds slack reached now size some short e = subst (PassesLine reached) (sym e)
    (record { items = refl; newest = refl; beat = refl; bytes = omega arith; short = short })

pub follows : (kinds : List Kind) (slack : ℕ) (reached now : Reached) (size : ℕ) (item : Item)
    → 0 < size
    → Allows kinds slack reached size (Give item) → reached.items ≤ most_items
    → now ≡ after_item reached size item → ArrivalFollows kinds slack reached now item
follows kinds slack reached now size item some allows few e =
    let other = allows.1 in
    let after : ArrivalFollows kinds slack reached (after_item reached size item) item =
    record {
      at_floor = allows.2.at_floor;
      in_range = allows.2.in_range;
      newest = refl;
      beat = refl;
      fits = allows.2.fits;
      counted = refl;
      few = omega arith;
      bytes = omega arith;
      short = allows.0;
    } in
    subst (λ (b : Reached). ArrivalFollows kinds slack reached b item) (sym e) after
