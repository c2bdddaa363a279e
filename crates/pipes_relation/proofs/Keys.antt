-- The keys of rows.
use Rattle.std.proofs.Common.{◌≡◌, ℕ, ◌+◌, ◌<◌, List, [], ◌∷◌, ◌++◌, map, length, take, get_or, sym}
use Rattle.std.proofs.Common.{ap, ◌∙◌, subst}
use Rattle.std.specs.List.{All}
use Rattle.std.proofs.lemmas.List.{take_more, map-append}
use Rattle.std.proofs.lemmas.List.Elements.{All-nil, All-cons, All-head, All-tail, All-filter}
use Rattle.pipes_tuple.specs.Columns.{at_columns, HasColumns}
use Rattle.pipes_tuple.proofs.Columns.{length-at_columns}
use Rattle.pipes_expr.specs.ExprValue.{Row}
use Rattle.pipes_relation.specs.Relations.{distinct}

pub map_more : {X Y : Type 0} (f : X → Y) (xs : List X) (i : ℕ) (x : X) (ys ys' : List Y) (y : Y)
    → i < length xs → x ≡ get_or xs i x → ys ≡ map f (take i xs) → y ≡ f x → ys' ≡ ys ++ y ∷ []
    → ys' ≡ map f (take (i + 1) xs)
map_more {X} {Y} f xs i x ys ys' y h e g k p =
    let more = ap (map f) (take_more xs i x h ∙ ap (λ (z : X). take i xs ++ z ∷ []) (sym e))
    ∙ map-append f (take i xs) (x ∷ []) in
    p ∙ ap (λ (zs : List Y). zs ++ y ∷ []) g ∙ ap (λ (z : Y). map f (take i xs) ++ z ∷ []) k
    ∙ sym more

-- what holds of all rows holds of each that is kept once
pub All-distinct : (P : Row → Type 0) (rows : List Row) → All P rows → All P (distinct rows)
All-distinct P [] a = a
All-distinct P (x ∷ xs) a =
    All-cons P x _ (All-head P x xs a) (All-filter _ P (distinct xs)
    (All-distinct P xs (All-tail P x xs a)))

keys_width : (columns : List ℕ) (rows : List Row) → All (λ row. HasColumns columns row) rows
    → All (λ key. length key ≡ length columns) (map (at_columns columns) rows)
keys_width columns [] a = All-nil (λ (key : Row). length key ≡ length columns)
keys_width columns (row ∷ rows) a =
    All-cons (λ (key : Row). length key ≡ length columns) (at_columns columns row)
    (map (at_columns columns) rows) (length-at_columns columns row
    (All-head (λ (row : Row). HasColumns columns row) row rows a))
    (keys_width columns rows (All-tail (λ (row : Row). HasColumns columns row) row rows a))

-- a key has a value for each column
pub key_width : (columns : List ℕ) (rows keys : List Row) (i : ℕ) (key : Row)
    → All (λ row. HasColumns columns row) rows → keys ≡ distinct (map (at_columns columns) rows)
    → i < length keys → key ≡ get_or keys i key → length key ≡ length columns
key_width columns rows keys i key a e h k =
    let all = subst (λ (ks : List Row). All (λ key. length key ≡ length columns) ks) (sym e)
    (All-distinct (λ key. length key ≡ length columns) (map (at_columns columns) rows)
    (keys_width columns rows a)) in
    ap length k ∙ all i key h
