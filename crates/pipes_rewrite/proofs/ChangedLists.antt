-- A list of expressions under a change, one expression more.
use Rattle.std.proofs.Common.{◌≡◌, ℕ, suc, ◌+◌, ◌<◌, List, [], ◌∷◌, ◌++◌, length, take, drop}
use Rattle.std.proofs.Common.{get_or}
use Rattle.std.proofs.Common.{refl, sym, ap, ◌∙◌, subst, Option, Some, None}
use Rattle.std.proofs.lemmas.List.{take_more}
use Rattle.std.proofs.Math.Seq.{split_at}
use Rattle.pipes_expr.specs.declared.expr.Expr.{Expr}
use Rattle.pipes_rewrite.specs.Changes.{both_there, expr_changed, exprs_changed}
use Rattle.pipes_rewrite.proofs.ChangedValues.{both_are_there}

some_same : {A : Type 0} {x y : A} → Some x ≡ Some y → x ≡ y
some_same h = cc

push_step : (o : Option Expr) (q q' : Option (List Expr)) (ys : List Expr) (y : Expr)
    → ((zs : List Expr) → q ≡ Some zs → q' ≡ Some (zs ++ y ∷ [])) → both_there ◌∷◌ o q ≡ Some ys
    → both_there ◌∷◌ o q' ≡ Some (ys ++ y ∷ [])
push_step (Some z) (Some zs) q' ys y h e = let w = h zs refl in let u : z ∷ zs ≡ ys = cc in
    rw (w, ← u)
push_step (Some z) None q' ys y h e = cc
push_step None q q' ys y h e = cc

changed_push : (f : ℕ → Option Expr) (xs : List Expr) (x : Expr) (ys : List Expr) (y : Expr)
    → exprs_changed f xs ≡ Some ys → expr_changed f x ≡ Some y
    → exprs_changed f (xs ++ x ∷ []) ≡ Some (ys ++ y ∷ [])
changed_push f [] x [] y e g = ap (λ o. both_there ◌∷◌ o (Some [])) g
changed_push f [] x (z ∷ ys) y e g = cc
changed_push f (z ∷ xs) x ys y e g =
    push_step (expr_changed f z) (exprs_changed f xs) (exprs_changed f (xs ++ x ∷ [])) ys y
    (λ zs h. changed_push f xs x zs y h g) e

none_after : (o : Option Expr) → both_there ◌∷◌ o None ≡ None
none_after (Some z) = refl
none_after None = refl

changed_stops : (f : ℕ → Option Expr) (xs : List Expr) (x : Expr) (zs : List Expr)
    → expr_changed f x ≡ None → exprs_changed f (xs ++ x ∷ zs) ≡ None
changed_stops f [] x zs e = ap (λ o. both_there ◌∷◌ o (exprs_changed f zs)) e
changed_stops f (z ∷ xs) x zs e =
    ap (both_there ◌∷◌ (expr_changed f z)) (changed_stops f xs x zs e)
    ∙ none_after (expr_changed f z)

pub changed_more : (f : ℕ → Option Expr) (xs : List Expr) (i : ℕ) (d x : Expr) (ys : List Expr)
    (y : Expr) → i < length xs → x ≡ get_or xs i d → exprs_changed f (take i xs) ≡ Some ys
    → expr_changed f x ≡ Some y → exprs_changed f (take (i + 1) xs) ≡ Some (ys ++ y ∷ [])
changed_more f xs i d x ys y h e g k =
    ap (exprs_changed f) (take_more xs i d h ∙ ap (λ z. take i xs ++ z ∷ []) (sym e))
    ∙ changed_push f (take i xs) x ys y g k

pub changed_none : (f : ℕ → Option Expr) (xs : List Expr) (i : ℕ) (d x : Expr) → i < length xs
    → x ≡ get_or xs i d → expr_changed f x ≡ None → exprs_changed f xs ≡ None
changed_none f xs i d x h e g =
    ap (exprs_changed f) (split_at xs i d h ∙ ap (λ z. take i xs ++ z ∷ drop (suc i) xs) (sym e))
    ∙ changed_stops f (take i xs) x (drop (suc i) xs) g

longer : (o : Option Expr) (q : Option (List Expr)) (n : ℕ) (ys : List Expr)
    → ((zs : List Expr) → q ≡ Some zs → length zs ≡ n) → both_there ◌∷◌ o q ≡ Some ys
    → length ys ≡ suc n
longer (Some z) (Some zs) n ys h e = let w = h zs refl in let u : z ∷ zs ≡ ys = cc in
    sym (ap length u) ∙ ap suc w
longer (Some z) None n ys h e = cc
longer None q n ys h e = cc

-- a list that is changed keeps its length
pub changed_length : (f : ℕ → Option Expr) (xs ys : List Expr) → exprs_changed f xs ≡ Some ys
    → length ys ≡ length xs
changed_length f [] ys h = sym (ap length (some_same h))
changed_length f (x ∷ xs) ys h =
    longer (expr_changed f x) (exprs_changed f xs) (length xs) ys
    (λ zs e. changed_length f xs zs e) h
