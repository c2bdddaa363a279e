-- Lists of expressions changed one after another.
use Rattle.std.proofs.Common.{◌≡◌, ℕ, zero, suc, ◌+◌, ◌<◌, List, [], ◌∷◌, ◌++◌, length, take}
use Rattle.std.proofs.Common.{get_or}
use Rattle.std.proofs.Common.{Option, Some, None, refl, sym, ap, ◌∙◌, arith}
use Rattle.std.proofs.lemmas.List.{take_more}
use Rattle.pipes_expr.specs.declared.expr.Expr.{Expr}
use Rattle.pipes_rewrite.specs.Changes.{both_there, expr_changed, exprs_changed}

abbrev and_one : List Expr → Expr → List Expr
and_one ys y = ys ++ (y ∷ [])

both_parts : (x : Expr) (a b : Option Expr) (ys : Option (List Expr))
    → both_there ◌∷◌ a (both_there and_one ys b) ≡ both_there and_one (both_there ◌∷◌ a ys) b
both_parts x (Some a) (Some b) (Some ys) = refl
both_parts x (Some a) None (Some ys) = refl
both_parts x (Some a) (Some b) None = refl
both_parts x (Some a) None None = refl
both_parts x None (Some b) (Some ys) = refl
both_parts x None None (Some ys) = refl
both_parts x None (Some b) None = refl
both_parts x None None None = refl

alone : (a : Option Expr) → both_there ◌∷◌ a (Some []) ≡ both_there and_one (Some []) a
alone (Some a) = refl
alone None = refl

changed-push : (f : ℕ → Option Expr) (xs : List Expr) (x : Expr)
    → exprs_changed f (xs ++ (x ∷ []))
    ≡ both_there and_one (exprs_changed f xs) (expr_changed f x)
changed-push f [] x = alone (expr_changed f x)
changed-push f (z ∷ xs) x =
    ap (λ (o : Option (List Expr)). both_there ◌∷◌ (expr_changed f z) o) (changed-push f xs x)
    ∙ both_parts x (expr_changed f z) (expr_changed f x) (exprs_changed f xs)

-- one more, and the first that isn't
module _ (f : ℕ → Option Expr) (xs : List Expr) (i : ℕ) (x : Expr) where
  pub changed_more : (ys zs : List Expr) (y : Expr) → i < length xs → x ≡ get_or xs i x
      → exprs_changed f (take i xs) ≡ Some ys → Some y ≡ expr_changed f x
      → zs ≡ ys ++ (y ∷ []) → exprs_changed f (take (i + 1) xs) ≡ Some zs
  changed_more ys zs y lt at before here after =
      ap (λ (l : List Expr). exprs_changed f l) (take_more xs i x lt
      ∙ ap (λ (z : Expr). take i xs ++ (z ∷ [])) (sym at))
      ∙ changed-push f (take i xs) x ∙ rw (before, ← here, after) refl

none_after : (a : Option Expr) (o : Option (List Expr)) → o ≡ None → both_there ◌∷◌ a o ≡ None
none_after (Some a) o e = rw e refl
none_after None o e = refl

none_at : (f : ℕ → Option Expr) (xs : List Expr) (i : ℕ) (x : Expr) → i < length xs
    → x ≡ get_or xs i x → expr_changed f x ≡ None → exprs_changed f xs ≡ None
none_at f [] i x lt at none = absurd (omega (arith, lt))
none_at f (z ∷ xs) zero x lt at none =
    ap (λ (o : Option Expr). both_there ◌∷◌ o (exprs_changed f xs))
    (ap (λ (w : Expr). expr_changed f w) (sym at) ∙ none)
none_at f (z ∷ xs) (suc i) x lt at none =
    none_after (expr_changed f z) (exprs_changed f xs)
    (none_at f xs i x (omega (arith, lt)) at none)

pub changed_none : (f : ℕ → Option Expr) (xs : List Expr) (i : ℕ) (x : Expr) → i < length xs
    → x ≡ get_or xs i x → None ≡ expr_changed f x → None ≡ exprs_changed f xs
changed_none f xs i x lt at none = sym (none_at f xs i x lt at (sym none))
