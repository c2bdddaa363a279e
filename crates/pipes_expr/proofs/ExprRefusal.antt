-- The walk over an expression finds the first of its refusals, or its kind where there is none.
use Rattle.std.proofs.Common.{◌≡◌, ℕ, ◌-◌, cond, Bool, true, false, List, [], ◌∷◌, ◌++◌, refl, sym}
use Rattle.std.proofs.Common.{ap, ◌∙◌, subst, rules, Option, Some, None, Result, Ok, Err, slice_get}
use Rattle.std.specs.Prelude.{is_some, nat_le}
use Rattle.pipes_tuple.specs.declared.value.Value.{Value}
use Rattle.pipes_tuple.specs.declared.value.Kind.{Kind}
use Rattle.pipes_tuple.specs.Kinds.{kind_of}
use Rattle.pipes_expr.specs.declared.why.Why.{Why}
use Rattle.pipes_expr.specs.declared.why.Why.TheVariants.{NoColumn, WrongKind, TooMany, TooDeep}
use Rattle.pipes_expr.specs.declared.op.Op.{Op}
use Rattle.pipes_expr.specs.declared.expr.Expr.{Expr, the_lemmas}
use Rattle.pipes_expr.specs.declared.expr.Expr.TheVariants.{Col, Literal, Binary, Not}
use Rattle.pipes_expr.specs.ExprKind.{expr_kind, both, only, op_kind, not_kind}
use Rattle.pipes_expr.specs.ExprSize.{expr_nodes, expr_depth, left_over}
use Rattle.pipes_expr.specs.ExprWhys.{Read, read, read_two, read_one, unless, column_whys}
use Rattle.pipes_expr.specs.ExprWhys.{expr_whys, first_of}
use Rattle.pipes_expr.specs.Outcomes.{Settles, kind_or, kind_or_why, result_two, result_one}
use Rattle.pipes_expr.proofs.ExprInduction.{Cases, induct}
use Rattle.pipes_expr.proofs.ExprEquations.{expr_kind-Col, expr_kind-Literal, expr_kind-Binary}
use Rattle.pipes_expr.proofs.ExprEquations.{expr_kind-Not}

-- the first of two lists is the first of the one, or of the other where the one is empty
pub first-append : {A : Type 0} (xs ys : List A) (x : A)
    → first_of xs ≡ Some x → first_of (xs ++ ys) ≡ Some x
first-append (x ∷ xs) ys y h = h
first-append [] ys y h = cc

pub first-after : {A : Type 0} (xs ys : List A) (o : Option A)
    → xs ≡ [] → first_of ys ≡ o → first_of (xs ++ ys) ≡ o
first-after [] ys o e h = h
first-after (x ∷ xs) ys o e h = cc

own : (o : Option Kind) (why : Why) → Settles (kind_or why o) (unless (is_some o) why) o
own (Some k) why = (refl, refl)
own None why = refl

abbrev ReadAs : Result Kind Why → Read → Type 0
ReadAs r x = Settles r x.whys x.kind

two : (f : Kind → Kind → Option Kind) (a b : Result Kind Why) (x y : Read)
    → ReadAs a x → ReadAs b y → ReadAs (result_two f a b) (read_two f x y)
two f (Err w) b x y h g = first-append x.whys _ w h
two f (Ok j) (Err w) x y h g = first-after x.whys _ _ h.0 (first-append y.whys _ w g)
two f (Ok j) (Ok k) x y h g = rw (h.0, h.1, g.0, g.1) (own (f j k) WrongKind)

one : (f : Kind → Option Kind) (a : Result Kind Why) (x : Read)
    → ReadAs a x → ReadAs (result_one f a) (read_one f x)
one f (Err w) x h = first-append x.whys _ w h
one f (Ok k) x h = rw (h.0, h.1) (own (f k) WrongKind)

-- what holds of the two sides of an equation
moved : (r r' : Result Kind Why) (x x' : Read) → r' ≡ r → x' ≡ x → ReadAs r x → ReadAs r' x'
moved r r' x x' e f h = subst (λ q. ReadAs q x') (sym e) (subst (λ z. ReadAs r z) (sym f) h)

result-Col : (i : ℕ) (s : List Kind) → kind_or_why (Col i) s ≡ kind_or NoColumn (slice_get s i)
result-Col i s = search (rules, the_lemmas)

read-Col : (i : ℕ) (s : List Kind)
    → read (Col i) s ≡ record { kind = slice_get s i; whys = column_whys s i }
read-Col i s = search (rules, the_lemmas)

result-Literal : (v : Value) (s : List Kind) → kind_or_why (Literal v) s ≡ Ok (kind_of v)
result-Literal v s = search (rules, the_lemmas)

read-Literal : (v : Value) (s : List Kind)
    → read (Literal v) s ≡ record { kind = Some (kind_of v); whys = [] }
read-Literal v s = search (rules, the_lemmas)

result-Binary : (o : Op) (a b : Expr) (s : List Kind)
    → kind_or_why (Binary o a b) s ≡ result_two (op_kind o) (kind_or_why a s) (kind_or_why b s)
result-Binary o a b s = search (rules, the_lemmas)

read-Binary : (o : Op) (a b : Expr) (s : List Kind)
    → read (Binary o a b) s ≡ read_two (op_kind o) (read a s) (read b s)
read-Binary o a b s = search (rules, the_lemmas)

result-Not : (a : Expr) (s : List Kind)
    → kind_or_why (Not a) s ≡ result_one not_kind (kind_or_why a s)
result-Not a s = search (rules, the_lemmas)

read-Not : (a : Expr) (s : List Kind) → read (Not a) s ≡ read_one not_kind (read a s)
read-Not a s = search (rules, the_lemmas)

abbrev Found : List Kind → Expr → Type 0
Found s e = ReadAs (kind_or_why e s) (read e s)

found_cases : (s : List Kind) → Cases (Found s)
found_cases s = record {
  col = λ i. moved _ _ _ _ (result-Col i s) (read-Col i s) (own (slice_get s i) NoColumn);
  literal = λ v. moved (Ok (kind_of v)) _ _ _ (result-Literal v s) (read-Literal v s) (refl, refl);
  binary = λ o a b p q. moved _ _ _ _ (result-Binary o a b s) (read-Binary o a b s)
      (two (op_kind o) (kind_or_why a s) (kind_or_why b s) (read a s) (read b s) p q);
  not = λ a p. moved _ _ _ _ (result-Not a s) (read-Not a s)
      (one not_kind (kind_or_why a s) (read a s) p);
}

-- the kind beside the refusals is the expression's kind
abbrev SameKind : List Kind → Expr → Type 0
SameKind s e = (read e s).kind ≡ expr_kind e s

kind_cases : (s : List Kind) → Cases (SameKind s)
kind_cases s = record {
  col = λ i. ap (λ r. r.kind) (read-Col i s) ∙ sym (expr_kind-Col i s);
  literal = λ v. ap (λ r. r.kind) (read-Literal v s) ∙ sym (expr_kind-Literal v s);
  binary = λ o a b p q. ap (λ r. r.kind) (read-Binary o a b s)
      ∙ ap (λ k. both (op_kind o) k (read b s).kind) p ∙ ap (both (op_kind o) (expr_kind a s)) q
      ∙ sym (expr_kind-Binary o a b s);
  not = λ a p. ap (λ r. r.kind) (read-Not a s) ∙ ap (only not_kind) p ∙ sym (expr_kind-Not a s);
}

pub read_kind : (e : Expr) (s : List Kind) → (read e s).kind ≡ expr_kind e s
read_kind e s = induct (SameKind s) (kind_cases s) e

pub walk_settles : (e : Expr) (s : List Kind)
    → Settles (kind_or_why e s) (read e s).whys (expr_kind e s)
walk_settles e s =
    subst (λ o. Settles (kind_or_why e s) (read e s).whys o) (read_kind e s)
    (induct (Found s) (found_cases s) e)

-- ---- the limits come first

after_limits : (b c : Bool) (n : ℕ) (whys : List Why) (o : Option Kind) (r : Result Kind Why)
    → is_some (cond b (Some n) None) ≡ true → c ≡ true → Settles r whys o
    → Settles r ((unless b TooMany ++ unless c TooDeep) ++ whys) o
after_limits true true n whys o r g h k = k
after_limits true false n whys o r g h k = cc
after_limits false c n whys o r g h k = cc

-- an expression that is within its limits is settled by the walk
pub limits_pass : (e : Expr) (s : List Kind) (left : Option ℕ) (within : Bool)
    (r : Result Kind Why) → left ≡ left_over 255 (expr_nodes e) → is_some left ≡ true
    → within ≡ nat_le (expr_depth e) 32 → within ≡ true → r ≡ kind_or_why e s
    → Settles r (expr_whys s e) (expr_kind e s)
limits_pass e s left within r g h i j k =
    after_limits (nat_le (expr_nodes e) 255) (nat_le (expr_depth e) 32) (255 - expr_nodes e)
    (read e s).whys (expr_kind e s) r (ap is_some (sym g) ∙ h) (sym i ∙ j)
    (subst (λ q. Settles q (read e s).whys (expr_kind e s)) (sym k) (walk_settles e s))
