-- The steps of a script one at a time, as a loop makes them.
use Rattle.std.proofs.Common.{◌≡◌, ℕ, zero, suc, List, [], ◌∷◌, ◌++◌, map, take, drop, refl, sym}
use Rattle.std.proofs.Common.{ap}
use Rattle.std.proofs.Common.{ap₂, ◌∙◌}
use Rattle.pipes_query.specs.declared.script.Command.{Command}
use Rattle.pipes_query.specs.declared.script.Command.TheVariants.{Feed, Rest}
use Rattle.pipes_course.specs.Turns.{Turn, left_of, left_after}
use Rattle.pipes_course.specs.Steps.{ScriptStep, Made, steps_of}
use Rattle.pipes_course.proofs.Rest.{GoesFirst, NoneLeft, rest-first, rest-none}

-- ---- what is left

left_after-none : (source : ℕ) (left : List (List Turn)) → left_after 0 source left ≡ left
left_after-none source [] = refl
left_after-none zero (l ∷ ls) = refl
left_after-none (suc source) (l ∷ ls) =
    ap (λ (k : List (List Turn)). l ∷ k) (left_after-none source ls)

drop-one : (n : ℕ) (l : List Turn) → drop n (drop 1 l) ≡ drop (suc n) l
drop-one zero [] = refl
drop-one (suc n) [] = refl
drop-one n (x ∷ l) = refl

left_after-more : (n source : ℕ) (left : List (List Turn))
    → left_after n source (left_after 1 source left) ≡ left_after (suc n) source left
left_after-more n source [] = refl
left_after-more n zero (l ∷ ls) = ap (λ (k : List Turn). k ∷ ls) (drop-one n l)
left_after-more n (suc source) (l ∷ ls) =
    ap (λ (k : List (List Turn)). l ∷ k) (left_after-more n source ls)

left_of-after : (source : ℕ) (left : List (List Turn)) (x : Turn) (xs : List Turn)
    → left_of left source ≡ x ∷ xs → left_of (left_after 1 source left) source ≡ xs
left_of-after zero [] x xs e = cc (e)
left_of-after (suc source) [] x xs e = cc (e)
left_of-after zero (l ∷ ls) x xs e = ap (drop 1) e
left_of-after (suc source) (l ∷ ls) x xs e = left_of-after source ls x xs e

-- ---- `feed`

-- one turn of the source, and then the turns that are still to be made
pub feed-turn : (source n : ℕ) (x : Turn) (xs : List Turn) (left : List (List Turn))
    (cs : List Command) → left_of left source ≡ x ∷ xs
    → steps_of left (Feed source (suc n) ∷ cs)
    ≡ Made x ∷ steps_of (left_after 1 source left) (Feed source n ∷ cs)
feed-turn source n x xs left cs e =
    ap₂ (λ (ts : List Turn) (ss : List ScriptStep). map Made (take (suc n) ts) ++ ss) e
    (ap (λ (k : List (List Turn)). steps_of k cs) (sym (left_after-more n source left)))
    ∙ ap (λ (ts : List Turn). Made x ∷ (map Made (take n ts)
    ++ steps_of (left_after n source (left_after 1 source left)) cs))
    (sym (left_of-after source left x xs e))

-- no turn is to be made any more
pub feed-done : (source : ℕ) (left : List (List Turn)) (cs : List Command)
    → steps_of left (Feed source 0 ∷ cs) ≡ steps_of left cs
feed-done source left cs =
    ap (λ (k : List (List Turn)). steps_of k cs) (left_after-none source left)

-- the source has ended, or there is none with this number
left_after-ended : (n source : ℕ) (left : List (List Turn)) → left_of left source ≡ []
    → left_after n source left ≡ left
left_after-ended n source [] e = refl
left_after-ended n zero (l ∷ ls) e =
    ap (λ (k : List Turn). k ∷ ls) (ap (drop n) e ∙ drop-nil n ∙ sym e)
  where
    drop-nil : (n : ℕ) → drop {A = Turn} n [] ≡ []
    drop-nil zero = refl
    drop-nil (suc n) = refl
left_after-ended n (suc source) (l ∷ ls) e =
    ap (λ (k : List (List Turn)). l ∷ k) (left_after-ended n source ls e)

pub feed-ended : (source n : ℕ) (left : List (List Turn)) (cs : List Command)
    → left_of left source ≡ [] → steps_of left (Feed source n ∷ cs) ≡ steps_of left cs
feed-ended source n left cs e =
    ap₂ (λ (ts : List Turn) (k : List (List Turn)). map Made (take n ts) ++ steps_of k cs) e
    (left_after-ended n source left e)
    ∙ ap (λ (ts : List Turn). map Made ts ++ steps_of left cs) (take-nil n)
  where
    take-nil : (n : ℕ) → take {A = Turn} n [] ≡ []
    take-nil zero = refl
    take-nil (suc n) = refl

-- ---- `rest`, and the end of the script

-- the turn of least rank, and then the rest
pub rest-turn : (x : Turn) (source : ℕ) (left : List (List Turn)) (cs : List Command)
    → GoesFirst x source left
    → steps_of left (Rest ∷ cs) ≡ Made x ∷ steps_of (left_after 1 source left) (Rest ∷ cs)
rest-turn x source left cs first =
    ap (λ (ts : List Turn). map Made ts ++ steps_of [] cs) (rest-first x source left first)

pub rest-done : (left : List (List Turn)) (cs : List Command) → NoneLeft left
    → steps_of left (Rest ∷ cs) ≡ steps_of [] cs
rest-done left cs none_left =
    ap (λ (ts : List Turn). map Made ts ++ steps_of [] cs) (rest-none left none_left)

pub end-turn : (x : Turn) (source : ℕ) (left : List (List Turn)) → GoesFirst x source left
    → steps_of left [] ≡ Made x ∷ steps_of (left_after 1 source left) []
end-turn x source left first = ap (map Made) (rest-first x source left first)

pub end-done : (left : List (List Turn)) → NoneLeft left → steps_of left [] ≡ []
end-done left none_left = ap (map Made) (rest-none left none_left)
