-- Lists of messages one after another.
use Rattle.std.proofs.Common.{◌≡◌, ℕ, ◌≤◌, ◌<◌, Bool, true, false, List, [], ◌∷◌, ◌++◌, map, refl}
use Rattle.std.proofs.Common.{ap, arith}
use Rattle.pipes_time.specs.Interval.{closed, IsInterval}
use Rattle.pipes_stream.specs.declared.Elem.{Elem}
use Rattle.pipes_stream.specs.declared.message.Message.{Message}
use Rattle.pipes_stream.specs.declared.message.Message.TheVariants as message
use Rattle.pipes_stream.specs.Progress.{Progress}
use Rattle.pipes_stream.specs.Lists.{CanFollow, after, run, start_of_list, ValidFrom, Valid, beat}
use Rattle.pipes_stream.specs.Lists.{HasEnded, elements}

pub run-append : (p : Progress) (xs ys : List Message) → run p (xs ++ ys) ≡ run (run p xs) ys
run-append p [] ys = refl
run-append p (m ∷ xs) ys = run-append (after p m) xs ys

pub run-push : (p : Progress) (xs : List Message) (m : Message)
    → run p (xs ++ m ∷ []) ≡ after (run p xs) m
run-push p xs m = run-append p xs (m ∷ [])

pub valid-append : (p : Progress) (xs ys : List Message) → ValidFrom p xs → ValidFrom (run p xs) ys
    → ValidFrom p (xs ++ ys)
valid-append p [] ys v w = w
valid-append p (m ∷ xs) ys v w = (v.0, valid-append (after p m) xs ys v.1 w)

pub valid-push : (p : Progress) (xs : List Message) (m : Message) → ValidFrom p xs
    → CanFollow (run p xs) m → ValidFrom p (xs ++ m ∷ [])
valid-push p xs m v w = valid-append p xs (m ∷ []) v (w, tt)

-- the parts of a valid list
pub valid-prefix : (p : Progress) (xs ys : List Message) → ValidFrom p (xs ++ ys) → ValidFrom p xs
valid-prefix p [] ys v = tt
valid-prefix p (m ∷ xs) ys v = (v.0, valid-prefix (after p m) xs ys v.1)

pub valid-suffix : (p : Progress) (xs ys : List Message) → ValidFrom p (xs ++ ys)
    → ValidFrom (run p xs) ys
valid-suffix p [] ys v = v
valid-suffix p (m ∷ xs) ys v = valid-suffix (after p m) xs ys v.1

pub elements-append : (xs ys : List Message) → elements (xs ++ ys) ≡ elements xs ++ elements ys
elements-append [] ys = refl
elements-append (message.Elem e ∷ xs) ys = ap (λ (es : List Elem). e ∷ es) (elements-append xs ys)
elements-append (message.Beat at ∷ xs) ys = elements-append xs ys
elements-append (message.End ∷ xs) ys = elements-append xs ys

-- the elements sent alone
pub elements-map : (es : List Elem) → elements (map message.Elem es) ≡ es
elements-map [] = refl
elements-map (e ∷ es) = ap (λ (xs : List Elem). e ∷ xs) (elements-map es)

-- a message that may follow doesn't lie below the heartbeat, nor above that of an end
pub after-rises : (p : Progress) (m : Message) → CanFollow p m → p.beat ≤ closed
    → (p.beat ≤ (after p m).beat) × ((after p m).beat ≤ closed)
after-rises p (message.Elem e) w h = (
  w.1,
  let a : e.span.start < e.span.end = w.2.0 in
      let b : e.span.end ≤ 1000000000000000 = w.2.1 in omega arith,
)
after-rises p (message.Beat at) w h = (w.1, w.2)
after-rises p message.End w h = (h, omega arith)

pub run-rises : (p : Progress) (xs : List Message) → ValidFrom p xs → p.beat ≤ closed
    → (p.beat ≤ (run p xs).beat) × ((run p xs).beat ≤ closed)
run-rises p [] v h = (omega arith, h)
run-rises p (m ∷ xs) v h =
    let a = after-rises p m v.0 h in
    let b = run-rises (after p m) xs v.1 a.1 in
    (omega (arith, a.0, b.0), b.1)

-- the heartbeat of a valid list
pub beat-closed : (xs : List Message) → Valid xs → beat xs ≤ closed
beat-closed xs v = (run-rises start_of_list xs v (omega arith)).1

-- an ended list is at the heartbeat of an end
abbrev EndedIsClosed : Progress → Type 0
EndedIsClosed p = p.ended ≡ true → p.beat ≡ closed

after-ended : (p : Progress) (m : Message) → CanFollow p m → EndedIsClosed (after p m)
after-ended p (message.Elem e) w h = cc
after-ended p (message.Beat at) w h = cc
after-ended p message.End w h = refl

run-ended : (p : Progress) (xs : List Message) → ValidFrom p xs → EndedIsClosed p
    → EndedIsClosed (run p xs)
run-ended p [] v h = h
run-ended p (m ∷ xs) v h = run-ended (after p m) xs v.1 (after-ended p m v.0)

pub beat-ended : (xs : List Message) → Valid xs → HasEnded xs → beat xs ≡ closed
beat-ended xs v h = run-ended start_of_list xs v (λ e. cc) h
