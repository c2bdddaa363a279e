-- Snapshots of lists of messages.
use Rattle.std.proofs.Common.{◌≡◌, ℕ, ◌≤◌, ◌<◌, Bool, true, false, ◌&&◌, nat_le, nat_lt, List, []}
use Rattle.std.proofs.Common.{◌∷◌, ◌++◌, map, refl, sym, ◌∙◌, ap, arith, append-nil}
use Rattle.std.specs.List.{All, filter}
use Rattle.std.proofs.lemmas.Bool.{le-leb, lt-leb}
use Rattle.std.proofs.lemmas.List.{map-append}
use Rattle.std.proofs.lemmas.List.Elements.{filter-append, All-nil, All-cons, All-head, All-tail}
use Rattle.std.proofs.lemmas.List.Elements.{All-weaker}
use Rattle.pipes_time.specs.Interval.{closed, Span}
use Rattle.pipes_tuple.specs.declared.value.Value.{Value}
use Rattle.pipes_tuple.proofs.Perm.{Perm, Perm-filter, Perm-map}
use Rattle.pipes_stream.specs.declared.Elem.{Elem}
use Rattle.pipes_stream.specs.declared.message.Message.{Message}
use Rattle.pipes_stream.specs.declared.message.Message.TheVariants as message
use Rattle.pipes_stream.specs.Progress.{Progress}
use Rattle.pipes_stream.specs.Snapshot.{is_held, snapshot}
use Rattle.pipes_stream.specs.Lists.{after, run, start_of_list, ValidFrom, Valid, beat, elements}
use Rattle.pipes_stream.proofs.Messages.{after-rises, run-rises, beat-closed, valid-prefix}
use Rattle.pipes_stream.proofs.Messages.{valid-suffix, elements-append}

pub snapshot-append : (xs ys : List Elem) (t : ℕ)
    → snapshot (xs ++ ys) t ≡ snapshot xs t ++ snapshot ys t
snapshot-append xs ys t =
    ap (λ (es : List Elem). map (λ (e : Elem). e.tuple) es)
    (filter-append (λ (e : Elem). is_held e.span t) xs ys)
    ∙ map-append (λ (e : Elem). e.tuple) (filter (λ (e : Elem). is_held e.span t) xs)
    (filter (λ (e : Elem). is_held e.span t) ys)

-- the same elements in another order
pub snapshot-Perm : {xs ys : List Elem} (t : ℕ) → Perm xs ys → Perm (snapshot xs t) (snapshot ys t)
snapshot-Perm t p = Perm-map (λ (e : Elem). e.tuple)
    (Perm-filter (λ (e : Elem). is_held e.span t) p)

not_held : (span : Span) (t : ℕ) → t < span.start → is_held span t ≡ false
not_held span t h = rw (lt-leb span.start t h) refl

-- elements that start above the instant
pub snapshot-above : (t : ℕ) (es : List Elem) → All (λ e. t < e.span.start) es → snapshot es t ≡ []
snapshot-above t [] h = refl
snapshot-above t (e ∷ es) h =
    rw (not_held e.span t (All-head (λ (e : Elem). t < e.span.start) e es h))
    (snapshot-above t es (All-tail (λ (e : Elem). t < e.span.start) e es h))

-- a lower bound
raised : (a b : ℕ) (es : List Elem) → a ≤ b → All (λ e. b ≤ e.span.start) es
    → All (λ e. a ≤ e.span.start) es
raised a b es h all = All-weaker (λ (e : Elem). b ≤ e.span.start) (λ (e : Elem). a ≤ e.span.start)
    (λ e w. omega (arith, h, w)) es all

-- the elements of a valid list start at or above the heartbeat before it
pub starts-from : (p : Progress) (xs : List Message) → ValidFrom p xs → p.beat ≤ closed
    → All (λ e. p.beat ≤ e.span.start) (elements xs)
starts-from p [] v h = All-nil (λ (d : Elem). p.beat ≤ d.span.start)
starts-from p (message.Elem e ∷ xs) v h =
    let a = after-rises p (message.Elem e) v.0 h in
    All-cons (λ (d : Elem). p.beat ≤ d.span.start) e (elements xs) a.0
    (raised p.beat e.span.start (elements xs) a.0
    (starts-from (after p (message.Elem e)) xs v.1 a.1))
starts-from p (message.Beat at ∷ xs) v h =
    let a = after-rises p (message.Beat at) v.0 h in
    raised p.beat at (elements xs) a.0 (starts-from (after p (message.Beat at)) xs v.1 a.1)
starts-from p (message.End ∷ xs) v h =
    raised p.beat closed (elements xs) h (starts-from (after p message.End) xs v.1 (omega arith))

-- below the heartbeat a snapshot is final
pub snapshot-final : (xs ys : List Message) (t : ℕ) → Valid (xs ++ ys) → t < beat xs
    → snapshot (elements (xs ++ ys)) t ≡ snapshot (elements xs) t
snapshot-final xs ys t v h =
    let low = starts-from (run start_of_list xs) ys (valid-suffix start_of_list xs ys v)
    (beat-closed xs (valid-prefix start_of_list xs ys v)) in
    let late : All (λ e. t < e.span.start) (elements ys) = All-weaker
    (λ (d : Elem). beat xs ≤ d.span.start) (λ (d : Elem). t < d.span.start)
    (λ d w. omega (arith, h, w)) (elements ys) low in
    ap (λ (es : List Elem). snapshot es t) (elements-append xs ys)
    ∙ snapshot-append (elements xs) (elements ys) t
    ∙ ap (λ (rows : List (List Value)). snapshot (elements xs) t ++ rows)
    (snapshot-above t (elements ys) late) ∙ append-nil (snapshot (elements xs) t)
