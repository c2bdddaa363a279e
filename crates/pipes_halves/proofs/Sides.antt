-- One message more on either side of a split.
use Rattle.std.proofs.Common.{◌≡◌, ℕ, ◌≤◌, ◌<◌, max, Bool, true, false, List, [], ◌∷◌, ◌++◌, refl, sym}
use Rattle.std.proofs.Common.{ap, subst, ◌∙◌, arith, ⊎_elim}
use Rattle.std.proofs.lemmas.Bool.{cases_lt}
use Rattle.std.proofs.lemmas.List.{append-nil}
use Rattle.pipes_time.specs.Interval.{closed}
use Rattle.pipes_tuple.specs.declared.value.Value.{Value}
use Rattle.pipes_tuple.specs.Bag.{SameBag}
use Rattle.pipes_tuple.proofs.Bags.{SameBag-append, SameBag-refl}
use Rattle.pipes_stream.specs.declared.Elem.{Elem}
use Rattle.pipes_stream.specs.declared.message.Message.{Message}
use Rattle.pipes_stream.specs.declared.message.Message.TheVariants as message
use Rattle.pipes_stream.specs.Progress.{Progress}
use Rattle.pipes_stream.specs.Snapshot.{snapshot}
use Rattle.pipes_stream.specs.Lists.{CanFollow, after, run, start_of_list, Valid, beat, HasEnded}
use Rattle.pipes_stream.specs.Lists.{elements}
use Rattle.pipes_stream.proofs.Messages.{run-push, valid-push, elements-append}
use Rattle.pipes_stream.proofs.Snapshots.{snapshot-append}
use Rattle.pipes_halves.specs.Halves.{StandsBelow, StandsFrom, grown}

pub beat-push : (xs : List Message) (m : Message)
    → beat (xs ++ m ∷ []) ≡ (after (run start_of_list xs) m).beat
beat-push xs m = ap (λ (p : Progress). p.beat) (run-push start_of_list xs m)

pub ended-push : (xs : List Message) (m : Message)
    → (run start_of_list (xs ++ m ∷ [])).ended ≡ (after (run start_of_list xs) m).ended
ended-push xs m = ap (λ (p : Progress). p.ended) (run-push start_of_list xs m)

-- the same is valid, if it was before and is of the messages that came
pub same-push : (xs ys ms ns : List Message) (t : ℕ)
    → SameBag (snapshot (elements xs) t) (snapshot (elements ys) t)
    → snapshot (elements ms) t ≡ snapshot (elements ns) t
    → SameBag (snapshot (elements (xs ++ ms)) t) (snapshot (elements (ys ++ ns)) t)
same-push xs ys ms ns t before now =
    let here = split xs ms in let there = split ys ns in
    subst (λ (l : List (List Value)). SameBag l (snapshot (elements (ys ++ ns)) t)) (sym here)
    (subst (λ (l : List (List Value)). SameBag
    (snapshot (elements xs) t ++ snapshot (elements ms) t) l) (sym there)
    (SameBag-append before (subst (λ (l : List (List Value)).
    SameBag (snapshot (elements ms) t) l) now (SameBag-refl (snapshot (elements ms) t)))))
  where
    split : (us vs : List Message) → snapshot (elements (us ++ vs)) t
        ≡ snapshot (elements us) t ++ snapshot (elements vs) t
    split us vs = ap (λ (es : List Elem). snapshot es t) (elements-append us vs)
        ∙ snapshot-append (elements us) (elements vs) t

pub grown-going : (list more : List Message) → (run start_of_list list).ended ≡ false
    → grown list more ≡ list ++ more
grown-going list more going = rw going refl

pub grown-over : (list more : List Message) → (run start_of_list list).ended ≡ true
    → grown list more ≡ list
grown-over list more over = rw over refl

-- ---- below the split

-- the source goes on below it: the same message came, or a part of it
pub below-goes : (split base : ℕ) (all below : List Message) (m x : Message)
    → StandsBelow split base all below → beat all < split
    → CanFollow (run start_of_list below) x
    → beat (all ++ m ∷ []) < split
    → beat (below ++ x ∷ []) ≡ beat (all ++ m ∷ [])
    → (run start_of_list (below ++ x ∷ [])).ended ≡ false
    → ((t : ℕ) → t < split → snapshot (elements (x ∷ [])) t ≡ snapshot (elements (m ∷ [])) t)
    → StandsBelow split base (all ++ m ∷ []) (grown below (x ∷ []))
below-goes split base all below m x s low can under same going parts =
    subst (λ (l : List Message). StandsBelow split base (all ++ m ∷ []) l)
    (sym (grown-going below (x ∷ []) (s.goes low))) (record {
      valid = valid-push start_of_list below x s.valid can;
      beat_is = λ l. same;
      goes = λ l. going;
      past = λ h. absurd (omega (arith, h, under));
      same = λ t from below_it. same-push below all (x ∷ []) (m ∷ []) t (s.same t from below_it)
          (parts t below_it);
    })

-- it has come to the split: the end came, or had come
pub below-ends : (split base : ℕ) (all below : List Message) (m : Message)
    → StandsBelow split base all below → split ≤ beat (all ++ m ∷ [])
    → ((t : ℕ) → t < split → snapshot (elements (m ∷ [])) t ≡ [])
    → StandsBelow split base (all ++ m ∷ []) (grown below (message.End ∷ []))
below-ends split base all below m s over none = go (run start_of_list below).ended refl
  where
    kept : (t : ℕ) → base ≤ t → t < split → SameBag (snapshot (elements below) t)
        (snapshot (elements (all ++ m ∷ [])) t)
    kept t from under = subst (λ (l : List Message). SameBag (snapshot (elements l) t)
        (snapshot (elements (all ++ m ∷ [])) t)) (append-nil below)
        (same-push below all [] (m ∷ []) t (s.same t from under) (sym (none t under)))

    go : (b : Bool) → (run start_of_list below).ended ≡ b
        → StandsBelow split base (all ++ m ∷ []) (grown below (message.End ∷ []))
    go true ended = subst (λ (l : List Message). StandsBelow split base (all ++ m ∷ []) l)
        (sym (grown-over below (message.End ∷ []) ended)) (record {
          valid = s.valid;
          beat_is = λ low. absurd (omega (arith, low, over));
          goes = λ low. absurd (omega (arith, low, over));
          past = λ h. ended;
          same = kept;
        })
    go false going = subst (λ (l : List Message). StandsBelow split base (all ++ m ∷ []) l)
        (sym (grown-going below (message.End ∷ []) going)) (record {
          valid = valid-push start_of_list below message.End s.valid going;
          beat_is = λ low. absurd (omega (arith, low, over));
          goes = λ low. absurd (omega (arith, low, over));
          past = λ h. ended-push below message.End;
          same = λ t from under. same-push below all (message.End ∷ []) (m ∷ []) t
              (s.same t from under) (sym (none t under));
        })

-- ---- from the split on

pub from-goes : (split : ℕ) (all from : List Message) (m x : Message)
    → StandsFrom split all from → CanFollow (run start_of_list from) x
    → beat (from ++ x ∷ []) ≡ max (beat (all ++ m ∷ [])) split
    → (run start_of_list (from ++ x ∷ [])).ended ≡ (run start_of_list (all ++ m ∷ [])).ended
    → ((t : ℕ) → split ≤ t → snapshot (elements (x ∷ [])) t ≡ snapshot (elements (m ∷ [])) t)
    → StandsFrom split (all ++ m ∷ []) (from ++ x ∷ [])
from-goes split all from m x s can level ended parts = record {
  valid = valid-push start_of_list from x s.valid can;
  beat_is = level;
  ended_is = ended;
  same = λ t over. same-push from all (x ∷ []) (m ∷ []) t (s.same t over) (parts t over);
}

pub from-stays : (split : ℕ) (all from : List Message) (m : Message)
    → StandsFrom split all from → beat from ≡ max (beat (all ++ m ∷ [])) split
    → (run start_of_list from).ended ≡ (run start_of_list (all ++ m ∷ [])).ended
    → ((t : ℕ) → split ≤ t → snapshot (elements (m ∷ [])) t ≡ [])
    → StandsFrom split (all ++ m ∷ []) (from ++ [])
from-stays split all from m s level ended none =
    subst (λ (l : List Message). StandsFrom split (all ++ m ∷ []) l) (sym (append-nil from))
    (record {
      valid = s.valid;
      beat_is = level;
      ended_is = ended;
      same = λ t over. subst (λ (l : List Message). SameBag (snapshot (elements l) t)
          (snapshot (elements (all ++ m ∷ [])) t)) (append-nil from)
          (same-push from all [] (m ∷ []) t (s.same t over) (sym (none t over)));
    })
