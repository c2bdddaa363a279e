-- Which heartbeats may be left out.
use Rattle.std.proofs.Common.{◌≡◌, ℕ, zero, suc, ◌+◌, ◌-◌, ◌≤◌, ◌<◌, List, [], ◌∷◌, ◌++◌, length}
use Rattle.std.proofs.Common.{slice_set, slice_index_or, refl, sym, ◌∙◌, ap, subst, arith}
use Rattle.std.proofs.Common.{append_assoc, append-nil}
use Rattle.pipes_stream.specs.declared.message.Message.{Message}
use Rattle.pipes_stream.specs.declared.message.Message.TheVariants as message
use Rattle.pipes_stream.specs.Progress.{Progress}
use Rattle.pipes_stream.specs.Lists.{after, run, start_of_list, ValidFrom, Valid, beat}
use Rattle.pipes_stream.proofs.Messages.{run-append, run-push, valid-prefix, valid-suffix}
use Rattle.pipes_node.specs.Says.{SaysFrom, Says}
use Rattle.pipes_node.specs.Merging.{brought, MergedOne, MergedAll}
use Rattle.pipes_node.proofs.Saying.{says-self, says-then, says-more, says-after}

-- a Beat says nothing more before a message that may follow it
beat-replaced : (p : Progress) (at : ℕ) (m : Message) → ValidFrom p (message.Beat at ∷ m ∷ [])
    → SaysFrom p (message.Beat at ∷ m ∷ []) (m ∷ [])
beat-replaced p at (message.Elem e) v =
    record {
      valid = ((v.0.0, omega (arith, v.0.1, v.1.0.1), v.1.0.2), tt);
      progress = refl;
      same_elements = refl;
    }
beat-replaced p at (message.Beat h) v =
    record {
      valid = ((v.0.0, omega (arith, v.0.1, v.1.0.1), v.1.0.2), tt);
      progress = refl;
      same_elements = refl;
    }
beat-replaced p at message.End v = record {
  valid = (v.0.0, tt);
  progress = refl;
  same_elements =
      refl;
}

same_level : (p : Progress) (at : ℕ) → at ≡ p.beat → after p (message.Beat at) ≡ p
same_level p at e = ap (λ (b : ℕ). record { beat = b; ended = p.ended }) e

-- nor does one that is not above the heartbeat before it
beat-needless : (p : Progress) (at : ℕ) → at ≤ p.beat → ValidFrom p (message.Beat at ∷ [])
    → SaysFrom p (message.Beat at ∷ []) []
beat-needless p at low v =
    let a : p.beat ≤ at = v.0.1 in
    record { valid = tt; progress = sym (same_level p at (omega arith)); same_elements = refl }

after-brought : (p : Progress) (m : Message) → (after p m).beat ≡ brought m
after-brought p (message.Elem e) = refl
after-brought p (message.Beat at) = refl
after-brought p message.End = refl

pub merged-push : (old : List Message) (l : ℕ) (m : Message) (now : List Message) → now ≡ old
    ++ m ∷ [] → MergedOne old l m now (brought m)
merged-push old l m now e p h v =
    subst (λ (x : List Message). SaysFrom p (old ++ m ∷ []) x × ((run p x).beat ≡ brought m))
    (sym e) (
      says-self p (old ++ m ∷ []) v,
      ap (λ (q : Progress). q.beat) (run-push p old m)
          ∙ after-brought (run p old) m,
    )

merged-replaced : (old before : List Message) (at l : ℕ) (m : Message) (now : List Message)
    → old ≡ before ++ message.Beat at ∷ [] → now ≡ before ++ m ∷ []
    → MergedOne old l m now (brought m)
merged-replaced old before at l m now e f p h v =
    let joined : old ++ m ∷ [] ≡ before ++ message.Beat at ∷ m ∷ [] =
    ap (λ (x : List Message). x ++ m ∷ []) e ∙ append_assoc before (message.Beat at ∷ [])
    (m ∷ []) in
    let w : ValidFrom p (before ++ message.Beat at ∷ m ∷ []) = subst (ValidFrom p) joined v in
    let s : SaysFrom p (before ++ message.Beat at ∷ m ∷ []) (before ++ m ∷ []) =
    says-after p before (message.Beat at ∷ m ∷ []) (m ∷ []) (valid-prefix p before
    (message.Beat at ∷ m ∷ []) w) (beat-replaced (run p before) at m
    (valid-suffix p before (message.Beat at ∷ m ∷ []) w)) in (
      subst (λ (x : List Message). SaysFrom p x now) (sym joined)
          (subst (SaysFrom p (before ++ message.Beat at ∷ m ∷ [])) (sym f) s),
      ap (λ (x : List Message). (run p x).beat) f
          ∙ (ap (λ (q : Progress). q.beat) (run-push p before m) ∙ after-brought (run p before) m),
    )

pub merged-needless : (old : List Message) (at l : ℕ) (now : List Message) → at ≤ l → now ≡ old
    → MergedOne old l (message.Beat at) now l
merged-needless old at l now low f p h v =
    let s : SaysFrom p (old ++ message.Beat at ∷ []) (old ++ []) =
    says-after p old (message.Beat at ∷ []) [] (valid-prefix p old (message.Beat at ∷ []) v)
    (beat-needless (run p old) at (omega (arith, low, h))
    (valid-suffix p old (message.Beat at ∷ []) v)) in (
      subst (SaysFrom p (old ++ message.Beat at ∷ [])) (append-nil old ∙ sym f) s,
      ap (λ (x : List Message). (run p x).beat) f ∙ h,
    )

-- the last of a list, and another in its place
at-end : (xs : List Message) (n : ℕ) (x y : Message) → length xs ≡ n + 1 → x ≡ slice_index_or xs n x
    → (before : List Message) × ((xs ≡ before ++ x ∷ []) × (slice_set xs n y ≡ before ++ y ∷ []))
at-end [] n x y h e = absurd (omega arith)
at-end (z ∷ []) zero x y h e = ([], (ap (λ (w : Message). w ∷ []) (sym e), refl))
at-end (z ∷ []) (suc n) x y h e = absurd (omega arith)
at-end (z ∷ w ∷ xs) zero x y h e = absurd (omega arith)
at-end (z ∷ w ∷ xs) (suc n) x y h e =
    let r = at-end (w ∷ xs) n x y (omega arith) e in
    (z ∷ r.0, (ap (λ (l : List Message). z ∷ l) r.1.0, ap (λ (l : List Message). z ∷ l) r.1.1))

pub merged-set : (old : List Message) (n at l : ℕ) (x m : Message) → length old ≡ n → 0 < n
    → x ≡ slice_index_or old (n - 1) x → x ≡ message.Beat at
    → MergedOne old l m (slice_set old (n - 1) m) (brought m)
merged-set old n at l x m h k e b =
    let r = at-end old (n - 1) x m (omega arith) e in
    merged-replaced old r.0 at l m (slice_set old (n - 1) m)
    (r.1.0 ∙ ap (λ (w : Message). r.0 ++ w ∷ []) b) r.1.1

-- the last, read and left
pub set-kept : (old : List Message) (n : ℕ) (x : Message) → length old ≡ n → 0 < n
    → x ≡ slice_index_or old (n - 1) x → slice_set old (n - 1) x ≡ old
set-kept old n x h k e =
    let r = at-end old (n - 1) x x (omega arith) e in
    r.1.1 ∙ sym r.1.0

pub merged-none : (old : List Message) (l : ℕ) → MergedAll old l [] old l
merged-none old l p h v = (
  subst (λ (x : List Message). SaysFrom p x old) (sym (append-nil old))
      (says-self p old (valid-prefix p old [] v)),
  h,
)

pub merged-next : (old : List Message) (l : ℕ) (more : List Message) (m : Message)
    (mid now : List Message) (k next : ℕ) → MergedAll old l more mid k → MergedOne mid k m now next
    → MergedAll old l (more ++ m ∷ []) now next
merged-next old l more m mid now k next a b p h v =
    let joined : old ++ (more ++ m ∷ []) ≡ (old ++ more) ++ m ∷ [] =
    sym (append_assoc old more (m ∷ [])) in
    let w : ValidFrom p ((old ++ more) ++ m ∷ []) = subst (ValidFrom p) joined v in
    let s = a p h (valid-prefix p (old ++ more) (m ∷ []) w) in
    let t : SaysFrom p ((old ++ more) ++ m ∷ []) (mid ++ m ∷ []) =
    says-more p (old ++ more) mid (m ∷ []) w s.0 in
    let r = b p s.1 t.valid in (
      subst (λ (x : List Message). SaysFrom p x now) (sym joined)
          (says-then p ((old ++ more) ++ m ∷ []) (mid ++ m ∷ []) now t r.0),
      r.1,
    )

-- What has gone out stays as it is, and only what is pending changes.
pub says-merged : (was out pending more now : List Message) (l next : ℕ)
    → beat (out ++ pending) ≡ l → Says was (out ++ (pending ++ more))
    → MergedAll pending l more now next → Says was (out ++ now)
says-merged was out pending more now l next low a merged =
    let p : Progress = run start_of_list out in
    let h : (run p pending).beat ≡ l = ap (λ (q : Progress). q.beat)
    (sym (run-append start_of_list out pending)) ∙ low in
    let r : SaysFrom p (pending ++ more) now × ((run p now).beat ≡ next) =
    merged p h (valid-suffix start_of_list out (pending ++ more) a.valid) in
    says-then start_of_list was (out ++ (pending ++ more)) (out ++ now) a
    (says-after start_of_list out (pending ++ more) now (valid-prefix start_of_list out
    (pending ++ more) a.valid) r.0)
