-- What the entries of a run show: its elements in their order, and no heartbeat.
use Rattle.std.proofs.Common.{◌≡◌, ℕ, List, [], ◌∷◌, ◌++◌, Bool, true, false, refl, sym, ap}
use Rattle.std.proofs.Common.{subst, inl, inr}
use Rattle.std.specs.List.{All}
use Rattle.std.proofs.lemmas.List.Elements.{All-nil}
use Rattle.pipes_stream.specs.declared.Elem.{Elem}
use Rattle.pipes_window.specs.declared.item.Item.{Item}
use Rattle.pipes_time.specs.Rising.{RisesBy}
use Rattle.pipes_query.specs.declared.query.Query.{Query}
use Rattle.pipes_output.specs.declared.entry.Entry.{Entry}
use Rattle.pipes_output.specs.declared.entry.Entry.TheVariants.{Result, Beat, Accepted, Refused}
use Rattle.pipes_output.specs.declared.entry.Entry.TheVariants.{Idle, Over, Drained, Ended, Stopped}
use Rattle.pipes_semantics.specs.Written.{EndsRun, entries_of, results, starts}
use Rattle.pipes_semantics.specs.Right.{NeverFall, IsResultOf, Ordered, Final}

last_case : (P : Entry → Type 0) (last : Entry) → EndsRun last → P Ended → P Stopped → P last
last_case P last h ended stopped = elim h [
  | inl e ↦ subst P (sym e) ended
  | inr e ↦ subst P
      (sym e) stopped
]

pub results-entries : (last : Entry) → EndsRun last → (elems : List Elem)
    → results (entries_of elems last) ≡ elems
results-entries last is [] = last_case (λ (e : Entry). results (e ∷ []) ≡ []) last is refl refl
results-entries last is (e ∷ es) = ap (λ (l : List Elem). e ∷ l) (results-entries last is es)

starts-entries : (last : Entry) → EndsRun last → (low : ℕ) (elems : List Elem)
    → RisesBy (λ e. e.span.start) low elems
    → NeverFall low (starts (entries_of elems last))
starts-entries last is low [] up = last_case (λ (e : Entry). NeverFall low (starts (e ∷ []))) last
    is tt tt
starts-entries last is low (e ∷ es) up = (up.0, starts-entries last is e.span.start es up.1)

pub ordered-entries : (query : Query) (last : Entry) (elems : List Elem) → EndsRun last
    → RisesBy (λ e. e.span.start) 0 elems → All (IsResultOf query) elems
    → Ordered query (entries_of elems last)
ordered-entries query last elems is up typed = record {
  rising = starts-entries last is 0 elems up;
  typed = subst (λ (l : List Elem). All (IsResultOf query) l) (sym (results-entries last is elems))
      typed;
}

-- whether a heartbeat stands among the entries
has_beat : List Entry → Bool
has_beat [] = false
has_beat (Result e ∷ es) = has_beat es
has_beat (Beat h ∷ es) = true
has_beat (Accepted number split ∷ es) = has_beat es
has_beat (Refused command why ∷ es) = has_beat es
has_beat (Idle number ∷ es) = has_beat es
has_beat (Over number ∷ es) = has_beat es
has_beat (Drained inputs output ∷ es) = has_beat es
has_beat (Ended ∷ es) = has_beat es
has_beat (Stopped ∷ es) = has_beat es

has_beat-with : (before after : List Entry) (h : ℕ) → has_beat (before ++ Beat h ∷ after) ≡ true
unfolding has_beat
has_beat-with [] after h = refl
has_beat-with (Result e ∷ es) after h = has_beat-with es after h
has_beat-with (Beat k ∷ es) after h = refl
has_beat-with (Accepted number split ∷ es) after h = has_beat-with es after h
has_beat-with (Refused command why ∷ es) after h = has_beat-with es after h
has_beat-with (Idle number ∷ es) after h = has_beat-with es after h
has_beat-with (Over number ∷ es) after h = has_beat-with es after h
has_beat-with (Drained inputs output ∷ es) after h = has_beat-with es after h
has_beat-with (Ended ∷ es) after h = has_beat-with es after h
has_beat-with (Stopped ∷ es) after h = has_beat-with es after h

has_beat-entries : (last : Entry) → EndsRun last → (elems : List Elem)
    → has_beat (entries_of elems last) ≡ false
unfolding has_beat
has_beat-entries last is [] = last_case (λ (e : Entry). has_beat (e ∷ []) ≡ false) last is refl refl
has_beat-entries last is (e ∷ es) = has_beat-entries last is es

no_beat : (entries before after : List Entry) (h : ℕ) → has_beat entries ≡ false → entries ≡ before
    ++ Beat h ∷ after → ⊥
no_beat entries before after h none is =
    let some = has_beat-with before after h in
    let both = ap has_beat is in
    cc

pub final-entries : (query : Query) (items : List (List Item)) (last : Entry) (elems : List Elem)
    → EndsRun last → RisesBy (λ e. e.span.start) 0 elems
    → All (IsResultOf query) elems → Final query items (entries_of elems last)
final-entries query items last elems is up typed = record {
  ordered = ordered-entries query last elems is up typed;
  answers = λ before after h t split below within. absurd (no_beat (entries_of elems last) before
      after h (has_beat-entries last is elems) split);
}

-- no results are final
pub final-ended : (query : Query) (items : List (List Item))
    → Final query items (entries_of [] Ended)
final-ended query items =
    final-entries query items Ended [] (inl refl) tt (All-nil (IsResultOf query))
