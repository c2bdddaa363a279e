-- What one more message at a port changes.
use Rattle.std.proofs.Common.{◌≡◌, List, [], ◌∷◌, ◌++◌, refl, sym, ◌∙◌, ap, subst, inl, inr}
use Rattle.std.specs.List.{All}
use Rattle.std.proofs.lemmas.List.Elements.{All-head, All-tail}
use Rattle.pipes_tuple.specs.declared.value.Kind.{Kind}
use Rattle.pipes_tuple.specs.Kinds.{Fits}
use Rattle.pipes_stream.specs.declared.Elem.{Elem}
use Rattle.pipes_stream.specs.declared.message.Message.{Message}
use Rattle.pipes_stream.specs.declared.message.Message.TheVariants as message
use Rattle.pipes_stream.specs.Progress.{Progress}
use Rattle.pipes_stream.specs.Lists.{CanFollow, after, run, ValidFrom, elements}
use Rattle.pipes_stream.specs.Lawful.{MessageFits}
use Rattle.pipes_node.specs.Passing.{MayPass, Passes}

-- one that passes
pub passes-push : (kinds : List Kind) (p : Progress) (taken passed : List Message) (m : Message)
    → Passes kinds p taken passed → MayPass kinds (run p passed) m
    → Passes kinds p (taken ++ m ∷ []) (passed ++ m ∷ [])
passes-push kinds p [] passed m s may =
    subst (λ (x : List Message). Passes kinds p (m ∷ []) (x ++ m ∷ [])) (sym s)
    (inl ([], refl, rw s at may, refl))
passes-push kinds p (n ∷ taken) passed m (inl s) may =
    subst (λ (x : List Message). Passes kinds p (n ∷ taken ++ m ∷ []) (x ++ m ∷ [])) (sym s.1)
    (inl (
      s.0 ++ m ∷ [],
      refl,
      s.2,
      passes-push kinds (after p n) taken s.0 m s.3
          (subst (λ (x : List Message). MayPass kinds (run p x) m) s.1 may),
    ))
passes-push kinds p (n ∷ taken) passed m (inr s) may =
    inr (s.0, passes-push kinds p taken passed m s.1 may)

-- one that fails
pub passes-skip : (kinds : List Kind) (p : Progress) (taken passed : List Message) (m : Message)
    → Passes kinds p taken passed → (MayPass kinds (run p passed) m → ⊥)
    → Passes kinds p (taken ++ m ∷ []) passed
passes-skip kinds p [] passed m s fails =
    inr (subst (λ (x : List Message). MayPass kinds (run p x) m → ⊥) s fails, s)
passes-skip kinds p (n ∷ taken) passed m (inl s) fails =
    inl (
      s.0,
      s.1,
      s.2,
      passes-skip kinds (after p n) taken s.0 m s.3
          (subst (λ (x : List Message). MayPass kinds (run p x) m → ⊥) s.1 fails),
    )
passes-skip kinds p (n ∷ taken) passed m (inr s) fails = inr
    (s.0, passes-skip kinds p taken passed m s.1 fails)

first-fits : (kinds : List Kind) (m : Message) (ms : List Message)
    → All (λ e. Fits e.tuple kinds) (elements (m ∷ ms)) → MessageFits m kinds
    × All (λ e. Fits e.tuple kinds) (elements ms)
first-fits kinds (message.Elem e) ms a = (
  All-head (λ (e : Elem). Fits e.tuple kinds) e
      (elements ms) a,
  All-tail (λ (e : Elem). Fits e.tuple kinds) e (elements ms) a,
)
first-fits kinds (message.Beat at) ms a = (tt, a)
first-fits kinds message.End ms a = (tt, a)

-- all the messages of a valid list that fits
pub passes-all : (kinds : List Kind) (p : Progress) (taken passed : List Message)
    → ValidFrom p taken → All (λ e. Fits e.tuple kinds) (elements taken)
    → Passes kinds p taken passed → passed ≡ taken
passes-all kinds p [] passed v f s = s
passes-all kinds p (m ∷ taken) passed v f (inl s) = s.1 ∙ ap (λ (x : List Message). m ∷ x)
    (passes-all kinds (after p m) taken s.0 v.1 (first-fits kinds m taken f).1 s.3)
passes-all kinds p (m ∷ taken) passed v f (inr s) =
    absurd (s.0 (v.0, (first-fits kinds m taken f).0))
