-- An element, sent so many times.
use Rattle.std.proofs.Common.{◌≡◌, ℕ, zero, suc, List, [], ◌∷◌, ◌++◌, map, replicate}
use Rattle.std.proofs.Common.{refl, sym, ap, ◌∙◌, append_assoc}
use Rattle.pipes_stream.specs.declared.Elem.{Elem}
use Rattle.pipes_stream.specs.declared.message.Message.{Message}
use Rattle.pipes_stream.specs.declared.message.Message.TheVariants as message

one-more : (n : ℕ) (e : Elem) → map message.Elem (replicate n e) ++ message.Elem e ∷ []
    ≡ map message.Elem (replicate (suc n) e)
one-more zero e = refl
one-more (suc n) e = ap (λ (ms : List Message). message.Elem e ∷ ms) (one-more n e)

pub sent-one : (n m : ℕ) (e copy : Elem) (start out now : List Message) → m ≡ suc n → copy ≡ e
    → out ≡ start ++ map message.Elem (replicate n e) → now ≡ out ++ message.Elem copy ∷ []
    → now ≡ start ++ map message.Elem (replicate m e)
sent-one n m e copy start out now is same at put =
    put ∙ ap (λ (c : Elem). out ++ message.Elem c ∷ []) same
    ∙ ap (λ (ms : List Message). ms ++ message.Elem e ∷ []) at
    ∙ append_assoc start (map message.Elem (replicate n e)) (message.Elem e ∷ [])
    ∙ ap (λ (ms : List Message). start ++ ms) (one-more n e)
    ∙ ap (λ (i : ℕ). start ++ map message.Elem (replicate i e)) (sym is)

pub grown : (start out now : List Message) (m : Message) → (more : List Message)
    × (out ≡ start ++ more)
    → now ≡ out ++ m ∷ [] → (more : List Message) × (now ≡ start ++ more)
grown start out now m g put = (
  g.0 ++ m ∷ [],
  put ∙ ap (λ (ms : List Message). ms ++ m ∷ []) g.1 ∙ append_assoc start g.0 (m ∷ []),
)
