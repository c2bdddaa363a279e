-- Parts of texts that are certain.
use Rattle.std.proofs.Common.{◌≡◌, ℕ, ◌≤◌, List, [], ◌++◌, take, drop, sym, ap, arith}
use Rattle.std.proofs.Common.{subst, ◌∙◌, append_assoc}
use Rattle.std.proofs.lemmas.List.{append-nil, take-append-drop}
use Rattle.std.proofs.lemmas.List.Elements.{All-nil}
use Rattle.pipes_stream.specs.declared.Elem.{Elem}
use Rattle.pipes_settled.specs.Certainty.{AreIntervals, StartFrom, IsCertain}
use Rattle.pipes_settled.proofs.Certain.{certain-laws}

-- a first part of what is certain is certain
pub certain-part : (elems : List Elem) (h : ℕ) (text part rest : List ℕ) → text ≡ part ++ rest
    → IsCertain elems h text → IsCertain elems h part
certain-part elems h text part rest is certain more whole intervals starts normal =
    let tail = certain more whole intervals starts normal in
    (rest ++ tail.0, tail.1 ∙ ap (λ (l : List ℕ). l ++ tail.0) is ∙ append_assoc part rest tail.0)

pub certain-taken : (elems : List Elem) (h n : ℕ) (text : List ℕ) → IsCertain elems h text
    → IsCertain elems h (take n text)
certain-taken elems h n text certain =
    certain-part elems h text (take n text) (drop n text) (sym (take-append-drop n text)) certain

-- it stays so
pub certain-later : (elems : List Elem) (h k : ℕ) (text : List ℕ) → h ≤ k
    → IsCertain elems h text → IsCertain elems k text
certain-later elems h k text low certain =
    subst (λ (es : List Elem). IsCertain es k text) (append-nil elems)
    (certain-laws.later elems [] h k text (All-nil _) (All-nil _) low certain)

-- and with more elements
pub certain-more : (elems more : List Elem) (h : ℕ) (text : List ℕ) → AreIntervals more
    → StartFrom h more → IsCertain elems h text → IsCertain (elems ++ more) h text
certain-more elems more h text intervals starts certain =
    certain-laws.later elems more h h text intervals starts (omega arith) certain
