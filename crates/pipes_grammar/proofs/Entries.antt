-- A list, read an entry at a time.
use Rattle.std.proofs.Common.{◌≡◌, ℕ, zero, suc, ◌<◌, true, false, List, [], ◌∷◌, ◌++◌, Result, Ok}
use Rattle.std.proofs.Common.{Err, refl, sym, ap, ◌∙◌, append_assoc, arith}
use Rattle.pipes_token.specs.declared.refusal.Refusal.{Refusal}
use Rattle.pipes_token.specs.declared.token.Token.{Token}
use Rattle.pipes_reader.specs.declared.fault.ParseFault.{ParseFault}
use Rattle.pipes_reader.specs.declared.fault.ParseFault.TheVariants.{Refused, Memory}
use Rattle.pipes_time.specs.Results.{◌>>=◌}
use Rattle.pipes_reader.specs.Reading.{Reads, Fails, too_many}
use Rattle.pipes_grammar.specs.ListReading.{step_from, after_prefix, entries_within}

-- what was read so far, and all that is to be read
abbrev Read : Type 0 → Type 0
Read A = Result (List A × List Token) Refusal

pub failed : {A : Type 0} (fault : ParseFault) (read : Reads A) (list : List A) (left : ℕ)
    (rest : List Token) (all : Read A) →
    Fails fault (step_from read rest) → after_prefix list (entries_within read left rest) ≡ all
    → 0 < left
    → Fails fault all
unfolding entries_within
failed fault read list zero rest all h is some = absurd (omega arith)
failed (Refused r) read list (suc left) rest all h is some = sym is ∙ rw h refl
failed Memory read list (suc left) rest all h is some = tt

pub last : {A : Type 0} (read : Reads A) (list longer : List A) (x : A) (left : ℕ)
    (rest after : List Token) (all : Read A) →
    step_from read rest ≡ Ok ((x, false), after) → after_prefix list
    (entries_within read left rest) ≡ all
    → longer ≡ list ++ (x ∷ []) → 0 < left
    → all ≡ Ok (longer, after)
unfolding entries_within
last read list longer x zero rest after all h is e some = absurd (omega arith)
last read list longer x (suc left) rest after all h is e some = sym is ∙ rw (h, e) refl

after_twice : {A : Type 0} (list : List A) (x : A) (r : Read A)
    → after_prefix list (after_prefix (x ∷ []) r) ≡ after_prefix (list ++ (x ∷ [])) r
after_twice list x (Ok y) = simp append_assoc
after_twice list x (Err r) = refl

pub goes_on : {A : Type 0} (read : Reads A) (list longer : List A) (x : A) (left below : ℕ)
    (rest after : List Token) (all : Read A) →
    step_from read rest ≡ Ok ((x, true), after) → after_prefix list
    (entries_within read left rest) ≡ all
    → longer ≡ list ++ (x ∷ []) → left ≡ suc below
    → after_prefix longer (entries_within read below after) ≡ all
unfolding entries_within
goes_on read list longer x left below rest after all h is e f =
    let step : after_prefix list (entries_within read (suc below) rest) ≡ after_prefix
    (list ++ (x ∷ []))
    (entries_within read below after) =
    rw h (after_twice list x (entries_within read below after)) in
    ap (λ (l : List _). after_prefix l (entries_within read below after)) e ∙ sym step
    ∙ ap (λ (n : ℕ). after_prefix list (entries_within read n rest)) (sym f) ∙ is

pub none_left : {A : Type 0} (read : Reads A) (list : List A) (left : ℕ) (rest : List Token)
    (all : Read A) →
    after_prefix list (entries_within read left rest) ≡ all → left ≡ 0 → all ≡ Err (too_many rest)
unfolding entries_within
none_left read list left rest all is e = sym is
    ∙ ap (λ (n : ℕ). after_prefix list (entries_within read n rest)) e
