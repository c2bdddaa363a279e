-- A repetition under a limit.
use Rattle.std.proofs.Common.{◌≡◌, ℕ, zero, suc, Bool, true, false, List, [], ◌∷◌, ◌++◌, Option}
use Rattle.std.proofs.Common.{Ok, refl, sym, subst, ◌⊎◌, inl, inr}
use Rattle.std.proofs.lemmas.List.{append-nil}
use Rattle.pipes_token.specs.declared.refusal.Refusal.{Refusal}
use Rattle.pipes_token.specs.declared.token.TokenKind.{TokenKind}
use Rattle.pipes_token.specs.declared.token.Token.{Token}
use Rattle.pipes_reader.specs.Reading.{Reads, kinds_of, followed, many_within}
use Rattle.pipes_reader.specs.Sentences.{Grammar, GrammarBefore, Anywhere, Begins, next_of, ahead}
use Rattle.pipes_reader.specs.Sentences.{has_last}
use Rattle.pipes_reader.specs.Places.{Refusals, AtToken}
use Rattle.pipes_reader.proofs.TokenLists.{both_unended}
use Rattle.pipes_reader.proofs.Readers.{IsReader, IsReaderIf, under, Then, both, ThenBefore, turn}
use Rattle.pipes_reader.proofs.Readers.{reads_in_turn}
use Rattle.pipes_reader.proofs.Readers.{IsFree, ReadsSome, reworded, moves}
use Rattle.pipes_reader.proofs.Singles.{Pure, pure, none_by}

-- steps, each from the state that the one before has made, without a limit; a step says whether
-- another follows
pub data Many {S : Type 0} (Step : S → Grammar (S × Bool)) : S → S → List TokenKind → Type 0 where
  last_step : (s s2 : S) (ks : List TokenKind) → Step s (s2, false) ks → Many Step s s2 ks
  more_steps : (s s2 s3 : S) (ks ls : List TokenKind) → Step s (s2, true) ks → Many Step s2 s3 ls
      → Many Step s s3 (ks ++ ls)

-- at most so many, and then Over
pub data ManyBefore {S : Type 0} (Step : S → GrammarBefore (S × Bool)) (Over : S → GrammarBefore S)
    : ℕ → S → S → List TokenKind → Option TokenKind → Type 0 where
  over : (s s2 : S) (ks : List TokenKind) (h : Option TokenKind) → Over s s2 ks h
      → ManyBefore Step Over 0 s s2 ks h
  last_before : (left : ℕ) (s s2 : S) (ks : List TokenKind) (h : Option TokenKind)
      → Step s (s2, false) ks h → ManyBefore Step Over (suc left) s s2 ks h
  more_before : (left : ℕ) (s s2 s3 : S) (ks ls : List TokenKind) (h : Option TokenKind)
      → Step s (s2, true) ks (ahead ls h) → ManyBefore Step Over left s2 s3 ls h
      → ManyBefore Step Over (suc left) s s3 (ks ++ ls) h

abbrev pub GoesIs : {S : Type 0} → (S → Grammar S) → S × Bool → Grammar S
GoesIs Others (s, true) = Others s
GoesIs Others (s, false) = Pure s

abbrev pub GoesBefore : {S : Type 0} → (S → GrammarBefore S) → S × Bool → GrammarBefore S
GoesBefore Others (s, true) = Others s
GoesBefore Others (s, false) = Anywhere (Pure s)

-- what is left of the room
abbrev pub GoesFits : {S : Type 0} → (S → Type 0) → S × Bool → List Token → Type 0
GoesFits Fits (s, true) = λ ts. Fits s
GoesFits Fits (s, false) = λ ts. Unit {0}

abbrev pub GoesPlace : {S : Type 0} → (S → Refusals) → S × Bool → Refusals
GoesPlace Where (s, true) = Where s
GoesPlace Where (s, false) = λ before t r. ⊥

-- ---- the steps one by one

module _ {S : Type 0} (Step : S → Grammar (S × Bool)) where
  gathered_by : (s s3 : S) (o : S × Bool) (ks ls : List TokenKind) → Step s o ks
      → GoesIs (Many Step) o s3 ls → Many Step s s3 (ks ++ ls)
  gathered_by s s3 (s2, true) ks ls is rest = more_steps s s2 s3 ks ls is rest
  gathered_by s _ (s2, false) ks _ is pure =
      subst (λ (z : List TokenKind). Many Step s s2 z) (sym (append-nil ks)) (last_step s s2 ks is)

  pub gathered : (s s3 : S) (ks : List TokenKind) → Then (Step s) (GoesIs (Many Step)) s3 ks
      → Many Step s s3 ks
  gathered s _ _ (both o s3 ks ls is rest) = gathered_by s s3 o ks ls is rest

  module _ (unended : (s : S) (o : S × Bool) (ks : List TokenKind) → Step s o ks
      → has_last ks ≡ false) where
    pub many_unended : (s s2 : S) (ks : List TokenKind) → Many Step s s2 ks → has_last ks ≡ false
    many_unended _ _ _ (last_step s s2 ks is) = unended s (s2, false) ks is
    many_unended _ _ _ (more_steps s s2 s3 ks ls is rest) =
        both_unended ks ls (unended s (s2, true) ks is) (many_unended s2 s3 ls rest)

  pub some_goes : ((s : S) → Begins (Many Step s) []) → (o : S × Bool)
      → Begins (GoesIs (Many Step) o) []
  some_goes some (s, true) = some s
  some_goes some (s, false) = (s, [], pure)

module _ {S : Type 0} (Step : S → GrammarBefore (S × Bool)) (Over : S → GrammarBefore S) where
  within_by : (left : ℕ) (s s3 : S) (o : S × Bool) (ks ls : List TokenKind) (h : Option TokenKind)
      → Step s o ks (ahead ls h) → GoesBefore (ManyBefore Step Over left) o s3 ls h
      → ManyBefore Step Over (suc left) s s3 (ks ++ ls) h
  within_by left s s3 (s2, true) ks ls h is rest = more_before left s s2 s3 ks ls h is rest
  within_by left s _ (s2, false) ks _ h is pure =
      subst (λ (z : List TokenKind). ManyBefore Step Over (suc left) s s2 z h) (sym (append-nil ks))
      (last_before left s s2 ks h is)

  within : (left : ℕ) (s s3 : S) (ks : List TokenKind) (h : Option TokenKind)
      → ThenBefore (Step s) (GoesBefore (ManyBefore Step Over left)) s3 ks h
      → ManyBefore Step Over (suc left) s s3 ks h
  within left s _ _ _ (turn o s3 ks ls h is rest) = within_by left s s3 o ks ls h is rest

  apart : (n left : ℕ) (s s3 : S) (ks : List TokenKind) (h : Option TokenKind)
      → ManyBefore Step Over n s s3 ks h → n ≡ suc left
      → ThenBefore (Step s) (GoesBefore (ManyBefore Step Over left)) s3 ks h
  apart _ left _ _ _ _ (over s s2 ks h is) e = absurd cc
  apart _ left _ _ _ _ (last_before n s s2 ks h is) e =
      subst (λ (z : List TokenKind). ThenBefore (Step s)
      (GoesBefore (ManyBefore Step Over left)) s2 z h)
      (append-nil ks) (turn (s2, false) s2 ks [] h is pure)
  apart _ left _ _ _ _ (more_before n s s2 s3 ks ls h is rest) e =
      let same : n ≡ left = cc in
      turn (s2, true) s3 ks ls h is (subst (λ (z : ℕ). ManyBefore Step Over z s2 s3 ls h) same rest)

  left_over : (n : ℕ) (s s2 : S) (ks : List TokenKind) (h : Option TokenKind)
      → ManyBefore Step Over n s s2 ks h → n ≡ 0 → Over s s2 ks h
  left_over _ _ _ _ _ (over s s2 ks h is) e = is
  left_over _ _ _ _ _ (last_before n s s2 ks h is) e = absurd cc
  left_over _ _ _ _ _ (more_before n s s2 s3 ks ls h is rest) e = absurd cc

-- ---- their reader

-- After each step that another follows anything may follow, or the steps after it don't refuse
-- everything.
abbrev pub StepsOn : {S : Type 0} → (S → GrammarBefore (S × Bool)) → (S → Reads (S × Bool))
    → (S → Reads S) → Type 0
StepsOn {S} StepIn step over_read = (left : ℕ) (s s2 : S) (ks : List TokenKind)
    (h : Option TokenKind) → StepIn s (s2, true) ks h
    → IsFree (StepIn s) (s2, true) ks ⊎ ReadsSome (many_within left step over_read s2)

module _ {S : Type 0} (Step : S → Grammar (S × Bool)) (StepIn : S → GrammarBefore (S × Bool))
    (Over : S → GrammarBefore S) (step : S → Reads (S × Bool)) (over_read : S → Reads S)
    (StepWhere Where : S → Refusals) (Room : S → Type 0) (Fits : ℕ → S → Type 0)
    (steps : (s : S) → IsReaderIf (λ ts. Room s) (Step s) (StepIn s) (StepWhere s) (step s))
    (overs : (s : S) → IsReader (Many Step s) (Over s) (Where s) (over_read s))
    (some : (s : S) → Begins (Many Step s) [])
    (place_step : (s : S) (before : List Token) (t : Token) (r : Refusal) → StepWhere s before t r
    → Where s before t r)
    (place_rest : (s s2 : S) (prefix before : List Token) (t : Token) (r : Refusal)
    → StepIn s (s2, true) (kinds_of prefix) (next_of (before ++ (t ∷ []))) → Where s2 before t r
    → Where s (prefix ++ before) t r)
    (steps_on : StepsOn StepIn step over_read)
    (room : (left : ℕ) (s : S) → Fits (suc left) s → Room s)
    (kept : (left : ℕ) (s s2 : S) (ks : List TokenKind) (h : Option TokenKind)
    → StepIn s (s2, true) ks h → Fits (suc left) s → Fits left s2) where
  place_goes : (s : S) (o : S × Bool) (prefix before : List Token) (t : Token) (r : Refusal)
      → StepIn s o (kinds_of prefix) (next_of (before ++ (t ∷ []))) → GoesPlace Where o before t r
      → Where s (prefix ++ before) t r
  place_goes s (s2, true) prefix before t r is place = place_rest s s2 prefix before t r is place
  place_goes s (s2, false) prefix before t r is place = absurd place

  goes_on : (o : S × Bool) (FitsOn : S → Type 0) (Others : S → Grammar S)
      (OthersIn : S → GrammarBefore S) (others : S → Reads S)
      → ((s : S) → IsReaderIf (λ ts. FitsOn s) (Others s) (OthersIn s) (Where s) (others s))
      → IsReaderIf (GoesFits FitsOn o) (GoesIs Others o) (GoesBefore OthersIn o)
      (GoesPlace Where o) (followed o.1 o.0 (others o.0))
  goes_on (s, true) FitsOn Others OthersIn others reads = reads s
  goes_on (s, false) FitsOn Others OthersIn others reads = none_by (λ before t r. ⊥) s

  kept_by : (left : ℕ) (s : S) (o : S × Bool) (ks : List TokenKind) (h : Option TokenKind)
      (ts : List Token) → StepIn s o ks h → Fits (suc left) s → GoesFits (Fits left) o ts
  kept_by left s (s2, true) ks h ts is fits = kept left s s2 ks h is fits
  kept_by left s (s2, false) ks h ts is fits = tt

  continues : (left : ℕ) (s : S) (o : S × Bool) (ks : List TokenKind) (h : Option TokenKind)
      → StepIn s o ks h
      → IsFree (StepIn s) o ks
      ⊎ ReadsSome (followed o.1 o.0 (many_within left step over_read o.0))
  continues left s (s2, true) ks h is = steps_on left s s2 ks h is
  continues left s (s2, false) ks h is = inr ([], s2, [], refl)

  reads_zero : (s : S)
      → IsReaderIf (λ ts. Fits 0 s) (Many Step s) (ManyBefore StepIn Over 0 s) (Where s)
      (many_within 0 step over_read s)
  unfolding many_within
  reads_zero s =
      reworded (Many Step s) (Many Step s) (Over s) (ManyBefore StepIn Over 0 s) (Where s)
      (over_read s) (under (λ ts fits. tt) (overs s)) (λ x ks is. is) (overs s).unended
      (λ x ks h is. over s x ks h is)
      (λ x ks h is. left_over StepIn Over 0 s x ks h is refl)

  reads_more : (left : ℕ)
      → ((s : S) → IsReaderIf (λ ts. Fits left s) (Many Step s) (ManyBefore StepIn Over left s)
      (Where s) (many_within left step over_read s))
      → (s : S) → IsReaderIf (λ ts. Fits (suc left) s) (Many Step s)
      (ManyBefore StepIn Over (suc left) s) (Where s) (many_within (suc left) step over_read s)
  unfolding many_within
  reads_more left others s =
      reworded (Then (Step s) (GoesIs (Many Step))) (Many Step s)
      (ThenBefore (StepIn s) (GoesBefore (ManyBefore StepIn Over left)))
      (ManyBefore StepIn Over (suc left) s) (Where s) (many_within (suc left) step over_read s)
      (reads_in_turn (Step s) (StepIn s) (GoesIs (Many Step))
      (GoesBefore (ManyBefore StepIn Over left))
      (StepWhere s) (GoesPlace Where) (Where s) (step s)
      (λ o. followed o.1 o.0 (many_within left step over_read o.0)) (steps s)
      (λ o ks is. goes_on o (Fits left) (Many Step) (ManyBefore StepIn Over left)
      (λ z. many_within left step over_read z) others)
      (λ o ks is. some_goes Step some o) (continues left s) (place_step s)
      (λ o prefix before t r is place. place_goes s o prefix before t r is place)
      (λ ts fits. room left s fits)
      (λ o prefix us is fits. kept_by left s o (kinds_of prefix) (next_of us) us is fits))
      (gathered Step s) (overs s).unended (within StepIn Over left s)
      (λ x ks h is. apart StepIn Over (suc left) left s x ks h is refl)

  pub many_by : (left : ℕ) (s : S)
      → IsReaderIf (λ ts. Fits left s) (Many Step s) (ManyBefore StepIn Over left s) (Where s)
      (many_within left step over_read s)
  many_by zero s = reads_zero s
  many_by (suc left) s = reads_more left (many_by left) s

-- where each refusal's place is at its token
pub reads_fitting : {S : Type 0} (Step : S → Grammar (S × Bool))
    (StepIn : S → GrammarBefore (S × Bool))
    (Over : S → GrammarBefore S) (step : S → Reads (S × Bool)) (over_read : S → Reads S)
    (Room : S → Type 0) (Fits : ℕ → S → Type 0)
    → ((s : S) → IsReaderIf (λ ts. Room s) (Step s) (StepIn s) AtToken (step s))
    → ((s : S) → IsReader (Many Step s) (Over s) AtToken (over_read s))
    → ((s : S) → Begins (Many Step s) []) → StepsOn StepIn step over_read
    → ((left : ℕ) (s : S) → Fits (suc left) s → Room s)
    → ((left : ℕ) (s s2 : S) (ks : List TokenKind) (h : Option TokenKind)
    → StepIn s (s2, true) ks h → Fits (suc left) s → Fits left s2)
    → (left : ℕ) (s : S)
    → IsReaderIf (λ ts. Fits left s) (Many Step s) (ManyBefore StepIn Over left s) AtToken
    (many_within left step over_read s)
reads_fitting Step StepIn Over step over_read Room Fits steps overs some steps_on room kept =
    many_by Step StepIn Over step over_read (λ s. AtToken) (λ s. AtToken) Room Fits steps overs
    some (λ s before t r p. p) (λ s s2 prefix before t r is p. moves prefix before t r p) steps_on
    room kept

-- and where there is room anyway
pub reads_many : {S : Type 0} (Step : S → Grammar (S × Bool))
    (StepIn : S → GrammarBefore (S × Bool))
    (Over : S → GrammarBefore S) (step : S → Reads (S × Bool)) (over_read : S → Reads S)
    → ((s : S) → IsReader (Step s) (StepIn s) AtToken (step s))
    → ((s : S) → IsReader (Many Step s) (Over s) AtToken (over_read s))
    → ((s : S) → Begins (Many Step s) []) → StepsOn StepIn step over_read
    → (left : ℕ) (s : S)
    → IsReader (Many Step s) (ManyBefore StepIn Over left s) AtToken
    (many_within left step over_read s)
reads_many Step StepIn Over step over_read steps overs some steps_on =
    reads_fitting Step StepIn Over step over_read (λ s. Unit {0}) (λ left s. Unit {0}) steps overs
    some steps_on (λ left s fits. tt) (λ left s s2 ks h is fits. tt)
