-- A list under a limit, one entry more at a time.
use Rattle.std.proofs.Common.{◌≡◌, ℕ, zero, suc, ◌<◌, Bool, true, false, List, Result, Ok, Err}
use Rattle.std.proofs.Common.{refl, sym, ap, ◌∙◌, arith}
use Rattle.pipes_token.specs.declared.refusal.Refusal.{Refusal}
use Rattle.pipes_token.specs.declared.token.Token.{Token}
use Rattle.pipes_reader.specs.declared.fault.ParseFault.{ParseFault}
use Rattle.pipes_reader.specs.declared.fault.ParseFault.TheVariants.{Refused, Memory}
use Rattle.pipes_time.specs.Results.{◌>>=◌}
use Rattle.pipes_reader.specs.Reading.{Reads, Fails, GivesFrom, followed, many_within}

abbrev stepped : {S : Type 0} → S → Bool → List Token → Result ((S × Bool) × List Token) Refusal
stepped s more rest = Ok ((s, more), rest)

module _ {S : Type 0} (step : S → Reads (S × Bool)) (over : S → Reads S) where
  pub step_failed : (fault : ParseFault) (left : ℕ) (s : S) (ts : List Token)
      (all : Result (S × List Token) Refusal) → Fails fault (step s ts) → 0 < left
      → many_within left step over s ts ≡ all → Fails fault all
  unfolding many_within
  step_failed fault zero s ts all h some is = absurd (omega (arith, some))
  step_failed Memory (suc left) s ts all h some is = tt
  step_failed (Refused r) (suc left) s ts all h some is = sym is ∙ rw h refl

  pub step_last : (left : ℕ) (s s2 : S) (more : Bool) (ts rest : List Token)
      (all : Result (S × List Token) Refusal) → step s ts ≡ Ok ((s2, more), rest) → more ≡ false
      → 0 < left → many_within left step over s ts ≡ all → all ≡ Ok (s2, rest)
  unfolding many_within
  step_last zero s s2 more ts rest all h stops some is = absurd (omega (arith, some))
  step_last (suc left) s s2 more ts rest all h stops some is =
      let e : step s ts ≡ stepped s2 false rest = h ∙ ap (λ (b : Bool). stepped s2 b rest) stops in
      sym is ∙ rw e refl

  pub step_more : (left below : ℕ) (s s2 : S) (more : Bool) (ts rest : List Token)
      (all : Result (S × List Token) Refusal) → step s ts ≡ Ok ((s2, more), rest) → more ≡ true
      → left ≡ suc below → many_within left step over s ts ≡ all
      → many_within below step over s2 rest ≡ all
  unfolding many_within
  step_more left below s s2 more ts rest all h goes f is =
      let e : step s ts ≡ stepped s2 true rest = h ∙ ap (λ (b : Bool). stepped s2 b rest) goes in
      let whole : many_within (suc below) step over s ts ≡ many_within below step over s2 rest =
      rw e refl in
      sym whole ∙ ap (λ (n : ℕ). many_within n step over s ts) (sym f) ∙ is

  pub steps_over : (left : ℕ) (s : S) (ts : List Token) (all : Result (S × List Token) Refusal)
      → left ≡ 0 → many_within left step over s ts ≡ all → over s ts ≡ all
  unfolding many_within
  steps_over left s ts all e is = sym (ap (λ (n : ℕ). many_within n step over s ts) e) ∙ is
