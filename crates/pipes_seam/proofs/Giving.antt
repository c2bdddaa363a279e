-- Messages given to a merge, one by one.
use Rattle.std.proofs.Common.{◌≡◌, ℕ, ◌+◌, List, [], ◌∷◌, ◌++◌, refl, sym, ◌∙◌, ap, subst, arith}
use Rattle.std.proofs.Common.{append-nil, append_assoc}
use Rattle.pipes_stream.specs.declared.Elem.{Elem}
use Rattle.pipes_stream.specs.declared.message.Message.{Message}
use Rattle.pipes_stream.specs.declared.message.Message.TheVariants as message
use Rattle.pipes_stream.specs.Lists.{CanFollow, run, start_of_list, Valid, elements}
use Rattle.pipes_stream.specs.Weights.{weigh}
use Rattle.pipes_stream.proofs.Messages.{valid-prefix, valid-suffix, elements-append}
use Rattle.pipes_stream.proofs.Weights.{weigh-append}
use Rattle.pipes_coalesce.specs.Tests.{ends_above, starts_below}
use Rattle.pipes_coalesce.specs.Stands.{CoalesceStands, EndsBy, StartsFromSplit, TakesOld}
use Rattle.pipes_coalesce.specs.Stands.{TakesFresh}
use Rattle.pipes_coalesce.specs.declared.merge.Coalesce.{Coalesce}
use Rattle.pipes_coalesce.proofs.Touching.{lt-zero}
use Rattle.pipes_seam.specs.Seams.{GivesOld, GivesFresh}

ends-by : (t : ℕ) (m : Message) → weigh (ends_above t) (elements (m ∷ [])) ≡ 0 → EndsBy t m
ends-by t (message.Elem e) z = lt-zero t e.span.end (omega (arith, z))
ends-by t (message.Beat at) z = tt
ends-by t message.End z = tt

starts-from : (t : ℕ) (m : Message) → weigh (starts_below t) (elements (m ∷ [])) ≡ 0
    → StartsFromSplit t m
starts-from t (message.Elem e) z = lt-zero e.span.start t (omega (arith, z))
starts-from t (message.Beat at) z = tt
starts-from t message.End z = tt

-- what is said of a list and one more message is so of the list, and of the message
module _ (f : Elem → ℕ) (earlier ms : List Message) (m : Message)
    (valid : Valid (earlier ++ (ms ++ m ∷ []))) (none : weigh f (elements (ms ++ m ∷ [])) ≡ 0) where
  regroup : earlier ++ (ms ++ m ∷ []) ≡ (earlier ++ ms) ++ m ∷ []
  regroup = sym (append_assoc earlier ms (m ∷ []))

  valid-all : Valid ((earlier ++ ms) ++ m ∷ [])
  valid-all = subst Valid regroup valid

  pub valid-before : Valid (earlier ++ ms)
  valid-before = valid-prefix start_of_list (earlier ++ ms) (m ∷ []) valid-all

  pub follows : CanFollow (run start_of_list (earlier ++ ms)) m
  follows = (valid-suffix start_of_list (earlier ++ ms) (m ∷ []) valid-all).0

  parts : weigh f (elements ms) + weigh f (elements (m ∷ [])) ≡ 0
  parts = sym (weigh-append f (elements ms) (elements (m ∷ [])))
      ∙ ap (weigh f) (sym (elements-append ms (m ∷ []))) ∙ none

  pub none-before : weigh f (elements ms) ≡ 0
  none-before = omega (arith, parts)

  pub none-last : weigh f (elements (m ∷ [])) ≡ 0
  none-last = omega (arith, parts)

pub gives_old-none : (c : Coalesce) (now : List Message) → GivesOld c c [] now now
gives_old-none c now = record {
  split = refl;
  more = [];
  appended = sym (append-nil now);
  stands = λ earlier fresh sent s valid none. rw (append-nil earlier, append-nil sent) s;
}

pub gives_old-more : (c d e : Coalesce) (ms : List Message) (m : Message)
    (before now next : List Message) → GivesOld c d ms before now → TakesOld d e m now next
    → e.split ≡ d.split → GivesOld c e (ms ++ m ∷ []) before next
gives_old-more c d e ms m before now next g t same = record {
  split = same ∙ g.split;
  more = g.more ++ t.more;
  appended = t.appended ∙ ap (λ (l : List Message). l ++ t.more) g.appended
      ∙ append_assoc before g.more t.more;
  stands = λ earlier fresh sent s valid none.
      let f : Elem → ℕ = ends_above c.split in
      let first = g.stands earlier fresh sent s (valid-before f earlier ms m valid none)
      (none-before f earlier ms m valid none) in
      let fits : EndsBy d.split m = subst (λ (t : ℕ). EndsBy t m) (sym g.split)
      (ends-by c.split m (none-last f earlier ms m valid none)) in
      let next_one = t.stands (earlier ++ ms) fresh (sent ++ g.more) first
      (follows f earlier ms m valid none) fits in
      subst (λ (l : List Message). CoalesceStands e l fresh (sent ++ (g.more ++ t.more)))
      (append_assoc earlier ms (m ∷ []))
      (subst (CoalesceStands e ((earlier ++ ms) ++ m ∷ []) fresh)
      (append_assoc sent g.more t.more) next_one);
}

pub gives_fresh-none : (c : Coalesce) (now : List Message) → GivesFresh c c [] now now
gives_fresh-none c now = record {
  split = refl;
  more = [];
  appended = sym (append-nil now);
  stands = λ olds earlier sent s valid none. rw (append-nil earlier, append-nil sent) s;
}

pub gives_fresh-more : (c d e : Coalesce) (ms : List Message) (m : Message)
    (before now next : List Message) → GivesFresh c d ms before now → TakesFresh d e m now next
    → e.split ≡ d.split → GivesFresh c e (ms ++ m ∷ []) before next
gives_fresh-more c d e ms m before now next g t same = record {
  split = same ∙ g.split;
  more = g.more ++ t.more;
  appended = t.appended ∙ ap (λ (l : List Message). l ++ t.more) g.appended
      ∙ append_assoc before g.more t.more;
  stands = λ olds earlier sent s valid none.
      let f : Elem → ℕ = starts_below c.split in
      let first = g.stands olds earlier sent s (valid-before f earlier ms m valid none)
      (none-before f earlier ms m valid none) in
      let fits : StartsFromSplit d.split m = subst (λ (t : ℕ). StartsFromSplit t m) (sym g.split)
      (starts-from c.split m (none-last f earlier ms m valid none)) in
      let next_one = t.stands olds (earlier ++ ms) (sent ++ g.more) first
      (follows f earlier ms m valid none) fits in
      subst (λ (l : List Message). CoalesceStands e olds l (sent ++ (g.more ++ t.more)))
      (append_assoc earlier ms (m ∷ []))
      (subst (CoalesceStands e olds ((earlier ++ ms) ++ m ∷ []))
      (append_assoc sent g.more t.more) next_one);
}
