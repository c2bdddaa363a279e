-- What is sent once nothing holds it back, by the calls.
use Rattle.std.proofs.Common.{◌≡◌, ℕ, ◌+◌, ◌≤◌, ◌<◌, max, min, List, [], ◌∷◌, ◌++◌, map, refl, sym}
use Rattle.std.proofs.Common.{ap, ◌∙◌, subst, arith, inl, inr, ◌⊎◌}
use Rattle.std.proofs.lemmas.Bool.{cases_lt}
use Rattle.pipes_time.specs.Interval.{closed}
use Rattle.pipes_stream.specs.declared.Elem.{Elem}
use Rattle.pipes_stream.specs.declared.message.Message.{Message}
use Rattle.pipes_stream.specs.declared.message.Message.TheVariants as message
use Rattle.pipes_stream.specs.Progress.{Progress}
use Rattle.pipes_stream.specs.Lists.{run, start_of_list, beat, elements}
use Rattle.pipes_stream.proofs.Messages.{run-push}
use Rattle.pipes_stream.specs.Weights.{weigh}
use Rattle.pipes_coalesce.specs.Tests.{starts_elsewhere, is_no_interval}
use Rattle.pipes_coalesce.specs.Stands.{count_of, lone_from, now_of, Parts, Flows, Stays, Moves}
use Rattle.pipes_coalesce.specs.Stands.{SameBut, IsBlocked, IsDue, Releases}
use Rattle.pipes_coalesce.specs.declared.merge.Coalesce.{Coalesce}
use Rattle.pipes_coalesce.proofs.Touching.{le-zero}
use Rattle.pipes_coalesce.proofs.Leaving.{lone-leaves, partners-leave, later-leaves}
use Rattle.pipes_coalesce.proofs.Moving.{Sends, Keeps, SendsMany, ManyGo, moves-one, moves-many}
use Rattle.pipes_coalesce.proofs.Moving.{moves-then, none-is}

-- all but the old elements that have no partner
pub record SameButLone (c d : Coalesce) : Type 0 where
  pub stays : Stays c d
  pub olds : d.olds ≡ c.olds
  pub lone_start : d.lone_start ≡ c.lone_start
  pub partners : d.partners ≡ c.partners
  pub later : d.later ≡ c.later

pub lone-goes : (c d : Coalesce) (xs : List Elem) (before now : List Message) → SameButLone c d
    → d.lone ≡ [] → c.split < c.fresh_watch.beat
    → ((f : Elem → ℕ) → weigh f xs ≡ weigh f c.lone) → now ≡ before ++ map message.Elem xs
    → Moves c d c.olds d.olds before now
lone-goes c d xs before now y gone h w is =
    moves-many c d c.olds d.olds xs c.lone_start before now y.stays is sends (λ _ _. gone)
  where
    keeps : count_of xs ≡ 0 → Keeps c d c.olds d.olds
    keeps z b os fs ss p =
        let none = none-is c.lone (omega (arith, z, w (λ _. 1))) in
        rw (y.olds, y.lone_start, y.partners, y.later, gone ∙ sym none) p

    goes : 0 < count_of xs → (b : ℕ) (os fs ss : List Elem)
        → Parts c.split c.old_watch.beat c.fresh_watch.beat b c.lone_start c.olds c.lone c.partners
        c.later os fs ss
        → ManyGo c d c.olds d.olds xs c.lone_start b os fs ss
    goes n b os fs ss p =
        let some : 0 < count_of c.lone = omega (arith, n, w (λ _. 1)) in
        record {
          low = (p.lone_low some).0;
          at = omega (arith, w (starts_elsewhere c.lone_start), p.lone_at);
          are = omega (arith, w is_no_interval, p.lone_are);
          parts = rw (y.olds, y.lone_start, y.partners, y.later, gone)
              (lone-leaves c.split c.old_watch.beat c.fresh_watch.beat b c.lone_start c.olds c.lone
              c.partners c.later os fs ss p xs h some w);
        }

    sends : SendsMany c d c.olds d.olds xs c.lone_start
    sends = record { none = keeps; some = goes }

-- where no element starts below the heartbeat, none waits for a partner
pub some-lone : (lone : List Elem) (s : ℕ)
    → (lone ≡ []) ⊎ ((0 < count_of lone) × (lone_from lone s ≡ s))
some-lone [] s = inl refl
some-lone (x ∷ xs) s = inr (omega arith, refl)

pub none-lone : (c : Coalesce) (b : ℕ) (w os fs ss : List Elem) → c.split ≤ now_of c
    → Parts c.split c.old_watch.beat c.fresh_watch.beat b c.lone_start w c.lone c.partners c.later
    os fs ss → c.lone ≡ []
none-lone c b w os fs ss h p = by (some-lone c.lone c.lone_start)
  where
    by : (c.lone ≡ []) ⊎ ((0 < count_of c.lone) × (lone_from c.lone c.lone_start ≡ c.lone_start))
        → c.lone ≡ []
    by (inl n) = n
    by (inr n) = let low = (p.lone_low n.0).2 in absurd (omega (arith, h, n.1, low))

-- all but the fresh elements at the split
pub record SameButPartners (c d : Coalesce) : Type 0 where
  pub stays : Stays c d
  pub olds : d.olds ≡ c.olds
  pub lone : d.lone ≡ c.lone
  pub lone_start : d.lone_start ≡ c.lone_start
  pub later : d.later ≡ c.later

abbrev pub partners-go : (c d : Coalesce) (xs : List Elem) (before now : List Message)
    → SameButPartners c d → d.partners ≡ [] → c.split ≤ now_of c → IsBlocked c
    → ((f : Elem → ℕ) → weigh f xs ≡ weigh f c.partners) → now ≡ before ++ map message.Elem xs
    → Moves c d c.olds d.olds before now
partners-go c d xs before now y gone h blocked w is =
    moves-many c d c.olds d.olds xs c.split before now y.stays is sends (λ _ k. y.lone ∙ k)
  where
    keeps : count_of xs ≡ 0 → Keeps c d c.olds d.olds
    keeps z b os fs ss p =
        let none = none-is c.partners (omega (arith, z, w (λ _. 1))) in
        rw (y.olds, y.lone_start, y.lone, y.later, gone ∙ sym none) p

    goes : 0 < count_of xs → (b : ℕ) (os fs ss : List Elem)
        → Parts c.split c.old_watch.beat c.fresh_watch.beat b c.lone_start c.olds c.lone c.partners
        c.later os fs ss
        → ManyGo c d c.olds d.olds xs c.split b os fs ss
    goes n b os fs ss p =
        let some : 0 < count_of c.partners = omega (arith, n, w (λ _. 1)) in
        let alone = none-lone c b c.olds os fs ss h p in
        record {
          low = p.partners_low some;
          at = omega (arith, w (starts_elsewhere c.split), p.partners_at);
          are = omega (arith, w is_no_interval, p.partners_are);
          parts = rw (y.olds, y.lone_start, y.lone, y.later, gone)
              (partners-leave c.split c.old_watch.beat c.fresh_watch.beat b c.lone_start c.olds
              c.lone c.partners c.later os fs ss p xs
              (blocked.passed alone) alone (omega (arith, h)) some w);
        }

    sends : SendsMany c d c.olds d.olds xs c.split
    sends = record { none = keeps; some = goes }

-- the heartbeat after elements that all start at or below the instant
many-within : (p : Progress) (s at : ℕ) (xs : List Elem) → weigh (starts_elsewhere s) xs ≡ 0
    → s ≤ at → p.beat ≤ at → (run p (map message.Elem xs)).beat ≤ at
many-within p s at [] z h k = k
many-within p s at (x ∷ xs) z h k =
    let start : x.span.start ≡ s = Rattle.pipes_coalesce.proofs.Touching.else-zero x.span.start s
    (omega (arith, z)) in
    many-within record { beat = x.span.start; ended = p.ended } s at xs (omega (arith, z)) h
    (omega (arith, start, h))

pub partners-release : (c d : Coalesce) (at : ℕ) (xs : List Elem) (before now : List Message)
    → SameButPartners c d → d.partners ≡ [] → at ≡ now_of c → c.split ≤ at
    → IsBlocked c → ((f : Elem → ℕ) → weigh f xs ≡ weigh f c.partners)
    → now ≡ before ++ map message.Elem xs → Releases c d at before now
partners-release c d at xs before now y gone is h blocked w out = record {
  moves = partners-go c d xs before now y gone (omega (arith, h, is)) blocked w out;
  olds = y.olds;
  lone = y.lone;
  lone_start = y.lone_start;
  within = λ olds fresh sent f k.
      let z : weigh (starts_elsewhere c.split) xs ≡ 0 =
      omega (arith, w (starts_elsewhere c.split), f.parts.partners_at) in
      let r = ap (λ (p : Progress). p.beat)
      (Rattle.pipes_stream.proofs.Messages.run-append start_of_list sent
      (map message.Elem xs)) in
      let m = many-within (run start_of_list sent) c.split at xs z h k in
      omega (arith, r, m);
}

-- the first of those above the split
pub later-release : (c d : Coalesce) (at : ℕ) (x : Elem) (before now : List Message)
    → IsDue c d at x → at ≡ now_of c
    → IsBlocked c → (c.split ≤ at → c.partners ≡ []) → now ≡ before ++ message.Elem x ∷ []
    → Releases c d at before now
later-release c d at x before now y is blocked gone out = record {
  moves = moves-one c d c.olds d.olds x before now y.stays out sends (λ _ k. y.lone ∙ k);
  olds = y.olds;
  lone = y.lone;
  lone_start = y.lone_start;
  within = λ olds fresh sent f k.
      let r = ap (λ (p : Progress). p.beat) (run-push start_of_list sent (message.Elem x)) in
      omega (arith, r, y.due);
}
  where
    sends : Sends c d c.olds d.olds x
    sends b os fs ss p =
        let q = subst
        (λ (es : List Elem). Parts c.split c.old_watch.beat c.fresh_watch.beat b c.lone_start
        c.olds c.lone c.partners es os fs ss) y.rest p in
        let high = le-zero x.span.start c.split (omega (arith, q.later_high)) in
        let now-high : c.split ≤ now_of c = omega (arith, high, y.due, is) in
        let alone = none-lone c b c.olds os fs ss now-high p in
        let go = later-leaves c.split c.old_watch.beat c.fresh_watch.beat b c.lone_start c.olds
        c.lone c.partners x d.later os fs ss q
        (blocked.passed alone) alone (gone (omega (arith, high, y.due)))
        (omega (arith, y.due, is)) (omega (arith, y.due, is)) in
        (go.0, go.1, rw (y.olds, y.lone_start, y.lone, y.partners) go.2)

pub releases-then : (c d e : Coalesce) (at : ℕ) (before mid now : List Message)
    → Releases c d at before mid → Releases d e at mid now → Releases c e at before now
releases-then c d e at before mid now a b = record {
  moves = moves-then c d e c.olds d.olds e.olds before mid now a.moves b.moves;
  olds = b.olds ∙ a.olds;
  lone = b.lone ∙ a.lone;
  lone_start = b.lone_start ∙ a.lone_start;
  within = λ olds fresh sent f k.
      let w = b.within olds fresh (sent ++ a.moves.more) (a.moves.flows olds fresh sent f)
      (a.within olds fresh sent f k) in
      subst (λ (ms : List Message). beat ms ≤ at)
      (Rattle.std.proofs.Common.append_assoc sent a.moves.more b.moves.more) w;
}

pub releases-itself : (c : Coalesce) (at : ℕ) (before : List Message)
    → Releases c c at before before
releases-itself c at before = record {
  moves = Rattle.pipes_coalesce.proofs.Moving.moves-itself c c.olds before;
  olds = refl;
  lone = refl;
  lone_start = refl;
  within = λ olds fresh sent f k. subst (λ (ms : List Message). beat ms ≤ at)
      (sym (Rattle.std.proofs.Common.append-nil sent)) k;
}

module _ (c d : Coalesce) (at : ℕ) (x : Elem) (is : IsDue c d at x) where
  pub due-now : at ≡ now_of c → at ≡ now_of d
  due-now h = rw
      (is.stays.old_watch, is.stays.fresh_watch, is.stays.split, is.lone, is.lone_start) h

  pub due-blocked : IsBlocked c → IsBlocked d
  due-blocked b = record {
    passed = λ k. is.olds ∙ b.passed (sym is.lone ∙ k);
    ahead = rw (is.lone_start, is.olds) b.ahead;
  }

  pub due-gone : (c.split ≤ at → c.partners ≡ []) → d.split ≤ at → d.partners ≡ []
  due-gone gone h = is.partners ∙ gone (rw (sym is.stays.split) h)
