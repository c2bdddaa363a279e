-- How an old element passes.
use Rattle.std.proofs.Common.{◌≡◌, ◌≢◌, ℕ, ◌≤◌, ◌<◌, List, [], ◌∷◌, ◌++◌, refl, sym, ap, ◌∙◌, subst}
use Rattle.std.proofs.Common.{arith}
use Rattle.pipes_time.specs.Interval.{horizon, IsInterval}
use Rattle.pipes_stream.specs.declared.Elem.{Elem}
use Rattle.pipes_stream.specs.declared.message.Message.{Message}
use Rattle.pipes_stream.specs.declared.message.Message.TheVariants as message
use Rattle.pipes_stream.specs.Weights.{weigh}
use Rattle.pipes_coalesce.specs.Tests.{starts_elsewhere, is_no_interval}
use Rattle.pipes_coalesce.specs.Filed.{has_tuple, Added, TakenOut}
use Rattle.pipes_coalesce.specs.Joined.{IsJoint}
use Rattle.pipes_coalesce.specs.Stands.{Parts, Stays, Moves, CanPass}
use Rattle.pipes_coalesce.specs.declared.merge.Coalesce.{Coalesce}
use Rattle.pipes_coalesce.proofs.Touching.{else-zero, interval-zero}
use Rattle.pipes_coalesce.proofs.Steps.{goes-plain, goes-alone, goes-both, waits}
use Rattle.pipes_coalesce.proofs.Moving.{Sends, Keeps, moves-one, moves-none}

-- what is as it was
pub record SameWaiting (c d : Coalesce) : Type 0 where
  pub stays : Stays c d
  pub lone : d.lone ≡ c.lone
  pub lone_start : d.lone_start ≡ c.lone_start
  pub later : d.later ≡ c.later

pub passes-plain : (c d : Coalesce) (e : Elem) (before now : List Message) → SameWaiting c d
    → d.partners ≡ c.partners → d.olds ≡ c.olds
    → now ≡ before ++ message.Elem e ∷ [] → CanPass c e → e.span.end ≢ c.split
    → Moves c d (e ∷ c.olds) d.olds before now
passes-plain c d e before now y j k is can n =
    moves-one c d (e ∷ c.olds) d.olds e before now y.stays is sends (λ _ k. y.lone ∙ k)
  where
    sends : Sends c d (e ∷ c.olds) d.olds e
    sends b os fs ss p = (
      p.olds_rise.0,
      p.olds_rise.1,
      rw (y.lone, y.lone_start, y.later, j, k)
          (goes-plain c.split c.old_watch.beat c.fresh_watch.beat b c.lone_start e c.olds c.lone
          c.partners c.later os fs ss p can n),
    )

pub passes-alone : (c d : Coalesce) (e : Elem) (before now : List Message) → SameWaiting c d
    → d.partners ≡ c.partners → d.olds ≡ c.olds
    → now ≡ before ++ message.Elem e ∷ [] → CanPass c e → c.split < c.fresh_watch.beat
    → weigh (has_tuple e.tuple) c.partners ≡ 0
    → Moves c d (e ∷ c.olds) d.olds before now
passes-alone c d e before now y j k is can h none =
    moves-one c d (e ∷ c.olds) d.olds e before now y.stays is sends (λ _ k. y.lone ∙ k)
  where
    sends : Sends c d (e ∷ c.olds) d.olds e
    sends b os fs ss p = (
      p.olds_rise.0,
      p.olds_rise.1,
      rw (y.lone, y.lone_start, y.later, j, k)
          (goes-alone c.split c.old_watch.beat c.fresh_watch.beat b c.lone_start e c.olds c.lone
          c.partners c.later os fs ss p can h none),
    )

pub passes-waits : (c d : Coalesce) (e : Elem) (before now : List Message) → Stays c d
    → Added e c.lone d.lone → d.lone_start ≡ e.span.start → d.later ≡ c.later
    → d.partners ≡ c.partners → d.olds ≡ c.olds → now ≡ before → CanPass c e
    → c.fresh_watch.beat ≤ c.split → e.span.end ≡ c.split
    → weigh (has_tuple e.tuple) c.partners ≡ 0 → Moves c d (e ∷ c.olds) d.olds before now
passes-waits c d e before now y put start later j k is can h end none =
    moves-none c d (e ∷ c.olds) d.olds before now y is keeps (λ q _. absurd (omega (arith, q, h)))
  where
    keeps : Keeps c d (e ∷ c.olds) d.olds
    keeps b os fs ss p =
        rw (start, later, j, k)
        (waits c.split c.old_watch.beat c.fresh_watch.beat b c.lone_start e c.olds c.lone
        c.partners c.later os fs ss p can h end none d.lone put)

pub passes-both : (c d : Coalesce) (e second both : Elem) (before now : List Message)
    → SameWaiting c d → d.olds ≡ c.olds → TakenOut second c.partners d.partners
    → second.tuple ≡ e.tuple → (e.span.end ≡ second.span.start → IsJoint e second both)
    → now ≡ before ++ message.Elem both ∷ [] → CanPass c e → e.span.end ≡ c.split
    → Moves c d (e ∷ c.olds) d.olds before now
passes-both c d e second both before now y k out same joint is can end =
    moves-one c d (e ∷ c.olds) d.olds both before now y.stays is sends (λ _ k. y.lone ∙ k)
  where
    sends : Sends c d (e ∷ c.olds) d.olds both
    sends b os fs ss p =
        let at : second.span.start ≡ c.split =
        else-zero second.span.start c.split
        (omega (arith, out (starts_elsewhere c.split), p.partners_at)) in
        let i = interval-zero second.span.start second.span.end
        (omega (arith, out is_no_interval, p.partners_are)) in
        let j = joint (end ∙ sym at) in (
          omega (arith, p.olds_rise.0, j.start),
          (omega (arith, j.start, j.end, p.olds_rise.1.0, end, at, i.0), omega (arith, j.end, i.1)),
          rw (y.lone, y.lone_start, y.later, k)
              (goes-both c.split c.old_watch.beat c.fresh_watch.beat b c.lone_start e c.olds c.lone
              c.partners c.later os fs ss p can end second both d.partners same out j),
        )
