-- A message came from a source, to one plan at work or to two.
use Rattle.std.proofs.Common.{◌≡◌, ℕ, ◌≤◌, ◌<◌, max, Bool, true, false, List, [], ◌∷◌, ◌++◌}
use Rattle.std.proofs.Common.{length, get_or}
use Rattle.std.proofs.Common.{slice_get, unwrap_or, refl, sym, ap, subst, ◌∙◌, arith, inl, inr}
use Rattle.std.proofs.Common.{append-nil, nat_lt, if◌then◌else◌, Option, Some, None}
use Rattle.std.specs.List.{All}
use Rattle.pipes_tuple.specs.declared.value.Kind.{Kind}
use Rattle.pipes_stream.specs.declared.Elem.{Elem}
use Rattle.pipes_stream.specs.declared.message.Message.{Message}
use Rattle.pipes_stream.specs.declared.message.Message.TheVariants as message
use Rattle.pipes_stream.specs.Progress.{Progress}
use Rattle.pipes_stream.specs.Lists.{CanFollow, run, start_of_list, Valid, elements}
use Rattle.pipes_stream.specs.Lawful.{Lists, with_message, MessageFits}
use Rattle.pipes_stream.proofs.Messages.{valid-suffix, elements-append}
use Rattle.pipes_stream.proofs.Ports.{All-parts}
use Rattle.pipes_split.specs.Cutting.{IsCut}
use Rattle.pipes_coalesce.specs.Stands.{EndsBy, StartsFromSplit}
use Rattle.pipes_seam.specs.declared.seam.Seam.{Seam}
use Rattle.pipes_plan.specs.declared.plan.Plan.{Plan}
use Rattle.pipes_output.specs.declared.entry.Entry.{Entry}
use Rattle.pipes_node.proofs.NodeSteps.{with-same, with-other}
use Rattle.pipes_works.specs.declared.works.Works.{Works}
use Rattle.pipes_works.specs.Sources.{Reads}
use Rattle.pipes_works.specs.Standing.{WorksStand, MayCome, source_count}
use Rattle.pipes_works.proofs.BySource.{schema-is}
use Rattle.pipes_halves.specs.Halves.{IsHalved, ArePart, low_part, high_part, grown}
use Rattle.pipes_halves.proofs.Sides.{grown-going, grown-over}
use Rattle.pipes_standing.specs.declared.standing.Standing.{Standing}
use Rattle.pipes_standing.specs.Calms.{Rows, TakesIn}
use Rattle.pipes_moving.specs.declared.moving.Moving.{Moving as Between}
use Rattle.pipes_moving.specs.Moves.{IsMoving, split_of, first_of}
use Rattle.pipes_moving.specs.Steps.{TakesOld, MayComeOld, MayComeFresh}
use Rattle.pipes_moving.proofs.Beginning.{count-is}
use Rattle.pipes_live.specs.declared.state.State.TheVariants as state
use Rattle.pipes_live.specs.Lives.{IsGiven, AreGiven, ResultsEnd, ServesAlone, ServesMoving, IsNext}
use Rattle.pipes_live.specs.Deeds.{GivesBelow, GivesFrom, GivesBoth, TakesNext}
use Rattle.pipes_live.proofs.Given.{at-each, given-more, given-both, so-far-run, part-below}
use Rattle.pipes_live.proofs.Given.{part-from}

-- the message may come to a plan at work, by the list of its source
pub may-come : (w : Works) (schemas : List (List Kind)) (plan : Plan) (given : Lists)
    (got : List Message) (source : ℕ) (m : Message) → WorksStand w schemas plan given got
    → source < source_count w → CanFollow (run start_of_list (given source)) m
    → MessageFits m (unwrap_or (slice_get schemas source) []) → MayCome w source m
may-come w schemas plan given got source m s within can fits d = (
  subst (λ (p : Progress). CanFollow p m) (sym (s.inputs source d within).watch) can,
  subst (MessageFits m) (sym (schema-is w schemas plan given got source d within s)) fits,
)

-- fewer elements end by an instant too
pub ends-fewer : (schemas : List (List Kind)) (plan : Plan) (by_source : Lists)
    (entries : List Entry) (source : ℕ) (m : Message) → ResultsEnd schemas plan by_source entries
    → ResultsEnd schemas plan (with_message by_source source m) entries
ends-fewer schemas plan by_source entries source m ends instant all =
    ends instant (λ k reads. at-each (λ (x : ℕ) (l : List Message).
    All (λ e. e.span.end ≤ instant) (elements l) → All (λ e. e.span.end ≤ instant)
    (elements (by_source x))) by_source source m
    (λ more. (All-parts (λ (e : Elem). e.span.end ≤ instant) (elements (by_source source))
    (elements (m ∷ [])) (subst (All (λ e. e.span.end ≤ instant))
    (elements-append (by_source source) (m ∷ [])) more)).0)
    (λ x apart same. same) k (all k reads))

-- ---- one plan

pub alone-takes : (old new : Standing) (schemas : List (List Kind)) (query plan : Plan)
    (rows : Rows) (split : ℕ) (by_source : Lists) (entries : List Entry) (source : ℕ) (m : Message)
    → source < source_count old.works → TakesIn old new source m
    → ServesAlone old schemas query plan rows split by_source entries
    → IsNext schemas by_source source m
    → ServesAlone new schemas query plan rows split (with_message by_source source m) entries
alone-takes old new schemas query plan rows split by_source entries source m within t s next =
    elim t.may [
      | inl came ↦ record {
        base = s.base;
        given = with_message s.given source m;
        got = s.got ++ t.more;
        calm = t.taken_in came schemas plan rows s.base s.given s.got entries s.calm;
        based = s.based;
        closes = s.closes;
        each = at-each (λ (k : ℕ) (l : List Message). Reads schemas plan k
            → IsGiven s.base l (with_message s.given source m k)) by_source source m
            (λ reads. subst (IsGiven s.base (by_source source ++ m ∷ []))
            (sym (with-same s.given source m))
            (given-more s.base (by_source source) (s.given source) m (s.each source reads)
            next.follows))
            (λ k apart reads. subst (IsGiven s.base (by_source k))
            (sym (with-other s.given source m k apart)) (s.each k reads));
        alike = s.alike;
        ends = ends-fewer schemas plan by_source entries source m s.ends;
      }
      | inr not ↦ subst (λ (x : Standing). ServesAlone x schemas query plan rows split
          (with_message by_source source m) entries) (sym (t.passed_over not)) (record {
            base = s.base;
            given = s.given;
            got = s.got;
            calm = s.calm;
            based = s.based;
            closes = s.closes;
            each = at-each (λ (k : ℕ) (l : List Message). Reads schemas plan k
                → IsGiven s.base l (s.given k)) by_source source m
                (λ reads. absurd (not (may-come old.works schemas plan s.given s.got source m
                s.calm.works within
                (subst (λ (p : Progress). CanFollow p m) (sym (so-far-run s.base (by_source source)
                (s.given source) (s.each source reads).so_far)) next.follows) next.fits)))
                (λ k apart reads. s.each k reads);
            alike = s.alike;
            ends = ends-fewer schemas plan by_source entries source m s.ends;
          })
    ]

-- ---- two plans

pub some-item : {X : Type 0} (xs : List X) (k : ℕ) → k < length xs → X
some-item [] k l = absurd (omega (arith, l))
some-item (x ∷ xs) k l = x

follow-going : (p : Progress) (m : Message) → CanFollow p m → p.ended ≡ false
follow-going p (message.Elem e) can = can.0
follow-going p (message.Beat at) can = can.0
follow-going p message.End can = can

-- the part of a message that is given below the split may come, by the list that it makes valid
pub low-lies : (split : ℕ) (m x : Message) (highs : List Message) (kinds : List Kind)
    → IsHalved split m (x ∷ []) highs → MessageFits m kinds
    → EndsBy split x × MessageFits x kinds
low-lies split (message.Elem e) x highs kinds h fits =
    go h.first h.intervals.0 h.cut h.below_is
  where
    go : (first : Option Elem) → ArePart first → IsCut e split first h.second
        → x ∷ [] ≡ low_part first → EndsBy split x × MessageFits x kinds
    go (Some a) part cut is =
        let here : x ≡ message.Elem a = cc is in
        subst (λ (y : Message). EndsBy split y × MessageFits y kinds) (sym here) (
          (part-below e a split h.second part cut).2,
          subst (λ v. MessageFits (message.Elem (record { tuple = v; span = a.span })) kinds)
              (sym cut.below.0) fits,
        )
    go None part cut is =
        let here : x ≡ message.End = cc is in
        subst (λ (y : Message). EndsBy split y × MessageFits y kinds) (sym here) (tt, tt)
low-lies split (message.Beat at) x highs kinds h fits = go (nat_lt at split) h.0
  where
    go : (b : Bool) → x ∷ [] ≡ (if b then message.Beat at else message.End) ∷ []
        → EndsBy split x × MessageFits x kinds
    go true is = let here : x ≡ message.Beat at = cc is in
        subst (λ (y : Message). EndsBy split y × MessageFits y kinds) (sym here) (tt, tt)
    go false is = let here : x ≡ message.End = cc is in
        subst (λ (y : Message). EndsBy split y × MessageFits y kinds) (sym here) (tt, tt)
low-lies split message.End x highs kinds h fits =
    let here : x ≡ message.End = cc h.0 in
    subst (λ (y : Message). EndsBy split y × MessageFits y kinds) (sym here) (tt, tt)

pub high-lies : (split first : ℕ) (p : Progress) (m x : Message) (lows : List Message)
    (kinds : List Kind) → first ≤ p.beat → CanFollow p m → IsHalved split m lows (x ∷ [])
    → MessageFits m kinds → StartsFromSplit (max split first) x × MessageFits x kinds
high-lies split first p (message.Elem e) x lows kinds up can h fits =
    go h.second h.intervals.1 h.cut h.from_is
  where
    go : (second : Option Elem) → ArePart second → IsCut e split h.first second
        → x ∷ [] ≡ high_part second → StartsFromSplit (max split first) x × MessageFits x kinds
    go (Some b) part cut is =
        let here : x ≡ message.Elem b = cc is in
        let at = part-from e b split h.first part cut in
        let low = can.1 in
        subst (λ (y : Message). StartsFromSplit (max split first) y × MessageFits y kinds)
        (sym here) (
          omega (arith, at.0, at.2, low, up),
          subst (λ v. MessageFits (message.Elem (record { tuple = v; span = b.span })) kinds)
              (sym cut.above.0) fits,
        )
    go None part cut is = absurd (cc is)
high-lies split first p (message.Beat at) x lows kinds up can h fits =
    let here : x ≡ message.Beat (max at split) = cc h.1 in
    subst (λ (y : Message). StartsFromSplit (max split first) y × MessageFits y kinds) (sym here)
    (tt, tt)
high-lies split first p message.End x lows kinds up can h fits =
    let here : x ≡ message.End = cc h.1 in
    subst (λ (y : Message). StartsFromSplit (max split first) y × MessageFits y kinds) (sym here)
    (tt, tt)

abbrev pub IsFew : List Message → Type 0
IsFew [] = Unit {0}
IsFew (x ∷ []) = Unit {0}
IsFew (x ∷ y ∷ ys) = ⊥

module _ (schemas : List (List Kind)) (before plan : Plan) (rows : Rows) (base : ℕ)
    (entries : List Entry) (source : ℕ) where
  -- the old plan was given these of a source
  pub record GivenBelow (new : Between) (below from : Lists) (lows : List Message) : Type 0 where
    pub list : Lists
    pub moving : IsMoving new schemas before plan rows base list from entries
    pub here : Reads schemas plan source → list source ≡ grown (below source) lows
    pub others : (k : ℕ) → (k ≡ source → ⊥) → list k ≡ below k

  pub record GivenFrom (new : Between) (below from : Lists) (highs : List Message) : Type 0 where
    pub list : Lists
    pub moving : IsMoving new schemas before plan rows base below list entries
    pub here : Reads schemas plan source → list source ≡ from source ++ highs
    pub others : (k : ℕ) → (k ≡ source → ⊥) → list k ≡ from k

  pub gave-below : (old new : Between) (below from : Lists) (x : Message)
      → source < source_count old.old_works
      → IsMoving old schemas before plan rows base below from entries
      → TakesOld old new source x
      → (Reads schemas plan source → (run start_of_list (below source)).ended ≡ false
      → MayComeOld old source x)
      → GivenBelow new below from (x ∷ [])
  gave-below old new below from x within moving t can = elim t.may [
    | inl came ↦
        (let d = some-item old.old_works.inputs.items source within in
        let going : (run start_of_list (below source)).ended ≡ false =
        ap (λ (p : Progress). p.ended) (sym (moving.old.inputs source d within).watch)
        ∙ follow-going (get_or old.old_works.inputs.items source d).watch x (came.1 d).0 in
        record {
          list = with_message below source x;
          moving = t.taken_in came schemas before plan rows base below from entries moving;
          here = λ reads.
              with-same below source x ∙ sym (grown-going (below source) (x ∷ []) going);
          others = λ k apart. with-other below source x k apart;
        })
    | inr not ↦ record {
      list = below;
      moving = subst (λ (m : Between). IsMoving m schemas before plan rows base below from entries)
          (sym (t.passed_over not)) moving;
      here = λ reads. stays reads not (run start_of_list (below source)).ended refl;
      others = λ k apart. refl;
    }
  ]
    where
      stays : Reads schemas plan source → (MayComeOld old source x → ⊥) → (b : Bool)
          → (run start_of_list (below source)).ended ≡ b
          → below source ≡ grown (below source) (x ∷ [])
      stays reads not true ended = sym (grown-over (below source) (x ∷ []) ended)
      stays reads not false going = absurd (not (can reads going))

  pub gave-from : (old new : Between) (below from : Lists) (highs : List Message)
      → IsMoving old schemas before plan rows base below from entries
      → GivesFrom old new source highs → IsFew highs
      → ((x : Message) → highs ≡ x ∷ [] → Reads schemas plan source → MayComeFresh old source x)
      → GivenFrom new below from highs
  gave-from old new below from [] moving t few can = record {
    list = from;
    moving = subst (λ (m : Between). IsMoving m schemas before plan rows base below from entries)
        (sym t) moving;
    here = λ reads. sym (append-nil (from source));
    others = λ k apart. refl;
  }
  gave-from old new below from (x ∷ y ∷ ys) moving t few can = absurd few
  gave-from old new below from (x ∷ []) moving t few can = elim t.may [
    | inl came ↦ record {
      list = with_message from source x;
      moving = t.taken_in came schemas before plan rows base below from entries moving;
      here = λ reads. with-same from source x;
      others = λ k apart. with-other from source x k apart;
    }
    | inr not ↦ record {
      list = from;
      moving = subst (λ (m : Between). IsMoving m schemas before plan rows base below from entries)
          (sym (t.passed_over not)) moving;
      here = λ reads. absurd (not (can x refl reads));
      others = λ k apart. refl;
    }
  ]

pub follow-of : (list : List Message) (x : Message) → Valid (list ++ x ∷ [])
    → CanFollow (run start_of_list list) x
follow-of list x valid = (valid-suffix start_of_list list (x ∷ []) valid).0

pub low-is : (split : ℕ) (m : Message) (lows highs : List Message) → IsHalved split m lows highs
    → (x : Message) × (lows ≡ x ∷ [])
low-is split (message.Elem e) lows highs h = go h.first h.below_is
  where
    go : (first : Option Elem) → lows ≡ low_part first → (x : Message) × (lows ≡ x ∷ [])
    go (Some a) is = (message.Elem a, is)
    go None is = (message.End, is)
low-is split (message.Beat at) lows highs h = (_, h.0)
low-is split message.End lows highs h = (message.End, h.0)

high-few : (split : ℕ) (m : Message) (lows highs : List Message) → IsHalved split m lows highs
    → IsFew highs
high-few split (message.Elem e) lows highs h = go h.second h.from_is
  where
    go : (second : Option Elem) → highs ≡ high_part second → IsFew highs
    go (Some b) is = subst IsFew (sym is) tt
    go None is = subst IsFew (sym is) tt
high-few split (message.Beat at) lows highs h = subst IsFew (sym h.1) tt
high-few split message.End lows highs h = subst IsFew (sym h.1) tt

pub from-seam : (old new : Between) (source : ℕ) (highs : List Message)
    → GivesFrom old new source highs → new.seam ≡ old.seam
from-seam old new source [] t = ap (λ (m : Between). m.seam) t
from-seam old new source (x ∷ xs) t = t.seam

module _ (old new : Between) (schemas : List (List Kind)) (query plan : Plan)
    (earlier : List Plan) (rows : Rows) (split : ℕ) (by_source : Lists) (entries : List Entry)
    (source : ℕ) (m : Message) (lows highs : List Message)
    (within : source < source_count old.old_works)
    (within_fresh : source < source_count old.fresh_works)
    (h : IsHalved (split_of old) m lows highs) (g : GivesBoth old new source lows highs)
    (valid : (s : ℕ) → Valid (by_source s))
    (s : ServesMoving old schemas query plan earlier rows split by_source entries)
    (next : IsNext schemas by_source source m) where
  low : (x : Message) × (lows ≡ x ∷ [])
  low = low-is (split_of old) m lows highs h

  took : TakesOld old g.between source low.0
  took = subst (GivesBelow old g.between source) low.1 g.below

  after_it : Reads schemas plan source → AreGiven (split_of old) s.base (first_of old)
      (by_source source ++ m ∷ []) (grown (s.below source) lows) (s.from source ++ highs)
  after_it reads = given-both (split_of old) s.base (first_of old) (by_source source)
      (s.below source) (s.from source) m lows highs s.moving.closes (valid source)
      (s.each source reads) next.follows h

  may_old : Reads schemas plan source → (run start_of_list (s.below source)).ended ≡ false
      → MayComeOld old source low.0
  may_old reads going =
      let lies = low-lies (split_of old) m low.0 highs (unwrap_or (slice_get schemas source) [])
      (subst (λ (l : List Message). IsHalved (split_of old) m l highs) low.1 h) next.fits in
      let whole : Valid (s.below source ++ low.0 ∷ []) =
      subst Valid (ap (grown (s.below source)) low.1
      ∙ grown-going (s.below source) (low.0 ∷ []) going) (after_it reads).sides.low.valid in (
        lies.0,
        may-come old.old_works schemas s.before s.below s.moving.old_got source low.0 s.moving.old
            within (follow-of (s.below source) low.0 whole) lies.1,
      )

  below_now : GivenBelow schemas s.before plan rows s.base entries source g.between s.below s.from
      (low.0 ∷ [])
  below_now = gave-below schemas s.before plan rows s.base entries source old g.between s.below
      s.from low.0 within s.moving took may_old

  within_between : source < source_count g.between.fresh_works
  within_between = omega (
    arith,
    within_fresh,
    count-is old.fresh_works schemas plan s.from s.moving.fresh_got s.moving.fresh,
    count-is g.between.fresh_works schemas plan s.from below_now.moving.fresh_got
        below_now.moving.fresh,
  )

  may_fresh : (x : Message) → highs ≡ x ∷ [] → Reads schemas plan source
      → MayComeFresh g.between source x
  may_fresh x is reads =
      let given = s.each source reads in
      let lies = high-lies (split_of old) (first_of old) (run start_of_list (by_source source)) m x
      lows (unwrap_or (slice_get schemas source) []) given.begun next.follows
      (subst (IsHalved (split_of old) m lows) is h) next.fits in
      let whole : Valid (s.from source ++ x ∷ []) =
      subst (λ (l : List Message). Valid (s.from source ++ l)) is
      (after_it reads).sides.high.valid in (
        subst (λ (e : Seam). StartsFromSplit (max e.merge.split e.first) x) (sym took.seam) lies.0,
        may-come g.between.fresh_works schemas plan s.from below_now.moving.fresh_got source x
            below_now.moving.fresh within_between (follow-of (s.from source) x whole) lies.1,
      )

  from_now : GivenFrom schemas s.before plan rows s.base entries source new below_now.list s.from
      highs
  from_now = gave-from schemas s.before plan rows s.base entries source g.between new
      below_now.list s.from highs below_now.moving g.from
      (high-few (split_of old) m lows highs h) may_fresh

  seam_is : new.seam ≡ old.seam
  seam_is = from-seam g.between new source highs g.from ∙ took.seam

  each_now : (k : ℕ) → Reads schemas plan k → AreGiven (split_of old) s.base (first_of old)
      (with_message by_source source m k) (below_now.list k) (from_now.list k)
  each_now = at-each (λ (k : ℕ) (l : List Message). Reads schemas plan k
      → AreGiven (split_of old) s.base (first_of old) l (below_now.list k) (from_now.list k))
      by_source source m
      (λ reads. subst (AreGiven (split_of old) s.base (first_of old) (by_source source ++ m ∷ [])
      (below_now.list source)) (sym (from_now.here reads))
      (subst (λ (l : List Message). AreGiven (split_of old) s.base (first_of old)
      (by_source source ++ m ∷ []) l (s.from source ++ highs))
      (ap (grown (s.below source)) low.1 ∙ sym (below_now.here reads)) (after_it reads)))
      (λ k apart reads. subst (AreGiven (split_of old) s.base (first_of old) (by_source k)
      (below_now.list k)) (sym (from_now.others k apart))
      (subst (λ (l : List Message). AreGiven (split_of old) s.base (first_of old) (by_source k) l
      (s.from k)) (sym (below_now.others k apart)) (s.each k reads)))

  pub moving-takes : ServesMoving new schemas query plan earlier rows split
      (with_message by_source source m) entries
  moving-takes = record {
    before = s.before;
    past = s.past;
    earlier_is = s.earlier_is;
    base = s.base;
    below = below_now.list;
    from = from_now.list;
    moving = from_now.moving;
    split_is = ap (λ (e : Seam). e.merge.split) seam_is ∙ s.split_is;
    reads = s.reads;
    each = subst (λ (e : Seam). (k : ℕ) → Reads schemas plan k → AreGiven e.merge.split s.base
        e.first (with_message by_source source m k) (below_now.list k) (from_now.list k))
        (sym seam_is) each_now;
    alike = s.alike;
    ends = ends-fewer schemas plan by_source entries source m s.ends;
  }

-- ---- the plans at work

pub alone-next : (old new : Standing) (source : ℕ) (m : Message) → source < source_count old.works
    → TakesIn old new source m → TakesNext (state.Alone old) (state.Alone new) source m
alone-next old new source m within t = record {
  entries = t.entries;
  beat = t.beat;
  holds = λ schemas query plan earlier rows split by_source entries s valid next.
      alone-takes old new schemas query plan rows split by_source entries source m within t s next;
}

pub below-entries : (old new : Between) (source : ℕ) (lows : List Message)
    → GivesBelow old new source lows
    → (new.output.entries.items ≡ old.output.entries.items) × (new.output.beat ≡ old.output.beat)
below-entries old new source [] t =
    (ap (λ (m : Between). m.output.entries.items) t, ap (λ (m : Between). m.output.beat) t)
below-entries old new source (x ∷ xs) t = (t.entries ∙ append-nil _, t.beat)

pub from-entries : (old new : Between) (source : ℕ) (highs : List Message)
    → GivesFrom old new source highs
    → (new.output.entries.items ≡ old.output.entries.items) × (new.output.beat ≡ old.output.beat)
from-entries old new source [] t =
    (ap (λ (m : Between). m.output.entries.items) t, ap (λ (m : Between). m.output.beat) t)
from-entries old new source (x ∷ xs) t = (t.entries ∙ append-nil _, t.beat)

pub moving-next : (old new : Between) (source : ℕ) (m : Message) (lows highs : List Message)
    → source < source_count old.old_works → source < source_count old.fresh_works
    → IsHalved (split_of old) m lows highs → GivesBoth old new source lows highs
    → TakesNext (state.Moving old) (state.Moving new) source m
moving-next old new source m lows highs within within_fresh h g =
    let low = below-entries old g.between source lows g.below in
    let high = from-entries g.between new source highs g.from in
    record {
      entries = high.0 ∙ low.0 ∙ sym (append-nil old.output.entries.items);
      beat = high.1 ∙ low.1;
      holds = λ schemas query plan earlier rows split by_source entries s valid next.
          moving-takes old new schemas query plan earlier rows split by_source entries source m
          lows highs within within_fresh h g valid s next;
    }
