-- What is known grows: over several steps, and by one.
use Rattle.std.proofs.Common.{◌≡◌, ℕ, Option, ◌+◌, ◌≤◌, max, Some, None, refl, sym, ◌∙◌, subst}
use Rattle.std.proofs.Common.{⊎_elim, inl, inr, arith}
use Rattle.std.specs.Prelude.{◌⊎◌}
use mathlib.Core.Logic.{dite}
use native.Mathlib.Decide.{ℕ_discrete}
use Rattle.std.proofs.lemmas.Bool.{cases_lt}
use Rattle.pipes_split.specs.declared.book.Raised.{Raised}
use Rattle.pipes_split.specs.declared.book.Raised.TheVariants.{Free, Cut}
use Rattle.pipes_split.specs.Knowledge.{Knowledge, KnowsMore, EndRegistered, SplitMet, RaiseTells}
use Rattle.pipes_split.specs.Knowledge.{LookTells}
use Rattle.pipes_parcel.specs.Pieces.{MayStart, MayEnd, AllClosed, RaisesEnd}
use Rattle.pipes_parcel.specs.Placed.{Begins}

pub grows-none : (k : Knowledge) → KnowsMore k k
grows-none k = record {
  tops = λ e. omega arith;
  splits = λ e t h. h;
  asked = λ i h. h;
  closes = refl;
}

pub grows-on : (k l m : Knowledge) → KnowsMore k l → KnowsMore l m → KnowsMore k m
grows-on k l m a b = record {
  tops = λ e. omega (arith, a.tops e, b.tops e);
  splits = λ e t h. b.splits e t (a.splits e t h);
  asked = λ i h. b.asked i (a.asked i h);
  closes = b.closes ∙ a.closes;
}

pub raises-none : (k : Knowledge) (end : ℕ) → RaisesEnd k end k
raises-none k end = record {
  tops = λ e. inl refl;
  asked = λ i. refl;
  grows = grows-none k;
}

pub raises-on : (k l m : Knowledge) (end : ℕ) → RaisesEnd k end l → RaisesEnd l end m
    → RaisesEnd k end m
raises-on k l m end a b = record {
  tops = λ e. ⊎_elim (λ same. ⊎_elim (λ was. inl (same ∙ was)) (λ was. inr (same ∙ was)) (a.tops e))
      (λ is. inr is) (b.tops e);
  asked = λ i. b.asked i ∙ a.asked i;
  grows = grows-on k l m a.grows b.grows;
}

either : (a b c : ℕ) → c ≡ max a b → (c ≡ b) ⊎ (c ≡ a)
either a b c is = ⊎_elim (λ h. inl (omega (arith, is, h))) (λ h. inr (omega (arith, is, h)))
    (cases_lt a b)

registered-raises : (k l : Knowledge) (epoch end : ℕ) → EndRegistered k epoch end l
    → RaisesEnd k end l
registered-raises k l epoch end r = record {
  tops = λ e. dite (ℕ_discrete e epoch)
      (λ same. subst (λ (i : ℕ). (l.top i ≡ k.top i) ⊎ (l.top i ≡ end)) (sym same)
      (either end (k.top epoch) (l.top epoch) r.top))
      (λ other. inl (r.other_tops e other));
  asked = r.asked;
  grows = r.grows;
}

met-raises : (k l : Knowledge) (epoch t end : ℕ) → SplitMet k epoch t l → RaisesEnd k end l
met-raises k l epoch t end m = record {
  tops = λ e. inl (m.learnt.tops e);
  asked = m.learnt.asked;
  grows = m.learnt.grows;
}

-- an end that was raised, whatever the answer
pub told-raises : (k l : Knowledge) (epoch end : ℕ) (answer : Raised)
    → RaiseTells k epoch end answer l → RaisesEnd k end l
told-raises k l epoch end Free tells = registered-raises k l epoch end tells
told-raises k l epoch end (Cut t) tells = met-raises k l epoch t end tells

-- ---- where a part may lie, as more is known
pub may-start-more : (k l : Knowledge) (epoch start : ℕ) → KnowsMore k l → MayStart k epoch start
    → MayStart l epoch start
may-start-more k l epoch start g may before is =
    let was = may before is in
    (was.0, g.splits before was.0 was.1, was.2)

pub may-end-more : (k l : Knowledge) (epoch end : ℕ) → KnowsMore k l → MayEnd k epoch end
    → MayEnd l epoch end
may-end-more k l epoch end g may =
    ⊎_elim (λ top. inl (omega (arith, top, g.tops epoch)))
    (λ was. inr (was.0, g.splits epoch was.0 was.1, was.2)) may

pub may-start-first : (k : Knowledge) (start : ℕ) → MayStart k 0 start
may-start-first k start before is = absurd (omega (arith, is))

-- in the epoch after a closed one, from its split on
pub may-start-next : (k : Knowledge) (epoch t start : ℕ) → k.split epoch ≡ Some t → t ≤ start
    → MayStart k (epoch + 1) start
may-start-next k epoch t start known h before is =
    let same : epoch ≡ before = omega (arith, is) in
    (t, subst (λ (i : ℕ). k.split i ≡ Some t) same known, h)

-- a later start
pub may-start-later : (k : Knowledge) (epoch low start : ℕ) → low ≤ start → MayStart k epoch low
    → MayStart k epoch start
may-start-later k epoch low start h may before is =
    let was = may before is in
    (was.0, was.1, omega (arith, h, was.2))

pub closed-more : (k l : Knowledge) (epoch : ℕ) → KnowsMore k l → AllClosed k epoch
    → AllClosed l epoch
closed-more k l epoch g closed before h =
    let was = closed before h in
    (was.0, g.splits before was.0 was.1)

pub closed-none : (k : Knowledge) → AllClosed k 0
closed-none k before h = absurd (omega (arith, h))

-- one more closed epoch
pub closed-next : (k : Knowledge) (epoch t : ℕ) → AllClosed k epoch → k.split epoch ≡ Some t
    → AllClosed k (epoch + 1)
closed-next k epoch t closed known before h = dite (ℕ_discrete before epoch)
    (λ same. (t, subst (λ (i : ℕ). k.split i ≡ Some t) (sym same) known))
    (λ other. closed before (omega (arith, h, other)))

-- an epoch that was looked at, whatever the answer
pub looked-raises : (k l : Knowledge) (epoch end : ℕ) (answer : Option ℕ)
    → LookTells k epoch answer l → RaisesEnd k end l
looked-raises k l epoch end None tells = record {
  tops = λ e. inl (tells.same.tops e);
  asked = tells.same.asked;
  grows = record {
    tops = λ e. omega (arith, tells.same.tops e);
    splits = λ e t h. tells.same.splits e ∙ h;
    asked = λ i h. tells.same.asked i ∙ h;
    closes = tells.same.closes;
  };
}
looked-raises k l epoch end (Some t) tells = met-raises k l epoch t end tells

-- ---- where an element begins
pub begins-more : (k l : Knowledge) (epoch low : ℕ) → KnowsMore k l → Begins k epoch low
    → Begins l epoch low
begins-more k l epoch low g b = record {
  early = b.early;
  closed = closed-more k l epoch g b.closed;
  start = may-start-more k l epoch low g b.start;
}

pub begins-first : (k : Knowledge) (low : ℕ) → Begins k 0 low
begins-first k low = record {
  early = omega arith;
  closed = closed-none k;
  start = may-start-first k low;
}

pub begins-next : (k l : Knowledge) (epoch t low start : ℕ) → Begins k epoch low
    → SplitMet k epoch t l → t ≤ start → Begins l (epoch + 1) start
begins-next k l epoch t low start b met h = record {
  early = omega (arith, met.learnt.early);
  closed = closed-next l epoch t (closed-more k l epoch met.learnt.grows b.closed) met.learnt.known;
  start = may-start-next l epoch t start met.learnt.known h;
}

pub begins-later : (k : Knowledge) (epoch low start : ℕ) → low ≤ start → Begins k epoch low
    → Begins k epoch start
begins-later k epoch low start h b = record {
  early = b.early;
  closed = b.closed;
  start = may-start-later k epoch low start h b.start;
}

pub begins-at : (k : Knowledge) (epoch low start : ℕ) → low ≡ start → Begins k epoch low
    → Begins k epoch start
begins-at k epoch low start same b = begins-later k epoch low start (omega (arith, same)) b
