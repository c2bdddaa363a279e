-- Moves of the coverage, one after another.
use Rattle.std.proofs.Common.{◌≡◌, ℕ, ◌≤◌, ◌<◌, ◌+◌, ◌-◌, true, false, List, [], ◌∷◌, ◌++◌, Option}
use Rattle.std.proofs.Common.{Some, None, IsSome, Result, Ok, Err, max, refl, sym, ◌∙◌, ap, subst}
use Rattle.std.proofs.Common.{arith, inl, inr, append_assoc, append-nil}
use Rattle.std.specs.Prelude.{OnOk}
use Rattle.std.specs.List.{All}
use Rattle.std.proofs.lemmas.Bool.{cases_lt}
use Rattle.indexmap.specs.IndexMap.{get, IsUnique}
use Rattle.pipes_tuple.specs.Equal.{tuple_eq}
use Rattle.pipes_time.specs.Interval.{Span, IsInterval}
use Rattle.pipes_stream.specs.declared.Elem.{Elem}
use Rattle.pipes_stream.specs.declared.message.Message.{Message}
use Rattle.pipes_stream.specs.declared.message.Message.TheVariants as message
use Rattle.pipes_stream.specs.Lists.{elements}
use Rattle.pipes_group.specs.declared.coverage.Slot.{Slot}
use Rattle.pipes_group.specs.declared.coverage.Coverage.{Coverage}
use Rattle.pipes_group.specs.Dues.{Due, Joins, load}
use Rattle.pipes_group.specs.Covers.{Row, slot_of, Lives, LivesTo, Sets, IsStale, Extends}
use Rattle.pipes_group.specs.Covers.{CatchesUp, Renews, AdmitsElem}
use Rattle.pipes_group.specs.CoverMoves.{lives-stale, lives-dropped, lives-extended, lives-entered}
use Rattle.pipes_group.specs.CoverMoves.{lives-widened, reaches-elem, reaches-later}
use Rattle.pipes_group.specs.CoverMoves.{elements-pushed, each-set}

nothing-more : (find : Row → Option Slot) (dues : List Due) (to : ℕ) (taken : List Elem)
    (sent : List Message) → LivesTo find dues to taken sent → LivesTo find dues to taken
    (sent ++ [])
nothing-more find dues to taken sent l =
    subst (λ (ms : List Message). LivesTo find dues to taken ms) (sym (append-nil sent)) l

-- what was due is due no longer
pub moves-stale : (old new : Coverage) (at to : ℕ) (x : Row) (out : List Message) → new ≡ old
    → IsStale (get tuple_eq old.table) at x
    → CatchesUp old ((at, x) ∷ old.dues) new to out out
moves-stale old new at to x out same stale =
    subst (λ (c : Coverage). CatchesUp old ((at, x) ∷ old.dues) c to out out) (sym same) (record {
      more = [];
      appended = sym (append-nil out);
      unique = λ u. u;
      lives = λ taken sent l.
          nothing-more (get tuple_eq old.table) old.dues to taken sent (record {
            now = l.now;
            upto = l.upto;
            reaches = l.reaches;
            lives = lives-stale x at l.now (get tuple_eq old.table) old.dues taken (elements sent)
                l.lives stale;
          });
    })

pub moves-dropped : (old new : Coverage) (at to : ℕ) (x : Row) (s : Slot) (out : List Message)
    → get tuple_eq old.table x ≡ Some s → s.cover ≡ at → (IsInterval s.cover s.until → ⊥) → at ≤ to
    → All (λ d. at ≤ d.0) old.dues
    → Sets x None (get tuple_eq old.table) (get tuple_eq new.table) → new.dues ≡ old.dues
    → IsUnique tuple_eq new.table → CatchesUp old ((at, x) ∷ old.dues) new to out out
moves-dropped old new at to x s out there is ends upto all sets same unique = record {
  more = [];
  appended = sym (append-nil out);
  unique = λ u. unique;
  lives = λ taken sent l.
      let late : l.now ≤ s.cover = (l.lives.backed x s there).late in
      let most : s.until ≤ 1000000000000000 = (l.lives.backed x s there).most in
      let ended : s.until ≤ at = elim (cases_lt s.cover s.until) [
        | inl h ↦ absurd (ends (h, most))
        | inr h ↦ (omega (arith, h, is))
      ] in
      subst (λ (ds : List Due). LivesTo (get tuple_eq new.table) ds to taken (sent ++ []))
      (sym same)
      (nothing-more (get tuple_eq new.table) old.dues to taken sent (record {
        now = at;
        upto = upto;
        reaches = reaches-later l.now at sent (omega (arith, late, is)) l.reaches;
        lives = lives-dropped x s at l.now (get tuple_eq old.table) (get tuple_eq new.table)
            old.dues taken (elements sent) l.lives all there is ended sets;
      }));
}

pub moves-extended : (old new : Coverage) (to : ℕ) (e : Elem) (s : Slot) (before now : List Message)
    → IsInterval e.span.start e.span.end → get tuple_eq old.table e.tuple ≡ Some s
    → s.cover ≡ e.span.start → s.until ≡ e.span.end → e.span.start ≤ to
    → All (λ d. e.span.start ≤ d.0) old.dues
    → Sets e.tuple (Some (slot_of e.span.end e.span.end)) (get tuple_eq old.table)
    (get tuple_eq new.table)
    → Joins (e.span.end, e.tuple) old.dues new.dues → IsUnique tuple_eq new.table
    → now ≡ before ++ message.Elem e ∷ []
    → CatchesUp old ((e.span.start, e.tuple) ∷ old.dues) new to before now
moves-extended old new to e s before now inside there is ends upto all sets joins unique appended =
    record {
      more = message.Elem e ∷ [];
      appended = appended;
      unique = λ u. unique;
      lives = λ taken sent l.
          let late : l.now ≤ s.cover = (l.lives.backed e.tuple s there).late in
          record {
            now = e.span.start;
            upto = upto;
            reaches = reaches-elem l.now sent e l.reaches (omega (arith, late, is)) inside;
            lives = subst (λ (es : List Elem). Lives (get tuple_eq new.table) new.dues e.span.start
                taken es) (sym (elements-pushed sent e))
                (lives-extended e s l.now (get tuple_eq old.table) (get tuple_eq new.table) old.dues
                new.dues taken (elements sent) l.lives all there is ends joins sets);
          };
    }

-- ---- one after another
pub moves-none : (c : Coverage) (to : ℕ) (out : List Message) → CatchesUp c c.dues c to out out
moves-none c to out = record {
  more = [];
  appended = sym (append-nil out);
  unique = λ u. u;
  lives = λ taken sent l. nothing-more (get tuple_eq c.table) c.dues to taken sent l;
}

pub moves-then : (first mid popped last : Coverage) (d : Due) (to : ℕ)
    (before between now : List Message) → CatchesUp first first.dues mid to before between
    → mid.dues ≡ d ∷ popped.dues → popped.table ≡ mid.table
    → CatchesUp popped (d ∷ popped.dues) last to between now
    → CatchesUp first first.dues last to before now
moves-then first mid popped last d to before between now a dues table b = record {
  more = a.more ++ b.more;
  appended = b.appended ∙ ap (λ (ms : List Message). ms ++ b.more) a.appended
      ∙ append_assoc before a.more b.more;
  unique = λ u. b.unique (rw table (a.unique u));
  lives = λ taken sent l.
      subst (λ (ms : List Message). LivesTo (get tuple_eq last.table) last.dues to taken ms)
      (append_assoc sent a.more b.more)
      (b.lives taken (sent ++ a.more) (rw (table, ← dues) (a.lives taken sent l)));
}

-- ---- an element comes
pub admits-entered : (old new : Coverage) (e : Elem) (m : Message)
    → get tuple_eq old.table e.tuple ≡ None
    → Sets e.tuple (Some (slot_of e.span.end e.span.end)) (get tuple_eq old.table)
    (get tuple_eq new.table)
    → Joins (e.span.end, e.tuple) old.dues new.dues → IsUnique tuple_eq new.table
    → m ≡ message.Elem e → AdmitsElem old new e m
admits-entered old new e m none sets joins unique is =
    subst (λ (x : Message). AdmitsElem old new e x) (sym is) (record {
      unique = λ u. unique;
      as_far = λ p. refl;
      may_follow = λ p w. w;
      later = λ inside late x. each-set e.tuple (Some (slot_of e.span.end e.span.end))
          (get tuple_eq old.table) (get tuple_eq new.table) sets
          (λ (q : Row) (o : Option Slot). (s : Slot) → o ≡ Some s → e.span.start < s.cover)
          (λ s h. let same : slot_of e.span.end e.span.end ≡ s = cc in
          subst (λ (n : Slot). e.span.start < n.cover) same inside.0)
          (λ q n s h. late q s h) x;
      lives = λ taken sent inside l. lives-entered e (get tuple_eq old.table)
          (get tuple_eq new.table) old.dues new.dues taken sent inside l none joins sets;
    })

pub admits-widened : (old new : Coverage) (e : Elem) (slot : Slot) (m : Message)
    → get tuple_eq old.table e.tuple ≡ Some slot
    → Sets e.tuple (Some (slot_of slot.cover (max slot.until e.span.end))) (get tuple_eq old.table)
    (get tuple_eq new.table)
    → new.dues ≡ old.dues → IsUnique tuple_eq new.table
    → m ≡ message.Beat e.span.start → AdmitsElem old new e m
admits-widened old new e slot m there sets same unique is =
    subst (λ (x : Message). AdmitsElem old new e x) (sym is) (record {
      unique = λ u. unique;
      as_far = λ p. refl;
      may_follow = λ p w.
          let a : e.span.start < e.span.end = w.2.0 in
          let b : e.span.end ≤ 1000000000000000 = w.2.1 in
          (w.0, w.1, omega (arith, a, b));
      later = λ inside late x. each-set e.tuple
          (Some (slot_of slot.cover (max slot.until e.span.end))) (get tuple_eq old.table)
          (get tuple_eq new.table) sets
          (λ (q : Row) (o : Option Slot). (s : Slot) → o ≡ Some s → e.span.start < s.cover)
          (λ s h. let same : slot_of slot.cover (max slot.until e.span.end) ≡ s = cc in
          subst (λ (n : Slot). e.span.start < n.cover) same (late e.tuple slot there))
          (λ q n s h. late q s h) x;
      lives = λ taken sent inside l.
          subst (λ (ds : List Due). Lives (get tuple_eq new.table) ds e.span.start (taken ++ e ∷ [])
          (sent ++ [])) (sym same)
          (subst (λ (es : List Elem). Lives (get tuple_eq new.table) old.dues e.span.start
          (taken ++ e ∷ []) es) (sym (append-nil sent))
          (lives-widened e slot (get tuple_eq old.table) (get tuple_eq new.table) old.dues taken
          sent inside l there sets));
    })

-- ---- what is left to do

pub load-joined : (to at end : ℕ) (x : Row) (old new : List Due) → at < end → at ≤ to
    → Joins (end, x) old new → load to new < load to old + ((to + 1) - at)
load-joined to at end x old new h l joins =
    let a = joins.weight (λ (d : Due). (to + 1) - d.0) in omega (arith, a, h, l)

-- ---- what was due first
pub renews-stale : (old new : Coverage) (at : ℕ) (x : Row) (out : List Message) → new ≡ old
    → IsStale (get tuple_eq old.table) at x → Renews old new (at, x) out out
renews-stale old new at x out same stale = record {
  moves = λ to h all. moves-stale old new at to x out same stale;
  fewer = λ to h. let e : load to new.dues ≡ load to old.dues =
      ap (λ (c : Coverage). load to c.dues) same in
      omega (arith, e, h);
}

pub renews-dropped : (old new : Coverage) (x : Row) (s : Slot) (out : List Message)
    → get tuple_eq old.table x ≡ Some s → (IsInterval s.cover s.until → ⊥)
    → Sets x None (get tuple_eq old.table) (get tuple_eq new.table) → new.dues ≡ old.dues
    → IsUnique tuple_eq new.table → Renews old new (s.cover, x) out out
renews-dropped old new x s out there ends sets same unique = record {
  moves = λ to h all. moves-dropped old new s.cover to x s out there refl ends h all sets same
      unique;
  fewer = λ to h. let e : load to new.dues ≡ load to old.dues = ap (load to) same in
      omega (arith, e, h);
}

renews-in : (old new : Coverage) (x : Row) (s : Slot) (span : Span) (before now : List Message)
    → get tuple_eq old.table x ≡ Some s → s.cover ≡ span.start → s.until ≡ span.end
    → IsInterval span.start span.end → Extends old new x span before now
    → Renews old new (span.start, x) before now
renews-in old new x s span before now there from to inside x' = record {
  moves = λ end h all.
      moves-extended old new end (record { tuple = x; span = span }) s before now inside there from
      to h all x'.sets x'.joins x'.unique x'.appended;
  fewer = λ end h. load-joined end span.start span.end x old.dues new.dues inside.0 h x'.joins;
}

pub renews-extended : (old new : Coverage) (x : Row) (s : Slot) (span : Span)
    (before now : List Message) → get tuple_eq old.table x ≡ Some s
    → span ≡ record { start = s.cover; end = s.until } → IsInterval s.cover s.until
    → Extends old new x span before now → Renews old new (s.cover, x) before now
renews-extended old new x s span before now there is inside extends =
    let from : span.start ≡ s.cover = ap (λ (a : Span). a.start) is in
    let to : span.end ≡ s.until = ap (λ (a : Span). a.end) is in
    subst (λ (a : ℕ). Renews old new (a, x) before now) from
    (renews-in old new x s span before now there (sym from) (sym to)
    (subst (λ (a : Span). IsInterval a.start a.end) (sym is) inside) extends)

-- the element's parts
pub extends-from : (old mid new : Coverage) (key copy x : Row) (end : ℕ) (span : Span)
    (before now : List Message) → key ≡ x → copy ≡ x → end ≡ span.end
    → Sets key (Some (slot_of end end)) (get tuple_eq old.table) (get tuple_eq mid.table)
    → IsUnique tuple_eq mid.table → mid.dues ≡ old.dues → Joins (end, x) mid.dues new.dues
    → new.table ≡ mid.table → now ≡ before
    ++ message.Elem (record { tuple = copy; span = span }) ∷ []
    → Extends old new x span before now
extends-from old mid new key copy x end span before now key_is copy_is end_is sets unique dues joins
    table appended = record {
      sets = rw (table, ← key_is, ← end_is) sets;
      unique = rw table unique;
      joins = rw (← end_is, ← dues) joins;
      appended = rw (← copy_is) appended;
    }

-- the parts of what an element does that comes
pub admits-parts : (old mid new : Coverage) (e : Elem) (key due : Row) (end : ℕ) (m : Message)
    → get tuple_eq old.table e.tuple ≡ None → key ≡ e.tuple → due ≡ e.tuple → end ≡ e.span.end
    → Sets key (Some (slot_of end end)) (get tuple_eq old.table) (get tuple_eq mid.table)
    → IsUnique tuple_eq mid.table → mid.dues ≡ old.dues → Joins (end, due) mid.dues new.dues
    → new.table ≡ mid.table → m ≡ message.Elem e → AdmitsElem old new e m
admits-parts old mid new e key due end m none key_is due_is end_is sets unique dues joins table is =
    admits-entered old new e m none (rw (table, ← key_is, ← end_is) sets)
    (rw (← end_is, ← due_is, ← dues) joins) (rw table unique) is

pub admits-wide : (old new : Coverage) (e : Elem) (slot : Slot) (start until : ℕ) (m : Message)
    → get tuple_eq old.table e.tuple ≡ Some slot → until ≡ max slot.until e.span.end
    → start ≡ e.span.start
    → Sets e.tuple (Some (slot_of slot.cover until)) (get tuple_eq old.table)
    (get tuple_eq new.table)
    → IsUnique tuple_eq new.table → new.dues ≡ old.dues → m ≡ message.Beat start
    → AdmitsElem old new e m
admits-wide old new e slot start until m there until_is start_is sets unique dues is =
    admits-widened old new e slot m there
    (subst (λ (u : ℕ). Sets e.tuple (Some (slot_of slot.cover u)) (get tuple_eq old.table)
    (get tuple_eq new.table)) until_is sets)
    dues unique (is ∙ ap message.Beat start_is)

-- one turn
pub turn : (first mid popped last : Coverage) (d : Due) (to : ℕ) (before between now : List Message)
    → CatchesUp first first.dues mid to before between → mid.dues ≡ d ∷ popped.dues
    → popped.table ≡ mid.table → d.0 ≤ to → All (λ e. d.0 ≤ e.0) popped.dues
    → Renews popped last d between now → CatchesUp first first.dues last to before now
turn first mid popped last d to before between now a dues table upto all r =
    moves-then first mid popped last d to before between now a dues table (r.moves to upto all)

-- there is no interval with these ends
pub not-interval : (a b : ℕ) → (IsInterval a b → IsSome {T = Span} None) → IsInterval a b → ⊥
not-interval a b h i = absurd (let e : false ≡ true = h i in cc)
