-- No result is cut in two at a split, whatever entries come later.
use Rattle.std.proofs.Common.{◌≡◌, ◌⊎◌, ℕ, zero, suc, ◌≤◌, ◌<◌, List, [], ◌∷◌}
use Rattle.std.proofs.Common.{◌++◌, length, get_or, Option, inl, inr, refl, sym, ap, subst, ◌∙◌}
use Rattle.std.proofs.Common.{arith, append-nil}
use Rattle.std.specs.Bool.{IsTrue}
use Rattle.std.specs.List.{All, Contains}
use Rattle.std.proofs.lemmas.List.Elements.{All-contains, Contains-append_cases}
use Rattle.pipes_time.specs.Interval.{closed, IsInterval}
use Rattle.pipes_stream.specs.declared.Elem.{Elem}
use Rattle.pipes_output.specs.declared.entry.Entry.{Entry}
use Rattle.pipes_output.specs.declared.entry.Entry.TheVariants as entry
use Rattle.pipes_semantics.specs.Written.{results}
use Rattle.pipes_written.proofs.Splits.{results-append}
use Rattle.pipes_told.specs.Asks.{Ask, Migrates, Drains, NextMigrates}
use Rattle.pipes_told.specs.Told.{Move, Told, now_idle, now_over, last_split}
use Rattle.pipes_told.specs.Told.{accepted, after_entry, after_entries}
use Rattle.pipes_told.specs.Replies.{AcceptsMove}
use Rattle.pipes_told.specs.Pacing.{EachMove, IsOver, MayFollow, Follow}
use Rattle.pipes_told.specs.Coalesced.{CoalescedAt, Coalesced}
use Rattle.pipes_replies.specs.declared.replies.Replies.{Replies}
use Rattle.pipes_replies.specs.declared.stage.Stage.{Stage}
use Rattle.pipes_replies.specs.declared.stage.Stage.TheVariants.{Calm, Moving}
use Rattle.pipes_replies.specs.Keeping.{IsAt, IsPast, Keeps}

pub contains-cases : {X : Type 0} (y : X) (ys : List X) (x : X) → Contains (y ∷ ys) x
    → (y ≡ x) ⊎ Contains ys x
contains-cases {X} y ys x c = by c.0 c.1 c.2
  where
    by : (k : ℕ) → k < length (y ∷ ys) → get_or (y ∷ ys) k x ≡ x → (y ≡ x) ⊎ Contains ys x
    by zero low is = inl is
    by (suc k) low is = inr (k, omega (arith, low), is)

-- ---- accepted migrations

-- a migration with this split was accepted
abbrev pub HasMove : ℕ → List Move → Type 0
HasMove split [] = ⊥
HasMove split (m ∷ ms) = (m.split ≡ split) ⊎ HasMove split ms

idle-has : (split : ℕ) (ms : List Move) → HasMove split ms → HasMove split (now_idle ms)
idle-has split [] has = has
idle-has split (m ∷ ms) has = has

over-has : (split : ℕ) (ms : List Move) → HasMove split ms → HasMove split (now_over ms)
over-has split [] has = has
over-has split (m ∷ ms) has = has

module _ {P D : Type 0} (target : D → P) where
  accepted-has : (told : Told P D) (split low : ℕ) (asks : List (Ask D)) → HasMove low told.moves
      → HasMove low (accepted target told split asks).moves
  accepted-has told split low [] has = has
  accepted-has told split low (Drains i ∷ later) has = has
  accepted-has told split low (Migrates d i ∷ later) has = inr has

  entry-has : (told : Told P D) (split : ℕ) (e : Entry) → HasMove split told.moves
      → HasMove split (after_entry target told e).moves
  entry-has told split (entry.Result e) has = has
  entry-has told split (entry.Beat h) has = has
  entry-has told split (entry.Accepted k t) has = accepted-has told t split told.asks has
  entry-has told split (entry.Refused k why) has = has
  entry-has told split (entry.Idle k) has = idle-has split told.moves has
  entry-has told split (entry.Over k) has = over-has split told.moves has
  entry-has told split (entry.Drained f h) has = has
  entry-has told split entry.Ended has = has
  entry-has told split entry.Stopped has = has

  pub entries-have : (told : Told P D) (split : ℕ) (es : List Entry) → HasMove split told.moves
      → HasMove split (after_entries target told es).moves
  entries-have told split [] has = has
  entries-have told split (e ∷ es) has =
      entries-have (after_entry target told e) split es (entry-has told split e has)

  accepted-new : (told : Told P D) (number split : ℕ) (asks : List (Ask D)) (Comes : P → D
      → Option ℕ → Type 0)
      → NextMigrates (λ derivation. AcceptsMove Comes told derivation number split) asks
      → HasMove split (accepted target told split asks).moves
  accepted-new told number split [] Comes next = absurd next
  accepted-new told number split (Drains i ∷ later) Comes next = absurd next
  accepted-new told number split (Migrates d i ∷ later) Comes next = inl refl

  module _ (Comes : P → D → Option ℕ → Type 0) (steep : P → ℕ) (spans : List Elem) where
    first-has : (told : Told P D) (e : Entry) (number split : ℕ) → e ≡ entry.Accepted number split
        → MayFollow Comes steep spans told e → HasMove split (after_entry target told e).moves
    first-has told e number split is m =
        subst (λ (x : Entry). HasMove split (after_entry target told x).moves) (sym is)
        (accepted-new told number split told.asks Comes
        (subst (λ (x : Entry). MayFollow Comes steep spans told x) is m).replies)

    -- each that was accepted is one of those that are told
    pub accepted-there : (told : Told P D) (es : List Entry) (number split : ℕ)
        → Follow target Comes steep spans told es → Contains es (entry.Accepted number split)
        → HasMove split (after_entries target told es).moves
    accepted-there told [] number split follow c = absurd (let low = c.1 in omega (arith, low))
    accepted-there told (e ∷ es) number split follow c =
        elim (contains-cases e es (entry.Accepted number split) c) [
          | inl is ↦ entries-have (after_entry target told e) split es
              (first-has told e number split is follow.0)
          | inr later ↦ accepted-there (after_entry target told e) es number split follow.1 later
        ]

-- ---- over, or in progress

-- the output has passed the split, or all has come to the end
abbrev pub IsBehind : ℕ → ℕ → ℕ → Type 0
IsBehind inputs output split = (split < output) ⊎ ((inputs ≡ closed) × (output ≡ closed))

over-behind : (inputs output split : ℕ) (ms : List Move) → EachMove IsOver ms
    → EachMove (λ m. IsTrue m.over → IsPast inputs output m) ms → HasMove split ms
    → IsBehind inputs output split
over-behind inputs output split [] over past has = absurd has
over-behind inputs output split (m ∷ ms) over past (inl is) =
    subst (λ (n : ℕ). IsBehind inputs output n) is (past.0 over.0.1).passed
over-behind inputs output split (m ∷ ms) over past (inr has) =
    over-behind inputs output split ms over.1 past.1 has

by-stage : (inputs output last split : ℕ) (stage : Stage) (ms : List Move)
    → IsAt inputs stage ms → EachMove (λ m. IsTrue m.over → IsPast inputs output m) ms
    → last_split ms ≡ last → HasMove split ms
    → IsBehind inputs output split ⊎ ((split ≡ last) × (stage ≡ Calm → ⊥))
by-stage inputs output last split Calm ms at past is has =
    inl (over-behind inputs output split ms at past has)
by-stage inputs output last split (Moving s idle) [] at past is has = absurd has
by-stage inputs output last split (Moving s idle) (m ∷ ms) at past is (inl here) =
    inr (sym here ∙ is, λ calm. (cc (calm)))
by-stage inputs output last split (Moving s idle) (m ∷ ms) at past is (inr has) =
    inl (over-behind inputs output split ms at.others past.1 has)

-- ---- entries more

-- a result that starts at or above the heartbeat of the output
abbrev pub StartsFrom : ℕ → Elem → Type 0
StartsFrom output e = IsInterval e.span.start e.span.end × (output ≤ e.span.start)

module _ (inputs output split : ℕ) (behind : IsBehind inputs output split) where
  not-new : (e : Elem) → StartsFrom output e → e.span.start ≤ split → ⊥
  not-new e from low = by behind
    where
      by : IsBehind inputs output split → ⊥
      by (inl under) = let up = from.1 in omega (arith, under, up, low)
      by (inr both) =
          let all = both.1 in let up = from.1 in let short = from.0.0 in
          let within = from.0.1 in omega (arith, all, up, short, within)

  cut-old : (old new : List Elem) → All (StartsFrom output) new → CoalescedAt old split
      → CoalescedAt (old ++ new) split
  cut-old old new from was x y in_x in_y same ends starts =
      elim (Contains-append_cases old new x in_x) [
        | inr late ↦ (let f = All-contains (StartsFrom output) new x from late in
            let short = f.0.0 in not-new x f (omega (arith, short, ends)))
        | inl early ↦ elim (Contains-append_cases old new y in_y) [
          | inr late ↦ not-new y (All-contains (StartsFrom output) new y from late)
              (omega (arith, starts))
          | inl there ↦ was x y early there same ends starts
        ]
      ]

-- results come, which start at or above the heartbeat of the output
module _ {P D : Type 0} (target : D → P) (Comes : P → D → Option ℕ → Type 0) (steep : P → ℕ)
    (spans : List Elem) (told : Told P D) (r : Replies) (inputs output : ℕ)
    (entries more : List Entry) where
  pub coalesced-more : Follow target Comes steep spans told entries
      → Keeps r (after_entries target told entries) inputs output
      → All (StartsFrom output) (results more)
      → ((number split : ℕ) → Contains more (entry.Accepted number split) → ⊥)
      → ((r.stage ≡ Calm → ⊥) → CoalescedAt (results (entries ++ more)) r.last)
      → Coalesced entries → Coalesced (entries ++ more)
  coalesced-more follow k from none now was number split there =
      elim (Contains-append_cases entries more (entry.Accepted number split) there) [
        | inr late ↦ absurd (none number split late)
        | inl early ↦ (let moves = (after_entries target told entries).moves in
            elim (by-stage inputs output r.last split r.stage moves k.at k.past k.last
            (accepted-there target Comes steep spans told entries number split follow early)) [
              | inl behind ↦ subst (λ (es : List Elem). CoalescedAt es split)
                  (sym (results-append entries more))
                  (cut-old inputs output split behind (results entries) (results more) from
                  (was number split early))
              | inr goes ↦ subst (λ (n : ℕ). CoalescedAt (results (entries ++ more)) n)
                  (sym goes.0) (now goes.1)
            ])
      ]

-- entries come that are neither results nor accepted migrations
pub coalesced-same : (entries more : List Entry) → results more ≡ []
    → ((number split : ℕ) → Contains more (entry.Accepted number split) → ⊥)
    → Coalesced entries → Coalesced (entries ++ more)
coalesced-same entries more none not was number split there =
    elim (Contains-append_cases entries more (entry.Accepted number split) there) [
      | inr late ↦ absurd (not number split late)
      | inl early ↦ subst (λ (es : List Elem). CoalescedAt es split)
          (sym (same-results entries more none)) (was number split early)
    ]
  where
    same-results : (entries more : List Entry) → results more ≡ []
        → results (entries ++ more) ≡ results entries
    same-results entries more none = results-append entries more
        ∙ ap (λ (es : List Elem). results entries ++ es) none ∙ append-nil (results entries)
