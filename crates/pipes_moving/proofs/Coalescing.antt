-- No result is cut in two at the split.
use Rattle.std.proofs.Common.{◌≡◌, ℕ, ◌≤◌, List, [], ◌∷◌, ◌++◌, refl, sym, subst}
use Rattle.std.proofs.Common.{arith}
use Rattle.std.specs.List.{All, Contains}
use Rattle.std.proofs.lemmas.Bool.Decides.{Decides-eqb}
use Rattle.std.proofs.lemmas.List.Elements.{All-nil, All-cons, All-weaker, All-contains, All-same}
use Rattle.pipes_tuple.specs.declared.value.Kind.{Kind}
use Rattle.pipes_tuple.proofs.Equality.{tuple_eq-Decides}
use Rattle.pipes_stream.specs.declared.Elem.{Elem}
use Rattle.pipes_stream.specs.Lists.{elements}
use Rattle.pipes_stream.specs.Lawful.{Lists}
use Rattle.pipes_stream.specs.Weights.{weigh}
use Rattle.pipes_stream.proofs.Ports.{All-parts}
use Rattle.pipes_coalesce.specs.Tests.{touch, touching}
use Rattle.pipes_coalesce.specs.Stands.{IsMerged}
use Rattle.pipes_seam.proofs.Apart.{apart-append}
use Rattle.pipes_plan.specs.declared.plan.Plan.{Plan}
use Rattle.pipes_output.specs.declared.entry.Entry.{Entry}
use Rattle.pipes_semantics.specs.Written.{results}
use Rattle.pipes_written.specs.Written.{IsTyped}
use Rattle.pipes_told.specs.Coalesced.{CoalescedAt}
use Rattle.pipes_standing.specs.Calms.{Rows, kinds_of}
use Rattle.pipes_moving.specs.declared.moving.Moving.{Moving}
use Rattle.pipes_moving.specs.Moves.{IsMoving, split_of}

each-within : (g : Elem → ℕ) (es : List Elem) → All (λ e. g e ≤ weigh g es) es
each-within g [] = All-nil (λ (e : Elem). g e ≤ weigh g [])
each-within g (x ∷ es) = All-cons (λ (e : Elem). g e ≤ weigh g (x ∷ es)) x es (omega arith)
    (All-weaker (λ (e : Elem). g e ≤ weigh g es) (λ (e : Elem). g e ≤ weigh g (x ∷ es))
    (λ e h. omega (arith, h)) es (each-within g es))

member-weighs : (g : Elem → ℕ) (es : List Elem) (x : Elem) → Contains es x → g x ≤ weigh g es
member-weighs g es x c = All-contains (λ (e : Elem). g e ≤ weigh g es) es x (each-within g es) c

touches : (split : ℕ) (x y : Elem) → x.tuple ≡ y.tuple → x.span.end ≡ split
    → y.span.start ≡ split → touch split x y ≡ 1
touches split x y same end start =
    rw (
      (tuple_eq-Decides x.tuple y.tuple).1 same,
      (Decides-eqb x.span.end split).1 end,
      (Decides-eqb y.span.start split).1 start,
    ) refl

-- none that touch
pub apart-coalesced : (split : ℕ) (es : List Elem) → touching split es ≡ 0 → CoalescedAt es split
apart-coalesced split es none = λ x y has_x has_y same end start. omega (
  arith,
  none,
  touches split x y same end start,
  member-weighs (touch split x) es y has_y,
  member-weighs (λ (e : Elem). weigh (touch split e) es) es x has_x,
)

pub moving-coalesced : (schemas : List (List Kind)) (before after : Plan) (rows : Rows) (base : ℕ)
    (below from : Lists) (entries : List Entry) (m : Moving) → IsMerged m.seam.merge
    → IsMoving m schemas before after rows base below from entries
    → CoalescedAt (results entries) (split_of m)
moving-coalesced schemas before after rows base below from entries m merges s =
    let kinds : List Kind = kinds_of schemas before in
    let merged = merges s.olds s.news s.sent s.merge in
    let typed : All (IsTyped kinds) (results s.earlier) =
    (All-parts (IsTyped kinds) (results s.earlier) (elements s.sent)
    (All-same (IsTyped kinds) (results s.earlier ++ elements s.sent) (results entries)
    (sym s.results_are) s.written.typed)).0 in
    subst (λ (es : List Elem). CoalescedAt es (split_of m)) (sym s.results_are)
    (apart-coalesced (split_of m) (results s.earlier ++ elements s.sent)
    (apart-append (split_of m) (results s.earlier) (elements s.sent) s.over_before
    (λ k e at. (typed k e at).0) merged.apart))
