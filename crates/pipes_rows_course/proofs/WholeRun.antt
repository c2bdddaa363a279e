-- A whole course: the plan is the source itself, over the first file, with a drain after one row.
use Rattle.std.proofs.Common.{◌≡◌, ℕ, ◌+◌, ◌≤◌, ◌<◌, max, List, [], ◌∷◌, ◌++◌, Bool, true, false}
use Rattle.std.proofs.Common.{cond, map, nat_le, nat_lt, ◌&&◌, Option, pos, refl, sym}
use Rattle.std.proofs.Common.{ap}
use Rattle.std.proofs.Common.{◌∙◌, rules, arith, unwrap_or}
use Rattle.std.specs.List.{All}
use Rattle.std.proofs.lemmas.List.Elements.{All-contains, All-cons, All-nil, All-from_recursion}
use Rattle.pipes_time.specs.Interval.{horizon}
use Rattle.pipes_tuple.specs.declared.value.Value.{Value}
use Rattle.pipes_tuple.specs.declared.value.Value.TheVariants.{Int}
use Rattle.pipes_tuple.specs.declared.value.Kind.{Kind}
use Rattle.pipes_tuple.specs.Bag.{SameBag, count}
use Rattle.pipes_tuple.specs.Limits.{IsValue}
use Rattle.pipes_stream.specs.declared.Elem.{Elem}
use Rattle.pipes_box.specs.Prompt.{floors}
use Rattle.pipes_feed.specs.declared.reason.Reason.TheVariants as reason
use Rattle.pipes_feed.specs.Items.{Items, in_order}
use Rattle.pipes_plan.specs.declared.plan.Plan.{Plan, the_lemmas}
use Rattle.pipes_plan.specs.declared.plan.Plan.TheVariants.{Source}
use Rattle.pipes_plan.proofs.PlanEquations.{alg-Source, kinds-Source}
use Rattle.pipes_output.specs.declared.entry.Entry.{Entry}
use Rattle.pipes_output.specs.declared.entry.Entry.TheVariants.{Beat, Accepted, Drained, Ended}
use Rattle.pipes_output.specs.declared.form.Form.TheVariants.{Stream}
use Rattle.pipes_output.specs.Lines.{IsEntry, lines}
use Rattle.pipes_window.specs.declared.row.Row.{Row}
use Rattle.pipes_window.specs.Windows.{span_of, in_window}
use Rattle.pipes_query.specs.declared.query.Query.{Query}
use Rattle.pipes_query.specs.declared.script.Mode.TheVariants.{Inline}
use Rattle.pipes_query.specs.declared.script.Command.TheVariants.{Feed, Drain}
use Rattle.pipes_semantics.specs.Written.{written_snapshot}
use Rattle.pipes_semantics.specs.Answer.{answer, bags_at, schemas_of}
use Rattle.pipes_semantics.specs.Right.{IsResultOf, Final, Ordered}
use Rattle.pipes_told.specs.Asks.{Drains, Taken}
use Rattle.pipes_told.specs.Steep.{steep}
use Rattle.pipes_told.specs.Coalesced.{Coalesced}
use Rattle.pipes_course.specs.Endings.{Whole}
use Rattle.pipes_course.specs.Job.{RunJob, About}
use Rattle.pipes_course.specs.Writing.{FollowFrom}
use Rattle.pipes_course.specs.Course.{Course}
use Rattle.pipes_rows_course.proofs.Setting.{TestMove, source_a, file_a, elem, found}

-- nothing is asked for
abbrev to_itself : TestMove → Plan
to_itself move = Source 0

abbrev NoMoves : Plan → TestMove → Option ℕ → Type 0
NoMoves plan move outcome = ⊥

abbrev query : Query
query = record { sources = source_a ∷ []; plan = Source 0 }

abbrev job : RunJob TestMove
job = record {
  query = query;
  commands = Feed 0 1 ∷ Drain ∷ [];
  moves = [];
  mode = Inline;
  form = Stream;
}

abbrev entries : List Entry
entries = found 0 10 5 ∷ Beat 0 ∷ Drained 0 0 ∷ found 5 15 6 ∷ Ended ∷ []

abbrev run : About TestMove
run = record { query = query; items = in_order file_a.list ∷ []; asks = Drains (Taken 0 10) ∷ [] }

steep-Source : (i : ℕ) → steep (Source i) ≡ 0
steep-Source i = search (rules, the_lemmas)

floor-0 : (n : ℕ) → n ≡ 0 → floors (max n 0 + 1) 0 (elem 0 10 5 ∷ elem 5 15 6 ∷ []) ≤ 0
floor-0 n none = rw none (omega arith)

follow : FollowFrom to_itself NoMoves run entries
unfolding Rattle.pipes_window.specs.Windows.each_row
follow = search (refl, arith, floor-0 (steep (Source 0)) (steep-Source 0)) parts 60

-- what is held of two elements with the tests b and c, and of two rows
held : (b c : Bool) (x y : List Value)
    → map (λ (e : Elem). e.tuple)
    (cond b (record { tuple = x; span = span_of 0 10 }
    ∷ cond c (record { tuple = y; span = span_of 5 15 } ∷ []) [])
    (cond c (record { tuple = y; span = span_of 5 15 } ∷ []) []))
    ≡ map (λ (r : Row). r.tuple)
    (cond b (record { stamp = 0; tuple = x } ∷ cond c (record { stamp = 5; tuple = y } ∷ []) [])
    (cond c (record { stamp = 5; tuple = y } ∷ []) []))
held true true x y = refl
held true false x y = refl
held false true x y = refl
held false false x y = refl

same : (t : ℕ) → t < horizon → SameBag (written_snapshot entries t) (answer query run.items t)
same t below = record {
  counts = λ tuple. ap (count tuple)
      (rows ∙ sym (alg-Source 0 (bags_at query.sources run.items t)));
}
  where
    rows : written_snapshot entries t ≡ in_window source_a.window (in_order file_a.list) t
    rows = held (nat_le 0 t && nat_lt t 10) (nat_le 5 t && nat_lt t 15) (Int (pos 5) ∷ [])
        (Int (pos 6) ∷ [])

small : (n : ℕ) → n < 100 → IsValue (Int (pos n))
small n h = search (refl, arith)

result : (start end n : ℕ) → start < end → end ≤ horizon → n < 100 → IsEntry (found start end n)
result start end n proper within few = (
  (proper, within),
  (
    omega arith,
    omega arith,
    All-cons IsValue (Int (pos n)) [] (small n few) (All-nil IsValue),
  ),
)

typed : All IsEntry entries
typed = All-from_recursion IsEntry entries (
  result 0 10 5 (omega arith) (omega arith) (omega arith),
  (
    omega arith,
    (
      (omega arith, omega arith),
      (result 5 15 6 (omega arith) (omega arith) (omega arith), (tt, tt)),
    ),
  ),
)

is_result : (start end n : ℕ) → start < end → end ≤ horizon → IsResultOf query (elem start end n)
is_result start end n proper within = (
  (proper, within),
  sym (ap (λ (o : Option (List Kind)). unwrap_or o []) (kinds-Source 0 (schemas_of query))),
)

ordered : Ordered query entries
ordered = record {
  rising = (omega arith, (omega arith, (omega arith, tt)));
  typed = All-from_recursion (IsResultOf query) (elem 0 10 5 ∷ elem 5 15 6 ∷ []) (
    is_result 0 10 5 (omega arith) (omega arith),
    (is_result 5 15 6 (omega arith) (omega arith), tt),
  );
}

second-beat : (a b : Entry) (m n : ℕ) (xs ys : List Entry)
    → b ∷ Beat m ∷ xs ≡ a ∷ Beat n ∷ ys → n ≡ m
second-beat a b m n xs ys is = cc (is)

final : Final query run.items entries
final = record {
  ordered = ordered;
  answers = λ before after h t is low below. absurd (none before after h t is low);
}
  where
    none : (before after : List Entry) (h t : ℕ) → entries ≡ before ++ Beat h ∷ after → t < h → ⊥
    none [] after h t is low = cc (is)
    none (a ∷ []) after h t is low =
        let first : h ≡ 0 =
        second-beat a (found 0 10 5) 0 h (Drained 0 0 ∷ found 5 15 6 ∷ Ended ∷ []) after is in
        omega (arith, first, low)
    none (a ∷ b ∷ []) after h t is low = cc (is)
    none (a ∷ b ∷ c ∷ []) after h t is low = cc (is)
    none (a ∷ b ∷ c ∷ d ∷ []) after h t is low = cc (is)
    none (a ∷ b ∷ c ∷ d ∷ e ∷ []) after h t is low = cc (is)
    none (a ∷ b ∷ c ∷ d ∷ e ∷ f ∷ before) after h t is low = cc (is)

abbrev NotAccepted : Entry → Type 0
NotAccepted (Accepted number split) = ⊥
NotAccepted e = Unit {0}

coalesced : Coalesced entries
coalesced number split has x y in_x in_y same_tuple end start =
    All-contains NotAccepted entries (Accepted number split)
    (All-from_recursion NotAccepted entries (tt, (tt, (tt, (tt, (tt, tt)))))) has

-- so the definitions can be met: this text is the whole course of the run
pub course : Course to_itself NoMoves job (file_a ∷ []) Whole (3 ∷ []) (lines entries)
unfolding Rattle.pipes_window.specs.Windows.each_row
course = record {
  takes = record {
    ends = All-cons (λ (a : Items). a.end ≡ reason.AtEnd) file_a [] refl
        (All-nil (λ (a : Items). a.end ≡ reason.AtEnd));
    taken_is = refl;
  };
  asks = run.asks;
  asked = refl;
  writes = record {
    entries = entries;
    bytes_are = refl;
    so_far = record { typed = typed; final = final; coalesced = coalesced; follow = follow };
    right = record { ordered = ordered; answers = same };
    ends = (found 0 10 5 ∷ Beat 0 ∷ Drained 0 0 ∷ found 5 15 6 ∷ [], refl);
  };
}
