use Rattle.std.proofs.Common.{◌≡◌, ◌+◌, ◌-◌, suc, [], ◌∷◌, map, reverse, replicate, rules, arith}
use Rattle.std.proofs.Common.{ap, ◌∙◌, sym, subst}
use Rattle.std.proofs.lemmas.List.{reverse-append}
use Rattle.pipes_split.specs.Views.{seat_view, blank, first_view}
use Rattle.pipes_split.specs.Seats.{AreSeatsOf}
use Rattle.pipes_split.proofs.Keeping.{begins, splits-blank}
use Rattle.pipes_split.proofs.book.SplitBook.new.Goals as goal

pub of_words-requires : goal.of_words-requires
of_words-requires c = begins

pub split_seat-requires : goal.split_seat-requires
split_seat-requires c = (search rules, search rules, splits-blank _ _)

pub loop-preserved : goal.loop-preserved
loop-preserved c =
    let i = c.loop.invariant in
    let s = c.split_seat.result in
    let e = c.split_seat.ensures in
    let items : reverse c.push.new.self.items ≡ s ∷ reverse c.loop.list.items =
    ap reverse c.in_ok-push.ensures.items ∙ reverse-append c.loop.list.items (s ∷ []) in
    let seen : seat_view s ≡ blank = ap (λ m. m.0) e.4 in
    let more : suc (c.loop.counter - 1) ≡ c.loop.counter + 1 - 1 = omega arith in
    record {
      first = (search rules, search rules);
      closes = search rules;
      each = subst (AreSeatsOf c.in_ok-book.book.value) (sym items)
          ((search rules, ap (λ m. m.1) e.4), search rules);
      views = ap (map seat_view) items ∙ (λ k. seen k ∷ i.views k)
          ∙ ap (λ m. replicate m blank) more;
    }

pub returns-clause-views : goal.returns-clause-views
returns-clause-views c =
    let i = c.loop.invariant in
    let items = ap reverse c.in_ok-push-2.ensures.items
    ∙ reverse-append c.loop.list.items (c.loop.first ∷ []) in
    let done : c.loop.counter ≡ c.args.seats = search rules in
    ap (map seat_view) items ∙ (λ k. i.closes k ∷ i.views k)
    ∙ ap (λ n. first_view ∷ replicate (n - 1) blank) done
