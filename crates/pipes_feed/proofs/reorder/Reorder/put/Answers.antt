use Rattle.std.proofs.Common.{rules, ◌≡◌, ◌∙◌, ℕ, ◌≤◌, List, ◌++◌, ◌∷◌, length, take, drop, sym}
use Rattle.std.proofs.Common.{subst, ap}
use Rattle.std.specs.List.{insert}
use Rattle.pipes_time.proofs.Times.{rise-placed}
use Rattle.pipes_window.specs.declared.item.Item.{Item}
use Rattle.pipes_feed.specs.Items.{stamp_in, placed_item}
use Rattle.pipes_feed.specs.Waiting.{ArrivalsRise, up_to, past}
use Rattle.pipes_feed.proofs.reorder.Reorder.put.Goals as goal

inserted : (item : Item) (items : List Item) (place t : ℕ) → t ≡ stamp_in item
    → take place items ≡ up_to t items → drop place items ≡ past t items
    → insert items place item ≡ placed_item item items
inserted item items place t at low high =
    ap (λ (l : List Item). l ++ item ∷ drop place items) (low ∙ ap (λ (s : ℕ). up_to s items) at)
    ∙ ap (λ (l : List Item). up_to (stamp_in item) items ++ item ∷ l)
    (high ∙ ap (λ (s : ℕ). past s items) at)

pub invariant_of-self-2 : goal.invariant_of-self-2
invariant_of-self-2 c =
    let within : c.count_up_to-place.result ≤ length c.self.inside.waiting.items = search rules in
    subst (λ (is : List Item). ArrivalsRise is) (sym c.in_ok-insert.ensures.items)
    (rise-placed stamp_in c.args.item c.self.inside.waiting.items c.count_up_to-place.result
    c.self.invariant within (search rules) (search rules))

pub returns-clause-put : goal.returns-clause-put
returns-clause-put c =
    let was : c.self.inside.waiting.items ≡ c.args.self.now = search rules in
    c.in_ok-insert.ensures.items
    ∙ inserted c.args.item c.self.inside.waiting.items c.count_up_to-place.result _
    c.stamp_in.ensures c.count_up_to-place.ensures.first c.count_up_to-place.ensures.rest
    ∙ ap (λ (l : List Item). placed_item c.args.item l) was
