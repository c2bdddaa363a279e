use Rattle.std.proofs.Common.{◌≡◌, ◌≤◌, length, sym, ap, ◌∙◌, arith, Some}
use Rattle.std.specs.Option.{option_map}
use Rattle.pipes_rewrite.specs.Changes.{exprs_changed}
use Rattle.pipes_rewrite.proofs.ChangedLists.{changed_length}
use Rattle.pipes_rewrite.proofs.change.change_exprs.Goals as goal

pub unwrap-requires : goal.unwrap-requires
unwrap-requires c =
    let is = ap (option_map (λ v. v.items)) (sym c.in-Some.is) ∙ c.in_ok-list.ensures
    ∙ ap (exprs_changed _) c.as_slice.ensures.value in
    let same = changed_length _ c.args.exprs.now c.in-Some.list.items (sym is) in
    c.new.ensures.exact.1 (omega (arith, same, c.as_slice.ensures.bound))
