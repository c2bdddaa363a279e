use Rattle.std.proofs.Common.{rules, sym, ap, subst}
use Rattle.atomic_table.specs.Table.{Joins}
use Rattle.pipes_split.specs.declared.views.View.{View}
use Rattle.pipes_split.specs.Views.{joined, blank}
use Rattle.pipes_split.specs.Rule.{SplitRule}
use Rattle.pipes_split.proofs.Keeping.{splits-note, joins-note, reads}
use Rattle.pipes_split.proofs.book.SplitBook.agree.Goals as goal

pub split_seat-note-requires : goal.split_seat-note-requires
split_seat-note-requires c = (search rules, search rules, splits-note _ _)

pub join_seat-requires : goal.join_seat-requires
join_seat-requires c =
    let to = c.args.to.now in
    let is = ap (λ m. m.0) c.split_seat-note.ensures.4 in (
      search rules,
      search rules,
      search rules,
      search rules,
      subst (λ (u : View). Joins SplitRule to.id to.me.0 c.split_seat-note.result.id u
          (joined to.me.0 u) blank)
          (sym is) (joins-note _ _ _ c.args.from.now.me.0),
    )

pub load-requires : goal.load-requires
load-requires c = (search rules, search rules, reads _ _ _)
