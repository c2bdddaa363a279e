use Rattle.std.proofs.Common.{Option, sym, ap, ◌++◌, ◌∙◌, append-nil}
use Rattle.std.specs.Option.{option_to_list}
use Rattle.pipes_window.specs.declared.row.Row.{Row}
use Rattle.pipes_window.proofs.Passing.{pass_time, pass_slide, pass_none, pass_some}
use Rattle.pipes_window.proofs.window.pass.Goals as goal

pub returns-in-Time-clause-sent : goal.returns-in-Time-clause-sent
returns-in-Time-clause-sent c =
    rw (pass_time c.args.kind c.in-Time.size c.args.rows.now.items c.args.row c.time_span.result
    c.in-Time.is c.requires.limits c.requires.few c.requires.below c.time_span.ensures.exact
    c.time_span.ensures.value) c.send.ensures.sent

pub returns-in-Slide-clause-sent : goal.returns-in-Slide-clause-sent
returns-in-Slide-clause-sent c =
    rw (pass_slide c.args.kind c.in-Slide.size c.in-Slide.slide c.args.rows.now.items c.args.row
    c.slide_span.result c.in-Slide.is c.requires.limits c.requires.few c.requires.below
    c.slide_span.ensures.exact c.slide_span.ensures.value) c.send-in-Slide.ensures.sent

pub returns-in-Some-clause-sent : goal.returns-in-Some-clause-sent
returns-in-Some-clause-sent c =
    let all = ap (λ (o : Option Row). option_to_list o ++ c.slide.new.held.items) (sym c.in-Some.is)
    ∙ c.in_ok-oldest-in-Count.ensures.all in
    rw (pass_some c.args.kind c.in-Count.most c.args.rows.now.items c.slide.new.held.items
    c.args.row c.in-Some.oldest c.new.result c.in-Count.is c.requires.limits c.requires.few
    c.requires.below all
    c.in_ok-oldest-in-Count.ensures.last c.new.ensures.exact c.new.ensures.value)
    c.send-in-Some.ensures.sent

pub returns-in-None-clause-sent : goal.returns-in-None-clause-sent
returns-in-None-clause-sent c =
    let all = ap (λ (o : Option Row). option_to_list o ++ c.slide.new.held.items) (sym c.in-None.is)
    ∙ c.in_ok-oldest-in-Count.ensures.all in
    rw (pass_none c.args.kind c.in-Count.most c.args.rows.now.items c.slide.new.held.items
    c.args.row c.in-Count.is c.requires.limits all c.in_ok-oldest-in-Count.ensures.few)
    (sym (append-nil c.args.out.now.items))
