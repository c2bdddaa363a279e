-- What a filter stands for, and that it is lawful.
use Rattle.std.proofs.Common.{◌≡◌, ℕ, ◌<◌, Bool, true, false, cond, List, [], ◌∷◌, ◌++◌, refl, sym}
use Rattle.std.proofs.Common.{◌∙◌, ap, subst, Some, None, filter_map}
use Rattle.std.specs.List.{filter, cons_option}
use Rattle.pipes_tuple.specs.Kinds.{Fits}
use Rattle.pipes_stream.specs.declared.message.Message.{Message}
use Rattle.pipes_stream.specs.Lists.{CanFollow, after, beat}
use Rattle.pipes_stream.specs.Lawful.{Lists, Lawful, Takes, with_message}
use Rattle.pipes_expr.specs.declared.expr.Expr.{Expr}
use Rattle.pipes_expr.specs.ExprValue.{Row, passes}
use Rattle.pipes_flat.specs.declared.filter.Filter.{Filter}
use Rattle.pipes_flat.specs.Tasks.{filter_task}
use Rattle.pipes_flat.specs.Typed.{ConditionOver}
use Rattle.pipes_flat.specs.Each.{kept, sent_for, StandsForEach}
use Rattle.pipes_flat.specs.EachLaw.{each-lawful, each_takes, each_beat}

-- The elements sent are those taken whose tuple passes, in order.
abbrev pub FilterStands : Filter → Lists → List Message → Type 0
FilterStands f = StandsForEach (kept f.condition.expr) f.condition.schema f.failed f.watch

kept-cons : (b : Bool) (row : Row) (rows : List Row) → cond b (row ∷ rows) rows ≡ cons_option
    (cond b (Some row) None) rows
kept-cons true row rows = refl
kept-cons false row rows = refl

-- the rows that are kept
filter-kept : (condition : Expr) (rows : List Row) → filter (passes condition) rows ≡ filter_map
    (kept condition) rows
filter-kept condition [] = refl
filter-kept condition (row ∷ rows) =
    ap (λ (rest : List Row). cond (passes condition row) (row ∷ rest) rest)
    (filter-kept condition rows) ∙ kept-cons (passes condition row) row
    (filter_map (kept condition) rows)

kept-is : (b : Bool) (row changed : Row) → cond b (Some row) None ≡ Some changed → row ≡ changed
kept-is true row changed h = cc
kept-is false row changed h = cc

pub filter_lawful : (f : Filter) (taken : Lists) (sent : List Message) → FilterStands f taken sent
    → Lawful (filter_task f.condition.expr f.condition.schema) taken sent 0
filter_lawful f taken sent s =
    each-lawful (kept f.condition.expr) (filter_task f.condition.expr f.condition.schema) f.failed
    f.watch taken sent refl (λ bags. filter-kept f.condition.expr (bags 0))
    (λ row changed is fits. subst (λ (r : Row). Fits r f.condition.schema)
    (kept-is (passes f.condition.expr row) row changed is) fits) s

pub filter_takes : (old new : Filter) (port : ℕ) (m : Message) (before now : List Message)
    → new.condition ≡ old.condition → port < 1 → new.failed ≡ false
    → (CanFollow old.watch m → new.watch ≡ after old.watch m)
    → now ≡ before ++ sent_for (kept old.condition.expr) m ∷ []
    → Takes (filter_task old.condition.expr old.condition.schema) (FilterStands old)
    (FilterStands new) port m before now
filter_takes old new port m before now same small going moves posts =
    let t = each_takes (kept old.condition.expr) (filter_task old.condition.expr
    old.condition.schema) old.failed new.failed old.watch new.watch port m before now small
    going moves posts in
    record {
      sent = t.sent;
      appended = t.appended;
      stands = λ taken earlier s can.
          subst (λ (c : ConditionOver). StandsForEach (kept c.expr) c.schema new.failed new.watch
          (with_message taken port m) (earlier ++ t.sent)) (sym same)
          (t.stands taken earlier s can);
    }

pub filter_beat : (f : Filter) (taken : Lists) (sent : List Message) → FilterStands f taken sent
    → f.watch.beat ≡ beat sent
filter_beat f taken sent s = each_beat (kept f.condition.expr) f.condition.schema f.failed f.watch
    taken sent s
