-- What a map stands for, and that it is lawful.
use Rattle.std.proofs.Common.{◌≡◌, ℕ, ◌<◌, Bool, false, List, [], ◌∷◌, ◌++◌, map, refl, sym, ◌∙◌}
use Rattle.std.proofs.Common.{ap, subst, Option, Some, filter_map, unwrap_or}
use Rattle.pipes_tuple.specs.declared.value.Kind.{Kind}
use Rattle.pipes_tuple.specs.Kinds.{Fits, kind_of}
use Rattle.pipes_stream.specs.declared.message.Message.{Message}
use Rattle.pipes_stream.specs.Lists.{CanFollow, after, beat, start_of_list}
use Rattle.pipes_stream.specs.Lawful.{Lists, Lawful, Takes, no_messages, with_message}
use Rattle.pipes_expr.specs.declared.expr.Expr.{Expr}
use Rattle.pipes_expr.specs.ExprValue.{Row}
use Rattle.pipes_expr.specs.ExprKind.{expr_kind, kind_in}
use Rattle.pipes_relation.specs.Relations.{values_of}
use Rattle.pipes_plan.specs.PlanKinds.{all_kinds, map_kinds}
use Rattle.pipes_expr.proofs.ExprTyped.{value_kind}
use Rattle.pipes_plan.proofs.PlanTyped.{all_kinds-cons, map_is}
use Rattle.pipes_flat.specs.declared.map.Map.{Map}
use Rattle.pipes_flat.specs.Tasks.{map_task}
use Rattle.pipes_flat.specs.Typed.{ExprsOver}
use Rattle.pipes_flat.specs.Each.{changed, sent_for, StandsForEach}
use Rattle.pipes_flat.specs.EachLaw.{each-lawful, each_new, each_takes, each_beat}

-- The elements sent are those taken, each with its row changed, in order.
pub record MapStands (m : Map) (taken : Lists) (sent : List Message) : Type 0 where
  -- the kinds of the rows sent
  pub kinds : List Kind
  pub kinds_are : map_kinds m.projection.exprs m.projection.schema ≡ Some kinds
  pub each : StandsForEach (changed m.projection.exprs) m.projection.schema m.failed m.watch taken
      sent

map-changed : (exprs : List Expr) (rows : List Row) → map (values_of exprs) rows ≡ filter_map
    (changed exprs) rows
map-changed exprs [] = refl
map-changed exprs (row ∷ rows) = ap (λ (rest : List Row). values_of exprs row ∷ rest)
    (map-changed exprs rows)

-- the values of typed expressions have their kinds
fits-cons : (e : Expr) (es : List Expr) (row : Row) (s t ks : List Kind) (k : Kind) → Fits row s
    → expr_kind e s ≡ Some k → Fits (values_of es row) ks → k ∷ ks ≡ t
    → Fits (values_of (e ∷ es) row) t
fits-cons e es row s t ks k f is rest all = ap (λ (x : Kind). x ∷ map kind_of (values_of es row))
    (value_kind row s f e k is) ∙ (ap (λ (xs : List Kind). k ∷ xs) rest ∙ all)

values-fit : (exprs : List Expr) (row : Row) (s t : List Kind) → Fits row s
    → all_kinds (map (kind_in s) exprs) ≡ Some t → Fits (values_of exprs row) t
values-fit [] row s t f h = ap (λ (o : Option (List Kind)). unwrap_or o []) h
values-fit (e ∷ es) row s t f h =
    let a = all_kinds-cons (expr_kind e s) (map (kind_in s) es) t h in
    fits-cons e es row s t a.1 a.0 f a.2 (values-fit es row s a.1 f a.3) a.4

some-is : (x y : Row) → ◌≡◌ {A = Option Row} (Some x) (Some y) → y ≡ x
some-is x y h = cc

pub map_lawful : (m : Map) (taken : Lists) (sent : List Message) → MapStands m taken sent
    → Lawful (map_task m.projection.exprs m.projection.schema) taken sent 0
map_lawful m taken sent s =
    let es : List Expr = m.projection.exprs in
    let schema : List Kind = m.projection.schema in
    let gives : unwrap_or (map_kinds es schema) [] ≡ s.kinds =
    ap (λ (o : Option (List Kind)). unwrap_or o []) s.kinds_are in
    each-lawful (changed es) (map_task es schema) m.failed m.watch taken sent refl
    (λ bags. map-changed es (bags 0))
    (λ row other is fits. ap (map kind_of) (some-is (values_of es row) other is)
    ∙ (values-fit es row schema s.kinds fits (map_is es schema s.kinds s.kinds_are).0
    ∙ sym gives)) s.each

pub map_new : (m : Map) (exprs : List Expr) (schema kinds : List Kind)
    → map_kinds exprs schema ≡ Some kinds → m.projection ≡ record { exprs = exprs; schema = schema }
    → m.watch ≡ start_of_list → m.failed ≡ false → MapStands m no_messages []
map_new m exprs schema kinds typed is watch going =
    record {
      kinds = kinds;
      kinds_are = subst (λ (p : ExprsOver). map_kinds p.exprs p.schema ≡ Some kinds) (sym is) typed;
      each = subst (λ (b : Bool). StandsForEach (changed m.projection.exprs) m.projection.schema b
          m.watch no_messages []) (sym going) (each_new (changed m.projection.exprs)
          m.projection.schema m.watch watch);
    }

pub map_takes : (old new : Map) (port : ℕ) (m : Message) (before now : List Message)
    → new.projection ≡ old.projection → port < 1 → new.failed ≡ false
    → (CanFollow old.watch m → new.watch ≡ after old.watch m)
    → now ≡ before ++ sent_for (changed old.projection.exprs) m ∷ []
    → Takes (map_task old.projection.exprs old.projection.schema) (MapStands old)
    (MapStands new) port m before now
map_takes old new port m before now same small going moves posts =
    let t = each_takes (changed old.projection.exprs) (map_task old.projection.exprs
    old.projection.schema) old.failed new.failed old.watch new.watch port m before now small
    going moves posts in
    record {
      sent = t.sent;
      appended = t.appended;
      stands = λ taken earlier s can.
          record {
            kinds = s.kinds;
            kinds_are = subst (λ (p : ExprsOver). map_kinds p.exprs p.schema ≡ Some s.kinds)
                (sym same) s.kinds_are;
            each = subst (λ (p : ExprsOver). StandsForEach (changed p.exprs) p.schema new.failed
                new.watch (with_message taken port m) (earlier ++ t.sent)) (sym same)
                (t.stands taken earlier s.each can);
          };
    }

pub map_beat : (m : Map) (taken : Lists) (sent : List Message) → MapStands m taken sent
    → m.watch.beat ≡ beat sent
map_beat m taken sent s = each_beat (changed m.projection.exprs) m.projection.schema m.failed
    m.watch taken sent s.each
