use Rattle.std.proofs.Common.{◌≡◌, Option, Some, None, refl, sym, subst, arith}
use Rattle.std.specs.Prelude.{nat_lt}
use Rattle.std.specs.BTreeMap.{get}
use Rattle.std.specs.HashMap as hash
use Rattle.std.proofs.lemmas.Bool.{cond-true, cond-false, lt-ltb, le-ltb}
use Rattle.pipes_tuple.specs.Equal.{tuple_eq}
use Rattle.pipes_settled.specs.declared.pieces.Level.{Level}
use Rattle.pipes_settled.specs.Standing.{at_cmp}
use Rattle.pipes_settled.specs.Moves.{IsPut}
use Rattle.pipes_settled.proofs.Moving.{Tuple}
use Rattle.pipes_settled.proofs.Tables.{exact-at, put-from, put-hashed}
use Rattle.pipes_settled.proofs.pieces.Pieces.begin_piece.Goals as goal

pub returns-then-now-eq0-clause-begins : goal.returns-then-now-eq0-clause-begins
returns-then-now-eq0-clause-begins c =
    let z : c.args.now ≡ 0 = c.if-now-eq0.true in
    let put = put-hashed c.args.self.now.levels c.remove.new.self c.args.tuple None
    c.remove.ensures.updates in
    record {
      levels = subst (λ (o : Option Level). IsPut (hash.get tuple_eq c.args.self.now.levels)
          (hash.get tuple_eq c.remove.new.self) c.args.tuple o)
          (sym (cond-false (nat_lt 0 c.args.now) _ _ (le-ltb 0 c.args.now (omega arith)))) put;
      opens = λ h. absurd (omega arith);
      stays = λ h q. refl;
    }

pub returns-clause-begins : goal.returns-clause-begins
returns-clause-begins c =
    let some = c.if-now-eq0.false in
    let copy : c.in_ok-copy.field-0 ≡ c.args.tuple = c.in_ok-copy.ensures in
    let put = put-hashed c.args.self.now.levels c.insert-2.new.self c.args.tuple _
    c.in_ok-insert-2.ensures.updates in
    let opened = put-from at_cmp exact-at c.args.self.now.opens c.insert.new.self
    (c.args.at, c.in_ok-copy.field-0) _ c.in_ok-insert.ensures.updates in
    record {
      levels = subst (λ (o : Option Level). IsPut (hash.get tuple_eq c.args.self.now.levels)
          (hash.get tuple_eq c.insert-2.new.self) c.args.tuple o)
          (sym (cond-true (nat_lt 0 c.args.now) _ _ (lt-ltb 0 c.args.now (omega (arith, some)))))
          put;
      opens = λ h. subst (λ (v : Tuple). IsPut (get at_cmp c.args.self.now.opens)
          (get at_cmp c.insert.new.self) (c.args.at, v) (Some c.args.now)) copy opened;
      stays = λ h. absurd (omega (arith, some));
    }
