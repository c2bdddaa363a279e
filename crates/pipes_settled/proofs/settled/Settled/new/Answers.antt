use Rattle.std.proofs.Common.{◌≡◌, ℕ, [], Option, Some, None, refl, sym, ◌∙◌, ap, arith}
use Rattle.std.proofs.lemmas.List.Elements.{All-nil}
use Rattle.pipes_output.proofs.Elements.{IsElem}
use Rattle.pipes_settled.specs.Standing.{at_cmp, begins_of, ends_of, number}
use Rattle.pipes_settled.proofs.Moving.{settled-none}
use Rattle.pipes_settled.proofs.Tables.{exact-at, get-empty}
use Rattle.pipes_settled.proofs.Certain.{certain-laws}
use Rattle.pipes_settled.proofs.Calls.{call-laws}
use Rattle.pipes_settled.proofs.settled.Settled.new.Goals as goal

none-some : (n : ℕ) → ◌≡◌ {A = Option ℕ} None (Some n) → ⊥
none-some n e = absurd (cc)

pub returns-clause-stands : goal.returns-clause-stands
returns-clause-stands c =
    let e = c.new-2.ensures in
    let none = c.new.ensures.empty in
    record {
      given = [];
      lines = refl;
      intervals = All-nil IsElem;
      pending = record {
        begins = λ t v h. ap begins_of
            (get-empty at_cmp exact-at c.new.result c.new.result (t, v) none);
        ends = λ t v h. ap ends_of
            (get-empty at_cmp exact-at c.new.result c.new.result (t, v) none);
        past = λ t v h. absurd (omega arith);
      };
      pieces = settled-none (number []) _ _ _ e.levels e.opens e.closed;
      waits = λ a b n v h. absurd (none-some n (sym (e.closed a b v) ∙ h));
      works = refl;
    }

pub returns-clause-certain : goal.returns-clause-certain
returns-clause-certain c = certain-laws

pub returns-clause-calls : goal.returns-clause-calls
returns-clause-calls c = call-laws
