-- The reader of a whole plan.
use Rattle.std.proofs.Common.{◌≡◌, ◌≤◌, ◌<◌, ◌+◌, ℕ, zero, suc, Option, Some, List, [], ◌∷◌, ◌++◌}
use Rattle.std.proofs.Common.{length, Result, Ok, Err, refl, sym, arith, ◌⊎◌, inl, inr}
use Rattle.std.proofs.lemmas.List.{append-nil}
use Rattle.pipes_token.specs.declared.refusal.Refusal.{Refusal}
use Rattle.pipes_token.specs.declared.token.TokenKind.{TokenKind}
use Rattle.pipes_token.specs.declared.token.Token.{Token}
use Rattle.pipes_plan.specs.declared.plan.Plan.{Plan}
use Rattle.pipes_plan.specs.Sizes.{plan_depth}
use Rattle.pipes_reader.specs.declared.fault.ParseFault.{ParseFault}
use Rattle.pipes_reader.specs.declared.fault.ParseFault.TheVariants.{Refused, Memory}
use Rattle.pipes_grammar.specs.Grammar.{IsPlan, source, filter, mapped, union, join, distinct}
use Rattle.pipes_grammar.specs.Grammar.{group, minus, HasSourceName}
use Rattle.pipes_grammar.specs.Limits.{IsPlanText}
use Rattle.pipes_reader.specs.Reading.{Reads, kinds_of, Fails, place_of, too_deep}
use Rattle.pipes_grammar.specs.Reading.{SentencePrefix}
use Rattle.pipes_grammar.specs.PlanReading.{plan_layer, plan_within, parse_plan}
use Rattle.pipes_reader.specs.Sentences.{Begins}
use Rattle.pipes_reader.specs.Places.{FirstPlace}
use Rattle.pipes_reader.proofs.Readers.{RefusedAt}
use Rattle.pipes_grammar.specs.Places.{RunsOut, IsExprPlace, there, inside, IsPlanPlace, in_expr}
use Rattle.pipes_grammar.specs.Places.{PlanRefused}
use Rattle.pipes_grammar.specs.Places as places
use Rattle.pipes_grammar.proofs.Readers.{Refuses, IsReader}
use Rattle.pipes_grammar.proofs.Readers as readers
use Rattle.pipes_grammar.proofs.Layers.{reads_as}
use Rattle.pipes_grammar.proofs.Wholes.{WholePlace, on_token, in_inner, in_whole, reads_no_level}
use Rattle.pipes_grammar.proofs.Wholes.{whole_first, first_by}
use Rattle.pipes_grammar.proofs.Depths as depths
use Rattle.pipes_grammar.proofs.PlanLevels.{PlanLevel, some_plan, reads_plan_level}

some_level : (names : List (List ℕ)) (p : Plan) (ks : List TokenKind) → IsPlan names p ks
    → 1 ≤ plan_depth p
some_level names _ _ (source word i is) = omega (arith, depths.plan_depth-Source i)
some_level names _ _ (filter c a cs ks is-c is-a) = omega (arith, depths.plan_depth-Filter c a)
some_level names _ _ (mapped es a cs ks is-es is-a) = omega (arith, depths.plan_depth-Map es a)
some_level names _ _ (union a b ks ls is-a is-b) = omega (arith, depths.plan_depth-Union a b)
some_level names _ _ (join k c a b ps cs ks ls is-k is-c is-a is-b) =
    omega (arith, depths.plan_depth-Join k c a b)
some_level names _ _ (distinct a ks is-a) = omega (arith, depths.plan_depth-Distinct a)
some_level names _ _ (group k g a cs gs ks is-k is-g is-a) =
    omega (arith, depths.plan_depth-Group k g a)
some_level names _ _ (minus a b ks ls is-a is-b) = omega (arith, depths.plan_depth-Minus a b)

no_level : (names : List (List ℕ)) (p : Plan) (ks : List TokenKind) → PlanLevel names 0 p ks → ⊥
no_level names p ks is = omega (arith, some_level names p ks is.spells, is.depth)

reads_levels : (names : List (List ℕ)) (whole n : ℕ)
    → IsReader (HasSourceName names) (Unit {0}) (Some whole) (IsPlan names) (PlanLevel names n)
    (plan_within names n whole)
unfolding plan_within
reads_levels names whole zero =
    reads_no_level (HasSourceName names) (Unit {0}) whole (IsPlan names) (PlanLevel names 0)
    (no_level names) (some_plan names)
reads_levels names whole (suc n) = reads_plan_level names (Some whole) n (plan_within names n whole)
    (reads_levels names whole n)

reads_whole : (names : List (List ℕ)) (whole : ℕ)
    → IsReader (HasSourceName names) (Unit {0}) (Some whole) (IsPlan names) (IsPlanText names)
    (plan_within names 32 whole)
reads_whole names whole =
    reads_as (HasSourceName names) (Unit {0}) (Some whole) (IsPlan names) (PlanLevel names 32)
    (IsPlan names) (IsPlanText names) (plan_within names 32 whole)
    (reads_levels names whole 32) (λ p ks is. is)
    (λ p ks is. record { spells = is.spells; depth = is.depth; exprs = is.exprs; lists = is.lists })
    (λ p ks is. record { spells = is.spells; depth = is.depth; exprs = is.exprs; lists = is.lists })
    (λ p ks is. is.spells)

-- ---- the laws

pub plan_found : (names : List (List ℕ)) (ts : List Token) (p : Plan) (rest : List Token)
    → parse_plan names ts ≡ Ok (p, rest) → SentencePrefix (IsPlanText names) p ts rest
unfolding parse_plan
plan_found names ts p rest h = (reads_whole names (place_of ts)).found ts p rest h

pub plan_only : (names : List (List ℕ)) (p : Plan) (prefix rest : List Token)
    → IsPlanText names p (kinds_of prefix) → parse_plan names (prefix ++ rest) ≡ Ok (p, rest)
unfolding parse_plan
plan_only names p prefix rest is = (reads_whole names (place_of (prefix ++ rest))).only p prefix
    rest
    is

pub plan_prefix : (names : List (List ℕ)) (p : Plan) (ts rest : List Token)
    → SentencePrefix (IsPlanText names) p ts rest → parse_plan names ts ≡ Ok (p, rest)
plan_prefix names p ts rest (prefix, is, parts) = rw parts (plan_only names p prefix rest is)

pub plan_place : (names : List (List ℕ)) (before : List Token) (t : Token) (r : Refusal)
    → WholePlace (Unit {0}) (IsPlan names) (IsPlanText names) before t r
    → IsPlanPlace names before t r
plan_place names before t r (on_token (readers.there h)) = in_expr before []
    (sym (append-nil before)) (there h)
plan_place names before t r (on_token (readers.inside h)) = in_expr before []
    (sym (append-nil before)) (inside h)
plan_place names before t r (in_inner q outside within parts d) =
    in_expr outside within parts (places.IsExprPlace.deep d)
plan_place names before t r (in_whole d) = places.IsPlanPlace.deep d

pub plan_at : (names : List (List ℕ)) → HasSourceName names → (ts : List Token) (r : Refusal)
    → parse_plan names ts ≡ Err r
    → RunsOut (IsPlan names) ts r
    ⊎ RefusedAt (IsPlan names) (WholePlace (Unit {0}) (IsPlan names) (IsPlanText names))
    (parse_plan names) ts r
unfolding parse_plan
plan_at names some ts r e =
    whole_first (HasSourceName names) (Unit {0}) (IsPlan names) (IsPlanText names)
    (λ whole. plan_within names 32 whole) (reads_whole names) some ts r e

pub plan_first : (names : List (List ℕ)) → HasSourceName names → (ts : List Token) (r : Refusal)
    → parse_plan names ts ≡ Err r
    → RunsOut (IsPlan names) ts r ⊎ FirstPlace (IsPlan names) (IsPlanText names) (IsPlanPlace names)
    (parse_plan names) ts r
unfolding parse_plan
plan_first names some ts r e =
    first_by (HasSourceName names) (Unit {0}) (IsPlan names) (IsPlanText names)
    (λ whole. plan_within names 32 whole) (reads_whole names)
    (WholePlace (Unit {0}) (IsPlan names) (IsPlanText names)) (IsPlanPlace names)
    (plan_place names) ts r (plan_at names some ts r e)

pub plan_refused : (names : List (List ℕ)) (fault : ParseFault) (ts : List Token)
    → Fails fault (parse_plan names ts) → HasSourceName names
    → PlanRefused names (parse_plan names) ts fault
plan_refused names (Refused r) ts e some = plan_first names some ts r e
plan_refused names Memory ts e some = tt
