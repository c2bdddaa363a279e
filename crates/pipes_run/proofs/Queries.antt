-- The query of a whole file, and of what was read of it.
use Rattle.std.proofs.Common.{◌≡◌, ◌⊎◌, ℕ, ◌<◌, List, [], length, Option, Some, None, Result, Ok}
use Rattle.std.proofs.Common.{Err, IfOk, IfErr, refl, sym, ◌∙◌, ap, subst, arith, inl, inr}
use Rattle.pipes_buffer.specs.Pieces.{ReadsUpTo}
use Rattle.pipes_token.specs.declared.refusal.TextRefusal.{TextRefusal}
use Rattle.pipes_plan.specs.declared.fault.TypeRefusal.{TypeRefusal}
use Rattle.pipes_expr.specs.ExprWhys.{first_of}
use Rattle.pipes_plan.specs.Refusals.{Checks, refusals}
use Rattle.pipes_query.specs.declared.query.Query.{Query}
use Rattle.pipes_text.specs.Texts.{IsFileOfQuery}
use Rattle.pipes_reader.specs.Texts.{too_long, tokens}
use Rattle.pipes_text.specs.Texts.{IsRefusedQuery}
use Rattle.pipes_semantics.specs.Answer.{schemas_of}
use Rattle.pipes_error.specs.Fault.{Fault, Words, QueryText, QueryType, DerivationText, Unbuilt}
use Rattle.pipes_error.specs.Fault.{Missing, ReadFile}
use Rattle.pipes_error.specs.Fault.{ReadSource, Row, Limit, Write, Memory, fault_seen}
use Rattle.pipes_run.specs.declared.query.CheckedQuery.{CheckedQuery}
use Rattle.pipes_error.specs.declared.Fault.{Fault as Kept}
use Rattle.pipes_run.specs.Asked.{IsQueryFile, IsQueryText}
use Rattle.pipes_run.specs.Seen.{ReadsFile, GivesQuery, GivesNoOther, IsFree, IsTypeRefusal}

file_whole : (whole bytes : List ℕ) (q : Query) → ReadsUpTo 1048576 whole bytes
    → IsFileOfQuery q bytes → IsFileOfQuery q whole
file_whole whole bytes q (inl same) h = subst (λ (l : List ℕ). IsFileOfQuery q l) same h
file_whole whole bytes q (inr longer) h = let short = h.short in absurd
    (omega (arith, longer.0, short))

whole_file : (whole bytes : List ℕ) (q : Query) → ReadsUpTo 1048576 whole bytes
    → IsFileOfQuery q whole → IsFileOfQuery q bytes
whole_file whole bytes q (inl same) h = subst (λ (l : List ℕ). IsFileOfQuery q l) (sym same) h
whole_file whole bytes q (inr longer) h = let short = h.short in absurd
    (omega (arith, longer.1, short))

refused_longer : (whole bytes : List ℕ) (r : TextRefusal) → 1048576 < length bytes
    → 1048576 < length whole → IsRefusedQuery bytes r → IsRefusedQuery whole r
refused_longer whole bytes r more longer (too_long h) = too_long longer
refused_longer whole bytes r more longer (tokens ts refusal short h k) =
    absurd (omega (arith, more, short))

refused_whole : (whole bytes : List ℕ) (r : TextRefusal) → ReadsUpTo 1048576 whole bytes
    → IsRefusedQuery bytes r → IsRefusedQuery whole r
refused_whole whole bytes r (inl same) h = subst (λ (l : List ℕ). IsRefusedQuery l r) same h
refused_whole whole bytes r (inr longer) h = refused_longer whole bytes r longer.0 longer.1 h

-- what the bytes that were read of a file write is what the file writes
writes_whole : (whole bytes : List ℕ) (query : Result Query Fault) → ReadsUpTo 1048576 whole bytes
    → IsQueryText bytes query → IsQueryText whole query
writes_whole whole bytes (Ok query) reads h = (file_whole whole bytes query reads h.0, h.1)
writes_whole whole bytes (Err (QueryText refusal)) reads h =
    refused_whole whole bytes refusal reads h
writes_whole whole bytes (Err (QueryType refusal)) reads h =
    (h.0, file_whole whole bytes h.0 reads h.1, h.2)
writes_whole whole bytes (Err Words) reads h = absurd h
writes_whole whole bytes (Err (DerivationText file r)) reads h = absurd h
writes_whole whole bytes (Err Unbuilt) reads h = absurd h
writes_whole whole bytes (Err (Missing name)) reads h = absurd h
writes_whole whole bytes (Err (ReadFile name)) reads h = absurd h
writes_whole whole bytes (Err (ReadSource name)) reads h = absurd h
writes_whole whole bytes (Err (Row source line why)) reads h = absurd h
writes_whole whole bytes (Err (Limit source line)) reads h = absurd h
writes_whole whole bytes (Err Write) reads h = absurd h
writes_whole whole bytes (Err Memory) reads h = absurd h

pub gives_file : (name : List ℕ) (file : Option (List ℕ)) (bytes : List ℕ)
    (result : Result CheckedQuery Kept) → ReadsFile 1048576 file bytes
    → GivesQuery [] (Some bytes) result → GivesQuery name file result
gives_file name file bytes result reads gives =
    subst (λ (f : Option (List ℕ)). GivesQuery name f result) (sym reads.1) (go result gives)
  where
    go : (r : Result CheckedQuery Kept) → GivesQuery [] (Some bytes) r
        → GivesQuery name (Some reads.0) r
    go (Ok checked) h = writes_whole reads.0 bytes (Ok checked.query) reads.2 h
    go (Err fault) (inl h) = inl (writes_whole reads.0 bytes (Err (fault_seen fault)) reads.2 h)
    go (Err fault) (inr free) = inr free

-- a plan that checks has no first refusal
pub checks_not : (q p : Query) (refusal : TypeRefusal) → q ≡ p → Checks (schemas_of p) p.plan
    → first_of (refusals (schemas_of q) q.plan) ≡ Some refusal → ⊥
checks_not q p refusal same checks first =
    let h : first_of (refusals (schemas_of p) p.plan) ≡ Some refusal =
    subst (λ (x : Query). first_of (refusals (schemas_of x) x.plan) ≡ Some refusal) same
    first in
    let n : None ≡ Some refusal = sym (ap first_of checks.unrefused) ∙ h in
    cc

checked_fault : (bytes : List ℕ) (query : Query) (fault : Fault) → IsFileOfQuery query bytes
    → IsTypeRefusal query fault → IsQueryText bytes (Err fault) ⊎ IsFree fault
checked_fault bytes query (QueryType refusal) file h = inl (query, file, h)
checked_fault bytes query Memory file h = inr tt
checked_fault bytes query Words file h = absurd h
checked_fault bytes query (QueryText r) file h = absurd h
checked_fault bytes query (DerivationText name r) file h = absurd h
checked_fault bytes query Unbuilt file h = absurd h
checked_fault bytes query (Missing name) file h = absurd h
checked_fault bytes query (ReadFile name) file h = absurd h
checked_fault bytes query (ReadSource name) file h = absurd h
checked_fault bytes query (Row source line why) file h = absurd h
checked_fault bytes query (Limit source line) file h = absurd h
checked_fault bytes query Write file h = absurd h

-- the query of a text, or why it doesn't check
pub gives_checked : (bytes : List ℕ) (query : Query) (result : Result CheckedQuery Kept)
    → IsFileOfQuery query bytes
    → IfOk result (λ checked. checked.query ≡ query) → IfOk result
    (λ checked. Checks (schemas_of query) query.plan) → IfErr result
    (λ e. IsTypeRefusal query (fault_seen e)) → GivesQuery [] (Some bytes) result
gives_checked bytes query (Ok checked) file same checks refused = (
  subst (λ (q : Query). IsFileOfQuery q bytes) (sym same) file,
  subst (λ (q : Query). Checks (schemas_of q) q.plan) (sym same) checks,
)
gives_checked bytes query (Err fault) file same checks refused =
    checked_fault bytes query (fault_seen fault) file refused

free_refusal : (query : Query) (fault : Fault) → Checks (schemas_of query) query.plan
    → IsTypeRefusal query fault → IsFree fault
free_refusal query (QueryType refusal) checks h =
    absurd (checks_not query query refusal refl checks h)
free_refusal query Memory checks h = tt
free_refusal query Words checks h = absurd h
free_refusal query (QueryText r) checks h = absurd h
free_refusal query (DerivationText file r) checks h = absurd h
free_refusal query Unbuilt checks h = absurd h
free_refusal query (Missing name) checks h = absurd h
free_refusal query (ReadFile name) checks h = absurd h
free_refusal query (ReadSource name) checks h = absurd h
free_refusal query (Row source line why) checks h = absurd h
free_refusal query (Limit source line) checks h = absurd h
free_refusal query Write checks h = absurd h

-- and no other, where the text writes it and it checks
pub no_other : (query other : Query) (result : Result CheckedQuery Kept) → query ≡ other
    → Checks (schemas_of other) other.plan
    → IfOk result (λ checked. checked.query ≡ query) → IfErr result
    (λ e. IsTypeRefusal query (fault_seen e)) → GivesNoOther other result
no_other query other (Ok checked) is checks same refused = same ∙ is
no_other query other (Err fault) is checks same refused = free_refusal query (fault_seen fault)
    (subst (λ (q : Query). Checks (schemas_of q) q.plan) (sym is) checks) refused
