use Rattle.std.proofs.Common.{ℕ, ◌∷◌, List, ap, sym, subst, ◌∙◌, inl, inr, arith, string_bytes}
use Rattle.std.proofs.Common.{length}
use Rattle.pipes_token.specs.Strings.{IsInside}
use Rattle.pipes_token.specs.Tokens.{Stops}
use Rattle.pipes_token.specs.declared.token.TokenKind.{TokenKind}
use Rattle.pipes_token.proofs.Words.{string_begins, string_breaks}
use Rattle.pipes_token.proofs.read.string.Goals as goal

pub returns-then-byte-eq34 : goal.returns-then-byte-eq34
returns-then-byte-eq34 c =
    let inside = subst (λ (x : List ℕ). IsInside c.args.later.now x c.in_ok-content.left.now)
    (sym c.as_str.ensures.value) c.in_ok-content.ensures.inside in
    inl (string_begins c.in_ok-string_kind-in-Some.field-0 c.as_str.result.now c.args.later.now
    c.args.here.now c.in_ok-content.left.now c.in-Some.rest.now c.requires.quote inside
    (c.in-Some.ensures.parts ∙ ap (λ (b : ℕ). b ∷ c.in-Some.rest.now) c.if-byte-eq34.true)
    c.in_ok-string_kind-in-Some.ensures)

pub returns-in-Some : goal.returns-in-Some
returns-in-Some c =
    inr (subst (λ (kind : TokenKind). Stops c.args.total c.args.here.now kind) (sym c.cut.ensures)
    (string_breaks c.args.total _ c.in-Some.byte (string_bytes c.in_ok-content.content)
    c.args.later.now c.args.here.now c.in_ok-content.left.now c.in-Some.rest.now
    c.requires.quote c.in_ok-content.ensures.inside c.in-Some.ensures.parts c.if-byte-eq34.false
    (omega (
      arith,
      c.in_ok-content.ensures.bound,
      ap (λ (x : List ℕ). length x)
          c.requires.quote,
    ))))
