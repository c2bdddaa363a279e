use Rattle.std.proofs.Common.{sym, ◌∙◌, length, arith}
use Rattle.pipes_token.proofs.Following.{follows_shorter, whole_more, whole_last}
use Rattle.pipes_token.proofs.OnlyTokens.{same_tokens}
use Rattle.pipes_token.proofs.lex.tokens.Goals as goal

pub returns-then-last-clause-tokens : goal.returns-then-last-clause-tokens
returns-then-last-clause-tokens c =
    whole_last (length c.args.bytes.now) c.args.bytes.now c.tokens.rest.now c.in-Ok.later.now
    c.tokens.made.items c.push.new.self.items c.in-Ok.token c.in_ok-push-in-Ok.ensures.items
    c.in-Ok.ensures (sym c.is_last-last.ensures ∙ c.if-last.true) c.tokens.invariant.whole

pub returns-then-last-clause-only : goal.returns-then-last-clause-only
returns-then-last-clause-only c others k =
    let made = whole_last (length c.args.bytes.now) c.args.bytes.now c.tokens.rest.now
    c.in-Ok.later.now c.tokens.made.items c.push.new.self.items c.in-Ok.token
    c.in_ok-push-in-Ok.ensures.items c.in-Ok.ensures (sym c.is_last-last.ensures
    ∙ c.if-last.true) c.tokens.invariant.whole in
    same_tokens (length c.args.bytes.now) c.args.bytes.now c.push.new.self.items others made k

pub tokens-preserved : goal.tokens-preserved
tokens-preserved c =
    let goes_on = sym c.is_last-last.ensures ∙ c.if-last.false in
    let less = follows_shorter (length c.args.bytes.now) c.tokens.rest.now c.in-Ok.later.now
    c.in-Ok.token c.in-Ok.ensures goes_on in
    record {
      whole = whole_more (length c.args.bytes.now) c.args.bytes.now c.tokens.rest.now
          c.in-Ok.later.now c.tokens.made.items c.push.new.self.items c.in-Ok.token
          c.in_ok-push-in-Ok.ensures.items c.in-Ok.ensures goes_on c.tokens.invariant.whole;
      bound = omega (arith, less);
    }
