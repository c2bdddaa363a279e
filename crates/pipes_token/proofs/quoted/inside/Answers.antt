use Rattle.std.proofs.Common.{ℕ, ◌++◌, [], List, arith, subst, append-nil, string_bytes}
use Rattle.std.specs.Char.{encode_utf8}
use Rattle.pipes_token.specs.Strings.{IsInside}
use Rattle.pipes_token.proofs.Characters.{inside_more, inside_end, inside_longer}
use Rattle.pipes_token.proofs.quoted.inside.Goals as goal

pub characters-preserved : goal.characters-preserved
characters-preserved c = record {
  grows = λ content left p. inside_longer c.args.bytes.now (string_bytes c.characters.content)
      (string_bytes c.push.new.self) (encode_utf8 c.in-Some.character) content left
      c.in_ok-push-in-Some.ensures.bytes
      (c.characters.invariant.grows (encode_utf8 c.in-Some.character ++ content) left
      (inside_more c.in-Some.character c.characters.rest.now c.in-Some.later.now content left
      c.in-Some.ensures.begins p));
  bound = omega (arith, c.in-Some.ensures.shorter);
}

pub returns-in-None-clause-inside : goal.returns-in-None-clause-inside
returns-in-None-clause-inside c =
    subst (λ (x : List ℕ). IsInside c.args.bytes.now x c.characters.rest.now)
    (append-nil (string_bytes c.characters.content)) (c.characters.invariant.grows []
    c.characters.rest.now (inside_end c.characters.rest.now c.in-None.ensures.none))
