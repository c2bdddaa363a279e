use Rattle.std.proofs.Common.{rules, refl, arith, ◌≡◌, ◌≢◌, ◌∷◌}
use Rattle.pipes_coalesce.proofs.Moving.{on-ok, moves-from}
use Rattle.pipes_coalesce.proofs.Passing.{passes-plain, passes-both}
use Rattle.pipes_coalesce.proofs.merge.Coalesce.pass.Goals as goal

pub returns-then-end-self-clause-moves : goal.returns-then-end-self-clause-moves
returns-then-end-self-clause-moves c =
    on-ok c.append.result
    (λ is. passes-plain c.args.self.now c.args.self.now c.args.elem c.args.out.now.items
    c.append.new.out.items (search rules) refl refl is c.requires (search rules))
    c.append.ensures

pub returns-in-Some-clause-moves : goal.returns-in-Some-clause-moves
returns-in-Some-clause-moves c =
    on-ok c.append-in-Some.result
    (λ is. passes-both c.args.self.now _ c.args.elem c.in-Some.second c.joined.result
    c.args.out.now.items c.append-in-Some.new.out.items (search rules) refl
    c.in-Some.ensures.1 c.in-Some.ensures.0 c.joined.ensures is c.requires (search rules))
    c.append-in-Some.ensures

pub returns-in-None-clause-moves : goal.returns-in-None-clause-moves
returns-in-None-clause-moves c =
    on-ok c.pass_alone.result
    (λ moves. moves-from c.args.self.now _ c.pass_alone.new.self
    (c.args.elem ∷ c.args.self.now.olds) c.pass_alone.new.self.olds c.args.out.now.items
    c.pass_alone.new.out.items (search rules) moves)
    c.pass_alone.ensures.moves
