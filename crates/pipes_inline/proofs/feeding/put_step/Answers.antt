use Rattle.std.proofs.Common.{◌∷◌, [], map, arith}
use Rattle.pipes_stream.specs.declared.message.Message.TheVariants as message
use Rattle.pipes_buffer.proofs.Appended.{map_ok}
use Rattle.pipes_inline.proofs.Putting.{can-first, may-come, puts-more}
use Rattle.pipes_inline.proofs.feeding.put_step.Goals as goal

pub put_elems-requires-clause-can : goal.put_elems-requires-clause-can
put_elems-requires-clause-can g c κs within =
    can-first c.args.works.now c.args.source (map message.Elem c.args.step.elems.items)
    (c.args.step.last ∷ []) c.requires.can

pub put-requires-clause-may : goal.put-requires-clause-may
put-requires-clause-may g c κs within =
    may-come c.args.works.now c.put_elems.new.works c.args.source
    (map message.Elem c.args.step.elems.items) [] c.args.top.now.items c.put_elems.new.top.items
    c.args.step.last c.requires.can (omega (arith, c.requires.in_range, c.put_elems.ensures.count))
    c.in_ok-put_elems.ensures.puts

pub returns-clause-puts : goal.returns-clause-puts
returns-clause-puts g c = map_ok c.put.result (λ puts.
    puts-more c.args.works.now c.put_elems.new.works c.put.new.self c.args.source
    (map message.Elem c.args.step.elems.items) c.args.step.last c.args.top.now.items
    c.put_elems.new.top.items c.put.new.out.items c.in_ok-put_elems.ensures.puts puts)
    c.put.ensures.puts
