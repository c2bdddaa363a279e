use Rattle.std.proofs.lemmas.Result.{on_err_weaker}
use Rattle.pipes_buffer.proofs.Appended.{map_ok}
use Rattle.pipes_results.proofs.Keeping.{put-ok, put-stopped}
use Rattle.pipes_results.proofs.results.Results.put.Goals as goal

pub returns-in-Stream-clause-ok : goal.returns-in-Stream-clause-ok
returns-in-Stream-clause-ok g c = map_ok c.put_line.result (λ ok init elems kept. put-ok init _ _
    c.args.self.now c.in-Stream.text c.put_line.new.text elems c.args.elem c.in-Stream.is kept ok)
    c.put_line.ensures.ok

pub returns-in-Stream-clause-err : goal.returns-in-Stream-clause-err
returns-in-Stream-clause-err g c = on_err_weaker c.put_line.result
    (λ prefix init elems kept. put-stopped init _ _ c.args.self.now c.in-Stream.text elems
    c.args.elem c.in-Stream.is kept prefix) c.put_line.ensures.prefix
