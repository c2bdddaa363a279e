use Rattle.std.proofs.lemmas.Result.{on_err_weaker}
use Rattle.pipes_buffer.proofs.Appended.{map_ok}
use Rattle.pipes_results.proofs.Keeping.{end-ok, end-cut, end-cut-normal}
use Rattle.pipes_results.proofs.results.Results.end.Goals as goal

pub returns-in-Stream-clause-ok : goal.returns-in-Stream-clause-ok
returns-in-Stream-clause-ok g c = map_ok c.end_stream.result
    (λ ok init elems kept. end-ok init _ _ c.args.self.now c.in-Stream.text elems c.args.last.now
    c.in-Stream.is kept ok) c.end_stream.ensures.ok

pub returns-in-Stream-clause-err : goal.returns-in-Stream-clause-err
returns-in-Stream-clause-err g c = on_err_weaker c.end_stream.result
    (λ prefix init elems kept. end-cut init _ _ c.args.self.now c.in-Stream.text elems
    c.args.last.now c.in-Stream.is kept prefix) c.end_stream.ensures.prefix

pub returns-in-Normal-clause-err : goal.returns-in-Normal-clause-err
returns-in-Normal-clause-err g c = on_err_weaker c.write_normal.result
    (λ cut init elems kept. end-cut-normal init _ _ c.args.self.now c.in-Normal.normal elems
    c.args.last.now c.in-Normal.is kept cut) c.write_normal.ensures.prefix
