use Rattle.std.proofs.Common.{rules, ◌≡◌, ◌++◌, ℕ, ◌+◌, List, map, arith, ap, ◌∙◌, append_assoc}
use Rattle.std.proofs.Common.{sym}
use Rattle.std.proofs.lemmas.List.{map-append}
use Rattle.pipes_stream.specs.declared.Elem.{Elem}
use Rattle.pipes_stream.specs.declared.message.Message.{Message}
use Rattle.pipes_stream.specs.declared.message.Message.TheVariants as message
use Rattle.pipes_stream.specs.Weights.{weigh}
use Rattle.pipes_stream.proofs.Weights.{weigh-append}
use Rattle.pipes_coalesce.proofs.by_tuple.ByTuple.send_all.Goals as goal

pub loop-queue-preserved : goal.loop-queue-preserved
loop-queue-preserved c =
    let i = c.loop-queue.invariant in
    let out : c.send_queue.new.out.items ≡ c.loop-queue.out.items
    ++ map message.Elem c.in-Some.queue = search rules in
    record {
      sent = i.sent ++ c.in-Some.queue;
      appended = out ∙ ap (λ (ms : List Message). ms ++ map message.Elem c.in-Some.queue) i.appended
          ∙ append_assoc c.args.out.now.items (map message.Elem i.sent)
          (map message.Elem c.in-Some.queue)
          ∙ ap (λ (ms : List Message). c.args.out.now.items ++ ms)
          (sym (map-append message.Elem i.sent c.in-Some.queue));
      weights = λ f. omega
          (arith, weigh-append f i.sent c.in-Some.queue, i.weights f, c.in-Some.ensures.weights f);
    }
