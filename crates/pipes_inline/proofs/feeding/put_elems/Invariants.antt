use Rattle.std.proofs.Common.{◌≡◌, map}
use Rattle.pipes_stream.specs.declared.message.Message.TheVariants as message
use Rattle.pipes_works.specs.Standing.{IsWhole, source_count}
use Rattle.pipes_inline.specs.Standing.{PutsAll}
use Rattle.pipes_inline.proofs.feeding.put_elems.Given as goal

abbrev pub invariant-elems : goal.invariant-elems
invariant-elems g l = record {
  can : (goal.iterator-elems g).can_next l.elem-iterator;
  finite : (goal.iterator-elems g).is_finite l.elem-iterator;
  whole : IsWhole l.works;
  count : source_count l.works ≡ source_count l.initial.works;
  puts : PutsAll l.initial.works l.works l.source (map message.Elem l.yielded)
      l.initial.top.items l.top.items;
}
