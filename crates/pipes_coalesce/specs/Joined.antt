-- One element of two that touch.
use Rattle.std.specs.Prelude.{◌≡◌}
use Rattle.pipes_stream.specs.declared.Elem.{Elem}

pub record IsJoint (first second both : Elem) : Type 0 where
  pub tuple : both.tuple ≡ first.tuple
  pub start : both.span.start ≡ first.span.start
  pub end : both.span.end ≡ second.span.end
