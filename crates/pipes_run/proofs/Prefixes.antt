-- Nothing is a prefix of what a run writes, and all is.
use Rattle.std.proofs.Common.{ℕ, List, [], length, take, refl, sym, ◌∙◌, ap, inl}
use Rattle.std.proofs.Common.{inr, arith}
use Rattle.std.proofs.lemmas.List.{take_all}
use Rattle.pipes_window.specs.declared.item.Item.{Item}
use Rattle.pipes_query.specs.declared.query.Query.{Query}
use Rattle.pipes_output.specs.declared.entry.Entry.TheVariants.{Ended, Stopped}
use Rattle.pipes_output.specs.declared.form.Form.{Form}
use Rattle.pipes_output.specs.declared.form.Form.TheVariants.{Stream, Normal}
use Rattle.pipes_semantics.specs.Run.{WritesRun, WritesRunPrefix}
use Rattle.pipes_results.proofs.Entries.{final-ended}

pub prefix_nothing : (form : Form) (query : Query) (items : List (List Item))
    → WritesRunPrefix form query items []
prefix_nothing Stream query items = ([], Ended, 0, inl refl, refl, final-ended query items)
prefix_nothing Normal query items = inl refl

pub prefix_whole : (form : Form) (query : Query) (items : List (List Item)) (bytes : List ℕ)
    → WritesRun form query items Stopped bytes → WritesRunPrefix form query items bytes
prefix_whole Stream query items bytes (elems, is, right, final) = (
  elems,
  Stopped,
  length bytes,
  inr refl,
  sym (take_all (length bytes) bytes (omega arith)) ∙ ap (take (length bytes)) is,
  final,
)
prefix_whole Normal query items bytes text =
    inr (bytes, length bytes, text, sym (take_all (length bytes) bytes (omega arith)))
