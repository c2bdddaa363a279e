-- The texts of results are what a run of their query writes.
use Rattle.std.proofs.Common.{ℕ, List, [], ◌∷◌, ◌++◌, take, refl, ◌∙◌, ap, inl, inr}
use Rattle.pipes_time.specs.Rising.{RisesBy}
use Rattle.pipes_stream.specs.declared.Elem.{Elem}
use Rattle.pipes_stream.proofs.Ports.{All-parts}
use Rattle.pipes_window.specs.declared.item.Item.{Item}
use Rattle.pipes_query.specs.declared.query.Query.{Query}
use Rattle.pipes_output.specs.declared.entry.Entry.{Entry}
use Rattle.pipes_output.specs.declared.entry.Entry.TheVariants.{Ended}
use Rattle.pipes_output.specs.declared.form.Form.{Form}
use Rattle.pipes_output.specs.declared.form.Form.TheVariants.{Stream, Normal}
use Rattle.pipes_semantics.specs.Right.{IsResultOf, Right, Final}
use Rattle.pipes_semantics.specs.Run.{WritesRun, WritesRunPrefix}
use Rattle.pipes_semantics.specs.Written.{EndsRun, entries_of}
use Rattle.pipes_results.specs.Answered.{AreResults, AreAnswers}
use Rattle.pipes_results.specs.Texts.{WholeText, PrefixText, EarlyText}
use Rattle.pipes_results.proofs.Transfer.{same_normal_text}
use Rattle.pipes_results.proofs.Entries.{results-entries, ordered-entries, final-entries}

starts-prefix : (low : ℕ) (xs ys : List Elem) → RisesBy (λ e. e.span.start) low (xs ++ ys)
    → RisesBy (λ e. e.span.start) low xs
starts-prefix low [] ys up = tt
starts-prefix low (x ∷ xs) ys up = (up.0, starts-prefix x.span.start xs ys up.1)

-- a prefix of results
pub results-prefix : (query : Query) (xs ys : List Elem) → AreResults query (xs ++ ys)
    → AreResults query xs
results-prefix query xs ys h = record {
  order = starts-prefix 0 xs ys h.order;
  typed = (All-parts (IsResultOf query) xs ys h.typed).0;
}

final_results : (query : Query) (items : List (List Item)) (elems : List Elem) (last : Entry)
    → EndsRun last → AreResults query elems → Final query items (entries_of elems last)
final_results query items elems last is h = final-entries query items last elems is h.order h.typed

right_run : (query : Query) (items : List (List Item)) (elems : List Elem) (last : Entry)
    → EndsRun last → AreAnswers query items elems → Right query items (entries_of elems last)
right_run query items elems last is h = record {
  ordered = ordered-entries query last elems is h.results.order h.results.typed;
  answers = λ t below. rw (results-entries last is elems) (h.rows t below);
}

-- the whole text is what a run writes
pub whole-writes : (form : Form) (query : Query) (items : List (List Item)) (elems : List Elem)
    (last : Entry) (bytes : List ℕ) → EndsRun last → AreAnswers query items elems
    → WholeText form elems last bytes → WritesRun form query items last bytes
whole-writes Stream query items elems last bytes is h text = (
  elems,
  text,
  right_run query items elems last is h,
  final_results query items elems last is h.results,
)
whole-writes Normal query items elems last bytes is h text = same_normal_text _ _ bytes h.rows text

-- a prefix of the lines is what a run has written that was cut short
stream_prefix : (query : Query) (items : List (List Item)) (elems : List Elem) (last : Entry)
    (bytes : List ℕ) → EndsRun last → AreResults query elems
    → PrefixText Stream elems last bytes → WritesRunPrefix Stream query items bytes
stream_prefix query items elems last bytes is h (inl nothing) =
    (elems, last, 0, is, nothing, final_results query items elems last is h)
stream_prefix query items elems last bytes is h (inr prefix) = (
  elems,
  last,
  prefix.1,
  is,
  prefix.3 ∙ ap (take prefix.1) prefix.2,
  final_results query items elems last is h,
)

-- what is written early, of some results
pub early-writes : (form : Form) (query : Query) (items : List (List Item)) (elems : List Elem)
    (bytes : List ℕ) → AreResults query elems → EarlyText form elems bytes
    → WritesRunPrefix form query items bytes
early-writes Stream query items elems bytes h text =
    stream_prefix query items elems Ended bytes (inl refl) h text
early-writes Normal query items elems bytes h text = inl text

-- a prefix of the whole text
pub prefix-writes : (form : Form) (query : Query) (items : List (List Item)) (elems : List Elem)
    (last : Entry) (bytes : List ℕ) → EndsRun last → AreAnswers query items elems
    → PrefixText form elems last bytes → WritesRunPrefix form query items bytes
prefix-writes Stream query items elems last bytes is h text =
    stream_prefix query items elems last bytes is h.results text
prefix-writes Normal query items elems last bytes is h (inl nothing) = inl nothing
prefix-writes Normal query items elems last bytes is h (inr prefix) =
    inr (
      prefix.0,
      prefix.1,
      same_normal_text _ _ prefix.0 h.rows prefix.2,
      prefix.3,
    )
