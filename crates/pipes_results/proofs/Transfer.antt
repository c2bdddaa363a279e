-- Rows that are the same at each instant have the same normal text.
use Rattle.std.proofs.Common.{ℕ, List}
use Rattle.pipes_tuple.specs.declared.value.Value.{Value}
use Rattle.pipes_output.specs.NormalText.{IsNormalText, SameRows}
use Rattle.pipes_output.proofs.NormalLaws.{IsNormal-same}

-- a normal text of the one is a normal text of the other
pub same_normal_text : (rows others : ℕ → List (List Value)) (text : List ℕ) → SameRows rows others
    → IsNormalText rows text → IsNormalText others text
same_normal_text rows others text same h = record {
  periods = h.periods;
  normal = IsNormal-same rows others h.periods same h.normal;
  lines = h.lines;
}
