-- Counts that rise in one step of several.
use Rattle.std.proofs.Common.{ℕ, ◌≤◌, arith}
use Rattle.pipes_edge.specs.Causes.{Rose}

pub rose_before : (a b c : ℕ) → a ≤ b → Rose b c → Rose a c
rose_before a b c low rose = omega (arith, low, rose)
