-- What a try to write a line has said of it.
use Rattle.std.proofs.Common.{◌≡◌, ℕ, List, [], ◌∷◌, ◌++◌, codes, map, flat_map, length, take, drop}
use Rattle.std.proofs.Common.{get_or, ◌≤◌, ◌-◌, Option, Result, Ok, Err, OnOk, OnErr, refl, sym, ap}
use Rattle.std.proofs.Common.{arith}
use Rattle.std.proofs.lemmas.List.{take_all}
use Rattle.std.specs.Io.KnownBytes.{Appends}
use Rattle.pipes_edge.specs.Causes.{HasCause}
use Rattle.pipes_buffer.specs.Pieces.{AppendsPrefix}
use Rattle.pipes_error.specs.Fault.{WritesLine, line_of_parts}
use Rattle.pipes_error.specs.Pieces.{piece_text, after_space, spaced}
use Rattle.pipes_error.specs.declared.piece.Piece.{Piece}

pub says : {T E : Type 0} (r : Result T E) (text : List ℕ) (a b : Option (List ℕ)) (n m : ℕ)
    → OnOk r (Appends a b text) → OnErr r (AppendsPrefix a b text) → HasCause n m r
    → WritesLine text (record {
      written_before = a;
      written_now = b;
      faults_before = n;
      faults_now =
          m;
    })
says (Ok x) text a b n m ok prefix cause = record {
  said = text;
  appended = ok;
  kept = length text;
  prefix = sym (take_all (length text) text (omega arith));
  cut = λ less. absurd (omega arith);
}
says (Err e) text a b n m ok prefix cause = record {
  said = take prefix.0 text;
  appended = prefix.1;
  kept = prefix.0;
  prefix = refl;
  cut = λ less. cause.failed;
}

spaced_parts : (ps : List Piece) → spaced ps ≡ flat_map (λ part. codes " " ++ part)
    (map piece_text ps)
spaced_parts [] = refl
spaced_parts (p ∷ ps) = ap (λ (l : List ℕ). after_space p ++ l) (spaced_parts ps)

-- a line of pieces, as a line of their texts
pub known_spaced : (ps : List Piece) → (codes "pipes:" ++ spaced ps)
    ++ codes "\n" ≡ line_of_parts (map piece_text ps)
known_spaced ps = ap (λ (l : List ℕ). codes "pipes:" ++ l ++ codes "\n") (spaced_parts ps)

-- the first piece, and the others
pub first_piece : (ps : List Piece) (d : Piece) → 1 ≤ length ps
    → spaced ps ≡ after_space (get_or ps 0 d) ++ spaced (take (length ps - 1) (drop 1 ps))
first_piece [] d h = absurd (omega arith)
first_piece (p ∷ ps) d h =
    let all : length ps ≤ length (p ∷ ps) - 1 = omega arith in
    ap (λ (l : List Piece). after_space p ++ spaced l) (sym (take_all (length (p ∷ ps) - 1) ps all))
