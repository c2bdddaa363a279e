-- After the longest gap there is one place alone.
use Rattle.std.proofs.Common.{◌≡◌, ◌≢◌, ℕ, ◌≤◌, Bool, true, false, cond, not, List, [], ◌∷◌, ◌++◌}
use Rattle.std.proofs.Common.{length, refl, sym, ap, subst, ◌∙◌, append_assoc, arith, length-append}
use Rattle.std.specs.Prelude.{◌==◌}
use Rattle.std.specs.List.{list_all}
use Rattle.std.proofs.lemmas.Bool.{and_parts, eqb-true, ne_eqb}
use Rattle.std.proofs.Common.{drop, take, take-append-drop}
use Rattle.std.specs.List.{prefix_len}
use Rattle.std.proofs.lemmas.Bool.{not-false}
use Rattle.pipes_token.proofs.Runs.{Stopped, run_passes, run_stops}
use Rattle.pipes_token.specs.Gaps.{is_separator, is_within_line, EndsLine, IsGap, none, separator}
use Rattle.pipes_token.specs.Gaps.{comment, BeginsNoGap, IsPastGap}

-- what is left after separators and comments, or, where `within` a comment, after that too
abbrev past : Bool → List ℕ → List ℕ
past within [] = []
past true (b ∷ bs) = past (not (b == 10)) bs
past false (b ∷ bs) = cond (is_separator b) (past false bs) (cond (b == 35) (past true bs) (b ∷ bs))

past_line : (line bs : List ℕ) → list_all is_within_line line ≡ true
    → past true (line ++ bs) ≡ past true bs
past_line [] bs h = refl
past_line (b ∷ line) bs h =
    let k = and_parts (is_within_line b) (list_all is_within_line line) h in
    ap (λ (t : Bool). past t (line ++ bs)) k.0 ∙ past_line line bs k.1

past_end : (bs : List ℕ) → EndsLine bs → past true bs ≡ past false bs
past_end [] h = refl
past_end (b ∷ bs) h = subst (λ (x : ℕ). past true (x ∷ bs) ≡ past false (x ∷ bs)) (sym h) refl

past_here : (here : List ℕ) → BeginsNoGap here → past false here ≡ here
past_here [] h = refl
past_here (b ∷ bs) h = rw (h.0, ne_eqb b 35 h.1) refl

past_gap : (here gap : List ℕ) → IsGap here gap → BeginsNoGap here → past false (gap ++ here) ≡ here
past_gap here _ none h = past_here here h
past_gap here _ (separator b gap s g) h = rw s (past_gap here gap g h)
past_gap here whole (comment line gap _ e l k g) h =
    ap (λ (x : List ℕ). past false (x ++ here)) e ∙ ap (λ (x : List ℕ). past true x)
    (append_assoc line gap here) ∙ past_line line (gap ++ here) l ∙ past_end (gap ++ here) k
    ∙ past_gap here gap g h

pub same_past : (bs here there : List ℕ) → IsPastGap bs here → IsPastGap bs there → here ≡ there
same_past bs here there p q =
    sym (past_gap here p.gap p.is_gap p.longest) ∙ ap (λ (x : List ℕ). past false x) (sym p.parts
    ∙ q.parts) ∙ past_gap there q.gap q.is_gap q.longest

-- ---- how a gap grows at its prefix

pub past_none : (bs : List ℕ) → BeginsNoGap bs → IsPastGap bs bs
past_none bs h = record { gap = []; parts = refl; is_gap = none; longest = h }

pub past_separator : (b : ℕ) (bs here : List ℕ) → is_separator b ≡ true → IsPastGap bs here
    → IsPastGap (b ∷ bs) here
past_separator b bs here s p = record {
  gap = b ∷ p.gap;
  parts = ap (λ (x : List ℕ). b ∷ x) p.parts;
  is_gap = separator b p.gap s p.is_gap;
  longest = p.longest;
}

pub past_comment : (line bs here : List ℕ) → list_all is_within_line line ≡ true → EndsLine bs
    → IsPastGap bs here → IsPastGap (35 ∷ (line ++ bs)) here
past_comment line bs here l k p = record {
  gap = 35 ∷ (line ++ p.gap);
  parts = ap (λ (x : List ℕ). 35 ∷ (line ++ x)) p.parts ∙ ap (λ (x : List ℕ). 35 ∷ x)
      (sym (append_assoc line p.gap here));
  is_gap = comment line p.gap _ refl l (subst EndsLine p.parts k) p.is_gap;
  longest = p.longest;
}

pub past_shorter : (bs here : List ℕ) → IsPastGap bs here → length here ≤ length bs
past_shorter bs here p = omega (
  arith,
  ap (λ (x : List ℕ). length x) p.parts,
  length-append p.gap here,
)

line_stops : (bs : List ℕ) → Stopped is_within_line bs → EndsLine bs
line_stops [] h = tt
line_stops (b ∷ bs) h = eqb-true b 10 (not-false (b == 10) h)

pub past_line_end : (bs here : List ℕ) → IsPastGap (drop (prefix_len is_within_line bs) bs) here
    → IsPastGap (35 ∷ bs) here
past_line_end bs here p =
    let n = prefix_len is_within_line bs in
    subst (λ (x : List ℕ). IsPastGap (35 ∷ x) here) (take-append-drop n bs)
    (past_comment (take n bs) (drop n bs) here (run_passes is_within_line bs)
    (line_stops (drop n bs) (run_stops is_within_line bs)) p)

-- ---- the loop over a gap

pub more_separator : (b : ℕ) (rest later here : List ℕ) → rest ≡ b ∷ later → is_separator b ≡ true
    → IsPastGap later here → IsPastGap rest here
more_separator b rest later here e s p = subst (λ (x : List ℕ). IsPastGap x here) (sym e)
    (past_separator b later here s p)

pub more_comment : (b : ℕ) (rest later left here : List ℕ) → rest ≡ b ∷ later → b ≡ 35
    → left ≡ drop (prefix_len is_within_line later) later → IsPastGap left here
    → IsPastGap rest here
more_comment b rest later left here e s f p =
    let whole : 35 ∷ later ≡ rest = ap (λ (x : ℕ). x ∷ later) (sym s) ∙ sym e in
    subst (λ (x : List ℕ). IsPastGap x here) whole (past_line_end later here
    (subst (λ (x : List ℕ). IsPastGap x here) f p))

pub past_token : (b : ℕ) (rest later : List ℕ) → rest ≡ b ∷ later → is_separator b ≡ false
    → b ≢ 35 → IsPastGap rest rest
past_token b rest later e s h = past_none rest (subst BeginsNoGap (sym e) (s, h))

pub past_all : (rest : List ℕ) → rest ≡ [] → IsPastGap rest rest
past_all rest e = past_none rest (subst BeginsNoGap (sym e) tt)
