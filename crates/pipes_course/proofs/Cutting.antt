-- A text has one list of entries, and of a run that was cut what reads as whole lines may have been
-- written: no line is free.
use Rattle.std.proofs.Common.{◌≡◌, ℕ, zero, suc, ◌<◌, false, List, [], ◌∷◌, ◌++◌, length, take}
use Rattle.std.proofs.Common.{Option}
use Rattle.std.proofs.Common.{inl, inr, refl, sym, ◌∙◌, ap, subst, arith, append_assoc}
use Rattle.std.specs.List.{All}
use Rattle.std.specs.Prelude.{◌==◌, codes, ⊤}
use Rattle.std.proofs.lemmas.Bool.{both_ways}
use Rattle.std.proofs.lemmas.List.Elements.{All-head, All-tail}
use Rattle.pipes_plan.specs.declared.plan.Plan.{Plan}
use Rattle.pipes_output.specs.declared.entry.Entry.{Entry}
use Rattle.pipes_output.specs.Lines.{entry_text, line, lines, IsEntry}
use Rattle.pipes_output.proofs.LineLaws.{text-line, one-list}
use Rattle.pipes_output.proofs.Injective.{text-injective}
use Rattle.pipes_course.specs.Job.{About}
use Rattle.pipes_course.specs.Writing.{IsCutText, IsNextLine, SoFar, WritesAll, WritesPart}

module _ {D : Type 0} (target : D → Plan) (ComesTo : Plan → D → Option ℕ → Type 0) where
  -- two lists of entries that a run may have written whole, with one text, are the same
  pub one-list-whole : (run : About D) (last other : Entry) (bytes : List ℕ)
      (a : WritesAll target ComesTo run last bytes) (b : WritesAll target ComesTo run other bytes)
      → a.entries ≡ b.entries
  one-list-whole run last other bytes a b =
      one-list a.entries b.entries a.so_far.typed b.so_far.typed (sym a.bytes_are ∙ b.bytes_are)

-- ---- bytes without a line feed

abbrev NoFeed : ℕ → Type 0
NoFeed b = (b == 10) ≡ false

abbrev NoFeeds : List ℕ → Type 0
NoFeeds [] = ⊤
NoFeeds (b ∷ bs) = NoFeed b × NoFeeds bs

no_feeds : (bytes : List ℕ) → All NoFeed bytes → NoFeeds bytes
no_feeds [] all = tt
no_feeds (b ∷ bs) all = (All-head NoFeed b bs all, no_feeds bs (All-tail NoFeed b bs all))

of_entry : (e : Entry) → IsEntry e → NoFeeds (entry_text e)
of_entry e typed = no_feeds (entry_text e) (text-line e typed)

-- a proper part of a line is a part of its text
part-line : (text : List ℕ) (n : ℕ) → n < length (text ++ codes "\n") → NoFeeds text
    → NoFeeds (take n (text ++ codes "\n"))
part-line text zero short clear = tt
part-line [] (suc n) short clear = absurd (let s : suc n < 1 = short in omega (arith, s))
part-line (b ∷ bs) (suc n) short clear =
    (clear.0, part-line bs n (omega (arith, short)) clear.1)

head : (a b : ℕ) (x y : List ℕ) → a ∷ x ≡ b ∷ y → a ≡ b
head a b x y e = cc

tail : (a b : ℕ) (x y : List ℕ) → a ∷ x ≡ b ∷ y → x ≡ y
tail a b x y e = cc

is-feed : (b : ℕ) → NoFeed b → b ≡ 10 → ⊥
is-feed b clear e = both_ways (b == 10) clear (ap (λ (n : ℕ). n == 10) e)

-- what has no line feed does not begin with a whole line
feed_in-part : (text part rest : List ℕ) → NoFeeds part → part ≡ text ++ 10 ∷ rest → ⊥
feed_in-part [] [] rest clear e = cc
feed_in-part [] (p ∷ ps) rest clear e = is-feed p clear.0 (head p 10 ps rest e)
feed_in-part (t ∷ ts) [] rest clear e = cc
feed_in-part (t ∷ ts) (p ∷ ps) rest clear e =
    feed_in-part ts ps rest clear.1 (tail p t ps (ts ++ 10 ∷ rest) e)

-- a text ends at its first line feed
feed-unique : (xs ys r s : List ℕ) → NoFeeds xs → NoFeeds ys → xs ++ 10 ∷ r ≡ ys ++ 10 ∷ s
    → (xs ≡ ys) × (r ≡ s)
feed-unique [] [] r s p q e = (refl, tail 10 10 r s e)
feed-unique [] (y ∷ ys) r s p q e = absurd (is-feed y q.0 (sym (head 10 y r (ys ++ 10 ∷ s) e)))
feed-unique (x ∷ xs) [] r s p q e = absurd (is-feed x p.0 (head x 10 (xs ++ 10 ∷ r) s e))
feed-unique (x ∷ xs) (y ∷ ys) r s p q e =
    let first = head x y (xs ++ 10 ∷ r) (ys ++ 10 ∷ s) e in
    let rest = feed-unique xs ys r s p.1 q.1 (tail x y (xs ++ 10 ∷ r) (ys ++ 10 ∷ s) e) in
    ((λ i. first i ∷ rest.0 i), rest.1)

not-empty : (text rest : List ℕ) → [] ≡ text ++ 10 ∷ rest → ⊥
not-empty [] rest e = cc
not-empty (t ∷ ts) rest e = cc

-- ---- lines, and then a part of one

-- a line and more, as a text, its line feed, and more
line-parts : (x : Entry) (more : List ℕ) → line x ++ more ≡ entry_text x ++ 10 ∷ more
line-parts x more = append_assoc (entry_text x) (codes "\n") more

lines-parts : (x : Entry) (xs : List Entry) (part : List ℕ)
    → lines (x ∷ xs) ++ part ≡ entry_text x ++ 10 ∷ (lines xs ++ part)
lines-parts x xs part =
    append_assoc (line x) (lines xs) part ∙ line-parts x (lines xs ++ part)

-- where both together are lines, the part is empty
whole-lines : (xs ys : List Entry) (part : List ℕ) → All IsEntry xs → All IsEntry ys
    → NoFeeds part → lines xs ++ part ≡ lines ys → xs ≡ ys
whole-lines [] [] part hx hy clear e = refl
whole-lines [] (y ∷ ys) part hx hy clear e =
    absurd (feed_in-part (entry_text y) part (lines ys) clear (e ∙ line-parts y (lines ys)))
whole-lines (x ∷ xs) [] part hx hy clear e =
    absurd (not-empty (entry_text x) (lines xs ++ part) (sym e ∙ lines-parts x xs part))
whole-lines (x ∷ xs) (y ∷ ys) part hx hy clear e =
    let ex = All-head IsEntry x xs hx in
    let ey = All-head IsEntry y ys hy in
    let same = feed-unique (entry_text x) (entry_text y) (lines xs ++ part) (lines ys)
    (of_entry x ex) (of_entry y ey)
    (sym (lines-parts x xs part) ∙ e ∙ line-parts y (lines ys)) in
    let first = text-injective x y ex ey same.0 in
    let rest = whole-lines xs ys part (All-tail IsEntry x xs hx) (All-tail IsEntry y ys hy) clear
    same.1 in
    (λ i. first i ∷ rest i)

last-typed : (xs : List Entry) (x : Entry) → All IsEntry (xs ++ x ∷ []) → IsEntry x
last-typed [] x all = All-head IsEntry x [] all
last-typed (y ∷ ys) x all = last-typed ys x (All-tail IsEntry y (ys ++ x ∷ []) all)

module _ {D : Type 0} (target : D → Plan) (ComesTo : Plan → D → Option ℕ → Type 0) where
  begun-clear : (run : About D) (es : List Entry) (part : List ℕ)
      → IsCutText (IsNextLine target ComesTo run es) part → NoFeeds part
  begun-clear run es part (inl nothing) = subst NoFeeds (sym nothing) tt
  begun-clear run es part (inr b) =
      let next = b.2.0 in
      let short : b.1 < length (line next) =
      subst (λ (l : List ℕ). b.1 < length l) b.2.1 b.3 in
      subst NoFeeds (ap (λ (l : List ℕ). take b.1 l) (sym b.2.1) ∙ sym b.4)
      (part-line (entry_text next) b.1 short
      (of_entry next (last-typed es next b.2.2.typed)))

  -- what reads as whole lines are entries that may have been written
  pub cut-at-line : (run : About D) (es : List Entry) → All IsEntry es
      → WritesPart target ComesTo run (lines es) → SoFar target ComesTo run es
  cut-at-line run es typed w =
      subst (λ (l : List Entry). SoFar target ComesTo run l)
      (whole-lines w.entries es w.part w.so_far.typed typed
      (begun-clear run w.entries w.part w.begun) (sym w.bytes_are)) w.so_far
