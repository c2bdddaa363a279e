-- The text of a list has the tokens of that list.
use Rattle.std.proofs.Common.{◌≡◌, ℕ, ◌<◌, ◌≤◌, ◌^◌, List, [], ◌∷◌, ◌++◌, refl, sym, ap, subst, ◌∙◌}
use Rattle.std.proofs.Common.{arith, append_assoc, append-nil}
use Rattle.std.specs.Prelude.{codes}
use Rattle.std.specs.Fmt.{decimal}
use Rattle.std.specs.List.{flat_map}
use Rattle.pipes_token.specs.declared.token.Sign.TheVariants.{OpenList, CloseList, Comma, Equal}
use Rattle.pipes_token.specs.declared.keyword.Keyword.{Keyword as AKeyword}
use Rattle.pipes_token.specs.declared.keyword.Keyword.TheVariants as keyword
use Rattle.pipes_token.specs.declared.token.TokenKind.{TokenKind}
use Rattle.pipes_token.specs.declared.token.TokenKind.TheVariants.{Sign, Keyword, Number}
use Rattle.pipes_token.specs.Keywords.{keyword_text}
use Rattle.pipes_token.specs.Writing.{IsApart, Writes, WritesFreely}
use Rattle.pipes_token.proofs.Writing.{write_keyword, write_number, write_open_list}
use Rattle.pipes_token.proofs.Writing.{write_close_list, write_equal, write_space_after}
use Rattle.pipes_token.proofs.Writing.{write_apart, write_then, write_apart_then}
use Rattle.pipes_relation.specs.declared.lists.Pair.{Pair}
use Rattle.pipes_relation.specs.declared.lists.Agg.{Agg}
use Rattle.pipes_relation.specs.declared.lists.Agg.TheVariants as agg
use Rattle.pipes_grammar.specs.Grammar.{AreEntries, last, more, IsFilled, entries, IsList, empty}
use Rattle.pipes_grammar.specs.Grammar.{filled, IsColumnPlace, IsPair, IsAgg}
use Rattle.pipes_grammar.specs.Grammar as g
use Rattle.pipes_print.specs.ExprText.{entries_text, list_text}
use Rattle.pipes_print.specs.PlanText.{pair_text, agg_text}
use Rattle.pipes_print.specs.Printed.{AreSpelled}
use Rattle.pipes_print.proofs.ExprPrinting.{Free, spelled_parts, comma_space}

-- a value whose text has the tokens of a sentence of it
pub record PrintsAs {A : Type 0} (Is : A → List TokenKind → Type 0) (text : A → List ℕ)
    (x : A) : Type 0 where
  pub kinds : List TokenKind
  pub is : Is x kinds
  pub writes : Writes kinds (text x)

module _ (A : Type 0) (Is : A → List TokenKind → Type 0) (text : A → List ℕ) where
  some_entry : (xs : List A) (ks : List TokenKind) → AreEntries Is xs ks → (y : A) × (ys : List A)
      × (xs ≡ y ∷ ys)
  some_entry _ _ (last x ks h) = (x, [], refl)
  some_entry _ _ (more x xs ks ls h l) = (x, xs, refl)

  one_more : (x y : A) (ys : List A) → entries_text text (x ∷ y ∷ ys) ≡ text x
      ++ (codes ", " ++ entries_text text (y ∷ ys))
  one_more x y ys = ap (λ (z : List ℕ). text x ++ z) (append_assoc (codes ", ") (text y)
      (flat_map (λ z. codes ", " ++ text z) ys))

  more_text : (x : A) (xs : List A) (ks : List TokenKind) → AreEntries Is xs ks
      → entries_text text (x ∷ xs) ≡ text x ++ (codes ", " ++ entries_text text xs)
  more_text x xs ks h =
      let some = some_entry xs ks h in
      subst (λ (z : List A). entries_text text (x ∷ z) ≡ text x
      ++ (codes ", " ++ entries_text text z)) (sym some.2) (one_more x some.0 some.1)

  pub entries_print : ((x : A) (ks : List TokenKind) → Is x ks → AreSpelled ks → PrintsAs Is text x)
      → (xs : List A) (ks : List TokenKind) → AreEntries Is xs ks → AreSpelled ks
      → PrintsAs (AreEntries Is) (entries_text text) xs
  entries_print each _ _ (last x ks h) s =
      let p = each x ks h s in
      record {
        kinds = p.kinds;
        is = last x p.kinds p.is;
        writes =
            subst (λ (z : List ℕ). Writes p.kinds z) (sym (append-nil (text x))) p.writes;
      }
  entries_print each _ _ (more x xs ks ls h l) s =
      let parts = spelled_parts ks (Sign Comma ∷ ls) s in
      let p = each x ks h parts.0 in
      let q = entries_print each xs ls l parts.1.1 in
      let rest = write_then IsApart (Sign Comma ∷ []) q.kinds (codes ", ") (entries_text text xs)
      comma_space q.writes in
      let whole = write_apart_then IsApart p.kinds (Sign Comma ∷ q.kinds) (text x)
      (codes ", " ++ entries_text text xs) (λ more. refl) p.writes rest in
      record {
        kinds = p.kinds ++ (Sign Comma ∷ q.kinds);
        is = more x xs p.kinds q.kinds p.is q.is;
        writes = subst (λ (z : List ℕ). Writes (p.kinds ++ (Sign Comma ∷ q.kinds)) z)
            (sym (more_text x xs ls l)) whole;
      }

  brackets : (kinds : List TokenKind) (bytes : List ℕ) → Writes kinds bytes
      → Writes (Sign OpenList ∷ (kinds ++ (Sign CloseList ∷ [])))
      (codes "[" ++ (bytes ++ codes "]"))
  brackets kinds bytes w =
      let end = write_apart_then IsApart kinds (Sign CloseList ∷ []) bytes (codes "]")
      (λ more. refl) w (write_apart (Sign CloseList ∷ []) (codes "]") write_close_list) in
      write_then IsApart (Sign OpenList ∷ []) (kinds ++ (Sign CloseList ∷ [])) (codes "[")
      (bytes ++ codes "]") write_open_list end

  pub filled_print : ((x : A) (ks : List TokenKind) → Is x ks → AreSpelled ks → PrintsAs Is text x)
      → (xs : List A) (ks : List TokenKind) → IsFilled Is xs ks → AreSpelled ks
      → PrintsAs (IsFilled Is) (list_text text) xs
  filled_print each _ _ (entries xs ks h) s =
      let p = entries_print each xs ks h (spelled_parts ks (Sign CloseList ∷ []) s.1).0 in
      record {
        kinds = Sign OpenList ∷ (p.kinds ++ (Sign CloseList ∷ []));
        is =
            entries xs p.kinds p.is;
        writes = brackets p.kinds (entries_text text xs) p.writes;
      }

  pub list_print : ((x : A) (ks : List TokenKind) → Is x ks → AreSpelled ks → PrintsAs Is text x)
      → (xs : List A) (ks : List TokenKind) → IsList Is xs ks → AreSpelled ks
      → PrintsAs (IsList Is) (list_text text) xs
  list_print each _ _ empty s = record {
    kinds = Sign OpenList ∷ Sign CloseList ∷ [];
    is = empty;
    writes = write_then IsApart (Sign OpenList ∷ []) (Sign CloseList ∷ []) (codes "[")
        (codes "]") write_open_list (write_apart (Sign CloseList ∷ [])
        (codes "]") write_close_list);
  }
  list_print each _ _ (filled xs ks h) s =
      let p = filled_print each xs ks h s in
      record { kinds = p.kinds; is = filled xs p.kinds p.is; writes = p.writes }

-- ---- entries

pub column_prints : (i : ℕ) (ks : List TokenKind) → IsColumnPlace i ks → AreSpelled ks
    → PrintsAs IsColumnPlace decimal i
column_prints _ _ (g.column i h) s = record {
  kinds = Number i ∷ [];
  is = g.IsColumnPlace.column i h;
  writes = write_number i (omega arith);
}

pub pair_prints : (pair : Pair) (ks : List TokenKind) → IsPair pair ks → AreSpelled ks
    → PrintsAs IsPair pair_text pair
pair_prints _ _ (g.IsPair.pair i j h k) s = record {
  kinds = Number i ∷ Sign Equal ∷ Number j ∷ [];
  is = g.IsPair.pair i j h k;
  writes = write_apart_then IsApart (Number i ∷ []) (Sign Equal ∷ Number j ∷ []) (decimal i)
      (codes "=" ++ decimal j) (λ more. refl) (write_number i (omega arith))
      (write_then IsApart (Sign Equal ∷ []) (Number j ∷ []) (codes "=") (decimal j) write_equal
      (write_number j (omega arith)));
}

word_and : (k : AKeyword) (i : ℕ) → i < 32 → Writes (Keyword k ∷ Number i ∷ [])
    ((keyword_text k ++ (32 ∷ [])) ++ decimal i)
word_and k i h = write_then IsApart (Keyword k ∷ []) (Number i ∷ []) (keyword_text k ++ (32 ∷ []))
    (decimal i) (write_space_after (Keyword k ∷ []) (keyword_text k) (write_keyword k))
    (write_number i (omega arith))

pub agg_prints : (a : Agg) (ks : List TokenKind) → IsAgg a ks → AreSpelled ks
    → PrintsAs IsAgg agg_text a
agg_prints _ _ g.IsAgg.count s = record {
  kinds = Keyword keyword.Count ∷ [];
  is = g.IsAgg.count;
  writes = write_keyword keyword.Count;
}
agg_prints _ _ (g.IsAgg.sum i h) s = record {
  kinds = Keyword keyword.Sum ∷ Number i ∷ [];
  is =
      g.IsAgg.sum i h;
  writes = word_and keyword.Sum i h;
}
agg_prints _ _ (g.IsAgg.least i h) s = record {
  kinds = Keyword keyword.Min ∷ Number i ∷ [];
  is =
      g.IsAgg.least i h;
  writes = word_and keyword.Min i h;
}
agg_prints _ _ (g.IsAgg.greatest i h) s = record {
  kinds = Keyword keyword.Max ∷ Number i ∷ [];
  is =
      g.IsAgg.greatest i h;
  writes = word_and keyword.Max i h;
}
agg_prints _ _ (g.IsAgg.average i h) s = record {
  kinds = Keyword keyword.Avg ∷ Number i ∷ [];
  is =
      g.IsAgg.average i h;
  writes = word_and keyword.Avg i h;
}
