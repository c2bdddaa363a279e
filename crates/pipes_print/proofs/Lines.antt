-- Lines of a text, and whole texts: what is written has these tokens, and each token is spelled.
use Rattle.std.proofs.Common.{◌≡◌, ℕ, ◌≤◌, List, [], ◌∷◌, ◌++◌, length, refl, sym, ap, subst}
use Rattle.std.proofs.Common.{◌∙◌, append_assoc, append-nil, arith}
use Rattle.std.specs.Prelude.{codes}
use Rattle.pipes_token.specs.declared.keyword.Keyword.{Keyword as AKeyword}
use Rattle.pipes_token.specs.declared.token.TokenKind.{TokenKind}
use Rattle.pipes_token.specs.declared.token.TokenKind.TheVariants.{Keyword, End}
use Rattle.pipes_token.specs.declared.token.Token.{Token}
use Rattle.pipes_token.specs.Keywords.{keyword_text}
use Rattle.pipes_token.specs.Gaps as gaps
use Rattle.pipes_token.specs.Tokens.{Tokens, IsPlaced}
use Rattle.pipes_token.specs.Tokens as lexed
use Rattle.pipes_token.specs.Writing.{BeginsWith, Writes, WritesFreely, IsSpelled}
use Rattle.pipes_token.proofs.Gaps.{past_separator}
use Rattle.pipes_token.proofs.Writing.{write_keyword, write_space_before, write_space_after}
use Rattle.pipes_reader.specs.Reading.{kinds_of}
use Rattle.pipes_reader.specs.Texts.{IsText}
use Rattle.pipes_reader.proofs.TokenLists.{kinds-append}
use Rattle.pipes_print.specs.Printed.{AreSpelled}

-- ---- the tokens of a text are spelled

spelled_one : (k : TokenKind) (ks : List TokenKind) → k ∷ [] ≡ ks ++ (End ∷ []) → AreSpelled ks
spelled_one k [] e = tt
spelled_one k (l ∷ []) e = absurd cc
spelled_one k (l ∷ m ∷ ks) e = absurd cc

pub spelled_prefix : (n : ℕ) (bs : List ℕ) (ts : List Token) → Tokens n bs ts
    → (ks : List TokenKind) → kinds_of ts ≡ ks ++ (End ∷ []) → AreSpelled ks
spelled_prefix n _ _ (lexed.next bs here rest t ts placed begins short others) [] e = tt
spelled_prefix n _ _ (lexed.next bs here rest t ts placed begins short others) (k ∷ ks) e =
    let same : t.kind ≡ k = cc in (
      subst (λ (z : TokenKind). IsSpelled z) same (begins.spelling, begins.spells),
      spelled_prefix n rest ts others ks (cc),
    )
spelled_prefix n _ _ (lexed.too_long bs here rest t placed begins long) ks e =
    spelled_one t.kind ks e
spelled_prefix n _ _ (lexed.stopped bs here t placed stops) ks e = spelled_one t.kind ks e

-- ---- the end of a line

after_it : (n : ℕ) (bs here : List ℕ) (token : Token) → IsPlaced n bs here token
    → IsPlaced n (10 ∷ bs) here token
after_it n bs here token p =
    record { past_gap = past_separator 10 bs here refl p.past_gap; place = p.place }

line_feed : (n : ℕ) (bs : List ℕ) (ts : List Token) → Tokens n bs ts → Tokens n (10 ∷ bs) ts
line_feed n bs _ (lexed.next _ here rest t ts p h long others) =
    lexed.next (10 ∷ bs) here rest t ts (after_it n bs here t p) h long others
line_feed n bs _ (lexed.too_long _ here rest t p h long) =
    lexed.too_long (10 ∷ bs) here rest t (after_it n bs here t p) h long
line_feed n bs _ (lexed.stopped _ here t p h) =
    lexed.stopped (10 ∷ bs) here t (after_it n bs here t p) h

pub write_line : (kinds : List TokenKind) (bytes : List ℕ) → Writes kinds bytes
    → WritesFreely kinds (bytes ++ codes "\n")
write_line kinds bytes w = record {
  begins = λ n more tokens fits _ t.
      let parts : (bytes ++ (10 ∷ [])) ++ more ≡ bytes ++ (10 ∷ more) =
      append_assoc bytes (10 ∷ []) more in
      let short : length (bytes ++ (10 ∷ more)) ≤ n =
      subst (λ (x : List ℕ). length x ≤ n) parts fits in
      subst (λ (x : List ℕ). BeginsWith n kinds x tokens) (sym parts)
      (w.begins n (10 ∷ more) tokens short refl (line_feed n more tokens t));
}

-- no token
pub write_none : WritesFreely [] []
write_none = record {
  begins = λ n more tokens fits _ t. record { prefix = []; are = refl; whole = t };
}

pub write_end : WritesFreely [] (codes "\n")
write_end = record {
  begins = λ n more tokens fits _ t.
      record { prefix = []; are = refl; whole = line_feed n more tokens t };
}

-- ---- words

-- before anything
abbrev pub free : List ℕ → Type 0
free bs = Unit {0}

-- a keyword and a space
pub word_then : (k : AKeyword) → WritesFreely (Keyword k ∷ []) (keyword_text k ++ (32 ∷ []))
word_then k = write_space_after (Keyword k ∷ []) (keyword_text k) (write_keyword k)

-- the same after a space
pub word_between : (k : AKeyword)
    → WritesFreely (Keyword k ∷ []) (32 ∷ (keyword_text k ++ (32 ∷ [])))
word_between k =
    write_space_before free (Keyword k ∷ []) (keyword_text k ++ (32 ∷ [])) (word_then k)

pub regroup : (a b c d e : List ℕ) → (a ++ (b ++ (c ++ d))) ++ e ≡ a ++ (b ++ (c ++ (d ++ e)))
regroup a b c d e = simp append_assoc

-- ---- whole texts

the_end : (n : ℕ) → Tokens n [] (record { at = n; kind = End } ∷ [])
the_end n = lexed.stopped [] [] (record { at = n; kind = End })
    (record {
      past_gap = record { gap = []; parts = refl; is_gap = gaps.none; longest = tt };
      place = omega arith;
    }) refl

-- what is written is a text of the value that its tokens are a sentence of
pub text_by : {A : Type 0} (Is : A → List TokenKind → Type 0) (x : A) (ks : List TokenKind)
    (bytes : List ℕ) → Is x ks → WritesFreely ks bytes → IsText Is x bytes
text_by Is x ks bytes is writes =
    let n = length bytes in
    let end : Token = record { at = n; kind = End } in
    let short : length (bytes ++ []) ≤ n =
    subst (λ (z : List ℕ). length z ≤ n) (sym (append-nil bytes)) (omega arith) in
    let made = writes.begins n [] (end ∷ []) short tt (the_end n) in
    record {
      tokens = made.prefix ++ (end ∷ []);
      are = subst (λ (z : List ℕ). Tokens n z (made.prefix ++ (end ∷ []))) (append-nil bytes)
          made.whole;
      spells = (
        ks,
        is,
        kinds-append made.prefix (end ∷ [])
            ∙ ap (λ (z : List TokenKind). z ++ (End ∷ [])) made.are,
      );
    }
