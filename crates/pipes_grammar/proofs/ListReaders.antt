-- Readers of lists in brackets.
use Rattle.std.proofs.Common.{◌≡◌, ◌≤◌, ◌+◌, ℕ, zero, suc, Bool, true, false, Option, Some, None}
use Rattle.std.proofs.Common.{List, [], ◌∷◌, ◌++◌, length, Result, Ok, Err, refl, sym, ap, subst}
use Rattle.std.proofs.Common.{◌∙◌, append_assoc, arith, ◌⊎◌, inl, inr}
use Rattle.std.proofs.lemmas.List.{append-nil}
use Rattle.pipes_token.specs.declared.refusal.Refusal.{Refusal}
use Rattle.pipes_token.specs.declared.refusal.TextWhy.TheVariants as why
use Rattle.pipes_token.specs.declared.token.Sign.TheVariants.{OpenList, CloseList, Comma}
use Rattle.pipes_token.specs.declared.token.TokenKind.{TokenKind}
use Rattle.pipes_token.specs.declared.token.TokenKind.TheVariants.{Sign, Name, Number, Byte, End}
use Rattle.pipes_token.specs.declared.token.Token.{Token}
use Rattle.pipes_grammar.specs.Grammar.{AreEntries, last, more, IsFilled, entries, IsList, empty}
use Rattle.pipes_grammar.specs.Grammar.{filled}
use Rattle.pipes_time.specs.Results.{◌>>=◌}
use Rattle.pipes_reader.specs.Reading.{Reads, kinds_of, done, refusal, refused_by}
use Rattle.pipes_reader.specs.Reading.{refused_as, run_out, too_many}
use Rattle.pipes_grammar.specs.Reading.{SentencePrefix, wanted}
use Rattle.pipes_grammar.specs.ListReading.{is_open_list, goes_on_by, read_goes_on, step_from}
use Rattle.pipes_grammar.specs.ListReading.{after_prefix, followed_by, entries_within, filled_from}
use Rattle.pipes_grammar.specs.ListReading.{list_by}
use Rattle.pipes_grammar.specs.ListReading.{entries_from, list_from}
use Rattle.pipes_reader.specs.Sentences.{Begins}
use Rattle.pipes_grammar.specs.Places.{RunsOut}
use Rattle.pipes_reader.specs.Causes.{AreAlike, itself, two_numbers, two_names}
use Rattle.pipes_reader.proofs.TokenLists.{uncons, none, tokens_of, kinds-tokens}
use Rattle.pipes_reader.proofs.Causes.{why_map, CauseOf}
use Rattle.pipes_reader.proofs.Causes as causes
use Rattle.pipes_reader.proofs.Singles.{limit_causes}
use Rattle.pipes_grammar.proofs.Readers.{AtToken, there, here, Ends, in_expr, deep, Stops, Refuses}
use Rattle.pipes_grammar.proofs.Readers.{IsReader, Then, both, in_turn, reads_in_turn}
use Rattle.pipes_grammar.proofs.Readers.{reads_anywhere}
use Rattle.pipes_grammar.proofs.Layers.{token, one_value, Nothing, nothing, nothing_is, with_end}
use Rattle.pipes_grammar.proofs.Layers.{reads_nothing, reads_as, ThisKind, one, reads_wanted}
use Rattle.pipes_grammar.proofs.Layers.{Branch, takes, plainly, layer_found}
use Rattle.pipes_grammar.proofs.Layers.{layer_first, layer_one}

-- ---- a comma, or the end of the list

pub data GoesOn : Bool → List TokenKind → Type 0 where
  comma : GoesOn true (Sign Comma ∷ [])
  close : GoesOn false (Sign CloseList ∷ [])

goes_on_branch : (Begun Exprs : Type 0) (whole : Option ℕ) (k : TokenKind)
    → Branch goes_on_by Begun Exprs whole GoesOn GoesOn k (goes_on_by k)
goes_on_branch Begun Exprs whole (Sign Comma) = takes goes_on_by Begun Exprs whole GoesOn GoesOn
    (Sign Comma)
    (goes_on_by (Sign Comma)) true comma (λ at ts. refl)
goes_on_branch Begun Exprs whole (Sign CloseList) =
    takes goes_on_by Begun Exprs whole GoesOn GoesOn (Sign CloseList) (goes_on_by (Sign CloseList))
    false close
    (λ at ts. refl)
goes_on_branch Begun Exprs whole k =
    plainly goes_on_by Begun Exprs whole GoesOn GoesOn k (λ at ts. refl)
    (λ n m e at ts. (refused_by (Number m) at, refl))
    (λ v w e at ts. (refused_by (Name w) at, refl))

some_goes_on : Begins GoesOn []
some_goes_on = (false, Sign CloseList ∷ [], close)

reads_goes_on : (Begun Exprs : Type 0) (whole : Option ℕ) → IsReader Begun Exprs whole GoesOn GoesOn
    read_goes_on
unfolding read_goes_on
reads_goes_on Begun Exprs whole = record {
  found = layer_found Begun Exprs whole GoesOn GoesOn read_goes_on goes_on_by refl (λ t ts. refl)
      (goes_on_branch Begun Exprs whole) (λ b. some_goes_on);
  only = λ x prefix rest is. only x (kinds_of prefix) is prefix rest refl;
  wider = λ x ks is. is;
  some = λ b. some_goes_on;
  first = layer_first Begun Exprs whole GoesOn GoesOn read_goes_on goes_on_by refl (λ t ts. refl)
      (goes_on_branch Begun Exprs whole) (λ b. some_goes_on);
}
  where
    only : (x : Bool) (ks : List TokenKind) → GoesOn x ks → (prefix rest : List Token)
        → ks ≡ kinds_of prefix → read_goes_on (prefix ++ rest) ≡ Ok (x, rest)
    only _ _ comma prefix rest e =
        layer_one Begun Exprs whole GoesOn GoesOn read_goes_on goes_on_by refl (λ t ts. refl)
        (goes_on_branch Begun Exprs whole) (λ b. some_goes_on)
        (Sign Comma) true (λ at ts. refl) prefix rest e
    only _ _ close prefix rest e =
        layer_one Begun Exprs whole GoesOn GoesOn read_goes_on goes_on_by refl (λ t ts. refl)
        (goes_on_branch Begun Exprs whole) (λ b. some_goes_on)
        (Sign CloseList) false (λ at ts. refl) prefix rest e

-- ---- entries and the end of the list

pub data Closed {A : Type 0} (IsEntry : A → List TokenKind → Type 0) : List A → List TokenKind
    → Type 0 where
  closed : (xs : List A) (ks : List TokenKind) → AreEntries IsEntry xs ks
      → Closed IsEntry xs (ks ++ (Sign CloseList ∷ []))

pub record ClosedWithin {A : Type 0} (IsEntry : A → List TokenKind → Type 0) (n : ℕ) (xs : List A)
    (ks : List TokenKind) : Type 0 where
  pub spells : Closed IsEntry xs ks
  pub count : length xs ≤ n

abbrev StepIs : {A : Type 0} → (A → List TokenKind → Type 0) → A × Bool → List TokenKind → Type 0
StepIs IsEntry = Then IsEntry (λ x. Then GoesOn (λ b. Nothing (x, b)))

abbrev FollowedIs : {A : Type 0} → (List A → List TokenKind → Type 0) → A × Bool → List A
    → List TokenKind → Type 0
FollowedIs Others (x, true) = Then Others (λ xs. Nothing (x ∷ xs))
FollowedIs Others (x, false) = Nothing (x ∷ [])

abbrev EntriesIs : {A : Type 0} → (A → List TokenKind → Type 0) → (List A → List TokenKind → Type 0)
    → List A → List TokenKind → Type 0
EntriesIs IsEntry Others = Then (StepIs IsEntry) (FollowedIs Others)

module _ {A : Type 0} (Begun Exprs : Type 0) (whole : Option ℕ) (Is IsW : A → List TokenKind
    → Type 0) (read : Reads A)
    (entry : IsReader Begun Exprs whole Is IsW read) where
  reads_step : IsReader Begun Exprs whole (StepIs Is) (StepIs IsW) (step_from read)
  unfolding step_from
  reads_step =
      reads_in_turn Begun Exprs whole _ _ _ _ read (λ x. in_turn read_goes_on
      (λ b ts. Ok ((x, b), ts))) entry
      (λ x. reads_in_turn Begun Exprs whole _ _ _ _ read_goes_on (λ b ts. Ok ((x, b), ts))
      (reads_goes_on Begun Exprs whole) (λ b. reads_nothing Begun Exprs whole (x, b)))

  reads_followed : (Others OthersW : List A → List TokenKind → Type 0) (others : Reads (List A))
      → IsReader Begun Exprs whole Others OthersW others
      → (p : A × Bool) → IsReader Begun Exprs whole (FollowedIs Others p) (FollowedIs OthersW p)
      (followed_by p others)
  reads_followed Others OthersW others rest (x, true) =
      reads_in_turn Begun Exprs whole Others OthersW (λ xs. Nothing (x ∷ xs))
      (λ xs. Nothing (x ∷ xs)) others (λ xs ts. Ok (x ∷ xs, ts)) rest
      (λ xs. reads_nothing Begun Exprs whole (x ∷ xs))
  reads_followed Others OthersW others rest (x, false) = reads_nothing Begun Exprs whole (x ∷ [])

  reads_entries_from : (Others OthersW : List A → List TokenKind → Type 0) (others : Reads (List A))
      → IsReader Begun Exprs whole Others OthersW others
      → IsReader Begun Exprs whole (EntriesIs Is Others) (EntriesIs IsW OthersW)
      (in_turn (step_from read) (λ p. followed_by p others))
  reads_entries_from Others OthersW others rest =
      reads_in_turn Begun Exprs whole (StepIs Is) (StepIs IsW) (FollowedIs Others)
      (FollowedIs OthersW) (step_from read) (λ p. followed_by p others) reads_step
      (reads_followed Others OthersW others rest)

-- what is read so is what stands in the list
module _ {A : Type 0} (E : A → List TokenKind → Type 0) (O T : List A → List TokenKind → Type 0)
    (longer : (x : A) (ks : List TokenKind) (xs : List A) (es : List TokenKind) → E x ks → O xs es
    → T (x ∷ xs) (ks ++ (Sign Comma ∷ (es ++ []))))
    (single : (x : A) (ks : List TokenKind) → E x ks → T (x ∷ []) (ks ++ (Sign CloseList ∷ [])))
  where
    from_parts : (x : A) (b : Bool) (ks ls : List TokenKind) → E x ks → GoesOn b ls
        → (ys : List A) (ms : List TokenKind) → FollowedIs O (x, b) ys ms → T ys (ks ++ (ls ++ ms))
    from_parts x _ ks _ is comma ys _ (both xs _ es ns rest end) =
        with_end (λ z l. T z (ks ++ (Sign Comma ∷ (es ++ l)))) (x ∷ xs) ys ns end
        (longer x ks xs es is rest)
    from_parts x _ ks _ is close ys ms end = with_end (λ z l. T z (ks ++ (Sign CloseList ∷ l)))
        (x ∷ []) ys ms end (single x ks is)

    from_step : (p : A × Bool) (ks : List TokenKind) → StepIs E p ks
        → (ys : List A) (ms : List TokenKind) → FollowedIs O p ys ms → T ys (ks ++ ms)
    from_step p _ (both x _ ks _ is (both b _ ls ns goes end)) ys ms after =
        let n = nothing_is (x, b) p ns end in
        let is-all : T ys (ks ++ (ls ++ ms)) = from_parts x b ks ls is goes ys ms
        (subst (λ (q : A × Bool). FollowedIs O q ys ms) (sym n.0) after) in
        let same : ks ++ (ls ++ ms) ≡ (ks ++ (ls ++ ns)) ++ ms =
        rw n.1 (simp (append_assoc, append-nil)) in
        subst (λ (z : List TokenKind). T ys z) same is-all

    spelled : (ys : List A) (ks : List TokenKind) → EntriesIs E O ys ks → T ys ks
    spelled ys _ (both p _ ks ms step after) = from_step p ks step ys ms after

longer_closed : {A : Type 0} (E : A → List TokenKind → Type 0) (x : A) (ks : List TokenKind)
    (xs : List A) (es : List TokenKind) → E x ks → Closed E xs es
    → Closed E (x ∷ xs) (ks ++ (Sign Comma ∷ (es ++ [])))
longer_closed E x ks _ _ is (closed xs ls all) =
    let same : (ks ++ (Sign Comma ∷ ls)) ++ (Sign CloseList ∷ []) ≡ ks
    ++ (Sign Comma ∷ ((ls ++ (Sign CloseList ∷ [])) ++ [])) =
    simp (append_assoc, append-nil) in
    subst (λ (z : List TokenKind). Closed E (x ∷ xs) z) same
    (closed (x ∷ xs) (ks ++ (Sign Comma ∷ ls)) (more x xs ks ls is all))

single_closed : {A : Type 0} (E : A → List TokenKind → Type 0) (x : A) (ks : List TokenKind)
    → E x ks → Closed E (x ∷ []) (ks ++ (Sign CloseList ∷ []))
single_closed E x ks is = closed (x ∷ []) ks (last x ks is)

spelled_closed : {A : Type 0} (E : A → List TokenKind → Type 0) (ys : List A) (ks : List TokenKind)
    → EntriesIs E (Closed E) ys ks → Closed E ys ks
spelled_closed E ys ks is = spelled E (Closed E) (Closed E) (longer_closed E) (single_closed E) ys
    ks is

spelled_within : {A : Type 0} (E : A → List TokenKind → Type 0) (n : ℕ) (ys : List A)
    (ks : List TokenKind) → EntriesIs E (ClosedWithin E n) ys ks → ClosedWithin E (suc n) ys ks
spelled_within E n ys ks is =
    spelled E (ClosedWithin E n) (ClosedWithin E (suc n))
    (λ x ks xs es is rest. record {
      spells = longer_closed E x ks xs es is rest.spells;
      count =
          omega (arith, rest.count);
    })
    (λ x ks is. record { spells = single_closed E x ks is; count = omega arith }) ys ks is

-- and what stands in the list is read so
spells_entries : {A : Type 0} (E : A → List TokenKind → Type 0) (n : ℕ) (ys : List A)
    (ks : List TokenKind) → Closed E ys ks → length ys ≤ suc n
    → EntriesIs E (ClosedWithin E n) ys ks
spells_entries E n _ _ (closed _ _ (last x ks is)) le =
    let same : (ks ++ (Sign CloseList ∷ [])) ++ [] ≡ ks ++ (Sign CloseList ∷ []) =
    append-nil (ks ++ (Sign CloseList ∷ [])) in
    subst (λ (z : List TokenKind). EntriesIs E (ClosedWithin E n) (x ∷ []) z) same
    (both (x, false) (x ∷ []) (ks ++ (Sign CloseList ∷ [])) []
    (both x (x, false) ks (Sign CloseList ∷ []) is (both false (x, false) (Sign CloseList ∷ [])
    [] close nothing)) nothing)
spells_entries E n _ _ (closed _ _ (more x xs ks ls is all)) le =
    let same : (ks ++ (Sign Comma ∷ [])) ++ ((ls ++ (Sign CloseList ∷ [])) ++ []) ≡
    (ks ++ (Sign Comma ∷ ls)) ++ (Sign CloseList ∷ []) = simp (append_assoc, append-nil) in
    subst (λ (z : List TokenKind). EntriesIs E (ClosedWithin E n) (x ∷ xs) z) same
    (both (x, true) (x ∷ xs) (ks ++ (Sign Comma ∷ [])) ((ls ++ (Sign CloseList ∷ [])) ++ [])
    (both x (x, true) ks (Sign Comma ∷ []) is (both true (x, true) (Sign Comma ∷ []) [] comma
    nothing))
    (both xs (x ∷ xs) (ls ++ (Sign CloseList ∷ [])) [] (record {
      spells = closed xs ls all;
      count =
          omega (arith, le);
    }) nothing))

entries_wider : {A : Type 0} (E F : A → List TokenKind → Type 0)
    → ((x : A) (ks : List TokenKind) → E x ks → F x ks) → (xs : List A) (ks : List TokenKind)
    → AreEntries E xs ks → AreEntries F xs ks
entries_wider E F wider _ _ (last x ks is) = last x ks (wider x ks is)
entries_wider E F wider _ _ (more x xs ks ls is all) = more x xs ks ls (wider x ks is)
    (entries_wider E F wider xs ls all)

closed_wider : {A : Type 0} (E F : A → List TokenKind → Type 0)
    → ((x : A) (ks : List TokenKind) → E x ks → F x ks) → (xs : List A) (ks : List TokenKind)
    → Closed E xs ks → Closed F xs ks
closed_wider E F wider _ _ (closed xs ks all) = closed xs ks (entries_wider E F wider xs ks all)

some_closed : {A : Type 0} (E : A → List TokenKind → Type 0) → Begins E [] → Begins (Closed E) []
some_closed E (x, ks, is) = (x ∷ [], ks ++ (Sign CloseList ∷ []), closed (x ∷ []) ks (last x ks is))

some_entry : {A : Type 0} (E : A → List TokenKind → Type 0) (xs : List A) (ks : List TokenKind)
    → Closed E xs ks → 1 ≤ length xs
some_entry E _ _ (closed _ _ (last x ks is)) = omega arith
some_entry E _ _ (closed _ _ (more x xs ks ls is all)) = omega arith

-- ---- where no entry is left

many_stops : {A : Type 0} (Exprs : Type 0) (whole : Option ℕ) (Is : A → List TokenKind → Type 0)
    (t : Token) (ts : List Token) (r : Refusal)
    → Begins Is [] → refused_as (refusal t.at why.Many) t.kind t.at ≡ r
    → Stops Exprs whole Is (λ us. Err (too_many us)) (t ∷ ts) r
unfolding too_many
many_stops {A} Exprs whole Is t ts r some e = record {
  before = [];
  refused = t;
  after = ts;
  parts = refl;
  begins = some;
  stands = λ other. ap (λ (z : Refusal). Err z) e;
  ends = here (there (ap (λ (z : Refusal). z.at) (sym e) ∙ place t.kind));
  cause = subst (λ (z : Refusal). CauseOf Is (λ us. refusing us) [] t.kind z.why) e
      (why_map _ _ _ _ _ _ (λ j on. on) (λ full other. (too_many other, refl)) t.kind
      (refused_as (refusal t.at why.Many) t.kind t.at).why
      (λ j a stuck u other f. (too_many (u ∷ other), refl))
      (limit_causes (λ j. Begins Is (j ∷ [])) (λ j. Unit {0}) (refusal t.at why.Many) tt t.kind
      t.at));
}
  where
    refusing : List Token → Result (A × List Token) Refusal
    refusing us = Err (too_many us)

    place : (k : TokenKind) → (refused_as (refusal t.at why.Many) k t.at).at ≡ t.at
    place Byte = refl
    place End = refl
    place _ = refl

reads_no_entry : {A : Type 0} (Begun Exprs : Type 0) (whole : Option ℕ) (Is IsW : A → List TokenKind
    → Type 0) → ((x : A) (ks : List TokenKind) → IsW x ks → ⊥)
    → (Begun → Begins Is []) → IsReader Begun Exprs whole Is IsW (λ ts. Err (too_many ts))
unfolding too_many
reads_no_entry {A} Begun Exprs whole Is IsW bar some = record {
  found = λ ts x rest e. absurd cc;
  only = λ x prefix rest is. absurd (bar x (kinds_of prefix) is);
  wider = λ x ks is. absurd (bar x ks is);
  some = some;
  first = λ b ts r e. stops b ts r (same ts r e);
}
  where
    failing : Refusal → Result (A × List Token) Refusal
    failing r = Err r

    same : (ts : List Token) (r : Refusal) → failing (too_many ts) ≡ failing r → too_many ts ≡ r
    same ts r e = cc

    stops : Begun → (ts : List Token) (r : Refusal) → too_many ts ≡ r
        → Refuses Exprs whole Is (λ us. Err (too_many us)) ts r
    stops b [] r e = inl (record { is_end = sym e; begins = some b })
    stops b (t ∷ ts) r e = inr (many_stops Exprs whole Is t ts r (some b) e)

-- ---- the entries of a list

module _ {A : Type 0} (Begun Exprs : Type 0) (whole : Option ℕ) (Is IsW : A → List TokenKind
    → Type 0) (read : Reads A)
    (entry : IsReader Begun Exprs whole Is IsW read) where
  pub reads_entries : (n : ℕ) → IsReader Begun Exprs whole (Closed Is) (ClosedWithin IsW n)
      (entries_within read n)
  unfolding entries_within
  reads_entries zero =
      reads_no_entry Begun Exprs whole (Closed Is) (ClosedWithin IsW 0)
      (λ xs ks is. omega (arith, some_entry IsW xs ks is.spells, is.count))
      (λ b. some_closed Is (entry.some b))
  reads_entries (suc n) =
      reads_as Begun Exprs whole (EntriesIs Is (Closed Is)) (EntriesIs IsW (ClosedWithin IsW n))
      (Closed Is) (ClosedWithin IsW (suc n)) (entries_within read (suc n))
      (reads_entries_from Begun Exprs whole Is IsW read entry (Closed Is) (ClosedWithin IsW n)
      (entries_within read n) (reads_entries n))
      (λ xs ks is. spelled_closed Is xs ks is) (λ xs ks is. spelled_within IsW n xs ks is)
      (λ xs ks is. spells_entries IsW n xs ks is.spells is.count)
      (λ xs ks is. closed_wider IsW Is entry.wider xs ks is.spells)

-- ---- whole lists

open_alone : (k : TokenKind) → is_open_list k ≡ true → k ≡ Sign OpenList
open_alone (Sign OpenList) e = refl
open_alone _ e = absurd cc

reads_open_list : (Begun Exprs : Type 0) (whole : Option ℕ) → IsReader Begun Exprs whole
    (ThisKind (Sign OpenList)) (ThisKind (Sign OpenList)) (wanted is_open_list)
reads_open_list Begun Exprs whole = reads_wanted Begun Exprs whole OpenList is_open_list refl
    open_alone

pub record FilledWithin {A : Type 0} (IsEntry : A → List TokenKind → Type 0) (xs : List A)
    (ks : List TokenKind) : Type 0 where
  pub spells : IsFilled IsEntry xs ks
  pub count : length xs ≤ 32

filled_is : {A : Type 0} (E : A → List TokenKind → Type 0) (xs : List A) (ks : List TokenKind)
    → Then (ThisKind (Sign OpenList)) (λ x. Closed E) xs ks → IsFilled E xs ks
filled_is E _ _ (both _ _ _ _ one (closed xs ks all)) = entries xs ks all

filled_within : {A : Type 0} (E : A → List TokenKind → Type 0) (xs : List A) (ks : List TokenKind)
    → Then (ThisKind (Sign OpenList)) (λ x. ClosedWithin E 32) xs ks
    → FilledWithin E xs ks
filled_within E xs _ (both x _ _ ls one is) = record {
  spells = filled_is E xs (Sign OpenList ∷ ls)
      (both x xs (Sign OpenList ∷ []) ls one is.spells);
  count = is.count;
}

spells_filled : {A : Type 0} (E : A → List TokenKind → Type 0) (xs : List A) (ks : List TokenKind)
    → IsFilled E xs ks → length xs ≤ 32
    → Then (ThisKind (Sign OpenList)) (λ x. ClosedWithin E 32) xs ks
spells_filled E _ _ (entries xs ks all) le =
    both tt xs (Sign OpenList ∷ []) (ks ++ (Sign CloseList ∷ [])) one
    (record { spells = closed xs ks all; count = le })

filled_wider : {A : Type 0} (E F : A → List TokenKind → Type 0)
    → ((x : A) (ks : List TokenKind) → E x ks → F x ks) → (xs : List A) (ks : List TokenKind)
    → IsFilled E xs ks → IsFilled F xs ks
filled_wider E F wider _ _ (entries xs ks all) = entries xs ks (entries_wider E F wider xs ks all)

pub reads_filled : {A : Type 0} (Begun Exprs : Type 0) (whole : Option ℕ)
    (Is IsW : A → List TokenKind → Type 0) (read : Reads A)
    → IsReader Begun Exprs whole Is IsW read → IsReader Begun Exprs whole (IsFilled Is)
    (FilledWithin IsW) (filled_from read)
unfolding filled_from
reads_filled Begun Exprs whole Is IsW read entry =
    reads_as Begun Exprs whole (Then (ThisKind (Sign OpenList)) (λ x. Closed Is))
    (Then (ThisKind (Sign OpenList)) (λ x. ClosedWithin IsW 32)) (IsFilled Is)
    (FilledWithin IsW)
    (filled_from read)
    (reads_in_turn Begun Exprs whole (ThisKind (Sign OpenList)) (ThisKind (Sign OpenList))
    (λ x. Closed Is) (λ x. ClosedWithin IsW 32) (wanted is_open_list)
    (λ x us. entries_within read 32 us) (reads_open_list Begun Exprs whole)
    (λ x. reads_entries Begun Exprs whole Is IsW read entry 32))
    (λ xs ks is. filled_is Is xs ks is) (λ xs ks is. filled_within IsW xs ks is)
    (λ xs ks is. spells_filled IsW xs ks is.spells is.count)
    (λ xs ks is. filled_wider IsW Is entry.wider xs ks is.spells)

-- ---- lists that may be empty

-- what begins an entry isn't the end of the list
pub record Starts (ks : List TokenKind) : Type 0 where
  pub head : TokenKind
  pub tail : List TokenKind
  pub parts : ks ≡ head ∷ tail
  pub other : head ≡ Sign CloseList → ⊥

-- after `[`
data Rest {A : Type 0} (IsEntry : A → List TokenKind → Type 0) : List A → List TokenKind
    → Type 0 where
  no_entry : Rest IsEntry [] (Sign CloseList ∷ [])
  some_entries : (xs : List A) (ks : List TokenKind) → Closed IsEntry xs ks → Rest IsEntry xs ks

record RestWithin {A : Type 0} (IsEntry : A → List TokenKind → Type 0) (xs : List A)
    (ks : List TokenKind) : Type 0 where
  pub spells : Rest IsEntry xs ks
  pub count : length xs ≤ 32

starts_more : (ks ls : List TokenKind) → Starts ks → Starts (ks ++ ls)
starts_more ks ls s = record {
  head = s.head;
  tail = s.tail ++ ls;
  parts =
      ap (λ (z : List TokenKind). z ++ ls) s.parts;
  other = s.other;
}

starts_closed : {A : Type 0} (E : A → List TokenKind → Type 0)
    → ((x : A) (ks : List TokenKind) → E x ks → Starts ks) → (xs : List A) (ks : List TokenKind)
    → Closed E xs ks → Starts ks
starts_closed E starts _ _ (closed _ _ (last x ks is)) = starts_more ks (Sign CloseList ∷ [])
    (starts x ks is)
starts_closed E starts _ _ (closed _ _ (more x xs ks ls is all)) =
    starts_more (ks ++ (Sign Comma ∷ ls)) (Sign CloseList ∷ [])
    (starts_more ks (Sign Comma ∷ ls) (starts x ks is))

decide : (k : TokenKind) → (k ≡ Sign CloseList) ⊎ (k ≡ Sign CloseList → ⊥)
decide (Sign CloseList) = inl refl
decide _ = inr (λ e. cc)

not_close : (k j : TokenKind) → AreAlike k j → (k ≡ Sign CloseList → ⊥) → j ≡ Sign CloseList → ⊥
not_close _ _ (itself k) bar e = bar e
not_close _ _ (two_numbers n m) bar e = absurd cc
not_close _ _ (two_names v w) bar e = absurd cc

rest_wider : {A : Type 0} (E F : A → List TokenKind → Type 0)
    → ((x : A) (ks : List TokenKind) → E x ks → F x ks) → (xs : List A) (ks : List TokenKind)
    → Rest E xs ks → Rest F xs ks
rest_wider E F wider _ _ no_entry = no_entry
rest_wider E F wider _ _ (some_entries xs ks is) = some_entries xs ks
    (closed_wider E F wider xs ks is)

-- the same first token, whatever follows
same_head : (t : Token) (ts before : List Token) (u : Token) (after other : List Token)
    → t ∷ ts ≡ before ++ (u ∷ after) → (us : List Token) × (before ++ (u ∷ other) ≡ t ∷ us)
same_head t ts [] u after other e = (other, cc)
same_head t ts (v ∷ before) u after other e = (before ++ (u ∷ other), cc)

module _ {A : Type 0} (Begun Exprs : Type 0) (Is IsW : A → List TokenKind → Type 0) (read : Reads A)
    (entry : IsReader Begun Exprs None Is IsW read)
    (some_within : (x : A) × (ks : List TokenKind) × IsW x ks)
    (starts : (x : A) (ks : List TokenKind) → IsW x ks → Starts ks) where
  all : IsReader Begun Exprs None (Closed Is) (ClosedWithin IsW 32) (entries_within read 32)
  all = reads_entries Begun Exprs None Is IsW read entry 32

  at_close : (t : Token) (us : List Token) → t.kind ≡ Sign CloseList
      → entries_from read (t ∷ us) ≡ Ok ([], us)
  unfolding entries_from
  at_close t us e = ap (λ (k : TokenKind). list_by k t read us) e

  at_entry : (t : Token) (us : List Token) → (t.kind ≡ Sign CloseList → ⊥)
      → entries_from read (t ∷ us) ≡ entries_within read 32 (t ∷ us)
  unfolding entries_from
  at_entry t us bar = by t.kind bar
    where
      by : (k : TokenKind) → (k ≡ Sign CloseList → ⊥) → list_by k t read us ≡ entries_within read 32
          (t ∷ us)
      by (Sign CloseList) h = absurd (h refl)
      by _ h = refl

  rest_found : (ts : List Token) (xs : List A) (rest : List Token)
      → entries_from read ts ≡ Ok (xs, rest) → SentencePrefix (RestWithin IsW) xs ts rest
  unfolding entries_from
  rest_found [] xs rest e = absurd cc
  rest_found (t ∷ ts) xs rest e = elim (decide t.kind) [
    | inl is ↦
        let o = one_value [] xs ts rest (sym (at_close t ts is) ∙ e) in (
          t ∷ [],
          subst (λ (k : TokenKind). RestWithin IsW xs (k ∷ [])) (sym is)
              (subst (λ (z : List A). RestWithin IsW z (Sign CloseList ∷ [])) o.0 nothing_there),
          ap (λ (z : List Token). t ∷ z) o.1,
        )
    | inr bar ↦
        let f = all.found (t ∷ ts) xs rest (sym (at_entry t ts bar) ∙ e) in
        (f.0, record { spells = some_entries xs (kinds_of f.0) f.1.spells; count = f.1.count }, f.2)
  ]
    where
      nothing_there : RestWithin IsW [] (Sign CloseList ∷ [])
      nothing_there = record { spells = no_entry; count = omega arith }

  rest_only : (xs : List A) (ks : List TokenKind) → Rest IsW xs ks → length xs ≤ 32
      → (prefix rest : List Token) → ks ≡ kinds_of prefix
      → entries_from read (prefix ++ rest) ≡ Ok (xs, rest)
  rest_only _ _ no_entry le prefix rest e =
      let c = uncons (Sign CloseList) [] prefix e in
      ap (λ (z : List Token). entries_from read (z ++ rest)) c.parts
      ∙ at_close c.head (c.tail ++ rest) c.head_kind
      ∙ ap (λ (z : List Token). done [] (z ++ rest)) (none c.tail c.tail_kinds)
  rest_only _ _ (some_entries xs ks is) le prefix rest e =
      let s = starts_closed IsW starts xs ks is in
      let c = uncons s.head s.tail prefix (sym s.parts ∙ e) in
      let given = all.only xs prefix rest
      (record {
        spells = subst (λ (z : List TokenKind). Closed IsW xs z) e is;
        count =
            le;
      }) in
      ap (λ (z : List Token). entries_from read (z ++ rest)) c.parts
      ∙ at_entry c.head (c.tail ++ rest) (λ h. s.other (sym c.head_kind ∙ h))
      ∙ ap (λ (z : List Token). entries_within read 32 (z ++ rest)) (sym c.parts) ∙ given

  refuses_from : (u : Token) (us : List Token) → (u.kind ≡ Sign CloseList → ⊥)
      → causes.Refuses (entries_within read 32) (u ∷ us)
      → causes.Refuses (entries_from read) (u ∷ us)
  refuses_from u us bar (d, e) = (d, at_entry u us bar ∙ e)

  -- some list is read
  reads_some : ((other : List Token) → causes.Refuses (entries_within read 32) other) → ⊥
  reads_some refuses = by some_within
    where
      differ : (xs : List A) (rest us : List Token) → entries_within read 32 us ≡ done xs rest
          → causes.Refuses (entries_within read 32) us → ⊥
      differ xs rest us e (d, f) = cc

      by : (x : A) × (ks : List TokenKind) × IsW x ks → ⊥
      by (x, ks, is) =
          let us = tokens_of (ks ++ (Sign CloseList ∷ [])) in
          let whole : ClosedWithin IsW 32 (x ∷ []) (ks ++ (Sign CloseList ∷ [])) =
          record { spells = closed (x ∷ []) ks (last x ks is); count = omega arith } in
          differ (x ∷ []) [] (us ++ [])
          (all.only (x ∷ []) us []
          (subst (λ (z : List TokenKind). ClosedWithin IsW 32 (x ∷ []) z)
          (sym (kinds-tokens (ks ++ (Sign CloseList ∷ [])))) whole))
          (refuses (us ++ []))

  some_rest : Begins (Rest Is) []
  some_rest = ([], Sign CloseList ∷ [], no_entry)

  rest_begins : (ks : List TokenKind) → Begins (Closed Is) ks → Begins (Rest Is) ks
  rest_begins ks (xs, after, is) = (xs, after, some_entries xs (ks ++ after) is)

  rest_ends : (before : List Token) (t : Token) (r : Refusal)
      → Ends Exprs None (entries_within read 32) before t r → Ends Exprs None (entries_from read)
      before t r
  rest_ends before t r (here h) = here h
  rest_ends before t r (in_expr q outside within e d) = in_expr q outside within e d
  rest_ends before t r (deep n is e h) = absurd (apart n is)
    where
      apart : (n : ℕ) → None ≡ Some n → ⊥
      apart n e = cc

  rest_first : Begun → (ts : List Token) (r : Refusal) → entries_from read ts ≡ Err r
      → Refuses Exprs None (Rest Is) (entries_from read) ts r
  unfolding entries_from
  rest_first b [] r e = inl (record { is_end = is_end; begins = some_rest })
    where
      is_end : r ≡ run_out
      is_end = cc
  rest_first b (t ∷ ts) r e = elim (decide t.kind) [
    | inl is ↦ absurd (apart ts (sym (at_close t ts is) ∙ e))
    | inr bar ↦ known bar (all.first b (t ∷ ts) r (sym (at_entry t ts bar) ∙ e))
  ]
    where
      apart : (us : List Token) → done {A = List A} [] us ≡ Err r → ⊥
      apart us e = cc

      known : (t.kind ≡ Sign CloseList → ⊥) → Refuses Exprs None (Closed Is)
          (entries_within read 32)
          (t ∷ ts) r → Refuses Exprs None (Rest Is) (entries_from read) (t ∷ ts) r
      known bar (inl out) = inl (record {
        is_end = out.is_end;
        begins =
            rest_begins (kinds_of (t ∷ ts)) out.begins;
      })
      known bar (inr s) = inr (record {
        before = s.before;
        refused = s.refused;
        after = s.after;
        parts = s.parts;
        begins = rest_begins (kinds_of s.before) s.begins;
        stands = λ other.
            let h = same_head t ts s.before s.refused s.after other s.parts in
            ap (λ (z : List Token). entries_from read z) h.1 ∙ at_entry t h.0 bar
            ∙ ap (λ (z : List Token). entries_within read 32 z) (sym h.1) ∙ s.stands other;
        ends = rest_ends s.before s.refused r s.ends;
        cause = why_map _ _ _ _ _ _ (λ k on. rest_begins (kinds_of s.before ++ (k ∷ [])) on)
            (full s.before s.refused s.after s.parts) s.refused.kind r.why
            (λ j a. stuck s.before s.refused s.after s.parts j a) s.cause;
      })
        where
          first_is : (u v : Token) (us vs : List Token) → u ∷ us ≡ v ∷ vs → u ≡ v
          first_is u v us vs f = cc

          full : (before : List Token) (u : Token) (after : List Token)
              → t ∷ ts ≡ before ++ (u ∷ after)
              → ((other : List Token) → causes.Refuses (entries_within read 32) (before ++ other))
              → (other : List Token) → causes.Refuses (entries_from read) (before ++ other)
          full [] u after parts f other = absurd (reads_some f)
          full (v ∷ vs) u after parts f other =
              refuses_from v (vs ++ other)
              (λ h. bar (ap (λ (z : Token). z.kind) (first_is t v ts (vs ++ (u ∷ after)) parts)
              ∙ h))
              (f other)

          stuck : (before : List Token) (u : Token) (after : List Token)
              → t ∷ ts ≡ before ++ (u ∷ after) → (j : TokenKind) → AreAlike u.kind j
              → ((w : Token) (other : List Token) → w.kind ≡ j
              → causes.Refuses (entries_within read 32) (before ++ (w ∷ other)))
              → (w : Token) (other : List Token) → w.kind ≡ j
              → causes.Refuses (entries_from read) (before ++ (w ∷ other))
          stuck [] u after parts j a f w other e =
              refuses_from w other
              (λ h. not_close u.kind j a
              (λ g. bar (ap (λ (z : Token). z.kind) (first_is t u ts after parts) ∙ g)) (sym e ∙ h))
              (f w other e)
          stuck (v ∷ vs) u after parts j a f w other e =
              refuses_from v (vs ++ (w ∷ other))
              (λ h. bar (ap (λ (z : Token). z.kind) (first_is t v ts (vs ++ (u ∷ after)) parts)
              ∙ h))
              (f w other e)

  reads_rest : IsReader Begun Exprs None (Rest Is) (RestWithin IsW) (entries_from read)
  reads_rest = record {
    found = rest_found;
    only = λ xs prefix rest is. rest_only xs (kinds_of prefix) is.spells is.count prefix rest refl;
    wider = λ xs ks is. rest_wider IsW Is entry.wider xs ks is.spells;
    some = λ b. some_rest;
    first = rest_first;
  }

pub record ListWithin {A : Type 0} (IsEntry : A → List TokenKind → Type 0) (xs : List A)
    (ks : List TokenKind) : Type 0 where
  pub spells : IsList IsEntry xs ks
  pub count : length xs ≤ 32

list_is : {A : Type 0} (E : A → List TokenKind → Type 0) (xs : List A) (ks : List TokenKind)
    → Then (ThisKind (Sign OpenList)) (λ x. Rest E) xs ks → IsList E xs ks
list_is E _ _ (both _ _ _ _ one no_entry) = empty
list_is E _ _ (both _ _ _ _ one (some_entries _ _ (closed xs ks all))) =
    filled xs (Sign OpenList ∷ (ks ++ (Sign CloseList ∷ []))) (entries xs ks all)

list_within : {A : Type 0} (E : A → List TokenKind → Type 0) (xs : List A) (ks : List TokenKind)
    → Then (ThisKind (Sign OpenList)) (λ x. RestWithin E) xs ks → ListWithin E xs ks
list_within E xs _ (both x _ _ ls one is) = record {
  spells = list_is E xs (Sign OpenList ∷ ls)
      (both x xs (Sign OpenList ∷ []) ls one is.spells);
  count = is.count;
}

spells_list : {A : Type 0} (E : A → List TokenKind → Type 0) (xs : List A) (ks : List TokenKind)
    → IsList E xs ks → length xs ≤ 32
    → Then (ThisKind (Sign OpenList)) (λ x. RestWithin E) xs ks
spells_list E _ _ empty le = both tt [] (Sign OpenList ∷ []) (Sign CloseList ∷ []) one
    (record { spells = no_entry; count = le })
spells_list E _ _ (filled _ _ (entries xs ks all)) le =
    both tt xs (Sign OpenList ∷ []) (ks ++ (Sign CloseList ∷ [])) one
    (record {
      spells = some_entries xs (ks ++ (Sign CloseList ∷ [])) (closed xs ks all);
      count =
          le;
    })

list_wider : {A : Type 0} (E F : A → List TokenKind → Type 0)
    → ((x : A) (ks : List TokenKind) → E x ks → F x ks) → (xs : List A) (ks : List TokenKind)
    → IsList E xs ks → IsList F xs ks
list_wider E F wider _ _ empty = empty
list_wider E F wider _ _ (filled xs ks is) = filled xs ks (filled_wider E F wider xs ks is)

reads_list_alone : {A : Type 0} (Begun Exprs : Type 0) (Is IsW : A → List TokenKind → Type 0)
    (read : Reads A) → IsReader Begun Exprs None Is IsW read
    → (x : A) × (ks : List TokenKind) × IsW x ks
    → ((x : A) (ks : List TokenKind) → IsW x ks → Starts ks)
    → IsReader Begun Exprs None (IsList Is) (ListWithin IsW) (list_from read)
unfolding list_from
reads_list_alone Begun Exprs Is IsW read entry some starts =
    reads_as Begun Exprs None (Then (ThisKind (Sign OpenList)) (λ x. Rest Is))
    (Then (ThisKind (Sign OpenList)) (λ x. RestWithin IsW)) (IsList Is) (ListWithin IsW)
    (list_from read)
    (reads_in_turn Begun Exprs None (ThisKind (Sign OpenList)) (ThisKind (Sign OpenList))
    (λ x. Rest Is) (λ x. RestWithin IsW) (wanted is_open_list) (λ x us. entries_from read us)
    (reads_open_list Begun Exprs None) (λ x. reads_rest Begun Exprs Is IsW read entry some starts))
    (λ xs ks is. list_is Is xs ks is) (λ xs ks is. list_within IsW xs ks is)
    (λ xs ks is. spells_list IsW xs ks is.spells is.count)
    (λ xs ks is. list_wider IsW Is entry.wider xs ks is.spells)

pub reads_list : {A : Type 0} (Begun Exprs : Type 0) (whole : Option ℕ) (Is IsW : A → List TokenKind
    → Type 0) (read : Reads A) → IsReader Begun Exprs None Is IsW read
    → (x : A) × (ks : List TokenKind) × IsW x ks
    → ((x : A) (ks : List TokenKind) → IsW x ks → Starts ks)
    → IsReader Begun Exprs whole (IsList Is) (ListWithin IsW) (list_from read)
reads_list Begun Exprs whole Is IsW read entry some starts =
    reads_anywhere Begun Exprs whole (IsList Is) (ListWithin IsW) (list_from read)
    (reads_list_alone Begun Exprs Is IsW read entry some starts)
