-- Lists of entries: what their results are, what they tell, and which stand in them.
use Rattle.std.proofs.Common.{◌≡◌, ◌⊎◌, ℕ, List, [], ◌∷◌, ◌++◌, map, Option, Some, None, inl}
use Rattle.std.proofs.Common.{inr, refl, sym, subst, ◌∙◌, arith, option_to_list, IfSome}
use Rattle.std.specs.Prelude.{⊤}
use Rattle.std.specs.List.{All, Contains}
use Rattle.std.proofs.lemmas.List.Elements.{All-weaker, All-contains, All-contains_itself}
use Rattle.pipes_stream.specs.declared.Elem.{Elem}
use Rattle.pipes_output.specs.declared.entry.Entry.{Entry}
use Rattle.pipes_output.specs.declared.entry.Entry.TheVariants as entry
use Rattle.pipes_semantics.specs.Written.{results, EndsRun}
use Rattle.pipes_told.specs.Told.{Told, after_entry, after_entries}
use Rattle.pipes_told.specs.Pacing.{GoesOn}
use Rattle.pipes_replies.specs.declared.replies.Paced.{Paced}
use Rattle.pipes_replies.specs.Telling.{ArePaces, told_in}
use Rattle.pipes_engine.proofs.Splits.{contains-cases}

-- each is so, and so
pub all-both : {X : Type 0} (P Q : X → Type 0) (xs : List X) → All P xs → All Q xs
    → All (λ x. P x × Q x) xs
all-both {X} P Q xs p q = All-weaker (Contains xs) (λ (x : X). P x × Q x)
    (λ x c. (All-contains P xs x p c, All-contains Q xs x q c)) xs (All-contains_itself xs)

pub goes-append : (xs ys : List Entry) → GoesOn xs → GoesOn ys → GoesOn (xs ++ ys)
goes-append [] ys first second = second
goes-append (x ∷ xs) ys first second = (first.0, goes-append xs ys first.1 second)

-- ---- results

pub goes-results : (es : List Elem) → GoesOn (map entry.Result es)
goes-results [] = tt
goes-results (e ∷ es) = (ends e, goes-results es)
  where
    ends : (e : Elem) → EndsRun (entry.Result e) → ⊥
    ends e (inl is) = cc (is)
    ends e (inr is) = cc (is)

pub none-results : (es : List Elem) (number split : ℕ)
    → Contains (map entry.Result es) (entry.Accepted number split) → ⊥
none-results [] number split c = let low = c.1 in omega (arith, low)
none-results (e ∷ es) number split c =
    elim (contains-cases (entry.Result e) (map entry.Result es) (entry.Accepted number split) c) [
      | inl is ↦ cc (is)
      | inr later ↦ none-results es number split later
    ]

-- ---- that a migration is idle, or over

abbrev pub IsPace : Entry → Type 0
IsPace e = ((number : ℕ) × (e ≡ entry.Idle number)) ⊎ ((number : ℕ) × (e ≡ entry.Over number))

abbrev pub EachPace : List Entry → Type 0
EachPace [] = ⊤
EachPace (e ∷ es) = IsPace e × EachPace es

pace-append : (xs ys : List Entry) → EachPace xs → EachPace ys → EachPace (xs ++ ys)
pace-append [] ys first second = second
pace-append (x ∷ xs) ys first second = (first.0, pace-append xs ys first.1 second)

one-idle : (o : Option Entry) → IfSome o (λ e. (number : ℕ) × (e ≡ entry.Idle number))
    → EachPace (option_to_list o)
one-idle None is = tt
one-idle (Some e) is = (inl is, tt)

one-over : (o : Option Entry) → IfSome o (λ e. (number : ℕ) × (e ≡ entry.Over number))
    → EachPace (option_to_list o)
one-over None is = tt
one-over (Some e) is = (inr is, tt)

pub each-pace : (p : Paced) → ArePaces p → EachPace (told_in p)
each-pace p are = pace-append (option_to_list p.idle) (option_to_list p.over)
    (one-idle p.idle are.idle) (one-over p.over are.over)

-- what is so of both, where the rest is so
pace-case : (P : Entry → Type 0) (e : Entry) → IsPace e → ((n : ℕ) → P (entry.Idle n))
    → ((n : ℕ) → P (entry.Over n)) → P e
pace-case P e (inl is) idle over = subst P (sym is.1) (idle is.0)
pace-case P e (inr is) idle over = subst P (sym is.1) (over is.0)

pub no-results : (es : List Entry) → EachPace es → results es ≡ []
no-results [] each = refl
no-results (e ∷ es) each =
    let rest = no-results es each.1 in
    pace-case (λ (x : Entry). results (x ∷ es) ≡ []) e each.0 (λ n. rest) (λ n. rest)

pub goes-pace : (es : List Entry) → EachPace es → GoesOn es
goes-pace [] each = tt
goes-pace (e ∷ es) each = (
  pace-case (λ (x : Entry). EndsRun x → ⊥) e each.0 idle over,
  goes-pace es each.1,
)
  where
    idle : (n : ℕ) → EndsRun (entry.Idle n) → ⊥
    idle n (inl is) = cc (is)
    idle n (inr is) = cc (is)

    over : (n : ℕ) → EndsRun (entry.Over n) → ⊥
    over n (inl is) = cc (is)
    over n (inr is) = cc (is)

pub none-pace : (es : List Entry) (number split : ℕ) → EachPace es
    → Contains es (entry.Accepted number split) → ⊥
none-pace [] number split each c = let low = c.1 in omega (arith, low)
none-pace (e ∷ es) number split each c =
    elim (contains-cases e es (entry.Accepted number split) c) [
      | inl is ↦ pace-case (λ (x : Entry). x ≡ entry.Accepted number split → ⊥) e each.0
          (λ n same. cc (same)) (λ n same. cc (same)) is
      | inr later ↦ none-pace es number split each.1 later
    ]

-- nothing else changes of what is told
pub record SameTold {P D : Type 0} (old new : Told P D) : Type 0 where
  pub asks : new.asks ≡ old.asks
  pub plan : new.plan ≡ old.plan
  pub earlier : new.earlier ≡ old.earlier

module _ {P D : Type 0} (target : D → P) where
  pub same-told : (told : Told P D) (es : List Entry) → EachPace es
      → SameTold told (after_entries target told es)
  same-told told [] each = record { asks = refl; plan = refl; earlier = refl }
  same-told told (e ∷ es) each =
      let rest = same-told (after_entry target told e) es each.1 in
      let one : SameTold told (after_entry target told e) =
      pace-case (λ (x : Entry). SameTold told (after_entry target told x)) e each.0
      (λ n. record { asks = refl; plan = refl; earlier = refl })
      (λ n. record { asks = refl; plan = refl; earlier = refl }) in
      record {
        asks = rest.asks ∙ one.asks;
        plan = rest.plan ∙ one.plan;
        earlier = rest.earlier ∙ one.earlier;
      }
