-- A function of a name after its value at one name has changed.
use Rattle.std.proofs.Common.{◌≡◌, ℕ, ◌≤◌, List, Option, Some, None, Bool, true, false}
use Rattle.std.proofs.Common.{if◌then◌else◌, is_some, IsSome, option_map, unwrap_or, String, Vec}
use Rattle.std.proofs.Common.{BTreeMap, refl, sym, subst, ap, ◌∙◌, arith}
use Rattle.std.proofs.Math.Path.{fun_ext}
use Rattle.std.proofs.lemmas.Slice.Eq.{bytes_eq-Decides}
use Rattle.std.specs.BTreeMap.{get_by_text}
use Rattle.std.specs.Map.{update}
use Rattle.std.specs.Str.{bytes_eq}
use Rattle.pipes_edge.specs.Causes.{raised}
use Rattle.pipes_edge.specs.ByName.{files_in, set_at, Counts, count_at, kept_at, raised_at}

-- what holds at the name and of every old value holds of every value
pub set_at-cases : {A : Type 0} (P : List ℕ → A → Type 0) (f : List ℕ → A) (name : List ℕ)
    (value : A) → P name value → ((n : List ℕ) → P n (f n)) → (n : List ℕ)
    → P n (set_at f name value n)
set_at-cases P f name value here there n = go (bytes_eq name n) refl
  where
    go : (b : Bool) → bytes_eq name n ≡ b → P n (if b then value else f n)
    go true e = subst (λ m. P m value) ((bytes_eq-Decides name n).0 e) here
    go false e = there n

-- a name without a count has the count 0
pub count_at-none : (counts : Counts) (name : List ℕ) (found : Bool) → found ≡ false
    → found ≡ is_some (counts name) → count_at counts name ≡ 0
count_at-none counts name found absent is = go (counts name) (sym is ∙ absent)
  where
    go : (o : Option ℕ) → is_some o ≡ false → unwrap_or o 0 ≡ 0
    go None h = refl
    go (Some count) h = cc

module _ (old new : Counts) (name : List ℕ) where
  -- where a count is kept, one that was kept still is
  pub IsSome-kept_at : new ≡ kept_at old name → (n : List ℕ) → IsSome (old n) → IsSome (new n)
  IsSome-kept_at e n h = subst (λ (f : Counts). IsSome (f n)) (sym e)
      (set_at-cases (λ n x. IsSome (old n) → IsSome x) old name (Some (count_at old name))
      (λ h. refl) (λ n h. h) n h)

  -- where a count is kept, none changes
  pub count_at-kept_at : new ≡ kept_at old name → (n : List ℕ) → count_at new n ≡ count_at old n
  count_at-kept_at e n = ap (λ (f : Counts). count_at f n) e
      ∙ set_at-cases (λ n x. unwrap_or x 0 ≡ count_at old n) old name (Some (count_at old name))
      refl (λ n. refl) n

  -- where a count is raised, one that was kept still is
  pub IsSome-raised_at : new ≡ raised_at old name → (n : List ℕ) → IsSome (old n) → IsSome (new n)
  IsSome-raised_at e n h = subst (λ (f : Counts). IsSome (f n)) (sym e)
      (set_at-cases (λ n x. IsSome (old n) → IsSome x) old name (option_map raised (old name))
      (go (old name)) (λ n h. h) n h)
    where
      go : (o : Option ℕ) → IsSome o → IsSome (option_map raised o)
      go None h = h
      go (Some count) h = refl

  -- where a count is raised, none falls
  pub count_at-raised_at : new ≡ raised_at old name → (n : List ℕ) → count_at old n ≤ count_at new n
  count_at-raised_at e n = subst (λ (f : Counts). count_at old n ≤ count_at f n) (sym e)
      (set_at-cases (λ n x. count_at old n ≤ unwrap_or x 0) old name (option_map raised (old name))
      (go (old name)) (λ n. omega arith) n)
    where
      go : (o : Option ℕ) → unwrap_or o 0 ≤ unwrap_or (option_map raised o) 0
      go None = omega arith
      go (Some count) = omega arith

module _ {A B : Type 0} (old new : BTreeMap (String A) (Vec ℕ B)) (name : List ℕ) (held : Vec ℕ B)
  where
    -- the files of a map in which these bytes were put under the name
    pub files_in-update : ((n : List ℕ) → get_by_text new n ≡ update bytes_eq (get_by_text old) name
        (Some held) n) → files_in new ≡ set_at (files_in old) name (Some held.items)
    files_in-update sets = fun_ext
        (λ n. ap (λ (o : Option (Vec ℕ B)). option_map (λ (v : Vec ℕ B). v.items) o) (sets n)
        ∙ go (bytes_eq name n) (get_by_text old n))
      where
        go : (b : Bool) (o : Option (Vec ℕ B)) → option_map (λ (v : Vec ℕ B). v.items)
            (if b then Some held else o) ≡ (if b then Some held.items else option_map
            (λ (v : Vec ℕ B). v.items) o)
        go true o = refl
        go false o = refl
