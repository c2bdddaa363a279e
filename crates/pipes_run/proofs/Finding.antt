-- The sources of a query: found by their files' names, and blamed for what fails.
use Rattle.std.proofs.Common.{◌≡◌, ◌⊎◌, ℕ, zero, suc, ◌<◌, List, [], ◌∷◌, ◌++◌, length, map, get_or}
use Rattle.std.proofs.Common.{slice_get, Option, Some, None, Result, Ok, Err, IsSome, refl, sym}
use Rattle.std.proofs.Common.{subst, ◌∙◌, ap, arith, inl, inr}
use Rattle.std.proofs.Common.{take, drop, ◌+◌, ◌≤◌}
use Rattle.std.specs.List.{All}
use Rattle.std.proofs.lemmas.List.{take_more, drop_more, take-append-drop}
use Rattle.std.proofs.lemmas.List.Elements.{All-nil, All-cons, All-head, All-tail}
use Rattle.pipes_edge.specs.Causes.{Rose}
use Rattle.pipes_edge.specs.Outside.{Names, NoneFalls, Finds, FailsByName}
use Rattle.pipes_edge.specs.Outside.{CountsSearch, IsFoundAs}
use Rattle.pipes_edge.specs.declared.FindFault.{FindFault}
use Rattle.pipes_edge.specs.declared.FindFault.TheVariants as find
use Rattle.pipes_feed.specs.Items.{Items, arrivals_of}
use Rattle.pipes_query.specs.declared.query.SourceDecl.{SourceDecl}
use Rattle.pipes_error.specs.Fault.{Fault, Missing, ReadFile, Memory}
use Rattle.pipes_inline.specs.Ran.{AreArrivals}
use Rattle.pipes_run.specs.Asked.{arrivals_in}
use Rattle.pipes_run.specs.Running.{IsFound, AllFound, FindsNot, IsUnfound, IsSearchCause}
use Rattle.pipes_run.specs.Seen.{IsFree}
use Rattle.pipes_run.proofs.Causes.{rose_before}

-- the source under a file's name
pub found_known : {S : Type 0} (left : S → Option (List ℕ)) (known : Option Names)
    (name file : List ℕ) (src : S) → Finds left known name (Ok src) → name ≡ file
    → (files : Names) → known ≡ Some files → IsSome (files file) × (left src ≡ files file)
found_known left known name file src found same files tells =
    let h : Finds left (Some files) name (Ok src) = subst (λ (t : Option Names). Finds left t name
    (Ok src)) tells found in
    subst (λ (n : List ℕ). IsSome (files n) × (left src ≡ files n)) same h

-- the source under a file's name is missing
pub missing_known : {S : Type 0} (left : S → Option (List ℕ)) (known cur : Option Names)
    (name file : List ℕ) (why : FindFault) → Finds left cur name (Err why) → cur ≡ known
    → name ≡ file → (files : Names) → known ≡ Some files → why ≡ find.Missing → files file ≡ None
missing_known left known cur name file why found same is files tells missing =
    let at : Finds left (Some files) name (Err why) = subst (λ (t : Option Names). Finds left t name
    (Err why)) (same ∙ tells) found in
    let h : Finds left (Some files) name (Err find.Missing) = subst (λ (w : FindFault). Finds left
    (Some files) name (Err w)) missing at in
    subst (λ (n : List ℕ). files n ≡ None) is h

rose_within : (a b c d : ℕ) → a ≤ b → Rose b c → c ≤ d → Rose a d
rose_within a b c d low rose high = omega (arith, low, rose, high)

-- the search for it failed
pub search_cause : (S : Type 0) (before cur mid now : List ℕ → ℕ) (sb sc sm sn : ℕ)
    (name file : List ℕ) (why : FindFault) → FailsByName {S = S} (Err why) (cur name) (mid name)
    → CountsSearch {S = S} (Err why) sc sm → NoneFalls before cur → NoneFalls mid now → sb ≤ sc
    → sn ≡ sm → name ≡ file → why ≡ find.Failed → Rose (before file) (now file) × Rose sb sn
search_cause S before cur mid now sb sc sm sn name file why fails counts early late low same is
    failed =
    let by_name : Rose (cur name) (mid name) = subst (λ (w : FindFault). FailsByName {S = S} (Err w)
    (cur name) (mid name)) failed fails in
    let search : (sc ≤ sm) × Rose sc sm = subst (λ (w : FindFault). CountsSearch {S = S} (Err w) sc
    sm) failed counts in (
      subst (λ (n : List ℕ). Rose (before n) (now n)) is
          (rose_within (before name) (cur name) (mid name) (now name) (early name) by_name
          (late name)),
      subst (λ (n : ℕ). Rose sb n) (sym same) (rose_before sb sc sm low search.1),
    )

module _ {S : Type 0} (left : S → Option (List ℕ)) (faults found_at : S → ℕ)
    (source_name : S → List ℕ) where
  abbrev Found : (List ℕ → Type 0) → Option Names → List SourceDecl → List S → Type 0
  Found = AllFound left faults found_at source_name

  -- one source more
  pub found-push : (keeps : List ℕ → Type 0) (known : Option Names) (ss : List SourceDecl)
      (xs : List S) (s : SourceDecl) (x : S) → Found keeps known ss xs
      → IsFound left faults found_at source_name keeps known s x
      → Found keeps known (ss ++ s ∷ []) (xs ++ x ∷ [])
  found-push keeps known [] [] s x all one = (one, tt)
  found-push keeps known [] (y ∷ xs) s x all one = absurd all
  found-push keeps known (r ∷ ss) [] s x all one = absurd all
  found-push keeps known (r ∷ ss) (y ∷ xs) s x all one =
      (all.0, found-push keeps known ss xs s x all.1 one)

  -- names that are kept stay so
  pub found-later : (keeps keeps' : List ℕ → Type 0) (known : Option Names)
      (ss : List SourceDecl) (xs : List S) → ((n : List ℕ) → keeps n → keeps' n)
      → Found keeps known ss xs → Found keeps' known ss xs
  found-later keeps keeps' known [] [] more all = tt
  found-later keeps keeps' known [] (y ∷ xs) more all = absurd all
  found-later keeps keeps' known (r ∷ ss) [] more all = absurd all
  found-later keeps keeps' known (r ∷ ss) (y ∷ xs) more all = (
    record {
      named = all.0.named;
      fresh = all.0.fresh;
      kept = more r.file all.0.kept;
      whole = all.0.whole;
    },
    found-later keeps keeps' known ss xs more all.1,
  )

  -- the next one was found
  pub found-turn : (keeps keeps' : List ℕ → Type 0) (known cur : Option Names)
      (ss : List SourceDecl) (xs xs' : List S) (i : ℕ) (s : SourceDecl) (x : S) (name : List ℕ)
      → ((n : List ℕ) → keeps n → keeps' n) → i < length ss → s ≡ get_or ss i s
      → xs' ≡ xs ++ x ∷ [] → cur ≡ known → name ≡ s.file → Finds left cur name (Ok x)
      → IsFoundAs source_name found_at faults keeps' name x → Found keeps known (take i ss) xs
      → Found keeps' known (take (i + 1) ss) xs'
  found-turn keeps keeps' known cur ss xs xs' i s x name more within is one same file finds own
      all =
      let front : take (i + 1) ss ≡ take i ss ++ s ∷ [] =
      take_more ss i s within ∙ ap (λ (d : SourceDecl). take i ss ++ d ∷ []) (sym is) in
      subst (λ (ys : List S). Found keeps' known (take (i + 1) ss) ys) (sym one)
      (subst (λ (rs : List SourceDecl). Found keeps' known rs (xs ++ x ∷ [])) (sym front)
      (found-push keeps' known (take i ss) xs s x (found-later keeps keeps' known (take i ss) xs
      more all) (record {
        named = own.named ∙ file;
        fresh = own.fresh;
        kept = subst keeps' file own.kept;
        whole = λ files tells. found_known left cur name s.file x finds file files (same ∙ tells);
      })))

  module _ (keeps : List ℕ → Type 0) (known : Option Names) where
    -- one for each
    pub found-count : (ss : List SourceDecl) (xs : List S) → Found keeps known ss xs
        → length xs ≡ length ss
    found-count [] [] all = refl
    found-count [] (y ∷ xs) all = absurd all
    found-count (r ∷ ss) [] all = absurd all
    found-count (r ∷ ss) (y ∷ xs) all = ap suc (found-count ss xs all.1)

    -- the names of all are kept
    pub found-kept : (ss : List SourceDecl) (xs ys : List S) → Found keeps known ss xs
        → map source_name ys ≡ map source_name xs → All (λ y. keeps (source_name y)) ys
    found-kept [] [] [] all same = All-nil (λ (y : S). keeps (source_name y))
    found-kept [] [] (y ∷ ys) all same = absurd (cc)
    found-kept [] (x ∷ xs) ys all same = absurd all
    found-kept (r ∷ ss) [] ys all same = absurd all
    found-kept (r ∷ ss) (x ∷ xs) [] all same = absurd (cc)
    found-kept (r ∷ ss) (x ∷ xs) (y ∷ ys) all same =
        let here : source_name y ≡ source_name x = cc in
        let rest : map source_name ys ≡ map source_name xs = cc in
        All-cons (λ (z : S). keeps (source_name z)) y ys
        (subst keeps (sym (here ∙ all.0.named)) all.0.kept) (found-kept ss xs ys all.1 rest)

    -- the arrivals of all are known
    pub found-arrivals : (files : Names) → known ≡ Some files → (ss : List SourceDecl)
        (xs : List S) → Found keeps known ss xs → (others : List Items)
        × (arrivals_in files ss ≡ Ok others) × AreArrivals ss (map left xs) others
    found-arrivals files tells [] [] all = ([], refl, tt)
    found-arrivals files tells [] (y ∷ xs) all = absurd all
    found-arrivals files tells (s ∷ ss) [] all = absurd all
    found-arrivals files tells (s ∷ ss) (x ∷ xs) all =
        by (files s.file) refl (all.0.whole files tells)
        (found-arrivals files tells ss xs all.1)
      where
        by : (bytes : Option (List ℕ)) → files s.file ≡ bytes
            → IsSome (files s.file) × (left x ≡ files s.file)
            → ((others : List Items) × (arrivals_in files ss ≡ Ok others)
            × AreArrivals ss (map left xs) others)
            → (others : List Items) × (arrivals_in files (s ∷ ss) ≡ Ok others)
            × AreArrivals (s ∷ ss) (map left (x ∷ xs)) others
        by None is h rest = let none : IsSome {T = List ℕ} None =
            subst (λ (o : Option (List ℕ)). IsSome o) is h.0 in absurd (cc)
        by (Some b) is h rest = (
          arrivals_of s.schema s.slack b ∷ rest.0,
          rw (is, rest.1) refl,
          ((b, h.1 ∙ is, refl), rest.2),
        )

    -- the file of the next one is missing
    pub found-missing : (files : Names) → known ≡ Some files → (ss : List SourceDecl)
        (xs : List S) (s : SourceDecl) (more : List SourceDecl) → Found keeps known ss xs
        → files s.file ≡ None → arrivals_in files (ss ++ s ∷ more) ≡ Err (Missing s.file)
    found-missing files tells [] [] s more all none = rw none refl
    found-missing files tells [] (y ∷ xs) s more all none = absurd all
    found-missing files tells (r ∷ ss) [] s more all none = absurd all
    found-missing files tells (r ∷ ss) (x ∷ xs) s more all none =
        by (files r.file) refl (all.0.whole files tells)
        (found-missing files tells ss xs s more all.1 none)
      where
        by : (bytes : Option (List ℕ)) → files r.file ≡ bytes
            → IsSome (files r.file) × (left x ≡ files r.file)
            → arrivals_in files (ss ++ s ∷ more) ≡ Err (Missing s.file)
            → arrivals_in files (r ∷ (ss ++ s ∷ more)) ≡ Err (Missing s.file)
        by None is h rest = let none' : IsSome {T = List ℕ} None =
            subst (λ (o : Option (List ℕ)). IsSome o) is h.0 in absurd (cc)
        by (Some b) is h rest = rw (is, rest) refl

    -- a count of a source rose, and that of its file with it
    pub found-rose : (mid now : List ℕ → ℕ) (ss : List SourceDecl) (xs ys : List S) (i : ℕ)
        (s : SourceDecl) → Found keeps known ss xs → map source_name ys ≡ map source_name xs
        → map found_at ys ≡ map found_at xs
        → All (λ y. Rose (found_at y) (faults y) → Rose (mid (source_name y))
        (now (source_name y))) ys
        → slice_get ss i ≡ Some s
        → Rose (get_or (map faults xs) i 0) (get_or (map faults ys) i 0)
        → Rose (mid s.file) (now s.file)
    found-rose mid now [] xs ys i s all names ats roses is rose = absurd (cc)
    found-rose mid now (r ∷ ss) [] ys i s all names ats roses is rose = absurd all
    found-rose mid now (r ∷ ss) (x ∷ xs) [] i s all names ats roses is rose = absurd (cc)
    found-rose mid now (r ∷ ss) (x ∷ xs) (y ∷ ys) zero s all names ats roses is rose =
        let named : source_name y ≡ source_name x = cc in
        let at : found_at y ≡ found_at x = cc in
        let same : r ≡ s = cc in
        let fresh : faults x ≡ found_at y = all.0.fresh ∙ sym at in
        let file : source_name y ≡ s.file = named ∙ all.0.named
        ∙ ap (λ (d : SourceDecl). d.file) same in
        subst (λ (n : List ℕ). Rose (mid n) (now n)) file
        (All-head (λ (z : S). Rose (found_at z) (faults z) → Rose (mid (source_name z))
        (now (source_name z))) y ys roses (subst (λ (n : ℕ). Rose n (faults y)) fresh rose))
    found-rose mid now (r ∷ ss) (x ∷ xs) (y ∷ ys) (suc i) s all names ats roses is rose =
        found-rose mid now ss xs ys i s all.1 (cc) (cc)
        (All-tail (λ (z : S). Rose (found_at z) (faults z) → Rose (mid (source_name z))
        (now (source_name z))) y ys roses) is rose

-- why a source wasn't found, of those after some that were
module _ {S : Type 0} (left : S → Option (List ℕ)) (faults found_at : S → ℕ)
    (source_name : S → List ℕ) (keeps : List ℕ → Type 0) (known : Option Names)
    (ss : List SourceDecl) (xs : List S) (s : SourceDecl) (more all : List SourceDecl)
    (found : AllFound left faults found_at source_name keeps known ss xs)
    (all-are : all ≡ ss ++ s ∷ more) (before now : List ℕ → ℕ)
    (searches_before searches_now : ℕ) (fault : Fault) where
  pub finds-not : (why : FindFault) → IsUnfound s.file why fault
      → ((files : Names) → known ≡ Some files → why ≡ find.Missing → files s.file ≡ None)
      → (why ≡ find.Failed → Rose (before s.file) (now s.file)
      × Rose searches_before searches_now)
      → FindsNot known all before now searches_before searches_now fault
  finds-not find.Missing (inl is) none rose = subst (λ (f : Fault). FindsNot known all before now
      searches_before searches_now f) (sym is) (record {
        of = tt;
        cause = tt;
        gives = λ files tells. inl (ap (arrivals_in files) all-are
            ∙ found-missing left faults found_at source_name keeps known files tells ss xs s more
            found (none files tells refl));
      })
  finds-not find.Missing (inr is) none rose = subst (λ (f : Fault). FindsNot known all before now
      searches_before searches_now f) (sym is) (record {
        of = tt;
        cause = tt;
        gives = λ files tells. inr tt;
      })
  finds-not find.Failed (inl is) none rose = subst (λ (f : Fault). FindsNot known all before now
      searches_before searches_now f) (sym is) (record {
        of = tt;
        cause = rose refl;
        gives = λ files tells. inr tt;
      })
  finds-not find.Failed (inr is) none rose = subst (λ (f : Fault). FindsNot known all before now
      searches_before searches_now f) (sym is) (record {
        of = tt;
        cause = tt;
        gives = λ files tells. inr tt;
      })
  finds-not find.Memory is none rose = subst (λ (f : Fault). FindsNot known all before now
      searches_before searches_now f) (sym is) (record {
        of = tt;
        cause = tt;
        gives = λ files tells. inr tt;
      })

-- the sources before one, that one, and those after it
pub at_place : (ss : List SourceDecl) (i : ℕ) (s : SourceDecl) → i < length ss → s ≡ get_or ss i s
    → ss ≡ take i ss ++ s ∷ drop (i + 1) ss
at_place ss i s within is = sym (take-append-drop i ss) ∙ ap (λ (rs : List SourceDecl). take i ss
    ++ rs) (drop_more ss i s within ∙ ap (λ (d : SourceDecl). d ∷ drop (i + 1) ss) (sym is))

-- out of memory while sources are searched for
pub finds-no-more : (known : Option Names) (all : List SourceDecl) (before now : List ℕ → ℕ)
    (searches_before searches_now : ℕ)
    → FindsNot known all before now searches_before searches_now Memory
finds-no-more known all before now searches_before searches_now = record {
  of = tt;
  cause = tt;
  gives = λ files tells. inr tt;
}
