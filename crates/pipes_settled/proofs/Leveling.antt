-- The number of copies of one tuple, and its level, as more instants are settled.
use Rattle.std.proofs.Common.{◌≡◌, ◌≢◌, ℕ, zero, suc, ◌+◌, ◌-◌, ◌≤◌, ◌<◌, Some, None, refl, sym}
use Rattle.std.proofs.Common.{◌∙◌, subst, arith, inl, inr}
use Rattle.std.specs.Prelude.{Option}
use Rattle.std.proofs.lemmas.Bool.{cases_lt}
use Rattle.pipes_time.specs.Interval.{horizon}
use Rattle.pipes_output.specs.NormalText.{IsLongestPeriod}
use Rattle.pipes_settled.specs.declared.pieces.Level.{Level}
use Rattle.pipes_settled.specs.Standing.{IsLevel, LevelIs}
use Rattle.pipes_settled.specs.Moves.{copies_of}

-- the number is the same at the instant as directly before it
pub record IsFlat (f : ℕ → ℕ) (t : ℕ) : Type 0 where
  pub first : t ≡ 0 → f 0 ≡ 0
  pub later : 1 ≤ t → f t ≡ f (t - 1)

-- a longest interval, where the numbers agree up to its end
pub IsLongestPeriod-upto : (f g : ℕ → ℕ) (s e c : ℕ) → ((t : ℕ) → t ≤ e → f t ≡ g t)
    → IsLongestPeriod f s e c → IsLongestPeriod g s e c
IsLongestPeriod-upto f g s e c same l =
    let proper : s < e = l.interval.0 in
    record {
      interval = l.interval;
      some = l.some;
      within = λ t h k. sym (same t (omega arith)) ∙ l.within t h k;
      before = λ h k. l.before h (same (s - 1) (omega arith) ∙ k);
      after = λ h k. l.after h (same e (omega arith) ∙ k);
    }

-- a level, where the numbers agree before `until`
pub LevelIs-upto : (f g : ℕ → ℕ) (until : ℕ) (l : Option Level) → ((t : ℕ) → t < until → f t ≡ g t)
    → LevelIs f until l → LevelIs g until l
LevelIs-upto f g until None same l = λ h. sym (same (until - 1) (omega arith)) ∙ l h
LevelIs-upto f g until (Some v) same l =
    let begun : v.since < until = l.begun in
    record {
      some = l.some;
      begun = l.begun;
      within = λ t h k. sym (same t k) ∙ l.within t h k;
      before = λ h k. l.before h (same (v.since - 1) (omega arith) ∙ k);
    }

-- the number at the last settled instant
pub level-last : (f : ℕ → ℕ) (until : ℕ) (l : Option Level) → LevelIs f until l → 1 ≤ until
    → f (until - 1) ≡ copies_of l
level-last f until None l h = l h
level-last f until (Some v) l h = let begun : v.since < until = l.begun in l.within (until - 1)
    (omega arith) (omega arith)

-- where nothing is settled there is no level
pub level-first : (f : ℕ → ℕ) (until : ℕ) (l : Option Level) → LevelIs f until l → until ≡ 0
    → copies_of l ≡ 0
level-first f until None l h = refl
level-first f until (Some v) l h = let begun : v.since < until = l.begun in absurd (omega arith)

-- one more instant, at which the number stays
pub level-on : (f : ℕ → ℕ) (until : ℕ) (l : Option Level) → LevelIs f until l → IsFlat f until
    → LevelIs f (until + 1) l
level-on f until None l flat = λ h. elim (cases_lt 0 until) [
  | inl k ↦ (let e : (until + 1) - 1 ≡ until = omega arith in rw e (flat.later (omega arith) ∙ l
      (omega arith)))
  | inr k ↦ (let e : (until + 1) - 1 ≡ 0 = omega arith in rw e (flat.first (omega arith)))
]
level-on f until (Some v) l flat =
    let begun : v.since < until = l.begun in
    record {
      some = l.some;
      begun = omega arith;
      within = λ t h k. elim (cases_lt t until) [
        | inl b ↦ l.within t h b
        | inr b ↦
            (let e : until ≡ t = omega arith in
            subst (λ u. f u ≡ v.copies) e (flat.later (omega arith) ∙ l.within (until - 1)
            (omega arith) (omega arith)))
      ];
      before = l.before;
    }

-- more instants
pub level-more : (f : ℕ → ℕ) (until : ℕ) (l : Option Level) (n : ℕ) → LevelIs f until l
    → ((t : ℕ) → until ≤ t → t < until + n → IsFlat f t) → LevelIs f (until + n) l
level-more f until l zero is flat = let e : until ≡ until + 0 = omega arith in subst
    (λ u. LevelIs f u l) e is
level-more f until l (suc n) is flat =
    let e : (until + n) + 1 ≡ until + suc n = omega arith in
    let so : LevelIs f (until + n) l = level-more f until l n is (λ t h k. flat t h
    (omega arith)) in
    subst (λ u. LevelIs f u l) e (level-on f (until + n) l so (flat (until + n) (omega arith)
    (omega arith)))

pub level-raise : (f : ℕ → ℕ) (until later : ℕ) (l : Option Level) → until ≤ later
    → LevelIs f until l → ((t : ℕ) → until ≤ t → t < later → IsFlat f t) → LevelIs f later l
level-raise f until later l h is flat =
    let e : until + (later - until) ≡ later = omega arith in
    subst (λ u. LevelIs f u l) e (level-more f until l (later - until) is (λ t a b. flat t a
    (omega arith)))

-- where the number stays, no longest interval ends
pub flat-no_end : (f : ℕ → ℕ) (s e c : ℕ) → IsLongestPeriod f s e c → IsFlat f e
    → ((t : ℕ) → horizon ≤ t → f t ≡ 0) → ⊥
flat-no_end f s e c l flat zeros =
    let proper : s < e = l.interval.0 in
    let last : f (e - 1) ≡ c = l.within (e - 1) (omega arith) (omega arith) in
    let own : f e ≡ c = flat.later (omega arith) ∙ last in
    let some : 1 ≤ c = l.some in
    elim (cases_lt e horizon) [
      | inl h ↦ absurd (l.after h own)
      | inr h ↦ (let z : f e ≡ 0 = zeros e h in absurd (omega (arith, own, z)))
    ]

-- a longest interval that the settled instants end in, or where they end, is the level's
pub level-is : (f : ℕ → ℕ) (at : ℕ) (l : Option Level) (s e c : ℕ) → LevelIs f at l
    → IsLongestPeriod f s e c → s < at → at ≤ e → l ≡ Some (record { since = s; copies = c })
level-is f at None s e c is l proper most =
    let last : f (at - 1) ≡ c = l.within (at - 1) (omega arith) (omega arith) in
    let none : f (at - 1) ≡ 0 = is (omega arith) in
    let some : 1 ≤ c = l.some in
    absurd (omega (arith, last, none))
level-is f at (Some v) s e c is l proper most =
    let begun : v.since < at = is.begun in
    let last : f (at - 1) ≡ c = l.within (at - 1) (omega arith) (omega arith) in
    let own : f (at - 1) ≡ v.copies = is.within (at - 1) (omega arith) (omega arith) in
    let copies : v.copies ≡ c = sym own ∙ last in
    let starts : v.since ≡ s = elim (cases_lt v.since s) [
      | inl h ↦ absurd (l.before (omega arith) (is.within (s - 1) (omega arith) (omega arith)
          ∙ copies))
      | inr h ↦ elim (cases_lt s v.since) [
        | inl k ↦ absurd (is.before (omega arith) (l.within (v.since - 1) (omega arith)
            (omega arith) ∙ sym copies))
        | inr k ↦ omega arith
      ]
    ] in
    (λ i. Some (record { since = starts i; copies = copies i }))

-- one that ends where the number turns
pub level-ends : (f : ℕ → ℕ) (at : ℕ) (l : Option Level) (s c : ℕ) → LevelIs f at l
    → IsLongestPeriod f s at c → l ≡ Some (record { since = s; copies = c })
level-ends f at l s c is longest = level-is f at l s at c is longest longest.interval.0
    (omega arith)

-- where the number is 0 from an instant on, there is no level
pub level-none : (f : ℕ → ℕ) (until : ℕ) (l : Option Level) (v : Level) → LevelIs f until l
    → l ≡ Some v → 1 ≤ until → f (until - 1) ≡ 0 → ⊥
level-none f until None v is e h z = absurd (cc)
level-none f until (Some w) v is e h z =
    let begun : w.since < until = is.begun in
    let own : f (until - 1) ≡ w.copies = is.within (until - 1) (omega arith) (omega arith) in
    let some : 1 ≤ w.copies = is.some in
    omega (arith, own, z)

-- the level's interval is a longest one, where the number turns
pub level-longest : (f : ℕ → ℕ) (at since copies : ℕ) → IsLevel f at since copies → at ≤ horizon
    → f at ≢ copies → IsLongestPeriod f since at copies
level-longest f at since copies is most turns = record {
  interval = (is.begun, most);
  some = is.some;
  within = is.within;
  before = is.before;
  after = λ h. turns;
}

-- a level that begins at the instant
pub level-new : (f : ℕ → ℕ) (at now : ℕ) (l : Option Level) → LevelIs f at l → f at ≡ now → 1 ≤ now
    → now ≢ copies_of l → IsLevel f (at + 1) at now
level-new f at now l is own some turns = record {
  some = some;
  begun = omega arith;
  within = λ t h k. subst (λ u. f u ≡ now) (let e : at ≡ t = omega arith in e) own;
  before = λ h e. turns (sym e ∙ level-last f at l is h);
}

-- the same number is flat
pub level-flat : (f : ℕ → ℕ) (at : ℕ) (l : Option Level) → LevelIs f at l → f at ≡ copies_of l
    → IsFlat f at
level-flat f at l is own = record {
  first = λ e. subst (λ u. f u ≡ 0) e (own ∙ level-first f at l is e);
  later = λ h. own ∙ sym (level-last f at l is h);
}
