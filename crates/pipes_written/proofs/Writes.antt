-- Entries that are written: what results, heartbeats and a last entry add.
use Rattle.std.proofs.Common.{◌≡◌, ℕ, ◌≤◌, ◌<◌, Bool, true, false, List, [], ◌∷◌, ◌++◌, map, refl}
use Rattle.std.proofs.Common.{sym, ◌∙◌, ap, subst, arith, inl, inr, append-nil}
use Rattle.std.proofs.Common.{append_assoc}
use Rattle.std.specs.List.{All}
use Rattle.std.proofs.lemmas.Bool.{cases_lt}
use Rattle.std.proofs.lemmas.List.{map-append}
use Rattle.std.proofs.lemmas.List.Elements.{All-nil, All-cons, All-weaker}
use Rattle.std.proofs.lemmas.List.Elements.{All-append}
use Rattle.pipes_time.specs.Interval.{horizon, closed, IsInterval}
use Rattle.pipes_tuple.specs.declared.value.Value.{Value}
use Rattle.pipes_tuple.specs.declared.value.Kind.{Kind}
use Rattle.pipes_tuple.specs.Kinds.{Fits}
use Rattle.pipes_tuple.specs.Bag.{SameBag}
use Rattle.pipes_stream.specs.declared.Elem.{Elem}
use Rattle.pipes_stream.specs.declared.message.Message.{Message}
use Rattle.pipes_stream.specs.declared.message.Message.TheVariants as message
use Rattle.pipes_stream.specs.Progress.{Progress}
use Rattle.pipes_stream.specs.Snapshot.{snapshot}
use Rattle.pipes_stream.specs.Lists.{run, after, ValidFrom, elements}
use Rattle.pipes_stream.proofs.Messages.{after-rises, run-rises, run-append, elements-append}
use Rattle.pipes_stream.proofs.Following.{intervals}
use Rattle.pipes_stream.proofs.Snapshots.{snapshot-append, snapshot-above, starts-from}
use Rattle.pipes_output.specs.declared.entry.Entry.{Entry}
use Rattle.pipes_output.specs.declared.entry.Entry.TheVariants as entry
use Rattle.pipes_semantics.specs.Written.{results, starts, written_snapshot}
use Rattle.pipes_semantics.specs.Right.{NeverFall}
use Rattle.pipes_written.specs.Written.{Answers, IsTyped, IsWritten, results_of, level_after}
use Rattle.pipes_written.specs.Written.{Continues}
use Rattle.pipes_written.specs.declared.output.Output.{Output}
use Rattle.pipes_written.specs.Made.{last_entry, drained, Made, TellsMove}
use Rattle.pipes_written.proofs.Splits.{results-append, starts-append, results-map, starts-map}
use Rattle.pipes_written.proofs.Splits.{rising-append, found-in}

-- no heartbeat stands among the entries
abbrev NoBeat : List Entry → Type 0
NoBeat ys = (middle after : List Entry) (h : ℕ) → ys ≡ middle ++ entry.Beat h ∷ after → ⊥

module _ (kinds : List Kind) (answer : Answers) where
  pub written-none : IsWritten kinds answer 0 []
  written-none = record {
    bounded = omega arith;
    rising = tt;
    behind = All-nil (λ (n : ℕ). n ≤ 0);
    typed = All-nil (IsTyped kinds);
    final = λ before after h t e. absurd (none before after h e);
    done = λ t l. absurd (omega (arith, l));
  } where
    none : (before after : List Entry) (h : ℕ) → ◌≡◌ {A = List Entry} []
        (before ++ entry.Beat h ∷ after) → ⊥
    none [] after h e = cc
    none (x ∷ before) after h e = cc

  -- entries without heartbeats
  written-more : (m n : ℕ) (es ys : List Entry) → m ≤ n → n ≤ closed → NeverFall m (starts ys)
      → All (λ k. k ≤ n) (starts ys) → All (IsTyped kinds) (results ys) → NoBeat ys
      → ((t : ℕ) → t < n → t < horizon → SameBag (written_snapshot (es ++ ys) t) (answer t))
      → IsWritten kinds answer m es → IsWritten kinds answer n (es ++ ys)
  written-more m n es ys up top rise behind typed none done w = record {
    bounded = top;
    rising = subst (NeverFall 0) (sym (starts-append es ys))
        (rising-append 0 m (starts es) (starts ys) (omega arith) w.rising w.behind rise);
    behind = subst (All (λ k. k ≤ n)) (sym (starts-append es ys))
        (All-append (λ (k : ℕ). k ≤ n) (starts es) (starts ys)
        (All-weaker (λ (k : ℕ). k ≤ m) (λ (k : ℕ). k ≤ n) (λ k l. omega (arith, l, up)) (starts es)
        w.behind) behind);
    typed = subst (All (IsTyped kinds)) (sym (results-append es ys))
        (All-append (IsTyped kinds) (results es) (results ys) w.typed typed);
    final = λ before after h t e l i. elim (found-in es ys before after (entry.Beat h) e) [
      | inl f ↦ w.final before f.rest h t f.is l i
      | inr s ↦ absurd (none s.middle after h s.there)
    ];
    done = done;
  }

  -- a heartbeat
  written-beat : (m : ℕ) (es : List Entry) → IsWritten kinds answer m es
      → IsWritten kinds answer m (es ++ entry.Beat m ∷ [])
  written-beat m es w = record {
    bounded = w.bounded;
    rising = subst (NeverFall 0) (sym (starts-append es (entry.Beat m ∷ [])))
        (rising-append 0 m (starts es) (m ∷ []) (omega arith) w.rising w.behind
        (omega arith, tt));
    behind = subst (All (λ k. k ≤ m)) (sym (starts-append es (entry.Beat m ∷ [])))
        (All-append (λ (k : ℕ). k ≤ m) (starts es) (m ∷ []) w.behind
        (All-cons (λ (k : ℕ). k ≤ m) m [] (omega arith) (All-nil (λ (k : ℕ). k ≤ m))));
    typed = subst (All (IsTyped kinds)) (sym same) w.typed;
    final = λ before after h t e l i. elim (found-in es (entry.Beat m ∷ []) before after
        (entry.Beat h) e) [
          | inl f ↦ w.final before f.rest h t f.is l i
          | inr s ↦ last before after s.middle h t s.is s.there l i
        ];
    done = λ t l i. subst (λ (es : List Elem). SameBag (snapshot es t) (answer t)) (sym same)
        (w.done t l i);
  } where
    same : results (es ++ entry.Beat m ∷ []) ≡ results es
    same = results-append es (entry.Beat m ∷ []) ∙ append-nil (results es)

    last : (before after middle : List Entry) (h t : ℕ) → before ≡ es ++ middle
        → entry.Beat m ∷ [] ≡ middle ++ entry.Beat h ∷ after → t < h → t < horizon
        → SameBag (written_snapshot before t) (answer t)
    last before after [] h t is there l i =
        let up : m ≡ h = cc in
        subst (λ (xs : List Entry). SameBag (written_snapshot xs t) (answer t))
        (sym (is ∙ append-nil es)) (w.done t (omega (arith, l, up)) i)
    last before after (x ∷ []) h t is there l i = cc
    last before after (x ∷ y ∷ middle) h t is there l i = cc

  -- an entry that says nothing of results
  written-plain : (m : ℕ) (es : List Entry) (x : Entry) → starts (x ∷ []) ≡ []
      → results (x ∷ []) ≡ [] → NoBeat (x ∷ []) → IsWritten kinds answer m es
      → IsWritten kinds answer m (es ++ x ∷ [])
  written-plain m es x none_starts none_results none w =
      written-more m m es (x ∷ []) (omega arith) w.bounded
      (subst (NeverFall m) (sym none_starts) tt)
      (subst (All (λ k. k ≤ m)) (sym none_starts) (All-nil (λ (k : ℕ). k ≤ m)))
      (subst (All (IsTyped kinds)) (sym none_results) (All-nil (IsTyped kinds))) none
      (λ t l i. subst (λ (es : List Elem). SameBag (snapshot es t) (answer t))
      (sym (results-append es (x ∷ []) ∙ ap (λ (ys : List Elem). results es ++ ys) none_results
      ∙ append-nil (results es))) (w.done t l i)) w

  pub written-drained : (m inputs : ℕ) (es : List Entry) → IsWritten kinds answer m es
      → IsWritten kinds answer m (es ++ drained inputs m)
  written-drained m inputs es w =
      subst (IsWritten kinds answer m)
      (append_assoc es (entry.Beat m ∷ []) (entry.Drained inputs m ∷ []))
      (written-plain m (es ++ entry.Beat m ∷ []) (entry.Drained inputs m) refl refl none
      (written-beat m es w))
    where
      none : NoBeat (entry.Drained inputs m ∷ [])
      none [] after h e = cc
      none (x ∷ []) after h e = cc
      none (x ∷ y ∷ middle) after h e = cc

  pub written-last : (m : ℕ) (es : List Entry) (stopped : Bool) → IsWritten kinds answer m es
      → IsWritten kinds answer m (es ++ last_entry stopped ∷ [])
  written-last m es true w = written-plain m es entry.Stopped refl refl none w
    where
      none : NoBeat (entry.Stopped ∷ [])
      none [] after h e = cc
      none (x ∷ []) after h e = cc
      none (x ∷ y ∷ middle) after h e = cc
  written-last m es false w = written-plain m es entry.Ended refl refl none w
    where
      none : NoBeat (entry.Ended ∷ [])
      none [] after h e = cc
      none (x ∷ []) after h e = cc
      none (x ∷ y ∷ middle) after h e = cc

  pub written-move : (m : ℕ) (es : List Entry) (e : Entry) → TellsMove e
      → IsWritten kinds answer m es → IsWritten kinds answer m (es ++ e ∷ [])
  written-move m es (entry.Result x) tells w = absurd tells
  written-move m es (entry.Beat b) tells w = absurd tells
  written-move m es (entry.Accepted number split) tells w =
      written-plain m es (entry.Accepted number split) refl refl none w
    where
      none : NoBeat (entry.Accepted number split ∷ [])
      none [] after h e = cc
      none (x ∷ []) after h e = cc
      none (x ∷ y ∷ middle) after h e = cc
  written-move m es (entry.Refused command why) tells w =
      written-plain m es (entry.Refused command why) refl refl none w
    where
      none : NoBeat (entry.Refused command why ∷ [])
      none [] after h e = cc
      none (x ∷ []) after h e = cc
      none (x ∷ y ∷ middle) after h e = cc
  written-move m es (entry.Idle number) tells w =
      written-plain m es (entry.Idle number) refl refl none w
    where
      none : NoBeat (entry.Idle number ∷ [])
      none [] after h e = cc
      none (x ∷ []) after h e = cc
      none (x ∷ y ∷ middle) after h e = cc
  written-move m es (entry.Over number) tells w =
      written-plain m es (entry.Over number) refl refl none w
    where
      none : NoBeat (entry.Over number ∷ [])
      none [] after h e = cc
      none (x ∷ []) after h e = cc
      none (x ∷ y ∷ middle) after h e = cc
  written-move m es (entry.Drained inputs output) tells w = absurd tells
  written-move m es entry.Ended tells w = absurd tells
  written-move m es entry.Stopped tells w = absurd tells

-- ---- results

no-beat : (es : List Elem) → NoBeat (map entry.Result es)
no-beat [] [] after h e = cc
no-beat [] (x ∷ middle) after h e = cc
no-beat (d ∷ es) [] after h e = cc
no-beat (d ∷ es) (x ∷ middle) after h e =
    no-beat es middle after h (let tails : map entry.Result es ≡ middle ++ entry.Beat h ∷ after =
    cc in tails)

starts-rise : (p : Progress) (sent : List Message) → ValidFrom p sent → p.beat ≤ closed
    → (low : ℕ) → low ≤ p.beat
    → NeverFall low (map (λ (e : Elem). e.span.start) (elements sent))
starts-rise p [] v h low l = tt
starts-rise p (message.Elem e ∷ sent) v h low l =
    let a = after-rises p (message.Elem e) v.0 h in (
      omega (arith, l, a.0),
      starts-rise (after p (message.Elem e)) sent v.1 a.1 e.span.start (omega arith),
    )
starts-rise p (message.Beat at ∷ sent) v h low l =
    let a = after-rises p (message.Beat at) v.0 h in
    starts-rise (after p (message.Beat at)) sent v.1 a.1 low (omega (arith, l, a.0))
starts-rise p (message.End ∷ sent) v h low l =
    starts-rise (after p message.End) sent v.1 (omega arith) low (omega (arith, l, h))

starts-behind : (p : Progress) (sent : List Message) → ValidFrom p sent → p.beat ≤ closed
    → All (λ k. k ≤ (run p sent).beat) (map (λ (e : Elem). e.span.start) (elements sent))
starts-behind p [] v h = All-nil (λ (k : ℕ). k ≤ p.beat)
starts-behind p (message.Elem e ∷ sent) v h =
    let q : Progress = after p (message.Elem e) in
    let a = after-rises p (message.Elem e) v.0 h in
    let b = run-rises q sent v.1 a.1 in
    All-cons (λ (k : ℕ). k ≤ (run q sent).beat) e.span.start
    (map (λ (e : Elem). e.span.start) (elements sent)) b.0 (starts-behind q sent v.1 a.1)
starts-behind p (message.Beat at ∷ sent) v h =
    starts-behind (after p (message.Beat at)) sent v.1 (after-rises p (message.Beat at) v.0 h).1
starts-behind p (message.End ∷ sent) v h =
    starts-behind (after p message.End) sent v.1 (omega arith)

-- whether a list has ended doesn't bear on its heartbeat
beat-alike : (p q : Progress) (sent : List Message) → p.beat ≡ q.beat
    → (run p sent).beat ≡ (run q sent).beat
beat-alike p q [] e = e
beat-alike p q (message.Elem d ∷ sent) e =
    beat-alike (after p (message.Elem d)) (after q (message.Elem d)) sent refl
beat-alike p q (message.Beat at ∷ sent) e =
    beat-alike (after p (message.Beat at)) (after q (message.Beat at)) sent refl
beat-alike p q (message.End ∷ sent) e =
    beat-alike (after p message.End) (after q message.End) sent refl

pub level-is : (p : Progress) (m : ℕ) (sent : List Message) → p.beat ≡ m
    → (run p sent).beat ≡ level_after m sent
level-is p m sent e = beat-alike p (record { beat = m; ended = false }) sent e

typed-both : (kinds : List Kind) (es : List Elem) → All (λ e. IsInterval e.span.start e.span.end) es
    → All (λ e. Fits e.tuple kinds) es → All (IsTyped kinds) es
typed-both kinds es a b = λ k d l. (a k d l, b k d l)

-- results that may be sent are written
pub written-results : (kinds : List Kind) (answer : Answers) (m : ℕ) (es : List Entry)
    (sent : List Message) → Continues kinds answer m es sent → IsWritten kinds answer m es
    → IsWritten kinds answer (level_after m sent) (es ++ results_of sent)
written-results kinds answer m es sent c w =
    let p : Progress = c.so_far in
    let n : ℕ = level_after m sent in
    let there : p.beat ≡ m = c.there in
    let low : p.beat ≤ closed = omega (arith, there, w.bounded) in
    let level : (run p sent).beat ≡ n = level-is p m sent there in
    let rises = run-rises p sent c.valid low in
    let up : m ≤ n = omega (arith, rises.0, level, there) in
    let top : n ≤ closed = omega (arith, rises.1, level) in
    let own : results (results_of sent) ≡ elements sent = results-map (elements sent) in
    let starts_are : starts (results_of sent) ≡ map (λ (e : Elem). e.span.start) (elements sent) =
    starts-map (elements sent) in
    let all : results (es ++ results_of sent) ≡ results es ++ elements sent =
    results-append es (results_of sent) ∙ ap (λ (ys : List Elem). results es ++ ys) own in
    written-more kinds answer m n es (results_of sent) up top
    (subst (NeverFall m) (sym starts_are)
    (starts-rise p sent c.valid low m (omega (arith, there))))
    (subst (All (λ k. k ≤ n)) (sym starts_are)
    (subst (λ (x : ℕ). All (λ k. k ≤ x) (map (λ (e : Elem). e.span.start) (elements sent))) level
    (starts-behind p sent c.valid low)))
    (subst (All (IsTyped kinds)) (sym own)
    (typed-both kinds (elements sent) (intervals p sent c.valid) c.fits))
    (no-beat (elements sent))
    (λ t l i. subst (λ (ys : List Elem). SameBag (snapshot ys t) (answer t)) (sym all)
    (elim (cases_lt t m) [
      | inl before ↦
          (let late : All (λ e. t < e.span.start) (elements sent) =
          All-weaker (λ (e : Elem). p.beat ≤ e.span.start) (λ (e : Elem). t < e.span.start)
          (λ e s. omega (arith, s, before, there)) (elements sent)
          (starts-from p sent c.valid low) in
          let same : snapshot (results es ++ elements sent) t ≡ snapshot (results es) t =
          snapshot-append (results es) (elements sent) t
          ∙ ap (λ (rows : List (List Value)). snapshot (results es) t ++ rows)
          (snapshot-above t (elements sent) late) ∙ append-nil (snapshot (results es) t) in
          subst (λ (rows : List (List Value)). SameBag rows (answer t)) (sym same)
          (w.done t before i))
      | inr from ↦ c.right t from l i
    ])) w

-- results of more messages
pub made-then : (a b c : Output) (xs ys : List Message) → Made a b xs → Made b c ys
    → Made a c (xs ++ ys)
made-then a b c xs ys first next = record {
  entries = next.entries ∙ ap (λ (l : List Entry). l ++ results_of ys) first.entries
      ∙ append_assoc a.entries.items (results_of xs) (results_of ys)
      ∙ ap (λ (l : List Entry). a.entries.items ++ l)
      (sym (map-append entry.Result (elements xs) (elements ys)))
      ∙ ap (λ (es : List Elem). a.entries.items ++ map entry.Result es)
      (sym (elements-append xs ys));
  beat = let p : Progress = record { beat = a.beat; ended = false } in
      next.beat ∙ ap (λ (m : ℕ). level_after m ys) first.beat
      ∙ sym (level-is (run p xs) (level_after a.beat xs) ys refl)
      ∙ ap (λ (q : Progress). q.beat) (sym (run-append p xs ys));
}
