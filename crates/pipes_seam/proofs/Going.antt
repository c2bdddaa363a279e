-- What a seam does with all that came to two tops.
use Rattle.std.proofs.Common.{◌≡◌, ℕ, ◌+◌, ◌≤◌, ◌<◌, max, false, List, ◌++◌, sym}
use Rattle.std.proofs.Common.{◌∙◌, ap, subst, arith}
use Rattle.std.specs.List.{All}
use Rattle.std.proofs.lemmas.List.Elements.{All-same}
use Rattle.pipes_time.specs.Interval.{closed}
use Rattle.pipes_tuple.specs.declared.value.Value.{Value}
use Rattle.pipes_tuple.specs.declared.value.Kind.{Kind}
use Rattle.pipes_tuple.specs.Kinds.{Fits}
use Rattle.pipes_tuple.specs.Bag.{SameBag}
use Rattle.pipes_stream.specs.declared.Elem.{Elem}
use Rattle.pipes_stream.specs.declared.message.Message.{Message}
use Rattle.pipes_stream.specs.Progress.{Progress}
use Rattle.pipes_stream.specs.Snapshot.{snapshot}
use Rattle.pipes_stream.specs.Lists.{run, start_of_list, Valid, ValidFrom, beat, elements}
use Rattle.pipes_stream.specs.Weights.{weigh}
use Rattle.pipes_stream.proofs.Messages.{run-append, valid-prefix, valid-suffix, elements-append}
use Rattle.pipes_stream.proofs.Messages.{beat-closed}
use Rattle.pipes_stream.proofs.Ports.{All-parts}
use Rattle.pipes_stream.proofs.Weights.{weigh-append}
use Rattle.pipes_coalesce.specs.Tests.{ends_above, starts_below}
use Rattle.pipes_coalesce.specs.Stands.{CoalesceStands, IsMerged, held_of, now_of}
use Rattle.pipes_coalesce.specs.Merged.{Merged}
use Rattle.pipes_seam.specs.declared.seam.Seam.{Seam}
use Rattle.pipes_seam.specs.Seams.{Joins, told, level_of, opening_of}
use Rattle.pipes_seam.proofs.Telling.{told-valid}
use Rattle.pipes_seam.proofs.Sending.{sent-fits, sent-right}
use Rattle.pipes_seam.proofs.Spans.{starts-lower}
use Rattle.pipes_seam.proofs.Openings.{opened-list-valid, opened-list-run, opened-list-elements}
use Rattle.pipes_seam.proofs.Openings.{since-starts}

pub both-weigh : (f : Elem → ℕ) (xs ys : List Message)
    → weigh f (elements (xs ++ ys)) ≡ weigh f (elements xs) + weigh f (elements ys)
both-weigh f xs ys = ap (weigh f) (elements-append xs ys)
    ∙ weigh-append f (elements xs) (elements ys)

-- What holds once all was given that came to both tops: to the old one `begun` at the beginning and
-- `since` then, and `fresh` to the other; the merge had sent `sent`, and sent `more` for it.
pub record Goes (c d : Seam) (begun since fresh sent more : List Message) : Type 0 where
  pub stands : CoalesceStands d.merge (opening_of begun ++ since) fresh (sent ++ more)
  pub merged : Merged c.merge.split (opening_of begun ++ since) fresh (sent ++ more)
      (held_of d.merge)
  -- how far the output is to be
  pub level : level_of d ≡ max c.first (beat (sent ++ more))
  -- the output may take what is told
  pub follows : ValidFrom (record { beat = max c.first (beat sent); ended = false })
      (told (elements more) (level_of d))
  pub fits : (kinds : List Kind) → All (λ e. Fits e.tuple kinds) (elements (begun ++ since))
      → All (λ e. Fits e.tuple kinds) (elements fresh)
      → All (λ e. Fits e.tuple kinds) (elements more)
  -- what is written with it is the old plan's answer before the split, and the fresh one's from it
  -- on
  pub right : (t : ℕ) (rows : List (List Value)) (earlier : List Elem)
      → SameBag (snapshot earlier t) (snapshot (elements begun) t) → t < beat (sent ++ more)
      → (t < c.merge.split → t < beat (begun ++ since)
      → SameBag (snapshot (elements (begun ++ since)) t) rows)
      → (c.merge.split ≤ t → t < beat fresh → SameBag (snapshot (elements fresh) t) rows)
      → SameBag (snapshot (earlier ++ elements (sent ++ more)) t) rows

module _ (c d : Seam)
    (begun since olds olds_more news news_more fresh sent before now : List Message)
    (joins : Joins c d olds_more news_more before now)
    (stood : CoalesceStands c.merge olds news sent) (merges : IsMerged d.merge)
    (olds_are : olds ++ olds_more ≡ opening_of begun ++ since)
    (news_are : news ++ news_more ≡ fresh) (old_valid : Valid (begun ++ since))
    (fresh_valid : Valid fresh) (begun_is : beat begun ≡ c.first)
    (low : weigh (ends_above c.merge.split) (elements (begun ++ since)) ≡ 0)
    (high : weigh (starts_below (max c.merge.split c.first)) (elements fresh) ≡ 0) where
  abbrev OldSide : List Message
  OldSide = opening_of begun ++ since

  abbrev Sent : List Message
  Sent = sent ++ joins.more

  old-low : weigh (ends_above c.merge.split) (elements olds_more) ≡ 0
  old-low =
      let f : Elem → ℕ = ends_above c.merge.split in
      let all : weigh f (elements (olds ++ olds_more)) ≡ weigh f (elements since) =
      ap (λ (l : List Message). weigh f (elements l)) olds_are
      ∙ ap (weigh f) (opened-list-elements begun since old_valid) in
      omega (arith, low, all, both-weigh f begun since, both-weigh f olds olds_more)

  fresh-high : weigh (starts_below c.merge.split) (elements news_more) ≡ 0
  fresh-high =
      let f : Elem → ℕ = starts_below c.merge.split in
      let all : weigh f (elements (news ++ news_more)) ≡ weigh f (elements fresh) =
      ap (λ (l : List Message). weigh f (elements l)) news_are in
      let none : weigh f (elements fresh) ≡ 0 =
      starts-lower c.merge.split (max c.merge.split c.first) (elements fresh) (omega arith) high in
      omega (arith, none, all, both-weigh f news news_more)

  now-stands : CoalesceStands d.merge OldSide fresh Sent
  now-stands = subst (λ (l : List Message). CoalesceStands d.merge l fresh Sent) olds_are
      (subst (λ (l : List Message). CoalesceStands d.merge (olds ++ olds_more) l Sent) news_are
      (joins.stands olds news sent stood
      (subst Valid (sym olds_are) (opened-list-valid begun since old_valid)) old-low
      (subst Valid (sym news_are) fresh_valid) fresh-high))

  now-merged : Merged c.merge.split OldSide fresh Sent (held_of d.merge)
  now-merged = subst (λ (t : ℕ). Merged t OldSide fresh Sent (held_of d.merge)) joins.split
      (merges OldSide fresh Sent now-stands)

  first-closed : c.first ≤ closed
  first-closed = omega (
    arith,
    begun_is,
    beat-closed begun (valid-prefix start_of_list begun since old_valid),
  )

  sent-starts : weigh (starts_below c.first) (elements Sent) ≡ 0
  sent-starts =
      let olds_start : weigh (starts_below c.first) (elements OldSide) ≡ 0 =
      ap (weigh (starts_below c.first)) (opened-list-elements begun since old_valid)
      ∙ subst (λ (t : ℕ). weigh (starts_below t) (elements since) ≡ 0) begun_is
      (since-starts begun since old_valid) in
      now-merged.starts c.first olds_start
      (starts-lower c.first (max c.merge.split c.first) (elements fresh) (omega arith) high)

  more-starts : weigh (starts_below c.first) (elements joins.more) ≡ 0
  more-starts = omega (arith, sent-starts, both-weigh (starts_below c.first) sent joins.more)

  level-now : level_of d ≡ max c.first (beat Sent)
  level-now = ap (λ (n : ℕ). max n (now_of d.merge)) joins.first
      ∙ ap (λ (n : ℕ). max c.first n) (sym now-stands.sent_beat)

  told-level : max c.first (run (run start_of_list sent) joins.more).beat ≡ level_of d
  told-level = ap (λ (p : Progress). max c.first p.beat)
      (sym (run-append start_of_list sent joins.more)) ∙ sym level-now

  told-follows : ValidFrom (record { beat = max c.first (beat sent); ended = false })
      (told (elements joins.more) (level_of d))
  told-follows = subst (λ (n : ℕ). ValidFrom (record {
    beat = max c.first (beat sent);
    ended = false;
  }) (told (elements joins.more) n)) told-level
      (told-valid (run start_of_list sent) (max c.first (beat sent)) c.first joins.more
      (valid-suffix start_of_list sent joins.more now-merged.valid)
      (beat-closed sent (valid-prefix start_of_list sent joins.more now-merged.valid))
      first-closed (omega arith) more-starts)

  told-fits : (kinds : List Kind) → All (λ e. Fits e.tuple kinds) (elements (begun ++ since))
      → All (λ e. Fits e.tuple kinds) (elements fresh)
      → All (λ e. Fits e.tuple kinds) (elements joins.more)
  told-fits kinds old_fits fresh_fits =
      let since_fits : All (λ e. Fits e.tuple kinds) (elements since) =
      (All-parts (λ (e : Elem). Fits e.tuple kinds) (elements begun) (elements since)
      (All-same (λ (e : Elem). Fits e.tuple kinds) (elements begun ++ elements since)
      (elements (begun ++ since)) (sym (elements-append begun since)) old_fits)).1 in
      let all = sent-fits kinds c.merge.split (held_of d.merge) OldSide fresh Sent now-merged
      (All-same (λ (e : Elem). Fits e.tuple kinds) (elements OldSide) (elements since)
      (opened-list-elements begun since old_valid) since_fits) fresh_fits in
      (All-parts (λ (e : Elem). Fits e.tuple kinds) (elements sent) (elements joins.more)
      (All-same (λ (e : Elem). Fits e.tuple kinds) (elements sent ++ elements joins.more)
      (elements Sent) (sym (elements-append sent joins.more)) all)).1

  told-right : (t : ℕ) (rows : List (List Value)) (earlier : List Elem)
      → SameBag (snapshot earlier t) (snapshot (elements begun) t) → t < beat Sent
      → (t < c.merge.split → t < beat (begun ++ since)
      → SameBag (snapshot (elements (begun ++ since)) t) rows)
      → (c.merge.split ≤ t → t < beat fresh → SameBag (snapshot (elements fresh) t) rows)
      → SameBag (snapshot (earlier ++ elements Sent) t) rows
  told-right t rows earlier shown before old_right fresh_right =
      let same : beat OldSide ≡ beat (begun ++ since) =
      ap (λ (p : Progress). p.beat) (opened-list-run begun since old_valid) in
      sent-right c.merge.split (held_of d.merge) t rows earlier begun since OldSide fresh Sent
      now-merged shown
      (omega (arith, low, both-weigh (ends_above c.merge.split) begun since))
      (opened-list-elements begun since old_valid) before
      (λ below in_old. old_right below (omega (arith, in_old, same))) fresh_right

  pub goes : Goes c d begun since fresh sent joins.more
  goes = record {
    stands = now-stands;
    merged = now-merged;
    level = level-now;
    follows = told-follows;
    fits = told-fits;
    right = told-right;
  }
