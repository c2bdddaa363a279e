-- A join goes on to stand for longer lists, and is lawful.
use Rattle.std.proofs.Common.{◌≡◌, ℕ, suc, ◌≤◌, ◌<◌, ◌+◌, min, Bool, true, false, cond, ◌&&◌}
use Rattle.std.proofs.Common.{nat_lt, List, [], ◌∷◌, ◌++◌, map, length, refl, sym, ◌∙◌, subst, ap}
use Rattle.std.proofs.Common.{arith, append_assoc, append-nil}
use Rattle.std.specs.List.{All, filter, flat_map}
use Rattle.std.proofs.lemmas.Bool.{and_parts, and_left}
use Rattle.std.proofs.Math.Bool.{and_comm}
use Rattle.std.proofs.Math.Nat.{min_comm}
use Rattle.std.proofs.lemmas.Grind.{flat_map-append}
use Rattle.std.proofs.lemmas.List.{length-append, length-map}
use Rattle.std.proofs.lemmas.List.Elements.{filter-append, All-nil, All-cons, All-append}
use Rattle.std.proofs.lemmas.List.Elements.{All-filter, All-weaker}
use Rattle.pipes_time.specs.Interval.{closed, IsInterval}
use Rattle.pipes_tuple.specs.declared.value.Value.{Value}
use Rattle.pipes_tuple.specs.declared.value.Kind.{Kind}
use Rattle.pipes_tuple.specs.Columns.{HasColumns}
use Rattle.pipes_tuple.specs.Kinds.{Fits, kind_of}
use Rattle.pipes_tuple.proofs.Bags.{SameBag-Perm}
use Rattle.pipes_tuple.proofs.Perm.{Perm, then, Perm-refl, Perm-sym, Perm-equal, Perm-left}
use Rattle.pipes_tuple.proofs.Perm.{Perm-right, Perm-append_comm, Perm-loops}
use Rattle.pipes_stream.specs.declared.Elem.{Elem}
use Rattle.pipes_stream.specs.declared.message.Message.{Message}
use Rattle.pipes_stream.specs.declared.message.Message.TheVariants as message
use Rattle.pipes_stream.specs.Progress.{Progress}
use Rattle.pipes_stream.specs.Snapshot.{snapshot}
use Rattle.pipes_stream.specs.Lists.{CanFollow, after, run, start_of_list, Valid, beat, HasEnded}
use Rattle.pipes_stream.specs.Lists.{elements}
use Rattle.pipes_stream.specs.Lawful.{Lists, Lawful, Takes, MessageFits, no_messages, least}
use Rattle.pipes_stream.specs.Lawful.{all_elements, IsCovered, open_count}
use Rattle.pipes_stream.proofs.Messages.{run-append, run-push, run-rises, valid-append, valid-push}
use Rattle.pipes_stream.proofs.Messages.{elements-append, beat-closed, beat-ended}
use Rattle.pipes_stream.proofs.Snapshots.{snapshot-append, snapshot-Perm, snapshot-above}
use Rattle.pipes_stream.proofs.Ports.{floor-below, All-Perm, All-parts, open_count-append}
use Rattle.pipes_sweep.specs.Areas.{KeptByKey, AreaHolds, until, elems_with_key}
use Rattle.pipes_sweep.specs.Waiting.{StartsRise, due, later}
use Rattle.pipes_sweep.specs.Sending.{sent_at}
use Rattle.pipes_sweep.proofs.Places.{due-later, later-above}
use Rattle.pipes_sweep.proofs.SentAt.{SentAt, sent_due}
use Rattle.pipes_stream.proofs.Following.{arrived, arrived-fits, not_ended, intervals}
use Rattle.pipes_sweep.proofs.TwoPorts.{moved}
use Rattle.pipes_sweep.proofs.Kept.{until-open, until-closed}
use Rattle.pipes_tuple.proofs.Perm.{length-Perm}
use Rattle.pipes_pair.specs.declared.join.Join.{Join}
use Rattle.pipes_pair.specs.declared.join.Matching.{Matching}
use Rattle.pipes_pair.specs.declared.side.Side.{Side}
use Rattle.pipes_pair.specs.Meeting.{joined_from, made_by, AreNarrow}
use Rattle.pipes_pair.specs.Sides.{AllNarrow, HasKey, SidesFit, KeepsElem, Admits, made_by_key}
use Rattle.pipes_relation.specs.Tables.{left_columns, right_columns}
use Rattle.pipes_pair.specs.ByKey.{IsByKey, made-by_key, joined-by_key_left, joined-by_key_right}
use Rattle.pipes_pair.specs.Joins.{StandsForSides, JoinStands, JoinSends, matching_task, lower_beat}
use Rattle.pipes_pair.specs.Joins.{both_ended}
use Rattle.pipes_pair.specs.Made.{IsWithin, StaysWithin, joined-within, within-turned, All-made}
use Rattle.pipes_pair.specs.Made.{news-same, until-until, narrow-fits, joined-fits, made-covered}
use Rattle.pipes_pair.specs.Made.{snapshot-made}

-- the two sides change places
turn : (make : Elem → Elem → List Elem) (ok tk : List Kind) (hold : List Elem) (own other : Side)
    (owns others sent : List Message)
    → StandsForSides make ok tk hold own other owns others sent
    → StandsForSides (λ a b. make b a) tk ok hold other own others owns sent
turn make ok tk hold own other owns others sent s =
    record {
      own_valid = s.other_valid;
      other_valid = s.own_valid;
      own_fits = s.other_fits;
      other_fits = s.own_fits;
      own_is = s.other_is;
      other_is = s.own_is;
      own_key = s.other_key;
      other_key = s.own_key;
      own_area = s.other_area;
      other_area = s.own_area;
      sent_valid = s.sent_valid;
      sent_beat =
          let a : beat sent ≡ min own.watch.beat other.watch.beat = s.sent_beat in omega arith;
      sent_ended = s.sent_ended ∙ and_comm own.watch.ended other.watch.ended;
      waits = s.waits;
      all = then s.all (Perm-loops make (elements owns) (elements others));
    }

-- the elements that stay, with more
until-cut : (b : ℕ) (es ms : List Elem) → until b (until b es ++ ms) ≡ until b (es ++ ms)
until-cut b es ms =
    filter-append (λ (e : Elem). nat_lt b e.span.end) (until b es) ms
    ∙ ap (λ (xs : List Elem). xs ++ until b ms) (until-until b b es (omega arith))
    ∙ sym (filter-append (λ (e : Elem). nat_lt b e.span.end) es ms)

turned-width : (s t : List Kind) → length (s ++ t) ≤ 32 → length (t ++ s) ≤ 32
turned-width s t h =
    let a : length (s ++ t) ≡ length s + length t = length-append s t in
    let b : length (t ++ s) ≡ length t + length s = length-append t s in
    omega arith

-- the starts and the ends of what is made
made-late : (make : Elem → Elem → List Elem) → StaysWithin make → (b : ℕ) (ls rs : List Elem)
    → All (λ e. b ≤ e.span.start) ls → All (λ e. b ≤ e.span.start) (made_by make ls rs)
made-late make w b ls rs a =
    All-made (λ (e : Elem). b ≤ e.span.start) (λ (e : Elem). b ≤ e.span.start)
    (λ (e : Elem). 0 ≤ e.span.start) make ls rs
    (λ l r q z. All-weaker (IsWithin l r) (λ (e : Elem). b ≤ e.span.start)
    (λ e h. let x = h.after_left in omega (arith, q, x)) (make l r) (w l r))
    a (λ k d l. omega arith)

made-intervals : (make : Elem → Elem → List Elem) → StaysWithin make → (ls rs : List Elem)
    → All (λ e. IsInterval e.span.start e.span.end) ls
    → All (λ e. IsInterval e.span.start e.span.end) (made_by make ls rs)
made-intervals make w ls rs a =
    All-made (λ (e : Elem). IsInterval e.span.start e.span.end)
    (λ (e : Elem). IsInterval e.span.start e.span.end) (λ (e : Elem). 0 ≤ e.span.start) make ls rs
    (λ l r q z. All-weaker (IsWithin l r) (λ (e : Elem). IsInterval e.span.start e.span.end)
    (λ e h. let x = h.before_left in let y : l.span.end ≤ 1000000000000000 = q.1 in
    (h.not_empty, omega (arith, x, y))) (make l r) (w l r))
    a (λ k d l. omega arith)

all-narrow : (s t : List Kind) (ls rs : List Elem) → length (s ++ t) ≤ 32
    → All (λ e. Fits e.tuple s) ls → All (λ e. Fits e.tuple t) rs → AllNarrow ls rs
all-narrow s t ls rs w f g =
    All-weaker (λ (a : Elem). Fits a.tuple s) (λ (a : Elem). All (AreNarrow a) rs)
    (λ a x. All-weaker (λ (b : Elem). Fits b.tuple t) (AreNarrow a)
    (λ b y. narrow-fits s t a b w x y) rs g) ls f

-- One more message on one side: it is admitted, and then what has ended goes and what is due is
-- sent.
record JoinTurn (probe : Elem → Elem → List Elem) (own mid own' other other' : Side)
    (hold held stays : List Elem) (m : Message) (known now : ℕ) (ended : Bool) : Type 0 where
  pub admits : Admits probe own mid other hold held m
  pub known_is : known ≡ min own.watch.beat other.watch.beat
  pub now_is : now ≡ min mid.watch.beat other.watch.beat
  pub ended_is : ended ≡ (mid.watch.ended && other.watch.ended)
  pub rises : StartsRise (due now held)
  pub stays_is : stays ≡ later now held
  pub own_watch : own'.watch ≡ mid.watch
  pub other_watch : other'.watch ≡ other.watch
  pub own_columns : own'.area.columns ≡ mid.area.columns
  pub other_columns : other'.area.columns ≡ other.area.columns
  pub own_area : (list : List Elem) → AreaHolds mid.area list
      → AreaHolds own'.area (until other.watch.beat list)
  pub other_area : (list : List Elem) → AreaHolds other.area list
      → AreaHolds other'.area (until mid.watch.beat list)

step : (make probe : Elem → Elem → List Elem) → StaysWithin make → (ok tk : List Kind)
    (own mid own' other other' : Side) (hold held stays : List Elem)
    (owns others sent : List Message) (m : Message) (known now : ℕ) (ended : Bool)
    → StandsForSides make ok tk hold own other owns others sent
    → CanFollow (run start_of_list owns) m → MessageFits m ok → length (ok ++ tk) ≤ 32
    → IsByKey make probe own.area.columns other.area.columns
    → JoinTurn probe own mid own' other other' hold held stays m known now ended
    → StandsForSides make ok tk stays own' other' (owns ++ m ∷ []) others
    (sent ++ sent_at known now ended held)
step make probe within ok tk own mid own' other other' hold held stays owns others sent m known now
    ended s w fits width by c =
    let gone : List Elem = due now held in
    let more : List Message = sent_at known now ended held in
    let news : List Elem = elements (m ∷ []) in
    let ls : List Elem = elements owns in
    let rs : List Elem = elements others in
    let p : Progress = run start_of_list sent in
    let own_valid : Valid (owns ++ m ∷ []) = valid-push start_of_list owns m s.own_valid w in
    let follows : CanFollow own.watch m =
    subst (λ (q : Progress). CanFollow q m) (sym s.own_is) w in
    let mid_is : mid.watch ≡ after own.watch m = c.admits.follows follows in
    let own_is : mid.watch ≡ run start_of_list (owns ++ m ∷ []) =
    mid_is ∙ ap (λ (q : Progress). after q m) s.own_is ∙ sym (run-push start_of_list owns m) in
    let mid_beat : mid.watch.beat ≡ beat (owns ++ m ∷ []) =
    ap (λ (q : Progress). q.beat) own_is in
    let other_beat : other.watch.beat ≡ beat others =
    ap (λ (q : Progress). q.beat) s.other_is in
    let own_most : beat (owns ++ m ∷ []) ≤ closed = beat-closed (owns ++ m ∷ []) own_valid in
    let other_most : beat others ≤ closed = beat-closed others s.other_valid in
    let old_beat : beat sent ≡ min own.watch.beat other.watch.beat = s.sent_beat in
    let old_own : own.watch.beat ≡ beat owns = ap (λ (q : Progress). q.beat) s.own_is in
    let old_most : beat owns ≤ closed = beat-closed owns s.own_valid in
    let rose : (own.watch.beat ≤ (run own.watch (m ∷ [])).beat)
    × ((run own.watch (m ∷ [])).beat ≤ closed) =
    run-rises own.watch (m ∷ []) (follows, tt) (omega arith) in
    let rose_is : mid.watch.beat ≡ (run own.watch (m ∷ [])).beat =
    ap (λ (q : Progress). q.beat) mid_is in
    let rises : own.watch.beat ≤ mid.watch.beat = omega (arith, rose.0, rose_is) in
    let going : p.ended ≡ false =
    s.sent_ended ∙ and_left own.watch.ended other.watch.ended (not_ended own.watch m follows) in
    let news_fit : All (λ e. Fits e.tuple ok) news = arrived-fits m ok fits in
    let kept_fit : All (λ e. Fits e.tuple tk) (until own.watch.beat rs) =
    All-filter (λ (e : Elem). nat_lt own.watch.beat e.span.end)
    (λ (e : Elem). Fits e.tuple tk) rs s.other_fits in
    let news_key : All (HasKey own.area.columns) news =
    All-weaker (λ (e : Elem). Fits e.tuple ok) (HasKey own.area.columns)
    (λ e f. s.own_key e f) news news_fit in
    let kept_key : All (HasKey other.area.columns) (until own.watch.beat rs) =
    All-weaker (λ (e : Elem). Fits e.tuple tk) (HasKey other.area.columns)
    (λ e f. s.other_key e f) (until own.watch.beat rs) kept_fit in
    let comes_here : Perm held (made_by make news (until own.watch.beat rs) ++ hold) =
    subst (λ (es : List Elem). Perm held (es ++ hold))
    (made-by_key make probe own.area.columns other.area.columns by news
    (until own.watch.beat rs) news_key kept_key)
    (c.admits.kept.puts news_key (until own.watch.beat rs) s.other_area
    (all-narrow ok tk news (until own.watch.beat rs) width news_fit kept_fit)) in
    let own_columns : own'.area.columns ≡ own.area.columns =
    c.own_columns ∙ c.admits.kept.columns in
    let comes : Perm held (made_by make news rs ++ hold) =
    subst (λ (es : List Elem). Perm held (es ++ hold))
    (news-same make within own.watch m rs follows) comes_here in
    let late : All (λ e. p.beat ≤ e.span.start) news =
    All-weaker (λ (e : Elem). own.watch.beat ≤ e.span.start) (λ (e : Elem). p.beat ≤ e.span.start)
    (λ e h. omega (arith, old_beat, h)) news (arrived own.watch m follows) in
    let low : All (λ e. p.beat ≤ e.span.start) held =
    All-Perm (λ (e : Elem). p.beat ≤ e.span.start) (Perm-sym comes)
    (All-append (λ (e : Elem). p.beat ≤ e.span.start) (made_by make news rs) hold
    (made-late make within p.beat news rs late)
    (All-weaker (λ (e : Elem). p.beat < e.span.start) (λ (e : Elem). p.beat ≤ e.span.start)
    (λ e h. omega (arith, h)) hold s.waits)) in
    let kept : All (λ e. IsInterval e.span.start e.span.end) hold =
    (All-parts (λ (e : Elem). IsInterval e.span.start e.span.end) (elements sent) hold
    (All-Perm (λ (e : Elem). IsInterval e.span.start e.span.end) (Perm-sym s.all)
    (made-intervals make within ls rs (intervals start_of_list owns s.own_valid)))).1 in
    let inside : All (λ e. IsInterval e.span.start e.span.end) held =
    All-Perm (λ (e : Elem). IsInterval e.span.start e.span.end) (Perm-sym comes)
    (All-append (λ (e : Elem). IsInterval e.span.start e.span.end) (made_by make news rs) hold
    (made-intervals make within news rs (intervals own.watch (m ∷ []) (follows, tt))) kept) in
    let now_is : now ≡ min mid.watch.beat other.watch.beat = c.now_is in
    let known_is : known ≡ min own.watch.beat other.watch.beat = c.known_is in
    let out : SentAt p now ended gone more =
    sent_due p known now ended held going (omega (arith, known_is, old_beat))
    (omega (arith, old_beat, rises, now_is)) (omega arith)
    (λ h.
    let both = and_parts mid.watch.ended other.watch.ended (sym c.ended_is ∙ h) in
    let a : beat (owns ++ m ∷ []) ≡ closed = beat-ended (owns ++ m ∷ []) own_valid
    (sym (ap (λ (x : Progress). x.ended) own_is) ∙ both.0) in
    let b : beat others ≡ closed = beat-ended others s.other_valid
    (sym (ap (λ (x : Progress). x.ended) s.other_is) ∙ both.1) in
    omega arith)
    c.rises low inside in
    let ran : run start_of_list (sent ++ more) ≡ run p more = run-append start_of_list sent more in
    let now_beat : beat (sent ++ more) ≡ now = ap (λ (x : Progress). x.beat) ran ∙ out.beat_is in
    let now_elements : elements (sent ++ more) ≡ elements sent ++ gone =
    elements-append sent more
    ∙ ap (λ (es : List Elem). elements sent ++ es) out.elements_are in
    let pushed : elements (owns ++ m ∷ []) ≡ ls ++ news = elements-append owns (m ∷ []) in
    let own'_beat : own'.watch.beat ≡ mid.watch.beat = ap (λ (q : Progress). q.beat) c.own_watch in
    let other'_beat : other'.watch.beat ≡ other.watch.beat =
    ap (λ (q : Progress). q.beat) c.other_watch in
    let own_ends : until other.watch.beat (until other.watch.beat ls ++ news)
    ≡ until other'.watch.beat (elements (owns ++ m ∷ [])) =
    until-cut other.watch.beat ls news ∙ ap (until other.watch.beat) (sym pushed)
    ∙ ap (λ (t : ℕ). until t (elements (owns ++ m ∷ []))) (sym other'_beat) in
    let other_ends : until mid.watch.beat (until own.watch.beat rs) ≡ until own'.watch.beat rs =
    until-until own.watch.beat mid.watch.beat rs rises
    ∙ ap (λ (t : ℕ). until t rs) (sym own'_beat) in
    let made_more : made_by make (ls ++ news) rs ≡ made_by make ls rs ++ made_by make news rs =
    flat_map-append (λ (l : Elem). flat_map (make l) rs) ls news in
    let split : Perm (gone ++ stays) held =
    subst (λ (es : List Elem). Perm (gone ++ es) held) (sym c.stays_is) (due-later now held) in
    record {
      own_valid = own_valid;
      other_valid = s.other_valid;
      own_fits = subst (λ (es : List Elem). All (λ e. Fits e.tuple ok) es) (sym pushed)
          (All-append (λ (e : Elem). Fits e.tuple ok) ls news s.own_fits news_fit);
      other_fits = s.other_fits;
      own_is = c.own_watch ∙ own_is;
      other_is = c.other_watch ∙ s.other_is;
      own_key = λ e f. subst (λ (ks : List ℕ). HasKey ks e) (sym own_columns) (s.own_key e f);
      other_key = λ e f. subst (λ (ks : List ℕ). HasKey ks e) (sym c.other_columns)
          (s.other_key e f);
      own_area = subst (AreaHolds own'.area) own_ends
          (c.own_area (until other.watch.beat ls ++ news)
          (c.admits.kept.keeps news_key (until other.watch.beat ls) s.own_area));
      other_area = subst (AreaHolds other'.area) other_ends
          (c.other_area (until own.watch.beat rs) s.other_area);
      sent_valid = valid-append start_of_list sent more s.sent_valid out.valid;
      sent_beat = omega (arith, now_beat, now_is, own'_beat, other'_beat);
      sent_ended = ap (λ (x : Progress). x.ended) ran ∙ out.ended_is ∙ c.ended_is
          ∙ sym (ap (λ (x : Progress). x.ended && other'.watch.ended) c.own_watch
          ∙ ap (λ (x : Progress). mid.watch.ended && x.ended) c.other_watch);
      waits = subst (λ (es : List Elem). All (λ e. beat (sent ++ more) < e.span.start) es)
          (sym c.stays_is)
          (All-weaker (λ (e : Elem). now < e.span.start)
          (λ (e : Elem). beat (sent ++ more) < e.span.start)
          (λ e h. omega (arith, now_beat, h)) (later now held) (later-above now held));
      all =
          subst (λ (es : List Elem). Perm (es ++ stays)
          (made_by make (elements (owns ++ m ∷ [])) rs)) (sym now_elements)
          (subst (λ (es : List Elem). Perm ((elements sent ++ gone) ++ stays) (made_by make es rs))
          (sym pushed)
          (then (moved (elements sent) hold gone stays held (made_by make ls rs)
          (made_by make news rs) s.all split comes) (Perm-equal (sym made_more))));
    }

-- a join of the same matching
stands-on : (old new : Join) (taken : Lists) (sent : List Message)
    → new.matching ≡ old.matching → new.failed ≡ false
    → length (old.matching.left ++ old.matching.right) ≤ 32
    → new.left.area.columns ≡ left_columns old.matching.pairs
    → new.right.area.columns ≡ right_columns old.matching.pairs
    → StandsForSides (joined_from old.matching.pairs old.matching.condition true)
    old.matching.left old.matching.right new.hold new.left new.right (taken 0) (taken 1) sent
    → JoinStands new taken sent
stands-on old new taken sent same going width left right both =
    record {
      going = going;
      width = subst (λ (x : Matching). length (x.left ++ x.right) ≤ 32) (sym same) width;
      left_key =
          subst (λ (x : Matching). new.left.area.columns ≡ left_columns x.pairs) (sym same) left;
      right_key =
          subst (λ (x : Matching). new.right.area.columns ≡ right_columns x.pairs) (sym same) right;
      both = subst (λ (x : Matching). StandsForSides (joined_from x.pairs x.condition true)
          x.left x.right new.hold new.left new.right (taken 0) (taken 1) sent) (sym same) both;
    }

by_columns : (make probe : Elem → Elem → List Elem) (own other own' other' : List ℕ)
    → own' ≡ own → other' ≡ other → IsByKey make probe own other
    → IsByKey make probe own' other'
by_columns make probe own other own' other' h k by =
    subst (λ (ks : List ℕ). IsByKey make probe ks other') (sym h)
    (subst (λ (ks : List ℕ). IsByKey make probe own ks) (sym k) by)

-- the steps of the code, on either port
pub join_takes_left : (old mid new : Join) (m : Message) (known : ℕ) (before now : List Message)
    → known ≡ lower_beat old → mid.matching ≡ old.matching → mid.failed ≡ old.failed
    → mid.right ≡ old.right
    → Admits (joined_from [] old.matching.condition true) old.left mid.left
    old.right old.hold mid.hold m
    → JoinSends mid new known before now
    → Takes (matching_task old.matching) (JoinStands old) (JoinStands new) 0 m before now
join_takes_left old mid new m known before now known_is matching failed right admits sends =
    let watch : mid.right.watch ≡ old.right.watch = ap (λ (x : Side). x.watch) right in
    record {
      sent = sent_at known (lower_beat mid) (both_ended mid) mid.hold;
      appended = sends.appended;
      stands = λ taken earlier s can.
          stands-on old new _ _ (sends.matching ∙ matching) (sends.failed ∙ failed ∙ s.going)
          s.width
          (sends.left_same ∙ admits.kept.columns ∙ s.left_key)
          (sends.right_same ∙ ap (λ (x : Side). x.area.columns) right ∙ s.right_key)
          (step (joined_from old.matching.pairs old.matching.condition true)
          (joined_from [] old.matching.condition true)
          (joined-within old.matching.pairs old.matching.condition)
          old.matching.left old.matching.right old.left mid.left new.left old.right new.right
          old.hold mid.hold new.hold (taken 0) (taken 1) earlier m known (lower_beat mid)
          (both_ended mid) s.both can.follows can.fits s.width
          (by_columns _ _ _ _ _ _ s.left_key s.right_key
          (joined-by_key_left old.matching.pairs old.matching.condition))
          (record {
            admits = admits;
            known_is = known_is;
            now_is = ap (λ (x : Progress). min mid.left.watch.beat x.beat) watch;
            ended_is = ap (λ (x : Progress). mid.left.watch.ended && x.ended) watch;
            rises = sends.rises;
            stays_is = sends.hold;
            own_watch = sends.left_watch;
            other_watch = sends.right_watch ∙ watch;
            own_columns = sends.left_same;
            other_columns = sends.right_same ∙ ap (λ (x : Side). x.area.columns) right;
            own_area = λ list h. subst (λ (x : Progress). AreaHolds new.left.area
                (until x.beat list)) watch (sends.left_area list h);
            other_area = λ list h. sends.right_area list
                (subst (λ (x : Side). AreaHolds x.area list) (sym right) h);
          }));
    }

pub join_takes_right : (old mid new : Join) (m : Message) (known : ℕ) (before now : List Message)
    → known ≡ lower_beat old → mid.matching ≡ old.matching → mid.failed ≡ old.failed
    → mid.left ≡ old.left
    → Admits (joined_from [] old.matching.condition false) old.right mid.right
    old.left old.hold mid.hold m
    → JoinSends mid new known before now
    → Takes (matching_task old.matching) (JoinStands old) (JoinStands new) 1 m before now
join_takes_right old mid new m known before now known_is matching failed left admits sends =
    let watch : mid.left.watch ≡ old.left.watch = ap (λ (x : Side). x.watch) left in
    let make : Elem → Elem → List Elem =
    joined_from old.matching.pairs old.matching.condition true in
    record {
      sent = sent_at known (lower_beat mid) (both_ended mid) mid.hold;
      appended = sends.appended;
      stands = λ taken earlier s can.
          stands-on old new _ _ (sends.matching ∙ matching) (sends.failed ∙ failed ∙ s.going)
          s.width
          (sends.left_same ∙ ap (λ (x : Side). x.area.columns) left ∙ s.left_key)
          (sends.right_same ∙ admits.kept.columns ∙ s.right_key)
          (turn (λ a b. make b a) old.matching.right old.matching.left new.hold new.right new.left
          _ _ _
          (step (λ a b. make b a) (λ a b. joined_from [] old.matching.condition true b a)
          (within-turned make (joined-within old.matching.pairs old.matching.condition))
          old.matching.right old.matching.left old.right mid.right new.right old.left new.left
          old.hold mid.hold new.hold (taken 1) (taken 0) earlier m known (lower_beat mid)
          (both_ended mid)
          (turn make old.matching.left old.matching.right old.hold old.left old.right
          (taken 0) (taken 1) earlier s.both) can.follows can.fits
          (turned-width old.matching.left old.matching.right s.width)
          (by_columns _ _ _ _ _ _ s.right_key s.left_key
          (joined-by_key_right old.matching.pairs old.matching.condition))
          (record {
            admits = admits;
            known_is = known_is ∙ min_comm old.left.watch.beat old.right.watch.beat;
            now_is = ap (λ (x : Progress). min x.beat mid.right.watch.beat) watch
                ∙ min_comm old.left.watch.beat mid.right.watch.beat;
            ended_is = ap (λ (x : Progress). x.ended && mid.right.watch.ended) watch
                ∙ and_comm old.left.watch.ended mid.right.watch.ended;
            rises = sends.rises;
            stays_is = sends.hold;
            own_watch = sends.right_watch;
            other_watch = sends.left_watch ∙ watch;
            own_columns = sends.right_same;
            other_columns = sends.left_same ∙ ap (λ (x : Side). x.area.columns) left;
            own_area = λ list h. subst (λ (x : Progress). AreaHolds new.right.area
                (until x.beat list)) watch (sends.right_area list h);
            other_area = λ list h. sends.left_area list
                (subst (λ (x : Side). AreaHolds x.area list) (sym left) h);
          })));
    }

-- the law
pub join_lawful : (j : Join) (taken : Lists) (sent : List Message) → JoinStands j taken sent
    → Lawful (matching_task j.matching) taken sent
    (length j.left.area.elems + length j.right.area.elems)
join_lawful j taken sent stands =
    let s = stands.both in
    let make : Elem → Elem → List Elem =
    joined_from j.matching.pairs j.matching.condition true in
    let within : StaysWithin make = joined-within j.matching.pairs j.matching.condition in
    let ls : List Elem = elements (taken 0) in
    let rs : List Elem = elements (taken 1) in
    let kinds : List Kind = j.matching.left ++ j.matching.right in
    let left_beat : j.left.watch.beat ≡ beat (taken 0) = ap (λ (p : Progress). p.beat) s.own_is in
    let right_beat : j.right.watch.beat ≡ beat (taken 1) =
    ap (λ (p : Progress). p.beat) s.other_is in
    let left_most : beat (taken 0) ≤ closed = beat-closed (taken 0) s.own_valid in
    let right_most : beat (taken 1) ≤ closed = beat-closed (taken 1) s.other_valid in
    let sent_beat : beat sent ≡ min j.left.watch.beat j.right.watch.beat = s.sent_beat in
    let prompt : beat sent ≡ least 2 taken = omega arith in
    let fits : All (λ e. Fits e.tuple kinds) (elements sent ++ j.hold) =
    All-Perm (λ (e : Elem). Fits e.tuple kinds) (Perm-sym s.all)
    (All-made (λ (e : Elem). Fits e.tuple kinds) (λ (e : Elem). Fits e.tuple j.matching.left)
    (λ (e : Elem). Fits e.tuple j.matching.right) make ls rs
    (joined-fits j.matching.pairs j.matching.condition j.matching.left j.matching.right)
    s.own_fits s.other_fits) in
    let waits : All (λ e. beat sent < e.span.start) j.hold = s.waits in
    let left_len : length j.left.area.elems ≡ length (until j.right.watch.beat ls) =
    length-Perm s.own_area.all in
    let right_len : length j.right.area.elems ≡ length (until j.left.watch.beat rs) =
    length-Perm s.other_area.all in
    let left_open : length (until j.right.watch.beat ls) ≤ open_count (least 2 taken) ls =
    until-open (least 2 taken) j.right.watch.beat ls (omega arith) in
    let right_open : length (until j.left.watch.beat rs) ≤ open_count (least 2 taken) rs =
    until-open (least 2 taken) j.left.watch.beat rs (omega arith) in
    let opens : open_count (least 2 taken) (ls ++ rs)
    ≡ open_count (least 2 taken) ls + open_count (least 2 taken) rs =
    open_count-append (least 2 taken) ls rs in
    record {
      valid = s.sent_valid;
      fits = (All-parts (λ (e : Elem). Fits e.tuple kinds) (elements sent) j.hold fits).0;
      answer = λ t below.
          let late : All (λ e. t < e.span.start) j.hold =
          All-weaker (λ (e : Elem). beat sent < e.span.start) (λ (e : Elem). t < e.span.start)
          (λ e h. omega (arith, below, h)) j.hold waits in
          let empty : snapshot j.hold t ≡ [] = snapshot-above t j.hold late in
          let here : snapshot (elements sent ++ j.hold) t ≡ snapshot (elements sent) t =
          snapshot-append (elements sent) j.hold t
          ∙ ap (λ (rows : List (List Value)). snapshot (elements sent) t ++ rows) empty
          ∙ append-nil (snapshot (elements sent) t) in
          SameBag-Perm (then (Perm-equal (sym here)) (then (snapshot-Perm t s.all)
          (Perm-equal (snapshot-made j.matching.pairs j.matching.condition ls rs t))));
      below = omega arith;
      above = let h = floor-below (least 2 taken) (all_elements 2 taken) in
          omega (arith, prompt, h);
      prompt = λ lags. prompt;
      ends = λ h.
          let a : HasEnded (taken 0) = h 0 (omega arith) in
          let b : HasEnded (taken 1) = h 1 (omega arith) in
          let c : beat (taken 0) ≡ closed = beat-ended (taken 0) s.own_valid a in
          let d : beat (taken 1) ≡ closed = beat-ended (taken 1) s.other_valid b in
          let le : j.left.watch.ended ≡ true = ap (λ (p : Progress). p.ended) s.own_is ∙ a in
          let re : j.right.watch.ended ≡ true = ap (λ (p : Progress). p.ended) s.other_is ∙ b in
          let no_left : length (until j.right.watch.beat ls) ≡ 0 =
          ap (λ (t : ℕ). length (until t ls)) (right_beat ∙ d)
          ∙ ap length (until-closed ls (intervals start_of_list (taken 0) s.own_valid)) in
          let no_right : length (until j.left.watch.beat rs) ≡ 0 =
          ap (λ (t : ℕ). length (until t rs)) (left_beat ∙ c)
          ∙ ap length (until-closed rs (intervals start_of_list (taken 1) s.other_valid)) in
          (s.sent_ended ∙ rw (le, re) refl, omega (arith, left_len, right_len, no_left, no_right));
      few = omega (arith, left_len, right_len, left_open, right_open, opens);
      spans =
          (All-parts (IsCovered (ls ++ rs)) (elements sent) j.hold
          (All-Perm (IsCovered (ls ++ rs)) (Perm-sym s.all) (made-covered make within ls rs))).0;
    }

pub join_beat : (j : Join) (taken : Lists) (sent : List Message) → JoinStands j taken sent
    → lower_beat j ≡ beat sent
join_beat j taken sent s = sym s.both.sent_beat

-- a row that fits has the columns that its kinds have
fits-key : (columns : List ℕ) (kinds : List Kind) (e : Elem) → HasColumns columns kinds
    → Fits e.tuple kinds → HasKey columns e
fits-key columns kinds e h f =
    let same : length kinds ≡ length e.tuple = sym (ap length f) ∙ length-map e.tuple kind_of in
    All-weaker (λ (column : ℕ). column < length kinds) (λ (column : ℕ). column < length e.tuple)
    (λ column k. subst (λ (n : ℕ). column < n) same k) columns h

-- before any message
pub join_new : (j : Join) → j.failed ≡ false
    → SidesFit j.matching.pairs j.matching.left j.matching.right → j.left.watch ≡ start_of_list
    → j.right.watch ≡ start_of_list → j.left.area.columns ≡ left_columns j.matching.pairs
    → j.right.area.columns ≡ right_columns j.matching.pairs → AreaHolds j.left.area []
    → AreaHolds j.right.area [] → j.hold ≡ [] → JoinStands j no_messages []
join_new j going fit left right left_key right_key left_area right_area hold =
    record {
      going = going;
      width = fit.width;
      left_key = left_key;
      right_key = right_key;
      both = record {
        own_valid = tt;
        other_valid = tt;
        own_fits = All-nil (λ (e : Elem). Fits e.tuple j.matching.left);
        other_fits = All-nil (λ (e : Elem). Fits e.tuple j.matching.right);
        own_is = left;
        other_is = right;
        own_key = λ e f. subst (λ (ks : List ℕ). HasKey ks e) (sym left_key)
            (fits-key (left_columns j.matching.pairs) j.matching.left e fit.left f);
        other_key = λ e f. subst (λ (ks : List ℕ). HasKey ks e) (sym right_key)
            (fits-key (right_columns j.matching.pairs) j.matching.right e fit.right f);
        own_area = left_area;
        other_area = right_area;
        sent_valid = tt;
        sent_beat = sym (ap (λ (x : Progress). min x.beat j.right.watch.beat) left
            ∙ ap (λ (x : Progress). min 0 x.beat) right);
        sent_ended = sym (ap (λ (x : Progress). x.ended && j.right.watch.ended) left);
        waits = subst (λ (es : List Elem). All (λ e. 0 < e.span.start) es) (sym hold)
            (All-nil (λ (e : Elem). 0 < e.span.start));
        all = Perm-equal hold;
      };
    }

-- what the code does one after the other
pub join_sends_from : (old new : Join) (known now : ℕ) (ended : Bool) (before after : List Message)
    → new.matching ≡ old.matching → new.failed ≡ old.failed → new.left.watch ≡ old.left.watch
    → new.right.watch ≡ old.right.watch
    → new.left.area.columns ≡ old.left.area.columns
    → new.right.area.columns ≡ old.right.area.columns
    → ((list : List Elem) → AreaHolds old.left.area list
    → AreaHolds new.left.area (until old.right.watch.beat list))
    → ((list : List Elem) → AreaHolds old.right.area list
    → AreaHolds new.right.area (until old.left.watch.beat list))
    → now ≡ lower_beat old → ended ≡ both_ended old → StartsRise (due now old.hold)
    → new.hold ≡ later now old.hold → after ≡ before ++ sent_at known now ended old.hold
    → JoinSends old new known before after
join_sends_from old new known now ended before after matching failed left right left_same right_same
    left_area right_area now_is ended_is rise hold sent =
    record {
      matching = matching;
      failed = failed;
      left_watch = left;
      right_watch = right;
      left_same = left_same;
      right_same = right_same;
      left_area = left_area;
      right_area = right_area;
      hold = subst (λ (t : ℕ). new.hold ≡ later t old.hold) now_is hold;
      rises = subst (λ (t : ℕ). StartsRise (due t old.hold)) now_is rise;
      appended =
          subst (λ (t : ℕ). after ≡ before ++ sent_at known t (both_ended old) old.hold) now_is
          (subst (λ (b : Bool). after ≡ before ++ sent_at known now b old.hold) ended_is sent);
    }
