-- The messages of arrivals, while no split is known.
use Rattle.std.proofs.Common.{◌≡◌, ℕ, zero, suc, ◌≤◌, ◌<◌, List, [], ◌∷◌, ◌++◌, map, refl, sym, ap}
use Rattle.std.proofs.Common.{◌∙◌, subst, arith, false}
use Rattle.std.specs.List.{All}
use Rattle.std.proofs.lemmas.List.{append-nil, map-append}
use Rattle.std.proofs.lemmas.List.Elements.{All-nil, All-cons, All-append, All-head}
use Rattle.pipes_tuple.specs.declared.value.Kind.{Kind}
use Rattle.pipes_tuple.specs.declared.value.Value.{Value}
use Rattle.pipes_stream.specs.declared.Elem.{Elem}
use Rattle.pipes_stream.specs.declared.message.Message.{Message}
use Rattle.pipes_stream.specs.declared.message.Message.TheVariants as message
use Rattle.pipes_stream.specs.Progress.{Progress}
use Rattle.pipes_stream.specs.Snapshot.{snapshot}
use Rattle.pipes_stream.specs.Lists.{run, start_of_list, after, beat, elements, ValidFrom}
use Rattle.pipes_stream.specs.Lists.{Valid}
use Rattle.pipes_stream.proofs.Messages.{run-append, run-rises, beat-closed, valid-prefix}
use Rattle.pipes_stream.proofs.Messages.{valid-suffix}
use Rattle.pipes_stream.proofs.Ports.{All-parts}
use Rattle.pipes_stream.proofs.Snapshots.{snapshot-append, snapshot-above, snapshot-final}
use Rattle.pipes_window.specs.declared.item.Item.{Item}
use Rattle.pipes_window.specs.Windows.{known, window_beat}
use Rattle.pipes_window.specs.Laws.{StartsFrom}
use Rattle.pipes_feed.specs.Released.{Arrived, none_arrived, rest_of, after_arrival, released}
use Rattle.pipes_feed.specs.Ahead.{ItemFits}
use Rattle.pipes_arrivals.specs.Arriving.{ArriveAfter}
use Rattle.pipes_arrivals.specs.Laws.{AreRowsInOrder}
use Rattle.pipes_arrivals.proofs.Rows.{rows_in_order, heartbeat}
use Rattle.pipes_split.specs.Views.{last_epoch}
use Rattle.pipes_split.specs.Knowledge.{Knowledge}
use Rattle.pipes_parcel.specs.declared.parcel.Parcel.{Parcel}
use Rattle.pipes_parcel.specs.declared.parcel.Fed.{Fed}
use Rattle.pipes_parcel.specs.declared.parcel.Fed.TheVariants as fed
use Rattle.pipes_parcel.specs.Pieces.{ArePieces, whole, cut, parcel, MayStart}
use Rattle.pipes_parcel.specs.Feds.{feds_of, parts_of}
use Rattle.pipes_packer.specs.Packing.{AreCut, ArePacked, ArePackedWhole}
use Rattle.pipes_query.specs.declared.query.SourceDecl.{SourceDecl}
use Rattle.pipes_intake.specs.Giving.{MayPassAll, HasGiven}
use Rattle.pipes_intake.proofs.Known.{IsKnown, known-new, known-more, known-may, known-all}
use Rattle.pipes_intake.proofs.Known.{known-may_close}
use Rattle.pipes_supply.specs.Supply.{message_of, messages_of, NoSplit, MayAllCome, AreRows}
use Rattle.pipes_supply.specs.Supply.{AreSupplied, MayBeGiven, SuppliedSoFar, SuppliedAtEnd}
use Rattle.pipes_supply.specs.Supply.{AllIsEnded}

-- ---- pieces

early : (k : Knowledge) (first : ℕ) (e : Elem) (parts : List Parcel) → ArePieces k first e parts
    → first ≤ last_epoch
early k first e parts (whole _ epoch _ from early_is start end) = omega (arith, from, early_is)
early k first e parts (cut _ epoch t _ rest from above below split start more) =
    let there = early k _ _ rest more in omega (arith, from, there)

in_first : (k : Knowledge) (epoch start : ℕ) (e : Elem) → NoSplit k → epoch ≤ last_epoch
    → MayStart k epoch start → parcel epoch e ∷ [] ≡ parcel 0 e ∷ []
in_first k zero start e none low may = refl
in_first k (suc n) start e none low may =
    let s = may n (omega arith) in
    let no = none n (omega (arith, low)) in
    absurd (let is = s.1 in cc)

-- the only piece of an element
one-piece : (k : Knowledge) (first : ℕ) (e : Elem) (parts : List Parcel) → NoSplit k
    → ArePieces k first e parts → parts ≡ parcel 0 e ∷ []
one-piece k first e parts none (whole _ epoch _ from low start end) =
    in_first k epoch e.span.start e none low start
one-piece k first e parts none (cut _ epoch t _ rest from above below split start more) =
    let there = early k _ _ rest more in
    let no = none epoch (omega (arith, there)) in
    absurd (cc)

messages-append : (xs ys : List Fed) → messages_of (xs ++ ys) ≡ messages_of xs ++ messages_of ys
messages-append xs ys = map-append (λ f. message_of f) xs ys

parts-append : (xs ys : List Fed) → parts_of (xs ++ ys) ≡ parts_of xs ++ parts_of ys
parts-append [] ys = refl
parts-append (fed.Part p ∷ xs) ys = ap (λ (l : List Parcel). p ∷ l) (parts-append xs ys)
parts-append (fed.Beat at ∷ xs) ys = parts-append xs ys
parts-append (fed.End ∷ xs) ys = parts-append xs ys

-- all parts are of the first epoch
abbrev AllFirst : List Fed → Type 0
AllFirst feds = All (λ (p : Parcel). p.epoch ≡ 0) (parts_of feds)

first-append : (xs ys : List Fed) → AllFirst xs → AllFirst ys → AllFirst (xs ++ ys)
first-append xs ys a b = subst (λ (l : List Parcel). All (λ (p : Parcel). p.epoch ≡ 0) l)
    (sym (parts-append xs ys))
    (All-append (λ (p : Parcel). p.epoch ≡ 0) (parts_of xs) (parts_of ys) a b)

-- elements that are cut, each in one piece
pub record AreWhole (elems : List Elem) (feds : List Fed) : Type 0 where
  pub first : AllFirst feds
  pub messages : messages_of feds ≡ map message.Elem elems

one-whole : (elems : List Elem) (feds : List Fed) (e : Elem) (parts : List Parcel)
    → parts ≡ parcel 0 e ∷ [] → AreWhole elems feds
    → AreWhole (elems ++ e ∷ []) (feds ++ feds_of parts)
one-whole elems feds e parts is w =
    subst (λ (ps : List Parcel). AreWhole (elems ++ e ∷ []) (feds ++ feds_of ps)) (sym is)
    (record {
      first = first-append feds (fed.Part (parcel 0 e) ∷ []) w.first
          (All-cons (λ (p : Parcel). p.epoch ≡ 0) (parcel 0 e) [] refl
          (All-nil (λ (p : Parcel). p.epoch ≡ 0)));
      messages = messages-append feds (fed.Part (parcel 0 e) ∷ [])
          ∙ ap (λ (l : List Message). l ++ message.Elem e ∷ []) w.messages
          ∙ sym (map-append message.Elem elems (e ∷ []));
    })

cut-whole : (k : Knowledge) (elems : List Elem) (feds : List Fed) → NoSplit k
    → AreCut k elems feds → AreWhole elems feds
cut-whole k _ _ none AreCut.none =
    record { first = All-nil (λ (p : Parcel). p.epoch ≡ 0); messages = refl }
cut-whole k _ _ none (AreCut.more elems feds e parts before pieces) =
    one-whole elems feds e parts (one-piece k 0 e parts none pieces)
    (cut-whole k elems feds none before)

-- ---- arrivals

arrive-front : (slack : ℕ) (held : Arrived) (xs ys : List Item) → ArriveAfter slack held (xs ++ ys)
    → ArriveAfter slack held xs
arrive-front slack held [] ys come = tt
arrive-front slack held (x ∷ xs) ys come =
    (come.0, come.1, arrive-front slack (rest_of slack (after_arrival x held)) xs ys come.2)

front : (s : SourceDecl) (xs ys : List Item) → MayBeGiven s (xs ++ ys) → MayBeGiven s xs
front s xs ys g = record {
  window = g.window;
  come = arrive-front s.slack none_arrived xs ys g.come;
  fit = (All-parts (ItemFits s.schema) xs ys g.fit).0;
}

may-append : (kinds : List Kind) (p : Progress) (xs ys : List Message) → MayPassAll kinds p xs
    → MayPassAll kinds (run p xs) ys → MayPassAll kinds p (xs ++ ys)
may-append kinds p [] ys a b = b
may-append kinds p (m ∷ xs) ys a b = (a.0, may-append kinds (after p m) xs ys a.1 b)

may-front : (kinds : List Kind) (p : Progress) (xs ys : List Message)
    → MayPassAll kinds p (xs ++ ys) → MayPassAll kinds p xs
may-front kinds p [] ys a = tt
may-front kinds p (m ∷ xs) ys a = (a.0, may-front kinds (after p m) xs ys a.1)

may-valid : (kinds : List Kind) (p : Progress) (ms : List Message) → MayPassAll kinds p ms
    → ValidFrom p ms
may-valid kinds p [] a = tt
may-valid kinds p (m ∷ ms) a = (a.0.0, may-valid kinds (after p m) ms a.1)

-- the messages of these arrivals: elements and heartbeats
pub record ArePassed (s : SourceDecl) (arrivals : List Item) (feds : List Fed) : Type 0 where
  pub may : MayAllCome s.schema feds
  pub known_are : IsKnown s arrivals (messages_of feds)

passed-more : (s : SourceDecl) (arrivals : List Item) (feds : List Fed) (x : Item)
    (elems : List Elem) (bits : List Fed) → MayBeGiven s (arrivals ++ x ∷ [])
    → known s.window (released s.slack (arrivals ++ x ∷ []))
    ≡ known s.window (released s.slack arrivals) ++ elems
    → AreWhole elems bits → ArePassed s arrivals feds
    → ArePassed s (arrivals ++ x ∷ []) (feds ++ (bits ++ fed.Beat
    (window_beat s.window (released s.slack (arrivals ++ x ∷ [])) false) ∷ []))
passed-more s arrivals feds x elems bits g is w p =
    let at : ℕ = window_beat s.window (released s.slack (arrivals ++ x ∷ [])) false in
    let last : List Fed = fed.Beat at ∷ [] in
    let given : List Message = map message.Elem elems ++ message.Beat at ∷ [] in
    let fits : ItemFits s.schema x =
    All-head-of s arrivals x g in
    let same : messages_of (bits ++ last) ≡ given = messages-append bits last
    ∙ ap (λ (l : List Message). l ++ message.Beat at ∷ []) w.messages in
    let all : messages_of (feds ++ (bits ++ last)) ≡ messages_of feds ++ given =
    messages-append feds (bits ++ last)
    ∙ ap (λ (l : List Message). messages_of feds ++ l) same in
    record {
      may = record {
        first = first-append feds (bits ++ last) p.may.first
            (first-append bits last w.first (All-nil (λ (q : Parcel). q.epoch ≡ 0)));
        pass = subst (λ (l : List Message). MayPassAll s.schema start_of_list l) (sym all)
            (may-append s.schema start_of_list (messages_of feds) given p.may.pass
            (known-may s arrivals (messages_of feds) p.known_are x elems g.come is fits));
      };
      known_are = subst (λ (l : List Message). IsKnown s (arrivals ++ x ∷ []) l) (sym all)
          (known-more s arrivals (messages_of feds) p.known_are x elems g.come is fits);
    }
  where
    All-head-of : (s : SourceDecl) (arrivals : List Item) (x : Item)
        → MayBeGiven s (arrivals ++ x ∷ []) → ItemFits s.schema x
    All-head-of s arrivals x g = All-head (ItemFits s.schema) x []
        (All-parts (ItemFits s.schema) arrivals (x ∷ []) g.fit).1

passed : (s : SourceDecl) (k : Knowledge) (arrivals : List Item) (feds : List Fed)
    → MayBeGiven s arrivals → NoSplit k → ArePacked k s.slack s.window arrivals feds
    → ArePassed s arrivals feds
passed s k _ _ g none ArePacked.none = record {
  may = record { first = All-nil (λ (p : Parcel). p.epoch ≡ 0); pass = tt };
  known_are = known-new s g.window;
}
passed s k _ _ g none (ArePacked.more arrivals feds x elems bits before is pieces) =
    passed-more s arrivals feds x elems bits g is (cut-whole k elems bits none pieces)
    (passed s k arrivals feds (front s arrivals (x ∷ []) g) none before)

-- ---- what is taken of them

-- the first of messages that may come, where all of them are the rows
taken-of : (s : SourceDecl) (arrivals : List Item) (feds rest : List Fed) → MayAllCome s.schema (feds ++ rest)
    → AreRows s arrivals (feds ++ rest) → AreSupplied s arrivals feds
taken-of s arrivals feds rest may rows =
    let all : messages_of (feds ++ rest) ≡ messages_of feds ++ messages_of rest =
    messages-append feds rest in
    let pass = subst (λ (l : List Message). MayPassAll s.schema start_of_list l) all may.pass in
    let valid : Valid (messages_of feds ++ messages_of rest) =
    may-valid s.schema start_of_list (messages_of feds ++ messages_of rest) pass in
    let before : Valid (messages_of feds) =
    valid-prefix start_of_list (messages_of feds) (messages_of rest) valid in
    let rises = (run-rises (run start_of_list (messages_of feds)) (messages_of rest)
    (valid-suffix start_of_list (messages_of feds) (messages_of rest) valid)
    (beat-closed (messages_of feds) before)).0 in
    let up : beat (messages_of (feds ++ rest))
    ≡ (run (run start_of_list (messages_of feds)) (messages_of rest)).beat =
    ap beat all ∙ ap (λ (p : Progress). p.beat)
    (run-append start_of_list (messages_of feds) (messages_of rest)) in
    record {
      may = record {
        first = (All-parts (λ (p : Parcel). p.epoch ≡ 0) (parts_of feds) (parts_of rest)
            (subst (λ (l : List Parcel). All (λ (p : Parcel). p.epoch ≡ 0) l)
            (parts-append feds rest) may.first)).0;
        pass = may-front s.schema start_of_list (messages_of feds) (messages_of rest) pass;
      };
      rows = λ t low below.
          sym (snapshot-final (messages_of feds) (messages_of rest) t valid below)
          ∙ ap (λ (l : List Message). snapshot (elements l) t) (sym all)
          ∙ rows t low (omega (arith, below, rises, up));
    }

starts-above : (low t : ℕ) (es : List Elem) → t < low → StartsFrom low es
    → All (λ e. t < e.span.start) es
starts-above low t [] h up = All-nil (λ (e : Elem). t < e.span.start)
starts-above low t (e ∷ es) h up =
    let here : t < e.span.start = omega (arith, h, up.0) in
    All-cons (λ (d : Elem). t < d.span.start) e es here
    (starts-above e.span.start t es here up.1)

-- below their heartbeat the messages of arrivals are the rows, whatever arrives later
rows-so_far : (s : SourceDecl) (arrivals more : List Item) (feds : List Fed)
    → MayBeGiven s (arrivals ++ more) → ArePassed s arrivals feds
    → AreRows s (arrivals ++ more) feds
rows-so_far s arrivals more feds g p t low below =
    let k : IsKnown s arrivals (messages_of feds) = p.known_are in
    let now : List Elem = known s.window (released s.slack arrivals) in
    let a = (heartbeat s.slack s.window arrivals g.window
    (arrive-front s.slack none_arrived arrivals more g.come)).ahead more g.come in
    let order : AreRowsInOrder s.slack s.window (arrivals ++ more) =
    rows_in_order s.slack s.window (arrivals ++ more) g.window g.come in
    let late : All (λ e. t < e.span.start) a.0 =
    starts-above (window_beat s.window (released s.slack arrivals) false) t a.0
    (omega (arith, below, k.low)) a.2 in
    ap (λ (l : List Elem). snapshot l t) k.given
    ∙ sym (append-nil (snapshot now t))
    ∙ ap (λ (l : List (List Value)). snapshot now t ++ l) (sym (snapshot-above t a.0 late))
    ∙ sym (snapshot-append now a.0 t)
    ∙ ap (λ (l : List Elem). snapshot l t) (sym a.1)
    ∙ order.rows t low

pub so_far : SuppliedSoFar
so_far s k arrivals more feds rest g none packed =
    let p : ArePassed s arrivals (feds ++ rest) =
    passed s k arrivals (feds ++ rest) (front s arrivals more g) none packed in
    taken-of s (arrivals ++ more) feds rest p.may
    (rows-so_far s arrivals more (feds ++ rest) g p)

-- all messages of a source that has ended
pub record AreAll (s : SourceDecl) (arrivals : List Item) (feds : List Fed) : Type 0 where
  pub may : MayAllCome s.schema feds
  pub given : HasGiven s arrivals (messages_of feds)

whole-list : (s : SourceDecl) (k : Knowledge) (arrivals : List Item) (feds : List Fed)
    → MayBeGiven s arrivals → NoSplit k → ArePackedWhole k s.slack s.window arrivals feds
    → AreAll s arrivals feds
whole-list s k arrivals feds g none w =
    let p : ArePassed s arrivals w.before = passed s k arrivals w.before g none w.packed in
    let c : AreWhole w.elems w.cut = cut-whole k w.elems w.cut none w.pieces in
    let last : List Fed = fed.End ∷ [] in
    let given : List Message = map message.Elem w.elems ++ message.End ∷ [] in
    let same : messages_of (w.cut ++ last) ≡ given = messages-append w.cut last
    ∙ ap (λ (l : List Message). l ++ message.End ∷ []) c.messages in
    let all : messages_of (w.before ++ (w.cut ++ last)) ≡ messages_of w.before ++ given =
    messages-append w.before (w.cut ++ last)
    ∙ ap (λ (l : List Message). messages_of w.before ++ l) same in
    subst (λ (l : List Fed). AreAll s arrivals l) (sym w.all)
    (record {
      may = record {
        first = first-append w.before (w.cut ++ last) p.may.first
            (first-append w.cut last c.first (All-nil (λ (q : Parcel). q.epoch ≡ 0)));
        pass = subst (λ (l : List Message). MayPassAll s.schema start_of_list l) (sym all)
            (may-append s.schema start_of_list (messages_of w.before) given p.may.pass
            (known-may_close s arrivals (messages_of w.before) p.known_are w.elems w.left));
      };
      given = subst (λ (l : List Message). HasGiven s arrivals l) (sym all)
          (known-all s arrivals (messages_of w.before) p.known_are w.elems w.left);
    })

pub at_end : SuppliedAtEnd
at_end s k arrivals feds rest g none packed =
    let a : AreAll s arrivals (feds ++ rest) = whole-list s k arrivals (feds ++ rest) g none packed
    in taken-of s arrivals feds rest a.may (λ t low below. a.given.rows t low)

pub all_ended : AllIsEnded
all_ended s k arrivals feds g none packed = (whole-list s k arrivals feds g none packed).given.ended
