-- A run on its way: what its sources have given, what has come to the top, and what is written.
use Rattle.std.specs.Prelude.{◌≡◌, ℕ, ◌+◌, ◌<◌, ◌≤◌, List, [], ◌∷◌, ◌++◌, length, get_or, slice_get}
use Rattle.std.specs.Prelude.{unwrap_or, Option, Some, None, true, ⊤}
use Rattle.std.specs.List.{All, sum_by}
use Rattle.std.specs.Io.KnownBytes.{Appends}
use Rattle.pipes_tuple.specs.declared.value.Kind.{Kind}
use Rattle.pipes_stream.specs.declared.Elem.{Elem}
use Rattle.pipes_stream.specs.declared.message.Message.{Message}
use Rattle.pipes_stream.specs.Lists.{run, start_of_list, elements}
use Rattle.pipes_stream.specs.Lawful.{Lists, with_message}
use Rattle.pipes_plan.specs.declared.plan.Plan.{Plan}
use Rattle.pipes_plan.specs.PlanKinds.{IsTyped}
use Rattle.pipes_window.specs.declared.item.Item.{Item}
use Rattle.pipes_output.specs.declared.entry.Entry.{Entry}
use Rattle.pipes_output.specs.declared.form.Form.{Form}
use Rattle.pipes_feed.specs.declared.reason.Reason.{Reason}
use Rattle.pipes_feed.specs.declared.reason.Reason.TheVariants as reason
use Rattle.pipes_feed.specs.declared.reader.Next.TheVariants as next
use Rattle.pipes_feed.specs.Items.{arrivals_of, in_order}
use Rattle.pipes_query.specs.declared.query.Query.{Query}
use Rattle.pipes_query.specs.declared.query.SourceDecl.{SourceDecl}
use Rattle.pipes_semantics.specs.Answer.{schemas_of}
use Rattle.pipes_semantics.specs.Run.{WritesRun, WritesRunPrefix}
use Rattle.pipes_results.specs.Kept.{Keeps, StopsEarly, form_of}
use Rattle.pipes_works.specs.declared.works.Works.{Works}
use Rattle.pipes_works.specs.Standing.{WorksStand, IsWhole}
use Rattle.pipes_intake.specs.declared.intake.Intake.{Intake}
use Rattle.pipes_intake.specs.Taken.{ArePart}
use Rattle.pipes_intake.specs.Giving.{MayPassAll, IntakeStands, HasGiven, turns_to_come}
use Rattle.pipes_intake.specs.Giving.{next_turn_of}
use Rattle.pipes_inline.specs.declared.underway.Underway.{Underway}
use Rattle.pipes_inline.specs.declared.taking.Stop.{Stop}

-- the lists with these messages more at the end of one of them
abbrev pub with_messages : Lists → ℕ → List Message → Lists
with_messages lists k [] = lists
with_messages lists k (m ∷ ms) = with_messages (with_message lists k m) k ms

-- The source gave these messages, and what came to the top meanwhile was appended.
pub record PutsAll (old new : Works) (source : ℕ) (ms : List Message)
    (before now : List Message) : Type 0 where
  pub more : List Message
  pub appended : now ≡ before ++ more
  pub stands : (schemas : List (List Kind)) (plan : Plan) (by_source : Lists)
      (got : List Message) → WorksStand old schemas plan by_source got
      → WorksStand new schemas plan (with_messages by_source source ms) (got ++ more)

-- the plan at work stands for some lists, after which the source may give these messages
pub record CanPutAll (w : Works) (source : ℕ) (ms : List Message) : Type 0 where
  pub schemas : List (List Kind)
  pub plan : Plan
  pub by_source : Lists
  pub got : List Message
  pub stands : WorksStand w schemas plan by_source got
  pub may : MayPassAll (unwrap_or (slice_get schemas source) [])
      (run start_of_list (by_source source)) ms

-- putting results on their way was stopped at one of these, after others that are
abbrev pub StopsWithin : Option (List ℕ) → Option (List ℕ) → Form → List Elem → List Elem → Type 0
StopsWithin init now form before more = (some : List Elem) × (rest : List Elem)
    × (more ≡ some ++ rest) × StopsEarly init now form (before ++ some)

-- a query that was run, what its sources had left at first and how often they had failed, and what
-- was written before
pub record Start : Type 0 where
  pub query : Query
  pub lefts : List (Option (List ℕ))
  pub faults : List ℕ
  pub written : Option (List ℕ)

-- what the source with this number has done so far
abbrev pub SourceStands : Start → List (Option (List ℕ)) → List ℕ → List Intake
    → (ℕ → List Item) → Lists → ℕ → Type 0
SourceStands start lefts faults intakes taken sent k = (s : SourceDecl) (d : Intake)
    → IntakeStands (get_or start.query.sources k s) (get_or start.lefts k None)
    (get_or lefts k None) (get_or start.faults k 0) (get_or faults k 0) (get_or intakes k d)
    (taken k) (sent k)

-- A run that goes on: of what its sources had left at first they have taken arrivals, and given
-- what these make known to the plan at work. Of what came to the top, some is on its way out, and
-- the rest waits for that.
pub record GoesOn (start : Start) (lefts : List (Option (List ℕ))) (faults : List ℕ)
    (now : Option (List ℕ)) (underway : Underway) : Type 0 where
  pub typed : IsTyped start.query.plan (schemas_of start.query)
  pub few : length start.query.sources ≤ 16
  pub count : length underway.intakes.items ≡ length start.query.sources
  pub counts : length faults ≡ length start.query.sources
  pub lefts_are : length lefts ≡ length start.query.sources
  pub taken : ℕ → List Item
  pub sent : Lists
  pub done : List Message
  pub each : (k : ℕ) → k < length start.query.sources
      → SourceStands start lefts faults underway.intakes.items taken sent k
  pub works : WorksStand underway.works (schemas_of start.query) start.query.plan sent
      (done ++ underway.top.items)
  pub kept : Keeps start.written now underway.results (elements done)

-- it goes on in some way, and the source with this number has this left and has failed so often
pub record GoesSomehow (place : ℕ) (left : Option (List ℕ)) (count : ℕ) (underway : Underway)
    : Type 0 where
  pub start : Start
  pub lefts : List (Option (List ℕ))
  pub faults : List ℕ
  pub now : Option (List ℕ)
  pub goes : GoesOn start lefts faults now underway
  pub left_is : get_or lefts place None ≡ left
  pub faults_are : get_or faults place 0 ≡ count

-- how many turns the sources have left at most
abbrev pub all_turns : List Intake → ℕ
all_turns intakes = sum_by turns_to_come intakes

-- how the arrivals of the source with this number have stopped, if they have
abbrev pub StopsSo : ℕ → Option Reason → Underway → Type 0
StopsSo place None underway = ⊤
StopsSo place (Some why) underway = ((d : Intake)
    → (get_or underway.intakes.items place d).ahead.next ≡ next.Ended why)
    × (why ≡ reason.AtEnd → ⊥)

-- the source whose arrivals have stopped, and for which reason, if not all have come to their ends
abbrev pub StopsAt : Option Stop → Underway → Type 0
StopsAt None underway = (k : ℕ) (d : Intake) → k < length underway.intakes.items
    → (get_or underway.intakes.items k d).ended ≡ true
StopsAt (Some stop) underway = (stop.source < length underway.intakes.items)
    × StopsSo stop.source (Some stop.reason) underway

-- none of the counts has fallen
abbrev pub AllLater : List ℕ → List ℕ → Type 0
AllLater before now = (k : ℕ) → get_or before k 0 ≤ get_or now k 0

-- the first sources, of which nothing was taken
abbrev pub AllNew : List SourceDecl → List (Option (List ℕ)) → List (Option (List ℕ)) → List ℕ
    → List ℕ → ℕ → List Intake → Type 0
AllNew sources firsts lefts befores nows count intakes = (k : ℕ) → k < count → (s : SourceDecl)
    (d : Intake) → IntakeStands (get_or sources k s) (get_or firsts k None) (get_or lefts k None)
    (get_or befores k 0) (get_or nows k 0) (get_or intakes k d) [] []

-- the source has its turn then; or there is none, and then is never
abbrev pub IsFirstAt : List Intake → Option ℕ → ℕ → Type 0
IsFirstAt intakes None least = least ≡ 18446744073709551615
IsFirstAt intakes (Some i) least = (i < length intakes) × (least < 18446744073709551615)
    × ((d : Intake) → next_turn_of (get_or intakes i d) ≡ least)

-- of the first sources, this one has its turn next, if any has, and then
pub record IsFirst (intakes : List Intake) (count : ℕ) (first : Option ℕ) (least : ℕ) : Type 0
  where
    pub is : IsFirstAt intakes first least
    pub low : (k : ℕ) (d : Intake) → k < count → least ≤ next_turn_of (get_or intakes k d)

-- the run ends: the sources before this one have given all, and the others stand
pub record Ends (start : Start) (place : ℕ) (now : Option (List ℕ)) (taken : ℕ → List Item)
    (underway : Underway) : Type 0 where
  pub typed : IsTyped start.query.plan (schemas_of start.query)
  pub few : length start.query.sources ≤ 16
  pub count : length underway.intakes.items ≡ length start.query.sources
  pub sent : Lists
  pub done : List Message
  pub given : (k : ℕ) → k < place → (s : SourceDecl)
      → HasGiven (get_or start.query.sources k s) (taken k) (sent k)
  pub lefts : List (Option (List ℕ))
  pub faults : List ℕ
  pub each : (k : ℕ) → place ≤ k → k < length start.query.sources
      → SourceStands start lefts faults underway.intakes.items taken sent k
  pub works : WorksStand underway.works (schemas_of start.query) start.query.plan sent
      (done ++ underway.top.items)
  pub kept : Keeps start.written now underway.results (elements done)

-- the items of each source, from this number on
abbrev pub items_from : List SourceDecl → ℕ → (ℕ → List Item) → List (List Item)
items_from [] n taken = []
items_from (s ∷ ss) n taken = in_order (taken n) ∷ items_from ss (n + 1) taken

-- these are the first arrivals of the source, where it is known what it had left at first
abbrev pub IsPartTaken : SourceDecl → Option (List ℕ) → List Item → Type 0
IsPartTaken s left taken = (bytes : List ℕ) → left ≡ Some bytes
    → ArePart (arrivals_of s.schema s.slack bytes) taken

-- of each source a part was taken
abbrev pub PartsTaken : Start → (ℕ → List Item) → Type 0
PartsTaken start taken = (k : ℕ) → k < length start.query.sources → (s : SourceDecl)
    → IsPartTaken (get_or start.query.sources k s) (get_or start.lefts k None) (taken k)

-- it was stopped on the way
pub record CutShort (form : Form) (start : Start) (now : Option (List ℕ)) : Type 0 where
  pub taken : ℕ → List Item
  pub parts : PartsTaken start taken
  pub bytes : List ℕ
  pub appended : Appends start.written now bytes
  pub writes : WritesRunPrefix form start.query (items_from start.query.sources 0 taken) bytes

-- all was written that the arrivals taken give
pub record WroteAll (form : Form) (start : Start) (taken : ℕ → List Item)
    (now : Option (List ℕ)) (last : Entry) : Type 0 where
  pub bytes : List ℕ
  pub appended : Appends start.written now bytes
  pub writes : WritesRun form start.query (items_from start.query.sources 0 taken) last bytes
