-- Messages of a source, put into the plan at work one after another.
use Rattle.std.proofs.Common.{◌≡◌, ℕ, ◌<◌, List, [], ◌∷◌, ◌++◌, map, length, get_or, slice_get}
use Rattle.std.proofs.Common.{unwrap_or, refl, sym, ◌∙◌, ap, subst, append_assoc}
use Rattle.std.proofs.lemmas.List.{append-nil, map-append}
use Rattle.pipes_stream.specs.declared.Elem.{Elem}
use Rattle.pipes_stream.specs.declared.message.Message.TheVariants as message
use Rattle.pipes_tuple.specs.declared.value.Kind.{Kind}
use Rattle.pipes_stream.specs.declared.message.Message.{Message}
use Rattle.pipes_stream.specs.Progress.{Progress}
use Rattle.pipes_stream.specs.Lists.{run, start_of_list, after}
use Rattle.pipes_stream.specs.Lawful.{Lists, with_message}
use Rattle.pipes_stream.proofs.Messages.{run-append}
use Rattle.pipes_plan.specs.declared.plan.Plan.{Plan}
use Rattle.pipes_node.specs.Passing.{MayPass}
use Rattle.pipes_node.proofs.NodeSteps.{with-same, with-other}
use Rattle.pipes_works.specs.declared.input.Input.{Input}
use Rattle.pipes_works.specs.declared.works.Works.{Works}
use Rattle.pipes_works.specs.Standing.{InputStands, WorksStand, MayCome, Puts, source_count}
use Rattle.pipes_works.proofs.BySource.{schema-is}
use Rattle.pipes_intake.specs.Giving.{MayPassAll}
use Rattle.pipes_inline.specs.Standing.{with_messages, PutsAll, CanPutAll}

-- ---- lists with more messages

pub with-same_all : (lists : Lists) (k : ℕ) (ms : List Message)
    → with_messages lists k ms k ≡ lists k ++ ms
with-same_all lists k [] = sym (append-nil (lists k))
with-same_all lists k (m ∷ ms) =
    with-same_all (with_message lists k m) k ms
    ∙ ap (λ (l : List Message). l ++ ms) (with-same lists k m)
    ∙ append_assoc (lists k) (m ∷ []) ms

pub with-other_all : (lists : Lists) (k : ℕ) (ms : List Message) (j : ℕ) → (j ≡ k → ⊥)
    → with_messages lists k ms j ≡ lists j
with-other_all lists k [] j n = refl
with-other_all lists k (m ∷ ms) j n =
    with-other_all (with_message lists k m) k ms j n ∙ with-other lists k m j n

with-append : (lists : Lists) (k : ℕ) (xs ys : List Message)
    → with_messages (with_messages lists k xs) k ys ≡ with_messages lists k (xs ++ ys)
with-append lists k [] ys = refl
with-append lists k (m ∷ xs) ys = with-append (with_message lists k m) k xs ys

-- ---- what may come

may-at : (kinds : List Kind) (p : Progress) (xs : List Message) (m : Message) (ys : List Message)
    → MayPassAll kinds p (xs ++ m ∷ ys) → MayPass kinds (run p xs) m
may-at kinds p [] m ys h = h.0
may-at kinds p (x ∷ xs) m ys h = may-at kinds (after p x) xs m ys h.1

-- the source may give the next one, once it has given those before
pub may-come : (w v : Works) (source : ℕ) (xs ys before now : List Message) (m : Message)
    → CanPutAll w source (xs ++ m ∷ ys) → source < source_count v
    → PutsAll w v source xs before now → MayCome v source m
may-come w v source xs ys before now m can within puts = λ d.
    let lists : Lists = with_messages can.by_source source xs in
    let s : WorksStand v can.schemas can.plan lists (can.got ++ puts.more) =
    puts.stands can.schemas can.plan can.by_source can.got can.stands in
    let kinds : List Kind = unwrap_or (slice_get can.schemas source) [] in
    let own : InputStands can.schemas can.plan source (lists source)
    (get_or v.inputs.items source d) = s.inputs source d within in
    let at : run (run start_of_list (can.by_source source)) xs
    ≡ (get_or v.inputs.items source d).watch =
    sym (run-append start_of_list (can.by_source source) xs)
    ∙ ap (λ (l : List Message). run start_of_list l)
    (sym (with-same_all can.by_source source xs)) ∙ sym own.watch in
    let may : MayPass kinds (run (run start_of_list (can.by_source source)) xs) m =
    may-at kinds (run start_of_list (can.by_source source)) xs m ys can.may in
    subst (λ (k : List Kind). MayPass k (get_or v.inputs.items source d).watch m)
    (sym (schema-is v can.schemas can.plan lists (can.got ++ puts.more) source d within s))
    (subst (λ (p : Progress). MayPass kinds p m) at may)

-- ---- what was put

pub puts-none : (w : Works) (source : ℕ) (top : List Message) → PutsAll w w source [] top top
puts-none w source top = record {
  more = [];
  appended = sym (append-nil top);
  stands = λ schemas plan by_source got s. subst
      (λ (g : List Message). WorksStand w schemas plan by_source g) (sym (append-nil got)) s;
}

-- one message more
pub puts-more : (w v u : Works) (source : ℕ) (xs : List Message) (m : Message)
    (before mid now : List Message) → PutsAll w v source xs before mid → Puts v u source m mid now
    → PutsAll w u source (xs ++ m ∷ []) before now
puts-more w v u source xs m before mid now a b = record {
  more = a.more ++ b.more;
  appended = b.appended ∙ ap (λ (l : List Message). l ++ b.more) a.appended
      ∙ append_assoc before a.more b.more;
  stands = λ schemas plan by_source got s.
      let next : WorksStand u schemas plan
      (with_message (with_messages by_source source xs) source m)
      ((got ++ a.more) ++ b.more) =
      b.stands schemas plan (with_messages by_source source xs) (got ++ a.more)
      (a.stands schemas plan by_source got s) in
      subst (λ (l : Lists). WorksStand u schemas plan l (got ++ (a.more ++ b.more)))
      (with-append by_source source xs (m ∷ []))
      (subst (λ (g : List Message). WorksStand u schemas plan
      (with_message (with_messages by_source source xs) source m) g)
      (append_assoc got a.more b.more) next);
}

-- the messages of elements of which some have come
pub split-map : (all yielded rest : List Elem) (e : Elem) → all ≡ (yielded ++ e ∷ []) ++ rest
    → map message.Elem all ≡ map message.Elem yielded ++ message.Elem e ∷ map message.Elem rest
split-map all yielded rest e is =
    ap (map message.Elem) is ∙ map-append message.Elem (yielded ++ e ∷ []) rest
    ∙ ap (λ (l : List Message). l ++ map message.Elem rest)
    (map-append message.Elem yielded (e ∷ []))
    ∙ append_assoc (map message.Elem yielded) (message.Elem e ∷ []) (map message.Elem rest)

pub puts-elem : (w v u : Works) (source : ℕ) (yielded : List Elem) (e : Elem)
    (before mid now : List Message)
    → PutsAll w v source (map message.Elem yielded) before mid
    → Puts v u source (message.Elem e) mid now
    → PutsAll w u source (map message.Elem (yielded ++ e ∷ [])) before now
puts-elem w v u source yielded e before mid now a b =
    subst (λ (ms : List Message). PutsAll w u source ms before now)
    (sym (map-append message.Elem yielded (e ∷ [])))
    (puts-more w v u source (map message.Elem yielded) (message.Elem e) before mid now a b)

-- the first messages of some
pub can-first : (w : Works) (source : ℕ) (xs ys : List Message) → CanPutAll w source (xs ++ ys)
    → CanPutAll w source xs
can-first w source xs ys can = record {
  schemas = can.schemas;
  plan = can.plan;
  by_source = can.by_source;
  got = can.got;
  stands = can.stands;
  may = may-front (unwrap_or (slice_get can.schemas source) [])
      (run start_of_list (can.by_source source)) xs ys can.may;
}
  where
    may-front : (kinds : List Kind) (p : Progress) (xs ys : List Message)
        → MayPassAll kinds p (xs ++ ys) → MayPassAll kinds p xs
    may-front kinds p [] ys h = tt
    may-front kinds p (x ∷ xs) ys h = (h.0, may-front kinds (after p x) xs ys h.1)
