-- What a plan at work over its sources stands for, after a message of a source.
use Rattle.std.proofs.Common.{◌≡◌, ℕ, zero, suc, ◌+◌, ◌≤◌, ◌<◌, Bool, false, List, [], ◌∷◌, ◌++◌, map}
use Rattle.std.proofs.Common.{length, get_or, set, slice_get, unwrap_or, refl, sym, ◌∙◌, ap, subst}
use Rattle.std.proofs.Common.{arith, inl, inr, length-set, add-one, min}
use Rattle.std.specs.List.{All}
use Rattle.std.proofs.lemmas.Bool.Decides.{eqb_tells}
use Rattle.std.proofs.lemmas.List.{get_or-set_same, get_or-set_other}
use Rattle.std.proofs.lemmas.List.Elements.{All-append}
use Rattle.pipes_tuple.specs.declared.value.Kind.{Kind}
use Rattle.pipes_tuple.specs.Kinds.{Fits}
use Rattle.pipes_stream.specs.declared.Elem.{Elem}
use Rattle.pipes_stream.specs.declared.message.Message.{Message}
use Rattle.pipes_stream.specs.Progress.{Progress}
use Rattle.pipes_stream.specs.Lists.{run, start_of_list, after, elements, beat}
use Rattle.pipes_stream.specs.Lawful.{Lists, with_message, least}
use Rattle.pipes_stream.proofs.Messages.{run-push, valid-push, elements-append}
use Rattle.pipes_stream.proofs.Following.{arrived-fits}
use Rattle.pipes_plan.specs.declared.plan.Plan.{Plan}
use Rattle.pipes_node.specs.declared.node.Node.{Node}
use Rattle.pipes_node.specs.Passing.{MayPass}
use Rattle.pipes_node.proofs.NodeSteps.{with-same, with-other, get-any}
use Rattle.pipes_box.specs.declared.plan_box.PlanBox.{PlanBox}
use Rattle.pipes_box.specs.Shapes.{Shape, shape_of, leaf_count, sources_of, LeafFits}
use Rattle.pipes_box.specs.Boxes.{BoxStands, IsSound, TakesAll}
use Rattle.pipes_works.specs.declared.input.Input.{Input}
use Rattle.pipes_works.specs.declared.works.Works.{Works}
use Rattle.pipes_works.specs.Sources.{by_leaf, leaves_from, source_of}
use Rattle.pipes_works.specs.Standing.{InputStands, WorksStand, StandsForSome, IsWhole, MayCome}
use Rattle.pipes_works.specs.Standing.{Puts, WorksOff}
use Rattle.pipes_works.specs.Passed.{CanGive, GivesEach, EachFits, with_each}
use Rattle.pipes_works.proofs.Leaves.{EachLeaf, each-from, each-at, each-gave, each-fits_alike}
use Rattle.pipes_works.proofs.Leaves.{fits-each, sources-count}
use Rattle.pipes_works.proofs.GivenKinds.{plan-over}
use Rattle.pipes_works.proofs.Places.{by_leaf-put, each-may}

-- a box of which the same was given at each leaf
pub stands-alike : (b : PlanBox) (schemas : List (List Kind)) (plan : Plan) (given given' : Lists)
    (got : List Message) → ((k : ℕ) → k < leaf_count (shape_of schemas plan) → given' k ≡ given k)
    → BoxStands b schemas plan given got → BoxStands b schemas plan given' got
stands-alike b schemas plan given given' got same s =
    let shape : Shape = shape_of schemas plan in
    let each : EachLeaf (λ k source. given' k ≡ given k) shape 0 =
    each-from (λ k source. given' k ≡ given k) shape 0
    (λ j k l e. same k (omega (arith, l, e))) in
    record {
      count = s.count;
      few = s.few;
      wired = s.wired;
      numbered = s.numbered;
      proper = s.proper;
      holds = s.holds;
      leaves_are = s.leaves_are;
      gave = λ d. each-gave (λ k. get_or b.nodes.items k d) given given' shape 0 0 each (s.gave d);
      fits = each-fits_alike given given' shape 0 each s.fits;
      got_is = s.got_is;
    }

-- a message more that may come
pub fits-push : (kinds : List Kind) (list : List Message) (m : Message) → LeafFits kinds list
    → MayPass kinds (run start_of_list list) m → LeafFits kinds (list ++ m ∷ [])
fits-push kinds list m f may = record {
  valid = valid-push start_of_list list m f.valid may.0;
  fits = subst (λ (es : List Elem). All (λ e. Fits e.tuple kinds) es)
      (sym (elements-append list (m ∷ [])))
      (All-append (λ (e : Elem). Fits e.tuple kinds) (elements list) (elements (m ∷ [])) f.fits
      (arrived-fits m kinds may.1));
}

module _ {X Y : Type 0} (f : X → Y) where
  pub mapped-at : (xs : List X) (i : ℕ) (d : X) (y : Y) → i < length xs
      → unwrap_or (slice_get (map f xs) i) y ≡ f (get_or xs i d)
  mapped-at [] i d y l = absurd (omega (arith, l))
  mapped-at (x ∷ xs) zero d y l = refl
  mapped-at (x ∷ xs) (suc i) d y l = mapped-at xs i d y (omega (arith, l))

  pub map-set_same : (xs : List X) (i : ℕ) (x d : X) → f x ≡ f (get_or xs i d)
      → map f (set xs i x) ≡ map f xs
  map-set_same [] i x d e = refl
  map-set_same (y ∷ xs) zero x d e = ap (λ (z : Y). z ∷ map f xs) e
  map-set_same (y ∷ xs) (suc i) x d e = ap (λ (zs : List Y). f y ∷ zs) (map-set_same xs i x d e)

-- the source's schema, as an input has it
pub schema-is : (w : Works) (schemas : List (List Kind)) (plan : Plan) (by_source : Lists)
    (got : List Message) (source : ℕ) (d : Input) → source < length w.inputs.items
    → WorksStand w schemas plan by_source got
    → (get_or w.inputs.items source d).schema ≡ unwrap_or (slice_get schemas source) []
schema-is w schemas plan by_source got source d l s =
    sym (mapped-at (λ (i : Input). i.schema) w.inputs.items source d [] l)
    ∙ ap (λ (ss : List (List Kind)). unwrap_or (slice_get ss source) []) s.schemas_are

module _ (w : Works) (source : ℕ) (m : Message) (d : Input)
    (within : source < length w.inputs.items) (may : MayCome w source m) where
  module _ (schemas : List (List Kind)) (plan : Plan) (by_source : Lists) (got : List Message)
      (s : WorksStand w schemas plan by_source got) where
    abbrev Kinds : List Kind
    Kinds = unwrap_or (slice_get schemas source) []

    abbrev Form : Shape
    Form = shape_of schemas plan

    own : InputStands schemas plan source (by_source source) (get_or w.inputs.items source d)
    own = s.inputs source d within

    may-pass : MayPass Kinds (run start_of_list (by_source source)) m
    may-pass = subst (λ (p : Progress). MayPass Kinds p m) own.watch
        (subst (λ (kinds : List Kind). MayPass kinds (get_or w.inputs.items source d).watch m)
        (schema-is w schemas plan by_source got source d within s) (may d))

    put-fits : LeafFits Kinds (by_source source ++ m ∷ [])
    put-fits = fits-push Kinds (by_source source) m own.fits may-pass

    leaf-fits : (k : ℕ) → k < leaf_count Form
        → LeafFits (unwrap_or (slice_get schemas (source_of Form k)) [])
        (by_leaf Form by_source k)
    leaf-fits k l = each-at
        (λ k source. LeafFits (unwrap_or (slice_get schemas source) []) (by_leaf Form by_source k))
        Form 0 k k (fits-each schemas (by_leaf Form by_source) Form 0 (plan-over schemas plan)
        s.plan_box.fits) l (omega arith)

    pub put-may : EachFits Form (by_leaf Form by_source)
        (get_or w.inputs.items source d).leaves.items m
    put-may =
        subst (λ (ls : List ℕ). EachFits Form (by_leaf Form by_source) ls m) (sym own.leaves)
        (each-may source m schemas Form (plan-over schemas plan) (sources_of Form) 0
        (by_leaf Form by_source) leaf-fits
        (λ j k l e f.
        let here : source_of Form k ≡ source = ap (source_of Form)
        (let g : k ≡ j = omega (arith, e) in g) ∙ f in
        subst (λ (x : ℕ). LeafFits (unwrap_or (slice_get schemas x) []) (by_source x ++ m ∷ []))
        (sym here) put-fits)
        (omega (arith, sources-count Form)))

    module _ (v : Works) (before now : List Message)
        (noted : v.inputs.items ≡ set w.inputs.items source (record {
          leaves = (get_or w.inputs.items source d).leaves;
          watch = after (get_or w.inputs.items source d).watch m;
          schema = (get_or w.inputs.items source d).schema;
        }))
        (gave : GivesEach w.plan_box v.plan_box (get_or w.inputs.items source d).leaves.items m
        before now) where
      abbrev Next : Input
      Next = record {
        leaves = (get_or w.inputs.items source d).leaves;
        watch = after (get_or w.inputs.items source d).watch m;
        schema = (get_or w.inputs.items source d).schema;
      }

      next-stands : InputStands schemas plan source (with_message by_source source m source) Next
      next-stands =
          subst (λ (l : List Message). InputStands schemas plan source l Next)
          (sym (with-same by_source source m))
          (record {
            leaves = own.leaves;
            watch = ap (λ (p : Progress). after p m) own.watch
                ∙ sym (run-push start_of_list (by_source source) m);
            fits = put-fits;
          })

      put-input : (k : ℕ) (e : Input) → k < length w.inputs.items
          → InputStands schemas plan k (with_message by_source source m k)
          (get_or (set w.inputs.items source Next) k e)
      put-input k e l = elim (eqb_tells k source) [
        | inl same ↦ subst (λ (x : ℕ). InputStands schemas plan x (with_message by_source source m x)
            (get_or (set w.inputs.items source Next) x e)) (sym same.1)
            (subst (InputStands schemas plan source (with_message by_source source m source))
            (sym (get_or-set_same w.inputs.items source Next e within)) next-stands)
        | inr apart ↦ subst (λ (i : Input). InputStands schemas plan k
            (with_message by_source source m k) i)
            (sym (get_or-set_other w.inputs.items source k Next e apart.1))
            (subst (λ (list : List Message). InputStands schemas plan k list
            (get_or w.inputs.items k e)) (sym (with-other by_source source m k apart.1))
            (s.inputs k e l))
      ]

      pub put-stands : WorksStand v schemas plan (with_message by_source source m)
          (got ++ gave.more)
      put-stands = record {
        plan_box = stands-alike v.plan_box schemas plan
            (with_each (by_leaf Form by_source) (get_or w.inputs.items source d).leaves.items m)
            (by_leaf Form (with_message by_source source m)) (got ++ gave.more)
            (λ k l. sym (ap (λ (ls : List ℕ). with_each (by_leaf Form by_source) ls m k) own.leaves
            ∙ by_leaf-put source m Form by_source k l))
            (gave.stands schemas plan (by_leaf Form by_source) got s.plan_box put-may);
        schemas_are = ap (map (λ (i : Input). i.schema)) noted
            ∙ map-set_same (λ (i : Input). i.schema) w.inputs.items source Next d refl
            ∙ s.schemas_are;
        inputs = subst (λ (is : List Input). (k : ℕ) (e : Input) → k < length is
            → InputStands schemas plan k (with_message by_source source m k) (get_or is k e))
            (sym noted)
            (λ k e l. put-input k e (omega (arith, l, length-set w.inputs.items source Next)));
      }

  pub can-put : IsSound w.plan_box → StandsForSome w
      → CanGive w.plan_box (get_or w.inputs.items source d).leaves.items m
  can-put sound some = record {
    sound = sound;
    schemas = some.schemas;
    plan = some.plan;
    given = by_leaf (shape_of some.schemas some.plan) some.by_source;
    got = some.got;
    stands = some.stands.plan_box;
    fits = put-may some.schemas some.plan some.by_source some.got some.stands;
  }

  module _ (v : Works) (before now : List Message)
      (noted : v.inputs.items ≡ set w.inputs.items source (record {
        leaves = (get_or w.inputs.items source d).leaves;
        watch = after (get_or w.inputs.items source d).watch m;
        schema = (get_or w.inputs.items source d).schema;
      }))
      (gave : GivesEach w.plan_box v.plan_box (get_or w.inputs.items source d).leaves.items m
      before now) where
    pub puts : Puts w v source m before now
    puts = record {
      more = gave.more;
      appended = gave.appended;
      stands = λ schemas plan by_source got s.
          put-stands schemas plan by_source got s v before now noted gave;
    }

    pub puts-some : StandsForSome w → StandsForSome v
    puts-some some = record {
      schemas = some.schemas;
      plan = some.plan;
      by_source = with_message some.by_source source m;
      got = some.got ++ gave.more;
      stands = put-stands some.schemas some.plan some.by_source some.got some.stands v before now
          noted gave;
    }

-- what came to the top was taken
pub off-stands : (w v : Works) (before now : List Message) (takes : TakesAll w.plan_box v.plan_box
    before now) → v.inputs ≡ w.inputs → (schemas : List (List Kind)) (plan : Plan)
    (by_source : Lists) (got : List Message) → WorksStand w schemas plan by_source got
    → WorksStand v schemas plan by_source (got ++ takes.more)
off-stands w v before now takes same schemas plan by_source got s = record {
  plan_box = takes.stands schemas plan (by_leaf (shape_of schemas plan) by_source) got s.plan_box;
  schemas_are = rw same s.schemas_are;
  inputs = rw same s.inputs;
}

pub works-off : (w v : Works) (before now : List Message)
    → TakesAll w.plan_box v.plan_box before now → v.inputs ≡ w.inputs → WorksOff w v before now
works-off w v before now takes same = record {
  more = takes.more;
  appended = takes.appended;
  stands = off-stands w v before now takes same;
}

pub off-some : (w v : Works) (before now : List Message)
    → TakesAll w.plan_box v.plan_box before now → v.inputs ≡ w.inputs → StandsForSome w
    → StandsForSome v
off-some w v before now takes same some = record {
  schemas = some.schemas;
  plan = some.plan;
  by_source = some.by_source;
  got = some.got ++ takes.more;
  stands = off-stands w v before now takes same some.schemas some.plan some.by_source some.got
      some.stands;
}

-- the least heartbeat of one source more
pub least-more : (w : Works) (schemas : List (List Kind)) (plan : Plan) (by_source : Lists)
    (got : List Message) (source low now next : ℕ) (d : Input)
    → WorksStand w schemas plan by_source got → source < length w.inputs.items
    → low ≡ least source by_source → now ≡ (get_or w.inputs.items source d).watch.beat
    → next ≡ min now low → next ≡ least (source + 1) by_source
least-more w schemas plan by_source got source low now next d s within before is found =
    let own : (get_or w.inputs.items source d).watch.beat ≡ beat (by_source source) =
    ap (λ (p : Progress). p.beat) (s.inputs source d within).watch in
    let both : next ≡ min (beat (by_source source)) (least source by_source) =
    omega (arith, before, is, found, own) in
    both ∙ ap (λ (k : ℕ). least k by_source) (sym (add-one source))

-- an input of a list that has some
some-input : (inputs : List Input) (k : ℕ) → k < length inputs → Input
some-input [] k l = absurd (omega (arith, l))
some-input (i ∷ inputs) k l = i

-- a message that was noted at its source, and then given at the leaves
module _ (w v u : Works) (source : ℕ) (m : Message) (within : source < length w.inputs.items)
    (may : MayCome w source m) (box : v.plan_box ≡ w.plan_box)
    (inputs : (d : Input) → v.inputs.items ≡ set w.inputs.items source (record {
      leaves = (get_or w.inputs.items source d).leaves;
      watch = after (get_or w.inputs.items source d).watch m;
      schema = (get_or w.inputs.items source d).schema;
    })) where
  leaves-kept : (d : Input) → (get_or v.inputs.items source d).leaves.items
      ≡ (get_or w.inputs.items source d).leaves.items
  leaves-kept d =
      ap (λ (is : List Input). (get_or is source d).leaves.items) (inputs d)
      ∙ ap (λ (i : Input). i.leaves.items) (get_or-set_same w.inputs.items source _ d within)

  pub noted-count : length v.inputs.items ≡ length w.inputs.items
  noted-count = let d = some-input w.inputs.items source within in
      ap (λ (is : List Input). length is) (inputs d) ∙ length-set w.inputs.items source _

  pub count-kept : u.inputs ≡ v.inputs → length u.inputs.items ≡ length w.inputs.items
  count-kept same = ap (λ x. length x.items) same ∙ noted-count

  pub can-noted : IsSound w.plan_box → StandsForSome w → (d : Input)
      → CanGive v.plan_box (get_or v.inputs.items source d).leaves.items m
  can-noted sound some d =
      subst (λ (b : PlanBox). CanGive b (get_or v.inputs.items source d).leaves.items m) (sym box)
      (subst (λ (ls : List ℕ). CanGive w.plan_box ls m) (sym (leaves-kept d))
      (can-put w source m d within may sound some))

  module _ (before now : List Message) (same : u.inputs ≡ v.inputs)
      (gave : (d : Input) → GivesEach v.plan_box u.plan_box
      (get_or v.inputs.items source d).leaves.items m before now) where
    gave-in : (d : Input) → GivesEach w.plan_box u.plan_box
        (get_or w.inputs.items source d).leaves.items m before now
    gave-in d =
        subst (λ (b : PlanBox). GivesEach b u.plan_box
        (get_or w.inputs.items source d).leaves.items m before now) box
        (subst (λ (ls : List ℕ). GivesEach v.plan_box u.plan_box ls m before now) (leaves-kept d)
        (gave d))

    pub put-puts : Puts w u source m before now
    put-puts = let d = some-input w.inputs.items source within in
        puts w source m d within may u before now (ap (λ x. x.items) same ∙ inputs d) (gave-in d)

    pub put-some : StandsForSome w → StandsForSome u
    put-some some = let d = some-input w.inputs.items source within in
        puts-some w source m d within may u before now (ap (λ x. x.items) same ∙ inputs d)
        (gave-in d) some
