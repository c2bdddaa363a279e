-- The sources of a plan of which nothing has come.
use Rattle.std.proofs.Common.{◌≡◌, ℕ, zero, ◌+◌, ◌≤◌, ◌<◌, Bool, cond, eqb, List, [], ◌∷◌, ◌++◌, map}
use Rattle.std.proofs.Common.{length, get_or, take, refl, sym, ◌∙◌, ap, subst, arith, inl, inr}
use Rattle.std.proofs.Common.{length-append, slice_get, unwrap_or}
use Rattle.std.specs.List.{All}
use Rattle.std.proofs.lemmas.Bool.{cases_lt}
use Rattle.std.proofs.lemmas.List.{map-append, take_more, take_all, length-take-le, get_or_push}
use Rattle.std.proofs.lemmas.List.{length_push}
use Rattle.std.proofs.lemmas.List.Elements.{All-nil}
use Rattle.pipes_tuple.specs.declared.value.Kind.{Kind}
use Rattle.pipes_tuple.specs.Kinds.{Fits}
use Rattle.pipes_stream.specs.declared.Elem.{Elem}
use Rattle.pipes_stream.specs.declared.message.Message.{Message}
use Rattle.pipes_stream.specs.Lists.{start_of_list}
use Rattle.pipes_stream.specs.Lawful.{Lists, no_messages}
use Rattle.pipes_plan.specs.declared.plan.Plan.{Plan}
use Rattle.pipes_box.specs.declared.plan_box.PlanBox.{PlanBox}
use Rattle.pipes_box.specs.Shapes.{shape_of, sources_of}
use Rattle.pipes_box.specs.Boxes.{BoxStands}
use Rattle.pipes_box.proofs.Built.{get-before}
use Rattle.pipes_works.specs.declared.input.Input.{Input}
use Rattle.pipes_works.specs.declared.works.Works.{Works}
use Rattle.pipes_works.specs.Sources.{leaves_from}
use Rattle.pipes_works.specs.Standing.{WorksStand}
use Rattle.pipes_works.specs.Passed.{AreInputs}
use Rattle.pipes_works.proofs.Places.{leaves-push}

-- one leaf more was looked at
pub leaf-noted : (sources leaves more : List ℕ) (source leaf at : ℕ) → leaf < length sources
    → leaves ≡ leaves_from source 0 (take leaf sources)
    → more ≡ leaves ++ cond (eqb at source) (leaf ∷ []) [] → at ≡ get_or sources leaf 0
    → more ≡ leaves_from source 0 (take (leaf + 1) sources)
leaf-noted sources leaves more source leaf at within before added is =
    added
    ∙ ap (λ (x : ℕ). leaves ++ cond (eqb x source) (leaf ∷ []) []) is
    ∙ ap (λ (l : List ℕ). l ++ cond (eqb (get_or sources leaf 0) source) (leaf ∷ []) []) before
    ∙ sym (leaves-push source 0 (take leaf sources) (get_or sources leaf 0) leaf
    (omega (arith, length-take-le leaf sources (omega (arith, within)))))
    ∙ ap (leaves_from source 0) (sym (take_more sources leaf 0 within))

mapped-count : (inputs : List Input)
    → length (map (λ (i : Input). i.schema) inputs) ≡ length inputs
mapped-count [] = refl
mapped-count (i ∷ inputs) = omega (arith, mapped-count inputs)

-- an input more
pub input-added : (b : PlanBox) (schemas : List (List Kind)) (k : ℕ) (inputs : List Input)
    (x : Input) (d : List Kind) → k < length schemas → AreInputs b (take k schemas) inputs
    → x.watch ≡ start_of_list → x.schema ≡ get_or schemas k d
    → ((ss : List (List Kind)) (plan : Plan) (given : Lists) (got : List Message)
    → BoxStands b ss plan given got
    → x.leaves.items ≡ leaves_from k 0 (sources_of (shape_of ss plan)))
    → AreInputs b (take (k + 1) schemas) (inputs ++ x ∷ [])
input-added b schemas k inputs x d within are watch schema leaves =
    let count : length inputs ≡ k =
    sym (mapped-count inputs) ∙ ap (λ (l : List (List Kind)). length l) are.schemas_are
    ∙ length-take-le k schemas (omega (arith, within)) in
    record {
      schemas_are = map-append (λ (i : Input). i.schema) inputs (x ∷ [])
          ∙ ap (λ (l : List (List Kind)). l ++ x.schema ∷ []) are.schemas_are
          ∙ ap (λ (s : List Kind). take k schemas ++ s ∷ []) schema
          ∙ sym (take_more schemas k d within);
      watches = λ j e l. elim (cases_lt j (length inputs)) [
        | inl low ↦ ap (λ (i : Input). i.watch) (get-before inputs (x ∷ []) j e low)
            ∙ are.watches j e low
        | inr high ↦ ap (λ (i : Input). i.watch) (get_or_push inputs x e j
            (omega (arith, high, l, length_push inputs x))) ∙ watch
      ];
      leaves = λ j e l ss plan given got s. elim (cases_lt j (length inputs)) [
        | inl low ↦ ap (λ (i : Input). i.leaves.items) (get-before inputs (x ∷ []) j e low)
            ∙ are.leaves j e low ss plan given got s
        | inr high ↦
            (let here : length inputs ≡ j = omega (arith, high, l, length_push inputs x) in
            ap (λ (i : Input). i.leaves.items) (get_or_push inputs x e j here)
            ∙ leaves ss plan given got s
            ∙ ap (λ (n : ℕ). leaves_from n 0 (sources_of (shape_of ss plan))) (sym count ∙ here))
      ];
    }

pub inputs-none : (b : PlanBox) (schemas : List (List Kind)) → AreInputs b (take 0 schemas) []
inputs-none b schemas = record {
  schemas_are = refl;
  watches = λ k d l. absurd (omega (arith, l));
  leaves = λ k d l. absurd (omega (arith, l));
}

-- a new plan at work
pub new-stands : (w : Works) (schemas : List (List Kind)) (plan : Plan)
    → BoxStands w.plan_box schemas plan no_messages []
    → AreInputs w.plan_box schemas w.inputs.items → WorksStand w schemas plan no_messages []
new-stands w schemas plan built are = record {
  plan_box = built;
  schemas_are = are.schemas_are;
  inputs = λ source d l. record {
    leaves = are.leaves source d l schemas plan no_messages [] built;
    watch = are.watches source d l;
    fits = record {
      valid = tt;
      fits = All-nil (λ (e : Elem). Fits e.tuple (unwrap_or (slice_get schemas source) []));
    };
  };
}
