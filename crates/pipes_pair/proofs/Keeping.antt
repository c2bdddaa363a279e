-- A side keeps a message's element, if it has one.
use Rattle.std.proofs.Common.{◌≡◌, ℕ, List, [], ◌∷◌, ◌++◌, refl, sym, ap, ◌∙◌, subst, append-nil}
use Rattle.std.specs.List.{All, flat_map}
use Rattle.std.proofs.lemmas.List.Elements.{All-head, All-filter}
use Rattle.pipes_tuple.specs.declared.value.Value.{Value}
use Rattle.pipes_tuple.specs.Columns.{at_columns}
use Rattle.pipes_tuple.proofs.Perm.{Perm, then, Perm-equal}
use Rattle.pipes_stream.specs.declared.Elem.{Elem}
use Rattle.pipes_stream.specs.declared.message.Message.{Message}
use Rattle.pipes_stream.specs.declared.message.Message.TheVariants as message
use Rattle.pipes_stream.specs.Lists.{elements}
use Rattle.pipes_sweep.specs.Areas.{KeptByKey, AreaHolds, has_key, elems_with_key}
use Rattle.pipes_pair.specs.Meeting.{AreNarrow}
use Rattle.pipes_pair.specs.Sides.{AllNarrow, HasKey, KeepsElem, made_by_key}

-- an element whose key is known
pub keeps_elem : (make : Elem → Elem → List Elem) (e : Elem) (key : List Value)
    (old new other : KeptByKey) (before now shown : List Elem)
    → key ≡ at_columns old.columns e.tuple → shown ≡ elems_with_key other.columns key other.elems
    → new.columns ≡ old.columns
    → ((list : List Elem) → AreaHolds old list → AreaHolds new (list ++ e ∷ []))
    → (All (AreNarrow e) shown → Perm now (flat_map (make e) shown ++ before))
    → KeepsElem make old new other before now (message.Elem e)
keeps_elem make e key old new other before now shown key_is shown_is same keeps puts =
    record {
      columns = same;
      keeps = λ there. keeps;
      puts = λ there list h narrow.
          let all : shown ≡ elems_with_key other.columns (at_columns old.columns e.tuple) list =
          shown_is ∙ h.in_order key
          ∙ ap (λ (k : List Value). elems_with_key other.columns k list) key_is in
          let here : All (AreNarrow e) shown =
          subst (λ (es : List Elem). All (AreNarrow e) es) (sym all)
          (All-filter (has_key other.columns (at_columns old.columns e.tuple)) (AreNarrow e) list
          (All-head (λ (a : Elem). All (AreNarrow a) list) e [] narrow)) in
          then (puts here)
          (Perm-equal (ap (λ (es : List Elem). flat_map (make e) es ++ before) all
          ∙ sym (ap (λ (es : List Elem). es ++ before) (append-nil (flat_map (make e)
          (elems_with_key other.columns (at_columns old.columns e.tuple) list))))));
    }

-- an element without the columns of a key
pub keeps_keyless : (make : Elem → Elem → List Elem) (e : Elem) (area other : KeptByKey)
    (before : List Elem) → (HasKey area.columns e → ⊥)
    → KeepsElem make area area other before before (message.Elem e)
keeps_keyless make e area other before h =
    record {
      columns = refl;
      keeps = λ there list k. absurd (h (All-head (HasKey area.columns) e [] there));
      puts = λ there list k narrow. absurd (h (All-head (HasKey area.columns) e [] there));
    }

-- a message without an element
pub keeps_none : (make : Elem → Elem → List Elem) (m : Message) (area other : KeptByKey)
    (before : List Elem) → elements (m ∷ []) ≡ [] → KeepsElem make area area other before before m
keeps_none make m area other before none =
    record {
      columns = refl;
      keeps = λ there list h.
          subst (AreaHolds area)
          (sym (ap (λ (es : List Elem). list ++ es) none ∙ append-nil list)) h;
      puts = λ there list h narrow.
          Perm-equal (sym (ap (λ (es : List Elem).
          made_by_key make area.columns other.columns es list ++ before) none));
    }
