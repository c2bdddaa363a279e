-- The tests of equality decide `≡`.
use Rattle.std.proofs.Common.{◌≡◌, true, false, List, refl, ap, Decides}
use Rattle.std.proofs.lemmas.Bool.Decides.{Decides-int_eq, Decides-eqb}
use Rattle.std.proofs.lemmas.Slice.Eq.{slice_eq-Decides}
use Rattle.pipes_tuple.specs.declared.value.Kind.{Kind}
use Rattle.pipes_tuple.specs.declared.value.Kind.TheVariants as kind
use Rattle.pipes_tuple.specs.declared.value.Value.{Value}
use Rattle.pipes_tuple.specs.declared.value.Value.TheVariants.{Int, Text, Flag}
use Rattle.pipes_tuple.specs.Equal.{value_eq, tuple_eq, kind_eq, schema_eq}

pub value_eq-Decides : (a b : Value) → Decides (value_eq a b) (a ≡ b)
value_eq-Decides (Int m) (Int n) =
    let same = Decides-int_eq m n in
    (λ e. ap Int (same.0 e), λ e. same.1 cc)
value_eq-Decides (Int m) (Text t) = (λ e. cc, λ e. cc)
value_eq-Decides (Int m) (Flag b) = (λ e. cc, λ e. cc)
value_eq-Decides (Text s) (Int n) = (λ e. cc, λ e. cc)
value_eq-Decides (Text s) (Text t) =
    let same = slice_eq-Decides Decides-eqb s t _ refl in
    (λ e. ap Text (same.0 e), λ e. same.1 cc)
value_eq-Decides (Text s) (Flag b) = (λ e. cc, λ e. cc)
value_eq-Decides (Flag a) (Int n) = (λ e. cc, λ e. cc)
value_eq-Decides (Flag a) (Text t) = (λ e. cc, λ e. cc)
value_eq-Decides (Flag true) (Flag true) = (λ e. refl, λ e. refl)
value_eq-Decides (Flag true) (Flag false) = (λ e. cc, λ e. cc)
value_eq-Decides (Flag false) (Flag true) = (λ e. cc, λ e. cc)
value_eq-Decides (Flag false) (Flag false) = (λ e. refl, λ e. refl)

pub tuple_eq-Decides : (a b : List Value) → Decides (tuple_eq a b) (a ≡ b)
tuple_eq-Decides a b = slice_eq-Decides value_eq-Decides a b _ refl

pub kind_eq-Decides : (a b : Kind) → Decides (kind_eq a b) (a ≡ b)
kind_eq-Decides kind.Int kind.Int = (λ e. refl, λ e. refl)
kind_eq-Decides kind.Int kind.Text = (λ e. cc, λ e. cc)
kind_eq-Decides kind.Int kind.Flag = (λ e. cc, λ e. cc)
kind_eq-Decides kind.Text kind.Int = (λ e. cc, λ e. cc)
kind_eq-Decides kind.Text kind.Text = (λ e. refl, λ e. refl)
kind_eq-Decides kind.Text kind.Flag = (λ e. cc, λ e. cc)
kind_eq-Decides kind.Flag kind.Int = (λ e. cc, λ e. cc)
kind_eq-Decides kind.Flag kind.Text = (λ e. cc, λ e. cc)
kind_eq-Decides kind.Flag kind.Flag = (λ e. refl, λ e. refl)

pub schema_eq-Decides : (a b : List Kind) → Decides (schema_eq a b) (a ≡ b)
schema_eq-Decides a b = slice_eq-Decides kind_eq-Decides a b _ refl
