-- Results, by cases.
use Rattle.std.proofs.Common.{◌≡◌, true, false, Result, Ok, Err, OnOk, OnErr}
use Rattle.std.specs.Result.{is_err}

pub on_err : {T E : Type 0} (r : Result T E) {P : Type 0} → P → OnErr r P
on_err (Ok x) p = tt
on_err (Err e) p = p

pub at_err : {T E : Type 0} (r : Result T E) (e : E) {P : Type 0} → r ≡ Err e → OnErr r P → P
at_err (Ok x) e is p = absurd (cc)
at_err (Err x) e is p = p

pub from_is_err : {T E : Type 0} (r : Result T E) {P : Type 0} → is_err r ≡ true → OnErr r P → P
from_is_err (Ok x) is p = absurd (cc)
from_is_err (Err x) is p = p

pub from_is_ok : {T E : Type 0} (r : Result T E) {P : Type 0} → is_err r ≡ false → OnOk r P → P
from_is_ok (Ok x) is p = p
from_is_ok (Err x) is p = absurd (cc)
