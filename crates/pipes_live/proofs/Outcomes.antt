-- What follows of a result that is fine.
use Rattle.std.proofs.Common.{Result, Ok, Err, OnOk}

pub on-ok : {A E P Q : Type 0} (r : Result A E) → (P → Q) → OnOk r P → OnOk r Q
on-ok (Ok a) f p = f p
on-ok (Err e) f p = tt
