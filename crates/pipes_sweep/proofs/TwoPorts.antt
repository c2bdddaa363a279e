-- What goes on from two ports: what was sent, what goes now and what stays.
use Rattle.std.proofs.Common.{List, ◌++◌, sym, append_assoc}
use Rattle.pipes_tuple.proofs.Perm.{Perm, then, Perm-equal, Perm-left, Perm-right}
use Rattle.pipes_tuple.proofs.Perm.{Perm-append_comm}
use Rattle.pipes_stream.specs.declared.Elem.{Elem}

pub moved : (sent hold gone stays held made more : List Elem) → Perm (sent ++ hold) made
    → Perm (gone ++ stays) held → Perm held (more ++ hold)
    → Perm ((sent ++ gone) ++ stays) (made ++ more)
moved sent hold gone stays held made more p q r =
    then (Perm-equal (append_assoc sent gone stays))
    (then (Perm-left sent q)
    (then (Perm-left sent r)
    (then (Perm-left sent (Perm-append_comm more hold))
    (then (Perm-equal (sym (append_assoc sent hold more)))
    (Perm-right more p)))))
