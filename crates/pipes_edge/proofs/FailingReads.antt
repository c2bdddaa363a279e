-- The read calls that are listed under a name.
use Rattle.std.proofs.Common.{◌≡◌, ℕ, List, [], ◌∷◌, ◌++◌, Bool, true, false, if◌then◌else◌, map}
use Rattle.std.proofs.Common.{filter, string_bytes, refl, sym, ap, ◌∙◌, append-nil}
use Rattle.std.proofs.Math.Path.{fun_ext}
use Rattle.std.proofs.lemmas.List.{map-append}
use Rattle.std.proofs.lemmas.List.Elements.{filter-append}
use Rattle.std.proofs.lemmas.Slice.Eq.{bytes_eq-Decides}
use Rattle.std.specs.Str.{bytes_eq}
use Rattle.pipes_edge.specs.declared.mem_files.FailingRead.{FailingRead}
use Rattle.pipes_edge.specs.ByName.{set_at}
use Rattle.pipes_edge.specs.MemFiles.{calls_in}

-- one more read at the end is listed under its own name, and under no other
calls_in-push_at : (reads : List FailingRead) (read : FailingRead) (n : List ℕ)
    → calls_in (reads ++ read ∷ []) n ≡ (if bytes_eq (string_bytes read.name) n then calls_in reads
    n ++ read.call ∷ [] else calls_in reads n)
calls_in-push_at reads read n =
    ap (map call) (filter-append named reads (read ∷ []))
    ∙ map-append call (filter named reads) (filter named (read ∷ []))
    ∙ go (named read)
  where
    call : FailingRead → ℕ
    call r = r.call

    named : FailingRead → Bool
    named r = bytes_eq (string_bytes r.name) n

    go : (b : Bool) → calls_in reads n ++ map call (if b then read ∷ [] else []) ≡
        (if b then calls_in reads n ++ read.call ∷ [] else calls_in reads n)
    go true = refl
    go false = append-nil (calls_in reads n)

-- the same, as a function of the name
pub calls_in-push : (reads : List FailingRead) (read : FailingRead)
    → calls_in (reads ++ read ∷ []) ≡ set_at (calls_in reads) (string_bytes read.name)
    (calls_in reads (string_bytes read.name) ++ read.call ∷ [])
calls_in-push reads read = fun_ext (λ n. calls_in-push_at reads read n
    ∙ go n (bytes_eq (string_bytes read.name) n) refl)
  where
    go : (n : List ℕ) (b : Bool) → bytes_eq (string_bytes read.name) n ≡ b
        → (if b then calls_in reads n ++ read.call ∷ [] else calls_in reads n) ≡
        (if b then calls_in reads (string_bytes read.name) ++ read.call ∷ [] else calls_in reads n)
    go n true e = ap (λ (m : List ℕ). calls_in reads m ++ read.call ∷ [])
        (sym ((bytes_eq-Decides (string_bytes read.name) n).0 e))
    go n false e = refl
