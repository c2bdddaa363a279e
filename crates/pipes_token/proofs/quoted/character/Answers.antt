use Rattle.std.proofs.Common.{ℕ, sym, subst}
use Rattle.pipes_token.specs.Strings.{BeginsChar}
use Rattle.pipes_token.proofs.Characters.{no_char_in_none, no_char_at_byte, ascii_begins}
use Rattle.pipes_token.proofs.quoted.character.Goals as goal

pub returns-in_default-clause-none : goal.returns-in_default-clause-none
returns-in_default-clause-none c = no_char_in_none c.args.bytes.now c.in_default.ensures.parts

pub returns-then-is_end-clause-none : goal.returns-then-is_end-clause-none
returns-then-is_end-clause-none c =
    let h = c.if-is_end.ensures in
    no_char_at_byte c.in-Some.byte c.in-Some.later.now c.args.bytes.now c.in-Some.ensures.parts h.0
    h.1 h.2

pub returns-then-byte-lt128-clause-begins : goal.returns-then-byte-lt128-clause-begins
returns-then-byte-lt128-clause-begins c =
    let h = c.if-is_end.ensures in
    subst (λ (x : ℕ). BeginsChar c.args.bytes.now x c.in-Some.later.now) (sym c.from.ensures)
    (ascii_begins c.in-Some.byte c.in-Some.later.now c.args.bytes.now c.in-Some.ensures.parts
    c.if-byte-lt128.true h.0 c.if-byte-eq92.false h.1)
