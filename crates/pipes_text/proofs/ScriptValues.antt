-- How many commands are migrate commands, and how many files they name.
use Rattle.std.proofs.Common.{◌≡◌, ℕ, zero, suc, ◌+◌, ◌≤◌, List, [], ◌∷◌, ◌++◌, length, Option}
use Rattle.std.proofs.Common.{Some, None, refl, ap, ◌∙◌, arith, length-append}
use Rattle.std.specs.List.{position}
use Rattle.std.specs.Str.{bytes_eq}
use Rattle.pipes_token.specs.declared.token.TokenKind.{TokenKind}
use Rattle.pipes_query.specs.declared.script.Command.{Command}
use Rattle.pipes_query.specs.declared.script.Command.TheVariants as command
use Rattle.pipes_text.specs.Scripts.{files_or, with_file, IsCommand, AreCommands, migrations}
use Rattle.pipes_text.specs.Scripts as grammar

pub migrations-append : (cs ds : List Command)
    → migrations (cs ++ ds) ≡ migrations cs + migrations ds
migrations-append [] ds = omega arith
migrations-append (command.Migrate i ∷ cs) ds = omega (arith, migrations-append cs ds)
migrations-append (command.Feed i n ∷ cs) ds = migrations-append cs ds
migrations-append (command.Rest ∷ cs) ds = migrations-append cs ds
migrations-append (command.Await n ∷ cs) ds = migrations-append cs ds
migrations-append (command.Drain ∷ cs) ds = migrations-append cs ds

pub migrations_after : (cs : List Command) (c : Command)
    → migrations (cs ++ (c ∷ [])) ≡ migrations cs + migrations (c ∷ [])
migrations_after cs c = migrations-append cs (c ∷ [])

one_file : (fs : List (List ℕ)) (file : List ℕ) (o : Option ℕ)
    → length (files_or fs file o) ≤ length fs + 1
one_file fs file (Some i) = omega arith
one_file fs file None = omega (arith, length-append fs (file ∷ []))

files_of_one : (names fs gs : List (List ℕ)) (c : Command) (ks : List TokenKind)
    → IsCommand names fs c gs ks
    → length gs ≤ length fs + migrations (c ∷ [])
files_of_one names _ _ _ _ (grammar.IsCommand.feed fs w i n e low high) = omega arith
files_of_one names _ _ _ _ (grammar.IsCommand.rest fs) = omega arith
files_of_one names _ _ _ _ (grammar.IsCommand.await fs n high) = omega arith
files_of_one names _ _ _ _ (grammar.IsCommand.migrate fs file) =
    one_file fs file (position (bytes_eq file) fs)
files_of_one names _ _ _ _ (grammar.IsCommand.drain fs) = omega arith

pub files_of : (names fs hs : List (List ℕ)) (cs : List Command) (ks : List TokenKind)
    → AreCommands names fs cs hs ks
    → length hs ≤ length fs + migrations cs
files_of names _ _ _ _ (grammar.AreCommands.none fs) = omega arith
files_of names _ _ _ _ (grammar.AreCommands.next fs gs hs c cs ks ls is are) =
    omega (
      arith,
      files_of_one names fs gs c ks is,
      files_of names gs hs cs ls are,
      migrations-append (c ∷ []) cs,
    )
