-- Texts of derivations, and why a text has none.
use Rattle.std.specs.Prelude.{◌≡◌, ℕ, List, ◌∷◌, [], ◌++◌}
use Rattle.pipes_token.specs.declared.refusal.Refusal.{Refusal}
use Rattle.pipes_token.specs.declared.refusal.ReadFault.{ReadFault}
use Rattle.pipes_token.specs.declared.refusal.ReadFault.TheVariants as fault
use Rattle.pipes_token.specs.declared.refusal.TextRefusal.{TextRefusal}
use Rattle.pipes_token.specs.declared.keyword.Keyword.TheVariants as keyword
use Rattle.pipes_token.specs.declared.token.TokenKind.{TokenKind}
use Rattle.pipes_token.specs.declared.token.TokenKind.TheVariants.{Keyword}
use Rattle.pipes_token.specs.declared.token.Token.{Token}
use Rattle.pipes_reader.specs.Reading.{kinds_of}
use Rattle.pipes_reader.specs.Texts.{IsText, IsFile, IsRefused}
use Rattle.pipes_grammar.specs.Places.{IsExprsPlace, IsPlanPlace}
use Rattle.pipes_query.specs.declared.query.Query.{Query}
use Rattle.pipes_query.specs.Queries.{names_of}
use Rattle.pipes_rules.specs.declared.step.Step.{Step}
use Rattle.pipes_derivation.specs.declared.derivation.Derivation.{Derivation}
use Rattle.pipes_derivation.specs.Grammar.{AreSteps, IsDerivation}
use Rattle.pipes_derivation.specs.Limits.{IsDerivationWithin}
use Rattle.pipes_derivation.specs.Reading.{parse_derivation}

-- The tokens of the text are those of the derivation, over the query's sources.
abbrev pub IsTextOfDerivation : Query → Derivation → List ℕ → Type 0
IsTextOfDerivation q = IsText (IsDerivationWithin (names_of q.sources))

-- The same, of a text within the limit.
abbrev pub IsFileOfDerivation : Query → Derivation → List ℕ → Type 0
IsFileOfDerivation q = IsFile (IsDerivationWithin (names_of q.sources))

-- Where a refused derivation's place is: where that of its steps is, at the refused token, inside a
-- string or at the first token of an expression that is too deep; or where the plan's is.
pub data IsDerivationPlace (names : List (List ℕ)) (before : List Token) (t : Token) (r : Refusal)
    : Type 0 where
  in_steps : IsExprsPlace before t r → IsDerivationPlace names before t r
  in_plan : (steps : List Step) (ss : List TokenKind) (made plan : List Token)
      → AreSteps steps ss → kinds_of made ≡ ss ++ (Keyword keyword.Plan ∷ [])
      → before ≡ made ++ plan → IsPlanPlace names plan t r
      → IsDerivationPlace names before t r

-- The text is too long, or its tokens are refused at the first place at which no derivation goes
-- on.
abbrev pub IsRefusedDerivation : Query → List ℕ → TextRefusal → Type 0
IsRefusedDerivation q =
    IsRefused (IsDerivation (names_of q.sources)) (IsDerivationWithin (names_of q.sources))
    (IsDerivationPlace (names_of q.sources)) (parse_derivation (names_of q.sources))

-- why a text isn't read as a derivation
abbrev pub DerivationCause : Query → List ℕ → ReadFault → Type 0
DerivationCause q bytes (fault.Text r) = IsRefusedDerivation q bytes r
DerivationCause q bytes fault.Memory = Unit {0}
