-- The first place at which a text can't go on.
use Rattle.std.specs.Prelude.{◌≡◌, List, [], ◌∷◌, ◌++◌, Result, Err}
use Rattle.pipes_token.specs.declared.refusal.Refusal.{Refusal}
use Rattle.pipes_token.specs.declared.token.TokenKind.TheVariants.{Cut}
use Rattle.pipes_token.specs.declared.token.Token.{Token}
use Rattle.pipes_reader.specs.Reading.{kinds_of}
use Rattle.pipes_reader.specs.Sentences.{Grammar, Begins}
use Rattle.pipes_reader.specs.Causes.{IsCause}

-- what a refusal says, whose token comes after these
abbrev pub Refusals : Type 1
Refusals = List Token → Token → Refusal → Type 0

-- What is before the refused token begins a sentence of the grammar without limits. With that token
-- no sentence within the limits goes on, and the refusal is the same whatever follows. Where says
-- where in the text the refusal's place is; the cause is the grammar's.
pub record FirstPlace {A B : Type 0} (Is Within : Grammar A) (Where : Refusals)
    (read : List Token → Result B Refusal) (ts : List Token) (r : Refusal) : Type 0 where
  pub before : List Token
  pub refused : Token
  pub after : List Token
  pub parts : ts ≡ before ++ (refused ∷ after)
  pub begins : Begins Is (kinds_of before)
  pub ends : ¬ (Begins Within (kinds_of (before ++ (refused ∷ []))))
  pub stands : (other : List Token) → read (before ++ (refused ∷ other)) ≡ Err r
  pub place : Where before refused r
  pub cause : IsCause Is Within (kinds_of before) refused.kind r.why

-- at the refused token, or inside a string that begins there
pub data AtToken (before : List Token) (t : Token) (r : Refusal) : Type 0 where
  there : r.at ≡ t.at → AtToken before t r
  inside : t.kind ≡ Cut r → AtToken before t r
