-- What is read of a text as a script.
use Rattle.std.proofs.Common.{◌≡◌, ℕ, ◌<◌, ◌≤◌, List, length, map, Option, Some, Result, Ok, Err}
use Rattle.std.proofs.Common.{IfOk, IfErr, refl, subst}
use Rattle.pipes_token.specs.declared.refusal.ReadFault.{ReadFault}
use Rattle.pipes_token.specs.declared.refusal.ReadFault.TheVariants as fault
use Rattle.pipes_token.specs.declared.token.TokenKind.{TokenKind}
use Rattle.pipes_reader.specs.Places.{AtToken}
use Rattle.pipes_reader.specs.Texts.{ReadAs, IsReadBy}
use Rattle.pipes_reader.proofs.Wholes.{text_found, text_only, text_refused}
use Rattle.pipes_query.specs.declared.query.Query.{Query}
use Rattle.pipes_query.specs.declared.script.Mode.{Mode}
use Rattle.pipes_query.specs.declared.script.Script.{Script}
use Rattle.pipes_query.specs.Queries.{names_of}
use Rattle.pipes_query.proofs.NameLaws.{some_names}
use Rattle.pipes_grammar.specs.Grammar.{HasSourceName}
use Rattle.pipes_text.specs.Scripts.{IsScript, IsScriptText}
use Rattle.pipes_text.specs.ScriptReading.{parse_script}
use Rattle.pipes_text.specs.ScriptTexts.{IsFileOfScript, ScriptCause}
use Rattle.pipes_text.proofs.ScriptLaws.{ScriptIn, reads_script}

module _ (q : Query) (mode : Mode) (names : List (List ℕ)) (same : names ≡ names_of q.sources)
    (some : 1 ≤ length q.sources)
    (bytes : List ℕ) (result : Result Script ReadFault)
    (is : IsReadBy (parse_script names mode) bytes result) where
  of_query : IsReadBy (parse_script (names_of q.sources) mode) bytes result
  of_query = subst (λ (z : List (List ℕ)). IsReadBy (parse_script z mode) bytes result) same is

  found_by : (result : Result Script ReadFault)
      → IsReadBy (parse_script (names_of q.sources) mode) bytes result
      → IfOk result (λ s. IsFileOfScript q mode s bytes)
  found_by (Ok s) by =
      text_found (IsScript (names_of q.sources)) (IsScriptText (names_of q.sources) mode)
      (ScriptIn (names_of q.sources) (some_names q.sources some) mode) AtToken AtToken
      (parse_script (names_of q.sources) mode)
      (reads_script (names_of q.sources) (some_names q.sources some) mode)
      (λ x ks h it. it.0) (λ x ks it. (it, refl)) bytes s by
  found_by (Err f) by = tt

  pub script_found : IfOk result (λ s. IsFileOfScript q mode s bytes)
  script_found = found_by result of_query

  pub script_only : (s : Script) → IsFileOfScript q mode s bytes → ReadAs s result
  script_only s it =
      text_only (IsScript (names_of q.sources)) (IsScriptText (names_of q.sources) mode)
      (ScriptIn (names_of q.sources) (some_names q.sources some) mode) AtToken AtToken
      (parse_script (names_of q.sources) mode)
      (reads_script (names_of q.sources) (some_names q.sources some) mode)
      (λ x ks h at. at.0) (λ x ks at. (at, refl)) bytes s result of_query it

  refused_by : (result : Result Script ReadFault) → HasSourceName (names_of q.sources)
      → IsReadBy (parse_script (names_of q.sources) mode) bytes result
      → IfErr result (λ f. ScriptCause q mode bytes f)
  refused_by (Ok s) known by = tt
  refused_by (Err (fault.Text r)) known by =
      text_refused (IsScript (names_of q.sources)) (IsScriptText (names_of q.sources) mode)
      (ScriptIn (names_of q.sources) (some_names q.sources some) mode) AtToken AtToken
      (parse_script (names_of q.sources) mode)
      (reads_script (names_of q.sources) (some_names q.sources some) mode)
      (λ x ks h it. it.0) (λ x ks it. (it, refl)) (λ before t r p. p) (λ before t r p. p)
      (λ n bs ts are. known) bytes r by
  refused_by (Err fault.Memory) known by = tt

  pub script_refused : HasSourceName (names_of q.sources)
      → IfErr result (λ f. ScriptCause q mode bytes f)
  script_refused known = refused_by result known of_query
