-- What is read of a text as a derivation.
use Rattle.std.proofs.Common.{◌≡◌, ℕ, ◌<◌, ◌≤◌, List, [], ◌∷◌, ◌++◌, length, Option, Some, None}
use Rattle.std.proofs.Common.{Result, Ok, Err, IfOk, IfErr, refl, sym, ap, subst, ◌∙◌}
use Rattle.std.proofs.Common.{append_assoc, inl, inr, false, arith}
use Rattle.pipes_token.specs.declared.refusal.Refusal.{Refusal}
use Rattle.pipes_token.specs.declared.refusal.ReadFault.{ReadFault}
use Rattle.pipes_token.specs.declared.refusal.ReadFault.TheVariants as fault
use Rattle.pipes_token.specs.declared.keyword.Keyword.TheVariants as keyword
use Rattle.pipes_token.specs.declared.token.TokenKind.{TokenKind}
use Rattle.pipes_token.specs.declared.token.TokenKind.TheVariants.{Keyword, Name}
use Rattle.pipes_token.specs.declared.token.Token.{Token}
use Rattle.pipes_plan.specs.declared.plan.Plan.{Plan}
use Rattle.pipes_reader.specs.Reading.{kinds_of, done_with}
use Rattle.pipes_reader.specs.Sentences.{Grammar, GrammarBefore, Anywhere, Begins, has_last}
use Rattle.pipes_reader.specs.Places.{AtToken}
use Rattle.pipes_reader.specs.Texts.{ReadAs, IsReadBy}
use Rattle.pipes_reader.proofs.TokenLists.{both_unended}
use Rattle.pipes_reader.proofs.Readers.{IsReaderIf, Then, both, ThenBefore, turn, reads_in_turn}
use Rattle.pipes_reader.proofs.Readers.{reworded}
use Rattle.pipes_reader.proofs.Singles.{Pure, pure, none_by, Mapped, mapped, MappedBefore}
use Rattle.pipes_reader.proofs.Singles.{mapped_before, mapped_by}
use Rattle.pipes_reader.proofs.Wholes.{text_found, text_only, text_refused}
use Rattle.pipes_grammar.specs.Grammar.{IsPlan, HasSourceName}
use Rattle.pipes_grammar.specs.Grammar as plans
use Rattle.pipes_grammar.specs.Limits.{IsPlanText}
use Rattle.pipes_grammar.specs.Places.{IsExprsPlace, IsPlanPlace}
use Rattle.pipes_grammar.specs.PlanReading.{parse_plan}
use Rattle.pipes_grammar.proofs.PlanLevels.{first_named}
use Rattle.pipes_plan.specs.declared.plan.Plan.TheVariants as plan
use Rattle.pipes_grammar.proofs.KitReaders.{plan_unended, reads_plan}
use Rattle.pipes_query.specs.declared.query.SourceDecl.{SourceDecl}
use Rattle.pipes_query.specs.declared.query.Query.{Query}
use Rattle.pipes_query.specs.Queries.{names_of}
use Rattle.pipes_query.proofs.NameLaws.{some_names}
use Rattle.pipes_rules.specs.declared.step.Step.{Step}
use Rattle.pipes_derivation.specs.declared.derivation.Derivation.{Derivation}
use Rattle.pipes_derivation.specs.Grammar.{IsDerivation}
use Rattle.pipes_derivation.specs.Grammar as grammar
use Rattle.pipes_derivation.specs.Limits.{IsDerivationWithin}
use Rattle.pipes_derivation.specs.Reading.{read_steps, derivation_of, parse_derivation}
use Rattle.pipes_derivation.specs.Texts.{IsFileOfDerivation, IsDerivationPlace, DerivationCause}
use Rattle.pipes_derivation.specs.Texts as place
use Rattle.pipes_derivation.proofs.ArgLaws.{token_in}
use Rattle.pipes_derivation.proofs.StepLists.{anything, limited, AllSteps, all_unended, reads_steps}

-- ---- the plan

abbrev to_plan : List Step → Plan → Derivation
to_plan steps p = record { steps = steps; plan = p }

first_plan : (names : List (List ℕ)) → 0 < length names → Begins (IsPlan names) []
first_plan [] some = absurd (omega (arith, some))
first_plan (name ∷ names) some =
    (plan.Source 0, Name name ∷ [], plans.source name 0 (first_named name names))

module _ (names : List (List ℕ)) (some : 0 < length names) where
  abbrev OverIs : List Step → Grammar Derivation
  OverIs steps = Mapped (to_plan steps) (IsPlan names)

  abbrev OverIn : List Step → GrammarBefore Derivation
  OverIn steps = MappedBefore (to_plan steps) (Anywhere (IsPlanText names))

  reads_over : (steps : List Step)
      → IsReaderIf (λ ts. HasSourceName names) (OverIs steps) (OverIn steps) (IsPlanPlace names)
      (derivation_of steps names)
  reads_over steps =
      mapped_by (to_plan steps) (IsPlan names) (Anywhere (IsPlanText names)) (IsPlanPlace names)
      (parse_plan names) (reads_plan names)
      (reads_in_turn (IsPlan names) (Anywhere (IsPlanText names)) (λ p. Pure (to_plan steps p))
      (λ p. Anywhere (Pure (to_plan steps p))) (IsPlanPlace names) (λ p before t r. ⊥)
      (IsPlanPlace names) (parse_plan names) (λ p. done_with (to_plan steps p))
      (reads_plan names) (λ p ks is. none_by (λ before t r. ⊥) (to_plan steps p))
      (λ p ks is. (to_plan steps p, [], pure))
      (λ p ks h is. inr ([], to_plan steps p, [], refl))
      (λ before t r h. h) (λ p prefix before t r is h. absurd h)
      (λ ts known. known) (λ p prefix us is known. tt))

  -- ---- a derivation

  abbrev AllIs : Grammar Derivation
  AllIs = Then (AllSteps anything) OverIs

  abbrev AllIn : GrammarBefore Derivation
  AllIn = ThenBefore (Anywhere (AllSteps (limited 256))) OverIn

  place_second : (steps : List Step) (prefix before : List Token) (t : Token) (r : Refusal)
      → AllSteps (limited 256) steps (kinds_of prefix) → IsPlanPlace names before t r
      → IsDerivationPlace names (prefix ++ before) t r
  place_second steps prefix before t r is h =
      place.in_plan steps is.ss prefix before is.are is.ks_is refl h

  spelled : (limits : List Step → Type 0) (steps : List Step) (sks ps : List TokenKind) (p : Plan)
      → AllSteps limits steps sks → IsPlan names p ps
      → IsDerivation names (to_plan steps p) (sks ++ ps)
  spelled limits steps sks ps p is it =
      subst (λ (z : List TokenKind). IsDerivation names (to_plan steps p) z)
      (sym (ap (λ (z : List TokenKind). z ++ ps) is.ks_is
      ∙ append_assoc is.ss (Keyword keyword.Plan ∷ []) ps))
      (grammar.derivation (to_plan steps p) is.ss ps is.are it)

  all_to : (d : Derivation) (ks : List TokenKind) → AllIs d ks → IsDerivation names d ks
  all_to _ _ (both steps _ sks _ is (mapped p ps it)) = spelled anything steps sks ps p is it

  all_within : (d : Derivation) (ks : List TokenKind) (h : Option TokenKind) → AllIn d ks h
      → IsDerivationWithin names d ks
  all_within _ _ _ (turn steps _ sks _ _ is (mapped_before p ps h it)) = record {
    spells = spelled (limited 256) steps sks ps p is it.spells;
    steps = is.fit.0;
    each = is.fit.1;
    depth = it.depth;
    exprs = it.exprs;
    lists = it.lists;
  }

  all_back : (d : Derivation) (ks : List TokenKind) (h : Option TokenKind) → IsDerivation names d ks
      → IsDerivationWithin names d ks → AllIn d ks h
  all_back _ _ h (grammar.derivation d ss ps are it) is =
      subst (λ (z : List TokenKind). AllIn d z h)
      (append_assoc ss (Keyword keyword.Plan ∷ []) ps)
      (turn d.steps d (ss ++ (Keyword keyword.Plan ∷ [])) ps h
      (record { ss = ss; are = are; fit = (is.steps, is.each); ks_is = refl })
      (mapped_before d.plan ps h
      (record { spells = it; depth = is.depth; exprs = is.exprs; lists = is.lists })))

  derivation_unended : (d : Derivation) (ks : List TokenKind) → IsDerivation names d ks
      → has_last ks ≡ false
  derivation_unended _ _ (grammar.derivation d ss ps are it) =
      ap (λ (z : List TokenKind). has_last z)
      (sym (append_assoc ss (Keyword keyword.Plan ∷ []) ps))
      ∙ both_unended (ss ++ (Keyword keyword.Plan ∷ [])) ps
      (all_unended anything d.steps (ss ++ (Keyword keyword.Plan ∷ []))
      (record { ss = ss; are = are; fit = tt; ks_is = refl }))
      (plan_unended names d.plan ps it)

  some_over : (steps : List Step) → Begins (OverIs steps) []
  some_over steps =
      let p = first_plan names some in
      (to_plan steps p.0, p.1, mapped p.0 p.1 p.2)

  pub reads_derivation : IsReaderIf (λ ts. HasSourceName names) (IsDerivation names)
      (Anywhere (IsDerivationWithin names)) (IsDerivationPlace names) (parse_derivation names)
  unfolding parse_derivation
  reads_derivation =
      reworded AllIs (IsDerivation names) AllIn (Anywhere (IsDerivationWithin names))
      (IsDerivationPlace names) (parse_derivation names)
      (reads_in_turn (AllSteps anything) (Anywhere (AllSteps (limited 256))) OverIs OverIn
      IsExprsPlace (λ steps. IsPlanPlace names) (IsDerivationPlace names) read_steps
      (λ steps. derivation_of steps names) reads_steps (λ steps ks is. reads_over steps)
      (λ steps ks is. some_over steps) (λ steps ks h is. inl (λ j. is))
      (λ before t r h. place.in_steps h) place_second (λ ts known. tt)
      (λ steps prefix us is known. known))
      all_to derivation_unended all_within (λ d ks h is. all_back d ks h is.spells is)

-- ---- texts

module _ (q : Query) (names : List (List ℕ)) (same : names ≡ names_of q.sources)
    (some : 1 ≤ length q.sources) (bytes : List ℕ) (result : Result Derivation ReadFault)
    (is : IsReadBy (parse_derivation names) bytes result) where
  of_query : IsReadBy (parse_derivation (names_of q.sources)) bytes result
  of_query = subst (λ (z : List (List ℕ)). IsReadBy (parse_derivation z) bytes result) same is

  found_by : (result : Result Derivation ReadFault)
      → IsReadBy (parse_derivation (names_of q.sources)) bytes result
      → IfOk result (λ d. IsFileOfDerivation q d bytes)
  found_by (Ok d) by =
      text_found (IsDerivation (names_of q.sources)) (IsDerivationWithin (names_of q.sources))
      (Anywhere (IsDerivationWithin (names_of q.sources))) (IsDerivationPlace (names_of q.sources))
      (IsDerivationPlace (names_of q.sources)) (parse_derivation (names_of q.sources))
      (reads_derivation (names_of q.sources) (some_names q.sources some))
      (λ x ks h it. it) (λ x ks it. it) bytes d by
  found_by (Err f) by = tt

  pub derivation_found : IfOk result (λ d. IsFileOfDerivation q d bytes)
  derivation_found = found_by result of_query

  pub derivation_only : (d : Derivation) → IsFileOfDerivation q d bytes → ReadAs d result
  derivation_only d it =
      text_only (IsDerivation (names_of q.sources)) (IsDerivationWithin (names_of q.sources))
      (Anywhere (IsDerivationWithin (names_of q.sources))) (IsDerivationPlace (names_of q.sources))
      (IsDerivationPlace (names_of q.sources)) (parse_derivation (names_of q.sources))
      (reads_derivation (names_of q.sources) (some_names q.sources some))
      (λ x ks h at. at) (λ x ks at. at) bytes d result of_query it

  refused_by : (result : Result Derivation ReadFault) → HasSourceName (names_of q.sources)
      → IsReadBy (parse_derivation (names_of q.sources)) bytes result
      → IfErr result (λ f. DerivationCause q bytes f)
  refused_by (Ok d) known by = tt
  refused_by (Err (fault.Text r)) known by =
      text_refused (IsDerivation (names_of q.sources)) (IsDerivationWithin (names_of q.sources))
      (Anywhere (IsDerivationWithin (names_of q.sources))) (IsDerivationPlace (names_of q.sources))
      (IsDerivationPlace (names_of q.sources)) (parse_derivation (names_of q.sources))
      (reads_derivation (names_of q.sources) (some_names q.sources some))
      (λ x ks h it. it) (λ x ks it. it) (λ before t r p. p)
      (λ before t r p. place.in_steps (token_in before t r p)) (λ n bs ts are. known) bytes r by
  refused_by (Err fault.Memory) known by = tt

  pub derivation_refused : HasSourceName (names_of q.sources)
      → IfErr result (λ f. DerivationCause q bytes f)
  derivation_refused known = refused_by result known of_query
