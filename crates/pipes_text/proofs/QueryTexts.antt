-- What is read of a text as a query.
use Rattle.std.proofs.Common.{◌≡◌, ℕ, suc, ◌+◌, ◌<◌, ◌≤◌, Bool, true, false, List, [], ◌∷◌, ◌++◌}
use Rattle.std.proofs.Common.{length, map, Option, Some, None, Result, Ok, Err, IfOk, IfErr, refl}
use Rattle.std.proofs.Common.{sym, ap, subst, ◌∙◌, append_assoc, inl, inr, arith}
use Rattle.std.proofs.lemmas.List.{append-nil}
use Rattle.pipes_token.specs.declared.refusal.Refusal.{Refusal}
use Rattle.pipes_token.specs.declared.refusal.ReadFault.{ReadFault}
use Rattle.pipes_token.specs.declared.refusal.ReadFault.TheVariants as fault
use Rattle.pipes_token.specs.declared.keyword.Keyword.TheVariants as keyword
use Rattle.pipes_token.specs.declared.token.TokenKind.{TokenKind}
use Rattle.pipes_token.specs.declared.token.TokenKind.TheVariants.{Keyword, Name, End}
use Rattle.pipes_token.specs.declared.token.Token.{Token}
use Rattle.pipes_plan.specs.declared.plan.Plan.{Plan}
use Rattle.pipes_plan.specs.declared.plan.Plan.TheVariants as plan
use Rattle.pipes_reader.specs.Reading.{Reads, kinds_of, in_turn, done_with}
use Rattle.pipes_reader.specs.Sentences.{Grammar, GrammarBefore, Anywhere, Begins, next_of}
use Rattle.pipes_reader.specs.Sentences.{has_last}
use Rattle.pipes_reader.specs.Places.{AtToken, there, inside}
use Rattle.pipes_reader.specs.Texts.{ReadAs, IsReadBy}
use Rattle.pipes_reader.proofs.TokenLists.{both_unended, kinds-append}
use Rattle.pipes_reader.proofs.Spelled.{AreNamed, text_named}
use Rattle.pipes_reader.proofs.Readers.{IsReaderIf, Then, both, ThenBefore, turn, reads_in_turn}
use Rattle.pipes_reader.proofs.Readers.{reworded}
use Rattle.pipes_reader.proofs.Singles.{Pure, pure, none_by, Mapped, mapped, MappedBefore}
use Rattle.pipes_reader.proofs.Singles.{mapped_before, mapped_by}
use Rattle.pipes_reader.proofs.Wholes.{text_found, text_only, text_refused}
use Rattle.pipes_grammar.specs.Grammar as grammar
use Rattle.pipes_grammar.specs.Grammar.{IsPlan, HasSourceName}
use Rattle.pipes_grammar.specs.Limits.{IsPlanText}
use Rattle.pipes_grammar.specs.Places.{IsPlanPlace}
use Rattle.pipes_grammar.specs.PlanReading.{parse_plan}
use Rattle.pipes_grammar.proofs.KitReaders.{plan_unended, reads_plan}
use Rattle.pipes_grammar.proofs.PlanLevels.{first_named}
use Rattle.pipes_reader.specs.Names.{IsSourceName}
use Rattle.pipes_query.specs.declared.query.SourceDecl.{SourceDecl}
use Rattle.pipes_query.specs.declared.query.Query.{Query}
use Rattle.pipes_query.specs.Queries.{names_of}
use Rattle.pipes_text.specs.Grammar.{IsSource, source, AreSources, last, more, IsQuery, query}
use Rattle.pipes_text.specs.Limits.{IsNamedQuery, IsQueryWithin}
use Rattle.pipes_text.specs.Texts.{IsFileOfQuery, IsQueryPlace, QueryCause}
use Rattle.pipes_text.specs.Texts as place
use Rattle.pipes_text.specs.Reading.{read_sources, query_over, parse_query}
use Rattle.pipes_text.proofs.QueryLaws.{anything, limited, AllSources, all_unended, reads_sources}

-- ---- the plan

abbrev with_plan_of : List SourceDecl → Plan → Query
with_plan_of sources p = record { sources = sources; plan = p }

abbrev OverIs : List SourceDecl → Grammar Query
OverIs sources = Mapped (with_plan_of sources) (IsPlan (names_of sources))

abbrev OverIn : List SourceDecl → GrammarBefore Query
OverIn sources = MappedBefore (with_plan_of sources) (Anywhere (IsPlanText (names_of sources)))

reads_over : (sources : List SourceDecl)
    → IsReaderIf (λ ts. HasSourceName (names_of sources)) (OverIs sources) (OverIn sources)
    (IsPlanPlace (names_of sources)) (query_over sources)
reads_over sources =
    mapped_by (with_plan_of sources) (IsPlan (names_of sources))
    (Anywhere (IsPlanText (names_of sources)))
    (IsPlanPlace (names_of sources)) (parse_plan (names_of sources))
    (reads_plan (names_of sources))
    (reads_in_turn (IsPlan (names_of sources)) (Anywhere (IsPlanText (names_of sources)))
    (λ p. Pure (with_plan_of sources p)) (λ p. Anywhere (Pure (with_plan_of sources p)))
    (IsPlanPlace (names_of sources)) (λ p before t r. ⊥) (IsPlanPlace (names_of sources))
    (parse_plan (names_of sources)) (λ p. done_with (with_plan_of sources p))
    (reads_plan (names_of sources))
    (λ p ks is. none_by (λ before t r. ⊥) (with_plan_of sources p))
    (λ p ks is. (with_plan_of sources p, [], pure))
    (λ p ks h is. inr ([], with_plan_of sources p, [], refl))
    (λ before t r h. h) (λ p prefix before t r is h. absurd h)
    (λ ts known. known) (λ p prefix us is known. tt))

some_over : (sources : List SourceDecl) → 0 < length (names_of sources) → Begins (OverIs sources) []
some_over [] some = absurd (omega (arith, some))
some_over (s ∷ ss) some =
    let sentence : IsPlan (names_of (s ∷ ss)) (plan.Source 0) (Name s.name ∷ []) =
    grammar.source s.name 0 (first_named s.name (names_of ss)) in (
      with_plan_of (s ∷ ss) (plan.Source 0),
      Name s.name ∷ [],
      mapped (plan.Source 0) (Name s.name ∷ []) sentence,
    )

some_named : (sources : List SourceDecl) (ss : List TokenKind) → AreSources sources ss
    → 0 < length (names_of sources)
some_named _ _ (last s ks is) = omega arith
some_named _ _ (more s ss ks ls is are) = omega arith

-- ---- names that texts have

source_word_named : (s : SourceDecl) (ks rest : List TokenKind) → IsSource s ks
    → AreNamed (ks ++ rest) → IsSourceName s.name
source_word_named _ _ rest (source s cs ls ws are late lasts) named = named.1.0

first_has : (s : SourceDecl) (ss : List SourceDecl) → IsSourceName s.name
    → HasSourceName (names_of (s ∷ ss))
first_has s ss named = record {
  name = s.name;
  place = 0;
  named = named;
  is = first_named s.name (names_of ss);
}

-- the sources of a text's tokens
sources_named : (sources : List SourceDecl) (ss rest : List TokenKind) → AreSources sources ss
    → AreNamed (ss ++ rest) → HasSourceName (names_of sources)
sources_named _ _ rest (last s ks is) named = first_has s [] (source_word_named s ks rest is named)
sources_named _ _ rest (more s ss ks ls is are) named =
    first_has s ss (source_word_named s ks (ls ++ rest) is
    (subst (λ (z : List TokenKind). AreNamed z) (append_assoc ks ls rest) named))

-- ---- a query

abbrev QueryIs : Grammar Query
QueryIs = Then (AllSources anything) OverIs

abbrev QueryIn : GrammarBefore Query
QueryIn = ThenBefore (Anywhere (AllSources (limited 16))) OverIn

place_first : (before : List Token) (t : Token) (r : Refusal) → AtToken before t r
    → IsQueryPlace before t r
place_first before t r (there e) = place.there e
place_first before t r (inside e) = place.inside e

place_second : (sources : List SourceDecl) (prefix before : List Token) (t : Token) (r : Refusal)
    → AllSources (limited 16) sources (kinds_of prefix) → IsPlanPlace (names_of sources) before t r
    → IsQueryPlace (prefix ++ before) t r
place_second sources prefix before t r is h =
    place.in_plan sources is.ss prefix before is.are is.ks_is refl h

parts : (sks ss ps : List TokenKind) → sks ≡ ss ++ (Keyword keyword.Plan ∷ [])
    → sks ++ ps ≡ ss ++ (Keyword keyword.Plan ∷ ps)
parts sks ss ps e = ap (λ (z : List TokenKind). z ++ ps) e
    ∙ append_assoc ss (Keyword keyword.Plan ∷ []) ps

named : (limits : List SourceDecl → Type 0) (sources : List SourceDecl) (sks ps : List TokenKind)
    (p : Plan)
    → AllSources limits sources sks → IsPlan (names_of sources) p ps
    → IsNamedQuery (with_plan_of sources p) (sks ++ ps)
named limits sources sks ps p is it =
    subst (λ (z : List TokenKind). IsNamedQuery (with_plan_of sources p) z)
    (sym (parts sks is.ss ps is.ks_is)) (record {
      spells = query (with_plan_of sources p) is.ss ps is.are it;
      sources_once = is.named;
      columns_once = is.once;
    })

query_to : (q : Query) (ks : List TokenKind) → QueryIs q ks → IsNamedQuery q ks
query_to _ _ (both sources _ sks _ is (mapped p ps it)) = named anything sources sks ps p is it

query_within : (q : Query) (ks : List TokenKind) (h : Option TokenKind) → QueryIn q ks h
    → IsQueryWithin q ks
query_within _ _ _ (turn sources _ sks _ _ is (mapped_before p ps h it)) = record {
  named = named (limited 16) sources sks ps p is it.spells;
  sources = is.short.0;
  columns = is.short.1;
  depth = it.depth;
  exprs = it.exprs;
  lists = it.lists;
}

query_back : (q : Query) (ks : List TokenKind) (h : Option TokenKind) → IsQuery q ks
    → IsQueryWithin q ks → QueryIn q ks h
query_back _ _ h (query q ss ps are it) is =
    subst (λ (z : List TokenKind). QueryIn q z h) (append_assoc ss (Keyword keyword.Plan ∷ []) ps)
    (turn q.sources q (ss ++ (Keyword keyword.Plan ∷ [])) ps h
    (record {
      ss = ss;
      are = are;
      named = is.named.sources_once;
      once = is.named.columns_once;
      short = (is.sources, is.columns);
      ks_is = refl;
    })
    (mapped_before q.plan ps h
    (record { spells = it; depth = is.depth; exprs = is.exprs; lists = is.lists })))

named_unended : (q : Query) (ks : List TokenKind) → IsNamedQuery q ks → has_last ks ≡ false
named_unended q ks is = by q ks is.spells is
  where
    by : (q : Query) (ks : List TokenKind) → IsQuery q ks → IsNamedQuery q ks → has_last ks ≡ false
    by _ _ (query q ss ps are it) is =
        ap (λ (z : List TokenKind). has_last z)
        (sym (append_assoc ss (Keyword keyword.Plan ∷ []) ps))
        ∙ both_unended (ss ++ (Keyword keyword.Plan ∷ [])) ps
        (all_unended anything q.sources (ss ++ (Keyword keyword.Plan ∷ [])) (record {
          ss = ss;
          are = are;
          named = is.sources_once;
          once = is.columns_once;
          short = tt;
          ks_is = refl;
        }))
        (plan_unended (names_of q.sources) q.plan ps it)

abbrev pub QueryBefore : GrammarBefore Query
QueryBefore = Anywhere IsQueryWithin

abbrev Named : List Token → Type 0
Named ts = AreNamed (kinds_of ts)

known_by : (sources : List SourceDecl) (prefix us : List Token)
    → AllSources (limited 16) sources (kinds_of prefix) → Named (prefix ++ us)
    → HasSourceName (names_of sources)
known_by sources prefix us is named =
    sources_named sources is.ss (Keyword keyword.Plan ∷ kinds_of us) is.are
    (subst (λ (z : List TokenKind). AreNamed z)
    (kinds-append prefix us ∙ ap (λ (z : List TokenKind). z ++ kinds_of us) is.ks_is
    ∙ append_assoc is.ss (Keyword keyword.Plan ∷ []) (kinds_of us)) named)

pub reads_query : IsReaderIf Named IsNamedQuery QueryBefore IsQueryPlace parse_query
unfolding parse_query
reads_query =
    reworded QueryIs IsNamedQuery QueryIn QueryBefore IsQueryPlace parse_query
    (reads_in_turn (AllSources anything) (Anywhere (AllSources (limited 16))) OverIs OverIn AtToken
    (λ sources. IsPlanPlace (names_of sources)) IsQueryPlace read_sources query_over reads_sources
    (λ sources ks is. reads_over sources)
    (λ sources ks is. some_over sources (some_named sources is.ss is.are))
    (λ sources ks h is. inl (λ j. is)) place_first
    (λ sources prefix before t r is h. place_second sources prefix before t r is h)
    (λ ts named. tt) (λ sources prefix us is named. known_by sources prefix us is named))
    query_to named_unended query_within (λ q ks h is. query_back q ks h is.named.spells is)

-- ---- its texts

pub query_found : (bytes : List ℕ) (result : Result Query ReadFault)
    → IsReadBy parse_query bytes result
    → IfOk result (λ q. IsFileOfQuery q bytes)
query_found bytes (Ok q) is =
    text_found IsNamedQuery IsQueryWithin QueryBefore IsQueryPlace IsQueryPlace parse_query
    reads_query
    (λ x ks h it. it) (λ x ks it. it) bytes q is
query_found bytes (Err f) is = tt

pub query_only : (bytes : List ℕ) (result : Result Query ReadFault)
    → IsReadBy parse_query bytes result
    → (q : Query) → IsFileOfQuery q bytes → ReadAs q result
query_only bytes result is q it =
    text_only IsNamedQuery IsQueryWithin QueryBefore IsQueryPlace IsQueryPlace parse_query
    reads_query
    (λ x ks h it. it) (λ x ks it. it) bytes q result is it

pub query_refused : (bytes : List ℕ) (result : Result Query ReadFault)
    → IsReadBy parse_query bytes result
    → IfErr result (λ f. QueryCause bytes f)
query_refused bytes (Ok q) is = tt
query_refused bytes (Err (fault.Text r)) is =
    text_refused IsNamedQuery IsQueryWithin QueryBefore IsQueryPlace IsQueryPlace parse_query
    reads_query
    (λ x ks h it. it) (λ x ks it. it) (λ before t r p. p) place_first text_named bytes r is
query_refused bytes (Err fault.Memory) is = tt

-- ---- a query that some text has declares a source

some_source : (ss : List SourceDecl) (ks : List TokenKind) → AreSources ss ks → 1 ≤ length ss
some_source _ _ (last s ks is) = omega arith
some_source _ _ (more s ss ks ls is are) = omega arith

some_sources : (q : Query) (ks : List TokenKind) → IsQuery q ks → 1 ≤ length q.sources
some_sources _ _ (query q ss ps are it) = some_source q.sources ss are

pub query_some : (bytes : List ℕ) (q : Query) → IsFileOfQuery q bytes → 1 ≤ length q.sources
query_some bytes q is = some_sources q is.text.spells.0 is.text.spells.1.named.spells

-- one of its sources has a name that texts have
names_known : (q : Query) (ks rest : List TokenKind) → IsQuery q ks → AreNamed (ks ++ rest)
    → HasSourceName (names_of q.sources)
names_known _ _ rest (query q ss ps are it) named =
    sources_named q.sources ss ((Keyword keyword.Plan ∷ ps) ++ rest) are
    (subst (λ (z : List TokenKind). AreNamed z)
    (append_assoc ss (Keyword keyword.Plan ∷ ps) rest) named)

pub query_named : (bytes : List ℕ) (q : Query) → IsFileOfQuery q bytes
    → HasSourceName (names_of q.sources)
query_named bytes q is =
    let whole = is.text.spells in
    names_known q whole.0 (End ∷ []) whole.1.named.spells
    (subst (λ (z : List TokenKind). AreNamed z) whole.2
    (text_named (length bytes) bytes is.text.tokens is.text.are))

pub read_named : (bytes : List ℕ) (result : Result Query ReadFault)
    → IsReadBy parse_query bytes result → IfOk result (λ q. HasSourceName (names_of q.sources))
read_named bytes (Ok q) is = query_named bytes q (query_found bytes (Ok q) is)
read_named bytes (Err f) is = tt

pub read_some : (bytes : List ℕ) (result : Result Query ReadFault)
    → IsReadBy parse_query bytes result
    → IfOk result (λ q. 1 ≤ length q.sources)
read_some bytes (Ok q) is = query_some bytes q (query_found bytes (Ok q) is)
read_some bytes (Err f) is = tt
