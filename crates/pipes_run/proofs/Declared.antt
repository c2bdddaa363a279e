-- What the sources of a query that a text writes are: some, with a name, and windows within limits.
use Rattle.std.proofs.Common.{◌≤◌, List, [], length}
use Rattle.std.specs.List.{All}
use Rattle.std.proofs.lemmas.List.Elements.{All-nil, All-cons}
use Rattle.pipes_token.specs.declared.token.TokenKind.{TokenKind}
use Rattle.pipes_window.specs.declared.kind.WindowKind.{WindowKind}
use Rattle.pipes_window.specs.Windows.{IsWindow}
use Rattle.pipes_query.specs.declared.query.Query.{Query}
use Rattle.pipes_query.specs.declared.query.SourceDecl.{SourceDecl}
use Rattle.pipes_query.specs.Queries.{names_of}
use Rattle.pipes_grammar.specs.Grammar.{HasSourceName}
use Rattle.pipes_text.specs.Grammar.{IsWindowText, time, slide, count, IsSource, source, AreSources}
use Rattle.pipes_text.specs.Grammar.{last, more, IsQuery, query}
use Rattle.pipes_text.proofs.QueryTexts.{query_some, query_named}
use Rattle.pipes_run.specs.Seen.{HasQueryText}

window_within : (kind : WindowKind) (ks : List TokenKind) → IsWindowText kind ks → IsWindow kind
window_within kind ks (time n is) = is
window_within kind ks (slide n m wide step) = (wide, step)
window_within kind ks (count n low high) = (low, high)

source_within : (s : SourceDecl) (ks : List TokenKind) → IsSource s ks → IsWindow s.window
source_within s ks (source t cs ls ws columns slack window) = window_within t.window ws window

sources_within : (sources : List SourceDecl) (ks : List TokenKind) → AreSources sources ks
    → All (λ (s : SourceDecl). IsWindow s.window) sources
sources_within sources ks (last s ls h) = All-cons (λ (s : SourceDecl). IsWindow s.window) s []
    (source_within s ls h) (All-nil (λ (s : SourceDecl). IsWindow s.window))
sources_within sources ks (more s ss prefix back h others) = All-cons
    (λ (s : SourceDecl). IsWindow s.window) s ss (source_within s prefix h)
    (sources_within ss back others)

query_within : (q : Query) (ks : List TokenKind) → IsQuery q ks
    → All (λ (s : SourceDecl). IsWindow s.window) q.sources
query_within q ks (query p ss ps sources plan) = sources_within p.sources ss sources

-- a query that a text writes declares a source
pub sources_some : (q : Query) → HasQueryText q → 1 ≤ length q.sources
sources_some q text = query_some text.0 q text.1

-- one of its sources has a name that texts have
pub sources_known : (q : Query) → HasQueryText q → HasSourceName (names_of q.sources)
sources_known q text = query_named text.0 q text.1

pub windows_within : (q : Query) → HasQueryText q → All (λ (s : SourceDecl). IsWindow s.window)
    q.sources
windows_within q text = query_within q text.1.text.spells.0 text.1.text.spells.1.named.spells
