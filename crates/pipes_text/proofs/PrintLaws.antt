-- What is printed is a text of the value.
use Rattle.std.proofs.Common.{◌≡◌, ℕ, zero, suc, ◌+◌, ◌^◌, ◌<◌, ◌≤◌, Bool, true, false, List, []}
use Rattle.std.proofs.Common.{◌∷◌, ◌++◌, length, map, Option, Some, refl, sym, ap, subst, ◌∙◌}
use Rattle.std.proofs.Common.{append_assoc, append-nil, arith}
use Rattle.std.specs.Prelude.{codes}
use Rattle.std.specs.Fmt.{decimal}
use Rattle.pipes_token.specs.declared.token.Sign.TheVariants.{Open, Close, Comma}
use Rattle.pipes_token.specs.declared.keyword.Keyword.TheVariants as keyword
use Rattle.pipes_token.specs.declared.token.TokenKind.{TokenKind}
use Rattle.pipes_token.specs.declared.token.TokenKind.TheVariants.{Sign, Keyword, Name, Number}
use Rattle.pipes_token.specs.declared.token.TokenKind.TheVariants.{Text, Long, Cut, Byte, End}
use Rattle.pipes_token.specs.Keywords.{keyword_text}
use Rattle.pipes_token.specs.Writing.{IsApart, BeginsWith, WritesBefore, Writes, WritesFreely}
use Rattle.pipes_token.specs.Writing.{IsSpelled}
use Rattle.pipes_token.proofs.Writing.{write_keyword, write_name, write_number, write_open}
use Rattle.pipes_token.proofs.Writing.{write_close, write_comma, write_space_before}
use Rattle.pipes_token.proofs.Writing.{write_space_after, write_then, write_apart_then}
use Rattle.pipes_token.proofs.Quoting.{write_quoted}
use Rattle.pipes_tuple.specs.declared.value.Kind.{Kind}
use Rattle.pipes_tuple.specs.Kinds.{kind_word}
use Rattle.pipes_tuple.specs.declared.value.Kind.TheVariants as kind
use Rattle.pipes_tuple.specs.Texts.{quoted}
use Rattle.pipes_window.specs.declared.kind.WindowKind.{WindowKind}
use Rattle.pipes_plan.specs.declared.plan.Plan.{Plan}
use Rattle.pipes_grammar.specs.Limits.{IsPlanText}
use Rattle.pipes_print.specs.PlanText.{plan_text}
use Rattle.pipes_print.specs.Printed.{AreSpelled, PlanPrinted}
use Rattle.pipes_print.proofs.Again.{plan_again}
use Rattle.pipes_print.proofs.ExprPrinting.{spelled_parts}
use Rattle.pipes_print.proofs.Lines.{write_line, free, word_then, regroup, text_by}
use Rattle.pipes_query.specs.declared.query.SourceDecl.{SourceDecl}
use Rattle.pipes_query.specs.declared.query.Query.{Query}
use Rattle.pipes_query.specs.Queries.{names_of}
use Rattle.pipes_text.specs.Grammar as grammar
use Rattle.pipes_text.specs.Grammar.{word_of, kind_of_token, IsColumn, AreColumns, IsSlack}
use Rattle.pipes_text.specs.Grammar.{IsWindowText}
use Rattle.pipes_text.specs.Grammar.{IsSource, AreSources, IsQuery, query}
use Rattle.pipes_text.specs.Limits.{IsQueryWithin}
use Rattle.pipes_text.specs.Texts.{IsTextOfQuery}
use Rattle.pipes_text.specs.Printing.{column_text, more_columns_text, columns_text}
use Rattle.pipes_text.specs.Printing.{slack_text, window_text, source_line, sources_text, plan_line}
use Rattle.pipes_text.specs.Printing.{query_text, HasText}

-- ---- columns

write_word : (k : TokenKind) (name : List ℕ) → word_of k ≡ Some name → IsSpelled k
    → Writes (k ∷ []) name
write_word (Name w) name e s =
    let same : w ≡ name = cc in
    subst (λ (z : List ℕ). Writes (Name w ∷ []) z) same (write_name w s.1.1 s.1.2)
write_word (Keyword k) name e s =
    let same : keyword_text k ≡ name = cc in
    subst (λ (z : List ℕ). Writes (Keyword k ∷ []) z) same (write_keyword k)
write_word _ name e s = absurd cc

write_kind : (k : TokenKind) (sort : Kind) → kind_of_token k ≡ Some sort
    → Writes (k ∷ []) (kind_word sort)
write_kind (Keyword keyword.Int) sort e =
    let same : kind.Int ≡ sort = cc in
    subst (λ (z : Kind). Writes (Keyword keyword.Int ∷ []) (kind_word z)) same
    (write_keyword keyword.Int)
write_kind (Keyword keyword.Text) sort e =
    let same : kind.Text ≡ sort = cc in
    subst (λ (z : Kind). Writes (Keyword keyword.Text ∷ []) (kind_word z)) same
    (write_keyword keyword.Text)
write_kind (Keyword keyword.Flag) sort e =
    let same : kind.Flag ≡ sort = cc in
    subst (λ (z : Kind). Writes (Keyword keyword.Flag ∷ []) (kind_word z)) same
    (write_keyword keyword.Flag)
write_kind _ sort e = absurd cc

write_column : (name : List ℕ) (sort : Kind) (ks : List TokenKind) → IsColumn name sort ks
    → AreSpelled ks → Writes ks (column_text name sort)
write_column _ _ _ (grammar.IsColumn.column name sort word k e f) s =
    write_apart_then IsApart (word ∷ []) (k ∷ []) name (codes " " ++ kind_word sort) (λ more. refl)
    (write_word word name e s.0)
    (write_space_before IsApart (k ∷ []) (kind_word sort) (write_kind k sort f))

after_comma : (names : List (List ℕ)) (sorts : List Kind) (ks : List TokenKind)
    → AreColumns names sorts ks
    → more_columns_text names sorts ≡ codes ", " ++ columns_text names sorts
after_comma _ _ _ (grammar.AreColumns.last name sort ks is) = refl
after_comma _ _ _ (grammar.AreColumns.more name sort names sorts ks ls is are) = refl

write_columns : (names : List (List ℕ)) (sorts : List Kind) (ks : List TokenKind)
    → AreColumns names sorts ks → AreSpelled ks → Writes ks (columns_text names sorts)
write_columns _ _ _ (grammar.AreColumns.last name sort ks is) s =
    subst (λ (z : List ℕ). Writes ks z) (sym (append-nil (column_text name sort)))
    (write_column name sort ks is s)
write_columns _ _ _ (grammar.AreColumns.more name sort names sorts ks ls is are) s =
    let others = write_columns names sorts ls are (spelled_parts ks (Sign Comma ∷ ls) s).1.1 in
    let rest : Writes (Sign Comma ∷ ls) (codes ", " ++ columns_text names sorts) =
    write_then IsApart (Sign Comma ∷ []) ls (codes ",") (32 ∷ columns_text names sorts) write_comma
    (write_space_before IsApart ls (columns_text names sorts) others) in
    let text : columns_text (name ∷ names) (sort ∷ sorts) ≡ column_text name sort ++
    (codes ", " ++ columns_text names sorts) =
    ap (λ (z : List ℕ). column_text name sort ++ z) (after_comma names sorts ls are) in
    subst (λ (z : List ℕ). Writes (ks ++ (Sign Comma ∷ ls)) z) (sym text)
    (write_apart_then IsApart ks (Sign Comma ∷ ls) (column_text name sort)
    (codes ", " ++ columns_text names sorts) (λ more. refl)
    (write_column name sort ks is (spelled_parts ks (Sign Comma ∷ ls) s).0) rest)

-- ---- windows

write_window : (w : WindowKind) (ks : List TokenKind) → IsWindowText w ks
    → Writes ks (window_text w)
write_window _ _ (grammar.IsWindowText.time n d) =
    write_then IsApart (Keyword keyword.Time ∷ []) (Number n ∷ []) (codes "time ") (decimal n)
    (word_then keyword.Time) (write_number n (omega (arith, d.1)))
write_window _ _ (grammar.IsWindowText.slide n m d e) =
    write_then IsApart (Keyword keyword.Time ∷ [])
    (Number n ∷ Keyword keyword.Slide ∷ Number m ∷ []) (codes "time ")
    (decimal n ++ (codes " slide " ++ decimal m)) (word_then keyword.Time)
    (write_apart_then IsApart (Number n ∷ []) (Keyword keyword.Slide ∷ Number m ∷ []) (decimal n)
    (codes " slide " ++ decimal m) (λ more. refl) (write_number n (omega (arith, d.1)))
    (write_then IsApart (Keyword keyword.Slide ∷ []) (Number m ∷ []) (codes " slide ") (decimal m)
    (write_space_before free (Keyword keyword.Slide ∷ []) (codes "slide ")
    (word_then keyword.Slide))
    (write_number m (omega (arith, e.1)))))
write_window _ _ (grammar.IsWindowText.count n low high) =
    write_then IsApart (Keyword keyword.Count ∷ []) (Number n ∷ []) (codes "count ") (decimal n)
    (word_then keyword.Count) (write_number n (omega (arith, high)))

-- ---- slack, before the window's word

abbrev window_line : WindowKind → List ℕ
window_line w = codes " window " ++ (window_text w ++ codes "\n")

late_line : (n : ℕ) (w : WindowKind) (rest : List TokenKind) → 1 ≤ n → n < 2 ^ 64
    → WritesFreely rest (window_line w)
    → WritesFreely (Keyword keyword.Slack ∷ Number n ∷ rest) (slack_text n ++ window_line w)
late_line zero w rest some small later = absurd (omega (arith, some))
late_line (suc n) w rest some small later =
    subst (λ (z : List ℕ). WritesFreely (Keyword keyword.Slack ∷ Number (suc n) ∷ rest) z)
    (sym (append_assoc (codes " slack ") (decimal (suc n)) (window_line w)))
    (write_then free (Keyword keyword.Slack ∷ []) (Number (suc n) ∷ rest) (codes " slack ")
    (decimal (suc n) ++ window_line w)
    (write_space_before free (Keyword keyword.Slack ∷ []) (codes "slack ")
    (word_then keyword.Slack))
    (write_apart_then free (Number (suc n) ∷ []) rest (decimal (suc n)) (window_line w)
    (λ more. refl)
    (write_number (suc n) small) later))

write_late : (n : ℕ) (ls : List TokenKind) → IsSlack n ls → (w : WindowKind) (rest : List TokenKind)
    → WritesFreely rest (window_line w) → WritesFreely (ls ++ rest) (slack_text n ++ window_line w)
write_late _ _ grammar.IsSlack.in_order w rest later = later
write_late _ _ (grammar.IsSlack.within n d) w rest later =
    late_line n w rest d.0 (omega (arith, d.1)) later

-- ---- sources

write_source : (s : SourceDecl) (ks : List TokenKind) → IsSource s ks → AreSpelled ks
    → WritesFreely ks (source_line s)
write_source _ _ (grammar.IsSource.source s cs ls ws are late lasts) h =
    let after_open = h.1.1.1.1.1 in
    let ending = ls ++ (Keyword keyword.Window ∷ ws) in
    let columns : Writes cs (columns_text s.names s.schema) =
    write_columns s.names s.schema cs are (spelled_parts cs (Sign Close ∷ ending) after_open).0 in
    let lasting : WritesFreely (Keyword keyword.Window ∷ ws) (window_line s.window) =
    write_then free (Keyword keyword.Window ∷ []) ws (codes " window ")
    (window_text s.window ++ codes "\n")
    (write_space_before free (Keyword keyword.Window ∷ []) (codes "window ")
    (word_then keyword.Window))
    (write_line ws (window_text s.window) (write_window s.window ws lasts)) in
    let end_text = slack_text s.slack ++ window_line s.window in
    let ended : WritesFreely ending end_text =
    write_late s.slack ls late s.window (Keyword keyword.Window ∷ ws) lasting in
    let closed : WritesFreely (Sign Close ∷ ending) (codes ")" ++ end_text) =
    write_then free (Sign Close ∷ []) ending (codes ")") end_text write_close ended in
    let tail = columns_text s.names s.schema ++ (codes ")" ++ end_text) in
    let inside = cs ++ (Sign Close ∷ ending) in
    let within : WritesFreely inside tail =
    write_apart_then free cs (Sign Close ∷ ending) (columns_text s.names s.schema)
    (codes ")" ++ end_text) (λ more. refl) columns closed in
    let opened : WritesFreely (Sign Open ∷ inside) (codes " (" ++ tail) =
    write_then free (Sign Open ∷ []) inside (codes " (") tail
    (write_space_before free (Sign Open ∷ []) (codes "(") write_open) within in
    let filed : WritesFreely (Text s.file ∷ Sign Open ∷ inside)
    (quoted s.file ++ (codes " (" ++ tail)) =
    write_then free (Text s.file ∷ []) (Sign Open ∷ inside) (quoted s.file) (codes " (" ++ tail)
    (write_quoted s.file h.1.1.1.0) opened in
    let come : WritesFreely (Keyword keyword.From ∷ Text s.file ∷ Sign Open ∷ inside)
    (codes " from " ++ (quoted s.file ++ (codes " (" ++ tail))) =
    write_then free (Keyword keyword.From ∷ []) (Text s.file ∷ Sign Open ∷ inside) (codes " from ")
    (quoted s.file ++ (codes " (" ++ tail))
    (write_space_before free (Keyword keyword.From ∷ []) (codes "from ")
    (word_then keyword.From)) filed in
    let named : WritesFreely (Name s.name ∷ Keyword keyword.From ∷ Text s.file ∷ Sign Open ∷ inside)
    (s.name ++ (codes " from " ++ (quoted s.file ++ (codes " (" ++ tail)))) =
    write_apart_then free (Name s.name ∷ [])
    (Keyword keyword.From ∷ Text s.file ∷ Sign Open ∷ inside) s.name
    (codes " from " ++ (quoted s.file ++ (codes " (" ++ tail))) (λ more. refl)
    (write_name s.name h.1.0.1.1 h.1.0.1.2) come in
    let whole : WritesFreely
    (Keyword keyword.Source ∷ Name s.name ∷ Keyword keyword.From ∷ Text s.file ∷ Sign Open ∷ inside)
    (codes "source " ++ (s.name ++ (codes " from " ++ (quoted s.file ++ (codes " (" ++ tail)))))
    =
    write_then free (Keyword keyword.Source ∷ [])
    (Name s.name ∷ Keyword keyword.From ∷ Text s.file ∷ Sign Open ∷ inside) (codes "source ")
    (s.name ++ (codes " from " ++ (quoted s.file ++ (codes " (" ++ tail))))
    (word_then keyword.Source) named in
    subst (λ (z : List ℕ). WritesFreely
    (Keyword keyword.Source ∷ Name s.name ∷ Keyword keyword.From ∷ Text s.file ∷ Sign Open ∷ inside)
    z)
    (sym (regroup (codes "source ") s.name (codes " from ") (quoted s.file)
    (codes " (" ++ tail))) whole

write_sources : (ss : List SourceDecl) (ks : List TokenKind) → AreSources ss ks → AreSpelled ks
    → WritesFreely ks (sources_text ss)
write_sources _ _ (grammar.AreSources.last s ks is) h = subst (λ (z : List ℕ). WritesFreely ks z)
    (sym (append-nil (source_line s))) (write_source s ks is h)
write_sources _ _ (grammar.AreSources.more s ss ks ls is are) h =
    write_then free ks ls (source_line s) (sources_text ss)
    (write_source s ks is (spelled_parts ks ls h).0)
    (write_sources ss ls are (spelled_parts ks ls h).1)

-- ---- the query

-- wherever the text stands, its tokens are a sentence of the query
pub record QueryPrinted (q : Query) : Type 0 where
  pub kinds : List TokenKind
  pub is : IsQueryWithin q kinds
  pub writes : WritesFreely kinds (query_text q)

pub printed_by : (q : Query) (ks : List TokenKind) → IsQuery q ks → IsQueryWithin q ks
    → AreSpelled ks
    → QueryPrinted q
printed_by _ _ (query q ss ps are it) is h =
    let spelled = spelled_parts ss (Keyword keyword.Plan ∷ ps) h in
    let p = plan_again (names_of q.sources) q.plan ps
    (record { spells = it; depth = is.depth; exprs = is.exprs; lists = is.lists }) spelled.1.1 in
    let line : WritesFreely (Keyword keyword.Plan ∷ p.kinds) (plan_line q.sources q.plan) =
    write_then free (Keyword keyword.Plan ∷ []) p.kinds (codes "plan ")
    (plan_text (names_of q.sources) q.plan ++ codes "\n") (word_then keyword.Plan)
    (write_line p.kinds (plan_text (names_of q.sources) q.plan) p.writes) in
    record {
      kinds = ss ++ (Keyword keyword.Plan ∷ p.kinds);
      is = record {
        named = record {
          spells = query q ss p.kinds are p.is.spells;
          sources_once =
              is.named.sources_once;
          columns_once = is.named.columns_once;
        };
        sources = is.sources;
        columns = is.columns;
        depth = is.depth;
        exprs = is.exprs;
        lists = is.lists;
      };
      writes = write_then free ss (Keyword keyword.Plan ∷ p.kinds) (sources_text q.sources)
          (plan_line q.sources q.plan)
          (write_sources q.sources ss are spelled.0) line;
    }

pub text_of_printed : (q : Query) → QueryPrinted q → IsTextOfQuery q (query_text q)
text_of_printed q p = text_by IsQueryWithin q p.kinds (query_text q) p.is p.writes
