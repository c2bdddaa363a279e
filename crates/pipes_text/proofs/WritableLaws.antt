-- A writable query is one that some text has.
use Rattle.std.proofs.Common.{◌≡◌, ◌≤◌, ◌<◌, ◌^◌, ℕ, zero, suc, List, [], ◌∷◌, ◌++◌, Option, Some}
use Rattle.std.proofs.Common.{None, nat_le, length, refl, sym, ap, subst, ◌∙◌, arith}
use Rattle.std.proofs.lemmas.Bool.{and_parts, leb-true}
use Rattle.pipes_time.specs.Interval.{horizon}
use Rattle.pipes_token.specs.declared.token.Sign.TheVariants.{Open, Close, Comma}
use Rattle.pipes_token.specs.declared.keyword.Keyword.{Keyword as AKeyword}
use Rattle.pipes_token.specs.declared.keyword.Keyword.TheVariants as keyword
use Rattle.pipes_token.specs.declared.token.TokenKind.{TokenKind}
use Rattle.pipes_token.specs.declared.token.TokenKind.TheVariants.{Sign, Keyword, Name, Number}
use Rattle.pipes_token.specs.declared.token.TokenKind.TheVariants.{Text}
use Rattle.pipes_token.specs.Keywords.{keyword_text}
use Rattle.pipes_token.specs.Spelling.{IsShortWord, is_word}
use Rattle.pipes_token.specs.Writing.{IsSpelled}
use Rattle.pipes_token.proofs.ByFirst.{keyword_of, keyword_found, missing_keyword}
use Rattle.pipes_token.proofs.ByFirst.{keyword_is_word}
use Rattle.pipes_tuple.specs.declared.value.Kind.{Kind}
use Rattle.pipes_tuple.specs.declared.value.Kind.TheVariants as kind
use Rattle.pipes_window.specs.declared.kind.WindowKind.{WindowKind}
use Rattle.pipes_window.specs.declared.kind.WindowKind.TheVariants as window
use Rattle.pipes_window.specs.Windows.{IsWindow}
use Rattle.pipes_reader.specs.Names.{AreNew}
use Rattle.pipes_print.specs.Printed.{AreSpelled}
use Rattle.pipes_print.specs.Writable.{Each, AreSourceNames, IsWritablePlan}
use Rattle.pipes_reader.specs.Names.{IsSourceName}
use Rattle.pipes_print.specs.Writable.{IsCheckedPlan}
use Rattle.pipes_print.proofs.ExprPrinting.{spelled_parts}
use Rattle.pipes_print.proofs.Lines.{spelled_prefix}
use Rattle.pipes_print.proofs.WritableExprs.{spelled_append, sign_spelled, keyword_spelled}
use Rattle.pipes_print.proofs.WritableExprs.{number_spelled, text_spelled, spelled_text, Sentence}
use Rattle.pipes_print.proofs.WritablePlans.{plan_text_of, plan_writable}
use Rattle.pipes_print.proofs.CheckedPlans.{plan_checked}
use Rattle.pipes_plan.specs.declared.plan.Plan.{Plan}
use Rattle.pipes_query.specs.declared.query.SourceDecl.{SourceDecl}
use Rattle.pipes_query.specs.declared.query.Query.{Query}
use Rattle.pipes_query.specs.Queries.{names_of}
use Rattle.pipes_query.proofs.NameLaws.{count_names}
use Rattle.pipes_text.specs.Grammar as grammar
use Rattle.pipes_text.specs.Grammar.{word_of, kind_of_token, IsColumn, AreColumns, IsSlack}
use Rattle.pipes_text.specs.Grammar.{IsWindowText}
use Rattle.pipes_text.specs.Grammar.{IsSource, AreSources, IsQuery}
use Rattle.pipes_text.specs.Limits.{ColumnsNamedOnce, ColumnsWithin, IsQueryWithin}
use Rattle.pipes_text.specs.Texts.{IsTextOfQuery}
use Rattle.pipes_text.specs.Printing.{HasText, query_text, with_plan}
use Rattle.pipes_text.specs.Writable.{IsWritableSource, IsWritableQuery}
use Rattle.pipes_text.proofs.PrintLaws.{QueryPrinted, printed_by, text_of_printed}

-- ---- words

-- the token of a word, a keyword or not
record WordToken (w : List ℕ) : Type 0 where
  kind : TokenKind
  is : word_of kind ≡ Some w
  spelled : IsSpelled kind

word_token : (w : List ℕ) → IsShortWord w → WordToken w
word_token w short = by (keyword_of w) refl
  where
    by : (o : Option AKeyword) → keyword_of w ≡ o → WordToken w
    by (Some k) e = record {
      kind = Keyword k;
      is = ap (λ (z : List ℕ). Some z) (sym (keyword_found w k e));
      spelled = keyword_spelled k;
    }
    by None e =
        record { kind = Name w; is = refl; spelled = (w, (refl, short, missing_keyword w e)) }

short_keyword : (k : AKeyword) → IsShortWord (keyword_text k)
short_keyword k =
    let word = and_parts (is_word (keyword_text k)) (nat_le (length (keyword_text k)) 64)
    (keyword_is_word k) in
    (word.0, leb-true (length (keyword_text k)) 64 word.1)

word_back : (k : TokenKind) (w : List ℕ) → word_of k ≡ Some w → IsSpelled k → IsShortWord w
word_back (Name v) w e s =
    let same : v ≡ w = cc in subst (λ (z : List ℕ). IsShortWord z) same s.1.1
word_back (Keyword k) w e s =
    let same : keyword_text k ≡ w = cc in subst (λ (z : List ℕ). IsShortWord z) same
    (short_keyword k)
word_back _ w e s = absurd cc

-- ---- columns

abbrev kind_token : Kind → TokenKind
kind_token kind.Int = Keyword keyword.Int
kind_token kind.Text = Keyword keyword.Text
kind_token kind.Flag = Keyword keyword.Flag

kind_again : (sort : Kind) → kind_of_token (kind_token sort) ≡ Some sort
kind_again kind.Int = refl
kind_again kind.Text = refl
kind_again kind.Flag = refl

kind_spelled : (sort : Kind) → IsSpelled (kind_token sort)
kind_spelled kind.Int = keyword_spelled keyword.Int
kind_spelled kind.Text = keyword_spelled keyword.Text
kind_spelled kind.Flag = keyword_spelled keyword.Flag

-- tokens that bytes spell are these columns
record ColumnSentence (names : List (List ℕ)) (sorts : List Kind) : Type 0 where
  kinds : List TokenKind
  are : AreColumns names sorts kinds
  spelled : AreSpelled kinds

column_sentence : (name : List ℕ) (sort : Kind) (names : List (List ℕ)) (sorts : List Kind)
    → IsShortWord name → Each IsShortWord names → length sorts ≡ length names
    → ColumnSentence (name ∷ names) (sort ∷ sorts)
column_sentence name sort [] [] short others e =
    let w = word_token name short in
    record {
      kinds = w.kind ∷ kind_token sort ∷ [];
      are = grammar.AreColumns.last name sort (w.kind ∷ kind_token sort ∷ [])
          (grammar.IsColumn.column name sort w.kind (kind_token sort) w.is (kind_again sort));
      spelled = (w.spelled, (kind_spelled sort, tt));
    }
column_sentence name sort (next ∷ names) (other ∷ sorts) short others e =
    let w = word_token name short in
    let rest = column_sentence next other names sorts others.0 others.1 (cc) in
    record {
      kinds = w.kind ∷ kind_token sort ∷ Sign Comma ∷ rest.kinds;
      are = grammar.AreColumns.more name sort (next ∷ names) (other ∷ sorts)
          (w.kind ∷ kind_token sort ∷ []) rest.kinds
          (grammar.IsColumn.column name sort w.kind (kind_token sort) w.is (kind_again sort))
          rest.are;
      spelled = (w.spelled, (kind_spelled sort, (sign_spelled Comma, rest.spelled)));
    }
column_sentence name sort [] (other ∷ sorts) short others e = absurd cc
column_sentence name sort (next ∷ names) [] short others e = absurd cc

columns_sentence : (names : List (List ℕ)) (sorts : List Kind) → 1 ≤ length names
    → Each IsShortWord names → length sorts ≡ length names → ColumnSentence names sorts
columns_sentence [] sorts some words e = absurd (omega (arith, some))
columns_sentence (name ∷ names) [] some words e = absurd cc
columns_sentence (name ∷ names) (sort ∷ sorts) some words e =
    column_sentence name sort names sorts words.0 words.1 (cc)

columns_back : (names : List (List ℕ)) (sorts : List Kind) (ks : List TokenKind)
    → AreColumns names sorts ks → AreSpelled ks
    → (1 ≤ length names) × Each IsShortWord names × (length sorts ≡ length names)
columns_back _ _ _ (grammar.AreColumns.last _ _ _ (grammar.IsColumn.column name sort word k e f))
    s =
    (omega arith, (word_back word name e s.0, tt), refl)
columns_back _ _ _ (grammar.AreColumns.more _ _ names sorts _ ls
    (grammar.IsColumn.column name sort word k e f) are) s =
    let rest = columns_back names sorts ls are s.1.1.1 in (
      omega arith,
      (word_back word name e s.0, rest.1),
      ap (λ (n : ℕ). suc n) rest.2,
    )

-- ---- slack and window

slack_sentence : (n : ℕ) → n ≤ horizon → Sentence IsSlack n
slack_sentence zero le =
    record { kinds = []; is = grammar.IsSlack.in_order; spelled = tt }
slack_sentence (suc n) le = record {
  kinds = Keyword keyword.Slack ∷ Number (suc n) ∷ [];
  is = grammar.IsSlack.within (suc n) (omega arith, le);
  spelled = (keyword_spelled keyword.Slack, (number_spelled (suc n) (omega (arith, le)), tt));
}

slack_back : (n : ℕ) (ks : List TokenKind) → IsSlack n ks → n ≤ horizon
slack_back _ _ grammar.IsSlack.in_order = omega arith
slack_back _ _ (grammar.IsSlack.within n d) = d.1

window_sentence : (w : WindowKind) → IsWindow w → Sentence IsWindowText w
window_sentence (window.Time n) is = record {
  kinds = Keyword keyword.Time ∷ Number n ∷ [];
  is = grammar.IsWindowText.time n is;
  spelled = (keyword_spelled keyword.Time, (number_spelled n (omega (arith, is.1)), tt));
}
window_sentence (window.Slide n m) is = record {
  kinds = Keyword keyword.Time ∷ Number n ∷ Keyword keyword.Slide ∷ Number m ∷ [];
  is = grammar.IsWindowText.slide n m is.0 is.1;
  spelled = (
    keyword_spelled keyword.Time,
    (
      number_spelled n (omega (arith, is.0.1)),
      (keyword_spelled keyword.Slide, (number_spelled m (omega (arith, is.1.1)), tt)),
    ),
  );
}
window_sentence (window.Count n) is = record {
  kinds = Keyword keyword.Count ∷ Number n ∷ [];
  is = grammar.IsWindowText.count n is.0 is.1;
  spelled = (keyword_spelled keyword.Count, (number_spelled n (omega (arith, is.1)), tt));
}

window_back : (w : WindowKind) (ks : List TokenKind) → IsWindowText w ks → IsWindow w
window_back _ _ (grammar.IsWindowText.time n d) = d
window_back _ _ (grammar.IsWindowText.slide n m d e) = (d, e)
window_back _ _ (grammar.IsWindowText.count n low high) = (low, high)

-- ---- sources

source_sentence : (s : SourceDecl) → IsWritableSource s → Sentence IsSource s
source_sentence s is =
    let c = columns_sentence s.names s.schema is.some is.words is.kinds in
    let l = slack_sentence s.slack is.slack in
    let w = window_sentence s.window is.window in
    let ending = l.kinds ++ (Keyword keyword.Window ∷ w.kinds) in
    let ended : AreSpelled ending =
    spelled_append l.kinds (Keyword keyword.Window ∷ w.kinds) l.spelled
    (keyword_spelled keyword.Window, w.spelled) in
    record {
      kinds = Keyword keyword.Source ∷ Name s.name ∷ Keyword keyword.From ∷ Text s.file
          ∷ Sign Open ∷ (c.kinds ++ (Sign Close ∷ ending));
      is = grammar.IsSource.source s c.kinds l.kinds w.kinds c.are l.is w.is;
      spelled = (
        keyword_spelled keyword.Source,
        (
          (s.name, (refl, is.name.0, is.name.1)),
          (
            keyword_spelled keyword.From,
            (
              text_spelled s.file is.file.0 is.file.1,
              (
                sign_spelled Open,
                spelled_append c.kinds (Sign Close ∷ ending) c.spelled (sign_spelled Close, ended),
              ),
            ),
          ),
        ),
      );
    }

source_back : (s : SourceDecl) (ks : List TokenKind) → IsSource s ks → AreSpelled ks
    → AreNew [] s.names → length s.names ≤ 32 → IsWritableSource s
source_back _ _ (grammar.IsSource.source s cs ls ws are late lasts) h once short =
    let parts = spelled_parts cs (Sign Close ∷ (ls ++ (Keyword keyword.Window ∷ ws))) h.1.1.1.1.1 in
    let c = columns_back s.names s.schema cs are parts.0 in
    record {
      name = (h.1.0.1.1, h.1.0.1.2);
      file = spelled_text s.file h.1.1.1.0;
      some = c.0;
      columns = short;
      words = c.1;
      once = once;
      kinds = c.2;
      slack = slack_back s.slack ls late;
      window = window_back s.window ws lasts;
    }

sources_sentence : (s : SourceDecl) (ss : List SourceDecl) → IsWritableSource s
    → Each IsWritableSource ss → Sentence AreSources (s ∷ ss)
sources_sentence s [] is others =
    let k = source_sentence s is in
    record {
      kinds = k.kinds;
      is = grammar.AreSources.last s k.kinds k.is;
      spelled = k.spelled;
    }
sources_sentence s (t ∷ ts) is others =
    let k = source_sentence s is in
    let rest = sources_sentence t ts others.0 others.1 in
    record {
      kinds = k.kinds ++ rest.kinds;
      is = grammar.AreSources.more s (t ∷ ts) k.kinds rest.kinds k.is rest.is;
      spelled = spelled_append k.kinds rest.kinds k.spelled rest.spelled;
    }

sources_back : (ss : List SourceDecl) (ks : List TokenKind) → AreSources ss ks → AreSpelled ks
    → ColumnsNamedOnce ss → ColumnsWithin ss → (1 ≤ length ss) × Each IsWritableSource ss
sources_back _ _ (grammar.AreSources.last s ks is) h once short =
    (omega arith, (source_back s ks is h once.0 short.0, tt))
sources_back _ _ (grammar.AreSources.more s ss ks ls is are) h once short =
    let parts = spelled_parts ks ls h in (
      omega arith,
      (
        source_back s ks is parts.0 once.0 short.0,
        (sources_back ss ls are parts.1 once.1 short.1).1,
      ),
    )

-- ---- queries

named_once : (ss : List SourceDecl) → Each IsWritableSource ss → ColumnsNamedOnce ss
named_once [] each = tt
named_once (s ∷ ss) each = (each.0.once, named_once ss each.1)

within : (ss : List SourceDecl) → Each IsWritableSource ss → ColumnsWithin ss
within [] each = tt
within (s ∷ ss) each = (each.0.columns, within ss each.1)

pub source_names : (ss : List SourceDecl) → Each IsWritableSource ss
    → Each IsSourceName (names_of ss)
source_names [] each = tt
source_names (s ∷ ss) each = (each.0.name, source_names ss each.1)

all_sources : (ss : List SourceDecl) → 1 ≤ length ss → Each IsWritableSource ss
    → Sentence AreSources ss
all_sources [] some each = absurd (omega (arith, some))
all_sources (s ∷ ss) some each = sources_sentence s ss each.0 each.1

pub query_printed : (q : Query) → IsWritableQuery q → IsTextOfQuery q (query_text q)
query_printed q is =
    let s = all_sources q.sources is.some is.each in
    let p = plan_text_of (names_of q.sources) q.plan
    (record { words = source_names q.sources is.each; once = is.once })
    (subst (λ (n : ℕ). IsWritablePlan n q.plan) (sym (count_names q.sources)) is.plan) in
    let ks = s.kinds ++ (Keyword keyword.Plan ∷ p.kinds) in
    let spells : IsQuery q ks = grammar.IsQuery.query q s.kinds p.kinds s.is p.is.spells in
    text_of_printed q
    (printed_by q ks spells (record {
      named = record {
        spells = spells;
        sources_once = is.once;
        columns_once = named_once q.sources is.each;
      };
      sources = is.sources;
      columns = within q.sources is.each;
      depth = p.is.depth;
      exprs = p.is.exprs;
      lists = p.is.lists;
    })
    (spelled_append s.kinds (Keyword keyword.Plan ∷ p.kinds) s.spelled
    (keyword_spelled keyword.Plan, p.spelled)))

-- the plan of a writable query may be replaced by each that checks
pub checked_printed : (q : Query) (p : Plan) → IsWritableQuery q
    → IsCheckedPlan (length q.sources) p
    → IsTextOfQuery (with_plan q p) (query_text (with_plan q p))
checked_printed q p is checked =
    query_printed (with_plan q p)
    (record {
      some = is.some;
      sources = is.sources;
      each = is.each;
      once = is.once;
      plan = plan_checked (length q.sources) p checked;
    })

query_back : (q : Query) (ks : List TokenKind) → IsQuery q ks → IsQueryWithin q ks → AreSpelled ks
    → IsWritableQuery q
query_back _ _ (grammar.IsQuery.query q ss ps are it) is h =
    let parts = spelled_parts ss (Keyword keyword.Plan ∷ ps) h in
    let s = sources_back q.sources ss are parts.0 is.named.columns_once is.columns in
    record {
      some = s.0;
      sources = is.sources;
      each = s.1;
      once = is.named.sources_once;
      plan = subst (λ (n : ℕ). IsWritablePlan n q.plan) (count_names q.sources)
          (plan_writable (names_of q.sources) q.plan ps
          (record { spells = it; depth = is.depth; exprs = is.exprs; lists = is.lists })
          parts.1.1);
    }

pub query_writable : (q : Query) → HasText q → IsWritableQuery q
query_writable q h =
    let t = h.1 in
    query_back q t.spells.0 t.spells.1.named.spells t.spells.1
    (spelled_prefix (length h.0) h.0 t.tokens t.are t.spells.0 t.spells.2)
