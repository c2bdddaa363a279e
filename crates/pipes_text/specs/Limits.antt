-- What a query's text has to keep beside the grammar: names that are declared once, and the limits.
use Rattle.std.specs.Prelude.{◌≤◌, List, [], ◌∷◌, length}
use Rattle.pipes_token.specs.declared.token.TokenKind.{TokenKind}
use Rattle.pipes_plan.specs.Sizes.{plan_depth}
use Rattle.pipes_grammar.specs.Limits.{deepest_expr, longest_list}
use Rattle.pipes_query.specs.declared.query.SourceDecl.{SourceDecl}
use Rattle.pipes_query.specs.declared.query.Query.{Query}
use Rattle.pipes_query.specs.Queries.{names_of}
use Rattle.pipes_reader.specs.Names.{AreNew}
use Rattle.pipes_text.specs.Grammar.{IsQuery}

-- the names of each source's columns are declared once
abbrev pub ColumnsNamedOnce : List SourceDecl → Type 0
ColumnsNamedOnce [] = Unit {0}
ColumnsNamedOnce (s ∷ ss) = AreNew [] s.names × ColumnsNamedOnce ss

-- each source has at most 32 columns
abbrev pub ColumnsWithin : List SourceDecl → Type 0
ColumnsWithin [] = Unit {0}
ColumnsWithin (s ∷ ss) = (length s.names ≤ 32) × ColumnsWithin ss

-- a query in which no name is declared twice
pub record IsNamedQuery (q : Query) (ks : List TokenKind) : Type 0 where
  pub spells : IsQuery q ks
  pub sources_once : AreNew [] (names_of q.sources)
  pub columns_once : ColumnsNamedOnce q.sources

-- such a query within the limits: 16 sources, 32 columns of each, 32 levels of the plan and of each
-- expression, 32 entries of a list
pub record IsQueryWithin (q : Query) (ks : List TokenKind) : Type 0 where
  pub named : IsNamedQuery q ks
  pub sources : length q.sources ≤ 16
  pub columns : ColumnsWithin q.sources
  pub depth : plan_depth q.plan ≤ 32
  pub exprs : deepest_expr q.plan ≤ 32
  pub lists : longest_list q.plan ≤ 32
