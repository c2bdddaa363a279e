-- What is printed of a writable derivation is read back, and each derivation of a text is writable.
use Rattle.std.proofs.Common.{◌≡◌, ℕ, suc, ◌+◌, ◌^◌, ◌<◌, ◌≤◌, Bool, true, false, List, [], ◌∷◌}
use Rattle.std.proofs.Common.{◌++◌, length, map, refl, sym, ap, subst, ◌∙◌, append_assoc}
use Rattle.std.proofs.Common.{append-nil, arith}
use Rattle.std.specs.Prelude.{codes}
use Rattle.std.specs.Fmt.{decimal}
use Rattle.std.specs.List.{flat_map}
use Rattle.pipes_token.specs.declared.token.Sign.TheVariants.{Point}
use Rattle.pipes_token.specs.declared.keyword.Keyword.{Keyword as AKeyword}
use Rattle.pipes_token.specs.declared.keyword.Keyword.TheVariants as keyword
use Rattle.pipes_token.specs.declared.token.TokenKind.{TokenKind}
use Rattle.pipes_token.specs.declared.token.TokenKind.TheVariants.{Sign, Keyword, Name, Number, End}
use Rattle.pipes_token.specs.declared.token.Token.{Token}
use Rattle.pipes_token.specs.Keywords.{keyword_text}
use Rattle.pipes_token.specs.Gaps as gaps
use Rattle.pipes_token.specs.Tokens.{Tokens, IsPlaced}
use Rattle.pipes_token.specs.Tokens as lexed
use Rattle.pipes_token.specs.Writing.{IsApart, BeginsWith, Writes, WritesFreely, IsSpelled}
use Rattle.pipes_token.proofs.Gaps.{past_separator}
use Rattle.pipes_token.proofs.Writing.{write_keyword, write_name, write_number, write_point}
use Rattle.pipes_token.proofs.Writing.{write_space_before, write_space_after, write_then}
use Rattle.pipes_token.proofs.Writing.{write_apart_then}
use Rattle.pipes_expr.specs.declared.expr.Expr.{Expr}
use Rattle.pipes_reader.specs.Reading.{kinds_of}
use Rattle.pipes_reader.specs.Sentences.{Grammar}
use Rattle.pipes_reader.specs.Texts.{IsText}
use Rattle.pipes_reader.proofs.TokenLists.{kinds-append}
use Rattle.pipes_print.specs.ExprText.{expr_text, list_text}
use Rattle.pipes_print.specs.PlanText.{plan_text}
use Rattle.pipes_print.specs.Printed.{AreSpelled}
use Rattle.pipes_print.specs.Writable.{Each, AreSourceNames, IsWritablePlan}
use Rattle.pipes_print.proofs.ExprPrinting.{spelled_parts}
use Rattle.pipes_print.proofs.Lines.{spelled_prefix, write_line, write_none, write_end, free}
use Rattle.pipes_print.proofs.Lines.{word_then, word_between, regroup, text_by}
use Rattle.pipes_print.proofs.WritablePlans.{expr_printed, exprs_printed, plan_printed}
use Rattle.pipes_print.proofs.WritablePlans.{expr_writable, exprs_writable, plan_writable}
use Rattle.pipes_query.specs.declared.query.SourceDecl.{SourceDecl}
use Rattle.pipes_query.specs.declared.query.Query.{Query}
use Rattle.pipes_query.specs.Queries.{names_of}
use Rattle.pipes_query.proofs.NameLaws.{count_names}
use Rattle.pipes_rules.specs.declared.step.Arg.{Arg}
use Rattle.pipes_rules.specs.declared.step.Arg.TheVariants as arg
use Rattle.pipes_rules.specs.declared.step.Step.{Step}
use Rattle.pipes_rules.specs.Table.{rule_name}
use Rattle.pipes_rules.proofs.TableLaws.{own_name}
use Rattle.pipes_derivation.specs.declared.derivation.Derivation.{Derivation}
use Rattle.pipes_derivation.specs.Grammar.{IsDirection, AreChildren, IsPath, IsGiven, IsArg, IsStep}
use Rattle.pipes_derivation.specs.Grammar.{AreSteps, IsDerivation}
use Rattle.pipes_derivation.specs.Grammar as grammar
use Rattle.pipes_derivation.specs.Limits.{IsArgWithin, AreStepsWithin, IsDerivationWithin}
use Rattle.pipes_derivation.specs.Texts.{IsTextOfDerivation}
use Rattle.pipes_derivation.specs.Printing.{direction_text, path_text, arg_text, step_line}
use Rattle.pipes_derivation.specs.Printing.{derivation_text, HasDerivationText}
use Rattle.pipes_derivation.specs.Writable.{IsChild, IsWritableArg, IsWritableStep}
use Rattle.pipes_derivation.specs.Writable.{IsWritableDerivation}
use Rattle.pipes_derivation.proofs.RuleWords.{rule_word}

-- ---- the direction

abbrev direction_kinds : Bool → List TokenKind
direction_kinds true = Keyword keyword.Back ∷ []
direction_kinds false = []

direction_is : (back : Bool) → IsDirection back (direction_kinds back)
direction_is true = grammar.IsDirection.back
direction_is false = grammar.IsDirection.forward

write_direction : (back : Bool)
    → WritesFreely (direction_kinds back ++ (Keyword keyword.At ∷ [])) (direction_text back)
write_direction true =
    write_then free (Keyword keyword.Back ∷ []) (Keyword keyword.At ∷ []) (codes " back ")
    (codes "at ") (word_between keyword.Back) (word_then keyword.At)
write_direction false = word_between keyword.At

direction_apart : (back : Bool) (rest more : List ℕ) → IsApart ((direction_text back ++ rest)
    ++ more)
direction_apart true rest more = refl
direction_apart false rest more = refl

-- ---- the path

-- a path's tokens
record PathPrinted (path : List ℕ) : Type 0 where
  kinds : List TokenKind
  is : IsPath path kinds
  writes : Writes kinds (path_text path)

record ChildrenPrinted (n : ℕ) (path : List ℕ) : Type 0 where
  kinds : List TokenKind
  are : AreChildren (n ∷ path) kinds
  writes : Writes kinds (decimal n ++ flat_map (λ m. codes "." ++ decimal m) path)

abbrev others_text : List ℕ → List ℕ
others_text path = flat_map (λ m. codes "." ++ decimal m) path

children_printed : (n : ℕ) (path : List ℕ) → n ≤ 1 → Each IsChild path → ChildrenPrinted n path
children_printed n [] le each = record {
  kinds = Number n ∷ [];
  are = grammar.AreChildren.last n le;
  writes = subst (λ (z : List ℕ). Writes (Number n ∷ []) z) (sym (append-nil (decimal n)))
      (write_number n (omega (arith, le)));
}
children_printed n (m ∷ path) le each =
    let rest = children_printed m path each.0 each.1 in
    let after : Writes (Sign Point ∷ rest.kinds) (codes "." ++ (decimal m ++ others_text path)) =
    write_then IsApart (Sign Point ∷ []) rest.kinds (codes ".") (decimal m ++ others_text path)
    write_point rest.writes in
    record {
      kinds = Number n ∷ Sign Point ∷ rest.kinds;
      are = grammar.AreChildren.more n (m ∷ path) rest.kinds le rest.are;
      writes = write_apart_then IsApart (Number n ∷ []) (Sign Point ∷ rest.kinds) (decimal n)
          (codes "." ++ (decimal m ++ others_text path)) (λ more. refl)
          (write_number n (omega (arith, le))) after;
    }

path_printed : (path : List ℕ) → Each IsChild path → PathPrinted path
path_printed [] each = record {
  kinds = Keyword keyword.Top ∷ [];
  is = grammar.IsPath.top;
  writes = write_keyword keyword.Top;
}
path_printed (n ∷ path) each =
    let c = children_printed n path each.0 each.1 in
    record {
      kinds = c.kinds;
      is = grammar.IsPath.children (n ∷ path) c.kinds c.are;
      writes = c.writes;
    }

-- ---- the argument, and the end of the line

record ArgPrinted (a : Arg) : Type 0 where
  kinds : List TokenKind
  is : IsArg a kinds
  within : IsArgWithin a
  writes : WritesFreely kinds (arg_text a ++ codes "\n")

arg_apart : (a : Arg) (more : List ℕ) → IsApart ((arg_text a ++ codes "\n") ++ more)
arg_apart arg.Nothing more = refl
arg_apart (arg.OneExpr e) more = refl
arg_apart (arg.TwoLists es fs) more = refl

arg_printed : (a : Arg) → IsWritableArg a → ArgPrinted a
arg_printed arg.Nothing w =
    record { kinds = []; is = grammar.IsArg.nothing; within = tt; writes = write_end }
arg_printed (arg.OneExpr e) w =
    let p = expr_printed e w in
    record {
      kinds = Keyword keyword.With ∷ p.kinds;
      is = grammar.IsArg.given (arg.OneExpr e) p.kinds
          (grammar.IsGiven.expr e p.kinds p.is.spells);
      within = w.depth;
      writes = subst (λ (z : List ℕ). WritesFreely (Keyword keyword.With ∷ p.kinds) z)
          (sym (append_assoc (codes " with ") (expr_text e) (codes "\n")))
          (write_then free (Keyword keyword.With ∷ []) p.kinds (codes " with ")
          (expr_text e ++ codes "\n") (word_between keyword.With)
          (write_line p.kinds (expr_text e) p.writes));
    }
arg_printed (arg.TwoLists es fs) w =
    let p = exprs_printed es w.0 in
    let q = exprs_printed fs w.1 in
    let one = list_text expr_text es in
    let two = list_text expr_text fs in
    let second : WritesFreely q.kinds (codes " " ++ (two ++ codes "\n")) =
    write_space_before free q.kinds (two ++ codes "\n") (write_line q.kinds two q.writes) in
    let both : WritesFreely (p.kinds ++ q.kinds) (one ++ (codes " " ++ (two ++ codes "\n"))) =
    write_apart_then free p.kinds q.kinds one (codes " " ++ (two ++ codes "\n")) (λ more. refl)
    p.writes second in
    record {
      kinds = Keyword keyword.With ∷ (p.kinds ++ q.kinds);
      is = grammar.IsArg.given (arg.TwoLists es fs) (p.kinds ++ q.kinds)
          (grammar.IsGiven.lists es fs p.kinds q.kinds p.are.spells q.are.spells);
      within = ((w.0.depth, w.0.entries), (w.1.depth, w.1.entries));
      writes = subst (λ (z : List ℕ). WritesFreely (Keyword keyword.With ∷ (p.kinds ++ q.kinds)) z)
          (sym (regroup (codes " with ") one (codes " ") two (codes "\n")))
          (write_then free (Keyword keyword.With ∷ []) (p.kinds ++ q.kinds) (codes " with ")
          (one ++ (codes " " ++ (two ++ codes "\n"))) (word_between keyword.With) both);
    }

-- ---- steps

record StepPrinted (s : Step) : Type 0 where
  kinds : List TokenKind
  is : IsStep s kinds
  writes : WritesFreely kinds (step_line s)

step_printed : (s : Step) → IsWritableStep s → StepPrinted s
step_printed s w =
    let name = rule_name s.rule in
    let p = path_printed s.path w.children in
    let a = arg_printed s.arg w.arg in
    let ds = direction_kinds s.back in
    let at = Keyword keyword.At ∷ [] in
    let end_text = arg_text s.arg ++ codes "\n" in
    let ended : WritesFreely (p.kinds ++ a.kinds) (path_text s.path ++ end_text) =
    write_apart_then free p.kinds a.kinds (path_text s.path) end_text (arg_apart s.arg) p.writes
    a.writes in
    let placed : WritesFreely ((ds ++ at) ++ (p.kinds ++ a.kinds))
    (direction_text s.back ++ (path_text s.path ++ end_text)) =
    write_then free (ds ++ at) (p.kinds ++ a.kinds) (direction_text s.back)
    (path_text s.path ++ end_text) (write_direction s.back) ended in
    let named : WritesFreely (Name name ∷ ((ds ++ at) ++ (p.kinds ++ a.kinds)))
    (name ++ (direction_text s.back ++ (path_text s.path ++ end_text))) =
    write_apart_then free (Name name ∷ []) ((ds ++ at) ++ (p.kinds ++ a.kinds)) name
    (direction_text s.back ++ (path_text s.path ++ end_text))
    (direction_apart s.back (path_text s.path ++ end_text))
    (write_name name (rule_word s.rule).0 (rule_word s.rule).1) placed in
    let whole : WritesFreely
    (Keyword keyword.Step ∷ Name name ∷ ((ds ++ at) ++ (p.kinds ++ a.kinds))) (step_line s) =
    write_then free (Keyword keyword.Step ∷ []) (Name name ∷ ((ds ++ at) ++ (p.kinds ++ a.kinds)))
    (codes "step ") (name ++ (direction_text s.back ++ (path_text s.path ++ end_text)))
    (word_then keyword.Step) named in
    record {
      kinds = Keyword keyword.Step ∷ Name name
          ∷ (ds ++ (Keyword keyword.At ∷ (p.kinds ++ a.kinds)));
      is = grammar.IsStep.step s name ds p.kinds a.kinds (own_name s.rule) (direction_is s.back)
          p.is
          a.is;
      writes = subst (λ (z : List TokenKind). WritesFreely
          (Keyword keyword.Step ∷ Name name ∷ z) (step_line s))
          (append_assoc ds at (p.kinds ++ a.kinds)) whole;
    }

record StepsPrinted (ss : List Step) : Type 0 where
  kinds : List TokenKind
  are : AreSteps ss kinds
  within : AreStepsWithin ss
  writes : WritesFreely kinds (flat_map step_line ss)

steps_printed : (ss : List Step) → Each IsWritableStep ss → StepsPrinted ss
steps_printed [] each =
    record { kinds = []; are = grammar.AreSteps.none; within = tt; writes = write_none }
steps_printed (s ∷ ss) each =
    let one = step_printed s each.0 in
    let rest = steps_printed ss each.1 in
    record {
      kinds = one.kinds ++ rest.kinds;
      are = grammar.AreSteps.next s ss one.kinds rest.kinds one.is rest.are;
      within = ((each.0.path, (arg_printed s.arg each.0.arg).within), rest.within);
      writes = write_then free one.kinds rest.kinds (step_line s) (flat_map step_line ss) one.writes
          rest.writes;
    }

-- ---- whole texts

module _ (q : Query) (d : Derivation) where
  pub derivation_printed : AreSourceNames (names_of q.sources)
      → IsWritableDerivation (length q.sources) d
      → IsTextOfDerivation q d (derivation_text (names_of q.sources) d)
  derivation_printed named w =
      let s = steps_printed d.steps w.each in
      let p = plan_printed (names_of q.sources) d.plan named
      (subst (λ (n : ℕ). IsWritablePlan n d.plan) (sym (count_names q.sources)) w.plan) in
      let plan = plan_text (names_of q.sources) d.plan in
      let line : WritesFreely (Keyword keyword.Plan ∷ p.kinds)
      (codes "plan " ++ (plan ++ codes "\n")) =
      write_then free (Keyword keyword.Plan ∷ []) p.kinds (codes "plan ") (plan ++ codes "\n")
      (word_then keyword.Plan) (write_line p.kinds plan p.writes) in
      let ks = s.kinds ++ (Keyword keyword.Plan ∷ p.kinds) in
      let is : IsDerivationWithin (names_of q.sources) d ks = record {
        spells = grammar.derivation d s.kinds p.kinds s.are p.is.spells;
        steps = w.steps;
        each = s.within;
        depth = p.is.depth;
        exprs = p.is.exprs;
        lists = p.is.lists;
      } in
      text_by (IsDerivationWithin (names_of q.sources)) d ks
      (derivation_text (names_of q.sources) d) is
      (write_then free s.kinds (Keyword keyword.Plan ∷ p.kinds) (flat_map step_line d.steps)
      (codes "plan " ++ (plan ++ codes "\n")) s.writes line)

-- ---- what some text has is writable

children_back : (path : List ℕ) (ks : List TokenKind) → AreChildren path ks → Each IsChild path
children_back _ _ (grammar.AreChildren.last n le) = (le, tt)
children_back _ _ (grammar.AreChildren.more n path ks le are) = (le, children_back path ks are)

path_back : (path : List ℕ) (ks : List TokenKind) → IsPath path ks → Each IsChild path
path_back _ _ grammar.IsPath.top = tt
path_back _ _ (grammar.IsPath.children path ks are) = children_back path ks are

given_back : (a : Arg) (ks : List TokenKind) → IsGiven a ks → AreSpelled ks → IsArgWithin a
    → IsWritableArg a
given_back _ _ (grammar.IsGiven.expr e ks is) h w =
    expr_writable e ks (record { spells = is; depth = w }) h
given_back _ _ (grammar.IsGiven.lists es fs ks ls is it) h w =
    let parts = spelled_parts ks ls h in (
      exprs_writable es ks (record { spells = is; depth = w.0.0; entries = w.0.1 }) parts.0,
      exprs_writable fs ls (record { spells = it; depth = w.1.0; entries = w.1.1 }) parts.1,
    )

arg_back : (a : Arg) (ks : List TokenKind) → IsArg a ks → AreSpelled ks → IsArgWithin a
    → IsWritableArg a
arg_back _ _ grammar.IsArg.nothing h w = tt
arg_back _ _ (grammar.IsArg.given a ks is) h w = given_back a ks is h.1 w

steps_back : (ss : List Step) (ks : List TokenKind) → AreSteps ss ks → AreSpelled ks
    → AreStepsWithin ss → Each IsWritableStep ss
steps_back _ _ grammar.AreSteps.none h w = tt
steps_back _ _
    (grammar.AreSteps.next _ ss _ ls (grammar.IsStep.step s word ds ps gs e is p a) others) h w =
    let parts = spelled_parts (Keyword keyword.Step ∷ Name word
    ∷ (ds ++ (Keyword keyword.At ∷ (ps ++ gs)))) ls h in
    let inner = spelled_parts ds (Keyword keyword.At ∷ (ps ++ gs)) parts.0.1.1 in
    let ending = spelled_parts ps gs inner.1.1 in (
      record {
        path = w.0.0;
        children = path_back s.path ps p;
        arg = arg_back s.arg gs a ending.1 w.0.1;
      },
      steps_back ss ls others parts.1 w.1,
    )

derivation_back : (names : List (List ℕ)) (d : Derivation) (ks : List TokenKind)
    → IsDerivation names d ks → IsDerivationWithin names d ks → AreSpelled ks
    → IsWritableDerivation (length names) d
derivation_back names _ _ (grammar.derivation d ss ps are it) w h =
    let parts = spelled_parts ss (Keyword keyword.Plan ∷ ps) h in
    record {
      steps = w.steps;
      each = steps_back d.steps ss are parts.0 w.each;
      plan = plan_writable names d.plan ps
          (record { spells = it; depth = w.depth; exprs = w.exprs; lists = w.lists }) parts.1.1;
    }

pub derivation_writable : (q : Query) (d : Derivation) → HasDerivationText q d
    → IsWritableDerivation (length q.sources) d
derivation_writable q d h =
    let t = h.1 in
    subst (λ (n : ℕ). IsWritableDerivation n d) (count_names q.sources)
    (derivation_back (names_of q.sources) d t.spells.0 t.spells.1.spells t.spells.1
    (spelled_prefix (length h.0) h.0 t.tokens t.are t.spells.0 t.spells.2))
