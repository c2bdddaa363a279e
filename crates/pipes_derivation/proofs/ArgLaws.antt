-- What is read as an argument is in the grammar, and what is in the grammar is read.
use Rattle.std.proofs.Common.{◌≡◌, ◌≤◌, ◌<◌, ◌+◌, max, Bool, true, false, List, [], ◌∷◌, ◌++◌}
use Rattle.std.proofs.Common.{Option}
use Rattle.std.proofs.Common.{length, Some, None, pos, refl, sym, ap, subst, ◌∙◌, ◌⊎◌, inl, inr}
use Rattle.std.proofs.Common.{append_assoc, arith}
use Rattle.pipes_tuple.specs.declared.value.Value.TheVariants as value
use Rattle.pipes_token.specs.declared.refusal.Refusal.{Refusal}
use Rattle.pipes_token.specs.declared.token.Sign.TheVariants.{OpenList, CloseList}
use Rattle.pipes_token.specs.declared.keyword.Keyword.TheVariants as keyword
use Rattle.pipes_token.specs.declared.token.TokenKind.{TokenKind}
use Rattle.pipes_token.specs.declared.token.TokenKind.TheVariants.{Sign, Keyword, Number}
use Rattle.pipes_token.specs.declared.token.Token.{Token}
use Rattle.pipes_expr.specs.declared.expr.Expr.{Expr}
use Rattle.pipes_expr.specs.declared.expr.Expr.TheVariants as expr
use Rattle.pipes_expr.specs.ExprSize.{expr_depth}
use Rattle.pipes_reader.specs.Reading.{Reads, kinds_of, done_with, in_turn, tail_of, with_tail}
use Rattle.pipes_reader.specs.Reading.{optional}
use Rattle.pipes_reader.specs.Sentences.{Grammar, GrammarBefore, Anywhere, Begins, ahead, has_last}
use Rattle.pipes_reader.specs.Causes.{AreAlike, itself, two_numbers, two_names}
use Rattle.pipes_reader.specs.Places.{AtToken}
use Rattle.pipes_reader.specs.Places as token_place
use Rattle.pipes_reader.proofs.Causes.{IsSteady, steady_by}
use Rattle.pipes_reader.proofs.TokenLists.{both_unended, tokens_of, kinds-tokens}
use Rattle.pipes_reader.proofs.Readers.{IsReader, Then, both, ThenBefore, turn, Continues, IsFree}
use Rattle.pipes_reader.proofs.Readers.{ReadsSome, reads_in_turn, reworded, replaced}
use Rattle.pipes_reader.proofs.Singles.{Pure, pure, none_by, NotLast, Mapped, mapped}
use Rattle.pipes_reader.proofs.Singles.{MappedBefore, mapped_before, mapped_by, NotNext, Optional}
use Rattle.pipes_reader.proofs.Singles.{given, absent, OptionalBefore, given_before, absent_before}
use Rattle.pipes_reader.proofs.Singles.{optional_by, TailIs, TailBefore}
use Rattle.pipes_grammar.specs.Grammar.{IsExpr, AreEntries, IsFilled}
use Rattle.pipes_grammar.specs.Grammar as spoken
use Rattle.pipes_grammar.specs.Limits.{deepest, IsExprText, AreExprsText}
use Rattle.pipes_grammar.specs.Places.{IsExprPlace, IsExprsPlace, in_entry}
use Rattle.pipes_grammar.specs.Places as place
use Rattle.pipes_grammar.specs.ExprReading.{parse_expr}
use Rattle.pipes_grammar.specs.ListReading.{parse_exprs}
use Rattle.pipes_grammar.proofs.Depths.{expr_depth-Literal}
use Rattle.pipes_grammar.proofs.KitReaders.{expr_unended, reads_expr, reads_exprs}
use Rattle.pipes_rules.specs.declared.step.Arg.{Arg}
use Rattle.pipes_rules.specs.declared.step.Arg.TheVariants as arg
use Rattle.pipes_derivation.specs.Grammar.{IsGiven, IsArg}
use Rattle.pipes_derivation.specs.Grammar as grammar
use Rattle.pipes_derivation.specs.Limits.{IsArgWithin}
use Rattle.pipes_derivation.specs.Taking.{with_mark, is_list_mark}
use Rattle.pipes_derivation.specs.Reading.{read_one_expr, read_two_lists, read_exprs_given}
use Rattle.pipes_derivation.specs.Reading.{read_arg}
use Rattle.pipes_derivation.proofs.Choice.{FirstIs, OneOf, OneOfBefore, reads_either}

-- ---- readers whose refusals are placed as those of a list of expressions

pub moves_in : (prefix before : List Token) (t : Token) (r : Refusal) → IsExprsPlace before t r
    → IsExprsPlace (prefix ++ before) t r
moves_in prefix before t r (in_entry outside inside e p) =
    in_entry (prefix ++ outside) inside
    (ap (λ (z : List Token). prefix ++ z) e ∙ sym (append_assoc prefix outside inside)) p

expr_in : (before : List Token) (t : Token) (r : Refusal) → IsExprPlace before t r
    → IsExprsPlace before t r
expr_in before t r p = in_entry [] before refl p

pub token_in : (before : List Token) (t : Token) (r : Refusal) → AtToken before t r
    → IsExprsPlace before t r
token_in before t r (token_place.there e) = expr_in before t r (place.IsExprPlace.there e)
token_in before t r (token_place.inside e) = expr_in before t r (place.IsExprPlace.inside e)

pub turns_in : {A B : Type 0} (Is : Grammar A) (In : GrammarBefore A) (Next : A → Grammar B)
    (NextIn : A → GrammarBefore B) (read : Reads A) (next : A → Reads B)
    → IsReader Is In IsExprsPlace read
    → ((x : A) (ks : List TokenKind) → Is x ks
    → IsReader (Next x) (NextIn x) IsExprsPlace (next x))
    → ((x : A) (ks : List TokenKind) → Is x ks → Begins (Next x) []) → Continues In next
    → IsReader (Then Is Next) (ThenBefore In NextIn) IsExprsPlace (in_turn read next)
turns_in Is In Next NextIn read next one two some goes_on =
    reads_in_turn Is In Next NextIn IsExprsPlace (λ x. IsExprsPlace) IsExprsPlace read next one two
    some goes_on (λ before t r p. p) (λ x prefix before t r w p. moves_in prefix before t r p)
    (λ ts holds. tt) (λ x prefix us is holds. tt)

pub mapped_in : {A B : Type 0} (f : A → B) (Is : Grammar A) (In : GrammarBefore A)
    (read : Reads A) → IsReader Is In IsExprsPlace read
    → IsReader (Mapped f Is) (MappedBefore f In) IsExprsPlace (in_turn read (λ x. done_with (f x)))
mapped_in f Is In read reads =
    mapped_by f Is In IsExprsPlace read reads
    (turns_in Is In (λ x. Pure (f x)) (λ x. Anywhere (Pure (f x))) read (λ x. done_with (f x)) reads
    (λ x ks is. none_by IsExprsPlace (f x)) (λ x ks is. (f x, [], pure))
    (λ x ks h is. inr ([], f x, [], refl)))

-- a tail that the next token begins, or a value
module _ {A B : Type 0} (mark : TokenKind → Option A) (Tail : A → Grammar B)
    (In : A → GrammarBefore B) (tail : A → Reads B) (v : B) (last : NotLast mark)
    (steady : IsSteady mark) (reads : (x : A) → IsReader (Tail x) (In x) IsExprsPlace (tail x))
    (some : (x : A) → Begins (Tail x) []) where
  two : (o : Option A) → IsReader (TailIs Tail v o) (TailBefore In v o) IsExprsPlace
      (tail_of tail v o)
  two (Some x) = reads x
  two None = none_by IsExprsPlace v

  some_tail : (o : Option A) → Begins (TailIs Tail v o) []
  some_tail (Some x) = some x
  some_tail None = (v, [], pure)

  tail_on : (o : Option A) (ks : List TokenKind) (h : Option TokenKind)
      → OptionalBefore mark o ks h → IsFree (OptionalBefore mark) o ks
      ⊎ ReadsSome (tail_of tail v o)
  tail_on _ _ _ (given_before k x h is) = inl (λ j. given_before k x j is)
  tail_on _ _ _ (absent_before h is) = inr ([], v, [], refl)

  pub tail_in : IsReader (Then (Optional mark) (TailIs Tail v))
      (ThenBefore (OptionalBefore mark) (TailBefore In v)) IsExprsPlace (with_tail mark tail v)
  tail_in =
      turns_in (Optional mark) (OptionalBefore mark) (TailIs Tail v) (TailBefore In v)
      (optional mark) (tail_of tail v) (optional_by IsExprsPlace mark last steady)
      (λ o ks is. two o) (λ o ks is. some_tail o) tail_on

-- ---- one expression

abbrev one_expr : Expr → Arg
one_expr e = arg.OneExpr e

abbrev OneIs : Grammar Arg
OneIs = Mapped one_expr IsExpr

abbrev OneIn : GrammarBefore Arg
OneIn = MappedBefore one_expr (Anywhere IsExprText)

reads_one_expr : IsReader OneIs OneIn IsExprsPlace read_one_expr
unfolding read_one_expr
reads_one_expr =
    mapped_in one_expr IsExpr (Anywhere IsExprText) parse_expr
    (replaced IsExpr (Anywhere IsExprText) IsExprPlace IsExprsPlace parse_expr reads_expr expr_in)

-- ---- two lists

abbrev two_lists : List Expr → List Expr → Arg
two_lists es fs = arg.TwoLists es fs

abbrev TwoIs : Grammar Arg
TwoIs = Then (IsFilled IsExpr) (λ es. Mapped (two_lists es) (IsFilled IsExpr))

abbrev TwoIn : GrammarBefore Arg
TwoIn = ThenBefore (Anywhere AreExprsText)
    (λ es. MappedBefore (two_lists es) (Anywhere AreExprsText))

abbrev zero_expr : Expr
zero_expr = expr.Literal (value.Int (pos 0))

zero_is : IsExpr zero_expr (Number 0 ∷ [])
zero_is = spoken.IsExpr.number 0 (omega arith)

list_kinds : List TokenKind
list_kinds = Sign OpenList ∷ Number 0 ∷ Sign CloseList ∷ []

list_is : IsFilled IsExpr (zero_expr ∷ []) list_kinds
unfolding list_kinds
list_is = spoken.IsFilled.entries (zero_expr ∷ []) (Number 0 ∷ [])
    (spoken.AreEntries.last zero_expr (Number 0 ∷ []) zero_is)

list_text : AreExprsText (zero_expr ∷ []) list_kinds
list_text = record {
  spells = list_is;
  depth = omega (arith, expr_depth-Literal (value.Int (pos 0)));
  entries = omega arith;
}

some_list : (es : List Expr) → Begins (Mapped (two_lists es) (IsFilled IsExpr)) []
some_list es = (
  two_lists es (zero_expr ∷ []),
  list_kinds,
  mapped (zero_expr ∷ []) list_kinds list_is,
)

reads_two_lists : IsReader TwoIs TwoIn IsExprsPlace read_two_lists
unfolding read_two_lists
reads_two_lists =
    turns_in (IsFilled IsExpr) (Anywhere AreExprsText)
    (λ es. Mapped (two_lists es) (IsFilled IsExpr))
    (λ es. MappedBefore (two_lists es) (Anywhere AreExprsText)) parse_exprs
    (λ es. in_turn parse_exprs (λ fs. done_with (two_lists es fs))) reads_exprs
    (λ es ks is. mapped_in (two_lists es) (IsFilled IsExpr) (Anywhere AreExprsText) parse_exprs
    reads_exprs) (λ es ks is. some_list es) (λ es ks h is. inl (λ j. is))

-- ---- one or the other

mark_steady : (k j : TokenKind) → AreAlike k j → is_list_mark k ≡ is_list_mark j
mark_steady _ _ (itself k) = refl
mark_steady _ _ (two_numbers n m) = refl
mark_steady _ _ (two_names v w) = refl

first_expr : (e : Expr) (ks : List TokenKind) → IsExpr e ks → FirstIs is_list_mark false ks
first_expr _ _ (spoken.IsExpr.column i lt) = refl
first_expr _ _ (spoken.IsExpr.number i lt) = refl
first_expr _ _ (spoken.IsExpr.negative i le) = refl
first_expr _ _ (spoken.IsExpr.text t) = refl
first_expr _ _ spoken.IsExpr.truth = refl
first_expr _ _ spoken.IsExpr.falsehood = refl
first_expr _ _ (spoken.IsExpr.negated e es is) = refl
first_expr _ _ (spoken.IsExpr.pair k op d e ds es f is it) = refl

first_one : (a : Arg) (ks : List TokenKind) → OneIs a ks → FirstIs is_list_mark false ks
first_one _ _ (mapped e ks is) = first_expr e ks is

first_two : (a : Arg) (ks : List TokenKind) → TwoIs a ks → FirstIs is_list_mark true ks
first_two _ _ (both es _ _ ls (spoken.IsFilled.entries _ ks are) it) = refl

one_read : ReadsSome read_one_expr
one_read =
    let ks = Number 0 ∷ [] in
    let is : IsExprText zero_expr ks = record {
      spells = zero_is;
      depth = omega (arith, expr_depth-Literal (value.Int (pos 0)));
    } in (
      tokens_of ks ++ [],
      one_expr zero_expr,
      [],
      reads_one_expr.only (one_expr zero_expr) (tokens_of ks) []
          (subst (λ (z : List TokenKind). OneIn (one_expr zero_expr) z None) (sym (kinds-tokens ks))
          (mapped_before zero_expr ks None is)),
    )

two_read : ReadsSome read_two_lists
two_read =
    let es = zero_expr ∷ [] in
    let ks = list_kinds ++ list_kinds in (
      tokens_of ks ++ [],
      two_lists es es,
      [],
      reads_two_lists.only (two_lists es es) (tokens_of ks) []
          (subst (λ (z : List TokenKind). TwoIn (two_lists es es) z None) (sym (kinds-tokens ks))
          (turn es (two_lists es es) list_kinds list_kinds None list_text
          (mapped_before es list_kinds None list_text))),
    )

abbrev pub GivenIn : GrammarBefore Arg
GivenIn a ks h = IsGiven a ks × IsArgWithin a

given_to : (a : Arg) (ks : List TokenKind) → OneOf TwoIs OneIs a ks → IsGiven a ks
given_to _ _ (inl (both es _ ks _ is (mapped fs ls it))) = grammar.IsGiven.lists es fs ks ls is it
given_to _ _ (inr (mapped e ks is)) = grammar.IsGiven.expr e ks is

given_unended : (a : Arg) (ks : List TokenKind) → IsGiven a ks → has_last ks ≡ false
given_unended _ _ (grammar.IsGiven.expr e ks is) = expr_unended e ks is
given_unended _ _ (grammar.IsGiven.lists es fs ks ls is it) =
    both_unended ks ls (reads_exprs.unended es ks is) (reads_exprs.unended fs ls it)

given_within : (a : Arg) (ks : List TokenKind) (h : Option TokenKind)
    → OneOfBefore TwoIn OneIn a ks h → GivenIn a ks h
given_within _ _ _ (inl (turn es _ ks _ _ is (mapped_before fs ls h it))) = (
  grammar.IsGiven.lists es fs ks ls is.spells it.spells,
  ((is.depth, is.entries), (it.depth, it.entries)),
)
given_within _ _ _ (inr (mapped_before e ks h is)) = (
  grammar.IsGiven.expr e ks is.spells,
  is.depth,
)

given_back : (a : Arg) (ks : List TokenKind) (h : Option TokenKind) → IsGiven a ks → IsArgWithin a
    → OneOfBefore TwoIn OneIn a ks h
given_back _ _ h (grammar.IsGiven.expr e ks is) w =
    inr (mapped_before e ks h (record { spells = is; depth = w }))
given_back _ _ h (grammar.IsGiven.lists es fs ks ls is it) w =
    inl (turn es (two_lists es fs) ks ls h
    (record { spells = is; depth = w.0.0; entries = w.0.1 })
    (mapped_before fs ls h (record { spells = it; depth = w.1.0; entries = w.1.1 })))

reads_given : IsReader IsGiven GivenIn IsExprsPlace read_exprs_given
unfolding read_exprs_given
reads_given =
    reworded (OneOf TwoIs OneIs) IsGiven (OneOfBefore TwoIn OneIn) GivenIn IsExprsPlace
    read_exprs_given
    (reads_either is_list_mark TwoIs OneIs TwoIn OneIn IsExprsPlace read_two_lists read_one_expr
    mark_steady reads_two_lists reads_one_expr first_two first_one two_read one_read)
    given_to given_unended given_within (λ a ks h is. given_back a ks h is.0 is.1)

some_given : Begins IsGiven []
some_given = (
  one_expr zero_expr,
  Number 0 ∷ [],
  grammar.IsGiven.expr zero_expr (Number 0 ∷ []) zero_is,
)

-- ---- an argument, or none

pub with_not_last : NotLast with_mark
with_not_last (Keyword keyword.With) x e = refl
with_not_last _ x e = absurd cc

pub with_steady : IsSteady with_mark
with_steady = steady_by with_mark (λ n m e. refl) (λ v w e. refl)

with_is : (k : TokenKind) (x : Unit {0}) → with_mark k ≡ Some x → k ≡ Keyword keyword.With
with_is (Keyword keyword.With) x e = refl
with_is _ x e = absurd cc

abbrev nothing : Arg
nothing = arg.Nothing

-- where nothing is given, nothing that would be is next
abbrev pub ArgBefore : Arg → Option TokenKind → Type 0
ArgBefore arg.Nothing h = NotNext with_mark h
ArgBefore (arg.OneExpr e) h = Unit {0}
ArgBefore (arg.TwoLists es fs) h = Unit {0}

abbrev pub ArgIn : GrammarBefore Arg
ArgIn a ks h = (IsArg a ks × IsArgWithin a) × ArgBefore a h

abbrev ArgTurns : Grammar Arg
ArgTurns = Then (Optional with_mark) (TailIs (λ (x : Unit {0}). IsGiven) nothing)

abbrev ArgTurnsIn : GrammarBefore Arg
ArgTurnsIn = ThenBefore (OptionalBefore with_mark)
    (TailBefore (λ (x : Unit {0}). GivenIn) nothing)

given_arg : (a : Arg) (ks : List TokenKind) (k : TokenKind) (x : Unit {0})
    → with_mark k ≡ Some x → IsGiven a ks → IsArg a (k ∷ ks)
given_arg a ks k x e is =
    subst (λ (z : TokenKind). IsArg a (z ∷ ks)) (sym (with_is k x e))
    (grammar.IsArg.given a ks is)

given_before_all : (a : Arg) (ks : List TokenKind) (h : Option TokenKind) → IsGiven a ks
    → ArgBefore a h
given_before_all _ _ h (grammar.IsGiven.expr e ks is) = tt
given_before_all _ _ h (grammar.IsGiven.lists es fs ks ls is it) = tt

arg_to : (a : Arg) (ks : List TokenKind) → ArgTurns a ks → IsArg a ks
arg_to _ _ (both _ a _ ks (given k x e) is) = given_arg a ks k x e is
arg_to _ _ (both _ _ _ _ absent pure) = grammar.IsArg.nothing

pub arg_unended : (a : Arg) (ks : List TokenKind) → IsArg a ks → has_last ks ≡ false
arg_unended _ _ grammar.IsArg.nothing = refl
arg_unended _ _ (grammar.IsArg.given a ks is) = given_unended a ks is

arg_within : (a : Arg) (ks : List TokenKind) (h : Option TokenKind) → ArgTurnsIn a ks h
    → ArgIn a ks h
arg_within _ _ _ (turn _ a _ ks h (given_before k x _ e) is) =
    ((given_arg a ks k x e is.0, is.1), given_before_all a ks h is.0)
arg_within _ _ _ (turn _ _ _ _ h (absent_before _ next) pure) =
    ((grammar.IsArg.nothing, tt), next)

arg_back : (a : Arg) (ks : List TokenKind) (h : Option TokenKind) → IsArg a ks → IsArgWithin a
    → ArgBefore a h → ArgTurnsIn a ks h
arg_back _ _ h grammar.IsArg.nothing w next =
    turn None nothing [] [] h (absent_before h next) pure
arg_back _ _ h (grammar.IsArg.given a ks is) w next =
    turn (Some tt) a (Keyword keyword.With ∷ []) ks h
    (given_before (Keyword keyword.With) tt (ahead ks h) refl) (is, w)

pub some_arg : Begins IsArg []
some_arg = (nothing, [], grammar.IsArg.nothing)

pub reads_arg : IsReader IsArg ArgIn IsExprsPlace read_arg
unfolding read_arg
reads_arg =
    reworded ArgTurns IsArg ArgTurnsIn ArgIn IsExprsPlace read_arg
    (tail_in with_mark (λ x. IsGiven) (λ x. GivenIn) (λ x. read_exprs_given) nothing with_not_last
    with_steady (λ x. reads_given) (λ x. some_given))
    arg_to arg_unended arg_within (λ a ks h is. arg_back a ks h is.0.0 is.0.1 is.1)

-- nothing more is read where nothing is left
pub arg_read : ReadsSome read_arg
arg_read = ([], nothing, [], reads_arg.only nothing [] [] ((grammar.IsArg.nothing, tt), tt))
