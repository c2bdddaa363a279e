-- What is read as columns is in the grammar, and what is in the grammar is read.
use Rattle.std.proofs.Common.{◌≡◌, ℕ, zero, suc, ◌+◌, ◌<◌, ◌≤◌, Bool, true, false, List, [], ◌∷◌}
use Rattle.std.proofs.Common.{◌++◌}
use Rattle.std.proofs.Common.{length, Option, Some, None, Ok, refl, sym, ap, subst, ◌∙◌}
use Rattle.std.proofs.Common.{append_assoc, inl, arith, length-append}
use Rattle.std.proofs.lemmas.List.{append-nil}
use Rattle.pipes_token.specs.declared.token.Sign.TheVariants.{Close, Comma}
use Rattle.pipes_token.specs.declared.keyword.Keyword.TheVariants as keyword
use Rattle.pipes_token.specs.declared.token.TokenKind.{TokenKind}
use Rattle.pipes_token.specs.declared.token.TokenKind.TheVariants.{Sign, Keyword, Name}
use Rattle.pipes_token.specs.declared.token.Token.{Token}
use Rattle.pipes_tuple.specs.declared.value.Kind.{Kind}
use Rattle.pipes_tuple.specs.declared.value.Kind.TheVariants as kind
use Rattle.pipes_token.specs.Tokens.{is_last}
use Rattle.pipes_reader.specs.Names.{is_taken, AreNew}
use Rattle.pipes_reader.specs.Reading.{in_turn, done_with}
use Rattle.pipes_reader.specs.Sentences.{Grammar, GrammarBefore, Anywhere, Begins, has_last}
use Rattle.pipes_reader.specs.Places.{AtToken}
use Rattle.pipes_reader.specs.Taking.{take_name}
use Rattle.pipes_reader.proofs.Fresh.{fresh}
use Rattle.pipes_reader.proofs.Readers.{IsReader, IsReaderIf, under, Then, both, ThenBefore}
use Rattle.pipes_reader.proofs.Readers.{turn, turns, reworded}
use Rattle.pipes_reader.proofs.TokenLists.{both_unended}
use Rattle.pipes_reader.proofs.Repeats.{Many, last_step, more_steps, ManyBefore, over, last_before}
use Rattle.pipes_reader.proofs.Repeats.{more_before, many_unended, reads_fitting}
use Rattle.pipes_reader.proofs.Singles.{One, one, Mapped, mapped, MappedBefore, mapped_before}
use Rattle.pipes_reader.proofs.Singles.{reads_mapped, Nothing, reads_too_many}
use Rattle.pipes_reader.proofs.Values.{name_value, name_is, name_new, reads_name}
use Rattle.pipes_text.specs.Grammar.{word_of, kind_of_token, IsColumn, column, AreColumns, last}
use Rattle.pipes_text.specs.Grammar.{more}
use Rattle.pipes_text.specs.Taking.{comma_of}
use Rattle.pipes_text.specs.Reading.{Columns, with_column, read_kind, read_comma, read_column}
use Rattle.pipes_text.specs.Reading.{one_too_many, read_columns}
use Rattle.pipes_text.proofs.Tokens.{word_not_last, word_is, word_steady, kind_not_last}
use Rattle.pipes_text.proofs.Tokens.{reads_kind, reads_comma, comma_is, close_is}

-- ---- a column, and whether another follows

abbrev stepped : Columns → List ℕ → Kind → Bool → Columns × Bool
stepped columns name sort goes = (with_column columns name sort, goes)

abbrev KindIs : Columns → List ℕ → Grammar (Columns × Bool)
KindIs columns name = Then (One kind_of_token) (λ sort. Mapped (stepped columns name sort)
    (One comma_of))

abbrev KindIn : Columns → List ℕ → GrammarBefore (Columns × Bool)
KindIn columns name =
    ThenBefore (Anywhere (One kind_of_token))
    (λ sort. MappedBefore (stepped columns name sort) (Anywhere (One comma_of)))

abbrev pub ColumnIs : Columns → Grammar (Columns × Bool)
ColumnIs columns = Then (One (name_value word_of columns.0)) (KindIs columns)

abbrev pub ColumnIn : Columns → GrammarBefore (Columns × Bool)
ColumnIn columns = ThenBefore (Anywhere (One (name_value word_of columns.0))) (KindIn columns)

some_comma : (columns : Columns) (name : List ℕ) (sort : Kind)
    → Begins (Mapped (stepped columns name sort) (One comma_of)) []
some_comma columns name sort = (
  stepped columns name sort false,
  Sign Close ∷ [],
  mapped false (Sign Close ∷ []) (one (Sign Close) false refl),
)

some_kind : (columns : Columns) (name : List ℕ) → Begins (KindIs columns name) []
some_kind columns name =
    let c = some_comma columns name kind.Int in (
      c.0,
      Keyword keyword.Int ∷ c.1,
      both kind.Int c.0 (Keyword keyword.Int ∷ []) c.1
          (one (Keyword keyword.Int) kind.Int refl) c.2,
    )

reads_sort : (columns : Columns) (name : List ℕ)
    → IsReader (KindIs columns name) (KindIn columns name) AtToken
    (in_turn read_kind
    (λ sort. in_turn read_comma (λ goes. done_with (stepped columns name sort goes))))
reads_sort columns name =
    turns (One kind_of_token) (One kind_of_token)
    (λ sort. Mapped (stepped columns name sort) (One comma_of))
    (λ sort. MappedBefore (stepped columns name sort) (Anywhere (One comma_of))) read_kind
    (λ sort. in_turn read_comma (λ goes. done_with (stepped columns name sort goes))) reads_kind
    (λ sort ks is. reads_mapped (stepped columns name sort) (One comma_of)
    (Anywhere (One comma_of)) read_comma reads_comma)
    (λ sort ks is. some_comma columns name sort)

reads_column : (columns : Columns)
    → IsReaderIf (λ ts. length columns.0 < 64) (ColumnIs columns) (ColumnIn columns) AtToken
    (read_column columns)
unfolding read_column
reads_column columns =
    turns (One (name_value word_of columns.0)) (One (name_value word_of columns.0))
    (KindIs columns) (KindIn columns) (take_name word_of columns.0)
    (λ name. in_turn read_kind
    (λ sort. in_turn read_comma (λ goes. done_with (stepped columns name sort goes))))
    (reads_name word_of columns.0 (λ w. refl) word_not_last word_is word_steady)
    (λ name ks is. reads_sort columns name) (λ name ks is. some_kind columns name)

-- ---- several columns

-- so many columns beside others, as a bound allows, and the end of them
pub record More (bound : ℕ → Type 0) (columns all : Columns) (ks : List TokenKind) : Type 0 where
  pub names : List (List ℕ)
  pub sorts : List Kind
  pub cs : List TokenKind
  pub are : AreColumns names sorts cs
  pub new : AreNew columns.0 names
  pub short : bound (length names)
  pub all_is : all ≡ (columns.0 ++ names, columns.1 ++ sorts)
  pub ks_is : ks ≡ cs ++ (Sign Close ∷ [])

abbrev pub any : ℕ → Type 0
any n = Unit {0}

abbrev pub at_most : ℕ → ℕ → Type 0
at_most left n = n ≤ left

abbrev beside : List (List ℕ) → List Kind → Columns
beside names sorts = (names, sorts)

pairs : {a b : List (List ℕ)} {d e : List Kind} → a ≡ b → d ≡ e → beside a d ≡ beside b e
pairs {a} {b} {d} {e} p q =
    ap (λ (x : List (List ℕ)). beside x d) p ∙ ap (λ (y : List Kind). beside b y) q

-- one more column before others
pub added : (bound next : ℕ → Type 0) → ((n : ℕ) → next n → bound (suc n)) → (columns all : Columns)
    (name : List ℕ) (sort : Kind) (w k c : TokenKind) (ls : List TokenKind)
    → name_value word_of columns.0 w ≡ Some name → kind_of_token k ≡ Some sort
    → comma_of c ≡ Some true
    → More next (with_column columns name sort) all ls → More bound columns all (w ∷ k ∷ c ∷ ls)
added bound next step columns all name sort w k c ls e f g m =
    let n = name_is columns.0 (word_of w) name e in
    record {
      names = name ∷ m.names;
      sorts = sort ∷ m.sorts;
      cs = w ∷ k ∷ Sign Comma ∷ m.cs;
      are = more name sort m.names m.sorts (w ∷ k ∷ []) m.cs (column name sort w k n.0 f) m.are;
      new = (n.1, m.new);
      short = step (length m.names) m.short;
      all_is = m.all_is
          ∙ pairs (append_assoc columns.0 (name ∷ []) m.names)
          (append_assoc columns.1 (sort ∷ []) m.sorts);
      ks_is = ap (λ (z : TokenKind). w ∷ k ∷ z ∷ ls) (comma_is c g)
          ∙ ap (λ (z : List TokenKind). w ∷ k ∷ Sign Comma ∷ z) m.ks_is;
    }

-- the last column
pub ended_by : (bound : ℕ → Type 0) → bound 1 → (columns : Columns) (name : List ℕ) (sort : Kind)
    (w k c : TokenKind) → name_value word_of columns.0 w ≡ Some name → kind_of_token k ≡ Some sort
    → comma_of c ≡ Some false → More bound columns (with_column columns name sort) (w ∷ k ∷ c ∷ [])
ended_by bound least columns name sort w k c e f g =
    let n = name_is columns.0 (word_of w) name e in
    record {
      names = name ∷ [];
      sorts = sort ∷ [];
      cs = w ∷ k ∷ [];
      are = last name sort (w ∷ k ∷ []) (column name sort w k n.0 f);
      new = (n.1, tt);
      short = least;
      all_is = refl;
      ks_is = ap (λ (z : TokenKind). w ∷ k ∷ z ∷ []) (close_is c g);
    }

-- a step by its three tokens
pub record StepOf (columns : Columns) (o : Columns × Bool) (ks : List TokenKind) : Type 0 where
  pub name : List ℕ
  pub sort : Kind
  pub goes : Bool
  pub w : TokenKind
  pub k : TokenKind
  pub c : TokenKind
  pub name_of : name_value word_of columns.0 w ≡ Some name
  pub sort_of : kind_of_token k ≡ Some sort
  pub goes_of : comma_of c ≡ Some goes
  pub value : o ≡ stepped columns name sort goes
  pub tokens : ks ≡ w ∷ k ∷ c ∷ []

step_of : (columns : Columns) (o : Columns × Bool) (ks : List TokenKind) → ColumnIs columns o ks
    → StepOf columns o ks
step_of columns _ _
    (both name _ _ _ (one w _ e) (both sort _ _ _ (one k _ f) (mapped goes _ (one c _ g)))) =
    record {
      name = name;
      sort = sort;
      goes = goes;
      w = w;
      k = k;
      c = c;
      name_of = e;
      sort_of = f;
      goes_of = g;
      value = refl;
      tokens = refl;
    }

step_in : (columns : Columns) (o : Columns × Bool) (ks : List TokenKind) (h : Option TokenKind)
    → ColumnIn columns o ks h → StepOf columns o ks
step_in columns _ _ _
    (turn name _ _ _ _ (one w _ e)
    (turn sort _ _ _ _ (one k _ f) (mapped_before goes _ _ (one c _ g)))) = record {
      name = name;
      sort = sort;
      goes = goes;
      w = w;
      k = k;
      c = c;
      name_of = e;
      sort_of = f;
      goes_of = g;
      value = refl;
      tokens = refl;
    }

-- whatever follows a step
free_step : (columns : Columns) (o : Columns × Bool) (ks : List TokenKind) (h j : Option TokenKind)
    → ColumnIn columns o ks h → ColumnIn columns o ks j
free_step columns _ _ _ j
    (turn name _ _ _ _ (one w _ e)
    (turn sort _ _ _ _ (one k _ f) (mapped_before goes _ _ (one c _ g)))) =
    turn name (stepped columns name sort goes) (w ∷ []) (k ∷ c ∷ []) j (one w name e)
    (turn sort (stepped columns name sort goes) (k ∷ []) (c ∷ []) j (one k sort f)
    (mapped_before goes (c ∷ []) j (one c goes g)))

goes_on : (bound next : ℕ → Type 0) → ((n : ℕ) → next n → bound (suc n))
    → (columns c2 all : Columns)
    (ks ls : List TokenKind) → StepOf columns (c2, true) ks → More next c2 all ls
    → More bound columns all (ks ++ ls)
goes_on bound next step columns c2 all ks ls s m =
    let same : c2 ≡ with_column columns s.name s.sort = ap (λ (p : Columns × Bool). p.0) s.value in
    let true_is : true ≡ s.goes = ap (λ (p : Columns × Bool). p.1) s.value in
    subst (λ (z : List TokenKind). More bound columns all (z ++ ls)) (sym s.tokens)
    (added bound next step columns all s.name s.sort s.w s.k s.c ls s.name_of s.sort_of
    (s.goes_of ∙ ap (λ (b : Bool). Some b) (sym true_is))
    (subst (λ (z : Columns). More next z all ls) same m))

stops : (bound : ℕ → Type 0) → bound 1 → (columns c2 : Columns) (ks : List TokenKind)
    → StepOf columns (c2, false) ks → More bound columns c2 ks
stops bound least columns c2 ks s =
    let same : c2 ≡ with_column columns s.name s.sort = ap (λ (p : Columns × Bool). p.0) s.value in
    let false_is : false ≡ s.goes = ap (λ (p : Columns × Bool). p.1) s.value in
    subst (λ (z : Columns). More bound columns z ks) (sym same)
    (subst (λ (z : List TokenKind). More bound columns (with_column columns s.name s.sort) z)
    (sym s.tokens)
    (ended_by bound least columns s.name s.sort s.w s.k s.c s.name_of s.sort_of
    (s.goes_of ∙ ap (λ (b : Bool). Some b) (sym false_is))))

gathered : (columns all : Columns) (ks : List TokenKind) → Many ColumnIs columns all ks
    → More any columns all ks
gathered _ _ _ (last_step columns c2 ks is) =
    stops any tt columns c2 ks (step_of columns (c2, false) ks is)
gathered _ _ _ (more_steps columns c2 all ks ls is rest) =
    goes_on any any (λ n h. tt) columns c2 all ks ls (step_of columns (c2, true) ks is)
    (gathered c2 all ls rest)

within : (left : ℕ) (columns all : Columns) (ks : List TokenKind) (h : Option TokenKind)
    → ManyBefore ColumnIn (λ c. Nothing) left columns all ks h → More (at_most left) columns all ks
within _ _ _ _ _ (over columns all ks h is) = absurd is
within _ _ _ _ _ (last_before left columns c2 ks h is) =
    stops (at_most (suc left)) (omega arith) columns c2 ks (step_in columns (c2, false) ks h is)
within _ _ _ _ _ (more_before left columns c2 all ks ls h is rest) =
    goes_on (at_most (suc left)) (at_most left) (λ n h. omega (arith, h)) columns c2 all ks ls
    (step_in columns (c2, true) ks _ is) (within left c2 all ls h rest)

-- the columns one by one
taken : (columns : Columns) (name : List ℕ) (sort : Kind) (ks : List TokenKind) (goes : Bool)
    (c : TokenKind)
    (h : Option TokenKind) → IsColumn name sort ks → is_taken columns.0 name ≡ false
    → comma_of c ≡ Some goes
    → ColumnIn columns (stepped columns name sort goes) (ks ++ (c ∷ [])) h
taken columns _ _ _ goes c h (column name sort word kind e f) new g =
    turn name (stepped columns name sort goes) (word ∷ []) (kind ∷ c ∷ []) h
    (one word name (name_new columns.0 (word_of word) name e new))
    (turn sort (stepped columns name sort goes) (kind ∷ []) (c ∷ []) h (one kind sort f)
    (mapped_before goes (c ∷ []) h (one c goes g)))

none_left : (names : List (List ℕ)) (sorts : List Kind) (cs : List TokenKind)
    → AreColumns names sorts cs
    → 1 ≤ length names
none_left _ _ _ (last name sort cs is) = omega arith
none_left _ _ _ (more name sort names sorts cs ls is are) = omega arith

apart : (left : ℕ) (columns all : Columns) (h : Option TokenKind) (names : List (List ℕ))
    (sorts : List Kind)
    (cs : List TokenKind) → AreColumns names sorts cs → AreNew columns.0 names → length names ≤ left
    → all ≡ beside (columns.0 ++ names) (columns.1 ++ sorts)
    → ManyBefore ColumnIn (λ c. Nothing) left columns all (cs ++ (Sign Close ∷ [])) h
apart zero columns all h names sorts cs are new short e =
    absurd (omega (arith, none_left names sorts cs are, short))
apart (suc left) columns all h _ _ _ (last name sort cs is) new short e =
    subst (λ (z : Columns). ManyBefore ColumnIn (λ c. Nothing) (suc left) columns z
    (cs ++ (Sign Close ∷ [])) h) (sym e)
    (last_before left columns (with_column columns name sort) (cs ++ (Sign Close ∷ [])) h
    (taken columns name sort cs false (Sign Close) h is new.0 refl))
apart (suc left) columns all h _ _ _ (more name sort names sorts cs ls is are) new short e =
    let rest = apart left (with_column columns name sort) all h names sorts ls are new.1
    (omega (arith, short))
    (e ∙ pairs (sym (append_assoc columns.0 (name ∷ []) names))
    (sym (append_assoc columns.1 (sort ∷ []) sorts))) in
    subst (λ (z : List TokenKind). ManyBefore ColumnIn (λ c. Nothing) (suc left) columns all z h)
    (append_assoc cs (Sign Comma ∷ []) (ls ++ (Sign Close ∷ []))
    ∙ sym (append_assoc cs (Sign Comma ∷ ls) (Sign Close ∷ [])))
    (more_before left columns (with_column columns name sort) all (cs ++ (Sign Comma ∷ []))
    (ls ++ (Sign Close ∷ [])) h (taken columns name sort cs true (Sign Comma) _ is new.0 refl) rest)

-- ---- their reader

pub some_more : (columns : Columns) → Begins (Many ColumnIs columns) []
unfolding some_kind some_comma
some_more columns = by (fresh columns.0)
  where
    by : (w : List ℕ) × (is_taken columns.0 w ≡ false) → Begins (Many ColumnIs columns) []
    by (w, new) =
        let name = one (Name w) w (name_new columns.0 (Some w) w refl new) in
        let k = some_kind columns w in (
          with_column columns w kind.Int,
          Name w ∷ k.1,
          last_step columns (with_column columns w kind.Int) (Name w ∷ k.1)
              (both w k.0 (Name w ∷ []) k.1 name k.2),
        )

two_unended : (k l : TokenKind) → is_last k ≡ false → is_last l ≡ false
    → has_last (k ∷ l ∷ []) ≡ false
two_unended k l e f = rw (e, f) refl

pub columns_unended : (names : List (List ℕ)) (sorts : List Kind) (ks : List TokenKind)
    → AreColumns names sorts ks → has_last ks ≡ false
columns_unended _ _ _ (last _ _ _ (column name sort w k e f)) =
    two_unended w k (word_not_last w name e) (kind_not_last k sort f)
columns_unended _ _ _ (more _ _ names sorts _ ls (column name sort w k e f) are) =
    both_unended (w ∷ k ∷ []) (Sign Comma ∷ ls)
    (two_unended w k (word_not_last w name e) (kind_not_last k sort f))
    (columns_unended names sorts ls are)

more_unended : (columns all : Columns) (ks : List TokenKind) → More any columns all ks
    → has_last ks ≡ false
more_unended columns all ks m =
    ap (λ (z : List TokenKind). has_last z) m.ks_is
    ∙ both_unended m.cs (Sign Close ∷ []) (columns_unended m.names m.sorts m.cs m.are) refl

abbrev pub no_columns : Columns
no_columns = ([], [])

-- with so many columns left, another name is left too
abbrev Fits : ℕ → Columns → Type 0
Fits left columns = length columns.0 + left < 64

one_fits : (left : ℕ) (columns c2 : Columns) (ks : List TokenKind) (h : Option TokenKind)
    → ColumnIn columns (c2, true) ks h → Fits (suc left) columns → Fits left c2
one_fits left columns c2 ks h is fits =
    let s = step_in columns (c2, true) ks h is in
    omega (
      arith,
      fits,
      ap (λ (p : Columns × Bool). length p.0.0) s.value,
      length-append columns.0 (s.name ∷ []),
    )

pub reads_columns : IsReader (More any no_columns)
    (Anywhere (More (at_most 32) no_columns)) AtToken read_columns
unfolding read_columns
reads_columns =
    reworded (Many ColumnIs no_columns) (More any no_columns)
    (ManyBefore ColumnIn (λ c. Nothing) 32 no_columns)
    (Anywhere (More (at_most 32) no_columns)) AtToken read_columns
    (under (λ ts u. omega arith)
    (reads_fitting ColumnIs ColumnIn (λ c. Nothing) read_column one_too_many
    (λ c. length c.0 < 64) Fits reads_column
    (λ c. reads_too_many (Many ColumnIs c) (some_more c)
    (many_unended ColumnIs (λ d o ks is. (reads_column d).unended o ks is) c) (one_too_many c)
    (λ ts. refl))
    some_more (λ left c c2 ks h is. inl (λ j. free_step c (c2, true) ks h j is))
    (λ left c fits. omega (arith, fits)) one_fits 32 no_columns))
    (gathered no_columns) (more_unended no_columns) (within 32 no_columns)
    (λ all ks h m. subst
    (λ (z : List TokenKind). ManyBefore ColumnIn (λ c. Nothing) 32 no_columns all z h)
    (sym m.ks_is) (apart 32 no_columns all h m.names m.sorts m.cs m.are m.new m.short m.all_is))

-- ---- how many there are

same_lengths : (names : List (List ℕ)) (sorts : List Kind) (cs : List TokenKind)
    → AreColumns names sorts cs
    → length names ≡ length sorts
same_lengths _ _ _ (last name sort cs is) = refl
same_lengths _ _ _ (more name sort names sorts cs ls is are) =
    ap (λ (n : ℕ). suc n) (same_lengths names sorts ls are)

pub names_fit : (ts rest : List Token) (all : Columns) → read_columns ts ≡ Ok (all, rest)
    → length all.0 ≤ 32
names_fit ts rest all e =
    let m = (reads_columns.found ts all rest e).1 in
    omega (arith, m.short, ap (λ (c : Columns). length c.0) m.all_is)

pub kinds_fit : (ts rest : List Token) (all : Columns) → read_columns ts ≡ Ok (all, rest)
    → (1 ≤ length all.1) × (length all.1 ≤ 32)
kinds_fit ts rest all e =
    let m = (reads_columns.found ts all rest e).1 in
    let same : length all.1 ≡ length m.sorts = ap (λ (c : Columns). length c.1) m.all_is in
    let equal = same_lengths m.names m.sorts m.cs m.are in (
      omega (arith, none_left m.names m.sorts m.cs m.are, same, equal),
      omega (arith, m.short, same, equal),
    )
