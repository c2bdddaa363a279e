-- What is read as a path is in the grammar, and what is in the grammar is read.
use Rattle.std.proofs.Common.{◌≡◌, ℕ, zero, suc, ◌≤◌, Bool, true, false, List, [], ◌∷◌, ◌++◌}
use Rattle.std.proofs.Common.{length, Option, Some, None, Ok, refl, sym, ap, subst, ◌∙◌}
use Rattle.std.proofs.Common.{append_assoc, inl, inr, arith}
use Rattle.std.proofs.lemmas.List.{append-nil}
use Rattle.pipes_token.specs.declared.token.Sign.TheVariants.{Point}
use Rattle.pipes_token.specs.declared.token.Sign.TheVariants as sign
use Rattle.pipes_token.specs.declared.keyword.Keyword.TheVariants as keyword
use Rattle.pipes_token.specs.declared.token.TokenKind.{TokenKind}
use Rattle.pipes_token.specs.declared.token.TokenKind.TheVariants.{Sign, Keyword, Name, Number}
use Rattle.pipes_token.specs.declared.token.Token.{Token}
use Rattle.pipes_token.specs.Tokens.{is_last}
use Rattle.pipes_reader.specs.Reading.{refused_by, take_by, done_with, in_turn}
use Rattle.pipes_reader.specs.Sentences.{Grammar, GrammarBefore, Anywhere, Begins, ahead, has_last}
use Rattle.pipes_reader.specs.Causes.{AreAlike, itself, two_numbers, two_names}
use Rattle.pipes_reader.specs.Places.{AtToken}
use Rattle.pipes_reader.specs.Taking.{number_between, take_number}
use Rattle.pipes_reader.proofs.Causes.{IsSteady, steady_by}
use Rattle.pipes_reader.proofs.TokenLists.{tokens_of, kinds-tokens}
use Rattle.pipes_reader.proofs.Readers.{IsReader, Then, both, ThenBefore, turn, turns, IsFree}
use Rattle.pipes_reader.proofs.Readers.{ReadsSome, reworded}
use Rattle.pipes_reader.proofs.Repeats.{Many, last_step, more_steps, ManyBefore, over, last_before}
use Rattle.pipes_reader.proofs.Repeats.{more_before, many_unended, StepsOn, reads_many}
use Rattle.pipes_reader.proofs.Singles.{Pure, pure, reads_none, One, one, NotLast, reads_plain}
use Rattle.pipes_reader.proofs.Singles.{Mapped, mapped, MappedBefore, mapped_before, reads_mapped}
use Rattle.pipes_reader.proofs.Singles.{NotNext, Optional, given, absent, OptionalBefore}
use Rattle.pipes_reader.proofs.Singles.{given_before, absent_before, TailIs, TailBefore, reads_tail}
use Rattle.pipes_reader.proofs.Singles.{Nothing, reads_too_many}
use Rattle.pipes_reader.proofs.Values.{number_is, number_of, reads_number}
use Rattle.pipes_derivation.specs.Grammar.{AreChildren, IsPath}
use Rattle.pipes_derivation.specs.Grammar as grammar
use Rattle.pipes_derivation.specs.Taking.{top_mark, is_top, point_mark}
use Rattle.pipes_derivation.specs.Reading.{and_child, read_point, read_child, child_too_many}
use Rattle.pipes_derivation.specs.Reading.{read_children, read_top_word, read_path}
use Rattle.pipes_derivation.proofs.Choice.{FirstIs, OneOf, OneOfBefore, reads_either}

-- ---- the point

pub point_not_last : NotLast point_mark
point_not_last (Sign sign.Point) x e = refl
point_not_last _ x e = absurd cc

pub point_steady : IsSteady point_mark
point_steady = steady_by point_mark (λ n m e. refl) (λ v w e. refl)

point_is : (k : TokenKind) (x : Unit {0}) → point_mark k ≡ Some x → k ≡ Sign Point
point_is (Sign sign.Point) x e = refl
point_is _ x e = absurd cc

-- ---- a child, and whether another follows

abbrev bits : TokenKind → Option ℕ
bits = number_between 0 1

abbrev going : List ℕ → List ℕ × Bool
going path = (path, true)

abbrev staying : List ℕ → List ℕ × Bool
staying path = (path, false)

abbrev PointIs : List ℕ → Grammar (List ℕ × Bool)
PointIs path = Then (Optional point_mark) (TailIs (λ (x : Unit {0}). Pure (going path))
    (staying path))

abbrev PointIn : List ℕ → GrammarBefore (List ℕ × Bool)
PointIn path = ThenBefore (OptionalBefore point_mark)
    (TailBefore (λ (x : Unit {0}). Anywhere (Pure (going path))) (staying path))

reads_point : (path : List ℕ) → IsReader (PointIs path) (PointIn path) AtToken (read_point path)
reads_point path =
    reads_tail point_mark (λ (x : Unit {0}). Pure (going path))
    (λ (x : Unit {0}). Anywhere (Pure (going path))) (λ x. done_with (going path)) (staying path)
    point_not_last point_steady (λ x. reads_none (going path)) (λ x. (going path, [], pure))

some_point : (path : List ℕ) → Begins (PointIs path) []
some_point path = (staying path, [], both None (staying path) [] [] absent pure)

abbrev ChildIs : List ℕ → Grammar (List ℕ × Bool)
ChildIs path = Then (One bits) (λ n. PointIs (and_child path n))

abbrev ChildIn : List ℕ → GrammarBefore (List ℕ × Bool)
ChildIn path = ThenBefore (Anywhere (One bits)) (λ n. PointIn (and_child path n))

reads_child : (path : List ℕ) → IsReader (ChildIs path) (ChildIn path) AtToken (read_child path)
unfolding read_child
reads_child path =
    turns (One bits) (One bits) (λ n. PointIs (and_child path n)) (λ n. PointIn (and_child path n))
    (take_number 0 1) (λ n. read_point (and_child path n)) (reads_number 0 1 (omega arith))
    (λ n ks is. reads_point (and_child path n)) (λ n ks is. some_point (and_child path n))

-- a child by its tokens
data ChildOf (path : List ℕ) : List ℕ × Bool → List TokenKind → Type 0 where
  stays : (n : ℕ) → n ≤ 1 → ChildOf path (staying (and_child path n)) (Number n ∷ [])
  goes : (n : ℕ) → n ≤ 1 → ChildOf path (going (and_child path n)) (Number n ∷ Sign Point ∷ [])

child_of : (path : List ℕ) (o : List ℕ × Bool) (ks : List TokenKind) → ChildIs path o ks
    → ChildOf path o ks
child_of path _ _ (both n _ _ _ (one k _ e) (both _ _ _ _ (given p x f) pure)) =
    let b = number_is 0 1 n k e in
    subst (λ (z : TokenKind). ChildOf path (going (and_child path n)) (z ∷ p ∷ [])) (sym b.is)
    (subst (λ (z : TokenKind). ChildOf path (going (and_child path n)) (Number n ∷ z ∷ []))
    (sym (point_is p x f)) (goes n b.most))
child_of path _ _ (both n _ _ _ (one k _ e) (both _ _ _ _ absent pure)) =
    let b = number_is 0 1 n k e in
    subst (λ (z : TokenKind). ChildOf path (staying (and_child path n)) (z ∷ [])) (sym b.is)
    (stays n b.most)

no_child : true ≡ false → ⊥
no_child e = cc

-- before what the last one may be
stays_before : (path : List ℕ) (o : List ℕ × Bool) (ks : List TokenKind) (h : Option TokenKind)
    → ChildIn path o ks h → o.1 ≡ false → NotNext point_mark h
stays_before path _ _ _ (turn n _ _ _ _ (one k _ e) (turn _ _ _ _ _ (given_before p x _ f) pure))
    is = absurd (no_child is)
stays_before path _ _ _ (turn n _ _ _ _ (one k _ e) (turn _ _ _ _ _ (absent_before h next) pure))
    is = next

-- after a point anything may follow
free_child : (path : List ℕ) (o : List ℕ × Bool) (ks : List TokenKind) (h : Option TokenKind)
    → ChildIn path o ks h → o.1 ≡ true → IsFree (ChildIn path) o ks
free_child path _ _ _ (turn n _ _ _ _ (one k _ e) (turn _ _ _ _ _ (given_before p x _ f) pure))
    is = λ j. turn n (going (and_child path n)) (k ∷ []) (p ∷ []) j (one k n e)
    (turn (Some x) (going (and_child path n)) (p ∷ []) [] j (given_before p x j f) pure)
free_child path _ _ _ (turn n _ _ _ _ (one k _ e) (turn _ _ _ _ _ (absent_before h next) pure))
    is = absurd (no_child (sym is))

-- ---- several children

-- so many children after others, as a bound allows
record MoreChildren (bound : ℕ → Type 0) (path all : List ℕ) (ks : List TokenKind) : Type 0 where
  new : List ℕ
  are : AreChildren new ks
  short : bound (length new)
  all_is : all ≡ path ++ new

abbrev any : ℕ → Type 0
any n = Unit {0}

abbrev at_most : ℕ → ℕ → Type 0
at_most left n = n ≤ left

stops : (bound : ℕ → Type 0) → bound 1 → (path p2 : List ℕ) (o : List ℕ × Bool)
    (ks : List TokenKind) → ChildOf path o ks → o ≡ staying p2 → MoreChildren bound path p2 ks
stops bound least path p2 _ _ (stays n le) e = record {
  new = n ∷ [];
  are = grammar.AreChildren.last n le;
  short = least;
  all_is = sym (ap (λ (p : List ℕ × Bool). p.0) e);
}
stops bound least path p2 _ _ (goes n le) e =
    absurd (no_child (ap (λ (p : List ℕ × Bool). p.1) e))

goes_on : (bound next : ℕ → Type 0) → ((n : ℕ) → next n → bound (suc n)) → (path p2 all : List ℕ)
    (o : List ℕ × Bool) (ks ls : List TokenKind) → ChildOf path o ks → o ≡ going p2
    → MoreChildren next p2 all ls → MoreChildren bound path all (ks ++ ls)
goes_on bound next step path p2 all _ _ ls (stays n le) e m =
    absurd (no_child (sym (ap (λ (p : List ℕ × Bool). p.1) e)))
goes_on bound next step path p2 all _ _ ls (goes n le) e m = record {
  new = n ∷ m.new;
  are = grammar.AreChildren.more n m.new ls le m.are;
  short = step (length m.new) m.short;
  all_is = m.all_is ∙ ap (λ (z : List ℕ). z ++ m.new) (sym (ap (λ (p : List ℕ × Bool). p.0) e))
      ∙ append_assoc path (n ∷ []) m.new;
}

gathered : (path all : List ℕ) (ks : List TokenKind) → Many ChildIs path all ks
    → MoreChildren any path all ks
gathered _ _ _ (last_step path p2 ks is) =
    stops any tt path p2 (staying p2) ks (child_of path (staying p2) ks is) refl
gathered _ _ _ (more_steps path p2 all ks ls is rest) =
    goes_on any any (λ n h. tt) path p2 all (going p2) ks ls (child_of path (going p2) ks is) refl
    (gathered p2 all ls rest)

within : (left : ℕ) (path all : List ℕ) (ks : List TokenKind) (h : Option TokenKind)
    → ManyBefore ChildIn (λ c. Nothing) left path all ks h
    → MoreChildren (at_most left) path all ks × NotNext point_mark h
within _ _ _ _ _ (over path all ks h is) = absurd is
within _ _ _ _ _ (last_before left path p2 ks h is) = (
  stops (at_most (suc left)) (omega arith) path p2 (staying p2) ks
      (child_of path (staying p2) ks ((reads_child path).wider (staying p2) ks h is)) refl,
  stays_before path (staying p2) ks h is refl,
)
within _ _ _ _ _ (more_before left path p2 all ks ls h is rest) =
    let m = within left p2 all ls h rest in (
      goes_on (at_most (suc left)) (at_most left) (λ n h. omega (arith, h)) path p2 all (going p2)
          ks ls
          (child_of path (going p2) ks ((reads_child path).wider (going p2) ks (ahead ls h) is))
          refl m.0,
      m.1,
    )

-- the children one by one
bit_of : (n : ℕ) → n ≤ 1 → bits (Number n) ≡ Some n
bit_of n le = number_of 0 1 n (omega arith) le

staying_child : (path : List ℕ) (n : ℕ) (h : Option TokenKind) → n ≤ 1 → NotNext point_mark h
    → ChildIn path (staying (and_child path n)) (Number n ∷ []) h
staying_child path n h le next =
    turn n (staying (and_child path n)) (Number n ∷ []) [] h (one (Number n) n (bit_of n le))
    (turn None (staying (and_child path n)) [] [] h (absent_before h next) pure)

going_child : (path : List ℕ) (n : ℕ) (h : Option TokenKind) → n ≤ 1
    → ChildIn path (going (and_child path n)) (Number n ∷ Sign Point ∷ []) h
going_child path n h le =
    turn n (going (and_child path n)) (Number n ∷ []) (Sign Point ∷ []) h
    (one (Number n) n (bit_of n le))
    (turn (Some tt) (going (and_child path n)) (Sign Point ∷ []) [] h
    (given_before (Sign Point) tt h refl) pure)

one_child : (new : List ℕ) (ks : List TokenKind) → AreChildren new ks → 1 ≤ length new
one_child _ _ (grammar.AreChildren.last n le) = omega arith
one_child _ _ (grammar.AreChildren.more n path ks le are) = omega arith

apart : (left : ℕ) (path all new : List ℕ) (ks : List TokenKind) (h : Option TokenKind)
    → AreChildren new ks → length new ≤ left → all ≡ path ++ new → NotNext point_mark h
    → ManyBefore ChildIn (λ c. Nothing) left path all ks h
apart zero path all new ks h are short e next =
    absurd (omega (arith, one_child new ks are, short))
apart (suc left) path all _ _ h (grammar.AreChildren.last n le) short e next =
    subst (λ (z : List ℕ). ManyBefore ChildIn (λ c. Nothing) (suc left) path z (Number n ∷ []) h)
    (sym e)
    (last_before left path (and_child path n) (Number n ∷ []) h (staying_child path n h le next))
apart (suc left) path all _ _ h (grammar.AreChildren.more n new ks le are) short e next =
    more_before left path (and_child path n) all (Number n ∷ Sign Point ∷ []) ks h
    (going_child path n (ahead ks h) le)
    (apart left (and_child path n) all new ks h are (omega (arith, short))
    (e ∙ sym (append_assoc path (n ∷ []) new)) next)

-- ---- their reader

pub children_unended : (path : List ℕ) (ks : List TokenKind) → AreChildren path ks
    → has_last ks ≡ false
children_unended _ _ (grammar.AreChildren.last n le) = refl
children_unended _ _ (grammar.AreChildren.more n path ks le are) = children_unended path ks are

some_children : (path : List ℕ) → Begins (Many ChildIs path) []
some_children path = (
  and_child path 0,
  Number 0 ∷ [],
  last_step path (and_child path 0) (Number 0 ∷ [])
      ((reads_child path).wider (staying (and_child path 0)) (Number 0 ∷ []) None
      (staying_child path 0 None (omega arith) tt)),
)

many_ended : (path all : List ℕ) (ks : List TokenKind) → Many ChildIs path all ks
    → has_last ks ≡ false
many_ended = many_unended ChildIs (λ path o ks is. (reads_child path).unended o ks is)

steps_on : StepsOn ChildIn read_child child_too_many
steps_on left path p2 ks h is = inl (free_child path (going p2) ks h is refl)

abbrev pub ChildrenIn : GrammarBefore (List ℕ)
ChildrenIn path ks h = (AreChildren path ks × (length path ≤ 32)) × NotNext point_mark h

spelled : (bound : ℕ → Type 0) (path : List ℕ) (ks : List TokenKind)
    → MoreChildren bound [] path ks → AreChildren path ks × bound (length path)
spelled bound path ks m = (
  subst (λ (z : List ℕ). AreChildren z ks) (sym m.all_is) m.are,
  subst (λ (z : List ℕ). bound (length z)) (sym m.all_is) m.short,
)

pub reads_children : IsReader AreChildren ChildrenIn AtToken read_children
unfolding read_children
reads_children =
    reworded (Many ChildIs []) AreChildren (ManyBefore ChildIn (λ c. Nothing) 32 []) ChildrenIn
    AtToken read_children
    (reads_many ChildIs ChildIn (λ c. Nothing) read_child child_too_many reads_child
    (λ path. reads_too_many (Many ChildIs path) (some_children path) (many_ended path)
    (child_too_many path) (λ ts. refl)) some_children steps_on 32 [])
    (λ path ks m. (spelled any path ks (gathered [] path ks m)).0) children_unended
    (λ path ks h m. let w = within 32 [] path ks h m in (spelled (at_most 32) path ks w.0, w.1))
    (λ path ks h is. apart 32 [] path path ks h is.0.0 is.0.1 refl is.1)

pub children_fit : (ts rest : List Token) (path : List ℕ) → read_children ts ≡ Ok (path, rest)
    → length path ≤ 32
children_fit ts rest path e = (reads_children.found ts path rest e).1.0.1

-- ---- a path

top_not_last : NotLast top_mark
top_not_last (Keyword keyword.Top) x e = refl
top_not_last _ x e = absurd cc

top_is : (k : TokenKind) (x : Unit {0}) → top_mark k ≡ Some x → k ≡ Keyword keyword.Top
top_is (Keyword keyword.Top) x e = refl
top_is _ x e = absurd cc

abbrev root : Unit {0} → List ℕ
root x = []

abbrev TopIs : Grammar (List ℕ)
TopIs = Mapped root (One top_mark)

abbrev TopIn : GrammarBefore (List ℕ)
TopIn = MappedBefore root (Anywhere (One top_mark))

reads_top : IsReader TopIs TopIn AtToken read_top_word
unfolding read_top_word
reads_top =
    reads_mapped root (One top_mark) (Anywhere (One top_mark)) (take_by top_mark refused_by)
    (reads_plain top_mark (tt, Keyword keyword.Top ∷ [], one (Keyword keyword.Top) tt refl)
    top_not_last (steady_by top_mark (λ n m e. refl) (λ v w e. refl)))

-- a path of children's numbers doesn't end before a point
abbrev pub PathBefore : List ℕ → Option TokenKind → Type 0
PathBefore [] h = Unit {0}
PathBefore (n ∷ path) h = NotNext point_mark h

abbrev pub PathIn : GrammarBefore (List ℕ)
PathIn path ks h = (IsPath path ks × (length path ≤ 32)) × PathBefore path h

top_path : (k : TokenKind) (x : Unit {0}) → top_mark k ≡ Some x → IsPath [] (k ∷ [])
top_path k x e = subst (λ (z : TokenKind). IsPath [] (z ∷ [])) (sym (top_is k x e))
    grammar.IsPath.top

path_to : (path : List ℕ) (ks : List TokenKind) → OneOf TopIs AreChildren path ks → IsPath path ks
path_to _ _ (inl (mapped x _ (one k _ e))) = top_path k x e
path_to path ks (inr are) = grammar.IsPath.children path ks are

pub path_unended : (path : List ℕ) (ks : List TokenKind) → IsPath path ks → has_last ks ≡ false
path_unended _ _ grammar.IsPath.top = refl
path_unended _ _ (grammar.IsPath.children path ks are) = children_unended path ks are

children_before : (path : List ℕ) (ks : List TokenKind) (h : Option TokenKind)
    → AreChildren path ks → NotNext point_mark h → PathBefore path h
children_before _ _ h (grammar.AreChildren.last n le) next = next
children_before _ _ h (grammar.AreChildren.more n path ks le are) next = next

next_of_children : (path : List ℕ) (ks : List TokenKind) (h : Option TokenKind)
    → AreChildren path ks → PathBefore path h → NotNext point_mark h
next_of_children _ _ h (grammar.AreChildren.last n le) next = next
next_of_children _ _ h (grammar.AreChildren.more n path ks le are) next = next

path_within : (path : List ℕ) (ks : List TokenKind) (h : Option TokenKind)
    → OneOfBefore TopIn ChildrenIn path ks h → PathIn path ks h
path_within _ _ _ (inl (mapped_before x _ h (one k _ e))) = ((top_path k x e, omega arith), tt)
path_within path ks h (inr is) = (
  (grammar.IsPath.children path ks is.0.0, is.0.1),
  children_before path ks h is.0.0 is.1,
)

path_back : (path : List ℕ) (ks : List TokenKind) (h : Option TokenKind) → IsPath path ks
    → length path ≤ 32 → PathBefore path h → OneOfBefore TopIn ChildrenIn path ks h
path_back _ _ h grammar.IsPath.top short next =
    inl (mapped_before tt (Keyword keyword.Top ∷ []) h (one (Keyword keyword.Top) tt refl))
path_back _ _ h (grammar.IsPath.children path ks are) short next =
    inr ((are, short), next_of_children path ks h are next)

top_steady : (k j : TokenKind) → AreAlike k j → is_top k ≡ is_top j
top_steady _ _ (itself k) = refl
top_steady _ _ (two_numbers n m) = refl
top_steady _ _ (two_names v w) = refl

first_top : (path : List ℕ) (ks : List TokenKind) → TopIs path ks → FirstIs is_top true ks
first_top _ _ (mapped x _ (one k _ e)) = ap is_top (top_is k x e)

first_child : (path : List ℕ) (ks : List TokenKind) → AreChildren path ks
    → FirstIs is_top false ks
first_child _ _ (grammar.AreChildren.last n le) = refl
first_child _ _ (grammar.AreChildren.more n path ks le are) = refl

top_read : ReadsSome read_top_word
top_read =
    let ks = Keyword keyword.Top ∷ [] in (
      tokens_of ks ++ [],
      [],
      [],
      reads_top.only [] (tokens_of ks) []
          (subst (λ (z : List TokenKind). TopIn [] z None) (sym (kinds-tokens ks))
          (mapped_before tt ks None (one (Keyword keyword.Top) tt refl))),
    )

child_read : ReadsSome read_children
child_read =
    let ks = Number 0 ∷ [] in (
      tokens_of ks ++ [],
      0 ∷ [],
      [],
      reads_children.only (0 ∷ []) (tokens_of ks) []
          (subst (λ (z : List TokenKind). ChildrenIn (0 ∷ []) z None) (sym (kinds-tokens ks))
          ((grammar.AreChildren.last 0 (omega arith), omega arith), tt)),
    )

pub some_path : Begins IsPath []
some_path = ([], Keyword keyword.Top ∷ [], grammar.IsPath.top)

pub reads_path : IsReader IsPath PathIn AtToken read_path
unfolding read_path
reads_path =
    reworded (OneOf TopIs AreChildren) IsPath (OneOfBefore TopIn ChildrenIn) PathIn AtToken
    read_path
    (reads_either is_top TopIs AreChildren TopIn ChildrenIn AtToken read_top_word read_children
    top_steady reads_top reads_children first_top first_child top_read child_read)
    path_to path_unended path_within
    (λ path ks h is. path_back path ks h is.0.0 is.0.1 is.1)
