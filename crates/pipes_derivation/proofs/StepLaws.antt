-- What is read as a step is in the grammar, and what is in the grammar is read.
use Rattle.std.proofs.Common.{◌≡◌, ℕ, ◌≤◌, Bool, true, false, List, [], ◌∷◌, ◌++◌, length, Option}
use Rattle.std.proofs.Common.{Some, None, codes, refl, sym, ap, subst, ◌∙◌, append_assoc, inl, inr}
use Rattle.std.proofs.Common.{arith}
use Rattle.pipes_token.specs.declared.keyword.Keyword.TheVariants as keyword
use Rattle.pipes_token.specs.declared.token.TokenKind.{TokenKind}
use Rattle.pipes_token.specs.declared.token.TokenKind.TheVariants.{Sign, Keyword, Name, Number}
use Rattle.pipes_token.specs.declared.token.TokenKind.TheVariants.{Text, Long, Cut, Byte, End}
use Rattle.pipes_token.specs.declared.token.Token.{Token}
use Rattle.pipes_reader.specs.Reading.{Reads, refused_by, take_by, done_with, in_turn}
use Rattle.pipes_reader.specs.Sentences.{Grammar, GrammarBefore, Anywhere, Begins, ahead, has_last}
use Rattle.pipes_reader.specs.Causes.{AreAlike, itself, two_numbers, two_names, other_word}
use Rattle.pipes_reader.specs.Places.{AtToken}
use Rattle.pipes_reader.proofs.Causes.{HasValue, NoValue, LeafWhy, IsSteady, steady_by, plain_why}
use Rattle.pipes_reader.proofs.TokenLists.{both_unended, tokens_of, kinds-tokens}
use Rattle.pipes_reader.proofs.Readers.{IsReader, Then, both, ThenBefore, turn, turns, turns_if}
use Rattle.pipes_reader.proofs.Readers.{ReadsSome, reworded, replaced}
use Rattle.pipes_reader.proofs.Singles.{Pure, pure, reads_none, One, one, NotLast, HasCauses}
use Rattle.pipes_reader.proofs.Singles.{reads_one, reads_plain, refused_place, Mapped, mapped}
use Rattle.pipes_reader.proofs.Singles.{MappedBefore, mapped_before, reads_mapped, NotNext}
use Rattle.pipes_reader.proofs.Singles.{Optional, given, absent, OptionalBefore, given_before}
use Rattle.pipes_reader.proofs.Singles.{absent_before, TailIs, TailBefore, reads_tail}
use Rattle.pipes_grammar.specs.Places.{IsExprsPlace}
use Rattle.pipes_rules.specs.declared.table.Rule.{Rule}
use Rattle.pipes_rules.specs.declared.table.Rule.TheVariants as rule
use Rattle.pipes_rules.specs.declared.step.Arg.{Arg}
use Rattle.pipes_rules.specs.declared.step.Arg.TheVariants as arg
use Rattle.pipes_rules.specs.declared.step.Step.{Step}
use Rattle.pipes_rules.specs.Names.{rule_named}
use Rattle.pipes_rules.specs.Table.{rule_name}
use Rattle.pipes_rules.proofs.TableLaws.{own_name}
use Rattle.pipes_derivation.specs.Grammar.{IsDirection, IsPath, IsArg, IsStep}
use Rattle.pipes_derivation.specs.Grammar as grammar
use Rattle.pipes_derivation.specs.Limits.{IsArgWithin, IsStepWithin}
use Rattle.pipes_derivation.specs.Taking.{rule_of, rule_refused, back_mark, at_mark, point_mark}
use Rattle.pipes_derivation.specs.Taking.{with_mark}
use Rattle.pipes_derivation.specs.Reading.{take_rule, read_direction, read_at_word, read_rule_use}
use Rattle.pipes_derivation.specs.Reading.{read_path, read_arg, read_step_end, step_made}
use Rattle.pipes_derivation.specs.Reading.{read_one_step}
use Rattle.pipes_derivation.proofs.RuleWords.{rule_word}
use Rattle.pipes_derivation.proofs.PathLaws.{PathBefore, PathIn, path_unended, some_path}
use Rattle.pipes_derivation.proofs.PathLaws.{reads_path}
use Rattle.pipes_derivation.proofs.ArgLaws.{token_in, turns_in, mapped_in, ArgBefore, ArgIn}
use Rattle.pipes_derivation.proofs.ArgLaws.{arg_unended, some_arg, reads_arg, arg_read}

-- ---- the rule

rule_not_last : NotLast rule_of
rule_not_last (Name w) x e = refl
rule_not_last _ x e = absurd cc

rule_is : (k : TokenKind) (r : Rule) → rule_of k ≡ Some r
    → (w : List ℕ) × (k ≡ Name w) × (rule_named w ≡ Some r)
rule_is (Name w) r e = (w, refl, e)
rule_is _ r e = absurd cc

rule_place : (k : TokenKind) (at : ℕ) → (rule_refused k at).at ≡ at
rule_place (Name w) at = refl
rule_place (Keyword k) at = refl
rule_place k at = refused_place k at

abbrev some_name : List ℕ
some_name = rule_name rule.FilterMerge

some_rule : Begins (One rule_of) []
some_rule = (
  rule.FilterMerge,
  Name some_name ∷ [],
  one (Name some_name) rule.FilterMerge (own_name rule.FilterMerge),
)

abbrev is_name : TokenKind → Bool
is_name (Name w) = true
is_name _ = false

-- a word that names no rule, where another does
rule_causes : HasCauses rule_of rule_refused
rule_causes k at is = by k is
  where
    others : (k j : TokenKind) → AreAlike k j → is_name k ≡ false → NoValue rule_of k
        → NoValue rule_of j
    others _ _ (itself k) e none = none
    others _ _ (two_numbers n m) e none = refl
    others _ _ (two_names v w) e none = absurd cc

    plain : (k : TokenKind) → is_name k ≡ false → NoValue rule_of k
        → LeafWhy rule_of k (refused_by k at).why
    plain k e none =
        plain_why (HasValue rule_of) ⊥ (NoValue rule_of) k at (λ j a. others k j a e none)

    named : HasValue rule_of (Name some_name)
    named = (rule.FilterMerge, own_name rule.FilterMerge)

    by : (k : TokenKind) → NoValue rule_of k → LeafWhy rule_of k (rule_refused k at).why
    by (Name w) none = other_word (Name w) some_name tt (rule_word rule.FilterMerge) named
    by (Keyword x) none =
        other_word (Keyword x) some_name tt (rule_word rule.FilterMerge) named
    by (Sign x) none = plain (Sign x) refl none
    by (Number x) none = plain (Number x) refl none
    by (Text x) none = plain (Text x) refl none
    by (Cut x) none = plain (Cut x) refl none
    by Long none = plain Long refl none
    by Byte none = plain Byte refl none
    by End none = plain End refl none

reads_rule : IsReader (One rule_of) (Anywhere (One rule_of)) AtToken take_rule
unfolding take_rule
reads_rule =
    reads_one rule_of rule_refused some_rule rule_not_last (λ k at is. inl (rule_place k at))
    rule_causes

-- ---- the direction and the word after it

back_not_last : NotLast back_mark
back_not_last (Keyword keyword.Back) x e = refl
back_not_last _ x e = absurd cc

back_is : (k : TokenKind) (x : Unit {0}) → back_mark k ≡ Some x → k ≡ Keyword keyword.Back
back_is (Keyword keyword.Back) x e = refl
back_is _ x e = absurd cc

at_not_last : NotLast at_mark
at_not_last (Keyword keyword.At) x e = refl
at_not_last _ x e = absurd cc

at_is : (k : TokenKind) (x : Unit {0}) → at_mark k ≡ Some x → k ≡ Keyword keyword.At
at_is (Keyword keyword.At) x e = refl
at_is _ x e = absurd cc

abbrev DirectionIs : Grammar Bool
DirectionIs = Then (Optional back_mark) (TailIs (λ (x : Unit {0}). Pure true) false)

abbrev DirectionIn : GrammarBefore Bool
DirectionIn = ThenBefore (OptionalBefore back_mark)
    (TailBefore (λ (x : Unit {0}). Anywhere (Pure true)) false)

reads_direction : IsReader DirectionIs DirectionIn AtToken read_direction
unfolding read_direction
reads_direction =
    reads_tail back_mark (λ x. Pure true) (λ x. Anywhere (Pure true)) (λ x. done_with true) false
    back_not_last (steady_by back_mark (λ n m e. refl) (λ v w e. refl)) (λ x. reads_none true)
    (λ x. (true, [], pure))

reads_at : IsReader (One at_mark) (Anywhere (One at_mark)) AtToken read_at_word
unfolding read_at_word
reads_at =
    reads_plain at_mark (tt, Keyword keyword.At ∷ [], one (Keyword keyword.At) tt refl) at_not_last
    (steady_by at_mark (λ n m e. refl) (λ v w e. refl))

-- ---- both

abbrev used : Rule → Bool → Unit {0} → Rule × Bool
used r back word = (r, back)

abbrev AtIs : Rule → Bool → Grammar (Rule × Bool)
AtIs r back = Mapped (used r back) (One at_mark)

abbrev AtIn : Rule → Bool → GrammarBefore (Rule × Bool)
AtIn r back = MappedBefore (used r back) (Anywhere (One at_mark))

abbrev UseIs : Grammar (Rule × Bool)
UseIs = Then (One rule_of) (λ r. Then DirectionIs (AtIs r))

abbrev UseIn : GrammarBefore (Rule × Bool)
UseIn = ThenBefore (Anywhere (One rule_of)) (λ r. ThenBefore DirectionIn (AtIn r))

abbrev read_at_of : Rule → Bool → Reads (Rule × Bool)
read_at_of r back = in_turn read_at_word (λ word. done_with (r, back))

reads_at_of : (r : Rule) (back : Bool) → IsReader (AtIs r back) (AtIn r back) AtToken
    (read_at_of r back)
reads_at_of r back =
    reads_mapped (used r back) (One at_mark) (Anywhere (One at_mark)) read_at_word reads_at

some_at : (r : Rule) (back : Bool) → Begins (AtIs r back) []
some_at r back = (
  (r, back),
  Keyword keyword.At ∷ [],
  mapped tt (Keyword keyword.At ∷ []) (one (Keyword keyword.At) tt refl),
)

at_read : (r : Rule) (back : Bool) → ReadsSome (read_at_of r back)
at_read r back =
    let ks = Keyword keyword.At ∷ [] in (
      tokens_of ks ++ [],
      (r, back),
      [],
      (reads_at_of r back).only (r, back) (tokens_of ks) []
          (subst (λ (z : List TokenKind). AtIn r back (r, back) z None) (sym (kinds-tokens ks))
          (mapped_before tt ks None (one (Keyword keyword.At) tt refl))),
    )

some_direction : (r : Rule) → Begins (Then DirectionIs (AtIs r)) []
some_direction r =
    let a = some_at r false in
    (a.0, a.1, both false a.0 [] a.1 (both None false [] [] absent pure) a.2)

-- a rule and a direction by their tokens
pub record IsRuleUse (head : Rule × Bool) (ks : List TokenKind) : Type 0 where
  pub word : List ℕ
  pub ds : List TokenKind
  pub named : rule_named word ≡ Some head.0
  pub direction : IsDirection head.1 ds
  pub ks_is : ks ≡ Name word ∷ (ds ++ (Keyword keyword.At ∷ []))

direction_to : (back : Bool) (ds : List TokenKind) → DirectionIs back ds → IsDirection back ds
direction_to _ _ (both _ _ _ _ (given k x e) pure) =
    subst (λ (z : TokenKind). IsDirection true (z ∷ [])) (sym (back_is k x e))
    grammar.IsDirection.back
direction_to _ _ (both _ _ _ _ absent pure) = grammar.IsDirection.forward

made_use : (r : Rule) (back : Bool) (k l : TokenKind) (x : Unit {0}) (ds : List TokenKind)
    → rule_of k ≡ Some r → IsDirection back ds → at_mark l ≡ Some x
    → IsRuleUse (r, back) (k ∷ (ds ++ (l ∷ [])))
made_use r back k l x ds e is f =
    let w = rule_is k r e in
    record {
      word = w.0;
      ds = ds;
      named = w.2;
      direction = is;
      ks_is = ap (λ (z : TokenKind). z ∷ (ds ++ (l ∷ []))) w.1
          ∙ ap (λ (z : TokenKind). Name w.0 ∷ (ds ++ (z ∷ []))) (at_is l x f);
    }

use_to : (head : Rule × Bool) (ks : List TokenKind) → UseIs head ks → IsRuleUse head ks
use_to _ _ (both r _ _ _ (one k _ e) (both back _ ds _ is (mapped x _ (one l _ f)))) =
    made_use r back k l x ds e (direction_to back ds is) f

use_within : (head : Rule × Bool) (ks : List TokenKind) (h : Option TokenKind) → UseIn head ks h
    → IsRuleUse head ks
use_within _ _ _
    (turn r _ _ _ _ (one k _ e) (turn back _ ds _ _ is (mapped_before x _ h (one l _ f)))) =
    made_use r back k l x ds e
    (direction_to back ds (reads_direction.wider back ds (Some l) is)) f

direction_in : (back : Bool) (ds : List TokenKind) → IsDirection back ds
    → DirectionIn back ds (Some (Keyword keyword.At))
direction_in _ _ grammar.IsDirection.forward =
    turn None false [] [] (Some (Keyword keyword.At))
    (absent_before (Some (Keyword keyword.At)) refl) pure
direction_in _ _ grammar.IsDirection.back =
    turn (Some tt) true (Keyword keyword.Back ∷ []) [] (Some (Keyword keyword.At))
    (given_before (Keyword keyword.Back) tt (Some (Keyword keyword.At)) refl) pure

use_back : (head : Rule × Bool) (ks : List TokenKind) (h : Option TokenKind) → IsRuleUse head ks
    → UseIn head ks h
use_back head ks h is =
    let last = Keyword keyword.At ∷ [] in
    let whole : UseIn head (Name is.word ∷ (is.ds ++ last)) h =
    turn head.0 head (Name is.word ∷ []) (is.ds ++ last) h (one (Name is.word) head.0 is.named)
    (turn head.1 head is.ds last h (direction_in head.1 is.ds is.direction)
    (mapped_before tt last h (one (Keyword keyword.At) tt refl))) in
    subst (λ (z : List TokenKind). UseIn head z h) (sym is.ks_is) whole

direction_unended : (back : Bool) (ds : List TokenKind) → IsDirection back ds
    → has_last ds ≡ false
direction_unended _ _ grammar.IsDirection.forward = refl
direction_unended _ _ grammar.IsDirection.back = refl

use_unended : (head : Rule × Bool) (ks : List TokenKind) → IsRuleUse head ks → has_last ks ≡ false
use_unended head ks is =
    ap (λ (z : List TokenKind). has_last z) is.ks_is
    ∙ both_unended is.ds (Keyword keyword.At ∷ []) (direction_unended head.1 is.ds is.direction)
    refl

pub some_use : Begins IsRuleUse []
some_use = (
  (rule.FilterMerge, false),
  Name some_name ∷ Keyword keyword.At ∷ [],
  record {
    word = some_name;
    ds = [];
    named = own_name rule.FilterMerge;
    direction = grammar.IsDirection.forward;
    ks_is = refl;
  },
)

reads_use : IsReader IsRuleUse (Anywhere IsRuleUse) AtToken read_rule_use
unfolding read_rule_use
reads_use =
    reworded UseIs IsRuleUse UseIn (Anywhere IsRuleUse) AtToken read_rule_use
    (turns (One rule_of) (One rule_of) (λ r. Then DirectionIs (AtIs r))
    (λ r. ThenBefore DirectionIn (AtIn r)) take_rule
    (λ r. in_turn read_direction (λ back. read_at_of r back)) reads_rule
    (λ r ks is. turns_if DirectionIs DirectionIn (AtIs r) (AtIn r) read_direction (read_at_of r)
    reads_direction (λ back ds it. reads_at_of r back) (λ back ds it. some_at r back)
    (λ back ds h it. inr (at_read r back)))
    (λ r ks is. some_direction r))
    use_to use_unended use_within use_back

-- ---- the path and the argument

abbrev StepEnd : Type 0
StepEnd = List ℕ × Arg

abbrev any : ℕ → Type 0
any n = Unit {0}

-- a path and an argument by their tokens
pub record IsStepEnd (end : StepEnd) (ks : List TokenKind) : Type 0 where
  pub ps : List TokenKind
  pub gs : List TokenKind
  pub path : IsPath end.0 ps
  pub arg : IsArg end.1 gs
  pub ks_is : ks ≡ ps ++ gs

abbrev pub EndWithin : StepEnd → Type 0
EndWithin end = (length end.0 ≤ 32) × IsArgWithin end.1

abbrev pub EndNext : List ℕ → Arg → Option TokenKind → Type 0
EndNext path arg.Nothing h = PathBefore path h × NotNext with_mark h
EndNext path (arg.OneExpr e) h = Unit {0}
EndNext path (arg.TwoLists es fs) h = Unit {0}

-- before what such an end may be
abbrev pub EndBefore : StepEnd → Option TokenKind → Type 0
EndBefore end h = EndNext end.0 end.1 h

abbrev pub EndIn : GrammarBefore StepEnd
EndIn end ks h = (IsStepEnd end ks × EndWithin end) × EndBefore end h

abbrev ended : List ℕ → Arg → StepEnd
ended path a = (path, a)

abbrev EndTurns : Grammar StepEnd
EndTurns = Then IsPath (λ path. Mapped (ended path) IsArg)

abbrev EndTurnsIn : GrammarBefore StepEnd
EndTurnsIn = ThenBefore PathIn (λ path. MappedBefore (ended path) ArgIn)

end_to : (end : StepEnd) (ks : List TokenKind) → EndTurns end ks → IsStepEnd end ks
end_to _ _ (both path _ ps _ is (mapped a gs it)) =
    record { ps = ps; gs = gs; path = is; arg = it; ks_is = refl }

end_before : (path : List ℕ) (a : Arg) (gs : List TokenKind) (h : Option TokenKind) → IsArg a gs
    → PathBefore path (ahead gs h) → ArgBefore a h → EndNext path a h
end_before path _ _ h grammar.IsArg.nothing p n = (p, n)
end_before path _ _ h (grammar.IsArg.given _ _ (grammar.IsGiven.expr e ks is)) p n = tt
end_before path _ _ h (grammar.IsArg.given _ _ (grammar.IsGiven.lists es fs ks ls is it)) p n = tt

end_within : (end : StepEnd) (ks : List TokenKind) (h : Option TokenKind) → EndTurnsIn end ks h
    → EndIn end ks h
end_within _ _ _ (turn path _ ps _ _ is (mapped_before a gs h it)) = (
  (
    record { ps = ps; gs = gs; path = is.0.0; arg = it.0.0; ks_is = refl },
    (is.0.1, it.0.1),
  ),
  end_before path a gs h it.0.0 is.1 it.1,
)

-- a path is before an argument's word
with_next : (path : List ℕ) → PathBefore path (Some (Keyword keyword.With))
with_next [] = tt
with_next (n ∷ path) = refl

-- what comes after an end comes after its path and its argument
next_parts : (path : List ℕ) (a : Arg) (gs : List TokenKind) (h : Option TokenKind) → IsArg a gs
    → EndNext path a h → PathBefore path (ahead gs h) × ArgBefore a h
next_parts path _ _ h grammar.IsArg.nothing n = (n.0, n.1)
next_parts path _ _ h (grammar.IsArg.given _ _ (grammar.IsGiven.expr e ks is)) n =
    (with_next path, tt)
next_parts path _ _ h (grammar.IsArg.given _ _ (grammar.IsGiven.lists es fs ks ls is it)) n =
    (with_next path, tt)

end_back : (end : StepEnd) (ks : List TokenKind) (h : Option TokenKind) → IsStepEnd end ks
    → EndWithin end → EndBefore end h → EndTurnsIn end ks h
end_back end ks h is w n =
    let p = next_parts end.0 end.1 is.gs h is.arg n in
    subst (λ (z : List TokenKind). EndTurnsIn end z h) (sym is.ks_is)
    (turn end.0 end is.ps is.gs h ((is.path, w.0), p.0)
    (mapped_before end.1 is.gs h ((is.arg, w.1), p.1)))

end_unended : (end : StepEnd) (ks : List TokenKind) → IsStepEnd end ks → has_last ks ≡ false
end_unended end ks is =
    ap (λ (z : List TokenKind). has_last z) is.ks_is
    ∙ both_unended is.ps is.gs (path_unended end.0 is.ps is.path) (arg_unended end.1 is.gs is.arg)

some_arg_of : (path : List ℕ) → Begins (Mapped (ended path) IsArg) []
some_arg_of path = (ended path some_arg.0, some_arg.1, mapped some_arg.0 some_arg.1 some_arg.2)

pub some_end : Begins IsStepEnd []
some_end =
    let a = some_arg_of some_path.0 in (
      a.0,
      some_path.1 ++ a.1,
      end_to a.0 (some_path.1 ++ a.1) (both some_path.0 a.0 some_path.1 a.1 some_path.2 a.2),
    )

-- an argument is read after each path
end_read : (path : List ℕ) → ReadsSome (in_turn read_arg (λ a. done_with (ended path a)))
end_read path = (arg_read.0, ended path arg_read.1, arg_read.2, rw arg_read.3 refl)

reads_end : IsReader IsStepEnd EndIn IsExprsPlace read_step_end
unfolding read_step_end
reads_end =
    reworded EndTurns IsStepEnd EndTurnsIn EndIn IsExprsPlace read_step_end
    (turns_in IsPath PathIn (λ path. Mapped (ended path) IsArg)
    (λ path. MappedBefore (ended path) ArgIn) read_path
    (λ path. in_turn read_arg (λ a. done_with (ended path a)))
    (replaced IsPath PathIn AtToken IsExprsPlace read_path reads_path token_in)
    (λ path ks is. mapped_in (ended path) IsArg ArgIn read_arg reads_arg)
    (λ path ks is. some_arg_of path) (λ path ks h is. inr (end_read path)))
    end_to end_unended end_within (λ end ks h is. end_back end ks h is.0.0 is.0.1 is.1)

-- ---- a step, from after its keyword

pub record IsStepRest (s : Step) (ks : List TokenKind) : Type 0 where
  pub is : IsStep s (Keyword keyword.Step ∷ ks)

-- before what such a step may be
abbrev pub StepBefore : Step → Option TokenKind → Type 0
StepBefore s h = EndNext s.path s.arg h

abbrev pub StepRestIn : GrammarBefore Step
StepRestIn s ks h = (IsStepRest s ks × IsStepWithin s) × StepBefore s h

abbrev StepTurns : Grammar Step
StepTurns = Then IsRuleUse (λ head. Mapped (step_made head) IsStepEnd)

abbrev StepTurnsIn : GrammarBefore Step
StepTurnsIn = ThenBefore (Anywhere IsRuleUse) (λ head. MappedBefore (step_made head) EndIn)

joined : (head : Rule × Bool) (end : StepEnd) (us es : List TokenKind) → IsRuleUse head us
    → IsStepEnd end es → IsStepRest (step_made head end) (us ++ es)
joined head end us es is it =
    let whole : IsStep (step_made head end)
    (Keyword keyword.Step ∷ Name is.word ∷ (is.ds ++ (Keyword keyword.At ∷ (it.ps ++ it.gs)))) =
    grammar.IsStep.step (step_made head end) is.word is.ds it.ps it.gs is.named is.direction it.path
    it.arg in
    record {
      is = subst (λ (z : List TokenKind). IsStep (step_made head end) (Keyword keyword.Step ∷ z))
          (sym (ap (λ (z : List TokenKind). z ++ es) is.ks_is
          ∙ ap (λ (z : List TokenKind). Name is.word ∷ ((is.ds ++ (Keyword keyword.At ∷ [])) ++ z))
          it.ks_is
          ∙ ap (λ (z : List TokenKind). Name is.word ∷ z)
          (append_assoc is.ds (Keyword keyword.At ∷ []) (it.ps ++ it.gs)))) whole;
    }

step_to : (s : Step) (ks : List TokenKind) → StepTurns s ks → IsStepRest s ks
step_to _ _ (both head _ us _ is (mapped end es it)) = joined head end us es is it

step_within : (s : Step) (ks : List TokenKind) (h : Option TokenKind) → StepTurnsIn s ks h
    → StepRestIn s ks h
step_within _ _ _ (turn head _ us _ _ is (mapped_before end es h it)) =
    ((joined head end us es is it.0.0, it.0.1), it.1)

step_back : (s : Step) (all ks : List TokenKind) (h : Option TokenKind) → IsStep s all
    → all ≡ Keyword keyword.Step ∷ ks → IsStepWithin s → StepBefore s h → StepTurnsIn s ks h
step_back _ _ ks h (grammar.IsStep.step s word ds ps gs e is p a) same w n =
    let last = Keyword keyword.At ∷ [] in
    let tail : Name word ∷ (ds ++ (Keyword keyword.At ∷ (ps ++ gs))) ≡ ks = cc in
    let head : IsRuleUse (s.rule, s.back) (Name word ∷ (ds ++ last)) = record {
      word = word;
      ds = ds;
      named = e;
      direction = is;
      ks_is = refl;
    } in
    let end : IsStepEnd (s.path, s.arg) (ps ++ gs) = record {
      ps = ps;
      gs = gs;
      path = p;
      arg = a;
      ks_is = refl;
    } in
    subst (λ (z : List TokenKind). StepTurnsIn s z h)
    (ap (λ (z : List TokenKind). Name word ∷ z) (append_assoc ds last (ps ++ gs)) ∙ tail)
    (turn (s.rule, s.back) s (Name word ∷ (ds ++ last)) (ps ++ gs) h head
    (mapped_before (s.path, s.arg) (ps ++ gs) h ((end, w), n)))

pub step_unended : (s : Step) (ks : List TokenKind) → IsStep s ks → has_last ks ≡ false
step_unended _ _ (grammar.IsStep.step s word ds ps gs e is p a) =
    both_unended ds (Keyword keyword.At ∷ (ps ++ gs)) (direction_unended s.back ds is)
    (both_unended ps gs (path_unended s.path ps p) (arg_unended s.arg gs a))

some_end_of : (head : Rule × Bool) → Begins (Mapped (step_made head) IsStepEnd) []
some_end_of head = (step_made head some_end.0, some_end.1, mapped some_end.0 some_end.1 some_end.2)

pub some_step : Begins IsStepRest []
some_step =
    let e = some_end_of some_use.0 in (
      e.0,
      some_use.1 ++ e.1,
      step_to e.0 (some_use.1 ++ e.1) (both some_use.0 e.0 some_use.1 e.1 some_use.2 e.2),
    )

pub reads_one_step : IsReader IsStepRest StepRestIn IsExprsPlace read_one_step
unfolding read_one_step
reads_one_step =
    reworded StepTurns IsStepRest StepTurnsIn StepRestIn IsExprsPlace read_one_step
    (turns_in IsRuleUse (Anywhere IsRuleUse) (λ head. Mapped (step_made head) IsStepEnd)
    (λ head. MappedBefore (step_made head) EndIn) read_rule_use
    (λ head. in_turn read_step_end (λ end. done_with (step_made head end)))
    (replaced IsRuleUse (Anywhere IsRuleUse) AtToken IsExprsPlace read_rule_use reads_use token_in)
    (λ head ks is. mapped_in (step_made head) IsStepEnd EndIn read_step_end reads_end)
    (λ head ks is. some_end_of head) (λ head ks h is. inl (λ j. is)))
    step_to (λ s ks is. step_unended s (Keyword keyword.Step ∷ ks) is.is) step_within
    (λ s ks h is. step_back s (Keyword keyword.Step ∷ ks) ks h is.0.0.is refl is.0.1 is.1)
