-- What is read as steps is in the grammar, and what is in the grammar is read.
use Rattle.std.proofs.Common.{◌≡◌, ℕ, zero, suc, ◌≤◌, Bool, true, false, List, [], ◌∷◌, ◌++◌}
use Rattle.std.proofs.Common.{length, Option, Some, None, Ok, refl, sym, ap, subst, ◌∙◌}
use Rattle.std.proofs.Common.{append_assoc, inl, inr, arith}
use Rattle.std.proofs.lemmas.List.{append-nil}
use Rattle.pipes_token.specs.declared.keyword.Keyword.TheVariants as keyword
use Rattle.pipes_token.specs.declared.token.TokenKind.{TokenKind}
use Rattle.pipes_token.specs.declared.token.TokenKind.TheVariants.{Keyword, Name}
use Rattle.pipes_token.specs.declared.token.Token.{Token}
use Rattle.pipes_reader.specs.Reading.{Reads, take_by, unless, done_with, in_turn, many_within}
use Rattle.pipes_reader.specs.Sentences.{Grammar, GrammarBefore, Anywhere, Begins, ahead, has_last}
use Rattle.pipes_reader.specs.Places.{AtToken, there}
use Rattle.pipes_reader.proofs.Causes.{steady_by}
use Rattle.pipes_reader.proofs.TokenLists.{both_unended}
use Rattle.pipes_reader.proofs.Readers.{IsReader, Then, both, ThenBefore, turn, ReadsSome, reworded}
use Rattle.pipes_reader.proofs.Readers.{replaced}
use Rattle.pipes_reader.proofs.Repeats.{Many, last_step, more_steps, ManyBefore, over, last_before}
use Rattle.pipes_reader.proofs.Repeats.{more_before, many_unended, StepsOn, many_by}
use Rattle.pipes_reader.proofs.Singles.{Pure, pure, none_by, One, one, NotLast, reads_plain, Mapped}
use Rattle.pipes_reader.proofs.Singles.{mapped, MappedBefore, mapped_before, NotNext, Guarded}
use Rattle.pipes_reader.proofs.Singles.{guarded_by}
use Rattle.pipes_grammar.specs.Places.{IsExprsPlace}
use Rattle.pipes_rules.specs.declared.step.Arg.{Arg}
use Rattle.pipes_rules.specs.declared.step.Arg.TheVariants as arg
use Rattle.pipes_rules.specs.declared.step.Step.{Step}
use Rattle.pipes_derivation.specs.Grammar.{IsStep, AreSteps}
use Rattle.pipes_derivation.specs.Grammar as grammar
use Rattle.pipes_derivation.specs.Limits.{IsStepWithin, AreStepsWithin}
use Rattle.pipes_derivation.specs.Taking.{step_or_plan, plan_mark, step_mark, step_refused}
use Rattle.pipes_derivation.specs.Reading.{read_one_step, read_step_or_plan, step_if, next_step}
use Rattle.pipes_derivation.specs.Reading.{read_no_step, read_plan_word, end_steps, read_steps}
use Rattle.pipes_derivation.proofs.ArgLaws.{moves_in, token_in, turns_in, mapped_in}
use Rattle.pipes_derivation.proofs.StepLaws.{EndNext, IsStepRest, StepBefore, StepRestIn}
use Rattle.pipes_derivation.proofs.StepLaws.{step_unended, some_step, reads_one_step}

-- ---- what follows some steps

next_not_last : NotLast step_or_plan
next_not_last (Keyword keyword.Step) x e = refl
next_not_last (Keyword keyword.Plan) x e = refl
next_not_last _ x e = absurd cc

is_another : (k : TokenKind) → step_or_plan k ≡ Some true → k ≡ Keyword keyword.Step
is_another (Keyword keyword.Step) e = refl
is_another (Keyword keyword.Plan) e = absurd cc
is_another _ e = absurd cc

is_end : (k : TokenKind) → step_or_plan k ≡ Some false → k ≡ Keyword keyword.Plan
is_end (Keyword keyword.Plan) e = refl
is_end (Keyword keyword.Step) e = absurd cc
is_end _ e = absurd cc

plan_not_last : NotLast plan_mark
plan_not_last (Keyword keyword.Plan) x e = refl
plan_not_last _ x e = absurd cc

plan_is : (k : TokenKind) (x : Unit {0}) → plan_mark k ≡ Some x → k ≡ Keyword keyword.Plan
plan_is (Keyword keyword.Plan) x e = refl
plan_is _ x e = absurd cc

step_is : (k : TokenKind) (x : Unit {0}) → step_mark k ≡ Some x → k ≡ Keyword keyword.Step
step_is (Keyword keyword.Step) x e = refl
step_is _ x e = absurd cc

abbrev plan_word : List TokenKind
plan_word = Keyword keyword.Plan ∷ []

-- ---- one more step, or none

abbrev with_step : List Step → Step → List Step × Bool
with_step steps s = (steps ++ (s ∷ []), true)

abbrev ended_with : List Step → List Step × Bool
ended_with steps = (steps, false)

abbrev paired : List Step → Bool → List Step × Bool
paired steps b = (steps, b)

abbrev TurnIs : List Step → Bool → Grammar (List Step × Bool)
TurnIs steps true = Mapped (with_step steps) IsStepRest
TurnIs steps false = Pure (ended_with steps)

abbrev TurnIn : List Step → Bool → GrammarBefore (List Step × Bool)
TurnIn steps true = MappedBefore (with_step steps) StepRestIn
TurnIn steps false = Anywhere (Pure (ended_with steps))

abbrev NextIs : List Step → Grammar (List Step × Bool)
NextIs steps = Then (One step_or_plan) (TurnIs steps)

abbrev NextIn : List Step → GrammarBefore (List Step × Bool)
NextIn steps = ThenBefore (Anywhere (One step_or_plan)) (TurnIn steps)

reads_turn : (steps : List Step) (b : Bool)
    → IsReader (TurnIs steps b) (TurnIn steps b) IsExprsPlace (step_if b steps)
reads_turn steps true = mapped_in (with_step steps) IsStepRest StepRestIn read_one_step
    reads_one_step
reads_turn steps false = none_by IsExprsPlace (ended_with steps)

some_turn : (steps : List Step) (b : Bool) → Begins (TurnIs steps b) []
some_turn steps true =
    (with_step steps some_step.0, some_step.1, mapped some_step.0 some_step.1 some_step.2)
some_turn steps false = (ended_with steps, [], pure)

reads_word : IsReader (One step_or_plan) (Anywhere (One step_or_plan)) IsExprsPlace
    read_step_or_plan
unfolding read_step_or_plan
reads_word =
    replaced (One step_or_plan) (Anywhere (One step_or_plan)) AtToken IsExprsPlace
    read_step_or_plan
    (reads_plain step_or_plan (false, plan_word, one (Keyword keyword.Plan) false refl)
    next_not_last (steady_by step_or_plan (λ n m e. refl) (λ v w e. refl))) token_in

reads_next : (steps : List Step)
    → IsReader (NextIs steps) (NextIn steps) IsExprsPlace (next_step steps)
unfolding next_step
reads_next steps =
    turns_in (One step_or_plan) (Anywhere (One step_or_plan)) (TurnIs steps) (TurnIn steps)
    read_step_or_plan (λ another. step_if another steps) reads_word
    (λ b ks is. reads_turn steps b) (λ b ks is. some_turn steps b) (λ b ks h is. inl (λ j. is))

-- a turn by its tokens
data NextAt (fits : Step → Type 0) (steps : List Step) : List Step × Bool → List TokenKind
    → Type 0 where
  one_more : (s : Step) (ks : List TokenKind) → IsStepRest s ks → fits s
      → NextAt fits steps (with_step steps s) (Keyword keyword.Step ∷ ks)
  no_more : NextAt fits steps (ended_with steps) (Keyword keyword.Plan ∷ [])

abbrev anyhow : Step → Type 0
anyhow s = Unit {0}

next_by : (steps : List Step) (b : Bool) (o : List Step × Bool) (k : TokenKind)
    (ks : List TokenKind) → step_or_plan k ≡ Some b → TurnIs steps b o ks
    → NextAt anyhow steps o (k ∷ ks)
next_by steps true _ k _ e (mapped s ks is) =
    subst (λ (z : TokenKind). NextAt anyhow steps (with_step steps s) (z ∷ ks))
    (sym (is_another k e)) (one_more s ks is tt)
next_by steps false _ k _ e pure =
    subst (λ (z : TokenKind). NextAt anyhow steps (ended_with steps) (z ∷ [])) (sym (is_end k e))
    no_more

next_at : (steps : List Step) (o : List Step × Bool) (ks : List TokenKind) → NextIs steps o ks
    → NextAt anyhow steps o ks
next_at steps _ _ (both b o _ ks (one k _ e) is) = next_by steps b o k ks e is

within_by : (steps : List Step) (b : Bool) (o : List Step × Bool) (k : TokenKind)
    (ks : List TokenKind) (h : Option TokenKind) → step_or_plan k ≡ Some b → TurnIn steps b o ks h
    → NextAt IsStepWithin steps o (k ∷ ks)
within_by steps true _ k _ _ e (mapped_before s ks h is) =
    subst (λ (z : TokenKind). NextAt IsStepWithin steps (with_step steps s) (z ∷ ks))
    (sym (is_another k e)) (one_more s ks is.0.0 is.0.1)
within_by steps false _ k _ h e pure =
    subst (λ (z : TokenKind). NextAt IsStepWithin steps (ended_with steps) (z ∷ []))
    (sym (is_end k e)) no_more

next_in : (steps : List Step) (o : List Step × Bool) (ks : List TokenKind) (h : Option TokenKind)
    → NextIn steps o ks h → NextAt IsStepWithin steps o ks
next_in steps _ _ _ (turn b o _ ks h (one k _ e) is) = within_by steps b o k ks h e is

-- ---- several steps, and the plan's word

record MoreSteps (limits : List Step → Type 0) (steps all : List Step) (ks : List TokenKind)
    : Type 0 where
  new : List Step
  ss : List TokenKind
  are : AreSteps new ss
  fit : limits new
  all_is : all ≡ steps ++ new
  ks_is : ks ≡ ss ++ plan_word

abbrev pub anything : List Step → Type 0
anything steps = Unit {0}

abbrev pub limited : ℕ → List Step → Type 0
limited left steps = (length steps ≤ left) × AreStepsWithin steps

no_step : true ≡ false → ⊥
no_step e = cc

stops : (fits : Step → Type 0) (limits : List Step → Type 0) → limits [] → (steps s2 : List Step)
    (o : List Step × Bool) (ks : List TokenKind) → NextAt fits steps o ks → o ≡ paired s2 false
    → MoreSteps limits steps s2 ks
stops fits limits least steps s2 _ _ (one_more s ks is w) e =
    absurd (no_step (ap (λ (p : List Step × Bool). p.1) e))
stops fits limits least steps s2 _ _ no_more e = record {
  new = [];
  ss = [];
  are = grammar.AreSteps.none;
  fit = least;
  all_is = sym (ap (λ (p : List Step × Bool). p.0) e) ∙ sym (append-nil steps);
  ks_is = refl;
}

goes_on : (fits : Step → Type 0) (limits next : List Step → Type 0)
    → ((s : Step) (ss : List Step) → fits s → next ss → limits (s ∷ ss))
    → (steps s2 all : List Step) (o : List Step × Bool) (ks ls : List TokenKind)
    → NextAt fits steps o ks → o ≡ paired s2 true → MoreSteps next s2 all ls
    → MoreSteps limits steps all (ks ++ ls)
goes_on fits limits next step steps s2 all _ _ ls (one_more s ks is w) e m = record {
  new = s ∷ m.new;
  ss = (Keyword keyword.Step ∷ ks) ++ m.ss;
  are = grammar.AreSteps.next s m.new (Keyword keyword.Step ∷ ks) m.ss is.is m.are;
  fit = step s m.new w m.fit;
  all_is = m.all_is ∙ ap (λ (z : List Step). z ++ m.new)
      (sym (ap (λ (p : List Step × Bool). p.0) e)) ∙ append_assoc steps (s ∷ []) m.new;
  ks_is = ap (λ (z : List TokenKind). (Keyword keyword.Step ∷ ks) ++ z) m.ks_is
      ∙ sym (append_assoc (Keyword keyword.Step ∷ ks) m.ss plan_word);
}
goes_on fits limits next step steps s2 all _ _ ls no_more e m =
    absurd (no_step (sym (ap (λ (p : List Step × Bool). p.1) e)))

gathered : (steps all : List Step) (ks : List TokenKind) → Many NextIs steps all ks
    → MoreSteps anything steps all ks
gathered _ _ _ (last_step steps s2 ks is) =
    stops anyhow anything tt steps s2 (paired s2 false) ks (next_at steps (paired s2 false) ks is)
    refl
gathered _ _ _ (more_steps steps s2 all ks ls is rest) =
    goes_on anyhow anything anything (λ s ss w n. tt) steps s2 all (paired s2 true) ks ls
    (next_at steps (paired s2 true) ks is) refl (gathered s2 all ls rest)

-- the plan's word after the most steps
abbrev same_steps : List Step → Unit {0} → List Step
same_steps steps word = steps

abbrev EndIs : List Step → Grammar (List Step)
EndIs steps = Mapped (same_steps steps) (One plan_mark)

abbrev EndIn : List Step → GrammarBefore (List Step)
EndIn steps = MappedBefore (same_steps steps) (Anywhere (One plan_mark))

end_within : (steps all : List Step) (ks : List TokenKind) (h : Option TokenKind)
    → EndIn steps all ks h → MoreSteps (limited 0) steps all ks
end_within steps _ _ _ (mapped_before x _ h (one k _ e)) = record {
  new = [];
  ss = [];
  are = grammar.AreSteps.none;
  fit = (omega arith, tt);
  all_is = sym (append-nil steps);
  ks_is = ap (λ (z : TokenKind). z ∷ []) (plan_is k x e);
}

within : (left : ℕ) (steps all : List Step) (ks : List TokenKind) (h : Option TokenKind)
    → ManyBefore NextIn EndIn left steps all ks h → MoreSteps (limited left) steps all ks
within _ _ _ _ _ (over steps all ks h is) = end_within steps all ks h is
within _ _ _ _ _ (last_before left steps s2 ks h is) =
    stops IsStepWithin (limited (suc left)) (omega arith, tt) steps s2 (paired s2 false) ks
    (next_in steps (paired s2 false) ks h is) refl
within _ _ _ _ _ (more_before left steps s2 all ks ls h is rest) =
    goes_on IsStepWithin (limited (suc left)) (limited left)
    (λ s ss w n. (omega (arith, n.0), (w, n.1))) steps s2 all (paired s2 true) ks ls
    (next_in steps (paired s2 true) ks (ahead ls h) is) refl (within left s2 all ls h rest)

-- ---- the steps one by one

plan_next : (path : List ℕ) (a : Arg) → EndNext path a (Some (Keyword keyword.Plan))
plan_next [] arg.Nothing = (tt, refl)
plan_next (n ∷ path) arg.Nothing = (refl, refl)
plan_next path (arg.OneExpr e) = tt
plan_next path (arg.TwoLists es fs) = tt

other_next : (path : List ℕ) (a : Arg) → EndNext path a (Some (Keyword keyword.Step))
other_next [] arg.Nothing = (tt, refl)
other_next (n ∷ path) arg.Nothing = (refl, refl)
other_next path (arg.OneExpr e) = tt
other_next path (arg.TwoLists es fs) = tt

step_next : (ss : List Step) (ls : List TokenKind) (h : Option TokenKind) → AreSteps ss ls
    → (path : List ℕ) (a : Arg) → EndNext path a (ahead (ls ++ plan_word) h)
step_next _ _ h grammar.AreSteps.none path a = plan_next path a
step_next _ _ h (grammar.AreSteps.next _ ss _ ls (grammar.IsStep.step s word ds ps gs e is p q)
    others) path a = other_next path a

ending : (left : ℕ) (steps : List Step) (h : Option TokenKind)
    → ManyBefore NextIn EndIn left steps steps plan_word h
ending zero steps h =
    over steps steps plan_word h
    (mapped_before tt plan_word h (one (Keyword keyword.Plan) tt refl))
ending (suc left) steps h =
    last_before left steps steps plan_word h
    (turn false (ended_with steps) plan_word [] h (one (Keyword keyword.Plan) false refl) pure)

apart : (left : ℕ) (steps all new : List Step) (ss : List TokenKind) (h : Option TokenKind)
    → AreSteps new ss → limited left new → all ≡ steps ++ new
    → ManyBefore NextIn EndIn left steps all (ss ++ plan_word) h
apart left steps all _ _ h grammar.AreSteps.none fit e =
    subst (λ (z : List Step). ManyBefore NextIn EndIn left steps z plan_word h)
    (sym (e ∙ append-nil steps)) (ending left steps h)
apart zero steps all _ _ h (grammar.AreSteps.next s ss ks ls is others) fit e =
    absurd (omega (arith, fit.0))
apart (suc left) steps all _ _ h
    (grammar.AreSteps.next _ ss _ ls (grammar.IsStep.step s word ds ps gs f is p q) others) fit e =
    let tail = Name word ∷ (ds ++ (Keyword keyword.At ∷ (ps ++ gs))) in
    let rest = ls ++ plan_word in
    let it : IsStepRest s tail =
    record { is = grammar.IsStep.step s word ds ps gs f is p q } in
    let one_step : NextIn steps (with_step steps s) (Keyword keyword.Step ∷ tail) (ahead rest h) =
    turn true (with_step steps s) (Keyword keyword.Step ∷ []) tail (ahead rest h)
    (one (Keyword keyword.Step) true refl)
    (mapped_before s tail (ahead rest h)
    ((it, fit.1.0), step_next ss ls h others s.path s.arg)) in
    subst (λ (z : List TokenKind). ManyBefore NextIn EndIn (suc left) steps all z h)
    (sym (append_assoc (Keyword keyword.Step ∷ tail) ls plan_word))
    (more_before left steps (steps ++ (s ∷ [])) all (Keyword keyword.Step ∷ tail) rest h one_step
    (apart left (steps ++ (s ∷ [])) all ss ls h others (omega (arith, fit.0), fit.1.1)
    (e ∙ sym (append_assoc steps (s ∷ []) ss))))

-- ---- their reader

last_turn : (steps : List Step) → NextIs steps (ended_with steps) plan_word
last_turn steps =
    both false (ended_with steps) plan_word [] (one (Keyword keyword.Plan) false refl) pure

some_further : (steps : List Step) → Begins (Many NextIs steps) (Keyword keyword.Step ∷ [])
some_further steps =
    let s = some_step in
    let all = steps ++ (s.0 ∷ []) in
    let first : NextIs steps (with_step steps s.0) (Keyword keyword.Step ∷ s.1) =
    both true (with_step steps s.0) (Keyword keyword.Step ∷ []) s.1
    (one (Keyword keyword.Step) true refl) (mapped s.0 s.1 s.2) in (
      all,
      s.1 ++ plan_word,
      more_steps steps all all (Keyword keyword.Step ∷ s.1) plan_word first
          (last_step all all plan_word (last_turn all)),
    )

some_many : (steps : List Step) → Begins (Many NextIs steps) []
some_many steps = (steps, plan_word, last_step steps steps plan_word (last_turn steps))

turns_unended : (steps all : List Step) (ks : List TokenKind) → Many NextIs steps all ks
    → has_last ks ≡ false
turns_unended = many_unended NextIs (λ s o ks is. (reads_next s).unended o ks is)

end_to : (steps all : List Step) (ks : List TokenKind) → EndIs steps all ks
    → Many NextIs steps all ks
end_to steps _ _ (mapped x _ (one k _ e)) =
    subst (λ (z : TokenKind). Many NextIs steps steps (z ∷ [])) (sym (plan_is k x e))
    (last_step steps steps plan_word (last_turn steps))

reads_plan_word : IsReader (One plan_mark) (Anywhere (One plan_mark)) IsExprsPlace read_plan_word
unfolding read_plan_word
reads_plan_word =
    replaced (One plan_mark) (Anywhere (One plan_mark)) AtToken IsExprsPlace read_plan_word
    (reads_plain plan_mark (tt, plan_word, one (Keyword keyword.Plan) tt refl) plan_not_last
    (steady_by plan_mark (λ n m e. refl) (λ v w e. refl))) token_in

read_last : List Step → Reads (List Step)
read_last steps = in_turn read_plan_word (λ word. done_with steps)

reads_last : (steps : List Step)
    → IsReader (Many NextIs steps) (EndIn steps) IsExprsPlace (read_last steps)
unfolding read_last
reads_last steps =
    reworded (EndIs steps) (Many NextIs steps) (EndIn steps) (EndIn steps) IsExprsPlace
    (in_turn read_plan_word (λ word. done_with steps))
    (mapped_in (same_steps steps) (One plan_mark) (Anywhere (One plan_mark)) read_plan_word
    reads_plan_word)
    (end_to steps) (turns_unended steps) (λ all ks h is. is) (λ all ks h is. is)

-- what begins with the plan's word begins with no other step
not_another : (steps all : List Step) (ks : List TokenKind) (h : Option TokenKind)
    → EndIn steps all ks h → NotNext step_mark (ahead ks h)
not_another steps _ _ _ (mapped_before x _ h (one k _ e)) =
    ap (λ (z : TokenKind). step_mark z) (plan_is k x e)

reads_end : (steps : List Step)
    → IsReader (Many NextIs steps) (EndIn steps) IsExprsPlace (end_steps steps)
unfolding end_steps read_no_step read_last
reads_end steps =
    reworded (Many NextIs steps) (Many NextIs steps) (Guarded step_mark (EndIn steps))
    (EndIn steps) IsExprsPlace (end_steps steps)
    (guarded_by (Many NextIs steps) (EndIn steps) IsExprsPlace step_mark step_refused
    (read_last steps) (reads_last steps) (steady_by step_mark (λ n m e. refl) (λ v w e. refl))
    (some_many steps) (λ t x is. token_in [] t (step_refused t.kind t.at) (there refl))
    (λ k at x is. (
      tt,
      subst (λ (z : TokenKind). Begins (Many NextIs steps) (z ∷ [])) (sym (step_is k x is))
          (some_further steps),
    )))
    (λ all ks is. is) (turns_unended steps) (λ all ks h is. is.0)
    (λ all ks h is. (is, not_another steps all ks h is))

-- after a step the plan's word is read
reads_plan_next : (left : ℕ) (steps : List Step)
    → ReadsSome (many_within left next_step end_steps steps)
unfolding many_within next_step end_steps read_no_step read_step_or_plan read_plan_word take_by
    unless
reads_plan_next left steps = (plan_token ∷ [], steps, [], by left)
  where
    plan_token : Token
    plan_token = record { at = 0; kind = Keyword keyword.Plan }

    by : (left : ℕ)
        → many_within left next_step end_steps steps (plan_token ∷ []) ≡ Ok (steps, [])
    by zero = refl
    by (suc left) = refl

-- all steps
pub record AllSteps (limits : List Step → Type 0) (all : List Step) (ks : List TokenKind)
    : Type 0 where
  pub ss : List TokenKind
  pub are : AreSteps all ss
  pub fit : limits all
  pub ks_is : ks ≡ ss ++ (Keyword keyword.Plan ∷ [])

all_of : (limits : List Step → Type 0) (all : List Step) (ks : List TokenKind)
    → MoreSteps limits [] all ks → AllSteps limits all ks
all_of limits all ks m = record {
  ss = m.ss;
  are = subst (λ (z : List Step). AreSteps z m.ss) (sym m.all_is) m.are;
  fit = subst (λ (z : List Step). limits z) (sym m.all_is) m.fit;
  ks_is = m.ks_is;
}

steps_unended : (ss : List Step) (ks : List TokenKind) → AreSteps ss ks → has_last ks ≡ false
steps_unended _ _ grammar.AreSteps.none = refl
steps_unended _ _ (grammar.AreSteps.next s ss ks ls is are) =
    both_unended ks ls (step_unended s ks is) (steps_unended ss ls are)

pub all_unended : (limits : List Step → Type 0) (all : List Step) (ks : List TokenKind)
    → AllSteps limits all ks → has_last ks ≡ false
all_unended limits all ks is =
    ap (λ (z : List TokenKind). has_last z) is.ks_is
    ∙ both_unended is.ss plan_word (steps_unended all is.ss is.are) refl

pub reads_steps : IsReader (AllSteps anything) (Anywhere (AllSteps (limited 256))) IsExprsPlace
    read_steps
unfolding read_steps
reads_steps =
    reworded (Many NextIs []) (AllSteps anything) (ManyBefore NextIn EndIn 256 [])
    (Anywhere (AllSteps (limited 256))) IsExprsPlace read_steps
    (many_by NextIs NextIn EndIn next_step end_steps (λ s. IsExprsPlace) (λ s. IsExprsPlace)
    (λ s. Unit {0}) (λ left s. Unit {0}) reads_next reads_end some_many (λ s before t r p. p)
    (λ s s2 prefix before t r is p. moves_in prefix before t r p)
    (λ left s s2 ks h is. inr (reads_plan_next left s2)) (λ left s fits. tt)
    (λ left s s2 ks h is fits. tt) 256 [])
    (λ all ks m. all_of anything all ks (gathered [] all ks m)) (all_unended anything)
    (λ all ks h m. all_of (limited 256) all ks (within 256 [] all ks h m))
    (λ all ks h is. subst (λ (z : List TokenKind). ManyBefore NextIn EndIn 256 [] all z h)
    (sym is.ks_is) (apart 256 [] all all is.ss h is.are is.fit refl))

pub steps_fit : (ts rest : List Token) (all : List Step) → read_steps ts ≡ Ok (all, rest)
    → length all ≤ 256
steps_fit ts rest all e = (reads_steps.found ts all rest e).1.fit.0
