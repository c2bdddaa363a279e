-- The tokens of a plan's node and what they make, whatever relations its parts are in.
use Rattle.std.proofs.Common.{◌≡◌, List, [], ◌∷◌, ◌++◌, sym, subst, ◌∙◌, append_assoc}
use Rattle.std.proofs.lemmas.List.{append-nil}
use Rattle.pipes_token.specs.declared.token.Sign.TheVariants.{Open, Close, Comma}
use Rattle.pipes_token.specs.declared.token.TokenKind.{TokenKind}
use Rattle.pipes_token.specs.declared.token.TokenKind.TheVariants.{Sign}
use Rattle.pipes_plan.specs.declared.plan.Plan.{Plan}
use Rattle.pipes_grammar.proofs.Readers.{Then, both}
use Rattle.pipes_grammar.proofs.Layers.{Nothing, nothing, with_end, ThisKind, one}
use Rattle.pipes_grammar.proofs.NodeReaders.{Head, head, Heads, heads, OnePlan, one_plan, TwoPlans}
use Rattle.pipes_grammar.proofs.NodeReaders.{two_plans}

-- Child: what the plans below are. Made: what the node is, with its keyword k.
module _ (Child Made : Plan → List TokenKind → Type 0) (k : TokenKind) where
  -- ---- a plan alone: `distinct`

  module _ (node : Plan → Plan) where
    abbrev Over : Plan → List TokenKind → Type 0
    Over = Then (ThisKind (Sign Open)) (λ o. Then (OnePlan Child) (λ a. Nothing (node a)))

    abbrev over_tokens : List TokenKind → List TokenKind
    over_tokens ks = Sign Open ∷ (ks ++ (Sign Close ∷ []))

    over_parts : (ks : List TokenKind)
        → over_tokens ks ≡ (Sign Open ∷ []) ++ ((ks ++ (Sign Close ∷ [])) ++ [])
    over_parts ks = simp (append_assoc, append-nil)

    pub over : ((a : Plan) (ks : List TokenKind) → Child a ks
        → Made (node a) (k ∷ over_tokens ks))
        → (p : Plan) (ls : List TokenKind) → Over p ls → Made p (k ∷ ls)
    over make p _ (both _ _ _ _ one (both _ _ _ ms (one_plan a ks is) end)) =
        with_end (λ z l. Made z (k ∷ ((Sign Open ∷ []) ++ ((ks ++ (Sign Close ∷ [])) ++ l))))
        (node a) p ms end
        (subst (λ (z : List TokenKind). Made (node a) (k ∷ z)) (over_parts ks) (make a ks is))

    pub over_is : (a : Plan) (ks us : List TokenKind) → Child a ks → over_tokens ks ≡ us
        → Over (node a) us
    over_is a ks us is e =
        subst (λ (z : List TokenKind). Over (node a) z) (sym (over_parts ks) ∙ e)
        (both tt (node a) (Sign Open ∷ []) _ one
        (both a (node a) (ks ++ (Sign Close ∷ [])) [] (one_plan a ks is) nothing))

  -- ---- two plans: `union`, `minus`

  module _ (node : Plan → Plan → Plan) where
    abbrev Sides : Plan → List TokenKind → Type 0
    Sides = Then (ThisKind (Sign Open))
        (λ o. Then (TwoPlans Child) (λ ab. Nothing (node ab.0 ab.1)))

    abbrev side_tokens : List TokenKind → List TokenKind → List TokenKind
    side_tokens ks ls = Sign Open ∷ (ks ++ (Sign Comma ∷ (ls ++ (Sign Close ∷ []))))

    side_parts : (ks ls : List TokenKind) → side_tokens ks ls
        ≡ (Sign Open ∷ []) ++ ((ks ++ (Sign Comma ∷ (ls ++ (Sign Close ∷ [])))) ++ [])
    side_parts ks ls = simp (append_assoc, append-nil)

    pub sides : ((a b : Plan) (ks ls : List TokenKind) → Child a ks → Child b ls
        → Made (node a b) (k ∷ side_tokens ks ls))
        → (p : Plan) (ls : List TokenKind) → Sides p ls → Made p (k ∷ ls)
    sides make p _ (both _ _ _ _ one (both _ _ _ ms (two_plans a b ks ls is-a is-b) end)) =
        with_end (λ z l. Made z (k ∷ ((Sign Open ∷ [])
        ++ ((ks ++ (Sign Comma ∷ (ls ++ (Sign Close ∷ [])))) ++ l)))) (node a b) p ms end
        (subst (λ (z : List TokenKind). Made (node a b) (k ∷ z)) (side_parts ks ls)
        (make a b ks ls is-a is-b))

    pub sides_are : (a b : Plan) (ks ls us : List TokenKind) → Child a ks → Child b ls
        → side_tokens ks ls ≡ us → Sides (node a b) us
    sides_are a b ks ls us is-a is-b e =
        subst (λ (z : List TokenKind). Sides (node a b) z) (sym (side_parts ks ls) ∙ e)
        (both tt (node a b) (Sign Open ∷ []) _ one
        (both (a, b) (node a b) (ks ++ (Sign Comma ∷ (ls ++ (Sign Close ∷ [])))) []
        (two_plans a b ks ls is-a is-b) nothing))

  -- ---- a part and a plan: `filter`, `map`

  module _ {A : Type 0} (Part : A → List TokenKind → Type 0) (node : A → Plan → Plan) where
    abbrev Headed : Plan → List TokenKind → Type 0
    Headed = Then (Head Part) (λ x. Then (OnePlan Child) (λ a. Nothing (node x a)))

    abbrev headed_tokens : List TokenKind → List TokenKind → List TokenKind
    headed_tokens cs ks = Sign Open ∷ (cs ++ (Sign Comma ∷ (ks ++ (Sign Close ∷ []))))

    headed_parts : (cs ks : List TokenKind) → headed_tokens cs ks
        ≡ (Sign Open ∷ (cs ++ (Sign Comma ∷ []))) ++ ((ks ++ (Sign Close ∷ [])) ++ [])
    headed_parts cs ks = simp (append_assoc, append-nil)

    pub headed : ((x : A) (a : Plan) (cs ks : List TokenKind) → Part x cs → Child a ks
        → Made (node x a) (k ∷ headed_tokens cs ks))
        → (p : Plan) (ls : List TokenKind) → Headed p ls → Made p (k ∷ ls)
    headed make p _ (both _ _ _ _ (head x cs is-x) (both _ _ _ ms (one_plan a ks is-a) end)) =
        with_end (λ z l. Made z (k ∷ ((Sign Open ∷ (cs ++ (Sign Comma ∷ [])))
        ++ ((ks ++ (Sign Close ∷ [])) ++ l)))) (node x a) p ms end
        (subst (λ (z : List TokenKind). Made (node x a) (k ∷ z)) (headed_parts cs ks)
        (make x a cs ks is-x is-a))

    pub headed_is : (x : A) (a : Plan) (cs ks us : List TokenKind) → Part x cs → Child a ks
        → headed_tokens cs ks ≡ us → Headed (node x a) us
    headed_is x a cs ks us is-x is-a e =
        subst (λ (z : List TokenKind). Headed (node x a) z) (sym (headed_parts cs ks) ∙ e)
        (both x (node x a) (Sign Open ∷ (cs ++ (Sign Comma ∷ []))) _ (head x cs is-x)
        (both a (node x a) (ks ++ (Sign Close ∷ [])) [] (one_plan a ks is-a) nothing))

  module _ {A B : Type 0} (Part : A → List TokenKind → Type 0)
      (Other : B → List TokenKind → Type 0) where
    abbrev heads_of : List TokenKind → List TokenKind → List TokenKind
    heads_of ps cs = Sign Open ∷ (ps ++ (Sign Comma ∷ (cs ++ (Sign Comma ∷ []))))

    -- ---- two parts and a plan: `group`

    module _ (node : A → B → Plan → Plan) where
      abbrev Grouped : Plan → List TokenKind → Type 0
      Grouped = Then (Heads Part Other)
          (λ h. Then (OnePlan Child) (λ a. Nothing (node h.0 h.1 a)))

      abbrev group_tokens : List TokenKind → List TokenKind → List TokenKind → List TokenKind
      group_tokens ps cs ks =
          Sign Open ∷ (ps ++ (Sign Comma ∷ (cs ++ (Sign Comma ∷ (ks ++ (Sign Close ∷ []))))))

      group_parts : (ps cs ks : List TokenKind)
          → group_tokens ps cs ks ≡ heads_of ps cs ++ ((ks ++ (Sign Close ∷ [])) ++ [])
      group_parts ps cs ks = simp (append_assoc, append-nil)

      pub grouped : ((x : A) (y : B) (a : Plan) (ps cs ks : List TokenKind) → Part x ps
          → Other y cs → Child a ks → Made (node x y a) (k ∷ group_tokens ps cs ks))
          → (p : Plan) (ls : List TokenKind) → Grouped p ls → Made p (k ∷ ls)
      grouped make p _ (both _ _ _ _ (heads x y ps cs is-x is-y)
          (both _ _ _ ms (one_plan a ks is-a) end)) =
          with_end (λ z l. Made z (k ∷ (heads_of ps cs ++ ((ks ++ (Sign Close ∷ [])) ++ l))))
          (node x y a) p ms end
          (subst (λ (z : List TokenKind). Made (node x y a) (k ∷ z)) (group_parts ps cs ks)
          (make x y a ps cs ks is-x is-y is-a))

      pub grouped_is : (x : A) (y : B) (a : Plan) (ps cs ks us : List TokenKind) → Part x ps
          → Other y cs → Child a ks → group_tokens ps cs ks ≡ us → Grouped (node x y a) us
      grouped_is x y a ps cs ks us is-x is-y is-a e =
          subst (λ (z : List TokenKind). Grouped (node x y a) z) (sym (group_parts ps cs ks) ∙ e)
          (both (x, y) (node x y a) (heads_of ps cs) _ (heads x y ps cs is-x is-y)
          (both a (node x y a) (ks ++ (Sign Close ∷ [])) [] (one_plan a ks is-a) nothing))

    -- ---- two parts and two plans: `join`

    module _ (node : A → B → Plan → Plan → Plan) where
      abbrev Joined : Plan → List TokenKind → Type 0
      Joined = Then (Heads Part Other)
          (λ h. Then (TwoPlans Child) (λ ab. Nothing (node h.0 h.1 ab.0 ab.1)))

      abbrev join_tokens : List TokenKind → List TokenKind → List TokenKind → List TokenKind
          → List TokenKind
      join_tokens ps cs ks ls = Sign Open ∷ (ps ++ (Sign Comma ∷ (cs ++ (Sign Comma ∷
          (ks ++ (Sign Comma ∷ (ls ++ (Sign Close ∷ []))))))))

      join_parts : (ps cs ks ls : List TokenKind) → join_tokens ps cs ks ls
          ≡ heads_of ps cs ++ ((ks ++ (Sign Comma ∷ (ls ++ (Sign Close ∷ [])))) ++ [])
      join_parts ps cs ks ls = simp (append_assoc, append-nil)

      pub joined : ((x : A) (y : B) (a b : Plan) (ps cs ks ls : List TokenKind) → Part x ps
          → Other y cs → Child a ks → Child b ls
          → Made (node x y a b) (k ∷ join_tokens ps cs ks ls))
          → (p : Plan) (ls : List TokenKind) → Joined p ls → Made p (k ∷ ls)
      joined make p _ (both _ _ _ _ (heads x y ps cs is-x is-y)
          (both _ _ _ ms (two_plans a b ks ls is-a is-b) end)) =
          with_end (λ z l. Made z (k ∷ (heads_of ps cs
          ++ ((ks ++ (Sign Comma ∷ (ls ++ (Sign Close ∷ [])))) ++ l)))) (node x y a b) p ms end
          (subst (λ (z : List TokenKind). Made (node x y a b) (k ∷ z)) (join_parts ps cs ks ls)
          (make x y a b ps cs ks ls is-x is-y is-a is-b))

      pub joined_is : (x : A) (y : B) (a b : Plan) (ps cs ks ls us : List TokenKind) → Part x ps
          → Other y cs → Child a ks → Child b ls → join_tokens ps cs ks ls ≡ us
          → Joined (node x y a b) us
      joined_is x y a b ps cs ks ls us is-x is-y is-a is-b e =
          subst (λ (z : List TokenKind). Joined (node x y a b) z) (sym (join_parts ps cs ks ls) ∙ e)
          (both (x, y) (node x y a b) (heads_of ps cs) _ (heads x y ps cs is-x is-y)
          (both (a, b) (node x y a b) (ks ++ (Sign Comma ∷ (ls ++ (Sign Close ∷ [])))) []
          (two_plans a b ks ls is-a is-b) nothing))
