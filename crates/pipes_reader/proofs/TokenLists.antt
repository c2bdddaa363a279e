-- Tokens, their kinds, and the last one of a text.
use Rattle.std.proofs.Common.{◌≡◌, Bool, true, false, ◌||◌, List, [], ◌∷◌, ◌++◌, refl, sym, ap, ◌∙◌}
use Rattle.std.proofs.lemmas.List.{map-append}
use Rattle.pipes_token.specs.declared.token.TokenKind.{TokenKind}
use Rattle.pipes_token.specs.declared.token.Token.{Token}
use Rattle.pipes_token.specs.Tokens.{is_last}
use Rattle.pipes_reader.specs.Reading.{kinds_of}
use Rattle.pipes_reader.specs.Sentences.{has_last, next_of, ahead}

pub kinds-append : (ts us : List Token) → kinds_of (ts ++ us) ≡ kinds_of ts ++ kinds_of us
kinds-append ts us = map-append (λ (t : Token). t.kind) ts us

-- some tokens of these kinds
pub tokens_of : List TokenKind → List Token
tokens_of [] = []
tokens_of (k ∷ ks) = record { at = 0; kind = k } ∷ tokens_of ks

pub kinds-tokens : (ks : List TokenKind) → kinds_of (tokens_of ks) ≡ ks
unfolding tokens_of
kinds-tokens [] = refl
kinds-tokens (k ∷ ks) = ap (λ (ls : List TokenKind). k ∷ ls) (kinds-tokens ks)

-- ---- tokens in two parts

-- a token and others, whose kinds are these
pub record Cons (k : TokenKind) (ks : List TokenKind) (ts : List Token) : Type 0 where
  pub head : Token
  pub tail : List Token
  pub parts : ts ≡ head ∷ tail
  pub head_kind : head.kind ≡ k
  pub tail_kinds : ks ≡ kinds_of tail

pub uncons : (k : TokenKind) (ks : List TokenKind) (ts : List Token) → k ∷ ks ≡ kinds_of ts
    → Cons k ks ts
uncons k ks [] e = absurd cc
uncons k ks (t ∷ ts) e =
    record { head = t; tail = ts; parts = refl; head_kind = cc; tail_kinds = cc }

-- tokens whose kinds are in two parts
pub record Parts (ks ls : List TokenKind) (ts : List Token) : Type 0 where
  pub prefix : List Token
  pub back : List Token
  pub parts : ts ≡ prefix ++ back
  pub prefix_kinds : ks ≡ kinds_of prefix
  pub back_kinds : ls ≡ kinds_of back

pub split : (ks ls : List TokenKind) (ts : List Token) → ks ++ ls ≡ kinds_of ts → Parts ks ls ts
split [] ls ts e =
    record { prefix = []; back = ts; parts = refl; prefix_kinds = refl; back_kinds = e }
split (k ∷ ks) ls ts e =
    let c = uncons k (ks ++ ls) ts e in
    let p = split ks ls c.tail c.tail_kinds in
    record {
      prefix = c.head ∷ p.prefix;
      back = p.back;
      parts = c.parts ∙ ap (λ (us : List Token). c.head ∷ us) p.parts;
      prefix_kinds = ap (λ (h : TokenKind). h ∷ ks) (sym c.head_kind)
          ∙ ap (λ (ls : List TokenKind). c.head.kind ∷ ls) p.prefix_kinds;
      back_kinds = p.back_kinds;
    }

pub none : (ts : List Token) → [] ≡ kinds_of ts → ts ≡ []
none [] e = refl
none (t ∷ ts) e = absurd cc

-- ---- what comes next

pub next-append : (ts us : List Token) → next_of (ts ++ us) ≡ ahead (kinds_of ts) (next_of us)
next-append [] us = refl
next-append (t ∷ ts) us = refl

-- one token decides what is next, whatever follows it
pub next-same : (ts : List Token) (t : Token) (us vs : List Token)
    → next_of (ts ++ (t ∷ us)) ≡ next_of (ts ++ (t ∷ vs))
next-same [] t us vs = refl
next-same (u ∷ ts) t us vs = refl

-- ---- the last token of a text

pub last-append : (ks ls : List TokenKind) → has_last (ks ++ ls) ≡ has_last ks || has_last ls
last-append [] ls = refl
last-append (k ∷ ks) ls =
    either (has_last (ks ++ ls)) (has_last ks) (has_last ls) (is_last k) (last-append ks ls)
  where
    either : (b c d a : Bool) → b ≡ (c || d) → (a || b) ≡ ((a || c) || d)
    either b c d true e = refl
    either b c d false e = e

-- two parts without it
pub both_unended : (ks ls : List TokenKind) → has_last ks ≡ false → has_last ls ≡ false
    → has_last (ks ++ ls) ≡ false
both_unended ks ls e f = last-append ks ls ∙ ap (λ (b : Bool). b || has_last ls) e ∙ f

-- a part of tokens without it
pub prefix_unended : (ks ls : List TokenKind) → has_last (ks ++ ls) ≡ false → has_last ks ≡ false
prefix_unended ks ls e = first_false (has_last ks) (has_last ls) (sym (last-append ks ls) ∙ e)
  where
    first_false : (a b : Bool) → (a || b) ≡ false → a ≡ false
    first_false true b e = absurd cc
    first_false false b e = refl

-- it comes after a part without it
pub last_after : (prefix us ts : List Token) → has_last (kinds_of prefix) ≡ false
    → ts ≡ prefix ++ us → has_last (kinds_of ts) ≡ true → has_last (kinds_of us) ≡ true
last_after prefix us ts unended parts h =
    ap (λ (b : Bool). b || has_last (kinds_of us)) (sym unended)
    ∙ sym (last-append (kinds_of prefix) (kinds_of us))
    ∙ ap (λ (ks : List TokenKind). has_last ks) (sym (kinds-append prefix us))
    ∙ ap (λ (z : List Token). has_last (kinds_of z)) (sym parts)
    ∙ h
