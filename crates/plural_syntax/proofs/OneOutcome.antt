-- The answers of `parse` exclude one another.
use Rattle.std.proofs.Common.{◌≡◌, ℕ, List, [], ◌∷◌, ◌++◌, Option, Some, None, Result, Ok, Err, ◌⊎◌, inl, inr, refl, sym, ap, subst, ◌∙◌, append_assoc}
use Rattle.plural_syntax.specs.declared.word.Word.TheVariants as w
use Rattle.plural_syntax.specs.declared.tree.Script.{Script}
use Rattle.plural_syntax.specs.declared.parsing.SyntaxFault.{SyntaxFault}
use Rattle.plural_syntax.specs.declared.parsing.SyntaxFault.TheVariants as fault
use Rattle.plural_syntax.specs.Words.{Lexeme, word}
use Rattle.plural_syntax.specs.Levels.{on_some, walk, levels}
use Rattle.plural_syntax.specs.Grammar.{IsScript}
use Rattle.plural_syntax.specs.Outcome.{BeginsScript, IsParsed, IsUnexpected, IsTooDeep, Answers}
use Rattle.plural_syntax.proofs.Readers.{walk-append}
use Rattle.plural_syntax.proofs.ScriptRules.{one_script}

-- of two places in a list, they are one, or one is the earlier
abbrev Compared : List Lexeme → Lexeme → List Lexeme → Lexeme → Type 0
Compared f x g y = ((f ≡ g) × (x ≡ y)) ⊎ (((m : List Lexeme) × (g ≡ (f ++ x ∷ []) ++ m)) ⊎ ((m : List Lexeme) × (f ≡ (g ++ y ∷ []) ++ m)))

one_on : (z : Lexeme) (f : List Lexeme) (x : Lexeme) (g : List Lexeme) (y : Lexeme) → Compared f x g y → Compared (z ∷ f) x (z ∷ g) y
one_on z f x g y (inl e) = inl (ap (λ l. z ∷ l) e.0, e.1)
one_on z f x g y (inr (inl e)) = inr (inl (e.0, ap (λ l. z ∷ l) e.1))
one_on z f x g y (inr (inr e)) = inr (inr (e.0, ap (λ l. z ∷ l) e.1))

compare : (f : List Lexeme) (x : Lexeme) (r : List Lexeme) (g : List Lexeme) (y : Lexeme) (s : List Lexeme) → f ++ x ∷ r ≡ g ++ y ∷ s → Compared f x g y
compare [] x r [] y s e = let h : x ≡ y = cc e in inl (refl, h)
compare [] x r (z ∷ g) y s e = let h : z ≡ x = cc e in inr (inl (g, ap (λ a. a ∷ g) h))
compare (z ∷ f) x r [] y s e = let h : z ≡ y = cc e in inr (inr (f, ap (λ a. a ∷ f) h))
compare (z ∷ f) x r (u ∷ g) y s e =
    let h : z ≡ u = cc e in
    let k : f ++ x ∷ r ≡ g ++ y ∷ s = cc e in
    subst (λ a. Compared (z ∷ f) x (a ∷ g) y) h (one_on z f x g y (compare f x r g y s k))

front_same : {x y : Lexeme} {f g : List Lexeme} → f ≡ g → x ≡ y → f ++ x ∷ [] ≡ g ++ y ∷ []
front_same {x = x} {g = g} e h = ap (λ l. l ++ x ∷ []) e ∙ ap (λ z. g ++ z ∷ []) h

fault_same : {a b c d : ℕ} (k : ℕ → ℕ → SyntaxFault) → a ≡ b → c ≡ d → k a c ≡ k b d
fault_same {b = b} {c = c} k e h = ap (λ x. k x c) e ∙ ap (k b) h

prefix_begins : (f m : List Lexeme) → BeginsScript (f ++ m) → BeginsScript f
prefix_begins f m b = (b.0, m ++ b.1, subst (IsScript b.0) (append_assoc f m b.1) b.2)

spelled_begins : (s : Script) (ls f : List Lexeme) (x : Lexeme) (r : List Lexeme) → ls ≡ f ++ x ∷ r → IsScript s ls → BeginsScript (f ++ x ∷ [])
spelled_begins s ls f x r e h = (s, r, subst (IsScript s) (e ∙ sym (append_assoc f (x ∷ []) r)) h)

stuck_at : (ls f : List Lexeme) (x : Lexeme) (r : List Lexeme) → ls ≡ f ++ x ∷ r → word x ≡ w.Open → walk levels 64 f ≡ Some 0 → walk levels 64 ls ≡ None
stuck_at ls f x r e o k =
    ap (walk levels 64) e ∙ walk-append levels 64 f (x ∷ r) ∙ ap (λ p. on_some p (λ d. walk levels d (x ∷ r))) k ∙ ap (λ v. on_some (levels 0 v) (λ d. walk levels d r)) o

not_both : (o : Option ℕ) (d : ℕ) → o ≡ None → o ≡ Some d → ⊥
not_both o d e f = cc

parsed_unexpected : (ls : List Lexeme) (s : Script) (l c : ℕ) → IsParsed ls s → IsUnexpected ls l c → ⊥
parsed_unexpected ls s l c p u = u.with_it (spelled_begins s ls u.front u.here u.rest u.split p.spells)

parsed_deep : (ls : List Lexeme) (s : Script) (l c : ℕ) → IsParsed ls s → IsTooDeep ls l c → ⊥
parsed_deep ls s l c p u = not_both (walk levels 64 ls) 64 (stuck_at ls u.front u.here u.rest u.split u.opens u.none_left) p.within

earlier : (f m : List Lexeme) (x : Lexeme) (g : List Lexeme) → g ≡ (f ++ x ∷ []) ++ m → g ≡ f ++ x ∷ m
earlier f m x g e = e ∙ append_assoc f (x ∷ []) m

unexpected_deep : (ls : List Lexeme) (l c l2 c2 : ℕ) → IsUnexpected ls l c → IsTooDeep ls l2 c2 → ⊥
unexpected_deep ls l c l2 c2 u v = elim (compare u.front u.here u.rest v.front v.here v.rest (sym u.split ∙ v.split)) [
  | inl e ↦ u.with_it (subst BeginsScript (sym (front_same e.0 e.1)) v.before)
  | inr (inl e) ↦ u.with_it (prefix_begins (u.front ++ u.here ∷ []) (e.0 ++ v.here ∷ []) (subst BeginsScript (ap (λ l. l ++ v.here ∷ []) e.1 ∙ append_assoc (u.front ++ u.here ∷ []) e.0 (v.here ∷ [])) v.before))
  | inr (inr e) ↦ not_both (walk levels 64 u.front) u.left (stuck_at u.front v.front v.here e.0 (earlier v.front e.0 v.here u.front e.1) v.opens v.none_left) u.within
]

same_place : {l c l2 c2 : ℕ} (x y : Lexeme) → x ≡ y → l ≡ x.token.line → c ≡ x.token.column → l2 ≡ y.token.line → c2 ≡ y.token.column → (l ≡ l2) × (c ≡ c2)
same_place x y e a b p q = (a ∙ ap (λ z. z.token.line) e ∙ sym p, b ∙ ap (λ z. z.token.column) e ∙ sym q)

unexpected_once : (ls : List Lexeme) (l c l2 c2 : ℕ) → IsUnexpected ls l c → IsUnexpected ls l2 c2 → (l ≡ l2) × (c ≡ c2)
unexpected_once ls l c l2 c2 u v = elim (compare u.front u.here u.rest v.front v.here v.rest (sym u.split ∙ v.split)) [
  | inl e ↦ same_place u.here v.here e.1 u.at_line u.at_column v.at_line v.at_column
  | inr (inl e) ↦ absurd (u.with_it (prefix_begins (u.front ++ u.here ∷ []) e.0 (subst BeginsScript e.1 v.before)))
  | inr (inr e) ↦ absurd (v.with_it (prefix_begins (v.front ++ v.here ∷ []) e.0 (subst BeginsScript e.1 u.before)))
]

deep_once : (ls : List Lexeme) (l c l2 c2 : ℕ) → IsTooDeep ls l c → IsTooDeep ls l2 c2 → (l ≡ l2) × (c ≡ c2)
deep_once ls l c l2 c2 u v = elim (compare u.front u.here u.rest v.front v.here v.rest (sym u.split ∙ v.split)) [
  | inl e ↦ same_place u.here v.here e.1 u.at_line u.at_column v.at_line v.at_column
  | inr (inl e) ↦ absurd (not_both (walk levels 64 v.front) 0 (stuck_at v.front u.front u.here e.0 (earlier u.front e.0 u.here v.front e.1) u.opens u.none_left) v.none_left)
  | inr (inr e) ↦ absurd (not_both (walk levels 64 u.front) 0 (stuck_at u.front v.front v.here e.0 (earlier v.front e.0 v.here u.front e.1) v.opens v.none_left) u.none_left)
]

pub one_outcome : (ls : List Lexeme) (r s : Result Script SyntaxFault) → (r ≡ Err fault.Memory → ⊥) → (s ≡ Err fault.Memory → ⊥) → Answers ls r → Answers ls s → r ≡ s
one_outcome ls (Ok a) (Ok b) m n p q = ap Ok (one_script ls a b p.spells q.spells)
one_outcome ls (Ok a) (Err (fault.Unexpected l c)) m n p q = absurd (parsed_unexpected ls a l c p q)
one_outcome ls (Ok a) (Err (fault.Deep l c)) m n p q = absurd (parsed_deep ls a l c p q)
one_outcome ls (Ok a) (Err fault.Memory) m n p q = absurd (n refl)
one_outcome ls (Err (fault.Unexpected l c)) (Ok b) m n p q = absurd (parsed_unexpected ls b l c q p)
one_outcome ls (Err (fault.Unexpected l c)) (Err (fault.Unexpected l2 c2)) m n p q = let e = unexpected_once ls l c l2 c2 p q in ap Err (fault_same fault.Unexpected e.0 e.1)
one_outcome ls (Err (fault.Unexpected l c)) (Err (fault.Deep l2 c2)) m n p q = absurd (unexpected_deep ls l c l2 c2 p q)
one_outcome ls (Err (fault.Unexpected l c)) (Err fault.Memory) m n p q = absurd (n refl)
one_outcome ls (Err (fault.Deep l c)) (Ok b) m n p q = absurd (parsed_deep ls b l c q p)
one_outcome ls (Err (fault.Deep l c)) (Err (fault.Unexpected l2 c2)) m n p q = absurd (unexpected_deep ls l2 c2 l c q p)
one_outcome ls (Err (fault.Deep l c)) (Err (fault.Deep l2 c2)) m n p q = let e = deep_once ls l c l2 c2 p q in ap Err (fault_same fault.Deep e.0 e.1)
one_outcome ls (Err (fault.Deep l c)) (Err fault.Memory) m n p q = absurd (n refl)
one_outcome ls (Err fault.Memory) s m n p q = absurd (m refl)
