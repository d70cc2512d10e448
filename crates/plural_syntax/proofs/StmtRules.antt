-- The rules of statements.
use Rattle.std.proofs.Common.{◌≡◌, ℕ, suc, Bool, true, false, [], ◌∷◌, ◌++◌, List, Option, Some, None, inl, inr, refl, sym, ap, subst, ◌∙◌, append_assoc}
use Rattle.std.specs.Option.{option_map}
use Rattle.plural_lexer.specs.declared.token.Token.{Token}
use Rattle.plural_syntax.specs.declared.word.Word.{Word}
use Rattle.plural_syntax.specs.declared.word.Word.TheVariants as w
use Rattle.plural_syntax.specs.declared.statements.Start.{Start}
use Rattle.plural_syntax.specs.declared.statements.Start.TheVariants as start
use Rattle.plural_syntax.specs.Words.{Lexeme, word, is, is_either, head_is}
use Rattle.plural_syntax.specs.Grammar.{Lang, Optional, IsTokenGroup, IsIndex, IsPower, IsBase, AreScaled, AreAdded, IsExpr, IsList, IsExprPair, IsVars, IsOrder, IsValue, IsValues, IsSide, IsStatement}
use Rattle.plural_syntax.specs.Grammar.IsBase.{int, name, group, call}
use Rattle.plural_syntax.specs.Grammar.IsFactor.{factor}
use Rattle.plural_syntax.specs.Grammar.IsTerm.{term}
use Rattle.plural_syntax.specs.Grammar.IsExpr.{unsigned, signed}
use Rattle.plural_syntax.specs.Grammar.IsIndex.{index as is_index}
use Rattle.plural_syntax.specs.Grammar.Optional.{absent, present}
use Rattle.plural_syntax.specs.Grammar.IsTokenAfter.{token_after as is_token_after}
use Rattle.plural_syntax.specs.Grammar.{IsStatement as st}
use Rattle.plural_syntax.specs.declared.tree.Function.{Function}
use Rattle.plural_syntax.specs.declared.tree.Function.TheVariants as fn
use Rattle.plural_syntax.specs.declared.tree.FunctionName.{FunctionName}
use Rattle.plural_syntax.specs.declared.tree.Base.{Base}
use Rattle.plural_syntax.specs.declared.tree.Base.TheVariants as base
use Rattle.plural_syntax.specs.declared.tree.Scaled.{Scaled}
use Rattle.plural_syntax.specs.declared.tree.Statement.{Statement}
use Rattle.plural_syntax.specs.declared.tree.Statement.TheVariants as statement
use Rattle.plural_syntax.specs.declared.tree.Added.{Added}
use Rattle.plural_syntax.specs.declared.tree.Expr.{Expr}
use Rattle.plural_syntax.specs.declared.tree.ExprList.{ExprList}
use Rattle.plural_syntax.specs.declared.tree.Power.{Power}
use Rattle.plural_syntax.specs.declared.tree.Index.{Index}
use Rattle.plural_syntax.specs.declared.tree.TokenAfter.{TokenAfter}
use Rattle.plural_syntax.specs.Inside.Reading.{Parser, refuse, when, pair_with, expr_with, start_of, empty_statement, ring_statement, set_ring_statement, option_statement, short_statement, quit_statement, print_with, printed_with, expr_statement_with, defined_with, def_with, poly_with, after_ideal, ideal_with, module_with, matrix_with, assign_with, assign_entry_with, assigned_entry, after_name, named_with, statement_from, statement_with, not_end}
use Rattle.plural_syntax.proofs.Words.{same_word, same_either, each_function}
use Rattle.plural_syntax.proofs.Readers.{Seq, Takes, Nothing, reads_when, reads_refuse, reads_weak}
use Rattle.plural_syntax.proofs.Readers.Seq.{seq}
use Rattle.plural_syntax.proofs.Readers.Takes.{takes}
use Rattle.plural_syntax.proofs.Readers.Nothing.{nothing}
use Rattle.plural_syntax.proofs.Finders.{Or, At, finds_when}
use Rattle.plural_syntax.proofs.Rules.{Rule, Starts, Avoids, Covers, in_set, covers_is, covers_set, rule_bind, rule_then, done, tok, yields, head_takes, into, rule_when, rule_by, starts_takes, avoids_nothing, avoids_many, avoids_maybe}
use Rattle.plural_syntax.proofs.Strict.{strict, Levelled, Inner, rule_level}
use Rattle.plural_syntax.proofs.Strict.Levelled.{levelled}
use Rattle.plural_syntax.proofs.ExprRules.{tk, fin, named, goes_base, goes_expr, Called, Resumed, resumed_expr, Firsts, expr_head, rule_token_group, rule_maybe_index, rule_list, inner_pair, rule_called, rule_expr_with, rule_resumed, power_starts, scaled_starts, added_starts, to_all_scaled, from_all_scaled, to_all_added, from_all_added}
use Rattle.plural_syntax.proofs.PartRules.{rule_vars, rule_order, rule_side, rule_maybe_value, rule_maybe_values}

-- ---- the languages of the alternatives, by how they begin

abbrev Semi : (Token → Statement) → Lang Statement
Semi f = Seq (Takes w.Semicolon) (λ s. Nothing (f s))

abbrev Printing : Expr → Lang Statement
Printing x = Semi (λ s. statement.Print x s)

abbrev Printed : Base → Lang Statement
Printed b = Seq (Resumed b) Printing

abbrev AsAlgebra : Token → Token → Token → Lang Statement
AsAlgebra a n e = Seq (Takes w.NcAlgebra) (λ k. Seq (Levelled IsExprPair) (λ g. Semi (λ s. statement.NcAlgebra a n e k g.0 g.1 g.2 s)))

abbrev AsDef : Token → Token → Token → Lang Statement
AsDef a n e = Seq IsExpr (λ x. Semi (λ s. statement.Def a n e x s))

abbrev ideal_name : Token → FunctionName
ideal_name a = record { token = a; function = fn.Ideal }

abbrev AsIdeal : Token → Lang Statement
AsIdeal a = Seq (Takes w.Name) (λ n. Seq (Optional IsValues) (λ v. Semi (λ s. statement.Ideal a n v s)))

abbrev AsAssign : Token → Lang Statement
AsAssign n = Seq (Takes w.Equals) (λ e. Seq IsList (λ l. Semi (λ s. statement.Assign n e l s)))

abbrev AsEntry : Token → Index → TokenAfter → Lang Statement
AsEntry n i j = Seq (Takes w.Equals) (λ e. Seq IsExpr (λ x. Semi (λ s. statement.AssignEntry n i.opening i.first j.comma j.token i.closing e x s)))

abbrev AssignedEntry : Token → Index → Option TokenAfter → Lang Statement
AssignedEntry n i None x ls = ⊥
AssignedEntry n i (Some j) x ls = AsEntry n i j x ls

abbrev Assigned : Token → Option Index → Lang Statement
Assigned n None x ls = AsAssign n x ls
Assigned n (Some i) x ls = AssignedEntry n i i.second x ls

abbrev After : Token → Option Index → Lang Statement
After n i = Or (Assigned n i) (Printed (base.Name n i))

abbrev Of : Start → Lang Statement
Of start.Empty = Semi (λ s. statement.Empty s)
Of start.Ring = Seq (Takes w.Ring) (λ a. Seq (Takes w.Name) (λ n. Seq (Takes w.Equals) (λ e. Seq (Takes w.Int) (λ p. Seq (Takes w.Comma) (λ c. Seq IsVars (λ v. Seq (Takes w.Comma) (λ k. Seq IsOrder (λ o. Semi (λ s. statement.Ring a n e p c v k o s)))))))))
Of start.SetRing = Seq (Takes w.SetRing) (λ a. Seq (Takes w.Name) (λ n. Semi (λ s. statement.SetRing a n s)))
Of start.Def = Seq (Takes w.Def) (λ a. Seq (Takes w.Name) (λ n. Seq (Takes w.Equals) (λ e. Or (AsAlgebra a n e) (AsDef a n e))))
Of start.Poly = Seq (Takes w.Poly) (λ a. Seq (Takes w.Name) (λ n. Seq (Optional IsValue) (λ v. Semi (λ s. statement.Poly a n v s))))
Of start.Ideal = Seq (Takes (w.Function fn.Ideal)) (λ a. Or (AsIdeal a) (Seq (Called (ideal_name a)) Printed))
Of start.Module = Seq (Takes w.Module) (λ a. Seq (Takes w.Name) (λ n. Seq (Optional IsValue) (λ v. Semi (λ s. statement.Module a n v s))))
Of start.Matrix = Seq (Takes w.Matrix) (λ a. Seq (Takes w.Name) (λ n. Seq IsSide (λ r. Seq IsSide (λ c. Seq (Optional IsValues) (λ v. Semi (λ s. statement.Matrix a n r c v s))))))
Of start.Option = Seq (Takes w.Option) (λ a. Seq (IsTokenGroup w.Name) (λ g. Semi (λ s. statement.Option a g s)))
Of start.Short = Seq (Takes w.Short) (λ a. Seq (Takes w.Equals) (λ e. Seq (Takes w.Int) (λ n. Semi (λ s. statement.Short a e n s))))
Of start.Quit = Seq (Takes w.Quit) (λ a. Semi (λ s. statement.Quit a s))
Of start.Name = Seq (Takes w.Name) (λ n. Seq (Optional IsIndex) (λ i. After n i))
Of start.Expr = Seq IsExpr Printing

-- ---- from the parts to the grammar

regroup : (bs ps ts ms : List Lexeme) → ((bs ++ ps) ++ ts) ++ ms ≡ bs ++ (ps ++ (ts ++ ms))
regroup bs ps ts ms = append_assoc (bs ++ ps) ts ms ∙ append_assoc bs ps (ts ++ ms)

resume : (b : Base) (bs : List Lexeme) → IsBase b bs → (x : Expr) (xs : List Lexeme) → Resumed b x xs → IsExpr x (bs ++ xs)
resume b bs h _ _ (seq p _ ps _ hp (seq ts _ tms _ ht (seq m _ ms zs hm z))) =
    done (λ x q. IsExpr x (bs ++ (ps ++ (tms ++ q)))) _ _ ms zs z
    (subst (IsExpr (resumed_expr b p ts m)) (regroup bs ps tms ms) (unsigned _ m ((bs ++ ps) ++ tms) ms (term _ ts (bs ++ ps) tms (factor b p bs ps h hp) (to_all_scaled ts tms ht)) (to_all_added m ms hm)))

printing : (b : Base) (bs : List Lexeme) → IsBase b bs → (x : Statement) (xs : List Lexeme) → Printed b x xs → IsStatement x (bs ++ xs)
printing b bs h _ _ (seq x _ xs _ r (seq _ _ _ _ (takes s z) nothing)) = subst (IsStatement (statement.Print x s.token)) (append_assoc bs xs (s ∷ [])) (st.print s x (bs ++ xs) (resume b bs h x xs r) z)

called_base : (f : Lexeme) → word f ≡ w.Function fn.Ideal → (b : Base) (gs : List Lexeme) → Called (ideal_name f.token) b gs → IsBase b (f ∷ gs)
called_base f h _ _ (seq _ _ _ zs (levelled a b l ls i k m) z) = done (λ x q. IsBase x (f ∷ q)) _ _ (a ∷ (ls ++ b ∷ [])) zs z (call f a b fn.Ideal l ls h i k m)

to_ideal : (f : Lexeme) → word f ≡ w.Function fn.Ideal → (x : Statement) (xs : List Lexeme) → Or (AsIdeal f.token) (Seq (Called (ideal_name f.token)) Printed) x xs → IsStatement x (f ∷ xs)
to_ideal a h _ _ (inl (seq _ _ _ _ (takes n k) (seq v _ vs _ m (seq _ _ _ _ (takes s z) nothing)))) = st.ideal a n s v vs h k m z
to_ideal f h x _ (inr (seq b _ gs xs g r)) = printing b (f ∷ gs) (called_base f h b gs g) x xs r

to_entry : (n : Lexeme) → word n ≡ w.Name → (i : Index) (is : List Lexeme) → IsIndex i is → (x : Statement) (xs : List Lexeme) → AssignedEntry n.token i i.second x xs → IsStatement x (n ∷ (is ++ xs))
to_entry n h _ _ (is_index o i k _ _ ho hi absent hk) x xs r = absurd r
to_entry n h _ _ (is_index o i k _ _ ho hi (present _ _ (is_token_after c j hc hj)) hk) _ _ (seq _ _ _ _ (takes e he) (seq x _ xs _ hx (seq _ _ _ _ (takes s z) nothing))) = st.assign_entry n o i c j k e s x xs h ho hi hc hj hk he hx z

to_after : (n : Lexeme) → word n ≡ w.Name → (i : Option Index) (is : List Lexeme) → Optional IsIndex i is → (x : Statement) (xs : List Lexeme) → After n.token i x xs → IsStatement x (n ∷ (is ++ xs))
to_after n h _ _ absent _ _ (inl (seq _ _ _ _ (takes e he) (seq l _ ls _ hl (seq _ _ _ _ (takes s z) nothing)))) = st.assign n e s l ls h he hl z
to_after n h _ _ (present i is r) x xs (inl a) = to_entry n h i is r x xs a
to_after n h i is r x xs (inr p) = printing (base.Name n.token i) (n ∷ is) (name n i is h r) x xs p

to_def : (a n e : Lexeme) → word a ≡ w.Def → word n ≡ w.Name → word e ≡ w.Equals → (x : Statement) (xs : List Lexeme) → Or (AsAlgebra a.token n.token e.token) (AsDef a.token n.token e.token) x xs → IsStatement x (a ∷ n ∷ e ∷ xs)
to_def a n e h k m _ _ (inl (seq _ _ _ _ (takes q o) (seq _ _ _ _ (levelled l c x xs u v y) (seq _ _ _ _ (takes s z) nothing)))) = rw (append_assoc xs (c ∷ []) (s ∷ [])) (st.nc_algebra a n e q l c s x xs h k m o u v y z)
to_def a n e h k m _ _ (inr (seq x _ xs _ hx (seq _ _ _ _ (takes s z) nothing))) = st.def a n e s x xs h k m hx z

to_statement : (y : Start) (x : Statement) (ls : List Lexeme) → Of y x ls → IsStatement x ls
to_statement start.Empty _ _ (seq _ _ _ _ (takes s z) nothing) = st.empty s z
to_statement start.Ring _ _ (seq _ _ _ _ (takes a ha) (seq _ _ _ _ (takes n hn) (seq _ _ _ _ (takes e he) (seq _ _ _ _ (takes p hp) (seq _ _ _ _ (takes c hc) (seq v _ vs _ hv (seq _ _ _ _ (takes k hk) (seq o _ os _ ho (seq _ _ _ _ (takes s z) nothing))))))))) = st.ring a n e p c k s v o vs os ha hn he hp hc hv hk ho z
to_statement start.SetRing _ _ (seq _ _ _ _ (takes a ha) (seq _ _ _ _ (takes n hn) (seq _ _ _ _ (takes s z) nothing))) = st.set_ring a n s ha hn z
to_statement start.Def x _ (seq _ _ _ _ (takes a ha) (seq _ _ _ _ (takes n hn) (seq _ _ _ xs (takes e he) r))) = to_def a n e ha hn he x xs r
to_statement start.Poly _ _ (seq _ _ _ _ (takes a ha) (seq _ _ _ _ (takes n hn) (seq v _ vs _ hv (seq _ _ _ _ (takes s z) nothing)))) = st.poly a n s v vs ha hn hv z
to_statement start.Ideal x _ (seq _ _ _ xs (takes a ha) r) = to_ideal a ha x xs r
to_statement start.Module _ _ (seq _ _ _ _ (takes a ha) (seq _ _ _ _ (takes n hn) (seq v _ vs _ hv (seq _ _ _ _ (takes s z) nothing)))) = st.«module» a n s v vs ha hn hv z
to_statement start.Matrix _ _ (seq _ _ _ _ (takes a ha) (seq _ _ _ _ (takes n hn) (seq r _ rs _ hr (seq c _ cs _ hc (seq v _ vs _ hv (seq _ _ _ _ (takes s z) nothing)))))) = st.matrix a n s r c v rs cs vs ha hn hr hc hv z
to_statement start.Option _ _ (seq _ _ _ _ (takes a ha) (seq g _ gs _ hg (seq _ _ _ _ (takes s z) nothing))) = st.option a s g gs ha hg z
to_statement start.Short _ _ (seq _ _ _ _ (takes a ha) (seq _ _ _ _ (takes e he) (seq _ _ _ _ (takes n hn) (seq _ _ _ _ (takes s z) nothing)))) = st.short a e n s ha he hn z
to_statement start.Quit _ _ (seq _ _ _ _ (takes a ha) (seq _ _ _ _ (takes s z) nothing)) = st.quit a s ha z
to_statement start.Name x _ (seq _ _ _ _ (takes n hn) (seq i _ is xs hi r)) = to_after n hn i is hi x xs r
to_statement start.Expr _ _ (seq x _ xs _ hx (seq _ _ _ _ (takes s z) nothing)) = st.print s x xs hx z

-- ---- from the grammar to the parts

semi : {f : Token → Statement} (s : Lexeme) → word s ≡ w.Semicolon → Semi f (f s.token) (s ∷ [])
semi s z = tk s z nothing

resumed_of : (b : Base) (p : Option Power) (ts : List Scaled) (m : List Added) (ps tms ms : List Lexeme) → Optional IsPower p ps → AreScaled ts tms → AreAdded m ms → Resumed b (resumed_expr b p ts m) (ps ++ (tms ++ ms))
resumed_of b p ts m ps tms ms hp ht hm = seq p _ ps (tms ++ ms) hp (seq ts _ tms ms (from_all_scaled ts tms ht) (fin _ (from_all_added m ms hm)))

printed_of : (b : Base) (p : Option Power) (ts : List Scaled) (m : List Added) (ps tms ms : List Lexeme) → Optional IsPower p ps → AreScaled ts tms → AreAdded m ms → (s : Lexeme) → word s ≡ w.Semicolon → Printed b (statement.Print (resumed_expr b p ts m) s.token) ((ps ++ (tms ++ ms)) ++ s ∷ [])
printed_of b p ts m ps tms ms hp ht hm s z = seq (resumed_expr b p ts m) _ (ps ++ (tms ++ ms)) (s ∷ []) (resumed_of b p ts m ps tms ms hp ht hm) (tk s z nothing)

regroup_end : (bs ps ts ms es : List Lexeme) → (((bs ++ ps) ++ ts) ++ ms) ++ es ≡ bs ++ ((ps ++ (ts ++ ms)) ++ es)
regroup_end bs ps ts ms es = ap (λ l. l ++ es) (regroup bs ps ts ms) ∙ append_assoc bs (ps ++ (ts ++ ms)) es

-- an expression that begins with a call
abbrev call_expr : Lexeme → Function → Lexeme → Lexeme → ExprList → List Scaled → List Added → Option Power → Expr
call_expr n f a b l ts m p = resumed_expr (base.Call (named n f) a.token l b.token) p ts m

abbrev call_lexemes : Lexeme → Lexeme → Lexeme → List Lexeme → List Lexeme → List Lexeme → List Lexeme → List Lexeme
call_lexemes n a b ls ps tms ms = (((n ∷ a ∷ (ls ++ b ∷ [])) ++ ps) ++ tms) ++ ms

abbrev FromCall : Function → Type 0
FromCall f = (s n a b : Lexeme) (l : ExprList) (ls : List Lexeme) (ts : List Scaled) (m : List Added) (p : Option Power) (tms ms ps : List Lexeme) → word n ≡ w.Function f → word a ≡ w.Open → IsList l ls → word b ≡ w.Close → Optional IsPower p ps → AreScaled ts tms → AreAdded m ms → word s ≡ w.Semicolon → At start_of Of (statement.Print (call_expr n f a b l ts m p) s.token) (call_lexemes n a b ls ps tms ms ++ s ∷ [])

from_other_call : (f : Function) → start_of (Some (w.Function f)) ≡ start.Expr → FromCall f
from_other_call f e s n a b l ls ts m p tms ms ps h i k q hp ht hm z = record {
  start = start.Expr;
  begins = λ rest. ap (λ v. start_of (Some v)) h ∙ e;
  spells = seq _ _ (call_lexemes n a b ls ps tms ms) (s ∷ []) (unsigned _ m _ ms (term _ ts _ tms (factor _ p _ ps (call n a b f l ls h i k q) hp) ht) hm) (tk s z nothing);
}

from_ideal_call : FromCall fn.Ideal
from_ideal_call s n a b l ls ts m p tms ms ps h i k q hp ht hm z =
    let called : Base = base.Call (ideal_name n.token) a.token l b.token in
    record {
      start = start.Ideal;
      begins = λ rest. ap (λ v. start_of (Some v)) h;
      spells = tk n h (inr (subst (Seq (Called (ideal_name n.token)) Printed _) (sym (regroup_end (a ∷ (ls ++ b ∷ [])) ps tms ms (s ∷ []))) (seq called _ (a ∷ (ls ++ b ∷ [])) ((ps ++ (tms ++ ms)) ++ s ∷ []) (fin _ (levelled a b l ls i k q)) (printed_of called p ts m ps tms ms hp ht hm s z))));
    }

from_call : (f : Function) → FromCall f
from_call = each_function FromCall
    (from_other_call fn.Std refl)
    (from_other_call fn.TwoStd refl)
    (from_other_call fn.Nf refl)
    (from_other_call fn.Reduce refl)
    (from_other_call fn.Eliminate refl)
    (from_other_call fn.Syz refl)
    (from_other_call fn.Cofactors refl)
    (from_other_call fn.TwoChain refl)
    (from_other_call fn.Summary refl)
    from_ideal_call

from_print : (s : Lexeme) (x : Expr) (xs : List Lexeme) → IsExpr x xs → word s ≡ w.Semicolon → At start_of Of (statement.Print x s.token) (xs ++ s ∷ [])
from_print s _ _ (signed a t m ts ms (inl h) k q) z = record { start = start.Expr; begins = λ rest. ap (λ v. start_of (Some v)) h; spells = seq _ _ (a ∷ (ts ++ ms)) (s ∷ []) (signed a t m ts ms (inl h) k q) (tk s z nothing) }
from_print s _ _ (signed a t m ts ms (inr h) k q) z = record { start = start.Expr; begins = λ rest. ap (λ v. start_of (Some v)) h; spells = seq _ _ (a ∷ (ts ++ ms)) (s ∷ []) (signed a t m ts ms (inr h) k q) (tk s z nothing) }
from_print s _ _ (unsigned _ m _ ms (term _ ts _ tms (factor _ p _ ps (int a h) hp) ht) hm) z = record { start = start.Expr; begins = λ rest. ap (λ v. start_of (Some v)) h; spells = seq _ _ (((a ∷ ps) ++ tms) ++ ms) (s ∷ []) (unsigned _ m _ ms (term _ ts _ tms (factor _ p _ ps (int a h) hp) ht) hm) (tk s z nothing) }
from_print s _ _ (unsigned _ m _ ms (term _ ts _ tms (factor _ p _ ps (group a b e es h k q) hp) ht) hm) z = record { start = start.Expr; begins = λ rest. ap (λ v. start_of (Some v)) h; spells = seq _ _ ((((a ∷ (es ++ b ∷ [])) ++ ps) ++ tms) ++ ms) (s ∷ []) (unsigned _ m _ ms (term _ ts _ tms (factor _ p _ ps (group a b e es h k q) hp) ht) hm) (tk s z nothing) }
from_print s _ _ (unsigned _ m _ ms (term _ ts _ tms (factor _ p _ ps (call n a b f l ls h i k q) hp) ht) hm) z = from_call f s n a b l ls ts m p tms ms ps h i k q hp ht hm z
from_print s _ _ (unsigned _ m _ ms (term _ ts _ tms (factor _ p _ ps (name n i is h k) hp) ht) hm) z = record {
  start = start.Name;
  begins = λ rest. ap (λ v. start_of (Some v)) h;
  spells = tk n h (subst (Seq (Optional IsIndex) (λ j. After n.token j) _) (sym (regroup_end is ps tms ms (s ∷ []))) (seq i _ is ((ps ++ (tms ++ ms)) ++ s ∷ []) k (inr (printed_of (base.Name n.token i) p ts m ps tms ms hp ht hm s z))));
}

from_statement : (x : Statement) (ls : List Lexeme) → IsStatement x ls → At start_of Of x ls
from_statement _ _ (st.empty s z) = record { start = start.Empty; begins = λ rest. ap (λ v. start_of (Some v)) z; spells = tk s z nothing }
from_statement _ _ (st.ring a n e p c k s v o vs os ha hn he hp hc hv hk ho z) = record { start = start.Ring; begins = λ rest. ap (λ v. start_of (Some v)) ha; spells = tk a ha (tk n hn (tk e he (tk p hp (tk c hc (seq v _ vs (k ∷ (os ++ s ∷ [])) hv (tk k hk (seq o _ os (s ∷ []) ho (tk s z nothing)))))))) }
from_statement _ _ (st.set_ring a n s ha hn z) = record { start = start.SetRing; begins = λ rest. ap (λ v. start_of (Some v)) ha; spells = tk a ha (tk n hn (tk s z nothing)) }
from_statement _ _ (st.nc_algebra a n e q l c s x xs ha hn he hq u v y z) = record {
  start = start.Def;
  begins = λ rest. ap (λ v. start_of (Some v)) ha;
  spells = tk a ha (tk n hn (tk e he (inl (tk q hq (subst (Seq (Levelled IsExprPair) (λ g. Semi (λ t. statement.NcAlgebra a.token n.token e.token q.token g.0 g.1 g.2 t)) _) (ap (λ t. l ∷ t) (append_assoc xs (c ∷ []) (s ∷ []))) (seq (l.token, x, c.token) _ (l ∷ (xs ++ c ∷ [])) (s ∷ []) (levelled l c x xs u v y) (tk s z nothing)))))));
}
from_statement _ _ (st.def a n e s x xs ha hn he hx z) = record { start = start.Def; begins = λ rest. ap (λ v. start_of (Some v)) ha; spells = tk a ha (tk n hn (tk e he (inr (seq x _ xs (s ∷ []) hx (tk s z nothing))))) }
from_statement _ _ (st.poly a n s v vs ha hn hv z) = record { start = start.Poly; begins = λ rest. ap (λ v. start_of (Some v)) ha; spells = tk a ha (tk n hn (seq v _ vs (s ∷ []) hv (tk s z nothing))) }
from_statement _ _ (st.ideal a n s v vs ha hn hv z) = record { start = start.Ideal; begins = λ rest. ap (λ v. start_of (Some v)) ha; spells = tk a ha (inl (tk n hn (seq v _ vs (s ∷ []) hv (tk s z nothing)))) }
from_statement _ _ (st.«module» a n s v vs ha hn hv z) = record { start = start.Module; begins = λ rest. ap (λ v. start_of (Some v)) ha; spells = tk a ha (tk n hn (seq v _ vs (s ∷ []) hv (tk s z nothing))) }
from_statement _ _ (st.matrix a n s r c v rs cs vs ha hn hr hc hv z) = record { start = start.Matrix; begins = λ rest. ap (λ v. start_of (Some v)) ha; spells = tk a ha (tk n hn (seq r _ rs (cs ++ (vs ++ s ∷ [])) hr (seq c _ cs (vs ++ s ∷ []) hc (seq v _ vs (s ∷ []) hv (tk s z nothing))))) }
from_statement _ _ (st.option a s g gs ha hg z) = record { start = start.Option; begins = λ rest. ap (λ v. start_of (Some v)) ha; spells = tk a ha (seq g _ gs (s ∷ []) hg (tk s z nothing)) }
from_statement _ _ (st.short a e n s ha he hn z) = record { start = start.Short; begins = λ rest. ap (λ v. start_of (Some v)) ha; spells = tk a ha (tk e he (tk n hn (tk s z nothing))) }
from_statement _ _ (st.quit a s ha z) = record { start = start.Quit; begins = λ rest. ap (λ v. start_of (Some v)) ha; spells = tk a ha (tk s z nothing) }
from_statement _ _ (st.assign n e s l ls h he hl z) = record { start = start.Name; begins = λ rest. ap (λ v. start_of (Some v)) h; spells = tk n h (seq None _ [] (e ∷ (ls ++ s ∷ [])) absent (inl (tk e he (seq l _ ls (s ∷ []) hl (tk s z nothing))))) }
from_statement _ _ (st.assign_entry n o i c j k e s x xs h ho hi hc hj hk he hx z) = record {
  start = start.Name;
  begins = λ rest. ap (λ v. start_of (Some v)) h;
  spells = tk n h (seq (Some (record { opening = o.token; first = i.token; second = Some (record { comma = c.token; token = j.token }); closing = k.token })) _ (o ∷ i ∷ c ∷ j ∷ k ∷ []) (e ∷ (xs ++ s ∷ [])) (present _ _ (is_index o i k _ _ ho hi (present _ _ (is_token_after c j hc hj)) hk)) (inl (tk e he (seq x _ xs (s ∷ []) hx (tk s z nothing)))));
}
from_statement _ _ (st.print s x xs hx z) = from_print s x xs hx z

-- ---- what stands first

seq_expr_head : {B : Type 0} {S : Expr → Lang B} (t : Word → Bool) (c : Bool) → Firsts t c → t w.Plus ≡ c → t w.Minus ≡ c → (b : B) (xs rest : List Lexeme) → Seq IsExpr S b xs → head_is t (xs ++ rest) ≡ c
seq_expr_head t c f p m _ _ rest (seq x b xs ys h s) = ap (head_is t) (append_assoc xs ys rest) ∙ expr_head t c f p m x xs (ys ++ rest) h

called_head : {B : Type 0} {S : Base → Lang B} (t : Word → Bool) (f : FunctionName) → t w.Open ≡ false → (b : B) (xs rest : List Lexeme) → Seq (Called f) S b xs → head_is t (xs ++ rest) ≡ false
called_head t f e _ _ rest (seq _ b _ ys (seq _ _ _ zs (levelled l m a ls h r k) n) s) = ap t h ∙ e

-- what goes on with a base, or ends its statement
record Misses (t : Word → Bool) : Type 0 where
  at_power : t w.Power ≡ false
  at_times : t w.Times ≡ false
  at_over : t w.Over ≡ false
  at_plus : t w.Plus ≡ false
  at_minus : t w.Minus ≡ false
  at_semicolon : t w.Semicolon ≡ false

either_misses : (t : Word → Bool) (v u : Word) → t v ≡ false → t u ≡ false → (x : Word) → is_either v u x ≡ true → t x ≡ false
either_misses t v u e f x k = elim (same_either v u x k) [ inl h ↦ ap t h ∙ e | inr h ↦ ap t h ∙ f ]

resumed_misses : (t : Word → Bool) (h : List Word) → Misses t → Covers h t → (b : Base) → Avoids t (Resumed b) h
resumed_misses t h m c b =
    avoids_maybe h (is w.Power) t power_starts (λ v f. ap t (same_word w.Power v f) ∙ m.at_power)
    (λ p. avoids_many h (is_either w.Times w.Over) t scaled_starts (λ v f. either_misses t w.Times w.Over m.at_times m.at_over v f)
    (λ ts. avoids_many h (is_either w.Plus w.Minus) t added_starts (λ v f. either_misses t w.Plus w.Minus m.at_plus m.at_minus v f)
    (λ k. avoids_nothing t h c)))

printed_misses : (t : Word → Bool) (h : List Word) → Misses t → Covers h t → in_set h w.Semicolon ≡ false → (b : Base) → Avoids t (Printed b) []
printed_misses t h m c k b _ _ rest (seq x y xs ys r s) e = ap (head_is t) (append_assoc xs ys rest) ∙ resumed_misses t h m c b x xs (ys ++ rest) r (head_takes (in_set h) w.Semicolon false k y ys rest s)

assigned_misses : (n : Token) (x : Index) (m : Option TokenAfter) → Avoids (in_set goes_base) (AssignedEntry n x m) []
assigned_misses n x None b xs rest h e = absurd h
assigned_misses n x (Some j) b xs rest h e = head_takes (in_set goes_base) w.Equals false refl b xs rest h

after_misses : (n : Token) (x : Option Index) → Avoids (in_set goes_base) (After n x) []
after_misses n None b xs rest (inl h) e = head_takes (in_set goes_base) w.Equals false refl b xs rest h
after_misses n (Some x) b xs rest (inl h) e = assigned_misses n x x.second b xs rest h e
after_misses n x b xs rest (inr h) e = printed_misses (in_set goes_base) goes_base (record { at_power = refl; at_times = refl; at_over = refl; at_plus = refl; at_minus = refl; at_semicolon = refl }) (covers_set goes_base goes_base refl) refl (base.Name n x) b xs rest h e

-- ---- rules

module _ (d : ℕ) (inner : Option (Parser Expr)) (i : Inner (suc (suc d)) inner IsExpr goes_expr) where
  rule_print : (x : Expr) → Rule strict (suc (suc d)) (suc (suc d)) (print_with inner x) (Printing x) []
  unfolding print_with
  rule_print x = tok w.Semicolon refl (λ s. yields)

  rule_printed : (b : Base) → Rule strict (suc (suc d)) (suc (suc d)) (printed_with inner b) (Printed b) []
  unfolding printed_with
  rule_printed b = rule_bind (rule_resumed (suc (suc d)) inner i b) (λ x. rule_print x) (λ x y xs rest h e. head_takes (in_set goes_expr) w.Semicolon false refl y xs rest h)

  rule_expr_statement : Rule strict (suc (suc d)) (suc (suc d)) (expr_statement_with inner) (Of start.Expr) []
  unfolding expr_statement_with
  rule_expr_statement = rule_bind (rule_expr_with (suc (suc d)) inner i) (λ x. rule_print x) (λ x y xs rest h e. head_takes (in_set goes_expr) w.Semicolon false refl y xs rest h)

  rule_empty : Rule strict (suc (suc d)) (suc (suc d)) empty_statement (Of start.Empty) []
  unfolding empty_statement
  rule_empty = tok w.Semicolon refl (λ s. yields)

  rule_ring : Rule strict (suc (suc d)) (suc (suc d)) ring_statement (Of start.Ring) []
  unfolding ring_statement
  rule_ring = tok w.Ring refl (λ a. tok w.Name refl (λ n. tok w.Equals refl (λ e. tok w.Int refl (λ p. tok w.Comma refl (λ c. into w.Comma refl (rule_vars (suc d)) (λ v. tok w.Comma refl (λ k. into w.Semicolon refl (rule_order d) (λ o. tok w.Semicolon refl (λ s. yields)))))))))

  rule_set_ring : Rule strict (suc (suc d)) (suc (suc d)) set_ring_statement (Of start.SetRing) []
  unfolding set_ring_statement
  rule_set_ring = tok w.SetRing refl (λ a. tok w.Name refl (λ n. tok w.Semicolon refl (λ s. yields)))

  rule_defined : (a n e : Token) → Rule strict (suc (suc d)) (suc (suc d)) (defined_with inner a n e) (Or (AsAlgebra a n e) (AsDef a n e)) []
  unfolding defined_with
  rule_defined a n e =
      rule_when (is w.NcAlgebra) (starts_takes w.NcAlgebra) (λ b xs rest h f. seq_expr_head (is w.NcAlgebra) false (record { at_int = refl; at_name = refl; at_function = each_function (λ f. is w.NcAlgebra (w.Function f) ≡ false) refl refl refl refl refl refl refl refl refl refl; at_open = refl }) refl refl b xs rest h)
      (tok w.NcAlgebra refl (λ k. into w.Semicolon refl (rule_level (suc (suc d)) (option_map pair_with inner) IsExprPair goes_expr refl (inner_pair (suc (suc d)) inner i)) (λ g. tok w.Semicolon refl (λ s. yields))))
      (into w.Semicolon refl (rule_expr_with (suc (suc d)) inner i) (λ x. tok w.Semicolon refl (λ s. yields)))

  rule_def : Rule strict (suc (suc d)) (suc (suc d)) (def_with inner) (Of start.Def) []
  unfolding def_with
  rule_def = tok w.Def refl (λ a. tok w.Name refl (λ n. tok w.Equals refl (λ e. rule_defined a n e)))

  rule_poly : Rule strict (suc (suc d)) (suc (suc d)) (poly_with inner) (Of start.Poly) []
  unfolding poly_with
  rule_poly = tok w.Poly refl (λ a. tok w.Name refl (λ n. into w.Semicolon refl (rule_maybe_value (suc (suc d)) inner i) (λ v. tok w.Semicolon refl (λ s. yields))))

  rule_module : Rule strict (suc (suc d)) (suc (suc d)) (module_with inner) (Of start.Module) []
  unfolding module_with
  rule_module = tok w.Module refl (λ a. tok w.Name refl (λ n. into w.Semicolon refl (rule_maybe_value (suc (suc d)) inner i) (λ v. tok w.Semicolon refl (λ s. yields))))

  rule_matrix : Rule strict (suc (suc d)) (suc (suc d)) (matrix_with inner) (Of start.Matrix) []
  unfolding matrix_with
  rule_matrix = tok w.Matrix refl (λ a. tok w.Name refl (λ n. rule_then (rule_side (suc (suc d))) (λ r. rule_then (rule_side (suc (suc d))) (λ c. into w.Semicolon refl (rule_maybe_values (suc (suc d)) inner i) (λ v. tok w.Semicolon refl (λ s. yields))))))

  rule_option : Rule strict (suc (suc d)) (suc (suc d)) option_statement (Of start.Option) []
  unfolding option_statement
  rule_option = tok w.Option refl (λ a. into w.Semicolon refl (rule_token_group (suc d) w.Name refl) (λ g. tok w.Semicolon refl (λ s. yields)))

  rule_short : Rule strict (suc (suc d)) (suc (suc d)) short_statement (Of start.Short) []
  unfolding short_statement
  rule_short = tok w.Short refl (λ a. tok w.Equals refl (λ e. tok w.Int refl (λ n. tok w.Semicolon refl (λ s. yields))))

  rule_quit : Rule strict (suc (suc d)) (suc (suc d)) quit_statement (Of start.Quit) []
  unfolding quit_statement
  rule_quit = tok w.Quit refl (λ a. tok w.Semicolon refl (λ s. yields))

  rule_after_ideal : (a : Token) → Rule strict (suc (suc d)) (suc (suc d)) (after_ideal inner a) (Or (AsIdeal a) (Seq (Called (ideal_name a)) Printed)) []
  unfolding after_ideal
  rule_after_ideal a =
      rule_when (is w.Name) (starts_takes w.Name) (λ b xs rest h e. called_head (is w.Name) (ideal_name a) refl b xs rest h)
      (tok w.Name refl (λ n. into w.Semicolon refl (rule_maybe_values (suc (suc d)) inner i) (λ v. tok w.Semicolon refl (λ s. yields))))
      (rule_then (rule_called (suc (suc d)) inner i (ideal_name a)) (λ b. rule_printed b))

  rule_ideal : Rule strict (suc (suc d)) (suc (suc d)) (ideal_with inner) (Of start.Ideal) []
  unfolding ideal_with
  rule_ideal = tok (w.Function fn.Ideal) refl (λ a. rule_after_ideal a)

  rule_assign : (n : Token) → Rule strict (suc (suc d)) (suc (suc d)) (assign_with inner n) (AsAssign n) []
  unfolding assign_with
  rule_assign n = tok w.Equals refl (λ e. into w.Semicolon refl (rule_list (suc (suc d)) (expr_with inner) (rule_expr_with (suc (suc d)) inner i)) (λ l. tok w.Semicolon refl (λ s. yields)))

  rule_entry : (n : Token) (x : Index) (j : TokenAfter) → Rule strict (suc (suc d)) (suc (suc d)) (assign_entry_with inner n x j) (AsEntry n x j) []
  unfolding assign_entry_with
  rule_entry n x j = tok w.Equals refl (λ e. into w.Semicolon refl (rule_expr_with (suc (suc d)) inner i) (λ y. tok w.Semicolon refl (λ s. yields)))

  not_equals : (b : Base) → Avoids (is w.Equals) (Printed b) []
  not_equals b = printed_misses (is w.Equals) (w.Equals ∷ []) (record { at_power = refl; at_times = refl; at_over = refl; at_plus = refl; at_minus = refl; at_semicolon = refl }) (covers_is (w.Equals ∷ []) w.Equals refl) refl b

  rule_after_entry : (n : Token) (x : Index) (m : Option TokenAfter) (b : Base) → Rule strict (suc (suc d)) (suc (suc d)) (when (is w.Equals) (assigned_entry inner n x m) (printed_with inner b)) (Or (AssignedEntry n x m) (Printed b)) []
  rule_after_entry n x (Some j) b = rule_when (is w.Equals) (starts_takes w.Equals) (not_equals b) (rule_entry n x j) (rule_printed b)
  rule_after_entry n x None b =
      let r = rule_printed b in
      let R : Lang Statement = Or (AssignedEntry n x None) (Printed b) in
      record {
        reads = reads_when strict (suc (suc d)) (suc (suc d)) (is w.Equals) refuse (printed_with inner b) R
            (reads_refuse strict (suc (suc d)) (suc (suc d)) R (r.reads.some.0, r.reads.some.1, inr r.reads.some.2))
            (reads_weak strict (suc (suc d)) (suc (suc d)) (printed_with inner b) (Printed b) R (λ a ls y. inr y) r.reads);
        finds = finds_when (is w.Equals) refuse (printed_with inner b) (AssignedEntry n x None) (Printed b) (in_set []) (record { again = λ a xs rest y e. absurd y }) r.finds (λ a xs rest y. absurd y) (not_equals b);
      }

  rule_after_name : (n : Token) (x : Option Index) → Rule strict (suc (suc d)) (suc (suc d)) (after_name inner n x) (After n x) []
  unfolding after_name
  rule_after_name n None = rule_when (is w.Equals) (starts_takes w.Equals) (not_equals (base.Name n None)) (rule_assign n) (rule_printed (base.Name n None))
  rule_after_name n (Some x) = rule_after_entry n x x.second (base.Name n (Some x))

  rule_named : Rule strict (suc (suc d)) (suc (suc d)) (named_with inner) (Of start.Name) []
  unfolding named_with
  rule_named = tok w.Name refl (λ n. rule_bind (rule_maybe_index (suc (suc d))) (λ x. rule_after_name n x) (λ x. after_misses n x))

  rule_of : (y : Start) → Rule strict (suc (suc d)) (suc (suc d)) (statement_from inner y) (Of y) []
  rule_of start.Empty = rule_empty
  rule_of start.Ring = rule_ring
  rule_of start.SetRing = rule_set_ring
  rule_of start.Def = rule_def
  rule_of start.Poly = rule_poly
  rule_of start.Ideal = rule_ideal
  rule_of start.Module = rule_module
  rule_of start.Matrix = rule_matrix
  rule_of start.Option = rule_option
  rule_of start.Short = rule_short
  rule_of start.Quit = rule_quit
  rule_of start.Name = rule_named
  rule_of start.Expr = rule_expr_statement

  pub rule_statement : Rule strict (suc (suc d)) (suc (suc d)) (statement_with inner) IsStatement []
  unfolding statement_with
  rule_statement = rule_by start_of (statement_from inner) Of IsStatement start.Empty to_statement from_statement rule_of

-- no statement begins with an end
pub statement_starts : Starts not_end IsStatement
statement_starts _ _ rest (st.empty s z) = ap not_end z
statement_starts _ _ rest (st.ring a n e p c k s v o vs os ha hn he hp hc hv hk ho z) = ap not_end ha
statement_starts _ _ rest (st.set_ring a n s ha hn z) = ap not_end ha
statement_starts _ _ rest (st.nc_algebra a n e q l c s x xs ha hn he hq u v y z) = ap not_end ha
statement_starts _ _ rest (st.def a n e s x xs ha hn he hx z) = ap not_end ha
statement_starts _ _ rest (st.poly a n s v vs ha hn hv z) = ap not_end ha
statement_starts _ _ rest (st.ideal a n s v vs ha hn hv z) = ap not_end ha
statement_starts _ _ rest (st.«module» a n s v vs ha hn hv z) = ap not_end ha
statement_starts _ _ rest (st.matrix a n s r c v rs cs vs ha hn hr hc hv z) = ap not_end ha
statement_starts _ _ rest (st.option a s g gs ha hg z) = ap not_end ha
statement_starts _ _ rest (st.short a e n s ha he hn z) = ap not_end ha
statement_starts _ _ rest (st.quit a s ha z) = ap not_end ha
statement_starts _ _ rest (st.assign n e s l ls h he hl z) = ap not_end h
statement_starts _ _ rest (st.assign_entry n o i c j k e s x xs h ho hi hc hj hk he hx z) = ap not_end h
statement_starts _ _ rest (st.print s x xs hx z) = ap (head_is not_end) (append_assoc xs (s ∷ []) rest) ∙ expr_head not_end true (record { at_int = refl; at_name = refl; at_function = each_function (λ f. not_end (w.Function f) ≡ true) refl refl refl refl refl refl refl refl refl refl; at_open = refl }) refl refl x xs (s ∷ rest) hx
