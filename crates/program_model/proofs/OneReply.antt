-- Words and bytes have one reply at most, of a status up to 4.
use Rattle.std.proofs.Common.{◌≡◌, ℕ, ◌≤◌, List, Option, Some, None, refl, ap, sym, subst, ◌∙◌, arith}
use Rattle.case_maker.specs.Scripts.{made_script}
use Rattle.command_words.specs.declared.settings.Program.{Program}
use Rattle.command_words.specs.declared.settings.Settings.{Settings}
use Rattle.word_model.specs.Answers.{Answer}
use Rattle.script_model.specs.Scripts.{IsAnswer}
use Rattle.script_model.proofs.OneAnswer.{one_answer}
use Rattle.script_model.proofs.Statuses.{answer-status}
use Rattle.program_model.specs.Replies.{IsReply, refused, made, read}

settings_differ : (o : Option Settings) (s : Settings) → o ≡ None → o ≡ Some s → ⊥
settings_differ o s e f = cc

same_settings : (o : Option Settings) (s t : Settings) → o ≡ Some s → o ≡ Some t → s ≡ t
same_settings o s t e f = cc

same_number : (o : Option ℕ) (k j : ℕ) → o ≡ Some k → o ≡ Some j → k ≡ j
same_number o k j e f = cc

numbers_differ : (o : Option ℕ) (k : ℕ) → o ≡ Some k → o ≡ None → ⊥
numbers_differ o k e f = cc

module _ (program : Program) (words : List (List ℕ)) (bytes : List ℕ) where
  made_twice : (s t : Settings) (k j : ℕ) (a b : Answer) → s ≡ t → s.make ≡ Some k → t.make ≡ Some j
      → IsAnswer s.pairs (made_script k) a → IsAnswer t.pairs (made_script j) b → a ≡ b
  made_twice s t k j a b same m n x y =
      let number : k ≡ j = same_number t.make k j (ap (λ (z : Settings). z.make) (sym same) ∙ m) n in
      let x' : IsAnswer t.pairs (made_script j) a = subst (λ i. IsAnswer t.pairs (made_script i) a) number (subst (λ (z : Settings). IsAnswer z.pairs (made_script k) a) same x) in
      one_answer t.pairs (made_script j) a b x' y

  pub one_reply : (a b : Answer) → IsReply program words bytes a → IsReply program words bytes b → a ≡ b
  one_reply _ _ (refused e) (refused f) = refl
  one_reply _ _ (refused e) (made t j b f n y) = absurd (settings_differ _ t e f)
  one_reply _ _ (refused e) (read t b f n y) = absurd (settings_differ _ t e f)
  one_reply _ _ (made s k a e m x) (refused f) = absurd (settings_differ _ s f e)
  one_reply _ _ (made s k a e m x) (made t j b f n y) = made_twice s t k j a b (same_settings _ s t e f) m n x y
  one_reply _ _ (made s k a e m x) (read t b f n y) =
      absurd (numbers_differ t.make k (ap (λ (z : Settings). z.make) (same_settings _ t s f e) ∙ m) n)
  one_reply _ _ (read s a e m x) (refused f) = absurd (settings_differ _ s f e)
  one_reply _ _ (read s a e m x) (made t j b f n y) =
      absurd (numbers_differ s.make j (ap (λ (z : Settings). z.make) (same_settings _ s t e f) ∙ n) m)
  one_reply _ _ (read s a e m x) (read t b f n y) =
      one_answer t.pairs bytes a b (subst (λ (z : Settings). IsAnswer z.pairs bytes a) (same_settings _ s t e f) x) y

  pub reply-status : (a : Answer) → IsReply program words bytes a → a.status ≤ 4
  reply-status _ (refused e) = omega arith
  reply-status _ (made s k a e m x) = answer-status s.pairs (made_script k) a x
  reply-status _ (read s a e m x) = answer-status s.pairs bytes a x
