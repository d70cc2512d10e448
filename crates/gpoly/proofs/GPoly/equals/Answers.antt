use Rattle.std.proofs.Common.{◌≡◌, ◌∙◌, sym, ap, ◌&&◌, nat_eq}
use Rattle.std.proofs.lemmas.Bool.{and_parts, and_from}
use Rattle.std.proofs.lemmas.Bool.Decides.{Decides-eqb}
use Rattle.std.proofs.lemmas.Slice.Eq.{slice_eq-Decides, bytes_eq-Decides}
use Rattle.std.specs.Bool.{Decides}
use Rattle.std.specs.Cmp.Lexicographic.{pointwise}
use Rattle.gpoly.specs.declared.Term.{Term}
use Rattle.gpoly.specs.Terms.{pairs_of}
use Rattle.gpoly.proofs.TermLists.{pairs_of_tell}
use Rattle.gpoly.proofs.GPoly.equals.Goals as goal

-- the test of terms decides their equality
equal_terms : (t u : Term) → Decides (nat_eq t.coef u.coef && pointwise nat_eq t.mono u.mono) (t ≡ u)
equal_terms t u = (
  λ e.
      let parts = and_parts (nat_eq t.coef u.coef) (pointwise nat_eq t.mono u.mono) e in
      let coef : t.coef ≡ u.coef = (Decides-eqb t.coef u.coef).0 parts.0 in
      let mono : t.mono ≡ u.mono = (bytes_eq-Decides t.mono u.mono).0 parts.1 in
      λ i. record { coef = coef i; mono = mono i },
  λ e.
      and_from (nat_eq t.coef u.coef) (pointwise nat_eq t.mono u.mono) ((Decides-eqb t.coef u.coef).1 (ap (λ v. v.coef) e)) ((bytes_eq-Decides t.mono u.mono).1 (ap (λ v. v.mono) e)),
)

pub returns : goal.returns
returns c =
    let same = slice_eq-Decides equal_terms c.self.inside.terms.items c.other.inside.terms.items c.eq.result c.eq.ensures in (
      λ e. sym c.self.view_is ∙ ap pairs_of (same.0 e) ∙ c.other.view_is,
      λ e. same.1 (pairs_of_tell c.self.inside.terms.items c.other.inside.terms.items (c.self.view_is ∙ e ∙ sym c.other.view_is)),
    )
