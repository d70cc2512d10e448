-- The settings that words give are within their ranges.
use Rattle.std.proofs.Common.{◌≡◌, ℕ, ◌≤◌, Bool, true, false, if◌then◌else◌, List, [], ◌∷◌, Option, Some, None, refl, arith}
use Rattle.std.specs.Prelude.{IfSome, ◌&&◌, nat_le, nat_lt, is_some, option_and_then, drop, take, length, ◌+◌, unwrap_or}
use Rattle.std.specs.List.{prefix_len}
use Rattle.std.proofs.lemmas.Bool.Decides.{nat_tests}
use Rattle.plural_lexer.specs.Letters.{number_of}
use Rattle.command_words.specs.declared.settings.Program.{Program}
use Rattle.command_words.specs.declared.options.Name.{Name}
use Rattle.command_words.specs.declared.options.Name.TheVariants.{Workers, Pairs, Make}
use Rattle.command_words.specs.declared.options.Reading.{Reading}
use Rattle.command_words.specs.Settings.{with_number, with_value, by_wants, read_word, read_on, settled, settings_of, nothing_read, name_of, is_in_name, AreInRange}

-- what was read so far is within its range
record IsWithin (r : Reading) : Type 0 where
  workers : IfSome r.workers (λ n. (1 ≤ n) × (n ≤ 64))
  pairs : IfSome r.pairs (λ n. (1 ≤ n) × (n ≤ 1000000))
  make : IfSome r.make (λ n. n ≤ 999999999)

tested : {A : Type 0} (P : A → Type 0) (b : Bool) (a : A) → (b ≡ true → P a) → IfSome (if b then Some a else None) P
tested P true a h = h refl
tested P false a h = tt

next : {A B : Type 0} (P : A → Type 0) (Q : B → Type 0) (f : A → Option B) (o : Option A) → IfSome o P → ((a : A) → P a → IfSome (f a) Q) → IfSome (option_and_then f o) Q
next P Q f None h step = tt
next P Q f (Some a) h step = step a h

any : {A : Type 0} (o : Option A) → IfSome o (λ _. Unit {0})
any None = tt
any (Some a) = tt

in_range : (a b c : Bool) (n low high : ℕ) → (a && b && c) ≡ true → b ≡ nat_le low n → c ≡ nat_le n high → (low ≤ n) × (n ≤ high)
in_range a b c n low high h e f = (grind (arith, nat_tests, h, e, f), grind (arith, nat_tests, h, e, f))

at_most : (a c : Bool) (n high : ℕ) → (a && c) ≡ true → c ≡ nat_le n high → n ≤ high
at_most a c n high h f = grind (arith, nat_tests, h, f)

number_within : (r : Reading) (name : Name) (n : ℕ) → IsWithin r → IfSome (with_number r name n) IsWithin
number_within r Workers n w = tested IsWithin _ _ (λ h. record { workers = in_range _ _ _ n 1 64 h refl refl; pairs = w.pairs; make = w.make })
number_within r Pairs n w = tested IsWithin _ _ (λ h. record { workers = w.workers; pairs = in_range _ _ _ n 1 1000000 h refl refl; make = w.make })
number_within r Make n w = tested IsWithin _ _ (λ h. record { workers = w.workers; pairs = w.pairs; make = at_most _ _ n 999999999 h refl })

value_within : (r : Reading) (name : Name) (value : List ℕ) → IsWithin r → IfSome (with_value r name value) IsWithin
value_within r name value w = next (λ _. Unit {0}) IsWithin (λ n. with_number r name n) (number_of 9 value) (any _) (λ n _. number_within r name n w)

named_within : (b : Bool) (r : Reading) (name : Name) (value : List ℕ) → IsWithin r
    → IfSome (if b then with_value r name value else Some (record r { wants = Some name })) IsWithin
named_within true r name value w = value_within r name value w
named_within false r name value w = record { workers = w.workers; pairs = w.pairs; make = w.make }

word_within : (wants : Option Name) (program : Program) (r : Reading) (word : List ℕ) → IsWithin r → IfSome (by_wants wants program r word) IsWithin
word_within (Some name) program r word w = value_within r name word w
word_within None program r word w = next (λ _. Unit {0}) IsWithin _ (name_of program (take (prefix_len is_in_name word) word)) (any _) (λ name _. named_within (nat_lt (prefix_len is_in_name word) (length word)) r name (drop (prefix_len is_in_name word + 1) word) w)

words_within : (program : Program) (r : Reading) (words : List (List ℕ)) → IsWithin r → IfSome (read_on program r words) IsWithin
words_within program r [] w = w
words_within program r (word ∷ words) w = next IsWithin IsWithin (λ s. read_on program s words) (read_word program r word) (word_within r.wants program r word w) (λ s v. words_within program s words v)

or_default : (o : Option ℕ) (low high default : ℕ) → IfSome o (λ n. (low ≤ n) × (n ≤ high)) → low ≤ default → default ≤ high → (low ≤ unwrap_or o default) × (unwrap_or o default ≤ high)
or_default None low high default h l u = (l, u)
or_default (Some n) low high default h l u = h

settled_within : (wanting : Bool) (r : Reading) → IsWithin r
    → IfSome (if wanting then None else Some (record { workers = unwrap_or r.workers 4; pairs = unwrap_or r.pairs 100000; make = r.make })) AreInRange
settled_within true r w = tt
settled_within false r w =
    let workers = or_default r.workers 1 64 4 w.workers (omega arith) (omega arith) in
    let pairs = or_default r.pairs 1 1000000 100000 w.pairs (omega arith) (omega arith) in
    record { some_worker = workers.0; workers = workers.1; some_pair = pairs.0; pairs = pairs.1; make = w.make }

pub settings_within : (program : Program) (words : List (List ℕ)) → IfSome (settings_of program words) AreInRange
settings_within program words =
    next IsWithin AreInRange (λ r. settled r) (read_on program nothing_read words)
    (words_within program nothing_read words (record { workers = tt; pairs = tt; make = tt })) (λ r w. settled_within (is_some r.wants) r w)
