-- What comes of a node, by what comes of its parts.
use Rattle.std.proofs.Common.{◌≡◌, ℕ, suc, ◌+◌, ◌<◌, true, ◌&&◌, sym, ap, ◌∙◌, subst}
use Rattle.std.specs.Prelude.{nat_lt, nat_le}
use Rattle.std.proofs.lemmas.Bool.{and_parts, ltb-true}
use Rattle.tt_data.specs.Editions.{year_of}
use Rattle.tt_data.specs.Forest.{Forest, size}
use Rattle.tt_data.specs.declared.edition.Edition.{Edition}
use Rattle.rust_grammar.specs.Answer.{rules_to}
use Rattle.rust_grammar.specs.Expressions.{Taking, found, nothing_if, and_then, otherwise, or_nothing, decided, without, next_round, rounds, taken}
use Rattle.rust_grammar.specs.Rules.{says}
use Rattle.rust_grammar.specs.Table.{stands, expression_at, node_at, name_at, is_sound, comes_at, token_of}
use Rattle.rust_grammar.specs.Tokens.{token_at}
use Rattle.rust_grammar.specs.declared.node.Node.{Node}
use Rattle.rust_grammar.specs.declared.node.Node.TheVariants as node
use Rattle.rust_grammar.specs.declared.node.Token as coded
use Rattle.rust_grammar.specs.declared.outcome.Outcome.{Outcome}
use Rattle.rust_grammar.specs.declared.outcome.Outcome.TheVariants.{Fits, Misses, Faults}
use Rattle.rust_grammar.proofs.TableLemmas.{node-stands}

-- ---- places

pub two_parts : (i k : ℕ) → (nat_lt 1 k && nat_lt (i + k) 1564) ≡ true → (1 < k) × (i + k < 1564)
two_parts i k e = (ltb-true 1 k (and_parts (nat_lt 1 k) (nat_lt (i + k) 1564) e).0, ltb-true (i + k) 1564 (and_parts (nat_lt 1 k) (nat_lt (i + k) 1564) e).1)

pub one_part : (i : ℕ) → nat_lt (i + 1) 1564 ≡ true → i + 1 < 1564
one_part i e = ltb-true (i + 1) 1564 e

pub sound_as : (i : ℕ) (n m : Node) → is_sound i n ≡ true → n ≡ m → is_sound i m ≡ true
sound_as i n m sound e = subst (λ k. is_sound i k ≡ true) e sound

-- ---- nodes

module _ (ed : Edition) (levels place : ℕ) (fits : place < 1564) where
  step : (n : Node) (f : Forest) → n ≡ node_at place → comes_at ed levels place f ≡ taken ed (rules_to ed levels) (stands n (λ m. expression_at (place + m))) f
  step n f e = ap (λ x. taken ed (rules_to ed levels) x f) (node-stands place fits ∙ ap (λ k. stands k (λ m. expression_at (place + m))) (sym e))

  pub token_comes : (t : coded.Token) (f : Forest) → node.Token t ≡ node_at place → found (token_at ed (token_of t) f) ≡ comes_at ed levels place f
  token_comes t f e = sym (step (node.Token t) f e)

  pub since_comes : (first : Edition) (f : Forest) → node.Since first ≡ node_at place → nothing_if (nat_le (year_of first) (year_of ed)) f ≡ comes_at ed levels place f
  since_comes first f e = sym (step (node.Since first) f e)

  pub then_comes : (k : ℕ) (f : Forest) (o : Outcome) → node.Then k ≡ node_at place → o ≡ comes_at ed levels (place + 1) f →
      and_then (comes_at ed levels (place + k)) o ≡ comes_at ed levels place f
  then_comes k f o e first = ap (and_then (comes_at ed levels (place + k))) first ∙ sym (step (node.Then k) f e)

  pub then_fits : (k : ℕ) (f g : Forest) → node.Then k ≡ node_at place → Fits g ≡ comes_at ed levels (place + 1) f → comes_at ed levels (place + k) g ≡ comes_at ed levels place f
  then_fits k f g e first = then_comes k f (Fits g) e first

  pub then_misses : (k : ℕ) (f : Forest) → node.Then k ≡ node_at place → Misses ≡ comes_at ed levels (place + 1) f → Misses ≡ comes_at ed levels place f
  then_misses k f e first = then_comes k f Misses e first

  pub then_faults : (k : ℕ) (f : Forest) → node.Then k ≡ node_at place → Faults ≡ comes_at ed levels (place + 1) f → Faults ≡ comes_at ed levels place f
  then_faults k f e first = then_comes k f Faults e first

  pub or_comes : (k : ℕ) (f : Forest) (o : Outcome) → node.Or k ≡ node_at place → o ≡ comes_at ed levels (place + 1) f →
      otherwise o (comes_at ed levels (place + k)) f ≡ comes_at ed levels place f
  or_comes k f o e first = ap (λ p. otherwise p (comes_at ed levels (place + k)) f) first ∙ sym (step (node.Or k) f e)

  pub or_fits : (k : ℕ) (f g : Forest) → node.Or k ≡ node_at place → Fits g ≡ comes_at ed levels (place + 1) f → Fits g ≡ comes_at ed levels place f
  or_fits k f g e first = or_comes k f (Fits g) e first

  pub or_misses : (k : ℕ) (f : Forest) → node.Or k ≡ node_at place → Misses ≡ comes_at ed levels (place + 1) f → comes_at ed levels (place + k) f ≡ comes_at ed levels place f
  or_misses k f e first = or_comes k f Misses e first

  pub or_faults : (k : ℕ) (f : Forest) → node.Or k ≡ node_at place → Faults ≡ comes_at ed levels (place + 1) f → Faults ≡ comes_at ed levels place f
  or_faults k f e first = or_comes k f Faults e first

  pub many_comes : (f : Forest) → node.Many ≡ node_at place → rounds (suc (size f)) (comes_at ed levels (place + 1)) f ≡ comes_at ed levels place f
  many_comes f e = sym (step node.Many f e)

  pub maybe_comes : (f : Forest) (o : Outcome) → node.Maybe ≡ node_at place → o ≡ comes_at ed levels (place + 1) f → or_nothing o f ≡ comes_at ed levels place f
  maybe_comes f o e first = ap (λ p. or_nothing p f) first ∙ sym (step node.Maybe f e)

  pub surely_comes : (f : Forest) (o : Outcome) → node.Surely ≡ node_at place → o ≡ comes_at ed levels (place + 1) f → decided o ≡ comes_at ed levels place f
  surely_comes f o e first = ap decided first ∙ sym (step node.Surely f e)

  pub unless_comes : (f : Forest) (o : Outcome) → node.Unless ≡ node_at place → o ≡ comes_at ed levels (place + 1) f → without o f ≡ comes_at ed levels place f
  unless_comes f o e first = ap (λ p. without p f) first ∙ sym (step node.Unless f e)

  rule_comes : (k : ℕ) (f : Forest) → node.Rule k ≡ node_at place → rules_to ed levels (name_at k) f ≡ comes_at ed levels place f
  rule_comes k f e = sym (step (node.Rule k) f e)

  pub too_deep : (k : ℕ) (f : Forest) → node.Rule k ≡ node_at place → levels ≡ 0 → Faults ≡ comes_at ed levels place f
  too_deep k f e none = ap (λ n. rules_to ed n (name_at k) f) (sym none) ∙ rule_comes k f e

-- a rule, by its first node, with one level fewer
pub rule_from : (ed : Edition) (levels fewer root : ℕ) (k : ℕ) (f : Forest) → levels ≡ suc fewer → expression_at root ≡ says (name_at k) →
    comes_at ed fewer root f ≡ rules_to ed levels (name_at k) f
rule_from ed levels fewer root k f less says_so =
    ap (λ x. taken ed (rules_to ed fewer) x f) says_so ∙ ap (λ n. rules_to ed n (name_at k) f) (sym less)

pub rule_on : (ed : Edition) (levels fewer place root : ℕ) → place < 1564 → (k : ℕ) (f : Forest) → node.Rule k ≡ node_at place → levels ≡ suc fewer →
    expression_at root ≡ says (name_at k) → comes_at ed fewer root f ≡ comes_at ed levels place f
rule_on ed levels fewer place root fits k f e less says_so = rule_from ed levels fewer root k f less says_so ∙ rule_comes ed levels place fits k f e

-- one round fewer
pub round_on : (n m : ℕ) (p : Taking) (f g : Forest) → n ≡ suc m → Fits g ≡ p f → rounds m p g ≡ rounds n p f
round_on n m p f g e fits = ap (λ o. next_round (rounds m p) o f) fits ∙ ap (λ k. rounds k p f) (sym e)

pub rounds_end : (n m : ℕ) (p : Taking) (f : Forest) → n ≡ suc m → Misses ≡ p f → Fits f ≡ rounds n p f
rounds_end n m p f e misses = ap (λ o. next_round (rounds m p) o f) misses ∙ ap (λ k. rounds k p f) (sym e)

pub rounds_fault : (n m : ℕ) (p : Taking) (f : Forest) → n ≡ suc m → Faults ≡ p f → Faults ≡ rounds n p f
rounds_fault n m p f e faults = ap (λ o. next_round (rounds m p) o f) faults ∙ ap (λ k. rounds k p f) (sym e)
