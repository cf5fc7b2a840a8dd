-- Choices and sequences, taken apart.
use Rattle.std.proofs.Common.{◌≡◌, refl, sym, ap, ◌∙◌, Option, Some, None}
use Rattle.std.specs.Prelude.{option_and_then}
use Rattle.tt_data.specs.Forest.{Forest}
use Rattle.small_grammar.proofs.TakingLemmas.{then-assoc}
use Rattle.small_grammar.specs.Expressions.{Expression, ◌⨾◌, ◌∣◌, Taking, otherwise}
use Rattle.small_grammar.specs.SmallGrammar.{takes}

-- ---- choices

-- an alternative that does not fit is passed over
pub skip : (a b : Expression) (f : Forest) → takes a f ≡ None → takes (a ∣ b) f ≡ takes b f
skip a b f e = ap (λ o. otherwise o (takes b) f) e

otherwise_none : (o : Option Forest) (q : Taking) (f : Forest) → q f ≡ None → otherwise o q f ≡ o
otherwise_none None q f e = e
otherwise_none (Some g) q f e = refl

-- where the others do not fit, the first decides
pub alone : (a b : Expression) (f : Forest) → takes b f ≡ None → takes (a ∣ b) f ≡ takes a f
alone a b f e = otherwise_none (takes a f) (takes b) f e

pub same_otherwise : (o : Option Forest) (p q : Taking) (f : Forest) → p f ≡ q f → otherwise o p f ≡ otherwise o q f
same_otherwise None p q f e = e
same_otherwise (Some g) p q f e = refl

-- one alternative in front of two that take the same
pub or_same : (a b c : Expression) (f : Forest) → takes b f ≡ takes c f → takes (a ∣ b) f ≡ takes (a ∣ c) f
or_same a b c f e = same_otherwise (takes a f) (takes b) (takes c) f e

first_none : (o : Option Forest) (q : Taking) (f : Forest) → otherwise o q f ≡ None → o ≡ None
first_none None q f e = refl
first_none (Some g) q f e = absurd cc

second_none : (o : Option Forest) (q : Taking) (f : Forest) → otherwise o q f ≡ None → q f ≡ None
second_none None q f e = e
second_none (Some g) q f e = absurd cc

-- a choice that does not fit
pub neither : (a b : Expression) (f : Forest) → takes (a ∣ b) f ≡ None → (takes a f ≡ None) × (takes b f ≡ None)
neither a b f e = (first_none (takes a f) (takes b) f e, second_none (takes a f) (takes b) f e)

-- ---- sequences

first_some : (q : Taking) (o : Option Forest) (g : Forest) → option_and_then q o ≡ Some g → (h : Forest) × (o ≡ Some h) × (q h ≡ Some g)
first_some q None g e = absurd cc
first_some q (Some h) g e = (h, refl, e)

-- both parts of a sequence that fits
pub both : (a b : Expression) (f g : Forest) → takes (a ⨾ b) f ≡ Some g → (h : Forest) × (takes a f ≡ Some h) × (takes b h ≡ Some g)
both a b f g e = first_some (takes b) (takes a f) g e

and_then_same : (p q : Taking) (o : Option Forest) → ((g : Forest) → p g ≡ q g) → option_and_then p o ≡ option_and_then q o
and_then_same p q None each = refl
and_then_same p q (Some g) each = each g

then_same : (a b c : Expression) (f : Forest) → ((g : Forest) → takes b g ≡ takes c g) → takes (a ⨾ b) f ≡ takes (a ⨾ c) f
then_same a b c f each = and_then_same (takes b) (takes c) (takes a f) each

-- two, three or four parts in front of another, put together
pub two_parts : (a b x : Expression) (f : Forest) → takes (a ⨾ b ⨾ x) f ≡ takes ((a ⨾ b) ⨾ x) f
two_parts a b x f = sym (then-assoc a b x f)

pub three_parts : (a b c x : Expression) (f : Forest) → takes (a ⨾ b ⨾ c ⨾ x) f ≡ takes ((a ⨾ b ⨾ c) ⨾ x) f
three_parts a b c x f = then_same a (b ⨾ c ⨾ x) ((b ⨾ c) ⨾ x) f (two_parts b c x) ∙ two_parts a (b ⨾ c) x f

pub four_parts : (a b c d x : Expression) (f : Forest) → takes (a ⨾ b ⨾ c ⨾ d ⨾ x) f ≡ takes ((a ⨾ b ⨾ c ⨾ d) ⨾ x) f
four_parts a b c d x f = then_same a (b ⨾ c ⨾ d ⨾ x) ((b ⨾ c ⨾ d) ⨾ x) f (three_parts b c d x) ∙ two_parts a (b ⨾ c ⨾ d) x f
