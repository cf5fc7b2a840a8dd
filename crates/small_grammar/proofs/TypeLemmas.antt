-- A type after `&`, `*const` or `*mut`: where such a sign fits, no other alternative does.
use Rattle.std.proofs.Common.{◌≡◌, ℕ, Bool, true, false, [], ◌∷◌, nat_eq, refl, ◌∙◌, Option, Some, None}
use Rattle.std.proofs.lemmas.Bool.{eqb-true}
use Rattle.tt_data.specs.Forest.{Forest, empty, leaf, group}
use Rattle.tt_data.specs.declared.leaf.Leaf.TheVariants as as_leaf
use Rattle.tt_data.specs.declared.leaf.Punct.{Punct}
use Rattle.small_grammar.proofs.ChoiceLemmas.{skip, alone, neither, both, two_parts, three_parts}
use Rattle.small_grammar.proofs.TakingLemmas.{then_on, then_none}
use Rattle.small_grammar.specs.Expressions.{a_type, Expression, ◌⨾◌, ◌∣◌, maybe, otherwise}
use Rattle.small_grammar.specs.Rules.{rule-is}
use Rattle.small_grammar.specs.Signs.{type_sign, bare_type}
use Rattle.small_grammar.specs.SmallGrammar.{takes, type, type_rule, seg, tpath, lifetime, single, word}
use Rattle.small_grammar.specs.Tokens.{token_at, puncts}
use Rattle.small_grammar.specs.Text.{◌>>◌}

-- the signs, and each with a type behind it
abbrev reference : Expression
reference = single "&" ⨾ maybe lifetime ⨾ maybe (word "mut")

abbrev pointer : Expression
pointer = single "*" ⨾ (word "const" ∣ word "mut")

abbrev referent : Expression
referent = single "&" ⨾ maybe lifetime ⨾ maybe (word "mut") ⨾ type

abbrev pointed : Expression
pointed = single "*" ⨾ (word "const" ∣ word "mut") ⨾ type

-- ---- what begins with such a punct

pub passes : (b : Bool) (rest g : Forest) → (b >> Some rest) ≡ Some g → b ≡ true
passes true rest g e = refl
passes false rest g e = absurd cc

-- a list that begins with a punct of this character
pub begins : (c : ℕ) (f g : Forest) → token_at (puncts (c ∷ [])) f ≡ Some g → (p : Punct) × (rest : Forest) × (f ≡ leaf (as_leaf.Punct p) rest) × (p.char ≡ c)
unfolding token_at
begins c empty g e = absurd cc
begins c (leaf (as_leaf.Ident i) rest) g e = absurd cc
begins c (leaf (as_leaf.Literal l) rest) g e = absurd cc
begins c (group d inner rest) g e = absurd cc
begins c (leaf (as_leaf.Punct p) rest) g e = (p, rest, refl, eqb-true p.char c (passes (nat_eq p.char c) rest g e))

no_bare_type : (p : Punct) (rest : Forest) (c : ℕ) → p.char ≡ c → nat_eq c 33 ≡ false → nat_eq c 58 ≡ false → takes bare_type (leaf (as_leaf.Punct p) rest) ≡ None
unfolding token_at tpath seg
no_bare_type p rest c e h i = rw (e, h, i) refl

no_pointer : (p : Punct) (rest : Forest) (c : ℕ) → p.char ≡ c → nat_eq c 42 ≡ false → takes pointed (leaf (as_leaf.Punct p) rest) ≡ None
unfolding token_at
no_pointer p rest c e h = rw (e, h) refl

-- behind `&` nothing else fits, and behind `*` no alternative further down
only_reference : (f g : Forest) → takes reference f ≡ Some g → takes (pointed ∣ bare_type) f ≡ None
only_reference f g e =
    let first = both (single "&") (maybe lifetime ⨾ maybe (word "mut")) f g e in
    let at = begins 38 f first.0 first.1 in
    rw at.2 (skip pointed bare_type (leaf (as_leaf.Punct at.0) at.1) (no_pointer at.0 at.1 38 at.3 refl) ∙ no_bare_type at.0 at.1 38 at.3 refl refl)

only_pointer : (f g : Forest) → takes pointer f ≡ Some g → takes bare_type f ≡ None
only_pointer f g e =
    let first = both (single "*") (word "const" ∣ word "mut") f g e in
    let at = begins 42 f first.0 first.1 in
    rw at.2 (no_bare_type at.0 at.1 42 at.3 refl refl)

-- ---- the rule of types

by_sign : (f g : Forest) (o : Option Forest) → takes reference f ≡ o → otherwise o (takes pointer) f ≡ Some g → takes type_rule f ≡ takes type g
unfolding type_rule
by_sign f g (Some h) first e =
    let same : Some h ≡ Some g = e in
    alone referent (pointed ∣ bare_type) f (only_reference f h first)
    ∙ three_parts (single "&") (maybe lifetime) (maybe (word "mut")) type f
    ∙ then_on reference type f g (first ∙ same)
by_sign f g None first e =
    skip referent (pointed ∣ bare_type) f (three_parts (single "&") (maybe lifetime) (maybe (word "mut")) type f ∙ then_none reference type f first)
    ∙ alone pointed bare_type f (only_pointer f g e)
    ∙ two_parts (single "*") (word "const" ∣ word "mut") type f
    ∙ then_on pointer type f g e

-- behind a sign there is a type just where one stands behind the sign
pub type_behind_sign : (f g : Forest) → takes type_sign f ≡ Some g → takes type f ≡ takes type g
type_behind_sign f g e = rule-is a_type f ∙ by_sign f g (takes reference f) refl e

-- without a sign one of the other alternatives decides
pub type_without_sign : (f : Forest) → takes type_sign f ≡ None → takes type f ≡ takes bare_type f
unfolding type_rule
type_without_sign f e =
    let none = neither reference pointer f e in
    rule-is a_type f
    ∙ skip referent (pointed ∣ bare_type) f (three_parts (single "&") (maybe lifetime) (maybe (word "mut")) type f ∙ then_none reference type f none.0)
    ∙ skip pointed bare_type f (two_parts (single "*") (word "const" ∣ word "mut") type f ∙ then_none pointer type f none.1)
