-- One of several operators: the list is read once.
use Rattle.std.proofs.Common.{◌≡◌, ℕ, List, [], ◌∷◌, Bool, true, false, ◌||◌, refl, sym, ap, ◌∙◌, codes, Option, Some, None}
use Prim.Native.String.{String}
use Rattle.tt_data.specs.Forest.{Forest}
use Rattle.small_grammar.specs.declared.units.Operator.{Operator}
use Rattle.small_grammar.proofs.ChoiceLemmas.{same_otherwise}
use Rattle.small_grammar.specs.Expressions.{otherwise, token, never}
use Rattle.small_grammar.specs.SmallGrammar.{takes, spelled, one_of, glued}
use Rattle.small_grammar.specs.Tokens.{operator_of, operator_where, same_operator, spells, is_one_of_words, is_operator, words, first_operator, passing, token_at, operator}
use Rattle.small_grammar.specs.Text.{◌>>◌}

none-passes : (m : Option (Operator × Forest)) → None ≡ passing (λ op. false) m
none-passes None = refl
none-passes (Some (op, g)) = refl

spelled-by : (o : Option Operator) (f : Forest) →
    takes (elim o [ None ↦ never | Some op ↦ token (operator op) ]) f ≡ operator_where (λ op. elim o [ None ↦ false | Some p ↦ same_operator p op ]) f
unfolding token_at
spelled-by None f = none-passes (first_operator f)
spelled-by (Some op) f = refl

spelled-is : (w : List ℕ) (f : Forest) → takes (spelled w) f ≡ operator_where (spells w) f
spelled-is w f = spelled-by (operator_of w) f

first_or_other : (a b : Bool) (f g : Forest) → otherwise (a >> Some g) (λ h. b >> Some g) f ≡ ((a || b) >> Some g)
first_or_other true b f g = refl
first_or_other false b f g = refl

either : (p q : Operator → Bool) (f : Forest) (m : Option (Operator × Forest)) →
    otherwise (passing p m) (λ g. passing q m) f ≡ passing (λ op. p op || q op) m
either p q f None = refl
either p q f (Some (op, g)) = first_or_other (p op) (q op) f g

pub one_of-is : (ws : List (List ℕ)) (f : Forest) → takes (one_of ws) f ≡ operator_where (is_one_of_words ws) f
one_of-is [] f = none-passes (first_operator f)
one_of-is (w ∷ []) f = spelled-is w f
one_of-is (w ∷ v ∷ ws) f =
    ap (λ o. otherwise o (takes (one_of (v ∷ ws))) f) (spelled-is w f)
    ∙ same_otherwise (operator_where (spells w) f) (takes (one_of (v ∷ ws))) (λ g. operator_where (is_one_of_words (v ∷ ws)) f) f (one_of-is (v ∷ ws) f)
    ∙ either (spells w) (is_one_of_words (v ∷ ws)) f (first_operator f)

-- the glued puncts at the beginning, and what is taken of them
pub taken-by : (text : String) (f : Forest) (m : Option (Operator × Forest)) → first_operator f ≡ m → takes (glued text) f ≡ passing (is_operator text) m
taken-by text f m e = one_of-is (words (codes text)) f ∙ ap (passing (is_operator text)) e

pub one-taken : (text : String) (f g : Forest) (op : Operator) → first_operator f ≡ Some (op, g) → is_operator text op ≡ true → Some g ≡ takes (glued text) f
one-taken text f g op e passes = rw (taken-by text f (Some (op, g)) e, passes) refl

pub none-taken : (text : String) (f g : Forest) (op : Operator) → first_operator f ≡ Some (op, g) → is_operator text op ≡ false → None ≡ takes (glued text) f
none-taken text f g op e fails = rw (taken-by text f (Some (op, g)) e, fails) refl

pub no-puncts : (text : String) (f : Forest) → first_operator f ≡ None → None ≡ takes (glued text) f
no-puncts text f e = sym (taken-by text f None e)
