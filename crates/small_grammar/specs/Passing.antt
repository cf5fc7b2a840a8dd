-- What an expression takes are trees at the front of the list, with at least so many tokens.
use Rattle.std.proofs.Common.{◌≡◌, ℕ, suc, zero, ◌+◌, ◌≤◌, min, Bool, true, false, not, ◌&&◌, List, [], ◌∷◌, refl, sym, ap, ◌∙◌, subst, arith, Option, Some, None}
use Rattle.std.specs.Prelude.{option_map, option_and_then, unwrap_or, nat_eq}
use Rattle.tt_data.specs.Forest.{Forest, empty, leaf, group, joined, size}
use Rattle.tt_data.proofs.ForestLemmas.{joined_assoc, size-joined}
use Rattle.tt_data.specs.declared.delimiter.Delimiter.{Delimiter}
use Rattle.tt_data.specs.declared.delimiter.DelimiterKind.{DelimiterKind}
use Rattle.tt_data.specs.declared.leaf.Ident.{Ident}
use Rattle.tt_data.specs.declared.leaf.Leaf.{Leaf}
use Rattle.tt_data.specs.declared.leaf.Leaf.TheVariants as as_leaf
use Rattle.tt_data.specs.declared.leaf.LitKind.{LitKind}
use Rattle.tt_data.specs.declared.leaf.Punct.{Punct}
use Rattle.tt.proofs.GluedLemmas.{punct_trees, size-puncts, glued-in_front, glued-one}
use Rattle.tt.specs.Glued.{is_alone, characters, glued_at}
use Rattle.small_grammar.specs.declared.units.Operator.{Operator}
use Rattle.small_grammar.specs.Text.{◌>>=◌, ◌>>◌}
use Rattle.small_grammar.specs.Tokens.{ident_where, literal_where, group_where, puncts_in_turn, operator_of, operator_where, passing, Token, a_word, a_name, an_identifier, a_literal, a_number, a_group, a_restriction, puncts, operator, token_at}
use Rattle.small_grammar.specs.Expressions.{Name, Expression, never, token, ◌⨾◌, ◌∣◌, many, maybe, rule, Taking, one_after_other, otherwise, first_that_fits, once_where_it_fits, after_rounds, as_often_as_it_fits, taken}

-- the second list is what is left of the first after at least n tokens
abbrev pub Passed : ℕ → Forest → Forest → Type 0
Passed n f g = (t : Forest) × (f ≡ joined t g) × (n ≤ size t)

-- it always takes at least n tokens at the front
abbrev pub TakesAtLeast : ℕ → Taking → Type 0
TakesAtLeast n p = (f g : Forest) → p f ≡ Some g → Passed n f g

-- the least number of tokens that an expression takes
abbrev pub least : Expression → ℕ
least never = 1
least (token t) = 1
least (a ⨾ b) = least a + least b
least (a ∣ b) = min (least a) (least b)
least (many a) = 0
least (maybe a) = 0
least (rule n) = 1

-- ---- tokens

-- a forest after one of its trees
pub behind_leaf : (l : Leaf) (rest g : Forest) → rest ≡ g → Passed 1 (leaf l rest) g
behind_leaf l rest g e = (leaf l empty, ap (leaf l) e, omega arith)

pub behind_group : (d : Delimiter) (inner rest g : Forest) → rest ≡ g → Passed 1 (group d inner rest) g
behind_group d inner rest g e = (group d inner empty, ap (group d inner) e, omega arith)

-- after a token that passes a test
if_passes : (b : Bool) (f rest g : Forest) → (rest ≡ g → Passed 1 f g) → (b >> Some rest) ≡ Some g → Passed 1 f g
if_passes true f rest g then_passed e = then_passed cc
if_passes false f rest g then_passed e = absurd cc

pub ident-takes : (passes : Ident → Bool) → TakesAtLeast 1 (ident_where passes)
ident-takes passes empty g e = absurd cc
ident-takes passes (leaf (as_leaf.Ident i) rest) g e = if_passes (passes i) (leaf (as_leaf.Ident i) rest) rest g (behind_leaf _ _ _) e
ident-takes passes (leaf (as_leaf.Punct p) rest) g e = absurd cc
ident-takes passes (leaf (as_leaf.Literal l) rest) g e = absurd cc
ident-takes passes (group d inner rest) g e = absurd cc

literal-takes : (passes : LitKind → Bool) → TakesAtLeast 1 (literal_where passes)
literal-takes passes empty g e = absurd cc
literal-takes passes (leaf (as_leaf.Literal l) rest) g e = if_passes (passes l.kind) (leaf (as_leaf.Literal l) rest) rest g (behind_leaf _ _ _) e
literal-takes passes (leaf (as_leaf.Punct p) rest) g e = absurd cc
literal-takes passes (leaf (as_leaf.Ident i) rest) g e = absurd cc
literal-takes passes (group d inner rest) g e = absurd cc

pub group-takes : (passes : DelimiterKind → Forest → Bool) → TakesAtLeast 1 (group_where passes)
group-takes passes empty g e = absurd cc
group-takes passes (leaf (as_leaf.Literal l) rest) g e = absurd cc
group-takes passes (leaf (as_leaf.Punct p) rest) g e = absurd cc
group-takes passes (leaf (as_leaf.Ident i) rest) g e = absurd cc
group-takes passes (group d inner rest) g e = if_passes (passes d.kind inner) (group d inner rest) rest g (behind_group _ _ _ _) e

more_passed : (l : Leaf) (rest g : Forest) (n : ℕ) → Passed n rest g → Passed (1 + n) (leaf l rest) g
more_passed l rest g n (t, e, h) = (leaf l t, ap (leaf l) e, omega (arith, h))

punct_and_more : (b : Bool) (l : Leaf) (rest g : Forest) (o : Option Forest) → (o ≡ Some g → Passed 1 rest g) → (b >> o) ≡ Some g → Passed 1 (leaf l rest) g
punct_and_more false l rest g o then_passed e = absurd cc
punct_and_more true l rest g o then_passed e = (let w = more_passed l rest g 1 (then_passed e) in (w.0, w.1, (let h = w.2 in omega (arith, h))))

puncts-take : (cs : List ℕ) → TakesAtLeast 1 (puncts_in_turn cs)
puncts-take [] f g e = absurd cc
puncts-take (c ∷ []) empty g e = absurd cc
puncts-take (c ∷ []) (leaf (as_leaf.Punct p) rest) g e = if_passes (nat_eq p.char c) (leaf (as_leaf.Punct p) rest) rest g (behind_leaf _ _ _) e
puncts-take (c ∷ []) (leaf (as_leaf.Ident i) rest) g e = absurd cc
puncts-take (c ∷ []) (leaf (as_leaf.Literal i) rest) g e = absurd cc
puncts-take (c ∷ []) (group d inner rest) g e = absurd cc
puncts-take (c ∷ b ∷ cs) empty g e = absurd cc
puncts-take (c ∷ b ∷ cs) (leaf (as_leaf.Punct p) rest) g e =
    punct_and_more (nat_eq p.char c && not (is_alone p.spacing)) (as_leaf.Punct p) rest g (puncts_in_turn (b ∷ cs) rest) (puncts-take (b ∷ cs) rest g) e
puncts-take (c ∷ b ∷ cs) (leaf (as_leaf.Ident i) rest) g e = absurd cc
puncts-take (c ∷ b ∷ cs) (leaf (as_leaf.Literal i) rest) g e = absurd cc
puncts-take (c ∷ b ∷ cs) (group d inner rest) g e = absurd cc

behind_glued : (p : Punct) (rest : Forest) → Passed 1 (leaf (as_leaf.Punct p) rest) (glued_at p rest).1
behind_glued p rest =
    let one = glued-one p rest in
    let all = size-puncts (glued_at p rest).0 in
    (punct_trees (glued_at p rest).0, sym (glued-in_front p rest), omega (arith, one, all))

behind_operator : (passes : Operator → Bool) (f rest g : Forest) (o : Option Operator) → Passed 1 f rest →
    passing passes (o >>= λ op. Some (op, rest)) ≡ Some g → Passed 1 f g
behind_operator passes f rest g None passed e = absurd cc
behind_operator passes f rest g (Some op) passed e = if_passes (passes op) f rest g (λ same. subst (Passed 1 f) same passed) e

pub operator-takes : (passes : Operator → Bool) → TakesAtLeast 1 (operator_where passes)
operator-takes passes empty g e = absurd cc
operator-takes passes (leaf (as_leaf.Punct p) rest) g e =
    behind_operator passes (leaf (as_leaf.Punct p) rest) (glued_at p rest).1 g (operator_of (characters (glued_at p rest).0)) (behind_glued p rest) e
operator-takes passes (leaf (as_leaf.Ident i) rest) g e = absurd cc
operator-takes passes (leaf (as_leaf.Literal i) rest) g e = absurd cc
operator-takes passes (group d inner rest) g e = absurd cc

pub token-takes : (t : Token) → TakesAtLeast 1 (token_at t)
unfolding token_at
token-takes (a_word text) = ident-takes _
token-takes a_name = ident-takes _
token-takes an_identifier = ident-takes (λ i. true)
token-takes a_literal = literal-takes (λ kind. true)
token-takes a_number = literal-takes _
token-takes (a_group kind) = group-takes _
token-takes a_restriction = group-takes _
token-takes (puncts text) = puncts-take text
token-takes (operator op) = operator-takes _

-- ---- expressions

pub passed-none : (f : Forest) → Passed 0 f f
passed-none f = (empty, refl, omega arith)

pub passed-both : (m n : ℕ) (f g h : Forest) → Passed m f g → Passed n g h → Passed (m + n) f h
passed-both m n f g h a b = (
  joined a.0 b.0,
  a.1 ∙ ap (joined a.0) b.1 ∙ sym (joined_assoc a.0 b.0 h),
  (let s = size-joined a.0 b.0 in let i = a.2 in let j = b.2 in omega (arith, s, i, j)),
)

pub passed-fewer : (m n : ℕ) (f g : Forest) → n ≤ m → Passed m f g → Passed n f g
passed-fewer m n f g less a = (a.0, a.1, (let h = a.2 in omega (arith, h, less)))

-- fewer tokens are left
pub passed-size : (n : ℕ) (f g : Forest) → Passed n f g → n + size g ≤ size f
passed-size n f g a = (let s = ap size a.1 in let t = size-joined a.0 g in let h = a.2 in omega (arith, s, t, h))

module _ (p q : Taking) where
  and_then-passes : (m n : ℕ) → TakesAtLeast n q → (f g : Forest) (o : Option Forest) → ((h : Forest) → o ≡ Some h → Passed m f h) → option_and_then q o ≡ Some g → Passed (m + n) f g
  and_then-passes m n q_takes f g None p_takes e = absurd cc
  and_then-passes m n q_takes f g (Some h) p_takes e = passed-both m n f h g (p_takes h refl) (q_takes h g e)

  pub one_after_other-takes : (m n : ℕ) → TakesAtLeast m p → TakesAtLeast n q → TakesAtLeast (m + n) (one_after_other p q)
  one_after_other-takes m n p_takes q_takes f g e = and_then-passes m n q_takes f g (p f) (p_takes f) e

  otherwise-passes : (n : ℕ) → TakesAtLeast n q → (f g : Forest) (o : Option Forest) → ((h : Forest) → o ≡ Some h → Passed n f h) → otherwise o q f ≡ Some g → Passed n f g
  otherwise-passes n q_takes f g None p_takes e = q_takes f g e
  otherwise-passes n q_takes f g (Some h) p_takes e = p_takes g e

  pub first_that_fits-takes : (n : ℕ) → TakesAtLeast n p → TakesAtLeast n q → TakesAtLeast n (first_that_fits p q)
  first_that_fits-takes n p_takes q_takes f g e = otherwise-passes n q_takes f g (p f) (p_takes f) e

module _ (p : Taking) (n : ℕ) (p_takes : TakesAtLeast n p) where
  unwrapped-passes : (f g : Forest) (o : Option Forest) → ((h : Forest) → o ≡ Some h → Passed n f h) → unwrap_or o f ≡ g → Passed 0 f g
  unwrapped-passes f g None takes e = subst (Passed 0 f) e (passed-none f)
  unwrapped-passes f g (Some h) takes e = subst (Passed 0 f) e (passed-fewer n 0 f h (omega arith) (takes h refl))

  pub once-takes : TakesAtLeast 0 (once_where_it_fits p)
  once-takes f g e = unwrapped-passes f g (p f) (p_takes f) cc

  round-passes : (q : Forest → Forest) → ((h : Forest) → Passed 0 h (q h)) → (f : Forest) (o : Option Forest) → ((h : Forest) → o ≡ Some h → Passed n f h) → Passed 0 f (unwrap_or (option_map q o) f)
  round-passes q others f None takes = passed-none f
  round-passes q others f (Some h) takes = passed-both 0 0 f h (q h) (passed-fewer n 0 f h (omega arith) (takes h refl)) (others h)

  pub rounds-pass : (m : ℕ) (f : Forest) → Passed 0 f (after_rounds m p f)
  rounds-pass zero f = passed-none f
  rounds-pass (suc m) f = round-passes (after_rounds m p) (rounds-pass m) f (p f) (p_takes f)

  pub as_often-takes : TakesAtLeast 0 (as_often_as_it_fits p)
  as_often-takes f g e = (let same : after_rounds (size f) p f ≡ g = cc in subst (Passed 0 f) same (rounds-pass (size f) f))

fewer-taken : (m n : ℕ) (p : Taking) → n ≤ m → TakesAtLeast m p → TakesAtLeast n p
fewer-taken m n p less takes f g e = passed-fewer m n f g less (takes f g e)

module _ (rules : Name → Taking) (rules_take : (k : Name) → TakesAtLeast 1 (rules k)) where
  pub expression-takes : (e : Expression) → TakesAtLeast (least e) (taken rules e)
  expression-takes never = λ f g h. absurd cc
  expression-takes (token t) = token-takes t
  expression-takes (a ⨾ b) = one_after_other-takes (taken rules a) (taken rules b) (least a) (least b) (expression-takes a) (expression-takes b)
  expression-takes (a ∣ b) =
      first_that_fits-takes (taken rules a) (taken rules b) (min (least a) (least b))
      (fewer-taken (least a) (min (least a) (least b)) (taken rules a) (omega arith) (expression-takes a))
      (fewer-taken (least b) (min (least a) (least b)) (taken rules b) (omega arith) (expression-takes b))
  expression-takes (many a) = as_often-takes (taken rules a) (least a) (expression-takes a)
  expression-takes (maybe a) = once-takes (taken rules a) (least a) (expression-takes a)
  expression-takes (rule k) = rules_take k
