-- A pattern after `&`, or after an identifier and `@`: which alternatives remain.
use Rattle.std.proofs.Common.{◌≡◌, ℕ, Bool, true, false, ◌&&◌, ◌||◌, ◌⊎◌, inl, inr, not, List, nat_eq, refl, sym, ap, ◌∙◌, codes, Option, Some, None}
use Rattle.std.proofs.lemmas.Bool.{and_parts, eqb-true}
use Rattle.std.proofs.lemmas.Slice.Eq.{bytes_eq-Decides}
use Rattle.std.specs.Option.{option_or}
use Rattle.std.specs.Prelude.{option_and_then, unwrap_or}
use Rattle.std.specs.Str.{bytes_eq}
use Rattle.tt_data.specs.Forest.{Forest, empty, leaf, group, size}
use Rattle.tt_data.specs.declared.leaf.Ident.{Ident}
use Rattle.tt_data.specs.declared.leaf.Leaf.TheVariants as as_leaf
use Rattle.tt_data.specs.declared.leaf.Punct.{Punct}
use Rattle.tt.specs.Glued.{characters, glued_at}
use Rattle.small_grammar.specs.declared.units.Operator.{Operator}
use Rattle.small_grammar.specs.declared.units.Operator.TheVariants.{One, Two, Three}
use Rattle.small_grammar.proofs.ChoiceLemmas.{skip, alone, both, or_same, same_otherwise, two_parts, four_parts}
use Rattle.small_grammar.proofs.OperatorLemmas.{one_of-is}
use Rattle.small_grammar.proofs.TakingLemmas.{then_on, then_none}
use Rattle.small_grammar.proofs.TypeLemmas.{passes}
use Rattle.small_grammar.specs.Expressions.{a_pattern, Expression, ◌⨾◌, ◌∣◌, many, maybe, Taking, otherwise, after_rounds}
use Rattle.small_grammar.specs.Rules.{rule-is}
use Rattle.small_grammar.specs.Signs.{reference_sign, binding_sign, bare_pattern}
use Rattle.small_grammar.specs.SmallGrammar.{takes, pat, pat_rule, num, path, name, literal, word, generics, glued, paren, brace, bracket, group as any_group}
use Rattle.small_grammar.specs.Text.{has_text, is_raw_name, ◌>>=◌, ◌>>◌}
use Rattle.small_grammar.specs.Tokens.{token_at, is_name, is_among, reserved, path_words, is_operator, operator_of, operator_where, passing, words}

-- ---- the alternatives

abbrev literals : Expression
literals = num ⨾ maybe (glued "..= .." ⨾ num)

abbrev referent : Expression
referent = glued "& &&" ⨾ maybe (word "mut") ⨾ pat

abbrev bound : Expression
bound = maybe (word "ref") ⨾ maybe (word "mut") ⨾ name ⨾ glued "@" ⨾ pat

abbrev moded : Expression
moded = (word "ref" ⨾ maybe (word "mut") ∣ word "mut") ⨾ name

abbrev parts : Expression
parts = paren ∣ brace ∣ glued "!" ⨾ any_group

abbrev by_path : Expression
by_path = path ⨾ maybe parts

-- the alternatives that come first, and the brackets, in front of others
abbrev front : Expression → Expression
front x = word "_" ∣ glued ".." ∣ literals ∣ word "true" ∣ word "false" ∣ x

abbrev brackets : Expression → Expression
brackets x = paren ∣ bracket ∣ x

-- those below a reference, and those below the brackets
abbrev below_brackets : Expression
below_brackets = bound ∣ moded ∣ by_path

abbrev below_reference : Expression
below_reference = brackets below_brackets

behind_front : (x : Expression) (f : Forest) → takes (word "_") f ≡ None → takes (glued "..") f ≡ None → takes literals f ≡ None →
    takes (word "true") f ≡ None → takes (word "false") f ≡ None → takes (front x) f ≡ takes x f
behind_front x f a b c d e =
    skip (word "_") (glued ".." ∣ literals ∣ word "true" ∣ word "false" ∣ x) f a
    ∙ skip (glued "..") (literals ∣ word "true" ∣ word "false" ∣ x) f b
    ∙ skip literals (word "true" ∣ word "false" ∣ x) f c
    ∙ skip (word "true") (word "false" ∣ x) f d
    ∙ skip (word "false") x f e

behind_brackets : (x : Expression) (f : Forest) → takes paren f ≡ None → takes bracket f ≡ None → takes (brackets x) f ≡ takes x f
behind_brackets x f a b = skip paren (bracket ∣ x) f a ∙ skip bracket x f b

front_same : (x y : Expression) (f : Forest) → takes x f ≡ takes y f → takes (front x) f ≡ takes (front y) f
front_same x y f e =
    or_same (word "_") (glued ".." ∣ literals ∣ word "true" ∣ word "false" ∣ x) (glued ".." ∣ literals ∣ word "true" ∣ word "false" ∣ y) f
    (or_same (glued "..") (literals ∣ word "true" ∣ word "false" ∣ x) (literals ∣ word "true" ∣ word "false" ∣ y) f
    (or_same literals (word "true" ∣ word "false" ∣ x) (word "true" ∣ word "false" ∣ y) f
    (or_same (word "true") (word "false" ∣ x) (word "false" ∣ y) f (or_same (word "false") x y f e))))

brackets_same : (x y : Expression) (f : Forest) → takes x f ≡ takes y f → takes (brackets x) f ≡ takes (brackets y) f
brackets_same x y f e = or_same paren (bracket ∣ x) (bracket ∣ y) f (or_same bracket x y f e)

-- ---- small facts

or_false : (b : Bool) → (b || false) ≡ true → b ≡ true
or_false true e = refl
or_false false e = absurd cc

and_false : (b : Bool) → (b && false) ≡ false
and_false true = refl
and_false false = refl

not_true : (b : Bool) → not b ≡ true → b ≡ false
not_true false e = refl
not_true true e = absurd cc

refuted : (b : Bool) → (b ≡ true → ⊥) → b ≡ false
refuted false never = refl
refuted true never = absurd (never refl)

-- ---- behind `&` or `&&`

-- a punct whose operator is a reference's sign begins no other alternative
module _ (p : Punct) (rest : Forest) where
  abbrev at_punct : Forest
  at_punct = leaf (as_leaf.Punct p) rest

  below_none : takes (glued "::") at_punct ≡ None → takes below_reference at_punct ≡ None
  unfolding token_at path
  below_none e =
      behind_brackets below_brackets at_punct refl refl
      ∙ skip bound (moded ∣ by_path) at_punct refl
      ∙ skip moded by_path at_punct refl
      ∙ ap (λ o. option_and_then (takes (maybe parts)) (option_and_then (takes (name ⨾ many (glued "::" ⨾ (name ∣ generics)))) (Some (unwrap_or o at_punct)))) e

  only_referent : takes (glued "..") at_punct ≡ None → takes (glued "-") at_punct ≡ None → takes (glued "::") at_punct ≡ None → takes pat_rule at_punct ≡ takes referent at_punct
  unfolding token_at pat_rule num
  only_referent dots minus colons =
      behind_front (referent ∣ below_reference) at_punct refl dots
      (ap (λ o. option_and_then (takes (maybe (glued "..= .." ⨾ num))) (option_and_then (takes literal) (Some (unwrap_or o at_punct)))) minus)
      refl refl
      ∙ alone referent below_reference at_punct (below_none colons)

  by_sign : (operator_of (characters (glued_at p rest).0) ≡ Some (One 38)) ⊎ (operator_of (characters (glued_at p rest).0) ≡ Some (Two 38 38)) → takes pat_rule at_punct ≡ takes referent at_punct
  unfolding token_at
  by_sign (inl one) = only_referent (rw one refl) (rw one refl) (rw one refl)
  by_sign (inr two) = only_referent (rw two refl) (rw two refl) (rw two refl)

sign_of : (op : Operator) → is_operator "& &&" op ≡ true → (Some op ≡ Some (One 38)) ⊎ (Some op ≡ Some (Two 38 38))
sign_of (One a) e = inl (ap (λ x. Some (One x)) (sym (eqb-true 38 a (or_false (nat_eq 38 a) e))))
sign_of (Two a b) e =
    let first = eqb-true 38 a (and_parts (nat_eq 38 a) (nat_eq 38 b) e).0 in
    let second = eqb-true 38 b (and_parts (nat_eq 38 a) (nat_eq 38 b) e).1 in
    inr (ap (λ x. Some (Two x b)) (sym first) ∙ ap (λ x. Some (Two 38 x)) (sym second))
sign_of (Three a b c) e = absurd cc

which_sign : (o : Option Operator) (g h : Forest) → passing (is_operator "& &&") (o >>= λ op. Some (op, g)) ≡ Some h → (o ≡ Some (One 38)) ⊎ (o ≡ Some (Two 38 38))
which_sign None g h e = absurd cc
which_sign (Some op) g h e = sign_of op (passes (is_operator "& &&" op) g h e)

only_reference : (f h : Forest) → operator_where (is_operator "& &&") f ≡ Some h → takes pat_rule f ≡ takes referent f
only_reference empty h e = absurd cc
only_reference (leaf (as_leaf.Ident i) rest) h e = absurd cc
only_reference (leaf (as_leaf.Literal l) rest) h e = absurd cc
only_reference (group d inner rest) h e = absurd cc
only_reference (leaf (as_leaf.Punct p) rest) h e =
    by_sign p rest (which_sign (operator_of (characters (glued_at p rest).0)) (glued_at p rest).1 h e)

-- behind a reference's sign there is a pattern just where one stands behind the sign
pub pattern_behind_reference : (f g : Forest) → takes reference_sign f ≡ Some g → takes pat f ≡ takes pat g
pattern_behind_reference f g e =
    let first = both (glued "& &&") (maybe (word "mut")) f g e in
    rule-is a_pattern f
    ∙ only_reference f first.0 (sym (one_of-is (words (codes "& &&")) f) ∙ first.1)
    ∙ two_parts (glued "& &&") (maybe (word "mut")) pat f
    ∙ then_on reference_sign pat f g e

-- ---- behind a name and `@`

-- a word is no other word
no_other : (i : Ident) (w v : List ℕ) → has_text w i ≡ true → bytes_eq w v ≡ false → has_text v i ≡ false
no_other i w v e differ =
    let same : i.sym ≡ w = (bytes_eq-Decides i.sym w).0 (and_parts (not (is_raw_name i)) (bytes_eq i.sym w) e).1 in
    ap (λ t. not (is_raw_name i) && bytes_eq t v) same ∙ ap (λ b. not (is_raw_name i) && b) differ ∙ and_false (not (is_raw_name i))

-- whether a word is a name
abbrev may_name : List ℕ → Bool
may_name v = not (bytes_eq v (codes "_")) && (not (is_among reserved v) || is_among path_words v)

word_names : (i : Ident) (v : List ℕ) → has_text v i ≡ true → is_name i ≡ may_name v
word_names i v e =
    let same : i.sym ≡ v = (bytes_eq-Decides i.sym v).0 (and_parts (not (is_raw_name i)) (bytes_eq i.sym v) e).1 in
    let plain : is_raw_name i ≡ false = not_true (is_raw_name i) (and_parts (not (is_raw_name i)) (bytes_eq i.sym v) e).0 in
    ap (λ r. not (bytes_eq i.sym (codes "_")) && (r || (not (is_among reserved i.sym) || is_among path_words i.sym))) plain
    ∙ ap (λ t. not (bytes_eq t (codes "_")) && (not (is_among reserved t) || is_among path_words t)) same

no_word : (i : Ident) (v : List ℕ) → is_name i ≡ true → may_name v ≡ false → has_text v i ≡ false
no_word i v named e = refuted (has_text v i) (λ t. let same = sym named ∙ word_names i v t ∙ e in cc)

fits_always : (x y : Expression) (f : Forest) → (h : Forest) × (takes (many x ⨾ maybe y) f ≡ Some h)
fits_always x y f =
    let g : Forest = after_rounds (size f) (takes x) f in
    (unwrap_or (takes y g) g, refl)

module _ (i : Ident) (rest : Forest) where
  abbrev here : Forest
  here = leaf (as_leaf.Ident i) rest

  no_such_word : (v : List ℕ) → has_text v i ≡ false → (has_text v i >> Some rest) ≡ None
  no_such_word v e = ap (λ b. b >> Some rest) e

  -- none of the words `_`, `true` and `false`
  abbrev IsOther : Type 0
  IsOther = (has_text (codes "_") i ≡ false) × (has_text (codes "true") i ≡ false) × (has_text (codes "false") i ≡ false)

  other_word : (w : List ℕ) → has_text w i ≡ true → bytes_eq w (codes "_") ≡ false → bytes_eq w (codes "true") ≡ false → bytes_eq w (codes "false") ≡ false → IsOther
  other_word w e a b c = (no_other i w (codes "_") e a, no_other i w (codes "true") e b, no_other i w (codes "false") e c)

  other_name : is_name i ≡ true → IsOther
  other_name e = (no_word i (codes "_") e refl, no_word i (codes "true") e refl, no_word i (codes "false") e refl)

  -- so only the last alternatives are left
  rule_here : IsOther → takes pat_rule here ≡ takes below_brackets here
  unfolding token_at pat_rule num
  rule_here other =
      behind_front (referent ∣ below_reference) here (no_such_word (codes "_") other.0) refl refl (no_such_word (codes "true") other.1) (no_such_word (codes "false") other.2)
      ∙ skip referent below_reference here refl
      ∙ behind_brackets below_brackets here refl refl

  bare_here : IsOther → takes bare_pattern here ≡ takes (moded ∣ by_path) here
  unfolding token_at bare_pattern num
  bare_here other =
      behind_front (brackets (moded ∣ by_path)) here (no_such_word (codes "_") other.0) refl refl (no_such_word (codes "true") other.1) (no_such_word (codes "false") other.2)
      ∙ behind_brackets (moded ∣ by_path) here refl refl

  -- what binds a name binds it without a pattern too
  abbrev Binds : Type 0
  Binds = IsOther × ((h : Forest) × (takes (moded ∣ by_path) here ≡ Some h))

  by_moded : (h : Forest) → takes moded here ≡ Some h → takes (moded ∣ by_path) here ≡ Some h
  by_moded h e = ap (λ o. otherwise o (takes by_path) here) e

  behind_ref : (g : Forest) → has_text (codes "ref") i ≡ true → takes (maybe (word "mut") ⨾ name ⨾ glued "@") rest ≡ Some g → Binds
  unfolding token_at
  behind_ref g e fits =
      let first = both (maybe (word "mut") ⨾ name) (glued "@") rest g (sym (two_parts (maybe (word "mut")) name (glued "@") rest) ∙ fits) in
      (other_word (codes "ref") e refl refl refl, (first.0, by_moded first.0 (rw e first.1)))

  behind_mut : (g : Forest) → has_text (codes "ref") i ≡ false → has_text (codes "mut") i ≡ true → takes (name ⨾ glued "@") rest ≡ Some g → Binds
  unfolding token_at
  behind_mut g isnt e fits =
      let first = both name (glued "@") rest g fits in
      (other_word (codes "mut") e refl refl refl, (first.0, by_moded first.0 (rw (isnt, e) first.1)))

  unmoded : has_text (codes "ref") i ≡ false → has_text (codes "mut") i ≡ false → takes moded here ≡ None
  unfolding token_at
  unmoded isnt none = rw (isnt, none) refl

  path_here : is_name i ≡ true → takes by_path here ≡ takes (many (glued "::" ⨾ (name ∣ generics)) ⨾ maybe parts) rest
  unfolding token_at path
  path_here e = rw e refl

  bare_name : (g : Forest) → has_text (codes "ref") i ≡ false → has_text (codes "mut") i ≡ false → takes (name ⨾ glued "@") here ≡ Some g → Binds
  unfolding token_at
  bare_name g isnt none fits =
      let first = both name (glued "@") here g fits in
      let named = passes (is_name i) rest first.0 first.1 in
      let some = fits_always (glued "::" ⨾ (name ∣ generics)) parts rest in
      (other_name named, (some.0, skip moded by_path here (unmoded isnt none) ∙ path_here named ∙ some.1))

  without_ref : (g : Forest) (b : Bool) → has_text (codes "ref") i ≡ false → has_text (codes "mut") i ≡ b → takes (maybe (word "mut") ⨾ name ⨾ glued "@") here ≡ Some g → Binds
  unfolding token_at
  without_ref g true isnt e fits = behind_mut g isnt e (let same : takes (maybe (word "mut") ⨾ name ⨾ glued "@") here ≡ takes (name ⨾ glued "@") rest = rw e refl in sym same ∙ fits)
  without_ref g false isnt e fits = bare_name g isnt e (let same : takes (maybe (word "mut") ⨾ name ⨾ glued "@") here ≡ takes (name ⨾ glued "@") here = rw e refl in sym same ∙ fits)

  binds : (g : Forest) (b : Bool) → has_text (codes "ref") i ≡ b → takes binding_sign here ≡ Some g → Binds
  unfolding token_at
  binds g true e fits =
      behind_ref g e (let same : takes binding_sign here ≡ takes (maybe (word "mut") ⨾ name ⨾ glued "@") rest = rw e refl in sym same ∙ fits)
  binds g false e fits =
      without_ref g (has_text (codes "mut") i) e refl (let same : takes binding_sign here ≡ takes (maybe (word "mut") ⨾ name ⨾ glued "@") here = rw e refl in sym same ∙ fits)

  -- the pattern behind the `@`, or else what the name is without it
  named_here : (g : Forest) → takes binding_sign here ≡ Some g → IsOther → takes pat here ≡ otherwise (takes pat g) (takes bare_pattern) here
  named_here g fits other =
      rule-is a_pattern here
      ∙ rule_here other
      ∙ ap (λ o. otherwise o (takes (moded ∣ by_path)) here) (four_parts (maybe (word "ref")) (maybe (word "mut")) name (glued "@") pat here ∙ then_on binding_sign pat here g fits)
      ∙ same_otherwise (takes pat g) (takes (moded ∣ by_path)) (takes bare_pattern) here (sym (bare_here other))

-- where a name and an `@` stand, the pattern behind decides, and where there is none, the name is a pattern by itself
abbrev pub AtName : Forest → Forest → Type 0
AtName f g = (takes pat f ≡ otherwise (takes pat g) (takes bare_pattern) f) × ((h : Forest) × (takes bare_pattern f ≡ Some h))

pub pattern_at_name : (f g : Forest) → takes binding_sign f ≡ Some g → AtName f g
unfolding token_at
pattern_at_name empty g e = absurd cc
pattern_at_name (leaf (as_leaf.Punct p) rest) g e = absurd cc
pattern_at_name (leaf (as_leaf.Literal l) rest) g e = absurd cc
pattern_at_name (group d inner rest) g e = absurd cc
pattern_at_name (leaf (as_leaf.Ident i) rest) g e =
    let found = binds i rest g (has_text (codes "ref") i) refl e in
    (named_here i rest g e found.0, (found.1.0, bare_here i rest found.0 ∙ found.1.1))

-- ---- without such a sign

pub pattern_without_sign : (f : Forest) → takes reference_sign f ≡ None → takes binding_sign f ≡ None → takes pat f ≡ takes bare_pattern f
unfolding pat_rule bare_pattern
pattern_without_sign f no_reference no_binding =
    let no_referent : takes referent f ≡ None = two_parts (glued "& &&") (maybe (word "mut")) pat f ∙ then_none reference_sign pat f no_reference in
    let no_bound : takes bound f ≡ None = four_parts (maybe (word "ref")) (maybe (word "mut")) name (glued "@") pat f ∙ then_none binding_sign pat f no_binding in
    rule-is a_pattern f
    ∙ front_same (referent ∣ below_reference) (brackets (moded ∣ by_path)) f
    (skip referent below_reference f no_referent ∙ brackets_same below_brackets (moded ∣ by_path) f (skip bound (moded ∣ by_path) f no_bound))

-- ---- the walk over names

-- what the last name is by itself, if there was one
abbrev pub fallback : Option Forest → Option Forest
fallback last = option_and_then (takes bare_pattern) last

kept : (o p : Option Forest) (q : Taking) (f h : Forest) → q f ≡ Some h → option_or (otherwise o q f) p ≡ option_or o (q f)
kept (Some g) p q f h e = refl
kept None p q f h e = rw e refl

-- one name further on
pub next_name : (f g h : Forest) (last : Option Forest) → takes binding_sign f ≡ Some g → takes pat h ≡ takes pat g →
    option_or (takes pat f) (fallback last) ≡ option_or (takes pat h) (fallback (Some f))
next_name f g h last fits same =
    let at = pattern_at_name f g fits in
    ap (λ o. option_or o (fallback last)) at.0
    ∙ kept (takes pat g) (fallback last) (takes bare_pattern) f at.1.0 at.1.1
    ∙ ap (λ o. option_or o (takes bare_pattern f)) (sym same)

-- where no name is left
pub last_name : (f rest : Forest) (last : Option Forest) → takes pat f ≡ option_or (takes pat rest) (fallback last) →
    takes reference_sign rest ≡ None → takes binding_sign rest ≡ None → takes pat f ≡ option_or (takes bare_pattern rest) (fallback last)
last_name f rest last before no_reference no_binding = before ∙ ap (λ o. option_or o (fallback last)) (pattern_without_sign rest no_reference no_binding)
