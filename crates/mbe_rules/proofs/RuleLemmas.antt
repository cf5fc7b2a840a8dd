-- The parts of a rule, tree by tree.
use Rattle.std.proofs.Common.{◌≡◌, refl, ap, ◌∙◌, ℕ, suc, ◌+◌, Bool, true, false, nat_eq, List, [], ◌∷◌, Option, Some, None, Ok, Err, if◌then◌else◌, arith}
use Rattle.tt_data.specs.Forest.{Forest, empty, leaf, group}
use Rattle.tt_data.specs.declared.delimiter.Delimiter.{Delimiter}
use Rattle.tt_data.specs.declared.leaf.Ident.{Ident}
use Rattle.tt_data.specs.declared.leaf.Leaf.TheVariants as as_leaf
use Rattle.tt_data.specs.declared.leaf.Punct.{Punct}
use Rattle.tt.specs.FirstTrees.{first_ident}
use Rattle.mbe_rules.specs.Parsed.{Parsed, ◌>>=◌, or_fault, expected}
use Rattle.mbe_rules.specs.Parsing.{a_group, an_equals, a_greater, arms, with_parentheses, styled, rule_shape}
use Rattle.mbe_rules.specs.Reading.{group_next, after_char, parts_read}
use Rattle.mbe_rules.specs.Text.{is}
use Rattle.mbe_rules.specs.Trees.{past, inside, Sign, name, literal, punct, bracketed, signs}
use Rattle.mbe_rules.specs.declared.macro_call_style.MacroCallStyle.{MacroCallStyle}
use Rattle.mbe_rules.specs.declared.macro_call_style.MacroCallStyle.TheVariants.{FnLike, Attr, Derive}
use Rattle.mbe_rules.specs.declared.parse.rule.RuleParts.{RuleParts}

-- the same shape where one tree more comes before it
abbrev further : Parsed (MacroCallStyle × ℕ) → Parsed (MacroCallStyle × ℕ)
further (Ok s) = Ok (s.0, suc s.1)
further (Err e) = Err e

then-further : {A : Type 0} (p : Parsed A) (k more : A → Parsed (MacroCallStyle × ℕ)) → ((a : A) → more a ≡ further (k a)) →
    (p >>= more) ≡ further (p >>= k)
then-further (Ok a) k more h = h a
then-further (Err e) k more h = refl

abbrev template_then : MacroCallStyle → ℕ → List Sign → Parsed (MacroCallStyle × ℕ)
template_then style n ts = a_group ts >>= λ rest. Ok (style, n)

abbrev greater_then : MacroCallStyle → ℕ → List Sign → Parsed (MacroCallStyle × ℕ)
greater_then style n ts = a_greater ts >>= λ more. template_then style n more

abbrev equals_then : MacroCallStyle → ℕ → List Sign → Parsed (MacroCallStyle × ℕ)
equals_then style n ts = an_equals ts >>= λ more. greater_then style n more

arms-further : (style : MacroCallStyle) (n : ℕ) (ts : List Sign) → arms style (suc n) ts ≡ further (arms style n ts)
arms-further style n ts =
    then-further (a_group ts) (equals_then style n) (equals_then style (suc n)) (λ a.
    then-further (an_equals a) (greater_then style n) (greater_then style (suc n)) (λ b.
    then-further (a_greater b) (template_then style n) (template_then style (suc n)) (λ c.
    then-further (a_group c) (λ rest. Ok (style, n)) (λ rest. Ok (style, suc n)) (λ d. refl))))

with_parentheses-further : (style : MacroCallStyle) (n : ℕ) (ts : List Sign) → with_parentheses style (suc n) ts ≡ further (with_parentheses style n ts)
with_parentheses-further style n [] = refl
with_parentheses-further style n (name w ∷ more) = refl
with_parentheses-further style n (literal t s ∷ more) = refl
with_parentheses-further style n (punct c ∷ more) = refl
with_parentheses-further style n (bracketed ∷ more) = arms-further style (suc n) more

styled-further : (n : ℕ) (ts : List Sign) → styled (suc n) ts ≡ further (styled n ts)
styled-further n [] = arms-further FnLike n []
styled-further n (literal t s ∷ more) = arms-further FnLike n (literal t s ∷ more)
styled-further n (punct c ∷ more) = arms-further FnLike n (punct c ∷ more)
styled-further n (bracketed ∷ more) = arms-further FnLike n (bracketed ∷ more)
styled-further n (name w ∷ more) = by_word (is "attr" w) (is "derive" w)
  where
    by_word : (attr derive : Bool) →
        (if attr then with_parentheses Attr (suc (suc n)) more
        else if derive then with_parentheses Derive (suc (suc n)) more else arms FnLike (suc n) (name w ∷ more))
        ≡ further (if attr then with_parentheses Attr (suc n) more
        else if derive then with_parentheses Derive (suc n) more else arms FnLike n (name w ∷ more))
    by_word true b = with_parentheses-further Attr (suc n) more
    by_word false true = with_parentheses-further Derive (suc n) more
    by_word false false = arms-further FnLike n (name w ∷ more)

abbrev parts_of : MacroCallStyle → Forest → Forest → Forest → Parsed RuleParts
parts_of style pattern template rest = Ok (record { style = style; pattern = inside pattern; template = inside template; rest = rest })

parts-passed : (f tail : Forest) → ((n : ℕ) → past (suc n) f ≡ past n tail) → (p : Parsed (MacroCallStyle × ℕ)) →
    parts_read f (further p) ≡ parts_read tail p
parts-passed f tail same (Err e) = refl
parts-passed f tail same (Ok s) =
    let three : suc s.1 + 3 ≡ suc (s.1 + 3) = omega arith in
    let four : suc s.1 + 4 ≡ suc (s.1 + 4) = omega arith in
    ap (λ x. parts_of s.0 x (past (suc s.1 + 3) f) (past (suc s.1 + 4) f)) (same s.1)
    ∙ ap (λ x. parts_of s.0 (past s.1 tail) x (past (suc s.1 + 4) f)) (ap (λ n. past n f) three ∙ same (s.1 + 3))
    ∙ ap (λ x. parts_of s.0 (past s.1 tail) (past (s.1 + 3) tail) x) (ap (λ n. past n f) four ∙ same (s.1 + 4))

-- ---- steps over the trees

abbrev pub template_read : MacroCallStyle → Forest → Forest → Parsed RuleParts
template_read style pattern f =
    or_fault (group_next f) (expected "expected subtree") >>= λ t. Ok (record { style = style; pattern = pattern; template = t.0; rest = t.1 })

abbrev pub greater_read : MacroCallStyle → Forest → Forest → Parsed RuleParts
greater_read style pattern f = or_fault (after_char 62 f) (expected "expected `>`") >>= λ g. template_read style pattern g

abbrev pub equals_read : MacroCallStyle → Forest → Forest → Parsed RuleParts
equals_read style pattern f = or_fault (after_char 61 f) (expected "expected `=`") >>= λ g. greater_read style pattern g

abbrev pub arms_read : MacroCallStyle → Forest → Parsed RuleParts
arms_read style f = or_fault (group_next f) (expected "expected subtree") >>= λ g. equals_read style g.0 g.1

module _ (style : MacroCallStyle) (d : Delimiter) (inner : Forest) where
  after_arrow : (p q : Punct) (f : Forest) →
      parts_read (group d inner (leaf (as_leaf.Punct p) (leaf (as_leaf.Punct q) f))) (template_then style 0 (signs f)) ≡ template_read style inner f
  after_arrow p q empty = refl
  after_arrow p q (group e i f) = refl
  after_arrow p q (leaf (as_leaf.Ident i) f) = refl
  after_arrow p q (leaf (as_leaf.Literal l) f) = refl
  after_arrow p q (leaf (as_leaf.Punct r) f) = refl

  after_equals : (p : Punct) (f : Forest) →
      parts_read (group d inner (leaf (as_leaf.Punct p) f)) (greater_then style 0 (signs f)) ≡ greater_read style inner f
  after_equals p empty = refl
  after_equals p (group e i f) = refl
  after_equals p (leaf (as_leaf.Ident i) f) = refl
  after_equals p (leaf (as_leaf.Literal l) f) = refl
  after_equals p (leaf (as_leaf.Punct q) f) = by_sign (nat_eq q.char 62)
    where
      by_sign : (b : Bool) →
          parts_read (group d inner (leaf (as_leaf.Punct p) (leaf (as_leaf.Punct q) f)))
          ((if b then Ok (signs f) else expected "expected `>`") >>= λ more. template_then style 0 more)
          ≡ (or_fault (if b then Some f else None) (expected "expected `>`") >>= λ g. template_read style inner g)
      by_sign true = after_arrow p q f
      by_sign false = refl

  after_pattern : (f : Forest) → parts_read (group d inner f) (equals_then style 0 (signs f)) ≡ equals_read style inner f
  after_pattern empty = refl
  after_pattern (group e i f) = refl
  after_pattern (leaf (as_leaf.Ident i) f) = refl
  after_pattern (leaf (as_leaf.Literal l) f) = refl
  after_pattern (leaf (as_leaf.Punct p) f) = by_sign (nat_eq p.char 61)
    where
      by_sign : (b : Bool) →
          parts_read (group d inner (leaf (as_leaf.Punct p) f))
          ((if b then Ok (signs f) else expected "expected `=`") >>= λ more. greater_then style 0 more)
          ≡ (or_fault (if b then Some f else None) (expected "expected `=`") >>= λ g. greater_read style inner g)
      by_sign true = after_equals p f
      by_sign false = refl

pub arms_steps : (style : MacroCallStyle) (f : Forest) → parts_read f (arms style 0 (signs f)) ≡ arms_read style f
arms_steps style empty = refl
arms_steps style (group d inner f) = after_pattern style d inner f
arms_steps style (leaf (as_leaf.Ident i) f) = refl
arms_steps style (leaf (as_leaf.Literal l) f) = refl
arms_steps style (leaf (as_leaf.Punct p) f) = refl

pub parentheses_steps : (style : MacroCallStyle) (f : Forest) →
    parts_read f (with_parentheses style 0 (signs f))
    ≡ (or_fault (group_next f) (expected "expected `()`") >>= λ g. parts_read g.1 (arms style 0 (signs g.1)))
parentheses_steps style empty = refl
parentheses_steps style (group d inner f) =
    ap (parts_read (group d inner f)) (arms-further style 0 (signs f)) ∙ parts-passed (group d inner f) f (λ n. refl) (arms style 0 (signs f))
parentheses_steps style (leaf (as_leaf.Ident i) f) = refl
parentheses_steps style (leaf (as_leaf.Literal l) f) = refl
parentheses_steps style (leaf (as_leaf.Punct p) f) = refl

-- by the word at the head of a list
abbrev pub by_style : Forest → Option (Ident × Forest) → Parsed RuleParts
by_style f None = parts_read f (arms FnLike 0 (signs f))
by_style f (Some w) =
    if is "attr" w.0.sym then parts_read w.1 (with_parentheses Attr 0 (signs w.1))
    else if is "derive" w.0.sym then parts_read w.1 (with_parentheses Derive 0 (signs w.1))
    else parts_read f (arms FnLike 0 (signs f))

pub styled_steps : (f : Forest) → parts_read f (styled 0 (signs f)) ≡ by_style f (first_ident f)
styled_steps empty = refl
styled_steps (group d inner f) = refl
styled_steps (leaf (as_leaf.Literal l) f) = refl
styled_steps (leaf (as_leaf.Punct p) f) = refl
styled_steps (leaf (as_leaf.Ident i) f) = by_word (is "attr" i.sym) (is "derive" i.sym)
  where
    parentheses : (style : MacroCallStyle) →
        parts_read (leaf (as_leaf.Ident i) f) (with_parentheses style 1 (signs f)) ≡ parts_read f (with_parentheses style 0 (signs f))
    parentheses style =
        ap (parts_read (leaf (as_leaf.Ident i) f)) (with_parentheses-further style 0 (signs f))
        ∙ parts-passed (leaf (as_leaf.Ident i) f) f (λ n. refl) (with_parentheses style 0 (signs f))

    by_word : (attr derive : Bool) →
        parts_read (leaf (as_leaf.Ident i) f)
        (if attr then with_parentheses Attr 1 (signs f)
        else if derive then with_parentheses Derive 1 (signs f) else arms FnLike 0 (name i.sym ∷ signs f))
        ≡ (if attr then parts_read f (with_parentheses Attr 0 (signs f))
        else if derive then parts_read f (with_parentheses Derive 0 (signs f))
        else parts_read (leaf (as_leaf.Ident i) f) (arms FnLike 0 (name i.sym ∷ signs f)))
    by_word true b = parentheses Attr
    by_word false true = parentheses Derive
    by_word false false = refl

abbrev pub by_unsafe : Forest → Option (Ident × Forest) → Parsed RuleParts
by_unsafe f None = parts_read f (styled 0 (signs f))
by_unsafe f (Some w) = if is "unsafe" w.0.sym then parts_read w.1 (styled 0 (signs w.1)) else parts_read f (styled 0 (signs f))

pub shape_steps : (f : Forest) → parts_read f (rule_shape (signs f)) ≡ by_unsafe f (first_ident f)
shape_steps empty = refl
shape_steps (group d inner f) = refl
shape_steps (leaf (as_leaf.Literal l) f) = refl
shape_steps (leaf (as_leaf.Punct p) f) = refl
shape_steps (leaf (as_leaf.Ident i) f) = by_word (is "unsafe" i.sym)
  where
    by_word : (b : Bool) →
        parts_read (leaf (as_leaf.Ident i) f) (if b then styled 1 (signs f) else styled 0 (name i.sym ∷ signs f))
        ≡ (if b then parts_read f (styled 0 (signs f)) else parts_read (leaf (as_leaf.Ident i) f) (styled 0 (name i.sym ∷ signs f)))
    by_word true =
        ap (parts_read (leaf (as_leaf.Ident i) f)) (styled-further 0 (signs f))
        ∙ parts-passed (leaf (as_leaf.Ident i) f) f (λ n. refl) (styled 0 (signs f))
    by_word false = refl
