-- The laws of the grammar's answer: spans don't matter, it never takes more steps than there are,
-- and without a fault at least one, except for a visibility.
use Rattle.std.proofs.Common.{◌≡◌, ◌≢◌, ℕ, suc, zero, ◌-◌, ◌≤◌, Bool, true, false, refl, sym, ap, ◌∙◌, arith, Option, Some, None}
use Rattle.std.specs.Prelude.{option_map}
use Rattle.tt_data.proofs.ForestLemmas.{size-map_spans}
use Rattle.tt_data.specs.Forest.{Forest, empty, leaf, group, joined, size, map_spans, shape}
use Rattle.tt_data.specs.Spans.{no_span}
use Rattle.tt_data.specs.declared.delimiter.DelimiterKind.{DelimiterKind}
use Rattle.tt_data.specs.declared.edition.Edition.{Edition}
use Rattle.tt_data.specs.declared.leaf.Leaf.TheVariants as as_leaf
use Rattle.tt_data.specs.declared.leaf.LitKind.{LitKind}
use Rattle.tt_data.specs.declared.span.Span.{Span}
use Rattle.fragment_grammar.specs.Steps.{steps}
use Rattle.fragment_grammar.specs.declared.fragment.Prefix.{Prefix}
use Rattle.fragment_grammar.specs.declared.fragment.PrefixEntryPoint.{PrefixEntryPoint}
use Rattle.fragment_grammar.specs.declared.fragment.PrefixEntryPoint.TheVariants.{Vis, Block, Stmt, Pat, PatTop, Ty, Expr, Path, Item, MetaItem}
use Rattle.small_grammar.specs.Laws as small
use Rattle.small_grammar.specs.Laws.{steps-moved, steps-joined, passed-steps}
use Rattle.small_grammar.specs.Passing.{Passed}
use Rattle.small_grammar.specs.Text.{◌>>◌}
use Rattle.small_grammar.specs.Tokens.{literal_where}
use Rattle.rust_grammar.specs.Answer.{rules_to, most_levels, entry_rule, comes_of, answer_of, answer}
use Rattle.rust_grammar.specs.Expressions.{Expression, token, since, ◌⨾◌, ◌∣◌, many, maybe, surely, unless, rule, Taking, found, nothing_if, and_then, otherwise, or_nothing, decided, without, next_round, rounds, taken}
use Rattle.rust_grammar.specs.Names.{Name}
use Rattle.rust_grammar.specs.Passing.{TakesAtLeast, least_of, rules_to-take}
use Rattle.rust_grammar.specs.Rules.{says}
use Rattle.rust_grammar.specs.Tokens.{Token, fixed, a_name, a_literal, one_of, a_const_bracket, is_const_bracket, token_at}
use Rattle.rust_grammar.specs.declared.outcome.Outcome.{Outcome}
use Rattle.rust_grammar.specs.declared.outcome.Outcome.TheVariants.{Fits, Misses, Faults}

-- ---- spans

module _ (m : Span → Span) where
  -- the same with other spans
  abbrev pub moved : Outcome → Outcome
  moved (Fits g) = Fits (map_spans m g)
  moved Misses = Misses
  moved Faults = Faults

  -- under a span map the same comes of it, under the map
  abbrev pub Moves : Taking → Type 0
  Moves p = (f : Forest) → p (map_spans m f) ≡ moved (p f)

  const_bracket-moved : (k : DelimiterKind) (f : Forest) → is_const_bracket k (map_spans m f) ≡ is_const_bracket k f
  const_bracket-moved k empty = refl
  const_bracket-moved k (leaf (as_leaf.Ident i) rest) = rw (small.empty-moved m rest) refl
  const_bracket-moved k (leaf (as_leaf.Punct p) rest) = refl
  const_bracket-moved k (leaf (as_leaf.Literal l) rest) = refl
  const_bracket-moved k (group d inner rest) = refl

  passes_moved : (b : Bool) (f : Forest) → (b >> Some (map_spans m f)) ≡ option_map (map_spans m) (b >> Some f)
  passes_moved true f = refl
  passes_moved false f = refl

  literal-moved : (passes : LitKind → Bool) → small.Moves m (literal_where passes)
  literal-moved passes empty = refl
  literal-moved passes (leaf (as_leaf.Ident i) rest) = refl
  literal-moved passes (leaf (as_leaf.Punct p) rest) = refl
  literal-moved passes (leaf (as_leaf.Literal l) rest) = passes_moved (passes l.kind) rest
  literal-moved passes (group d inner rest) = refl

  token-moved : (ed : Edition) (t : Token) → small.Moves m (token_at ed t)
  unfolding token_at
  token-moved ed (fixed t) = small.token-moved m t
  token-moved ed a_name = small.ident-moved m _ (λ i s. refl)
  token-moved ed a_literal = literal-moved _
  token-moved ed (one_of texts) = small.operator-moved m _
  token-moved ed a_const_bracket = small.group-moved m is_const_bracket const_bracket-moved

  found-moved : (o : Option Forest) → found (option_map (map_spans m) o) ≡ moved (found o)
  found-moved None = refl
  found-moved (Some g) = refl

  nothing-moved : (b : Bool) → Moves (nothing_if b)
  nothing-moved true f = refl
  nothing-moved false f = refl

  and_then-moved : (q : Taking) → Moves q → (o : Outcome) → and_then q (moved o) ≡ moved (and_then q o)
  and_then-moved q moves (Fits g) = moves g
  and_then-moved q moves Misses = refl
  and_then-moved q moves Faults = refl

  otherwise-moved : (q : Taking) → Moves q → (o : Outcome) (f : Forest) → otherwise (moved o) q (map_spans m f) ≡ moved (otherwise o q f)
  otherwise-moved q moves (Fits g) f = refl
  otherwise-moved q moves Misses f = moves f
  otherwise-moved q moves Faults f = refl

  or_nothing-moved : (o : Outcome) (f : Forest) → or_nothing (moved o) (map_spans m f) ≡ moved (or_nothing o f)
  or_nothing-moved (Fits g) f = refl
  or_nothing-moved Misses f = refl
  or_nothing-moved Faults f = refl

  decided-moved : (o : Outcome) → decided (moved o) ≡ moved (decided o)
  decided-moved (Fits g) = refl
  decided-moved Misses = refl
  decided-moved Faults = refl

  without-moved : (o : Outcome) (f : Forest) → without (moved o) (map_spans m f) ≡ moved (without o f)
  without-moved (Fits g) f = refl
  without-moved Misses f = refl
  without-moved Faults f = refl

  round-moved : (q : Taking) → Moves q → (o : Outcome) (f : Forest) → next_round q (moved o) (map_spans m f) ≡ moved (next_round q o f)
  round-moved q moves (Fits g) f = moves g
  round-moved q moves Misses f = refl
  round-moved q moves Faults f = refl

  rounds-moved : (p : Taking) → Moves p → (n : ℕ) → Moves (rounds n p)
  rounds-moved p moves zero f = refl
  rounds-moved p moves (suc n) f =
      ap (λ o. next_round (rounds n p) o (map_spans m f)) (moves f)
      ∙ round-moved (rounds n p) (rounds-moved p moves n) (p f) f

  module _ (ed : Edition) (r : Name → Taking) (r_moves : (k : Name) → Moves (r k)) where
    expression-moved : (e : Expression) → Moves (taken ed r e)
    expression-moved (token t) f = ap found (token-moved ed t f) ∙ found-moved (token_at ed t f)
    expression-moved (since first) f = nothing-moved _ f
    expression-moved (a ⨾ b) f =
        ap (and_then (taken ed r b)) (expression-moved a f) ∙ and_then-moved (taken ed r b) (expression-moved b) (taken ed r a f)
    expression-moved (a ∣ b) f =
        ap (λ o. otherwise o (taken ed r b) (map_spans m f)) (expression-moved a f)
        ∙ otherwise-moved (taken ed r b) (expression-moved b) (taken ed r a f) f
    expression-moved (many a) f =
        ap (λ n. rounds (suc n) (taken ed r a) (map_spans m f)) (size-map_spans m f)
        ∙ rounds-moved (taken ed r a) (expression-moved a) (suc (size f)) f
    expression-moved (maybe a) f =
        ap (λ o. or_nothing o (map_spans m f)) (expression-moved a f) ∙ or_nothing-moved (taken ed r a f) f
    expression-moved (surely a) f = ap decided (expression-moved a f) ∙ decided-moved (taken ed r a f)
    expression-moved (unless a) f =
        ap (λ o. without o (map_spans m f)) (expression-moved a f) ∙ without-moved (taken ed r a f) f
    expression-moved (rule k) f = r_moves k f

  rules_to-moved : (ed : Edition) (depth : ℕ) (k : Name) → Moves (rules_to ed depth k)
  rules_to-moved ed zero k f = refl
  rules_to-moved ed (suc depth) k f = expression-moved ed (rules_to ed depth) (rules_to-moved ed depth) (says k) f

  comes_of-moved : (ed : Edition) (entry : PrefixEntryPoint) → Moves (comes_of ed entry)
  unfolding comes_of
  comes_of-moved ed entry f = rules_to-moved ed most_levels (entry_rule entry) f

  answer_of-moved : (f : Forest) (o : Outcome) → answer_of (map_spans m f) (moved o) ≡ answer_of f o
  answer_of-moved f (Fits g) = rw (steps-moved m f, steps-moved m g) refl
  answer_of-moved f Misses = refl
  answer_of-moved f Faults = refl

  -- spans don't matter
  pub answer-moved : (ed : Edition) (entry : PrefixEntryPoint) (f : Forest) → answer ed entry (map_spans m f) ≡ answer ed entry f
  answer-moved ed entry f = ap (answer_of (map_spans m f)) (comes_of-moved ed entry f) ∙ answer_of-moved f (comes_of ed entry f)

-- ---- steps

within_of : (f : Forest) (o : Outcome) → (answer_of f o).tokens ≤ steps f
within_of f (Fits g) = omega arith
within_of f Misses = omega arith
within_of f Faults = omega arith

-- never more steps than there are
pub answer-within : (ed : Edition) (entry : PrefixEntryPoint) (f : Forest) → (answer ed entry f).tokens ≤ steps f
answer-within ed entry f = within_of f (comes_of ed entry f)

pub comes_of-takes : (ed : Edition) (entry : PrefixEntryPoint) → TakesAtLeast (least_of (entry_rule entry)) (comes_of ed entry)
unfolding comes_of
comes_of-takes ed entry f g e = rules_to-take ed most_levels (entry_rule entry) f g e

takes_of : (n : ℕ) (f : Forest) (o : Outcome) → ((g : Forest) → o ≡ Fits g → Passed n f g) → (answer_of f o).fault ≡ false → n ≤ (answer_of f o).tokens
takes_of n f (Fits g) passes no_fault = passed-steps n f g (passes g refl)
takes_of n f Misses passes no_fault = absurd cc
takes_of n f Faults passes no_fault = absurd cc

entry-takes : (entry : PrefixEntryPoint) → entry ≢ Vis → 1 ≤ least_of (entry_rule entry)
entry-takes Vis other = absurd (other refl)
entry-takes Block other = omega arith
entry-takes Stmt other = omega arith
entry-takes Pat other = omega arith
entry-takes PatTop other = omega arith
entry-takes Ty other = omega arith
entry-takes Expr other = omega arith
entry-takes Path other = omega arith
entry-takes Item other = omega arith
entry-takes MetaItem other = omega arith

-- without a fault at least one step, except for a visibility
pub answer-takes : (ed : Edition) (entry : PrefixEntryPoint) (f : Forest) → entry ≢ Vis → (answer ed entry f).fault ≡ false → 1 ≤ (answer ed entry f).tokens
answer-takes ed entry f other no_fault =
    let n : ℕ = least_of (entry_rule entry) in
    let t = takes_of n f (comes_of ed entry f) (comes_of-takes ed entry f) no_fault in
    let one = entry-takes entry other in
    omega (arith, t, one)

-- ---- the answer at trees without their spans

pub answer-shape : (ed : Edition) (entry : PrefixEntryPoint) (f : Forest) → answer ed entry (shape f) ≡ answer ed entry f
answer-shape ed entry f = answer-moved (λ s. no_span) ed entry f

pub shape-within : (ed : Edition) (entry : PrefixEntryPoint) (f : Forest) → (answer ed entry (shape f)).tokens ≤ steps f
shape-within ed entry f = (let w = answer-within ed entry f in let e = ap (λ (p : Prefix). p.tokens) (answer-shape ed entry f) in omega (arith, w, e))

pub shape-takes : (ed : Edition) (entry : PrefixEntryPoint) (f : Forest) → entry ≢ Vis → (answer ed entry (shape f)).fault ≡ false → 1 ≤ (answer ed entry (shape f)).tokens
shape-takes ed entry f other no_fault = answer-takes ed entry (shape f) other no_fault

-- the answer, given the trees that were passed
pub answer-passed : (ed : Edition) (entry : PrefixEntryPoint) (f t g : Forest) (n : ℕ) → comes_of ed entry f ≡ Fits g → f ≡ joined t g → n ≡ steps t →
    record { tokens = n; fault = false } ≡ answer ed entry (shape f)
answer-passed ed entry f t g n taken_is passed counted =
    let s = steps-joined t g in
    let e = ap steps passed in
    let m : n ≡ steps f - steps g = omega (arith, s, e, counted) in
    ap (λ k. record { tokens = k; fault = false }) m
    ∙ ap (answer_of f) (sym taken_is)
    ∙ sym (answer-shape ed entry f)

pub answer-misses : (ed : Edition) (entry : PrefixEntryPoint) (f : Forest) → comes_of ed entry f ≡ Misses → record { tokens = 0; fault = true } ≡ answer ed entry (shape f)
answer-misses ed entry f e = ap (answer_of f) (sym e) ∙ sym (answer-shape ed entry f)

pub answer-faults : (ed : Edition) (entry : PrefixEntryPoint) (f : Forest) → comes_of ed entry f ≡ Faults → record { tokens = 0; fault = true } ≡ answer ed entry (shape f)
answer-faults ed entry f e = ap (answer_of f) (sym e) ∙ sym (answer-shape ed entry f)

-- the answer hangs on shapes alone
pub answer-same : (ed : Edition) (entry : PrefixEntryPoint) (f g : Forest) → shape f ≡ shape g → answer ed entry f ≡ answer ed entry g
answer-same ed entry f g e = sym (answer-shape ed entry f) ∙ ap (answer ed entry) e ∙ answer-shape ed entry g
