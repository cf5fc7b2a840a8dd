-- The laws of the grammar's answer: spans don't matter, it never takes more steps than there are,
-- and without a fault at least one, except for a visibility.
use Rattle.std.proofs.Common.{◌≡◌, ◌≢◌, ℕ, suc, zero, ◌+◌, ◌-◌, ◌≤◌, Bool, true, false, not, ◌&&◌, List, [], ◌∷◌, length, refl, sym, ap, ◌∙◌, arith, Option, Some, None, length-append}
use Rattle.std.proofs.lemmas.List.{length-map}
use Rattle.std.specs.Prelude.{option_map, option_and_then, unwrap_or, nat_eq}
use Rattle.tt_data.proofs.ForestLemmas.{walk-joined, size-map_spans, walk-map_spans}
use Rattle.tt_data.specs.Forest.{Forest, empty, leaf, group, joined, size, map_spans, shape}
use Rattle.tt_data.specs.Walk.{walk, step_with, closes}
use Rattle.tt_data.specs.Spans.{no_span}
use Rattle.tt_data.specs.declared.delimiter.DelimiterKind.{DelimiterKind}
use Rattle.tt_data.specs.declared.leaf.Ident.{Ident}
use Rattle.tt_data.specs.declared.leaf.Leaf.TheVariants as as_leaf
use Rattle.tt_data.specs.declared.leaf.LitKind.{LitKind}
use Rattle.tt_data.specs.declared.leaf.Punct.{Punct}
use Rattle.tt_data.specs.declared.span.Span.{Span}
use Rattle.tt.proofs.GluedLemmas.{glued_with, first_glued-map, characters-map}
use Rattle.tt.specs.Glued.{is_alone, characters, first_glued}
use Rattle.fragment_grammar.specs.declared.fragment.Prefix.{Prefix}
use Rattle.fragment_grammar.specs.declared.fragment.PrefixEntryPoint.{PrefixEntryPoint}
use Rattle.fragment_grammar.specs.declared.fragment.PrefixEntryPoint.TheVariants.{Vis, Block, Stmt, Pat, PatTop, Ty, Expr, Path, Item, MetaItem}
use Rattle.small_grammar.specs.declared.units.Operator.{Operator}
use Rattle.small_grammar.specs.Text.{is_empty, ◌>>=◌, ◌>>◌}
use Rattle.small_grammar.specs.Tokens.{ident_where, literal_where, group_where, is_restriction, puncts_in_turn, operator_of, operator_before, operator_where, passing, Token, a_word, a_name, an_identifier, a_literal, a_number, a_group, a_restriction, puncts, operator, token_at}
use Rattle.small_grammar.specs.Expressions.{Name, Expression, never, token, ◌⨾◌, ◌∣◌, many, maybe, rule, Taking, otherwise, after_rounds, taken}
use Rattle.small_grammar.specs.Passing.{Passed, least}
use Rattle.small_grammar.specs.Rules.{takes-least}
use Rattle.small_grammar.specs.SmallGrammar.{lifetime, arrow, arg, generics, seg, tpath, bound, type_rule, path, post, atom, operand, binop, expr, num, pat_rule, pat_top, meta_item, says, rules_to, rules, takes}
use Rattle.fragment_grammar.specs.Steps.{steps}
use Rattle.small_grammar.specs.Answer.{entry_rule, answer_of, answer}

-- ---- spans

module _ (m : Span → Span) where
  -- under a span map it takes the same, under the map
  abbrev pub Moves : Taking → Type 0
  Moves p = (f : Forest) → p (map_spans m f) ≡ option_map (map_spans m) (p f)

  passes_moved : (b : Bool) (f : Forest) → (b >> Some (map_spans m f)) ≡ option_map (map_spans m) (b >> Some f)
  passes_moved true f = refl
  passes_moved false f = refl

  -- a test of identifiers that doesn't look at their spans
  pub ident-moved : (passes : Ident → Bool) → ((i : Ident) (s : Span) → passes (record i { span = s }) ≡ passes i) → Moves (ident_where passes)
  ident-moved passes blind empty = refl
  ident-moved passes blind (leaf (as_leaf.Ident i) rest) = rw (blind i (m i.span)) (passes_moved (passes i) rest)
  ident-moved passes blind (leaf (as_leaf.Punct p) rest) = refl
  ident-moved passes blind (leaf (as_leaf.Literal l) rest) = refl
  ident-moved passes blind (group d inner rest) = refl

  literal-moved : (passes : LitKind → Bool) → Moves (literal_where passes)
  literal-moved passes empty = refl
  literal-moved passes (leaf (as_leaf.Ident i) rest) = refl
  literal-moved passes (leaf (as_leaf.Punct p) rest) = refl
  literal-moved passes (leaf (as_leaf.Literal l) rest) = passes_moved (passes l.kind) rest
  literal-moved passes (group d inner rest) = refl

  pub group-moved : (passes : DelimiterKind → Forest → Bool) → ((k : DelimiterKind) (f : Forest) → passes k (map_spans m f) ≡ passes k f) → Moves (group_where passes)
  group-moved passes blind empty = refl
  group-moved passes blind (leaf (as_leaf.Ident i) rest) = refl
  group-moved passes blind (leaf (as_leaf.Punct p) rest) = refl
  group-moved passes blind (leaf (as_leaf.Literal l) rest) = refl
  group-moved passes blind (group d inner rest) = rw (blind d.kind inner) (passes_moved (passes d.kind inner) rest)

  pub empty-moved : (f : Forest) → is_empty (map_spans m f) ≡ is_empty f
  empty-moved empty = refl
  empty-moved (leaf l rest) = refl
  empty-moved (group d inner rest) = refl

  restriction-moved : (k : DelimiterKind) (f : Forest) → is_restriction k (map_spans m f) ≡ is_restriction k f
  restriction-moved k empty = refl
  restriction-moved k (leaf (as_leaf.Ident i) rest) = rw (empty-moved rest) refl
  restriction-moved k (leaf (as_leaf.Punct p) rest) = refl
  restriction-moved k (leaf (as_leaf.Literal l) rest) = refl
  restriction-moved k (group d inner rest) = refl

  more_moved : (b : Bool) (o p : Option Forest) → p ≡ option_map (map_spans m) o → (b >> p) ≡ option_map (map_spans m) (b >> o)
  more_moved true o p e = e
  more_moved false o p e = refl

  puncts-moved : (cs : List ℕ) → Moves (puncts_in_turn cs)
  puncts-moved [] f = refl
  puncts-moved (c ∷ []) empty = refl
  puncts-moved (c ∷ []) (leaf (as_leaf.Ident i) rest) = refl
  puncts-moved (c ∷ []) (leaf (as_leaf.Punct p) rest) = passes_moved (nat_eq p.char c) rest
  puncts-moved (c ∷ []) (leaf (as_leaf.Literal l) rest) = refl
  puncts-moved (c ∷ []) (group d inner rest) = refl
  puncts-moved (c ∷ b ∷ cs) empty = refl
  puncts-moved (c ∷ b ∷ cs) (leaf (as_leaf.Ident i) rest) = refl
  puncts-moved (c ∷ b ∷ cs) (leaf (as_leaf.Punct p) rest) =
      more_moved (nat_eq p.char c && not (is_alone p.spacing)) (puncts_in_turn (b ∷ cs) rest) (puncts_in_turn (b ∷ cs) (map_spans m rest)) (puncts-moved (b ∷ cs) rest)
  puncts-moved (c ∷ b ∷ cs) (leaf (as_leaf.Literal l) rest) = refl
  puncts-moved (c ∷ b ∷ cs) (group d inner rest) = refl

  pub chosen-moved : (passes : Operator → Bool) (o : Option Operator) (g : Forest) →
      passing passes (o >>= λ op. Some (op, map_spans m g)) ≡ option_map (map_spans m) (passing passes (o >>= λ op. Some (op, g)))
  chosen-moved passes None g = refl
  chosen-moved passes (Some op) g = passes_moved (passes op) g

  glued-moved : (passes : Operator → Bool) (o : Option (List Punct × Forest)) →
      passing passes (option_map (glued_with m) o >>= operator_before) ≡ option_map (map_spans m) (passing passes (o >>= operator_before))
  glued-moved passes None = refl
  glued-moved passes (Some glued) =
      ap (λ cs. passing passes (operator_of cs >>= λ op. Some (op, map_spans m glued.1))) (characters-map m glued.0)
      ∙ chosen-moved passes (operator_of (characters glued.0)) glued.1

  pub operator-moved : (passes : Operator → Bool) → Moves (operator_where passes)
  operator-moved passes f = ap (λ o. passing passes (o >>= operator_before)) (first_glued-map m f) ∙ glued-moved passes (first_glued f)

  pub token-moved : (t : Token) → Moves (token_at t)
  unfolding token_at
  token-moved (a_word text) = ident-moved _ (λ i s. refl)
  token-moved a_name = ident-moved _ (λ i s. refl)
  token-moved an_identifier = ident-moved (λ i. true) (λ i s. refl)
  token-moved a_literal = literal-moved (λ kind. true)
  token-moved a_number = literal-moved _
  token-moved (a_group kind) = group-moved _ (λ k f. refl)
  token-moved a_restriction = group-moved is_restriction restriction-moved
  token-moved (puncts text) = puncts-moved text
  token-moved (operator op) = operator-moved _

  then-moved : (p : Taking) → Moves p → (o : Option Forest) → option_and_then p (option_map (map_spans m) o) ≡ option_map (map_spans m) (option_and_then p o)
  then-moved p moves None = refl
  then-moved p moves (Some g) = moves g

  otherwise-moved : (p : Taking) → Moves p → (o : Option Forest) (f : Forest) → otherwise (option_map (map_spans m) o) p (map_spans m f) ≡ option_map (map_spans m) (otherwise o p f)
  otherwise-moved p moves None f = moves f
  otherwise-moved p moves (Some g) f = refl

  unwrap-moved : (o : Option Forest) (f : Forest) → unwrap_or (option_map (map_spans m) o) (map_spans m f) ≡ map_spans m (unwrap_or o f)
  unwrap-moved None f = refl
  unwrap-moved (Some g) f = refl

  next-moved : (q : Forest → Forest) → ((g : Forest) → q (map_spans m g) ≡ map_spans m (q g)) → (o : Option Forest) (f : Forest) →
      unwrap_or (option_map q (option_map (map_spans m) o)) (map_spans m f) ≡ map_spans m (unwrap_or (option_map q o) f)
  next-moved q moves None f = refl
  next-moved q moves (Some g) f = moves g

  rounds-moved : (p : Taking) → Moves p → (n : ℕ) (f : Forest) → after_rounds n p (map_spans m f) ≡ map_spans m (after_rounds n p f)
  rounds-moved p moves zero f = refl
  rounds-moved p moves (suc n) f =
      ap (λ o. unwrap_or (option_map (after_rounds n p) o) (map_spans m f)) (moves f)
      ∙ next-moved (after_rounds n p) (rounds-moved p moves n) (p f) f

  expression-moved : (r : Name → Taking) → ((k : Name) → Moves (r k)) → (e : Expression) → Moves (taken r e)
  expression-moved r moves never f = refl
  expression-moved r moves (token t) f = token-moved t f
  expression-moved r moves (a ⨾ b) f =
      ap (option_and_then (taken r b)) (expression-moved r moves a f)
      ∙ then-moved (taken r b) (expression-moved r moves b) (taken r a f)
  expression-moved r moves (a ∣ b) f =
      ap (λ o. otherwise o (taken r b) (map_spans m f)) (expression-moved r moves a f)
      ∙ otherwise-moved (taken r b) (expression-moved r moves b) (taken r a f) f
  expression-moved r moves (many a) f =
      ap (λ n. Some (after_rounds n (taken r a) (map_spans m f))) (size-map_spans m f)
      ∙ ap Some (rounds-moved (taken r a) (expression-moved r moves a) (size f) f)
  expression-moved r moves (maybe a) f =
      ap (λ o. Some (unwrap_or o (map_spans m f))) (expression-moved r moves a f)
      ∙ ap Some (unwrap-moved (taken r a f) f)
  expression-moved r moves (rule k) f = moves k f

  rules_to-moved : (depth : ℕ) (k : Name) → Moves (rules_to depth k)
  rules_to-moved zero k f = refl
  rules_to-moved (suc depth) k f = expression-moved (rules_to depth) (rules_to-moved depth) (says k) f

  rules-moved : (k : Name) → Moves (rules k)
  unfolding rules
  rules-moved k f = ap (λ n. rules_to (suc n) k (map_spans m f)) (size-map_spans m f) ∙ rules_to-moved (suc (size f)) k f

  pub takes-moved : (e : Expression) (f : Forest) → takes e (map_spans m f) ≡ option_map (map_spans m) (takes e f)
  takes-moved e f = expression-moved rules rules-moved e f

  pub steps-moved : (f : Forest) → steps (map_spans m f) ≡ steps f
  steps-moved f = ap length (walk-map_spans m f) ∙ length-map (walk f) (step_with m)

  answer_of-moved : (f : Forest) (o : Option Forest) → answer_of (map_spans m f) (option_map (map_spans m) o) ≡ answer_of f o
  answer_of-moved f None = refl
  answer_of-moved f (Some g) = rw (steps-moved f, steps-moved g) refl

  -- spans don't matter
  pub answer-moved : (entry : PrefixEntryPoint) (f : Forest) → answer entry (map_spans m f) ≡ answer entry f
  answer-moved entry f = ap (answer_of (map_spans m f)) (takes-moved (entry_rule entry) f) ∙ answer_of-moved f (takes (entry_rule entry) f)

-- ---- steps

pub size-steps : (f : Forest) → size f ≤ steps f
size-steps empty = omega arith
size-steps (leaf l rest) = (let e = size-steps rest in omega (arith, e))
size-steps (group d inner rest) =
    let e = size-steps inner in
    let g = size-steps rest in
    omega (arith, e, g, length-append (walk inner) (closes d.kind d.close_span ∷ walk rest))

pub steps-joined : (f g : Forest) → steps (joined f g) ≡ steps f + steps g
steps-joined f g = ap length (walk-joined f g) ∙ length-append (walk f) (walk g)

-- the number of steps that were passed
pub passed-steps : (n : ℕ) (f g : Forest) → Passed n f g → n ≤ steps f - steps g
passed-steps n f g passed =
    let e = ap steps passed.1 in
    let s = steps-joined passed.0 g in
    let z = size-steps passed.0 in
    let h = passed.2 in
    omega (arith, e, s, z, h)

within_of : (f : Forest) (o : Option Forest) → (answer_of f o).tokens ≤ steps f
within_of f None = omega arith
within_of f (Some g) = omega arith

-- never more steps than there are
pub answer-within : (entry : PrefixEntryPoint) (f : Forest) → (answer entry f).tokens ≤ steps f
answer-within entry f = within_of f (takes (entry_rule entry) f)

takes_of : (n : ℕ) (f : Forest) (o : Option Forest) → ((g : Forest) → o ≡ Some g → Passed n f g) → (answer_of f o).fault ≡ false → n ≤ (answer_of f o).tokens
takes_of n f None passes no_fault = absurd cc
takes_of n f (Some g) passes no_fault = passed-steps n f g (passes g refl)

entry-takes : (entry : PrefixEntryPoint) → entry ≢ Vis → 1 ≤ least (entry_rule entry)
unfolding lifetime arrow arg generics seg tpath bound type_rule path post atom operand binop expr num pat_rule pat_top meta_item
entry-takes Vis other = absurd (other refl)
entry-takes Block other = omega arith
entry-takes Stmt other = omega arith
entry-takes Pat other = omega arith
entry-takes PatTop other = omega arith
entry-takes Ty other = omega arith
entry-takes Expr other = omega arith
entry-takes Path other = omega arith
entry-takes Item other = omega arith
entry-takes MetaItem other = omega arith

-- without a fault at least one step, except for a visibility
pub answer-takes : (entry : PrefixEntryPoint) (f : Forest) → entry ≢ Vis → (answer entry f).fault ≡ false → 1 ≤ (answer entry f).tokens
answer-takes entry f other no_fault =
    let n : ℕ = least (entry_rule entry) in
    let t = takes_of n f (takes (entry_rule entry) f) (takes-least (entry_rule entry) f) no_fault in
    let one = entry-takes entry other in
    omega (arith, t, one)

-- ---- the answer at trees without their spans

pub answer-shape : (entry : PrefixEntryPoint) (f : Forest) → answer entry (shape f) ≡ answer entry f
answer-shape entry f = answer-moved (λ s. no_span) entry f

pub shape-within : (entry : PrefixEntryPoint) (f : Forest) → (answer entry (shape f)).tokens ≤ steps f
shape-within entry f = (let w = answer-within entry f in let e = ap (λ (p : Prefix). p.tokens) (answer-shape entry f) in omega (arith, w, e))

pub shape-takes : (entry : PrefixEntryPoint) (f : Forest) → entry ≢ Vis → (answer entry (shape f)).fault ≡ false → 1 ≤ (answer entry (shape f)).tokens
shape-takes entry f other no_fault = answer-takes entry (shape f) other no_fault

-- the answer, given the trees that were passed
pub answer-passed : (entry : PrefixEntryPoint) (f t g : Forest) (n : ℕ) → takes (entry_rule entry) f ≡ Some g → f ≡ joined t g → n ≡ steps t →
    record { tokens = n; fault = false } ≡ answer entry (shape f)
answer-passed entry f t g n taken_is passed counted =
    let s = steps-joined t g in
    let e = ap steps passed in
    let m : n ≡ steps f - steps g = omega (arith, s, e, counted) in
    ap (λ k. record { tokens = k; fault = false }) m
    ∙ ap (answer_of f) (sym taken_is)
    ∙ sym (answer-shape entry f)

pub answer-fault : (entry : PrefixEntryPoint) (f : Forest) → takes (entry_rule entry) f ≡ None → record { tokens = 0; fault = true } ≡ answer entry (shape f)
answer-fault entry f none = ap (answer_of f) (sym none) ∙ sym (answer-shape entry f)
