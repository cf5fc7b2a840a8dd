-- Parsing rules commutes with a span map.
use Rattle.std.proofs.Common.{◌≡◌, refl, ℕ, zero, suc, ◌+◌, List, [], ◌∷◌, map, if◌then◌else◌, Bool, true, false, Option, Some, None, option_map, Ok, Err}
use Rattle.std.specs.List.{list_any}
use Rattle.tt_data.specs.Forest.{Forest, empty, leaf, group, map_spans}
use Rattle.tt_data.specs.Spans.{delimiter_with}
use Rattle.tt_data.specs.declared.delimiter.Delimiter.{Delimiter}
use Rattle.tt_data.specs.declared.edition.Edition.{Edition}
use Rattle.tt_data.specs.declared.leaf.Ident.{Ident}
use Rattle.tt_data.specs.declared.leaf.Leaf.TheVariants as as_leaf
use Rattle.tt_data.specs.declared.leaf.Punct.{Punct}
use Rattle.tt_data.specs.declared.span.Span.{Span}
use Rattle.tt_data.specs.declared.span.SyntaxContext.{SyntaxContext}
use Rattle.tt.proofs.GluedLemmas.{glued_count-map}
use Rattle.mbe_rules.specs.Items.{Item, word, Items, Rule, Rules, has_empty_round}
use Rattle.mbe_rules.specs.Parsed.{Parsed, ◌>>=◌}
use Rattle.mbe_rules.specs.Repetitions.{Between, a_literal, an_ident, a_lifetime, some_puncts, trees_between, repeated, separator_in}
use Rattle.mbe_rules.specs.Expressions.{expression_in}
use Rattle.mbe_rules.specs.Patterns.{Mode, in_pattern, in_template, Head, glued, named_quote, two_dollars, trees_of, item_of, kind_of, variable_after, dollar_head, punct_head, head_at, is_repetition, with_item, with_group, with_head, with_repetition, items_after, items_of}
use Rattle.mbe_rules.specs.Parsing.{rule_of, rule_at, rule_shape, Delimiting, by_semicolon, by_semicolon_or_comma, no_rules, delimited, rule_then, rules_after, ending, macro_rules_of, macro_of}
use Rattle.mbe_rules.specs.Parsing as parsing
use Rattle.mbe_rules.specs.Relabelling.{punct_with, ident_with, item_with, separator_with, items_with, rule_with, rules_with}
use Rattle.mbe_rules.specs.Trees.{past, inside, Sign, punct, signs}
use Rattle.mbe_rules.specs.declared.errors.ParseError.TheVariants.{RepetitionEmptyTokenTree}
use Rattle.mbe_rules.specs.declared.parser.RepeatKind.{RepeatKind}
use Rattle.mbe_rules.specs.declared.macro_call_style.MacroCallStyle.{MacroCallStyle}
use Rattle.mbe_rules.specs.declared.macro_call_style.MacroCallStyle.TheVariants.{FnLike}
use Rattle.mbe_rules.proofs.RelabelLemmas.{signs-map, past-map, first_puncts-map, inside-map, has_empty_round-map}

-- what is read, changed by h; a fault as it is
abbrev pub read_as : {A B : Type 0} → (A → B) → Parsed A → Parsed B
read_as h (Ok a) = Ok (h a)
read_as h (Err e) = Err e

-- a step of a reading: the first part changes by h, the whole by g
then-map : {A B C D : Type 0} (h : A → C) (g : B → D) (x : Parsed A) (k : A → Parsed B) (k' : C → Parsed D) →
    ((a : A) → k' (h a) ≡ read_as g (k a)) → (read_as h x >>= k') ≡ read_as g (x >>= k)
then-map h g (Ok a) k k' step = step a
then-map h g (Err e) k k' step = refl

-- the same where the first part stays
then-same : {A B D : Type 0} (g : B → D) (x : Parsed A) (k : A → Parsed B) (k' : A → Parsed D) →
    ((a : A) → k' a ≡ read_as g (k a)) → (x >>= k') ≡ read_as g (x >>= k)
then-same g (Ok a) k k' step = step a
then-same g (Err e) k k' step = refl

by_test : {A B : Type 0} (h : A → B) (b : Bool) (x y : A) (x' y' : B) → x' ≡ h x → y' ≡ h y →
    elim b [ true ↦ x' | false ↦ y' ] ≡ h (elim b [ true ↦ x | false ↦ y ])
by_test h true x y x' y' e e' = e
by_test h false x y x' y' e e' = e'

module _ (f : Span → Span) where
  pub separator_in-map : (b : Between) (x : Forest) → separator_in b (map_spans f x) ≡ option_map (separator_with f) (separator_in b x)
  separator_in-map a_literal (leaf (as_leaf.Literal l) rest) = refl
  separator_in-map an_ident (leaf (as_leaf.Ident i) rest) = refl
  separator_in-map a_lifetime (leaf (as_leaf.Punct p) (leaf (as_leaf.Ident i) rest)) = refl
  separator_in-map (some_puncts n) x = rw (first_puncts-map f n x)
  separator_in-map _ _ = refl

  pub expression_in-map : (x : Forest) → expression_in (map_spans f x) ≡ expression_in x
  expression_in-map (leaf (as_leaf.Ident called) (group d arguments rest)) = rw (signs-map f arguments)
  expression_in-map _ = refl

  pub item_of-map : (h : Head) (p : Punct) (x : Forest) → item_of h (punct_with f p) (map_spans f x) ≡ item_with f (item_of h p x)
  item_of-map (glued n) p x = rw (first_puncts-map f n (leaf (as_leaf.Punct p) x))
  item_of-map named_quote p (leaf (as_leaf.Ident i) rest) = refl
  item_of-map two_dollars p x = rw (first_puncts-map f 1 x)
  item_of-map _ p x = refl

  with_item-map : (i : Item) (r : Parsed Items) → with_item (item_with f i) (read_as (items_with f) r) ≡ read_as (items_with f) (with_item i r)
  with_item-map i (Ok j) = refl
  with_item-map i (Err e) = refl

  with_group-map : (d : Delimiter) (i j : Parsed Items) →
      with_group (delimiter_with f d) (read_as (items_with f) i) (read_as (items_with f) j) ≡ read_as (items_with f) (with_group d i j)
  with_group-map d (Ok i) (Ok j) = refl
  with_group-map d (Ok i) (Err e) = refl
  with_group-map d (Err e) j = refl

  module _ (edition : SyntaxContext → Edition) (keeps : (s : Span) → edition (f s).ctx ≡ edition s.ctx) where
    kind_of-map : (k : Ident) → kind_of edition (ident_with f k) ≡ kind_of edition k
    kind_of-map k = rw (keeps k.span)

    variable_after-map : (m : Mode) (n : List ℕ) (x : Forest) → variable_after edition m n (map_spans f x) ≡ variable_after edition m n x
    variable_after-map in_pattern n (leaf (as_leaf.Punct c) (leaf (as_leaf.Ident k) rest)) = rw (kind_of-map k)
    variable_after-map in_template n x = refl
    variable_after-map in_pattern n _ = refl

    dollar_head-map : (m : Mode) (x : Forest) → dollar_head edition m (map_spans f x) ≡ dollar_head edition m x
    dollar_head-map m (leaf (as_leaf.Ident i) rest) = rw (variable_after-map m i.sym rest)
    dollar_head-map m (leaf (as_leaf.Literal l) rest) = rw (variable_after-map m l.text rest)
    dollar_head-map in_template (group d inner rest) = rw (expression_in-map inner)
    dollar_head-map in_pattern (leaf (as_leaf.Punct p) rest) = refl
    dollar_head-map in_template (leaf (as_leaf.Punct p) rest) = refl
    dollar_head-map _ _ = refl

    punct_head-map : (m : Mode) (p : Punct) (x : Forest) → punct_head m (punct_with f p) (map_spans f x) ≡ punct_head m p x
    punct_head-map in_pattern p (leaf (as_leaf.Ident i) rest) = refl
    punct_head-map in_pattern p x = rw (glued_count-map f (leaf (as_leaf.Punct p) x))
    punct_head-map in_template p x = rw (glued_count-map f (leaf (as_leaf.Punct p) x))

    head_at-map : (m : Mode) (p : Punct) (x : Forest) → head_at edition m (punct_with f p) (map_spans f x) ≡ head_at edition m p x
    head_at-map m p x = rw (dollar_head-map m x, punct_head-map m p x)

    -- a punct's item, where it changes so does what follows
    punct-map : (m : Mode) (p : Punct) (x : Forest) (after after' : ℕ → Parsed Items) →
        ((n : ℕ) → after' n ≡ read_as (items_with f) (after n)) →
        (head_at edition m (punct_with f p) (map_spans f x) >>= with_head (punct_with f p) (map_spans f x) after')
        ≡ read_as (items_with f) (head_at edition m p x >>= with_head p x after)
    punct-map m p x after after' same =
        rw (head_at-map m p x)
        (then-same (items_with f) (head_at edition m p x) (with_head p x after) (with_head (punct_with f p) (map_spans f x) after')
        (λ h. rw (item_of-map h p x, same (trees_of h)) (with_item-map (item_of h p x) (after (trees_of h)))))

    with_repetition-map : (x : Forest) (inner : Parsed Items) (after after' : ℕ → Parsed Items) →
        ((n : ℕ) → after' n ≡ read_as (items_with f) (after n)) → (b : Between × RepeatKind) →
        with_repetition (map_spans f x) (read_as (items_with f) inner) after' b ≡ read_as (items_with f) (with_repetition x inner after b)
    with_repetition-map x inner after after' same b =
        then-map (items_with f) (items_with f) inner _ _
        (λ i. rw (same (trees_between b.0 + 1))
        (then-map (items_with f) (items_with f) (after (trees_between b.0 + 1)) _ _ (λ j. rw (separator_in-map b.0 x) refl)))

    pub items_after-map : (m : Mode) (n : ℕ) (x : Forest) →
        items_after edition m n (map_spans f x) ≡ read_as (items_with f) (items_after edition m n x)
    items_after-map m n empty = refl
    items_after-map m (suc n) (leaf l rest) = items_after-map m n rest
    items_after-map m (suc n) (group d inner rest) = items_after-map m n rest
    items_after-map m zero (group d inner rest) =
        rw (items_after-map m 0 inner, items_after-map m 0 rest)
        (with_group-map d (items_after edition m 0 inner) (items_after edition m 0 rest))
    items_after-map m zero (leaf (as_leaf.Punct p) (group d inner rest)) =
        by_test (read_as (items_with f)) (is_repetition p d) _ _ _ _
        (rw (signs-map f rest, items_after-map m 0 inner)
        (then-same (items_with f) (repeated rest) _ _
        (with_repetition-map rest (items_after edition m 0 inner) (λ n. items_after edition m n rest) _ (λ n. items_after-map m n rest))))
        (punct-map m p (group d inner rest) (λ n. items_after edition m n (group d inner rest)) _ (λ n. items_after-map m n (group d inner rest)))
    items_after-map m zero (leaf (as_leaf.Punct p) empty) =
        punct-map m p empty (λ n. items_after edition m n empty) _ (λ n. items_after-map m n empty)
    items_after-map m zero (leaf (as_leaf.Punct p) (leaf l rest)) =
        punct-map m p (leaf l rest) (λ n. items_after edition m n (leaf l rest)) _ (λ n. items_after-map m n (leaf l rest))
    items_after-map m zero (leaf (as_leaf.Ident i) rest) =
        rw (items_after-map m 0 rest) (with_item-map (word (as_leaf.Ident i)) (items_after edition m 0 rest))
    items_after-map m zero (leaf (as_leaf.Literal l) rest) =
        rw (items_after-map m 0 rest) (with_item-map (word (as_leaf.Literal l)) (items_after edition m 0 rest))

    rule_of-map : (style : MacroCallStyle) (x y : Forest) →
        rule_of edition style (map_spans f x) (map_spans f y) ≡ read_as (rule_with f) (rule_of edition style x y)
    rule_of-map style x y =
        rw (items_after-map in_pattern 0 x, items_after-map in_template 0 y)
        (then-map (items_with f) (rule_with f) (items_of edition in_pattern x) _ _
        (λ p. then-map (items_with f) (rule_with f) (items_of edition in_template y) _ _ (λ t. refl)))

    rule_at-map : (x : Forest) (shape : MacroCallStyle × ℕ) → rule_at edition (map_spans f x) shape ≡ read_as (rule_with f) (rule_at edition x shape)
    rule_at-map x shape =
        rw (past-map f shape.1 x, past-map f (shape.1 + 3) x, inside-map f (past shape.1 x), inside-map f (past (shape.1 + 3) x))
        (rule_of-map shape.0 (inside (past shape.1 x)) (inside (past (shape.1 + 3) x)))

    rule_then-map : (r : Parsed Rule) (more : Rules) → rule_then (read_as (rule_with f) r) (rules_with f more) ≡ rules_with f (rule_then r more)
    rule_then-map (Ok r) more = refl
    rule_then-map (Err e) more = refl

    delimited-map : (between : Delimiting) (ts : List Sign) (more : Rules) → delimited between ts (rules_with f more) ≡ rules_with f (delimited between ts more)
    delimited-map between [] more = refl
    delimited-map between (punct c ∷ ts) more = go (between.is_between c)
      where
        go : (b : Bool) → (if b then rules_with f more else no_rules (Some between.fault)) ≡ rules_with f (if b then more else no_rules (Some between.fault))
        go true = refl
        go false = refl
    delimited-map between _ more = refl

    rules_with-map : (between : Delimiting) (x : Forest) (after after' : ℕ → Rules) → ((n : ℕ) → after' n ≡ rules_with f (after n)) →
        (shape : Parsed (MacroCallStyle × ℕ)) →
        parsing.rules_with edition between (map_spans f x) after' shape ≡ rules_with f (parsing.rules_with edition between x after shape)
    rules_with-map between x after after' same (Err e) = refl
    rules_with-map between x after after' same (Ok shape) =
        rw (
          rule_at-map x shape,
          past-map f (shape.1 + 4) x,
          signs-map f (past (shape.1 + 4) x),
          same (shape.1 + 4),
          delimited-map between (signs (past (shape.1 + 4) x)) (after (shape.1 + 4)),
        )
        (rule_then-map (rule_at edition x shape) (delimited between (signs (past (shape.1 + 4) x)) (after (shape.1 + 4))))

    rules_after-map : (between : Delimiting) (n : ℕ) (x : Forest) →
        rules_after edition between n (map_spans f x) ≡ rules_with f (rules_after edition between n x)
    rules_after-map between n empty = refl
    rules_after-map between (suc n) (leaf l rest) = rules_after-map between n rest
    rules_after-map between (suc n) (group d inner rest) = rules_after-map between n rest
    rules_after-map between zero (leaf l rest) =
        rw (signs-map f (leaf l rest))
        (rules_with-map between (leaf l rest) (λ n. rules_after edition between n rest) _ (λ n. rules_after-map between n rest) (rule_shape (signs (leaf l rest))))
    rules_after-map between zero (group d inner rest) =
        rw (signs-map f rest)
        (rules_with-map between (group d inner rest) (λ n. rules_after edition between n rest) _ (λ n. rules_after-map between n rest) (rule_shape (signs (group d inner rest))))

    any_empty_round-map : (rs : List Rule) →
        list_any (λ r. has_empty_round r.pattern) (map (rule_with f) rs) ≡ list_any (λ r. has_empty_round r.pattern) rs
    any_empty_round-map [] = refl
    any_empty_round-map (r ∷ rs) = rw (has_empty_round-map f r.pattern, any_empty_round-map rs)

    ending-map : (rules : Rules) → ending (rules_with f rules) ≡ rules_with f (ending rules)
    ending-map rules = rw (any_empty_round-map rules.list) (go (list_any (λ r. has_empty_round r.pattern) rules.list))
      where
        go : (b : Bool) → (if b then record (rules_with f rules) { err = Some RepetitionEmptyTokenTree } else rules_with f rules)
            ≡ rules_with f (if b then record rules { err = Some RepetitionEmptyTokenTree } else rules)
        go true = refl
        go false = refl

    pub macro_rules_of-map : (body : Forest) → macro_rules_of edition (map_spans f body) ≡ rules_with f (macro_rules_of edition body)
    macro_rules_of-map body = rw (rules_after-map by_semicolon 0 body) (ending-map (rules_after edition by_semicolon 0 body))

    pub macro_of-map : (arguments : Option Forest) (body : Forest) →
        macro_of edition (option_map (map_spans f) arguments) (map_spans f body) ≡ rules_with f (macro_of edition arguments body)
    macro_of-map None body = rw (rules_after-map by_semicolon_or_comma 0 body) (ending-map (rules_after edition by_semicolon_or_comma 0 body))
    macro_of-map (Some arguments) body =
        rw (rule_of-map FnLike arguments body, rule_then-map (rule_of edition FnLike arguments body) (no_rules None))
        (ending-map (rule_then (rule_of edition FnLike arguments body) (no_rules None)))
