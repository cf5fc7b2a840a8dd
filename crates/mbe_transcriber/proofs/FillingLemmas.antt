-- Transcribing commutes with a span map over transcriber and bindings.
use Rattle.std.proofs.Common.{◌≡◌, refl, ap, ◌∙◌, ℕ, zero, suc, ◌-◌, List, [], ◌∷◌, ◌++◌, map, if◌then◌else◌, Bool, true, false, Option, Some, None, option_map, option_and_then}
use Rattle.tt_data.specs.Forest.{Forest, empty, leaf, joined, map_spans}
use Rattle.tt_data.specs.Spans.{leaf_with, delimiter_with}
use Rattle.tt_data.specs.declared.delimiter.Delimiter.{Delimiter}
use Rattle.tt_data.specs.declared.leaf.Leaf.{Leaf}
use Rattle.tt_data.specs.declared.leaf.Leaf.TheVariants as as_leaf
use Rattle.tt_data.specs.declared.leaf.Punct.{Punct}
use Rattle.tt_data.specs.declared.span.Span.{Span}
use Rattle.mbe_rules.specs.Items.{Part, itself, value_of, Dollar, variable, count_of, index_of, len_of, ignore_of, concat_of, Item, word, puncts, lifetime, dollar, Items, done, item, group_of, repetition}
use Rattle.mbe_rules.specs.Relabelling.{punct_with, item_with, items_with}
use Rattle.mbe_rules.specs.declared.parser.MetaVarKind.TheVariants as kind
use Rattle.mbe_rules.specs.declared.parser.RepeatKind.{RepeatKind}
use Rattle.mbe_rules.specs.declared.parser.RepeatKind.TheVariants.{ZeroOrMore, OneOrMore, ZeroOrOne}
use Rattle.mbe_matcher.specs.Bindings.{Binding, fragment, rounds, skipped, Values, no_more, value, value_at, Map, binding_of}
use Rattle.mbe_transcriber.specs.Filling.{both, value_in, use_of_member, use_in, names, stands, count_in, count_values, integer, text_of_value, separator_leaves, rounds_from, rounds_of, fragment_in, variable_in, ignored, value_here, joined_text, identifier, rawness_of, dollar_in, item_in, round_stands, filled_in, filled}
use Rattle.mbe_matcher.proofs.BindingLemmas.{binding_with, values_with, map_with, value_at-map, binding_of-map}
use Rattle.mbe_transcriber.proofs.FragmentLemmas.{joined-map, put_in-map, text_in-map, punct_leaves-map, separator_leaves-map}

both-map : {A B C A' B' C' : Type 0} (h : A → A') (k : B → B') (l : C → C') (g : A → B → C) (g' : A' → B' → C') (x : Option A) (y : Option B) →
    ((a : A) (b : B) → g' (h a) (k b) ≡ l (g a b)) → both g' (option_map h x) (option_map k y) ≡ option_map l (both g x y)
both-map h k l g g' (Some a) (Some b) same = ap Some (same a b)
both-map h k l g g' (Some a) None same = refl
both-map h k l g g' None y same = refl

pub by_test : {A B : Type 0} (h : A → B) (b b' : Bool) (x y : A) (x' y' : B) → b' ≡ b → x' ≡ h x → y' ≡ h y →
    elim b' [ true ↦ x' | false ↦ y' ] ≡ h (elim b [ true ↦ x | false ↦ y ])
by_test {B} h b b' x y x' y' tested e e' = ap (λ c. elim c as (λ _. B) [ true ↦ x' | false ↦ y' ]) tested ∙ go b
  where
    go : (c : Bool) → elim c [ true ↦ x' | false ↦ y' ] ≡ h (elim c [ true ↦ x | false ↦ y ])
    go true = e
    go false = e'

module _ (f : Span → Span) where
  abbrev with_f : Option Forest → Option Forest
  with_f = option_map (map_spans f)

  then_in-map : (value' : Binding → Option Binding) (o : Option Binding) → ((b : Binding) → value' (binding_with f b) ≡ option_map (binding_with f) (value' b)) →
      option_and_then value' (option_map (binding_with f) o) ≡ option_map (binding_with f) (option_and_then value' o)
  then_in-map value' None same = refl
  then_in-map value' (Some b) same = same b

  value_in-map : (ns : List ℕ) (b : Binding) → value_in ns (binding_with f b) ≡ option_map (binding_with f) (value_in ns b)
  value_in-map [] b = refl
  value_in-map (n ∷ ns) (fragment k x) = refl
  value_in-map (n ∷ ns) skipped = refl
  value_in-map (n ∷ ns) (rounds vs) =
      ap (option_and_then (value_in ns)) (value_at-map f n vs) ∙ then_in-map (value_in ns) (value_at n vs) (λ b. value_in-map ns b)

  use_of_member-map : (o : Option Binding) → use_of_member (option_map (binding_with f) o) ≡ use_of_member o
  use_of_member-map None = refl
  use_of_member-map (Some b) = refl

  use_in-map : (ns : List ℕ) (o : Option Binding) → use_in ns (option_map (binding_with f) o) ≡ use_in ns o
  use_in-map ns None = refl
  use_in-map [] (Some b) = refl
  use_in-map (n ∷ []) (Some (fragment k x)) = refl
  use_in-map (n ∷ []) (Some skipped) = refl
  use_in-map (n ∷ []) (Some (rounds vs)) = rw (value_at-map f n vs) (use_of_member-map (value_at n vs))
  use_in-map (n ∷ q ∷ ns) (Some (rounds vs)) = ap (use_in (q ∷ ns)) (value_at-map f n vs) ∙ use_in-map (q ∷ ns) (value_at n vs)
  use_in-map (n ∷ q ∷ ns) (Some (fragment k x)) = refl
  use_in-map (n ∷ q ∷ ns) (Some skipped) = refl

  names-map : (i : Items) → names (items_with f i) ≡ names i
  names-map done = refl
  names-map (item (dollar d s) rest) = rw (names-map rest)
  names-map (item (word l) rest) = names-map rest
  names-map (item (puncts ps) rest) = names-map rest
  names-map (item (lifetime p i) rest) = names-map rest
  names-map (group_of d inner rest) = rw (names-map inner, names-map rest)
  names-map (repetition body sep op rest) = rw (names-map body, names-map rest)

  mutual
    count_in-map : (d : ℕ) (b : Binding) → count_in d (binding_with f b) ≡ count_in d b
    count_in-map d (fragment k x) = refl
    count_in-map d skipped = refl
    count_in-map d (rounds vs) = count_values-map d vs

    count_values-map : (d : ℕ) (vs : Values) → count_values d (values_with f vs) ≡ count_values d vs
    count_values-map d no_more = refl
    count_values-map zero (value b vs) = rw (count_values-map zero vs)
    count_values-map (suc d) (value b vs) = rw (count_in-map d b, count_values-map (suc d) vs)

  text_of_value-map : (o : Option Binding) → text_of_value (option_map (binding_with f) o) ≡ text_of_value o
  text_of_value-map (Some (fragment kind.Path x)) = refl
  text_of_value-map (Some (fragment kind.Expr x)) = refl
  text_of_value-map (Some (fragment kind.Expr2021 x)) = refl
  text_of_value-map (Some (fragment _ x)) = text_in-map f x
  text_of_value-map (Some (rounds vs)) = refl
  text_of_value-map (Some skipped) = refl
  text_of_value-map None = refl

  -- ---- repetitions

  with_separator-map : (sep x y : Forest) → joined (map_spans f sep) (joined (map_spans f x) (map_spans f y)) ≡ map_spans f (joined sep (joined x y))
  with_separator-map sep x y = rw (joined-map f x y, joined-map f sep (joined x y)) refl

  module _ (stands_at stands_at' : ℕ → Bool) (tested : (r : ℕ) → stands_at' r ≡ stands_at r)
      (round_at round_at' : ℕ → Option Forest) (same : (r : ℕ) → round_at' r ≡ with_f (round_at r)) (sep : Forest) where
    rounds_from-map : (most r : ℕ) → rounds_from stands_at' round_at' (map_spans f sep) most r ≡ with_f (rounds_from stands_at round_at sep most r)
    rounds_from-map zero r = by_test with_f (stands_at r) (stands_at' r) None (Some empty) None (Some empty) (tested r) refl refl
    rounds_from-map (suc most) r =
        by_test with_f (stands_at r) (stands_at' r) _ (Some empty) _ (Some empty) (tested r)
        (rw (same r, rounds_from-map most (suc r))
        (both-map (map_spans f) (map_spans f) (map_spans f) _ _ (round_at r) (rounds_from stands_at round_at sep most (suc r)) (with_separator-map sep)))
        refl

    some_rounds-map : (most : ℕ) (x : Option Forest) →
        elim (stands_at' 0) [ true ↦ both joined (round_at' 0) (rounds_from stands_at' round_at' (map_spans f sep) (most - 1) 1) | false ↦ with_f x ]
        ≡ with_f (elim (stands_at 0) [ true ↦ both joined (round_at 0) (rounds_from stands_at round_at sep (most - 1) 1) | false ↦ x ])
    some_rounds-map most x =
        by_test with_f (stands_at 0) (stands_at' 0) _ x _ (with_f x) (tested 0)
        (rw (same 0, rounds_from-map (most - 1) 1)
        (both-map (map_spans f) (map_spans f) (map_spans f) joined joined (round_at 0) (rounds_from stands_at round_at sep (most - 1) 1) (joined-map f)))
        refl

    pub rounds_of-map : (most : ℕ) (op : RepeatKind) → rounds_of stands_at' round_at' (map_spans f sep) most op ≡ with_f (rounds_of stands_at round_at sep most op)
    rounds_of-map most ZeroOrOne = by_test with_f (stands_at 0) (stands_at' 0) (round_at 0) (Some empty) (round_at' 0) (Some empty) (tested 0) (same 0) refl
    rounds_of-map most ZeroOrMore = some_rounds-map most (Some empty)
    rounds_of-map most OneOrMore = some_rounds-map most None

  -- ---- templates

  module _ (is_identifier : List ℕ → Bool) (most : ℕ) (mark : Span → Span) (commutes : (s : Span) → f (mark s) ≡ mark (f s)) (bound : Map) where
    value_here-map : (ns n : List ℕ) →
        value_here is_identifier most mark (map_with f bound) ns n ≡ option_map (binding_with f) (value_here is_identifier most mark bound ns n)
    value_here-map ns n = rw (binding_of-map f n bound) (then_in-map (value_in ns) (binding_of n bound) (value_in-map ns))

    pub round_stands-map : (body : Items) (ns : List ℕ) →
        round_stands is_identifier most mark (map_with f bound) (items_with f body) ns ≡ round_stands is_identifier most mark bound body ns
    round_stands-map body ns = rw (names-map body) (ap stands (uses (names body)))
      where
        uses : (vs : List (List ℕ)) → map (λ n. use_in ns (binding_of n (map_with f bound))) vs ≡ map (λ n. use_in ns (binding_of n bound)) vs
        uses [] = refl
        uses (v ∷ vs) = rw (binding_of-map f v bound, use_in-map ns (binding_of v bound), uses vs)

    fragment_in-map : (s : Span) (o : Option Binding) →
        fragment_in is_identifier most mark (map_with f bound) (f s) (option_map (binding_with f) o)
        ≡ with_f (fragment_in is_identifier most mark bound s o)
    fragment_in-map s (Some (fragment k x)) = ap Some (put_in-map f s k x)
    fragment_in-map s (Some (rounds vs)) = refl
    fragment_in-map s (Some skipped) = refl
    fragment_in-map s None = refl

    variable_in-map : (ns n : List ℕ) (s : Span) (o : Option Binding) →
        variable_in is_identifier most mark (map_with f bound) ns n (f s) (option_map (binding_with f) o)
        ≡ with_f (variable_in is_identifier most mark bound ns n s o)
    variable_in-map ns n s None = refl
    variable_in-map ns n s (Some b) =
        ap (fragment_in is_identifier most mark (map_with f bound) (f s)) (value_in-map ns b) ∙ fragment_in-map s (value_in ns b)

    ignored-map : (o : Option Binding) →
        ignored is_identifier most mark (map_with f bound) (option_map (binding_with f) o) ≡ with_f (ignored is_identifier most mark bound o)
    ignored-map (Some (fragment k x)) = refl
    ignored-map (Some (rounds vs)) = refl
    ignored-map (Some skipped) = refl
    ignored-map None = refl

    counted-map : (d : ℕ) (s : Span) (o : Option Binding) →
        option_map (λ b. integer (count_in d b) (f s)) (option_map (binding_with f) o) ≡ with_f (option_map (λ b. integer (count_in d b) s) o)
    counted-map d s None = refl
    counted-map d s (Some b) = rw (count_in-map d b) refl

    joined_text-map : (ns : List ℕ) (ps : List Part) →
        joined_text is_identifier most mark (map_with f bound) ns ps ≡ joined_text is_identifier most mark bound ns ps
    joined_text-map ns [] = refl
    joined_text-map ns (itself t ∷ ps) = rw (joined_text-map ns ps)
    joined_text-map ns (value_of n ∷ ps) =
        rw (value_here-map ns n, text_of_value-map (value_here is_identifier most mark bound ns n), joined_text-map ns ps)

    identifier-map : (s : Span) (o : Option (List ℕ)) →
        option_and_then (identifier is_identifier most mark (map_with f bound) (f s)) o
        ≡ with_f (option_and_then (identifier is_identifier most mark bound s) o)
    identifier-map s None = refl
    identifier-map s (Some t) = go (is_identifier t)
      where
        go : (b : Bool) → (if b then Some (leaf (as_leaf.Ident (record { sym = t; span = f s; is_raw = rawness_of t })) empty) else None)
            ≡ with_f (if b then Some (leaf (as_leaf.Ident (record { sym = t; span = s; is_raw = rawness_of t })) empty) else None)
        go true = refl
        go false = refl

    dollar_in-map : (ns : List ℕ) (d : Dollar) (s : Span) →
        dollar_in is_identifier most mark (map_with f bound) ns d (f s) ≡ with_f (dollar_in is_identifier most mark bound ns d s)
    dollar_in-map ns (variable n k) s = rw (binding_of-map f n bound) (variable_in-map ns n s (binding_of n bound))
    dollar_in-map ns (ignore_of n) s = rw (value_here-map ns n) (ignored-map (value_here is_identifier most mark bound ns n))
    dollar_in-map ns (index_of d) s = refl
    dollar_in-map ns (len_of d) s = refl
    dollar_in-map ns (count_of n d) s = rw (value_here-map ns n) (counted-map d s (value_here is_identifier most mark bound ns n))
    dollar_in-map ns (concat_of ps) s = rw (joined_text-map ns ps) (identifier-map s (joined_text is_identifier most mark bound ns ps))

    leaf_marked : (l : Leaf) → leaf_with mark (leaf_with f l) ≡ leaf_with f (leaf_with mark l)
    leaf_marked (as_leaf.Ident i) = rw (commutes i.span)
    leaf_marked (as_leaf.Literal l) = rw (commutes l.span)
    leaf_marked (as_leaf.Punct p) = rw (commutes p.span)

    puncts_marked : (ps : List Punct) → map (punct_with mark) (map (punct_with f) ps) ≡ map (punct_with f) (map (punct_with mark) ps)
    puncts_marked [] = refl
    puncts_marked (p ∷ ps) = rw (commutes p.span, puncts_marked ps)

    delimiter_marked : (d : Delimiter) → delimiter_with mark (delimiter_with f d) ≡ delimiter_with f (delimiter_with mark d)
    delimiter_marked d = rw (commutes d.open_span, commutes d.close_span)

    pub item_in-map : (ns : List ℕ) (i : Item) →
        item_in is_identifier most mark (map_with f bound) ns (item_with f i) ≡ with_f (item_in is_identifier most mark bound ns i)
    item_in-map ns (word l) = rw (leaf_marked l)
    item_in-map ns (puncts ps) = rw (puncts_marked ps) (ap Some (punct_leaves-map f (map (punct_with mark) ps)))
    item_in-map ns (lifetime p i) = rw (leaf_marked (as_leaf.Punct p), leaf_marked (as_leaf.Ident i))
    item_in-map ns (dollar d s) = rw (← commutes s) (dollar_in-map ns d (mark s))

    pub filled_in-map : (ns : List ℕ) (i : Items) →
        filled_in is_identifier most mark (map_with f bound) ns (items_with f i) ≡ with_f (filled_in is_identifier most mark bound ns i)
    filled_in-map ns done = refl
    filled_in-map ns (item i rest) =
        rw (item_in-map ns i, filled_in-map ns rest)
        (both-map (map_spans f) (map_spans f) (map_spans f) joined joined (item_in is_identifier most mark bound ns i) (filled_in is_identifier most mark bound ns rest) (joined-map f))
    filled_in-map ns (group_of d inner rest) =
        rw (delimiter_marked d, filled_in-map ns inner, filled_in-map ns rest)
        (both-map (map_spans f) (map_spans f) (map_spans f) _ _ (filled_in is_identifier most mark bound ns inner) (filled_in is_identifier most mark bound ns rest) (λ x y. refl))
    filled_in-map ns (repetition body sep op rest) =
        let rounds_same =
        rounds_of-map
        (λ r. round_stands is_identifier most mark bound body (ns ++ (r ∷ [])))
        (λ r. round_stands is_identifier most mark (map_with f bound) (items_with f body) (ns ++ (r ∷ [])))
        (λ r. round_stands-map body (ns ++ (r ∷ [])))
        (λ r. filled_in is_identifier most mark bound (ns ++ (r ∷ [])) body)
        (λ r. filled_in is_identifier most mark (map_with f bound) (ns ++ (r ∷ [])) (items_with f body))
        (λ r. filled_in-map (ns ++ (r ∷ [])) body)
        (separator_leaves sep) most op in
        rw (separator_leaves-map f sep, rounds_same, filled_in-map ns rest)
        (both-map (map_spans f) (map_spans f) (map_spans f) joined joined _ (filled_in is_identifier most mark bound ns rest) (joined-map f))

    pub filled-map : (template : Items) →
        filled is_identifier most mark (map_with f bound) (items_with f template) ≡ with_f (filled is_identifier most mark bound template)
    filled-map template = filled_in-map [] template
