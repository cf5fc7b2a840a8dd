-- Conditional compilation looks at no span: what is kept and what is a whole item elsewhere.
use Rattle.std.proofs.Common.{◌≡◌, ℕ, zero, suc, Bool, true, false, not, ◌&&◌, ◌||◌}
use Rattle.std.proofs.Common.{List, [], ◌∷◌, map, Option, Some, None, refl, ap, sym, ◌∙◌}
use Rattle.std.proofs.Common.{option_map, unwrap_or, is_some, codes, if◌then◌else◌}
use Rattle.std.specs.List.{list_all, list_any}
use Prim.Native.String.{String}
use Rattle.tt.specs.FirstTrees.{first_group, first_punct}
use Rattle.tt_data.specs.Forest.{Forest, empty, leaf, group, joined, map_spans, size}
use Rattle.tt_data.specs.Literals.{LiteralParts}
use Rattle.tt_data.specs.Spans.{leaf_with}
use Rattle.tt_data.proofs.ForestLemmas.{map_spans-joined, size-map_spans}
use Rattle.tt_data.specs.declared.delimiter.DelimiterKind.TheVariants.{Parenthesis, Bracket}
use Rattle.tt_data.specs.declared.leaf.Ident.{Ident}
use Rattle.tt_data.specs.declared.leaf.Leaf.{Leaf}
use Rattle.tt_data.specs.declared.leaf.Leaf.TheVariants as as_leaf
use Rattle.tt_data.specs.declared.leaf.Punct.{Punct}
use Rattle.tt_data.specs.declared.span.Span.{Span}
use Rattle.bridge.specs.Text.{is_char, is_punct, is_visible, same_kind}
use Rattle.cfg_options.specs.small_grammar.Text.{is_empty, same_text, ◌>>=◌, ◌>>◌}
use Rattle.cfg_options.specs.Conditions.{Options, after_name, attribute_keeps, cfg_attr_keeps}
use Rattle.cfg_options.specs.Conditions.{cfg_keeps, constant, cut_at_commas, each_value, is_kept}
use Rattle.cfg_options.specs.Conditions.{is_option_name, list_behind, listed, listed_values}
use Rattle.cfg_options.specs.Conditions.{negated, option_in, option_value, or_else, parenthesized}
use Rattle.cfg_options.specs.Conditions.{predicate_value, value_within}
use Rattle.expander_model.specs.CallSteps.{group_call}
use Rattle.expander_model.specs.Calls.{is_colons}
use Rattle.expander_model.specs.Definitions.{after_attributes, after_pub, after_word}
use Rattle.expander_model.specs.Definitions.{definition_of, is_semicolon}
use Rattle.expander_model.specs.OtherPlaces.{definition_with}
use Rattle.expander_model.specs.ItemSteps.{is_item}
use Rattle.expander_model.specs.declared.call.Call.{Call}
use Rattle.expander_model.specs.WholeItems.{after_call, after_path, after_qualifiers, begins_with}
use Rattle.expander_model.specs.WholeItems.{behind_colons, ends_in_body, ends_in_semicolon}
use Rattle.expander_model.specs.WholeItems.{is_bodied, is_configured_out, is_end, is_extern_block}
use Rattle.expander_model.specs.WholeItems.{is_path_call, is_short, is_whole_call, is_whole_item}
use Rattle.expander_model.specs.WholeItems.{opened_after}
use Rattle.expander_model.proofs.DefinitionPlaceLemmas.{after_attributes-with, after_pub-with}
use Rattle.expander_model.proofs.DefinitionPlaceLemmas.{after_word-with, definition_of-with}
use Rattle.expander_model.proofs.DefinitionPlaceLemmas.{is_empty-with, is_semicolon-with}
use Rattle.expander_model.proofs.DefinitionPlaceLemmas.{test-with, then-with, unwrap_or-with}

-- a choice between two things that are elsewhere
either-with : {X Y : Type 0} (m : X → Y) (b : Bool) (x y : X) (x' y' : Y)
    → x' ≡ m x → y' ≡ m y → (if b then x' else y') ≡ m (if b then x else y)
either-with m true x y x' y' e h = e
either-with m false x y x' y' e h = h

-- what is elsewhere is there as before
some-with : {X Y : Type 0} (m : X → Y) (o : Option X) → is_some (option_map m o) ≡ is_some o
some-with m None = refl
some-with m (Some x) = refl

-- what looks at no place says the same of all and of any
all-with : {X : Type 0} (m : X → X) (test : X → Bool) → ((x : X) → test (m x) ≡ test x)
    → (xs : List X) → list_all test (map m xs) ≡ list_all test xs
all-with m test same [] = refl
all-with m test same (x ∷ xs) =
    ap (λ b. b && list_all test (map m xs)) (same x)
    ∙ ap (λ b. test x && b) (all-with m test same xs)

each-with : (m : Forest → Forest) (value : Forest → Option Bool)
    → ((p : Forest) → value (m p) ≡ value p)
    → (ps : List Forest) → each_value value (map m ps) ≡ each_value value ps
each-with m value same [] = refl
each-with m value same (p ∷ ps) =
    ap (λ (o : Option Bool). o >>= (λ b. each_value value (map m ps) >>= (λ bs. Some (b ∷ bs))))
    (same p)
    ∙ ap (λ (o : Option (List Bool)). value p >>= (λ b. o >>= (λ bs. Some (b ∷ bs))))
    (each-with m value same ps)

module _ (f : Span → Span) where
  is_punct-with : (c : String) (l : Leaf) → is_punct c (leaf_with f l) ≡ is_punct c l
  is_punct-with c (as_leaf.Ident i) = refl
  is_punct-with c (as_leaf.Punct p) = refl
  is_punct-with c (as_leaf.Literal l) = refl

  -- ---- lists of predicates and attributes

  cut-with : (g begun : Forest)
      → cut_at_commas (map_spans f g) (map_spans f begun)
      ≡ map (map_spans f) (cut_at_commas g begun)
  cut-with empty empty = refl
  cut-with empty (leaf l rest) = refl
  cut-with empty (group d a rest) = refl
  cut-with (leaf l rest) begun =
      ap (λ (b : Bool). if b then map_spans f begun ∷ cut_at_commas (map_spans f rest) empty
      else cut_at_commas (map_spans f rest)
      (joined (map_spans f begun) (leaf (leaf_with f l) empty))) (is_punct-with "," l)
      ∙ either-with (map (map_spans f)) (is_punct "," l)
      (begun ∷ cut_at_commas rest empty) (cut_at_commas rest (joined begun (leaf l empty))) _ _
      (ap (λ ps. map_spans f begun ∷ ps) (cut-with rest empty))
      (ap (cut_at_commas (map_spans f rest)) (sym (map_spans-joined f begun (leaf l empty)))
      ∙ cut-with rest (joined begun (leaf l empty)))
  cut-with (group d a rest) begun =
      ap (cut_at_commas (map_spans f rest)) (sym (map_spans-joined f begun (group d a empty)))
      ∙ cut-with rest (joined begun (group d a empty))

  after_name-with : (word : List ℕ) (g : Forest)
      → after_name word (map_spans f g) ≡ option_map (map_spans f) (after_name word g)
  after_name-with word empty = refl
  after_name-with word (group d a rest) = refl
  after_name-with word (leaf (as_leaf.Punct p) rest) = refl
  after_name-with word (leaf (as_leaf.Literal l) rest) = refl
  after_name-with word (leaf (as_leaf.Ident i) rest) =
      test-with f (map_spans f) (same_text i.sym word) (Some rest) _ refl

  parenthesized-with : (g : Forest)
      → parenthesized (map_spans f g) ≡ option_map (map_spans f) (parenthesized g)
  parenthesized-with empty = refl
  parenthesized-with (leaf l rest) = refl
  parenthesized-with (group d a rest) =
      ap (λ (b : Bool). same_kind d.kind Parenthesis && b >> Some (map_spans f a))
      (is_empty-with f rest)
      ∙ test-with f (map_spans f) (same_kind d.kind Parenthesis && is_empty rest) (Some a) _ refl

  list_behind-with : (word : List ℕ) (g : Forest)
      → list_behind word (map_spans f g) ≡ option_map (map_spans f) (list_behind word g)
  list_behind-with word g =
      ap (λ (o : Option Forest). o >>= parenthesized) (after_name-with word g)
      ∙ then-with f (map_spans f) parenthesized parenthesized parenthesized-with (after_name word g)

  listed-with : (word : String) (g : Forest)
      → listed word (map_spans f g) ≡ option_map (map (map_spans f)) (listed word g)
  listed-with word g =
      ap (option_map (λ inner. cut_at_commas inner empty)) (list_behind-with (codes word) g)
      ∙ go (list_behind (codes word) g)
    where
      go : (o : Option Forest)
          → option_map (λ inner. cut_at_commas inner empty) (option_map (map_spans f) o)
          ≡ option_map (map (map_spans f)) (option_map (λ inner. cut_at_commas inner empty) o)
      go None = refl
      go (Some inner) = ap Some (cut-with inner empty)

  listed_values-with : (value : Forest → Option Bool)
      → ((p : Forest) → value (map_spans f p) ≡ value p) → (word : String) (g : Forest)
      → listed_values value word (map_spans f g) ≡ listed_values value word g
  listed_values-with value same word g =
      ap (λ (o : Option (List Forest)). o >>= each_value value) (listed-with word g)
      ∙ go (listed word g)
    where
      go : (o : Option (List Forest))
          → (option_map (map (map_spans f)) o >>= each_value value) ≡ (o >>= each_value value)
      go None = refl
      go (Some ps) = each-with (map_spans f) value same ps

  constant-with : (p : Forest) → constant (map_spans f p) ≡ constant p
  constant-with empty = refl
  constant-with (group d a rest) = refl
  constant-with (leaf (as_leaf.Punct p) rest) = refl
  constant-with (leaf (as_leaf.Literal l) rest) = refl
  constant-with (leaf (as_leaf.Ident i) empty) = refl
  constant-with (leaf (as_leaf.Ident i) (leaf l rest)) = refl
  constant-with (leaf (as_leaf.Ident i) (group d a rest)) = refl

  -- ---- whole items

  ends_in_body-with : (g : Forest) (n : ℕ) (arrow : Bool)
      → ends_in_body n arrow (map_spans f g) ≡ ends_in_body n arrow g
  ends_in_body-with empty n arrow = refl
  ends_in_body-with (leaf (as_leaf.Ident i) rest) n arrow = ends_in_body-with rest n false
  ends_in_body-with (leaf (as_leaf.Punct p) rest) n arrow =
      ends_in_body-with rest (opened_after n arrow (as_leaf.Punct p)) (is_char "-" p)
  ends_in_body-with (leaf (as_leaf.Literal l) rest) n arrow = ends_in_body-with rest n false
  ends_in_body-with (group d a empty) n arrow = refl
  ends_in_body-with (group d a (leaf l rest)) n arrow = ends_in_body-with (leaf l rest) n false
  ends_in_body-with (group d a (group e b rest)) n arrow =
      ends_in_body-with (group e b rest) n false

  ends_in_semicolon-with : (g : Forest) → ends_in_semicolon (map_spans f g) ≡ ends_in_semicolon g
  ends_in_semicolon-with empty = refl
  ends_in_semicolon-with (leaf l empty) = is_punct-with ";" l
  ends_in_semicolon-with (leaf l (leaf m rest)) = ends_in_semicolon-with (leaf m rest)
  ends_in_semicolon-with (leaf l (group d a rest)) = ends_in_semicolon-with (group d a rest)
  ends_in_semicolon-with (group d a rest) = ends_in_semicolon-with rest

  word-with : (word : List ℕ) (g : Forest)
      → is_some (after_word word (map_spans f g)) ≡ is_some (after_word word g)
  word-with word g =
      ap is_some (after_word-with f word g) ∙ some-with (map_spans f) (after_word word g)

  any_word-with : (words : List String) (g : Forest)
      → list_any (λ word. is_some (after_word (codes word) (map_spans f g))) words
      ≡ list_any (λ word. is_some (after_word (codes word) g)) words
  any_word-with [] g = refl
  any_word-with (word ∷ words) g =
      ap (λ (b : Bool). b || list_any (λ w. is_some (after_word (codes w) (map_spans f g))) words)
      (word-with (codes word) g)
      ∙ ap (λ (b : Bool). is_some (after_word (codes word) g) || b) (any_word-with words g)

  begins_with-with : (words : List String) (g : Forest)
      → begins_with words (map_spans f g) ≡ begins_with words g
  begins_with-with words g = any_word-with words g

  after_qualifiers-with : (g : Forest)
      → after_qualifiers (map_spans f g) ≡ map_spans f (after_qualifiers g)
  after_qualifiers-with empty = refl
  after_qualifiers-with (group d a rest) = refl
  after_qualifiers-with (leaf (as_leaf.Punct p) rest) = refl
  after_qualifiers-with (leaf (as_leaf.Literal l) rest) = after_qualifiers-with rest
  after_qualifiers-with (leaf (as_leaf.Ident w) rest) =
      let words : List String =
      "const" ∷ "async" ∷ "unsafe" ∷ "safe" ∷ "auto" ∷ "extern" ∷ [] in
      ap (λ (b : Bool). if b then after_qualifiers (map_spans f rest)
      else map_spans f (leaf (as_leaf.Ident w) rest))
      (begins_with-with words (leaf (as_leaf.Ident w) empty))
      ∙ either-with (map_spans f) (begins_with words (leaf (as_leaf.Ident w) empty))
      (after_qualifiers rest) (leaf (as_leaf.Ident w) rest) _ _ (after_qualifiers-with rest) refl

  is_bodied-with : (g : Forest) → is_bodied (map_spans f g) ≡ is_bodied g
  is_bodied-with g =
      let words : List String =
      "fn" ∷ "struct" ∷ "enum" ∷ "union" ∷ "trait" ∷ "impl" ∷ "mod" ∷ [] in
      ap (λ (h : Forest). begins_with words h
      && (ends_in_body 0 false (map_spans f g) || ends_in_semicolon (map_spans f g)))
      (after_qualifiers-with g)
      ∙ ap (λ (b : Bool). b
      && (ends_in_body 0 false (map_spans f g) || ends_in_semicolon (map_spans f g)))
      (begins_with-with words (after_qualifiers g))
      ∙ ap (λ (b : Bool). begins_with words (after_qualifiers g)
      && (b || ends_in_semicolon (map_spans f g))) (ends_in_body-with g 0 false)
      ∙ ap (λ (b : Bool). begins_with words (after_qualifiers g)
      && (ends_in_body 0 false g || b)) (ends_in_semicolon-with g)

  -- what follows something, if that is there, or all
  behind-with : (o o' : Option Forest) (g : Forest) → o' ≡ option_map (map_spans f) o
      → unwrap_or o' (map_spans f g) ≡ map_spans f (unwrap_or o g)
  behind-with o o' g e =
      ap (λ (x : Option Forest). unwrap_or x (map_spans f g)) e ∙ unwrap_or-with f o g

  group-with : (g : Forest) → is_some (first_group (map_spans f g)) ≡ is_some (first_group g)
  group-with empty = refl
  group-with (leaf l rest) = refl
  group-with (group d a rest) = refl

  is_extern_block-with : (g : Forest) → is_extern_block (map_spans f g) ≡ is_extern_block g
  is_extern_block-with g =
      let behind : Forest = unwrap_or (after_word (codes "unsafe") g) g in
      ap (λ (h : Forest). begins_with ("extern" ∷ []) h
      && ends_in_body 0 false (after_qualifiers (map_spans f g))
      && is_some (first_group (after_qualifiers (map_spans f g))))
      (behind-with (after_word (codes "unsafe") g) _ g (after_word-with f (codes "unsafe") g))
      ∙ ap (λ (b : Bool). b && ends_in_body 0 false (after_qualifiers (map_spans f g))
      && is_some (first_group (after_qualifiers (map_spans f g))))
      (begins_with-with ("extern" ∷ []) behind)
      ∙ ap (λ (h : Forest). begins_with ("extern" ∷ []) behind && ends_in_body 0 false h
      && is_some (first_group h)) (after_qualifiers-with g)
      ∙ ap (λ (b : Bool). begins_with ("extern" ∷ []) behind && b
      && is_some (first_group (map_spans f (after_qualifiers g))))
      (ends_in_body-with (after_qualifiers g) 0 false)
      ∙ ap (λ (b : Bool). begins_with ("extern" ∷ []) behind
      && ends_in_body 0 false (after_qualifiers g) && b) (group-with (after_qualifiers g))

  is_short-with : (g : Forest) → is_short (map_spans f g) ≡ is_short g
  is_short-with g =
      let words : List String = "use" ∷ "static" ∷ "type" ∷ "const" ∷ "extern" ∷ [] in
      ap (λ (b : Bool). b && ends_in_semicolon (map_spans f g)) (begins_with-with words g)
      ∙ ap (λ (b : Bool). begins_with words g && b) (ends_in_semicolon-with g)

  second_colon-with : (first : Punct) (g : Forest)
      → (first_punct (map_spans f g)
      >>= (λ x. is_colons (record first { span = f first.span }) x.0 >> Some x.1))
      ≡ option_map (map_spans f) (first_punct g >>= (λ x. is_colons first x.0 >> Some x.1))
  second_colon-with first empty = refl
  second_colon-with first (group d a rest) = refl
  second_colon-with first (leaf (as_leaf.Ident i) rest) = refl
  second_colon-with first (leaf (as_leaf.Literal l) rest) = refl
  second_colon-with first (leaf (as_leaf.Punct second) rest) =
      test-with f (map_spans f) (is_colons first second) (Some rest) _ refl

  behind_colons-with : (g : Forest)
      → behind_colons (map_spans f g) ≡ option_map (map_spans f) (behind_colons g)
  behind_colons-with empty = refl
  behind_colons-with (group d a rest) = refl
  behind_colons-with (leaf (as_leaf.Ident i) rest) = refl
  behind_colons-with (leaf (as_leaf.Literal l) rest) = refl
  behind_colons-with (leaf (as_leaf.Punct first) rest) = second_colon-with first rest

  after_path-with : (g : Forest) → after_path (map_spans f g) ≡ map_spans f (after_path g)
  after_path-with empty = refl
  after_path-with (group d a rest) = refl
  after_path-with (leaf (as_leaf.Punct p) rest) = refl
  after_path-with (leaf (as_leaf.Literal l) rest) = refl
  after_path-with (leaf (as_leaf.Ident i) empty) = refl
  after_path-with (leaf (as_leaf.Ident i) (group d a rest)) = refl
  after_path-with (leaf (as_leaf.Ident i) (leaf (as_leaf.Ident j) rest)) = refl
  after_path-with (leaf (as_leaf.Ident i) (leaf (as_leaf.Literal l) rest)) = refl
  after_path-with (leaf (as_leaf.Ident i) (leaf (as_leaf.Punct p) empty)) = refl
  after_path-with (leaf (as_leaf.Ident i) (leaf (as_leaf.Punct p) (group d a rest))) = refl
  after_path-with (leaf (as_leaf.Ident i) (leaf (as_leaf.Punct p) (leaf (as_leaf.Ident j) rest))) =
      refl
  after_path-with
      (leaf (as_leaf.Ident i) (leaf (as_leaf.Punct p) (leaf (as_leaf.Literal l) rest))) = refl
  after_path-with
      (leaf (as_leaf.Ident i) (leaf (as_leaf.Punct p) (leaf (as_leaf.Punct q) rest))) =
      either-with (map_spans f) (is_colons p q) (after_path rest)
      (leaf (as_leaf.Ident i) (leaf (as_leaf.Punct p) (leaf (as_leaf.Punct q) rest))) _ _
      (after_path-with rest) refl

  -- what follows what a test lets through
  passed-with : {X : Type 0} (b : Bool) (o o' : Option X) (rest : X → Forest)
      → option_map rest o' ≡ option_map (map_spans f) (option_map rest o)
      → option_map rest (b >> o') ≡ option_map (map_spans f) (option_map rest (b >> o))
  passed-with true o o' rest e = e
  passed-with false o o' rest e = refl

  group_call-with : (name name' : Ident) (g : Forest)
      → option_map (λ (c : Call). c.rest) (group_call name' (map_spans f g))
      ≡ option_map (map_spans f) (option_map (λ (c : Call). c.rest) (group_call name g))
  group_call-with name name' empty = refl
  group_call-with name name' (leaf l rest) = refl
  group_call-with name name' (group d a rest) =
      passed-with (is_visible d.kind) _ _ (λ (c : Call). c.rest) refl

  after_call-with : (g : Forest)
      → after_call (map_spans f g) ≡ option_map (map_spans f) (after_call g)
  after_call-with empty = refl
  after_call-with (group d a rest) = refl
  after_call-with (leaf (as_leaf.Punct p) rest) = refl
  after_call-with (leaf (as_leaf.Literal l) rest) = refl
  after_call-with (leaf (as_leaf.Ident i) empty) = refl
  after_call-with (leaf (as_leaf.Ident i) (group d a rest)) = refl
  after_call-with (leaf (as_leaf.Ident i) (leaf (as_leaf.Ident j) rest)) = refl
  after_call-with (leaf (as_leaf.Ident i) (leaf (as_leaf.Literal l) rest)) = refl
  after_call-with (leaf (as_leaf.Ident i) (leaf (as_leaf.Punct p) rest)) =
      passed-with (is_char "!" p) (group_call i rest)
      (group_call (record i { span = f i.span }) (map_spans f rest)) (λ (c : Call). c.rest)
      (group_call-with i _ rest)

  is_end-with : (g : Forest) → is_end (map_spans f g) ≡ is_end g
  is_end-with g =
      ap (λ (b : Bool). b || is_semicolon (map_spans f g)) (is_empty-with f g)
      ∙ ap (λ (b : Bool). is_empty g || b) (is_semicolon-with f g)

  is_path_call-with : (g : Forest) → is_path_call (map_spans f g) ≡ is_path_call g
  is_path_call-with g =
      ap (λ (h : Forest). unwrap_or (option_map is_end (after_call h)) false) (after_path-with g)
      ∙ ap (λ (o : Option Forest). unwrap_or (option_map is_end o) false)
      (after_call-with (after_path g))
      ∙ go (after_call (after_path g))
    where
      go : (o : Option Forest)
          → unwrap_or (option_map is_end (option_map (map_spans f) o)) false
          ≡ unwrap_or (option_map is_end o) false
      go None = refl
      go (Some rest) = is_end-with rest

  is_whole_call-with : (g : Forest) → is_whole_call (map_spans f g) ≡ is_whole_call g
  is_whole_call-with g =
      ap is_path_call (behind-with (behind_colons g) _ g (behind_colons-with g))
      ∙ is_path_call-with (unwrap_or (behind_colons g) g)

  -- trees behind attributes and visibility
  is_item-with : (g : Forest) → is_item (map_spans f g) ≡ is_item g
  is_item-with g =
      ap (λ (b : Bool). b || (is_extern_block (map_spans f g)
      || (is_short (map_spans f g) || is_whole_call (map_spans f g)))) (is_bodied-with g)
      ∙ ap (λ (b : Bool). is_bodied g || (b
      || (is_short (map_spans f g) || is_whole_call (map_spans f g)))) (is_extern_block-with g)
      ∙ ap (λ (b : Bool). is_bodied g || (is_extern_block g
      || (b || is_whole_call (map_spans f g)))) (is_short-with g)
      ∙ ap (λ (b : Bool). is_bodied g || (is_extern_block g || (is_short g || b)))
      (is_whole_call-with g)

  pub whole-with : (piece : Forest) → is_whole_item (map_spans f piece) ≡ is_whole_item piece
  whole-with piece =
      ap is_item (ap (λ (r : Forest). unwrap_or (after_pub r) r) (after_attributes-with f piece)
      ∙ behind-with (after_pub (after_attributes piece)) _ (after_attributes piece)
      (after_pub-with f (after_attributes piece)))
      ∙ is_item-with (unwrap_or (after_pub (after_attributes piece)) (after_attributes piece))

-- ---- what attributes keep, where the text of a literal does not depend on its span

module _ (options : Options) (text : LiteralParts → Option (List ℕ))
    (same : (s : Span → Span) (l : LiteralParts) → text (record l { span = s l.span }) ≡ text l)
    (f : Span → Span) where
  option_in-with : (p : Forest) → option_in text (map_spans f p) ≡ option_in text p
  option_in-with empty = refl
  option_in-with (group d a rest) = refl
  option_in-with (leaf (as_leaf.Punct p) rest) = refl
  option_in-with (leaf (as_leaf.Literal l) rest) = refl
  option_in-with (leaf (as_leaf.Ident i) empty) = refl
  option_in-with (leaf (as_leaf.Ident i) (group d a rest)) = refl
  option_in-with (leaf (as_leaf.Ident i) (leaf (as_leaf.Ident j) rest)) = refl
  option_in-with (leaf (as_leaf.Ident i) (leaf (as_leaf.Literal l) rest)) = refl
  option_in-with (leaf (as_leaf.Ident i) (leaf (as_leaf.Punct p) empty)) = refl
  option_in-with (leaf (as_leaf.Ident i) (leaf (as_leaf.Punct p) (group d a rest))) = refl
  option_in-with (leaf (as_leaf.Ident i) (leaf (as_leaf.Punct p) (leaf (as_leaf.Ident j) rest))) =
      refl
  option_in-with (leaf (as_leaf.Ident i) (leaf (as_leaf.Punct p) (leaf (as_leaf.Punct q) rest))) =
      refl
  option_in-with
      (leaf (as_leaf.Ident i) (leaf (as_leaf.Punct p) (leaf (as_leaf.Literal l) empty))) =
      ap (λ (o : Option (List ℕ)). is_option_name i
      >> (is_char "=" p >> (o >>= (λ value. Some (i.sym, Some value))))) (same f l)
  option_in-with
      (leaf (as_leaf.Ident i) (leaf (as_leaf.Punct p) (leaf (as_leaf.Literal l) (leaf m rest)))) =
      refl
  option_in-with
      (leaf (as_leaf.Ident i)
      (leaf (as_leaf.Punct p) (leaf (as_leaf.Literal l) (group d a rest)))) = refl

  option_value-with : (p : Forest)
      → option_value options text (map_spans f p) ≡ option_value options text p
  option_value-with p =
      ap (λ (o : Option Bool). or_else o
      (option_map (λ option. options option.0 option.1) (option_in text (map_spans f p))))
      (constant-with f p)
      ∙ ap (λ (o : Option (List ℕ × Option (List ℕ))). or_else (constant p)
      (option_map (λ option. options option.0 option.1) o)) (option_in-with p)

  value_within-with : (n : ℕ) (p : Forest)
      → value_within options text n (map_spans f p) ≡ value_within options text n p
  value_within-with zero p = refl
  value_within-with (suc n) p =
      let value : Forest → Option Bool = value_within options text n in
      let of_all : List Bool → Bool = list_all (λ b. b) in
      let of_any : List Bool → Bool = list_any (λ b. b) in
      let values : String → Forest → Option (List Bool) = listed_values value in
      let there : Forest = map_spans f p in
      ap (λ (o : Option Bool). or_else o (or_else (option_map of_all (values "all" there))
      (or_else (option_map of_any (values "any" there)) (values "not" there >>= negated))))
      (option_value-with p)
      ∙ ap (λ (o : Option (List Bool)). or_else (option_value options text p)
      (or_else (option_map of_all o)
      (or_else (option_map of_any (values "any" there)) (values "not" there >>= negated))))
      (listed_values-with f value (value_within-with n) "all" p)
      ∙ ap (λ (o : Option (List Bool)). or_else (option_value options text p)
      (or_else (option_map of_all (values "all" p))
      (or_else (option_map of_any o) (values "not" there >>= negated))))
      (listed_values-with f value (value_within-with n) "any" p)
      ∙ ap (λ (o : Option (List Bool)). or_else (option_value options text p)
      (or_else (option_map of_all (values "all" p))
      (or_else (option_map of_any (values "any" p)) (o >>= negated))))
      (listed_values-with f value (value_within-with n) "not" p)

  predicate_value-with : (p : Forest)
      → predicate_value options text (map_spans f p) ≡ predicate_value options text p
  predicate_value-with p =
      ap (λ (n : ℕ). value_within options text (suc n) (map_spans f p)) (size-map_spans f p)
      ∙ value_within-with (suc (size p)) p

  cfg_keeps-with : (o : Option (List Forest))
      → cfg_keeps options text (option_map (map (map_spans f)) o) ≡ cfg_keeps options text o
  cfg_keeps-with None = refl
  cfg_keeps-with (Some []) = refl
  cfg_keeps-with (Some (p ∷ [])) =
      ap (λ (b : Option Bool). unwrap_or b true) (predicate_value-with p)
  cfg_keeps-with (Some (p ∷ (q ∷ ps))) = refl

  cfg_attr_keeps-with : (keeps : Forest → Bool)
      → ((a : Forest) → keeps (map_spans f a) ≡ keeps a) → (o : Option (List Forest))
      → cfg_attr_keeps options text keeps (option_map (map (map_spans f)) o)
      ≡ cfg_attr_keeps options text keeps o
  cfg_attr_keeps-with keeps same_kept None = refl
  cfg_attr_keeps-with keeps same_kept (Some []) = refl
  cfg_attr_keeps-with keeps same_kept (Some (p ∷ attributes)) =
      ap (λ (b : Option Bool). not (unwrap_or b false)
      || list_all keeps (map (map_spans f) attributes)) (predicate_value-with p)
      ∙ ap (λ (b : Bool). not (unwrap_or (predicate_value options text p) false) || b)
      (all-with (map_spans f) keeps same_kept attributes)

  attribute_keeps-with : (n : ℕ) (a : Forest)
      → attribute_keeps options text n (map_spans f a) ≡ attribute_keeps options text n a
  attribute_keeps-with zero a = refl
  attribute_keeps-with (suc n) a =
      let keeps : Forest → Bool = attribute_keeps options text n in
      ap (λ (o : Option (List Forest)). cfg_keeps options text o
      && cfg_attr_keeps options text keeps (listed "cfg_attr" (map_spans f a)))
      (listed-with f "cfg" a)
      ∙ ap (λ (b : Bool). b
      && cfg_attr_keeps options text keeps (listed "cfg_attr" (map_spans f a)))
      (cfg_keeps-with (listed "cfg" a))
      ∙ ap (λ (o : Option (List Forest)). cfg_keeps options text (listed "cfg" a)
      && cfg_attr_keeps options text keeps o) (listed-with f "cfg_attr" a)
      ∙ ap (λ (b : Bool). cfg_keeps options text (listed "cfg" a) && b)
      (cfg_attr_keeps-with keeps (attribute_keeps-with n) (listed "cfg_attr" a))

  -- an attribute, by all that is in its brackets
  brackets-with : (a : Forest)
      → attribute_keeps options text (suc (size (map_spans f a))) (map_spans f a)
      ≡ attribute_keeps options text (suc (size a)) a
  brackets-with a =
      ap (λ (n : ℕ). attribute_keeps options text (suc n) (map_spans f a)) (size-map_spans f a)
      ∙ attribute_keeps-with (suc (size a)) a

  pub kept-with : (piece : Forest)
      → is_kept options text (map_spans f piece) ≡ is_kept options text piece
  kept-with empty = refl
  kept-with (group d a rest) = refl
  kept-with (leaf (as_leaf.Ident i) rest) = refl
  kept-with (leaf (as_leaf.Literal l) rest) = refl
  kept-with (leaf (as_leaf.Punct p) empty) = refl
  kept-with (leaf (as_leaf.Punct p) (leaf l rest)) = refl
  kept-with (leaf (as_leaf.Punct p) (group d a rest)) =
      ap (λ (b : Bool). not (is_char "#" p && same_kind d.kind Bracket)
      || (b && is_kept options text (map_spans f rest))) (brackets-with a)
      ∙ ap (λ (b : Bool). not (is_char "#" p && same_kind d.kind Bracket)
      || (attribute_keeps options text (suc (size a)) a && b)) (kept-with rest)

  pub left_out-with : (items : Bool) (piece : Forest)
      → is_configured_out options text items (map_spans f piece)
      ≡ is_configured_out options text items piece
  left_out-with items piece =
      ap (λ (b : Bool). not b && (is_some (definition_of (map_spans f piece))
      || (items && is_whole_item (map_spans f piece)))) (kept-with piece)
      ∙ ap (λ (b : Bool). not (is_kept options text piece)
      && (b || (items && is_whole_item (map_spans f piece))))
      (ap is_some (definition_of-with f piece)
      ∙ some-with (definition_with f) (definition_of piece))
      ∙ ap (λ (b : Bool). not (is_kept options text piece)
      && (is_some (definition_of piece) || (items && b))) (whole-with f piece)
