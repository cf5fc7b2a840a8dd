-- Modules and pieces: at other spans, and as parts of the trees that they are in.
use Rattle.std.proofs.Common.{◌≡◌, ℕ, Bool, true, false, cond, List, ◌∷◌, map, Option, Some, None, option_map, unwrap_or, refl, ap, sym, subst, ◌∙◌, if◌then◌else◌}
use Rattle.std.specs.Prelude.{◌&&◌, ◌||◌, codes, is_some}
use Prim.Native.String.{String}
use Rattle.small_grammar.specs.Text.{has_text, ◌>>=◌, ◌>>◌, is_empty}
use Rattle.tt.specs.Building.{alone}
use Rattle.tt.specs.FirstTrees.{first_ident, first_group}
use Rattle.tt_data.proofs.ForestLemmas.{map_spans-joined}
use Rattle.tt_data.specs.Forest.{Forest, empty, leaf, group, joined, map_spans}
use Rattle.tt_data.specs.Spans.{delimiter_with, leaf_with}
use Rattle.tt_data.specs.declared.delimiter.Delimiter.{Delimiter}
use Rattle.tt_data.specs.declared.delimiter.DelimiterKind.TheVariants.{Brace, Bracket, Parenthesis}
use Rattle.tt_data.specs.declared.leaf.Ident.{Ident}
use Rattle.tt_data.specs.declared.leaf.Leaf.{Leaf}
use Rattle.tt_data.specs.declared.leaf.Leaf.TheVariants as as_leaf
use Rattle.tt_data.specs.declared.span.Span.{Span}
use Rattle.bridge.specs.Text.{is_char, is_punct, same_kind}
use Rattle.expander_model.specs.Definitions.{after_attributes, after_parenthesis, after_pub, after_word, has_attribute}
use Rattle.expander_model.specs.Pieces.{cut, cut_from, ends_piece, is_pound_bang, pieces, put_together, separated}
use Rattle.expander_model.proofs.DefinitionPlaceLemmas.{after_attributes-with, after_pub-with, after_word-with, is_empty-with, test-with, then-with, unwrap_or-with}
use Rattle.expander_model.proofs.SplittingLemmas.{put_together-cut}
use Rattle.expander_sources.specs.Sources.{is_public, module_of}

-- what stands behind the name of a module, and behind its `mod`
abbrev braces_at : Ident → Forest → Option (Ident × Forest)
braces_at name g = first_group g >>= (λ x. (same_kind x.0.kind Brace && is_empty x.2) >> Some (name, x.1))

abbrev module_behind : Forest → Option (Ident × Forest)
module_behind g = first_ident g >>= (λ y. braces_at y.0 y.1)

-- ---- other spans

module _ (f : Span → Span) where
  punct_with : (c : String) (l : Leaf) → is_punct c (leaf_with f l) ≡ is_punct c l
  punct_with c (as_leaf.Ident i) = refl
  punct_with c (as_leaf.Punct p) = refl
  punct_with c (as_leaf.Literal l) = refl

  pound_bang_with : (g : Forest) → is_pound_bang (map_spans f g) ≡ is_pound_bang g
  pound_bang_with empty = refl
  pound_bang_with (leaf l empty) = refl
  pound_bang_with (leaf l (leaf m empty)) = rw (punct_with "#" l, punct_with "!" m) refl
  pound_bang_with (leaf l (leaf m (leaf n rest))) = refl
  pound_bang_with (leaf l (leaf m (group d inner rest))) = refl
  pound_bang_with (leaf l (group d inner rest)) = refl
  pound_bang_with (group d inner rest) = refl

  ends_with : (begun : Forest) (d : Delimiter) → ends_piece (map_spans f begun) (delimiter_with f d) ≡ ends_piece begun d
  ends_with begun d = ap (λ (b : Bool). same_kind d.kind Brace || (same_kind d.kind Bracket && b)) (pound_bang_with begun)

  cut_or : (b : Bool) (p : Forest) (xs ys : List Forest) → (if b then map_spans f p ∷ map (map_spans f) xs else map (map_spans f) ys) ≡ map (map_spans f) (if b then p ∷ xs else ys)
  cut_or true p xs ys = refl
  cut_or false p xs ys = refl

  cut_from-with : (g begun : Forest) → cut_from (map_spans f g) (map_spans f begun) ≡ map (map_spans f) (cut_from g begun)
  cut_from-with empty empty = refl
  cut_from-with empty (leaf l begun) = refl
  cut_from-with empty (group d inner begun) = refl
  cut_from-with (leaf l rest) begun =
      let with : Forest = joined (map_spans f begun) (leaf (leaf_with f l) empty) in
      let same : map_spans f (joined begun (leaf l empty)) ≡ with = map_spans-joined f begun (leaf l empty) in
      ap (λ (b : Bool). if b then with ∷ cut_from (map_spans f rest) empty else cut_from (map_spans f rest) with) (punct_with ";" l)
      ∙ ap (λ (w : Forest). if is_punct ";" l then w ∷ cut_from (map_spans f rest) empty else cut_from (map_spans f rest) w) (sym same)
      ∙ ap (λ (xs : List Forest). if is_punct ";" l then map_spans f (joined begun (leaf l empty)) ∷ xs else cut_from (map_spans f rest) (map_spans f (joined begun (leaf l empty)))) (cut_from-with rest empty)
      ∙ ap (λ (ys : List Forest). if is_punct ";" l then map_spans f (joined begun (leaf l empty)) ∷ map (map_spans f) (cut_from rest empty) else ys) (cut_from-with rest (joined begun (leaf l empty)))
      ∙ cut_or (is_punct ";" l) (joined begun (leaf l empty)) (cut_from rest empty) (cut_from rest (joined begun (leaf l empty)))
  cut_from-with (group d inner rest) begun =
      let one : Forest = group d inner empty in
      let with : Forest = joined (map_spans f begun) (map_spans f one) in
      let same : map_spans f (joined begun one) ≡ with = map_spans-joined f begun one in
      ap (λ (b : Bool). if b then with ∷ cut_from (map_spans f rest) empty else cut_from (map_spans f rest) with) (ends_with begun d)
      ∙ ap (λ (w : Forest). if ends_piece begun d then w ∷ cut_from (map_spans f rest) empty else cut_from (map_spans f rest) w) (sym same)
      ∙ ap (λ (xs : List Forest). if ends_piece begun d then map_spans f (joined begun one) ∷ xs else cut_from (map_spans f rest) (map_spans f (joined begun one))) (cut_from-with rest empty)
      ∙ ap (λ (ys : List Forest). if ends_piece begun d then map_spans f (joined begun one) ∷ map (map_spans f) (cut_from rest empty) else ys) (cut_from-with rest (joined begun one))
      ∙ cut_or (ends_piece begun d) (joined begun one) (cut_from rest empty) (cut_from rest (joined begun one))

  -- the pieces of trees elsewhere are their pieces elsewhere
  pub cut-with : (g : Forest) → cut (map_spans f g) ≡ map (map_spans f) (cut g)
  cut-with g = cut_from-with g empty

  abbrev pub named_with : (Ident × Forest) → Ident × Forest
  named_with m = (record m.0 { span = f m.0.span }, map_spans f m.1)

  braces_with : (name : Ident) (g : Forest) → braces_at (record name { span = f name.span }) (map_spans f g) ≡ option_map named_with (braces_at name g)
  braces_with name empty = refl
  braces_with name (leaf l rest) = refl
  braces_with name (group d a rest) =
      ap (λ (b : Bool). (same_kind d.kind Brace && b) >> Some (record name { span = f name.span }, map_spans f a)) (is_empty-with f rest)
      ∙ test-with f named_with (same_kind d.kind Brace && is_empty rest) _ _ refl

  behind_with : (g : Forest) → module_behind (map_spans f g) ≡ option_map named_with (module_behind g)
  behind_with empty = refl
  behind_with (group d a rest) = refl
  behind_with (leaf (as_leaf.Punct p) rest) = refl
  behind_with (leaf (as_leaf.Literal p) rest) = refl
  behind_with (leaf (as_leaf.Ident name) rest) = braces_with name rest

  -- so is the module that a piece is
  pub module_of-with : (p : Forest) → module_of (map_spans f p) ≡ option_map named_with (module_of p)
  module_of-with p =
      let rest : Forest = after_attributes p in
      ap (λ (r : Forest). after_word (codes "mod") (unwrap_or (after_pub r) r) >>= module_behind) (after_attributes-with f p)
      ∙ ap (λ (o : Option Forest). after_word (codes "mod") (unwrap_or o (map_spans f rest)) >>= module_behind) (after_pub-with f rest)
      ∙ ap (λ (r : Forest). after_word (codes "mod") r >>= module_behind) (unwrap_or-with f (after_pub rest) rest)
      ∙ ap (λ (o : Option Forest). o >>= module_behind) (after_word-with f (codes "mod") (unwrap_or (after_pub rest) rest))
      ∙ then-with f named_with module_behind module_behind behind_with (after_word (codes "mod") (unwrap_or (after_pub rest) rest))

  is_some_with : {X Y : Type 0} (m : X → Y) (o : Option X) → is_some (option_map m o) ≡ is_some o
  is_some_with m None = refl
  is_some_with m (Some x) = refl

  pub has_attribute-with : (word : List ℕ) (p : Forest) → has_attribute word (map_spans f p) ≡ has_attribute word p
  has_attribute-with word empty = refl
  has_attribute-with word (group d a rest) = refl
  has_attribute-with word (leaf (as_leaf.Ident i) rest) = refl
  has_attribute-with word (leaf (as_leaf.Literal l) rest) = refl
  has_attribute-with word (leaf (as_leaf.Punct p) empty) = refl
  has_attribute-with word (leaf (as_leaf.Punct p) (leaf l rest)) = refl
  has_attribute-with word (leaf (as_leaf.Punct p) (group d a rest)) =
      ap (λ (b : Bool). (is_char "#" p && same_kind d.kind Bracket) && (b || has_attribute word (map_spans f rest)))
      (ap is_some (after_word-with f word a) ∙ is_some_with (map_spans f) (after_word word a))
      ∙ ap (λ (b : Bool). (is_char "#" p && same_kind d.kind Bracket) && (is_some (after_word word a) || b)) (has_attribute-with word rest)

  pub is_public-with : (p : Forest) → is_public (map_spans f p) ≡ is_public p
  is_public-with p =
      ap (λ (r : Forest). is_some (after_word (codes "pub") r)) (after_attributes-with f p)
      ∙ ap is_some (after_word-with f (codes "pub") (after_attributes p))
      ∙ is_some_with (map_spans f) (after_word (codes "pub") (after_attributes p))

-- ---- parts

-- what passes from trees to those behind the first of them, and to those in a group
pub record Passes (Q : Forest → Type 0) : Type 0 where
  pub behind_leaf : (l : Leaf) (rest : Forest) → Q (leaf l rest) → Q rest
  pub behind_group : (d : Delimiter) (inner rest : Forest) → Q (group d inner rest) → Q rest
  pub in_group : (d : Delimiter) (inner rest : Forest) → Q (group d inner rest) → Q inner

module _ (Q : Forest → Type 0) (passes : Passes Q) where
  attributes_pass : (f : Forest) → Q f → Q (after_attributes f)
  attributes_pass empty h = h
  attributes_pass (group d a rest) h = h
  attributes_pass (leaf (as_leaf.Ident i) rest) h = h
  attributes_pass (leaf (as_leaf.Literal i) rest) h = h
  attributes_pass (leaf (as_leaf.Punct p) empty) h = h
  attributes_pass (leaf (as_leaf.Punct p) (leaf l rest)) h = h
  attributes_pass (leaf (as_leaf.Punct p) (group d a rest)) h =
      go (is_char "#" p && same_kind d.kind Bracket)
      (attributes_pass rest (passes.behind_group d a rest (passes.behind_leaf (as_leaf.Punct p) (group d a rest) h)))
    where
      go : (b : Bool) → Q (after_attributes rest) → Q (cond b (after_attributes rest) (leaf (as_leaf.Punct p) (group d a rest)))
      go true k = k
      go false k = h

  abbrev OfSome : Option Forest → Type 0
  OfSome None = Unit {0}
  OfSome (Some f) = Q f

  word_pass : (word : List ℕ) (f : Forest) → Q f → OfSome (after_word word f)
  word_pass word empty h = tt
  word_pass word (group d a rest) h = tt
  word_pass word (leaf (as_leaf.Punct p) rest) h = tt
  word_pass word (leaf (as_leaf.Literal p) rest) h = tt
  word_pass word (leaf (as_leaf.Ident w) rest) h = go (has_text word w)
    where
      go : (b : Bool) → OfSome (b >> Some rest)
      go true = passes.behind_leaf (as_leaf.Ident w) rest h
      go false = tt

  parenthesis_pass : (f : Forest) → Q f → Q (unwrap_or (after_parenthesis f) f)
  parenthesis_pass empty h = h
  parenthesis_pass (leaf l rest) h = h
  parenthesis_pass (group d a rest) h = go (same_kind d.kind Parenthesis)
    where
      go : (b : Bool) → Q (unwrap_or (b >> Some rest) (group d a rest))
      go true = passes.behind_group d a rest h
      go false = h

  pub_pass : (f : Forest) → Q f → Q (unwrap_or (after_pub f) f)
  pub_pass f h = go (after_word (codes "pub") f) (word_pass (codes "pub") f h)
    where
      go : (o : Option Forest) → OfSome o → Q (unwrap_or (o >>= (λ r. Some (unwrap_or (after_parenthesis r) r))) f)
      go None k = h
      go (Some r) k = parenthesis_pass r k

  pub module_passes : (p : Forest) (name : Ident) (inner : Forest) → module_of p ≡ Some (name, inner) → Q p → Q inner
  module_passes p name inner e h =
      go (after_word (codes "mod") g) (word_pass (codes "mod") g (pub_pass (after_attributes p) (attributes_pass p h))) e
    where
      g : Forest
      g = unwrap_or (after_pub (after_attributes p)) (after_attributes p)

      braces : (n : Ident) (f : Forest) → Q f → braces_at n f ≡ Some (name, inner) → Q inner
      braces n empty k e = cc
      braces n (leaf l rest) k e = cc
      braces n (group d a rest) k e = pick (same_kind d.kind Brace && is_empty rest) e
        where
          pick : (b : Bool) → ◌>>◌ {B = Ident × Forest} b (Some (n, a)) ≡ Some (name, inner) → Q inner
          pick true e = subst Q (ap (λ (o : Option (Ident × Forest)). (unwrap_or o (n, a)).1) e) (passes.in_group d a rest k)
          pick false e = cc

      named : (f : Forest) → Q f → module_behind f ≡ Some (name, inner) → Q inner
      named empty k e = cc
      named (group d a rest) k e = cc
      named (leaf (as_leaf.Punct p) rest) k e = cc
      named (leaf (as_leaf.Literal p) rest) k e = cc
      named (leaf (as_leaf.Ident n) rest) k e = braces n rest (passes.behind_leaf (as_leaf.Ident n) rest k) e

      go : (o : Option Forest) → OfSome o → (o >>= module_behind) ≡ Some (name, inner) → Q inner
      go None k e = cc
      go (Some f) k e = named f k e

-- a piece that is cut off, and what is left behind it
pub cut_parts : (old piece new : Forest) → cut old ≡ piece ∷ cut new → old ≡ joined piece new
cut_parts old piece new e =
    sym (put_together-cut old) ∙ ap put_together e ∙ ap (joined piece) (put_together-cut new)

-- ---- each `;` that stands alone, at other spans

alone_with : (f : Span → Span) (b : Bool) (l : Leaf) → (if b then alone (leaf_with f l) else leaf_with f l) ≡ leaf_with f (if b then alone l else l)
alone_with f true (as_leaf.Ident i) = refl
alone_with f true (as_leaf.Punct p) = refl
alone_with f true (as_leaf.Literal l) = refl
alone_with f false l = refl

separated-with : (f : Span → Span) (g : Forest) → separated (map_spans f g) ≡ map_spans f (separated g)
separated-with f empty = refl
separated-with f (leaf l rest) =
    ap (λ (b : Bool). leaf (if b then alone (leaf_with f l) else leaf_with f l) (separated (map_spans f rest))) (punct_with f ";" l)
    ∙ ap (λ (m : Leaf). leaf m (separated (map_spans f rest))) (alone_with f (is_punct ";" l) l)
    ∙ ap (leaf (leaf_with f (if is_punct ";" l then alone l else l))) (separated-with f rest)
separated-with f (group d a rest) = ap (group (delimiter_with f d) (map_spans f a)) (separated-with f rest)

-- the pieces of a text elsewhere
pub pieces-with : (f : Span → Span) (g : Forest) → pieces (map_spans f g) ≡ map (map_spans f) (pieces g)
pieces-with f g = ap cut (separated-with f g) ∙ cut-with f (separated g)
