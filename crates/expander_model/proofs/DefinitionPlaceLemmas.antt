-- Definitions with other spans.
use Rattle.std.proofs.Common.{◌≡◌, ℕ, Bool, true, false, cond, List, Option, Some, None, refl, ap, sym, ◌∙◌, option_map, unwrap_or}
use Rattle.std.specs.Prelude.{◌&&◌, ◌||◌, codes, is_some}
use Rattle.tt.specs.FirstTrees.{first_ident, first_punct, first_group}
use Rattle.tt_data.specs.Forest.{Forest, empty, leaf, group, map_spans}
use Rattle.tt_data.specs.Spans.{delimiter_with}
use Rattle.tt_data.proofs.ForestLemmas.{map_spans-map_spans, map_spans-same}
use Rattle.tt_data.specs.declared.delimiter.Delimiter.{Delimiter}
use Rattle.tt_data.specs.declared.delimiter.DelimiterKind.TheVariants.{Parenthesis, Brace, Bracket}
use Rattle.tt_data.specs.declared.leaf.Ident.{Ident}
use Rattle.tt_data.specs.declared.leaf.Leaf.TheVariants as as_leaf
use Rattle.tt_data.specs.declared.span.Span.{Span}
use Rattle.bridge.specs.Text.{same_kind, is_char}
use Rattle.expander_model.specs.Definitions.{Definition, after_attributes, after_macro_rules, after_parenthesis, after_pub, after_word, is_semicolon, ends_definition, macro_rules_of, macro_body, macro_of, definition_of}
use Rattle.cfg_options.specs.Conditions.{or_else}
use Rattle.expander_model.specs.OtherPlaces.{definition_with}
use Rattle.cfg_options.specs.small_grammar.Text.{has_text, ◌>>=◌, ◌>>◌, is_empty}

-- no change
pub definition_with-same : (d : Definition) → definition_with (λ s. s) d ≡ d
definition_with-same d = λ i. record {
  name = d.name;
  arguments = same d.arguments i;
  body = map_spans-same d.body i;
  is_macro = d.is_macro;
  piece = map_spans-same d.piece i;
}
  where
    same : (a : Option Forest) → option_map (map_spans (λ s. s)) a ≡ a
    same None = refl
    same (Some x) = ap Some (map_spans-same x)

-- one change after another
pub definition_with-with : (f g : Span → Span) (d : Definition) → definition_with f (definition_with g d) ≡ definition_with (λ s. f (g s)) d
definition_with-with f g d = λ i. record {
  name = record d.name { span = f (g d.name.span) };
  arguments = twice d.arguments i;
  body = map_spans-map_spans f g d.body i;
  is_macro = d.is_macro;
  piece = map_spans-map_spans f g d.piece i;
}
  where
    twice : (a : Option Forest) → option_map (map_spans f) (option_map (map_spans g) a) ≡ option_map (map_spans (λ s. f (g s))) a
    twice None = refl
    twice (Some x) = ap Some (map_spans-map_spans f g x)

module _ (f : Span → Span) where
  pub is_empty-with : (g : Forest) → is_empty (map_spans f g) ≡ is_empty g
  is_empty-with empty = refl
  is_empty-with (leaf l rest) = refl
  is_empty-with (group d a rest) = refl

  pub after_attributes-with : (g : Forest) → after_attributes (map_spans f g) ≡ map_spans f (after_attributes g)
  after_attributes-with empty = refl
  after_attributes-with (group d a rest) = refl
  after_attributes-with (leaf (as_leaf.Ident i) rest) = refl
  after_attributes-with (leaf (as_leaf.Literal i) rest) = refl
  after_attributes-with (leaf (as_leaf.Punct p) empty) = refl
  after_attributes-with (leaf (as_leaf.Punct p) (leaf l rest)) = refl
  after_attributes-with (leaf (as_leaf.Punct p) (group d a rest)) = go (is_char "#" p && same_kind d.kind Bracket) (after_attributes-with rest)
    where
      go : (b : Bool) → after_attributes (map_spans f rest) ≡ map_spans f (after_attributes rest)
          → cond b (after_attributes (map_spans f rest)) (map_spans f (leaf (as_leaf.Punct p) (group d a rest)))
          ≡ map_spans f (cond b (after_attributes rest) (leaf (as_leaf.Punct p) (group d a rest)))
      go true e = e
      go false e = refl

  pub test-with : {X Y : Type 0} (m : X → Y) (b : Bool) (x : Option X) (y : Option Y) → y ≡ option_map m x → (b >> y) ≡ option_map m (b >> x)
  test-with m true x y e = e
  test-with m false x y e = refl

  pub after_parenthesis-with : (g : Forest) → after_parenthesis (map_spans f g) ≡ option_map (map_spans f) (after_parenthesis g)
  after_parenthesis-with empty = refl
  after_parenthesis-with (leaf l rest) = refl
  after_parenthesis-with (group d a rest) = test-with (map_spans f) (same_kind d.kind Parenthesis) (Some rest) _ refl

  pub unwrap_or-with : (o : Option Forest) (g : Forest) → unwrap_or (option_map (map_spans f) o) (map_spans f g) ≡ map_spans f (unwrap_or o g)
  unwrap_or-with None g = refl
  unwrap_or-with (Some x) g = refl

  -- a reading goes on behind what was read
  pub then-with : {X Y : Type 0} (m : X → Y) (k : Forest → Option X) (k' : Forest → Option Y) → ((g : Forest) → k' (map_spans f g) ≡ option_map m (k g))
      → (o : Option Forest) → (option_map (map_spans f) o >>= k') ≡ option_map m (o >>= k)
  then-with m k k' same None = refl
  then-with m k k' same (Some g) = same g

  pub after_word-with : (word : List ℕ) (g : Forest) → after_word word (map_spans f g) ≡ option_map (map_spans f) (after_word word g)
  after_word-with word empty = refl
  after_word-with word (group d a rest) = refl
  after_word-with word (leaf (as_leaf.Punct p) rest) = refl
  after_word-with word (leaf (as_leaf.Literal p) rest) = refl
  after_word-with word (leaf (as_leaf.Ident w) rest) = test-with (map_spans f) (has_text word w) (Some rest) _ refl

  pub after_pub-with : (g : Forest) → after_pub (map_spans f g) ≡ option_map (map_spans f) (after_pub g)
  after_pub-with g =
      ap (λ (o : Option Forest). o >>= (λ r. Some (unwrap_or (after_parenthesis r) r))) (after_word-with (codes "pub") g)
      ∙ then-with (map_spans f) (λ r. Some (unwrap_or (after_parenthesis r) r)) (λ r. Some (unwrap_or (after_parenthesis r) r))
      (λ r. ap Some (ap (λ (o : Option Forest). unwrap_or o (map_spans f r)) (after_parenthesis-with r) ∙ unwrap_or-with (after_parenthesis r) r))
      (after_word (codes "pub") g)

  pub is_semicolon-with : (g : Forest) → is_semicolon (map_spans f g) ≡ is_semicolon g
  is_semicolon-with empty = refl
  is_semicolon-with (group d a rest) = refl
  is_semicolon-with (leaf (as_leaf.Ident p) rest) = refl
  is_semicolon-with (leaf (as_leaf.Literal p) rest) = refl
  is_semicolon-with (leaf (as_leaf.Punct p) empty) = go (is_char ";" p)
    where
      go : (b : Bool) → is_some (b >> Some (record p { span = f p.span })) ≡ is_some (b >> Some p)
      go true = refl
      go false = refl
  is_semicolon-with (leaf (as_leaf.Punct p) (leaf l rest)) = go (is_char ";" p)
    where
      go : (b : Bool) → is_some (b >> (false >> Some (record p { span = f p.span }))) ≡ is_some (b >> (false >> Some p))
      go true = refl
      go false = refl
  is_semicolon-with (leaf (as_leaf.Punct p) (group d a rest)) = go (is_char ";" p)
    where
      go : (b : Bool) → is_some (b >> (false >> Some (record p { span = f p.span }))) ≡ is_some (b >> (false >> Some p))
      go true = refl
      go false = refl

  ends_definition-with : (d : Delimiter) (g : Forest) → ends_definition (delimiter_with f d) (map_spans f g) ≡ ends_definition d g
  ends_definition-with d g =
      ap (λ (b : Bool). (same_kind d.kind Brace && b) || ((same_kind d.kind Parenthesis || same_kind d.kind Bracket) && is_semicolon (map_spans f g))) (is_empty-with g)
      ∙ ap (λ (b : Bool). (same_kind d.kind Brace && is_empty g) || ((same_kind d.kind Parenthesis || same_kind d.kind Bracket) && b)) (is_semicolon-with g)

  -- what stands after `macro_rules`, after `!`, and after the name
  after_name-with : (piece : Forest) (name : Ident) (g : Forest)
      → (first_group (map_spans f g) >>= (λ x. ends_definition x.0 x.2 >> Some (record { name = record name { span = f name.span }; arguments = None; body = x.1; is_macro = false; piece = map_spans f piece })))
      ≡ option_map (definition_with f) (first_group g >>= (λ x. ends_definition x.0 x.2 >> Some (record { name = name; arguments = None; body = x.1; is_macro = false; piece = piece })))
  after_name-with piece name empty = refl
  after_name-with piece name (leaf l rest) = refl
  after_name-with piece name (group d a rest) =
      ap (λ (b : Bool). b >> Some (record { name = record name { span = f name.span }; arguments = None; body = map_spans f a; is_macro = false; piece = map_spans f piece })) (ends_definition-with d rest)
      ∙ test-with (definition_with f) (ends_definition d rest) _ _ refl

  after_bang-with : (piece : Forest) (g : Forest)
      → (first_ident (map_spans f g) >>= (λ y. first_group y.1 >>= (λ x. ends_definition x.0 x.2 >> Some (record { name = y.0; arguments = None; body = x.1; is_macro = false; piece = map_spans f piece }))))
      ≡ option_map (definition_with f) (first_ident g >>= (λ y. first_group y.1 >>= (λ x. ends_definition x.0 x.2 >> Some (record { name = y.0; arguments = None; body = x.1; is_macro = false; piece = piece }))))
  after_bang-with piece empty = refl
  after_bang-with piece (group d a rest) = refl
  after_bang-with piece (leaf (as_leaf.Punct p) rest) = refl
  after_bang-with piece (leaf (as_leaf.Literal p) rest) = refl
  after_bang-with piece (leaf (as_leaf.Ident name) rest) = after_name-with piece name rest

  abbrev bang_in : Forest → Option Forest
  bang_in g = first_punct g >>= (λ z. is_char "!" z.0 >> Some z.1)

  bang_in-with : (g : Forest) → bang_in (map_spans f g) ≡ option_map (map_spans f) (bang_in g)
  bang_in-with empty = refl
  bang_in-with (group d a rest) = refl
  bang_in-with (leaf (as_leaf.Ident p) rest) = refl
  bang_in-with (leaf (as_leaf.Literal p) rest) = refl
  bang_in-with (leaf (as_leaf.Punct p) rest) = test-with (map_spans f) (is_char "!" p) (Some rest) _ refl

  after_macro_rules-with : (g : Forest) → after_macro_rules (map_spans f g) ≡ option_map (map_spans f) (after_macro_rules g)
  after_macro_rules-with g =
      ap (λ (o : Option Forest). o >>= bang_in) (after_word-with (codes "macro_rules") g)
      ∙ then-with (map_spans f) bang_in bang_in bang_in-with (after_word (codes "macro_rules") g)

  abbrev rules_named : Forest → Forest → Option Definition
  rules_named piece g =
      first_ident g >>= (λ y. first_group y.1 >>= (λ x. ends_definition x.0 x.2 >> Some (record { name = y.0; arguments = None; body = x.1; is_macro = false; piece = piece })))

  macro_rules_of-with : (piece g : Forest) → macro_rules_of (map_spans f piece) (map_spans f g) ≡ option_map (definition_with f) (macro_rules_of piece g)
  macro_rules_of-with piece g =
      ap (λ (o : Option Forest). o >>= rules_named (map_spans f piece)) (after_macro_rules-with g)
      ∙ then-with (definition_with f) (rules_named piece) (rules_named (map_spans f piece)) (after_bang-with piece) (after_macro_rules g)

  abbrev body_with : (Option Forest × Forest) → Option Forest × Forest
  body_with b = (option_map (map_spans f) b.0, map_spans f b.1)

  macro_body-with : (g : Forest) → macro_body (map_spans f g) ≡ option_map body_with (macro_body g)
  macro_body-with empty = refl
  macro_body-with (leaf l rest) = refl
  macro_body-with (group d a empty) = test-with body_with (same_kind d.kind Brace) _ _ refl
  macro_body-with (group d a (leaf l rest)) = test-with body_with (same_kind d.kind Parenthesis) _ _ refl
  macro_body-with (group d a (group e b rest)) = test-with body_with (same_kind d.kind Parenthesis) _ _
      (ap (λ (t : Bool). (same_kind e.kind Brace && t) >> Some (Some (map_spans f a), map_spans f b)) (is_empty-with rest)
      ∙ test-with body_with (same_kind e.kind Brace && is_empty rest) _ _ refl)

  abbrev macro_named : Forest → Forest → Option Definition
  macro_named piece g =
      first_ident g >>= (λ y. macro_body y.1 >>= (λ x. Some (record { name = y.0; arguments = x.0; body = x.1; is_macro = true; piece = piece })))

  macro_of-with : (piece g : Forest) → macro_of (map_spans f piece) (map_spans f g) ≡ option_map (definition_with f) (macro_of piece g)
  macro_of-with piece g =
      ap (λ (o : Option Forest). o >>= macro_named (map_spans f piece)) (after_word-with (codes "macro") g)
      ∙ then-with (definition_with f) (macro_named piece) (macro_named (map_spans f piece)) named (after_word (codes "macro") g)
    where
      whole : (name : Ident) (b : Option (Option Forest × Forest))
          → (option_map body_with b >>= (λ x. Some (record { name = record name { span = f name.span }; arguments = x.0; body = x.1; is_macro = true; piece = map_spans f piece })))
          ≡ option_map (definition_with f) (b >>= (λ x. Some (record { name = name; arguments = x.0; body = x.1; is_macro = true; piece = piece })))
      whole name None = refl
      whole name (Some b) = refl

      named : (g : Forest)
          → (first_ident (map_spans f g) >>= (λ y. macro_body y.1 >>= (λ x. Some (record { name = y.0; arguments = x.0; body = x.1; is_macro = true; piece = map_spans f piece }))))
          ≡ option_map (definition_with f) (first_ident g >>= (λ y. macro_body y.1 >>= (λ x. Some (record { name = y.0; arguments = x.0; body = x.1; is_macro = true; piece = piece }))))
      named empty = refl
      named (group d a rest) = refl
      named (leaf (as_leaf.Punct p) rest) = refl
      named (leaf (as_leaf.Literal p) rest) = refl
      named (leaf (as_leaf.Ident name) rest) =
          ap (λ (b : Option (Option Forest × Forest)). b >>= (λ x. Some (record { name = record name { span = f name.span }; arguments = x.0; body = x.1; is_macro = true; piece = map_spans f piece }))) (macro_body-with rest)
          ∙ whole name (macro_body rest)

  or_else-with : {X Y : Type 0} (m : X → Y) (a b : Option X) → or_else (option_map m a) (option_map m b) ≡ option_map m (or_else a b)
  or_else-with m None b = refl
  or_else-with m (Some a) b = refl

  -- a piece elsewhere is the same definition elsewhere, or plain
  pub definition_of-with : (piece : Forest) → definition_of (map_spans f piece) ≡ option_map (definition_with f) (definition_of piece)
  definition_of-with piece =
      let rest : Forest = after_attributes piece in
      ap (λ (r : Forest). or_else (macro_rules_of (map_spans f piece) r) (macro_of (map_spans f piece) (unwrap_or (after_pub r) r))) (after_attributes-with piece)
      ∙ ap (λ (o : Option Forest). or_else (macro_rules_of (map_spans f piece) (map_spans f rest)) (macro_of (map_spans f piece) (unwrap_or o (map_spans f rest)))) (after_pub-with rest)
      ∙ ap (λ (r : Forest). or_else (macro_rules_of (map_spans f piece) (map_spans f rest)) (macro_of (map_spans f piece) r)) (unwrap_or-with (after_pub rest) rest)
      ∙ ap (λ (o : Option Definition). or_else o (macro_of (map_spans f piece) (map_spans f (unwrap_or (after_pub rest) rest)))) (macro_rules_of-with piece rest)
      ∙ ap (or_else (option_map (definition_with f) (macro_rules_of piece rest))) (macro_of-with piece (unwrap_or (after_pub rest) rest))
      ∙ or_else-with (definition_with f) (macro_rules_of piece rest) (macro_of piece (unwrap_or (after_pub rest) rest))

-- ---- the piece of a definition is the piece that it is of

module _ (piece : Forest) (d : Definition) where
  then_piece : {X : Type 0} → (o : Option X) (k : X → Option Definition) → ((x : X) → k x ≡ Some d → d.piece ≡ piece) → (o >>= k) ≡ Some d → d.piece ≡ piece
  then_piece None k same e = cc
  then_piece (Some x) k same e = same x e

  some_piece : (b : Bool) (e : Definition) → e.piece ≡ piece → (b >> Some e) ≡ Some d → d.piece ≡ piece
  some_piece true e h same = let is : e ≡ d = cc in ap (λ (x : Definition). x.piece) (sym is) ∙ h
  some_piece false e h same = cc

  rules_piece : (g : Forest) → macro_rules_of piece g ≡ Some d → d.piece ≡ piece
  rules_piece g e =
      then_piece (after_macro_rules g) _
      (λ after. then_piece (first_ident after) _ (λ y. then_piece (first_group y.1) _ (λ x. some_piece (ends_definition x.0 x.2) _ refl))) e

  macro_piece : (g : Forest) → macro_of piece g ≡ Some d → d.piece ≡ piece
  macro_piece g e =
      then_piece (after_word (codes "macro") g) _ (λ after. then_piece (first_ident after) _ (λ y. then_piece (macro_body y.1) _ (λ x. some_piece true _ refl))) e

pub definition_piece : (piece : Forest) (d : Definition) → definition_of piece ≡ Some d → d.piece ≡ piece
definition_piece piece d e = go (macro_rules_of piece (after_attributes piece)) refl e
  where
    go : (o : Option Definition) → macro_rules_of piece (after_attributes piece) ≡ o
        → or_else o (macro_of piece (unwrap_or (after_pub (after_attributes piece)) (after_attributes piece))) ≡ Some d → d.piece ≡ piece
    go None q h = macro_piece piece d (unwrap_or (after_pub (after_attributes piece)) (after_attributes piece)) h
    go (Some x) q h = rules_piece piece d (after_attributes piece) (q ∙ h)
