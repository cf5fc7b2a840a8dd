-- What came of a piece: where each leaf that follows is shown, and with other spans.
use Rattle.std.proofs.Common.{◌≡◌, Bool, true, false, refl, if◌then◌else◌}
use Rattle.std.specs.Prelude.{codes}
use Rattle.tt_data.specs.Spans.{leaf_with}
use Rattle.tt_data.specs.declared.delimiter.DelimiterKind.{DelimiterKind}
use Rattle.tt_data.specs.declared.delimiter.DelimiterKind.TheVariants.{Parenthesis, Brace, Bracket}
use Rattle.tt_data.specs.declared.leaf.Ident.{Ident}
use Rattle.tt_data.specs.declared.leaf.Leaf.{Leaf}
use Rattle.tt_data.specs.declared.leaf.Leaf.TheVariants as as_leaf
use Rattle.tt_data.specs.declared.leaf.Punct.{Punct}
use Rattle.tt_data.specs.declared.span.Span.{Span}
use Rattle.bridge.specs.Text.{is_char}
use Rattle.small_grammar.specs.Text.{has_text}
use Rattle.expander_model.specs.PieceStates.{after_call, after_group, after_ident, after_leaf, after_literal, after_name, begun_with, by_word, is_dropped, is_item_word, is_qualifier}
use Rattle.expander_model.specs.declared.begun.Begun.{Begun}
use Rattle.expander_model.specs.declared.begun.Begun.TheVariants.{Nothing, Pound, PoundBang, Attributes, AttributesPound, Visible, Qualified, Item, Extern, Gone, Other}

-- the next leaf is shown, whatever it is
abbrev pub IsShown : Begun → Type 0
IsShown Gone = ⊥
IsShown _ = Unit {0}

pub shown_leaf : (s : Begun) (l : Leaf) → IsShown s → is_dropped s l ≡ false
shown_leaf Gone l h = absurd h
shown_leaf _ l h = refl

shown_if : (b : Bool) (s t : Begun) → IsShown s → IsShown t → IsShown (if b then s else t)
shown_if true s t h k = h
shown_if false s t h k = k

word_shown : (i : Ident) → IsShown (by_word i)
word_shown i =
    let last : Begun = if has_text (codes "extern") i then Extern else Other in
    let item : Begun = if is_item_word i then Item else last in
    let qualified : Begun = if is_qualifier i then Qualified else item in
    shown_if (has_text (codes "pub") i) Visible qualified tt
    (shown_if (is_qualifier i) Qualified item tt
    (shown_if (is_item_word i) Item last tt (shown_if (has_text (codes "extern") i) Extern Other tt tt)))

ident_shown : (s : Begun) (i : Ident) → IsShown (after_ident s i)
ident_shown Nothing i = word_shown i
ident_shown Attributes i = word_shown i
ident_shown Visible i = word_shown i
ident_shown Qualified i = word_shown i
ident_shown _ i = tt

literal_shown : (s : Begun) → IsShown (after_literal s)
literal_shown Extern = tt
literal_shown Item = tt
literal_shown _ = tt

begun_shown : (s : Begun) (p : Punct) → IsShown (begun_with s p)
begun_shown Nothing p = shown_if (is_char "#" p) Pound Other tt tt
begun_shown Attributes p = shown_if (is_char "#" p) AttributesPound Other tt tt
begun_shown Pound p = shown_if (is_char "!" p) PoundBang Other tt tt
begun_shown Item p = tt
begun_shown _ p = tt

-- a call alone takes a leaf that follows it away
pub leaf_shown : (s : Begun) (l : Leaf) → IsShown (after_leaf s l)
leaf_shown s (as_leaf.Ident i) = ident_shown s i
leaf_shown s (as_leaf.Punct p) = shown_if (is_char ";" p) Nothing (begun_with s p) tt (begun_shown s p)
leaf_shown s (as_leaf.Literal l) = literal_shown s

pub group_shown : (s : Begun) (k : DelimiterKind) → IsShown (after_group s k)
group_shown s Brace = tt
group_shown PoundBang Bracket = tt
group_shown Pound Bracket = tt
group_shown AttributesPound Bracket = tt
group_shown Visible Parenthesis = tt
group_shown Item k = tt
group_shown s k = tt

pub call_shown : (gone : Bool) (s : Begun) (k : DelimiterKind) → gone ≡ false → IsShown (after_call gone s k)
call_shown true s k e = absurd (cc e)
call_shown false s k e = group_shown (after_name s) k

-- ---- with other spans

module _ (f : Span → Span) where
  ident-with : (s : Begun) (i : Ident) → after_ident s (record i { span = f i.span }) ≡ after_ident s i
  ident-with Nothing i = refl
  ident-with Attributes i = refl
  ident-with Visible i = refl
  ident-with Qualified i = refl
  ident-with _ i = refl

  begun_with-with : (s : Begun) (p : Punct) → begun_with s (record p { span = f p.span }) ≡ begun_with s p
  begun_with-with Nothing p = refl
  begun_with-with Attributes p = refl
  begun_with-with Pound p = refl
  begun_with-with Item p = refl
  begun_with-with _ p = refl

  -- what came of a piece sees no spans
  pub after_leaf-with : (s : Begun) (l : Leaf) → after_leaf s (leaf_with f l) ≡ after_leaf s l
  after_leaf-with s (as_leaf.Ident i) = ident-with s i
  after_leaf-with s (as_leaf.Punct p) = rw (begun_with-with s p) refl
  after_leaf-with s (as_leaf.Literal l) = refl

  pub is_dropped-with : (s : Begun) (l : Leaf) → is_dropped s (leaf_with f l) ≡ is_dropped s l
  is_dropped-with Gone (as_leaf.Punct p) = refl
  is_dropped-with Gone (as_leaf.Ident i) = refl
  is_dropped-with Gone (as_leaf.Literal l) = refl
  is_dropped-with _ l = refl
