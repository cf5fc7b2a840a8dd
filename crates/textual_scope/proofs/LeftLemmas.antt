-- A list is searched from the left, tree by tree.
use Rattle.std.proofs.Common.{◌≡◌, ◌≢◌, ◌⊎◌, inl, inr, ℕ, Bool, true, false, true-eqb, List, [], ◌∷◌, Option, refl, sym, ap, ◌∙◌, subst, if◌then◌else◌}
use Rattle.std.specs.Prelude.{◌&&◌, ◌||◌, codes, not}
use Rattle.std.proofs.lemmas.Bool.{and_parts}
use Rattle.tt.specs.Glued.{is_alone}
use Rattle.tt_data.specs.Forest.{Forest, empty, leaf, group, joined}
use Rattle.tt_data.specs.Flat.{joined-empty}
use Rattle.tt_data.proofs.ForestLemmas.{joined_assoc}
use Rattle.tt_data.specs.declared.delimiter.Delimiter.{Delimiter}
use Rattle.tt_data.specs.declared.leaf.Ident.{Ident}
use Rattle.tt_data.specs.declared.leaf.Leaf.{Leaf}
use Rattle.tt_data.specs.declared.leaf.Leaf.TheVariants as as_leaf
use Rattle.tt_data.specs.declared.leaf.Punct.{Punct}
use Rattle.tt_data.specs.declared.delimiter.DelimiterKind.{DelimiterKind}
use Rattle.tt_data.specs.declared.delimiter.DelimiterKind.TheVariants.{Parenthesis, Brace, Bracket, Invisible}
use Rattle.bridge.specs.Text.{is_char, is_punct, is_visible, same_kind}
use Rattle.expander_model.specs.Calls.{Path, Marked, none, token, inside, call, bare, from_crate, other, in_front, is_bang_group, is_colons, is_root, mark_leaf, marked, unmarked}
use Rattle.expander_model.specs.Definitions.{Definition}
use Rattle.expander_model.specs.Expansion.{World, just}
use Rattle.expander_model.specs.PieceStates.{after_call, after_group, after_ident, after_leaf, after_literal, after_name, begun_with, by_word, is_at_start, is_item_word, is_qualifier}
use Rattle.expander_model.specs.Pieces.{cut, cut_from, ends_piece, is_pound_bang}
use Rattle.expander_model.specs.declared.begun.Begun.{Begun}
use Rattle.expander_model.specs.declared.begun.Begun.TheVariants.{Nothing, Pound, PoundBang, Attributes, AttributesPound, Visible, Qualified, Item, Extern, Abi, Gone, Other}
use Rattle.expander_model.specs.declared.dialect.Dialect.{Dialect}
use Rattle.small_grammar.specs.Text.{has_text}
use Rattle.textual_scope.specs.FromLeft.{is_begun, piece_ahead, with_leaf, with_group, AreOfCall, pieces_left, trees_left, left_after}
use Rattle.expander_model.specs.Scoping.{Around, Scoped, Search, Expander, call_site, in_group, only, and_next, in_brackets, defined, out_piece, definition_piece, plain_piece, kind_in, at_call, kept_call, found_at, is_replaced, is_items, takes_end, search_leaf, search_trees, search_piece, search_pieces}
use Rattle.textual_scope.proofs.ChainLemmas.{chain, IsShut, IsEnd, end_leaf, end_at_leaf, end_at_group, end_behind, leaf_chain, shut_leaf}
use Rattle.textual_scope.proofs.MarkLemmas.{unmarked-marked}
use Rattle.textual_scope.proofs.ResultLemmas.{nothing_and, and_next_assoc, and_nothing}

-- ---- what came of a piece, by its trees

by_true : {X : Type 0} (b : Bool) (x y : X) → b ≡ true → (if b then x else y) ≡ x
by_true true x y e = refl
by_true false x y e = absurd (cc e)

by_false : {X : Type 0} (b : Bool) (x y : X) → b ≡ false → (if b then x else y) ≡ y
by_false false x y e = refl
by_false true x y e = absurd (cc e)

-- more came than `#`, and than `#` and `!`
abbrev is_late : Begun → Bool
is_late Nothing = false
is_late Pound = false
is_late PoundBang = false
is_late s = true

late_begun : (s : Begun) → is_late s ≡ true → is_begun s ≡ true
late_begun Nothing e = absurd (cc e)
late_begun Pound e = refl
late_begun PoundBang e = refl
late_begun Attributes e = refl
late_begun AttributesPound e = refl
late_begun Visible e = refl
late_begun Qualified e = refl
late_begun Item e = refl
late_begun Extern e = refl
late_begun Abi e = refl
late_begun Gone e = refl
late_begun Other e = refl

late_if : (b : Bool) (s t : Begun) → is_late s ≡ true → is_late t ≡ true → is_late (if b then s else t) ≡ true
late_if true s t e f = e
late_if false s t e f = f

late_word : (i : Ident) → is_late (by_word i) ≡ true
late_word i =
    late_if (has_text (codes "pub") i) Visible _ refl (
    late_if (is_qualifier i) Qualified _ refl (
    late_if (is_item_word i) Item _ refl (
    late_if (has_text (codes "extern") i) Extern Other refl refl)))

late_ident : (s : Begun) (i : Ident) → is_late (after_ident s i) ≡ true
late_ident Nothing i = late_word i
late_ident Pound i = refl
late_ident PoundBang i = refl
late_ident Attributes i = late_word i
late_ident AttributesPound i = refl
late_ident Visible i = late_word i
late_ident Qualified i = late_word i
late_ident Item i = refl
late_ident Extern i = refl
late_ident Abi i = refl
late_ident Gone i = refl
late_ident Other i = refl

late_literal : (s : Begun) → is_late (after_literal s) ≡ true
late_literal Nothing = refl
late_literal Pound = refl
late_literal PoundBang = refl
late_literal Attributes = refl
late_literal AttributesPound = refl
late_literal Visible = refl
late_literal Qualified = refl
late_literal Item = refl
late_literal Extern = refl
late_literal Abi = refl
late_literal Gone = refl
late_literal Other = refl

late_with : (s : Begun) (p : Punct) → is_late s ≡ true → is_late (begun_with s p) ≡ true
late_with Nothing p e = absurd (cc e)
late_with Pound p e = absurd (cc e)
late_with PoundBang p e = absurd (cc e)
late_with Attributes p e = late_if (is_char "#" p) AttributesPound Other refl refl
late_with AttributesPound p e = refl
late_with Visible p e = refl
late_with Qualified p e = refl
late_with Item p e = refl
late_with Extern p e = refl
late_with Abi p e = refl
late_with Gone p e = refl
late_with Other p e = refl

-- once more came than these, a leaf but `;` changes nothing of that
late_leaf : (s : Begun) (l : Leaf) → is_late s ≡ true → is_punct ";" l ≡ false → is_late (after_leaf s l) ≡ true
late_leaf s (as_leaf.Punct p) e h = ap is_late (by_false (is_char ";" p) Nothing (begun_with s p) h) ∙ late_with s p e
late_leaf s (as_leaf.Ident i) e h = late_ident s i
late_leaf s (as_leaf.Literal i) e h = late_literal s

begun_more : (s : Begun) (p : Punct) → is_begun (begun_with s p) ≡ true
begun_more Nothing p = elim (is_char "#" p) as (λ b. is_begun (if b then Pound else Other) ≡ true) [ true ↦ refl | false ↦ refl ]
begun_more Pound p = elim (is_char "!" p) as (λ b. is_begun (if b then PoundBang else Other) ≡ true) [ true ↦ refl | false ↦ refl ]
begun_more PoundBang p = refl
begun_more Attributes p = late_begun (begun_with Attributes p) (late_with Attributes p refl)
begun_more AttributesPound p = refl
begun_more Visible p = refl
begun_more Qualified p = refl
begun_more Item p = refl
begun_more Extern p = refl
begun_more Abi p = refl
begun_more Gone p = refl
begun_more Other p = refl

-- a leaf goes on with a piece, unless it is a `;`
goes_on : (s : Begun) (l : Leaf) → is_punct ";" l ≡ false → is_begun (after_leaf s l) ≡ true
goes_on s (as_leaf.Punct p) h = ap is_begun (by_false (is_char ";" p) Nothing (begun_with s p) h) ∙ begun_more s p
goes_on s (as_leaf.Ident i) h = late_begun (after_ident s i) (late_ident s i)
goes_on s (as_leaf.Literal i) h = late_begun (after_literal s) (late_literal s)

ended : (s : Begun) (l : Leaf) → is_punct ";" l ≡ true → is_begun (after_leaf s l) ≡ false
ended s (as_leaf.Punct p) h = ap is_begun (by_true (is_char ";" p) Nothing (begun_with s p) h)
ended s (as_leaf.Ident i) h = absurd (cc h)
ended s (as_leaf.Literal i) h = absurd (cc h)

ended_by : (s : Begun) (l : Leaf) → is_begun (after_leaf s l) ≡ false → is_punct ";" l ≡ true
ended_by s l e = go (is_punct ";" l) refl
  where
    go : (b : Bool) → is_punct ";" l ≡ b → is_punct ";" l ≡ true
    go true h = h
    go false h = absurd (let both : true ≡ false = sym (goes_on s l h) ∙ e in cc both)

-- once so much came, a group but braces goes on
late_group : (s : Begun) (k : DelimiterKind) → is_late s ≡ true → same_kind k Brace ≡ false → is_late (after_group s k) ≡ true
late_group s Brace e h = absurd (cc h)
late_group Nothing k e h = absurd (cc e)
late_group Pound k e h = absurd (cc e)
late_group PoundBang k e h = absurd (cc e)
late_group Attributes Parenthesis e h = refl
late_group Attributes Bracket e h = refl
late_group Attributes Invisible e h = refl
late_group AttributesPound Parenthesis e h = refl
late_group AttributesPound Bracket e h = refl
late_group AttributesPound Invisible e h = refl
late_group Visible Parenthesis e h = refl
late_group Visible Bracket e h = refl
late_group Visible Invisible e h = refl
late_group Qualified Parenthesis e h = refl
late_group Qualified Bracket e h = refl
late_group Qualified Invisible e h = refl
late_group Item Parenthesis e h = refl
late_group Item Bracket e h = refl
late_group Item Invisible e h = refl
late_group Extern Parenthesis e h = refl
late_group Extern Bracket e h = refl
late_group Extern Invisible e h = refl
late_group Abi Parenthesis e h = refl
late_group Abi Bracket e h = refl
late_group Abi Invisible e h = refl
late_group Gone Parenthesis e h = refl
late_group Gone Bracket e h = refl
late_group Gone Invisible e h = refl
late_group Other Parenthesis e h = refl
late_group Other Bracket e h = refl
late_group Other Invisible e h = refl

-- no trees behind these make them `#` and `!`
abbrev IsLater : Forest → Type 0
IsLater f = (g : Forest) → is_pound_bang (joined f g) ≡ false

-- what a state tells of the trees that came
abbrev Tells : Begun → Forest → Type 0
Tells Nothing f = f ≡ empty
Tells Pound f = (l : Leaf) × (f ≡ leaf l empty) × (is_punct "#" l ≡ true)
Tells PoundBang f = (l : Leaf) × (m : Leaf) × (f ≡ leaf l (leaf m empty)) × (is_pound_bang (leaf l (leaf m empty)) ≡ true)
Tells s f = IsLater f

tells_late : (s : Begun) (f : Forest) → is_late s ≡ true → IsLater f → Tells s f
tells_late Nothing f e h = absurd (cc e)
tells_late Pound f e h = absurd (cc e)
tells_late PoundBang f e h = absurd (cc e)
tells_late Attributes f e h = h
tells_late AttributesPound f e h = h
tells_late Visible f e h = h
tells_late Qualified f e h = h
tells_late Item f e h = h
tells_late Extern f e h = h
tells_late Abi f e h = h
tells_late Gone f e h = h
tells_late Other f e h = h

later_more : (f x : Forest) → IsLater f → IsLater (joined f x)
later_more f x h = λ g. ap is_pound_bang (joined_assoc f x g) ∙ h (joined x g)

no_pound : (l : Leaf) → is_punct "#" l ≡ false → (g : Forest) → is_pound_bang (leaf l g) ≡ false
no_pound l h empty = refl
no_pound l h (leaf m empty) = rw h refl
no_pound l h (leaf m (leaf n g)) = refl
no_pound l h (leaf m (group d inner g)) = refl
no_pound l h (group d inner g) = refl

never_both : (b : Bool) → (b && false) ≡ false
never_both true = refl
never_both false = refl

no_bang_behind : (l m : Leaf) → is_punct "!" m ≡ false → (g : Forest) → is_pound_bang (leaf l (leaf m g)) ≡ false
no_bang_behind l m h empty = ap (λ b. is_punct "#" l && b) h ∙ never_both (is_punct "#" l)
no_bang_behind l m h (leaf n g) = refl
no_bang_behind l m h (group d inner g) = refl

-- behind a leaf but `#` and `!`
later_leaf : (s : Begun) (f : Forest) (l : Leaf) → Tells s f → is_punct "#" l ≡ false → is_punct "!" l ≡ false → IsLater (joined f (leaf l empty))
later_leaf Nothing f l e h k = λ g. ap (λ x. is_pound_bang (joined (joined x (leaf l empty)) g)) e ∙ no_pound l h g
later_leaf Pound f l (m, e, p) h k = λ g. ap (λ x. is_pound_bang (joined (joined x (leaf l empty)) g)) e ∙ no_bang_behind m l k g
later_leaf PoundBang f l (m, n, e, p) h k = λ g. ap (λ x. is_pound_bang (joined (joined x (leaf l empty)) g)) e
later_leaf Attributes f l t h k = later_more f (leaf l empty) t
later_leaf AttributesPound f l t h k = later_more f (leaf l empty) t
later_leaf Visible f l t h k = later_more f (leaf l empty) t
later_leaf Qualified f l t h k = later_more f (leaf l empty) t
later_leaf Item f l t h k = later_more f (leaf l empty) t
later_leaf Extern f l t h k = later_more f (leaf l empty) t
later_leaf Abi f l t h k = later_more f (leaf l empty) t
later_leaf Gone f l t h k = later_more f (leaf l empty) t
later_leaf Other f l t h k = later_more f (leaf l empty) t

tells_late_punct : (s : Begun) (f : Forest) (p : Punct) → is_late s ≡ true → IsLater f → Tells (begun_with s p) (joined f (leaf (as_leaf.Punct p) empty))
tells_late_punct s f p e h = tells_late (begun_with s p) (joined f (leaf (as_leaf.Punct p) empty)) (late_with s p e) (later_more f (leaf (as_leaf.Punct p) empty) h)

tells_punct : (s : Begun) (f : Forest) (p : Punct) → Tells s f → Tells (begun_with s p) (joined f (leaf (as_leaf.Punct p) empty))
tells_punct Nothing f p e = go (is_char "#" p) refl
  where
    go : (b : Bool) → is_char "#" p ≡ b → Tells (if b then Pound else Other) (joined f (leaf (as_leaf.Punct p) empty))
    go true h = (as_leaf.Punct p, ap (λ x. joined x (leaf (as_leaf.Punct p) empty)) e, h)
    go false h = λ g. ap (λ x. is_pound_bang (joined (joined x (leaf (as_leaf.Punct p) empty)) g)) e ∙ no_pound (as_leaf.Punct p) h g
tells_punct Pound f p (l, e, h) = go (is_char "!" p) refl
  where
    go : (b : Bool) → is_char "!" p ≡ b → Tells (if b then PoundBang else Other) (joined f (leaf (as_leaf.Punct p) empty))
    go true k = (l, as_leaf.Punct p, ap (λ x. joined x (leaf (as_leaf.Punct p) empty)) e, rw (h, k) refl)
    go false k = λ g. ap (λ x. is_pound_bang (joined (joined x (leaf (as_leaf.Punct p) empty)) g)) e ∙ no_bang_behind l (as_leaf.Punct p) k g
tells_punct PoundBang f p (l, m, e, h) = λ g. ap (λ x. is_pound_bang (joined (joined x (leaf (as_leaf.Punct p) empty)) g)) e
tells_punct Attributes f p t = tells_late_punct Attributes f p refl t
tells_punct AttributesPound f p t = tells_late_punct AttributesPound f p refl t
tells_punct Visible f p t = tells_late_punct Visible f p refl t
tells_punct Qualified f p t = tells_late_punct Qualified f p refl t
tells_punct Item f p t = tells_late_punct Item f p refl t
tells_punct Extern f p t = tells_late_punct Extern f p refl t
tells_punct Abi f p t = tells_late_punct Abi f p refl t
tells_punct Gone f p t = tells_late_punct Gone f p refl t
tells_punct Other f p t = tells_late_punct Other f p refl t

tells_leaf : (s : Begun) (f : Forest) (l : Leaf) → Tells s f → is_punct ";" l ≡ false → Tells (after_leaf s l) (joined f (leaf l empty))
tells_leaf s f (as_leaf.Punct p) t h =
    subst (λ x. Tells x (joined f (leaf (as_leaf.Punct p) empty))) (sym (by_false (is_char ";" p) Nothing (begun_with s p) h)) (tells_punct s f p t)
tells_leaf s f (as_leaf.Ident i) t h =
    tells_late (after_ident s i) (joined f (leaf (as_leaf.Ident i) empty)) (late_ident s i) (later_leaf s f (as_leaf.Ident i) t refl refl)
tells_leaf s f (as_leaf.Literal i) t h =
    tells_late (after_literal s) (joined f (leaf (as_leaf.Literal i) empty)) (late_literal s) (later_leaf s f (as_leaf.Literal i) t refl refl)

later_group : (s : Begun) (f : Forest) (d : Delimiter) (inner : Forest) → Tells s f → IsLater (joined f (group d inner empty))
later_group Nothing f d inner e = λ g. ap (λ x. is_pound_bang (joined (joined x (group d inner empty)) g)) e
later_group Pound f d inner (m, e, p) = λ g. ap (λ x. is_pound_bang (joined (joined x (group d inner empty)) g)) e
later_group PoundBang f d inner (m, n, e, p) = λ g. ap (λ x. is_pound_bang (joined (joined x (group d inner empty)) g)) e
later_group Attributes f d inner t = later_more f (group d inner empty) t
later_group AttributesPound f d inner t = later_more f (group d inner empty) t
later_group Visible f d inner t = later_more f (group d inner empty) t
later_group Qualified f d inner t = later_more f (group d inner empty) t
later_group Item f d inner t = later_more f (group d inner empty) t
later_group Extern f d inner t = later_more f (group d inner empty) t
later_group Abi f d inner t = later_more f (group d inner empty) t
later_group Gone f d inner t = later_more f (group d inner empty) t
later_group Other f d inner t = later_more f (group d inner empty) t

no_brace : (s : Begun) (k : DelimiterKind) → is_begun (after_group s k) ≡ true → same_kind k Brace ≡ false
no_brace s Brace e = absurd (cc e)
no_brace s Bracket e = refl
no_brace s Parenthesis e = refl
no_brace s Invisible e = refl

late_after : (s : Begun) (k : DelimiterKind) → is_begun (after_group s k) ≡ true → is_late (after_group s k) ≡ true
late_after s Brace e = absurd (cc e)
late_after Nothing Parenthesis e = refl
late_after Nothing Bracket e = refl
late_after Nothing Invisible e = refl
late_after Pound Parenthesis e = refl
late_after Pound Bracket e = refl
late_after Pound Invisible e = refl
late_after PoundBang Parenthesis e = refl
late_after PoundBang Bracket e = absurd (cc e)
late_after PoundBang Invisible e = refl
late_after Attributes k e = late_group Attributes k refl (no_brace Attributes k e)
late_after AttributesPound k e = late_group AttributesPound k refl (no_brace AttributesPound k e)
late_after Visible k e = late_group Visible k refl (no_brace Visible k e)
late_after Qualified k e = late_group Qualified k refl (no_brace Qualified k e)
late_after Item k e = late_group Item k refl (no_brace Item k e)
late_after Extern k e = late_group Extern k refl (no_brace Extern k e)
late_after Abi k e = late_group Abi k refl (no_brace Abi k e)
late_after Gone k e = late_group Gone k refl (no_brace Gone k e)
late_after Other k e = late_group Other k refl (no_brace Other k e)

tells_group : (s : Begun) (f : Forest) (d : Delimiter) (inner : Forest) → Tells s f → is_begun (after_group s d.kind) ≡ true
    → Tells (after_group s d.kind) (joined f (group d inner empty))
tells_group s f d inner t e = tells_late (after_group s d.kind) (joined f (group d inner empty)) (late_after s d.kind e) (later_group s f d inner t)

no_pound_bang : (f : Forest) → IsLater f → is_pound_bang f ≡ false
no_pound_bang f h = ap is_pound_bang (sym (joined-empty f)) ∙ h empty

bracket_late : (s : Begun) (f : Forest) → is_late s ≡ true → IsLater f → is_begun (after_group s Bracket) ≡ not (is_pound_bang f)
bracket_late s f e h = late_begun (after_group s Bracket) (late_group s Bracket e refl) ∙ ap not (sym (no_pound_bang f h))

bracket_ends : (s : Begun) (f : Forest) → Tells s f → is_begun (after_group s Bracket) ≡ not (is_pound_bang f)
bracket_ends Nothing f e = ap (λ x. not (is_pound_bang x)) (sym e)
bracket_ends Pound f (l, e, h) = ap (λ x. not (is_pound_bang x)) (sym e)
bracket_ends PoundBang f (l, m, e, h) = ap not (sym h) ∙ ap (λ x. not (is_pound_bang x)) (sym e)
bracket_ends Attributes f t = bracket_late Attributes f refl t
bracket_ends AttributesPound f t = bracket_late AttributesPound f refl t
bracket_ends Visible f t = bracket_late Visible f refl t
bracket_ends Qualified f t = bracket_late Qualified f refl t
bracket_ends Item f t = bracket_late Item f refl t
bracket_ends Extern f t = bracket_late Extern f refl t
bracket_ends Abi f t = bracket_late Abi f refl t
bracket_ends Gone f t = bracket_late Gone f refl t
bracket_ends Other f t = bracket_late Other f refl t

round_goes_on : (s : Begun) → is_begun (after_group s Parenthesis) ≡ true
round_goes_on Nothing = refl
round_goes_on Pound = refl
round_goes_on PoundBang = refl
round_goes_on Attributes = refl
round_goes_on AttributesPound = refl
round_goes_on Visible = refl
round_goes_on Qualified = refl
round_goes_on Item = refl
round_goes_on Extern = refl
round_goes_on Abi = refl
round_goes_on Gone = refl
round_goes_on Other = refl

invisible_goes_on : (s : Begun) → is_begun (after_group s Invisible) ≡ true
invisible_goes_on Nothing = refl
invisible_goes_on Pound = refl
invisible_goes_on PoundBang = refl
invisible_goes_on Attributes = refl
invisible_goes_on AttributesPound = refl
invisible_goes_on Visible = refl
invisible_goes_on Qualified = refl
invisible_goes_on Item = refl
invisible_goes_on Extern = refl
invisible_goes_on Abi = refl
invisible_goes_on Gone = refl
invisible_goes_on Other = refl

kind_ends : (s : Begun) (f : Forest) → Tells s f → (k : DelimiterKind)
    → is_begun (after_group s k) ≡ not (same_kind k Brace || (same_kind k Bracket && is_pound_bang f))
kind_ends s f t Brace = refl
kind_ends s f t Bracket = bracket_ends s f t
kind_ends s f t Parenthesis = round_goes_on s
kind_ends s f t Invisible = invisible_goes_on s

-- ---- the piece ahead

cut_begun : (begun : Forest) → begun ≢ empty → cut_from empty begun ≡ begun ∷ []
cut_begun empty some = absurd (some refl)
cut_begun (leaf l begun) some = refl
cut_begun (group d inner begun) some = refl

some_leaf : (begun : Forest) (l : Leaf) → joined begun (leaf l empty) ≢ empty
some_leaf empty l = λ e. absurd (cc e)
some_leaf (leaf m begun) l = λ e. absurd (cc e)
some_leaf (group d inner begun) l = λ e. absurd (cc e)

some_group : (begun : Forest) (d : Delimiter) (inner : Forest) → joined begun (group d inner empty) ≢ empty
some_group empty d inner = λ e. absurd (cc e)
some_group (leaf m begun) d inner = λ e. absurd (cc e)
some_group (group k a begun) d inner = λ e. absurd (cc e)

some_joined : (f g : Forest) → f ≢ empty → joined f g ≢ empty
some_joined empty g some = absurd (some refl)
some_joined (leaf l f) g some = λ e. absurd (cc e)
some_joined (group d inner f) g some = λ e. absurd (cc e)

-- a piece ahead, and the pieces after it
abbrev Ahead : Forest → Forest × Forest → List Forest → Type 0
Ahead begun p ps = ps ≡ joined begun p.0 ∷ cut p.1

-- the pieces where one is begun: it goes on with what is ahead
cut-ahead : (f begun : Forest) (s : Begun) → Tells s begun → joined begun f ≢ empty → Ahead begun (piece_ahead s f) (cut_from f begun)
cut-ahead empty begun s tells some =
    let is : joined begun empty ≡ begun = joined-empty begun in
    cut_begun begun (λ e. some (is ∙ e)) ∙ ap (λ g. g ∷ []) (sym is)
cut-ahead (leaf l rest) begun s tells some =
    go (λ h. cut-ahead rest (joined begun (leaf l empty)) (after_leaf s l) (tells_leaf s begun l tells h) (some_joined (joined begun (leaf l empty)) rest (some_leaf begun l)))
    (is_punct ";" l) refl
  where
    begun' : Forest
    begun' = joined begun (leaf l empty)

    t : Begun
    t = after_leaf s l

    go : (is_punct ";" l ≡ false → Ahead begun' (piece_ahead t rest) (cut_from rest begun')) → (b : Bool) → is_punct ";" l ≡ b
        → Ahead begun (piece_ahead s (leaf l rest)) (if b then begun' ∷ cut rest else cut_from rest begun')
    go later true h =
        subst (λ (p : Forest × Forest). Ahead begun p (begun' ∷ cut rest))
        (sym (by_false (is_begun t) (with_leaf l (piece_ahead t rest)) (leaf l empty, rest) (ended s l h))) refl
    go later false h =
        let q : Forest × Forest = piece_ahead t rest in
        subst (λ (p : Forest × Forest). Ahead begun p (cut_from rest begun'))
        (sym (by_true (is_begun t) (with_leaf l q) (leaf l empty, rest) (goes_on s l h)))
        (later h ∙ ap (λ g. g ∷ cut q.1) (joined_assoc begun (leaf l empty) q.0))
cut-ahead (group d inner rest) begun s tells some =
    go (λ h. cut-ahead rest (joined begun (group d inner empty)) (after_group s d.kind) (tells_group s begun d inner tells h)
    (some_joined (joined begun (group d inner empty)) rest (some_group begun d inner))) (ends_piece begun d) refl
  where
    begun' : Forest
    begun' = joined begun (group d inner empty)

    t : Begun
    t = after_group s d.kind

    go : (is_begun t ≡ true → Ahead begun' (piece_ahead t rest) (cut_from rest begun')) → (b : Bool) → ends_piece begun d ≡ b
        → Ahead begun (piece_ahead s (group d inner rest)) (if b then begun' ∷ cut rest else cut_from rest begun')
    go later true h =
        subst (λ (p : Forest × Forest). Ahead begun p (begun' ∷ cut rest))
        (sym (by_false (is_begun t) (with_group d inner (piece_ahead t rest)) (group d inner empty, rest) (kind_ends s begun tells d.kind ∙ ap not h))) refl
    go later false h =
        let more : is_begun t ≡ true = kind_ends s begun tells d.kind ∙ ap not h in
        let q : Forest × Forest = piece_ahead t rest in
        subst (λ (p : Forest × Forest). Ahead begun p (cut_from rest begun'))
        (sym (by_true (is_begun t) (with_group d inner q) (group d inner empty, rest) more))
        (later more ∙ ap (λ g. g ∷ cut q.1) (joined_assoc begun (group d inner empty) q.0))

-- the first piece, and the pieces after it
pub first-ahead : (f : Forest) → f ≢ empty → cut f ≡ (piece_ahead Nothing f).0 ∷ cut (piece_ahead Nothing f).1
first-ahead f some = cut-ahead f empty Nothing refl some

-- how a piece ends does not depend on what came of it, once that is more than `#` and `!`
late_ahead : (f : Forest) (s t : Begun) → is_late s ≡ true → is_late t ≡ true → piece_ahead s f ≡ piece_ahead t f
late_ahead empty s t e h = refl
late_ahead (leaf l rest) s t e h = go (is_punct ";" l) refl (λ n. late_ahead rest (after_leaf s l) (after_leaf t l) (late_leaf s l e n) (late_leaf t l h n))
  where
    go : (b : Bool) → is_punct ";" l ≡ b → (is_punct ";" l ≡ false → piece_ahead (after_leaf s l) rest ≡ piece_ahead (after_leaf t l) rest)
        → piece_ahead s (leaf l rest) ≡ piece_ahead t (leaf l rest)
    go true n later =
        by_false (is_begun (after_leaf s l)) (with_leaf l (piece_ahead (after_leaf s l) rest)) (leaf l empty, rest) (ended s l n)
        ∙ sym (by_false (is_begun (after_leaf t l)) (with_leaf l (piece_ahead (after_leaf t l) rest)) (leaf l empty, rest) (ended t l n))
    go false n later =
        by_true (is_begun (after_leaf s l)) (with_leaf l (piece_ahead (after_leaf s l) rest)) (leaf l empty, rest) (goes_on s l n)
        ∙ ap (with_leaf l) (later n)
        ∙ sym (by_true (is_begun (after_leaf t l)) (with_leaf l (piece_ahead (after_leaf t l) rest)) (leaf l empty, rest) (goes_on t l n))
late_ahead (group d inner rest) s t e h = go (same_kind d.kind Brace) refl (λ n. late_ahead rest (after_group s d.kind) (after_group t d.kind) (late_group s d.kind e n) (late_group t d.kind h n))
  where
    ends : (u : Begun) (k : DelimiterKind) → same_kind k Brace ≡ true → is_begun (after_group u k) ≡ false
    ends u Brace n = refl
    ends u Bracket n = absurd (cc n)
    ends u Parenthesis n = absurd (cc n)
    ends u Invisible n = absurd (cc n)

    more : (u : Begun) → is_late u ≡ true → same_kind d.kind Brace ≡ false → is_begun (after_group u d.kind) ≡ true
    more u late n = late_begun (after_group u d.kind) (late_group u d.kind late n)

    go : (b : Bool) → same_kind d.kind Brace ≡ b → (same_kind d.kind Brace ≡ false → piece_ahead (after_group s d.kind) rest ≡ piece_ahead (after_group t d.kind) rest)
        → piece_ahead s (group d inner rest) ≡ piece_ahead t (group d inner rest)
    go true n later =
        by_false (is_begun (after_group s d.kind)) (with_group d inner (piece_ahead (after_group s d.kind) rest)) (group d inner empty, rest) (ends s d.kind n)
        ∙ sym (by_false (is_begun (after_group t d.kind)) (with_group d inner (piece_ahead (after_group t d.kind) rest)) (group d inner empty, rest) (ends t d.kind n))
    go false n later =
        by_true (is_begun (after_group s d.kind)) (with_group d inner (piece_ahead (after_group s d.kind) rest)) (group d inner empty, rest) (more s e n)
        ∙ ap (with_group d inner) (later n)
        ∙ sym (by_true (is_begun (after_group t d.kind)) (with_group d inner (piece_ahead (after_group t d.kind) rest)) (group d inner empty, rest) (more t h n))

-- the trees ahead and those after them are the list
pub ahead-joined : (f : Forest) (s : Begun) → joined (piece_ahead s f).0 (piece_ahead s f).1 ≡ f
ahead-joined empty s = refl
ahead-joined (leaf l rest) s =
    elim (is_begun (after_leaf s l)) as (λ b. (let p : Forest × Forest = if b then with_leaf l (piece_ahead (after_leaf s l) rest) else (leaf l empty, rest) in joined p.0 p.1 ≡ leaf l rest))
    [ false ↦ refl | true ↦ ap (leaf l) (ahead-joined rest (after_leaf s l)) ]
ahead-joined (group d inner rest) s =
    elim (is_begun (after_group s d.kind)) as (λ b. (let p : Forest × Forest = if b then with_group d inner (piece_ahead (after_group s d.kind) rest) else (group d inner empty, rest) in joined p.0 p.1 ≡ group d inner rest))
    [ false ↦ refl | true ↦ ap (group d inner) (ahead-joined rest (after_group s d.kind)) ]

-- what is ahead ends a piece, or nothing comes after it
abbrev EndsOrLast : Forest × Forest → Type 0
EndsOrLast p = IsEnd p.0 ⊎ (p.1 ≡ empty)

behind_leaf : (l : Leaf) (p : Forest × Forest) → EndsOrLast p → EndsOrLast (with_leaf l p)
behind_leaf l p (inl e) = inl (end_behind (leaf l empty) p.0 e)
behind_leaf l p (inr e) = inr e

behind_group : (d : Delimiter) (inner : Forest) (p : Forest × Forest) → EndsOrLast p → EndsOrLast (with_group d inner p)
behind_group d inner p (inl e) = inl (end_behind (group d inner empty) p.0 e)
behind_group d inner p (inr e) = inr e

ends_or : (b : Bool) (p q : Forest × Forest) → EndsOrLast p → (b ≡ false → EndsOrLast q) → EndsOrLast (if b then p else q)
ends_or true p q h g = h
ends_or false p q h g = g refl

pub ahead-ends : (f : Forest) (s : Begun) → EndsOrLast (piece_ahead s f)
ahead-ends empty s = inr refl
ahead-ends (leaf l rest) s =
    ends_or (is_begun (after_leaf s l)) (with_leaf l (piece_ahead (after_leaf s l) rest)) (leaf l empty, rest)
    (behind_leaf l (piece_ahead (after_leaf s l) rest) (ahead-ends rest (after_leaf s l))) (λ e. inl (end_at_leaf l (ended_by s l e)))
ahead-ends (group d inner rest) s =
    ends_or (is_begun (after_group s d.kind)) (with_group d inner (piece_ahead (after_group s d.kind) rest)) (group d inner empty, rest)
    (behind_group d inner (piece_ahead (after_group s d.kind) rest) (ahead-ends rest (after_group s d.kind))) (λ e. inl (end_at_group d inner))

-- ---- marks of what is ahead

abbrev is_token : Marked → Bool
is_token (token l m) = true
is_token _ = false

-- a leaf begins a call, or is a token before the marks
stays_token : (l : Leaf) (m : Marked) → is_token (mark_leaf l m) ≡ true → mark_leaf l m ≡ token l m
stays_token (as_leaf.Ident i) (token (as_leaf.Punct p) (inside b a r)) =
    elim (is_bang_group p b) as (λ t. is_token (if t then call bare i p b a r else token (as_leaf.Ident i) (token (as_leaf.Punct p) (inside b a r))) ≡ true
    → (if t then call bare i p b a r else token (as_leaf.Ident i) (token (as_leaf.Punct p) (inside b a r))) ≡ token (as_leaf.Ident i) (token (as_leaf.Punct p) (inside b a r)))
    [ true ↦ λ e. absurd (cc e) | false ↦ λ e. refl ]
stays_token (as_leaf.Punct q) (token (as_leaf.Punct p) (call bare name bang b a r)) =
    elim (is_colons q p) as (λ t. is_token (if t then call (other q p) name bang b a r else token (as_leaf.Punct q) (token (as_leaf.Punct p) (call bare name bang b a r))) ≡ true
    → (if t then call (other q p) name bang b a r else token (as_leaf.Punct q) (token (as_leaf.Punct p) (call bare name bang b a r))) ≡ token (as_leaf.Punct q) (token (as_leaf.Punct p) (call bare name bang b a r)))
    [ true ↦ λ e. absurd (cc e) | false ↦ λ e. refl ]
stays_token (as_leaf.Ident i) (call (other p q) name bang b a r) =
    elim (is_root i) as (λ t. is_token (if t then call (from_crate i p q) name bang b a r else token (as_leaf.Ident i) (call (other p q) name bang b a r)) ≡ true
    → (if t then call (from_crate i p q) name bang b a r else token (as_leaf.Ident i) (call (other p q) name bang b a r)) ≡ token (as_leaf.Ident i) (call (other p q) name bang b a r))
    [ true ↦ λ e. absurd (cc e) | false ↦ λ e. refl ]
stays_token l m = λ e. refl

token_head : (m n : Marked) → IsShut m → is_token (chain m n) ≡ is_token m
token_head none n h = absurd h
token_head (token l m) n h = refl
token_head (inside d a m) n h = refl
token_head (call path name bang d a m) n h = refl

-- a leaf that begins no call begins none in front of the piece ahead alone
pub token_ahead : (l : Leaf) (p : Forest × Forest) → EndsOrLast p → mark_leaf l (marked (joined p.0 p.1)) ≡ token l (marked (joined p.0 p.1))
    → mark_leaf l (marked p.0) ≡ token l (marked p.0)
token_ahead l p (inl e) h =
    let m : Marked = marked p.0 in
    stays_token l m
    (sym (token_head (mark_leaf l m) (marked p.1) (shut_leaf l m e.shut))
    ∙ ap is_token (sym (leaf_chain l m (marked p.1) e.shut) ∙ ap (mark_leaf l) (sym (e.apart p.1)) ∙ h))
token_ahead l p (inr e) h =
    let is : joined p.0 p.1 ≡ p.0 = ap (joined p.0) e ∙ joined-empty p.0 in
    subst (λ f. mark_leaf l (marked f) ≡ token l (marked f)) is h

-- ---- the search, tree by tree

module _ {D : Type 0} (dialect : Dialect) (world : World D) (local : Definition → D) (scope : List ℕ → Option D) (search : Search D) (deeper : Option (Expander D)) where
  abbrev trees : Begun → Around → Marked → Scoped D
  trees s around m = search_trees dialect world local scope search deeper s around m

  abbrev pieces : Around → Forest → Scoped D
  pieces around f = pieces_left dialect world local scope search deeper around f

  abbrev left : Begun → Around → Forest → Scoped D
  left s around f = trees_left dialect world local scope search deeper s around f

  abbrev after : Begun → Around → Forest → Scoped D
  after s around f = left_after dialect world local scope search deeper s around f

  abbrev shown : Begun → Around → Leaf → Scoped D
  shown s around l = search_leaf dialect world local scope s around l

  -- nothing is left
  pub left_nothing : (s : Begun) (around : Around) → left s around empty ≡ only (just around.outer [])
  left_nothing s around = and_nothing (only (just around.outer [])) around

  -- a definition that is ahead
  pub at_definition : (around : Around) (f p rest : Forest) (d : Definition) → cut f ≡ p ∷ cut rest
      → kind_in dialect around.standing p ≡ definition_piece d
      → pieces around f ≡ and_next (defined dialect world local scope around d) (λ here. pieces here rest) around
  at_definition around f p rest d are e =
      ap (λ ps. search_pieces dialect world local scope search deeper around ps) are
      ∙ ap (λ r. and_next (search_piece dialect world local scope search deeper around p r) (λ here. pieces here rest) around) e

  -- a piece that is left out
  pub at_out : (around : Around) (f p rest : Forest) → cut f ≡ p ∷ cut rest → kind_in dialect around.standing p ≡ out_piece
      → pieces around f ≡ pieces around rest
  at_out around f p rest are e =
      ap (λ ps. search_pieces dialect world local scope search deeper around ps) are
      ∙ ap (λ r. and_next (search_piece dialect world local scope search deeper around p r) (λ here. pieces here rest) around) e
      ∙ nothing_and around.outer (λ here. pieces here rest) around

  -- another piece
  pub at_piece : (around : Around) (f : Forest) → f ≢ empty → ((p : Forest) (ps : List Forest) → cut f ≡ p ∷ ps → kind_in dialect around.standing p ≡ plain_piece)
      → pieces around f ≡ left Nothing around f
  at_piece around f some plain =
      let p : Forest × Forest = piece_ahead Nothing f in
      let are : cut f ≡ p.0 ∷ cut p.1 = first-ahead f some in
      ap (λ ps. search_pieces dialect world local scope search deeper around ps) are
      ∙ ap (λ r. and_next (search_piece dialect world local scope search deeper around p.0 r) (λ here. pieces here p.1) around) (plain p.0 (cut p.1) are)

  -- a leaf that begins no call
  pub at_token : (s : Begun) (around : Around) (l : Leaf) (rest : Forest) → mark_leaf l (marked rest) ≡ token l (marked rest)
      → left s around (leaf l rest) ≡ and_next (shown s around l) (λ here. after (after_leaf s l) here rest) around
  at_token s around l rest h = go (is_begun (after_leaf s l)) refl
    where
      t : Begun
      t = after_leaf s l

      go : (b : Bool) → is_begun t ≡ b
          → (let p : Forest × Forest = if b then with_leaf l (piece_ahead t rest) else (leaf l empty, rest) in
          and_next (search_trees dialect world local scope search deeper s around (marked p.0)) (λ here. pieces_left dialect world local scope search deeper here p.1) around)
          ≡ and_next (search_leaf dialect world local scope s around l)
          (λ here. if b then trees_left dialect world local scope search deeper t here rest else pieces_left dialect world local scope search deeper here rest) around
      go false e =
          let a : Scoped D = search_leaf dialect world local scope s around l in
          ap (λ (x : Scoped D). and_next x (λ here. pieces_left dialect world local scope search deeper here rest) around)
          (ap (search_trees dialect world local scope search deeper s around) (end_leaf l none (ended_by s l e)) ∙ and_nothing a around)
      go true e =
          let p : Forest × Forest = piece_ahead t rest in
          let is : joined p.0 p.1 ≡ rest = ahead-joined rest t in
          let a : Scoped D = search_leaf dialect world local scope s around l in
          let f : Around → Scoped D = λ here. search_trees dialect world local scope search deeper t here (marked p.0) in
          let g : Around → Scoped D = λ here. pieces_left dialect world local scope search deeper here p.1 in
          ap (λ m. and_next (search_trees dialect world local scope search deeper s around m) g around)
          (token_ahead l p (ahead-ends rest t) (subst (λ f. mark_leaf l (marked f) ≡ token l (marked f)) (sym is) h))
          ∙ and_next_assoc a f g around

  -- a group
  pub at_group : (s : Begun) (around : Around) (d : Delimiter) (inner rest : Forest)
      → left s around (group d inner rest)
      ≡ and_next (in_brackets around.outer d (search (record around { standing = in_group s d.kind around.standing }) inner))
      (λ here. after (after_group s d.kind) here rest) around
  at_group s around d inner rest = go (is_begun (after_group s d.kind))
    where
      t : Begun
      t = after_group s d.kind

      go : (b : Bool)
          → (let p : Forest × Forest = if b then with_group d inner (piece_ahead t rest) else (group d inner empty, rest) in
          and_next (search_trees dialect world local scope search deeper s around (marked p.0)) (λ here. pieces_left dialect world local scope search deeper here p.1) around)
          ≡ and_next (in_brackets around.outer d (search (record around { standing = in_group s d.kind around.standing }) inner))
          (λ here. if b then trees_left dialect world local scope search deeper t here rest else pieces_left dialect world local scope search deeper here rest) around
      go false =
          let a : Forest → Scoped D = λ f. in_brackets around.outer d (search (record around { standing = in_group s d.kind around.standing }) f) in
          ap (λ (x : Scoped D). and_next x (λ here. pieces_left dialect world local scope search deeper here rest) around)
          (and_nothing (a (unmarked (marked inner))) around ∙ ap a (unmarked-marked inner))
      go true =
          let p : Forest × Forest = piece_ahead t rest in
          let a : Forest → Scoped D = λ f. in_brackets around.outer d (search (record around { standing = in_group s d.kind around.standing }) f) in
          let f : Around → Scoped D = λ here. search_trees dialect world local scope search deeper t here (marked p.0) in
          let g : Around → Scoped D = λ here. pieces_left dialect world local scope search deeper here p.1 in
          and_next_assoc (a (unmarked (marked inner))) f g around
          ∙ ap (λ k. and_next (a k) (λ here. and_next (f here) g here) around) (unmarked-marked inner)

-- ---- a call

no_end : (p : Punct) → is_char ":" p ≡ true → is_char ";" p ≡ false
no_end p h = let e : p.char ≡ 58 = true-eqb p.char 58 (sym h) in rw e refl

no_end_bang : (p : Punct) → is_char "!" p ≡ true → is_char ";" p ≡ false
no_end_bang p h = let e : p.char ≡ 33 = true-eqb p.char 33 (sym h) in rw e refl

bang_goes_on : (p : Punct) (d : Delimiter) → is_bang_group p d ≡ true → is_char ";" p ≡ false
bang_goes_on p d h = no_end_bang p (and_parts (is_char "!" p) (is_visible d.kind) h).0

first_goes_on : (p q : Punct) → is_colons p q ≡ true → is_char ";" p ≡ false
first_goes_on p q h = no_end p (and_parts (is_char ":" p) (is_char ":" q && not (is_alone p.spacing)) h).0

second_goes_on : (p q : Punct) → is_colons p q ≡ true → is_char ";" q ≡ false
second_goes_on p q h =
    no_end q (and_parts (is_char ":" q) (not (is_alone p.spacing)) (and_parts (is_char ":" p) (is_char ":" q && not (is_alone p.spacing)) h).1).0

skips : (s : Begun) (f : Forest) (l : Leaf) → is_punct ";" l ≡ false → piece_ahead s (leaf l f) ≡ with_leaf l (piece_ahead (after_leaf s l) f)
skips s f l h = by_true (is_begun (after_leaf s l)) (with_leaf l (piece_ahead (after_leaf s l) f)) (leaf l empty, f) (goes_on s l h)

-- once a colon follows, more came than `#` and `!`
late_colon : (s : Begun) (p : Punct) → is_char ":" p ≡ true → is_late (after_leaf s (as_leaf.Punct p)) ≡ true
late_colon s p h = let e : p.char ≡ 58 = true-eqb p.char 58 (sym h) in go s p e
  where
    go : (s : Begun) (p : Punct) → p.char ≡ 58 → is_late (after_leaf s (as_leaf.Punct p)) ≡ true
    go Nothing p e = rw e refl
    go Pound p e = rw e refl
    go PoundBang p e = rw e refl
    go Attributes p e = rw e refl
    go AttributesPound p e = rw e refl
    go Visible p e = rw e refl
    go Qualified p e = rw e refl
    go Item p e = rw e refl
    go Extern p e = rw e refl
    go Abi p e = rw e refl
    go Gone p e = rw e refl
    go Other p e = rw e refl

first_late : (s : Begun) (p q : Punct) → is_colons p q ≡ true → is_late (after_leaf s (as_leaf.Punct p)) ≡ true
first_late s p q h = late_colon s p (and_parts (is_char ":" p) (is_char ":" q && not (is_alone p.spacing)) h).0

second_late : (s : Begun) (p q : Punct) → is_colons p q ≡ true → is_late (after_leaf s (as_leaf.Punct q)) ≡ true
second_late s p q h =
    late_colon s q (and_parts (is_char ":" q) (not (is_alone p.spacing)) (and_parts (is_char ":" p) (is_char ":" q && not (is_alone p.spacing)) h).1).0

bang_late : (s : Begun) (p : Punct) (d : Delimiter) → is_late s ≡ true → is_bang_group p d ≡ true → is_late (after_leaf s (as_leaf.Punct p)) ≡ true
bang_late s p d e h = late_leaf s (as_leaf.Punct p) e (bang_goes_on p d h)

module _ (name : Ident) (bang : Punct) (d : Delimiter) (inner : Forest) where
  -- a call's tokens, and trees after them
  abbrev pub call_before : Path → Forest → Forest
  call_before path rest = in_front path (leaf (as_leaf.Ident name) (leaf (as_leaf.Punct bang) (group d inner rest)))

  marked-bare : (rest : Forest) → is_bang_group bang d ≡ true → marked (call_before bare rest) ≡ call bare name bang d (marked inner) (marked rest)
  marked-bare rest h = rw h refl

  marked-other : (p q : Punct) (rest : Forest) → is_bang_group bang d ≡ true → is_colons p q ≡ true
      → marked (call_before (other p q) rest) ≡ call (other p q) name bang d (marked inner) (marked rest)
  marked-other p q rest h k = ap (λ m. mark_leaf (as_leaf.Punct p) (mark_leaf (as_leaf.Punct q) m)) (marked-bare rest h) ∙ rw k refl

  pub marked-call : (path : Path) (rest : Forest) → AreOfCall path bang d → marked (call_before path rest) ≡ call path name bang d (marked inner) (marked rest)
  marked-call bare rest h = marked-bare rest h
  marked-call (other p q) rest h = marked-other p q rest h.0 h.1
  marked-call (from_crate root p q) rest h = ap (mark_leaf (as_leaf.Ident root)) (marked-other p q rest h.0 h.1) ∙ rw h.2 refl

  -- the call ends the piece, or what is ahead goes on with it
  abbrev in_call : Path → Forest × Forest → Forest × Forest
  in_call path p = (in_front path (leaf (as_leaf.Ident name) (leaf (as_leaf.Punct bang) p.0)), p.1)

  -- the tokens before a call's group are no `#` and `!`
  ahead-bare : (s : Begun) (rest : Forest) → is_bang_group bang d ≡ true
      → piece_ahead s (call_before bare rest) ≡ in_call bare (piece_ahead Other (group d inner rest))
  ahead-bare s rest h =
      let named : Begun = after_ident s name in
      skips s (leaf (as_leaf.Punct bang) (group d inner rest)) (as_leaf.Ident name) refl
      ∙ ap (with_leaf (as_leaf.Ident name)) (skips named (group d inner rest) (as_leaf.Punct bang) (bang_goes_on bang d h))
      ∙ ap (in_call bare) (late_ahead (group d inner rest) (after_leaf named (as_leaf.Punct bang)) Other (bang_late named bang d (late_ident s name) h) refl)

  ahead-other : (s : Begun) (rest : Forest) (p q : Punct) → is_bang_group bang d ≡ true → is_colons p q ≡ true
      → piece_ahead s (call_before (other p q) rest) ≡ in_call (other p q) (piece_ahead Other (group d inner rest))
  ahead-other s rest p q h k =
      let t : Begun = after_leaf s (as_leaf.Punct p) in
      skips s (leaf (as_leaf.Punct q) (call_before bare rest)) (as_leaf.Punct p) (first_goes_on p q k)
      ∙ ap (with_leaf (as_leaf.Punct p)) (skips t (call_before bare rest) (as_leaf.Punct q) (second_goes_on p q k))
      ∙ ap (λ x. with_leaf (as_leaf.Punct p) (with_leaf (as_leaf.Punct q) x)) (ahead-bare (after_leaf t (as_leaf.Punct q)) rest h)

  ahead-call : (path : Path) (s : Begun) (rest : Forest) → AreOfCall path bang d
      → piece_ahead s (call_before path rest) ≡ in_call path (piece_ahead Other (group d inner rest))
  ahead-call bare s rest h = ahead-bare s rest h
  ahead-call (other p q) s rest h = ahead-other s rest p q h.0 h.1
  ahead-call (from_crate root p q) s rest h =
      skips s (call_before (other p q) rest) (as_leaf.Ident root) refl
      ∙ ap (with_leaf (as_leaf.Ident root)) (ahead-other (after_ident s root) rest p q h.0 h.1)

-- a call that takes a `;` along has no braces
not_braces : (a b c e : Bool) → ((a && (b && (c && not e))) && true) ≡ true → e ≡ false
not_braces a b c false h = refl
not_braces true true true true h = absurd (cc h)
not_braces true true false true h = absurd (cc h)
not_braces true false c true h = absurd (cc h)
not_braces false b c true h = absurd (cc h)

and_false : (b : Bool) → (b && false) ≡ false
and_false true = refl
and_false false = refl

-- behind a call a piece goes on or ends as behind a group
module _ (s : Begun) (k : DelimiterKind) where
  late_name : is_late (after_name s) ≡ true
  late_name = go s
    where
      go : (u : Begun) → is_late (after_name u) ≡ true
      go Nothing = refl
      go Pound = refl
      go PoundBang = refl
      go Attributes = refl
      go AttributesPound = refl
      go Visible = refl
      go Qualified = refl
      go Item = refl
      go Extern = refl
      go Abi = refl
      go Gone = refl
      go Other = refl

  call_goes_on : (gone : Bool) → (gone ≡ true → same_kind k Brace ≡ false) → same_kind k Brace ≡ false → is_late (after_call gone s k) ≡ true
  call_goes_on true h n = refl
  call_goes_on false h n = late_group (after_name s) k late_name n

module _ {D : Type 0} (dialect : Dialect) (world : World D) (local : Definition → D) (scope : List ℕ → Option D) (search : Search D) (deeper : Option (Expander D)) where
  -- a call whose argument is this
  abbrev pub called : Around → Path → Ident → Punct → Delimiter → Forest → Scoped D
  called around path name bang d argument =
      at_call dialect world local scope deeper around path name
      (call_site path name bang d argument)
      (kept_call dialect world local scope search around path name bang d argument)

  -- what came of the piece once that call follows
  abbrev pub behind_it : Begun → Around → Path → Ident → Punct → Delimiter → Forest → Begun
  behind_it s around path name bang d argument =
      after_call (takes_end dialect world local scope deeper s around path name d (call_site path name bang d argument)) s d.kind

  -- a call, or what would be one but for the `::` before it
  pub at_a_call : (s : Begun) (around : Around) (path : Path) (name : Ident) (bang : Punct) (d : Delimiter) (inner rest : Forest) → AreOfCall path bang d
      → trees_left dialect world local scope search deeper s around (call_before name bang d inner path rest)
      ≡ and_next (called around path name bang d inner)
      (λ here. left_after dialect world local scope search deeper (behind_it s around path name bang d inner) here rest) around
  at_a_call s around path name bang d inner rest h =
      ap (λ (p : Forest × Forest). and_next (search_trees dialect world local scope search deeper s around (marked p.0)) (λ here. pieces_left dialect world local scope search deeper here p.1) around)
      (ahead-call name bang d inner path s rest h)
      ∙ go (same_kind d.kind Brace) refl
    where
      t : Begun
      t = after_group Other d.kind

      u : Forest → Begun
      u argument = behind_it s around path name bang d argument

      here_left : Begun → Around → Scoped D
      here_left x here = left_after dialect world local scope search deeper x here rest

      piece : Forest × Forest
      piece = in_call name bang d inner path (if is_begun t then with_group d inner (piece_ahead t rest) else (group d inner empty, rest))

      -- braces end the piece, and the call takes no `;`
      braces : same_kind d.kind Brace ≡ true → (gone : Bool) → (gone ≡ true → same_kind d.kind Brace ≡ false) → (after_call gone s d.kind ≡ Nothing) × (t ≡ Nothing)
      braces e true never = absurd (let both : true ≡ false = sym e ∙ never refl in cc both)
      braces e false never = by_kind d.kind e
        where
          by_kind : (k : DelimiterKind) → same_kind k Brace ≡ true → (after_group (after_name s) k ≡ Nothing) × (after_group Other k ≡ Nothing)
          by_kind Brace e = (refl, refl)
          by_kind Bracket e = absurd (cc e)
          by_kind Parenthesis e = absurd (cc e)
          by_kind Invisible e = absurd (cc e)

      no_braces : (argument : Forest) → takes_end dialect world local scope deeper s around path name d (call_site path name bang d argument) ≡ true → same_kind d.kind Brace ≡ false
      no_braces argument e = alone (is_replaced dialect world local scope deeper (found_at dialect world local scope around path name) around (call_site path name bang d argument)) e
        where
          stands : Bool
          stands = dialect.items && (is_items around.standing && (is_at_start s && not (same_kind d.kind Brace)))

          alone : (b : Bool) → (stands && b) ≡ true → same_kind d.kind Brace ≡ false
          alone true e = not_braces dialect.items (is_items around.standing) (is_at_start s) (same_kind d.kind Brace) e
          alone false e = absurd (let both : false ≡ true = sym (and_false stands) ∙ e in cc both)

      go : (b : Bool) → same_kind d.kind Brace ≡ b
          → and_next (search_trees dialect world local scope search deeper s around (marked piece.0)) (λ here. pieces_left dialect world local scope search deeper here piece.1) around
          ≡ and_next (called around path name bang d inner) (λ here. here_left (u inner) here) around
      go true e =
          let ends = braces e (takes_end dialect world local scope deeper s around path name d (call_site path name bang d inner)) (no_braces inner) in
          ap (λ (p : Forest × Forest). and_next (search_trees dialect world local scope search deeper s around (marked p.0)) (λ here. pieces_left dialect world local scope search deeper here p.1) around)
          (ap (in_call name bang d inner path) (by_false (is_begun t) (with_group d inner (piece_ahead t rest)) (group d inner empty, rest) (ap is_begun ends.1)))
          ∙ ap (λ (x : Scoped D). and_next x (λ here. pieces_left dialect world local scope search deeper here rest) around)
          (ap (search_trees dialect world local scope search deeper s around) (marked-call name bang d inner path empty h)
          ∙ and_nothing (called around path name bang d (unmarked (marked inner))) around
          ∙ ap (called around path name bang d) (unmarked-marked inner))
          ∙ ap (λ x. and_next (called around path name bang d inner) (λ here. here_left x here) around) (sym ends.0)
      go false e =
          let p : Forest × Forest = piece_ahead t rest in
          let late : is_late (u inner) ≡ true = call_goes_on s d.kind (takes_end dialect world local scope deeper s around path name d (call_site path name bang d inner)) (no_braces inner) e in
          let same : p ≡ piece_ahead (u inner) rest = late_ahead rest t (u inner) (late_group Other d.kind refl e) late in
          let f : Forest → Around → Scoped D = λ argument here. search_trees dialect world local scope search deeper (u argument) here (marked p.0) in
          let g : Around → Scoped D = λ here. pieces_left dialect world local scope search deeper here p.1 in
          ap (λ (q : Forest × Forest). and_next (search_trees dialect world local scope search deeper s around (marked q.0)) (λ here. pieces_left dialect world local scope search deeper here q.1) around)
          (ap (in_call name bang d inner path)
          (by_true (is_begun t) (with_group d inner p) (group d inner empty, rest) (late_begun t (late_group Other d.kind refl e))))
          ∙ ap (λ m. and_next (search_trees dialect world local scope search deeper s around m) g around) (marked-call name bang d inner path p.0 h)
          ∙ and_next_assoc (called around path name bang d (unmarked (marked inner))) (f (unmarked (marked inner))) g around
          ∙ ap (λ k. and_next (called around path name bang d k) (λ here. and_next (f k here) g here) around) (unmarked-marked inner)
          ∙ ap (λ (q : Forest × Forest). and_next (called around path name bang d inner)
          (λ here. and_next (search_trees dialect world local scope search deeper (u inner) here (marked q.0)) (λ there. pieces_left dialect world local scope search deeper there q.1) here) around) same
          ∙ ap (λ (b : Bool). and_next (called around path name bang d inner)
          (λ here. if b then trees_left dialect world local scope search deeper (u inner) here rest else pieces_left dialect world local scope search deeper here rest) around)
          (sym (late_begun (u inner) late))
