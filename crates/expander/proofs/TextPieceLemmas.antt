-- The pieces of a text that was read are what `bridge::piece` makes of the parts of its list.
use Rattle.std.proofs.Common.{◌≡◌, ◌⊎◌, inl, inr, ℕ, ◌+◌, length, drop, Bool, true, false, List, [], ◌∷◌, ◌++◌, Option, Some, None, map, refl, sym, ap, subst, ◌∙◌}
use Rattle.std.specs.Prelude.{All, chars, if◌then◌else◌, ◌&&◌}
use Rattle.std.proofs.lemmas.List.Elements.{All-cons, All-nil}
use Rattle.rustc_lexer.specs.declared.token.DocStyle.TheVariants.{Outer, Inner}
use Rattle.rustc_lexer.specs.Lexing.{tokens_of}
use Rattle.tt.specs.Building.{alone}
use Rattle.tt.specs.TokenLiterals.{literal_in}
use Rattle.tt.specs.Tops.{Top}
use Rattle.tt_data.proofs.ForestLemmas.{joined_assoc, walk-joined}
use Rattle.tt_data.specs.Flat.{joined-empty}
use Rattle.tt_data.specs.Forest.{Forest, empty, leaf, group, joined}
use Rattle.tt_data.specs.Walk.{at_leaf, walk}
use Rattle.tt_data.specs.declared.delimiter.Delimiter.{Delimiter}
use Rattle.tt_data.specs.declared.leaf.IdentIsRaw.TheVariants as is_raw
use Rattle.tt_data.specs.declared.leaf.Leaf.{Leaf}
use Rattle.tt_data.specs.declared.leaf.Leaf.TheVariants as as_leaf
use Rattle.tt_data.specs.declared.leaf.Spacing.TheVariants.{Alone, Joint}
use Rattle.bridge.specs.Order.{FollowOneAnother}
use Rattle.bridge.specs.Pieces.{StandsBehindFirst, piece_of, with_last_alone}
use Rattle.bridge.specs.ReadText.{text_top}
use Rattle.bridge.specs.Reading.{IsReading, PlacedToken, TextStep, placed_from, range_of, step, written_at}
use Rattle.bridge.specs.Text.{is_punct}
use Rattle.bridge.specs.TokenSteps.{class_of, mark_leaf, name_in, name_leaf, spacing_before, steps_of, steps_of_class, text_steps}
use Rattle.expander.specs.PieceTrees.{own_tree}
use Rattle.expander_model.specs.Definitions.{Definition, definition_of}
use Rattle.expander_model.specs.Meaning.{Layers, member, members, members_after, with_definition}
use Rattle.expander_model.specs.Pieces.{cut, cut_from, ends_piece, is_pound_bang, pieces, put_together, relative, separated}
use Rattle.expander_model.proofs.ApartLemmas.{separated-joined}
use Rattle.expander_model.proofs.DefinitionPlaceLemmas.{definition_piece}
use Rattle.expander.proofs.TokenFormLemmas.{Form, blank, by_form, closing, doc, form_steps, is_mark_form, mark, name, neither, opening, quoted_name, value}

-- ---- the last tree of a list

-- nothing is glued to a punct that is the last tree
abbrev pub IsLoose : Forest → Type 0
IsLoose f = (front : Forest) (l : Leaf) → f ≡ joined front (leaf l empty) → alone l ≡ l

last_leaf : (f : Forest) (l : Leaf) → with_last_alone (joined f (leaf l empty)) ≡ joined f (leaf (alone l) empty)
last_leaf empty l = refl
last_leaf (leaf m empty) l = refl
last_leaf (leaf m (leaf n rest)) l = ap (leaf m) (last_leaf (leaf n rest) l)
last_leaf (leaf m (group d inner rest)) l = ap (leaf m) (last_leaf (group d inner rest) l)
last_leaf (group d inner rest) l = ap (group d inner) (last_leaf rest l)

last_group : (f : Forest) (c : Delimiter) (trees : Forest) → with_last_alone (joined f (group c trees empty)) ≡ joined f (group c trees empty)
last_group empty c trees = refl
last_group (leaf m empty) c trees = refl
last_group (leaf m (leaf n rest)) c trees = ap (leaf m) (last_group (leaf n rest) c trees)
last_group (leaf m (group d inner rest)) c trees = ap (leaf m) (last_group (group d inner rest) c trees)
last_group (group d inner rest) c trees = ap (group d inner) (last_group rest c trees)

loose_stays : (f : Forest) → IsLoose f → with_last_alone f ≡ f
loose_stays empty h = refl
loose_stays (leaf l empty) h = ap (λ m. leaf m empty) (h empty l refl)
loose_stays (leaf l (leaf m rest)) h = ap (leaf l) (loose_stays (leaf m rest) (λ front n e. h (leaf l front) n (ap (leaf l) e)))
loose_stays (leaf l (group d inner rest)) h = ap (leaf l) (loose_stays (group d inner rest) (λ front n e. h (leaf l front) n (ap (leaf l) e)))
loose_stays (group d inner rest) h = ap (group d inner) (loose_stays rest (λ front n e. h (group d inner front) n (ap (group d inner) e)))

loose_behind : (a b : Forest) → IsLoose (joined a b) → IsLoose b
loose_behind a b h front l e = h (joined a front) l (ap (joined a) e ∙ sym (joined_assoc a front (leaf l empty)))

-- ---- cuts, before and after each `;` is made `Alone`

punct_any : (c : _) (b : Bool) (l : Leaf) → is_punct c (if b then alone l else l) ≡ is_punct c l
punct_any c false l = refl
punct_any c true (as_leaf.Literal l) = refl
punct_any c true (as_leaf.Punct p) = refl
punct_any c true (as_leaf.Ident i) = refl

pound_bang : (f : Forest) → is_pound_bang (separated f) ≡ is_pound_bang f
pound_bang empty = refl
pound_bang (leaf l empty) = refl
pound_bang (leaf l (leaf m empty)) =
    ap (λ b. b && is_punct "!" (if is_punct ";" m then alone m else m)) (punct_any "#" (is_punct ";" l) l)
    ∙ ap (λ b. is_punct "#" l && b) (punct_any "!" (is_punct ";" m) m)
pound_bang (leaf l (leaf m (leaf n rest))) = refl
pound_bang (leaf l (leaf m (group d inner rest))) = refl
pound_bang (leaf l (group d inner rest)) = refl
pound_bang (group d inner rest) = refl

ends_same : (f : Forest) (d : Delimiter) → ends_piece (separated f) d ≡ ends_piece f d
ends_same f d = go (is_pound_bang (separated f)) (is_pound_bang f) (pound_bang f)
  where
    go : (a b : Bool) → is_pound_bang (separated f) ≡ is_pound_bang f → ends_piece (separated f) d ≡ ends_piece f d
    go a b e = cc

-- one tree, after which a piece may end
cut_tree : (b : Bool) (here : Forest) (rest behind : List Forest) (is : Forest) (after later : List Forest) → is ≡ separated here → after ≡ map separated rest → later ≡ map separated behind
    → (if b then is ∷ after else later) ≡ map separated (if b then here ∷ rest else behind)
cut_tree true here rest behind is after later one two three = (λ i. one i ∷ two i)
cut_tree false here rest behind is after later one two three = three

cut_separated : (f begun : Forest) → cut_from (separated f) (separated begun) ≡ map separated (cut_from f begun)
cut_separated empty empty = refl
cut_separated empty (leaf l begun) = refl
cut_separated empty (group d inner begun) = refl
cut_separated (leaf l rest) begun =
    let now : Leaf = if is_punct ";" l then alone l else l in
    let here : Forest = joined begun (leaf l empty) in
    let one : joined (separated begun) (leaf now empty) ≡ separated here = sym (separated-joined begun (leaf l empty)) in
    ap (λ b. if b then joined (separated begun) (leaf now empty) ∷ cut_from (separated rest) empty else cut_from (separated rest) (joined (separated begun) (leaf now empty)))
    (punct_any ";" (is_punct ";" l) l)
    ∙ cut_tree (is_punct ";" l) here (cut_from rest empty) (cut_from rest here) _ _ _ one (cut_separated rest empty)
    (ap (cut_from (separated rest)) one ∙ cut_separated rest here)
cut_separated (group d inner rest) begun =
    let here : Forest = joined begun (group d inner empty) in
    let one : joined (separated begun) (group d inner empty) ≡ separated here = sym (separated-joined begun (group d inner empty)) in
    ap (λ b. if b then joined (separated begun) (group d inner empty) ∷ cut_from (separated rest) empty else cut_from (separated rest) (joined (separated begun) (group d inner empty)))
    (ends_same begun d)
    ∙ cut_tree (ends_piece begun d) here (cut_from rest empty) (cut_from rest here) _ _ _ one (cut_separated rest empty)
    (ap (cut_from (separated rest)) one ∙ cut_separated rest here)

-- ---- each part with its last tree `Alone`, or each `;` of it

abbrev AreAlike : List Forest → Type 0
AreAlike ps = map with_last_alone ps ≡ map separated ps

leaf_alike : (l : Leaf) (rest begun : Forest) → separated begun ≡ begun → IsLoose (joined begun (leaf l rest)) → (b : Bool) → is_punct ";" l ≡ b
    → (IsLoose rest → AreAlike (cut_from rest empty))
    → (separated (joined begun (leaf l empty)) ≡ joined begun (leaf l empty) → IsLoose (joined (joined begun (leaf l empty)) rest) → AreAlike (cut_from rest (joined begun (leaf l empty))))
    → AreAlike (if b then joined begun (leaf l empty) ∷ cut_from rest empty else cut_from rest (joined begun (leaf l empty)))
leaf_alike l rest begun kept loose b e after later = go b e
  where
    with_now : (b : Bool) → is_punct ";" l ≡ b → separated (joined begun (leaf l empty)) ≡ joined begun (leaf (if b then alone l else l) empty)
    with_now b e =
        separated-joined begun (leaf l empty) ∙ ap (λ g. joined g (leaf (if is_punct ";" l then alone l else l) empty)) kept
        ∙ ap (λ b. joined begun (leaf (if b then alone l else l) empty)) e

    go : (b : Bool) → is_punct ";" l ≡ b → AreAlike (if b then joined begun (leaf l empty) ∷ cut_from rest empty else cut_from rest (joined begun (leaf l empty)))
    go true e =
        let one : with_last_alone (joined begun (leaf l empty)) ≡ separated (joined begun (leaf l empty)) = last_leaf begun l ∙ sym (with_now true e) in
        let two = after (loose_behind (leaf l empty) rest (loose_behind begun (leaf l rest) loose)) in
        (λ i. one i ∷ two i)
    go false e = later (with_now false e) (subst IsLoose (sym (joined_assoc begun (leaf l empty) rest)) loose)

group_alike : (d : Delimiter) (inner rest begun : Forest) → separated begun ≡ begun → IsLoose (joined begun (group d inner rest)) → (b : Bool)
    → (IsLoose rest → AreAlike (cut_from rest empty))
    → (separated (joined begun (group d inner empty)) ≡ joined begun (group d inner empty) → IsLoose (joined (joined begun (group d inner empty)) rest) → AreAlike (cut_from rest (joined begun (group d inner empty))))
    → AreAlike (if b then joined begun (group d inner empty) ∷ cut_from rest empty else cut_from rest (joined begun (group d inner empty)))
group_alike d inner rest begun kept loose b after later = go b
  where
    now : separated (joined begun (group d inner empty)) ≡ joined begun (group d inner empty)
    now = separated-joined begun (group d inner empty) ∙ ap (λ g. joined g (group d inner empty)) kept

    go : (b : Bool) → AreAlike (if b then joined begun (group d inner empty) ∷ cut_from rest empty else cut_from rest (joined begun (group d inner empty)))
    go true =
        let one : with_last_alone (joined begun (group d inner empty)) ≡ separated (joined begun (group d inner empty)) = last_group begun d inner ∙ sym now in
        let two = after (loose_behind (group d inner empty) rest (loose_behind begun (group d inner rest) loose)) in
        (λ i. one i ∷ two i)
    go false = later now (subst IsLoose (sym (joined_assoc begun (group d inner empty) rest)) loose)

last_alike : (begun : Forest) → separated begun ≡ begun → IsLoose (joined begun empty) → AreAlike (begun ∷ [])
last_alike begun kept loose = ap (λ p. p ∷ []) (loose_stays begun (subst IsLoose (joined-empty begun) loose) ∙ sym kept)

cut_alike : (f begun : Forest) → separated begun ≡ begun → IsLoose (joined begun f) → AreAlike (cut_from f begun)
cut_alike empty empty kept loose = refl
cut_alike empty (leaf l begun) kept loose = last_alike (leaf l begun) kept loose
cut_alike empty (group d inner begun) kept loose = last_alike (group d inner begun) kept loose
cut_alike (leaf l rest) begun kept loose =
    leaf_alike l rest begun kept loose (is_punct ";" l) refl (cut_alike rest empty refl) (cut_alike rest (joined begun (leaf l empty)))
cut_alike (group d inner rest) begun kept loose =
    group_alike d inner rest begun kept loose (ends_piece begun d) (cut_alike rest empty refl) (cut_alike rest (joined begun (group d inner empty)))

-- ---- the last token of a text

none : {A : Type 0} (a b : List A) → a ++ b ≡ [] → b ≡ []
none [] b k = k
none (z ∷ a) b k = absurd (cc k)

none_too : {A : Type 0} (a b : List A) → a ++ b ≡ [] → a ≡ []
none_too [] b k = refl
none_too (z ∷ a) b k = absurd (cc k)

-- a list that ends with one more element: the second part does, or it is empty
end_of_two : {A : Type 0} (a b xs : List A) (x : A) → a ++ b ≡ xs ++ x ∷ [] → ((b ≡ []) × (a ≡ xs ++ x ∷ [])) ⊎ ((ys : List A) × (b ≡ ys ++ x ∷ []))
end_of_two [] b xs x e = inr (xs, e)
end_of_two (y ∷ a) b [] x e = inl (none a b (cc), let n = none_too a b (cc) in (λ i. (let s : y ≡ x = cc in s) i ∷ n i))
end_of_two (y ∷ a) b (z ∷ xs) x e =
    let s : y ≡ z = cc in
    elim (end_of_two a b xs x (cc)) [
      | inl r ↦ inl (r.0, (λ i. s i ∷ r.1 i))
      | inr r ↦ inr r
    ]

abbrev last_in : TextStep → List TextStep → TextStep
last_in s [] = s
last_in s (t ∷ more) = last_in t more

last_is : (s : TextStep) (more xs : List TextStep) (x : TextStep) → s ∷ more ≡ xs ++ x ∷ [] → last_in s more ≡ x
last_is s [] [] x e = cc
last_is s [] (z ∷ []) x e = absurd (cc e)
last_is s [] (z ∷ y ∷ xs) x e = absurd (cc e)
last_is s (t ∷ more) [] x e = absurd (cc e)
last_is s (t ∷ more) (z ∷ xs) x e = last_is t more xs x (cc)

-- where nothing follows that is read, no punct starts
no_mark : (ts : List PlacedToken) → steps_of ts ≡ [] → spacing_before ts ≡ Alone
no_mark [] e = refl
no_mark (t ∷ ts) e = by_form (λ read is_one. read t ts ++ steps_of ts ≡ [] → (if is_one then Joint else Alone) ≡ Alone) go t.kind e
  where
    go : (form : Form) → form_steps form t ts ++ steps_of ts ≡ [] → (if is_mark_form form then Joint else Alone) ≡ Alone
    go blank h = refl
    go (name raw) h = refl
    go (mark c) h = absurd (cc h)
    go (opening k) h = refl
    go (closing k) h = refl
    go quoted_name h = refl
    go (doc style is_block) h = refl
    go (value f suffix_start) h = refl
    go neither h = refl

loose_form : (form : Form) (t : PlacedToken) (ts : List PlacedToken) (xs : List TextStep) (l : Leaf) → spacing_before ts ≡ Alone
    → form_steps form t ts ≡ xs ++ step (at_leaf l) ∷ [] → alone l ≡ l
loose_form blank t ts [] l after e = absurd (cc e)
loose_form blank t ts (z ∷ xs) l after e = absurd (cc e)
loose_form (name raw) t ts xs l after e =
    let s = last_is _ [] xs (step (at_leaf l)) e in
    let k : name_leaf (name_in raw t.text) raw (written_at (range_of t)) ≡ l = cc in
    subst (λ m. alone m ≡ m) k refl
loose_form (mark c) t ts xs l after e =
    let s = last_is _ [] xs (step (at_leaf l)) e in
    let k : mark_leaf c (spacing_before ts) (written_at (range_of t)) ≡ l = cc in
    subst (λ m. alone m ≡ m) k (ap (λ spacing. mark_leaf c spacing (written_at (range_of t))) (sym after))
loose_form (opening k) t ts xs l after e = absurd (let s = last_is _ [] xs (step (at_leaf l)) e in cc)
loose_form (closing k) t ts xs l after e = absurd (let s = last_is _ [] xs (step (at_leaf l)) e in cc)
loose_form quoted_name t ts xs l after e =
    let s = last_is _ (_ ∷ []) xs (step (at_leaf l)) e in
    let k : name_leaf (drop 1 t.text) is_raw.No (written_at (record { start = t.start + 1; «end» = t.start + length t.text })) ≡ l = cc in
    subst (λ m. alone m ≡ m) k refl
loose_form (doc Outer is_block) t ts xs l after e = absurd (let s = last_is _ (_ ∷ _ ∷ _ ∷ _ ∷ _ ∷ []) xs (step (at_leaf l)) e in cc)
loose_form (doc Inner is_block) t ts xs l after e = absurd (let s = last_is _ (_ ∷ _ ∷ _ ∷ _ ∷ _ ∷ _ ∷ []) xs (step (at_leaf l)) e in cc)
loose_form (value f suffix_start) t ts xs l after e =
    let s = last_is _ [] xs (step (at_leaf l)) e in
    let k : as_leaf.Literal (literal_in f suffix_start t.text (written_at (range_of t))) ≡ l = cc in
    subst (λ m. alone m ≡ m) k refl
loose_form neither t ts xs l after e = absurd (let s = last_is _ [] xs (step (at_leaf l)) e in cc)

loose_end : (ts : List PlacedToken) (xs : List TextStep) (l : Leaf) → steps_of ts ≡ xs ++ step (at_leaf l) ∷ [] → alone l ≡ l
loose_end [] [] l e = absurd (cc e)
loose_end [] (z ∷ xs) l e = absurd (cc e)
loose_end (t ∷ ts) xs l e =
    elim (end_of_two (steps_of_class (class_of t.kind) t ts) (steps_of ts) xs (step (at_leaf l)) e) [
      | inl r ↦
          by_form (λ read is_one. read t ts ≡ xs ++ step (at_leaf l) ∷ [] → alone l ≡ l)
          (λ form. loose_form form t ts xs l (no_mark ts r.0)) t.kind r.1
      | inr r ↦ loose_end ts r.0 l r.1
    ]

loose_text : (text : List ℕ) (f : Forest) → IsReading (text_steps text) f → IsLoose f
loose_text text f read front l e =
    loose_end (placed_from 0 text (tokens_of (chars text))) (map step (walk front)) l
    (read ∙ ap (λ g. map step (walk g)) e ∙ ap (map step) (walk-joined front (leaf l empty)) ∙ map-append step (walk front) (at_leaf l ∷ []))
  where
    map-append : {B C : Type 0} (g : B → C) (xs ys : List B) → map g (xs ++ ys) ≡ map g xs ++ map g ys
    map-append g [] ys = refl
    map-append g (x ∷ xs) ys = ap (λ l. g x ∷ l) (map-append g xs ys)

-- ---- pieces

abbrev top_of : Forest → Top
top_of p = record { delimiter = text_top; inner = relative p }

tops_of : (ps : List Forest) → map piece_of ps ≡ map top_of (map with_last_alone ps)
tops_of [] = refl
tops_of (p ∷ ps) = ap (λ l. piece_of p ∷ l) (tops_of ps)

pub text_pieces : (text : List ℕ) (f : Forest) → IsReading (text_steps text) f → map piece_of (cut f) ≡ map top_of (pieces f)
text_pieces text f read =
    tops_of (cut f) ∙ ap (map top_of) (cut_alike f empty refl (loose_text text f read)) ∙ ap (map top_of) (sym (cut_separated f empty))

-- each of them may be cut out as a piece
module _ (part : (before p after : Forest) → FollowOneAnother (walk (joined before (joined p after))) → FollowOneAnother (walk p))
    (piece : (p : Forest) → FollowOneAnother (walk p) → StandsBehindFirst p) where
  parts_stand : (before : Forest) (ps : List Forest) → FollowOneAnother (walk (joined before (put_together ps))) → All StandsBehindFirst ps
  parts_stand before [] h = All-nil StandsBehindFirst
  parts_stand before (p ∷ ps) h =
      All-cons StandsBehindFirst p ps (piece p (part before p (put_together ps) h))
      (parts_stand (joined before p) ps (subst (λ g. FollowOneAnother (walk g)) (sym (joined_assoc before p (put_together ps))) h))

  pub cut_stands : (f : Forest) → put_together (cut f) ≡ f → FollowOneAnother (walk f) → All StandsBehindFirst (cut f)
  cut_stands f whole h = parts_stand empty (cut f) (subst (λ g. FollowOneAnother (walk g)) (sym whole) h)

-- ---- members

members_own : (layers : Layers) (depth : ℕ) (before : List Definition) (ps : List Forest) → map own_tree (members_after layers depth before ps) ≡ map relative ps
members_own layers depth before [] = refl
members_own layers depth before (p ∷ ps) = go (definition_of p) refl (λ now. members_own layers depth now ps)
  where
    go : (o : Option Definition) → definition_of p ≡ o → ((now : List Definition) → map own_tree (members_after layers depth now ps) ≡ map relative ps)
        → own_tree (member layers depth before p o) ∷ map own_tree (members_after layers depth (with_definition o before) ps) ≡ relative p ∷ map relative ps
    go None e later = ap (λ ts. relative p ∷ ts) (later before)
    go (Some d) e later =
        ap (λ (q : Forest). relative q ∷ map own_tree (members_after layers depth (d ∷ before) ps)) (definition_piece p d e)
        ∙ ap (λ ts. relative p ∷ ts) (later (d ∷ before))

inners : (ps : List Forest) → map (λ (t : Top). t.inner) (map top_of ps) ≡ map relative ps
inners [] = refl
inners (p ∷ ps) = ap (λ ts. relative p ∷ ts) (inners ps)

inners_of : (ps : List Forest) → map (λ (t : Top). t.inner) (map piece_of ps) ≡ map (λ p. (piece_of p).inner) ps
inners_of [] = refl
inners_of (p ∷ ps) = ap (λ ts. (piece_of p).inner ∷ ts) (inners_of ps)

pub member_trees : (layers : Layers) (depth : ℕ) (text : List ℕ) (f : Forest) → IsReading (text_steps text) f
    → map own_tree (members layers depth f) ≡ map (λ p. (piece_of p).inner) (cut f)
member_trees layers depth text f read =
    members_own layers depth [] (pieces f) ∙ sym (inners (pieces f)) ∙ ap (map (λ (t : Top). t.inner)) (sym (text_pieces text f read)) ∙ inners_of (cut f)
