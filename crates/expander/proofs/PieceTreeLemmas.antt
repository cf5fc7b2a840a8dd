-- The trees of a piece: its first event, its last one, and its `;`.
use Rattle.std.proofs.Common.{◌≡◌, ◌≢◌, Bool, true, false, List, [], ◌∷◌, ◌++◌, append_assoc, refl, sym, ap, ◌∙◌, if◌then◌else◌, inl, inr}
use Rattle.std.specs.Prelude.{◌⊎◌}
use Rattle.tt.specs.Building.{alone}
use Rattle.tt_data.proofs.ForestLemmas.{joined_assoc, map_spans-joined}
use Rattle.tt_data.specs.Forest.{Forest, empty, leaf, group, joined, map_spans}
use Rattle.tt_data.specs.Spans.{span_of}
use Rattle.tt_data.specs.Walk.{Step, at_leaf, closes, opens, walk}
use Rattle.tt_data.specs.declared.delimiter.Delimiter.{Delimiter}
use Rattle.tt_data.specs.declared.leaf.Leaf.{Leaf}
use Rattle.tt_data.specs.declared.leaf.Leaf.TheVariants as as_leaf
use Rattle.tt_data.specs.declared.leaf.Spacing.{Spacing}
use Rattle.tt_data.specs.declared.span.Span.{Span}
use Rattle.bridge.specs.Text.{is_punct}
use Rattle.expander.specs.PieceTokens.{last_end}
use Rattle.expander_model.specs.Pieces.{cut, cut_from, ends_piece, first_start, separated}
use Rattle.expander_model.specs.Splitting.{IsOpen, IsWhole}
use Rattle.expander.proofs.TokenStepLemmas.{is_end, spaced, starts_at, stops_at, with_spacing}
use Rattle.expander_model.proofs.WholeLemmas.{IsBegunAlways, ends_always, group_always, leaf_always, more_always, none_begun, open_always}

-- ---- the first step and the last one of trees

-- the last of the trees is a `;` or a group
abbrev pub is_ended : Forest → Bool
is_ended empty = false
is_ended (leaf l empty) = is_punct ";" l
is_ended (leaf l rest) = is_ended rest
is_ended (group d inner empty) = true
is_ended (group d inner rest) = is_ended rest

-- the trees, of which the last has this spacing where it is a `;`
abbrev pub spaced_trees : Spacing → Forest → Forest
spaced_trees spacing empty = empty
spaced_trees spacing (leaf l empty) = leaf (if is_punct ";" l then with_spacing spacing l else l) empty
spaced_trees spacing (leaf l rest) = leaf l (spaced_trees spacing rest)
spaced_trees spacing (group d inner empty) = group d inner empty
spaced_trees spacing (group d inner rest) = group d inner (spaced_trees spacing rest)

pub record HasFirst (f : Forest) : Type 0 where
  pub first : Step
  pub more : List Step
  pub is : walk f ≡ first ∷ more
  pub starts : starts_at first ≡ first_start f

pub first_step : (f : Forest) → f ≢ empty → HasFirst f
first_step empty some = absurd (some refl)
first_step (leaf l rest) some = record { first = at_leaf l; more = walk rest; is = refl; starts = refl }
first_step (group d inner rest) some =
    record { first = opens d.kind d.open_span; more = walk inner ++ (closes d.kind d.close_span ∷ walk rest); is = refl; starts = refl }

pub record HasLast (f : Forest) : Type 0 where
  pub front : List Step
  pub last : Step
  pub is : walk f ≡ front ++ last ∷ []
  pub stops : stops_at last ≡ last_end f
  pub ends : is_end last ≡ is_ended f
  pub again : (spacing : Spacing) → walk (spaced_trees spacing f) ≡ front ++ spaced spacing last ∷ []

-- a leaf or a group before others
last_behind_leaf : (l : Leaf) (f : Forest) → last_end (leaf l f) ≡ last_end f → is_ended (leaf l f) ≡ is_ended f → ((spacing : Spacing) → spaced_trees spacing (leaf l f) ≡ leaf l (spaced_trees spacing f)) → HasLast f → HasLast (leaf l f)
last_behind_leaf l f stop end trees h = record {
  front = at_leaf l ∷ h.front;
  last = h.last;
  is = ap (λ (w : List Step). at_leaf l ∷ w) h.is;
  stops = h.stops ∙ sym stop;
  ends = h.ends ∙ sym end;
  again = λ spacing. ap walk (trees spacing) ∙ ap (λ (w : List Step). at_leaf l ∷ w) (h.again spacing);
}

last_behind_group : (d : Delimiter) (inner f : Forest) → last_end (group d inner f) ≡ last_end f → is_ended (group d inner f) ≡ is_ended f → ((spacing : Spacing) → spaced_trees spacing (group d inner f) ≡ group d inner (spaced_trees spacing f))
    → HasLast f → HasLast (group d inner f)
last_behind_group d inner f stop end trees h =
    let before : List Step → List Step = λ w. opens d.kind d.open_span ∷ (walk inner ++ (closes d.kind d.close_span ∷ w)) in
    record {
      front = opens d.kind d.open_span ∷ (walk inner ++ (closes d.kind d.close_span ∷ h.front));
      last = h.last;
      is = ap before h.is ∙ ap (λ (w : List Step). opens d.kind d.open_span ∷ w) (sym (append_assoc (walk inner) (closes d.kind d.close_span ∷ h.front) (h.last ∷ [])));
      stops = h.stops ∙ sym stop;
      ends = h.ends ∙ sym end;
      again = λ spacing. ap walk (trees spacing) ∙ ap before (h.again spacing) ∙ ap (λ (w : List Step). opens d.kind d.open_span ∷ w) (sym (append_assoc (walk inner) (closes d.kind d.close_span ∷ h.front) (spaced spacing h.last ∷ [])));
    }

pub last_step : (f : Forest) → f ≢ empty → HasLast f
last_step empty some = absurd (some refl)
last_step (leaf l empty) some = record { front = []; last = at_leaf l; is = refl; stops = refl; ends = refl; again = λ spacing. refl }
last_step (leaf l (leaf m rest)) some = last_behind_leaf l (leaf m rest) refl refl (λ spacing. refl) (last_step (leaf m rest) (λ e. cc))
last_step (leaf l (group d inner rest)) some = last_behind_leaf l (group d inner rest) refl refl (λ spacing. refl) (last_step (group d inner rest) (λ e. cc))
last_step (group d inner empty) some =
    record { front = opens d.kind d.open_span ∷ walk inner; last = closes d.kind d.close_span; is = refl; stops = refl; ends = refl; again = λ spacing. refl }
last_step (group d inner (leaf m rest)) some = last_behind_group d inner (leaf m rest) refl refl (λ spacing. refl) (last_step (leaf m rest) (λ e. cc))
last_step (group d inner (group e more rest)) some = last_behind_group d inner (group e more rest) refl refl (λ spacing. refl) (last_step (group e more rest) (λ k. cc))

-- ---- each `;` of the list alone

span_alone : (b : Bool) (l : Leaf) → span_of (if b then alone l else l) ≡ span_of l
span_alone false l = refl
span_alone true (as_leaf.Literal l) = refl
span_alone true (as_leaf.Punct p) = refl
span_alone true (as_leaf.Ident i) = refl

punct_alone : (b : Bool) (l : Leaf) → is_punct ";" (if b then alone l else l) ≡ is_punct ";" l
punct_alone false l = refl
punct_alone true (as_leaf.Literal l) = refl
punct_alone true (as_leaf.Punct p) = refl
punct_alone true (as_leaf.Ident i) = refl

punct_spaced : (spacing : Spacing) (b : Bool) (l : Leaf) → is_punct ";" (if b then with_spacing spacing l else l) ≡ is_punct ";" l
punct_spaced spacing false l = refl
punct_spaced spacing true (as_leaf.Literal l) = refl
punct_spaced spacing true (as_leaf.Punct p) = refl
punct_spaced spacing true (as_leaf.Ident i) = refl

alone_spaced : (spacing : Spacing) (b : Bool) (l : Leaf)
    → (if b then alone (if b then with_spacing spacing l else l) else (if b then with_spacing spacing l else l)) ≡ (if b then alone l else l)
alone_spaced spacing false l = refl
alone_spaced spacing true (as_leaf.Literal l) = refl
alone_spaced spacing true (as_leaf.Punct p) = refl
alone_spaced spacing true (as_leaf.Ident i) = refl

pub first_separated : (f : Forest) → first_start (separated f) ≡ first_start f
first_separated empty = refl
first_separated (leaf l rest) = ap (λ (s : Span). s.range.start) (span_alone (is_punct ";" l) l)
first_separated (group d inner rest) = refl

pub end_separated : (f : Forest) → last_end (separated f) ≡ last_end f
end_separated empty = refl
end_separated (leaf l empty) = ap (λ (s : Span). s.range.«end») (span_alone (is_punct ";" l) l)
end_separated (leaf l (leaf m rest)) = end_separated (leaf m rest)
end_separated (leaf l (group d inner rest)) = end_separated (group d inner rest)
end_separated (group d inner empty) = refl
end_separated (group d inner (leaf m rest)) = end_separated (leaf m rest)
end_separated (group d inner (group e more rest)) = end_separated (group e more rest)

pub ended_separated : (f : Forest) → is_ended (separated f) ≡ is_ended f
ended_separated empty = refl
ended_separated (leaf l empty) = punct_alone (is_punct ";" l) l
ended_separated (leaf l (leaf m rest)) = ended_separated (leaf m rest)
ended_separated (leaf l (group d inner rest)) = ended_separated (group d inner rest)
ended_separated (group d inner empty) = refl
ended_separated (group d inner (leaf m rest)) = ended_separated (leaf m rest)
ended_separated (group d inner (group e more rest)) = ended_separated (group e more rest)

pub spaced_separated : (spacing : Spacing) (f : Forest) → separated (spaced_trees spacing f) ≡ separated f
spaced_separated spacing empty = refl
spaced_separated spacing (leaf l empty) =
    let now : Leaf = if is_punct ";" l then with_spacing spacing l else l in
    ap (λ (b : Bool). leaf (if b then alone now else now) empty) (punct_spaced spacing (is_punct ";" l) l)
    ∙ ap (λ (m : Leaf). leaf m empty) (alone_spaced spacing (is_punct ";" l) l)
spaced_separated spacing (leaf l (leaf m rest)) = ap (leaf (if is_punct ";" l then alone l else l)) (spaced_separated spacing (leaf m rest))
spaced_separated spacing (leaf l (group d inner rest)) = ap (leaf (if is_punct ";" l then alone l else l)) (spaced_separated spacing (group d inner rest))
spaced_separated spacing (group d inner empty) = refl
spaced_separated spacing (group d inner (leaf m rest)) = ap (group d inner) (spaced_separated spacing (leaf m rest))
spaced_separated spacing (group d inner (group e more rest)) = ap (group d inner) (spaced_separated spacing (group e more rest))

-- trees that are two lists once each `;` stands alone were two before
pub record Unjoined (f p rest : Forest) : Type 0 where
  pub first : Forest
  pub behind : Forest
  pub is : f ≡ joined first behind
  pub one : separated first ≡ p
  pub two : separated behind ≡ rest

behind_leaf : (m l : Leaf) (f p rest : Forest) → (if is_punct ";" m then alone m else m) ≡ l → Unjoined f p rest → Unjoined (leaf m f) (leaf l p) rest
behind_leaf m l f p rest same u =
    record { first = leaf m u.first; behind = u.behind; is = ap (leaf m) u.is; one = (λ i. leaf (same i) (u.one i)); two = u.two }

behind_group : (c d : Delimiter) (more inner f p rest : Forest) → c ≡ d → more ≡ inner → Unjoined f p rest → Unjoined (group c more f) (group d inner p) rest
behind_group c d more inner f p rest kinds inners u =
    record { first = group c more u.first; behind = u.behind; is = ap (group c more) u.is; one = (λ i. group (kinds i) (inners i) (u.one i)); two = u.two }

pub unjoin : (f p rest : Forest) → separated f ≡ joined p rest → Unjoined f p rest
unjoin f empty rest e = record { first = empty; behind = f; is = refl; one = refl; two = e }
unjoin empty (leaf l p) rest e = absurd (cc e)
unjoin (group d inner f) (leaf l p) rest e = absurd (cc e)
unjoin (leaf m f) (leaf l p) rest e = behind_leaf m l f p rest (cc) (unjoin f p rest (cc))
unjoin empty (group d inner p) rest e = absurd (cc e)
unjoin (leaf m f) (group d inner p) rest e = absurd (cc e)
unjoin (group c more f) (group d inner p) rest e = behind_group c d more inner f p rest (cc) (cc) (unjoin f p rest (cc))

-- ---- pieces

-- each of them has trees, and all but the last are ended
abbrev pub ArePieces : List Forest → Type 0
ArePieces [] = Unit {0}
ArePieces (p ∷ ps) = (p ≢ empty) × (is_ended p ≡ false → ps ≡ []) × ArePieces ps

ended_leaf : (f : Forest) (l : Leaf) → is_ended (joined f (leaf l empty)) ≡ is_punct ";" l
ended_leaf empty l = refl
ended_leaf (leaf m empty) l = refl
ended_leaf (leaf m (leaf n rest)) l = ended_leaf (leaf n rest) l
ended_leaf (leaf m (group d inner rest)) l = ended_leaf (group d inner rest) l
ended_leaf (group d inner empty) l = refl
ended_leaf (group d inner (leaf n rest)) l = ended_leaf (leaf n rest) l
ended_leaf (group d inner (group e more rest)) l = ended_leaf (group e more rest) l

ended_group : (f : Forest) (c : Delimiter) (trees : Forest) → is_ended (joined f (group c trees empty)) ≡ true
ended_group empty c trees = refl
ended_group (leaf m empty) c trees = refl
ended_group (leaf m (leaf n rest)) c trees = ended_group (leaf n rest) c trees
ended_group (leaf m (group d inner rest)) c trees = ended_group (group d inner rest) c trees
ended_group (group d inner empty) c trees = refl
ended_group (group d inner (leaf n rest)) c trees = ended_group (leaf n rest) c trees
ended_group (group d inner (group e more rest)) c trees = ended_group (group e more rest) c trees

ended_some : (f : Forest) → is_ended f ≡ true → f ≢ empty
ended_some empty h e = absurd (cc h)
ended_some (leaf l f) h e = cc
ended_some (group d inner f) h e = cc

one_more : (b : Bool) (p : Forest) (ps qs : List Forest) → (b ≡ true → is_ended p ≡ true) → ArePieces ps → ArePieces qs → ArePieces (if b then p ∷ ps else qs)
one_more false p ps qs ends are others = others
one_more true p ps qs ends are others = (ended_some p (ends refl), λ h. absurd (let k : true ≡ false = sym (ends refl) ∙ h in cc), are)

pub cut_pieces : (f begun : Forest) → ArePieces (cut_from f begun)
cut_pieces empty empty = tt
cut_pieces empty (leaf l begun) = (λ e. cc, λ h. refl, tt)
cut_pieces empty (group d inner begun) = (λ e. cc, λ h. refl, tt)
cut_pieces (leaf l rest) begun =
    one_more (is_punct ";" l) (joined begun (leaf l empty)) (cut_from rest empty) (cut_from rest (joined begun (leaf l empty)))
    (λ h. ended_leaf begun l ∙ h) (cut_pieces rest empty) (cut_pieces rest (joined begun (leaf l empty)))
cut_pieces (group d inner rest) begun =
    one_more (ends_piece begun d) (joined begun (group d inner empty)) (cut_from rest empty) (cut_from rest (joined begun (group d inner empty)))
    (λ h. ended_group begun d inner) (cut_pieces rest empty) (cut_pieces rest (joined begun (group d inner empty)))

-- a piece that ends by itself wherever it stands, or the last one, which nothing ends
abbrev pub IsShaped : Forest → List Forest → Type 0
IsShaped p ps = (IsWhole p × (is_ended p ≡ true)) ⊎ (IsOpen p × (ps ≡ []))

abbrev pub AreShaped : List Forest → Type 0
AreShaped [] = Unit {0}
AreShaped (p ∷ ps) = IsShaped p ps × AreShaped ps

-- one tree more
tree_more : (begun tree : Forest) → IsBegunAlways begun empty begun → IsBegunAlways (joined begun tree) tree begun
tree_more begun tree b = record {
  split = refl;
  same = λ f after.
      b.same f (joined (map_spans f tree) after)
      ∙ ap cut (sym (joined_assoc (map_spans f begun) (map_spans f tree) after) ∙ ap (λ (g : Forest). joined g after) (sym (map_spans-joined f begun tree)));
}

shape_or : (b : Bool) (p : Forest) (ps qs : List Forest) → (b ≡ true → IsWhole p × (is_ended p ≡ true)) → AreShaped ps → (b ≡ false → AreShaped qs) → AreShaped (if b then p ∷ ps else qs)
shape_or true p ps qs whole are others = (inl (whole refl), are)
shape_or false p ps qs whole are others = others refl

pub cut_shapes : (f begun : Forest) → IsBegunAlways begun empty begun → AreShaped (cut_from f begun)
cut_shapes empty empty b = tt
cut_shapes empty (leaf l begun) b = (inr (open_always (leaf l begun) empty (leaf l begun) b refl (λ e. cc), refl), tt)
cut_shapes empty (group d inner begun) b = (inr (open_always (group d inner begun) empty (group d inner begun) b refl (λ e. cc), refl), tt)
cut_shapes (leaf l rest) begun b =
    let tree : Forest = leaf l empty in
    let all : Forest = joined begun tree in
    shape_or (is_punct ";" l) all (cut_from rest empty) (cut_from rest all)
    (λ e. (ends_always all tree empty begun tree (tree_more begun tree b) refl refl (leaf_always l begun true (sym e)), ended_leaf begun l ∙ e))
    (cut_shapes rest empty (none_begun empty))
    (λ e. cut_shapes rest all (more_always all tree empty begun tree (tree_more begun tree b) refl (leaf_always l begun false (sym e))))
cut_shapes (group d inner rest) begun b =
    let tree : Forest = group d inner empty in
    let all : Forest = joined begun tree in
    shape_or (ends_piece begun d) all (cut_from rest empty) (cut_from rest all)
    (λ e. (ends_always all tree empty begun tree (tree_more begun tree b) refl refl (group_always d inner begun true (sym e)), ended_group begun d inner))
    (cut_shapes rest empty (none_begun empty))
    (λ e. cut_shapes rest all (more_always all tree empty begun tree (tree_more begun tree b) refl (group_always d inner begun false (sym e))))
