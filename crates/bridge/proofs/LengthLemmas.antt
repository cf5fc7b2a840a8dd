-- Trees that are printed whole have short leaves, with each `;` of the list `Alone` or not.
use Rattle.std.proofs.Common.{◌≡◌, ℕ, ◌+◌, ◌<◌, ◌^◌, Bool, true, false, List, [], ◌∷◌, ◌++◌, length, refl, sym, subst, arith, if◌then◌else◌}
use Rattle.std.specs.Prelude.{nat_lt, Option, Some, None}
use Rattle.std.proofs.lemmas.Bool.{and_parts}
use Rattle.std.proofs.lemmas.Bool.Decides.{nat_tests}
use Rattle.tt.specs.Building.{alone}
use Rattle.tt_data.specs.Displayed.{displayed_leaf}
use Rattle.tt_data.specs.Forest.{Forest, empty, leaf, group}
use Rattle.tt_data.specs.Names.{prefix_of}
use Rattle.tt_data.specs.Walk.{Step, at_leaf, opens, closes, walk}
use Rattle.tt_data.specs.declared.leaf.Ident.{Ident}
use Rattle.tt_data.specs.declared.leaf.Leaf.{Leaf}
use Rattle.tt_data.specs.declared.leaf.Leaf.TheVariants as as_leaf
use Rattle.bridge.specs.Lengths.{AreShort, IsShort}
use Rattle.bridge.specs.Pieces.{separated}
use Rattle.bridge.specs.Printing.{left_out_from, print_of, unspelled, visible}
use Rattle.bridge.specs.Spelling.{is_short_text, is_text_of, leaf_spelling, root_name, spelled_leaf, spelling}
use Rattle.bridge.specs.Text.{is_punct, is_visible}
use Rattle.bridge.proofs.RootLemmas.{IsRootName, named, stays}
use Rattle.bridge.proofs.ReadSpelledLemmas.{AreFit}

-- ---- a leaf that has a spelling is short

low : (n m : ℕ) → nat_lt n m ≡ true → n < m
low n m e = grind (arith, nat_tests)

-- its text is one that is lexed
short_text : (l : Leaf) (text : List ℕ) → is_text_of l text ≡ true → length text < 2 ^ 32
short_text l text e =
    let one = and_parts (is_short_text text) _ e in
    let two = and_parts (nat_lt (length text) (2 ^ 32)) _ one.0 in
    low (length text) (2 ^ 32) two.0

spelled_text : (l : Leaf) (n : ℕ) → unspelled n (leaf_spelling l) ≡ [] → length (displayed_leaf (spelled_leaf l)) < 2 ^ 32
spelled_text l n e = go (is_text_of (spelled_leaf l) (displayed_leaf (spelled_leaf l))) refl e
  where
    go : (b : Bool) → is_text_of (spelled_leaf l) (displayed_leaf (spelled_leaf l)) ≡ b
        → unspelled n (if b then Some (displayed_leaf (spelled_leaf l)) else None) ≡ [] → length (displayed_leaf (spelled_leaf l)) < 2 ^ 32
    go true k h = short_text (spelled_leaf l) (displayed_leaf (spelled_leaf l)) k
    go false k h = absurd (cc h)

short_name : (i : Ident) (n : ℕ) → unspelled n (leaf_spelling (as_leaf.Ident i)) ≡ [] → length (displayed_leaf (as_leaf.Ident i)) < 2 ^ 32
short_name i n e = go (root_name i) refl
  where
    go : (o : Option (List ℕ)) → root_name i ≡ o → length (displayed_leaf (as_leaf.Ident i)) < 2 ^ 32
    go None k = subst (λ l. length (displayed_leaf l) < 2 ^ 32) (stays i k) (spelled_text (as_leaf.Ident i) n e)
    go (Some name) k =
        let root : IsRootName i name = named i name k in
        subst (λ r. length (prefix_of r ++ i.sym) < 2 ^ 32) (sym root.plain) root.short

short_leaf : (l : Leaf) (more : List Step) (n : ℕ) → unspelled n (spelling (at_leaf l) more) ≡ [] → IsShort l
short_leaf (as_leaf.Punct p) more n e = tt
short_leaf (as_leaf.Literal l) more n e = spelled_text (as_leaf.Literal l) n e
short_leaf (as_leaf.Ident i) more n e = short_name i n e

-- ---- steps of which nothing is left out

both_none : {A : Type 0} (xs ys : List A) → xs ++ ys ≡ [] → (xs ≡ []) × (ys ≡ [])
both_none [] ys e = (refl, e)
both_none (x ∷ xs) ys e = absurd (cc e)

bracket_short : (n : ℕ) (s : Step) (b : Bool) (more : List Step) → ((m : ℕ) → left_out_from m (visible more) ≡ [] → AreShort more)
    → left_out_from n (if b then s ∷ visible more else visible more) ≡ [] → AreShort more
bracket_short n s false more later e = later n e
bracket_short n s true more later e = later (n + 1) (both_none (unspelled n (spelling s (visible more))) (left_out_from (n + 1) (visible more)) e).1

steps_short : (n : ℕ) (ss : List Step) → left_out_from n (visible ss) ≡ [] → AreShort ss
steps_short n [] e = tt
steps_short n (at_leaf l ∷ more) e =
    let parts = both_none (unspelled n (spelling (at_leaf l) (visible more))) (left_out_from (n + 1) (visible more)) e in
    (short_leaf l (visible more) n parts.0, steps_short (n + 1) more parts.1)
steps_short n (opens kind span ∷ more) e = bracket_short n (opens kind span) (is_visible kind) more (λ m. steps_short m more) e
steps_short n (closes kind span ∷ more) e = bracket_short n (closes kind span) (is_visible kind) more (λ m. steps_short m more) e

pub printed_short : (ss : List Step) → (print_of ss).left_out ≡ [] → AreShort ss
printed_short ss e = steps_short 0 ss e

-- ---- each `;` alone, or not

short_append : (xs ys : List Step) → AreShort xs → AreShort ys → AreShort (xs ++ ys)
short_append [] ys a b = b
short_append (at_leaf l ∷ xs) ys a b = (a.0, short_append xs ys a.1 b)
short_append (opens kind span ∷ xs) ys a b = short_append xs ys a b
short_append (closes kind span ∷ xs) ys a b = short_append xs ys a b

short_parts : (xs ys : List Step) → AreShort (xs ++ ys) → AreShort xs × AreShort ys
short_parts [] ys h = (tt, h)
short_parts (at_leaf l ∷ xs) ys h = let r = short_parts xs ys h.1 in ((h.0, r.0), r.1)
short_parts (opens kind span ∷ xs) ys h = short_parts xs ys h
short_parts (closes kind span ∷ xs) ys h = short_parts xs ys h

not_alone : (b : Bool) (l : Leaf) → IsShort (if b then alone l else l) → IsShort l
not_alone false l h = h
not_alone true (as_leaf.Punct p) h = tt
not_alone true (as_leaf.Literal l) h = h
not_alone true (as_leaf.Ident i) h = h

pub not_separated : (f : Forest) → AreShort (walk (separated f)) → AreShort (walk f)
not_separated empty h = tt
not_separated (leaf l rest) h = (not_alone (is_punct ";" l) l h.0, not_separated rest h.1)
not_separated (group d inner rest) h =
    let parts = short_parts (walk inner) (closes d.kind d.close_span ∷ walk (separated rest)) h in
    short_append (walk inner) (closes d.kind d.close_span ∷ walk rest) parts.0 (not_separated rest parts.1)

pub fit_of : (ss : List Step) → AreShort ss → AreFit IsShort ss
fit_of [] h = tt
fit_of (at_leaf l ∷ more) h = (h.0, fit_of more h.1)
fit_of (opens kind span ∷ more) h = fit_of more h
fit_of (closes kind span ∷ more) h = fit_of more h
