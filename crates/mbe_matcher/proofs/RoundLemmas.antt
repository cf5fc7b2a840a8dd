-- Where one thread alone waits after another.
use Rattle.std.proofs.Common.{◌≡◌, inl, inr, refl, sym, ap, subst, ◌∙◌, ℕ, zero, suc, ◌<◌, arith, Bool, true, false, List, [], ◌∷◌, ◌++◌, if◌then◌else◌, map, Some}
use Rattle.std.proofs.lemmas.List.{append_assoc}
use Rattle.std.specs.List.{flat_map}
use Rattle.tt_data.specs.Forest.{Forest, empty, leaf, group, joined}
use Rattle.tt_data.proofs.ForestLemmas.{joined_assoc}
use Rattle.tt_data.specs.declared.leaf.Leaf.TheVariants as as_leaf
use Rattle.tt_data.specs.declared.leaf.Punct.{Punct}
use Rattle.tt_data.specs.declared.span.Span.{Span}
use Rattle.mbe_rules.specs.Items.{dollar, variable, Items, done, item}
use Rattle.mbe_rules.specs.Text.{is_char}
use Rattle.mbe_rules.specs.Trees.{before, past}
use Rattle.mbe_rules.specs.declared.parser.MetaVarKind.{MetaVarKind}
use Rattle.mbe_rules.specs.declared.parser.RepeatKind.{RepeatKind}
use Rattle.mbe_matcher.specs.Fragments.{taken}
use Rattle.mbe_matcher.specs.Grammar.{Grammar}
use Rattle.mbe_matcher.specs.Paths.{IsAmong, when}
use Rattle.mbe_matcher.specs.Readings as r
use Rattle.mbe_matcher.specs.Rounds.{lone, IsShut, HasLone, WaitsAfter, AreSingle, single, one_more}
use Rattle.mbe_matcher.specs.Threads.{contributes, extended, rounds_of}
use Rattle.mbe_matcher.specs.Units as u
use Rattle.mbe_matcher.specs.Waiting.{Good, pending, prefixed, settled_at}
use Rattle.mbe_matcher.specs.Ways.{Follows, goes_on}
use Rattle.mbe_matcher.proofs.MoveLemmas.{does, fragment-lowers}
use Rattle.mbe_matcher.proofs.PlaceLemmas.{before-past}
use Rattle.mbe_matcher.proofs.SettlingLemmas.{settled-goes_on}

-- nothing goes on there but at an end
shut-over : (gr : Grammar) (fs : List r.Frame) (p : u.Place) → IsShut fs → u.is_end p ≡ false → u.same_unit u.closing (u.unit_at p) ≡ false →
    (r.has_used_up (r.at done fs p) ≡ false) × (r.next gr (r.at done fs p) ≡ [])
shut-over gr [] p h e c = (e, refl)
shut-over gr (r.in_group after ∷ fs) p h e c = (refl, ap (λ b. when b (r.unit_move, r.at after fs (u.after_unit p))) c)
shut-over gr (r.in_round body sep op after ∷ fs) p h e c = absurd h
shut-over gr (r.parted body sep op after ∷ fs) p h e c = absurd h

-- another round is the only way on
only-round : (gr : Grammar) (ms : List r.Move) (n : List ℕ) (k : MetaVarKind) (s : Span) (op : RepeatKind) (fs : List r.Frame) (p : u.Place) (i N : ℕ) →
    r.may_repeat op ≡ true → IsShut fs → u.is_end p ≡ false → u.same_unit u.closing (u.unit_at p) ≡ false →
    taken gr k (r.trees_here p) ≡ Some (suc i) → Good N (r.at done (lone n k s op ∷ fs) p) →
    map (prefixed ms) (settled_at gr (r.at done (lone n k s op ∷ fs) p))
    ≡ pending ((ms ++ (r.next_round ∷ [])) ++ (r.fragment_move n k (before (suc i) (r.trees_here p)) ∷ [])) true
    (r.at done (lone n k s op ∷ fs) (r.past_trees (suc i) p)) ∷ []
only-round gr ms n k s op fs p i N rep shut e c t g =
    let body = item (dollar (variable n (Some k)) s) done in
    let frames = lone n k s op ∷ fs in
    let again : r.Choice = (r.next_round, r.at body frames p) in
    let out : r.Choice = (r.leave, r.at done fs p) in
    let both : r.next gr (r.at done frames p) ≡ again ∷ out ∷ [] = ap (λ b. when b again ++ (out ∷ [])) rep in
    let g1 = (does gr N (r.at done frames p) again (subst (IsAmong again) (sym both) (inl refl))).good g in
    let g2 = (does gr N (r.at done frames p) out (subst (IsAmong out) (sym both) (inr (inl refl)))).good g in
    let over = shut-over gr fs p shut e c in
    let one = settled-goes_on gr (ms ++ (r.next_round ∷ [])) (r.at body frames p) N g1 refl
    ∙ ap (λ o. flat_map (contributes gr) (map (extended (ms ++ (r.next_round ∷ []))) (r.fragment_moves n k o done frames p))) t in
    let two = settled-goes_on gr (ms ++ (r.leave ∷ [])) (r.at done fs p) N g2 over.0
    ∙ ap (λ cs. flat_map (contributes gr) (map (extended (ms ++ (r.leave ∷ []))) cs)) over.1 in
    settled-goes_on gr ms (r.at done frames p) N g refl
    ∙ ap (λ cs. flat_map (contributes gr) (map (extended ms) cs)) both
    ∙ ap (λ x. x ++ (map (prefixed (ms ++ (r.leave ∷ []))) (settled_at gr (r.at done fs p)) ++ [])) one
    ∙ ap (λ x. (pending ((ms ++ (r.next_round ∷ [])) ++ (r.fragment_move n k (before (suc i) (r.trees_here p)) ∷ [])) true
    (r.at done frames (r.past_trees (suc i) p)) ∷ []) ++ (x ++ [])) two

-- so one path waits after these moves
pub waits-after : (gr : Grammar) (ms : List r.Move) (items : Items) (frames : List r.Frame) (n : List ℕ) (k : MetaVarKind) (p : u.Place) (count : ℕ) →
    HasLone items frames n k → u.is_end p ≡ false → u.same_unit u.closing (u.unit_at p) ≡ false →
    taken gr k (r.trees_here p) ≡ Some count → (count ≡ 0 → ⊥) →
    WaitsAfter gr ms (r.at items frames p)
    (pending ((ms ++ (r.next_round ∷ [])) ++ (r.fragment_move n k (before count (r.trees_here p)) ∷ [])) true (r.at items frames (r.past_trees count p)))
waits-after gr ms items frames n k p zero h e c t z = absurd (z refl)
waits-after gr ms items frames n k p (suc i) (d, (s, op, fs, f, rep, shut)) e c t z =
    let made = (ms ++ (r.next_round ∷ [])) ++ (r.fragment_move n k (before (suc i) (r.trees_here p)) ∷ []) in
    subst (λ x. WaitsAfter gr ms (r.at x frames p) (pending made true (r.at x frames (r.past_trees (suc i) p)))) (sym d)
    (subst (λ y. WaitsAfter gr ms (r.at done y p) (pending made true (r.at done y (r.past_trees (suc i) p)))) (sym f)
    (λ N g. only-round gr ms n k s op fs p i N rep shut e c t g))

no-closing : (p : Punct) (f : Forest) → u.same_unit u.closing (u.punct_unit p f) ≡ false
no-closing p empty = refl
no-closing p (group d inner rest) = refl
no-closing p (leaf (as_leaf.Literal l) rest) = refl
no-closing p (leaf (as_leaf.Punct q) rest) = refl
no-closing p (leaf (as_leaf.Ident i) rest) = go (is_char "'" p)
  where
    go : (b : Bool) → u.same_unit u.closing (if b then u.a_lifetime i.sym else u.glued (p.char ∷ [])) ≡ false
    go true = refl
    go false = refl

-- where trees are left is no end
not-over : (f : Forest) (outer : List Forest) → (f ≡ empty → ⊥) → (u.is_end (u.place f outer) ≡ false) × (u.same_unit u.closing (u.unit_at (u.place f outer)) ≡ false)
not-over empty outer h = absurd (h refl)
not-over (group d inner rest) outer h = (refl, refl)
not-over (leaf (as_leaf.Literal l) rest) outer h = (refl, refl)
not-over (leaf (as_leaf.Ident i) rest) outer h = (refl, refl)
not-over (leaf (as_leaf.Punct p) rest) outer h = (refl, no-closing p rest)

-- one round more
pub follows-round : (gr : Grammar) (ms : List r.Move) (s : r.State) (outer : List Forest) (f : Forest) (next : ℕ) (n : List ℕ) (k : MetaVarKind)
    (items : Items) (frames : List r.Frame) (ns : List r.Move) →
    Follows gr ms s ns (r.at items frames (u.place f outer)) →
    HasLone items frames n k → (f ≡ empty → ⊥) → taken gr k f ≡ Some next → (next ≡ 0 → ⊥) →
    Follows gr ms s (ns ++ (r.next_round ∷ r.fragment_move n k (before next f) ∷ [])) (r.at items frames (u.place (past next f) outer))
follows-round gr ms s outer f next n k items frames ns h alone left some more =
    let over = not-over f outer left in
    goes_on h (subst (λ x. WaitsAfter gr ns (r.at items frames (u.place f outer)) (pending x true (r.at items frames (u.place (past next f) outer))))
    (append_assoc ns (r.next_round ∷ []) (r.fragment_move n k (before next f) ∷ []))
    (waits-after gr ns items frames n k (u.place f outer) next alone over.0 over.1 some more))

-- a round of one tree
one-round : (n : List ℕ) (k : MetaVarKind) (f : Forest) → (f ≡ empty → ⊥) →
    r.next_round ∷ r.fragment_move n k (before 1 f) ∷ [] ≡ rounds_of n k (before 1 f)
one-round n k empty h = absurd (h refl)
one-round n k (leaf l rest) h = refl
one-round n k (group d inner rest) h = refl

-- rounds of these trees and of those after them
rounds-joined : (n : List ℕ) (k : MetaVarKind) (f g : Forest) → rounds_of n k (joined f g) ≡ rounds_of n k f ++ rounds_of n k g
rounds-joined n k empty g = refl
rounds-joined n k (leaf l rest) g = ap (λ ms. r.next_round ∷ r.fragment_move n k (leaf l empty) ∷ ms) (rounds-joined n k rest g)
rounds-joined n k (group d inner rest) g = ap (λ ms. r.next_round ∷ r.fragment_move n k (group d inner empty) ∷ ms) (rounds-joined n k rest g)

-- a round more of one tree
round-last : (n : List ℕ) (k : MetaVarKind) (ms : List r.Move) (ts f : Forest) → (f ≡ empty → ⊥) →
    (ms ++ rounds_of n k ts) ++ (r.next_round ∷ r.fragment_move n k (before 1 f) ∷ []) ≡ ms ++ rounds_of n k (joined ts (before 1 f))
round-last n k ms ts f h =
    append_assoc ms (rounds_of n k ts) (r.next_round ∷ r.fragment_move n k (before 1 f) ∷ [])
    ∙ ap (λ l. ms ++ (rounds_of n k ts ++ l)) (one-round n k f h)
    ∙ ap (λ l. ms ++ l) (sym (rounds-joined n k ts (before 1 f)))

-- rounds of one tree each
pub follows-singles : (gr : Grammar) (ms : List r.Move) (s : r.State) (outer : List Forest) (f : Forest) (n : List ℕ) (k : MetaVarKind)
    (items : Items) (frames : List r.Frame) (ns : List r.Move) →
    Follows gr ms s ns (r.at items frames (u.place f outer)) →
    HasLone items frames n k → (ts rest : Forest) → AreSingle gr k f ts rest →
    Follows gr ms s (ns ++ rounds_of n k ts) (r.at items frames (u.place rest outer))
follows-singles gr ms s outer f n k items frames ns h alone _ _ (single left some) =
    subst (λ l. Follows gr ms s (ns ++ l) (r.at items frames (u.place (past 1 f) outer))) (one-round n k f left)
    (follows-round gr ms s outer f 1 n k items frames ns h alone left some (λ z. cc z))
follows-singles gr ms s outer f n k items frames ns h alone _ _ (one_more {ts} {rest} x left some) =
    subst (λ l. Follows gr ms s l (r.at items frames (u.place (past 1 rest) outer))) (round-last n k ns ts rest left)
    (follows-round gr ms s outer rest 1 n k items frames (ns ++ rounds_of n k ts)
    (follows-singles gr ms s outer f n k items frames ns h alone ts rest x) alone left some (λ z. cc z))

-- fewer trees are left behind it
pub round-lowers : (gr : Grammar) (k : MetaVarKind) (n : ℕ) (f g : Forest) → taken gr k f ≡ Some n → (n ≡ 0 → ⊥) → g ≡ past n f →
    u.left (u.place g []) < u.left (u.place f [])
round-lowers gr k zero f g e z h = absurd (z refl)
round-lowers gr k (suc i) f g e z h = subst (λ x. u.left (u.place x []) < u.left (u.place f [])) (sym h) (fragment-lowers gr k i f [] e)

pub singles-lower : (gr : Grammar) (k : MetaVarKind) (f ts rest : Forest) → AreSingle gr k f ts rest →
    u.left (u.place rest []) < u.left (u.place f [])
singles-lower gr k f _ _ (single left some) = round-lowers gr k 1 f (past 1 f) some (λ z. cc z) refl
singles-lower gr k f _ _ (one_more {ts} {rest} s left some) =
    let a = singles-lower gr k f ts rest s in
    let b = round-lowers gr k 1 rest (past 1 rest) some (λ z. cc z) refl in
    omega (arith, a, b)

-- and all of them are passed
pub singles-joined : (gr : Grammar) (k : MetaVarKind) (f ts rest : Forest) → AreSingle gr k f ts rest → f ≡ joined ts rest
singles-joined gr k f _ _ (single left some) = before-past 1 f
singles-joined gr k f _ _ (one_more {ts} {rest} s left some) =
    singles-joined gr k f ts rest s ∙ ap (joined ts) (before-past 1 rest) ∙ sym (joined_assoc ts (before 1 rest) (past 1 rest))
