-- Leaves that are appended one after another.
use Rattle.std.proofs.Common.{◌≡◌, refl, sym, ap, ◌∙◌, ℕ, ◌+◌, ◌<◌, ◌≤◌, Bool, true, false, List, [], ◌∷◌, map, length, get_or, drop, arith, Option, Some, None, option_map, subst}
use Rattle.std.specs.Prelude.{Result, IfOk}
use Rattle.std.proofs.lemmas.List.{drop_all, drop_more}
use Rattle.tt.specs.Building.{Building, extended, pushed, count_of, most_tokens}
use Rattle.tt_data.specs.Flat.{joined-empty}
use Rattle.tt_data.specs.Forest.{Forest, empty, leaf, joined, size}
use Rattle.tt_data.specs.declared.leaf.Leaf.{Leaf}
use Rattle.tt_data.specs.declared.leaf.Leaf.TheVariants as as_leaf
use Rattle.tt_data.specs.declared.leaf.Punct.{Punct}
use Rattle.tt_data.specs.declared.span.Span.{Span}
use Rattle.tt_data.specs.fault.TtFault.{TtFault}
use Rattle.mbe_transcriber.specs.Filling.{dollar_in, punct_leaves}
use Rattle.mbe_rules.specs.Relabelling.{punct_with}
use Rattle.mbe_rules.specs.Items.{Items, done, item, group_of, repetition, word, puncts, lifetime, dollar}
use Rattle.mbe_matcher.specs.Bindings.{Map}
use Rattle.mbe_transcriber.specs.Limits.{most_rounds}
use Rattle.mbe_transcriber.specs.Given.{Fills, IsBurstBy, ended, dollar_gives, dollar_place, plain_gives}
use Rattle.mbe_transcriber.specs.Markers.{is_name}
use Rattle.tt.proofs.Limits.{count-extended}
use Rattle.mbe_transcriber.proofs.PuttingLemmas.{extended-more, unsome}

all-after : (old : Building) (x : Forest) (y : Option Forest) → option_map (extended (extended old x)) y ≡ option_map (extended old) (option_map (joined x) y)
all-after old x None = refl
all-after old x (Some g) = ap Some (extended-more old x g)

-- what is put in after other trees
pub fills-after : (r : Result Bool TtFault) (old mid new : Building) (x : Forest) (y : Option Forest) → mid ≡ extended old x → Fills r mid new y →
    Fills r old new (option_map (joined x) y)
fills-after r old mid new x y e h =
    subst (λ t. IfOk r (λ b. ended b new ≡ t)) (ap (λ m. option_map (extended m) y) e ∙ all-after old x y) h

pub burst-after : (r : Result Bool TtFault) (old mid : Building) (x : Forest) (n : ℕ) → mid ≡ extended old x → IsBurstBy r mid n → IsBurstBy r old (size x + n)
burst-after r old mid x n e h = λ t. let less = h t in let k = ap count_of e in omega (arith, less, k, count-extended old x)

-- puncts that are left, changed, are what all were at first
abbrev pub PunctsFrom : (Punct → Punct) → List Punct → ℕ → (out old : Building) → Type 0
PunctsFrom f ps i out old = extended out (punct_leaves (map f (drop i ps))) ≡ extended old (punct_leaves (map f ps))

left-puncts : (f : Punct → Punct) (ps : List Punct) (i : ℕ) (d : Punct) → i < length ps →
    punct_leaves (map f (drop i ps)) ≡ leaf (as_leaf.Punct (f (get_or ps i d))) (punct_leaves (map f (drop (i + 1) ps)))
left-puncts f ps i d h = ap (λ xs. punct_leaves (map f xs)) (drop_more ps i d h)

pub punct-put : (f : Punct → Punct) (ps : List Punct) (i : ℕ) (d q : Punct) (out mid old : Building) → i < length ps →
    mid ≡ pushed out (as_leaf.Punct q) → q ≡ f (get_or ps i d) → PunctsFrom f ps i out old → PunctsFrom f ps (i + 1) mid old
punct-put f ps i d q out mid old h put is from =
    ap (λ b. extended b (punct_leaves (map f (drop (i + 1) ps)))) (put ∙ ap (λ x. pushed out (as_leaf.Punct x)) is)
    ∙ extended-more out (leaf (as_leaf.Punct (f (get_or ps i d))) empty) (punct_leaves (map f (drop (i + 1) ps)))
    ∙ sym (ap (extended out) (left-puncts f ps i d h)) ∙ from

pub puncts-put : (f : Punct → Punct) (ps : List Punct) (i : ℕ) (out old : Building) → length ps ≤ i → PunctsFrom f ps i out old →
    out ≡ extended old (punct_leaves (map f ps))
puncts-put f ps i out old h from =
    sym (ap (λ x. record out { here = x }) (joined-empty out.here)) ∙ sym (ap (λ xs. extended out (punct_leaves (map f xs))) (drop_all i ps h)) ∙ from

pub punct-burst : (f : Punct → Punct) (ps : List Punct) (i : ℕ) (d : Punct) (out old : Building) → i < length ps →
    count_of out ≡ most_tokens → PunctsFrom f ps i out old → most_tokens < count_of old + size (punct_leaves (map f ps))
punct-burst f ps i d out old h full from =
    let k = ap size (left-puncts f ps i d h) in
    omega (arith, full, k, ap count_of from, count-extended out (punct_leaves (map f (drop i ps))), count-extended old (punct_leaves (map f ps)))

-- one leaf, and then another
pub pair-added : (b one two : Building) (l m : Leaf) → one ≡ pushed b l → two ≡ pushed one m → two ≡ extended b (leaf l (leaf m empty))
pair-added b one two l m first second = second ∙ ap (λ t. extended t (leaf m empty)) first ∙ extended-more b (leaf l empty) (leaf m empty)

pub pair-lacks : (b one : Building) (l : Leaf) → one ≡ pushed b l → count_of one ≡ most_tokens → most_tokens < count_of b + 2
pair-lacks b one l first at_most = let k = count-extended b (leaf l empty) in omega (arith, at_most, ap count_of first, k)

pub same-puncts : (ps : List Punct) → map (λ p. p) ps ≡ ps
same-puncts [] = refl
same-puncts (p ∷ ps) = ap (λ xs. p ∷ xs) (same-puncts ps)

-- nothing is put in
pub nothing-put : (b : Building) → b ≡ extended b empty
nothing-put b = sym (ap (λ x. record b { here = x }) (joined-empty b.here))

-- what is told as ignored puts nothing in, else it is a fault
pub ignored-fills : (b : Building) (told : Bool) (x : Option Forest) → elim told [ true ↦ Some empty | false ↦ None ] ≡ x →
    ended told b ≡ option_map (extended b) x
ignored-fills b true x e = ap Some (nothing-put b) ∙ ap (option_map (extended b)) e
ignored-fills b false x e = ap (option_map (extended b)) e

-- a punct at the place that the marker answers
pub marked-put : (mark : Span → Span) (ps : List Punct) (i : ℕ) (d : Punct) (s : Span) (out mid old : Building) → i < length ps →
    mid ≡ pushed out (as_leaf.Punct (record (get_or ps i d) { span = s })) → s ≡ mark (get_or ps i d).span →
    PunctsFrom (punct_with mark) ps i out old → PunctsFrom (punct_with mark) ps (i + 1) mid old
marked-put mark ps i d s out mid old h put e from =
    punct-put (punct_with mark) ps i d _ out mid old h put (ap (λ t. record (get_or ps i d) { span = t }) e) from

-- what a `$` gives is what its item gives
pub plain-dollar : (mark : Span → Span) (bound : Map) (ns : List ℕ) (i : Items) (s : Span) → Some s ≡ dollar_place i →
    dollar_gives mark bound ns i (mark s) ≡ plain_gives mark bound ns i
plain-dollar mark bound ns (item (dollar d t) rest) s e = ap (λ u. dollar_in is_name most_rounds mark bound ns d (mark u)) (unsome e)
plain-dollar mark bound ns (item (word l) rest) s e = absurd (cc e)
plain-dollar mark bound ns (item (puncts ps) rest) s e = absurd (cc e)
plain-dollar mark bound ns (item (lifetime p i) rest) s e = absurd (cc e)
plain-dollar mark bound ns done s e = absurd (cc e)
plain-dollar mark bound ns (group_of d inner rest) s e = absurd (cc e)
plain-dollar mark bound ns (repetition body sep op rest) s e = absurd (cc e)
