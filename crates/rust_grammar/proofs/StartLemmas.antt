-- A node whose classes lack that of the first tree misses.
use Rattle.std.proofs.Common.{◌≡◌, ℕ, suc, zero, ◌+◌, ◌-◌, ◌*◌, ◌/◌, ◌^◌, ◌%◌, ◌≤◌, ◌<◌, min, Bool, true, false, ◌&&◌, List, [], ◌∷◌, length, get_or, refl, sym, ap, ◌∙◌, subst, arith, Some}
use Rattle.std.specs.Prelude.{nat_lt, nat_le, bit_and, slice_get}
use Rattle.std.specs.Int.{bit_at}
use Rattle.std.proofs.lemmas.Bool.{and_parts, ltb-true, ltb-false, leb-true}
use Rattle.std.proofs.lemmas.Option.{get_or_from_slice_get}
use Rattle.std.proofs.lemmas.Nat.Bits.{bit_at_ones, shr_and_one}
use Rattle.tt_data.specs.Editions.{year_of}
use Rattle.tt_data.specs.Forest.{Forest, empty, leaf, group, size}
use Rattle.tt_data.specs.declared.delimiter.DelimiterKind.{DelimiterKind}
use Rattle.tt_data.specs.declared.delimiter.DelimiterKind.TheVariants.{Parenthesis, Brace, Bracket, Invisible}
use Rattle.tt_data.specs.declared.edition.Edition.{Edition}
use Rattle.tt_data.specs.declared.leaf.Leaf.TheVariants as as_leaf
use Rattle.rust_grammar.specs.Classes.{ident_class, group_class, class_of}
use Rattle.rust_grammar.specs.Starts.{starts_at, levels_at, has_token}
use Rattle.rust_grammar.specs.Expressions.{found, nothing_if}
use Rattle.rust_grammar.specs.Table.{node_at, root_at, is_sound, comes_at, set_texts, word_text}
use Rattle.rust_grammar.specs.declared.node.Node.{Node}
use Rattle.rust_grammar.specs.declared.node.Node.TheVariants as node
use Rattle.rust_grammar.specs.declared.outcome.Outcome.TheVariants.{Fits, Misses}
use Rattle.rust_grammar.specs.declared.table.TheConstants.{NODES, IDENTS, SIGNS, STARTS}
use Rattle.rust_grammar.proofs.ClassLemmas.{token-out}
use Rattle.rust_grammar.proofs.StepLemmas.{two_parts, one_part, token_comes, since_comes, then_fits, then_misses, or_misses, many_comes, maybe_comes, unless_comes, rule_on, rounds_end}
use Rattle.rust_grammar.proofs.TableLemmas.{node-sound, root-says, root-within}

-- ---- what is computed

-- the classes below n of the first set are in the second
abbrev covers : ℕ → ℕ → ℕ → Bool
covers zero a b = true
covers (suc n) a b = nat_le (bit_at a n) (bit_at b n) && covers n a b

-- what the table says of a node holds for one of its parts
abbrev has_part : ℕ → ℕ → Bool
has_part i j = covers 60 (starts_at j) (starts_at i) && nat_le (levels_at j) (levels_at i)

-- a node may do anything with any tree
abbrev has_all : ℕ → Bool
has_all i = covers 60 (2 ^ 60 - 1) (starts_at i)

abbrev is_first : ℕ → ℕ → Node → Bool
is_first i n node.Maybe = has_part i (i + 2) && has_part i (i + n)
is_first i n node.Many = has_part i (i + 2) && has_part i (i + n)
is_first i n node.Unless = has_part i (i + 2) && has_part i (i + n)
is_first i n (node.Since first) = has_part i (i + n)
is_first i n _ = has_part i (i + 1)

-- what the table says of a node follows from what it says of its parts
abbrev is_start : ℕ → Node → Bool
is_start i (node.Token t) = has_token (starts_at i) t
is_start i (node.Then n) = is_first i n (node_at (i + 1))
is_start i (node.Or n) = has_part i (i + 1) && has_part i (i + n)
is_start i (node.Rule k) = covers 60 (starts_at (root_at k)) (starts_at i) && nat_lt (levels_at (root_at k)) (levels_at i)
is_start i _ = has_all i

abbrev all_start : ℕ → List Node → Bool
all_start i [] = true
all_start i (n ∷ ns) = is_start i n && all_start (suc i) ns

all_nodes_start : all_start 0 NODES ≡ true
unfolding starts_at node_at root_at set_texts word_text
all_nodes_start = refl

abbrev all_below : List ℕ → Bool
all_below [] = true
all_below (c ∷ cs) = nat_lt c 60 && all_below cs

idents_below : all_below IDENTS ≡ true
idents_below = refl

signs_below : all_below SIGNS ≡ true
signs_below = refl

-- ---- classes

below : (cs : List ℕ) (k d : ℕ) → d < 60 → all_below cs ≡ true → get_or cs k d < 60
below [] k d small all = small
below (c ∷ cs) zero d small all = ltb-true c 60 (and_parts (nat_lt c 60) (all_below cs) all).0
below (c ∷ cs) (suc k) d small all = below cs k d small (and_parts (nat_lt c 60) (all_below cs) all).1

ident-below : (k : ℕ) → get_or IDENTS k 6 < 60
ident-below k = below IDENTS k 6 (omega arith) idents_below

sign-below : (k : ℕ) → get_or SIGNS k 7 < 60
sign-below k = below SIGNS k 7 (omega arith) signs_below

ident_class-below : (text : List ℕ) → ident_class text < 60
ident_class-below [] = omega arith
ident_class-below (b ∷ bs) = ident-below (min (length bs) 15 * 32 + b % 32)

group_class-below : (k : DelimiterKind) → group_class k < 60
group_class-below Parenthesis = omega arith
group_class-below Brace = omega arith
group_class-below Bracket = omega arith
group_class-below Invisible = omega arith

pub class-below : (f : Forest) → class_of f < 60
class-below empty = omega arith
class-below (leaf (as_leaf.Ident i) rest) = ident_class-below i.sym
class-below (leaf (as_leaf.Punct p) rest) = sign-below (min p.char 127)
class-below (leaf (as_leaf.Literal l) rest) = omega arith
class-below (group d inner rest) = group_class-below d.kind

-- ---- what is read of the tables

pub starts-read : (k n : ℕ) → slice_get STARTS k ≡ Some n → n ≡ starts_at k
unfolding starts_at
starts-read k n e = sym (get_or_from_slice_get STARTS k n 0 e)

-- ---- sets

-- at the last class, or below it
last_or_below : (n a b c : ℕ) → nat_le (bit_at a n) (bit_at b n) ≡ true → (c < n → bit_at a c ≤ bit_at b c) → c < suc n → (t : Bool) → nat_lt c n ≡ t → bit_at a c ≤ bit_at b c
last_or_below n a b c last others less true e = others (ltb-true c n e)
last_or_below n a b c last others less false e =
    let above = ltb-false c n e in
    let same : n ≡ c = omega (arith, less, above) in
    subst (λ x. bit_at a x ≤ bit_at b x) same (leb-true (bit_at a n) (bit_at b n) last)

covered : (n a b c : ℕ) → covers n a b ≡ true → c < n → bit_at a c ≤ bit_at b c
covered zero a b c all less = absurd (omega (arith, less))
covered (suc n) a b c all less =
    let parts = and_parts (nat_le (bit_at a n) (bit_at b n)) (covers n a b) all in
    last_or_below n a b c parts.0 (λ below_n. covered n a b c parts.1 below_n) less (nat_lt c n) refl

start_at : (i j : ℕ) (ns : List Node) → j < length ns → all_start i ns ≡ true → is_start (i + j) (get_or ns j node.Many) ≡ true
start_at i j [] fits e = absurd (omega (arith, fits))
start_at i zero (n ∷ ns) fits e = (let same : i + 0 ≡ i = omega arith in rw same (and_parts (is_start i n) (all_start (suc i) ns) e).0)
start_at i (suc j) (n ∷ ns) fits e =
    let same : i + suc j ≡ suc i + j = omega arith in
    rw same (start_at (suc i) j ns (omega (arith, fits)) (and_parts (is_start i n) (all_start (suc i) ns) e).1)

nodes_long : length NODES ≡ 1564
nodes_long = refl

node-start : (i : ℕ) → i < 1564 → is_start i (node_at i) ≡ true
unfolding node_at
node-start i fits = (let same : 0 + i ≡ i = omega arith in subst (λ k. is_start k (get_or NODES i node.Many) ≡ true) same (start_at 0 i NODES (omega (arith, fits, nodes_long)) all_nodes_start))

-- ---- nodes

module _ (ed : Edition) (f : Forest) where
  -- a node misses where its classes lack that of the first tree
  abbrev MissesAt : ℕ → ℕ → Type 0
  MissesAt levels i = levels_at i ≤ levels → bit_at (starts_at i) (class_of f) ≡ 0 → comes_at ed levels i f ≡ Misses

  lacks : (i j : ℕ) → covers 60 (starts_at j) (starts_at i) ≡ true → bit_at (starts_at i) (class_of f) ≡ 0 → bit_at (starts_at j) (class_of f) ≡ 0
  lacks i j all out = (let h = covered 60 (starts_at j) (starts_at i) (class_of f) all (class-below f) in omega (arith, h, out))

  full : (i : ℕ) → has_all i ≡ true → bit_at (starts_at i) (class_of f) ≡ 0 → ⊥
  full i all out =
      let h = covered 60 (2 ^ 60 - 1) (starts_at i) (class_of f) all (class-below f) in
      let one = bit_at_ones 60 (class_of f) (class-below f) in
      omega (arith, h, out, one)

  module _ (levels i : ℕ) (fits : i < 1564) (deep : levels_at i ≤ levels) (out : bit_at (starts_at i) (class_of f) ≡ 0)
      (below_it : (l j : ℕ) → j < 1564 → l * 2000 + (1564 - j) < levels * 2000 + (1564 - i) → MissesAt l j) where
    part : (j : ℕ) → i < j → j < 1564 → has_part i j ≡ true → comes_at ed levels j f ≡ Misses
    part j later within has =
        let parts = and_parts (covers 60 (starts_at j) (starts_at i)) (nat_le (levels_at j) (levels_at i)) has in
        let less = leb-true (levels_at j) (levels_at i) parts.1 in
        below_it levels j within (omega (arith, later, within)) (omega (arith, less, deep)) (lacks i j parts.0 out)

    -- a first part that takes nothing, and a second that misses
    behind_nothing : (n : ℕ) → node.Then n ≡ node_at i → 1 < n → i + n < 1564 → has_part i (i + n) ≡ true → comes_at ed levels (i + 1) f ≡ Fits f → comes_at ed levels i f ≡ Misses
    behind_nothing n e more within has nothing =
        sym (then_fits ed levels i fits n f f e (sym nothing)) ∙ part (i + n) (omega (arith, more)) within has

    by_first : (n : ℕ) → node.Then n ≡ node_at i → 1 < n → i + n < 1564 → (first : Node) → first ≡ node_at (i + 1) → is_sound (i + 1) first ≡ true → is_first i n first ≡ true →
        comes_at ed levels i f ≡ Misses
    by_first n e more within node.Maybe is sound has =
        let parts = and_parts (has_part i (i + 2)) (has_part i (i + n)) has in
        let inner = one_part (i + 1) sound in
        let same : i + 1 + 1 ≡ i + 2 = omega arith in
        let missed : Misses ≡ comes_at ed levels (i + 1 + 1) f = sym (ap (λ k. comes_at ed levels k f) same ∙ part (i + 2) (omega arith) (omega (arith, inner)) parts.0) in
        behind_nothing n e more within parts.1 (sym (maybe_comes ed levels (i + 1) (omega (arith, more, within)) f Misses is missed))
    by_first n e more within node.Many is sound has =
        let parts = and_parts (has_part i (i + 2)) (has_part i (i + n)) has in
        let inner = one_part (i + 1) sound in
        let same : i + 1 + 1 ≡ i + 2 = omega arith in
        let missed : Misses ≡ comes_at ed levels (i + 1 + 1) f = sym (ap (λ k. comes_at ed levels k f) same ∙ part (i + 2) (omega arith) (omega (arith, inner)) parts.0) in
        behind_nothing n e more within parts.1
        (sym (rounds_end (suc (size f)) (size f) (comes_at ed levels (i + 1 + 1)) f refl missed ∙ many_comes ed levels (i + 1) (omega (arith, more, within)) f is))
    by_first n e more within node.Unless is sound has =
        let parts = and_parts (has_part i (i + 2)) (has_part i (i + n)) has in
        let inner = one_part (i + 1) sound in
        let same : i + 1 + 1 ≡ i + 2 = omega arith in
        let missed : Misses ≡ comes_at ed levels (i + 1 + 1) f = sym (ap (λ k. comes_at ed levels k f) same ∙ part (i + 2) (omega arith) (omega (arith, inner)) parts.0) in
        behind_nothing n e more within parts.1 (sym (unless_comes ed levels (i + 1) (omega (arith, more, within)) f Misses is missed))
    by_first n e more within (node.Since first) is sound has = by_edition (nat_le (year_of first) (year_of ed)) refl
      where
        by_edition : (b : Bool) → nat_le (year_of first) (year_of ed) ≡ b → comes_at ed levels i f ≡ Misses
        by_edition true b = behind_nothing n e more within has (sym (since_comes ed levels (i + 1) (omega (arith, more, within)) first f is) ∙ ap (λ t. nothing_if t f) b)
        by_edition false b =
            sym (then_misses ed levels i fits n f e (sym (ap (λ t. nothing_if t f) b) ∙ since_comes ed levels (i + 1) (omega (arith, more, within)) first f is))
    by_first n e more within (node.Token t) is sound has = sym (then_misses ed levels i fits n f e (sym (part (i + 1) (omega arith) (omega (arith, more, within)) has)))
    by_first n e more within (node.Then k) is sound has = sym (then_misses ed levels i fits n f e (sym (part (i + 1) (omega arith) (omega (arith, more, within)) has)))
    by_first n e more within (node.Or k) is sound has = sym (then_misses ed levels i fits n f e (sym (part (i + 1) (omega arith) (omega (arith, more, within)) has)))
    by_first n e more within node.Surely is sound has = sym (then_misses ed levels i fits n f e (sym (part (i + 1) (omega arith) (omega (arith, more, within)) has)))
    by_first n e more within (node.Rule k) is sound has = sym (then_misses ed levels i fits n f e (sym (part (i + 1) (omega arith) (omega (arith, more, within)) has)))

    by_node : (n : Node) → n ≡ node_at i → is_sound i n ≡ true → is_start i n ≡ true → comes_at ed levels i f ≡ Misses
    by_node (node.Token t) e sound has = sym (token_comes ed levels i fits t f e) ∙ ap found (token-out (starts_at i) ed t f has out)
    by_node (node.Since first) e sound has = absurd (full i has out)
    by_node (node.Then n) e sound has =
        let parts = two_parts i n sound in
        by_first n e parts.0 parts.1 (node_at (i + 1)) refl (node-sound (i + 1) (omega (arith, parts.0, parts.1))) has
    by_node (node.Or n) e sound has =
        let parts = two_parts i n sound in
        let both = and_parts (has_part i (i + 1)) (has_part i (i + n)) has in
        sym (or_misses ed levels i fits n f e (sym (part (i + 1) (omega arith) (omega (arith, parts.0, parts.1)) both.0)))
        ∙ part (i + n) (omega (arith, parts.0)) parts.1 both.1
    by_node node.Many e sound has = absurd (full i has out)
    by_node node.Maybe e sound has = absurd (full i has out)
    by_node node.Surely e sound has = absurd (full i has out)
    by_node node.Unless e sound has = absurd (full i has out)
    by_node (node.Rule k) e sound has =
        let both = and_parts (covers 60 (starts_at (root_at k)) (starts_at i)) (nat_lt (levels_at (root_at k)) (levels_at i)) has in
        let more = ltb-true (levels_at (root_at k)) (levels_at i) both.1 in
        let known = ltb-true k 94 sound in
        let within = root-within k known in
        sym (rule_on ed levels (levels - 1) i (root_at k) fits k f e (omega (arith, more, deep)) (root-says k known))
        ∙ below_it (levels - 1) (root_at k) within (omega (arith, within, more, deep)) (omega (arith, more, deep)) (lacks i (root_at k) both.0 out)

  misses_from : (fuel levels i : ℕ) → i < 1564 → levels * 2000 + (1564 - i) < fuel → MissesAt levels i
  misses_from zero levels i fits less deep out = absurd (omega (arith, less))
  misses_from (suc fuel) levels i fits less deep out =
      by_node levels i fits deep out (λ l j within fewer. misses_from fuel l j within (omega (arith, less, fewer))) (node_at i) refl (node-sound i fits) (node-start i fits)

  -- so what the table says of a node holds
  pub starts_miss : (levels i c : ℕ) → i < 1564 → levels_at i ≤ levels → c ≡ class_of f → bit_and (starts_at i / 2 ^ c) 1 ≡ 0 → comes_at ed levels i f ≡ Misses
  starts_miss levels i c fits deep same out =
      misses_from (suc (levels * 2000 + (1564 - i))) levels i fits (omega arith) deep
      (ap (bit_at (starts_at i)) (sym same) ∙ sym (shr_and_one (starts_at i) c) ∙ out)
