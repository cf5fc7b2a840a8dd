-- The table of nodes stands for the rules.
use Rattle.std.proofs.Common.{◌≡◌, ℕ, suc, zero, ◌+◌, ◌-◌, ◌≤◌, ◌<◌, Bool, true, false, ◌&&◌, ◌||◌, List, [], ◌∷◌, length, get_or, drop, map, refl, sym, ap, ◌∙◌, subst, arith}
use Rattle.std.specs.Prelude.{nat_lt, Some, None, slice_get}
use Rattle.std.proofs.lemmas.Bool.{and_parts, ltb-true}
use Rattle.std.proofs.lemmas.List.{get_or-map, get_or-drop}
use Rattle.std.proofs.lemmas.Option.{get_or_from_slice_get}
use Rattle.std.specs.List.{list_any}
use Rattle.tt_data.specs.Forest.{Forest}
use Rattle.tt_data.specs.declared.edition.Edition.{Edition}
use Rattle.small_grammar.specs.Text.{◌>>◌}
use Rattle.small_grammar.specs.Tokens.{same_operator, spells, is_one_of_words, first_operator, passing}
use Rattle.small_grammar.specs.declared.units.Operator.{Operator}
use Rattle.small_grammar.specs.declared.units.Operator.TheVariants.{One, Two, Three}
use Rattle.rust_grammar.specs.Expressions.{Expression, token, ◌⨾◌, ◌∣◌, many, maybe, surely, unless}
use Rattle.rust_grammar.specs.Names.{names, entry_visibility}
use Rattle.rust_grammar.specs.Rules.{says}
use Rattle.rust_grammar.specs.Table.{at, stands, expressions, expression_at, node_at, root_at, name_at, set_texts, word_text, letters, is_sound}
use Rattle.rust_grammar.specs.Tokens.{a_name, one_of, token_at}
use Rattle.rust_grammar.specs.declared.node.Node.{Node}
use Rattle.rust_grammar.specs.declared.node.Node.TheVariants as node
use Rattle.rust_grammar.specs.declared.table.TheConstants.{NODES, ROOTS}

-- ---- what is computed

nodes_long : length NODES ≡ 1564
nodes_long = refl

abbrev all_sound : ℕ → List Node → Bool
all_sound i [] = true
all_sound i (n ∷ ns) = is_sound i n && all_sound (suc i) ns

nodes_sound : all_sound 0 NODES ≡ true
nodes_sound = refl

-- the table is the rules
roots_say : map (at (expressions NODES)) ROOTS ≡ map says names
unfolding name_at set_texts word_text
roots_say = refl

abbrev all_within : List ℕ → Bool
all_within [] = true
all_within (n ∷ ns) = nat_lt n 1564 && all_within ns

roots_in : all_within ROOTS ≡ true
roots_in = refl

-- ---- nodes

sound_at : (i j : ℕ) (ns : List Node) → j < length ns → all_sound i ns ≡ true → is_sound (i + j) (get_or ns j node.Many) ≡ true
sound_at i j [] fits e = absurd (omega (arith, fits))
sound_at i zero (n ∷ ns) fits e = (let same : i + 0 ≡ i = omega arith in rw same (and_parts (is_sound i n) (all_sound (suc i) ns) e).0)
sound_at i (suc j) (n ∷ ns) fits e =
    let same : i + suc j ≡ suc i + j = omega arith in
    rw same (sound_at (suc i) j ns (omega (arith, fits)) (and_parts (is_sound i n) (all_sound (suc i) ns) e).1)

pub node-sound : (i : ℕ) → i < 1564 → is_sound i (node_at i) ≡ true
unfolding node_at
node-sound i fits = (let same : 0 + i ≡ i = omega arith in subst (λ k. is_sound k (get_or NODES i node.Many) ≡ true) same (sound_at 0 i NODES (omega (arith, fits, nodes_long)) nodes_sound))

stands_at : (ns : List Node) (i : ℕ) → i < length ns → at (expressions ns) i ≡ stands (get_or ns i node.Many) (λ m. at (drop (suc i) (expressions ns)) (m - 1))
stands_at [] i fits = absurd (omega (arith, fits))
stands_at (n ∷ ns) zero fits = refl
stands_at (n ∷ ns) (suc i) fits = stands_at ns i (omega (arith, fits))

above_one : (i n : ℕ) → (nat_lt 1 n && nat_lt (i + n) 1564) ≡ true → 1 ≤ n
above_one i zero e = absurd cc
above_one i (suc n) e = omega arith

stands_same : (i : ℕ) (n : Node) (p q : ℕ → Expression) → is_sound i n ≡ true → ((m : ℕ) → 1 ≤ m → p m ≡ q m) → stands n p ≡ stands n q
stands_same i (node.Token t) p q sound same = refl
stands_same i (node.Since first) p q sound same = refl
stands_same i (node.Then n) p q sound same = ap (λ e. e ⨾ p n) (same 1 (omega arith)) ∙ ap (λ e. q 1 ⨾ e) (same n (above_one i n sound))
stands_same i (node.Or n) p q sound same = ap (λ e. e ∣ p n) (same 1 (omega arith)) ∙ ap (λ e. q 1 ∣ e) (same n (above_one i n sound))
stands_same i node.Many p q sound same = ap many (same 1 (omega arith))
stands_same i node.Maybe p q sound same = ap maybe (same 1 (omega arith))
stands_same i node.Surely p q sound same = ap surely (same 1 (omega arith))
stands_same i node.Unless p q sound same = ap unless (same 1 (omega arith))
stands_same i (node.Rule k) p q sound same = refl

part_at : (es : List Expression) (i m : ℕ) → 1 ≤ m → at (drop (suc i) es) (m - 1) ≡ at es (i + m)
part_at es i m one =
    let same : suc i + (m - 1) ≡ i + m = omega (arith, one) in
    get_or-drop (suc i) es (m - 1) (token a_name) ∙ ap (at es) same

-- a node stands for an expression made of those of the nodes further on
pub node-stands : (i : ℕ) → i < 1564 → expression_at i ≡ stands (node_at i) (λ m. expression_at (i + m))
unfolding node_at expression_at
node-stands i fits =
    stands_at NODES i (omega (arith, fits, nodes_long))
    ∙ stands_same i (get_or NODES i node.Many) (λ m. at (drop (suc i) (expressions NODES)) (m - 1)) (λ m. at (expressions NODES) (i + m)) (node-sound i fits)
    (λ m one. part_at (expressions NODES) i m one)

-- ---- rules

pub root-says : (k : ℕ) → k < 94 → expression_at (root_at k) ≡ says (name_at k)
unfolding expression_at root_at name_at
root-says k fits =
    sym (get_or-map (at (expressions NODES)) ROOTS k 0 (token a_name) fits)
    ∙ ap (λ es. get_or es k (token a_name)) roots_say
    ∙ get_or-map says names k entry_visibility (token a_name) fits

within_at : (ns : List ℕ) (k : ℕ) → k < length ns → all_within ns ≡ true → get_or ns k 0 < 1564
within_at [] k fits e = absurd (omega (arith, fits))
within_at (n ∷ ns) zero fits e = ltb-true n 1564 (and_parts (nat_lt n 1564) (all_within ns) e).0
within_at (n ∷ ns) (suc k) fits e = within_at ns k (omega (arith, fits)) (and_parts (nat_lt n 1564) (all_within ns) e).1

pub root-within : (k : ℕ) → k < 94 → root_at k < 1564
unfolding root_at
root-within k fits = within_at ROOTS k fits roots_in

-- ---- what is read of the tables

pub root-read : (k n : ℕ) → slice_get ROOTS k ≡ Some n → root_at k ≡ n
unfolding root_at
root-read k n e = get_or_from_slice_get ROOTS k n 0 e

pub node-read : (k : ℕ) (n : Node) → slice_get NODES k ≡ Some n → n ≡ node_at k
unfolding node_at
node-read k n e = sym (get_or_from_slice_get NODES k n node.Many e)

or-false : (b : Bool) → (b || false) ≡ b
or-false true = refl
or-false false = refl

pub element-read : {A B : Type 0} → (show : A → B) (xs : List A) (k : ℕ) (x : A) (d : B) → k < length xs → slice_get xs k ≡ Some x → show x ≡ get_or (map show xs) k d
element-read show xs k x d fits e = sym (get_or-map show xs k x d fits ∙ ap show (get_or_from_slice_get xs k x x e))

-- ---- sets of operators

spells-letters : (o op : Operator) → spells (letters o) op ≡ same_operator o op
spells-letters (One a) op = refl
spells-letters (Two a b) op = refl
spells-letters (Three a b c) op = refl

-- a set has an operator if one of its texts spells it
pub among-letters : (ops : List Operator) (op : Operator) → list_any (λ known. same_operator known op) ops ≡ is_one_of_words (map letters ops) op
among-letters [] op = refl
among-letters (o ∷ []) op = or-false (same_operator o op) ∙ sym (spells-letters o op)
among-letters (o ∷ p ∷ ops) op =
    ap (λ b. same_operator o op || b) (among-letters (p ∷ ops) op)
    ∙ ap (λ b. b || is_one_of_words (map letters (p ∷ ops)) op) (sym (spells-letters o op))

-- an operator that is read is taken if a set has it
pub one-of : (ed : Edition) (ops : List Operator) (texts : List (List ℕ)) (f g : Forest) (op : Operator) (b : Bool) → map letters ops ≡ texts →
    first_operator f ≡ Some (op, g) → list_any (λ known. same_operator known op) ops ≡ b → (b >> Some g) ≡ token_at ed (one_of texts) f
unfolding token_at
one-of ed ops texts f g op b same e h =
    let s : is_one_of_words texts op ≡ b = ap (λ ts. is_one_of_words ts op) (sym same) ∙ sym (among-letters ops op) ∙ h in
    ap (λ c. c >> Some g) (sym s) ∙ ap (passing (is_one_of_words texts)) (sym e)

pub none-of : (ed : Edition) (texts : List (List ℕ)) (f : Forest) → first_operator f ≡ None → None ≡ token_at ed (one_of texts) f
unfolding token_at
none-of ed texts f e = ap (passing (is_one_of_words texts)) (sym e)
