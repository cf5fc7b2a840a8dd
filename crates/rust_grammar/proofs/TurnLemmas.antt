-- One turn of the interpreter, node by node.
use Rattle.std.proofs.Common.{◌≡◌, ℕ, suc, zero, ◌+◌, ◌≤◌, ◌<◌, Bool, true, false, not, ◌&&◌, List, [], ◌∷◌, refl, sym, ap, ◌∙◌, subst, arith}
use Rattle.std.specs.Prelude.{nat_lt}
use Rattle.std.proofs.lemmas.Bool.{and_parts}
use Rattle.tt_data.specs.Forest.{Forest, empty, size}
use Rattle.tt_data.specs.declared.edition.Edition.{Edition}
use Rattle.rust_grammar.specs.Answer.{rules_to}
use Rattle.rust_grammar.specs.Expressions.{Expression, token, since, ◌⨾◌, ◌∣◌, many, maybe, surely, unless, rule, Taking, otherwise, next_round, taken}
use Rattle.rust_grammar.specs.Frames.{Frame, frame, has_room, behind, behind_frame, behind_all, if_fits, if_misses, turns_of_rounds, turns, turns_to, turns_at, turns_behind, turns_behind_all}
use Rattle.rust_grammar.specs.Names.{Name}
use Rattle.rust_grammar.specs.Passing.{least}
use Rattle.rust_grammar.specs.Rules.{says}
use Rattle.rust_grammar.specs.Table.{at, stands, expressions, expression_at, node_at, name_at, comes_at}
use Rattle.rust_grammar.specs.Turns.{on, comes_in, turns_in, turns_left, IsWithin, GoesOn, IsAsGood, IsOption}
use Rattle.rust_grammar.specs.declared.node.At.{At}
use Rattle.rust_grammar.specs.declared.node.Node.{Node}
use Rattle.rust_grammar.specs.declared.node.Node.TheVariants as node
use Rattle.rust_grammar.specs.declared.outcome.Outcome.{Outcome}
use Rattle.rust_grammar.specs.declared.outcome.Outcome.TheVariants.{Fits, Misses, Faults}
use Rattle.rust_grammar.specs.declared.parts.Turn.{Turn}
use Rattle.rust_grammar.specs.declared.parts.Turn.TheVariants as turn
use Rattle.rust_grammar.specs.declared.table.TheConstants.{NODES}
use Rattle.rust_grammar.proofs.OutcomeLemmas.{is_finite, Shrinks, shrinks, many_on}
use Rattle.rust_grammar.proofs.StepLemmas.{then_comes, then_fits, or_comes, or_misses, many_comes, maybe_comes, surely_comes, unless_comes, rule_on, rounds_end, rounds_fault}
use Rattle.rust_grammar.proofs.TableLemmas.{node-stands}

-- ---- repetitions of the table take a token in each round

abbrev all_finite : List Expression → Bool
all_finite [] = true
all_finite (e ∷ es) = is_finite e && all_finite es

nodes_finite : all_finite (expressions NODES) ≡ true
unfolding name_at
nodes_finite = refl

finite_in : (es : List Expression) (k : ℕ) → all_finite es ≡ true → is_finite (at es k) ≡ true
finite_in [] k all = refl
finite_in (e ∷ es) zero all = (and_parts (is_finite e) (all_finite es) all).0
finite_in (e ∷ es) (suc k) all = finite_in es k (and_parts (is_finite e) (all_finite es) all).1

node_finite : (i : ℕ) → is_finite (expression_at i) ≡ true
unfolding expression_at
node_finite i = finite_in (expressions NODES) i nodes_finite

-- ---- turns of rounds

fits_more : (a b : Forest → ℕ) → ((g : Forest) → a g ≤ b g) → (o : Outcome) → if_fits a o ≤ if_fits b o
fits_more a b less (Fits g) = less g
fits_more a b less Misses = omega arith
fits_more a b less Faults = omega arith

some_round : (k : ℕ) (n : Forest → ℕ) (p : Taking) (f : Forest) → 1 ≤ turns_of_rounds k n p f
some_round zero n p f = omega arith
some_round (suc k) n p f = omega arith

more_rounds : (j k : ℕ) → j ≤ k → (n : Forest → ℕ) (p : Taking) (f : Forest) → turns_of_rounds j n p f ≤ turns_of_rounds k n p f
more_rounds zero k less n p f = some_round k n p f
more_rounds (suc j) zero less n p f = absurd (omega (arith, less))
more_rounds (suc j) (suc k) less n p f =
    let each = fits_more (turns_of_rounds j n p) (turns_of_rounds k n p) (λ g. more_rounds j k (omega (arith, less)) n p g) (p f) in
    omega (arith, each)

some_turn : (ed : Edition) (r : Name → Taking) (n : Name → Forest → ℕ) (e : Expression) (f : Forest) → 1 ≤ turns ed r n e f
some_turn ed r n (token t) f = omega arith
some_turn ed r n (since first) f = omega arith
some_turn ed r n (a ⨾ b) f = omega arith
some_turn ed r n (a ∣ b) f = omega arith
some_turn ed r n (many a) f = some_round (suc (size f)) (turns ed r n a) (taken ed r a) f
some_turn ed r n (maybe a) f = omega arith
some_turn ed r n (surely a) f = omega arith
some_turn ed r n (unless a) f = omega arith
some_turn ed r n (rule k) f = omega arith

-- ---- turns of a node

module _ (ed : Edition) (here : At) (fits : here.place < 1564) where
  -- what comes so many nodes further on, and its turns
  abbrev part : ℕ → Taking
  part n f = comes_at ed here.levels (here.place + n) f

  abbrev cost : ℕ → Forest → ℕ
  cost n f = turns_at ed here.levels (here.place + n) f

  abbrev whole : Taking
  whole f = comes_at ed here.levels here.place f

  abbrev all : Forest → ℕ
  all f = turns_at ed here.levels here.place f

  turns_step : (n : Node) (f : Forest) → n ≡ node_at here.place →
      all f ≡ turns ed (rules_to ed here.levels) (turns_to ed here.levels) (stands n (λ m. expression_at (here.place + m))) f
  turns_step n f e =
      ap (λ x. turns ed (rules_to ed here.levels) (turns_to ed here.levels) x f)
      (node-stands here.place fits ∙ ap (λ k. stands k (λ m. expression_at (here.place + m))) (sym e))

  then_turns : (k : ℕ) (f : Forest) → node.Then k ≡ node_at here.place → all f ≡ 2 + (cost 1 f + if_fits (cost k) (part 1 f))
  then_turns k f e = turns_step (node.Then k) f e

  or_turns : (k : ℕ) (f : Forest) → node.Or k ≡ node_at here.place → all f ≡ 2 + (cost 1 f + if_misses (cost k f) (part 1 f))
  or_turns k f e = turns_step (node.Or k) f e

  maybe_turns : (f : Forest) → node.Maybe ≡ node_at here.place → all f ≡ 2 + cost 1 f
  maybe_turns f e = turns_step node.Maybe f e

  surely_turns : (f : Forest) → node.Surely ≡ node_at here.place → all f ≡ 2 + cost 1 f
  surely_turns f e = turns_step node.Surely f e

  unless_turns : (f : Forest) → node.Unless ≡ node_at here.place → all f ≡ 2 + cost 1 f
  unless_turns f e = turns_step node.Unless f e

  -- ---- repetitions

  many_shrinks : node.Many ≡ node_at here.place → Shrinks (part 1)
  many_shrinks e =
      let is : expression_at here.place ≡ many (expression_at (here.place + 1)) =
      node-stands here.place fits ∙ ap (λ k. stands k (λ m. expression_at (here.place + m))) (sym e) in
      let finite : (nat_lt 0 (least (expression_at (here.place + 1))) && is_finite (expression_at (here.place + 1))) ≡ true = ap is_finite (sym is) ∙ node_finite here.place in
      shrinks ed here.levels (expression_at (here.place + 1)) (and_parts (nat_lt 0 (least (expression_at (here.place + 1)))) (is_finite (expression_at (here.place + 1))) finite).0

  pub many_again : (f : Forest) (o : Outcome) → node.Many ≡ node_at here.place → o ≡ part 1 f → next_round whole o f ≡ whole f
  many_again f (Fits g) e first =
      sym (many_comes ed here.levels here.place fits g e)
      ∙ sym (many_on (part 1) (many_shrinks e) f g (sym first))
      ∙ many_comes ed here.levels here.place fits f e
  many_again f Misses e first = rounds_end (suc (size f)) (size f) (part 1) f refl first ∙ many_comes ed here.levels here.place fits f e
  many_again f Faults e first = rounds_fault (suc (size f)) (size f) (part 1) f refl first ∙ many_comes ed here.levels here.place fits f e

  many_turns : (f : Forest) → node.Many ≡ node_at here.place → all f ≡ turns_of_rounds (suc (size f)) (cost 1) (part 1) f
  many_turns f e = turns_step node.Many f e

  many_fewer : (f : Forest) (o : Outcome) → node.Many ≡ node_at here.place → o ≡ part 1 f → 2 + (cost 1 f + if_fits all o) ≤ all f
  many_fewer f (Fits g) e first =
      let less = many_shrinks e f g (sym first) in
      let more = more_rounds (suc (size g)) (size f) (omega (arith, less)) (cost 1) (part 1) g in
      let there = many_turns g e in
      let here_is = many_turns f e in
      let same : if_fits (turns_of_rounds (size f) (cost 1) (part 1)) (part 1 f) ≡ turns_of_rounds (size f) (cost 1) (part 1) g = ap (if_fits (turns_of_rounds (size f) (cost 1) (part 1))) (sym first) in
      omega (arith, more, there, here_is, same)
  many_fewer f Misses e first = (let here_is = many_turns f e in omega (arith, here_is))
  many_fewer f Faults e first = (let here_is = many_turns f e in omega (arith, here_is))

  -- ---- a turn

  module _ (old : List Frame) where
    -- what comes of the node is known
    pub came : (f : Forest) (o : Outcome) → o ≡ whole f → GoesOn ed (turn.Node here f) old (turn.Came o) old
    came f o e = record {
      same = ap (behind_all ed old) e;
      fewer = (let some = some_turn ed (rules_to ed here.levels) (turns_to ed here.levels) (expression_at here.place) f in let left = ap (turns_behind_all ed old) e in omega (arith, some, left));
      within = tt;
    }

    -- another node is read in its place
    pub moved : (to : At) (f g : Forest) → to.place < 1564 → comes_at ed to.levels to.place g ≡ whole f → suc (turns_at ed to.levels to.place g) ≤ all f →
        GoesOn ed (turn.Node here f) old (turn.Node to g) old
    moved to f g within e less = record {
      same = ap (behind_all ed old) e;
      fewer = (let left = ap (turns_behind_all ed old) e in omega (arith, less, left));
      within = within;
    }

    -- it is opened
    opens : (keeps : Bool) (trees f : Forest) (n : Node) → n ≡ node_at here.place → here.place + 1 < 1564 → behind ed (frame here keeps trees) n (part 1 f) ≡ whole f →
        2 + (cost 1 f + turns_behind ed (frame here keeps trees) n (part 1 f)) ≤ all f → GoesOn ed (turn.Node here f) old (turn.Node (on here 1) f) (frame here keeps trees ∷ old)
    opens keeps trees f n e within comes less =
        let fr = frame here keeps trees in
        let o : Outcome = part 1 f in
        let same : behind_frame ed fr o ≡ whole f = ap (λ k. behind ed fr k o) (sym e) ∙ comes in
        let left = ap (turns_behind_all ed old) same in
        let turns_there = ap (λ k. turns_behind ed fr k o) e in
        record {
          same = ap (behind_all ed old) same;
          fewer = omega (arith, less, left, turns_there);
          within = within;
        }

    pub then_opens : (k : ℕ) (f : Forest) → node.Then k ≡ node_at here.place → here.place + 1 < 1564 → GoesOn ed (turn.Node here f) old (turn.Node (on here 1) f) (frame here false empty ∷ old)
    then_opens k f e within = (let t = then_turns k f e in opens false empty f (node.Then k) e within (then_comes ed here.levels here.place fits k f (part 1 f) e refl) (omega (arith, t)))

    pub or_opens : (k : ℕ) (f : Forest) → node.Or k ≡ node_at here.place → here.place + 1 < 1564 → GoesOn ed (turn.Node here f) old (turn.Node (on here 1) f) (frame here true f ∷ old)
    or_opens k f e within = (let t = or_turns k f e in opens true f f (node.Or k) e within (or_comes ed here.levels here.place fits k f (part 1 f) e refl) (omega (arith, t)))

    pub many_opens : (f : Forest) → node.Many ≡ node_at here.place → here.place + 1 < 1564 → GoesOn ed (turn.Node here f) old (turn.Node (on here 1) f) (frame here true f ∷ old)
    many_opens f e within = opens true f f node.Many e within (many_again f (part 1 f) e refl) (many_fewer f (part 1 f) e refl)

    pub maybe_opens : (f : Forest) → node.Maybe ≡ node_at here.place → here.place + 1 < 1564 → GoesOn ed (turn.Node here f) old (turn.Node (on here 1) f) (frame here true f ∷ old)
    maybe_opens f e within = (let t = maybe_turns f e in opens true f f node.Maybe e within (maybe_comes ed here.levels here.place fits f (part 1 f) e refl) (omega (arith, t)))

    pub surely_opens : (f : Forest) → node.Surely ≡ node_at here.place → here.place + 1 < 1564 → GoesOn ed (turn.Node here f) old (turn.Node (on here 1) f) (frame here false empty ∷ old)
    surely_opens f e within = (let t = surely_turns f e in opens false empty f node.Surely e within (surely_comes ed here.levels here.place fits f (part 1 f) e refl) (omega (arith, t)))

    pub unless_opens : (f : Forest) → node.Unless ≡ node_at here.place → here.place + 1 < 1564 → GoesOn ed (turn.Node here f) old (turn.Node (on here 1) f) (frame here true f ∷ old)
    unless_opens f e within = (let t = unless_turns f e in opens true f f node.Unless e within (unless_comes ed here.levels here.place fits f (part 1 f) e refl) (omega (arith, t)))

    -- ---- the first part is known at once

    pub then_goes : (k : ℕ) (f g : Forest) → node.Then k ≡ node_at here.place → here.place + k < 1564 → Fits g ≡ part 1 f → GoesOn ed (turn.Node here f) old (turn.Node (on here k) g) old
    then_goes k f g e within first =
        let t = then_turns k f e in
        let same : if_fits (cost k) (part 1 f) ≡ cost k g = ap (if_fits (cost k)) (sym first) in
        moved (on here k) f g within (then_fits ed here.levels here.place fits k f g e first) (omega (arith, t, same))

    pub or_goes : (k : ℕ) (f : Forest) → node.Or k ≡ node_at here.place → here.place + k < 1564 → Misses ≡ part 1 f → GoesOn ed (turn.Node here f) old (turn.Node (on here k) f) old
    or_goes k f e within first =
        let t = or_turns k f e in
        let same : if_misses (cost k f) (part 1 f) ≡ cost k f = ap (if_misses (cost k f)) (sym first) in
        moved (on here k) f f within (or_misses ed here.levels here.place fits k f e first) (omega (arith, t, same))

    -- the second part misses, so the first decides
    otherwise_misses : (q : Taking) (f : Forest) → q f ≡ Misses → (o : Outcome) → o ≡ otherwise o q f
    otherwise_misses q f e (Fits g) = refl
    otherwise_misses q f e Misses = sym e
    otherwise_misses q f e Faults = refl

    pub or_first : (k : ℕ) (f : Forest) → node.Or k ≡ node_at here.place → here.place + 1 < 1564 → part k f ≡ Misses → GoesOn ed (turn.Node here f) old (turn.Node (on here 1) f) old
    or_first k f e within second =
        let t = or_turns k f e in
        moved (on here 1) f f within (otherwise_misses (part k) f second (part 1 f) ∙ or_comes ed here.levels here.place fits k f (part 1 f) e refl) (omega (arith, t))

    pub many_goes : (f g : Forest) → node.Many ≡ node_at here.place → Fits g ≡ part 1 f → GoesOn ed (turn.Node here f) old (turn.Node here g) old
    many_goes f g e first = (let less = many_fewer f (Fits g) e first in moved here f g fits (many_again f (Fits g) e first) (omega (arith, less)))

    pub rule_goes : (k levels : ℕ) (to : At) (f : Forest) → node.Rule k ≡ node_at here.place → here.levels ≡ suc levels → to.levels ≡ levels → to.place < 1564 →
        expression_at to.place ≡ says (name_at k) → GoesOn ed (turn.Node here f) old (turn.Node to f) old
    rule_goes k levels to f e some there within says_so =
        let same : comes_at ed to.levels to.place f ≡ whole f = rule_on ed here.levels to.levels here.place to.place fits k f e (some ∙ ap suc (sym there)) says_so in
        let one : all f ≡ 1 + turns_to ed here.levels (name_at k) f = turns_step (node.Rule k) f e in
        let deeper : turns_to ed here.levels (name_at k) f ≡ turns_at ed to.levels to.place f =
        ap (λ n. turns_to ed n (name_at k) f) (some ∙ ap suc (sym there)) ∙ ap (λ x. turns ed (rules_to ed to.levels) (turns_to ed to.levels) x f) (sym says_so) in
        moved to f f within same (omega (arith, one, deeper))

-- ---- nodes that are passed

-- past an alternative that misses
pub passes_or : (first at : At) (k : ℕ) (f : Forest) → at.place < 1564 → at.place + k < 1564 → node.Or k ≡ node_at at.place → ((ed : Edition) → comes_at ed at.levels (at.place + 1) f ≡ Misses) →
    IsAsGood first f at → IsAsGood first f (on at k)
passes_or first here k f fits within e missed is = record {
  within = within;
  same = λ ed. or_misses ed here.levels here.place fits k f e (sym (missed ed)) ∙ is.same ed;
  fewer = λ ed.
      let t = or_turns ed here fits k f e in
      let same : if_misses (turns_at ed here.levels (here.place + k) f) (comes_at ed here.levels (here.place + 1) f) ≡ turns_at ed here.levels (here.place + k) f =
      ap (if_misses (turns_at ed here.levels (here.place + k) f)) (missed ed) in
      let less = is.fewer ed in
      omega (arith, t, same, less);
}

-- into a rule
pub passes_rule : (first here to : At) (k : ℕ) (f : Forest) → here.place < 1564 → node.Rule k ≡ node_at here.place → here.levels ≡ suc to.levels → to.place < 1564 →
    expression_at to.place ≡ says (name_at k) → IsAsGood first f here → IsAsGood first f to
passes_rule first here to k f fits e some within says_so is = record {
  within = within;
  same = λ ed. rule_on ed here.levels to.levels here.place to.place fits k f e some says_so ∙ is.same ed;
  fewer = λ ed.
      let one : turns_at ed here.levels here.place f ≡ 1 + turns_to ed here.levels (name_at k) f = turns_step ed here fits (node.Rule k) f e in
      let deeper : turns_to ed here.levels (name_at k) f ≡ turns_at ed to.levels to.place f =
      ap (λ n. turns_to ed n (name_at k) f) some ∙ ap (λ x. turns ed (rules_to ed to.levels) (turns_to ed to.levels) x f) (sym says_so) in
      let less = is.fewer ed in
      omega (arith, one, deeper, less);
}

pub itself : (first : At) (f : Forest) → first.place < 1564 → IsAsGood first f first
itself first f within = record { within = within; same = λ ed. refl; fewer = λ ed. omega arith }

-- a turn of a node that is as good is one of the first
pub sooner : (ed : Edition) (first next : At) (f : Forest) (old : List Frame) (t : Turn) (new : List Frame) → IsAsGood first f next → GoesOn ed (turn.Node next f) old t new →
    GoesOn ed (turn.Node first f) old t new
sooner ed first next f old t new is goes =
    let left = ap (turns_behind_all ed old) (is.same ed) in
    let less = is.fewer ed in
    let fewer = goes.fewer in
    record { same = goes.same ∙ ap (behind_all ed old) (is.same ed); fewer = omega (arith, left, less, fewer); within = goes.within }

-- what may be left out is, where its part misses
pub left_out : (ed : Edition) (here : At) (f : Forest) (n : Node) → n ≡ node_at here.place → here.place < 1564 → IsOption n → comes_at ed here.levels (here.place + 1) f ≡ Misses →
    Fits f ≡ comes_at ed here.levels here.place f
left_out ed here f node.Many e fits is missed = rounds_end (suc (size f)) (size f) (comes_at ed here.levels (here.place + 1)) f refl (sym missed) ∙ many_comes ed here.levels here.place fits f e
left_out ed here f node.Maybe e fits is missed = maybe_comes ed here.levels here.place fits f Misses e (sym missed)
left_out ed here f (node.Token t) e fits is missed = absurd is
left_out ed here f (node.Since first) e fits is missed = absurd is
left_out ed here f (node.Then k) e fits is missed = absurd is
left_out ed here f (node.Or k) e fits is missed = absurd is
left_out ed here f node.Surely e fits is missed = absurd is
left_out ed here f node.Unless e fits is missed = absurd is
left_out ed here f (node.Rule k) e fits is missed = absurd is

-- ---- behind an open node

pub leaves : (ed : Edition) (fr : Frame) (old : List Frame) (o : Outcome) (t : Turn) (n : Node) → n ≡ node_at fr.at.place → comes_in ed t ≡ behind ed fr n o →
    turns_in ed t ≤ turns_behind ed fr n o → IsWithin t → GoesOn ed (turn.Came o) (fr ∷ old) t old
leaves ed fr old o t n e comes less within =
    let same : comes_in ed t ≡ behind_frame ed fr o = comes ∙ ap (λ k. behind ed fr k o) e in
    let left = ap (turns_behind_all ed old) same in
    let turns_there = ap (λ k. turns_behind ed fr k o) e in
    record {
      same = ap (behind_all ed old) same;
      fewer = omega (arith, less, left, turns_there);
      within = within;
    }

pub as_turn : (ed : Edition) (a : Turn) (old : List Frame) (b : Turn) (new : List Frame) (c : Turn) (others : List Frame) → c ≡ b → others ≡ new → GoesOn ed a old b new →
    GoesOn ed a old c others
as_turn ed a old b new c others e same goes = subst (λ t. GoesOn ed a old t others) (sym e) (subst (λ l. GoesOn ed a old b l) (sym same) goes)

-- ---- the loop

-- where there is no more room, a node takes fewer turns than all
pub fewer_inside : (ed : Edition) (here : At) (f : Forest) (t : Turn) (frs : List Frame) → t ≡ turn.Node here f → true ≡ not (has_room frs) →
    turns_at ed here.levels here.place f < turns_left ed t frs
fewer_inside ed here f t [] e full = absurd cc
fewer_inside ed here f t (fr ∷ frs) e full = (let left = ap (λ x. turns_left ed x (fr ∷ frs)) e in omega (arith, left))

-- a node that is read is one of the table
pub within_node : (here : At) (f : Forest) (t : Turn) → t ≡ turn.Node here f → IsWithin t → here.place < 1564
within_node here f t e within = subst IsWithin e within

pub still : (ed : Edition) (o : Outcome) (most : ℕ) (t : Turn) (frs : List Frame) (u : Turn) (others : List Frame) → behind_all ed frs (comes_in ed t) ≡ o → turns_left ed t frs ≤ most →
    GoesOn ed t frs u others → (behind_all ed others (comes_in ed u) ≡ o) × (turns_left ed u others ≤ most) × IsWithin u
still ed o most t frs u others same fewer goes = (goes.same ∙ same, (let less = goes.fewer in omega (arith, less, fewer)), goes.within)

pub begins : (ed : Edition) (here : At) (f g : Forest) (frs : List Frame) → frs ≡ [] → g ≡ f → here.place < 1564 →
    (behind_all ed frs (comes_at ed here.levels here.place g) ≡ comes_at ed here.levels here.place f)
    × (turns_left ed (turn.Node here g) frs ≤ turns_at ed here.levels here.place f)
    × (here.place < 1564)
begins ed here f g frs none same within =
    let all = ap (turns_left ed (turn.Node here g)) none in
    let those = ap (turns_at ed here.levels here.place) same in (
      ap (λ l. behind_all ed l (comes_at ed here.levels here.place g)) none ∙ ap (comes_at ed here.levels here.place) same,
      omega (arith, all, those),
      within,
    )

pub from_turn : (ed : Edition) (t u : Turn) (frs more : List Frame) (v : Turn) (others : List Frame) → t ≡ u → frs ≡ more → GoesOn ed u more v others → GoesOn ed t frs v others
from_turn ed t u frs more v others e same goes = subst (λ x. GoesOn ed x frs v others) (sym e) (subst (λ l. GoesOn ed u l v others) (sym same) goes)

pub ended : (ed : Edition) (t : Turn) (found o : Outcome) (frs : List Frame) → t ≡ turn.Came found → frs ≡ [] → behind_all ed frs (comes_in ed t) ≡ o → found ≡ o
ended ed t found o frs e none same = sym (ap (λ l. behind_all ed l (comes_in ed t)) none ∙ ap (comes_in ed) e) ∙ same

-- turns, and one more
pub one_more : (ed : Edition) (t : Turn) (old : List Frame) (u : Turn) (frs : List Frame) (v : Turn) (new : List Frame) → behind_all ed frs (comes_in ed u) ≡ behind_all ed old (comes_in ed t) →
    turns_left ed u frs ≤ turns_left ed t old → GoesOn ed u frs v new → GoesOn ed t old v new
one_more ed t old u frs v new same less goes = (let fewer = goes.fewer in record { same = goes.same ∙ same; fewer = omega (arith, less, fewer); within = goes.within })

pub still_full : (b : Bool) → false ≡ not b → b ≡ true
still_full true e = refl
still_full false e = absurd cc
