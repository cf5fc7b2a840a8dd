-- The tokens of a text follow one another, and so do those of its pieces.
use Rattle.std.proofs.Common.{◌≡◌, ℕ, ◌+◌, ◌≤◌, List, [], ◌∷◌, ◌++◌, length, take, drop, map, refl, ◌∙◌, subst, arith, sum_by}
use Rattle.std.specs.Prelude.{All, chars}
use Rattle.std.proofs.lemmas.List.{length-drop, length-take-le}
use Rattle.std.proofs.lemmas.List.Elements.{All-append, All-cons, All-head, All-nil, All-tail}
use Rattle.std.proofs.lemmas.List.Sums.{sum_by-cons}
use Rattle.rustc_lexer.specs.Lexing.{tokens_of}
use Rattle.rustc_lexer.specs.declared.token.DocStyle.TheVariants.{Outer, Inner}
use Rattle.rustc_lexer.specs.declared.token.Token.{Token}
use Rattle.tt_data.proofs.ForestLemmas.{walk-joined}
use Rattle.tt_data.specs.Forest.{Forest, empty, leaf, group, head_of, joined, preorder, size}
use Rattle.tt_data.specs.Spans.{span_of}
use Rattle.tt_data.specs.Walk.{Step, closes, walk}
use Rattle.tt_data.specs.declared.tree.TokenTree.TheVariants as token
use Rattle.bridge.specs.declared.reading.classify.TokenClass.{TokenClass}
use Rattle.bridge.specs.declared.reading.classify.TokenClass.TheVariants.{Blank, Name, Mark, Opening, Closing, QuotedName, Doc, Value, Neither}
use Rattle.bridge.specs.Order.{AreFrom, FollowOneAnother}
use Rattle.bridge.specs.Pieces.{IsFrom, StandsBehindFirst, StandsFrom}
use Rattle.bridge.specs.Printing.{step_span}
use Rattle.bridge.specs.Reading.{IsReading, PlacedToken, TextStep, bad, placed_from, range_of, step, written_at}
use Rattle.bridge.specs.TokenSteps.{class_of, steps_of, steps_of_class, text_steps}

-- ---- what a text is read as, faults too

-- no step starts or ends before n, and none starts behind m
abbrev AreWithin : ℕ → ℕ → List TextStep → Type 0
AreWithin n m [] = Unit {0}
AreWithin n m (step s ∷ more) = IsFrom n (step_span s) × ((step_span s).range.start ≤ m) × AreWithin n m more
AreWithin n m (bad range ∷ more) = AreWithin n m more

abbrev AllFrom : ℕ → List TextStep → Type 0
AllFrom n [] = Unit {0}
AllFrom n (step s ∷ more) = IsFrom n (step_span s) × AllFrom n more
AllFrom n (bad range ∷ more) = AllFrom n more

abbrev Follow : List TextStep → Type 0
Follow [] = Unit {0}
Follow (step s ∷ more) = IsFrom (step_span s).range.start (step_span s) × AllFrom (step_span s).range.start more × Follow more
Follow (bad range ∷ more) = Follow more

from_weaker : (n m : ℕ) (ts : List TextStep) → n ≤ m → AllFrom m ts → AllFrom n ts
from_weaker n m [] le h = tt
from_weaker n m (step s ∷ more) le h = ((omega (arith, le, h.0.0), omega (arith, le, h.0.1)), from_weaker n m more le h.1)
from_weaker n m (bad range ∷ more) le h = from_weaker n m more le h

within_from : (n m : ℕ) (ts more : List TextStep) → AreWithin n m ts → AllFrom n more → AllFrom n (ts ++ more)
within_from n m [] more h k = k
within_from n m (step s ∷ ts) more h k = (h.0, within_from n m ts more h.2 k)
within_from n m (bad range ∷ ts) more h k = within_from n m ts more h k

both_from : (n : ℕ) (ts more : List TextStep) → AllFrom n ts → AllFrom n more → AllFrom n (ts ++ more)
both_from n [] more h k = k
both_from n (step s ∷ ts) more h k = (h.0, both_from n ts more h.1 k)
both_from n (bad range ∷ ts) more h k = both_from n ts more h k

both_follow : (n m : ℕ) (ts more : List TextStep) → AreWithin n m ts → Follow ts → AllFrom m more → Follow more → Follow (ts ++ more)
both_follow n m [] more h f k g = g
both_follow n m (step s ∷ ts) more h f k g =
    (f.0, both_from (step_span s).range.start ts more f.1 (from_weaker (step_span s).range.start m more h.1 k), both_follow n m ts more h.2 f.2 k g)
both_follow n m (bad range ∷ ts) more h f k g = both_follow n m ts more h f k g

-- ---- one token

le_refl : (n : ℕ) → n ≤ n
le_refl n = omega arith

ends_behind : (n k : ℕ) → n ≤ n + k
ends_behind n k = omega arith

one_within : (t : PlacedToken) → IsFrom t.start (written_at (range_of t)) × (t.start ≤ t.start + length t.text)
one_within t = ((le_refl t.start, ends_behind t.start (length t.text)), ends_behind t.start (length t.text))

class_within : (class : TokenClass) (t : PlacedToken) (more : List PlacedToken) → 1 ≤ length t.text → AreWithin t.start (t.start + length t.text) (steps_of_class class t more)
class_within Blank t more some = tt
class_within (Name raw) t more some = ((one_within t).0, (one_within t).1, tt)
class_within (Mark c) t more some = ((one_within t).0, (one_within t).1, tt)
class_within (Opening k) t more some = ((one_within t).0, (one_within t).1, tt)
class_within (Closing k) t more some = ((one_within t).0, (one_within t).1, tt)
class_within QuotedName t more some =
    ((le_refl t.start, omega arith), ends_behind t.start (length t.text), ((omega arith, omega arith), omega (arith, some), tt))
class_within (Doc Outer is_block) t more some =
    let at = (one_within t).0 in let le = (one_within t).1 in (at, le, (at, le, (at, le, (at, le, (at, le, (at, le, tt))))))
class_within (Doc Inner is_block) t more some =
    let at = (one_within t).0 in let le = (one_within t).1 in (at, le, (at, le, (at, le, (at, le, (at, le, (at, le, (at, le, tt)))))))
class_within (Value f at) t more some = ((one_within t).0, (one_within t).1, tt)
class_within Neither t more some = tt

class_follow : (class : TokenClass) (t : PlacedToken) (more : List PlacedToken) → 1 ≤ length t.text → Follow (steps_of_class class t more)
class_follow Blank t more some = tt
class_follow (Name raw) t more some = ((one_within t).0, tt, tt)
class_follow (Mark c) t more some = ((one_within t).0, tt, tt)
class_follow (Opening k) t more some = ((one_within t).0, tt, tt)
class_follow (Closing k) t more some = ((one_within t).0, tt, tt)
class_follow QuotedName t more some =
    ((le_refl t.start, omega arith), ((omega arith, omega arith), tt), ((omega arith, omega (arith, some)), tt, tt))
class_follow (Doc Outer is_block) t more some =
    let at = (one_within t).0 in
    (at, (at, (at, (at, (at, (at, tt))))), (at, (at, (at, (at, (at, tt)))), (at, (at, (at, (at, tt))), (at, (at, (at, tt)), (at, (at, tt), (at, tt, tt))))))
class_follow (Doc Inner is_block) t more some =
    let at = (one_within t).0 in
    (at, (at, (at, (at, (at, (at, (at, tt)))))), (at, (at, (at, (at, (at, (at, tt))))), (at, (at, (at, (at, (at, tt)))), (at, (at, (at, (at, tt))), (at, (at, (at, tt)), (at, (at, tt), (at, tt, tt)))))))
class_follow (Value f at) t more some = ((one_within t).0, tt, tt)
class_follow Neither t more some = tt

-- ---- all tokens

-- the tokens are as long as the text, and none is empty
record Cover (text : List ℕ) (ts : List Token) : Type 0 where
  long : sum_by (λ (t : Token). t.len) ts ≡ length text
  some : All (λ (t : Token). 1 ≤ t.len) ts

record Ordered (start : ℕ) (ts : List TextStep) : Type 0 where
  from : AllFrom start ts
  follow : Follow ts

ordered : (start : ℕ) (text : List ℕ) (ts : List Token) → Cover text ts → Ordered start (steps_of (placed_from start text ts))
ordered start text [] c = record { from = tt; follow = tt }
ordered start text (t ∷ more) c =
    let sum = sum_by-cons (λ (x : Token). x.len) t more ∙ refl in
    let within : t.len ≤ length text = omega (arith, c.long, sum) in
    let long : length (take t.len text) ≡ t.len = length-take-le t.len text within in
    let some : 1 ≤ length (take t.len text) = omega (arith, long, All-head (λ (x : Token). 1 ≤ x.len) t more c.some) in
    let rest : Cover (drop t.len text) more = record {
      long = omega (arith, c.long, sum, length-drop t.len text);
      some = All-tail (λ (x : Token). 1 ≤ x.len) t more c.some;
    } in
    let p : PlacedToken = record { kind = t.kind; start = start; text = take t.len text } in
    let others = placed_from (start + t.len) (drop t.len text) more in
    let behind = ordered (start + t.len) (drop t.len text) more rest in
    let end = start + length (take t.len text) in
    let here = class_within (class_of t.kind) p others some in
    let next : AllFrom end (steps_of others) = from_weaker end (start + t.len) (steps_of others) (omega (arith, long)) behind.from in
    record {
      from = within_from start end (steps_of_class (class_of t.kind) p others) (steps_of others) here (from_weaker start end (steps_of others) (omega arith) next);
      follow = both_follow start end (steps_of_class (class_of t.kind) p others) (steps_of others) here (class_follow (class_of t.kind) p others some) next behind.follow;
    }

steps_from : (n : ℕ) (ss : List Step) → AllFrom n (map step ss) → AreFrom n ss
steps_from n [] h = tt
steps_from n (s ∷ more) h = (h.0, steps_from n more h.1)

steps_follow : (ss : List Step) → Follow (map step ss) → FollowOneAnother ss
steps_follow [] h = tt
steps_follow (s ∷ more) h = (h.0, steps_from (step_span s).range.start more h.1, steps_follow more h.2)

pub text_follows : (text : List ℕ) (f : Forest) → sum_by (λ (t : Token). t.len) (tokens_of (chars text)) ≡ length text
    → All (λ (t : Token). 1 ≤ t.len) (tokens_of (chars text)) → IsReading (text_steps text) f → FollowOneAnother (walk f)
text_follows text f long some read =
    steps_follow (walk f) (subst Follow read (ordered 0 text (tokens_of (chars text)) (record { long = long; some = some })).follow)

-- ---- trees that stand side by side

first_from : (n : ℕ) (a b : List Step) → AreFrom n (a ++ b) → AreFrom n a
first_from n [] b h = tt
first_from n (s ∷ a) b h = (h.0, first_from n a b h.1)

last_from : (n : ℕ) (a b : List Step) → AreFrom n (a ++ b) → AreFrom n b
last_from n [] b h = h
last_from n (s ∷ a) b h = last_from n a b h.1

first_follow : (a b : List Step) → FollowOneAnother (a ++ b) → FollowOneAnother a
first_follow [] b h = tt
first_follow (s ∷ a) b h = (h.0, first_from (step_span s).range.start a b h.1, first_follow a b h.2)

last_follow : (a b : List Step) → FollowOneAnother (a ++ b) → FollowOneAnother b
last_follow [] b h = h
last_follow (s ∷ a) b h = last_follow a b h.2

pub part_follows : (before p after : Forest) → FollowOneAnother (walk (joined before (joined p after))) → FollowOneAnother (walk p)
part_follows before p after h =
    first_follow (walk p) (walk after)
    (subst FollowOneAnother (walk-joined p after)
    (last_follow (walk before) (walk (joined p after)) (subst FollowOneAnother (walk-joined before (joined p after)) h)))

trees_from : (n : ℕ) (f : Forest) → AreFrom n (walk f) → All (StandsFrom n) (preorder f)
trees_from n empty h = All-nil (StandsFrom n)
trees_from n (leaf l rest) h = All-cons (StandsFrom n) (token.Leaf l) (preorder rest) h.0 (trees_from n rest h.1)
trees_from n (group d inner rest) h =
    let last = last_from n (walk inner) (closes d.kind d.close_span ∷ walk rest) h.1 in
    All-cons (StandsFrom n) (head_of d (size inner)) (preorder inner ++ preorder rest) (h.0, last.0)
    (All-append (StandsFrom n) (preorder inner) (preorder rest)
    (trees_from n inner (first_from n (walk inner) (closes d.kind d.close_span ∷ walk rest) h.1)) (trees_from n rest last.1))

pub stands : (f : Forest) → FollowOneAnother (walk f) → StandsBehindFirst f
stands empty h = All-nil (StandsFrom 0)
stands (leaf l rest) h = trees_from (span_of l).range.start (leaf l rest) (h.0, h.1)
stands (group d inner rest) h = trees_from d.open_span.range.start (group d inner rest) (h.0, h.1)
